-- Bytes are one program, or are refused once, by the laws of the cut, of the grammar, of typing and of the rules.
use Rattle.std.proofs.Common.{arith, ◌≡◌, ◌≤◌, ◌<◌, List, ℕ, length, refl, sym, ap, subst, ◌∙◌}
use Rattle.c_syntax_written.specs.declared.place.Pos.{Pos}
use Rattle.c_syntax_written.specs.declared.token.Placed.{Placed}
use Rattle.c_syntax_written.specs.declared.token.Tokens.{Tokens}
use Rattle.c_syntax_written.specs.WrittenFile.{FileTree}
use Rattle.c_syntax.specs.Program.{TProgramTree}
use Rattle.c_lexer.specs.declared.reason.Reason.{Reason}
use Rattle.c_lexer.specs.Cut.{IsCut}
use Rattle.c_lexer.specs.Uncut.{IsUncut}
use Rattle.c_grammar.specs.Refused.{IsFile, Why}
use Rattle.c_grammar.specs.Refused as grammar
use Rattle.c_typing.specs.World as typing
use Rattle.c_typing.specs.File.{FileOutcome, TypesFile, Program, NoProgram}
use Rattle.c_typing.specs.Laws.{FilesHaveOne}
use Rattle.c_rules.specs.Outcomes.{AdmittedIsNotRefused, RefusalsAreOne}
use Rattle.c_rules.specs.Rules.{IsRefused}
use Rattle.report.specs.RuleRefusals.{RuleRefusal}
use Rattle.report.specs.RuleText.{names_of}
use Rattle.headline.specs.Program.{IsSource, IsTypedAs, IsAdmittedAs}
use Rattle.report.specs.Refusal.{RefusalTree, FileTooLarge, Lexing, Syntax, Unsupported, TooDeep, Typing, Rule, rule_without_calls, without_calls}
use Rattle.headline.specs.Verdict.{IsUnparsed, IsUntyped, IsNotAdmitted, IsRefusedFor}
use Rattle.report.proofs.RuleLemmas.{asked, one_told}

abbrev pub OneCut : Type 0
OneCut = (file : ℕ) (text : List ℕ) (v w : Tokens) → IsCut file text v → IsCut file text w → v ≡ w

abbrev pub OneUncut : Type 0
OneUncut = (file : ℕ) (text : List ℕ) (p q : Pos) (r s : Reason) → IsUncut file text p r → IsUncut file text q s → (p ≡ q) × (r ≡ s)

abbrev pub NotCutAndUncut : Type 0
NotCutAndUncut = (file : ℕ) (text : List ℕ) (v : Tokens) (p : Pos) (r : Reason) → IsCut file text v → IsUncut file text p r → ⊥

abbrev pub OneFile : Type 0
OneFile = (tokens : List Placed) (a b : FileTree) → IsFile tokens a → IsFile tokens b → a ≡ b

abbrev pub OneRefusal : Type 0
OneRefusal = (tokens x y : List Placed) (why other : Why) → grammar.IsRefused tokens x why → grammar.IsRefused tokens y other → (x ≡ y) × (why ≡ other)

abbrev pub NotFileAndRefused : Type 0
NotFileAndRefused = (tokens rest : List Placed) (why : Why) (file : FileTree) → IsFile tokens file → grammar.IsRefused tokens rest why → ⊥

one_source : OneCut → OneFile → (bytes : List ℕ) (a b : FileTree) → IsSource bytes a → IsSource bytes b → a ≡ b
one_source cuts files bytes a b (ts, cut, is) (us, other, same) =
    files ts.list a b is (subst (λ (v : Tokens). IsFile v.list b) (cuts 0 bytes us ts other cut) same)

-- the outcome of the file that bytes are
abbrev ComesTo : List ℕ → FileOutcome → Type 0
ComesTo bytes o = (file : FileTree) × IsSource bytes file × TypesFile file o

one_outcome : OneCut → OneFile → FilesHaveOne → (bytes : List ℕ) (o q : FileOutcome) → ComesTo bytes o → ComesTo bytes q → o ≡ q
one_outcome cuts files outcomes bytes o q (file, source, types) (other, found, also) =
    outcomes file o q types (subst (λ (f : FileTree). TypesFile f q) (one_source cuts files bytes other file found source) also)

the_program : (a b : TProgramTree) → Program a ≡ Program b → a ≡ b
the_program a b is = cc

the_refusal : (r s : typing.Refusal) → NoProgram r ≡ NoProgram s → r ≡ s
the_refusal r s is = cc

not_program : (a : TProgramTree) (r : typing.Refusal) → Program a ≡ NoProgram r → ⊥
not_program a r is = cc

one_typed : OneCut → OneFile → FilesHaveOne → (bytes : List ℕ) (a b : TProgramTree) → IsTypedAs bytes a → IsTypedAs bytes b → a ≡ b
one_typed cuts files outcomes bytes a b is also = the_program a b (one_outcome cuts files outcomes bytes (Program a) (Program b) is also)

not_untyped : OneCut → OneFile → FilesHaveOne → (bytes : List ℕ) (a : TProgramTree) (r : typing.Refusal) → IsTypedAs bytes a → IsUntyped bytes r → ⊥
not_untyped cuts files outcomes bytes a r is refused = not_program a r (one_outcome cuts files outcomes bytes (Program a) (NoProgram r) is refused)

not_unparsed : OneCut → NotFileAndRefused → (bytes : List ℕ) (file : FileTree) (why : Why) (at : Pos) → IsSource bytes file → IsUnparsed bytes why at → ⊥
not_unparsed cuts not_both bytes file why at (ts, cut, is) (us, other, (rest, refused, place)) =
    not_both ts.list rest why file is (subst (λ (v : Tokens). grammar.IsRefused v.list rest why) (cuts 0 bytes us ts other cut) refused)

pub one_program : OneCut → OneFile → FilesHaveOne → (bytes : List ℕ) (a b : TProgramTree) → IsAdmittedAs bytes a → IsAdmittedAs bytes b → a ≡ b
one_program cuts files outcomes bytes a b is other = one_typed cuts files outcomes bytes a b is.0 other.0

-- a program that is admitted is refused for no rule
not_ruled : OneCut → OneFile → FilesHaveOne → AdmittedIsNotRefused → (bytes : List ℕ) (tree : TProgramTree) (names : List (List ℕ)) (r : RuleRefusal) → IsAdmittedAs bytes tree → IsNotAdmitted bytes names r → ⊥
not_ruled cuts files outcomes admits bytes tree names r (typed, admitted) (other, found, names_are, (error, refused, told)) =
    let same : other ≡ tree = one_typed cuts files outcomes bytes other tree found typed in
    asked error r told (admits tree error admitted (subst (λ (p : TProgramTree). IsRefused p error) same refused))

-- what is admitted is not refused
pub not_both :
    OneCut → NotCutAndUncut → OneFile → NotFileAndRefused → FilesHaveOne → AdmittedIsNotRefused → (bytes : List ℕ) (tree : TProgramTree) (r : RefusalTree)
    → length bytes ≤ 4194304 → IsAdmittedAs bytes tree → IsRefusedFor bytes r → ⊥
not_both cuts whole files parsed outcomes admits bytes tree FileTooLarge small typed large = absurd (omega arith)
not_both cuts whole files parsed outcomes admits bytes tree (Lexing reason at) small ((file, (ts, cut, source), types), admitted) (low, uncut) = whole 0 bytes ts at reason cut uncut
not_both cuts whole files parsed outcomes admits bytes tree (Syntax at) small ((file, source, types), admitted) (low, r) = not_unparsed cuts parsed bytes file grammar.Syntax at source r
not_both cuts whole files parsed outcomes admits bytes tree (Unsupported c at) small ((file, source, types), admitted) (low, r) = not_unparsed cuts parsed bytes file (grammar.Unsupported c) at source r
not_both cuts whole files parsed outcomes admits bytes tree (TooDeep at) small ((file, source, types), admitted) (low, r) = not_unparsed cuts parsed bytes file grammar.TooDeep at source r
not_both cuts whole files parsed outcomes admits bytes tree (Typing r) small (typed, admitted) (low, untyped) = not_untyped cuts files outcomes bytes tree r typed untyped
not_both cuts whole files parsed outcomes admits bytes tree (Rule names r) small typed (low, refused) = not_ruled cuts files outcomes admits bytes tree names r typed refused

-- the refusal of a token
abbrev parsing : Why → Pos → RefusalTree
parsing grammar.Syntax at = Syntax at
parsing (grammar.Unsupported c) at = Unsupported c at
parsing grammar.TooDeep at = TooDeep at

-- why bytes that are a file are refused
data Late (bytes : List ℕ) (r : RefusalTree) : Type 0 where
  untyped : (refusal : typing.Refusal) → IsUntyped bytes refusal → r ≡ Typing refusal → Late bytes r
  ruled : (names : List (List ℕ)) (refusal : RuleRefusal) → IsNotAdmitted bytes names refusal → r ≡ Rule names refusal → Late bytes r

-- why bytes that are not too many are refused
data Cause (bytes : List ℕ) (r : RefusalTree) : Type 0 where
  uncut : (reason : Reason) (at : Pos) → IsUncut 0 bytes at reason → r ≡ Lexing reason at → Cause bytes r
  unparsed : (why : Why) (at : Pos) → IsUnparsed bytes why at → r ≡ parsing why at → Cause bytes r
  late : (file : FileTree) → IsSource bytes file → Late bytes r → Cause bytes r

data Kind (bytes : List ℕ) (r : RefusalTree) : Type 0 where
  large : 4194304 < length bytes → r ≡ FileTooLarge → Kind bytes r
  small : length bytes ≤ 4194304 → Cause bytes r → Kind bytes r

kind_of : (bytes : List ℕ) (r : RefusalTree) → IsRefusedFor bytes r → Kind bytes r
kind_of bytes FileTooLarge is = large is refl
kind_of bytes (Lexing reason at) (low, is) = small low (uncut reason at is refl)
kind_of bytes (Syntax at) (low, is) = small low (unparsed grammar.Syntax at is refl)
kind_of bytes (Unsupported c at) (low, is) = small low (unparsed (grammar.Unsupported c) at is refl)
kind_of bytes (TooDeep at) (low, is) = small low (unparsed grammar.TooDeep at is refl)
kind_of bytes (Typing r) (low, (file, source, types)) = small low (late file source (untyped r (file, source, types) refl))
kind_of bytes (Rule names r) (low, (tree, (file, source, types), names_are, refused)) =
    small low (late file source (ruled names r (tree, (file, source, types), names_are, refused) refl))

one_unparsed : OneCut → OneRefusal → (bytes : List ℕ) (why other : Why) (at to : Pos) → IsUnparsed bytes why at → IsUnparsed bytes other to → parsing why at ≡ parsing other to
one_unparsed cuts refusal bytes why other at to (ts, cut, (rest, refused, place)) (us, cut_too, (more, refused_too, place_too)) =
    let same : us ≡ ts = cuts 0 bytes us ts cut_too cut in
    let (e, f) = refusal ts.list rest more why other refused (subst (λ (v : Tokens). grammar.IsRefused v.list more other) same refused_too) in
    cc

one_untyped : OneCut → OneFile → FilesHaveOne → (bytes : List ℕ) (r s : typing.Refusal) → IsUntyped bytes r → IsUntyped bytes s → r ≡ s
one_untyped cuts files outcomes bytes r s is also = the_refusal r s (one_outcome cuts files outcomes bytes (NoProgram r) (NoProgram s) is also)

-- refusals by the rules are one but for their calls
one_ruled : OneCut → OneFile → FilesHaveOne → RefusalsAreOne → (bytes : List ℕ) (names others : List (List ℕ)) (r s : RuleRefusal) → IsNotAdmitted bytes names r → IsNotAdmitted bytes others s
    → without_calls (Rule names r) ≡ without_calls (Rule others s)
one_ruled cuts files outcomes refusals bytes names others r s (tree, typed, names_are, (a, refused, told)) (other, found, others_are, (b, also, tells)) =
    let same : other ≡ tree = one_typed cuts files outcomes bytes other tree found typed in
    let here : IsRefused tree b = subst (λ (p : TProgramTree). IsRefused p b) same also in
    let one : rule_without_calls r ≡ rule_without_calls s = one_told a b r s (refusals tree a b refused here (asked a r told) (asked b s tells)) told tells in
    let named : names ≡ others = names_are ∙ ap names_of (sym same) ∙ sym others_are in
    ap (λ n. Rule n (rule_without_calls r)) named ∙ ap (Rule others) one

-- the laws of typing and of the rules
record LateLaws : Type 0 where
  cuts : OneCut
  files : OneFile
  outcomes : FilesHaveOne
  refusals : RefusalsAreOne
  admits : AdmittedIsNotRefused

typed_of : (bytes : List ℕ) (names : List (List ℕ)) (r : RuleRefusal) → IsNotAdmitted bytes names r → (tree : TProgramTree) × IsTypedAs bytes tree
typed_of bytes names r (tree, typed, names_are, refused) = (tree, typed)

one_late : LateLaws → (bytes : List ℕ) (a b : RefusalTree) → Late bytes a → Late bytes b → without_calls a ≡ without_calls b
one_late laws bytes a b (untyped r is e) (untyped s also f) = ap without_calls (e ∙ ap Typing (one_untyped laws.cuts laws.files laws.outcomes bytes r s is also) ∙ sym f)
one_late laws bytes a b (untyped r is e) (ruled names s also f) =
    let (tree, typed) = typed_of bytes names s also in absurd (not_untyped laws.cuts laws.files laws.outcomes bytes tree r typed is)
one_late laws bytes a b (ruled names r is e) (untyped s also f) =
    let (tree, typed) = typed_of bytes names r is in absurd (not_untyped laws.cuts laws.files laws.outcomes bytes tree s typed also)
one_late laws bytes a b (ruled names r is e) (ruled others s also f) =
    ap without_calls e ∙ one_ruled laws.cuts laws.files laws.outcomes laws.refusals bytes names others r s is also ∙ sym (ap without_calls f)

one_cause : LateLaws → OneUncut → NotCutAndUncut → OneRefusal → NotFileAndRefused → (bytes : List ℕ) (a b : RefusalTree) → Cause bytes a → Cause bytes b → without_calls a ≡ without_calls b
one_cause laws uncuts whole refusal parsed bytes a b (uncut reason at is e) (uncut other to also f) = let (p, q) = uncuts 0 bytes at to reason other is also in ap without_calls cc
one_cause laws uncuts whole refusal parsed bytes a b (uncut reason at is e) (unparsed why to (ts, cut, also) f) = absurd (whole 0 bytes ts at reason cut is)
one_cause laws uncuts whole refusal parsed bytes a b (uncut reason at is e) (late file (ts, cut, also) f) = absurd (whole 0 bytes ts at reason cut is)
one_cause laws uncuts whole refusal parsed bytes a b (unparsed why at (ts, cut, is) e) (uncut reason to also f) = absurd (whole 0 bytes ts to reason cut also)
one_cause laws uncuts whole refusal parsed bytes a b (unparsed why at is e) (unparsed other to also f) = ap without_calls (e ∙ one_unparsed laws.cuts refusal bytes why other at to is also ∙ sym f)
one_cause laws uncuts whole refusal parsed bytes a b (unparsed why at is e) (late file source f) = absurd (not_unparsed laws.cuts parsed bytes file why at source is)
one_cause laws uncuts whole refusal parsed bytes a b (late file (ts, cut, also) e) (uncut reason to is f) = absurd (whole 0 bytes ts to reason cut is)
one_cause laws uncuts whole refusal parsed bytes a b (late file source e) (unparsed why to also f) = absurd (not_unparsed laws.cuts parsed bytes file why to source also)
one_cause laws uncuts whole refusal parsed bytes a b (late file source e) (late other found f) = one_late laws bytes a b e f

one_kind : LateLaws → OneUncut → NotCutAndUncut → OneRefusal → NotFileAndRefused → (bytes : List ℕ) (a b : RefusalTree) → Kind bytes a → Kind bytes b → without_calls a ≡ without_calls b
one_kind laws uncuts whole refusal parsed bytes a b (large many e) (large more f) = ap without_calls (e ∙ sym f)
one_kind laws uncuts whole refusal parsed bytes a b (large many e) (small few c) = absurd (omega arith)
one_kind laws uncuts whole refusal parsed bytes a b (small few c) (large many f) = absurd (omega arith)
one_kind laws uncuts whole refusal parsed bytes a b (small few c) (small less d) = one_cause laws uncuts whole refusal parsed bytes a b c d

pub one_verdict :
    OneCut → OneUncut → NotCutAndUncut → OneRefusal → OneFile → NotFileAndRefused → FilesHaveOne → RefusalsAreOne → AdmittedIsNotRefused
    → (bytes : List ℕ) (a b : RefusalTree) → IsRefusedFor bytes a → IsRefusedFor bytes b → without_calls a ≡ without_calls b
one_verdict cuts uncuts whole refusal files parsed outcomes refusals admits bytes a b is also =
    let laws : LateLaws = record { cuts = cuts; files = files; outcomes = outcomes; refusals = refusals; admits = admits } in
    one_kind laws uncuts whole refusal parsed bytes a b (kind_of bytes a is) (kind_of bytes b also)
