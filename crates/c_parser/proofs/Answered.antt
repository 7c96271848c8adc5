-- What the descent's end tells of a file.
use Rattle.std.proofs.Common.{◌≡◌, ℕ, List, [], ◌∷◌, ◌++◌, length, refl, sym, ap, ◌∙◌, subst, arith, ◌⊎◌, inl, inr, Bor}
use Rattle.std.proofs.lemmas.Bool.{eqb-true}
use Rattle.std.specs.Prelude.{true, false, ◌==◌, map, Ok, Result, MatchResult, IsErrAnd}
use Rattle.c_syntax_written.specs.declared.file.Outer.{Outer}
use Rattle.c_syntax_written.specs.declared.token.Placed.{Placed}
use Rattle.c_syntax_written.specs.declared.token.Tokens.{Tokens}
use Rattle.c_syntax_written.specs.WrittenFile.{OuterTree, FileTree, outer_tree}
use Rattle.c_grammar.specs.Parts as parts
use Rattle.c_grammar.specs.declared.parts.Setting.TheVariants.{AtFile}
use Rattle.c_grammar.specs.Parts.{Scene, AnOuter, Outers}
use Rattle.c_grammar.specs.Process.{give, part}
use Rattle.c_grammar.specs.FileRules.{after_outer, file_end, file_more}
use Rattle.c_grammar.specs.Choice.{choose, this}
use Rattle.c_grammar.specs.Made.{new_types}
use Rattle.c_grammar.specs.Grammar.{at_start, file_rule}
use Rattle.c_grammar.specs.Refused.{Why, Syntax, Unsupported, TooDeep, IsFile, IsRefused}
use Rattle.c_grammar.specs.Descent.{Outcome, Done, Stop, Goes, by_rule, is_done, passes}
use Rattle.c_grammar.proofs.Laws.{found, file_only, refusal_only}
use Rattle.c_parser_steps.specs.declared.fault.Fault.{Fault}
use Rattle.c_parser_steps.specs.declared.fault.Fault.TheVariants as faults
use Rattle.c_parser_steps.specs.Answers.{Gives, Halts, syntax, unsupported, too_deep}
use Rattle.c_parser.specs.declared.parsing.ParseError.{ParseError}
use Rattle.c_parser.specs.declared.parsing.ParseError.TheVariants as errors
use Rattle.c_parser_steps.proofs.Paths.{Path, begin, behind, goes_so}
use Rattle.c_parser.specs.Refusals.{IsError, IsErrorOf, TellsRefused}
use Rattle.c_parser_steps.proofs.Last.{same, last_part}
use Rattle.c_parser_steps.proofs.Steps.{passed_on}

-- the descent through the file ends so
abbrev pub Reads : List Placed → Outcome (List OuterTree) → Type 0
Reads tokens o = Goes 0 at_start (Outers []) tokens o

abbrev pub Refuses : List Placed → Fault → Type 0
Refuses tokens f = Halts (λ why rest. Reads tokens (Stop why rest)) f

abbrev file_of : List Outer → FileTree
file_of outers = record { outers = map (λ o. outer_tree o) outers }

pub is_file : (tokens : List Placed) (outers same : List Outer) → Reads tokens (Done (map (λ o. outer_tree o) outers) []) → same ≡ outers → IsFile tokens (file_of same)
is_file tokens outers same g e = subst (λ (v : List Outer). IsFile tokens (file_of v)) (sym e) ((found tokens _ g).1)

done_is : (file : FileTree) (outers : List OuterTree) (rest : List Placed) → Done outers rest ≡ Done file.outers [] → outers ≡ file.outers
done_is file outers rest e = cc

same_file : (file : FileTree) (outers : List OuterTree) → outers ≡ file.outers → record { outers = outers } ≡ file
same_file file outers e = ap (λ (v : List OuterTree). let f : FileTree = record { outers = v } in f) e

pub only_file : (tokens : List Placed) (outers same : List Outer) → Reads tokens (Done (map (λ o. outer_tree o) outers) []) → same ≡ outers → (file : FileTree) → IsFile tokens file → file_of same ≡ file
only_file tokens outers same g e file f = same_file file _ (ap (λ (v : List Outer). map (λ o. outer_tree o) v) e ∙ done_is file _ _ (file_only tokens file _ f g))

pub not_refused : (tokens : List Placed) (outers : List OuterTree) → Reads tokens (Done outers []) → (rest : List Placed) (why : Why) → IsRefused tokens rest why → ⊥
not_refused tokens outers g rest why r = let e = refusal_only tokens rest why (Done outers []) r g in cc

stopped_no_file : (tokens rest : List Placed) (why : Why) → Reads tokens (Stop why rest) → (file : FileTree) → IsFile tokens file → ⊥
stopped_no_file tokens rest why g file f = let e = file_only tokens file (Stop why rest) f g in cc

pub no_file : (tokens : Tokens) (f : Fault) (e : ParseError) → Refuses tokens.list f → IsErrorOf tokens f e → (file : FileTree) → IsFile tokens.list file → e ≡ errors.NoMemory
no_file tokens faults.NoMemory e h i file k = i
no_file tokens (faults.Syntax rest) e (syntax g) i file k = absurd (stopped_no_file tokens.list rest.now Syntax g file k)
no_file tokens (faults.Unsupported c rest) e (unsupported g) i file k = absurd (stopped_no_file tokens.list rest.now (Unsupported c) g file k)
no_file tokens (faults.TooDeep rest) e (too_deep g) i file k = absurd (stopped_no_file tokens.list rest.now TooDeep g file k)

pub tells : (tokens : Tokens) (f : Fault) (e : ParseError) → Refuses tokens.list f → IsErrorOf tokens f e → TellsRefused tokens e
tells tokens faults.NoMemory e h i = subst (λ (v : ParseError). TellsRefused tokens v) (sym i) tt
tells tokens (faults.Syntax rest) e (syntax g) i = subst (λ (v : ParseError). TellsRefused tokens v) (sym i) (rest.now, found tokens.list (Stop Syntax rest.now) g, refl)
tells tokens (faults.Unsupported c rest) e (unsupported g) i = subst (λ (v : ParseError). TellsRefused tokens v) (sym i) (rest.now, found tokens.list (Stop (Unsupported c) rest.now) g, refl)
tells tokens (faults.TooDeep rest) e (too_deep g) i = subst (λ (v : ParseError). TellsRefused tokens v) (sym i) (rest.now, found tokens.list (Stop TooDeep rest.now) g, refl)

abbrev stopped : Why → List Placed → Outcome (List OuterTree)
stopped why rest = Stop why rest

why_is : (why other : Why) (rest left : List Placed) → stopped why rest ≡ stopped other left → why ≡ other
why_is why other rest left e = cc

rest_is : (why other : Why) (rest left : List Placed) → stopped why rest ≡ stopped other left → rest ≡ left
rest_is why other rest left e = cc

same_error : (tokens : Tokens) (rest left : List Placed) (why other : Why) (e : ParseError) → stopped why rest ≡ stopped other left → IsError tokens rest why e → IsError tokens left other e
same_error tokens rest left why other e s i = subst (λ (v : List Placed). IsError tokens v other e) (rest_is why other rest left s) (subst (λ (v : Why). IsError tokens rest v e) (why_is why other rest left s) i)

pub stops_so : (tokens : Tokens) (f : Fault) (e : ParseError) → Refuses tokens.list f → IsErrorOf tokens f e → (rest : List Placed) (why : Why) → IsRefused tokens.list rest why → IsError tokens rest why e ⊎ (e ≡ errors.NoMemory)
stops_so tokens faults.NoMemory e h i rest why r = inr i
stops_so tokens (faults.Syntax left) e (syntax g) i rest why r = inl (same_error tokens left.now rest Syntax why e (refusal_only tokens.list rest why _ r g) i)
stops_so tokens (faults.Unsupported c left) e (unsupported g) i rest why r = inl (same_error tokens left.now rest (Unsupported c) why e (refusal_only tokens.list rest why _ r g) i)
stops_so tokens (faults.TooDeep left) e (too_deep g) i rest why r = inl (same_error tokens left.now rest TooDeep why e (refusal_only tokens.list rest why _ r g) i)

-- a fault that is passed on, as the clauses say it
pub fault_passed : {A : Type 0} {f : Fault} (P : A → Type 0) (Q : Fault → Type 0) (r : Result A Fault) → IsErrAnd r (λ e. e ≡ f) → Q f → MatchResult r P Q
fault_passed P Q r e q = passed_on (λ v. MatchResult v P Q) e q

-- the same tokens under another name
pub reads_as : {given tokens : List Placed} {o : Outcome (List OuterTree)} → given ≡ tokens → Reads given o → Reads tokens o
reads_as {o = o} e g = subst (λ (v : List Placed). Reads v o) e g

pub refuses_as : {given tokens : List Placed} {f : Fault} → given ≡ tokens → Refuses given f → Refuses tokens f
refuses_as {f = f} e h = subst (λ (v : List Placed). Refuses v f) e h

-- the typedef names in force at a declaration of the file
abbrev pub scene_with : List (List ℕ) → Scene
scene_with types = record { types = types; setting = AtFile }

-- where the declarations of a file begin
pub outers_begin : {types : List (List ℕ)} (outers : List Outer) {ts : List Placed} {o : Outcome (List OuterTree)} → types ≡ [] → outers ≡ [] → Goes 0 (scene_with types) (Outers (map (λ o. outer_tree o) outers)) ts o → Reads ts o
outers_begin outers {ts} {o} e f g = subst (λ (v : List Outer). Goes 0 at_start (Outers (map (λ o. outer_tree o) v)) ts o) f (subst (λ (v : List (List ℕ)). Goes 0 (scene_with v) (Outers (map (λ o. outer_tree o) outers)) ts o) e g)

map_one_more : (xs : List Outer) (x : Outer) → map (λ o. outer_tree o) (xs ++ x ∷ []) ≡ map (λ o. outer_tree o) xs ++ outer_tree x ∷ []
map_one_more [] x = refl
map_one_more (y ∷ ys) x = ap (λ v. outer_tree y ∷ v) (map_one_more ys x)

more_rule : (w : Scene) (before : List OuterTree) (ts : List Placed) → (length ts == 0) ≡ false → choose w (Outers before) ts ≡ this (file_rule file_more)
more_rule w before [] h = cc
more_rule w before (t ∷ ts) h = refl

end_rule : (w : Scene) (before : List OuterTree) (ts : List Placed) → (length ts == 0) ≡ true → Goes 0 w (Outers before) ts (Done before [])
end_rule w before [] h = by_rule _ (file_rule file_end) refl refl (passes refl is_done)
end_rule w before (t ∷ ts) h = absurd (let e : length (t ∷ ts) ≡ 0 = eqb-true _ _ h in omega arith)

-- the file ends
pub outers_end : {w : Scene} {before : List OuterTree} {ts : List Placed} → (length ts == 0) ≡ true → Goes 0 w (Outers before) ts (Done before [])
outers_end {w} {before} {ts} h = end_rule w before ts h

-- the way into one more declaration
pub outers_more : {goes : Outcome (List OuterTree) → Type 0} {w : Scene} {before : List OuterTree} {ts : List Placed} → ((o : Outcome (List OuterTree)) → Goes 0 w (Outers before) ts o → goes o) → (length ts == 0) ≡ false → Path (Outers before) goes 0 w (part 0 w (AnOuter parts.Outer) (λ next. part 0 (after_outer w next) (Outers (before ++ next ∷ [])) give)) ts
outers_more {w = w} {before} {ts} f h = begin {p = Outers before} f refl (more_rule w before ts h)

-- one more declaration was read, and its typedef names are in force behind it
pub outer_added : {goes : Outcome (List OuterTree) → Type 0} {types more : List (List ℕ)} (outers longer : List Outer) {ts : List Placed} {x : Outer × Bor (List Placed)} {o : Outcome (List OuterTree)} → Path (Outers (map (λ o. outer_tree o) outers)) goes 0 (scene_with types) (part 0 (scene_with types) (AnOuter parts.Outer) (λ next. part 0 (after_outer (scene_with types) next) (Outers (map (λ o. outer_tree o) outers ++ next ∷ [])) give)) ts → Gives (λ o. Goes 0 (scene_with types) (AnOuter parts.Outer) ts o) (λ o. outer_tree o) (Ok x) → more ≡ types ++ new_types (outer_tree x.0) → longer ≡ outers ++ x.0 ∷ [] → Goes 0 (scene_with more) (Outers (map (λ o. outer_tree o) longer)) x.1.now o → goes o
outer_added {types = types} {more} outers longer {x = x} {o} path h e f g = goes_so (behind path h) o (last_part same o (subst (λ (v : List (List ℕ)). Goes 0 (scene_with v) (Outers (map (λ o. outer_tree o) outers ++ outer_tree x.0 ∷ [])) x.1.now o) e (subst (λ (v : List OuterTree). Goes 0 (scene_with more) (Outers v) x.1.now o) (ap (λ (v : List Outer). map (λ o. outer_tree o) v) f ∙ map_one_more outers x.0) g)))
