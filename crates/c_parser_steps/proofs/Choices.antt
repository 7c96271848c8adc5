-- Which production the descent takes, by the kind of token that comes.
use Rattle.std.proofs.Common.{◌≡◌, refl, subst, ap, Bool, true, false, List, [], ◌∷◌}
use Rattle.std.specs.Prelude.{Option, Some, None}
use Rattle.c_syntax_written.specs.declared.place.Pos.{Pos}
use Rattle.c_syntax_written.specs.declared.token.Placed.{Placed}
use Rattle.c_syntax_written.specs.declared.token.Keyword.TheVariants as keywords
use Rattle.c_syntax_written.specs.declared.token.Punctuator.TheVariants as signs
use Rattle.c_syntax_written.specs.declared.token.Token.{Token}
use Rattle.c_syntax_written.specs.declared.token.Token.TheVariants as kinds
use Rattle.c_syntax_written.specs.Written.{ExprTree}
use Rattle.c_grammar.specs.declared.parts.Level.{Level}
use Rattle.c_grammar.specs.declared.parts.Joint.{Joint}
use Rattle.c_grammar.specs.Parts.{Scene, Part, Value, Primary, Suffixes, More, AnExpr}
use Rattle.c_grammar.specs.Process.{Process}
use Rattle.c_grammar.specs.Grammar.{Produces, expr_rule}
use Rattle.c_grammar.specs.ExprRules as exprs
use Rattle.c_grammar.specs.Ahead.{is_open}
use Rattle.c_grammar.specs.Classes.{names_type, level_of}
use Rattle.c_grammar.specs.Refused.{first_is}
use Rattle.c_grammar.specs.Choice.{choose, call_choice, joint_of, same_level, more_rule, more_choice, word_choice}
use Rattle.c_parser_steps.specs.declared.kind.PrimaryKind.{PrimaryKind}
use Rattle.c_parser_steps.specs.declared.kind.PrimaryKind.TheVariants as primaries
use Rattle.c_parser_steps.specs.declared.kind.PrefixKind.{PrefixKind}
use Rattle.c_parser_steps.specs.declared.kind.PrefixKind.TheVariants as prefixes
use Rattle.c_parser_steps.specs.declared.kind.SuffixKind.{SuffixKind}
use Rattle.c_parser_steps.specs.declared.kind.SuffixKind.TheVariants as suffixes
use Rattle.c_parser_steps.specs.declared.kind.AssignKind.{AssignKind}
use Rattle.c_parser_steps.specs.declared.kind.AssignKind.TheVariants as assigns
use Rattle.c_parser_steps.specs.Kinds.{primary_at, primary_of, primary_of_word, prefix_at, prefix_of, suffix_at, suffix_of, sign_of, assign_at, assign_of, joint_here, joint_for, joint_where}

-- the descent goes on with this production
abbrev pub Chosen : {w : Scene} {p : Part} {q : Process (Value p)} → Produces w p q → List Placed → Type 0
Chosen {w} {p} {q} rule ts = choose w p ts ≡ Some (q, rule)

abbrev at_token : Pos → Token → List Placed → List Placed
at_token at k ts = record { pos = at; token = k } ∷ ts

-- primary expressions
abbrev pub PrimaryTells : Scene → List Placed → PrimaryKind → Type 0
PrimaryTells w ts primaries.Word = Chosen (expr_rule (exprs.a_word {w = w})) ts
PrimaryTells w ts primaries.Number = Chosen (expr_rule (exprs.a_number {w = w})) ts
PrimaryTells w ts primaries.Character = Chosen (expr_rule (exprs.a_character {w = w})) ts
PrimaryTells w ts primaries.Text = Chosen (expr_rule (exprs.a_text {w = w})) ts
PrimaryTells w ts primaries.Enclosed = Chosen (expr_rule (exprs.enclosed {w = w})) ts
PrimaryTells w ts primaries.Neither = choose w (AnExpr Primary) ts ≡ None

primary_word : (w : Scene) (at : Pos) (name : List _) (ts : List Placed) (b : Bool) → names_type w name ≡ b → PrimaryTells w (at_token at (kinds.Word name) ts) (primary_of_word b)
primary_word w at name ts true e = ap (λ v. word_choice w v) e
primary_word w at name ts false e = ap (λ v. word_choice w v) e

primary_token : (w : Scene) (at : Pos) (k : Token) (ts : List Placed) → PrimaryTells w (at_token at k ts) (primary_of w k)
primary_token w at (kinds.Word name) ts = primary_word w at name ts (names_type w name) refl
primary_token w at (kinds.Punctuator signs.LeftParenthesis) ts = refl
primary_token w at _ ts = refl

primary_tells : (w : Scene) (ts : List Placed) → PrimaryTells w ts (primary_at w ts)
primary_tells w [] = refl
primary_tells w (t ∷ ts) = primary_token w t.pos t.token ts

pub primary_is : (w : Scene) (ts : List Placed) {k : PrimaryKind} → primary_at w ts ≡ k → PrimaryTells w ts k
primary_is w ts e = subst (λ v. PrimaryTells w ts v) e (primary_tells w ts)

-- prefixes
abbrev pub PrefixTells : Scene → List Placed → PrefixKind → Type 0
PrefixTells w ts prefixes.Sizeof = Chosen (expr_rule (exprs.size_of {w = w})) ts
PrefixTells w ts (prefixes.Step way) = Chosen (expr_rule (exprs.pre_step {w = w} way)) ts
PrefixTells w ts (prefixes.Unary op) = Chosen (expr_rule (exprs.unary {w = w} op)) ts
PrefixTells w ts prefixes.Nothing = Chosen (expr_rule (exprs.no_prefix {w = w})) ts

prefix_token : (w : Scene) (at : Pos) (k : Token) (ts : List Placed) → PrefixTells w (at_token at k ts) (prefix_of k)
prefix_token w at (kinds.Keyword keywords.Sizeof) ts = refl
prefix_token w at (kinds.Punctuator signs.Increment) ts = refl
prefix_token w at _ ts = refl

prefix_tells : (w : Scene) (ts : List Placed) → PrefixTells w ts (prefix_at ts)
prefix_tells w [] = refl
prefix_tells w (t ∷ ts) = prefix_token w t.pos t.token ts

pub prefix_is : (w : Scene) (ts : List Placed) {k : PrefixKind} → prefix_at ts ≡ k → PrefixTells w ts k
prefix_is w ts e = subst (λ v. PrefixTells w ts v) e (prefix_tells w ts)

-- postfix forms
abbrev pub SuffixTells : Scene → ExprTree → List Placed → SuffixKind → Type 0
SuffixTells w base ts suffixes.Index = Chosen (expr_rule (exprs.index {w = w} {base = base})) ts × (first_is is_open ts ≡ false)
SuffixTells w base ts suffixes.Call = (choose w (AnExpr (Suffixes base)) ts ≡ call_choice w base) × (first_is is_open ts ≡ true)
SuffixTells w base ts suffixes.Dot = Chosen (expr_rule (exprs.dot {w = w} {base = base})) ts × (first_is is_open ts ≡ false)
SuffixTells w base ts suffixes.Arrow = Chosen (expr_rule (exprs.arrow {w = w} {base = base})) ts × (first_is is_open ts ≡ false)
SuffixTells w base ts (suffixes.Step way) = Chosen (expr_rule (exprs.post_step {w = w} {base = base} way)) ts × (first_is is_open ts ≡ false)
SuffixTells w base ts suffixes.Nothing = Chosen (expr_rule (exprs.no_suffix {w = w} {base = base})) ts × (first_is is_open ts ≡ false)

suffix_token : (w : Scene) (base : ExprTree) (at : Pos) (k : Token) (ts : List Placed) → SuffixTells w base (at_token at k ts) (suffix_of (sign_of k))
suffix_token w base at (kinds.Punctuator signs.LeftBracket) ts = (refl, refl)
suffix_token w base at _ ts = (refl, refl)

suffix_tells : (w : Scene) (base : ExprTree) (ts : List Placed) → SuffixTells w base ts (suffix_at ts)
suffix_tells w base [] = (refl, refl)
suffix_tells w base (t ∷ ts) = suffix_token w base t.pos t.token ts

pub suffix_is : (w : Scene) (base : ExprTree) (ts : List Placed) {k : SuffixKind} → suffix_at ts ≡ k → SuffixTells w base ts k
suffix_is w base ts e = subst (λ v. SuffixTells w base ts v) e (suffix_tells w base ts)

-- assignments
abbrev pub AssignTells : Scene → ExprTree → List Placed → AssignKind → Type 0
AssignTells w left ts assigns.Plain = Chosen (expr_rule (exprs.assigned {w = w} {left = left})) ts
AssignTells w left ts (assigns.Compound op) = Chosen (expr_rule (exprs.compound {w = w} {left = left} op)) ts
AssignTells w left ts assigns.Nothing = Chosen (expr_rule (exprs.not_assigned {w = w} {left = left})) ts

assign_token : (w : Scene) (left : ExprTree) (at : Pos) (k : Token) (ts : List Placed) → AssignTells w left (at_token at k ts) (assign_of (sign_of k))
assign_token w left at (kinds.Punctuator signs.Assign) ts = refl
assign_token w left at _ ts = refl

assign_tells : (w : Scene) (left : ExprTree) (ts : List Placed) → AssignTells w left ts (assign_at ts)
assign_tells w left [] = refl
assign_tells w left (t ∷ ts) = assign_token w left t.pos t.token ts

pub assign_is : (w : Scene) (left : ExprTree) (ts : List Placed) {k : AssignKind} → assign_at ts ≡ k → AssignTells w left ts k
assign_is w left ts e = subst (λ v. AssignTells w left ts v) e (assign_tells w left ts)

-- joints of a level
abbrev pub MoreTells : Scene → (l : Level) → ExprTree → List Placed → Option Joint → Type 0
MoreTells w l left ts (Some j) = (e : level_of j ≡ l) × Chosen (expr_rule (exprs.run_more {w = w} {left = left} j e)) ts
MoreTells w l left ts None = Chosen (expr_rule (exprs.run_end {w = w} {l = l} {left = left})) ts

more_level : (w : Scene) (l : Level) (left : ExprTree) (ts : List Placed) (j : Joint) (m : Option (level_of j ≡ l)) → choose w (AnExpr (More l left)) ts ≡ more_rule w l left j m → MoreTells w l left ts (joint_where j m)
more_level w l left ts j (Some e) f = (e, f)
more_level w l left ts j None f = f

more_joint : (w : Scene) (l : Level) (left : ExprTree) (ts : List Placed) (j : Option Joint) → choose w (AnExpr (More l left)) ts ≡ more_choice w l left j → MoreTells w l left ts (joint_for l j)
more_joint w l left ts (Some j) f = more_level w l left ts j (same_level (level_of j) l) f
more_joint w l left ts None f = f

more_tells : (w : Scene) (l : Level) (left : ExprTree) (ts : List Placed) → MoreTells w l left ts (joint_here l ts)
more_tells w l left [] = refl
more_tells w l left (t ∷ ts) = more_joint w l left (t ∷ ts) (joint_of t.token) refl

pub more_is : (w : Scene) (l : Level) (left : ExprTree) (ts : List Placed) {j : Option Joint} → joint_here l ts ≡ j → MoreTells w l left ts j
more_is w l left ts e = subst (λ v. MoreTells w l left ts v) e (more_tells w l left ts)
