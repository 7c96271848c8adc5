-- The descent takes a production that reads nothing where no token comes that continues its part.
use Rattle.std.proofs.Common.{◌≡◌, refl, sym, ap, subst, nat_le, Bool, true, false, not, ◌&&◌, ◌||◌, List, [], ◌∷◌, Option, Some, None}
use Rattle.c_syntax_written.specs.declared.token.Keyword.TheVariants as keywords
use Rattle.c_syntax_written.specs.declared.token.Placed.{Placed}
use Rattle.c_syntax_written.specs.declared.token.Punctuator.TheVariants as signs
use Rattle.c_syntax_written.specs.declared.token.Token.{Token}
use Rattle.c_syntax_written.specs.declared.token.Token.TheVariants as kinds
use Rattle.c_syntax_written.specs.Written.{ExprTree, DeclaratorTree}
use Rattle.c_grammar.specs.declared.parts.Level.{Level}
use Rattle.c_grammar.specs.declared.parts.Level.TheVariants.{Commas, Ors, Ands, BitOrs, BitXors, BitAnds, Equalities, Relations, Shifts, Sums, Products}
use Rattle.c_grammar.specs.declared.parts.Joint.{Joint}
use Rattle.c_grammar.specs.declared.parts.Role.{Role}
use Rattle.c_grammar.specs.Parts.{Scene, Part, Value}
use Rattle.c_grammar.specs.declared.class.Class.TheVariants.{Sign as sign}
use Rattle.c_grammar.specs.Classes.{level_of, names_type}
use Rattle.c_grammar.specs.Process.{Process}
use Rattle.c_grammar.specs.Made.{ends_open}
use Rattle.c_grammar.specs.Ahead.{spec_ahead}
use Rattle.c_grammar.specs.ExprRules.{ExprRule}
use Rattle.c_grammar.specs.ExprRules as exprs
use Rattle.c_grammar.specs.TypeRules.{TypeRule, MayOmit}
use Rattle.c_grammar.specs.TypeRules as types
use Rattle.c_grammar.specs.FileRules.{FileRule}
use Rattle.c_grammar.specs.FileRules as files
use Rattle.c_grammar.specs.Grammar.{Produces, expr_rule, type_rule, file_rule, Spells}
use Rattle.c_grammar.specs.Refused.{part_construct, is_brace}
use Rattle.c_grammar.specs.Choice.{this, joint_of, joint_of_sign, same_level, more_choice, more_rule, assigned_choice, chosen_choice, suffix_choice, texts_choice, tails_choice, direct_choice, direct_word_choice, is_star, is_const_word, is_assign, is_else_word}
use Rattle.c_grammar.proofs.Table.{Quiet, IsChoice}
use Rattle.c_grammar.proofs.Sets.{class_of, word_class, inside, inside_not, not_true}
use Rattle.c_grammar.proofs.Firsts.{by_token, by_sign, rank, is_from_rank, run_nexts, assignment_next, conditional_next, suffix_next, is_text, declarator_next, direct_next, is_tail, continues}
use Rattle.c_grammar.proofs.Own.{never}
use Rattle.c_grammar.proofs.Spelled.{spelled, no_spelling}
use Rattle.c_grammar.proofs.Led.{skip}
use Rattle.c_grammar.proofs.TypePredicts.{nameless_read}

-- a looser rank is another one
ranks_apart : (a l : Level) → nat_le (rank l) (rank a) ≡ false → same_level a l ≡ None
ranks_apart Commas Commas h = never (sym h)
ranks_apart Ors Ors h = never (sym h)
ranks_apart Ands Ands h = never (sym h)
ranks_apart BitOrs BitOrs h = never (sym h)
ranks_apart BitXors BitXors h = never (sym h)
ranks_apart BitAnds BitAnds h = never (sym h)
ranks_apart Equalities Equalities h = never (sym h)
ranks_apart Relations Relations h = never (sym h)
ranks_apart Shifts Shifts h = never (sym h)
ranks_apart Sums Sums h = never (sym h)
ranks_apart Products Products h = never (sym h)
ranks_apart _ _ h = refl

more_none : (w : Scene) (l : Level) (left : ExprTree) (o : Option Joint) → is_from_rank l o ≡ false → more_choice w l left o ≡ this (expr_rule exprs.run_end)
more_none w l left (Some j) h = ap (more_rule w l left j) (ranks_apart (level_of j) l h)
more_none w l left None h = refl

ranks_inside : (l : Level) → inside (by_sign (λ p. is_from_rank l (joint_of_sign p))) (run_nexts l) ≡ true
ranks_inside Commas = refl
ranks_inside Ors = refl
ranks_inside _ = refl

run_ends : (w : Scene) (l : Level) (left : ExprTree) (t : Token) → run_nexts l (class_of w t) ≡ false → more_choice w l left (joint_of t) ≡ this (expr_rule exprs.run_end)
run_ends w l left (kinds.Punctuator p) h = more_none w l left (joint_of_sign p) (inside_not (by_sign (λ p. is_from_rank l (joint_of_sign p))) (run_nexts l) (ranks_inside l) (sign p) h)
run_ends w l left _ h = refl

assigned_ends : (w : Scene) (left : ExprTree) (t : Token) → assignment_next (class_of w t) ≡ false → assigned_choice w left t ≡ this (expr_rule exprs.not_assigned)
assigned_ends w left (kinds.Punctuator signs.Assign) h = never (sym h)
assigned_ends w left (kinds.Punctuator signs.MultiplyAssign) h = never (sym h)
assigned_ends w left (kinds.Punctuator signs.DivideAssign) h = never (sym h)
assigned_ends w left (kinds.Punctuator signs.RemainderAssign) h = never (sym h)
assigned_ends w left (kinds.Punctuator signs.AddAssign) h = never (sym h)
assigned_ends w left (kinds.Punctuator signs.SubtractAssign) h = never (sym h)
assigned_ends w left (kinds.Punctuator signs.ShiftLeftAssign) h = never (sym h)
assigned_ends w left (kinds.Punctuator signs.ShiftRightAssign) h = never (sym h)
assigned_ends w left (kinds.Punctuator signs.AndAssign) h = never (sym h)
assigned_ends w left (kinds.Punctuator signs.XorAssign) h = never (sym h)
assigned_ends w left (kinds.Punctuator signs.OrAssign) h = never (sym h)
assigned_ends w left (kinds.Punctuator _) h = refl
assigned_ends w left _ h = refl

chosen_ends : (w : Scene) (condition : ExprTree) (t : Token) → conditional_next (class_of w t) ≡ false → chosen_choice w condition t ≡ this (expr_rule exprs.not_chosen)
chosen_ends w condition (kinds.Punctuator signs.Question) h = never (sym h)
chosen_ends w condition _ h = refl

suffix_ends : (w : Scene) (base : ExprTree) (t : Token) → suffix_next (class_of w t) ≡ false → suffix_choice w base t ≡ this (expr_rule exprs.no_suffix)
suffix_ends w base (kinds.Punctuator signs.LeftBracket) h = never (sym h)
suffix_ends w base (kinds.Punctuator signs.LeftParenthesis) h = never (sym h)
suffix_ends w base (kinds.Punctuator signs.Dot) h = never (sym h)
suffix_ends w base (kinds.Punctuator signs.Arrow) h = never (sym h)
suffix_ends w base (kinds.Punctuator signs.Increment) h = never (sym h)
suffix_ends w base (kinds.Punctuator signs.Decrement) h = never (sym h)
suffix_ends w base _ h = refl

texts_end_here : (w : Scene) (at : _) (before : _) (t : Token) → is_text (class_of w t) ≡ false → texts_choice w at before t ≡ this (expr_rule exprs.texts_end)
texts_end_here w at before (kinds.Text bytes) h = never (sym h)
texts_end_here w at before _ h = refl

tails_end_here : (w : Scene) (r : Role) (is_plain : Bool) (d : DeclaratorTree) (t : Token) → by_sign is_tail (class_of w t) ≡ false → tails_choice w r is_plain d t ≡ this (type_rule types.tails_end)
tails_end_here w r is_plain d (kinds.Punctuator signs.LeftBracket) h = never (sym h)
tails_end_here w r is_plain d (kinds.Punctuator signs.LeftParenthesis) h = never (sym h)
tails_end_here w r is_plain d _ h = refl

word_ends : (w : Scene) (r : Role) (h : MayOmit r) (b : Bool) → direct_next (word_class b) ≡ false → direct_word_choice w r b ≡ this (type_rule (types.no_name h))
word_ends w r h true e = nameless_read w r h
word_ends w r h false e = never (sym e)

nameless_ends : (w : Scene) (r : Role) (h : MayOmit r) (t : Token) → direct_next (class_of w t) ≡ false → direct_choice w r t ≡ this (type_rule (types.no_name h))
nameless_ends w r h (kinds.Word name) e = word_ends w r h (names_type w name) e
nameless_ends w r h (kinds.Punctuator signs.LeftParenthesis) e = never (sym e)
nameless_ends w r h (kinds.Punctuator _) e = nameless_read w r h
nameless_ends w r h _ e = nameless_read w r h

brace_missed : (w : Scene) (t : Token) → by_token is_brace (class_of w t) ≡ false → is_brace t ≡ false
brace_missed w (kinds.Punctuator p) h = h
brace_missed w _ h = refl

assign_missed : (w : Scene) (t : Token) → by_token is_assign (class_of w t) ≡ false → is_assign t ≡ false
assign_missed w (kinds.Punctuator p) h = h
assign_missed w _ h = refl

star_missed : (w : Scene) (t : Token) → by_token is_star (class_of w t) ≡ false → is_star t ≡ false
star_missed w (kinds.Punctuator p) h = h
star_missed w _ h = refl

const_missed : (w : Scene) (t : Token) → by_token is_const_word (class_of w t) ≡ false → is_const_word t ≡ false
const_missed w (kinds.Keyword k) h = h
const_missed w _ h = refl

else_missed : (w : Scene) (t : Token) → (by_token is_else_word (class_of w t) && true) ≡ false → is_else_word t ≡ false
else_missed w (kinds.Keyword keywords.Else) h = never (sym h)
else_missed w _ h = refl

expr_empty : {w : Scene} {p : Part} {q : Process (Value p)} → ExprRule w p q → (ts : List Placed) (v : Value p) → Spells w p q ts ts v → Quiet continues w p v ts → IsChoice w p ts q
expr_empty exprs.run ts v s h = (expr_rule exprs.run, refl)
expr_empty exprs.run_end [] v s h = (expr_rule exprs.run_end, refl)
expr_empty (exprs.run_end {w} {l} {left}) (t ∷ ts) v s h = (expr_rule exprs.run_end, run_ends w l left t.token h)
expr_empty exprs.not_assigned [] v s h = (expr_rule exprs.not_assigned, refl)
expr_empty (exprs.not_assigned {w} {left}) (t ∷ ts) v s h = (expr_rule exprs.not_assigned, assigned_ends w left t.token h)
expr_empty exprs.not_chosen [] v s h = (expr_rule exprs.not_chosen, refl)
expr_empty (exprs.not_chosen {w} {condition}) (t ∷ ts) v s h = (expr_rule exprs.not_chosen, chosen_ends w condition t.token h)
expr_empty exprs.after_type ts v s h = (expr_rule exprs.after_type, refl)
expr_empty exprs.no_suffix [] v s h = (expr_rule exprs.no_suffix, refl)
expr_empty (exprs.no_suffix {w} {base}) (t ∷ ts) v s h = (expr_rule exprs.no_suffix, suffix_ends w base t.token h)
expr_empty exprs.texts_end [] v s h = (expr_rule exprs.texts_end, refl)
expr_empty (exprs.texts_end {w} {at} {before}) (t ∷ ts) v s h = (expr_rule exprs.texts_end, texts_end_here w at before t.token h)
expr_empty r ts v s h = no_spelling refl s

type_empty : {w : Scene} {p : Part} {q : Process (Value p)} → TypeRule w p q → (ts : List Placed) (v : Value p) → Spells w p q ts ts v → Quiet continues w p v ts → IsChoice w p ts q
type_empty (types.specs_end {w}) ts v s h = (type_rule types.specs_end, skip _ _ _ (not_true (spec_ahead w ts) (spelled s).0))
type_empty types.structure_named [] v s h = (type_rule types.structure_named, refl)
type_empty (types.structure_named {w}) (t ∷ ts) v s h = (type_rule types.structure_named, skip _ _ _ (brace_missed w t.token h))
type_empty types.enumeration_named [] v s h = (type_rule types.enumeration_named, refl)
type_empty (types.enumeration_named {w}) (t ∷ ts) v s h = (type_rule types.enumeration_named, skip _ _ _ (brace_missed w t.token h))
type_empty types.enumerator_plain [] v s h = (type_rule types.enumerator_plain, refl)
type_empty (types.enumerator_plain {w}) (t ∷ ts) v s h = (type_rule types.enumerator_plain, skip _ _ _ (assign_missed w t.token (inside_not (by_token is_assign) (λ c. conditional_next c || by_token is_assign c) refl (class_of w t.token) h)))
type_empty types.pointed [] v s h = (type_rule types.pointed, refl)
type_empty (types.pointed {w}) (t ∷ ts) v s h = (type_rule types.pointed, skip _ _ _ (const_missed w t.token (inside_not (by_token is_const_word) declarator_next refl (class_of w t.token) h)))
type_empty types.direct [] v s h = (type_rule types.direct, refl)
type_empty (types.direct {w}) (t ∷ ts) v s h = (type_rule types.direct, skip _ _ _ (star_missed w t.token (inside_not (by_token is_star) declarator_next refl (class_of w t.token) h)))
type_empty (types.no_name {w} {r} o) [] v s h = (type_rule (types.no_name o), nameless_read w r o)
type_empty (types.no_name {w} {r} o) (t ∷ ts) v s h = (type_rule (types.no_name o), nameless_ends w r o t.token h)
type_empty types.tails_end [] v s h = (type_rule types.tails_end, refl)
type_empty (types.tails_end {w} {r} {is_plain} {d}) (t ∷ ts) v s h = (type_rule types.tails_end, tails_end_here w r is_plain d t.token h)
type_empty r ts v s h = no_spelling refl s

file_empty : {w : Scene} {p : Part} {q : Process (Value p)} → FileRule w p q → (ts : List Placed) (v : Value p) → Spells w p q ts ts v → Quiet continues w p v ts → IsChoice w p ts q
unfolding ends_open
file_empty files.no_else [] v s h = (file_rule files.no_else, refl)
file_empty (files.no_else {w} {at} {condition} {first}) (t ∷ ts) v s h = (file_rule files.no_else, skip _ _ _ (ap (λ x. x && not (ends_open first)) (else_missed w t.token (subst (λ v. (by_token is_else_word (class_of w t.token) && ends_open v) ≡ false) (sym (spelled s)) h))))
file_empty files.file_end [] v s h = (file_rule files.file_end, refl)
file_empty files.file_end (t ∷ ts) v s h = never (spelled s).0
file_empty r ts v s h = no_spelling refl s

pub predicts_empty : {w : Scene} {p : Part} {q : Process (Value p)} → Produces w p q → (ts : List Placed) (v : Value p) → Spells w p q ts ts v → Quiet continues w p v ts → part_construct w p ts ≡ None → IsChoice w p ts q
predicts_empty (expr_rule r) ts v s h n = expr_empty r ts v s h
predicts_empty (type_rule r) ts v s h n = type_empty r ts v s h
predicts_empty (file_rule r) ts v s h n = file_empty r ts v s h
