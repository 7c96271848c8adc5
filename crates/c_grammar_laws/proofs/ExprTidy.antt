-- The productions of expressions and of types are tidy.
use Rattle.std.proofs.Common.{◌≡◌, [], ◌∷◌, ◌++◌, refl, sym, ap, ◌∙◌}
use Rattle.std.proofs.lemmas.List.{append-nil, append_assoc}
use Rattle.c_syntax_written.specs.declared.place.Pos.{Pos}
use Rattle.c_syntax_written.specs.Written.{ExprTree, ExprTrees, no_exprs, more_exprs, exprs_then}
use Rattle.c_grammar.specs.declared.parts.Joint.{Joint}
use Rattle.c_grammar.specs.declared.parts.Joint.TheVariants.{Comma as comma, Binary as binary}
use Rattle.c_grammar.specs.declared.parts.Level.{Level}
use Rattle.c_grammar.specs.declared.parts.Level.TheVariants.{Commas, Ors, Ands, BitOrs, BitXors, BitAnds, Equalities, Relations, Shifts, Sums, Products}
use Rattle.c_grammar.specs.Parts.{Scene, Part, AnExpr, Value}
use Rattle.c_grammar.specs.Process.{Process}
use Rattle.c_grammar.specs.Made.{joined}
use Rattle.c_grammar.specs.ExprRules.{ExprRule, operand}
use Rattle.c_grammar.specs.ExprRules as exprs
use Rattle.c_grammar.specs.TypeRules.{TypeRule}
use Rattle.c_grammar.specs.TypeRules as types
use Rattle.c_grammar_laws.specs.NodePlaces.{expr_places, exprs_places}
use Rattle.c_grammar_laws.proofs.Tidy.{Tidy, tidy_give, tidy_token, tidy_sign, tidy_quiet, tidy_only, tidy_new, tidy_last, all_quiet, keep, places_in, places_before}

operand_new : (l : Level) → places_before (AnExpr (operand l)) ≡ []
operand_new Commas = refl
operand_new Ors = refl
operand_new Ands = refl
operand_new BitOrs = refl
operand_new BitXors = refl
operand_new BitAnds = refl
operand_new Equalities = refl
operand_new Relations = refl
operand_new Shifts = refl
operand_new Sums = refl
operand_new Products = refl

joined_places : (j : Joint) (at : Pos) (left right : ExprTree) → expr_places (joined j at left right) ≡ expr_places left ++ at ∷ expr_places right
unfolding expr_places
joined_places comma at left right = refl
joined_places (binary op) at left right = refl

then_places : (list : ExprTrees) (next : ExprTree) → exprs_places (exprs_then list next) ≡ exprs_places list ++ expr_places next
unfolding exprs_places exprs_then
then_places no_exprs next = append-nil (expr_places next)
then_places (more_exprs item rest) next = ap (λ ps. expr_places item ++ ps) (then_places rest next) ∙ sym (append_assoc (expr_places item) (exprs_places rest) (expr_places next))

pub expr_tidy : {w : Scene} {p : Part} {q : Process (Value p)} → ExprRule w p q → Tidy p [] q
unfolding expr_places exprs_places
expr_tidy (exprs.run {l}) = tidy_new (operand_new l) (λ first. tidy_last refl keep)
expr_tidy (exprs.run_end {left = left}) = tidy_give (sym (append-nil (expr_places left)))
expr_tidy (exprs.run_more {l} {left} j e) = tidy_token (λ t. tidy_new (operand_new l) (λ right. tidy_last (joined_places j t.pos left right) keep))
expr_tidy exprs.assignment = tidy_new refl (λ left. tidy_last refl keep)
expr_tidy (exprs.not_assigned {left = left}) = tidy_give (sym (append-nil (expr_places left)))
expr_tidy exprs.assigned = tidy_token (λ t. tidy_new refl (λ right. tidy_give refl))
expr_tidy (exprs.compound op) = tidy_token (λ t. tidy_new refl (λ right. tidy_give refl))
expr_tidy exprs.conditional = tidy_new refl (λ condition. tidy_last refl keep)
expr_tidy (exprs.not_chosen {condition = condition}) = tidy_give (sym (append-nil (expr_places condition)))
expr_tidy exprs.chosen = tidy_token (λ t. tidy_new refl (λ first. tidy_quiet (λ colon. tidy_new refl (λ second. tidy_give refl))))
expr_tidy exprs.cast = tidy_only (tidy_token (λ t. tidy_quiet (λ specs. tidy_quiet (λ declarator. tidy_quiet (λ close. tidy_new refl (λ inner. tidy_give refl))))))
expr_tidy exprs.no_cast = tidy_only (tidy_last refl keep)
expr_tidy exprs.operand_cast = tidy_last refl keep
expr_tidy (exprs.unary op) = tidy_token (λ t. tidy_new refl (λ inner. tidy_give refl))
expr_tidy (exprs.pre_step way) = tidy_token (λ t. tidy_new refl (λ inner. tidy_give refl))
expr_tidy exprs.size_of = tidy_token (λ t. tidy_last refl keep)
expr_tidy exprs.size_of_type = tidy_only (tidy_sign (λ opening. tidy_quiet (λ specs. tidy_quiet (λ declarator. tidy_quiet (λ close. tidy_quiet (λ nothing. tidy_give refl))))))
expr_tidy exprs.size_of_expr = tidy_only (tidy_quiet (λ inner. tidy_give refl))
expr_tidy exprs.after_type = tidy_give refl
expr_tidy exprs.no_prefix = tidy_last refl keep
expr_tidy exprs.postfix = tidy_new refl (λ base. tidy_last refl keep)
expr_tidy (exprs.no_suffix {base = base}) = tidy_give (sym (append-nil (expr_places base)))
expr_tidy exprs.index = tidy_token (λ t. tidy_new refl (λ at. tidy_quiet (λ close. tidy_last refl keep)))
expr_tidy exprs.call = tidy_sign (λ t. tidy_new refl (λ args. tidy_last refl keep))
expr_tidy exprs.dot = tidy_token (λ t. tidy_quiet (λ name. tidy_last refl keep))
expr_tidy exprs.arrow = tidy_token (λ t. tidy_quiet (λ name. tidy_last refl keep))
expr_tidy (exprs.post_step way) = tidy_token (λ t. tidy_last refl keep)
expr_tidy exprs.no_arguments = tidy_sign (λ t. tidy_give refl)
expr_tidy exprs.arguments = tidy_new refl (λ first. tidy_last (append-nil (expr_places first)) keep)
expr_tidy (exprs.arguments_end {before = before}) = tidy_sign (λ t. tidy_give (sym (append-nil (exprs_places before))))
expr_tidy (exprs.arguments_more {before = before}) = tidy_sign (λ t. tidy_new refl (λ next. tidy_last (then_places before next) keep))
expr_tidy exprs.a_word = tidy_token (λ t. tidy_give refl)
expr_tidy exprs.a_number = tidy_token (λ t. tidy_give refl)
expr_tidy exprs.a_character = tidy_token (λ t. tidy_give refl)
expr_tidy exprs.a_text = tidy_token (λ t. tidy_last refl keep)
expr_tidy exprs.texts_end = tidy_give refl
expr_tidy exprs.texts_more = tidy_sign (λ t. tidy_last refl keep)
expr_tidy exprs.enclosed = tidy_sign (λ t. tidy_new refl (λ inner. tidy_quiet (λ close. tidy_give refl)))
expr_tidy exprs.closes = tidy_sign (λ t. tidy_give refl)
expr_tidy exprs.member_name = tidy_sign (λ t. tidy_give refl)
expr_tidy exprs.nothing_before = tidy_sign (λ t. tidy_give refl)
expr_tidy exprs.something_before = tidy_new refl (λ value. tidy_sign (λ t. tidy_give refl))

type_quiet : {w : Scene} {p : Part} {q : Process (Value p)} → TypeRule w p q → (v : Value p) → places_in p v ≡ places_before p
type_quiet types.specs v = refl
type_quiet _ v = refl

pub type_tidy : {w : Scene} {p : Part} {q : Process (Value p)} → TypeRule w p q → Tidy p [] q
type_tidy {q = q} rule = all_quiet (type_quiet rule) q
