-- How each production begins.
use Rattle.std.proofs.Common.{◌≡◌, refl, false}
use Rattle.c_syntax_written.specs.Written as trees
use Rattle.c_grammar.specs.declared.parts.Level.{Level}
use Rattle.c_grammar.specs.declared.parts.Level.TheVariants.{Commas}
use Rattle.c_grammar.specs.Parts.{Scene, Part, AnExpr, Value}
use Rattle.c_grammar.specs.Process.{Process}
use Rattle.c_grammar.specs.ExprRules.{ExprRule, operand}
use Rattle.c_grammar.specs.ExprRules as exprs
use Rattle.c_grammar.specs.TypeRules.{TypeRule}
use Rattle.c_grammar.specs.TypeRules as types
use Rattle.c_grammar.specs.FileRules.{FileRule}
use Rattle.c_grammar.specs.FileRules as files
use Rattle.c_grammar.specs.Grammar.{Produces, expr_rule, type_rule, file_rule}
use Rattle.c_grammar.specs.Refused.{may_be_empty}
use Rattle.c_grammar.proofs.Table.{Shape, shape_give, shape_end, shape_token, shape_part, shape_chain, shape_only}

pub operand_full : (l : Level) → may_be_empty (AnExpr (operand l)) ≡ false
operand_full Commas = refl
operand_full _ = refl

expr_shape : {w : Scene} {p : Part} {q : Process (Value p)} → ExprRule w p q → Shape w p q
expr_shape (exprs.run {l}) = shape_part (operand_full l)
expr_shape exprs.run_end = shape_give refl
expr_shape exprs.assignment = shape_part refl
expr_shape exprs.not_assigned = shape_give refl
expr_shape exprs.conditional = shape_part refl
expr_shape exprs.not_chosen = shape_give refl
expr_shape exprs.cast = shape_only shape_token
expr_shape exprs.no_cast = shape_only (shape_part refl)
expr_shape exprs.operand_cast = shape_part refl
expr_shape exprs.size_of_type = shape_only shape_token
expr_shape exprs.size_of_expr = shape_only (shape_part refl)
expr_shape exprs.after_type = shape_give refl
expr_shape exprs.no_prefix = shape_part refl
expr_shape exprs.postfix = shape_part refl
expr_shape exprs.no_suffix = shape_give refl
expr_shape exprs.arguments = shape_part refl
expr_shape exprs.texts_end = shape_give refl
expr_shape exprs.something_before = shape_part refl
expr_shape _ = shape_token

type_shape : {w : Scene} {p : Part} {q : Process (Value p)} → TypeRule w p q → Shape w p q
type_shape types.specs = shape_part refl
type_shape types.specs_end = shape_only (shape_give refl)
type_shape types.specs_more = shape_part refl
type_shape types.structure_named = shape_give refl
type_shape types.members = shape_part refl
type_shape types.members_more = shape_part refl
type_shape types.member = shape_part refl
type_shape types.enumeration_named = shape_give refl
type_shape types.enumerators = shape_part refl
type_shape types.enumerators_next = shape_part refl
type_shape types.enumerator_plain = shape_give refl
type_shape (types.pointed {at} {is_const}) = shape_chain (λ inner. trees.Pointer at is_const inner) refl
type_shape types.direct = shape_chain (λ inner. inner) refl
type_shape types.group_end = shape_only shape_token
type_shape (types.no_name types.of_parameter) = shape_only (shape_chain (λ inner. inner) refl)
type_shape (types.no_name types.of_type_name) = shape_only (shape_chain (λ inner. inner) refl)
type_shape types.tails_end = shape_give refl
type_shape types.size = shape_part refl
type_shape types.parameters = shape_part refl
type_shape types.parameter = shape_part refl
type_shape _ = shape_token

file_shape : {w : Scene} {p : Part} {q : Process (Value p)} → FileRule w p q → Shape w p q
file_shape files.value = shape_part refl
file_shape files.initialisers = shape_part refl
file_shape files.initialisers_next = shape_part refl
file_shape files.declaration = shape_part refl
file_shape files.declared = shape_part refl
file_shape files.not_initialised = shape_part refl
file_shape files.label = shape_only shape_token
file_shape files.expression = shape_only (shape_part refl)
file_shape files.no_else = shape_give refl
file_shape files.with_else = shape_only shape_token
file_shape files.for_declares = shape_only (shape_part refl)
file_shape files.for_value = shape_only (shape_part refl)
file_shape files.items_more = shape_part refl
file_shape files.item_declares = shape_only (shape_part refl)
file_shape files.item_does = shape_only (shape_part refl)
file_shape files.outer = shape_part refl
file_shape files.outer_declared = shape_part refl
file_shape files.outer_initial = shape_part refl
file_shape files.file_end = shape_end (λ t ts. refl)
file_shape files.file_more = shape_part refl
file_shape _ = shape_token

pub rule_shape : {w : Scene} {p : Part} {q : Process (Value p)} → Produces w p q → Shape w p q
rule_shape (expr_rule r) = expr_shape r
rule_shape (type_rule r) = type_shape r
rule_shape (file_rule r) = file_shape r
