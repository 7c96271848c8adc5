-- How the functions of the cycle read their parts.
use Rattle.std.proofs.Common.{refl, true, sym, ap, ◌∙◌, not, arith}
use Rattle.c_syntax_written.specs.Written as trees
use Rattle.c_syntax_written.proofs.WrittenTrees.{spec_struct_body, spec_enum_body, enumerator_plain}
use Rattle.c_grammar.specs.Parts as part
use Rattle.c_grammar.specs.Process as process
use Rattle.c_grammar.specs.Grammar.{expr_rule, type_rule}
use Rattle.c_grammar.specs.ExprRules as rule
use Rattle.c_grammar.specs.TypeRules as kind
use Rattle.c_grammar.specs.Descent.{goes_on, stops, is_done, is_barred, no_rule, passes, fails}
use Rattle.c_parser_steps.specs.Views.{boxed_declarator, boxed_expr, scene_of}
use Rattle.c_parser_steps.specs.Answers.{given, halted, stalled, stepped, Gives, no_memory}
use Rattle.c_parser_steps.proofs.Steps.{halts, answer, halt, take, refuse, shut, not_shut, step, stall, stopped, by, here, stops_here, done, if_true, if_false, borne, unborne, sign_is, passed_on, carried}
use Rattle.c_parser_steps.proofs.Choices.{primary_is, prefix_is, suffix_is, assign_is, more_is}
use Rattle.c_parser_leaves.proofs.EndSteps.{made_so, longer_so, closed_so, shut_so, behind_group, not_grouped, longer_shut, led}
use Rattle.c_parser_leaves.proofs.ExprSteps.{operand_at, not_question, is_question_ahead, suffix_free, suffixes_at, behind_sign, joint_step, joint_stop, and_left, rebased, nothing_of, call_by, no_joint}
use Rattle.c_parser_leaves.proofs.Listings.{goes_behind, not_read, first_spec, next_spec, no_type, first_declarator, next_declarator, first_argument, next_argument, first_member, next_member, first_enumerator, next_enumerator, comma_behind, first_parameter, next_parameter}
use Rattle.c_parser_leaves.proofs.TagSteps.{structure_alone, structure_braces, enumeration_alone, enumeration_braces}
use Rattle.c_parser_steps.proofs.TypeSteps.{declarators_at, value_at, again_is, next_step, more_type}
use Rattle.c_parser_leaves.proofs.DeclaratorSteps.{direct_is, tail_is, no_tail, tails_at, tails_absent, function_so, regiven, renamed, both_true, first_false}
use Rattle.c_parser_steps.proofs.Last.{same, last_part, last_inside}
use Rattle.c_parser_exprs.proofs.Shorter.{shorter_by, shorter_still, no_longer_by, no_longer}
use Rattle.c_parser_exprs.proofs.+descent.Goals as goal

pub exprs::joined_operands-returns-in-Err-clause-goes : goal.exprs::joined_operands-returns-in-Err-clause-goes
exprs::joined_operands-returns-in-Err-clause-goes t c = halted (halts (halt c.in-Err.ensures.goes) (λ why rest g. by (expr_rule rule.run) (refl) (refl) (stops_here g)))

pub exprs::joined_operands-returns-clause-goes : goal.exprs::joined_operands-returns-clause-goes
exprs::joined_operands-returns-clause-goes t c = carried c.more.ensures.goes (λ o g. by (expr_rule rule.run) (refl) (refl) (here (answer c.in-Ok.ensures.goes) (last_part same o g)))

pub exprs::operand-returns-in-Assignment-clause-goes : goal.exprs::operand-returns-in-Assignment-clause-goes
exprs::operand-returns-in-Assignment-clause-goes t c = operand_at c.args.level (sym c.in-Assignment.ensures) c.assignment.ensures.goes

pub exprs::operand-returns-in-Run-clause-goes : goal.exprs::operand-returns-in-Run-clause-goes
exprs::operand-returns-in-Run-clause-goes t c = operand_at c.args.level (sym c.in-Run.ensures) c.joined_operands.ensures.goes

pub exprs::operand-returns-in-Cast-clause-goes : goal.exprs::operand-returns-in-Cast-clause-goes
exprs::operand-returns-in-Cast-clause-goes t c = operand_at c.args.level (sym c.in-Cast.ensures) c.cast.ensures.goes

pub exprs::assignment-returns-in-Err-clause-goes : goal.exprs::assignment-returns-in-Err-clause-goes
exprs::assignment-returns-in-Err-clause-goes t c = halted (halts (halt c.in-Err.ensures.goes) (λ why rest g. by (expr_rule rule.assignment) (refl) (refl) (stops_here g)))

pub exprs::assignment-returns-clause-goes : goal.exprs::assignment-returns-clause-goes
exprs::assignment-returns-clause-goes t c = carried c.assigned.ensures.goes (λ o g. by (expr_rule rule.assignment) (refl) (refl) (here (answer c.in-Ok.ensures.goes) (last_part same o g)))

pub exprs::assigned-returns-in-Nothing-clause-goes : goal.exprs::assigned-returns-in-Nothing-clause-goes
exprs::assigned-returns-in-Nothing-clause-goes t c = given (by (expr_rule rule.not_assigned) refl (assign_is (scene_of c.args.context.now) (boxed_expr c.args.left) c.args.tokens.now (sym c.in-Nothing.ensures)) is_done)

pub exprs::plain_assigned-returns-in-Err-clause-goes : goal.exprs::plain_assigned-returns-in-Err-clause-goes
exprs::plain_assigned-returns-in-Err-clause-goes t c = halted (halts (stall (c.in-Err.ensures.goes (part.AnExpr (part.Assigned (boxed_expr c.args.left))) (λ at right. process.give (trees.Assign at (boxed_expr c.args.left) right)))) (λ why rest g. by (expr_rule rule.assigned) refl (assign_is (scene_of c.args.context.now) (boxed_expr c.args.left) c.args.tokens.now c.requires) g))

pub exprs::plain_assigned-returns-clause-goes : goal.exprs::plain_assigned-returns-clause-goes
exprs::plain_assigned-returns-clause-goes t c = made_so _ (by (expr_rule rule.assigned) refl (assign_is (scene_of c.args.context.now) (boxed_expr c.args.left) c.args.tokens.now c.requires) (step (c.in-Ok.ensures.goes (part.AnExpr (part.Assigned (boxed_expr c.args.left))) (λ at right. process.give (trees.Assign at (boxed_expr c.args.left) right))) _ is_done)) c.assign_expr.ensures c.handed.ensures.goes

pub exprs::compound_assigned-returns-in-Err-clause-goes : goal.exprs::compound_assigned-returns-in-Err-clause-goes
exprs::compound_assigned-returns-in-Err-clause-goes t c = halted (halts (stall (behind_sign c.assign_sign.ensures c.in-Err.ensures.goes (part.AnExpr (part.Assigned (boxed_expr c.args.left))) (λ at right. process.give (trees.Compound at c.args.op (boxed_expr c.args.left) right)))) (λ why rest g. by (expr_rule (rule.compound c.args.op)) refl (assign_is (scene_of c.args.context.now) (boxed_expr c.args.left) c.args.tokens.now c.requires) g))

pub exprs::compound_assigned-returns-clause-goes : goal.exprs::compound_assigned-returns-clause-goes
exprs::compound_assigned-returns-clause-goes t c = made_so _ (by (expr_rule (rule.compound c.args.op)) refl (assign_is (scene_of c.args.context.now) (boxed_expr c.args.left) c.args.tokens.now c.requires) (step (behind_sign c.assign_sign.ensures c.in-Ok.ensures.goes (part.AnExpr (part.Assigned (boxed_expr c.args.left))) (λ at right. process.give (trees.Compound at c.args.op (boxed_expr c.args.left) right))) _ is_done)) c.compound_expr.ensures c.handed.ensures.goes

pub exprs::conditional-returns-in-Err-clause-goes : goal.exprs::conditional-returns-in-Err-clause-goes
exprs::conditional-returns-in-Err-clause-goes t c = halted (halts (halt c.in-Err.ensures.goes) (λ why rest g. by (expr_rule rule.conditional) (refl) (refl) (stops_here g)))

pub exprs::conditional-returns-clause-goes : goal.exprs::conditional-returns-clause-goes
exprs::conditional-returns-clause-goes t c = carried c.chosen.ensures.goes (λ o g. by (expr_rule rule.conditional) (refl) (refl) (here (answer c.in-Ok.ensures.goes) (last_part same o g)))

pub exprs::chosen-returns-then-not-comes-clause-goes : goal.exprs::chosen-returns-then-not-comes-clause-goes
exprs::chosen-returns-then-not-comes-clause-goes t c = given (by (expr_rule rule.not_chosen) refl (not_question (scene_of c.args.context.now) (boxed_expr c.args.condition) c.args.tokens.now (sym c.if-not-comes.ensures)) is_done)

pub exprs::chosen-returns-in-Err-clause-goes : goal.exprs::chosen-returns-in-Err-clause-goes
exprs::chosen-returns-in-Err-clause-goes t c = halted (halts (refuse c.in-Err.ensures.goes) (λ why rest g. by (expr_rule rule.chosen) refl (is_question_ahead (scene_of c.args.context.now) (boxed_expr c.args.condition) c.args.tokens.now (sym c.if-not-comes.ensures)) (g _ _)))

pub exprs::chosen-returns-in-Err-joined_operands-clause-goes : goal.exprs::chosen-returns-in-Err-joined_operands-clause-goes
exprs::chosen-returns-in-Err-joined_operands-clause-goes t c = halted (halts (halt c.in-Err-joined_operands.ensures.goes) (λ why rest g. by (expr_rule rule.chosen) refl (is_question_ahead (scene_of c.args.context.now) (boxed_expr c.args.condition) c.args.tokens.now (sym c.if-not-comes.ensures)) (take c.in-Ok.ensures.goes (stops g))))

pub exprs::chosen-returns-in-Err-taken-clause-goes : goal.exprs::chosen-returns-in-Err-taken-clause-goes
exprs::chosen-returns-in-Err-taken-clause-goes t c = halted (halts (not_shut c.in-Err-taken.ensures.goes) (λ why rest g. by (expr_rule rule.chosen) refl (is_question_ahead (scene_of c.args.context.now) (boxed_expr c.args.condition) c.args.tokens.now (sym c.if-not-comes.ensures)) (take c.in-Ok.ensures.goes (goes_on (answer c.in-Ok-joined_operands.ensures.goes) (g _ _)))))

pub exprs::chosen-returns-in-Err-conditional-clause-goes : goal.exprs::chosen-returns-in-Err-conditional-clause-goes
exprs::chosen-returns-in-Err-conditional-clause-goes t c = halted (halts (halt c.in-Err-conditional.ensures.goes) (λ why rest g. by (expr_rule rule.chosen) refl (is_question_ahead (scene_of c.args.context.now) (boxed_expr c.args.condition) c.args.tokens.now (sym c.if-not-comes.ensures)) (take c.in-Ok.ensures.goes (goes_on (answer c.in-Ok-joined_operands.ensures.goes) (shut c.in-Ok-taken.ensures.goes (stops g))))))

pub exprs::chosen-returns-clause-goes : goal.exprs::chosen-returns-clause-goes
exprs::chosen-returns-clause-goes t c = made_so _ (by (expr_rule rule.chosen) refl (is_question_ahead (scene_of c.args.context.now) (boxed_expr c.args.condition) c.args.tokens.now (sym c.if-not-comes.ensures)) (take c.in-Ok.ensures.goes (goes_on (answer c.in-Ok-joined_operands.ensures.goes) (shut c.in-Ok-taken.ensures.goes (goes_on (answer c.in-Ok-conditional.ensures.goes) is_done))))) c.cond_expr.ensures c.handed.ensures.goes

pub exprs::cast_form-returns-in-Err-clause-goes : goal.exprs::cast_form-returns-in-Err-clause-goes
exprs::cast_form-returns-in-Err-clause-goes t c = halted (halts (refuse c.in-Err.ensures.goes) (λ why rest g. by (expr_rule rule.cast) (refl) (if_true _ c.requires) (passes (c.requires) (g _ _))))

pub exprs::cast_form-returns-in-Err-specs-clause-goes : goal.exprs::cast_form-returns-in-Err-specs-clause-goes
exprs::cast_form-returns-in-Err-specs-clause-goes t c = halted (halts (halt c.in-Err-specs.ensures.goes) (λ why rest g. by (expr_rule rule.cast) (refl) (if_true _ c.requires) (passes (c.requires) (take c.in-Ok.ensures.goes (stops g)))))

pub exprs::cast_form-returns-in-Err-declarator-clause-goes : goal.exprs::cast_form-returns-in-Err-declarator-clause-goes
exprs::cast_form-returns-in-Err-declarator-clause-goes t c = halted (halts (halt c.in-Err-declarator.ensures.goes) (λ why rest g. by (expr_rule rule.cast) (refl) (if_true _ c.requires) (passes (c.requires) (take c.in-Ok.ensures.goes (goes_on (answer c.in-Ok-specs.ensures.goes) (stops g))))))

pub exprs::cast_form-returns-in-Err-taken-clause-goes : goal.exprs::cast_form-returns-in-Err-taken-clause-goes
exprs::cast_form-returns-in-Err-taken-clause-goes t c = halted (halts (not_shut c.in-Err-taken.ensures.goes) (λ why rest g. by (expr_rule rule.cast) (refl) (if_true _ c.requires) (passes (c.requires) (take c.in-Ok.ensures.goes (goes_on (answer c.in-Ok-specs.ensures.goes) (goes_on (answer c.in-Ok-declarator.ensures.goes) (g _ _)))))))

pub exprs::cast_form-returns-in-Err-cast_operand-clause-goes : goal.exprs::cast_form-returns-in-Err-cast_operand-clause-goes
exprs::cast_form-returns-in-Err-cast_operand-clause-goes t c = halted (halts (halt c.in-Err-cast_operand.ensures.goes) (λ why rest g. by (expr_rule rule.cast) (refl) (if_true _ c.requires) (passes (c.requires) (take c.in-Ok.ensures.goes (goes_on (answer c.in-Ok-specs.ensures.goes) (goes_on (answer c.in-Ok-declarator.ensures.goes) (shut c.in-Ok-taken.ensures.goes (stops g))))))))

pub exprs::cast_form-returns-clause-goes : goal.exprs::cast_form-returns-clause-goes
exprs::cast_form-returns-clause-goes t c = made_so _ (by (expr_rule rule.cast) (refl) (if_true _ c.requires) (passes (c.requires) (take c.in-Ok.ensures.goes (goes_on (answer c.in-Ok-specs.ensures.goes) (goes_on (answer c.in-Ok-declarator.ensures.goes) (shut c.in-Ok-taken.ensures.goes (goes_on (answer c.in-Ok-cast_operand.ensures.goes) is_done))))))) c.cast_expr.ensures c.handed.ensures.goes

pub exprs::cast-returns-clause-goes : goal.exprs::cast-returns-clause-goes
exprs::cast-returns-clause-goes t c = carried c.unary.ensures.goes (λ o g. by (expr_rule rule.no_cast) (refl) (if_false _ (sym c.if-type_ahead.ensures)) (passes (ap not (sym c.if-type_ahead.ensures)) (last_part same o g)))

pub exprs::cast_operand-returns-then-comes-clause-goes : goal.exprs::cast_operand-returns-then-comes-clause-goes
exprs::cast_operand-returns-then-comes-clause-goes t c = halted (stopped c.barred.ensures (is_barred (borne _ (sym c.if-comes.ensures))))

pub exprs::cast_operand-returns-clause-goes : goal.exprs::cast_operand-returns-clause-goes
exprs::cast_operand-returns-clause-goes t c = carried c.cast.ensures.goes (λ o g. by (expr_rule rule.operand_cast) (unborne _ (sym c.if-comes.ensures)) (refl) (last_part same o g))

pub exprs::unary-returns-in-Nothing-clause-goes : goal.exprs::unary-returns-in-Nothing-clause-goes
exprs::unary-returns-in-Nothing-clause-goes t c = carried c.postfix.ensures.goes (λ o g. by (expr_rule rule.no_prefix) (refl) (prefix_is (scene_of c.args.context.now) c.args.tokens.now (sym c.in-Nothing.ensures)) (last_part same o g))

pub exprs::size_of-returns-in-Err-clause-goes : goal.exprs::size_of-returns-in-Err-clause-goes
exprs::size_of-returns-in-Err-clause-goes t c = halted (halts (refuse c.in-Err.ensures.goes) (λ why rest g. by (expr_rule rule.size_of) (refl) (prefix_is (scene_of c.args.context.now) c.args.tokens.now c.requires) (g _ _)))

pub exprs::size_of-returns-clause-goes : goal.exprs::size_of-returns-clause-goes
exprs::size_of-returns-clause-goes t c = carried c.sized.ensures.goes (λ o g. by (expr_rule rule.size_of) (refl) (prefix_is (scene_of c.args.context.now) c.args.tokens.now c.requires) (take c.in-Ok.ensures.goes (last_inside same o g)))

pub exprs::pre_step-returns-in-Err-clause-goes : goal.exprs::pre_step-returns-in-Err-clause-goes
exprs::pre_step-returns-in-Err-clause-goes t c = halted (halts (refuse (sign_is c.step_sign.ensures c.in-Err.ensures.goes)) (λ why rest g. by (expr_rule (rule.pre_step c.args.way)) (refl) (prefix_is (scene_of c.args.context.now) c.args.tokens.now c.requires) (g _ _)))

pub exprs::pre_step-returns-in-Err-unary-clause-goes : goal.exprs::pre_step-returns-in-Err-unary-clause-goes
exprs::pre_step-returns-in-Err-unary-clause-goes t c = halted (halts (halt c.in-Err-unary.ensures.goes) (λ why rest g. by (expr_rule (rule.pre_step c.args.way)) (refl) (prefix_is (scene_of c.args.context.now) c.args.tokens.now c.requires) (take (sign_is c.step_sign.ensures c.in-Ok.ensures.goes) (stops g))))

pub exprs::pre_step-returns-clause-goes : goal.exprs::pre_step-returns-clause-goes
exprs::pre_step-returns-clause-goes t c = made_so _ (by (expr_rule (rule.pre_step c.args.way)) (refl) (prefix_is (scene_of c.args.context.now) c.args.tokens.now c.requires) (take (sign_is c.step_sign.ensures c.in-Ok.ensures.goes) (goes_on (answer c.in-Ok-unary.ensures.goes) is_done))) c.pre_step_expr.ensures c.handed.ensures.goes

pub exprs::unary_form-returns-in-Err-clause-goes : goal.exprs::unary_form-returns-in-Err-clause-goes
exprs::unary_form-returns-in-Err-clause-goes t c = halted (halts (refuse (sign_is c.unary_sign.ensures c.in-Err.ensures.goes)) (λ why rest g. by (expr_rule (rule.unary c.args.op)) (refl) (prefix_is (scene_of c.args.context.now) c.args.tokens.now c.requires) (g _ _)))

pub exprs::unary_form-returns-in-Err-cast-clause-goes : goal.exprs::unary_form-returns-in-Err-cast-clause-goes
exprs::unary_form-returns-in-Err-cast-clause-goes t c = halted (halts (halt c.in-Err-cast.ensures.goes) (λ why rest g. by (expr_rule (rule.unary c.args.op)) (refl) (prefix_is (scene_of c.args.context.now) c.args.tokens.now c.requires) (take (sign_is c.unary_sign.ensures c.in-Ok.ensures.goes) (stops g))))

pub exprs::unary_form-returns-clause-goes : goal.exprs::unary_form-returns-clause-goes
exprs::unary_form-returns-clause-goes t c = made_so _ (by (expr_rule (rule.unary c.args.op)) (refl) (prefix_is (scene_of c.args.context.now) c.args.tokens.now c.requires) (take (sign_is c.unary_sign.ensures c.in-Ok.ensures.goes) (goes_on (answer c.in-Ok-cast.ensures.goes) is_done))) c.unary_expr.ensures c.handed.ensures.goes

pub exprs::sized-returns-in-Err-clause-goes : goal.exprs::sized-returns-in-Err-clause-goes
exprs::sized-returns-in-Err-clause-goes t c = halted (halts (halt c.in-Err.ensures.goes) (λ why rest g. by (expr_rule rule.size_of_expr) (refl) (if_false _ (sym c.if-type_ahead.ensures)) (passes (ap not (sym c.if-type_ahead.ensures)) (stops_here g))))

pub exprs::sized-returns-clause-goes : goal.exprs::sized-returns-clause-goes
exprs::sized-returns-clause-goes t c = made_so _ (by (expr_rule rule.size_of_expr) (refl) (if_false _ (sym c.if-type_ahead.ensures)) (passes (ap not (sym c.if-type_ahead.ensures)) (here (answer c.in-Ok.ensures.goes) is_done))) c.sizeof_expr.ensures c.handed.ensures.goes

pub exprs::sized_type-returns-in-Err-clause-goes : goal.exprs::sized_type-returns-in-Err-clause-goes
exprs::sized_type-returns-in-Err-clause-goes t c = halted (halts (refuse c.in-Err.ensures.goes) (λ why rest g. by (expr_rule rule.size_of_type) (refl) (if_true _ c.requires) (passes (c.requires) (g _ _))))

pub exprs::sized_type-returns-in-Err-specs-clause-goes : goal.exprs::sized_type-returns-in-Err-specs-clause-goes
exprs::sized_type-returns-in-Err-specs-clause-goes t c = halted (halts (halt c.in-Err-specs.ensures.goes) (λ why rest g. by (expr_rule rule.size_of_type) (refl) (if_true _ c.requires) (passes (c.requires) (take c.in-Ok.ensures.goes (stops g)))))

pub exprs::sized_type-returns-in-Err-declarator-clause-goes : goal.exprs::sized_type-returns-in-Err-declarator-clause-goes
exprs::sized_type-returns-in-Err-declarator-clause-goes t c = halted (halts (halt c.in-Err-declarator.ensures.goes) (λ why rest g. by (expr_rule rule.size_of_type) (refl) (if_true _ c.requires) (passes (c.requires) (take c.in-Ok.ensures.goes (goes_on (answer c.in-Ok-specs.ensures.goes) (stops g))))))

pub exprs::sized_type-returns-in-Err-taken-clause-goes : goal.exprs::sized_type-returns-in-Err-taken-clause-goes
exprs::sized_type-returns-in-Err-taken-clause-goes t c = halted (halts (not_shut c.in-Err-taken.ensures.goes) (λ why rest g. by (expr_rule rule.size_of_type) (refl) (if_true _ c.requires) (passes (c.requires) (take c.in-Ok.ensures.goes (goes_on (answer c.in-Ok-specs.ensures.goes) (goes_on (answer c.in-Ok-declarator.ensures.goes) (g _ _)))))))

pub exprs::postfix-returns-in-Err-clause-goes : goal.exprs::postfix-returns-in-Err-clause-goes
exprs::postfix-returns-in-Err-clause-goes t c = halted (halts (halt c.in-Err.ensures.goes) (λ why rest g. by (expr_rule rule.postfix) (refl) (refl) (stops_here g)))

pub exprs::postfix-returns-clause-goes : goal.exprs::postfix-returns-clause-goes
exprs::postfix-returns-clause-goes t c = carried c.suffixes.ensures.goes (λ o g. by (expr_rule rule.postfix) (refl) (refl) (here (answer c.in-Ok.ensures.goes) (last_part same o g)))

pub exprs::enclosed-returns-in-Err-clause-goes : goal.exprs::enclosed-returns-in-Err-clause-goes
exprs::enclosed-returns-in-Err-clause-goes t c = halted (halts (refuse c.in-Err.ensures.goes) (λ why rest g. by (expr_rule rule.enclosed) (refl) (primary_is (scene_of c.args.context.now) c.args.tokens.now c.requires) (g _ _)))

pub exprs::enclosed-returns-in-Err-joined_operands-clause-goes : goal.exprs::enclosed-returns-in-Err-joined_operands-clause-goes
exprs::enclosed-returns-in-Err-joined_operands-clause-goes t c = halted (halts (halt c.in-Err-joined_operands.ensures.goes) (λ why rest g. by (expr_rule rule.enclosed) (refl) (primary_is (scene_of c.args.context.now) c.args.tokens.now c.requires) (take c.in-Ok.ensures.goes (stops g))))

pub exprs::enclosed-returns-clause-goes : goal.exprs::enclosed-returns-clause-goes
exprs::enclosed-returns-clause-goes t c = shut_so (λ o g. by (expr_rule rule.enclosed) (refl) (primary_is (scene_of c.args.context.now) c.args.tokens.now c.requires) (take c.in-Ok.ensures.goes (goes_on (answer c.in-Ok-joined_operands.ensures.goes) g))) c.enclosed_expr-whole.ensures c.closed.ensures.goes

pub exprs::index-returns-in-Err-clause-goes : goal.exprs::index-returns-in-Err-clause-goes
exprs::index-returns-in-Err-clause-goes t c = stalled (halts (refuse c.in-Err.ensures.goes) (λ why rest g. by (expr_rule rule.index) (suffix_free (scene_of c.args.context.now) (boxed_expr c.args.base) c.args.tokens.now (suffix_is (scene_of c.args.context.now) (boxed_expr c.args.base) c.args.tokens.now c.requires).1) ((suffix_is (scene_of c.args.context.now) (boxed_expr c.args.base) c.args.tokens.now c.requires).0) (g _ _)))

pub exprs::index-returns-in-Err-joined_operands-clause-goes : goal.exprs::index-returns-in-Err-joined_operands-clause-goes
exprs::index-returns-in-Err-joined_operands-clause-goes t c = stalled (halts (halt c.in-Err-joined_operands.ensures.goes) (λ why rest g. by (expr_rule rule.index) (suffix_free (scene_of c.args.context.now) (boxed_expr c.args.base) c.args.tokens.now (suffix_is (scene_of c.args.context.now) (boxed_expr c.args.base) c.args.tokens.now c.requires).1) ((suffix_is (scene_of c.args.context.now) (boxed_expr c.args.base) c.args.tokens.now c.requires).0) (take c.in-Ok.ensures.goes (stops g))))

pub exprs::index-returns-clause-goes : goal.exprs::index-returns-clause-goes
exprs::index-returns-clause-goes t c = longer_shut _ (λ o h. by (expr_rule rule.index) (suffix_free (scene_of c.args.context.now) (boxed_expr c.args.base) c.args.tokens.now (suffix_is (scene_of c.args.context.now) (boxed_expr c.args.base) c.args.tokens.now c.requires).1) ((suffix_is (scene_of c.args.context.now) (boxed_expr c.args.base) c.args.tokens.now c.requires).0) (take c.in-Ok.ensures.goes (goes_on (answer c.in-Ok-joined_operands.ensures.goes) h))) c.index_expr-whole.ensures c.closed.ensures.goes

pub exprs::suffixes-returns-then-calls_no_word-clause-goes : goal.exprs::suffixes-returns-then-calls_no_word-clause-goes
exprs::suffixes-returns-then-calls_no_word-clause-goes t c = halted (stopped (c.barred_call.ensures (boxed_expr c.forms.base) (and_left _ _ (rebased _ c.deref.ensures c.if-calls_no_word.ensures))) (c.forms.invariant.0 _ (is_barred (borne _ (rebased _ c.deref.ensures c.if-calls_no_word.ensures)))))

pub exprs::suffixes-returns-then-is_no_suffix-clause-goes : goal.exprs::suffixes-returns-then-is_no_suffix-clause-goes
exprs::suffixes-returns-then-is_no_suffix-clause-goes t c = given (c.forms.invariant.0 _ (by (expr_rule rule.no_suffix) (unborne _ (rebased _ c.deref.ensures c.if-calls_no_word.ensures)) (suffix_is (scene_of c.args.context.now) (boxed_expr c.forms.base) c.forms.rest.now (sym c.suffix_at-kind.ensures ∙ nothing_of _ (sym c.if-is_no_suffix.ensures))).0 is_done))

pub exprs::suffixes-returns-in-Err-clause-goes : goal.exprs::suffixes-returns-in-Err-clause-goes
exprs::suffixes-returns-in-Err-clause-goes t c = halted (halts (stall c.in-Err.ensures.goes) (λ why rest g. c.forms.invariant.0 _ g))

pub exprs::suffixes-forms-preserved : goal.exprs::suffixes-forms-preserved
exprs::suffixes-forms-preserved t c = ((λ o g. c.forms.invariant.0 o (step c.in-Ok.ensures.goes o g)), omega (arith, c.in-Ok.ensures.shorter))

pub exprs::call-returns-in-Err-clause-goes : goal.exprs::call-returns-in-Err-clause-goes
exprs::call-returns-in-Err-clause-goes t c = stalled (halts (refuse c.in-Err.ensures.goes) (λ why rest g. suffixes_at (sym c.word_of-name.ensures) (call_by c.requires.0 (g _ _))))

pub exprs::call-returns-in-Err-arguments-clause-goes : goal.exprs::call-returns-in-Err-arguments-clause-goes
exprs::call-returns-in-Err-arguments-clause-goes t c = stalled (halts (halt c.in-Err-arguments.ensures.goes) (λ why rest g. suffixes_at (sym c.word_of-name.ensures) (call_by c.requires.0 (take c.in-Ok.ensures.goes (stops g)))))

pub exprs::call-returns-clause-goes : goal.exprs::call-returns-clause-goes
exprs::call-returns-clause-goes t c = longer_so _ (λ o h. suffixes_at (sym c.word_of-name.ensures) (call_by c.requires.0 (take c.in-Ok.ensures.goes (goes_on (answer c.in-Ok-arguments.ensures.goes) (last_inside same o h))))) c.call_expr.ensures c.handed.ensures.goes

pub exprs::more-joints-preserved : goal.exprs::more-joints-preserved
exprs::more-joints-preserved t c = ((λ o g. c.joints.invariant.0 o (joint_step o (sym c.in-Some.ensures) (behind_sign c.joint_sign.ensures c.in-Ok.ensures.goes) c.in_ok-left.ensures g)), omega (arith, c.in-Ok.ensures.shorter))

pub exprs::more-returns-in-Err-clause-goes : goal.exprs::more-returns-in-Err-clause-goes
exprs::more-returns-in-Err-clause-goes t c = halted (halts (joint_stop (sym c.in-Some.ensures) (behind_sign c.joint_sign.ensures c.in-Err.ensures.goes)) (λ why rest g. c.joints.invariant.0 _ g))

pub exprs::more-returns-in_err-left-clause-goes : goal.exprs::more-returns-in_err-left-clause-goes
exprs::more-returns-in_err-left-clause-goes t c = passed_on (Gives _ _) c.from_residual.ensures.1 (halted no_memory)

pub exprs::right_side-returns-in-Err-clause-goes : goal.exprs::right_side-returns-in-Err-clause-goes
exprs::right_side-returns-in-Err-clause-goes t c = λ p k. stalled (halts (refuse c.in-Err.ensures.goes) (λ why rest g. g _ _))

pub exprs::right_side-returns-in-Err-operand-clause-goes : goal.exprs::right_side-returns-in-Err-operand-clause-goes
exprs::right_side-returns-in-Err-operand-clause-goes t c = λ p k. stalled (halts (halt c.in-Err-operand.ensures.goes) (λ why rest g. take c.in-Ok.ensures.goes (stops g)))

pub exprs::right_side-returns-clause-goes : goal.exprs::right_side-returns-clause-goes
exprs::right_side-returns-clause-goes t c = λ p k. stepped (λ o h. take c.in-Ok.ensures.goes (goes_on (answer c.in-Ok-operand.ensures.goes) h))

pub exprs::sized_type-returns-then-comes-clause-goes : goal.exprs::sized_type-returns-then-comes-clause-goes
exprs::sized_type-returns-then-comes-clause-goes t c = halted (stopped c.barred.ensures (by (expr_rule rule.size_of_type) refl (if_true _ c.requires) (passes c.requires (take c.in-Ok.ensures.goes (goes_on (answer c.in-Ok-specs.ensures.goes) (goes_on (answer c.in-Ok-declarator.ensures.goes) (shut c.in-Ok-taken.ensures.goes (stops_here {i = part.AfterType} (is_barred (borne _ (sym c.if-comes.ensures)))))))))))

pub exprs::sized_type-returns-clause-goes : goal.exprs::sized_type-returns-clause-goes
exprs::sized_type-returns-clause-goes t c = made_so _ (by (expr_rule rule.size_of_type) refl (if_true _ c.requires) (passes c.requires (take c.in-Ok.ensures.goes (goes_on (answer c.in-Ok-specs.ensures.goes) (goes_on (answer c.in-Ok-declarator.ensures.goes) (shut c.in-Ok-taken.ensures.goes (here (by (expr_rule rule.after_type) (unborne _ (sym c.if-comes.ensures)) refl is_done) is_done))))))) c.sizeof_type.ensures c.handed.ensures.goes

pub exprs::more-returns-clause-goes : goal.exprs::more-returns-clause-goes
exprs::more-returns-clause-goes t c = given (c.joints.invariant.0 _ (by (expr_rule rule.run_end) refl (more_is (scene_of c.args.context.now) c.args.level (boxed_expr c.joints.left) c.joints.rest.now (no_joint c.joint_at.result (λ j e. c.in_default.not-Some j e) c.joint_at.ensures)) is_done))

pub types::structure-returns-in-Err-clause-goes : goal.types::structure-returns-in-Err-clause-goes
types::structure-returns-in-Err-clause-goes t c = halted (stall c.in-Err.ensures.goes)

pub types::structure-returns-clause-goes : goal.types::structure-returns-clause-goes
types::structure-returns-clause-goes t c = carried c.structure_form.ensures.goes (λ o g. step c.in-Ok.ensures.goes o g)

pub types::structure_form-returns-then-not-comes-clause-goes : goal.types::structure_form-returns-then-not-comes-clause-goes
types::structure_form-returns-then-not-comes-clause-goes t c = given (structure_alone c.args.at c.args.tag c.requires (sym c.if-not-comes.ensures) c.structure_of.ensures)

pub types::structure_form-returns-in-Err-clause-goes : goal.types::structure_form-returns-in-Err-clause-goes
types::structure_form-returns-in-Err-clause-goes t c = halted (halts (refuse c.in-Err.ensures.goes) (λ why rest g. structure_braces c.args.tag (sym c.if-not-comes.ensures) (g _ _)))

pub types::structure_form-returns-in-Err-members-clause-goes : goal.types::structure_form-returns-in-Err-members-clause-goes
types::structure_form-returns-in-Err-members-clause-goes t c = halted (halts (halt c.in-Err-members.ensures.goes) (λ why rest g. structure_braces c.args.tag (sym c.if-not-comes.ensures) (take c.in-Ok.ensures.goes (stops g))))

pub types::structure_form-returns-clause-goes : goal.types::structure_form-returns-clause-goes
types::structure_form-returns-clause-goes t c = given (structure_braces c.args.tag (sym c.if-not-comes.ensures) (take c.in-Ok.ensures.goes (goes_on (answer c.in-Ok-members.ensures.goes) (done (spec_struct_body _ _ _)))))

pub types::enumeration-returns-in-Err-clause-goes : goal.types::enumeration-returns-in-Err-clause-goes
types::enumeration-returns-in-Err-clause-goes t c = halted (stall c.in-Err.ensures.goes)

pub types::enumeration-returns-clause-goes : goal.types::enumeration-returns-clause-goes
types::enumeration-returns-clause-goes t c = carried c.enumeration_form.ensures.goes (λ o g. step c.in-Ok.ensures.goes o g)

pub types::enumeration_form-returns-then-not-comes-clause-goes : goal.types::enumeration_form-returns-then-not-comes-clause-goes
types::enumeration_form-returns-then-not-comes-clause-goes t c = given (enumeration_alone c.args.at c.args.tag c.requires (sym c.if-not-comes.ensures) c.enumeration_of.ensures)

pub types::enumeration_form-returns-in-Err-clause-goes : goal.types::enumeration_form-returns-in-Err-clause-goes
types::enumeration_form-returns-in-Err-clause-goes t c = halted (halts (refuse c.in-Err.ensures.goes) (λ why rest g. enumeration_braces c.args.tag (sym c.if-not-comes.ensures) (g _ _)))

pub types::enumeration_form-returns-in-Err-enumerators-clause-goes : goal.types::enumeration_form-returns-in-Err-enumerators-clause-goes
types::enumeration_form-returns-in-Err-enumerators-clause-goes t c = halted (halts (halt c.in-Err-enumerators.ensures.goes) (λ why rest g. enumeration_braces c.args.tag (sym c.if-not-comes.ensures) (take c.in-Ok.ensures.goes (stops g))))

pub types::enumeration_form-returns-clause-goes : goal.types::enumeration_form-returns-clause-goes
types::enumeration_form-returns-clause-goes t c = given (enumeration_braces c.args.tag (sym c.if-not-comes.ensures) (take c.in-Ok.ensures.goes (goes_on (answer c.in-Ok-enumerators.ensures.goes) (done (spec_enum_body _ _ _)))))

pub types::enumerator-returns-in-Err-clause-goes : goal.types::enumerator-returns-in-Err-clause-goes
types::enumerator-returns-in-Err-clause-goes t c = halted (halts (refuse c.in-Err.ensures.goes) (λ why rest g. by (type_rule kind.enumerator) (refl) (refl) (g _ _)))

pub types::enumerator-returns-in_err-name-clause-goes : goal.types::enumerator-returns-in_err-name-clause-goes
types::enumerator-returns-in_err-name-clause-goes t c = passed_on (Gives _ _) c.from_residual.ensures.1 (halted no_memory)

pub types::enumerator-returns-clause-goes : goal.types::enumerator-returns-clause-goes
types::enumerator-returns-clause-goes t c = carried c.enumerator_value.ensures.goes (λ o g. by (type_rule kind.enumerator) (refl) (refl) (take c.in-Ok.ensures.goes (last_part same o (value_at c.in_ok-name.ensures g))))

pub types::enumerator_value-returns-then-not-comes-clause-goes : goal.types::enumerator_value-returns-then-not-comes-clause-goes
types::enumerator_value-returns-then-not-comes-clause-goes t c = given (by (type_rule kind.enumerator_plain) refl (if_false _ (sym c.if-not-comes.ensures)) (done (enumerator_plain _ _)))

pub types::enumerator_value-returns-in-Err-clause-goes : goal.types::enumerator_value-returns-in-Err-clause-goes
types::enumerator_value-returns-in-Err-clause-goes t c = halted (halts (refuse c.in-Err.ensures.goes) (λ why rest g. by (type_rule kind.enumerator_valued) (refl) (if_true _ (sym c.if-not-comes.ensures)) (g _ _)))

pub types::enumerator_value-returns-in-Err-conditional-clause-goes : goal.types::enumerator_value-returns-in-Err-conditional-clause-goes
types::enumerator_value-returns-in-Err-conditional-clause-goes t c = halted (halts (halt c.in-Err-conditional.ensures.goes) (λ why rest g. by (type_rule kind.enumerator_valued) (refl) (if_true _ (sym c.if-not-comes.ensures)) (take c.in-Ok.ensures.goes (stops g))))

pub types::enumerator_value-returns-clause-goes : goal.types::enumerator_value-returns-clause-goes
types::enumerator_value-returns-clause-goes t c = given (by (type_rule kind.enumerator_valued) (refl) (if_true _ (sym c.if-not-comes.ensures)) (take c.in-Ok.ensures.goes (goes_on (answer c.in-Ok-conditional.ensures.goes) (done c.valued_enumerator.ensures))))

pub declarators::declarator-returns-then-type_name_comes-clause-goes : goal.declarators::declarator-returns-then-type_name_comes-clause-goes
declarators::declarator-returns-then-type_name_comes-clause-goes t c = halted (stopped c.barred.ensures (is_barred (borne _ (sym c.if-type_name_comes.ensures))))

pub declarators::declarator-returns-clause-goes : goal.declarators::declarator-returns-clause-goes
declarators::declarator-returns-clause-goes t c = carried c.direct.ensures.goes (λ o g. by (type_rule kind.direct) (unborne _ (sym c.if-type_name_comes.ensures)) (if_false _ (sym c.if-comes.ensures)) (last_part same o g))

pub declarators::pointer-returns-in-Err-clause-goes : goal.declarators::pointer-returns-in-Err-clause-goes
declarators::pointer-returns-in-Err-clause-goes t c = halted (halts (refuse c.in-Err.ensures.goes) (λ why rest g. by (type_rule kind.pointer) (unborne _ c.requires.0) (if_true _ c.requires.1) (g _ _)))

pub declarators::pointer-returns-in-Err-consts-clause-goes : goal.declarators::pointer-returns-in-Err-consts-clause-goes
declarators::pointer-returns-in-Err-consts-clause-goes t c = halted (halts (stall c.in-Err-consts.ensures.goes) (λ why rest g. by (type_rule kind.pointer) (unborne _ c.requires.0) (if_true _ c.requires.1) (take c.in-Ok.ensures.goes (stops g))))

pub declarators::pointer-returns-in-Err-declarator-clause-goes : goal.declarators::pointer-returns-in-Err-declarator-clause-goes
declarators::pointer-returns-in-Err-declarator-clause-goes t c = halted (halts (halt c.in-Err-declarator.ensures.goes) (λ why rest g. by (type_rule kind.pointer) (unborne _ c.requires.0) (if_true _ c.requires.1) (take c.in-Ok.ensures.goes (stops (step c.in-Ok-consts.ensures.goes _ (by (type_rule kind.pointed) refl (if_false _ c.in-Ok-consts.ensures.ended) (stops_here g)))))))

pub declarators::pointer-returns-clause-goes : goal.declarators::pointer-returns-clause-goes
declarators::pointer-returns-clause-goes t c = made_so _ (by (type_rule kind.pointer) (unborne _ c.requires.0) (if_true _ c.requires.1) (take c.in-Ok.ensures.goes (goes_on (step c.in-Ok-consts.ensures.goes _ (by (type_rule kind.pointed) refl (if_false _ c.in-Ok-consts.ensures.ended) (here (answer c.in-Ok-declarator.ensures.goes) is_done))) is_done))) c.pointer_declarator.ensures c.handed.ensures.goes

pub declarators::direct-returns-then-params_come-clause-goes : goal.declarators::direct-returns-then-params_come-clause-goes
declarators::direct-returns-then-params_come-clause-goes t c = halted (stopped c.barred.ensures (is_barred (borne _ (sym c.if-params_come.ensures))))

pub declarators::nameless-returns-in_err-first-clause-goes : goal.declarators::nameless-returns-in_err-first-clause-goes
declarators::nameless-returns-in_err-first-clause-goes t c = passed_on (Gives _ _) c.from_residual.ensures.1 (halted no_memory)

pub declarators::nameless-returns-clause-goes : goal.declarators::nameless-returns-clause-goes
declarators::nameless-returns-clause-goes t c = carried c.tails.ensures.goes (λ o g. by (type_rule (kind.no_name (direct_is _ _ _ c.requires.1).0)) (unborne _ c.requires.0) (direct_is _ _ _ c.requires.1).1 (passes (direct_is _ _ _ c.requires.1).2 (last_part same o (tails_absent c.in_ok-first.ensures.ok g))))

pub declarators::direct-returns-in-Neither-clause-goes : goal.declarators::direct-returns-in-Neither-clause-goes
declarators::direct-returns-in-Neither-clause-goes t c = halted (stopped c.refused.ensures (no_rule (unborne _ (sym c.if-params_come.ensures)) (direct_is _ _ _ (sym c.in-Neither.ensures))))

pub declarators::grouped-returns-in-Err-clause-goes : goal.declarators::grouped-returns-in-Err-clause-goes
declarators::grouped-returns-in-Err-clause-goes t c = halted (halts (refuse c.in-Err.ensures.goes) (λ why rest g. by (type_rule kind.grouped) (unborne _ c.requires.0) (direct_is _ _ _ c.requires.1) (g _ _)))

pub declarators::grouped-returns-in-Err-declarator-clause-goes : goal.declarators::grouped-returns-in-Err-declarator-clause-goes
declarators::grouped-returns-in-Err-declarator-clause-goes t c = halted (halts (halt c.in-Err-declarator.ensures.goes) (λ why rest g. by (type_rule kind.grouped) (unborne _ c.requires.0) (direct_is _ _ _ c.requires.1) (take c.in-Ok.ensures.goes (stops g))))

pub declarators::grouped-returns-then-not-is_given-clause-goes : goal.declarators::grouped-returns-then-not-is_given-clause-goes
declarators::grouped-returns-then-not-is_given-clause-goes t c = halted (stopped c.refused.ensures (by (type_rule kind.grouped) (unborne _ c.requires.0) (direct_is _ _ _ c.requires.1) (take c.in-Ok.ensures.goes (goes_on (answer c.in-Ok-declarator.ensures.goes) (stops (by (type_rule kind.group_end) refl refl (fails (regiven c.deref.ensures c.if-not-is_given.ensures))))))))

pub declarators::tails-returns-then-calls_no_name-clause-goes : goal.declarators::tails-returns-then-calls_no_name-clause-goes
declarators::tails-returns-then-calls_no_name-clause-goes t c = halted (stopped c.barred.ensures (c.forms.invariant.0 _ (is_barred (borne _ (renamed _ _ c.deref.ensures c.if-calls_no_name.ensures)))))

pub declarators::tails-returns-then-is_no_tail-clause-goes : goal.declarators::tails-returns-then-is_no_tail-clause-goes
declarators::tails-returns-then-is_no_tail-clause-goes t c = given (c.forms.invariant.0 _ (by (type_rule kind.tails_end) (unborne _ (renamed _ _ c.deref.ensures c.if-calls_no_name.ensures)) (tail_is _ _ _ _ _ (sym c.tail_at-kind.ensures ∙ no_tail _ (sym c.if-is_no_tail.ensures))) is_done))

pub declarators::tails-returns-in-Err-clause-goes : goal.declarators::tails-returns-in-Err-clause-goes
declarators::tails-returns-in-Err-clause-goes t c = halted (halts (stall (c.in-Err.ensures.goes _ (unborne _ (renamed _ _ c.deref.ensures c.if-calls_no_name.ensures)))) (λ why rest g. c.forms.invariant.0 _ g))

pub declarators::tails-forms-preserved : goal.declarators::tails-forms-preserved
declarators::tails-forms-preserved t c = ((λ o g. c.forms.invariant.0 o (step (c.in-Ok.ensures.goes _ (unborne _ (renamed _ _ c.deref.ensures c.if-calls_no_name.ensures))) o g)), omega (arith, c.in-Ok.ensures.shorter))

pub declarators::array-returns-in-Err-clause-goes : goal.declarators::array-returns-in-Err-clause-goes
declarators::array-returns-in-Err-clause-goes t c = λ plain e. stalled (halts (refuse c.in-Err.ensures.goes) (λ why rest g. by (type_rule kind.array) (e) (tail_is _ _ _ _ _ c.requires) (g _ _)))

pub declarators::array-returns-clause-goes : goal.declarators::array-returns-clause-goes
declarators::array-returns-clause-goes t c = λ plain e. led (λ a rest g o h. by (type_rule kind.array) e (tail_is _ _ _ _ _ c.requires) (take c.in-Ok.ensures.goes (goes_on g (last_part same o h)))) (λ why rest g. by (type_rule kind.array) e (tail_is _ _ _ _ _ c.requires) (take c.in-Ok.ensures.goes (stops g))) c.size.ensures.goes

pub declarators::function-returns-in-Err-clause-goes : goal.declarators::function-returns-in-Err-clause-goes
declarators::function-returns-in-Err-clause-goes t c = λ plain e. stalled (halts (refuse c.in-Err.ensures.goes) (λ why rest g. by (type_rule kind.function) (e) (tail_is _ _ _ _ _ c.requires) (g _ _)))

pub declarators::function-returns-clause-goes : goal.declarators::function-returns-clause-goes
declarators::function-returns-clause-goes t c = λ plain e. led (λ a rest g o h. by (type_rule kind.function) e (tail_is _ _ _ _ _ c.requires) (take c.in-Ok.ensures.goes (goes_on g (last_part same o h)))) (λ why rest g. by (type_rule kind.function) e (tail_is _ _ _ _ _ c.requires) (take c.in-Ok.ensures.goes (stops g))) c.parameters.ensures.goes

pub declarators::size-returns-then-is_member-clause-goes : goal.declarators::size-returns-then-is_member-clause-goes
declarators::size-returns-then-is_member-clause-goes t c = halted (stopped c.barred.ensures (is_barred (borne _ (both_true (sym c.if-comes.ensures) (sym c.if-is_member.ensures)))))

pub declarators::size-returns-in-Err-clause-goes : goal.declarators::size-returns-in-Err-clause-goes
declarators::size-returns-in-Err-clause-goes t c = halted (halts (halt c.in-Err.ensures.goes) (λ why rest g. by (type_rule kind.size) (unborne _ (first_false _ (sym c.if-comes.ensures))) (if_false _ (sym c.if-comes.ensures)) (stops_here g)))

pub declarators::size-returns-clause-goes : goal.declarators::size-returns-clause-goes
declarators::size-returns-clause-goes t c = closed_so (λ o g. by (type_rule kind.size) (unborne _ (first_false _ (sym c.if-comes.ensures))) (if_false _ (sym c.if-comes.ensures)) (here (answer c.in-Ok.ensures.goes) g)) c.array_declarator-whole.ensures c.closed.ensures.goes

pub declarators::parameter-returns-then-plain_word_ahead-clause-goes : goal.declarators::parameter-returns-then-plain_word_ahead-clause-goes
declarators::parameter-returns-then-plain_word_ahead-clause-goes t c = halted (stopped c.barred.ensures (is_barred (borne _ (sym c.if-plain_word_ahead.ensures))))

pub declarators::parameter-returns-in-Err-clause-goes : goal.declarators::parameter-returns-in-Err-clause-goes
declarators::parameter-returns-in-Err-clause-goes t c = halted (halts (halt c.in-Err.ensures.goes) (λ why rest g. by (type_rule kind.parameter) (unborne _ (sym c.if-plain_word_ahead.ensures)) (refl) (stops_here g)))

pub declarators::parameter-returns-in-Err-declarator-clause-goes : goal.declarators::parameter-returns-in-Err-declarator-clause-goes
declarators::parameter-returns-in-Err-declarator-clause-goes t c = halted (halts (halt c.in-Err-declarator.ensures.goes) (λ why rest g. by (type_rule kind.parameter) (unborne _ (sym c.if-plain_word_ahead.ensures)) (refl) (here (answer c.in-Ok.ensures.goes) (stops_here g))))

pub declarators::parameter-returns-clause-goes : goal.declarators::parameter-returns-clause-goes
declarators::parameter-returns-clause-goes t c = given (by (type_rule kind.parameter) (unborne _ (sym c.if-plain_word_ahead.ensures)) (refl) (here (answer c.in-Ok.ensures.goes) (here (answer c.in-Ok-declarator.ensures.goes) (done c.param_of.ensures))))

pub exprs::arguments-all-init : goal.exprs::arguments-all-init
exprs::arguments-all-init t c = (first_argument (sym c.if-comes.ensures) c.new-args.ensures.items, omega arith)

pub exprs::arguments-returns-in-Err-clause-goes : goal.exprs::arguments-returns-in-Err-clause-goes
exprs::arguments-returns-in-Err-clause-goes t c = not_read c.all.invariant.0 c.in-Err.ensures.goes

pub exprs::arguments-returns-in_err-push_expr-clause-goes : goal.exprs::arguments-returns-in_err-push_expr-clause-goes
exprs::arguments-returns-in_err-push_expr-clause-goes t c = passed_on (Gives _ _) c.from_residual.ensures.1 (halted no_memory)

pub exprs::arguments-returns-then-comes-2-clause-goes : goal.exprs::arguments-returns-then-comes-2-clause-goes
exprs::arguments-returns-then-comes-2-clause-goes t c = closed_so (λ o g. goes_behind c.all.invariant.0 c.in-Ok.ensures.goes o (by (expr_rule rule.arguments_end) refl (if_true _ (sym c.if-comes-2.ensures)) g)) (c.from_vec.ensures ∙ c.in_ok-push_expr.ensures) c.closed.ensures.goes

pub exprs::arguments-returns-in-Err-taken-clause-goes : goal.exprs::arguments-returns-in-Err-taken-clause-goes
exprs::arguments-returns-in-Err-taken-clause-goes t c = halted (halts (refuse c.in-Err-taken.ensures.goes) (λ why rest g. goes_behind c.all.invariant.0 c.in-Ok.ensures.goes _ (by (expr_rule rule.arguments_more) refl (if_false _ (sym c.if-comes-2.ensures)) (g _ _))))

pub exprs::arguments-all-preserved : goal.exprs::arguments-all-preserved
exprs::arguments-all-preserved t c = (next_argument (sym c.if-comes-2.ensures) c.in-Ok-taken.ensures.goes c.in_ok-push_expr.ensures (λ o g. goes_behind c.all.invariant.0 c.in-Ok.ensures.goes o g), omega (arith, c.in-Ok.ensures.shorter, c.in-Ok-taken.ensures.shorter))

pub types::members-lines-init : goal.types::members-lines-init
types::members-lines-init t c = (first_member c.new-items.ensures.items, omega arith)

pub types::members-returns-in-Err-clause-goes : goal.types::members-returns-in-Err-clause-goes
types::members-returns-in-Err-clause-goes t c = not_read c.lines.invariant.0 c.in-Err.ensures.goes

pub types::members-returns-in_err-push_member-clause-goes : goal.types::members-returns-in_err-push_member-clause-goes
types::members-returns-in_err-push_member-clause-goes t c = passed_on (Gives _ _) c.from_residual.ensures.1 (halted no_memory)

pub types::members-returns-then-comes-clause-goes : goal.types::members-returns-then-comes-clause-goes
types::members-returns-then-comes-clause-goes t c = closed_so (λ o g. goes_behind c.lines.invariant.0 c.in-Ok.ensures.goes o (by (type_rule kind.members_end) refl (if_true _ (sym c.if-comes.ensures)) g)) (c.from_vec.ensures ∙ c.in_ok-push_member.ensures) c.closed.ensures.goes

pub types::members-lines-preserved : goal.types::members-lines-preserved
types::members-lines-preserved t c = (next_member (sym c.if-comes.ensures) c.in_ok-push_member.ensures (λ o g. goes_behind c.lines.invariant.0 c.in-Ok.ensures.goes o g), omega (arith, c.in-Ok.ensures.shorter))

pub types::enumerators-values-init : goal.types::enumerators-values-init
types::enumerators-values-init t c = (first_enumerator c.new-items.ensures.items, omega arith)

pub types::enumerators-returns-in-Err-clause-goes : goal.types::enumerators-returns-in-Err-clause-goes
types::enumerators-returns-in-Err-clause-goes t c = not_read c.values.invariant.0 c.in-Err.ensures.goes

pub types::enumerators-returns-in_err-push_enumerator-clause-goes : goal.types::enumerators-returns-in_err-push_enumerator-clause-goes
types::enumerators-returns-in_err-push_enumerator-clause-goes t c = passed_on (Gives _ _) c.from_residual.ensures.1 (halted no_memory)

pub types::enumerators-returns-then-comes-clause-goes : goal.types::enumerators-returns-then-comes-clause-goes
types::enumerators-returns-then-comes-clause-goes t c = closed_so (λ o g. goes_behind c.values.invariant.0 c.in-Ok.ensures.goes o (by (type_rule kind.enumerators_end) refl (if_true _ (sym c.if-comes.ensures)) g)) (c.from_vec.ensures ∙ c.in_ok-push_enumerator.ensures) c.closed.ensures.goes

pub types::enumerators-returns-in-Err-taken-clause-goes : goal.types::enumerators-returns-in-Err-taken-clause-goes
types::enumerators-returns-in-Err-taken-clause-goes t c = halted (halts (refuse c.in-Err-taken.ensures.goes) (λ why rest g. goes_behind c.values.invariant.0 c.in-Ok.ensures.goes _ (by (type_rule kind.enumerators_more) refl (if_false _ (sym c.if-comes.ensures)) (g _ _))))

pub types::enumerators-returns-then-comes-2-clause-goes : goal.types::enumerators-returns-then-comes-2-clause-goes
types::enumerators-returns-then-comes-2-clause-goes t c = carried c.comma_end.ensures.goes (λ o g. goes_behind c.values.invariant.0 c.in-Ok.ensures.goes o (comma_behind o (sym c.if-comes.ensures) c.in-Ok-taken.ensures.goes c.in_ok-push_enumerator.ensures g))

pub types::enumerators-values-preserved : goal.types::enumerators-values-preserved
types::enumerators-values-preserved t c = (next_enumerator (sym c.if-comes-2.ensures) c.in_ok-push_enumerator.ensures (λ o g. goes_behind c.values.invariant.0 c.in-Ok.ensures.goes o (next_step o (sym c.if-comes.ensures) c.in-Ok-taken.ensures.goes g)), omega (arith, c.in-Ok.ensures.shorter, c.in-Ok-taken.ensures.shorter))

pub declarators::parameters-all-init : goal.declarators::parameters-all-init
declarators::parameters-all-init t c = (first_parameter (sym c.if-comes.ensures) c.new-params.ensures.items, refl, omega arith)

pub declarators::parameters-returns-in-Err-clause-goes : goal.declarators::parameters-returns-in-Err-clause-goes
declarators::parameters-returns-in-Err-clause-goes t c = not_read c.all.invariant.0 c.in-Err.ensures.goes

pub declarators::parameters-returns-in_err-push_param-clause-goes : goal.declarators::parameters-returns-in_err-push_param-clause-goes
declarators::parameters-returns-in_err-push_param-clause-goes t c = passed_on (Gives _ _) c.from_residual.ensures.1 (halted no_memory)

pub declarators::parameters-returns-then-comes-2-clause-goes : goal.declarators::parameters-returns-then-comes-2-clause-goes
declarators::parameters-returns-then-comes-2-clause-goes t c = closed_so (λ o g. goes_behind c.all.invariant.0 c.in-Ok.ensures.goes o (by (type_rule kind.parameters_end) refl (if_true _ (sym c.if-comes-2.ensures)) (function_so c.args.at c.all.invariant.1 c.in_ok-push_param.ensures g))) c.function_declarator-whole.ensures c.closed.ensures.goes

pub declarators::parameters-returns-in-Err-taken-clause-goes : goal.declarators::parameters-returns-in-Err-taken-clause-goes
declarators::parameters-returns-in-Err-taken-clause-goes t c = halted (halts (refuse c.in-Err-taken.ensures.goes) (λ why rest g. goes_behind c.all.invariant.0 c.in-Ok.ensures.goes _ (by (type_rule kind.parameters_more) refl (if_false _ (sym c.if-comes-2.ensures)) (g _ _))))

pub declarators::parameters-all-preserved : goal.declarators::parameters-all-preserved
declarators::parameters-all-preserved t c = (next_parameter (sym c.if-comes-2.ensures) c.in-Ok-taken.ensures.goes c.in_ok-push_param.ensures (λ o g. goes_behind c.all.invariant.0 c.in-Ok.ensures.goes o g), c.all.invariant.1, omega (arith, c.in-Ok.ensures.shorter, c.in-Ok-taken.ensures.shorter))

pub types::specs-words-init : goal.types::specs-words-init
types::specs-words-init t c = (first_spec c.new-items.ensures.items, no_type c.new-items.ensures.items, omega arith)

pub types::specs-returns-in-Err-clause-goes : goal.types::specs-returns-in-Err-clause-goes
types::specs-returns-in-Err-clause-goes t c = not_read c.words.invariant.0 c.in-Err.ensures.goes

pub types::specs-returns-in_err-push_spec-clause-goes : goal.types::specs-returns-in_err-push_spec-clause-goes
types::specs-returns-in_err-push_spec-clause-goes t c = passed_on (Gives _ _) c.from_residual.ensures.1 (halted no_memory)

pub types::specs-returns-then-type_comes_again-clause-goes : goal.types::specs-returns-then-type_comes_again-clause-goes
types::specs-returns-then-type_comes_again-clause-goes t c = halted (stopped c.barred.ensures (goes_behind c.words.invariant.0 c.in-Ok.ensures.goes _ (is_barred (borne _ (again_is _ (more_type _ _ c.tells_type-has_type.ensures c.words.invariant.1 refl) (sym c.if-type_comes_again.ensures))))))

pub types::specs-returns-then-not-spec_ahead-clause-goes : goal.types::specs-returns-then-not-spec_ahead-clause-goes
types::specs-returns-then-not-spec_ahead-clause-goes t c = given (goes_behind c.words.invariant.0 c.in-Ok.ensures.goes _ (by (type_rule kind.specs_end) (unborne _ (again_is _ (more_type _ _ c.tells_type-has_type.ensures c.words.invariant.1 refl) (sym c.if-type_comes_again.ensures))) (if_false _ (sym c.if-not-spec_ahead.ensures)) (passes (ap not (sym c.if-not-spec_ahead.ensures)) (done (c.from_vec.ensures ∙ c.in_ok-push_spec.ensures)))))

pub types::specs-words-preserved : goal.types::specs-words-preserved
types::specs-words-preserved t c = (next_spec (unborne _ (again_is _ (more_type _ _ c.tells_type-has_type.ensures c.words.invariant.1 refl) (sym c.if-type_comes_again.ensures))) (sym c.if-not-spec_ahead.ensures) c.in_ok-push_spec.ensures (λ o g. goes_behind c.words.invariant.0 c.in-Ok.ensures.goes o g), more_type _ _ c.tells_type-has_type.ensures c.words.invariant.1 c.in_ok-push_spec.ensures, omega (arith, c.in-Ok.ensures.shorter))

pub types::member-returns-in-Err-clause-goes : goal.types::member-returns-in-Err-clause-goes
types::member-returns-in-Err-clause-goes t c = halted (halts (halt c.in-Err.ensures.goes) (λ why rest g. by (type_rule kind.member) (refl) (refl) (stops_here g)))

pub types::member-all-init : goal.types::member-all-init
types::member-all-init t c = (first_declarator c.in-Ok.ensures.goes c.new-declarators.ensures.items, c.in-Ok.ensures.shorter)

pub types::member-returns-in-Err-declarator-clause-goes : goal.types::member-returns-in-Err-declarator-clause-goes
types::member-returns-in-Err-declarator-clause-goes t c = not_read c.all.invariant.0 c.in-Err-declarator.ensures.goes

pub types::member-returns-in_err-push_declarator-clause-goes : goal.types::member-returns-in_err-push_declarator-clause-goes
types::member-returns-in_err-push_declarator-clause-goes t c = passed_on (Gives _ _) c.from_residual.ensures.1 (halted no_memory)

pub types::member-returns-then-comes-clause-goes : goal.types::member-returns-then-comes-clause-goes
types::member-returns-then-comes-clause-goes t c = halted (stopped c.barred.ensures (goes_behind c.all.invariant.0 c.in-Ok-declarator.ensures.goes _ (is_barred (borne _ (sym c.if-comes.ensures)))))

pub types::member-returns-then-comes-2-clause-goes : goal.types::member-returns-then-comes-2-clause-goes
types::member-returns-then-comes-2-clause-goes t c = carried c.members_end.ensures.goes (λ o g. goes_behind c.all.invariant.0 c.in-Ok-declarator.ensures.goes o (declarators_at c.in_ok-push_declarator.ensures g))

pub types::member-returns-in-Err-taken-clause-goes : goal.types::member-returns-in-Err-taken-clause-goes
types::member-returns-in-Err-taken-clause-goes t c = halted (halts (refuse c.in-Err-taken.ensures.goes) (λ why rest g. goes_behind c.all.invariant.0 c.in-Ok-declarator.ensures.goes _ (by (type_rule kind.declarators_more) (unborne _ (sym c.if-comes.ensures)) (if_false _ (sym c.if-comes-2.ensures)) (g _ _))))

pub types::member-all-preserved : goal.types::member-all-preserved
types::member-all-preserved t c = (next_declarator (sym c.if-comes.ensures) (sym c.if-comes-2.ensures) c.in-Ok-taken.ensures.goes c.in_ok-push_declarator.ensures (λ o g. goes_behind c.all.invariant.0 c.in-Ok-declarator.ensures.goes o g), omega (arith, c.in-Ok-declarator.ensures.shorter, c.in-Ok-taken.ensures.shorter))

pub declarators::grouped-returns-in-Err-closed-clause-goes : goal.declarators::grouped-returns-in-Err-closed-clause-goes
declarators::grouped-returns-in-Err-closed-clause-goes t c = halted (halts (not_grouped (regiven c.deref.ensures c.if-not-is_given.ensures) c.in-Err-closed.ensures.goes) (λ why rest g. by (type_rule kind.grouped) (unborne _ c.requires.0) (direct_is _ _ _ c.requires.1) (take c.in-Ok.ensures.goes (goes_on (answer c.in-Ok-declarator.ensures.goes) (g _ _)))))

pub declarators::grouped-returns-clause-goes : goal.declarators::grouped-returns-clause-goes
declarators::grouped-returns-clause-goes t c = carried c.tails.ensures.goes (λ o g. by (type_rule kind.grouped) (unborne _ c.requires.0) (direct_is _ _ _ c.requires.1) (take c.in-Ok.ensures.goes (goes_on (answer c.in-Ok-declarator.ensures.goes) (behind_group boxed_declarator (regiven c.deref.ensures c.if-not-is_given.ensures) c.in-Ok-closed.ensures.goes c.grouped_declarator-whole.ensures (λ e. last_part same o (tails_at e g))))))

pub declarators::named-returns-in-Err-clause-goes : goal.declarators::named-returns-in-Err-clause-goes
declarators::named-returns-in-Err-clause-goes t c = halted (halts (stall (c.in-Err.ensures.goes (part.ADeclarator (part.Direct c.args.role)) (λ d. process.part 0 (scene_of c.args.context.now) (part.ADeclarator (part.Tails c.args.role true d)) process.give))) (λ why rest g. by (type_rule (kind.declared_name (direct_is _ _ _ c.requires.1).0)) (unborne _ c.requires.0) (direct_is _ _ _ c.requires.1).1 g))

pub declarators::named-returns-clause-goes : goal.declarators::named-returns-clause-goes
declarators::named-returns-clause-goes t c = carried c.tails.ensures.goes (λ o g. by (type_rule (kind.declared_name (direct_is _ _ _ c.requires.1).0)) (unborne _ c.requires.0) (direct_is _ _ _ c.requires.1).1 (step (c.in-Ok.ensures.goes (part.ADeclarator (part.Direct c.args.role)) (λ d. process.part 0 (scene_of c.args.context.now) (part.ADeclarator (part.Tails c.args.role true d)) process.give)) _ (last_part same o g)))

pub exprs::joined_operands-returns-clause-shorter : goal.exprs::joined_operands-returns-clause-shorter
exprs::joined_operands-returns-clause-shorter t c = shorter_by c.more.result c.more.ensures.shorter c.in-Ok.ensures.shorter

pub exprs::right_side-returns-clause-shorter : goal.exprs::right_side-returns-clause-shorter
exprs::right_side-returns-clause-shorter t c = omega (arith, c.in-Ok.ensures.shorter, c.in-Ok-operand.ensures.shorter)

pub exprs::assignment-returns-clause-shorter : goal.exprs::assignment-returns-clause-shorter
exprs::assignment-returns-clause-shorter t c = shorter_by c.assigned.result c.assigned.ensures.shorter c.in-Ok.ensures.shorter

pub exprs::plain_assigned-returns-clause-shorter : goal.exprs::plain_assigned-returns-clause-shorter
exprs::plain_assigned-returns-clause-shorter t c = no_longer_by c.handed.result c.handed.ensures.shorter (omega (arith, c.in-Ok.ensures.shorter))

pub exprs::compound_assigned-returns-clause-shorter : goal.exprs::compound_assigned-returns-clause-shorter
exprs::compound_assigned-returns-clause-shorter t c = no_longer_by c.handed.result c.handed.ensures.shorter (omega (arith, c.in-Ok.ensures.shorter))

pub exprs::conditional-returns-clause-shorter : goal.exprs::conditional-returns-clause-shorter
exprs::conditional-returns-clause-shorter t c = shorter_by c.chosen.result c.chosen.ensures.shorter c.in-Ok.ensures.shorter

pub exprs::chosen-returns-clause-shorter : goal.exprs::chosen-returns-clause-shorter
exprs::chosen-returns-clause-shorter t c = no_longer_by c.handed.result c.handed.ensures.shorter (omega (arith, c.in-Ok.ensures.shorter, c.in-Ok-joined_operands.ensures.shorter, c.in-Ok-taken.ensures.shorter, c.in-Ok-conditional.ensures.shorter))

pub exprs::cast_form-returns-clause-shorter : goal.exprs::cast_form-returns-clause-shorter
exprs::cast_form-returns-clause-shorter t c = shorter_by c.handed.result c.handed.ensures.shorter (omega (arith, c.in-Ok.ensures.shorter, c.in-Ok-specs.ensures.shorter, c.in-Ok-declarator.ensures.shorter, c.in-Ok-taken.ensures.shorter, c.in-Ok-cast_operand.ensures.shorter))

pub exprs::size_of-returns-clause-shorter : goal.exprs::size_of-returns-clause-shorter
exprs::size_of-returns-clause-shorter t c = shorter_still c.sized.result c.sized.ensures.shorter (omega (arith, c.in-Ok.ensures.shorter))

pub exprs::pre_step-returns-clause-shorter : goal.exprs::pre_step-returns-clause-shorter
exprs::pre_step-returns-clause-shorter t c = shorter_by c.handed.result c.handed.ensures.shorter (omega (arith, c.in-Ok.ensures.shorter, c.in-Ok-unary.ensures.shorter))

pub exprs::unary_form-returns-clause-shorter : goal.exprs::unary_form-returns-clause-shorter
exprs::unary_form-returns-clause-shorter t c = shorter_by c.handed.result c.handed.ensures.shorter (omega (arith, c.in-Ok.ensures.shorter, c.in-Ok-cast.ensures.shorter))

pub exprs::sized-returns-clause-shorter : goal.exprs::sized-returns-clause-shorter
exprs::sized-returns-clause-shorter t c = shorter_by c.handed.result c.handed.ensures.shorter c.in-Ok.ensures.shorter

pub exprs::sized_type-returns-clause-shorter : goal.exprs::sized_type-returns-clause-shorter
exprs::sized_type-returns-clause-shorter t c = shorter_by c.handed.result c.handed.ensures.shorter (omega (arith, c.in-Ok.ensures.shorter, c.in-Ok-specs.ensures.shorter, c.in-Ok-declarator.ensures.shorter, c.in-Ok-taken.ensures.shorter))

pub exprs::postfix-returns-clause-shorter : goal.exprs::postfix-returns-clause-shorter
exprs::postfix-returns-clause-shorter t c = shorter_by c.suffixes.result c.suffixes.ensures.shorter c.in-Ok.ensures.shorter

pub exprs::index-returns-clause-shorter : goal.exprs::index-returns-clause-shorter
exprs::index-returns-clause-shorter t c = shorter_still c.closed.result c.closed.ensures.shorter (omega (arith, c.in-Ok.ensures.shorter, c.in-Ok-joined_operands.ensures.shorter))

pub exprs::call-returns-clause-shorter : goal.exprs::call-returns-clause-shorter
exprs::call-returns-clause-shorter t c = shorter_by c.handed.result c.handed.ensures.shorter (omega (arith, c.in-Ok.ensures.shorter, c.in-Ok-arguments.ensures.shorter))

pub exprs::enclosed-returns-clause-shorter : goal.exprs::enclosed-returns-clause-shorter
exprs::enclosed-returns-clause-shorter t c = shorter_still c.closed.result c.closed.ensures.shorter (omega (arith, c.in-Ok.ensures.shorter, c.in-Ok-joined_operands.ensures.shorter))

pub exprs::arguments-returns-then-comes-2-clause-shorter : goal.exprs::arguments-returns-then-comes-2-clause-shorter
exprs::arguments-returns-then-comes-2-clause-shorter t c = shorter_still c.closed.result c.closed.ensures.shorter (omega (arith, c.in-Ok.ensures.shorter))

pub types::specs-returns-then-not-spec_ahead-clause-shorter : goal.types::specs-returns-then-not-spec_ahead-clause-shorter
types::specs-returns-then-not-spec_ahead-clause-shorter t c = omega (arith, c.in-Ok.ensures.shorter)

pub types::structure-returns-clause-shorter : goal.types::structure-returns-clause-shorter
types::structure-returns-clause-shorter t c = shorter_by c.structure_form.result c.structure_form.ensures.shorter c.in-Ok.ensures.shorter

pub types::structure_form-returns-clause-shorter : goal.types::structure_form-returns-clause-shorter
types::structure_form-returns-clause-shorter t c = omega (arith, c.in-Ok.ensures.shorter, c.in-Ok-members.ensures.shorter)

pub types::enumeration-returns-clause-shorter : goal.types::enumeration-returns-clause-shorter
types::enumeration-returns-clause-shorter t c = shorter_by c.enumeration_form.result c.enumeration_form.ensures.shorter c.in-Ok.ensures.shorter

pub types::enumeration_form-returns-clause-shorter : goal.types::enumeration_form-returns-clause-shorter
types::enumeration_form-returns-clause-shorter t c = omega (arith, c.in-Ok.ensures.shorter, c.in-Ok-enumerators.ensures.shorter)

pub types::members-returns-then-comes-clause-shorter : goal.types::members-returns-then-comes-clause-shorter
types::members-returns-then-comes-clause-shorter t c = shorter_still c.closed.result c.closed.ensures.shorter (omega (arith, c.in-Ok.ensures.shorter))

pub types::member-returns-then-comes-2-clause-shorter : goal.types::member-returns-then-comes-2-clause-shorter
types::member-returns-then-comes-2-clause-shorter t c = shorter_still c.members_end.result c.members_end.ensures.shorter (omega (arith, c.in-Ok-declarator.ensures.shorter))

pub types::enumerators-returns-then-comes-clause-shorter : goal.types::enumerators-returns-then-comes-clause-shorter
types::enumerators-returns-then-comes-clause-shorter t c = shorter_still c.closed.result c.closed.ensures.shorter (omega (arith, c.in-Ok.ensures.shorter))

pub types::enumerators-returns-then-comes-2-clause-shorter : goal.types::enumerators-returns-then-comes-2-clause-shorter
types::enumerators-returns-then-comes-2-clause-shorter t c = shorter_still c.comma_end.result c.comma_end.ensures.shorter (omega (arith, c.in-Ok.ensures.shorter, c.in-Ok-taken.ensures.shorter))

pub types::enumerator-returns-clause-shorter : goal.types::enumerator-returns-clause-shorter
types::enumerator-returns-clause-shorter t c = shorter_by c.enumerator_value.result c.enumerator_value.ensures.shorter (omega (arith, c.in-Ok.ensures.shorter))

pub types::enumerator_value-returns-clause-shorter : goal.types::enumerator_value-returns-clause-shorter
types::enumerator_value-returns-clause-shorter t c = omega (arith, c.in-Ok.ensures.shorter, c.in-Ok-conditional.ensures.shorter)

pub declarators::pointer-returns-clause-shorter : goal.declarators::pointer-returns-clause-shorter
declarators::pointer-returns-clause-shorter t c = shorter_by c.handed.result c.handed.ensures.shorter (omega (arith, c.in-Ok.ensures.shorter, c.in-Ok-consts.ensures.shorter, c.in-Ok-declarator.ensures.shorter))

pub declarators::declarator-returns-then-comes-clause-shorter : goal.declarators::declarator-returns-then-comes-clause-shorter
declarators::declarator-returns-then-comes-clause-shorter t c = no_longer c.pointer.result _ c.pointer.ensures.shorter

pub declarators::direct-returns-in-Name-clause-shorter : goal.declarators::direct-returns-in-Name-clause-shorter
declarators::direct-returns-in-Name-clause-shorter t c = no_longer c.named.result _ c.named.ensures.shorter

pub declarators::direct-returns-in-Grouped-clause-shorter : goal.declarators::direct-returns-in-Grouped-clause-shorter
declarators::direct-returns-in-Grouped-clause-shorter t c = no_longer c.grouped.result _ c.grouped.ensures.shorter

pub declarators::named-returns-clause-shorter : goal.declarators::named-returns-clause-shorter
declarators::named-returns-clause-shorter t c = shorter_by c.tails.result c.tails.ensures.shorter c.in-Ok.ensures.shorter

pub declarators::grouped-returns-clause-shorter : goal.declarators::grouped-returns-clause-shorter
declarators::grouped-returns-clause-shorter t c = shorter_by c.tails.result c.tails.ensures.shorter (omega (arith, c.in-Ok.ensures.shorter, c.in-Ok-declarator.ensures.shorter, c.in-Ok-closed.ensures.shorter))

pub declarators::array-returns-clause-shorter : goal.declarators::array-returns-clause-shorter
declarators::array-returns-clause-shorter t c = shorter_still c.size.result c.size.ensures.shorter (omega (arith, c.in-Ok.ensures.shorter))

pub declarators::function-returns-clause-shorter : goal.declarators::function-returns-clause-shorter
declarators::function-returns-clause-shorter t c = shorter_still c.parameters.result c.parameters.ensures.shorter (omega (arith, c.in-Ok.ensures.shorter))

pub declarators::size-returns-clause-shorter : goal.declarators::size-returns-clause-shorter
declarators::size-returns-clause-shorter t c = shorter_still c.closed.result c.closed.ensures.shorter (omega (arith, c.in-Ok.ensures.shorter))

pub declarators::parameters-returns-then-comes-2-clause-shorter : goal.declarators::parameters-returns-then-comes-2-clause-shorter
declarators::parameters-returns-then-comes-2-clause-shorter t c = shorter_still c.closed.result c.closed.ensures.shorter (omega (arith, c.in-Ok.ensures.shorter))

pub declarators::parameter-returns-clause-shorter : goal.declarators::parameter-returns-clause-shorter
declarators::parameter-returns-clause-shorter t c = omega (arith, c.in-Ok.ensures.shorter, c.in-Ok-declarator.ensures.shorter)
