use Rattle.c_grammar.specs.Parts.{AStmt, Statement, Else, Item, Items}
use Rattle.std.proofs.Common.{refl, sym, ap, ◌∙◌, arith}
use Rattle.std.specs.Prelude.{not, ◌&&◌}
use Rattle.c_syntax_written.specs.declared.declaration.Decl.{Decl}
use Rattle.c_syntax_written.specs.declared.file.Stmt.{Stmt}
use Rattle.c_syntax_written.specs.WrittenDecl.{decl_tree}
use Rattle.c_grammar.specs.Choice.{is_else_word}
use Rattle.c_grammar.specs.Descent.{fails, goes_on, passes, stops}
use Rattle.c_parser_steps.specs.Answers.{stalled, stepped, halted, no_memory}
use Rattle.c_grammar.specs.Made.{ends_open}
use Rattle.c_grammar.specs.Refused.{first_is}
use Rattle.c_syntax_written.specs.WrittenFile as trees
use Rattle.c_syntax_written.specs.WrittenFile.{stmt_tree, blockitems_from}
use Rattle.c_grammar.proofs.Sweep.{and_right}
use Rattle.c_parser_steps.specs.Views.{boxed_expr, scene_of}
use Rattle.c_syntax_written.proofs.WrittenFileTrees.{blockitem_declaration, blockitem_statement, blockitems_nil, stmt_block, stmt_default, stmt_label}
use Rattle.c_parser.specs.HeadKinds.{boxed_tree}
use Rattle.c_parser.specs.declared.stmt_kind.StatementKind.TheVariants as statements
use Rattle.c_parser_steps.proofs.Steps.{answer, halt, halts, if_false, if_true, stopped, carried, stall}
use Rattle.c_parser.proofs.SimpleStarts.{statement_begins}
use Rattle.c_parser.proofs.Starts.{label_rule}
use Rattle.c_parser_steps.proofs.Paths.{after, begin, behind, ends, goes_so, inside, lasts, halts_after, halts_behind, halts_inside, where_so}
use Rattle.c_parser.proofs.SimpleSteps.{halts_tried, tried}
use Rattle.c_parser.proofs.Steps.{for_led, held, in_scene, halts_held, same_items, same_statement}
use Rattle.c_parser_steps.proofs.Last.{same, last_part}
use Rattle.c_parser_exprs.proofs.Shorter.{no_longer, shorter_by}
use Rattle.c_parser.proofs.stmt.+statements.Goals as goal

pub label-returns-in-Err-clause-goes : goal.label-returns-in-Err-clause-goes
label-returns-in-Err-clause-goes t c = halted (halts_after (where_so (begin {p = AStmt (Statement c.args.switched)} (λ o g. g) refl (label_rule _ _ _ c.requires)) c.requires) c.in-Err.ensures.goes)

pub label-returns-in-Err-taken-clause-goes : goal.label-returns-in-Err-taken-clause-goes
label-returns-in-Err-taken-clause-goes t c = halted (halts_after (after (where_so (begin {p = AStmt (Statement c.args.switched)} (λ o g. g) refl (label_rule _ _ _ c.requires)) c.requires) c.in-Ok.ensures.goes) c.in-Err-taken.ensures.goes)

pub label-returns-in-Err-substatement-clause-goes : goal.label-returns-in-Err-substatement-clause-goes
label-returns-in-Err-substatement-clause-goes t c = halted (halts_held (after (after (where_so (begin {p = AStmt (Statement c.args.switched)} (λ o g. g) refl (label_rule _ _ _ c.requires)) c.requires) c.in-Ok.ensures.goes) c.in-Ok-taken.ensures.goes) c.in-Err-substatement.ensures.goes)

pub label-returns-in-Err-boxed_name_of-clause-goes : goal.label-returns-in-Err-boxed_name_of-clause-goes
label-returns-in-Err-boxed_name_of-clause-goes t c = halted no_memory

pub label-returns-clause-goes : goal.label-returns-clause-goes
label-returns-clause-goes t c = ends (held (after (after (where_so (begin {p = AStmt (Statement c.args.switched)} (λ o g. g) refl (label_rule _ _ _ c.requires)) c.requires) c.in-Ok.ensures.goes) c.in-Ok-taken.ensures.goes) c.in-Ok-substatement.ensures.goes) (stmt_label _ _ _ ∙ ap (λ n. trees.Label c.in-Ok.got.0.now.pos n (boxed_tree c.in-Ok-substatement.got.0)) c.in-Ok-boxed_name_of.ensures)

pub case-returns-in-Err-clause-goes : goal.case-returns-in-Err-clause-goes
case-returns-in-Err-clause-goes t c = halted (halts_after (statement_begins statements.Case c.requires refl) c.in-Err.ensures.goes)

pub case-returns-in-Err-conditional-clause-goes : goal.case-returns-in-Err-conditional-clause-goes
case-returns-in-Err-conditional-clause-goes t c = halted (halts_behind (after (statement_begins statements.Case c.requires refl) c.in-Ok.ensures.goes) c.in-Err-conditional.ensures.goes)

pub case-returns-in-Err-taken-clause-goes : goal.case-returns-in-Err-taken-clause-goes
case-returns-in-Err-taken-clause-goes t c = halted (halts_after (behind (after (statement_begins statements.Case c.requires refl) c.in-Ok.ensures.goes) c.in-Ok-conditional.ensures.goes) c.in-Err-taken.ensures.goes)

pub case-returns-in-Err-substatement-clause-goes : goal.case-returns-in-Err-substatement-clause-goes
case-returns-in-Err-substatement-clause-goes t c = halted (halts_held (after (behind (after (statement_begins statements.Case c.requires refl) c.in-Ok.ensures.goes) c.in-Ok-conditional.ensures.goes) c.in-Ok-taken.ensures.goes) c.in-Err-substatement.ensures.goes)

pub case-returns-clause-goes : goal.case-returns-clause-goes
case-returns-clause-goes t c = ends (held (after (behind (after (statement_begins statements.Case c.requires refl) c.in-Ok.ensures.goes) c.in-Ok-conditional.ensures.goes) c.in-Ok-taken.ensures.goes) c.in-Ok-substatement.ensures.goes) c.case_stmt.ensures

pub default_statement-returns-in-Err-clause-goes : goal.default_statement-returns-in-Err-clause-goes
default_statement-returns-in-Err-clause-goes t c = halted (halts_after (statement_begins statements.Default c.requires refl) c.in-Err.ensures.goes)

pub default_statement-returns-in-Err-taken-clause-goes : goal.default_statement-returns-in-Err-taken-clause-goes
default_statement-returns-in-Err-taken-clause-goes t c = halted (halts_after (after (statement_begins statements.Default c.requires refl) c.in-Ok.ensures.goes) c.in-Err-taken.ensures.goes)

pub default_statement-returns-in-Err-substatement-clause-goes : goal.default_statement-returns-in-Err-substatement-clause-goes
default_statement-returns-in-Err-substatement-clause-goes t c = halted (halts_held (after (after (statement_begins statements.Default c.requires refl) c.in-Ok.ensures.goes) c.in-Ok-taken.ensures.goes) c.in-Err-substatement.ensures.goes)

pub default_statement-returns-clause-goes : goal.default_statement-returns-clause-goes
default_statement-returns-clause-goes t c = ends (held (after (after (statement_begins statements.Default c.requires refl) c.in-Ok.ensures.goes) c.in-Ok-taken.ensures.goes) c.in-Ok-substatement.ensures.goes) (stmt_default _ _)

pub block-returns-in-Err-clause-goes : goal.block-returns-in-Err-clause-goes
block-returns-in-Err-clause-goes t c = halted (halts_after (statement_begins statements.Block c.requires refl) c.in-Err.ensures.goes)

pub block-returns-in-Err-block_items-clause-goes : goal.block-returns-in-Err-block_items-clause-goes
block-returns-in-Err-block_items-clause-goes t c = halted (halts_inside (after (statement_begins statements.Block c.requires refl) c.in-Ok.ensures.goes) c.in-Err-block_items.ensures.goes)

pub block-returns-clause-goes : goal.block-returns-clause-goes
block-returns-clause-goes t c = ends (inside (after (statement_begins statements.Block c.requires refl) c.in-Ok.ensures.goes) c.in-Ok-block_items.ensures.goes) (stmt_block _ _)

pub if_statement-returns-in-Err-clause-goes : goal.if_statement-returns-in-Err-clause-goes
if_statement-returns-in-Err-clause-goes t c = halted (halts_after (statement_begins statements.If c.requires refl) c.in-Err.ensures.goes)

pub if_statement-returns-in-Err-condition-clause-goes : goal.if_statement-returns-in-Err-condition-clause-goes
if_statement-returns-in-Err-condition-clause-goes t c = halted (halts_tried (after (statement_begins statements.If c.requires refl) c.in-Ok.ensures.goes) c.in-Err-condition.ensures.goes)

pub if_statement-returns-in-Err-substatement-clause-goes : goal.if_statement-returns-in-Err-substatement-clause-goes
if_statement-returns-in-Err-substatement-clause-goes t c = halted (halts_held (tried (after (statement_begins statements.If c.requires refl) c.in-Ok.ensures.goes) c.in-Ok-condition.ensures.goes) c.in-Err-substatement.ensures.goes)

pub if_statement-returns-clause-goes : goal.if_statement-returns-clause-goes
if_statement-returns-clause-goes t c = lasts (held (tried (after (statement_begins statements.If c.requires refl) c.in-Ok.ensures.goes) c.in-Ok-condition.ensures.goes) c.in-Ok-substatement.ensures.goes) c.else_part.ensures.goes (λ s. refl)

pub switch_statement-returns-in-Err-clause-goes : goal.switch_statement-returns-in-Err-clause-goes
switch_statement-returns-in-Err-clause-goes t c = halted (halts_after (statement_begins statements.Switch c.requires refl) c.in-Err.ensures.goes)

pub switch_statement-returns-in-Err-condition-clause-goes : goal.switch_statement-returns-in-Err-condition-clause-goes
switch_statement-returns-in-Err-condition-clause-goes t c = halted (halts_tried (after (statement_begins statements.Switch c.requires refl) c.in-Ok.ensures.goes) c.in-Err-condition.ensures.goes)

pub switch_statement-returns-in-Err-substatement-clause-goes : goal.switch_statement-returns-in-Err-substatement-clause-goes
switch_statement-returns-in-Err-substatement-clause-goes t c = halted (halts_held (tried (after (statement_begins statements.Switch c.requires refl) c.in-Ok.ensures.goes) c.in-Ok-condition.ensures.goes) c.in-Err-substatement.ensures.goes)

pub switch_statement-returns-clause-goes : goal.switch_statement-returns-clause-goes
switch_statement-returns-clause-goes t c = ends (held (tried (after (statement_begins statements.Switch c.requires refl) c.in-Ok.ensures.goes) c.in-Ok-condition.ensures.goes) c.in-Ok-substatement.ensures.goes) c.switch_stmt.ensures

pub while_loop-returns-in-Err-clause-goes : goal.while_loop-returns-in-Err-clause-goes
while_loop-returns-in-Err-clause-goes t c = halted (halts_after (statement_begins statements.While c.requires refl) c.in-Err.ensures.goes)

pub while_loop-returns-in-Err-condition-clause-goes : goal.while_loop-returns-in-Err-condition-clause-goes
while_loop-returns-in-Err-condition-clause-goes t c = halted (halts_tried (after (statement_begins statements.While c.requires refl) c.in-Ok.ensures.goes) c.in-Err-condition.ensures.goes)

pub while_loop-returns-in-Err-substatement-clause-goes : goal.while_loop-returns-in-Err-substatement-clause-goes
while_loop-returns-in-Err-substatement-clause-goes t c = halted (halts_held (tried (after (statement_begins statements.While c.requires refl) c.in-Ok.ensures.goes) c.in-Ok-condition.ensures.goes) c.in-Err-substatement.ensures.goes)

pub while_loop-returns-clause-goes : goal.while_loop-returns-clause-goes
while_loop-returns-clause-goes t c = ends (held (tried (after (statement_begins statements.While c.requires refl) c.in-Ok.ensures.goes) c.in-Ok-condition.ensures.goes) c.in-Ok-substatement.ensures.goes) c.while_stmt.ensures

pub do_loop-returns-in-Err-clause-goes : goal.do_loop-returns-in-Err-clause-goes
do_loop-returns-in-Err-clause-goes t c = halted (halts_after (statement_begins statements.Do c.requires refl) c.in-Err.ensures.goes)

pub do_loop-returns-in-Err-substatement-clause-goes : goal.do_loop-returns-in-Err-substatement-clause-goes
do_loop-returns-in-Err-substatement-clause-goes t c = halted (halts_held (after (statement_begins statements.Do c.requires refl) c.in-Ok.ensures.goes) c.in-Err-substatement.ensures.goes)

pub do_loop-returns-in-Err-taken-clause-goes : goal.do_loop-returns-in-Err-taken-clause-goes
do_loop-returns-in-Err-taken-clause-goes t c = halted (halts_after (held (after (statement_begins statements.Do c.requires refl) c.in-Ok.ensures.goes) c.in-Ok-substatement.ensures.goes) c.in-Err-taken.ensures.goes)

pub do_loop-returns-in-Err-condition-clause-goes : goal.do_loop-returns-in-Err-condition-clause-goes
do_loop-returns-in-Err-condition-clause-goes t c = halted (halts_tried (after (held (after (statement_begins statements.Do c.requires refl) c.in-Ok.ensures.goes) c.in-Ok-substatement.ensures.goes) c.in-Ok-taken.ensures.goes) c.in-Err-condition.ensures.goes)

pub do_loop-returns-in-Err-taken-2-clause-goes : goal.do_loop-returns-in-Err-taken-2-clause-goes
do_loop-returns-in-Err-taken-2-clause-goes t c = halted (halts_after (tried (after (held (after (statement_begins statements.Do c.requires refl) c.in-Ok.ensures.goes) c.in-Ok-substatement.ensures.goes) c.in-Ok-taken.ensures.goes) c.in-Ok-condition.ensures.goes) c.in-Err-taken-2.ensures.goes)

pub do_loop-returns-clause-goes : goal.do_loop-returns-clause-goes
do_loop-returns-clause-goes t c = ends (after (tried (after (held (after (statement_begins statements.Do c.requires refl) c.in-Ok.ensures.goes) c.in-Ok-substatement.ensures.goes) c.in-Ok-taken.ensures.goes) c.in-Ok-condition.ensures.goes) c.in-Ok-taken-2.ensures.goes) c.do_stmt.ensures

pub for_loop-returns-in-Err-clause-goes : goal.for_loop-returns-in-Err-clause-goes
for_loop-returns-in-Err-clause-goes t c = halted (stall (c.in-Err.ensures.goes c.args.switched))

pub for_loop-returns-in-Err-substatement-clause-goes : goal.for_loop-returns-in-Err-substatement-clause-goes
for_loop-returns-in-Err-substatement-clause-goes t c = halted (halts_held (for_led {b = c.args.switched} c.in-Ok.ensures.goes) c.in-Err-substatement.ensures.goes)

pub for_loop-returns-clause-goes : goal.for_loop-returns-clause-goes
for_loop-returns-clause-goes t c = ends (held (for_led {b = c.args.switched} c.in-Ok.ensures.goes) c.in-Ok-substatement.ensures.goes) c.for_stmt.ensures

pub substatement-returns-then-not-no_left_bracket-clause-goes : goal.substatement-returns-then-not-no_left_bracket-clause-goes
substatement-returns-then-not-no_left_bracket-clause-goes t c = λ p k. stalled (stopped c.refused.ensures (fails (sym c.no_left_bracket.ensures ∙ c.if-not-no_left_bracket.true)))

pub substatement-returns-in-Err-clause-goes : goal.substatement-returns-in-Err-clause-goes
substatement-returns-in-Err-clause-goes t c = λ p k. stalled (halts (halt c.in-Err.ensures.goes) (λ why rest g. passes (sym c.no_left_bracket.ensures ∙ c.if-not-no_left_bracket.false) (stops g)))

pub substatement-returns-in-Err-boxed-clause-goes : goal.substatement-returns-in-Err-boxed-clause-goes
substatement-returns-in-Err-boxed-clause-goes t c = λ p k. stalled no_memory

pub substatement-returns-clause-goes : goal.substatement-returns-clause-goes
substatement-returns-clause-goes t c = λ p k. stepped (λ o h. passes (sym c.no_left_bracket.ensures ∙ c.if-not-no_left_bracket.false) (goes_on (answer c.in-Ok.ensures.goes) (same_statement k (ap stmt_tree c.in-Ok-boxed.ensures) h)))

pub block_items-returns-clause-goes : goal.block_items-returns-clause-goes
block_items-returns-clause-goes t c = carried c.items.ensures.goes (λ o g. in_scene (sym (c.block_setting.ensures (scene_of c.args.context.now))) g)

pub item-returns-in-Err-clause-goes : goal.item-returns-in-Err-clause-goes
item-returns-in-Err-clause-goes t c = halted (halts_behind (where_so (begin {p = Item} (λ o g. g) refl (if_true _ (sym c.spec_ahead.ensures ∙ c.if-spec_ahead.true))) (sym c.spec_ahead.ensures ∙ c.if-spec_ahead.true)) c.in-Err.ensures.goes)

pub item-returns-then-spec_ahead-clause-goes : goal.item-returns-then-spec_ahead-clause-goes
item-returns-then-spec_ahead-clause-goes t c = ends (behind (where_so (begin {p = Item} (λ o g. g) refl (if_true _ (sym c.spec_ahead.ensures ∙ c.if-spec_ahead.true))) (sym c.spec_ahead.ensures ∙ c.if-spec_ahead.true)) c.in-Ok.ensures.goes) (blockitem_declaration _ ∙ ap (λ (v : Decl). trees.Declaration (decl_tree v)) c.in-Ok-boxed.ensures)

pub item-returns-in-Err-boxed-clause-goes : goal.item-returns-in-Err-boxed-clause-goes
item-returns-in-Err-boxed-clause-goes t c = halted no_memory

pub item-returns-in-Err-statement-clause-goes : goal.item-returns-in-Err-statement-clause-goes
item-returns-in-Err-statement-clause-goes t c = halted (halts_behind (where_so (begin {p = Item} (λ o g. g) refl (if_false _ (sym c.spec_ahead.ensures ∙ c.if-spec_ahead.false))) (ap not (sym c.spec_ahead.ensures ∙ c.if-spec_ahead.false))) c.in-Err-statement.ensures.goes)

pub item-returns-clause-goes : goal.item-returns-clause-goes
item-returns-clause-goes t c = ends (behind (where_so (begin {p = Item} (λ o g. g) refl (if_false _ (sym c.spec_ahead.ensures ∙ c.if-spec_ahead.false))) (ap not (sym c.spec_ahead.ensures ∙ c.if-spec_ahead.false))) c.in-Ok-statement.ensures.goes) (blockitem_statement _)

pub items-loop-rest-init : goal.items-loop-rest-init
items-loop-rest-init t c = ((λ o g. same_items (ap blockitems_from c.new-items.ensures.items ∙ blockitems_nil) g), omega arith)

pub items-returns-in-Err-clause-goes : goal.items-returns-in-Err-clause-goes
items-returns-in-Err-clause-goes t c = halted (halts_behind (begin {p = Items (blockitems_from c.loop-rest.items.items)} c.loop-rest.invariant.0 refl (if_false _ (sym c.comes.ensures ∙ c.loop-rest-test.true))) c.in-Err.ensures.goes)

pub items-returns-in-Err-push_item-clause-goes : goal.items-returns-in-Err-push_item-clause-goes
items-returns-in-Err-push_item-clause-goes t c = halted no_memory

pub items-loop-rest-preserved : goal.items-loop-rest-preserved
items-loop-rest-preserved t c = ((λ o g. goes_so (behind (begin {p = Items (blockitems_from c.loop-rest.items.items)} c.loop-rest.invariant.0 refl (if_false _ (sym c.comes.ensures ∙ c.loop-rest-test.true))) c.in-Ok.ensures.goes) o (last_part same o (same_items c.in-Ok-push_item.ensures g))), omega (arith, c.in-Ok.ensures.shorter))

pub items-returns-in-Err-taken-clause-goes : goal.items-returns-in-Err-taken-clause-goes
items-returns-in-Err-taken-clause-goes t c = halted (halts_after (begin {p = Items (blockitems_from c.loop-rest.items.items)} c.loop-rest.invariant.0 refl (if_true _ (sym c.comes.ensures ∙ c.loop-rest-test.false))) c.in-Err-taken.ensures.goes)

pub items-returns-clause-goes : goal.items-returns-clause-goes
items-returns-clause-goes t c = ends (after (begin {p = Items (blockitems_from c.loop-rest.items.items)} c.loop-rest.invariant.0 refl (if_true _ (sym c.comes.ensures ∙ c.loop-rest-test.false))) c.in-Ok-taken.ensures.goes) c.from_vec.ensures

pub else_part-returns-then-else_comes-clause-goes : goal.else_part-returns-then-else_comes-clause-goes
else_part-returns-then-else_comes-clause-goes t c = c.else_form.ensures.goes

pub else_part-returns-clause-goes : goal.else_part-returns-clause-goes
else_part-returns-clause-goes t c = ends (begin {p = AStmt (Else c.args.at (boxed_expr c.args.condition) (boxed_tree c.args.then))} (λ o g. g) refl (if_false _ (ap (λ (v : Stmt). first_is is_else_word c.args.tokens.now && not (ends_open (stmt_tree v))) (sym c.deref.ensures) ∙ sym c.else_comes.ensures ∙ c.if-else_comes.false))) c.if_stmt.ensures

pub else_form-returns-in-Err-clause-goes : goal.else_form-returns-in-Err-clause-goes
else_form-returns-in-Err-clause-goes t c = halted (halts_after (where_so (begin {p = AStmt (Else c.args.at (boxed_expr c.args.condition) (boxed_tree c.args.then))} (λ o g. g) refl (if_true _ c.requires)) (and_right _ _ c.requires)) c.in-Err.ensures.goes)

pub else_form-returns-in-Err-substatement-clause-goes : goal.else_form-returns-in-Err-substatement-clause-goes
else_form-returns-in-Err-substatement-clause-goes t c = halted (halts_held (after (where_so (begin {p = AStmt (Else c.args.at (boxed_expr c.args.condition) (boxed_tree c.args.then))} (λ o g. g) refl (if_true _ c.requires)) (and_right _ _ c.requires)) c.in-Ok.ensures.goes) c.in-Err-substatement.ensures.goes)

pub else_form-returns-clause-goes : goal.else_form-returns-clause-goes
else_form-returns-clause-goes t c = ends (held (after (where_so (begin {p = AStmt (Else c.args.at (boxed_expr c.args.condition) (boxed_tree c.args.then))} (λ o g. g) refl (if_true _ c.requires)) (and_right _ _ c.requires)) c.in-Ok.ensures.goes) c.in-Ok-substatement.ensures.goes) c.if_else_stmt.ensures

pub label-returns-clause-shorter : goal.label-returns-clause-shorter
label-returns-clause-shorter t c = omega (arith, c.in-Ok.ensures.shorter, c.in-Ok-taken.ensures.shorter, c.in-Ok-substatement.ensures.shorter)

pub case-returns-clause-shorter : goal.case-returns-clause-shorter
case-returns-clause-shorter t c = omega (arith, c.in-Ok.ensures.shorter, c.in-Ok-conditional.ensures.shorter, c.in-Ok-taken.ensures.shorter, c.in-Ok-substatement.ensures.shorter)

pub default_statement-returns-clause-shorter : goal.default_statement-returns-clause-shorter
default_statement-returns-clause-shorter t c = omega (arith, c.in-Ok.ensures.shorter, c.in-Ok-taken.ensures.shorter, c.in-Ok-substatement.ensures.shorter)

pub block-returns-clause-shorter : goal.block-returns-clause-shorter
block-returns-clause-shorter t c = omega (arith, c.in-Ok.ensures.shorter, c.in-Ok-block_items.ensures.shorter)

pub if_statement-returns-clause-shorter : goal.if_statement-returns-clause-shorter
if_statement-returns-clause-shorter t c = shorter_by c.else_part.result c.else_part.ensures.shorter (omega (arith, c.in-Ok.ensures.shorter, c.in-Ok-condition.ensures.shorter, c.in-Ok-substatement.ensures.shorter))

pub else_part-returns-then-else_comes-clause-shorter : goal.else_part-returns-then-else_comes-clause-shorter
else_part-returns-then-else_comes-clause-shorter t c = no_longer c.else_form.result _ c.else_form.ensures.shorter

pub else_form-returns-clause-shorter : goal.else_form-returns-clause-shorter
else_form-returns-clause-shorter t c = omega (arith, c.in-Ok.ensures.shorter, c.in-Ok-substatement.ensures.shorter)

pub switch_statement-returns-clause-shorter : goal.switch_statement-returns-clause-shorter
switch_statement-returns-clause-shorter t c = omega (arith, c.in-Ok.ensures.shorter, c.in-Ok-condition.ensures.shorter, c.in-Ok-substatement.ensures.shorter)

pub while_loop-returns-clause-shorter : goal.while_loop-returns-clause-shorter
while_loop-returns-clause-shorter t c = omega (arith, c.in-Ok.ensures.shorter, c.in-Ok-condition.ensures.shorter, c.in-Ok-substatement.ensures.shorter)

pub do_loop-returns-clause-shorter : goal.do_loop-returns-clause-shorter
do_loop-returns-clause-shorter t c = omega (arith, c.in-Ok.ensures.shorter, c.in-Ok-substatement.ensures.shorter, c.in-Ok-taken.ensures.shorter, c.in-Ok-condition.ensures.shorter, c.in-Ok-taken-2.ensures.shorter)

pub for_loop-returns-clause-shorter : goal.for_loop-returns-clause-shorter
for_loop-returns-clause-shorter t c = omega (arith, c.in-Ok.ensures.shorter, c.in-Ok-substatement.ensures.shorter)

pub items-returns-clause-shorter : goal.items-returns-clause-shorter
items-returns-clause-shorter t c = omega (arith, c.in-Ok-taken.ensures.shorter)
