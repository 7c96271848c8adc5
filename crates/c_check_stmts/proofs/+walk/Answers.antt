-- The ways out of the walk, each by the line of its form.
use Rattle.std.proofs.Common.{◌≡◌, ◌<◌, refl, sym, ap, ◌∙◌, subst, get_or, arith}
use Rattle.std.proofs.lemmas.Option.{IfSome_then}
use Rattle.std.specs.Prelude.{option_map}
use Rattle.c_syntax_written.specs.declared.place.Pos.{Pos}
use Rattle.c_syntax_written.specs.Written.{expr_tree}
use Rattle.c_syntax_written.specs.WrittenDecl.{decl_tree}
use Rattle.c_syntax_written.specs.WrittenFile as files
use Rattle.c_syntax_written.specs.WrittenFile.{StmtTree, BlockItemTree, blockitem_tree, blockitems_from, blockitems_tree, forstart_tree, optional_tree, stmt_tree}
use Rattle.c_syntax_written.specs.WrittenParts.{stmt_pos}
use Rattle.c_syntax_written.specs.Sizes.{blockitem_size, blockitems_size, stmt_size}
use Rattle.c_syntax_written.proofs.Sizes.{blockitems_item}
use Rattle.c_syntax_written.proofs.WrittenFileTrees.{blockitem_declaration, blockitem_statement, stmt_label, stmt_case, stmt_default, stmt_block, stmt_empty, stmt_expression, stmt_if, stmt_if_else, stmt_switch, stmt_while, stmt_do_while, stmt_for, stmt_goto, stmt_continue, stmt_break, stmt_return}
use Rattle.c_syntax.specs.declared.statement.BlockKind.TheVariants as kinds
use Rattle.c_syntax.specs.TypedExpr.{texpr_tree}
use Rattle.c_syntax.specs.TypedStmt.{Block, If, While, DoWhile, For, Switch, tstmt_tree}
use Rattle.c_typing.specs.Context.{inside_block, inside_loop, inside_switch}
use Rattle.c_typing.specs.Names.{closed}
use Rattle.c_typing.specs.Stmts.{TypesItems, no_else, one, with_cases_of, without_cases}
use Rattle.c_typing.specs.World.{World, Typed, Refused, goes_on, stops}
use Rattle.c_check_jumps.specs.ContextViews.{context_tree}
use Rattle.c_check_names.specs.Views.{Answers, refusal_of}
use Rattle.c_check_jumps.specs.Views.{switched_tree}
use Rattle.c_check_decls.specs.MadeViews.{made_tree}
use Rattle.c_check_names.specs.Worlds.{world_of}
use Rattle.c_check_stmts.specs.Forms.{Behind, BehindPrefix, ItemForm, Substatement, SwitchBody, SwitchBodyForm}
use Rattle.c_check_stmts.specs.Views.{body_tree}
use Rattle.c_check_stmts.proofs.Results.{by, behind_so, typed_so}
use Rattle.c_check_stmts.proofs.Lines.{added_line, block_line, case_line, default_line, do_while_line, for_line, if_else_line, if_line, label_line, made_so, prefix_line, substatement_line, switch_line, while_line, written_line}
use Rattle.c_check_stmts.proofs.Bodies.{block_size, body_so, keeps_outer}
use Rattle.c_check_stmts.proofs.Lists.{next_item, last_item}
use Rattle.c_check_stmts.proofs.+walk.Goals as goal

pub items::block_items-item_behind-requires : goal.items::block_items-item_behind-requires
items::block_items-item_behind-requires t c =
    let all : blockitems_size (blockitems_from c.as_slice-list.result.now) ≡ blockitems_size (blockitems_tree c.args.items.now) = ap blockitems_size c.as_slice-list.ensures in
    let one : blockitem_size (blockitem_tree c.item-item.result) ≡ blockitem_size (blockitem_tree (get_or c.as_slice-list.result.now c.each.item-index c.item-item.result))
    = ap (λ x. blockitem_size (blockitem_tree x)) c.item-item.is in
    let below : blockitem_size (blockitem_tree (get_or c.as_slice-list.result.now c.each.item-index c.item-item.result)) < blockitems_size (blockitems_from c.as_slice-list.result.now)
    = blockitems_item c.as_slice-list.result.now c.each.item-index c.item-item.result c.each-test.true in
    (omega arith, tt)

pub items::block_items-each-init : goal.items::block_items-each-init
items::block_items-each-init t c =
    let w = world_of c.args.world.now in
    let around = context_tree c.args.around in
    λ o p. subst (λ made. TypesItems w around made (blockitems_tree c.args.items.now) o) c.nothing-done.ensures
    (subst (λ list. TypesItems w around (made_tree c.nothing-done.result) list o) c.as_slice-list.ensures p)

pub items::block_items-each-preserved : goal.items::block_items-each-preserved
items::block_items-each-preserved t c =
    λ o p. c.each.invariant o (next_item (world_of c.each.world) (context_tree c.args.around) (made_tree c.each.done) c.as_slice-list.result.now c.each.item-index
    c.item-item.result o c.item-item.is c.each-test.true (goes_on c.in-Ok.ensures p))

pub items::block_items-returns-in-Err : goal.items::block_items-returns-in-Err
items::block_items-returns-in-Err t c =
    IfSome_then (refusal_of c.in-Err.error) c.in-Err.ensures (λ r p.
    c.each.invariant (Refused r) (next_item (world_of c.each.world) (context_tree c.args.around) (made_tree c.each.done) c.as_slice-list.result.now c.each.item-index
    c.item-item.result (Refused r) c.item-item.is c.each-test.true (stops p)))

pub items::block_items-returns : goal.items::block_items-returns
items::block_items-returns t c =
    let end = Typed (made_tree c.each.done) (world_of c.each.world) in
    c.each.invariant end (last_item (world_of c.each.world) (context_tree c.args.around) (made_tree c.each.done) c.as_slice-list.result.now c.each.item-index
    end c.each-test.false refl)

pub items::item_behind-returns-in-Declaration : goal.items::item_behind-returns-in-Declaration
items::item_behind-returns-in-Declaration t c =
    let w = world_of c.args.world.now in
    let around = context_tree c.args.around in
    let tree : BlockItemTree = files.Declaration (decl_tree c.deref.result.now) in
    let same : blockitem_tree c.args.item.now ≡ tree = cc (ap blockitem_tree c.in-Declaration.is ∙ blockitem_declaration c.in-Declaration.decl, c.deref.ensures) in
    subst (λ item. Answers (ItemForm w around (made_tree c.args.done) item) made_tree (world_of c.declaration_behind.new.world) c.declaration_behind.result) (sym same)
    c.declaration_behind.ensures

pub items::item_behind-returns-in-Statement : goal.items::item_behind-returns-in-Statement
items::item_behind-returns-in-Statement t c =
    let w = world_of c.args.world.now in
    let around = context_tree c.args.around in
    let tree : BlockItemTree = files.Statement (stmt_tree c.in-Statement.inner) in
    let same : blockitem_tree c.args.item.now ≡ tree = ap blockitem_tree c.in-Statement.is ∙ blockitem_statement c.in-Statement.inner in
    subst (λ item. Answers (ItemForm w around (made_tree c.args.done) item) made_tree (world_of c.statement.new.world) c.statement.result) (sym same)
    c.statement.ensures

pub items::item_behind-statement-requires : goal.items::item_behind-statement-requires
items::item_behind-statement-requires t c =
    let tree : BlockItemTree = files.Statement (stmt_tree c.in-Statement.inner) in
    let same : blockitem_tree c.args.item.now ≡ tree = ap blockitem_tree c.in-Statement.is ∙ blockitem_statement c.in-Statement.inner in
    let size : blockitem_size (blockitem_tree c.args.item.now) ≡ blockitem_size tree = ap blockitem_size same in
    (omega arith, tt)

pub items::statement-returns-in-Label : goal.items::statement-returns-in-Label
items::statement-returns-in-Label t c =
    let w = world_of c.args.world.now in
    let around = context_tree c.args.around in
    let tree : StmtTree = files.Label c.in-Label.pos c.deref.result.now (stmt_tree c.deref-in-Label.result.now) in
    let same : stmt_tree c.args.s.now ≡ tree = cc (ap stmt_tree c.in-Label.is ∙ stmt_label c.in-Label.pos c.in-Label.name c.in-Label.body, c.deref.ensures, c.deref-in-Label.ensures) in
    behind_so w around (made_tree c.args.done) (stmt_tree c.args.s.now) tree made_tree (world_of c.label_form.new.world) c.label_form.result same c.label_form.ensures

pub items::statement-label_form-requires : goal.items::statement-label_form-requires
items::statement-label_form-requires t c =
    let tree : StmtTree = files.Label c.in-Label.pos c.deref.result.now (stmt_tree c.deref-in-Label.result.now) in
    let same : stmt_tree c.args.s.now ≡ tree = cc (ap stmt_tree c.in-Label.is ∙ stmt_label c.in-Label.pos c.in-Label.name c.in-Label.body, c.deref.ensures, c.deref-in-Label.ensures) in
    let size : stmt_size (stmt_tree c.args.s.now) ≡ stmt_size tree = ap stmt_size same in
    (omega arith, tt)

pub items::statement-returns-in-Case : goal.items::statement-returns-in-Case
items::statement-returns-in-Case t c =
    let w = world_of c.args.world.now in
    let around = context_tree c.args.around in
    let tree : StmtTree = files.Case c.in-Case.pos (expr_tree c.deref-in-Case.result.now) (stmt_tree c.deref-in-Case-2.result.now) in
    let same : stmt_tree c.args.s.now ≡ tree = cc (ap stmt_tree c.in-Case.is ∙ stmt_case c.in-Case.pos c.in-Case.value c.in-Case.body, c.deref-in-Case.ensures, c.deref-in-Case-2.ensures) in
    behind_so w around (made_tree c.args.done) (stmt_tree c.args.s.now) tree made_tree (world_of c.case_form.new.world) c.case_form.result same c.case_form.ensures

pub items::statement-case_form-requires : goal.items::statement-case_form-requires
items::statement-case_form-requires t c =
    let tree : StmtTree = files.Case c.in-Case.pos (expr_tree c.deref-in-Case.result.now) (stmt_tree c.deref-in-Case-2.result.now) in
    let same : stmt_tree c.args.s.now ≡ tree = cc (ap stmt_tree c.in-Case.is ∙ stmt_case c.in-Case.pos c.in-Case.value c.in-Case.body, c.deref-in-Case.ensures, c.deref-in-Case-2.ensures) in
    let size : stmt_size (stmt_tree c.args.s.now) ≡ stmt_size tree = ap stmt_size same in
    (omega arith, tt)

pub items::statement-returns-in-Default : goal.items::statement-returns-in-Default
items::statement-returns-in-Default t c =
    let w = world_of c.args.world.now in
    let around = context_tree c.args.around in
    let tree : StmtTree = files.Default c.in-Default.pos (stmt_tree c.deref-in-Default.result.now) in
    let same : stmt_tree c.args.s.now ≡ tree = cc (ap stmt_tree c.in-Default.is ∙ stmt_default c.in-Default.pos c.in-Default.body, c.deref-in-Default.ensures) in
    behind_so w around (made_tree c.args.done) (stmt_tree c.args.s.now) tree made_tree (world_of c.default_form.new.world) c.default_form.result same c.default_form.ensures

pub items::statement-default_form-requires : goal.items::statement-default_form-requires
items::statement-default_form-requires t c =
    let tree : StmtTree = files.Default c.in-Default.pos (stmt_tree c.deref-in-Default.result.now) in
    let same : stmt_tree c.args.s.now ≡ tree = cc (ap stmt_tree c.in-Default.is ∙ stmt_default c.in-Default.pos c.in-Default.body, c.deref-in-Default.ensures) in
    let size : stmt_size (stmt_tree c.args.s.now) ≡ stmt_size tree = ap stmt_size same in
    (omega arith, tt)

pub items::statement-returns-in-Block : goal.items::statement-returns-in-Block
items::statement-returns-in-Block t c =
    let w = world_of c.args.world.now in
    let around = context_tree c.args.around in
    let tree : StmtTree = files.Block c.in-Block.pos (blockitems_tree c.in-Block.items) in
    let same : stmt_tree c.args.s.now ≡ tree = ap stmt_tree c.in-Block.is ∙ stmt_block c.in-Block.pos c.in-Block.items in
    behind_so w around (made_tree c.args.done) (stmt_tree c.args.s.now) tree made_tree (world_of c.block_form.new.world) c.one_behind.result same
    (c.one_behind.ensures w (world_of c.block_form.new.world) around tree c.block_form.ensures)

pub items::statement-block_form-requires : goal.items::statement-block_form-requires
items::statement-block_form-requires t c =
    let tree : StmtTree = files.Block c.in-Block.pos (blockitems_tree c.in-Block.items) in
    let same : stmt_tree c.args.s.now ≡ tree = ap stmt_tree c.in-Block.is ∙ stmt_block c.in-Block.pos c.in-Block.items in
    let size : stmt_size (stmt_tree c.args.s.now) ≡ stmt_size tree = ap stmt_size same in
    (omega arith, tt)

pub items::statement-returns-in-Empty : goal.items::statement-returns-in-Empty
items::statement-returns-in-Empty t c =
    let w = world_of c.args.world.now in
    let around = context_tree c.args.around in
    let tree : StmtTree = files.Empty c.in-Empty.pos in
    let same : stmt_tree c.args.s.now ≡ tree = ap stmt_tree c.in-Empty.is ∙ stmt_empty c.in-Empty.pos in
    behind_so w around (made_tree c.args.done) (stmt_tree c.args.s.now) tree made_tree w c.one_behind-in-Empty.result same
    (c.one_behind-in-Empty.ensures w w around tree (c.empty_form.ensures w around))

pub items::statement-returns-in-Expression : goal.items::statement-returns-in-Expression
items::statement-returns-in-Expression t c =
    let w = world_of c.args.world.now in
    let around = context_tree c.args.around in
    let tree : StmtTree = files.Expression c.in-Expression.pos (expr_tree c.deref-in-Expression.result.now) in
    let same : stmt_tree c.args.s.now ≡ tree = cc (ap stmt_tree c.in-Expression.is ∙ stmt_expression c.in-Expression.pos c.in-Expression.value, c.deref-in-Expression.ensures) in
    behind_so w around (made_tree c.args.done) (stmt_tree c.args.s.now) tree made_tree (world_of c.expression_form.new.world) c.one_behind-in-Expression.result same
    (c.one_behind-in-Expression.ensures w (world_of c.expression_form.new.world) around tree (c.expression_form.ensures around))

pub items::statement-returns-in-If : goal.items::statement-returns-in-If
items::statement-returns-in-If t c =
    let w = world_of c.args.world.now in
    let around = context_tree c.args.around in
    let tree : StmtTree = files.If c.in-If.pos (expr_tree c.deref-in-If.result.now) (stmt_tree c.deref-in-If-2.result.now) in
    let same : stmt_tree c.args.s.now ≡ tree = cc (ap stmt_tree c.in-If.is ∙ stmt_if c.in-If.pos c.in-If.condition c.in-If.then, c.deref-in-If.ensures, c.deref-in-If-2.ensures) in
    behind_so w around (made_tree c.args.done) (stmt_tree c.args.s.now) tree made_tree (world_of c.if_form.new.world) c.one_behind-in-If.result same
    (c.one_behind-in-If.ensures w (world_of c.if_form.new.world) around tree c.if_form.ensures)

pub items::statement-if_form-requires : goal.items::statement-if_form-requires
items::statement-if_form-requires t c =
    let tree : StmtTree = files.If c.in-If.pos (expr_tree c.deref-in-If.result.now) (stmt_tree c.deref-in-If-2.result.now) in
    let same : stmt_tree c.args.s.now ≡ tree = cc (ap stmt_tree c.in-If.is ∙ stmt_if c.in-If.pos c.in-If.condition c.in-If.then, c.deref-in-If.ensures, c.deref-in-If-2.ensures) in
    let size : stmt_size (stmt_tree c.args.s.now) ≡ stmt_size tree = ap stmt_size same in
    (omega arith, tt)

pub items::statement-returns-in-IfElse : goal.items::statement-returns-in-IfElse
items::statement-returns-in-IfElse t c =
    let w = world_of c.args.world.now in
    let around = context_tree c.args.around in
    let tree : StmtTree = files.IfElse c.in-IfElse.pos (expr_tree c.deref-in-IfElse.result.now) (stmt_tree c.deref-in-IfElse-2.result.now) (stmt_tree c.deref-in-IfElse-3.result.now) in
    let same : stmt_tree c.args.s.now ≡ tree = cc (ap stmt_tree c.in-IfElse.is ∙ stmt_if_else c.in-IfElse.pos c.in-IfElse.condition c.in-IfElse.then c.in-IfElse.otherwise, c.deref-in-IfElse.ensures, c.deref-in-IfElse-2.ensures, c.deref-in-IfElse-3.ensures) in
    behind_so w around (made_tree c.args.done) (stmt_tree c.args.s.now) tree made_tree (world_of c.if_else_form.new.world) c.one_behind-in-IfElse.result same
    (c.one_behind-in-IfElse.ensures w (world_of c.if_else_form.new.world) around tree c.if_else_form.ensures)

pub items::statement-if_else_form-requires : goal.items::statement-if_else_form-requires
items::statement-if_else_form-requires t c =
    let tree : StmtTree = files.IfElse c.in-IfElse.pos (expr_tree c.deref-in-IfElse.result.now) (stmt_tree c.deref-in-IfElse-2.result.now) (stmt_tree c.deref-in-IfElse-3.result.now) in
    let same : stmt_tree c.args.s.now ≡ tree = cc (ap stmt_tree c.in-IfElse.is ∙ stmt_if_else c.in-IfElse.pos c.in-IfElse.condition c.in-IfElse.then c.in-IfElse.otherwise, c.deref-in-IfElse.ensures, c.deref-in-IfElse-2.ensures, c.deref-in-IfElse-3.ensures) in
    let size : stmt_size (stmt_tree c.args.s.now) ≡ stmt_size tree = ap stmt_size same in
    (omega arith, tt)

pub items::statement-returns-in-Switch : goal.items::statement-returns-in-Switch
items::statement-returns-in-Switch t c =
    let w = world_of c.args.world.now in
    let around = context_tree c.args.around in
    let tree : StmtTree = files.Switch c.in-Switch.pos (expr_tree c.deref-in-Switch.result.now) (stmt_tree c.deref-in-Switch-2.result.now) in
    let same : stmt_tree c.args.s.now ≡ tree = cc (ap stmt_tree c.in-Switch.is ∙ stmt_switch c.in-Switch.pos c.in-Switch.value c.in-Switch.body, c.deref-in-Switch.ensures, c.deref-in-Switch-2.ensures) in
    behind_so w around (made_tree c.args.done) (stmt_tree c.args.s.now) tree made_tree (world_of c.switch_form.new.world) c.one_behind-in-Switch.result same
    (c.one_behind-in-Switch.ensures w (world_of c.switch_form.new.world) around tree c.switch_form.ensures)

pub items::statement-switch_form-requires : goal.items::statement-switch_form-requires
items::statement-switch_form-requires t c =
    let tree : StmtTree = files.Switch c.in-Switch.pos (expr_tree c.deref-in-Switch.result.now) (stmt_tree c.deref-in-Switch-2.result.now) in
    let same : stmt_tree c.args.s.now ≡ tree = cc (ap stmt_tree c.in-Switch.is ∙ stmt_switch c.in-Switch.pos c.in-Switch.value c.in-Switch.body, c.deref-in-Switch.ensures, c.deref-in-Switch-2.ensures) in
    let size : stmt_size (stmt_tree c.args.s.now) ≡ stmt_size tree = ap stmt_size same in
    (omega arith, tt)

pub items::statement-returns-in-While : goal.items::statement-returns-in-While
items::statement-returns-in-While t c =
    let w = world_of c.args.world.now in
    let around = context_tree c.args.around in
    let tree : StmtTree = files.While c.in-While.pos (expr_tree c.deref-in-While.result.now) (stmt_tree c.deref-in-While-2.result.now) in
    let same : stmt_tree c.args.s.now ≡ tree = cc (ap stmt_tree c.in-While.is ∙ stmt_while c.in-While.pos c.in-While.condition c.in-While.body, c.deref-in-While.ensures, c.deref-in-While-2.ensures) in
    behind_so w around (made_tree c.args.done) (stmt_tree c.args.s.now) tree made_tree (world_of c.while_form.new.world) c.one_behind-in-While.result same
    (c.one_behind-in-While.ensures w (world_of c.while_form.new.world) around tree c.while_form.ensures)

pub items::statement-while_form-requires : goal.items::statement-while_form-requires
items::statement-while_form-requires t c =
    let tree : StmtTree = files.While c.in-While.pos (expr_tree c.deref-in-While.result.now) (stmt_tree c.deref-in-While-2.result.now) in
    let same : stmt_tree c.args.s.now ≡ tree = cc (ap stmt_tree c.in-While.is ∙ stmt_while c.in-While.pos c.in-While.condition c.in-While.body, c.deref-in-While.ensures, c.deref-in-While-2.ensures) in
    let size : stmt_size (stmt_tree c.args.s.now) ≡ stmt_size tree = ap stmt_size same in
    (omega arith, tt)

pub items::statement-returns-in-DoWhile : goal.items::statement-returns-in-DoWhile
items::statement-returns-in-DoWhile t c =
    let w = world_of c.args.world.now in
    let around = context_tree c.args.around in
    let tree : StmtTree = files.DoWhile c.in-DoWhile.pos (stmt_tree c.deref-in-DoWhile.result.now) (expr_tree c.deref-in-DoWhile-2.result.now) in
    let same : stmt_tree c.args.s.now ≡ tree = cc (ap stmt_tree c.in-DoWhile.is ∙ stmt_do_while c.in-DoWhile.pos c.in-DoWhile.body c.in-DoWhile.condition, c.deref-in-DoWhile.ensures, c.deref-in-DoWhile-2.ensures) in
    behind_so w around (made_tree c.args.done) (stmt_tree c.args.s.now) tree made_tree (world_of c.do_while_form.new.world) c.one_behind-in-DoWhile.result same
    (c.one_behind-in-DoWhile.ensures w (world_of c.do_while_form.new.world) around tree c.do_while_form.ensures)

pub items::statement-do_while_form-requires : goal.items::statement-do_while_form-requires
items::statement-do_while_form-requires t c =
    let tree : StmtTree = files.DoWhile c.in-DoWhile.pos (stmt_tree c.deref-in-DoWhile.result.now) (expr_tree c.deref-in-DoWhile-2.result.now) in
    let same : stmt_tree c.args.s.now ≡ tree = cc (ap stmt_tree c.in-DoWhile.is ∙ stmt_do_while c.in-DoWhile.pos c.in-DoWhile.body c.in-DoWhile.condition, c.deref-in-DoWhile.ensures, c.deref-in-DoWhile-2.ensures) in
    let size : stmt_size (stmt_tree c.args.s.now) ≡ stmt_size tree = ap stmt_size same in
    (omega arith, tt)

pub items::statement-returns-in-For : goal.items::statement-returns-in-For
items::statement-returns-in-For t c =
    let w = world_of c.args.world.now in
    let around = context_tree c.args.around in
    let tree : StmtTree = files.For c.in-For.pos (forstart_tree c.deref-in-For.result.now.start) (optional_tree c.deref-in-For.result.now.condition) (optional_tree c.deref-in-For.result.now.step) (stmt_tree c.deref-in-For-2.result.now) in
    let same : stmt_tree c.args.s.now ≡ tree = cc (ap stmt_tree c.in-For.is ∙ stmt_for c.in-For.pos c.in-For.head c.in-For.body, c.deref-in-For.ensures, c.deref-in-For-2.ensures) in
    behind_so w around (made_tree c.args.done) (stmt_tree c.args.s.now) tree made_tree (world_of c.for_form.new.world) c.one_behind-in-For.result same
    (c.one_behind-in-For.ensures w (world_of c.for_form.new.world) around tree c.for_form.ensures)

pub items::statement-for_form-requires : goal.items::statement-for_form-requires
items::statement-for_form-requires t c =
    let tree : StmtTree = files.For c.in-For.pos (forstart_tree c.deref-in-For.result.now.start) (optional_tree c.deref-in-For.result.now.condition) (optional_tree c.deref-in-For.result.now.step) (stmt_tree c.deref-in-For-2.result.now) in
    let same : stmt_tree c.args.s.now ≡ tree = cc (ap stmt_tree c.in-For.is ∙ stmt_for c.in-For.pos c.in-For.head c.in-For.body, c.deref-in-For.ensures, c.deref-in-For-2.ensures) in
    let size : stmt_size (stmt_tree c.args.s.now) ≡ stmt_size tree = ap stmt_size same in
    (omega arith, tt)

pub items::statement-returns-in-Goto : goal.items::statement-returns-in-Goto
items::statement-returns-in-Goto t c =
    let w = world_of c.args.world.now in
    let around = context_tree c.args.around in
    let tree : StmtTree = files.Goto c.in-Goto.pos c.in-Goto.label in
    let same : stmt_tree c.args.s.now ≡ tree = ap stmt_tree c.in-Goto.is ∙ stmt_goto c.in-Goto.pos c.in-Goto.label in
    behind_so w around (made_tree c.args.done) (stmt_tree c.args.s.now) tree made_tree w c.one_behind-in-Goto.result same
    (c.one_behind-in-Goto.ensures w w around tree (c.goto_form.ensures w))

pub items::statement-returns-in-Continue : goal.items::statement-returns-in-Continue
items::statement-returns-in-Continue t c =
    let w = world_of c.args.world.now in
    let around = context_tree c.args.around in
    let tree : StmtTree = files.Continue c.in-Continue.pos in
    let same : stmt_tree c.args.s.now ≡ tree = ap stmt_tree c.in-Continue.is ∙ stmt_continue c.in-Continue.pos in
    behind_so w around (made_tree c.args.done) (stmt_tree c.args.s.now) tree made_tree w c.one_behind-in-Continue.result same
    (c.one_behind-in-Continue.ensures w w around tree (c.continue_form.ensures w))

pub items::statement-returns-in-Break : goal.items::statement-returns-in-Break
items::statement-returns-in-Break t c =
    let w = world_of c.args.world.now in
    let around = context_tree c.args.around in
    let tree : StmtTree = files.Break c.in-Break.pos in
    let same : stmt_tree c.args.s.now ≡ tree = ap stmt_tree c.in-Break.is ∙ stmt_break c.in-Break.pos in
    behind_so w around (made_tree c.args.done) (stmt_tree c.args.s.now) tree made_tree w c.one_behind-in-Break.result same
    (c.one_behind-in-Break.ensures w w around tree (c.break_form.ensures w))

pub items::statement-returns-in-Return : goal.items::statement-returns-in-Return
items::statement-returns-in-Return t c =
    let w = world_of c.args.world.now in
    let around = context_tree c.args.around in
    let tree : StmtTree = files.Return c.in-Return.pos (optional_tree c.in-Return.value) in
    let same : stmt_tree c.args.s.now ≡ tree = ap stmt_tree c.in-Return.is ∙ stmt_return c.in-Return.pos c.in-Return.value in
    behind_so w around (made_tree c.args.done) (stmt_tree c.args.s.now) tree made_tree (world_of c.return_form.new.world) c.one_behind-in-Return.result same
    (c.one_behind-in-Return.ensures w (world_of c.return_form.new.world) around tree c.return_form.ensures)

pub prefixes::label_form-returns-in-Err : goal.prefixes::label_form-returns-in-Err
prefixes::label_form-returns-in-Err t c =
    let w = world_of c.args.world.now in
    let around = context_tree c.args.around in
    let done = made_tree c.args.done in
    IfSome_then (refusal_of c.in-Err.error) c.in-Err.ensures (λ r p. label_line w around done c.args.at c.args.name.now (stmt_tree c.args.body.now) (Refused r) (stops p))

pub prefixes::label_form-returns : goal.prefixes::label_form-returns
prefixes::label_form-returns t c =
    let w = world_of c.args.world.now in
    let around = context_tree c.args.around in
    let done = made_tree c.args.done in
    let after = world_of c.behind_prefix.new.world in
    by (BehindPrefix (world_of c.label_of.new.world) around done (tstmt_tree c.in-Ok.got) (stmt_tree c.args.body.now)) (Behind w around done (files.Label c.args.at c.args.name.now (stmt_tree c.args.body.now))) made_tree
    after c.behind_prefix.result c.behind_prefix.ensures (λ o p. label_line w around done c.args.at c.args.name.now (stmt_tree c.args.body.now) o (goes_on c.in-Ok.ensures p))

pub prefixes::case_form-returns-in-Err : goal.prefixes::case_form-returns-in-Err
prefixes::case_form-returns-in-Err t c =
    let w = world_of c.args.world.now in
    let around = context_tree c.args.around in
    let done = made_tree c.args.done in
    IfSome_then (refusal_of c.in-Err.error) c.in-Err.ensures (λ r p. case_line w around done c.args.at (expr_tree c.args.value.now) (stmt_tree c.args.body.now) (Refused r) (stops p))

pub prefixes::case_form-returns : goal.prefixes::case_form-returns
prefixes::case_form-returns t c =
    let w = world_of c.args.world.now in
    let around = context_tree c.args.around in
    let done = made_tree c.args.done in
    let after = world_of c.behind_prefix.new.world in
    by (BehindPrefix (world_of c.case_at.new.world) around done (tstmt_tree c.in-Ok.got) (stmt_tree c.args.body.now)) (Behind w around done (files.Case c.args.at (expr_tree c.args.value.now) (stmt_tree c.args.body.now))) made_tree
    after c.behind_prefix.result c.behind_prefix.ensures (λ o p. case_line w around done c.args.at (expr_tree c.args.value.now) (stmt_tree c.args.body.now) o (goes_on c.in-Ok.ensures p))

pub prefixes::default_form-returns-in-Err : goal.prefixes::default_form-returns-in-Err
prefixes::default_form-returns-in-Err t c =
    let w = world_of c.args.world.now in
    let around = context_tree c.args.around in
    let done = made_tree c.args.done in
    IfSome_then (refusal_of c.in-Err.error) c.in-Err.ensures (λ r p. default_line w around done c.args.at (stmt_tree c.args.body.now) (Refused r) (stops p))

pub prefixes::default_form-returns : goal.prefixes::default_form-returns
prefixes::default_form-returns t c =
    let w = world_of c.args.world.now in
    let around = context_tree c.args.around in
    let done = made_tree c.args.done in
    let after = world_of c.behind_prefix.new.world in
    by (BehindPrefix (world_of c.default_of.new.world) around done (tstmt_tree c.in-Ok.got) (stmt_tree c.args.body.now)) (Behind w around done (files.Default c.args.at (stmt_tree c.args.body.now))) made_tree
    after c.behind_prefix.result c.behind_prefix.ensures (λ o p. default_line w around done c.args.at (stmt_tree c.args.body.now) o (goes_on c.in-Ok.ensures p))

pub prefixes::behind_prefix-returns : goal.prefixes::behind_prefix-returns
prefixes::behind_prefix-returns t c =
    let w = world_of c.args.world.now in
    let around = context_tree c.args.around in
    let done = made_tree c.args.done in
    let node = tstmt_tree c.args.node in
    let s = stmt_tree c.args.body.now in
    by (Behind w around (made_tree c.push.new.self) s) (BehindPrefix w around done node s) made_tree (world_of c.statement.new.world) c.statement.result c.statement.ensures
    (λ o p. prefix_line w around done (made_tree c.push.new.self) node s o c.in_ok-push.ensures p)

pub forms::block_form-returns-in-Err : goal.forms::block_form-returns-in-Err
forms::block_form-returns-in-Err t c =
    let w = world_of c.args.world.now in
    let around = context_tree c.args.around in
    let u = world_of c.open-scope.new.self in
    let opens = c.open-scope.ensures.opened in
    IfSome_then (refusal_of c.in-Err.error) c.in-Err.ensures (λ r p.
    block_line w u around (context_tree c.inside_block.result) c.args.at (blockitems_tree c.args.items.now) (Refused r) opens c.inside_block.ensures (stops p))

pub forms::block_form-returns : goal.forms::block_form-returns
forms::block_form-returns t c =
    let w = world_of c.args.world.now in
    let around = context_tree c.args.around in
    let u = world_of c.open-scope.new.self in
    let opens = c.open-scope.ensures.opened in
    let after = world_of c.close.new.self in
    let made = made_tree c.in-Ok.got in
    block_line w u around (context_tree c.inside_block.result) c.args.at (blockitems_tree c.args.items.now) (Typed (one (tstmt_tree c.block_node.result)) after) opens c.inside_block.ensures
    (goes_on c.in-Ok.ensures (made_so (tstmt_tree c.block_node.result) (Block c.args.at kinds.Written made.objects made.items) after (closed w (world_of c.block_items.new.world))
    c.block_node.ensures (c.close.ensures w c.open-scope.ensures.scope)))

pub forms::substatement-returns-in-Err : goal.forms::substatement-returns-in-Err
forms::substatement-returns-in-Err t c =
    let w = world_of c.args.world.now in
    let around = context_tree c.args.around in
    let u = world_of c.open-scope.new.self in
    let opens = c.open-scope.ensures.opened in
    IfSome_then (refusal_of c.in-Err.error) c.in-Err.ensures (λ r p.
    substatement_line w u around (made_tree c.nothing-nothing.result) (stmt_tree c.args.s.now) (Refused r) opens c.nothing-nothing.ensures p)

pub forms::substatement-returns : goal.forms::substatement-returns
forms::substatement-returns t c =
    let w = world_of c.args.world.now in
    let around = context_tree c.args.around in
    let u = world_of c.open-scope.new.self in
    let opens = c.open-scope.ensures.opened in
    let s = stmt_tree c.args.s.now in
    let made = made_tree c.in-Ok.got in
    let v = world_of c.statement.new.world in
    typed_so (Substatement w around s) (tstmt_tree c.block_node.result) (Block (stmt_pos s) kinds.Added made.objects made.items) (world_of c.close.new.self) (closed w v)
    (c.block_node.ensures ∙ ap (λ (at : Pos). Block at kinds.Added made.objects made.items) c.pos.ensures) (c.close.ensures w c.open-scope.ensures.scope)
    (substatement_line w u around (made_tree c.nothing-nothing.result) s (Typed made v) opens c.nothing-nothing.ensures c.in-Ok.ensures)

pub forms::if_form-returns-in-Err : goal.forms::if_form-returns-in-Err
forms::if_form-returns-in-Err t c =
    let w = world_of c.args.world.now in
    let around = context_tree c.args.around in
    let u = world_of c.open-scope.new.self in
    let opens = c.open-scope.ensures.opened in
    IfSome_then (refusal_of c.in-Err.error) c.in-Err.ensures (λ r p.
    if_line w u around (inside_block around) c.args.at (expr_tree c.args.e.now) (stmt_tree c.args.first.now) (Refused r) opens refl (stops p))

pub forms::if_form-returns-in-Err-substatement : goal.forms::if_form-returns-in-Err-substatement
forms::if_form-returns-in-Err-substatement t c =
    let w = world_of c.args.world.now in
    let around = context_tree c.args.around in
    let u = world_of c.open-scope.new.self in
    let opens = c.open-scope.ensures.opened in
    IfSome_then (refusal_of c.in-Err-substatement.error) c.in-Err-substatement.ensures (λ r p.
    if_line w u around (context_tree c.inside_block.result) c.args.at (expr_tree c.args.e.now) (stmt_tree c.args.first.now) (Refused r) opens c.inside_block.ensures (goes_on c.in-Ok.ensures (stops p)))

pub forms::if_form-returns : goal.forms::if_form-returns
forms::if_form-returns t c =
    let w = world_of c.args.world.now in
    let around = context_tree c.args.around in
    let u = world_of c.open-scope.new.self in
    let opens = c.open-scope.ensures.opened in
    let after = world_of c.close.new.self in
    if_line w u around (context_tree c.inside_block.result) c.args.at (expr_tree c.args.e.now) (stmt_tree c.args.first.now) (Typed (one (tstmt_tree c.in_ok-node.node)) after) opens c.inside_block.ensures
    (goes_on c.in-Ok.ensures (goes_on c.in-Ok-substatement.ensures (made_so (tstmt_tree c.in_ok-node.node) (If c.args.at (texpr_tree c.in-Ok.got) (tstmt_tree c.in-Ok-substatement.got) (no_else c.args.at)) after (closed w (world_of c.substatement.new.world))
    (c.in_ok-node.ensures ∙ ap (If c.args.at (texpr_tree c.in-Ok.got) (tstmt_tree c.in-Ok-substatement.got)) c.no_else-otherwise.ensures) (c.close.ensures w c.open-scope.ensures.scope))))

pub forms::if_else_form-returns-in-Err : goal.forms::if_else_form-returns-in-Err
forms::if_else_form-returns-in-Err t c =
    let w = world_of c.args.world.now in
    let around = context_tree c.args.around in
    let u = world_of c.open-scope.new.self in
    let opens = c.open-scope.ensures.opened in
    IfSome_then (refusal_of c.in-Err.error) c.in-Err.ensures (λ r p.
    if_else_line w u around (inside_block around) (inside_block around) c.args.at (expr_tree c.args.e.now) (stmt_tree c.args.first.now) (stmt_tree c.args.second.now) (Refused r) opens refl refl (stops p))

pub forms::if_else_form-returns-in-Err-substatement : goal.forms::if_else_form-returns-in-Err-substatement
forms::if_else_form-returns-in-Err-substatement t c =
    let w = world_of c.args.world.now in
    let around = context_tree c.args.around in
    let u = world_of c.open-scope.new.self in
    let opens = c.open-scope.ensures.opened in
    IfSome_then (refusal_of c.in-Err-substatement.error) c.in-Err-substatement.ensures (λ r p.
    if_else_line w u around (context_tree c.inside_block.result) (inside_block around) c.args.at (expr_tree c.args.e.now) (stmt_tree c.args.first.now) (stmt_tree c.args.second.now) (Refused r) opens c.inside_block.ensures refl (goes_on c.in-Ok.ensures (stops p)))

pub forms::if_else_form-returns-in-Err-substatement-2 : goal.forms::if_else_form-returns-in-Err-substatement-2
forms::if_else_form-returns-in-Err-substatement-2 t c =
    let w = world_of c.args.world.now in
    let around = context_tree c.args.around in
    let u = world_of c.open-scope.new.self in
    let opens = c.open-scope.ensures.opened in
    IfSome_then (refusal_of c.in-Err-substatement-2.error) c.in-Err-substatement-2.ensures (λ r p.
    if_else_line w u around (context_tree c.inside_block.result) (context_tree c.inside_block-2.result) c.args.at (expr_tree c.args.e.now) (stmt_tree c.args.first.now) (stmt_tree c.args.second.now) (Refused r) opens c.inside_block.ensures c.inside_block-2.ensures (goes_on c.in-Ok.ensures (goes_on c.in-Ok-substatement.ensures (stops p))))

pub forms::if_else_form-returns : goal.forms::if_else_form-returns
forms::if_else_form-returns t c =
    let w = world_of c.args.world.now in
    let around = context_tree c.args.around in
    let u = world_of c.open-scope.new.self in
    let opens = c.open-scope.ensures.opened in
    let after = world_of c.close.new.self in
    if_else_line w u around (context_tree c.inside_block.result) (context_tree c.inside_block-2.result) c.args.at (expr_tree c.args.e.now) (stmt_tree c.args.first.now) (stmt_tree c.args.second.now) (Typed (one (tstmt_tree c.in_ok-node.node)) after) opens c.inside_block.ensures c.inside_block-2.ensures
    (goes_on c.in-Ok.ensures (goes_on c.in-Ok-substatement.ensures (goes_on c.in-Ok-substatement-2.ensures (made_so (tstmt_tree c.in_ok-node.node) (If c.args.at (texpr_tree c.in-Ok.got) (tstmt_tree c.in-Ok-substatement.got) (tstmt_tree c.in-Ok-substatement-2.got)) after (closed w (world_of c.substatement-2.new.world))
    c.in_ok-node.ensures (c.close.ensures w c.open-scope.ensures.scope)))))

pub forms::while_form-returns-in-Err : goal.forms::while_form-returns-in-Err
forms::while_form-returns-in-Err t c =
    let w = world_of c.args.world.now in
    let around = context_tree c.args.around in
    let u = world_of c.open-scope.new.self in
    let opens = c.open-scope.ensures.opened in
    IfSome_then (refusal_of c.in-Err.error) c.in-Err.ensures (λ r p.
    while_line w u around (inside_loop around) c.args.at (expr_tree c.args.e.now) (stmt_tree c.args.body.now) (Refused r) opens refl (stops p))

pub forms::while_form-returns-in-Err-substatement : goal.forms::while_form-returns-in-Err-substatement
forms::while_form-returns-in-Err-substatement t c =
    let w = world_of c.args.world.now in
    let around = context_tree c.args.around in
    let u = world_of c.open-scope.new.self in
    let opens = c.open-scope.ensures.opened in
    IfSome_then (refusal_of c.in-Err-substatement.error) c.in-Err-substatement.ensures (λ r p.
    while_line w u around (context_tree c.inside_loop.result) c.args.at (expr_tree c.args.e.now) (stmt_tree c.args.body.now) (Refused r) opens c.inside_loop.ensures (goes_on c.in-Ok.ensures (stops p)))

pub forms::while_form-returns : goal.forms::while_form-returns
forms::while_form-returns t c =
    let w = world_of c.args.world.now in
    let around = context_tree c.args.around in
    let u = world_of c.open-scope.new.self in
    let opens = c.open-scope.ensures.opened in
    let after = world_of c.close.new.self in
    while_line w u around (context_tree c.inside_loop.result) c.args.at (expr_tree c.args.e.now) (stmt_tree c.args.body.now) (Typed (one (tstmt_tree c.in_ok-node.node)) after) opens c.inside_loop.ensures
    (goes_on c.in-Ok.ensures (goes_on c.in-Ok-substatement.ensures (made_so (tstmt_tree c.in_ok-node.node) (While c.args.at (texpr_tree c.in-Ok.got) (tstmt_tree c.in-Ok-substatement.got)) after (closed w (world_of c.substatement.new.world))
    c.in_ok-node.ensures (c.close.ensures w c.open-scope.ensures.scope))))

pub forms::do_while_form-returns-in-Err : goal.forms::do_while_form-returns-in-Err
forms::do_while_form-returns-in-Err t c =
    let w = world_of c.args.world.now in
    let around = context_tree c.args.around in
    let u = world_of c.open-scope.new.self in
    let opens = c.open-scope.ensures.opened in
    IfSome_then (refusal_of c.in-Err.error) c.in-Err.ensures (λ r p.
    do_while_line w u around (context_tree c.inside_loop.result) c.args.at (stmt_tree c.args.body.now) (expr_tree c.args.e.now) (Refused r) opens c.inside_loop.ensures (stops p))

pub forms::do_while_form-returns-in-Err-condition : goal.forms::do_while_form-returns-in-Err-condition
forms::do_while_form-returns-in-Err-condition t c =
    let w = world_of c.args.world.now in
    let around = context_tree c.args.around in
    let u = world_of c.open-scope.new.self in
    let opens = c.open-scope.ensures.opened in
    IfSome_then (refusal_of c.in-Err-condition.error) c.in-Err-condition.ensures (λ r p.
    do_while_line w u around (context_tree c.inside_loop.result) c.args.at (stmt_tree c.args.body.now) (expr_tree c.args.e.now) (Refused r) opens c.inside_loop.ensures (goes_on c.in-Ok.ensures (stops p)))

pub forms::do_while_form-returns : goal.forms::do_while_form-returns
forms::do_while_form-returns t c =
    let w = world_of c.args.world.now in
    let around = context_tree c.args.around in
    let u = world_of c.open-scope.new.self in
    let opens = c.open-scope.ensures.opened in
    let after = world_of c.close.new.self in
    do_while_line w u around (context_tree c.inside_loop.result) c.args.at (stmt_tree c.args.body.now) (expr_tree c.args.e.now) (Typed (one (tstmt_tree c.in_ok-node.node)) after) opens c.inside_loop.ensures
    (goes_on c.in-Ok.ensures (goes_on c.in-Ok-condition.ensures (made_so (tstmt_tree c.in_ok-node.node) (DoWhile c.args.at (tstmt_tree c.in-Ok.got) (texpr_tree c.in-Ok-condition.got)) after (closed w (world_of c.condition.new.world))
    c.in_ok-node.ensures (c.close.ensures w c.open-scope.ensures.scope))))

pub forms::for_form-returns-in-Err : goal.forms::for_form-returns-in-Err
forms::for_form-returns-in-Err t c =
    let w = world_of c.args.world.now in
    let around = context_tree c.args.around in
    let u = world_of c.open-scope.new.self in
    let opens = c.open-scope.ensures.opened in
    IfSome_then (refusal_of c.in-Err.error) c.in-Err.ensures (λ r p.
    for_line w u around (context_tree c.inside_block.result) (inside_loop around) c.args.at (forstart_tree c.args.head.now.start) (optional_tree c.args.head.now.condition) (optional_tree c.args.head.now.step) (stmt_tree c.args.body.now) (Refused r) opens c.inside_block.ensures refl (stops p))

pub forms::for_form-returns-in-Err-condition_if_any : goal.forms::for_form-returns-in-Err-condition_if_any
forms::for_form-returns-in-Err-condition_if_any t c =
    let w = world_of c.args.world.now in
    let around = context_tree c.args.around in
    let u = world_of c.open-scope.new.self in
    let opens = c.open-scope.ensures.opened in
    IfSome_then (refusal_of c.in-Err-condition_if_any.error) c.in-Err-condition_if_any.ensures (λ r p.
    for_line w u around (context_tree c.inside_block.result) (inside_loop around) c.args.at (forstart_tree c.args.head.now.start) (optional_tree c.args.head.now.condition) (optional_tree c.args.head.now.step) (stmt_tree c.args.body.now) (Refused r) opens c.inside_block.ensures refl (goes_on c.in-Ok.ensures (stops p)))

pub forms::for_form-returns-in-Err-dropped_if_any : goal.forms::for_form-returns-in-Err-dropped_if_any
forms::for_form-returns-in-Err-dropped_if_any t c =
    let w = world_of c.args.world.now in
    let around = context_tree c.args.around in
    let u = world_of c.open-scope.new.self in
    let opens = c.open-scope.ensures.opened in
    IfSome_then (refusal_of c.in-Err-dropped_if_any.error) c.in-Err-dropped_if_any.ensures (λ r p.
    for_line w u around (context_tree c.inside_block.result) (inside_loop around) c.args.at (forstart_tree c.args.head.now.start) (optional_tree c.args.head.now.condition) (optional_tree c.args.head.now.step) (stmt_tree c.args.body.now) (Refused r) opens c.inside_block.ensures refl (goes_on c.in-Ok.ensures (goes_on c.in-Ok-condition_if_any.ensures (stops p))))

pub forms::for_form-returns-in-Err-substatement : goal.forms::for_form-returns-in-Err-substatement
forms::for_form-returns-in-Err-substatement t c =
    let w = world_of c.args.world.now in
    let around = context_tree c.args.around in
    let u = world_of c.open-scope.new.self in
    let opens = c.open-scope.ensures.opened in
    IfSome_then (refusal_of c.in-Err-substatement.error) c.in-Err-substatement.ensures (λ r p.
    for_line w u around (context_tree c.inside_block.result) (context_tree c.inside_loop.result) c.args.at (forstart_tree c.args.head.now.start) (optional_tree c.args.head.now.condition) (optional_tree c.args.head.now.step) (stmt_tree c.args.body.now) (Refused r) opens c.inside_block.ensures c.inside_loop.ensures (goes_on c.in-Ok.ensures (goes_on c.in-Ok-condition_if_any.ensures (goes_on c.in-Ok-dropped_if_any.ensures (stops p)))))

pub forms::for_form-returns : goal.forms::for_form-returns
forms::for_form-returns t c =
    let w = world_of c.args.world.now in
    let around = context_tree c.args.around in
    let u = world_of c.open-scope.new.self in
    let opens = c.open-scope.ensures.opened in
    let after = world_of c.close.new.self in
    for_line w u around (context_tree c.inside_block.result) (context_tree c.inside_loop.result) c.args.at (forstart_tree c.args.head.now.start) (optional_tree c.args.head.now.condition) (optional_tree c.args.head.now.step) (stmt_tree c.args.body.now) (Typed (one (tstmt_tree c.in_ok-node.node)) after) opens c.inside_block.ensures c.inside_loop.ensures
    (goes_on c.in-Ok.ensures (goes_on c.in-Ok-condition_if_any.ensures (goes_on c.in-Ok-dropped_if_any.ensures (goes_on c.in-Ok-substatement.ensures (made_so (tstmt_tree c.in_ok-node.node) (For c.args.at (made_tree c.in-Ok.got).objects (made_tree c.in-Ok.got).items (option_map texpr_tree c.in-Ok-condition_if_any.got) (option_map texpr_tree c.in-Ok-dropped_if_any.got) (tstmt_tree c.in-Ok-substatement.got)) after (closed w (world_of c.substatement.new.world))
    c.in_ok-node.ensures (c.close.ensures w c.open-scope.ensures.scope))))))

pub switches::switch_form-returns-in-Err : goal.switches::switch_form-returns-in-Err
switches::switch_form-returns-in-Err t c =
    let w = world_of c.args.world.now in
    let around = context_tree c.args.around in
    let u = world_of c.open-scope.new.self in
    let opens = c.open-scope.ensures.opened in
    let at = c.args.at in
    let e = expr_tree c.args.e.now in
    let s = stmt_tree c.args.body.now in
    IfSome_then (refusal_of c.in-Err.error) c.in-Err.ensures (λ r p. switch_line w u around at e s (Refused r) opens (stops p))

pub switches::switch_form-returns-in-Err-switch_body : goal.switches::switch_form-returns-in-Err-switch_body
switches::switch_form-returns-in-Err-switch_body t c =
    let w = world_of c.args.world.now in
    let around = context_tree c.args.around in
    let u = world_of c.open-scope.new.self in
    let opens = c.open-scope.ensures.opened in
    let at = c.args.at in
    let e = expr_tree c.args.e.now in
    let s = stmt_tree c.args.body.now in
    let by = switched_tree c.in-Ok.got in
    let v = world_of c.switch_value.new.world in
    IfSome_then (refusal_of c.in-Err-switch_body.error) c.in-Err-switch_body.ensures (λ r p. switch_line w u around at e s (Refused r) opens (goes_on c.in-Ok.ensures (stops
    (body_so (world_of c.begin_cases-outer.new.world) (without_cases v) (context_tree c.inside_switch.result) (inside_switch by.ty around) s (Refused r)
    c.begin_cases-outer.ensures.begun c.inside_switch.ensures p))))

pub switches::switch_form-returns : goal.switches::switch_form-returns
switches::switch_form-returns t c =
    let w = world_of c.args.world.now in
    let around = context_tree c.args.around in
    let u = world_of c.open-scope.new.self in
    let opens = c.open-scope.ensures.opened in
    let at = c.args.at in
    let e = expr_tree c.args.e.now in
    let s = stmt_tree c.args.body.now in
    let by = switched_tree c.in-Ok.got in
    let body = body_tree c.in-Ok-switch_body.got in
    let v = world_of c.switch_value.new.world in
    let z = world_of c.switch_body.new.world in
    let after = world_of c.end_cases.new.world in
    let keeps = keeps_outer w u v at e by c.begin_cases-outer.result opens c.in-Ok.ensures c.begin_cases-outer.ensures.kept in
    switch_line w u around at e s (Typed (one (tstmt_tree c.switch_node.result)) after) opens (goes_on c.in-Ok.ensures (goes_on
    (body_so (world_of c.begin_cases-outer.new.world) (without_cases v) (context_tree c.inside_switch.result) (inside_switch by.ty around) s (Typed body z)
    c.begin_cases-outer.ensures.begun c.inside_switch.ensures c.in-Ok-switch_body.ensures)
    (made_so (tstmt_tree c.switch_node.result) (Switch at by.value body.kind body.made.objects body.made.items) after (with_cases_of w (closed w z))
    c.switch_node.ensures (c.end_cases.ensures w keeps ∙ ap (with_cases_of w) (c.close.ensures w c.open-scope.ensures.scope)))))

pub switches::switch_body-returns-in-None : goal.switches::switch_body-returns-in-None
switches::switch_body-returns-in-None t c =
    let w = world_of c.args.world.now in
    let around = context_tree c.args.around in
    let s = stmt_tree c.args.body.now in
    subst (λ b. Answers (SwitchBodyForm w around s b) body_tree (world_of c.added_body.new.world) c.added_body.result) c.in-None.ensures c.added_body.ensures

pub switches::switch_body-returns-in-Some : goal.switches::switch_body-returns-in-Some
switches::switch_body-returns-in-Some t c =
    let w = world_of c.args.world.now in
    let around = context_tree c.args.around in
    let s = stmt_tree c.args.body.now in
    subst (λ b. Answers (SwitchBodyForm w around s b) body_tree (world_of c.written_body.new.world) c.written_body.result) c.in-Some.ensures c.written_body.ensures

pub switches::switch_body-written_body-requires : goal.switches::switch_body-written_body-requires
switches::switch_body-written_body-requires t c =
    let below : blockitems_size (blockitems_tree c.in-Some.items.now) < stmt_size (stmt_tree c.args.body.now)
    = block_size (stmt_tree c.args.body.now) (blockitems_tree c.in-Some.items.now) c.in-Some.ensures in
    (omega arith, tt)

pub switches::written_body-returns-in-Err : goal.switches::written_body-returns-in-Err
switches::written_body-returns-in-Err t c =
    let w = world_of c.args.world.now in
    let around = context_tree c.args.around in
    let u = world_of c.open-scope.new.self in
    let opens = c.open-scope.ensures.opened in
    IfSome_then (refusal_of c.in-Err.error) c.in-Err.ensures (λ r p. written_line w u around (blockitems_tree c.args.items.now) (Refused r) opens (stops p))

pub switches::written_body-returns : goal.switches::written_body-returns
switches::written_body-returns t c =
    let w = world_of c.args.world.now in
    let around = context_tree c.args.around in
    let u = world_of c.open-scope.new.self in
    let opens = c.open-scope.ensures.opened in
    let v = world_of c.block_items.new.world in
    let body : SwitchBody = record { kind = kinds.Written; made = made_tree c.in-Ok.got } in
    written_line w u around (blockitems_tree c.args.items.now) (Typed body (world_of c.close.new.self)) opens
    (goes_on c.in-Ok.ensures (ap (λ (z : World). Typed body z) (c.close.ensures w c.open-scope.ensures.scope)))

pub switches::added_body-returns-in-Err : goal.switches::added_body-returns-in-Err
switches::added_body-returns-in-Err t c =
    let w = world_of c.args.world.now in
    let around = context_tree c.args.around in
    IfSome_then (refusal_of c.in-Err.error) c.in-Err.ensures (λ r p.
    added_line w (world_of c.open.new.self) around (made_tree c.nothing-nothing.result) (stmt_tree c.args.body.now) (Refused r) c.open.ensures.opened c.nothing-nothing.ensures p)

pub switches::added_body-returns : goal.switches::added_body-returns
switches::added_body-returns t c =
    let w = world_of c.args.world.now in
    let around = context_tree c.args.around in
    added_line w (world_of c.open.new.self) around (made_tree c.nothing-nothing.result) (stmt_tree c.args.body.now) (Typed (made_tree c.in-Ok.got) (world_of c.statement.new.world))
    c.open.ensures.opened c.nothing-nothing.ensures c.in-Ok.ensures
