use Rattle.std.proofs.Common.{◌≡◌, true, false, sym, ap, ◌∙◌, arith}
use Rattle.c_machine_trees.specs.declared.statement.SharedStmt.{SharedStmt}
use Rattle.c_machine_trees.specs.Statements.{stmt_tree}
use Rattle.c_steps.specs.Marks.{is_mark}
use Rattle.c_machine_work.specs.Marks.{mark_of}
use Rattle.c_machine_work.proofs.Marked.{found, found_behind, none_left, passes, passes_behind}
use Rattle.c_machine_work.proofs.marks.Mark.find.Goals as goal

pub returns-then-is : goal.returns-then-is
returns-then-is c =
    let mark = mark_of c.args.self in
    let this : is_mark mark (stmt_tree c.index-items-k.result.value) ≡ true =
    ap (λ (s : SharedStmt). is_mark mark (stmt_tree s)) (sym c.deref.ensures) ∙ sym c.is.ensures ∙ c.if-is.true in (
      omega arith,
      c.loop-k.invariant.1 ∙ found mark c.args.items.now c.loop-k.k c.index-items-k.result (omega arith) c.index-items-k.is this,
      sym (c.loop-k.invariant.2 ∙ found_behind mark c.args.items.now c.loop-k.k c.index-items-k.result (omega arith) c.index-items-k.is this),
    )

pub loop-k-preserved : goal.loop-k-preserved
loop-k-preserved c =
    let mark = mark_of c.args.self in
    let other : is_mark mark (stmt_tree c.index-items-k.result.value) ≡ false =
    ap (λ (s : SharedStmt). is_mark mark (stmt_tree s)) (sym c.deref.ensures) ∙ sym c.is.ensures ∙ c.if-is.false in (
      omega arith,
      c.loop-k.invariant.1 ∙ passes mark c.args.items.now c.loop-k.k c.index-items-k.result (omega arith) c.index-items-k.is other,
      c.loop-k.invariant.2 ∙ passes_behind mark c.args.items.now c.loop-k.k c.index-items-k.result (omega arith) c.index-items-k.is other,
    )

pub returns : goal.returns
returns c = c.loop-k.invariant.1 ∙ none_left (mark_of c.args.self) c.args.items.now c.loop-k.k (omega arith)
