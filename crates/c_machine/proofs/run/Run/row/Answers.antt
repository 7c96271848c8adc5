use Rattle.std.proofs.Common.{ℕ, List, sym, subst}
use Rattle.c_syntax.specs.Program.{tprogram_tree}
use Rattle.c_steps_laws.specs.Needs.{AddrNeeds, AreThere, DoNeeds, Needs}
use Rattle.c_steps_laws.specs.Shapes.{HasShape}
use Rattle.c_machine_trees.specs.declared.expression.SharedPlace.{SharedPlace}
use Rattle.c_machine_trees.specs.declared.statement.SharedStmt.{SharedStmt}
use Rattle.c_machine_trees.specs.declared.statement.SharedStmts.{SharedStmts}
use Rattle.c_machine_trees.specs.Expressions.{place_tree}
use Rattle.c_machine_trees.specs.Statements.{stmt_tree, stmts_tree}
use Rattle.c_steps.specs.Work.{Close}
use Rattle.c_machine_values.specs.Contents.{stack_of}
use Rattle.c_machine_work.specs.declared.items.Item.{Item}
use Rattle.c_machine_work.specs.Views.{item_of}
use Rattle.c_machine_work.specs.Works.{work_of}
use Rattle.c_machine.specs.States.{run_state}
use Rattle.c_machine.specs.Steps.{IsRow}
use Rattle.c_machine.proofs.Ready.{needs_of, shape_of}
use Rattle.c_machine.proofs.run.Run.row.Goals as goal

pub and_then-requires-clause-there : goal.and_then-requires-clause-there
and_then-requires-clause-there c =
    subst (λ (x : Item). HasShape (item_of x) (stack_of c.args.self.now.values)) c.in-AndThen.is
    (shape_of (tprogram_tree c.args.program.now) (item_of c.args.item.now) (run_state c.args.self.now) c.requires.next)

pub and_then-requires-clause-typed : goal.and_then-requires-clause-typed
and_then-requires-clause-typed c =
    subst (λ (x : Item). Needs (tprogram_tree c.args.program.now) (item_of x) (work_of c.args.self.now.work) (stack_of c.args.self.now.values)
    c.args.self.now.values.memory) c.in-AndThen.is
    (needs_of (tprogram_tree c.args.program.now) (item_of c.args.item.now) (run_state c.args.self.now) c.requires.next)

pub or_else-requires-clause-there : goal.or_else-requires-clause-there
or_else-requires-clause-there c =
    subst (λ (x : Item). HasShape (item_of x) (stack_of c.args.self.now.values)) c.in-OrElse.is
    (shape_of (tprogram_tree c.args.program.now) (item_of c.args.item.now) (run_state c.args.self.now) c.requires.next)

pub or_else-requires-clause-typed : goal.or_else-requires-clause-typed
or_else-requires-clause-typed c =
    subst (λ (x : Item). Needs (tprogram_tree c.args.program.now) (item_of x) (work_of c.args.self.now.work) (stack_of c.args.self.now.values)
    c.args.self.now.values.memory) c.in-OrElse.is
    (needs_of (tprogram_tree c.args.program.now) (item_of c.args.item.now) (run_state c.args.self.now) c.requires.next)

pub pick-requires-clause-there : goal.pick-requires-clause-there
pick-requires-clause-there c =
    subst (λ (x : Item). HasShape (item_of x) (stack_of c.args.self.now.values)) c.in-Pick.is
    (shape_of (tprogram_tree c.args.program.now) (item_of c.args.item.now) (run_state c.args.self.now) c.requires.next)

pub pick-requires-clause-typed : goal.pick-requires-clause-typed
pick-requires-clause-typed c =
    subst (λ (x : Item). Needs (tprogram_tree c.args.program.now) (item_of x) (work_of c.args.self.now.work) (stack_of c.args.self.now.values)
    c.args.self.now.values.memory) c.in-Pick.is
    (needs_of (tprogram_tree c.args.program.now) (item_of c.args.item.now) (run_state c.args.self.now) c.requires.next)

pub choose-requires-clause-there : goal.choose-requires-clause-there
choose-requires-clause-there c =
    subst (λ (x : Item). HasShape (item_of x) (stack_of c.args.self.now.values)) c.in-Choose.is
    (shape_of (tprogram_tree c.args.program.now) (item_of c.args.item.now) (run_state c.args.self.now) c.requires.next)

pub choose-requires-clause-typed : goal.choose-requires-clause-typed
choose-requires-clause-typed c =
    subst (λ (x : Item). Needs (tprogram_tree c.args.program.now) (item_of x) (work_of c.args.self.now.work) (stack_of c.args.self.now.values)
    c.args.self.now.values.memory) c.in-Choose.is
    (needs_of (tprogram_tree c.args.program.now) (item_of c.args.item.now) (run_state c.args.self.now) c.requires.next)

pub assume-requires-clause-there : goal.assume-requires-clause-there
assume-requires-clause-there c =
    subst (λ (x : Item). HasShape (item_of x) (stack_of c.args.self.now.values)) c.in-Keep.is
    (shape_of (tprogram_tree c.args.program.now) (item_of c.args.item.now) (run_state c.args.self.now) c.requires.next)

pub assume-requires-clause-typed : goal.assume-requires-clause-typed
assume-requires-clause-typed c =
    subst (λ (x : Item). Needs (tprogram_tree c.args.program.now) (item_of x) (work_of c.args.self.now.work) (stack_of c.args.self.now.values)
    c.args.self.now.values.memory) c.in-Keep.is
    (needs_of (tprogram_tree c.args.program.now) (item_of c.args.item.now) (run_state c.args.self.now) c.requires.next)

pub turn-requires-clause-there : goal.turn-requires-clause-there
turn-requires-clause-there c =
    subst (λ (x : Item). HasShape (item_of x) (stack_of c.args.self.now.values)) c.in-Turn.is
    (shape_of (tprogram_tree c.args.program.now) (item_of c.args.item.now) (run_state c.args.self.now) c.requires.next)

pub turn-requires-clause-typed : goal.turn-requires-clause-typed
turn-requires-clause-typed c =
    subst (λ (x : Item). Needs (tprogram_tree c.args.program.now) (item_of x) (work_of c.args.self.now.work) (stack_of c.args.self.now.values)
    c.args.self.now.values.memory) c.in-Turn.is
    (needs_of (tprogram_tree c.args.program.now) (item_of c.args.item.now) (run_state c.args.self.now) c.requires.next)

pub enter-requires-clause-entered : goal.enter-requires-clause-entered
enter-requires-clause-entered c =
    subst (λ (x : Item). Needs (tprogram_tree c.args.program.now) (item_of x) (work_of c.args.self.now.work) (stack_of c.args.self.now.values)
    c.args.self.now.values.memory) c.in-Enter.is
    (needs_of (tprogram_tree c.args.program.now) (item_of c.args.item.now) (run_state c.args.self.now) c.requires.next)

pub leave-requires-clause-there : goal.leave-requires-clause-there
leave-requires-clause-there c =
    subst (λ (x : Item). HasShape (item_of x) (stack_of c.args.self.now.values)) c.in-Leave.is
    (shape_of (tprogram_tree c.args.program.now) (item_of c.args.item.now) (run_state c.args.self.now) c.requires.next)

pub leave-requires-clause-lands : goal.leave-requires-clause-lands
leave-requires-clause-lands c =
    subst (λ (x : Item). Needs (tprogram_tree c.args.program.now) (item_of x) (work_of c.args.self.now.work) (stack_of c.args.self.now.values)
    c.args.self.now.values.memory) c.in-Leave.is
    (needs_of (tprogram_tree c.args.program.now) (item_of c.args.item.now) (run_state c.args.self.now) c.requires.next)

pub select-requires-clause-number : goal.select-requires-clause-number
select-requires-clause-number c =
    subst (λ (x : Item). HasShape (item_of x) (stack_of c.args.self.now.values)) c.in-Select.is
    (shape_of (tprogram_tree c.args.program.now) (item_of c.args.item.now) (run_state c.args.self.now) c.requires.next)

pub finish-requires-clause-number : goal.finish-requires-clause-number
finish-requires-clause-number c =
    subst (λ (x : Item). HasShape (item_of x) (stack_of c.args.self.now.values)) c.in-Finish.is
    (shape_of (tprogram_tree c.args.program.now) (item_of c.args.item.now) (run_state c.args.self.now) c.requires.next)

pub finish-requires-clause-int : goal.finish-requires-clause-int
finish-requires-clause-int c =
    subst (λ (x : Item). Needs (tprogram_tree c.args.program.now) (item_of x) (work_of c.args.self.now.work) (stack_of c.args.self.now.values)
    c.args.self.now.values.memory) c.in-Finish.is
    (needs_of (tprogram_tree c.args.program.now) (item_of c.args.item.now) (run_state c.args.self.now) c.requires.next)

pub take_place-requires : goal.take_place-requires
take_place-requires c =
    let p = tprogram_tree c.args.program.now in
    let m = c.args.self.now.values.memory in
    subst (λ (x : SharedPlace). AddrNeeds m (place_tree x)) (sym c.deref-in-Addr.ensures)
    (subst (λ (x : Item). Needs p (item_of x) (work_of c.args.self.now.work) (stack_of c.args.self.now.values) m) c.in-Addr.is
    (needs_of p (item_of c.args.item.now) (run_state c.args.self.now) c.requires.next))

pub execute-requires : goal.execute-requires
execute-requires c =
    let p = tprogram_tree c.args.program.now in
    let m = c.args.self.now.values.memory in
    subst (λ (x : SharedStmt). DoNeeds m (stmt_tree x) (work_of c.args.self.now.work)) (sym c.deref-in-Do.ensures)
    (subst (λ (x : Item). Needs p (item_of x) (work_of c.args.self.now.work) (stack_of c.args.self.now.values) m) c.in-Do.is
    (needs_of p (item_of c.args.item.now) (run_state c.args.self.now) c.requires.next))

pub close_block-requires : goal.close_block-requires
close_block-requires c =
    let p = tprogram_tree c.args.program.now in
    let m = c.args.self.now.values.memory in
    subst (λ (xs : List ℕ). AreThere m xs) (sym c.deref-in-Close.ensures)
    (subst (λ (x : Item). Needs p (item_of x) (work_of c.args.self.now.work) (stack_of c.args.self.now.values) m) c.in-Close.is
    (needs_of p (item_of c.args.item.now) (run_state c.args.self.now) c.requires.next))

pub returns-in-Close : goal.returns-in-Close
returns-in-Close c =
    let p = tprogram_tree c.args.program.now in
    let old = run_state c.args.self.now in
    let new = run_state c.close_block.new.self in
    subst (λ (x : Item). IsRow p (item_of x) old new c.close_block.result) (sym c.in-Close.is)
    (subst (λ (xs : List ℕ). IsRow p (Close xs (stmts_tree c.in-Close.items.value)) old new c.close_block.result) c.deref-in-Close.ensures
    (subst (λ (x : SharedStmts). IsRow p (Close c.deref-in-Close.result.now (stmts_tree x)) old new c.close_block.result) c.deref-in-Close-2.ensures
    (c.close_block.ensures p)))

pub select-requires-clause-there : goal.select-requires-clause-there
select-requires-clause-there c =
    subst (λ (x : Item). Needs (tprogram_tree c.args.program.now) (item_of x) (work_of c.args.self.now.work) (stack_of c.args.self.now.values)
    c.args.self.now.values.memory) c.in-Select.is
    (needs_of (tprogram_tree c.args.program.now) (item_of c.args.item.now) (run_state c.args.self.now) c.requires.next)
