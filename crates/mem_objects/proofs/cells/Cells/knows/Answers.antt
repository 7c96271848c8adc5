use Rattle.std.proofs.Common.{arith, sym, ◌∙◌}
use Rattle.mem_objects.proofs.Lists.{some_is, some_cell, no_cell}
use Rattle.mem_objects.proofs.cells.Cells.knows.Goals as goal

pub returns-then-is_some : goal.returns-then-is_some
returns-then-is_some c =
    let s = some_is c.get.result (sym c.is_some.ensures ∙ c.if-is_some.true) in sym (some_cell c.args.self.now c.loop-x.x s.0 (sym c.get.ensures ∙ s.1))

pub returns : goal.returns
returns c = sym (no_cell c.args.self.now (λ k h. c.loop-x.invariant k (omega arith)))
