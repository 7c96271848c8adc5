use Rattle.std.proofs.Common.{arith, sym, ◌∙◌}
use Rattle.mem_objects.proofs.Lists.{some_is, some_copy, no_copy}
use Rattle.mem_objects.proofs.copies.Copies.knows.Goals as goal

pub returns-then-is_some : goal.returns-then-is_some
returns-then-is_some c =
    let s = some_is c.get.result (sym c.is_some.ensures ∙ c.if-is_some.true) in sym (some_copy c.args.self.now c.loop-temp.temp s.0 (sym c.get.ensures ∙ s.1))

pub returns : goal.returns
returns c = sym (no_copy c.args.self.now (λ k h. c.loop-temp.invariant k (omega arith)))
