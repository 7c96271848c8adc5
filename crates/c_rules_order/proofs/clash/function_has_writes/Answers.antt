use Rattle.c_rules_effects.specs.Joined.{nothing}
use Rattle.c_rules_order.proofs.Sidewise.{none_writing, not_writing}
use Rattle.c_rules_order.proofs.clash.function_has_writes.Goals as goal

pub returns-in-Some : goal.returns-in-Some
returns-in-Some c = λ n.
    not_writing c.args.known.now c.args.function c.in-Some.called.now c.as_slice.result.now c.is_empty.result
    (c.in-Some.ensures.lookup.3.1 nothing) c.as_slice.ensures
    c.is_empty.ensures n

pub returns-in-None : goal.returns-in-None
returns-in-None c = λ n. none_writing c.args.known.now c.args.function c.in-None.ensures.lookup.3
