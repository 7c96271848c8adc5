use Rattle.std.proofs.Common.{ap, ◌∙◌}
use Rattle.num_api.specs.Value.{value_of}
use Rattle.num_api.proofs.PutOut.{adds_twice, tells_twice}
use Rattle.equalities.proofs.solving.tell_solved.Goals as goal

pub returns-clause-kept : goal.returns-clause-kept
returns-clause-kept c = adds_twice _ _ _ c.in_ok-tell_equal.ensures.kept c.in_ok-tell_operands.ensures.kept

pub returns-clause-told : goal.returns-clause-told
returns-clause-told c = λ v h.
    tells_twice v _ _ _ c.in_ok-tell_equal.ensures.kept c.in_ok-tell_operands.ensures.kept
    (c.in_ok-tell_equal.ensures.told v (ap (value_of v) c.in_ok-copy.ensures ∙ h)) (c.in_ok-tell_operands.ensures.told v h)
