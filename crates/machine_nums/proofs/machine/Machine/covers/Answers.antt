use Rattle.std.proofs.Common.{◌∙◌, sym}
use Rattle.std.proofs.lemmas.Bool.{false≢true}
use Rattle.machine_nums.proofs.Machines.{held_first, held_second, held_third}
use Rattle.machine_nums.proofs.machine.Machine.covers.Goals as goal

pub returns-then-other-clause-value : goal.returns-then-other-clause-value
returns-then-other-clause-value g c = held_first _ _ c.if-other.true

pub returns-then-other-clause-included : goal.returns-then-other-clause-included
returns-then-other-clause-included g c = λ e v ad. absurd (false≢true (sym ad.0 ∙ c.if-other.true))

pub returns-then-self-clause-value : goal.returns-then-self-clause-value
returns-then-self-clause-value g c = held_second _ _ _ c.if-other.false c.if-self.true

pub returns-then-self-clause-included : goal.returns-then-self-clause-included
returns-then-self-clause-included g c = λ e. absurd (false≢true e)

pub returns-clause-value : goal.returns-clause-value
returns-clause-value g c = c.covers.ensures.value ∙ held_third _ _ _ c.if-other.false c.if-self.false

pub returns-clause-included : goal.returns-clause-included
returns-clause-included g c = λ e v ad. (c.if-self.false, c.covers.ensures.included e v ad.1)
