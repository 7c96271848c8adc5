use Rattle.std.proofs.Common.{◌*ℤ◌, sym, ◌∙◌}
use Rattle.std.proofs.lemmas.Bool.{false≢true}
use Rattle.num_api.proofs.Parts.{none_of}
use Rattle.env_lift.proofs.Changing.{some_map}
use Rattle.env_lift.proofs.Inverting.{not_zero, quotient_is}
use Rattle.env_lift.proofs.inverses.factor.Goals as goal

pub returns-clause-some : goal.returns-clause-some
returns-clause-some g c = some_map _ _ c.meet.result c.meet.ensures.some (λ d f x y p q r.
    let apart = not_zero y (λ t. false≢true (sym c.if-may_be.false ∙ c.may_be.ensures.holds y (c.range.ensures.holds y q) t)) in
    f x p (c.binary.ensures.holds (x *ℤ y) y x r q (quotient_is x y apart)))

pub returns-clause-none : goal.returns-clause-none
returns-clause-none g c = none_of _ _ c.meet.result c.meet.ensures.none (λ f x y p q r.
    let apart = not_zero y (λ t. false≢true (sym c.if-may_be.false ∙ c.may_be.ensures.holds y (c.range.ensures.holds y q) t)) in
    f x p (c.binary.ensures.holds (x *ℤ y) y x r q (quotient_is x y apart)))
