use Rattle.num_api.specs.Spans.{range_of}
use Rattle.channels.proofs.linked.LinkedOracle.range.Goals as goal

pub returns-clause-point : goal.returns-clause-point
returns-clause-point g c = λ v n x a s f e. c.in_both.ensures.point n (c.range.ensures.point v n x a.0 s f e) (c.range-2.ensures.holds v n a.1 e)

pub returns-clause-plain : goal.returns-clause-plain
returns-clause-plain g c = λ given s x u p e. c.in_both.ensures.inside (range_of s) (c.range.ensures.plain given s x u p e)

pub returns-clause-known : goal.returns-clause-known
returns-clause-known g c = λ x e p. c.in_both.ensures.inside (g.A.Oracle.known c.args.self.now.first x) (c.range.ensures.known x e p)
