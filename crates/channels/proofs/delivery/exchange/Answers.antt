use Rattle.std.proofs.Common.{ap}
use Rattle.num_api.specs.Lives.{is_live}
use Rattle.channels.proofs.HeardLemmas.{heard_still}
use Rattle.channels.proofs.delivery.exchange.Goals as goal

pub returns-clause-by_first : goal.returns-clause-by_first
returns-clause-by_first g c = λ x l.
    heard_still (g.A.Oracle.known c.deliver-2.new.state) (g.A.Oracle.known c.deliver_back.new.state) c.args.from_second.now
    (λ given u. c.in_ok-live.ensures.plain given x u) (c.in_ok-deliver-2.ensures.heard x (ap is_live c.in-Live-2.is))
