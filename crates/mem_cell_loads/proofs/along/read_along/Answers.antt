use Rattle.std.proofs.Common.{arith, refl}
use Rattle.mem_cell_loads.proofs.Readings.{along-more}
use Rattle.mem_cell_loads.proofs.along.read_along.Goals as goal

pub loop-i-init : goal.loop-i-init
loop-i-init g c = (refl, λ j low high. absurd (omega (arith, low, high)))

pub loop-i-preserved : goal.loop-i-preserved
loop-i-preserved g c =
    let reach = c.args.reach.now in (
      refl,
      along-more g.D.Oracle.admits c.args.known.now c.args.object reach.first c.loop-i.i reach.step c.place_at.result c.args.ty c.loop-i.all c.in_ok-next.next c.in_ok-all.all
          c.place_at.ensures c.in_ok-all.ensures.first c.in_ok-all.ensures.second c.loop-i.invariant.1 c.in_ok-next.ensures,
    )

pub returns : goal.returns
returns g c = let end = c.loop-i-test.false in λ i low high. c.loop-i.invariant.1 i low (omega (arith, high, end))
