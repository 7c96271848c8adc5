use Rattle.num_api.proofs.PutOut.{adds_twice, tells_twice}
use Rattle.octagons_told.proofs.telling.tell_row.Goals as goal

pub loop-q-preserved : goal.loop-q-preserved
loop-q-preserved c =
    let inv = c.loop-q.invariant in
    let one = c.in_ok-tell_fallen.ensures in
    record {
      kept = adds_twice _ _ _ inv.kept one.kept;
      told = λ v h. tells_twice v _ _ _ inv.kept one.kept (inv.told v h) (one.told v h);
    }
