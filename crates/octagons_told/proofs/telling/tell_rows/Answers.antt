use Rattle.num_api.proofs.PutOut.{adds_twice, tells_twice}
use Rattle.octagons_told.proofs.telling.tell_rows.Goals as goal

pub loop-p-preserved : goal.loop-p-preserved
loop-p-preserved c =
    let inv = c.loop-p.invariant in
    let one = c.in_ok-tell_row.ensures in
    record {
      kept = adds_twice _ _ _ inv.kept one.kept;
      told = λ v h. tells_twice v _ _ _ inv.kept one.kept (inv.told v h) (one.told v h);
    }
