use Rattle.num_api.proofs.PutOut.{adds_twice, tells_twice}
use Rattle.octagons_told.proofs.telling.tell_changes.Goals as goal

pub returns-clause-kept : goal.returns-clause-kept
returns-clause-kept c = adds_twice _ _ _ c.in_ok-tell_ranges.ensures.kept c.in_ok-tell_rows.ensures.kept

pub returns-clause-told : goal.returns-clause-told
returns-clause-told c = λ v h.
    tells_twice v _ _ _ c.in_ok-tell_ranges.ensures.kept c.in_ok-tell_rows.ensures.kept (c.in_ok-tell_ranges.ensures.told v h) (c.in_ok-tell_rows.ensures.told v h)
