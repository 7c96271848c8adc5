use Rattle.std.proofs.Common.{◌-◌, drop, get_or, length, subst, sym, take}
use Rattle.mem_cell_bytes.specs.declared.entry.FillByte.TheVariants as fills
use Rattle.mem_cell_bytes.specs.declared.entry.Stretch.{Stretch}
use Rattle.mem_cell_grid.specs.Meetings.{AreStretchesMet}
use Rattle.mem_cell_grid.proofs.Meetings.{stretches-step, of-all}
use Rattle.mem_cell_grid.proofs.Lists.{get-or, has-drop, has-take, take-push}
use Rattle.mem_cell_grid.proofs.stretches_met.meet_stretches.Goals as goal

pub loop-f-preserved : goal.loop-f-preserved
loop-f-preserved c =
    let stretches = c.args.stretches.now in let others = c.args.others.now in let i = c.loop-f.f-index in let none : Stretch = record { from = 0; to = 0; byte = fills.Undef } in
    let f = get_or stretches i none in let met = c.meet_stretch.new.met.items in let at = c.seek-at.result in
    let rest = take (length others - at) (drop at others) in (
      c.seek-at.ensures,
      subst (λ xs. AreStretchesMet xs others met c.both-kept.result) (sym (take-push stretches i f (get-or stretches i none c.loop-f-test.true)))
          (subst (AreStretchesMet _ others met) (sym c.both-kept.ensures)
          (stretches-step (take i stretches) others c.loop-f.met.items met f c.loop-f.kept c.in_ok-keeps.keeps c.loop-f.invariant.1
          (of-all rest others f c.loop-f.met.items met c.in_ok-keeps.keeps (λ g h. has-drop others at g (has-take (drop at others) (length others - at) g h)) c.in_ok-keeps.ensures))),
    )
