use Rattle.std.proofs.Common.{◌≡◌, None, ap, length, take, sym, subst, ◌∙◌, arith, get_or}
use Rattle.std.proofs.lemmas.List.{length-take-le}
use Rattle.mem_cell_bytes.specs.Weights.{pointer_weight}
use Rattle.mem_cell_grid.specs.Meetings.{AreMet, IsPointerMet}
use Rattle.mem_cell_grid.proofs.Lists.{get-index, take-push}
use Rattle.mem_cell_grid.proofs.Meetings.{met-step, pointer-falls, pointer-less}
use Rattle.mem_cell_grid.proofs.pointers.meet_all.Goals as goal

pub loop-d-preserved : goal.loop-d-preserved
loop-d-preserved c =
    let sets = c.args.sets.now in let others = c.args.others.now in let a = c.index-sets-d.result in let i = c.loop-d.d in
    let met = c.push.new.self.items in let m = c.in_ok-met.met in
    let at = get-index sets i a a c.loop-d-test.true c.index-sets-d.is in
    let long : length (take i sets) ≡ i = length-take-le i sets (omega (arith, c.loop-d-test.true)) in
    let here : IsPointerMet a (get_or others (length (take i sets)) None) m.set m.kept =
    subst (λ n. IsPointerMet a (get_or others n None) m.set m.kept) (sym long) (subst (λ b. IsPointerMet a b m.set m.kept) (c.at_or.ensures ∙ ap (get_or others i) c.loop-d.invariant.0) c.in_ok-met.ensures) in (
      c.loop-d.invariant.0,
      subst (λ xs. AreMet pointer_weight None IsPointerMet xs others met c.both-kept.result) (sym (take-push sets i a at))
          (subst (AreMet pointer_weight None IsPointerMet _ others met) (sym c.both-kept.ensures)
          (met-step pointer_weight None IsPointerMet (take i sets) others c.loop-d.all.items met a m.set c.loop-d.kept m.kept c.loop-d.invariant.1 here
          (pointer-less a _ m.set m.kept here) (pointer-falls a _ m.set m.kept here) c.in_ok-push.ensures.items)),
    )
