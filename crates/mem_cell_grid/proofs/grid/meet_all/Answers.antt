use Rattle.std.proofs.Common.{◌≡◌, ap, length, take, sym, subst, ◌∙◌, arith, get_or}
use Rattle.std.proofs.lemmas.List.{length-take-le}
use Rattle.mem_cell_bytes.specs.Contents.{nothing}
use Rattle.mem_cell_bytes.specs.Weights.{contents_weight}
use Rattle.mem_cell_grid.specs.Meetings.{AreMet, AreContentsMet}
use Rattle.mem_cell_grid.proofs.Lists.{get-index, take-push}
use Rattle.mem_cell_grid.proofs.Meetings.{met-step}
use Rattle.mem_cell_grid.proofs.grid.meet_all.Goals as goal

pub loop-x-preserved : goal.loop-x-preserved
loop-x-preserved c =
    let objects = c.args.objects.now in let others = c.args.others.now in let a = c.index-objects-x.result in let i = c.loop-x.x in
    let met = c.push.new.self.items in let m = c.in_ok-met.met in
    let at = get-index objects i a a c.loop-x-test.true c.index-objects-x.is in
    let long : length (take i objects) ≡ i = length-take-le i objects (omega (arith, c.loop-x-test.true)) in
    let here : AreContentsMet a (get_or others (length (take i objects)) nothing) m.held m.kept =
    subst (λ n. AreContentsMet a (get_or others n nothing) m.held m.kept) (sym long)
    (subst (λ b. AreContentsMet a b m.held m.kept) (c.at_or.ensures ∙ ap (get_or others i) c.nothing-none.ensures) c.in_ok-met.ensures) in
    subst (λ xs. AreMet contents_weight nothing AreContentsMet xs others met c.both-kept.result) (sym (take-push objects i a at))
    (subst (AreMet contents_weight nothing AreContentsMet _ others met) (sym c.both-kept.ensures)
    (met-step contents_weight nothing AreContentsMet (take i objects) others c.loop-x.all.items met a m.held c.loop-x.kept m.kept c.loop-x.invariant here
    here.less here.falls c.in_ok-push.ensures.items))
