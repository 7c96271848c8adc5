use Rattle.std.proofs.Common.{◌∙◌, ◌∷◌, [], ap, sym, take, get_or}
use Rattle.std.proofs.lemmas.List.{take_more}
use Rattle.pointsets.specs.Targets.{killed}
use Rattle.mem_cell_bytes.specs.Ends.{killed_all}
use Rattle.mem_cell_bytes.proofs.Sets.{killed-push}
use Rattle.mem_cell_bytes.proofs.shared_set.killed_each.Goals as goal

pub loop-x-preserved : goal.loop-x-preserved
loop-x-preserved c =
    let gone = c.args.gone.now in let i = c.loop-x.x-index in let x = get_or gone i 0 in let set = c.args.set in
    c.kill.ensures ∙ ap (λ s. killed s (x ∷ [])) c.loop-x.invariant ∙ sym (killed-push set (take i gone) x) ∙ ap (killed_all set) (sym (take_more gone i 0 c.loop-x-test.true))
