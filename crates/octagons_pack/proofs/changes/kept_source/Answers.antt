use Rattle.std.proofs.Common.{sym, subst, ap, ◌∙◌}
use Rattle.ext_int.specs.Valuation.{value_at}
use Rattle.octagons_sources.specs.declared.source.Source.{Source}
use Rattle.octagons_sources.specs.Sources.{IsDrawn}
use Rattle.octagons_pack.specs.Packs.{picked}
use Rattle.octagons_pack.proofs.Picking.{picked-at, drawn-same}
use Rattle.octagons_pack.proofs.changes.kept_source.Goals as goal

pub returns-in-Some : goal.returns-in-Some
returns-in-Some c = λ v w e.
    let b = c.in-Some.ensures.some in
    subst (λ (s : Source). IsDrawn s (picked v c.args.old.now) (value_at w c.args.z)) (sym c.same.ensures)
    (drawn-same (picked v c.args.old.now) c.in-Some.k (value_at w c.args.z) (e ∙ sym (picked-at v c.args.old.now c.in-Some.k b.0 ∙ ap (value_at v) b.1)))
