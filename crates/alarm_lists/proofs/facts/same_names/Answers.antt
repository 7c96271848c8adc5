use Rattle.std.proofs.Common.{◌∙◌, sym}
use Rattle.std.proofs.lemmas.Bool.Decides.{Decides-eqb}
use Rattle.std.proofs.lemmas.Slice.Eq.{slice_eq-Decides}
use Rattle.alarm_lists.proofs.facts.same_names.Goals as goal

pub returns : goal.returns
returns c =
    let d = slice_eq-Decides Decides-eqb c.as_slice.result.now c.as_slice-2.result.now c.eq.result c.eq.ensures in
    λ h. sym c.as_slice.ensures ∙ d.0 h ∙ c.as_slice-2.ensures
