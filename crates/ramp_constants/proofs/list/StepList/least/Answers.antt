use Rattle.std.proofs.Common.{ap, ◌∙◌, rules, subst, sym}
use Rattle.std.specs.Prelude.{slice_get}
use Rattle.std.specs.Int.RustNames.{int_lt}
use Rattle.std.proofs.lemmas.List.Sorted.{IsPartitionPoint-from_clause}
use Rattle.num_api.specs.Steps.{IsRising, least}
use Rattle.ramp_constants.proofs.StepLists.{least_there, looked_up, rising_parted}
use Rattle.ramp_constants.proofs.list.StepList.least.Goals as goal

pub returns : goal.returns
returns c =
    let steps = c.deref.result.now in
    let first = c.partition_point-first.result in
    let point = IsPartitionPoint-from_clause (λ step. int_lt step c.args.n) steps first c.partition_point-first.ensures.partitioned
    (rising_parted steps c.args.n (subst IsRising (sym c.self.view_is ∙ sym c.deref.ensures.value) c.requires)) (λ a r q h. search rules) in
    let here = sym c.self.view_is ∙ sym c.deref.ensures.value in
    c.copied.ensures ∙ looked_up c.deref-2.result.now first c.get.result c.get.ensures.lookup.3 ∙ ap (λ xs. slice_get xs first) (c.deref-2.ensures.value ∙ sym c.deref.ensures.value)
    ∙ least_there steps c.args.n first c.partition_point-first.ensures.bound point ∙ ap (λ xs. least xs c.args.n) (sym here)
