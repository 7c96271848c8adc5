use Rattle.std.proofs.Common.{◌≡◌, ◌<◌, ◌∙◌, ℕ, List, length, sym, subst, ap, Option, None, Some}
use Rattle.std.specs.Prelude.{slice_index_or}
use Rattle.c_values.specs.Places.{ObjectMemory}
use Rattle.c_objects.proofs.memory.ObjectMemory.place.Goals as goal

pub returns-in-Some-Some-clause-made : goal.returns-in-Some-Some-clause-made
returns-in-Some-Some-clause-made c =
    let block = c.in-Some-Some.block in
    let there : slice_index_or c.self.inside.places.items c.args.object None ≡ Some block =
    sym (c.in-Some-Some.ensures.lookup.3.1 None ∙ ap (λ (l : List (Option ℕ)). slice_index_or l c.args.object None) c.deref.ensures.value)
    ∙ c.in-Some-Some.field-0-is in
    subst (λ (m : ObjectMemory). block < length m.blocks) c.self.view_is (c.self.invariant.placed c.args.object block there)
