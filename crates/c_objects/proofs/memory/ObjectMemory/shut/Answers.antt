use Rattle.std.proofs.Common.{◌≡◌, ◌<◌, length, sym, subst, ◌∙◌, None}
use Rattle.std.specs.Prelude.{slice_index_or}
use Rattle.std.proofs.lemmas.List.{get_or_read}
use Rattle.c_values.specs.Places.{ObjectMemory}
use Rattle.c_objects.proofs.memory.ObjectMemory.shut.Goals as goal

pub free_block-requires : goal.free_block-requires
free_block-requires c =
    let there : c.args.object < length c.self.inside.places.items = subst (λ (m : ObjectMemory). c.args.object < length m.places) (sym c.self.view_is)
    c.requires in
    let here : c.index.result.now ≡ slice_index_or c.self.inside.places.items c.args.object None =
    get_or_read c.self.inside.places.items c.args.object c.index.result.now there c.index.ensures None in
    record { made = c.self.invariant.placed c.args.object c.in-Some.block (sym here ∙ c.in-Some.is) }
