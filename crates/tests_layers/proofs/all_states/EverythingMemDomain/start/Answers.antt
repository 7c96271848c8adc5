use Rattle.std.proofs.Common.{subst, sym, ap, ◌∙◌, map, length}
use Rattle.std.proofs.lemmas.List.{length-map}
use Rattle.c_syntax.specs.Types.{object_tree}
use Rattle.c_objects.specs.Statics.{start}
use Rattle.mem_api.specs.Owned.{IsOwned}
use Rattle.mem_api.proofs.Owning.{owned_start}
use Rattle.tests_layers.proofs.all_states.EverythingMemDomain.start.Goals as goal

pub returns-clause-stands : goal.returns-clause-stands
returns-clause-stands c = λ inputs.
    let objects = map object_tree c.args.program.now.objects in
    subst (λ n. IsOwned n (start objects c.args.program.now.initial)) (length-map c.args.program.now.objects object_tree ∙ ap length (sym c.as_slice.ensures))
    (owned_start objects c.args.program.now.initial)
