use Rattle.num_api.proofs.PowersRamp.{powers_answer}
use Rattle.std.proofs.Common.{◌≡◌, refl, sym, ap, ◌∙◌, []}
use Rattle.csharp.specs.Trees.{CsProgramTree}
use Rattle.tests_layers.specs.declared.all_states.Everything.{Everything}
use Rattle.tests_layers.proofs.all_states.settles.Goals as goal

pub new-ramp-requires : goal.new-ramp-requires
new-ramp-requires g c = powers_answer _ _ _ (λ n small. tt) (λ n r small post. search post)

pub settle-requires-clause-one : goal.settle-requires-clause-one
settle-requires-clause-one g c = (no_program, refl, λ m next same returned. let copied : next ≡ m = search returned in same ∙ ap (λ (e : Everything). e.objects) (sym copied)) where
  no_program : CsProgramTree
  no_program = record { structs = []; objects = []; initial = []; functions = []; temps = []; main = 0 }
