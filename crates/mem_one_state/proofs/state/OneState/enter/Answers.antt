use Rattle.std.proofs.Common.{sym, subst, ◌∙◌, map}
use Rattle.c_syntax.specs.Types.{object_tree}
use Rattle.csharp_state.proofs.Belonging.{all_there}
use Rattle.mem_one_state.specs.One.{IsFor, IsHeld}
use Rattle.mem_one_state.proofs.Held.{entered_held}
use Rattle.mem_one_state.proofs.state.OneState.enter.Goals as goal

pub invariant_of-self-2 : goal.invariant_of-self-2
invariant_of-self-2 c =
    let objects = map object_tree c.args.objects.now in
    entered_held objects c.args.names.now c.in-Some.state c.enter.new.self (subst IsHeld (sym c.take.ensures.value ∙ c.in-Some.is) c.self.invariant)
    (subst (IsFor objects) (sym c.self.view_is ∙ sym c.take.ensures.value ∙ c.in-Some.is) c.requires.objects)
    (all_there object_tree c.args.objects.now c.args.names.now c.requires.there) c.in_ok-enter.ensures.entered c.in_ok-enter.ensures.memory
