use Rattle.std.proofs.Common.{map, sym, subst}
use Rattle.c_syntax.specs.Types.{object_tree}
use Rattle.csharp.specs.States.{State}
use Rattle.csharp_state.specs.Belongs.{Belongs}
use Rattle.csharp_exec.proofs.Begun.{begins}
use Rattle.csharp_exec.proofs.first.first_state.Goals as goal

pub returns-clause-objects : goal.returns-clause-objects
returns-clause-objects c =
    subst (λ (s : State). Belongs (map object_tree c.args.program.now.objects) s.memory) (sym c.new.ensures)
    (subst (λ os. Belongs (map object_tree os) c.in_ok-memory.memory) c.as_slice-objects.ensures
    (subst (Belongs (map object_tree c.as_slice-objects.result.now)) (sym c.in_ok-memory.ensures.start)
    (begins (map object_tree c.as_slice-objects.result.now) c.as_slice-initials.result.now)))
