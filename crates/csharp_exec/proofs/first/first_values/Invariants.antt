use Rattle.std.proofs.Common.{◌≡◌, map, take}
use Rattle.csharp.specs.States.{first_value}
use Rattle.csharp_exec.proofs.first.first_values.Given as goal

abbrev pub invariant-loop-ty : goal.invariant-loop-ty
invariant-loop-ty l = l.values.items ≡ map first_value (take l.ty-index l.temps)
