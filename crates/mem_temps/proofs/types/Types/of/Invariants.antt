use Rattle.std.proofs.Common.{◌≡◌, take}
use Rattle.mem_temps.proofs.types.Types.of.Given as goal

abbrev pub invariant-loop-ty : goal.invariant-loop-ty
invariant-loop-ty l = l.items.items ≡ take l.ty-index l.types
