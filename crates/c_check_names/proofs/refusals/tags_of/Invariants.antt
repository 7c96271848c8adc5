use Rattle.std.proofs.Common.{◌≡◌, map, take}
use Rattle.c_check_names.proofs.refusals.tags_of.Given as goal

abbrev pub invariant-loop-def : goal.invariant-loop-def
invariant-loop-def l = l.tags.items ≡ map (λ def. def.tag) (take l.def-index l.def-items)
