use Rattle.std.proofs.Common.{◌≡◌, map, take}
use Rattle.c_check_names.proofs.structs.names_of.Given as goal

abbrev pub invariant-loop-member : goal.invariant-loop-member
invariant-loop-member l = l.names ≡ map (λ member. member.name) (take l.member-index l.members)
