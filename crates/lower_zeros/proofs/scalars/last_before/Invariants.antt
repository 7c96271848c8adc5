use Rattle.std.proofs.Common.{◌≡◌}
use Rattle.std.specs.Prelude.{None, map, drop, option_map}
use Rattle.std.specs.Option.{option_copied}
use Rattle.c_syntax.specs.Program.{member_tree}
use Rattle.lower_trees.specs.Zeros.{member_before}
use Rattle.lower_zeros.proofs.scalars.last_before.Given as goal

abbrev pub invariant-loop-member : goal.invariant-loop-member
invariant-loop-member l =
    member_before l.byte (option_map member_tree (option_copied l.found)) (map member_tree (drop l.member-index l.members))
    ≡ member_before l.byte None (map member_tree l.members)
