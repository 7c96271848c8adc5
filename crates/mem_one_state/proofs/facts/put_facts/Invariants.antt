use Rattle.std.proofs.Common.{map}
use Rattle.c_syntax.specs.Types.{object_tree}
use Rattle.mem_one_state.proofs.Listing.{AreTold}
use Rattle.mem_one_state.proofs.facts.put_facts.Given as goal

abbrev pub invariant-loop-place : goal.invariant-loop-place
invariant-loop-place l = AreTold (map object_tree l.objects) l.memory l.place l.fn.facts.items l.facts.items
