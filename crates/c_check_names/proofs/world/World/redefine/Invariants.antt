use Rattle.std.proofs.Common.{◌≡◌, ◌-◌, length, map}
use Rattle.c_check_names.specs.Trees.{tag_meaning, tag_tree}
use Rattle.c_check_names.specs.Worlds.{world_of}
use Rattle.c_check_names.proofs.Become.{told_from}
use Rattle.c_check_names.proofs.world.World.redefine.Given as goal

-- what is still to be told makes the whole
abbrev pub invariant-loop-place : goal.invariant-loop-place
invariant-loop-place l = (told_from l.defined (tag_meaning l.meaning) l.tag l.from (map tag_tree l.self.tags) ≡ told_from l.defined (tag_meaning l.meaning) l.tag l.fn.self.first_tag (map tag_tree l.fn.self.tags))
    × (world_of l.self ≡ record (world_of l.fn.self) { tags = map tag_tree l.self.tags })

abbrev pub decreases-loop-place : goal.decreases-loop-place
decreases-loop-place l = length l.self.tags - l.from
