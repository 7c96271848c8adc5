use Rattle.std.proofs.Common.{map, vec_len}
use Rattle.std.specs.Prelude.{⊤}
use Rattle.c_syntax_written.specs.WrittenFile.{outer_tree}
use Rattle.c_typing.specs.World.{Outcome}
use Rattle.c_typing.specs.File.{TypesOuters}
use Rattle.c_check_jumps.specs.ContextViews.{context_tree}
use Rattle.c_check_names.specs.Worlds.{world_of}
use Rattle.c_check.proofs.Lines.{TypesLeft}
use Rattle.c_check.proofs.files.outers.Given as goal

-- what is left decides for all
abbrev pub invariant-each : goal.invariant-each
invariant-each l =
    (o : Outcome ⊤) → TypesLeft (world_of l.world) (context_tree l.around) l.left.items o
    → TypesOuters (world_of l.fn.world) (context_tree l.around) (map outer_tree l.fn.items.items) o

abbrev pub decreases-each : goal.decreases-each
decreases-each l = vec_len l.left
