use Rattle.std.proofs.Common.{map}
use Rattle.c_syntax.specs.Types.{object_tree}
use Rattle.csharp_exec.proofs.Begun.{has_place}
use Rattle.csharp_exec.proofs.first.has_block.Goals as goal

pub returns-in-Piece-clause-has : goal.returns-in-Piece-clause-has
returns-in-Piece-clause-has c = λ yes. rw c.in-Piece.is (has_place (map object_tree c.args.objects.now) c.in-Piece.object (c.is_static.ensures.live yes))
