use Rattle.std.proofs.Common.{◌≡◌, length, [], ◌∷◌, Some}
use Rattle.std.specs.Prelude.{All}
use Rattle.c_objects.specs.Statics.{HasBlock}
use Rattle.tests_layers.proofs.objects.pointer.Given as goal

abbrev pub invariant-loop-k : goal.invariant-loop-k
invariant-loop-k l = (length l.pieces.items ≡ l.k) × All (λ piece. HasBlock (Some 0 ∷ Some 1 ∷ []) piece) l.pieces.items
