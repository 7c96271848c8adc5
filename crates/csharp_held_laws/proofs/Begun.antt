-- The first state of a formed program is held.
use Rattle.std.proofs.Common.{◌≡◌, ℕ, true, false, List, [], ◌∷◌, length, Option, Some, None, refl, ap, arith}
use Rattle.std.specs.Prelude.{not, nat_le, All, IsSomeAnd, IsTrue, option_map, slice_get}
use Rattle.std.specs.Option.{option_map_or}
use Rattle.std.proofs.lemmas.Bool.{le-leb}
use Rattle.std.proofs.lemmas.List.Elements.{All-head, All-tail}
use Rattle.c_syntax.specs.declared.program.InitByte.{InitByte}
use Rattle.c_syntax.specs.declared.program.InitByte.TheVariants as bytes
use Rattle.c_syntax.specs.declared.program.Initial.{Initial}
use Rattle.c_syntax.specs.Types.{ObjectTree}
use Rattle.csharp.specs.Trees.{CsProgramTree}
use Rattle.csharp.specs.Formed.{IsFormedByte, IsFormedInitial}
use Rattle.csharp_exec.specs.Beginning.{all_fit, are_placed, fits, is_placed}
use Rattle.csharp_held_laws.specs.Held.{StartsAreHeld}
use Rattle.csharp_held_laws.proofs.Numbers.{and_true}

static_placed : (o : Option ObjectTree) → IsSomeAnd o (λ x. IsTrue x.is_static) → option_map_or (λ (x : ObjectTree). x.is_static) o false ≡ true
static_placed None h = absurd h
static_placed (Some x) h = h

no_longer : (n : ℕ) (o : Option ObjectTree) → IsSomeAnd o (λ x. n ≡ x.size) → option_map_or (λ size. nat_le n size) (option_map (λ (x : ObjectTree). x.size) o) false ≡ true
no_longer n None h = absurd h
no_longer n (Some x) h = le-leb n x.size (omega (arith, h))

module _ (q : CsProgramTree) where
  byte_placed : (y : InitByte) → IsFormedByte q y → is_placed q.objects y ≡ true
  byte_placed (bytes.Num n) h = refl
  byte_placed (bytes.Piece object offset k) h = static_placed (slice_get q.objects object) h.0

  bytes_placed : (ys : List InitByte) → All (IsFormedByte q) ys → are_placed q.objects ys ≡ true
  bytes_placed [] h = refl
  bytes_placed (y ∷ ys) h =
      and_true (is_placed q.objects y) (are_placed q.objects ys) (byte_placed y (All-head (IsFormedByte q) y ys h)) (bytes_placed ys (All-tail (IsFormedByte q) y ys h))

  initial_fits : (i : Initial) → IsFormedInitial q i → fits q.objects i ≡ true
  initial_fits i h =
      and_true (option_map_or (λ size. nat_le (length i.bytes) size) (option_map (λ (x : ObjectTree). x.size) (slice_get q.objects i.object)) false)
      (are_placed q.objects i.bytes) (no_longer (length i.bytes) (slice_get q.objects i.object) h.size) (bytes_placed i.bytes h.pieces)

  initials_fit : (is : List Initial) → All (IsFormedInitial q) is → all_fit q.objects is ≡ true
  initials_fit [] h = refl
  initials_fit (i ∷ is) h =
      and_true (fits q.objects i) (all_fit q.objects is) (initial_fits i (All-head (IsFormedInitial q) i is h)) (initials_fit is (All-tail (IsFormedInitial q) i is h))

pub starts_held : StartsAreHeld
starts_held q formed = ap not (initials_fit q q.initial formed.objects.initial)
