-- What a set of all states knows: that the blocks of memory are those of the program's objects, and that what lives has a block that does; and what may be
-- shown of any state.
use Rattle.std.specs.Prelude.{◌≡◌, ℕ, pos, ◌<◌, true, List, [], ◌∷◌, length, All, Some, None}
use Rattle.c_syntax.specs.declared.alarm.Pointers.{Pointers}
use Rattle.c_syntax.specs.declared.alarm.Shown.{Shown}
use Rattle.c_syntax.specs.declared.alarm.Shown.TheVariants as shows
use Rattle.c_syntax.specs.declared.alarm.WrongKind.{WrongKind}
use Rattle.c_syntax.specs.declared.alarm.WrongKind.TheVariants as kinds
use Rattle.c_values.specs.Places.{ObjectMemory, place_of}
use Rattle.c_objects.specs.Kept.{IsPlaced}
use Rattle.csharp.specs.Trees.{CsExprTree}

-- each block is that of one of so many objects, and the place of an object is a block of its own that lives
pub record IsOwned (count : ℕ) (m : ObjectMemory) : Type 0 where
  pub owned : length m.owners ≡ length m.blocks
  pub among : All (λ x. x < count) m.owners
  pub placed : (x b : ℕ) → place_of m x ≡ Some b → IsPlaced m x b

abbrev pub any_number : Shown
any_number = shows.Number None None (pos 1) (pos 0)

abbrev pub any_pointer : Pointers
any_pointer = record { any = true; null = true; dead = true; names = []; lo = None; hi = None; modulus = pos 1; rem = pos 0 }

abbrev pub any_pointers : List CsExprTree → Shown
any_pointers (e ∷ f ∷ []) = shows.Pair any_pointer any_pointer
any_pointers es = shows.One any_pointer

-- whatever the operand of such a check may be
abbrev pub anything : WrongKind → List CsExprTree → Shown
anything kinds.Indeterminate es = shows.Marks true true true
anything kinds.Fragment es = shows.Marks true true true
anything kinds.NullUse es = any_pointers es
anything kinds.Dangling es = any_pointers es
anything kinds.Bounds es = shows.One any_pointer
anything kinds.Access es = shows.One any_pointer
anything kinds.Alignment es = shows.One any_pointer
anything kinds.ReadOnly es = shows.One any_pointer
anything kinds.Unrelated es = shows.Pair any_pointer any_pointer
anything kinds.NoValue es = shows.Ends true true
anything kind es = any_number
