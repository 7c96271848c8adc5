-- Zeros of small objects, by computing.
use Rattle.std.proofs.Common.{◌≡◌, List, [], ◌∷◌, Some, None, refl, false, pos}
use Rattle.std.specs.Prelude.{nat_lt}
use Rattle.c_syntax_written.specs.declared.int_type.IntType.TheVariants as ints
use Rattle.c_syntax.specs.Types.{Int, Pointer, Array, Struct}
use Rattle.c_syntax.specs.Program.{StructDefTree}
use Rattle.block_mem.specs.declared.types.Scalar.TheVariants as scalars
use Rattle.csharp.specs.Trees.{Const, Address, Store, none, more}
use Rattle.lower_trees.specs.Checking.{moved}
use Rattle.lower_trees.specs.Zeros.{scalar_from, zero_cells}

-- struct { char c; int *p; short a[2]; }, and one that has it as its second member, behind an int
abbrev pair : List StructDefTree
pair =
    record {
      tag = [];
      size = 24;
      align = 8;
      members = record { name = []; ty = Int ints.Char; offset = 0 } ∷ record { name = []; ty = Pointer (Int ints.Int) false; offset = 8 }
          ∷ record { name = []; ty = Array (Int ints.Short) false 2; offset = 16 } ∷ [];
    }
    ∷ record { tag = []; size = 32; align = 8; members = record { name = []; ty = Int ints.Int; offset = 0 } ∷ record { name = []; ty = Struct 0; offset = 8 } ∷ [] }
    ∷ []

first : scalar_from pair (Struct 0) 0 ≡ Some (scalars.Int ints.Char)
first = refl

padding : scalar_from pair (Struct 0) 1 ≡ None
padding = refl

pointer : scalar_from pair (Struct 1) 16 ≡ Some scalars.Pointer
pointer = refl

element : scalar_from pair (Array (Struct 1) false 3) 90 ≡ Some (scalars.Int ints.Short)
element = refl

-- of int a[4] = {7}, three stores of an int are left
left : zero_cells (scalar_from [] (Array (Int ints.Int) false 4)) (λ k. nat_lt k 4) 9 0 0 16 none
    ≡ more (Store (scalars.Int ints.Int) (moved (Address 9) 4) (Const ints.Int (pos 0))) (more (Store (scalars.Int ints.Int) (moved (Address 9) 8) (Const ints.Int (pos 0)))
    (more (Store (scalars.Int ints.Int) (moved (Address 9) 12) (Const ints.Int (pos 0))) none))
left = refl
