-- Rows tried by computing: what operators come to on given values.
use Rattle.std.proofs.Common.{◌≡◌, ℕ, pos, negsuc, refl, false, List, [], ◌∷◌, Some}
use Rattle.c_syntax_written.specs.declared.int_type.IntType.TheVariants as ints
use Rattle.c_syntax.specs.declared.alarm.Spot.TheVariants as spots
use Rattle.c_syntax.specs.declared.alarm.WrongKind.TheVariants as kinds
use Rattle.c_syntax.specs.declared.operator.Arithmetic.TheVariants.{Divide, Remainder, Add}
use Rattle.c_syntax.specs.declared.operator.Comparison.TheVariants.{Less, Equal}
use Rattle.c_syntax.specs.declared.operator.Shift.TheVariants.{Left}
use Rattle.c_syntax.specs.declared.operator.TBinaryOp.TheVariants as binaries
use Rattle.c_syntax.specs.Types.{ObjectTree, Int}
use Rattle.c_syntax.specs.Operand.{Number, Point, Points}
use Rattle.block_mem.specs.declared.types.Value.{Value}
use Rattle.block_mem.specs.declared.types.Value.TheVariants as values
use Rattle.block_mem.specs.Block.{new_block}
use Rattle.c_values.specs.Looks.{GoesWrong}
use Rattle.c_values.specs.Operators.{binary}
use Rattle.c_values.specs.Places.{ObjectMemory}

-- two ints that live, `int a[3]` and `int b`
abbrev object : ℕ → ObjectTree
object size = record { name = []; pos = record { file = 0; line = 1; col = 5 }; ty = Int ints.Int; size = size; read_only = false; is_static = false }

abbrev objects : List ObjectTree
objects = object 12 ∷ object 4 ∷ []

abbrev memory : ObjectMemory
memory = record { blocks = new_block 12 false ∷ new_block 4 false ∷ []; owners = 0 ∷ 1 ∷ []; places = Some 0 ∷ Some 1 ∷ [] }

abbrev into : ℕ → ℕ → Value
into b offset = values.Ptr (record { block = b; offset = pos offset })

abbrev least_int : Value
least_int = values.Int ints.Int (negsuc 2147483647)

-- `2147483647 + 1`
overflows : binary objects memory (binaries.Arithmetic Add ints.Int) (values.Int ints.Int (pos 2147483647)) (values.Int ints.Int (pos 1))
    ≡ GoesWrong kinds.Overflow (Number (pos 2147483648))
overflows = refl

-- `(-2147483647 - 1) / -1`, and by 0
too_great : binary objects memory (binaries.Arithmetic Divide ints.Int) least_int (values.Int ints.Int (negsuc 0))
    ≡ GoesWrong kinds.Quotient (Number (pos 2147483648))
too_great = refl

by_zero : binary objects memory (binaries.Arithmetic Remainder ints.Int) least_int (values.Int ints.Int (pos 0)) ≡ GoesWrong kinds.DivideByZero (Number (pos 0))
by_zero = refl

-- `1 << 31`, and `1 << 32`
past_the_sign : binary objects memory (binaries.Shift Left ints.Int) (values.Int ints.Int (pos 1)) (values.Int ints.Int (pos 31))
    ≡ GoesWrong kinds.ShiftResult (Number (pos 2147483648))
past_the_sign = refl

past_the_width : binary objects memory (binaries.Shift Left ints.Int) (values.Int ints.Int (pos 1)) (values.Int ints.Int (pos 32))
    ≡ GoesWrong kinds.ShiftAmount (Number (pos 32))
past_the_width = refl

-- `a + 4`
out_of_bounds : binary objects memory (binaries.PointerPlusInt 4) (into 0 0) (values.Int ints.Int (pos 4))
    ≡ GoesWrong kinds.Bounds (Point (spots.At 0 (pos 16)))
out_of_bounds = refl

-- `&a[0] < &b`, and `a + 3 == &b`
two_objects : binary objects memory (binaries.ComparePointers Less) (into 0 0) (into 1 0)
    ≡ GoesWrong kinds.Unrelated (Points (spots.At 0 (pos 0)) (spots.At 1 (pos 0)))
two_objects = refl

at_the_end : binary objects memory (binaries.ComparePointers Equal) (into 0 12) (into 1 0)
    ≡ GoesWrong kinds.Unrelated (Points (spots.At 0 (pos 12)) (spots.At 1 (pos 0)))
at_the_end = refl
