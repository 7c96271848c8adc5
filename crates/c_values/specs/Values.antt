-- What expressions give, and conversions.
use Rattle.std.specs.Prelude.{pos, Bool, true, false, not, if◌then◌else◌, Option, None, Some}
use Rattle.std.specs.Ordering.{int_eq}
use Rattle.c_syntax_written.specs.declared.int_type.IntType.TheVariants as ints
use Rattle.c_syntax_written.specs.Integer.{wrapped}
use Rattle.c_syntax.specs.Types.{CTypeTree, Void, Int, Pointer}
use Rattle.block_mem.specs.declared.types.Scalar.{Scalar}
use Rattle.block_mem.specs.declared.types.Scalar.TheVariants as scalars
use Rattle.block_mem.specs.declared.types.Value.{Value}
use Rattle.block_mem.specs.declared.types.Value.TheVariants as values
use Rattle.c_values.specs.declared.values.Given.{Given}
use Rattle.c_values.specs.declared.values.Given.TheVariants as givens

-- the scalar type that a type is (C11 6.2.5p21): none of void, arrays, structs and functions is one
abbrev pub scalar_of : CTypeTree → Option Scalar
scalar_of (Int t) = Some (scalars.Int t)
scalar_of (Pointer to is_const) = Some scalars.Pointer
scalar_of ty = None

-- a type with this scalar, or void. The lists of checks ask no more of a type than that
abbrev pub plain_type : Option Scalar → CTypeTree
plain_type None = Void
plain_type (Some (scalars.Int t)) = Int t
plain_type (Some scalars.Pointer) = Pointer Void false

-- what a value becomes at another type: an integer is wrapped (C11 6.3.1.3), and a pointer stays (C11 6.3.2.3p7)
abbrev pub converted_to : Scalar → Value → Option Value
converted_to (scalars.Int t) (values.Int u n) = Some (values.Int t (wrapped t n))
converted_to scalars.Pointer (values.Ptr p) = Some (values.Ptr p)
converted_to scalars.Pointer values.Null = Some values.Null
converted_to ty v = None

abbrev given_value : Option Value → Option Given
given_value None = None
given_value (Some v) = Some (givens.Value v)

-- a conversion; what is converted to void gives nothing (C11 6.3.2.2)
abbrev pub converted : Option Scalar → Given → Option Given
converted None g = Some givens.Nothing
converted (Some ty) (givens.Value v) = given_value (converted_to ty v)
converted (Some ty) givens.Nothing = None

-- a value compares unequal to 0 (C11 6.5.3.3p5, 6.8.4.1p2)
abbrev pub truth : Value → Bool
truth (values.Int t n) = not (int_eq n (pos 0))
truth (values.Ptr p) = true
truth values.Null = false

-- 0 or 1 as an int
abbrev pub bit : Bool → Value
bit b = values.Int ints.Int (if b then pos 1 else pos 0)
