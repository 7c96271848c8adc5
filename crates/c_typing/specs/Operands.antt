-- What an expression names or gives, and its conversions.
use Rattle.std.specs.Prelude.{ℕ, zero, Bool, true, false, if◌then◌else◌, Option, Some, None, List}
use Rattle.c_syntax_written.specs.declared.int_type.IntType.{IntType}
use Rattle.c_syntax.specs.Types.{CTypeTree, Int, Array, Struct}
use Rattle.c_syntax.specs.TypedExpr.{TExprTree, Null, Load, Decay, Whole, Convert, TLvalueTree}
use Rattle.c_syntax.specs.TypedParts.{texpr_pos, texpr_type, tlvalue_pos, tlvalue_type}
use Rattle.c_syntax.specs.Program.{StructDefTree}
use Rattle.c_layout.specs.declared.layout.Sized.{Sized}
use Rattle.c_layout.specs.declared.layout.Sized.TheVariants.{Fits, Oversize, Incomplete}
use Rattle.c_layout.specs.Layout.{size_in, sized}
use Rattle.c_typing.specs.SameTypes.{is_same_int, is_same}

-- a place, or a value (C11 6.3.2.1p1)
pub data OperandTree : Type 0 where
  Place : TLvalueTree → OperandTree
  Value : TExprTree → OperandTree

-- the value in a place: an array is a pointer to its first element, a struct its bytes (C11 6.3.2.1p2 and p3)
abbrev pub read_by : CTypeTree → TLvalueTree → TExprTree
read_by (Array of is_const n) place = Decay (tlvalue_pos place) place
read_by (Struct n) place = Whole (tlvalue_pos place) place
read_by ty place = Load (tlvalue_pos place) place

abbrev pub value_of : OperandTree → TExprTree
value_of (Place place) = read_by (tlvalue_type place) place
value_of (Value e) = e

-- the type of an operand that is not read, as under `sizeof`
abbrev pub operand_type : OperandTree → CTypeTree
operand_type (Place place) = tlvalue_type place
operand_type (Value e) = texpr_type e

-- an integer as one of this type, which is a node only where it has another (C11 6.3.1.3)
abbrev pub as_int : IntType → IntType → TExprTree → TExprTree
as_int target t e = if is_same_int target t then e else Convert (texpr_pos e) (Int target) e

-- a value as one of this type, which is a node only where it has another
abbrev pub as_type : CTypeTree → TExprTree → TExprTree
as_type target e = if is_same target (texpr_type e) then e else Convert (texpr_pos e) target e

-- a null pointer constant as a pointer of this type (C11 6.3.2.3p3)
abbrev pub as_null : CTypeTree → TExprTree → TExprTree
as_null target e = Null (texpr_pos e) target

-- an array whose size is not told yet, which stands with no elements (C11 6.2.5p22)
abbrev pub is_unsized : CTypeTree → Bool
is_unsized (Array of is_const zero) = true
is_unsized ty = false

abbrev pub told_size : Sized → Option ℕ
told_size (Fits n) = Some n
told_size Oversize = None
told_size Incomplete = None

-- the size of a complete type; one above 2 to the 40 has none here, and is refused where it is declared (this profile)
abbrev pub complete_size : List StructDefTree → CTypeTree → Option ℕ
complete_size structs ty = if is_unsized ty then None else told_size (sized (size_in structs ty))
