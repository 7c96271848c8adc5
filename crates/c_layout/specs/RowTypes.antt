-- Which operand and result types a typed node has, kind by kind. Conversions are nodes of their own, so operands have the types that they are converted to.
use Rattle.std.specs.Prelude.{◌≡◌, ◌≢◌, ◌⊎◌, ◌&&◌, ◌||◌, ℕ, Bool, true, false, not, IsTrue, Some, IsSomeAnd, List, slice_get}
use Rattle.c_syntax_written.specs.declared.int_type.IntType.{IntType}
use Rattle.c_syntax_written.specs.declared.int_type.IntType.TheVariants as ints
use Rattle.c_syntax.specs.declared.operator.Extent.{Extent}
use Rattle.c_syntax.specs.declared.operator.Comparison.{Comparison}
use Rattle.c_syntax.specs.declared.operator.Comparison.TheVariants.{Less, Greater, AtMost, AtLeast, Equal, Unequal}
use Rattle.c_syntax.specs.declared.operator.Stride.{Stride}
use Rattle.c_syntax.specs.declared.operator.Stride.TheVariants as strides
use Rattle.c_syntax.specs.declared.operator.TUnaryOp.{TUnaryOp}
use Rattle.c_syntax.specs.declared.operator.TUnaryOp.TheVariants as unaries
use Rattle.c_syntax.specs.declared.operator.TBinaryOp.{TBinaryOp}
use Rattle.c_syntax.specs.declared.operator.TBinaryOp.TheVariants as binaries
use Rattle.c_syntax.specs.Types.{CTypeTree, Void, Int, Pointer, Array, Struct, ObjectTree}
use Rattle.c_syntax.specs.Program.{StructDefTree}
use Rattle.c_layout.specs.Conversion.{promoted, balanced}
use Rattle.c_layout.specs.Layout.{members_of, member_spaces, size_in, align_in, offset_at}

-- C11 6.2.5p19
abbrev pub is_void : CTypeTree → Bool
is_void Void = true
is_void ty = false

-- C11 6.2.5p17
abbrev pub IsInteger : CTypeTree → Type 0
IsInteger (Int t) = Unit {0}
IsInteger ty = ⊥

-- C11 6.2.5p20
abbrev pub IsPointer : CTypeTree → Type 0
IsPointer (Pointer to is_const) = Unit {0}
IsPointer ty = ⊥

-- an integer or a pointer (C11 6.2.5p21)
abbrev pub IsScalar : CTypeTree → Type 0
IsScalar (Int t) = Unit {0}
IsScalar (Pointer to is_const) = Unit {0}
IsScalar ty = ⊥

-- a pointer to void, const or not (C11 6.2.5p28)
abbrev pub IsVoidPointer : CTypeTree → Type 0
IsVoidPointer (Pointer Void is_const) = Unit {0}
IsVoidPointer ty = ⊥

-- an integer type that the promotions leave as it is
abbrev pub IsPromoted : IntType → Type 0
IsPromoted t = promoted t ≡ t

-- the type with no const in it
abbrev pub unqualified : CTypeTree → CTypeTree
unqualified (Pointer to is_const) = Pointer (unqualified to) false
unqualified (Array of is_const n) = Array (unqualified of) false n
unqualified ty = ty

-- one type, but for const (this profile)
abbrev pub SameType : CTypeTree → CTypeTree → Type 0
SameType a b = unqualified a ≡ unqualified b

-- an array that is const is one of const elements (C11 6.7.3p9)
abbrev pub has_const_elements : CTypeTree → Bool
has_const_elements (Array of is_const n) = is_const || has_const_elements of
has_const_elements ty = false

-- whether a pointer points to what is const
abbrev pub has_const_target : CTypeTree → Bool
has_const_target (Pointer to is_const) = is_const || has_const_elements to
has_const_target ty = false

-- a pointer to what is const does not become one to what is not (C11 6.5.16.1p1)
abbrev pub KeepsConst : CTypeTree → CTypeTree → Type 0
KeepsConst from to = IsTrue (has_const_target from) → IsTrue (has_const_target to)

-- an array of characters that are not const, as that of a string literal is (C11 6.4.5p6)
abbrev pub is_plain_text : CTypeTree → Bool
is_plain_text (Array (Int ints.Char) is_const n) = not is_const
is_plain_text ty = false

-- a string literal: read-only, and not const (C11 6.4.5p7)
abbrev pub is_literal : ObjectTree → Bool
is_literal object = object.read_only && is_plain_text object.ty

-- whether an object was declared const, as each read-only one was that is no literal (this profile)
abbrev pub is_declared_const : ObjectTree → Bool
is_declared_const object = object.read_only && not (is_plain_text object.ty)

-- the eight types of which an input may be read (this profile)
abbrev pub IsInputType : IntType → Type 0
IsInputType ints.SChar = ⊥
IsInputType ints.LLong = ⊥
IsInputType ints.ULLong = ⊥
IsInputType t = Unit {0}

-- pointers to one target
abbrev pub PointToOne : CTypeTree → CTypeTree → Type 0
PointToOne a b = IsPointer a × SameType a b

-- a pointer to a complete type, which has this size
abbrev pub PointsToSize : List StructDefTree → CTypeTree → ℕ → Type 0
PointsToSize structs (Pointer to is_const) size = size_in structs to ≡ Some size
PointsToSize structs ty size = ⊥

-- `+`, `-` and `~` on an integer, and `!` on a scalar (C11 6.5.3.3p1)
abbrev pub UnaryRow : TUnaryOp → CTypeTree → Type 0
UnaryRow (unaries.Plus t) ty = (ty ≡ Int t) × IsPromoted t
UnaryRow (unaries.Minus t) ty = (ty ≡ Int t) × IsPromoted t
UnaryRow (unaries.Complement t) ty = (ty ≡ Int t) × IsPromoted t
UnaryRow unaries.Not ty = IsScalar ty

-- `&&` and `||` (C11 6.5.13p2, 6.5.14p2)
abbrev pub LogicalRow : CTypeTree → CTypeTree → Type 0
LogicalRow left right = IsScalar left × IsScalar right

-- two integers of one balanced type (C11 6.5.5p2 and p3, 6.5.6p2, 6.5.10 to 6.5.12, 6.5.8p3, 6.5.9p4)
abbrev pub IntegersRow : IntType → CTypeTree → CTypeTree → Type 0
IntegersRow t left right = (left ≡ Int t) × (right ≡ Int t) × IsPromoted t

-- a shift has the type of its promoted left operand (C11 6.5.7p3)
abbrev pub ShiftRow : IntType → CTypeTree → CTypeTree → Type 0
ShiftRow t left right = (left ≡ Int t) × IsPromoted t × IsInteger right

-- an equality of pointers to one target, or of one to void (C11 6.5.9p2)
abbrev pub EqualityRow : CTypeTree → CTypeTree → Type 0
EqualityRow left right = PointToOne left right ⊎ ((IsPointer left × IsVoidPointer right) ⊎ (IsVoidPointer left × IsPointer right))

-- a comparison of pointers (C11 6.5.8p2, 6.5.9p2)
abbrev pub PointersRow : Comparison → CTypeTree → CTypeTree → Type 0
PointersRow Less left right = PointToOne left right
PointersRow Greater left right = PointToOne left right
PointersRow AtMost left right = PointToOne left right
PointersRow AtLeast left right = PointToOne left right
PointersRow Equal left right = EqualityRow left right
PointersRow Unequal left right = EqualityRow left right

-- a pointer moved by an integer (C11 6.5.6p2 and p3)
abbrev pub MoveRow : List StructDefTree → ℕ → CTypeTree → CTypeTree → Type 0
MoveRow structs element pointer integer = PointsToSize structs pointer element × IsInteger integer

-- a difference of pointers to one target (C11 6.5.6p3)
abbrev pub DifferenceRow : List StructDefTree → ℕ → CTypeTree → CTypeTree → Type 0
DifferenceRow structs element left right = PointToOne left right × PointsToSize structs left element

-- an operator on two operands
abbrev pub BinaryRow : List StructDefTree → TBinaryOp → CTypeTree → CTypeTree → Type 0
BinaryRow structs (binaries.Arithmetic op t) left right = IntegersRow t left right
BinaryRow structs (binaries.Shift way t) left right = ShiftRow t left right
BinaryRow structs (binaries.CompareInts comparison t) left right = IntegersRow t left right
BinaryRow structs (binaries.ComparePointers comparison) left right = PointersRow comparison left right
BinaryRow structs (binaries.PointerPlusInt element) left right = MoveRow structs element left right
BinaryRow structs (binaries.IntPlusPointer element) left right = MoveRow structs element right left
BinaryRow structs (binaries.PointerMinusInt element) left right = MoveRow structs element left right
BinaryRow structs (binaries.PointerMinusPointer element) left right = DifferenceRow structs element left right

-- the type of `?:`: a balanced integer type, a pointer, a struct or void (C11 6.5.15p3)
abbrev pub IsCondType : CTypeTree → Type 0
IsCondType (Int t) = IsPromoted t
IsCondType (Pointer to is_const) = Unit {0}
IsCondType (Struct n) = Unit {0}
IsCondType Void = Unit {0}
IsCondType ty = ⊥

-- `?:`, whose parts have its type (C11 6.5.15p2 to p6)
pub record CondRow (condition first second ty : CTypeTree) : Type 0 where
  pub condition_scalar : IsScalar condition
  pub kind : IsCondType ty
  pub first_type : SameType first ty
  pub second_type : SameType second ty
  pub first_const : KeepsConst first ty
  pub second_const : KeepsConst second ty

-- a scalar that is stored as this type, by `=`, an initialiser, an argument or a `return` (C11 6.5.16.1p1)
pub record StoreRow (target value : CTypeTree) : Type 0 where
  pub scalar : IsScalar target
  pub same : SameType value target
  pub keeps : KeepsConst value target

-- a struct that is copied, with its size and alignment (C11 6.5.16.1p1)
pub record CopyRow (structs : List StructDefTree) (extent : Extent) (target source : CTypeTree) : Type 0 where
  pub number : ℕ
  pub target_struct : target ≡ Struct number
  pub source_struct : source ≡ Struct number
  pub size : size_in structs target ≡ Some extent.size
  pub align : align_in structs target ≡ extent.align

-- `op=`, at the type that the operator has on what stands in the place and the value (C11 6.5.16.2p1 and p2)
abbrev pub CompoundRow : List StructDefTree → TBinaryOp → CTypeTree → CTypeTree → Type 0
CompoundRow structs (binaries.Arithmetic op t) (Int p) value = (value ≡ Int t) × (balanced p t ≡ t)
CompoundRow structs (binaries.Shift way t) (Int p) value = (promoted p ≡ t) × IsInteger value
CompoundRow structs (binaries.PointerPlusInt element) target value = MoveRow structs element target value
CompoundRow structs (binaries.PointerMinusInt element) target value = MoveRow structs element target value
CompoundRow structs op target value = ⊥

-- `++` and `--`, as `+` and `-` with the int 1 (C11 6.5.2.4p1 and p2, 6.5.3.1p1 and p2)
abbrev pub StepRow : List StructDefTree → Stride → CTypeTree → Type 0
StepRow structs (strides.Int t) (Int p) = balanced p ints.Int ≡ t
StepRow structs (strides.Element size) target = PointsToSize structs target size
StepRow structs stride target = ⊥

-- `*` on a pointer that is not to void (C11 6.5.3.2p2 and p4)
pub record DerefRow (pointer ty : CTypeTree) (is_const : Bool) : Type 0 where
  pub target : pointer ≡ Pointer ty is_const
  pub some : ty ≢ Void

-- member k of a struct, at its offset, const if the struct is (C11 6.5.2.3p1 and p3)
pub record MemberRow (structs : List StructDefTree) (struct : CTypeTree) (k offset : ℕ) (ty : CTypeTree) (struct_is_const is_const : Bool) : Type 0 where
  pub number : ℕ
  pub is_struct : struct ≡ Struct number
  pub type_of : IsSomeAnd (slice_get (members_of structs number) k) (λ member. member.ty ≡ ty)
  pub place : offset_at (member_spaces structs number) k ≡ Some offset
  pub qualified : is_const ≡ struct_is_const

-- a conversion, written or not: any to void, integers, and pointers (C11 6.5.4p2 and p3)
abbrev pub ConvertRow : CTypeTree → CTypeTree → Type 0
ConvertRow Void operand = Unit {0}
ConvertRow (Int t) operand = IsInteger operand
ConvertRow (Pointer to is_const) operand = IsPointer operand
ConvertRow ty operand = ⊥
