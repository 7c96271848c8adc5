-- The rows of the operators: what a node is, by the types of its operands, or none where no row has these types.
use Rattle.std.specs.Prelude.{ℕ, Bool, true, false, ◌||◌, ◌&&◌, if◌then◌else◌, Option, Some, None, option_map, option_and_then, List, position, slice_get, bytes_eq}
use Rattle.c_syntax_written.specs.declared.place.Pos.{Pos}
use Rattle.c_syntax_written.specs.declared.int_type.IntType.{IntType}
use Rattle.c_syntax_written.specs.declared.int_type.IntType.TheVariants as ints
use Rattle.c_syntax_written.specs.declared.written.AssignOp.{AssignOp}
use Rattle.c_syntax_written.specs.declared.written.AssignOp.TheVariants as assigns
use Rattle.c_syntax_written.specs.declared.written.BinaryOp.{BinaryOp}
use Rattle.c_syntax_written.specs.declared.written.BinaryOp.TheVariants as signs
use Rattle.c_syntax.specs.declared.operator.Arithmetic.{Arithmetic}
use Rattle.c_syntax.specs.declared.operator.Arithmetic.TheVariants as arithmetics
use Rattle.c_syntax.specs.declared.operator.Shift.{Shift}
use Rattle.c_syntax.specs.declared.operator.Shift.TheVariants as shifts
use Rattle.c_syntax.specs.declared.operator.Comparison.{Comparison}
use Rattle.c_syntax.specs.declared.operator.Comparison.TheVariants as comparisons
use Rattle.c_syntax.specs.declared.operator.DerefKind.{DerefKind}
use Rattle.c_syntax.specs.declared.operator.DerefKind.TheVariants as derefs
use Rattle.c_syntax.specs.declared.operator.Extent.{Extent}
use Rattle.c_syntax.specs.declared.operator.Stride.{Stride}
use Rattle.c_syntax.specs.declared.operator.Stride.TheVariants as strides
use Rattle.c_syntax.specs.declared.operator.TUnaryOp.{TUnaryOp}
use Rattle.c_syntax.specs.declared.operator.TUnaryOp.TheVariants as unaries
use Rattle.c_syntax.specs.declared.operator.TBinaryOp.{TBinaryOp}
use Rattle.c_syntax.specs.declared.operator.TBinaryOp.TheVariants as binaries
use Rattle.c_syntax.specs.Types.{CTypeTree, Void, Int, Pointer, Struct}
use Rattle.c_syntax.specs.TypedExpr.{TExprTree, Null, Unary, Binary, Convert, And, Or, Cond, TLvalueTree, Deref, Member}
use Rattle.c_syntax.specs.TypedParts.{texpr_type, tlvalue_type, tlvalue_is_const, not_used}
use Rattle.c_syntax.specs.Program.{MemberTree, StructDefTree}
use Rattle.c_layout.specs.Conversion.{promoted, balanced}
use Rattle.c_layout.specs.Layout.{members_of, align_in}
use Rattle.c_layout.specs.RowTypes.{is_void, has_const_target}
use Rattle.c_typing.specs.SameTypes.{is_same, is_same_but_const, keeps_const}
use Rattle.c_typing.specs.Operands.{as_int, as_type, as_null, complete_size}
use Rattle.c_typing.specs.Constants.{is_null_constant}

-- an integer or a pointer (C11 6.2.5p21)
abbrev pub is_scalar : CTypeTree → Bool
is_scalar (Int t) = true
is_scalar (Pointer to is_const) = true
is_scalar ty = false

-- `+`, `-` and `~` (C11 6.5.3.3p1 to p4)
abbrev pub unary_row : (IntType → TUnaryOp) → Pos → CTypeTree → TExprTree → Option TExprTree
unary_row op at (Int t) e = Some (Unary at (op (promoted t)) (as_int (promoted t) t e))
unary_row op at ty e = None

-- `!` (C11 6.5.3.3p1 and p5)
abbrev pub not_row : Pos → CTypeTree → TExprTree → Option TExprTree
not_row at ty e = if is_scalar ty then Some (Unary at unaries.Not e) else None

-- `*` (C11 6.5.3.2p2 and p4)
abbrev pub star_row : DerefKind → Pos → CTypeTree → TExprTree → Option TLvalueTree
star_row kind at (Pointer Void is_const) e = None
star_row kind at (Pointer to is_const) e = Some (Deref at kind to is_const e)
star_row kind at ty e = None

-- two integers at their balanced type (C11 6.3.1.8p1)
abbrev pub balanced_row : (IntType → TBinaryOp) → Pos → CTypeTree → CTypeTree → TExprTree → TExprTree → Option TExprTree
balanced_row op at (Int t) (Int u) a b = Some (Binary at (op (balanced t u)) (as_int (balanced t u) t a) (as_int (balanced t u) u b))
balanced_row op at left right a b = None

-- `<<` and `>>`, at the promoted left type (C11 6.5.7p2 and p3)
abbrev pub shift_row : Shift → Pos → CTypeTree → CTypeTree → TExprTree → TExprTree → Option TExprTree
shift_row way at (Int t) (Int u) a b = Some (Binary at (binaries.Shift way (promoted t)) (as_int (promoted t) t a) b)
shift_row way at left right a b = None

-- a pointer to a complete type moves by elements of its size (C11 6.5.6p2 and p3)
abbrev pub moved_row : List StructDefTree → CTypeTree → (ℕ → TBinaryOp) → Pos → TExprTree → TExprTree → Option TExprTree
moved_row structs to op at a b = option_map (λ size. Binary at (op size) a b) (complete_size structs to)

-- `+` (C11 6.5.6p2)
abbrev pub plus_row : List StructDefTree → Pos → CTypeTree → CTypeTree → TExprTree → TExprTree → Option TExprTree
plus_row structs at (Pointer to is_const) (Int u) a b = moved_row structs to (λ size. binaries.PointerPlusInt size) at a b
plus_row structs at (Int t) (Pointer to is_const) a b = moved_row structs to (λ size. binaries.IntPlusPointer size) at a b
plus_row structs at left right a b = balanced_row (binaries.Arithmetic arithmetics.Add) at left right a b

-- `-` (C11 6.5.6p3)
abbrev pub minus_row : List StructDefTree → Pos → CTypeTree → CTypeTree → TExprTree → TExprTree → Option TExprTree
minus_row structs at (Pointer to is_const) (Int u) a b = moved_row structs to (λ size. binaries.PointerMinusInt size) at a b
minus_row structs at (Pointer s c) (Pointer t d) a b =
    if is_same_but_const s t then moved_row structs s (λ size. binaries.PointerMinusPointer size) at a b else None
minus_row structs at left right a b = balanced_row (binaries.Arithmetic arithmetics.Subtract) at left right a b

-- `<`, `>`, `<=` and `>=` (C11 6.5.8p2)
abbrev pub order_row : Comparison → Pos → CTypeTree → CTypeTree → TExprTree → TExprTree → Option TExprTree
order_row op at (Pointer s c) (Pointer t d) a b = if is_same_but_const s t then Some (Binary at (binaries.ComparePointers op) a b) else None
order_row op at left right a b = balanced_row (binaries.CompareInts op) at left right a b

-- two pointers that are equal or not: to one target; one of them a null constant; one of them to void (C11 6.5.9p2)
abbrev pub equal_pointers : Comparison → Pos → CTypeTree → Bool → CTypeTree → Bool → TExprTree → TExprTree → Option TExprTree
equal_pointers op at s c t d a b =
    if is_same_but_const s t then Some (Binary at (binaries.ComparePointers op) a b)
    else (if is_null_constant b then Some (Binary at (binaries.ComparePointers op) a (as_null (Pointer s c) b))
    else (if is_null_constant a then Some (Binary at (binaries.ComparePointers op) (as_null (Pointer t d) a) b)
    else (if is_void s || is_void t then Some (Binary at (binaries.ComparePointers op) a b) else None)))

-- `==` and `!=` (C11 6.5.9p2)
abbrev pub equality_row : Comparison → Pos → CTypeTree → CTypeTree → TExprTree → TExprTree → Option TExprTree
equality_row op at (Pointer s c) (Pointer t d) a b = equal_pointers op at s c t d a b
equality_row op at (Pointer s c) (Int u) a b =
    if is_null_constant b then Some (Binary at (binaries.ComparePointers op) a (as_null (Pointer s c) b)) else None
equality_row op at (Int t) (Pointer s c) a b =
    if is_null_constant a then Some (Binary at (binaries.ComparePointers op) (as_null (Pointer s c) a) b) else None
equality_row op at left right a b = balanced_row (binaries.CompareInts op) at left right a b

-- `&&` and `||` (C11 6.5.13p2, 6.5.14p2)
abbrev pub logical_row : (TExprTree → TExprTree → TExprTree) → CTypeTree → CTypeTree → TExprTree → TExprTree → Option TExprTree
logical_row node left right a b = if is_scalar left && is_scalar right then Some (node a b) else None

-- a value that is stored as a pointer of this type: a null constant; one to the same target or to void, or to any where this is to void,
-- if const is not lost (C11 6.5.16.1p1)
abbrev pub store_pointer : CTypeTree → CTypeTree → CTypeTree → CTypeTree → TExprTree → Option TExprTree
store_pointer target to ty from e =
    if is_null_constant e then Some (as_null target e)
    else (if (is_same_but_const to from || (is_void to || is_void from)) && keeps_const ty target then Some (as_type target e) else None)

-- a scalar that is stored as this type, by `=`, an argument, an initialiser or a `return` (C11 6.5.16.1p1)
abbrev pub store_row : CTypeTree → CTypeTree → TExprTree → Option TExprTree
store_row (Int t) (Int u) e = Some (as_int t u e)
store_row (Pointer to c) (Pointer from d) e = store_pointer (Pointer to c) to (Pointer from d) from e
store_row (Pointer to c) (Int u) e = if is_null_constant e then Some (as_null (Pointer to c) e) else None
store_row target ty e = None

-- the type of `?:` on two pointers: to the first's target, const where either's is; of the other where one is a null constant; to void where one is
-- (C11 6.5.15p6)
abbrev pub cond_pointer : CTypeTree → Bool → CTypeTree → Bool → TExprTree → TExprTree → Option CTypeTree
cond_pointer s c t d a b =
    if is_same_but_const s t then Some (Pointer s (has_const_target (Pointer s c) || has_const_target (Pointer t d)))
    else (if is_null_constant b then Some (Pointer s c)
    else (if is_null_constant a then Some (Pointer t d)
    else (if is_void s || is_void t then Some (Pointer Void (has_const_target (Pointer s c) || has_const_target (Pointer t d))) else None)))

-- the type of `?:`, by its second and third operand (C11 6.5.15p3 to p6)
abbrev pub cond_type : CTypeTree → CTypeTree → TExprTree → TExprTree → Option CTypeTree
cond_type (Int t) (Int u) a b = Some (Int (balanced t u))
cond_type Void Void a b = Some Void
cond_type (Struct m) (Struct n) a b = if is_same_but_const (Struct m) (Struct n) then Some (Struct m) else None
cond_type (Pointer s c) (Pointer t d) a b = cond_pointer s c t d a b
cond_type (Pointer s c) (Int u) a b = if is_null_constant b then Some (Pointer s c) else None
cond_type (Int t) (Pointer s c) a b = if is_null_constant a then Some (Pointer s c) else None
cond_type left right a b = None

-- a part of `?:` at its type: a null constant beside a pointer is a null pointer
abbrev pub cond_part : CTypeTree → TExprTree → TExprTree
cond_part (Pointer to c) e = if is_null_constant e then as_null (Pointer to c) e else as_type (Pointer to c) e
cond_part ty e = as_type ty e

-- `?:`
abbrev pub cond_row : Pos → TExprTree → CTypeTree → CTypeTree → TExprTree → TExprTree → Option TExprTree
cond_row at test left right a b = option_map (λ ty. Cond at ty test (cond_part ty a) (cond_part ty b)) (cond_type left right a b)

-- a cast that is written, which is a node only where the value has another type
abbrev pub cast_node : Pos → CTypeTree → TExprTree → TExprTree
cast_node at target e = if is_same target (texpr_type e) then e else Convert at target e

-- a cast to this type: any to void, integers, pointers, and a null constant to a pointer (C11 6.5.4p2 and p3). A cast to void is always a node
abbrev pub cast_row : Pos → CTypeTree → CTypeTree → TExprTree → Option TExprTree
cast_row at Void ty e = Some (Convert at Void (not_used e))
cast_row at (Int t) (Int u) e = Some (cast_node at (Int t) e)
cast_row at (Pointer to c) (Pointer from d) e = Some (cast_node at (Pointer to c) e)
cast_row at (Pointer to c) (Int u) e = if is_null_constant e then Some (Null at (Pointer to c)) else None
cast_row at target ty e = None

-- a cast between an integer and a pointer (this profile)
abbrev pub is_pointer_integer : CTypeTree → CTypeTree → Bool
is_pointer_integer (Pointer to c) (Int u) = true
is_pointer_integer (Int t) (Pointer to c) = true
is_pointer_integer target ty = false

-- the member of this name of a struct in a place, const if the struct is (C11 6.5.2.3p1 and p3)
abbrev pub member_node : Pos → TLvalueTree → ℕ → MemberTree → TLvalueTree
member_node at place k member = Member at k member.offset member.ty (tlvalue_is_const place) place

abbrev pub member_at : List MemberTree → Pos → TLvalueTree → ℕ → Option TLvalueTree
member_at members at place k = option_map (member_node at place k) (slice_get members k)

abbrev pub member_row : List StructDefTree → Pos → List ℕ → CTypeTree → TLvalueTree → Option TLvalueTree
member_row structs at name (Struct n) place =
    option_and_then (member_at (members_of structs n) at place) (position (λ member. bytes_eq member.name name) (members_of structs n))
member_row structs at name ty place = None

-- `->`, as `.` behind `*` (C11 6.5.2.3p2 and p4)
abbrev pub arrow_row : List StructDefTree → Pos → List ℕ → CTypeTree → TExprTree → Option TLvalueTree
arrow_row structs at name ty e = option_and_then (λ place. member_row structs at name (tlvalue_type place) place) (star_row derefs.Arrow at ty e)

-- `a[b]`, as `*(a + b)` (C11 6.5.2.1p1 and p2)
abbrev pub index_row : List StructDefTree → Pos → CTypeTree → CTypeTree → TExprTree → TExprTree → Option TLvalueTree
index_row structs at left right a b = option_and_then (λ sum. star_row derefs.Index at (texpr_type sum) sum) (plus_row structs at left right a b)

-- the size and the alignment of a struct that is copied
abbrev pub extent_of : List StructDefTree → CTypeTree → Option Extent
extent_of structs ty = option_map (λ size. record { size = size; align = align_in structs ty }) (complete_size structs ty)

-- what is stored in a place: a scalar, or a struct's bytes
pub data Stored : Type 0 where
  Scalar : TExprTree → Stored
  Copied : Extent → TExprTree → Stored

-- a value that is stored as this type, by `=` or an initialiser: a scalar as by its row, or a complete struct of the same type (C11 6.5.16.1p1)
abbrev pub stored_row : List StructDefTree → CTypeTree → CTypeTree → TExprTree → Option Stored
stored_row structs (Struct m) (Struct n) e =
    if is_same (Struct m) (Struct n) then option_map (λ extent. Copied extent e) (extent_of structs (Struct m)) else None
stored_row structs target ty e = option_map Scalar (store_row target ty e)

-- an operator and the value that it takes beside what stands in the place
pub record CompoundTree : Type 0 where
  pub op : TBinaryOp
  pub value : TExprTree

-- `op=` on integers (C11 6.5.16.2p2)
abbrev pub compound_integers : (IntType → TBinaryOp) → CTypeTree → CTypeTree → TExprTree → Option CompoundTree
compound_integers op (Int p) (Int u) e = Some (record { op = op (balanced p u); value = as_int (balanced p u) u e })
compound_integers op target ty e = None

-- `<<=` and `>>=`
abbrev pub compound_shift : Shift → CTypeTree → CTypeTree → TExprTree → Option CompoundTree
compound_shift way (Int p) (Int u) e = Some (record { op = binaries.Shift way (promoted p); value = e })
compound_shift way target ty e = None

-- `+=` and `-=`, also on a pointer to a complete type (C11 6.5.16.2p1)
abbrev pub compound_move : List StructDefTree → (ℕ → TBinaryOp) → Arithmetic → CTypeTree → CTypeTree → TExprTree → Option CompoundTree
compound_move structs move op (Pointer to c) (Int u) e = option_map (λ size. record { op = move size; value = e }) (complete_size structs to)
compound_move structs move op target ty e = compound_integers (binaries.Arithmetic op) target ty e

-- `op=` (C11 6.5.16.2p1 and p2)
abbrev pub compound_row : List StructDefTree → AssignOp → CTypeTree → CTypeTree → TExprTree → Option CompoundTree
compound_row structs assigns.Multiply target ty e = compound_integers (binaries.Arithmetic arithmetics.Multiply) target ty e
compound_row structs assigns.Divide target ty e = compound_integers (binaries.Arithmetic arithmetics.Divide) target ty e
compound_row structs assigns.Remainder target ty e = compound_integers (binaries.Arithmetic arithmetics.Remainder) target ty e
compound_row structs assigns.Plus target ty e = compound_move structs (λ size. binaries.PointerPlusInt size) arithmetics.Add target ty e
compound_row structs assigns.Minus target ty e = compound_move structs (λ size. binaries.PointerMinusInt size) arithmetics.Subtract target ty e
compound_row structs assigns.ShiftLeft target ty e = compound_shift shifts.Left target ty e
compound_row structs assigns.ShiftRight target ty e = compound_shift shifts.Right target ty e
compound_row structs assigns.BitAnd target ty e = compound_integers (binaries.Arithmetic arithmetics.BitAnd) target ty e
compound_row structs assigns.BitXor target ty e = compound_integers (binaries.Arithmetic arithmetics.BitXor) target ty e
compound_row structs assigns.BitOr target ty e = compound_integers (binaries.Arithmetic arithmetics.BitOr) target ty e

-- `++` and `--`, as `+=` and `-=` with the int 1 (C11 6.5.2.4p2, 6.5.3.1p2)
abbrev pub step_row : List StructDefTree → CTypeTree → Option Stride
step_row structs (Int p) = Some (strides.Int (balanced p ints.Int))
step_row structs (Pointer to c) = option_map (λ size. strides.Element size) (complete_size structs to)
step_row structs ty = None

-- an operator between two values
abbrev pub binary_row : List StructDefTree → Pos → BinaryOp → CTypeTree → CTypeTree → TExprTree → TExprTree → Option TExprTree
binary_row structs at signs.Multiply left right a b = balanced_row (binaries.Arithmetic arithmetics.Multiply) at left right a b
binary_row structs at signs.Divide left right a b = balanced_row (binaries.Arithmetic arithmetics.Divide) at left right a b
binary_row structs at signs.Remainder left right a b = balanced_row (binaries.Arithmetic arithmetics.Remainder) at left right a b
binary_row structs at signs.Plus left right a b = plus_row structs at left right a b
binary_row structs at signs.Minus left right a b = minus_row structs at left right a b
binary_row structs at signs.ShiftLeft left right a b = shift_row shifts.Left at left right a b
binary_row structs at signs.ShiftRight left right a b = shift_row shifts.Right at left right a b
binary_row structs at signs.Less left right a b = order_row comparisons.Less at left right a b
binary_row structs at signs.Greater left right a b = order_row comparisons.Greater at left right a b
binary_row structs at signs.AtMost left right a b = order_row comparisons.AtMost at left right a b
binary_row structs at signs.AtLeast left right a b = order_row comparisons.AtLeast at left right a b
binary_row structs at signs.Equal left right a b = equality_row comparisons.Equal at left right a b
binary_row structs at signs.Unequal left right a b = equality_row comparisons.Unequal at left right a b
binary_row structs at signs.BitAnd left right a b = balanced_row (binaries.Arithmetic arithmetics.BitAnd) at left right a b
binary_row structs at signs.BitXor left right a b = balanced_row (binaries.Arithmetic arithmetics.BitXor) at left right a b
binary_row structs at signs.BitOr left right a b = balanced_row (binaries.Arithmetic arithmetics.BitOr) at left right a b
binary_row structs at signs.And left right a b = logical_row (And at) left right a b
binary_row structs at signs.Or left right a b = logical_row (Or at) left right a b
