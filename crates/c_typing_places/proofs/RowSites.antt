-- The sites of what the rows of typing give.
use Rattle.std.proofs.Common.{◌≡◌, ℕ, Bool, true, false, List, ◌++◌, refl}
use Rattle.std.specs.Prelude.{if◌then◌else◌, ◌&&◌, ◌||◌, Option, Some, None, option_map, option_and_then, slice_get, position, bytes_eq}
use Rattle.c_syntax_written.specs.declared.place.Pos.{Pos}
use Rattle.c_syntax_written.specs.declared.int_type.IntType.{IntType}
use Rattle.c_syntax_written.specs.declared.written.AssignOp.{AssignOp}
use Rattle.c_syntax_written.specs.declared.written.AssignOp.TheVariants as assigns
use Rattle.c_syntax_written.specs.declared.written.BinaryOp.{BinaryOp}
use Rattle.c_syntax_written.specs.declared.written.BinaryOp.TheVariants as signs
use Rattle.c_syntax.specs.declared.operator.Arithmetic.{Arithmetic}
use Rattle.c_syntax.specs.declared.operator.Arithmetic.TheVariants as arithmetics
use Rattle.c_syntax.specs.declared.operator.Comparison.{Comparison}
use Rattle.c_syntax.specs.declared.operator.DerefKind.{DerefKind}
use Rattle.c_syntax.specs.declared.operator.DerefKind.TheVariants as derefs
use Rattle.c_syntax.specs.declared.operator.Extent.{Extent}
use Rattle.c_syntax.specs.declared.operator.Shift.{Shift}
use Rattle.c_syntax.specs.declared.operator.TUnaryOp.{TUnaryOp}
use Rattle.c_syntax.specs.declared.operator.TBinaryOp.{TBinaryOp}
use Rattle.c_syntax.specs.declared.operator.TBinaryOp.TheVariants as binaries
use Rattle.c_syntax.specs.Types.{CTypeTree, Void, Int, Pointer, Array, Struct, Function}
use Rattle.c_syntax.specs.TypedExpr.{TExprTree, Const, Binary, Convert, And, Or, Cond, TLvalueTree, Deref}
use Rattle.c_syntax.specs.TypedParts.{texpr_pos, texpr_type, tlvalue_type, not_used}
use Rattle.c_syntax.specs.Program.{MemberTree, StructDefTree}
use Rattle.c_layout.specs.Conversion.{balanced, promoted}
use Rattle.c_layout.specs.Layout.{members_of}
use Rattle.c_layout.specs.RowTypes.{is_void}
use Rattle.c_typing.specs.SameTypes.{is_same, is_same_int, is_same_but_const, keeps_const}
use Rattle.c_typing.specs.Constants.{is_null_constant}
use Rattle.c_typing.specs.Operands.{OperandTree, Place, Value, read_by, value_of, as_int, as_type, as_null, complete_size}
use Rattle.c_typing.specs.Rows.{Stored, Scalar, Copied, CompoundTree, is_scalar, unary_row, not_row, star_row, balanced_row, shift_row, moved_row, plus_row, minus_row, order_row, equal_pointers, equality_row, logical_row, store_row, cond_type, cond_part, cond_row, cast_node, cast_row, member_node, member_at, member_row, arrow_row, index_row, extent_of, stored_row, compound_integers, compound_shift, compound_move, compound_row, binary_row}
use Rattle.c_sites.specs.Sites.{OneOperand, Site, binary_subject, place_subject, pointer_subject, array_subject, sites_of, sites_at}
use Rattle.c_sites.proofs.InLists.{Within, within_same, within_itself, within_nothing, within_both}
use Rattle.c_typing_places.proofs.Spread.{MadeOf, own_both, own_first, own_second, twice_both, twice_first}

-- the sites of an operand, read or not
abbrev pub operand_sites : OperandTree → List Site
operand_sites (Place place) = sites_at place
operand_sites (Value e) = sites_of e

read_same : (ty : CTypeTree) (place : TLvalueTree) → sites_of (read_by ty place) ≡ sites_at place
unfolding sites_of
read_same Void place = refl
read_same (Int t) place = refl
read_same (Pointer to c) place = refl
read_same (Array of c n) place = refl
read_same (Struct n) place = refl
read_same (Function n) place = refl

pub value_same : (x : OperandTree) → sites_of (value_of x) ≡ operand_sites x
value_same (Place place) = read_same (tlvalue_type place) place
value_same (Value e) = refl

-- ---- conversions

pub as_int_same : (target t : IntType) (e : TExprTree) → sites_of (as_int target t e) ≡ sites_of e
unfolding sites_of
as_int_same target t e = by (is_same_int target t)
  where
    by : (b : Bool) → sites_of (if b then e else Convert (texpr_pos e) (Int target) e) ≡ sites_of e
    by true = refl
    by false = refl

pub as_type_same : (target : CTypeTree) (e : TExprTree) → sites_of (as_type target e) ≡ sites_of e
unfolding sites_of
as_type_same target e = by (is_same target (texpr_type e))
  where
    by : (b : Bool) → sites_of (if b then e else Convert (texpr_pos e) target e) ≡ sites_of e
    by true = refl
    by false = refl

cast_same : (at : Pos) (target : CTypeTree) (e : TExprTree) → sites_of (cast_node at target e) ≡ sites_of e
unfolding sites_of
cast_same at target e = by (is_same target (texpr_type e))
  where
    by : (b : Bool) → sites_of (if b then e else Convert at target e) ≡ sites_of e
    by true = refl
    by false = refl

null_within : (target : CTypeTree) (e : TExprTree) {xs : List Site} → Within (sites_of (as_null target e)) xs
unfolding sites_of
null_within target e = within_nothing

pub not_used_same : (e : TExprTree) → sites_of (not_used e) ≡ sites_of e
unfolding sites_of
not_used_same (Const at ty value) = refl
not_used_same _ = refl

-- ---- operators

-- what a row gives is made of these
pub data RowMade (at : Pos) (xs ys : List Site) : Option TExprTree → Type 0 where
  no_row : RowMade at xs ys None
  a_row : {e : TExprTree} → MadeOf at xs ys (sites_of e) → RowMade at xs ys (Some e)

pub data PlaceMade (at : Pos) (xs ys : List Site) : Option TLvalueTree → Type 0 where
  no_place : PlaceMade at xs ys None
  a_place : {place : TLvalueTree} → MadeOf at xs ys (sites_at place) → PlaceMade at xs ys (Some place)

pub binary_made : (at : Pos) (op : TBinaryOp) (a b : TExprTree) {xs ys : List Site} → Within (sites_of a) xs → Within (sites_of b) ys → MadeOf at xs ys (sites_of (Binary at op a b))
unfolding sites_of
binary_made at op a b f g = own_both (binary_subject op (array_subject a)) f g

two_row : (at : Pos) (op : TBinaryOp) (a b : TExprTree) {xs ys : List Site} → Within (sites_of a) xs → Within (sites_of b) ys → RowMade at xs ys (Some (Binary at op a b))
two_row at op a b f g = a_row (binary_made at op a b f g)

row_if : (b : Bool) {at : Pos} {xs ys : List Site} {row other : Option TExprTree} → RowMade at xs ys row → RowMade at xs ys other → RowMade at xs ys (if b then row else other)
row_if true f g = f
row_if false f g = g

pub unary_made : (op : IntType → TUnaryOp) (at : Pos) (ty : CTypeTree) (e : TExprTree) {xs : List Site} → RowMade at xs (sites_of e) (unary_row op at ty e)
unfolding sites_of
unary_made op at (Int t) e = a_row (own_second OneOperand (within_same (as_int_same (promoted t) t e)))
unary_made op at Void e = no_row
unary_made op at (Pointer to c) e = no_row
unary_made op at (Array of c n) e = no_row
unary_made op at (Struct n) e = no_row
unary_made op at (Function n) e = no_row

pub not_made : (at : Pos) (ty : CTypeTree) (e : TExprTree) {xs : List Site} → RowMade at xs (sites_of e) (not_row at ty e)
unfolding sites_of
not_made at ty e = row_if (is_scalar ty) (a_row (own_second OneOperand within_itself)) no_row

-- a row that gives a node on two operands
pub data TwoMade (at : Pos) (xs ys : List Site) : Option TExprTree → Type 0 where
  no_two : TwoMade at xs ys None
  a_two : {op : TBinaryOp} {a b : TExprTree} → Within (sites_of a) xs → Within (sites_of b) ys → TwoMade at xs ys (Some (Binary at op a b))

pub as_row : {at : Pos} {xs ys : List Site} {row : Option TExprTree} → TwoMade at xs ys row → RowMade at xs ys row
as_row no_two = no_row
as_row (a_two {op} {a} {b} f g) = two_row _ op a b f g

balanced_two : (op : IntType → TBinaryOp) (at : Pos) (s t : CTypeTree) (a b : TExprTree) → TwoMade at (sites_of a) (sites_of b) (balanced_row op at s t a b)
balanced_two op at (Int t) (Int u) a b = a_two (within_same (as_int_same (balanced t u) t a)) (within_same (as_int_same (balanced t u) u b))
balanced_two op at s t a b = no_two

balanced_made : (op : IntType → TBinaryOp) (at : Pos) (s t : CTypeTree) (a b : TExprTree) → RowMade at (sites_of a) (sites_of b) (balanced_row op at s t a b)
balanced_made op at s t a b = as_row (balanced_two op at s t a b)

shift_made : (way : Shift) (at : Pos) (s t : CTypeTree) (a b : TExprTree) → RowMade at (sites_of a) (sites_of b) (shift_row way at s t a b)
shift_made way at (Int t) (Int u) a b = two_row at (binaries.Shift way (promoted t)) (as_int (promoted t) t a) b (within_same (as_int_same (promoted t) t a)) within_itself
shift_made way at s t a b = no_row

moved_two : (structs : List StructDefTree) (to : CTypeTree) (op : ℕ → TBinaryOp) (at : Pos) (a b : TExprTree) → TwoMade at (sites_of a) (sites_of b) (moved_row structs to op at a b)
moved_two structs to op at a b = by (complete_size structs to)
  where
    by : (o : Option ℕ) → TwoMade at (sites_of a) (sites_of b) (option_map (λ size. Binary at (op size) a b) o)
    by None = no_two
    by (Some size) = a_two within_itself within_itself

moved_made : (structs : List StructDefTree) (to : CTypeTree) (op : ℕ → TBinaryOp) (at : Pos) (a b : TExprTree) → RowMade at (sites_of a) (sites_of b) (moved_row structs to op at a b)
moved_made structs to op at a b = as_row (moved_two structs to op at a b)

plus_two : (structs : List StructDefTree) (at : Pos) (s t : CTypeTree) (a b : TExprTree) → TwoMade at (sites_of a) (sites_of b) (plus_row structs at s t a b)
plus_two structs at (Pointer to c) (Int u) a b = moved_two structs to (λ size. binaries.PointerPlusInt size) at a b
plus_two structs at (Int t) (Pointer to c) a b = moved_two structs to (λ size. binaries.IntPlusPointer size) at a b
plus_two structs at (Int t) (Int u) a b = balanced_two (binaries.Arithmetic arithmetics.Add) at (Int t) (Int u) a b
plus_two structs at s t a b = no_two

minus_made : (structs : List StructDefTree) (at : Pos) (s t : CTypeTree) (a b : TExprTree) → RowMade at (sites_of a) (sites_of b) (minus_row structs at s t a b)
minus_made structs at (Pointer to c) (Int u) a b = moved_made structs to (λ size. binaries.PointerMinusInt size) at a b
minus_made structs at (Pointer s c) (Pointer t d) a b = row_if (is_same_but_const s t) (moved_made structs s (λ size. binaries.PointerMinusPointer size) at a b) no_row
minus_made structs at (Int t) (Int u) a b = balanced_made (binaries.Arithmetic arithmetics.Subtract) at (Int t) (Int u) a b
minus_made structs at s t a b = no_row

order_made : (op : Comparison) (at : Pos) (s t : CTypeTree) (a b : TExprTree) → RowMade at (sites_of a) (sites_of b) (order_row op at s t a b)
order_made op at (Pointer s c) (Pointer t d) a b = row_if (is_same_but_const s t) (two_row at (binaries.ComparePointers op) a b within_itself within_itself) no_row
order_made op at (Int t) (Int u) a b = balanced_made (binaries.CompareInts op) at (Int t) (Int u) a b
order_made op at s t a b = no_row

equal_made : (op : Comparison) (at : Pos) (s : CTypeTree) (c : Bool) (t : CTypeTree) (d : Bool) (a b : TExprTree) → RowMade at (sites_of a) (sites_of b) (equal_pointers op at s c t d a b)
equal_made op at s c t d a b =
    row_if (is_same_but_const s t) (two_row at (binaries.ComparePointers op) a b within_itself within_itself)
    (row_if (is_null_constant b) (two_row at (binaries.ComparePointers op) a (as_null (Pointer s c) b) within_itself (null_within (Pointer s c) b))
    (row_if (is_null_constant a) (two_row at (binaries.ComparePointers op) (as_null (Pointer t d) a) b (null_within (Pointer t d) a) within_itself)
    (row_if (is_void s || is_void t) (two_row at (binaries.ComparePointers op) a b within_itself within_itself) no_row)))

equality_made : (op : Comparison) (at : Pos) (s t : CTypeTree) (a b : TExprTree) → RowMade at (sites_of a) (sites_of b) (equality_row op at s t a b)
equality_made op at (Pointer s c) (Pointer t d) a b = equal_made op at s c t d a b
equality_made op at (Pointer s c) (Int u) a b = row_if (is_null_constant b) (two_row at (binaries.ComparePointers op) a (as_null (Pointer s c) b) within_itself (null_within (Pointer s c) b)) no_row
equality_made op at (Int t) (Pointer s c) a b = row_if (is_null_constant a) (two_row at (binaries.ComparePointers op) (as_null (Pointer s c) a) b (null_within (Pointer s c) a) within_itself) no_row
equality_made op at (Int t) (Int u) a b = balanced_made (binaries.CompareInts op) at (Int t) (Int u) a b
equality_made op at s t a b = no_row

logical_made : (node : TExprTree → TExprTree → TExprTree) (at : Pos) (s t : CTypeTree) (a b : TExprTree) → MadeOf at (sites_of a) (sites_of b) (sites_of (node a b)) → RowMade at (sites_of a) (sites_of b) (logical_row node s t a b)
logical_made node at s t a b m = row_if (is_scalar s && is_scalar t) (a_row m) no_row

pub operator_made : (structs : List StructDefTree) (at : Pos) (op : BinaryOp) (s t : CTypeTree) (a b : TExprTree) → RowMade at (sites_of a) (sites_of b) (binary_row structs at op s t a b)
unfolding sites_of
operator_made structs at signs.Multiply s t a b = balanced_made (binaries.Arithmetic arithmetics.Multiply) at s t a b
operator_made structs at signs.Divide s t a b = balanced_made (binaries.Arithmetic arithmetics.Divide) at s t a b
operator_made structs at signs.Remainder s t a b = balanced_made (binaries.Arithmetic arithmetics.Remainder) at s t a b
operator_made structs at signs.Plus s t a b = as_row (plus_two structs at s t a b)
operator_made structs at signs.Minus s t a b = minus_made structs at s t a b
operator_made structs at signs.ShiftLeft s t a b = shift_made _ at s t a b
operator_made structs at signs.ShiftRight s t a b = shift_made _ at s t a b
operator_made structs at signs.Less s t a b = order_made _ at s t a b
operator_made structs at signs.Greater s t a b = order_made _ at s t a b
operator_made structs at signs.AtMost s t a b = order_made _ at s t a b
operator_made structs at signs.AtLeast s t a b = order_made _ at s t a b
operator_made structs at signs.Equal s t a b = equality_made _ at s t a b
operator_made structs at signs.Unequal s t a b = equality_made _ at s t a b
operator_made structs at signs.BitAnd s t a b = balanced_made (binaries.Arithmetic arithmetics.BitAnd) at s t a b
operator_made structs at signs.BitXor s t a b = balanced_made (binaries.Arithmetic arithmetics.BitXor) at s t a b
operator_made structs at signs.BitOr s t a b = balanced_made (binaries.Arithmetic arithmetics.BitOr) at s t a b
operator_made structs at signs.And s t a b = logical_made (And at) at s t a b (own_both OneOperand within_itself within_itself)
operator_made structs at signs.Or s t a b = logical_made (Or at) at s t a b (own_both OneOperand within_itself within_itself)

-- ---- places

star_place : (kind : DerefKind) (at : Pos) (ty : CTypeTree) (e : TExprTree) {xs ys : List Site} → ((to : CTypeTree) (c : Bool) → MadeOf at xs ys (sites_at (Deref at kind to c e))) → PlaceMade at xs ys (star_row kind at ty e)
star_place kind at (Pointer Void c) e f = no_place
star_place kind at (Pointer (Int t) c) e f = a_place (f (Int t) c)
star_place kind at (Pointer (Pointer to d) c) e f = a_place (f (Pointer to d) c)
star_place kind at (Pointer (Array to d n) c) e f = a_place (f (Array to d n) c)
star_place kind at (Pointer (Struct n) c) e f = a_place (f (Struct n) c)
star_place kind at (Pointer (Function n) c) e f = a_place (f (Function n) c)
star_place kind at Void e f = no_place
star_place kind at (Int t) e f = no_place
star_place kind at (Array to d n) e f = no_place
star_place kind at (Struct n) e f = no_place
star_place kind at (Function n) e f = no_place

pub star_made : (kind : DerefKind) (at : Pos) (ty : CTypeTree) (e : TExprTree) {xs : List Site} → PlaceMade at xs (sites_of e) (star_row kind at ty e)
unfolding sites_of sites_at
star_made kind at ty e = star_place kind at ty e (λ to c. own_second (pointer_subject e) within_itself)

index_from : (at : Pos) {xs ys : List Site} {row : Option TExprTree} → TwoMade at xs ys row → PlaceMade at xs ys (option_and_then (λ sum. star_row derefs.Index at (texpr_type sum) sum) row)
unfolding sites_of sites_at pointer_subject
index_from at no_two = no_place
index_from at (a_two {op} {a} {b} f g) =
    star_place derefs.Index at (texpr_type (Binary at op a b)) (Binary at op a b) (λ to c. twice_both (binary_subject op (array_subject a)) f g)

-- an index moves the pointer where it reads it
pub index_made : (structs : List StructDefTree) (at : Pos) (s t : CTypeTree) (a b : TExprTree) → PlaceMade at (sites_of a) (sites_of b) (index_row structs at s t a b)
index_made structs at s t a b = index_from at (plus_two structs at s t a b)

member_from :
    {at : Pos} {xs ys : List Site} (members : List MemberTree) (place : TLvalueTree) (o : Option ℕ) → ((k : ℕ) (m : MemberTree) → MadeOf at xs ys (sites_at (member_node at place k m)))
    → PlaceMade at xs ys (option_and_then (member_at members at place) o)
member_from members place None f = no_place
member_from {at} {xs} {ys} members place (Some k) f = by (slice_get members k)
  where
    by : (o : Option MemberTree) → PlaceMade at xs ys (option_map (member_node at place k) o)
    by None = no_place
    by (Some m) = a_place (f k m)

member_place :
    {at : Pos} {xs ys : List Site} (structs : List StructDefTree) (name : List ℕ) (ty : CTypeTree) (place : TLvalueTree) → ((k : ℕ) (m : MemberTree) → MadeOf at xs ys (sites_at (member_node at place k m)))
    → PlaceMade at xs ys (member_row structs at name ty place)
member_place structs name (Struct n) place f = member_from (members_of structs n) place (position (λ member. bytes_eq member.name name) (members_of structs n)) f
member_place structs name Void place f = no_place
member_place structs name (Int t) place f = no_place
member_place structs name (Pointer to c) place f = no_place
member_place structs name (Array to c n) place f = no_place
member_place structs name (Function n) place f = no_place

pub member_made : (structs : List StructDefTree) (at : Pos) (name : List ℕ) (ty : CTypeTree) (place : TLvalueTree) {ys : List Site} → PlaceMade at (sites_at place) ys (member_row structs at name ty place)
unfolding sites_at
member_made structs at name ty place = member_place structs name ty place (λ k m. own_first (place_subject place) within_itself)

-- a pointer and where it leads
data ArrowMade (at : Pos) (e : TExprTree) : Option TLvalueTree → Type 0 where
  no_arrow : ArrowMade at e None
  an_arrow : (to : CTypeTree) (c : Bool) → ArrowMade at e (Some (Deref at derefs.Arrow to c e))

arrow_is : (at : Pos) (ty : CTypeTree) (e : TExprTree) → ArrowMade at e (star_row derefs.Arrow at ty e)
arrow_is at (Pointer Void c) e = no_arrow
arrow_is at (Pointer (Int t) c) e = an_arrow (Int t) c
arrow_is at (Pointer (Pointer to d) c) e = an_arrow (Pointer to d) c
arrow_is at (Pointer (Array to d n) c) e = an_arrow (Array to d n) c
arrow_is at (Pointer (Struct n) c) e = an_arrow (Struct n) c
arrow_is at (Pointer (Function n) c) e = an_arrow (Function n) c
arrow_is at Void e = no_arrow
arrow_is at (Int t) e = no_arrow
arrow_is at (Array to d n) e = no_arrow
arrow_is at (Struct n) e = no_arrow
arrow_is at (Function n) e = no_arrow

arrow_from :
    {at : Pos} (structs : List StructDefTree) (name : List ℕ) (e : TExprTree) {xs ys : List Site} {row : Option TLvalueTree} → ArrowMade at e row → Within (sites_of e) xs
    → PlaceMade at xs ys (option_and_then (λ place. member_row structs at name (tlvalue_type place) place) row)
unfolding sites_of sites_at place_subject
arrow_from structs name e no_arrow f = no_place
arrow_from structs name e (an_arrow to c) f = member_place structs name to (Deref _ derefs.Arrow to c e) (λ k m. twice_first (pointer_subject e) f)

-- so does an arrow, which leads to a member
pub arrow_made : (structs : List StructDefTree) (at : Pos) (name : List ℕ) (ty : CTypeTree) (e : TExprTree) {ys : List Site} → PlaceMade at (sites_of e) ys (arrow_row structs at name ty e)
arrow_made structs at name ty e = arrow_from structs name e (arrow_is at ty e) within_itself

-- ---- what is stored

pub data ValueMade (xs : List Site) : Option TExprTree → Type 0 where
  no_value : ValueMade xs None
  a_value : {e : TExprTree} → Within (sites_of e) xs → ValueMade xs (Some e)

value_if : (b : Bool) {xs : List Site} {row other : Option TExprTree} → ValueMade xs row → ValueMade xs other → ValueMade xs (if b then row else other)
value_if true f g = f
value_if false f g = g

pub store_made : (target ty : CTypeTree) (e : TExprTree) → ValueMade (sites_of e) (store_row target ty e)
store_made (Int t) (Int u) e = a_value (within_same (as_int_same t u e))
store_made (Pointer to c) (Pointer from d) e =
    value_if (is_null_constant e) (a_value (null_within (Pointer to c) e))
    (value_if ((is_same_but_const to from || (is_void to || is_void from)) && keeps_const (Pointer from d) (Pointer to c)) (a_value (within_same (as_type_same (Pointer to c) e))) no_value)
store_made (Pointer to c) (Int u) e = value_if (is_null_constant e) (a_value (null_within (Pointer to c) e)) no_value
store_made target ty e = no_value

abbrev pub stored_sites : Stored → List Site
stored_sites (Scalar value) = sites_of value
stored_sites (Copied extent source) = sites_of source

pub data StoredMade (xs : List Site) : Option Stored → Type 0 where
  not_stored : StoredMade xs None
  is_stored : {s : Stored} → Within (stored_sites s) xs → StoredMade xs (Some s)

scalar_stored : {xs : List Site} {row : Option TExprTree} → ValueMade xs row → StoredMade xs (option_map Scalar row)
scalar_stored no_value = not_stored
scalar_stored (a_value f) = is_stored f

copied_stored : (b : Bool) (o : Option Extent) (e : TExprTree) → StoredMade (sites_of e) (if b then option_map (λ extent. Copied extent e) o else None)
copied_stored true None e = not_stored
copied_stored true (Some extent) e = is_stored within_itself
copied_stored false o e = not_stored

pub stored_made : (structs : List StructDefTree) (target ty : CTypeTree) (e : TExprTree) → StoredMade (sites_of e) (stored_row structs target ty e)
stored_made structs (Struct m) (Struct n) e = copied_stored (is_same (Struct m) (Struct n)) (extent_of structs (Struct m)) e
stored_made structs (Struct m) Void e = not_stored
stored_made structs (Struct m) (Int t) e = not_stored
stored_made structs (Struct m) (Pointer to c) e = not_stored
stored_made structs (Struct m) (Array to c n) e = not_stored
stored_made structs (Struct m) (Function n) e = not_stored
stored_made structs Void ty e = scalar_stored (store_made Void ty e)
stored_made structs (Int t) ty e = scalar_stored (store_made (Int t) ty e)
stored_made structs (Pointer to c) ty e = scalar_stored (store_made (Pointer to c) ty e)
stored_made structs (Array to c n) ty e = scalar_stored (store_made (Array to c n) ty e)
stored_made structs (Function n) ty e = scalar_stored (store_made (Function n) ty e)

-- ---- `op=`

pub data CompoundMade (xs : List Site) : Option CompoundTree → Type 0 where
  no_compound : CompoundMade xs None
  a_compound : {c : CompoundTree} → Within (sites_of c.value) xs → CompoundMade xs (Some c)

integers_made : (op : IntType → TBinaryOp) (target ty : CTypeTree) (e : TExprTree) → CompoundMade (sites_of e) (compound_integers op target ty e)
integers_made op (Int p) (Int u) e = a_compound (within_same (as_int_same (balanced p u) u e))
integers_made op target ty e = no_compound

shifted_made : (way : Shift) (target ty : CTypeTree) (e : TExprTree) → CompoundMade (sites_of e) (compound_shift way target ty e)
shifted_made way (Int p) (Int u) e = a_compound within_itself
shifted_made way target ty e = no_compound

move_made : (structs : List StructDefTree) (move : ℕ → TBinaryOp) (op : Arithmetic) (target ty : CTypeTree) (e : TExprTree) → CompoundMade (sites_of e) (compound_move structs move op target ty e)
move_made structs move op (Pointer to c) (Int u) e = by (complete_size structs to)
  where
    by : (o : Option ℕ) → CompoundMade (sites_of e) (option_map (λ size. record { op = move size; value = e }) o)
    by None = no_compound
    by (Some size) = a_compound within_itself
move_made structs move op (Int p) (Int u) e = integers_made (binaries.Arithmetic op) (Int p) (Int u) e
move_made structs move op target ty e = no_compound

pub compound_made : (structs : List StructDefTree) (op : AssignOp) (target ty : CTypeTree) (e : TExprTree) → CompoundMade (sites_of e) (compound_row structs op target ty e)
compound_made structs assigns.Multiply target ty e = integers_made (binaries.Arithmetic arithmetics.Multiply) target ty e
compound_made structs assigns.Divide target ty e = integers_made (binaries.Arithmetic arithmetics.Divide) target ty e
compound_made structs assigns.Remainder target ty e = integers_made (binaries.Arithmetic arithmetics.Remainder) target ty e
compound_made structs assigns.Plus target ty e = move_made structs (λ size. binaries.PointerPlusInt size) arithmetics.Add target ty e
compound_made structs assigns.Minus target ty e = move_made structs (λ size. binaries.PointerMinusInt size) arithmetics.Subtract target ty e
compound_made structs assigns.ShiftLeft target ty e = shifted_made _ target ty e
compound_made structs assigns.ShiftRight target ty e = shifted_made _ target ty e
compound_made structs assigns.BitAnd target ty e = integers_made (binaries.Arithmetic arithmetics.BitAnd) target ty e
compound_made structs assigns.BitXor target ty e = integers_made (binaries.Arithmetic arithmetics.BitXor) target ty e
compound_made structs assigns.BitOr target ty e = integers_made (binaries.Arithmetic arithmetics.BitOr) target ty e

-- ---- `?:` and casts

part_within : (ty : CTypeTree) (e : TExprTree) → Within (sites_of (cond_part ty e)) (sites_of e)
part_within (Pointer to c) e = by (is_null_constant e)
  where
    by : (b : Bool) → Within (sites_of (if b then as_null (Pointer to c) e else as_type (Pointer to c) e)) (sites_of e)
    by true = null_within (Pointer to c) e
    by false = within_same (as_type_same (Pointer to c) e)
part_within Void e = within_same (as_type_same Void e)
part_within (Int t) e = within_same (as_type_same (Int t) e)
part_within (Array to c n) e = within_same (as_type_same (Array to c n) e)
part_within (Struct n) e = within_same (as_type_same (Struct n) e)
part_within (Function n) e = within_same (as_type_same (Function n) e)

pub cond_made : (at : Pos) (test : TExprTree) (s t : CTypeTree) (a b : TExprTree) → RowMade at (sites_of test) (sites_of a ++ sites_of b) (cond_row at test s t a b)
unfolding sites_of
cond_made at test s t a b = by (cond_type s t a b)
  where
    by : (o : Option CTypeTree) → RowMade at (sites_of test) (sites_of a ++ sites_of b) (option_map (λ ty. Cond at ty test (cond_part ty a) (cond_part ty b)) o)
    by None = no_row
    by (Some ty) = a_row (own_both OneOperand within_itself (within_both (part_within ty a) (part_within ty b)))

pub cast_made : (at : Pos) (target ty : CTypeTree) (e : TExprTree) → ValueMade (sites_of e) (cast_row at target ty e)
unfolding sites_of
cast_made at Void ty e = a_value (within_same (not_used_same e))
cast_made at (Int t) (Int u) e = a_value (within_same (cast_same at (Int t) e))
cast_made at (Pointer to c) (Pointer from d) e = a_value (within_same (cast_same at (Pointer to c) e))
cast_made at (Pointer to c) (Int u) e = value_if (is_null_constant e) (a_value within_nothing) no_value
cast_made at target ty e = no_value
