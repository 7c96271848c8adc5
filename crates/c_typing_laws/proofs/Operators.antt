-- Operators between two typed values make typed values.
use Rattle.std.proofs.Common.{◌≡◌, ℕ, true, false, List, refl, ap, subst, ◌∙◌, inl, inr}
use Rattle.std.specs.Prelude.{Bool, ◌||◌, ◌&&◌, if◌then◌else◌, Option, None, Some, option_map}
use Rattle.std.proofs.lemmas.Bool.{false≢true, and_parts}
use Rattle.std.proofs.lemmas.Option.{same_Some}
use Rattle.c_syntax_written.specs.declared.place.Pos.{Pos}
use Rattle.c_syntax_written.specs.declared.int_type.IntType.{IntType}
use Rattle.c_syntax_written.specs.declared.written.BinaryOp.TheVariants as signs
use Rattle.c_syntax.specs.declared.operator.Arithmetic.{Arithmetic}
use Rattle.c_syntax.specs.declared.operator.Arithmetic.TheVariants as arithmetics
use Rattle.c_syntax.specs.declared.operator.Shift.{Shift}
use Rattle.c_syntax.specs.declared.operator.Shift.TheVariants as shifts
use Rattle.c_syntax.specs.declared.operator.Comparison.{Comparison}
use Rattle.c_syntax.specs.declared.operator.Comparison.TheVariants as comparisons
use Rattle.c_syntax.specs.declared.operator.TBinaryOp.{TBinaryOp}
use Rattle.c_syntax.specs.declared.operator.TBinaryOp.TheVariants as binaries
use Rattle.c_syntax.specs.Types.{CTypeTree, Void, Int, Pointer}
use Rattle.c_syntax.specs.TypedExpr.{TExprTree, Binary, And, Or}
use Rattle.c_syntax.specs.TypedParts.{texpr_pos, texpr_type, binary_type}
use Rattle.c_syntax.specs.GivenType.{given_type}
use Rattle.c_syntax.specs.Program.{StructDefTree}
use Rattle.c_layout.specs.Conversion.{promoted, balanced}
use Rattle.c_layout.specs.ProperTypes.{IsProperType}
use Rattle.c_layout.specs.RowTypes.{is_void, IsScalar, IsInteger, IsVoidPointer, SameType, PointsToSize, IntegersRow, EqualityRow, PointersRow, MoveRow, DifferenceRow, BinaryRow, LogicalRow}
use Rattle.c_layout.specs.TypedNodes.{Scope, IsTypedExpr, IsTypedPlace, AreTyped}
use Rattle.c_typing.specs.SameTypes.{is_same_but_const}
use Rattle.c_typing.specs.Operands.{as_int, as_null, complete_size}
use Rattle.c_typing.specs.Constants.{is_null_constant}
use Rattle.c_typing.specs.Rows.{is_scalar, balanced_row, shift_row, moved_row, plus_row, minus_row, order_row, equality_row}
use Rattle.c_typing.specs.Later.{IsLater}
use Rattle.c_typing.proofs.FormsGo.{no_some}
use Rattle.c_typing.specs.Settled.{settled_expr, settled_place, settled_exprs}
use Rattle.c_typing_laws.specs.TypedValues.{IsTypedValue, last_expr}
use Rattle.c_typing_laws.specs.RowLaws.{OperatorsAreTyped}
use Rattle.c_typing.proofs.Later.{size_later}
use Rattle.c_typing.proofs.Same.{one_but_const}
use Rattle.c_typing_laws.proofs.Wide.{promoted_same, balanced_same}
use Rattle.c_typing_laws.proofs.Values.{value_given, fits, as_int_value, as_int_type, null_value}

-- the node of a row that is there
pub made : {scope : Scope} (x e : TExprTree) → Some x ≡ Some e → IsTypedValue scope x → IsTypedValue scope e
made {scope} x e p v = subst (IsTypedValue scope) (same_Some x e p) v

-- an operator on two typed values whose row they have
node :
    (scope : Scope) (at : Pos) (op : TBinaryOp) (a b : TExprTree) → IsTypedValue scope a → IsTypedValue scope b
    → BinaryRow scope.program.structs op (given_type (last_expr scope a)) (given_type (last_expr scope b)) → IsProperType scope.program.structs (binary_type op (texpr_type a) (texpr_type b))
    → IsTypedValue scope (Binary at op a b)
unfolding IsTypedExpr IsTypedPlace AreTyped settled_expr settled_place settled_exprs
node scope at op a b v w row proper = record {
  typed = (v.typed, w.typed, row);
  proper = proper;
  kept = ap (λ t. binary_type op t (texpr_type (last_expr scope b))) v.kept ∙ ap (binary_type op (texpr_type a)) w.kept;
}

-- ---- integers

-- an operator at an integer type, which asks for two integers of that type
record AtIntegers (scope : Scope) (op : IntType → TBinaryOp) : Type 0 where
  row : (t : IntType) (left right : CTypeTree) → IntegersRow t left right → BinaryRow scope.program.structs (op t) left right
  proper : (t : IntType) (left right : CTypeTree) → IsProperType scope.program.structs (binary_type (op t) left right)

arithmetic : (scope : Scope) (op : Arithmetic) → AtIntegers scope (binaries.Arithmetic op)
arithmetic scope op = record { row = λ t left right r. r; proper = λ t left right. tt }

comparison : (scope : Scope) (op : Comparison) → AtIntegers scope (binaries.CompareInts op)
comparison scope op = record { row = λ t left right r. r; proper = λ t left right. tt }

on_integers :
    (scope : Scope) (at : Pos) (op : IntType → TBinaryOp) (t u : IntType) (a b : TExprTree) → AtIntegers scope op → IsTypedValue scope a → IsTypedValue scope b
    → texpr_type a ≡ Int t → texpr_type b ≡ Int u → IsTypedValue scope (Binary at (op (balanced t u)) (as_int (balanced t u) t a) (as_int (balanced t u) u b))
on_integers scope at op t u a b is v w p q =
    let x = as_int_value scope (balanced t u) t a v p in
    let y = as_int_value scope (balanced t u) u b w q in
    node scope at (op (balanced t u)) _ _ x y
    (is.row (balanced t u) _ _ (value_given scope _ x _ (as_int_type (balanced t u) t a p), value_given scope _ y _ (as_int_type (balanced t u) u b q), balanced_same t u))
    (is.proper (balanced t u) _ _)

balanced_by :
    (scope : Scope) (at : Pos) (op : IntType → TBinaryOp) (s t : CTypeTree) (a b e : TExprTree) → AtIntegers scope op → IsTypedValue scope a → IsTypedValue scope b
    → texpr_type a ≡ s → texpr_type b ≡ t → balanced_row op at s t a b ≡ Some e → IsTypedValue scope e
balanced_by scope at op (Int t) (Int u) a b e is v w p q r = made _ e r (on_integers scope at op t u a b is v w p q)
balanced_by scope at op s t a b e is v w p q r = no_some e r

shift_by :
    (scope : Scope) (at : Pos) (way : Shift) (s t : CTypeTree) (a b e : TExprTree) → IsTypedValue scope a → IsTypedValue scope b
    → texpr_type a ≡ s → texpr_type b ≡ t → shift_row way at s t a b ≡ Some e → IsTypedValue scope e
shift_by scope at way (Int t) (Int u) a b e v w p q r =
    let x = as_int_value scope (promoted t) t a v p in
    made _ e r (node scope at (binaries.Shift way (promoted t)) _ b x w
    (value_given scope _ x _ (as_int_type (promoted t) t a p), promoted_same t, fits scope b w IsInteger (Int u) q tt) tt)
shift_by scope at way s t a b e v w p q r = no_some e r

-- ---- pointers that move

told : {A : Type 0} (size : Option ℕ) (f : ℕ → TExprTree) (e : TExprTree) → option_map f size ≡ Some e → ((n : ℕ) → size ≡ Some n → f n ≡ e → A) → A
told None f e r k = no_some e r
told (Some n) f e r k = k n refl (same_Some (f n) e r)

sized : (structs : List StructDefTree) (scope : Scope) (to : CTypeTree) (c : Bool) (n : ℕ) → IsLater structs scope.program.structs → complete_size structs to ≡ Some n → PointsToSize scope.program.structs (Pointer to c) n
sized structs scope to c n later e = size_later structs scope.program.structs later to n e

move_row :
    (structs : List StructDefTree) (scope : Scope) (to : CTypeTree) (c : Bool) (u : IntType) (n : ℕ) (a b : TExprTree) → IsLater structs scope.program.structs
    → IsTypedValue scope a → IsTypedValue scope b → texpr_type a ≡ Pointer to c → texpr_type b ≡ Int u → complete_size structs to ≡ Some n
    → MoveRow scope.program.structs n (given_type (last_expr scope a)) (given_type (last_expr scope b))
move_row structs scope to c u n a b later v w p q e =
    (fits scope a v (λ ty. PointsToSize scope.program.structs ty n) (Pointer to c) p (sized structs scope to c n later e), fits scope b w IsInteger (Int u) q tt)

-- the pointer has a type of the program, and the result has it
pub proper_of : (scope : Scope) (a : TExprTree) → IsTypedValue scope a → (ty : CTypeTree) → texpr_type a ≡ ty → IsProperType scope.program.structs ty
proper_of scope a v ty p = subst (λ x. IsProperType scope.program.structs x) p v.proper

plus_by :
    (structs : List StructDefTree) (scope : Scope) (at : Pos) (s t : CTypeTree) (a b e : TExprTree) → IsLater structs scope.program.structs
    → IsTypedValue scope a → IsTypedValue scope b → texpr_type a ≡ s → texpr_type b ≡ t → plus_row structs at s t a b ≡ Some e → IsTypedValue scope e
plus_by structs scope at (Pointer to c) (Int u) a b e later v w p q r =
    told (complete_size structs to) _ e r (λ n size is. subst (IsTypedValue scope) is
    (node scope at (binaries.PointerPlusInt n) a b v w (move_row structs scope to c u n a b later v w p q size) v.proper))
plus_by structs scope at (Int t) (Pointer to c) a b e later v w p q r =
    told (complete_size structs to) _ e r (λ n size is. subst (IsTypedValue scope) is
    (node scope at (binaries.IntPlusPointer n) a b v w (move_row structs scope to c t n b a later w v q p size) w.proper))
plus_by structs scope at s t a b e later v w p q r = balanced_by scope at (binaries.Arithmetic arithmetics.Add) s t a b e (arithmetic scope arithmetics.Add) v w p q r

pub plus_typed :
    (structs : List StructDefTree) (scope : Scope) (at : Pos) (a b e : TExprTree) → IsLater structs scope.program.structs
    → IsTypedValue scope a → IsTypedValue scope b → plus_row structs at (texpr_type a) (texpr_type b) a b ≡ Some e → IsTypedValue scope e
plus_typed structs scope at a b e later v w r = plus_by structs scope at (texpr_type a) (texpr_type b) a b e later v w refl refl r

minus_pointers :
    (structs : List StructDefTree) (scope : Scope) (at : Pos) (s t : CTypeTree) (c d one : Bool) (a b e : TExprTree) → IsLater structs scope.program.structs
    → IsTypedValue scope a → IsTypedValue scope b → texpr_type a ≡ Pointer s c → texpr_type b ≡ Pointer t d → is_same_but_const s t ≡ one
    → (if one then moved_row structs s (λ size. binaries.PointerMinusPointer size) at a b else None) ≡ Some e → IsTypedValue scope e
minus_pointers structs scope at s t c d true a b e later v w p q same r =
    told (complete_size structs s) _ e r (λ n size is. subst (IsTypedValue scope) is
    (node scope at (binaries.PointerMinusPointer n) a b v w
    (fits scope a v (λ x. DifferenceRow scope.program.structs n x (given_type (last_expr scope b))) (Pointer s c) p
    (fits scope b w (λ y. DifferenceRow scope.program.structs n (Pointer s c) y) (Pointer t d) q
    ((tt, ap (λ x. Pointer x false) (one_but_const s t same)), sized structs scope s c n later size))) tt))
minus_pointers structs scope at s t c d false a b e later v w p q same r = no_some e r

minus_by :
    (structs : List StructDefTree) (scope : Scope) (at : Pos) (s t : CTypeTree) (a b e : TExprTree) → IsLater structs scope.program.structs
    → IsTypedValue scope a → IsTypedValue scope b → texpr_type a ≡ s → texpr_type b ≡ t → minus_row structs at s t a b ≡ Some e → IsTypedValue scope e
minus_by structs scope at (Pointer to c) (Int u) a b e later v w p q r =
    told (complete_size structs to) _ e r (λ n size is. subst (IsTypedValue scope) is
    (node scope at (binaries.PointerMinusInt n) a b v w (move_row structs scope to c u n a b later v w p q size) v.proper))
minus_by structs scope at (Pointer s c) (Pointer t d) a b e later v w p q r = minus_pointers structs scope at s t c d (is_same_but_const s t) a b e later v w p q refl r
minus_by structs scope at s t a b e later v w p q r =
    balanced_by scope at (binaries.Arithmetic arithmetics.Subtract) s t a b e (arithmetic scope arithmetics.Subtract) v w p q r

-- ---- comparisons of pointers

-- pointers of these types, of which the comparison has a row
compared :
    (scope : Scope) (at : Pos) (op : Comparison) (s t : CTypeTree) (a b : TExprTree) → IsTypedValue scope a → IsTypedValue scope b → texpr_type a ≡ s → texpr_type b ≡ t
    → PointersRow op s t → IsTypedValue scope (Binary at (binaries.ComparePointers op) a b)
compared scope at op s t a b v w p q row =
    node scope at (binaries.ComparePointers op) a b v w
    (fits scope a v (λ x. PointersRow op x (given_type (last_expr scope b))) s p (fits scope b w (λ y. PointersRow op s y) t q row)) tt

-- an order, which asks for pointers to one target, or an equality
one_target : (op : Comparison) (s t : CTypeTree) (c d : Bool) → SameType s t → PointersRow op (Pointer s c) (Pointer t d)
one_target comparisons.Less s t c d same = (tt, ap (λ x. Pointer x false) same)
one_target comparisons.Greater s t c d same = (tt, ap (λ x. Pointer x false) same)
one_target comparisons.AtMost s t c d same = (tt, ap (λ x. Pointer x false) same)
one_target comparisons.AtLeast s t c d same = (tt, ap (λ x. Pointer x false) same)
one_target comparisons.Equal s t c d same = inl (tt, ap (λ x. Pointer x false) same)
one_target comparisons.Unequal s t c d same = inl (tt, ap (λ x. Pointer x false) same)

order_pointers :
    (scope : Scope) (at : Pos) (op : Comparison) (s t : CTypeTree) (c d one : Bool) (a b e : TExprTree) → IsTypedValue scope a → IsTypedValue scope b
    → texpr_type a ≡ Pointer s c → texpr_type b ≡ Pointer t d → is_same_but_const s t ≡ one
    → (if one then Some (Binary at (binaries.ComparePointers op) a b) else None) ≡ Some e → IsTypedValue scope e
order_pointers scope at op s t c d true a b e v w p q same r = made _ e r (compared scope at op (Pointer s c) (Pointer t d) a b v w p q (one_target op s t c d (one_but_const s t same)))
order_pointers scope at op s t c d false a b e v w p q same r = no_some e r

order_by :
    (scope : Scope) (at : Pos) (op : Comparison) (s t : CTypeTree) (a b e : TExprTree) → IsTypedValue scope a → IsTypedValue scope b
    → texpr_type a ≡ s → texpr_type b ≡ t → order_row op at s t a b ≡ Some e → IsTypedValue scope e
order_by scope at op (Pointer s c) (Pointer t d) a b e v w p q r = order_pointers scope at op s t c d (is_same_but_const s t) a b e v w p q refl r
order_by scope at op s t a b e v w p q r = balanced_by scope at (binaries.CompareInts op) s t a b e (comparison scope op) v w p q r

-- `==` or `!=`, as a comparison
record IsEquality (op : Comparison) : Type 0 where
  row : (s t : CTypeTree) → EqualityRow s t → PointersRow op s t

equal : IsEquality comparisons.Equal
equal = record { row = λ s t r. r }

unequal : IsEquality comparisons.Unequal
unequal = record { row = λ s t r. r }

with_null_right :
    (scope : Scope) (at : Pos) (op : Comparison) (s : CTypeTree) (c : Bool) (a b : TExprTree) → IsEquality op → IsTypedValue scope a → texpr_type a ≡ Pointer s c
    → IsTypedValue scope (Binary at (binaries.ComparePointers op) a (as_null (Pointer s c) b))
with_null_right scope at op s c a b is v p =
    compared scope at op (Pointer s c) (Pointer s c) a _ v (null_value scope (texpr_pos b) s c (proper_of scope a v (Pointer s c) p)) p refl (is.row _ _ (inl (tt, refl)))

with_null_left :
    (scope : Scope) (at : Pos) (op : Comparison) (t : CTypeTree) (d : Bool) (a b : TExprTree) → IsEquality op → IsTypedValue scope b → texpr_type b ≡ Pointer t d
    → IsTypedValue scope (Binary at (binaries.ComparePointers op) (as_null (Pointer t d) a) b)
with_null_left scope at op t d a b is w q =
    compared scope at op (Pointer t d) (Pointer t d) _ b (null_value scope (texpr_pos a) t d (proper_of scope b w (Pointer t d) q)) w refl q (is.row _ _ (inl (tt, refl)))

void_either : (s t : CTypeTree) (c d : Bool) → (is_void s || is_void t) ≡ true → EqualityRow (Pointer s c) (Pointer t d)
void_either Void t c d e = inr (inr (tt, tt))
void_either (Int n) t c d e = inr (inl (tt, second t d e))
  where
    second : (t : CTypeTree) (d : Bool) → is_void t ≡ true → IsVoidPointer (Pointer t d)
    second Void d e = tt
    second t d e = absurd (false≢true e)
void_either s t c d e = inr (inl (tt, second t d e))
  where
    second : (t : CTypeTree) (d : Bool) → is_void t ≡ true → IsVoidPointer (Pointer t d)
    second Void d e = tt
    second t d e = absurd (false≢true e)

void_pointers :
    (scope : Scope) (at : Pos) (op : Comparison) (s t : CTypeTree) (c d void : Bool) (a b e : TExprTree) → IsEquality op → IsTypedValue scope a → IsTypedValue scope b
    → texpr_type a ≡ Pointer s c → texpr_type b ≡ Pointer t d → (is_void s || is_void t) ≡ void
    → (if void then Some (Binary at (binaries.ComparePointers op) a b) else None) ≡ Some e → IsTypedValue scope e
void_pointers scope at op s t c d true a b e is v w p q h r = made _ e r (compared scope at op (Pointer s c) (Pointer t d) a b v w p q (is.row _ _ (void_either s t c d h)))
void_pointers scope at op s t c d false a b e is v w p q h r = no_some e r

null_pointers :
    (scope : Scope) (at : Pos) (op : Comparison) (s t : CTypeTree) (c d right left : Bool) (a b e : TExprTree) → IsEquality op → IsTypedValue scope a → IsTypedValue scope b
    → texpr_type a ≡ Pointer s c → texpr_type b ≡ Pointer t d
    → (if right then Some (Binary at (binaries.ComparePointers op) a (as_null (Pointer s c) b))
    else (if left then Some (Binary at (binaries.ComparePointers op) (as_null (Pointer t d) a) b)
    else (if is_void s || is_void t then Some (Binary at (binaries.ComparePointers op) a b) else None))) ≡ Some e
    → IsTypedValue scope e
null_pointers scope at op s t c d true left a b e is v w p q r = made _ e r (with_null_right scope at op s c a b is v p)
null_pointers scope at op s t c d false true a b e is v w p q r = made _ e r (with_null_left scope at op t d a b is w q)
null_pointers scope at op s t c d false false a b e is v w p q r = void_pointers scope at op s t c d (is_void s || is_void t) a b e is v w p q refl r

equal_pointers_by :
    (scope : Scope) (at : Pos) (op : Comparison) (s t : CTypeTree) (c d one : Bool) (a b e : TExprTree) → IsEquality op → IsTypedValue scope a → IsTypedValue scope b
    → texpr_type a ≡ Pointer s c → texpr_type b ≡ Pointer t d → is_same_but_const s t ≡ one
    → (if one then Some (Binary at (binaries.ComparePointers op) a b)
    else (if is_null_constant b then Some (Binary at (binaries.ComparePointers op) a (as_null (Pointer s c) b))
    else (if is_null_constant a then Some (Binary at (binaries.ComparePointers op) (as_null (Pointer t d) a) b)
    else (if is_void s || is_void t then Some (Binary at (binaries.ComparePointers op) a b) else None)))) ≡ Some e
    → IsTypedValue scope e
equal_pointers_by scope at op s t c d true a b e is v w p q same r =
    made _ e r (compared scope at op (Pointer s c) (Pointer t d) a b v w p q (one_target op s t c d (one_but_const s t same)))
equal_pointers_by scope at op s t c d false a b e is v w p q same r = null_pointers scope at op s t c d (is_null_constant b) (is_null_constant a) a b e is v w p q r

null_right :
    (scope : Scope) (at : Pos) (op : Comparison) (s : CTypeTree) (c null : Bool) (a b e : TExprTree) → IsEquality op → IsTypedValue scope a → texpr_type a ≡ Pointer s c
    → (if null then Some (Binary at (binaries.ComparePointers op) a (as_null (Pointer s c) b)) else None) ≡ Some e → IsTypedValue scope e
null_right scope at op s c true a b e is v p r = made _ e r (with_null_right scope at op s c a b is v p)
null_right scope at op s c false a b e is v p r = no_some e r

null_left :
    (scope : Scope) (at : Pos) (op : Comparison) (s : CTypeTree) (c null : Bool) (a b e : TExprTree) → IsEquality op → IsTypedValue scope b → texpr_type b ≡ Pointer s c
    → (if null then Some (Binary at (binaries.ComparePointers op) (as_null (Pointer s c) a) b) else None) ≡ Some e → IsTypedValue scope e
null_left scope at op s c true a b e is w q r = made _ e r (with_null_left scope at op s c a b is w q)
null_left scope at op s c false a b e is w q r = no_some e r

equality_by :
    (scope : Scope) (at : Pos) (op : Comparison) (s t : CTypeTree) (a b e : TExprTree) → IsEquality op → IsTypedValue scope a → IsTypedValue scope b
    → texpr_type a ≡ s → texpr_type b ≡ t → equality_row op at s t a b ≡ Some e → IsTypedValue scope e
equality_by scope at op (Pointer s c) (Pointer t d) a b e is v w p q r = equal_pointers_by scope at op s t c d (is_same_but_const s t) a b e is v w p q refl r
equality_by scope at op (Pointer s c) (Int u) a b e is v w p q r = null_right scope at op s c (is_null_constant b) a b e is v p r
equality_by scope at op (Int t) (Pointer s c) a b e is v w p q r = null_left scope at op s c (is_null_constant a) a b e is w q r
equality_by scope at op s t a b e is v w p q r = balanced_by scope at (binaries.CompareInts op) s t a b e (comparison scope op) v w p q r

-- ---- `&&` and `||`

pub scalar_is : (ty : CTypeTree) → is_scalar ty ≡ true → IsScalar ty
scalar_is (Int t) e = tt
scalar_is (Pointer to c) e = tt
scalar_is ty e = absurd (false≢true e)

pub scalar_value : (scope : Scope) (a : TExprTree) → IsTypedValue scope a → is_scalar (texpr_type a) ≡ true → IsScalar (given_type (last_expr scope a))
scalar_value scope a v e = fits scope a v IsScalar (texpr_type a) refl (scalar_is (texpr_type a) e)

and_node : (scope : Scope) (at : Pos) (a b : TExprTree) → IsTypedValue scope a → IsTypedValue scope b → LogicalRow (given_type (last_expr scope a)) (given_type (last_expr scope b)) → IsTypedValue scope (And at a b)
unfolding IsTypedExpr IsTypedPlace AreTyped settled_expr settled_place settled_exprs
and_node scope at a b v w row = record { typed = (v.typed, w.typed, row); proper = tt; kept = refl }

or_node : (scope : Scope) (at : Pos) (a b : TExprTree) → IsTypedValue scope a → IsTypedValue scope b → LogicalRow (given_type (last_expr scope a)) (given_type (last_expr scope b)) → IsTypedValue scope (Or at a b)
unfolding IsTypedExpr IsTypedPlace AreTyped settled_expr settled_place settled_exprs
or_node scope at a b v w row = record { typed = (v.typed, w.typed, row); proper = tt; kept = refl }

logical_by :
    (scope : Scope) (node : TExprTree → TExprTree → TExprTree) (both : Bool) (a b e : TExprTree) → ((LogicalRow (given_type (last_expr scope a)) (given_type (last_expr scope b))) → IsTypedValue scope (node a b))
    → IsTypedValue scope a → IsTypedValue scope b → (is_scalar (texpr_type a) && is_scalar (texpr_type b)) ≡ both → (if both then Some (node a b) else None) ≡ Some e → IsTypedValue scope e
logical_by scope node true a b e f v w h r =
    let p = and_parts (is_scalar (texpr_type a)) (is_scalar (texpr_type b)) h in made _ e r (f (scalar_value scope a v p.0, scalar_value scope b w p.1))
logical_by scope node false a b e f v w h r = no_some e r

-- ---- all of them

pub operators_are_typed : OperatorsAreTyped
operators_are_typed structs scope at signs.Multiply a b e later v w r = balanced_by scope at _ _ _ a b e (arithmetic scope arithmetics.Multiply) v w refl refl r
operators_are_typed structs scope at signs.Divide a b e later v w r = balanced_by scope at _ _ _ a b e (arithmetic scope arithmetics.Divide) v w refl refl r
operators_are_typed structs scope at signs.Remainder a b e later v w r = balanced_by scope at _ _ _ a b e (arithmetic scope arithmetics.Remainder) v w refl refl r
operators_are_typed structs scope at signs.Plus a b e later v w r = plus_by structs scope at _ _ a b e later v w refl refl r
operators_are_typed structs scope at signs.Minus a b e later v w r = minus_by structs scope at _ _ a b e later v w refl refl r
operators_are_typed structs scope at signs.ShiftLeft a b e later v w r = shift_by scope at shifts.Left _ _ a b e v w refl refl r
operators_are_typed structs scope at signs.ShiftRight a b e later v w r = shift_by scope at shifts.Right _ _ a b e v w refl refl r
operators_are_typed structs scope at signs.Less a b e later v w r = order_by scope at comparisons.Less _ _ a b e v w refl refl r
operators_are_typed structs scope at signs.Greater a b e later v w r = order_by scope at comparisons.Greater _ _ a b e v w refl refl r
operators_are_typed structs scope at signs.AtMost a b e later v w r = order_by scope at comparisons.AtMost _ _ a b e v w refl refl r
operators_are_typed structs scope at signs.AtLeast a b e later v w r = order_by scope at comparisons.AtLeast _ _ a b e v w refl refl r
operators_are_typed structs scope at signs.Equal a b e later v w r = equality_by scope at comparisons.Equal _ _ a b e equal v w refl refl r
operators_are_typed structs scope at signs.Unequal a b e later v w r = equality_by scope at comparisons.Unequal _ _ a b e unequal v w refl refl r
operators_are_typed structs scope at signs.BitAnd a b e later v w r = balanced_by scope at _ _ _ a b e (arithmetic scope arithmetics.BitAnd) v w refl refl r
operators_are_typed structs scope at signs.BitXor a b e later v w r = balanced_by scope at _ _ _ a b e (arithmetic scope arithmetics.BitXor) v w refl refl r
operators_are_typed structs scope at signs.BitOr a b e later v w r = balanced_by scope at _ _ _ a b e (arithmetic scope arithmetics.BitOr) v w refl refl r
operators_are_typed structs scope at signs.And a b e later v w r = logical_by scope (And at) _ a b e (λ row. and_node scope at a b v w row) v w refl r
operators_are_typed structs scope at signs.Or a b e later v w r = logical_by scope (Or at) _ a b e (λ row. or_node scope at a b v w row) v w refl r
