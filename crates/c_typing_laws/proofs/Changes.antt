-- Operators on what stands in a place have their rows.
use Rattle.std.proofs.Common.{◌≡◌, ℕ, List, refl, subst}
use Rattle.std.specs.Prelude.{Bool, Option, None, Some, option_map}
use Rattle.std.proofs.lemmas.Option.{same_Some}
use Rattle.c_syntax_written.specs.declared.int_type.IntType.{IntType}
use Rattle.c_syntax_written.specs.declared.int_type.IntType.TheVariants as ints
use Rattle.c_syntax_written.specs.declared.written.AssignOp.TheVariants as assigns
use Rattle.c_syntax.specs.declared.operator.Arithmetic.{Arithmetic}
use Rattle.c_syntax.specs.declared.operator.Arithmetic.TheVariants as arithmetics
use Rattle.c_syntax.specs.declared.operator.Shift.{Shift}
use Rattle.c_syntax.specs.declared.operator.Shift.TheVariants as shifts
use Rattle.c_syntax.specs.declared.operator.Stride.{Stride}
use Rattle.c_syntax.specs.declared.operator.Stride.TheVariants as strides
use Rattle.c_syntax.specs.declared.operator.TBinaryOp.{TBinaryOp}
use Rattle.c_syntax.specs.declared.operator.TBinaryOp.TheVariants as binaries
use Rattle.c_syntax.specs.Types.{CTypeTree, Int, Pointer}
use Rattle.c_syntax.specs.TypedExpr.{TExprTree}
use Rattle.c_syntax.specs.TypedParts.{texpr_type}
use Rattle.c_syntax.specs.Program.{StructDefTree}
use Rattle.c_layout.specs.Conversion.{balanced}
use Rattle.c_layout.specs.RowTypes.{IsInteger, MoveRow, CompoundRow, StepRow}
use Rattle.c_layout.specs.TypedNodes.{Scope}
use Rattle.c_typing.specs.Operands.{complete_size}
use Rattle.c_typing.specs.Rows.{CompoundTree, compound_integers, compound_shift, compound_move}
use Rattle.c_typing.specs.Later.{IsLater}
use Rattle.c_typing.proofs.FormsGo.{no_some}
use Rattle.c_typing_laws.specs.TypedValues.{IsTypedValue}
use Rattle.c_typing_laws.specs.RowLaws.{IsChange, ChangesAreTyped, StepsAreTyped}
use Rattle.c_typing.proofs.Later.{size_later}
use Rattle.c_typing_laws.proofs.Wide.{balanced_again}
use Rattle.c_typing_laws.proofs.Values.{value_given, fits, as_int_value, as_int_type}

change_as : {scope : Scope} {target : CTypeTree} (x row : CompoundTree) → Some x ≡ Some row → IsChange scope target x → IsChange scope target row
change_as {scope} {target} x row p c = subst (IsChange scope target) (same_Some x row p) c

integers_by :
    (scope : Scope) (op : Arithmetic) (target ty : CTypeTree) (e : TExprTree) (row : CompoundTree) → IsTypedValue scope e → texpr_type e ≡ ty
    → compound_integers (binaries.Arithmetic op) target ty e ≡ Some row → IsChange scope target row
integers_by scope op (Int p) (Int u) e row v q r =
    let x = as_int_value scope (balanced p u) u e v q in
    change_as _ row r (record { value = x; row = (value_given scope _ x _ (as_int_type (balanced p u) u e q), balanced_again p u) })
integers_by scope op target ty e row v q r = no_some row r

shift_by :
    (scope : Scope) (way : Shift) (target ty : CTypeTree) (e : TExprTree) (row : CompoundTree) → IsTypedValue scope e → texpr_type e ≡ ty
    → compound_shift way target ty e ≡ Some row → IsChange scope target row
shift_by scope way (Int p) (Int u) e row v q r = change_as _ row r (record { value = v; row = (refl, fits scope e v IsInteger (Int u) q tt) })
shift_by scope way target ty e row v q r = no_some row r

-- what a pointer moves by: the size of what it points to
record IsMove (scope : Scope) (move : ℕ → TBinaryOp) : Type 0 where
  row : (n : ℕ) (target value : CTypeTree) → MoveRow scope.program.structs n target value → CompoundRow scope.program.structs (move n) target value

pointer_by :
    (structs : List StructDefTree) (scope : Scope) (move : ℕ → TBinaryOp) (to : CTypeTree) (c : Bool) (u : IntType) (e : TExprTree) (size : Option ℕ) (row : CompoundTree)
    → IsLater structs scope.program.structs → IsMove scope move → IsTypedValue scope e → texpr_type e ≡ Int u → complete_size structs to ≡ size
    → option_map (λ s. record { op = move s; value = e }) size ≡ Some row → IsChange scope (Pointer to c) row
pointer_by structs scope move to c u e None row later is v q s r = no_some row r
pointer_by structs scope move to c u e (Some n) row later is v q s r =
    change_as _ row r (record { value = v; row = is.row n (Pointer to c) _ (size_later structs scope.program.structs later to n s, fits scope e v IsInteger (Int u) q tt) })

move_by :
    (structs : List StructDefTree) (scope : Scope) (move : ℕ → TBinaryOp) (op : Arithmetic) (target ty : CTypeTree) (e : TExprTree) (row : CompoundTree)
    → IsLater structs scope.program.structs → IsMove scope move → IsTypedValue scope e → texpr_type e ≡ ty → compound_move structs move op target ty e ≡ Some row
    → IsChange scope target row
move_by structs scope move op (Pointer to c) (Int u) e row later is v q r = pointer_by structs scope move to c u e (complete_size structs to) row later is v q refl r
move_by structs scope move op target ty e row later is v q r = integers_by scope op target ty e row v q r

forward : (scope : Scope) → IsMove scope (λ size. binaries.PointerPlusInt size)
forward scope = record { row = λ n target value m. m }

back : (scope : Scope) → IsMove scope (λ size. binaries.PointerMinusInt size)
back scope = record { row = λ n target value m. m }

pub changes_are_typed : ChangesAreTyped
changes_are_typed structs scope assigns.Multiply target e row later v r = integers_by scope arithmetics.Multiply target _ e row v refl r
changes_are_typed structs scope assigns.Divide target e row later v r = integers_by scope arithmetics.Divide target _ e row v refl r
changes_are_typed structs scope assigns.Remainder target e row later v r = integers_by scope arithmetics.Remainder target _ e row v refl r
changes_are_typed structs scope assigns.Plus target e row later v r = move_by structs scope _ arithmetics.Add target _ e row later (forward scope) v refl r
changes_are_typed structs scope assigns.Minus target e row later v r = move_by structs scope _ arithmetics.Subtract target _ e row later (back scope) v refl r
changes_are_typed structs scope assigns.ShiftLeft target e row later v r = shift_by scope shifts.Left target _ e row v refl r
changes_are_typed structs scope assigns.ShiftRight target e row later v r = shift_by scope shifts.Right target _ e row v refl r
changes_are_typed structs scope assigns.BitAnd target e row later v r = integers_by scope arithmetics.BitAnd target _ e row v refl r
changes_are_typed structs scope assigns.BitXor target e row later v r = integers_by scope arithmetics.BitXor target _ e row v refl r
changes_are_typed structs scope assigns.BitOr target e row later v r = integers_by scope arithmetics.BitOr target _ e row v refl r

-- ---- `++` and `--`

element_by :
    (structs : List StructDefTree) (scope : Scope) (to : CTypeTree) (c : Bool) (size : Option ℕ) (stride : Stride) → IsLater structs scope.program.structs
    → complete_size structs to ≡ size → option_map (λ s. strides.Element s) size ≡ Some stride → StepRow scope.program.structs stride (Pointer to c)
element_by structs scope to c None stride later s r = no_some stride r
element_by structs scope to c (Some n) stride later s r =
    subst (λ x. StepRow scope.program.structs x (Pointer to c)) (same_Some (strides.Element n) stride r) (size_later structs scope.program.structs later to n s)

pub steps_are_typed : StepsAreTyped
steps_are_typed structs scope (Int p) stride later r = subst (λ x. StepRow scope.program.structs x (Int p)) (same_Some (strides.Int (balanced p ints.Int)) stride r) refl
steps_are_typed structs scope (Pointer to c) stride later r = element_by structs scope to c (complete_size structs to) stride later refl r
steps_are_typed structs scope target stride later r = no_some stride r
