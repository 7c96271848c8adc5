-- Nodes that change what stands in a place.
use Rattle.std.proofs.Common.{◌≡◌, true, false, refl, ap, sym, subst, ◌∙◌}
use Rattle.std.specs.Prelude.{Bool, not, if◌then◌else◌, Option, None, Some}
use Rattle.std.proofs.lemmas.Bool.{false≢true, and_parts, not-true}
use Rattle.c_syntax_written.specs.declared.place.Pos.{Pos}
use Rattle.c_syntax_written.specs.declared.step.StepWay.{StepWay}
use Rattle.c_syntax.specs.declared.operator.Extent.{Extent}
use Rattle.c_syntax.specs.declared.operator.StepTime.{StepTime}
use Rattle.c_syntax.specs.declared.operator.Stride.{Stride}
use Rattle.c_syntax.specs.declared.operator.TBinaryOp.{TBinaryOp}
use Rattle.c_syntax.specs.Types.{CTypeTree, Void, Int, Pointer, Array, Struct, Function}
use Rattle.c_syntax.specs.TypedExpr.{TExprTree, Assign, AssignStruct, Compound, Step, TLvalueTree}
use Rattle.c_syntax.specs.TypedParts.{texpr_type, tlvalue_type, tlvalue_is_const}
use Rattle.c_syntax.specs.GivenType.{given_type}
use Rattle.c_layout.specs.RowTypes.{StoreRow, CopyRow, CompoundRow, StepRow}
use Rattle.c_layout.specs.TypedNodes.{Scope, IsTypedExpr, IsTypedPlace, AreTyped}
use Rattle.c_layout.specs.WellTyped.{is_array}
use Rattle.c_typing.specs.World.{World, Refusal, NotLvalue, Typed, Refused}
use Rattle.c_typing.specs.Operands.{OperandTree, Place, Value, read_by, value_of}
use Rattle.c_typing.specs.Rows.{Stored, Scalar, Copied, stored_row, compound_row, step_row}
use Rattle.c_typing.specs.Nodes.{is_modifiable, store_node, changed}
use Rattle.c_typing.specs.Settled.{settled_expr, settled_place, settled_exprs}
use Rattle.c_typing_laws.specs.TypedValues.{IsTypedValue, IsTypedLvalue, IsTypedOperand, last_expr}
use Rattle.c_typing_laws.specs.RowLaws.{IsPut}
use Rattle.c_typing_laws.specs.NodeLaws.{AssignmentsAreTyped, CompoundsAreTyped, SteppedAreTyped}
use Rattle.c_typing_laws.proofs.Lasts.{last_same, last_proper, const_kept}
use Rattle.c_typing_laws.proofs.Stores.{values_are_put}
use Rattle.c_typing_laws.proofs.Changes.{changes_are_typed, steps_are_typed}
use Rattle.c_typing_laws.proofs.Places.{typed_is, not_typed}

-- ---- places that may be changed

-- what is read in a place that is no array has its type
read_type : (place : TLvalueTree) (ty : CTypeTree) → tlvalue_type place ≡ ty → is_array ty ≡ false → texpr_type (read_by ty place) ≡ tlvalue_type place
read_type place Void p e = refl
read_type place (Int t) p e = refl
read_type place (Pointer to c) p e = refl
read_type place (Array of c n) p e = absurd (false≢true (sym e))
read_type place (Struct n) p e = refl
read_type place (Function n) p e = refl

pub record MayChange (place : TLvalueTree) : Type 0 where
  pub modifiable : tlvalue_is_const place ≡ false
  pub no_array : is_array (tlvalue_type place) ≡ false
  pub reads : texpr_type (value_of (Place place)) ≡ tlvalue_type place

pub may_change : (place : TLvalueTree) → is_modifiable place ≡ true → MayChange place
may_change place e =
    let p = and_parts (not (tlvalue_is_const place)) (not (is_array (tlvalue_type place))) e in record {
      modifiable = not-true (tlvalue_is_const place) p.0;
      no_array = not-true (is_array (tlvalue_type place)) p.1;
      reads = read_type place (tlvalue_type place) refl (not-true (is_array (tlvalue_type place)) p.1);
    }

-- a node on a place that may be changed, by its row
changed_by :
    {A : Type 0} (scope : Scope) (r : Refusal) (at : Pos) (x y : OperandTree) (row : Option A) (node : A → TLvalueTree → TExprTree) (w v : World)
    → ((a : A) (place : TLvalueTree) → row ≡ Some a → x ≡ Place place → MayChange place → IsTypedValue scope (node a place))
    → changed r at x row node w ≡ Typed y v → IsTypedOperand scope y
changed_by scope r at x y None node w v f p = not_typed r y v p
changed_by scope r at (Value e) y (Some a) node w v f p = not_typed _ y v p
changed_by scope r at (Place place) y (Some a) node w v f p = by (is_modifiable place) refl p
  where
    by : (b : Bool) → is_modifiable place ≡ b → (if b then Typed (Value (node a place)) w else Refused (NotLvalue at)) ≡ Typed y v → IsTypedOperand scope y
    by true e q = subst (IsTypedOperand scope) (typed_is (Value (node a place)) y w v q) (f a place refl refl (may_change place e))
    by false e q = not_typed _ y v q

-- the place that the operand is
place_of : (scope : Scope) (x : OperandTree) (place : TLvalueTree) → x ≡ Place place → IsTypedOperand scope x → IsTypedLvalue scope place
place_of scope x place e t = subst (IsTypedOperand scope) e t

value_type : (x : OperandTree) (place : TLvalueTree) → x ≡ Place place → MayChange place → texpr_type (value_of x) ≡ tlvalue_type place
value_type x place e m = ap (λ z. texpr_type (value_of z)) e ∙ m.reads

-- ---- `=`

assign_node :
    (scope : Scope) (at : Pos) (place : TLvalueTree) (value : TExprTree) → IsTypedLvalue scope place → MayChange place → IsTypedValue scope value
    → StoreRow (tlvalue_type place) (given_type (last_expr scope value)) → IsTypedValue scope (Assign at place value)
unfolding IsTypedExpr IsTypedPlace AreTyped settled_expr settled_place settled_exprs
assign_node scope at place value t m v row =
    let q = last_same t.last m.no_array in record {
      typed = (t.typed, v.typed, const_kept scope.program.objects place ∙ m.modifiable, subst (λ ty. StoreRow ty (given_type (last_expr scope value))) (sym q) row);
      proper = last_proper scope place q t.proper;
      kept = q;
    }

copy_node :
    (scope : Scope) (at : Pos) (extent : Extent) (place : TLvalueTree) (source : TExprTree) → IsTypedLvalue scope place → MayChange place
    → IsTypedValue scope source → CopyRow scope.program.structs extent (tlvalue_type place) (given_type (last_expr scope source)) → IsTypedValue scope (AssignStruct at extent place source)
unfolding IsTypedExpr IsTypedPlace AreTyped settled_expr settled_place settled_exprs
copy_node scope at extent place source t m v row =
    let q = last_same t.last m.no_array in record {
      typed = (t.typed, v.typed, const_kept scope.program.objects place ∙ m.modifiable, subst (λ ty. CopyRow scope.program.structs extent ty (given_type (last_expr scope source))) (sym q) row);
      proper = last_proper scope place q t.proper;
      kept = q;
    }

put_node :
    (scope : Scope) (at : Pos) (stored : Stored) (place : TLvalueTree) → IsTypedLvalue scope place → MayChange place → IsPut scope (tlvalue_type place) stored
    → IsTypedValue scope (store_node at stored place)
put_node scope at (Scalar value) place t m put = assign_node scope at place value t m put.typed put.row
put_node scope at (Copied extent source) place t m put = copy_node scope at extent place source t m put.0 put.1

pub assignments_are_typed : AssignmentsAreTyped
assignments_are_typed w v scope at x y e later t z p =
    changed_by scope _ at x y (stored_row w.structs (texpr_type (value_of x)) (texpr_type e) e) (store_node at) w v
    (λ stored place r q m.
    let place_is = place_of scope x place q t in
    let row = subst (λ ty. stored_row w.structs ty (texpr_type e) e ≡ Some stored) (value_type x place q m) r in
    put_node scope at stored place place_is m
    (values_are_put w.structs scope (tlvalue_type place) e stored later z (last_proper scope place (last_same place_is.last m.no_array) place_is.proper) row)) p

-- ---- `op=`

compound_node :
    (scope : Scope) (at : Pos) (op : TBinaryOp) (place : TLvalueTree) (value : TExprTree) → IsTypedLvalue scope place → MayChange place
    → IsTypedValue scope value → CompoundRow scope.program.structs op (tlvalue_type place) (given_type (last_expr scope value)) → IsTypedValue scope (Compound at op place value)
unfolding IsTypedExpr IsTypedPlace AreTyped settled_expr settled_place settled_exprs
compound_node scope at op place value t m v row =
    let q = last_same t.last m.no_array in record {
      typed = (t.typed, v.typed, const_kept scope.program.objects place ∙ m.modifiable, subst (λ ty. CompoundRow scope.program.structs op ty (given_type (last_expr scope value))) (sym q) row);
      proper = last_proper scope place q t.proper;
      kept = q;
    }

pub compounds_are_typed : CompoundsAreTyped
compounds_are_typed w v scope at op x y e later t z p =
    changed_by scope _ at x y (compound_row w.structs op (texpr_type (value_of x)) (texpr_type e) e) (λ row place. Compound at row.op place row.value) w v
    (λ change place r q m.
    let row = subst (λ ty. compound_row w.structs op ty (texpr_type e) e ≡ Some change) (value_type x place q m) r in
    let is = changes_are_typed w.structs scope op (tlvalue_type place) e change later z row in
    compound_node scope at change.op place change.value (place_of scope x place q t) m is.value is.row) p

-- ---- `++` and `--`

step_node :
    (scope : Scope) (at : Pos) (time : StepTime) (way : StepWay) (stride : Stride) (place : TLvalueTree) → IsTypedLvalue scope place → MayChange place
    → StepRow scope.program.structs stride (tlvalue_type place) → IsTypedValue scope (Step at time way stride place)
unfolding IsTypedExpr IsTypedPlace AreTyped settled_expr settled_place settled_exprs
step_node scope at time way stride place t m row =
    let q = last_same t.last m.no_array in record {
      typed = (t.typed, const_kept scope.program.objects place ∙ m.modifiable, subst (λ ty. StepRow scope.program.structs stride ty) (sym q) row);
      proper = last_proper scope place q t.proper;
      kept = q;
    }

pub stepped_are_typed : SteppedAreTyped
stepped_are_typed w v scope at time way x y later t p =
    changed_by scope _ at x y (step_row w.structs (texpr_type (value_of x))) (λ stride place. Step at time way stride place) w v
    (λ stride place r q m.
    let row = subst (λ ty. step_row w.structs ty ≡ Some stride) (value_type x place q m) r in
    step_node scope at time way stride place (place_of scope x place q t) m (steps_are_typed w.structs scope (tlvalue_type place) stride later row)) p
