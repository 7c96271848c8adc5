-- The lowering of expressions and places. A depth tells the first row of temporaries that is free.
use Rattle.std.specs.Prelude.{ℕ, suc, max, pos, Bool, true, false, not, List, [], ◌∷◌, ◌++◌, map, Option, Some, None, unwrap_or}
use Rattle.c_syntax_written.specs.declared.int_type.IntType.{IntType}
use Rattle.c_syntax_written.specs.declared.int_type.IntType.TheVariants as ints
use Rattle.c_syntax_written.specs.declared.place.Pos.{Pos}
use Rattle.c_syntax_written.specs.declared.step.StepWay.{StepWay}
use Rattle.c_syntax_written.specs.Integer.{is_signed}
use Rattle.c_syntax.specs.declared.alarm.Check.{Check}
use Rattle.c_syntax.specs.declared.alarm.WrongKind.TheVariants as kinds
use Rattle.c_syntax.specs.declared.operator.StepTime.{StepTime}
use Rattle.c_syntax.specs.declared.operator.StepTime.TheVariants as times
use Rattle.c_syntax.specs.declared.operator.Stride.{Stride}
use Rattle.c_syntax.specs.declared.operator.Stride.TheVariants as strides
use Rattle.c_syntax.specs.declared.operator.TUnaryOp.{TUnaryOp}
use Rattle.c_syntax.specs.declared.operator.TUnaryOp.TheVariants as unaries
use Rattle.c_syntax.specs.declared.operator.TBinaryOp.{TBinaryOp}
use Rattle.c_syntax.specs.declared.operator.TBinaryOp.TheVariants as binaries
use Rattle.c_syntax.specs.Types.{CTypeTree, Struct}
use Rattle.c_syntax.specs.TypedExpr as c
use Rattle.c_syntax.specs.TypedExpr.{TExprTree, TLvalueTree, TExprTrees}
use Rattle.c_syntax.specs.TypedParts.{texpr_type, tlvalue_pos, tlvalue_type}
use Rattle.c_syntax.specs.Program.{TProgramTree}
use Rattle.c_layout.specs.Checks.{plain_check, binary_checks, test_checks}
use Rattle.c_layout.specs.MainFunction.{is_main}
use Rattle.block_mem.specs.declared.types.Scalar.{Scalar}
use Rattle.block_mem.specs.declared.types.Scalar.TheVariants as scalars
use Rattle.c_values.specs.Values.{plain_type, scalar_of}
use Rattle.c_values.specs.Typed.{binary_type, unary_type}
use Rattle.c_steps.specs.Changes.{left_type, step_operator}
use Rattle.csharp.specs.Trees.{CsExprTree, Const, Null, Temp, Address, Unary, Binary, Convert, CsStmtTree, Nothing, Set, Load, Store}
use Rattle.csharp.specs.Trees.{CopyBytes, Input, Assume, Sequence, If, Block, Exit, Call}
use Rattle.lower_trees.specs.Temps.{temp_at}
use Rattle.lower_trees.specs.Checking.{checks, load_list, store_list, read_list, write_list, binary_list, unary_list, moved, move_list, test_list, test_value}
use Rattle.lower_trees.specs.Checking.{plain_one, value_check}

-- what is done before an expression has its value, that value, the next depth that is free, and how many rows are used
pub record Lowered : Type 0 where
  pub before : CsStmtTree
  pub value : CsExprTree
  pub next : ℕ
  pub top : ℕ

abbrev pub lowered : CsStmtTree → CsExprTree → ℕ → ℕ → Lowered
lowered before value next top = record { before = before; value = value; next = next; top = top }

-- An expression in its uses: for its value; as a test at a place, which leaves by an exit where it is false, or where it is true; and as a struct of so
-- many bytes at an alignment that is copied from
pub record Forms : Type 0 where
  pub value : Lowered
  pub unless : Pos → ℕ → CsStmtTree
  pub when : Pos → ℕ → CsStmtTree
  pub source : ℕ → ℕ → Lowered

-- an int
abbrev pub number : ℕ → CsExprTree
number n = Const ints.Int (pos n)

abbrev pub or_int : Option Scalar → Scalar
or_int ty = unwrap_or ty (scalars.Int ints.Int)

-- what an expression of a type stands for in a temporary: a struct by the address of its bytes
abbrev pub held_scalar : CTypeTree → Option Scalar
held_scalar (Struct n) = Some scalars.Pointer
held_scalar ty = scalar_of ty

-- ---- tests
-- one that is no `!`, `&&` or `||`
abbrev pub unless_value : Option Scalar → Lowered → Pos → ℕ → CsStmtTree
unless_value ty a at k = Sequence a.before (Sequence (checks (test_list at ty a.value)) (If (test_value ty a.value) Nothing (Exit k)))

abbrev pub when_value : Option Scalar → Lowered → Pos → ℕ → CsStmtTree
when_value ty a at k = Sequence a.before (Sequence (checks (test_list at ty a.value)) (If (test_value ty a.value) (Exit k) Nothing))

abbrev pub plain : Option Scalar → Lowered → Forms
plain ty a = record { value = a; unless = unless_value ty a; when = when_value ty a; source = λ size align. a }

-- two ways behind a test that leaves by exit 0 where it is false
abbrev pub branch : CsStmtTree → CsStmtTree → CsStmtTree → CsStmtTree
branch test first second = Block (Sequence (Block (Sequence test (Sequence first (Exit 1)))) second)

-- ---- values
-- a value goes into a temporary at a depth, unless it is kept as it is
abbrev pub spilled : Bool → ℕ → Scalar → Lowered → Lowered
spilled true depth ty a = a
spilled false depth ty a = lowered (Sequence a.before (Set (temp_at depth ty) a.value)) (Temp (temp_at depth ty)) (suc depth) (max (suc depth) a.top)

abbrev pub is_array_use : TExprTree → Bool
is_array_use (c.Decay at place) = true
is_array_use e = false

abbrev pub has_no_check : List Check → Bool
has_no_check [] = true
has_no_check cs = false

-- what has checks goes into a temporary behind them, but for an index of an array
abbrev pub is_kept : TBinaryOp → TExprTree → TExprTree → Bool
is_kept (binaries.PointerPlusInt n) a b = is_array_use a
is_kept (binaries.IntPlusPointer n) a b = is_array_use b
is_kept (binaries.PointerMinusInt n) a b = is_array_use a
is_kept op a b = has_no_check (binary_checks op)

abbrev pub is_kept_alone : TUnaryOp → Bool
is_kept_alone (unaries.Minus t) = not (is_signed t)
is_kept_alone op = true

-- a value at a scalar type: a pointer stays as it is
abbrev pub to_scalar : Option Scalar → CsExprTree → CsExprTree
to_scalar (Some (scalars.Int t)) e = Convert t e
to_scalar ty e = e

-- ---- the forms, from those of their parts
abbrev pub of_load : ℕ → Pos → Scalar → Lowered → Lowered
of_load d at ty a =
    lowered (Sequence a.before (Sequence (checks (load_list at ty a.value)) (Load (temp_at d ty) ty a.value))) (Temp (temp_at d ty)) (suc d) (max (suc d) a.top)

abbrev pub of_unary : ℕ → Pos → TUnaryOp → Option Scalar → Lowered → Lowered
of_unary d at op ty a =
    spilled (is_kept_alone op) d (unary_type op) (lowered (Sequence a.before (checks (unary_list at op ty a.value))) (Unary op a.value) a.next a.top)

abbrev pub of_binary : ℕ → Pos → Bool → TBinaryOp → Lowered → Lowered → Lowered
of_binary d at kept op a b =
    spilled kept d (binary_type op)
    (lowered (Sequence a.before (Sequence b.before (checks (binary_list at op a.value b.value)))) (Binary op a.value b.value) b.next (max a.top b.top))

abbrev pub of_convert : Option Scalar → Lowered → Lowered
of_convert None a = lowered a.before (number 0) a.next a.top
of_convert ty a = lowered a.before (to_scalar ty a.value) a.next a.top

abbrev pub of_assign : Pos → Scalar → Lowered → Lowered → Lowered
of_assign at ty a b =
    lowered (Sequence a.before (Sequence b.before (Sequence (checks (store_list at ty a.value)) (Store ty a.value b.value)))) b.value b.next (max a.top b.top)

abbrev pub of_assign_struct : Pos → ℕ → ℕ → Lowered → Lowered → Lowered
of_assign_struct at size align a b =
    lowered (Sequence a.before (Sequence b.before (Sequence (checks (write_list at size align a.value)) (CopyBytes size a.value b.value)))) a.value a.next
    (max a.top b.top)

-- a struct at a place is read there
abbrev pub of_source : Pos → Lowered → ℕ → ℕ → Lowered
of_source at a size align = lowered (Sequence a.before (checks (read_list at size align a.value))) a.value a.next a.top

abbrev pub with_source : Pos → Lowered → Forms
with_source at a = record { value = a; unless = unless_value None a; when = when_value None a; source = of_source at a }

-- `op=`, `++` and `--`: the old value in one temporary, and what the operator gives in the next
abbrev pub changed_left : TBinaryOp → Scalar → ℕ → CsExprTree
changed_left op ty d = to_scalar (left_type op (Some ty)) (Temp (temp_at d ty))

abbrev pub changed_new : TBinaryOp → Scalar → ℕ → CsExprTree
changed_new op ty d = to_scalar (Some ty) (Temp (temp_at (suc d) (binary_type op)))

abbrev pub change : Pos → Pos → Scalar → TBinaryOp → ℕ → CsExprTree → CsExprTree → CsStmtTree
change at at_place ty op d place u =
    Sequence (checks (load_list at_place ty place)) (Sequence (Load (temp_at d ty) ty place)
    (Sequence (checks (binary_list at op (changed_left op ty d) u)) (Sequence (Set (temp_at (suc d) (binary_type op)) (Binary op (changed_left op ty d) u))
    (Sequence (checks (store_list at_place ty place)) (Store ty place (changed_new op ty d))))))

abbrev pub given_term : StepTime → CsExprTree → CsExprTree → CsExprTree
given_term times.Before old new = new
given_term times.After old new = old

abbrev pub of_change : Pos → Pos → Scalar → TBinaryOp → StepTime → CsStmtTree → ℕ → ℕ → CsExprTree → CsExprTree → Lowered
of_change at at_place ty op time before d top place u =
    lowered (Sequence before (change at at_place ty op d place u)) (given_term time (Temp (temp_at d ty)) (changed_new op ty d)) (suc (suc d))
    (max (suc (suc d)) top)

abbrev pub of_compound : Pos → Pos → Scalar → TBinaryOp → Lowered → Lowered → Lowered
of_compound at at_place ty op a b = of_change at at_place ty op times.Before (Sequence a.before b.before) b.next (max a.top b.top) a.value b.value

abbrev pub step_one : Stride → CsExprTree
step_one (strides.Int t) = Const t (pos 1)
step_one (strides.Element n) = number 1

abbrev pub of_step : Pos → Pos → Scalar → StepTime → StepWay → Stride → Lowered → Lowered
of_step at at_place ty time way stride a = of_change at at_place ty (step_operator way stride) time a.before a.next a.top a.value (step_one stride)

-- 1 or 0 by a test
abbrev pub of_bit : ℕ → CsStmtTree → ℕ → Lowered
of_bit d test top =
    lowered (branch test (Set (temp_at d (scalars.Int ints.Int)) (number 1)) (Set (temp_at d (scalars.Int ints.Int)) (number 0)))
    (Temp (temp_at d (scalars.Int ints.Int))) (suc d) (max (suc d) top)

-- `&&` and `||` as tests: the parts are tested at their own place
abbrev pub unless_and : Pos → Forms → Forms → Pos → ℕ → CsStmtTree
unless_and at a b from k = Sequence (a.unless at k) (b.unless at k)

abbrev pub when_and : Pos → Forms → Forms → Pos → ℕ → CsStmtTree
when_and at a b from k = Block (Sequence (a.unless at 0) (b.when at (suc k)))

abbrev pub unless_or : Pos → Forms → Forms → Pos → ℕ → CsStmtTree
unless_or at a b from k = Block (Sequence (a.when at 0) (b.unless at (suc k)))

abbrev pub when_or : Pos → Forms → Forms → Pos → ℕ → CsStmtTree
when_or at a b from k = Sequence (a.when at k) (b.when at k)

abbrev pub of_and : ℕ → Pos → Forms → Forms → Forms
of_and d at a b = record {
  value = of_bit d (unless_and at a b at 0) (max a.value.top b.value.top);
  unless = unless_and at a b;
  when = when_and at a b;
  source = λ size align. of_bit d (unless_and at a b at 0) (max a.value.top b.value.top);
}

abbrev pub of_or : ℕ → Pos → Forms → Forms → Forms
of_or d at a b = record {
  value = of_bit d (unless_or at a b at 0) (max a.value.top b.value.top);
  unless = unless_or at a b;
  when = when_or at a b;
  source = λ size align. of_bit d (unless_or at a b at 0) (max a.value.top b.value.top);
}

-- `!` as a test is the other test of its operand, at its own place; other operators are tested by their value
abbrev pub of_unary_forms : ℕ → Pos → TUnaryOp → Option Scalar → Forms → Forms
of_unary_forms d at unaries.Not ty a = record {
  value = of_unary d at unaries.Not ty a.value;
  unless = λ from k. a.when at k;
  when = λ from k. a.unless at k;
  source = λ size align. of_unary d at unaries.Not ty a.value;
}
of_unary_forms d at op ty a = plain (Some (unary_type op)) (of_unary d at op ty a.value)

-- `?:`: a branch, each way of which puts its value into one temporary
abbrev pub of_cond : ℕ → Option Scalar → CsStmtTree → ℕ → Lowered → Lowered → Lowered
of_cond d None test top a b = lowered (branch test a.before b.before) (number 0) d (max top (max a.top b.top))
of_cond d (Some ty) test top a b =
    lowered (branch test (Sequence a.before (Set (temp_at d ty) a.value)) (Sequence b.before (Set (temp_at d ty) b.value))) (Temp (temp_at d ty)) (suc d)
    (max (suc d) (max top (max a.top b.top)))

abbrev pub of_cond_forms : ℕ → Pos → CTypeTree → Forms → Forms → Forms → Forms
of_cond_forms d at ty t a b = record (plain (held_scalar ty) (of_cond d (held_scalar ty) (t.unless at 0) t.value.top a.value b.value)) {
  source = λ size align. of_cond d (Some scalars.Pointer) (t.unless at 0) t.value.top (a.source size align) (b.source size align);
}

abbrev pub behind : Lowered → Lowered → Lowered
behind a b = lowered (Sequence a.before b.before) b.value b.next (max a.top b.top)

abbrev pub of_comma : Option Scalar → Lowered → Forms → Forms
of_comma ty a b = record (plain ty (behind a b.value)) { source = λ size align. behind a (b.source size align) }

-- ---- calls
pub record Args : Type 0 where
  pub before : CsStmtTree
  pub values : List CsExprTree
  pub next : ℕ
  pub top : ℕ

abbrev pub cs_call : Pos → ℕ → List CsExprTree → Option ℕ → Option ℕ → CsStmtTree
cs_call at f args value flag = Call (record { pos = at; function = f; args = args; value = value; flag = flag })

-- no value is wanted; main always has one; else whether there was one is in a temporary beside it
abbrev pub of_call : ℕ → Pos → ℕ → Option Scalar → Bool → Args → Lowered
of_call d at f None main args = lowered (Sequence args.before (cs_call at f args.values None None)) (number 0) d args.top
of_call d at f (Some ty) true args =
    lowered (Sequence args.before (cs_call at f args.values (Some (temp_at d ty)) None)) (Temp (temp_at d ty)) (suc d) (max (suc d) args.top)
of_call d at f (Some ty) false args =
    lowered (Sequence args.before (Sequence (cs_call at f args.values (Some (temp_at d ty)) (Some (temp_at (suc d) (scalars.Int ints.Int))))
    (checks (value_check at (Temp (temp_at (suc d) (scalars.Int ints.Int))) ∷ [])))) (Temp (temp_at d ty)) (suc d) (max (suc (suc d)) args.top)

abbrev pub wanted : Bool → CTypeTree → Option Scalar
wanted true ty = scalar_of ty
wanted false ty = None

-- ---- `__any_T`, `__assume` and `__assert`
abbrev pub of_input : ℕ → IntType → Lowered
of_input d t = lowered (Input (temp_at d (scalars.Int t)) t) (Temp (temp_at d (scalars.Int t))) (suc d) (suc d)

abbrev pub of_assume : ℕ → Pos → Forms → Lowered
of_assume d at a = lowered (branch (a.unless at 0) Nothing (Assume (number 0))) (number 0) d a.value.top

abbrev pub of_assert : ℕ → Pos → Option Scalar → Lowered → Lowered
of_assert d at ty a =
    lowered (Sequence a.before (checks (map (plain_one at a.value) (test_checks (plain_type ty) ++ plain_check kinds.AssertFailed ∷ [])))) (number 0) d a.top

abbrev pub of_member : Pos → ℕ → Lowered → Lowered
of_member at offset a = lowered (Sequence a.before (checks (move_list at a.value offset))) (moved a.value offset) a.next a.top

abbrev pub value_scalar : TExprTree → Option Scalar
value_scalar e = scalar_of (texpr_type e)

abbrev pub place_scalar : TLvalueTree → Scalar
place_scalar place = or_int (scalar_of (tlvalue_type place))

abbrev mutual
  pub lower_expr : TProgramTree → ℕ → TExprTree → Forms
  lower_expr p d (c.Const at t n) = plain (Some (scalars.Int t)) (lowered Nothing (Const t n) d d)
  lower_expr p d (c.Null at ty) = plain (Some scalars.Pointer) (lowered Nothing Null d d)
  lower_expr p d (c.Load at place) = plain (scalar_of (tlvalue_type place)) (of_load d (tlvalue_pos place) (place_scalar place) (lower_place p d place))
  lower_expr p d (c.AddressOf at place) = plain (Some scalars.Pointer) (lower_place p d place)
  lower_expr p d (c.Decay at place) = plain (Some scalars.Pointer) (lower_place p d place)
  lower_expr p d (c.Whole at place) = with_source (tlvalue_pos place) (lower_place p d place)
  lower_expr p d (c.Unary at op a) = of_unary_forms d at op (value_scalar a) (lower_expr p d a)
  lower_expr p d (c.Binary at op a b) =
      plain (Some (binary_type op)) (of_binary d at (is_kept op a b) op (lower_expr p d a).value (lower_expr p (lower_expr p d a).value.next b).value)
  lower_expr p d (c.Convert at ty a) = plain (scalar_of ty) (of_convert (scalar_of ty) (lower_expr p d a).value)
  lower_expr p d (c.Assign at place a) =
      plain (scalar_of (tlvalue_type place))
      (of_assign (tlvalue_pos place) (place_scalar place) (lower_place p d place) (lower_expr p (lower_place p d place).next a).value)
  lower_expr p d (c.AssignStruct at extent place a) =
      with_source (tlvalue_pos place)
      (of_assign_struct (tlvalue_pos place) extent.size extent.align (lower_place p d place)
      ((lower_expr p (lower_place p d place).next a).source extent.size extent.align))
  lower_expr p d (c.Compound at op place a) =
      plain (scalar_of (tlvalue_type place))
      (of_compound at (tlvalue_pos place) (place_scalar place) op (lower_place p d place) (lower_expr p (lower_place p d place).next a).value)
  lower_expr p d (c.Step at time way stride place) =
      plain (scalar_of (tlvalue_type place)) (of_step at (tlvalue_pos place) (place_scalar place) time way stride (lower_place p d place))
  lower_expr p d (c.And at a b) = of_and d at (lower_expr p d a) (lower_expr p d b)
  lower_expr p d (c.Or at a b) = of_or d at (lower_expr p d a) (lower_expr p d b)
  lower_expr p d (c.Cond at ty t a b) = of_cond_forms d at ty (lower_expr p d t) (lower_expr p d a) (lower_expr p d b)
  lower_expr p d (c.Comma at a b) = of_comma (value_scalar b) (lower_expr p d a).value (lower_expr p d b)
  lower_expr p d (c.Call at f ty used args) = plain (scalar_of ty) (of_call d at f (wanted used ty) (is_main p f) (lower_args p d args))
  lower_expr p d (c.Any at t) = plain (Some (scalars.Int t)) (of_input d t)
  lower_expr p d (c.Assume at a) = plain None (of_assume d at (lower_expr p d a))
  lower_expr p d (c.Assert at a) = plain None (of_assert d at (value_scalar a) (lower_expr p d a).value)

  pub lower_place : TProgramTree → ℕ → TLvalueTree → Lowered
  lower_place p d (c.Var at x ty is_const) = lowered Nothing (Address x) d d
  lower_place p d (c.Deref at kind ty is_const pointer) = (lower_expr p d pointer).value
  lower_place p d (c.Member at k offset ty is_const place) = of_member at offset (lower_place p d place)

  pub lower_args : TProgramTree → ℕ → TExprTrees → Args
  lower_args p d c.none = record { before = Nothing; values = []; next = d; top = d }
  lower_args p d (c.more e rest) = record {
    before = Sequence (lower_expr p d e).value.before (lower_args p (lower_expr p d e).value.next rest).before;
    values = (lower_expr p d e).value.value ∷ (lower_args p (lower_expr p d e).value.next rest).values;
    next = (lower_args p (lower_expr p d e).value.next rest).next;
    top = max (lower_expr p d e).value.top (lower_args p (lower_expr p d e).value.next rest).top;
  }
