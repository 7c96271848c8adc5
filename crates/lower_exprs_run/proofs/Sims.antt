-- The machine follows the code of each typed expression, in all its uses, where it follows calls.
use Rattle.std.proofs.Common.{◌≡◌, ◌⊎◌, inl, inr, ℕ, suc, ◌*◌, ◌≤◌, List, [], ◌∷◌, ◌++◌, length, Option, Some, None, Bool, true, false, max, refl, sym, ◌∙◌, subst, ap, arith}
use Rattle.std.specs.Prelude.{Contains, IsSomeAnd, slice_get, if◌then◌else◌}
use Rattle.std.proofs.Math.Nat.{le-max_left, le-max_right}
use Rattle.std.proofs.lemmas.List.Elements.{Contains-append_left, Contains-append_right}
use Rattle.c_syntax_written.specs.declared.int_type.IntType.TheVariants as ints
use Rattle.c_syntax_written.specs.declared.place.Pos.{Pos}
use Rattle.c_syntax.specs.declared.operator.TUnaryOp.{TUnaryOp}
use Rattle.c_syntax.specs.declared.operator.TUnaryOp.TheVariants as unaries
use Rattle.c_syntax.specs.declared.program.Plan.{Plan}
use Rattle.c_syntax.specs.Types.{CTypeTree}
use Rattle.c_syntax.specs.Types as types
use Rattle.c_syntax.specs.TypedExpr as c
use Rattle.c_syntax.specs.TypedExpr.{TExprTree, TLvalueTree, TExprTrees}
use Rattle.c_syntax.specs.TypedParts as parts
use Rattle.c_syntax.specs.TypedParts.{texpr_type, tlvalue_pos, tlvalue_type, tlvalue_is_const}
use Rattle.c_syntax.specs.GivenType.{given_type}
use Rattle.c_syntax.specs.Program.{TFunctionTree, TProgramTree}
use Rattle.c_layout.specs.Calls.{PlacedCall, calls_of, calls_at, calls_among}
use Rattle.c_layout.specs.MainFunction.{is_main}
use Rattle.c_layout.specs.RowTypes.{IsScalar, SameType, UnaryRow, PointsToSize}
use Rattle.c_layout.specs.TypedNodes.{Scope, IsTypedExpr, IsTypedPlace, AreTyped, ArgumentsRow, CallRow, IsArray, IsStruct, types_of}
use Rattle.c_layout.specs.WellTyped.{IsTypedFunction}
use Rattle.c_layout.proofs.Given as given
use Rattle.block_mem.specs.declared.types.Scalar.{Scalar}
use Rattle.block_mem.specs.declared.types.Scalar.TheVariants as scalars
use Rattle.block_mem.specs.declared.types.Value.{Value}
use Rattle.block_mem.specs.declared.types.Value.TheVariants as values
use Rattle.c_values.specs.Typed.{IsElement, binary_type}
use Rattle.c_values.specs.Values.{scalar_of}
use Rattle.c_objects.specs.Opening.{address}
use Rattle.c_steps.specs.Work.{Item, Eval, Addr, LoadAt, StoreAt, Named, CopyAt, Modify, StepAt, Move, Enter}
use Rattle.c_steps.specs.States.{Held, Struct, State, state, goes, held}
use Rattle.c_steps.specs.Calls.{evals, at_end}
use Rattle.c_steps.specs.Expressions.{value_scalar}
use Rattle.c_steps.specs.Runs.{calls_in, chain_of}
use Rattle.c_steps_laws.specs.Fits.{Fits, Runs}
use Rattle.c_steps_laws.specs.Wants.{Of, OfStruct, want_of}
use Rattle.c_steps_laws.proofs.Rows.{scalar_is, integer_is, pointer_is, binary_row, compound_row, step_row, unary_row, store_row, want_is, decays, same_want}
use Rattle.c_steps_laws.proofs.NeededRuns.{fitting_states_step}
use Rattle.c_steps_laws.proofs.Expressions.{AreSized}
use Rattle.c_steps_laws.proofs.Sizes.{all_at, are_sized}
use Rattle.csharp.specs.Trees as code
use Rattle.csharp.specs.Trees.{CsExprTree, Const, Null, Temp, Address, CsStmtTree}
use Rattle.csharp.specs.States as low
use Rattle.csharp.specs.States.{value_of}
use Rattle.csharp.specs.Outcomes as outs
use Rattle.csharp.specs.Outcomes.{Outcome, Normal, Leaves, Fails, Stuck, Clash, NoFuel, Over, then_do}
use Rattle.lower_trees.specs.Temps.{temp_at}
use Rattle.lower_trees.specs.Checking.{checks, value_check}
use Rattle.lower_trees.specs.LowerExpr.{Lowered, lowered, Forms, Args, number, held_scalar, plain, is_kept, cs_call, of_call, wanted, of_convert, of_assign_struct, of_cond, of_assume, of_assert, of_input, behind, lower_expr, lower_place, lower_args}
use Rattle.lower_rows.proofs.Steps.{Follows, one, none, follows_then, follows_map, fits_leads}
use Rattle.lower_rows.proofs.Rows.{ValueGoal, ValueFollows, no_way, as_it_is, SourceGoal, ReadsFirst}
use Rattle.lower_rows.proofs.Tests.{IsTest, unless_follows}
use Rattle.lower_rows.proofs.Sim.{value_then, kept}
use Rattle.lower_formed.proofs.Depths.{AllFrom, reads_expr, reads_place, reads_args}
use Rattle.lower_formed.proofs.Placing.{Bodied}
use Rattle.lower_quiet.proofs.Callees.{Called}
use Rattle.lower_quiet.proofs.Exprs.{quiet_expr, quiet_place, quiet_args}
use Rattle.lower_quiet.proofs.Stays.{values_stay}
use Rattle.lower_formed.proofs.Depths.{from_more}
use Rattle.lower_exprs_run.proofs.Held.{HeldGoal, HeldFollows, from_value, when_follows}
use Rattle.lower_exprs_run.proofs.Operations.{move_row}
use Rattle.lower_exprs_run.proofs.Simple as simple
use Rattle.lower_exprs_run.proofs.Simple.{Sims, no_struct_scalar, some_scalar}
use Rattle.lower_exprs_run.proofs.Composed as composed
use Rattle.lower_exprs_run.proofs.Chosen as chosen

scalar_from : (ty : CTypeTree) (s : Scalar) → scalar_of ty ≡ Some s → IsScalar ty
scalar_from types.Void s e = absurd (cc)
scalar_from (types.Int t) s e = tt
scalar_from (types.Pointer to k) s e = tt
scalar_from (types.Array of k m) s e = absurd (cc)
scalar_from (types.Struct m) s e = absurd (cc)
scalar_from (types.Function m) s e = absurd (cc)

scalar_no_struct : (ty : CTypeTree) → IsScalar ty → IsStruct ty → ⊥
scalar_no_struct ty sc st = let k = scalar_is ty sc in no_struct_scalar ty k.0 k.1 st

-- ---- arguments

-- values on the stack, the last on top
abbrev pub onto : List Value → List Held → List Held
onto [] s = s
onto (v ∷ vs) s = onto vs (held v ∷ s)

abbrev pub Valued : List CsExprTree → List Value → low.State → Type 0
Valued [] [] t = Unit {0}
Valued (e ∷ es) (v ∷ vs) t = (value_of e t ≡ Some v) × Valued es vs t
Valued es vs t = ⊥

abbrev pub ArgsGoal : List CsExprTree → List Item → List Held → low.State → State → Type 0
ArgsGoal es w s t u = (vs : List Value) × Valued es vs t × (u ≡ state w (onto vs s) t.memory t.inputs)

pub calls_evals : (args : TExprTrees) (w : List Item) → calls_in (evals args w) ≡ calls_in w
calls_evals c.none w = refl
calls_evals (c.more e rest) w = calls_evals rest w

abbrev ScalarArgs : TExprTrees → Type 0
ScalarArgs c.none = Unit {0}
ScalarArgs (c.more e rest) = IsScalar (given_type e) × ScalarArgs rest

args_scalar : (args : TExprTrees) (ps : List CTypeTree) → ArgumentsRow ps (types_of args) → ScalarArgs args
unfolding types_of
args_scalar c.none ps r = tt
args_scalar (c.more e rest) [] r = absurd r
args_scalar (c.more e rest) (q ∷ ps) r = let s = store_row q (given_type e) r.0 in (scalar_from (given_type e) s.0 s.2, args_scalar rest ps r.1)

-- ---- calls, behind their arguments

abbrev pub call_tail : ℕ → Pos → ℕ → Option Scalar → Bool → List CsExprTree → CsStmtTree
call_tail d at g None main es = cs_call at g es None None
call_tail d at g (Some ty) true es = cs_call at g es (Some (temp_at d ty)) None
call_tail d at g (Some ty) false es =
    code.Sequence (cs_call at g es (Some (temp_at d ty)) (Some (temp_at (suc d) (scalars.Int ints.Int)))) (checks (value_check at (Temp (temp_at (suc d) (scalars.Int ints.Int))) ∷ []))

-- the rows that are used up to the call's own; those of what is called lie below
abbrev pub call_rows : ℕ → Option Scalar → Bool → ℕ
call_rows d None main = d
call_rows d (Some ty) true = suc d
call_rows d (Some ty) false = suc (suc d)

abbrev pub call_value : ℕ → Option Scalar → CsExprTree
call_value d None = number 0
call_value d (Some ty) = Temp (temp_at d ty)

module _ (over : ℕ → Bool) (p : TProgramTree) (plan : Plan) (runs : Runs p plan) (n f : ℕ) (b : Bodied p f) where
  abbrev run : CsStmtTree → low.State → Outcome
  run a l = simple.run over p plan runs n f b a l

  abbrev Room : ℕ → low.State → Type 0
  Room top l = simple.Room over p plan runs n f b top l

  abbrev S : TExprTree → Forms → Type 0
  S e a = Sims over p plan runs n f b e a

  abbrev VS : TExprTree → Lowered → Type 0
  VS e a = simple.ValueSim over p plan runs n f b e a

  abbrev pub scope_of : List ℕ → Scope
  scope_of live = record { program = p; live = live }

  abbrev Low : List PlacedCall → Type 0
  Low ks = (k : PlacedCall) → Contains ks k → Called p f k.callee

  left : (xs ys : List PlacedCall) → Low (xs ++ ys) → Low xs
  left xs ys h k m = h k (Contains-append_left xs ys k m)

  right : (xs ys : List PlacedCall) → Low (xs ++ ys) → Low ys
  right xs ys h k m = h k (Contains-append_right xs ys k m)

  -- the machine follows each call of the function's, from the state in which its arguments are on the stack
  abbrev pub CallsFollow : Type 0
  CallsFollow = (d : ℕ) (at : Pos) (g : ℕ) (ty : CTypeTree) (used : Bool) (tys : List CTypeTree) (es : List CsExprTree) (vs : List Value) (w : List Item) (s : List Held) (t : low.State)
      → Called p f g → IsSomeAnd (slice_get p.functions g) (λ function. CallRow p function ty tys) → length vs ≡ length tys → Valued es vs t → AllFrom (12 * d) es → simple.lo over p plan runs n f b ≤ d
      → Room (call_rows d (wanted used ty) (is_main p g)) t
      → Fits p (state (Enter (Some at) g (at_end p g ty used) ∷ w) (onto vs s) t.memory t.inputs)
      → HeldFollows over p n (state (Enter (Some at) g (at_end p g ty used) ∷ w) (onto vs s) t.memory t.inputs) w s (want_of (if used then ty else types.Void)) (call_value d (wanted used ty))
      (run (call_tail d at g (wanted used ty) (is_main p g) es) t)

  -- an outcome that is known
  follows_is : (s0 : State) (chain : _) (goal : low.State → State → Type 0) (o : Outcome) → Follows over p n s0 chain goal no_way o → Follows over p n s0 chain (λ t u. (o ≡ Normal t) × goal t u) no_way o
  follows_is s0 chain goal (Normal t) (u, l, h) = (u, l, (refl, h))
  follows_is s0 chain goal (Leaves x t) h = h
  follows_is s0 chain goal (Fails ch at k x m) h = h
  follows_is s0 chain goal outs.Waiting h = h
  follows_is s0 chain goal outs.Stopped h = h
  follows_is s0 chain goal Stuck h = h
  follows_is s0 chain goal Clash h = h
  follows_is s0 chain goal NoFuel h = h
  follows_is s0 chain goal Over h = h

  -- ---- a variable's address

  var_value : (w : List Item) (s : List Held) (at : Pos) (x : ℕ) (ty : _) (k : Bool) (t : low.State) (o : _) → address t.memory x 0 ≡ o → Fits p (state (Addr (c.Var at x ty k) ∷ w) s t.memory t.inputs)
      → ValueFollows over p n (state (Addr (c.Var at x ty k) ∷ w) s t.memory t.inputs) w s (Address x) (Normal t)
  var_value w s at x ty k t None e fits = absurd (fitting_states_step p plan runs.typed runs.planned (state (Addr (c.Var at x ty k) ∷ w) s t.memory t.inputs) fits (rw e refl))
  var_value w s at x ty k t (Some v) e fits = as_it_is over p plan n _ w s (Address x) t v e (one p _ _ (rw e refl))

  -- ---- operators with one operand

  op_sims : (d : ℕ) (at : Pos) (op : TUnaryOp) (x : TExprTree) → UnaryRow op (given_type x) → IsScalar (given_type x) → S x (lower_expr p d x) → S (c.Unary at op x) (lower_expr p d (c.Unary at op x))
  op_sims d at unaries.Not x row sc m = chosen.not_sims over p plan runs n f b d at x (lower_expr p d x) sc m
  op_sims d at (unaries.Plus t) x row sc m =
      let o = (lower_expr p d (c.Unary at (unaries.Plus t) x)).value in
      simple.plain_sims over p plan runs n f b (c.Unary at (unaries.Plus t) x) (Some (scalars.Int t)) o
      (λ w s l room fits. from_value over p plan n _ w s (scalars.Int t) (Of (scalars.Int t)) o.value (run o.before l) refl (simple.unary_value over p plan runs n f b d at (unaries.Plus t) x (lower_expr p d x).value w s l sc room fits m.value))
      (λ k. refl) (λ st. st)
  op_sims d at (unaries.Minus t) x row sc m =
      let o = (lower_expr p d (c.Unary at (unaries.Minus t) x)).value in
      simple.plain_sims over p plan runs n f b (c.Unary at (unaries.Minus t) x) (Some (scalars.Int t)) o
      (λ w s l room fits. from_value over p plan n _ w s (scalars.Int t) (Of (scalars.Int t)) o.value (run o.before l) refl (simple.unary_value over p plan runs n f b d at (unaries.Minus t) x (lower_expr p d x).value w s l sc room fits m.value))
      (λ k. refl) (λ st. st)
  op_sims d at (unaries.Complement t) x row sc m =
      let o = (lower_expr p d (c.Unary at (unaries.Complement t) x)).value in
      simple.plain_sims over p plan runs n f b (c.Unary at (unaries.Complement t) x) (Some (scalars.Int t)) o
      (λ w s l room fits. from_value over p plan n _ w s (scalars.Int t) (Of (scalars.Int t)) o.value (run o.before l) refl (simple.unary_value over p plan runs n f b d at (unaries.Complement t) x (lower_expr p d x).value w s l sc room fits m.value))
      (λ k. refl) (λ st. st)

  -- ---- a call from its arguments

  call_before : (d : ℕ) (at : Pos) (g : ℕ) (o : Option Scalar) (z : Bool) (args : Args) (l : low.State) → run (of_call d at g o z args).before l ≡ then_do (run args.before l) (λ t. run (call_tail d at g o z args.values) t)
  call_before d at g None z args l = refl
  call_before d at g (Some ty) true args l = refl
  call_before d at g (Some ty) false args l = refl

  call_gives : (d : ℕ) (at : Pos) (g : ℕ) (o : Option Scalar) (z : Bool) (args : Args) → (of_call d at g o z args).value ≡ call_value d o
  call_gives d at g None z args = refl
  call_gives d at g (Some ty) true args = refl
  call_gives d at g (Some ty) false args = refl

  call_room : (d : ℕ) (at : Pos) (g : ℕ) (o : Option Scalar) (z : Bool) (args : Args) (l : low.State) → Room (of_call d at g o z args).top l → d ≤ args.top → (Room args.top l) × (Room (call_rows d o z) l)
  call_room d at g None z args l room le = (room, omega (arith, le, room))
  call_room d at g (Some ty) true args l room le =
      let x = le-max_left (suc d) args.top in let y = le-max_right (suc d) args.top in (omega (arith, y, room), omega (arith, x, room))
  call_room d at g (Some ty) false args l room le =
      let x = le-max_left (suc (suc d)) args.top in let y = le-max_right (suc (suc d)) args.top in (omega (arith, y, room), omega (arith, x, room))

  -- ---- forms whose uses differ

  -- a test of a value, and a source of its own
  with_sources : (e : TExprTree) (o : Option Scalar) (a : Lowered) (src : ℕ → ℕ → Lowered) → VS e a → (IsScalar (given_type e) → o ≡ value_scalar e)
      → ((size align : ℕ) (item : Item) (w : List Item) (s : List Held) (l : low.State) → IsStruct (given_type e) → ReadsFirst over p plan n size align item w s
      → chain_of (item ∷ w) ≡ calls_in w → calls_in (item ∷ w) ≡ calls_in w → Room (src size align).top l → Fits p (state (Eval e ∷ item ∷ w) s l.memory l.inputs)
      → Follows over p n (state (Eval e ∷ item ∷ w) s l.memory l.inputs) (calls_in w) (SourceGoal over p plan n size align (src size align).value item w s) no_way (run (src size align).before l))
      → S e (record (plain o a) { source = src })
  with_sources e o a src value same source = record {
    value = value;
    unless = λ at k item w s so not_so l sc test chain room fits.
        unless_follows over p plan n runs.typed runs.planned (state (Eval e ∷ item ∷ w) s l.memory l.inputs) item w s at o a l so not_so k
        (subst (λ z. IsTest p at z item w s so not_so) (sym (same sc)) test) chain fits
        (simple.scalar_value over p plan runs n f b e a (state (Eval e ∷ item ∷ w) s l.memory l.inputs) (item ∷ w) s (run a.before l) sc (value (item ∷ w) s l room fits));
    when = λ at k item w s so not_so l sc test chain room fits.
        when_follows over p plan n runs.typed runs.planned (state (Eval e ∷ item ∷ w) s l.memory l.inputs) item w s at o a l so not_so k
        (subst (λ z. IsTest p at z item w s so not_so) (sym (same sc)) test) chain
        (simple.scalar_value over p plan runs n f b e a (state (Eval e ∷ item ∷ w) s l.memory l.inputs) (item ∷ w) s (run a.before l) sc (value (item ∷ w) s l room fits));
    source = source;
  }

  cond_value : (d : ℕ) (at : Pos) (ty : CTypeTree) (t x y : TExprTree) (lt : Forms) (la lb : Lowered) → IsScalar (given_type t) → S t lt → want_of (given_type x) ≡ want_of ty → want_of (given_type y) ≡ want_of ty
      → VS x la → VS y lb → VS (c.Cond at ty t x y) (of_cond d (held_scalar ty) (lt.unless at 0) lt.value.top la lb)
  cond_value d at types.Void t x y lt la lb st mt ex ey ma mb w s l room fits = chosen.cond_none over p plan runs n f b d at types.Void t x y lt st mt la lb w s l room fits ma mb
  cond_value d at (types.Int k) t x y lt la lb st mt ex ey ma mb w s l room fits = chosen.cond_some over p plan runs n f b d at (types.Int k) t x y lt st mt (scalars.Int k) (Of (scalars.Int k)) la lb w s l tt ex ey room fits ma mb
  cond_value d at (types.Pointer to k) t x y lt la lb st mt ex ey ma mb w s l room fits = chosen.cond_some over p plan runs n f b d at (types.Pointer to k) t x y lt st mt scalars.Pointer (Of scalars.Pointer) la lb w s l tt ex ey room fits ma mb
  cond_value d at (types.Array of k m) t x y lt la lb st mt ex ey ma mb w s l room fits = chosen.cond_none over p plan runs n f b d at (types.Array of k m) t x y lt st mt la lb w s l room fits ma mb
  cond_value d at (types.Struct m) t x y lt la lb st mt ex ey ma mb w s l room fits = chosen.cond_some over p plan runs n f b d at (types.Struct m) t x y lt st mt scalars.Pointer OfStruct la lb w s l tt ex ey room fits ma mb
  cond_value d at (types.Function m) t x y lt la lb st mt ex ey ma mb w s l room fits = chosen.cond_none over p plan runs n f b d at (types.Function m) t x y lt st mt la lb w s l room fits ma mb

  held_test : (ty : CTypeTree) → IsScalar ty → held_scalar ty ≡ scalar_of ty
  held_test types.Void sc = absurd sc
  held_test (types.Int k) sc = refl
  held_test (types.Pointer to k) sc = refl
  held_test (types.Array of k m) sc = absurd sc
  held_test (types.Struct m) sc = absurd sc
  held_test (types.Function m) sc = absurd sc

  cond_sims : (d : ℕ) (at : Pos) (ty : CTypeTree) (t x y : TExprTree) → IsScalar (given_type t) → SameType (given_type x) ty → SameType (given_type y) ty → S t (lower_expr p d t) → S x (lower_expr p d x) → S y (lower_expr p d y)
      → S (c.Cond at ty t x y) (lower_expr p d (c.Cond at ty t x y))
  cond_sims d at ty t x y st sx sy mt mx my =
      let lt = lower_expr p d t in
      let la = lower_expr p d x in
      let lb = lower_expr p d y in
      with_sources (c.Cond at ty t x y) (held_scalar ty) (of_cond d (held_scalar ty) (lt.unless at 0) lt.value.top la.value lb.value)
      (λ size align. of_cond d (Some scalars.Pointer) (lt.unless at 0) lt.value.top (la.source size align) (lb.source size align))
      (cond_value d at ty t x y lt la.value lb.value st mt (same_want (given_type x) ty sx) (same_want (given_type y) ty sy) mx.value my.value) (λ sc. held_test ty sc)
      (λ size align item w s l is reads chain same room fits. chosen.cond_source over p plan runs n f b d at ty t x y lt st mt size align la lb item w s l is sx sy reads chain same room fits mx my)

  comma_sims : (d : ℕ) (at : Pos) (x y : TExprTree) → VS x (lower_expr p d x).value → S y (lower_expr p d y) → S (c.Comma at x y) (lower_expr p d (c.Comma at x y))
  comma_sims d at x y mx my =
      let la = (lower_expr p d x).value in
      let lb = lower_expr p d y in
      with_sources (c.Comma at x y) (scalar_of (texpr_type y)) (behind la lb.value) (λ size align. behind la (lb.source size align))
      (λ w s l room fits.
      let z = le-max_left la.top lb.value.top in
      let k = le-max_right la.top lb.value.top in
      chosen.dropped over p plan runs n f b at x y la w s l (λ t. run lb.value.before t) (calls_in w) (HeldGoal (want_of (given_type y)) lb.value.value w s) refl (omega (arith, z, room)) fits mx
      (λ t is g. my.value w s t (let j = simple.room_kept over p plan runs n f b la.before l t (max la.top lb.value.top) is room in omega (arith, k, j)) g))
      (λ sc. refl)
      (λ size align item w s l is reads chain same room fits.
      let z = le-max_left la.top (lb.source size align).top in
      let k = le-max_right la.top (lb.source size align).top in
      chosen.dropped over p plan runs n f b at x y la (item ∷ w) s l (λ t. run (lb.source size align).before t) (calls_in w) (SourceGoal over p plan n size align (lb.source size align).value item w s) same (omega (arith, z, room)) fits mx
      (λ t done g. my.source size align item w s t is reads chain same (let j = simple.room_kept over p plan runs n f b la.before l t (max la.top (lb.source size align).top) done room in omega (arith, k, j)) g))

  decayed_scalar : (ty : CTypeTree) (z : Bool) → IsArray ty → Some scalars.Pointer ≡ scalar_of (parts.decayed ty z)
  decayed_scalar types.Void z h = absurd h
  decayed_scalar (types.Int k) z h = absurd h
  decayed_scalar (types.Pointer to k) z h = absurd h
  decayed_scalar (types.Array of k m) z h = refl
  decayed_scalar (types.Struct m) z h = absurd h
  decayed_scalar (types.Function m) z h = absurd h

  -- ---- the row of a call

  row_scalars : (args : TExprTrees) (ty : CTypeTree) (o : Option TFunctionTree) → IsSomeAnd o (λ g. CallRow p g ty (types_of args)) → ScalarArgs args
  row_scalars args ty None h = absurd h
  row_scalars args ty (Some g) h = args_scalar args _ h.1

  call_struct : (ty : CTypeTree) (used : Bool) (g : ℕ) (tys : List CTypeTree) (o : Option TFunctionTree) → slice_get p.functions g ≡ o → IsSomeAnd o (λ x. CallRow p x ty tys) → IsStruct (if used then ty else types.Void) → ⊥
  call_struct ty false g tys o e h st = st
  call_struct ty true g tys None e h st = h
  call_struct ty true g tys (Some x) e h st = result_struct x.result (all_at (IsTypedFunction p) p.functions g x runs.typed.functions e).result (subst IsStruct h.0 st) where
    result_struct : (r : CTypeTree) → IsScalar r ⊎ (r ≡ types.Void) → IsStruct r → ⊥
    result_struct r (inl sc) st = scalar_no_struct r sc st
    result_struct r (inr v) st = subst IsStruct v st

  valued_count : (es : List CsExprTree) (vs : List Value) (t : low.State) → Valued es vs t → length es ≡ length vs
  valued_count [] [] t h = refl
  valued_count (e ∷ es) (v ∷ vs) t h = ap suc (valued_count es vs t h.1)
  valued_count [] (v ∷ vs) t h = absurd h
  valued_count (e ∷ es) [] t h = absurd h

  values_count : (args : TExprTrees) (d : ℕ) → length (lower_args p d args).values ≡ length (types_of args)
  unfolding types_of
  values_count c.none d = refl
  values_count (c.more e rest) d = ap suc (values_count rest (lower_expr p d e).value.next)

  module _ (calls : CallsFollow) where
    sized : AreSized p
    sized = are_sized p runs.typed

    call_sim : (d : ℕ) (at : Pos) (g : ℕ) (ty : CTypeTree) (used : Bool) (args : TExprTrees) → IsSomeAnd (slice_get p.functions g) (λ function. CallRow p function ty (types_of args)) → Called p f g
        → simple.lo over p plan runs n f b ≤ d → d ≤ (lower_args p d args).top
        → ((w : List Item) (s : List Held) (l : low.State) → Room (lower_args p d args).top l → Fits p (state (evals args w) s l.memory l.inputs)
        → Follows over p n (state (evals args w) s l.memory l.inputs) (calls_in w) (ArgsGoal (lower_args p d args).values w s) no_way (run (lower_args p d args).before l))
        → VS (c.Call at g ty used args) (lower_expr p d (c.Call at g ty used args)).value
    call_sim d at g ty used args there called le high argsim w s l room fits =
        let all = lower_args p d args in
        let o = wanted used ty in
        let z = is_main p g in
        let enter = Enter (Some at) g (at_end p g ty used) in
        let s1 = state (evals args (enter ∷ w)) s l.memory l.inputs in
        let want = want_of (if used then ty else types.Void) in
        let rooms = call_room d at g o z all l room high in
        simple.apart over p plan runs n f b _ s1 (calls_in w) (HeldGoal want (of_call d at g o z all).value w s) (run (of_call d at g o z all).before l) refl fits
        (λ fit. subst (λ e. HeldFollows over p n s1 w s want e (run (of_call d at g o z all).before l)) (sym (call_gives d at g o z all))
        (subst (λ r. HeldFollows over p n s1 w s want (call_value d o) r) (sym (call_before d at g o z all l))
        (follows_then over p n s1 (calls_in w) (ArgsGoal all.values (enter ∷ w) s) (HeldGoal want (call_value d o) w s) no_way no_way (run all.before l) _ (argsim (enter ∷ w) s l rooms.0 fit)
        (λ t u is leads k.
        let inner = subst (λ x. Fits p x) k.2 (fits_leads p (kept over p plan n runs.typed runs.planned) s1 u leads fit) in
        subst (λ x. HeldFollows over p n x w s want (call_value d o) (run (call_tail d at g o z all.values) t)) (sym k.2)
        (calls d at g ty used (types_of args) all.values k.0 w s t called there (sym (valued_count all.values k.0 t k.1) ∙ values_count args d) k.1 (reads_args p args d) le
        (simple.room_kept over p plan runs n f b all.before l t (call_rows d o z) is rooms.1) inner)) (λ k t x. absurd x))))

    mutual
      unfolding IsTypedExpr calls_of types_of

      pub sim_expr : (e : TExprTree) (live : List ℕ) (mark : Bool) (d : ℕ) → IsTypedExpr (scope_of live) mark e → Low (calls_of e) → simple.lo over p plan runs n f b ≤ d → S e (lower_expr p d e)
      sim_expr (c.Const at t k) live mark d h may le =
          simple.plain_sims over p plan runs n f b (c.Const at t k) (Some (scalars.Int t)) (lowered code.Nothing (Const t k) d d)
          (λ w s l room fits. from_value over p plan n _ w s (scalars.Int t) (Of (scalars.Int t)) (Const t k) (Normal l) refl (as_it_is over p plan n _ w s (Const t k) l (values.Int t k) refl (one p _ _ refl))) (λ sc. refl) (λ st. st)
      sim_expr (c.Null at ty) live mark d (tp, pr) may le =
          simple.plain_sims over p plan runs n f b (c.Null at ty) (Some scalars.Pointer) (lowered code.Nothing Null d d)
          (λ w s l room fits. from_value over p plan n _ w s scalars.Pointer (want_of ty) Null (Normal l) (want_is ty scalars.Pointer (pointer_is ty tp)) (as_it_is over p plan n _ w s Null l values.Null refl (one p _ _ refl)))
          (λ sc. sym (pointer_is ty tp)) (λ st. no_struct_scalar ty scalars.Pointer (pointer_is ty tp) st)
      sim_expr (c.Load at x) live mark d (tx, sc) may le =
          let k = scalar_is (tlvalue_type x) sc in
          let o = (lower_expr p d (c.Load at x)).value in
          simple.plain_sims over p plan runs n f b (c.Load at x) (scalar_of (tlvalue_type x)) o
          (λ w s l room fits. from_value over p plan n _ w s k.0 (want_of (tlvalue_type x)) o.value (run o.before l) (want_is (tlvalue_type x) k.0 k.1)
          (simple.apart over p plan runs n f b _ (state (Addr x ∷ LoadAt (tlvalue_pos x) (scalar_of (tlvalue_type x)) ∷ w) s l.memory l.inputs) (calls_in w) (ValueGoal o.value w s) (run o.before l) refl fits
          (λ g. simple.loaded over p plan runs n f b d (tlvalue_pos x) x (scalar_of (tlvalue_type x)) (lower_place p d x) w s l (some_scalar (tlvalue_type x) k.0 k.1) room g (sim_place x live d tx may le))))
          (λ z. refl) (λ st. scalar_no_struct (tlvalue_type x) sc st)
      sim_expr (c.AddressOf at x) live mark d tx may le =
          let o = lower_place p d x in
          simple.plain_sims over p plan runs n f b (c.AddressOf at x) (Some scalars.Pointer) o
          (λ w s l room fits. from_value over p plan n _ w s scalars.Pointer (Of scalars.Pointer) o.value (run o.before l) refl
          (simple.apart over p plan runs n f b _ (state (Addr x ∷ w) s l.memory l.inputs) (calls_in w) (ValueGoal o.value w s) (run o.before l) refl fits (λ g. sim_place x live d tx may le w s l room g)))
          (λ z. refl) (λ st. st)
      sim_expr (c.Decay at x) live mark d (tx, ar) may le =
          let o = lower_place p d x in
          simple.plain_sims over p plan runs n f b (c.Decay at x) (Some scalars.Pointer) o
          (λ w s l room fits. from_value over p plan n _ w s scalars.Pointer (want_of (given_type (c.Decay at x))) o.value (run o.before l) (decays (tlvalue_type x) (tlvalue_is_const x) ar)
          (simple.apart over p plan runs n f b _ (state (Addr x ∷ w) s l.memory l.inputs) (calls_in w) (ValueGoal o.value w s) (run o.before l) refl fits (λ g. sim_place x live d tx may le w s l room g)))
          (λ z. decayed_scalar (tlvalue_type x) (tlvalue_is_const x) ar) (λ st. no_struct_scalar (given_type (c.Decay at x)) scalars.Pointer (sym (decayed_scalar (tlvalue_type x) (tlvalue_is_const x) ar)) st)
      sim_expr (c.Whole at x) live mark d (tx, st) may le =
          let o = lower_place p d x in
          chosen.struct_sims over p plan runs n f b (c.Whole at x) (tlvalue_pos x) o st
          (λ w s l room fits. let goal = chosen.StructGoal over p plan runs n f b (tlvalue_pos x) o.value w s in let s1 = state (Addr x ∷ Named (tlvalue_pos x) ∷ w) s l.memory l.inputs in
          simple.apart over p plan runs n f b _ s1 (calls_in w) goal (run o.before l) refl fits
          (λ g. follows_map over p n s1 (calls_in w) (ValueGoal o.value (Named (tlvalue_pos x) ∷ w) s) goal no_way no_way (run o.before l) (sim_place x live d tx may le (Named (tlvalue_pos x) ∷ w) s l room g)
          (λ t u leads k. (state w (Struct (tlvalue_pos x) k.0 ∷ s) t.memory t.inputs, one p u _ (subst (λ z. Rattle.c_steps.specs.Steps.step p z ≡ goes w (Struct (tlvalue_pos x) k.0 ∷ s) t.memory t.inputs) (sym k.2) refl), (k.0, k.1, refl)))
          (λ k t z. z)))
      sim_expr (c.Unary at op a) live mark d (ta, row) may le = let u = unary_row op (given_type a) row in op_sims d at op a row (scalar_from (given_type a) u.a u.is) (sim_expr a live true d ta may le)
      sim_expr (c.Binary at op x y) live mark d (tx, ty, row) may le =
          let good : CTypeTree → Type 0 = λ ty. (k : ℕ) → PointsToSize p.structs ty k → IsElement k in
          let r = binary_row p.structs good (λ ty k g e. g k e) op (given_type x) (given_type y) (sized.values (scope_of live) true x refl tx) (sized.values (scope_of live) true y refl ty) row in
          let la = (lower_expr p d x).value in
          let lb = (lower_expr p la.next y).value in
          let o = (lower_expr p d (c.Binary at op x y)).value in
          let up = (reads_expr p x d).value.next in
          let gives = Rattle.lower_formed.proofs.Exprs.binary_is op (given_type x) (given_type y) (texpr_type x) (texpr_type y) (binary_type op) (given.wanted (scope_of live) x tx) (given.wanted (scope_of live) y ty) r.gives in
          simple.plain_sims over p plan runs n f b (c.Binary at op x y) (Some (binary_type op)) o
          (λ w s l room fits. from_value over p plan n _ w s (binary_type op) (want_of (given_type (c.Binary at op x y))) o.value (run o.before l) (want_is (given_type (c.Binary at op x y)) (binary_type op) gives)
          (simple.binary_value over p plan runs n f b d at (is_kept op x y) op x y la lb w s l (scalar_from (given_type x) r.a r.is_left) (scalar_from (given_type y) r.b r.is_right) le
          (quiet_expr (Called p f) p x d (left (calls_of x) (calls_of y) may)).value (quiet_expr (Called p f) p y la.next (right (calls_of x) (calls_of y) may)).value (reads_expr p x d).value.value room fits
          (sim_expr x live true d tx (left (calls_of x) (calls_of y) may) le).value (sim_expr y live true la.next ty (right (calls_of x) (calls_of y) may) (omega (arith, le, up))).value))
          (λ z. sym gives) (λ st. no_struct_scalar (given_type (c.Binary at op x y)) (binary_type op) gives st)
      sim_expr (c.Convert at types.Void x) live mark d (tx, pr, row) may le =
          simple.plain_sims over p plan runs n f b (c.Convert at types.Void x) None (of_convert None (lower_expr p d x).value)
          (λ w s l room fits. composed.void_value over p plan runs n f b at types.Void x (lower_expr p d x).value w s l refl room fits (sim_expr x live false d tx may le).value) (λ z. refl) (λ st. st)
      sim_expr (c.Convert at (types.Int t) x) live mark d (tx, pr, row) may le =
          let k = integer_is (given_type x) row in
          let o = of_convert (Some (scalars.Int t)) (lower_expr p d x).value in
          simple.plain_sims over p plan runs n f b (c.Convert at (types.Int t) x) (Some (scalars.Int t)) o
          (λ w s l room fits. from_value over p plan n _ w s (scalars.Int t) (Of (scalars.Int t)) o.value (run o.before l) refl
          (composed.converted_value over p plan runs n f b at (types.Int t) (scalars.Int t) x (lower_expr p d x).value w s l refl (scalar_from (given_type x) (scalars.Int k.0) k.1) room fits (sim_expr x live true d tx may le).value)) (λ z. refl) (λ st. st)
      sim_expr (c.Convert at (types.Pointer to q) x) live mark d (tx, pr, row) may le =
          let o = of_convert (Some scalars.Pointer) (lower_expr p d x).value in
          simple.plain_sims over p plan runs n f b (c.Convert at (types.Pointer to q) x) (Some scalars.Pointer) o
          (λ w s l room fits. from_value over p plan n _ w s scalars.Pointer (Of scalars.Pointer) o.value (run o.before l) refl
          (composed.converted_value over p plan runs n f b at (types.Pointer to q) scalars.Pointer x (lower_expr p d x).value w s l refl (scalar_from (given_type x) scalars.Pointer (pointer_is (given_type x) row)) room fits
          (sim_expr x live true d tx may le).value)) (λ z. refl) (λ st. st)
      sim_expr (c.Convert at (types.Array u q m) x) live mark d (tx, pr, row) may le = absurd row
      sim_expr (c.Convert at (types.Struct q) x) live mark d (tx, pr, row) may le = absurd row
      sim_expr (c.Convert at (types.Function q) x) live mark d (tx, pr, row) may le = absurd row
      sim_expr (c.Assign at x a) live mark d (tx, ta, md, row) may le =
          let k = store_row (tlvalue_type x) (given_type a) row in
          let la = lower_place p d x in
          let lb = (lower_expr p la.next a).value in
          let o = (lower_expr p d (c.Assign at x a)).value in
          let up = (reads_place p x d).next in
          simple.plain_sims over p plan runs n f b (c.Assign at x a) (scalar_of (tlvalue_type x)) o
          (λ w s l room fits. from_value over p plan n _ w s k.0 (want_of (tlvalue_type x)) o.value (run o.before l) (want_is (tlvalue_type x) k.0 k.1)
          (simple.apart over p plan runs n f b _ (state (Addr x ∷ Eval a ∷ StoreAt (tlvalue_pos x) (scalar_of (tlvalue_type x)) ∷ w) s l.memory l.inputs) (calls_in w) (ValueGoal o.value w s) (run o.before l) refl fits
          (λ g. simple.stored over p plan runs n f b d (tlvalue_pos x) x a (scalar_of (tlvalue_type x)) la lb w s l (some_scalar (tlvalue_type x) k.0 k.1) (scalar_from (given_type a) k.0 k.2) le
          (quiet_place (Called p f) p x d (left (calls_at x) (calls_of a) may)) (quiet_expr (Called p f) p a la.next (right (calls_at x) (calls_of a) may)).value (reads_place p x d).value room g
          (sim_place x live d tx (left (calls_at x) (calls_of a) may) le) (sim_expr a live true la.next ta (right (calls_at x) (calls_of a) may) (omega (arith, le, up))).value)))
          (λ z. refl) (λ st. no_struct_scalar (tlvalue_type x) k.0 k.1 st)
      sim_expr (c.AssignStruct at extent x a) live mark d (tx, ta, md, row) may le =
          let la = lower_place p d x in
          let lb = (lower_expr p la.next a).source extent.size extent.align in
          let o = of_assign_struct (tlvalue_pos x) extent.size extent.align la lb in
          let up = (reads_place p x d).next in
          let inner = sim_expr a live true la.next ta (right (calls_at x) (calls_of a) may) (omega (arith, le, up)) in
          chosen.struct_sims over p plan runs n f b (c.AssignStruct at extent x a) (tlvalue_pos x) o (Rattle.lower_formed.proofs.Exprs.struct_is (tlvalue_type x) row.number row.target_struct)
          (λ w s l room fits. let s1 = state (Addr x ∷ Eval a ∷ CopyAt (tlvalue_pos x) extent ∷ w) s l.memory l.inputs in
          simple.apart over p plan runs n f b _ s1 (calls_in w) (chosen.StructGoal over p plan runs n f b (tlvalue_pos x) o.value w s) (run o.before l) refl fits
          (λ g. composed.struct_value over p plan runs n f b d (tlvalue_pos x) extent x a la lb w s l le (quiet_place (Called p f) p x d (left (calls_at x) (calls_of a) may))
          ((quiet_expr (Called p f) p a la.next (right (calls_at x) (calls_of a) may)).source extent.size extent.align) (reads_place p x d).value room g (sim_place x live d tx (left (calls_at x) (calls_of a) may) le)
          (λ t v big h. inner.source extent.size extent.align (CopyAt (tlvalue_pos x) extent) w (held v ∷ s) t (Rattle.lower_formed.proofs.Exprs.struct_is (given_type a) row.number row.source_struct)
          (Rattle.lower_rows.proofs.Copies.copy_reads over p plan n runs.typed runs.planned (tlvalue_pos x) extent w s v) refl refl big h)))
      sim_expr (c.Compound at op x a) live mark d (tx, ta, md, row) may le =
          let good : CTypeTree → Type 0 = λ ty. (k : ℕ) → PointsToSize p.structs ty k → IsElement k in
          let r = compound_row p.structs good (λ ty k g e. g k e) op (tlvalue_type x) (given_type a) (sized.places (scope_of live) x refl tx) row in
          let la = lower_place p d x in
          let lb = (lower_expr p la.next a).value in
          let o = (lower_expr p d (c.Compound at op x a)).value in
          let up = (reads_place p x d).next in
          simple.plain_sims over p plan runs n f b (c.Compound at op x a) (scalar_of (tlvalue_type x)) o
          (λ w s l room fits. from_value over p plan n _ w s r.place (want_of (tlvalue_type x)) o.value (run o.before l) (want_is (tlvalue_type x) r.place r.is_place)
          (simple.apart over p plan runs n f b _ (state (Addr x ∷ Eval a ∷ Modify at (tlvalue_pos x) (scalar_of (tlvalue_type x)) op ∷ w) s l.memory l.inputs) (calls_in w) (ValueGoal o.value w s) (run o.before l) refl fits
          (λ g. composed.compounded over p plan runs n f b d at (tlvalue_pos x) x a op (scalar_of (tlvalue_type x)) la lb w s l (some_scalar (tlvalue_type x) r.place r.is_place) (scalar_from (given_type a) r.right r.is_value) le
          (quiet_place (Called p f) p x d (left (calls_at x) (calls_of a) may)) (quiet_expr (Called p f) p a la.next (right (calls_at x) (calls_of a) may)).value (reads_place p x d).value room g
          (sim_place x live d tx (left (calls_at x) (calls_of a) may) le) (sim_expr a live true la.next ta (right (calls_at x) (calls_of a) may) (omega (arith, le, up))).value)))
          (λ z. refl) (λ st. no_struct_scalar (tlvalue_type x) r.place r.is_place st)
      sim_expr (c.Step at time way stride x) live mark d (tx, md, row) may le =
          let good : CTypeTree → Type 0 = λ ty. (k : ℕ) → PointsToSize p.structs ty k → IsElement k in
          let r = step_row p.structs good (λ ty k g e. g k e) way stride (tlvalue_type x) (sized.places (scope_of live) x refl tx) row in
          let la = lower_place p d x in
          let o = (lower_expr p d (c.Step at time way stride x)).value in
          simple.plain_sims over p plan runs n f b (c.Step at time way stride x) (scalar_of (tlvalue_type x)) o
          (λ w s l room fits. from_value over p plan n _ w s r.place (want_of (tlvalue_type x)) o.value (run o.before l) (want_is (tlvalue_type x) r.place r.is_place)
          (simple.apart over p plan runs n f b _ (state (Addr x ∷ StepAt at (tlvalue_pos x) (scalar_of (tlvalue_type x)) time way stride ∷ w) s l.memory l.inputs) (calls_in w) (ValueGoal o.value w s) (run o.before l) refl fits
          (λ g. composed.stepped over p plan runs n f b d at (tlvalue_pos x) x time way stride (scalar_of (tlvalue_type x)) la w s l (some_scalar (tlvalue_type x) r.place r.is_place) (quiet_place (Called p f) p x d may) room g (sim_place x live d tx may le))))
          (λ z. refl) (λ st. no_struct_scalar (tlvalue_type x) r.place r.is_place st)
      sim_expr (c.And at x y) live mark d (tx, ty, row) may le =
          composed.and_sims over p plan runs n f b at x y (lower_expr p d x) (lower_expr p d y) row.0 row.1 (sim_expr x live true d tx (left (calls_of x) (calls_of y) may) le) (sim_expr y live true d ty (right (calls_of x) (calls_of y) may) le) d
      sim_expr (c.Or at x y) live mark d (tx, ty, row) may le =
          composed.or_sims over p plan runs n f b at x y (lower_expr p d x) (lower_expr p d y) row.0 row.1 (sim_expr x live true d tx (left (calls_of x) (calls_of y) may) le) (sim_expr y live true d ty (right (calls_of x) (calls_of y) may) le) d
      sim_expr (c.Cond at ty t x y) live mark d (tt', tx, ty', pr, row) may le =
          let front = left (calls_of t ++ calls_of x) (calls_of y) may in
          cond_sims d at ty t x y row.condition_scalar row.first_type row.second_type (sim_expr t live true d tt' (left (calls_of t) (calls_of x) front) le)
          (sim_expr x live true d tx (right (calls_of t) (calls_of x) front) le) (sim_expr y live true d ty' (right (calls_of t ++ calls_of x) (calls_of y) may) le)
      sim_expr (c.Comma at x y) live mark d (tx, ty) may le =
          comma_sims d at x y (sim_expr x live false d tx (left (calls_of x) (calls_of y) may) le).value (sim_expr y live true d ty (right (calls_of x) (calls_of y) may) le)
      sim_expr (c.Call at g ty used args) live mark d (same, ta, there) may le =
          let all = lower_args p d args in
          let this : PlacedCall = record { pos = at; callee = g } in
          let o = (lower_expr p d (c.Call at g ty used args)).value in
          let qa = quiet_args (Called p f) p args d (left (calls_among args) (this ∷ []) may) in
          simple.plain_sims over p plan runs n f b (c.Call at g ty used args) (scalar_of ty) o
          (λ w s l room fits. call_sim d at g ty used args there (may this (Contains-append_right (calls_among args) (this ∷ []) this (0, omega arith, refl))) le (let x = qa.next in let y = qa.top in omega (arith, x, y))
          (sim_args args live d ta (left (calls_among args) (this ∷ []) may) le (row_scalars args ty (slice_get p.functions g) there)) w s l room fits)
          (λ z. refl) (λ st. call_struct ty used g (types_of args) (slice_get p.functions g) refl there st)
      sim_expr (c.Any at t) live mark d h may le =
          let o = of_input d t in
          simple.plain_sims over p plan runs n f b (c.Any at t) (Some (scalars.Int t)) o
          (λ w s l room fits. from_value over p plan n _ w s (scalars.Int t) (Of (scalars.Int t)) o.value (run o.before l) refl (chosen.input_value over p plan runs n f b d at t w s l room)) (λ z. refl) (λ st. st)
      sim_expr (c.Assume at x) live mark d (tx, sc) may le =
          simple.plain_sims over p plan runs n f b (c.Assume at x) None (of_assume d at (lower_expr p d x)) (λ w s l room fits. chosen.assumed over p plan runs n f b at x (lower_expr p d x) w s l sc room fits (sim_expr x live true d tx may le)) (λ z. refl) (λ st. st)
      sim_expr (c.Assert at x) live mark d (tx, sc) may le =
          simple.plain_sims over p plan runs n f b (c.Assert at x) None (of_assert d at (value_scalar x) (lower_expr p d x).value)
          (λ w s l room fits. chosen.asserted over p plan runs n f b d at x (lower_expr p d x).value w s l sc room fits (sim_expr x live true d tx may le).value) (λ z. refl) (λ st. st)

      pub sim_place : (x : TLvalueTree) (live : List ℕ) (d : ℕ) → IsTypedPlace (scope_of live) x → Low (calls_at x) → simple.lo over p plan runs n f b ≤ d → simple.PlaceSim over p plan runs n f b x (lower_place p d x)
      sim_place (c.Var at x ty k) live d h may le w s l room fits = var_value w s at x ty k l (address l.memory x 0) refl fits
      sim_place (c.Deref at kind ty k e) live d (te, row) may le w s l room fits =
          let o = (lower_expr p d e).value in
          let s1 = state (Eval e ∷ w) s l.memory l.inputs in
          simple.apart over p plan runs n f b _ s1 (calls_in w) (ValueGoal o.value w s) (run o.before l) refl fits
          (λ g. simple.scalar_value over p plan runs n f b e o s1 w s (run o.before l) (scalar_from (given_type e) scalars.Pointer (ap scalar_of row.target)) ((sim_expr e live true d te may le).value w s l room g))
      sim_place (c.Member at k offset ty is_const x) live d (tx, row) may le w s l room fits =
          let a = lower_place p d x in
          let s1 = state (Addr x ∷ Move at offset ∷ w) s l.memory l.inputs in
          let goal = ValueGoal (lower_place p d (c.Member at k offset ty is_const x)).value w s in
          simple.apart over p plan runs n f b _ s1 (calls_in w) goal (run (lower_place p d (c.Member at k offset ty is_const x)).before l) refl fits
          (λ g. value_then over p plan n runs.typed runs.planned s1 (Move at offset ∷ w) s a.value (run a.before l) _ (calls_in w) goal g refl (sim_place x live d tx may le (Move at offset ∷ w) s l room g)
          (λ t is v e h. move_row over p plan n runs.typed runs.planned at offset w s a.value t v e h))

      pub sim_args : (args : TExprTrees) (live : List ℕ) (d : ℕ) → AreTyped (scope_of live) args → Low (calls_among args) → simple.lo over p plan runs n f b ≤ d → ScalarArgs args
          → (w : List Item) (s : List Held) (l : low.State) → Room (lower_args p d args).top l → Fits p (state (evals args w) s l.memory l.inputs)
          → Follows over p n (state (evals args w) s l.memory l.inputs) (calls_in w) (ArgsGoal (lower_args p d args).values w s) no_way (run (lower_args p d args).before l)
      sim_args c.none live d h may le sc w s l room fits = (state w s l.memory l.inputs, none p _, ([], tt, refl))
      sim_args (c.more e rest) live d (te, tr) may le (sc, scs) w s l room fits =
          let la = (lower_expr p d e).value in
          let more = lower_args p la.next rest in
          let up = (reads_expr p e d).value.next in
          let z = le-max_left la.top more.top in
          let y = le-max_right la.top more.top in
          let qe = (quiet_expr (Called p f) p e d (left (calls_of e) (calls_among rest) may)).value in
          let qr = quiet_args (Called p f) p rest la.next (right (calls_of e) (calls_among rest) may) in
          let goal = ArgsGoal (la.value ∷ more.values) w s in
          value_then over p plan n runs.typed runs.planned (state (Eval e ∷ evals rest w) s l.memory l.inputs) (evals rest w) s la.value (run la.before l) _ (calls_in w) goal fits (calls_evals rest w)
          (simple.scalar_value over p plan runs n f b e la _ (evals rest w) s (run la.before l) sc ((sim_expr e live true d te (left (calls_of e) (calls_among rest) may) le).value (evals rest w) s l (omega (arith, z, room)) fits))
          (λ t is v ev g.
          let inner = sim_args rest live la.next tr (right (calls_of e) (calls_among rest) may) (omega (arith, le, up)) scs w (held v ∷ s) t (let k = simple.room_kept over p plan runs n f b la.before l t (max la.top more.top) is room in omega (arith, y, k)) g in
          follows_map over p n _ (calls_in w) (λ r u. (run more.before t ≡ Normal r) × ArgsGoal more.values w (held v ∷ s) r u) goal no_way no_way (run more.before t)
          (follows_is _ (calls_in w) (ArgsGoal more.values w (held v ∷ s)) (run more.before t) inner)
          (λ r u leads k. (
            u,
            none p u,
            (
              v ∷ k.1.0,
              (values_stay over p plan runs n f b la.next more.top la.value more.before t r v qr.before (from_more (12 * simple.lo over p plan runs n f b) (12 * d) (omega (arith, le)) la.value (reads_expr p e d).value.value) qe.value k.0 ev, k.1.1),
              k.1.2,
            ),
          ))
          (λ k r z. z))
