-- The machine follows the code of declarations: the bytes lose their values, each item of the initialiser is put into the object, and what none names becomes 0.
use Rattle.std.proofs.Common.{◌≡◌, ℕ, ◌≤◌, List, [], ◌∷◌, Option, Some, None, Bool, true, false, refl, sym, ◌∙◌, subst, arith}
use Rattle.std.specs.Prelude.{All, Contains, option_and_then}
use Rattle.std.specs.List.{flat_map}
use Rattle.std.proofs.Math.Nat.{le-max_left, le-max_right}
use Rattle.std.proofs.lemmas.List.Elements.{All-head, All-tail, Contains-append_left, Contains-append_right}
use Rattle.c_syntax_written.specs.declared.place.Pos.{Pos}
use Rattle.c_syntax.specs.declared.operator.Extent.{Extent}
use Rattle.c_syntax.specs.declared.program.Plan.{Plan}
use Rattle.c_syntax.specs.Types as types
use Rattle.c_syntax.specs.Types.{CTypeTree}
use Rattle.c_syntax.specs.TypedExpr.{TExprTree}
use Rattle.c_syntax.specs.TypedStmt as c
use Rattle.c_syntax.specs.TypedStmt.{TInitTree}
use Rattle.c_syntax.specs.GivenType.{given_type}
use Rattle.c_syntax.specs.Program.{TProgramTree}
use Rattle.c_layout.specs.Calls.{PlacedCall, init_calls}
use Rattle.c_layout.specs.RowTypes.{IsScalar}
use Rattle.c_layout.specs.TypedNodes.{IsTypedInit, object_type}
use Rattle.block_mem.specs.declared.types.Scalar.{Scalar}
use Rattle.block_mem.specs.declared.types.Value.{Value}
use Rattle.c_values.specs.Accesses.{read_looks}
use Rattle.c_values.specs.Looks.{Passes, judge}
use Rattle.c_values.specs.Values.{scalar_of}
use Rattle.c_values.specs.Places.{ObjectMemory}
use Rattle.c_objects.specs.Opening.{address}
use Rattle.c_objects.specs.Writing.{copied_at}
use Rattle.c_steps.specs.Work.{Item, Eval, Do, Fill, FillCopy}
use Rattle.c_steps.specs.States.{Held, Struct, State, state, Next, goes, with_some}
use Rattle.c_steps.specs.Steps.{step}
use Rattle.c_steps.specs.Statements.{init_items, rest_items}
use Rattle.c_steps.specs.Runs.{calls_in}
use Rattle.c_steps_laws.specs.Fits.{Fits, Runs}
use Rattle.c_steps_laws.proofs.Rows.{store_row}
use Rattle.csharp.specs.Trees as code
use Rattle.csharp.specs.Trees.{CsExprTree, CsStmtTree, CsStmtTrees}
use Rattle.csharp.specs.States as low
use Rattle.csharp.specs.States.{value_of, on_both}
use Rattle.csharp.specs.Actions.{with_memory}
use Rattle.csharp.specs.Outcomes.{Way, Outcome, Normal, Leaves, at_scope, to_normal}
use Rattle.csharp.specs.Meaning.{Later, caught}
use Rattle.lower_trees.specs.Checking.{address_at}
use Rattle.lower_trees.specs.LowerExpr.{Lowered, lower_expr}
use Rattle.lower_trees.specs.LowerStmt.{init_code, inits_code, inits_top, rest_code}
use Rattle.lower_rows.proofs.Steps.{Follows, one, none, follows_then}
use Rattle.lower_rows.proofs.Rows.{RestGoal, no_way, SourceGoal, ReadsFirst, address_value}
use Rattle.lower_rows.proofs.Initials as initials
use Rattle.lower_rows.proofs.Initials.{all}
use Rattle.lower_rows.proofs.ZeroCells.{rest_follows}
use Rattle.lower_formed.proofs.Exprs.{struct_is}
use Rattle.lower_formed.proofs.Placing.{Bodied}
use Rattle.lower_quiet.proofs.Callees.{Called, base}
use Rattle.lower_exprs_run.proofs.Simple as simple
use Rattle.lower_exprs_run.proofs.Sims.{CallsFollow, scope_of, sim_expr}
use Rattle.lower_stmts_run.proofs.Items as items

pub scalar_from : (ty : CTypeTree) (s : Scalar) → scalar_of ty ≡ Some s → IsScalar ty
scalar_from (types.Int t) s e = tt
scalar_from (types.Pointer to k) s e = tt
scalar_from ty s e = absurd (cc)

init_chain : (x : ℕ) (inits : List TInitTree) (w : List Item) → calls_in (init_items x inits w) ≡ calls_in w
init_chain x [] w = refl
init_chain x (c.Store offset ty value ∷ inits) w = init_chain x inits w
init_chain x (c.Copy offset extent source ∷ inits) w = init_chain x inits w

module _ (over : ℕ → Bool) (p : TProgramTree) (plan : Plan) (runs : Runs p plan) (f : ℕ) (b : Bodied p f) (rows : ℕ) where
  abbrev Room : low.State → Type 0
  Room l = items.Room over p plan runs f b rows l

  abbrev run : ℕ → CsStmtTree → low.State → Outcome
  run n a l = items.run over p plan runs f b rows n a l

  abbrev own : ℕ
  own = base p plan runs f b

  abbrev pub Low : List PlacedCall → Type 0
  Low ks = (k : PlacedCall) → Contains ks k → Called p f k.callee

  -- ---- a struct that is put into an object

  fill_reads : (n x offset : ℕ) (extent : Extent) (w : List Item) (s : List Held) → ReadsFirst over p plan n extent.size extent.align (FillCopy x offset extent) w s
  fill_reads n x offset extent w s from v m i = (_, refl)

  fill_case : (n : ℕ) (s0 : State) (w : List Item) (s : List Held) (t : low.State) (o : Option ObjectMemory)
      → step p s0 ≡ with_some o (λ m. goes w s m t.inputs) → Follows over p n s0 (calls_in w) (RestGoal w s) no_way (to_normal (with_memory t o))
  fill_case n s0 w s t None e = (_, none p _, e)
  fill_case n s0 w s t (Some m) e = (_, one p _ _ e, refl)

  copies_same : (x offset size : ℕ) (e : CsExprTree) (t : low.State) (u : Value) → value_of e t ≡ Some u
      → on_both (address_at x offset) e t (λ v z. copied_at t.memory v z size) ≡ option_and_then (λ target. copied_at t.memory target u size) (address t.memory x offset)
  copies_same x offset size e t u is = rw (address_value x offset t) (rw is refl)

  fill_copy_row : (n x offset : ℕ) (extent : Extent) (w : List Item) (s : List Held) (from : Pos) (e : CsExprTree) (t : low.State) (u : Value)
      → judge p.objects (read_looks t.memory u extent.size extent.align) ≡ Passes → value_of e t ≡ Some u
      → Follows over p n (state (FillCopy x offset extent ∷ w) (Struct from u ∷ s) t.memory t.inputs) (calls_in w) (RestGoal w s) no_way (run n (code.CopyBytes extent.size (address_at x offset) e) t)
  fill_copy_row n x offset extent w s from e t u passes is =
      rw (copies_same x offset extent.size e t u is)
      (fill_case n (state (FillCopy x offset extent ∷ w) (Struct from u ∷ s) t.memory t.inputs) w s t (option_and_then (λ target. copied_at t.memory target u extent.size) (address t.memory x offset)) (rw passes refl))

  copied_item : (n x offset : ℕ) (extent : Extent) (e : TExprTree) (a : Lowered) (w : List Item) (s : List Held) (l : low.State)
      → Follows over p n (state (Eval e ∷ FillCopy x offset extent ∷ w) s l.memory l.inputs) (calls_in w) (SourceGoal over p plan n extent.size extent.align a.value (FillCopy x offset extent) w s) no_way (run n a.before l)
      → Follows over p n (state (Eval e ∷ FillCopy x offset extent ∷ w) s l.memory l.inputs) (calls_in w) (RestGoal w s) no_way
      (run n (code.Sequence a.before (code.CopyBytes extent.size (address_at x offset) a.value)) l)
  copied_item n x offset extent e a w s l h =
      follows_then over p n (state (Eval e ∷ FillCopy x offset extent ∷ w) s l.memory l.inputs) (calls_in w) (SourceGoal over p plan n extent.size extent.align a.value (FillCopy x offset extent) w s) (RestGoal w s)
      no_way no_way (run n a.before l) _ h
      (λ t u is leads k. subst (λ y. Follows over p n y (calls_in w) (RestGoal w s) no_way (run n (code.CopyBytes extent.size (address_at x offset) a.value) t)) (sym k.3)
      (fill_copy_row n x offset extent w s k.0 a.value t k.1 k.4 k.2)) (λ k t y. absurd y)

  -- ---- the items of an initialiser

  module _ (n : ℕ) (calls : CallsFollow over p plan runs n f b) where
    init_follows : (init : TInitTree) (live : List ℕ) (x : ℕ) → IsTypedInit (scope_of over p plan runs n f b live) (object_type p x) init → Low (init_calls init) → (init_code p own x init).top ≤ rows
        → (inits : List TInitTree) (w : List Item) (s : List Held) (l : low.State) → Room l → Fits p (state (init_items x (init ∷ inits) w) s l.memory l.inputs)
        → Follows over p n (state (init_items x (init ∷ inits) w) s l.memory l.inputs) (calls_in (init_items x inits w)) (RestGoal (init_items x inits w) s) no_way (run n (init_code p own x init).code l)
    init_follows (c.Store offset ty value) live x (tv, part, row) low top inits w s l room fits =
        let k = store_row ty (given_type value) row in
        let a = (lower_expr p own value).value in
        let next = init_items x inits w in
        let s0 = state (Eval value ∷ Fill x offset (scalar_of ty) ∷ next) s l.memory l.inputs in
        initials.stored_item over p plan n runs.typed runs.planned x offset value (scalar_of ty) a next s l (simple.some_scalar ty k.0 k.1) fits
        (simple.scalar_value over p plan runs n f b value a s0 (Fill x offset (scalar_of ty) ∷ next) s (run n a.before l) (scalar_from (given_type value) k.0 k.2)
        ((sim_expr over p plan runs n f b calls value live true own tv low (items.same_le own)).value (Fill x offset (scalar_of ty) ∷ next) s l (omega (arith, room, top)) fits))
    init_follows (c.Copy offset extent source) live x (ts, part, at, row) low top inits w s l room fits =
        let a = (lower_expr p own source).source extent.size extent.align in
        let next = init_items x inits w in
        copied_item n x offset extent source a next s l
        ((sim_expr over p plan runs n f b calls source live true own ts low (items.same_le own)).source extent.size extent.align (FillCopy x offset extent) next s l (struct_is (given_type source) row.number row.source_struct)
        (fill_reads n x offset extent next s) refl refl (omega (arith, room, top)) fits)

    inits_follow : (inits : List TInitTree) (live : List ℕ) (x : ℕ) → All (λ init. IsTypedInit (scope_of over p plan runs n f b live) (object_type p x) init) inits → Low (flat_map init_calls inits)
        → inits_top p own x inits ≤ rows → (rest : CsStmtTrees) (w w0 : List Item) (s : List Held) (l : low.State) → calls_in w0 ≡ calls_in w → Room l → Fits p (state (init_items x inits w0) s l.memory l.inputs)
        → ((t : low.State) → Fits p (state w0 s t.memory t.inputs) → Follows over p n (state w0 s t.memory t.inputs) (calls_in w) (RestGoal w s) no_way (all over p plan n rest t))
        → Follows over p n (state (init_items x inits w0) s l.memory l.inputs) (calls_in w) (RestGoal w s) no_way (all over p plan n (inits_code p own x inits rest) l)
    inits_follow [] live x typed low top rest w w0 s l chain room fits g = g l fits
    inits_follow (init ∷ inits) live x typed low top rest w w0 s l chain room fits g =
        let m1 = le-max_left (init_code p own x init).top (inits_top p own x inits) in
        let m2 = le-max_right (init_code p own x init).top (inits_top p own x inits) in
        let a = (init_code p own x init).code in
        initials.item_then over p plan n runs.typed runs.planned (state (init_items x (init ∷ inits) w0) s l.memory l.inputs) (init_items x inits w0) s (calls_in w) (RestGoal w s) (run n a l) _ fits
        (init_chain x inits w0 ∙ chain)
        (init_follows init live x (All-head (λ i. IsTypedInit (scope_of over p plan runs n f b live) (object_type p x) i) init inits typed) (λ k m. low k (Contains-append_left (init_calls init) (flat_map init_calls inits) k m))
        (omega (arith, m1, top)) inits w0 s l room fits)
        (λ t is fit. inits_follow inits live x (All-tail (λ i. IsTypedInit (scope_of over p plan runs n f b live) (object_type p x) i) init inits typed)
        (λ k m. low k (Contains-append_right (init_calls init) (flat_map init_calls inits) k m)) (omega (arith, m2, top)) rest w w0 s t chain (items.room_after over p plan runs f b rows n a l t is room) fit g)

    rest_case : (x : ℕ) (inits : List TInitTree) (z : Bool) (w : List Item) (s : List Held) (t : low.State) → Fits p (state (rest_items x inits z w) s t.memory t.inputs)
        → Follows over p n (state (rest_items x inits z w) s t.memory t.inputs) (calls_in w) (RestGoal w s) no_way (all over p plan n (rest_code p x inits z) t)
    rest_case x inits true w s t fits = rest_follows over p plan n runs.typed x inits w s t fits
    rest_case x inits false w s t fits = (_, none p _, refl)

    rest_chain : (x : ℕ) (inits : List TInitTree) (z : Bool) (w : List Item) → calls_in (rest_items x inits z w) ≡ calls_in w
    rest_chain x inits true w = refl
    rest_chain x inits false w = refl

    -- a scope without objects, out of which nothing leads
    plain_scope : (s0 : State) (w : List Item) (s : List Held) (later : Later) (items : CsStmtTrees) (way : Way → low.State → Option Next) (o : Outcome)
        → Follows over p n s0 (calls_in w) (RestGoal w s) no_way o → Follows over p n s0 (calls_in w) (RestGoal w s) way (at_scope [] (caught later items o))
    plain_scope s0 w s later items way (Normal t) h = h
    plain_scope s0 w s later items way (Leaves x t) h = absurd h
    plain_scope s0 w s later items way o h = h

    pub declare_follows : (at : Pos) (x : ℕ) (inits : List TInitTree) (z : Bool) (live : List ℕ) → All (λ init. IsTypedInit (scope_of over p plan runs n f b live) (object_type p x) init) inits → Low (flat_map init_calls inits)
        → inits_top p own x inits ≤ rows → (way : Way → low.State → Option Next) (w : List Item) (s : List Held) (l : low.State) → Room l
        → Fits p (state (Do (c.Declare at x inits z) ∷ w) s l.memory l.inputs)
        → Follows over p n (state (Do (c.Declare at x inits z) ∷ w) s l.memory l.inputs) (calls_in w) (RestGoal w s) way
        (run n (code.Scope [] (code.more (code.Undefine x) (inits_code p own x inits (rest_code p x inits z)))) l)
    declare_follows at x inits z live typed low top way w s l room fits =
        let filled = inits_code p own x inits (rest_code p x inits z) in
        plain_scope (state (Do (c.Declare at x inits z) ∷ w) s l.memory l.inputs) w s (items.later over p plan runs f b rows n) (code.more (code.Undefine x) filled) way (all over p plan n (code.more (code.Undefine x) filled) l)
        (initials.declared over p plan n runs.typed runs.planned at x inits z w s l filled fits
        (λ m fit. inits_follow inits live x typed low top (rest_code p x inits z) w (rest_items x inits z w) s (record l { memory = m }) (rest_chain x inits z w) room fit
        (λ t more. rest_case x inits z w s t more)))
