-- The simulation of an expression in its uses, and of the simple forms.
use Rattle.std.proofs.Common.{◌≡◌, ℕ, suc, ◌*◌, ◌≤◌, List, ◌∷◌, length, Option, Some, None, Bool, true, false, not, max, refl, sym, ◌∙◌, subst, ap, arith, ℤ}
use Rattle.std.specs.Prelude.{IsSome, if◌then◌else◌}
use Rattle.std.proofs.Math.Nat.{le-max_left, le-max_right}
use Rattle.c_syntax_written.specs.declared.place.Pos.{Pos}
use Rattle.c_syntax.specs.declared.operator.TUnaryOp.{TUnaryOp}
use Rattle.c_syntax.specs.declared.operator.TUnaryOp.TheVariants as unaries
use Rattle.c_syntax.specs.declared.operator.TBinaryOp.{TBinaryOp}
use Rattle.c_syntax.specs.declared.program.Plan.{Plan}
use Rattle.c_syntax.specs.Types.{CTypeTree}
use Rattle.c_syntax.specs.Types as types
use Rattle.c_syntax.specs.TypedExpr as c
use Rattle.c_syntax.specs.TypedExpr.{TExprTree, TLvalueTree, TExprTrees}
use Rattle.c_syntax.specs.GivenType.{given_type}
use Rattle.c_syntax.specs.Program.{TProgramTree}
use Rattle.c_layout.specs.RowTypes.{IsScalar}
use Rattle.c_layout.specs.TypedNodes.{IsStruct}
use Rattle.block_mem.specs.declared.types.Scalar.{Scalar}
use Rattle.block_mem.specs.declared.types.Scalar.TheVariants as scalars
use Rattle.block_mem.specs.declared.types.Value.{Value}
use Rattle.c_values.specs.Accesses.{test_looks}
use Rattle.c_values.specs.Looks.{judge}
use Rattle.c_values.specs.Operators.{unary_looks}
use Rattle.c_values.specs.Places.{ObjectMemory}
use Rattle.c_values.specs.Typed.{unary_type, binary_type}
use Rattle.c_values.specs.Values.{scalar_of, truth, bit}
use Rattle.c_steps.specs.Work.{Item, Eval, Addr, LoadAt, StoreAt, Un, Bin}
use Rattle.c_steps.specs.States.{Held, State, state, Goes, goes, held, judged}
use Rattle.c_steps.specs.Steps.{step}
use Rattle.c_steps.specs.Expressions.{value_scalar}
use Rattle.c_steps.specs.Runs.{calls_in, chain_of}
use Rattle.c_steps_laws.specs.Fits.{Fits, Runs}
use Rattle.c_steps_laws.specs.Wants.{want_of}
use Rattle.c_steps_laws.proofs.Rows.{scalar_is, want_is}
use Rattle.csharp.specs.Trees as code
use Rattle.csharp.specs.Trees.{CsExprTree, Temp, Unary, Binary, CsStmtTree}
use Rattle.csharp.specs.States as low
use Rattle.csharp.specs.States.{value_of}
use Rattle.csharp.specs.Outcomes.{Outcome, Normal}
use Rattle.csharp_laws.specs.LeftAlone.{IsBehind}
use Rattle.lower_trees.specs.Temps.{temp_at}
use Rattle.lower_trees.specs.Checking.{checks, unary_list, binary_list}
use Rattle.lower_trees.specs.LowerExpr.{Lowered, Forms, or_int, plain, spilled, is_kept_alone, of_load, of_unary, of_binary, of_assign, with_source}
use Rattle.lower_trees.specs.LowerProgram.{lower}
use Rattle.csharp_typed_laws.proofs.Counts.{counts_stay}
use Rattle.lower_rows.proofs.Steps.{Follows, one, follows_after}
use Rattle.lower_rows.proofs.Rows.{ValueGoal, ValueFollows, no_way, load_row, store_row, SourceGoal, ReadsFirst}
use Rattle.lower_rows.proofs.Rows as rows
use Rattle.lower_rows.proofs.Sim.{value_then, spill, kept}
use Rattle.lower_rows.proofs.Tests.{Onward, Tested, IsTest, unless_follows}
use Rattle.lower_formed.proofs.Depths.{From, from_more}
use Rattle.lower_formed.proofs.Placing.{Bodied}
use Rattle.lower_quiet.specs.Quiet.{Quiet}
use Rattle.lower_quiet.proofs.Callees.{Called, base}
use Rattle.lower_quiet.proofs.Puts.{in_row}
use Rattle.lower_quiet.proofs.Stays.{values_stay}
use Rattle.lower_exprs_run.proofs.Held.{HeldFollows, as_value, when_follows}
use Rattle.lower_exprs_run.proofs.Ands.{Bit}
use Rattle.lower_exprs_run.proofs.Operations.{unary_row, binary_row}

some_there : (o : Option Scalar) (ty : Scalar) → o ≡ Some ty → IsSome o
some_there None ty e = absurd (cc)
some_there (Some u) ty e = refl

pub no_struct_scalar : (ty : CTypeTree) (s : Scalar) → scalar_of ty ≡ Some s → IsStruct ty → ⊥
no_struct_scalar types.Void s e st = st
no_struct_scalar (types.Int t) s e st = st
no_struct_scalar (types.Pointer to k) s e st = st
no_struct_scalar (types.Array of k m) s e st = st
no_struct_scalar (types.Struct m) s e st = absurd (cc)
no_struct_scalar (types.Function m) s e st = st

pub some_scalar : (ty : CTypeTree) (s : Scalar) → scalar_of ty ≡ Some s → IsSome (scalar_of ty)
some_scalar ty s e = some_there (scalar_of ty) s e

module _ (over : ℕ → Bool) (p : TProgramTree) (plan : Plan) (runs : Runs p plan) (n f : ℕ) (b : Bodied p f) where
  abbrev pub run : CsStmtTree → low.State → Outcome
  run a l = rows.run over p plan n a l

  -- as many temporaries as so many rows have
  abbrev pub Room : ℕ → low.State → Type 0
  Room top l = 12 * top ≤ length l.temps

  abbrev pub lo : ℕ
  lo = base p plan runs f b

  pub room_kept : (a : CsStmtTree) (l t : low.State) (k : ℕ) → run a l ≡ Normal t → Room k l → Room k t
  room_kept a l t k is room =
      let same = counts_stay over (lower p plan) n a l t (subst (λ (o : Outcome). IsBehind o t) (sym is) refl) in omega (arith, same, room)

  -- a value stays while the code of what comes behind it runs
  pub kept_value : (d : ℕ) (a c : Lowered) → lo ≤ d → Quiet (Called p f) d a → Quiet (Called p f) a.next c → From (12 * d) a.value → (t r : low.State) (v : Value) → run c.before t ≡ Normal r
      → value_of a.value t ≡ Some v → value_of a.value r ≡ Some v
  kept_value d a c le qa qc from t r v is has =
      values_stay over p plan runs n f b a.next c.top a.value c.before t r v qc.before (from_more (12 * lo) (12 * d) (omega (arith, le)) a.value from) qa.value is has

  -- an expression in its uses
  abbrev pub ValueSim : TExprTree → Lowered → Type 0
  ValueSim e a = (w : List Item) (s : List Held) (l : low.State) → Room a.top l → Fits p (state (Eval e ∷ w) s l.memory l.inputs)
      → HeldFollows over p n (state (Eval e ∷ w) s l.memory l.inputs) w s (want_of (given_type e)) a.value (run a.before l)

  abbrev pub PlaceSim : TLvalueTree → Lowered → Type 0
  PlaceSim x a = (w : List Item) (s : List Held) (l : low.State) → Room a.top l → Fits p (state (Addr x ∷ w) s l.memory l.inputs)
      → ValueFollows over p n (state (Addr x ∷ w) s l.memory l.inputs) w s a.value (run a.before l)

  pub record Sims (e : TExprTree) (a : Forms) : Type 0 where
    pub value : ValueSim e a.value
    pub unless : (at : Pos) (k : ℕ) (item : Item) (w : List Item) (s : List Held) (so not_so : Onward) (l : low.State) → IsScalar (given_type e) → IsTest p at (value_scalar e) item w s so not_so
        → chain_of (item ∷ w) ≡ calls_in (item ∷ w) → Room a.value.top l → Fits p (state (Eval e ∷ item ∷ w) s l.memory l.inputs)
        → Tested over p n (state (Eval e ∷ item ∷ w) s l.memory l.inputs) (calls_in (item ∷ w)) so not_so k (run (a.unless at k) l)
    pub when : (at : Pos) (k : ℕ) (item : Item) (w : List Item) (s : List Held) (so not_so : Onward) (l : low.State) → IsScalar (given_type e) → IsTest p at (value_scalar e) item w s so not_so
        → chain_of (item ∷ w) ≡ calls_in (item ∷ w) → Room a.value.top l → Fits p (state (Eval e ∷ item ∷ w) s l.memory l.inputs)
        → Tested over p n (state (Eval e ∷ item ∷ w) s l.memory l.inputs) (calls_in (item ∷ w)) not_so so k (run (a.when at k) l)
    pub source : (size align : ℕ) (item : Item) (w : List Item) (s : List Held) (l : low.State) → IsStruct (given_type e) → ReadsFirst over p plan n size align item w s
        → chain_of (item ∷ w) ≡ calls_in w → calls_in (item ∷ w) ≡ calls_in w → Room (a.source size align).top l → Fits p (state (Eval e ∷ item ∷ w) s l.memory l.inputs)
        → Follows over p n (state (Eval e ∷ item ∷ w) s l.memory l.inputs) (calls_in w) (SourceGoal over p plan n size align (a.source size align).value item w s) no_way (run (a.source size align).before l)

  -- the step that takes a node apart, and what comes behind it
  pub apart : (s0 s1 : State) (chain : List Pos) (goal : low.State → State → Type 0) (o : Outcome) → step p s0 ≡ Goes s1 → Fits p s0
      → (Fits p s1 → Follows over p n s1 chain goal no_way o) → Follows over p n s0 chain goal no_way o
  apart s0 s1 chain goal o e fits g = follows_after over p n s0 s1 chain goal no_way o (one p s0 s1 e) (g (kept over p plan n runs.typed runs.planned s0 s1 fits e))

  -- a scalar's value, from what is held
  pub scalar_value : (e : TExprTree) (a : Lowered) (s0 : State) (w : List Item) (s : List Held) (o : Outcome) → IsScalar (given_type e)
      → HeldFollows over p n s0 w s (want_of (given_type e)) a.value o → ValueFollows over p n s0 w s a.value o
  scalar_value e a s0 w s o sc h = let k = scalar_is (given_type e) sc in as_value over p plan n s0 w s k.0 (want_of (given_type e)) a.value o (want_is (given_type e) k.0 k.1) h

  pub plain_sims : (e : TExprTree) (o : Option Scalar) (a : Lowered) → ValueSim e a → (IsScalar (given_type e) → o ≡ value_scalar e) → (IsStruct (given_type e) → ⊥) → Sims e (plain o a)
  plain_sims e o a value same no_struct = record {
    value = value;
    unless = λ at k item w s so not_so l sc test chain room fits.
        unless_follows over p plan n runs.typed runs.planned (state (Eval e ∷ item ∷ w) s l.memory l.inputs) item w s at o a l so not_so k
        (subst (λ z. IsTest p at z item w s so not_so) (sym (same sc)) test) chain fits
        (scalar_value e a _ (item ∷ w) s (run a.before l) sc (value (item ∷ w) s l room fits));
    when = λ at k item w s so not_so l sc test chain room fits.
        when_follows over p plan n runs.typed runs.planned (state (Eval e ∷ item ∷ w) s l.memory l.inputs) item w s at o a l so not_so k
        (subst (λ z. IsTest p at z item w s so not_so) (sym (same sc)) test) chain
        (scalar_value e a _ (item ∷ w) s (run a.before l) sc (value (item ∷ w) s l room fits));
    source = λ size align item w s l st. absurd (no_struct st);
  }

  -- ---- loads and stores

  pub loaded : (d : ℕ) (at : Pos) (x : TLvalueTree) (sc : Option Scalar) (a : Lowered) (w : List Item) (s : List Held) (l : low.State) → IsSome sc → Room (max (suc d) a.top) l
      → Fits p (state (Addr x ∷ LoadAt at sc ∷ w) s l.memory l.inputs) → PlaceSim x a
      → ValueFollows over p n (state (Addr x ∷ LoadAt at sc ∷ w) s l.memory l.inputs) w s (Temp (temp_at d (or_int sc))) (run (of_load d at (or_int sc) a).before l)
  loaded d at x None a w s l h room fits sim = absurd (cc)
  loaded d at x (Some ty) a w s l h room fits sim =
      let z = le-max_left (suc d) a.top in
      let y = le-max_right (suc d) a.top in
      value_then over p plan n runs.typed runs.planned (state (Addr x ∷ LoadAt at (Some ty) ∷ w) s l.memory l.inputs) (LoadAt at (Some ty) ∷ w) s a.value _ _ (calls_in w) (ValueGoal (Temp (temp_at d ty)) w s) fits refl
      (sim (LoadAt at (Some ty) ∷ w) s l (omega (arith, y, room)) fits)
      (λ t is v e g. load_row over p plan n at ty w s (temp_at d ty) a.value t v runs.typed (let row = in_row ty in let k = room_kept a.before l t (max (suc d) a.top) is room in omega (arith, row, k, z)) e g)

  pub stored : (d : ℕ) (at : Pos) (x : TLvalueTree) (e : TExprTree) (sc : Option Scalar) (a c : Lowered) (w : List Item) (s : List Held) (l : low.State) → IsSome sc → IsScalar (given_type e) → lo ≤ d
      → Quiet (Called p f) d a → Quiet (Called p f) a.next c → From (12 * d) a.value → Room (max a.top c.top) l
      → Fits p (state (Addr x ∷ Eval e ∷ StoreAt at sc ∷ w) s l.memory l.inputs) → PlaceSim x a → ValueSim e c
      → ValueFollows over p n (state (Addr x ∷ Eval e ∷ StoreAt at sc ∷ w) s l.memory l.inputs) w s c.value (run (of_assign at (or_int sc) a c).before l)
  stored d at x e None a c w s l h sc le qa qc from room fits first second = absurd (cc)
  stored d at x e (Some ty) a c w s l h sc le qa qc from room fits first second =
      let z = le-max_left a.top c.top in
      let y = le-max_right a.top c.top in
      value_then over p plan n runs.typed runs.planned _ (Eval e ∷ StoreAt at (Some ty) ∷ w) s a.value _ _ (calls_in w) (ValueGoal c.value w s) fits refl (first (Eval e ∷ StoreAt at (Some ty) ∷ w) s l (omega (arith, z, room)) fits)
      (λ t is v ev g. value_then over p plan n runs.typed runs.planned _ (StoreAt at (Some ty) ∷ w) (held v ∷ s) c.value _ _ (calls_in w) (ValueGoal c.value w s) g refl
      (scalar_value e c _ (StoreAt at (Some ty) ∷ w) (held v ∷ s) (run c.before t) sc (second (StoreAt at (Some ty) ∷ w) (held v ∷ s) t (let k = room_kept a.before l t (max a.top c.top) is room in omega (arith, y, k)) g))
      (λ r more u eu k. store_row over p plan n at ty w s a.value c.value r v u (kept_value d a c le qa qc from t r v more ev) eu))

  -- ---- operators

  pub spilled_value : (keep : Bool) (d : ℕ) (ty : Scalar) (a : Lowered) (s0 : State) (w : List Item) (s : List Held) (l : low.State) → Room (spilled keep d ty a).top l
      → (Room a.top l → ValueFollows over p n s0 w s a.value (run a.before l)) → ValueFollows over p n s0 w s (spilled keep d ty a).value (run (spilled keep d ty a).before l)
  spilled_value true d ty a s0 w s l room h = h room
  spilled_value false d ty a s0 w s l room h =
      let z = le-max_left (suc d) a.top in
      let y = le-max_right (suc d) a.top in
      spill over p plan n runs.typed runs.planned s0 w s a.value (temp_at d ty) (run a.before l)
      (λ t is. let row = in_row ty in let k = room_kept a.before l t (max (suc d) a.top) is room in omega (arith, row, k, z)) (h (omega (arith, y, room)))

  pub unary_value : (d : ℕ) (at : Pos) (op : TUnaryOp) (x : TExprTree) (a : Lowered) (w : List Item) (s : List Held) (l : low.State) → IsScalar (given_type x) → Room (of_unary d at op (value_scalar x) a).top l
      → Fits p (state (Eval (c.Unary at op x) ∷ w) s l.memory l.inputs) → ValueSim x a
      → ValueFollows over p n (state (Eval (c.Unary at op x) ∷ w) s l.memory l.inputs) w s (of_unary d at op (value_scalar x) a).value (run (of_unary d at op (value_scalar x) a).before l)
  unary_value d at op x a w s l sc room fits sim =
      spilled_value (is_kept_alone op) d (unary_type op) (Rattle.lower_trees.specs.LowerExpr.lowered (code.Sequence a.before (checks (unary_list at op (value_scalar x) a.value))) (Unary op a.value) a.next a.top)
      _ w s l room
      (λ enough. apart _ (state (Eval x ∷ Un at op (value_scalar x) ∷ w) s l.memory l.inputs) (calls_in w) (ValueGoal (Unary op a.value) w s) _ refl fits
      (λ g. value_then over p plan n runs.typed runs.planned _ (Un at op (value_scalar x) ∷ w) s a.value _ _ (calls_in w) (ValueGoal (Unary op a.value) w s) g refl
      (scalar_value x a _ (Un at op (value_scalar x) ∷ w) s (run a.before l) sc (sim (Un at op (value_scalar x) ∷ w) s l enough g))
      (λ t is v e h. unary_row over p plan n runs.typed runs.planned at op (value_scalar x) w s a.value t v e h)))

  pub binary_value : (d : ℕ) (at : Pos) (keep : Bool) (op : TBinaryOp) (x y : TExprTree) (a g2 : Lowered) (w : List Item) (s : List Held) (l : low.State) → IsScalar (given_type x) → IsScalar (given_type y) → lo ≤ d
      → Quiet (Called p f) d a → Quiet (Called p f) a.next g2 → From (12 * d) a.value → Room (of_binary d at keep op a g2).top l → Fits p (state (Eval (c.Binary at op x y) ∷ w) s l.memory l.inputs) → ValueSim x a → ValueSim y g2
      → ValueFollows over p n (state (Eval (c.Binary at op x y) ∷ w) s l.memory l.inputs) w s (of_binary d at keep op a g2).value (run (of_binary d at keep op a g2).before l)
  binary_value d at keep op x y a e w s l sx sy le qa qc from room fits first second =
      spilled_value keep d (binary_type op) (Rattle.lower_trees.specs.LowerExpr.lowered (code.Sequence a.before (code.Sequence e.before (checks (binary_list at op a.value e.value)))) (Binary op a.value e.value) e.next (max a.top e.top))
      _ w s l room
      (λ enough. let z = le-max_left a.top e.top in let k = le-max_right a.top e.top in
      apart _ (state (Eval x ∷ Eval y ∷ Bin at op ∷ w) s l.memory l.inputs) (calls_in w) (ValueGoal (Binary op a.value e.value) w s) _ refl fits
      (λ g. value_then over p plan n runs.typed runs.planned _ (Eval y ∷ Bin at op ∷ w) s a.value _ _ (calls_in w) (ValueGoal (Binary op a.value e.value) w s) g refl
      (scalar_value x a _ (Eval y ∷ Bin at op ∷ w) s (run a.before l) sx (first (Eval y ∷ Bin at op ∷ w) s l (omega (arith, z, enough)) g))
      (λ t is v ev h. value_then over p plan n runs.typed runs.planned _ (Bin at op ∷ w) (held v ∷ s) e.value _ _ (calls_in w) (ValueGoal (Binary op a.value e.value) w s) h refl
      (scalar_value y e _ (Bin at op ∷ w) (held v ∷ s) (run e.before t) sy (second (Bin at op ∷ w) (held v ∷ s) t (let j = room_kept a.before l t (max a.top e.top) is enough in omega (arith, k, j)) h))
      (λ r more u eu j. binary_row over p plan n runs.typed runs.planned at op w s a.value e.value r v u (kept_value d a e le qa qc from t r v more ev) eu j))))

  -- ---- `!` as a test is the other test of its operand

  looks_not : (m : ObjectMemory) (ty : Option Scalar) (v : Value) → unary_looks m unaries.Not ty v ≡ test_looks m ty v
  looks_not m None v = refl
  looks_not m (Some (scalars.Int t)) v = refl
  looks_not m (Some scalars.Pointer) v = refl

  bit_case : (z : Bool) (w : List Item) (s : List Held) (m : ObjectMemory) (i : List ℤ) → goes w (held (bit (not z)) ∷ s) m i ≡ (if z then Bit false w s m i else Bit true w s m i)
  bit_case true w s m i = refl
  bit_case false w s m i = refl

  pub not_tests : (at : Pos) (ty : Option Scalar) (w : List Item) (s : List Held) → IsTest p at ty (Un at unaries.Not ty) w s (Bit false w s) (Bit true w s)
  not_tests at ty w s v m i =
      rows.outcome_judged (judge p.objects (unary_looks m unaries.Not ty v)) (Some (bit (not (truth v)))) at (λ new. goes w (held new ∷ s) m i)
      ∙ ap (λ ls. judged (judge p.objects ls) at (goes w (held (bit (not (truth v))) ∷ s) m i)) (looks_not m ty v)
      ∙ ap (λ z. judged (judge p.objects (test_looks m ty v)) at z) (bit_case (truth v) w s m i)
