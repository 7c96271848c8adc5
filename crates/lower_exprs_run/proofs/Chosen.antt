-- The simulation of structs that are named, `!`, `?:`, commas, inputs, assumptions and assertions, from that of their parts.
use Rattle.std.proofs.Common.{◌≡◌, ℕ, suc, ◌<◌, ◌≤◌, List, [], ◌∷◌, ◌++◌, length, map, Option, Some, None, Bool, true, false, max, refl, sym, ◌∙◌, subst, ap, arith, ℤ}
use Rattle.std.proofs.Math.Nat.{le-max_left, le-max_right}
use Rattle.c_syntax_written.specs.declared.int_type.IntType.{IntType}
use Rattle.c_syntax_written.specs.declared.int_type.IntType.TheVariants as ints
use Rattle.c_syntax_written.specs.declared.place.Pos.{Pos}
use Rattle.c_syntax_written.specs.Integer.{wrapped}
use Rattle.c_syntax.specs.declared.alarm.WrongKind.TheVariants as kinds
use Rattle.c_syntax.specs.declared.operator.TUnaryOp.TheVariants as unaries
use Rattle.c_syntax.specs.declared.program.Plan.{Plan}
use Rattle.c_syntax.specs.Types.{CTypeTree}
use Rattle.c_syntax.specs.Types as types
use Rattle.c_syntax.specs.TypedExpr as c
use Rattle.c_syntax.specs.TypedExpr.{TExprTree, TLvalueTree}
use Rattle.c_syntax.specs.GivenType.{given_type}
use Rattle.c_syntax.specs.Program.{TProgramTree}
use Rattle.c_layout.specs.Checks.{plain_check, test_checks}
use Rattle.c_layout.specs.RowTypes.{IsScalar, SameType}
use Rattle.c_layout.specs.TypedNodes.{IsStruct}
use Rattle.block_mem.specs.declared.types.Scalar.{Scalar}
use Rattle.block_mem.specs.declared.types.Scalar.TheVariants as scalars
use Rattle.block_mem.specs.declared.types.Value.{Value}
use Rattle.block_mem.specs.declared.types.Value.TheVariants as values
use Rattle.c_values.specs.declared.values.Given.TheVariants as givens
use Rattle.c_values.specs.Accesses.{assert_looks}
use Rattle.c_values.specs.Looks.{judge}
use Rattle.c_values.specs.Values.{plain_type, bit}
use Rattle.c_steps.specs.Work.{Item, Eval, Un, Pick, Keep, Sure, Drop}
use Rattle.c_steps.specs.States.{Held, Plain, Struct, State, state, Stopped, goes, held}
use Rattle.c_steps.specs.Expressions.{value_scalar}
use Rattle.c_steps.specs.Runs.{calls_in, chain_of}
use Rattle.c_steps_laws.specs.Fits.{Fits, Runs}
use Rattle.c_steps_laws.specs.Wants.{Want, Of, OfStruct, Anything, want_of}
use Rattle.c_steps_laws.proofs.Rows.{same_want, struct_want}
use Rattle.csharp.specs.Trees as code
use Rattle.csharp.specs.Trees.{CsExprTree, Temp, CsStmtTree}
use Rattle.csharp.specs.States as low
use Rattle.csharp.specs.States.{value_of, look_of}
use Rattle.csharp.specs.Outcomes.{Outcome, Normal, Leaves, ByExit, then_do}
use Rattle.csharp_laws.specs.LeftAlone.{IsBehind}
use Rattle.lower_trees.specs.Temps.{temp_at}
use Rattle.lower_trees.specs.Checking.{checks, plain_one, read_list}
use Rattle.lower_trees.specs.LowerExpr.{Lowered, Forms, number, with_source, of_unary, of_unary_forms, of_cond, of_input, of_assert, branch}
use Rattle.lower_trees.specs.LowerProgram.{lower}
use Rattle.csharp_typed_laws.proofs.Counts.{counts_stay}
use Rattle.lower_rows.proofs.Steps.{Follows, one, none, follows_after, follows_then}
use Rattle.lower_rows.proofs.Rows.{ValueFollows, no_way, in_temp, set_here, SourceGoal, ReadsFirst, checks_end, all_mapped, source_end}
use Rattle.lower_rows.proofs.Sim.{value_then}
use Rattle.lower_rows.proofs.Tests.{StepGoal, exit_at, Tested}
use Rattle.lower_formed.proofs.Placing.{Bodied}
use Rattle.lower_quiet.proofs.Puts.{in_row}
use Rattle.lower_exprs_run.proofs.Held.{Holds, HeldGoal, HeldFollows, HasValue, follows_goal, from_value, held_then, held_spill, branch_follows}
use Rattle.lower_exprs_run.proofs.Ands.{To, Bit, fits_on, tested_on}
use Rattle.lower_exprs_run.proofs.Simple as simple
use Rattle.lower_exprs_run.proofs.Simple.{Sims, not_tests, unary_value}

no_scalar : (ty : CTypeTree) → IsStruct ty → IsScalar ty → ⊥
no_scalar types.Void st sc = sc
no_scalar (types.Int t) st sc = st
no_scalar (types.Pointer to k) st sc = st
no_scalar (types.Array of k m) st sc = sc
no_scalar (types.Struct m) st sc = sc
no_scalar (types.Function m) st sc = sc

struct_from : (ty : CTypeTree) → want_of ty ≡ OfStruct → IsStruct ty
struct_from types.Void e = absurd (cc)
struct_from (types.Int t) e = absurd (cc)
struct_from (types.Pointer to k) e = absurd (cc)
struct_from (types.Array of k m) e = absurd (cc)
struct_from (types.Struct m) e = tt
struct_from (types.Function m) e = absurd (cc)

module _ (over : ℕ → Bool) (p : TProgramTree) (plan : Plan) (runs : Runs p plan) (n f : ℕ) (b : Bodied p f) where
  abbrev run : CsStmtTree → low.State → Outcome
  run a l = simple.run over p plan runs n f b a l

  abbrev Room : ℕ → low.State → Type 0
  Room top l = simple.Room over p plan runs n f b top l

  abbrev S : TExprTree → Forms → Type 0
  S e a = Sims over p plan runs n f b e a

  room_left : (a : CsStmtTree) (l t : low.State) (j k : ℕ) → run a l ≡ Leaves (ByExit j) t → Room k l → Room k t
  room_left a l t j k is room =
      let same = counts_stay over (lower p plan) n a l t (subst (λ (o : Outcome). IsBehind o t) (sym is) refl) in omega (arith, same, room)

  -- ---- structs that are named at one place

  abbrev pub StructGoal : Pos → CsExprTree → List Item → List Held → low.State → State → Type 0
  StructGoal from a w s t u = (z : Value) × (value_of a t ≡ Some z) × (u ≡ state w (Struct from z ∷ s) t.memory t.inputs)

  pub struct_sims : (e : TExprTree) (from : Pos) (a : Lowered) → IsStruct (given_type e)
      → ((w : List Item) (s : List Held) (l : low.State) → Room a.top l → Fits p (state (Eval e ∷ w) s l.memory l.inputs)
      → Follows over p n (state (Eval e ∷ w) s l.memory l.inputs) (calls_in w) (StructGoal from a.value w s) no_way (run a.before l))
      → S e (with_source from a)
  struct_sims e from a st sim = record {
    value = λ w s l room fits. follows_goal over p plan n (state (Eval e ∷ w) s l.memory l.inputs) (calls_in w) (StructGoal from a.value w s) (HeldGoal (want_of (given_type e)) a.value w s) (run a.before l)
        (λ t u g. (Struct from g.0, subst (λ z. Holds z (value_of a.value t) (Struct from g.0)) (sym (struct_want (given_type e) st)) (from, g.0, g.1, refl), g.2)) (sim w s l room fits);
    unless = λ at k item w s so not_so l sc. absurd (no_scalar (given_type e) st sc);
    when = λ at k item w s so not_so l sc. absurd (no_scalar (given_type e) st sc);
    source = λ size align item w s l is reads chain same room fits.
        follows_then over p n (state (Eval e ∷ item ∷ w) s l.memory l.inputs) (calls_in w) (StructGoal from a.value (item ∷ w) s) (SourceGoal over p plan n size align a.value item w s) no_way no_way (run a.before l) _
        (subst (λ z. Follows over p n (state (Eval e ∷ item ∷ w) s l.memory l.inputs) z (StructGoal from a.value (item ∷ w) s) no_way (run a.before l)) same (sim (item ∷ w) s l room fits))
        (λ t u done leads g. subst (λ z. Follows over p n z (calls_in w) (SourceGoal over p plan n size align a.value item w s) no_way (run (checks (read_list from size align a.value)) t)) (sym g.2)
        (source_end over p plan n size align item w s from a.value t g.0 reads chain g.1))
        (λ k t z. z);
  }

  -- ---- `!`

  abbrev Int : Scalar
  Int = scalars.Int ints.Int

  pub not_sims : (d : ℕ) (at : Pos) (x : TExprTree) (a : Forms) → IsScalar (given_type x) → S x a → S (c.Unary at unaries.Not x) (of_unary_forms d at unaries.Not (value_scalar x) a)
  not_sims d at x a sc m = record {
    value = λ w s l room fits. let o = of_unary d at unaries.Not (value_scalar x) a.value in
        from_value over p plan n (state (Eval (c.Unary at unaries.Not x) ∷ w) s l.memory l.inputs) w s Int (Of Int) o.value (run o.before l) refl (unary_value over p plan runs n f b d at unaries.Not x a.value w s l sc room fits m.value);
    unless = λ from k item w s so not_so l scalar test chain room fits.
        let s1 = state (Eval x ∷ Un at unaries.Not (value_scalar x) ∷ item ∷ w) s l.memory l.inputs in
        let s0 = state (Eval (c.Unary at unaries.Not x) ∷ item ∷ w) s l.memory l.inputs in
        follows_after over p n s0 s1 (calls_in (item ∷ w)) (StepGoal p so) (exit_at k not_so) (run (a.when at k) l) (one p s0 s1 refl)
        (tested_on over p plan n runs.typed runs.planned s1 (calls_in (item ∷ w)) (item ∷ w) (item ∷ w) (held (bit true) ∷ s) (held (bit false) ∷ s) so not_so k (run (a.when at k) l)
        (λ m i. test (bit true) m i) (λ m i. test (bit false) m i)
        (m.when at k (Un at unaries.Not (value_scalar x)) (item ∷ w) s (Bit false (item ∷ w) s) (Bit true (item ∷ w) s) l sc (not_tests over p plan runs n f b at (value_scalar x) (item ∷ w) s) refl room
        (fits_on over p plan n runs.typed runs.planned s0 s0 s1 fits (none p s0) refl)));
    when = λ from k item w s so not_so l scalar test chain room fits.
        let s1 = state (Eval x ∷ Un at unaries.Not (value_scalar x) ∷ item ∷ w) s l.memory l.inputs in
        let s0 = state (Eval (c.Unary at unaries.Not x) ∷ item ∷ w) s l.memory l.inputs in
        follows_after over p n s0 s1 (calls_in (item ∷ w)) (StepGoal p not_so) (exit_at k so) (run (a.unless at k) l) (one p s0 s1 refl)
        (tested_on over p plan n runs.typed runs.planned s1 (calls_in (item ∷ w)) (item ∷ w) (item ∷ w) (held (bit false) ∷ s) (held (bit true) ∷ s) not_so so k (run (a.unless at k) l)
        (λ m i. test (bit false) m i) (λ m i. test (bit true) m i)
        (m.unless at k (Un at unaries.Not (value_scalar x)) (item ∷ w) s (Bit false (item ∷ w) s) (Bit true (item ∷ w) s) l sc (not_tests over p plan runs n f b at (value_scalar x) (item ∷ w) s) refl room
        (fits_on over p plan n runs.typed runs.planned s0 s0 s1 fits (none p s0) refl)));
    source = λ size align item w s l st. absurd st;
  }

  -- ---- `?:`

  module _ (d : ℕ) (at : Pos) (ty : CTypeTree) (t x y : TExprTree) (lt : Forms) (st : IsScalar (given_type t)) (mt : S t lt) where
    abbrev Cond : TExprTree
    Cond = c.Cond at ty t x y

    -- the way that the condition picks
    picked : (w : List Item) (s : List Held) (l : low.State) (chain : List Pos) (goal : low.State → State → Type 0) (first second : CsStmtTree) (top : ℕ) → calls_in w ≡ chain → lt.value.top ≤ top → Room top l
        → Fits p (state (Eval Cond ∷ w) s l.memory l.inputs)
        → ((r : low.State) → Room top r → Fits p (state (Eval x ∷ w) s r.memory r.inputs) → Follows over p n (state (Eval x ∷ w) s r.memory r.inputs) chain goal no_way (run first r))
        → ((r : low.State) → Room top r → Fits p (state (Eval y ∷ w) s r.memory r.inputs) → Follows over p n (state (Eval y ∷ w) s r.memory r.inputs) chain goal no_way (run second r))
        → Follows over p n (state (Eval Cond ∷ w) s l.memory l.inputs) chain goal no_way (run (branch (lt.unless at 0) first second) l)
    picked w s l chain goal first second top same le room fits g h =
        let s1 = state (Eval t ∷ Pick at (value_scalar t) x y ∷ w) s l.memory l.inputs in
        simple.apart over p plan runs n f b _ s1 chain goal _ refl fits
        (λ fit. branch_follows over p plan n s1 chain (To (Eval x ∷ w) s) (To (Eval y ∷ w) s) goal (lt.unless at 0) first second l
        (subst (λ z. Tested over p n s1 z (To (Eval x ∷ w) s) (To (Eval y ∷ w) s) 0 (run (lt.unless at 0) l)) same
        (mt.unless at 0 (Pick at (value_scalar t) x y) w s (To (Eval x ∷ w) s) (To (Eval y ∷ w) s) l st (λ v m i. refl) refl (omega (arith, le, room)) fit))
        (λ r u is leads e. follows_after over p n u (state (Eval x ∷ w) s r.memory r.inputs) chain goal no_way (run first r) (one p u _ e)
        (g r (simple.room_kept over p plan runs n f b (lt.unless at 0) l r top is room) (fits_on over p plan n runs.typed runs.planned s1 u _ fit leads e)))
        (λ r u is leads e. follows_after over p n u (state (Eval y ∷ w) s r.memory r.inputs) chain goal no_way (run second r) (one p u _ e)
        (h r (room_left (lt.unless at 0) l r 0 top is room) (fits_on over p plan n runs.typed runs.planned s1 u _ fit leads e))))

    pub cond_none : (a g : Lowered) (w : List Item) (s : List Held) (l : low.State) → Room (max lt.value.top (max a.top g.top)) l → Fits p (state (Eval Cond ∷ w) s l.memory l.inputs)
        → simple.ValueSim over p plan runs n f b x a → simple.ValueSim over p plan runs n f b y g
        → HeldFollows over p n (state (Eval Cond ∷ w) s l.memory l.inputs) w s Anything (number 0) (run (of_cond d None (lt.unless at 0) lt.value.top a g).before l)
    cond_none a g w s l room fits ma mb =
        let m = max lt.value.top (max a.top g.top) in
        let p1 = le-max_left lt.value.top (max a.top g.top) in
        let p2 = le-max_right lt.value.top (max a.top g.top) in
        let q1 = le-max_left a.top g.top in
        let q2 = le-max_right a.top g.top in
        picked w s l (calls_in w) (HeldGoal Anything (number 0) w s) a.before g.before m refl p1 room fits
        (λ r big fit. Rattle.lower_exprs_run.proofs.Held.any_held over p plan n _ w s (want_of (given_type x)) a.value (number 0) _ (ma w s r (omega (arith, p2, q1, big)) fit))
        (λ r big fit. Rattle.lower_exprs_run.proofs.Held.any_held over p plan n _ w s (want_of (given_type y)) g.value (number 0) _ (mb w s r (omega (arith, p2, q2, big)) fit))

    pub cond_some : (sc : Scalar) (want : Want) (a g : Lowered) (w : List Item) (s : List Held) (l : low.State) → HasValue over p plan n want → want_of (given_type x) ≡ want → want_of (given_type y) ≡ want
        → Room (max (suc d) (max lt.value.top (max a.top g.top))) l → Fits p (state (Eval Cond ∷ w) s l.memory l.inputs) → simple.ValueSim over p plan runs n f b x a → simple.ValueSim over p plan runs n f b y g
        → HeldFollows over p n (state (Eval Cond ∷ w) s l.memory l.inputs) w s want (Temp (temp_at d sc)) (run (of_cond d (Some sc) (lt.unless at 0) lt.value.top a g).before l)
    cond_some sc want a g w s l k ex ey room fits ma mb =
        let big = max (suc d) (max lt.value.top (max a.top g.top)) in
        let z1 = le-max_left (suc d) (max lt.value.top (max a.top g.top)) in
        let z2 = le-max_right (suc d) (max lt.value.top (max a.top g.top)) in
        let p1 = le-max_left lt.value.top (max a.top g.top) in
        let p2 = le-max_right lt.value.top (max a.top g.top) in
        let q1 = le-max_left a.top g.top in
        let q2 = le-max_right a.top g.top in
        let row = in_row sc in
        picked w s l (calls_in w) (HeldGoal want (Temp (temp_at d sc)) w s) (code.Sequence a.before (code.Set (temp_at d sc) a.value)) (code.Sequence g.before (code.Set (temp_at d sc) g.value)) big refl (omega (arith, p1, z2)) room fits
        (λ r enough fit. held_spill over p plan n _ w s want a.value (temp_at d sc) (run a.before r) k
        (λ q is. let j = simple.room_kept over p plan runs n f b a.before r q big is enough in omega (arith, row, j, z1))
        (subst (λ z. HeldFollows over p n (state (Eval x ∷ w) s r.memory r.inputs) w s z a.value (run a.before r)) ex (ma w s r (omega (arith, q1, p2, z2, enough)) fit)))
        (λ r enough fit. held_spill over p plan n _ w s want g.value (temp_at d sc) (run g.before r) k
        (λ q is. let j = simple.room_kept over p plan runs n f b g.before r q big is enough in omega (arith, row, j, z1))
        (subst (λ z. HeldFollows over p n (state (Eval y ∷ w) s r.memory r.inputs) w s z g.value (run g.before r)) ey (mb w s r (omega (arith, q2, p2, z2, enough)) fit)))

    -- a source goes into a temporary
    source_spill : (size align : ℕ) (s0 : State) (item : Item) (w : List Item) (s : List Held) (a : CsExprTree) (d : ℕ) (o : Outcome) → ((t : low.State) → o ≡ Normal t → d < length t.temps)
        → Follows over p n s0 (calls_in w) (SourceGoal over p plan n size align a item w s) no_way o
        → Follows over p n s0 (calls_in w) (SourceGoal over p plan n size align (Temp d) item w s) no_way (then_do o (λ t. run (code.Set d a) t))
    source_spill size align s0 item w s a d o room h =
        follows_then over p n s0 (calls_in w) (SourceGoal over p plan n size align a item w s) (SourceGoal over p plan n size align (Temp d) item w s) no_way no_way o _ h
        (λ t u is leads g. rw (g.2) (u, none p u, (g.0, g.1, set_here t.temps d g.1 (room t is), g.3, g.4))) (λ k t z. absurd z)

    pub cond_source : (size align : ℕ) (a g : Forms) (item : Item) (w : List Item) (s : List Held) (l : low.State) → IsStruct ty → SameType (given_type x) ty → SameType (given_type y) ty
        → ReadsFirst over p plan n size align item w s → chain_of (item ∷ w) ≡ calls_in w → calls_in (item ∷ w) ≡ calls_in w
        → Room (max (suc d) (max lt.value.top (max (a.source size align).top (g.source size align).top))) l → Fits p (state (Eval Cond ∷ item ∷ w) s l.memory l.inputs) → S x a → S y g
        → Follows over p n (state (Eval Cond ∷ item ∷ w) s l.memory l.inputs) (calls_in w) (SourceGoal over p plan n size align (Temp (temp_at d scalars.Pointer)) item w s) no_way
        (run (of_cond d (Some scalars.Pointer) (lt.unless at 0) lt.value.top (a.source size align) (g.source size align)).before l)
    cond_source size align a g item w s l is sx sy reads chain same room fits ma mb =
        let la = a.source size align in
        let lg = g.source size align in
        let big = max (suc d) (max lt.value.top (max la.top lg.top)) in
        let z1 = le-max_left (suc d) (max lt.value.top (max la.top lg.top)) in
        let z2 = le-max_right (suc d) (max lt.value.top (max la.top lg.top)) in
        let p1 = le-max_left lt.value.top (max la.top lg.top) in
        let p2 = le-max_right lt.value.top (max la.top lg.top) in
        let q1 = le-max_left la.top lg.top in
        let q2 = le-max_right la.top lg.top in
        let row = in_row scalars.Pointer in
        let to = temp_at d scalars.Pointer in
        picked (item ∷ w) s l (calls_in w) (SourceGoal over p plan n size align (Temp to) item w s) (code.Sequence la.before (code.Set to la.value)) (code.Sequence lg.before (code.Set to lg.value)) big same (omega (arith, p1, z2)) room fits
        (λ r enough fit. source_spill size align _ item w s la.value to (run la.before r)
        (λ q done. let j = simple.room_kept over p plan runs n f b la.before r q big done enough in omega (arith, row, j, z1))
        (ma.source size align item w s r (struct_from (given_type x) (same_want (given_type x) ty sx ∙ struct_want ty is)) reads chain same (omega (arith, q1, p2, z2, enough)) fit))
        (λ r enough fit. source_spill size align _ item w s lg.value to (run lg.before r)
        (λ q done. let j = simple.room_kept over p plan runs n f b lg.before r q big done enough in omega (arith, row, j, z1))
        (mb.source size align item w s r (struct_from (given_type y) (same_want (given_type y) ty sy ∙ struct_want ty is)) reads chain same (omega (arith, q2, p2, z2, enough)) fit))

  -- ---- commas: what is held of the first is dropped

  pub dropped : (at : Pos) (x y : TExprTree) (a : Lowered) (w : List Item) (s : List Held) (l : low.State) (go : low.State → Outcome) (chain : List Pos) (goal : low.State → State → Type 0) → calls_in w ≡ chain → Room a.top l
      → Fits p (state (Eval (c.Comma at x y) ∷ w) s l.memory l.inputs) → simple.ValueSim over p plan runs n f b x a
      → ((t : low.State) → run a.before l ≡ Normal t → Fits p (state (Eval y ∷ w) s t.memory t.inputs) → Follows over p n (state (Eval y ∷ w) s t.memory t.inputs) chain goal no_way (go t))
      → Follows over p n (state (Eval (c.Comma at x y) ∷ w) s l.memory l.inputs) chain goal no_way (then_do (run a.before l) go)
  dropped at x y a w s l go chain goal same room fits ma g =
      let s1 = state (Eval x ∷ Drop ∷ Eval y ∷ w) s l.memory l.inputs in
      simple.apart over p plan runs n f b _ s1 chain goal _ refl fits
      (λ fit. held_then over p plan n runs.typed runs.planned s1 (Drop ∷ Eval y ∷ w) s (want_of (given_type x)) a.value (run a.before l) go chain goal fit same (ma (Drop ∷ Eval y ∷ w) s l room fit)
      (λ t h is holds inner. simple.apart over p plan runs n f b (state (Drop ∷ Eval y ∷ w) (h ∷ s) t.memory t.inputs) (state (Eval y ∷ w) s t.memory t.inputs) chain goal (go t) refl inner (λ last. g t is last)))

  -- ---- inputs, assumptions and assertions

  input_case : (d : ℕ) (at : Pos) (t : IntType) (w : List Item) (s : List Held) (l : low.State) (is : List ℤ) → l.inputs ≡ is → temp_at d (scalars.Int t) < length l.temps
      → ValueFollows over p n (state (Eval (c.Any at t) ∷ w) s l.memory l.inputs) w s (Temp (temp_at d (scalars.Int t))) (run (code.Input (temp_at d (scalars.Int t)) t) l)
  input_case d at t w s l [] e room = rw e (_, none p _, refl)
  input_case d at t w s l (k ∷ is) e room =
      rw e (in_temp over p plan n _ w s (temp_at d (scalars.Int t)) (record l { inputs = is }) (values.Int t (wrapped t k)) room (one p _ _ refl))

  pub input_value : (d : ℕ) (at : Pos) (t : IntType) (w : List Item) (s : List Held) (l : low.State) → Room (suc d) l
      → ValueFollows over p n (state (Eval (c.Any at t) ∷ w) s l.memory l.inputs) w s (of_input d t).value (run (of_input d t).before l)
  input_value d at t w s l room = input_case d at t w s l l.inputs refl (let row = in_row (scalars.Int t) in omega (arith, row, room))

  pub assumed : (at : Pos) (x : TExprTree) (a : Forms) (w : List Item) (s : List Held) (l : low.State) → IsScalar (given_type x) → Room a.value.top l → Fits p (state (Eval (c.Assume at x) ∷ w) s l.memory l.inputs) → S x a
      → HeldFollows over p n (state (Eval (c.Assume at x) ∷ w) s l.memory l.inputs) w s Anything (number 0) (run (branch (a.unless at 0) code.Nothing (code.Assume (number 0))) l)
  assumed at x a w s l sc room fits m =
      let s1 = state (Eval x ∷ Keep at (value_scalar x) ∷ w) s l.memory l.inputs in
      let goal = HeldGoal Anything (number 0) w s in
      simple.apart over p plan runs n f b _ s1 (calls_in w) goal _ refl fits
      (λ fit. branch_follows over p plan n s1 (calls_in w) (λ m i. goes w (Plain givens.Nothing ∷ s) m i) (λ m i. Stopped) goal (a.unless at 0) code.Nothing (code.Assume (number 0)) l
      (m.unless at 0 (Keep at (value_scalar x)) w s (λ m i. goes w (Plain givens.Nothing ∷ s) m i) (λ m i. Stopped) l sc (λ v m i. refl) refl room fit)
      (λ r u is leads e. (state w (Plain givens.Nothing ∷ s) r.memory r.inputs, one p u _ e, (Plain givens.Nothing, tt, refl)))
      (λ r u is leads e. (u, none p u, e)))

  looks_assert : (at : Pos) (ty : Option Scalar) (a : CsExprTree) (t : low.State) (v : Value) → value_of a t ≡ Some v
      → map (λ k. look_of k t) (map (plain_one at a) (test_checks (plain_type ty) ++ plain_check kinds.AssertFailed ∷ [])) ≡ assert_looks t.memory ty v
  looks_assert at None a t v e = rw e refl
  looks_assert at (Some (scalars.Int k)) a t v e = rw e refl
  looks_assert at (Some scalars.Pointer) a t v e = rw e refl

  pub asserted : (d : ℕ) (at : Pos) (x : TExprTree) (a : Lowered) (w : List Item) (s : List Held) (l : low.State) → IsScalar (given_type x) → Room a.top l → Fits p (state (Eval (c.Assert at x) ∷ w) s l.memory l.inputs)
      → simple.ValueSim over p plan runs n f b x a
      → HeldFollows over p n (state (Eval (c.Assert at x) ∷ w) s l.memory l.inputs) w s Anything (number 0) (run (of_assert d at (value_scalar x) a).before l)
  asserted d at x a w s l sc room fits m =
      let s1 = state (Eval x ∷ Sure at (value_scalar x) ∷ w) s l.memory l.inputs in
      let goal = HeldGoal Anything (number 0) w s in
      simple.apart over p plan runs n f b _ s1 (calls_in w) goal _ refl fits
      (λ fit. value_then over p plan n runs.typed runs.planned s1 (Sure at (value_scalar x) ∷ w) s a.value (run a.before l) _ (calls_in w) goal fit refl
      (simple.scalar_value over p plan runs n f b x a s1 (Sure at (value_scalar x) ∷ w) s (run a.before l) sc (m (Sure at (value_scalar x) ∷ w) s l room fit))
      (λ t is v e inner. checks_end over p plan n (Sure at (value_scalar x)) w (held v ∷ s) t at (map (plain_one at a.value) (test_checks (plain_type (value_scalar x)) ++ plain_check kinds.AssertFailed ∷ []))
      (assert_looks t.memory (value_scalar x) v) (goes w (Plain givens.Nothing ∷ s) t.memory t.inputs) (calls_in w) goal no_way
      (all_mapped over p plan n at (plain_one at a.value) (λ k. refl) (test_checks (plain_type (value_scalar x)) ++ plain_check kinds.AssertFailed ∷ [])) (ap (judge p.objects) (looks_assert at (value_scalar x) a.value t v e)) refl refl
      (λ passes g. (state w (Plain givens.Nothing ∷ s) t.memory t.inputs, one p _ _ g, (Plain givens.Nothing, tt, refl)))))
