-- The simulation of conversions, changes, `&&`, `||`, `?:`, commas, inputs, assumptions and assertions, from that of their parts.
use Rattle.std.proofs.Common.{◌≡◌, ℕ, suc, ◌*◌, ◌<◌, ◌≤◌, List, ◌∷◌, length, Option, Some, None, Bool, true, false, max, refl, sym, ◌∙◌, subst, ap, pos, arith, ℤ}
use Rattle.std.specs.Prelude.{IsSome}
use Rattle.std.proofs.Math.Nat.{le-max_left, le-max_right}
use Rattle.c_syntax_written.specs.declared.int_type.IntType.TheVariants as ints
use Rattle.c_syntax_written.specs.declared.place.Pos.{Pos}
use Rattle.c_syntax_written.specs.declared.step.StepWay.{StepWay}
use Rattle.c_syntax.specs.declared.operator.Extent.{Extent}
use Rattle.c_syntax.specs.declared.operator.StepTime.{StepTime}
use Rattle.c_syntax.specs.declared.operator.StepTime.TheVariants as times
use Rattle.c_syntax.specs.declared.operator.Stride.{Stride}
use Rattle.c_syntax.specs.declared.operator.Stride.TheVariants as strides
use Rattle.c_syntax.specs.declared.operator.TBinaryOp.{TBinaryOp}
use Rattle.c_syntax.specs.declared.program.Plan.{Plan}
use Rattle.c_syntax.specs.Types.{CTypeTree}
use Rattle.c_syntax.specs.TypedExpr as c
use Rattle.c_syntax.specs.TypedExpr.{TExprTree, TLvalueTree}
use Rattle.c_syntax.specs.GivenType.{given_type}
use Rattle.c_syntax.specs.Program.{TProgramTree}
use Rattle.c_layout.specs.RowTypes.{IsScalar}
use Rattle.block_mem.specs.declared.types.Scalar.{Scalar}
use Rattle.block_mem.specs.declared.types.Scalar.TheVariants as scalars
use Rattle.block_mem.specs.declared.types.Value.{Value}
use Rattle.block_mem.specs.declared.types.Value.TheVariants as values
use Rattle.c_values.specs.declared.values.Given.TheVariants as givens
use Rattle.c_values.specs.Accesses.{load_looks, loaded_value}
use Rattle.c_values.specs.Looks.{Passes, judge}
use Rattle.c_values.specs.Operators as operators
use Rattle.c_values.specs.Places.{ObjectMemory}
use Rattle.c_values.specs.Values.{scalar_of, converted_to, bit}
use Rattle.c_steps.specs.Work.{Item, Eval, Addr, CopyAt, Modify, StepAt, Conv, AndThen, OrElse, Truth}
use Rattle.c_steps.specs.States.{Held, Plain, Struct, State, state, goes, held, with_some}
use Rattle.c_steps.specs.Steps.{step, conv_step}
use Rattle.c_steps.specs.Expressions.{value_scalar}
use Rattle.c_steps.specs.Changes.{step_operator}
use Rattle.c_steps.specs.Runs.{calls_in}
use Rattle.c_steps_laws.specs.Fits.{Fits, Runs}
use Rattle.c_steps_laws.specs.Wants.{Of, Anything, want_of}
use Rattle.block_mem.specs.Proper.{IsMade}
use Rattle.c_steps_laws.proofs.NeededRows.{needs}
use Rattle.c_steps_laws.proofs.Sound.{sound}
use Rattle.csharp.specs.Trees as code
use Rattle.csharp.specs.Trees.{CsExprTree, Temp, CsStmtTree}
use Rattle.csharp.specs.States as low
use Rattle.csharp.specs.States.{value_of, look_of}
use Rattle.csharp.specs.Actions.{loaded_at}
use Rattle.csharp.specs.Outcomes as outs
use Rattle.csharp.specs.Outcomes.{Outcome, Normal, Leaves, ByExit, Fails, Stuck, Clash, NoFuel, Over, then_do}
use Rattle.csharp_laws.specs.LeftAlone.{IsBehind}
use Rattle.lower_trees.specs.Temps.{temp_at}
use Rattle.lower_trees.specs.LowerExpr.{Lowered, lowered, Forms, number, or_int, to_scalar, of_convert, of_compound, of_step, of_change, change, given_term, changed_new, of_bit, of_cond, of_assign_struct, of_source, with_source, behind, of_input, of_assert, branch, unless_and, when_and, unless_or, when_or, step_one}
use Rattle.lower_trees.specs.LowerProgram.{lower}
use Rattle.csharp_typed_laws.proofs.Counts.{counts_stay}
use Rattle.lower_rows.proofs.Steps.{Leads, Follows, one, follows_map, fits_leads}
use Rattle.lower_rows.proofs.Rows.{ValueGoal, ValueFollows, no_way, load_same, in_temp, SourceGoal}
use Rattle.lower_rows.proofs.Copies.{copied}
use Rattle.lower_rows.proofs.Sim.{value_then, kept}
use Rattle.lower_rows.proofs.Tests.{Onward, Tested, IsTest}
use Rattle.lower_formed.proofs.Depths.{From}
use Rattle.lower_formed.proofs.Placing.{Bodied}
use Rattle.lower_quiet.specs.Quiet.{Quiet, Below}
use Rattle.lower_quiet.proofs.Callees.{Called}
use Rattle.lower_quiet.proofs.Puts.{in_row, below_more}
use Rattle.lower_exprs_run.proofs.Held.{HeldGoal, HeldFollows, from_value, branch_follows}
use Rattle.lower_exprs_run.proofs.Ands.{To, Bit, tested_on, and_unless, and_when, or_unless, or_when}
use Rattle.lower_exprs_run.proofs.Modified.{modified}
use Rattle.lower_exprs_run.proofs.Operations.{convert_case}
use Rattle.lower_exprs_run.proofs.Simple as simple
use Rattle.lower_exprs_run.proofs.Simple.{Sims}

then_assoc : (o : Outcome) (f g : low.State → Outcome) → then_do (then_do o f) g ≡ then_do o (λ t. then_do (f t) g)
then_assoc (Normal t) f g = refl
then_assoc (Leaves x t) f g = refl
then_assoc (Fails ch at k x m) f g = refl
then_assoc outs.Waiting f g = refl
then_assoc outs.Stopped f g = refl
then_assoc Stuck f g = refl
then_assoc Clash f g = refl
then_assoc NoFuel f g = refl
then_assoc Over f g = refl

module _ (over : ℕ → Bool) (p : TProgramTree) (plan : Plan) (runs : Runs p plan) (n f : ℕ) (b : Bodied p f) where
  abbrev run : CsStmtTree → low.State → Outcome
  run a l = simple.run over p plan runs n f b a l

  abbrev Room : ℕ → low.State → Type 0
  Room top l = simple.Room over p plan runs n f b top l

  abbrev S : TExprTree → Forms → Type 0
  S e a = Sims over p plan runs n f b e a

  room_left : (a : CsStmtTree) (l t : low.State) (j k : ℕ) → run a l ≡ Leaves (ByExit j) t → Room k l → Room k t
  room_left a l t j k is room =
      let same = counts_stay over (lower p plan) n a l t (subst (λ (o : Outcome). IsBehind o t) (sym is) refl) in omega (arith, same, room)

  -- ---- conversions

  conv_same : (ty : Scalar) (v : Value) (w : List Item) (s : List Held) (m : ObjectMemory) (i : List ℤ) → conv_step (Some ty) (held v) w s m i ≡ with_some (converted_to ty v) (λ new. goes w (held new ∷ s) m i)
  conv_same (scalars.Int k) (values.Int u j) w s m i = refl
  conv_same (scalars.Int k) (values.Ptr q) w s m i = refl
  conv_same (scalars.Int k) values.Null w s m i = refl
  conv_same scalars.Pointer (values.Int u j) w s m i = refl
  conv_same scalars.Pointer (values.Ptr q) w s m i = refl
  conv_same scalars.Pointer values.Null w s m i = refl

  pub converted_value : (at : Pos) (ct : CTypeTree) (ty : Scalar) (x : TExprTree) (a : Lowered) (w : List Item) (s : List Held) (l : low.State) → scalar_of ct ≡ Some ty → IsScalar (given_type x) → Room a.top l
      → Fits p (state (Eval (c.Convert at ct x) ∷ w) s l.memory l.inputs) → simple.ValueSim over p plan runs n f b x a
      → ValueFollows over p n (state (Eval (c.Convert at ct x) ∷ w) s l.memory l.inputs) w s (to_scalar (Some ty) a.value) (run a.before l)
  converted_value at ct ty x a w s l e sc room fits sim =
      let s1 = state (Eval x ∷ Conv (Some ty) ∷ w) s l.memory l.inputs in
      simple.apart over p plan runs n f b _ s1 (calls_in w) (ValueGoal (to_scalar (Some ty) a.value) w s) _ (rw e refl) fits
      (λ g. follows_map over p n s1 (calls_in w) (ValueGoal a.value (Conv (Some ty) ∷ w) s) (ValueGoal (to_scalar (Some ty) a.value) w s) no_way no_way (run a.before l)
      (simple.scalar_value over p plan runs n f b x a s1 (Conv (Some ty) ∷ w) s (run a.before l) sc (sim (Conv (Some ty) ∷ w) s l room g))
      (λ t u leads k.
      let fit = subst (λ z. Fits p z) k.2 (fits_leads p (kept over p plan n runs.typed runs.planned) s1 u leads g) in
      subst (λ z. (v : State) × Leads p z v × ValueGoal (to_scalar (Some ty) a.value) w s t v) (sym k.2)
      (convert_case over p plan n runs.typed runs.planned (state (Conv (Some ty) ∷ w) (held k.0 ∷ s) t.memory t.inputs) w s ty a.value t k.0 (converted_to ty k.0) k.1 refl fit (conv_same ty k.0 w s t.memory t.inputs)))
      (λ k t z. z))

  void_step : (h : Held) (w : List Item) (s : List Held) (m : ObjectMemory) (i : List ℤ) → conv_step None h w s m i ≡ goes w (Plain givens.Nothing ∷ s) m i
  void_step (Plain g) w s m i = refl
  void_step (Struct at v) w s m i = refl

  pub void_value : (at : Pos) (ct : CTypeTree) (x : TExprTree) (a : Lowered) (w : List Item) (s : List Held) (l : low.State) → scalar_of ct ≡ None → Room a.top l
      → Fits p (state (Eval (c.Convert at ct x) ∷ w) s l.memory l.inputs) → simple.ValueSim over p plan runs n f b x a
      → HeldFollows over p n (state (Eval (c.Convert at ct x) ∷ w) s l.memory l.inputs) w s Anything (number 0) (run a.before l)
  void_value at ct x a w s l e room fits sim =
      let s1 = state (Eval x ∷ Conv None ∷ w) s l.memory l.inputs in
      simple.apart over p plan runs n f b _ s1 (calls_in w) (HeldGoal Anything (number 0) w s) _ (rw e refl) fits
      (λ g. follows_map over p n s1 (calls_in w) (HeldGoal (want_of (given_type x)) a.value (Conv None ∷ w) s) (HeldGoal Anything (number 0) w s) no_way no_way (run a.before l) (sim (Conv None ∷ w) s l room g)
      (λ t u leads k. (
        state w (Plain givens.Nothing ∷ s) t.memory t.inputs,
        one p u _ (subst (λ z. step p z ≡ goes w (Plain givens.Nothing ∷ s) t.memory t.inputs) (sym k.2) (void_step k.0 w s t.memory t.inputs)),
        (Plain givens.Nothing, tt, refl),
      ))
      (λ k t z. z))

  -- ---- structs

  pub struct_value : (d : ℕ) (at : Pos) (extent : Extent) (x : TLvalueTree) (e : TExprTree) (a g : Lowered) (w : List Item) (s : List Held) (l : low.State) → simple.lo over p plan runs n f b ≤ d
      → Quiet (Called p f) d a → Quiet (Called p f) a.next g → From (12 * d) a.value → Room (max a.top g.top) l
      → Fits p (state (Addr x ∷ Eval e ∷ CopyAt at extent ∷ w) s l.memory l.inputs) → simple.PlaceSim over p plan runs n f b x a
      → ((t : low.State) (v : Value) → Room g.top t → Fits p (state (Eval e ∷ CopyAt at extent ∷ w) (held v ∷ s) t.memory t.inputs)
      → Follows over p n (state (Eval e ∷ CopyAt at extent ∷ w) (held v ∷ s) t.memory t.inputs) (calls_in w) (SourceGoal over p plan n extent.size extent.align g.value (CopyAt at extent) w (held v ∷ s)) no_way (run g.before t))
      → Follows over p n (state (Addr x ∷ Eval e ∷ CopyAt at extent ∷ w) s l.memory l.inputs) (calls_in w)
      (λ t u. (z : Value) × (value_of a.value t ≡ Some z) × (u ≡ state w (Struct at z ∷ s) t.memory t.inputs)) no_way (run (of_assign_struct at extent.size extent.align a g).before l)
  struct_value d at extent x e a g w s l le qa qg from room fits first second =
      let z = le-max_left a.top g.top in
      let y = le-max_right a.top g.top in
      copied over p plan n runs.typed runs.planned at extent x e a g w s l fits (first (Eval e ∷ CopyAt at extent ∷ w) s l (omega (arith, z, room)) fits)
      (λ t v is h. second t v (let k = simple.room_kept over p plan runs n f b a.before l t (max a.top g.top) is room in omega (arith, y, k)) h)
      (λ t r v is has. simple.kept_value over p plan runs n f b d a g le qa qg from t r v is has)

  -- ---- `op=`, `++` and `--`

  load_as : (ty : Scalar) (s0 : State) (v : Value) → Fits p s0 → IsMade (length s0.memory.blocks) v → judge p.objects (load_looks s0.memory (Some ty) v) ≡ Passes
      → loaded_at s0.memory ty v ≡ loaded_value s0.memory (Some ty) v
  load_as ty s0 (values.Int u k) fits made passes = refl
  load_as ty s0 (values.Ptr q) fits made passes = load_same p.objects s0.memory q ty ((sound p runs.typed s0 fits).fits_at (values.Ptr q) made) passes
  load_as ty s0 values.Null fits made passes = refl

  pub compounded : (d : ℕ) (at at_place : Pos) (x : TLvalueTree) (e : TExprTree) (op : TBinaryOp) (sc : Option Scalar) (a g : Lowered) (w : List Item) (s : List Held) (l : low.State) → IsSome sc → IsScalar (given_type e)
      → simple.lo over p plan runs n f b ≤ d → Quiet (Called p f) d a → Quiet (Called p f) a.next g → From (12 * d) a.value → Room (max (suc (suc g.next)) (max a.top g.top)) l
      → Fits p (state (Addr x ∷ Eval e ∷ Modify at at_place sc op ∷ w) s l.memory l.inputs) → simple.PlaceSim over p plan runs n f b x a → simple.ValueSim over p plan runs n f b e g
      → ValueFollows over p n (state (Addr x ∷ Eval e ∷ Modify at at_place sc op ∷ w) s l.memory l.inputs) w s (of_compound at at_place (or_int sc) op a g).value (run (of_compound at at_place (or_int sc) op a g).before l)
  compounded d at at_place x e op None a g w s l h se le qa qg from room fits first second = absurd (cc)
  compounded d at at_place x e op (Some ty) a g w s l h se le qa qg from room fits first second =
      let goal = ValueGoal (of_compound at at_place ty op a g).value w s in
      let m1 = le-max_left (suc (suc g.next)) (max a.top g.top) in
      let m2 = le-max_right (suc (suc g.next)) (max a.top g.top) in
      let z = le-max_left a.top g.top in
      let y = le-max_right a.top g.top in
      let up = qg.next in
      subst (λ o. Follows over p n (state (Addr x ∷ Eval e ∷ Modify at at_place (Some ty) op ∷ w) s l.memory l.inputs) (calls_in w) goal no_way o)
      (sym (then_assoc (run a.before l) (λ t. run g.before t) (λ r. run (change at at_place ty op g.next a.value g.value) r)))
      (value_then over p plan n runs.typed runs.planned _ (Eval e ∷ Modify at at_place (Some ty) op ∷ w) s a.value _ _ (calls_in w) goal fits refl (first (Eval e ∷ Modify at at_place (Some ty) op ∷ w) s l (omega (arith, z, m2, room)) fits)
      (λ t is v ev k. let big = simple.room_kept over p plan runs n f b a.before l t (max (suc (suc g.next)) (max a.top g.top)) is room in
      value_then over p plan n runs.typed runs.planned _ (Modify at at_place (Some ty) op ∷ w) (held v ∷ s) g.value _ _ (calls_in w) goal k refl
      (simple.scalar_value over p plan runs n f b e g _ (Modify at at_place (Some ty) op ∷ w) (held v ∷ s) (run g.before t) se (second (Modify at at_place (Some ty) op ∷ w) (held v ∷ s) t (omega (arith, y, m2, big)) k))
      (λ r more u eu j. let huge = simple.room_kept over p plan runs n f b g.before t r (max (suc (suc g.next)) (max a.top g.top)) more big in
      modified over p plan n runs.typed runs.planned at at_place ty op times.Before g.next (Modify at at_place (Some ty) op) w (held u ∷ held v ∷ s) s a.value g.value refl r v u
      (simple.kept_value over p plan runs n f b d a g le qa qg from t r v more ev) eu (below_more (12 * a.next) (12 * g.next) (omega (arith, up)) a.value qa.value) qg.value (omega (arith, m1, huge)) j
      (load_as ty (state (Modify at at_place (Some ty) op ∷ w) (held u ∷ held v ∷ s) r.memory r.inputs) v j (needs runs.typed j).0.1) refl)))

  one_value : (stride : Stride) (t : low.State) → value_of (step_one stride) t ≡ Some (operators.one stride)
  one_value (strides.Int k) t = refl
  one_value (strides.Element k) t = refl

  one_below : (hi : ℕ) (stride : Stride) → Below hi (step_one stride)
  one_below hi (strides.Int k) = tt
  one_below hi (strides.Element k) = tt

  pub stepped : (d : ℕ) (at at_place : Pos) (x : TLvalueTree) (time : StepTime) (way : StepWay) (stride : Stride) (sc : Option Scalar) (a : Lowered) (w : List Item) (s : List Held) (l : low.State) → IsSome sc
      → Quiet (Called p f) d a → Room (max (suc (suc a.next)) a.top) l → Fits p (state (Addr x ∷ StepAt at at_place sc time way stride ∷ w) s l.memory l.inputs) → simple.PlaceSim over p plan runs n f b x a
      → ValueFollows over p n (state (Addr x ∷ StepAt at at_place sc time way stride ∷ w) s l.memory l.inputs) w s (of_step at at_place (or_int sc) time way stride a).value
      (run (of_step at at_place (or_int sc) time way stride a).before l)
  stepped d at at_place x time way stride None a w s l h qa room fits first = absurd (cc)
  stepped d at at_place x time way stride (Some ty) a w s l h qa room fits first =
      let goal = ValueGoal (of_step at at_place ty time way stride a).value w s in
      let m1 = le-max_left (suc (suc a.next)) a.top in
      let m2 = le-max_right (suc (suc a.next)) a.top in
      value_then over p plan n runs.typed runs.planned _ (StepAt at at_place (Some ty) time way stride ∷ w) s a.value _ _ (calls_in w) goal fits refl
      (first (StepAt at at_place (Some ty) time way stride ∷ w) s l (omega (arith, m2, room)) fits)
      (λ t is v ev k. let big = simple.room_kept over p plan runs n f b a.before l t (max (suc (suc a.next)) a.top) is room in
      modified over p plan n runs.typed runs.planned at at_place ty (step_operator way stride) time a.next (StepAt at at_place (Some ty) time way stride) w (held v ∷ s) s a.value (step_one stride) refl t v (operators.one stride)
      ev (one_value stride t) qa.value (one_below (12 * a.next) stride) (omega (arith, m1, big)) k
      (load_as ty (state (StepAt at at_place (Some ty) time way stride ∷ w) (held v ∷ s) t.memory t.inputs) v k (needs runs.typed k).0.1) refl)

  -- ---- `&&` and `||`

  -- a bit goes into a temporary
  bit_set : (s0 : State) (w : List Item) (s : List Held) (z : Bool) (k d : ℕ) (t : low.State) → bit z ≡ values.Int ints.Int (pos k) → step p s0 ≡ goes w (held (bit z) ∷ s) t.memory t.inputs → d < length t.temps
      → ValueFollows over p n s0 w s (Temp d) (run (code.Set d (number k)) t)
  bit_set s0 w s z k d t e is room =
      in_temp over p plan n s0 w s d t (values.Int ints.Int (pos k)) room (one p s0 _ (is ∙ ap (λ v. goes w (held v ∷ s) t.memory t.inputs) e))

  bit_value : (d top : ℕ) (test : CsStmtTree) (s0 : State) (w : List Item) (s : List Held) (l : low.State) → Room (max (suc d) top) l
      → (Room top l → Tested over p n s0 (calls_in w) (Bit true w s) (Bit false w s) 0 (run test l))
      → ValueFollows over p n s0 w s (of_bit d test top).value (run (of_bit d test top).before l)
  bit_value d top test s0 w s l room h =
      let z = le-max_left (suc d) top in
      let y = le-max_right (suc d) top in
      let row = in_row (scalars.Int ints.Int) in
      branch_follows over p plan n s0 (calls_in w) (Bit true w s) (Bit false w s) (ValueGoal (of_bit d test top).value w s) test (code.Set (temp_at d (scalars.Int ints.Int)) (number 1)) (code.Set (temp_at d (scalars.Int ints.Int)) (number 0)) l (h (omega (arith, y, room)))
      (λ t u is leads e. bit_set u w s true 1 (temp_at d (scalars.Int ints.Int)) t refl e (let k = simple.room_kept over p plan runs n f b test l t (max (suc d) top) is room in omega (arith, row, k, z)))
      (λ t u is leads e. bit_set u w s false 0 (temp_at d (scalars.Int ints.Int)) t refl e (let k = room_left test l t 0 (max (suc d) top) is room in omega (arith, row, k, z)))

  abbrev Int : Scalar
  Int = scalars.Int ints.Int

  module _ (at : Pos) (x y : TExprTree) (a g : Forms) (sx : IsScalar (given_type x)) (sy : IsScalar (given_type y)) (ma : S x a) (mb : S y g) where
    abbrev Top : ℕ
    Top = max a.value.top g.value.top

    first_room : (l : low.State) → Room Top l → Room a.value.top l
    first_room l room = let z = le-max_left a.value.top g.value.top in omega (arith, z, room)

    second_room : (l : low.State) → Room Top l → Room g.value.top l
    second_room l room = let z = le-max_right a.value.top g.value.top in omega (arith, z, room)

    pub and_unless_bits : (k : ℕ) (w : List Item) (s : List Held) (l : low.State) → Room Top l → Fits p (state (Eval (c.And at x y) ∷ w) s l.memory l.inputs)
        → Tested over p n (state (Eval (c.And at x y) ∷ w) s l.memory l.inputs) (calls_in w) (Bit true w s) (Bit false w s) k (run (unless_and at a g at k) l)
    and_unless_bits k w s l room fits =
        and_unless over p plan n runs.typed runs.planned at x y w s (calls_in w) k l (a.unless at k) (g.unless at k) fits
        (λ h. ma.unless at k (AndThen at (value_scalar x) y) w s (To (Eval y ∷ Truth at (value_scalar y) ∷ w) s) (Bit false w s) l sx (λ v m i. refl) refl (first_room l room) h)
        (λ t is h. mb.unless at k (Truth at (value_scalar y)) w s (Bit true w s) (Bit false w s) t sy (λ v m i. refl) refl (second_room t (simple.room_kept over p plan runs n f b (a.unless at k) l t Top is room)) h)

    pub and_when_bits : (k : ℕ) (w : List Item) (s : List Held) (l : low.State) → Room Top l → Fits p (state (Eval (c.And at x y) ∷ w) s l.memory l.inputs)
        → Tested over p n (state (Eval (c.And at x y) ∷ w) s l.memory l.inputs) (calls_in w) (Bit false w s) (Bit true w s) k (run (when_and at a g at k) l)
    and_when_bits k w s l room fits =
        and_when over p plan n runs.typed runs.planned at x y w s (calls_in w) k l (a.unless at 0) (g.when at (suc k)) fits
        (λ h. ma.unless at 0 (AndThen at (value_scalar x) y) w s (To (Eval y ∷ Truth at (value_scalar y) ∷ w) s) (Bit false w s) l sx (λ v m i. refl) refl (first_room l room) h)
        (λ t is h. mb.when at (suc k) (Truth at (value_scalar y)) w s (Bit true w s) (Bit false w s) t sy (λ v m i. refl) refl (second_room t (simple.room_kept over p plan runs n f b (a.unless at 0) l t Top is room)) h)

    pub or_unless_bits : (k : ℕ) (w : List Item) (s : List Held) (l : low.State) → Room Top l → Fits p (state (Eval (c.Or at x y) ∷ w) s l.memory l.inputs)
        → Tested over p n (state (Eval (c.Or at x y) ∷ w) s l.memory l.inputs) (calls_in w) (Bit true w s) (Bit false w s) k (run (unless_or at a g at k) l)
    or_unless_bits k w s l room fits =
        or_unless over p plan n runs.typed runs.planned at x y w s (calls_in w) k l (a.when at 0) (g.unless at (suc k)) fits
        (λ h. ma.when at 0 (OrElse at (value_scalar x) y) w s (Bit true w s) (To (Eval y ∷ Truth at (value_scalar y) ∷ w) s) l sx (λ v m i. refl) refl (first_room l room) h)
        (λ t is h. mb.unless at (suc k) (Truth at (value_scalar y)) w s (Bit true w s) (Bit false w s) t sy (λ v m i. refl) refl (second_room t (simple.room_kept over p plan runs n f b (a.when at 0) l t Top is room)) h)

    pub or_when_bits : (k : ℕ) (w : List Item) (s : List Held) (l : low.State) → Room Top l → Fits p (state (Eval (c.Or at x y) ∷ w) s l.memory l.inputs)
        → Tested over p n (state (Eval (c.Or at x y) ∷ w) s l.memory l.inputs) (calls_in w) (Bit false w s) (Bit true w s) k (run (when_or at a g at k) l)
    or_when_bits k w s l room fits =
        or_when over p plan n runs.typed runs.planned at x y w s (calls_in w) k l (a.when at k) (g.when at k) fits
        (λ h. ma.when at k (OrElse at (value_scalar x) y) w s (Bit true w s) (To (Eval y ∷ Truth at (value_scalar y) ∷ w) s) l sx (λ v m i. refl) refl (first_room l room) h)
        (λ t is h. mb.when at k (Truth at (value_scalar y)) w s (Bit true w s) (Bit false w s) t sy (λ v m i. refl) refl (second_room t (simple.room_kept over p plan runs n f b (a.when at k) l t Top is room)) h)

    -- a bit is tested where an item tests an int
    on_bits : (s0 : State) (from : Pos) (item : Item) (w : List Item) (s : List Held) (so not_so : Onward) (k : ℕ) (o : Outcome) → IsTest p from (Some Int) item w s so not_so
        → Tested over p n s0 (calls_in (item ∷ w)) (Bit true (item ∷ w) s) (Bit false (item ∷ w) s) k o → Tested over p n s0 (calls_in (item ∷ w)) so not_so k o
    on_bits s0 from item w s so not_so k o test h =
        tested_on over p plan n runs.typed runs.planned s0 (calls_in (item ∷ w)) (item ∷ w) (item ∷ w) (held (bit true) ∷ s) (held (bit false) ∷ s) so not_so k o (λ m i. test (bit true) m i) (λ m i. test (bit false) m i) h

    off_bits : (s0 : State) (from : Pos) (item : Item) (w : List Item) (s : List Held) (so not_so : Onward) (k : ℕ) (o : Outcome) → IsTest p from (Some Int) item w s so not_so
        → Tested over p n s0 (calls_in (item ∷ w)) (Bit false (item ∷ w) s) (Bit true (item ∷ w) s) k o → Tested over p n s0 (calls_in (item ∷ w)) not_so so k o
    off_bits s0 from item w s so not_so k o test h =
        tested_on over p plan n runs.typed runs.planned s0 (calls_in (item ∷ w)) (item ∷ w) (item ∷ w) (held (bit false) ∷ s) (held (bit true) ∷ s) not_so so k o (λ m i. test (bit false) m i) (λ m i. test (bit true) m i) h

    pub and_sims : (d : ℕ) → S (c.And at x y) (Rattle.lower_trees.specs.LowerExpr.of_and d at a g)
    and_sims d = record {
      value = λ w s l room fits. let o = of_bit d (unless_and at a g at 0) Top in
          let s0 = state (Eval (c.And at x y) ∷ w) s l.memory l.inputs in
          from_value over p plan n s0 w s Int (Of Int) o.value (run o.before l) refl (bit_value d Top (unless_and at a g at 0) s0 w s l room (λ enough. and_unless_bits 0 w s l enough fits));
      unless = λ from k item w s so not_so l sc test chain room fits. on_bits _ from item w s so not_so k _ test (and_unless_bits k (item ∷ w) s l (inner d l room) fits);
      when = λ from k item w s so not_so l sc test chain room fits. off_bits _ from item w s so not_so k _ test (and_when_bits k (item ∷ w) s l (inner d l room) fits);
      source = λ size align item w s l st. absurd st;
    } where
      inner : (d : ℕ) (l : low.State) → Room (max (suc d) Top) l → Room Top l
      inner d l room = let z = le-max_right (suc d) Top in omega (arith, z, room)

    pub or_sims : (d : ℕ) → S (c.Or at x y) (Rattle.lower_trees.specs.LowerExpr.of_or d at a g)
    or_sims d = record {
      value = λ w s l room fits. let o = of_bit d (unless_or at a g at 0) Top in
          let s0 = state (Eval (c.Or at x y) ∷ w) s l.memory l.inputs in
          from_value over p plan n s0 w s Int (Of Int) o.value (run o.before l) refl (bit_value d Top (unless_or at a g at 0) s0 w s l room (λ enough. or_unless_bits 0 w s l enough fits));
      unless = λ from k item w s so not_so l sc test chain room fits. on_bits _ from item w s so not_so k _ test (or_unless_bits k (item ∷ w) s l (inner d l room) fits);
      when = λ from k item w s so not_so l sc test chain room fits. off_bits _ from item w s so not_so k _ test (or_when_bits k (item ∷ w) s l (inner d l room) fits);
      source = λ size align item w s l st. absurd st;
    } where
      inner : (d : ℕ) (l : low.State) → Room (max (suc d) Top) l → Room Top l
      inner d l room = let z = le-max_right (suc d) Top in omega (arith, z, room)
