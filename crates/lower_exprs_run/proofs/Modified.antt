-- `op=`, `++` and `--`: one step of the machine, and a load, an operator and a store of the code.
use Rattle.std.proofs.Common.{◌≡◌, ℕ, zero, suc, Bool, ◌*◌, ◌<◌, ◌≤◌, List, [], ◌∷◌, length, Option, Some, None, refl, ◌∙◌, ap, arith}
use Rattle.std.specs.Prelude.{slice_get, slice_set}
use Rattle.c_syntax_written.specs.declared.place.Pos.{Pos}
use Rattle.c_syntax.specs.declared.operator.StepTime.{StepTime}
use Rattle.c_syntax.specs.declared.operator.StepTime.TheVariants as times
use Rattle.c_syntax.specs.declared.operator.TBinaryOp.{TBinaryOp}
use Rattle.c_syntax.specs.declared.program.Plan.{Plan}
use Rattle.c_syntax.specs.Program.{TProgramTree}
use Rattle.c_layout.specs.Checks.{load_checks, store_checks, binary_checks}
use Rattle.c_layout.specs.Plans.{IsPlanFor}
use Rattle.c_layout.specs.WellTyped.{IsWellTyped}
use Rattle.block_mem.specs.declared.types.Scalar.{Scalar}
use Rattle.block_mem.specs.declared.types.Scalar.TheVariants as scalars
use Rattle.block_mem.specs.declared.types.Value.{Value}
use Rattle.block_mem.specs.declared.types.Value.TheVariants as values
use Rattle.c_values.specs.Accesses.{load_looks, store_looks, loaded_value}
use Rattle.c_values.specs.Looks.{Passes, judge}
use Rattle.c_values.specs.Operators.{binary_looks, binary_result}
use Rattle.c_values.specs.Places.{ObjectMemory}
use Rattle.c_values.specs.Typed.{binary_type}
use Rattle.c_values.specs.Values.{plain_type}
use Rattle.c_objects.specs.Writing.{stored_at}
use Rattle.c_steps.specs.Work.{Item}
use Rattle.c_steps.specs.States.{Held, State, state, Next, goes, held, judged, with_some}
use Rattle.c_steps.specs.Steps.{step}
use Rattle.c_steps.specs.Changes.{left_type, as_scalar, given_of, modify_step, store_step}
use Rattle.c_steps.specs.Runs.{calls_in, chain_of}
use Rattle.c_steps_laws.specs.Fits.{Fits}
use Rattle.c_steps_laws.proofs.NeededRuns.{fitting_states_step}
use Rattle.csharp.specs.Trees as code
use Rattle.csharp.specs.Trees.{CsExprTree, Const, Null, Temp, Address, Unary, Binary, Convert}
use Rattle.csharp.specs.States as low
use Rattle.csharp.specs.States.{value_of}
use Rattle.csharp.specs.Actions.{put, loaded_at}
use Rattle.csharp.specs.Outcomes.{then_do}
use Rattle.lower_trees.specs.Temps.{temp_at}
use Rattle.lower_trees.specs.Checking.{checks, access_one, plain_one, binary_one, load_list, store_list, binary_list}
use Rattle.lower_trees.specs.LowerExpr.{to_scalar, changed_left, changed_new, change, given_term}
use Rattle.lower_rows.proofs.Steps.{Follows, one}
use Rattle.lower_rows.proofs.Rows.{ValueGoal, ValueFollows, no_way, run, all_mapped, checks_follow, outcome_judged, as_it_is, set_here, checks_judged, looks_load, looks_store}
use Rattle.lower_rows.proofs.Operators.{value_taken}
use Rattle.lower_quiet.specs.Quiet.{Below}
use Rattle.lower_quiet.proofs.Puts.{in_row, temp_below, below_more}
use Rattle.lower_exprs_run.proofs.Operations.{alike, taken}

-- ---- what a temporary that is set leaves alone

pub set_other : {A : Type 0} (xs : List A) (i j : ℕ) (a : A) → (j ≡ i → ⊥) → slice_get (slice_set xs i a) j ≡ slice_get xs j
set_other [] i j a n = refl
set_other (x ∷ xs) zero zero a n = absurd (n refl)
set_other (x ∷ xs) zero (suc j) a n = refl
set_other (x ∷ xs) (suc i) zero a n = refl
set_other (x ∷ xs) (suc i) (suc j) a n = set_other xs i j a (λ e. n (ap suc e))

pub set_length : {A : Type 0} (xs : List A) (i : ℕ) (a : A) → length (slice_set xs i a) ≡ length xs
set_length [] i a = refl
set_length (x ∷ xs) zero a = refl
set_length (x ∷ xs) (suc i) a = ap suc (set_length xs i a)

pub put_leaves : (hi i : ℕ) (e : CsExprTree) (t : low.State) (v : Value) → Below hi e → hi ≤ i → value_of e (put t i v) ≡ value_of e t
put_leaves hi i (Const ty k) t v b le = refl
put_leaves hi i Null t v b le = refl
put_leaves hi i (Temp j) t v b le = set_other t.temps i j v (λ e. omega (arith, b, le, e))
put_leaves hi i (Address x) t v b le = refl
put_leaves hi i (Unary op a) t v b le = rw (put_leaves hi i a t v b le) refl
put_leaves hi i (Binary op a c) t v b le = rw (put_leaves hi i a t v b.0 le) (rw (put_leaves hi i c t v b.1 le) refl)
put_leaves hi i (Convert ty a) t v b le = rw (put_leaves hi i a t v b le) refl

-- a value at a scalar type, as the machine has it
as_value : (o : Option Scalar) (a : CsExprTree) (t : low.State) (v z : Value) → value_of a t ≡ Some v → as_scalar o v ≡ Some z → value_of (to_scalar o a) t ≡ Some z
as_value None a t v z e f = absurd (cc)
as_value (Some (scalars.Int k)) a t v z e f = rw e f
as_value (Some scalars.Pointer) a t (values.Int k m) z e f = absurd (cc)
as_value (Some scalars.Pointer) a t (values.Ptr q) z e f = e ∙ f
as_value (Some scalars.Pointer) a t values.Null z e f = e ∙ f

-- a value of a temporary at a type does not look at memory
temp_value : (o : Option Scalar) (d : ℕ) (t : low.State) (m : ObjectMemory) → value_of (to_scalar o (Temp d)) (record t { memory = m }) ≡ value_of (to_scalar o (Temp d)) t
temp_value None d t m = refl
temp_value (Some (scalars.Int k)) d t m = refl
temp_value (Some scalars.Pointer) d t m = refl

module _ (over : ℕ → Bool) (p : TProgramTree) (plan : Plan) (n : ℕ) (ok : IsWellTyped p) (planned : IsPlanFor p plan) where
  -- what comes behind something that is there, since the machine does not stand
  pub there_is : {A : Type 0} (s0 : State) (o : Option A) (next : A → Next) → Fits p s0 → step p s0 ≡ with_some o next → (a : A) × (o ≡ Some a) × (step p s0 ≡ next a)
  there_is s0 None next fits e = absurd (fitting_states_step p plan ok planned s0 fits e)
  there_is s0 (Some a) next fits e = (a, refl, e)

  given_value : (time : StepTime) (ty : Scalar) (op : TBinaryOp) (d : ℕ) (t : low.State) (m : ObjectMemory) (old new : Value) → value_of (Temp (temp_at d ty)) t ≡ Some old → value_of (changed_new op ty d) t ≡ Some new
      → value_of (given_term time (Temp (temp_at d ty)) (changed_new op ty d)) (record t { memory = m }) ≡ Some (given_of time old new)
  given_value times.Before ty op d t m old new e f = temp_value (Some ty) (temp_at (suc d) (binary_type op)) t m ∙ f
  given_value times.After ty op d t m old new e f = e

  module _ (at at_place : Pos) (ty : Scalar) (op : TBinaryOp) (time : StepTime) (d : ℕ) (item : Item) (w : List Item) (stack s : List Held) (place ue : CsExprTree) (chained : chain_of (item ∷ w) ≡ calls_in w) where
    abbrev result_at : ℕ
    result_at = temp_at (suc d) (binary_type op)

    abbrev goal : low.State → State → Type 0
    goal = ValueGoal (given_term time (Temp (temp_at d ty)) (changed_new op ty d)) w s

    -- the store
    put_back : (t : low.State) (v old new : Value) → value_of place t ≡ Some v → value_of (Temp (temp_at d ty)) t ≡ Some old → value_of (changed_new op ty d) t ≡ Some new
        → Fits p (state (item ∷ w) stack t.memory t.inputs)
        → step p (state (item ∷ w) stack t.memory t.inputs) ≡ store_step p.objects at_place (Some ty) v new (given_of time old new) w s t.memory t.inputs
        → Follows over p n (state (item ∷ w) stack t.memory t.inputs) (calls_in w) goal no_way
        (then_do (run over p plan n (checks (store_list at_place ty place)) t) (λ r. run over p plan n (code.Store ty place (changed_new op ty d)) r))
    put_back t v old new ep eo en fits e =
        checks_follow over p plan n item w stack t at_place (store_list at_place ty place) (store_looks t.memory (Some ty) v)
        (with_some (stored_at t.memory ty v new) (λ m. goes w (held (given_of time old new) ∷ s) m t.inputs)) _ (calls_in w) goal no_way
        (all_mapped over p plan n at_place (plain_one at_place place) (λ c. refl) (store_checks (plain_type (Some ty)))) (looks_store at_place ty place t v ep) chained e
        (λ passes f.
        let m = there_is (state (item ∷ w) stack t.memory t.inputs) (stored_at t.memory ty v new) (λ m. goes w (held (given_of time old new) ∷ s) m t.inputs) fits f in
        rw ep (rw en (rw (m.1) (as_it_is over p plan n _ w s (given_term time (Temp (temp_at d ty)) (changed_new op ty d)) (record t { memory = m.0 }) (given_of time old new)
        (given_value time ty op d t m.0 old new eo en) (one p _ _ m.2)))))

    -- the operator
    operated_on : (t : low.State) (v u old left : Value) → value_of place t ≡ Some v → value_of ue t ≡ Some u → value_of (Temp (temp_at d ty)) t ≡ Some old → value_of (changed_left op ty d) t ≡ Some left
        → Below (12 * suc d) place → Below (12 * suc d) (Temp (temp_at d ty)) → result_at < length t.temps → Fits p (state (item ∷ w) stack t.memory t.inputs)
        → step p (state (item ∷ w) stack t.memory t.inputs) ≡ judged (judge p.objects (binary_looks t.memory op left u)) at
        (with_some (binary_result op left u) (λ result. with_some (as_scalar (Some ty) result) (λ new. store_step p.objects at_place (Some ty) v new (given_of time old new) w s t.memory t.inputs)))
        → Follows over p n (state (item ∷ w) stack t.memory t.inputs) (calls_in w) goal no_way
        (then_do (run over p plan n (checks (binary_list at op (changed_left op ty d) ue)) t) (λ r. run over p plan n (code.Sequence (code.Set result_at (Binary op (changed_left op ty d) ue))
        (code.Sequence (checks (store_list at_place ty place)) (code.Store ty place (changed_new op ty d)))) r))
    operated_on t v u old left ep eu eo el bp bo room fits e =
        let s0 = state (item ∷ w) stack t.memory t.inputs in
        checks_judged over p plan n item w stack t at (binary_list at op (changed_left op ty d) ue) (binary_looks t.memory op left u)
        (with_some (binary_result op left u) (λ result. with_some (as_scalar (Some ty) result) (λ new. store_step p.objects at_place (Some ty) v new (given_of time old new) w s t.memory t.inputs)))
        (λ r. run over p plan n (code.Sequence (code.Set result_at (Binary op (changed_left op ty d) ue)) (code.Sequence (checks (store_list at_place ty place)) (code.Store ty place (changed_new op ty d)))) r)
        (calls_in w) goal no_way (all_mapped over p plan n at (binary_one at op (changed_left op ty d) ue) (λ c. refl) (binary_checks op)) (alike p.objects at (changed_left op ty d) ue t left el op u eu) chained e
        (λ passes f.
        let r = there_is s0 (binary_result op left u) (λ result. with_some (as_scalar (Some ty) result) (λ new. store_step p.objects at_place (Some ty) v new (given_of time old new) w s t.memory t.inputs)) fits f in
        let z = there_is s0 (as_scalar (Some ty) r.0) (λ new. store_step p.objects at_place (Some ty) v new (given_of time old new) w s t.memory t.inputs) fits r.2 in
        let is : value_of (Binary op (changed_left op ty d) ue) t ≡ Some r.0 = value_taken op (changed_left op ty d) ue t left u el eu (taken p.objects t.memory op left u passes) ∙ r.1 in
        let low' : 12 * suc d ≤ result_at = omega arith in
        rw is (put_back (put t result_at r.0) v old z.0 (put_leaves (12 * suc d) result_at place t r.0 bp low' ∙ ep) (put_leaves (12 * suc d) result_at (Temp (temp_at d ty)) t r.0 bo low' ∙ eo)
        (as_value (Some ty) (Temp result_at) (put t result_at r.0) r.0 z.0 (set_here t.temps result_at r.0 room) z.1) fits z.2))

    -- the whole: what is loaded, the operator, and the store
    pub modified : (t : low.State) (v u : Value) → value_of place t ≡ Some v → value_of ue t ≡ Some u → Below (12 * d) place → Below (12 * d) ue → 12 * suc (suc d) ≤ length t.temps
        → Fits p (state (item ∷ w) stack t.memory t.inputs)
        → (judge p.objects (load_looks t.memory (Some ty) v) ≡ Passes → loaded_at t.memory ty v ≡ loaded_value t.memory (Some ty) v)
        → step p (state (item ∷ w) stack t.memory t.inputs) ≡ modify_step p.objects at at_place (Some ty) op time v u w s t.memory t.inputs
        → ValueFollows over p n (state (item ∷ w) stack t.memory t.inputs) w s (given_term time (Temp (temp_at d ty)) (changed_new op ty d)) (run over p plan n (change at at_place ty op d place ue) t)
    modified t v u ep eu bp bu room fits same e =
        let s0 = state (item ∷ w) stack t.memory t.inputs in
        let after = λ (left : Value) (old : Value). with_some (binary_result op left u) (λ result. with_some (as_scalar (Some ty) result) (λ new. store_step p.objects at_place (Some ty) v new (given_of time old new) w s t.memory t.inputs)) in
        checks_follow over p plan n item w stack t at_place (load_list at_place ty place) (load_looks t.memory (Some ty) v) _ _ (calls_in w) goal no_way
        (all_mapped over p plan n at_place (access_one at_place ty place) (λ c. refl) (load_checks (plain_type (Some ty)))) (looks_load at_place ty place t v ep) chained
        (e ∙ outcome_judged (judge p.objects (load_looks t.memory (Some ty) v)) (loaded_value t.memory (Some ty) v) at_place _)
        (λ passes f.
        let old = there_is s0 (loaded_value t.memory (Some ty) v) _ fits f in
        let left = there_is s0 (as_scalar (left_type op (Some ty)) old.0) _ fits old.2 in
        let row = in_row ty in
        let free : temp_at d ty < length t.temps = omega (arith, row, room) in
        let kept : (c : CsExprTree) → Below (12 * d) c → value_of c (put t (temp_at d ty) old.0) ≡ value_of c t = λ c below. put_leaves (12 * d) (temp_at d ty) c t old.0 below (omega arith) in
        let here : value_of (Temp (temp_at d ty)) (put t (temp_at d ty) old.0) ≡ Some old.0 = set_here t.temps (temp_at d ty) old.0 free in
        let many = set_length t.temps (temp_at d ty) old.0 in
        let top = in_row (binary_type op) in
        rw ep (rw (same passes ∙ old.1) (operated_on (put t (temp_at d ty) old.0) v u old.0 left.0 (kept place bp ∙ ep) (kept ue bu ∙ eu) here
        (as_value (left_type op (Some ty)) (Temp (temp_at d ty)) (put t (temp_at d ty) old.0) old.0 left.0 here left.1)
        (below_more (12 * d) (12 * suc d) (omega arith) place bp) (temp_below d ty) (omega (arith, top, many, room)) fits
        (left.2 ∙ outcome_judged (judge p.objects (binary_looks t.memory op left.0 u)) (binary_result op left.0 u) at _))))
