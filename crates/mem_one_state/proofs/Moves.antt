-- An action that takes no input takes states that are the same but for their inputs to such states.
use Rattle.std.proofs.Common.{◌≡◌, ℕ, refl, sym, subst, ap, ◌∙◌, List, Option, Some, None}
use Rattle.std.specs.Prelude.{option_and_then, option_map, IfSome, IfOk, IsOkAnd, slice_set, Result, Ok, Err}
use Rattle.c_syntax.specs.Types.{ObjectTree}
use Rattle.block_mem.specs.declared.types.Scalar.{Scalar}
use Rattle.block_mem.specs.declared.types.Value.{Value}
use Rattle.c_values.specs.Places.{ObjectMemory}
use Rattle.c_objects.specs.Opening.{open_all, shut_all, undefined}
use Rattle.c_objects.specs.Writing.{stored_at, copied_at}
use Rattle.csharp.specs.Trees.{CsExprTree}
use Rattle.csharp.specs.States.{State, value_of, on_both}
use Rattle.csharp.specs.Actions as acts
use Rattle.csharp.specs.Actions.{put, with_memory, loaded_at}
use Rattle.csharp_state.specs.Answers.{Took}
use Rattle.csharp_state.specs.declared.state.Step.{Step}
use Rattle.csharp_state.specs.declared.state.Step.TheVariants as steps
use Rattle.mem_one_state.specs.One.{IsSame, IsOf, left_by}
use Rattle.mem_one_state.proofs.Inputs.{value_same, on_value, on_two}

-- ---- the actions

-- two actions that do the same to the states they are in
by : {A : Type 0} (f g : A → State) (o p : Option A) → o ≡ p → ((a : A) → IsSame (f a) (g a)) → (u : State) → option_map g p ≡ Some u
    → IfSome (option_map f o) (λ v. IsSame v u)
by f g o None e each u h = absurd (cc)
by f g o (Some a) e each u h =
    let same : g a ≡ u = cc in
    subst (λ p. IfSome (option_map f p) (λ v. IsSame v u)) (sym e) (subst (IsSame (f a)) same (each a))

-- what an action comes to from each of two states
abbrev pub Agrees : (State → Option State) → Type 0
Agrees act = (t s u : State) → IsSame t s → act s ≡ Some u → IfSome (act t) (λ v. IsSame v u)

put_same : (d : ℕ) (v : Value) (t s : State) → IsSame t s → IsSame (put t d v) (put s d v)
put_same d v t s h = record { temps = ap (λ (vs : List Value). slice_set vs d v) h.temps; memory = h.memory }

memory_same : (m : ObjectMemory) (t s : State) → IsSame t s → IsSame (record t { memory = m }) (record s { memory = m })
memory_same m t s h = record { temps = h.temps; memory = refl }

pub sets : (d : ℕ) (e : CsExprTree) → Agrees (acts.set d e)
sets d e t s u h g = by (put t d) (put s d) (value_of e t) (value_of e s) (value_same e t s h) (λ v. put_same d v t s h) u g

pub loads : (d : ℕ) (ty : Scalar) (e : CsExprTree) → Agrees (acts.load d ty e)
loads d ty e t s u h g = by (put t d) (put s d) (option_and_then (loaded_at t.memory ty) (value_of e t)) (option_and_then (loaded_at s.memory ty) (value_of e s))
    (on_value (λ m. loaded_at m ty) e t s h) (λ v. put_same d v t s h) u g

pub stores : (ty : Scalar) (e f : CsExprTree) → Agrees (acts.store ty e f)
stores ty e f t s u h g = by (λ (m : ObjectMemory). record t { memory = m }) (λ (m : ObjectMemory). record s { memory = m })
    (on_both e f t (stored_at t.memory ty)) (on_both e f s (stored_at s.memory ty)) (on_two (λ m. stored_at m ty) e f t s h) (λ m. memory_same m t s h) u g

pub copies : (n : ℕ) (e f : CsExprTree) → Agrees (acts.copy_bytes n e f)
copies n e f t s u h g = by (λ (m : ObjectMemory). record t { memory = m }) (λ (m : ObjectMemory). record s { memory = m })
    (on_both e f t (λ v w. copied_at t.memory v w n)) (on_both e f s (λ v w. copied_at s.memory v w n))
    (on_two (λ m v w. copied_at m v w n) e f t s h) (λ m. memory_same m t s h) u g

pub undefines : (x : ℕ) → Agrees (acts.undefine x)
undefines x t s u h g = by (λ (m : ObjectMemory). record t { memory = m }) (λ (m : ObjectMemory). record s { memory = m })
    (undefined t.memory x) (undefined s.memory x) (ap (λ (m : ObjectMemory). undefined m x) h.memory) (λ m. memory_same m t s h) u g

pub enters : (objects : List ObjectTree) (xs : List ℕ) (t s : State) → IsSame t s → IsSame (acts.enter objects xs t) (acts.enter objects xs s)
enters objects xs t s h = record { temps = h.temps; memory = ap (λ (m : ObjectMemory). open_all objects m xs) h.memory }

pub leaves : (xs : List ℕ) (t s : State) → IsSame t s → IsSame (acts.leave xs t) (acts.leave xs s)
leaves xs t s h = record { temps = h.temps; memory = ap (λ (m : ObjectMemory). shut_all m xs) h.memory }

-- ---- none of them takes an input

inputs_by : {A : Type 0} (f : A → State) (o : Option A) (s t : State) → ((a : A) → (f a).inputs ≡ s.inputs) → option_map f o ≡ Some t → t.inputs ≡ s.inputs
inputs_by f None s t each h = absurd (cc)
inputs_by f (Some a) s t each h = let same : f a ≡ t = cc in sym (ap (λ (u : State). u.inputs) same) ∙ each a

pub sets_inputs : (d : ℕ) (e : CsExprTree) (s t : State) → acts.set d e s ≡ Some t → t.inputs ≡ s.inputs
sets_inputs d e s t h = inputs_by (put s d) (value_of e s) s t (λ v. refl) h

pub loads_inputs : (d : ℕ) (ty : Scalar) (e : CsExprTree) (s t : State) → acts.load d ty e s ≡ Some t → t.inputs ≡ s.inputs
loads_inputs d ty e s t h = inputs_by (put s d) (option_and_then (loaded_at s.memory ty) (value_of e s)) s t (λ v. refl) h

pub stores_inputs : (ty : Scalar) (e f : CsExprTree) (s t : State) → acts.store ty e f s ≡ Some t → t.inputs ≡ s.inputs
stores_inputs ty e f s t h =
    inputs_by (λ (m : ObjectMemory). record s { memory = m }) (on_both e f s (stored_at s.memory ty)) s t (λ m. refl) h

pub copies_inputs : (n : ℕ) (e f : CsExprTree) (s t : State) → acts.copy_bytes n e f s ≡ Some t → t.inputs ≡ s.inputs
copies_inputs n e f s t h =
    inputs_by (λ (m : ObjectMemory). record s { memory = m }) (on_both e f s (λ v w. copied_at s.memory v w n)) s t (λ m. refl) h

pub undefines_inputs : (x : ℕ) (s t : State) → acts.undefine x s ≡ Some t → t.inputs ≡ s.inputs
undefines_inputs x s t h = inputs_by (λ (m : ObjectMemory). record s { memory = m }) (undefined s.memory x) s t (λ m. refl) h

-- ---- what is left of the one state

-- the state behind the action, where there is one
pub behind : (act : State → Option State) (step : Step) (t n : State) → Took step t n (act t) → left_by step n ≡ act t
behind act steps.Done t n h = sym h
behind act steps.Barred t n h = sym h.0

pub stands_behind : (act : State → Option State) → Agrees act → (t : State) (one : Option State) → one ≡ act t
    → (s u : State) → IsSame t s → act s ≡ Some u → IsOf one u
stands_behind act agrees t one e s u h g = subst (λ o. IsOf o u) (sym e) (agrees t s u h g)

-- what is kept of a step that may give up
pub settled : {E : Type 0} (act : State → Option State) → Agrees act → (old one : Option State) (t n : State) (step : Result Step E) → old ≡ Some t
    → IfOk step (λ d. Took d t n (act t)) → IsOkAnd step (λ d. one ≡ left_by d n) → (s u : State) → IsOf old s → act s ≡ Some u → IsOf one u
settled act agrees old one t n (Ok d) e took kept s u h g =
    stands_behind act agrees t one (kept ∙ behind act d t n took) s u (subst (λ o. IsOf o s) e h) g
settled act agrees old one t n (Err x) e took kept s u h g = absurd kept
