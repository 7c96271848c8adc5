-- What the calls that change a set leave of its states, and of the one state of a sharp set.
use Rattle.std.proofs.Common.{◌≡◌, ℕ, ℤ, ◌<◌, refl, sym, subst, Bool, List, [], ◌∷◌, Option, Some}
use Rattle.std.specs.Prelude.{All, IsTrue, option_and_then, slice_get, slice_set}
use Rattle.std.proofs.lemmas.List.Elements.{All-head}
use Rattle.c_syntax_written.specs.declared.int_type.IntType.{IntType}
use Rattle.c_syntax_written.specs.Integer.{wrapped}
use Rattle.block_mem.specs.declared.types.Scalar.{Scalar}
use Rattle.block_mem.specs.declared.types.Scalar.TheVariants as scalars
use Rattle.block_mem.specs.declared.types.Value.{Value}
use Rattle.block_mem.specs.declared.types.Value.TheVariants as values
use Rattle.c_values.specs.Places.{ObjectMemory}
use Rattle.c_values.specs.Values.{truth}
use Rattle.c_objects.specs.Opening.{open_all, shut_all}
use Rattle.num_api.specs.declared.message.Range.{Range}
use Rattle.num_api.specs.Ranges.{InRange, all_numbers}
use Rattle.num_api.specs.Spans.{range_of}
use Rattle.num_api.specs.Value.{has_truth}
use Rattle.machine_nums.specs.Rule.{type_span}
use Rattle.machine_nums.proofs.Values.{has-wrapped}
use Rattle.machine_nums.proofs.Wrapped.{has_inside}
use Rattle.csharp.specs.Trees.{CsExprTree, CsStmtTree, CsProgramTree, none}
use Rattle.csharp.specs.Trees as code
use Rattle.csharp.specs.Formed.{AreOperandsTyped}
use Rattle.csharp.specs.States.{State, value_of}
use Rattle.csharp.specs.Actions as acts
use Rattle.csharp.specs.Actions.{put, loaded_at, are_free}
use Rattle.mem_api.specs.Given.{IsOf}
use Rattle.mem_api.proofs.Owning.{owned_open_all, owned_shut_all}
use Rattle.mem_temps.specs.Values.{number_of}
use Rattle.mem_temps.specs.Exprs.{IsRangeOf}
use Rattle.mem_intervals.specs.Passed.{Remembered, IsPassed}
use Rattle.mem_intervals.specs.Known.{IsKnownRange}
use Rattle.mem_temps.specs.Sets.{IsSharp, Stands}
use Rattle.mem_temps.proofs.Ranged.{and_then_some, map_some}
use Rattle.mem_intervals.proofs.ValueKinds.{value_kind, loaded_kind}
use Rattle.mem_intervals.proofs.Steps.{put_stands, rest_stands, memory_stands, places_opened, places_shut, in_all}
use Rattle.mem_intervals.proofs.Starts.{set_sharp, truths_agree}

-- ---- temporaries

set_own : (q : CsProgramTree) (objects : ℕ) (rs : List Range) (passed : Option Remembered) (d : ℕ) (e : CsExprTree) (found : Range) → IsOf q (code.Set d e)
    → IsKnownRange rs passed e found → (s t : State) → Stands objects q.temps rs s → IsPassed passed s → acts.set d e s ≡ Some t
    → Stands objects q.temps (slice_set rs d found) t
set_own q objects rs passed d e found given f s t h k g =
    let v = map_some (put s d) (value_of e s) t g in let row = given.typed.1 in
    subst (Stands objects q.temps (slice_set rs d found)) v.2
    (put_stands objects q.temps rs s d row.0 v.0 found h row.2 (value_kind q s h.kinds e row.0 v.0 row.1 v.1) (f.holds s v.0 h.temps k v.1))

module _ (q : CsProgramTree) (objects : ℕ) (types : List Scalar) (same : q.temps ≡ types) (rs new : List Range) where
  pub set_keeps : (passed : Option Remembered) (d : ℕ) (e : CsExprTree) (found : Range) → new ≡ slice_set rs d found → IsOf q (code.Set d e)
      → IsKnownRange rs passed e found → (s t : State) → Stands objects types rs s → IsPassed passed s → acts.set d e s ≡ Some t → Stands objects types new t
  set_keeps passed d e found is given f =
      subst (λ (ts : List Scalar). (s t : State) → Stands objects ts rs s → IsPassed passed s → acts.set d e s ≡ Some t → Stands objects ts new t) same
      (subst (λ (xs : List Range). (s t : State) → Stands objects q.temps rs s → IsPassed passed s → acts.set d e s ≡ Some t → Stands objects q.temps xs t) (sym is)
      (set_own q objects rs passed d e found given f))

  pub set_alone : (passed : Option Remembered) (d : ℕ) (e : CsExprTree) (found : Range) → new ≡ slice_set rs d found → IsOf q (code.Set d e)
      → IsKnownRange rs passed e found → (s t : State) → IsSharp objects types rs s → IsPassed passed s → acts.set d e s ≡ Some t → IsSharp objects types new t
  set_alone passed d e found is given f =
      subst (λ (ts : List Scalar). (s t : State) → IsSharp objects ts rs s → IsPassed passed s → acts.set d e s ≡ Some t → IsSharp objects ts new t) same
      (subst (λ (xs : List Range). (s t : State) → IsSharp objects q.temps rs s → IsPassed passed s → acts.set d e s ≡ Some t → IsSharp objects q.temps xs t) (sym is)
      (λ s t h k g. set_sharp q objects rs s h passed k d e found given.typed.1.0 t (All-head (AreOperandsTyped q) e [] given.typed.0) given.typed.1.1 given.typed.1.2 f g))

  pub load_keeps : (d : ℕ) (ty : Scalar) (e : CsExprTree) → new ≡ slice_set rs d all_numbers → IsOf q (code.Load d ty e) → (s t : State)
      → Stands objects types rs s → acts.load d ty e s ≡ Some t → Stands objects types new t
  load_keeps d ty e is given = subst (λ (ts : List Scalar). (s t : State) → Stands objects ts rs s → acts.load d ty e s ≡ Some t → Stands objects ts new t) same
      (subst (λ (xs : List Range). (s t : State) → Stands objects q.temps rs s → acts.load d ty e s ≡ Some t → Stands objects q.temps xs t) (sym is) (λ s t h g.
      let v = map_some (put s d) (option_and_then (loaded_at s.memory ty) (value_of e s)) t g in
      let a = and_then_some (loaded_at s.memory ty) (value_of e s) v.0 v.1 in
      subst (Stands objects q.temps (slice_set rs d all_numbers)) v.2
      (put_stands objects q.temps rs s d ty v.0 all_numbers h given.typed.1.1 (loaded_kind s.memory ty a.0 v.0 a.2) (in_all (number_of v.0)))))

input_own : (types : List Scalar) (objects : ℕ) (rs : List Range) (d : ℕ) (ty : IntType) → slice_get types d ≡ Some (scalars.Int ty)
    → (temps : List Value) (memory : ObjectMemory) (inputs : List ℤ) (t : State) → Stands objects types rs (record { temps = temps; memory = memory; inputs = inputs })
    → acts.input d ty (record { temps = temps; memory = memory; inputs = inputs }) ≡ Some t → Stands objects types (slice_set rs d (range_of (type_span ty))) t
input_own types objects rs d ty here temps memory [] t h g = absurd (cc)
input_own types objects rs d ty here temps memory (n ∷ rest) t h g =
    let s : State = record { temps = temps; memory = memory; inputs = rest } in
    let same : put s d (values.Int ty (wrapped ty n)) ≡ t = cc in
    subst (Stands objects types (slice_set rs d (range_of (type_span ty)))) same
    (put_stands objects types rs s d (scalars.Int ty) (values.Int ty (wrapped ty n)) (range_of (type_span ty))
    (rest_stands objects types rs (record { temps = temps; memory = memory; inputs = n ∷ rest }) rest h) here refl (has_inside ty (wrapped ty n) (has-wrapped ty n)))

module _ (q : CsProgramTree) (objects : ℕ) (types : List Scalar) (same : q.temps ≡ types) (rs new : List Range) where
  pub input_keeps : (d : ℕ) (ty : IntType) → new ≡ slice_set rs d (range_of (type_span ty)) → IsOf q (code.Input d ty) → (s t : State)
      → Stands objects types rs s → acts.input d ty s ≡ Some t → Stands objects types new t
  input_keeps d ty is given s t h g = subst (λ (xs : List Range). Stands objects types xs t) (sym is)
      (input_own types objects rs d ty (subst (λ (ts : List Scalar). slice_get ts d ≡ Some (scalars.Int ty)) same given.typed.1) s.temps s.memory s.inputs t h g)

-- ---- objects

pub enter_keeps : (q : CsProgramTree) (types : List Scalar) (rs : List Range) (count : ℕ) (xs : List ℕ) (s : State) → All (λ x. x < count) xs
    → Stands count types rs s → Stands count types rs (acts.enter q.objects xs s)
enter_keeps q types rs count xs s below h =
    memory_stands count types rs s (open_all q.objects s.memory xs) h (owned_open_all count q.objects s.memory xs h.owned below) (places_opened q.objects s.memory xs)

pub leave_keeps : (types : List Scalar) (rs : List Range) (count : ℕ) (xs : List ℕ) (s : State) → Stands count types rs s → Stands count types rs (acts.leave xs s)
leave_keeps types rs count xs s h =
    memory_stands count types rs s (shut_all s.memory xs) h (owned_shut_all count s.memory xs h.owned) (places_shut s.memory xs)

-- ---- tests

pub test_keeps : (r : Range) (e : CsExprTree) (b some : Bool) (rs : List Range) → IsRangeOf rs e r → ((n : ℤ) → InRange r n → IsTrue (has_truth b n) → IsTrue some)
    → (objects : ℕ) (types : List Scalar) (s : State) (v : Value) → Stands objects types rs s → value_of e s ≡ Some v → truth v ≡ b → IsTrue some
test_keeps r e b some rs f may objects types s v h g is = may (number_of v) (f.holds s v h.temps g) (truths_agree v b is)
