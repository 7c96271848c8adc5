-- What each statement leaves of a set that has one state alone.
use Rattle.std.proofs.Common.{◌≡◌, ℕ, ℤ, pos, ◌<◌, arith, refl, sym, subst, ap, ◌∙◌, ⊎_elim, Bool, true, false, List, [], ◌∷◌, length, Option, Some, None}
use Rattle.std.specs.Prelude.{IsTrue, not, option_and_then, if◌then◌else◌, slice_get, slice_set, replicate}
use Rattle.std.specs.Ordering.{int_eq}
use Rattle.std.proofs.lemmas.Bool.{cases_eq, cases_lt}
use Rattle.std.proofs.lemmas.List.{get_or_past, get_or-replicate}
use Rattle.std.proofs.lemmas.Option.{slice_get_cases, slice_get_past, slice_get_within}
use Rattle.c_syntax_written.specs.declared.int_type.IntType.{IntType}
use Rattle.c_syntax_written.specs.declared.int_type.IntType.TheVariants as ints
use Rattle.c_syntax_written.specs.Integer.{wrapped}
use Rattle.c_syntax.specs.declared.alarm.Check.{Check}
use Rattle.c_syntax.specs.declared.alarm.WrongKind.{WrongKind}
use Rattle.c_syntax.specs.declared.alarm.WrongKind.TheVariants as kinds
use Rattle.c_syntax.specs.declared.operator.TUnaryOp.{TUnaryOp}
use Rattle.c_syntax.specs.declared.operator.TUnaryOp.TheVariants as unaries
use Rattle.c_syntax.specs.declared.operator.TBinaryOp.{TBinaryOp}
use Rattle.c_syntax.specs.declared.operator.TBinaryOp.TheVariants as binaries
use Rattle.c_syntax.specs.Types.{ObjectTree}
use Rattle.c_syntax.specs.Operand.{Operand}
use Rattle.c_syntax.specs.Failing.{fails}
use Rattle.block_mem.specs.declared.types.Scalar.{Scalar}
use Rattle.block_mem.specs.declared.types.Scalar.TheVariants as scalars
use Rattle.block_mem.specs.declared.types.Value.{Value}
use Rattle.block_mem.specs.declared.types.Value.TheVariants as values
use Rattle.c_values.specs.Looks.{judge_one, Passes, FailsAs}
use Rattle.c_values.specs.Places.{ObjectMemory, place_of}
use Rattle.c_values.specs.Operators.{binary_result, unary_result, moved}
use Rattle.c_values.specs.Values.{truth, converted_to}
use Rattle.c_objects.specs.Opening.{undefined}
use Rattle.c_objects.specs.Writing.{stored_at, copied_at}
use Rattle.num_api.specs.declared.message.Range.{Range}
use Rattle.num_api.specs.Ranges.{IsPoint, all_numbers}
use Rattle.num_api.specs.Spans.{point, range_of}
use Rattle.num_api.specs.Value.{has_truth}
use Rattle.csharp.specs.Trees.{CsExprTree, Const, Null, Temp, Address, Unary, Binary, Convert, CsProgramTree}
use Rattle.csharp.specs.Formed.{AreOperandsTyped, HasType, HoldsType, HasOperands}
use Rattle.csharp.specs.States.{State, value_of, on_both, takes_right, if_taken}
use Rattle.csharp.specs.Actions as acts
use Rattle.csharp.specs.Actions.{put, loaded_at}
use Rattle.mem_temps.specs.Values.{number_of, IsNoObject, HasKind}
use Rattle.mem_temps.specs.Operators.{LiesIn}
use Rattle.mem_temps.specs.Ranges.{range_at, AreAll}
use Rattle.mem_intervals.specs.Passed.{Remembered, IsPassed}
use Rattle.mem_intervals.specs.Known.{IsKnownRange}
use Rattle.mem_temps.specs.Sets.{IsSharp}
use Rattle.mem_temps.specs.Shows.{IsOfOne, IsOfTwo}
use Rattle.mem_temps.proofs.Lists.{set_here, set_elsewhere}
use Rattle.mem_temps.proofs.Ranged.{and_then_some, map_some}
use Rattle.mem_temps.proofs.Valued.{taken_value}
use Rattle.mem_intervals.proofs.ValueKinds.{value_kind, unary_kind, binary_kind}
use Rattle.mem_intervals.proofs.Steps.{found_here, found_apart, put_stands}

-- ---- temporaries

-- a temporary whose range is a point is there
point_below : (rs : List Range) (d : ℕ) (n : ℤ) → IsPoint (range_at rs d) n → d < length rs
point_below rs d n p = ⊎_elim (λ below. below) (λ past. absurd (never (get_or_past rs d all_numbers past))) (cases_lt d (length rs))
  where
    never : range_at rs d ≡ all_numbers → ⊥
    never e = let low = p.low in let same = ap Range.lo e in absurd (cc)

-- it is there where the program has it
temp_below : (types : List Scalar) (objects : ℕ) (rs : List Range) (s : State) (d : ℕ) (ty : Scalar) → IsSharp objects types rs s → slice_get types d ≡ Some ty → d < length rs
temp_below types objects rs s d ty h here = ⊎_elim
    (λ found. point_below rs d (number_of found.0) (h.all.temps d found.0 found.2).0)
    (λ past. let types_end = slice_get_past types d (omega (arith, past.0, h.stands.size)) in absurd (cc))
    (slice_get_cases s.temps d).1

-- ---- no value is a pointer to an object

int_is_no_object : (t : IntType) (v : Value) → HasKind (scalars.Int t) v → IsNoObject v
int_is_no_object t (values.Int u n) h = tt
int_is_no_object t (values.Ptr p) h = h
int_is_no_object t values.Null h = tt

moved_no_object : (a : Value) (d : ℤ) (v : Value) → IsNoObject a → moved a d ≡ Some v → IsNoObject v
moved_no_object (values.Int t n) d v o h = absurd (cc)
moved_no_object (values.Ptr p) d v o h = absurd o
moved_no_object values.Null d v o h = let same : values.Null ≡ v = cc in subst IsNoObject same tt

unary_no_object : (op : TUnaryOp) (u v : Value) → unary_result op u ≡ Some v → IsNoObject v
unary_no_object (unaries.Plus t) u v h = int_is_no_object t v (unary_kind (unaries.Plus t) u v h)
unary_no_object (unaries.Minus t) u v h = int_is_no_object t v (unary_kind (unaries.Minus t) u v h)
unary_no_object (unaries.Complement t) u v h = int_is_no_object t v (unary_kind (unaries.Complement t) u v h)
unary_no_object unaries.Not u v h = int_is_no_object ints.Int v (unary_kind unaries.Not u v h)

binary_no_object : (op : TBinaryOp) (a b v : Value) → IsNoObject a → IsNoObject b → binary_result op a b ≡ Some v → IsNoObject v
binary_no_object (binaries.Arithmetic op t) a b v o k h = int_is_no_object t v (binary_kind (binaries.Arithmetic op t) a b v h)
binary_no_object (binaries.Shift way t) a b v o k h = int_is_no_object t v (binary_kind (binaries.Shift way t) a b v h)
binary_no_object (binaries.CompareInts c t) a b v o k h = int_is_no_object ints.Int v (binary_kind (binaries.CompareInts c t) a b v h)
binary_no_object (binaries.ComparePointers c) a b v o k h = int_is_no_object ints.Int v (binary_kind (binaries.ComparePointers c) a b v h)
binary_no_object (binaries.PointerPlusInt size) a (values.Int t n) v o k h = moved_no_object a _ v o h
binary_no_object (binaries.PointerPlusInt size) a (values.Ptr p) v o k h = absurd k
binary_no_object (binaries.PointerPlusInt size) a values.Null v o k h = absurd (cc)
binary_no_object (binaries.IntPlusPointer size) (values.Int t n) b v o k h = moved_no_object b _ v k h
binary_no_object (binaries.IntPlusPointer size) (values.Ptr p) b v o k h = absurd o
binary_no_object (binaries.IntPlusPointer size) values.Null b v o k h = absurd (cc)
binary_no_object (binaries.PointerMinusInt size) a (values.Int t n) v o k h = moved_no_object a _ v o h
binary_no_object (binaries.PointerMinusInt size) a (values.Ptr p) v o k h = absurd k
binary_no_object (binaries.PointerMinusInt size) a values.Null v o k h = absurd (cc)
binary_no_object (binaries.PointerMinusPointer size) a b v o k h = int_is_no_object ints.Long v (binary_kind (binaries.PointerMinusPointer size) a b v h)

converted_no_object : (t : IntType) (u v : Value) → converted_to (scalars.Int t) u ≡ Some v → IsNoObject v
converted_no_object t (values.Int w n) v h = let same : values.Int t (wrapped t n) ≡ v = cc in subst IsNoObject same tt
converted_no_object t (values.Ptr p) v h = absurd (cc)
converted_no_object t values.Null v h = absurd (cc)

no_object : (rs : List Range) (s : State) → AreAll rs s → (e : CsExprTree) (v : Value) → value_of e s ≡ Some v → IsNoObject v
no_object rs s all (Const t n) v g = let same : values.Int t n ≡ v = cc in subst IsNoObject same tt
no_object rs s all Null v g = let same : values.Null ≡ v = cc in subst IsNoObject same tt
no_object rs s all (Temp d) v g = (all.temps d v g).1
no_object rs s all (Address x) v g = let b = map_some _ (place_of s.memory x) v g in let none = all.places x in let there = b.1 in absurd (cc)
no_object rs s all (Unary op e) v g = let u = and_then_some (unary_result op) (value_of e s) v g in unary_no_object op u.0 v u.2
no_object rs s all (Binary op e f) v g =
    let a = and_then_some (λ a. option_and_then (if_taken op (binary_result op) a) (value_of f s)) (value_of e s) v g in
    let b = and_then_some (if_taken op (binary_result op) a.0) (value_of f s) v a.2 in
    let taken = taken_value (takes_right op b.0) (binary_result op a.0 b.0) v b.2 in
    binary_no_object op a.0 b.0 v (no_object rs s all e a.0 a.1) (no_object rs s all f b.0 b.1) taken.1
no_object rs s all (Convert t e) v g = let u = and_then_some (converted_to (scalars.Int t)) (value_of e s) v g in converted_no_object t u.0 v u.2

module _ (types : List Scalar) (objects : ℕ) (rs : List Range) (s : State) (h : IsSharp objects types rs s) where
  pub no_load : (d : ℕ) (ty : Scalar) (e : CsExprTree) (t : State) → acts.load d ty e s ≡ Some t → ⊥
  no_load d ty e t g =
      let v = map_some (put s d) (option_and_then (loaded_at s.memory ty) (value_of e s)) t g in
      let a = and_then_some (loaded_at s.memory ty) (value_of e s) v.0 v.1 in refused a.0 v.0 (no_object rs s h.all e a.0 a.1) a.2
    where
      refused : (a v : Value) → IsNoObject a → loaded_at s.memory ty a ≡ Some v → ⊥
      refused (values.Int u n) v o k = absurd (cc)
      refused (values.Ptr p) v o k = o
      refused values.Null v o k = absurd (cc)

  pub no_store : (ty : Scalar) (e x : CsExprTree) (t : State) → acts.store ty e x s ≡ Some t → ⊥
  no_store ty e x t g =
      let m = map_some (λ memory. record s { memory = memory }) (on_both e x s (stored_at s.memory ty)) t g in
      let v = and_then_some (λ v. option_and_then (stored_at s.memory ty v) (value_of x s)) (value_of e s) m.0 m.1 in
      let u = and_then_some (stored_at s.memory ty v.0) (value_of x s) m.0 v.2 in refused v.0 u.0 m.0 (no_object rs s h.all e v.0 v.1) u.2
    where
      refused : (a u : Value) (n : ObjectMemory) → IsNoObject a → stored_at s.memory ty a u ≡ Some n → ⊥
      refused (values.Int w i) u n o k = absurd (cc)
      refused (values.Ptr p) u n o k = o
      refused values.Null u n o k = absurd (cc)

  pub no_copy : (size : ℕ) (e x : CsExprTree) (t : State) → acts.copy_bytes size e x s ≡ Some t → ⊥
  no_copy size e x t g =
      let m = map_some (λ memory. record s { memory = memory }) (on_both e x s (λ v u. copied_at s.memory v u size)) t g in
      let v = and_then_some (λ v. option_and_then (λ u. copied_at s.memory v u size) (value_of x s)) (value_of e s) m.0 m.1 in
      let u = and_then_some (λ u. copied_at s.memory v.0 u size) (value_of x s) m.0 v.2 in refused v.0 u.0 m.0 (no_object rs s h.all e v.0 v.1) u.2
    where
      refused : (a u : Value) (n : ObjectMemory) → IsNoObject a → copied_at s.memory a u size ≡ Some n → ⊥
      refused (values.Int w i) u n o k = absurd (cc)
      refused (values.Ptr p) u n o k = o
      refused values.Null u n o k = absurd (cc)

  pub no_undefine : (x : ℕ) (t : State) → acts.undefine x s ≡ Some t → ⊥
  no_undefine x t g =
      let m = map_some (λ memory. record s { memory = memory }) (undefined s.memory x) t g in
      let b = map_some _ (place_of s.memory x) m.0 m.1 in let none = h.all.places x in let there = b.1 in absurd (cc)

module _ (q : CsProgramTree) (objects : ℕ) (rs : List Range) (s : State) (h : IsSharp objects q.temps rs s) where
  pub set_sharp : (passed : Option Remembered) → IsPassed passed s → (d : ℕ) (e : CsExprTree) (found : Range) (ty : Scalar) (t : State) → AreOperandsTyped q e
      → HasType q ty e → HoldsType q ty d → IsKnownRange rs passed e found → acts.set d e s ≡ Some t → IsSharp objects q.temps (slice_set rs d found) t
  set_sharp passed k d e found ty t typed is here f g =
      let v = map_some (put s d) (value_of e s) t g in
      let below = temp_below q.temps objects rs s d ty h here in
      let p = f.point q s v.0 typed h.inside h.all h.stands.temps k v.1 in
      subst (IsSharp objects q.temps (slice_set rs d found)) v.2 (record {
        stands = put_stands objects q.temps rs s d ty v.0 found h.stands here (value_kind q s h.stands.kinds e ty v.0 is v.1) (f.holds s v.0 h.stands.temps k v.1);
        none = h.none;
        all = record {
          temps = λ k u w. ⊎_elim (λ same. at_d v.0 below p k u w same)
              (λ ne. subst (λ (r : Range). IsPoint r (number_of u) × IsNoObject u) (sym (set_elsewhere rs d k found ne)) (h.all.temps k u (found_apart s.temps d k v.0 u ne w)))
              (cases_eq k d);
          places = h.all.places;
        };
        inside = λ k t w. ⊎_elim (λ same. in_type below k t w same)
            (λ ne. subst (LiesIn t) (sym (set_elsewhere rs d k found ne)) (h.inside k t w)) (cases_eq k d);
        inputs = h.inputs;
      })
    where
      at_d : (v : Value) → d < length rs → IsPoint found (number_of v) × IsNoObject v → (k : ℕ) (u : Value) → slice_get (slice_set s.temps d v) k ≡ Some u → k ≡ d
          → IsPoint (range_at (slice_set rs d found) k) (number_of u) × IsNoObject u
      at_d v below p k u w same =
          let one = found_here s.temps d v u (subst (λ (x : ℕ). slice_get (slice_set s.temps d v) x ≡ Some u) same w) in
          subst (λ (x : ℕ). IsPoint (range_at (slice_set rs d found) x) (number_of u) × IsNoObject u) (sym same)
          (subst (λ (r : Range). IsPoint r (number_of u) × IsNoObject u) (sym (set_here rs d found below))
          (subst (λ (x : Value). IsPoint found (number_of x) × IsNoObject x) (sym one) p))

      in_type : d < length rs → (k : ℕ) (t : IntType) → slice_get q.temps k ≡ Some (scalars.Int t) → k ≡ d → LiesIn t (range_at (slice_set rs d found) k)
      in_type below k t w same =
          let own : slice_get q.temps d ≡ Some (scalars.Int t) = subst (λ (x : ℕ). slice_get q.temps x ≡ Some (scalars.Int t)) same w in
          let one : ty ≡ scalars.Int t = cc in
          subst (λ (x : ℕ). LiesIn t (range_at (slice_set rs d found) x)) (sym same)
          (subst (LiesIn t) (sym (set_here rs d found below)) (f.inside q t typed h.inside (subst (λ (x : Scalar). HasType q x e) one is)))

-- ---- the start

abbrev pub zeros : List Scalar → List Range
zeros types = replicate (length types) (range_of (point (pos 0)))

pub zero_at : (types : List Scalar) (d : ℕ) (t : Scalar) → slice_get types d ≡ Some t → range_at (zeros types) d ≡ range_of (point (pos 0))
zero_at types d t f = get_or-replicate (length types) d (range_of (point (pos 0))) all_numbers (slice_get_within types d t f)

-- ---- tests

pub truths_agree : (v : Value) (b : Bool) → truth v ≡ b → IsTrue (has_truth b (number_of v))
truths_agree v true e = number_truth v ∙ e
  where
    number_truth : (v : Value) → not (int_eq (number_of v) (pos 0)) ≡ truth v
    number_truth (values.Int t n) = refl
    number_truth (values.Ptr p) = refl
    number_truth values.Null = refl
truths_agree v false e = false_number v e
  where
    false_number : (v : Value) → truth v ≡ false → int_eq (number_of v) (pos 0) ≡ true
    false_number (values.Int t n) h = turned (int_eq n (pos 0)) h
      where
        turned : (b : Bool) → not b ≡ false → b ≡ true
        turned true k = refl
        turned false k = absurd (cc)
    false_number (values.Ptr p) h = absurd (cc)
    false_number values.Null h = refl

-- ---- checks

-- what one look comes to, where it passes and where it fails
look_passes : (objects : List ObjectTree) (check : Check) (x : Operand) (b : Bool) → fails objects check x ≡ b
    → (if b then FailsAs check.kind x else Passes) ≡ Passes → fails objects check x ≡ false
look_passes objects check x true e k = absurd (cc)
look_passes objects check x false e k = e

look_fails : (objects : List ObjectTree) (check : Check) (x y : Operand) (kind : WrongKind) (b : Bool) → fails objects check x ≡ b
    → (if b then FailsAs check.kind x else Passes) ≡ FailsAs kind y → fails objects check x ≡ true
look_fails objects check x y kind true e k = e
look_fails objects check x y kind false e k = absurd (cc)

-- what a check looked at where it passed, and where it failed
pub passed : (objects : List ObjectTree) (check : Check) (o : Option Operand) → judge_one objects check o Passes ≡ Passes
    → (x : Operand) × (o ≡ Some x) × (fails objects check x ≡ false)
passed objects check None h = absurd (cc)
passed objects check (Some x) h = (x, refl, look_passes objects check x (fails objects check x) refl h)

pub failed : (objects : List ObjectTree) (check : Check) (o : Option Operand) (kind : WrongKind) (y : Operand) → judge_one objects check o Passes ≡ FailsAs kind y
    → (x : Operand) × (o ≡ Some x) × (fails objects check x ≡ true)
failed objects check None kind y h = absurd (cc)
failed objects check (Some x) kind y h = (x, refl, look_fails objects check x y kind (fails objects check x) refl h)

-- of one expression a check is of those kinds that look at one, and asks what its fields say
pub of_one_kind : (q : CsProgramTree) (kind : WrongKind) (e : CsExprTree) → HasOperands q kind (e ∷ []) → IsOfOne kind
of_one_kind q kinds.Unrelated e h = h
of_one_kind q kind e h = tt

pub of_two_kind : (q : CsProgramTree) (kind : WrongKind) (e f : CsExprTree) → HasOperands q kind (e ∷ f ∷ []) → IsOfTwo kind
of_two_kind q kinds.NullUse e f h = tt
of_two_kind q kinds.Dangling e f h = tt
of_two_kind q kinds.Unrelated e f h = tt
of_two_kind q kind e f h = h
