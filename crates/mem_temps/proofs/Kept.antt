-- Ranges of temporaries of which one is cut.
use Rattle.std.proofs.Common.{◌≡◌, ◌≤◌, ◌<◌, ℕ, ℤ, pos, Bool, refl, sym, subst, ap, ◌∙◌, ⊎_elim, List, length, length-set, Option, Some, None}
use Rattle.std.specs.Prelude.{IsTrue, slice_get, slice_set}
use Rattle.std.proofs.lemmas.Bool.{cases_eq, cases_lt}
use Rattle.std.proofs.lemmas.List.{get_or_past}
use Rattle.c_syntax_written.specs.declared.int_type.IntType.{IntType}
use Rattle.block_mem.specs.declared.types.Scalar.{Scalar}
use Rattle.block_mem.specs.declared.types.Scalar.TheVariants as scalars
use Rattle.block_mem.specs.declared.types.Value.{Value}
use Rattle.ext_int.proofs.Ends.{holds_number_from}
use Rattle.num_api.specs.declared.message.Range.{Range}
use Rattle.num_api.specs.Plain.{cut, other, without}
use Rattle.num_api.specs.Ranges.{InRange, NoWider, holds_some, all_numbers}
use Rattle.num_api.specs.Spans.{Span, point, range_of}
use Rattle.num_api.proofs.Parts.{wider, as_wide, in_point}
use Rattle.csharp.specs.States.{State}
use Rattle.mem_temps.specs.Values.{number_of}
use Rattle.mem_temps.specs.Operators.{LiesIn}
use Rattle.mem_temps.specs.Ranges.{range_at, AreIn, AreInside}
use Rattle.mem_temps.proofs.Lists.{set_here, set_elsewhere}
use Rattle.mem_temps.specs.Cuts.{IsCutNonzero, IsKeptIn}

pub in_all : (n : ℤ) → InRange all_numbers n
in_all n = record { low = tt; high = tt }

pub nonzero_by : (r t cut_r found : Range) → t ≡ range_of (point (pos 0))
    → ((x y : ℤ) → InRange r x → InRange t y → (x ≡ y → ⊥) → InRange cut_r x)
    → ((p q : Span) → IsTrue (holds_some t) → NoWider r (range_of p) → NoWider t (range_of q) → NoWider cut_r (range_of (cut other p q)))
    → ((n : ℤ) → InRange cut_r n → InRange r n → InRange found n) → NoWider found cut_r → NoWider found r → IsCutNonzero r found
nonzero_by r t cut_r found is holds plain both first second = record {
  holds = λ n i ne. both n (holds n (pos 0) i (subst (λ (x : Range). InRange x (pos 0)) (sym is) (in_point (pos 0) (pos 0) refl)) ne) i;
  first = second;
  plain = λ s under. wider found cut_r (range_of (without (pos 0) s)) first
      (plain s (point (pos 0)) (subst (λ (x : Range). IsTrue (holds_some x)) (sym is) refl) under
      (subst (λ (x : Range). NoWider x (range_of (point (pos 0)))) (sym is) (as_wide (range_of (point (pos 0))))));
}

-- ---- one range that is put

put_past : (rs : List Range) (x : ℕ) (left : Range) → length rs ≤ x → range_at (slice_set rs x left) x ≡ all_numbers
put_past rs x left past = get_or_past (slice_set rs x left) x all_numbers (subst (λ (n : ℕ). n ≤ x) (sym (length-set rs x left)) past)

pub put_narrow : (rs : List Range) (x : ℕ) (left : Range) (d : ℕ) → NoWider left (range_at rs x) → NoWider (range_at (slice_set rs x left) d) (range_at rs d)
put_narrow rs x left d w = ⊎_elim
    (λ same. subst (λ (k : ℕ). NoWider (range_at (slice_set rs x left) k) (range_at rs k)) (sym same) at)
    (λ apart. subst (λ (r : Range). NoWider r (range_at rs d)) (sym (set_elsewhere rs x d left apart)) (as_wide (range_at rs d))) (cases_eq d x)
  where
    at : NoWider (range_at (slice_set rs x left) x) (range_at rs x)
    at = ⊎_elim (λ below. subst (λ (r : Range). NoWider r (range_at rs x)) (sym (set_here rs x left below)) w)
        (λ past. subst (λ (r : Range). NoWider r (range_at rs x)) (sym (put_past rs x left past))
        (subst (λ (r : Range). NoWider all_numbers r) (sym (get_or_past rs x all_numbers past)) (as_wide all_numbers))) (cases_lt x (length rs))

pub put_holds : (rs : List Range) (x : ℕ) (left : Range) (s : State) → AreIn rs s → ((u : Value) → slice_get s.temps x ≡ Some u → InRange left (number_of u))
    → AreIn (slice_set rs x left) s
put_holds rs x left s all here = λ d u f. ⊎_elim
    (λ same. subst (λ (k : ℕ). InRange (range_at (slice_set rs x left) k) (number_of u)) (sym same)
    (at u (subst (λ (k : ℕ). slice_get s.temps k ≡ Some u) same f)))
    (λ apart. subst (λ (r : Range). InRange r (number_of u)) (sym (set_elsewhere rs x d left apart)) (all d u f)) (cases_eq d x)
  where
    at : (u : Value) → slice_get s.temps x ≡ Some u → InRange (range_at (slice_set rs x left) x) (number_of u)
    at u f = ⊎_elim (λ below. subst (λ (r : Range). InRange r (number_of u)) (sym (set_here rs x left below)) (here u f))
        (λ past. subst (λ (r : Range). InRange r (number_of u)) (sym (put_past rs x left past)) (in_all (number_of u))) (cases_lt x (length rs))

-- a temporary of a type whose range lies in it is there
pub inside_below : (types : List Scalar) (rs : List Range) (x : ℕ) (t : IntType) → AreInside types rs → slice_get types x ≡ Some (scalars.Int t) → x < length rs
inside_below types rs x t ins here = ⊎_elim (λ below. below)
    (λ past. absurd ((subst (LiesIn t) (get_or_past rs x all_numbers past) (ins x t here)).low)) (cases_lt x (length rs))

-- ---- a temporary that is kept

module _ (rs : List Range) (cut_r : Range) (some : Bool) (new : List Range) where
  pub kept_narrow : (o : Option ℕ) → IsKeptIn rs o cut_r some new → (d : ℕ) → NoWider (range_at new d) (range_at rs d)
  kept_narrow None k d = subst (λ (xs : List Range). NoWider (range_at xs d) (range_at rs d)) (sym k.0) (as_wide (range_at rs d))
  kept_narrow (Some x) k d = subst (λ (xs : List Range). NoWider (range_at xs d) (range_at rs d)) (sym k.2) (put_narrow rs x k.0 d k.1.first)

  pub kept_holds : (o : Option ℕ) → IsKeptIn rs o cut_r some new → (s : State) → AreIn rs s
      → ((x : ℕ) → o ≡ Some x → (u : Value) × (slice_get s.temps x ≡ Some u) × InRange cut_r (number_of u)) → IsTrue some × AreIn new s
  kept_holds None k s all here = (k.1, subst (λ (xs : List Range). AreIn xs s) (sym k.0) all)
  kept_holds (Some x) k s all here =
      let h = here x refl in
      let i = k.1.holds (number_of h.0) (all x h.0 h.1) h.2 in (
        k.3 ∙ holds_number_from k.0.lo k.0.hi (number_of h.0) i.low i.high,
        subst (λ (xs : List Range). AreIn xs s) (sym k.2) (put_holds rs x k.0 s all (λ u f. let same : h.0 ≡ u = one h.0 u h.1 f in
            subst (λ (w : Value). InRange k.0 (number_of w)) same i)),
      )
    where
      one : (v u : Value) → slice_get s.temps x ≡ Some v → slice_get s.temps x ≡ Some u → v ≡ u
      one v u f g = let e : Some v ≡ Some u = sym f ∙ g in cc

  pub kept_here : (x : ℕ) → IsKeptIn rs (Some x) cut_r some new → x < length rs → NoWider (range_at new x) cut_r
  kept_here x k below = subst (λ (xs : List Range). NoWider (range_at xs x) cut_r) (sym k.2)
      (subst (λ (r : Range). NoWider r cut_r) (sym (set_here rs x k.0 below)) k.1.second)

  pub kept_left : (x : ℕ) → IsKeptIn rs (Some x) cut_r some new → x < length rs → IsTrue some → IsTrue (holds_some (range_at new x))
  kept_left x k below here = subst (λ (xs : List Range). IsTrue (holds_some (range_at xs x))) (sym k.2)
      (subst (λ (r : Range). IsTrue (holds_some r)) (sym (set_here rs x k.0 below)) (sym k.3 ∙ here))

  pub kept_size : (o : Option ℕ) → IsKeptIn rs o cut_r some new → length new ≡ length rs
  kept_size None k = ap (λ (xs : List Range). length xs) k.0
  kept_size (Some x) k = ap (λ (xs : List Range). length xs) k.2 ∙ length-set rs x k.0

  -- what had numbers has some, where some are left
  pub kept_some : (o : Option ℕ) → IsKeptIn rs o cut_r some new → IsTrue some → (a : ℕ) → a < length rs → IsTrue (holds_some (range_at rs a))
      → IsTrue (holds_some (range_at new a))
  kept_some None k here a below h = subst (λ (xs : List Range). IsTrue (holds_some (range_at xs a))) (sym k.0) h
  kept_some (Some x) k here a below h = ⊎_elim
      (λ same. subst (λ (n : ℕ). IsTrue (holds_some (range_at new n))) (sym same) (kept_left x k (subst (λ (n : ℕ). n < length rs) same below) here))
      (λ apart. subst (λ (xs : List Range). IsTrue (holds_some (range_at xs a))) (sym k.2)
      (subst (λ (r : Range). IsTrue (holds_some r)) (sym (set_elsewhere rs x a k.0 apart)) h)) (cases_eq a x)
