-- Merged states: what they admit and know.
use Rattle.std.proofs.Common.{ℕ, ℤ, List, ◌≡◌, ⊎_elim, Option, Some, None, refl, sym, subst}
use Rattle.ext_int.specs.Valuation.{value_at}
use Rattle.ext_int.proofs.Ends.{lesser_mono, greater_mono, lesser_first, lesser_second, greater_first, greater_second}
use Rattle.num_api.specs.declared.message.Range.{Range}
use Rattle.num_api.specs.Ranges.{NoWider, IsUnder, hull, all_numbers}
use Rattle.env_lift.specs.declared.entries.Entry.{Entry}
use Rattle.env_lift.specs.Entries.{value_in}
use Rattle.env_lift.specs.Passes.{IsMerged, AllMet}
use Rattle.env_lift.proofs.Found.{merged_some, merged_none, met_at}
use Rattle.env_lift.specs.States.{AllAdmit, known_of, known_in}
use Rattle.num_api.proofs.Parts.{wider}

-- ---- hulls

pub hull_mono : (r s u w : Range) → NoWider r u → NoWider s w → NoWider (hull r s) (hull u w)
hull_mono r s u w h k = record { low = lesser_mono u.lo w.lo r.lo s.lo h.low k.low; high = greater_mono r.hi s.hi u.hi w.hi h.high k.high }

hull_first : (r s : Range) → NoWider r (hull r s)
hull_first r s = record { low = lesser_first r.lo s.lo; high = greater_first r.hi s.hi }

hull_second : (r s : Range) → NoWider s (hull r s)
hull_second r s = record { low = lesser_second r.lo s.lo; high = greater_second r.hi s.hi }

-- ---- merged states

module _ {V : Type 0} (A : V → ℤ → Type 0) (P : V → V → V → Type 0) (first second state : List (Entry V)) (m : IsMerged P first second state) where
  pub merged_left : ((a b c : V) (n : ℤ) → P a b c → A a n → A c n) → (v : List ℤ) → AllAdmit A first v → AllAdmit A state v
  merged_left law v p = λ x c has.
      let met = merged_some P first second state x c m has in
      law met.0 met.1 c (value_at v x) met.4 (p x met.0 met.2)

  pub merged_right : ((a b c : V) (n : ℤ) → P a b c → A b n → A c n) → (v : List ℤ) → AllAdmit A second v → AllAdmit A state v
  merged_right law v p = λ x c has.
      let met = merged_some P first second state x c m has in
      law met.0 met.1 c (value_at v x) met.4 (p x met.1 met.3)

  pub merged_under : (K : V → Range) → ((a b c : V) → P a b c → NoWider (K c) (hull (K a) (K b))) → (given found : ℕ → Range) → IsUnder (known_in K first) given → IsUnder (known_in K second) found → IsUnder (known_in K state) (λ x. hull (given x) (found x))
  merged_under K law given found u w = λ x. at x (value_in state x) refl
    where
      at : (x : ℕ) (o : Option V) → value_in state x ≡ o → NoWider (known_of K (value_in state x)) (hull (given x) (found x))
      at x None is = subst (λ (p : Option V). NoWider (known_of K p) (hull (given x) (found x))) (sym is) (⊎_elim
          (λ (h : value_in first x ≡ None). wider all_numbers (given x) (hull (given x) (found x)) (subst (λ (p : Option V). NoWider (known_of K p) (given x)) h (u x)) (hull_first (given x) (found x)))
          (λ (h : value_in second x ≡ None). wider all_numbers (found x) (hull (given x) (found x)) (subst (λ (p : Option V). NoWider (known_of K p) (found x)) h (w x)) (hull_second (given x) (found x)))
          (merged_none P first second state x m is))
      at x (Some c) is =
          let met = merged_some P first second state x c m is in
          let left : NoWider (K met.0) (given x) = subst (λ (p : Option V). NoWider (known_of K p) (given x)) met.2 (u x) in
          let right : NoWider (K met.1) (found x) = subst (λ (p : Option V). NoWider (known_of K p) (found x)) met.3 (w x) in
          subst (λ (p : Option V). NoWider (known_of K p) (hull (given x) (found x))) (sym is)
          (wider (K c) (hull (K met.0) (K met.1)) (hull (given x) (found x)) (law met.0 met.1 c met.4) (hull_mono (K met.0) (K met.1) (given x) (found x) left right))

-- ---- inclusion

pub all_included : {V : Type 0} (A : V → ℤ → Type 0) (R : V → V → Type 0) (first second : List (Entry V)) → AllMet R first second → ((a b : V) (n : ℤ) → R a b → A b n → A a n) → (v : List ℤ) → AllAdmit A second v → AllAdmit A first v
all_included A R first second all law v p = λ x a has.
    let met = met_at R first second x a all has in
    law a met.0 (value_at v x) met.2 (p x met.0 met.1)
