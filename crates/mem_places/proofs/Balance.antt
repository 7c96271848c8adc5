-- Sums that are taken from two sides.
use Rattle.std.proofs.Common.{◌≡◌, ℕ, zero, suc, ◌+◌, ◌<◌, ◌≤◌, ◌⊎◌, inl, inr, ℤ, pos, ◌+ℤ◌, ◌≤ℤ◌, FitsSigned, arith, refl, sym, ap, ◌∙◌, List, [], ◌∷◌, ◌++◌, length, get_or, drop}
use Rattle.std.specs.Prelude.{All, Option, Some, None, IfNone}
use mir.Syntax.{w128}
use Rattle.std.proofs.lemmas.Int.{ints}
use Rattle.std.proofs.lemmas.List.Elements.{All-head, All-tail, All-get_or}
use Rattle.mem_places.specs.Totals.{total, AreSigned}

pub if_none : {A : Type 0} (o : Option A) {P : Type 0} → P → IfNone o P
if_none None p = p
if_none (Some a) p = tt

pub total_push : (ns : List ℤ) (n : ℤ) → total (ns ++ n ∷ []) ≡ total ns +ℤ n
total_push [] n = omega (arith, ints)
total_push (m ∷ ns) n = let e = total_push ns n in omega (arith, ints)

pub pushed_up : (old new down : List ℤ) (m n now : ℤ) → new ≡ old ++ m ∷ [] → m ≡ n → (total old +ℤ total down) ≡ now → (total new +ℤ total down) ≡ (now +ℤ n)
pushed_up old new down m n now is e v = let t = ap total is ∙ total_push old m in omega (arith, ints)

pub pushed_down : (up old new : List ℤ) (m n now : ℤ) → new ≡ old ++ m ∷ [] → m ≡ n → (total up +ℤ total old) ≡ now → (total up +ℤ total new) ≡ (now +ℤ n)
pushed_down up old new m n now is e v = let t = ap total is ∙ total_push old m in omega (arith, ints)

-- the sum of what is left behind a place
rest_total : (ns : List ℤ) (i : ℕ) → i < length ns → total (drop i ns) ≡ get_or ns i (pos 0) +ℤ total (drop (i + 1) ns)
rest_total [] i h = absurd (omega arith)
rest_total (n ∷ ns) zero h = refl
rest_total (n ∷ ns) (suc i) h = let e : suc i + 1 ≡ suc (i + 1) = omega arith in
    rest_total ns i (omega arith) ∙ ap (λ k. get_or ns i (pos 0) +ℤ total (drop k (n ∷ ns))) (sym e)

none_left : (ns : List ℤ) (i : ℕ) → i ≡ length ns → total (drop i ns) ≡ pos 0
none_left [] i h = empty i where
  empty : (i : ℕ) → total (drop i []) ≡ pos 0
  empty zero = refl
  empty (suc i) = refl
none_left (n ∷ ns) zero h = absurd (omega arith)
none_left (n ∷ ns) (suc i) h = none_left ns i (omega arith)

rises : (ns : List ℤ) (i : ℕ) → All (λ n. pos 0 ≤ℤ n) ns → pos 0 ≤ℤ total (drop i ns)
rises [] zero all = omega (arith, ints)
rises [] (suc i) all = omega (arith, ints)
rises (n ∷ ns) zero all =
    let h = All-head (λ n. pos 0 ≤ℤ n) n ns all in let k = rises ns zero (All-tail (λ n. pos 0 ≤ℤ n) n ns all) in omega (arith, ints)
rises (n ∷ ns) (suc i) all = rises ns i (All-tail (λ n. pos 0 ≤ℤ n) n ns all)

falls : (ns : List ℤ) (i : ℕ) → All (λ n. n ≤ℤ pos 0) ns → total (drop i ns) ≤ℤ pos 0
falls [] zero all = omega (arith, ints)
falls [] (suc i) all = omega (arith, ints)
falls (n ∷ ns) zero all =
    let h = All-head (λ n. n ≤ℤ pos 0) n ns all in let k = falls ns zero (All-tail (λ n. n ≤ℤ pos 0) n ns all) in omega (arith, ints)
falls (n ∷ ns) (suc i) all = falls ns i (All-tail (λ n. n ≤ℤ pos 0) n ns all)

-- what the loop keeps: the sum with what is left is the whole
pub record Goes (up down : List ℤ) (i j : ℕ) (sum : ℤ) : Type 0 where
  pub ups : i ≤ length up
  pub downs : j ≤ length down
  pub whole : ((sum +ℤ total (drop i up)) +ℤ total (drop j down)) ≡ (total up +ℤ total down)

pub goes_first : (up down : List ℤ) → Goes up down 0 0 (pos 0)
goes_first up down = record { ups = omega arith; downs = omega arith; whole = first (total up) (total down) } where
  first : (a b : ℤ) → ((pos 0 +ℤ a) +ℤ b) ≡ (a +ℤ b)
  first a b = omega (arith, ints)

module _ (up down : List ℤ) (i j : ℕ) (sum : ℤ) (g : Goes up down i j sum) where
  pub goes_up : i < length up → (next : ℤ) → next ≡ sum +ℤ get_or up i (pos 0) → Goes up down (i + 1) j next
  goes_up h next is = let r = rest_total up i h in let w = g.whole in record { ups = omega arith; downs = g.downs; whole = omega (arith, ints) }

  pub goes_down : j < length down → (next : ℤ) → next ≡ sum +ℤ get_or down j (pos 0) → Goes up down i (j + 1) next
  goes_down h next is = let r = rest_total down j h in let w = g.whole in record { ups = g.ups; downs = omega arith; whole = omega (arith, ints) }

  pub goes_end : i ≡ length up → j ≡ length down → sum ≡ (total up +ℤ total down)
  goes_end h k =
      let a = none_left up i h in let b = none_left down j k in let w = g.whole in omega (arith, ints)

  -- a partial sum that is no i128 tells that the whole is none
  module _ (signed : AreSigned up down) (fits : FitsSigned w128 sum) where
    pub never_up : i < length up → (j ≡ length down) ⊎ (sum ≤ℤ pos 0) → FitsSigned w128 (get_or up i (pos 0))
        → (FitsSigned w128 (sum +ℤ get_or up i (pos 0)) → ⊥) → FitsSigned w128 (total up +ℤ total down) → ⊥
    never_up h (inr low) one out all =
        let p : pos 0 ≤ℤ get_or up i (pos 0) = All-get_or (λ n. pos 0 ≤ℤ n) up i (pos 0) h signed.rise in out (omega (arith, ints))
    never_up h (inl last) one out all =
        let p : pos 0 ≤ℤ get_or up i (pos 0) = All-get_or (λ n. pos 0 ≤ℤ n) up i (pos 0) h signed.rise in
        let r = rest_total up i h in let w = g.whole in let z = none_left down j last in let q = rises up (i + 1) signed.rise in
        out (omega (arith, ints))

    pub never_down : j < length down → (i ≡ length up) ⊎ (pos 0 ≤ℤ sum) → FitsSigned w128 (get_or down j (pos 0))
        → (FitsSigned w128 (sum +ℤ get_or down j (pos 0)) → ⊥) → FitsSigned w128 (total up +ℤ total down) → ⊥
    never_down h (inr high) one out all =
        let p : get_or down j (pos 0) ≤ℤ pos 0 = All-get_or (λ n. n ≤ℤ pos 0) down j (pos 0) h signed.fall in out (omega (arith, ints))
    never_down h (inl last) one out all =
        let p : get_or down j (pos 0) ≤ℤ pos 0 = All-get_or (λ n. n ≤ℤ pos 0) down j (pos 0) h signed.fall in
        let r = rest_total down j h in let w = g.whole in let z = none_left up i last in let q = falls down (j + 1) signed.fall in
        out (omega (arith, ints))
