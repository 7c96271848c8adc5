-- What the steps of a program are made of: the powers one by one, six around a constant, and that they are small and closed under negation.
use Rattle.std.proofs.Common.{ℕ, ℤ, zero, suc, pos, ◌≡◌, ⊎_elim, ◌+◌, ◌-◌, ◌<◌, ◌^◌, neg_ℤ, ◌+ℤ◌, ◌-ℤ◌, ◌≤ℤ◌, List, [], ◌∷◌, ◌++◌, Bool, true, false, refl, sym, ◌∙◌, ap, subst, arith, append_assoc, append-nil, to_z, of_z}
use Rattle.std.specs.Prelude.{Contains, ◌↔◌, ◌&&◌, Result, Ok, Err, IfOk, if◌then◌else◌}
use Rattle.std.specs.Int.RustNames.{int_le}
use Rattle.std.specs.List.{flat_map}
use Rattle.std.proofs.lemmas.Int.{ints, to_z-of_z}
use mir.Syntax.{w128}
use Rattle.std.proofs.lemmas.List.Elements.{All-contains, All-contains_itself, All-weaker, Contains-append_cases, Contains-append_left, Contains-append_right}
use Rattle.num_api.specs.Powers.{negations_from, powers_from, power_steps}
use Rattle.num_api.specs.Steps.{IsRising, IsSmall, least}
use Rattle.num_api.specs.Told.{Answers}
use Rattle.num_api.proofs.PowersRamp.{powers_answer}
use Rattle.ramp_constants.specs.ConstantSteps.{AreSteps, around, steps_around}
use Rattle.ramp_constants.proofs.StepLists.{first_or_rest, nothing_in, mirrored, in_mirror}

-- ---- powers, as they are put out

pub more_negations : (old new start : List ℤ) (e : ℕ) → 0 < e → old ++ negations_from e ≡ start
    → new ≡ old ++ neg_ℤ (pos (2 ^ e)) ∷ neg_ℤ (pos (2 ^ e) -ℤ pos 1) ∷ [] → new ++ negations_from (e - 1) ≡ start
unfolding negations_from
more_negations old new start zero h i n = absurd (omega (arith, h))
more_negations old new start (suc e) h i n =
    let one_less : e ≡ suc e - 1 = omega arith in
    subst (λ k. new ++ negations_from k ≡ start) one_less
    (ap (λ xs. xs ++ negations_from e) n
    ∙ append_assoc old (neg_ℤ (pos (2 ^ suc e)) ∷ neg_ℤ (pos (2 ^ suc e) -ℤ pos 1) ∷ []) (negations_from e) ∙ i)

pub negations_done : (old start : List ℤ) (e : ℕ) → e ≡ 0 → old ++ negations_from e ≡ start → old ≡ start
unfolding negations_from
negations_done old start zero z i = sym (append-nil old) ∙ i
negations_done old start (suc e) z i = absurd (omega (arith, z))

more_powers_by : (old new start : List ℤ) (f c : ℕ) → old ++ powers_from f (suc c) ≡ start
    → new ≡ old ++ (pos (2 ^ f) -ℤ pos 1) ∷ pos (2 ^ f) ∷ [] → new ++ powers_from (f + 1) c ≡ start
unfolding powers_from
more_powers_by old new start f c i n =
    ap (λ xs. xs ++ powers_from (f + 1) c) n ∙ append_assoc old ((pos (2 ^ f) -ℤ pos 1) ∷ pos (2 ^ f) ∷ []) (powers_from (f + 1) c) ∙ i

pub more_powers : (old new start : List ℤ) (f : ℕ) → f < 65 → old ++ powers_from f (65 - f) ≡ start
    → new ≡ old ++ (pos (2 ^ f) -ℤ pos 1) ∷ pos (2 ^ f) ∷ [] → new ++ powers_from (f + 1) (65 - (f + 1)) ≡ start
more_powers old new start f h i n =
    let more : 65 - f ≡ suc (65 - (f + 1)) = omega (arith, h) in
    more_powers_by old new start f (65 - (f + 1)) (subst (λ c. old ++ powers_from f c ≡ start) more i) n

powers_done_by : (old start : List ℤ) (f c : ℕ) → c ≡ 0 → old ++ powers_from f c ≡ start → old ≡ start
unfolding powers_from
powers_done_by old start f zero z i = sym (append-nil old) ∙ i
powers_done_by old start f (suc c) z i = absurd (omega (arith, z))

pub powers_done : (old start : List ℤ) (f : ℕ) → f ≡ 65 → old ++ powers_from f (65 - f) ≡ start → old ≡ start
powers_done old start f e i = powers_done_by old start f (65 - f) (omega (arith, e)) i

pub all_powers : (old : List ℤ) → ((old ++ negations_from 64) ++ pos 0 ∷ []) ++ powers_from 1 64 ≡ old ++ power_steps
unfolding power_steps
all_powers old =
    append_assoc (old ++ negations_from 64) (pos 0 ∷ []) (powers_from 1 64) ∙ append_assoc old (negations_from 64) (pos 0 ∷ powers_from 1 64)

-- ---- six steps

six : (old : List ℤ) (a b c d e f : ℤ)
    → (((((old ++ a ∷ []) ++ b ∷ []) ++ c ∷ []) ++ d ∷ []) ++ e ∷ []) ++ f ∷ [] ≡ old ++ a ∷ b ∷ c ∷ d ∷ e ∷ f ∷ []
six [] a b c d e f = refl
six (x ∷ old) a b c d e f = ap (λ xs. x ∷ xs) (six old a b c d e f)

six_around : (k : ℤ) → int_le (neg_ℤ (pos (2 ^ 64))) k ≡ true → int_le k (pos (2 ^ 64)) ≡ true → around k ≡ steps_around k
six_around k low high = rw (low, high) refl

pub six_added : (old s1 s2 s3 s4 s5 s6 : List ℤ) (k a b c d e f : ℤ)
    → s1 ≡ old ++ a ∷ [] → s2 ≡ s1 ++ b ∷ [] → s3 ≡ s2 ++ c ∷ [] → s4 ≡ s3 ++ d ∷ [] → s5 ≡ s4 ++ e ∷ [] → s6 ≡ s5 ++ f ∷ []
    → a ≡ k → b ≡ (k -ℤ pos 1) → c ≡ (k +ℤ pos 1) → d ≡ neg_ℤ k → e ≡ neg_ℤ (k -ℤ pos 1) → f ≡ neg_ℤ (k +ℤ pos 1)
    → int_le (neg_ℤ (pos (2 ^ 64))) k ≡ true → int_le k (pos (2 ^ 64)) ≡ true → s6 ≡ old ++ steps_around k
six_added old s1 s2 s3 s4 s5 s6 k a b c d e f i1 i2 i3 i4 i5 i6 ea eb ec ed ee ef low high =
    i6 ∙ ap (λ xs. xs ++ f ∷ []) (i5 ∙ ap (λ xs. xs ++ e ∷ []) (i4 ∙ ap (λ xs. xs ++ d ∷ []) (i3 ∙ ap (λ xs. xs ++ c ∷ [])
    (i2 ∙ ap (λ xs. xs ++ b ∷ []) i1))))
    ∙ six old a b c d e f
    ∙ ap (λ n. old ++ n ∷ b ∷ c ∷ d ∷ e ∷ f ∷ []) ea ∙ ap (λ n. old ++ k ∷ n ∷ c ∷ d ∷ e ∷ f ∷ []) eb
    ∙ ap (λ n. old ++ k ∷ (k -ℤ pos 1) ∷ n ∷ d ∷ e ∷ f ∷ []) ec ∙ ap (λ n. old ++ k ∷ (k -ℤ pos 1) ∷ (k +ℤ pos 1) ∷ n ∷ e ∷ f ∷ []) ed
    ∙ ap (λ n. old ++ k ∷ (k -ℤ pos 1) ∷ (k +ℤ pos 1) ∷ neg_ℤ k ∷ n ∷ f ∷ []) ee
    ∙ ap (λ n. old ++ k ∷ (k -ℤ pos 1) ∷ (k +ℤ pos 1) ∷ neg_ℤ k ∷ neg_ℤ (k -ℤ pos 1) ∷ n ∷ []) ef
    ∙ ap (λ xs. old ++ xs) (six_around k low high)

pub fits : (z v : ℤ) → z ≡ v → neg_ℤ (pos (2 ^ 65)) ≤ℤ v → v ≤ℤ pos (2 ^ 65) → to_z w128 (of_z w128 z) ≡ v
fits z v e low high = ap (λ n. to_z w128 (of_z w128 n)) e ∙ to_z-of_z w128 v (omega (arith, ints, low, high))

pub le_is : (x y : ℤ) → x ≤ℤ y → int_le x y ≡ true
le_is x y h = grind (arith, ints)

-- ---- closed under negation

cases6 : (A : Type 0) (a b c d e f n : ℤ) → (a ≡ n → A) → (b ≡ n → A) → (c ≡ n → A) → (d ≡ n → A) → (e ≡ n → A) → (f ≡ n → A)
    → Contains (a ∷ b ∷ c ∷ d ∷ e ∷ f ∷ []) n → A
cases6 A a b c d e f n ha hb hc hd he hf h =
    ⊎_elim ha (λ h1. ⊎_elim hb (λ h2. ⊎_elim hc (λ h3. ⊎_elim hd (λ h4. ⊎_elim he (λ h5. ⊎_elim hf (λ h6. nothing_in A n h6)
    (first_or_rest f [] n h5)) (first_or_rest e (f ∷ []) n h4)) (first_or_rest d (e ∷ f ∷ []) n h3)) (first_or_rest c (d ∷ e ∷ f ∷ []) n h2))
    (first_or_rest b (c ∷ d ∷ e ∷ f ∷ []) n h1)) (first_or_rest a (b ∷ c ∷ d ∷ e ∷ f ∷ []) n h)

twice : (n : ℤ) → neg_ℤ (neg_ℤ n) ≡ n
twice n = grind (arith, ints)

halves : (a b c n : ℤ) → Contains (a ∷ b ∷ c ∷ neg_ℤ a ∷ neg_ℤ b ∷ neg_ℤ c ∷ []) n → Contains (a ∷ b ∷ c ∷ neg_ℤ a ∷ neg_ℤ b ∷ neg_ℤ c ∷ []) (neg_ℤ n)
halves a b c n =
    let all : List ℤ = a ∷ b ∷ c ∷ neg_ℤ a ∷ neg_ℤ b ∷ neg_ℤ c ∷ [] in
    let in3 : Contains all (neg_ℤ a) = (3, omega arith, refl) in
    let in4 : Contains all (neg_ℤ b) = (4, omega arith, refl) in
    let in5 : Contains all (neg_ℤ c) = (5, omega arith, refl) in
    let in0 : Contains all a = (0, omega arith, refl) in
    let in1 : Contains all b = (1, omega arith, refl) in
    let in2 : Contains all c = (2, omega arith, refl) in
    cases6 (Contains all (neg_ℤ n)) a b c (neg_ℤ a) (neg_ℤ b) (neg_ℤ c) n (λ e. subst (λ m. Contains all (neg_ℤ m)) e in3)
    (λ e. subst (λ m. Contains all (neg_ℤ m)) e in4) (λ e. subst (λ m. Contains all (neg_ℤ m)) e in5)
    (λ e. subst (Contains all) (sym (twice a) ∙ ap neg_ℤ e) in0)
    (λ e. subst (Contains all) (sym (twice b) ∙ ap neg_ℤ e) in1)
    (λ e. subst (Contains all) (sym (twice c) ∙ ap neg_ℤ e) in2)

around_by : (c n : ℤ) (fits : Bool) → Contains (if fits then around c else []) n → Contains (if fits then around c else []) (neg_ℤ n)
around_by c n true h = halves c (c -ℤ pos 1) (c +ℤ pos 1) n h
around_by c n false h = nothing_in (Contains [] (neg_ℤ n)) n h

constants_closed : (cs : List ℤ) (n : ℤ) → Contains (flat_map steps_around cs) n → Contains (flat_map steps_around cs) (neg_ℤ n)
constants_closed [] n h = nothing_in (Contains [] (neg_ℤ n)) n h
constants_closed (c ∷ cs) n h =
    ⊎_elim (λ here. Contains-append_left (steps_around c) (flat_map steps_around cs) (neg_ℤ n) (around_by c n _ here))
    (λ there. Contains-append_right (steps_around c) (flat_map steps_around cs) (neg_ℤ n) (constants_closed cs n there))
    (Contains-append_cases (steps_around c) (flat_map steps_around cs) n h)

-- what is known of the powers steps, as of any ramp of them
powers : Answers {U = Unit {0}} (λ up n. Unit {0}) (λ up n r. r ≡ least power_steps n) 257 tt power_steps
powers = powers_answer {U = Unit {0}} (λ up n. Unit {0}) (λ up n r. r ≡ least power_steps n) tt (λ n s. tt) (λ n r s e. e)

-- the powers steps, and those around some constants
abbrev with_constants : List ℤ → List ℤ
with_constants cs = power_steps ++ flat_map steps_around cs

steps_closed : (cs : List ℤ) (n : ℤ) → Contains (with_constants cs) n → Contains (with_constants cs) (neg_ℤ n)
steps_closed cs n h =
    let more = flat_map steps_around cs in
    ⊎_elim (λ here. Contains-append_left power_steps more (neg_ℤ n) (subst (λ xs. Contains xs (neg_ℤ n)) powers.mirrored (in_mirror power_steps n here)))
    (λ there. Contains-append_right power_steps more (neg_ℤ n) (constants_closed cs n there)) (Contains-append_cases power_steps more n h)

-- ---- small

le_of : (x y : ℤ) → int_le x y ≡ true → x ≤ℤ y
le_of x y e = grind (arith, ints)

small_around : (c n : ℤ) → neg_ℤ (pos (2 ^ 64)) ≤ℤ c → c ≤ℤ pos (2 ^ 64) → Contains (around c) n → IsSmall n
small_around c n low high =
    cases6 (IsSmall n) c (c -ℤ pos 1) (c +ℤ pos 1) (neg_ℤ c) (neg_ℤ (c -ℤ pos 1)) (neg_ℤ (c +ℤ pos 1)) n
    (λ e. subst IsSmall e (record { low = omega (arith, ints, low, high); high = omega (arith, ints, low, high) }))
    (λ e. subst IsSmall e (record { low = omega (arith, ints, low, high); high = omega (arith, ints, low, high) }))
    (λ e. subst IsSmall e (record { low = omega (arith, ints, low, high); high = omega (arith, ints, low, high) }))
    (λ e. subst IsSmall e (record { low = omega (arith, ints, low, high); high = omega (arith, ints, low, high) }))
    (λ e. subst IsSmall e (record { low = omega (arith, ints, low, high); high = omega (arith, ints, low, high) }))
    (λ e. subst IsSmall e (record { low = omega (arith, ints, low, high); high = omega (arith, ints, low, high) }))

small_steps_by : (c n : ℤ) (low high : Bool) → int_le (neg_ℤ (pos (2 ^ 64))) c ≡ low → int_le c (pos (2 ^ 64)) ≡ high
    → Contains (if low && high then around c else []) n → IsSmall n
small_steps_by c n true true el eh h = small_around c n (le_of _ _ el) (le_of _ _ eh) h
small_steps_by c n true false el eh h = nothing_in (IsSmall n) n h
small_steps_by c n false high el eh h = nothing_in (IsSmall n) n h

small_constants : (cs : List ℤ) (n : ℤ) → Contains (flat_map steps_around cs) n → IsSmall n
small_constants [] n h = nothing_in (IsSmall n) n h
small_constants (c ∷ cs) n h =
    ⊎_elim (λ here. small_steps_by c n _ _ refl refl here) (λ there. small_constants cs n there)
    (Contains-append_cases (steps_around c) (flat_map steps_around cs) n h)

small_step : (cs : List ℤ) (n : ℤ) → Contains (with_constants cs) n → IsSmall n
small_step cs n h =
    ⊎_elim (λ here. All-contains IsSmall power_steps n powers.small here) (λ there. small_constants cs n there)
    (Contains-append_cases power_steps (flat_map steps_around cs) n h)

-- ---- all of them, in rising order

are_steps : (cs steps : List ℤ) → IsRising steps → ((n : ℤ) → Contains steps n ↔ Contains (with_constants cs) n) → AreSteps (with_constants cs) steps
are_steps cs steps rising same = record {
  rising = rising;
  same = same;
  mirrored = mirrored steps rising (λ n h. (same (neg_ℤ n)).1 (steps_closed cs n ((same n).0 h)));
  small = All-weaker (Contains steps) IsSmall (λ n h. small_step cs n ((same n).0 h)) steps (All-contains_itself steps);
}

pub all_steps : {E : Type 0} (cs numbers : List ℤ) (r : Result (List ℤ) E) → numbers ≡ with_constants cs → IfOk r IsRising
    → IfOk r (λ steps. (n : ℤ) → Contains steps n ↔ Contains numbers n) → IfOk r (AreSteps (power_steps ++ flat_map steps_around cs))
all_steps cs numbers (Ok steps) e rising same = are_steps cs steps rising (λ n. subst (λ ns. Contains steps n ↔ Contains ns n) e (same n))
all_steps cs numbers (Err x) e rising same = tt

-- no constants give no more
pub powers_alone : {E : Type 0} (cs : List ℤ) (r : Result (List ℤ) E) → cs ≡ [] → IfOk r (AreSteps (power_steps ++ flat_map steps_around cs)) → IfOk r (AreSteps power_steps)
powers_alone cs r e h = subst (λ ns. IfOk r (AreSteps ns)) (ap (λ xs. power_steps ++ flat_map steps_around xs) e ∙ append-nil power_steps) h
