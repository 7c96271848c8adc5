-- The test of two touches tells whether they meet.
use Rattle.std.proofs.Common.{◌≡◌, ◌⊎◌, inl, inr, ℕ, Bool, true, false, ◌||◌, List, [], ◌∷◌, ◌++◌, MatchBool, refl, sym, ap, ◌∙◌, arith}
use Rattle.std.specs.Prelude.{◌==◌, ◌↔◌}
use Rattle.std.proofs.lemmas.Bool.{and_parts, and_from, or_cases}
use Rattle.std.proofs.lemmas.Bool.Decides.{nat_tests}
use Rattle.c_rules_effects.specs.declared.touch.Part.{Part}
use Rattle.c_rules_effects.specs.declared.touch.Part.TheVariants.{Member, Index}
use Rattle.c_rules_effects.specs.declared.touch.Touch.{Touch}
use Rattle.c_rules_effects.specs.declared.touch.Touch.TheVariants.{Mem, Object}
use Rattle.c_rules_effects.specs.Meeting.{Begins, Meet}
use Rattle.c_rules_effects.specs.Met.{begins, is_same_part, met}

pub number_same : (a b : ℕ) → (a == b) ≡ true → a ≡ b
number_same a b e = grind (arith, nat_tests)

pub same_number : (a b : ℕ) → a ≡ b → (a == b) ≡ true
same_number a b e = grind (arith, nat_tests)

-- a test that is not true is false
pub not_true : (b : Bool) → (b ≡ true → ⊥) → b ≡ false
not_true true n = absurd (n refl)
not_true false n = refl

left_true : (a b : Bool) → a ≡ true → (a || b) ≡ true
left_true true b e = refl
left_true false b e = absurd (cc)

right_true : (a b : Bool) → b ≡ true → (a || b) ≡ true
right_true true b e = refl
right_true false b e = e

part_same : (a b : Part) → is_same_part a b ≡ true → a ≡ b
part_same (Member k) (Member m) e = ap Member (number_same k m e)
part_same (Member k) Index e = absurd (cc)
part_same Index (Member m) e = absurd (cc)
part_same Index Index e = refl

same_part : (a : Part) → is_same_part a a ≡ true
same_part (Member k) = same_number k k refl
same_part Index = refl

path_begins : (path longer : List Part) → begins path longer ≡ true → Begins path longer
path_begins [] longer e = (longer, refl)
path_begins (part ∷ path) [] e = absurd (cc)
path_begins (part ∷ path) (other ∷ longer) e =
    let both = and_parts (is_same_part part other) (begins path longer) e in
    let rest = path_begins path longer both.1 in
    (rest.0, ap (λ p. p ∷ longer) (sym (part_same part other both.0)) ∙ ap (λ xs. part ∷ xs) rest.1)

begins_with : (path rest : List Part) → begins path (path ++ rest) ≡ true
begins_with [] rest = refl
begins_with (part ∷ path) rest = and_from (is_same_part part part) (begins path (path ++ rest)) (same_part part) (begins_with path rest)

begins_path : (path longer : List Part) → Begins path longer → begins path longer ≡ true
begins_path path longer b = ap (begins path) b.1 ∙ begins_with path b.0

along : (path other : List Part) → (begins path other || begins other path) ≡ true → Begins path other ⊎ Begins other path
along path other e = elim (or_cases (begins path other) (begins other path) e) [
  | inl b ↦ inl (path_begins path other b)
  | inr b ↦ inr (path_begins other path b)
]

either : (path other : List Part) → Begins path other ⊎ Begins other path → (begins path other || begins other path) ≡ true
either path other (inl b) = left_true (begins path other) (begins other path) (begins_path path other b)
either path other (inr b) = right_true (begins path other) (begins other path) (begins_path other path b)

pub tells : (taken : List Bool) (a b : Touch) → (met taken a b ≡ true) ↔ Meet taken a b
tells taken Mem Mem = (λ _. tt, λ _. refl)
tells taken Mem (Object n path) = (λ e. e, λ h. h)
tells taken (Object n path) Mem = (λ e. e, λ h. h)
tells taken (Object m path) (Object n other) = (
  λ e. let both = and_parts (m == n) (begins path other || begins other path) e in (number_same m n both.0, along path other both.1),
  λ h. and_from (m == n) (begins path other || begins other path) (same_number m n h.0) (either path other h.1),
)

-- what is told of two touches is the test
pub test_is : (told : Bool) (taken : List Bool) (a b : Touch) → MatchBool told (Meet taken a b) (Meet taken a b → ⊥) → told ≡ met taken a b
test_is true taken a b h = sym ((tells taken a b).1 h)
test_is false taken a b h = sym (not_true (met taken a b) (λ e. h ((tells taken a b).0 e)))
