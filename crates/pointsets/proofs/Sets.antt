-- What joins and covers come to.
use Rattle.std.proofs.Common.{◌≡◌, ℕ, ◌≤◌, ◌<◌, Bool, true, false, List, [], ◌∷◌, length, nat_le, refl, subst, arith, rules, inl, inr, ◌||◌, ◌&&◌, not, ◌==◌}
use Rattle.std.specs.Prelude.{IsTrue}
use Rattle.std.specs.List.{list_all}
use Rattle.pointsets.specs.declared.Base.{Base}
use Rattle.pointsets.specs.declared.Base.TheVariants.{Null, Dead, Object}
use Rattle.pointsets.specs.Targets.{BaseSet, Any, Among, has_name, has_base, put, put_all, at_most_16, with_objects, joined, Covers, covers_set}
use Rattle.pointsets.proofs.Names.{by_bool, eq-true, is-eq, length-put_all}

pub le-true : (a b : ℕ) → nat_le a b ≡ true → a ≤ b
le-true a b h = search rules

le-false : (a b : ℕ) → nat_le a b ≡ false → b < a
le-false a b h = search rules

is-le : (a b : ℕ) → a ≤ b → nat_le a b ≡ true
is-le a b h = search rules

no-le : (a b : ℕ) → b < a → nat_le a b ≡ false
no-le a b h = search rules

objects-any : (ns : List ℕ) → with_objects Any ns ≡ Any
objects-any [] = refl
objects-any (n ∷ ns) = objects-any ns

-- objects put in one after another are as many at once
pub objects-at_once : (names ns : List ℕ) (null dead : Bool) → length names ≤ 16
    → with_objects (Among names null dead) ns ≡ at_most_16 (put_all names ns) null dead
objects-at_once names [] null dead few = rw (is-le (length names) 16 few) refl
objects-at_once names (n ∷ ns) null dead few =
    by_bool (nat_le (length (put names n)) 16)
    (λ q. rw q (objects-at_once (put names n) ns null dead (le-true _ 16 q)))
    (λ q. let long = le-false (length (put names n)) 16 q in
    rw (q, objects-any ns, no-le (length (put_all (put names n) ns)) 16 (omega (arith, long, length-put_all (put names n) ns))) refl)

all-has : (p : ℕ → Bool) (ns : List ℕ) (n : ℕ) → list_all p ns ≡ true → has_name ns n ≡ true → p n ≡ true
all-has p [] n h k = cc
all-has p (x ∷ ns) n h k =
    by_bool (p x)
    (λ q. by_bool (x == n) (λ r. subst (λ (y : ℕ). p y ≡ true) (eq-true x n r) q)
    (λ r. all-has p ns n (rw q at h) (rw r at k)))
    (λ q. let no : false ≡ true = rw q at h in cc)

all-from_has : (p : ℕ → Bool) (ns : List ℕ) → ((n : ℕ) → has_name ns n ≡ true → p n ≡ true) → list_all p ns ≡ true
all-from_has p [] h = refl
all-from_has p (x ∷ ns) h =
    rw (h x (rw (is-eq x x refl) refl))
    (all-from_has p ns (λ n k. h n (by_bool (x == n) (λ q. rw q refl) (λ q. rw q k))))

each-covered : (names more : List ℕ) (null dead null' dead' : Bool)
    → covers_set (Among names null dead) (Among more null' dead') ≡ true
    → (b : Base) → IsTrue (has_base (Among more null' dead') b) → IsTrue (has_base (Among names null dead) b)
each-covered names more null dead null' dead' h Null k = by_bool null (λ q. q) (λ q. let no : false ≡ true = rw (q, k) at h in cc)
each-covered names more null dead null' dead' h Dead k =
    by_bool dead (λ q. q) (λ q. by_bool (null || not null') (λ r. let no : false ≡ true = rw (r, q, k) at h in cc) (λ r. let no : false ≡ true = rw r at h in cc))
each-covered names more null dead null' dead' h (Object n) k =
    by_bool (null || not null')
    (λ q. by_bool (dead || not dead') (λ r. all-has (has_name names) more n (rw (q, r) at h) k) (λ r. let no : false ≡ true = rw (q, r) at h in cc))
    (λ q. let no : false ≡ true = rw q at h in cc)

mark-covered : (mine other : Bool) → (other ≡ true → mine ≡ true) → (mine || not other) ≡ true
mark-covered true other h = refl
mark-covered false true h = h refl
mark-covered false false h = refl

-- the test tells whether a set covers another
pub covers-test : (s t : BaseSet) → (covers_set s t ≡ true → Covers s t) × (Covers s t → covers_set s t ≡ true)
covers-test Any t = (λ h. inl refl, λ h. refl)
covers-test (Among names null dead) Any = (λ h. cc, λ h. elim h [ inl e ↦ cc | inr d ↦ absurd (d.0 refl) ])
covers-test (Among names null dead) (Among more null' dead') = (
  λ h. inr ((λ e. cc), each-covered names more null dead null' dead' h),
  λ h. elim h [
    | inl e ↦ cc
    | inr d ↦ rw (
      mark-covered null null' (d.1 Null),
      mark-covered dead dead' (d.1 Dead),
      all-from_has (has_name names) more (λ n k. d.1 (Object n) k),
    ) refl
  ],
)

-- a join puts the names of the other set in one after another
pub joined-is : (names more : List ℕ) (null dead null' dead' : Bool) → length names ≤ 16
    → with_objects (Among names (null || null') (dead || dead')) more ≡ joined (Among names null dead) (Among more null' dead')
joined-is names more null dead null' dead' few = objects-at_once names more (null || null') (dead || dead') few
