-- A join never weighs more, and less where something was not covered.
use Rattle.std.proofs.Common.{ℕ, zero, suc, ◌≡◌, ◌+◌, ◌<◌, ◌≤◌, Bool, true, false, ◌||◌, not, ◌==◌, List, [], ◌∷◌, length, nat_le, nat_lt, ◌⊎◌, inl, inr, refl, sym, ap, subst, arith}
use Rattle.std.specs.List.{list_all}
use Rattle.pointsets.specs.Targets.{BaseSet, Any, Among, joined, has_name, put, put_all, covers_set, room_of, set_weight}
use Rattle.pointsets.proofs.Names.{by_bool, length-put, length-put_all}
use Rattle.pointsets.proofs.Sets.{le-true}

put_new : (xs : List ℕ) (n : ℕ) → has_name xs n ≡ false → length xs < length (put xs n)
put_new [] n h = omega arith
put_new (x ∷ xs) n h =
    by_bool (nat_lt n x) (λ p. rw p (omega arith))
    (λ p. by_bool (x == n) (λ q. let no : true ≡ false = rw q at h in cc) (λ q. let k : has_name xs n ≡ false = rw q at h in rw (p, q) (omega (arith, put_new xs n k))))

by_le : {P : Type 0} (a b : ℕ) → (a ≤ b → P) → (b < a → P) → P
by_le zero b f g = f (omega arith)
by_le (suc a) zero f g = g (omega arith)
by_le (suc a) (suc b) f g = by_le a b (λ p. f (omega arith)) (λ p. g (omega arith))

-- what is put in makes the list longer, or is there
put-same : (xs : List ℕ) (n : ℕ) → length (put xs n) ≤ length xs → put xs n ≡ xs
put-same [] n h = absurd (omega (arith, h))
put-same (x ∷ xs) n h =
    by_bool (nat_lt n x) (λ p. let long : length (n ∷ x ∷ xs) ≤ length (x ∷ xs) = rw p at h in absurd (omega (arith, long)))
    (λ p. by_bool (x == n) (λ q. rw (p, q) refl) (λ q. let short : length (x ∷ put xs n) ≤ length (x ∷ xs) = rw (p, q) at h in rw (p, q) (ap (λ r. x ∷ r) (put-same xs n (omega (arith, short))))))

put_all-new : (names xs ns : List ℕ) → length names ≤ length xs
    → (length names < length xs) ⊎ ((k : ℕ) → has_name names k ≡ false → has_name xs k ≡ false)
    → list_all (has_name names) ns ≡ false → length names < length (put_all xs ns)
put_all-new names xs [] l s h = cc
put_all-new names xs (n ∷ ns) l (inl long) h = omega (arith, long, length-put xs n, length-put_all (put xs n) ns)
put_all-new names xs (n ∷ ns) l (inr few) h =
    by_bool (has_name names n)
    (λ q. let rest : list_all (has_name names) ns ≡ false = rw q at h in
    by_le (length (put xs n)) (length xs)
    (λ le. let same = put-same xs n le in subst (λ (ys : List ℕ). length names < length (put_all ys ns)) (sym same) (put_all-new names xs ns l (inr few) rest))
    (λ lt. put_all-new names (put xs n) ns (omega (arith, lt, l)) (inl (omega (arith, lt, l))) rest))
    (λ q. omega (arith, l, put_new xs n (few n q), length-put_all (put xs n) ns))

room-less : (a b : Bool) → room_of (a || b) ≤ room_of a
room-less true b = omega arith
room-less false true = omega arith
room-less false false = omega arith

room-falls : (a b : Bool) → (a || not b) ≡ false → room_of (a || b) < room_of a
room-falls true b h = cc
room-falls false true h = omega arith
room-falls false false h = cc

pub joined-less : (s t : BaseSet) → set_weight (joined s t) ≤ set_weight s
joined-less Any t = omega arith
joined-less (Among names null dead) Any = omega arith
joined-less (Among names null dead) (Among more null' dead') =
    by_bool (nat_le (length (put_all names more)) 16)
    (λ q. rw q (omega (arith, length-put_all names more, room-less null null', room-less dead dead')))
    (λ q. rw q (omega arith))

pub joined-falls : (s t : BaseSet) → covers_set s t ≡ false → set_weight (joined s t) < set_weight s
joined-falls Any t h = cc
joined-falls (Among names null dead) Any h = omega arith
joined-falls (Among names null dead) (Among more null' dead') h =
    by_bool (nat_le (length (put_all names more)) 16)
    (λ q. let few = le-true (length (put_all names more)) 16 q in
    rw q (by_bool (null || not null')
    (λ n. by_bool (dead || not dead')
    (λ d. let all : list_all (has_name names) more ≡ false = rw (n, d) at h in
    omega (arith, few, put_all-new names names more (omega arith) (inr (λ k e. e)) all, room-less null null', room-less dead dead'))
    (λ d. omega (arith, length-put_all names more, room-less null null', room-falls dead dead' d)))
    (λ n. omega (arith, length-put_all names more, room-falls null null' n, room-less dead dead'))))
    (λ q. rw q (omega arith))
