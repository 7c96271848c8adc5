-- What joined, covered and killed sets have.
use Rattle.std.proofs.Common.{ℕ, ◌≡◌, Bool, true, false, ◌||◌, not, ◌==◌, List, [], ◌∷◌, length, nat_le, nat_lt, refl, sym, ap, subst, ◌∙◌, inl, inr, filter}
use Rattle.std.specs.List.{list_any}
use Rattle.pointsets.specs.declared.Base.{Base}
use Rattle.pointsets.specs.declared.Base.TheVariants.{Null, Dead, Object}
use Rattle.pointsets.specs.Targets.{BaseSet, Any, Among, has_name, has_base, put, put_all, at_most_16, joined, killed, covers_set}
use Rattle.pointsets.proofs.Names.{by_bool, eq-true, is-eq}
use Rattle.pointsets.proofs.Sets.{covers-test}

any-has : (b : Base) → has_base Any b ≡ true
any-has Null = refl
any-has Dead = refl
any-has (Object n) = refl

or-left : (a b : Bool) → a ≡ true → (a || b) ≡ true
or-left true b h = refl
or-left false b h = cc

or-right : (a b : Bool) → b ≡ true → (a || b) ≡ true
or-right true b h = refl
or-right false b h = h

or_either : {P : Type 0} (a b : Bool) → (a || b) ≡ true → (a ≡ true → P) → (b ≡ true → P) → P
or_either true b h f g = f refl
or_either false b h f g = g h

put-has : (xs : List ℕ) (n : ℕ) → has_name (put xs n) n ≡ true
put-has [] n = rw (is-eq n n refl) refl
put-has (x ∷ xs) n = by_bool (nat_lt n x) (λ p. rw (p, is-eq n n refl) refl)
    (λ p. by_bool (x == n) (λ q. rw (p, q, q) refl) (λ q. rw (p, q, q) (put-has xs n)))

put-keeps : (xs : List ℕ) (n k : ℕ) → has_name xs k ≡ true → has_name (put xs n) k ≡ true
put-keeps [] n k h = cc
put-keeps (x ∷ xs) n k h = by_bool (nat_lt n x) (λ p. rw p (or-right (n == k) (has_name (x ∷ xs) k) h))
    (λ p. by_bool (x == n) (λ q. rw (p, q) h)
    (λ q. rw (p, q) (or_either (x == k) (has_name xs k) h (λ e. or-left (x == k) _ e) (λ e. or-right (x == k) _ (put-keeps xs n k e)))))

put_all-keeps : (xs ns : List ℕ) (k : ℕ) → has_name xs k ≡ true → has_name (put_all xs ns) k ≡ true
put_all-keeps xs [] k h = h
put_all-keeps xs (n ∷ ns) k h = put_all-keeps (put xs n) ns k (put-keeps xs n k h)

put_all-has : (xs ns : List ℕ) (k : ℕ) → has_name ns k ≡ true → has_name (put_all xs ns) k ≡ true
put_all-has xs [] k h = cc
put_all-has xs (n ∷ ns) k h = or_either (n == k) (has_name ns k) h
    (λ e. put_all-keeps (put xs n) ns k (subst (λ m. has_name (put xs n) m ≡ true) (eq-true n k e) (put-has xs n)))
    (λ e. put_all-has (put xs n) ns k e)

at_most-has : (names : List ℕ) (null dead : Bool) (b : Base) → has_base (Among names null dead) b ≡ true → has_base (at_most_16 names null dead) b ≡ true
at_most-has names null dead b h = by_bool (nat_le (length names) 16) (λ q. rw q h) (λ q. rw q (any-has b))

pub joined-left : (s t : BaseSet) (b : Base) → has_base s b ≡ true → has_base (joined s t) b ≡ true
joined-left Any t b h = any-has b
joined-left (Among names null dead) Any b h = any-has b
joined-left (Among names null dead) (Among more null' dead') b h = at_most-has (put_all names more) (null || null') (dead || dead') b (part b h) where
  part : (c : Base) → has_base (Among names null dead) c ≡ true → has_base (Among (put_all names more) (null || null') (dead || dead')) c ≡ true
  part Null k = or-left null null' k
  part Dead k = or-left dead dead' k
  part (Object n) k = put_all-keeps names more n k

pub joined-right : (s t : BaseSet) (b : Base) → has_base t b ≡ true → has_base (joined s t) b ≡ true
joined-right Any t b h = any-has b
joined-right (Among names null dead) Any b h = any-has b
joined-right (Among names null dead) (Among more null' dead') b h = at_most-has (put_all names more) (null || null') (dead || dead') b (part b h) where
  part : (c : Base) → has_base (Among more null' dead') c ≡ true → has_base (Among (put_all names more) (null || null') (dead || dead')) c ≡ true
  part Null k = or-right null null' k
  part Dead k = or-right dead dead' k
  part (Object n) k = put_all-has names more n k

pub covers-has : (s t : BaseSet) (b : Base) → covers_set s t ≡ true → has_base t b ≡ true → has_base s b ≡ true
covers-has s t b h k = elim ((covers-test s t).0 h) [ inl e ↦ ap (λ (u : BaseSet). has_base u b) e ∙ any-has b | inr c ↦ c.1 b k ]

-- ---- objects that end

kept-name : (gone names : List ℕ) (n : ℕ) → has_name gone n ≡ false → has_name names n ≡ true → has_name (filter (λ m. not (has_name gone m)) names) n ≡ true
kept-name gone [] n h k = cc
kept-name gone (x ∷ xs) n h k = by_bool (has_name gone x)
    (λ q. or_either (x == n) (has_name xs n) k (λ e. let no : true ≡ false = sym q ∙ ap (has_name gone) (eq-true x n e) ∙ h in cc) (λ e. rw q (kept-name gone xs n h e)))
    (λ q. rw q (or_either (x == n) (has_name xs n) k (λ e. or-left (x == n) _ e) (λ e. or-right (x == n) _ (kept-name gone xs n h e))))

gone-name : (gone names : List ℕ) (n : ℕ) → has_name gone n ≡ true → has_name names n ≡ true → list_any (has_name gone) names ≡ true
gone-name gone [] n h k = cc
gone-name gone (x ∷ xs) n h k = or_either (x == n) (has_name xs n) k
    (λ e. or-left (has_name gone x) _ (ap (has_name gone) (eq-true x n e) ∙ h))
    (λ e. or-right (has_name gone x) _ (gone-name gone xs n h e))

pub killed-other : (s : BaseSet) (gone : List ℕ) (n : ℕ) → has_name gone n ≡ false → has_base s (Object n) ≡ true → has_base (killed s gone) (Object n) ≡ true
killed-other Any gone n h k = refl
killed-other (Among names null dead) gone n h k = kept-name gone names n h k

pub killed-here : (s : BaseSet) (gone : List ℕ) (n : ℕ) → has_name gone n ≡ true → has_base s (Object n) ≡ true → has_base (killed s gone) Dead ≡ true
killed-here Any gone n h k = refl
killed-here (Among names null dead) gone n h k = or-right dead _ (gone-name gone names n h k)

pub killed-dead : (s : BaseSet) (gone : List ℕ) → has_base s Dead ≡ true → has_base (killed s gone) Dead ≡ true
killed-dead Any gone k = refl
killed-dead (Among names null dead) gone k = or-left dead _ k

pub killed-null : (s : BaseSet) (gone : List ℕ) → has_base s Null ≡ true → has_base (killed s gone) Null ≡ true
killed-null Any gone k = refl
killed-null (Among names null dead) gone k = k

-- where nothing has ended all names stay
pub none-gone : (names : List ℕ) → filter (λ n. not (has_name [] n)) names ≡ names
none-gone [] = refl
none-gone (x ∷ xs) = ap (λ ns. x ∷ ns) (none-gone xs)
