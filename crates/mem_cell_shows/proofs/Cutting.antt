-- Sets that have what they are to have.
use Rattle.std.proofs.Common.{ℕ, suc, ◌≡◌, ◌<◌, Bool, true, false, List, [], ◌∷◌, ◌||◌, arith, get_or, length, refl, sym, subst}
use Rattle.std.specs.Prelude.{IsTrue, ◌==◌}
use Rattle.pointsets.specs.declared.Base.{Base}
use Rattle.pointsets.specs.declared.Base.TheVariants.{Dead, Null, Object}
use Rattle.pointsets.specs.Targets.{Among, Any, BaseSet, has_base, has_name, names_of, with_base}
use Rattle.pointsets.proofs.Names.{eq-true, is-eq}
use Rattle.mem_cell_shows.specs.Changes.{IsCommon}

-- a set of one base has it
pub one-has : (b : Base) → has_base (with_base (Among [] false false) b) b ≡ true
one-has Null = refl
one-has Dead = refl
one-has (Object n) = is-same (n == n) (is-eq n n refl) where
  is-same : (t : Bool) → t ≡ true → (t || false) ≡ true
  is-same true h = refl
  is-same false h = h

pub names-has : (set : BaseSet) (n : ℕ) → (set ≡ Any → ⊥) → has_base set (Object n) ≡ true → has_name (names_of set) n ≡ true
names-has Any n some h = absurd (some refl)
names-has (Among names null dead) n some h = h

-- a name of a list has a place in it
pub name-at : (names : List ℕ) (n : ℕ) → has_name names n ≡ true → (k : ℕ) × (k < length names) × (get_or names k 0 ≡ n)
name-at [] n h = cc
name-at (x ∷ names) n h = by (x == n) refl (λ g. name-at names n g) where
  rest : (a b : Bool) → a ≡ false → (a || b) ≡ true → b ≡ true
  rest true b g k = cc
  rest false b g k = k

  by : (t : Bool) → (x == n) ≡ t → (has_name names n ≡ true → (k : ℕ) × (k < length names) × (get_or names k 0 ≡ n))
      → (k : ℕ) × (k < length (x ∷ names)) × (get_or (x ∷ names) k 0 ≡ n)
  by true e more = (0, omega arith, eq-true x n e)
  by false e more = let r = more (rest (x == n) (has_name names n) e h) in (suc r.0, omega (arith, r.1), r.2)

-- what is kept of a set by its parts
pub common-has : (set within : BaseSet) (null dead : Bool) (names : List ℕ) (objects with_null left : BaseSet) → (set ≡ Any → ⊥) → names ≡ names_of set
    → ((n : ℕ) → has_name names n ≡ true → has_base within (Object n) ≡ true → has_base objects (Object n) ≡ true)
    → ((x : Base) → has_base objects x ≡ true → has_base with_null x ≡ true) → (IsTrue null → has_base with_null Null ≡ true)
    → ((x : Base) → has_base with_null x ≡ true → has_base left x ≡ true) → (IsTrue dead → has_base left Dead ≡ true)
    → IsCommon set within null dead left
common-has set within null dead names objects with_null left some are in_objects old_null new_null old_dead new_dead = by where
  by : IsCommon set within null dead left
  by Null here inside n d = old_dead Null (new_null (n refl))
  by Dead here inside n d = new_dead (d refl)
  by (Object x) here inside n d =
      old_dead (Object x) (old_null (Object x) (in_objects x (subst (λ ns. has_name ns x ≡ true) (sym are) (names-has set x some here)) inside))
