-- What is shown of addresses in named objects.
use Rattle.std.proofs.Common.{◌≡◌, ◌≤ℤ◌, ◌<◌, ◌⊎◌, inl, inr, ℕ, ℤ, pos, ◌+ℤ◌, ◌*ℤ◌, false, true, arith, refl, sym, subst, ap, ◌∙◌, List, [], ◌∷◌, length, Option, Some, None}
use Rattle.std.specs.Prelude.{All, Contains, if◌then◌else◌, option_and_then}
use Rattle.std.specs.Int.RustNames.{FitsSigned}
use mir.Syntax.{w128}
use Rattle.std.proofs.lemmas.Int.{ints}
use Rattle.std.proofs.lemmas.List.Elements.{All-nil, All-cons, All-contains}
use Rattle.std.proofs.lemmas.Option.{option_and_then_some}
use Rattle.std.proofs.Math.IntN.{*ℤ_comm}
use Rattle.c_syntax.specs.declared.alarm.Spot.{Spot}
use Rattle.c_syntax.specs.declared.alarm.Spot.TheVariants as spots
use Rattle.c_syntax.specs.declared.alarm.Shown.TheVariants as shows
use Rattle.c_syntax.specs.Types.{ObjectTree}
use Rattle.c_syntax.specs.Operand.{Operand, Point}
use Rattle.c_syntax.specs.Admission.{IsInShown, IsSpotIn, IsModerate, IsProperSet}
use Rattle.block_mem.specs.declared.types.Value.{Value}
use Rattle.block_mem.specs.declared.types.Value.TheVariants as values
use Rattle.c_values.specs.Places.{ObjectMemory, place_of, owner_of, point}
use Rattle.num_api.specs.Fold.{IsAlignment}
use Rattle.num_api.specs.Residues.{IsMultiple}
use Rattle.num_api.proofs.Multiples.{zero_multiple}
use Rattle.csharp.specs.Trees.{CsExprTree}
use Rattle.csharp.specs.States.{State, value_of}
use Rattle.mem_api.specs.Named.{Fixed, IsNamed, fixed_at, HasOnly}
use Rattle.mem_api.specs.Owned.{IsOwned}
use Rattle.mem_places.specs.Places.{PointsTo, IsPlaceOf, NamesPlace}
use Rattle.mem_places.specs.ShownPlaces.{set_at, set_of, IsShownOffset, IsSetFor, IsShownPlace}
use Rattle.mem_places.proofs.Shifting.{fixed_points, fixed_named, fixed_multiple}

-- ---- where such a pointer points

points_at : (count : ℕ) (m : ObjectMemory) (o b : ℕ) (k : ℤ) → IsOwned count m → place_of m o ≡ Some b
    → point m (values.Ptr (record { block = b; offset = k })) ≡ Some (Point (spots.At o k))
points_at count m o b k owned h = let p = owned.placed o b h in
    ap (λ l. Some (Point (if l then spots.At (owner_of m b) k else spots.Dead))) p.live ∙ ap (λ n. Some (Point (spots.At n k))) p.owner

pub shown_at : (count : ℕ) (s : State) (o : ℕ) (k : ℤ) (v : Value) (x : Operand) → IsOwned count s.memory → PointsTo s o k v → point s.memory v ≡ Some x
    → x ≡ Point (spots.At o k)
shown_at count s o k v x owned (b, there, is) h =
    let e : Some (Point (spots.At o k)) ≡ Some x = sym (points_at count s.memory o b k owned there) ∙ ap (point s.memory) (sym is) ∙ h in cc

-- the one object of a set
only_name : (o p : ℕ) → Contains (o ∷ []) p → p ≡ o
only_name o p c = All-contains (λ x. x ≡ o) (o ∷ []) p (All-cons (λ x. x ≡ o) o [] refl (All-nil (λ x. x ≡ o))) c

names_below : (o count : ℕ) → o < count → All (λ x. x < count) (o ∷ [])
names_below o count h = All-cons (λ x. x < count) o [] h (All-nil (λ x. x < count))

-- ---- one offset

at_there : (objects : List ObjectTree) (o : ℕ) (k : ℤ) → IsSpotIn objects (set_at (o ∷ []) k) (spots.At o k)
at_there objects o k = (inl (0, omega arith, refl), (omega (arith, ints), omega (arith, ints)), (pos 0, omega (arith, ints)))

at_object : (objects : List ObjectTree) (o : ℕ) (k : ℤ) (s : Spot) → IsSpotIn objects (set_at (o ∷ []) k) s → (d : ℤ) × (s ≡ spots.At o d)
at_object objects o k spots.Null h = absurd (cc)
at_object objects o k spots.Dead h = absurd (cc)
at_object objects o k (spots.At p d) h = (d, ap (λ n. spots.At n d) (name h.0)) where
  name : Contains (o ∷ []) p ⊎ ((false ≡ true) × (p < length objects)) → p ≡ o
  name (inl c) = only_name o p c
  name (inr q) = let no_one = q.0 in absurd (cc)

at_proper : (names : List ℕ) (k : ℤ) → IsModerate (Some k) → IsProperSet (set_at names k)
at_proper names k m = record {
  lo_moderate = m;
  hi_moderate = m;
  modulus_low = omega (arith, ints);
  modulus_high = omega (arith, ints);
  remainder = λ h. absurd (omega (arith, ints));
  point = λ h. (refl, refl);
}

-- ---- the multiples of an alignment

in_class : (u k : ℤ) → IsMultiple u k → (j : ℤ) × (k ≡ (pos 0 +ℤ (u *ℤ j)))
in_class u k (j, e) = (j, (let c = *ℤ_comm j u in omega (arith, ints)))

of_there : (objects : List ObjectTree) (o : ℕ) (u k : ℤ) → IsMultiple u k → IsSpotIn objects (set_of (o ∷ []) u) (spots.At o k)
of_there objects o u k m = (inl (0, omega arith, refl), (tt, tt), in_class u k m)

of_object : (objects : List ObjectTree) (o : ℕ) (u : ℤ) (s : Spot) → IsSpotIn objects (set_of (o ∷ []) u) s → (d : ℤ) × (s ≡ spots.At o d)
of_object objects o u spots.Null h = absurd (cc)
of_object objects o u spots.Dead h = absurd (cc)
of_object objects o u (spots.At p d) h = (d, ap (λ n. spots.At n d) (name h.0)) where
  name : Contains (o ∷ []) p ⊎ ((false ≡ true) × (p < length objects)) → p ≡ o
  name (inl c) = only_name o p c
  name (inr q) = let no_one = q.0 in absurd (cc)

between : (u : ℤ) → IsAlignment u → (pos 1 ≤ℤ u) × (u ≤ℤ pos 8)
between u (inl e) = (omega (arith, ints), omega (arith, ints))
between u (inr (inl e)) = (omega (arith, ints), omega (arith, ints))
between u (inr (inr (inl e))) = (omega (arith, ints), omega (arith, ints))
between u (inr (inr (inr e))) = (omega (arith, ints), omega (arith, ints))

of_proper : (names : List ℕ) (u : ℤ) → IsAlignment u → IsProperSet (set_of names u)
of_proper names u a = let b = between u a in record {
  lo_moderate = tt;
  hi_moderate = tt;
  modulus_low = omega (arith, ints);
  modulus_high = omega (arith, ints);
  remainder = λ h. (omega (arith, ints), omega (arith, ints));
  point = λ h. absurd (omega (arith, ints));
}

-- ---- what is shown

module _ (e : CsExprTree) (o : ℕ) (u : ℤ) (p : IsPlaceOf e o u) where
  -- the object lives where the address has a value
  place_lives : (s : State) (v : Value) → value_of e s ≡ Some v → (o : ℕ) × (b : ℕ) × (place_of s.memory o ≡ Some b)
  place_lives s v h = let at = p.points s v h in (o, at.1.0, at.1.1)

  unit_shown : (objects : List ObjectTree) (s : State) (x : Operand) → IsOwned (length objects) s.memory → option_and_then (point s.memory) (value_of e s) ≡ Some x
      → IsInShown objects x (shows.One (set_of (o ∷ []) u))
  unit_shown objects s x owned h = option_and_then_some (point s.memory) (value_of e s) x h (λ v f g.
      let at = p.points s v f in
      subst (λ (y : Operand). IsInShown objects y (shows.One (set_of (o ∷ []) u))) (sym (shown_at (length objects) s o at.0 v x owned at.1 g))
      (of_there objects o u at.0 at.2))

  unit_set : IsSetFor e (set_of (o ∷ []) u)
  unit_set = record {
    holds = unit_shown;
    proper = of_proper (o ∷ []) u p.alignment;
    names = λ q h. names_below o (length q.objects) (p.there q h);
    lives = place_lives;
  }

  module _ (names : NamesPlace e (Some (record { object = o; unit = u }))) where
    unit_only : (objects : List ObjectTree) (x c : ℕ) → IsAlignment (pos c) → IsNamed x c e → HasOnly objects (set_of (o ∷ []) u) x c
    unit_only objects x c a named =
        let n = names x c a named in record {
          object = λ s h. subst (λ (y : ℕ). (d : ℤ) × (s ≡ spots.At y d)) n.0 (of_object objects o u s h);
          modulus = n.1;
          rem = zero_multiple (pos c);
        }

    unit_place : ((f : Fixed) → fixed_at e ≡ Some f → IsModerate (Some f.offset) → ⊥) → IsShownPlace e (Some (set_of (o ∷ []) u))
    unit_place none = record { set = unit_set; named = unit_only; fixed = λ f h m. absurd (none f h m) }

    -- of one object at a constant offset
    module _ (f : Fixed) (is : fixed_at e ≡ Some f) (m : IsModerate (Some f.offset)) where
      own : f.object ≡ o
      own = sym (names f.object 1 (inl refl) (fixed_named e f is)).0

      at_shown : (objects : List ObjectTree) (s : State) (x : Operand) → IsOwned (length objects) s.memory
          → option_and_then (point s.memory) (value_of e s) ≡ Some x → IsInShown objects x (shows.One (set_at (o ∷ []) f.offset))
      at_shown objects s x owned h = option_and_then_some (point s.memory) (value_of e s) x h (λ v g k.
          let at : PointsTo s o f.offset v = subst (λ (y : ℕ). PointsTo s y f.offset v) own (fixed_points e s v f is g) in
          subst (λ (y : Operand). IsInShown objects y (shows.One (set_at (o ∷ []) f.offset))) (sym (shown_at (length objects) s o f.offset v x owned at k))
          (at_there objects o f.offset))

      fixed_place : IsShownPlace e (Some (set_at (o ∷ []) f.offset))
      fixed_place = record {
        set = record {
          holds = at_shown;
          proper = at_proper (o ∷ []) f.offset m;
          names = λ q h. names_below o (length q.objects) (p.there q h);
          lives = place_lives;
        };
        named = λ objects x c a named.
            let n = names x c a named in record {
              object = λ s h. subst (λ (y : ℕ). (d : ℤ) × (s ≡ spots.At y d)) n.0 (at_object objects o f.offset s h);
              modulus = zero_multiple (pos c);
              rem = fixed_multiple e f x c is named;
            };
        fixed = λ g h k. let same : f ≡ g = one_fixed f g (fixed_at e) is h in (ap (λ (y : Fixed). Some y.offset) same, ap (λ (y : Fixed). Some y.offset) same);
      }
        where
          one_fixed : (f g : Fixed) (w : Option Fixed) → w ≡ Some f → w ≡ Some g → f ≡ g
          one_fixed f g w i j = let e : Some f ≡ Some g = sym i ∙ j in cc

-- an offset that may be shown is an i128
pub offset_unknown : (e : CsExprTree) (o : Option ℤ) → o ≡ None → ((f : Fixed) → fixed_at e ≡ Some f → FitsSigned w128 f.offset → o ≡ Some f.offset)
    → IsShownOffset e None
offset_unknown e o none fixed = λ f h m. let there = fixed f h (moderate_fits f.offset m) in absurd (cc) where
  moderate_fits : (k : ℤ) → IsModerate (Some k) → FitsSigned w128 k
  moderate_fits k m = omega (arith, ints)

pub offset_immoderate : (e : CsExprTree) (k : ℤ) → (f : Fixed) × (fixed_at e ≡ Some f) × (f.offset ≡ k) → (IsModerate (Some k) → ⊥) → IsShownOffset e None
offset_immoderate e k (f, h, same) out = λ g i m. out (subst (λ (d : ℤ). IsModerate (Some d)) (one g i) m) where
  one : (g : Fixed) → fixed_at e ≡ Some g → g.offset ≡ k
  one g i = let both : Some g ≡ Some f = sym i ∙ h in let own : g ≡ f = cc in ap (λ (y : Fixed). y.offset) own ∙ same

-- with the names and the offset that the code has
pub shown_fixed : (e : CsExprTree) (o : ℕ) (u k : ℤ) (names : List ℕ) → names ≡ o ∷ [] → IsPlaceOf e o u → NamesPlace e (Some (record { object = o; unit = u }))
    → (f : Fixed) × (fixed_at e ≡ Some f) × (f.offset ≡ k) → IsModerate (Some k) → IsShownPlace e (Some (set_at names k))
shown_fixed e o u k names is p n (f, h, same) m =
    subst (λ (l : List ℕ). IsShownPlace e (Some (set_at l k))) (sym is)
    (subst (λ (d : ℤ). IsShownPlace e (Some (set_at (o ∷ []) d))) same
    (fixed_place e o u p n f h (subst (λ (d : ℤ). IsModerate (Some d)) (sym same) m)))

pub shown_unit : (e : CsExprTree) (o : ℕ) (u : ℤ) (names : List ℕ) → names ≡ o ∷ [] → IsPlaceOf e o u → NamesPlace e (Some (record { object = o; unit = u }))
    → ((f : Fixed) → fixed_at e ≡ Some f → IsModerate (Some f.offset) → ⊥) → IsShownPlace e (Some (set_of names u))
shown_unit e o u names is p n none = subst (λ (l : List ℕ). IsShownPlace e (Some (set_of l u))) (sym is) (unit_place e o u p n none)

pub shown_nothing : (e : CsExprTree) → NamesPlace e None → IsShownPlace e None
shown_nothing e names = record {
  set = tt;
  named = λ objects o c a named. absurd (names o c a named);
  fixed = λ f h m. absurd (names f.object 1 (inl refl) (fixed_named e f h));
}
