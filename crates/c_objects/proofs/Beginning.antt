-- The blocks of static objects, before their initial bytes are put in.
use Rattle.std.proofs.Common.{◌≡◌, ℕ, zero, suc, ◌+◌, ◌<◌, ◌≤◌, Bool, true, false, sym, ap, ◌∙◌, arith, List, [], ◌∷◌, length, Some, None}
use Rattle.std.specs.Prelude.{if◌then◌else◌, IsTrue, IsSomeAnd, slice_get}
use Rattle.std.proofs.lemmas.List.{get_or-set_same, get_or-set_other}
use Rattle.c_syntax.specs.Types.{ObjectTree}
use Rattle.c_values.specs.Places.{ObjectMemory, place_of}
use Rattle.c_objects.specs.Opening.{no_objects, opened}
use Rattle.c_objects.specs.Statics.{open_statics, opened_statics}
use Rattle.c_objects.proofs.Keeping.{Keeps, keeps_opened, keeps_none, none_lives}

module _ (objects : List ObjectTree) where
  -- no object from number x on lives yet
  record IsReady (m : ObjectMemory) (x : ℕ) : Type 0 where
    kept : Keeps (Unit {0}) objects m
    free : (y : ℕ) → x ≤ y → place_of m y ≡ None

  next_ready : (m : ObjectMemory) (x : ℕ) (s : Bool) → IsReady m x → x < length objects → IsReady (if s then opened objects m x else m) (suc x)
  next_ready m x true r h = record {
    kept = keeps_opened (Unit {0}) objects m x r.kept h (r.free x (omega arith));
    free = λ y l. get_or-set_other m.places x y (Some (length m.blocks)) None (λ e. omega (arith, l, e)) ∙ r.free y (omega arith);
  }
  next_ready m x false r h = record { kept = r.kept; free = λ y l. r.free y (omega arith) }

  statics_kept : (os : List ObjectTree) (x : ℕ) (m : ObjectMemory) → x + length os ≤ length objects → IsReady m x → Keeps (Unit {0}) objects (open_statics objects os x m)
  statics_kept [] x m h r = r.kept
  statics_kept (o ∷ os) x m h r = statics_kept os (suc x) (if o.is_static then opened objects m x else m) (omega arith)
      (next_ready m x o.is_static r (omega arith))

  -- what lives has its place still
  next_stays : (m : ObjectMemory) (x : ℕ) (s : Bool) (y b : ℕ) → y < x → place_of m y ≡ Some b → place_of (if s then opened objects m x else m) y ≡ Some b
  next_stays m x true y b l h = get_or-set_other m.places x y (Some (length m.blocks)) None (λ e. omega (arith, l, e)) ∙ h
  next_stays m x false y b l h = h

  stays : (os : List ObjectTree) (x : ℕ) (m : ObjectMemory) (y b : ℕ) → y < x → place_of m y ≡ Some b → place_of (open_statics objects os x m) y ≡ Some b
  stays [] x m y b l h = h
  stays (o ∷ os) x m y b l h = stays os (suc x) (if o.is_static then opened objects m x else m) y b (omega arith) (next_stays m x o.is_static y b l h)

  next_placed : (m : ObjectMemory) (x : ℕ) (s : Bool) → IsTrue s → x < length m.places → place_of (if s then opened objects m x else m) x
      ≡ Some (length m.blocks)
  next_placed m x true e h = get_or-set_same m.places x (Some (length m.blocks)) None h
  next_placed m x false e h = absurd (cc)

  placed : (os : List ObjectTree) (x : ℕ) (m : ObjectMemory) (j : ℕ) → x + length os ≤ length objects → IsReady m x
      → IsSomeAnd (slice_get os j) (λ o. IsTrue o.is_static) → (b : ℕ) × (place_of (open_statics objects os x m) (x + j) ≡ Some b)
  placed [] x m j h r s = absurd s
  placed (o ∷ os) x m zero h r s =
      let here : x + 0 ≡ x = omega arith in
      let first = next_placed m x o.is_static s (omega (arith, r.kept.counted)) in (
        length m.blocks,
        ap (λ y. place_of (open_statics objects (o ∷ os) x m) y) here
            ∙ stays os (suc x) (if o.is_static then opened objects m x else m) x (length m.blocks) (omega arith) first,
      )
  placed (o ∷ os) x m (suc j) h r s =
      let more : x + suc j ≡ suc x + j = omega arith in
      let rest = placed os (suc x) (if o.is_static then opened objects m x else m) j (omega arith) (next_ready m x o.is_static r (omega arith)) s in
      (rest.0, ap (λ y. place_of (open_statics objects (o ∷ os) x m) y) more ∙ rest.1)

  ready : IsReady (no_objects (length objects)) 0
  ready = record { kept = keeps_none (Unit {0}) objects; free = λ y h. none_lives (length objects) y }

  pub opened_kept : Keeps (Unit {0}) objects (opened_statics objects)
  opened_kept = statics_kept objects 0 (no_objects (length objects)) (omega arith) ready

  -- each static object has a block
  pub static_placed : (x : ℕ) → IsSomeAnd (slice_get objects x) (λ o. IsTrue o.is_static) → (b : ℕ) × (place_of (opened_statics objects) x ≡ Some b)
  static_placed x s =
      let p = placed objects 0 (no_objects (length objects)) x (omega arith) ready s in
      let same : 0 + x ≡ x = omega arith in
      (p.0, ap (λ y. place_of (opened_statics objects) y) (sym same) ∙ p.1)
