-- Objects that end, one after another.
use Rattle.std.proofs.Common.{ℕ, ℤ, zero, suc, ◌≡◌, ◌≢◌, ◌<◌, ◌==◌, ◌||◌, Bool, true, false, List, [], ◌∷◌, slice_get, slice_set, Option, Some, None, refl, sym, ap, subst, ◌∙◌, arith, inl, inr, get_or}
use Rattle.std.specs.Prelude.{option_map}
use Rattle.std.proofs.lemmas.Bool.{eq-eqb}
use Rattle.std.proofs.lemmas.Grind.{common_steps}
use Rattle.c_syntax.specs.Types.{ObjectTree}
use Rattle.ext_int.specs.Valuation.{value_at}
use Rattle.pointsets.specs.Targets.{BaseSet, has_name, killed}
use Rattle.pointsets.proofs.Bases.{killed-dead, killed-null, killed-other}
use Rattle.block_mem.specs.declared.types.Byte.{Byte}
use Rattle.block_mem.specs.declared.types.Scalar.{Scalar}
use Rattle.block_mem.specs.declared.types.Value.{Value}
use Rattle.block_mem.specs.declared.types.Value.TheVariants as values
use Rattle.c_values.specs.Places.{ObjectMemory, owner_of, place_of}
use Rattle.c_objects.specs.Kept.{KeepsObjects}
use Rattle.c_objects.specs.Opening.{ended_at, shut}
use Rattle.c_objects.proofs.Keeping.{keeps_objects, objects_keep}
use Rattle.c_objects.proofs.Shutting.{keeps_shut}
use Rattle.csharp.specs.States.{State}
use Rattle.csharp.specs.Actions.{leave}
use Rattle.mem_cell_bytes.specs.declared.entry.Entry.{Entry}
use Rattle.mem_cell_bytes.specs.declared.entry.FillByte.{FillByte}
use Rattle.mem_cell_bytes.specs.Cells.{HasBlock, Meets, Points, bytes_in, var_of}
use Rattle.mem_cell_bytes.specs.Contents.{Contents}
use Rattle.mem_cell_bytes.specs.Ends.{killed_all}
use Rattle.mem_cell_bytes.specs.Joins.{SaysLess}
use Rattle.mem_cell_bytes.specs.Stands.{Claims, Stands, claims}
use Rattle.mem_cell_bytes.proofs.Ends.{ended-stands}
use Rattle.mem_cell_bytes.proofs.Joins.{more-stands}
use Rattle.mem_cell_bytes.proofs.Steps.{has-none}
use Rattle.mem_cell_grid.specs.Endings.{AreEnded, cleared, ended_pointers, killed_entry}
use Rattle.mem_cell_grid.proofs.Endings.{cleared-get}
use Rattle.mem_cell_grid.proofs.Meetings.{wider-self}
use Rattle.mem_cell_loads.proofs.Leads.{alive-made}
use Rattle.mem_cell_domain.proofs.Items.{map-get}

-- ---- what is said once objects have ended

abbrev ended_claims : Claims → ℕ → Claims
ended_claims k x = record {
  pointer = λ d set. (old : BaseSet) × k.pointer d old × (set ≡ killed old (x ∷ []));
  cell = λ o e. (d : Entry) × k.cell o d × (e ≡ record d { targets = killed d.targets (x ∷ []) }) × (o ≢ x);
  byte = λ o q y. k.byte o q y × (o ≢ x);
}

abbrev ended_all : Claims → List ℕ → Claims
ended_all k [] = k
ended_all k (x ∷ xs) = ended_all (ended_claims k x) xs

all-pointer : (xs : List ℕ) (k : Claims) (d : ℕ) (set : BaseSet) → k.pointer d set → (ended_all k xs).pointer d (killed_all set xs)
all-pointer [] k d set h = h
all-pointer (x ∷ xs) k d set h = all-pointer xs (ended_claims k x) d (killed set (x ∷ [])) (set, h, refl)

apart-names : (x o : ℕ) (xs : List ℕ) → has_name (x ∷ xs) o ≡ false → (o ≡ x → ⊥) × (has_name xs o ≡ false)
apart-names x o xs h = by (x == o) refl
  where
    by : (b : Bool) → (x == o) ≡ b → (o ≡ x → ⊥) × (has_name xs o ≡ false)
    by true e = let clash : true ≡ false = sym (ap (λ c. c || has_name xs o) e) ∙ h in absurd (cc)
    by false e = ((λ is. let one : (x == o) ≡ true = eq-eqb x o (sym is) in absurd (cc)), sym (ap (λ c. c || has_name xs o) e) ∙ h)

all-cell : (xs : List ℕ) (k : Claims) (o : ℕ) (e : Entry) → has_name xs o ≡ false → k.cell o e → (ended_all k xs).cell o (killed_entry xs e)
all-cell [] k o e name h = h
all-cell (x ∷ xs) k o e name h = let a = apart-names x o xs name in all-cell xs (ended_claims k x) o (record e { targets = killed e.targets (x ∷ []) }) a.1 (e, h, refl, a.0)

all-byte : (xs : List ℕ) (k : Claims) (o q : ℕ) (y : FillByte) → has_name xs o ≡ false → k.byte o q y → (ended_all k xs).byte o q y
all-byte [] k o q y name h = h
all-byte (x ∷ xs) k o q y name h = let a = apart-names x o xs name in all-byte xs (ended_claims k x) o q y a.1 (h, a.0)

-- ---- one object

module _ (m : ObjectMemory) (x : ℕ) (objects : List ObjectTree) (kept : KeepsObjects objects m) (none : place_of m x ≡ None) where
  no-eq : (a b : ℕ) → (a ≡ b → ⊥) → (a == b) ≡ false
  no-eq a b h = grind (arith, common_steps)

  has-gone : (set : BaseSet) (c : ℕ) → HasBlock m set c → HasBlock m (killed set (x ∷ [])) c
  has-gone set c h = record {
    live = λ q.
        let apart : x ≡ owner_of m c → ⊥ = λ e. let clash : None ≡ Some c = sym none ∙ ap (place_of m) e ∙ kept.lives c (alive-made m c q) q in cc in
        let name : has_name (x ∷ []) (owner_of m c) ≡ false = rw (no-eq x (owner_of m c) apart) refl in
        killed-other set (x ∷ []) (owner_of m c) name (h.live q);
    dead = λ q. killed-dead set (x ∷ []) (h.dead q);
  }

  points-gone : (set : BaseSet) (u : Value) → Points m set u → Points m (killed set (x ∷ [])) u
  points-gone set (values.Int t n) h = tt
  points-gone set (values.Ptr p) h = has-gone set p.block h
  points-gone set values.Null h = killed-null set (x ∷ []) h

  meets-gone : (d : Entry) (bs : List Byte) (y : ℤ) → Meets m d bs y → Meets m (record d { targets = killed d.targets (x ∷ []) }) bs y
  meets-gone d bs y (inl b) = inl (record { may = b.may; are = b.are })
  meets-gone d bs y (inr (inl i)) = inr (inl (record { may = i.may; number = i.number; small = i.small; are = i.are; is = i.is }))
  meets-gone d bs y (inr (inr p)) = inr (inr (record { pointer = p.pointer; eight = p.eight; are = p.are; may = has-gone d.targets p.pointer.block p.may; is = p.is }))

none-set : (xs : List (Option ℕ)) (i : ℕ) → get_or xs i None ≡ None → slice_set xs i None ≡ xs
none-set [] i h = refl
none-set (x ∷ xs) zero h = ap (λ o. o ∷ xs) (sym h)
none-set (x ∷ xs) (suc i) h = ap (λ os. x ∷ os) (none-set xs i h)

-- what does not live does not end
shut-none : (m : ObjectMemory) (x : ℕ) → place_of m x ≡ None → shut m x ≡ m
shut-none m x none =
    ap (λ p. record m { blocks = ended_at m.blocks p; places = slice_set m.places x None }) none ∙ ap (λ ps. record m { places = ps }) (none-set m.places x none)

module _ (objects : List ObjectTree) (types : List Scalar) (A : List ℤ → Type 0) where
  gone-stands : (k : Claims) (s : State) (x : ℕ) → place_of s.memory x ≡ None → Stands objects types A k s → Stands objects types A (ended_claims k x) s
  gone-stands k s x none st = record {
    kept = st.kept;
    long = st.long;
    typed = st.typed;
    v = st.v;
    admitted = st.admitted;
    number = st.number;
    points = λ d set u has got. subst (λ t. Points s.memory t u) (sym has.2) (points-gone s.memory x objects st.kept none has.0 u (st.points d has.0 u has.1 got));
    cell = λ o e b has at.
        subst (λ (q : Entry). Meets s.memory q (bytes_in s.memory b q) (value_at st.v (var_of o q))) (sym has.2)
        (meets-gone s.memory x objects st.kept none has.0 (bytes_in s.memory b has.0) (value_at st.v (var_of o has.0)) (st.cell o has.0 b has.1 at));
    byte = λ o q y b has at. st.byte o q y b has.0 at;
  }

  one-ended : (k : Claims) (s : State) (x : ℕ) → Stands objects types A k s → Stands objects types A (ended_claims k x) (record s { memory = shut s.memory x })
  one-ended k s x st = by (place_of s.memory x) refl
    where
      by : (p : Option ℕ) → place_of s.memory x ≡ p → Stands objects types A (ended_claims k x) (record s { memory = shut s.memory x })
      by None none = subst (λ (m : ObjectMemory). Stands objects types A (ended_claims k x) (record s { memory = m })) (sym (shut-none s.memory x none)) (gone-stands k s x none st)
      by (Some b) here =
          ended-stands objects types A k (ended_claims k x) s st x b here
          (keeps_objects ⊥ objects (shut s.memory x) (keeps_shut ⊥ objects s.memory x (objects_keep objects s.memory st.kept)))
          (record { pointer = λ d set h. h; cell = λ o e h. h; byte = λ o q y h. h })

  all-ended : (xs : List ℕ) (k : Claims) (s : State) → Stands objects types A k s → Stands objects types A (ended_all k xs) (leave xs s)
  all-ended [] k s st = st
  all-ended (x ∷ xs) k s st = all-ended xs (ended_claims k x) (record s { memory = shut s.memory x }) (one-ended k s x st)

-- ---- what the code knows then

mapped-set : (xs : List ℕ) (p : Option BaseSet) (set : BaseSet) → Some set ≡ option_map (λ t. killed_all t xs) p → (old : BaseSet) × (p ≡ Some old) × (killed_all old xs ≡ set)
mapped-set xs None set h = cc
mapped-set xs (Some old) set h = (old, refl, cc)

ended-less : (xs : List ℕ) (pointers : List (Option BaseSet)) (grid left : List Contents) → AreEnded xs grid left
    → SaysLess (ended_all (claims pointers grid) xs) (claims (ended_pointers xs pointers) left)
ended-less xs pointers grid left are =
    let k = claims pointers grid in
    let found : (o : ℕ) (c : Contents) → slice_get left o ≡ Some c → slice_get (cleared are.0 xs) o ≡ Some c = λ o c got. ap (λ ys. slice_get ys o) (sym are.2) ∙ got in
    record {
      pointer = λ d set has.
          let p = map-get (λ o. option_map (λ t. killed_all t xs) o) pointers d (Some set) has in
          let old = mapped-set xs p.0 set p.2 in
          (set, subst (λ t. (ended_all k xs).pointer d t) old.2 (all-pointer xs k d old.0 (p.1 ∙ ap Some old.1)), λ b h. h);
      cell = λ o e (c, got, has, low). elim (cleared-get are.0 xs o c (found o c got)) [
        | inl old ↦
            let a = are.1 o c old.0 in
            let d = a.2.cells e has in
            let small : d.0.offset < 65536 = subst (λ (x : Entry). x.offset < 65536) d.2 low in
            (e, subst (λ (x : Entry). (ended_all k xs).cell o x) (sym d.2) (all-cell xs k o d.0 old.1 (a.0, a.1, d.1, small)), wider-self e)
        | inr none ↦ has-none c.cells e (ap (λ (y : Contents). y.cells) none) has
      ];
      byte = λ o q y (c, got, is). elim (cleared-get are.0 xs o c (found o c got)) [
        | inl old ↦ let a = are.1 o c old.0 in all-byte xs k o q y old.1 (a.0, a.1, a.2.bytes q y is)
        | inr none ↦ has-none c.stretches is.stretch (ap (λ (y : Contents). y.stretches) none) is.has
      ];
    }

pub ended-behind : (objects : List ObjectTree) (types : List Scalar) (A : List ℤ → Type 0) (xs : List ℕ) (pointers : List (Option BaseSet)) (grid left : List Contents) (s : State)
    → AreEnded xs grid left → Stands objects types A (claims pointers grid) s → Stands objects types A (claims (ended_pointers xs pointers) left) (leave xs s)
ended-behind objects types A xs pointers grid left s are st =
    more-stands objects types A A (ended_all (claims pointers grid) xs) (claims (ended_pointers xs pointers) left) (leave xs s) (ended-less xs pointers grid left are) (λ v a. a)
    (all-ended objects types A xs (claims pointers grid) s st)
