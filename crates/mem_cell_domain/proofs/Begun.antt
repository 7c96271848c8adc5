-- Objects that begin to live, one after another.
use Rattle.std.proofs.Common.{ℕ, ℤ, zero, suc, ◌≡◌, ◌+◌, ◌<◌, ◌++◌, Bool, true, false, List, [], ◌∷◌, length, slice_get, slice_set, take, Option, Some, None, refl, sym, ap, subst, ◌∙◌, arith, inl, inr, get_or}
use Rattle.std.specs.Prelude.{◌==◌, ◌&&◌, not, is_some, if◌then◌else◌, All}
use Rattle.std.proofs.lemmas.Bool.{cases_eq, eq-eqb}
use Rattle.std.proofs.lemmas.List.Elements.{All-head, All-tail}
use Rattle.c_syntax.specs.Types.{ObjectTree}
use Rattle.pointsets.specs.Targets.{BaseSet}
use Rattle.block_mem.specs.declared.types.Scalar.{Scalar}
use Rattle.c_values.specs.Places.{place_of}
use Rattle.c_objects.specs.Opening.{opened, size_of}
use Rattle.c_objects.proofs.Keeping.{keeps_objects, keeps_opened, objects_keep}
use Rattle.c_objects.proofs.Places.{open_other}
use Rattle.csharp.specs.States.{State}
use Rattle.csharp.specs.Actions.{are_free, enter, is_among}
use Rattle.mem_cell_bytes.specs.declared.entry.FillByte.{FillByte}
use Rattle.mem_cell_bytes.specs.declared.entry.FillByte.TheVariants as fills
use Rattle.mem_cell_bytes.specs.declared.entry.Stretch.{Stretch}
use Rattle.mem_cell_bytes.specs.Contents.{Contents}
use Rattle.mem_cell_bytes.specs.Ends.{AreBlank}
use Rattle.mem_cell_bytes.specs.Stands.{Has, IsInStretch, Stands, claims}
use Rattle.mem_cell_bytes.proofs.Begins.{opened-stands}
use Rattle.mem_cell_bytes.proofs.Steps.{get-set_other, has-none, set-is}
use Rattle.mem_cell_grid.proofs.Lists.{get-or, take-push}
use Rattle.mem_cell_domain.specs.Lives.{all_blank, begun}

-- ---- objects that are free

-- the first of them does not live and does not come again
first-free : (o : Option ℕ) (z w : Bool) → not (is_some o) && not z && w ≡ true → (o ≡ None) × (z ≡ false) × (w ≡ true)
first-free None false w e = (refl, refl, e)
first-free None true w e = absurd (cc)
first-free (Some b) z w e = absurd (cc)

another : (x y : ℕ) (z : Bool) → (if x == y then true else z) ≡ false → (y ≡ x → ⊥) × (z ≡ false)
another x y z e = apart (x == y) refl e
  where
    apart : (w : Bool) → (x == y) ≡ w → (if w then true else z) ≡ false → (y ≡ x → ⊥) × (z ≡ false)
    apart true same f = absurd (cc)
    apart false other f = ((λ is. let one : (x == y) ≡ true = eq-eqb x y (sym is) in absurd (cc)), f)

still-free : (place other : Option ℕ) (among rest : Bool) → other ≡ place → (not (is_some place) && not among && rest) ≡ true → (new : Bool) → new ≡ true
    → (not (is_some other) && not among && new) ≡ true
still-free None other false rest same e new goes = rw (same, goes) refl
still-free None other true rest same e new goes = absurd (cc)
still-free (Some b) other among rest same e new goes = absurd (cc)

free-after : (objects : List ObjectTree) (s : State) (x : ℕ) (xs : List ℕ) → is_among x xs ≡ false → are_free xs s ≡ true
    → are_free xs (record s { memory = opened objects s.memory x }) ≡ true
free-after objects s x [] apart free = refl
free-after objects s x (y ∷ ys) apart free =
    let here = another x y (is_among x ys) apart in
    let first = first-free (place_of s.memory y) (is_among y ys) (are_free ys s) free in
    still-free (place_of s.memory y) (place_of (opened objects s.memory x) y) (is_among y ys) (are_free ys s) (open_other objects s.memory x y here.0) free
    (are_free ys (record s { memory = opened objects s.memory x })) (free-after objects s x ys here.1 first.2)

-- ---- what is known of an object that begins

one-is : (f g : Stretch) → Has (f ∷ []) g → g ≡ f
one-is f g (zero, h) = cc
one-is f g (suc n, h) = cc

in-one : (f : Stretch) (q : ℕ) (x : FillByte) → IsInStretch (f ∷ []) q x → (q < f.to) × (f.byte ≡ x)
in-one f q x i = subst (λ (g : Stretch). (q < g.to) × (g.byte ≡ x)) (one-is f i.stretch i.has) (i.to, i.is)

blank-put : (pointers : List (Option BaseSet)) (grid : List Contents) (x size : ℕ) → AreBlank (claims pointers grid) (claims pointers (slice_set grid x (all_blank size))) x size
blank-put pointers grid x size =
    let held = all_blank size in
    let new = slice_set grid x held in
    let here : (q : ℕ) (c : Contents) → q ≡ x → slice_get new q ≡ Some c → c ≡ held = λ q c same got. set-is grid x held c (sym (ap (slice_get new) same) ∙ got) in
    let there : (q : ℕ) (c : Contents) → (q ≡ x → ⊥) → slice_get new q ≡ Some c → slice_get grid q ≡ Some c = λ q c other got. sym (get-set_other grid q x held other) ∙ got in
    record {
      pointer = λ d set h. h;
      cell = λ o e (c, got, has, low). elim (cases_eq o x) [
        | inl same ↦ has-none c.cells e (ap (λ (y : Contents). y.cells) (here o c same got)) has
        | inr other ↦ ((c, there o c other got, has, low), other)
      ];
      byte = λ o q y (c, got, is). elim (cases_eq o x) [
        | inl same ↦
            let i = in-one (record { from = 0; to = size; byte = fills.Undef }) q y (subst (λ (z : Contents). IsInStretch z.stretches q y) (here o c same got) is) in
            inr (same, i.0, sym i.1)
        | inr other ↦ inl ((c, there o c other got, is), other)
      ];
    }

module _ (objects : List ObjectTree) (types : List Scalar) (A : List ℤ → Type 0) (pointers : List (Option BaseSet)) where
  pub begun-stands : (grid : List Contents) (xs : List ℕ) (s : State) → All (λ x. x < length objects) xs → are_free xs s ≡ true
      → Stands objects types A (claims pointers grid) s → Stands objects types A (claims pointers (begun objects grid xs)) (enter objects xs s)
  begun-stands grid [] s there free st = st
  begun-stands grid (x ∷ xs) s there free st =
      let first = first-free (place_of s.memory x) (is_among x xs) (are_free xs s) free in
      let inside = All-head (λ y. y < length objects) x xs there in
      let size = size_of objects x in
      let kept = keeps_objects ⊥ objects (opened objects s.memory x) (keeps_opened ⊥ objects s.memory x (objects_keep objects s.memory st.kept) inside first.0) in
      begun-stands (slice_set grid x (all_blank size)) xs (record s { memory = opened objects s.memory x })
      (All-tail (λ y. y < length objects) x xs there) (free-after objects s x xs first.1 first.2)
      (opened-stands objects types A (claims pointers grid) (claims pointers (slice_set grid x (all_blank size))) s st x size inside (omega arith) kept
      (blank-put pointers grid x size))

pub begun-push : (objects : List ObjectTree) (grid : List Contents) (xs : List ℕ) (y : ℕ)
    → begun objects grid (xs ++ y ∷ []) ≡ slice_set (begun objects grid xs) y (all_blank (size_of objects y))
begun-push objects grid [] y = refl
begun-push objects grid (x ∷ xs) y = begun-push objects (slice_set grid x (all_blank (size_of objects x))) xs y

-- one object more, as the code makes it
pub begun-more : (objects : List ObjectTree) (grid mid new : List Contents) (xs : List ℕ) (i size : ℕ) (held : Contents) → i < length xs → mid ≡ begun objects grid (take i xs)
    → size ≡ size_of objects (get_or xs i 0) → held ≡ all_blank size → new ≡ slice_set mid (get_or xs i 0) held → new ≡ begun objects grid (take (i + 1) xs)
begun-more objects grid mid new xs i size held low mid_is size_is held_is put =
    let x = get_or xs i 0 in
    put ∙ ap (λ h. slice_set mid x h) (held_is ∙ ap all_blank size_is) ∙ ap (λ m. slice_set m x (all_blank (size_of objects x))) mid_is
    ∙ sym (begun-push objects grid (take i xs) x) ∙ ap (begun objects grid) (sym (take-push xs i x (get-or xs i 0 low)))
