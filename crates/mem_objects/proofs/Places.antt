-- Actions keep the places of objects, and one on one object leaves the others as they were.
use Rattle.std.proofs.Common.{◌≡◌, ◌≢◌, ℕ, suc, ◌<◌, refl, sym, ap, ◌∙◌, Bool, true, false, List, [], ◌∷◌, length, length-set, Option, Some, None}
use Rattle.std.specs.Prelude.{if◌then◌else◌}
use Rattle.std.proofs.lemmas.List.{get_or_append_left, get_or-set_other, length-replicate}
use Rattle.std.proofs.lemmas.List.Elements.{All-nil, All-cons}
use Rattle.c_syntax.specs.declared.alarm.WrongKind.{WrongKind}
use Rattle.c_syntax.specs.declared.program.Initial.{Initial}
use Rattle.c_syntax.specs.Types.{ObjectTree}
use Rattle.block_mem.specs.declared.types.Byte.{Byte}
use Rattle.block_mem.specs.declared.types.Scalar.{Scalar}
use Rattle.block_mem.specs.declared.types.Value.{Value}
use Rattle.block_mem.specs.declared.types.Value.TheVariants as values
use Rattle.block_mem.specs.Block.{BlockView, new_block}
use Rattle.block_mem.specs.Blocks.{no_block, block_at, with_bytes}
use Rattle.block_mem.proofs.Copies.{block-other}
use Rattle.c_values.specs.Places.{ObjectMemory, place_of, owner_of}
use Rattle.c_objects.specs.Opening.{no_objects, size_of, is_read_only, opened, ended_at, shut, undefined}
use Rattle.c_objects.specs.Writing.{with_blocks, unless_wrong, stored_at, copied_at}
use Rattle.c_objects.specs.Statics.{open_statics, opened_statics, initial_at, with_initial, with_initials, start}
use Rattle.mem_api.specs.Owned.{IsOwned}
use Rattle.mem_api.proofs.Owning.{owned_stored, owned_copied, owned_undefined, owned_open_all, owned_shut_all, owned_start}
use Rattle.mem_temps.proofs.Ranged.{map_some}
use Rattle.mem_objects.specs.Known.{KeepsPlaces}

-- ---- the others

-- the object has the place and the bytes that it had
pub record StaysAt (m n : ObjectMemory) (y : ℕ) : Type 0 where
  pub place : place_of n y ≡ place_of m y
  pub bytes : (b : ℕ) → place_of m y ≡ Some b → (block_at n.blocks b).bytes ≡ (block_at m.blocks b).bytes

abbrev pub ChangesOnly : ObjectMemory → ObjectMemory → ℕ → Type 0
ChangesOnly m n x = (y : ℕ) → y ≢ x → StaysAt m n y

pub changes_nothing : (m : ObjectMemory) (x : ℕ) → ChangesOnly m m x
changes_nothing m x = λ y ne. record { place = refl; bytes = λ b p. refl }

module _ (count : ℕ) (m : ObjectMemory) (k : IsOwned count m) where
  -- two objects have two blocks
  blocks_apart : (x y b c : ℕ) → place_of m x ≡ Some b → place_of m y ≡ Some c → y ≢ x → c ≢ b
  blocks_apart x y b c p q ne = λ same. ne (sym (k.placed y c q).owner ∙ ap (owner_of m) same ∙ (k.placed x b p).owner)

  pub changes_bytes : (x b : ℕ) (bs : List Byte) → place_of m x ≡ Some b → ChangesOnly m (with_blocks m (with_bytes m.blocks b bs)) x
  changes_bytes x b bs p = λ y ne. record {
    place = refl;
    bytes = λ c q. ap (λ (v : BlockView). v.bytes) (block-other m.blocks b c bs (blocks_apart x y b c p q ne));
  }

  pub changes_opened : (objects : List ObjectTree) (x : ℕ) → ChangesOnly m (opened objects m x) x
  changes_opened objects x = λ y ne. record {
    place = get_or-set_other m.places x y (Some (length m.blocks)) None ne;
    bytes = λ c q. ap (λ (v : BlockView). v.bytes)
        (get_or_append_left m.blocks (new_block (size_of objects x) (is_read_only objects x) ∷ []) no_block c (k.placed y c q).made);
  }

  pub changes_shut : (x : ℕ) → ChangesOnly m (shut m x) x
  changes_shut x = λ y ne. record { place = get_or-set_other m.places x y None None ne; bytes = λ c q. at y ne c q (place_of m x) refl }
    where
      at : (y : ℕ) → y ≢ x → (c : ℕ) → place_of m y ≡ Some c → (o : Option ℕ) → place_of m x ≡ o
          → (block_at (ended_at m.blocks o) c).bytes ≡ (block_at m.blocks c).bytes
      at y ne c q None e = refl
      at y ne c q (Some b) e = ap (λ (v : BlockView). v.bytes)
          (get_or-set_other m.blocks b c (record (block_at m.blocks b) { live = false }) no_block (blocks_apart x y b c e q ne))

-- ---- what each action keeps

pub given : (wrong : Option WrongKind) (m n : ObjectMemory) → unless_wrong wrong (Some m) ≡ Some n → (wrong ≡ None) × (m ≡ n)
given None m n h = let same : m ≡ n = cc in (refl, same)
given (Some k) m n h = absurd (cc)

given_both : (wrong : Option WrongKind) (o : Option ObjectMemory) (n : ObjectMemory) → unless_wrong wrong o ≡ Some n → o ≡ Some n
given_both None o n h = h
given_both (Some k) o n h = absurd (cc)

module _ (objects : List ObjectTree) (m n : ObjectMemory) (k : KeepsPlaces objects m) where
  counted_still : IsOwned (length objects) n → length n.places ≡ length m.places → KeepsPlaces objects n
  counted_still o same = record { owned = o; counted = same ∙ k.counted }

  pub places_stored : (ty : Scalar) (to v : Value) → stored_at m ty to v ≡ Some n → KeepsPlaces objects n
  places_stored ty to v h = counted_still (owned_stored (length objects) m ty to v n k.owned h) (by to h) where
    by : (to : Value) → stored_at m ty to v ≡ Some n → length n.places ≡ length m.places
    by (values.Ptr at) h = ap (λ (x : ObjectMemory). length x.places) (sym (given _ _ n h).1)
    by (values.Int t i) h = absurd (cc)
    by values.Null h = absurd (cc)

  pub places_copied : (to from : Value) (size : ℕ) → copied_at m to from size ≡ Some n → KeepsPlaces objects n
  places_copied to from size h = counted_still (owned_copied (length objects) m to from size n k.owned h) (by to from h) where
    by : (to from : Value) → copied_at m to from size ≡ Some n → length n.places ≡ length m.places
    by (values.Ptr to) (values.Ptr from) h = ap (λ (x : ObjectMemory). length x.places) (sym (given _ _ n (given_both _ _ n h)).1)
    by (values.Ptr to) (values.Int t i) h = absurd (cc)
    by (values.Ptr to) values.Null h = absurd (cc)
    by (values.Int t i) from h = absurd (cc)
    by values.Null from h = absurd (cc)

  pub places_undefined : (x : ℕ) → undefined m x ≡ Some n → KeepsPlaces objects n
  places_undefined x h = counted_still (owned_undefined (length objects) m x n k.owned h)
      (let b = map_some _ (place_of m x) n h in ap (λ (y : ObjectMemory). length y.places) (sym b.2))

module _ (objects : List ObjectTree) (m : ObjectMemory) (k : KeepsPlaces objects m) where
  pub places_opened : (x : ℕ) → x < length objects → KeepsPlaces objects (opened objects m x)
  places_opened x h = record {
    owned = owned_open_all (length objects) objects m (x ∷ []) k.owned (All-cons (λ y. y < length objects) x [] h (All-nil (λ y. y < length objects)));
    counted = length-set m.places x (Some (length m.blocks)) ∙ k.counted;
  }

  pub places_shut : (x : ℕ) → KeepsPlaces objects (shut m x)
  places_shut x = record { owned = owned_shut_all (length objects) m (x ∷ []) k.owned; counted = length-set m.places x None ∙ k.counted }

-- ---- the start

static_places : (objects os : List ObjectTree) (x : ℕ) (m : ObjectMemory) → length (open_statics objects os x m).places ≡ length m.places
static_places objects [] x m = refl
static_places objects (o ∷ os) x m = static_places objects os (suc x) (if o.is_static then opened objects m x else m) ∙ by o.is_static where
  by : (is_static : Bool) → length (if is_static then opened objects m x else m).places ≡ length m.places
  by true = length-set _ _ _
  by false = refl

initial_places : (m : ObjectMemory) (is : List Initial) → length (with_initials m is).places ≡ length m.places
initial_places m [] = refl
initial_places m (i ∷ is) = initial_places (with_initial m i) is ∙ by (place_of m i.object) where
  by : (o : Option ℕ) → length (initial_at m o i.bytes).places ≡ length m.places
  by None = refl
  by (Some b) = refl

pub places_start : (objects : List ObjectTree) (is : List Initial) → KeepsPlaces objects (start objects is)
places_start objects is = record {
  owned = owned_start objects is;
  counted = initial_places (opened_statics objects) is ∙ static_places objects objects 0 (no_objects (length objects)) ∙ length-replicate {A = Option ℕ} (length objects) None;
}
