-- Each statement leaves memory with blocks of the program's objects alone, and what lives in blocks that do.
use Rattle.std.proofs.Common.{◌≡◌, ℕ, suc, ◌+◌, ◌<◌, ◌≤◌, Bool, true, false, refl, sym, subst, ap, ◌∙◌, arith, ⊎_elim, List, [], ◌∷◌, ◌++◌, length, length-append}
use Rattle.std.proofs.Common.{length-set, Option, Some, None}
use Rattle.std.specs.Prelude.{All, option_map, if◌then◌else◌, slice_index_or, slice_set}
use Rattle.std.proofs.lemmas.Bool.{cases_eq, cases_lt}
use Rattle.std.proofs.lemmas.List.{get_or_append_left, get_or-set_same, get_or-set_other, get_or_past}
use Rattle.std.proofs.lemmas.List.Elements.{All-nil, All-append, All-cons, All-head, All-tail}
use Rattle.std.proofs.Math.Seq.{get_or-append_seam}
use Rattle.c_syntax.specs.declared.alarm.WrongKind.{WrongKind}
use Rattle.c_syntax.specs.declared.program.InitByte.{InitByte}
use Rattle.c_syntax.specs.declared.program.Initial.{Initial}
use Rattle.c_syntax.specs.Types.{ObjectTree}
use Rattle.block_mem.specs.declared.types.Byte.{Byte}
use Rattle.block_mem.specs.declared.types.Scalar.{Scalar}
use Rattle.block_mem.specs.declared.types.Value.{Value}
use Rattle.block_mem.specs.declared.types.Value.TheVariants as values
use Rattle.block_mem.specs.Block.{BlockView, new_block}
use Rattle.block_mem.specs.Blocks.{no_block, block_at, with_bytes, store, copy, with_undefined}
use Rattle.c_values.specs.Places.{ObjectMemory, place_of, owner_of}
use Rattle.c_objects.specs.Kept.{IsPlaced}
use Rattle.c_objects.specs.Opening.{no_objects, size_of, is_read_only, opened, open_all, ended_at, shut, shut_all, undefined}
use Rattle.c_objects.specs.Writing.{with_blocks, unless_wrong, stored_at, copied_at}
use Rattle.c_objects.specs.Statics.{open_statics, put_from, initial_at, with_initial, with_initials, opened_statics, start}
use Rattle.c_objects.proofs.Keeping.{none_lives}
use Rattle.mem_api.specs.Owned.{IsOwned}

-- ---- other bytes in blocks

-- the blocks are as many, and live as before
record LiveAsBefore (old new : List BlockView) : Type 0 where
  count : length new ≡ length old
  live : (b : ℕ) → (block_at new b).live ≡ (block_at old b).live

live_with : (m : List BlockView) (n : ℕ) (bs : List Byte) → LiveAsBefore m (with_bytes m n bs)
live_with m n bs = record {
  count = length-set _ _ _;
  live = λ b. ⊎_elim (λ same. here b same) (λ other. ap (λ (v : BlockView). v.live) (get_or-set_other m n b (record (block_at m n) { bytes = bs }) no_block other))
      (cases_eq b n);
}
  where
    at : (block_at (with_bytes m n bs) n).live ≡ (block_at m n).live
    at = ⊎_elim (λ below. ap (λ (v : BlockView). v.live) (get_or-set_same m n (record (block_at m n) { bytes = bs }) no_block below))
        (λ past. ap (λ (v : BlockView). v.live) (get_or_past (with_bytes m n bs) n no_block (subst (λ (k : ℕ). k ≤ n) (sym (length-set _ _ _)) past)
        ∙ sym (get_or_past m n no_block past))) (cases_lt n (length m))

    here : (b : ℕ) → b ≡ n → (block_at (with_bytes m n bs) b).live ≡ (block_at m b).live
    here b same = subst (λ (k : ℕ). (block_at (with_bytes m n bs) k).live ≡ (block_at m k).live) (sym same) at

then_live : (m n o : List BlockView) → LiveAsBefore m n → LiveAsBefore n o → LiveAsBefore m o
then_live m n o h k = record { count = k.count ∙ h.count; live = λ b. k.live b ∙ h.live b }

owned_blocks : (count : ℕ) (m : ObjectMemory) (bs : List BlockView) → IsOwned count m → LiveAsBefore m.blocks bs → IsOwned count (with_blocks m bs)
owned_blocks count m bs k l = record {
  owned = k.owned ∙ sym l.count;
  among = k.among;
  placed = λ x b h. let p = k.placed x b h in record { made = subst (λ (n : ℕ). b < n) (sym l.count) p.made; live = l.live b ∙ p.live; owner = p.owner };
}

-- what is given where an access is allowed
if_allowed : (count : ℕ) (wrong : Option WrongKind) (m n : ObjectMemory) → IsOwned count m → unless_wrong wrong (Some m) ≡ Some n → IsOwned count n
if_allowed count None m n k h = let same : m ≡ n = cc in subst (IsOwned count) same k
if_allowed count (Some kind) m n k h = absurd (cc)

if_both : (count : ℕ) (wrong : Option WrongKind) (given : Option ObjectMemory) (n : ObjectMemory) → (given ≡ Some n → IsOwned count n)
    → unless_wrong wrong given ≡ Some n → IsOwned count n
if_both count None given n k h = k h
if_both count (Some kind) given n k h = absurd (cc)

pub owned_stored : (count : ℕ) (m : ObjectMemory) (ty : Scalar) (to v : Value) (n : ObjectMemory) → IsOwned count m → stored_at m ty to v ≡ Some n
    → IsOwned count n
owned_stored count m ty (values.Ptr at) v n k h = if_allowed count _ _ n (owned_blocks count m (store m.blocks at v) k (live_with m.blocks _ _)) h
owned_stored count m ty (values.Int t i) v n k h = absurd (cc)
owned_stored count m ty values.Null v n k h = absurd (cc)

pub owned_copied : (count : ℕ) (m : ObjectMemory) (to from : Value) (size : ℕ) (n : ObjectMemory) → IsOwned count m → copied_at m to from size ≡ Some n
    → IsOwned count n
owned_copied count m (values.Ptr to) (values.Ptr from) size n k h =
    if_both count _ _ n (if_allowed count _ _ n (owned_blocks count m (copy m.blocks to from size) k (live_with m.blocks _ _))) h
owned_copied count m (values.Ptr to) (values.Int t i) size n k h = absurd (cc)
owned_copied count m (values.Ptr to) values.Null size n k h = absurd (cc)
owned_copied count m (values.Int t i) from size n k h = absurd (cc)
owned_copied count m values.Null from size n k h = absurd (cc)

undefined_at : (count : ℕ) (m : ObjectMemory) (o : Option ℕ) (n : ObjectMemory) → IsOwned count m
    → option_map (λ b. record m { blocks = with_undefined m.blocks b }) o ≡ Some n → IsOwned count n
undefined_at count m None n k h = absurd (cc)
undefined_at count m (Some b) n k h =
    let same : with_blocks m (with_undefined m.blocks b) ≡ n = cc in subst (IsOwned count) same (owned_blocks count m (with_undefined m.blocks b) k (live_with m.blocks _ _))

pub owned_undefined : (count : ℕ) (m : ObjectMemory) (x : ℕ) (n : ObjectMemory) → IsOwned count m → undefined m x ≡ Some n → IsOwned count n
owned_undefined count m x n k h = undefined_at count m (place_of m x) n k h

-- ---- objects that begin and end

module _ (count : ℕ) (objects : List ObjectTree) (m : ObjectMemory) (x : ℕ) (k : IsOwned count m) where
  -- one block more
  more : length (opened objects m x).blocks ≡ length m.blocks + 1
  more = length-append m.blocks (new_block (size_of objects x) (is_read_only objects x) ∷ [])

  last : block_at (opened objects m x).blocks (length m.blocks) ≡ new_block (size_of objects x) (is_read_only objects x)
  last = get_or-append_seam m.blocks (new_block (size_of objects x) (is_read_only objects x)) [] no_block

  last_owner : owner_of (opened objects m x) (length m.blocks) ≡ x
  last_owner = ap (λ n. slice_index_or (m.owners ++ x ∷ []) n 0) (sym k.owned) ∙ get_or-append_seam m.owners x [] 0

  placed_last : (b : ℕ) → place_of (opened objects m x) x ≡ Some b → IsPlaced (opened objects m x) x b
  placed_last b h = ⊎_elim
      (λ below.
      let here : Some (length m.blocks) ≡ Some b = sym (get_or-set_same m.places x (Some (length m.blocks)) None below) ∙ h in
      let same : length m.blocks ≡ b = cc in
      subst (λ (n : ℕ). IsPlaced (opened objects m x) x n) same
      (record { made = omega (arith, more); live = ap (λ (v : BlockView). v.live) last; owner = last_owner }))
      (λ past.
      let none = get_or_past (slice_set m.places x (Some (length m.blocks))) x None (subst (λ (n : ℕ). n ≤ x) (sym (length-set _ _ _)) past) in absurd (cc))
      (cases_lt x (length m.places))

  placed_old : (y b : ℕ) → place_of m y ≡ Some b → IsPlaced (opened objects m x) y b
  placed_old y b h = let p = k.placed y b h in record {
    made = omega (arith, more, p.made);
    live = ap (λ (v : BlockView). v.live) (get_or_append_left m.blocks (new_block (size_of objects x) (is_read_only objects x) ∷ []) no_block b p.made) ∙ p.live;
    owner = get_or_append_left m.owners (x ∷ []) 0 b (subst (λ (n : ℕ). b < n) (sym k.owned) p.made) ∙ p.owner;
  }

  owned_opened : x < count → IsOwned count (opened objects m x)
  owned_opened h = record {
    owned = length-append m.owners (x ∷ []) ∙ ap (λ n. n + 1) k.owned ∙ sym more;
    among = All-append (λ y. y < count) m.owners (x ∷ []) k.among (All-cons (λ y. y < count) x [] h (All-nil (λ y. y < count)));
    placed = λ y b g. ⊎_elim
        (λ same. subst (λ (z : ℕ). IsPlaced (opened objects m x) z b) (sym same)
        (placed_last b (subst (λ (z : ℕ). place_of (opened objects m x) z ≡ Some b) same g)))
        (λ other. placed_old y b (sym (get_or-set_other m.places x y (Some (length m.blocks)) None other) ∙ g)) (cases_eq y x);
  }

pub owned_open_all : (count : ℕ) (objects : List ObjectTree) (m : ObjectMemory) (xs : List ℕ) → IsOwned count m → All (λ x. x < count) xs
    → IsOwned count (open_all objects m xs)
owned_open_all count objects m [] k h = k
owned_open_all count objects m (x ∷ xs) k h =
    owned_open_all count objects (opened objects m x) xs (owned_opened count objects m x k (All-head (λ y. y < count) x xs h)) (All-tail (λ y. y < count) x xs h)

ended_length : (blocks : List BlockView) (o : Option ℕ) → length (ended_at blocks o) ≡ length blocks
ended_length blocks None = refl
ended_length blocks (Some b) = length-set _ _ _

module _ (count : ℕ) (m : ObjectMemory) (x : ℕ) (k : IsOwned count m) where
  -- it has no place then
  gone : place_of (shut m x) x ≡ None
  gone = ⊎_elim (λ below. get_or-set_same m.places x None None below)
      (λ past. get_or_past (slice_set m.places x None) x None (subst (λ (n : ℕ). n ≤ x) (sym (length-set _ _ _)) past)) (cases_lt x (length m.places))

  -- another object has another block
  apart : (y b c : ℕ) → (y ≡ x → ⊥) → IsPlaced m y b → place_of m x ≡ Some c → b ≡ c → ⊥
  apart y b c other p h same = let q = k.placed x c h in other (sym p.owner ∙ ap (λ n. owner_of m n) same ∙ q.owner)

  lives_still : (y b : ℕ) → (y ≡ x → ⊥) → IsPlaced m y b → (o : Option ℕ) → place_of m x ≡ o → (block_at (ended_at m.blocks o) b).live ≡ true
  lives_still y b other p None e = p.live
  lives_still y b other p (Some c) e =
      ap (λ (v : BlockView). v.live) (get_or-set_other m.blocks c b (record (block_at m.blocks c) { live = false }) no_block (apart y b c other p e)) ∙ p.live

  placed_still : (y b : ℕ) → (y ≡ x → ⊥) → place_of m y ≡ Some b → IsPlaced (shut m x) y b
  placed_still y b other h = let p = k.placed y b h in record {
    made = subst (λ (n : ℕ). b < n) (sym (ended_length m.blocks (place_of m x))) p.made;
    live = lives_still y b other p (place_of m x) refl;
    owner = p.owner;
  }

  owned_shut : IsOwned count (shut m x)
  owned_shut = record {
    owned = k.owned ∙ sym (ended_length m.blocks (place_of m x));
    among = k.among;
    placed = λ y b h. ⊎_elim
        (λ same. let none = gone in let here : place_of (shut m x) x ≡ Some b = subst (λ (z : ℕ). place_of (shut m x) z ≡ Some b) same h in absurd (cc))
        (λ other. placed_still y b other (sym (get_or-set_other m.places x y None None other) ∙ h)) (cases_eq y x);
  }

pub owned_shut_all : (count : ℕ) (m : ObjectMemory) (xs : List ℕ) → IsOwned count m → IsOwned count (shut_all m xs)
owned_shut_all count m [] k = k
owned_shut_all count m (x ∷ xs) k = owned_shut_all count (shut m x) xs (owned_shut count m x k)

-- ---- the start

owned_if : (count : ℕ) (is_static : Bool) (objects : List ObjectTree) (m : ObjectMemory) (x : ℕ) → IsOwned count m → x < count
    → IsOwned count (if is_static then opened objects m x else m)
owned_if count true objects m x k h = owned_opened count objects m x k h
owned_if count false objects m x k h = k

owned_statics : (count : ℕ) (objects os : List ObjectTree) (x : ℕ) (m : ObjectMemory) → x + length os ≤ count → IsOwned count m
    → IsOwned count (open_statics objects os x m)
owned_statics count objects [] x m h k = k
owned_statics count objects (o ∷ os) x m h k =
    owned_statics count objects os (suc x) (if o.is_static then opened objects m x else m) (omega arith) (owned_if count o.is_static objects m x k (omega arith))

put_live : (m : ObjectMemory) (b k : ℕ) (ys : List InitByte) (blocks : List BlockView) → LiveAsBefore blocks (put_from m b k ys blocks)
put_live m b k [] blocks = record { count = refl; live = λ c. refl }
put_live m b k (y ∷ ys) blocks = then_live blocks _ _ (live_with blocks b _) (put_live m b (suc k) ys _)

owned_initial : (count : ℕ) (m : ObjectMemory) (o : Option ℕ) (bs : List InitByte) → IsOwned count m → IsOwned count (initial_at m o bs)
owned_initial count m None bs k = k
owned_initial count m (Some b) bs k = owned_blocks count m (put_from m b 0 bs m.blocks) k (put_live m b 0 bs m.blocks)

owned_initials : (count : ℕ) (m : ObjectMemory) (initials : List Initial) → IsOwned count m → IsOwned count (with_initials m initials)
owned_initials count m [] k = k
owned_initials count m (i ∷ is) k = owned_initials count (with_initial m i) is (owned_initial count m (place_of m i.object) i.bytes k)

owned_none : (count : ℕ) → IsOwned count (no_objects count)
owned_none count = record {
  owned = refl;
  among = All-nil (λ y. y < count);
  placed = λ y b h. let none = none_lives count y in absurd (cc);
}

pub owned_start : (objects : List ObjectTree) (initials : List Initial) → IsOwned (length objects) (start objects initials)
owned_start objects initials = owned_initials (length objects) (opened_statics objects) initials
    (owned_statics (length objects) objects objects 0 (no_objects (length objects)) (omega arith) (owned_none (length objects)))
