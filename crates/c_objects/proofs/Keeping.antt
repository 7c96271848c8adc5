-- What every memory of objects keeps.
use Rattle.std.proofs.Common.{◌≡◌, ℕ, zero, suc, ◌+◌, ◌<◌, ◌≤◌, true, false, refl, sym, subst, ap, ◌∙◌, arith, List, [], ◌∷◌, ◌++◌, length, length-append}
use Rattle.std.proofs.Common.{length-set, Option, Some, None, inl, inr, ◌⊎◌}
use Rattle.std.specs.Prelude.{option_map, unwrap_or, slice_get, slice_index_or}
use Rattle.std.proofs.lemmas.Bool.{cases_eq, cases_lt}
use Rattle.std.proofs.lemmas.List.{get_or_append_left, get_or-set_same, get_or-set_other, length-replicate}
use Rattle.std.proofs.Math.Seq.{get_or-append_seam}
use Rattle.c_syntax.specs.Types.{ObjectTree}
use Rattle.block_mem.specs.declared.types.Byte.{Byte}
use Rattle.block_mem.specs.declared.types.Byte.TheVariants.{Undef}
use Rattle.block_mem.specs.Block.{BlockView, new_block}
use Rattle.block_mem.specs.Blocks.{no_block, block_at, with_bytes}
use Rattle.block_mem.specs.Proper.{AreProper}
use Rattle.block_mem.specs.Whole.{AreWhole}
use Rattle.block_mem.proofs.Copies.{block-same, block-other}
use Rattle.block_mem.proofs.Proper.{proper-start, proper-made}
use Rattle.block_mem.proofs.Whole.{whole_more, whole-empty, whole-undefined}
use Rattle.c_values.specs.Memory.{Fits}
use Rattle.c_values.specs.Places.{ObjectMemory, place_of, owner_of}
use Rattle.c_objects.specs.Kept.{IsKept, IsPlaced, KeepsObjects}
use Rattle.c_objects.specs.Opening.{no_objects, opened, size_of, is_read_only}
use Rattle.c_objects.specs.Writing.{with_blocks}

-- ---- with and without pointers that are whole

-- what memory keeps, where pointers are whole under a premise: `IsKept` where there is none, `KeepsObjects` where it never holds
pub record Keeps (W : Type 0) (objects : List ObjectTree) (m : ObjectMemory) : Type 0 where
  pub owned : length m.owners ≡ length m.blocks
  pub counted : length m.places ≡ length objects
  pub fits : (b : ℕ) → b < length m.blocks → Fits objects m b
  pub placed : (x b : ℕ) → place_of m x ≡ Some b → IsPlaced m x b
  pub lives : (b : ℕ) → b < length m.blocks → (block_at m.blocks b).live ≡ true → place_of m (owner_of m b) ≡ Some b
  pub proper : AreProper m.blocks
  pub whole : W → AreWhole m.blocks

pub keeps_where : (W : Type 0) (objects : List ObjectTree) (m : ObjectMemory) → KeepsObjects objects m → (W → AreWhole m.blocks) → Keeps W objects m
keeps_where W objects m k whole =
    record { owned = k.owned; counted = k.counted; fits = k.fits; placed = k.placed; lives = k.lives; proper = k.proper; whole = whole }

pub keeps_kept : (objects : List ObjectTree) (m : ObjectMemory) → IsKept objects m → Keeps (Unit {0}) objects m
keeps_kept objects m k =
    record { owned = k.owned; counted = k.counted; fits = k.fits; placed = k.placed; lives = k.lives; proper = k.proper; whole = λ w. k.whole }

pub kept_keeps : (objects : List ObjectTree) (m : ObjectMemory) → Keeps (Unit {0}) objects m → IsKept objects m
kept_keeps objects m k =
    record { owned = k.owned; counted = k.counted; fits = k.fits; placed = k.placed; lives = k.lives; proper = k.proper; whole = k.whole tt }

pub keeps_objects : (W : Type 0) (objects : List ObjectTree) (m : ObjectMemory) → Keeps W objects m → KeepsObjects objects m
keeps_objects W objects m k = record { owned = k.owned; counted = k.counted; fits = k.fits; placed = k.placed; lives = k.lives; proper = k.proper }

pub objects_keep : (objects : List ObjectTree) (m : ObjectMemory) → KeepsObjects objects m → Keeps ⊥ objects m
objects_keep objects m k = keeps_where ⊥ objects m k (λ no. absurd no)

-- ---- an object that begins

some_object : (objects : List ObjectTree) (x : ℕ) → x < length objects → (o : ObjectTree) × (slice_get objects x ≡ Some o)
some_object [] x h = absurd (omega arith)
some_object (o ∷ os) zero h = (o, refl)
some_object (o ∷ os) (suc x) h = some_object os x (omega arith)

module _ (W : Type 0) (objects : List ObjectTree) (m : ObjectMemory) (x : ℕ) (k : Keeps W objects m) (there : x < length objects) (free : place_of m x ≡ None) where
  new : BlockView
  new = new_block (size_of objects x) (is_read_only objects x)

  block_old : (b : ℕ) → b < length m.blocks → block_at (opened objects m x).blocks b ≡ block_at m.blocks b
  block_old b h = get_or_append_left m.blocks (new_block (size_of objects x) (is_read_only objects x) ∷ []) no_block b h

  block_new : block_at (opened objects m x).blocks (length m.blocks) ≡ new_block (size_of objects x) (is_read_only objects x)
  block_new = get_or-append_seam m.blocks (new_block (size_of objects x) (is_read_only objects x)) [] no_block

  owner_old : (b : ℕ) → b < length m.blocks → owner_of (opened objects m x) b ≡ owner_of m b
  owner_old b h = get_or_append_left m.owners (x ∷ []) 0 b (subst (λ n. b < n) (sym k.owned) h)

  owner_new : owner_of (opened objects m x) (length m.blocks) ≡ x
  owner_new = ap (λ n. slice_index_or (m.owners ++ x ∷ []) n 0) (sym k.owned) ∙ get_or-append_seam m.owners x [] 0

  place_new : place_of (opened objects m x) x ≡ Some (length m.blocks)
  place_new = get_or-set_same m.places x (Some (length m.blocks)) None (subst (λ n. x < n) (sym k.counted) there)

  place_old : (y : ℕ) → (y ≡ x → ⊥) → place_of (opened objects m x) y ≡ place_of m y
  place_old y h = get_or-set_other m.places x y (Some (length m.blocks)) None h

  count : length (opened objects m x).blocks ≡ length m.blocks + 1
  count = length-append m.blocks (new_block (size_of objects x) (is_read_only objects x) ∷ [])

  fits_old : (b : ℕ) → b < length m.blocks → Fits objects m b → Fits objects (opened objects m x) b
  fits_old b h f = record {
    object = f.object;
    is = ap (slice_get objects) (owner_old b h) ∙ f.is;
    size = f.size ∙ ap (λ (v : BlockView). length v.bytes) (sym (block_old b h));
    mark = f.mark ∙ ap (λ (v : BlockView). v.read_only) (sym (block_old b h));
  }

  fits_new : Fits objects (opened objects m x) (length m.blocks)
  fits_new =
      let o = some_object objects x there in
      let size : o.0.size ≡ size_of objects x = ap (λ (p : Option ObjectTree). unwrap_or (option_map (λ object. object.size) p) 0) (sym o.1) in
      let mark : o.0.read_only ≡ is_read_only objects x = ap (λ (p : Option ObjectTree). unwrap_or (option_map (λ object. object.read_only) p) false) (sym o.1)
      in
      record {
        object = o.0;
        is = ap (slice_get objects) owner_new ∙ o.1;
        size = size ∙ sym (length-replicate (size_of objects x) Undef) ∙ ap (λ (v : BlockView). length v.bytes) (sym block_new);
        mark = mark ∙ ap (λ (v : BlockView). v.read_only) (sym block_new);
      }

  fits_case : (b : ℕ) → b < length m.blocks + 1 → (b < length m.blocks) ⊎ (length m.blocks ≤ b) → Fits objects (opened objects m x) b
  fits_case b h (inl old) = fits_old b old (k.fits b old)
  fits_case b h (inr here) = let same : length m.blocks ≡ b = omega arith in subst (λ n. Fits objects (opened objects m x) n) same fits_new

  placed_case : (y b : ℕ) → place_of (opened objects m x) y ≡ Some b → (y ≡ x) ⊎ (y ≡ x → ⊥) → IsPlaced (opened objects m x) y b
  placed_case y b h (inl e) =
      let here : Some (length m.blocks) ≡ Some b = sym (ap (λ n. place_of (opened objects m x) n) e ∙ place_new) ∙ h in
      let same : length m.blocks ≡ b = cc in
      let placed : IsPlaced (opened objects m x) x (length m.blocks) =
      record { made = omega (arith, count); live = ap (λ (v : BlockView). v.live) block_new; owner = owner_new } in
      subst (λ n. IsPlaced (opened objects m x) n b) (sym e) (subst (λ n. IsPlaced (opened objects m x) x n) same placed)
  placed_case y b h (inr other) =
      let p = k.placed y b (sym (place_old y other) ∙ h) in
      record {
        made = omega (arith, count, p.made);
        live = ap (λ (v : BlockView). v.live) (block_old b p.made) ∙ p.live;
        owner = owner_old b p.made ∙ p.owner;
      }

  taken : (b : ℕ) → owner_of m b ≡ x → place_of m (owner_of m b) ≡ Some b → ⊥
  taken b e h = let no : None ≡ Some b = sym free ∙ ap (λ n. place_of m n) (sym e) ∙ h in absurd (cc)

  lives_case : (b : ℕ) → b < length m.blocks + 1 → (block_at (opened objects m x).blocks b).live ≡ true → (b < length m.blocks) ⊎ (length m.blocks ≤ b)
      → place_of (opened objects m x) (owner_of (opened objects m x) b) ≡ Some b
  lives_case b h live (inl old) =
      let was = k.lives b old (ap (λ (v : BlockView). v.live) (sym (block_old b old)) ∙ live) in
      let other : owner_of m b ≡ x → ⊥ = λ e. taken b e was in
      ap (λ n. place_of (opened objects m x) n) (owner_old b old) ∙ place_old (owner_of m b) other ∙ was
  lives_case b h live (inr here) =
      let same : length m.blocks ≡ b = omega arith in
      subst (λ n. place_of (opened objects m x) (owner_of (opened objects m x) n) ≡ Some n) same (ap (λ n. place_of (opened objects m x) n) owner_new
      ∙ place_new)

  pub keeps_opened : Keeps W objects (opened objects m x)
  keeps_opened = record {
    owned = length-append m.owners (x ∷ []) ∙ ap (λ n. n + 1) k.owned ∙ sym count;
    counted = length-set m.places x (Some (length m.blocks)) ∙ k.counted;
    fits = λ b h. fits_case b (subst (λ n. b < n) count h) (cases_lt b (length m.blocks));
    placed = λ y b h. placed_case y b h (cases_eq y x);
    lives = λ b h live. lives_case b (subst (λ n. b < n) count h) live (cases_lt b (length m.blocks));
    proper = proper-made m.blocks (size_of objects x) (is_read_only objects x) k.proper;
    whole = λ w. whole_more m.blocks (new_block (size_of objects x) (is_read_only objects x)) (k.whole w) (whole-undefined (size_of objects x));
  }

-- ---- memory in which nothing lives

pub none_lives : (count y : ℕ) → place_of (no_objects count) y ≡ None
none_lives zero y = refl
none_lives (suc n) zero = refl
none_lives (suc n) (suc y) = none_lives n y

pub keeps_none : (W : Type 0) (objects : List ObjectTree) → Keeps W objects (no_objects (length objects))
keeps_none W objects = record {
  owned = refl;
  counted = length-replicate (length objects) None;
  fits = λ b h. absurd (omega arith);
  placed = λ y b h. let no : None ≡ Some b = sym (none_lives (length objects) y) ∙ h in absurd (cc);
  lives = λ b h live. absurd (omega arith);
  proper = proper-start;
  whole = λ w b. whole-empty;
}

-- ---- blocks that keep their marks and their sizes

pub record SameShape (old new : List BlockView) : Type 0 where
  pub count : length new ≡ length old
  pub live : (b : ℕ) → (block_at new b).live ≡ (block_at old b).live
  pub mark : (b : ℕ) → (block_at new b).read_only ≡ (block_at old b).read_only
  pub size : (b : ℕ) → length (block_at new b).bytes ≡ length (block_at old b).bytes

pub keeps_blocks : (W : Type 0) (objects : List ObjectTree) (m : ObjectMemory) (bs : List BlockView) → Keeps W objects m → SameShape m.blocks bs
    → AreProper bs → (W → AreWhole bs) → Keeps W objects (with_blocks m bs)
keeps_blocks W objects m bs k s proper whole = record {
  owned = k.owned ∙ sym s.count;
  counted = k.counted;
  fits = λ b h. let f = k.fits b (subst (λ n. b < n) s.count h) in record {
    object = f.object;
    is = f.is;
    size = f.size ∙ sym (s.size b);
    mark = f.mark
        ∙ sym (s.mark b);
  };
  placed = λ y b h. let p = k.placed y b h in record { made = subst (λ n. b < n) (sym s.count) p.made; live = s.live b ∙ p.live; owner = p.owner };
  lives = λ b h live. k.lives b (subst (λ n. b < n) s.count h) (sym (s.live b) ∙ live);
  proper = proper;
  whole = whole;
}

module _ (m : List BlockView) (n : ℕ) (bs : List Byte) (made : n < length m) (size : length bs ≡ length (block_at m n).bytes) where
  at_block : (P : BlockView → BlockView → Type 0) → ((v : BlockView) → P v v) → P (record (block_at m n) { bytes = bs }) (block_at m n) → (b : ℕ) → (b
      ≡ n) ⊎ (b ≡ n → ⊥) → P (block_at (with_bytes m n bs) b) (block_at m b)
  at_block P same here b (inl e) = subst (λ k. P (block_at (with_bytes m n bs) k) (block_at m k)) (sym e)
      (subst (λ (v : BlockView). P v (block_at m n)) (sym (block-same m n bs made)) here)
  at_block P same here b (inr other) = subst (λ (v : BlockView). P v (block_at m b)) (sym (block-other m n b bs other)) (same (block_at m b))

  pub same_shape : SameShape m (with_bytes m n bs)
  same_shape = record {
    count = length-set _ _ _;
    live = λ b. at_block (λ v w. v.live ≡ w.live) (λ v. refl) refl b (cases_eq b n);
    mark = λ b. at_block (λ v w. v.read_only ≡ w.read_only) (λ v. refl) refl b (cases_eq b n);
    size = λ b. at_block (λ v w. length v.bytes ≡ length w.bytes) (λ v. refl) size b (cases_eq b n);
  }

pub shape_then : (m n o : List BlockView) → SameShape m n → SameShape n o → SameShape m o
shape_then m n o h k = record { count = k.count ∙ h.count; live = λ b. k.live b ∙ h.live b; mark = λ b. k.mark b ∙ h.mark b; size = λ b. k.size b ∙ h.size b }

pub same_blocks : (m : List BlockView) → SameShape m m
same_blocks m = record { count = refl; live = λ b. refl; mark = λ b. refl; size = λ b. refl }
