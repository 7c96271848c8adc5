-- What is kept where an object ends.
use Rattle.std.proofs.Common.{◌≡◌, ℕ, ◌<◌, ◌≤◌, true, false, refl, sym, subst, ap, ◌∙◌, arith, List, length, length-set, Option, Some, None, inl, inr}
use Rattle.std.proofs.Common.{◌⊎◌}
use Rattle.std.specs.Prelude.{slice_set}
use Rattle.std.proofs.lemmas.Bool.{cases_eq, cases_lt}
use Rattle.std.proofs.lemmas.List.{get_or-set_same, get_or-set_other, get_or_past}
use Rattle.c_syntax.specs.Types.{ObjectTree}
use Rattle.block_mem.specs.Block.{BlockView}
use Rattle.block_mem.specs.Blocks.{no_block, block_at, with_ended}
use Rattle.block_mem.proofs.Proper.{proper-ended}
use Rattle.block_mem.proofs.Whole.{whole_set}
use Rattle.c_values.specs.Places.{ObjectMemory, place_of, owner_of}
use Rattle.c_objects.specs.Kept.{IsPlaced}
use Rattle.c_objects.specs.Opening.{ended_at, shut}
use Rattle.c_objects.proofs.Keeping.{Keeps}

module _ (W : Type 0) (objects : List ObjectTree) (m : ObjectMemory) (x : ℕ) (k : Keeps W objects m) where
  -- it has no place then
  gone : (x < length m.places) ⊎ (length m.places ≤ x) → place_of (shut m x) x ≡ None
  gone (inl h) = get_or-set_same m.places x None None h
  gone (inr h) = get_or_past (slice_set m.places x None) x None (omega (arith, length-set m.places x None))

  elsewhere : (y : ℕ) → (y ≡ x → ⊥) → place_of (shut m x) y ≡ place_of m y
  elsewhere y h = get_or-set_other m.places x y None None h

  -- an object that has a place is another
  other_place : (y b : ℕ) → place_of (shut m x) y ≡ Some b → (y ≡ x) ⊎ (y ≡ x → ⊥) → (y ≡ x → ⊥) × (place_of m y ≡ Some b)
  other_place y b h (inl e) = let no : None ≡ Some b = sym (gone (cases_lt x (length m.places))) ∙ ap (λ n. place_of (shut m x) n) (sym e) ∙ h in absurd (cc)
  other_place y b h (inr other) = (other, sym (elsewhere y other) ∙ h)

  not_free : place_of m x ≡ None → (b : ℕ) → owner_of m b ≡ x → place_of m (owner_of m b) ≡ Some b → ⊥
  not_free free b e h = let no : None ≡ Some b = sym free ∙ ap (λ n. place_of m n) (sym e) ∙ h in absurd (cc)

  -- without a place nothing dies
  keeps_unplaced : place_of m x ≡ None → Keeps W objects (record m { places = slice_set m.places x None })
  keeps_unplaced free = record {
    owned = k.owned;
    counted = length-set m.places x None ∙ k.counted;
    fits = λ b h. let f = k.fits b h in record { object = f.object; is = f.is; size = f.size; mark = f.mark };
    placed = λ y b h. let p = k.placed y b (other_place y b h (cases_eq y x)).1 in record { made = p.made; live = p.live; owner = p.owner };
    lives = λ b h live. let was = k.lives b h live in elsewhere (owner_of m b) (λ e. not_free free b e was) ∙ was;
    proper = k.proper;
    whole = k.whole;
  }

  module _ (b : ℕ) (here : place_of m x ≡ Some b) where
    placed_here : IsPlaced m x b
    placed_here = k.placed x b here

    dead : BlockView
    dead = record (block_at m.blocks b) { live = false }

    ended_same : block_at (with_ended m.blocks b) b ≡ record (block_at m.blocks b) { live = false }
    ended_same = get_or-set_same m.blocks b (record (block_at m.blocks b) { live = false }) no_block placed_here.made

    ended_other : (c : ℕ) → (c ≡ b → ⊥) → block_at (with_ended m.blocks b) c ≡ block_at m.blocks c
    ended_other c h = get_or-set_other m.blocks b c (record (block_at m.blocks b) { live = false }) no_block h

    size_kept : (c : ℕ) → (c ≡ b) ⊎ (c ≡ b → ⊥) → length (block_at (with_ended m.blocks b) c).bytes ≡ length (block_at m.blocks c).bytes
    size_kept c (inl e) = subst (λ n. length (block_at (with_ended m.blocks b) n).bytes
        ≡ length (block_at m.blocks n).bytes) (sym e) (ap (λ (v : BlockView). length v.bytes) ended_same)
    size_kept c (inr h) = ap (λ (v : BlockView). length v.bytes) (ended_other c h)

    mark_kept : (c : ℕ) → (c ≡ b) ⊎ (c ≡ b → ⊥) → (block_at (with_ended m.blocks b) c).read_only ≡ (block_at m.blocks c).read_only
    mark_kept c (inl e) = subst (λ n. (block_at (with_ended m.blocks b) n).read_only
        ≡ (block_at m.blocks n).read_only) (sym e) (ap (λ (v : BlockView). v.read_only) ended_same)
    mark_kept c (inr h) = ap (λ (v : BlockView). v.read_only) (ended_other c h)

    ended : ObjectMemory
    ended = record m { blocks = with_ended m.blocks b; places = slice_set m.places x None }

    count : length (with_ended m.blocks b) ≡ length m.blocks
    count = length-set _ _ _

    -- the block of another object is another
    other_block : (y c : ℕ) → (y ≡ x → ⊥) → owner_of m c ≡ y → c ≡ b → ⊥
    other_block y c h e f = h (sym e ∙ ap (λ n. owner_of m n) f ∙ placed_here.owner)

    -- a block that lives still is another, of another object
    lives_other : (c : ℕ) → (block_at (with_ended m.blocks b) c).live ≡ true → c ≡ b → ⊥
    lives_other c h e = let no : false ≡ true = sym (ap (λ n. (block_at (with_ended m.blocks b) n).live) e ∙ ap (λ (v : BlockView). v.live) ended_same)
        ∙ h in absurd (cc)

    owner_other : (c : ℕ) → (c ≡ b → ⊥) → place_of m (owner_of m c) ≡ Some c → owner_of m c ≡ x → ⊥
    owner_other c h e f = let same : Some c ≡ Some b = sym e ∙ ap (λ n. place_of m n) f ∙ here in let eq : c ≡ b = cc in h eq

    keeps_ended : Keeps W objects (record m { blocks = with_ended m.blocks b; places = slice_set m.places x None })
    keeps_ended = record {
      owned = k.owned ∙ sym count;
      counted = length-set m.places x None ∙ k.counted;
      fits = λ c h. let f = k.fits c (subst (λ n. c < n) count h) in
          record { object = f.object; is = f.is; size = f.size ∙ sym (size_kept c (cases_eq c b)); mark = f.mark ∙ sym (mark_kept c (cases_eq c b)) };
      placed = λ y c h.
          let was = other_place y c h (cases_eq y x) in
          let p = k.placed y c was.1 in
          record {
            made = subst (λ n. c < n) (sym count) p.made;
            live = ap (λ (v : BlockView). v.live) (ended_other c (other_block y c was.0 p.owner)) ∙ p.live;
            owner = p.owner;
          };
      lives = λ c h live.
          let other = lives_other c live in
          let was = k.lives c (subst (λ n. c < n) count h) (sym (ap (λ (v : BlockView). v.live) (ended_other c other)) ∙ live) in
          elsewhere (owner_of m c) (owner_other c other was) ∙ was;
      proper = proper-ended m.blocks b placed_here.made k.proper;
      whole = λ w. whole_set m.blocks b (record (block_at m.blocks b) { live = false }) placed_here.made (k.whole w) (k.whole w b);
    }

  keeps_at : (o : Option ℕ) → place_of m x ≡ o → Keeps W objects (record m { blocks = ended_at m.blocks o; places = slice_set m.places x None })
  keeps_at None e = keeps_unplaced e
  keeps_at (Some b) e = keeps_ended b e

  pub keeps_shut : Keeps W objects (shut m x)
  keeps_shut = keeps_at (place_of m x) refl
