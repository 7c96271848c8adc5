-- What memory says of one object: as it was, with a number, or without a value.
use Rattle.std.proofs.Common.{◌≡◌, ◌⊎◌, inl, inr, ℕ, ℤ, zero, suc, pos, ◌<◌, refl, sym, subst, ap, ◌∙◌, ⊎_elim, Bool, true, false, List, [], length, take, Option, Some, None, Err}
use Rattle.std.specs.Prelude.{if◌then◌else◌, replicate, slice_get, slice_set}
use Rattle.std.specs.Option.{ok_or}
use Rattle.std.proofs.lemmas.Bool.{cases_eq}
use Rattle.std.proofs.Math.Seq.{get_or-append_seam}
use Rattle.std.proofs.lemmas.List.{get_or-set_same}
use Rattle.std.proofs.lemmas.Option.{slice_get_within}
use Rattle.c_syntax_written.specs.declared.int_type.IntType.{IntType}
use Rattle.c_syntax_written.specs.declared.int_type.IntType.TheVariants as ints
use Rattle.c_syntax_written.specs.Integer.{HasNumber}
use Rattle.c_syntax.specs.declared.alarm.WrongKind.TheVariants as kinds
use Rattle.c_syntax.specs.Types.{ObjectTree, CTypeTree, Int}
use Rattle.c_syntax.specs.Types as types
use Rattle.block_mem.specs.declared.types.Byte.{Byte}
use Rattle.block_mem.specs.declared.types.Byte.TheVariants.{Undef}
use Rattle.block_mem.specs.declared.types.Scalar.TheVariants as scalars
use Rattle.block_mem.specs.declared.types.Value.TheVariants as values
use Rattle.block_mem.specs.Block.{BlockView, new_block}
use Rattle.block_mem.specs.Blocks.{no_block, block_at, loaded, with_undefined, wrong_access}
use Rattle.block_mem.specs.Bytes.{size_of, has_undef, value_of}
use Rattle.block_mem.specs.Numbers.{number_in}
use Rattle.block_mem.specs.Pieces.{get_bytes}
use Rattle.block_mem.proofs.Copies.{bytes-same}
use Rattle.block_mem.proofs.StoreLaws.{passing, loaded-store}
use Rattle.c_values.specs.Places.{ObjectMemory, place_of}
use Rattle.c_objects.specs.Opening.{opened, is_read_only, undefined}
use Rattle.c_objects.specs.Opening as opening
use Rattle.c_objects.specs.Writing.{with_blocks, stored_at}
use Rattle.num_api.specs.declared.message.Range.{Range}
use Rattle.num_api.specs.Ranges.{InRange}
use Rattle.num_api.specs.Spans.{range_of}
use Rattle.machine_nums.specs.Rule.{type_span}
use Rattle.machine_nums.proofs.Wrapped.{has_inside}
use Rattle.csharp.specs.States.{State}
use Rattle.mem_temps.proofs.Ranged.{and_then_some, zero_has}
use Rattle.mem_objects.specs.declared.cells.KnownCell.{KnownCell}
use Rattle.mem_objects.specs.Cells.{cell_of, stored_cell, undefined_cell, opened_cell, opened_at}
use Rattle.mem_objects.specs.Copies.{copy_of, without}
use Rattle.mem_objects.specs.Known.{KeepsPlaces, start_of, found_at, IsFound, HoldsCell, AreHeld, IsCopy, AreCopies}
use Rattle.mem_objects.proofs.Lists.{put_here, put_apart, unless_some, without_at}
use Rattle.mem_objects.proofs.Places.{StaysAt, ChangesOnly, given}

-- ---- as it was

found_same : (m n : ObjectMemory) (b : ℕ) (t : IntType) → (block_at n.blocks b).bytes ≡ (block_at m.blocks b).bytes → found_at n b t ≡ found_at m b t
found_same m n b t e = ap (λ (bs : List Byte). loaded (scalars.Int t) (get_bytes bs 0 (size_of (scalars.Int t)))) e

held_still : (objects : List ObjectTree) (m n : ObjectMemory) (x : ℕ) (c : KnownCell) → HoldsCell objects m x c → StaysAt m n x → HoldsCell objects n x c
held_still objects m n x c h s = record {
  object = h.object;
  is = h.is;
  typed = h.typed;
  mark = h.mark;
  block = h.block;
  place = s.place ∙ h.place;
  found = subst (IsFound c) (sym (found_same m n h.block c.ty (s.bytes h.block h.place))) h.found;
}

copy_still : (objects : List ObjectTree) (s : State) (n : ObjectMemory) (d x : ℕ) → IsCopy objects s d x → StaysAt s.memory n x
    → IsCopy objects (record s { memory = n }) d x
copy_still objects s n d x h k = record {
  object = h.object;
  is = h.is;
  ty = h.ty;
  typed = h.typed;
  block = h.block;
  place = k.place ∙ h.place;
  value = h.value;
  temp = h.temp;
  found = found_same s.memory n h.block h.ty (k.bytes h.block h.place) ∙ h.found;
}

-- where one object changes and its cell with it, all cells hold
pub held_put : (objects : List ObjectTree) (cells : List (Option KnownCell)) (m n : ObjectMemory) (x : ℕ) (v : Option KnownCell) → AreHeld objects cells m
    → ChangesOnly m n x → ((c : KnownCell) → v ≡ Some c → HoldsCell objects n x c) → AreHeld objects (slice_set cells x v) n
held_put objects cells m n x v h only here = λ y c e. ⊎_elim
    (λ same. subst (λ (z : ℕ). HoldsCell objects n z c) (sym same)
    (here c (put_here cells x v c (subst (λ (z : ℕ). cell_of (slice_set cells x v) z ≡ Some c) same e))))
    (λ ne. held_still objects m n y c (h y c (sym (put_apart cells x y v ne) ∙ e)) (only y ne)) (cases_eq y x)

-- and what is no copy of it stays a copy
pub copies_without : (objects : List ObjectTree) (copies : List (Option ℕ)) (s : State) (n : ObjectMemory) (x : ℕ) → AreCopies objects copies s
    → ChangesOnly s.memory n x → AreCopies objects (without x copies) (record s { memory = n })
copies_without objects copies s n x h only = λ d y e.
    let kept = unless_some x (copy_of copies d) y (sym (without_at x copies d) ∙ e) in copy_still objects s n d y (h d y kept.0) (only y kept.1)

-- ---- with a number

pub held_stored : (objects : List ObjectTree) (m n : ObjectMemory) (x : ℕ) (c : KnownCell) (r : Range) (i : ℤ) → KeepsPlaces objects m
    → (h : HoldsCell objects m x c) → HasNumber c.ty i → InRange r i
    → stored_at m (scalars.Int c.ty) (values.Ptr (start_of h.block)) (values.Int c.ty i) ≡ Some n → HoldsCell objects n x (stored_cell r c)
held_stored objects m n x c r i k h has inside e =
    let both = given _ _ n e in
    let access : wrong_access m.blocks (start_of h.block) (size_of (scalars.Int c.ty)) (size_of (scalars.Int c.ty)) false ≡ None = both.0 in
    let pass = passing m.blocks (start_of h.block) (size_of (scalars.Int c.ty)) (size_of (scalars.Int c.ty)) false access in
    subst (λ (y : ObjectMemory). HoldsCell objects y x (stored_cell r c)) both.1 (record {
      object = h.object;
      is = h.is;
      typed = h.typed;
      mark = h.mark;
      block = h.block;
      place = h.place;
      found = subst (IsFound (stored_cell r c))
          (sym (loaded-store m.blocks (start_of h.block) (scalars.Int c.ty) (values.Int c.ty i) (k.owned.placed x h.block h.place).made (refl, has) pass.inside))
          (refl, inside);
    })

-- ---- without a value

-- bytes without values have none at the start, or there are none
blank_start : (k size : ℕ) → (has_undef (take k (replicate size Undef)) ≡ true) ⊎ (take k (replicate size Undef) ≡ [])
blank_start zero size = inr refl
blank_start (suc k) zero = inr refl
blank_start (suc k) (suc size) = inl refl

no_bits : (t : IntType) → number_in t 0 ≡ pos 0
no_bits ints.Char = refl
no_bits ints.SChar = refl
no_bits ints.UChar = refl
no_bits ints.Short = refl
no_bits ints.UShort = refl
no_bits ints.Int = refl
no_bits ints.UInt = refl
no_bits ints.Long = refl
no_bits ints.ULong = refl
no_bits ints.LLong = refl
no_bits ints.ULLong = refl

-- any number of the type, or no value
pub record IsBlank (c : KnownCell) : Type 0 where
  pub range : c.range ≡ range_of (type_span c.ty)
  pub undefined : c.may_be_undefined ≡ true

blank_found : (c : KnownCell) (bs : List Byte) → IsBlank c → (has_undef bs ≡ true) ⊎ (bs ≡ []) → IsFound c (loaded (scalars.Int c.ty) bs)
blank_found c bs b (inl e) = subst (λ (u : Bool). IsFound c (if u then Err kinds.Indeterminate else ok_or (value_of (scalars.Int c.ty) bs) kinds.Fragment)) (sym e)
    b.undefined
blank_found c bs b (inr e) = subst (λ (l : List Byte). IsFound c (loaded (scalars.Int c.ty) l)) (sym e) (
  refl,
  subst (λ (r : Range). InRange r (number_in c.ty 0)) (sym b.range)
      (subst (InRange (range_of (type_span c.ty))) (sym (no_bits c.ty)) (has_inside c.ty (pos 0) (zero_has c.ty))),
)

blank_at : (m : ObjectMemory) (b size : ℕ) (c : KnownCell) → IsBlank c → (block_at m.blocks b).bytes ≡ replicate size Undef → IsFound c (found_at m b c.ty)
blank_at m b size c blank e =
    subst (λ (bs : List Byte). IsFound c (loaded (scalars.Int c.ty) (get_bytes bs 0 (size_of (scalars.Int c.ty))))) (sym e)
    (blank_found c (take (size_of (scalars.Int c.ty)) (replicate size Undef)) blank (blank_start (size_of (scalars.Int c.ty)) size))

pub held_undefined : (objects : List ObjectTree) (m n : ObjectMemory) (x : ℕ) (c : KnownCell) → KeepsPlaces objects m → HoldsCell objects m x c
    → (b : ℕ) → place_of m x ≡ Some b → n ≡ with_blocks m (with_undefined m.blocks b) → HoldsCell objects n x (undefined_cell c)
held_undefined objects m n x c k h b p e = subst (λ (y : ObjectMemory). HoldsCell objects y x (undefined_cell c)) (sym e) (record {
  object = h.object;
  is = h.is;
  typed = h.typed;
  mark = h.mark;
  block = b;
  place = p;
  found = blank_at (with_blocks m (with_undefined m.blocks b)) b (length (block_at m.blocks b).bytes) (undefined_cell c) (record { range = refl; undefined = refl })
      (bytes-same m.blocks b (replicate (length (block_at m.blocks b).bytes) Undef) (k.owned.placed x b p).made);
})

-- ---- an object that begins

pub record IsOpened (object : ObjectTree) (ty : CTypeTree) (c : KnownCell) : Type 0 where
  pub typed : ty ≡ Int c.ty
  pub mark : object.read_only ≡ c.read_only
  pub blank : IsBlank c

opened_is : (object : ObjectTree) (ty : CTypeTree) (c : KnownCell) → opened_cell object ty ≡ Some c → IsOpened object ty c
opened_is object (Int t) c e =
    let own : KnownCell = record { ty = t; range = range_of (type_span t); may_be_undefined = true; read_only = object.read_only } in
    let same : own ≡ c = cc in
    subst (IsOpened object (Int t)) same (record { typed = refl; mark = refl; blank = record { range = refl; undefined = refl } })
opened_is object types.Void c e = absurd (cc)
opened_is object (types.Pointer to is_const) c e = absurd (cc)
opened_is object (types.Array of is_const n) c e = absurd (cc)
opened_is object (types.Struct n) c e = absurd (cc)
opened_is object (types.Function n) c e = absurd (cc)

pub held_opened : (objects : List ObjectTree) (m : ObjectMemory) (x : ℕ) (c : KnownCell) → KeepsPlaces objects m → opened_at objects x ≡ Some c
    → HoldsCell objects (opened objects m x) x c
held_opened objects m x c k e =
    let o = and_then_some (λ (object : ObjectTree). opened_cell object object.ty) (slice_get objects x) c e in
    let is = opened_is o.0 o.0.ty c o.2 in
    let there = slice_get_within objects x o.0 o.1 in
    record {
      object = o.0;
      is = o.1;
      typed = is.typed;
      mark = is.mark;
      block = length m.blocks;
      place = get_or-set_same m.places x (Some (length m.blocks)) None (subst (λ (n : ℕ). x < n) (sym k.counted) there);
      found = blank_at (opened objects m x) (length m.blocks) (opening.size_of objects x) c is.blank
          (ap (λ (v : BlockView). v.bytes) (get_or-append_seam m.blocks (new_block (opening.size_of objects x) (is_read_only objects x)) [] no_block));
    }
