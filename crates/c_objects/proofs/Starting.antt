-- What is kept where initial bytes are put in.
use Rattle.std.proofs.Common.{◌≡◌, ℕ, ℤ, zero, suc, ◌+◌, ◌<◌, ◌≤◌, pos, refl, sym, subst, ap, ◌∙◌, arith, List, [], ◌∷◌, ◌++◌, map, take}
use Rattle.std.proofs.Common.{length, length-set, append_assoc, Option, Some, None, inl, inr}
use Rattle.std.specs.Prelude.{unwrap_or, IsSome, IsSomeAnd, IfSome, All, slice_get, slice_set, slice_index_or}
use Rattle.std.proofs.lemmas.Bool.{cases_eq}
use Rattle.std.proofs.lemmas.List.{take_more_set, append-nil, take_all, length-map}
use Rattle.std.proofs.lemmas.List.Elements.{All-nil, All-cons, All-head, All-tail, All-weaker}
use Rattle.c_syntax.specs.declared.program.InitByte.{InitByte}
use Rattle.c_syntax.specs.declared.program.InitByte.TheVariants as inits
use Rattle.c_syntax.specs.declared.program.Initial.{Initial}
use Rattle.c_syntax.specs.Types.{ObjectTree}
use Rattle.c_syntax.specs.Program.{TProgramTree}
use Rattle.c_layout.specs.WellTyped.{IsWellTyped, IsTypedInitial, IsTypedByte, IsStaticObject}
use Rattle.block_mem.specs.declared.types.Byte.{Byte}
use Rattle.block_mem.specs.declared.types.Byte.TheVariants.{Undef, Frag}
use Rattle.block_mem.specs.declared.types.Pointer as pointers
use Rattle.block_mem.specs.Block.{BlockView}
use Rattle.block_mem.specs.Blocks.{block_at, with_bytes, set_byte}
use Rattle.block_mem.specs.Proper.{AreProper, AreProperBytes, IsProper}
use Rattle.block_mem.specs.Whole.{AreWhole, PointersAreWhole}
use Rattle.block_mem.proofs.Copies.{block-other, bytes-same, with-with, with-own}
use Rattle.block_mem.proofs.Whole.{whole_set}
use Rattle.c_values.specs.Places.{ObjectMemory, place_of}
use Rattle.c_objects.specs.Kept.{IsKept, KeepsObjects}
use Rattle.c_objects.specs.Opening.{no_objects}
use Rattle.c_objects.specs.Statics.{open_statics, initial_byte, block_of, put_from, initial_at, with_initial}
use Rattle.c_objects.specs.Statics.{with_initials, opened_statics, start, HasBlock, FitsInitial}
use Rattle.c_objects.specs.Statics.{FitInitials, HasBitsIn, HasEightBits, AreEightBits, HasPiece, AreWholeBytes, AreWholeInitials}
use Rattle.c_objects.specs.Writing.{with_blocks}
use Rattle.c_objects.proofs.Keeping.{same_shape, keeps_blocks, keeps_objects, objects_keep}
use Rattle.c_objects.proofs.Beginning.{opened_kept, static_placed}

-- ---- all bytes of a block

put_more : (m : ObjectMemory) (b k : ℕ) (y : InitByte) (ys : List InitByte) (blocks : List BlockView) → b < length blocks
    → k < length (block_at blocks b).bytes
    → take (suc k) (block_at (set_byte blocks (record { block = b; offset = pos k }) (initial_byte m y)) b).bytes ++ map (initial_byte m) ys
    ≡ take k (block_at blocks b).bytes ++ map (initial_byte m) (y ∷ ys)
put_more m b k y ys blocks made inside =
    let bs = (block_at blocks b).bytes in
    let next : suc k ≡ k + 1 = omega arith in
    ap (λ (l : List Byte). take (suc k) l ++ map (initial_byte m) ys) (bytes-same blocks b (slice_set bs k (initial_byte m y)) made)
    ∙ ap (λ n. take n (slice_set bs k (initial_byte m y)) ++ map (initial_byte m) ys) next
    ∙ ap (λ (l : List Byte). l ++ map (initial_byte m) ys) (take_more_set bs k (initial_byte m y) inside)
    ∙ append_assoc (take k bs) (initial_byte m y ∷ []) (map (initial_byte m) ys)

-- as many initial bytes as a block has from an offset on stand there instead
put_all : (m : ObjectMemory) (b k : ℕ) (bs : List InitByte) (blocks : List BlockView) → b < length blocks → k + length bs ≡ length (block_at blocks b).bytes
    → put_from m b k bs blocks ≡ with_bytes blocks b (take k (block_at blocks b).bytes ++ map (initial_byte m) bs)
put_all m b k [] blocks made size =
    sym (ap (λ (l : List Byte). with_bytes blocks b l) (append-nil (take k (block_at blocks b).bytes) ∙ take_all k (block_at blocks b).bytes (omega (arith, size)))
    ∙ with-own blocks b)
put_all m b k (y ∷ ys) blocks made size =
    let one = slice_set (block_at blocks b).bytes k (initial_byte m y) in
    let new = set_byte blocks (record { block = b; offset = pos k }) (initial_byte m y) in
    let there : b < length new = subst (λ n. b < n) (sym (length-set _ _ _)) made in
    let long : length (block_at new b).bytes ≡ length (block_at blocks b).bytes =
    ap (λ (l : List Byte). length l) (bytes-same blocks b one made) ∙ length-set _ _ _ in
    put_all m b (suc k) ys new there (omega (arith, size, long))
    ∙ with-with blocks b one _ made
    ∙ ap (λ (l : List Byte). with_bytes blocks b l) (put_more m b k y ys blocks made (omega (arith, size)))

-- ---- pieces

piece_from : (m : ObjectMemory) (y : InitByte) (p : pointers.Pointer) (k : ℕ) → initial_byte m y ≡ Frag p k
    → (object : ℕ) × (offset : ℤ) × (y ≡ inits.Piece object offset k) × (p ≡ record { block = block_of m object; offset = offset })
piece_from m (inits.Num n) p k e = absurd (cc)
piece_from m (inits.Piece object offset j) p k e =
    let same : j ≡ k = cc in let pointer : p ≡ record { block = block_of m object; offset = offset } = cc in
    (object, offset, ap (λ i. inits.Piece object offset i) same, pointer)

piece_at : (m : ObjectMemory) (bs : List InitByte) (q k : ℕ) (p : pointers.Pointer) → slice_index_or (map (initial_byte m) bs) q Undef ≡ Frag p k
    → (object : ℕ) × (offset : ℤ) × HasPiece bs q object offset k × (p ≡ record { block = block_of m object; offset = offset })
piece_at m [] q k p e = absurd (cc)
piece_at m (y ∷ ys) zero k p e = let f = piece_from m y p k e in (f.0, f.1, ap (λ z. Some z) f.2, f.3)
piece_at m (y ∷ ys) (suc q) k p e = piece_at m ys q k p e

byte_at : (m : ObjectMemory) (bs : List InitByte) (q : ℕ) (y : InitByte) → slice_get bs q ≡ Some y → slice_index_or (map (initial_byte m) bs) q Undef
    ≡ initial_byte m y
byte_at m [] q y e = absurd (cc)
byte_at m (x ∷ xs) zero y e = let same : x ≡ y = cc in ap (initial_byte m) same
byte_at m (x ∷ xs) (suc q) y e = byte_at m xs q y e

whole_bytes : (m : ObjectMemory) (bs : List InitByte) → AreWholeBytes bs → PointersAreWhole (map (initial_byte m) bs)
whole_bytes m bs h = record {
  whole = λ q k p holds.
      let f = piece_at m bs q k p holds.1 in
      let w = h q f.0 f.1 k f.2 in
      (w.0, w.1, λ j l. byte_at m bs (w.0 + j) (inits.Piece f.0 f.1 j) (w.2 j l) ∙ ap (λ (r : pointers.Pointer). Frag r j) (sym f.3));
}

-- ---- memory with other bytes

with_whole : (objects : List ObjectTree) (m : ObjectMemory) → KeepsObjects objects m → AreWhole m.blocks → IsKept objects m
with_whole objects m k w =
    record { owned = k.owned; counted = k.counted; fits = k.fits; placed = k.placed; lives = k.lives; proper = k.proper; whole = w }

proper_with : (m : List BlockView) (n : ℕ) (bs : List Byte) → n < length m → AreProper m → AreProperBytes (length m) bs → AreProper (with_bytes m n bs)
proper_with m n bs made all is p q = subst (λ l. IsProper l (slice_index_or (block_at (with_bytes m n bs) p).bytes q Undef)) (sym (length-set _ _ _))
    (elim (cases_eq p n) [
      | inl e ↦ subst (λ k. IsProper (length m) (slice_index_or (block_at (with_bytes m n bs) k).bytes q Undef)) (sym e)
          (subst (λ (l : List Byte). IsProper (length m) (slice_index_or l q Undef)) (sym (bytes-same m n bs made)) (is q))
      | inr other ↦ subst (λ (v : BlockView). IsProper (length m) (slice_index_or v.bytes q Undef)) (sym (block-other m n p bs other)) (all p q)
    ])

-- ---- a well typed program's initial values

found_static : (o : Option ObjectTree) (P : ObjectTree → Type 0) → IsSomeAnd o P → (object : ObjectTree) × (o ≡ Some object) × P object
found_static None P h = absurd h
found_static (Some x) P h = (x, refl, h)

is_there : (o : Option ℕ) (b : ℕ) → o ≡ Some b → IsSome o
is_there None b e = absurd (cc)
is_there (Some c) b e = refl

if_there : (o : Option ℕ) (b : ℕ) (P : ℕ → Type 0) → o ≡ Some b → P b → IfSome o P
if_there None b P e h = tt
if_there (Some c) b P e h = let same : b ≡ c = cc in subst P same h

module _ (program : TProgramTree) where
  -- each static object has its block
  record IsBegun (m : ObjectMemory) : Type 0 where
    keeps : KeepsObjects program.objects m
    placed : (x : ℕ) → IsStaticObject program x → (b : ℕ) × (place_of m x ≡ Some b)

  begun : IsBegun (opened_statics program.objects)
  begun = record {
    keeps = keeps_objects (Unit {0}) program.objects (opened_statics program.objects) (opened_kept program.objects);
    placed = static_placed program.objects;
  }

  -- the block of an object has as many bytes as its initial value
  same_size : (m : ObjectMemory) (i : Initial) (b : ℕ) → IsBegun m → IsTypedInitial program i → place_of m i.object ≡ Some b
      → length i.bytes ≡ length (block_at m.blocks b).bytes
  same_size m i b s t e =
      let p = s.keeps.placed i.object b e in
      let f = s.keeps.fits b p.made in
      let o = found_static (slice_get program.objects i.object) (λ object. length i.bytes ≡ object.size) t.size in
      let at : Some o.0 ≡ Some f.object = sym o.1 ∙ ap (slice_get program.objects) (sym p.owner) ∙ f.is in
      let same : o.0 ≡ f.object = cc in
      o.2 ∙ ap (λ (x : ObjectTree). x.size) same ∙ f.size

  proper_byte : (m : ObjectMemory) (y : InitByte) → IsBegun m → IsTypedByte program y → HasEightBits y → IsProper (length m.blocks) (initial_byte m y)
  proper_byte m (inits.Num n) s t h = h
  proper_byte m (inits.Piece object offset k) s t h =
      let p = s.placed object t.0 in
      let is : p.0 ≡ block_of m object = sym (ap (λ (o : Option ℕ). unwrap_or o 0) p.1) in
      subst (λ n. n < length m.blocks) is (s.keeps.placed object p.0 p.1).made

  proper_bytes : (m : ObjectMemory) (bs : List InitByte) → IsBegun m → All (IsTypedByte program) bs → All HasEightBits bs
      → AreProperBytes (length m.blocks) (map (initial_byte m) bs)
  proper_bytes m [] s t h q = tt
  proper_bytes m (y ∷ ys) s t h zero = proper_byte m y s (All-head (IsTypedByte program) y ys t) (All-head HasEightBits y ys h)
  proper_bytes m (y ∷ ys) s t h (suc q) = proper_bytes m ys s (All-tail (IsTypedByte program) y ys t) (All-tail HasEightBits y ys h) q

  -- one initial value more
  abbrev Next : ObjectMemory → List InitByte → ObjectMemory → Type 0
  Next m bs n = IsBegun n × (AreWhole m.blocks → AreWholeBytes bs → AreWhole n.blocks)

  one_more : (m : ObjectMemory) (i : Initial) → IsBegun m → IsTypedInitial program i → All HasEightBits i.bytes → Next m i.bytes (with_initial m i)
  one_more m i s t h =
      let p = s.placed i.object t.object in
      let made = (s.keeps.placed i.object p.0 p.1).made in
      let size = same_size m i p.0 s t p.1 in
      let new = map (initial_byte m) i.bytes in
      let long : length new ≡ length (block_at m.blocks p.0).bytes = length-map i.bytes (initial_byte m) ∙ size in
      let is : with_initial m i ≡ with_blocks m (with_bytes m.blocks p.0 new) =
      ap (λ (o : Option ℕ). initial_at m o i.bytes) p.1 ∙ ap (with_blocks m) (put_all m p.0 0 i.bytes m.blocks made (omega (arith, size))) in
      let keeps = keeps_blocks ⊥ program.objects m (with_bytes m.blocks p.0 new) (objects_keep program.objects m s.keeps)
      (same_shape m.blocks p.0 new made long) (proper_with m.blocks p.0 new made s.keeps.proper (proper_bytes m i.bytes s t.bytes h)) (λ no. absurd no) in
      subst (Next m i.bytes) (sym is) (
        record { keeps = keeps_objects ⊥ program.objects (with_blocks m (with_bytes m.blocks p.0 new)) keeps; placed = s.placed },
        λ w b. whole_set m.blocks p.0 (record (block_at m.blocks p.0) { bytes = new }) made w (whole_bytes m i.bytes b),
      )

  all_put : (m : ObjectMemory) (is : List Initial) → IsBegun m → All (IsTypedInitial program) is → AreEightBits is → IsBegun (with_initials m is)
  all_put m [] s t h = s
  all_put m (i ∷ is) s t h =
      all_put (with_initial m i) is (one_more m i s (All-head (IsTypedInitial program) i is t) (All-head (λ j. All HasEightBits j.bytes) i is h)).0
      (All-tail (IsTypedInitial program) i is t) (All-tail (λ j. All HasEightBits j.bytes) i is h)

  all_whole : (m : ObjectMemory) (is : List Initial) → IsBegun m → All (IsTypedInitial program) is → AreEightBits is → AreWhole m.blocks
      → AreWholeInitials is → AreWhole (with_initials m is).blocks
  all_whole m [] s t h w b = w
  all_whole m (i ∷ is) s t h w b =
      let next = one_more m i s (All-head (IsTypedInitial program) i is t) (All-head (λ j. All HasEightBits j.bytes) i is h) in
      all_whole (with_initial m i) is next.0 (All-tail (IsTypedInitial program) i is t) (All-tail (λ j. All HasEightBits j.bytes) i is h)
      (next.1 w (All-head (λ j. AreWholeBytes j.bytes) i is b)) (All-tail (λ j. AreWholeBytes j.bytes) i is b)

  pub start_keeps_objects : IsWellTyped program → AreEightBits program.initial → KeepsObjects program.objects (start program.objects program.initial)
  start_keeps_objects w h = (all_put (opened_statics program.objects) program.initial begun w.initial h).keeps

  pub start_is_kept : IsWellTyped program → AreEightBits program.initial → AreWholeInitials program.initial
      → IsKept program.objects (start program.objects program.initial)
  start_is_kept w h b = with_whole program.objects (start program.objects program.initial) (start_keeps_objects w h)
      (all_whole (opened_statics program.objects) program.initial begun w.initial h ((opened_kept program.objects).whole tt) b)

  pub start_placed : IsWellTyped program → AreEightBits program.initial → (x : ℕ) → IsStaticObject program x
      → IsSome (place_of (start program.objects program.initial) x)
  start_placed w h x s =
      let p = (all_put (opened_statics program.objects) program.initial begun w.initial h).placed x s in
      is_there (place_of (start program.objects program.initial) x) p.0 p.1

  -- ---- what the call asks for

  has_block : (m : ObjectMemory) → IsBegun m → (y : InitByte) → IsTypedByte program y → HasBlock m.places y
  has_block m s (inits.Num n) t = tt
  has_block m s (inits.Piece object offset k) t = let p = s.placed object t.0 in is_there (place_of m object) p.0 p.1

  fits_one : (m : ObjectMemory) → IsBegun m → (i : Initial) → IsTypedInitial program i → FitsInitial m i
  fits_one m s i t =
      let p = s.placed i.object t.object in (
        if_there (place_of m i.object) p.0 (λ b. length i.bytes ≤ length (block_at m.blocks b).bytes) p.1 (omega (arith, same_size m i p.0 s t p.1)),
        All-weaker (IsTypedByte program) (λ y. HasBlock m.places y) (has_block m s) i.bytes t.bytes,
      )

  pub start_fits : IsWellTyped program → FitInitials (opened_statics program.objects) program.initial
  start_fits w = All-weaker (IsTypedInitial program) (FitsInitial (opened_statics program.objects)) (fits_one (opened_statics program.objects) begun)
      program.initial w.initial

-- ---- what the call of a well typed program gives

bits_here : (o : Option ℕ) (b : ℕ) (P : Type 0) → o ≡ Some b → IfSome o (λ c. P) → P
bits_here None b P e h = absurd (cc)
bits_here (Some c) b P e h = h

all_bits : (program : TProgramTree) (is : List Initial) → All (IsTypedInitial program) is → All (HasBitsIn (opened_statics program.objects)) is
    → AreEightBits is
all_bits program [] t h = All-nil (λ i. All HasEightBits i.bytes)
all_bits program (i ∷ is) t h =
    let m = opened_statics program.objects in
    let p = static_placed program.objects i.object (All-head (IsTypedInitial program) i is t).object in
    All-cons (λ j. All HasEightBits j.bytes) i is
    (bits_here (place_of m i.object) p.0 (All HasEightBits i.bytes) p.1 (All-head (HasBitsIn m) i is h))
    (all_bits program is (All-tail (IsTypedInitial program) i is t) (All-tail (HasBitsIn m) i is h))

-- the code's blocks of static objects
pub opened_by_code : {X : Type 0} (f : X → ObjectTree) (xs : List X) (new m : ObjectMemory) → new ≡ open_statics (map f xs) (map f xs) 0 m
    → m ≡ no_objects (length xs) → new ≡ opened_statics (map f xs)
opened_by_code f xs new m e h = e ∙ ap (open_statics (map f xs) (map f xs) 0) (h ∙ ap no_objects (sym (length-map xs f)))

module _ (program : TProgramTree) (objects : List ObjectTree) (initials : List Initial) (first m : ObjectMemory) (at : first ≡ opened_statics objects)
    (e : m ≡ with_initials first initials) (bits : All (HasBitsIn first) initials) (w : IsWellTyped program) (os : program.objects ≡ objects)
    (is : program.initial ≡ initials) where
  own_start : m ≡ start program.objects program.initial
  own_start = e ∙ ap (λ x. with_initials x initials) at ∙ ap (λ x. start x initials) (sym os) ∙ ap (λ x. start program.objects x) (sym is)

  pub own_bits : AreEightBits program.initial
  own_bits = all_bits program program.initial w.initial
      (subst (λ x. All (HasBitsIn (opened_statics program.objects)) x) (sym is)
      (subst (λ x. All (HasBitsIn (opened_statics x)) initials) (sym os) (subst (λ (x : ObjectMemory). All (HasBitsIn x) initials) at bits)))

  pub begins_kept : KeepsObjects program.objects m
  begins_kept = subst (KeepsObjects program.objects) (sym own_start) (start_keeps_objects program w own_bits)

  pub begins_whole : AreWholeInitials initials → IsKept program.objects m
  begins_whole b = subst (IsKept program.objects) (sym own_start) (start_is_kept program w own_bits (subst AreWholeInitials (sym is) b))
