-- What bytes may be that a load reads, from cells and from equal bytes.
use Rattle.std.proofs.Common.{ℕ, ℤ, pos, zero, suc, ◌≡◌, ◌+◌, ◌-◌, ◌/◌, ◌%◌, ◌^◌, ◌*◌, ◌<◌, ◌≤◌, ◌==◌, Bool, true, false, List, [], ◌∷◌, drop, replicate, take, Option, Some, None, refl, sym, ap, subst, ◌∙◌, arith, inl, inr, cond}
use Rattle.std.specs.Prelude.{option_map}
use Rattle.std.specs.Int.{byte_len}
use Rattle.std.proofs.Math.Nat.{mod-eq_of_lt}
use Rattle.c_syntax_written.specs.declared.int_type.IntType.{IntType}
use Rattle.c_syntax_written.specs.declared.int_type.IntType.TheVariants.{Char, SChar, UChar, Short, UShort, Int, UInt, Long, ULong, LLong, ULLong}
use Rattle.c_syntax_written.specs.Integer.{std_width}
use Rattle.c_syntax.specs.Admission.{IsMarkIn}
use Rattle.c_syntax.specs.Operand.{LoadMark, HasValue, Broken}
use Rattle.c_syntax.specs.Operand as operand
use Rattle.ext_int.specs.Valuation.{value_at}
use Rattle.pointsets.specs.declared.Base.TheVariants.{Dead, Object}
use Rattle.pointsets.specs.Targets.{Among, BaseSet, has_base}
use Rattle.pointsets.proofs.Names.{is-eq}
use Rattle.block_mem.specs.declared.types.Byte.{Byte}
use Rattle.block_mem.specs.declared.types.Byte.TheVariants.{Undef}
use Rattle.block_mem.specs.declared.types.Pointer.{Pointer}
use Rattle.block_mem.specs.declared.types.Scalar.{Scalar}
use Rattle.block_mem.specs.declared.types.Scalar.TheVariants as scalars
use Rattle.block_mem.specs.declared.types.Value.{Value}
use Rattle.block_mem.specs.declared.types.Value.TheVariants as values
use Rattle.block_mem.specs.Blocks.{block_at}
use Rattle.block_mem.specs.Bytes.{has_undef, mark_of, null_of, pointer_of, size_of as scalar_size, value_of, value_or_broken}
use Rattle.block_mem.specs.Numbers.{bits_in, low_bytes, number_in, number_of as bytes_number}
use Rattle.block_mem.specs.Pieces.{pieces, get_bytes}
use Rattle.block_mem.proofs.Laws.{defined-low_bytes, defined-part, defined-pieces, number-low_bytes, number-part, value-bytes}
use Rattle.block_mem.proofs.Values.{int_size_le}
use Rattle.c_values.specs.Places.{ObjectMemory, owner_of}
use Rattle.machine_nums.specs.Machines.{Admits}
use Rattle.mem_cell_bytes.specs.declared.entry.Entry.{Entry}
use Rattle.mem_cell_bytes.specs.declared.entry.FillByte.{FillByte}
use Rattle.mem_cell_bytes.specs.declared.entry.FillByte.TheVariants as fills
use Rattle.mem_cell_bytes.specs.Cells.{HasBlock, Meets, bytes_in, size_of, var_of}
use Rattle.mem_cell_bytes.specs.Fills.{IsProperFill, fill_number, marked}
use Rattle.mem_cell_bytes.proofs.Bytes.{bits-number, size-positive}
use Rattle.mem_cell_exprs.specs.declared.known.Known.{Known}
use Rattle.mem_cell_loads.specs.declared.found.Found.TheVariants as founds
use Rattle.mem_cell_loads.specs.declared.reading.Marks.{Marks}
use Rattle.mem_cell_loads.specs.Found.{AreMarksAt, HasMark, IsFound, bytes_from}
use Rattle.mem_cell_loads.proofs.Cells.{cell_of, filled, from-cell, whole-cell}

-- ---- which mark bytes have

undef-mark : (k : Marks) (ty : Scalar) (bs : List Byte) → has_undef bs ≡ true → k.undef ≡ true → HasMark k ty bs
undef-mark k ty bs h is = subst (IsMarkIn k.undef k.value k.broken) (sym (ap (λ (b : Bool). cond b operand.Undef (value_or_broken (value_of ty bs))) h)) is

defined-mark : (k : Marks) (ty : Scalar) (bs : List Byte) (o : Option Value) → has_undef bs ≡ false → value_of ty bs ≡ o
    → IsMarkIn k.undef k.value k.broken (value_or_broken o) → HasMark k ty bs
defined-mark k ty bs o h is mark =
    subst (IsMarkIn k.undef k.value k.broken)
    (sym (ap (λ (b : Bool). cond b operand.Undef (value_or_broken (value_of ty bs))) h ∙ ap value_or_broken is)) mark

-- ---- parts of cells

undef-part : (n i k : ℕ) → i + suc k ≤ n → has_undef (get_bytes (replicate n Undef) i (suc k)) ≡ true
undef-part zero i k h = absurd (omega arith)
undef-part (suc n) zero k h = refl
undef-part (suc n) (suc i) k h = undef-part n i k (omega arith)

pieces-part : (p : Pointer) (j n i k : ℕ) → i + suc k ≤ n → bytes_number (get_bytes (pieces p j n) i (suc k)) ≡ None
unfolding pieces
pieces-part p j zero i k h = absurd (omega arith)
pieces-part p j (suc n) zero k h = refl
pieces-part p j (suc n) (suc i) k h = pieces-part p (suc j) n i k (omega arith)

none-has : (m : ObjectMemory) (set : BaseSet) (b : ℕ) → set ≡ Among [] false false → HasBlock m set b → ⊥
none-has m set b is h = by (block_at m.blocks b).live refl
  where
    by : (live : Bool) → (block_at m.blocks b).live ≡ live → ⊥
    by true e = let no : false ≡ true = ap (λ (t : BaseSet). has_base t (Object (owner_of m b))) (sym is) ∙ h.live e in cc
    by false e = let no : false ≡ true = ap (λ (t : BaseSet). has_base t Dead) (sym is) ∙ h.dead e in cc

not-false : (b : Bool) → (b ≡ false → ⊥) → b ≡ true
not-false true h = refl
not-false false h = absurd (h refl)

-- some bytes of a cell, as an integer
pub int-marked : (m : ObjectMemory) (e : Entry) (bs : List Byte) (x : ℤ) (i : ℕ) (t : IntType) (k : Marks) → i + byte_len (std_width t) ≤ size_of e → Meets m e bs x
    → (e.undef ≡ true → k.undef ≡ true) → (e.value ≡ true → k.value ≡ true) → (k.broken ≡ false → e.targets ≡ Among [] false false)
    → HasMark k (scalars.Int t) (get_bytes bs i (byte_len (std_width t)))
int-marked m e bs x i t k within (inl b) undef value broken =
    let n = byte_len (std_width t) in
    let some = size-positive t in
    let size = some.1 in
    let room : i + suc some.0 ≤ size_of e = omega (arith, within, size) in
    let is : has_undef (get_bytes bs i n) ≡ true =
    ap (λ (l : List Byte). has_undef (get_bytes l i n)) b.are ∙ ap (λ j. has_undef (get_bytes (replicate (size_of e) Undef) i j)) size ∙ undef-part (size_of e) i some.0 room in
    undef-mark k (scalars.Int t) (get_bytes bs i n) is (undef b.may)
int-marked m e bs x i t k within (inr (inl a)) undef value broken =
    let n = byte_len (std_width t) in
    let ps = get_bytes bs i n in
    let j = a.number / 2 ^ (8 * i) % 2 ^ (8 * n) in
    let defined : has_undef ps ≡ false = ap (λ (l : List Byte). has_undef (get_bytes l i n)) a.are ∙ defined-part (low_bytes (size_of e) a.number) i n (defined-low_bytes (size_of e) a.number) in
    let is : bytes_number ps ≡ Some j = ap (λ (l : List Byte). bytes_number (get_bytes l i n)) a.are ∙ number-part (size_of e) a.number i n within in
    defined-mark k (scalars.Int t) ps (Some (values.Int t (number_in t j))) defined (ap (option_map (λ (y : ℕ). values.Int t (number_in t y))) is) (value a.may)
int-marked m e bs x i t k within (inr (inr p)) undef value broken =
    let n = byte_len (std_width t) in
    let ps = get_bytes bs i n in
    let some = size-positive t in
    let size = some.1 in let eight = p.eight in
    let room : i + suc some.0 ≤ 8 = omega (arith, within, size, eight) in
    let defined : has_undef ps ≡ false = ap (λ (l : List Byte). has_undef (get_bytes l i n)) p.are ∙ defined-part (pieces p.pointer 0 8) i n (defined-pieces p.pointer 0 8) in
    let is : bytes_number ps ≡ None =
    ap (λ (l : List Byte). bytes_number (get_bytes l i n)) p.are ∙ ap (λ j. bytes_number (get_bytes (pieces p.pointer 0 8) i j)) size ∙ pieces-part p.pointer 0 8 i some.0 room in
    defined-mark k (scalars.Int t) ps None defined (ap (option_map (λ (y : ℕ). values.Int t (number_in t y))) is)
    (not-false k.broken (λ h. none-has m e.targets p.pointer.block (broken h) p.may))

-- ---- pointers

low-pointer : (n : ℕ) → pointer_of (low_bytes 8 n) ≡ null_of (bytes_number (low_bytes 8 n))
unfolding low_bytes
low-pointer n = refl

zero-bits : (t : IntType) → bits_in t (pos 0) ≡ 0
zero-bits Char = refl
zero-bits SChar = refl
zero-bits UChar = refl
zero-bits Short = refl
zero-bits UShort = refl
zero-bits Int = refl
zero-bits UInt = refl
zero-bits Long = refl
zero-bits ULong = refl
zero-bits LLong = refl
zero-bits ULLong = refl

null-mark : (k : Marks) (n : ℕ) → k.value ≡ true → (k.broken ≡ false → n ≡ 0) → IsMarkIn k.undef k.value k.broken (value_or_broken (null_of (Some n)))
null-mark k n value broken = by (n == 0) refl
  where
    by : (b : Bool) → (n == 0) ≡ b → IsMarkIn k.undef k.value k.broken (value_or_broken (cond b (Some values.Null) None))
    by true e = value
    by false e = not-false k.broken (λ h. let same : (n == 0) ≡ true = is-eq n 0 (broken h) in let different : true ≡ false = sym same ∙ e in cc)

-- all bytes of a cell, as a pointer
pub pointer-marked : (m : ObjectMemory) (e : Entry) (bs : List Byte) (x : ℤ) (k : Marks) → size_of e ≡ 8 → Meets m e bs x
    → (e.undef ≡ true → k.undef ≡ true) → k.value ≡ true → (k.broken ≡ false → e.value ≡ true → x ≡ pos 0)
    → HasMark k scalars.Pointer bs
pointer-marked m e bs x k eight (inl b) undef value broken =
    let is : has_undef bs ≡ true = ap has_undef b.are ∙ ap (λ (n : ℕ). has_undef (replicate n Undef)) eight in
    undef-mark k scalars.Pointer bs is (undef b.may)
pointer-marked m e bs x k eight (inr (inl a)) undef value broken =
    let are : bs ≡ low_bytes 8 a.number = a.are ∙ ap (λ j. low_bytes j a.number) eight in
    let small : a.number < 2 ^ 64 = subst (λ j. a.number < 2 ^ (8 * j)) eight a.small in
    let number : bytes_number (low_bytes 8 a.number) ≡ Some a.number = number-low_bytes 8 a.number ∙ ap (λ j. Some j) (mod-eq_of_lt small) in
    let defined : has_undef bs ≡ false = ap has_undef are ∙ defined-low_bytes 8 a.number in
    let is : value_of scalars.Pointer bs ≡ null_of (Some a.number) = ap pointer_of are ∙ low-pointer a.number ∙ ap null_of number in
    let zero_is : k.broken ≡ false → a.number ≡ 0 =
    λ h. sym (bits-number e.ty a.number a.small) ∙ ap (bits_in e.ty) (sym a.is ∙ broken h a.may) ∙ zero-bits e.ty in
    defined-mark k scalars.Pointer bs (null_of (Some a.number)) defined is (null-mark k a.number value zero_is)
pointer-marked m e bs x k eight (inr (inr p)) undef value broken =
    let defined : has_undef bs ≡ false = ap has_undef p.are ∙ defined-pieces p.pointer 0 8 in
    let is : value_of scalars.Pointer bs ≡ Some (values.Ptr p.pointer) = ap pointer_of p.are ∙ value-bytes scalars.Pointer (values.Ptr p.pointer) tt in
    defined-mark k scalars.Pointer bs (Some (values.Ptr p.pointer)) defined is value

take-twice : {X : Type 0} (n : ℕ) (xs : List X) → take n (take n xs) ≡ take n xs
take-twice zero xs = refl
take-twice (suc n) [] = refl
take-twice (suc n) (x ∷ xs) = ap (λ ys. x ∷ ys) (take-twice n xs)

-- ---- marks in a state of the set

zero-filled : (x : FillByte) (d : ℕ) → x ≡ fills.Num d → d ≡ 0 → fill_number x Long ≡ pos 0
zero-filled x d is z = ap (λ (y : FillByte). fill_number y Long) is ∙ ap (λ n. fill_number (fills.Num n) Long) z

module _ {D : Type 0} (admits : D → List ℤ → Type 0) (k : Known D) (o at : ℕ) (marks : Marks) where
  pub cell-marks : (t : IntType) (e : Entry) → (e.undef ≡ true → marks.undef ≡ true) → (e.value ≡ true → marks.value ≡ true)
      → (marks.broken ≡ false → e.targets ≡ Among [] false false) → IsFound k.grid o at (byte_len (std_width t)) (founds.Cell e) → AreMarksAt admits k o at (scalars.Int t) marks
  cell-marks t e undef value broken (held, is, has) objects s st b here =
      let n = byte_len (std_width t) in
      let low = has.low in let high = has.high in
      let within : (at - e.offset) + n ≤ size_of e = omega (arith, low, high) in
      subst (HasMark marks (scalars.Int t)) (sym (from-cell s.memory b e at n low high))
      (int-marked s.memory e (bytes_in s.memory b e) (value_at st.v (var_of o e)) (at - e.offset) t marks within
      (st.cell o e b (held, is, has.has, has.small) here) undef value broken)

  pub pointer-marks : (e : Entry) (known_zero : Bool) → (known_zero ≡ true → (v : List ℤ) → Admits admits k.nums v → value_at v (var_of o e) ≡ pos 0)
      → (e.undef ≡ true → marks.undef ≡ true) → marks.value ≡ true → (marks.broken ≡ false → e.value ≡ true → known_zero ≡ true)
      → IsFound k.grid o at 8 (founds.Cell e) → AreMarksAt admits k o at scalars.Pointer marks
  pointer-marks e known_zero law undef value broken (held, is, has) objects s st b here =
      let few = int_size_le e.ty in
      let low = has.low in let high = has.high in
      let eight : size_of e ≡ 8 = omega (arith, low, high, few) in
      let same : e.offset ≡ at = omega (arith, low, high, few) in
      subst (HasMark marks scalars.Pointer) (sym (whole-cell s.memory b e at 8 same eight))
      (pointer-marked s.memory e (bytes_in s.memory b e) (value_at st.v (var_of o e)) marks eight
      (st.cell o e b (held, is, has.has, has.small) here) undef value (λ h g. law (broken h g) st.v st.admitted))

  -- what equal bytes are, as a cell
  marked-undef : (x : FillByte) (e : Entry) → (x ≡ fills.Undef → marks.undef ≡ true) → (marked x e).undef ≡ true → marks.undef ≡ true
  marked-undef fills.Undef e h is = h refl
  marked-undef (fills.Num d) e h is = cc

  marked-value : (x : FillByte) (e : Entry) → ((d : ℕ) → x ≡ fills.Num d → marks.value ≡ true) → (marked x e).value ≡ true → marks.value ≡ true
  marked-value fills.Undef e h is = cc
  marked-value (fills.Num d) e h is = h d refl

  marked-targets : (x : FillByte) (t : IntType) → (marked x (cell_of at t)).targets ≡ Among [] false false
  marked-targets fills.Undef t = refl
  marked-targets (fills.Num d) t = refl

  marked-size : (x : FillByte) (t : IntType) → size_of (marked x (cell_of at t)) ≡ byte_len (std_width t)
  marked-size fills.Undef t = refl
  marked-size (fills.Num d) t = refl

  pub fill-ints : (t : IntType) (x : FillByte) → IsProperFill x → (x ≡ fills.Undef → marks.undef ≡ true) → ((d : ℕ) → x ≡ fills.Num d → marks.value ≡ true)
      → IsFound k.grid o at (byte_len (std_width t)) (founds.Fill x) → AreMarksAt admits k o at (scalars.Int t) marks
  fill-ints t x proper undef value there objects s st b here =
      let n = byte_len (std_width t) in
      let e = marked x (cell_of at t) in
      let size = marked-size x t in
      let within : 0 + n ≤ size_of e = omega (arith, size) in
      subst (HasMark marks (scalars.Int t)) (take-twice n (drop at (block_at s.memory.blocks b).bytes))
      (int-marked s.memory e (bytes_from s.memory b at n) (fill_number x t) 0 t marks within
      (filled admits k o at t x proper there objects s st b here)
      (marked-undef x (cell_of at t) undef) (marked-value x (cell_of at t) value) (λ h. marked-targets x t))

  pub fill-pointers : (x : FillByte) → IsProperFill x → (x ≡ fills.Undef → marks.undef ≡ true) → ((d : ℕ) → x ≡ fills.Num d → marks.value ≡ true)
      → ((d : ℕ) → x ≡ fills.Num d → marks.broken ≡ false → d ≡ 0)
      → IsFound k.grid o at 8 (founds.Fill x) → AreMarksAt admits k o at scalars.Pointer marks
  fill-pointers fills.Undef proper undef value broken there objects s st b here =
      undef-filled (filled admits k o at Long fills.Undef proper there objects s st b here)
    where
      undef-filled : Meets s.memory (marked fills.Undef (cell_of at Long)) (bytes_from s.memory b at 8) (fill_number fills.Undef Long) → HasMark marks scalars.Pointer (bytes_from s.memory b at 8)
      undef-filled (inl a) = undef-mark marks scalars.Pointer (bytes_from s.memory b at 8) (ap has_undef a.are) (undef refl)
      undef-filled (inr (inl a)) = let no = a.may in cc
      undef-filled (inr (inr p)) = absurd (none-has s.memory (Among [] false false) p.pointer.block refl p.may)
  fill-pointers (fills.Num d) proper undef value broken there objects s st b here =
      pointer-marked s.memory (marked (fills.Num d) (cell_of at Long)) (bytes_from s.memory b at 8) (fill_number (fills.Num d) Long) marks refl
      (filled admits k o at Long (fills.Num d) proper there objects s st b here)
      (marked-undef (fills.Num d) (cell_of at Long) undef) (value d refl) (λ h g. zero-filled (fills.Num d) d refl (broken d refl h))

  -- equal bytes, at any type
  pub fill-marked : (ty : Scalar) (x y : FillByte) → y ≡ x → IsProperFill x → (y ≡ fills.Undef → marks.undef ≡ true) → ((d : ℕ) → y ≡ fills.Num d → marks.value ≡ true)
      → ((d : ℕ) → y ≡ fills.Num d → marks.broken ≡ false → d ≡ 0)
      → IsFound k.grid o at (scalar_size ty) (founds.Fill x) → AreMarksAt admits k o at ty marks
  fill-marked (scalars.Int t) x y same proper undef value broken there = fill-ints t x proper (λ h. undef (same ∙ h)) (λ d h. value d (same ∙ h)) there
  fill-marked scalars.Pointer x y same proper undef value broken there =
      fill-pointers x proper (λ h. undef (same ∙ h)) (λ d h. value d (same ∙ h)) (λ d h. broken d (same ∙ h)) there

-- bytes of which nothing is known
pub all-marked : (ty : Scalar) (bs : List Byte) → HasMark (record { undef = true; value = true; broken = true }) ty bs
all-marked ty bs = by (mark_of ty bs)
  where
    by : (mark : LoadMark) → IsMarkIn true true true mark
    by operand.Undef = refl
    by HasValue = refl
    by Broken = refl
