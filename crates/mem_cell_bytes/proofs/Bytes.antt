-- What cells allow, after stores and at loads.
use Rattle.std.proofs.Common.{ℕ, ℤ, pos, zero, suc, ◌≡◌, ◌+◌, ◌*◌, ◌/◌, ◌%◌, ◌^◌, ◌<◌, ◌≤◌, Bool, true, false, negsuc, FitsSigned, MatchBool, List, [], ◌∷◌, length, replicate, Option, Some, None, Ok, Err, refl, sym, ap, subst, ◌∙◌, arith, inl, inr, cond, option_map, ◌==◌, slice_set}
use Rattle.std.specs.Int.{Width, byte_len, cast_signed, cast_unsigned, FitsUnsigned}
use Rattle.std.proofs.Math.Facts.{Fits-of_z, Fits-lt-pow}
use Rattle.std.proofs.Math.Nat.{mod-eq_of_lt}
use Rattle.std.proofs.lemmas.Int.{of_z-to_z, ints}
use mir.Val.{bits}
use Rattle.std.specs.Option.{ok_or}
use Rattle.std.proofs.lemmas.Bool.{cases_eq}
use Rattle.std.proofs.lemmas.Bool.Decides.{nat_tests}
use Rattle.c_syntax_written.specs.declared.int_type.IntType.{IntType}
use Rattle.c_syntax_written.specs.declared.int_type.IntType.TheVariants.{Char, SChar, UChar, Short, UShort, Int, UInt, Long, ULong, LLong, ULLong}
use Rattle.c_syntax_written.specs.Integer.{std_width, is_signed, HasNumber}
use Rattle.c_syntax.specs.declared.alarm.WrongKind.TheVariants.{Fragment, Indeterminate}
use Rattle.pointsets.specs.declared.Base.{Base}
use Rattle.pointsets.specs.declared.Base.TheVariants.{Null, Dead, Object}
use Rattle.pointsets.specs.Targets.{BaseSet, Any, Among, has_base, with_base}
use Rattle.block_mem.specs.declared.types.Byte.{Byte}
use Rattle.block_mem.specs.declared.types.Byte.TheVariants.{Undef}
use Rattle.block_mem.specs.declared.types.Pointer.{Pointer}
use Rattle.block_mem.specs.declared.types.Value.{Value}
use Rattle.block_mem.specs.declared.types.Value.TheVariants as values
use Rattle.block_mem.specs.declared.types.Scalar.{Scalar}
use Rattle.block_mem.specs.declared.types.Scalar.TheVariants as scalars
use Rattle.block_mem.specs.Numbers.{number_in, number_of, bits_in, low_bytes}
use Rattle.block_mem.specs.Pieces.{pieces, get_bytes, stored, by_place, cut_byte}
use Rattle.block_mem.specs.Bytes.{IsOf, bytes_of, has_undef, value_of, null_of, pointer_of}
use Rattle.block_mem.specs.Block.{BlockView}
use Rattle.block_mem.specs.Blocks.{block_at, with_bytes, loaded}
use Rattle.block_mem.proofs.Copies.{block-same, block-other, bytes-same}
use Rattle.block_mem.proofs.Laws.{value-bytes, get-stored, number-low_bytes, number-bits, number-part}
use Rattle.mem_cell_bytes.specs.declared.entry.Entry.{Entry}
use Rattle.c_values.specs.Places.{ObjectMemory, owner_of}
use Rattle.c_objects.specs.Writing.{with_blocks}
use Rattle.mem_cell_bytes.specs.Cells.{size_of, HasBlock, Meets, Points, number_of as value_number, bytes_in, part}
use Rattle.mem_cell_bytes.specs.Stores.{AreBeside}
use Rattle.mem_cell_bytes.proofs.Ranges.{get-stored_clear, cut-blank, cut-number, cut-pieces}

length-set : {X : Type 0} (xs : List X) (i : ℕ) (y : X) → length (slice_set xs i y) ≡ length xs
length-set [] i y = refl
length-set (x ∷ xs) zero y = refl
length-set (x ∷ xs) (suc i) y = ap suc (length-set xs i y)

-- memory with new bytes stored in a block
abbrev pub after : ObjectMemory → ℕ → ℕ → List Byte → ObjectMemory
after w c at new = with_blocks w (with_bytes w.blocks c (stored (block_at w.blocks c).bytes at new))

pub live-same : (m : List BlockView) (c b : ℕ) (bs : List Byte) → c < length m → (block_at (with_bytes m c bs) b).live ≡ (block_at m b).live
live-same m c b bs made = elim (cases_eq b c) [
  | inl e ↦ subst (λ k. (block_at (with_bytes m c bs) k).live ≡ (block_at m k).live) (sym e) (ap (λ (x : BlockView). x.live) (block-same m c bs made))
  | inr apart ↦ ap (λ (x : BlockView). x.live) (block-other m c b bs apart)
]

pub meets-world : (w w' : ObjectMemory) (e : Entry) (bs : List Byte) (x : ℤ) → ((b : ℕ) → HasBlock w e.targets b → HasBlock w' e.targets b) → Meets w e bs x → Meets w' e bs x
meets-world w w' e bs x h (inl blank) = inl blank
meets-world w w' e bs x h (inr (inl number)) = inr (inl number)
meets-world w w' e bs x h (inr (inr p)) = inr (inr (record { pointer = p.pointer; eight = p.eight; are = p.are; may = h p.pointer.block p.may; is = p.is }))

module _ (w : ObjectMemory) (c at : ℕ) (new : List Byte) (made : c < length w.blocks) where
  pub has-same : (set : BaseSet) (b : ℕ) → HasBlock w set b → HasBlock (after w c at new) set b
  has-same set b h = record {
    live = λ q. h.live (sym (live-same w.blocks c b (stored (block_at w.blocks c).bytes at new) made) ∙ q);
    dead = λ q. h.dead (sym (live-same w.blocks c b (stored (block_at w.blocks c).bytes at new) made) ∙ q);
  }

  cut-meets : (e : Entry) (bs : List Byte) (x : ℤ) → AreBeside e.offset (size_of e) at (length new) → Meets w e bs x → Meets w e (by_place (cut_byte at (length new)) e.offset bs) x
  cut-meets e bs x clear (inl u) = inl (record { may = u.may; are = ap (by_place (cut_byte at (length new)) e.offset) u.are ∙ cut-blank at (length new) e.offset (size_of e) })
  cut-meets e bs x clear (inr (inl n)) = inr (inl (record { may = n.may; number = n.number; small = n.small; are = cut-number at (length new) e.offset bs (n.number % 2 ^ (8 * size_of e)) (ap number_of n.are ∙ number-low_bytes (size_of e) n.number) ∙ n.are; is = n.is }))
  cut-meets e bs x clear (inr (inr p)) =
      let z : e.offset ≡ e.offset + 0 = omega arith in
      inr (inr (record {
        pointer = p.pointer;
        eight = p.eight;
        are = ap (by_place (cut_byte at (length new)) e.offset) p.are ∙ ap (λ q. by_place (cut_byte at (length new)) q (pieces p.pointer 0 8)) z
            ∙ cut-pieces at (length new) e.offset p.pointer 0 8 (subst (λ (k : ℕ). AreBeside e.offset k at (length new)) p.eight clear);
        may = p.may;
        is = p.is;
      }))

  -- a cell elsewhere allows what it allowed
  pub meets-clear : (e : Entry) (b : ℕ) (x : ℤ) → (b ≡ c → AreBeside e.offset (size_of e) at (length new)) → Meets w e (bytes_in w b e) x → Meets (after w c at new) e (bytes_in (after w c at new) b e) x
  meets-clear e b x clear m =
      meets-world w (after w c at new) e (bytes_in (after w c at new) b e) x (has-same e.targets)
      (elim (cases_eq b c) [
        | inl same ↦
            let is : bytes_in (after w c at new) b e ≡ by_place (cut_byte at (length new)) e.offset (bytes_in w b e) =
            ap (λ k. get_bytes (block_at (after w c at new).blocks k).bytes e.offset (size_of e)) same
            ∙ ap (λ l. get_bytes l e.offset (size_of e)) (bytes-same w.blocks c (stored (block_at w.blocks c).bytes at new) made)
            ∙ get-stored_clear (block_at w.blocks c).bytes at new e.offset (size_of e) (clear same)
            ∙ ap (λ k. by_place (cut_byte at (length new)) e.offset (get_bytes (block_at w.blocks k).bytes e.offset (size_of e))) (sym same) in
            subst (λ bs. Meets w e bs x) (sym is) (cut-meets e (bytes_in w b e) x (clear same) m)
        | inr other ↦ subst (λ bs. Meets w e bs x) (sym (ap (λ (l : BlockView). get_bytes l.bytes e.offset (size_of e)) (block-other w.blocks c b (stored (block_at w.blocks c).bytes at new) other))) m
      ])

  -- what was stored is in its cell
  pub bytes-here : (e : Entry) → e.offset ≡ at → size_of e ≡ length new → at + length new ≤ length (block_at w.blocks c).bytes → bytes_in (after w c at new) c e ≡ new
  bytes-here e place size within =
      ap (λ l. get_bytes l e.offset (size_of e)) (bytes-same w.blocks c (stored (block_at w.blocks c).bytes at new) made)
      ∙ ap (λ k. get_bytes (stored (block_at w.blocks c).bytes at new) k (size_of e)) place
      ∙ ap (get_bytes (stored (block_at w.blocks c).bytes at new) at) size
      ∙ get-stored (block_at w.blocks c).bytes at new within

-- ---- entries after a store

abbrev pub with_number : Entry → IntType → Entry
with_number e u = record e { ty = u; undef = false; value = true; targets = Among [] false false }

-- a pointer is kept as a number of eight bytes: its offset, or 0 where it is null
abbrev pub with_pointer : Entry → BaseSet → Entry
with_pointer e t = record e { ty = Long; undef = false; value = has_base t Null; targets = t }

eight_bits : (t : IntType) → bits (std_width t) ≡ 8 * byte_len (std_width t)
eight_bits Char = refl
eight_bits SChar = refl
eight_bits UChar = refl
eight_bits Short = refl
eight_bits UShort = refl
eight_bits Int = refl
eight_bits UInt = refl
eight_bits Long = refl
eight_bits ULong = refl
eight_bits LLong = refl
eight_bits ULLong = refl

bits_below : (s : Bool) (w : Width) (n : ℤ) → MatchBool s (FitsSigned w n) (FitsUnsigned w n) → cast_unsigned w n < 2 ^ bits w
bits_below true w n h = Fits-lt-pow (Fits-of_z h)
bits_below false w (pos n) h = let below = h.1 in omega (arith, ints)
bits_below false w (negsuc n) h = absurd (let positive = h.0 in omega (arith, ints))

pub bits-small : (t : IntType) (n : ℤ) → HasNumber t n → bits_in t n < 2 ^ (8 * byte_len (std_width t))
bits-small t n h = subst (λ k. bits_in t n < 2 ^ k) (eight_bits t) (bits_below (is_signed t) (std_width t) n h)

number_back : (s : Bool) (w : Width) (m : ℕ) → m < 2 ^ bits w → cast_unsigned w (cond s (cast_signed w m) (pos m)) ≡ m
number_back true w m h = of_z-to_z w m h
number_back false w m h = refl

-- bits of a type come back from their number
pub bits-number : (t : IntType) (m : ℕ) → m < 2 ^ (8 * byte_len (std_width t)) → bits_in t (number_in t m) ≡ m
bits-number t m h = number_back (is_signed t) (std_width t) m (subst (λ k. m < 2 ^ k) (sym (eight_bits t)) h)

pub number-meets : (w : ObjectMemory) (e : Entry) (u : IntType) (n : ℤ) → HasNumber u n → Meets w (with_number e u) (bytes_of (values.Int u n)) n
number-meets w e u n fits = inr (inl (record { may = refl; number = bits_in u n; small = bits-small u n fits; are = refl; is = sym (number-bits u n fits) }))

-- what a temporary holds goes into a cell of eight bytes
pub pointer-meets : (w : ObjectMemory) (e : Entry) (set : BaseSet) (v : Value) → IsOf scalars.Pointer v → Points w set v → Meets w (with_pointer e set) (bytes_of v) (value_number v)
pointer-meets w e set (values.Int u n) of h = absurd of
pointer-meets w e set (values.Ptr p) of h = inr (inr (record { pointer = p; eight = refl; are = refl; may = h; is = refl }))
pointer-meets w e set values.Null of h = inr (inl (record { may = h; number = 0; small = omega arith; are = refl; is = refl }))

-- ---- loads

blank-undef : (k : ℕ) → has_undef (replicate (suc k) Undef) ≡ true
blank-undef k = refl

pub size-positive : (t : IntType) → (k : ℕ) × (byte_len (std_width t) ≡ suc k)
size-positive Char = (0, refl)
size-positive SChar = (0, refl)
size-positive UChar = (0, refl)
size-positive Short = (1, refl)
size-positive UShort = (1, refl)
size-positive Int = (3, refl)
size-positive UInt = (3, refl)
size-positive Long = (7, refl)
size-positive ULong = (7, refl)
size-positive LLong = (7, refl)
size-positive ULLong = (7, refl)

-- what is loaded has no byte without a value, and is the value of the bytes
pub record Found (ty : Scalar) (bs : List Byte) (v : Value) : Type 0 where
  pub defined : has_undef bs ≡ false
  pub given : value_of ty bs ≡ Some v

found_value : (o : Option Value) (v : Value) → ok_or o Fragment ≡ Ok v → o ≡ Some v
found_value None v h = cc
found_value (Some u) v h = cc

pub found : (ty : Scalar) (bs : List Byte) (v : Value) → loaded ty bs ≡ Ok v → Found ty bs v
found ty bs v h = by (has_undef bs) refl h where
  by : (b : Bool) → has_undef bs ≡ b → cond b (Err Indeterminate) (ok_or (value_of ty bs) Fragment) ≡ Ok v → Found ty bs v
  by true e h = cc
  by false e h = record { defined = e; given = found_value (value_of ty bs) v h }

int_value : (u : IntType) (m n : ℕ) (v : Value) → option_map (λ (k : ℕ). values.Int u (number_in u k)) (Some m) ≡ Some v → v ≡ values.Int u (number_in u m)
int_value u m n v h = cc

undef_part : (n i k : ℕ) → i + suc k ≤ n → has_undef (get_bytes (replicate n Undef) i (suc k)) ≡ true
undef_part zero i k h = absurd (omega arith)
undef_part (suc n) zero k h = refl
undef_part (suc n) (suc i) k h = undef_part n i k (omega arith)

frag_part : (p : Pointer) (j n i k : ℕ) → i + suc k ≤ n → number_of (get_bytes (pieces p j n) i (suc k)) ≡ None
unfolding pieces
frag_part p j zero i k h = absurd (omega arith)
frag_part p j (suc n) zero k h = refl
frag_part p j (suc n) (suc i) k h = frag_part p (suc j) n i k (omega arith)

-- what an integer load gives that reads some bytes of a cell
pub load-part : (w : ObjectMemory) (e : Entry) (bs : List Byte) (x : ℤ) (i : ℕ) (u : IntType) (v : Value) → i + byte_len (std_width u) ≤ size_of e
    → Meets w e bs x → loaded (scalars.Int u) (get_bytes bs i (byte_len (std_width u))) ≡ Ok v → v ≡ values.Int u (part e.ty x i u)
load-part w e bs x i u v within m h =
    let k = byte_len (std_width u) in
    let some = size-positive u in
    let f = found (scalars.Int u) (get_bytes bs i k) v h in
    elim m [
      | inl b ↦
          let t : has_undef (get_bytes bs i k) ≡ true = ap (λ l. has_undef (get_bytes l i k)) b.are ∙ ap (λ n. has_undef (get_bytes (replicate (size_of e) Undef) i n)) some.1 ∙ undef_part (size_of e) i some.0 (omega (arith, within, some.1)) in
          let no = f.defined in cc
      | inr r ↦ elim r [
        | inl n ↦
            let is : number_of (get_bytes bs i k) ≡ Some (n.number / 2 ^ (8 * i) % 2 ^ (8 * k)) = ap (λ l. number_of (get_bytes l i k)) n.are ∙ number-part (size_of e) n.number i k within in
            let back : bits_in e.ty x ≡ n.number = ap (bits_in e.ty) n.is ∙ bits-number e.ty n.number n.small in
            int_value u (n.number / 2 ^ (8 * i) % 2 ^ (8 * k)) 0 v (ap (option_map (λ (m : ℕ). values.Int u (number_in u m))) (sym is) ∙ f.given)
            ∙ ap (λ m. values.Int u (number_in u (m / 2 ^ (8 * i) % 2 ^ (8 * k)))) (sym back)
        | inr p ↦
            let none : number_of (get_bytes bs i k) ≡ None = ap (λ l. number_of (get_bytes l i k)) p.are ∙ ap (λ n. number_of (get_bytes (pieces p.pointer 0 8) i n)) some.1 ∙ frag_part p.pointer 0 8 i some.0 (omega (arith, within, some.1, p.eight)) in
            let no : None ≡ Some v = ap (option_map (λ (m : ℕ). values.Int u (number_in u m))) (sym none) ∙ f.given in cc
      ]
    ]

-- the whole number of a cell is that of its variable
pub part-whole : (t : IntType) (m : ℕ) → m < 2 ^ (8 * byte_len (std_width t)) → part t (number_in t m) 0 t ≡ number_in t m
part-whole t m small =
    let k = byte_len (std_width t) in
    ap (λ n. number_in t (n / 2 ^ (8 * 0) % 2 ^ (8 * k))) (bits-number t m small)
    ∙ ap (number_in t) (let one : m / 2 ^ (8 * 0) ≡ m = omega arith in ap (λ n. n % 2 ^ (8 * k)) one ∙ mod-eq_of_lt small)

same-number : (u : IntType) (x y : ℤ) → values.Int u x ≡ values.Int u y → x ≡ y
same-number u x y h = cc

no-number : (p : Pointer) → number_of (pieces p 0 8) ≡ None
unfolding pieces
no-number p = refl

-- what a load of a whole number gives
pub load-whole : (w : ObjectMemory) (e : Entry) (bs : List Byte) (y : ℤ) (u : IntType) (x : ℤ) → e.ty ≡ u → Meets w e bs y → loaded (scalars.Int u) bs ≡ Ok (values.Int u x) → x ≡ y
load-whole w e bs y u x ty m h =
    let f = found (scalars.Int u) bs (values.Int u x) h in
    let some = size-positive e.ty in
    elim m [
      | inl b ↦ let t : has_undef bs ≡ true = ap has_undef b.are ∙ ap (λ n. has_undef (replicate n Undef)) some.1 in let d = f.defined in cc
      | inr r ↦ elim r [
        | inl n ↦
            let is : number_of bs ≡ Some n.number = ap number_of n.are ∙ number-low_bytes (size_of e) n.number ∙ ap (λ k. Some k) (mod-eq_of_lt n.small) in
            let v_is : values.Int u x ≡ values.Int u (number_in u n.number) = int_value u n.number 0 (values.Int u x) (ap (option_map (λ (k : ℕ). values.Int u (number_in u k))) (sym is) ∙ f.given) in
            same-number u x (number_in u n.number) v_is ∙ ap (λ t. number_in t n.number) (sym ty) ∙ sym n.is
        | inr p ↦
            let none : number_of bs ≡ None = ap number_of p.are ∙ no-number p.pointer in
            let clash : None ≡ Some (values.Int u x) = ap (option_map (λ (k : ℕ). values.Int u (number_in u k))) (sym none) ∙ f.given in cc
      ]
    ]

-- ---- loads of pointers

-- what a temporary may point to that was loaded from a cell
abbrev pub loaded_set : Entry → BaseSet
loaded_set e = cond e.value (with_base e.targets Null) e.targets

with_null-has : (s : BaseSet) → has_base (with_base s Null) Null ≡ true
with_null-has Any = refl
with_null-has (Among names null dead) = refl

with_null-keeps : (s : BaseSet) (b : Base) → has_base s b ≡ true → has_base (with_base s Null) b ≡ true
with_null-keeps Any b h = refl
with_null-keeps (Among names null dead) Null h = refl
with_null-keeps (Among names null dead) Dead h = h
with_null-keeps (Among names null dead) (Object n) h = h

loaded-keeps : (b : Bool) (s : BaseSet) (c : Base) → has_base s c ≡ true → has_base (cond b (with_base s Null) s) c ≡ true
loaded-keeps true s c h = with_null-keeps s c h
loaded-keeps false s c h = h

zero-number : (t : IntType) → number_in t 0 ≡ pos 0
zero-number Char = refl
zero-number SChar = refl
zero-number UChar = refl
zero-number Short = refl
zero-number UShort = refl
zero-number Int = refl
zero-number UInt = refl
zero-number Long = refl
zero-number ULong = refl
zero-number LLong = refl
zero-number ULLong = refl

-- eight bytes of a number hold the null pointer, or none
pub record IsNull (m : ℕ) (v : Value) : Type 0 where
  pub zero_is : m ≡ 0
  pub null : v ≡ values.Null

null_is : (m : ℕ) (v : Value) → null_of (Some m) ≡ Some v → IsNull m v
null_is m v h = by (m == 0) refl h where
  by : (b : Bool) → (m == 0) ≡ b → cond b (Some values.Null) None ≡ Some v → IsNull m v
  by true e k = record { zero_is = grind (arith, nat_tests); null = cc }
  by false e k = cc

number_pointer : (m : ℕ) → pointer_of (low_bytes 8 m) ≡ null_of (number_of (low_bytes 8 m))
unfolding low_bytes
number_pointer m = refl

-- what a load of a pointer gives
pub load-pointer : (w : ObjectMemory) (e : Entry) (bs : List Byte) (x : ℤ) (v : Value) → size_of e ≡ 8
    → Meets w e bs x → loaded scalars.Pointer bs ≡ Ok v → Points w (loaded_set e) v × (x ≡ value_number v)
load-pointer w e bs x v eight m h =
    let f = found scalars.Pointer bs v h in
    elim m [
      | inl b ↦ let no : has_undef bs ≡ true = ap has_undef b.are ∙ ap (λ n. has_undef (replicate n Undef)) eight in let d = f.defined in cc
      | inr r ↦ elim r [
        | inl n ↦
            let are : bs ≡ low_bytes 8 n.number = n.are ∙ ap (λ k. low_bytes k n.number) eight in
            let small : n.number < 2 ^ 64 = subst (λ k. n.number < 2 ^ (8 * k)) eight n.small in
            let number : number_of (low_bytes 8 n.number) ≡ Some n.number = number-low_bytes 8 n.number ∙ ap (λ k. Some k) (mod-eq_of_lt small) in
            let null = null_is n.number v (sym (ap pointer_of are ∙ number_pointer n.number ∙ ap null_of number) ∙ f.given) in
            let has : has_base (loaded_set e) Null ≡ true = ap (λ b. has_base (cond b (with_base e.targets Null) e.targets) Null) n.may ∙ with_null-has e.targets in
            let zero_x : x ≡ pos 0 = n.is ∙ ap (number_in e.ty) null.zero_is ∙ zero-number e.ty in
            subst (λ u. Points w (loaded_set e) u × (x ≡ value_number u)) (sym null.null) (has, zero_x)
        | inr p ↦
            let is : v ≡ values.Ptr p.pointer = let same = sym (ap pointer_of (sym p.are) ∙ f.given) ∙ value-bytes scalars.Pointer (values.Ptr p.pointer) tt in cc in
            subst (λ u. Points w (loaded_set e) u × (x ≡ value_number u)) (sym is)
            (record { live = λ q. loaded-keeps e.value e.targets (Object (owner_of w p.pointer.block)) (p.may.live q); dead = λ q. loaded-keeps e.value e.targets Dead (p.may.dead q) }, p.is)
      ]
    ]
