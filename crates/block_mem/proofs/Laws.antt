-- What is read after a store.
use Rattle.std.proofs.Common.{ℕ, ℤ, pos, negsuc, zero, suc, ◌≡◌, ◌+◌, ◌-◌, ◌*◌, ◌/◌, ◌%◌, ◌^◌, ◌<◌, ◌≤◌, Bool, true, false, cond, ◌⊎◌, inl, inr, List, [], ◌∷◌, length, take, drop, get_or, Some, None, refl, sym, subst, ap, ◌∙◌, arith, eq-eqb, FitsSigned, MatchBool, option_map}
use Rattle.std.specs.Int.{Width, byte_len, cast_signed, cast_unsigned, FitsUnsigned}
use Rattle.std.specs.Ordering.{int_eq}
use Rattle.std.proofs.Math.Nat.{mod-eq_of_lt}
use Rattle.std.proofs.Math.Facts.{Fits-of_z, Fits-lt-pow}
use Rattle.std.proofs.lemmas.Int.{to_z-of_z, ints}
use Rattle.std.proofs.lemmas.Nat.{mod-pow-add, shr-shr}
use Rattle.std.proofs.lemmas.List.{get_or-take, get_or-drop, ext_get_or}
use Rattle.std.proofs.lemmas.Bool.Decides.{Decides-int_eq}
use mir.Val.{bits}
use Rattle.c_syntax_written.specs.declared.int_type.IntType.{IntType}
use Rattle.c_syntax_written.specs.declared.int_type.IntType.TheVariants.{Char, SChar, UChar, Short, UShort, Int, UInt, Long, ULong, LLong, ULLong}
use Rattle.block_mem.specs.declared.types.Byte.{Byte}
use Rattle.block_mem.specs.declared.types.Byte.TheVariants.{Undef, Num, Frag}
use Rattle.block_mem.specs.declared.types.Pointer.{Pointer}
use Rattle.block_mem.specs.declared.types.Value.{Value}
use Rattle.block_mem.specs.declared.types.Value.TheVariants as values
use Rattle.block_mem.specs.declared.types.Scalar.{Scalar}
use Rattle.block_mem.specs.declared.types.Scalar.TheVariants as scalars
use Rattle.c_syntax_written.specs.Integer.{std_width, is_signed, HasNumber}
use Rattle.block_mem.specs.Numbers.{bits_in, number_in, low_bytes, low_first, number_of}
use Rattle.block_mem.specs.Pieces.{pieces, is_piece, are_pieces, is_cut, cut_byte, cut, get_bytes, put_bytes, stored}
use Rattle.block_mem.specs.Bytes.{size_of, IsOf, bytes_of, has_undef, value_of, pointer_of}
use Rattle.block_mem.proofs.Puts.{length-put, get-put_low, get-put_high, length-by_place, get-by_place, length-get}
use Rattle.block_mem.proofs.Values.{take-low_bytes}

-- ---- numbers

-- eight bits more
eight : (k : ℕ) → 8 * suc k ≡ 8 * k + 8
eight k = omega arith

eight_first : (k : ℕ) → 8 + 8 * k ≡ 8 * suc k
eight_first k = omega arith

-- k bytes of a number hold its low bits
pub number-low_bytes : (k m : ℕ) → number_of (low_bytes k m) ≡ Some (m % 2 ^ (8 * k))
unfolding low_bytes
number-low_bytes zero m = let e : 0 ≡ m % 1 = omega arith in ap (λ n. Some n) e
number-low_bytes (suc k) m =
    let split : m % 2 ^ (8 * k + 8) ≡ (m / 2 ^ 8 % 2 ^ (8 * k)) * 2 ^ 8 + m % 2 ^ 8 = mod-pow-add m (8 * k) 8 in
    let e : m % 256 + 256 * (m / 256 % 2 ^ (8 * k)) ≡ m % 2 ^ (8 * k + 8) = omega (arith, split) in
    ap (low_first (Num (m % 256))) (number-low_bytes k (m / 256)) ∙ ap (λ n. Some n) (e ∙ ap (λ n. m % 2 ^ n) (sym (eight k)))

-- the bytes from the i-th on are those of the higher bits
pub drop-low_bytes : (i k m : ℕ) → drop i (low_bytes (i + k) m) ≡ low_bytes k (m / 2 ^ (8 * i))
unfolding low_bytes
drop-low_bytes zero k m = let e : 0 + k ≡ k = omega arith in let one : m ≡ m / 1 = omega arith in ap (λ n. low_bytes n m) e ∙ ap (low_bytes k) one
drop-low_bytes (suc i) k m =
    let e : suc i + k ≡ suc (i + k) = omega arith in
    ap (λ n. drop (suc i) (low_bytes n m)) e
    ∙ drop-low_bytes i k (m / 256)
    ∙ ap (low_bytes k) (shr-shr m 8 (8 * i) ∙ ap (λ n. m / 2 ^ n) (eight_first i))

-- what some bytes of a number hold
pub number-part : (n m i k : ℕ) → i + k ≤ n → number_of (get_bytes (low_bytes n m) i k) ≡ Some (m / 2 ^ (8 * i) % 2 ^ (8 * k))
number-part n m i k h =
    let e : n ≡ i + (n - i) = omega arith in
    ap (λ x. number_of (get_bytes (low_bytes x m) i k)) e
    ∙ ap (λ bs. number_of (take k bs)) (drop-low_bytes i (n - i) m)
    ∙ ap number_of (take-low_bytes k (n - i) (m / 2 ^ (8 * i)) (omega arith))
    ∙ number-low_bytes k (m / 2 ^ (8 * i))

pub defined-low_bytes : (k m : ℕ) → has_undef (low_bytes k m) ≡ false
unfolding low_bytes
defined-low_bytes zero m = refl
defined-low_bytes (suc k) m = defined-low_bytes k (m / 256)

pub defined-part : (bs : List Byte) (i k : ℕ) → has_undef bs ≡ false → has_undef (get_bytes bs i k) ≡ false
defined-part bs i zero h = refl
defined-part [] zero (suc k) h = refl
defined-part [] (suc i) (suc k) h = refl
defined-part (Undef ∷ bs) i (suc k) h = cc
defined-part (Num n ∷ bs) zero (suc k) h = defined-part bs zero k h
defined-part (Num n ∷ bs) (suc i) (suc k) h = defined-part bs i (suc k) h
defined-part (Frag p j ∷ bs) zero (suc k) h = defined-part bs zero k h
defined-part (Frag p j ∷ bs) (suc i) (suc k) h = defined-part bs i (suc k) h

pub length-low_bytes : (k m : ℕ) → length (low_bytes k m) ≡ k
unfolding low_bytes
length-low_bytes zero m = refl
length-low_bytes (suc k) m = ap suc (length-low_bytes k (m / 256))

-- a width has eight bits in each byte
pub eight_bits : (t : IntType) → bits (std_width t) ≡ 8 * byte_len (std_width t)
eight_bits Char = refl
eight_bits SChar = refl
eight_bits UChar = refl
eight_bits Short = refl
eight_bits UShort = refl
eight_bits Int = refl
eight_bits UInt = refl
eight_bits Long = refl
eight_bits ULong = refl
eight_bits LLong = refl
eight_bits ULLong = refl

-- a number of a type comes back from its bits
signed_back : (s : Bool) (w : Width) (n : ℤ) → MatchBool s (FitsSigned w n) (FitsUnsigned w n) → cond s (cast_signed w (cast_unsigned w n)) (pos (cast_unsigned w n)) ≡ n
signed_back true w n h = to_z-of_z w n h
signed_back false w (pos n) h = refl
signed_back false w (negsuc n) h = absurd (let positive = h.0 in omega (arith, ints))

pub number-bits : (t : IntType) (n : ℤ) → HasNumber t n → number_in t (bits_in t n) ≡ n
number-bits t n h = signed_back (is_signed t) (std_width t) n h

pub bits_below : (s : Bool) (w : Width) (n : ℤ) → MatchBool s (FitsSigned w n) (FitsUnsigned w n) → cast_unsigned w n < 2 ^ bits w
bits_below true w n h = Fits-lt-pow (Fits-of_z h)
bits_below false w (pos n) h = let below = h.1 in omega (arith, ints)
bits_below false w (negsuc n) h = absurd (let positive = h.0 in omega (arith, ints))

-- ---- pointers

pub same_offset : (z : ℤ) → int_eq z z ≡ true
same_offset z = (Decides-int_eq z z).1 refl

pub own_piece : (p : Pointer) (k : ℕ) → is_piece p k (Frag p k) ≡ true
own_piece p k = rw (eq-eqb p.block p.block refl, same_offset p.offset, eq-eqb k k refl)

pub own_pieces : (p : Pointer) (k n : ℕ) → are_pieces p k (pieces p k n) ≡ true
unfolding pieces
own_pieces p k zero = refl
own_pieces p k (suc n) = rw (own_piece p k, own_pieces p (suc k) n)

pub defined-pieces : (p : Pointer) (k n : ℕ) → has_undef (pieces p k n) ≡ false
unfolding pieces
defined-pieces p k zero = refl
defined-pieces p k (suc n) = defined-pieces p (suc k) n

pub length-pieces : (p : Pointer) (k n : ℕ) → length (pieces p k n) ≡ n
unfolding pieces
length-pieces p k zero = refl
length-pieces p k (suc n) = ap suc (length-pieces p (suc k) n)

pointer-pieces : (p : Pointer) → pointer_of (pieces p 0 8) ≡ Some (values.Ptr p)
unfolding pieces
pointer-pieces p = ap (λ b. cond b (Some (values.Ptr p)) None) (own_pieces p 0 8)

null_bytes : pointer_of (low_bytes 8 0) ≡ Some values.Null
unfolding low_bytes
null_bytes = refl

-- ---- values

-- the bytes of a value hold that value
pub value-bytes : (ty : Scalar) (v : Value) → IsOf ty v → value_of ty (bytes_of v) ≡ Some v
value-bytes (scalars.Int t) (values.Int u n) h =
    let w : u ≡ t = h.0 in
    let small : bits_in t n < 2 ^ (8 * byte_len (std_width t)) = subst (λ k. bits_in t n < 2 ^ k) (eight_bits t) (bits_below (is_signed t) (std_width t) n h.1) in
    ap (λ x. option_map (λ m. values.Int t (number_in t m)) (number_of (low_bytes (byte_len (std_width x)) (bits_in x n)))) w
    ∙ ap (option_map (λ m. values.Int t (number_in t m))) (number-low_bytes (byte_len (std_width t)) (bits_in t n) ∙ ap (λ m. Some m) (mod-eq_of_lt small))
    ∙ ap (λ m. Some (values.Int t m)) (number-bits t n h.1)
    ∙ ap (λ x. Some (values.Int x n)) (sym w)
value-bytes (scalars.Int t) (values.Ptr p) h = absurd h
value-bytes (scalars.Int t) values.Null h = absurd h
value-bytes scalars.Pointer (values.Int u n) h = absurd h
value-bytes scalars.Pointer (values.Ptr p) h = pointer-pieces p
value-bytes scalars.Pointer values.Null h = null_bytes

pub defined-value : (v : Value) → has_undef (bytes_of v) ≡ false
defined-value (values.Int t n) = defined-low_bytes (byte_len (std_width t)) (bits_in t n)
defined-value (values.Ptr p) = defined-pieces p 0 8
defined-value values.Null = defined-low_bytes 8 0

pub length-value : (ty : Scalar) (v : Value) → IsOf ty v → length (bytes_of v) ≡ size_of ty
length-value (scalars.Int t) (values.Int u n) h = length-low_bytes (byte_len (std_width u)) (bits_in u n) ∙ ap (λ x. byte_len (std_width x)) h.0
length-value (scalars.Int t) (values.Ptr p) h = absurd h
length-value (scalars.Int t) values.Null h = absurd h
length-value scalars.Pointer (values.Int u n) h = absurd h
length-value scalars.Pointer (values.Ptr p) h = length-pieces p 0 8
length-value scalars.Pointer values.Null h = length-low_bytes 8 0

-- ---- blocks

is_cut-inside : (at n q k : ℕ) → at ≤ q → q < at + n → is_cut at n q k ≡ false
is_cut-inside at n q k h l = grind arith

cut_byte-inside : (at n q : ℕ) (b : Byte) → at ≤ q → q < at + n → cut_byte at n q b ≡ b
cut_byte-inside at n q Undef h l = refl
cut_byte-inside at n q (Num m) h l = refl
cut_byte-inside at n q (Frag p k) h l = rw (is_cut-inside at n q k h l)

pub get-put_same : (bs : List Byte) (at : ℕ) (new : List Byte) → at + length new ≤ length bs → get_bytes (put_bytes bs at new) at (length new) ≡ new
get-put_same [] zero [] h = refl
get-put_same [] zero (n ∷ new) h = absurd (omega arith)
get-put_same [] (suc at) new h = absurd (omega arith)
get-put_same (b ∷ bs) zero [] h = refl
get-put_same (b ∷ bs) zero (n ∷ new) h = ap (λ r. n ∷ r) (get-put_same bs zero new (omega arith))
get-put_same (b ∷ bs) (suc at) new h = get-put_same bs at new (omega arith)

-- a cut leaves the written bytes as they are
pub get-cut_same : (bs : List Byte) (at n : ℕ) → at + n ≤ length bs → get_bytes (cut bs at n) at n ≡ get_bytes bs at n
get-cut_same bs at n h =
    let size : length (cut bs at n) ≡ length bs = length-by_place (cut_byte at n) 0 bs in
    ext_get_or Undef _ _ (length-get (cut bs at n) at n (omega arith) ∙ sym (length-get bs at n h))
    (λ i l.
    let small : i < n = omega (arith, length-get (cut bs at n) at n (omega arith)) in
    let z : 0 + (at + i) ≡ at + i = omega arith in
    get_or-take n (drop at (cut bs at n)) i Undef small
    ∙ get_or-drop at (cut bs at n) i Undef
    ∙ get-by_place (cut_byte at n) 0 bs (at + i) Undef (omega arith)
    ∙ ap (λ q. cut_byte at n q (get_or bs (at + i) Undef)) z
    ∙ cut_byte-inside at n (at + i) _ (omega arith) (omega arith)
    ∙ sym (get_or-take n (drop at bs) i Undef small ∙ get_or-drop at bs i Undef))

-- stored bytes are read back
pub get-stored : (bs : List Byte) (at : ℕ) (new : List Byte) → at + length new ≤ length bs → get_bytes (stored bs at new) at (length new) ≡ new
get-stored bs at new h =
    let size : length (put_bytes bs at new) ≡ length bs = length-put bs at new in
    get-cut_same (put_bytes bs at new) at (length new) (omega arith) ∙ get-put_same bs at new h

pub length-stored : (bs : List Byte) (at : ℕ) (new : List Byte) → length (stored bs at new) ≡ length bs
length-stored bs at new = length-by_place (cut_byte at (length new)) 0 (put_bytes bs at new) ∙ length-put bs at new

-- elsewhere a store changes nothing but pieces of pointers that it cuts
pub get-stored_outside : (bs : List Byte) (at : ℕ) (new : List Byte) (q : ℕ) → q < length bs → (q < at) ⊎ (at + length new ≤ q) → get_or (stored bs at new) q Undef ≡ cut_byte at (length new) q (get_or bs q Undef)
get-stored_outside bs at new q l apart =
    let size : length (put_bytes bs at new) ≡ length bs = length-put bs at new in
    let z : 0 + q ≡ q = omega arith in
    let kept : get_or (put_bytes bs at new) q Undef ≡ get_or bs q Undef = elim apart [ inl low ↦ get-put_low bs at new q Undef low | inr high ↦ get-put_high bs at new q Undef high ] in
    get-by_place (cut_byte at (length new)) 0 (put_bytes bs at new) q Undef (omega arith)
    ∙ ap (λ n. cut_byte at (length new) n (get_or (put_bytes bs at new) q Undef)) z
    ∙ ap (cut_byte at (length new) q) kept
