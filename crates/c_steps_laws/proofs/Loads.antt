-- What a load gives is of its type, and its block was made.
use Rattle.std.proofs.Common.{◌≡◌, ◌<◌, ◌+◌, ◌*◌, ◌^◌, ℕ, suc, Bool, true, false, List, [], ◌∷◌, length, Option, Some, None, Result, Ok, Err, refl, sym, ap, subst, arith}
use Rattle.std.specs.Prelude.{if◌then◌else◌, ◌==◌, option_map}
use Rattle.std.specs.Option.{ok_or}
use Rattle.std.specs.Int.{byte_len}
use Rattle.std.proofs.Math.Nat.{pow-suc}
use Rattle.std.proofs.Math.Facts.{sfits_to_z}
use Rattle.std.proofs.lemmas.Int.{ints as numbers}
use Rattle.c_syntax_written.specs.declared.int_type.IntType.{IntType}
use Rattle.c_syntax_written.specs.declared.int_type.IntType.TheVariants as ints
use Rattle.c_syntax_written.specs.Integer.{HasNumber, std_width}
use Rattle.c_syntax.specs.declared.alarm.WrongKind.{WrongKind}
use Rattle.c_syntax.specs.declared.alarm.WrongKind.TheVariants.{Indeterminate, Fragment}
use Rattle.block_mem.specs.declared.types.Byte.{Byte}
use Rattle.block_mem.specs.declared.types.Byte.TheVariants.{Undef, Num, Frag}
use Rattle.block_mem.specs.declared.types.Pointer.{Pointer}
use Rattle.block_mem.specs.declared.types.Scalar.{Scalar}
use Rattle.block_mem.specs.declared.types.Scalar.TheVariants as scalars
use Rattle.block_mem.specs.declared.types.Value.{Value}
use Rattle.block_mem.specs.declared.types.Value.TheVariants as values
use Rattle.block_mem.specs.Block.{BlockView}
use Rattle.block_mem.specs.Blocks.{block_at, bytes_at, place, wrong_access, loaded, after_access, load}
use Rattle.block_mem.specs.Bytes.{size_of, has_undef, null_of, pointer_of, value_of}
use Rattle.block_mem.specs.Numbers.{number_in, low_first, number_of}
use Rattle.block_mem.specs.Pieces.{are_pieces}
use Rattle.block_mem.specs.Proper.{IsProper, AreProperBytes, AreProper}
use Rattle.block_mem.proofs.Puts.{length-get}
use Rattle.block_mem.proofs.Proper.{proper-part}
use Rattle.block_mem.proofs.StoreLaws.{passing}
use Rattle.c_steps_laws.proofs.Values.{Has}

-- ---- the number of proper bytes is below the power of their count

one_more : (b m p : ℕ) → b < 256 → m < p → b + 256 * m < p * 256
one_more b m p h k = omega (arith, h, k)

-- a byte in front of others
first_byte : (made : ℕ) (b : Byte) (rest : Option ℕ) (x k : ℕ) → IsProper made b → ((m : ℕ) → rest ≡ Some m → m < 256 ^ k) → low_first b rest ≡ Some x → x < 256 ^ suc k
first_byte made Undef rest x k h below e = absurd (cc)
first_byte made (Frag q j) rest x k h below e = absurd (cc)
first_byte made (Num n) None x k h below e = absurd (cc)
first_byte made (Num n) (Some m) x k h below e =
    let same : n + 256 * m ≡ x = cc in
    subst (λ z. z < 256 ^ suc k) same (subst (λ z. n + 256 * m < z) (sym (pow-suc 256 k)) (one_more n m (256 ^ k) h (below m refl)))

number_below : (made : ℕ) (bs : List Byte) (x : ℕ) → AreProperBytes made bs → number_of bs ≡ Some x → x < 256 ^ length bs
number_below made [] x h e = let same : 0 ≡ x = cc in subst (λ z. z < 256 ^ 0) same (omega arith)
number_below made (b ∷ bs) x h e = first_byte made b (number_of bs) x (length bs) (h 0) (λ m f. number_below made bs m (λ q. h (suc q)) f) e

-- ---- values of types

has_number : (t : IntType) (x : ℕ) → x < 256 ^ byte_len (std_width t) → HasNumber t (number_in t x)
has_number ints.Char x h = sfits_to_z (record { fits = omega (arith, h) })
has_number ints.SChar x h = sfits_to_z (record { fits = omega (arith, h) })
has_number ints.Short x h = sfits_to_z (record { fits = omega (arith, h) })
has_number ints.Int x h = sfits_to_z (record { fits = omega (arith, h) })
has_number ints.Long x h = sfits_to_z (record { fits = omega (arith, h) })
has_number ints.LLong x h = sfits_to_z (record { fits = omega (arith, h) })
has_number ints.UChar x h = (omega (arith, numbers), omega (arith, numbers, h))
has_number ints.UShort x h = (omega (arith, numbers), omega (arith, numbers, h))
has_number ints.UInt x h = (omega (arith, numbers), omega (arith, numbers, h))
has_number ints.ULong x h = (omega (arith, numbers), omega (arith, numbers, h))
has_number ints.ULLong x h = (omega (arith, numbers), omega (arith, numbers, h))

int_value : (n : ℕ) (t : IntType) (o : Option ℕ) (v : Value) → ((x : ℕ) → o ≡ Some x → x < 256 ^ byte_len (std_width t))
    → option_map (λ m. values.Int t (number_in t m)) o ≡ Some v → Has n (scalars.Int t) v
int_value n t None v below e = absurd (cc)
int_value n t (Some x) v below e =
    let same : values.Int t (number_in t x) ≡ v = cc in
    subst (λ z. Has n (scalars.Int t) z) same (record { typed = (refl, has_number t x (below x refl)); made = tt })

null_if : (n : ℕ) (z : Bool) (v : Value) → (if z then Some values.Null else None) ≡ Some v → Has n scalars.Pointer v
null_if n true v e = let same : values.Null ≡ v = cc in subst (λ z. Has n scalars.Pointer z) same (record { typed = tt; made = tt })
null_if n false v e = absurd (cc)

null_value : (n : ℕ) (o : Option ℕ) (v : Value) → null_of o ≡ Some v → Has n scalars.Pointer v
null_value n None v e = absurd (cc)
null_value n (Some m) v e = null_if n (m == 0) v e

pointer_if : (n : ℕ) (q : Pointer) (z : Bool) (v : Value) → q.block < n → (if z then Some (values.Ptr q) else None) ≡ Some v → Has n scalars.Pointer v
pointer_if n q true v h e = let same : values.Ptr q ≡ v = cc in subst (λ z. Has n scalars.Pointer z) same (record { typed = tt; made = h })
pointer_if n q false v h e = absurd (cc)

pointer_value : (n : ℕ) (bs : List Byte) (v : Value) → AreProperBytes n bs → pointer_of bs ≡ Some v → Has n scalars.Pointer v
pointer_value n [] v h e = absurd (cc)
pointer_value n (Undef ∷ bs) v h e = absurd (cc)
pointer_value n (Num k ∷ bs) v h e = null_value n (number_of (Num k ∷ bs)) v e
pointer_value n (Frag q k ∷ bs) v h e = pointer_if n q (are_pieces q 0 (Frag q k ∷ bs)) v (h 0) e

value_has : (n : ℕ) (ty : Scalar) (bs : List Byte) (v : Value) → length bs ≡ size_of ty → AreProperBytes n bs → value_of ty bs ≡ Some v → Has n ty v
value_has n (scalars.Int t) bs v size h e =
    int_value n t (number_of bs) v (λ x f. subst (λ k. x < 256 ^ k) size (number_below n bs x h f)) e
value_has n scalars.Pointer bs v size h e = pointer_value n bs v h e

-- ---- loads

some_given : (o : Option Value) (v : Value) → ok_or o Fragment ≡ Ok v → o ≡ Some v
some_given None v e = absurd (cc)
some_given (Some u) v e = let same : u ≡ v = cc in ap (λ x. Some x) same

none_undefined : (z : Bool) (o : Option Value) (v : Value) → (if z then Err Indeterminate else ok_or o Fragment) ≡ Ok v → o ≡ Some v
none_undefined true o v e = absurd (cc)
none_undefined false o v e = some_given o v e

allowed : (w : Option WrongKind) (r : Result Value WrongKind) (v : Value) → after_access w r ≡ Ok v → (w ≡ None) × (r ≡ Ok v)
allowed None r v e = (refl, e)
allowed (Some k) r v e = absurd (cc)

pub loaded_is : (m : List BlockView) (p : Pointer) (ty : Scalar) (v : Value) → AreProper m → load m p ty ≡ Ok v → Has (length m) ty v
loaded_is m p ty v proper e =
    let a = allowed (wrong_access m p (size_of ty) (size_of ty) false) (loaded ty (bytes_at m p (size_of ty))) v e in
    let inside = (passing m p (size_of ty) (size_of ty) false a.0).inside in
    let bs = bytes_at m p (size_of ty) in
    value_has (length m) ty bs v (length-get (block_at m p.block).bytes (place p) (size_of ty) inside)
    (proper-part (length m) (block_at m p.block).bytes (place p) (size_of ty) (proper p.block)) (none_undefined (has_undef bs) (value_of ty bs) v a.1)
