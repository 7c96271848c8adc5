-- The number of a type that is another modulo 2 to its width, from the remainder.
use Rattle.std.proofs.Common.{◌≡◌, ℕ, suc, ◌-◌, ◌^◌, ◌%◌, ◌<◌, ◌≤◌, ℤ, pos, negsuc, ◌-ℤ◌, ◌<ℤ◌, ◌≤ℤ◌, to_z, refl, sym, ap, subst, ◌∙◌, arith}
use Rattle.std.specs.Int.{Width, w8, w16, w32, w64, int_wrap, int_rem_euclid}
use Rattle.std.proofs.lemmas.Int.{ints, to_z_pos}
use Rattle.std.proofs.lemmas.Bool.{le-ltb}
use mir.Val.{bits, hbits}
use Rattle.c_syntax_written.specs.declared.int_type.IntType.{IntType}
use Rattle.c_syntax_written.specs.declared.int_type.IntType.TheVariants.{Char, SChar, UChar, Short, UShort, Int, UInt, Long, ULong, LLong, ULLong}
use Rattle.c_syntax_written.specs.Integer.{width, greatest, wrapped}

-- a remainder is a natural number below the divisor
remainder_is : (n : ℤ) (d : ℕ) → 0 < d → (m : ℕ) × (int_rem_euclid n (pos d) ≡ pos m) × (m < d)
remainder_is (pos a) d h = (a % d, refl, omega arith)
remainder_is (negsuc a) d h = (d - 1 - a % d, refl, omega arith)

below_zero : (m d : ℕ) → m < d → negsuc (d - suc m) ≡ pos m -ℤ pos d
below_zero m d h = omega (arith, ints)

upper_half : (w : Width) (m : ℕ) → 2 ^ hbits w ≤ m → m < 2 ^ bits w → to_z w m ≡ pos m -ℤ pos (2 ^ bits w)
upper_half w m h k = rw (le-ltb m (2 ^ hbits w) h) (below_zero m (2 ^ bits w) k)

wrap-lower : (w : Width) (n : ℤ) (m : ℕ) → int_rem_euclid n (pos (2 ^ bits w)) ≡ pos m → m < 2 ^ hbits w → int_wrap w n ≡ pos m
unfolding int_wrap
wrap-lower w n m e h = rw e (to_z_pos w m h)

wrap-upper : (w : Width) (n : ℤ) (m : ℕ) → int_rem_euclid n (pos (2 ^ bits w)) ≡ pos m → 2 ^ hbits w ≤ m → m < 2 ^ bits w → int_wrap w n ≡ pos m -ℤ pos (2 ^ bits w)
unfolding int_wrap
wrap-upper w n m e h k = rw e (upper_half w m h k)

wrapped-lower : (t : IntType) (n : ℤ) (m : ℕ) → int_rem_euclid n (pos (2 ^ width t)) ≡ pos m → m ≤ greatest t → wrapped t n ≡ pos m
wrapped-lower Char n m e h = wrap-lower w8 n m e (omega arith)
wrapped-lower SChar n m e h = wrap-lower w8 n m e (omega arith)
wrapped-lower UChar n m e h = e
wrapped-lower Short n m e h = wrap-lower w16 n m e (omega arith)
wrapped-lower UShort n m e h = e
wrapped-lower Int n m e h = wrap-lower w32 n m e (omega arith)
wrapped-lower UInt n m e h = e
wrapped-lower Long n m e h = wrap-lower w64 n m e (omega arith)
wrapped-lower ULong n m e h = e
wrapped-lower LLong n m e h = wrap-lower w64 n m e (omega arith)
wrapped-lower ULLong n m e h = e

wrapped-upper : (t : IntType) (n : ℤ) (m : ℕ) → int_rem_euclid n (pos (2 ^ width t)) ≡ pos m → greatest t < m → m < 2 ^ width t → wrapped t n ≡ pos m -ℤ pos (2 ^ width t)
wrapped-upper Char n m e h k = wrap-upper w8 n m e (omega arith) k
wrapped-upper SChar n m e h k = wrap-upper w8 n m e (omega arith) k
wrapped-upper UChar n m e h k = absurd (omega arith)
wrapped-upper Short n m e h k = wrap-upper w16 n m e (omega arith) k
wrapped-upper UShort n m e h k = absurd (omega arith)
wrapped-upper Int n m e h k = wrap-upper w32 n m e (omega arith) k
wrapped-upper UInt n m e h k = absurd (omega arith)
wrapped-upper Long n m e h k = wrap-upper w64 n m e (omega arith) k
wrapped-upper ULong n m e h k = absurd (omega arith)
wrapped-upper LLong n m e h k = wrap-upper w64 n m e (omega arith) k
wrapped-upper ULLong n m e h k = absurd (omega arith)

some_number : (t : IntType) → 0 < 2 ^ width t
some_number Char = omega arith
some_number SChar = omega arith
some_number UChar = omega arith
some_number Short = omega arith
some_number UShort = omega arith
some_number Int = omega arith
some_number UInt = omega arith
some_number Long = omega arith
some_number ULong = omega arith
some_number LLong = omega arith
some_number ULLong = omega arith

-- a remainder that the type has is the number
pub wrapped_has : (t : IntType) (n low count : ℤ) (top : ℕ) → low ≡ int_rem_euclid n count → count ≡ pos (2 ^ width t) → top ≡ greatest t → low ≤ℤ pos top → wrapped t n ≡ low
wrapped_has t n low count top e k g h =
    let r = remainder_is n (2 ^ width t) (some_number t) in
    let is : low ≡ pos r.0 = e ∙ ap (int_rem_euclid n) k ∙ r.1 in
    let small : r.0 ≤ top = omega (arith, ints, is, h) in
    let below : r.0 ≤ greatest t = subst (λ x. r.0 ≤ x) g small in
    wrapped-lower t n r.0 r.1 below ∙ sym is

-- one that it has not is too great by as many numbers as it has
pub wrapped_past : (t : IntType) (n low count : ℤ) (top : ℕ) → low ≡ int_rem_euclid n count → count ≡ pos (2 ^ width t) → top ≡ greatest t → pos top <ℤ low → wrapped t n ≡ low -ℤ count
wrapped_past t n low count top e k g h =
    let r = remainder_is n (2 ^ width t) (some_number t) in
    let is : low ≡ pos r.0 = e ∙ ap (int_rem_euclid n) k ∙ r.1 in
    let great : top < r.0 = omega (arith, ints, is, h) in
    let above : greatest t < r.0 = subst (λ x. x < r.0) g great in
    wrapped-upper t n r.0 r.1 above r.2 ∙ ap (λ m. m -ℤ pos (2 ^ width t)) (sym is) ∙ ap (λ d. low -ℤ d) (sym k)
