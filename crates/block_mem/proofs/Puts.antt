-- Bytes that are put in among others, read and put in further.
use Rattle.std.proofs.Common.{ℕ, zero, suc, ◌≡◌, ◌+◌, ◌<◌, ◌≤◌, List, [], ◌∷◌, ◌++◌, length, drop, get_or, refl, sym, ap, ◌∙◌, arith, length-drop}
use Rattle.std.proofs.Math.ListN.{set}
use Rattle.std.proofs.lemmas.List.{get_or-take, get_or-drop, length-take-le}
use Rattle.block_mem.specs.declared.types.Byte.{Byte}
use Rattle.block_mem.specs.declared.types.Byte.TheVariants.{Undef}
use Rattle.block_mem.specs.Pieces.{by_place, get_bytes, put_bytes, taken_byte, taken}

pub put-none : (bs : List Byte) (at : ℕ) → put_bytes bs at [] ≡ bs
put-none [] at = refl
put-none (b ∷ bs) zero = refl
put-none (b ∷ bs) (suc at) = ap (λ r. b ∷ r) (put-none bs at)

pub length-put : (bs : List Byte) (at : ℕ) (new : List Byte) → length (put_bytes bs at new) ≡ length bs
length-put [] at new = refl
length-put (b ∷ bs) zero [] = refl
length-put (b ∷ bs) zero (n ∷ new) = ap suc (length-put bs zero new)
length-put (b ∷ bs) (suc at) new = ap suc (length-put bs at new)

-- one more byte behind those that were put in
pub put-more : (bs : List Byte) (at : ℕ) (new : List Byte) (y : Byte) → at + length new < length bs → set (put_bytes bs at new) (at + length new) y ≡ put_bytes bs at (new ++ y ∷ [])
put-more [] at new y h = absurd (omega arith)
put-more (b ∷ bs) zero [] y h = ap (λ r. y ∷ r) (sym (put-none bs zero))
put-more (b ∷ bs) zero (n ∷ new) y h =
    let e : 0 + length (n ∷ new) ≡ suc (0 + length new) = omega arith in
    ap (λ k. set (n ∷ put_bytes bs zero new) k y) e ∙ ap (λ r. n ∷ r) (put-more bs zero new y (omega arith))
put-more (b ∷ bs) (suc at) new y h =
    let e : suc at + length new ≡ suc (at + length new) = omega arith in
    ap (λ k. set (b ∷ put_bytes bs at new) k y) e ∙ ap (λ r. b ∷ r) (put-more bs at new y (omega arith))

-- one more byte in front of them
pub put-before : (bs : List Byte) (at : ℕ) (new : List Byte) (y : Byte) → at < length bs → set (put_bytes bs (suc at) new) at y ≡ put_bytes bs at (y ∷ new)
put-before [] at new y h = absurd (omega arith)
put-before (b ∷ bs) zero new y h = refl
put-before (b ∷ bs) (suc at) new y h = ap (λ r. b ∷ r) (put-before bs at new y (omega arith))

pub get-put_low : (bs : List Byte) (at : ℕ) (new : List Byte) (k : ℕ) (d : Byte) → k < at → get_or (put_bytes bs at new) k d ≡ get_or bs k d
get-put_low [] at new k d h = refl
get-put_low (b ∷ bs) zero new k d h = absurd (omega arith)
get-put_low (b ∷ bs) (suc at) new zero d h = refl
get-put_low (b ∷ bs) (suc at) new (suc k) d h = get-put_low bs at new k d (omega arith)

pub get-put_high : (bs : List Byte) (at : ℕ) (new : List Byte) (k : ℕ) (d : Byte) → at + length new ≤ k → get_or (put_bytes bs at new) k d ≡ get_or bs k d
get-put_high [] at new k d h = refl
get-put_high (b ∷ bs) zero [] k d h = refl
get-put_high (b ∷ bs) zero (n ∷ new) zero d h = absurd (omega arith)
get-put_high (b ∷ bs) zero (n ∷ new) (suc k) d h = get-put_high bs zero new k d (omega arith)
get-put_high (b ∷ bs) (suc at) new zero d h = absurd (omega arith)
get-put_high (b ∷ bs) (suc at) new (suc k) d h = get-put_high bs at new k d (omega arith)

pub length-by_place : (f : ℕ → Byte → Byte) (q : ℕ) (bs : List Byte) → length (by_place f q bs) ≡ length bs
length-by_place f q [] = refl
length-by_place f q (b ∷ bs) = ap suc (length-by_place f (suc q) bs)

pub get-by_place : (f : ℕ → Byte → Byte) (q : ℕ) (bs : List Byte) (i : ℕ) (d : Byte) → i < length bs → get_or (by_place f q bs) i d ≡ f (q + i) (get_or bs i d)
get-by_place f q [] i d h = absurd (omega arith)
get-by_place f q (b ∷ bs) zero d h = let e : q ≡ q + 0 = omega arith in ap (λ n. f n b) e
get-by_place f q (b ∷ bs) (suc i) d h = let e : suc q + i ≡ q + suc i = omega arith in get-by_place f (suc q) bs i d (omega arith) ∙ ap (λ n. f n (get_or bs i d)) e

pub length-get : (bs : List Byte) (at n : ℕ) → at + n ≤ length bs → length (get_bytes bs at n) ≡ n
length-get bs at n h = length-take-le n (drop at bs) (omega (arith, length-drop at bs))

pub length-taken : (bs : List Byte) (at n : ℕ) → at + n ≤ length bs → length (taken bs at n) ≡ n
length-taken bs at n h = length-by_place (taken_byte at n) at (get_bytes bs at n) ∙ length-get bs at n h

-- a byte of what a copy takes
pub get-taken : (bs : List Byte) (at n i : ℕ) → at + n ≤ length bs → i < n → get_or (taken bs at n) i Undef ≡ taken_byte at n (at + i) (get_or bs (at + i) Undef)
get-taken bs at n i h l =
    get-by_place (taken_byte at n) at (get_bytes bs at n) i Undef (omega (arith, length-get bs at n h))
    ∙ ap (taken_byte at n (at + i)) (get_or-take n (drop at bs) i Undef l ∙ get_or-drop at bs i Undef)
