-- Bytes of a cell after a write elsewhere.
use Rattle.std.proofs.Common.{ℕ, zero, suc, ◌≡◌, ◌+◌, ◌≤◌, false, List, [], ◌∷◌, length, take, drop, replicate, Option, Some, None, refl, sym, ap, ◌∙◌, arith, inl, inr, cond}
use Rattle.std.proofs.lemmas.Bool.Decides.{nat_tests}
use Rattle.block_mem.specs.declared.types.Byte.{Byte}
use Rattle.block_mem.specs.declared.types.Byte.TheVariants.{Undef, Num, Frag}
use Rattle.block_mem.specs.declared.types.Pointer.{Pointer}
use Rattle.block_mem.specs.Numbers.{number_of, low_first}
use Rattle.mem_cell_bytes.specs.Stores.{AreBeside}
use Rattle.block_mem.specs.Pieces.{pieces, by_place, is_cut, cut_byte, cut, get_bytes, put_bytes, stored}

drop-by_place : (f : ℕ → Byte → Byte) (q k : ℕ) (bs : List Byte) → drop k (by_place f q bs) ≡ by_place f (q + k) (drop k bs)
drop-by_place f q zero bs = let e : q ≡ q + 0 = omega arith in ap (λ n. by_place f n bs) e
drop-by_place f q (suc k) [] = refl
drop-by_place f q (suc k) (b ∷ bs) = let e : suc q + k ≡ q + suc k = omega arith in drop-by_place f (suc q) k bs ∙ ap (λ n. by_place f n (drop k bs)) e

take-by_place : (f : ℕ → Byte → Byte) (q k : ℕ) (bs : List Byte) → take k (by_place f q bs) ≡ by_place f q (take k bs)
take-by_place f q zero bs = refl
take-by_place f q (suc k) [] = refl
take-by_place f q (suc k) (b ∷ bs) = ap (λ r. f q b ∷ r) (take-by_place f (suc q) k bs)

pub get-cut : (bs : List Byte) (at n off k : ℕ) → get_bytes (cut bs at n) off k ≡ by_place (cut_byte at n) off (get_bytes bs off k)
get-cut bs at n off k =
    let e : 0 + off ≡ off = omega arith in
    ap (take k) (drop-by_place (cut_byte at n) 0 off bs) ∙ take-by_place (cut_byte at n) (0 + off) k (drop off bs) ∙ ap (λ q. by_place (cut_byte at n) q (get_bytes bs off k)) e

take-put : (bs : List Byte) (at k : ℕ) (new : List Byte) → k ≤ at → take k (put_bytes bs at new) ≡ take k bs
take-put bs at zero new h = refl
take-put [] at (suc k) new h = refl
take-put (b ∷ bs) zero (suc k) new h = absurd (omega arith)
take-put (b ∷ bs) (suc at) (suc k) new h = ap (λ r. b ∷ r) (take-put bs at k new (omega arith))

get-put_low : (bs : List Byte) (at off k : ℕ) (new : List Byte) → off + k ≤ at → get_bytes (put_bytes bs at new) off k ≡ get_bytes bs off k
get-put_low bs at zero k new h = take-put bs at k new (omega arith)
get-put_low [] at (suc off) k new h = refl
get-put_low (b ∷ bs) zero (suc off) k new h = absurd (omega arith)
get-put_low (b ∷ bs) (suc at) (suc off) k new h = get-put_low bs at off k new (omega arith)

drop-put : (bs : List Byte) (at off : ℕ) (new : List Byte) → at + length new ≤ off → drop off (put_bytes bs at new) ≡ drop off bs
drop-put [] at off new h = refl
drop-put (b ∷ bs) zero off [] h = refl
drop-put (b ∷ bs) zero zero (n ∷ new) h = absurd (omega arith)
drop-put (b ∷ bs) zero (suc off) (n ∷ new) h = drop-put bs zero off new (omega arith)
drop-put (b ∷ bs) (suc at) zero new h = absurd (omega arith)
drop-put (b ∷ bs) (suc at) (suc off) new h = drop-put bs at off new (omega arith)

get-put_clear : (bs : List Byte) (at off k : ℕ) (new : List Byte) → AreBeside off k at (length new) → get_bytes (put_bytes bs at new) off k ≡ get_bytes bs off k
get-put_clear bs at off k new (inl low) = get-put_low bs at off k new low
get-put_clear bs at off k new (inr high) = ap (take k) (drop-put bs at off new high)

-- what a write leaves elsewhere
pub get-stored_clear : (bs : List Byte) (at : ℕ) (new : List Byte) (off k : ℕ) → AreBeside off k at (length new)
    → get_bytes (stored bs at new) off k ≡ by_place (cut_byte at (length new)) off (get_bytes bs off k)
get-stored_clear bs at new off k h = get-cut (put_bytes bs at new) at (length new) off k ∙ ap (by_place (cut_byte at (length new)) off) (get-put_clear bs at off k new h)

-- ---- bytes that no cut changes

pub cut-blank : (at n q k : ℕ) → by_place (cut_byte at n) q (replicate k Undef) ≡ replicate k Undef
cut-blank at n q zero = refl
cut-blank at n q (suc k) = ap (λ r. Undef ∷ r) (cut-blank at n (suc q) k)

low-number : (b : Byte) (rest : Option ℕ) (m : ℕ) → low_first b rest ≡ Some m → (d : ℕ) × (k : ℕ) × (b ≡ Num d) × (rest ≡ Some k)
low-number Undef rest m h = cc
low-number (Num d) None m h = cc
low-number (Num d) (Some k) m h = (d, k, refl, refl)
low-number (Frag p j) rest m h = cc

pub cut-number : (at n q : ℕ) (bs : List Byte) (m : ℕ) → number_of bs ≡ Some m → by_place (cut_byte at n) q bs ≡ bs
cut-number at n q [] m h = refl
cut-number at n q (b ∷ bs) m h =
    let l = low-number b (number_of bs) m h in
    ap (λ r. cut_byte at n q b ∷ r) (cut-number at n (suc q) bs l.1 l.3) ∙ ap (λ x. x ∷ bs) (ap (cut_byte at n q) l.2 ∙ sym l.2)

uncut : (at n start j : ℕ) → AreBeside start 8 at n → is_cut at n (start + j) j ≡ false
uncut at n start j (inl low) = grind (arith, nat_tests)
uncut at n start j (inr high) = grind (arith, nat_tests)

pub cut-pieces : (at n start : ℕ) (p : Pointer) (j k : ℕ) → AreBeside start 8 at n → by_place (cut_byte at n) (start + j) (pieces p j k) ≡ pieces p j k
unfolding pieces
cut-pieces at n start p j zero h = refl
cut-pieces at n start p j (suc k) h =
    let e : suc (start + j) ≡ start + suc j = omega arith in
    ap (λ x. cond x Undef (Frag p j) ∷ by_place (cut_byte at n) (suc (start + j)) (pieces p (suc j) k)) (uncut at n start j h)
    ∙ ap (λ r. Frag p j ∷ r) (ap (λ q. by_place (cut_byte at n) q (pieces p (suc j) k)) e ∙ cut-pieces at n start p (suc j) k h)
