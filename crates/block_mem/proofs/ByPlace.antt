-- Bytes that are made anew one after another, and bytes that are put in.
use Rattle.std.proofs.Common.{ℕ, zero, suc, ◌≡◌, ◌+◌, ◌-◌, ◌<◌, ◌≤◌, false, List, [], ◌∷◌, ◌++◌, length, take, drop, get_or, refl, sym, ap, ◌∙◌, arith}
use Rattle.std.proofs.Math.ListN.{set}
use Rattle.block_mem.specs.declared.types.Byte.{Byte}
use Rattle.block_mem.specs.declared.types.Byte.TheVariants.{Undef, Num, Frag}
use Rattle.block_mem.specs.Pieces.{by_place, is_cut, cut_byte, put_bytes}

-- the first m bytes made anew, the first being at place q
abbrev pub made : (ℕ → Byte → Byte) → ℕ → ℕ → List Byte → List Byte
made f q zero bs = bs
made f q (suc m) [] = []
made f q (suc m) (b ∷ bs) = f q b ∷ made f (suc q) m bs

made-set : (f : ℕ → Byte → Byte) (q m : ℕ) (bs : List Byte) (d : Byte) → m < length bs → set (made f q m bs) m (f (q + m) (get_or bs m d)) ≡ made f q (suc m) bs
made-set f q m [] d h = absurd (omega arith)
made-set f q zero (b ∷ bs) d h = let e : q + 0 ≡ q = omega arith in ap (λ n. f n b ∷ bs) e
made-set f q (suc m) (b ∷ bs) d h =
    let e : q + suc m ≡ suc q + m = omega arith in
    ap (λ r. f q b ∷ r) (ap (λ n. set (made f (suc q) m bs) m (f n (get_or bs m d))) e ∙ made-set f (suc q) m bs d (omega arith))

get-made : (f : ℕ → Byte → Byte) (q m : ℕ) (bs : List Byte) (d : Byte) → get_or (made f q m bs) m d ≡ get_or bs m d
get-made f q zero bs d = refl
get-made f q (suc m) [] d = refl
get-made f q (suc m) (b ∷ bs) d = get-made f (suc q) m bs d

pub length-made : (f : ℕ → Byte → Byte) (q m : ℕ) (bs : List Byte) → length (made f q m bs) ≡ length bs
length-made f q zero bs = refl
length-made f q (suc m) [] = refl
length-made f q (suc m) (b ∷ bs) = ap suc (length-made f (suc q) m bs)

-- one more byte is made
pub made_more : (f : ℕ → Byte → Byte) (m : ℕ) (bs : List Byte) (d : Byte) → m < length bs → set (made f 0 m bs) m (f m (get_or (made f 0 m bs) m d)) ≡ made f 0 (m + 1) bs
made_more f m bs d h =
    let e : 0 + m ≡ m = omega arith in
    let s : suc m ≡ m + 1 = omega arith in
    ap (λ b. set (made f 0 m bs) m (f m b)) (get-made f 0 m bs d)
    ∙ ap (λ n. set (made f 0 m bs) m (f n (get_or bs m d))) (sym e)
    ∙ made-set f 0 m bs d h
    ∙ ap (λ n. made f 0 n bs) s

-- bytes before the first that changes need not be made
pub made-still : (f : ℕ → Byte → Byte) (q m : ℕ) (bs : List Byte) → ((p : ℕ) (b : Byte) → p < q + m → f p b ≡ b) → made f q m bs ≡ bs
made-still f q zero bs h = refl
made-still f q (suc m) [] h = refl
made-still f q (suc m) (b ∷ bs) h = ap (λ x. x ∷ made f (suc q) m bs) (h q b (omega arith)) ∙ ap (λ r. b ∷ r) (made-still f (suc q) m bs (λ p x l. h p x (omega arith)))

-- nor those after the last one
pub made-all : (f : ℕ → Byte → Byte) (q m : ℕ) (bs : List Byte) → ((p : ℕ) (b : Byte) → q + m ≤ p → p < q + length bs → f p b ≡ b) → made f q m bs ≡ by_place f q bs
made-all f q zero [] h = refl
made-all f q (suc m) [] h = refl
made-all f q zero (b ∷ bs) h = ap (λ x. x ∷ bs) (sym (h q b (omega arith) (omega arith))) ∙ ap (λ r. f q b ∷ r) (made-all f (suc q) zero bs (λ p x l u. h p x (omega arith) (omega arith)))
made-all f q (suc m) (b ∷ bs) h = ap (λ r. f q b ∷ r) (made-all f (suc q) m bs (λ p x l u. h p x (omega arith) (omega arith)))

is_cut-before : (at n q k : ℕ) → q < at - 7 → is_cut at n q k ≡ false
is_cut-before at n q k h = grind arith

is_cut-after : (at n q k : ℕ) → at + n + 7 ≤ q → is_cut at n q k ≡ false
is_cut-after at n q k h = grind arith

-- bytes that are far from the overwritten ones stay
pub cut_byte-before : (at n q : ℕ) (b : Byte) → q < at - 7 → cut_byte at n q b ≡ b
cut_byte-before at n q Undef h = refl
cut_byte-before at n q (Num m) h = refl
cut_byte-before at n q (Frag p k) h = rw (is_cut-before at n q k h)

pub cut_byte-after : (at n q : ℕ) (b : Byte) → at + n + 7 ≤ q → cut_byte at n q b ≡ b
cut_byte-after at n q Undef h = refl
cut_byte-after at n q (Num m) h = refl
cut_byte-after at n q (Frag p k) h = rw (is_cut-after at n q k h)

-- new bytes in the midst of others
pub put-split : (bs : List Byte) (at : ℕ) (new : List Byte) → at + length new ≤ length bs → take at bs ++ (new ++ drop (length new) (drop at bs)) ≡ put_bytes bs at new
put-split [] zero [] h = refl
put-split [] zero (n ∷ new) h = absurd (omega arith)
put-split [] (suc at) new h = absurd (omega arith)
put-split (b ∷ bs) zero [] h = refl
put-split (b ∷ bs) zero (n ∷ new) h = ap (λ r. n ∷ r) (put-split bs zero new (omega arith))
put-split (b ∷ bs) (suc at) new h = ap (λ r. b ∷ r) (put-split bs at new (omega arith))
