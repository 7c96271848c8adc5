-- A store of 0 at a scalar type is one store of a byte 0 after the other.
use Rattle.std.proofs.Common.{◌≡◌, ◌⊎◌, inl, inr, ℕ, zero, suc, pos, ◌+◌, ◌-◌, ◌<◌, ◌≤◌, Bool, true, false, List, length, get_or, refl, sym, ap, ◌∙◌, subst, arith}
use Rattle.std.specs.Prelude.{◌||◌, if◌then◌else◌}
use Rattle.std.proofs.lemmas.Bool.{cases_lt, cases_eq}
use Rattle.std.proofs.lemmas.Bool.Decides.{nat_tests}
use Rattle.std.proofs.lemmas.List.{same_lists, get_or_default}
use Rattle.c_syntax_written.specs.declared.int_type.IntType.TheVariants as ints
use Rattle.block_mem.specs.declared.types.Byte.{Byte}
use Rattle.block_mem.specs.declared.types.Byte.TheVariants.{Undef, Num, Frag}
use Rattle.block_mem.specs.declared.types.Scalar.TheVariants as scalars
use Rattle.block_mem.specs.declared.types.Value.TheVariants as values
use Rattle.block_mem.specs.Block.{BlockView}
use Rattle.block_mem.specs.Blocks.{block_at, with_bytes, store}
use Rattle.block_mem.specs.Numbers.{low_bytes}
use Rattle.block_mem.specs.Pieces.{is_cut, cut_byte, stored}
use Rattle.block_mem.proofs.Copies.{bytes-same, with-with}
use Rattle.block_mem.proofs.Laws.{length-low_bytes, length-stored}
use Rattle.block_mem.proofs.Whole.{get-stored_out, get-stored_in}
use Rattle.lower_trees.specs.ZeroStores.{zeros_up, ZerosAreBytes}

get_zero : (n i : ℕ) → i < n → get_or (low_bytes n 0) i Undef ≡ Num 0
unfolding low_bytes
get_zero zero i h = absurd (omega (arith, h))
get_zero (suc n) zero h = refl
get_zero (suc n) (suc i) h = get_zero n i (omega (arith, h))

-- a place is cut by n + 1 bytes where it is by the first n or by the last
cut_either : (at n q k : ℕ) → (q < at) ⊎ (at + suc n ≤ q) → 0 < n → is_cut at (suc n) q k ≡ (is_cut at n q k || is_cut (at + n) 1 q k)
cut_either at n q k h pos' = grind (arith, nat_tests)

cut_if : (p : _) (k : ℕ) (a b c : Bool) → c ≡ (a || b) → (at n q : ℕ) → is_cut at n q k ≡ b → (if c then Undef else Frag p k) ≡ cut_byte at n q (if a then Undef else Frag p k)
cut_if p k true b c e at n q f = rw e refl
cut_if p k false b c e at n q f = rw e (rw f refl)

cut_then : (at n q : ℕ) (x : Byte) → (q < at) ⊎ (at + suc n ≤ q) → 0 < n → cut_byte at (suc n) q x ≡ cut_byte (at + n) 1 q (cut_byte at n q x)
cut_then at n q Undef h g = refl
cut_then at n q (Num m) h g = refl
cut_then at n q (Frag p k) h g = cut_if p k (is_cut at n q k) (is_cut (at + n) 1 q k) (is_cut at (suc n) q k) (cut_either at n q k h g) (at + n) 1 q refl

-- one zero more
one_more : (bs : List Byte) (at n : ℕ) → 0 < n → at + suc n ≤ length bs → stored bs at (low_bytes (suc n) 0) ≡ stored (stored bs at (low_bytes n 0)) (at + n) (low_bytes 1 0)
one_more bs at n g h =
    let long : length (low_bytes (suc n) 0) ≡ suc n = length-low_bytes (suc n) 0 in
    let short : length (low_bytes n 0) ≡ n = length-low_bytes n 0 in
    let single : length (low_bytes 1 0) ≡ 1 = length-low_bytes 1 0 in
    let first : length (stored bs at (low_bytes n 0)) ≡ length bs = length-stored bs at (low_bytes n 0) in
    let out : (q : ℕ) → (q < at) ⊎ (at + suc n ≤ q)
    → get_or (stored bs at (low_bytes (suc n) 0)) q Undef ≡ get_or (stored (stored bs at (low_bytes n 0)) (at + n) (low_bytes 1 0)) q Undef = λ q o.
    get-stored_out bs at (low_bytes (suc n) 0) q (subst (λ z. (q < at) ⊎ (at + z ≤ q)) (sym long) o)
    ∙ ap (λ z. cut_byte at z q (get_or bs q Undef)) long
    ∙ cut_then at n q (get_or bs q Undef) o g
    ∙ sym (get-stored_out (stored bs at (low_bytes n 0)) (at + n) (low_bytes 1 0) q (elim o [ inl low ↦ inl (omega (arith, low)) | inr high ↦ inr (omega (arith, single, high)) ])
    ∙ ap (λ z. cut_byte (at + n) z q (get_or (stored bs at (low_bytes n 0)) q Undef)) single
    ∙ ap (cut_byte (at + n) 1 q) (get-stored_out bs at (low_bytes n 0) q (elim o [ inl low ↦ inl low | inr high ↦ inr (omega (arith, short, high)) ])
    ∙ ap (λ z. cut_byte at z q (get_or bs q Undef)) short)) in
    let inside : (i : ℕ) → i < n → get_or (stored bs at (low_bytes (suc n) 0)) (at + i) Undef ≡ get_or (stored (stored bs at (low_bytes n 0)) (at + n) (low_bytes 1 0)) (at + i) Undef = λ i l.
    get-stored_in bs at (low_bytes (suc n) 0) i (omega (arith, long, h)) (omega (arith, long, l)) ∙ get_zero (suc n) i (omega (arith, l))
    ∙ sym (get-stored_out (stored bs at (low_bytes n 0)) (at + n) (low_bytes 1 0) (at + i) (inl (omega (arith, l)))
    ∙ ap (cut_byte (at + n) (length (low_bytes 1 0)) (at + i)) (get-stored_in bs at (low_bytes n 0) i (omega (arith, short, h)) (omega (arith, short, l)) ∙ get_zero n i l)) in
    let last : get_or (stored bs at (low_bytes (suc n) 0)) (at + n) Undef ≡ get_or (stored (stored bs at (low_bytes n 0)) (at + n) (low_bytes 1 0)) (at + n) Undef =
    get-stored_in bs at (low_bytes (suc n) 0) n (omega (arith, long, h)) (omega (arith, long)) ∙ get_zero (suc n) n (omega arith)
    ∙ sym (ap (λ z. get_or (stored (stored bs at (low_bytes n 0)) (at + n) (low_bytes 1 0)) z Undef) (omega arith)
    ∙ get-stored_in (stored bs at (low_bytes n 0)) (at + n) (low_bytes 1 0) 0 (omega (arith, single, first, h)) (omega (arith, single)) ∙ get_zero 1 0 (omega arith)) in
    let whole : (q : ℕ) → get_or (stored bs at (low_bytes (suc n) 0)) q Undef ≡ get_or (stored (stored bs at (low_bytes n 0)) (at + n) (low_bytes 1 0)) q Undef = λ q.
    elim (cases_lt q at) [
      | inl low ↦ out q (inl low)
      | inr from ↦ elim (cases_lt q (at + n)) [
        | inl below ↦
            let i : at + (q - at) ≡ q = omega (arith, from) in
            subst (λ z. get_or (stored bs at (low_bytes (suc n) 0)) z Undef ≡ get_or (stored (stored bs at (low_bytes n 0)) (at + n) (low_bytes 1 0)) z Undef) i (inside (q - at) (omega (arith, from, below)))
        | inr past ↦ elim (cases_eq q (at + n)) [
          | inl e ↦ subst (λ z. get_or (stored bs at (low_bytes (suc n) 0)) z Undef ≡ get_or (stored (stored bs at (low_bytes n 0)) (at + n) (low_bytes 1 0)) z Undef) (sym e) last
          | inr ne ↦ out q (inr (omega (arith, past, ne)))
        ]
      ]
    ] in
    let second : length (stored (stored bs at (low_bytes n 0)) (at + n) (low_bytes 1 0)) ≡ length bs = length-stored (stored bs at (low_bytes n 0)) (at + n) (low_bytes 1 0) ∙ first in
    let all : length (stored bs at (low_bytes (suc n) 0)) ≡ length bs = length-stored bs at (low_bytes (suc n) 0) in
    same_lists _ _ (all ∙ sym second) (λ k d l. get_or_default (stored bs at (low_bytes (suc n) 0)) k d Undef l ∙ whole k
    ∙ sym (get_or_default (stored (stored bs at (low_bytes n 0)) (at + n) (low_bytes 1 0)) k d Undef (omega (arith, l, all, second))))

-- so many bytes 0 from one on, one by one
zeros_are : (m : List BlockView) (b k n : ℕ) → b < length m → k + suc n ≤ length (block_at m b).bytes
    → with_bytes m b (stored (block_at m b).bytes k (low_bytes (suc n) 0)) ≡ zeros_up b k (suc n) m
zeros_are m b k zero made h =
    let e : k ≡ k + 0 = omega arith in
    ap (λ z. with_bytes m b (stored (block_at m b).bytes z (low_bytes 1 0))) e
zeros_are m b k (suc n) made h =
    let r = zeros_are m b k n made (omega (arith, h)) in
    let bs = stored (block_at m b).bytes k (low_bytes (suc n) 0) in
    ap (with_bytes m b) (one_more (block_at m b).bytes k (suc n) (omega arith) h)
    ∙ sym (with-with m b bs (stored bs (k + suc n) (low_bytes 1 0)) made)
    ∙ ap (λ z. with_bytes (with_bytes m b bs) b (stored z (k + suc n) (low_bytes 1 0))) (sym (bytes-same m b bs made))
    ∙ ap (λ z. store z (record { block = b; offset = pos (k + suc n) }) (values.Int ints.UChar (pos 0))) r

pub zeros_are_bytes : ZerosAreBytes
zeros_are_bytes m b k (scalars.Int ints.Char) made h = zeros_are m b k 0 made h
zeros_are_bytes m b k (scalars.Int ints.SChar) made h = zeros_are m b k 0 made h
zeros_are_bytes m b k (scalars.Int ints.UChar) made h = zeros_are m b k 0 made h
zeros_are_bytes m b k (scalars.Int ints.Short) made h = zeros_are m b k 1 made h
zeros_are_bytes m b k (scalars.Int ints.UShort) made h = zeros_are m b k 1 made h
zeros_are_bytes m b k (scalars.Int ints.Int) made h = zeros_are m b k 3 made h
zeros_are_bytes m b k (scalars.Int ints.UInt) made h = zeros_are m b k 3 made h
zeros_are_bytes m b k (scalars.Int ints.Long) made h = zeros_are m b k 7 made h
zeros_are_bytes m b k (scalars.Int ints.ULong) made h = zeros_are m b k 7 made h
zeros_are_bytes m b k (scalars.Int ints.LLong) made h = zeros_are m b k 7 made h
zeros_are_bytes m b k (scalars.Int ints.ULLong) made h = zeros_are m b k 7 made h
zeros_are_bytes m b k scalars.Pointer made h = zeros_are m b k 7 made h
