-- Where pointers are whole, a cut by places is one by contents, and writes leave them whole.
use Rattle.std.proofs.Common.{ℕ, zero, suc, ◌≡◌, ◌+◌, ◌-◌, ◌<◌, ◌≤◌, max, Bool, true, false, cond, not, ◌&&◌, ◌⊎◌, inl, inr, List, [], ◌∷◌, ◌++◌, length, replicate, drop, get_or, refl, sym, subst, ap, ◌∙◌, arith}
use Rattle.std.specs.Prelude.{◌/◌, None, nat_lt}
use Rattle.std.proofs.lemmas.Bool.{cases_lt, cases_eq}
use Rattle.std.proofs.lemmas.Bool.Decides.{nat_tests}
use Rattle.std.proofs.lemmas.List.{get_or_past, get_or-take, get_or-drop, get_or-set_same, get_or-set_other, get_or-replicate, get_or_append_left, length-replicate, length-append}
use Rattle.std.proofs.Math.Seq.{get_or-append_seam}
use Rattle.std.proofs.Math.ListN.{set}
use Rattle.block_mem.specs.declared.types.Byte.{Byte}
use Rattle.block_mem.specs.declared.types.Byte.TheVariants.{Undef, Num, Frag}
use Rattle.block_mem.specs.declared.types.Pointer.{Pointer}
use Rattle.block_mem.specs.declared.types.Value.{Value}
use Rattle.block_mem.specs.declared.types.Value.TheVariants as values
use Rattle.block_mem.specs.declared.types.Scalar.{Scalar}
use Rattle.c_syntax_written.specs.Integer.{std_width}
use Rattle.std.specs.Int.{byte_len}
use Rattle.block_mem.specs.Numbers.{bits_in, low_bytes}
use Rattle.block_mem.specs.Pieces.{pieces, is_cut, cut_byte, cut, is_whole, taken_byte, taken, put_bytes, stored}
use Rattle.block_mem.specs.Bytes.{size_of, IsOf, bytes_of}
use Rattle.block_mem.specs.Block.{BlockView}
use Rattle.block_mem.specs.Blocks.{no_block, block_at, with_bytes, place, wrong_access, store, copy}
use Rattle.block_mem.specs.Whole.{HoldsPiece, HoldsAll, PointersAreWhole, IsOutside, IsLost, IsLeft, AreWhole, KeepsWhole}
use Rattle.block_mem.proofs.Puts.{length-by_place, get-by_place, get-put_low, get-put_high, length-taken, get-taken}
use Rattle.block_mem.proofs.Laws.{length-pieces, length-value, get-stored}
use Rattle.block_mem.proofs.Copies.{block-other, bytes-same}
use Rattle.block_mem.proofs.StoreLaws.{inside_access}

-- ---- places

-- some of the eight places from `start` on are among the n places from `at` on
abbrev Meets : ℕ → ℕ → ℕ → Type 0
Meets at n start = (0 < n) × (at < start + 8) × (start < at + n)

-- none of them is
abbrev IsApart : ℕ → ℕ → ℕ → Type 0
IsApart at n start = (n ≡ 0) ⊎ (start + 8 ≤ at) ⊎ (at + n ≤ start)

cut_where : (at n q k : ℕ) → k < 8 → IsOutside at n q → at + k < q + 8 → q < at + n + k → 0 < n → is_cut at n q k ≡ true
cut_where at n q k piece (inl low) from to some = grind (arith, nat_tests)
cut_where at n q k piece (inr high) from to some = grind (arith, nat_tests)

cut-outside : (at n q k : ℕ) → is_cut at n q k ≡ true → IsOutside at n q
cut-outside at n q k h = grind (arith, nat_tests)

cut-piece : (at n q k : ℕ) → is_cut at n q k ≡ true → k < 8
cut-piece at n q k h = grind (arith, nat_tests)

cut-meets : (at n q k start : ℕ) → start + k ≡ q → is_cut at n q k ≡ true → Meets at n start
cut-meets at n q k start e h = (grind (arith, nat_tests), grind (arith, nat_tests), grind (arith, nat_tests))

uncut-apart : (at n q k start : ℕ) → k < 8 → start + k ≡ q → IsOutside at n q → is_cut at n q k ≡ false → IsApart at n start
uncut-apart at n q k start piece e (inl low) h = grind (arith, nat_tests)
uncut-apart at n q k start piece e (inr high) h = grind (arith, nat_tests)

apart-uncut : (at n start j : ℕ) → IsApart at n start → is_cut at n (start + j) j ≡ false
apart-uncut at n start j (inl none) = grind (arith, nat_tests)
apart-uncut at n start j (inr (inl low)) = grind (arith, nat_tests)
apart-uncut at n start j (inr (inr high)) = grind (arith, nat_tests)

apart-outside : (at n start j : ℕ) → IsApart at n start → j < 8 → IsOutside at n (start + j)
apart-outside at n start j (inl none) l = elim (cases_lt (start + j) at) [ inl low ↦ inl low | inr high ↦ inr (omega arith) ]
apart-outside at n start j (inr (inl low)) l = inl (omega arith)
apart-outside at n start j (inr (inr high)) l = inr (omega arith)

-- ---- bytes

there : (bs : List Byte) (q k : ℕ) (p : Pointer) → get_or bs q Undef ≡ Frag p k → q < length bs
there bs q k p e = elim (cases_lt q (length bs)) [
  | inl inside ↦ inside
  | inr past ↦ let none : get_or bs q Undef ≡ Undef = get_or_past bs q Undef past in absurd (cc)
]

-- the byte of a place after a cut, also past the end
get-cut : (bs : List Byte) (at n q : ℕ) → get_or (cut bs at n) q Undef ≡ cut_byte at n q (get_or bs q Undef)
get-cut bs at n q = elim (cases_lt q (length bs)) [
  | inl inside ↦ let z : 0 + q ≡ q = omega arith in get-by_place (cut_byte at n) 0 bs q Undef inside ∙ ap (λ x. cut_byte at n x (get_or bs q Undef)) z
  | inr past ↦
      let same : length (cut bs at n) ≡ length bs = length-by_place (cut_byte at n) 0 bs in
      get_or_past (cut bs at n) q Undef (omega arith) ∙ ap (cut_byte at n q) (sym (get_or_past bs q Undef past))
]

get-put_outside : (bs : List Byte) (at : ℕ) (new : List Byte) (q : ℕ) → IsOutside at (length new) q → get_or (put_bytes bs at new) q Undef ≡ get_or bs q Undef
get-put_outside bs at new q (inl low) = get-put_low bs at new q Undef low
get-put_outside bs at new q (inr high) = get-put_high bs at new q Undef high

pub get-stored_out : (bs : List Byte) (at : ℕ) (new : List Byte) (q : ℕ) → IsOutside at (length new) q → get_or (stored bs at new) q Undef ≡ cut_byte at (length new) q (get_or bs q Undef)
get-stored_out bs at new q outside = get-cut (put_bytes bs at new) at (length new) q ∙ ap (cut_byte at (length new) q) (get-put_outside bs at new q outside)

pub get-stored_in : (bs : List Byte) (at : ℕ) (new : List Byte) (i : ℕ) → at + length new ≤ length bs → i < length new → get_or (stored bs at new) (at + i) Undef ≡ get_or new i Undef
get-stored_in bs at new i h l =
    sym (get_or-take (length new) (drop at (stored bs at new)) i Undef l ∙ get_or-drop at (stored bs at new) i Undef)
    ∙ ap (λ x. get_or x i Undef) (get-stored bs at new h)

-- ---- what is lost is what is cut

lost_is_cut : (bs : List Byte) (at n q : ℕ) → IsLost bs at n q → cut_byte at n q (get_or bs q Undef) ≡ Undef
lost_is_cut bs at n q lost =
    let k = lost.piece in
    let part = lost.part in
    let test : is_cut at n q k ≡ true = cut_where at n q k lost.holds.0 lost.outside (omega (arith, part.holds.0)) (omega arith) (omega arith) in
    ap (cut_byte at n q) lost.holds.1 ∙ ap (λ t. cond t Undef (Frag lost.pointer k)) test

cut_is_lost : (bs : List Byte) → PointersAreWhole bs → (at n q k : ℕ) (p : Pointer) → get_or bs q Undef ≡ Frag p k → is_cut at n q k ≡ true → IsLost bs at n q
cut_is_lost bs is at n q k p e h =
    let piece = cut-piece at n q k h in
    let w = is.whole q k p (piece, e) in
    let meets = cut-meets at n q k w.0 w.1 h in
    let r : ℕ = max at w.0 in
    let j : ℕ = r - w.0 in
    let small : j < 8 = omega (arith, meets.1) in
    let here : w.0 + j ≡ r = omega arith in
    record {
      outside = cut-outside at n q k h;
      pointer = p;
      piece = k;
      holds = (piece, e);
      part = record {
        other = r;
        piece = j;
        from = omega arith;
        to = omega (arith, meets.0, meets.2);
        holds = (small, ap (λ x. get_or bs x Undef) (sym here) ∙ w.2 j small);
        same_start = omega (arith, w.1);
      };
    }

frag_stays : (bs : List Byte) → PointersAreWhole bs → (at n q k : ℕ) (p : Pointer) → get_or bs q Undef ≡ Frag p k → (IsLost bs at n q → ⊥) → (t : Bool) → is_cut at n q k ≡ t → cond t Undef (Frag p k) ≡ Frag p k
frag_stays bs is at n q k p e free true h = absurd (free (cut_is_lost bs is at n q k p e h))
frag_stays bs is at n q k p e free false h = refl

byte_stays : (bs : List Byte) → PointersAreWhole bs → (at n q : ℕ) (b : Byte) → get_or bs q Undef ≡ b → (IsLost bs at n q → ⊥) → cut_byte at n q b ≡ b
byte_stays bs is at n q Undef e free = refl
byte_stays bs is at n q (Num m) e free = refl
byte_stays bs is at n q (Frag p k) e free = frag_stays bs is at n q k p e free (is_cut at n q k) refl

byte_left : (bs : List Byte) → PointersAreWhole bs → (at n q : ℕ) → IsLeft bs at n q (cut_byte at n q (get_or bs q Undef))
byte_left bs is at n q = record {
  lost = lost_is_cut bs at n q;
  kept = byte_stays bs is at n q (get_or bs q Undef) refl;
}

pub cut_left : (bs : List Byte) → PointersAreWhole bs → (at n q : ℕ) → IsLeft bs at n q (get_or (cut bs at n) q Undef)
cut_left bs is at n q = subst (λ b. IsLeft bs at n q b) (sym (get-cut bs at n q)) (byte_left bs is at n q)

-- ---- bytes that are stored

uncut_frag : (at n q k : ℕ) (p : Pointer) (j : ℕ) (o : Pointer) (t : Bool) → is_cut at n q j ≡ t → cond t Undef (Frag o j) ≡ Frag p k → (Frag o j ≡ Frag p k) × (is_cut at n q k ≡ false)
uncut_frag at n q k p j o true h e = absurd (cc)
uncut_frag at n q k p j o false h e = let same : j ≡ k = cc in (e, ap (is_cut at n q) (sym same) ∙ h)

-- a piece that a cut leaves was there
cut_frag : (at n q k : ℕ) (p : Pointer) (b : Byte) → cut_byte at n q b ≡ Frag p k → (b ≡ Frag p k) × (is_cut at n q k ≡ false)
cut_frag at n q k p Undef e = absurd (cc)
cut_frag at n q k p (Num m) e = absurd (cc)
cut_frag at n q k p (Frag o j) e = uncut_frag at n q k p j o (is_cut at n q j) refl e

-- pointers that a write does not meet stand as they stood
stands : (bs : List Byte) (at : ℕ) (new : List Byte) (start : ℕ) (p : Pointer) → IsApart at (length new) start → HoldsAll bs start p → HoldsAll (stored bs at new) start p
stands bs at new start p apart all = λ j l.
    get-stored_out bs at new (start + j) (apart-outside at (length new) start j apart l)
    ∙ ap (cut_byte at (length new) (start + j)) (all j l)
    ∙ ap (λ t. cond t Undef (Frag p j)) (apart-uncut at (length new) start j apart)

-- those that were written stand where they were put
stands_put : (bs : List Byte) (at : ℕ) (new : List Byte) (start : ℕ) (p : Pointer) → at + length new ≤ length bs → HoldsAll new start p → HoldsAll (stored bs at new) (at + start) p
stands_put bs at new start p h all = λ j l.
    let regroup : (at + start) + j ≡ at + (start + j) = omega arith in
    ap (λ x. get_or (stored bs at new) x Undef) regroup
    ∙ get-stored_in bs at new (start + j) h (there new (start + j) j p (all j l))
    ∙ all j l

-- where a piece stands, its pointer is whole
abbrev IsPart : List Byte → ℕ → ℕ → Pointer → Type 0
IsPart bs q k p = (start : ℕ) × (start + k ≡ q) × HoldsAll bs start p

part_out : (bs : List Byte) (at : ℕ) (new : List Byte) → PointersAreWhole bs → (q k : ℕ) (p : Pointer) → IsOutside at (length new) q → HoldsPiece (stored bs at new) q p k → IsPart (stored bs at new) q k p
part_out bs at new is q k p outside holds =
    let was = cut_frag at (length new) q k p (get_or bs q Undef) (sym (get-stored_out bs at new q outside) ∙ holds.1) in
    let w = is.whole q k p (holds.0, was.0) in
    (w.0, w.1, stands bs at new w.0 p (uncut-apart at (length new) q k w.0 holds.0 w.1 outside was.1) w.2)

part_in : (bs : List Byte) (at : ℕ) (new : List Byte) → at + length new ≤ length bs → PointersAreWhole new → (q k i : ℕ) (p : Pointer) → at + i ≡ q → i < length new → HoldsPiece (stored bs at new) q p k → IsPart (stored bs at new) q k p
part_in bs at new h is q k i p e l holds =
    let put : get_or new i Undef ≡ Frag p k = sym (get-stored_in bs at new i h l) ∙ ap (λ x. get_or (stored bs at new) x Undef) e ∙ holds.1 in
    let w = is.whole i k p (holds.0, put) in
    (at + w.0, omega (arith, w.1), stands_put bs at new w.0 p h w.2)

part_stored : (bs : List Byte) (at : ℕ) (new : List Byte) → at + length new ≤ length bs → PointersAreWhole bs → PointersAreWhole new → (q k : ℕ) (p : Pointer) → HoldsPiece (stored bs at new) q p k → IsPart (stored bs at new) q k p
part_stored bs at new h old is q k p holds = elim (cases_lt q at) [
  | inl low ↦ part_out bs at new old q k p (inl low) holds
  | inr from ↦ elim (cases_lt q (at + length new)) [
    | inl to ↦ part_in bs at new h is q k (q - at) p (omega arith) (omega arith) holds
    | inr high ↦ part_out bs at new old q k p (inr high) holds
  ]
]

whole-stored : (bs : List Byte) (at : ℕ) (new : List Byte) → at + length new ≤ length bs → PointersAreWhole bs → PointersAreWhole new → PointersAreWhole (stored bs at new)
whole-stored bs at new h old is = record { whole = part_stored bs at new h old is }

-- ---- bytes that a copy takes

whole_from : (at n q k start : ℕ) → start + k ≡ q → is_whole at n q k ≡ true → (at ≤ start) × (start + 8 ≤ at + n)
whole_from at n q k start e h = (grind (arith, nat_tests), grind (arith, nat_tests))

whole_at : (at n start j : ℕ) → at ≤ start → start + 8 ≤ at + n → is_whole at n (start + j) j ≡ true
whole_at at n start j from to = grind (arith, nat_tests)

-- a piece that stays in a copy is one of a pointer that is taken whole
whole_piece : (k : ℕ) (w : Bool) → k < 8 → nat_lt k 8 && not w ≡ false → w ≡ true
whole_piece k w l h = grind (arith, nat_tests)

kept_frag : (at n q k : ℕ) (p : Pointer) (j : ℕ) (o : Pointer) (t : Bool) → nat_lt j 8 && not (is_whole at n q j) ≡ t → k < 8 → cond t Undef (Frag o j) ≡ Frag p k → (Frag o j ≡ Frag p k) × (is_whole at n q k ≡ true)
kept_frag at n q k p j o true h l e = absurd (cc)
kept_frag at n q k p j o false h l e =
    let same : j ≡ k = cc in
    (e, subst (λ x. is_whole at n q x ≡ true) same (whole_piece j (is_whole at n q j) (omega arith) h))

-- a piece that a copy takes was there, and its pointer is taken whole
taken_frag : (at n q k : ℕ) (p : Pointer) (b : Byte) → k < 8 → taken_byte at n q b ≡ Frag p k → (b ≡ Frag p k) × (is_whole at n q k ≡ true)
taken_frag at n q k p Undef l e = absurd (cc)
taken_frag at n q k p (Num m) l e = absurd (cc)
taken_frag at n q k p (Frag o j) l e = kept_frag at n q k p j o (nat_lt j 8 && not (is_whole at n q j)) refl l e

none_taken : (j : ℕ) → nat_lt j 8 && not true ≡ false
none_taken j = grind (arith, nat_tests)

stands_taken : (bs : List Byte) (at n start : ℕ) (p : Pointer) → at + n ≤ length bs → at ≤ start → start + 8 ≤ at + n → HoldsAll bs start p → HoldsAll (taken bs at n) (start - at) p
stands_taken bs at n start p h from to all = λ j l.
    let here : at + ((start - at) + j) ≡ start + j = omega arith in
    get-taken bs at n ((start - at) + j) h (omega arith)
    ∙ ap (λ x. taken_byte at n x (get_or bs x Undef)) here
    ∙ ap (taken_byte at n (start + j)) (all j l)
    ∙ ap (λ t. cond (nat_lt j 8 && not t) Undef (Frag p j)) (whole_at at n start j from to)
    ∙ ap (λ t. cond t Undef (Frag p j)) (none_taken j)

part_taken : (bs : List Byte) (at n : ℕ) → at + n ≤ length bs → PointersAreWhole bs → (i k : ℕ) (p : Pointer) → HoldsPiece (taken bs at n) i p k → IsPart (taken bs at n) i k p
part_taken bs at n h is i k p holds =
    let inside : i < n = omega (arith, there (taken bs at n) i k p holds.1, length-taken bs at n h) in
    let was = taken_frag at n (at + i) k p (get_or bs (at + i) Undef) holds.0 (sym (get-taken bs at n i h inside) ∙ holds.1) in
    let w = is.whole (at + i) k p (holds.0, was.0) in
    let within = whole_from at n (at + i) k w.0 w.1 was.1 in
    (w.0 - at, omega (arith, w.1, within.0), stands_taken bs at n w.0 p h within.0 within.1 w.2)

whole-taken : (bs : List Byte) (at n : ℕ) → at + n ≤ length bs → PointersAreWhole bs → PointersAreWhole (taken bs at n)
whole-taken bs at n h is = record { whole = part_taken bs at n h is }

-- ---- values

no_piece : (n m i k : ℕ) (p : Pointer) → get_or (low_bytes n m) i Undef ≡ Frag p k → ⊥
unfolding low_bytes
no_piece zero m i k p e = cc
no_piece (suc n) m zero k p e = cc
no_piece (suc n) m (suc i) k p e = no_piece n (m / 256) i k p e

whole-number : (n m : ℕ) → PointersAreWhole (low_bytes n m)
whole-number n m = record { whole = λ q k p holds. absurd (no_piece n m q k p holds.1) }

pub get-pieces : (p : Pointer) (k n i : ℕ) → i < n → get_or (pieces p k n) i Undef ≡ Frag p (k + i)
unfolding pieces
get-pieces p k zero i l = absurd (omega arith)
get-pieces p k (suc n) zero l = let e : k ≡ k + 0 = omega arith in ap (Frag p) e
get-pieces p k (suc n) (suc i) l = let e : suc k + i ≡ k + suc i = omega arith in get-pieces p (suc k) n i (omega arith) ∙ ap (Frag p) e

part_pointer : (o : Pointer) (q k : ℕ) (p : Pointer) → HoldsPiece (pieces o 0 8) q p k → IsPart (pieces o 0 8) q k p
part_pointer o q k p holds =
    let inside : q < 8 = omega (arith, there (pieces o 0 8) q k p holds.1, length-pieces o 0 8) in
    let is = sym (get-pieces o 0 8 q inside) ∙ holds.1 in
    let pointer : o ≡ p = cc in
    let piece : 0 + q ≡ k = cc in
    (0, omega arith, λ j l. let z : 0 + (0 + j) ≡ j = omega arith in get-pieces o 0 8 (0 + j) (omega arith) ∙ ap (Frag o) z ∙ ap (λ x. Frag x j) pointer)

whole-value : (v : Value) → PointersAreWhole (bytes_of v)
whole-value (values.Int t n) = whole-number (byte_len (std_width t)) (bits_in t n)
whole-value (values.Ptr p) = record { whole = part_pointer p }
whole-value values.Null = whole-number 8 0

-- ---- memory

whole_with : (m : List BlockView) (n : ℕ) (bs : List Byte) → n < length m → AreWhole m → PointersAreWhole bs → AreWhole (with_bytes m n bs)
whole_with m n bs made all is b = elim (cases_eq b n) [
  | inl e ↦ subst (λ x. PointersAreWhole (block_at (with_bytes m n bs) x).bytes) (sym e) (subst PointersAreWhole (sym (bytes-same m n bs made)) is)
  | inr apart ↦ subst (λ (x : BlockView). PointersAreWhole x.bytes) (sym (block-other m n b bs apart)) (all b)
]

left_written : (m : List BlockView) (at : Pointer) (new : List Byte) → at.block < length m → AreWhole m → (q : ℕ) → IsOutside (place at) (length new) q
    → IsLeft (block_at m at.block).bytes (place at) (length new) q (get_or (block_at (with_bytes m at.block (stored (block_at m at.block).bytes (place at) new)) at.block).bytes q Undef)
left_written m at new made all q outside =
    let bs = (block_at m at.block).bytes in
    subst (λ b. IsLeft bs (place at) (length new) q b)
    (sym (ap (λ x. get_or x q Undef) (bytes-same m at.block (stored bs (place at) new) made) ∙ get-stored_out bs (place at) new q outside))
    (byte_left bs (all at.block) (place at) (length new) q)

-- a block whose bytes are whole in place of another
pub whole_set : (m : List BlockView) (n : ℕ) (b : BlockView) → n < length m → AreWhole m → PointersAreWhole b.bytes → AreWhole (set m n b)
whole_set m n b made all is p = elim (cases_eq p n) [
  | inl e ↦ subst (λ x. PointersAreWhole (block_at (set m n b) x).bytes) (sym e) (subst (λ (x : BlockView). PointersAreWhole x.bytes) (sym (get_or-set_same m n b no_block made)) is)
  | inr apart ↦ subst (λ (x : BlockView). PointersAreWhole x.bytes) (sym (get_or-set_other m n p b no_block apart)) (all p)
]

-- bytes without values
no_undefined : (n q k : ℕ) (p : Pointer) → get_or (replicate n Undef) q Undef ≡ Frag p k → ⊥
no_undefined n q k p e = elim (cases_lt q n) [
  | inl inside ↦ let u : get_or (replicate n Undef) q Undef ≡ Undef = get_or-replicate n q Undef Undef inside in cc
  | inr past ↦ let u : get_or (replicate n Undef) q Undef ≡ Undef = get_or_past (replicate n Undef) q Undef (omega (arith, length-replicate n Undef)) in cc
]

pub whole-undefined : (n : ℕ) → PointersAreWhole (replicate n Undef)
whole-undefined n = record { whole = λ q k p holds. absurd (no_undefined n q k p holds.1) }

pub whole-empty : PointersAreWhole []
whole-empty = record { whole = λ q k p holds. absurd (no_undefined 0 q k p holds.1) }

-- one block more
pub whole_more : (m : List BlockView) (b : BlockView) → AreWhole m → PointersAreWhole b.bytes → AreWhole (m ++ b ∷ [])
whole_more m b all is p = elim (cases_lt p (length m)) [
  | inl inside ↦ subst (λ (x : BlockView). PointersAreWhole x.bytes) (sym (get_or_append_left m (b ∷ []) no_block p inside)) (all p)
  | inr past ↦ elim (cases_eq p (length m)) [
    | inl e ↦ subst (λ x. PointersAreWhole (block_at (m ++ b ∷ []) x).bytes) (sym e) (subst (λ (x : BlockView). PointersAreWhole x.bytes) (sym (get_or-append_seam m b [] no_block)) is)
    | inr apart ↦ subst (λ (x : BlockView). PointersAreWhole x.bytes) (sym (get_or_past (m ++ b ∷ []) p no_block (omega (arith, length-append m (b ∷ []))))) whole-empty
  ]
]

keeps_whole : (m : List BlockView) (at : Pointer) (n : ℕ) (new : List Byte) → at.block < length m → length new ≡ n → place at + n ≤ length (block_at m at.block).bytes → (AreWhole m → PointersAreWhole new) → KeepsWhole m (with_bytes m at.block (stored (block_at m at.block).bytes (place at) new)) at n
keeps_whole m at n new made size inside is =
    let bs = (block_at m at.block).bytes in
    record {
      whole = λ all. whole_with m at.block (stored bs (place at) new) made all (whole-stored bs (place at) new (omega arith) (all at.block) (is all));
      left = subst (λ k. AreWhole m → (q : ℕ) → IsOutside (place at) k q → IsLeft bs (place at) k q (get_or (block_at (with_bytes m at.block (stored bs (place at) new)) at.block).bytes q Undef)) size (left_written m at new made);
    }

-- a value that is stored, or put in with no alignment asked and into a block that may be read-only
pub whole-store : (m : List BlockView) (at : Pointer) (ty : Scalar) (v : Value) → at.block < length m → IsOf ty v → place at + size_of ty ≤ length (block_at m at.block).bytes → KeepsWhole m (store m at v) at (size_of ty)
whole-store m at ty v made of inside = keeps_whole m at (size_of ty) (bytes_of v) made (length-value ty v of) inside (λ _. whole-value v)

pub whole-copy : (m : List BlockView) (to from : Pointer) (n : ℕ) → to.block < length m → wrong_access m to n 1 false ≡ None → wrong_access m from n 1 false ≡ None → KeepsWhole m (copy m to from n) to n
whole-copy m to from n made target source =
    let source_bs = (block_at m from.block).bytes in
    let inside = inside_access (block_at m from.block) from.offset n 1 false source in
    keeps_whole m to n (taken source_bs (place from) n) made (length-taken source_bs (place from) n inside) (inside_access (block_at m to.block) to.offset n 1 false target) (λ all. whole-taken source_bs (place from) n inside (all from.block))
