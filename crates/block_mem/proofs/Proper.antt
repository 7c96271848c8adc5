-- Memory keeps its bytes proper, and what is loaded from it is of its type.
use Rattle.std.proofs.Common.{ℕ, ℤ, zero, suc, ◌≡◌, ◌+◌, ◌-◌, ◌%◌, ◌/◌, ◌<◌, ◌≤◌, Bool, true, false, cond, ◌⊎◌, inl, inr, List, [], ◌∷◌, ◌++◌, length, replicate, take, drop, get_or, None, refl, sym, subst, ap, ◌∙◌, arith}
use Rattle.std.proofs.lemmas.Bool.{cases_lt, cases_eq}
use Rattle.std.proofs.lemmas.List.{get_or_past, get_or-set_same, get_or-set_other, get_or-replicate, get_or-take, get_or-drop, get_or_append_left, length-replicate, length-append, length-take}
use Rattle.std.proofs.Common.{length-set}
use Rattle.std.proofs.Math.Seq.{get_or-append_seam}
use Rattle.std.proofs.Math.ListN.{set}
use Rattle.std.specs.Int.{byte_len}
use Rattle.block_mem.specs.declared.types.Byte.{Byte}
use Rattle.block_mem.specs.declared.types.Byte.TheVariants.{Undef, Num, Frag}
use Rattle.block_mem.specs.declared.types.Pointer.{Pointer}
use Rattle.block_mem.specs.declared.types.Value.{Value}
use Rattle.block_mem.specs.declared.types.Value.TheVariants as values
use Rattle.block_mem.specs.declared.types.Scalar.{Scalar}
use Rattle.c_syntax_written.specs.Integer.{std_width}
use Rattle.block_mem.specs.Numbers.{bits_in, low_bytes}
use Rattle.block_mem.specs.Pieces.{pieces, is_cut, cut_byte, is_whole, taken_byte, taken, stored}
use Rattle.block_mem.specs.Bytes.{size_of, IsOf, bytes_of}
use Rattle.block_mem.specs.Block.{BlockView, new_block}
use Rattle.block_mem.specs.Blocks.{no_block, block_at, with_bytes, with_ended, with_undefined, place, wrong_access, store, copy, set_byte}
use Rattle.block_mem.specs.Proper.{IsProper, AreProperBytes, AreProper, IsMade}
use Rattle.block_mem.proofs.Puts.{length-taken, get-taken}
use Rattle.block_mem.proofs.Laws.{length-pieces, length-value}
use Rattle.block_mem.proofs.StoreLaws.{inside_access}
use Rattle.block_mem.proofs.Whole.{get-stored_in, get-stored_out, get-pieces}

-- ---- bytes

proper-more : (made more : ℕ) (b : Byte) → made ≤ more → IsProper made b → IsProper more b
proper-more made more Undef h p = tt
proper-more made more (Num n) h p = p
proper-more made more (Frag q k) h p = omega (arith, p)

proper-choice : (made : ℕ) (t : Bool) (b : Byte) → IsProper made b → IsProper made (cond t Undef b)
proper-choice made true b p = tt
proper-choice made false b p = p

proper-cut : (made at n q : ℕ) (b : Byte) → IsProper made b → IsProper made (cut_byte at n q b)
proper-cut made at n q Undef p = tt
proper-cut made at n q (Num m) p = p
proper-cut made at n q (Frag o k) p = proper-choice made (is_cut at n q k) (Frag o k) p

proper-take : (made at n q : ℕ) (b : Byte) → IsProper made b → IsProper made (taken_byte at n q b)
proper-take made at n q Undef p = tt
proper-take made at n q (Num m) p = p
proper-take made at n q (Frag o k) p = proper-choice made _ (Frag o k) p

proper-none : (made : ℕ) (bs : List Byte) (q : ℕ) → length bs ≤ q → IsProper made (get_or bs q Undef)
proper-none made bs q past = subst (IsProper made) (sym (get_or_past bs q Undef past)) tt

-- bytes that are stored, and those about them
proper-stored : (made : ℕ) (bs : List Byte) (at : ℕ) (new : List Byte) → at + length new ≤ length bs → AreProperBytes made bs → AreProperBytes made new → AreProperBytes made (stored bs at new)
proper-stored made bs at new h old is q = elim (cases_lt q at) [
  | inl low ↦ out (inl low)
  | inr from ↦ elim (cases_lt q (at + length new)) [
    | inl to ↦
        let here : at + (q - at) ≡ q = omega arith in
        subst (IsProper made) (sym (ap (λ x. get_or (stored bs at new) x Undef) (sym here) ∙ get-stored_in bs at new (q - at) h (omega arith))) (is (q - at))
    | inr high ↦ out (inr high)
  ]
]
  where
    out : (q < at) ⊎ (at + length new ≤ q) → IsProper made (get_or (stored bs at new) q Undef)
    out outside = subst (IsProper made) (sym (get-stored_out bs at new q outside)) (proper-cut made at (length new) q (get_or bs q Undef) (old q))

proper-taken : (made : ℕ) (bs : List Byte) (at n : ℕ) → at + n ≤ length bs → AreProperBytes made bs → AreProperBytes made (taken bs at n)
proper-taken made bs at n h is q = elim (cases_lt q n) [
  | inl inside ↦ subst (IsProper made) (sym (get-taken bs at n q h inside)) (proper-take made at n (at + q) (get_or bs (at + q) Undef) (is (at + q)))
  | inr past ↦ proper-none made (taken bs at n) q (omega (arith, length-taken bs at n h))
]

proper-undefined : (made n : ℕ) → AreProperBytes made (replicate n Undef)
proper-undefined made n q = elim (cases_lt q n) [
  | inl inside ↦ subst (IsProper made) (sym (get_or-replicate n q Undef Undef inside)) tt
  | inr past ↦ proper-none made (replicate n Undef) q (omega (arith, length-replicate n Undef))
]

-- ---- values

proper-number : (made k m : ℕ) → AreProperBytes made (low_bytes k m)
unfolding low_bytes
proper-number made zero m q = tt
proper-number made (suc k) m zero = omega arith
proper-number made (suc k) m (suc q) = proper-number made k (m / 256) q

proper-pointer : (made : ℕ) (p : Pointer) → p.block < made → AreProperBytes made (pieces p 0 8)
proper-pointer made p h q = elim (cases_lt q 8) [
  | inl inside ↦ subst (IsProper made) (sym (get-pieces p 0 8 q inside)) h
  | inr past ↦ proper-none made (pieces p 0 8) q (omega (arith, length-pieces p 0 8))
]

proper-value : (made : ℕ) (v : Value) → IsMade made v → AreProperBytes made (bytes_of v)
proper-value made (values.Int t n) h = proper-number made (byte_len (std_width t)) (bits_in t n)
proper-value made (values.Ptr p) h = proper-pointer made p h
proper-value made values.Null h = proper-number made 8 0

-- some bytes of others
pub proper-part : (made : ℕ) (bs : List Byte) (at n : ℕ) → AreProperBytes made bs → AreProperBytes made (take n (drop at bs))
proper-part made bs at n all q = elim (cases_lt q n) [
  | inl inside ↦ subst (IsProper made) (sym (get_or-take n (drop at bs) q Undef inside ∙ get_or-drop at bs q Undef)) (all (at + q))
  | inr past ↦ proper-none made (take n (drop at bs)) q (omega (arith, length-take n (drop at bs)))
]

-- ---- memory

-- other bytes in a block
proper-set : (m : List BlockView) (n : ℕ) (b : BlockView) → n < length m → AreProper m → AreProperBytes (length m) b.bytes → AreProper (set m n b)
proper-set m n b made all is p q =
    subst (λ l. IsProper l (get_or (block_at (set m n b) p).bytes q Undef)) (sym (length-set m n b))
    (elim (cases_eq p n) [
      | inl e ↦ subst (λ (x : BlockView). IsProper (length m) (get_or x.bytes q Undef)) (sym (ap (λ x. block_at (set m n b) x) e ∙ get_or-set_same m n b no_block made)) (is q)
      | inr apart ↦ subst (λ (x : BlockView). IsProper (length m) (get_or x.bytes q Undef)) (sym (get_or-set_other m n p b no_block apart)) (all p q)
    ])

pub proper-start : AreProper []
proper-start p q = tt

pub proper-made : (m : List BlockView) (size : ℕ) (read_only : Bool) → AreProper m → AreProper (m ++ new_block size read_only ∷ [])
proper-made m size read_only all p q =
    let b = new_block size read_only in
    let long : length m ≤ length (m ++ b ∷ []) = omega (arith, length-append m (b ∷ [])) in
    elim (cases_lt p (length m)) [
      | inl inside ↦ subst (λ (x : BlockView). IsProper (length (m ++ b ∷ [])) (get_or x.bytes q Undef)) (sym (get_or_append_left m (b ∷ []) no_block p inside)) (proper-more (length m) (length (m ++ b ∷ [])) _ long (all p q))
      | inr past ↦ elim (cases_eq p (length m)) [
        | inl e ↦ subst (λ (x : BlockView). IsProper (length (m ++ b ∷ [])) (get_or x.bytes q Undef)) (sym (ap (λ x. block_at (m ++ b ∷ []) x) e ∙ get_or-append_seam m b [] no_block)) (proper-undefined (length (m ++ b ∷ [])) size q)
        | inr apart ↦ subst (λ (x : BlockView). IsProper (length (m ++ b ∷ [])) (get_or x.bytes q Undef)) (sym (get_or_past (m ++ b ∷ []) p no_block (omega (arith, length-append m (b ∷ []))))) tt
      ]
    ]

pub proper-ended : (m : List BlockView) (b : ℕ) → b < length m → AreProper m → AreProper (with_ended m b)
proper-ended m b made all = proper-set m b _ made all (all b)

pub proper-undefine : (m : List BlockView) (b : ℕ) → b < length m → AreProper m → AreProper (with_undefined m b)
proper-undefine m b made all = proper-set m b _ made all (proper-undefined (length m) (length (block_at m b).bytes))

pub proper-store : (m : List BlockView) (at : Pointer) (ty : Scalar) (v : Value) → at.block < length m → IsOf ty v → IsMade (length m) v → place at + size_of ty ≤ length (block_at m at.block).bytes → AreProper m → AreProper (store m at v)
proper-store m at ty v made of there inside all =
    proper-set m at.block _ made all (proper-stored (length m) (block_at m at.block).bytes (place at) (bytes_of v) (omega (arith, inside, length-value ty v of)) (all at.block) (proper-value (length m) v there))

pub proper-copy : (m : List BlockView) (to from : Pointer) (n : ℕ) → to.block < length m → wrong_access m to n 1 false ≡ None → wrong_access m from n 1 false ≡ None → AreProper m → AreProper (copy m to from n)
proper-copy m to from n made target source all =
    let inside = inside_access (block_at m from.block) from.offset n 1 false source in
    let new = taken (block_at m from.block).bytes (place from) n in
    let room = inside_access (block_at m to.block) to.offset n 1 false target in
    proper-set m to.block _ made all (proper-stored (length m) (block_at m to.block).bytes (place to) new (omega (arith, room, length-taken (block_at m from.block).bytes (place from) n inside)) (all to.block) (proper-taken (length m) (block_at m from.block).bytes (place from) n inside (all from.block)))

proper-put : (made : ℕ) (bs : List Byte) (at : ℕ) (b : Byte) → at < length bs → AreProperBytes made bs → IsProper made b → AreProperBytes made (set bs at b)
proper-put made bs at b inside all is q = elim (cases_eq q at) [
  | inl e ↦ subst (IsProper made) (sym (ap (λ x. get_or (set bs at b) x Undef) e ∙ get_or-set_same bs at b Undef inside)) is
  | inr apart ↦ subst (IsProper made) (sym (get_or-set_other bs at q b Undef apart)) (all q)
]

pub proper-byte : (m : List BlockView) (at : Pointer) (b : Byte) → at.block < length m → place at < length (block_at m at.block).bytes → IsProper (length m) b → AreProper m → AreProper (set_byte m at b)
proper-byte m at b made inside is all = proper-set m at.block _ made all (proper-put (length m) (block_at m at.block).bytes (place at) b inside (all at.block) is)
