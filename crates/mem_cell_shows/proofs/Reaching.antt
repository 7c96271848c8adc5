-- Bytes of which it is known what they may be.
use Rattle.std.proofs.Common.{ℕ, ℤ, zero, suc, ◌≡◌, ◌<◌, ◌≤◌, ◌+◌, ◌-◌, inl, inr, Bool, true, false, List, [], ◌∷◌, length, Some, drop, take, replicate, slice_get, slice_index_or, refl, sym, ap, subst, ◌∙◌, arith, get_or}
use Rattle.std.specs.Prelude.{IsTrue}
use Rattle.std.proofs.lemmas.Bool.{cases_lt}
use Rattle.pointsets.specs.Targets.{Among}
use Rattle.block_mem.specs.declared.types.Byte.{Byte}
use Rattle.block_mem.specs.declared.types.Byte.TheVariants.{Frag, Num, Undef}
use Rattle.block_mem.specs.declared.types.Pointer.{Pointer}
use Rattle.block_mem.specs.Blocks.{block_at}
use Rattle.block_mem.specs.Numbers.{low_bytes}
use Rattle.block_mem.specs.Pieces.{pieces}
use Rattle.c_values.specs.Places.{ObjectMemory}
use Rattle.mem_cell_bytes.specs.declared.entry.Entry.{Entry}
use Rattle.mem_cell_bytes.specs.declared.entry.FillByte.{FillByte}
use Rattle.mem_cell_bytes.specs.declared.entry.FillByte.TheVariants as fills
use Rattle.mem_cell_bytes.specs.declared.entry.Stretch.{Stretch}
use Rattle.mem_cell_bytes.specs.Contents.{Contents}
use Rattle.mem_cell_bytes.specs.Cells.{HasBlock, HasByte, Meets, bytes_in, filling, size_of}
use Rattle.mem_cell_bytes.specs.Stands.{Has, IsInStretch}
use Rattle.mem_cell_bytes.proofs.Steps.{Some-same}
use Rattle.mem_cell_shows.specs.declared.reaches.Reach.{Reach}
use Rattle.mem_cell_shows.specs.Reaches.{EachIn, IsByteIn, IsReach}

-- ---- places of lists

none-there : {X P : Type 0} (n q : ℕ) (x : X) → slice_get (take n []) q ≡ Some x → P
none-there zero q x h = cc
none-there (suc n) q x h = cc

taken : {X : Type 0} (bs : List X) (n q : ℕ) (x : X) → slice_get (take n bs) q ≡ Some x → (slice_get bs q ≡ Some x) × (q < n)
taken [] n q x h = none-there n q x h
taken (b ∷ bs) zero q x h = cc
taken (b ∷ bs) (suc n) zero x h = (h, omega arith)
taken (b ∷ bs) (suc n) (suc q) x h = let r = taken bs n q x h in (r.0, omega (arith, r.1))

-- a byte of a part is one of the whole
pub got : {X : Type 0} (bs : List X) (k n q j : ℕ) (x : X) → j ≡ k + q → slice_get (take n (drop k bs)) q ≡ Some x → (slice_get bs j ≡ Some x) × (q < n)
got bs zero n q j x e h = let r = taken bs n q x h in (ap (slice_get bs) (let same : j ≡ q = omega (arith, e) in same) ∙ r.0, r.1)
got [] (suc k) n q j x e h = none-there n q x h
got (b ∷ bs) (suc k) n q zero x e h = absurd (omega (arith, e))
got (b ∷ bs) (suc k) n q (suc j) x e h = got bs k n q j x (omega (arith, e)) h

take-get : {X : Type 0} (bs : List X) (n i : ℕ) (x : X) → i < n → slice_get bs i ≡ Some x → slice_get (take n bs) i ≡ Some x
take-get [] n i x h g = cc
take-get (b ∷ bs) zero i x h g = absurd (omega (arith, h))
take-get (b ∷ bs) (suc n) zero x h g = g
take-get (b ∷ bs) (suc n) (suc i) x h g = take-get bs n i x (omega (arith, h)) g

-- and the other way round
pub get-part : {X : Type 0} (bs : List X) (k n i j : ℕ) (x : X) → j ≡ k + i → i < n → slice_get bs j ≡ Some x → slice_get (take n (drop k bs)) i ≡ Some x
get-part bs zero n i j x e h g = take-get bs n i x h (sym (ap (slice_get bs) (let same : j ≡ i = omega (arith, e) in same)) ∙ g)
get-part [] (suc k) n i j x e h g = cc
get-part (b ∷ bs) (suc k) n i zero x e h g = absurd (omega (arith, e))
get-part (b ∷ bs) (suc k) n i (suc j) x e h g = get-part bs k n i j x (omega (arith, e)) h g

index-of : {X : Type 0} (bs : List X) (q : ℕ) (d x : X) → slice_get bs q ≡ Some x → slice_index_or bs q d ≡ x
index-of [] q d x h = cc
index-of (b ∷ bs) zero d x h = Some-same b x h
index-of (b ∷ bs) (suc q) d x h = index-of bs q d x h

-- ---- bytes of a cell

blank-in : (n q : ℕ) (x : Byte) → slice_get (replicate n Undef) q ≡ Some x → x ≡ Undef
blank-in zero q x h = cc
blank-in (suc n) zero x h = cc
blank-in (suc n) (suc q) x h = blank-in n q x h

number-in : (n m q : ℕ) (x : Byte) → slice_get (low_bytes n m) q ≡ Some x → (d : ℕ) × (x ≡ Num d)
unfolding low_bytes
number-in zero m q x h = cc
number-in (suc n) m zero x h = (_, sym (Some-same _ x h))
number-in (suc n) m (suc q) x h = number-in n _ q x h

piece-in : (p : Pointer) (k n q : ℕ) (x : Byte) → slice_get (pieces p k n) q ≡ Some x → (j : ℕ) × (x ≡ Frag p j)
unfolding pieces
piece-in p k zero q x h = cc
piece-in p k (suc n) zero x h = (k, sym (Some-same (Frag p k) x h))
piece-in p k (suc n) (suc q) x h = piece-in p (suc k) n q x h

-- a cell that may point to nothing is no pointer
no-pointer : {P : Type 0} (m : ObjectMemory) (b : ℕ) → HasBlock m (Among [] false false) b → P
no-pointer {P} m b h = by ((block_at m.blocks b).live) refl where
  by : (l : Bool) → (block_at m.blocks b).live ≡ l → P
  by true e = let k = h.live e in cc
  by false e = let k = h.dead e in cc

module _ (m : ObjectMemory) (b : ℕ) where
  pub cell-in : (e : Entry) (y : ℤ) (at : ℕ) (r : Reach) → Meets m e (bytes_in m b e) y → e.offset ≤ at → r.end ≡ e.offset + size_of e → r.undef ≡ e.undef
      → (r.piece ≡ false → e.targets ≡ Among [] false false) → EachIn (block_at m.blocks b).bytes at r
  cell-in e y at r meets low ends undef piece q x from below g = by meets where
    i : ℕ
    i = q - e.offset

    part : slice_get (bytes_in m b e) (q - e.offset) ≡ Some x
    part = get-part (block_at m.blocks b).bytes e.offset (size_of e) (q - e.offset) q x (omega (arith, low, from)) (omega (arith, low, from, below, ends)) g

    points : (t : Bool) → r.piece ≡ t → (p : Pointer) → HasBlock m e.targets p.block → IsTrue r.piece
    points true k p h = k
    points false k p h = no-pointer m p.block (subst (λ s. HasBlock m s p.block) (piece k) h)

    by : Meets m e (bytes_in m b e) y → IsByteIn r x
    by (inl k) = subst (IsByteIn r) (sym (blank-in (size_of e) (q - e.offset) x (sym (ap (λ bs. slice_get bs (q - e.offset)) k.are) ∙ part))) (undef ∙ k.may)
    by (inr (inl k)) = let d = number-in (size_of e) k.number (q - e.offset) x (sym (ap (λ bs. slice_get bs (q - e.offset)) k.are) ∙ part) in subst (IsByteIn r) (sym d.1) tt
    by (inr (inr k)) = let d = piece-in k.pointer 0 8 (q - e.offset) x (sym (ap (λ bs. slice_get bs (q - e.offset)) k.are) ∙ part) in
        subst (IsByteIn r) (sym d.1) (points r.piece refl k.pointer k.may)

  filled-in : (r : Reach) (y : FillByte) (x : Byte) → (y ≡ fills.Undef → IsTrue r.undef) → filling y ≡ x → IsByteIn r x
  filled-in r fills.Undef x undef e = subst (IsByteIn r) e (undef refl)
  filled-in r (fills.Num n) x undef e = subst (IsByteIn r) e tt

  pub stretch-in : (f : Stretch) (at : ℕ) (r : Reach) → ((q : ℕ) (x : FillByte) → IsInStretch (f ∷ []) q x → HasByte m b q x) → f.from ≤ at → r.end ≡ f.to
      → (f.byte ≡ fills.Undef → IsTrue r.undef) → EachIn (block_at m.blocks b).bytes at r
  stretch-in f at r holds low ends undef q x from below g =
      let h = holds q f.byte (record { stretch = f; has = (0, refl); from = omega (arith, low, from); to = omega (arith, below, ends); is = refl }) in
      filled-in r f.byte x undef (sym h.1 ∙ index-of (block_at m.blocks b).bytes q Undef x g)

-- of more that is known, no less is
pub more-reach : (c d : Contents) (from : ℕ) (r : Reach) → ((e : Entry) → Has d.cells e → Has c.cells e) → ((q : ℕ) (x : FillByte) → IsInStretch d.stretches q x → IsInStretch c.stretches q x)
    → IsReach d from r → IsReach c from r
more-reach c d from r cells stretches h m b v o holds = h m b v o (record { cell = λ e has. holds.cell e (cells e has); byte = λ q x has. holds.byte q x (stretches q x has) })

pub no-cell : {X P : Type 0} (x : X) → Has [] x → P
no-cell x h = let k = h.1 in cc

pub none-in : (q : ℕ) (x : FillByte) → {P : Type 0} → IsInStretch [] q x → P
none-in q x h = no-cell h.stretch h.has

pub one-in : {X : Type 0} (xs : List X) (x y : X) → Has xs x → Has (x ∷ []) y → Has xs y
one-in xs x y h (zero, k) = subst (Has xs) (Some-same x y k) h
one-in xs x y h (suc n, k) = cc

pub one-stretch : (xs : List Stretch) (f : Stretch) (q : ℕ) (x : FillByte) → Has xs f → IsInStretch (f ∷ []) q x → IsInStretch xs q x
one-stretch xs f q x h k = record { stretch = k.stretch; has = one-in xs f k.stretch h k.has; from = k.from; to = k.to; is = k.is }

-- one reach behind another
grown : (r n : Reach) (x : Byte) → (IsTrue r.undef → IsTrue n.undef) → (IsTrue r.piece → IsTrue n.piece) → IsByteIn r x → IsByteIn n x
grown r n Undef u p h = u h
grown r n (Num d) u p h = tt
grown r n (Frag q j) u p h = p h

pub then-reach : (c : Contents) (from : ℕ) (r next n : Reach) → IsReach c from r → IsReach c r.end next → n.end ≡ next.end → (IsTrue r.undef → IsTrue n.undef) → (IsTrue r.piece → IsTrue n.piece)
    → (IsTrue next.undef → IsTrue n.undef) → (IsTrue next.piece → IsTrue n.piece) → IsReach c from n
then-reach c from r next n h k ends u p v w m b vs o holds q x low below g = elim (cases_lt q r.end) [
  | inl near ↦ grown r n x u p (h m b vs o holds q x low near g)
  | inr far ↦ grown next n x v w (k m b vs o holds q x far (omega (arith, below, ends)) g)
]

-- up to where it begins nothing is asked
pub start-reach : (c : Contents) (from : ℕ) (undef piece : Bool) → IsReach c from (record { end = from; undef = undef; piece = piece })
start-reach c from undef piece m b v o holds q x low below g = absurd (omega (arith, low, below))

pub has-index : {X : Type 0} (xs : List X) (i : ℕ) (d x : X) → i < length xs → x ≡ get_or xs i d → Has xs x
has-index [] i d x h e = absurd (omega arith)
has-index (y ∷ xs) zero d x h e = (0, ap Some (sym e))
has-index (y ∷ xs) (suc i) d x h e = let r = has-index xs i d x (omega (arith, h)) e in (suc r.0, r.1)
