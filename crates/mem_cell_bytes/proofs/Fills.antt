-- Stretches of one byte, as cells and at loads.
use Rattle.std.proofs.Common.{ℕ, zero, suc, ◌≡◌, ◌+◌, ◌*◌, ◌^◌, ◌%◌, ◌/◌, ◌≤◌, ◌<◌, List, [], ◌∷◌, length, take, replicate, refl, ap, ◌∙◌, arith, inl, inr, get_or}
use Rattle.std.proofs.lemmas.Nat.{pow-add}
use Rattle.block_mem.specs.declared.types.Byte.{Byte}
use Rattle.block_mem.specs.declared.types.Byte.TheVariants.{Undef, Num}
use Rattle.block_mem.specs.Numbers.{low_bytes}
use Rattle.block_mem.specs.Pieces.{get_bytes}
use Rattle.block_mem.specs.Blocks.{block_at}
use Rattle.c_values.specs.Places.{ObjectMemory}
use Rattle.mem_cell_bytes.specs.declared.entry.Entry.{Entry}
use Rattle.mem_cell_bytes.specs.declared.entry.FillByte.{FillByte}
use Rattle.mem_cell_bytes.specs.declared.entry.FillByte.TheVariants as fills
use Rattle.mem_cell_bytes.specs.Cells.{size_of, Meets, bytes_in, filling, HasByte}
use Rattle.mem_cell_bytes.proofs.Bytes.{size-positive}
use Rattle.mem_cell_bytes.specs.Fills.{repeated, marked, fill_number, IsProperFill}

-- bytes that are all one
all-same : (bs : List Byte) (k n : ℕ) (x : Byte) → k + n ≤ length bs → ((q : ℕ) → k ≤ q → q < k + n → get_or bs q Undef ≡ x) → get_bytes bs k n ≡ replicate n x
all-same bs zero zero x h are = refl
all-same [] zero (suc n) x h are = absurd (omega arith)
all-same (b ∷ bs) zero (suc n) x h are =
    let first : b ≡ x = are 0 (omega arith) (omega arith) in
    ap (λ y. y ∷ take n bs) first ∙ ap (λ ys. x ∷ ys) (all-same bs zero n x (omega arith) (λ q low high. are (suc q) (omega arith) (omega (arith, high))))
all-same [] (suc k) n x h are = absurd (omega arith)
all-same (b ∷ bs) (suc k) n x h are = all-same bs k n x (omega arith) (λ q low high. are (suc q) (omega (arith, low)) (omega (arith, high)))

-- so many equal bytes are the low bytes of their number
repeated-bytes : (n d : ℕ) → d < 256 → replicate n (Num d) ≡ low_bytes n (repeated n d)
unfolding low_bytes
repeated-bytes zero d h = refl
repeated-bytes (suc n) d h =
    let low : d ≡ repeated (suc n) d % 256 = omega arith in
    let high : repeated n d ≡ repeated (suc n) d / 256 = omega arith in
    ap (λ x. Num x ∷ replicate n (Num d)) low
    ∙ ap (λ bs. Num (repeated (suc n) d % 256) ∷ bs) (repeated-bytes n d h ∙ ap (low_bytes n) high)

pub repeated-small : (n d : ℕ) → d < 256 → repeated n d < 2 ^ (8 * n)
repeated-small zero d h = omega arith
repeated-small (suc n) d h = let r = repeated-small n d h in let p : 2 ^ (8 * suc n) ≡ 256 * 2 ^ (8 * n) = grow n in omega (arith, r, p)
  where
    grow : (n : ℕ) → 2 ^ (8 * suc n) ≡ 256 * 2 ^ (8 * n)
    grow n = ap (λ k. 2 ^ k) (let e : 8 * suc n ≡ 8 + 8 * n = omega arith in e) ∙ pow-add 2 8 (8 * n)

-- a cell of equal bytes is what its bytes are
pub fill-meets : (m : ObjectMemory) (b : ℕ) (x : FillByte) (e : Entry) → IsProperFill x → ((q : ℕ) → e.offset ≤ q → q < e.offset + size_of e → HasByte m b q x)
    → Meets m (marked x e) (bytes_in m b e) (fill_number x e.ty)
fill-meets m b x e proper are = by x proper bytes_are
  where
    inside : (p : (k : ℕ) × (size_of e ≡ suc k)) → e.offset + size_of e ≤ length (block_at m.blocks b).bytes
    inside p = let l = (are (e.offset + p.0) (omega arith) (let s = p.1 in omega (arith, s))).0 in let s = p.1 in omega (arith, s, l)

    bytes_are : bytes_in m b e ≡ replicate (size_of e) (filling x)
    bytes_are = all-same (block_at m.blocks b).bytes e.offset (size_of e) (filling x) (inside (size-positive e.ty)) (λ q l h. (are q l h).1)

    by : (y : FillByte) → IsProperFill y → bytes_in m b e ≡ replicate (size_of e) (filling y) → Meets m (marked y e) (bytes_in m b e) (fill_number y e.ty)
    by fills.Undef p is = inl (record { may = refl; are = is })
    by (fills.Num d) p is = inr (inl (record {
      may = refl;
      number = repeated (size_of e) d;
      small = repeated-small (size_of e) d p;
      are = is ∙ repeated-bytes (size_of e) d p;
      is = refl;
    }))
