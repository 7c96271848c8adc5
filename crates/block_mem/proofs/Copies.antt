-- Copies that go byte by byte.
use Rattle.std.proofs.Common.{ℕ, suc, ◌≡◌, ◌+◌, ◌<◌, ◌≤◌, List, length, take, drop, get_or, sym, subst, ap, ◌∙◌, arith, inl, inr, drop-cons, length-set}
use Rattle.std.proofs.Math.ListN.{set}
use Rattle.std.proofs.lemmas.List.{get_or-set_same, get_or-set_other, set-set, set-get_or, take_more, take_all, drop_all, length-take-le}
use Rattle.std.proofs.lemmas.Bool.{cases_eq}
use Rattle.block_mem.specs.declared.types.Byte.{Byte}
use Rattle.block_mem.specs.declared.types.Byte.TheVariants.{Undef}
use Rattle.block_mem.specs.declared.moving.Transfer.{Transfer}
use Rattle.block_mem.specs.Block.{BlockView}
use Rattle.block_mem.specs.Blocks.{no_block, block_at, with_bytes}
use Rattle.block_mem.specs.Pieces.{put_bytes, taken_byte, taken, cut}
use Rattle.block_mem.specs.Moves.{IsWithin, with_one, moved, copied}
use Rattle.block_mem.proofs.Puts.{put-none, put-more, put-before, get-put_low, get-put_high, length-taken, get-taken, length-put}

pub block-same : (m : List BlockView) (n : ℕ) (bs : List Byte) → n < length m → block_at (with_bytes m n bs) n ≡ record (block_at m n) { bytes = bs }
block-same m n bs h = get_or-set_same m n _ no_block h

pub block-other : (m : List BlockView) (n p : ℕ) (bs : List Byte) → (p ≡ n → ⊥) → block_at (with_bytes m n bs) p ≡ block_at m p
block-other m n p bs h = get_or-set_other m n p _ no_block h

pub bytes-same : (m : List BlockView) (n : ℕ) (bs : List Byte) → n < length m → (block_at (with_bytes m n bs) n).bytes ≡ bs
bytes-same m n bs h = ap (λ (b : BlockView). b.bytes) (block-same m n bs h)

-- bytes that take the place of others
pub with-with : (m : List BlockView) (n : ℕ) (a b : List Byte) → n < length m → with_bytes (with_bytes m n a) n b ≡ with_bytes m n b
with-with m n a b h =
    ap (λ (x : BlockView). set (with_bytes m n a) n (record x { bytes = b })) (block-same m n a h)
    ∙ set-set m n _ _

pub with-own : (m : List BlockView) (n : ℕ) → with_bytes m n (block_at m n).bytes ≡ m
with-own m n = set-get_or m n no_block

-- a byte that the new bytes of a block do not change
pub byte-kept : (m : List BlockView) (n p k : ℕ) (bs : List Byte) → n < length m → (p ≡ n → get_or bs k Undef ≡ get_or (block_at m n).bytes k Undef) → get_or (block_at (with_bytes m n bs) p).bytes k Undef ≡ get_or (block_at m p).bytes k Undef
byte-kept m n p k bs h same =
    elim (cases_eq p n) [
      | inl e ↦ subst (λ q. get_or (block_at (with_bytes m n bs) q).bytes k Undef ≡ get_or (block_at m q).bytes k Undef) (sym e) (ap (λ l. get_or l k Undef) (bytes-same m n bs h) ∙ same e)
      | inr apart ↦ ap (λ (b : BlockView). get_or b.bytes k Undef) (block-other m n p bs apart)
    ]

-- memory after some bytes of a copy were put in, and one more
one_more : (m : List BlockView) (t : Transfer) (i : ℕ) (old new : List Byte) → IsWithin m t → i < t.count
    → (t.from_block ≡ t.to_block → get_or old (t.from + i) Undef ≡ get_or (block_at m t.to_block).bytes (t.from + i) Undef)
    → set old (t.to + i) (get_or (taken (block_at m t.from_block).bytes t.from t.count) i Undef) ≡ new
    → with_one (with_bytes m t.to_block old) t i ≡ with_bytes m t.to_block new
one_more m t i old new w l kept put =
    ap (λ x. with_bytes (with_bytes m t.to_block old) t.to_block (set (block_at (with_bytes m t.to_block old) t.to_block).bytes (t.to + i) (taken_byte t.from t.count (t.from + i) x))) (byte-kept m t.to_block t.from_block (t.from + i) old w.to_made kept)
    ∙ ap (λ x. with_bytes (with_bytes m t.to_block old) t.to_block (set (block_at (with_bytes m t.to_block old) t.to_block).bytes (t.to + i) x)) (sym (get-taken (block_at m t.from_block).bytes t.from t.count i w.from_inside l))
    ∙ ap (λ bs. with_bytes (with_bytes m t.to_block old) t.to_block (set bs (t.to + i) (get_or (taken (block_at m t.from_block).bytes t.from t.count) i Undef))) (bytes-same m t.to_block old w.to_made)
    ∙ ap (with_bytes (with_bytes m t.to_block old) t.to_block) put
    ∙ with-with m t.to_block old new w.to_made

-- the bytes of the target after the first i were copied, and after all but the first i were
abbrev pub front_put : List BlockView → Transfer → ℕ → List Byte
front_put m t i = put_bytes (block_at m t.to_block).bytes t.to (take i (taken (block_at m t.from_block).bytes t.from t.count))

abbrev pub rest_put : List BlockView → Transfer → ℕ → List Byte
rest_put m t i = put_bytes (block_at m t.to_block).bytes (t.to + i) (drop i (taken (block_at m t.from_block).bytes t.from t.count))

pub up_none : (m : List BlockView) (t : Transfer) → with_bytes m t.to_block (front_put m t 0) ≡ m
up_none m t = ap (with_bytes m t.to_block) (put-none (block_at m t.to_block).bytes t.to) ∙ with-own m t.to_block

pub up_more : (m : List BlockView) (t : Transfer) (i : ℕ) → IsWithin m t → t.to ≤ t.from → i < t.count
    → with_one (with_bytes m t.to_block (front_put m t i)) t i ≡ with_bytes m t.to_block (front_put m t (i + 1))
up_more m t i w order l =
    let bytes = (block_at m t.to_block).bytes in
    let new = taken (block_at m t.from_block).bytes t.from t.count in
    let size : length new ≡ t.count = length-taken (block_at m t.from_block).bytes t.from t.count w.from_inside in
    let front : length (take i new) ≡ i = length-take-le i new (omega arith) in
    let inside : t.to + length (take i new) < length bytes = omega (arith, w.to_inside) in
    one_more m t i (front_put m t i) (front_put m t (i + 1)) w l
    (λ _. get-put_high bytes t.to (take i new) (t.from + i) Undef (omega arith))
    (ap (λ n. set (front_put m t i) (t.to + n) (get_or new i Undef)) (sym front)
    ∙ put-more bytes t.to (take i new) (get_or new i Undef) inside
    ∙ ap (put_bytes bytes t.to) (sym (take_more new i Undef (omega arith))))

pub up_all : (m : List BlockView) (t : Transfer) (i : ℕ) → IsWithin m t → t.count ≤ i → with_bytes m t.to_block (front_put m t i) ≡ moved m t
up_all m t i w l =
    let size : length (taken (block_at m t.from_block).bytes t.from t.count) ≡ t.count = length-taken (block_at m t.from_block).bytes t.from t.count w.from_inside in
    ap (λ new. with_bytes m t.to_block (put_bytes (block_at m t.to_block).bytes t.to new)) (take_all i _ (omega arith))

pub down_none : (m : List BlockView) (t : Transfer) (i : ℕ) → IsWithin m t → t.count ≤ i → with_bytes m t.to_block (rest_put m t i) ≡ m
down_none m t i w l =
    let size : length (taken (block_at m t.from_block).bytes t.from t.count) ≡ t.count = length-taken (block_at m t.from_block).bytes t.from t.count w.from_inside in
    ap (λ new. with_bytes m t.to_block (put_bytes (block_at m t.to_block).bytes (t.to + i) new)) (drop_all i _ (omega arith))
    ∙ ap (with_bytes m t.to_block) (put-none (block_at m t.to_block).bytes (t.to + i))
    ∙ with-own m t.to_block

pub down_more : (m : List BlockView) (t : Transfer) (i : ℕ) → IsWithin m t → t.from ≤ t.to → i < t.count
    → with_one (with_bytes m t.to_block (rest_put m t (suc i))) t i ≡ with_bytes m t.to_block (rest_put m t i)
down_more m t i w order l =
    let bytes = (block_at m t.to_block).bytes in
    let new = taken (block_at m t.from_block).bytes t.from t.count in
    let size : length new ≡ t.count = length-taken (block_at m t.from_block).bytes t.from t.count w.from_inside in
    let next : t.to + suc i ≡ suc (t.to + i) = omega arith in
    one_more m t i (rest_put m t (suc i)) (rest_put m t i) w l
    (λ _. get-put_low bytes (t.to + suc i) (drop (suc i) new) (t.from + i) Undef (omega arith))
    (ap (λ n. set (put_bytes bytes n (drop (suc i) new)) (t.to + i) (get_or new i Undef)) next
    ∙ put-before bytes (t.to + i) (drop (suc i) new) (get_or new i Undef) (omega (arith, w.to_inside))
    ∙ ap (put_bytes bytes (t.to + i)) (sym (drop-cons new i Undef (omega arith))))

pub down_all : (m : List BlockView) (t : Transfer) (i : ℕ) → i ≡ 0 → with_bytes m t.to_block (rest_put m t i) ≡ moved m t
down_all m t i e =
    let z : t.to + 0 ≡ t.to = omega arith in
    ap (λ n. with_bytes m t.to_block (rest_put m t n)) e
    ∙ ap (λ n. with_bytes m t.to_block (put_bytes (block_at m t.to_block).bytes n (taken (block_at m t.from_block).bytes t.from t.count))) z

-- the bytes of a block keep their number where as many are put in
length-kept : (m : List BlockView) (n p : ℕ) (bs : List Byte) → n < length m → length bs ≡ length (block_at m n).bytes → length (block_at (with_bytes m n bs) p).bytes ≡ length (block_at m p).bytes
length-kept m n p bs h same =
    elim (cases_eq p n) [
      | inl e ↦ subst (λ q. length (block_at (with_bytes m n bs) q).bytes ≡ length (block_at m q).bytes) (sym e) (ap length (bytes-same m n bs h) ∙ same)
      | inr apart ↦ ap (λ (b : BlockView). length b.bytes) (block-other m n p bs apart)
    ]

pub within_kept : (m l : List BlockView) (t : Transfer) (bs : List Byte) → IsWithin m t → length bs ≡ length (block_at m t.to_block).bytes → l ≡ with_bytes m t.to_block bs → IsWithin l t
within_kept m l t bs w same e =
    let size : length (with_bytes m t.to_block bs) ≡ length m = length-set m t.to_block _ in
    subst (λ (x : List BlockView). IsWithin x t) (sym e) (record {
      to_made = omega (arith, w.to_made);
      from_made = omega (arith, w.from_made);
      to_inside = omega (arith, w.to_inside, length-kept m t.to_block t.to_block bs w.to_made same);
      from_inside = omega (arith, w.from_inside, length-kept m t.to_block t.from_block bs w.to_made same);
    })

pub length-front : (m : List BlockView) (t : Transfer) (i : ℕ) → length (front_put m t i) ≡ length (block_at m t.to_block).bytes
length-front m t i = length-put (block_at m t.to_block).bytes t.to _

pub length-rest : (m : List BlockView) (t : Transfer) (i : ℕ) → length (rest_put m t i) ≡ length (block_at m t.to_block).bytes
length-rest m t i = length-put (block_at m t.to_block).bytes (t.to + i) _

-- then the pointers are cut
pub copied_is : (m l : List BlockView) (t : Transfer) → IsWithin m t → l ≡ moved m t → with_bytes l t.to_block (cut (block_at l t.to_block).bytes t.to t.count) ≡ copied m t
copied_is m l t w e =
    let new = taken (block_at m t.from_block).bytes t.from t.count in
    let put = put_bytes (block_at m t.to_block).bytes t.to new in
    ap (λ (x : List BlockView). with_bytes x t.to_block (cut (block_at x t.to_block).bytes t.to t.count)) e
    ∙ ap (λ bs. with_bytes (with_bytes m t.to_block put) t.to_block (cut bs t.to t.count)) (bytes-same m t.to_block put w.to_made)
    ∙ with-with m t.to_block put (cut put t.to t.count) w.to_made
    ∙ ap (λ n. with_bytes m t.to_block (cut put t.to n)) (sym (length-taken (block_at m t.from_block).bytes t.from t.count w.from_inside))

pub within_moved : (m l : List BlockView) (t : Transfer) → IsWithin m t → l ≡ moved m t → IsWithin l t
within_moved m l t w e = within_kept m l t _ w (length-put (block_at m t.to_block).bytes t.to _) e
