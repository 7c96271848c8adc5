-- The structs that a list of tags declares and does not define yet.
use Rattle.std.proofs.Common.{◌≡◌, sym, subst, inl, inr, ⊎_elim}
use Rattle.std.specs.Prelude.{ℕ, zero, suc, ◌⊎◌, Bool, true, false, if◌then◌else◌, Some, None, List, [], ◌∷◌, ◌++◌, map, take, drop, find, bytes_eq}
use Rattle.c_syntax_written.specs.declared.place.Pos.{Pos}
use Rattle.c_typing.specs.World.{TagBinding, TagMeaning, StructTag}
use Rattle.c_typing.specs.Names.{tag_become}

-- a tag that declares this struct, which no word of its scope defines yet
pub record Opens (n : ℕ) (b : TagBinding) : Type 0 where
  pub declared : b.meaning ≡ StructTag n
  pub undefined : b.defined ≡ None

-- one of the tags is such
abbrev pub IsOpen : ℕ → List TagBinding → Type 0
IsOpen n [] = ⊥
IsOpen n (b ∷ rest) = Opens n b ⊎ IsOpen n rest

-- no two of the tags declare one struct, unless it is defined
abbrev pub AreDistinct : List TagBinding → Type 0
AreDistinct [] = Unit {0}
AreDistinct (b ∷ rest) = ((n : ℕ) → Opens n b → IsOpen n rest → ⊥) × AreDistinct rest

pub open_left : (n : ℕ) (xs ys : List TagBinding) → IsOpen n xs → IsOpen n (xs ++ ys)
open_left n [] ys p = absurd p
open_left n (x ∷ xs) ys p = ⊎_elim (λ a. inl a) (λ a. inr (open_left n xs ys a)) p

pub open_right : (n : ℕ) (xs ys : List TagBinding) → IsOpen n ys → IsOpen n (xs ++ ys)
open_right n [] ys p = p
open_right n (x ∷ xs) ys p = inr (open_right n xs ys p)

pub open_either : (n : ℕ) (xs ys : List TagBinding) → IsOpen n (xs ++ ys) → IsOpen n xs ⊎ IsOpen n ys
open_either n [] ys p = inr p
open_either n (x ∷ xs) ys (inl a) = inl (inl a)
open_either n (x ∷ xs) ys (inr a) = ⊎_elim (λ l. inl (inr l)) (λ r. inr r) (open_either n xs ys a)

pub open_take : (n k : ℕ) (xs : List TagBinding) → IsOpen n (take k xs) → IsOpen n xs
open_take n zero xs p = absurd p
open_take n (suc k) [] p = p
open_take n (suc k) (x ∷ xs) p = ⊎_elim (λ a. inl a) (λ a. inr (open_take n k xs a)) p

pub open_drop : (n k : ℕ) (xs : List TagBinding) → IsOpen n (drop k xs) → IsOpen n xs
open_drop n zero xs p = p
open_drop n (suc k) [] p = p
open_drop n (suc k) (x ∷ xs) p = inr (open_drop n k xs p)

-- what is open in front is not open behind
pub open_apart : (n k : ℕ) (xs : List TagBinding) → AreDistinct xs → IsOpen n (take k xs) → IsOpen n (drop k xs) → ⊥
open_apart n zero xs d p q = p
open_apart n (suc k) [] d p q = p
open_apart n (suc k) (x ∷ xs) d (inl a) q = d.0 n a (open_drop n k xs q)
open_apart n (suc k) (x ∷ xs) d (inr a) q = open_apart n k xs d.1 a q

pub distinct_take : (k : ℕ) (xs : List TagBinding) → AreDistinct xs → AreDistinct (take k xs)
distinct_take zero xs d = tt
distinct_take (suc k) [] d = tt
distinct_take (suc k) (x ∷ xs) d = (λ n a p. d.0 n a (open_take n k xs p), distinct_take k xs d.1)

pub distinct_drop : (k : ℕ) (xs : List TagBinding) → AreDistinct xs → AreDistinct (drop k xs)
distinct_drop zero xs d = d
distinct_drop (suc k) [] d = tt
distinct_drop (suc k) (x ∷ xs) d = distinct_drop k xs d.1

pub distinct_append : (xs ys : List TagBinding) → AreDistinct xs → AreDistinct ys → ((n : ℕ) → IsOpen n xs → IsOpen n ys → ⊥) → AreDistinct (xs ++ ys)
distinct_append [] ys d e f = e
distinct_append (x ∷ xs) ys d e f =
    (λ n a p. ⊎_elim (λ l. d.0 n a l) (λ r. f n (inl a) r) (open_either n xs ys p), distinct_append xs ys d.1 e (λ n p q. f n (inr p) q))

-- ---- tags that are defined

-- a tag that is defined declares no open struct, and others stay as they are
pub opens_before : (n : ℕ) (at : Pos) (m : TagMeaning) (b : TagBinding) (here : Bool) → Opens n (if here then record b { defined = Some at; meaning = m } else b) → Opens n b
opens_before n at m b true p = let e : Some at ≡ None = p.undefined in cc
opens_before n at m b false p = p

pub open_before : (n : ℕ) (at : Pos) (m : TagMeaning) (tag : List ℕ) (xs : List TagBinding) → IsOpen n (map (tag_become (Some at) m tag) xs) → IsOpen n xs
open_before n at m tag [] p = p
open_before n at m tag (x ∷ xs) p =
    ⊎_elim (λ a. inl (opens_before n at m x (bytes_eq x.tag tag) a)) (λ a. inr (open_before n at m tag xs a)) p

pub distinct_before : (at : Pos) (m : TagMeaning) (tag : List ℕ) (xs : List TagBinding) → AreDistinct xs → AreDistinct (map (tag_become (Some at) m tag) xs)
distinct_before at m tag [] d = tt
distinct_before at m tag (x ∷ xs) d =
    (λ n a p. d.0 n (opens_before n at m x (bytes_eq x.tag tag) a) (open_before n at m tag xs p), distinct_before at m tag xs d.1)

-- the tag of this name is one that declares the struct
pub found_open : (n : ℕ) (tag : List ℕ) (xs : List TagBinding) (b : TagBinding) → find (λ c. bytes_eq c.tag tag) xs ≡ Some b → Opens n b → IsOpen n xs
found_open n tag [] b e p = cc
found_open n tag (x ∷ xs) b e p = by (bytes_eq x.tag tag) e (λ q. found_open n tag xs b q p)
  where
    by :
        (here : Bool) → (if here then Some x else find (λ c. bytes_eq c.tag tag) xs) ≡ Some b
        → (find (λ c. bytes_eq c.tag tag) xs ≡ Some b → IsOpen n xs) → IsOpen n (x ∷ xs)
    by true q again = let s : x ≡ b = cc in inl (subst (λ c. Opens n c) (sym s) p)
    by false q again = inr (again q)

-- and after it is defined there none does
pub found_closed :
    (n : ℕ) (at : Pos) (m : TagMeaning) (tag : List ℕ) (xs : List TagBinding) (b : TagBinding)
    → AreDistinct xs → find (λ c. bytes_eq c.tag tag) xs ≡ Some b → Opens n b → IsOpen n (map (tag_become (Some at) m tag) xs) → ⊥
found_closed n at m tag [] b d e p q = q
found_closed n at m tag (x ∷ xs) b d e p q = by (bytes_eq x.tag tag) e q (λ s a. found_closed n at m tag xs b d.1 s p a)
  where
    by :
        (here : Bool) → (if here then Some x else find (λ c. bytes_eq c.tag tag) xs) ≡ Some b
        → Opens n (if here then record x { defined = Some at; meaning = m } else x) ⊎ IsOpen n (map (tag_become (Some at) m tag) xs)
        → (find (λ c. bytes_eq c.tag tag) xs ≡ Some b → IsOpen n (map (tag_become (Some at) m tag) xs) → ⊥) → ⊥
    by true s (inl a) again = let u : Some at ≡ None = a.undefined in cc
    by true s (inr a) again = let u : x ≡ b = cc in d.0 n (subst (λ c. Opens n c) (sym u) p) (open_before n at m tag xs a)
    by false s (inl a) again = d.0 n a (found_open n tag xs b s p)
    by false s (inr a) again = again s a
