-- Tails of the tokens: where a reading that goes forward stands.
use Rattle.std.proofs.Common.{◌≡◌, ℕ, suc, ◌<◌, ◌≤◌, List, [], ◌∷◌, ◌++◌, refl, sym, ap, subst, ◌⊎◌, inl, inr, arith}
use Rattle.c_syntax_written.specs.declared.token.Placed.{Placed}

-- the first is the second, or a tail of it
pub data Tail : List Placed → List Placed → Type 0 where
  same : {ts : List Placed} → Tail ts ts
  behind : {s ts : List Placed} {t : Placed} → Tail s ts → Tail s (t ∷ ts)

-- the first is a tail of the second, and shorter
pub data Past : List Placed → List Placed → Type 0 where
  past : {s ts : List Placed} {t : Placed} → Tail s ts → Past s (t ∷ ts)

-- there is a token
abbrev pub Nonempty : List Placed → Type 0
Nonempty [] = ⊥
Nonempty (t ∷ ts) = Unit {0}

pub tail_trans : {a b c : List Placed} → Tail a b → Tail b c → Tail a c
tail_trans x same = x
tail_trans x (behind y) = behind (tail_trans x y)

pub past_tail : {a b : List Placed} → Past a b → Tail a b
past_tail (past x) = behind x

pub tail_past : {a b c : List Placed} → Tail a b → Past b c → Past a c
tail_past x (past y) = past (tail_trans x y)

pub past_trans : {a b c : List Placed} → Past a b → Tail b c → Past a c
past_trans x same = x
past_trans x (behind y) = past (tail_trans (past_tail x) y)

pub past_inv : {a s : List Placed} {t : Placed} → Past a (t ∷ s) → Tail a s
past_inv (past x) = x

pub past_nonempty : {a b : List Placed} → Past a b → Nonempty b
past_nonempty (past x) = tt

pub tail_split : {a b : List Placed} → Tail a b → (a ≡ b) ⊎ Past a b
tail_split same = inl refl
tail_split (behind x) = inr (past x)

abbrev pub size : List Placed → ℕ
size [] = 0
size (t ∷ ts) = suc (size ts)

pub tail_size : {a b : List Placed} → Tail a b → size a ≤ size b
tail_size same = omega arith
tail_size (behind x) = let h = tail_size x in omega arith

pub past_size : {a b : List Placed} → Past a b → size a < size b
past_size (past x) = let h = tail_size x in omega arith

pub past_back : {a b : List Placed} → Past a b → Tail b a → ⊥
past_back x y = let h = past_size x in let i = tail_size y in omega arith

pub past_same : {a b : List Placed} → Past a b → a ≡ b → ⊥
past_same {a} {b} x e = past_back x (subst (λ v. Tail v a) e same)

-- two tails of one list
pub compare : {a b c : List Placed} → Tail a c → Tail b c → Tail a b ⊎ Past b a
compare x same = inl x
compare same (behind y) = inr (past y)
compare (behind x) (behind y) = compare x y

-- between two that are the same
pub tail_between : {a b c : List Placed} → Tail a b → Tail b c → c ≡ a → b ≡ c
tail_between {a} {b} {c} x y e = elim (tail_split y) [ inl h ↦ h | inr h ↦ absurd (past_back h (subst (λ v. Tail v b) (sym e) x)) ]

pub tail_front : {a b : List Placed} → Tail a b → (front : List Placed) × (b ≡ front ++ a)
tail_front same = ([], refl)
tail_front (behind {t = t} x) = let i = tail_front x in (t ∷ i.0, ap (λ v. t ∷ v) i.1)

pub front_tail : (front a : List Placed) → Tail a (front ++ a)
front_tail [] a = same
front_tail (t ∷ front) a = behind (front_tail front a)
