-- What stands in lists, and lists of places of which no two are one.
use Rattle.std.proofs.Common.{◌≡◌, ℕ, zero, suc, ◌<◌, List, [], ◌∷◌, ◌++◌, length, get_or, refl, sym, subst, arith}
use Rattle.std.specs.Prelude.{Contains}
use Rattle.c_syntax_written.specs.declared.place.Pos.{Pos}

pub data IsIn {A : Type 0} (x : A) : List A → Type 0 where
  here : {xs : List A} → IsIn x (x ∷ xs)
  there : {y : A} {xs : List A} → IsIn x xs → IsIn x (y ∷ xs)

pub in_left : {A : Type 0} {x : A} {xs : List A} (ys : List A) → IsIn x xs → IsIn x (xs ++ ys)
in_left ys here = here
in_left ys (there i) = there (in_left ys i)

pub in_right : {A : Type 0} {x : A} (xs : List A) {ys : List A} → IsIn x ys → IsIn x (xs ++ ys)
in_right [] i = i
in_right (x ∷ xs) i = there (in_right xs i)

-- what stands in one list or the other
pub data EitherIn {A : Type 0} (x : A) (xs ys : List A) : Type 0 where
  in_first : IsIn x xs → EitherIn x xs ys
  in_second : IsIn x ys → EitherIn x xs ys

either_there : {A : Type 0} {x y : A} {xs ys : List A} → EitherIn x xs ys → EitherIn x (y ∷ xs) ys
either_there (in_first i) = in_first (there i)
either_there (in_second i) = in_second i

pub in_either : {A : Type 0} {x : A} (xs ys : List A) → IsIn x (xs ++ ys) → EitherIn x xs ys
in_either [] ys i = in_second i
in_either (x ∷ xs) ys here = in_first here
in_either (x ∷ xs) ys (there i) = either_there (in_either xs ys i)

contained : {A : Type 0} (x : A) (xs : List A) (k : ℕ) → k < length xs → get_or xs k x ≡ x → IsIn x xs
contained x [] k h e = absurd (omega arith)
contained x (y ∷ xs) zero h e = subst (λ z. IsIn x (z ∷ xs)) (sym e) here
contained x (y ∷ xs) (suc k) h e = there (contained x xs k (omega arith) e)

pub from_contains : {A : Type 0} (xs : List A) (x : A) → Contains xs x → IsIn x xs
from_contains xs x c = contained x xs c.0 c.1 c.2

to_place : {A : Type 0} (x : A) (xs : List A) → IsIn x xs → (k : ℕ) × (k < length xs) × (get_or xs k x ≡ x)
to_place x [] i = elim i [ ]
to_place x (y ∷ xs) here = (zero, omega arith, refl)
to_place x (y ∷ xs) (there i) = let p = to_place x xs i in (suc p.0, omega (arith, p.1), p.2)

pub to_contains : {A : Type 0} (xs : List A) (x : A) → IsIn x xs → Contains xs x
to_contains xs x i = to_place x xs i

-- ---- parts of lists

-- all that stands in the first stands in the second
pub record Within {A : Type 0} (xs ys : List A) : Type 0 where
  pub each : (x : A) → IsIn x xs → IsIn x ys

pub within_same : {A : Type 0} {xs ys : List A} → xs ≡ ys → Within xs ys
within_same e = record { each = λ x i. subst (IsIn x) e i }

pub within_itself : {A : Type 0} {xs : List A} → Within xs xs
within_itself = record { each = λ x i. i }

pub within_nothing : {A : Type 0} {ys : List A} → Within [] ys
within_nothing = record { each = λ x i. elim i [ ] }

pub within_then : {A : Type 0} {xs ys zs : List A} → Within xs ys → Within ys zs → Within xs zs
within_then f g = record { each = λ x i. g.each x (f.each x i) }

by_either : {A : Type 0} {x : A} {us vs xs ys : List A} → Within us xs → Within vs ys → EitherIn x us vs → IsIn x (xs ++ ys)
by_either {x = x} {ys = ys} f g (in_first i) = in_left ys (f.each x i)
by_either {x = x} {xs = xs} f g (in_second i) = in_right xs (g.each x i)

pub within_both : {A : Type 0} {us vs xs ys : List A} → Within us xs → Within vs ys → Within (us ++ vs) (xs ++ ys)
within_both {us = us} {vs = vs} f g = record { each = λ x i. by_either f g (in_either us vs i) }

pub within_left : {A : Type 0} {xs ys : List A} (zs : List A) → Within xs ys → Within xs (ys ++ zs)
within_left zs f = record { each = λ x i. in_left zs (f.each x i) }

pub within_right : {A : Type 0} {xs zs : List A} (ys : List A) → Within xs zs → Within xs (ys ++ zs)
within_right ys f = record { each = λ x i. in_right ys (f.each x i) }

-- ---- no two places are one

unfoldable pub Distinct : List Pos → Type 0
Distinct [] = Unit {0}
Distinct (p ∷ ps) = (IsIn p ps → ⊥) × Distinct ps

pub distinct_left : (ps qs : List Pos) → Distinct (ps ++ qs) → Distinct ps
unfolding Distinct
distinct_left [] qs d = tt
distinct_left (p ∷ ps) qs d = (λ i. d.0 (in_left qs i), distinct_left ps qs d.1)

pub distinct_right : (ps qs : List Pos) → Distinct (ps ++ qs) → Distinct qs
unfolding Distinct
distinct_right [] qs d = d
distinct_right (p ∷ ps) qs d = distinct_right ps qs d.1

pub distinct_apart : {p : Pos} (ps qs : List Pos) → Distinct (ps ++ qs) → IsIn p ps → IsIn p qs → ⊥
unfolding Distinct
distinct_apart [] qs d i j = elim i [ ]
distinct_apart (p ∷ ps) qs d here j = d.0 (in_right ps j)
distinct_apart (p ∷ ps) qs d (there i) j = distinct_apart ps qs d.1 i j

pub distinct_first : (p : Pos) (ps : List Pos) → Distinct (p ∷ ps) → IsIn p ps → ⊥
unfolding Distinct
distinct_first p ps d = d.0

pub distinct_rest : (p : Pos) (ps : List Pos) → Distinct (p ∷ ps) → Distinct ps
unfolding Distinct
distinct_rest p ps d = d.1
