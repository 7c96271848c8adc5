-- Facts of steps that the calls of a ramp and what stands on ramps need.
use Rattle.std.proofs.Common.{ℕ, ℤ, pos, ◌≡◌, ◌+◌, ◌<◌, ◌≤◌, neg_ℤ, ◌≤ℤ◌, ◌<ℤ◌, List, [], ◌∷◌, ◌++◌, Option, None, Some, IfSome, length, map, reverse, All, cond, true, false, refl, sym, ◌∙◌, ap, arith}
use Rattle.std.specs.Option.{option_map}
use Rattle.std.specs.Int.RustNames.{int_le}
use Rattle.std.proofs.lemmas.Int.{ints, by_lt_z}
use Rattle.std.proofs.lemmas.List.{reverse-append}
use Rattle.std.proofs.lemmas.List.Elements.{All-head, All-tail}
use Rattle.num_api.specs.Steps.{IsSmall, least, greatest, later, steps_above, steps_below}

-- ---- one step at the front

pub least-hit : (x n : ℤ) (xs : List ℤ) → n ≤ℤ x → least (x ∷ xs) n ≡ Some x
least-hit x n xs h = grind (arith, ints)

pub least-miss : (x n : ℤ) (xs : List ℤ) → x <ℤ n → least (x ∷ xs) n ≡ least xs n
least-miss x n xs h = grind (arith, ints)

-- ---- what is answered is small

pub least-small : (xs : List ℤ) (n s : ℤ) → All IsSmall xs → least xs n ≡ Some s → IsSmall s
least-small [] n s small e = cc
least-small (x ∷ xs) n s small e = by_lt_z x n
    (λ below. least-small xs n s (All-tail IsSmall x xs small) (sym (least-miss x n xs below) ∙ e))
    (λ over. let same : Some x ≡ Some s = sym (least-hit x n xs over) ∙ e in let one : x ≡ s = cc in rw (← one) (All-head IsSmall x xs small))

pub least-IfSome : (xs : List ℤ) (n : ℤ) (r : Option ℤ) → All IsSmall xs → r ≡ least xs n → IfSome r IsSmall
least-IfSome xs n None small e = tt
least-IfSome xs n (Some s) small e = least-small xs n s small (sym e)

-- ---- the greatest step is the negation of the least of the negations

-- the first of two, where it is there, and else the second
abbrev earlier : Option ℤ → Option ℤ → Option ℤ
earlier None b = b
earlier (Some x) b = Some x

least-last : (xs : List ℤ) (z m : ℤ) → least (xs ++ z ∷ []) m ≡ earlier (least xs m) (cond (int_le m z) (Some z) None)
least-last [] z m = refl
least-last (x ∷ xs) z m = by_lt_z x m
    (λ below. least-miss x m (xs ++ z ∷ []) below ∙ least-last xs z m ∙ ap (λ o. earlier o (cond (int_le m z) (Some z) None)) (sym (least-miss x m xs below)))
    (λ over. least-hit x m (xs ++ z ∷ []) over ∙ ap (λ o. earlier o (cond (int_le m z) (Some z) None)) (sym (least-hit x m xs over)))

negated-later : (a b : Option ℤ) → earlier (option_map neg_ℤ b) (option_map neg_ℤ a) ≡ option_map neg_ℤ (later a b)
negated-later a None = refl
negated-later a (Some x) = refl

le-negated : (x n : ℤ) → cond (int_le (neg_ℤ n) (neg_ℤ x)) (Some (neg_ℤ x)) None ≡ option_map neg_ℤ (cond (int_le x n) (Some x) None)
le-negated x n = by_lt_z n x
    (λ below. let e : int_le x n ≡ false = grind (arith, ints) in let f : int_le (neg_ℤ n) (neg_ℤ x) ≡ false = grind (arith, ints) in rw (e, f) refl)
    (λ over. let e : int_le x n ≡ true = grind (arith, ints) in let f : int_le (neg_ℤ n) (neg_ℤ x) ≡ true = grind (arith, ints) in rw (e, f) refl)

pub least-of_negations : (xs : List ℤ) (n : ℤ) → least (reverse (map neg_ℤ xs)) (neg_ℤ n) ≡ option_map neg_ℤ (greatest xs n)
least-of_negations [] n = refl
least-of_negations (x ∷ xs) n =
    ap (λ l. least l (neg_ℤ n)) (reverse-append (neg_ℤ x ∷ []) (map neg_ℤ xs))
    ∙ least-last (reverse (map neg_ℤ xs)) (neg_ℤ x) (neg_ℤ n)
    ∙ ap (λ o. earlier o (cond (int_le (neg_ℤ n) (neg_ℤ x)) (Some (neg_ℤ x)) None)) (least-of_negations xs n)
    ∙ ap (λ o. earlier (option_map neg_ℤ (greatest xs n)) o) (le-negated x n)
    ∙ negated-later (cond (int_le x n) (Some x) None) (greatest xs n)

neg-neg : (n : ℤ) → neg_ℤ (neg_ℤ n) ≡ n
neg-neg n = omega (arith, ints)

negated-twice : (o : Option ℤ) → option_map neg_ℤ (option_map neg_ℤ o) ≡ o
negated-twice None = refl
negated-twice (Some x) = ap Some (neg-neg x)

pub greatest-negated : (xs : List ℤ) (n : ℤ) → reverse (map neg_ℤ xs) ≡ xs → option_map neg_ℤ (least xs (neg_ℤ n)) ≡ greatest xs n
greatest-negated xs n mirrored =
    ap (λ l. option_map neg_ℤ (least l (neg_ℤ n))) (sym mirrored) ∙ ap (option_map neg_ℤ) (least-of_negations xs n) ∙ negated-twice (greatest xs n)

-- what `fall` answers, from what `rise` answered
pub fall-negation : (xs : List ℤ) (n m : ℤ) (o r : Option ℤ) → m ≡ neg_ℤ n → o ≡ least xs m → r ≡ option_map neg_ℤ o → r ≡ option_map neg_ℤ (least xs (neg_ℤ n))
fall-negation xs n m o r same rose negated = negated ∙ ap (option_map neg_ℤ) (rose ∙ ap (least xs) same)

pub negated-some : (s z : ℤ) → z ≡ neg_ℤ s → Some z ≡ option_map neg_ℤ (Some s)
negated-some s z e = ap Some e
