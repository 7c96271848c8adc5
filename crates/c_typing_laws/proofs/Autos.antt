-- Which objects of a program are automatic, counted one by one.
use Rattle.std.proofs.Common.{◌≡◌, ℕ, zero, suc, ◌+◌, true, false, List, [], ◌∷◌, ◌++◌, length, refl, ap, sym, ◌∙◌, arith}
use Rattle.std.specs.Prelude.{Bool, ◌==◌, cond, if◌then◌else◌, Option, None, Some, option_map, unwrap_or, All, map, set, slice_get, count_by}
use Rattle.std.proofs.lemmas.Bool.{eq-eqb, ne_eqb, eqb-true, false≢true}
use Rattle.std.proofs.lemmas.Option.{same_Some}
use Rattle.std.proofs.lemmas.List.{append-nil, append_assoc, length_push}
use Rattle.std.proofs.lemmas.List.Elements.{All-head, All-tail}
use Rattle.std.proofs.lemmas.List.Sums.{sum_by-cons, sum_by-append}
use Rattle.c_syntax.specs.Types.{CTypeTree, ObjectTree}
use Rattle.c_typing.specs.World.{World}
use Rattle.c_typing.specs.Declarators.{ParameterTree}
use Rattle.c_typing.specs.Decls.{parameter_object, sized_object, with_sized, numbers_from}
use Rattle.c_typing_laws.proofs.Calm.{IsLiteral}

-- how often a number stands in a list
abbrev pub count : ℕ → List ℕ → ℕ
count o xs = count_by (λ x. x == o) xs

-- 1 where the object of this number is automatic
abbrev pub auto : List ObjectTree → ℕ → ℕ
auto objects o = unwrap_or (option_map (λ x. if x.is_static then 0 else 1) (slice_get objects o)) 0

pub count_cons : (o n : ℕ) (xs : List ℕ) → count o (n ∷ xs) ≡ cond (n == o) 1 0 + count o xs
count_cons o n xs = sum_by-cons (λ x. cond (x == o) 1 0) n xs

pub count_append : (o : ℕ) (xs ys : List ℕ) → count o (xs ++ ys) ≡ count o xs + count o ys
count_append o xs ys = sum_by-append (λ x. cond (x == o) 1 0) xs ys

count_one : (o n : ℕ) → count o (n ∷ []) ≡ cond (n == o) 1 0
count_one o n = count_cons o n [] ∙ omega arith

same_suc : (n k : ℕ) → (suc n == suc k) ≡ (n == k)
same_suc n k = by (n == k) refl
  where
    by : (b : Bool) → (n == k) ≡ b → (suc n == suc k) ≡ b
    by true e = eq-eqb (suc n) (suc k) (ap suc (eqb-true n k e))
    by false e = ne_eqb (suc n) (suc k) (λ h. false≢true (sym e ∙ eq-eqb n k (omega (arith, h))))

-- one object more
pub auto_push : (xs : List ObjectTree) (x : ObjectTree) (o : ℕ) → auto (xs ++ x ∷ []) o ≡ auto xs o + (if x.is_static then 0 else count o (length xs ∷ []))
auto_push [] x zero = by x.is_static
  where
    by : (b : Bool) → (if b then 0 else 1) ≡ 0 + (if b then 0 else count 0 (0 ∷ []))
    by true = refl
    by false = sym (ap (λ n. 0 + n) (count_one 0 0))
auto_push [] x (suc o) = by x.is_static
  where
    by : (b : Bool) → 0 ≡ 0 + (if b then 0 else count (suc o) (0 ∷ []))
    by true = refl
    by false = sym (ap (λ n. 0 + n) (count_one (suc o) 0 ∙ ap (λ b. cond b 1 0) (ne_eqb 0 (suc o) (λ h. omega (arith, h)))))
auto_push (y ∷ ys) x zero = by x.is_static
  where
    by : (b : Bool) → (if y.is_static then 0 else 1) ≡ (if y.is_static then 0 else 1) + (if b then 0 else count 0 (suc (length ys) ∷ []))
    by true = omega arith
    by false = let e = count_one 0 (suc (length ys)) ∙ ap (λ b. cond b 1 0) (ne_eqb (suc (length ys)) 0 (λ h. omega (arith, h))) in omega (arith, e)
auto_push (y ∷ ys) x (suc o) = auto_push ys x o ∙ ap (λ n. auto ys o + n) (by x.is_static)
  where
    by : (b : Bool) → (if b then 0 else count o (length ys ∷ [])) ≡ (if b then 0 else count (suc o) (suc (length ys) ∷ []))
    by true = refl
    by false = count_one o (length ys) ∙ ap (λ b. cond b 1 0) (sym (same_suc (length ys) o)) ∙ sym (count_one (suc o) (suc (length ys)))

pub auto_static : (xs : List ObjectTree) (x : ObjectTree) (o : ℕ) → x.is_static ≡ true → auto (xs ++ x ∷ []) o ≡ auto xs o
auto_static xs x o e = auto_push xs x o ∙ ap (λ b. auto xs o + (if b then 0 else count o (length xs ∷ []))) e ∙ omega arith

pub auto_more : (xs : List ObjectTree) (x : ObjectTree) (o : ℕ) → x.is_static ≡ false → auto (xs ++ x ∷ []) o ≡ auto xs o + count o (length xs ∷ [])
auto_more xs x o e = auto_push xs x o ∙ ap (λ b. auto xs o + (if b then 0 else count o (length xs ∷ []))) e

-- literals are static
pub auto_literals : (xs extra : List ObjectTree) (o : ℕ) → All IsLiteral extra → auto (xs ++ extra) o ≡ auto xs o
auto_literals xs [] o all = ap (λ l. auto l o) (append-nil xs)
auto_literals xs (x ∷ rest) o all =
    ap (λ l. auto l o) (sym (append_assoc xs (x ∷ []) rest)) ∙ auto_literals (xs ++ x ∷ []) rest o (All-tail IsLiteral x rest all)
    ∙ auto_static xs x o (ap (λ y. y.is_static) (All-head IsLiteral x rest all).is)

-- parameters are automatic, each by its number
pub auto_parameters :
    (w : World) (params : List ParameterTree) (xs : List ObjectTree) (o : ℕ)
    → auto (xs ++ map (parameter_object w) params) o ≡ auto xs o + count o (numbers_from (length xs) (length params))
unfolding numbers_from
auto_parameters w [] xs o = ap (λ l. auto l o) (append-nil xs) ∙ omega arith
auto_parameters w (param ∷ rest) xs o =
    let x = parameter_object w param in
    let one = auto_more xs x o refl in
    let more = auto_parameters w rest (xs ++ x ∷ []) o in
    let place = ap (λ n. count o (numbers_from n (length rest))) (length_push xs x) in
    let first = count_append o (length xs ∷ []) (numbers_from (length xs + 1) (length rest)) in
    ap (λ l. auto l o) (sym (append_assoc xs (x ∷ []) (map (parameter_object w) rest))) ∙ more
    ∙ ap (λ n. n + count o (numbers_from (length (xs ++ x ∷ [])) (length rest))) one
    ∙ omega (arith, place, first)

-- an object that stays as long as it did
auto_set : (xs : List ObjectTree) (n : ℕ) (x y : ObjectTree) (o : ℕ) → slice_get xs n ≡ Some x → y.is_static ≡ x.is_static → auto (set xs n y) o ≡ auto xs o
auto_set [] n x y o e s = refl
auto_set (z ∷ zs) zero x y zero e s = ap (λ b. if b then 0 else 1) (s ∙ ap (λ q. q.is_static) (sym (same_Some z x e)))
auto_set (z ∷ zs) zero x y (suc o) e s = refl
auto_set (z ∷ zs) (suc n) x y zero e s = refl
auto_set (z ∷ zs) (suc n) x y (suc o) e s = auto_set zs n x y o e s

pub auto_sized : (w : World) (n : ℕ) (ty : CTypeTree) (size o : ℕ) → auto (with_sized w n ty size).objects o ≡ auto w.objects o
auto_sized w n ty size o = by (slice_get w.objects n) refl
  where
    by : (found : Option ObjectTree) → slice_get w.objects n ≡ found → auto (unwrap_or (option_map (λ object. set w.objects n (sized_object ty size object)) found) w.objects) o ≡ auto w.objects o
    by None e = refl
    by (Some x) e = auto_set w.objects n x (sized_object ty size x) o e refl
