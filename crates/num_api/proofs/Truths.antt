-- What the truth of a comparison says of its sides.
use Rattle.std.proofs.Common.{arith, ℤ, pos, ◌≡◌, Option, Some, None, Bool, true, false, refl, sym, subst, ◌∙◌, ◌≤ℤ◌, ◌<ℤ◌}
use Rattle.std.specs.Prelude.{IsTrue, not}
use Rattle.std.specs.Int.RustNames.{int_le, int_lt}
use Rattle.std.specs.Ordering.{int_eq}
use Rattle.std.proofs.lemmas.Int.{ints}
use Rattle.std.proofs.lemmas.Option.{none-some}
use Rattle.std.proofs.lemmas.Bool.{false≢true, not-true, not-false, not_from_false}
use Rattle.std.proofs.lemmas.Bool.Decides.{Decides-int_eq}
use Rattle.num_api.specs.declared.expr.NOp.{NOp}
use Rattle.num_api.specs.declared.expr.NOp.TheVariants.{Eq, Ne, Lt, Le}
use Rattle.num_api.specs.Value.{binary_value, truth, has_truth}
use Rattle.num_api.specs.Plain.{Standing, less, at_most, greater, at_least, same, other, standing, turned}
use Rattle.num_api.specs.Standings.{Stands}

-- ---- standings

pub turned_stands : (how : Standing) (x y : ℤ) → Stands how x y → Stands (turned how) y x
turned_stands less x y h = h
turned_stands at_most x y h = h
turned_stands greater x y h = h
turned_stands at_least x y h = h
turned_stands same x y h = sym h
turned_stands other x y h = λ e. h (sym e)

-- a truth value of the wanted truth is that truth
pub truth_is : (b wanted : Bool) (n : ℤ) → Some (truth b) ≡ Some n → IsTrue (has_truth wanted n) → b ≡ wanted
truth_is true true n e h = refl
truth_is true false n e h = let is : pos 1 ≡ n = cc in absurd (false≢true (subst (λ (m : ℤ). IsTrue (has_truth false m)) (sym is) h))
truth_is false true n e h = let is : pos 0 ≡ n = cc in absurd (false≢true (subst (λ (m : ℤ). IsTrue (has_truth true m)) (sym is) h))
truth_is false false n e h = refl

eq_true : (x y : ℤ) → int_eq x y ≡ true → x ≡ y
eq_true x y e = (Decides-int_eq x y).0 e

eq_false : (x y : ℤ) → int_eq x y ≡ false → x ≡ y → ⊥
eq_false x y e s = false≢true (sym e ∙ (Decides-int_eq x y).1 s)

lt_true : (x y : ℤ) → int_lt x y ≡ true → x <ℤ y
lt_true x y e = grind (arith, ints)

lt_false : (x y : ℤ) → int_lt x y ≡ false → y ≤ℤ x
lt_false x y e = grind (arith, ints)

le_true : (x y : ℤ) → int_le x y ≡ true → x ≤ℤ y
le_true x y e = grind (arith, ints)

le_false : (x y : ℤ) → int_le x y ≡ false → y <ℤ x
le_false x y e = grind (arith, ints)

so : (found how : Standing) (x y : ℤ) → Some found ≡ Some how → Stands found x y → Stands how x y
so found how x y e h = let is : found ≡ how = cc in subst (λ (s : Standing). Stands s x y) is h

-- a comparison of this truth has sides that stand so
pub op_stands : (op : NOp) (wanted : Bool) (how : Standing) (x y n : ℤ) → standing op wanted ≡ Some how → binary_value op x y ≡ Some n → IsTrue (has_truth wanted n) → Stands how x y
op_stands Eq true how x y n e f h = so same how x y e (eq_true x y (truth_is (int_eq x y) true n f h))
op_stands Eq false how x y n e f h = so other how x y e (eq_false x y (truth_is (int_eq x y) false n f h))
op_stands Ne true how x y n e f h = so other how x y e (eq_false x y (not-true (int_eq x y) (truth_is (not (int_eq x y)) true n f h)))
op_stands Ne false how x y n e f h = so same how x y e (eq_true x y (not-false (int_eq x y) (truth_is (not (int_eq x y)) false n f h)))
op_stands Lt true how x y n e f h = so less how x y e (lt_true x y (truth_is (int_lt x y) true n f h))
op_stands Lt false how x y n e f h = so at_least how x y e (lt_false x y (truth_is (int_lt x y) false n f h))
op_stands Le true how x y n e f h = so at_most how x y e (le_true x y (truth_is (int_le x y) true n f h))
op_stands Le false how x y n e f h = so greater how x y e (le_false x y (truth_is (int_le x y) false n f h))
op_stands op wanted how x y n e f h = absurd (none-some how e)

pub turned_truth : (wanted : Bool) (m : ℤ) → int_eq m (pos 0) ≡ wanted → IsTrue (has_truth (not wanted) m)
turned_truth true m e = e
turned_truth false m e = not_from_false (int_eq m (pos 0)) e
