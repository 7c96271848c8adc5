-- One end of a sum, a difference or a negation by itself.
use Rattle.std.proofs.Common.{◌≡◌, ℤ, ◌+ℤ◌, ◌-ℤ◌, neg_ℤ, FitsSigned, ap, sym, subst, ◌∙◌, arith}
use Rattle.std.proofs.lemmas.Int.{ints}
use mir.Syntax.{w128}
use Rattle.ext_int.specs.declared.Ext.{Ext}
use Rattle.ext_int.specs.declared.Ext.TheVariants.{Fin}
use Rattle.ext_int.specs.Ext.{sum_low, sum_high, negation, rounded_low, rounded_high}
use Rattle.ext_int.proofs.Ends.{low_end-fits, high_end-fits}

pub sum_low_is : (e a b : Ext) (p q : ℤ) → e ≡ sum_low a b → a ≡ Fin p → b ≡ Fin q → FitsSigned w128 (p +ℤ q) → e ≡ Fin (p +ℤ q)
sum_low_is e a b p q is f g fits = is ∙ ap (λ (x : Ext). sum_low x b) f ∙ ap (sum_low (Fin p)) g ∙ low_end-fits (p +ℤ q) fits

pub sum_high_is : (e a b : Ext) (p q : ℤ) → e ≡ sum_high a b → a ≡ Fin p → b ≡ Fin q → FitsSigned w128 (p +ℤ q) → e ≡ Fin (p +ℤ q)
sum_high_is e a b p q is f g fits = is ∙ ap (λ (x : Ext). sum_high x b) f ∙ ap (sum_high (Fin p)) g ∙ high_end-fits (p +ℤ q) fits

less : (p q : ℤ) → p +ℤ neg_ℤ q ≡ p -ℤ q
less p q = omega (arith, ints)

pub difference_low_is : (e a b : Ext) (p q : ℤ) → e ≡ sum_low a (negation b) → a ≡ Fin p → b ≡ Fin q → FitsSigned w128 (p -ℤ q) → e ≡ Fin (p -ℤ q)
difference_low_is e a b p q is f g fits =
    sum_low_is e a (negation b) p (neg_ℤ q) is f (ap negation g) (subst (λ (z : ℤ). FitsSigned w128 z) (sym (less p q)) fits) ∙ ap (λ (z : ℤ). Fin z) (less p q)

pub difference_high_is : (e a b : Ext) (p q : ℤ) → e ≡ sum_high a (negation b) → a ≡ Fin p → b ≡ Fin q → FitsSigned w128 (p -ℤ q) → e ≡ Fin (p -ℤ q)
difference_high_is e a b p q is f g fits =
    sum_high_is e a (negation b) p (neg_ℤ q) is f (ap negation g) (subst (λ (z : ℤ). FitsSigned w128 z) (sym (less p q)) fits) ∙ ap (λ (z : ℤ). Fin z) (less p q)

pub negation_low_is : (e a : Ext) (p : ℤ) → e ≡ rounded_low (negation a) → a ≡ Fin p → FitsSigned w128 (neg_ℤ p) → e ≡ Fin (neg_ℤ p)
negation_low_is e a p is f fits = is ∙ ap (λ (x : Ext). rounded_low (negation x)) f ∙ low_end-fits (neg_ℤ p) fits

pub negation_high_is : (e a : Ext) (p : ℤ) → e ≡ rounded_high (negation a) → a ≡ Fin p → FitsSigned w128 (neg_ℤ p) → e ≡ Fin (neg_ℤ p)
negation_high_is e a p is f fits = is ∙ ap (λ (x : Ext). rounded_high (negation x)) f ∙ high_end-fits (neg_ℤ p) fits
