-- Classes of one number.
use Rattle.std.proofs.Common.{ℤ, pos, ◌≡◌, ◌+ℤ◌, ◌*ℤ◌, arith, ap, ◌∙◌}
use Rattle.std.proofs.lemmas.Int.{ints}

-- under a modulus of 0 a class has its remainder alone
pub class-point : (n rem k modulus : ℤ) → n ≡ rem +ℤ (k *ℤ modulus) → modulus ≡ pos 0 → n ≡ rem
class-point n rem k modulus is zero = is ∙ ap (λ m. rem +ℤ (k *ℤ m)) zero ∙ none where
  none : rem +ℤ (k *ℤ pos 0) ≡ rem
  none = omega (arith, ints)
