-- Signs of variables and of indices.
use Rattle.std.proofs.Common.{ℕ, ℤ, neg_ℤ, List, length, ◌≡◌, ◌<◌, ◌/◌, ◌%◌, ◌+ℤ◌, refl, ap, sym, ◌∙◌, arith, true, false}
use Rattle.std.specs.Prelude.{nat_eq}
use Rattle.std.proofs.lemmas.Bool.Decides.{nat_tests}
use Rattle.std.proofs.lemmas.Int.{ints}
use Rattle.ext_int.specs.Valuation.{value_at}
use Rattle.bound_matrix.proofs.Places.{nat-either}
use Rattle.bound_matrix.specs.Points.{signed}
use Rattle.octagons_linear.specs.Forms.{with_sign}
use Rattle.octagons_pack.specs.Packs.{picked, at}
use Rattle.octagons_pack.proofs.Picking.{picked-at}

signed-half : (a : List ℤ) (p : ℕ) → with_sign (nat_eq (p % 2) 1) (value_at a (p / 2)) ≡ signed a p
unfolding signed
signed-half a p = nat-either (p % 2) 0
    (λ e. let t : nat_eq (p % 2) 0 ≡ true = grind (arith, nat_tests) in let u : nat_eq (p % 2) 1 ≡ false = grind (arith, nat_tests) in rw (t, u) refl)
    (λ d. let t : nat_eq (p % 2) 0 ≡ false = grind (arith, nat_tests) in let u : nat_eq (p % 2) 1 ≡ true = grind (arith, nat_tests) in rw (t, u) refl)

-- the number that an index stands for is that of the variable at its place, with its sign
pub signed-here : (v : List ℤ) (pack : List ℕ) (p x : ℕ) → p / 2 < length pack → at pack (p / 2) ≡ x → with_sign (nat_eq (p % 2) 1) (value_at v x) ≡ signed (picked v pack) p
signed-here v pack p x h e = ap (with_sign (nat_eq (p % 2) 1)) (ap (value_at v) (sym e) ∙ sym (picked-at v pack (p / 2) h)) ∙ signed-half (picked v pack) p

pub turned-twice : (x a : ℤ) → a ≡ neg_ℤ x → neg_ℤ a ≡ x
turned-twice x a e = omega (arith, ints)

pub turned-sum : (x y a b : ℤ) → a ≡ neg_ℤ x → b ≡ neg_ℤ y → neg_ℤ (a +ℤ b) ≡ (x +ℤ y)
turned-sum x y a b e f = omega (arith, ints)
