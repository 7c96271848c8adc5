-- The operators of C and those on whole numbers.
use Rattle.std.proofs.Common.{◌≡◌, ◌≢◌, ◌+◌, ◌%◌, min, max, ℕ, ℤ, pos, arith, refl, ◌∙◌, ap, inl, inr, bit_and, bit_or, bit_xor}
use Rattle.std.specs.Prelude.{Some, None, IsSomeAnd, Bool, true, false, if◌then◌else◌}
use Rattle.std.specs.Int.RustNames.{int_div, int_rem}
use Rattle.std.specs.Ordering.{int_eq}
use Rattle.std.proofs.lemmas.Int.{ints, quot-rem}
use Rattle.std.proofs.lemmas.Bool.Decides.{Decides-int_eq}
use Rattle.c_syntax_written.specs.declared.int_type.IntType.{IntType}
use Rattle.c_syntax_written.specs.Integer.{width, HasNumber, wrapped}
use Rattle.c_syntax.specs.declared.operator.Arithmetic.TheVariants.{Divide, Remainder, BitAnd, BitXor, BitOr}
use Rattle.c_values.specs.Numbers.{on_bits, remainder}
use Rattle.block_mem.specs.Numbers.{bits_in}
use Rattle.num_api.specs.declared.expr.NOp.TheVariants as ops
use Rattle.num_api.specs.Value.{bits_of_both, bits_of_either, bits_of_one}
use Rattle.residues.proofs.LowBits.{IsByBits, low_bits, bit-both, bit-either, bit-one}
use Rattle.machine_nums.specs.Laws.{StandsForArithmetic}
use Rattle.machine_nums.proofs.ExprCongruences.{wrapped_same}
use Rattle.machine_nums.proofs.OperatorCongruences.{same_bits}

by_zero : (b : Bool) (o : ℤ) (P : ℤ → Type 0) → (b ≡ true → ⊥) → P o → IsSomeAnd (if b then None else Some o) P
by_zero true o P none h = absurd (none refl)
by_zero false o P none h = h

not_zero : (b : ℤ) → b ≢ pos 0 → int_eq b (pos 0) ≡ true → ⊥
not_zero b ne e = ne ((Decides-int_eq b (pos 0)).0 e)

pub quotients : StandsForArithmetic Divide ops.Quot
quotients t a b p q ne = by_zero (int_eq b (pos 0)) (int_div a b) (λ n. wrapped t n ≡ wrapped t (int_div a b)) (not_zero b (ne (inl refl))) refl

pub remainders : StandsForArithmetic Remainder ops.Rem
remainders t a b p q ne = by_zero (int_eq b (pos 0)) (int_rem a b) (λ n. wrapped t n ≡ wrapped t (remainder a b)) (not_zero b (ne (inr refl))) (ap (wrapped t) (is a b))
  where
    is : (a b : ℤ) → int_rem a b ≡ remainder a b
    is a b = omega (arith, ints, quot-rem a b)

bits : (f : ℤ → ℤ → ℤ) (h : ℕ → ℕ → ℕ) (g : ℕ → ℕ → ℕ) → IsByBits f h → ((x y : ℕ) → f (pos x) (pos y) ≡ pos (g x y)) → (t : IntType) (a b : ℤ) → HasNumber t a → HasNumber t b → wrapped t (f a b) ≡ on_bits g t a b
bits f h g by is t a b p q =
    wrapped_same t (f a b) (f (pos (bits_in t a)) (pos (bits_in t b))) (low_bits f h by (width t) (pos (bits_in t a)) (pos (bits_in t b)) a b (same_bits t a p) (same_bits t b q))
    ∙ ap (wrapped t) (is (bits_in t a) (bits_in t b))

pub ands : StandsForArithmetic BitAnd ops.And
ands t a b p q ne = bits bits_of_both min bit_and bit-both (λ x y. refl) t a b p q

pub ors : StandsForArithmetic BitOr ops.Or
ors t a b p q ne = bits bits_of_either max bit_or bit-either (λ x y. refl) t a b p q

pub xors : StandsForArithmetic BitXor ops.Xor
xors t a b p q ne = bits bits_of_one (λ b c. (b + c) % 2) bit_xor bit-one (λ x y. refl) t a b p q
