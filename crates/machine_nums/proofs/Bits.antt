-- Wrapping by bits.
use Rattle.std.proofs.Common.{◌≡◌, ◌^◌, ◌-◌, ◌%◌, ◌<◌, ◌-ℤ◌, ◌+ℤ◌, ℕ, ℤ, pos, negsuc, bit_and, bit_xor, arith, refl, ◌∙◌, ap}
use Rattle.std.specs.Int.{int_rem_euclid}
use Rattle.std.specs.Int.Bits.{xor_add_and}
use Rattle.std.proofs.lemmas.Nat.{and_mask, and_comm, pow_pos}
use Rattle.std.proofs.Math.Nat.{mod-lt, mod-eq_of_lt}
use Rattle.std.specs.Prelude.{Option, Some, None}
use Rattle.c_syntax_written.specs.declared.int_type.IntType.{IntType}
use Rattle.c_syntax_written.specs.Integer.{width, least, wrapped}
use Rattle.num_api.specs.declared.expr.NOp.TheVariants.{Add, Sub, And}
use Rattle.num_api.specs.Value.{bits_of_both, binary_value, of_two}
use Rattle.machine_nums.specs.Machine.{wrapped_value}
use Rattle.machine_nums.proofs.ExprTypes.{wrapped_is}

-- the bits that a number has among the low k are its remainder by 2 to k
ones-and : (k m : ℕ) → m < 2 ^ k → bit_and (2 ^ k - 1) m ≡ m
ones-and k m h = and_comm (2 ^ k - 1) m ∙ and_mask m k ∙ mod-eq_of_lt h

flip-is : (k m : ℕ) → m < 2 ^ k → bit_xor (2 ^ k - 1) m ≡ 2 ^ k - 1 - m
flip-is k m h = let sum = xor_add_and (2 ^ k - 1) m in let both = ones-and k m h in let p = pow_pos k in omega arith

mask_is : (n : ℤ) (k : ℕ) → bits_of_both n (pos (2 ^ k - 1)) ≡ int_rem_euclid n (pos (2 ^ k))
mask_is (pos a) k = ap pos (and_mask a k)
mask_is (negsuc a) k = ap (λ m. pos (bit_xor (2 ^ k - 1) m)) (and_comm (2 ^ k - 1) a ∙ and_mask a k) ∙ ap pos (flip-is k (a % 2 ^ k) (mod-lt a (pow_pos k)))

bits_wrap : (t : IntType) (n : ℤ) → bits_of_both (n -ℤ least t) (pos (2 ^ width t - 1)) +ℤ least t ≡ wrapped t n
bits_wrap t n = ap (λ (b : ℤ). b +ℤ least t) (mask_is (n -ℤ least t) (width t)) ∙ wrapped_is t n

pub bits_result : (t : IntType) (o : Option ℤ) → of_two (binary_value Add)
    (of_two (binary_value And) (of_two (binary_value Sub) o (Some (least t))) (Some (pos (2 ^ width t - 1)))) (Some (least t)) ≡ wrapped_value t o
bits_result t None = refl
bits_result t (Some n) = ap Some (bits_wrap t n)
