-- Each sample comes to its outcome by computing.
use Rattle.std.proofs.Common.{◌≡◌, refl, pos, [], ◌∷◌}
use Rattle.std.specs.Int.{int_wrap}
use Rattle.c_syntax.specs.declared.alarm.WrongKind.TheVariants as kinds
use Rattle.c_syntax.specs.declared.alarm.Spot.TheVariants as spots
use Rattle.c_syntax.specs.Operand.{Number, Point, Points, Mark}
use Rattle.c_syntax.specs.Operand as operands
use Rattle.c_layout.specs.Calls.{calls_of, stmt_calls}
use Rattle.block_mem.specs.Pieces.{pieces}
use Rattle.block_mem.specs.Numbers.{low_bytes}
use Rattle.lower_trees.specs.Samples.{at, Failed, comes_to}
use Rattle.lower_samples.specs.Failures.{FailuresComeTo, quotient, minus, amount, top_bit, product, remainder, added_to, stepped, null_load, null_store, null_member, value_first, unset, odd, half, text, too_far, two_objects, dead_equal, dead_test, dead_and, beyond, asserted, deep}

quotient_is : comes_to quotient (0 ∷ []) 0 12 [] ≡ Failed [] (at 44) kinds.Quotient (Number (pos 2147483648))
unfolding calls_of stmt_calls pieces low_bytes int_wrap
quotient_is = refl

minus_is : comes_to minus (0 ∷ []) 0 12 [] ≡ Failed [] (at 43) kinds.Overflow (Number (pos 2147483648))
unfolding calls_of stmt_calls pieces low_bytes int_wrap
minus_is = refl

amount_is : comes_to amount (0 ∷ []) 0 12 [] ≡ Failed [] (at 33) kinds.ShiftAmount (Number (pos 32))
unfolding calls_of stmt_calls pieces low_bytes int_wrap
amount_is = refl

top_bit_is : comes_to top_bit (0 ∷ []) 0 12 [] ≡ Failed [] (at 33) kinds.ShiftResult (Number (pos 2147483648))
unfolding calls_of stmt_calls pieces low_bytes int_wrap
top_bit_is = refl

product_is : comes_to product (0 ∷ []) 0 12 [] ≡ Failed [] (at 36) kinds.Overflow (Number (pos 4294967296))
unfolding calls_of stmt_calls pieces low_bytes int_wrap
product_is = refl

remainder_is : comes_to remainder (0 ∷ []) 0 12 [] ≡ Failed [] (at 32) kinds.DivideByZero (Number (pos 0))
unfolding calls_of stmt_calls pieces low_bytes int_wrap
remainder_is = refl

added_to_is : comes_to added_to (0 ∷ []) 0 12 [] ≡ Failed [] (at 34) kinds.Overflow (Number (pos 2147483648))
unfolding calls_of stmt_calls pieces low_bytes int_wrap
added_to_is = refl

stepped_is : comes_to stepped (0 ∷ []) 0 12 [] ≡ Failed [] (at 34) kinds.Overflow (Number (pos 2147483648))
unfolding calls_of stmt_calls pieces low_bytes int_wrap
stepped_is = refl

null_load_is : comes_to null_load (0 ∷ []) 0 12 [] ≡ Failed [] (at 32) kinds.NullUse (Point spots.Null)
unfolding calls_of stmt_calls pieces low_bytes int_wrap
null_load_is = refl

null_store_is : comes_to null_store (0 ∷ []) 0 12 [] ≡ Failed [] (at 25) kinds.NullUse (Point spots.Null)
unfolding calls_of stmt_calls pieces low_bytes int_wrap
null_store_is = refl

null_member_is : comes_to null_member (0 ∷ []) 0 12 [] ≡ Failed [] (at 61) kinds.NullUse (Point spots.Null)
unfolding calls_of stmt_calls pieces low_bytes int_wrap
null_member_is = refl

value_first_is : comes_to value_first (0 ∷ []) 0 12 [] ≡ Failed [] (at 37) kinds.DivideByZero (Number (pos 0))
unfolding calls_of stmt_calls pieces low_bytes int_wrap
value_first_is = refl

unset_is : comes_to unset (0 ∷ []) 0 12 [] ≡ Failed [] (at 29) kinds.Indeterminate (Mark operands.Undef)
unfolding calls_of stmt_calls pieces low_bytes int_wrap
unset_is = refl

odd_is : comes_to odd (0 ∷ []) 0 12 [] ≡ Failed [] (at 56) kinds.Alignment (Point (spots.At 0 (pos 1)))
unfolding calls_of stmt_calls pieces low_bytes int_wrap
odd_is = refl

half_is : comes_to half (0 ∷ []) 0 12 [] ≡ Failed [] (at 41) kinds.Fragment (Mark operands.Broken)
unfolding calls_of stmt_calls pieces low_bytes int_wrap
half_is = refl

text_is : comes_to text (0 ∷ []) 0 12 [] ≡ Failed [] (at 28) kinds.ReadOnly (Point (spots.At 1 (pos 0)))
unfolding calls_of stmt_calls pieces low_bytes int_wrap
text_is = refl

too_far_is : comes_to too_far (0 ∷ []) 0 12 [] ≡ Failed [] (at 37) kinds.Bounds (Point (spots.At 0 (pos 16)))
unfolding calls_of stmt_calls pieces low_bytes int_wrap
too_far_is = refl

two_objects_is : comes_to two_objects (0 ∷ []) 0 12 [] ≡ Failed [] (at 41) kinds.Unrelated (Points (spots.At 0 (pos 0)) (spots.At 1 (pos 0)))
unfolding calls_of stmt_calls pieces low_bytes int_wrap
two_objects_is = refl

dead_equal_is : comes_to dead_equal (0 ∷ []) 0 12 [] ≡ Failed [] (at 46) kinds.Dangling (Points spots.Dead spots.Null)
unfolding calls_of stmt_calls pieces low_bytes int_wrap
dead_equal_is = refl

dead_test_is : comes_to dead_test (0 ∷ []) 0 12 [] ≡ Failed [] (at 38) kinds.Dangling (Point spots.Dead)
unfolding calls_of stmt_calls pieces low_bytes int_wrap
dead_test_is = refl

dead_and_is : comes_to dead_and (0 ∷ []) 0 12 [] ≡ Failed [] (at 46) kinds.Dangling (Point spots.Dead)
unfolding calls_of stmt_calls pieces low_bytes int_wrap
dead_and_is = refl

beyond_is : comes_to beyond (0 ∷ []) 0 12 [] ≡ Failed [] (at 84) kinds.Access (Point (spots.At 0 (pos 8)))
unfolding calls_of stmt_calls pieces low_bytes int_wrap
beyond_is = refl

asserted_is : comes_to asserted (0 ∷ []) 0 12 [] ≡ Failed [] (at 24) kinds.AssertFailed (Number (pos 0))
unfolding calls_of stmt_calls pieces low_bytes int_wrap
asserted_is = refl

deep_is : comes_to deep (0 ∷ 1 ∷ 2 ∷ []) 2 12 [] ≡ Failed (at 76 ∷ at 46 ∷ []) (at 22) kinds.DivideByZero (Number (pos 0))
unfolding calls_of stmt_calls pieces low_bytes int_wrap
deep_is = refl

pub failures_come_to : FailuresComeTo
failures_come_to = record {
  quotient_is = quotient_is;
  minus_is = minus_is;
  amount_is = amount_is;
  top_bit_is = top_bit_is;
  product_is = product_is;
  remainder_is = remainder_is;
  added_to_is = added_to_is;
  stepped_is = stepped_is;
  null_load_is = null_load_is;
  null_store_is = null_store_is;
  null_member_is = null_member_is;
  value_first_is = value_first_is;
  unset_is = unset_is;
  odd_is = odd_is;
  half_is = half_is;
  text_is = text_is;
  too_far_is = too_far_is;
  two_objects_is = two_objects_is;
  dead_equal_is = dead_equal_is;
  dead_test_is = dead_test_is;
  dead_and_is = dead_and_is;
  beyond_is = beyond_is;
  asserted_is = asserted_is;
  deep_is = deep_is;
}
