-- Each sample comes to its outcome by computing.
use Rattle.std.proofs.Common.{◌≡◌, refl, pos, [], ◌∷◌, Some}
use Rattle.std.specs.Int.{int_wrap}
use Rattle.c_syntax_written.specs.declared.int_type.IntType.TheVariants as ints
use Rattle.c_layout.specs.Calls.{calls_of, stmt_calls}
use Rattle.block_mem.specs.declared.types.Value.TheVariants as values
use Rattle.block_mem.specs.Pieces.{pieces}
use Rattle.block_mem.specs.Numbers.{low_bytes}
use Rattle.lower_trees.specs.Samples.{Gave, comes_to}
use Rattle.lower_samples.specs.Values.{ValuesComeTo, wraps, narrow, small, bits, complement, shifted, after, before, either, not_pointer, comma, distance, ordered, moved}

wraps_is : comes_to wraps (0 ∷ []) 0 12 [] ≡ Gave (Some (values.Int ints.Int (pos 1)))
unfolding calls_of stmt_calls pieces low_bytes int_wrap
wraps_is = refl

narrow_is : comes_to narrow (0 ∷ []) 0 12 [] ≡ Gave (Some (values.Int ints.Int (pos 44)))
unfolding calls_of stmt_calls pieces low_bytes int_wrap
narrow_is = refl

small_is : comes_to small (0 ∷ []) 0 12 [] ≡ Gave (Some (values.Int ints.Int (pos 4)))
unfolding calls_of stmt_calls pieces low_bytes int_wrap
small_is = refl

bits_is : comes_to bits (0 ∷ []) 0 12 [] ≡ Gave (Some (values.Int ints.Int (pos 10)))
unfolding calls_of stmt_calls pieces low_bytes int_wrap
bits_is = refl

complement_is : comes_to complement (0 ∷ []) 0 12 [] ≡ Gave (Some (values.Int ints.Int (pos 0)))
unfolding calls_of stmt_calls pieces low_bytes int_wrap
complement_is = refl

shifted_is : comes_to shifted (0 ∷ []) 0 12 [] ≡ Gave (Some (values.Int ints.Int (pos 4)))
unfolding calls_of stmt_calls pieces low_bytes int_wrap
shifted_is = refl

after_is : comes_to after (0 ∷ []) 0 12 [] ≡ Gave (Some (values.Int ints.Int (pos 56)))
unfolding calls_of stmt_calls pieces low_bytes int_wrap
after_is = refl

before_is : comes_to before (0 ∷ []) 0 12 [] ≡ Gave (Some (values.Int ints.Int (pos 44)))
unfolding calls_of stmt_calls pieces low_bytes int_wrap
before_is = refl

either_is : comes_to either (0 ∷ []) 0 12 [] ≡ Gave (Some (values.Int ints.Int (pos 0)))
unfolding calls_of stmt_calls pieces low_bytes int_wrap
either_is = refl

not_pointer_is : comes_to not_pointer (0 ∷ []) 0 12 [] ≡ Gave (Some (values.Int ints.Int (pos 1)))
unfolding calls_of stmt_calls pieces low_bytes int_wrap
not_pointer_is = refl

comma_is : comes_to comma (0 ∷ []) 0 12 [] ≡ Gave (Some (values.Int ints.Int (pos 6)))
unfolding calls_of stmt_calls pieces low_bytes int_wrap
comma_is = refl

distance_is : comes_to distance (0 ∷ []) 0 12 [] ≡ Gave (Some (values.Int ints.Int (pos 2)))
unfolding calls_of stmt_calls pieces low_bytes int_wrap
distance_is = refl

ordered_is : comes_to ordered (0 ∷ []) 0 12 [] ≡ Gave (Some (values.Int ints.Int (pos 1)))
unfolding calls_of stmt_calls pieces low_bytes int_wrap
ordered_is = refl

moved_is : comes_to moved (0 ∷ []) 0 12 [] ≡ Gave (Some (values.Int ints.Int (pos 23)))
unfolding calls_of stmt_calls pieces low_bytes int_wrap
moved_is = refl

pub values_come_to : ValuesComeTo
values_come_to = record {
  wraps_is = wraps_is;
  narrow_is = narrow_is;
  small_is = small_is;
  bits_is = bits_is;
  complement_is = complement_is;
  shifted_is = shifted_is;
  after_is = after_is;
  before_is = before_is;
  either_is = either_is;
  not_pointer_is = not_pointer_is;
  comma_is = comma_is;
  distance_is = distance_is;
  ordered_is = ordered_is;
  moved_is = moved_is;
}
