-- Each sample comes to its outcome by computing.
use Rattle.std.proofs.Common.{◌≡◌, refl, pos, [], ◌∷◌, Some}
use Rattle.std.specs.Int.{int_wrap}
use Rattle.c_syntax_written.specs.declared.int_type.IntType.TheVariants as ints
use Rattle.c_layout.specs.Calls.{calls_of, stmt_calls}
use Rattle.block_mem.specs.declared.types.Value.TheVariants as values
use Rattle.block_mem.specs.Pieces.{pieces}
use Rattle.block_mem.specs.Numbers.{low_bytes}
use Rattle.csharp.specs.Outcomes as outs
use Rattle.csharp.specs.Meaning.{run}
use Rattle.lower_trees.specs.LowerProgram.{lower}
use Rattle.lower_trees.specs.Samples.{in_order, Gave, comes_to}
use Rattle.lower_samples.specs.Calls.{CallsComeTo, in_arguments, three, exchanged, dropped, one_way, through, counted, tested, not_made, no_return, assumed}

in_arguments_is : comes_to in_arguments (0 ∷ 1 ∷ []) 1 12 [] ≡ Gave (Some (values.Int ints.Int (pos 10)))
unfolding calls_of stmt_calls pieces low_bytes int_wrap
in_arguments_is = refl

three_is : comes_to three (0 ∷ 1 ∷ 2 ∷ []) 2 12 [] ≡ Gave (Some (values.Int ints.Int (pos 122)))
unfolding calls_of stmt_calls pieces low_bytes int_wrap
three_is = refl

exchanged_is : comes_to exchanged (0 ∷ 1 ∷ 2 ∷ []) 2 12 [] ≡ Gave (Some (values.Int ints.Int (pos 7)))
unfolding calls_of stmt_calls pieces low_bytes int_wrap
exchanged_is = refl

dropped_is : comes_to dropped (0 ∷ 1 ∷ []) 1 12 [] ≡ Gave (Some (values.Int ints.Int (pos 3)))
unfolding calls_of stmt_calls pieces low_bytes int_wrap
dropped_is = refl

one_way_is : comes_to one_way (0 ∷ 1 ∷ []) 1 12 [] ≡ Gave (Some (values.Int ints.Int (pos 4)))
unfolding calls_of stmt_calls pieces low_bytes int_wrap
one_way_is = refl

through_is : comes_to through (0 ∷ 1 ∷ []) 1 12 [] ≡ Gave (Some (values.Int ints.Int (pos 5)))
unfolding calls_of stmt_calls pieces low_bytes int_wrap
through_is = refl

counted_is : comes_to counted (0 ∷ 1 ∷ []) 1 12 [] ≡ Gave (Some (values.Int ints.Int (pos 3)))
unfolding calls_of stmt_calls pieces low_bytes int_wrap
counted_is = refl

tested_is : comes_to tested (0 ∷ 1 ∷ []) 1 12 [] ≡ Gave (Some (values.Int ints.Int (pos 6)))
unfolding calls_of stmt_calls pieces low_bytes int_wrap
tested_is = refl

not_made_is : comes_to not_made (0 ∷ 1 ∷ []) 1 12 [] ≡ Gave (Some (values.Int ints.Int (pos 0)))
unfolding calls_of stmt_calls pieces low_bytes int_wrap
not_made_is = refl

no_return_is : comes_to no_return (0 ∷ []) 0 12 [] ≡ Gave (Some (values.Int ints.Int (pos 0)))
unfolding calls_of stmt_calls pieces low_bytes int_wrap
no_return_is = refl

assumed_is_first : comes_to assumed (0 ∷ []) 0 12 (pos 4 ∷ []) ≡ Gave (Some (values.Int ints.Int (pos 4)))
unfolding calls_of stmt_calls pieces low_bytes int_wrap
assumed_is_first = refl

assumed_is_second : run (lower assumed (in_order (0 ∷ []) 0)) 12 (pos 0 ∷ []) ≡ outs.Stopped
unfolding calls_of stmt_calls pieces low_bytes int_wrap
assumed_is_second = refl

pub calls_come_to : CallsComeTo
calls_come_to = record {
  in_arguments_is = in_arguments_is;
  three_is = three_is;
  exchanged_is = exchanged_is;
  dropped_is = dropped_is;
  one_way_is = one_way_is;
  through_is = through_is;
  counted_is = counted_is;
  tested_is = tested_is;
  not_made_is = not_made_is;
  no_return_is = no_return_is;
  assumed_is_first = assumed_is_first;
  assumed_is_second = assumed_is_second;
}
