-- Each sample comes to its outcome by computing.
use Rattle.std.proofs.Common.{◌≡◌, refl, pos, [], ◌∷◌, Some}
use Rattle.std.specs.Int.{int_wrap}
use Rattle.c_syntax_written.specs.declared.int_type.IntType.TheVariants as ints
use Rattle.c_layout.specs.Calls.{calls_of, stmt_calls}
use Rattle.block_mem.specs.declared.types.Value.TheVariants as values
use Rattle.block_mem.specs.Pieces.{pieces}
use Rattle.block_mem.specs.Numbers.{low_bytes}
use Rattle.lower_trees.specs.Samples.{Gave, comes_to}
use Rattle.lower_samples.specs.Jumps.{JumpsComeTo, while_loop, do_loop, do_once, for_loop, bare_loop, nested, switch_loop, no_case, middle, skipped, outward, backward, out_of_loop, returned}

while_loop_is : comes_to while_loop (0 ∷ []) 0 12 [] ≡ Gave (Some (values.Int ints.Int (pos 8)))
unfolding calls_of stmt_calls pieces low_bytes int_wrap
while_loop_is = refl

do_loop_is : comes_to do_loop (0 ∷ []) 0 12 [] ≡ Gave (Some (values.Int ints.Int (pos 8)))
unfolding calls_of stmt_calls pieces low_bytes int_wrap
do_loop_is = refl

do_once_is : comes_to do_once (0 ∷ []) 0 12 [] ≡ Gave (Some (values.Int ints.Int (pos 1)))
unfolding calls_of stmt_calls pieces low_bytes int_wrap
do_once_is = refl

for_loop_is : comes_to for_loop (0 ∷ []) 0 12 [] ≡ Gave (Some (values.Int ints.Int (pos 6)))
unfolding calls_of stmt_calls pieces low_bytes int_wrap
for_loop_is = refl

bare_loop_is : comes_to bare_loop (0 ∷ []) 0 12 [] ≡ Gave (Some (values.Int ints.Int (pos 3)))
unfolding calls_of stmt_calls pieces low_bytes int_wrap
bare_loop_is = refl

nested_is : comes_to nested (0 ∷ []) 0 12 [] ≡ Gave (Some (values.Int ints.Int (pos 3)))
unfolding calls_of stmt_calls pieces low_bytes int_wrap
nested_is = refl

switch_loop_is : comes_to switch_loop (0 ∷ []) 0 12 [] ≡ Gave (Some (values.Int ints.Int (pos 312)))
unfolding calls_of stmt_calls pieces low_bytes int_wrap
switch_loop_is = refl

no_case_is : comes_to no_case (0 ∷ []) 0 12 [] ≡ Gave (Some (values.Int ints.Int (pos 3)))
unfolding calls_of stmt_calls pieces low_bytes int_wrap
no_case_is = refl

middle_is : comes_to middle (0 ∷ []) 0 12 [] ≡ Gave (Some (values.Int ints.Int (pos 6)))
unfolding calls_of stmt_calls pieces low_bytes int_wrap
middle_is = refl

skipped_is : comes_to skipped (0 ∷ []) 0 12 [] ≡ Gave (Some (values.Int ints.Int (pos 4)))
unfolding calls_of stmt_calls pieces low_bytes int_wrap
skipped_is = refl

outward_is : comes_to outward (0 ∷ []) 0 12 [] ≡ Gave (Some (values.Int ints.Int (pos 1)))
unfolding calls_of stmt_calls pieces low_bytes int_wrap
outward_is = refl

backward_is : comes_to backward (0 ∷ []) 0 12 [] ≡ Gave (Some (values.Int ints.Int (pos 3)))
unfolding calls_of stmt_calls pieces low_bytes int_wrap
backward_is = refl

out_of_loop_is : comes_to out_of_loop (0 ∷ []) 0 12 [] ≡ Gave (Some (values.Int ints.Int (pos 4)))
unfolding calls_of stmt_calls pieces low_bytes int_wrap
out_of_loop_is = refl

returned_is : comes_to returned (0 ∷ 1 ∷ []) 1 12 [] ≡ Gave (Some (values.Int ints.Int (pos 7)))
unfolding calls_of stmt_calls pieces low_bytes int_wrap
returned_is = refl

pub jumps_come_to : JumpsComeTo
jumps_come_to = record {
  while_loop_is = while_loop_is;
  do_loop_is = do_loop_is;
  do_once_is = do_once_is;
  for_loop_is = for_loop_is;
  bare_loop_is = bare_loop_is;
  nested_is = nested_is;
  switch_loop_is = switch_loop_is;
  no_case_is = no_case_is;
  middle_is = middle_is;
  skipped_is = skipped_is;
  outward_is = outward_is;
  backward_is = backward_is;
  out_of_loop_is = out_of_loop_is;
  returned_is = returned_is;
}
