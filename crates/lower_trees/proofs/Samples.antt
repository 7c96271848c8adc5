-- Each sample comes to its outcome by computing.
use Rattle.std.proofs.Common.{◌≡◌, refl, pos, [], ◌∷◌, Some}
use Rattle.std.specs.Int.{int_wrap}
use Rattle.c_syntax_written.specs.declared.int_type.IntType.TheVariants as ints
use Rattle.c_syntax.specs.declared.alarm.WrongKind.TheVariants as kinds
use Rattle.c_syntax.specs.declared.alarm.Spot.TheVariants as spots
use Rattle.c_syntax.specs.Operand.{Number, Point, Mark, End}
use Rattle.c_syntax.specs.Operand as operands
use Rattle.c_layout.specs.Calls.{calls_of, stmt_calls}
use Rattle.block_mem.specs.declared.types.Value.TheVariants as values
use Rattle.block_mem.specs.Pieces.{pieces}
use Rattle.block_mem.specs.Numbers.{low_bytes}
use Rattle.lower_trees.specs.Samples.{at, Seen, Failed, Gave, Waits, comes_to, SamplesComeTo, again, asks, bytes_of, calls, copies, dangles, falls, no_value, rests, sum, tests}

overflows : comes_to sum (0 ∷ []) 0 2 [] ≡ Failed [] (at 33) kinds.Overflow (Number (pos 2147483648))
overflows = refl

second_call : comes_to calls (0 ∷ 1 ∷ []) 1 4 [] ≡ Failed (at 54 ∷ []) (at 23) kinds.DivideByZero (Number (pos 0))
unfolding calls_of stmt_calls low_bytes int_wrap
second_call = refl

no_end : comes_to no_value (0 ∷ 1 ∷ []) 1 4 [] ≡ Failed [] (at 36) kinds.NoValue (End operands.None)
unfolding calls_of stmt_calls
no_end = refl

waits : comes_to asks (0 ∷ []) 0 2 [] ≡ Waits
unfolding calls_of stmt_calls
waits = refl

reads : comes_to asks (0 ∷ []) 0 2 (pos 7 ∷ []) ≡ Gave (Some (values.Int ints.Int (pos 0)))
unfolding calls_of stmt_calls low_bytes int_wrap
reads = refl

back : comes_to again (0 ∷ []) 0 5 (pos 1 ∷ pos 1 ∷ pos 0 ∷ []) ≡ Gave (Some (values.Int ints.Int (pos 0)))
unfolding calls_of stmt_calls int_wrap
back = refl

through : comes_to falls (0 ∷ []) 0 2 [] ≡ Gave (Some (values.Int ints.Int (pos 2)))
unfolding calls_of stmt_calls low_bytes int_wrap
through = refl

dangling : comes_to dangles (0 ∷ []) 0 5 [] ≡ Failed [] (at 64) kinds.Dangling (Point spots.Dead)
unfolding calls_of stmt_calls pieces low_bytes int_wrap
dangling = refl

byte : comes_to (bytes_of 1) (0 ∷ []) 0 2 [] ≡ Gave (Some (values.Int ints.Int (pos 3)))
unfolding calls_of stmt_calls pieces low_bytes int_wrap
byte = refl

end : comes_to (bytes_of 4) (0 ∷ []) 0 2 [] ≡ Failed [] (at 58) kinds.Access (Point (spots.At 0 (pos 4)))
unfolding calls_of stmt_calls pieces low_bytes int_wrap
end = refl

inside : comes_to tests (0 ∷ []) 0 2 (pos 1 ∷ []) ≡ Gave (Some (values.Int ints.Int (pos 0)))
unfolding calls_of stmt_calls pieces low_bytes int_wrap
inside = refl

above : comes_to tests (0 ∷ []) 0 2 (pos 3 ∷ []) ≡ Gave (Some (values.Int ints.Int (pos 2)))
unfolding calls_of stmt_calls pieces low_bytes int_wrap
above = refl

copied : comes_to (copies 0) (0 ∷ []) 0 2 [] ≡ Gave (Some (values.Int ints.Int (pos 5)))
unfolding calls_of stmt_calls pieces low_bytes int_wrap
copied = refl

undefined : comes_to (copies 1) (0 ∷ []) 0 2 [] ≡ Failed [] (at 48) kinds.Indeterminate (Mark operands.Undef)
unfolding calls_of stmt_calls pieces low_bytes int_wrap
undefined = refl

zeroed : comes_to rests (0 ∷ []) 0 2 [] ≡ Gave (Some (values.Int ints.Int (pos 0)))
unfolding calls_of stmt_calls pieces low_bytes int_wrap
zeroed = refl

pub samples_come_to : SamplesComeTo
samples_come_to = record {
  overflows = overflows;
  second_call = second_call;
  no_end = no_end;
  waits = waits;
  reads = reads;
  back = back;
  through = through;
  dangling = dangling;
  byte = byte;
  end = end;
  inside = inside;
  above = above;
  copied = copied;
  undefined = undefined;
  zeroed = zeroed;
}
