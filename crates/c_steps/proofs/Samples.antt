-- The runs of small programs, by doing them.
use Rattle.std.proofs.Common.{refl}
use Rattle.std.specs.Int.{int_wrap}
use Rattle.block_mem.specs.Pieces.{pieces}
use Rattle.block_mem.specs.Numbers.{low_bytes}
use Rattle.c_steps.specs.Samples as samples
use Rattle.c_steps.specs.Samples.{RunsEnd}

sum : samples.SumOverflows
sum = record { ends = refl; called = refl }

byte : samples.SecondByteIsThree
unfolding pieces low_bytes int_wrap
byte = record { ends = refl; called = refl }

end : samples.EndIsNotRead
unfolding pieces low_bytes
end = record { ends = refl; called = refl }

behind : samples.BehindEndIsWrong
unfolding pieces low_bytes
behind = record { ends = refl; called = refl }

part : samples.PartIsBroken
unfolding pieces low_bytes
part = record { ends = refl; called = refl }

order : samples.ObjectsHaveNoOrder
order = record { ends = refl; called = refl }

second : samples.SecondCallDivides
unfolding low_bytes int_wrap
second = record { ends = refl; called = refl }

value : samples.EndGivesNoValue
value = record { ends = refl; called = refl }

dangling : samples.PointerDangles
unfolding pieces low_bytes int_wrap
dangling = record { ends = refl; called = refl }

waits : samples.InputIsAwaited
waits = record { ends = refl; called = refl }

reads : samples.InputIsRead
unfolding low_bytes int_wrap
reads = record { ends = refl; called = refl }

back : samples.GotoGoesBack
unfolding int_wrap
back = record { ends = refl; called = refl }

falls : samples.CasesFallThrough
unfolding low_bytes int_wrap
falls = record { ends = refl; called = refl }

pub runs_end : RunsEnd
runs_end = record {
  sum = sum;
  byte = byte;
  end = end;
  behind = behind;
  part = part;
  order = order;
  second = second;
  value = value;
  dangling = dangling;
  waits = waits;
  reads = reads;
  back = back;
  falls = falls;
}
