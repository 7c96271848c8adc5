use Rattle.std.proofs.Common.{◌≡◌, map, take}
use Rattle.c_syntax.specs.declared.program.InitByte.TheVariants.{Num}
use Rattle.c_check_names.proofs.objects.literal_bytes.Given as goal

abbrev pub invariant-loop-byte : goal.invariant-loop-byte
invariant-loop-byte l = l.numbers.items ≡ map Num (take l.byte-index l.bytes)
