use Rattle.std.proofs.Common.{◌≡◌, ℕ, true, drop}
use Rattle.c_objects.specs.Writing.{are_named, Rise}
use Rattle.c_objects.proofs.initial.is_named.Given as goal

abbrev pub invariant-loop-bytes : goal.invariant-loop-bytes
invariant-loop-bytes l =
    (are_named l.named l.offset ≡ are_named (drop l.bytes-index l.named) l.offset)
    × (l.rising ≡ true → (low : ℕ) × Rise low (drop l.bytes-index l.named))
