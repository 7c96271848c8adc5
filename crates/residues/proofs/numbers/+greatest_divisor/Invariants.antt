use Rattle.std.specs.Int.RustNames.{unsigned_abs}
use Rattle.residues.proofs.numbers.+greatest_divisor.Given as goal

abbrev pub decreases-greatest_divisor : goal.decreases-greatest_divisor
decreases-greatest_divisor l = unsigned_abs l.b
