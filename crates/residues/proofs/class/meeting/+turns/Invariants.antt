use Rattle.std.specs.Int.RustNames.{unsigned_abs}
use Rattle.residues.proofs.class.meeting.+turns.Given as goal

abbrev pub decreases-turns : goal.decreases-turns
decreases-turns l = unsigned_abs l.step
