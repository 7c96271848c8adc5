use Rattle.std.proofs.Common.{◌≤◌, length, arith}
use Rattle.std.specs.Prelude.{min}
use Rattle.std.proofs.lemmas.Grind.{common_steps}
use Rattle.c_rules_effects.proofs.Paths.{one_begins, past_one}
use Rattle.c_rules_effects.proofs.meeting.along.Goals as goal

pub returns : goal.returns
returns c =
    let past : min (length c.args.path.now) (length c.args.other.now) ≤ c.loop-at.at =
    grind (arith, common_steps, c.min-at-end.ensures, c.loop-at-test.false) in
    one_begins c.args.path.now c.args.other.now c.loop-at.at (past_one (length c.args.path.now) (length c.args.other.now) c.loop-at.at past)
    c.loop-at.invariant
