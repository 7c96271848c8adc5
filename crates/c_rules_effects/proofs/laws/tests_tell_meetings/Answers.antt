use Rattle.c_rules_effects.proofs.Tests.{tells}
use Rattle.c_rules_effects.proofs.laws.tests_tell_meetings.Goals as goal

pub returns : goal.returns
returns c = tells
