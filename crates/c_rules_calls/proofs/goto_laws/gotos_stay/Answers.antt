use Rattle.std.proofs.Common.{[]}
use Rattle.c_rules_calls.proofs.Stays.{stays}
use Rattle.c_rules_calls.proofs.goto_laws.gotos_stay.Goals as goal

pub returns : goal.returns
returns c = λ body e. stays [] body e
