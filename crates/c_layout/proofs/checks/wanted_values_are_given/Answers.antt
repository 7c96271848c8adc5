use Rattle.c_layout.proofs.Given.{wanted}
use Rattle.c_layout.proofs.checks.wanted_values_are_given.Goals as goal

pub returns : goal.returns
returns c = wanted
