use Rattle.c_objects.proofs.Listed as listed
use Rattle.c_objects.proofs.lifetimes.counts_tell_distinct.Goals as goal

pub returns : goal.returns
returns c = listed.distinct
