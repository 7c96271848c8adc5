use Rattle.c_objects.proofs.Starts as starts
use Rattle.c_objects.proofs.lifetimes.only_statics_start.Goals as goal

pub returns : goal.returns
returns c = starts.start_only
