use Rattle.c_layout.proofs.Unfolding.{means_unfolded}
use Rattle.c_layout.proofs.layout.stored_sizes_mean_unfolded.Goals as goal

pub returns : goal.returns
returns c = means_unfolded
