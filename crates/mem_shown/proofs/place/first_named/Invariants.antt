use Rattle.mem_shown.proofs.Hits.{IsBest}
use Rattle.mem_shown.proofs.place.first_named.Given as goal

abbrev pub invariant-loop-number : goal.invariant-loop-number
invariant-loop-number l = IsBest l.names l.objects l.search l.number-index l.first
