use Rattle.mem_shown.proofs.Hits.{NoneBefore}
use Rattle.mem_shown.proofs.place.first_of_all.Given as goal

abbrev pub invariant-loop-number : goal.invariant-loop-number
invariant-loop-number l = NoneBefore l.objects l.search l.number
