use Rattle.std.proofs.Common.{ℤ, List}
use Rattle.num_api.specs.Messages.{Adds, TellsOf}
use Rattle.octagons_changes.specs.States.{Admits}
use Rattle.octagons_told.proofs.telling.tell_facts.Given as goal

abbrev pub invariant-loop-q : goal.invariant-loop-q
invariant-loop-q l = record {
  kept : Adds l.initial.out l.out;
  told : (v : List ℤ) → Admits l.known v → TellsOf v l.initial.out l.out;
}
