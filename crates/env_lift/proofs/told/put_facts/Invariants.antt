use Rattle.std.proofs.Common.{ℤ, List}
use Rattle.num_api.specs.Messages.{Adds, TellsOf}
use Rattle.env_lift.specs.States.{AllAdmit}
use Rattle.env_lift.proofs.told.put_facts.Given as goal

abbrev pub invariant-loop-entry : goal.invariant-loop-entry
invariant-loop-entry g l = record {
  kept : Adds l.initial.out l.out;
  told : (v : List ℤ) → AllAdmit g.V.ValueDomain.admits l.entries v → TellsOf v l.initial.out l.out;
}
