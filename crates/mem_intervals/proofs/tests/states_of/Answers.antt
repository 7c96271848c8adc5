use Rattle.std.proofs.lemmas.Result.{IfOk-weaker}
use Rattle.csharp.specs.Trees.{csprogram_tree}
use Rattle.mem_intervals.proofs.Examples.{small_program}
use Rattle.mem_intervals.proofs.tests.states_of.Goals as goal

pub returns : goal.returns
returns c = IfOk-weaker c.of_parts.result _ _ (λ m is_for. record {
  program = csprogram_tree c.args.program.now;
  small = small_program c.args.program.now c.requires.objects c.requires.temps;
  is_for = is_for;
}) c.of_parts.ensures
