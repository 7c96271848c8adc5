-- What is told of a program, as the code holds it.
use Rattle.std.specs.Prelude.{map}
use Rattle.c_syntax.specs.Program.{tfunction_tree}
use Rattle.c_syntax.specs.Types.{object_tree}
use Rattle.report_alarms.specs.Told.{Told}
use Rattle.report_alarms.specs.declared.alarms.Source.{Source}

abbrev pub told_by : Source → Told
told_by source = record {
  objects = map object_tree source.objects.now;
  names = map (λ function. function.name) (map tfunction_tree source.functions.now);
  graph = source.callees.now;
  main = source.main;
}
