-- The productions keep the facts that the descent's theory asks for.
use Rattle.c_grammar.proofs.Table.{Table}
use Rattle.c_grammar.proofs.Firsts as sets
use Rattle.c_grammar.proofs.Shapes as shapes
use Rattle.c_grammar.proofs.Enters as enters
use Rattle.c_grammar.proofs.Constructs as constructs
use Rattle.c_grammar.proofs.Follows as follows
use Rattle.c_grammar.proofs.FilePredicts as predictions
use Rattle.c_grammar.proofs.Empty as empties
use Rattle.c_grammar.proofs.Bearing as bearings
use Rattle.c_grammar.proofs.Forms as counts
use Rattle.c_grammar.proofs.Sures as sures

pub the_table : Table
the_table = record {
  begins = sets.begins;
  continues = sets.continues;
  rule_begins = enters.rule_begins;
  rule_shape = shapes.rule_shape;
  predicts = predictions.predicts;
  predicts_empty = empties.predicts_empty;
  rule_follows = follows.rule_follows;
  construct_begins = constructs.construct_begins;
  one_construct = constructs.one_construct;
  no_construct = constructs.no_construct;
  construct_continues = bearings.construct_continues;
  no_end_construct = bearings.no_end_construct;
  bears = bearings.bears;
  bears_own = bearings.bears_own;
  bears_first = bearings.bears_first;
  forms = counts.forms;
  forms_first = counts.forms_first;
  forms_place = counts.forms_place;
  one_empty = counts.one_empty;
  no_choice = sures.no_choice;
  sure = sures.sure;
  file_shape = counts.file_shape;
}
