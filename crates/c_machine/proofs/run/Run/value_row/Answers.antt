use Rattle.std.proofs.Common.{List, map, sym, subst}
use Rattle.c_syntax.specs.declared.types.Object.{Object}
use Rattle.c_syntax.specs.Types.{object_tree}
use Rattle.c_syntax.specs.Program.{tprogram_tree}
use Rattle.c_objects.specs.Kept.{AreSmall}
use Rattle.c_machine_work.specs.Views.{item_of}
use Rattle.c_machine.specs.States.{run_state}
use Rattle.c_machine.proofs.Ready.{sound_of, value_ready}
use Rattle.c_machine.proofs.run.Run.value_row.Goals as goal

pub row-requires-clause-needs : goal.row-requires-clause-needs
row-requires-clause-needs c =
    value_ready (tprogram_tree c.args.program.now) (item_of c.args.item.now) (run_state c.args.self.now) c.requires.kind c.requires.next

pub row-requires-clause-small : goal.row-requires-clause-small
row-requires-clause-small c =
    subst (λ (os : List Object). AreSmall (map object_tree os)) (sym c.as_slice.ensures)
    (sound_of (tprogram_tree c.args.program.now) (item_of c.args.item.now) (run_state c.args.self.now) c.requires.next).small
