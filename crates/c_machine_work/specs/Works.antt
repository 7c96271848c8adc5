-- The work that is left, the next item first.
use Rattle.std.specs.Prelude.{List, []}
use Rattle.c_steps.specs.Work.{Item}
use Rattle.c_machine_work.specs.declared.work.Work.{Work}
use Rattle.c_machine_work.specs.Views.{in_front}

abbrev pub work_of : Work → List Item
work_of work = in_front work.items.items []
