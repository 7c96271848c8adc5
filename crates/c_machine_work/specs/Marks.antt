-- Marks, as the definition of the machine has them.
use Rattle.c_steps.specs.Marks.{Mark, AtLabel, AtCase, AtDefault}
use Rattle.c_machine_work.specs.declared.marks.Mark as code
use Rattle.c_machine_work.specs.declared.marks.Mark.TheVariants as marks

abbrev pub mark_of : code.Mark → Mark
mark_of (marks.Label label) = AtLabel label
mark_of (marks.Case value) = AtCase value
mark_of marks.Default = AtDefault
