use Rattle.c_objects.proofs.Keeping.{keeps_objects, objects_keep, keeps_none, keeps_opened}
use Rattle.c_objects.proofs.Shutting.{keeps_shut}
use Rattle.c_objects.proofs.Writes.{keeps_stored, keeps_copied, keeps_undefined, keeps_rest}
use Rattle.c_objects.specs.Opening.{no_objects, opened, shut}
use Rattle.std.proofs.Common.{length}
use Rattle.c_objects.proofs.laws.objects_keep.Goals as goal

pub returns-clause-none : goal.returns-clause-none
returns-clause-none c = λ objects. keeps_objects ⊥ objects (no_objects (length objects)) (keeps_none ⊥ objects)

pub returns-clause-opened : goal.returns-clause-opened
returns-clause-opened c = λ objects m x k there free.
    keeps_objects ⊥ objects (opened objects m x) (keeps_opened ⊥ objects m x (objects_keep objects m k) there free)

pub returns-clause-shut : goal.returns-clause-shut
returns-clause-shut c = λ objects m x k. keeps_objects ⊥ objects (shut m x) (keeps_shut ⊥ objects m x (objects_keep objects m k))

pub returns-clause-stored : goal.returns-clause-stored
returns-clause-stored c = λ objects m ty to v n k made typed own h.
    keeps_objects ⊥ objects n (keeps_stored ⊥ objects m (objects_keep objects m k) ty to v n made typed own h)

pub returns-clause-copied : goal.returns-clause-copied
returns-clause-copied c = λ objects m to from size n k made h.
    keeps_objects ⊥ objects n (keeps_copied ⊥ objects m (objects_keep objects m k) to from size n made h)

pub returns-clause-undefined : goal.returns-clause-undefined
returns-clause-undefined c = λ objects m x n k h. keeps_objects ⊥ objects n (keeps_undefined ⊥ objects m (objects_keep objects m k) x n h)

pub returns-clause-rest : goal.returns-clause-rest
returns-clause-rest c = λ objects m x inits n k h. keeps_objects ⊥ objects n (keeps_rest ⊥ objects m x inits n (objects_keep objects m k) h)
