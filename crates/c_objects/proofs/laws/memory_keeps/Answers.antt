use Rattle.c_objects.proofs.Keeping.{keeps_kept, kept_keeps, keeps_none, keeps_opened}
use Rattle.c_objects.proofs.Shutting.{keeps_shut}
use Rattle.c_objects.proofs.Writes.{keeps_stored, keeps_copied, keeps_undefined, keeps_rest}
use Rattle.c_objects.specs.Opening.{no_objects, opened, shut}
use Rattle.std.proofs.Common.{length}
use Rattle.c_objects.proofs.laws.memory_keeps.Goals as goal

pub returns-clause-none : goal.returns-clause-none
returns-clause-none c = λ objects. kept_keeps objects (no_objects (length objects)) (keeps_none (Unit {0}) objects)

pub returns-clause-opened : goal.returns-clause-opened
returns-clause-opened c = λ objects m x k there free.
    kept_keeps objects (opened objects m x) (keeps_opened (Unit {0}) objects m x (keeps_kept objects m k) there free)

pub returns-clause-shut : goal.returns-clause-shut
returns-clause-shut c = λ objects m x k. kept_keeps objects (shut m x) (keeps_shut (Unit {0}) objects m x (keeps_kept objects m k))

pub returns-clause-stored : goal.returns-clause-stored
returns-clause-stored c = λ objects m ty to v n k made typed own h.
    kept_keeps objects n (keeps_stored (Unit {0}) objects m (keeps_kept objects m k) ty to v n made typed own h)

pub returns-clause-copied : goal.returns-clause-copied
returns-clause-copied c = λ objects m to from size n k made h.
    kept_keeps objects n (keeps_copied (Unit {0}) objects m (keeps_kept objects m k) to from size n made h)

pub returns-clause-undefined : goal.returns-clause-undefined
returns-clause-undefined c = λ objects m x n k h. kept_keeps objects n (keeps_undefined (Unit {0}) objects m (keeps_kept objects m k) x n h)

pub returns-clause-rest : goal.returns-clause-rest
returns-clause-rest c = λ objects m x inits n k h. kept_keeps objects n (keeps_rest (Unit {0}) objects m x inits n (keeps_kept objects m k) h)
