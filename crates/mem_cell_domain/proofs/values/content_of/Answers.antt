use Rattle.std.proofs.lemmas.Result.{IfOk-weaker}
use Rattle.mem_cell_domain.proofs.values.content_of.Goals as goal

pub returns-in-Int : goal.returns-in-Int
returns-in-Int g c = rw c.in-Int.is (IfOk-weaker c.int_content.result _ _ (λ l law. law c.in-Int.field-0) c.int_content.ensures)

pub returns-in-Pointer : goal.returns-in-Pointer
returns-in-Pointer g c = rw c.in-Pointer.is c.pointer_content.ensures
