use Rattle.c_objects.proofs.Found.{store_answers}
use Rattle.c_objects.proofs.memory.ObjectMemory.store.Goals as goal

pub returns-in-Ptr-clause-checked : goal.returns-in-Ptr-clause-checked
returns-in-Ptr-clause-checked c = λ objects fits. store_answers c.store_to.result objects c.args.self.now c.args.place c.in-Ptr.at c.in-Ptr.is fits c.args.ty
    c.store_to.ensures.checked
