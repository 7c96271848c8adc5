use Rattle.c_objects.proofs.Found.{write_answers}
use Rattle.c_objects.proofs.memory.ObjectMemory.check_write.Goals as goal

pub returns-in-Ptr : goal.returns-in-Ptr
returns-in-Ptr c = λ objects fits. write_answers c.access.result objects c.args.self.now c.args.place c.in-Ptr.at c.in-Ptr.is fits c.args.size c.args.align
    c.access.ensures
