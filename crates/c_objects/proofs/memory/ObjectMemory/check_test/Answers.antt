use Rattle.c_objects.proofs.Found.{pointer_test}
use Rattle.c_objects.proofs.memory.ObjectMemory.check_test.Goals as goal

pub returns-in-Ptr : goal.returns-in-Ptr
returns-in-Ptr c = λ objects. pointer_test c.check_test.result objects c.args.self.now c.args.ty c.args.v c.spot.result c.requires.typed c.spot.ensures.spot
    (c.check_test.ensures objects)
