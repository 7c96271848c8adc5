use Rattle.std.specs.Prelude.{Ok}
use Rattle.c_objects.proofs.Found.{load_answers}
use Rattle.c_objects.proofs.memory.ObjectMemory.load.Goals as goal

pub returns-in-Ptr-clause-answer : goal.returns-in-Ptr-clause-answer
returns-in-Ptr-clause-answer c = λ objects fits. load_answers (Ok tt) objects c.args.self.now c.args.place c.in-Ptr.at c.in-Ptr.is fits c.args.ty
    c.load_from.result c.load_from.ensures.answer
