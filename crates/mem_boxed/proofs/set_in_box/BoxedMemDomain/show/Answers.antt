use Rattle.mem_boxed.proofs.set_in_box.BoxedMemDomain.show.Goals as goal

pub returns-clause-sharp : goal.returns-clause-sharp
returns-clause-sharp g c = rw (← c.self.view_is, ← c.deref.ensures) c.show.ensures.sharp
