use Rattle.mem_boxed.proofs.set_in_box.BoxedMemDomain.facts.Goals as goal

pub returns-clause-told : goal.returns-clause-told
returns-clause-told g c = rw (← c.self.view_is, ← c.deref.ensures) c.facts.ensures.told

pub returns-clause-sharp : goal.returns-clause-sharp
returns-clause-sharp g c = rw (← c.self.view_is, ← c.deref.ensures) c.facts.ensures.sharp
