use Rattle.csharp_typed_laws.proofs.Steps as steps
use Rattle.csharp_typed_laws.proofs.laws.actions_keep_states_typed.Goals as goal

pub returns-clause-set : goal.returns-clause-set
returns-clause-set c = steps.set_keeps

pub returns-clause-load : goal.returns-clause-load
returns-clause-load c = steps.load_keeps

pub returns-clause-store : goal.returns-clause-store
returns-clause-store c = steps.store_keeps

pub returns-clause-copy : goal.returns-clause-copy
returns-clause-copy c = steps.copy_keeps

pub returns-clause-undefine : goal.returns-clause-undefine
returns-clause-undefine c = steps.undefine_keeps

pub returns-clause-input : goal.returns-clause-input
returns-clause-input c = steps.input_keeps

pub returns-clause-enter : goal.returns-clause-enter
returns-clause-enter c = steps.enter_keeps

pub returns-clause-leave : goal.returns-clause-leave
returns-clause-leave c = steps.leave_keeps

pub returns-clause-pass : goal.returns-clause-pass
returns-clause-pass c = steps.pass_keeps

pub returns-clause-give : goal.returns-clause-give
returns-clause-give c = steps.give_keeps
