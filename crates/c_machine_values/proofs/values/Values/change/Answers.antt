use Rattle.std.proofs.Common.{map, refl}
use Rattle.c_syntax.specs.Types.{object_tree}
use Rattle.c_machine_values.proofs.Done.{fits_at}
use Rattle.c_machine_values.proofs.Modifying.{no_load, no_result, no_store}
use Rattle.c_machine_values.proofs.values.Values.change.Goals as goal

pub returns-in-Err-clause-memory : goal.returns-in-Err-clause-memory
returns-in-Err-clause-memory c =
    let objects = map object_tree c.args.objects.now in
    let m = c.args.self.now.memory in
    no_load objects c.args.change c.args.place c.args.operand m c.fault_at.result c.in-Err.wrong m
    (c.in-Err.ensures.answer objects (fits_at objects m c.requires.fits c.args.place c.requires.place.1)) c.fault_at.ensures refl

pub returns-in-Err-changed-clause-memory : goal.returns-in-Err-changed-clause-memory
returns-in-Err-changed-clause-memory c =
    let objects = map object_tree c.args.objects.now in
    let m = c.args.self.now.memory in
    no_result objects c.args.change c.args.place c.args.operand m c.fault_at-in-Err-changed.result c.in-Err-changed.wrong c.in-Ok.old m
    (c.in-Ok.ensures.answer objects (fits_at objects m c.requires.fits c.args.place c.requires.place.1)) c.in-Err-changed.ensures.answer
    c.fault_at-in-Err-changed.ensures refl

pub returns-in-Err-store-clause-memory : goal.returns-in-Err-store-clause-memory
returns-in-Err-store-clause-memory c =
    let objects = map object_tree c.args.objects.now in
    let m = c.args.self.now.memory in
    let fit = fits_at objects m c.requires.fits c.args.place c.requires.place.1 in
    no_store objects c.args.change c.args.place c.args.operand m c.fault_at-in-Err-store.result c.in-Err-store.wrong c.in-Ok.old c.in-Ok-changed.new
    c.store.new.self (c.in-Ok.ensures.answer objects fit) c.in-Ok-changed.ensures.answer (c.in-Err-store.ensures.checked objects fit)
    c.fault_at-in-Err-store.ensures c.in-Err-store.ensures.err
