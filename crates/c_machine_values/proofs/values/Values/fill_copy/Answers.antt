use Rattle.std.proofs.Common.{subst}
use Rattle.c_steps_laws.specs.Needs.{FillCopyNeeds}
use Rattle.c_machine_values.proofs.Done.{fill_copy_wrong, fits_at}
use Rattle.c_machine_values.proofs.values.Values.fill_copy.Goals as goal

pub returns-in-Err : goal.returns-in-Err
returns-in-Err c = λ objects fit.
    let m = c.args.self.now.memory in
    let source = c.take_struct-source.result.1 in
    let needs = subst (FillCopyNeeds c.requires.1.0.objects m c.args.object c.args.offset c.args.extent) c.take_struct-source.ensures c.requires.1.2 in
    fill_copy_wrong objects m _ _ _ c.args.object c.args.offset c.args.extent c.take_struct-source.result.0 source _ _ c.take_struct-source.ensures
    c.in_ok-put.ensures (c.in-Err.ensures objects (fits_at objects m fit source needs.0.1))
