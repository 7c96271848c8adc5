use Rattle.c_machine_work.proofs.Shapes.{no_use}
use Rattle.c_machine_work.proofs.work.Work.put_use.Goals as goal

pub unreachable-requires : goal.unreachable-requires
unreachable-requires c =
    no_use c.args.e.now c.requires c.in_default.not-AddressOf c.in_default.not-Decay c.in_default.not-Load c.in_default.not-Whole c.in_default.not-Assign
    c.in_default.not-AssignStruct c.in_default.not-Compound c.in_default.not-Step
