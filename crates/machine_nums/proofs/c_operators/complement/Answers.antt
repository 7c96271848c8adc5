use Rattle.machine_nums.proofs.Nodes.{complement_value}
use Rattle.machine_nums.proofs.c_operators.complement.Goals as goal

pub returns : goal.returns
returns c = λ v n h. complement_value v n c.args.t c.in_ok-ones.ones c.in_ok-new.field-0 c.args.a c.in_ok-ones.ensures.ok c.in_ok-new.ensures.ok h
