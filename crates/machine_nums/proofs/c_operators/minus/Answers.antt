use Rattle.machine_nums.proofs.Nodes.{minus_value}
use Rattle.machine_nums.proofs.c_operators.minus.Goals as goal

pub returns : goal.returns
returns c = λ v n h. minus_value v n c.args.t c.in_ok-new.field-0 c.args.a c.in_ok-new.ensures.ok h
