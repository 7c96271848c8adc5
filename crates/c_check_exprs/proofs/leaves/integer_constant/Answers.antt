use Rattle.std.proofs.Common.{ap, sym, if◌then◌else◌}
use Rattle.std.proofs.lemmas.Bool.{le-leb}
use Rattle.c_typing.specs.Nodes.{number}
use Rattle.c_typing.specs.World.{Refused, Undeclared}
use Rattle.c_check_operators.specs.OperandViews.{operand_tree}
use Rattle.c_check_names.proofs.Steps.{so}
use Rattle.c_check_exprs.proofs.leaves.integer_constant.Goals as goal

pub returns-then-constant-le2 : goal.returns-then-constant-le2
returns-then-constant-le2 c w =
    so operand_tree w c.number.result
    (ap (λ b. if b then number w c.args.pos c.args.constant else Refused (Undeclared c.args.pos)) (sym (le-leb c.args.constant.longs 2 c.if-constant-le2.true)))
    (c.number.ensures w)
