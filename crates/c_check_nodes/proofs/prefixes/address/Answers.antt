use Rattle.std.proofs.Common.{ap, sym}
use Rattle.c_typing.specs.Nodes as nodes
use Rattle.c_check_operators.specs.OperandViews.{operand_tree}
use Rattle.c_check_names.proofs.Steps.{so}
use Rattle.c_check_nodes.proofs.prefixes.address.Goals as goal

pub returns : goal.returns
returns c w same = so operand_tree w _ (ap (λ x. nodes.address w c.args.pos (operand_tree x)) (sym c.in-Place.is)) (c.address_of.ensures w same)
