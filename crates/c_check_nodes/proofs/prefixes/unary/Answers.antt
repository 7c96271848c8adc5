use Rattle.std.proofs.Common.{ap, sym}
use Rattle.c_typing.specs.Nodes as nodes
use Rattle.c_check_operators.specs.OperandViews.{operand_tree}
use Rattle.c_check_names.proofs.Steps.{so}
use Rattle.c_check_nodes.proofs.prefixes.unary.Goals as goal

pub returns-in-AddressOf : goal.returns-in-AddressOf
returns-in-AddressOf c w same =
    so operand_tree w _ (ap (λ op. nodes.unary w c.args.pos op (operand_tree c.args.operand)) (sym c.in-AddressOf.is)) (c.address.ensures w same)

pub returns-in-Deref : goal.returns-in-Deref
returns-in-Deref c w same =
    so operand_tree w _ (ap (λ op. nodes.unary w c.args.pos op (operand_tree c.args.operand)) (sym c.in-Deref.is)) (c.pointed.ensures w same)

pub returns-in-Plus : goal.returns-in-Plus
returns-in-Plus c w same =
    so operand_tree w _ (ap (λ op. nodes.unary w c.args.pos op (operand_tree c.args.operand)) (sym c.in-Plus.is)) (c.signed.ensures w same)

pub returns-in-Minus : goal.returns-in-Minus
returns-in-Minus c w same =
    so operand_tree w _ (ap (λ op. nodes.unary w c.args.pos op (operand_tree c.args.operand)) (sym c.in-Minus.is)) (c.signed-in-Minus.ensures w same)

pub returns-in-Complement : goal.returns-in-Complement
returns-in-Complement c w same =
    so operand_tree w _ (ap (λ op. nodes.unary w c.args.pos op (operand_tree c.args.operand)) (sym c.in-Complement.is)) (c.signed-in-Complement.ensures w same)

pub returns-in-Not : goal.returns-in-Not
returns-in-Not c w same =
    so operand_tree w _ (ap (λ op. nodes.unary w c.args.pos op (operand_tree c.args.operand)) (sym c.in-Not.is)) (c.negated.ensures w same)
