use Rattle.std.proofs.Common.{◌∙◌, ap, subst}
use Rattle.std.proofs.lemmas.Result.{IfOk-weaker}
use Rattle.machine_nums.specs.MExprs.{mexpr_tree}
use Rattle.machine_nums.specs.Machine.{machine_value}
use Rattle.machine_nums.specs.Laws.{StandsForComparison}
use Rattle.mem_cell_shows.proofs.Comparing.{compared-is, turned-is}
use Rattle.mem_cell_shows.proofs.compares.compared.Goals as goal

pub returns-then-way : goal.returns-then-way
returns-then-way c =
    let way = c.comparison_operator-way in
    let law = subst (StandsForComparison c.args.c way.result.op) c.if-way.true way.ensures in
    IfOk-weaker c.binary_node.result _ _
    (λ m tree v x y is also. ap (machine_value v) tree ∙ turned-is c.args.c way.result.op v (mexpr_tree c.args.a) (mexpr_tree c.args.b) x y law is also) c.binary_node.ensures

pub returns-else-way : goal.returns-else-way
returns-else-way c =
    let way = c.comparison_operator-way in
    let law = subst (StandsForComparison c.args.c way.result.op) c.if-way.false way.ensures in
    IfOk-weaker c.binary_node-else-way.result _ _
    (λ m tree v x y is also. ap (machine_value v) tree ∙ compared-is c.args.c way.result.op v (mexpr_tree c.args.a) (mexpr_tree c.args.b) x y law is also) c.binary_node-else-way.ensures
