use Rattle.std.proofs.Common.{◌≡◌, [], map, subst, ◌∙◌}
use Rattle.std.specs.Prelude.{IfOk}
use Rattle.c_syntax.specs.Program.{tprogram_tree}
use Rattle.c_syntax.specs.TypedStmt.{tinit_tree}
use Rattle.lower_nodes.specs.Parts.{coded_tree}
use Rattle.lower_trees.specs.LowerStmt.{rest_code, scope_code}
use Rattle.lower_stmt.specs.Views.{listed_tree}
use Rattle.lower_stmt.proofs.inits.declare.Goals as goal

pub returns : goal.returns
returns c =
    let rest = rest_code (tprogram_tree c.args.program.now) c.args.object (map tinit_tree c.args.inits.now) c.args.zeroes_rest in
    let whole = c.finish.ensures ∙ c.in_ok-zeroed.ensures c.args.d ∙ c.in_ok-listed.ensures rest in
    subst (λ all. IfOk c.scope.result (λ x. coded_tree x ≡ scope_code [] all)) whole
    (subst (λ xs. IfOk c.scope.result (λ x. coded_tree x ≡ scope_code xs (listed_tree c.finish.result))) c.new-none.ensures c.scope.ensures)
