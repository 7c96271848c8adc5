use Rattle.num_api.specs.Exprs.{nexpr_tree}
use Rattle.num_api.proofs.Trees.{nexpr_read}
use Rattle.equalities.proofs.Inverses.{on_ok, solved_addend, solved_subtrahend}
use Rattle.equalities.proofs.solving.tell_right.Goals as goal

pub returns-in_ok-copy-in-Add-clause-told : goal.returns-in_ok-copy-in-Add-clause-told
returns-in_ok-copy-in-Add-clause-told c = on_ok c.tell_operator.result c.tell_operator.ensures.told (λ h v e.
    h v (solved_addend v c.args.op c.args.x.0 c.in-Some.y.0 (nexpr_tree c.args.a.now) (nexpr_tree c.args.b.now) _ _ c.in-Add.is c.in-Some.ensures.some (nexpr_read c.args.x) c.in_ok-copy-in-Add.ensures e))

pub returns-in_ok-copy-in-Sub-clause-told : goal.returns-in_ok-copy-in-Sub-clause-told
returns-in_ok-copy-in-Sub-clause-told c = on_ok c.tell_operator-in-Sub.result c.tell_operator-in-Sub.ensures.told (λ h v e.
    h v (solved_subtrahend v c.args.op c.args.x.0 c.in-Some.y.0 (nexpr_tree c.args.a.now) (nexpr_tree c.args.b.now) _ _ c.in-Sub.is c.in-Some.ensures.some (nexpr_read c.args.x) c.in_ok-copy-in-Sub.ensures e))
