use Rattle.std.proofs.Common.{map, subst}
use Rattle.std.proofs.lemmas.Result.{IfOk-weaker}
use Rattle.csharp.specs.Trees.{csexpr_tree}
use Rattle.mem_cell_shows.specs.Changes.{AllSpare, bad_base}
use Rattle.mem_cell_shows.proofs.Keeping.{all-kept}
use Rattle.mem_cell_shows.proofs.Looks.{two-items}
use Rattle.mem_cell_shows.proofs.passes.keep_all_without.Goals as goal

pub returns-then-operands-eq2-clause-stands : goal.returns-then-operands-eq2-clause-stands
returns-then-operands-eq2-clause-stands g c =
    let are = two-items c.args.operands.now c.index-operands-0.result c.index-operands-1.result c.if-operands-eq2.true c.index-operands-0.is c.index-operands-1.is in
    IfOk-weaker c.keep_two_without.result _ _
    (λ live stands objects s st h. stands objects s st (subst (λ os. AllSpare (map csexpr_tree os) (bad_base c.args.dead) s) are h)) c.keep_two_without.ensures.stands

pub returns-in-Some-clause-stands : goal.returns-in-Some-clause-stands
returns-in-Some-clause-stands g c = IfOk-weaker c.keep_without.result _ _
    (λ live stands objects s st h. stands objects s st (subst (λ os. AllSpare (map csexpr_tree os) (bad_base c.args.dead) s) c.in-Some.ensures h)) c.keep_without.ensures.stands

pub returns-in-None-clause-stands : goal.returns-in-None-clause-stands
returns-in-None-clause-stands g c = λ objects s st h. all-kept g.D.Oracle.admits objects c.args.known.now s st
