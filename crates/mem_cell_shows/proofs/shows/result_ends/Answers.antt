use Rattle.std.proofs.Common.{subst}
use Rattle.machine_nums.specs.MExprs.{mexpr_tree}
use Rattle.std.proofs.lemmas.Result.{IfOk-weaker}
use Rattle.csharp.specs.Trees.{csexpr_tree}
use Rattle.mem_cell_exprs.proofs.Options.{some-at}
use Rattle.mem_cell_shows.specs.Exacts.{IsExactFor}
use Rattle.mem_cell_shows.proofs.ByKind.{any-result, result-of}
use Rattle.mem_cell_shows.proofs.shows.result_ends.Goals as goal

pub returns-in-Some : goal.returns-in-Some
returns-in-Some g c =
    let e = csexpr_tree c.args.e.now in let m = c.in-Some.m in
    let exact : IsExactFor c.args.known.now.types e (mexpr_tree m) =
    subst (λ types. IsExactFor types e (mexpr_tree m)) c.as_slice.ensures
    (some-at (λ x. IsExactFor c.as_slice.result.now e (mexpr_tree x)) c.in_ok-m.field-0 m c.in-Some.is c.in_ok-m.ensures) in
    IfOk-weaker c.exact_ends.result _ _ (λ w h. result-of g.D.Oracle.admits c.args.known.now 0 e (mexpr_tree m) w exact h) c.exact_ends.ensures

pub returns-in-None : goal.returns-in-None
returns-in-None g c = any-result g.D.Oracle.admits c.args.known.now 0 (csexpr_tree c.args.e.now) c.all.result c.all.ensures.holds c.all.ensures.proper
