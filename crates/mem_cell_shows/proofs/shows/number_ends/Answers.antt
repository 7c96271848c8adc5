use Rattle.std.proofs.Common.{subst}
use Rattle.machine_nums.specs.MExprs.{mexpr_tree}
use Rattle.std.proofs.lemmas.Result.{IfOk-weaker}
use Rattle.csharp.specs.Trees.{csexpr_tree}
use Rattle.mem_cell_exprs.specs.Exprs.{IsNumberFor}
use Rattle.mem_cell_exprs.proofs.Options.{some-at}
use Rattle.mem_cell_shows.proofs.ByKind.{number-of}
use Rattle.mem_cell_shows.proofs.shows.number_ends.Goals as goal

pub returns-in-Some : goal.returns-in-Some
returns-in-Some g c =
    let e = csexpr_tree c.args.e.now in let m = c.in-Some.m in
    let number : IsNumberFor c.args.known.now.types e (mexpr_tree m) =
    subst (λ types. IsNumberFor types e (mexpr_tree m)) c.as_slice.ensures
    (some-at (λ x. IsNumberFor c.as_slice.result.now e (mexpr_tree x)) c.in_ok-m.field-0 m c.in-Some.is c.in_ok-m.ensures) in
    IfOk-weaker c.value_ends.result _ _ (λ w h. number-of g.D.Oracle.admits c.args.known.now 0 e (mexpr_tree m) w number h) c.value_ends.ensures
