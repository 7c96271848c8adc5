use Rattle.std.proofs.Common.{ap, map, subst, sym}
use Rattle.std.specs.Prelude.{IfOk}
use Rattle.std.proofs.lemmas.Result.{IfOk-weaker}
use Rattle.csharp.specs.Trees.{csexpr_tree}
use Rattle.mem_cell_shows.specs.Checks.{IsShown}
use Rattle.mem_cell_shows.proofs.ByKind.{one-kind, pair-kind}
use Rattle.mem_cell_shows.proofs.Looks.{not-two, two-items}
use Rattle.mem_cell_shows.proofs.shows.pointers_shown.Goals as goal

pub returns-then-operands-eq2 : goal.returns-then-operands-eq2
returns-then-operands-eq2 g c =
    let known = c.args.known.now in let e = c.index-operands-0.result in let f = c.index-operands-1.result in
    let are = two-items c.args.operands.now e f c.if-operands-eq2.true c.index-operands-0.is c.index-operands-1.is in
    subst (λ es. IfOk c.pair_shown.result (λ w. IsShown g.D.Oracle.admits known c.args.count c.args.kind c.args.ty es w)) (sym (ap (map csexpr_tree) are))
    (IfOk-weaker c.pair_shown.result _ _
    (λ w h. pair-kind g.D.Oracle.admits known c.args.count c.args.ty (csexpr_tree e) (csexpr_tree f) w h c.args.kind c.requires.kind) c.pair_shown.ensures)

pub returns-in_ok-set_shown : goal.returns-in_ok-set_shown
returns-in_ok-set_shown g c =
    one-kind g.D.Oracle.admits c.args.known.now c.args.count c.args.ty (map csexpr_tree c.args.operands.now) c.args.kind c.in_ok-set_shown.field-0 c.requires.kind c.requires.two
    (not-two c.args.operands.now c.if-operands-eq2.false) c.in_ok-set_shown.ensures
