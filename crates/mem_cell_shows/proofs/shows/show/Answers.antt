use Rattle.std.proofs.Common.{◌≡◌, Some, map, subst, sym}
use Rattle.std.proofs.lemmas.Result.{IfOk-weaker}
use Rattle.csharp.specs.Trees.{csexpr_tree}
use Rattle.csharp.specs.States.{operand_of}
use Rattle.mem_cell_shows.specs.Checks.{HasTwo}
use Rattle.mem_cell_shows.proofs.Looks.{formed-two}
use Rattle.mem_cell_shows.proofs.shows.show.Goals as goal

pub shown_check-requires : goal.shown_check-requires
shown_check-requires g c =
    let check = c.args.check.now in
    subst (λ os. HasTwo check.check.kind (map csexpr_tree os)) (sym c.as_slice.ensures)
    (formed-two c.requires.0 check.check.kind (map csexpr_tree check.operands) c.requires.1.check.0)

pub returns-clause-holds : goal.returns-clause-holds
returns-clause-holds g c =
    let check = c.args.check.now in
    IfOk-weaker c.shown_check.result _ _
    (λ w h objects s x st look. h.holds objects s x st
    (subst (λ os. operand_of check.check.kind check.ty (map csexpr_tree os) s ≡ Some x) (sym c.as_slice.ensures) look)) c.shown_check.ensures
