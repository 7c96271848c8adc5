use Rattle.std.proofs.Common.{◌≡◌, subst, sym}
use Rattle.std.proofs.lemmas.Result.{IfOk-weaker}
use Rattle.mem_cell_bytes.specs.Contents.{Contents, contents}
use Rattle.mem_cell_bytes.specs.Stores.{AreBytesLeft, AreLeft}
use Rattle.mem_cell_grid.proofs.lefts.left.Goals as goal

pub returns-clause-cells : goal.returns-clause-cells
returns-clause-cells c =
    let cells = c.in_ok-cells.cells.items in let stretches = c.in_ok-stretches.stretches.items in
    IfOk-weaker c.of.result (λ h. h ≡ contents cells stretches) (λ h. AreLeft c.args.held.now.cells c.args.at c.args.count h.cells)
    (λ h is. subst (λ (x : Contents). AreLeft c.args.held.now.cells c.args.at c.args.count x.cells) (sym is)
    (subst (λ xs. AreLeft xs c.args.at c.args.count cells) c.cells.ensures c.in_ok-cells.ensures)) c.of.ensures

pub returns-clause-bytes : goal.returns-clause-bytes
returns-clause-bytes c =
    let cells = c.in_ok-cells.cells.items in let stretches = c.in_ok-stretches.stretches.items in
    IfOk-weaker c.of.result (λ h. h ≡ contents cells stretches) (λ h. AreBytesLeft c.args.held.now.stretches c.args.at c.args.count h.stretches)
    (λ h is. subst (λ (x : Contents). AreBytesLeft c.args.held.now.stretches c.args.at c.args.count x.stretches) (sym is)
    (subst (λ xs. AreBytesLeft xs c.args.at c.args.count stretches) c.stretches.ensures c.in_ok-stretches.ensures)) c.of.ensures
