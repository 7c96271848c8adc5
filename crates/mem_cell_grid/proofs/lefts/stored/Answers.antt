use Rattle.std.proofs.Common.{◌≡◌, subst, sym}
use Rattle.std.proofs.lemmas.Result.{IfOk-weaker}
use Rattle.mem_cell_bytes.specs.Cells.{size_of}
use Rattle.mem_cell_bytes.specs.Contents.{Contents, contents}
use Rattle.mem_cell_bytes.specs.Stands.{Has}
use Rattle.mem_cell_bytes.specs.Stores.{AreBytesLeft, AreLeft}
use Rattle.mem_cell_grid.specs.Lefts.{AreStored}
use Rattle.mem_cell_grid.proofs.Cutting.{stored-left}
use Rattle.mem_cell_grid.proofs.Lists.{has-insert}
use Rattle.mem_cell_grid.proofs.lefts.stored.Goals as goal

pub returns-clause-cells : goal.returns-clause-cells
returns-clause-cells c =
    let cell = c.args.cell in let left = c.in_ok-cells.cells.items in let cells = c.insert.new.self.items in let stretches = c.in_ok-stretches.stretches.items in
    let were : AreLeft c.args.held.now.cells cell.offset (size_of cell) left =
    subst (λ n. AreLeft c.args.held.now.cells cell.offset n left) c.size_in-size.ensures.value
    (subst (λ xs. AreLeft xs cell.offset c.size_in-size.result left) c.cells.ensures c.in_ok-cells.ensures) in
    IfOk-weaker c.of.result (λ h. h ≡ contents cells stretches) (λ h. AreStored c.args.held.now.cells cell h.cells)
    (λ h is. subst (λ (x : Contents). AreStored c.args.held.now.cells cell x.cells) (sym is)
    (stored-left c.args.held.now.cells left cells cell 0 were
    (λ e got. has-insert left c.count_before-place.result cell e (subst (λ xs. Has xs e) c.in_ok-insert.ensures.items got)))) c.of.ensures

pub returns-clause-bytes : goal.returns-clause-bytes
returns-clause-bytes c =
    let cell = c.args.cell in let cells = c.insert.new.self.items in let stretches = c.in_ok-stretches.stretches.items in
    IfOk-weaker c.of.result (λ h. h ≡ contents cells stretches) (λ h. AreBytesLeft c.args.held.now.stretches cell.offset (size_of cell) h.stretches)
    (λ h is. subst (λ (x : Contents). AreBytesLeft c.args.held.now.stretches cell.offset (size_of cell) x.stretches) (sym is)
    (subst (λ n. AreBytesLeft c.args.held.now.stretches cell.offset n stretches) c.size_in-size.ensures.value
    (subst (λ xs. AreBytesLeft xs cell.offset c.size_in-size.result stretches) c.stretches.ensures c.in_ok-stretches.ensures))) c.of.ensures
