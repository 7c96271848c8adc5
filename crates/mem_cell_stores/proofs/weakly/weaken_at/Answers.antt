use Rattle.std.proofs.Common.{◌∙◌, subst, sym}
use Rattle.mem_cell_bytes.specs.Contents.{Contents}
use Rattle.mem_cell_bytes.specs.Stores.{AreBytesLeft}
use Rattle.mem_cell_stores.specs.Hits.{AreWeakCells}
use Rattle.mem_cell_stores.proofs.Weaker.{weakened-at, weakened-missing}
use Rattle.mem_cell_stores.proofs.weakly.weaken_at.Goals as goal

pub returns-in_default : goal.returns-in_default
returns-in_default c = record {
  among = λ y h. h;
  weak = weakened-missing c.args.bytes c.args.ty c.args.content.now c.args.object c.args.variables.now.items c.args.grid.now c.in_default.ensures;
}

pub returns : goal.returns
returns c =
    let o = c.args.object in let b = c.args.bytes in let ty = c.args.ty in let content = c.args.content.now in let ys = c.weak_cells.new.variables.items in
    let held = c.in-Some.held.now in let weak = c.in_ok-weak.weak in
    let cells = subst (λ xs. AreWeakCells o b ty content ys xs c.in_ok-cells.cells.items) c.cells.ensures c.in_ok-cells.ensures.cells in
    let bytes = subst (AreBytesLeft held.stretches b.at b.count) (sym (c.in_ok-stretches.ensures.items ∙ c.stretches.ensures)) c.in_ok-rest.ensures.bytes in
    record {
      among = c.in_ok-cells.ensures.among;
      weak = weakened-at b ty content o ys c.args.grid.now c.put.new.self held weak c.in-Some.ensures
          (subst (λ (h : Contents). AreWeakCells o b ty content ys held.cells h.cells) (sym c.in_ok-weak.ensures) cells)
          (subst (λ (h : Contents). AreBytesLeft held.stretches b.at b.count h.stretches) (sym c.in_ok-weak.ensures) bytes) c.put.ensures;
    }
