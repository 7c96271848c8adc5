use Rattle.std.proofs.Common.{◌≡◌, refl, subst, sym, ◌∙◌}
use Rattle.std.proofs.lemmas.Result.{IfOk-weaker}
use Rattle.mem_cell_bytes.specs.Contents.{contents}
use Rattle.mem_cell_bytes.specs.Stands.{Has, IsInStretch}
use Rattle.mem_cell_grid.specs.Endings.{AreKilled, IsKilled}
use Rattle.mem_cell_grid.proofs.Endings.{plain-killed}
use Rattle.mem_cell_grid.proofs.ended.killed_held.Goals as goal

pub returns-then-are_numbers : goal.returns-then-are_numbers
returns-then-are_numbers c =
    let held = c.args.held.now in
    IfOk-weaker c.share.result (λ h. h ≡ held) (IsKilled c.args.gone.now held)
    (λ h is. subst (IsKilled c.args.gone.now held) (sym is)
    (plain-killed c.args.gone.now held (λ e has. c.if-are_numbers.ensures refl e (subst (λ xs. Has xs e) (sym c.cells.ensures) has)))) c.share.ensures

pub returns : goal.returns
returns c =
    let held = c.args.held.now in let cells = c.in_ok-cells.cells.items in let stretches = c.in_ok-stretches.stretches.items in
    IfOk-weaker c.of.result (λ h. h ≡ contents cells stretches) (IsKilled c.args.gone.now held)
    (λ h is. subst (IsKilled c.args.gone.now held) (sym is) (record {
      cells = subst (λ xs. AreKilled c.args.gone.now xs cells) c.cells-2.ensures c.in_ok-cells.ensures;
      bytes = λ q x i. subst (λ (xs : _). IsInStretch xs q x) (c.in_ok-stretches.ensures.items ∙ c.stretches.ensures) i;
    })) c.of.ensures
