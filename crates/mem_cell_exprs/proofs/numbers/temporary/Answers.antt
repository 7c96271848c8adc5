use Rattle.std.proofs.Common.{◌∙◌, ap, subst, sym}
use Rattle.machine_nums.specs.MExprs as numbers
use Rattle.machine_nums.proofs.Trees.{mexpr_read}
use Rattle.csharp.specs.Trees.{Temp}
use Rattle.mem_cell_exprs.specs.Exprs.{IsNumberFor}
use Rattle.mem_cell_exprs.proofs.Nodes.{temp-number}
use Rattle.mem_cell_grid.proofs.Lists.{get-index}
use Rattle.mem_cell_exprs.proofs.numbers.temporary.Goals as goal

pub returns-in-Int : goal.returns-in-Int
returns-in-Int c =
    let types = c.args.types.now in let d = c.args.temp in let ty = c.in-Int.ty in
    subst (IsNumberFor types (Temp d)) (sym (mexpr_read c.temp_variable.result ty ∙ ap (λ x. numbers.Read x ty) c.temp_variable.ensures))
    (temp-number types d ty (get-index types d _ _ c.if-temp-types.false (sym c.in-Int.is)))
