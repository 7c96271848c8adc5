use Rattle.std.proofs.Common.{◌≡◌, subst}
use Rattle.std.specs.Prelude.{IfOk, option_map}
use Rattle.c_syntax.specs.TypedExpr.{texpr_tree}
use Rattle.c_check_operators.proofs.binary.comparison_row.Goals as goal

pub returns : goal.returns
returns c =
    subst (λ row. IfOk c.row_of.result (λ found. option_map texpr_tree found ≡ row)) (c.comparison_form-form.ensures _ _ _) c.row_of.ensures
