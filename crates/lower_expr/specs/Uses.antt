-- What is wanted of an expression.
use Rattle.lower_trees.specs.LowerExpr.{Forms, Lowered}
use Rattle.lower_expr.specs.declared.uses.Wanted.{Wanted}
use Rattle.lower_expr.specs.declared.uses.Wanted.TheVariants as wants

abbrev pub used_of : Wanted → Forms → Lowered
used_of wants.Value forms = forms.value
used_of (wants.Source extent) forms = forms.source extent.size extent.align
