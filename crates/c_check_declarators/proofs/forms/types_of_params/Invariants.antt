use Rattle.std.proofs.Common.{◌≡◌, map, take}
use Rattle.c_syntax.specs.Types.{ctype_tree}
use Rattle.c_typing.specs.Declarators.{types_of_params}
use Rattle.c_check_declarators.specs.Views.{parameter_tree}
use Rattle.c_check_declarators.proofs.forms.types_of_params.Given as goal

abbrev pub invariant-loop-param : goal.invariant-loop-param
invariant-loop-param l = map ctype_tree l.tys.items ≡ types_of_params (map parameter_tree (take l.param-index l.params))
