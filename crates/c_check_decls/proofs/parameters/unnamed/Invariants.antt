use Rattle.std.proofs.Common.{◌≡◌, [], map, take}
use Rattle.c_syntax.specs.Types.{ctype_tree}
use Rattle.c_typing.specs.Decls.{parameters_of}
use Rattle.c_check_declarators.specs.Views.{parameter_tree}
use Rattle.c_check_decls.proofs.parameters.unnamed.Given as goal

abbrev pub invariant-loop-ty : goal.invariant-loop-ty
invariant-loop-ty l = map parameter_tree l.params.items ≡ parameters_of [] (map ctype_tree (take l.ty-index l.types)) l.pos
