use Rattle.std.proofs.Common.{◌≡◌, ◌++◌}
use Rattle.c_syntax.specs.Types.{ctype_tree}
use Rattle.report.specs.TypeText.{type_text}
use Rattle.report.proofs.types.type_text.Given as goal

abbrev pub invariant-loop-ty : goal.invariant-loop-ty
invariant-loop-ty l = l.text.items ++ type_text l.tags (ctype_tree l.ty) ≡ type_text l.fn.tags (ctype_tree l.fn.ty)
