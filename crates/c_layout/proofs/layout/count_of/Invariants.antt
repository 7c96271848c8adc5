use Rattle.std.proofs.Common.{◌≡◌, ◌*◌}
use Rattle.c_syntax.specs.Types.{ctype_tree}
use Rattle.c_layout.specs.Kept.{element_count, kept}
use Rattle.c_layout.proofs.layout.count_of.Given as goal

abbrev pub invariant-loop-ty : goal.invariant-loop-ty
invariant-loop-ty l =
    (kept (l.count * element_count (ctype_tree l.ty)) ≡ kept (element_count (ctype_tree l.fn.ty)))
    × (kept l.count ≡ l.count)
