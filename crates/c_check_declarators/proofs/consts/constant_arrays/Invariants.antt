use Rattle.std.proofs.Common.{◌≡◌, false}
use Rattle.std.specs.Prelude.{if◌then◌else◌, ◌||◌}
use Rattle.c_syntax.specs.Types.{ctype_tree}
use Rattle.c_layout.specs.WellTyped.{is_array}
use Rattle.c_typing.specs.Specifiers.{with_const_elements}
use Rattle.c_check_declarators.specs.Arrays.{arrays_of}
use Rattle.c_check_declarators.proofs.consts.constant_arrays.Given as goal

abbrev pub invariant-inward : goal.invariant-inward
invariant-inward l = with_const_elements (ctype_tree l.ty) l.is_const
    ≡ arrays_of l.counts.items (with_const_elements (ctype_tree l.element) l.is_const) (if is_array (ctype_tree l.element) then false else (l.element_const || l.is_const))
