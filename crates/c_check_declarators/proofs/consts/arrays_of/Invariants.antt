use Rattle.std.proofs.Common.{◌≡◌, vec_len}
use Rattle.c_syntax.specs.Types.{ctype_tree}
use Rattle.c_check_declarators.specs.Arrays.{arrays_of}
use Rattle.c_check_declarators.proofs.consts.arrays_of.Given as goal

abbrev pub invariant-outward : goal.invariant-outward
invariant-outward l = arrays_of l.counts.items (ctype_tree l.ty) l.is_const ≡ arrays_of l.fn.counts.items (ctype_tree l.fn.element) l.fn.is_const

abbrev pub decreases-outward : goal.decreases-outward
decreases-outward l = vec_len l.counts
