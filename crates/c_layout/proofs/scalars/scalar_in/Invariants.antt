use Rattle.std.proofs.Common.{map}
use Rattle.c_syntax.specs.Types.{ctype_tree}
use Rattle.c_syntax.specs.Program.{structdef_tree}
use Rattle.c_layout.specs.ProperTypes.{IsProperType}
use Rattle.c_layout.specs.Scalars.{HaveSame}
use Rattle.c_layout.proofs.ScalarOwn.{IsDeep}
use Rattle.c_layout.proofs.scalars.scalar_in.Given as goal

abbrev pub invariant-loop-element : goal.invariant-loop-element
invariant-loop-element l = record {
  proper : IsProperType (map structdef_tree l.structs) (ctype_tree l.ty);
  same : HaveSame (map structdef_tree l.structs) (ctype_tree l.fn.ty) l.fn.offset (ctype_tree l.ty) l.offset;
  deep : IsDeep (map structdef_tree l.structs) (ctype_tree l.ty) l.left;
}

abbrev pub decreases-loop-element : goal.decreases-loop-element
decreases-loop-element l = l.left
