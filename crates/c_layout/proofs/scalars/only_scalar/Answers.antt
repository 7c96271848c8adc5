use Rattle.c_syntax.specs.Types.{ctype_tree}
use Rattle.c_layout.proofs.ScalarOwn.{is_own}
use Rattle.c_layout.proofs.scalars.only_scalar.Goals as goal

pub returns-then-is_scalar_of-clause-there : goal.returns-then-is_scalar_of-clause-there
returns-then-is_scalar_of-clause-there c structs =
    is_own structs (ctype_tree c.args.ty.now) c.args.offset c.args.size c.if-offset-eq0.true ((c.is_scalar_of.ensures structs).0 c.if-is_scalar_of.true)
