use Rattle.std.proofs.lemmas.Bool.Decides.{same_from_decides}
use Rattle.c_syntax.specs.Types.{ctype_tree}
use Rattle.c_typing.specs.SameTypes as same
use Rattle.c_check_operators.proofs.Same.{same_decides}
use Rattle.c_check_operators.proofs.types.is_same.Goals as goal

pub returns : goal.returns
returns c =
    let a = ctype_tree c.args.a.now in
    let b = ctype_tree c.args.b.now in
    same_from_decides c.same_type.result (same.is_same a b) c.same_type.ensures (same_decides a b)
