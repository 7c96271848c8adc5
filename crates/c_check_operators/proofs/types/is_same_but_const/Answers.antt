use Rattle.std.proofs.lemmas.Bool.Decides.{same_from_decides}
use Rattle.c_syntax.specs.Types.{ctype_tree}
use Rattle.c_typing.specs.SameTypes as same
use Rattle.c_check_operators.proofs.Same.{same_but_const_decides}
use Rattle.c_check_operators.proofs.types.is_same_but_const.Goals as goal

pub returns : goal.returns
returns c =
    let a = ctype_tree c.args.a.now in
    let b = ctype_tree c.args.b.now in
    same_from_decides c.same_but_const.result (same.is_same_but_const a b) c.same_but_const.ensures (same_but_const_decides a b)
