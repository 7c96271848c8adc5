use Rattle.std.proofs.Common.{to_z, of_z, ap, sym, ◌∙◌}
use Rattle.std.specs.Prelude.{Some}
use Rattle.std.specs.Int.{w128}
use Rattle.std.proofs.lemmas.Int.{to_z-of_z}
use Rattle.c_syntax.specs.Types.{Int, ctype_tree}
use Rattle.c_syntax.proofs.TypeTrees.{ctype_int}
use Rattle.c_typing.specs.Constants as constants
use Rattle.c_check_operators.proofs.operators.numbers_constant.Goals as goal

pub returns-in-Int-right : goal.returns-in-Int-right
returns-in-Int-right c =
    let op = c.args.op in let a = c.args.a in let b = c.args.b in
    let t = c.in-Int.field-0 in let u = c.in-Int-right.u in
    let number = constants.integer_binary op (constants.left_at op t) (constants.right_at op u) in
    let left = ap ctype_tree c.in-Int.is ∙ ctype_int t in
    let right = ap ctype_tree c.in-Int-right.is ∙ ctype_int u in
    c.integer_binary.ensures t
    ∙ ap (λ k. number k (to_z w128 (of_z w128 b))) (to_z-of_z w128 a c.ranges.a)
    ∙ ap (number a) (to_z-of_z w128 b c.ranges.b)
    ∙ sym (ap (λ ty. constants.binary_constant op ty (ctype_tree c.args.right.now) (Some a) (Some b)) left
    ∙ ap (λ ty. constants.binary_constant op (Int t) ty (Some a) (Some b)) right)
