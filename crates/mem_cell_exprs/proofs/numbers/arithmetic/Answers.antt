use Rattle.std.proofs.Common.{refl}
use Rattle.mem_cell_exprs.proofs.Made.{arithmetic-made}
use Rattle.mem_cell_exprs.proofs.numbers.arithmetic.Goals as goal

pub returns-in_ok-right : goal.returns-in_ok-right
returns-in_ok-right c = λ types e f h g.
    arithmetic-made c.args.op c.arithmetic_operator.result c.args.ty c.args.a c.args.b c.in_ok-left.left c.in_ok-right.right c.in_ok-left.ensures.ok c.in_ok-right.ensures.ok
    c.arithmetic_operator.ensures (c.if-is_of.ensures refl) (c.if-is_of-2.ensures refl) types e f h g
