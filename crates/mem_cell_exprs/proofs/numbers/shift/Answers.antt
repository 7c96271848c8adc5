use Rattle.std.proofs.Common.{refl}
use Rattle.mem_cell_exprs.proofs.Made.{shift-made}
use Rattle.mem_cell_exprs.proofs.numbers.shift.Goals as goal

pub returns-in_ok-right : goal.returns-in_ok-right
returns-in_ok-right c = λ types e f h g.
    shift-made c.args.way c.shift_operator.result c.args.ty c.args.a c.args.b c.in_ok-left.left c.in_ok-right.right c.in_ok-left.ensures.ok c.in_ok-right.ensures.ok
    c.shift_operator.ensures (c.if-is_of.ensures refl) types e f h g
