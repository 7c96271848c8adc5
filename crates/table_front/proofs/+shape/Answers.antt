use Rattle.std.proofs.Common.{arith}
use Rattle.table_front.proofs.Falls.{cast_falls, members_fall}
use Rattle.table_front.proofs.+shape.Goals as goal

pub exprs::expr-cast-requires : goal.exprs::expr-cast-requires
exprs::expr-cast-requires t c =
    let falls = cast_falls c.args.e.now c.in-Cast.pos c.in-Cast.specs c.in-Cast.declarator c.in-Cast.operand c.in-Cast.is in
    rw (c.deref-in-Cast.ensures, c.deref-in-Cast-2.ensures, c.deref-in-Cast-3.ensures) (omega (arith, falls, c.decreases), tt)

pub types::member_line-members-requires : goal.types::member_line-members-requires
types::member_line-members-requires t c =
    (omega (arith, members_fall c.args.line.now c.specs-1.given.0 c.declarators-1.given.0, c.decreases), tt)
