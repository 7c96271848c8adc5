use Rattle.std.proofs.Common.{refl}
use Rattle.mem_cell_exprs.proofs.Made.{plus-made}
use Rattle.mem_cell_exprs.proofs.numbers.plus.Goals as goal

pub returns-in_ok-new : goal.returns-in_ok-new
returns-in_ok-new c = λ types e h. plus-made c.args.ty c.args.a c.in_ok-new.field-0 c.in_ok-new.ensures.ok (c.if-is_of.ensures refl) types e h
