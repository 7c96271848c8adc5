use Rattle.std.proofs.Common.{refl}
use Rattle.mem_cell_exprs.proofs.Made.{complement-made}
use Rattle.mem_cell_exprs.proofs.numbers.turned.Goals as goal

pub returns : goal.returns
returns c = λ types e h. complement-made c.args.ty c.args.a _ c.in_ok-ones.ones c.in_ok-new.field-0 refl c.in_ok-ones.ensures.ok c.in_ok-new.ensures.ok types e h
