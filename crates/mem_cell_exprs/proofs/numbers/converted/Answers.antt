use Rattle.mem_cell_exprs.proofs.Made.{convert-made}
use Rattle.mem_cell_exprs.proofs.numbers.converted.Goals as goal

pub returns : goal.returns
returns c = λ types e h. convert-made c.args.ty c.args.a c.in_ok-new.field-0 c.in_ok-new.ensures.ok types e h
