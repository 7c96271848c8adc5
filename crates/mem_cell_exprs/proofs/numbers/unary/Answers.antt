use Rattle.mem_cell_exprs.proofs.Made.{minus-made, not-made}
use Rattle.mem_cell_exprs.proofs.numbers.unary.Goals as goal

pub returns-in-Plus : goal.returns-in-Plus
returns-in-Plus c = rw c.in-Plus.is c.plus.ensures

pub returns-in_ok-new-in-Minus : goal.returns-in_ok-new-in-Minus
returns-in_ok-new-in-Minus c = rw c.in-Minus.is (λ types e h. minus-made c.in-Minus.ty c.args.a c.in_ok-new-in-Minus.field-0 c.in_ok-new-in-Minus.ensures.ok types e h)

pub returns-in_ok-turned-in-Complement : goal.returns-in_ok-turned-in-Complement
returns-in_ok-turned-in-Complement c = rw c.in-Complement.is (λ types e h. c.in_ok-turned-in-Complement.ensures types e h)

pub returns-in_ok-new-in-Not : goal.returns-in_ok-new-in-Not
returns-in_ok-new-in-Not c = rw c.in-Not.is (λ types e h. not-made c.args.a c.in_ok-new-in-Not.field-0 c.in_ok-new-in-Not.ensures.ok types e h)
