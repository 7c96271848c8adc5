use Rattle.mem_cell_exprs.proofs.Made.{compare-made, turned-made}
use Rattle.mem_cell_exprs.proofs.numbers.compared.Goals as goal

pub returns-then-way : goal.returns-then-way
returns-then-way c = λ types t e f h g.
    let way = c.comparison_operator-way in
    turned-made c.args.c way.result.op way.result.is_turned c.args.a c.args.b c.in_ok-a.a c.in_ok-b.b c.in_ok-a.ensures.ok c.in_ok-b.ensures.ok way.ensures c.if-way.true types t e f h g

pub returns-else-way : goal.returns-else-way
returns-else-way c = λ types t e f h g.
    let way = c.comparison_operator-way in
    compare-made c.args.c way.result.op way.result.is_turned c.args.a c.args.b c.in_ok-a.a c.in_ok-b.b c.in_ok-a.ensures.ok c.in_ok-b.ensures.ok way.ensures c.if-way.false types t e f h g
