use Rattle.std.proofs.Common.{◌≡◌, rules}
use Rattle.mem_cell_loads.proofs.Made.{int-made, offset-made}
use Rattle.mem_cell_loads.proofs.numbers.cell_value.Goals as goal

pub returns-then-eq : goal.returns-then-eq
returns-then-eq g c =
    let same : c.args.e.now.ty ≡ c.in-Int.ty = search rules in
    rw c.in-Int.is (λ there. int-made g.D.Oracle.admits c.args.known.now c.args.object c.args.at c.in-Int.ty c.args.e.now c.in-Some.x c.in-Some.ensures.variable same there)

pub returns-then-branch : goal.returns-then-branch
returns-then-branch g c =
    rw c.in-Pointer.is (λ there. offset-made g.D.Oracle.admits c.args.known.now c.args.object c.args.at c.args.e.now c.in-Some.x c.in-Some.ensures.variable
    (c.in_ok-is_long-in-Pointer.ensures c.if-branch.true) there)
