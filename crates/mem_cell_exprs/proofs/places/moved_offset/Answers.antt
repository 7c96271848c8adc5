use Rattle.std.proofs.Common.{pos, ◌∙◌, FitsSigned, arith, rules}
use Rattle.std.specs.Int.{w128}
use Rattle.std.proofs.lemmas.Int.{ints, to_z-of_z}
use Rattle.c_syntax_written.specs.declared.int_type.IntType.TheVariants.{Long}
use Rattle.c_syntax_written.specs.Integer.{HasNumber}
use Rattle.machine_nums.specs.Machines.{Admits}
use Rattle.machine_nums.proofs.ExprTypes.{has_between}
use Rattle.mem_cell_exprs.proofs.Made.{moved-made}
use Rattle.mem_cell_exprs.proofs.places.moved_offset.Goals as goal

pub returns : goal.returns
returns g c =
    let element = c.args.element in
    let fits : FitsSigned w128 c.from.result = search rules in
    let low = c.if-element-greatest.false in
    let top = c.greatest.ensures in
    let small : HasNumber Long (pos element) = has_between Long (pos element) (omega (arith, ints)) (omega (arith, ints, low, top)) in
    moved-made (Admits g.D.Oracle.admits c.args.known.now.nums) element c.args.back c.way_of-way.result c.args.offset c.args.index _ c.in_ok-size.size c.in_ok-index.index
    c.in_ok-from.from c.in_ok-by.by c.in_ok-size.ensures.ok (to_z-of_z w128 c.from.result fits ∙ c.from.ensures) c.in_ok-index.ensures.ok c.in_ok-by.ensures.ok c.in_ok-from.ensures.ok c.way_of-way.ensures small (c.in_ok-is_long.ensures c.if-not-branch.false) (c.in_ok-is_long-2.ensures c.if-not-branch-2.false)
