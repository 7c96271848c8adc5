use Rattle.std.proofs.Common.{FitsSigned, rules}
use Rattle.std.proofs.lemmas.Int.{to_z-of_z}
use mir.Syntax.{w128}
use Rattle.mem_shown.proofs.Hits.{hit_at, none_further, none_in_all}
use Rattle.mem_shown.proofs.place.first_of_all.Goals as goal

pub returns-in-Some : goal.returns-in-Some
returns-in-Some c =
    let offset = c.in-Some.offset in
    let ff : FitsSigned w128 offset = search rules in
    simp to_z-of_z (hit_at c.args.objects.now c.args.search c.loop-number.number c.index-objects-number.result offset c.loop-number-test.true c.index-objects-number.is c.in-Some.ensures)

pub loop-number-preserved : goal.loop-number-preserved
loop-number-preserved c =
    none_further c.args.objects.now c.args.search c.loop-number.number c.index-objects-number.result c.loop-number-test.true c.index-objects-number.is c.loop-number.invariant
    c.in_default.ensures

pub returns : goal.returns
returns c = none_in_all c.args.objects.now c.args.search c.loop-number.number c.loop-number-test.false c.loop-number.invariant
