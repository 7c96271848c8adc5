use Rattle.std.proofs.Common.{get_or, refl}
use Rattle.mem_shown.proofs.Hits.{best_further, best_of_all}
use Rattle.mem_shown.proofs.place.first_named.Goals as goal

pub loop-number-preserved : goal.loop-number-preserved
loop-number-preserved c =
    let names = c.args.names.now in
    let i = c.loop-number.number-index in
    best_further names c.args.objects.now c.args.search i (get_or names i 0) c.index-objects-number.result c.offset-offset.result c.loop-number.first c.lesser-first.result
    c.loop-number-test.true refl (c.requires.names i 0 c.loop-number-test.true) c.index-objects-number.is c.offset-offset.ensures c.lesser-first.ensures c.loop-number.invariant

pub returns : goal.returns
returns c = best_of_all c.args.names.now c.args.objects.now c.args.search c.loop-number.number-index c.loop-number.first c.loop-number-test.false c.loop-number.invariant
