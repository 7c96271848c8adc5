use Rattle.std.proofs.Common.{◌≡◌, ◌≤◌, ◌+◌, sym, subst, arith, length, map}
use Rattle.std.proofs.lemmas.List.{length-map}
use Rattle.c_syntax.specs.Types.{object_tree}
use Rattle.mem_shown.proofs.Hits.{tree_at}
use Rattle.mem_one_state.proofs.Listing.{AreTold, all_told, one_more}
use Rattle.mem_one_state.proofs.facts.put_facts.Goals as goal

pub loop-place-preserved : goal.loop-place-preserved
loop-place-preserved c =
    let objects = map object_tree c.args.objects.now in
    let object = c.index-objects-place.result in
    let x = c.loop-place.place in
    subst (AreTold objects c.args.memory.now (x + 1) c.args.facts.now.items) (sym c.in_ok-put.ensures)
    (one_more objects c.args.memory.now x (object_tree object) (tree_at c.args.objects.now x object c.loop-place-test.true c.index-objects-place.is)
    c.args.facts.now.items c.loop-place.facts.items c.fact_of-fact.result c.fact_of-fact.ensures.told c.fact_of-fact.ensures.each c.loop-place.invariant)

pub returns-clause-each : goal.returns-clause-each
returns-clause-each c x =
    let objects = map object_tree c.args.objects.now in
    let many : length objects ≡ length c.args.objects.now = length-map c.args.objects.now object_tree in
    let few : length objects ≤ c.loop-place.place = omega (arith, many, c.loop-place-test.false) in
    all_told objects c.args.memory.now c.loop-place.place c.args.facts.now.items c.loop-place.facts.items few c.loop-place.invariant x
