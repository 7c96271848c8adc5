use Rattle.std.proofs.Common.{map}
use Rattle.c_syntax.specs.Types.{object_tree}
use Rattle.mem_shown.specs.declared.wanted.Search.{Search}
use Rattle.mem_shown.proofs.Hits.{IsSpanOf, wanted_in_all, wanted_among_named}
use Rattle.mem_shown.proofs.place.first_place.Goals as goal

pub returns-then-set : goal.returns-then-set
returns-then-set c =
    let set = c.args.set.now in
    let search : Search = record { span = c.of_set.result; wanted = c.args.wanted; except = c.args.except } in
    let span : IsSpanOf set c.of_set.result = record { inside = c.of_set.ensures.inside; back = c.of_set.ensures.back } in
    wanted_in_all (map object_tree c.args.objects.now) set search c.first_of_all.result span c.if-set.true c.first_of_all.ensures

pub returns-else-set : goal.returns-else-set
returns-else-set c =
    let set = c.args.set.now in
    let search : Search = record { span = c.of_set.result; wanted = c.args.wanted; except = c.args.except } in
    let span : IsSpanOf set c.of_set.result = record { inside = c.of_set.ensures.inside; back = c.of_set.ensures.back } in
    wanted_among_named (map object_tree c.args.objects.now) set search c.as_slice.result.now c.first_named.result span c.if-set.false c.as_slice.ensures c.first_named.ensures
