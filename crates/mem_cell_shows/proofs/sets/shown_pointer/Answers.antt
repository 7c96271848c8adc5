use Rattle.std.specs.Prelude.{option_map}
use Rattle.std.proofs.lemmas.Result.{IfOk-weaker}
use Rattle.machine_nums.specs.MExprs.{mexpr_tree}
use Rattle.csharp.specs.Trees.{csexpr_tree}
use Rattle.mem_cell_exprs.specs.Known.{IsPlaceFor}
use Rattle.mem_cell_exprs.proofs.Options.{some-at}
use Rattle.mem_cell_shows.proofs.Spots.{any-shown, place-shown}
use Rattle.mem_cell_shows.proofs.sets.shown_pointer.Goals as goal

pub returns-in-None : goal.returns-in-None
returns-in-None g c = any-shown g.D.Oracle.admits c.args.known.now c.args.count (csexpr_tree c.args.e.now) c.any_pointer.result c.any_pointer.ensures

pub returns-in_ok-ends-in-Some : goal.returns-in_ok-ends-in-Some
returns-in_ok-ends-in-Some g c =
    let known = c.args.known.now in let e = csexpr_tree c.args.e.now in let place = c.in-Some.place in
    let at : IsPlaceFor g.D.Oracle.admits known e place.set (option_map mexpr_tree place.offset) =
    some-at (λ p. IsPlaceFor g.D.Oracle.admits known e p.set (option_map mexpr_tree p.offset)) c.in_ok-pointer.field-0 place c.in-Some.is c.in_ok-pointer.ensures in
    IfOk-weaker c.shown_targets.result _ _
    (λ shown h. place-shown g.D.Oracle.admits known c.args.count e place.set (option_map mexpr_tree place.offset) c.in_ok-ends-in-Some.ends shown at c.in_ok-ends-in-Some.ensures h)
    c.shown_targets.ensures
