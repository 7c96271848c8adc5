use Rattle.std.proofs.Common.{Some, subst, sym}
use Rattle.std.specs.Prelude.{option_map}
use Rattle.std.proofs.lemmas.Result.{IfOk-weaker}
use Rattle.machine_nums.specs.MExprs.{mexpr_tree}
use Rattle.csharp.specs.Trees.{csexpr_tree}
use Rattle.mem_cell_exprs.specs.Known.{IsPlaceFor}
use Rattle.mem_cell_exprs.proofs.Options.{some-at}
use Rattle.mem_cell_shows.proofs.Marking.{any-marked, scalar-marked, marks-looked}
use Rattle.mem_cell_shows.proofs.marks.scalar_marks.Goals as goal

pub returns-in_default : goal.returns-in_default
returns-in_default g c = any-marked g.D.Oracle.admits c.args.known.now _ c.all.result (marks-looked (Some c.args.ty) (csexpr_tree c.args.e.now)) c.all.ensures

pub returns-in_default-only_object : goal.returns-in_default-only_object
returns-in_default-only_object g c = any-marked g.D.Oracle.admits c.args.known.now _ c.all-in_default-only_object.result (marks-looked (Some c.args.ty) (csexpr_tree c.args.e.now)) c.all-in_default-only_object.ensures

pub returns : goal.returns
returns g c =
    let known = c.args.known.now in let e = csexpr_tree c.args.e.now in let place = c.in-Some.place in let set = c.to_targets-set.result in
    let at : IsPlaceFor g.D.Oracle.admits known e set (option_map mexpr_tree place.offset) = subst (λ x. IsPlaceFor g.D.Oracle.admits known e x (option_map mexpr_tree place.offset)) (sym c.to_targets-set.ensures)
    (some-at (λ p. IsPlaceFor g.D.Oracle.admits known e p.set (option_map mexpr_tree p.offset)) c.in_ok-place.field-0 place c.in-Some.is c.in_ok-place.ensures) in
    IfOk-weaker c.object_marks.result _ _
    (λ w h. scalar-marked g.D.Oracle.admits known e set (option_map mexpr_tree place.offset) c.in-Some-only_object.object c.args.ty w at c.in-Some-only_object.ensures h) c.object_marks.ensures
