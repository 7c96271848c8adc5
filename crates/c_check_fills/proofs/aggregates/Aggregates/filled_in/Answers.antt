use Rattle.std.proofs.Common.{refl, sym, subst, ◌∙◌, map}
use Rattle.std.specs.Prelude.{IsTrue, IsFalse}
use Rattle.c_syntax.specs.Program.{structdef_tree}
use Rattle.c_typing.specs.CurrentObject as objects
use Rattle.c_check_fills.specs.RoomViews.{aggregates_tree, part_tree, takes}
use Rattle.c_check_fills.proofs.aggregates.Aggregates.filled_in.Goals as goal

pub returns-then-takes : goal.returns-then-takes
returns-then-takes c =
    let part = part_tree c.inward.part in
    let a = aggregates_tree c.inward.self in
    c.inward.invariant part a (objects.whole part a (subst IsTrue (sym c.if-takes.true ∙ c.takes.ensures) refl))

pub inward-preserved : goal.inward-preserved
inward-preserved c p a f =
    let structs = map structdef_tree c.args.structs.now in
    let takes = takes c.args.item.now in
    let part = part_tree c.inward.part in
    let before = aggregates_tree c.inward.self in
    let first = subst (λ (q : objects.Part). objects.Fills structs takes q (aggregates_tree c.begin.new.self) p a) c.in_ok-part.ensures.part f in
    let begun = subst (λ (b : objects.Aggregates). objects.Fills structs takes (objects.part_of structs (objects.frame_of structs part)) b p a) c.in_ok-part.ensures.begun first in
    c.inward.invariant p a (objects.inside part p before a (subst IsFalse (sym c.if-takes.false ∙ c.takes.ensures) refl) begun)
