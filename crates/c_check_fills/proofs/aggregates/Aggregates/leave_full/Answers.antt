use Rattle.std.proofs.Common.{◌≡◌, [], sym, ◌∙◌, arith, map}
use Rattle.std.specs.Prelude.{reverse}
use Rattle.std.proofs.lemmas.Grind.{common_steps}
use Rattle.c_check_fills.specs.RoomViews.{frame_tree}
use Rattle.c_check_fills.proofs.Current.{at_last, left_last, open_stays}
use Rattle.c_check_fills.proofs.aggregates.Aggregates.leave_full.Goals as goal

pub returns-in-None : goal.returns-in-None
returns-in-None c =
    let none : c.full.self.outer.items ≡ [] = grind (arith, common_steps, c.in-None.ensures.cases) in
    let left : c.pop.new.self.items ≡ [] = grind (arith, common_steps, c.in-None.ensures.cases) in
    at_last c.full.self.inner c.full.self.outer.items c.pop.new.self.items none left ∙ c.full.invariant

pub full-preserved : goal.full-preserved
full-preserved c =
    sym (left_last c.full.self.inner c.in-Some.frame c.full.self.outer.items c.pop.new.self.items c.in-Some.ensures.items (sym c.is_full.ensures ∙ c.full-test.true))
    ∙ c.full.invariant

pub returns : goal.returns
returns c =
    sym (open_stays (frame_tree c.full.self.inner) (reverse (map frame_tree c.full.self.outer.items)) (sym c.is_full.ensures ∙ c.full-test.false)) ∙ c.full.invariant
