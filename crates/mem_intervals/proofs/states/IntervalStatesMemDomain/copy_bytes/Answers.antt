use Rattle.std.proofs.Common.{◌≡◌, ◌∙◌, refl, map, length, replicate, Some, None}
use Rattle.std.proofs.lemmas.Result.{on_ok_weaker}
use Rattle.c_syntax.specs.Types.{object_tree}
use Rattle.csharp.specs.Trees.{csexpr_tree}
use Rattle.csharp.specs.States.{State}
use Rattle.mem_one_state.specs.One.{IsOf}
use Rattle.mem_one_state.proofs.Moves.{copies_inputs}
use Rattle.mem_intervals.specs.Sets.{IsIn}
use Rattle.mem_intervals.proofs.InSteps.{IsInSet, itself, like, copy_in}
use Rattle.csharp.specs.Actions as acts
use Rattle.mem_intervals.proofs.states.IntervalStatesMemDomain.copy_bytes.Goals as goal

behind : (c : goal.After-copy_bytes) (s t : State) → IsInSet c.args.self.now c.args.self.now.one s
    → acts.copy_bytes c.args.size (csexpr_tree c.args.to.now) (csexpr_tree c.args.from.now) s ≡ Some t → IsOf c.copy_bytes.new.self t
    → IsIn (map object_tree c.args.self.now.objects) c.pass_on.new.self.types c.pass_on.new.self.ranges c.pass_on.new.self.passed c.forget.new.self
    c.forget-2.new.self c.copy_bytes.new.self t
behind c s t h g is =
    let m = c.args.self.now in
    let os = map object_tree m.objects in
    let ts = c.pass_on.new.self in
    let one = c.copy_bytes.new.self in
    like os m.temps.types ts.types m.temps.ranges ts.ranges None ts.passed (replicate (length m.cells) None) c.forget.new.self (replicate (length m.copies) None)
    c.forget-2.new.self one one t c.pass_on.ensures.kept.0 c.pass_on.ensures.kept.1 c.pass_on.ensures.passed c.forget.ensures c.forget-2.ensures refl
    (copy_in os m.temps.types m.temps.ranges m.temps.passed m.cells m.copies m.one one c.args.size (csexpr_tree c.args.to.now) (csexpr_tree c.args.from.now)
    (length m.cells) (length m.copies) s t h g is)

pub returns-clause-stands : goal.returns-clause-stands
returns-clause-stands c = on_ok_weaker c.copy_bytes.result (λ stands s t h g. behind c s t h g (stands s t h.same g)) c.copy_bytes.ensures.stands

pub returns-clause-sharp : goal.returns-clause-sharp
returns-clause-sharp c = on_ok_weaker c.copy_bytes.result (λ sharp s t h g.
    let one = sharp s t h.0 g in (
      one,
      copies_inputs c.args.size (csexpr_tree c.args.to.now) (csexpr_tree c.args.from.now) s t g ∙ h.1,
      behind c s t h.2 g (itself c.copy_bytes.new.self t one),
    )) c.copy_bytes.ensures.sharp
