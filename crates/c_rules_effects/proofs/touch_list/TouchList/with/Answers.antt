use Rattle.std.proofs.Common.{[], subst}
use Rattle.std.specs.Prelude.{Contains}
use Rattle.c_rules_effects.proofs.Sets.{adds_old}
use Rattle.c_rules_effects.proofs.touch_list.TouchList.with.Goals as goal

pub returns-then-has : goal.returns-then-has
returns-then-has c =
    adds_old c.args.self c.args.touch.now
    (subst (λ xs. Contains xs c.args.touch.now) c.self.view_is (c.if-has.ensures [] c.self.inside.touches c.self.invariant))
