use Rattle.std.proofs.Common.{[], ◌∷◌, ◌++◌, ap, sym, subst, ◌∙◌}
use Rattle.c_rules_effects.specs.Held.{Holds}
use Rattle.c_rules_effects.proofs.Sets.{adds_new}
use Rattle.c_rules_effects.proofs.touch_list.TouchList.with_new.Goals as goal

pub returns : goal.returns
returns c =
    adds_new c.args.self c.self.inside.touches c.push.new.self c.in_ok-copy_touch.field-0 c.args.touch.now c.self.view_is c.in_ok-push.ensures c.in_ok-copy_touch.ensures

pub invariant_of-result : goal.invariant_of-result
invariant_of-result c =
    subst (Holds c.insert.new.self []) (sym (c.in_ok-push.ensures ∙ ap (λ t. c.self.inside.touches ++ t ∷ []) c.in_ok-copy_touch.ensures))
    (c.in_ok-insert.ensures c.self.inside.touches c.self.invariant)
