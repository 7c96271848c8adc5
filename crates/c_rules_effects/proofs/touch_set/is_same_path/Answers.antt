use Rattle.std.proofs.Common.{◌≤◌, length, sym, ◌∙◌, arith}
use Rattle.std.proofs.lemmas.List.{take_all}
use Rattle.c_rules_effects.proofs.touch_set.is_same_path.Goals as goal

pub returns : goal.returns
returns c =
    let path = c.args.path.now in
    let other = c.args.other.now in
    let first : length path ≤ c.loop-at.at = omega arith in
    let second : length other ≤ c.loop-at.at = omega arith in
    sym (sym (take_all c.loop-at.at path first) ∙ c.loop-at.invariant ∙ take_all c.loop-at.at other second)
