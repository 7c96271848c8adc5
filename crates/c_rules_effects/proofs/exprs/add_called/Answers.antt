use Rattle.std.proofs.Common.{◌≤◌, length, arith}
use Rattle.std.proofs.lemmas.Grind.{common_steps}
use Rattle.c_rules_effects.proofs.Forms.{none_called, none_past}
use Rattle.c_rules_effects.proofs.exprs.add_called.Goals as goal

pub returns-in-None : goal.returns-in-None
returns-in-None c =
    let past : length c.args.known.now ≤ c.args.function = grind (arith, common_steps, c.in-None.ensures.lookup) in
    none_called c.args.known.now c.args.function (none_past c.args.known.now c.args.function past) c.args.effects.now
