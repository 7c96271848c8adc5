use Rattle.std.proofs.Common.{sym, ap, ◌∙◌}
use Rattle.std.specs.Option.{option_copied}
use Rattle.env_lift.proofs.Rising.{first_other}
use Rattle.env_lift.proofs.entries.first_value.Goals as goal

pub returns-else-first-x : goal.returns-else-first-x
returns-else-first-x g c =
    sym (first_other c.args.entries.now c.args.x.0 c.in-Some.first.now c.requires.rising c.requires.from (sym c.first.ensures.value ∙ ap option_copied c.in-Some.is) c.if-first-x.false)
