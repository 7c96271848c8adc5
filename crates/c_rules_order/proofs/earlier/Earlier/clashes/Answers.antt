use Rattle.std.proofs.Common.{◌∙◌}
use Rattle.c_rules_order.proofs.Together.{either_told, passed, stopped}
use Rattle.c_rules_order.proofs.earlier.Earlier.clashes.Goals as goal

pub returns-then-forth : goal.returns-then-forth
returns-then-forth c writes touches h =
    stopped c.one_met-forth.result c.one_met-back.result c.if-forth.true
    ∙ either_told c.args.taken.now c.one_met-forth.result c.one_met-back.result c.as_slice.result.now c.args.effects.now.writes c.as_slice-2.result.now
    c.args.effects.now.reads writes touches c.as_slice.ensures c.as_slice-2.ensures (c.one_met-forth.ensures touches h.touches)
    (c.one_met-back.ensures writes h.writes)

pub returns-else-forth : goal.returns-else-forth
returns-else-forth c writes touches h =
    passed c.one_met-forth.result c.one_met-back.result c.if-forth.false
    ∙ either_told c.args.taken.now c.one_met-forth.result c.one_met-back.result c.as_slice.result.now c.args.effects.now.writes c.as_slice-2.result.now
    c.args.effects.now.reads writes touches c.as_slice.ensures c.as_slice-2.ensures (c.one_met-forth.ensures touches h.touches)
    (c.one_met-back.ensures writes h.writes)
