use Rattle.std.proofs.Common.{sym, ◌∙◌}
use Rattle.c_rules_order.proofs.FirstFound.{none_clash, two_clash, two_copied}
use Rattle.c_rules_order.proofs.compare.found_here.Goals as goal

pub returns-in_ok-copy-2 : goal.returns-in_ok-copy-2
returns-in_ok-copy-2 c =
    two_copied c.args.pos c.in_ok-copy.field-0 c.args.left.now c.in_ok-copy-2.field-0 c.args.right.now c.in_ok-copy.ensures c.in_ok-copy-2.ensures
    ∙ two_clash c.args.known.now c.args.pos c.args.left.now c.args.right.now (sym c.in_ok-clash.ensures ∙ c.if-branch.true)

pub returns-else-branch : goal.returns-else-branch
returns-else-branch c = none_clash c.args.known.now c.args.pos c.args.left.now c.args.right.now (sym c.in_ok-clash.ensures ∙ c.if-branch.false)
