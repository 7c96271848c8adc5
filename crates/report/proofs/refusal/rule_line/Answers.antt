use Rattle.std.proofs.Common.{rules, ◌≡◌}
use Rattle.std.specs.Prelude.{IfSome}
use Rattle.report.specs.RuleRefusals as refused
use Rattle.report.specs.RuleText.{rule_text}
use Rattle.report.specs.RefusalText.{line_at}
use Rattle.report.proofs.RuleLemmas.{line_told}
use Rattle.report.proofs.refusal.rule_line.Goals as goal

pub returns : goal.returns
returns c =
    let words : IfSome (refused.refusal_of c.args.error.now) (λ r. c.in_ok-text.text.items ≡ rule_text c.args.names.now r) = search rules in
    let line : c.in_ok-line.line.items ≡ line_at c.args.name.now c.rule_pos.result c.in_ok-text.text.items = search rules in
    line_told c.args.name.now c.args.names.now (refused.refusal_of c.args.error.now) c.rule_pos.result c.in_ok-text.text.items c.in_ok-line.line.items c.rule_pos.ensures words line
