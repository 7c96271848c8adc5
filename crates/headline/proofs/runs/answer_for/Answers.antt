use Rattle.std.proofs.Common.{rules, ◌≡◌}
use Rattle.std.specs.Prelude.{IfSome, IsSomeAnd}
use Rattle.report.specs.Refusal.{refusal_tree}
use Rattle.report.specs.RefusalText.{line_of}
use Rattle.headline.specs.Verdict.{IsRefusedFor}
use Rattle.headline.proofs.HeadlineLemmas.{refused}
use Rattle.headline.proofs.runs.answer_for.Goals as goal

pub returns-in_ok-line-in-Refused-clause-answer : goal.returns-in_ok-line-in-Refused-clause-answer
returns-in_ok-line-in-Refused-clause-answer c =
    let told : IsSomeAnd (refusal_tree c.in-Refused.refusal) (IsRefusedFor c.args.bytes.now) = search rules in
    let line : IfSome (refusal_tree c.in-Refused.refusal) (λ r. c.in_ok-line-in-Refused.line.items ≡ line_of c.args.asked.file.now r) = search rules in
    refused c.args.asked.file.now c.args.bytes.now c.in_ok-line-in-Refused.line.items (refusal_tree c.in-Refused.refusal) told line
