use Rattle.std.proofs.Common.{rules, ◌≡◌, ◌≢◌, List, [], subst}
use Rattle.c_syntax.specs.declared.alarm.Alarm.{Alarm}
use Rattle.c_syntax.specs.Program.{TProgramTree, tprogram_tree}
use Rattle.report_alarms.specs.ReportText.{text_of}
use Rattle.report_alarms.specs.Told.{told_of}
use Rattle.headline_words.specs.Told.{asked_for}
use Rattle.headline.specs.Exact.{IsExactlyReported}
use Rattle.headline.specs.Headline.{IsReport}
use Rattle.headline.proofs.HeadlineLemmas.{exact_report, report}
use Rattle.headline.proofs.runs.reported.Goals as goal

pub returns-then-is_empty-clause-answer : goal.returns-then-is_empty-clause-answer
returns-then-is_empty-clause-answer c =
    let p : TProgramTree = tprogram_tree c.args.program.now in
    let none : c.in_ok-alarms.alarms ≡ [] = search rules in
    let text : c.in_ok-text.text.items ≡ text_of c.args.asked.file.now (told_of p c.args.plan.now.main) c.args.asked.state c.in_ok-alarms.alarms = search rules in
    λ bytes one.
    subst (λ (alarms : List Alarm). IsReport (asked_for c.args.asked) bytes alarms c.in_ok-text.text.items) none
    (report (asked_for c.args.asked) bytes p c.args.plan.now c.in_ok-alarms.alarms c.in_ok-text.text.items c.requires one c.in_ok-alarms.ensures.alarms text)

pub returns-clause-answer : goal.returns-clause-answer
returns-clause-answer c =
    let p : TProgramTree = tprogram_tree c.args.program.now in
    let some : c.in_ok-alarms.alarms ≢ [] = search rules in
    let text : c.in_ok-text.text.items ≡ text_of c.args.asked.file.now (told_of p c.args.plan.now.main) c.args.asked.state c.in_ok-alarms.alarms = search rules in
    λ bytes one. (
      c.in_ok-alarms.alarms,
      some,
      report (asked_for c.args.asked) bytes p c.args.plan.now c.in_ok-alarms.alarms c.in_ok-text.text.items c.requires one c.in_ok-alarms.ensures.alarms text,
    )

pub returns-then-is_empty-clause-exact : goal.returns-then-is_empty-clause-exact
returns-then-is_empty-clause-exact c =
    let p : TProgramTree = tprogram_tree c.args.program.now in
    let none : c.in_ok-alarms.alarms ≡ [] = search rules in
    let text : c.in_ok-text.text.items ≡ text_of c.args.asked.file.now (told_of p c.args.plan.now.main) c.args.asked.state c.in_ok-alarms.alarms = search rules in
    λ bytes one.
    subst (λ (alarms : List Alarm). IsExactlyReported (asked_for c.args.asked) bytes alarms c.in_ok-text.text.items) none
    (exact_report (asked_for c.args.asked) bytes p c.args.plan.now c.in_ok-alarms.alarms c.in_ok-text.text.items c.requires one c.in_ok-alarms.ensures.alarms
    c.in_ok-alarms.ensures.exact text)

pub returns-clause-exact : goal.returns-clause-exact
returns-clause-exact c =
    let p : TProgramTree = tprogram_tree c.args.program.now in
    let some : c.in_ok-alarms.alarms ≢ [] = search rules in
    let text : c.in_ok-text.text.items ≡ text_of c.args.asked.file.now (told_of p c.args.plan.now.main) c.args.asked.state c.in_ok-alarms.alarms = search rules in
    λ bytes one. (
      c.in_ok-alarms.alarms,
      some,
      exact_report (asked_for c.args.asked) bytes p c.args.plan.now c.in_ok-alarms.alarms c.in_ok-text.text.items c.requires one c.in_ok-alarms.ensures.alarms
          c.in_ok-alarms.ensures.exact text,
    )
