use Rattle.std.proofs.Common.{rules, ap, ap₂, ◌≡◌, ◌∙◌, true, false, Some, codes}
use Rattle.std.proofs.lemmas.Result.{IfOk-weaker}
use Rattle.clap.specs.Words.{App, Rule, app_of, rule_of, with_rule}
use Rattle.clap.specs.declared.builder.arg.Arg.{Arg}
use Rattle.clap.specs.Simple.{app_of_fields}
use Rattle.headline_words.specs.Parser.{file_rule, narrow_rule, no_rules, ramp_rule, state_rule, unroll_rule}
use Rattle.headline_words.proofs.words.analyze_command.Goals as goal

abbrev without_version : App → App
without_version a = record a { top = record a.top { disable_version_flag = true } }

abbrev without_help : App → App
without_help a = record a { top = record a.top { disable_help_flag = true } }

pub returns : goal.returns
returns c =
    let unroll_is : rule_of c.long-unroll.result ≡ unroll_rule =
    ap rule_of c.long-unroll.ensures ∙ ap (λ (r : Rule). record r { long = Some (codes "unroll") }) c.new.ensures.rule in
    let unroll_global : c.long-unroll.result.global ≡ false = ap (λ (a : Arg). a.global) c.long-unroll.ensures ∙ c.new.ensures.optional.1 in
    let narrow_is : rule_of c.long-narrow.result ≡ narrow_rule = search rules in
    let ramp_is : rule_of c.long-ramp.result ≡ ramp_rule = search rules in
    let state_is : rule_of c.action-state.result ≡ state_rule = search rules in
    let file_is : rule_of c.new-file.result ≡ file_rule = search rules in
    let help_is : app_of c.disable_help_flag.result ≡ without_help (app_of c.new-5.result) = ap app_of_fields c.disable_help_flag.ensures in
    let version_is : app_of c.disable_version_flag-plain.result ≡ without_version (app_of c.disable_help_flag.result) = ap app_of_fields c.disable_version_flag-plain.ensures in
    let plain_is : app_of c.disable_version_flag-plain.result ≡ no_rules = version_is ∙ (ap without_version help_is ∙ ap (λ (a : App). without_version (without_help a)) c.new-5.ensures.app) in
    let one = c.in_ok-arg.ensures.shape unroll_global ∙ ap₂ with_rule plain_is unroll_is in
    let two = c.in_ok-arg-2.ensures.shape (search rules) ∙ ap₂ with_rule one narrow_is in
    let three = c.in_ok-arg-3.ensures.shape (search rules) ∙ ap₂ with_rule two ramp_is in
    let four = c.in_ok-arg-4.ensures.shape (search rules) ∙ ap₂ with_rule three state_is in
    IfOk-weaker c.arg-5.result _ _ (λ r h. h.shape (search rules) ∙ ap₂ with_rule four file_is) c.arg-5.ensures
