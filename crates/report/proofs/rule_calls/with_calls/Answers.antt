use Rattle.std.proofs.Common.{◌≡◌, [], ◌++◌, ap, sym, ◌∙◌, map, arith}
use Rattle.std.specs.Prelude.{codes}
use Rattle.std.proofs.lemmas.Grind.{common_steps}
use Rattle.std.proofs.lemmas.List.{append-nil}
use Rattle.c_rules_calls.specs.Placed.{placed}
use Rattle.report.specs.RuleText.{call_text, calls_after}
use Rattle.report.proofs.Told.{no_call_after, one_more}
use Rattle.report.proofs.rule_calls.with_calls.Goals as goal

pub each-preserved : goal.each-preserved
each-preserved c =
    let names = c.args.names.now in
    let call = placed c.in-Some.call.now in
    let rest = map placed c.in-Some.rest.now in
    let front = c.each.text.items in
    let arrow = c.in_ok-extend_from_slice.ensures.items ∙ ap (λ bytes. front ++ bytes) c.as_bytes.ensures.value in
    let next = c.as_slice.ensures.value ∙ c.in_ok-next.ensures in
    let grown : c.extend_from_slice-in-Some.new.self.items ≡ (front ++ codes " > ") ++ call_text names call =
    c.in_ok-extend_from_slice-2.ensures.items ∙ ap (λ bytes. c.extend_from_slice.new.self.items ++ bytes) next
    ∙ ap (λ bytes. bytes ++ call_text names call) arrow in
    ap (λ bytes. bytes ++ calls_after names rest) grown ∙ one_more names front call rest
    ∙ ap (λ calls. front ++ calls_after names (map placed calls)) (sym c.in-Some.ensures.cases.0) ∙ c.each.invariant

pub returns : goal.returns
returns c =
    let names = c.args.names.now in
    let front = c.each.text.items in
    let none : c.each.left.now ≡ [] = grind (arith, common_steps, c.in_default.ensures.cases) in
    sym (append-nil front) ∙ ap (λ bytes. front ++ bytes) (sym (no_call_after names))
    ∙ ap (λ calls. front ++ calls_after names (map placed calls)) (sym none) ∙ c.each.invariant
