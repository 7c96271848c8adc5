use Rattle.std.proofs.Common.{FitsSigned, Some, rules, sym, subst, ◌∙◌, int_eq}
use Rattle.std.specs.Int.{w128}
use Rattle.std.specs.HashMap.{Updates}
use Rattle.std.proofs.lemmas.Int.{to_z-of_z}
use Rattle.c_check_names.proofs.Firsts.{case_again, case_new}
use Rattle.c_check_names.proofs.cases.with_case.Goals as goal

pub returns-then-contains_key : goal.returns-then-contains_key
returns-then-contains_key c = λ cases h. case_again c.args.places c.args.places cases c.args.case h (sym c.contains_key.ensures ∙ c.if-contains_key.true)

pub returns : goal.returns
returns c = λ cases h.
    let fits : FitsSigned w128 c.args.case.value = search rules in
    let put = subst (λ key. Updates int_eq c.args.places c.insert.new.self key (Some c.args.case.pos)) (to_z-of_z w128 c.args.case.value fits) c.in_ok-insert.ensures.updates in
    case_new c.args.places c.insert.new.self cases c.args.case h (sym c.contains_key.ensures ∙ c.if-contains_key.false) put
