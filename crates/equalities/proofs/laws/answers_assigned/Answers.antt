use Rattle.std.proofs.Common.{◌≡◌, sym, ap, ◌∙◌}
use Rattle.std.proofs.lemmas.Option.{same_Some}
use Rattle.num_api.specs.Exprs.{NExprTree, nexpr_tree}
use Rattle.num_api.specs.Reading.{is_same}
use Rattle.equalities.proofs.Lemmas.{same_itself}
use Rattle.equalities.proofs.laws.answers_assigned.Goals as goal

pub returns-in-Some : goal.returns-in-Some
returns-in-Some c = λ f.
    let told = nexpr_tree c.in-Some.told.now in let whole = nexpr_tree c.args.e.now in
    let one : nexpr_tree c.in-Some.told.now ≡ nexpr_tree c.args.e.now = same_Some told whole (sym c.in-Some.ensures.some ∙ c.in_ok-assign.ensures.same f) in
    c.is_same.ensures ∙ ap (λ (t : NExprTree). is_same t whole) one ∙ same_itself whole
