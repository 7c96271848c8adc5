use Rattle.std.proofs.Common.{◌∙◌, FitsSigned, Some, ap, rules, true}
use Rattle.std.specs.Int.{w128}
use Rattle.std.specs.Int.RustNames.{int_le}
use Rattle.std.proofs.lemmas.Int.{to_z-of_z}
use Rattle.std.proofs.lemmas.Result.{IfOk-weaker}
use Rattle.ext_int.proofs.Ends.{int_le-true}
use Rattle.num_api.specs.Value.{truth}
use Rattle.mem_cell_shows.proofs.Comparing.{truth-of_number}
use Rattle.mem_cell_shows.proofs.Keeping.{all-kept}
use Rattle.mem_cell_shows.proofs.betweens.keep_to.Goals as goal

pub returns-in_default-clause-stands : goal.returns-in_default-clause-stands
returns-in_default-clause-stands g c = λ objects s st h. all-kept g.D.Oracle.admits objects c.args.known.now s st

pub returns-clause-stands : goal.returns-clause-stands
returns-clause-stands g c =
    let fits : FitsSigned w128 c.args.hi = search rules in
    let same = to_z-of_z w128 c.args.hi fits in
    IfOk-weaker c.keep_number.result _ _
    (λ live stands objects s st h.
    stands objects s st (truth (int_le h.0 c.args.hi), c.in_ok-test.ensures st.v h.0 c.args.hi h.1 (c.in-Some.ensures st.v ∙ ap Some same), truth-of_number (int_le h.0 c.args.hi) true (int_le-true h.0 c.args.hi h.2))) c.keep_number.ensures.stands
