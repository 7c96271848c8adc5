use Rattle.std.proofs.lemmas.Result.{IfOk-weaker}
use Rattle.c_values.specs.Numbers.{compares}
use Rattle.mem_cell_bytes.specs.Cells.{number_of}
use Rattle.num_api.specs.Value.{truth}
use Rattle.mem_cell_shows.proofs.Comparing.{truth-of_number}
use Rattle.mem_cell_shows.proofs.Keeping.{all-kept}
use Rattle.mem_cell_shows.proofs.Spots.{offset-known}
use Rattle.mem_cell_shows.proofs.compares.keep_order.Goals as goal

pub returns-in_default-clause-stands : goal.returns-in_default-clause-stands
returns-in_default-clause-stands g c = λ objects s st h. all-kept g.D.Oracle.admits objects c.args.known.now s st

pub returns-in_default-b-clause-stands : goal.returns-in_default-b-clause-stands
returns-in_default-b-clause-stands g c = λ objects s st h. all-kept g.D.Oracle.admits objects c.args.known.now s st

pub returns-clause-stands : goal.returns-clause-stands
returns-clause-stands g c = IfOk-weaker c.keep_number.result _ _
    (λ live stands objects s st h.
    let first = offset-known st.v c.in-Some.first c.args.a h.0 c.in-Some.is h.2 in
    let second = offset-known st.v c.in-Some-b.second c.args.b h.1 c.in-Some-b.is h.3 in
    let both = compares c.args.c (number_of h.0) (number_of h.1) in
    stands objects s st (truth both, c.in_ok-m.ensures st.v (number_of h.0) (number_of h.1) first second, truth-of_number both c.args.truth h.4)) c.keep_number.ensures.stands
