use Rattle.std.proofs.Common.{ℤ, ◌≤ℤ◌, ◌∙◌, FitsSigned, rules, subst, sym}
use Rattle.std.specs.Int.{w128}
use Rattle.std.proofs.lemmas.Int.{to_z-of_z}
use Rattle.std.proofs.lemmas.Result.{IfOk-weaker}
use Rattle.mem_cell_bytes.specs.Cells.{number_of}
use Rattle.mem_cell_shows.proofs.Keeping.{all-kept}
use Rattle.mem_cell_shows.proofs.Spots.{offset-known}
use Rattle.mem_cell_shows.proofs.insides.keep_offset.Goals as goal

pub returns-in_default-clause-stands : goal.returns-in_default-clause-stands
returns-in_default-clause-stands g c = λ objects s st h. all-kept g.D.Oracle.admits objects c.args.known.now s st

pub returns-clause-stands : goal.returns-clause-stands
returns-clause-stands g c =
    let fits : FitsSigned w128 c.from.result = search rules in
    IfOk-weaker c.keep_between.result _ _
    (λ live stands objects s st h. stands objects s st (
      number_of h.0,
      offset-known st.v c.in-Some.m c.args.offset h.0 c.in-Some.is h.1,
      h.2,
      subst (λ (x : ℤ). number_of h.0 ≤ℤ x) (sym (to_z-of_z w128 c.from.result fits ∙ c.from.ensures)) h.3,
    )) c.keep_between.ensures.stands
