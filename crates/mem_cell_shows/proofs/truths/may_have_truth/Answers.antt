use Rattle.std.proofs.Common.{◌≡◌, ◌∙◌, false, refl, subst, sym, true}
use Rattle.std.specs.Prelude.{IsTrue}
use Rattle.num_api.specs.Lives.{is_live}
use Rattle.mem_cell_shows.proofs.truths.may_have_truth.Goals as goal

pub returns-in-Live : goal.returns-in-Live
returns-in-Live g c = λ v n a is has. refl

pub returns : goal.returns
returns g c = λ v n a is has.
    let r = c.in_ok-test.ensures.after v n (c.in_ok-copy.ensures.void ∙ a.0, subst (λ s. g.D.Oracle.admits s v) (sym c.in_ok-copy.ensures.state) a.1) is has in
    let live : false ≡ true = subst (λ l. IsTrue (is_live l)) c.in-Dead.is r.0 in cc
