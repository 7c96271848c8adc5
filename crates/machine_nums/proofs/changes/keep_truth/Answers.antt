use Rattle.std.proofs.Common.{◌≡◌, false, true, refl, sym, ap, ◌∙◌, rules}
use Rattle.std.specs.Prelude.{IsTrue}
use Rattle.std.proofs.lemmas.Bool.{false≢true}
use Rattle.std.proofs.lemmas.Result.{IfOk-weaker}
use Rattle.num_api.specs.Lives.{is_live}
use Rattle.num_api.specs.Plain.{excludes}
use Rattle.num_api.specs.Ranges.{NoWider}
use Rattle.num_api.specs.Spans.{Span, range_of}
use Rattle.num_api.specs.Value.{has_truth}
use Rattle.num_api.proofs.Parts.{wider}
use Rattle.machine_nums.specs.MExprs.{mexpr_tree}
use Rattle.machine_nums.specs.Rule.{value_span}
use Rattle.machine_nums.proofs.Both.{ok_both, true_from}
use Rattle.machine_nums.proofs.Results.{own_inside}
use Rattle.machine_nums.proofs.changes.keep_truth.Goals as goal

pub returns-then-not-may_be-clause-after : goal.returns-then-not-may_be-clause-after
returns-then-not-may_be-clause-after g c = λ v n ad q k.
    let dead : c.may_be.result ≡ false = search rules in
    absurd (false≢true (sym dead ∙ c.may_be.ensures.holds n (c.in_ok-part.ensures.holds v n ad q).holds k))

pub returns-then-not-may_be-clause-own : goal.returns-then-not-may_be-clause-own
returns-then-not-may_be-clause-own g c = own_inside (g.D.Oracle.may_range c.args.state.now) (mexpr_tree c.args.e.now) c.in_ok-part.part
    (λ r. (s : Span) → NoWider r (range_of s) → IsTrue (excludes c.args.truth s) → false ≡ false)
    (λ r p s w e. refl) c.in_ok-part.ensures.own

pub returns-in-Dead-clause-own : goal.returns-in-Dead-clause-own
returns-in-Dead-clause-own g c = own_inside (g.D.Oracle.may_range c.args.state.now) (mexpr_tree c.args.e.now) c.in_ok-part.part
    (λ r. (s : Span) → NoWider r (range_of s) → IsTrue (excludes c.args.truth s) → false ≡ false)
    (λ r p s w e. refl) c.in_ok-part.ensures.own

pub returns-clause-after : goal.returns-clause-after
returns-clause-after g c = IfOk-weaker c.keep_both.result _ _ (λ live h v n ad q k.
    h v (c.in_ok-assume.ensures.after v n ad tt (c.in_ok-part.ensures.holds v n ad q).value k).1
    (c.in_ok-cuts.ensures.holds v n ad q k)) c.keep_both.ensures.after

pub returns-clause-sharp_live : goal.returns-clause-sharp_live
returns-clause-sharp_live g c = IfOk-weaker c.keep_both.result _ _ (λ live h v n y ex ad on fit q is s.
    let alive : c.may_be.result ≡ true = search rules in
    let tells = c.in_ok-part.ensures.holds v n ad q in let shown = c.in_ok-part.ensures.shows v n ex ad on fit q in
    let k : IsTrue (has_truth c.args.truth n) = true_from (has_truth c.args.truth n) (λ f. false≢true (sym (c.may_be.ensures.point n shown.point f) ∙ alive)) in
    h v y ex is (c.in_ok-assume.ensures.after v n ad tt tells.value k).1 (c.in_ok-cuts.ensures.holds v n ad q k)
    (c.in_ok-assume.ensures.sharp_live v n y ex ad tt shown.sharp shown.fits tells.value (ap is_live c.in-Live.is) s)) c.keep_both.ensures.sharp

pub returns-clause-sharp_dead : goal.returns-clause-sharp_dead
returns-clause-sharp_dead g c = IfOk-weaker c.keep_both.result _ _ (λ live h v n ex ad on fit q f.
    let alive : c.may_be.result ≡ true = search rules in
    absurd (false≢true (sym (c.may_be.ensures.point n (c.in_ok-part.ensures.shows v n ex ad on fit q).point f) ∙ alive))) c.keep_both.ensures.after

pub returns-clause-plain_dead : goal.returns-clause-plain_dead
returns-clause-plain_dead g c = IfOk-weaker c.keep_both.result _ _ (λ live h given ex u k.
    let alive : c.may_be.result ≡ true = search rules in
    absurd (false≢true (sym (c.may_be.ensures.plain (value_span given (mexpr_tree c.args.e.now)) (c.in_ok-part.ensures.plain given ex u) k) ∙ alive)))
    c.keep_both.ensures.after

pub returns-clause-plain_live : goal.returns-clause-plain_live
returns-clause-plain_live g c = ok_both _ _ _ c.keep_both.result c.keep_both.ensures.narrows c.keep_both.ensures.cut (λ live narrows cut given ex u is.
    c.in_ok-cuts.ensures.plain given (g.D.Oracle.known c.keep_both.new.state) ex u
    (narrows given ex (c.in_ok-assume.ensures.narrows given ex u (ap is_live c.in-Live.is))) (cut ex is))

pub returns-clause-own : goal.returns-clause-own
returns-clause-own g c = IfOk-weaker c.keep_both.result _ _ (λ live h.
    let alive : c.may_be.result ≡ true = search rules in
    own_inside (g.D.Oracle.may_range c.args.state.now) (mexpr_tree c.args.e.now) c.in_ok-part.part
    (λ r. (s : Span) → NoWider r (range_of s) → IsTrue (excludes c.args.truth s) → is_live live ≡ false)
    (λ r p s w e. absurd (false≢true (sym (c.may_be.ensures.plain s (wider c.in_ok-part.part.range r (range_of s) p w) e) ∙ alive))) c.in_ok-part.ensures.own)
    c.keep_both.ensures.after
