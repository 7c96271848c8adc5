use Rattle.std.proofs.Common.{◌≡◌, false, ◌∙◌, ap, sym, subst}
use Rattle.std.specs.Prelude.{IsTrue, not}
use Rattle.std.proofs.lemmas.Bool.{not-false}
use Rattle.num_api.specs.Known.{IsSharp}
use Rattle.num_api.specs.Lives.{is_live}
use Rattle.num_api.specs.Plain.{excludes}
use Rattle.num_api.specs.Ranges.{NoWider, IsUnder}
use Rattle.num_api.specs.Spans.{Span, range_of}
use Rattle.num_api.proofs.Narrowing.{none_left}
use Rattle.machine_nums.specs.MExprs.{mexpr_tree, type_of}
use Rattle.machine_nums.specs.Own.{IsInside}
use Rattle.machine_nums.specs.Rule.{tested}
use Rattle.machine_nums.proofs.Results.{own_map}
use Rattle.machine_nums.proofs.machine.Machine.test.Goals as goal

pub returns-clause-after : goal.returns-clause-after
returns-clause-after g c = λ v n ad q k.
    let both = c.in_ok-live.ensures.after v n ad.1 q k in (
      subst (λ l. IsTrue (is_live l)) (sym c.marked.ensures.answer) both.0,
      (c.marked.ensures.void ∙ ap not both.0, subst (λ s. g.D.Oracle.admits s v) (sym c.marked.ensures.state) both.1),
    )

pub returns-clause-void : goal.returns-clause-void
returns-clause-void g c = c.marked.ensures.void ∙ ap (λ l. not (is_live l)) (sym c.marked.ensures.answer)

pub returns-clause-sharp_dead : goal.returns-clause-sharp_dead
returns-clause-sharp_dead g c = λ v n ex ad on fit q f. subst (λ l. is_live l ≡ false) (sym c.marked.ensures.answer)
    (c.in_ok-live.ensures.sharp_dead v n ex ad.1 on fit q f)

pub returns-clause-sharp_live : goal.returns-clause-sharp_live
returns-clause-sharp_live g c = λ v n y ex ad on fit q is k.
    subst (λ s. IsSharp (g.D.Oracle.known s) v y) (sym c.marked.ensures.state)
    (c.in_ok-live.ensures.sharp_live v n y ex ad.1 on fit q (subst (λ l. IsTrue (is_live l)) c.marked.ensures.answer is) k)

pub returns-clause-plain_dead : goal.returns-clause-plain_dead
returns-clause-plain_dead g c = λ given ex u e. subst (λ l. is_live l ≡ false) (sym c.marked.ensures.answer)
    (c.in_ok-live.ensures.plain_dead given ex (u c.if-self.false) e)

pub returns-clause-plain_none : goal.returns-clause-plain_none
returns-clause-plain_none g c = λ given x ex u none. subst (λ l. is_live l ≡ false) (sym c.marked.ensures.answer)
    (none_left c.in_ok-live.live (g.D.Oracle.known c.keep_truth.new.state) (tested given (mexpr_tree c.args.e.now) c.args.truth) x
    (g.D.Oracle.known_some c.keep_truth.new.state x ex) none (c.in_ok-live.ensures.plain_live given ex (u c.if-self.false)))

pub returns-clause-plain_live : goal.returns-clause-plain_live
returns-clause-plain_live g c = λ given ex u void.
    subst (λ s. IsUnder (g.D.Oracle.known s) (tested given (mexpr_tree c.args.e.now) c.args.truth)) (sym c.marked.ensures.state)
    (c.in_ok-live.ensures.plain_live given ex (u c.if-self.false) (not-false _ (sym c.marked.ensures.void ∙ void)))

pub returns-clause-own : goal.returns-clause-own
returns-clause-own g c = λ was.
    let e = mexpr_tree c.args.e.now in
    own_map (g.D.Oracle.may_range c.args.self.now.state) e
    (λ r. IsInside (type_of e) r → (s : Span) → NoWider r (range_of s) → IsTrue (excludes c.args.truth s) → is_live c.in_ok-live.live ≡ false)
    (λ r. IsInside (type_of e) r → (s : Span) → NoWider r (range_of s) → IsTrue (excludes c.args.truth s) → is_live c.marked.result ≡ false)
    (λ r h i s w k. subst (λ l. is_live l ≡ false) (sym c.marked.ensures.answer) (h i s w k)) c.in_ok-live.ensures.own
