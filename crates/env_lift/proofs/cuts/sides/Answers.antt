use Rattle.std.proofs.Common.{sym, subst}
use Rattle.std.specs.Prelude.{IsTrue}
use Rattle.num_api.specs.declared.message.Range.{Range}
use Rattle.num_api.specs.Ranges.{NoWider, holds_some}
use Rattle.num_api.specs.Spans.{range_of}
use Rattle.num_api.specs.Plain.{Standing, cut, turned}
use Rattle.num_api.specs.Standings.{standing_of, Stands}
use Rattle.num_api.proofs.Parts.{wider}
use Rattle.env_lift.proofs.Changing.{none_any}
use Rattle.num_api.proofs.Truths.{turned_stands}
use Rattle.env_lift.proofs.cuts.sides.Goals as goal

pub returns-in_err-right-clause-none : goal.returns-in_err-right-clause-none
returns-in_err-right-clause-none g c = none_any _ c.from_residual-in_err-right.result (λ v x y p e f h.
    let first = c.in_ok-first.ensures.some.holds v x p e in
    let second = c.in_ok-second.ensures.some.holds v y p f in
    let stand = subst (λ (s : Standing). Stands s y x) (sym c.turned.ensures) (turned_stands (standing_of c.args.how) x y h) in
    c.in_err-right.ensures.none y second (c.cut_range-2.ensures.holds y x (c.range-t.ensures.holds y second) (c.range-s.ensures.holds x first) stand))

pub returns-clause-some : goal.returns-clause-some
returns-clause-some g c = λ v x y p e f h.
    let first = c.in_ok-first.ensures.some.holds v x p e in
    let second = c.in_ok-second.ensures.some.holds v y p f in
    let stand = subst (λ (s : Standing). Stands s y x) (sym c.turned.ensures) (turned_stands (standing_of c.args.how) x y h) in (
      c.in_ok-left.ensures.some x first (c.cut_range.ensures.holds x y (c.range-s.ensures.holds x first) (c.range-t.ensures.holds y second) h),
      c.in_ok-right.ensures.some y second (c.cut_range-2.ensures.holds y x (c.range-t.ensures.holds y second) (c.range-s.ensures.holds x first) stand),
    )

pub returns-clause-plain : goal.returns-clause-plain
returns-clause-plain g c = λ given s t x u p q e f.
    let K = g.V.ValueDomain.known in
    let first = subst (λ (r : Range). NoWider r (range_of s)) (sym c.range-s.ensures.value) (c.in_ok-first.ensures.some.plain given s x u p e) in
    let second = subst (λ (r : Range). NoWider r (range_of t)) (sym c.range-t.ensures.value) (c.in_ok-second.ensures.some.plain given t x u q f) in
    let some_first = subst (λ (r : Range). IsTrue (holds_some r)) (sym c.range-s.ensures.value) (g.V.ValueDomain.known_some c.in_ok-first.first x) in
    let some_second = subst (λ (r : Range). IsTrue (holds_some r)) (sym c.range-t.ensures.value) (g.V.ValueDomain.known_some c.in_ok-second.second x) in (
      wider (K c.in_ok-left.left) c.cut_range.result (range_of (cut (standing_of c.args.how) s t)) (c.in_ok-left.ensures.plain x).1 (c.cut_range.ensures.plain s t some_second first second),
      wider (K c.in_ok-right.right) c.cut_range-2.result (range_of (cut (turned (standing_of c.args.how)) t s)) (c.in_ok-right.ensures.plain x).1
          (subst (λ (how : Standing). NoWider c.cut_range-2.result (range_of (cut how t s))) c.turned.ensures (c.cut_range-2.ensures.plain t s some_first second first)),
    )
