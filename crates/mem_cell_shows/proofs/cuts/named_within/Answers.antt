use Rattle.std.proofs.Common.{◌≡◌, ◌∙◌, arith, get_or, inl, inr, subst, sym, true}
use Rattle.std.proofs.lemmas.Bool.{cases_eq}
use Rattle.pointsets.specs.declared.Base.TheVariants.{Object}
use Rattle.pointsets.specs.Targets.{has_base}
use Rattle.mem_cell_shows.proofs.Cutting.{name-at}
use Rattle.mem_cell_shows.proofs.cuts.named_within.Goals as goal

pub loop-n-preserved : goal.loop-n-preserved
loop-n-preserved c = λ k below within.
    let i = c.loop-n.n-index in let names = c.args.names.now in
    elim (cases_eq k i) [
      | inl e ↦ subst (λ j. has_base c.marked-left.result (Object (get_or names j 0)) ≡ true) (sym e)
          (c.marked-left.ensures.new (c.holds.ensures ∙ subst (λ j. has_base c.args.within.now (Object (get_or names j 0)) ≡ true) e within))
      | inr h ↦ c.marked-left.ensures.old (Object (get_or names k 0)) (c.loop-n.invariant k (omega (arith, below, h)) within)
    ]

pub returns : goal.returns
returns c = λ n named within.
    let names = c.args.names.now in let at = name-at names n named in
    subst (λ x. has_base c.loop-n.left (Object x) ≡ true) at.2
    (c.loop-n.invariant at.0 (omega (arith, at.1)) (subst (λ x. has_base c.args.within.now (Object x) ≡ true) (sym at.2) within))
