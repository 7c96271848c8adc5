use Rattle.std.proofs.Common.{ℕ, ◌≡◌, ◌<◌, ◌+◌, ◌*◌, sym, subst, ◌∙◌, ap, arith, true, IsTrue}
use Rattle.bound_matrix.specs.Bound.{bound_at}
use Rattle.bound_matrix.specs.Points.{IsTight}
use Rattle.octagons_sources.proofs.Tightness.{drawn-tight}
use Rattle.octagons_sources.proofs.drawing.draw.Goals as goal
use Rattle.octagons_sources.proofs.drawing.draw.Goals.{then-is_whole, else-is_whole}

pub returns-clause-tight : goal.returns-clause-tight
returns-clause-tight c = λ x t. elim c.if-is_whole.branch [
  | then-is_whole w ↦
      let so : IsTrue c.draw_rows-is_whole.result = cc in
      let wide : IsTrue w.all_wide-is_exact.result = cc in
      let made = c.draw_rows-is_whole.new.new in
      let n : made.vars ≡ c.args.vars = c.draw_rows-is_whole.ensures.vars ∙ c.in_ok-matrix.ensures.vars in
      subst (λ (k : ℕ). IsTight (k + k) (bound_at made)) n
      (drawn-tight c.args.m.now t c.args.from.now made (w.all_wide-is_exact.ensures wide)
      (λ p q a b. c.draw_rows-is_whole.ensures.whole so p q (omega arith) (omega arith)))
  | else-is_whole w ↦ cc
]
