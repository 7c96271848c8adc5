use Rattle.std.proofs.Common.{ℤ, List, ℕ, sym, subst, refl, neg_ℤ, ◌+ℤ◌}
use Rattle.ext_int.specs.Ext.{Above}
use Rattle.ext_int.specs.Valuation.{value_at}
use Rattle.octagons_linear.specs.Forms.{signed_value}
use Rattle.octagons_pack.specs.Packs.{picked}
use Rattle.octagons_changes.specs.Lowerings.{IsMet}
use Rattle.octagons_changes.proofs.Bounding.{difference-turned}
use Rattle.octagons_changes.proofs.relations.Relations.tie.Goals as goal

pub returns : goal.returns
returns c = record {
  points = λ v h r.
      let x = value_at v c.args.x in let t = signed_value v c.args.t in
      let high = subst (λ (z : ℤ). Above c.args.r.hi (x +ℤ z)) (sym (c.turned.ensures v)) r.high in
      let first = (c.in_ok-_live.ensures.points v h (subst (λ (l : List ℕ). IsMet (picked v l) c.sum_lowering.result) c.pack.ensures.value (c.sum_lowering.ensures.met v high))).1 in
      let low = subst (Above c.neg_high.result) (sym (difference-turned x t (signed_value v c.turned-2.result) t (c.turned-2.ensures v) refl)) (c.neg_high.ensures.bound (x +ℤ neg_ℤ t) r.low) in
      (c.in_ok-_live-2.ensures.points v first (subst (λ (l : List ℕ). IsMet (picked v l) c.sum_lowering-2.result) c.pack-2.ensures.value (c.sum_lowering-2.ensures.met v low))).1;
}
