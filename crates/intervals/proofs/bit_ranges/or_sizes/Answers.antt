use Rattle.std.proofs.Common.{ℕ, pos, bit_or, sym, subst}
use Rattle.std.proofs.lemmas.Nat.{or_lt, le_or_l, le_or_r}
use Rattle.ext_int.specs.declared.Ext.{Ext}
use Rattle.ext_int.specs.Ext.{Below}
use Rattle.ext_int.proofs.Ends.{holds_number_from}
use Rattle.intervals.specs.Interval.{Admits}
use Rattle.intervals.proofs.BitRanges.{below_up, below_both, under_mask_of}
use Rattle.intervals.proofs.BitBounds.{some_size, sizes_or}
use Rattle.intervals.proofs.bit_ranges.or_sizes.Goals as goal

pub returns : goal.returns
returns c =
    let low = λ (x y : ℕ) (p : Admits c.args.a (pos x)) (q : Admits c.args.b (pos y)).
    subst (λ (e : Ext). Below e (pos (bit_or x y))) (sym c.max.ensures.value)
    (below_both c.args.a.lo c.args.b.lo (pos (bit_or x y)) (below_up c.args.a.lo x (bit_or x y) p.0 (le_or_l x y)) (below_up c.args.b.lo y (bit_or x y) q.0 (le_or_r x y))) in
    let high = λ (x y : ℕ) (p : Admits c.args.a (pos x)) (q : Admits c.args.b (pos y)).
    under_mask_of bit_or or_lt c.args.a.hi c.args.b.hi c.max-2.result c.mask_above.result x y c.max-2.ensures.value c.mask_above.ensures p.1 q.1 in
    record {
      holds = λ x y p q. c.between.ensures.holds (pos (bit_or x y)) (low x y p q) (high x y p q);
      bounds = λ m n.
          let x = some_size c.args.a m in
          let y = some_size c.args.b n in
          let some = holds_number_from c.max.result c.mask_above.result (pos (bit_or x.0 y.0)) (low x.0 y.0 x.1 y.1) (high x.0 y.0 x.1 y.1) in
          sizes_or c.args.a c.args.b _ c.max.result c.max-2.result c.mask_above.result m c.max.ensures.value c.max-2.ensures.value c.mask_above.ensures (c.between.ensures.ends some);
    }
