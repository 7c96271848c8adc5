use Rattle.std.proofs.Common.{ℕ, pos, bit_and, sym, subst}
use Rattle.std.proofs.lemmas.Nat.{and_le_l, and_le_r}
use Rattle.ext_int.specs.declared.Ext.{Ext}
use Rattle.ext_int.specs.declared.Ext.TheVariants.{Fin}
use Rattle.ext_int.specs.Ext.{Above}
use Rattle.ext_int.proofs.Ends.{holds_number_from}
use Rattle.intervals.specs.Interval.{Admits}
use Rattle.intervals.proofs.BitRanges.{above_down, above_both, from_zero}
use Rattle.intervals.proofs.BitBounds.{some_size, sizes_and}
use Rattle.intervals.proofs.bit_ranges.and_sizes.Goals as goal

pub returns : goal.returns
returns c =
    let high = λ (x y : ℕ) (p : Admits c.args.a (pos x)) (q : Admits c.args.b (pos y)).
    subst (λ (e : Ext). Above e (pos (bit_and x y))) (sym c.min.ensures.value)
    (above_both c.args.a.hi c.args.b.hi (pos (bit_and x y)) (above_down c.args.a.hi x (bit_and x y) p.1 (and_le_l x y)) (above_down c.args.b.hi y (bit_and x y) q.1 (and_le_r x y))) in
    record {
      holds = λ x y p q. c.between.ensures.holds (pos (bit_and x y)) (from_zero (bit_and x y)) (high x y p q);
      bounds = λ m n.
          let x = some_size c.args.a m in
          let y = some_size c.args.b n in
          let some = holds_number_from (Fin (pos 0)) c.min.result (pos (bit_and x.0 y.0)) (from_zero (bit_and x.0 y.0)) (high x.0 y.0 x.1 y.1) in
          sizes_and c.args.a c.args.b _ c.min.result c.min.ensures.value (c.between.ensures.ends some);
    }
