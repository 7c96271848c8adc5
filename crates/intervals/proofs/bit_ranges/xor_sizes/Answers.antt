use Rattle.std.proofs.Common.{ℕ, pos, bit_xor}
use Rattle.std.proofs.lemmas.Nat.{xor_lt}
use Rattle.ext_int.specs.declared.Ext.TheVariants.{Fin}
use Rattle.ext_int.proofs.Ends.{holds_number_from}
use Rattle.intervals.specs.Interval.{Admits}
use Rattle.intervals.proofs.BitRanges.{from_zero, under_mask_of}
use Rattle.intervals.proofs.BitBounds.{some_size, sizes_xor}
use Rattle.intervals.proofs.bit_ranges.xor_sizes.Goals as goal

pub returns : goal.returns
returns c =
    let high = λ (x y : ℕ) (p : Admits c.args.a (pos x)) (q : Admits c.args.b (pos y)).
    under_mask_of bit_xor xor_lt c.args.a.hi c.args.b.hi c.max.result c.mask_above.result x y c.max.ensures.value c.mask_above.ensures p.1 q.1 in
    record {
      holds = λ x y p q. c.between.ensures.holds (pos (bit_xor x y)) (from_zero (bit_xor x y)) (high x y p q);
      bounds = λ m n.
          let x = some_size c.args.a m in
          let y = some_size c.args.b n in
          let some = holds_number_from (Fin (pos 0)) c.mask_above.result (pos (bit_xor x.0 y.0)) (from_zero (bit_xor x.0 y.0)) (high x.0 y.0 x.1 y.1) in
          sizes_xor c.args.a c.args.b _ c.max.result c.mask_above.result c.max.ensures.value c.mask_above.ensures (c.between.ensures.ends some);
    }
