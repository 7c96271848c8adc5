use Rattle.std.proofs.Common.{pos}
use Rattle.ext_int.specs.declared.Ext.TheVariants.{Fin}
use Rattle.ext_int.proofs.Ends.{holds_number_from}
use Rattle.num_api.specs.Value.{bits_without}
use Rattle.intervals.proofs.BitRanges.{above_down, from_zero, without_at_most}
use Rattle.intervals.proofs.BitBounds.{some_size, sizes_without}
use Rattle.intervals.proofs.bit_ranges.without_sizes.Goals as goal

pub returns : goal.returns
returns c = record {
  holds = λ x y p q. c.between.ensures.holds (pos (bits_without x y)) (from_zero (bits_without x y)) (above_down c.args.a.hi x (bits_without x y) p.1 (without_at_most x y));
  bounds = λ m n.
      let x = some_size c.args.a m in
      sizes_without c.args.a _ (c.between.ensures.ends (holds_number_from (Fin (pos 0)) c.args.a.hi (pos x.0) (from_zero x.0) x.1.1));
}
