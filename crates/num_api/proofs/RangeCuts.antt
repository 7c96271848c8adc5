-- Ranges that lie inside spans, cut.
use Rattle.std.proofs.Common.{◌≡◌, sym, subst}
use Rattle.std.specs.Int.{int_min, int_max}
use Rattle.ext_int.specs.declared.Ext.{Ext}
use Rattle.ext_int.specs.declared.Ext.TheVariants.{Fin}
use Rattle.ext_int.specs.Ext.{AtMost, lesser, greater}
use Rattle.ext_int.proofs.Ends.{greater_mono, lesser_mono}
use Rattle.num_api.specs.declared.message.Range.{Range}
use Rattle.num_api.specs.Ranges.{NoWider}
use Rattle.num_api.specs.Spans.{Span, span, range_of}

pub both_inside : (s t : Range) (p q : Span) (lo hi : Ext) → lo ≡ greater s.lo t.lo → hi ≡ lesser s.hi t.hi → NoWider s (range_of p) → NoWider t (range_of q) → NoWider (record { lo = lo; hi = hi }) (range_of (span (int_max p.lo q.lo) (int_min p.hi q.hi)))
both_inside s t p q lo hi e f w k = record {
  low = subst (λ (x : Ext). AtMost (Fin (int_max p.lo q.lo)) x) (sym e) (greater_mono (Fin p.lo) (Fin q.lo) s.lo t.lo w.low k.low);
  high = subst (λ (x : Ext). AtMost x (Fin (int_min p.hi q.hi))) (sym f) (lesser_mono s.hi t.hi (Fin p.hi) (Fin q.hi) w.high k.high);
}
