use Rattle.std.proofs.Common.{pos, negsuc, sym, subst}
use Rattle.ext_int.specs.declared.Ext.{Ext}
use Rattle.ext_int.specs.Ext.{Below, Above}
use Rattle.intervals.proofs.BitRanges.{flipped_below, flipped_above, flipped_below_back, flipped_above_back}
use Rattle.std.proofs.Common.{◌∙◌}
use Rattle.intervals.proofs.BitBounds.{flips_hold}
use Rattle.intervals.proofs.bit_ranges.complement.Goals as goal

pub returns-clause-holds : goal.returns-clause-holds
returns-clause-holds c = λ m p. c.between.ensures.holds (negsuc m)
    (subst (λ (e : Ext). Below e (negsuc m)) (sym c.flip.ensures) (flipped_below c.args.i.hi m p.1))
    (subst (λ (e : Ext). Above e (negsuc m)) (sym c.flip-2.ensures) (flipped_above c.args.i.lo m p.0))

pub returns-clause-back : goal.returns-clause-back
returns-clause-back c = λ m p. c.between.ensures.holds (pos m)
    (subst (λ (e : Ext). Below e (pos m)) (sym c.flip.ensures) (flipped_below_back c.args.i.hi m p.1))
    (subst (λ (e : Ext). Above e (pos m)) (sym c.flip-2.ensures) (flipped_above_back c.args.i.lo m p.0))

pub returns-clause-flips : goal.returns-clause-flips
returns-clause-flips c =
    let ends = c.between.ensures.ends (rw (c.flip.ensures, c.flip-2.ensures) (flips_hold c.args.i)) in
    record { low = ends.0 ∙ c.flip.ensures; high = ends.1 ∙ c.flip-2.ensures }
