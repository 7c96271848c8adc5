use Rattle.std.proofs.Common.{refl, ◌≡◌, Bool, true, false}
use mathlib.Core.Bool.{not}
use Rattle.bound_matrix.specs.Cells.{cell}
use Rattle.bound_matrix.proofs.Whole.{halves-are, halves-above, tight-all}
use Rattle.bound_matrix.proofs.table.close_halves.Goals as goal

pub halve-requires-clause-halves : goal.halve-requires-clause-halves
halve-requires-clause-halves c = halves-are c.args.n _ _ c.requires.even c.take_halves-halves.ensures

not-true : (b : Bool) → not b ≡ true → b ≡ false
not-true true h = absurd cc
not-true false h = refl

not-false : (b : Bool) → not b ≡ false → b ≡ true
not-false true h = refl
not-false false h = absurd cc

pub returns-clause-sound : goal.returns-clause-sound
returns-clause-sound c v k p = c.halve.ensures.sound v (halves-above c.args.n (cell c.args.n c.args.cells.now) _ v c.requires.table.few c.take_halves-halves.ensures k p) p

pub returns-clause-dead : goal.returns-clause-dead
returns-clause-dead c e v k p = c.below_zero-clash.ensures.yes (not-false c.below_zero-clash.result e) v (c.halve.ensures.sound v (halves-above c.args.n (cell c.args.n c.args.cells.now) _ v c.requires.table.few c.take_halves-halves.ensures k p) p)

pub returns-clause-tight : goal.returns-clause-tight
returns-clause-tight c e ready = let h = c.take_halves-halves.ensures in
    tight-all c.args.n c.args.cells.now c.halve.new.cells _ c.requires.table.few c.requires.even h ready (c.halve.ensures.halved (h.of_near ready.near)) c.halve.ensures.range c.halve.ensures.lower (c.below_zero-clash.ensures.no (not-true c.below_zero-clash.result e))
