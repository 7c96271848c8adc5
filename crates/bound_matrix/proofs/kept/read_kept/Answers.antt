use Rattle.std.proofs.Common.{arith, sym, subst}
use Rattle.bound_matrix.specs.Bound.{InRange}
use Rattle.bound_matrix.proofs.Places.{place-below, value-in, place-small}
use Rattle.bound_matrix.proofs.kept.read_kept.Goals as goal

pub offset_bounds-kept-place_of : goal.offset_bounds-kept-place_of
offset_bounds-kept-place_of c = let l = place-small c.args.vars c.args.i c.args.j c.requires.kept.few c.requires.row c.requires.column in let e = c.place_of.ensures in omega arith

pub bounds-kept-place_of : goal.bounds-kept-place_of
bounds-kept-place_of c = let l = place-below c.args.vars c.args.kept.now c.args.i c.args.j c.requires.kept c.requires.row c.requires.column in let e = c.place_of.ensures in omega arith

pub returns-clause-value : goal.returns-clause-value
returns-clause-value c = value-in c.args.vars c.args.kept.now c.args.i c.args.j c.place_of.result c.requires.row c.requires.column c.place_of.ensures

pub returns-clause-range : goal.returns-clause-range
returns-clause-range c = subst InRange (sym (value-in c.args.vars c.args.kept.now c.args.i c.args.j c.place_of.result c.requires.row c.requires.column c.place_of.ensures)) (c.requires.kept.range.range c.args.i c.args.j)
