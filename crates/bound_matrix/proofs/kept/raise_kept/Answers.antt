use Rattle.std.proofs.Common.{arith}
use Rattle.bound_matrix.proofs.Places.{place-below, place-small, raised-kept, raised-raises}
use Rattle.bound_matrix.proofs.kept.raise_kept.Goals as goal

pub offset_bounds-kept-place : goal.offset_bounds-kept-place
offset_bounds-kept-place c = let l = place-small c.args.vars c.args.i c.args.j c.requires.kept.few c.requires.row c.requires.column in let e = c.place_of-place.ensures in omega arith

pub offset_bounds-kept-place-2 : goal.offset_bounds-kept-place-2
offset_bounds-kept-place-2 c = let l = place-small c.args.vars c.args.i c.args.j c.requires.kept.few c.requires.row c.requires.column in let e = c.place_of-place.ensures in omega arith

pub slice_copy_out-max : goal.slice_copy_out-max
slice_copy_out-max c = let l = place-below c.args.vars c.args.kept.now c.args.i c.args.j c.requires.kept c.requires.row c.requires.column in let e = c.place_of-place.ensures in omega arith

pub bounds-kept-place : goal.bounds-kept-place
bounds-kept-place c = let l = place-below c.args.vars c.args.kept.now c.args.i c.args.j c.requires.kept c.requires.row c.requires.column in let e = c.place_of-place.ensures in omega arith

pub returns-clause-kept : goal.returns-clause-kept
returns-clause-kept c = raised-kept c.args.vars c.args.kept.now c.args.i c.args.j c.args.bound c.place_of-place.result c.cut_bound.result c.max.result c.requires.kept c.requires.row c.requires.column c.place_of-place.ensures c.cut_bound.ensures.value c.max.ensures.value c.cut_bound.ensures.range

pub returns-clause-raised : goal.returns-clause-raised
returns-clause-raised c = raised-raises c.args.vars c.args.kept.now c.args.i c.args.j c.args.bound c.place_of-place.result c.cut_bound.result c.max.result c.requires.kept c.requires.row c.requires.column c.place_of-place.ensures c.cut_bound.ensures.value c.max.ensures.value
