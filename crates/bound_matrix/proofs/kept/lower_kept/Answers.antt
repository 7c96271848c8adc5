use Rattle.std.proofs.Common.{arith}
use Rattle.bound_matrix.proofs.Places.{place-below, place-small, written-kept, written-lowers}
use Rattle.bound_matrix.proofs.kept.lower_kept.Goals as goal

pub offset_bounds-kept-place : goal.offset_bounds-kept-place
offset_bounds-kept-place c = let l = place-small c.args.vars c.args.i c.args.j c.requires.kept.few c.requires.row c.requires.column in let e = c.place_of-place.ensures in omega arith

pub offset_bounds-kept-place-2 : goal.offset_bounds-kept-place-2
offset_bounds-kept-place-2 c = let l = place-small c.args.vars c.args.i c.args.j c.requires.kept.few c.requires.row c.requires.column in let e = c.place_of-place.ensures in omega arith

pub slice_copy_out-min : goal.slice_copy_out-min
slice_copy_out-min c = let l = place-below c.args.vars c.args.kept.now c.args.i c.args.j c.requires.kept c.requires.row c.requires.column in let e = c.place_of-place.ensures in omega arith

pub bounds-kept-place : goal.bounds-kept-place
bounds-kept-place c = let l = place-below c.args.vars c.args.kept.now c.args.i c.args.j c.requires.kept c.requires.row c.requires.column in let e = c.place_of-place.ensures in omega arith

pub returns-clause-kept : goal.returns-clause-kept
returns-clause-kept c = written-kept c.args.vars c.args.kept.now c.args.i c.args.j c.args.bound c.place_of-place.result c.cut_bound.result c.min.result c.requires.kept c.requires.row c.requires.column c.place_of-place.ensures c.cut_bound.ensures.value c.min.ensures.value c.cut_bound.ensures.range

pub returns-clause-lowered : goal.returns-clause-lowered
returns-clause-lowered c = written-lowers c.args.vars c.args.kept.now c.args.i c.args.j c.args.bound c.place_of-place.result c.cut_bound.result c.min.result c.requires.kept c.requires.row c.requires.column c.place_of-place.ensures c.cut_bound.ensures.value c.min.ensures.value
