use Rattle.std.proofs.Common.{FitsSigned, map, rules}
use Rattle.std.proofs.lemmas.Int.{to_z-of_z}
use mir.Syntax.{w128}
use Rattle.c_syntax.specs.Types.{object_tree}
use Rattle.mem_shown.proofs.Hits.{IsSpanOf}
use Rattle.mem_shown.proofs.Together.{any_wanted, moved_spot, none_unlike, turned}
use Rattle.mem_shown.proofs.pair.unlike.Goals as goal

pub returns-in_err-first : goal.returns-in_err-first
returns-in_err-first c =
    rw c.from_residual.ensures
    (λ o d p e u. c.in_err-first.ensures o d (any_wanted c.args.objects.now c.args.left.now o d c.requires.left_names u.are_in.first))

pub returns-in_err-second : goal.returns-in_err-second
returns-in_err-second c =
    rw c.from_residual-in_err-second.ensures
    (λ o d p e u. c.in_err-second.ensures p e (any_wanted c.args.objects.now c.args.right.now p e c.requires.right_names u.are_in.second))

pub returns-in-Some : goal.returns-in-Some
returns-in-Some c =
    let trees = map object_tree c.args.objects.now in
    let left = c.args.left.now in
    let first = c.in_ok-first.first in
    let second = c.in_ok-second.second in
    let offset = c.in-Some.offset in
    let fo : FitsSigned w128 offset = search rules in
    let fs : FitsSigned w128 second.offset = search rules in
    let span : IsSpanOf left c.of_set.result = record { inside = c.of_set.ensures.inside; back = c.of_set.ensures.back } in
    let found = simp to_z-of_z at c.in-Some.ensures in (
      first.object,
      offset,
      second.object,
      second.offset,
      simp to_z-of_z at c.to_places.ensures.left,
      c.to_places.ensures.right,
      record {
        are_in = record { first = moved_spot trees left c.of_set.result first.object first.offset offset span c.in_ok-first.ensures.spot found.0; second = c.in_ok-second.ensures.spot };
        unlike = found.1;
      },
    )

pub returns-in_err-offset : goal.returns-in_err-offset
returns-in_err-offset c =
    let trees = map object_tree c.args.objects.now in
    let left = c.args.left.now in
    let right = c.args.right.now in
    let first = c.in_ok-first.first in
    let second = c.in_ok-second.second in
    let ff : FitsSigned w128 first.offset = search rules in
    let fs : FitsSigned w128 second.offset = search rules in
    let span : IsSpanOf left c.of_set.result = record { inside = c.of_set.ensures.inside; back = c.of_set.ensures.back } in
    let other : IsSpanOf right c.of_set-2.result = record { inside = c.of_set-2.ensures.inside; back = c.of_set-2.ensures.back } in
    let there = c.in_ok-first.ensures.spot in
    rw c.from_residual-in_err-offset.ensures
    (none_unlike trees left right c.args.size c.of_set.result c.of_set-2.result first.offset second.offset span other (span.inside first.offset there.1 there.2)
    (simp to_z-of_z at c.in_default.ensures) (simp to_z-of_z at c.in_err-offset.ensures))

pub returns : goal.returns
returns c =
    let trees = map object_tree c.args.objects.now in
    let right = c.args.right.now in
    let first = c.in_ok-first.first in
    let second = c.in_ok-second.second in
    let offset = c.in_ok-offset.offset in
    let fo : FitsSigned w128 offset = search rules in
    let ff : FitsSigned w128 first.offset = search rules in
    let other : IsSpanOf right c.of_set-2.result = record { inside = c.of_set-2.ensures.inside; back = c.of_set-2.ensures.back } in
    let found = simp to_z-of_z at c.in_ok-offset.ensures in (
      first.object,
      first.offset,
      second.object,
      offset,
      c.to_places-2.ensures.left,
      simp to_z-of_z at c.to_places-2.ensures.right,
      record {
        are_in = record { first = c.in_ok-first.ensures.spot; second = moved_spot trees right c.of_set-2.result second.object second.offset offset other c.in_ok-second.ensures.spot found.0 };
        unlike = turned c.args.size first.offset offset found.1;
      },
    )
