use Rattle.std.proofs.Common.{◌^◌, ◌+◌, FitsSigned, Bool, map, subst, sym, ◌∙◌, rules}
use Rattle.std.proofs.lemmas.Int.{to_z-of_z}
use mir.Syntax.{w128}
use Rattle.c_syntax.specs.declared.alarm.Shown.{Shown}
use Rattle.c_syntax.specs.declared.alarm.Shown.TheVariants as shows
use Rattle.c_syntax.specs.Types.{object_tree}
use Rattle.mem_shown.specs.Spans.{IsWithin}
use Rattle.mem_shown.proofs.Showings.{IsTold, number_told, spot_told, pair_told, marks_told, ends_told}
use Rattle.mem_shown.proofs.showing.shows_some.Goals as goal

pub returns-in-Number : goal.returns-in-Number
returns-in-Number c =
    let trees = map object_tree c.args.objects.now in
    let p = c.in-Number in
    let fm : FitsSigned w128 p.modulus = search rules in
    let fr : FitsSigned w128 p.rem = search rules in
    subst (λ (s : Shown). IsTold trees s c.is_some.result) (sym p.is)
    (subst (λ (b : Bool). IsTold trees (shows.Number p.lo p.hi p.modulus p.rem) b) (sym c.is_some.ensures)
    (number_told trees p.lo p.hi p.modulus p.rem c.of.result (IsWithin (2 ^ 126 + 2 ^ 101)) c.nearest.result
    (simp to_z-of_z at c.of.ensures.inside) (simp to_z-of_z at c.of.ensures.back) c.nearest.ensures))

pub returns-in-One : goal.returns-in-One
returns-in-One c =
    let trees = map object_tree c.args.objects.now in
    let set = c.in-One.set in
    subst (λ (s : Shown). IsTold trees s c.is_some-in-One.result) (sym c.in-One.is)
    (subst (λ (b : Bool). IsTold trees (shows.One set) b) (sym c.is_some-in-One.ensures) (spot_told trees set c.some_spot.result c.some_spot.ensures))

pub returns-then-is_some : goal.returns-then-is_some
returns-then-is_some c =
    let trees = map object_tree c.args.objects.now in
    let left = c.in-Pair.left in
    let right = c.in-Pair.right in
    subst (λ (s : Shown). IsTold trees s c.is_some-then-is_some.result) (sym c.in-Pair.is)
    (subst (λ (b : Bool). IsTold trees (shows.Pair left right) b) (sym c.is_some-then-is_some.ensures)
    (pair_told trees left right c.some_spot-in-Pair.result c.some_spot-then-is_some.result c.some_spot-in-Pair.ensures c.some_spot-then-is_some.ensures
    (sym c.is_some-in-Pair.ensures ∙ c.if-is_some.true)))

pub returns-in-Marks : goal.returns-in-Marks
returns-in-Marks c =
    let trees = map object_tree c.args.objects.now in
    let p = c.in-Marks in
    subst (λ (s : Shown). IsTold trees s c.any_mark.result) (sym p.is)
    (subst (λ (b : Bool). IsTold trees (shows.Marks p.undef p.value p.broken) b) (sym c.any_mark.ensures) (marks_told trees p.undef p.value p.broken))

pub returns-in-Ends : goal.returns-in-Ends
returns-in-Ends c =
    let trees = map object_tree c.args.objects.now in
    let p = c.in-Ends in
    subst (λ (s : Shown). IsTold trees s c.any_end.result) (sym p.is)
    (subst (λ (b : Bool). IsTold trees (shows.Ends p.value p.none) b) (sym c.any_end.ensures) (ends_told trees p.value p.none))
