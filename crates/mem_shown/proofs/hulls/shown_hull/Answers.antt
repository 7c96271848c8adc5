use Rattle.std.proofs.Common.{◌∙◌, ap, sym, subst, rules}
use Rattle.std.specs.Int.RustNames.{FitsSigned}
use mir.Syntax.{w128}
use Rattle.c_syntax.specs.declared.alarm.Shown.{Shown}
use Rattle.c_syntax.specs.declared.alarm.Shown.TheVariants as shows
use Rattle.c_syntax.specs.Admission.{IsProper}
use Rattle.mem_shown.specs.Hulls.{HoldsBoth}
use Rattle.mem_shown.proofs.Hulling.{held, numbers_hull, pair_held, passed, shown_of}
use Rattle.mem_shown.proofs.hulls.shown_hull.Goals as goal

pub returns-in-Number-Number-clause-hull : goal.returns-in-Number-Number-clause-hull
returns-in-Number-Number-clause-hull c =
    let d = c.in-Number-Number in
    let m : FitsSigned w128 d.modulus = search rules in let r : FitsSigned w128 d.rem = search rules in
    let s : FitsSigned w128 d.step = search rules in let t : FitsSigned w128 d.rest = search rules in
    numbers_hull c.args.a.now c.args.b.now c.shown.result c.new-left.result c.new-right.result c.hull.result
    (d.is-0 ∙ ap shown_of (sym (c.new-left.ensures ∙ passed d.lo d.hi d.modulus d.rem m r)))
    (d.is-1 ∙ ap shown_of (sym (c.new-right.ensures ∙ passed d.low d.high d.step d.rest s t))) c.shown.ensures c.hull.ensures.hull

pub returns-in-Number-Number-clause-holds : goal.returns-in-Number-Number-clause-holds
returns-in-Number-Number-clause-holds c = held c.args.a.now c.args.b.now c.shown.result (returns-in-Number-Number-clause-hull c)
    (subst IsProper (sym c.shown.ensures) c.hull.ensures.proper)

pub returns-in_ok-pointers_hull-in-Pair-Pair-2-clause-holds : goal.returns-in_ok-pointers_hull-in-Pair-Pair-2-clause-holds
returns-in_ok-pointers_hull-in-Pair-Pair-2-clause-holds c =
    let d = c.in-Pair-Pair in let v = c.in_ok-pointers_hull-in-Pair-Pair.field-0 in let w = c.in_ok-pointers_hull-in-Pair-Pair-2.field-0 in
    subst (λ (x : Shown). HoldsBoth x c.args.b.now (shows.Pair v w)) (sym d.is-0)
    (subst (λ (x : Shown). HoldsBoth (shows.Pair d.left d.right) x (shows.Pair v w)) (sym d.is-1)
    (pair_held d.left d.right d.other_left d.other_right v w c.in_ok-pointers_hull-in-Pair-Pair.ensures.holds c.in_ok-pointers_hull-in-Pair-Pair-2.ensures.holds))

pub returns-in_default-clause-holds : goal.returns-in_default-clause-holds
returns-in_default-clause-holds c = held c.args.a.now c.args.b.now c.flags_hull.result c.flags_hull.ensures.hull c.flags_hull.ensures.proper
