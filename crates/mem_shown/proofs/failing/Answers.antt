use Rattle.std.proofs.Common.{FitsSigned, map, subst, sym, rules}
use Rattle.std.specs.Prelude.{MatchOption}
use Rattle.std.proofs.lemmas.Int.{to_z-of_z}
use mir.Syntax.{w128}
use Rattle.c_syntax.specs.declared.alarm.Shown.{Shown}
use Rattle.c_syntax.specs.Types.{object_tree}
use Rattle.c_syntax.specs.Operand.{Operand, Number, operand_of}
use Rattle.mem_shown.specs.Decisions.{IsFailing}
use Rattle.mem_shown.proofs.Matches.{both_ways}
use Rattle.mem_shown.proofs.Unfailing.{one_number}
use Rattle.mem_shown.proofs.failing.Goals as goal

pub returns-in_err-n-in-Number : goal.returns-in_err-n-in-Number
returns-in_err-n-in-Number c =
    let trees = map object_tree c.args.objects.now in
    let check = c.args.check.now in
    let p = c.in-Number in
    let fm : FitsSigned w128 p.modulus = search rules in
    let fr : FitsSigned w128 p.rem = search rules in
    let inside = simp to_z-of_z at c.of.ensures.inside in
    rw c.from_residual.ensures
    (subst (λ (s : Shown). (x : Operand) → IsFailing trees check s x → ⊥) (sym p.is)
    (one_number trees check p.lo p.hi p.modulus p.rem (λ n b i f. c.in_err-n-in-Number.ensures trees n (inside n b i) f)))

pub returns-in_ok-n-in-Number : goal.returns-in_ok-n-in-Number
returns-in_ok-n-in-Number c =
    let trees = map object_tree c.args.objects.now in
    let check = c.args.check.now in
    let p = c.in-Number in
    let n = c.in_ok-n-in-Number.n in
    let h = c.in_ok-n-in-Number.ensures in
    let fn : FitsSigned w128 n = search rules in
    let fm : FitsSigned w128 p.modulus = search rules in
    let fr : FitsSigned w128 p.rem = search rules in
    let back = simp to_z-of_z at c.of.ensures.back in
    simp to_z-of_z (subst (λ (s : Shown). IsFailing trees check s (Number n)) (sym p.is) (record { shown_there = back n h.0; fails = h.1 trees }))

pub returns-in-Marks : goal.returns-in-Marks
returns-in-Marks c =
    let trees = map object_tree c.args.objects.now in
    let check = c.args.check.now in
    let r = c.failing_mark.result in
    subst (λ (s : Shown). MatchOption r ((x : Operand) → IsFailing trees check s x → ⊥) (λ e. IsFailing trees check s (operand_of e))) (sym c.in-Marks.is)
    (both_ways r (λ none x f. none x f.shown_there f.fails) (λ e h. record { shown_there = h.0; fails = h.1 }) (c.failing_mark.ensures trees check c.in-Marks.value))

pub returns-in-Ends : goal.returns-in-Ends
returns-in-Ends c =
    let trees = map object_tree c.args.objects.now in
    let check = c.args.check.now in
    let r = c.failing_end.result in
    subst (λ (s : Shown). MatchOption r ((x : Operand) → IsFailing trees check s x → ⊥) (λ e. IsFailing trees check s (operand_of e))) (sym c.in-Ends.is)
    (both_ways r (λ none x f. none x f.shown_there f.fails) (λ e h. record { shown_there = h.0; fails = h.1 }) (c.failing_end.ensures trees check c.in-Ends.value))
