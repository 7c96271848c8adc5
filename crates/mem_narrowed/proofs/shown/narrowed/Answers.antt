use Rattle.std.proofs.Common.{sym, subst}
use Rattle.c_syntax.specs.declared.alarm.Shown.{Shown}
use Rattle.c_syntax.specs.declared.alarm.Shown.TheVariants as shows
use Rattle.mem_narrowed.specs.Narrowed.{IsNarrowed}
use Rattle.mem_narrowed.proofs.Narrowing.{one_narrowed, pair_narrowed}
use Rattle.mem_narrowed.proofs.shown.narrowed.Goals as goal

pub returns-in_ok-pointers_narrowed-in-One-One : goal.returns-in_ok-pointers_narrowed-in-One-One
returns-in_ok-pointers_narrowed-in-One-One c =
    let d = c.in-One-One in let w = c.in_ok-pointers_narrowed-in-One-One.field-0 in
    subst (λ (x : Shown). IsNarrowed x c.args.b.now (shows.One w)) (sym d.is-0)
    (subst (λ (x : Shown). IsNarrowed (shows.One d.left) x (shows.One w)) (sym d.is-1)
    (one_narrowed d.left d.right w c.in_ok-pointers_narrowed-in-One-One.ensures))

pub returns-in_ok-pointers_narrowed-in-Pair-Pair-2 : goal.returns-in_ok-pointers_narrowed-in-Pair-Pair-2
returns-in_ok-pointers_narrowed-in-Pair-Pair-2 c =
    let d = c.in-Pair-Pair in let v = c.in_ok-pointers_narrowed-in-Pair-Pair.field-0 in let w = c.in_ok-pointers_narrowed-in-Pair-Pair-2.field-0 in
    subst (λ (x : Shown). IsNarrowed x c.args.b.now (shows.Pair v w)) (sym d.is-0)
    (subst (λ (x : Shown). IsNarrowed (shows.Pair d.left d.right) x (shows.Pair v w)) (sym d.is-1)
    (pair_narrowed d.left d.right d.other_left d.other_right v w c.in_ok-pointers_narrowed-in-Pair-Pair.ensures c.in_ok-pointers_narrowed-in-Pair-Pair-2.ensures))
