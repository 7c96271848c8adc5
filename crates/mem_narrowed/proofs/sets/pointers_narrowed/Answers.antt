use Rattle.std.proofs.Common.{sym, subst, ◌∙◌}
use Rattle.mem_narrowed.specs.declared.bounds.Bounds.{Bounds}
use Rattle.mem_narrowed.specs.Narrowed.{IsNarrowedBounds, IsNarrowedSet, bounds_of}
use Rattle.mem_narrowed.proofs.Narrowing.{set_narrowed, set_of_parts}
use Rattle.mem_narrowed.proofs.sets.pointers_narrowed.Goals as goal

pub returns : goal.returns
returns c =
    let a = c.args.a.now in let b = c.args.b.now in let w = c.narrowed-offsets.result in
    let offsets = subst (λ (x : Bounds). IsNarrowedBounds x (bounds_of b) w) c.of.ensures
    (subst (λ (x : Bounds). IsNarrowedBounds c.of.result x w) c.of-2.ensures c.narrowed-offsets.ensures) in
    subst (IsNarrowedSet a b) (sym (c.of_pointers.ensures
    ∙ set_of_parts a b w c.both-any.result c.mark_in_both-null.result c.mark_in_both-dead.result c.in_ok-names.names
    c.both-any.ensures c.mark_in_both-null.ensures c.mark_in_both-dead.ensures c.in_ok-names.ensures))
    (set_narrowed a b w offsets)
