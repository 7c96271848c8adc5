use Rattle.std.proofs.Common.{ap, sym, subst, ◌∙◌}
use Rattle.c_syntax.specs.declared.alarm.Pointers.{Pointers}
use Rattle.mem_shown.specs.Hulls.{HasOffsets, IsProperBounds, bounds_of, has_objects}
use Rattle.mem_shown.proofs.Hulling.{sets_held}
use Rattle.mem_shown.proofs.hulls.pointers_hull.Goals as goal

pub returns-clause-union : goal.returns-clause-union
returns-clause-union c =
    let a = c.args.a.now in let b = c.args.b.now in let is = c.of_pointers.ensures in
    record {
      any = ap Pointers.any is ∙ c.either-any.ensures;
      null = ap Pointers.null is ∙ c.either-null.ensures;
      dead = ap Pointers.dead is ∙ c.either-dead.ensures;
      names = ap Pointers.names is ∙ c.in_ok-names.ensures;
      offsets = subst (HasOffsets (has_objects a) (has_objects b) (bounds_of a) (bounds_of b)) (sym (ap bounds_of is)) c.offsets_of_both-offsets.ensures.offsets;
    }

pub returns-clause-holds : goal.returns-clause-holds
returns-clause-holds c = sets_held c.args.a.now c.args.b.now c.of_pointers.result (returns-clause-union c)
    (subst IsProperBounds (sym (ap bounds_of c.of_pointers.ensures)) c.offsets_of_both-offsets.ensures.proper)
