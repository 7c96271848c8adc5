use Rattle.std.proofs.Common.{subst, sym}
use Rattle.c_check_names.specs.Firsts.{HasInitialised}
use Rattle.c_check_names.proofs.Firsts.{one_more_initial}
use Rattle.c_check_names.proofs.given_initials.GivenInitials.with.Goals as goal

pub invariant_of-result : goal.invariant_of-result
invariant_of-result c =
    subst (HasInitialised c.insert.new.self) (sym c.in_ok-push.ensures.items)
    (one_more_initial c.self.inside.objects c.insert.new.self c.self.inside.items.items c.args.initial c.self.invariant c.in_ok-insert.ensures.updates)
