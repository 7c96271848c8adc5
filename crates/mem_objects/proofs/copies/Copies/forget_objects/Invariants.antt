use Rattle.std.proofs.Common.{◌≡◌, drop}
use Rattle.mem_objects.specs.Copies.{without_all}
use Rattle.mem_objects.proofs.copies.Copies.forget_objects.Given as goal

-- those that are left are forgotten too
abbrev pub invariant-loop-object : goal.invariant-loop-object
invariant-loop-object l = without_all (drop l.object-index l.objects) l.self ≡ without_all l.objects l.initial.self
