use Rattle.std.proofs.Common.{◌≡◌, drop}
use Rattle.mem_shown.specs.Hulls.{with_names}
use Rattle.mem_shown.proofs.hulls.add_names.Given as goal

abbrev pub invariant-loop-name : goal.invariant-loop-name
invariant-loop-name l = with_names l.names.items (drop l.name-index l.others) ≡ with_names l.fn.names.items l.fn.others
