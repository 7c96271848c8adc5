use Rattle.std.proofs.Common.{map}
use Rattle.c_syntax.specs.Types.{object_tree}
use Rattle.mem_shown.proofs.Together.{no_two}
use Rattle.mem_shown.proofs.pair.two_objects.Goals as goal

pub returns-in_err-first-2 : goal.returns-in_err-first-2
returns-in_err-first-2 c =
    rw c.from_residual-in_err-first-2.ensures
    (no_two (map object_tree c.args.objects.now) c.args.left.now c.args.of_left c.args.right.now c.args.of_right c.in_ok-first.first.object c.in_ok-first.first.offset c.in_ok-second.second.object
    c.in_ok-first.ensures c.in_default.ensures c.in_err-first-2.ensures)
