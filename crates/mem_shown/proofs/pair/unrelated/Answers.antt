use Rattle.std.proofs.Common.{map}
use Rattle.c_syntax.specs.Types.{object_tree}
use Rattle.mem_shown.proofs.Matches.{both_ways}
use Rattle.mem_shown.proofs.Together.{none_unrelated, of_unlike}
use Rattle.mem_shown.proofs.pair.unrelated.Goals as goal

pub returns-in-None : goal.returns-in-None
returns-in-None c =
    both_ways c.unlike.result
    (λ none. none_unrelated c.args.objects.now c.args.left.now c.args.right.now c.args.size c.requires.size c.requires.left_names c.requires.right_names c.in-None.ensures none)
    (λ p told. of_unlike (map object_tree c.args.objects.now) c.args.left.now c.args.right.now c.args.size p.left p.right c.requires.size told) c.unlike.ensures
