use Rattle.std.proofs.Common.{map}
use Rattle.c_syntax.specs.Types.{object_tree}
use Rattle.mem_shown.proofs.Matches.{both_ways}
use Rattle.mem_shown.proofs.Together.{none_at_end, right_at_end}
use Rattle.mem_shown.proofs.pair.at_an_end.Goals as goal

pub returns-in-None : goal.returns-in-None
returns-in-None c =
    both_ways c.two_objects-in-None.result
    (λ none. none_at_end c.args.objects.now c.args.left.now c.args.right.now c.requires.left_names c.requires.right_names c.in-None.ensures none)
    (λ p told. right_at_end (map object_tree c.args.objects.now) c.args.left.now c.args.right.now p.left p.right told) c.two_objects-in-None.ensures
