use Rattle.std.proofs.Common.{◌∙◌, to_z, of_z}
use Rattle.std.proofs.lemmas.Int.{to_z-of_z}
use mir.Syntax.{w128}
use Rattle.mem_shown.proofs.Having.{at}
use Rattle.mem_shown.proofs.sets.at.Goals as goal

pub returns : goal.returns
returns c = at c.args.object c.args.offset (to_z w128 (of_z w128 c.args.offset)) c.from_vec.result (c.from_vec.ensures ∙ c.in_ok-names.ensures.items_if_clones_equal (λ y e. e))
    (to_z-of_z w128 c.args.offset c.ranges.offset) c.requires
