use Rattle.std.proofs.Common.{◌≡◌, ◌∙◌, ap, length, subst, sym}
use Rattle.std.proofs.lemmas.List.{length-map}
use Rattle.csharp.specs.Trees.{csfunction_tree, csprogram_tree, csstmt_tree}
use Rattle.walk_owes.specs.Walkable.{IsWalkable, nowhere}
use Rattle.walk_owes.proofs.Walks.{statement_walkable}
use Rattle.walk.proofs.walking.Walk.statement.Goals as goal

pub walk-after-requires-clause-walkable : goal.walk-after-requires-clause-walkable
walk-after-requires-clause-walkable g c =
    let q = csprogram_tree c.args.program.now in
    let same : length c.as_slice.result.now ≡ length q.functions = ap length c.as_slice.ensures ∙ sym (length-map c.args.program.now.functions csfunction_tree) in
    subst (λ d. IsWalkable q d nowhere (csstmt_tree c.args.s.now)) (sym same)
    (statement_walkable q (csstmt_tree c.args.s.now) c.requires.formed (c.formed_ranks_are_small.ensures q c.requires.formed) c.requires.part)
