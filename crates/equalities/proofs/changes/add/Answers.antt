use Rattle.std.proofs.Common.{◌∷◌, List, ap, ◌∙◌}
use Rattle.equalities.specs.Pairs.{Equality, equality, equalities_of}
use Rattle.equalities.proofs.Lemmas.{equalities_of-take}
use Rattle.equalities.proofs.changes.add.Goals as goal

pub returns : goal.returns
returns c =
    ap equalities_of c.in_ok-insert.ensures.items
    ∙ ap (λ (l : List Equality). equality c.args.pair ∷ l) (ap equalities_of c.truncate.ensures.items ∙ equalities_of-take 63 c.args.pairs.now.items)
