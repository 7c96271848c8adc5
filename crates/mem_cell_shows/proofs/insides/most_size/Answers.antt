use Rattle.std.proofs.Common.{arith, get_or, inl, inr, map, subst, sym}
use Rattle.std.proofs.lemmas.Bool.{cases_eq}
use Rattle.c_syntax.specs.Types.{object_tree}
use Rattle.mem_cell_shows.specs.Insides.{IsSmallAt}
use Rattle.mem_cell_shows.proofs.Cutting.{name-at}
use Rattle.mem_cell_shows.proofs.Within.{small-more}
use Rattle.mem_cell_shows.proofs.insides.most_size.Goals as goal

pub loop-n-preserved : goal.loop-n-preserved
loop-n-preserved c = λ k below.
    let i = c.loop-n.n-index in let names = c.args.names.now in let objects = map object_tree c.args.objects.now in let now = c.greater-most.result in
    elim (cases_eq k i) [
      | inl e ↦ subst (λ j. IsSmallAt objects (get_or names j 0) now) (sym e)
          (small-more objects (get_or names i 0) c.in_ok-size.size now c.greater-most.ensures.first c.in_ok-size.ensures)
      | inr h ↦ small-more objects (get_or names k 0) c.loop-n.most now c.greater-most.ensures.second (c.loop-n.invariant k (omega (arith, below, h)))
    ]

pub returns : goal.returns
returns c = λ n named.
    let names = c.args.names.now in let at = name-at names n named in
    subst (λ x. IsSmallAt (map object_tree c.args.objects.now) x c.loop-n.most) at.2 (c.loop-n.invariant at.0 (omega (arith, at.1)))
