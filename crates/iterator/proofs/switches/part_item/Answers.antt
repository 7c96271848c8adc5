use Rattle.std.specs.Int.{w128}
use Rattle.std.proofs.Common.{◌≡◌, of_z, rules, to_z}
use Rattle.csharp.proofs.CodeTrees.{csstmt_case}
use Rattle.csharp.specs.Trees.{csexpr_tree, csprogram_tree, csstmt_tree}
use Rattle.walk_owes.proofs.Switches.{parted_case, parted_other}
use Rattle.walk_owes.proofs.Variants.{no_case}
use Rattle.iterator.proofs.Cases.{own_case}
use Rattle.iterator.proofs.Parting.{alone_case, alone_other}
use Rattle.iterator.proofs.switches.part_item.Goals as goal

pub part_case-requires-clause-given : goal.part_case-requires-clause-given
part_case-requires-clause-given g c =
    let same : to_z w128 (of_z w128 c.in-Case.number) ≡ c.in-Case.number = search rules in
    rw same (c.requires.case c.in-Case.number (rw (c.in-Case.is, csstmt_case c.in-Case.number) (own_case c.in-Case.number)))

pub returns-in_ok-less-in-Case-clause-parted : goal.returns-in_ok-less-in-Case-clause-parted
returns-in_ok-less-in-Case-clause-parted g c = λ all rest before p.
    let q = csprogram_tree c.args.program.now in
    let same : to_z w128 (of_z w128 c.in-Case.number) ≡ c.in-Case.number = search rules in
    parted_case g.M.MemDomain.stands q (csexpr_tree c.args.value.now) c.args.names.now all before c.in-Case.number rest _ _ _ _
    c.in_ok-less-in-Case.ensures.old (rw same at c.in_ok-less-in-Case.ensures.hit) (rw same at c.in_ok-less-in-Case.ensures.miss)
    (rw (c.in-Case.is, csstmt_case c.in-Case.number) at p)

pub returns-in_default : goal.returns-in_default
returns-in_default g c = record {
  left_for = c.requires.left_for;
  heads_for = c.requires.heads_for;
  no_labels = c.requires.no_labels;
  parted = λ all rest before p.
      parted_other g.M.MemDomain.stands (csprogram_tree c.args.program.now) (csexpr_tree c.args.value.now) c.args.names.now all before
      (csstmt_tree c.args.item.now) rest _ _ (λ k. no_case c.args.item.now k c.in_default.not-Case) p;
  alone = λ all rest before p.
      alone_other g.M.MemDomain.sharp (csprogram_tree c.args.program.now) (csexpr_tree c.args.value.now) c.args.names.now all before
      (csstmt_tree c.args.item.now) rest _ _ (λ k. no_case c.args.item.now k c.in_default.not-Case) p;
}

pub returns-in_ok-less-in-Case-clause-alone : goal.returns-in_ok-less-in-Case-clause-alone
returns-in_ok-less-in-Case-clause-alone g c = λ all rest before p.
    let q = csprogram_tree c.args.program.now in
    let same : to_z w128 (of_z w128 c.in-Case.number) ≡ c.in-Case.number = search rules in
    alone_case g.M.MemDomain.sharp q (csexpr_tree c.args.value.now) c.args.names.now all before c.in-Case.number rest _ _ _ _
    c.in_ok-less-in-Case.ensures.gone (rw same at c.in_ok-less-in-Case.ensures.hit_alone) (rw same at c.in_ok-less-in-Case.ensures.miss_alone)
    (rw (c.in-Case.is, csstmt_case c.in-Case.number) at p)
