use Rattle.csharp.proofs.CodeTrees.{csstmts_cons, csstmts_nil}
use Rattle.csharp.specs.Meaning.{AtCase}
use Rattle.csharp.specs.Trees.{csexpr_tree, csprogram_tree, csstmt_tree, csstmts_from}
use Rattle.walk_owes.proofs.Entering.{has_first, has_second, nil_of}
use Rattle.walk_owes.proofs.Switches.{parted_begin}
use Rattle.iterator.proofs.Parting.{alone_begin}
use Rattle.iterator.proofs.switches.part_cases.Goals as goal

pub loop-item-init : goal.loop-item-init
loop-item-init g c = record {
  left_for = c.requires.is_for;
  heads_for = rw c.new-heads.ensures.items tt;
  no_labels = λ k h. rw c.new-heads.ensures.items at h;
  cases = c.requires.cases;
  parted = rw c.new-heads.ensures.items
      (parted_begin g.M.MemDomain.stands (csprogram_tree c.args.program.now) (csexpr_tree c.args.value.now) c.args.names.now (csstmts_from c.args.items.now) c.args.state);
  alone = rw c.new-heads.ensures.items
      (alone_begin g.M.MemDomain.sharp (csprogram_tree c.args.program.now) (csexpr_tree c.args.value.now) c.args.names.now (csstmts_from c.args.items.now) c.args.state);
}

pub part_item-requires-clause-case : goal.part_item-requires-clause-case
part_item-requires-clause-case g c = λ n e.
    c.loop-item.invariant.cases n
    (rw (c.in-Some.ensures.cases.0, csstmts_cons c.in-Some.item.now c.in-Some.more.now)
    (has_first (AtCase n) (csstmt_tree c.in-Some.item.now) (csstmts_from c.in-Some.more.now) e))

pub loop-item-preserved : goal.loop-item-preserved
loop-item-preserved g c = record {
  left_for = c.in_ok-left.ensures.left_for;
  heads_for = c.in_ok-left.ensures.heads_for;
  no_labels = c.in_ok-left.ensures.no_labels;
  cases = λ n e. c.loop-item.invariant.cases n
      (rw (c.in-Some.ensures.cases.0, csstmts_cons c.in-Some.item.now c.in-Some.more.now)
      (has_second (AtCase n) (csstmt_tree c.in-Some.item.now) (csstmts_from c.in-Some.more.now) e));
  parted = c.in_ok-left.ensures.parted (csstmts_from c.args.items.now) (csstmts_from c.in-Some.more.now) c.args.state
      (rw (c.in-Some.ensures.cases.0, csstmts_cons c.in-Some.item.now c.in-Some.more.now) at c.loop-item.invariant.parted);
  alone = c.in_ok-left.ensures.alone (csstmts_from c.args.items.now) (csstmts_from c.in-Some.more.now) c.args.state
      (rw (c.in-Some.ensures.cases.0, csstmts_cons c.in-Some.item.now c.in-Some.more.now) at c.loop-item.invariant.alone);
}

pub returns-clause-parted : goal.returns-clause-parted
returns-clause-parted g c = rw (nil_of c.loop-item.rest.now c.in_default.ensures.cases, csstmts_nil) at c.loop-item.invariant.parted

pub returns-clause-alone : goal.returns-clause-alone
returns-clause-alone g c = rw (nil_of c.loop-item.rest.now c.in_default.ensures.cases, csstmts_nil) at c.loop-item.invariant.alone
