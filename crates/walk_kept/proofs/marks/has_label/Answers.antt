use Rattle.std.proofs.Common.{◌∙◌, refl}
use Rattle.csharp.proofs.CodeTrees.{csstmts_cons, csstmts_nil}
use Rattle.csharp.specs.Meaning.{AtLabel}
use Rattle.csharp.specs.Trees.{csstmt_tree, csstmts_from}
use Rattle.walk_owes.proofs.Entering.{has_skip, nil_of}
use Rattle.walk_kept.proofs.marks.has_label.Goals as goal

pub loop-item-preserved : goal.loop-item-preserved
loop-item-preserved c = record {
  none_before = λ k h. c.loop-item.invariant.none_before k
      (rw (c.in-Some.ensures.cases.0, csstmts_cons c.in-Some.item.now c.in-Some.more.now)
      (has_skip (AtLabel k) (csstmt_tree c.in-Some.item.now) (csstmts_from c.in-Some.more.now) (c.is_label.ensures c.if-is_label.false k) ∙ h));
}

pub returns : goal.returns
returns c = λ e k. c.loop-item.invariant.none_before k (rw (nil_of c.loop-item.rest.now c.in_default.ensures.cases, csstmts_nil) refl)
