use Rattle.std.proofs.lemmas.Result.{IfOk-weaker}
use Rattle.csharp.specs.Trees.{csexpr_tree}
use Rattle.mem_cell_shows.proofs.Comparing.{apart-left, apart-right}
use Rattle.mem_cell_shows.proofs.Keeping.{all-kept}
use Rattle.mem_cell_shows.proofs.compares.keep_apart.Goals as goal

pub returns-then-is_null-clause-stands : goal.returns-then-is_null-clause-stands
returns-then-is_null-clause-stands g c =
    let e = csexpr_tree c.args.left.now in let f = csexpr_tree c.args.right.now in
    IfOk-weaker c.keep_set.result _ _
    (λ live stands objects s st h. stands objects s st (
      h.0.left,
      h.0.first,
      h.0.starts,
      apart-left e f c.args.set.now c.args.other.now c.without_null.result s h (c.is_null.ensures c.if-is_null.true) c.without_null.ensures,
    )) c.keep_set.ensures.stands

pub returns-then-is_null-2-clause-stands : goal.returns-then-is_null-2-clause-stands
returns-then-is_null-2-clause-stands g c =
    let e = csexpr_tree c.args.left.now in let f = csexpr_tree c.args.right.now in
    IfOk-weaker c.keep_set-then-is_null-2.result _ _
    (λ live stands objects s st h. stands objects s st (
      h.0.right,
      h.0.second,
      h.0.ends,
      apart-right e f c.args.set.now c.args.other.now c.without_null-then-is_null-2.result s h (c.is_null-2.ensures c.if-is_null-2.true) c.without_null-then-is_null-2.ensures,
    ))
    c.keep_set-then-is_null-2.ensures.stands

pub returns-clause-stands : goal.returns-clause-stands
returns-clause-stands g c = λ objects s st h. all-kept g.D.Oracle.admits objects c.args.known.now s st
