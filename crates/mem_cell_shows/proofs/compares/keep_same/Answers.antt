use Rattle.std.proofs.Common.{subst, sym}
use Rattle.std.proofs.lemmas.Result.{IfOk-weaker}
use Rattle.csharp.specs.Trees.{csexpr_tree}
use Rattle.mem_cell_bytes.specs.Cells.{Points}
use Rattle.mem_cell_shows.specs.Changes.{IsKept}
use Rattle.mem_cell_shows.proofs.Comparing.{same-points}
use Rattle.mem_cell_shows.proofs.Keeping.{kept-then}
use Rattle.mem_cell_shows.proofs.compares.keep_same.Goals as goal

pub returns-in-Live-clause-stands : goal.returns-in-Live-clause-stands
returns-in-Live-clause-stands g c =
    let e = csexpr_tree c.args.left.now in let f = csexpr_tree c.args.right.now in let both = c.common-both.result in
    IfOk-weaker c.keep_set-in-Live.result _ _
    (λ live stands objects s st h.
    let at = same-points e f c.args.set.now c.args.other.now both c.both_hold-null.result c.both_hold-dead.result s h c.common-both.ensures c.both_hold-null.ensures c.both_hold-dead.ensures in
    let first = c.in_ok-keep_set.ensures.stands objects s st (h.0.left, h.0.first, h.0.starts, subst (λ x. Points s.memory x h.0.left) (sym c.copy.ensures) at.0) in
    kept-then g.D.Oracle.admits objects c.args.known.now c.keep_set.new.known c.keep_set-in-Live.new.known s st c.in_ok-keep_set.field-0 live first
    (stands objects s first.stands (h.0.right, h.0.second, h.0.ends, at.1))) c.keep_set-in-Live.ensures.stands

pub returns-in-Dead-clause-stands : goal.returns-in-Dead-clause-stands
returns-in-Dead-clause-stands g c = λ objects s st h.
    let e = csexpr_tree c.args.left.now in let f = csexpr_tree c.args.right.now in let both = c.common-both.result in
    let at = same-points e f c.args.set.now c.args.other.now both c.both_hold-null.result c.both_hold-dead.result s h c.common-both.ensures c.both_hold-null.ensures c.both_hold-dead.ensures in
    subst (IsKept g.D.Oracle.admits objects c.args.known.now c.keep_set.new.known s st) c.in-Dead.is
    (c.in_ok-keep_set.ensures.stands objects s st (h.0.left, h.0.first, h.0.starts, subst (λ x. Points s.memory x h.0.left) (sym c.copy.ensures) at.0))
