use Rattle.std.proofs.Common.{subst}
use Rattle.std.proofs.lemmas.Result.{IfOk-weaker}
use Rattle.mem_cell_shows.specs.Changes.{IsKept}
use Rattle.mem_cell_shows.proofs.Keeping.{kept-then}
use Rattle.mem_cell_shows.proofs.passes.keep_two_without.Goals as goal

pub returns-in-Live-clause-stands : goal.returns-in-Live-clause-stands
returns-in-Live-clause-stands g c = IfOk-weaker c.keep_without-in-Live.result _ _
    (λ live stands objects s st h.
    let first = c.in_ok-keep_without.ensures.stands objects s st h.0 in
    kept-then g.D.Oracle.admits objects c.args.known.now c.keep_without.new.known c.keep_without-in-Live.new.known s st c.in_ok-keep_without.field-0 live first
    (stands objects s first.stands h.1)) c.keep_without-in-Live.ensures.stands

pub returns-in-Dead-clause-stands : goal.returns-in-Dead-clause-stands
returns-in-Dead-clause-stands g c = λ objects s st h.
    subst (IsKept g.D.Oracle.admits objects c.args.known.now c.keep_without.new.known s st) c.in-Dead.is (c.in_ok-keep_without.ensures.stands objects s st h.0)
