use Rattle.std.proofs.lemmas.Result.{IfOk-weaker}
use Rattle.mem_cell_shows.proofs.Keeping.{numbers-kept}
use Rattle.mem_cell_shows.proofs.keeps.keep_number.Goals as goal

pub returns-clause-stands : goal.returns-clause-stands
returns-clause-stands g c = IfOk-weaker c.test.result _ _
    (λ live after objects s st h.
    let r = after st.v h.0 st.admitted h.1 h.2 in numbers-kept g.D.Oracle.admits objects c.args.known.now s st c.test.new.self live r.0 r.1) c.test.ensures.after
