use Rattle.std.proofs.Common.{sym, arith}
use Rattle.c_line_marks.proofs.StartLemmas.{none_before, last_before}
use Rattle.c_line_marks.proofs.marks.start_at.Goals as goal

pub returns-then-count-eq0-clause-at : goal.returns-then-count-eq0-clause-at
returns-then-count-eq0-clause-at c = sym (none_before c.args.starts.now c.args.line c.count_to-count.result c.if-count-eq0.true c.count_to-count.ensures.point.1)

pub bounds-starts-count : goal.bounds-starts-count
bounds-starts-count c = omega (arith, c.count_to-count.ensures.bound, c.if-count-eq0.false)

pub returns-clause-at : goal.returns-clause-at
returns-clause-at c =
    sym (last_before c.args.starts.now c.args.line c.count_to-count.result _ _ (omega arith) c.count_to-count.ensures.bound c.count_to-count.ensures.point.0 c.count_to-count.ensures.point.1)
