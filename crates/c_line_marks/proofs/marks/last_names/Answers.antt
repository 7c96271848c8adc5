use Rattle.std.proofs.Common.{sym, arith}
use Rattle.c_line_marks.proofs.StartLemmas.{last_get}
use Rattle.c_line_marks.proofs.marks.last_names.Goals as goal

pub returns : goal.returns
returns c = sym (last_get c.args.starts.now 0 _ _ (omega arith))
