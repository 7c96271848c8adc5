use Rattle.c_parser.proofs.Answered.{is_file, only_file, not_refused, no_file, tells, stops_so, reads_as, refuses_as}
use Rattle.c_parser.proofs.parsing.parse.Goals as goal

pub returns-in-Ok-clause-ok : goal.returns-in-Ok-clause-ok
returns-in-Ok-clause-ok c = is_file _ _ _ (reads_as c.as_slice.ensures c.in-Ok.ensures) c.from_vec.ensures

pub returns-in-Ok-clause-only : goal.returns-in-Ok-clause-only
returns-in-Ok-clause-only c = only_file _ _ _ (reads_as c.as_slice.ensures c.in-Ok.ensures) c.from_vec.ensures

pub returns-in-Ok-clause-stops : goal.returns-in-Ok-clause-stops
returns-in-Ok-clause-stops c = not_refused _ _ (reads_as c.as_slice.ensures c.in-Ok.ensures)

pub returns-in-Err-clause-only : goal.returns-in-Err-clause-only
returns-in-Err-clause-only c = no_file c.args.tokens.now _ _ (refuses_as c.as_slice.ensures c.in-Err.ensures) c.error_of.ensures

pub returns-in-Err-clause-refused : goal.returns-in-Err-clause-refused
returns-in-Err-clause-refused c = tells c.args.tokens.now _ _ (refuses_as c.as_slice.ensures c.in-Err.ensures) c.error_of.ensures

pub returns-in-Err-clause-stops : goal.returns-in-Err-clause-stops
returns-in-Err-clause-stops c = stops_so c.args.tokens.now _ _ (refuses_as c.as_slice.ensures c.in-Err.ensures) c.error_of.ensures
