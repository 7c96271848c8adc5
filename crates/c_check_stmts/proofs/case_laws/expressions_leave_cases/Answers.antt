use Rattle.c_check_stmts.proofs.Expressions as lemmas
use Rattle.c_check_stmts.proofs.case_laws.expressions_leave_cases.Goals as goal

pub returns : goal.returns
returns c = lemmas.expressions_leave_cases
