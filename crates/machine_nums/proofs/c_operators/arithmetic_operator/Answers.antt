use Rattle.machine_nums.proofs.OperatorValues.{remainders, ands, ors, xors}
use Rattle.machine_nums.proofs.c_operators.arithmetic_operator.Goals as goal

pub returns-in-Remainder : goal.returns-in-Remainder
returns-in-Remainder c = rw c.in-Remainder.is remainders

pub returns-in-BitAnd : goal.returns-in-BitAnd
returns-in-BitAnd c = rw c.in-BitAnd.is ands

pub returns-in-BitXor : goal.returns-in-BitXor
returns-in-BitXor c = rw c.in-BitXor.is xors

pub returns-in-BitOr : goal.returns-in-BitOr
returns-in-BitOr c = rw c.in-BitOr.is ors
