use Rattle.mem_cell_exprs.proofs.numbers.binary.Goals as goal

pub returns-in-Arithmetic : goal.returns-in-Arithmetic
returns-in-Arithmetic c = rw c.in-Arithmetic.is c.arithmetic.ensures

pub returns-in-Shift : goal.returns-in-Shift
returns-in-Shift c = rw c.in-Shift.is c.shift.ensures

pub returns-in_ok-compared-in-CompareInts : goal.returns-in_ok-compared-in-CompareInts
returns-in_ok-compared-in-CompareInts c = rw c.in-CompareInts.is (λ types e f h g. c.in_ok-compared-in-CompareInts.ensures types c.in-CompareInts._ty e f h g)
