use Rattle.std.proofs.Common.{sym, subst}
use Rattle.c_syntax.specs.declared.operator.TBinaryOp.{TBinaryOp}
use Rattle.mem_temps.specs.Operators.{IsBinary}
use Rattle.mem_temps.proofs.Valued.{arithmetic_value, shift_value, compare_value, difference_value}
use Rattle.mem_temps.proofs.operators.binary_value.Goals as goal

pub returns-in-Arithmetic : goal.returns-in-Arithmetic
returns-in-Arithmetic c = subst (λ (op : TBinaryOp). IsBinary op c.args.r c.args.s c.arithmetic_range.result) (sym c.in-Arithmetic.is)
    (arithmetic_value c.in-Arithmetic.op c.in-Arithmetic.t c.args.r c.args.s c.arithmetic_range.result c.arithmetic_range.ensures)

pub returns-in-Shift : goal.returns-in-Shift
returns-in-Shift c = subst (λ (op : TBinaryOp). IsBinary op c.args.r c.args.s c.shift_range.result) (sym c.in-Shift.is)
    (shift_value c.in-Shift.way c.in-Shift.t c.args.r c.args.s c.shift_range.result c.shift_range.ensures)

pub returns-in-CompareInts : goal.returns-in-CompareInts
returns-in-CompareInts c = subst (λ (op : TBinaryOp). IsBinary op c.args.r c.args.s c.comparison_range.result) (sym c.in-CompareInts.is)
    (compare_value c.in-CompareInts.c c.in-CompareInts.field-1 c.args.r c.args.s c.comparison_range.result c.comparison_range.ensures)

pub returns-in-PointerMinusPointer : goal.returns-in-PointerMinusPointer
returns-in-PointerMinusPointer c = subst (λ (op : TBinaryOp). IsBinary op c.args.r c.args.s c.type_range.result) (sym c.in-PointerMinusPointer.is)
    (difference_value c.in-PointerMinusPointer.element c.args.r c.args.s c.type_range.result c.type_range.ensures.value)
