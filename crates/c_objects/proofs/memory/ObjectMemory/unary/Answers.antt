use Rattle.std.proofs.Common.{sym, ap, ◌∙◌, Some, FitsSigned, rules}
use Rattle.std.specs.Prelude.{not}
use Rattle.std.specs.Int.{w128}
use Rattle.std.proofs.lemmas.Int.{to_z-of_z}
use Rattle.c_values.specs.Values.{bit}
use Rattle.c_syntax.specs.Operand.{operand_of}
use Rattle.c_syntax.specs.declared.operator.TUnaryOp.{TUnaryOp}
use Rattle.c_values.specs.Looks.{Gives}
use Rattle.c_values.specs.Operators as operators
use Rattle.c_objects.proofs.Found.{not_ok, not_err, minus_answers}
use Rattle.c_objects.proofs.memory.ObjectMemory.unary.Goals as goal

pub returns-in-Ok : goal.returns-in-Ok
returns-in-Ok c = λ objects.
    ap (λ (op : TUnaryOp). operators.unary objects c.args.self.now op (Some c.args.ty) c.args.v) c.in-Not.is
    ∙ not_ok objects c.args.self.now c.args.ty c.args.v (c.in-Ok.ensures objects) ∙ ap Gives (ap (λ b. bit (not b)) (sym c.truth.ensures) ∙ sym c.bit.ensures)

pub returns-in-Err : goal.returns-in-Err
returns-in-Err c = λ objects.
    ap (λ (op : TUnaryOp). operators.unary objects c.args.self.now op (Some c.args.ty) c.args.v) c.in-Not.is
    ∙ not_err objects c.args.self.now c.args.ty c.args.v c.in-Err.wrong.kind (operand_of c.in-Err.wrong.operand) (c.in-Err.ensures objects)

pub returns-in-Int : goal.returns-in-Int
returns-in-Int c = λ objects.
    let fn : FitsSigned w128 c.in-Int.n = search rules in
    minus_answers objects c.args.self.now c.negate.result c.args.op c.args.ty c.args.v c.in-Minus.t c.in-Int.field-0 c.in-Int.n c.in-Minus.is c.in-Int.is
    (simp to_z-of_z at (c.negate.ensures objects c.args.self.now))
