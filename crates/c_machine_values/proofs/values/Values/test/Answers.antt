use Rattle.std.proofs.Common.{◌≡◌, sym, ◌∙◌, subst}
use Rattle.c_syntax.specs.Operand.{operand_of}
use Rattle.c_values.specs.Accesses.{test_looks}
use Rattle.c_values.specs.Looks.{Passes, FailsAs, judge}
use Rattle.c_machine_values.proofs.values.Values.test.Goals as goal

pub returns-in-Ok-clause-test : goal.returns-in-Ok-clause-test
returns-in-Ok-clause-test c = λ objects. (
  c.take_value-v.ensures,
  subst (λ o. judge objects (test_looks c.args.self.now.memory o c.take_value-v.result) ≡ Passes) (sym c.scalar_there.ensures) (c.in-Ok.ensures objects),
)

pub returns-in_ok-put_value-in-Err-clause-test : goal.returns-in_ok-put_value-in-Err-clause-test
returns-in_ok-put_value-in-Err-clause-test c = λ objects. let x = operand_of c.in-Err.wrong.operand in (
  (
    c.take_value-v.result,
    _,
    c.take_value-v.ensures,
    (
      x,
      subst (λ o. judge objects (test_looks c.args.self.now.memory o c.take_value-v.result) ≡ FailsAs c.in-Err.wrong.kind x) (sym c.scalar_there.ensures)
          (c.in-Err.ensures objects),
    ),
  ),
  c.in_ok-put_value-in-Err.ensures ∙ sym c.take_value-v.ensures,
)
