use Rattle.std.proofs.Common.{◌≡◌, ◌-ℤ◌, ◌+ℤ◌, FitsSigned, ap, sym, subst, ◌∙◌, arith}
use Rattle.std.specs.Int.{w128}
use Rattle.std.proofs.lemmas.Int.{ints, to_z-of_z}
use Rattle.c_values.specs.Answers.{Answers}
use Rattle.c_values.specs.Operators.{binary}
use Rattle.c_values.proofs.Outcomes.{multiplied, added, subtracted, quotients, remainders}
use Rattle.c_values.proofs.Ranges.{size_of_number}
use Rattle.c_syntax.specs.declared.operator.TBinaryOp.TheVariants as binaries
use Rattle.block_mem.specs.declared.types.Value.TheVariants as values
use Rattle.c_values.proofs.numbers.arithmetic.Goals as goal

pub returns-in-Multiply : goal.returns-in-Multiply
returns-in-Multiply c = λ objects m.
    let t = c.args.t in let a = c.args.a in let b = c.args.b in
    let fa : FitsSigned w128 a = c.ranges.a in let fb : FitsSigned w128 b = c.ranges.b in
    let is : binary objects m (binaries.Arithmetic c.args.op t) (values.Int t a) (values.Int t b)
    ≡ _ = ap (λ op. binary objects m (binaries.Arithmetic op t) (values.Int t a) (values.Int t b)) c.in-Multiply.is ∙ multiplied objects m t a b in
    subst (λ o. Answers c.multiply.result o) (sym is) (simp to_z-of_z at c.multiply.ensures)

pub returns-in-Divide : goal.returns-in-Divide
returns-in-Divide c = λ objects m.
    let t = c.args.t in let a = c.args.a in let b = c.args.b in
    let fa : FitsSigned w128 a = c.ranges.a in let fb : FitsSigned w128 b = c.ranges.b in
    let is : binary objects m (binaries.Arithmetic c.args.op t) (values.Int t a) (values.Int t b)
    ≡ _ = ap (λ op. binary objects m (binaries.Arithmetic op t) (values.Int t a) (values.Int t b)) c.in-Divide.is ∙ quotients objects m t a b in
    subst (λ o. Answers c.divide.result o) (sym is) (simp to_z-of_z at c.divide.ensures)

pub returns-in-Remainder : goal.returns-in-Remainder
returns-in-Remainder c = λ objects m.
    let t = c.args.t in let a = c.args.a in let b = c.args.b in
    let fa : FitsSigned w128 a = c.ranges.a in let fb : FitsSigned w128 b = c.ranges.b in
    let is : binary objects m (binaries.Arithmetic c.args.op t) (values.Int t a) (values.Int t b)
    ≡ _ = ap (λ op. binary objects m (binaries.Arithmetic op t) (values.Int t a) (values.Int t b)) c.in-Remainder.is ∙ remainders objects m t a b in
    subst (λ o. Answers c.remainder.result o) (sym is) (simp to_z-of_z at c.remainder.ensures)

pub returns-in-Add : goal.returns-in-Add
returns-in-Add c = λ objects m.
    let t = c.args.t in let a = c.args.a in let b = c.args.b in
    let fa : FitsSigned w128 a = c.ranges.a in let fb : FitsSigned w128 b = c.ranges.b in
    let is : binary objects m (binaries.Arithmetic c.args.op t) (values.Int t a) (values.Int t b)
    ≡ _ = ap (λ op. binary objects m (binaries.Arithmetic op t) (values.Int t a) (values.Int t b)) c.in-Add.is ∙ added objects m t a b in
    let fits : FitsSigned w128 (a +ℤ b) = omega (arith, ints, size_of_number t a c.requires.left, size_of_number t b c.requires.right) in
    subst (λ o. Answers c.of_type.result o) (sym is) (simp to_z-of_z at c.of_type.ensures)

pub returns-in-Subtract : goal.returns-in-Subtract
returns-in-Subtract c = λ objects m.
    let t = c.args.t in let a = c.args.a in let b = c.args.b in
    let fa : FitsSigned w128 a = c.ranges.a in let fb : FitsSigned w128 b = c.ranges.b in
    let is : binary objects m (binaries.Arithmetic c.args.op t) (values.Int t a) (values.Int t b)
    ≡ _ = ap (λ op. binary objects m (binaries.Arithmetic op t) (values.Int t a) (values.Int t b)) c.in-Subtract.is ∙ subtracted objects m t a b in
    let fits : FitsSigned w128 (a -ℤ b) = omega (arith, ints, size_of_number t a c.requires.left, size_of_number t b c.requires.right) in
    subst (λ o. Answers c.of_type-in-Subtract.result o) (sym is) (simp to_z-of_z at c.of_type-in-Subtract.ensures)
