use Rattle.std.proofs.Common.{FitsSigned, rules, subst, []}
use Rattle.std.specs.Int.{w128}
use Rattle.std.proofs.lemmas.Int.{to_z-of_z}
use Rattle.block_mem.specs.declared.types.Scalar.{Scalar}
use Rattle.c_values.specs.Operators as operators
use Rattle.c_values.specs.Places as places
use Rattle.c_values.specs.Typed.{IsSettled}
use Rattle.c_values.proofs.Settled.{binary_settles}
use Rattle.c_objects.proofs.Found.{arithmetic_answers, shift_answers, numbers_are_made, number_type}
use Rattle.c_objects.proofs.operators.on_numbers.Goals as goal

abbrev nothing : places.ObjectMemory
nothing = record { blocks = []; owners = []; places = [] }

pub returns-in-Arithmetic-clause-answer : goal.returns-in-Arithmetic-clause-answer
returns-in-Arithmetic-clause-answer c = λ objects m.
    let fa : FitsSigned w128 c.in-Int-Int.a = search rules in let fb : FitsSigned w128 c.in-Int-Int.b = search rules in
    arithmetic_answers c.arithmetic.result objects m c.args.op c.args.left c.args.right c.in-Arithmetic.op c.in-Arithmetic.t c.in-Int-Int.field-0-0
    c.in-Int-Int.field-0-1 c.in-Int-Int.a c.in-Int-Int.b
    c.in-Arithmetic.is c.in-Int-Int.is-0 c.in-Int-Int.is-1 c.requires.typed (simp to_z-of_z at (c.arithmetic.ensures objects m))

pub returns-in-Arithmetic-clause-made : goal.returns-in-Arithmetic-clause-made
returns-in-Arithmetic-clause-made c = λ made.
    let ty = number_type c.args.op c.requires.numbers in
    numbers_are_made c.arithmetic.result ty.0 (operators.binary [] nothing c.args.op c.args.left c.args.right) made
    (returns-in-Arithmetic-clause-answer c [] nothing)
    (subst (λ (t : Scalar). IsSettled t (operators.binary [] nothing c.args.op c.args.left c.args.right)) ty.1
    (binary_settles [] nothing c.args.op c.args.left c.args.right c.requires.typed))

pub returns-in-Shift-clause-answer : goal.returns-in-Shift-clause-answer
returns-in-Shift-clause-answer c = λ objects m.
    let fa : FitsSigned w128 c.in-Int-Int.a = search rules in let fb : FitsSigned w128 c.in-Int-Int.b = search rules in
    shift_answers c.shift.result objects m c.args.op c.args.left c.args.right c.in-Shift.way c.in-Shift.t c.in-Int-Int.field-0-0 c.in-Int-Int.field-0-1
    c.in-Int-Int.a c.in-Int-Int.b
    c.in-Shift.is c.in-Int-Int.is-0 c.in-Int-Int.is-1 c.requires.typed (simp to_z-of_z at (c.shift.ensures objects m c.in-Int-Int.field-0-1))

pub returns-in-Shift-clause-made : goal.returns-in-Shift-clause-made
returns-in-Shift-clause-made c = λ made.
    let ty = number_type c.args.op c.requires.numbers in
    numbers_are_made c.shift.result ty.0 (operators.binary [] nothing c.args.op c.args.left c.args.right) made (returns-in-Shift-clause-answer c [] nothing)
    (subst (λ (t : Scalar). IsSettled t (operators.binary [] nothing c.args.op c.args.left c.args.right)) ty.1
    (binary_settles [] nothing c.args.op c.args.left c.args.right c.requires.typed))
