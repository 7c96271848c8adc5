use Rattle.std.proofs.Common.{◌≡◌, ℤ, pos, neg_ℤ, ◌-ℤ◌, FitsSigned, to_z, of_z, length, subst, [], map, rules, arith}
use Rattle.std.specs.Int.{w128}
use Rattle.std.proofs.lemmas.Int.{ints, to_z-of_z}
use Rattle.c_syntax_written.specs.declared.int_type.IntType.TheVariants.{Long}
use Rattle.c_syntax.specs.declared.operator.TBinaryOp.{TBinaryOp}
use Rattle.c_syntax.specs.declared.operator.TBinaryOp.TheVariants as binaries
use Rattle.c_syntax.specs.Types.{object_tree}
use Rattle.c_layout.specs.Checks.{move_checks}
use Rattle.c_values.specs.Answers.{Answers}
use Rattle.c_values.specs.Looks.{judge, looks, outcome}
use Rattle.c_values.specs.Operators as operators
use Rattle.c_values.specs.Operators.{moving_operand}
use Rattle.c_values.specs.Typed.{TakesBoth}
use Rattle.c_values.proofs.Settled.{binary_settles}
use Rattle.c_objects.proofs.Found.{plus_answers, from_answers, minus_moves, numbers_are_made}
use Rattle.c_objects.proofs.memory.ObjectMemory.binary.Goals as goal

pub returns-in-PointerPlusInt-clause-answer : goal.returns-in-PointerPlusInt-clause-answer
returns-in-PointerPlusInt-clause-answer c =
    let objects = map object_tree c.args.objects.now in let m = c.args.self.now in let v = c.args.left in
    let fits : FitsSigned w128 c.distance.result = search rules in
    plus_answers c.moved.result objects m c.args.op c.args.left c.args.right c.in-PointerPlusInt.element c.distance.result c.in-PointerPlusInt.is
    c.requires.typed c.distance.ensures.bytes
    (subst (λ (x : ℤ). Answers c.moved.result (outcome (judge objects (looks (moving_operand m v (operators.moved v x)) move_checks)) (operators.moved v x)))
    (to_z-of_z w128 c.distance.result fits) c.moved.ensures.answer)

pub returns-in-IntPlusPointer-clause-answer : goal.returns-in-IntPlusPointer-clause-answer
returns-in-IntPlusPointer-clause-answer c =
    let objects = map object_tree c.args.objects.now in let m = c.args.self.now in let v = c.args.right in
    let fits : FitsSigned w128 c.distance-in-IntPlusPointer.result = search rules in
    from_answers c.moved-in-IntPlusPointer.result objects m c.args.op c.args.left c.args.right c.in-IntPlusPointer.element c.distance-in-IntPlusPointer.result
    c.in-IntPlusPointer.is c.requires.typed c.distance-in-IntPlusPointer.ensures.bytes
    (subst (λ (x : ℤ). Answers c.moved-in-IntPlusPointer.result (outcome (judge objects (looks (moving_operand m v (operators.moved v x)) move_checks))
    (operators.moved v x)))
    (to_z-of_z w128 c.distance-in-IntPlusPointer.result fits) c.moved-in-IntPlusPointer.ensures.answer)

pub returns-in-PointerMinusInt-clause-answer : goal.returns-in-PointerMinusInt-clause-answer
returns-in-PointerMinusInt-clause-answer c =
    let objects = map object_tree c.args.objects.now in let m = c.args.self.now in
    let x : ℤ = to_z w128 (of_z w128 (pos 0 -ℤ to_z w128 (of_z w128 c.distance-in-PointerMinusInt.result))) in
    let negative : x ≡ neg_ℤ c.distance-in-PointerMinusInt.result = omega (arith, ints, c.distance-in-PointerMinusInt.ensures.moderate) in
    minus_moves c.moved-in-PointerMinusInt.result objects m c.args.op c.args.left c.args.right c.in-PointerMinusInt.element
    c.distance-in-PointerMinusInt.result x c.in-PointerMinusInt.is c.requires.typed c.distance-in-PointerMinusInt.ensures.bytes negative
    c.moved-in-PointerMinusInt.ensures.answer

pub returns-in-PointerMinusPointer-clause-made : goal.returns-in-PointerMinusPointer-clause-made
returns-in-PointerMinusPointer-clause-made c =
    let op : TBinaryOp = binaries.PointerMinusPointer c.in-PointerMinusPointer.element in
    let typed : TakesBoth op c.args.left c.args.right = subst (λ (o : TBinaryOp). TakesBoth o c.args.left c.args.right) c.in-PointerMinusPointer.is
    c.requires.typed in
    numbers_are_made c.subtract.result Long (operators.binary [] c.args.self.now op c.args.left c.args.right) (length c.args.self.now.blocks)
    (c.subtract.ensures [])
    (binary_settles [] c.args.self.now op c.args.left c.args.right typed)

pub returns-in-Arithmetic-clause-made : goal.returns-in-Arithmetic-clause-made
returns-in-Arithmetic-clause-made c = c.on_numbers.ensures.made (length c.args.self.now.blocks)
