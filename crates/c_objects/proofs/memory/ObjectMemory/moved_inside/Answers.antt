use Rattle.std.proofs.Common.{◌≡◌, ℤ, ◌+ℤ◌, FitsSigned, to_z, of_z, sym, subst, ap, ◌∙◌, Some, Ok, Err, map, rules}
use Rattle.std.specs.Int.{w64, w128}
use Rattle.std.proofs.lemmas.Int.{to_z-of_z}
use Rattle.c_syntax.specs.declared.alarm.Spot.TheVariants as spots
use Rattle.c_syntax.specs.Types.{object_tree}
use Rattle.c_syntax.specs.Operand.{operand_of}
use Rattle.c_layout.specs.Checks.{move_checks}
use Rattle.block_mem.specs.declared.types.Value.TheVariants as values
use Rattle.c_values.specs.Looks.{judge, looks, Passes, FailsAs, Gives}
use Rattle.block_mem.specs.declared.types.Value.{Value}
use Rattle.c_values.specs.Operators.{move_operand, moved}
use Rattle.c_objects.proofs.Found.{exact_is, fits_pointer, inside_answers, found_ok, found_err}
use Rattle.c_objects.proofs.memory.ObjectMemory.moved_inside.Goals as goal

pub overflow_cast-result : goal.overflow_cast-result
overflow_cast-result c =
    let x : ℤ = to_z w128 (of_z w128 (to_z w128 (of_z w128 c.from-offset.result) +ℤ to_z w128 (of_z w128 c.args.distance))) in
    let offset : ℤ = to_z w128 (of_z w128 c.from-offset.result) in
    fits_pointer (map object_tree c.args.objects.now) c.args.self.now c.args.p c.args.object offset x c.requires.made c.requires.fits c.requires.small
    c.requires.lives c.in-Ok.ensures

pub returns-in-Ok-clause-answer : goal.returns-in-Ok-clause-answer
returns-in-Ok-clause-answer c =
    let offset : ℤ = c.args.p.offset in
    let objects = map object_tree c.args.objects.now in
    let short : FitsSigned w64 offset = search rules in
    let from : c.from-offset.result ≡ offset = c.from-offset.ensures ∙ to_z-of_z w64 offset short in
    let exact = exact_is c.from-offset.result offset c.args.distance short from c.requires.distance in
    let found : judge objects (looks (move_operand (Some (spots.At c.args.object offset)) (Some (spots.At c.args.object (offset +ℤ c.args.distance))))
    move_checks) ≡ Passes =
    subst (λ x. judge objects (looks (move_operand (Some (spots.At c.args.object offset)) (Some (spots.At c.args.object x))) move_checks)
    ≡ Passes) exact c.in-Ok.ensures in
    let new : Value = values.Ptr (record { block = c.args.p.block; offset = offset +ℤ c.args.distance }) in
    let fits : FitsSigned w64 (offset +ℤ c.args.distance) =
    fits_pointer objects c.args.self.now c.args.p c.args.object offset (offset +ℤ c.args.distance) c.requires.made c.requires.fits c.requires.small
    c.requires.lives found in
    inside_answers (Ok new) objects c.args.self.now c.args.p c.args.object c.args.distance c.requires.lives (found_ok _ new found)
    ∙ ap (λ x. Gives (values.Ptr (record { block = c.args.p.block; offset = x }))) (sym (ap (λ x. to_z w64 (of_z w64 x)) exact
    ∙ to_z-of_z w64 (offset +ℤ c.args.distance) fits))

pub returns-in-Err-clause-answer : goal.returns-in-Err-clause-answer
returns-in-Err-clause-answer c =
    let offset : ℤ = c.args.p.offset in
    let objects = map object_tree c.args.objects.now in
    let short : FitsSigned w64 offset = search rules in
    let from : c.from-offset.result ≡ offset = c.from-offset.ensures ∙ to_z-of_z w64 offset short in
    let exact = exact_is c.from-offset.result offset c.args.distance short from c.requires.distance in
    let kind = c.in-Err.wrong.kind in let operand = operand_of c.in-Err.wrong.operand in
    let found : judge objects (looks (move_operand (Some (spots.At c.args.object offset)) (Some (spots.At c.args.object (offset +ℤ c.args.distance))))
    move_checks) ≡ FailsAs kind operand =
    subst (λ x. judge objects (looks (move_operand (Some (spots.At c.args.object offset)) (Some (spots.At c.args.object x))) move_checks)
    ≡ FailsAs kind operand) exact c.in-Err.ensures in
    inside_answers (Err c.in-Err.wrong) objects c.args.self.now c.args.p c.args.object c.args.distance c.requires.lives
    (found_err _ kind operand (moved (values.Ptr c.args.p) c.args.distance) found)
