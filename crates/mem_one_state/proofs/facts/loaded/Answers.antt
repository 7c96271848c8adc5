use Rattle.std.proofs.Common.{◌≡◌, sym, subst, ap, ◌∙◌, Some, Ok}
use Rattle.std.specs.Int.{w128}
use Rattle.std.proofs.lemmas.Int.{to_z-of_z}
use Rattle.c_syntax_written.specs.Integer.{HasNumber}
use Rattle.block_mem.specs.declared.types.Scalar.TheVariants as scalars
use Rattle.block_mem.specs.declared.types.Value.TheVariants as values
use Rattle.block_mem.specs.Bytes.{IsOf}
use Rattle.mem_one_state.specs.Telling.{Loads}
use Rattle.mem_one_state.proofs.Numbers.{number_fits}
use Rattle.mem_one_state.proofs.Told.{load_is, ok_same, ok_no_err}
use Rattle.mem_one_state.proofs.facts.loaded.Goals as goal

pub returns-in-Ok-Int-clause-told : goal.returns-in-Ok-Int-clause-told
returns-in-Ok-Int-clause-told c =
    let t = c.args.ty in
    let n = c.in-Ok-Int.n in
    let typed : (c.in-Ok-Int.field-0-0 ≡ t) × HasNumber t n = subst (IsOf (scalars.Int t)) c.in-Ok-Int.field-0-is c.in-Ok-Int.ensures.typed in
    let given : c.load.result ≡ Ok (values.Int t n) = c.in-Ok-Int.is ∙ ap Ok (c.in-Ok-Int.field-0-is ∙ ap (λ w. values.Int w n) typed.0) in
    let is = load_is c.args.memory.now c.args.object t c.address-place.result c.load.result c.requires c.address-place.ensures.address
    c.address-place.ensures.made c.load.ensures.answer n in
    subst (λ k. Loads c.args.memory.now c.args.object t k × HasNumber t k) (sym (to_z-of_z w128 n (number_fits t n typed.1))) (is.0 given, typed.1)

pub returns-in-Ok-Int-clause-each : goal.returns-in-Ok-Int-clause-each
returns-in-Ok-Int-clause-each c k h =
    let t = c.args.ty in
    let n = c.in-Ok-Int.n in
    let typed : (c.in-Ok-Int.field-0-0 ≡ t) × HasNumber t n = subst (IsOf (scalars.Int t)) c.in-Ok-Int.field-0-is c.in-Ok-Int.ensures.typed in
    let given : c.load.result ≡ Ok (values.Int t n) = c.in-Ok-Int.is ∙ ap Ok (c.in-Ok-Int.field-0-is ∙ ap (λ w. values.Int w n) typed.0) in
    let is = load_is c.args.memory.now c.args.object t c.address-place.result c.load.result c.requires c.address-place.ensures.address
    c.address-place.ensures.made c.load.ensures.answer k in
    ap Some (to_z-of_z w128 n (number_fits t n typed.1) ∙ ok_same t c.load.result n k given (is.1 h))

pub returns-in-Err-clause-each : goal.returns-in-Err-clause-each
returns-in-Err-clause-each c k h = absurd
    (ok_no_err c.args.ty c.load.result k c.in-Err.field-0 ((load_is c.args.memory.now c.args.object c.args.ty c.address-place.result c.load.result c.requires
    c.address-place.ensures.address c.address-place.ensures.made c.load.ensures.answer k).1 h) c.in-Err.is)
