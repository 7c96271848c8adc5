use Rattle.std.proofs.Common.{◌≡◌, [], ap, sym, ◌∙◌, arith}
use Rattle.std.specs.Prelude.{◌||◌}
use Rattle.std.proofs.lemmas.Grind.{common_steps}
use Rattle.c_syntax_written.specs.Written.{specs_from}
use Rattle.c_typing.specs.Context.{has_storage}
use Rattle.c_check_jumps.proofs.Words.{none_stored, stored_by}
use Rattle.c_check_jumps.proofs.storage.has_storage.Goals as goal

pub returns-then-is_storage_spec : goal.returns-then-is_storage_spec
returns-then-is_storage_spec c =
    let rest = c.in-Some.rest.now in
    ap (λ is. is || has_storage c.args.word (specs_from rest)) (sym c.if-is_storage_spec.true)
    ∙ stored_by c.args.word c.is_storage_spec.result c.in-Some.spec.now rest c.each.left.now (c.is_storage_spec.ensures (specs_from rest)) c.in-Some.ensures.cases.0
    ∙ c.each.invariant

pub each-preserved : goal.each-preserved
each-preserved c =
    let rest = c.in-Some.rest.now in
    ap (λ is. is || has_storage c.args.word (specs_from rest)) (sym c.if-is_storage_spec.false)
    ∙ stored_by c.args.word c.is_storage_spec.result c.in-Some.spec.now rest c.each.left.now (c.is_storage_spec.ensures (specs_from rest)) c.in-Some.ensures.cases.0
    ∙ c.each.invariant

pub returns : goal.returns
returns c =
    let none : c.each.left.now ≡ [] = grind (arith, common_steps, c.in_default.ensures.cases) in
    none_stored c.args.word ∙ ap (λ specs. has_storage c.args.word (specs_from specs)) (sym none) ∙ c.each.invariant
