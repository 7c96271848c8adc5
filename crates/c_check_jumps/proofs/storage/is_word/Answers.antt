use Rattle.std.proofs.Common.{◌≡◌, [], ap, sym, ◌∙◌, arith}
use Rattle.std.proofs.lemmas.Grind.{common_steps}
use Rattle.c_typing.specs.Decls.{is_word}
use Rattle.c_check_jumps.proofs.Words.{is_first, is_later}
use Rattle.c_check_jumps.proofs.storage.is_word.Goals as goal

pub returns-then-is_storage : goal.returns-then-is_storage
returns-then-is_storage c =
    is_first c.args.word c.in-Some.other.now c.in-Some.rest.now c.each.left.now (sym c.is_storage.ensures ∙ c.if-is_storage.true) c.in-Some.ensures.cases.0
    ∙ c.each.invariant

pub each-preserved : goal.each-preserved
each-preserved c =
    is_later c.args.word c.in-Some.other.now c.in-Some.rest.now c.each.left.now (sym c.is_storage.ensures ∙ c.if-is_storage.false) c.in-Some.ensures.cases.0
    ∙ c.each.invariant

pub returns : goal.returns
returns c =
    let none : c.each.left.now ≡ [] = grind (arith, common_steps, c.in_default.ensures.cases) in
    ap (is_word c.args.word) (sym none) ∙ c.each.invariant
