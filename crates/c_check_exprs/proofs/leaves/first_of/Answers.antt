use Rattle.std.proofs.Common.{◌≡◌, ap, sym, ◌∙◌, [], arith}
use Rattle.std.proofs.lemmas.Grind.{common_steps}
use Rattle.c_syntax_written.specs.Written.{specs_from}
use Rattle.c_syntax_written.proofs.WrittenTrees.{specs_cons, specs_nil}
use Rattle.c_typing.specs.Typing.{first_of}
use Rattle.c_check_exprs.proofs.leaves.first_of.Goals as goal

pub returns-in-None : goal.returns-in-None
returns-in-None c =
    let none : c.as_slice.result.now ≡ [] = grind (arith, common_steps, c.in-None.ensures.cases) in
    sym (ap (first_of c.args.pos) (sym c.as_slice.ensures ∙ ap specs_from none ∙ specs_nil))

pub returns-in-Some : goal.returns-in-Some
returns-in-Some c =
    c.pos.ensures ∙ sym (ap (first_of c.args.pos) (sym c.as_slice.ensures ∙ ap specs_from c.in-Some.ensures.cases.0 ∙ specs_cons c.in-Some.spec.now _))
