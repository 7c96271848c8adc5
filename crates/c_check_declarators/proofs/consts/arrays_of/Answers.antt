use Rattle.std.proofs.Common.{◌≡◌, ap, sym, ◌∙◌, false, [], arith}
use Rattle.std.proofs.lemmas.Grind.{common_steps}
use Rattle.c_syntax.specs.declared.types.Target.{Target}
use Rattle.c_syntax.specs.Types.{ctype_tree, Array}
use Rattle.c_syntax.proofs.TypeTrees.{ctype_array}
use Rattle.c_check_declarators.specs.Arrays.{arrays_of}
use Rattle.c_check_declarators.proofs.Arrays.{arrays_none, arrays_push}
use Rattle.c_check_declarators.proofs.consts.arrays_of.Goals as goal

pub outward-preserved : goal.outward-preserved
outward-preserved c =
    ap (λ ty. arrays_of c.pop.new.self.items ty false)
    (ctype_array c.in_ok-new.field-0 c.in-Some.n ∙ ap (λ (v : Target). Array (ctype_tree v.ty) v.is_const c.in-Some.n) c.in_ok-new.ensures.ok)
    ∙ sym (arrays_push c.pop.new.self.items c.in-Some.n (ctype_tree c.outward.ty) c.outward.is_const)
    ∙ ap (λ counts. arrays_of counts (ctype_tree c.outward.ty) c.outward.is_const) (sym c.in-Some.ensures.items) ∙ c.outward.invariant

pub returns : goal.returns
returns c =
    let none : c.outward.counts.items ≡ [] = grind (arith, common_steps, c.in_default.ensures) in
    sym (ap (λ counts. arrays_of counts (ctype_tree c.outward.ty) c.outward.is_const) none ∙ arrays_none (ctype_tree c.outward.ty) c.outward.is_const) ∙ c.outward.invariant
