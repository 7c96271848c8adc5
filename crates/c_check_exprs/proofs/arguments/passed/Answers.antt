use Rattle.std.proofs.Common.{◌≡◌, ap, sym, ◌∙◌, List, [], ◌∷◌, map, arith}
use Rattle.std.specs.Prelude.{reverse}
use Rattle.std.proofs.lemmas.Grind.{common_steps}
use Rattle.std.proofs.lemmas.List.{reverse-append, reverse-reverse}
use Rattle.std.proofs.lemmas.Option.{IfSome_then}
use Rattle.c_syntax.specs.declared.typed.TExpr.{TExpr}
use Rattle.c_syntax.specs.declared.types.CType.{CType}
use Rattle.c_syntax.specs.Types.{ctype_tree}
use Rattle.c_syntax.specs.TypedExpr.{texpr_tree, texprs_from}
use Rattle.c_syntax.proofs.TypedExprTrees.{texprs_nil, texprs_cons, texprs_push}
use Rattle.c_typing.specs.Nodes.{Passes, passed}
use Rattle.c_check_names.specs.Views.{refusal_of}
use Rattle.c_check_exprs.proofs.Passing.{behind, behind_none, behind_then, behind_passes, behind_fails, passed_more, passed_short, passed_none}
use Rattle.c_check_exprs.proofs.arguments.passed.Goals as goal

pub each-init : goal.each-init
each-init c w same =
    let params = map ctype_tree c.args.params.now in
    let left = reverse c.reverse.new.self.items in
    let turned : left ≡ c.into_vec-left.result.items = ap reverse c.reverse.ensures.items ∙ reverse-reverse c.into_vec-left.result.items in
    sym (ap (λ items. behind (texprs_from items) (passed w c.args.pos params (texprs_from left))) c.new-done.ensures.items
    ∙ ap (λ t. behind t (passed w c.args.pos params (texprs_from left))) texprs_nil ∙ behind_none (passed w c.args.pos params (texprs_from left))
    ∙ ap (λ items. passed w c.args.pos params (texprs_from items)) turned ∙ ap (passed w c.args.pos params) c.into_vec-left.ensures)

pub returns-in-Err : goal.returns-in-Err
returns-in-Err c w same =
    let before = texprs_from c.each.done.items in
    let rest = passed w c.args.pos (map ctype_tree c.in-Some-split_first.rest.now) (texprs_from (reverse c.pop.new.self.items)) in
    let step =
    ap (λ (params : List CType). passed w c.args.pos (map ctype_tree params) (texprs_from (reverse c.each.left.items))) c.in-Some-split_first.ensures.cases.0
    ∙ ap (λ (items : List TExpr). passed w c.args.pos (ctype_tree c.in-Some-split_first.param.now ∷ map ctype_tree c.in-Some-split_first.rest.now)
    (texprs_from items)) (ap reverse c.in-Some.ensures.items ∙ reverse-append c.pop.new.self.items (c.in-Some.arg ∷ []))
    ∙ ap (passed w c.args.pos (ctype_tree c.in-Some-split_first.param.now ∷ map ctype_tree c.in-Some-split_first.rest.now)) (texprs_cons c.in-Some.arg
    (reverse c.pop.new.self.items))
    ∙ passed_more w c.args.pos (ctype_tree c.in-Some-split_first.param.now) (map ctype_tree c.in-Some-split_first.rest.now) (texpr_tree c.in-Some.arg)
    (texprs_from (reverse c.pop.new.self.items)) in
    IfSome_then (refusal_of c.in-Err.error) (c.in-Err.ensures w same) (λ r p. c.each.invariant w same ∙ ap (behind before) (step ∙ p rest)
    ∙ behind_fails before r)

pub each-preserved : goal.each-preserved
each-preserved c w same =
    let before = texprs_from c.each.done.items in
    let value = texpr_tree c.in-Ok.value in
    let rest = passed w c.args.pos (map ctype_tree c.in-Some-split_first.rest.now) (texprs_from (reverse c.pop.new.self.items)) in
    let step =
    ap (λ (params : List CType). passed w c.args.pos (map ctype_tree params) (texprs_from (reverse c.each.left.items))) c.in-Some-split_first.ensures.cases.0
    ∙ ap (λ (items : List TExpr). passed w c.args.pos (ctype_tree c.in-Some-split_first.param.now ∷ map ctype_tree c.in-Some-split_first.rest.now)
    (texprs_from items)) (ap reverse c.in-Some.ensures.items ∙ reverse-append c.pop.new.self.items (c.in-Some.arg ∷ []))
    ∙ ap (passed w c.args.pos (ctype_tree c.in-Some-split_first.param.now ∷ map ctype_tree c.in-Some-split_first.rest.now)) (texprs_cons c.in-Some.arg
    (reverse c.pop.new.self.items))
    ∙ passed_more w c.args.pos (ctype_tree c.in-Some-split_first.param.now) (map ctype_tree c.in-Some-split_first.rest.now) (texpr_tree c.in-Some.arg)
    (texprs_from (reverse c.pop.new.self.items)) in
    c.each.invariant w same ∙ ap (behind before) (step ∙ c.in-Ok.ensures w same rest) ∙ sym (behind_then before value rest)
    ∙ ap (λ t. behind t rest) (sym (texprs_push c.each.done.items c.in-Ok.value) ∙ ap texprs_from (sym c.in_ok-push-in-Some-split_first.ensures.items))

pub returns-in-None : goal.returns-in-None
returns-in-None c w same =
    let before = texprs_from c.each.done.items in
    let none : c.each.wanted.now ≡ [] = grind (arith, common_steps, c.in-None.ensures.cases) in
    c.each.invariant w same
    ∙ ap (behind before) (ap (λ (params : List CType). passed w c.args.pos (map ctype_tree params) (texprs_from (reverse c.each.left.items))) none
    ∙ passed_short w c.args.pos (texprs_from (reverse c.each.left.items)))
    ∙ behind_passes before ∙ ap Passes (sym c.from_vec.ensures)

pub returns : goal.returns
returns c w same =
    let before = texprs_from c.each.done.items in
    let params = map ctype_tree c.each.wanted.now in
    let none : c.each.left.items ≡ [] = grind (arith, common_steps, c.in_default.ensures) in
    c.each.invariant w same
    ∙ ap (behind before) (ap (λ (items : List TExpr). passed w c.args.pos params (texprs_from (reverse items))) none
    ∙ ap (passed w c.args.pos params) texprs_nil ∙ passed_none w c.args.pos params)
    ∙ behind_passes before ∙ ap Passes (sym c.from_vec-2.ensures)
