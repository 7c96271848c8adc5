use Rattle.std.proofs.Common.{◌≡◌, sym, subst, ap, ◌∙◌, Option}
use Rattle.std.specs.Prelude.{not}
use Rattle.num_api.specs.declared.expr.NOp.{NOp}
use Rattle.num_api.specs.declared.expr.NOp.TheVariants.{Not}
use Rattle.num_api.specs.Exprs.{NExprTree, nexpr_tree, Const, Read, Unary, Binary}
use Rattle.num_api.specs.Ranges.{IsUnder}
use Rattle.num_api.specs.Plain.{Standing, IsPlain, plain, cut_sides, tested}
use Rattle.num_api.proofs.Trees.{nexpr_const, nexpr_read, nexpr_unary, nexpr_binary}
use Rattle.env_lift.specs.States.{known_in}
use Rattle.num_api.proofs.Parts.{wider}
use Rattle.num_api.specs.Standings.{standing_of}
use Rattle.env_lift.specs.Changes.{HasTruth, Compare}
use Rattle.env_lift.proofs.Changing.{ok_map, cut_weaker}
use Rattle.env_lift.proofs.Cutting.{negated, sides_stand, tested_other}
use Rattle.env_lift.proofs.cuts.+keep_truth.Goals as goal

pub returns-in-Not-clause-cut : goal.returns-in-Not-clause-cut
returns-in-Not-clause-cut g t c =
    let D = g.V.ValueDomain in let part = nexpr_tree c.deref.result.now in
    let tree : nexpr_tree c.args.e.now ≡ Unary Not part = ap nexpr_tree c.in-Unary.is ∙ nexpr_unary c.in-Unary.op c.in-Unary.a
    ∙ ap (λ (op : NOp). Unary op (nexpr_tree c.in-Unary.a.value)) c.in-Not.is ∙ ap (λ e. Unary Not (nexpr_tree e)) (sym c.deref.ensures) in
    ok_map _ _ c.keep_truth.result c.keep_truth.ensures.cut
    (λ answer cut. cut_weaker D.admits D.known D.exact c.args.state.now c.keep_truth.new.state (HasTruth part (not c.args.truth)) (HasTruth (nexpr_tree c.args.e.now) c.args.truth) answer cut
    (λ v p q. negated part c.args.truth v (subst (λ (e : NExprTree). HasTruth e c.args.truth v) tree q)))

pub returns-in-Some-clause-cut : goal.returns-in-Some-clause-cut
returns-in-Some-clause-cut g t c =
    let D = g.V.ValueDomain in let op = c.in-Binary.op in let a = nexpr_tree c.deref-in-Some.result.now in let b = nexpr_tree c.deref-in-Some-2.result.now in
    let tree : nexpr_tree c.args.e.now ≡ Binary op a b = ap nexpr_tree c.in-Binary.is ∙ nexpr_binary op c.in-Binary.a c.in-Binary.b
    ∙ ap (λ e. Binary op (nexpr_tree e) (nexpr_tree c.in-Binary.b.value)) (sym c.deref-in-Some.ensures) ∙ ap (λ e. Binary op a (nexpr_tree e)) (sym c.deref-in-Some-2.ensures) in
    ok_map _ _ c.keep_compared.result c.keep_compared.ensures.cut
    (λ answer cut. cut_weaker D.admits D.known D.exact c.args.state.now c.keep_compared.new.state (Compare a b (standing_of c.in-Some.how)) (HasTruth (nexpr_tree c.args.e.now) c.args.truth) answer cut
    (λ v p q. sides_stand op a b c.args.truth (standing_of c.in-Some.how) v c.in-Some.ensures.some (subst (λ (e : NExprTree). HasTruth e c.args.truth v) tree q)))

pub returns-in-Some-clause-plain : goal.returns-in-Some-clause-plain
returns-in-Some-clause-plain g t c =
    let D = g.V.ValueDomain in let op = c.in-Binary.op in let a = nexpr_tree c.deref-in-Some.result.now in let b = nexpr_tree c.deref-in-Some-2.result.now in
    let tree : nexpr_tree c.args.e.now ≡ Binary op a b = ap nexpr_tree c.in-Binary.is ∙ nexpr_binary op c.in-Binary.a c.in-Binary.b
    ∙ ap (λ e. Binary op (nexpr_tree e) (nexpr_tree c.in-Binary.b.value)) (sym c.deref-in-Some.ensures) ∙ ap (λ e. Binary op a (nexpr_tree e)) (sym c.deref-in-Some-2.ensures) in
    let M = known_in D.known c.keep_compared.new.state in
    ok_map _ _ c.keep_compared.result c.keep_compared.ensures.plain
    (λ answer under given x u p is.
    let parts = subst (IsPlain given) tree p in
    subst (λ (e : NExprTree). IsUnder M (tested given e c.args.truth)) (sym tree)
    (subst (λ (how : Option Standing). IsUnder M (cut_sides given a b how (plain given a) (plain given b))) (sym c.in-Some.ensures.some) (under given x u parts.1 parts.2 is)))

pub returns-in-Const-clause-plain : goal.returns-in-Const-clause-plain
returns-in-Const-clause-plain g t c =
    let D = g.V.ValueDomain in let K = known_in D.known c.args.state.now in let M = known_in D.known c.keep_any.new.state in
    let tree : nexpr_tree c.args.e.now ≡ Const c.in-Const.field-0 = ap nexpr_tree c.in-Const.is ∙ nexpr_const c.in-Const.field-0 in
    ok_map _ _ c.keep_any.result c.keep_any.ensures
    (λ answer cut given x u p is. subst (λ (e : NExprTree). IsUnder M (tested given e c.args.truth)) (sym tree) (λ y. wider (M y) (K y) (given y) (cut.narrows x y) (u y)))

pub returns-in-Read-clause-plain : goal.returns-in-Read-clause-plain
returns-in-Read-clause-plain g t c =
    let D = g.V.ValueDomain in let K = known_in D.known c.args.state.now in let M = known_in D.known c.keep_any-in-Read.new.state in
    let tree : nexpr_tree c.args.e.now ≡ Read c.in-Read.field-0.0 = ap nexpr_tree c.in-Read.is ∙ nexpr_read c.in-Read.field-0 in
    ok_map _ _ c.keep_any-in-Read.result c.keep_any-in-Read.ensures
    (λ answer cut given x u p is. subst (λ (e : NExprTree). IsUnder M (tested given e c.args.truth)) (sym tree) (λ y. wider (M y) (K y) (given y) (cut.narrows x y) (u y)))

pub returns-in_default-clause-plain : goal.returns-in_default-clause-plain
returns-in_default-clause-plain g t c =
    let D = g.V.ValueDomain in let K = known_in D.known c.args.state.now in let M = known_in D.known c.keep_any-in_default.new.state in
    let op = c.in-Unary.op in let part = nexpr_tree c.in-Unary.a.value in
    let tree : nexpr_tree c.args.e.now ≡ Unary op part = ap nexpr_tree c.in-Unary.is ∙ nexpr_unary op c.in-Unary.a in
    ok_map _ _ c.keep_any-in_default.result c.keep_any-in_default.ensures
    (λ answer cut given x u p is. subst (λ (e : NExprTree). IsUnder M (tested given e c.args.truth)) (sym tree)
    (subst (IsUnder M) (sym (tested_other given op part c.args.truth c.in_default.not-Not)) (λ y. wider (M y) (K y) (given y) (cut.narrows x y) (u y))))

pub returns-in-None-clause-plain : goal.returns-in-None-clause-plain
returns-in-None-clause-plain g t c =
    let D = g.V.ValueDomain in let K = known_in D.known c.args.state.now in let M = known_in D.known c.keep_any-in-None.new.state in
    let op = c.in-Binary.op in let a = nexpr_tree c.in-Binary.a.value in let b = nexpr_tree c.in-Binary.b.value in
    let tree : nexpr_tree c.args.e.now ≡ Binary op a b = ap nexpr_tree c.in-Binary.is ∙ nexpr_binary op c.in-Binary.a c.in-Binary.b in
    ok_map _ _ c.keep_any-in-None.result c.keep_any-in-None.ensures
    (λ answer cut given x u p is. subst (λ (e : NExprTree). IsUnder M (tested given e c.args.truth)) (sym tree)
    (subst (λ (how : Option Standing). IsUnder M (cut_sides given a b how (plain given a) (plain given b))) (sym c.in-None.ensures.none) (λ y. wider (M y) (K y) (given y) (cut.narrows x y) (u y))))
