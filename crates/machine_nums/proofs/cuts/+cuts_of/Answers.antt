use Rattle.std.proofs.Common.{◌≡◌, Some, Option, ◌∙◌, ap, sym, subst}
use Rattle.std.proofs.lemmas.Result.{IfOk-weaker}
use Rattle.num_api.specs.declared.expr.NOp.{NOp}
use Rattle.num_api.specs.declared.expr.NOp.TheVariants.{Not}
use Rattle.num_api.specs.Plain.{Standing}
use Rattle.num_api.specs.Ranges.{IsUnder}
use Rattle.num_api.specs.Standings.{standing_of}
use Rattle.machine_nums.specs.MExprs.{MExprTree, Unary, Binary, mexpr_tree}
use Rattle.machine_nums.specs.Machine.{machine_value}
use Rattle.machine_nums.specs.Rule.{cut_sides, tested, side_variable, value_span}
use Rattle.machine_nums.proofs.Trees.{mexpr_unary, mexpr_binary}
use Rattle.machine_nums.proofs.Cutting.{sides_stand, negated, tested_other}
use Rattle.machine_nums.proofs.cuts.+cuts_of.Goals as goal

pub returns-in-Not-clause-holds : goal.returns-in-Not-clause-holds
returns-in-Not-clause-holds g t c =
    let a = mexpr_tree c.deref.result.now in let u = c.in-Unary.field-1 in let truth = c.args.truth in
    let tree : mexpr_tree c.args.e.now ≡ Unary Not u a = ap mexpr_tree c.in-Unary.is ∙ mexpr_unary c.in-Unary.op u c.in-Unary.a
    ∙ ap (λ (op : NOp). Unary op u (mexpr_tree c.in-Unary.a.value)) c.in-Not.is ∙ ap (λ e. Unary Not u (mexpr_tree e)) (sym c.deref.ensures) in
    IfOk-weaker c.cuts_of.result _ _ (λ cuts h v n ad q k.
    let part = negated u a truth v n (subst (λ (e : MExprTree). machine_value v e ≡ Some n) tree q) k in
    h v part.0 ad part.1 part.2) c.cuts_of.ensures.holds

pub returns-in-Not-clause-plain : goal.returns-in-Not-clause-plain
returns-in-Not-clause-plain g t c =
    let a = mexpr_tree c.deref.result.now in let u = c.in-Unary.field-1 in let truth = c.args.truth in
    let tree : mexpr_tree c.args.e.now ≡ Unary Not u a = ap mexpr_tree c.in-Unary.is ∙ mexpr_unary c.in-Unary.op u c.in-Unary.a
    ∙ ap (λ (op : NOp). Unary op u (mexpr_tree c.in-Unary.a.value)) c.in-Not.is ∙ ap (λ e. Unary Not u (mexpr_tree e)) (sym c.deref.ensures) in
    IfOk-weaker c.cuts_of.result _ _
    (λ cuts h given known ex w k m. subst (λ (e : MExprTree). IsUnder known (tested given e truth)) (sym tree) (h given known ex w k m))
    c.cuts_of.ensures.plain

pub returns-in_default-clause-plain : goal.returns-in_default-clause-plain
returns-in_default-clause-plain g t c = λ given known ex w k m.
    let u = c.in-Unary.field-1 in let a = mexpr_tree c.in-Unary.a.value in
    subst (λ (e : MExprTree). IsUnder known (tested given e c.args.truth)) (sym (ap mexpr_tree c.in-Unary.is ∙ mexpr_unary c.in-Unary.op u c.in-Unary.a))
    (subst (IsUnder known) (sym (tested_other given c.in-Unary.op u a c.args.truth c.in_default.not-Not)) k)

pub returns-in-Some-clause-holds : goal.returns-in-Some-clause-holds
returns-in-Some-clause-holds g t c =
    let a = mexpr_tree c.deref-in-Some.result.now in let b = mexpr_tree c.deref-in-Some-2.result.now in let u = c.in-Binary.field-1 in
    let op = c.in-Binary.op in
    let tree : mexpr_tree c.args.e.now ≡ Binary op u a b = ap mexpr_tree c.in-Binary.is ∙ mexpr_binary op u c.in-Binary.a c.in-Binary.b
    ∙ ap (λ e. Binary op u (mexpr_tree e) (mexpr_tree c.in-Binary.b.value)) (sym c.deref-in-Some.ensures) ∙ ap (λ e. Binary op u a (mexpr_tree e))
    (sym c.deref-in-Some-2.ensures) in
    IfOk-weaker c.cut_both.result _ _ (λ cuts h v n ad q k.
    let parts = sides_stand op u a b c.args.truth (standing_of c.in-Some.how) v n c.in-Some.ensures.some
    (subst (λ (e : MExprTree). machine_value v e ≡ Some n) tree q) k in
    h v parts.0 parts.1 ad parts.2 parts.3 parts.4) c.cut_both.ensures.holds

pub returns-in-Some-clause-plain : goal.returns-in-Some-clause-plain
returns-in-Some-clause-plain g t c =
    let a = mexpr_tree c.deref-in-Some.result.now in let b = mexpr_tree c.deref-in-Some-2.result.now in let u = c.in-Binary.field-1 in
    let op = c.in-Binary.op in
    let tree : mexpr_tree c.args.e.now ≡ Binary op u a b = ap mexpr_tree c.in-Binary.is ∙ mexpr_binary op u c.in-Binary.a c.in-Binary.b
    ∙ ap (λ e. Binary op u (mexpr_tree e) (mexpr_tree c.in-Binary.b.value)) (sym c.deref-in-Some.ensures) ∙ ap (λ e. Binary op u a (mexpr_tree e))
    (sym c.deref-in-Some-2.ensures) in
    IfOk-weaker c.cut_both.result _ _ (λ cuts h given known ex w k m.
    subst (λ (e : MExprTree). IsUnder known (tested given e c.args.truth)) (sym tree)
    (subst (λ (how : Option Standing). IsUnder known
    (cut_sides given (side_variable given a) (side_variable given b) how (value_span given a) (value_span given b))) (sym c.in-Some.ensures.some)
    (h given known ex w k m))) c.cut_both.ensures.plain
