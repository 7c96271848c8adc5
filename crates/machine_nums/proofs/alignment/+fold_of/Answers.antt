use Rattle.std.proofs.Common.{◌≡◌, ℤ, inl, sym, ◌∙◌, ap, subst, rules, FitsSigned, Some}
use Rattle.std.proofs.lemmas.Int.{to_z-of_z}
use mir.Syntax.{w128}
use Rattle.num_api.specs.declared.expr.NOp.{NOp}
use Rattle.num_api.specs.declared.expr.NOp.TheVariants.{Add, Mul}
use Rattle.num_api.specs.Residues.{IsMultiple}
use Rattle.machine_nums.specs.MExprs.{MExprTree, Const, Convert, Binary, mexpr_tree}
use Rattle.machine_nums.specs.Machine.{exact_value}
use Rattle.machine_nums.specs.Fold.{IsFold}
use Rattle.machine_nums.proofs.Trees.{mexpr_const, mexpr_read, mexpr_convert, mexpr_unary, mexpr_binary}
use Rattle.machine_nums.proofs.Alignments.{by_one, exact_const, fold_const, fold_read, fold_convert, fold_unary, fold_sum, fold_product, fold_neither, value_multiple, sum_multiple, product_multiple}
use Rattle.num_api.proofs.Multiples.{multiple_trans}
use Rattle.machine_nums.proofs.alignment.+fold_of.Goals as goal

pub returns-in-Const-clause-divides : goal.returns-in-Const-clause-divides
returns-in-Const-clause-divides t c = λ v n q.
    let tree : mexpr_tree c.args.e.now ≡ Const c.in-Const.field-0 c.in-Const.n = ap mexpr_tree c.in-Const.is ∙ mexpr_const c.in-Const.field-0 c.in-Const.n in
    let fits : FitsSigned w128 c.alignment.result = search rules in
    let own : FitsSigned w128 c.in-Const.n = search rules in
    let is = exact_const v c.in-Const.field-0 c.in-Const.n n (subst (λ (e : MExprTree). exact_value v e ≡ Some n) tree q) in
    subst (λ (x : ℤ). IsMultiple x n) (sym (to_z-of_z w128 c.alignment.result fits))
    (subst (IsMultiple c.alignment.result) (to_z-of_z w128 c.in-Const.n own ∙ is) c.alignment.ensures.divides)

pub returns-in-Const-clause-greatest : goal.returns-in-Const-clause-greatest
returns-in-Const-clause-greatest t c = λ d one h.
    let tree : mexpr_tree c.args.e.now ≡ Const c.in-Const.field-0 c.in-Const.n = ap mexpr_tree c.in-Const.is ∙ mexpr_const c.in-Const.field-0 c.in-Const.n in
    let fits : FitsSigned w128 c.alignment.result = search rules in
    let own : FitsSigned w128 c.in-Const.n = search rules in
    subst (IsMultiple d) (sym (to_z-of_z w128 c.alignment.result fits))
    (c.alignment.ensures.greatest d one
    (subst (IsMultiple d) (sym (to_z-of_z w128 c.in-Const.n own)) (fold_const d c.in-Const.field-0 c.in-Const.n (subst (IsFold d) tree h))))

pub returns-in-Read-clause-divides : goal.returns-in-Read-clause-divides
returns-in-Read-clause-divides t c = λ v n q. by_one n

pub returns-in-Read-clause-greatest : goal.returns-in-Read-clause-greatest
returns-in-Read-clause-greatest t c = λ d one h.
    absurd (fold_read d c.in-Read.field-0.0 c.in-Read.field-1
    (subst (IsFold d) (ap mexpr_tree c.in-Read.is ∙ mexpr_read c.in-Read.field-0 c.in-Read.field-1) h))

pub returns-in-Convert-clause-divides : goal.returns-in-Convert-clause-divides
returns-in-Convert-clause-divides t c = λ v n q.
    let part = mexpr_tree c.deref.result.now in
    let tree : mexpr_tree c.args.e.now ≡ Convert c.in-Convert.field-0 part = ap mexpr_tree c.in-Convert.is ∙ mexpr_convert c.in-Convert.field-0 c.in-Convert.a
    ∙ ap (λ e. Convert c.in-Convert.field-0 (mexpr_tree e)) (sym c.deref.ensures) in
    let fits : FitsSigned w128 c.fold_of.result = search rules in
    subst (λ (x : ℤ). IsMultiple x n) (sym (to_z-of_z w128 c.fold_of.result fits))
    (value_multiple v part c.fold_of.result n c.fold_of.ensures.one (c.fold_of.ensures.divides v) (subst (λ (e : MExprTree). exact_value v e ≡ Some n) tree q))

pub returns-in-Convert-clause-greatest : goal.returns-in-Convert-clause-greatest
returns-in-Convert-clause-greatest t c = λ d one h.
    let part = mexpr_tree c.deref.result.now in
    let tree : mexpr_tree c.args.e.now ≡ Convert c.in-Convert.field-0 part = ap mexpr_tree c.in-Convert.is ∙ mexpr_convert c.in-Convert.field-0 c.in-Convert.a
    ∙ ap (λ e. Convert c.in-Convert.field-0 (mexpr_tree e)) (sym c.deref.ensures) in
    let fits : FitsSigned w128 c.fold_of.result = search rules in
    subst (IsMultiple d) (sym (to_z-of_z w128 c.fold_of.result fits))
    (c.fold_of.ensures.greatest d one (fold_convert d c.in-Convert.field-0 part (subst (IsFold d) tree h)))

pub returns-in-Unary-clause-divides : goal.returns-in-Unary-clause-divides
returns-in-Unary-clause-divides t c = λ v n q. by_one n

pub returns-in-Unary-clause-greatest : goal.returns-in-Unary-clause-greatest
returns-in-Unary-clause-greatest t c = λ d one h.
    absurd (fold_unary d c.in-Unary.field-0 c.in-Unary.field-1 (mexpr_tree c.in-Unary.field-2.value)
    (subst (IsFold d) (ap mexpr_tree c.in-Unary.is ∙ mexpr_unary c.in-Unary.field-0 c.in-Unary.field-1 c.in-Unary.field-2) h))

pub returns-in-Add-clause-divides : goal.returns-in-Add-clause-divides
returns-in-Add-clause-divides t c = λ v n q.
    let a = mexpr_tree c.deref-in-Add.result.now in let b = mexpr_tree c.deref-in-Add-2.result.now in let u = c.in-Binary.field-1 in
    let tree : mexpr_tree c.args.e.now ≡ Binary Add u a b = ap mexpr_tree c.in-Binary.is ∙ mexpr_binary c.in-Binary.op u c.in-Binary.a c.in-Binary.b
    ∙ ap (λ (op : NOp). Binary op u (mexpr_tree c.in-Binary.a.value) (mexpr_tree c.in-Binary.b.value)) c.in-Add.is
    ∙ ap (λ e. Binary Add u (mexpr_tree e) (mexpr_tree c.in-Binary.b.value)) (sym c.deref-in-Add.ensures) ∙ ap (λ e. Binary Add u a (mexpr_tree e))
    (sym c.deref-in-Add-2.ensures) in
    let x = c.fold_of-in-Add.result in let y = c.fold_of-in-Add-2.result in let z = c.lesser.result in
    let fx : FitsSigned w128 x = search rules in let fy : FitsSigned w128 y = search rules in let fz : FitsSigned w128 z = search rules in
    let first = subst (IsMultiple z) (to_z-of_z w128 x fx) c.lesser.ensures.divides_first in
    let second = subst (IsMultiple z) (to_z-of_z w128 y fy) c.lesser.ensures.divides_second in
    subst (λ (k : ℤ). IsMultiple k n) (sym (to_z-of_z w128 z fz))
    (sum_multiple v u a b z n
    (λ m r. multiple_trans z x m first (value_multiple v a x m c.fold_of-in-Add.ensures.one (c.fold_of-in-Add.ensures.divides v) r))
    (λ m r. multiple_trans z y m second (value_multiple v b y m c.fold_of-in-Add-2.ensures.one (c.fold_of-in-Add-2.ensures.divides v) r))
    (subst (λ (e : MExprTree). exact_value v e ≡ Some n) tree q))

pub returns-in-Add-clause-greatest : goal.returns-in-Add-clause-greatest
returns-in-Add-clause-greatest t c = λ d one h.
    let a = mexpr_tree c.deref-in-Add.result.now in let b = mexpr_tree c.deref-in-Add-2.result.now in let u = c.in-Binary.field-1 in
    let tree : mexpr_tree c.args.e.now ≡ Binary Add u a b = ap mexpr_tree c.in-Binary.is ∙ mexpr_binary c.in-Binary.op u c.in-Binary.a c.in-Binary.b
    ∙ ap (λ (op : NOp). Binary op u (mexpr_tree c.in-Binary.a.value) (mexpr_tree c.in-Binary.b.value)) c.in-Add.is
    ∙ ap (λ e. Binary Add u (mexpr_tree e) (mexpr_tree c.in-Binary.b.value)) (sym c.deref-in-Add.ensures) ∙ ap (λ e. Binary Add u a (mexpr_tree e))
    (sym c.deref-in-Add-2.ensures) in
    let x = c.fold_of-in-Add.result in let y = c.fold_of-in-Add-2.result in let z = c.lesser.result in
    let fx : FitsSigned w128 x = search rules in let fy : FitsSigned w128 y = search rules in let fz : FitsSigned w128 z = search rules in
    let parts = fold_sum d u a b (subst (IsFold d) tree h) in
    subst (IsMultiple d) (sym (to_z-of_z w128 z fz))
    (c.lesser.ensures.greatest d (subst (IsMultiple d) (sym (to_z-of_z w128 x fx)) (c.fold_of-in-Add.ensures.greatest d one parts.0))
    (subst (IsMultiple d) (sym (to_z-of_z w128 y fy)) (c.fold_of-in-Add-2.ensures.greatest d one parts.1)))

pub returns-in-Mul-clause-divides : goal.returns-in-Mul-clause-divides
returns-in-Mul-clause-divides t c = λ v n q.
    let a = mexpr_tree c.deref-in-Mul.result.now in let b = mexpr_tree c.deref-in-Mul-2.result.now in let u = c.in-Binary.field-1 in
    let tree : mexpr_tree c.args.e.now ≡ Binary Mul u a b = ap mexpr_tree c.in-Binary.is ∙ mexpr_binary c.in-Binary.op u c.in-Binary.a c.in-Binary.b
    ∙ ap (λ (op : NOp). Binary op u (mexpr_tree c.in-Binary.a.value) (mexpr_tree c.in-Binary.b.value)) c.in-Mul.is
    ∙ ap (λ e. Binary Mul u (mexpr_tree e) (mexpr_tree c.in-Binary.b.value)) (sym c.deref-in-Mul.ensures) ∙ ap (λ e. Binary Mul u a (mexpr_tree e))
    (sym c.deref-in-Mul-2.ensures) in
    let x = c.factor.result in let y = c.factor-in-Mul.result in let z = c.greater.result in
    let fx : FitsSigned w128 x = search rules in let fy : FitsSigned w128 y = search rules in let fz : FitsSigned w128 z = search rules in
    let ex = to_z-of_z w128 x fx in let ey = to_z-of_z w128 y fy in
    subst (λ (k : ℤ). IsMultiple k n) (sym (to_z-of_z w128 z fz))
    (product_multiple v u a b z x y n
    (λ k m i j. c.greater.ensures.divides k m (subst (λ (s : ℤ). IsMultiple s k) (sym ex) i) (subst (λ (s : ℤ). IsMultiple s m) (sym ey) j))
    (c.factor.ensures.divides v) (c.factor-in-Mul.ensures.divides v)
    (subst (λ (e : MExprTree). exact_value v e ≡ Some n) tree q))

pub returns-in-Mul-clause-greatest : goal.returns-in-Mul-clause-greatest
returns-in-Mul-clause-greatest t c = λ d one h.
    let a = mexpr_tree c.deref-in-Mul.result.now in let b = mexpr_tree c.deref-in-Mul-2.result.now in let u = c.in-Binary.field-1 in
    let tree : mexpr_tree c.args.e.now ≡ Binary Mul u a b = ap mexpr_tree c.in-Binary.is ∙ mexpr_binary c.in-Binary.op u c.in-Binary.a c.in-Binary.b
    ∙ ap (λ (op : NOp). Binary op u (mexpr_tree c.in-Binary.a.value) (mexpr_tree c.in-Binary.b.value)) c.in-Mul.is
    ∙ ap (λ e. Binary Mul u (mexpr_tree e) (mexpr_tree c.in-Binary.b.value)) (sym c.deref-in-Mul.ensures) ∙ ap (λ e. Binary Mul u a (mexpr_tree e))
    (sym c.deref-in-Mul-2.ensures) in
    let x = c.factor.result in let y = c.factor-in-Mul.result in let z = c.greater.result in
    let fx : FitsSigned w128 x = search rules in let fy : FitsSigned w128 y = search rules in let fz : FitsSigned w128 z = search rules in
    let first = subst (λ (k : ℤ). IsMultiple k z) (to_z-of_z w128 x fx) c.greater.ensures.first in
    let second = subst (λ (k : ℤ). IsMultiple k z) (to_z-of_z w128 y fy) c.greater.ensures.second in
    subst (IsMultiple d) (sym (to_z-of_z w128 z fz))
    (fold_product d u a b (IsMultiple d z) (subst (IsFold d) tree h)
    (λ s n e m. multiple_trans d x z (c.factor.ensures.constant s n d e one m) first)
    (λ s n e m. multiple_trans d y z (c.factor-in-Mul.ensures.constant s n d e one m) second))

pub returns-in_default : goal.returns-in_default
returns-in_default t c =
    let op = c.in-Binary.op in let u = c.in-Binary.field-1 in
    let tree = ap mexpr_tree c.in-Binary.is ∙ mexpr_binary op u c.in-Binary.a c.in-Binary.b in
    record {
      one = inl (search rules);
      divides = λ v n q. by_one n;
      greatest = λ d one h. absurd (fold_neither d op u _ _ c.in_default.not-Add c.in_default.not-Mul (subst (IsFold d) tree h));
    }
