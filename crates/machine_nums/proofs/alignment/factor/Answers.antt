use Rattle.std.proofs.Common.{◌≡◌, ℤ, sym, ◌∙◌, ap, subst, rules, FitsSigned, Some}
use Rattle.std.proofs.lemmas.Int.{to_z-of_z}
use mir.Syntax.{w128}
use Rattle.num_api.specs.Residues.{IsMultiple}
use Rattle.machine_nums.specs.MExprs.{MExprTree, Const, mexpr_tree}
use Rattle.machine_nums.specs.Machine.{machine_value}
use Rattle.machine_nums.proofs.Trees.{mexpr_const}
use Rattle.machine_nums.proofs.Alignments.{by_one, const_multiple, const_same}
use Rattle.machine_nums.proofs.alignment.factor.Goals as goal

pub returns-in-Const-clause-divides : goal.returns-in-Const-clause-divides
returns-in-Const-clause-divides c = λ v n q.
    let tree : mexpr_tree c.args.e.now ≡ Const c.in-Const.field-0 c.in-Const.n = ap mexpr_tree c.in-Const.is ∙ mexpr_const c.in-Const.field-0 c.in-Const.n in
    let fits : FitsSigned w128 c.alignment.result = search rules in
    let own : FitsSigned w128 c.in-Const.n = search rules in
    let same = to_z-of_z w128 c.alignment.result fits in
    subst (λ (x : ℤ). IsMultiple x n) (sym same)
    (const_multiple v c.in-Const.field-0 c.in-Const.n c.alignment.result n c.alignment.ensures.one
    (subst (IsMultiple c.alignment.result) (to_z-of_z w128 c.in-Const.n own) c.alignment.ensures.divides)
    (subst (λ (e : MExprTree). machine_value v e ≡ Some n) tree q))

pub returns-in-Const-clause-constant : goal.returns-in-Const-clause-constant
returns-in-Const-clause-constant c = λ t n d q one h.
    let tree : mexpr_tree c.args.e.now ≡ Const c.in-Const.field-0 c.in-Const.n = ap mexpr_tree c.in-Const.is ∙ mexpr_const c.in-Const.field-0 c.in-Const.n in
    let fits : FitsSigned w128 c.alignment.result = search rules in
    let own : FitsSigned w128 c.in-Const.n = search rules in
    let is = const_same c.in-Const.field-0 t c.in-Const.n n (sym tree ∙ q) in
    subst (IsMultiple d) (sym (to_z-of_z w128 c.alignment.result fits))
    (c.alignment.ensures.greatest d one (subst (IsMultiple d) (sym (to_z-of_z w128 c.in-Const.n own ∙ is)) h))

pub returns-in-Read-clause-divides : goal.returns-in-Read-clause-divides
returns-in-Read-clause-divides c = λ v n q. by_one n

pub returns-in-Convert-clause-divides : goal.returns-in-Convert-clause-divides
returns-in-Convert-clause-divides c = λ v n q. by_one n

pub returns-in-Unary-clause-divides : goal.returns-in-Unary-clause-divides
returns-in-Unary-clause-divides c = λ v n q. by_one n

pub returns-in-Binary-clause-divides : goal.returns-in-Binary-clause-divides
returns-in-Binary-clause-divides c = λ v n q. by_one n
