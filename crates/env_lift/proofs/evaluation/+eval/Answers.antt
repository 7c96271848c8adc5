use Rattle.std.proofs.Common.{rules, ◌≡◌, ℤ, pos, IsTrue, sym, subst, ap, ◌∙◌}
use Rattle.num_api.specs.declared.message.Range.{Range}
use Rattle.num_api.specs.Exprs.{NExprTree, nexpr_tree, Const, Read, Unary, Binary}
use Rattle.num_api.specs.Ranges.{InRange, IsPoint, NoWider}
use Rattle.num_api.specs.Spans.{point, range_of}
use Rattle.num_api.specs.Residues.{class_of}
use Rattle.num_api.proofs.Trees.{nexpr_const, nexpr_read, nexpr_unary, nexpr_binary}
use Rattle.std.specs.Int.RustNames.{FitsSigned}
use Rattle.std.proofs.lemmas.Int.{to_z-of_z}
use mir.Syntax.{w128}
use Rattle.env_lift.specs.Evaluation.{IsValue, IsNoValue}
use Rattle.num_api.proofs.Parts.{some_of_three, none_of}
use Rattle.env_lift.proofs.Values.{const_value, const_none, read_value, one_value, two_value, zero_none}
use Rattle.env_lift.proofs.evaluation.+eval.Goals as goal

pub returns-in-Const-clause-some : goal.returns-in-Const-clause-some
returns-in-Const-clause-some g t c =
    let A = g.V.ValueDomain.admits in let K = g.V.ValueDomain.known in let C = g.V.ValueDomain.class in let x = g.V.ValueDomain.exact in let f = g.V.ValueDomain.folds in
    let r = c.point.result in
    let tree : Const c.in-Const.n ≡ nexpr_tree c.args.e.now = sym (ap nexpr_tree c.in-Const.is ∙ nexpr_const c.in-Const.n) in
    let fits : FitsSigned w128 c.in-Const.n = search rules in
    let is : r ≡ range_of (point c.in-Const.n) = subst (λ (n : ℤ). r ≡ range_of (point n)) (to_z-of_z w128 c.in-Const.n fits) c.point.ensures in
    some_of_three (λ v. (n : ℤ) → InRange r n → A v n) (λ v. IsTrue x → NoWider (K v) r) (λ v. (n : ℤ) → IsTrue f → IsPoint r n → C v ≡ class_of n (pos 0))
    (IsValue A K C x f c.args.state.now (nexpr_tree c.args.e.now)) c.within.result c.within.ensures.some c.within.ensures.plain c.within.ensures.fold
    (λ v some plain fold. subst (λ (e : NExprTree). IsValue A K C x f c.args.state.now e v) tree
    (const_value A K C x f g.V.ValueDomain.known_some c.args.state.now c.in-Const.n v
    (subst (λ (s : Range). (n : ℤ) → InRange s n → A v n) is some) (subst (λ (s : Range). IsTrue x → NoWider (K v) s) is plain) (subst (λ (s : Range). (n : ℤ) → IsTrue f → IsPoint s n → C v ≡ class_of n (pos 0)) is fold)))

pub returns-in-Const-clause-none : goal.returns-in-Const-clause-none
returns-in-Const-clause-none g t c =
    let A = g.V.ValueDomain.admits in let K = g.V.ValueDomain.known in let C = g.V.ValueDomain.class in let x = g.V.ValueDomain.exact in let f = g.V.ValueDomain.folds in
    let r = c.point.result in
    let tree : Const c.in-Const.n ≡ nexpr_tree c.args.e.now = sym (ap nexpr_tree c.in-Const.is ∙ nexpr_const c.in-Const.n) in
    let fits : FitsSigned w128 c.in-Const.n = search rules in
    let is : r ≡ range_of (point c.in-Const.n) = subst (λ (n : ℤ). r ≡ range_of (point n)) (to_z-of_z w128 c.in-Const.n fits) c.point.ensures in
    none_of ((n : ℤ) → InRange r n → ⊥) (IsNoValue A K x c.args.state.now (nexpr_tree c.args.e.now)) c.within.result c.within.ensures.none
    (λ none. subst (IsNoValue A K x c.args.state.now) tree (const_none A K C x f g.V.ValueDomain.known_some c.args.state.now c.in-Const.n (subst (λ (s : Range). (n : ℤ) → InRange s n → ⊥) is none)))

pub returns-in-Read-clause-some : goal.returns-in-Read-clause-some
returns-in-Read-clause-some g t c =
    let A = g.V.ValueDomain.admits in let K = g.V.ValueDomain.known in let C = g.V.ValueDomain.class in let x = g.V.ValueDomain.exact in let f = g.V.ValueDomain.folds in
    let tree : Read c.in-Read.x.0 ≡ nexpr_tree c.args.e.now = sym (ap nexpr_tree c.in-Read.is ∙ nexpr_read c.in-Read.x) in
    subst (λ (e : NExprTree). IsValue A K C x f c.args.state.now e c.variable.result) tree
    (read_value A K C x f g.V.ValueDomain.known_some c.args.state.now c.in-Read.x.0 c.variable.result c.variable.ensures.holds c.variable.ensures.known c.variable.ensures.zero)

pub returns-in_ok-a-in-Unary-clause-some : goal.returns-in_ok-a-in-Unary-clause-some
returns-in_ok-a-in-Unary-clause-some g t c =
    let A = g.V.ValueDomain.admits in let K = g.V.ValueDomain.known in let C = g.V.ValueDomain.class in let x = g.V.ValueDomain.exact in let f = g.V.ValueDomain.folds in
    let op = c.in-Unary.op in let part = nexpr_tree c.deref.result.now in
    let tree : Unary op part ≡ nexpr_tree c.args.e.now = sym (ap nexpr_tree c.in-Unary.is ∙ nexpr_unary op c.in-Unary.a ∙ ap (λ e. Unary op (nexpr_tree e)) (sym c.deref.ensures)) in
    subst (λ (e : NExprTree). IsValue A K C x f c.args.state.now e c.unary.result) tree
    (one_value A K C x f g.V.ValueDomain.known_some c.args.state.now op part c.in_ok-a-in-Unary.a c.unary.result c.in_ok-a-in-Unary.ensures.some c.unary.ensures.holds c.unary.ensures.point c.unary.ensures.plain)

pub returns-else-divides_by_zero-clause-some : goal.returns-else-divides_by_zero-clause-some
returns-else-divides_by_zero-clause-some g t c =
    let A = g.V.ValueDomain.admits in let K = g.V.ValueDomain.known in let C = g.V.ValueDomain.class in let x = g.V.ValueDomain.exact in let f = g.V.ValueDomain.folds in
    let op = c.in-Binary.op in let left = nexpr_tree c.deref-in-Binary.result.now in let right = nexpr_tree c.deref-in-Binary-2.result.now in
    let tree : Binary op left right ≡ nexpr_tree c.args.e.now = sym (ap nexpr_tree c.in-Binary.is ∙ nexpr_binary op c.in-Binary.a c.in-Binary.b
    ∙ ap (λ e. Binary op (nexpr_tree e) (nexpr_tree c.in-Binary.b.value)) (sym c.deref-in-Binary.ensures) ∙ ap (λ e. Binary op left (nexpr_tree e)) (sym c.deref-in-Binary-2.ensures)) in
    subst (λ (e : NExprTree). IsValue A K C x f c.args.state.now e c.binary.result) tree
    (two_value A K C x f g.V.ValueDomain.known_some c.args.state.now op left right c.in_ok-a-in-Binary.a c.in_ok-b-in-Binary.b c.binary.result c.in_ok-a-in-Binary.ensures.some c.in_ok-b-in-Binary.ensures.some
    (c.divides_by_zero.ensures.no c.if-divides_by_zero.false) c.binary.ensures.holds c.binary.ensures.point c.binary.ensures.plain c.binary.ensures.fold_sum c.binary.ensures.fold_left c.binary.ensures.fold_right)

pub returns-then-divides_by_zero-clause-none : goal.returns-then-divides_by_zero-clause-none
returns-then-divides_by_zero-clause-none g t c =
    let A = g.V.ValueDomain.admits in let K = g.V.ValueDomain.known in let C = g.V.ValueDomain.class in let x = g.V.ValueDomain.exact in let f = g.V.ValueDomain.folds in
    let op = c.in-Binary.op in let left = nexpr_tree c.deref-in-Binary.result.now in let right = nexpr_tree c.deref-in-Binary-2.result.now in
    let tree : Binary op left right ≡ nexpr_tree c.args.e.now = sym (ap nexpr_tree c.in-Binary.is ∙ nexpr_binary op c.in-Binary.a c.in-Binary.b
    ∙ ap (λ e. Binary op (nexpr_tree e) (nexpr_tree c.in-Binary.b.value)) (sym c.deref-in-Binary.ensures) ∙ ap (λ e. Binary op left (nexpr_tree e)) (sym c.deref-in-Binary-2.ensures)) in
    subst (IsNoValue A K x c.args.state.now) tree
    (zero_none A K C x f g.V.ValueDomain.known_some c.args.state.now g.V.ValueDomain.known_holds op left right c.in_ok-b-in-Binary.b c.in_ok-b-in-Binary.ensures.some (c.divides_by_zero.ensures.yes c.if-divides_by_zero.true))
