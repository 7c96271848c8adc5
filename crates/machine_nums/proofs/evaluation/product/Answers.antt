use Rattle.std.proofs.Common.{◌*ℤ◌, ℤ, Option, subst}
use Rattle.std.specs.Prelude.{IfSome, IfNone}
use Rattle.std.specs.Int.RustNames.{FitsSigned}
use Rattle.std.proofs.lemmas.Result.{IfOk-weaker}
use mir.Syntax.{w128}
use Rattle.num_api.specs.declared.expr.NOp.TheVariants.{Mul}
use Rattle.num_api.specs.Ranges.{InRange}
use Rattle.machine_nums.specs.MExprs.{Binary}
use Rattle.machine_nums.specs.Parts.{IsLike}
use Rattle.machine_nums.specs.declared.parts.Part.{Part}
use Rattle.machine_nums.proofs.Results.{value_wrapped, value_like, fit_product}
use Rattle.machine_nums.proofs.evaluation.product.Goals as goal

pub returns-in-None : goal.returns-in-None
returns-in-None g c =
    let a = c.args.a in let b = c.args.b in
    let none = subst (λ (o : Option Part). IfNone o ((x y : ℤ) → InRange a.range x → InRange b.range y → FitsSigned w128 (x *ℤ y))) c.in-None.is
    c.in_ok-like.ensures.none in
    IfOk-weaker c.wrapped.result _ _ (λ p w d e left right.
    value_wrapped _ _ _ _ (Binary Mul c.args.t d e) c.in_ok-exact.exact p (c.in_ok-exact.ensures d e left right) w
    (λ v n ad f q. fit_product _ _ _ _ c.args.t d e a b left right none v n ad q)) c.wrapped.ensures

pub returns-then-is_bounded : goal.returns-then-is_bounded
returns-then-is_bounded g c =
    let exact = c.in_ok-exact.ensures in
    IfOk-weaker c.wrapped-then-is_bounded.result _ _ (λ p w d e left right.
    value_wrapped _ _ _ _ (Binary Mul c.args.t d e) c.in_ok-exact.exact p (exact d e left right) w
    (λ v n ad f q. c.is_bounded.ensures.fits c.if-is_bounded.true n ((exact d e left right).holds v n ad q).holds)) c.wrapped-then-is_bounded.ensures

pub returns-else-is_bounded : goal.returns-else-is_bounded
returns-else-is_bounded g c =
    let a = c.args.a in let b = c.args.b in
    let like = subst (λ (o : Option Part). IfSome o (IsLike a b)) c.in-Some.is c.in_ok-like.ensures.like in
    IfOk-weaker c.wrapped-else-is_bounded.result _ _ (λ p w d e left right.
    value_like _ _ _ _ c.args.t d e a b c.in_ok-exact.exact c.in-Some.like p left right (c.in_ok-exact.ensures d e left right)
    (c.is_bounded.ensures.not c.if-is_bounded.false) like w) c.wrapped-else-is_bounded.ensures
