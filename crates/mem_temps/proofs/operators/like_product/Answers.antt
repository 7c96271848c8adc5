use Rattle.std.proofs.Common.{refl, ◌*ℤ◌}
use Rattle.c_syntax_written.specs.declared.int_type.IntType.TheVariants.{LLong}
use Rattle.c_syntax_written.specs.Integer.{wrapped}
use Rattle.num_api.specs.Spans.{corners}
use Rattle.machine_nums.specs.Rule.{type_span}
use Rattle.machine_nums.proofs.Rules.{type_span_fits}
use Rattle.machine_nums.proofs.Wrapped.{like_product_off, point_holds}
use Rattle.machine_nums.proofs.Typed.{wide_products, product_fits}
use Rattle.mem_temps.proofs.operators.like_product.Goals as goal

pub returns-clause-holds : goal.returns-clause-holds
returns-clause-holds c = λ x y i j.
    let a = wrapped LLong x in let b = wrapped LLong y in
    (a *ℤ b, c.typed_range.ensures.holds a b (a *ℤ b) (c.wrap_range.ensures.takes.holds x i) (c.wrap_range-2.ensures.takes.holds y j) refl, like_product_off x y)

pub returns-clause-point : goal.returns-clause-point
returns-clause-point c = λ x y p q.
    let a = wrapped LLong x in let b = wrapped LLong y in let t = type_span LLong in
    let first = c.wrap_range.ensures in let second = c.wrap_range-2.ensures in
    let holds = c.typed_range.ensures.holds a b (a *ℤ b) (first.takes.holds x (point_holds c.args.r x p)) (second.takes.holds y (point_holds c.args.s y q)) refl in
    let under = c.typed_range.ensures.plain t t (corners ◌*ℤ◌ t t) first.takes.inside (type_span_fits LLong) second.takes.inside (type_span_fits LLong) refl
    wide_products in (
      a *ℤ b,
      c.typed_range.ensures.point a b (a *ℤ b) (first.point x p) (second.point y q) refl (product_fits c.typed_range.result (a *ℤ b) under holds),
      like_product_off x y,
    )
