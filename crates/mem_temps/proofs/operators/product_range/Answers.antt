use Rattle.mem_temps.proofs.Results.{kept_product, like_product}
use Rattle.mem_temps.proofs.operators.product_range.Goals as goal

pub returns-then-lies_in : goal.returns-then-lies_in
returns-then-lies_in c =
    kept_product c.args.t c.args.r c.args.s c.typed_range-exact.result
    (c.typed_range-exact.ensures.holds, c.typed_range-exact.ensures.point, c.typed_range-exact.ensures.plain) (c.lies_in.ensures.0 c.if-lies_in.true)

pub returns : goal.returns
returns c =
    like_product c.args.t c.args.r c.args.s c.typed_range-exact.result
    (c.typed_range-exact.ensures.holds, c.typed_range-exact.ensures.point, c.typed_range-exact.ensures.plain)
    c.like_product.result c.wrap_range.result.range c.wrap_range.result.way (λ h. let yes = c.lies_in.ensures.1 h in let no = c.if-lies_in.false in absurd (cc))
    c.like_product.ensures.holds c.like_product.ensures.point c.wrap_range.ensures
