use Rattle.std.proofs.Common.{◌≡◌, ◌*◌, ◌∙◌, arith}
use Rattle.c_layout.specs.Kept.{kept}
use Rattle.c_layout.proofs.Keeping.{kept-mul_same}
use Rattle.c_layout.proofs.layout.product.Goals as goal

pub returns : goal.returns
returns c m n e f =
    let exact : c.min.result ≡ kept (c.args.a * c.args.b) = omega arith in
    exact ∙ kept-mul_same c.args.a c.args.b m n e f
