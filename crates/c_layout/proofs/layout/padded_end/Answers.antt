use Rattle.std.proofs.Common.{◌≡◌, ◌∙◌, arith}
use Rattle.c_layout.specs.Kept.{kept}
use Rattle.c_layout.specs.Layout.{padded}
use Rattle.c_layout.proofs.Keeping.{kept-padded}
use Rattle.c_layout.proofs.layout.padded_end.Goals as goal

pub returns-clause-value : goal.returns-clause-value
returns-clause-value c at e =
    let from : c.min-end.result ≡ kept at = omega arith in
    let whole : c.min.result ≡ kept (padded c.min-end.result c.args.align) = omega (arith, c.padding.ensures) in
    whole ∙ kept-padded c.min-end.result at c.args.align from
