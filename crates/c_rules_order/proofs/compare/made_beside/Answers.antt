use Rattle.std.proofs.Common.{◌-◌, length, take, ap, ◌∙◌}
use Rattle.c_syntax.specs.TypedExpr.{texpr_tree}
use Rattle.c_rules_order.proofs.Sidewise.{front_is_made}
use Rattle.c_rules_order.proofs.compare.made_beside.Goals as goal

pub returns : goal.returns
returns c =
    ap (λ xs. take (length xs - c.own_stores.result) xs) c.as_slice-writes.ensures
    ∙ front_is_made c.args.right.now (texpr_tree c.args.value.now) c.own_stores.result c.requires c.own_stores.ensures.count
