use Rattle.std.proofs.Common.{rules, subst, sym, ap, ◌≡◌, Bool, neg_ℤ}
use Rattle.ext_int.specs.Valuation.{value_at}
use Rattle.num_api.specs.Exprs.{nexpr_tree}
use Rattle.num_api.specs.Ranges.{InRange}
use Rattle.octagons_linear.specs.Forms.{with_sign, signed_value}
use Rattle.octagons_changes.proofs.assigning.range_of.Goals as goal

pub returns-then-s : goal.returns-then-s
unfolding nexpr_tree
returns-then-s g c = λ v a.
    let r = c.range-r.ensures.holds v (value_at v c.args.s.var) a (search rules) in
    let sign : signed_value v c.args.s ≡ neg_ℤ (value_at v c.args.s.var) = ap (λ (b : Bool). with_sign b (value_at v c.args.s.var)) c.if-s.true in
    subst (InRange _) (sym sign) (record { low = c.neg_low.ensures.bound (value_at v c.args.s.var) r.high; high = c.neg_high.ensures.bound (value_at v c.args.s.var) r.low })

pub returns-else-s : goal.returns-else-s
unfolding nexpr_tree
returns-else-s g c = λ v a.
    let r = c.range-r.ensures.holds v (value_at v c.args.s.var) a (search rules) in
    let sign : signed_value v c.args.s ≡ value_at v c.args.s.var = ap (λ (b : Bool). with_sign b (value_at v c.args.s.var)) c.if-s.false in
    subst (InRange c.range-r.result) (sym sign) r
