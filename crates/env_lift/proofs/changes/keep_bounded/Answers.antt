use Rattle.std.proofs.Common.{rules, ◌≡◌, ℤ, List, ◌+ℤ◌, ◌-ℤ◌, ◌*ℤ◌, ◌≤ℤ◌, Some, refl, subst}
use Rattle.std.proofs.lemmas.Int.{to_z-of_z}
use mir.Syntax.{w8}
use Rattle.ext_int.specs.Ext.{Above}
use Rattle.ext_int.specs.Valuation.{value_at}
use Rattle.num_api.specs.Ranges.{InRange}
use Rattle.env_lift.specs.Entries.{value_in}
use Rattle.num_api.proofs.Parts.{in_point}
use Rattle.env_lift.proofs.Changing.{ok_map, cut_weaker}
use Rattle.env_lift.proofs.Inverting.{below_rest}
use Rattle.env_lift.proofs.changes.keep_bounded.Goals as goal

pub returns : goal.returns
returns g c =
    let D = g.V.ValueDomain in let state = c.args.state.now in let sx = c.args.sx in let sy = c.args.sy in let bound = c.args.bound in
    let P = λ (v : List ℤ). ((sx *ℤ value_at v c.args.x.0) +ℤ (sy *ℤ value_at v c.args.y.0)) ≤ℤ bound in
    let found : value_in state c.args.y.0 ≡ Some c.in-Some-get.other = search rules in
    let most = c.in-Some.ensures.some bound (search (rules, in_point)) in
    ok_map _ _ c.keep_between.result c.keep_between.ensures.cut
    (λ answer cut. cut_weaker D.admits D.known D.exact state c.keep_between.new.state (λ v. InRange c.up_to.result (value_at v c.args.x.0)) P answer cut
    (λ v p q.
    let m = bound -ℤ (sy *ℤ value_at v c.args.y.0) in
    let other = subst (λ (s : ℤ). D.admits c.signed.result (s *ℤ value_at v c.args.y.0)) (to_z-of_z w8 sy c.ranges.sy) (c.signed.ensures (value_at v c.args.y.0) (p c.args.y.0 c.in-Some-get.other found)) in
    let limit = c.range.ensures.holds m (c.binary-limit.ensures.holds bound (sy *ℤ value_at v c.args.y.0) m most other refl) in
    let up = subst (λ (s : ℤ). (n k : ℤ) → Above c.range.result.hi k → (s *ℤ n) ≤ℤ k → InRange c.up_to.result n) (to_z-of_z w8 sx c.ranges.sx) c.up_to.ensures in
    up (value_at v c.args.x.0) m limit.high (below_rest (sx *ℤ value_at v c.args.x.0) (sy *ℤ value_at v c.args.y.0) bound q)))
