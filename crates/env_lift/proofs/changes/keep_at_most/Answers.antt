use Rattle.std.proofs.Common.{ℤ, ◌+ℤ◌, ◌*ℤ◌, ◌≤ℤ◌}
use Rattle.std.proofs.lemmas.Int.{to_z-of_z}
use mir.Syntax.{w8, w128}
use Rattle.ext_int.specs.Valuation.{value_at}
use Rattle.env_lift.proofs.Changing.{ok_map, cut_twice}
use Rattle.env_lift.proofs.Inverting.{other_way, along_three}
use Rattle.env_lift.proofs.changes.keep_at_most.Goals as goal

pub returns : goal.returns
returns g c =
    let D = g.V.ValueDomain in let sx = c.args.sx in let sy = c.args.sy in let bound = c.args.bound in let x = c.args.x.0 in let y = c.args.y.0 in
    let p = to_z-of_z w8 sx c.ranges.sx in let q = to_z-of_z w8 sy c.ranges.sy in let r = to_z-of_z w128 bound c.ranges.bound in
    ok_map _ _ c.keep_bounded-2.result c.keep_bounded-2.ensures
    (λ answer second. cut_twice D.admits D.known D.exact c.args.state.now c.keep_bounded.new.state c.keep_bounded-2.new.state _ _ (λ v. ((sx *ℤ value_at v x) +ℤ (sy *ℤ value_at v y)) ≤ℤ bound)
    c.in_ok-keep_bounded.field-0 answer c.in_ok-keep_bounded.ensures second
    (λ v h k. (
      along_three (λ (a b n : ℤ). ((a *ℤ value_at v x) +ℤ (b *ℤ value_at v y)) ≤ℤ n) sx sy bound _ _ _ p q r k,
      along_three (λ (a b n : ℤ). ((b *ℤ value_at v y) +ℤ (a *ℤ value_at v x)) ≤ℤ n) sx sy bound _ _ _ p q r (other_way (sx *ℤ value_at v x) (sy *ℤ value_at v y) bound k),
    )))
