use Rattle.std.proofs.Common.{◌≡◌, ◌<◌, ◌≤◌, ◌∙◌, sym, subst, ap, arith, length}
use Rattle.std.specs.Prelude.{IfSome}
use Rattle.std.proofs.lemmas.List.{length-map}
use Rattle.c_check_names.proofs.Become.{places_high, if_below}
use Rattle.c_check_names.proofs.table.Table.place_from.Goals as goal

pub returns-clause-small : goal.returns-clause-small
returns-clause-small g c =
    let size : length c.self.inside.index ≡ length c.self.inside.items.items = ap length c.self.invariant ∙ length-map c.self.inside.items.items g.T.Named.name_of in
    let fits : length c.self.inside.index ≤ 18446744073709551615 = omega (arith, size, c.self.inside.items.ok, c.self.inside.items.small) in
    if_below c.first_from.result (length c.self.inside.index) 18446744073709551615 fits
    (subst (λ o. IfSome o (λ p. p < length c.self.inside.index)) (sym c.first_from.ensures) (places_high c.args.from c.args.name.now c.self.inside.index))
