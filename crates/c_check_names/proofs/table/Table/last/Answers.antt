use Rattle.std.proofs.Common.{◌≡◌, sym, ap, ◌∙◌, ◌-◌, arith, map}
use Rattle.std.specs.Prelude.{slice_get}
use Rattle.std.specs.Option.{option_copied}
use Rattle.c_check_names.specs.Places.{last_place}
use Rattle.c_check_names.proofs.Places.{at_place, got, last_found}
use Rattle.c_check_names.proofs.table.Table.last.Goals as goal

pub returns-in_err-place : goal.returns-in_err-place
returns-in_err-place g c =
    let name_of = g.T.Named.name_of in
    let nowhere = c.in_err-place.ensures ∙ ap (last_place c.args.name.now) (c.self.invariant ∙ ap (map name_of) c.self.view_is) in
    ap option_copied c.from_residual.ensures ∙ ap (at_place 0 c.args.self.now) nowhere ∙ sym (last_found name_of c.args.name.now c.args.self.now)

pub returns : goal.returns
returns g c =
    let name_of = g.T.Named.name_of in
    let place = c.in_ok-place.place in
    let there = c.in_ok-place.ensures ∙ ap (last_place c.args.name.now) (c.self.invariant ∙ ap (map name_of) c.self.view_is) in
    let from_start : place ≡ place - 0 = omega arith in
    got c.deref.result.now place c.get.result c.get.ensures.lookup.3 ∙ ap (λ items. slice_get items place) (c.deref.ensures.value ∙ c.self.view_is)
    ∙ ap (slice_get c.args.self.now) from_start ∙ ap (at_place 0 c.args.self.now) there ∙ sym (last_found name_of c.args.name.now c.args.self.now)
