use Rattle.std.proofs.Common.{◌≡◌, sym, subst, ◌∙◌}
use Rattle.std.specs.Prelude.{IfSome, slice_get}
use Rattle.c_check_names.proofs.Found.{set_named}
use Rattle.c_check_names.proofs.table.Table.replace.Goals as goal

pub invariant_of-self : goal.invariant_of-self
invariant_of-self g c =
    let name_of = g.T.Named.name_of in
    c.self.invariant ∙ set_named name_of c.self.inside.items.items c.args.place c.args.item
    (subst (λ items. IfSome (slice_get items c.args.place) (λ old. name_of c.args.item ≡ name_of old)) (sym c.self.view_is) c.requires.same_name)
