use Rattle.std.proofs.Common.{◌≡◌, List, Some, length, ap, sym, subst, arith, rules, true, slice_get}
use Rattle.cell_table.specs.Cells.{Table, Slot, used_at, IsInUse}
use Rattle.cell_table.specs.Kept.{cell_of, slots_of, IsKept}
use Rattle.cell_table.proofs.Slots.{slots_of-set, used-within, length-slots_of, cell_at-slots_of}
use Rattle.cell_table.proofs.Steps.{kept-without}
use Rattle.cell_table.proofs.Cells.retire.Goals as goal

pub unwrap-requires : goal.unwrap-requires
unwrap-requires c = c.get_index.ensures.found.1
    (omega (arith, used-within c.args.self.now.slots c.args.n _ c.requires, ap (λ (t : Table). length t.slots) c.self.view_is, length-slots_of c.self.inside.cells.entries))

pub invariant_of-self : goal.invariant_of-self
invariant_of-self c =
    let entries = c.self.inside.cells.entries in
    let key = c.unwrap.result.0.now in
    let at : slice_get entries c.args.n ≡ Some (key, c.unwrap.result.1.now) = search rules in
    let in_use : IsInUse (slots_of entries) c.args.n (cell_of key) = record {
      cell = cell_at-slots_of entries c.args.n (key, c.unwrap.result.1.now) at;
      used = subst (λ (t : Table). used_at t.slots c.args.n ≡ Some true) (sym c.self.view_is) c.requires;
    } in
    subst (λ (ss : List Slot). IsKept ss c.remove.new.self) (sym (slots_of-set entries c.args.n))
    (kept-without (slots_of entries) c.args.n (cell_of key) in_use c.self.inside.places c.remove.new.self c.self.invariant c.remove.ensures.updates)

pub returns : goal.returns
returns c = rw (← c.self.view_is) (slots_of-set c.self.inside.cells.entries c.args.n)
