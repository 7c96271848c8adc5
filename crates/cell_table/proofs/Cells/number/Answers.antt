use Rattle.std.proofs.Common.{◌≡◌, ℕ, List, Bool, Some, ap, sym, ◌∙◌, subst, rules, true}
use Rattle.std.specs.BTreeMap.{UpdatesBy}
use Rattle.indexmap.specs.IndexMap.{insert_entry}
use Rattle.cell_table.specs.Places.{place_cmp}
use Rattle.cell_table.specs.Cells.{Table, Slot, number_of, in_use_with, IsApartFrom}
use Rattle.cell_table.specs.Kept.{slots_of, IsKept}
use Rattle.cell_table.proofs.Slots.{slots_of-insert, key_eq}
use Rattle.cell_table.proofs.Steps.{kept-same, kept-with}
use Rattle.cell_table.proofs.Cells.number.Goals as goal

pub invariant_of-self-in_err-insert : goal.invariant_of-self-in_err-insert
invariant_of-self-in_err-insert c =
    kept-same _ _ c.self.inside.places c.insert.new.self (ap slots_of c.in_ok-reserve.ensures.entries) c.in_err-insert.ensures.err c.self.invariant

pub invariant_of-self-2 : goal.invariant_of-self-2
invariant_of-self-2 c =
    let key : ℕ × ℕ × ℕ = (c.args.c.object, c.args.c.offset, c.args.c.size) in
    let old = c.self.inside.cells.entries in
    let entries : c.insert-room_was_there.new.self.entries ≡ insert_entry key_eq c.reserve.new.self.entries key true = search rules in
    let same : slots_of c.insert-room_was_there.new.self.entries ≡ in_use_with (slots_of old) c.args.c
    = ap slots_of entries ∙ slots_of-insert c.reserve.new.self.entries key ∙ ap (λ (es : List ((ℕ × ℕ × ℕ) × Bool)). in_use_with (slots_of es) c.args.c) c.in_ok-reserve.ensures.entries in
    let number : c.number_for-n.result ≡ number_of (slots_of old) c.args.c
    = c.number_for-n.ensures ∙ ap (λ (es : List ((ℕ × ℕ × ℕ) × Bool)). number_of (slots_of es) c.args.c) c.in_ok-reserve.ensures.entries in
    let apart : IsApartFrom (slots_of old) c.args.c = subst (λ (t : Table). IsApartFrom t.slots c.args.c) (sym c.self.view_is) c.requires.apart in
    let updates : UpdatesBy place_cmp (place_cmp (c.args.c.object, c.args.c.offset)) c.self.inside.places c.insert.new.self (Some (record { number = number_of (slots_of old) c.args.c; size = c.args.c.size }))
    = subst (λ (n : ℕ). UpdatesBy place_cmp (place_cmp (c.args.c.object, c.args.c.offset)) c.self.inside.places c.insert.new.self (Some (record { number = n; size = c.args.c.size }))) number c.in_ok-insert.ensures.updates in
    subst (λ (ss : List Slot). IsKept ss c.insert.new.self) (sym same)
    (kept-with (slots_of old) c.args.c c.self.invariant.table c.requires.some_bytes c.requires.end apart c.self.inside.places c.insert.new.self c.self.invariant updates)

pub returns-clause-number : goal.returns-clause-number
returns-clause-number c =
    rw (← c.self.view_is)
    (c.number_for-n.ensures ∙ ap (λ (es : List ((ℕ × ℕ × ℕ) × Bool)). number_of (slots_of es) c.args.c) c.in_ok-reserve.ensures.entries)

pub returns-clause-slots : goal.returns-clause-slots
returns-clause-slots c =
    let key : ℕ × ℕ × ℕ = (c.args.c.object, c.args.c.offset, c.args.c.size) in
    let entries : c.insert-room_was_there.new.self.entries ≡ insert_entry key_eq c.reserve.new.self.entries key true = search rules in
    rw (← c.self.view_is)
    (ap slots_of entries ∙ slots_of-insert c.reserve.new.self.entries key ∙ ap (λ (es : List ((ℕ × ℕ × ℕ) × Bool)). in_use_with (slots_of es) c.args.c) c.in_ok-reserve.ensures.entries)
