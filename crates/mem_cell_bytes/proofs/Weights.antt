-- What is left of a set weighs no more, and less where something was not kept.
use Rattle.std.proofs.Common.{ℕ, ◌≡◌, ◌+◌, ◌≤◌, ◌<◌, ◌++◌, Bool, true, false, ◌&&◌, ◌||◌, not, List, [], ◌∷◌, refl, arith}
use Rattle.pointsets.specs.Targets.{room_of, covers_set}
use Rattle.pointsets.proofs.Weights.{joined-less, joined-falls}
use Rattle.mem_cell_bytes.specs.declared.entry.Entry.{Entry}
use Rattle.mem_cell_bytes.specs.Weights.{total, entry_weight, joined_entry, covers_entry}

pub total-append : {X : Type 0} (w : X → ℕ) (xs ys : List X) → total w (xs ++ ys) ≡ total w xs + total w ys
total-append w [] ys = omega arith
total-append w (x ∷ xs) ys = let r = total-append w xs ys in omega (arith, r)

room-less : (a b : Bool) → room_of (a || b) ≤ room_of a
room-less true b = omega arith
room-less false true = omega arith
room-less false false = omega arith

room-falls : (a b : Bool) → (a || not b) ≡ false → room_of (a || b) < room_of a
room-falls true b h = cc
room-falls false true h = omega arith
room-falls false false h = cc

pub entry-less : (e d : Entry) → entry_weight (joined_entry e d) ≤ entry_weight e
entry-less e d = let a = room-less e.undef d.undef in let b = room-less e.value d.value in let c = joined-less e.targets d.targets in omega (arith, a, b, c)

pub entry-falls : (e d : Entry) → covers_entry e d ≡ false → entry_weight (joined_entry e d) < entry_weight e
entry-falls e d h = by (e.undef || not d.undef) refl h
  where
    by_value : (b : Bool) → (e.value || not d.value) ≡ b → (b && covers_set e.targets d.targets) ≡ false → entry_weight (joined_entry e d) < entry_weight e
    by_value true q g = let a = room-less e.undef d.undef in let b = room-less e.value d.value in let c = joined-falls e.targets d.targets g in omega (arith, a, b, c)
    by_value false q g = let a = room-less e.undef d.undef in let b = room-falls e.value d.value q in let c = joined-less e.targets d.targets in omega (arith, a, b, c)

    by : (b : Bool) → (e.undef || not d.undef) ≡ b → (b && ((e.value || not d.value) && covers_set e.targets d.targets)) ≡ false → entry_weight (joined_entry e d) < entry_weight e
    by true q g = by_value (e.value || not d.value) refl g
    by false q g = let a = room-falls e.undef d.undef q in let b = room-less e.value d.value in let c = joined-less e.targets d.targets in omega (arith, a, b, c)
