-- Cells that come into use in turn are all in use, each with the number that it was given.
use Rattle.std.proofs.Common.{ℕ, zero, suc, ◌≡◌, ◌+◌, ◌<◌, List, [], ◌∷◌, ◌++◌, length, Some, true, refl, sym, ap, subst, ◌∙◌, arith, slice_get}
use Rattle.c_syntax.specs.declared.alarm.Cell.{Cell}
use Rattle.cell_table.specs.Cells.{Slot, cell_at, IsInUse, in_use_with, in_use_with_all, number_of, numbers_of, byte_cells, HasNumberInUse}
use Rattle.cell_table.proofs.Slots.{by_nat, cell-with, used-with, cell-with_other, used-with_other, cell-number_only}
use Rattle.cell_table.proofs.Splits.{byte_cell}

in_use-own : (ss : List Slot) (c : Cell) → IsInUse (in_use_with ss c) (number_of ss c) c
in_use-own ss c = record { cell = cell-with ss c; used = used-with ss c }

in_use-kept : (ss : List Slot) (c : Cell) (m : ℕ) (d : Cell) → IsInUse ss m d → IsInUse (in_use_with ss c) m d
in_use-kept ss c m d h = by_nat m (number_of ss c)
    (λ e. let same : d ≡ c = cell-number_only ss c d (subst (λ n. cell_at ss n ≡ Some d) e h.cell) in
    subst (λ n. IsInUse (in_use_with ss c) n d) (sym e) (subst (λ x. IsInUse (in_use_with ss c) (number_of ss c) x) (sym same) (in_use-own ss c)))
    (λ other. record { cell = cell-with_other ss c m other ∙ h.cell; used = used-with_other ss c m other ∙ h.used })

in_use-all : (ss : List Slot) (cs : List Cell) (m : ℕ) (d : Cell) → IsInUse ss m d → IsInUse (in_use_with_all ss cs) m d
in_use-all ss [] m d h = h
in_use-all ss (c ∷ cs) m d h = in_use-all (in_use_with ss c) cs m d (in_use-kept ss c m d h)

pub in_use-each : (ss : List Slot) (cs : List Cell) (i : ℕ) (c : Cell) → slice_get cs i ≡ Some c → HasNumberInUse (in_use_with_all ss cs) (numbers_of ss cs) i c
in_use-each ss [] i c h = cc
in_use-each ss (x ∷ cs) zero c h =
    let same : x ≡ c = cc in
    (number_of ss x, refl, in_use-all (in_use_with ss x) cs (number_of ss x) c (subst (λ y. IsInUse (in_use_with ss x) (number_of ss x) y) same (in_use-own ss x)))
in_use-each ss (x ∷ cs) (suc i) c h = in_use-each (in_use_with ss x) cs i c h

pub byte-at : (object offset size i : ℕ) → i < size → slice_get (byte_cells object offset size) i ≡ Some (byte_cell object (offset + i))
byte-at object offset zero i h = absurd (omega arith)
byte-at object offset (suc size) zero h = let e : offset ≡ offset + 0 = omega arith in ap (λ n. Some (byte_cell object n)) e
byte-at object offset (suc size) (suc i) h =
    let e : suc offset + i ≡ offset + suc i = omega arith in byte-at object (suc offset) size i (omega arith) ∙ ap (λ n. Some (byte_cell object n)) e

pub get-behind : (xs ys : List ℕ) (i : ℕ) → slice_get (xs ++ ys) (length xs + i) ≡ slice_get ys i
get-behind [] ys i = let e : 0 + i ≡ i = omega arith in ap (slice_get ys) e
get-behind (x ∷ xs) ys i = let e : suc (length xs) + i ≡ suc (length xs + i) = omega arith in ap (slice_get (x ∷ (xs ++ ys))) e ∙ get-behind xs ys i
