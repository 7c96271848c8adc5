-- The one-byte cells that come into use one after another in the place of a cell.
use Rattle.std.proofs.Common.{◌≡◌, ◌≢◌, ℕ, zero, suc, ◌+◌, ◌-◌, ◌<◌, ◌≤◌, true, false, List, [], ◌∷◌, Some, refl, sym, ap, subst, ◌∙◌, arith}
use Rattle.c_syntax.specs.declared.alarm.Cell.{Cell}
use Rattle.cell_table.specs.Cells.{Slot, cell_at, used_at, number_of, in_use_with, in_use_with_all, in_use_without, same_cell, byte_cells, HasByte, IsInUse, IsApartFrom, IsTable}
use Rattle.cell_table.proofs.Slots.{by_bool, by_nat, same_cell-true, same_cell-self, cell-with, cell-with_other, used-with_other, used-without}
use Rattle.cell_table.proofs.Steps.{was-in_use}

-- no cell in use has a byte of the object from one offset up to before another
pub record IsClear (ss : List Slot) (object from to : ℕ) : Type 0 where
  pub none : (n : ℕ) (d : Cell) → IsInUse ss n d → (b : ℕ) → from ≤ b → b < to → HasByte d object b → ⊥

-- the cell of one byte
abbrev pub byte_cell : ℕ → ℕ → Cell
byte_cell object offset = record { object = object; offset = offset; size = 1 }

-- a cell out of use leaves its bytes clear
pub clear-without : (ss : List Slot) (n : ℕ) (c : Cell) → IsTable ss → IsInUse ss n c → IsClear (in_use_without ss n) c.object c.offset (c.offset + c.size)
clear-without ss n c table in_use = record {
  none = λ m d u b low high has.
      let differ : m ≢ n = λ e. used-without ss n (subst (λ (k : ℕ). used_at (in_use_without ss n) k ≡ Some true) e u.used) in
      table.apart m n d c (was-in_use ss n c in_use m d u) in_use differ c.object b has (record { same = refl; low = low; high = high });
}

-- a clear byte's cell is apart from all in use
pub apart-clear : (ss : List Slot) (object from to : ℕ) → from < to → IsClear ss object from to → IsApartFrom ss (byte_cell object from)
apart-clear ss object from to l clear = record {
  none = λ n d u differ o b x y.
      let there : b ≡ from = omega (arith, x.low, x.high) in
      clear.none n d u from (omega arith) l (record { same = y.same ∙ sym x.same; low = omega (arith, y.low, there); high = omega (arith, y.high, there) });
}

-- and the bytes above it stay clear
pub clear-with : (ss : List Slot) (object from to : ℕ) → IsClear ss object from to → IsClear (in_use_with ss (byte_cell object from)) object (from + 1) to
clear-with ss object from to clear = record {
  none = λ n d u b low high has. by_nat n (number_of ss (byte_cell object from))
      (λ e.
      let at : cell_at (in_use_with ss (byte_cell object from)) n ≡ Some (byte_cell object from) = subst (λ (m : ℕ). cell_at (in_use_with ss (byte_cell object from)) m ≡ Some (byte_cell object from)) (sym e) (cell-with ss (byte_cell object from)) in
      let both : Some d ≡ Some (byte_cell object from) = sym u.cell ∙ at in
      let same : d ≡ byte_cell object from = cc in
      let has' : HasByte (byte_cell object from) object b = subst (λ (c : Cell). HasByte c object b) same has in
      omega (arith, has'.high))
      (λ g. clear.none n d (record {
        cell = sym (cell-with_other ss (byte_cell object from) n g) ∙ u.cell;
        used = sym (used-with_other ss (byte_cell object from) n g) ∙ u.used;
      }) b (omega arith) high has);
}

-- the cells of the bytes up to an end are that of the first and those after it
pub byte_cells-from : (object from to : ℕ) → from < to → byte_cells object from (to - from) ≡ byte_cell object from ∷ byte_cells object (from + 1) (to - (from + 1))
byte_cells-from object from to l =
    let count : to - from ≡ suc (to - (from + 1)) = omega arith in
    let next : suc from ≡ from + 1 = omega arith in
    ap (byte_cells object from) count ∙ ap (λ (x : ℕ). byte_cell object from ∷ byte_cells object x (to - (from + 1))) next

same_cell-other : (c : Cell) (s : Slot) → s.cell ≢ c → same_cell c s.cell ≡ false
same_cell-other c s h = by_bool (same_cell c s.cell) (λ q. absurd (h (same_cell-true c s.cell q))) (λ q. q)

-- a cell that goes out of use and comes back leaves all as it was
pub back-in-use : (ss : List Slot) (n : ℕ) (c : Cell) → ((m : ℕ) → cell_at ss m ≡ Some c → m ≡ n) → IsInUse ss n c → in_use_with (in_use_without ss n) c ≡ ss
back-in-use [] n c only u = let no = u.cell in cc
back-in-use (s ∷ ss) zero c only u =
    let cell : Some s.cell ≡ Some c = u.cell in
    let used : Some s.used ≡ Some true = u.used in
    let is : s.cell ≡ c = cc in
    let on : s.used ≡ true = cc in
    let q : same_cell c s.cell ≡ true = subst (λ (d : Cell). same_cell c d ≡ true) (sym is) (same_cell-self c) in
    rw q (λ i. record { cell = s.cell; used = sym on i } ∷ ss)
back-in-use (s ∷ ss) (suc n) c only u =
    let differ : s.cell ≢ c = λ e. (let no : zero ≡ suc n = only zero (ap (λ (d : Cell). Some d) e) in omega (arith, no)) in
    let in_use : IsInUse ss n c = record { cell = u.cell; used = u.used } in
    let only' : (m : ℕ) → cell_at ss m ≡ Some c → m ≡ n = λ m h. omega (arith, only (suc m) h) in
    rw (same_cell-other c s differ) (ap (λ (us : List Slot). s ∷ us) (back-in-use ss n c only' in_use))

-- a split of a cell of one byte leaves all as it was
pub one-byte : (ss : List Slot) (n : ℕ) (c : Cell) → IsTable ss → IsInUse ss n c → c.size ≡ 1
    → in_use_with_all (in_use_without ss n) (byte_cells c.object c.offset c.size) ≡ ss
one-byte ss n c table u h =
    let is : byte_cell c.object c.offset ≡ c = λ i. record { object = c.object; offset = c.offset; size = sym h i } in
    ap (λ (k : ℕ). in_use_with_all (in_use_without ss n) (byte_cells c.object c.offset k)) h
    ∙ ap (in_use_with (in_use_without ss n)) is ∙ back-in-use ss n c (λ m k. table.one_number m n c k u.cell) u
