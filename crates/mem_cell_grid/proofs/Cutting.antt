-- Stretches that are cut, and cells beside bytes.
use Rattle.std.proofs.Common.{ℕ, ◌≡◌, ◌⊎◌, ◌+◌, ◌<◌, ◌≤◌, ◌++◌, List, [], ◌∷◌, sym, ap, subst, ◌∙◌, arith, inl, inr}
use Rattle.mem_cell_bytes.specs.declared.entry.Entry.{Entry}
use Rattle.mem_cell_bytes.specs.declared.entry.FillByte.{FillByte}
use Rattle.mem_cell_bytes.specs.declared.entry.Stretch.{Stretch}
use Rattle.mem_cell_bytes.specs.Cells.{size_of}
use Rattle.mem_cell_bytes.specs.Stands.{Has, IsInStretch}
use Rattle.mem_cell_bytes.specs.Stores.{AreBeside, AreBytesLeft, AreLeft}
use Rattle.mem_cell_bytes.specs.Weights.{stretch_weight, total}
use Rattle.mem_cell_bytes.proofs.Steps.{has-push, has-none}
use Rattle.mem_cell_bytes.proofs.Weights.{total-append}
use Rattle.mem_cell_grid.specs.Lefts.{AddsStretch, AreStored, IsEndsOf, IsIn}

pub in-push : (old : List Stretch) (f : Stretch) (q : ℕ) (x : FillByte) → IsInStretch (old ++ f ∷ []) q x → IsInStretch old q x ⊎ IsIn f q x
in-push old f q x i = has-push {P = IsInStretch old q x ⊎ IsIn f q x} old f i.stretch i.has
    (λ was. inl (record { stretch = i.stretch; has = was; from = i.from; to = i.to; is = i.is }))
    (λ same. inr (subst (λ (g : Stretch). IsIn g q x) same (i.from, i.to, i.is)))

pub adds-push : (old new : List Stretch) (f : Stretch) → new ≡ old ++ f ∷ [] → AddsStretch old f new
adds-push old new f is = record {
  bytes = λ q x i. in-push old f q x (subst (λ xs. IsInStretch xs q x) is i);
  weight = ap (total stretch_weight) is ∙ total-append stretch_weight old (f ∷ []) ∙ (let e : total stretch_weight old + (stretch_weight f + 0) ≡ total stretch_weight old + stretch_weight f = omega arith in e);
}

pub ends-of : (old mid new : List Stretch) (low high f : Stretch) (at n : ℕ) → AddsStretch old low mid → AddsStretch mid high new
    → ((q : ℕ) (x : FillByte) → IsIn low q x → IsIn f q x × (q < at)) → ((q : ℕ) (x : FillByte) → IsIn high q x → IsIn f q x × (at + n ≤ q)) → IsEndsOf old f at n new
ends-of old mid new low high f at n a b is_low is_high = λ q x i. elim (b.bytes q x i) [
  | inl was ↦ elim (a.bytes q x was) [
    | inl old ↦ inl old
    | inr here ↦ let l = is_low q x here in inr (l.0, inl l.1)
  ]
  | inr here ↦ let h = is_high q x here in inr (h.0, inr h.1)
]

pub none-in : (q : ℕ) (x : FillByte) (xs : List Stretch) {P : Type 0} → xs ≡ [] → IsInStretch xs q x → P
none-in q x xs is i = has-none xs i.stretch is i.has

-- one stretch more was cut
pub bytes-left : (stretches : List Stretch) (f : Stretch) (at n : ℕ) (old new : List Stretch) → AreBytesLeft stretches at n old → Has stretches f → IsEndsOf old f at n new
    → AreBytesLeft stretches at n new
bytes-left stretches f at n old new was has ends = λ i x h. elim (ends i x h) [
  | inl o ↦ was i x o
  | inr new ↦ (record { stretch = f; has = has; from = new.0.0; to = new.0.1; is = new.0.2 }, new.1)
]

-- one cell more is beside
pub cells-left : (cells : List Entry) (at n : ℕ) (old new : List Entry) (e : Entry) → AreLeft cells at n old → Has cells e → AreBeside e.offset (size_of e) at n
    → new ≡ old ++ e ∷ [] → AreLeft cells at n new
cells-left cells at n old new e was has beside is = λ d h.
    has-push {P = Has cells d × AreBeside d.offset (size_of d) at n} old e d (subst (λ xs. Has xs d) is h) (λ o. was d o)
    (λ same. subst (λ (x : Entry). Has cells x × AreBeside x.offset (size_of x) at n) (sym same) (has, beside))

pub stored-left : (cells left stored : List Entry) (cell : Entry) (at : ℕ) → AreLeft cells cell.offset (size_of cell) left
    → ((e : Entry) → Has stored e → Has left e ⊎ (e ≡ cell)) → AreStored cells cell stored
stored-left cells left stored cell at was h = λ e got. elim (h e got) [ inl old ↦ inl (was e old) | inr new ↦ inr new ]
