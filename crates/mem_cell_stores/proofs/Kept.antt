-- What is known of objects once bytes are stored, as the code makes it.
use Rattle.std.proofs.Common.{ℕ, ◌≡◌, ◌++◌, zero, suc, List, [], ◌∷◌, replicate, slice_get, slice_set, Some, None, refl, sym, ap, subst, ◌∙◌, inl, inr}
use Rattle.std.proofs.lemmas.Bool.{cases_eq}
use Rattle.mem_cell_bytes.specs.declared.entry.Entry.{Entry}
use Rattle.mem_cell_bytes.specs.Cells.{size_of}
use Rattle.mem_cell_bytes.specs.Contents.{Contents, nothing}
use Rattle.mem_cell_bytes.specs.Stands.{Has, IsInStretch}
use Rattle.mem_cell_bytes.specs.Stores.{AreBytesLeft, AreLeft}
use Rattle.mem_cell_bytes.proofs.Steps.{get-set_other, has-push, set-is}
use Rattle.mem_cell_grid.specs.Lefts.{AreStored}
use Rattle.mem_cell_stores.specs.Changes.{AreForgotten, AreNothing, IsCellPut}

-- ---- a cell is put

pub cell-put : (grid new : List Contents) (o : ℕ) (cell : Entry) (held h : Contents) → slice_get grid o ≡ Some held → AreStored held.cells cell h.cells
    → AreBytesLeft held.stretches cell.offset (size_of cell) h.stretches → new ≡ slice_set grid o h → IsCellPut grid o cell new
cell-put grid new o cell held h is cells bytes put = record {
  here = λ c got.
      let same : c ≡ h = set-is grid o h c (sym (ap (λ xs. slice_get xs o) put) ∙ got) in (
        held,
        is,
        subst (λ (x : Contents). AreStored held.cells cell x.cells) (sym same) cells,
        subst (λ (x : Contents). AreBytesLeft held.stretches cell.offset (size_of cell) x.stretches) (sym same) bytes,
      );
  others = λ q other. ap (λ xs. slice_get xs q) put ∙ get-set_other grid q o h other;
}

pub no-object : (grid : List Contents) (o : ℕ) (cell : Entry) → slice_get grid o ≡ None → IsCellPut grid o cell grid
no-object grid o cell none = record { here = λ c got. let clash : None ≡ Some c = sym none ∙ got in cc; others = λ q other. refl }

-- ---- bytes are forgotten

pub one-has : (o q : ℕ) → Has (o ∷ []) q → q ≡ o
one-has o q (zero, h) = cc
one-has o q (suc n, h) = cc

pub none-has : {P : Type 0} (q : ℕ) → Has [] q → P
none-has q (n, h) = cc

pub at-forgotten : (grid new : List Contents) (o at n : ℕ) (held h : Contents) → slice_get grid o ≡ Some held → AreLeft held.cells at n h.cells
    → AreBytesLeft held.stretches at n h.stretches → new ≡ slice_set grid o h → AreForgotten (o ∷ []) at n grid new
at-forgotten grid new o at n held h is cells bytes put = λ q c got. elim (cases_eq q o) [
  | inl here ↦
      let same : c ≡ h = set-is grid o h c (sym (ap (λ xs. slice_get xs o) put) ∙ sym (ap (slice_get new) here) ∙ got) in (
        held,
        ap (slice_get grid) here ∙ is,
        record {
          cells = λ e has. let l = cells e (subst (λ (x : Contents). Has x.cells e) same has) in (l.0, λ among. l.1);
          bytes = λ i x has. let l = bytes i x (subst (λ (y : Contents). IsInStretch y.stretches i x) same has) in (l.0, λ among. l.1);
        },
      )
  | inr other ↦ (
    c,
    sym (ap (λ xs. slice_get xs q) put ∙ get-set_other grid q o h other) ∙ got,
    record {
      cells = λ e has. (has, λ among. absurd (other (one-has o q among)));
      bytes = λ i x has. (has, λ among. absurd (other (one-has o q among)));
    },
  )
]

pub nothing-there : (grid : List Contents) (o at n : ℕ) → slice_get grid o ≡ None → AreForgotten (o ∷ []) at n grid grid
nothing-there grid o at n none = λ q c got.
    let clash = λ (among : Has (o ∷ []) q). let no : None ≡ Some c = sym none ∙ sym (ap (slice_get grid) (one-has o q among)) ∙ got in no in (
      c,
      got,
      record {
        cells = λ e has. (has, λ among. let no = clash among in cc);
        bytes = λ i x has. (has, λ among. let no = clash among in cc);
      },
    )

pub forgotten-none : (grid : List Contents) (at n : ℕ) → AreForgotten [] at n grid grid
forgotten-none grid at n = λ q c got. (c, got, record { cells = λ e has. (has, none-has q); bytes = λ i x has. (has, none-has q) })

pub forgotten-more : (os : List ℕ) (o at n : ℕ) (grid mid new : List Contents) → AreForgotten os at n grid mid → AreForgotten (o ∷ []) at n mid new
    → AreForgotten (os ++ o ∷ []) at n grid new
forgotten-more os o at n grid mid new first then = λ q c got.
    let b = then q c got in let a = first q b.0 b.1 in (
      a.0,
      a.1,
      record {
        cells = λ e has. let d = b.2.cells e has in let f = a.2.cells e d.0 in
            (f.0, λ among. has-push os o q among f.1 (λ same. d.1 (0, ap Some (sym same))));
        bytes = λ i x has. let d = b.2.bytes i x has in let f = a.2.bytes i x d.0 in
            (f.0, λ among. has-push os o q among f.1 (λ same. d.1 (0, ap Some (sym same))));
      },
    )

-- ---- nothing is known

replicated : {X : Type 0} (n q : ℕ) (x c : X) → slice_get (replicate n x) q ≡ Some c → c ≡ x
replicated zero q x c h = cc
replicated (suc n) zero x c h = cc
replicated (suc n) (suc q) x c h = replicated n q x c h

pub nothing-known : (n : ℕ) (grid : List Contents) → grid ≡ replicate n nothing → AreNothing grid
nothing-known n grid is = λ q c got. replicated n q nothing c (sym (ap (λ xs. slice_get xs q) is) ∙ got)
