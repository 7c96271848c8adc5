-- Joins are under what both sides are under, and what is under a side of a hull is under the hull.
use Rattle.std.proofs.Common.{◌≡◌, ◌⊎◌, inl, inr, ℕ, refl, sym, subst, ap, ◌∙◌, ⊎_elim, Bool, true, false, List, Option, Some, None}
use Rattle.std.specs.Prelude.{◌==◌, ◌&&◌, ◌||◌, if◌then◌else◌}
use Rattle.std.proofs.lemmas.Bool.{cond-true, eq-eqb, or_cases, or_left, or_right}
use Rattle.ext_int.specs.declared.Ext.TheVariants.{Fin}
use Rattle.ext_int.proofs.Ends.{lesser_first, lesser_second, greater_first, greater_second, lesser_greatest, greater_least}
use Rattle.c_syntax_written.specs.declared.int_type.IntType.{IntType}
use Rattle.num_api.specs.declared.message.Range.{Range}
use Rattle.num_api.specs.Ranges.{NoWider, hull}
use Rattle.num_api.specs.Spans.{Span, range_of}
use Rattle.num_api.proofs.Parts.{wider}
use Rattle.plain_runs.specs.States.{Cell, Plain, agreed, hull_span, hull_cell, hull_cells}
use Rattle.plain_runs.specs.States as plain_states
use Rattle.csharp.specs.SameExprs.{is_same_type}
use Rattle.mem_objects.specs.declared.cells.KnownCell.{KnownCell}
use Rattle.mem_objects.specs.Cells.{cell_of, merged, IsJoined}
use Rattle.mem_objects.specs.Copies.{copy_of}
use Rattle.mem_objects.specs.Under.{IsUnderCell, AreUnder}
use Rattle.mem_objects.proofs.Cutting.{agreed_some}
use Rattle.csharp.proofs.Equal.{one_type}

-- ---- joins

merged_under : (c d : KnownCell) (cell : Cell) → IsUnderCell c cell → IsUnderCell d cell → IsUnderCell (merged c d) cell
merged_under c d cell u v = record {
  ty = u.ty;
  numbers = record {
    low = lesser_greatest (Fin cell.numbers.lo) c.range.lo d.range.lo u.numbers.low v.numbers.low;
    high = greater_least (Fin cell.numbers.hi) c.range.hi d.range.hi u.numbers.high v.numbers.high;
  };
  undefined = λ h. ⊎_elim (λ f. u.undefined f) (λ g. v.undefined g) (or_cases c.may_be_undefined d.may_be_undefined h);
  read_only = u.read_only;
}

pub joined_under : (a b j : List (Option KnownCell)) (p q r : List (Option ℕ)) (plain : Plain)
    → ((x : ℕ) → IsJoined (cell_of a x) (cell_of b x) (cell_of j x)) → ((d : ℕ) → copy_of r d ≡ agreed (copy_of p d) (copy_of q d))
    → AreUnder a p plain → AreUnder b q plain → AreUnder j r plain
joined_under a b j p q r plain cells copies k l = record {
  cells_under = λ x cell e.
      let u = k.cells_under x cell e in
      let v = l.cells_under x cell e in (
        merged u.0 v.0,
        (cells x).to u.0 v.0 u.1 v.1 (u.2.ty ∙ sym v.2.ty) (u.2.read_only ∙ sym v.2.read_only),
        merged_under u.0 v.0 cell u.2 v.2,
      );
  copies_under = λ d x e.
      copies d ∙ ap (λ o. agreed o (copy_of q d)) (k.copies_under d x e) ∙ ap (agreed (Some x)) (l.copies_under d x e)
      ∙ cond-true (x == x) (Some x) None (eq-eqb x x refl);
}

-- ---- hulls

-- the hull of two cells has the type and the mark of both
abbrev hulled : IntType → Span → Span → Bool → Bool → Bool → Cell
hulled t r s m n mark = record { ty = t; numbers = hull_span r s; may_be_undefined = m || n; read_only = mark }

parts_of : (t u : IntType) (r s : Span) (m n a b : Bool) (cell : Cell)
    → hull_cell (record { ty = t; numbers = r; may_be_undefined = m; read_only = a }) (record { ty = u; numbers = s; may_be_undefined = n; read_only = b }) ≡ Some cell
    → (t ≡ u) × (a ≡ b) × (hulled t r s m n a ≡ cell)
parts_of t u r s m n true true cell e = by (is_same_type t u) refl e where
  by : (z : Bool) → is_same_type t u ≡ z → (if z && true then Some (hulled t r s m n true) else None) ≡ Some cell → (t ≡ u) × (true ≡ true) × (hulled t r s m n true ≡ cell)
  by true is f = let same : hulled t r s m n true ≡ cell = cc in (one_type t u is, refl, same)
  by false is f = absurd (cc)
parts_of t u r s m n false false cell e = by (is_same_type t u) refl e where
  by : (z : Bool) → is_same_type t u ≡ z → (if z && true then Some (hulled t r s m n false) else None) ≡ Some cell → (t ≡ u) × (false ≡ false) × (hulled t r s m n false ≡ cell)
  by true is f = let same : hulled t r s m n false ≡ cell = cc in (one_type t u is, refl, same)
  by false is f = absurd (cc)
parts_of t u r s m n true false cell e = absurd (by (is_same_type t u) e) where
  by : (z : Bool) → (if z && false then Some (hulled t r s m n true) else None) ≡ Some cell → ⊥
  by true f = cc
  by false f = cc
parts_of t u r s m n false true cell e = absurd (by (is_same_type t u) e) where
  by : (z : Bool) → (if z && false then Some (hulled t r s m n false) else None) ≡ Some cell → ⊥
  by true f = cc
  by false f = cc

record IsHulled (a b : Option Cell) (cell : Cell) : Type 0 where
  pub c : Cell
  pub d : Cell
  pub first : a ≡ Some c
  pub second : b ≡ Some d
  pub ty : c.ty ≡ d.ty
  pub mark : c.read_only ≡ d.read_only
  pub is : hulled c.ty c.numbers d.numbers c.may_be_undefined d.may_be_undefined c.read_only ≡ cell

both_some : (a b : Option Cell) (cell : Cell) → hull_cells a b ≡ Some cell → IsHulled a b cell
both_some None b cell e = absurd (cc)
both_some (Some c) None cell e = absurd (cc)
both_some (Some c) (Some d) cell e =
    let p = parts_of c.ty d.ty c.numbers d.numbers c.may_be_undefined d.may_be_undefined c.read_only d.read_only cell e in
    record { c = c; d = d; first = refl; second = refl; ty = p.0; mark = p.1; is = p.2 }

wider_first : (r : Range) (s t : Span) → NoWider r (range_of s) → NoWider r (range_of (hull_span s t))
wider_first r s t w = wider r (range_of s) (range_of (hull_span s t)) w
    (record { low = lesser_first (Fin s.lo) (Fin t.lo); high = greater_first (Fin s.hi) (Fin t.hi) })

wider_second : (r : Range) (s t : Span) → NoWider r (range_of t) → NoWider r (range_of (hull_span s t))
wider_second r s t w = wider r (range_of t) (range_of (hull_span s t)) w
    (record { low = lesser_second (Fin s.lo) (Fin t.lo); high = greater_second (Fin s.hi) (Fin t.hi) })

pub first_under : (cells : List (Option KnownCell)) (copies : List (Option ℕ)) (p q : Plain) → AreUnder cells copies p → AreUnder cells copies (plain_states.hull p q)
first_under cells copies p q k = record {
  cells_under = λ x cell e.
      let h = both_some (p.objects x) (q.objects x) cell e in
      let u = k.cells_under x h.c h.first in (
        u.0,
        u.1,
        subst (IsUnderCell u.0) h.is (record {
          ty = u.2.ty;
          numbers = wider_first u.0.range h.c.numbers h.d.numbers u.2.numbers;
          undefined = λ f. or_left h.c.may_be_undefined h.d.may_be_undefined (u.2.undefined f);
          read_only = u.2.read_only;
        }),
      );
  copies_under = λ d x e. k.copies_under d x (agreed_some (p.copies d) (q.copies d) x e).0;
}

pub second_under : (cells : List (Option KnownCell)) (copies : List (Option ℕ)) (p q : Plain) → AreUnder cells copies q → AreUnder cells copies (plain_states.hull p q)
second_under cells copies p q k = record {
  cells_under = λ x cell e.
      let h = both_some (p.objects x) (q.objects x) cell e in
      let u = k.cells_under x h.d h.second in (
        u.0,
        u.1,
        subst (IsUnderCell u.0) h.is (record {
          ty = u.2.ty ∙ sym h.ty;
          numbers = wider_second u.0.range h.c.numbers h.d.numbers u.2.numbers;
          undefined = λ f. or_right h.c.may_be_undefined h.d.may_be_undefined (u.2.undefined f);
          read_only = u.2.read_only ∙ sym h.mark;
        }),
      );
  copies_under = λ d x e. k.copies_under d x (agreed_some (p.copies d) (q.copies d) x e).1;
}
