-- Cuts by copies leave objects no wider than the plain run's cuts do.
use Rattle.std.proofs.Common.{◌≡◌, ◌⊎◌, inl, inr, ℕ, zero, suc, ◌<◌, arith, refl, sym, subst, ap, ◌∙◌, ⊎_elim, Bool, true, false, List, [], ◌∷◌, length, Option, Some, None}
use Rattle.std.specs.Prelude.{IsTrue, Contains, ◌==◌, ◌&&◌, if◌then◌else◌, option_map, slice_index_or, slice_set}
use Rattle.std.proofs.lemmas.Bool.{and_from, cases_eq, eqb-true}
use Rattle.ext_int.specs.declared.Ext.TheVariants.{Fin}
use Rattle.ext_int.proofs.Ends.{AtMost_trans, AtMost-from_below, AtMost-from_above, int_le-true, number_between, greater_first, greater_second, lesser_first, lesser_second, greater_least, lesser_greatest}
use Rattle.num_api.specs.declared.message.Range.{Range}
use Rattle.num_api.specs.Ranges.{NoWider, common, holds_some}
use Rattle.num_api.specs.Spans.{Span, range_of}
use Rattle.num_api.proofs.Parts.{wider, as_wide}
use Rattle.num_api.specs.Plain.{excludes}
use Rattle.machine_nums.specs.MExprs.{MExprTree}
use Rattle.machine_nums.specs.Rule.{value_span, tested}
use Rattle.plain_runs.specs.States.{Cell, Plain, given}
use Rattle.plain_runs.specs.Changes.{within, has_numbers, has_values, between, cut_by_copies, with_cuts, cut_temps, behind_test, source_in, are_left}
use Rattle.mem_temps.specs.Ranges.{range_at}
use Rattle.mem_objects.specs.declared.cells.KnownCell.{KnownCell}
use Rattle.mem_objects.specs.Cells.{cell_of, narrowed, cut_one, cut_by, has_number, copied_has_number, are_cells_left}
use Rattle.mem_objects.specs.Copies.{copy_of}
use Rattle.mem_objects.specs.Under.{IsUnderCell, AreUnder}
use Rattle.mem_objects.proofs.Lists.{entry_within, put_at, put_apart}

-- ---- lists of temporaries

contains_head : (e : ℕ) (es : List ℕ) → Contains (e ∷ es) e
contains_head e es = (0, omega arith, refl)

contains_tail : (e : ℕ) (es : List ℕ) (d : ℕ) → Contains es d → Contains (e ∷ es) d
contains_tail e es d c = (suc c.0, (let h = c.1 in omega arith), c.2)

contains_cases : (e : ℕ) (es : List ℕ) (d : ℕ) → Contains (e ∷ es) d → (e ≡ d) ⊎ Contains es d
contains_cases e es d c = by c.0 c.1 c.2 where
  by : (k : ℕ) → k < length (e ∷ es) → slice_index_or (e ∷ es) k d ≡ d → (e ≡ d) ⊎ Contains es d
  by zero h f = inl f
  by (suc k) h f = inr (k, omega arith, f)

contains_none : (d : ℕ) → Contains {X = ℕ} [] d → ⊥
contains_none d c = let h = c.1 in absurd (omega arith)

-- ---- ranges

common_first : (r s : Range) → NoWider (common r s) r
common_first r s = record { low = greater_first r.lo s.lo; high = lesser_first r.hi s.hi }

common_second : (r s : Range) → NoWider (common r s) s
common_second r s = record { low = greater_second r.lo s.lo; high = lesser_second r.hi s.hi }

within_under : (r : Range) (s t : Span) → NoWider r (range_of s) → NoWider r (range_of t) → NoWider r (range_of (within s t))
within_under r s t v w = record {
  low = greater_least r.lo (Fin s.lo) (Fin t.lo) v.low w.low;
  high = lesser_greatest r.hi (Fin s.hi) (Fin t.hi) v.high w.high;
}

-- a span above a range with numbers has numbers
numbers_under : (r : Range) (s : Span) → NoWider r (range_of s) → IsTrue (holds_some r) → IsTrue (has_numbers s)
numbers_under r s w h =
    let n = number_between r.lo r.hi h in
    int_le-true s.lo s.hi (AtMost_trans (Fin s.lo) (Fin n.0) (Fin s.hi) (AtMost_trans (Fin s.lo) r.lo (Fin n.0) w.low (AtMost-from_below r.lo n.0 n.1))
    (AtMost_trans (Fin n.0) r.hi (Fin s.hi) (AtMost-from_above r.hi n.0 n.2) w.high))

-- ---- what cuts leave of cells

-- the same but for a range that is no wider
pub record IsNarrower (k c : KnownCell) : Type 0 where
  pub ty : k.ty ≡ c.ty
  pub range : NoWider k.range c.range
  pub undefined : k.may_be_undefined ≡ c.may_be_undefined
  pub read_only : k.read_only ≡ c.read_only

module _ (copies : List (Option ℕ)) (ranges : List Range) where
  one_keeps : (o : Option ℕ) (r : Range) (cells : List (Option KnownCell)) (x : ℕ) (c : KnownCell) → cell_of cells x ≡ Some c
      → (k : KnownCell) × (cell_of (cut_one o r cells) x ≡ Some k) × IsNarrower k c
  one_keeps None r cells x c e = (c, e, record { ty = refl; range = as_wide c.range; undefined = refl; read_only = refl })
  one_keeps (Some y) r cells x c e = ⊎_elim
      (λ same.
      let here : cell_of cells y ≡ Some c = subst (λ (i : ℕ). cell_of cells i ≡ Some c) same e in (
        narrowed r c,
        subst (λ (i : ℕ). cell_of (slice_set cells y (option_map (narrowed r) (cell_of cells y))) i ≡ Some (narrowed r c)) (sym same)
            (put_at cells y (option_map (narrowed r) (cell_of cells y)) (entry_within cells y c here) ∙ ap (option_map (narrowed r)) here),
        record { ty = refl; range = common_first c.range r; undefined = refl; read_only = refl },
      ))
      (λ ne. (
        c,
        put_apart cells y x (option_map (narrowed r) (cell_of cells y)) ne ∙ e,
        record { ty = refl; range = as_wide c.range; undefined = refl; read_only = refl },
      )) (cases_eq x y)

  one_reaches : (r : Range) (cells : List (Option KnownCell)) (x : ℕ) (c : KnownCell) → cell_of cells x ≡ Some c
      → cell_of (cut_one (Some x) r cells) x ≡ Some (narrowed r c)
  one_reaches r cells x c e =
      put_at cells x (option_map (narrowed r) (cell_of cells x)) (entry_within cells x c e) ∙ ap (option_map (narrowed r)) e

  cut_keeps : (es : List ℕ) (cells : List (Option KnownCell)) (x : ℕ) (c : KnownCell) → cell_of cells x ≡ Some c
      → (k : KnownCell) × (cell_of (cut_by copies ranges es cells) x ≡ Some k) × IsNarrower k c
  cut_keeps [] cells x c e = (c, e, record { ty = refl; range = as_wide c.range; undefined = refl; read_only = refl })
  cut_keeps (d ∷ es) cells x c e =
      let a = one_keeps (copy_of copies d) (range_at ranges d) cells x c e in
      let b = cut_keeps es (cut_one (copy_of copies d) (range_at ranges d) cells) x a.0 a.1 in (
        b.0,
        b.1,
        record {
          ty = b.2.ty ∙ a.2.ty;
          range = wider b.0.range a.0.range c.range b.2.range a.2.range;
          undefined = b.2.undefined ∙ a.2.undefined;
          read_only = b.2.read_only ∙ a.2.read_only;
        },
      )

  -- an object is in the range of each copy of it by which it was cut
  cut_reaches : (es : List ℕ) (cells : List (Option KnownCell)) (x d : ℕ) (c k : KnownCell) → Contains es d → copy_of copies d ≡ Some x → cell_of cells x ≡ Some c
      → cell_of (cut_by copies ranges es cells) x ≡ Some k → NoWider k.range (range_at ranges d)
  cut_reaches [] cells x d c k h f e g = absurd (contains_none d h)
  cut_reaches (b ∷ es) cells x d c k h f e g =
      let a = one_keeps (copy_of copies b) (range_at ranges b) cells x c e in
      ⊎_elim here (λ more. cut_reaches es (cut_one (copy_of copies b) (range_at ranges b) cells) x d a.0 k more f a.1 g) (contains_cases b es d h)
    where
      here : b ≡ d → NoWider k.range (range_at ranges d)
      here same =
          let is : copy_of copies b ≡ Some x = ap (copy_of copies) same ∙ f in
          let at : cell_of (cut_one (copy_of copies b) (range_at ranges b) cells) x ≡ Some (narrowed (range_at ranges b) c) =
          subst (λ (o : Option ℕ). cell_of (cut_one o (range_at ranges b) cells) x ≡ Some (narrowed (range_at ranges b) c)) (sym is)
          (one_reaches (range_at ranges b) cells x c e) in
          let rest = cut_keeps es (cut_one (copy_of copies b) (range_at ranges b) cells) x (narrowed (range_at ranges b) c) at in
          let both : Some rest.0 ≡ Some k = sym rest.1 ∙ g in
          let one : rest.0 ≡ k = cc in
          subst (λ (i : ℕ). NoWider k.range (range_at ranges i)) same
          (subst (λ (z : KnownCell). NoWider z.range (range_at ranges b)) one
          (wider rest.0.range (common c.range (range_at ranges b)) (range_at ranges b) rest.2.range (common_second c.range (range_at ranges b))))

-- ---- the plain run's cuts

abbrev cut_to : Span → Cell → Cell
cut_to s cell = record cell { numbers = within cell.numbers s }

abbrev copies_it : Option ℕ → ℕ → Bool
copies_it None x = false
copies_it (Some y) x = y == x

nothing_cut : (copies : ℕ → Option ℕ) (temps : ℕ → Span) (x : ℕ) (ds : List ℕ) → cut_by_copies copies temps x ds None ≡ None
nothing_cut copies temps x [] = refl
nothing_cut copies temps x (d ∷ ds) = by (copies_it (copies d) x) (nothing_cut copies temps x ds) where
  by : (b : Bool) → cut_by_copies copies temps x ds None ≡ None → cut_by_copies copies temps x ds (if b then option_map (cut_to (temps d)) None else None) ≡ None
  by true e = e
  by false e = e

copy_is : (o : Option ℕ) (x : ℕ) → copies_it o x ≡ true → o ≡ Some x
copy_is None x e = absurd (cc)
copy_is (Some y) x e = ap (λ (i : ℕ). Some i) (eqb-true y x e)

cut_cells_under : (copies : ℕ → Option ℕ) (temps : ℕ → Span) (x : ℕ) (k : KnownCell) (ds : List ℕ) (cell : Cell) → IsUnderCell k cell
    → ((d : ℕ) → Contains ds d → copies d ≡ Some x → NoWider k.range (range_of (temps d)))
    → (left : Cell) × (cut_by_copies copies temps x ds (Some cell) ≡ Some left) × IsUnderCell k left
cut_cells_under copies temps x k [] cell u all = (cell, refl, u)
cut_cells_under copies temps x k (d ∷ ds) cell u all =
    by (copies_it (copies d) x) refl (λ c v. cut_cells_under copies temps x k ds c v (λ i h. all i (contains_tail d ds i h)))
  where
    by : (b : Bool) → copies_it (copies d) x ≡ b
        → ((c : Cell) → IsUnderCell k c → (left : Cell) × (cut_by_copies copies temps x ds (Some c) ≡ Some left) × IsUnderCell k left)
        → (left : Cell) × (cut_by_copies copies temps x ds (if b then option_map (cut_to (temps d)) (Some cell) else Some cell) ≡ Some left) × IsUnderCell k left
    by true e rest = rest (cut_to (temps d) cell) (record {
      ty = u.ty;
      numbers = within_under k.range cell.numbers (temps d) u.numbers (all d (contains_head d ds) (copy_is (copies d) x e));
      undefined = u.undefined;
      read_only = u.read_only;
    })
    by false e rest = rest cell u

module _ (cells : List (Option KnownCell)) (copies : List (Option ℕ)) (ranges : List Range) (p : Plain) (k : AreUnder cells copies p) (ds es : List ℕ)
    (among : (d : ℕ) → Contains ds d → Contains es d) where
  -- objects cut by the ranges of at least those temporaries that the plain run cuts
  pub cut_under : (temps : ℕ → Span) → ((d : ℕ) → Contains ds d → NoWider (range_at ranges d) (range_of (temps d)))
      → AreUnder (cut_by copies ranges es cells) copies (with_cuts p temps ds)
  cut_under temps narrow = record { cells_under = λ x cell g. by x cell (p.objects x) refl g; copies_under = k.copies_under } where
    by : (x : ℕ) (cell : Cell) (o : Option Cell) → p.objects x ≡ o → cut_by_copies p.copies temps x ds o ≡ Some cell
        → (c : KnownCell) × (cell_of (cut_by copies ranges es cells) x ≡ Some c) × IsUnderCell c cell
    by x cell None e g = let no = nothing_cut p.copies temps x ds in absurd (cc)
    by x cell (Some was) e g =
        let u = k.cells_under x was e in
        let n = cut_keeps copies ranges es cells x u.0 u.1 in
        let under : IsUnderCell n.0 was = record {
          ty = n.2.ty ∙ u.2.ty;
          numbers = wider n.0.range u.0.range (range_of was.numbers) n.2.range u.2.numbers;
          undefined = λ h. u.2.undefined (sym n.2.undefined ∙ h);
          read_only = n.2.read_only ∙ u.2.read_only;
        } in
        let left = cut_cells_under p.copies temps x n.0 ds was under
        (λ d h f. wider n.0.range (range_at ranges d) (range_of (temps d))
        (cut_reaches copies ranges es cells x d u.0 n.0 (among d h) (k.copies_under d x f) u.1 n.1) (narrow d h)) in
        let both : Some left.0 ≡ Some cell = sym left.1 ∙ g in
        let one : left.0 ≡ cell = cc in
        (n.0, n.1, subst (IsUnderCell n.0) one left.2)

  left_at : (fs : List ℕ) (d : ℕ) → Contains fs d → IsTrue (are_cells_left copies fs cells) → IsTrue (copied_has_number cells (copy_of copies d))
  left_at [] d h e = absurd (contains_none d h)
  left_at (f ∷ fs) d h e =
      by (copied_has_number cells (copy_of copies f)) refl e (λ more g. left_at fs d more g)
    where
      by : (b : Bool) → copied_has_number cells (copy_of copies f) ≡ b → IsTrue (if b then are_cells_left copies fs cells else false)
          → (Contains fs d → IsTrue (are_cells_left copies fs cells) → IsTrue (copied_has_number cells (copy_of copies d)))
          → IsTrue (copied_has_number cells (copy_of copies d))
      by false is g rest = absurd (cc)
      by true is g rest = ⊎_elim (λ same. subst (λ (i : ℕ). IsTrue (copied_has_number cells (copy_of copies i))) same is) (λ more. rest more g)
          (contains_cases f fs d h)

  values_left : (d : ℕ) → IsTrue (copied_has_number cells (copy_of copies d)) → (o : Option ℕ) → p.copies d ≡ o → IsTrue (has_values (source_in p o))
  values_left d e None f = refl
  values_left d e (Some x) f = by (p.objects x) refl where
    by : (c : Option Cell) → p.objects x ≡ c → IsTrue (has_values c)
    by None g = refl
    by (Some cell) g =
        let u = k.cells_under x cell g in
        let at : IsTrue (has_number (cell_of cells x)) = subst (λ (o : Option ℕ). IsTrue (copied_has_number cells o)) (k.copies_under d x f) e in
        numbers_under u.0.range cell.numbers u.2.numbers (subst (λ (o : Option KnownCell). IsTrue (has_number o)) u.1 at)

  all_left : (fs : List ℕ) → ((d : ℕ) → Contains fs d → Contains ds d) → ((d : ℕ) → Contains ds d → IsTrue (has_numbers (p.temps d)))
      → IsTrue (are_cells_left copies es cells) → IsTrue (are_left p fs)
  all_left [] sub temps e = refl
  all_left (d ∷ fs) sub temps e =
      let here = sub d (contains_head d fs) in
      and_from (has_numbers (p.temps d) && has_values (source_in p (p.copies d))) (are_left p fs)
      (and_from (has_numbers (p.temps d)) (has_values (source_in p (p.copies d))) (temps d here) (values_left d (left_at es d (among d here) e) (p.copies d) refl))
      (all_left fs (λ i h. sub i (contains_tail d fs i h)) temps e)

  -- where numbers are left of the objects and of the temporaries, the plain run goes on
  pub left_under : ((d : ℕ) → Contains ds d → IsTrue (has_numbers (p.temps d))) → IsTrue (are_cells_left copies es cells) → IsTrue (are_left p ds)
  left_under temps e = all_left ds (λ d h. h) temps e

-- ---- tests

-- the numbers of temporaries behind a test
abbrev pub behind : Plain → MExprTree → Bool → ℕ → Span
behind p m truth d = between (tested (given p) m truth d).lo (tested (given p) m truth d).hi (p.temps d)

module _ (cells : List (Option KnownCell)) (copies : List (Option ℕ)) (ranges : List Range) (p : Plain) (k : AreUnder cells copies p) (m : MExprTree) (truth : Bool)
    (es : List ℕ) (among : (d : ℕ) → Contains (cut_temps (given p) m truth) d → Contains es d) where
  after_test : (b c : Bool) (r : Plain) → b ≡ false → c ≡ true → (if b then None else (if c then Some r else None)) ≡ Some r
  after_test true c r e f = absurd (cc)
  after_test false true r e f = refl
  after_test false false r e f = absurd (cc)

  -- behind a test that the plain run does not exclude, and that leaves numbers of the temporaries and of the objects of which they are copies, the plain run
  -- goes on, and the objects are under it
  pub test_under : excludes truth (value_span (given p) m) ≡ false
      → ((d : ℕ) → Contains (cut_temps (given p) m truth) d → NoWider (range_at ranges d) (range_of (behind p m truth d)) × IsTrue (holds_some (range_at ranges d)))
      → IsTrue (are_cells_left copies es (cut_by copies ranges es cells))
      → (behind_test p truth m ≡ Some (with_cuts p (behind p m truth) (cut_temps (given p) m truth)))
      × AreUnder (cut_by copies ranges es cells) copies (with_cuts p (behind p m truth) (cut_temps (given p) m truth))
  test_under reached all left =
      let ds = cut_temps (given p) m truth in
      let r = with_cuts p (behind p m truth) ds in
      let under : AreUnder (cut_by copies ranges es cells) copies r = cut_under cells copies ranges p k ds es among (behind p m truth) (λ d h. (all d h).0) in
      let some : IsTrue (are_left r ds) = left_under (cut_by copies ranges es cells) copies ranges r under ds es among
      (λ d h. numbers_under (range_at ranges d) (behind p m truth d) (all d h).0 (all d h).1) left in
      (after_test (excludes truth (value_span (given p) m)) (are_left r ds) r reached some, under)
