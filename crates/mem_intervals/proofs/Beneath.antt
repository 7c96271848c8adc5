-- What each statement leaves of a set that is under a plain state.
use Rattle.std.proofs.Common.{◌≡◌, ℕ, Bool, true, false, refl, sym, subst, ap, ◌∙◌, ⊎_elim, List, [], Option, Some, None}
use Rattle.std.specs.Prelude.{All, Contains, IsTrue, not, ◌==◌, if◌then◌else◌, slice_get, slice_set}
use Rattle.std.specs.Int.{int_min, int_max}
use Rattle.std.proofs.lemmas.Bool.{cases_eq, cond-true, cond-false, eq-eqb, ne_eqb}
use Rattle.std.proofs.lemmas.List.Elements.{All-head}
use Rattle.c_syntax_written.specs.declared.int_type.IntType.{IntType}
use Rattle.block_mem.specs.declared.types.Scalar.{Scalar}
use Rattle.block_mem.specs.declared.types.Scalar.TheVariants as scalars
use Rattle.ext_int.specs.declared.Ext.TheVariants.{Fin}
use Rattle.ext_int.proofs.Ends.{int_le-true, AtMost-from_below, AtMost-from_above, AtMost_trans, number_between}
use Rattle.num_api.specs.declared.message.Range.{Range}
use Rattle.num_api.specs.declared.expr.NOp.TheVariants as ops
use Rattle.num_api.specs.Plain.{Standing, standing, turned, cut, excludes}
use Rattle.num_api.specs.Ranges.{NoWider, holds_some, common}
use Rattle.num_api.specs.Spans.{Span, span, range_of}
use Rattle.num_api.proofs.Parts.{wider, as_wide}
use Rattle.machine_nums.specs.MExprs.{MExprTree}
use Rattle.machine_nums.specs.MExprs as numbers
use Rattle.machine_nums.specs.Rule.{type_span, value_span, side_variable, cut_side, cut_sides, tested}
use Rattle.csharp.specs.Trees.{CsExprTree, CsProgramTree}
use Rattle.csharp.specs.Trees as code
use Rattle.csharp.specs.Formed.{AreOperandsTyped}
use Rattle.mem_api.specs.Abstract.{IsBelow}
use Rattle.mem_api.specs.Given.{IsOf}
use Rattle.plain_runs.specs.States.{Passed, Plain, given, span_of}
use Rattle.plain_runs.specs.Changes.{with_temp, if_passed, source_of, plain_set, plain_input, between, with_cuts, cut_temps, has_numbers, behind_test, plain_test}
use Rattle.plain_runs.specs.Numbers.{number_expr}
use Rattle.csharp.specs.SameExprs.{is_same_expr}
use Rattle.mem_temps.specs.Operators.{LiesIn}
use Rattle.mem_temps.specs.Ranges.{range_at, AreInside, AreUnder}
use Rattle.mem_temps.proofs.Lists.{set_here, set_elsewhere}
use Rattle.mem_temps.proofs.Ranged.{map_some}
use Rattle.mem_temps.specs.Cuts.{IsTestCut, AreCut}
use Rattle.mem_temps.proofs.Kept.{inside_below}
use Rattle.mem_objects.specs.declared.cells.KnownCell.{KnownCell}
use Rattle.mem_objects.specs.Cells.{cut_by, are_cells_left}
use Rattle.mem_objects.specs.Under as objects
use Rattle.mem_objects.proofs.CutUnder.{behind, test_under as cells_tested}
use Rattle.mem_intervals.specs.Known.{IsKnownRange}
use Rattle.mem_intervals.specs.Passed.{Remembered}
use Rattle.mem_intervals.specs.Under.{IsUnderPlain, PassesUnder}

-- ---- below what is left

pub below_from : {M : Type 0} (under : M → Plain → Type 0) (live : Bool) (m : M) (r : Option Plain) → (IsTrue live → (x : Plain) × (r ≡ Some x) × under m x)
    → IsBelow under live m r
below_from under false m r h = tt
below_from under true m None h = let x = h refl in absurd (cc (x.1))
below_from under true m (Some p) h = let x = h refl in let same : x.0 ≡ p = cc (x.1) in subst (under m) same x.2

-- a plain state of which nothing has passed
pub under_anew : (types : List Scalar) (rs new : List Range) (passed left : Option Remembered) (p r : Plain) → IsUnderPlain types rs passed p
    → AreInside types new → AreUnder types new r → r.passed ≡ None → IsUnderPlain types new left r
under_anew types rs new passed left p r h inside under gone = record {
  inside = inside;
  under = under;
  passes = λ x e. absurd (clash x e);
}
  where
    clash : (x : Passed) → r.passed ≡ Some x → ⊥
    clash x e = cc

-- ---- a temporary

module _ (types : List Scalar) (rs : List Range) (d : ℕ) (r : Range) (ty : Scalar) (here : slice_get types d ≡ Some ty) (ins : AreInside types rs) where
  own : (k : ℕ) (t : IntType) → slice_get types k ≡ Some (scalars.Int t) → k ≡ d → ty ≡ scalars.Int t
  own k t g same = let at : slice_get types d ≡ Some (scalars.Int t) = subst (λ (x : ℕ). slice_get types x ≡ Some (scalars.Int t)) same g in
      let e : Some ty ≡ Some (scalars.Int t) = sym here ∙ at in cc

  at_here : (k : ℕ) (t : IntType) → slice_get types k ≡ Some (scalars.Int t) → k ≡ d → range_at (slice_set rs d r) k ≡ r
  at_here k t g same = ap (range_at (slice_set rs d r)) same
      ∙ set_here rs d r (inside_below types rs d t ins (subst (λ (x : ℕ). slice_get types x ≡ Some (scalars.Int t)) same g))

  pub put_inside : ((t : IntType) → ty ≡ scalars.Int t → LiesIn t r) → AreInside types (slice_set rs d r)
  put_inside lies = λ k t g. ⊎_elim
      (λ same. subst (LiesIn t) (sym (at_here k t g same)) (lies t (own k t g same)))
      (λ apart. subst (LiesIn t) (sym (set_elsewhere rs d k r apart)) (ins k t g)) (cases_eq k d)

  pub put_under : (p : Plain) (s : Span) (f : ℕ → Span) → ((k : ℕ) → f k ≡ (if k == d then s else p.temps k)) → AreUnder types rs p
      → ((t : IntType) → ty ≡ scalars.Int t → NoWider r (range_of s)) → (k : ℕ) (t : IntType) → slice_get types k ≡ Some (scalars.Int t)
      → NoWider (range_at (slice_set rs d r) k) (range_of (f k))
  put_under p s f is und at k t g = ⊎_elim
      (λ same. subst (λ (x : Range). NoWider x (range_of (f k))) (sym (at_here k t g same))
      (subst (λ (z : Span). NoWider r (range_of z)) (sym (is k ∙ cond-true (k == d) s (p.temps k) (eq-eqb k d same))) (at t (own k t g same))))
      (λ apart. subst (λ (x : Range). NoWider x (range_of (f k))) (sym (set_elsewhere rs d k r apart))
      (subst (λ (z : Span). NoWider (range_at rs k) (range_of z)) (sym (is k ∙ cond-false (k == d) s (p.temps k) (ne_eqb k d apart))) (und k t g))) (cases_eq k d)

-- another span at a temporary
pub temp_put : (types : List Scalar) (rs : List Range) (passed left : Option Remembered) (p : Plain) (d : ℕ) (r : Range) (s : Span) (source : Option ℕ)
    (ty : Scalar) → IsUnderPlain types rs passed p → slice_get types d ≡ Some ty → ((t : IntType) → ty ≡ scalars.Int t → LiesIn t r)
    → ((t : IntType) → ty ≡ scalars.Int t → NoWider r (range_of s)) → IsUnderPlain types (slice_set rs d r) left (with_temp p d s source)
temp_put types rs passed left p d r s source ty h here lies at = under_anew types rs (slice_set rs d r) passed left p (with_temp p d s source) h
    (put_inside types rs d r ty here h.inside lies)
    (λ k t g. put_under types rs d r ty here h.inside p s (λ k. if k == d then s else p.temps k) (λ k. refl) h.under at k t g)
    refl

-- the numbers of an expression that may have passed
set_span : (q : CsProgramTree) (rs : List Range) (passed : Option Remembered) (e : CsExprTree) (found : Range) (p : Plain) → AreOperandsTyped q e
    → IsKnownRange rs passed e found → AreInside q.temps rs → AreUnder q.temps rs p → PassesUnder passed p.passed → (s : Span)
    → if_passed p.passed e (span_of q.temps p e) ≡ Some s → NoWider found (range_of s)
set_span q rs passed e found p typed f ins und under s h = by p.passed refl h where
  ruled : span_of q.temps p e ≡ Some s → NoWider found (range_of s)
  ruled k = let m = map_some (value_span (given p)) (number_expr q.temps e) s k in
      subst (λ (z : Span). NoWider found (range_of z)) m.2 (f.plain q p m.0 typed ins und m.1)

  by : (o : Option Passed) → p.passed ≡ o → if_passed o e (span_of q.temps p e) ≡ Some s → NoWider found (range_of s)
  by None is k = ruled k
  by (Some x) is k = test (is_same_expr x.expr e) refl k where
    test : (b : Bool) → is_same_expr x.expr e ≡ b → (if b then Some x.numbers else span_of q.temps p e) ≡ Some s → NoWider found (range_of s)
    test false same k = ruled k
    test true same k =
        let u = under x is in
        let one : x.numbers ≡ s = cc in
        subst (λ (z : Span). NoWider found (range_of z)) one
        (wider found u.0.range (range_of x.numbers) (f.passes u.0 u.1 (ap (λ y. is_same_expr y e) u.2 ∙ same)) u.3)

pub set_under : (q : CsProgramTree) (types : List Scalar) (rs new : List Range) (passed left : Option Remembered) (d : ℕ) (e : CsExprTree)
    (found : Range) → q.temps ≡ types → new ≡ slice_set rs d found → IsOf q (code.Set d e) → IsKnownRange rs passed e found → (p r : Plain)
    → IsUnderPlain types rs passed p → plain_set types p d e ≡ Some r → IsUnderPlain types new left r
set_under q types rs new passed left d e found same is given f p r h g =
    subst (λ (xs : List Range). IsUnderPlain types xs left r) (sym is)
    (subst (λ (ts : List Scalar). IsUnderPlain ts rs passed p → plain_set ts p d e ≡ Some r → IsUnderPlain ts (slice_set rs d found) left r) same
    (λ h g.
    let typed = All-head (AreOperandsTyped q) e [] given.typed.0 in
    let row = given.typed.1 in
    let s = map_some (λ s. with_temp p d s (source_of p e)) (if_passed p.passed e (span_of q.temps p e)) r g in
    subst (IsUnderPlain q.temps (slice_set rs d found) left) s.2
    (temp_put q.temps rs passed left p d found s.0 (source_of p e) row.0 h row.2
    (λ t k. f.inside q t typed h.inside (row.1 ∙ ap Some k))
    (λ t k. set_span q rs passed e found p typed f h.inside h.under h.passes s.0 s.1))) h g)

pub input_under : (q : CsProgramTree) (types : List Scalar) (rs new : List Range) (passed left : Option Remembered) (d : ℕ) (t : IntType)
    → q.temps ≡ types → new ≡ slice_set rs d (range_of (type_span t)) → IsOf q (code.Input d t) → (p r : Plain) → IsUnderPlain types rs passed p
    → plain_input p d t ≡ Some r → IsUnderPlain types new left r
input_under q types rs new passed left d t same is given p r h g =
    let one : with_temp p d (type_span t) None ≡ r = cc in
    subst (λ (xs : List Range). IsUnderPlain types xs left r) (sym is)
    (subst (IsUnderPlain types (slice_set rs d (range_of (type_span t))) left) one
    (temp_put types rs passed left p d (range_of (type_span t)) (type_span t) None (scalars.Int t) h
    (subst (λ (ts : List Scalar). slice_get ts d ≡ Some (scalars.Int t)) same given.typed.1)
    (λ u k. let own : t ≡ u = cc in subst (λ (x : IntType). LiesIn x (range_of (type_span t))) own (as_wide (range_of (type_span t))))
    (λ u k. as_wide (range_of (type_span t)))))

-- ---- tests

-- intervals behind a test are intervals
cut_fin : (f : ℕ → Range) (o : Option ℕ) (how : Standing) (s t : Span) → ((d : ℕ) → (z : Span) × (f d ≡ range_of z)) → (d : ℕ) → (z : Span)
    × (cut_side f o how s t d ≡ range_of z)
cut_fin f None how s t fin d = fin d
cut_fin f (Some x) how s t fin d = ⊎_elim
    (λ same. let z = fin x in (
      span (int_max z.0.lo (cut how s t).lo) (int_min z.0.hi (cut how s t).hi),
      cond-true (d == x) (common (f x) (range_of (cut how s t))) (f d) (eq-eqb d x same) ∙ ap (λ (r : Range). common r (range_of (cut how s t))) z.1,
    ))
    (λ apart. let z = fin d in (z.0, cond-false (d == x) (common (f x) (range_of (cut how s t))) (f d) (ne_eqb d x apart) ∙ z.1)) (cases_eq d x)

sides_fin : (f : ℕ → Range) (a b : Option ℕ) (o : Option Standing) (s t : Span) → ((d : ℕ) → (z : Span) × (f d ≡ range_of z)) → (d : ℕ) → (z : Span)
    × (cut_sides f a b o s t d ≡ range_of z)
sides_fin f a b None s t fin d = fin d
sides_fin f a b (Some how) s t fin d = cut_fin (cut_side f a how s t) b (turned how) t s (λ k. cut_fin f a how s t fin k) d

tested_fin : (p : Plain) (m : MExprTree) (truth : Bool) (d : ℕ) → (z : Span) × (tested (given p) m truth d ≡ range_of z)
tested_fin p (numbers.Const t n) truth d = (p.temps d, refl)
tested_fin p (numbers.Read x t) truth d = (p.temps d, refl)
tested_fin p (numbers.Convert t a) truth d = (p.temps d, refl)
tested_fin p (numbers.Unary ops.Not t a) truth d = tested_fin p a (not truth) d
tested_fin p (numbers.Unary op t a) truth d = (p.temps d, refl)
tested_fin p (numbers.Binary op t a b) truth d =
    sides_fin (given p) (side_variable (given p) a) (side_variable (given p) b) (standing op truth) (value_span (given p) a) (value_span (given p) b)
    (λ k. (p.temps k, refl)) d

behind_is : (p : Plain) (m : MExprTree) (truth : Bool) (d : ℕ) → tested (given p) m truth d ≡ range_of (behind p m truth d)
behind_is p m truth d =
    let z = tested_fin p m truth d in
    z.1 ∙ ap (λ (r : Range). range_of (between r.lo r.hi (p.temps d))) (sym z.1)

-- a range with numbers lies in an interval with numbers
pub some_numbers : (r : Range) (s : Span) → IsTrue (holds_some r) → NoWider r (range_of s) → has_numbers s ≡ true
some_numbers r s here w =
    let n = number_between r.lo r.hi here in
    int_le-true s.lo s.hi (AtMost_trans (Fin s.lo) r.lo (Fin s.hi) w.low (AtMost_trans r.lo (Fin n.0) (Fin s.hi) (AtMost-from_below r.lo n.0 n.1)
    (AtMost_trans (Fin n.0) r.hi (Fin s.hi) (AtMost-from_above r.hi n.0 n.2) w.high)))

in_all : (P : ℕ → Type 0) (xs : List ℕ) (d : ℕ) → All P xs → Contains xs d → P d
in_all P xs d all c = subst P c.2 (all c.0 d c.1)

module _ (q : CsProgramTree) (rs : List Range) (passed left : Option Remembered) (e : CsExprTree) (truth some : Bool) (new : List Range)
    (p : Plain) (h : IsUnderPlain q.temps rs passed p) (typed : AreOperandsTyped q e) (f : IsTestCut rs e truth some new)
    (m : MExprTree) (is : number_expr q.temps e ≡ Some m) (here : IsTrue some) where
  cuts : AreCut q.temps new p m truth
  cuts = f.plain q p m typed h.inside h.under is here

  cut_under : (d : ℕ) (t : IntType) → slice_get q.temps d ≡ Some (scalars.Int t) → NoWider (range_at new d) (range_of (behind p m truth d))
  cut_under d t g = subst (NoWider (range_at new d)) (behind_is p m truth d) (cuts.under d t g)

  test_left : IsUnderPlain q.temps new left (with_cuts p (behind p m truth) (cut_temps (given p) m truth))
  test_left = under_anew q.temps rs new passed left p (with_cuts p (behind p m truth) (cut_temps (given p) m truth)) h
      (λ d t g. wider (range_at new d) (range_at rs d) _ (f.narrow d) (h.inside d t g)) cut_under refl

  abbrev IsLeft : ℕ → Type 0
  IsLeft d = IsTrue (holds_some (range_at new d)) × (t : IntType) × (slice_get q.temps d ≡ Some (scalars.Int t))

  -- each temporary that is cut has numbers left, in its interval
  each_left : (d : ℕ) → Contains (cut_temps (given p) m truth) d → NoWider (range_at new d) (range_of (behind p m truth d)) × IsTrue (holds_some (range_at new d))
  each_left d c = let k = in_all IsLeft (cut_temps (given p) m truth) d cuts.some c in (cut_under d k.1 k.2, k.0)

  is_typed : (d : ℕ) → Contains (cut_temps (given p) m truth) d → (t : IntType) × (slice_get q.temps d ≡ Some (scalars.Int t))
  is_typed d c = let k = in_all IsLeft (cut_temps (given p) m truth) d cuts.some c in (k.1, k.2)

-- where the rule does not exclude the truth, and numbers are left, the plain run goes on, with no less
pub test_under : (q : CsProgramTree) (types : List Scalar) (rs new : List Range) (passed left : Option Remembered) (e : CsExprTree)
    (truth some : Bool) (cells : List (Option KnownCell)) (copies : List (Option ℕ)) (es : List ℕ) → q.temps ≡ types → AreOperandsTyped q e
    → IsTestCut rs e truth some new
    → ((p : Plain) (m : MExprTree) → AreInside q.temps rs → AreUnder q.temps rs p → number_expr q.temps e ≡ Some m → IsTrue (excludes truth (value_span (given p) m)) → ⊥)
    → ((d : ℕ) (t : IntType) → slice_get types d ≡ Some (scalars.Int t) → Contains es d) → (p : Plain) (r : Option Plain) → objects.AreUnder cells copies p
    → IsUnderPlain types rs passed p → plain_test types p e truth ≡ Some r → IsTrue some → IsTrue (are_cells_left copies es (cut_by copies new es cells))
    → (x : Plain) × (r ≡ Some x) × IsUnderPlain types new left x × objects.AreUnder (cut_by copies new es cells) copies x
test_under q types rs new passed left e truth some cells copies es same typed f never among p r known h g here numbers_left =
    subst (λ (ts : List Scalar). ((d : ℕ) (t : IntType) → slice_get ts d ≡ Some (scalars.Int t) → Contains es d) → IsUnderPlain ts rs passed p
    → plain_test ts p e truth ≡ Some r
    → (x : Plain) × (r ≡ Some x) × IsUnderPlain ts new left x × objects.AreUnder (cut_by copies new es cells) copies x) same
    (λ among h g.
    let m = map_some (behind_test p truth) (number_expr q.temps e) r g in
    let out = not_true (excludes truth (value_span (given p) m.0)) (never p m.0 h.inside h.under m.1) in
    let goes = cells_tested cells copies new p known m.0 truth es
    (λ d c. let k = is_typed q rs passed left e truth some new p h typed f m.0 m.1 here d c in among d k.0 k.1) out
    (each_left q rs passed left e truth some new p h typed f m.0 m.1 here) numbers_left in (
      with_cuts p (behind p m.0 truth) (cut_temps (given p) m.0 truth),
      sym m.2 ∙ goes.0,
      test_left q rs passed left e truth some new p h typed f m.0 m.1 here,
      goes.1,
    )) among h g
  where
    not_true : (b : Bool) → (IsTrue b → ⊥) → b ≡ false
    not_true true k = absurd (k refl)
    not_true false k = refl
