-- What tests and checks that pass leave of a set.
use Rattle.std.proofs.Common.{◌≡◌, ◌<◌, ℕ, zero, suc, Bool, true, false, arith, refl, sym, subst, ◌∙◌, ⊎_elim, List, [], ◌∷◌, length, Option, Some, None}
use Rattle.std.specs.Prelude.{Contains, IsTrue, ◌&&◌, option_map, slice_set}
use Rattle.std.proofs.lemmas.Bool.{cases_eq, cases_lt}
use Rattle.std.proofs.lemmas.List.{length-set}
use Rattle.std.proofs.lemmas.List.Elements.{Contains-append_left, Contains-append_right}
use Rattle.ext_int.proofs.Ends.{lesser_first, greater_first}
use Rattle.c_syntax.specs.Types.{ObjectTree}
use Rattle.block_mem.specs.declared.types.Scalar.{Scalar}
use Rattle.num_api.specs.declared.message.Range.{Range}
use Rattle.csharp.specs.States.{State}
use Rattle.plain_runs.specs.States.{Plain}
use Rattle.num_api.proofs.Parts.{wider}
use Rattle.mem_temps.specs.Operators.{LiesIn}
use Rattle.mem_temps.specs.Ranges.{range_at, AreIn}
use Rattle.mem_temps.specs.Sets.{Stands}
use Rattle.mem_temps.proofs.Ranged.{map_some}
use Rattle.mem_objects.specs.declared.cells.KnownCell.{KnownCell}
use Rattle.mem_objects.specs.Cells.{cell_of, cut_by, cut_one, narrowed, are_cells_left}
use Rattle.mem_objects.specs.Copies.{copy_of}
use Rattle.mem_objects.specs.Known.{AreKnown}
use Rattle.mem_objects.specs.Under.{AreUnder}
use Rattle.mem_objects.proofs.Cutting.{cut_known, left_known}
use Rattle.mem_objects.proofs.Lists.{put_here, put_apart}
use Rattle.mem_objects.proofs.Passing as objects
use Rattle.mem_intervals.specs.Passed.{Remembered, IsPassed}
use Rattle.mem_intervals.specs.declared.temps.Temps.{Temps}
use Rattle.mem_intervals.specs.Sets.{IsIn, IsUnder, IsDeclared, AreDeclared, below}
use Rattle.mem_intervals.specs.Under.{IsUnderPlain}
use Rattle.mem_intervals.proofs.Knowing.{none_passed}
use Rattle.mem_intervals.proofs.Outcomes.{stands_narrow}
use Rattle.mem_intervals.proofs.Surviving.{KeepsObjects}

-- three that are true
pub all_three : (a b c d : Bool) → d ≡ (a && (b && c)) → IsTrue (a && b) → IsTrue c → d ≡ true
all_three true true true d e h k = e
all_three true true false d e h k = absurd (cc)
all_three true false c d e h k = absurd (cc)
all_three false b c d e h k = absurd (cc)

-- of three that are true the first two
pub first_two : (a b c d : Bool) → d ≡ (a && (b && c)) → IsTrue d → IsTrue (a && b)
first_two true true c d e h = refl
first_two true false c d e h = sym e ∙ h
first_two false b c d e h = sym e ∙ h

pub both_live : (a c d : Bool) → d ≡ (a && c) → IsTrue a → IsTrue c → d ≡ true
both_live true true d e h k = e
both_live true false d e h k = absurd (cc)
both_live false c d e h k = absurd (cc)

module _ (os : List ObjectTree) (ts kinds : List Scalar) (rs new : List Range) (passed left : Option Remembered) (cells : List (Option KnownCell))
    (copies : List (Option ℕ)) (same : kinds ≡ ts) where
  -- other ranges, and another result that has passed, of the same state
  pub in_passed : (one : Option State) (s : State) → IsIn os ts rs passed cells copies one s → Stands (length os) ts new s → IsPassed left s
      → IsIn os kinds new left cells copies one s
  in_passed one s h stands passes = subst (λ (k : List Scalar). IsIn os k new left cells copies one s) (sym same)
      (record { temps = stands; passes = passes; known = h.known; same = h.same })

  -- and a plain state that knows the same of objects
  pub under_passed : (p x : Plain) → IsUnder os ts rs passed cells copies p → IsUnderPlain ts new left x → KeepsObjects p x → IsUnder os kinds new left cells copies x
  under_passed p x h temps keeps = subst (λ (k : List Scalar). IsUnder os k new left cells copies x) (sym same) (record {
    temps = temps;
    known = objects.same_under cells copies p x (record { objects = keeps.0; copies = keeps.1 }) h.known;
    declared = h.declared;
    sizes = h.sizes;
    cell_count = h.cell_count;
    copy_count = h.copy_count;
  })

-- ---- the same set in other words

module _ (a b : List ObjectTree) (t u : Temps) (c d : List (Option KnownCell)) (k l : List (Option ℕ)) (os : b ≡ a) (temps : u ≡ t) (cells : d ≡ c) (copies : l ≡ k) where
  pub in_same : (m n : Option State) (s : State) → n ≡ m → IsIn a t.types t.ranges t.passed c k m s → IsIn b u.types u.ranges u.passed d l n s
  in_same m n s one h =
      subst (λ (x : List ObjectTree). IsIn x u.types u.ranges u.passed d l n s) (sym os)
      (subst (λ (x : Temps). IsIn a x.types x.ranges x.passed d l n s) (sym temps)
      (subst (λ (x : List (Option KnownCell)). IsIn a t.types t.ranges t.passed x l n s) (sym cells)
      (subst (λ (x : List (Option ℕ)). IsIn a t.types t.ranges t.passed c x n s) (sym copies)
      (subst (λ (x : Option State). IsIn a t.types t.ranges t.passed c k x s) (sym one) h))))

  pub under_same : (p : Plain) → IsUnder a t.types t.ranges t.passed c k p → IsUnder b u.types u.ranges u.passed d l p
  under_same p h =
      subst (λ (x : List ObjectTree). IsUnder x u.types u.ranges u.passed d l p) (sym os)
      (subst (λ (x : Temps). IsUnder a x.types x.ranges x.passed d l p) (sym temps)
      (subst (λ (x : List (Option KnownCell)). IsUnder a t.types t.ranges t.passed x l p) (sym cells)
      (subst (λ (x : List (Option ℕ)). IsUnder a t.types t.ranges t.passed c x p) (sym copies) h)))

-- ---- tests

-- cuts leave declared what they leave
cut_declared : (os : List ObjectTree) (copies : List (Option ℕ)) (rs : List Range) (ds : List ℕ) (cells : List (Option KnownCell)) → AreDeclared os cells
    → AreDeclared os (cut_by copies rs ds cells)
cut_declared os copies rs [] cells h = h
cut_declared os copies rs (d ∷ ds) cells h = cut_declared os copies rs ds (cut_one (copy_of copies d) (range_at rs d) cells) (one (copy_of copies d)) where
  narrow : (c : KnownCell) (r : Range) (x : ℕ) → IsDeclared os x c × LiesIn c.ty c.range → IsDeclared os x (narrowed r c) × LiesIn c.ty (narrowed r c).range
  narrow c r x k = (
    record { object = k.0.object; is = k.0.is; typed = k.0.typed; mark = k.0.mark },
    wider (narrowed r c).range c.range _ (record { low = greater_first c.range.lo r.lo; high = lesser_first c.range.hi r.hi }) k.1,
  )

  one : (o : Option ℕ) → AreDeclared os (cut_one o (range_at rs d) cells)
  one None = h
  one (Some y) = λ x c f. ⊎_elim
      (λ same.
      let here : cell_of (slice_set cells y (option_map (narrowed (range_at rs d)) (cell_of cells y))) y ≡ Some c =
      subst (λ (i : ℕ). cell_of (slice_set cells y (option_map (narrowed (range_at rs d)) (cell_of cells y))) i ≡ Some c) same f in
      let old = map_some (narrowed (range_at rs d)) (cell_of cells y) c (put_here cells y (option_map (narrowed (range_at rs d)) (cell_of cells y)) c here) in
      subst (λ (k : KnownCell). IsDeclared os x k × LiesIn k.ty k.range) old.2
      (subst (λ (i : ℕ). IsDeclared os i (narrowed (range_at rs d) old.0) × LiesIn old.0.ty (narrowed (range_at rs d) old.0).range) (sym same)
      (narrow old.0 (range_at rs d) y (h y old.0 old.1))))
      (λ ne. h x c (sym (put_apart cells y x (option_map (narrowed (range_at rs d)) (cell_of cells y)) ne) ∙ f)) (cases_eq x y)

cut_count : (copies : List (Option ℕ)) (rs : List Range) (ds : List ℕ) (cells : List (Option KnownCell)) → length (cut_by copies rs ds cells) ≡ length cells
cut_count copies rs [] cells = refl
cut_count copies rs (d ∷ ds) cells = cut_count copies rs ds (cut_one (copy_of copies d) (range_at rs d) cells) ∙ one (copy_of copies d) where
  one : (o : Option ℕ) → length (cut_one o (range_at rs d) cells) ≡ length cells
  one None = refl
  one (Some y) = length-set cells y (option_map (narrowed (range_at rs d)) (cell_of cells y))

module _ (os : List ObjectTree) (ts kinds : List Scalar) (rs new : List Range) (passed left : Option Remembered) (cells : List (Option KnownCell))
    (copies : List (Option ℕ)) (same : kinds ≡ ts) (gone : left ≡ None) (ds : List ℕ) where
  known_cut : (one : Option State) (s : State) → IsIn os ts rs passed cells copies one s → AreIn new s → AreKnown os (cut_by copies new ds cells) copies s
  known_cut one s h all = cut_known os copies s ds cells new h.known all

  -- a state that passes a test is one of what is left
  pub in_tested : (one : Option State) (s : State) → IsIn os ts rs passed cells copies one s → AreIn new s → IsIn os kinds new left (cut_by copies new ds cells) copies one s
  in_tested one s h all = subst (λ (k : List Scalar). IsIn os k new left (cut_by copies new ds cells) copies one s) (sym same)
      (record { temps = stands_narrow (length os) ts rs new s h.temps all; passes = none_passed left gone s; known = known_cut one s h all; same = h.same })

  pub numbers_left : (one : Option State) (s : State) → IsIn os ts rs passed cells copies one s → AreIn new s
      → IsTrue (are_cells_left copies ds (cut_by copies new ds cells))
  numbers_left one s h all = left_known os copies s (cut_by copies new ds cells) ds (known_cut one s h all)

  pub under_tested : (p x : Plain) → IsUnder os ts rs passed cells copies p → IsUnderPlain ts new left x → AreUnder (cut_by copies new ds cells) copies x
      → IsUnder os kinds new left (cut_by copies new ds cells) copies x
  under_tested p x h temps known = subst (λ (k : List Scalar). IsUnder os k new left (cut_by copies new ds cells) copies x) (sym same) (record {
    temps = temps;
    known = known;
    declared = cut_declared os copies new ds cells h.declared;
    sizes = h.sizes;
    cell_count = cut_count copies new ds cells ∙ h.cell_count;
    copy_count = h.copy_count;
  })

-- the numbers below one are those less than it
pub below_has : (n d : ℕ) → d < n → Contains (below n) d
below_has zero d h = absurd (omega (arith, h))
below_has (suc n) d h = ⊎_elim (λ less. Contains-append_left (below n) (n ∷ []) d (below_has n d less))
    (λ past. let same : n ≡ d = omega (arith, h, past) in Contains-append_right (below n) (n ∷ []) d (0, omega arith, same)) (cases_lt d n)

pub all_of_three : (a b c d : Bool) → d ≡ (a && (b && c)) → IsTrue a → IsTrue b → IsTrue c → d ≡ true
all_of_three true true true d e h k l = e
all_of_three true true false d e h k l = absurd (cc)
all_of_three true false c d e h k l = absurd (cc)
all_of_three false b c d e h k l = absurd (cc)
