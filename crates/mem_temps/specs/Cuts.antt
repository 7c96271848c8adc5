-- What tests and checks leave of the ranges of temporaries.
use Rattle.std.specs.Prelude.{◌≡◌, ℕ, ℤ, pos, Bool, true, IsTrue, List, All, Option, Some, None, slice_get, slice_set}
use Rattle.c_syntax.specs.declared.operator.Comparison.{Comparison}
use Rattle.c_syntax.specs.declared.operator.Comparison.TheVariants as comparisons
use Rattle.c_syntax_written.specs.declared.int_type.IntType.{IntType}
use Rattle.block_mem.specs.declared.types.Scalar.{Scalar}
use Rattle.block_mem.specs.declared.types.Scalar.TheVariants as scalars
use Rattle.block_mem.specs.declared.types.Value.{Value}
use Rattle.num_api.specs.declared.message.Range.{Range}
use Rattle.num_api.specs.declared.expr.NOp.{NOp}
use Rattle.num_api.specs.declared.expr.NOp.TheVariants as ops
use Rattle.num_api.specs.Plain.{Standing, standing, without}
use Rattle.num_api.specs.Ranges.{InRange, NoWider, holds_some}
use Rattle.num_api.specs.Spans.{Span, range_of}
use Rattle.num_api.specs.Value.{has_truth}
use Rattle.num_api.specs.Standings.{Stands}
use Rattle.c_syntax_written.specs.declared.int_type.IntType.TheVariants.{Int}
use Rattle.machine_nums.specs.MExprs.{MExprTree, Binary}
use Rattle.machine_nums.specs.Rule.{side_variable, tested}
use Rattle.csharp.specs.Trees.{CsExprTree, CsProgramTree}
use Rattle.csharp.specs.Formed.{AreOperandsTyped}
use Rattle.csharp.specs.States.{State, value_of}
use Rattle.plain_runs.specs.States.{Plain, given}
use Rattle.plain_runs.specs.Changes.{cut_temps}
use Rattle.plain_runs.specs.Numbers.{number_expr}
use Rattle.mem_temps.specs.Values.{number_of}
use Rattle.mem_temps.specs.Ranges.{range_at, AreIn, AreInside, AreUnder}

-- ---- numbers

-- the numbers of the range that the span has, and no others
pub record IsCutTo (r : Range) (s : Span) (found : Range) : Type 0 where
  pub holds : (n : ℤ) → InRange r n → InRange (range_of s) n → InRange found n
  pub first : NoWider found r
  pub second : NoWider found (range_of s)

-- those other than 0, by what the rule leaves
pub record IsCutNonzero (r found : Range) : Type 0 where
  pub holds : (n : ℤ) → InRange r n → (n ≡ pos 0 → ⊥) → InRange found n
  pub first : NoWider found r
  pub plain : (s : Span) → NoWider r (range_of s) → NoWider found (range_of (without (pos 0) s))

-- the numbers of both ranges
pub record IsMet (r s found : Range) : Type 0 where
  pub holds : (n : ℤ) → InRange r n → InRange s n → InRange found n
  pub first : NoWider found r
  pub second : NoWider found s

-- ---- sides

-- the temporary has the number of the expression; where the rule finds one, it is that
pub record IsSideOf (ranges : List Range) (e : CsExprTree) (found : Option ℕ) : Type 0 where
  pub holds : (d : ℕ) → found ≡ Some d → (s : State) (v : Value) → AreIn ranges s → value_of e s ≡ Some v
      → (u : Value) × (slice_get s.temps d ≡ Some u) × (number_of u ≡ number_of v)
  pub plain : (q : CsProgramTree) (p : Plain) (m : MExprTree) (x : ℕ) → AreOperandsTyped q e → AreInside q.temps ranges → AreUnder q.temps ranges p
      → number_expr q.temps e ≡ Some m → side_variable (given p) m ≡ Some x → (found ≡ Some x) × (t : IntType) × (slice_get q.temps x ≡ Some (scalars.Int t))

-- the temporary, where there is one, keeps the numbers that lie in the cut, and it is told whether there are any
abbrev pub IsKeptIn : List Range → Option ℕ → Range → Bool → List Range → Type 0
IsKeptIn ranges None cut some new = (new ≡ ranges) × (some ≡ true)
IsKeptIn ranges (Some x) cut some new = (left : Range) × IsMet (range_at ranges x) cut left × (new ≡ slice_set ranges x left) × (some ≡ holds_some left)

-- ---- tests

-- the ranges are no wider than those behind the test, and those of the temporaries that it cuts have numbers
pub record AreCut (types : List Scalar) (new : List Range) (p : Plain) (m : MExprTree) (truth : Bool) : Type 0 where
  pub under : (d : ℕ) (t : IntType) → slice_get types d ≡ Some (scalars.Int t) → NoWider (range_at new d) (tested (given p) m truth d)
  pub some : All (λ d. IsTrue (holds_some (range_at new d)) × (t : IntType) × (slice_get types d ≡ Some (scalars.Int t))) (cut_temps (given p) m truth)

-- what is left holds each state that goes on, and is no wider than before
pub record IsTestCut (ranges : List Range) (e : CsExprTree) (truth some : Bool) (new : List Range) : Type 0 where
  pub holds : (s : State) (v : Value) → AreIn ranges s → value_of e s ≡ Some v → IsTrue (has_truth truth (number_of v)) → IsTrue some × AreIn new s
  pub narrow : (d : ℕ) → NoWider (range_at new d) (range_at ranges d)
  pub plain : (q : CsProgramTree) (p : Plain) (m : MExprTree) → AreOperandsTyped q e → AreInside q.temps ranges → AreUnder q.temps ranges p
      → number_expr q.temps e ≡ Some m → IsTrue some → AreCut q.temps new p m truth

-- the same of both sides of an operator
pub record AreSidesCut (ranges : List Range) (op : NOp) (a b : CsExprTree) (truth some : Bool) (new : List Range) : Type 0 where
  pub holds : (how : Standing) (s : State) (v u : Value) → standing op truth ≡ Some how → AreIn ranges s → value_of a s ≡ Some v → value_of b s ≡ Some u
      → Stands how (number_of v) (number_of u) → IsTrue some × AreIn new s
  pub same : standing op truth ≡ None → (new ≡ ranges) × (some ≡ true)
  pub narrow : (d : ℕ) → NoWider (range_at new d) (range_at ranges d)
  pub plain : (q : CsProgramTree) (p : Plain) (l k : MExprTree) → AreOperandsTyped q a → AreOperandsTyped q b → AreInside q.temps ranges
      → AreUnder q.temps ranges p → number_expr q.temps a ≡ Some l → number_expr q.temps b ≡ Some k → IsTrue some → AreCut q.temps new p (Binary op Int l k) truth

-- a greater number stands on the left where the less stands on the right
abbrev pub IsComparisonCut : List Range → Comparison → CsExprTree → CsExprTree → Bool → Bool → List Range → Type 0
IsComparisonCut ranges comparisons.Less a b truth some new = AreSidesCut ranges ops.Lt a b truth some new
IsComparisonCut ranges comparisons.Greater a b truth some new = AreSidesCut ranges ops.Lt b a truth some new
IsComparisonCut ranges comparisons.AtMost a b truth some new = AreSidesCut ranges ops.Le a b truth some new
IsComparisonCut ranges comparisons.AtLeast a b truth some new = AreSidesCut ranges ops.Le b a truth some new
IsComparisonCut ranges comparisons.Equal a b truth some new = AreSidesCut ranges ops.Eq a b truth some new
IsComparisonCut ranges comparisons.Unequal a b truth some new = AreSidesCut ranges ops.Ne a b truth some new
