-- What is asked of the range of an expression in a set: the same as of its range by the ranges alone, in the states of the set.
use Rattle.std.specs.Prelude.{◌≡◌, true, List, Option, Some}
use Rattle.c_syntax_written.specs.declared.int_type.IntType.{IntType}
use Rattle.block_mem.specs.declared.types.Scalar.TheVariants as scalars
use Rattle.block_mem.specs.declared.types.Value.{Value}
use Rattle.num_api.specs.declared.message.Range.{Range}
use Rattle.num_api.specs.Ranges.{InRange, IsPoint, NoWider}
use Rattle.num_api.specs.Spans.{range_of}
use Rattle.machine_nums.specs.MExprs.{MExprTree}
use Rattle.machine_nums.specs.Rule.{value_span}
use Rattle.csharp.specs.Trees.{CsExprTree, CsProgramTree}
use Rattle.csharp.specs.Formed.{AreOperandsTyped, HasType}
use Rattle.csharp.specs.States.{State, value_of}
use Rattle.plain_runs.specs.States.{Plain, given}
use Rattle.plain_runs.specs.Numbers.{number_expr}
use Rattle.csharp.specs.SameExprs.{is_same_expr}
use Rattle.mem_temps.specs.Values.{number_of, IsNoObject}
use Rattle.mem_temps.specs.Operators.{LiesIn}
use Rattle.mem_temps.specs.Ranges.{AreIn, AreAll, AreInside, AreUnder}
use Rattle.mem_intervals.specs.Passed.{Remembered, IsPassed}

-- of an expression that has passed just now it holds no more than what passed
pub record IsKnownRange (ranges : List Range) (passed : Option Remembered) (e : CsExprTree) (found : Range) : Type 0 where
  pub holds : (s : State) (v : Value) → AreIn ranges s → IsPassed passed s → value_of e s ≡ Some v → InRange found (number_of v)
  pub point : (q : CsProgramTree) (s : State) (v : Value) → AreOperandsTyped q e → AreInside q.temps ranges → AreAll ranges s → AreIn ranges s → IsPassed passed s
      → value_of e s ≡ Some v → IsPoint found (number_of v) × IsNoObject v
  pub inside : (q : CsProgramTree) (t : IntType) → AreOperandsTyped q e → AreInside q.temps ranges → HasType q (scalars.Int t) e → LiesIn t found
  pub plain : (q : CsProgramTree) (p : Plain) (m : MExprTree) → AreOperandsTyped q e → AreInside q.temps ranges → AreUnder q.temps ranges p
      → number_expr q.temps e ≡ Some m → NoWider found (range_of (value_span (given p) m))
  pub passes : (r : Remembered) → passed ≡ Some r → is_same_expr r.expr e ≡ true → NoWider found r.range
