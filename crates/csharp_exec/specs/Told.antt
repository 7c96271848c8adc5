-- What outcomes of the code say.
use Rattle.std.specs.Prelude.{ℕ, Bool, Option, Some, None}
use Rattle.csharp.specs.States.{State}
use Rattle.csharp.specs.Outcomes as pure
use Rattle.csharp.specs.Meaning as meaning
use Rattle.csharp.specs.Meaning.{never, beyond}
use Rattle.csharp_state.specs.Answers.{operand_of}
use Rattle.csharp_exec.specs.declared.outcome.Way.{Way}
use Rattle.csharp_exec.specs.declared.outcome.Way.TheVariants as ways
use Rattle.csharp_exec.specs.declared.outcome.Outcome.{Outcome}
use Rattle.csharp_exec.specs.declared.outcome.Outcome.TheVariants as outcomes
use Rattle.csharp_exec.specs.declared.marks.Mark.{Mark}
use Rattle.csharp_exec.specs.declared.marks.Mark.TheVariants as marks

abbrev pub way_of : Way → pure.Way
way_of (ways.Exit level) = pure.ByExit level
way_of (ways.Goto label) = pure.ByGoto label
way_of (ways.Return v) = pure.ByReturn v

-- an outcome, with the state behind it
abbrev pub told : Outcome → State → pure.Outcome
told outcomes.Normal s = pure.Normal s
told (outcomes.Leaves way) s = pure.Leaves (way_of way) s
told (outcomes.Fails f) s = pure.Fails f.chain f.place f.kind (operand_of f.operand) s.memory
told outcomes.Waiting s = pure.Waiting
told outcomes.Stopped s = pure.Stopped
told outcomes.Stuck s = pure.Stuck
told outcomes.Clash s = pure.Clash
told outcomes.NoFuel s = pure.NoFuel
told outcomes.Over s = pure.Over

-- how many turns are enough
abbrev pub over_of : Option ℕ → ℕ → Bool
over_of None = never
over_of (Some bound) = beyond bound

abbrev pub mark_of : Mark → meaning.Mark
mark_of (marks.Label label) = meaning.AtLabel label
mark_of (marks.Case n) = meaning.AtCase n
mark_of marks.Default = meaning.AtDefault
