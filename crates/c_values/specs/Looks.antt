-- What a row looks at before it acts: its checks in their order, each with its operand.
use Rattle.std.specs.Prelude.{if◌then◌else◌, List, [], ◌∷◌, map, Option, None, Some}
use Rattle.c_syntax.specs.declared.alarm.Check.{Check}
use Rattle.c_syntax.specs.declared.alarm.WrongKind.{WrongKind}
use Rattle.c_syntax.specs.Types.{ObjectTree}
use Rattle.c_syntax.specs.Operand.{Operand}
use Rattle.c_syntax.specs.Failing.{fails}
use Rattle.block_mem.specs.declared.types.Value.{Value}

-- a check, and what it looks at now; nothing where the row is given what it does not take
pub record Look : Type 0 where
  pub check : Check
  pub operand : Option Operand

-- checks, of which each looks at the operand of its kind
abbrev pub looks : (WrongKind → Option Operand) → List Check → List Look
looks operand checks = map (λ check. record { check = check; operand = operand check.kind }) checks

-- all checks pass; or this is the first that fails, with its operand; or one that is reached has no operand
pub data Judged : Type 0 where
  Passes : Judged
  FailsAs : WrongKind → Operand → Judged
  NoOperand : Judged

abbrev pub judge_one : List ObjectTree → Check → Option Operand → Judged → Judged
judge_one objects check None rest = NoOperand
judge_one objects check (Some x) rest = if fails objects check x then FailsAs check.kind x else rest

-- what is found of looks, taken in their order
abbrev pub judge : List ObjectTree → List Look → Judged
judge objects [] = Passes
judge objects (look ∷ rest) = judge_one objects look.check look.operand (judge objects rest)

-- what an operator comes to: a value; what is wrong first, with its operand; or nothing at all, where an operand is not of the operator's type
pub data Outcome : Type 0 where
  Gives : Value → Outcome
  GoesWrong : WrongKind → Operand → Outcome
  IsStuck : Outcome

abbrev pub value_or_stuck : Option Value → Outcome
value_or_stuck None = IsStuck
value_or_stuck (Some v) = Gives v

-- the value, where the checks pass
abbrev pub outcome : Judged → Option Value → Outcome
outcome Passes v = value_or_stuck v
outcome (FailsAs k x) v = GoesWrong k x
outcome NoOperand v = IsStuck
