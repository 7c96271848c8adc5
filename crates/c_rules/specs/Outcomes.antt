-- What two outcomes of one program have in common.
use Rattle.std.specs.Prelude.{◌≡◌, ◌≢◌, ℕ, Option, None, Some}
use Rattle.c_syntax_written.specs.declared.place.Pos.{Pos}
use Rattle.c_syntax.specs.Program.{TProgramTree}
use Rattle.c_rules.specs.declared.error.RuleError.{RuleError}
use Rattle.c_rules.specs.declared.error.RuleError.TheVariants as errors
use Rattle.c_rules.specs.Rules.{IsAdmitted, IsRefused}

-- the number of the question whose answer is no; out of memory answers none
abbrev pub question : RuleError → ℕ
question errors.NoMemory = 0
question errors.NoMain = 1
question (errors.UndefinedFunction at) = 2
question (errors.Recursion calls) = 3
question (errors.TooDeepCalls calls) = 4
question (errors.TooLarge n) = 5
question (errors.GotoIntoBlock at) = 6
question (errors.Unsequenced at left right) = 7

-- the one place that is told
abbrev pub told_place : RuleError → Option Pos
told_place (errors.UndefinedFunction at) = Some at
told_place (errors.GotoIntoBlock at) = Some at
told_place (errors.Unsequenced at left right) = Some at
told_place e = None

-- the size that is told
abbrev pub told_size : RuleError → Option ℕ
told_size (errors.TooLarge n) = Some n
told_size e = None

-- two refusals answer one question, at one place, and with one size. The calls and the effects that they tell of may differ
pub record IsSameRefusal (a b : RuleError) : Type 0 where
  pub question_is : question a ≡ question b
  pub place : told_place a ≡ told_place b
  pub size : told_size a ≡ told_size b

abbrev pub RefusalsAreOne : Type 0
RefusalsAreOne = (program : TProgramTree) (a b : RuleError) → IsRefused program a → IsRefused program b → question a ≢ 0 → question b ≢ 0 → IsSameRefusal a b

abbrev pub AdmittedIsNotRefused : Type 0
AdmittedIsNotRefused = (program : TProgramTree) (e : RuleError) → IsAdmitted program → IsRefused program e → question e ≡ 0
