-- For what the rules refuse a program, without what no text tells of it.
use Rattle.std.specs.Prelude.{ℕ, List, Option, Some, None}
use Rattle.c_syntax_written.specs.declared.place.Pos.{Pos}
use Rattle.c_layout.specs.Calls.{PlacedCall}
use Rattle.c_rules.specs.declared.error.RuleError.{RuleError}
use Rattle.c_rules.specs.declared.error.RuleError.TheVariants as errors

pub data RuleRefusal : Type 0 where
  Unsequenced : Pos → RuleRefusal
  Recursion : List PlacedCall → RuleRefusal
  NoMain : RuleRefusal
  UndefinedFunction : Pos → RuleRefusal
  TooDeepCalls : List PlacedCall → RuleRefusal
  TooLarge : ℕ → RuleRefusal
  GotoIntoBlock : Pos → RuleRefusal

-- the refusal that an error tells; out of memory tells none
abbrev pub refusal_of : RuleError → Option RuleRefusal
refusal_of (errors.Unsequenced at left right) = Some (Unsequenced at)
refusal_of (errors.Recursion calls) = Some (Recursion calls)
refusal_of errors.NoMain = Some NoMain
refusal_of (errors.UndefinedFunction at) = Some (UndefinedFunction at)
refusal_of (errors.TooDeepCalls calls) = Some (TooDeepCalls calls)
refusal_of (errors.TooLarge size) = Some (TooLarge size)
refusal_of (errors.GotoIntoBlock at) = Some (GotoIntoBlock at)
refusal_of errors.NoMemory = None
