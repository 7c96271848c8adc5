-- For what a file is refused, as a tree without pointers, so that two refusals that read alike are one.
use Rattle.std.specs.Prelude.{ℕ, List, [], Option, Some, option_map}
use Rattle.c_syntax_written.specs.declared.place.Pos.{Pos}
use Rattle.c_syntax_written.specs.declared.construct.Construct.{Construct}
use Rattle.c_lexer.specs.declared.reason.Reason.{Reason}
use Rattle.c_typing.specs.World as typing
use Rattle.c_check_names.specs.Views.{refusal_of}
use Rattle.report.specs.RuleRefusals.{RuleRefusal, Recursion, TooDeepCalls}
use Rattle.report.specs.RuleRefusals as rules
use Rattle.report.specs.declared.refusal.Refusal.{Refusal}
use Rattle.report.specs.declared.refusal.Refusal.TheVariants as refusals

pub data RefusalTree : Type 0 where
  FileTooLarge : RefusalTree
  Lexing : Reason → Pos → RefusalTree
  Syntax : Pos → RefusalTree
  Unsupported : Construct → Pos → RefusalTree
  TooDeep : Pos → RefusalTree
  Typing : typing.Refusal → RefusalTree
  Rule : List (List ℕ) → RuleRefusal → RefusalTree

-- the refusal that a value of the code stands for; out of memory in typing or in the rules is none
abbrev pub refusal_tree : Refusal → Option RefusalTree
refusal_tree refusals.FileTooLarge = Some FileTooLarge
refusal_tree (refusals.Lexing reason at) = Some (Lexing reason at)
refusal_tree (refusals.Syntax at) = Some (Syntax at)
refusal_tree (refusals.Unsupported construct at) = Some (Unsupported construct at)
refusal_tree (refusals.TooDeep at) = Some (TooDeep at)
refusal_tree (refusals.Typing error) = option_map Typing (refusal_of error)
refusal_tree (refusals.Rule names error) = option_map (Rule names) (rules.refusal_of error)

-- the same without the calls that it tells of: a program may have several lists of calls that lead back, or too deep
abbrev pub rule_without_calls : RuleRefusal → RuleRefusal
rule_without_calls (Recursion calls) = Recursion []
rule_without_calls (TooDeepCalls calls) = TooDeepCalls []
rule_without_calls r = r

abbrev pub without_calls : RefusalTree → RefusalTree
without_calls (Rule names r) = Rule names (rule_without_calls r)
without_calls r = r
