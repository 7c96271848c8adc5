use Rattle.std.proofs.Common.{◌≡◌, ℕ, ◌<◌, false, get_or}
use Rattle.c_syntax.specs.declared.program.TFunction.{TFunction}
use Rattle.c_syntax.specs.Program.{tfunction_tree}
use Rattle.c_layout.specs.MainFunction.{is_named_main}
use Rattle.c_rules.proofs.start.named_main.Given as goal

abbrev pub invariant-loop-number : goal.invariant-loop-number
invariant-loop-number l = (k : ℕ) (d : TFunction) → k < l.number → is_named_main (tfunction_tree (get_or l.functions k d)) ≡ false
