-- Which alarms a program admits.
use Rattle.std.specs.Prelude.{◌≡◌, ℕ, Some, List}
use Rattle.c_syntax_written.specs.declared.place.Pos.{Pos}
use Rattle.c_syntax.specs.declared.alarm.Check.{Check}
use Rattle.c_syntax.specs.declared.alarm.Alarm.{Alarm}
use Rattle.c_syntax.specs.Operand.{operand_of}
use Rattle.c_syntax.specs.Program.{TProgramTree}
use Rattle.c_syntax.specs.Admission.{IsInShown, IsProper, Fails}
use Rattle.c_layout.specs.Calls.{LeadTo}
use Rattle.c_layout.specs.Checks.{MakesCheck}
use Rattle.c_layout.specs.MainFunction.{main_of}

-- calls at these places lead from main to a function, in which a node at this place makes this check
abbrev pub ChecksAt : TProgramTree → List Pos → Pos → Check → Type 0
ChecksAt p chain at check = (main f : ℕ) × (main_of p ≡ Some main) × LeadTo p main chain f × MakesCheck p f at check

-- the alarm's check is one that a node makes there, and its example is shown, and fails that check
pub record IsAdmitted (p : TProgramTree) (alarm : Alarm) : Type 0 where
  pub check : ChecksAt p alarm.chain alarm.pos alarm.check
  pub kind : alarm.check.kind ≡ alarm.kind
  pub example_shown : IsInShown p.objects (operand_of alarm.example) alarm.shown
  pub example_fails : Fails p.objects alarm.check (operand_of alarm.example)
  pub proper : IsProper alarm.shown
