-- What is decided of a check.
use Rattle.std.specs.Prelude.{◌≡◌, ℕ, ◌<◌, ◌≤◌, List, All, Some}
use Rattle.c_syntax.specs.declared.alarm.Pointers.{Pointers}
use Rattle.c_syntax.specs.declared.alarm.Shown.{Shown}
use Rattle.c_syntax.specs.declared.alarm.Shown.TheVariants as shows
use Rattle.c_syntax.specs.declared.alarm.Check.{Check}
use Rattle.c_syntax.specs.declared.alarm.WrongKind.TheVariants as kinds
use Rattle.c_syntax.specs.Types.{ObjectTree}
use Rattle.c_syntax.specs.Operand.{Operand, operand_of}
use Rattle.c_syntax.specs.Admission.{IsInShown, Fails, IsModerate}
use Rattle.mem_shown.specs.declared.Decision.{Decision}
use Rattle.mem_shown.specs.declared.Decision.TheVariants as decisions

-- the allowed numbers end at moderate ones, and an alignment is 1 or more
pub record HasFields (check : Check) : Type 0 where
  pub lo : IsModerate (Some check.lo)
  pub hi : IsModerate (Some check.hi)
  pub align : check.kind ≡ kinds.Alignment → 1 ≤ check.align

-- the objects that a set names are below this number
abbrev pub NamesBelow : ℕ → Pointers → Type 0
NamesBelow count set = All (λ o. o < count) set.names

-- each object that is named is one of so many
abbrev pub NamesObjects : ℕ → Shown → Type 0
NamesObjects count (shows.One set) = NamesBelow count set
NamesObjects count (shows.Pair left right) = NamesBelow count left × NamesBelow count right
NamesObjects count shown = Unit {0}

-- the operand is shown, and fails the check
pub record IsFailing (objects : List ObjectTree) (check : Check) (shown : Shown) (x : Operand) : Type 0 where
  pub shown_there : IsInShown objects x shown
  pub fails : Fails objects check x

-- no operand is shown that fails, or the one that is told is
abbrev pub IsDecision : List ObjectTree → Check → Shown → Decision → Type 0
IsDecision objects check shown decisions.Holds = (x : Operand) → IsFailing objects check shown x → ⊥
IsDecision objects check shown (decisions.May e) = IsFailing objects check shown (operand_of e)

-- some operand is shown
abbrev pub ShowsSome : List ObjectTree → Shown → Type 0
ShowsSome objects shown = (x : Operand) × IsInShown objects x shown
