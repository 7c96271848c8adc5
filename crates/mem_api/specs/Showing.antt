-- What is to be shown of a check.
use Rattle.std.specs.Prelude.{◌≡◌, List, [], ◌∷◌, Option}
use Rattle.c_syntax.specs.declared.alarm.Shown.{Shown}
use Rattle.c_syntax.specs.declared.alarm.Shown.TheVariants as shows
use Rattle.c_syntax.specs.declared.alarm.WrongKind.{WrongKind}
use Rattle.c_syntax.specs.declared.alarm.WrongKind.TheVariants as kinds
use Rattle.c_syntax.specs.Types.{ObjectTree}
use Rattle.c_syntax.specs.Operand.{Operand}
use Rattle.c_syntax.specs.Admission.{IsInShown}
use Rattle.csharp.specs.Trees.{CsExprTree, CsCheckTree}
use Rattle.csharp.specs.States.{State, operand_of}

-- ---- the form of each kind

abbrev pub IsRange : Shown → Type 0
IsRange (shows.Number lo hi modulus rem) = Unit {0}
IsRange shown = ⊥

abbrev pub IsSet : Shown → Type 0
IsSet (shows.One set) = Unit {0}
IsSet shown = ⊥

abbrev pub IsPair : Shown → Type 0
IsPair (shows.Pair left right) = Unit {0}
IsPair shown = ⊥

abbrev pub AreMarks : Shown → Type 0
AreMarks (shows.Marks undef value broken) = Unit {0}
AreMarks shown = ⊥

abbrev pub AreEnds : Shown → Type 0
AreEnds (shows.Ends value none) = Unit {0}
AreEnds shown = ⊥

-- one pointer is shown by a set, and two by a pair
abbrev pub ArePointers : List CsExprTree → Shown → Type 0
ArePointers (e ∷ f ∷ []) shown = IsPair shown
ArePointers es shown = IsSet shown

abbrev pub HasForm : WrongKind → List CsExprTree → Shown → Type 0
HasForm kinds.Indeterminate es shown = AreMarks shown
HasForm kinds.Fragment es shown = AreMarks shown
HasForm kinds.NullUse es shown = ArePointers es shown
HasForm kinds.Dangling es shown = ArePointers es shown
HasForm kinds.Bounds es shown = IsSet shown
HasForm kinds.Access es shown = IsSet shown
HasForm kinds.Alignment es shown = IsSet shown
HasForm kinds.ReadOnly es shown = IsSet shown
HasForm kinds.Unrelated es shown = IsPair shown
HasForm kinds.NoValue es shown = AreEnds shown
HasForm kind es shown = IsRange shown

-- ---- what is shown

-- the operand of a check in a state
abbrev pub looked_at : CsCheckTree → State → Option Operand
looked_at c s = operand_of c.check.kind c.ty c.operands s

-- the operand is shown, and nothing else is
pub record IsAlone (objects : List ObjectTree) (x : Operand) (shown : Shown) : Type 0 where
  pub there : IsInShown objects x shown
  pub only : (y : Operand) → IsInShown objects y shown → y ≡ x
