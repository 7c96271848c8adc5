-- The order of alarms, and the alarms that have a text: in this form each stands in main, and shows a number.
use Rattle.std.specs.Prelude.{◌<◌, ◌≡◌, ◌⊎◌, ℕ, List, [], ◌∷◌, ◌++◌}
use Rattle.std.specs.List.{flat_map}
use Rattle.c_syntax_written.specs.declared.place.Pos.{Pos}
use Rattle.c_syntax.specs.declared.alarm.WrongKind.{WrongKind}
use Rattle.c_syntax.specs.declared.alarm.WrongKind.TheVariants as kinds
use Rattle.c_syntax.specs.declared.alarm.Shown.{Shown}
use Rattle.c_syntax.specs.declared.alarm.Shown.TheVariants as shows
use Rattle.c_syntax.specs.declared.alarm.Example.{Example}
use Rattle.c_syntax.specs.declared.alarm.Example.TheVariants as examples
use Rattle.c_syntax.specs.declared.alarm.Alarm.{Alarm}

-- the alarm is one that the built form has, of which alone there is a text: it stands in main, and shows a number
abbrev pub IsNumeric : Shown → Example → Type 0
IsNumeric (shows.Number lo hi modulus rem) (examples.Number n) = Unit {0}
IsNumeric shown example = ⊥

pub record IsPrintable (a : Alarm) : Type 0 where
  pub in_main : a.chain ≡ []
  pub numeric : IsNumeric a.shown a.example

abbrev pub kind_number : WrongKind → ℕ
kind_number kinds.Overflow = 1
kind_number kinds.DivideByZero = 2
kind_number kinds.Quotient = 3
kind_number kinds.ShiftAmount = 4
kind_number kinds.ShiftResult = 5
kind_number kinds.Indeterminate = 6
kind_number kinds.Fragment = 7
kind_number kinds.NullUse = 8
kind_number kinds.Dangling = 9
kind_number kinds.Bounds = 10
kind_number kinds.Access = 11
kind_number kinds.Alignment = 12
kind_number kinds.ReadOnly = 13
kind_number kinds.Unrelated = 14
kind_number kinds.NoValue = 15
kind_number kinds.AssertFailed = 16

abbrev pub place_key : Pos → List ℕ
place_key at = at.file ∷ at.line ∷ at.col ∷ []

-- alarms are ordered by position, kind number and chain
abbrev pub order_key : Alarm → List ℕ
order_key a = place_key a.pos ++ (kind_number a.kind ∷ flat_map place_key a.chain)

-- in the order of the first number in which they differ, a front before the whole
abbrev pub IsBefore : List ℕ → List ℕ → Type 0
IsBefore xs [] = ⊥
IsBefore [] (y ∷ ys) = Unit {0}
IsBefore (x ∷ xs) (y ∷ ys) = (x < y) ⊎ ((x ≡ y) × IsBefore xs ys)

abbrev pub Precedes : Alarm → Alarm → Type 0
Precedes a b = IsBefore (order_key a) (order_key b)
