-- Which nodes of a program have two sides of which one writes what the other touches (C11 6.5p2 and p3; this profile).
use Rattle.std.specs.Prelude.{◌≡◌, ◌↔◌, ◌⊎◌, ℕ, option_and_then, option_map, unwrap_or, List, [], All, Contains, slice_get}
use Rattle.c_syntax_written.specs.declared.place.Pos.{Pos}
use Rattle.c_syntax.specs.Program.{TProgramTree}
use Rattle.c_layout.specs.Calls.{PlacedCall}
use Rattle.c_rules_effects.specs.declared.touch.Touch.{Touch}
use Rattle.c_rules_effects.specs.Meeting.{Meet}
use Rattle.c_rules_effects.specs.declared.effects.Effects.{Effects}
use Rattle.c_rules_effects.specs.Taken.{taken_table}
use Rattle.c_rules_order.specs.Closed.{AreClosed, IsCalledRead, IsCalledWrite}
use Rattle.c_rules_order.specs.declared.known.Known.{Known}
use Rattle.c_rules_order.specs.declared.side.Side.{Side}
use Rattle.c_rules_order.specs.declared.side.Comparison.{Comparison}
use Rattle.c_rules_order.specs.Sides.{compared_in_stmt}
use Rattle.c_rules.specs.Earliest.{IsEarliest, IsFirst}

-- what a side reads: itself, or in a function that it calls
abbrev pub Reads : TProgramTree → Side → Touch → Type 0
Reads program side touch = Contains side.own.reads touch ⊎ ((call : PlacedCall) × Contains side.calls call × IsCalledRead program call.callee touch)

abbrev pub Writes : TProgramTree → Side → Touch → Type 0
Writes program side touch = Contains side.own.writes touch ⊎ ((call : PlacedCall) × Contains side.calls call × IsCalledWrite program call.callee touch)

-- the first side writes what the second reads or writes
pub record WritesInto (program : TProgramTree) (a b : Side) : Type 0 where
  pub written : Touch
  pub touched : Touch
  pub writes : Writes program a written
  pub touches : Reads program b touched ⊎ Writes program b touched
  pub meet : Meet (taken_table program) written touched

-- one of the two sides writes what the other reads or writes
abbrev pub Clash : TProgramTree → Comparison → Type 0
Clash program c = WritesInto program c.left c.right ⊎ WritesInto program c.right c.left

-- these are the places that a side reads and writes
pub record IsEffectsOfSide (program : TProgramTree) (side : Side) (effects : Effects) : Type 0 where
  pub reads : (touch : Touch) → Contains effects.reads touch ↔ Reads program side touch
  pub writes : (touch : Touch) → Contains effects.writes touch ↔ Writes program side touch

-- the sides that are compared in a function, which are none where it has no body
abbrev pub compared_by : TProgramTree → ℕ → List Comparison
compared_by program f = unwrap_or (option_map compared_in_stmt (option_and_then (λ function. function.body) (slice_get program.functions f))) []

-- the first comparison of a function that clashes
abbrev pub IsClashOf : TProgramTree → ℕ → Comparison → Type 0
IsClashOf program f c = IsFirst (Clash program) (compared_by program f) c

-- and that of no other function stands before it in the text
abbrev pub IsFirstClash : TProgramTree → Comparison → Type 0
IsFirstClash program c = IsEarliest (λ c. c.pos) (IsClashOf program) c

-- the first node of which two sides clash, children before their parents, with what the two read and write
pub record IsUnsequencedAt (program : TProgramTree) (at : Pos) (left right : Effects) : Type 0 where
  pub clash : Comparison
  pub first : IsFirstClash program clash
  pub here : clash.pos ≡ at
  pub left_is : IsEffectsOfSide program clash.left left
  pub right_is : IsEffectsOfSide program clash.right right

-- no two sides of a node clash
abbrev pub IsSequenced : TProgramTree → Type 0
IsSequenced program = (f : ℕ) → All (λ c. Clash program c → ⊥) (compared_by program f)

-- what is known of a program, for the code that looks at its expressions
pub record IsKnownOf (program : TProgramTree) (known : Known) : Type 0 where
  pub taken : known.taken.items ≡ taken_table program
  pub functions : AreClosed program known.functions.items
