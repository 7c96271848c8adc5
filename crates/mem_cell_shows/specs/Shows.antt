-- What is shown of a check of a set.
use Rattle.std.specs.Prelude.{ℕ, ℤ, ◌≡◌, ◌<◌, false, true, List, length, Option, Some}
use Rattle.c_syntax.specs.declared.alarm.Pointers.{Pointers}
use Rattle.c_syntax.specs.declared.alarm.Spot.{Spot}
use Rattle.c_syntax.specs.declared.alarm.Spot.TheVariants as spots
use Rattle.c_syntax.specs.Types.{ObjectTree}
use Rattle.c_syntax.specs.Operand.{Operand}
use Rattle.c_syntax.specs.Admission.{IsProperSet, IsSpotIn}
use Rattle.pointsets.specs.declared.Base.TheVariants.{Dead, Null, Object}
use Rattle.pointsets.specs.Targets.{BaseSet, has_base}
use Rattle.block_mem.specs.declared.types.Value.{Value}
use Rattle.c_values.specs.Places.{spot}
use Rattle.machine_nums.specs.MExprs.{MExprTree}
use Rattle.csharp.specs.Trees.{CsExprTree}
use Rattle.csharp.specs.States.{State, value_of}
use Rattle.mem_shown.specs.Decisions.{NamesBelow}
use Rattle.mem_cell_bytes.specs.Cells.{number_of}
use Rattle.mem_cell_exprs.specs.Known.{HasOffset, StandsFor}
use Rattle.mem_cell_exprs.specs.declared.known.Known.{Known}
use Rattle.mem_cell_shows.specs.declared.ends.Ends.{Ends}
use Rattle.mem_cell_shows.specs.Ends.{IsProperEnds, LiesIn}

-- in each state of the set, what is looked at, where there is something, is so
abbrev pub InEach : {D : Type 0} → (D → List ℤ → Type 0) → Known D → (State → Option Operand) → (List ObjectTree → Operand → Type 0) → Type 0
InEach admits k look P = (objects : List ObjectTree) (s : State) (x : Operand) → StandsFor admits objects k s → look s ≡ Some x → P objects x

-- ---- pointers

-- the spot is one of what the set has, at such an offset
abbrev pub IsSpotOf : List ObjectTree → BaseSet → Ends → Spot → Type 0
IsSpotOf objects set ends spots.Null = has_base set Null ≡ true
IsSpotOf objects set ends spots.Dead = has_base set Dead ≡ true
IsSpotOf objects set ends (spots.At o d) = (has_base set (Object o) ≡ true) × (o < length objects) × LiesIn ends d

-- what is shown of a set and of offsets
pub record ShowsTargets (count : ℕ) (set : BaseSet) (ends : Ends) (shown : Pointers) : Type 0 where
  pub holds : (objects : List ObjectTree) (x : Spot) → IsSpotOf objects set ends x → IsSpotIn objects shown x
  pub proper : IsProperSet shown
  pub names : NamesBelow count shown

-- the pointers to these objects, and the marks of a set
abbrev pub pointers_of : BaseSet → List ℕ → Ends → Pointers
pointers_of set names ends = record { any = false; null = has_base set Null; dead = has_base set Dead; names = names; lo = ends.lo; hi = ends.hi; modulus = ends.modulus; rem = ends.rem }

-- what holds the offsets that the numbers have, or all where there are none
pub record HoldsOffsets (A : List ℤ → Type 0) (offset : Option MExprTree) (w : Ends) : Type 0 where
  pub holds : (v : List ℤ) (u : Value) → A v → HasOffset v offset u → LiesIn w (number_of u)
  pub proper : IsProperEnds w

-- what is shown of an expression: where its value points in a state of the set
pub record ShowsPointer {D : Type 0} (admits : D → List ℤ → Type 0) (k : Known D) (count : ℕ) (e : CsExprTree) (shown : Pointers) : Type 0 where
  pub holds : (objects : List ObjectTree) (s : State) (u : Value) (x : Spot) → StandsFor admits objects k s → value_of e s ≡ Some u → spot s.memory u ≡ Some x
      → IsSpotIn objects shown x
  pub proper : IsProperSet shown
  pub names : NamesBelow count shown
