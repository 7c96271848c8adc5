-- When facts hold of a state, and what they name.
use Rattle.std.specs.Prelude.{◌≡◌, ℕ, ℤ, ◌<◌, ◌++◌, List, All, Contains, IsSomeAnd, slice_get}
use Rattle.c_syntax.specs.declared.alarm.Cell.{Cell}
use Rattle.c_syntax.specs.declared.alarm.Fact.{Fact}
use Rattle.c_syntax.specs.declared.alarm.Fact.TheVariants as facts
use Rattle.c_syntax.specs.Types.{Int}
use Rattle.c_syntax_written.specs.declared.int_type.IntType.{IntType}
use Rattle.c_syntax_written.specs.Integer.{bytes}
use Rattle.c_values.specs.Places.{ObjectMemory}
use Rattle.c_objects.specs.Cells.{IsCellNumber}
use Rattle.c_objects.specs.FactsIn as facts_in
use Rattle.csharp.specs.Trees.{CsProgramTree}
use Rattle.mem_shown.specs.Decisions.{NamesBelow}

-- the fact holds in memory of the program's objects
abbrev pub HoldsIn : CsProgramTree → ObjectMemory → Fact → Type 0
HoldsIn q m fact = facts_in.HoldsIn q.structs q.objects m fact

abbrev pub NamesFactObjects : ℕ → Fact → Type 0
NamesFactObjects count (facts.Between x lo hi) = x.object < count
NamesFactObjects count (facts.Class x rem modulus) = x.object < count
NamesFactObjects count (facts.AtMost sx x sy y bound) = (x.object < count) × (y.object < count)
NamesFactObjects count (facts.PointsTo x set) = (x.object < count) × NamesBelow count set

-- facts are put behind those that were there, and each new one is so
abbrev pub Adds : List Fact → List Fact → (Fact → Type 0) → Type 0
Adds before after Is = (more : List Fact) × (after ≡ before ++ more) × All Is more

-- all bytes of an object
abbrev pub whole_cell : ℕ → IntType → Cell
whole_cell x ty = record { object = x; offset = 0; size = bytes ty }

abbrev pub IsInteger : CsProgramTree → ℕ → IntType → Type 0
IsInteger q x ty = IsSomeAnd (slice_get q.objects x) (λ object. object.ty ≡ Int ty)

-- of each integer object that lives and whose bytes are a number, that number is told
abbrev pub TellsWhole : CsProgramTree → ObjectMemory → List Fact → Type 0
TellsWhole q m told = (x : ℕ) (ty : IntType) (n : ℤ) → IsInteger q x ty → IsCellNumber q.structs q.objects m (whole_cell x ty) n
    → Contains told (facts.Between (whole_cell x ty) n n)
