-- What a row comes to.
use Rattle.std.specs.Prelude.{◌≡◌, ℤ, List, ◌∷◌, Option}
use Rattle.c_syntax_written.specs.declared.place.Pos.{Pos}
use Rattle.c_syntax.specs.declared.alarm.WrongKind.{WrongKind}
use Rattle.c_syntax.specs.Operand.{Operand}
use Rattle.c_syntax.specs.Types.{ObjectTree}
use Rattle.c_syntax.specs.Program.{TProgramTree}
use Rattle.block_mem.specs.declared.types.Scalar.{Scalar}
use Rattle.block_mem.specs.declared.types.Value.{Value}
use Rattle.c_values.specs.Accesses.{test_looks}
use Rattle.c_values.specs.Looks.{Passes, FailsAs, judge}
use Rattle.c_values.specs.Places.{ObjectMemory}
use Rattle.c_steps.specs.Work.{Item}
use Rattle.c_steps.specs.States.{Held, Next, Wrong, goes, held}
use Rattle.c_steps.specs.Steps.{item_step}
use Rattle.c_machine_values.specs.declared.row.Row.{Row}
use Rattle.c_machine_values.specs.declared.row.Row.TheVariants as rows
use Rattle.c_machine_values.specs.declared.row.Tested.{Tested}
use Rattle.c_machine_values.specs.declared.row.Tested.TheVariants as tests

-- something is wrong here, of this kind, with some operand
abbrev pub IsWrongAs : Pos → WrongKind → Next → Type 0
IsWrongAs at kind next = (x : Operand) × (next ≡ Wrong at kind x)

-- the row of an item, in any program with these objects, before any work and with any inputs: it goes on with another stack and another memory, or
-- something is wrong and both are as they were
abbrev pub Does : List ObjectTree → Item → List Held → ObjectMemory → List Held → ObjectMemory → Row → Type 0
Does objects item s m t n rows.Went =
    (p : TProgramTree) → p.objects ≡ objects → (work : List Item) (inputs : List ℤ) → item_step p item work s m inputs ≡ goes work t n inputs
Does objects item s m t n (rows.Wrong at kind) =
    ((p : TProgramTree) → p.objects ≡ objects → (work : List Item) (inputs : List ℤ) → IsWrongAs at kind (item_step p item work s m inputs))
    × (t ≡ s) × (n ≡ m)

-- the value on top was tested
abbrev pub Tests : List ObjectTree → Option Scalar → List Held → ObjectMemory → List Held → Tested → Type 0
Tests objects ty s m t (tests.Passes v) = (s ≡ held v ∷ t) × (judge objects (test_looks m ty v) ≡ Passes)
Tests objects ty s m t (tests.Wrong kind) =
    ((v : Value) × (rest : List Held) × (s ≡ held v ∷ rest) × ((x : Operand) × (judge objects (test_looks m ty v) ≡ FailsAs kind x))) × (t ≡ s)
