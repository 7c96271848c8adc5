-- What a test or a check that passes leaves of a set.
use Rattle.std.specs.Prelude.{ℕ, ℤ, ◌≡◌, ◌≢◌, ◌≤ℤ◌, Bool, true, false, IsTrue, List, [], ◌∷◌, length, Option, Some, None}
use Rattle.ext_int.specs.declared.Live.{Live as LiveOrDead}
use Rattle.c_syntax_written.specs.declared.int_type.IntType.{IntType}
use Rattle.c_syntax.specs.declared.alarm.Check.{Check}
use Rattle.c_syntax.specs.declared.alarm.WrongKind.{WrongKind}
use Rattle.c_syntax.specs.Types.{ObjectTree}
use Rattle.c_syntax.specs.Operand.{Number, Operand}
use Rattle.c_syntax.specs.Failing.{fails_kind}
use Rattle.pointsets.specs.declared.Base.{Base}
use Rattle.pointsets.specs.declared.Base.TheVariants.{Dead, Null, Object}
use Rattle.pointsets.specs.Targets.{BaseSet, has_base}
use Rattle.block_mem.specs.declared.types.Scalar.{Scalar}
use Rattle.block_mem.specs.declared.types.Value.{Value}
use Rattle.block_mem.specs.declared.types.Value.TheVariants as values
use Rattle.block_mem.specs.Blocks.{block_at}
use Rattle.c_values.specs.Places.{ObjectMemory, owner_of}
use Rattle.c_values.specs.Values.{truth}
use Rattle.num_api.specs.Lives.{is_live}
use Rattle.machine_nums.specs.MExprs.{MExprTree}
use Rattle.machine_nums.specs.Machine.{machine_value}
use Rattle.csharp.specs.Trees.{CsExprTree, Temp}
use Rattle.csharp.specs.States.{State, exact_of, operand_of, value_of}
use Rattle.mem_cell_exprs.specs.Known.{StandsFor}
use Rattle.mem_cell_exprs.specs.declared.known.Known.{Known}
use Rattle.mem_cell_shows.specs.Addresses.{IsAddress}

-- what no test changes, an error or not
pub record KeepsShape {D : Type 0} (old new : Known D) : Type 0 where
  pub types : new.types ≡ old.types
  pub grid : new.grid ≡ old.grid
  pub count : length new.pointers ≡ length old.pointers

-- the state is still one of the set, by the same valuation
pub record IsKept {D : Type 0} (admits : D → List ℤ → Type 0) (objects : List ObjectTree) (old new : Known D) (s : State) (st : StandsFor admits objects old s) (left : LiveOrDead) : Type 0 where
  pub live : IsTrue (is_live left)
  pub stands : StandsFor admits objects new s
  pub same : stands.v ≡ st.v

-- each state of which this holds is kept
abbrev pub KeepsEach : {D : Type 0} (admits : D → List ℤ → Type 0) (old new : Known D) → LiveOrDead
    → ((objects : List ObjectTree) (s : State) → StandsFor admits objects old s → Type 0) → Type 0
KeepsEach admits old new left P = (objects : List ObjectTree) (s : State) (st : StandsFor admits objects old s) → P objects s st → IsKept admits objects old new s st left

-- ---- what a pointer points to

-- the base that a set has where the value points to what it has; an integer has none
abbrev pub base_of : ObjectMemory → Value → Option Base
base_of m (values.Int t n) = None
base_of m (values.Ptr p) = Some (by ((block_at m.blocks p.block).live)) where
  by : Bool → Base
  by true = Object (owner_of m p.block)
  by false = Dead
base_of m values.Null = Some Null

-- the temporary that an expression is
abbrev pub own_temp : CsExprTree → Option ℕ
own_temp (Temp d) = Some d
own_temp e = None

-- what both sets have, of null and of dead pointers only where they are asked for
abbrev pub IsCommon : BaseSet → BaseSet → Bool → Bool → BaseSet → Type 0
IsCommon set within null dead left = (b : Base) → has_base set b ≡ true → has_base within b ≡ true → (b ≡ Null → IsTrue null) → (b ≡ Dead → IsTrue dead) → has_base left b ≡ true

-- the expression has a value of this truth
abbrev pub HasTruth : CsExprTree → Bool → State → Type 0
HasTruth e b s = (u : Value) × (value_of e s ≡ Some u) × (truth u ≡ b)

-- what a check of a use does not let pass: a dead pointer, or null
abbrev pub bad_base : Bool → Base
bad_base true = Dead
bad_base false = Null

-- the expression has a pointer that is not of this base
abbrev pub Spares : CsExprTree → Base → State → Type 0
Spares e bad s = (u : Value) × (value_of e s ≡ Some u) × IsAddress u × ((b : Base) → base_of s.memory u ≡ Some b → b ≢ bad)

-- so it is of one expression, or of two
abbrev pub AllSpare : List CsExprTree → Base → State → Type 0
AllSpare [] bad s = Unit {0}
AllSpare (e ∷ []) bad s = Spares e bad s
AllSpare (e ∷ f ∷ []) bad s = Spares e bad s × Spares f bad s
AllSpare (e ∷ f ∷ g ∷ gs) bad s = Unit {0}

-- the expression has an integer between two others
abbrev pub HasNumberIn : CsExprTree → ℤ → ℤ → State → Type 0
HasNumberIn e lo hi s = (t : IntType) × (n : ℤ) × (value_of e s ≡ Some (values.Int t n)) × (lo ≤ℤ n) × (n ≤ℤ hi)

-- the exact result of the expression lies between two others
abbrev pub HasExactIn : CsExprTree → ℤ → ℤ → State → Type 0
HasExactIn e lo hi s = (n : ℤ) × (exact_of e s ≡ Some (Number n)) × (lo ≤ℤ n) × (n ≤ℤ hi)

-- a number of the valuation lies between two others
abbrev pub LiesBetween : MExprTree → ℤ → ℤ → List ℤ → Type 0
LiesBetween m lo hi v = (n : ℤ) × (machine_value v m ≡ Some n) × (lo ≤ℤ n) × (n ≤ℤ hi)

-- ---- checks that pass

-- the operand of a check of this kind does not fail it
abbrev pub PassedAs : List ObjectTree → Check → WrongKind → Option Scalar → List CsExprTree → State → Type 0
PassedAs objects check kind ty es s = (x : Operand) × (operand_of kind ty es s ≡ Some x) × (fails_kind objects check kind x ≡ false)

abbrev pub Passed : List ObjectTree → Check → Option Scalar → List CsExprTree → State → Type 0
Passed objects check ty es s = PassedAs objects check check.kind ty es s
