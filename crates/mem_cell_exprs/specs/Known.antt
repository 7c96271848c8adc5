-- What a set stands for by what it knows, and places of pointers in its states.
use Rattle.std.specs.Prelude.{ℕ, ℤ, pos, neg_ℤ, ◌+ℤ◌, ◌*ℤ◌, ◌≡◌, Bool, true, false, List, Option, None, Some, IsSomeAnd}
use Rattle.c_syntax.specs.Types.{ObjectTree}
use Rattle.block_mem.specs.declared.types.Scalar.{Scalar}
use Rattle.block_mem.specs.declared.types.Value.{Value}
use Rattle.pointsets.specs.declared.Base.TheVariants.{Null}
use Rattle.pointsets.specs.Targets.{BaseSet, has_base}
use Rattle.machine_nums.specs.MExprs.{MExprTree}
use Rattle.machine_nums.specs.Machine.{machine_value}
use Rattle.machine_nums.specs.Machines.{Admits}
use Rattle.csharp.specs.Trees.{CsExprTree}
use Rattle.csharp.specs.States.{State, value_of}
use Rattle.mem_cell_bytes.specs.Cells.{Points, number_of}
use Rattle.mem_cell_bytes.specs.Stands.{Stands, claims}
use Rattle.mem_cell_exprs.specs.Exprs.{IsNumberFor}
use Rattle.mem_cell_exprs.specs.declared.known.Known.{Known}

-- the states of a program of these objects in which all that the set knows is so
abbrev pub StandsFor : {D : Type 0} → (D → List ℤ → Type 0) → List ObjectTree → Known D → State → Type 0
StandsFor admits objects k s = Stands objects k.types (Admits admits k.nums) (claims k.pointers k.grid) s

-- the numbers are the offset of the pointer, or 0 where it is null; of no numbers nothing is asked
abbrev pub HasOffset : List ℤ → Option MExprTree → Value → Type 0
HasOffset v None u = Unit {0}
HasOffset v (Some m) u = machine_value v m ≡ Some (number_of u)

-- in each state of the set the value of the expression, where there is one, points to what the set has, at that offset
abbrev pub IsPlaceFor : {D : Type 0} → (D → List ℤ → Type 0) → Known D → CsExprTree → BaseSet → Option MExprTree → Type 0
IsPlaceFor admits k e set offset = (objects : List ObjectTree) (s : State) (st : StandsFor admits objects k s) (u : Value) → value_of e s ≡ Some u
    → Points s.memory set u × HasOffset st.v offset u

-- so many bytes on, or back
abbrev pub moved_by : Bool → ℤ → ℤ → ℤ
moved_by false from by = from +ℤ by
moved_by true from by = from +ℤ neg_ℤ by

-- the numbers are those of an offset, moved by so many elements
abbrev pub IsMoved : (List ℤ → Type 0) → ℕ → Bool → MExprTree → MExprTree → MExprTree → Type 0
IsMoved A element back offset index m = (v : List ℤ) (k n : ℤ) → A v → machine_value v offset ≡ Some k → machine_value v index ≡ Some n
    → machine_value v m ≡ Some (moved_by back k (pos element *ℤ n))

-- where an offset is known behind a move, the pointer is not null, and the number of elements and the offset before were known
abbrev pub IsMovedPlace : (List ℤ → Type 0) → List Scalar → CsExprTree → ℕ → Bool → BaseSet → Option MExprTree → Option MExprTree → Type 0
IsMovedPlace A types index element back set from None = Unit {0}
IsMovedPlace A types index element back set from (Some m) = (has_base set Null ≡ false)
    × IsSomeAnd from (λ f. (k : MExprTree) × IsNumberFor types index k × IsMoved A element back f k m)
