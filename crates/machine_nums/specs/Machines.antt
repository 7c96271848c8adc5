-- A machine: a state of a numeric domain, and whether a cut has left nothing.
use Rattle.std.specs.Prelude.{◌≡◌, ℕ, ℤ, ◌+◌, List, Bool, false, not, ◌&&◌, ◌||◌, if◌then◌else◌}
use Rattle.num_api.specs.declared.message.Range.{Range}
use Rattle.num_api.specs.Ranges.{IsUnder}
use Rattle.machine_nums.specs.declared.machine.Machine.{Machine}

-- the state of the numeric domain behind the machine
abbrev pub state_of : {D : Type 0} → Machine D → D
state_of m = m.state

-- a cut has left nothing
abbrev pub is_void : {D : Type 0} → Machine D → Bool
is_void m = m.is_void

-- the valuations of the machine are those of its state; a void machine has none
abbrev pub Admits : {D : Type 0} → (D → List ℤ → Type 0) → Machine D → List ℤ → Type 0
Admits admits m v = (is_void m ≡ false) × admits (state_of m) v

-- what its state knows of each variable is no wider than the given range; of a void machine nothing is asked
abbrev pub LiesUnder : {D : Type 0} → (D → ℕ → Range) → Machine D → (ℕ → Range) → Type 0
LiesUnder known m given = is_void m ≡ false → IsUnder (known (state_of m)) given

-- whether the first machine is known to hold the second: a void one is held by each
abbrev pub holds_machine : {D : Type 0} → (D → D → Bool) → Machine D → Machine D → Bool
holds_machine holds m k = is_void k || (not (is_void m) && holds (state_of m) (state_of k))

-- how far widening can still go: of a void machine one step more, to a state that holds something
abbrev pub machine_weight : {D : Type 0} → (D → ℕ) → Machine D → ℕ
machine_weight weight m = weight (state_of m) + (if is_void m then 1 else 0)
