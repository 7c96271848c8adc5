-- What each state of a typed run keeps.
use Rattle.std.specs.Prelude.{ℕ, ◌≡◌, ◌⊎◌, ◌<◌, ℤ, List, [], ◌∷◌, length, Contains, IsSome}
use Rattle.c_syntax.specs.declared.program.Plan.{Plan}
use Rattle.c_syntax.specs.Types.{CTypeTree}
use Rattle.c_syntax.specs.Program.{TProgramTree}
use Rattle.c_layout.specs.WellTyped.{IsStaticObject, IsWellTyped}
use Rattle.c_layout.specs.Plans.{HasBody, IsPlanFor}
use Rattle.c_values.specs.Places.{ObjectMemory, place_of}
use Rattle.block_mem.specs.Whole.{AreWhole}
use Rattle.c_objects.specs.Kept.{KeepsObjects}
use Rattle.c_objects.specs.Statics.{AreEightBits, AreWholeInitials}
use Rattle.c_steps.specs.Work.{Item, Close}
use Rattle.c_steps.specs.States.{State, Stands}
use Rattle.c_steps.specs.Steps.{step}
use Rattle.c_steps.specs.Runs.{after}
use Rattle.c_steps_laws.specs.Wants.{Want, Stacked}
use Rattle.c_steps_laws.specs.Takes.{Takes}
use Rattle.c_steps_laws.specs.Opens.{Use, Object, Function, OpensItem, ApartItem, OpensCall}

-- the objects that the work will end
abbrev pub Closes : List Item → ℕ → Type 0
Closes [] y = ⊥
Closes (Close objects items ∷ work) y = Contains objects y ⊎ Closes work y
Closes (item ∷ work) y = Closes work y

-- an object that lives: one of static duration, or one that the work will end
abbrev pub Lives : TProgramTree → List Item → ℕ → Type 0
Lives p work y = IsStaticObject p y ⊎ Closes work y

-- exactly these have a block that lives
abbrev pub AreLive : TProgramTree → List Item → ObjectMemory → Type 0
AreLive p work m = ((y : ℕ) → Lives p work y → IsSome (place_of m y)) × ((y : ℕ) → IsSome (place_of m y) → Lives p work y)

-- an object that is there and is none of these; a function that has a body
abbrev pub Allows : TProgramTree → (ℕ → Type 0) → Use → Type 0
Allows p lives (Object y) = (y < length p.objects) × (lives y → ⊥)
Allows p lives (Function f) = HasBody p f

-- an object that is there and does not live; a function that has a body
abbrev pub IsReady : TProgramTree → List Item → Use → Type 0
IsReady p work u = Allows p (λ y. Lives p work y) u

-- what an item may use is ready behind it
abbrev pub Parted : (ℕ → Use → Type 0) → TProgramTree → List Item → Type 0
Parted of p [] = Unit {0}
Parted of p (item ∷ work) = ((u : Use) → OpensItem of item u → IsReady p work u) × ApartItem of item × Parted of p work

-- The work takes values of the types that the stack has; what it brings to life does not live yet; what it will end, and what is static, lives; and memory
-- keeps what it always keeps, with pointers that are whole where those of the initial values are
pub record Fits (p : TProgramTree) (s : State) : Type 0 where
  pub result : CTypeTree
  pub wants : List Want
  pub takes : Takes p result s.work wants
  pub stacked : Stacked (length s.memory.blocks) wants s.stack
  pub parted : Parted (OpensCall p) p s.work
  pub live : AreLive p s.work s.memory
  pub kept : KeepsObjects p.objects s.memory
  pub whole : AreWholeInitials p.initial → AreWhole s.memory.blocks

-- a program that runs: it is well typed, and has a plan; its initial bytes have eight bits
pub record Runs (p : TProgramTree) (plan : Plan) : Type 0 where
  pub typed : IsWellTyped p
  pub planned : IsPlanFor p plan
  pub bits : AreEightBits p.initial

-- no run of such a program stands: each of its states fits, and has a step, an end, or something wrong
abbrev pub RunsNeverStand : Type 0
RunsNeverStand = (p : TProgramTree) (plan : Plan) → Runs p plan → (inputs : List ℤ) (n : ℕ) → step p (after p plan.main inputs n) ≡ Stands → ⊥

abbrev pub RunsFit : Type 0
RunsFit = (p : TProgramTree) (plan : Plan) → Runs p plan → (inputs : List ℤ) (n : ℕ) → Fits p (after p plan.main inputs n)
