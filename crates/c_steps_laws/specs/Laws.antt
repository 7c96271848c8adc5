-- That each state of a typed run has what the row of its item asks for.
use Rattle.std.specs.Prelude.{◌≡◌, ℤ, List, [], ◌∷◌, length}
use Rattle.c_syntax.specs.declared.program.Plan.{Plan}
use Rattle.c_syntax.specs.Program.{TProgramTree}
use Rattle.c_layout.specs.Plans.{IsPlanFor}
use Rattle.c_layout.specs.WellTyped.{IsWellTyped}
use Rattle.block_mem.specs.declared.types.Value.{Value}
use Rattle.block_mem.specs.Proper.{IsMade}
use Rattle.c_values.specs.Places.{ObjectMemory}
use Rattle.c_objects.specs.Kept.{AllFit, AreSmall, FitsAt}
use Rattle.c_objects.specs.Statics.{AreEightBits}
use Rattle.c_steps.specs.Work.{Item}
use Rattle.c_steps.specs.States.{Held, State, state, Goes, Stands}
use Rattle.c_steps.specs.Steps.{step}
use Rattle.c_steps.specs.Runs.{start}
use Rattle.c_steps_laws.specs.Fits.{Fits}
use Rattle.c_steps_laws.specs.Needs.{Needs}
use Rattle.c_steps_laws.specs.Shapes.{HasShape}

-- the next item finds what it takes
abbrev pub RowsFindShapes : Type 0
RowsFindShapes =
    (p : TProgramTree) (item : Item) (work : List Item) (s : List Held) (m : ObjectMemory) (i : List ℤ) → Fits p (state (item ∷ work) s m i) → HasShape item s

abbrev pub RowsFindNeeds : Type 0
RowsFindNeeds =
    (p : TProgramTree) → IsWellTyped p → (item : Item) (work : List Item) (s : List Held) (m : ObjectMemory) (i : List ℤ)
    → Fits p (state (item ∷ work) s m i) → Needs p item work s m

-- there is a next item
abbrev pub WorkIsLeft : Type 0
WorkIsLeft = (p : TProgramTree) (s : List Held) (m : ObjectMemory) (i : List ℤ) → Fits p (state [] s m i) → ⊥

-- what is so of memory, whatever the next item is
pub record IsSound (p : TProgramTree) (m : ObjectMemory) : Type 0 where
  pub fits : AllFit p.objects m
  pub small : AreSmall p.objects
  pub counted : length m.places ≡ length p.objects
  pub fits_at : (v : Value) → IsMade (length m.blocks) v → FitsAt p.objects m v

abbrev pub MemoriesAreSound : Type 0
MemoriesAreSound = (p : TProgramTree) → IsWellTyped p → (s : State) → Fits p s → IsSound p s.memory

-- each state of a run, from the first one on
abbrev pub StartsFit : Type 0
StartsFit = (p : TProgramTree) (plan : Plan) → IsWellTyped p → IsPlanFor p plan → AreEightBits p.initial → (inputs : List ℤ) → Fits p (start p plan.main inputs)

abbrev pub StepsKeepFitting : Type 0
StepsKeepFitting = (p : TProgramTree) (plan : Plan) → IsWellTyped p → IsPlanFor p plan → (s t : State) → Fits p s → step p s ≡ Goes t → Fits p t

abbrev pub FittingStatesStep : Type 0
FittingStatesStep = (p : TProgramTree) (plan : Plan) → IsWellTyped p → IsPlanFor p plan → (s : State) → Fits p s → step p s ≡ Stands → ⊥
