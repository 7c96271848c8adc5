-- Heads of labels, and how they fall.
use Rattle.std.specs.Prelude.{◌≡◌, ◌<◌, ◌+◌, ◌⊎◌, ℕ, true, List, [], ◌∷◌, Option, Some, None}
use Rattle.csharp.specs.Trees.{CsProgramTree, CsStmtTrees}
use Rattle.csharp.specs.States.{State}
use Rattle.csharp.specs.Meaning.{AtLabel, has}
use Rattle.walk_owes.specs.declared.marks.Mark.{Mark}
use Rattle.walk_owes.specs.declared.marks.Mark.TheVariants as marks
use Rattle.walk_owes.specs.declared.marks.Head.{Head}
use Rattle.walk_owes.specs.declared.marks.Change.{Change}
use Rattle.walk_owes.specs.declared.marks.Change.TheVariants as changes
use Rattle.walk_owes.specs.Items.{HasHead, HeadsFor}

-- one of the heads is this label's
abbrev pub IsHead : {M : Type 0} → List (Head M) → ℕ → Type 0
IsHead [] l = ⊥
IsHead (h ∷ heads) l = (h.mark ≡ marks.Label l) ⊎ IsHead heads l

abbrev pub LabelsHave : {M : Type 0} → CsStmtTrees → List (Head M) → Type 0
LabelsHave all heads = (l : ℕ) → has (AtLabel l) all ≡ true → IsHead heads l

-- each head of a label is that of one of these items
abbrev pub HeadsAmong : {M : Type 0} → CsStmtTrees → List (Head M) → Type 0
HeadsAmong all heads = (l : ℕ) → IsHead heads l → has (AtLabel l) all ≡ true

-- heads with no set
abbrev pub lacks : {M : Type 0} → Option M → ℕ
lacks None = 1
lacks (Some m) = 0

abbrev pub missing : {M : Type 0} → List (Head M) → ℕ
missing [] = 0
missing (h ∷ heads) = lacks h.state + missing heads

-- the sum of weights
abbrev pub some_weight : {M : Type 0} → (M → ℕ) → Option M → ℕ
some_weight weight None = 0
some_weight weight (Some m) = weight m

abbrev pub weigh : {M : Type 0} → (M → ℕ) → List (Head M) → ℕ
weigh weight [] = 0
weigh weight (h ∷ heads) = some_weight weight h.state + weigh weight heads

-- what a step of one head does to what is left
abbrev pub IsStep : {M : Type 0} → (M → ℕ) → Option M → Option M → Change → Type 0
IsStep weight before after changes.Same = (lacks after ≡ lacks before) × (some_weight weight after ≡ some_weight weight before)
IsStep weight before after changes.Wider = (lacks after ≡ lacks before) × (some_weight weight after < some_weight weight before)
IsStep weight before after changes.New = lacks after < lacks before

-- heads of which one more has a set, that have what they had
pub record IsMore {M : Type 0} (for : M → CsProgramTree → Type 0) (stands : M → State → Type 0) (q : CsProgramTree) (all : CsStmtTrees) (heads later : List (Head M))
    : Type 0 where
  pub is_for : HeadsFor for q later
  pub labels : LabelsHave all later
  pub among : HeadsAmong all later
  pub fewer : missing later < missing heads
  pub old : (mark : Mark) (s : State) → HasHead stands heads mark s → HasHead stands later mark s
