-- What is shown of each kind of check.
use Rattle.std.specs.Prelude.{ℕ, ℤ, pos, not, ◌≡◌, Bool, IsTrue, if◌then◌else◌, List, [], ◌∷◌, Option, Some}
use Rattle.c_syntax.specs.declared.alarm.Shown.{Shown}
use Rattle.c_syntax.specs.declared.alarm.Shown.TheVariants as shows
use Rattle.c_syntax.specs.declared.alarm.Pointers.{Pointers}
use Rattle.c_syntax.specs.declared.alarm.WrongKind.{WrongKind}
use Rattle.c_syntax.specs.declared.alarm.WrongKind.TheVariants as kinds
use Rattle.c_syntax.specs.Types.{ObjectTree}
use Rattle.c_syntax.specs.Operand.{Operand}
use Rattle.c_syntax.specs.Admission.{IsInShown, IsProper, IsProperSet}
use Rattle.block_mem.specs.declared.types.Scalar.{Scalar}
use Rattle.block_mem.specs.declared.types.Value.{Value}
use Rattle.c_values.specs.Places.{point}
use Rattle.c_values.specs.Values.{truth}
use Rattle.num_api.specs.Value.{truth as number_truth}
use Rattle.csharp.specs.Trees.{CsExprTree}
use Rattle.csharp.specs.States.{State, of_value, operand_of, value_of}
use Rattle.mem_shown.specs.Decisions.{NamesBelow, NamesObjects}
use Rattle.mem_api.specs.Showing.{HasForm}
use Rattle.mem_cell_exprs.specs.Known.{StandsFor}
use Rattle.mem_cell_exprs.specs.declared.known.Known.{Known}
use Rattle.mem_cell_shows.specs.declared.ends.Ends.{Ends}
use Rattle.mem_cell_shows.specs.declared.truths.Truths.{Truths}
use Rattle.mem_cell_shows.specs.declared.marks.Marks.{Marks}
use Rattle.mem_cell_shows.specs.Ends.{IsProperEnds, number_shown}
use Rattle.mem_cell_shows.specs.Shows.{InEach, ShowsPointer}

-- numbers that hold what is looked at
pub record ShowsNumber {D : Type 0} (admits : D → List ℤ → Type 0) (k : Known D) (look : State → Option Operand) (w : Ends) : Type 0 where
  pub holds : InEach admits k look (λ objects x. IsInShown objects x (number_shown w))
  pub proper : IsProperEnds w

-- the truths that an expression may have
abbrev pub may_have : Truths → Bool → Bool
may_have found truth = if truth then found.yes else found.no

abbrev pub HasTruths : {D : Type 0} → (D → List ℤ → Type 0) → Known D → CsExprTree → Truths → Type 0
HasTruths admits k e found = (objects : List ObjectTree) (s : State) (u : Value) → StandsFor admits objects k s → value_of e s ≡ Some u → IsTrue (may_have found (truth u))

abbrev pub marks_shown : Marks → Shown
marks_shown w = shows.Marks w.undef w.value w.broken

-- what is shown of a check: its form, proper, of so many objects, and each operand is shown
pub record IsShown {D : Type 0} (admits : D → List ℤ → Type 0) (k : Known D) (count : ℕ) (kind : WrongKind) (ty : Option Scalar) (es : List CsExprTree) (w : Shown) : Type 0 where
  pub holds : InEach admits k (operand_of kind ty es) (λ objects x. IsInShown objects x w)
  pub form : HasForm kind es w
  pub names : NamesObjects count w
  pub proper : IsProper w

-- the numbers of these truths
abbrev pub truth_ends : Truths → Ends
truth_ends found = record { lo = Some (number_truth (not found.no)); hi = Some (number_truth found.yes); modulus = pos 1; rem = pos 0 }

-- the ends of a call by which it gave a value or none
abbrev pub ends_shown : Truths → Shown
ends_shown found = shows.Ends found.yes found.no

-- each mark that a load meets is shown
abbrev pub ShowsMarks : {D : Type 0} → (D → List ℤ → Type 0) → Known D → (State → Option Operand) → Marks → Type 0
ShowsMarks admits k look w = InEach admits k look (λ objects x. IsInShown objects x (marks_shown w))

-- ---- pointers

-- the kinds that look at one pointer or at two
abbrev pub MayBeTwo : WrongKind → Type 0
MayBeTwo kinds.NullUse = Unit {0}
MayBeTwo kinds.Dangling = Unit {0}
MayBeTwo kinds.Unrelated = Unit {0}
MayBeTwo kind = ⊥

abbrev pub AreTwo : List CsExprTree → Type 0
AreTwo (e ∷ f ∷ []) = Unit {0}
AreTwo es = ⊥

-- an equality, an order or a difference looks at two
abbrev pub HasTwo : WrongKind → List CsExprTree → Type 0
HasTwo kinds.Unrelated es = AreTwo es
HasTwo kind es = Unit {0}

-- where the one expression points is shown
pub record ShowsSet {D : Type 0} (admits : D → List ℤ → Type 0) (k : Known D) (count : ℕ) (es : List CsExprTree) (shown : Pointers) : Type 0 where
  pub holds : InEach admits k (λ s. of_value es s (point s.memory)) (λ objects x. IsInShown objects x (shows.One shown))
  pub proper : IsProperSet shown
  pub names : NamesBelow count shown

-- where two expressions point is shown
pub record ShowsPair {D : Type 0} (admits : D → List ℤ → Type 0) (k : Known D) (count : ℕ) (e f : CsExprTree) (w : Shown) : Type 0 where
  pub left : Pointers
  pub right : Pointers
  pub is : w ≡ shows.Pair left right
  pub first : ShowsPointer admits k count e left
  pub second : ShowsPointer admits k count f right
