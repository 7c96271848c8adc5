-- Forms of what is shown, and what is shown of one named object, in what two sides show at once.
use Rattle.std.proofs.Common.{ℕ, List, [], ◌∷◌, length}
use Rattle.c_syntax.specs.declared.alarm.Shown.{Shown}
use Rattle.c_syntax.specs.declared.alarm.Shown.TheVariants as shows
use Rattle.c_syntax.specs.declared.alarm.WrongKind.{WrongKind}
use Rattle.c_syntax.specs.declared.alarm.WrongKind.TheVariants as kinds
use Rattle.c_syntax.specs.Types.{ObjectTree}
use Rattle.c_syntax.specs.Operand.{Point}
use Rattle.csharp.specs.Trees.{CsExprTree}
use Rattle.mem_shown.specs.Decisions.{NamesObjects}
use Rattle.mem_shown.specs.Hulls.{AreOfOneForm}
use Rattle.mem_narrowed.specs.Narrowed.{IsNarrowed}
use Rattle.mem_api.specs.Showing.{HasForm, IsRange, IsSet, IsPair, AreMarks, AreEnds, ArePointers}
use Rattle.mem_api.specs.Named.{ShowsOnly}

-- ---- what has one form with a range, a set, a pair, marks or ends

ranges-alike : (a b : Shown) → IsRange a → IsRange b → AreOfOneForm a b
ranges-alike (shows.Number lo hi m r) (shows.Number l h s t) p q = tt
ranges-alike (shows.Number lo hi m r) b p q = absurd q
ranges-alike a b p q = absurd p

sets-alike : (a b : Shown) → IsSet a → IsSet b → AreOfOneForm a b
sets-alike (shows.One set) (shows.One other) p q = tt
sets-alike (shows.One set) b p q = absurd q
sets-alike a b p q = absurd p

pairs-alike : (a b : Shown) → IsPair a → IsPair b → AreOfOneForm a b
pairs-alike (shows.Pair left right) (shows.Pair l r) p q = tt
pairs-alike (shows.Pair left right) b p q = absurd q
pairs-alike a b p q = absurd p

marks-alike : (a b : Shown) → AreMarks a → AreMarks b → AreOfOneForm a b
marks-alike (shows.Marks undef value broken) (shows.Marks u v w) p q = tt
marks-alike (shows.Marks undef value broken) b p q = absurd q
marks-alike a b p q = absurd p

ends-alike : (a b : Shown) → AreEnds a → AreEnds b → AreOfOneForm a b
ends-alike (shows.Ends value none) (shows.Ends v n) p q = tt
ends-alike (shows.Ends value none) b p q = absurd q
ends-alike a b p q = absurd p

pointers-alike : (es : List CsExprTree) (a b : Shown) → ArePointers es a → ArePointers es b → AreOfOneForm a b
pointers-alike [] a b p q = sets-alike a b p q
pointers-alike (e ∷ []) a b p q = sets-alike a b p q
pointers-alike (e ∷ f ∷ []) a b p q = pairs-alike a b p q
pointers-alike (e ∷ f ∷ g ∷ es) a b p q = sets-alike a b p q

-- what two sides show of one check is of one form
pub forms-alike : (kind : WrongKind) (es : List CsExprTree) (a b : Shown) → HasForm kind es a → HasForm kind es b → AreOfOneForm a b
forms-alike kinds.Indeterminate es a b p q = marks-alike a b p q
forms-alike kinds.Fragment es a b p q = marks-alike a b p q
forms-alike kinds.NullUse es a b p q = pointers-alike es a b p q
forms-alike kinds.Dangling es a b p q = pointers-alike es a b p q
forms-alike kinds.Bounds es a b p q = sets-alike a b p q
forms-alike kinds.Access es a b p q = sets-alike a b p q
forms-alike kinds.Alignment es a b p q = sets-alike a b p q
forms-alike kinds.ReadOnly es a b p q = sets-alike a b p q
forms-alike kinds.Unrelated es a b p q = pairs-alike a b p q
forms-alike kinds.NoValue es a b p q = ends-alike a b p q
forms-alike kind es a b p q = ranges-alike a b p q

-- ---- a form goes along

range-along : (a w : Shown) → AreOfOneForm a w → IsRange a → IsRange w
range-along (shows.Number lo hi m r) (shows.Number l h s t) e p = tt
range-along (shows.Number lo hi m r) w e p = absurd e
range-along a w e p = absurd p

set-along : (a w : Shown) → AreOfOneForm a w → IsSet a → IsSet w
set-along (shows.One set) (shows.One other) e p = tt
set-along (shows.One set) w e p = absurd e
set-along a w e p = absurd p

pair-along : (a w : Shown) → AreOfOneForm a w → IsPair a → IsPair w
pair-along (shows.Pair left right) (shows.Pair l r) e p = tt
pair-along (shows.Pair left right) w e p = absurd e
pair-along a w e p = absurd p

marks-along : (a w : Shown) → AreOfOneForm a w → AreMarks a → AreMarks w
marks-along (shows.Marks undef value broken) (shows.Marks u v b) e p = tt
marks-along (shows.Marks undef value broken) w e p = absurd e
marks-along a w e p = absurd p

ends-along : (a w : Shown) → AreOfOneForm a w → AreEnds a → AreEnds w
ends-along (shows.Ends value none) (shows.Ends v n) e p = tt
ends-along (shows.Ends value none) w e p = absurd e
ends-along a w e p = absurd p

pointers-along : (es : List CsExprTree) (a w : Shown) → AreOfOneForm a w → ArePointers es a → ArePointers es w
pointers-along [] a w e p = set-along a w e p
pointers-along (d ∷ []) a w e p = set-along a w e p
pointers-along (d ∷ f ∷ []) a w e p = pair-along a w e p
pointers-along (d ∷ f ∷ g ∷ es) a w e p = set-along a w e p

pub form-along : (kind : WrongKind) (es : List CsExprTree) (a w : Shown) → AreOfOneForm a w → HasForm kind es a → HasForm kind es w
form-along kinds.Indeterminate es a w e p = marks-along a w e p
form-along kinds.Fragment es a w e p = marks-along a w e p
form-along kinds.NullUse es a w e p = pointers-along es a w e p
form-along kinds.Dangling es a w e p = pointers-along es a w e p
form-along kinds.Bounds es a w e p = set-along a w e p
form-along kinds.Access es a w e p = set-along a w e p
form-along kinds.Alignment es a w e p = set-along a w e p
form-along kinds.ReadOnly es a w e p = set-along a w e p
form-along kinds.Unrelated es a w e p = pair-along a w e p
form-along kinds.NoValue es a w e p = ends-along a w e p
form-along kind es a w e p = range-along a w e p

-- ---- one named object

-- an object that the first side shows alone is shown alone still
pub only-along : (objects : List ObjectTree) (o c : ℕ) (a b w : Shown) → IsNarrowed a b w → NamesObjects (length objects) b → ShowsOnly objects o c a → ShowsOnly objects o c w
only-along objects o c (shows.One set) b (shows.One other) n names only = record {
  object = λ s there. only.object s (n.inside objects (Point s) names there);
  modulus = (n.divided _ (only.modulus, only.rem)).0;
  rem = (n.divided _ (only.modulus, only.rem)).1;
}
only-along objects o c (shows.One set) b w n names only = absurd n.form
only-along objects o c a b w n names only = absurd only
