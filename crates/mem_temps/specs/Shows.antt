-- What is asked of what is shown of ranges.
use Rattle.std.specs.Prelude.{◌≡◌, ◌≤ℤ◌, ℕ, ℤ, pos, ◌<◌, Bool, true, false, not, IsTrue, List, [], ◌∷◌, length, if◌then◌else◌}
use Rattle.std.specs.Ordering.{int_eq}
use Rattle.c_syntax.specs.declared.alarm.Check.{Check}
use Rattle.c_syntax.specs.declared.alarm.WrongKind.{WrongKind}
use Rattle.c_syntax.specs.declared.alarm.WrongKind.TheVariants as kinds
use Rattle.c_syntax.specs.declared.alarm.Shown.{Shown}
use Rattle.c_syntax.specs.declared.alarm.Spot.{Spot}
use Rattle.c_syntax.specs.declared.alarm.Spot.TheVariants as spots
use Rattle.c_syntax.specs.declared.alarm.Pointers.{Pointers}
use Rattle.c_syntax.specs.Types.{ObjectTree}
use Rattle.c_syntax.specs.Operand.{Operand, Number, Point, Points, Mark, End, LoadMark}
use Rattle.c_syntax.specs.Operand as operands
use Rattle.c_syntax.specs.Admission.{IsInShown, IsSpotIn, IsProper, IsProperSet}
use Rattle.c_syntax.specs.Failing.{is_outside, fails_kind}
use Rattle.mem_shown.specs.Decisions.{NamesObjects, NamesBelow}
use Rattle.num_api.specs.declared.message.Range.{Range}
use Rattle.ext_int.specs.declared.Ext.TheVariants.{Fin}
use Rattle.ext_int.specs.Ext.{AtMost}
use Rattle.num_api.specs.Ranges.{InRange, IsPoint, NoWider}
use Rattle.num_api.specs.Spans.{Span, span, range_of}
use Rattle.num_api.specs.Plain.{excludes}
use Rattle.num_api.specs.Value.{truth}
use Rattle.csharp.specs.Trees.{CsExprTree}
use Rattle.mem_api.specs.Showing.{IsRange, AreEnds, HasForm, IsPair, IsAlone}
use Rattle.mem_temps.specs.Checks.{IsSmall}

-- the operand is a number of the range
abbrev pub IsNumberIn : Range → Operand → Type 0
IsNumberIn r (Number n) = InRange r n
IsNumberIn r x = ⊥

-- the operand is the one number of the range, and may be shown alone
abbrev pub IsNumberAlone : Range → Operand → Type 0
IsNumberAlone r (Number n) = IsPoint r n × IsSmall n
IsNumberAlone r x = ⊥

-- the end that a number tells: none where it is 0
abbrev pub end_by : ℤ → Operand
end_by n = End (if int_eq n (pos 0) then operands.None else operands.Value)

-- the spot is one of a pointer whose number is in the range
abbrev pub IsSpotOf : List ObjectTree → Range → Spot → Type 0
IsSpotOf objects r spots.Null = InRange r (pos 0)
IsSpotOf objects r spots.Dead = InRange r (pos 1)
IsSpotOf objects r (spots.At o d) = (o < length objects) × InRange r (pos 1)

pub record ShowsNumber (r : Range) (w : Shown) : Type 0 where
  pub holds : (objects : List ObjectTree) (x : Operand) → IsNumberIn r x → IsInShown objects x w
  pub alone : (objects : List ObjectTree) (x : Operand) → IsNumberAlone r x → IsAlone objects x w
  pub form : IsRange w
  pub proper : IsProper w
  pub names : (count : ℕ) → NamesObjects count w
  pub least : (objects : List ObjectTree) (n low : ℤ) → IsSmall low → AtMost (Fin low) r.lo → IsInShown objects (Number n) w → low ≤ℤ n
  pub greatest : (objects : List ObjectTree) (n high : ℤ) → IsSmall high → AtMost r.hi (Fin high) → IsInShown objects (Number n) w → n ≤ℤ high

pub record ShowsEnd (r : Range) (w : Shown) : Type 0 where
  pub holds : (objects : List ObjectTree) (n : ℤ) → InRange r n → IsInShown objects (end_by n) w
  pub alone : (objects : List ObjectTree) (n : ℤ) → IsPoint r n → IsAlone objects (end_by n) w
  pub form : AreEnds w
  pub proper : IsProper w
  pub names : (count : ℕ) → NamesObjects count w

pub record IsSetOf (r : Range) (set : Pointers) : Type 0 where
  pub holds : (objects : List ObjectTree) (s : Spot) → IsSpotOf objects r s → IsSpotIn objects set s
  pub alone : IsPoint r (pos 0) → (objects : List ObjectTree) (s : Spot) → IsSpotIn objects set s → s ≡ spots.Null
  pub proper : IsProperSet set
  pub names : (count : ℕ) → NamesBelow count set

-- ---- operands by the kind of their check

-- the truth of a number
abbrev pub truth_of : ℤ → ℤ
truth_of n = truth (not (int_eq n (pos 0)))

pub record IsTruth (r found : Range) : Type 0 where
  pub holds : (n : ℤ) → InRange r n → InRange found (truth_of n)
  pub point : (n : ℤ) → IsPoint r n → IsPoint found (truth_of n)
  pub plain : (s : Span) → NoWider r (range_of s) → IsTrue (excludes false s) → AtMost (Fin (pos 1)) found.lo

-- a check of one expression looks at such an operand, where its value and its exact result are in these ranges
abbrev pub OperandIn : WrongKind → List ObjectTree → Range → Range → Operand → Type 0
OperandIn kinds.Overflow objects value exact x = IsNumberIn exact x
OperandIn kinds.Quotient objects value exact x = IsNumberIn exact x
OperandIn kinds.ShiftResult objects value exact x = IsNumberIn exact x
OperandIn kinds.DivideByZero objects value exact x = IsNumberIn value x
OperandIn kinds.ShiftAmount objects value exact x = IsNumberIn value x
OperandIn kinds.AssertFailed objects value exact x = (n : ℤ) × InRange value n × (x ≡ Number (truth_of n))
OperandIn kinds.NoValue objects value exact x = (n : ℤ) × InRange value n × (x ≡ end_by n)
OperandIn kinds.Indeterminate objects value exact x = (m : LoadMark) × (x ≡ Mark m)
OperandIn kinds.Fragment objects value exact x = (m : LoadMark) × (x ≡ Mark m)
OperandIn kind objects value exact x = (s : Spot) × (x ≡ Point s) × IsSpotOf objects value s

-- and at such a one where that is all that the ranges hold
abbrev pub OperandAlone : WrongKind → Range → Range → Operand → Type 0
OperandAlone kinds.Overflow value exact x = IsNumberAlone exact x
OperandAlone kinds.Quotient value exact x = IsNumberAlone exact x
OperandAlone kinds.ShiftResult value exact x = IsNumberAlone exact x
OperandAlone kinds.DivideByZero value exact x = IsNumberAlone value x
OperandAlone kinds.ShiftAmount value exact x = IsNumberAlone value x
OperandAlone kinds.AssertFailed value exact x = (n : ℤ) × IsPoint value n × (x ≡ Number (truth_of n))
OperandAlone kinds.NoValue value exact x = (n : ℤ) × IsPoint value n × (x ≡ end_by n)
OperandAlone kinds.Indeterminate value exact x = ⊥
OperandAlone kinds.Fragment value exact x = ⊥
OperandAlone kind value exact x = IsPoint value (pos 0) × (x ≡ Point spots.Null)

-- the kinds that look at one expression
abbrev pub IsOfOne : WrongKind → Type 0
IsOfOne kinds.Unrelated = ⊥
IsOfOne kind = Unit {0}

-- the kinds that may look at two pointers
abbrev pub IsOfTwo : WrongKind → Type 0
IsOfTwo kinds.NullUse = Unit {0}
IsOfTwo kinds.Dangling = Unit {0}
IsOfTwo kinds.Unrelated = Unit {0}
IsOfTwo kind = ⊥

-- no number outside of a span is shown, where the range lies in it
abbrev pub ShowsWithin : Range → Shown → Type 0
ShowsWithin r w = (objects : List ObjectTree) (n low high : ℤ) → IsSmall low → IsSmall high → NoWider r (range_of (span low high)) → IsInShown objects (Number n) w
    → (low ≤ℤ n) × (n ≤ℤ high)

-- 0 is not shown, where the range lies in a span without it
abbrev pub ShowsNonzero : Range → Shown → Type 0
ShowsNonzero r w = (objects : List ObjectTree) (n : ℤ) (s : Span) → NoWider r (range_of s) → IsTrue (excludes false s) → IsInShown objects (Number n) w → n ≡ pos 0 → ⊥

-- what is shown of a check that looks at a number
abbrev pub ShowsNumbers : WrongKind → Range → Range → Shown → Type 0
ShowsNumbers kinds.Overflow value exact w = ShowsWithin exact w
ShowsNumbers kinds.Quotient value exact w = ShowsWithin exact w
ShowsNumbers kinds.ShiftResult value exact w = ShowsWithin exact w
ShowsNumbers kinds.ShiftAmount value exact w = ShowsWithin value w
ShowsNumbers kinds.DivideByZero value exact w = ShowsNonzero value w
ShowsNumbers kinds.AssertFailed value exact w = ShowsNonzero value w
ShowsNumbers kind value exact w = Unit {0}

pub record ShowsOne (kind : WrongKind) (value exact : Range) (w : Shown) : Type 0 where
  pub holds : (objects : List ObjectTree) (x : Operand) → OperandIn kind objects value exact x → IsInShown objects x w
  pub alone : (objects : List ObjectTree) (x : Operand) → OperandAlone kind value exact x → IsAlone objects x w
  pub form : IsOfOne kind → (e : CsExprTree) → HasForm kind (e ∷ []) w
  pub proper : IsProper w
  pub names : (count : ℕ) → NamesObjects count w
  pub numbers : ShowsNumbers kind value exact w

-- a number of the range lies between two ends
pub record IsAllowed (r : Range) (lo hi : ℤ) (some : Bool) : Type 0 where
  pub stays : (n : ℤ) → InRange r n → is_outside lo hi n ≡ false → IsTrue some
  pub dead : (n : ℤ) → IsPoint r n → is_outside lo hi n ≡ true → some ≡ false

pub record PassesOne (kind : WrongKind) (check : Check) (value exact : Range) (live : Bool) : Type 0 where
  pub stays : (objects : List ObjectTree) (x : Operand) → OperandIn kind objects value exact x → fails_kind objects check kind x ≡ false → IsTrue live
  pub dead : (objects : List ObjectTree) (x : Operand) → OperandAlone kind value exact x → fails_kind objects check kind x ≡ true → live ≡ false

-- ---- two pointers

abbrev pub OperandsIn : List ObjectTree → Range → Range → Operand → Type 0
OperandsIn objects r s x = (a b : Spot) × (x ≡ Points a b) × IsSpotOf objects r a × IsSpotOf objects s b

abbrev pub OperandsAlone : Range → Range → Operand → Type 0
OperandsAlone r s x = IsPoint r (pos 0) × IsPoint s (pos 0) × (x ≡ Points spots.Null spots.Null)

pub record ShowsTwo (r s : Range) (w : Shown) : Type 0 where
  pub holds : (objects : List ObjectTree) (x : Operand) → OperandsIn objects r s x → IsInShown objects x w
  pub alone : (objects : List ObjectTree) (x : Operand) → OperandsAlone r s x → IsAlone objects x w
  pub form : IsPair w
  pub proper : IsProper w
  pub names : (count : ℕ) → NamesObjects count w

pub record PassesTwo (kind : WrongKind) (check : Check) (r s : Range) (live : Bool) : Type 0 where
  pub stays : (objects : List ObjectTree) (x : Operand) → OperandsIn objects r s x → fails_kind objects check kind x ≡ false → IsTrue live
  pub dead : (objects : List ObjectTree) (x : Operand) → IsOfTwo kind → OperandsAlone r s x → fails_kind objects check kind x ≡ true → live ≡ false
