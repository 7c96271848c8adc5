-- The form of what is shown, of two and of their hull.
use Rattle.std.proofs.Common.{◌≡◌, List, [], ◌∷◌, refl, arith}
use Rattle.c_syntax.specs.declared.alarm.Shown.{Shown}
use Rattle.c_syntax.specs.declared.alarm.Shown.TheVariants as shows
use Rattle.c_syntax.specs.declared.alarm.WrongKind.{WrongKind}
use Rattle.c_syntax.specs.declared.alarm.WrongKind.TheVariants as kinds
use Rattle.csharp.specs.Trees.{CsExprTree}
use Rattle.mem_shown.specs.Hulls.{AreOfOneForm, IsHull}
use Rattle.alarm_lists.specs.Lists.{form_number}
use Rattle.mem_api.specs.Showing.{AreEnds, AreMarks, ArePointers, HasForm, IsPair, IsRange, IsSet}

-- a hull has the form of the first
pub hull_form : (a b w : Shown) → IsHull a b w → AreOfOneForm a w
hull_form (shows.Number lo hi modulus rem) (shows.Number low high step rest) (shows.Number l h m r) x = tt
hull_form (shows.One a) (shows.One b) (shows.One w) x = tt
hull_form (shows.Pair a b) (shows.Pair c d) (shows.Pair v w) x = tt
hull_form (shows.Marks undef value broken) (shows.Marks u v b) (shows.Marks y z w) x = tt
hull_form (shows.Ends value none) (shows.Ends v n) (shows.Ends y z) x = tt
hull_form a b w x = absurd x

-- the number of a form tells it
pub form_of_number : (a b : Shown) → form_number a ≡ form_number b → AreOfOneForm a b
form_of_number (shows.Number lo hi modulus rem) (shows.Number low high step rest) h = tt
form_of_number (shows.One a) (shows.One b) h = tt
form_of_number (shows.Pair a b) (shows.Pair c d) h = tt
form_of_number (shows.Marks undef value broken) (shows.Marks u v b) h = tt
form_of_number (shows.Ends value none) (shows.Ends v n) h = tt
form_of_number a b h = absurd (omega (h, arith))

pub number_of_form : (a b : Shown) → AreOfOneForm a b → form_number a ≡ form_number b
number_of_form (shows.Number lo hi modulus rem) (shows.Number low high step rest) h = refl
number_of_form (shows.One a) (shows.One b) h = refl
number_of_form (shows.Pair a b) (shows.Pair c d) h = refl
number_of_form (shows.Marks undef value broken) (shows.Marks u v b) h = refl
number_of_form (shows.Ends value none) (shows.Ends v n) h = refl
number_of_form a b h = absurd h

-- two that have the form of a third
pub form_both : (a b c : Shown) → AreOfOneForm a b → AreOfOneForm a c → AreOfOneForm b c
form_both (shows.Number lo hi modulus rem) (shows.Number low high step rest) (shows.Number l h m r) x y = tt
form_both (shows.One a) (shows.One b) (shows.One c) x y = tt
form_both (shows.Pair a b) (shows.Pair c d) (shows.Pair v w) x y = tt
form_both (shows.Marks undef value broken) (shows.Marks u v b) (shows.Marks p q r) x y = tt
form_both (shows.Ends value none) (shows.Ends v n) (shows.Ends p q) x y = tt
form_both (shows.Number lo hi modulus rem) (shows.Number low high step rest) c x y = absurd y
form_both (shows.One a) (shows.One b) c x y = absurd y
form_both (shows.Pair a b) (shows.Pair c d) v x y = absurd y
form_both (shows.Marks undef value broken) (shows.Marks u v b) c x y = absurd y
form_both (shows.Ends value none) (shows.Ends v n) c x y = absurd y
form_both a b c x y = absurd x

-- ---- what a check asks of the form

range_on : (v w : Shown) → AreOfOneForm v w → IsRange v → IsRange w
range_on (shows.Number lo hi modulus rem) (shows.Number low high step rest) f h = tt
range_on (shows.Number lo hi modulus rem) w f h = absurd f
range_on v w f h = absurd h

set_on : (v w : Shown) → AreOfOneForm v w → IsSet v → IsSet w
set_on (shows.One a) (shows.One b) f h = tt
set_on (shows.One a) w f h = absurd f
set_on v w f h = absurd h

pair_on : (v w : Shown) → AreOfOneForm v w → IsPair v → IsPair w
pair_on (shows.Pair a b) (shows.Pair c d) f h = tt
pair_on (shows.Pair a b) w f h = absurd f
pair_on v w f h = absurd h

marks_on : (v w : Shown) → AreOfOneForm v w → AreMarks v → AreMarks w
marks_on (shows.Marks undef value broken) (shows.Marks u x b) f h = tt
marks_on (shows.Marks undef value broken) w f h = absurd f
marks_on v w f h = absurd h

ends_on : (v w : Shown) → AreOfOneForm v w → AreEnds v → AreEnds w
ends_on (shows.Ends value none) (shows.Ends x n) f h = tt
ends_on (shows.Ends value none) w f h = absurd f
ends_on v w f h = absurd h

pointers_on : (es : List CsExprTree) (v w : Shown) → AreOfOneForm v w → ArePointers es v → ArePointers es w
pointers_on [] v w f h = set_on v w f h
pointers_on (e ∷ []) v w f h = set_on v w f h
pointers_on (e ∷ d ∷ []) v w f h = pair_on v w f h
pointers_on (e ∷ d ∷ c ∷ es) v w f h = set_on v w f h

-- what has the form of a check gives it to what has its form
pub form_on : (k : WrongKind) (es : List CsExprTree) (v w : Shown) → AreOfOneForm v w → HasForm k es v → HasForm k es w
form_on kinds.Overflow es v w f h = range_on v w f h
form_on kinds.DivideByZero es v w f h = range_on v w f h
form_on kinds.Quotient es v w f h = range_on v w f h
form_on kinds.ShiftAmount es v w f h = range_on v w f h
form_on kinds.ShiftResult es v w f h = range_on v w f h
form_on kinds.Indeterminate es v w f h = marks_on v w f h
form_on kinds.Fragment es v w f h = marks_on v w f h
form_on kinds.NullUse es v w f h = pointers_on es v w f h
form_on kinds.Dangling es v w f h = pointers_on es v w f h
form_on kinds.Bounds es v w f h = set_on v w f h
form_on kinds.Access es v w f h = set_on v w f h
form_on kinds.Alignment es v w f h = set_on v w f h
form_on kinds.ReadOnly es v w f h = set_on v w f h
form_on kinds.Unrelated es v w f h = pair_on v w f h
form_on kinds.NoValue es v w f h = ends_on v w f h
form_on kinds.AssertFailed es v w f h = range_on v w f h
