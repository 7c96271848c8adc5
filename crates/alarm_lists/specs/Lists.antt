-- Lists of alarms in order, with one alarm for each chain, place and kind.
use Rattle.std.specs.Prelude.{◌≡◌, ◌⊎◌, ◌++◌, ℕ, List, [], ◌∷◌, length, All, AllPairs, Contains}
use Rattle.std.specs.Ordering.{nat_cmp}
use Rattle.std.specs.Cmp.Lexicographic.{slice_cmp}
use Rattle.std.specs.declared.cmp.Ordering.{Ordering}
use Rattle.std.specs.declared.cmp.Ordering.TheVariants as orders
use Rattle.c_syntax.specs.declared.alarm.Alarm.{Alarm}
use Rattle.c_syntax.specs.declared.alarm.Shown.{Shown}
use Rattle.c_syntax.specs.declared.alarm.Shown.TheVariants as shows
use Rattle.c_syntax.specs.Admission.{IsProper}
use Rattle.c_steps.specs.Order.{Precedes, order_key}
use Rattle.csharp.specs.Trees.{CsProgramTree}
use Rattle.mem_shown.specs.Decisions.{NamesObjects}
use Rattle.mem_shown.specs.Hulls.{AreOfOneForm, IsHull}
use Rattle.alarm_claims.specs.Admitted.{Holds}
use Rattle.alarm_claims.specs.Wider.{Serves}

-- ---- two alarms

-- how two alarms stand to each other, by the numbers of their keys
abbrev pub order_of : Alarm → Alarm → Ordering
order_of x y = slice_cmp nat_cmp (order_key x) (order_key y)

-- of one chain, place and kind
abbrev pub AreAlike : Alarm → Alarm → Type 0
AreAlike x y = (x.chain ≡ y.chain) × (x.pos ≡ y.pos) × (x.kind ≡ y.kind)

-- alarms of one chain, place and kind show operands of one form
abbrev pub HaveOneForm : List Alarm → Type 0
HaveOneForm alarms = (x y : Alarm) → Contains alarms x → Contains alarms y → AreAlike x y → AreOfOneForm x.shown y.shown

-- the forms of what is shown, each with its number
abbrev pub form_number : Shown → ℕ
form_number (shows.Number lo hi modulus rem) = 0
form_number (shows.One a) = 1
form_number (shows.Pair a b) = 2
form_number (shows.Marks undef value broken) = 3
form_number (shows.Ends value none) = 4

-- what is shown names objects of the program
abbrev pub NamesOwn : CsProgramTree → Alarm → Type 0
NamesOwn q x = NamesObjects (length q.objects) x.shown

-- one alarm in the place of two: it shows their hull, serves for both, and holds the first
pub record IsMerge (x y z : Alarm) : Type 0 where
  pub alike : AreAlike x z
  pub hull : IsHull x.shown y.shown z.shown
  pub first : (q : CsProgramTree) → Serves q x z
  pub second : (q : CsProgramTree) → Serves q y z
  pub holds : (q : CsProgramTree) → NamesOwn q y → Holds q x z
  pub proper : IsProper z.shown

-- ---- lists

-- an alarm behind those that were there, which is not like the last of them or shows another form, or made one with the last
abbrev pub IsAdded : List Alarm → Alarm → List Alarm → Type 0
IsAdded done x now =
    (((front : List Alarm) (last : Alarm) → done ≡ front ++ (last ∷ []) → order_of last x ≡ orders.Equal → AreOfOneForm last.shown x.shown → ⊥) × (now ≡ done ++ (x ∷ [])))
    ⊎ ((front : List Alarm) × (last : Alarm) × (both : Alarm) × (done ≡ front ++ (last ∷ [])) × (AreAlike last x × IsMerge last x both) × (now ≡ front ++ (both ∷ [])))

-- some alarm of a list serves for each of the others, and each holds one of them, where these name objects of the program; it is in strict order where
-- those of one chain, place and kind show operands of one form
pub record IsMadeOne (alarms sorted : List Alarm) : Type 0 where
  pub serves : (q : CsProgramTree) (x : Alarm) → Contains alarms x → (y : Alarm) × Contains sorted y × Serves q x y
  pub holds : (q : CsProgramTree) → All (NamesOwn q) alarms → (y : Alarm) → Contains sorted y → (x : Alarm) × Contains alarms x × Holds q x y
  pub ordered : HaveOneForm alarms → AllPairs Precedes sorted

-- a list in strict order: some alarm of it serves for each of the others, and each holds one of them, where these name objects of the program
pub record IsInOrderOf (alarms sorted : List Alarm) : Type 0 where
  pub serves : (q : CsProgramTree) (x : Alarm) → Contains alarms x → (y : Alarm) × Contains sorted y × Serves q x y
  pub holds : (q : CsProgramTree) → All (NamesOwn q) alarms → (y : Alarm) → Contains sorted y → (x : Alarm) × Contains alarms x × Holds q x y
  pub ordered : AllPairs Precedes sorted
