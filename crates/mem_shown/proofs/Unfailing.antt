-- Which operands a check of each kind may fail on.
use Rattle.std.proofs.Common.{◌≡◌, ℕ, ℤ, ◌<ℤ◌, ◌⊎◌, inl, inr, refl, sym, subst, List}
use Rattle.std.specs.Prelude.{Option, None, MatchOption, IsSomeAnd, Bool, false, slice_get}
use Rattle.c_syntax.specs.declared.alarm.Check.{Check}
use Rattle.c_syntax.specs.declared.alarm.Pointers.{Pointers}
use Rattle.c_syntax.specs.declared.alarm.Spot.{Spot}
use Rattle.c_syntax.specs.declared.alarm.Spot.TheVariants as spots
use Rattle.c_syntax.specs.declared.alarm.Shown.TheVariants as shows
use Rattle.c_syntax.specs.declared.alarm.WrongKind.{WrongKind}
use Rattle.c_syntax.specs.declared.alarm.WrongKind.TheVariants as kinds
use Rattle.c_syntax.specs.Types.{ObjectTree}
use Rattle.c_syntax.specs.Operand.{Operand, Number, Point, Points, Mark, End, LoadMark, Undef, HasValue, Broken, CallEnd}
use Rattle.c_syntax.specs.Operand as operands
use Rattle.c_syntax.specs.Admission.{IsInShown, Fails, FailsKind, IsBetween, IsInClass, IsSpotIn}
use Rattle.mem_shown.specs.declared.span.Span.{Span}
use Rattle.mem_shown.specs.declared.wanted.Wanted.{Wanted}
use Rattle.mem_shown.specs.Spans.{InSpan}
use Rattle.mem_shown.specs.Offsets.{Wants, IsWanted}
use Rattle.mem_shown.specs.Decisions.{IsFailing}
use Rattle.mem_shown.proofs.Matches.{both_ways}

-- ---- the operands of each form

pub one_number : (objects : List ObjectTree) (check : Check) (lo hi : Option ℤ) (modulus rem : ℤ)
    → ((n : ℤ) → IsBetween lo hi n → IsInClass modulus rem n → Fails objects check (Number n) → ⊥)
    → (x : Operand) → IsFailing objects check (shows.Number lo hi modulus rem) x → ⊥
one_number objects check lo hi modulus rem none (Number n) f = none n f.shown_there.0 f.shown_there.1 f.fails
one_number objects check lo hi modulus rem none (Point s) f = absurd f.shown_there
one_number objects check lo hi modulus rem none (Points s t) f = absurd f.shown_there
one_number objects check lo hi modulus rem none (Mark m) f = absurd f.shown_there
one_number objects check lo hi modulus rem none (End e) f = absurd f.shown_there

pub one_spot : (objects : List ObjectTree) (check : Check) (set : Pointers) → ((s : Spot) → IsSpotIn objects set s → Fails objects check (Point s) → ⊥)
    → (x : Operand) → IsFailing objects check (shows.One set) x → ⊥
one_spot objects check set none (Number n) f = absurd f.shown_there
one_spot objects check set none (Point s) f = none s f.shown_there f.fails
one_spot objects check set none (Points s t) f = absurd f.shown_there
one_spot objects check set none (Mark m) f = absurd f.shown_there
one_spot objects check set none (End e) f = absurd f.shown_there

pub two_spots : (objects : List ObjectTree) (check : Check) (left right : Pointers)
    → ((s t : Spot) → IsSpotIn objects left s → IsSpotIn objects right t → Fails objects check (Points s t) → ⊥)
    → (x : Operand) → IsFailing objects check (shows.Pair left right) x → ⊥
two_spots objects check left right none (Number n) f = absurd f.shown_there
two_spots objects check left right none (Point s) f = absurd f.shown_there
two_spots objects check left right none (Points s t) f = none s t f.shown_there.0 f.shown_there.1 f.fails
two_spots objects check left right none (Mark m) f = absurd f.shown_there
two_spots objects check left right none (End e) f = absurd f.shown_there

-- ---- marks

pub no_undef : (objects : List ObjectTree) (check : Check) (undef value broken : Bool) → undef ≡ false
    → (x : Operand) → IsInShown objects x (shows.Marks undef value broken) → FailsKind objects check kinds.Indeterminate x → ⊥
no_undef objects check undef value broken e (Number n) h f = absurd h
no_undef objects check undef value broken e (Point s) h f = absurd h
no_undef objects check undef value broken e (Points s t) h f = absurd h
no_undef objects check undef value broken e (Mark Undef) h f = cc
no_undef objects check undef value broken e (Mark HasValue) h f = cc
no_undef objects check undef value broken e (Mark Broken) h f = cc
no_undef objects check undef value broken e (End m) h f = absurd h

pub no_broken : (objects : List ObjectTree) (check : Check) (undef value broken : Bool) → broken ≡ false
    → (x : Operand) → IsInShown objects x (shows.Marks undef value broken) → FailsKind objects check kinds.Fragment x → ⊥
no_broken objects check undef value broken e (Number n) h f = absurd h
no_broken objects check undef value broken e (Point s) h f = absurd h
no_broken objects check undef value broken e (Points s t) h f = absurd h
no_broken objects check undef value broken e (Mark Undef) h f = cc
no_broken objects check undef value broken e (Mark HasValue) h f = cc
no_broken objects check undef value broken e (Mark Broken) h f = cc
no_broken objects check undef value broken e (End m) h f = absurd h

-- a mark fails no check of another kind
mark_kind : (objects : List ObjectTree) (check : Check) (kind : WrongKind) (m : LoadMark) → (kind ≡ kinds.Indeterminate → ⊥) → (kind ≡ kinds.Fragment → ⊥) → FailsKind objects check kind (Mark m) → ⊥
mark_kind objects check kinds.Overflow m u b f = absurd f
mark_kind objects check kinds.DivideByZero m u b f = absurd f
mark_kind objects check kinds.Quotient m u b f = absurd f
mark_kind objects check kinds.ShiftAmount m u b f = absurd f
mark_kind objects check kinds.ShiftResult m u b f = absurd f
mark_kind objects check kinds.Indeterminate m u b f = u refl
mark_kind objects check kinds.Fragment m u b f = b refl
mark_kind objects check kinds.NullUse m u b f = absurd f
mark_kind objects check kinds.Dangling m u b f = absurd f
mark_kind objects check kinds.Bounds m u b f = absurd f
mark_kind objects check kinds.Access m u b f = absurd f
mark_kind objects check kinds.Alignment m u b f = absurd f
mark_kind objects check kinds.ReadOnly m u b f = absurd f
mark_kind objects check kinds.Unrelated m u b f = absurd f
mark_kind objects check kinds.NoValue m u b f = cc
mark_kind objects check kinds.AssertFailed m u b f = absurd f

pub no_mark : (objects : List ObjectTree) (check : Check) (kind : WrongKind) (undef value broken : Bool) → (kind ≡ kinds.Indeterminate → ⊥) → (kind ≡ kinds.Fragment → ⊥)
    → (x : Operand) → IsInShown objects x (shows.Marks undef value broken) → FailsKind objects check kind x → ⊥
no_mark objects check kind undef value broken u b (Number n) h f = absurd h
no_mark objects check kind undef value broken u b (Point s) h f = absurd h
no_mark objects check kind undef value broken u b (Points s t) h f = absurd h
no_mark objects check kind undef value broken u b (Mark m) h f = mark_kind objects check kind m u b f
no_mark objects check kind undef value broken u b (End e) h f = absurd h

-- ---- ends

pub no_none : (objects : List ObjectTree) (check : Check) (value none : Bool) → none ≡ false
    → (x : Operand) → IsInShown objects x (shows.Ends value none) → FailsKind objects check kinds.NoValue x → ⊥
no_none objects check value none e (Number n) h f = absurd h
no_none objects check value none e (Point s) h f = absurd h
no_none objects check value none e (Points s t) h f = absurd h
no_none objects check value none e (Mark m) h f = absurd h
no_none objects check value none e (End operands.Value) h f = cc
no_none objects check value none e (End operands.None) h f = cc

end_kind : (objects : List ObjectTree) (check : Check) (kind : WrongKind) (e : CallEnd) → (kind ≡ kinds.NoValue → ⊥) → FailsKind objects check kind (End e) → ⊥
end_kind objects check kinds.Overflow e n f = absurd f
end_kind objects check kinds.DivideByZero e n f = absurd f
end_kind objects check kinds.Quotient e n f = absurd f
end_kind objects check kinds.ShiftAmount e n f = absurd f
end_kind objects check kinds.ShiftResult e n f = absurd f
end_kind objects check kinds.Indeterminate e n f = cc
end_kind objects check kinds.Fragment e n f = cc
end_kind objects check kinds.NullUse e n f = absurd f
end_kind objects check kinds.Dangling e n f = absurd f
end_kind objects check kinds.Bounds e n f = absurd f
end_kind objects check kinds.Access e n f = absurd f
end_kind objects check kinds.Alignment e n f = absurd f
end_kind objects check kinds.ReadOnly e n f = absurd f
end_kind objects check kinds.Unrelated e n f = absurd f
end_kind objects check kinds.NoValue e n f = n refl
end_kind objects check kinds.AssertFailed e n f = absurd f

pub no_end : (objects : List ObjectTree) (check : Check) (kind : WrongKind) (value none : Bool) → (kind ≡ kinds.NoValue → ⊥)
    → (x : Operand) → IsInShown objects x (shows.Ends value none) → FailsKind objects check kind x → ⊥
no_end objects check kind value none n (Number m) h f = absurd h
no_end objects check kind value none n (Point s) h f = absurd h
no_end objects check kind value none n (Points s t) h f = absurd h
no_end objects check kind value none n (Mark m) h f = absurd h
no_end objects check kind value none n (End e) h f = end_kind objects check kind e n f

-- ---- pointers

abbrev pub IsSpotAnswer : List ObjectTree → Check → WrongKind → Pointers → Option Spot → Type 0
IsSpotAnswer objects check kind set r =
    MatchOption r ((s : Spot) → IsSpotIn objects set s → FailsKind objects check kind (Point s) → ⊥) (λ s. IsSpotIn objects set s × FailsKind objects check kind (Point s))

-- a kind that fails where something is looked for at an object
pub spot_by : (objects : List ObjectTree) (check : Check) (set : Pointers) (wanted : Wanted) (kind : WrongKind) (r : Option Spot) → check.kind ≡ kind
    → ((o : ℕ) (d : ℤ) → FailsKind objects check kind (Point (spots.At o d)) → IsSomeAnd (slice_get objects o) (λ x. Wants wanted x d))
    → ((o : ℕ) (d : ℤ) → IsSomeAnd (slice_get objects o) (λ x. Wants wanted x d) → FailsKind objects check kind (Point (spots.At o d)))
    → (FailsKind objects check kind (Point spots.Null) → ⊥) → (FailsKind objects check kind (Point spots.Dead) → ⊥)
    → MatchOption r ((o : ℕ) (d : ℤ) → IsWanted objects set wanted None o d → ⊥) (λ s. (o : ℕ) × (d : ℤ) × (s ≡ spots.At o d) × IsWanted objects set wanted None o d)
    → IsSpotAnswer objects check check.kind set r
spot_by objects check set wanted kind r e wants fails null dead h =
    subst (λ (k : WrongKind). IsSpotAnswer objects check k set r) (sym e) (both_ways r none some h)
  where
    none : ((o : ℕ) (d : ℤ) → IsWanted objects set wanted None o d → ⊥) → (s : Spot) → IsSpotIn objects set s → FailsKind objects check kind (Point s) → ⊥
    none n spots.Null i f = null f
    none n spots.Dead i f = dead f
    none n (spots.At o d) i f = n o d (record { spot = i; other = tt; wants = wants o d f })

    some : (s : Spot) → (o : ℕ) × (d : ℤ) × (s ≡ spots.At o d) × IsWanted objects set wanted None o d → IsSpotIn objects set s × FailsKind objects check kind (Point s)
    some s (o, d, q, w) = subst (λ (t : Spot). IsSpotIn objects set t × FailsKind objects check kind (Point t)) (sym q) (w.spot, fails o d w.wants)

-- a kind that fails at null, or at a dead pointer
pub spot_nowhere : (objects : List ObjectTree) (check : Check) (set : Pointers) (bad : Spot) (kind : WrongKind) (r : Option Spot) → check.kind ≡ kind
    → ((s : Spot) → FailsKind objects check kind (Point s) → s ≡ bad) → ((s : Spot) → s ≡ bad → FailsKind objects check kind (Point s))
    → MatchOption r (IsSpotIn objects set bad → ⊥) (λ s. (s ≡ bad) × IsSpotIn objects set bad)
    → IsSpotAnswer objects check check.kind set r
spot_nowhere objects check set bad kind r e bads fails h =
    subst (λ (k : WrongKind). IsSpotAnswer objects check k set r) (sym e)
    (both_ways r (λ n s i f. n (subst (λ (t : Spot). IsSpotIn objects set t) (bads s f) i)) (λ s (q, i). (subst (λ (t : Spot). IsSpotIn objects set t) (sym q) i, fails s q)) h)

-- a pointer fails no check of another kind
pub no_spot : (objects : List ObjectTree) (check : Check) (kind : WrongKind) (s : Spot)
    → (kind ≡ kinds.NullUse → ⊥) → (kind ≡ kinds.Dangling → ⊥) → (kind ≡ kinds.Bounds → ⊥) → (kind ≡ kinds.Access → ⊥) → (kind ≡ kinds.Alignment → ⊥) → (kind ≡ kinds.ReadOnly → ⊥)
    → FailsKind objects check kind (Point s) → ⊥
no_spot objects check kinds.Overflow s u d b a l r f = absurd f
no_spot objects check kinds.DivideByZero s u d b a l r f = absurd f
no_spot objects check kinds.Quotient s u d b a l r f = absurd f
no_spot objects check kinds.ShiftAmount s u d b a l r f = absurd f
no_spot objects check kinds.ShiftResult s u d b a l r f = absurd f
no_spot objects check kinds.Indeterminate s u d b a l r f = cc
no_spot objects check kinds.Fragment s u d b a l r f = cc
no_spot objects check kinds.NullUse s u d b a l r f = u refl
no_spot objects check kinds.Dangling s u d b a l r f = d refl
no_spot objects check kinds.Bounds s u d b a l r f = b refl
no_spot objects check kinds.Access s u d b a l r f = a refl
no_spot objects check kinds.Alignment s u d b a l r f = l refl
no_spot objects check kinds.ReadOnly s u d b a l r f = r refl
no_spot objects check kinds.Unrelated s u d b a l r f = absurd f
no_spot objects check kinds.NoValue s u d b a l r f = cc
no_spot objects check kinds.AssertFailed s u d b a l r f = absurd f

-- ---- two pointers

-- two pointers fail no check of another kind
pub no_pair : (objects : List ObjectTree) (check : Check) (kind : WrongKind) (s t : Spot)
    → (kind ≡ kinds.NullUse → ⊥) → (kind ≡ kinds.Dangling → ⊥) → (kind ≡ kinds.Unrelated → ⊥) → FailsKind objects check kind (Points s t) → ⊥
no_pair objects check kinds.Overflow s t u d r f = absurd f
no_pair objects check kinds.DivideByZero s t u d r f = absurd f
no_pair objects check kinds.Quotient s t u d r f = absurd f
no_pair objects check kinds.ShiftAmount s t u d r f = absurd f
no_pair objects check kinds.ShiftResult s t u d r f = absurd f
no_pair objects check kinds.Indeterminate s t u d r f = cc
no_pair objects check kinds.Fragment s t u d r f = cc
no_pair objects check kinds.NullUse s t u d r f = u refl
no_pair objects check kinds.Dangling s t u d r f = d refl
no_pair objects check kinds.Bounds s t u d r f = absurd f
no_pair objects check kinds.Access s t u d r f = absurd f
no_pair objects check kinds.Alignment s t u d r f = absurd f
no_pair objects check kinds.ReadOnly s t u d r f = absurd f
no_pair objects check kinds.Unrelated s t u d r f = r refl
no_pair objects check kinds.NoValue s t u d r f = cc
no_pair objects check kinds.AssertFailed s t u d r f = absurd f

-- ---- numbers

abbrev pub IsNumberAnswer : Check → WrongKind → Span → Option ℤ → Type 0
IsNumberAnswer check kind span r =
    MatchOption r ((objects : List ObjectTree) (n : ℤ) → InSpan span n → FailsKind objects check kind (Number n) → ⊥)
    (λ n. InSpan span n × ((objects : List ObjectTree) → FailsKind objects check kind (Number n)))

-- a kind that fails at each number of which this holds
pub number_by : (check : Check) (span : Span) (kind : WrongKind) (P : ℤ → Type 0) (r : Option ℤ) → check.kind ≡ kind
    → ((objects : List ObjectTree) (n : ℤ) → FailsKind objects check kind (Number n) → P n) → ((objects : List ObjectTree) (n : ℤ) → P n → FailsKind objects check kind (Number n))
    → MatchOption r ((n : ℤ) → InSpan span n → P n → ⊥) (λ n. InSpan span n × P n)
    → IsNumberAnswer check check.kind span r
number_by check span kind P r e holds fails h =
    subst (λ (k : WrongKind). IsNumberAnswer check k span r) (sym e)
    (both_ways r (λ none objects n i f. none n i (holds objects n f)) (λ n (i, p). (i, λ objects. fails objects n p)) h)

-- a kind that fails outside of the check's ends
pub number_outside : (check : Check) (span : Span) (r : Option ℤ)
    → (check.kind ≡ kinds.Overflow) ⊎ ((check.kind ≡ kinds.Quotient) ⊎ ((check.kind ≡ kinds.ShiftAmount) ⊎ (check.kind ≡ kinds.ShiftResult)))
    → MatchOption r ((m : ℤ) → InSpan span m → (m <ℤ check.lo) ⊎ (check.hi <ℤ m) → ⊥) (λ m. InSpan span m × ((m <ℤ check.lo) ⊎ (check.hi <ℤ m)))
    → IsNumberAnswer check check.kind span r
number_outside check span r (inl e) h = number_by check span kinds.Overflow (λ n. (n <ℤ check.lo) ⊎ (check.hi <ℤ n)) r e (λ objects n f. f) (λ objects n p. p) h
number_outside check span r (inr (inl e)) h = number_by check span kinds.Quotient (λ n. (n <ℤ check.lo) ⊎ (check.hi <ℤ n)) r e (λ objects n f. f) (λ objects n p. p) h
number_outside check span r (inr (inr (inl e))) h = number_by check span kinds.ShiftAmount (λ n. (n <ℤ check.lo) ⊎ (check.hi <ℤ n)) r e (λ objects n f. f) (λ objects n p. p) h
number_outside check span r (inr (inr (inr e))) h = number_by check span kinds.ShiftResult (λ n. (n <ℤ check.lo) ⊎ (check.hi <ℤ n)) r e (λ objects n f. f) (λ objects n p. p) h

-- a number fails no check of another kind
pub no_number : (objects : List ObjectTree) (check : Check) (kind : WrongKind) (n : ℤ)
    → (kind ≡ kinds.Overflow → ⊥) → (kind ≡ kinds.Quotient → ⊥) → (kind ≡ kinds.ShiftAmount → ⊥) → (kind ≡ kinds.ShiftResult → ⊥) → (kind ≡ kinds.DivideByZero → ⊥) → (kind ≡ kinds.AssertFailed → ⊥)
    → FailsKind objects check kind (Number n) → ⊥
no_number objects check kinds.Overflow n u q a r z t f = u refl
no_number objects check kinds.DivideByZero n u q a r z t f = z refl
no_number objects check kinds.Quotient n u q a r z t f = q refl
no_number objects check kinds.ShiftAmount n u q a r z t f = a refl
no_number objects check kinds.ShiftResult n u q a r z t f = r refl
no_number objects check kinds.Indeterminate n u q a r z t f = cc
no_number objects check kinds.Fragment n u q a r z t f = cc
no_number objects check kinds.NullUse n u q a r z t f = absurd f
no_number objects check kinds.Dangling n u q a r z t f = absurd f
no_number objects check kinds.Bounds n u q a r z t f = absurd f
no_number objects check kinds.Access n u q a r z t f = absurd f
no_number objects check kinds.Alignment n u q a r z t f = absurd f
no_number objects check kinds.ReadOnly n u q a r z t f = absurd f
no_number objects check kinds.Unrelated n u q a r z t f = absurd f
no_number objects check kinds.NoValue n u q a r z t f = cc
no_number objects check kinds.AssertFailed n u q a r z t f = t refl
