-- What jumps look for stands in the work, and the objects that the work will end are there.
use Rattle.std.proofs.Common.{◌⊎◌, inl, inr, ℕ, ◌<◌, ◌≤◌, true, List, [], ◌∷◌, length, None, arith}
use Rattle.std.specs.Prelude.{Contains, All, IsSome, IsTrue}
use Rattle.std.proofs.lemmas.Bool.{cases_lt}
use Rattle.std.proofs.lemmas.List.{get_or_past}
use Rattle.std.proofs.lemmas.List.Elements.{All-nil, All-cons}
use Rattle.c_syntax.specs.Types.{CTypeTree}
use Rattle.c_syntax.specs.Program.{TProgramTree}
use Rattle.c_values.specs.Places.{ObjectMemory, place_of}
use Rattle.c_objects.proofs.Listed.{by_sum, first_in, rest_in}
use Rattle.c_objects.proofs.Places.{some_not_none}
use Rattle.c_steps.specs.Work.{Item, Close}
use Rattle.c_steps_laws.specs.Wants.{Want}
use Rattle.c_steps_laws.specs.Surroundings.{around, ends_switch}
use Rattle.c_steps_laws.specs.Takes as rules
use Rattle.c_steps_laws.specs.Takes.{IsLevel, at_do, at_close, at_begin, at_again, at_reach, level, switch, Takes, begin, again, close, reach, switch_end}
use Rattle.c_steps_laws.specs.Fits.{Closes, AreLive}
use Rattle.c_steps_laws.proofs.Jumps.{breaks_in, continues_in, labels_in, level_not_end}
use Rattle.c_steps_laws.proofs.Work.{label_there}
use Rattle.c_steps_laws.specs.Needs.{CanBreak, CanContinue, CanGoTo, CanReturn, EndsThere}

-- ---- jumps

module _ {p : TProgramTree} where
  pub can_break : {r : CTypeTree} {w : List Item} {ts : List Want} → IsLevel w → Takes p r w ts → IsTrue (around p r w).standing.breaks → CanBreak w
  can_break at_do (rules.does t v k) c = can_break v k c
  can_break at_begin (begin t v k) c = can_break v k c
  can_break at_again k c = tt
  can_break {r = r} (at_close {objects = xs} {items = items} {work = w}) (close t (level v) k) c =
      can_break v k (breaks_in (ends_switch w) xs items (around p r w) c (level_not_end w v))
  can_break at_close (close t switch k) c = tt
  can_break at_reach k c = absurd (cc)

  pub can_continue : {r : CTypeTree} {w : List Item} {ts : List Want} → IsLevel w → Takes p r w ts → IsTrue (around p r w).standing.continues → CanContinue w
  can_continue at_do (rules.does t v k) c = can_continue v k c
  can_continue at_begin (begin t v k) c = can_continue v k c
  can_continue at_again k c = tt
  can_continue {r = r} (at_close {objects = xs} {items = items} {work = w}) (close t (level v) k) c =
      can_continue v k (continues_in (ends_switch w) xs items (around p r w) c)
  can_continue at_close (close t switch (switch_end v k)) c = can_continue v k c
  can_continue at_reach k c = absurd (cc)

  pub can_return : {r : CTypeTree} {w : List Item} {ts : List Want} → IsLevel w → Takes p r w ts → CanReturn w
  can_return at_do (rules.does t v k) = can_return v k
  can_return at_begin (begin t v k) = can_return v k
  can_return at_again (again t v k) = can_return v k
  can_return at_close (close t (level v) k) = can_return v k
  can_return at_close (close t switch (switch_end v k)) = can_return v k
  can_return at_reach k = tt

  pub can_go_to : {r : CTypeTree} {w : List Item} {ts : List Want} → IsLevel w → Takes p r w ts → (j : ℕ) → Contains (around p r w).labels j → CanGoTo j w
  can_go_to at_do (rules.does t v k) j c = can_go_to v k j c
  can_go_to at_begin (begin t v k) j c = can_go_to v k j c
  can_go_to at_again (again t v k) j c = can_go_to v k j c
  can_go_to {r = r} (at_close {objects = xs} {items = items} {work = w}) (close t (level v) k) j c =
      by_sum (labels_in (ends_switch w) xs items (around p r w) j c) (λ g. inl (label_there j items g)) (λ g. inr (can_go_to v k j g))
  can_go_to {r = r} (at_close {objects = xs} {items = items}) (close t switch (switch_end {w = w} v k)) j c =
      by_sum (labels_in true xs items (around p r w) j c) (λ g. inl (label_there j items g)) (λ g. inr (can_go_to v k j g))
  can_go_to at_reach k j c = let lt = c.1 in absurd (omega (arith, lt))

-- ---- objects that are there

pub all_of : (P : ℕ → Type 0) (xs : List ℕ) → ((y : ℕ) → Contains xs y → P y) → All P xs
all_of P [] f = All-nil P
all_of P (x ∷ xs) f = All-cons P x xs (f x (first_in x xs)) (all_of P xs (λ y c. f y (rest_in x y xs c)))

place_case : (m : ObjectMemory) (y : ℕ) → IsSome (place_of m y) → (y < length m.places) ⊎ (length m.places ≤ y) → y < length m.places
place_case m y h (inl lt) = lt
place_case m y h (inr le) = absurd (some_not_none (place_of m y) (get_or_past m.places y None le) h)

-- an object that lives has a place
pub there : (m : ObjectMemory) (y : ℕ) → IsSome (place_of m y) → y < length m.places
there m y h = place_case m y h (cases_lt y (length m.places))

ends_by : (m : ObjectMemory) (w : List Item) → ((y : ℕ) → Closes w y → y < length m.places) → EndsThere m w
ends_by m [] f = tt
ends_by m (Close xs items ∷ w) f = (all_of (λ x. x < length m.places) xs (λ y c. f y (inl c)), ends_by m w (λ y c. f y (inr c)))
ends_by m (item ∷ w) f = ends_by m w f

pub ends_there : (p : TProgramTree) (m : ObjectMemory) (w : List Item) → AreLive p w m → EndsThere m w
ends_there p m w l = ends_by m w (λ y c. there m y (l.0 y (inr c)))
