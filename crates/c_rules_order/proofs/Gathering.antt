-- Lists of touches, item by item.
use Rattle.std.proofs.Common.{◌≡◌, ◌⊎◌, inl, inr, ℕ, ◌+◌, ◌<◌, List, [], ◌∷◌, ◌++◌, map, length, get_or, take, refl, sym, subst, ap, ◌∙◌}
use Rattle.std.specs.Prelude.{◌↔◌, Contains, Err, IfOk, Ok, Result}
use Rattle.std.proofs.lemmas.List.{take_more}
use Rattle.std.proofs.lemmas.List.Elements.{Contains-append_left, Contains-push, Contains-push_cases}
use Rattle.c_rules_calls.specs.declared.call.Call.{Call}
use Rattle.c_rules_calls.specs.Placed.{placed}
use Rattle.c_layout.specs.Calls.{PlacedCall}
use Rattle.c_rules_effects.specs.declared.touch.Touch.{Touch}
use Rattle.c_rules_effects.specs.Held.{Adds}

-- one item more of a list
front_is : {A : Type 0} (items : List A) (i : ℕ) (item : A) → i < length items → item ≡ get_or items i item → take (i + 1) items ≡ take i items ++ item ∷ []
front_is items i item less is = take_more items i item less ∙ ap (λ x. take i items ++ x ∷ []) (sym is)

pub more_has : {A : Type 0} (items : List A) (i : ℕ) (item : A) → i < length items → item ≡ get_or items i item
    → (x : A) → Contains (take (i + 1) items) x ↔ (Contains (take i items) x ⊎ (item ≡ x))
more_has items i item less is x =
    let front = front_is items i item less is in (
      λ c. Contains-push_cases (take i items) item x (subst (λ xs. Contains xs x) front c),
      λ e. subst (λ xs. Contains xs x) (sym front) (elim e [
        | inl c ↦ Contains-append_left (take i items) (item ∷ []) x c
        | inr same ↦ subst (Contains (take i items ++ item ∷ [])) same (Contains-push (take i items) item)
      ]),
    )

-- what stands past the end of a list of calls
abbrev pub no_call : Call
no_call = record { pos = record { file = 0; line = 0; col = 0 }; callee = 0 }

-- ---- what of touches is seen

pub more_seen : (Seen : Touch → Type 0) (touches list more : List Touch) (i : ℕ) (touch : Touch) → i < length touches → touch ≡ get_or touches i touch
    → ((t : Touch) → Contains list t ↔ (Contains (take i touches) t × Seen t))
    → ((t : Touch) → Contains more t ↔ (Contains list t ⊎ ((touch ≡ t) × Seen t)))
    → (t : Touch) → Contains more t ↔ (Contains (take (i + 1) touches) t × Seen t)
more_seen Seen touches list more i touch less is before step t =
    let has = more_has touches i touch less is t in (
      λ c. elim ((step t).0 c) [
        | inl old ↦ let h = (before t).0 old in (has.1 (inl h.0), h.1)
        | inr new ↦ (has.1 (inr new.0), new.1)
      ],
      λ h. (step t).1 (elim (has.0 h.0) [
        | inl old ↦ inl ((before t).1 (old, h.1))
        | inr same ↦ inr (same, h.1)
      ]),
    )

-- ---- all of some touches

pub more_all : (old touches list more : List Touch) (i : ℕ) (touch : Touch) → i < length touches → touch ≡ get_or touches i touch
    → ((t : Touch) → Contains list t ↔ (Contains old t ⊎ Contains (take i touches) t)) → Adds list touch more
    → (t : Touch) → Contains more t ↔ (Contains old t ⊎ Contains (take (i + 1) touches) t)
more_all old touches list more i touch less is before step t =
    let has = more_has touches i touch less is t in (
      λ c. elim ((step t).0 c) [
        | inl l ↦ elim ((before t).0 l) [ inl o ↦ inl o | inr m ↦ inr (has.1 (inl m)) ]
        | inr same ↦ inr (has.1 (inr same))
      ],
      λ h. (step t).1 (elim h [
        | inl o ↦ inl ((before t).1 (inl o))
        | inr m ↦ elim (has.0 m) [ inl l ↦ inl ((before t).1 (inr l)) | inr same ↦ inr same ]
      ]),
    )

-- ---- what functions do that are called

calls_front : (calls : List Call) (i : ℕ) (call : Call) → i < length calls → call ≡ get_or calls i call
    → map placed (take (i + 1) calls) ≡ map placed (take i calls) ++ placed call ∷ []
calls_front calls i call less is = ap (map placed) (front_is calls i call less is) ∙ pushed (take i calls) call where
  pushed : (xs : List Call) (x : Call) → map placed (xs ++ x ∷ []) ≡ map placed xs ++ placed x ∷ []
  pushed [] x = refl
  pushed (y ∷ xs) x = ap (λ rest. placed y ∷ rest) (pushed xs x)

module _ (touched : ℕ → List Touch) where
  abbrev Called : List PlacedCall → Touch → Type 0
  Called calls t = (call : PlacedCall) × Contains calls call × Contains (touched call.callee) t

  called_push : (calls : List PlacedCall) (call : PlacedCall) (t : Touch) → Called (calls ++ call ∷ []) t ↔ (Called calls t ⊎ Contains (touched call.callee) t)
  called_push calls call t = (
    λ h. elim (Contains-push_cases calls call h.0 h.1) [
      | inl old ↦ inl (h.0, old, h.2)
      | inr same ↦ inr (subst (λ (x : PlacedCall). Contains (touched x.callee) t) (sym same) h.2)
    ],
    λ h. elim h [
      | inl old ↦ (old.0, Contains-append_left calls (call ∷ []) old.0 old.1, old.2)
      | inr new ↦ (call, Contains-push calls call, new)
    ],
  )

  pub more_called : (old list more : List Touch) (calls : List Call) (i : ℕ) (call : Call) → i < length calls → call ≡ get_or calls i call
      → ((t : Touch) → Contains list t ↔ (Contains old t ⊎ Called (map placed (take i calls)) t))
      → ((t : Touch) → Contains more t ↔ (Contains list t ⊎ Contains (touched call.callee) t))
      → (t : Touch) → Contains more t ↔ (Contains old t ⊎ Called (map placed (take (i + 1) calls)) t)
  more_called old list more calls i call less is before step t =
      let front = calls_front calls i call less is in
      let has = called_push (map placed (take i calls)) (placed call) t in (
        λ c. elim ((step t).0 c) [
          | inl l ↦ elim ((before t).0 l) [ inl o ↦ inl o | inr m ↦ inr (subst (λ xs. Called xs t) (sym front) (has.1 (inl m))) ]
          | inr new ↦ inr (subst (λ xs. Called xs t) (sym front) (has.1 (inr new)))
        ],
        λ h. (step t).1 (elim h [
          | inl o ↦ inl ((before t).1 (inl o))
          | inr m ↦ elim (has.0 (subst (λ xs. Called xs t) front m)) [ inl l ↦ inl ((before t).1 (inr l)) | inr new ↦ inr new ]
        ]),
      )

-- ---- one call

pub more_with : (list more touches of_call : List Touch) → touches ≡ of_call → ((t : Touch) → Contains more t ↔ (Contains list t ⊎ Contains touches t))
    → (t : Touch) → Contains more t ↔ (Contains list t ⊎ Contains of_call t)
more_with list more touches of_call e h t = subst (λ xs. Contains more t ↔ (Contains list t ⊎ Contains xs t)) e (h t)

pub with_one : {E : Type 0} (Seen : Touch → Type 0) (list : List Touch) (touch : Touch) (r : Result (List Touch) E) → Seen touch
    → IfOk r (λ more. Adds list touch more) → IfOk r (λ more. (t : Touch) → Contains more t ↔ (Contains list t ⊎ ((touch ≡ t) × Seen t)))
with_one Seen list touch (Ok more) s h = λ t. (
  λ c. elim ((h t).0 c) [ inl old ↦ inl old | inr same ↦ inr (same, subst Seen same s) ],
  λ k. (h t).1 (elim k [ inl old ↦ inl old | inr new ↦ inr new.0 ]),
)
with_one Seen list touch (Err e) s h = tt

-- ---- lists by other names

pub seen_so : (Seen Called : Touch → Type 0) (list touches of_touches : List Touch) → touches ≡ of_touches
    → ((t : Touch) → Contains list t ↔ ((Contains touches t × Seen t) ⊎ Called t))
    → (t : Touch) → Contains list t ↔ ((Contains of_touches t × Seen t) ⊎ Called t)
seen_so Seen Called list touches of_touches e h t = subst (λ xs. Contains list t ↔ ((Contains xs t × Seen t) ⊎ Called t)) e (h t)

pub gathered : (Seen Called : Touch → Type 0) (touches list more all : List Touch) → all ≡ more → ((t : Touch) → Contains list t ↔ (Contains touches t × Seen t))
    → ((t : Touch) → Contains more t ↔ (Contains list t ⊎ Called t)) → (t : Touch) → Contains all t ↔ ((Contains touches t × Seen t) ⊎ Called t)
gathered Seen Called touches list more all e seen called t = subst (λ xs. Contains xs t ↔ ((Contains touches t × Seen t) ⊎ Called t)) (sym e) (
  λ c. elim ((called t).0 c) [ inl l ↦ inl ((seen t).0 l) | inr h ↦ inr h ],
  λ h. (called t).1 (elim h [ inl s ↦ inl ((seen t).1 s) | inr k ↦ inr k ]),
)
