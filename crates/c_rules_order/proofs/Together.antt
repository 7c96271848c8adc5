-- A side compared with all that stand before it at once.
use Rattle.std.proofs.Common.{◌≡◌, inl, inr, ℕ, zero, suc, ◌+◌, ◌<◌, Bool, true, false, ◌&&◌, ◌||◌, cond, List, [], ◌∷◌, ◌++◌, length, get_or, take, Some, None, refl, sym, subst, ap, ◌∙◌, arith, append-nil}
use Rattle.std.specs.Prelude.{◌==◌, Option, Contains, slice_get}
use Rattle.std.specs.List.{filter, flat_map, list_any}
use Rattle.std.proofs.lemmas.Bool.{or_cases}
use Rattle.std.proofs.lemmas.List.{take_more}
use Rattle.std.proofs.lemmas.List.Concat.{flat_map-append}
use Rattle.std.proofs.lemmas.List.Folds.{Any-from_list_any, list_any-from_Any}
use Rattle.std.proofs.lemmas.List.Elements.{Contains-append_cases, Contains-append_left, Contains-append_right}
use Rattle.c_syntax_written.specs.declared.place.Pos.{Pos}
use Rattle.c_rules_effects.specs.declared.touch.Touch.{Touch}
use Rattle.c_rules_effects.specs.declared.touch.Touch.TheVariants.{Mem, Object}
use Rattle.c_rules_effects.specs.declared.effects.Effects.{Effects}
use Rattle.c_rules_effects.specs.Met.{begins, met}
use Rattle.c_rules_effects.proofs.Tests.{number_same, same_number, not_true}
use Rattle.c_rules_order.specs.declared.known.Known.{Known}
use Rattle.c_rules_order.specs.declared.side.Side.{Side}
use Rattle.c_rules_order.specs.declared.side.Comparison.{Comparison}
use Rattle.c_rules_order.specs.declared.earlier.Earlier.{Earlier}
use Rattle.c_rules_order.specs.Earlier.{HasDone}
use Rattle.c_rules_order.specs.Firsts.{all_reads, all_touches, all_writes, clashes, or_first, writes_into}
use Rattle.c_rules_order.specs.Sides.{with_each}

-- ---- meeting goes both ways

swapped : (a b : Bool) → (a || b) ≡ (b || a)
swapped true true = refl
swapped true false = refl
swapped false true = refl
swapped false false = refl

both_ways : (a b : Bool) → (a ≡ true → b ≡ true) → (b ≡ true → a ≡ true) → a ≡ b
both_ways true b f g = sym (f refl)
both_ways false true f g = g refl
both_ways false false f g = refl

turned_number : (m n : ℕ) → (m == n) ≡ (n == m)
turned_number m n = both_ways (m == n) (n == m) (λ e. same_number n m (sym (number_same m n e))) (λ e. same_number m n (sym (number_same n m e)))

met_turned : (taken : List Bool) (s t : Touch) → met taken s t ≡ met taken t s
met_turned taken Mem Mem = refl
met_turned taken Mem (Object n path) = refl
met_turned taken (Object n path) Mem = refl
met_turned taken (Object m path) (Object n other) =
    ap (λ b. b && (begins path other || begins other path)) (turned_number m n) ∙ ap (λ b. (n == m) && b) (swapped (begins path other) (begins other path))

-- ---- two of which one writes what the other touches

some_true : (p : Touch → Bool) (xs : List Touch) → list_any p xs ≡ true → (x : Touch) × Contains xs x × (p x ≡ true)
some_true p xs e = let one = Any-from_list_any p xs e in (one.1, (one.0, one.2, one.3), one.4)

true_some : (p : Touch → Bool) (xs : List Touch) (x : Touch) → Contains xs x → p x ≡ true → list_any p xs ≡ true
true_some p xs x c e = list_any-from_Any p xs (c.0, x, c.1, c.2, e)

-- some of the first meets some of the second
abbrev some_met : List Bool → List Touch → List Touch → Bool
some_met taken xs ys = list_any (λ s. list_any (met taken s) ys) xs

met_some : (taken : List Bool) (xs ys : List Touch) (x y : Touch) → Contains xs x → Contains ys y → met taken x y ≡ true → some_met taken xs ys ≡ true
met_some taken xs ys x y c d e = true_some (λ s. list_any (met taken s) ys) xs x c (true_some (met taken x) ys y d e)

module _ (known : Known) where
  abbrev taken : List Bool
  taken = known.taken.items

  abbrev functions : List Effects
  functions = known.functions.items

  in_front : {A : Type 0} (f : Side → List A) (xs : List Side) (x : Side) (t : A) → Contains xs x → Contains (f x) t → Contains (flat_map f xs) t
  in_front f [] x t c h = absurd (omega (arith, c.1))
  in_front f (y ∷ xs) x t c h = elim (Contains-append_cases (y ∷ []) xs x c) [
    | inl one ↦ Contains-append_left (f y) (flat_map f xs) t (subst (λ (z : Side). Contains (f z) t) (sym (only_one y x one)) h)
    | inr rest ↦ Contains-append_right (f y) (flat_map f xs) t (in_front f xs x t rest h)
  ] where
    only_one : (y x : Side) → Contains (y ∷ []) x → y ≡ x
    only_one y x (zero, less, e) = e
    only_one y x (suc k, less, e) = absurd (omega (arith, less))

  module _ (front : List Side) (side : Side) where
    abbrev written : List Touch
    written = flat_map (all_writes functions) front

    abbrev touched : List Touch
    touched = flat_map (all_touches functions) front

    -- whether the side and what stands before it clash
    abbrev pub together : Bool
    together = some_met taken (all_writes functions side) touched || some_met taken (all_reads functions side) written

    left_true : (a b : Bool) → a ≡ true → (a || b) ≡ true
    left_true true b e = refl
    left_true false b e = absurd (cc)

    right_true : (a b : Bool) → b ≡ true → (a || b) ≡ true
    right_true true b e = refl
    right_true false b e = e

    forth : (before : Side) → Contains front before → writes_into known side before ≡ true → together ≡ true
    forth before c e =
        let s = some_true (λ s. list_any (met taken s) (all_touches functions before)) (all_writes functions side) e in
        let t = some_true (met taken s.0) (all_touches functions before) s.2 in
        left_true (some_met taken (all_writes functions side) touched) (some_met taken (all_reads functions side) written)
        (met_some taken (all_writes functions side) touched s.0 t.0 s.1 (in_front (all_touches functions) front before t.0 c t.1) t.2)

    back : (before : Side) → Contains front before → writes_into known before side ≡ true → together ≡ true
    back before c e =
        let s = some_true (λ s. list_any (met taken s) (all_touches functions side)) (all_writes functions before) e in
        let t = some_true (met taken s.0) (all_touches functions side) s.2 in
        let meet : met taken t.0 s.0 ≡ true = met_turned taken t.0 s.0 ∙ t.2 in
        elim (Contains-append_cases (all_reads functions side) (all_writes functions side) t.0 t.1) [
          | inl read ↦ right_true (some_met taken (all_writes functions side) touched) (some_met taken (all_reads functions side) written)
              (met_some taken (all_reads functions side) written t.0 s.0 read (in_front (all_writes functions) front before s.0 c s.1) meet)
          | inr write ↦ left_true (some_met taken (all_writes functions side) touched) (some_met taken (all_reads functions side) written)
              (met_some taken (all_writes functions side) touched t.0 s.0 write
              (in_front (all_touches functions) front before s.0 c (Contains-append_right (all_reads functions before) (all_writes functions before) s.0 s.1)) meet)
        ]

    none_clash : (at : Pos) → together ≡ false → (before : Side) → Contains front before
        → clashes known (record { pos = at; left = before; right = side }) ≡ false
    none_clash at apart before c =
        not_true (clashes known (record { pos = at; left = before; right = side }))
        (λ e. differ (sym (elim (or_cases (writes_into known before side) (writes_into known side before) e) [
          | inl h ↦ back before c h
          | inr h ↦ forth before c h
        ]) ∙ apart)) where
          differ : true ≡ false → ⊥
          differ e = cc

  none_kept : (at : Pos) (side : Side) (xs : List Side) → ((before : Side) → Contains xs before → clashes known (record { pos = at; left = before; right = side }) ≡ false)
      → filter (clashes known) (with_each at xs side) ≡ []
  none_kept at side [] none = refl
  none_kept at side (x ∷ xs) none =
      ap (λ b. cond b (record { pos = at; left = x; right = side } ∷ filter (clashes known) (with_each at xs side)) (filter (clashes known) (with_each at xs side)))
      (none x (0, omega arith, refl))
      ∙ none_kept at side xs (λ before c. none before (Contains-append_right (x ∷ []) xs before c))

  -- where they do not clash together, none of them clashes
  pub skipped : (at : Pos) (front : List Side) (side : Side) (found : Option Comparison) → together front side ≡ false
      → found ≡ or_first known found (with_each at front side)
  unfolding or_first
  skipped at front side None apart = sym (ap (λ xs. slice_get xs 0) (none_kept at side front (none_clash front side at apart)))
  skipped at front side (Some c) apart = refl

-- what one side more does
pub more_done : {A : Type 0} (f : Side → List A) (sides : List Side) (i : ℕ) (side : Side) → i < length sides → side ≡ get_or sides i side
    → flat_map f (take i sides) ++ f side ≡ flat_map f (take (i + 1) sides)
more_done f sides i side less is =
    ap (λ xs. flat_map f (take i sides) ++ xs) (sym (append-nil (f side)))
    ∙ sym (flat_map-append f (take i sides) (side ∷ []))
    ∙ ap (flat_map f) (ap (λ x. take i sides ++ x ∷ []) is ∙ sym (take_more sides i side less))

pub done_with : (earlier : Earlier) (marks : List Bool) (written more_written touched more_touched reads made all_read all_made : List Touch) → reads ≡ all_read
    → made ≡ all_made → written ++ all_made ≡ more_written → touched ++ (all_read ++ all_made) ≡ more_touched
    → HasDone earlier marks (written ++ made) (touched ++ (reads ++ made)) → HasDone earlier marks more_written more_touched
done_with earlier marks written more_written touched more_touched reads made all_read all_made r m w t h =
    subst (λ xs. HasDone earlier marks xs more_touched) (ap (λ xs. written ++ xs) m ∙ w)
    (subst (HasDone earlier marks (written ++ made)) (ap (λ xs. touched ++ (xs ++ made)) r ∙ ap (λ xs. touched ++ (all_read ++ xs)) m ∙ t) h)

-- what is told of the effects is told of the side
pub told_together : (known : Known) (front : List Side) (side : Side) (told : Bool) (marks : List Bool) (effects : Effects) → marks ≡ known.taken.items
    → effects.reads ≡ all_reads known.functions.items side → effects.writes ≡ all_writes known.functions.items side
    → told ≡ some_met marks effects.writes (flat_map (all_touches known.functions.items) front) || some_met marks effects.reads (flat_map (all_writes known.functions.items) front)
    → told ≡ together known front side
told_together known front side told marks effects e r w is =
    let touched = flat_map (all_touches known.functions.items) front in
    let written = flat_map (all_writes known.functions.items) front in
    is ∙ ap (λ t. some_met t effects.writes touched || some_met t effects.reads written) e
    ∙ ap (λ xs. some_met known.taken.items xs touched || some_met known.taken.items effects.reads written) w
    ∙ ap (λ xs. some_met known.taken.items (all_writes known.functions.items side) touched || some_met known.taken.items xs written) r

-- ---- what `Earlier` tells

pub stopped : (forth back : Bool) → forth ≡ true → forth ≡ (forth || back)
stopped true back e = refl
stopped false back e = absurd (cc)

pub passed : (forth back : Bool) → forth ≡ false → back ≡ (forth || back)
passed true back e = absurd (cc)
passed false back e = refl

pub either_told : (marks : List Bool) (forth back : Bool) (made all_made reads all_read written touched : List Touch) → made ≡ all_made → reads ≡ all_read
    → forth ≡ some_met marks made touched → back ≡ some_met marks reads written
    → (forth || back) ≡ (some_met marks all_made touched || some_met marks all_read written)
either_told marks forth back made all_made reads all_read written touched m r f b =
    ap (λ x. x || back) (f ∙ ap (λ xs. some_met marks xs touched) m)
    ∙ ap (λ x. some_met marks all_made touched || x) (b ∙ ap (λ xs. some_met marks xs written) r)
