-- The first of comparisons that are taken one after the other.
use Rattle.std.proofs.Common.{◌≡◌, ℕ, ◌+◌, ◌<◌, true, false, cond, ◌||◌, List, [], ◌∷◌, ◌++◌, length, get_or, take, Some, None, refl, sym, ap, ◌∙◌, append-nil, append_assoc}
use Rattle.std.specs.Prelude.{Option, slice_get}
use Rattle.std.specs.List.{filter}
use Rattle.std.proofs.lemmas.List.{take_more}
use Rattle.std.proofs.lemmas.List.Elements.{filter-append}
use Rattle.c_syntax_written.specs.declared.place.Pos.{Pos}
use Rattle.c_rules_order.specs.declared.known.Known.{Known}
use Rattle.c_rules_order.specs.declared.side.Side.{Side}
use Rattle.c_rules_order.specs.declared.side.Comparison.{Comparison}
use Rattle.c_rules_order.specs.Firsts.{clashes, or_first, writes_into}
use Rattle.c_rules_order.specs.Sides.{all_pairs, pairs_behind, two, with_each}

pub or_none : (known : Known) (found : Option Comparison) → or_first known found [] ≡ found
unfolding or_first
or_none known None = refl
or_none known (Some c) = refl

after_front : (known : Known) (front ys : List Comparison) → slice_get (front ++ filter (clashes known) ys) 0 ≡ or_first known (slice_get front 0) ys
unfolding or_first
after_front known [] ys = refl
after_front known (c ∷ front) ys = refl

pub or_joined : (known : Known) (found : Option Comparison) (xs ys : List Comparison)
    → or_first known found (xs ++ ys) ≡ or_first known (or_first known found xs) ys
unfolding or_first
or_joined known None xs ys = ap (λ all. slice_get all 0) (filter-append (clashes known) xs ys) ∙ after_front known (filter (clashes known) xs) ys
or_joined known (Some c) xs ys = refl

pub or_then : (known : Known) (old so_far new : Option Comparison) (xs ys : List Comparison) → so_far ≡ or_first known old xs → new ≡ or_first known so_far ys
    → new ≡ or_first known old (xs ++ ys)
or_then known old so_far new xs ys front now = now ∙ ap (λ found. or_first known found ys) front ∙ sym (or_joined known old xs ys)

pub or_then_both : (known : Known) (old so_far new : Option Comparison) (xs ys zs : List Comparison) → so_far ≡ or_first known old xs
    → new ≡ or_first known so_far (ys ++ zs) → new ≡ or_first known old (xs ++ ys ++ zs)
or_then_both known old so_far new xs ys zs front now =
    or_then known old so_far new xs (ys ++ zs) front now ∙ ap (or_first known old) (sym (append_assoc xs ys zs))

pub ruleset the_firsts = (or_none, or_joined)

-- ---- one comparison

pub two_clash : (known : Known) (at : Pos) (left right : Side) → writes_into known left right || writes_into known right left ≡ true
    → Some (record { pos = at; left = left; right = right }) ≡ or_first known None (two at left right)
unfolding or_first
two_clash known at left right e = ap (λ b. slice_get (cond b (two at left right) []) 0) (sym e)

pub none_clash : (known : Known) (at : Pos) (left right : Side) → writes_into known left right || writes_into known right left ≡ false
    → None ≡ or_first known None (two at left right)
unfolding or_first
none_clash known at left right e = ap (λ b. slice_get (cond b (two at left right) []) 0) (sym e)

pub stays_found : (known : Known) (c : Comparison) (xs : List Comparison) → Some c ≡ or_first known (Some c) xs
unfolding or_first
stays_found known c xs = refl

abbrev told : Pos → Side → Side → Option Comparison
told at left right = Some (record { pos = at; left = left; right = right })

pub two_copied : (at : Pos) (left from right other : Side) → left ≡ from → right ≡ other → told at left right ≡ told at from other
two_copied at left from right other e f = ap (λ side. told at side right) e ∙ ap (told at from) f

pub stays_as : (known : Known) (found : Option Comparison) (c : Comparison) (xs : List Comparison) → found ≡ Some c → found ≡ or_first known found xs
stays_as known found c xs e = e ∙ stays_found known c xs ∙ ap (λ f. or_first known f xs) (sym e)

-- ---- any two of several sides

each_push : (at : Pos) (xs : List Side) (x side : Side) → with_each at (xs ++ x ∷ []) side ≡ with_each at xs side ++ two at x side
each_push at [] x side = refl
each_push at (y ∷ xs) x side = ap (λ rest. two at y side ++ rest) (each_push at xs x side)

pairs_push : (at : Pos) (earlier xs : List Side) (x : Side) → pairs_behind at earlier (xs ++ x ∷ [])
    ≡ pairs_behind at earlier xs ++ with_each at (earlier ++ xs) x
pairs_push at earlier [] x = append-nil (with_each at earlier x) ∙ ap (λ sides. with_each at sides x) (sym (append-nil earlier))
pairs_push at earlier (side ∷ xs) x =
    ap (λ rest. with_each at earlier side ++ rest) (pairs_push at (earlier ++ side ∷ []) xs x)
    ∙ ap (λ sides. with_each at earlier side ++ (pairs_behind at (earlier ++ side ∷ []) xs ++ with_each at sides x)) (append_assoc earlier (side ∷ []) xs)
    ∙ sym (append_assoc (with_each at earlier side) (pairs_behind at (earlier ++ side ∷ []) xs) (with_each at (earlier ++ side ∷ xs) x))

pub more_each : (known : Known) (at : Pos) (old so_far new : Option Comparison) (earlier : List Side) (i : ℕ) (before side : Side) → i < length earlier
    → before ≡ get_or earlier i before → so_far ≡ or_first known old (with_each at (take i earlier) side) → new ≡ or_first known so_far (two at before side)
    → new ≡ or_first known old (with_each at (take (i + 1) earlier) side)
more_each known at old so_far new earlier i before side inside is front now =
    now ∙ ap (λ f. or_first known f (two at before side)) front ∙ sym (or_joined known old (with_each at (take i earlier) side) (two at before side))
    ∙ ap (or_first known old) (sym (each_push at (take i earlier) before side)
    ∙ ap (λ sides. with_each at sides side) (ap (λ x. take i earlier ++ x ∷ []) is ∙ sym (take_more earlier i before inside)))

pub more_pairs : (known : Known) (at : Pos) (old so_far new : Option Comparison) (sides : List Side) (i : ℕ) (side : Side) → i < length sides
    → side ≡ get_or sides i side → so_far ≡ or_first known old (all_pairs at (take i sides)) → new ≡ or_first known so_far (with_each at (take i sides) side)
    → new ≡ or_first known old (all_pairs at (take (i + 1) sides))
more_pairs known at old so_far new sides i side inside is front now =
    now ∙ ap (λ f. or_first known f (with_each at (take i sides) side)) front
    ∙ sym (or_joined known old (all_pairs at (take i sides)) (with_each at (take i sides) side))
    ∙ ap (or_first known old) (sym (pairs_push at [] (take i sides) side)
    ∙ ap (all_pairs at) (ap (λ x. take i sides ++ x ∷ []) is ∙ sym (take_more sides i side inside)))
