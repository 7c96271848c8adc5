-- A way goes down in an order in which callees are first, so none comes back.
use Rattle.std.proofs.Common.{◌≡◌, ℕ, zero, suc, ◌+◌, ◌<◌, ◌≤◌, List, [], ◌∷◌, length, get_or, take, Some, None, refl, sym, subst, ap, ◌∙◌, arith}
use Rattle.std.specs.Prelude.{Option, Contains}
use Rattle.std.proofs.lemmas.List.{get_or-take, get_or_default, length-take}
use Rattle.std.proofs.lemmas.List.Elements.{All-contains, Contains-get_or}
use Rattle.c_layout.specs.Calls.{PlacedCall, chain_end}
use Rattle.c_rules_calls.specs.Graph.{calls_from, IsClosedList, IsDefined, IsOrderOf, IsWay}
use Rattle.c_rules_calls.proofs.Orders.{contains_counted}
use Rattle.c_rules_calls.proofs.Deep.{called_before, not_before, once}

-- a function that makes a call has a body
makes_defined : (graph : List (Option (List PlacedCall))) (f : ℕ) (call : PlacedCall) → Contains (calls_from graph f) call → IsDefined graph f
makes_defined [] f call c = absurd (omega (arith, c.1))
makes_defined (Some calls ∷ graph) zero call c = refl
makes_defined (None ∷ graph) zero call c = absurd (omega (arith, c.1))
makes_defined (entry ∷ graph) (suc f) call c = makes_defined graph f call c

module _ (graph : List (Option (List PlacedCall))) (order : List ℕ) (o : IsOrderOf graph order) where
  -- a number that stands before a place stands at one below it
  at_below : (i f : ℕ) → i < length order → Contains (take i order) f → (j : ℕ) × (j < i) × (get_or order j 0 ≡ f)
  at_below i f inside c =
      let j = c.0 in
      let below : j < i = omega (arith, c.1, inside, length-take i order) in
      (j, below, sym (get_or-take i order j 0 below) ∙ get_or_default (take i order) j 0 f c.1 ∙ c.2)

  -- where calls lead from a function of the order stands below it
  falls : (calls : List PlacedCall) (i : ℕ) → i < length order → IsWay graph (get_or order i 0) calls → 0 < length calls
      → (j : ℕ) × (j < i) × (get_or order j 0 ≡ chain_end (get_or order i 0) calls)
  falls [] i inside way some = absurd (omega (arith, some))
  falls (call ∷ []) i inside way some =
      at_below i call.callee inside (All-contains (λ (c : PlacedCall). Contains (take i order) c.callee) (calls_from graph (get_or order i 0)) call
      (called_before graph order o i inside i (omega arith)) way.0)
  falls (call ∷ next ∷ calls) i inside way some =
      let first = at_below i call.callee inside (All-contains (λ (c : PlacedCall). Contains (take i order) c.callee) (calls_from graph (get_or order i 0)) call
      (called_before graph order o i inside i (omega arith)) way.0) in
      let rest = falls (next ∷ calls) first.0 (omega (arith, first.1, inside)) (subst (λ f. IsWay graph f (next ∷ calls)) (sym first.2) way.1) (omega arith) in
      (rest.0, omega (arith, rest.1, first.1), rest.2 ∙ ap (λ f. chain_end f (next ∷ calls)) first.2)

first_call : (graph : List (Option (List PlacedCall))) (f : ℕ) (calls : List PlacedCall) → IsWay graph f calls → 0 < length calls → IsDefined graph f
first_call graph f [] way some = absurd (omega (arith, some))
first_call graph f (call ∷ calls) way some = makes_defined graph f call way.0

pub never_closed : (graph : List (Option (List PlacedCall))) (order : List ℕ) (calls : List PlacedCall) → IsOrderOf graph order → IsClosedList graph calls → ⊥
never_closed graph order calls o closed =
    let f = closed.from in
    let defined = first_call graph f calls closed.leads closed.some in
    let there = contains_counted f order (let one = o.once f defined in omega (arith, one)) in
    let i = there.0 in
    let at : get_or order i 0 ≡ f = get_or_default order i 0 f there.1 ∙ there.2 in
    let below = falls graph order o calls i there.1 (subst (λ g. IsWay graph g calls) (sym at) closed.leads) closed.some in
    let back : get_or order below.0 0 ≡ f = below.2 ∙ ap (λ g. chain_end g calls) at ∙ closed.closes in
    let before : Contains (take i order) f = subst (Contains (take i order)) (get_or-take i order below.0 0 below.1 ∙ back)
    (Contains-get_or (take i order) below.0 0 (omega (arith, below.1, there.1, length-take i order))) in
    not_before f order i there.1 at (o.once f defined) before
