-- What is left to do falls with each step.
use Rattle.std.proofs.Common.{◌≡◌, ℕ, zero, suc, ◌+◌, ◌<◌, ◌≤◌, List, [], ◌∷◌, length, get_or, set, Some, None, refl, sym, subst, ap, arith}
use Rattle.std.specs.Prelude.{Option}
use Rattle.c_layout.specs.Calls.{PlacedCall}
use Rattle.c_rules_calls.specs.Graph.{calls_or_none, calls_from}
use Rattle.c_rules_calls.specs.Search.{at, left, all_left}
use Rattle.c_rules_calls.specs.declared.search.Progress.{Progress}
use Rattle.c_rules_calls.specs.declared.search.Progress.TheVariants.{New, Open, Done}

-- what is left at one function falls, and so does what is left at all
pub falls_at : (graph : List (Option (List PlacedCall))) (p : List Progress) (f steps : ℕ) (new : Progress) → f < length p → length p ≡ length graph
    → steps + left (get_or graph f None) new ≤ left (get_or graph f None) (at p f)
    → steps + all_left graph (set p f new) ≤ all_left graph p
falls_at (entry ∷ graph) [] f steps new inside same h = absurd (omega (arith, inside))
falls_at [] (x ∷ p) f steps new inside same h = absurd (omega (arith, same))
falls_at [] [] f steps new inside same h = absurd (omega (arith, inside))
falls_at (entry ∷ graph) (x ∷ p) zero steps new inside same h = omega (arith, h)
falls_at (entry ∷ graph) (x ∷ p) (suc f) steps new inside same h =
    let rest = falls_at graph p f steps new (omega (arith, inside)) (omega (arith, same)) h in omega (arith, rest)

-- the calls of a function, read at its number
pub calls_at_entry : (graph : List (Option (List PlacedCall))) (f : ℕ) → calls_or_none (Some (get_or graph f None)) ≡ calls_from graph f
calls_at_entry [] f = refl
calls_at_entry (entry ∷ graph) zero = refl
calls_at_entry (entry ∷ graph) (suc f) = calls_at_entry graph f

module _ (graph : List (Option (List PlacedCall))) (p : List Progress) (f : ℕ) (inside : f < length p) (same : length p ≡ length graph) where
  abbrev pub size : ℕ
  size = length (calls_from graph f)

  sized : length (calls_or_none (Some (get_or graph f None))) ≡ size
  sized = ap length (calls_at_entry graph f)

  -- a call is gone through
  pub next_falls : (n : ℕ) → at p f ≡ Open n → n < size → 1 + all_left graph (set p f (Open (suc n))) ≤ all_left graph p
  next_falls n is less = falls_at graph p f 1 (Open (suc n)) inside same
      (subst (λ x. 1 + left (get_or graph f None) (Open (suc n)) ≤ left (get_or graph f None) x) (sym is) (omega (arith, sized, less)))

  -- a function is come to
  pub opening_falls : at p f ≡ New → 0 + all_left graph (set p f (Open 0)) ≤ all_left graph p
  opening_falls is = falls_at graph p f 0 (Open 0) inside same
      (subst (λ x. 0 + left (get_or graph f None) (Open 0) ≤ left (get_or graph f None) x) (sym is) (omega (arith, sized)))

  -- a function is done
  pub done_falls : at p f ≡ Open size → 1 + all_left graph (set p f Done) ≤ all_left graph p
  done_falls is = falls_at graph p f 1 Done inside same
      (subst (λ x. 1 + left (get_or graph f None) Done ≤ left (get_or graph f None) x) (sym is) (omega (arith, sized)))
