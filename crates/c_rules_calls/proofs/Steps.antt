-- Steps of the search.
use Rattle.std.proofs.Common.{◌≡◌, ℕ, zero, suc, ◌+◌, ◌<◌, ◌≤◌, inl, inr, List, [], ◌∷◌, ◌++◌, map, length, get_or, set, take, Some, refl, sym, subst, ap, ◌∙◌, arith, rules, length-set}
use Rattle.std.specs.Prelude.{Option, All, slice_get}
use Rattle.std.specs.List.{AllByRecursion}
use Rattle.std.proofs.lemmas.List.{get_or-set_same, take_all}
use Rattle.c_layout.specs.Calls.{PlacedCall, chain_end}
use Rattle.c_rules_calls.specs.Placed.{placed}
use Rattle.c_rules_calls.specs.declared.call.Call.{Call}
use Rattle.c_rules_calls.specs.Graph.{calls_from, AreDefined, IsDefined}
use Rattle.c_rules_calls.specs.Search.{at, IsDone, AreOrdered, IsUnderWay, IsAtCall, functions_of, IsAmong, IsTurn, KeepsDone, all_left}
use Rattle.c_rules_calls.specs.declared.search.Progress.{Progress}
use Rattle.c_rules_calls.specs.declared.search.Progress.TheVariants.{New, Open, Done}
use Rattle.c_rules_calls.specs.declared.search.Search.{Search}
use Rattle.c_rules_calls.specs.declared.search.Turn.{Turn}
use Rattle.c_rules_calls.specs.declared.search.Turn.TheVariants as turns
use Rattle.std.proofs.lemmas.List.Elements.{All-contains}
use Rattle.c_rules_calls.proofs.Ways.{IsChanged, changed, changed_new, comes_to, done_stays, new_open, end_among, enters, going_pop, passes}
use Rattle.c_rules_calls.proofs.Orders.{order_grows, order_stays}
use Rattle.c_rules_calls.proofs.Left.{done_falls, next_falls, opening_falls}
use Rattle.c_rules_calls.proofs.Closed.{contains_got}

pub inside : (p : List Progress) (f n : ℕ) → at p f ≡ Open n → f < length p
inside [] f n e = absurd (new_open e)
inside (x ∷ p) zero n e = omega arith
inside (x ∷ p) (suc f) n e = let rest = inside p f n e in omega (arith, rest)

not_done : {n : ℕ} → Open n ≡ Done → ⊥
not_done e = search rules

open_same : {m n : ℕ} → Open m ≡ Open n → m ≡ n
open_same e = cc

all_among : (P : ℕ → Type 0) (xs : List ℕ) (f : ℕ) → AllByRecursion P xs → IsAmong xs f → P f
all_among P [] f a h = absurd h
all_among P (x ∷ xs) f a (inl e) = subst P e a.0
all_among P (x ∷ xs) f a (inr h) = all_among P xs f a.1 h

pub last_split : (made : List PlacedCall) → 0 < length made → (front : List PlacedCall) × (call : PlacedCall) × (made ≡ front ++ call ∷ [])
last_split [] h = absurd (omega (arith, h))
last_split (m ∷ []) h = ([], m, refl)
last_split (m ∷ n ∷ made) h = let rest = last_split (n ∷ made) (omega arith) in (m ∷ rest.0, rest.1, ap (λ xs. m ∷ xs) rest.2)

module _ (graph : List (Option (List PlacedCall))) (p : List Progress) (order : List ℕ) (root : ℕ) (made : List PlacedCall)
    (u : IsUnderWay graph p root made) (o : AreOrdered graph p order) (f : ℕ) (is : f ≡ chain_end root made)
    (all : at p f ≡ Open (length (calls_from graph f))) where
  abbrev after : List Progress
  after = set p f Done

  within : f < length p
  within = inside p f (length (calls_from graph f)) all

  change : IsChanged graph p after f
  change = changed graph p f (length (calls_from graph f)) Done all

  gone : u.next ≡ length (calls_from graph f)
  gone = open_same (sym u.gone.is_open ∙ ap (at p) (sym is) ∙ all)

  called : All (λ call. IsDone p call.callee) (calls_from graph f)
  called = subst (λ calls. All (λ call. IsDone p call.callee) calls)
      (ap (λ n. take n (calls_from graph (chain_end root made))) gone ∙ ap (λ g. take (length (calls_from graph f)) (calls_from graph g)) (sym is)
      ∙ take_all (length (calls_from graph f)) (calls_from graph f) (omega arith)) u.gone.done

  pub ordered_after : AreOrdered graph (set p f Done) (order ++ f ∷ [])
  ordered_after = order_grows graph p after f order change (get_or-set_same p f Done New within) (length-set p f Done)
      (all_among (IsDefined graph) (functions_of root made) f u.way.defined (subst (IsAmong (functions_of root made)) (sym is) (end_among root made)))
      called o

  pub keeps_after : KeepsDone p (set p f Done)
  keeps_after = λ g d. done_stays graph p after f change g d

  pub falls_after : 1 + all_left graph (set p f Done) ≤ all_left graph p
  falls_after = done_falls graph p f within o.sizes all

-- ---- a call is gone through

pub defined_inside : (graph : List (Option (List PlacedCall))) (f : ℕ) → IsDefined graph f → f < length graph
defined_inside [] f d = absurd d
defined_inside (entry ∷ graph) zero d = omega arith
defined_inside (entry ∷ graph) (suc f) d = let rest = defined_inside graph f d in omega (arith, rest)

module _ (graph : List (Option (List PlacedCall))) (p : List Progress) (order : List ℕ) (root : ℕ) (made : List PlacedCall) (call : PlacedCall)
    (known : AreDefined graph) (o : AreOrdered graph p order) (a : IsAtCall graph p root made call) where
  -- what is called has a body
  pub callee_defined : IsDefined graph call.callee
  callee_defined =
      let going = (going_pop graph p root made call a.going).1 in
      All-contains (λ c. IsDefined graph c.callee) (calls_from graph (chain_end root made)) call (known (chain_end root made))
      (contains_got (calls_from graph (chain_end root made)) going.n call going.call_is)

  pub callee_inside : call.callee < length p
  callee_inside = let inside = defined_inside graph call.callee callee_defined in omega (arith, inside, o.sizes)

  pub callee_among : (n : ℕ) → at p call.callee ≡ Open n → IsAmong (functions_of root made) call.callee
  callee_among n e = a.way.all call.callee n e

  pub way_on : IsDone p call.callee → IsUnderWay graph p root made
  way_on d = passes graph p root made call a d

  pub way_in : at p call.callee ≡ New → IsUnderWay graph (set p call.callee (Open 0)) root (made ++ call ∷ [])
  way_in new = enters graph p root made call a new callee_inside callee_defined

  pub order_in : at p call.callee ≡ New → AreOrdered graph (set p call.callee (Open 0)) order
  order_in new = order_stays graph p (set p call.callee (Open 0)) call.callee order (changed_new graph p call.callee (Open 0) new)
      (λ d. not_done (sym (get_or-set_same p call.callee (Open 0) New callee_inside) ∙ d)) (length-set p call.callee (Open 0)) o

  pub keeps_in : at p call.callee ≡ New → KeepsDone p (set p call.callee (Open 0))
  keeps_in new = λ f d. done_stays graph p (set p call.callee (Open 0)) call.callee (changed_new graph p call.callee (Open 0) new) f d

  pub falls_in : at p call.callee ≡ New → 0 + all_left graph (set p call.callee (Open 0)) ≤ all_left graph p
  falls_in new = opening_falls graph p call.callee callee_inside o.sizes new

-- ---- the next call of the last function

pub placed_at : (calls : List Call) (n : ℕ) (call : Call) → n < length calls → call ≡ get_or calls n call → slice_get (map placed calls) n ≡ Some (placed call)
placed_at [] n call less e = absurd (omega (arith, less))
placed_at (first ∷ calls) zero call less e = ap (λ c. Some (placed c)) (sym e)
placed_at (first ∷ calls) (suc n) call less e = placed_at calls n call (omega (arith, less)) e

module _ (graph : List (Option (List PlacedCall))) (p : List Progress) (order : List ℕ) (root : ℕ) (made : List PlacedCall)
    (u : IsUnderWay graph p root made) (o : AreOrdered graph p order) (n : ℕ) (is : at p (chain_end root made) ≡ Open n) where
  top_inside : chain_end root made < length p
  top_inside = inside p (chain_end root made) n is

  is_next : u.next ≡ n
  is_next = open_same (sym u.gone.is_open ∙ is)

  pub at_next : (call : PlacedCall) → slice_get (calls_from graph (chain_end root made)) n ≡ Some call
      → IsAtCall graph (set p (chain_end root made) (Open (n + 1))) root made call
  at_next call e =
      let more : suc u.next ≡ n + 1 = omega (arith, is_next) in
      subst (λ k. IsAtCall graph (set p (chain_end root made) (Open k)) root made call) more
      (comes_to graph p root made u call top_inside (ap (slice_get (calls_from graph (chain_end root made))) is_next ∙ e))

  pub order_next : AreOrdered graph (set p (chain_end root made) (Open (n + 1))) order
  order_next = order_stays graph p (set p (chain_end root made) (Open (n + 1))) (chain_end root made) order
      (changed graph p (chain_end root made) n (Open (n + 1)) is)
      (λ d. not_done (sym (get_or-set_same p (chain_end root made) (Open (n + 1)) New top_inside) ∙ d)) (length-set p (chain_end root made) (Open (n + 1))) o

  pub keeps_next : KeepsDone p (set p (chain_end root made) (Open (n + 1)))
  keeps_next = λ f d. done_stays graph p (set p (chain_end root made) (Open (n + 1))) (chain_end root made)
      (changed graph p (chain_end root made) n (Open (n + 1)) is) f d

  pub falls_next : n < length (calls_from graph (chain_end root made)) → 1 + all_left graph (set p (chain_end root made) (Open (n + 1))) ≤ all_left graph p
  falls_next less =
      let more : suc n ≡ n + 1 = omega arith in
      subst (λ k. 1 + all_left graph (set p (chain_end root made) (Open k)) ≤ all_left graph p) more
      (next_falls graph p (chain_end root made) top_inside o.sizes n is less)

-- a step, and then one more
pub steps : (graph : List (Option (List PlacedCall))) (s t u : Search) (turn : Turn) → t.root ≡ s.root → KeepsDone s.progress.items t.progress.items
    → 1 + all_left graph t.progress.items ≤ all_left graph s.progress.items → IsTurn graph 0 t u turn → IsTurn graph 1 s u turn
steps graph s t u turns.GoesOn root keeps falls turn = record {
  ordered = turn.ordered;
  way = turn.way;
  falls = omega (arith, falls, turn.falls);
  keeps = λ f d. turn.keeps f (keeps f d);
  root = turn.root ∙ root;
}
steps graph s t u turns.Ends root keeps falls turn = record {
  ordered = turn.ordered;
  none_open = turn.none_open;
  none_made = turn.none_made;
  keeps = λ f d. turn.keeps f (keeps f d);
  done = subst (IsDone u.progress.items) root turn.done;
}
