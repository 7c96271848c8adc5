-- The first call of a function without a body, as more calls are seen.
use Rattle.std.proofs.Common.{◌≡◌, ◌⊎◌, inl, inr, ℕ, zero, suc, ◌+◌, ◌<◌, ◌≤◌, List, [], ◌∷◌, map, length, get_or, take, Some, None, sym, subst, ap, ◌∙◌, arith}
use Rattle.std.specs.Prelude.{Option, Contains, MatchOption}
use Rattle.std.proofs.lemmas.List.{take_all, take_more}
use Rattle.std.proofs.lemmas.List.Elements.{Contains-get_or, Contains-append_left, Contains-push, Contains-push_cases}
use Rattle.std.proofs.lemmas.Bool.{cases_eq}
use Rattle.c_syntax_written.specs.declared.place.Pos.{Pos}
use Rattle.c_layout.specs.Calls.{PlacedCall, IsBefore}
use Rattle.c_rules_calls.specs.Graph.{calls_from, AreDefined, IsDefined}
use Rattle.c_rules_calls.specs.Placed.{placed}
use Rattle.c_rules_calls.specs.declared.call.Call.{Call}
use Rattle.c_rules_calls.specs.Undefined.{IsEarlier, IsFirstUndefined, IsFound, IsFoundWith, IsSeen}

-- ---- places

pub before_after : (a b c : Pos) → IsBefore a b → IsBefore b c → IsBefore a c
before_after a b c (inl p) (inl q) = inl (omega (arith, p, q))
before_after a b c (inl p) (inr q) = inl (omega (arith, p, q.0))
before_after a b c (inr p) (inl q) = inl (omega (arith, p.0, q))
before_after a b c (inr p) (inr q) = inr (p.0 ∙ q.0, lines p.1 q.1) where
  lines : ((a.line < b.line) ⊎ ((a.line ≡ b.line) × (a.col < b.col))) → ((b.line < c.line) ⊎ ((b.line ≡ c.line) × (b.col < c.col)))
      → (a.line < c.line) ⊎ ((a.line ≡ c.line) × (a.col < c.col))
  lines (inl l) (inl m) = inl (omega (arith, l, m))
  lines (inl l) (inr m) = inl (omega (arith, l, m.0))
  lines (inr l) (inl m) = inl (omega (arith, l.0, m))
  lines (inr l) (inr m) = inr (l.0 ∙ m.0, omega (arith, l.1, m.1))

pub never_before_itself : (a : Pos) → IsBefore a a → ⊥
never_before_itself a (inl p) = absurd (omega (arith, p))
never_before_itself a (inr p) = elim p.1 [ inl l ↦ absurd (omega (arith, l)) | inr l ↦ absurd (omega (arith, l.1)) ]

module _ (graph : List (Option (List PlacedCall))) where
  -- nothing was seen
  pub none_seen : (call : PlacedCall) → IsSeen graph 0 0 call → IsDefined graph call.callee
  none_seen call (inl s) = absurd (omega (arith, s.1))
  none_seen call (inr s) = absurd (omega (arith, s.1))

  -- what was seen when one more call of the function is
  seen_more : (f i : ℕ) (d : PlacedCall) → i < length (calls_from graph f) → (call : PlacedCall) → IsSeen graph f (i + 1) call
      → IsSeen graph f i call ⊎ (get_or (calls_from graph f) i d ≡ call)
  seen_more f i d less call (inl s) = inl (inl s)
  seen_more f i d less call (inr s) =
      elim (Contains-push_cases (take i (calls_from graph f)) (get_or (calls_from graph f) i d) call
      (subst (λ xs. Contains xs call) (take_more (calls_from graph f) i d less) s)) [ inl c ↦ inl (inr c) | inr e ↦ inr e ]

  still_seen : (f i : ℕ) (d : PlacedCall) → i < length (calls_from graph f) → (call : PlacedCall) → IsSeen graph f i call → IsSeen graph f (i + 1) call
  still_seen f i d less call (inl s) = inl s
  still_seen f i d less call (inr s) = inr (subst (λ xs. Contains xs call) (sym (take_more (calls_from graph f) i d less))
      (Contains-append_left (take i (calls_from graph f)) (get_or (calls_from graph f) i d ∷ []) call s))

  now_seen : (f i : ℕ) (d : PlacedCall) → i < length (calls_from graph f) → IsSeen graph f (i + 1) (get_or (calls_from graph f) i d)
  now_seen f i d less = inr (subst (λ xs. Contains xs (get_or (calls_from graph f) i d)) (sym (take_more (calls_from graph f) i d less))
      (Contains-push (take i (calls_from graph f)) (get_or (calls_from graph f) i d)))

  -- one more call, of a function that has a body
  pub goes_on : (f i : ℕ) (call : PlacedCall) → i < length (calls_from graph f) → call ≡ get_or (calls_from graph f) i call → IsDefined graph call.callee
      → (found : Option Call) → IsFound graph f i found → IsFound graph f (i + 1) found
  goes_on f i call less is d None h = λ other s. elim (seen_more f i call less other s) [
    | inl before ↦ h other before
    | inr e ↦ subst (λ (c : PlacedCall). IsDefined graph c.callee) (is ∙ e) d
  ]
  goes_on f i call less is d (Some first) h = record {
    seen = still_seen f i call less (placed first) h.seen;
    undefined = h.undefined;
    first = λ other s u before. elim (seen_more f i call less other s) [
      | inl earlier ↦ h.first other earlier u before
      | inr e ↦ u (subst (λ (c : PlacedCall). IsDefined graph c.callee) (is ∙ e) d)
    ];
  }

  -- one more call, of a function that has none
  pub finds : (f i : ℕ) (call now : Call) → i < length (calls_from graph f) → placed call ≡ get_or (calls_from graph f) i (placed call)
      → (IsDefined graph call.callee → ⊥) → (found : Option Call) → IsFound graph f i found
      → MatchOption found (now ≡ call) (λ first. IsEarlier first call now) → IsFound graph f (i + 1) (Some now)
  finds f i call now less is u None h e = subst (λ c. IsFound graph f (i + 1) (Some c)) (sym e) (record {
    seen = subst (IsSeen graph f (i + 1)) (sym is) (now_seen f i (placed call) less);
    undefined = u;
    first = λ other s v before. elim (seen_more f i (placed call) less other s) [
      | inl seen ↦ v (h other seen)
      | inr e ↦ never_before_itself call.pos (subst (λ (c : PlacedCall). IsBefore c.pos call.pos) (sym (is ∙ e)) before)
    ];
  })
  finds f i call now less is u (Some first) h (inl e) = subst (λ c. IsFound graph f (i + 1) (Some c)) (sym e.0) (record {
    seen = subst (IsSeen graph f (i + 1)) (sym is) (now_seen f i (placed call) less);
    undefined = u;
    first = λ other s v before. elim (seen_more f i (placed call) less other s) [
      | inl seen ↦ h.first other seen v (before_after other.pos call.pos first.pos before e.1)
      | inr e ↦ never_before_itself call.pos (subst (λ (c : PlacedCall). IsBefore c.pos call.pos) (sym (is ∙ e)) before)
    ];
  })
  finds f i call now less is u (Some first) h (inr e) = subst (λ c. IsFound graph f (i + 1) (Some c)) (sym e.0) (record {
    seen = still_seen f i (placed call) less (placed first) h.seen;
    undefined = h.undefined;
    first = λ other s v before. elim (seen_more f i (placed call) less other s) [
      | inl seen ↦ h.first other seen v before
      | inr same ↦ e.1 (subst (λ (c : PlacedCall). IsBefore c.pos first.pos) (sym (is ∙ same)) before)
    ];
  })

  -- one more call
  pub found_with : (f i : ℕ) (call : Call) → i < length (calls_from graph f) → placed call ≡ get_or (calls_from graph f) i (placed call)
      → (found result : Option Call) → IsFound graph f i found → IsFoundWith graph found call result → IsFound graph f (i + 1) result
  found_with f i call less is found result h (inl w) = subst (IsFound graph f (i + 1)) (sym w.1) (goes_on f i (placed call) less is w.0 found h)
  found_with f i call less is found (Some now) h (inr w) = finds f i call now less is w.0 found h w.1
  found_with f i call less is found None h (inr w) = absurd w.1

  -- all calls of the function were seen
  seen_in : (f i : ℕ) → length (calls_from graph f) ≤ i → (call : PlacedCall) → IsSeen graph (f + 1) 0 call → IsSeen graph f i call
  seen_in f i past call (inr s) = absurd (omega (arith, s.1))
  seen_in f i past call (inl s) = elim (cases_eq s.0 f) [
    | inl same ↦ inr (subst (λ xs. Contains xs call) (ap (calls_from graph) same ∙ sym (take_all i (calls_from graph f) past)) s.2)
    | inr other ↦ inl (s.0, omega (arith, s.1, other), s.2)
  ]

  seen_out : (f i : ℕ) → length (calls_from graph f) ≤ i → (call : PlacedCall) → IsSeen graph f i call → IsSeen graph (f + 1) 0 call
  seen_out f i past call (inl s) = inl (s.0, omega (arith, s.1), s.2)
  seen_out f i past call (inr s) = inl (f, omega arith, subst (λ xs. Contains xs call) (take_all i (calls_from graph f) past) s)

  pub next_function : (f i : ℕ) → length (calls_from graph f) ≤ i → (found : Option Call) → IsFound graph f i found → IsFound graph (f + 1) 0 found
  next_function f i past None h = λ call s. h call (seen_in f i past call s)
  next_function f i past (Some first) h = record {
    seen = seen_out f i past (placed first) h.seen;
    undefined = h.undefined;
    first = λ other s. h.first other (seen_in f i past other s);
  }

calls_past : (graph : List (Option (List PlacedCall))) (f : ℕ) (call : PlacedCall) → Contains (calls_from graph f) call → f < length graph
calls_past [] f call c = absurd (omega (arith, c.1))
calls_past (entry ∷ graph) zero call c = omega arith
calls_past (entry ∷ graph) (suc f) call c = let rest = calls_past graph f call c in omega (arith, rest)

-- all calls were seen
pub all_seen : (graph : List (Option (List PlacedCall))) (f : ℕ) → length graph ≤ f → (found : Option Call) → IsFound graph f 0 found
    → MatchOption found (AreDefined graph) (λ call. IsFirstUndefined graph (placed call))
all_seen graph f past None h = λ g k d less.
    let here = Contains-get_or (calls_from graph g) k d less in
    h (get_or (calls_from graph g) k d) (inl (g, (let l = calls_past graph g (get_or (calls_from graph g) k d) here in omega (arith, past, l)), here))
all_seen graph f past (Some first) h = record {
  function = function_of h.seen;
  made = made_in h.seen;
  undefined = h.undefined;
  first = λ g k d less.
      let here = Contains-get_or (calls_from graph g) k d less in
      h.first (get_or (calls_from graph g) k d) (inl (g, (let l = calls_past graph g (get_or (calls_from graph g) k d) here in omega (arith, past, l)), here));
} where
  function_of : IsSeen graph f 0 (placed first) → ℕ
  function_of (inl s) = s.0
  function_of (inr s) = f

  made_in : (s : IsSeen graph f 0 (placed first)) → Contains (calls_from graph (function_of s)) (placed first)
  made_in (inl s) = s.2
  made_in (inr s) = absurd (omega (arith, s.1))

pub placed_read : (calls : List Call) (i : ℕ) (call : Call) → i < length calls → call ≡ get_or calls i call → placed call ≡ get_or (map placed calls) i (placed call)
placed_read [] i call less e = absurd (omega (arith, less))
placed_read (c ∷ calls) zero call less e = ap placed e
placed_read (c ∷ calls) (suc i) call less e = placed_read calls i call (omega (arith, less)) e
