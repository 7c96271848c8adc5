-- How deep calls go, function by function in an order in which callees are first.
use Rattle.std.proofs.Common.{◌≡◌, ◌≢◌, inl, inr, ℕ, zero, suc, ◌+◌, ◌<◌, ◌≤◌, true, cond, List, [], ◌∷◌, ◌++◌, map, length, get_or, set, take, refl, sym, subst, arith, nat_cmp}
use Rattle.std.proofs.lemmas.Grind.{common_steps}
use Rattle.std.specs.Ordering.{ord_max}
use Rattle.std.specs.Prelude.{Option, min, max, All, Contains, ◌==◌}
use Rattle.std.proofs.lemmas.List.{get_or-set_same, get_or-set_other, get_or-take, get_or-map, take_all, length-take, length-map}
use Rattle.std.proofs.lemmas.Bool.{cases_lt}
use Rattle.std.proofs.lemmas.List.Elements.{All-weaker, All-contains, All-from_get_or, All-get_or, All-more, All-push, All-map, Contains-append_left, Contains-get_or, Contains-push}
use Rattle.std.proofs.lemmas.List.Sums.{count_by_more_yes, sum_by-take-le, get_or-le-sum_by}
use Rattle.c_layout.specs.Calls.{PlacedCall}
use Rattle.c_layout.specs.WellTyped.{EachOf}
use Rattle.c_rules_calls.specs.Graph.{calls_from, AreDefined, IsDefined, IsOrderOf, IsWay}
use Rattle.c_rules_calls.specs.Placed.{placed}
use Rattle.c_rules_calls.specs.declared.call.Call.{Call}
use Rattle.c_rules_calls.specs.Depths.{AreDepths, HasDeepCall, IsDepth}
use Rattle.c_rules_calls.proofs.Steps.{defined_inside}
use Rattle.c_rules_calls.proofs.Orders.{times, one_if, same_one, contains_counted as contained}

-- a way is no longer than the depth, where that is below 65
pub short : (graph : List (Option (List PlacedCall))) (depths : List ℕ) → AreDefined graph → AreDepths graph depths
    → (calls : List PlacedCall) (f : ℕ) → IsDefined graph f → get_or depths f 0 < 65 → IsWay graph f calls → length calls ≤ get_or depths f 0
short graph depths known all [] f d less w = omega arith
short graph depths known all (call ∷ rest) f d less w =
    let over = All-contains (λ c. min 65 (get_or depths c.callee 0 + 1) ≤ get_or depths f 0) (calls_from graph f) call (all f d).over w.0 in
    let below : get_or depths call.callee 0 + 1 ≤ get_or depths f 0 = grind (arith, over, less) in
    let defined = All-contains (λ c. IsDefined graph c.callee) (calls_from graph f) call (known f) w.0 in
    let further = short graph depths known all rest call.callee defined (omega (arith, below, less)) w.1 in omega (arith, below, further)

-- a depth does not look at functions that are not called
pub depth_stays : (depths : List ℕ) (f x : ℕ) (calls : List PlacedCall) (depth : ℕ) → All (λ call. call.callee ≢ f) calls
    → IsDepth depths calls depth → IsDepth (set depths f x) calls depth
depth_stays depths f x calls depth away d = record {
  capped = d.capped;
  over = λ k e inside. subst (λ n. min 65 (n + 1) ≤ depth) (sym (get_or-set_other depths f _ x 0 (away k e inside))) (d.over k e inside);
  reached = λ n less.
      let one = d.reached n less in
      (one.0, one.1, subst (λ m. n ≤ m) (sym (get_or-set_other depths f one.0.callee x 0 (All-contains (λ call. call.callee ≢ f) calls one.0 away one.1))) one.2);
}

contains_counted : (f : ℕ) (xs : List ℕ) → Contains xs f → 0 < times f xs
contains_counted f xs c =
    let le = get_or-le-sum_by (λ x. cond (x == f) 1 0) xs c.0 f c.1 in
    let one : one_if f (get_or xs c.0 f) ≡ 1 = subst (λ x. one_if f x ≡ 1) (sym c.2) (same_one f) in omega (arith, le, one)

-- what stands once in a list does not stand before its place
pub not_before : (f : ℕ) (xs : List ℕ) (i : ℕ) → i < length xs → get_or xs i 0 ≡ f → times f xs ≡ 1 → Contains (take i xs) f → ⊥
not_before f xs i inside is once before =
    let one : (get_or xs i 0 == f) ≡ true = subst (λ x. (x == f) ≡ true) (sym is) (grind arith) in
    let more = count_by_more_yes (λ x. x == f) xs i 0 inside one in
    let part = sum_by-take-le (λ x. cond (x == f) 1 0) xs (i + 1) in
    let counted = contains_counted f (take i xs) before in
    absurd (omega (arith, once, more, part, counted))

contains_front : (xs : List ℕ) (k i x : ℕ) → k ≤ i → Contains (take k xs) x → Contains (take i xs) x
contains_front xs zero i x le c = absurd (omega (arith, c.1))
contains_front [] (suc k) i x le c = absurd (omega (arith, c.1))
contains_front (y ∷ ys) (suc k) zero x le c = absurd (omega (arith, le))
contains_front (y ∷ ys) (suc k) (suc i) x le (zero, l, e) = (0, omega arith, e)
contains_front (y ∷ ys) (suc k) (suc i) x le (suc j, l, e) =
    let rest = contains_front ys k i x (omega (arith, le)) (j, omega (arith, l), e) in (suc rest.0, omega (arith, rest.1), rest.2)

each_at : {A : Type 0} (P : ℕ → A → Type 0) (xs : List A) (k : ℕ) (d : A) → k < length xs → EachOf xs P → P k (get_or xs k d)
each_at P [] k d less h = absurd (omega (arith, less))
each_at P (x ∷ xs) zero d less h = h zero
each_at P (x ∷ xs) (suc k) d less h = each_at (λ k. P (suc k)) xs k d (omega (arith, less)) (λ k. h (suc k))

module _ (graph : List (Option (List PlacedCall))) (order : List ℕ) (o : IsOrderOf graph order) (i : ℕ) (inside : i < length order) where
  abbrev pub next : ℕ
  next = get_or order i 0

  -- what a function of the order calls stands before any place that is not before it
  pub called_before : (k : ℕ) → k ≤ i → All (λ call. Contains (take i order) call.callee) (calls_from graph (get_or order k 0))
  called_before k le = All-weaker (λ call. Contains (take k order) call.callee) (λ call. Contains (take i order) call.callee)
      (λ call c. contains_front order k i call.callee le c) (calls_from graph (get_or order k 0))
      (each_at (λ k f. All (λ call. Contains (take k order) call.callee) (calls_from graph f)) order k 0 (omega (arith, le, inside)) o.callees_first)

  pub once : times next order ≡ 1
  once = o.once next (All-get_or (IsDefined graph) order i 0 inside o.defined)

  pub other : (f : ℕ) → Contains (take i order) f → f ≢ next
  other f c e = not_before next order i inside refl once (subst (Contains (take i order)) e c)

  -- the calls of the next function are of functions that stand before it
  pub next_called : All (λ call. Contains order call.callee) (calls_from graph next)
  next_called = All-weaker (λ call. Contains (take i order) call.callee) (λ call. Contains order call.callee)
      (λ call c. subst (λ xs. Contains xs call.callee) (take_all (length order) order (omega arith))
      (contains_front order i (length order) call.callee (omega (arith, inside)) c))
      (calls_from graph next) (called_before i (omega arith))

  kept : (depths : List ℕ) (x k : ℕ) → k < i → IsDepth depths (calls_from graph (get_or order k 0)) (get_or depths (get_or order k 0) 0)
      → IsDepth (set depths next x) (calls_from graph (get_or order k 0)) (get_or (set depths next x) (get_or order k 0) 0)
  kept depths x k less d =
      let f = get_or order k 0 in
      let here : Contains (take i order) f = subst (Contains (take i order)) (get_or-take i order k 0 less)
      (Contains-get_or (take i order) k 0 (omega (arith, less, inside, length-take i order))) in
      subst (IsDepth (set depths next x) (calls_from graph f)) (sym (get_or-set_other depths next f x 0 (other f here)))
      (depth_stays depths next x (calls_from graph f) (get_or depths f 0)
      (All-weaker (λ call. Contains (take i order) call.callee) (λ call. call.callee ≢ next) (λ call c. other call.callee c) (calls_from graph f)
      (called_before k (omega (arith, less)))) d)

  -- the depth of the next function is known too
  pub one_more : (depths : List ℕ) (x : ℕ) → next < length depths → IsDepth depths (calls_from graph next) x
      → All (λ f. IsDepth depths (calls_from graph f) (get_or depths f 0)) (take i order)
      → All (λ f. IsDepth (set depths next x) (calls_from graph f) (get_or (set depths next x) f 0)) (take (i + 1) order)
  one_more depths x within d all =
      All-more (λ f. IsDepth (set depths next x) (calls_from graph f) (get_or (set depths next x) f 0)) order i 0 inside
      (All-from_get_or (λ f. IsDepth (set depths next x) (calls_from graph f) (get_or (set depths next x) f 0)) (take i order) 0
      (λ k less. let l : k < i = omega (arith, less, length-take i order) in
      subst (λ f. IsDepth (set depths next x) (calls_from graph f) (get_or (set depths next x) f 0)) (sym (get_or-take i order k 0 l))
      (kept depths x k l (subst (λ f. IsDepth depths (calls_from graph f) (get_or depths f 0)) (get_or-take i order k 0 l)
      (All-get_or (λ f. IsDepth depths (calls_from graph f) (get_or depths f 0)) (take i order) k 0 less all)))))
      (subst (IsDepth (set depths next x) (calls_from graph next)) (sym (get_or-set_same depths next x 0 within))
      (depth_stays depths next x (calls_from graph next) x
      (All-weaker (λ call. Contains (take i order) call.callee) (λ call. call.callee ≢ next) (λ call c. other call.callee c) (calls_from graph next)
      (called_before i (omega arith))) d))

-- the depth of each function that has a body is known
pub all_known : (graph : List (Option (List PlacedCall))) (order : List ℕ) → IsOrderOf graph order → (depths : List ℕ)
    → All (λ f. IsDepth depths (calls_from graph f) (get_or depths f 0)) order → AreDepths graph depths
all_known graph order o depths all f d =
    All-contains (λ f. IsDepth depths (calls_from graph f) (get_or depths f 0)) order f all
    (contained f order (let once = o.once f d in omega (arith, once)))

pub max_is : (a b : ℕ) → ord_max nat_cmp a b ≡ max a b
max_is a b = grind (arith, common_steps)

-- one call more
pub depth_more : (depths : List ℕ) (calls : List PlacedCall) (call : PlacedCall) (m d : ℕ) → d ≡ get_or depths call.callee 0 → IsDepth depths calls m
    → IsDepth depths (calls ++ call ∷ []) (max m (min d 64 + 1))
depth_more depths calls call m d is known = record {
  capped = grind (arith, known.capped);
  over = All-push (λ c. min 65 (get_or depths c.callee 0 + 1) ≤ max m (min d 64 + 1)) calls call
      (All-weaker (λ c. min 65 (get_or depths c.callee 0 + 1) ≤ m) (λ c. min 65 (get_or depths c.callee 0 + 1) ≤ max m (min d 64 + 1))
      (λ c le. grind (arith, le)) calls known.over)
      (subst (λ n. min 65 (n + 1) ≤ max m (min d 64 + 1)) is (grind arith));
  reached = λ n less. elim (cases_lt n m) [
    | inl below ↦ (let one = known.reached n below in (one.0, Contains-append_left calls (call ∷ []) one.0 one.1, one.2))
    | inr over ↦ (call, Contains-push calls call, subst (λ x. n ≤ x) is (grind (arith, less, over)))
  ];
}

-- ---- the calls of the code

pub calls_inside : (graph : List (Option (List PlacedCall))) (f : ℕ) (calls : List Call) → AreDefined graph → map placed calls ≡ calls_from graph f
    → All (λ call. call.callee < length graph) calls
calls_inside graph f calls known e k d less =
    let all : All (λ call. IsDefined graph call.callee) (map placed calls) = subst (All (λ call. IsDefined graph call.callee)) (sym e) (known f) in
    let here = all k (placed d) (subst (λ n. k < n) (sym (length-map calls placed)) less) in
    defined_inside graph (get_or calls k d).callee
    (subst (λ (call : PlacedCall). IsDefined graph call.callee) (get_or-map placed calls k d (placed d) less) here)

-- none of these calls is of a function so deep
pub none_deep : (depths : List ℕ) (calls : List Call) (depth : ℕ) → All (λ call. get_or depths call.callee 0 < depth) calls
    → HasDeepCall depths (map placed calls) depth → ⊥
none_deep depths calls depth all one =
    let mapped : All (λ call. get_or depths call.callee 0 < depth) (map placed calls) =
    All-map (λ (call : PlacedCall). get_or depths call.callee 0 < depth) placed calls all in
    let low = All-contains (λ (call : PlacedCall). get_or depths call.callee 0 < depth) (map placed calls) one.0 mapped one.1 in
    absurd (omega (arith, low, one.2))
