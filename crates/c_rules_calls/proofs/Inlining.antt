-- Inlined sizes, function by function in an order in which callees are first.
use Rattle.std.proofs.Common.{◌≡◌, ◌≢◌, ℕ, zero, suc, ◌+◌, ◌<◌, ◌≤◌, cond, List, [], ◌∷◌, ◌++◌, map, length, get_or, set, take, refl, sym, subst, ap, ◌∙◌, arith, length-set}
use Rattle.std.specs.Prelude.{Option, All, Contains, ◌==◌}
use Rattle.std.specs.List.{sum_by}
use Rattle.std.proofs.lemmas.List.{get_or-set_same, get_or-set_other, length-map, get_or-take, take_more, take_all, length-take}
use Rattle.std.proofs.lemmas.List.Elements.{All-nil, All-head, All-tail, All-more, All-weaker, All-contains, All-from_get_or, All-get_or, Contains-append_left, Contains-get_or, Contains-push}
use Rattle.std.proofs.lemmas.List.Sums.{sum_by-cons}
use Rattle.c_layout.specs.Calls.{PlacedCall}
use Rattle.c_rules_calls.specs.Graph.{calls_from, IsDefined, IsOrderOf}
use Rattle.c_rules_calls.specs.Placed.{placed}
use Rattle.c_rules_calls.specs.declared.call.Call.{Call}
use Rattle.c_rules_calls.specs.Inlined.{AreInlined, ended}
use Rattle.c_rules_calls.proofs.Orders.{contains_counted}
use Rattle.c_rules_calls.proofs.Deep.{called_before, other}

-- the sizes of the first functions of the order are inlined, and the others are those of the functions alone
pub record AreSo (graph : List (Option (List PlacedCall))) (own : List ℕ) (order : List ℕ) (i : ℕ) (sizes : List ℕ) : Type 0 where
  pub size : length sizes ≡ length own
  pub inlined : ℕ → ℕ
  pub grow : All (λ f. inlined f ≡ get_or own f 0 + sum_by (λ call. inlined call.callee) (calls_from graph f)) (take i order)
  pub done : All (λ f. get_or sizes f 0 ≡ ended (inlined f)) (take i order)
  pub rest : (f : ℕ) → (Contains (take i order) f → ⊥) → get_or sizes f 0 ≡ ended (get_or own f 0)

sum_ended : (n : ℕ) (g h : PlacedCall → ℕ) (calls : List PlacedCall) → All (λ call. g call ≡ ended (h call)) calls
    → ended (ended n + sum_by g calls) ≡ ended (n + sum_by h calls)
sum_ended n g h [] all = grind arith
sum_ended n g h (call ∷ calls) all =
    let first : g call ≡ ended (h call) = All-head (λ call. g call ≡ ended (h call)) call calls all in
    let left = sum_by-cons g call calls in
    let right = sum_by-cons h call calls in
    let rest = sum_ended (n + h call) g h calls (All-tail (λ call. g call ≡ ended (h call)) call calls all) in
    grind (arith, first, left, right, rest)

sum_same : (g h : PlacedCall → ℕ) (calls : List PlacedCall) → All (λ call. g call ≡ h call) calls → sum_by g calls ≡ sum_by h calls
sum_same g h [] all = refl
sum_same g h (call ∷ calls) all =
    let first = All-head (λ call. g call ≡ h call) call calls all in
    let left = sum_by-cons g call calls in
    let right = sum_by-cons h call calls in
    let rest = sum_same g h calls (All-tail (λ call. g call ≡ h call) call calls all) in
    omega (arith, first, left, right, rest)

-- a function with one number changed
abbrev pub changed_at : (ℕ → ℕ) → ℕ → ℕ → ℕ → ℕ
changed_at g next x f = cond (f == next) x (g f)

same_elsewhere : (g : ℕ → ℕ) (next x f : ℕ) → f ≢ next → changed_at g next x f ≡ g f
same_elsewhere g next x f n = grind (arith, n)

changed_there : (g : ℕ → ℕ) (next x : ℕ) → changed_at g next x next ≡ x
changed_there g next x = grind arith

module _ (graph : List (Option (List PlacedCall))) (own order sizes : List ℕ) (o : IsOrderOf graph order) (i : ℕ) (inside : i < length order)
    (s : AreSo graph own order i sizes) where
  abbrev next : ℕ
  next = get_or order i 0

  abbrev exact : ℕ
  exact = get_or own next 0 + sum_by (λ call. s.inlined call.callee) (calls_from graph next)

  abbrev now : ℕ → ℕ
  now = changed_at s.inlined next exact

  before : (f : ℕ) → Contains (take i order) f → f ≢ next
  before f c = other graph order o i inside f c

  -- what stands before the place calls functions of which no number changes
  same_sum : (f : ℕ) → All (λ call. Contains (take i order) call.callee) (calls_from graph f)
      → sum_by (λ call. s.inlined call.callee) (calls_from graph f) ≡ sum_by (λ call. now call.callee) (calls_from graph f)
  same_sum f called = sum_same (λ call. s.inlined call.callee) (λ call. now call.callee) (calls_from graph f)
      (All-weaker (λ call. Contains (take i order) call.callee) (λ call. s.inlined call.callee ≡ now call.callee)
      (λ call c. sym (same_elsewhere s.inlined next exact call.callee (before call.callee c))) (calls_from graph f) called)

  at_front : (P : ℕ → Type 0) → ((k : ℕ) → k < i → P (get_or order k 0)) → All P (take i order)
  at_front P each = All-from_get_or P (take i order) 0
      (λ k less. let l : k < i = omega (arith, less, length-take i order) in subst P (sym (get_or-take i order k 0 l)) (each k l))

  from_front : (P : ℕ → Type 0) → All P (take i order) → (k : ℕ) → k < i → P (get_or order k 0)
  from_front P all k l = subst P (get_or-take i order k 0 l) (All-get_or P (take i order) k 0 (omega (arith, l, inside, length-take i order)) all)

  here : (k : ℕ) → k < i → Contains (take i order) (get_or order k 0)
  here k l = subst (Contains (take i order)) (get_or-take i order k 0 l) (Contains-get_or (take i order) k 0 (omega (arith, l, inside, length-take i order)))

  grown : (f : ℕ) → All (λ call. Contains (take i order) call.callee) (calls_from graph f)
      → now f ≡ get_or own f 0 + sum_by (λ call. s.inlined call.callee) (calls_from graph f)
      → now f ≡ get_or own f 0 + sum_by (λ call. now call.callee) (calls_from graph f)
  grown f called e = e ∙ ap (λ n. get_or own f 0 + n) (same_sum f called)

  -- the size of the next function is inlined too
  pub inlined_more : (size : ℕ) → next < length sizes → size ≡ ended (get_or sizes next 0 + sum_by (λ call. get_or sizes call.callee 0) (calls_from graph next))
      → AreSo graph own order (i + 1) (set sizes next size)
  inlined_more size within is = record {
    size = length-set sizes next size ∙ s.size;
    inlined = now;
    grow = All-more (λ f. now f ≡ get_or own f 0 + sum_by (λ call. now call.callee) (calls_from graph f)) order i 0 inside
        (at_front (λ f. now f ≡ get_or own f 0 + sum_by (λ call. now call.callee) (calls_from graph f))
        (λ k l. grown (get_or order k 0) (called_before graph order o i inside k (omega (arith, l)))
        (same_elsewhere s.inlined next exact (get_or order k 0) (before (get_or order k 0) (here k l))
        ∙ from_front (λ f. s.inlined f ≡ get_or own f 0 + sum_by (λ call. s.inlined call.callee) (calls_from graph f)) s.grow k l)))
        (grown next (called_before graph order o i inside i (omega arith)) (changed_there s.inlined next exact));
    done = All-more (λ f. get_or (set sizes next size) f 0 ≡ ended (now f)) order i 0 inside
        (at_front (λ f. get_or (set sizes next size) f 0 ≡ ended (now f))
        (λ k l. get_or-set_other sizes next (get_or order k 0) size 0 (before (get_or order k 0) (here k l))
        ∙ from_front (λ f. get_or sizes f 0 ≡ ended (s.inlined f)) s.done k l
        ∙ ap ended (sym (same_elsewhere s.inlined next exact (get_or order k 0) (before (get_or order k 0) (here k l))))))
        (get_or-set_same sizes next size 0 within ∙ is
        ∙ ap (λ n. ended (n + sum_by (λ call. get_or sizes call.callee 0) (calls_from graph next))) (s.rest next (λ c. before next c refl))
        ∙ sum_ended (get_or own next 0) (λ call. get_or sizes call.callee 0) (λ call. s.inlined call.callee) (calls_from graph next)
        (All-weaker (λ call. Contains (take i order) call.callee) (λ call. get_or sizes call.callee 0 ≡ ended (s.inlined call.callee))
        (λ call c. All-contains (λ f. get_or sizes f 0 ≡ ended (s.inlined f)) (take i order) call.callee s.done c)
        (calls_from graph next) (called_before graph order o i inside i (omega arith)))
        ∙ ap ended (sym (changed_there s.inlined next exact)));
    rest = λ f away.
        let front : take (i + 1) order ≡ take i order ++ next ∷ [] = take_more order i 0 inside in
        let not_next : f ≢ next = λ e. away (subst (λ xs. Contains xs f) (sym front) (subst (Contains (take i order ++ next ∷ [])) (sym e) (Contains-push (take i order) next))) in
        get_or-set_other sizes next f size 0 not_next
        ∙ s.rest f (λ c. away (subst (λ xs. Contains xs f) (sym front) (Contains-append_left (take i order) (next ∷ []) f c)));
  }

-- all sizes are inlined
pub all_inlined : (graph : List (Option (List PlacedCall))) (own order sizes : List ℕ) → IsOrderOf graph order → (i : ℕ) → length order ≤ i
    → (s : AreSo graph own order i sizes) → AreInlined graph own s.inlined × ((f : ℕ) → IsDefined graph f → get_or sizes f 0 ≡ ended (s.inlined f))
all_inlined graph own order sizes o i past s =
    let whole : take i order ≡ order = take_all i order past in
    let there : (f : ℕ) → IsDefined graph f → Contains (take i order) f =
    λ f d. subst (λ xs. Contains xs f) (sym whole) (contains_counted f order (let once = o.once f d in omega (arith, once))) in (
      λ f d. All-contains (λ f. s.inlined f ≡ get_or own f 0 + sum_by (λ call. s.inlined call.callee) (calls_from graph f)) (take i order) f s.grow (there f d),
      λ f d. All-contains (λ f. get_or sizes f 0 ≡ ended (s.inlined f)) (take i order) f s.done (there f d),
    )

-- ---- the numbers of the code

ended_map : (own : List ℕ) (f : ℕ) → get_or (map ended own) f 0 ≡ ended (get_or own f 0)
ended_map [] f = refl
ended_map (n ∷ own) zero = refl
ended_map (n ∷ own) (suc f) = ended_map own f

pub none_inlined : (graph : List (Option (List PlacedCall))) (own order sizes : List ℕ) → sizes ≡ map ended own → AreSo graph own order 0 sizes
none_inlined graph own order sizes e = record {
  size = ap length e ∙ length-map own ended;
  inlined = λ f. 0;
  grow = All-nil (λ f. 0 ≡ get_or own f 0 + sum_by (λ call. 0) (calls_from graph f));
  done = All-nil (λ f. get_or sizes f 0 ≡ ended 0);
  rest = λ f away. ap (λ xs. get_or xs f 0) e ∙ ended_map own f;
}

pub sum_placed : (sizes : List ℕ) (calls : List Call) → sum_by (λ (call : Call). get_or sizes call.callee 0) calls
    ≡ sum_by (λ (call : PlacedCall). get_or sizes call.callee 0) (map placed calls)
sum_placed sizes [] = refl
sum_placed sizes (call ∷ calls) =
    let left = sum_by-cons (λ (call : Call). get_or sizes call.callee 0) call calls in
    let right = sum_by-cons (λ (call : PlacedCall). get_or sizes call.callee 0) (placed call) (map placed calls) in
    let rest = sum_placed sizes calls in omega (arith, left, right, rest)
