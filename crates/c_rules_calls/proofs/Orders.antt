-- The order of what is done, as it grows.
use Rattle.std.proofs.Common.{◌≡◌, ◌≢◌, inl, inr, ℕ, zero, suc, ◌+◌, ◌<◌, cond, List, [], ◌∷◌, ◌++◌, length, take, refl, sym, subst, ap, ◌∙◌, arith}
use Rattle.std.specs.Prelude.{Option, All, Contains, count_by, ◌==◌}
use Rattle.std.proofs.lemmas.List.{take-append-le, take_at}
use Rattle.std.proofs.lemmas.List.Elements.{All-weaker, All-push, All-head, All-tail}
use Rattle.std.proofs.lemmas.Bool.{cases_eq}
use Rattle.std.proofs.lemmas.List.Sums.{sum_by-cons, sum_by_push}
use Rattle.c_layout.specs.Calls.{PlacedCall}
use Rattle.c_layout.specs.WellTyped.{EachOf}
use Rattle.c_rules_calls.specs.Graph.{calls_from, IsDefined}
use Rattle.c_rules_calls.specs.Search.{IsDone, AreOrdered}
use Rattle.c_rules_calls.specs.declared.search.Progress.{Progress}
use Rattle.c_rules_calls.proofs.Ways.{IsChanged, done_stays}

each_push : {A : Type 0} (P : ℕ → A → Type 0) (xs : List A) (y : A) → EachOf xs P → P (length xs) y → EachOf (xs ++ y ∷ []) P
each_push P [] y h e zero = e
each_push P [] y h e (suc k) = tt
each_push P (x ∷ xs) y h e zero = h zero
each_push P (x ∷ xs) y h e (suc k) = each_push (λ k. P (suc k)) xs y (λ k. h (suc k)) e k

each_weaker : {A : Type 0} (P Q : ℕ → A → Type 0) (xs : List A) → ((k : ℕ) (x : A) → k < length xs → P k x → Q k x) → EachOf xs P → EachOf xs Q
each_weaker P Q [] f h k = tt
each_weaker P Q (x ∷ xs) f h zero = f zero x (omega arith) (h zero)
each_weaker P Q (x ∷ xs) f h (suc k) =
    each_weaker (λ k. P (suc k)) (λ k. Q (suc k)) xs (λ k x less. f (suc k) x (omega (arith, less))) (λ k. h (suc k)) k

-- how often a number stands in a list
abbrev pub times : ℕ → List ℕ → ℕ
times f xs = count_by (λ x. x == f) xs

abbrev pub one_if : ℕ → ℕ → ℕ
one_if f x = cond (x == f) 1 0

other_one : (f x : ℕ) → x ≢ f → one_if f x ≡ 0
other_one f x n = grind (arith, n)

pub same_one : (f : ℕ) → one_if f f ≡ 1
same_one f = grind arith

times_push_other : (f : ℕ) (xs : List ℕ) (y : ℕ) → y ≢ f → times f (xs ++ y ∷ []) ≡ times f xs
times_push_other f xs y n =
    let pushed = sum_by_push (λ x. cond (x == f) 1 0) xs y in
    let none = other_one f y n in omega (arith, pushed, none)

times_push_same : (f : ℕ) (xs : List ℕ) → times f (xs ++ f ∷ []) ≡ times f xs + 1
times_push_same f xs =
    let pushed = sum_by_push (λ x. cond (x == f) 1 0) xs f in
    let one = same_one f in omega (arith, pushed, one)

pub times_none : (P : ℕ → Type 0) (f : ℕ) (xs : List ℕ) → All P xs → (P f → ⊥) → times f xs ≡ 0
times_none P f [] all n = refl
times_none P f (x ∷ xs) all n =
    let cons = sum_by-cons (λ x. cond (x == f) 1 0) x xs in
    let none = other_one f x (λ e. n (subst P e (All-head P x xs all))) in
    let rest = times_none P f xs (All-tail P x xs all) n in omega (arith, cons, none, rest)

contains_cons : (x : ℕ) (xs : List ℕ) (f : ℕ) → Contains xs f → Contains (x ∷ xs) f
contains_cons x xs f c = (suc c.0, omega (arith, c.1), c.2)

pub contains_counted : (f : ℕ) (xs : List ℕ) → 0 < times f xs → Contains xs f
contains_counted f [] h = absurd (omega (arith, h))
contains_counted f (x ∷ xs) h = elim (cases_eq x f) [
  | inl e ↦ (0, omega arith, e)
  | inr other ↦ (
      let cons = sum_by-cons (λ x. cond (x == f) 1 0) x xs in
      let none = other_one f x other in contains_cons x xs f (contains_counted f xs (omega (arith, h, cons, none))))
]

module _ (graph : List (Option (List PlacedCall))) where
  -- what is done stands in the order
  pub in_order : (p : List Progress) (order : List ℕ) → AreOrdered graph p order → (f : ℕ) → IsDone p f → Contains order f
  in_order p order o f d = contains_counted f order (let once = o.once f d in omega (arith, once))

  -- a change at what is not done then
  pub order_stays : (p q : List Progress) (g : ℕ) (order : List ℕ) → IsChanged graph p q g → (IsDone q g → ⊥) → length q ≡ length p
      → AreOrdered graph p order → AreOrdered graph q order
  order_stays p q g order c undone same o = record {
    sizes = same ∙ o.sizes;
    done = All-weaker (IsDone p) (IsDone q) (λ f d. done_stays graph p q g c f d) order o.done;
    once = λ f d. o.once f (sym (c.same f (λ e. undone (subst (IsDone q) e d))) ∙ d);
    defined = o.defined;
    callees_first = o.callees_first;
  }

  -- one function is done, after all that it calls
  pub order_grows : (p q : List Progress) (g : ℕ) (order : List ℕ) → IsChanged graph p q g → IsDone q g → length q ≡ length p
      → IsDefined graph g → All (λ call. IsDone p call.callee) (calls_from graph g)
      → AreOrdered graph p order → AreOrdered graph q (order ++ g ∷ [])
  order_grows p q g order c now same defined called o =
      let none : times g order ≡ 0 = times_none (IsDone p) g order o.done c.undone in record {
        sizes = same ∙ o.sizes;
        done = All-push (IsDone q) order g (All-weaker (IsDone p) (IsDone q) (λ f d. done_stays graph p q g c f d) order o.done) now;
        once = λ f d. elim (cases_eq g f) [
          | inl e ↦ subst (λ x. times x (order ++ g ∷ []) ≡ 1) e (times_push_same g order ∙ ap (λ n. n + 1) none)
          | inr other ↦ times_push_other f order g other ∙ o.once f (sym (c.same f (λ e. other (sym e))) ∙ d)
        ];
        defined = All-push (IsDefined graph) order g o.defined defined;
        callees_first = each_push (λ k f. All (λ call. Contains (take k (order ++ g ∷ [])) call.callee) (calls_from graph f)) order g
            (each_weaker (λ k f. All (λ call. Contains (take k order) call.callee) (calls_from graph f))
            (λ k f. All (λ call. Contains (take k (order ++ g ∷ [])) call.callee) (calls_from graph f)) order
            (λ k f less all. subst (λ front. All (λ call. Contains front call.callee) (calls_from graph f))
            (sym (take-append-le k order (g ∷ []) (omega (arith, less)))) all)
            o.callees_first)
            (subst (λ front. All (λ call. Contains front call.callee) (calls_from graph g)) (sym (take_at order (g ∷ []) (length order) refl))
            (All-weaker (λ call. IsDone p call.callee) (λ call. Contains order call.callee) (λ call d. in_order p order o call.callee d)
            (calls_from graph g) called));
      }
