-- A way through calls, as it grows and shrinks at its end, where the progress of other functions changes.
use Rattle.std.proofs.Common.{◌≡◌, ◌≢◌, ◌⊎◌, inl, inr, ℕ, zero, suc, ◌<◌, ◌≤◌, List, [], ◌∷◌, ◌++◌, ◌-◌, map, length, get_or, set, take, drop, Some, None, refl, sym, subst, ap, ◌∙◌, arith, rules}
use Rattle.std.specs.Prelude.{Option, All, slice_get}
use Rattle.std.specs.List.{AllByRecursion}
use Rattle.std.proofs.lemmas.List.{get_or-set_same, get_or-set_other}
use Rattle.std.proofs.lemmas.List.Elements.{All-weaker, All-push, All-nil}
use Rattle.std.proofs.lemmas.Bool.{cases_eq}
use Rattle.c_layout.specs.Calls.{PlacedCall, chain_end}
use Rattle.c_rules_calls.specs.Placed.{placed}
use Rattle.c_rules_calls.specs.declared.call.Call.{Call}
use Rattle.c_rules_calls.specs.Graph.{calls_from, IsDefined}
use Rattle.c_rules_calls.specs.Search.{at, IsDone, HasGone, IsGoing, AreGoing, functions_of, IsAmong, AreApart, AreOnWay, IsUnderWay, IsAtCall}
use Rattle.c_rules_calls.specs.declared.search.Progress.{Progress}
use Rattle.c_rules_calls.specs.declared.search.Progress.TheVariants.{New, Open, Done}

-- ---- how far the search is with a function

open_done : {n : ℕ} → Open n ≡ Done → ⊥
open_done e = search rules

new_done : New ≡ Done → ⊥
new_done e = search rules

pub new_open : {n : ℕ} → New ≡ Open n → ⊥
new_open e = search rules

done_open : {n : ℕ} → Done ≡ Open n → ⊥
done_open e = search rules

-- ---- lists of numbers

pub among_last : (xs : List ℕ) (f : ℕ) → IsAmong (xs ++ f ∷ []) f
among_last [] f = inl refl
among_last (x ∷ xs) f = inr (among_last xs f)

pub among_front : (xs ys : List ℕ) (f : ℕ) → IsAmong xs f → IsAmong (xs ++ ys) f
among_front [] ys f h = absurd h
among_front (x ∷ xs) ys f (inl e) = inl e
among_front (x ∷ xs) ys f (inr h) = inr (among_front xs ys f h)

pub among_cases : (xs : List ℕ) (y f : ℕ) → IsAmong (xs ++ y ∷ []) f → IsAmong xs f ⊎ (y ≡ f)
among_cases [] y f (inl e) = inr e
among_cases [] y f (inr h) = absurd h
among_cases (x ∷ xs) y f (inl e) = inl (inl e)
among_cases (x ∷ xs) y f (inr h) = elim (among_cases xs y f h) [ inl g ↦ inl (inr g) | inr e ↦ inr e ]

pub apart_last : (xs : List ℕ) (y : ℕ) → AreApart xs → (IsAmong xs y → ⊥) → AreApart (xs ++ y ∷ [])
apart_last [] y a n = ((λ h. h), tt)
apart_last (x ∷ xs) y a n = (
  λ h. elim (among_cases xs y x h) [ inl g ↦ a.0 g | inr e ↦ n (inl (sym e)) ],
  apart_last xs y a.1 (λ h. n (inr h)),
)

pub apart_front : (xs : List ℕ) (y : ℕ) → AreApart (xs ++ y ∷ []) → AreApart xs
apart_front [] y a = tt
apart_front (x ∷ xs) y a = (λ h. a.0 (among_front xs (y ∷ []) x h), apart_front xs y a.1)

-- ---- ways

pub some_same : {A : Type 0} {x y : A} → Some x ≡ Some y → x ≡ y
some_same e = cc

pub none_some : {A : Type 0} {x : A} → None ≡ Some x → ⊥
none_some e = search rules

within_list : {A : Type 0} (xs : List A) (n : ℕ) (x : A) → slice_get xs n ≡ Some x → suc n ≤ length xs
within_list (y ∷ ys) zero x e = omega arith
within_list (y ∷ ys) (suc n) x e = let rest = within_list ys n x e in omega (arith, rest)
within_list [] n x e = absurd (none_some e)

taken_more : {A : Type 0} (xs : List A) (n : ℕ) (x : A) → slice_get xs n ≡ Some x → take (suc n) xs ≡ take n xs ++ x ∷ []
taken_more (y ∷ ys) zero x e = ap (λ z. z ∷ []) (some_same e)
taken_more (y ∷ ys) (suc n) x e = ap (λ rest. y ∷ rest) (taken_more ys n x e)
taken_more [] n x e = absurd (none_some e)

done_more : (p : List Progress) (calls : List PlacedCall) (n : ℕ) (call : PlacedCall) → slice_get calls n ≡ Some call
    → All (λ before. IsDone p before.callee) (take n calls) → IsDone p call.callee → All (λ before. IsDone p before.callee) (take (suc n) calls)
done_more p calls n call e all d =
    subst (All (λ before. IsDone p before.callee)) (sym (taken_more calls n call e)) (All-push (λ before. IsDone p before.callee) (take n calls) call all d)

all_push : (P : ℕ → Type 0) (xs : List ℕ) (y : ℕ) → AllByRecursion P xs → P y → AllByRecursion P (xs ++ y ∷ [])
all_push P [] y a h = (h, tt)
all_push P (x ∷ xs) y a h = (a.0, all_push P xs y a.1 h)

all_front : (P : ℕ → Type 0) (xs : List ℕ) (y : ℕ) → AllByRecursion P (xs ++ y ∷ []) → AllByRecursion P xs
all_front P [] y a = tt
all_front P (x ∷ xs) y a = (a.0, all_front P xs y a.1)

not_among : (xs : List ℕ) (y : ℕ) → AreApart (xs ++ y ∷ []) → IsAmong xs y → ⊥
not_among [] y a h = absurd h
not_among (x ∷ xs) y a (inl e) = a.0 (subst (IsAmong (xs ++ y ∷ [])) (sym e) (among_last xs y))
not_among (x ∷ xs) y a (inr h) = not_among xs y a.1 h

last_of : (P : ℕ → Type 0) (xs : List ℕ) (y : ℕ) → AllByRecursion P (xs ++ y ∷ []) → P y
last_of P [] y a = a.0
last_of P (x ∷ xs) y a = last_of P xs y a.1

pub ends : (f : ℕ) (made : List PlacedCall) (call : PlacedCall) → chain_end f (made ++ call ∷ []) ≡ call.callee
ends f [] call = refl
ends f (m ∷ made) call = ends m.callee made call

pub functions_push : (f : ℕ) (made : List PlacedCall) (call : PlacedCall) → functions_of f (made ++ call ∷ []) ≡ functions_of f made ++ call.callee ∷ []
functions_push f [] call = refl
functions_push f (m ∷ made) call = ap (λ rest. f ∷ rest) (functions_push m.callee made call)

-- the last function is one of the way
pub end_among : (f : ℕ) (made : List PlacedCall) → IsAmong (functions_of f made) (chain_end f made)
end_among f [] = inl refl
end_among f (m ∷ made) = inr (end_among m.callee made)

module _ (graph : List (Option (List PlacedCall))) where
  -- progress that differs at one function alone, which was not done
  pub record IsChanged (p q : List Progress) (g : ℕ) : Type 0 where
    pub same : (f : ℕ) → f ≢ g → at q f ≡ at p f
    pub undone : IsDone p g → ⊥

  pub done_stays : (p q : List Progress) (g : ℕ) → IsChanged p q g → (f : ℕ) → IsDone p f → IsDone q f
  done_stays p q g c f d = c.same f (λ e. c.undone (subst (IsDone p) e d)) ∙ d

  all_done : (p q : List Progress) (g : ℕ) → IsChanged p q g → (calls : List PlacedCall) → All (λ call. IsDone p call.callee) calls
      → All (λ call. IsDone q call.callee) calls
  all_done p q g c calls = All-weaker (λ call. IsDone p call.callee) (λ call. IsDone q call.callee) (λ call d. done_stays p q g c call.callee d) calls

  going_stays : (p q : List Progress) (g : ℕ) → IsChanged p q g → (f : ℕ) (call : PlacedCall) → f ≢ g → IsGoing graph p f call → IsGoing graph q f call
  going_stays p q g c f call n i = record {
    n = i.n;
    is_open = c.same f n ∙ i.is_open;
    call_is = i.call_is;
    done = all_done p q g c (take i.n (calls_from graph f)) i.done;
  }

  -- a change at a function that the way has not, or has last alone
  pub goings_stay : (p q : List Progress) (g : ℕ) → IsChanged p q g → (f : ℕ) (made : List PlacedCall)
      → (AreApart (functions_of f made)) → (IsAmong (functions_of f made) g → g ≡ chain_end f made)
      → AreGoing graph p f made → AreGoing graph q f made
  goings_stay p q g c f [] a l i = tt
  goings_stay p q g c f (m ∷ made) a l i = (
    going_stays p q g c f m (λ e. a.0 (subst (IsAmong (functions_of m.callee made)) (sym (e ∙ l (inl e))) (end_among m.callee made))) i.0,
    goings_stay p q g c m.callee made a.1 (λ h. l (inr h)) i.1,
  )

  pub going_push : (p : List Progress) (f : ℕ) (made : List PlacedCall) (call : PlacedCall)
      → AreGoing graph p f made → IsGoing graph p (chain_end f made) call → AreGoing graph p f (made ++ call ∷ [])
  going_push p f [] call i g = (g, tt)
  going_push p f (m ∷ made) call i g = (i.0, going_push p m.callee made call i.1 g)

  pub going_pop : (p : List Progress) (f : ℕ) (made : List PlacedCall) (call : PlacedCall)
      → AreGoing graph p f (made ++ call ∷ []) → AreGoing graph p f made × IsGoing graph p (chain_end f made) call
  going_pop p f [] call i = (tt, i.0)
  going_pop p f (m ∷ made) call i = let rest = going_pop p m.callee made call i.1 in ((i.0, rest.0), rest.1)

  -- each function of a way is gone through
  pub way_is_open : (p : List Progress) (f : ℕ) (made : List PlacedCall) (n : ℕ) → AreGoing graph p f made → at p (chain_end f made) ≡ Open n
      → (g : ℕ) → IsAmong (functions_of f made) g → (k : ℕ) × (at p g ≡ Open k)
  way_is_open p f [] n i e g (inl same) = (n, subst (λ x. at p x ≡ Open n) same e)
  way_is_open p f [] n i e g (inr h) = absurd h
  way_is_open p f (m ∷ made) n i e g (inl same) = (suc i.0.n, subst (λ x. at p x ≡ Open (suc i.0.n)) same i.0.is_open)
  way_is_open p f (m ∷ made) n i e g (inr h) = way_is_open p m.callee made n i.1 e g h

  gone_means : (p : List Progress) (f : ℕ) (n : ℕ) → at p f ≡ Open n → IsDone p f → ⊥
  gone_means p f n e d = open_done (sym e ∙ d)

  -- one function's progress is set
  pub changed : (p : List Progress) (g n : ℕ) (new : Progress) → at p g ≡ Open n → IsChanged p (set p g new) g
  changed p g n new e = record { same = λ f ne. get_or-set_other p g f new New ne; undone = gone_means p g n e }

  pub changed_new : (p : List Progress) (g : ℕ) (new : Progress) → at p g ≡ New → IsChanged p (set p g new) g
  changed_new p g new e = record { same = λ f ne. get_or-set_other p g f new New ne; undone = λ d. new_done (sym e ∙ d) }

  -- what is open after a change was open before it, or is what changed
  opened_before : (p q : List Progress) (g : ℕ) → IsChanged p q g → (f n : ℕ) → at q f ≡ Open n → (at p f ≡ Open n) ⊎ (f ≡ g)
  opened_before p q g c f n e = elim (cases_eq f g) [ inl same ↦ inr same | inr other ↦ inl (sym (c.same f other) ∙ e) ]

  -- the next call of the last function is looked at
  pub comes_to : (p : List Progress) (root : ℕ) (made : List PlacedCall) (u : IsUnderWay graph p root made) (call : PlacedCall)
      → chain_end root made < length p → slice_get (calls_from graph (chain_end root made)) u.next ≡ Some call
      → IsAtCall graph (set p (chain_end root made) (Open (suc u.next))) root made call
  comes_to p root made u call inside is =
      let g = chain_end root made in
      let q = set p g (Open (suc u.next)) in
      let c : IsChanged p q g = changed p g u.next (Open (suc u.next)) u.gone.is_open in record {
        going = going_push q root made call (goings_stay p q g c root made u.way.apart (λ h. refl) u.going) (record {
          n = u.next;
          is_open = get_or-set_same p g (Open (suc u.next)) New inside;
          call_is = is;
          done = all_done p q g c (take u.next (calls_from graph g)) u.gone.done;
        });
        way = record {
          apart = u.way.apart;
          all = λ f n e. elim (opened_before p q g c f n e) [
            | inl before ↦ u.way.all f n before
            | inr same ↦ subst (IsAmong (functions_of root made)) (sym same) (end_among root made)
          ];
          defined = u.way.defined;
        };
      }

  -- what the call calls is done already
  pub passes : (p : List Progress) (root : ℕ) (made : List PlacedCall) (call : PlacedCall)
      → IsAtCall graph p root made call → IsDone p call.callee → IsUnderWay graph p root made
  passes p root made call a d =
      let both = going_pop p root made call a.going in record {
        going = both.0;
        next = suc both.1.n;
        gone = record {
          is_open = both.1.is_open;
          within = within_list (calls_from graph (chain_end root made)) both.1.n call both.1.call_is;
          done = done_more p (calls_from graph (chain_end root made)) both.1.n call both.1.call_is both.1.done d;
        };
        way = a.way;
      }

  -- what the call calls was not come to yet
  pub enters : (p : List Progress) (root : ℕ) (made : List PlacedCall) (call : PlacedCall)
      → IsAtCall graph p root made call → at p call.callee ≡ New → call.callee < length p → IsDefined graph call.callee
      → IsUnderWay graph (set p call.callee (Open 0)) root (made ++ call ∷ [])
  enters p root made call a new inside defined =
      let g = call.callee in
      let q = set p g (Open 0) in
      let c : IsChanged p q g = changed_new p g (Open 0) new in
      let both = going_pop p root made call a.going in
      let apart : AreApart (functions_of root made ++ g ∷ []) =
      apart_last (functions_of root made) g a.way.apart
      (λ h. let is = way_is_open p root made (suc both.1.n) both.0 both.1.is_open g h in new_open (sym new ∙ is.1)) in
      let all : (f n : ℕ) → at q f ≡ Open n → IsAmong (functions_of root made ++ g ∷ []) f =
      λ f n e. elim (opened_before p q g c f n e) [
        | inl before ↦ among_front (functions_of root made) (g ∷ []) f (a.way.all f n before)
        | inr same ↦ subst (IsAmong (functions_of root made ++ g ∷ [])) (sym same) (among_last (functions_of root made) g)
      ] in record {
        going = goings_stay p q g c root (made ++ call ∷ []) (subst AreApart (sym (functions_push root made call)) apart) (λ h. sym (ends root made call)) a.going;
        next = 0;
        gone = subst (λ x. HasGone graph q x 0) (sym (ends root made call)) (record {
          is_open = get_or-set_same p g (Open 0) New inside;
          within = omega arith;
          done = All-nil (λ before. IsDone q before.callee);
        });
        way = subst (AreOnWay graph q) (sym (functions_push root made call)) (record {
          apart = apart;
          all = all;
          defined = all_push (IsDefined graph) (functions_of root made) g a.way.defined defined;
        });
      }

  -- all that the last function calls is done, and so is the function
  pub goes_back : (p : List Progress) (root : ℕ) (made : List PlacedCall) (call : PlacedCall) (u : IsUnderWay graph p root (made ++ call ∷ []))
      → call.callee < length p → IsUnderWay graph (set p call.callee Done) root made
  goes_back p root made call u inside =
      let g = call.callee in
      let q = set p g Done in
      let is : at p g ≡ Open u.next = ap (at p) (sym (ends root made call)) ∙ u.gone.is_open in
      let c : IsChanged p q g = changed p g u.next Done is in
      let both = going_pop p root made call u.going in
      let way : AreOnWay graph p (functions_of root made ++ g ∷ []) = subst (AreOnWay graph p) (functions_push root made call) u.way in
      let away : IsAmong (functions_of root made) g → ⊥ = not_among (functions_of root made) g way.apart in
      let now : IsDone q g = get_or-set_same p g Done New inside in
      let last = going_stays p q g c (chain_end root made) call (λ e. away (subst (IsAmong (functions_of root made)) e (end_among root made))) both.1 in record {
        going = goings_stay p q g c root made (apart_front (functions_of root made) g way.apart) (λ h. absurd (away h)) both.0;
        next = suc last.n;
        gone = record {
          is_open = last.is_open;
          within = within_list (calls_from graph (chain_end root made)) last.n call last.call_is;
          done = done_more q (calls_from graph (chain_end root made)) last.n call last.call_is last.done now;
        };
        way = record {
          apart = apart_front (functions_of root made) g way.apart;
          all = λ f n e. elim (opened_before p q g c f n e) [
            | inl before ↦ elim (among_cases (functions_of root made) g f (way.all f n before)) [
              | inl h ↦ h
              | inr same ↦ absurd (done_open (sym now ∙ ap (at q) same ∙ e))
            ]
            | inr same ↦ absurd (done_open (sym now ∙ ap (at q) (sym same) ∙ e))
          ];
          defined = all_front (IsDefined graph) (functions_of root made) g way.defined;
        };
      }

  -- the function from which the search went out is done, and nothing is open
  pub ends_here : (p : List Progress) (root : ℕ) (u : IsUnderWay graph p root []) → root < length p
      → (f n : ℕ) → at (set p root Done) f ≡ Open n → ⊥
  ends_here p root u inside f n e =
      let q = set p root Done in
      let c : IsChanged p q root = changed p root u.next Done u.gone.is_open in
      let now : IsDone q root = get_or-set_same p root Done New inside in
      let here : (f ≡ root) → ⊥ = λ same. absurd (done_open (sym now ∙ ap (at q) (sym same) ∙ e)) in
      elim (opened_before p q root c f n e) [
        | inl before ↦ elim (u.way.all f n before) [ inl same ↦ here (sym same) | inr none ↦ none ]
        | inr same ↦ here same
      ]

  -- the search goes out from a function that was not come to
  pub begins : (p : List Progress) (root : ℕ) → at p root ≡ New → root < length p → IsDefined graph root → ((f n : ℕ) → at p f ≡ Open n → ⊥)
      → IsUnderWay graph (set p root (Open 0)) root []
  begins p root new inside defined closed =
      let q = set p root (Open 0) in
      let c : IsChanged p q root = changed_new p root (Open 0) new in record {
        going = tt;
        next = 0;
        gone = record { is_open = get_or-set_same p root (Open 0) New inside; within = omega arith; done = All-nil (λ before. IsDone q before.callee) };
        way = record {
          apart = ((λ h. h), tt);
          all = λ f n e. elim (opened_before p q root c f n e) [ inl before ↦ absurd (closed f n before) | inr same ↦ inl (sym same) ];
          defined = (defined, tt);
        };
      }

end_is_last : (calls : List Call) (n f : ℕ) (last : Call) → suc n ≡ length calls → slice_get calls n ≡ Some last
    → last.callee ≡ chain_end f (map placed calls)
end_is_last [] n f last h e = absurd (none_some e)
end_is_last (only ∷ []) zero f last h e = ap (λ (c : Call). c.callee) (sym (some_same e))
end_is_last (only ∷ []) (suc n) f last h e = absurd (omega (arith, h))
end_is_last (call ∷ next ∷ calls) zero f last h e = absurd (omega (arith, h))
end_is_last (call ∷ next ∷ calls) (suc n) f last h e = end_is_last (next ∷ calls) n call.callee last (omega (arith, h)) e

pub end_of_last : (calls : List Call) (f : ℕ) (last : Call) → slice_get calls (length calls - 1) ≡ Some last → last.callee ≡ chain_end f (map placed calls)
end_of_last [] f last e = absurd (none_some e)
end_of_last (call ∷ calls) f last e = end_is_last (call ∷ calls) (length (call ∷ calls) - 1) f last (omega arith) e

-- a way that comes to a function comes to it later than where it has another
pub comes_later : (items : List Call) (i root last function : ℕ) (d : Call) → i < length items → chain_end root (take i (map placed items)) ≡ last
    → IsAmong (functions_of last (drop i (map placed items))) function → (last ≡ function → ⊥)
    → (chain_end root (take (suc i) (map placed items)) ≡ (get_or items i d).callee)
    × IsAmong (functions_of (get_or items i d).callee (drop (suc i) (map placed items))) function
comes_later [] i root last function d less e h n = absurd (omega (arith, less))
comes_later (call ∷ items) zero root last function d less e h n = (refl, elim h [ inl same ↦ absurd (n same) | inr later ↦ later ])
comes_later (call ∷ items) (suc i) root last function d less e h n = comes_later items i call.callee last function d (omega (arith, less)) e h n
