-- A way that comes back to one of its functions closes a list of calls.
use Rattle.std.proofs.Common.{◌≡◌, ◌≢◌, inl, inr, ℕ, zero, suc, ◌<◌, List, [], ◌∷◌, ◌++◌, length, take, drop, Some, refl, sym, subst, ◌∙◌, arith}
use Rattle.std.specs.Prelude.{Option, All, AllPairs, Contains, slice_get}
use Rattle.std.proofs.lemmas.List.Kept.{AllPairs-cons}
use Rattle.std.proofs.lemmas.List.Elements.{All-nil, All-cons, All-push}
use Rattle.c_layout.specs.Calls.{PlacedCall, chain_end}
use Rattle.c_rules_calls.specs.Graph.{calls_from, IsWay, IsClosedList}
use Rattle.c_rules_calls.specs.Search.{AreGoing, callees, functions_of, IsAmong, AreApart}
use Rattle.c_rules_calls.specs.declared.search.Progress.{Progress}
use Rattle.c_rules_calls.proofs.Ways.{some_same, none_some, ends, going_pop}

pub contains_got : {A : Type 0} (xs : List A) (n : ℕ) (x : A) → slice_get xs n ≡ Some x → Contains xs x
contains_got (y ∷ ys) zero x e = (0, omega arith, some_same e)
contains_got (y ∷ ys) (suc n) x e = let rest = contains_got ys n x e in (suc rest.0, omega (arith, rest.1), rest.2)
contains_got [] n x e = absurd (none_some e)

pushed_some : (made : List PlacedCall) (call : PlacedCall) → 0 < length (made ++ call ∷ [])
pushed_some [] call = omega arith
pushed_some (m ∷ made) call = let rest = pushed_some made call in omega (arith, rest)

module _ (graph : List (Option (List PlacedCall))) where
  way_is : (p : List Progress) (f : ℕ) (made : List PlacedCall) → AreGoing graph p f made → IsWay graph f made
  way_is p f [] i = tt
  way_is p f (m ∷ made) i = (contains_got (calls_from graph f) i.0.n m i.0.call_is, way_is p m.callee made i.1)

  pub way_push : (f : ℕ) (made : List PlacedCall) (call : PlacedCall) → IsWay graph f made → Contains (calls_from graph (chain_end f made)) call
      → IsWay graph f (made ++ call ∷ [])
  way_push f [] call w c = (c, tt)
  way_push f (m ∷ made) call w c = (w.0, way_push m.callee made call w.1 c)

  way_from : (f : ℕ) (made : List PlacedCall) (k : ℕ) → IsWay graph f made → IsWay graph (chain_end f (take k made)) (drop k made)
  way_from f made zero w = w
  way_from f [] (suc k) w = tt
  way_from f (m ∷ made) (suc k) w = way_from m.callee made k w.1

apart_from : (f : ℕ) (made : List PlacedCall) (k : ℕ) → AreApart (functions_of f made) → AreApart (functions_of (chain_end f (take k made)) (drop k made))
apart_from f made zero a = a
apart_from f [] (suc k) a = a
apart_from f (m ∷ made) (suc k) a = apart_from m.callee made k a.1

end_of_all : (f : ℕ) (made : List PlacedCall) (k : ℕ) → chain_end (chain_end f (take k made)) (drop k made) ≡ chain_end f made
end_of_all f made zero = refl
end_of_all f [] (suc k) = refl
end_of_all f (m ∷ made) (suc k) = end_of_all m.callee made k

away : (made : List PlacedCall) (g : ℕ) → (IsAmong (callees made) g → ⊥) → All (λ call. g ≢ call.callee) made
away [] g n = All-nil (λ call. g ≢ call.callee)
away (m ∷ made) g n = All-cons (λ call. g ≢ call.callee) m made (λ e. n (inl (sym e))) (away made g (λ h. n (inr h)))

abbrev Differ : PlacedCall → PlacedCall → Type 0
Differ a b = a.callee ≢ b.callee

pairs : (made : List PlacedCall) (call : PlacedCall) → AreApart (callees made) → (IsAmong (callees made) call.callee → ⊥) → AllPairs Differ (made ++ call ∷ [])
pairs [] call a n = AllPairs-cons Differ call [] (All-nil (Differ call)) (λ i j d less inside. absurd (omega (arith, inside)))
pairs (m ∷ made) call a n =
    AllPairs-cons Differ m (made ++ call ∷ []) (All-push (Differ m) made call (away made m.callee a.0) (λ e. n (inl e)))
    (pairs made call a.1 (λ h. n (inr h)))

-- the way from where it meets the function of its next call, and this call
pub closes : (graph : List (Option (List PlacedCall))) (p : List Progress) (root : ℕ) (made : List PlacedCall) (call : PlacedCall) (k : ℕ)
    → AreGoing graph p root (made ++ call ∷ []) → AreApart (functions_of root made) → chain_end root (take k made) ≡ call.callee
    → IsClosedList graph (drop k made ++ call ∷ [])
closes graph p root made call k going apart meets =
    let both = going_pop graph p root made call going in
    let from = chain_end root (take k made) in
    let rest = apart_from root made k apart in
    let made_way = way_from graph root made k (way_is graph p root made both.0) in
    let last : Contains (calls_from graph (chain_end from (drop k made))) call =
    subst (λ f. Contains (calls_from graph f) call) (sym (end_of_all root made k))
    (contains_got (calls_from graph (chain_end root made)) both.1.n call both.1.call_is) in record {
      from = from;
      leads = way_push graph from (drop k made) call made_way last;
      closes = ends from (drop k made) call ∙ sym meets;
      some = pushed_some (drop k made) call;
      apart = pairs (drop k made) call rest.1 (λ h. rest.0 (subst (IsAmong (callees (drop k made))) (sym meets) h));
    }
