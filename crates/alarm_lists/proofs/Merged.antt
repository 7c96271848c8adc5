-- How a list in order is made, alarm by alarm.
use Rattle.std.proofs.Common.{◌≡◌, ◌≢◌, ◌<◌, ◌+◌, ◌⊎◌, ⊎_elim, inl, inr, ℕ, zero, suc, Bool, false, List, [], ◌∷◌, ◌++◌, length, refl, sym, ap, subst, ◌∙◌, arith, get_or}
use Rattle.std.specs.Prelude.{All, AllPairs, Contains}
use Rattle.std.specs.Ordering.{is_lt, nat_cmp, ordering_reverse}
use Rattle.std.specs.Cmp.Lexicographic.{slice_cmp}
use Rattle.std.specs.List.Sorted.{IsPermutation, IsSortedBy}
use Rattle.std.specs.Cmp.{IsStrictWeakOrder}
use Rattle.std.specs.declared.cmp.Ordering.{Ordering}
use Rattle.std.specs.declared.cmp.Ordering.TheVariants.{Less, Equal, Greater}
use Rattle.std.proofs.lemmas.Cmp.{nat_list_cmp_total}
use Rattle.std.proofs.lemmas.List.{get_or_append_left, get_or_push, length-append}
use Rattle.std.proofs.lemmas.List.Elements.{All-contains, All-contains_itself, All-weaker, Contains-append_left, Contains-push, Contains-push_cases}
use Rattle.std.proofs.lemmas.List.Quantifiers.{all_pairs_push}
use Rattle.std.proofs.lemmas.List.Sorted.{Contains-permutation, IsPermutation-sym, length_permutation, IsStrictWeakOrder-flip, ranks_by, sorted_far}
use Rattle.c_syntax.specs.declared.alarm.Alarm.{Alarm}
use Rattle.c_syntax.specs.Admission.{IsProper}
use Rattle.c_steps.specs.Order.{IsBefore, Precedes, order_key}
use Rattle.csharp.specs.Trees.{CsProgramTree}
use Rattle.mem_shown.specs.Hulls.{AreOfOneForm}
use Rattle.alarm_claims.specs.Admitted.{Holds}
use Rattle.alarm_claims.specs.Wider.{Serves}
use Rattle.walk_owes.proofs.Alone.{never_last, only_last}
use Rattle.walk_owes.proofs.Entering.{nil_of}
use Rattle.walk_owes.proofs.Admits.{holds_both, holds_same}
use Rattle.alarm_lists.specs.Lists.{AreAlike, HaveOneForm, IsAdded, IsMadeOne, IsMerge, NamesOwn, order_of}
use Rattle.alarm_lists.proofs.Forms.{form_both, hull_form}
use Rattle.alarm_lists.proofs.Keys.{alike_of, before_both, before_of, key_of}

-- ---- alarms that serve

serves_same : (q : CsProgramTree) (x : Alarm) → Serves q x x
serves_same q x = record { chain = refl; place = refl; kind = refl; shows = λ o h. h; facts = All-contains_itself x.facts }

serves_both : (q : CsProgramTree) (x y z : Alarm) → Serves q x y → Serves q y z → Serves q x z
serves_both q x y z g h = record {
  chain = h.chain ∙ g.chain;
  place = h.place ∙ g.place;
  kind = h.kind ∙ g.kind;
  shows = λ o i. h.shows o (g.shows o i);
  facts = All-weaker (Contains y.facts) (Contains x.facts) (λ f c. All-contains (Contains x.facts) y.facts f g.facts c) z.facts h.facts;
}

-- ---- fronts of lists

module _ {A : Type 0} where
  pairs_front : (R : A → A → Type 0) (xs : List A) (y : A) → AllPairs R (xs ++ (y ∷ [])) → AllPairs R xs
  pairs_front R xs y h i j d l m =
      let r = h i j d l (omega (m, length-append xs (y ∷ []), arith)) in
      subst (λ z. R z (get_or xs j d)) (get_or_append_left xs (y ∷ []) d i (omega (l, m, arith)))
      (subst (λ z. R (get_or (xs ++ (y ∷ [])) i d) z) (get_or_append_left xs (y ∷ []) d j m) r)

  pairs_last : (R : A → A → Type 0) (xs : List A) (y : A) → AllPairs R (xs ++ (y ∷ [])) → (k : ℕ) (d : A) → k < length xs → R (get_or xs k d) y
  pairs_last R xs y h k d l =
      let r = h k (length xs) d l (omega (length-append xs (y ∷ []), arith)) in
      subst (λ z. R z y) (get_or_append_left xs (y ∷ []) d k l)
      (subst (λ z. R (get_or (xs ++ (y ∷ [])) k d) z) (get_or_push xs y d (length xs) refl) r)

  sorted_front : (lt : A → A → Bool) (xs : List A) (y : A) → IsSortedBy lt (xs ++ (y ∷ [])) → IsSortedBy lt xs
  sorted_front lt xs y h k d l m =
      let r = h k d l (omega (m, length-append xs (y ∷ []), arith)) in
      subst (λ z. lt z (get_or xs k d) ≡ false) (get_or_append_left xs (y ∷ []) d (k + 1) m)
      (subst (λ z. lt (get_or (xs ++ (y ∷ [])) (k + 1) d) z ≡ false) (get_or_append_left xs (y ∷ []) d k (omega (m, arith))) r)

  -- the last one stands behind no other in the order
  sorted_last : (lt : A → A → Bool) → IsStrictWeakOrder lt → (xs : List A) (y x : A) → IsSortedBy lt (xs ++ (y ∷ [])) → Contains xs x → lt y x ≡ false
  sorted_last lt o xs y x h c =
      let r = sorted_far lt o (xs ++ (y ∷ [])) h c.0 (length xs) x (omega (c.1, arith)) (omega (length-append xs (y ∷ []), arith)) in
      subst (λ z. lt y z ≡ false) (get_or_append_left xs (y ∷ []) x c.0 c.1 ∙ c.2)
      (subst (λ z. lt z (get_or (xs ++ (y ∷ [])) c.0 x) ≡ false) (get_or_push xs y x (length xs) refl) r)

  -- a list that has an item has a last one
  pub record Ends (xs : List A) : Type 0 where
    pub front : List A
    pub last : A
    pub is : xs ≡ front ++ (last ∷ [])

  ends : (xs : List A) → 0 < length xs → Ends xs
  ends [] l = absurd (omega (l, arith))
  ends (x ∷ []) l = record { front = []; last = x; is = refl }
  ends (x ∷ y ∷ xs) l = let e = ends (y ∷ xs) (omega arith) in record { front = x ∷ e.front; last = e.last; is = ap (λ z. x ∷ z) e.is }

below_or_last : (k n : ℕ) → k < n + 1 → (k < n) ⊎ (k ≡ n)
below_or_last k n l = grind arith

-- ---- the order

-- y stands before x
abbrev pub later : Alarm → Alarm → Bool
later x y = is_lt (order_of y x)

pub later_ranks : IsStrictWeakOrder later
later_ranks = IsStrictWeakOrder-flip (λ x y. is_lt (order_of x y)) (ranks_by nat_list_cmp_total order_key)

less_of : (o : Ordering) → is_lt (ordering_reverse o) ≡ false → o ≢ Equal → o ≡ Less
less_of Less h n = refl
less_of Equal h n = absurd (n refl)
less_of Greater h n = absurd (cc)

-- one that does not stand behind, and is not alike, stands before
precedes_of : (x y : Alarm) → is_lt (order_of y x) ≡ false → order_of x y ≢ Equal → Precedes x y
precedes_of x y h n =
    before_of (order_key x) (order_key y)
    (less_of (order_of x y) (subst (λ z. is_lt z ≡ false) (nat_list_cmp_total.antisymm (order_key y) (order_key x)) h) n)

precedes_both : (x y z : Alarm) → Precedes x y → Precedes y z → Precedes x z
precedes_both x y z g h = before_both (order_key x) (order_key y) (order_key z) g h

precedes_alike : (x y z : Alarm) → AreAlike y z → Precedes x y → Precedes x z
precedes_alike x y z a h = subst (λ k. IsBefore (order_key x) k) (key_of y z a) h

-- ---- merging

pub record Merging (alarms rest done : List Alarm) : Type 0 where
  pub among : (x : Alarm) → Contains rest x → Contains alarms x
  pub sorted : IsSortedBy later rest
  pub below : (x y : Alarm) → Contains done x → Contains rest y → is_lt (order_of y x) ≡ false
  pub form : HaveOneForm alarms → (x y : Alarm) → Contains done x → Contains alarms y → AreAlike x y → AreOfOneForm x.shown y.shown
  pub proper : (x : Alarm) → Contains done x → IsProper x.shown
  pub ordered : HaveOneForm alarms → AllPairs Precedes done
  pub serves : (q : CsProgramTree) (x : Alarm) → Contains alarms x → Contains rest x ⊎ ((y : Alarm) × Contains done y × Serves q x y)
  pub holds : (q : CsProgramTree) → All (NamesOwn q) alarms → (y : Alarm) → Contains done y → (x : Alarm) × Contains alarms x × Holds q x y

none_in : {P : Type 0} (x : Alarm) → Contains [] x → P
none_in x c = absurd (omega (c.1, arith))

pub merging_begins : (alarms rest : List Alarm) → IsPermutation alarms rest → IsSortedBy later rest → Merging alarms rest []
merging_begins alarms rest p s = record {
  among = λ x c. Contains-permutation rest alarms x (IsPermutation-sym alarms rest p) c;
  sorted = s;
  below = λ x y c d. none_in x c;
  form = λ one x y c d a. none_in x c;
  proper = λ x c. none_in x c;
  ordered = λ one i j d l m. absurd (omega (m, arith));
  serves = λ q x c. inl (Contains-permutation alarms rest x p c);
  holds = λ q n y c. none_in y c;
}

pub merging_ends : (alarms rest done : List Alarm) → length rest ≡ 0 → Merging alarms rest done → IsMadeOne alarms done
merging_ends alarms rest done l m = record {
  serves = λ q x c. ⊎_elim (λ n. absurd (omega (n.1, l, arith))) (λ r. r) (m.serves q x c);
  holds = m.holds;
  ordered = m.ordered;
}

module _ (alarms front : List Alarm) (x : Alarm) (done : List Alarm) (m : Merging alarms (front ++ (x ∷ [])) done) where
  own : Contains alarms x
  own = m.among x (Contains-push front x)

  front_of : (y : Alarm) → Contains front y → Contains (front ++ (x ∷ [])) y
  front_of y c = Contains-append_left front (x ∷ []) y c

  low : (y : Alarm) → Contains front y → is_lt (order_of y x) ≡ false
  low y c = sorted_last later later_ranks front x y m.sorted c

  module _ (apart : (before : List Alarm) (last : Alarm) → done ≡ before ++ (last ∷ []) → order_of last x ≡ Equal → AreOfOneForm last.shown x.shown → ⊥) where
    module _ (one : HaveOneForm alarms) where
      last_precedes : (e : Ends done) → Precedes e.last x
      last_precedes e =
          let there = subst (λ z. Contains z e.last) (sym e.is) (Contains-push e.front e.last) in
          precedes_of e.last x
          (m.below e.last x there (Contains-push front x))
          (λ same. apart e.front e.last e.is same (m.form one e.last x there own (alike_of e.last x same)))

      each_precedes : (e : Ends done) (k : ℕ) (d : Alarm) → k < length done → Precedes (get_or done k d) x
      each_precedes e k d l =
          ⊎_elim
          (λ (i : k < length e.front).
          let r = pairs_last Precedes e.front e.last (subst (λ z. AllPairs Precedes z) e.is (m.ordered one)) k d i in
          precedes_both (get_or done k d) e.last x
          (subst (λ z. Precedes z e.last) (sym (ap (λ z. get_or z k d) e.is ∙ get_or_append_left e.front (e.last ∷ []) d k i)) r) (last_precedes e))
          (λ (i : k ≡ length e.front).
          subst (λ z. Precedes z x) (sym (ap (λ z. get_or z k d) e.is ∙ get_or_push e.front e.last d k (sym i))) (last_precedes e))
          (below_or_last k (length e.front) (omega (l, ap length e.is, length-append e.front (e.last ∷ []), arith)))

    pub merging_pushed : ((y : Alarm) → Contains alarms y → IsProper y.shown) → Merging alarms front (done ++ (x ∷ []))
    merging_pushed proper = record {
      among = λ y c. m.among y (front_of y c);
      sorted = sorted_front later front x m.sorted;
      below = λ a y c d.
          ⊎_elim (λ i. m.below a y i (front_of y d)) (λ e. subst (λ z. is_lt (order_of y z) ≡ false) e (low y d)) (Contains-push_cases done x a c);
      form = λ one a y c d i.
          ⊎_elim (λ o. m.form one a y o d i) (λ e. one a y (subst (Contains alarms) e own) d i) (Contains-push_cases done x a c);
      proper = λ a c. ⊎_elim (λ o. m.proper a o) (λ e. proper a (subst (Contains alarms) e own)) (Contains-push_cases done x a c);
      ordered = λ one. all_pairs_push Precedes done x (m.ordered one) (λ k d l. each_precedes one (ends done (omega (l, arith))) k d l);
      serves = λ q a c.
          ⊎_elim
          (λ r. ⊎_elim inl (λ e. inr (x, Contains-push done x, subst (λ z. Serves q z x) e (serves_same q x))) (Contains-push_cases front x a r))
          (λ r. inr (r.0, Contains-append_left done (x ∷ []) r.0 r.1, r.2))
          (m.serves q a c);
      holds = λ q n y c.
          ⊎_elim (λ o. m.holds q n y o) (λ e. (x, own, subst (λ z. Holds q x z) e (holds_same q x))) (Contains-push_cases done x y c);
    }

module _ (alarms front : List Alarm) (x : Alarm) (done : List Alarm) (last both : Alarm)
    (m : Merging alarms (front ++ (x ∷ [])) (done ++ (last ∷ []))) (like : AreAlike last x) (merge : IsMerge last x both) where
  here : Contains (done ++ (last ∷ [])) last
  here = Contains-push done last

  old : (y : Alarm) → Contains done y → Contains (done ++ (last ∷ [])) y
  old y c = Contains-append_left done (last ∷ []) y c

  rest_of : (y : Alarm) → Contains front y → Contains (front ++ (x ∷ [])) y
  rest_of y c = Contains-append_left front (x ∷ []) y c

  pub merging_merged : Merging alarms front (done ++ (both ∷ []))
  merging_merged = record {
    among = λ y c. m.among y (rest_of y c);
    sorted = sorted_front later front x m.sorted;
    below = λ a y c d.
        ⊎_elim
        (λ i. m.below a y (old a i) (rest_of y d))
        (λ e. subst (λ z. is_lt (order_of y z) ≡ false) e
        (subst (λ k. is_lt (slice_cmp nat_cmp (order_key y) k) ≡ false) (key_of last both merge.alike) (m.below last y here (rest_of y d))))
        (Contains-push_cases done both a c);
    form = λ one a y c d i.
        ⊎_elim
        (λ o. m.form one a y (old a o) d i)
        (λ e. let like_both : AreAlike both y = subst (λ z. AreAlike z y) (sym e) i in
        subst (λ z. AreOfOneForm z.shown y.shown) e
        (form_both last.shown both.shown y.shown (hull_form last.shown x.shown both.shown merge.hull)
        (m.form one last y here d (merge.alike.0 ∙ like_both.0, merge.alike.1 ∙ like_both.1, merge.alike.2 ∙ like_both.2))))
        (Contains-push_cases done both a c);
    proper = λ a c. ⊎_elim (λ o. m.proper a (old a o)) (λ e. subst (λ z. IsProper z.shown) e merge.proper) (Contains-push_cases done both a c);
    ordered = λ one. all_pairs_push Precedes done both (pairs_front Precedes done last (m.ordered one))
        (λ k d l. precedes_alike (get_or done k d) last both merge.alike (pairs_last Precedes done last (m.ordered one) k d l));
    serves = λ q a c.
        ⊎_elim
        (λ r. ⊎_elim inl (λ e. inr (both, Contains-push done both, subst (λ z. Serves q z both) e (merge.second q))) (Contains-push_cases front x a r))
        (λ r. ⊎_elim
        (λ o. inr (r.0, Contains-append_left done (both ∷ []) r.0 o, r.2))
        (λ e. inr (
          both,
          Contains-push done both,
          serves_both q a last both (subst (λ z. Serves q a z) (sym e) r.2) (merge.first q),
        ))
        (Contains-push_cases done last r.0 r.1))
        (m.serves q a c);
    holds = λ q n y c.
        ⊎_elim
        (λ o. m.holds q n y (old y o))
        (λ e. let h = m.holds q n last here in
        let own_names = All-contains (NamesOwn q) alarms x n (m.among x (Contains-push front x)) in
        (h.0, h.1, subst (λ z. Holds q h.0 z) e (holds_both q h.0 last both h.2 (merge.holds q own_names))))
        (Contains-push_cases done both y c);
  }

-- one alarm is taken from the rest
pub merging_steps : (alarms front : List Alarm) (x : Alarm) (done now : List Alarm) → ((y : Alarm) → Contains alarms y → IsProper y.shown)
    → Merging alarms (front ++ (x ∷ [])) done → IsAdded done x now → Merging alarms front now
merging_steps alarms front x done now proper m h =
    ⊎_elim
    (λ a. subst (Merging alarms front) (sym a.1) (merging_pushed alarms front x done m a.0 proper))
    (λ a. subst (Merging alarms front) (sym a.5)
    (merging_merged alarms front x a.0 a.1 a.2 (subst (Merging alarms (front ++ (x ∷ []))) a.3 m) a.4.0 a.4.1))
    h

-- ---- lists of none and of one

-- what is left and what is done, of no alarm and of one
pub record Short (alarms rest done : List Alarm) : Type 0 where
  pub none : alarms ≡ [] → (rest ≡ []) × (done ≡ [])
  pub one : (x : Alarm) → alarms ≡ x ∷ [] → ((rest ≡ x ∷ []) × (done ≡ [])) ⊎ ((rest ≡ []) × (done ≡ x ∷ []))

one_in : (x y : Alarm) → Contains (x ∷ []) y → x ≡ y
one_in x y (zero, l, e) = e
one_in x y (suc n, l, e) = absurd (omega (l, arith))

only_of : (x : Alarm) (ys : List Alarm) → length ys ≡ 1 → ((y : Alarm) → Contains ys y → Contains (x ∷ []) y) → ys ≡ x ∷ []
only_of x [] e f = absurd (omega (e, arith))
only_of x (y ∷ []) e f = ap (λ z. z ∷ []) (sym (one_in x y (f y (0, omega arith, refl))))
only_of x (y ∷ z ∷ ys) e f = absurd (omega (e, arith))

added_alone : (done : List Alarm) (x : Alarm) (now : List Alarm) → IsAdded done x now → done ≡ [] → now ≡ x ∷ []
added_alone done x now a e = ⊎_elim (λ l. l.1 ∙ ap (λ d. d ++ (x ∷ [])) e) (λ r. absurd (never_last r.0 done r.1 r.3 e)) a

pub short_begins : (alarms rest : List Alarm) → IsPermutation alarms rest → Short alarms rest []
short_begins alarms rest p = record {
  none = λ e. (nil_of rest (length_permutation alarms rest p ∙ ap length e), refl);
  one = λ x e. inl (
    only_of x rest (length_permutation alarms rest p ∙ ap length e)
        (λ y c. subst (λ z. Contains z y) e (Contains-permutation rest alarms y (IsPermutation-sym alarms rest p) c)),
    refl,
  );
}

pub short_steps : (alarms front : List Alarm) (x : Alarm) (done now : List Alarm) → Short alarms (front ++ (x ∷ [])) done → IsAdded done x now → Short alarms front now
short_steps alarms front x done now s a = record {
  none = λ e. absurd (never_last front (front ++ (x ∷ [])) x refl (s.none e).0);
  one = λ y e. ⊎_elim
      (λ l. let o = only_last front (front ++ (x ∷ [])) x y refl l.0 in inr (o.0, added_alone done x now a l.1 ∙ ap (λ z. z ∷ []) o.1))
      (λ r. absurd (never_last front (front ++ (x ∷ [])) x refl r.0))
      (s.one y e);
}

pub short_none : (alarms rest done : List Alarm) → Short alarms rest done → alarms ≡ [] → done ≡ []
short_none alarms rest done s e = (s.none e).1

pub short_one : (alarms rest done : List Alarm) → length rest ≡ 0 → Short alarms rest done → (x : Alarm) → alarms ≡ x ∷ [] → done ≡ x ∷ []
short_one alarms rest done l s x e = ⊎_elim (λ a. absurd (omega (ap length a.0, l, arith))) (λ b. b.1) (s.one x e)
