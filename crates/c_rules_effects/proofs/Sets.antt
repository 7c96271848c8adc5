-- What is kept of touches tells what they meet.
use Rattle.std.proofs.Common.{◌≡◌, ◌⊎◌, inl, inr, ℕ, zero, suc, ◌+◌, ◌<◌, Bool, true, false, cond, ◌&&◌, ◌||◌, List, [], ◌∷◌, ◌++◌, length, get_or, take, MatchBool, refl, sym, subst, ap, ◌∙◌, arith}
use Rattle.std.specs.Prelude.{◌==◌, Contains, Err, Ok, OnOk, Result}
use Rattle.std.specs.List.{filter, list_any}
use Rattle.std.proofs.lemmas.List.{get_or_default, take_more}
use Rattle.std.proofs.lemmas.List.Folds.{Any-from_list_any, list_any-from_Any, list_any-append}
use Rattle.std.proofs.lemmas.List.Elements.{Contains-append_left, Contains-append_right, Contains-append_cases, Contains-push, Contains-push_cases, filter-append}
use Rattle.c_rules_effects.specs.declared.touch.Part.{Part}
use Rattle.c_rules_effects.specs.declared.touch.Touch.{Touch}
use Rattle.c_rules_effects.specs.declared.touch.Touch.TheVariants.{Mem, Object}
use Rattle.c_rules_effects.specs.Met.{begins, met}
use Rattle.c_rules_effects.specs.Held.{Adds, HasSame, Holds, Keeps, group_of, is_mem, is_of}
use Rattle.c_rules_effects.specs.declared.touch_set.TouchSet.{TouchSet}
use Rattle.c_rules_effects.proofs.Tests.{number_same, same_number, not_true}

-- ---- members of lists

both_ways : (a b : Bool) → (a ≡ true → b ≡ true) → (b ≡ true → a ≡ true) → a ≡ b
both_ways true b f g = sym (f refl)
both_ways false true f g = g refl
both_ways false false f g = refl

-- a test is true of one of two lists that have the same where it is of the other
some_also : (p : Touch → Bool) (xs ys : List Touch) → ((t : Touch) → Contains xs t → Contains ys t) → list_any p xs ≡ true → list_any p ys ≡ true
some_also p xs ys into e =
    let one = Any-from_list_any p xs e in
    let there = into one.1 (one.0, one.2, one.3) in
    list_any-from_Any p ys (there.0, one.1, there.1, there.2, one.4)

pub any_same : (p : Touch → Bool) (xs ys : List Touch) → HasSame xs ys → list_any p xs ≡ list_any p ys
any_same p xs ys same = both_ways (list_any p xs) (list_any p ys) (some_also p xs ys (λ t. (same t).0)) (some_also p ys xs (λ t. (same t).1))

in_one : (y x : Touch) → Contains (y ∷ []) x → y ≡ x
in_one y x (zero, less, e) = e
in_one y x (suc k, less, e) = absurd (omega (arith, less))

kept_in : (b : Bool) (y x : Touch) (rest : List Touch) → Contains rest x → Contains (cond b (y ∷ rest) rest) x
kept_in true y x rest c = Contains-append_right (y ∷ []) rest x c
kept_in false y x rest c = c

from_kept : (b : Bool) (y x : Touch) (rest : List Touch) → Contains (cond b (y ∷ rest) rest) x → (y ≡ x) ⊎ Contains rest x
from_kept true y x rest c = elim (Contains-append_cases (y ∷ []) rest x c) [ inl h ↦ inl (in_one y x h) | inr h ↦ inr h ]
from_kept false y x rest c = inr c

head_kept : (b : Bool) (y x : Touch) (rest : List Touch) → b ≡ true → y ≡ x → Contains (cond b (y ∷ rest) rest) x
head_kept true y x rest e same = (0, omega arith, same)
head_kept false y x rest e same = absurd (cc)

module _ (p : Touch → Bool) where
  into_filter : (xs : List Touch) (x : Touch) → p x ≡ true → Contains xs x → Contains (filter p xs) x
  into_filter [] x passes (k, less, e) = absurd (omega (arith, less))
  into_filter (y ∷ xs) x passes c = elim (Contains-append_cases (y ∷ []) xs x c) [
    | inl h ↦ head_kept (p y) y x (filter p xs) (ap p (in_one y x h) ∙ passes) (in_one y x h)
    | inr h ↦ kept_in (p y) y x (filter p xs) (into_filter xs x passes h)
  ]

  out_of_filter : (xs : List Touch) (x : Touch) → Contains (filter p xs) x → Contains xs x
  out_of_filter [] x c = c
  out_of_filter (y ∷ xs) x c = elim (from_kept (p y) y x (filter p xs) c) [
    | inl e ↦ (0, omega arith, e)
    | inr h ↦ Contains-append_right (y ∷ []) xs x (out_of_filter xs x h)
  ]

-- ---- what a touch of an object meets

absorbed : (t m g : Bool) → t || ((m && t) || g) ≡ t || g
absorbed true m g = refl
absorbed false true g = refl
absorbed false false g = refl

past_mem : (h m t g : Bool) → h || ((m && t) || g) ≡ (m && t) || (h || g)
past_mem true true true g = refl
past_mem true true false g = refl
past_mem true false t g = refl
past_mem false m t g = refl

module _ (taken : List Bool) (n : ℕ) (path : List Part) where
  one_more : (m : ℕ) (other : List Part) (rest : List Touch) (b : Bool) → (m == n) ≡ b
      → list_any (met taken (Object n path)) rest
      ≡ (list_any is_mem rest && get_or taken n false) || list_any (met taken (Object n path)) (filter (is_of n) rest)
      → met taken (Object n path) (Object m other) || list_any (met taken (Object n path)) rest
      ≡ (list_any is_mem rest && get_or taken n false)
      || list_any (met taken (Object n path)) (cond b (Object m other ∷ filter (is_of n) rest) (filter (is_of n) rest))
  one_more m other rest true e before =
      ap (λ a. met taken (Object n path) (Object m other) || a) before
      ∙ past_mem (met taken (Object n path) (Object m other)) (list_any is_mem rest) (get_or taken n false)
      (list_any (met taken (Object n path)) (filter (is_of n) rest))
  one_more m other rest false e before =
      let apart : (n == m) ≡ false = not_true (n == m) (λ h. absurd_by (sym e ∙ same_number m n (sym (number_same n m h)))) in
      ap (λ a. (a && (begins path other || begins other path)) || list_any (met taken (Object n path)) rest) apart ∙ before where
        absurd_by : false ≡ true → ⊥
        absurd_by h = cc

  pub met_by_group : (kept : List Touch) → list_any (met taken (Object n path)) kept
      ≡ (list_any is_mem kept && get_or taken n false) || list_any (met taken (Object n path)) (filter (is_of n) kept)
  met_by_group [] = refl
  met_by_group (Mem ∷ rest) =
      ap (λ a. get_or taken n false || a) (met_by_group rest)
      ∙ absorbed (get_or taken n false) (list_any is_mem rest) (list_any (met taken (Object n path)) (filter (is_of n) rest))
  met_by_group (Object m other ∷ rest) = one_more m other rest (m == n) refl (met_by_group rest)

-- ---- the whole set

-- what is had in a group is had at all
pub in_group : (n : ℕ) (path : List Part) (kept : List Touch) (b : Bool)
    → MatchBool b (Contains (filter (is_of n) kept) (Object n path)) (Contains (filter (is_of n) kept) (Object n path) → ⊥)
    → MatchBool b (Contains kept (Object n path)) (Contains kept (Object n path) → ⊥)
in_group n path kept true h = out_of_filter (is_of n) kept (Object n path) h
in_group n path kept false h = λ c. h (into_filter (is_of n) kept (Object n path) (same_number n n refl) c)

-- the same of touches as of those that are kept
pub in_same : (b : Bool) (kept touches : List Touch) (t : Touch) → HasSame kept touches → MatchBool b (Contains kept t) (Contains kept t → ⊥)
    → MatchBool b (Contains touches t) (Contains touches t → ⊥)
in_same true kept touches t same h = (same t).0 h
in_same false kept touches t same h = λ c. h ((same t).1 c)

-- whether Mem is had
pub mem_had : (kept : List Touch) → MatchBool (list_any is_mem kept) (Contains kept Mem) (Contains kept Mem → ⊥)
mem_had [] = λ (k, less, e). omega (arith, less)
mem_had (Mem ∷ rest) = (0, omega arith, refl)
mem_had (Object n path ∷ rest) = shifted (list_any is_mem rest) (mem_had rest) where
  other : Object n path ≡ Mem → ⊥
  other e = cc

  shifted : (b : Bool) → MatchBool b (Contains rest Mem) (Contains rest Mem → ⊥)
      → MatchBool b (Contains (Object n path ∷ rest) Mem) (Contains (Object n path ∷ rest) Mem → ⊥)
  shifted true h = Contains-append_right (Object n path ∷ []) rest Mem h
  shifted false h = λ c. elim (Contains-append_cases (Object n path ∷ []) rest Mem c) [ inl one ↦ other (in_one (Object n path) Mem one) | inr more ↦ h more ]

pub none_held : (set : TouchSet) (taken : List Bool) → set.has_mem ≡ false → set.meets_mem ≡ false → ((n : ℕ) → group_of set n ≡ []) → Holds set taken []
none_held set taken a b c = record { kept = []; keeps = record { has_mem = a; meets_mem = b; groups = c }; same = λ t. (λ h. h, λ h. h) }

-- a touch that is had already
pub held_again : (set : TouchSet) (taken : List Bool) (touches : List Touch) (t : Touch) → Holds set taken touches → Contains touches t
    → Holds set taken (touches ++ t ∷ [])
held_again set taken touches t h c = record {
  kept = h.kept;
  keeps = h.keeps;
  same = λ u. (
    λ k. Contains-append_left touches (t ∷ []) u ((h.same u).0 k),
    λ k. elim (Contains-push_cases touches t u k) [ inl old ↦ (h.same u).1 old | inr e ↦ (h.same u).1 (subst (Contains touches) e c) ],
  );
}

-- one that is put in
pub held_more : (before after : TouchSet) (taken : List Bool) (touches : List Touch) (t : Touch) → Holds before taken touches
    → ((kept : List Touch) → Keeps before taken kept → Keeps after taken (kept ++ t ∷ [])) → Holds after taken (touches ++ t ∷ [])
held_more before after taken touches t h put = record {
  kept = h.kept ++ t ∷ [];
  keeps = put h.kept h.keeps;
  same = λ u. (
    λ k. elim (Contains-push_cases h.kept t u k) [
      | inl old ↦ Contains-append_left touches (t ∷ []) u ((h.same u).0 old)
      | inr e ↦ subst (Contains (touches ++ t ∷ [])) e (Contains-push touches t)
    ],
    λ k. elim (Contains-push_cases touches t u k) [
      | inl old ↦ Contains-append_left h.kept (t ∷ []) u ((h.same u).1 old)
      | inr e ↦ subst (Contains (h.kept ++ t ∷ [])) e (Contains-push h.kept t)
    ],
  );
}

pub insert_more : {E : Type 0} (before after : TouchSet) (taken : List Bool) (t : Touch) (r : Result (Unit {0}) E)
    → OnOk r ((kept : List Touch) → Keeps before taken kept → Keeps after taken (kept ++ t ∷ []))
    → OnOk r ((touches : List Touch) → Holds before taken touches → Holds after taken (touches ++ t ∷ []))
insert_more before after taken t (Ok u) put = λ touches h. held_more before after taken touches t h put
insert_more before after taken t (Err e) put = tt

last_false : (b : Bool) → b || false ≡ b
last_false true = refl
last_false false = refl

or_last : (b : Bool) → b || true ≡ true
or_last true = refl
or_last false = refl

any_push : (p : Touch → Bool) (kept : List Touch) (t : Touch) → list_any p (kept ++ t ∷ []) ≡ list_any p kept || p t
any_push p kept t = list_any-append p kept (t ∷ []) ∙ ap (λ b. list_any p kept || b) (last_false (p t))

-- Mem is put in
pub keeps_mem : (before after : TouchSet) (taken : List Bool) (kept : List Touch) → Keeps before taken kept → after.has_mem ≡ true
    → after.meets_mem ≡ before.meets_mem || true → ((n : ℕ) → group_of after n ≡ group_of before n) → Keeps after taken (kept ++ Mem ∷ [])
keeps_mem before after taken kept k has to same = record {
  has_mem = has ∙ sym (any_push is_mem kept Mem ∙ or_last (list_any is_mem kept));
  meets_mem = to ∙ ap (λ b. b || true) k.meets_mem ∙ sym (any_push (met taken Mem) kept Mem);
  groups = λ n. same n ∙ k.groups n ∙ sym (filter-append (is_of n) kept (Mem ∷ []) ∙ append_none (filter (is_of n) kept));
} where
  append_none : (xs : List Touch) → xs ++ [] ≡ xs
  append_none [] = refl
  append_none (x ∷ xs) = ap (λ rest. x ∷ rest) (append_none xs)

-- a touch of an object is put in
pub keeps_object : (before after : TouchSet) (taken : List Bool) (kept : List Touch) (n : ℕ) (path : List Part) → Keeps before taken kept
    → after.has_mem ≡ before.has_mem → after.meets_mem ≡ before.meets_mem || met taken Mem (Object n path)
    → group_of after n ≡ group_of before n ++ Object n path ∷ [] → ((m : ℕ) → (m ≡ n → ⊥) → group_of after m ≡ group_of before m)
    → Keeps after taken (kept ++ Object n path ∷ [])
keeps_object before after taken kept n path k has to here elsewhere = record {
  has_mem = has ∙ k.has_mem ∙ sym (any_push is_mem kept (Object n path) ∙ last_false (list_any is_mem kept));
  meets_mem = to ∙ ap (λ b. b || met taken Mem (Object n path)) k.meets_mem ∙ sym (any_push (met taken Mem) kept (Object n path));
  groups = λ m. group m (n == m) refl;
} where
  absurd_by : false ≡ true → ⊥
  absurd_by h = cc

  append_none : (xs : List Touch) → xs ++ [] ≡ xs
  append_none [] = refl
  append_none (x ∷ xs) = ap (λ rest. x ∷ rest) (append_none xs)

  group : (m : ℕ) (b : Bool) → (n == m) ≡ b → group_of after m ≡ filter (is_of m) (kept ++ Object n path ∷ [])
  group m true e =
      let same : n ≡ m = number_same n m e in
      subst (λ (x : ℕ). group_of after x ≡ filter (is_of x) (kept ++ Object n path ∷ [])) same
      (here ∙ ap (λ xs. xs ++ Object n path ∷ []) (k.groups n)
      ∙ sym (filter-append (is_of n) kept (Object n path ∷ []) ∙ ap (λ b. filter (is_of n) kept ++ cond b (Object n path ∷ []) []) (same_number n n refl)))
  group m false e =
      elsewhere m (λ h. absurd_by (sym e ∙ same_number n m (sym h))) ∙ k.groups m
      ∙ sym (filter-append (is_of m) kept (Object n path ∷ []) ∙ ap (λ b. filter (is_of m) kept ++ cond b (Object n path ∷ []) []) e
      ∙ append_none (filter (is_of m) kept))

-- ---- what calls tell

pub mem_told : (set : TouchSet) (taken : List Bool) (touches : List Touch) (t : Touch) → Holds set taken touches → t ≡ Mem
    → MatchBool set.has_mem (Contains touches t) (Contains touches t → ⊥)
mem_told set taken touches t h e =
    in_same set.has_mem h.kept touches t h.same
    (subst (λ (u : Touch). MatchBool set.has_mem (Contains h.kept u) (Contains h.kept u → ⊥)) (sym e)
    (subst (λ b. MatchBool b (Contains h.kept Mem) (Contains h.kept Mem → ⊥)) (sym h.keeps.has_mem) (mem_had h.kept)))

pub object_told : (set : TouchSet) (taken : List Bool) (touches group : List Touch) (t : Touch) (n : ℕ) (path : List Part) (b : Bool) → Holds set taken touches
    → t ≡ Object n path → group ≡ group_of set n → MatchBool b (Contains group t) (Contains group t → ⊥)
    → MatchBool b (Contains touches t) (Contains touches t → ⊥)
object_told set taken touches group t n path b h e g told =
    in_same b h.kept touches t h.same
    (subst (λ (u : Touch). MatchBool b (Contains h.kept u) (Contains h.kept u → ⊥)) (sym e)
    (in_group n path h.kept b
    (subst (λ (u : Touch). MatchBool b (Contains (filter (is_of n) h.kept) u) (Contains (filter (is_of n) h.kept) u → ⊥)) e
    (subst (λ xs. MatchBool b (Contains xs t) (Contains xs t → ⊥)) (g ∙ h.keeps.groups n) told))))

pub mem_meets : (set : TouchSet) (taken : List Bool) (touches : List Touch) (t : Touch) → Holds set taken touches → t ≡ Mem
    → set.meets_mem ≡ list_any (met taken t) touches
mem_meets set taken touches t h e = h.keeps.meets_mem ∙ any_same (met taken Mem) h.kept touches h.same ∙ ap (λ u. list_any (met taken u) touches) (sym e)

pub object_meets : (set : TouchSet) (taken : List Bool) (touches group : List Touch) (t : Touch) (n : ℕ) (path : List Part) (b : Bool) → Holds set taken touches
    → t ≡ Object n path → group ≡ group_of set n → b ≡ (set.has_mem && met taken t Mem) → (b || list_any (met taken t) group) ≡ list_any (met taken t) touches
object_meets set taken touches group t n path b h e g is =
    ap (λ x. x || list_any (met taken t) group) is
    ∙ ap (λ u. (set.has_mem && met taken u Mem) || list_any (met taken u) group) e
    ∙ ap (λ m. (m && get_or taken n false) || list_any (met taken (Object n path)) group) h.keeps.has_mem
    ∙ ap (λ xs. (list_any is_mem h.kept && get_or taken n false) || list_any (met taken (Object n path)) xs) (g ∙ h.keeps.groups n)
    ∙ sym (met_by_group taken n path h.kept)
    ∙ any_same (met taken (Object n path)) h.kept touches h.same
    ∙ ap (λ u. list_any (met taken u) touches) (sym e)

-- ---- groups, touch by touch

pub not_yet : (group : List Touch) (i : ℕ) (other touch : Touch) → i < length group → other ≡ get_or group i other
    → (Contains (take i group) touch → ⊥) → (other ≡ touch → ⊥) → Contains (take (i + 1) group) touch → ⊥
not_yet group i other touch less is before here c =
    elim (Contains-push_cases (take i group) other touch
    (subst (λ xs. Contains xs touch) (take_more group i other less ∙ ap (λ x. take i group ++ x ∷ []) (sym is)) c)) [
      | inl old ↦ before old
      | inr same ↦ here same
    ]

pub had_here : (group : List Touch) (i : ℕ) (other touch : Touch) → i < length group → other ≡ get_or group i other → other ≡ touch → Contains group touch
had_here group i other touch less is same = (i, less, get_or_default group i touch other less ∙ sym is ∙ same)

-- ---- lists in which no touch stands twice

pub adds_new : (before inside after : List Touch) (copy touch : Touch) → inside ≡ before → after ≡ inside ++ copy ∷ [] → copy ≡ touch → Adds before touch after
adds_new before inside after copy touch view now same t =
    let is : after ≡ before ++ touch ∷ [] = now ∙ ap (λ xs. xs ++ copy ∷ []) view ∙ ap (λ u. before ++ u ∷ []) same in (
      λ c. Contains-push_cases before touch t (subst (λ xs. Contains xs t) is c),
      λ h. subst (λ xs. Contains xs t) (sym is) (elim h [
        | inl old ↦ Contains-append_left before (touch ∷ []) t old
        | inr e ↦ subst (Contains (before ++ touch ∷ [])) e (Contains-push before touch)
      ]),
    )

pub adds_old : (list : List Touch) (touch : Touch) → Contains list touch → Adds list touch list
adds_old list touch c t = (λ h. inl h, λ h. elim h [ inl old ↦ old | inr e ↦ subst (Contains list) e c ])
