-- The scopes of a formed program are separate: each object stands in one scope, and calls lead down.
use Rattle.std.proofs.Common.{◌≡◌, ◌<◌, ◌≤◌, ◌+◌, ◌⊎◌, inl, inr, ℕ, zero, suc, List, [], ◌∷◌, ◌++◌, length, Option, Some, None, Bool, true, false, if◌then◌else◌, refl, sym, ap, ◌∙◌, subst, arith}
use Rattle.std.specs.Prelude.{ℤ, All, Contains, IfSome, IsSomeAnd, IsTrue, IsSome, is_some, slice_get}
use Rattle.std.specs.List.{flat_map}
use Rattle.std.proofs.lemmas.List.Elements.{All-contains, Contains-append_cases, Contains-append_left, Contains-append_right}
use Rattle.std.proofs.lemmas.Bool.{cases_lt}
use Rattle.c_syntax.specs.Types.{ObjectTree}
use Rattle.c_values.specs.Places.{place_of}
use Rattle.c_layout.specs.WellTyped.{EachOf}
use Rattle.c_objects.specs.Lifetimes.{AreDistinct}
use Rattle.c_objects.proofs.Listed.{by_sum, contains_flat, distinct, one_is, listed_times, none_in, part_times, times, times_append, times_listed, two_times}
use Rattle.c_objects.proofs.Starts.{start_only}
use Rattle.csharp.specs.Trees.{CsStmtTree, Nothing, Set, Load, Store, CopyBytes, Undefine, Checked, Input, Assume, Sequence, If, Loop, Block, Exit}
use Rattle.csharp.specs.Trees.{Scope, Switch, Goto, Call, Return, Label, Case, Default, CsStmtTrees, none, more, CsFunctionTree, CsProgramTree}
use Rattle.csharp.specs.States.{State, first}
use Rattle.csharp.specs.Outcomes.{Outcome, Clash, or_stuck}
use Rattle.csharp.specs.Formed.{Around, in_block, in_items, nothing_around, Each, EachItem, label_of, gathered, gathered_in, objects_of, scoped, IsScoped, AreNumbersThere, LeadsDown, AreCallsFounded, IsFormed}
use Rattle.csharp.specs.Meaning.{exec, never, run}
use Rattle.csharp_laws.specs.LeftAlone.{calls_of, May, Itself, ByCall}
use Rattle.csharp_laws.specs.Separate.{objects_within, IsApart, IsScopeApart, IsSeparate, FormedIsSeparate, FormedRunsNeverClash}
use Rattle.csharp_laws.proofs.Clash.{no_clash}

-- ---- what holds of each statement's own numbers holds of all that are gathered

module _ (P : Around → CsStmtTree → Type 0) (of : CsStmtTree → List ℕ) (Q : ℕ → Type 0)
    (own : (around : Around) (a : CsStmtTree) → P around a → (x : ℕ) → Contains (of a) x → Q x) where
  two : (xs ys : List ℕ) → ((x : ℕ) → Contains xs x → Q x) → ((x : ℕ) → Contains ys x → Q x) → (x : ℕ) → Contains (xs ++ ys) x → Q x
  two xs ys f g x c = by_sum (Contains-append_cases xs ys x c) (f x) (g x)

  mutual
    pub each_gathered : (around : Around) (a : CsStmtTree) → Each P around a → (x : ℕ) → Contains (gathered of a) x → Q x
    each_gathered around (Sequence a b) (h, first, second) =
        two (of (Sequence a b) ++ gathered of a) (gathered of b)
        (two (of (Sequence a b)) (gathered of a) (own around (Sequence a b) h) (each_gathered around a first)) (each_gathered around b second)
    each_gathered around (If e a b) (h, first, second) =
        two (of (If e a b) ++ gathered of a) (gathered of b)
        (two (of (If e a b)) (gathered of a) (own around (If e a b) h) (each_gathered around a first)) (each_gathered around b second)
    each_gathered around (Loop at a) (h, inner) = two (of (Loop at a)) (gathered of a) (own around (Loop at a) h) (each_gathered around a inner)
    each_gathered around (Block a) (h, inner) = two (of (Block a)) (gathered of a) (own around (Block a) h) (each_gathered (in_block around) a inner)
    each_gathered around (Scope xs all) (h, inner) =
        two (of (Scope xs all)) (gathered_in of all) (own around (Scope xs all) h) (each_gathered_in (in_items xs all around) all inner)
    each_gathered around (Switch e xs all) (h, inner) =
        two (of (Switch e xs all)) (gathered_in of all) (own around (Switch e xs all) h) (each_gathered_in (in_items xs all around) all inner)
    each_gathered around Nothing h = own around Nothing h
    each_gathered around (Set k e) h = own around (Set k e) h
    each_gathered around (Load k ty e) h = own around (Load k ty e) h
    each_gathered around (Store ty e f) h = own around (Store ty e f) h
    each_gathered around (CopyBytes n to from) h = own around (CopyBytes n to from) h
    each_gathered around (Undefine y) h = own around (Undefine y) h
    each_gathered around (Checked c) h = own around (Checked c) h
    each_gathered around (Input k t) h = own around (Input k t) h
    each_gathered around (Assume e) h = own around (Assume e) h
    each_gathered around (Exit n) h = own around (Exit n) h
    each_gathered around (Goto label) h = own around (Goto label) h
    each_gathered around (Call c) h = own around (Call c) h
    each_gathered around (Return e) h = own around (Return e) h
    each_gathered around (Label at n) h = own around (Label at n) h
    each_gathered around (Case n) h = own around (Case n) h
    each_gathered around Default h = own around Default h

    each_gathered_in : (around : Around) (all : CsStmtTrees) → EachItem P around all → (x : ℕ) → Contains (gathered_in of all) x → Q x
    each_gathered_in around none h = λ x c. absurd (none_in x c)
    each_gathered_in around (more item rest) (h, others) =
        two (gathered of item) (gathered_in of rest) (each_gathered around item h) (each_gathered_in around rest others)

some_there : {A : Type 0} (xs : List A) (k : ℕ) → k < length xs → slice_get xs k ≡ None → ⊥
some_there [] k lt e = absurd (omega (arith, lt))
some_there (x ∷ xs) zero lt e = absurd (cc)
some_there (x ∷ xs) (suc k) lt e = some_there xs k (omega (arith, lt)) e

down_own : (rank : ℕ → ℕ) (f : ℕ) (around : Around) (a : CsStmtTree) → LeadsDown rank f a → (g : ℕ) → Contains (calls_of a) g → rank g < rank f
down_own rank f around (Call c) h g m = subst (λ z. rank z < rank f) (one_is g c.function m) h
down_own rank f around Nothing h g m = absurd (none_in g m)
down_own rank f around (Set k e) h g m = absurd (none_in g m)
down_own rank f around (Load k ty e) h g m = absurd (none_in g m)
down_own rank f around (Store ty e e') h g m = absurd (none_in g m)
down_own rank f around (CopyBytes n to from) h g m = absurd (none_in g m)
down_own rank f around (Undefine y) h g m = absurd (none_in g m)
down_own rank f around (Checked c) h g m = absurd (none_in g m)
down_own rank f around (Input k t) h g m = absurd (none_in g m)
down_own rank f around (Assume e) h g m = absurd (none_in g m)
down_own rank f around (Sequence a b) h g m = absurd (none_in g m)
down_own rank f around (If e a b) h g m = absurd (none_in g m)
down_own rank f around (Loop at a) h g m = absurd (none_in g m)
down_own rank f around (Block a) h g m = absurd (none_in g m)
down_own rank f around (Exit n) h g m = absurd (none_in g m)
down_own rank f around (Scope xs all) h g m = absurd (none_in g m)
down_own rank f around (Switch e xs all) h g m = absurd (none_in g m)
down_own rank f around (Goto label) h g m = absurd (none_in g m)
down_own rank f around (Return e) h g m = absurd (none_in g m)
down_own rank f around (Label at n) h g m = absurd (none_in g m)
down_own rank f around (Case n) h g m = absurd (none_in g m)
down_own rank f around Default h g m = absurd (none_in g m)

-- what a body calls has a lower rank
pub calls_below : (q : CsProgramTree) (founded : AreCallsFounded q) (f : ℕ) (function : CsFunctionTree) → slice_get q.functions f ≡ Some function
    → (g : ℕ) → Contains (gathered calls_of function.body) g → founded.rank g < founded.rank f
calls_below q founded f function is =
    each_gathered (λ around a. LeadsDown founded.rank f a) calls_of (λ g. founded.rank g < founded.rank f) (down_own founded.rank f) nothing_around function.body
    (subst (λ o. IfSome o (λ g. Each (λ around a. LeadsDown founded.rank f a) nothing_around g.body)) is (founded.down f))

-- ---- a formed program

module _ (q : CsProgramTree) (formed : IsFormed q) where
  abbrev rank : ℕ → ℕ
  rank = formed.calls.rank

  calls_down : (f : ℕ) (function : CsFunctionTree) → slice_get q.functions f ≡ Some function
      → (g : ℕ) → Contains (gathered calls_of function.body) g → rank g < rank f
  calls_down f function is = calls_below q formed.calls f function is

  at_function : (P : ℕ → CsFunctionTree → Type 0) (f : ℕ) (function : CsFunctionTree) → EachOf q.functions P → slice_get q.functions f ≡ Some function → P f function
  at_function P f function each is = subst (λ o. IfSome o (P f)) is (each f)

  -- objects that are opened are there
  opened_there : (f : ℕ) (function : CsFunctionTree) → slice_get q.functions f ≡ Some function
      → (x : ℕ) → Contains (objects_within function) x → x < length q.objects
  opened_there f function is =
      each_gathered (AreNumbersThere q (gathered label_of function.body)) objects_of (λ x. x < length q.objects) (λ around a there x c. All-contains (λ y. y < length q.objects) (objects_of a) x there.2 c) nothing_around function.body
      (at_function (λ k g. Each (AreNumbersThere q (gathered label_of g.body)) nothing_around g.body) f function formed.numbers is)

  -- an object is opened once at most
  bounded : (b : Bool) (n : ℕ) → n ≤ (if b then 0 else 1) → n ≤ 1
  bounded true n h = omega (arith, h)
  bounded false n h = h

  once_there : (x : ℕ) (o : Option ObjectTree) → slice_get q.objects x ≡ o → (x < length q.objects) → times x (scoped q) ≤ 1
  once_there x None is lt = absurd (some_there q.objects x lt is)
  once_there x (Some o) is lt = bounded o.is_static (times x (scoped q)) (subst (λ z. IfSome z (IsScoped q x)) is (formed.scopes x))

  once : (f : ℕ) (function : CsFunctionTree) → slice_get q.functions f ≡ Some function → (x : ℕ) → Contains (objects_within function) x → times x (scoped q) ≤ 1
  once f function is x c = once_there x (slice_get q.objects x) refl (opened_there f function is x c)

  -- an object that calls of lower rank may open stands in a function of lower rank
  record Below (x bound : ℕ) : Type 0 where
    number : ℕ
    function : CsFunctionTree
    is : slice_get q.functions number ≡ Some function
    lower : rank number < bound
    has : Contains (objects_within function) x

  in_callee : (x g bound : ℕ) (function : CsFunctionTree) → slice_get q.functions g ≡ Some function → rank g < bound
      → Contains (objects_within function) x ⊎ Below x (rank g) → Below x bound
  in_callee x g bound function is lt (inl c) = record { number = g; function = function; is = is; lower = lt; has = c }
  in_callee x g bound function is lt (inr b) =
      let less = b.lower in record { number = b.number; function = b.function; is = b.is; lower = omega (arith, less, lt); has = b.has }

  below : (x bound : ℕ) (own calls : List ℕ) → ((g : ℕ) → Contains calls g → rank g < bound) → May q objects_within x own calls
      → Contains own x ⊎ Below x bound
  below x bound own calls down (Itself _ _ c) = inl c
  below x bound own calls down (ByCall _ _ g function c is m) =
      inr (in_callee x g bound function is (down g c)
      (below x (rank g) (objects_within function) (gathered calls_of function.body) (calls_down g function is) m))

  module _ (f : ℕ) (function : CsFunctionTree) (is : slice_get q.functions f ≡ Some function) where
    -- a part of the body opens no more than it, and calls no more
    record Inside (own calls : List ℕ) : Type 0 where
      opens : (x : ℕ) → times x own ≤ times x (objects_within function)
      calls_lower : (g : ℕ) → Contains calls g → rank g < rank f

    listed_once : (own : List ℕ) → ((x : ℕ) → times x own ≤ times x (objects_within function)) → (x : ℕ) → times x own ≤ 1
    listed_once own opens x = counted (cases_lt 0 (times x own))
      where
        counted : (0 < times x own) ⊎ (times x own ≤ 0) → times x own ≤ 1
        counted (inl lt) =
            let less = opens x in
            let all = part_times objects_within x q.functions f function is in
            let most = once f function is x (times_listed x (objects_within function) (omega (arith, lt, less))) in
            omega (arith, less, all, most)
        counted (inr le) = omega (arith, le)

    -- what stands below stands elsewhere
    elsewhere : (x : ℕ) → 1 ≤ times x (objects_within function) → Below x (rank f) → ⊥
    elsewhere x here b =
        let lower = b.lower in
        let other : f ≡ b.number → ⊥ = λ e. let same : rank f ≡ rank b.number = ap rank e in absurd (omega (arith, lower, same)) in
        let both = two_times objects_within x q.functions f b.number function b.function other is b.is in
        let there = listed_times x (objects_within b.function) b.has in
        let most = once b.number b.function b.is x b.has in
        omega (arith, here, both, there, most)

    apart : (xs : List ℕ) (all : CsStmtTrees) → Inside (xs ++ gathered_in objects_of all) (gathered_in calls_of all) → IsApart q xs all
    apart xs all h = record {
      distinct = distinct xs (λ x. let sum = times_append x xs (gathered_in objects_of all) in
          let most = listed_once (xs ++ gathered_in objects_of all) h.opens x in omega (arith, sum, most));
      once = λ x c m. again x c (below x (rank f) (gathered_in objects_of all) (gathered_in calls_of all) h.calls_lower m);
    }
      where
        again : (x : ℕ) → Contains xs x → Contains (gathered_in objects_of all) x ⊎ Below x (rank f) → ⊥
        again x c (inl d) =
            let sum = times_append x xs (gathered_in objects_of all) in
            let most = listed_once (xs ++ gathered_in objects_of all) h.opens x in
            let one = listed_times x xs c in
            let two_of = listed_times x (gathered_in objects_of all) d in
            omega (arith, sum, most, one, two_of)
        again x c (inr b) =
            let sum = times_append x xs (gathered_in objects_of all) in
            let less = h.opens x in
            let one = listed_times x xs c in
            elsewhere x (omega (arith, sum, less, one)) b

    left_part : (xs ys cs ds : List ℕ) → Inside (xs ++ ys) (cs ++ ds) → Inside xs cs
    left_part xs ys cs ds h = record {
      opens = λ x. let sum = times_append x xs ys in let less = h.opens x in omega (arith, sum, less);
      calls_lower = λ g c. h.calls_lower g (Contains-append_left cs ds g c);
    }

    right_part : (xs ys cs ds : List ℕ) → Inside (xs ++ ys) (cs ++ ds) → Inside ys ds
    right_part xs ys cs ds h = record {
      opens = λ x. let sum = times_append x xs ys in let less = h.opens x in omega (arith, sum, less);
      calls_lower = λ g c. h.calls_lower g (Contains-append_right cs ds g c);
    }

    mutual
      each_apart : (around : Around) (a : CsStmtTree) → Inside (gathered objects_of a) (gathered calls_of a) → Each (IsScopeApart q) around a
      each_apart around (Sequence a b) h = (
        tt,
        each_apart around a (left_part (gathered objects_of a) (gathered objects_of b) (gathered calls_of a) (gathered calls_of b) h),
        each_apart around b (right_part (gathered objects_of a) (gathered objects_of b) (gathered calls_of a) (gathered calls_of b) h),
      )
      each_apart around (If e a b) h = (
        tt,
        each_apart around a (left_part (gathered objects_of a) (gathered objects_of b) (gathered calls_of a) (gathered calls_of b) h),
        each_apart around b (right_part (gathered objects_of a) (gathered objects_of b) (gathered calls_of a) (gathered calls_of b) h),
      )
      each_apart around (Loop at a) h = (tt, each_apart around a (record { opens = h.opens; calls_lower = h.calls_lower }))
      each_apart around (Block a) h = (tt, each_apart (in_block around) a (record { opens = h.opens; calls_lower = h.calls_lower }))
      each_apart around (Scope xs all) h =
          let inner : Inside (xs ++ gathered_in objects_of all) (gathered_in calls_of all) = record { opens = h.opens; calls_lower = h.calls_lower } in
          (apart xs all inner, each_apart_in (in_items xs all around) all (right_part xs (gathered_in objects_of all) [] (gathered_in calls_of all) inner))
      each_apart around (Switch e xs all) h =
          let inner : Inside (xs ++ gathered_in objects_of all) (gathered_in calls_of all) = record { opens = h.opens; calls_lower = h.calls_lower } in
          (apart xs all inner, each_apart_in (in_items xs all around) all (right_part xs (gathered_in objects_of all) [] (gathered_in calls_of all) inner))
      each_apart around Nothing h = tt
      each_apart around (Set k e) h = tt
      each_apart around (Load k ty e) h = tt
      each_apart around (Store ty e e') h = tt
      each_apart around (CopyBytes n to from) h = tt
      each_apart around (Undefine y) h = tt
      each_apart around (Checked c) h = tt
      each_apart around (Input k t) h = tt
      each_apart around (Assume e) h = tt
      each_apart around (Exit n) h = tt
      each_apart around (Goto label) h = tt
      each_apart around (Call c) h = tt
      each_apart around (Return e) h = tt
      each_apart around (Label at n) h = tt
      each_apart around (Case n) h = tt
      each_apart around Default h = tt

      each_apart_in : (around : Around) (all : CsStmtTrees) → Inside (gathered_in objects_of all) (gathered_in calls_of all) → EachItem (IsScopeApart q) around all
      each_apart_in around none h = tt
      each_apart_in around (more item rest) h = (
        each_apart around item (left_part (gathered objects_of item) (gathered_in objects_of rest) (gathered calls_of item) (gathered_in calls_of rest) h),
        each_apart_in around rest (right_part (gathered objects_of item) (gathered_in objects_of rest) (gathered calls_of item) (gathered_in calls_of rest) h),
      )

    body_is_apart : Each (IsScopeApart q) nothing_around function.body
    body_is_apart = each_apart nothing_around function.body (record { opens = λ x. omega arith; calls_lower = calls_down f function is })

  separate_at : (f : ℕ) (o : Option CsFunctionTree) → slice_get q.functions f ≡ o → IfSome o (λ g. Each (IsScopeApart q) nothing_around g.body)
  separate_at f None is = tt
  separate_at f (Some function) is = body_is_apart f function is

  separate : IsSeparate q
  separate f = separate_at f (slice_get q.functions f) refl

  -- an object that is opened somewhere is not static, so it does not live at the start
  not_static : (b : Bool) (n : ℕ) → n ≤ (if b then 0 else 1) → 1 ≤ n → IsTrue b → ⊥
  not_static true n le one h = absurd (omega (arith, le, one))
  not_static false n le one h = absurd (cc)

  opened_dead : (x : ℕ) (o : Option ObjectTree) → slice_get q.objects x ≡ o → 1 ≤ times x (scoped q) → IsSomeAnd o (λ z. IsTrue z.is_static) → ⊥
  opened_dead x None is one h = h
  opened_dead x (Some o) is one h = not_static o.is_static (times x (scoped q)) (subst (λ z. IfSome z (IsScoped q x)) is (formed.scopes x)) one h

  none_at : (o : Option ℕ) → (IsSome o → ⊥) → o ≡ None
  none_at None h = refl
  none_at (Some n) h = absurd (h refl)

  starts_free : (f : ℕ) (function : CsFunctionTree) → slice_get q.functions f ≡ Some function → (inputs : List ℤ) (x : ℕ)
      → May q objects_within x (objects_within function) (gathered calls_of function.body) → place_of (first q inputs).memory x ≡ None
  starts_free f function is inputs x m =
      none_at (place_of (first q inputs).memory x) (λ h.
      opened_dead x (slice_get q.objects x) refl (listed (below x (rank f) (objects_within function) (gathered calls_of function.body) (calls_down f function is) m))
      (start_only q.objects q.initial x h))
    where
      listed : Contains (objects_within function) x ⊎ Below x (rank f) → 1 ≤ times x (scoped q)
      listed (inl c) = let here = listed_times x (objects_within function) c in let all = part_times objects_within x q.functions f function is in omega (arith, here, all)
      listed (inr b) =
          let here = listed_times x (objects_within b.function) b.has in
          let all = part_times objects_within x q.functions b.number b.function b.is in omega (arith, here, all)

  never_clashes : (fuel : ℕ) (inputs : List ℤ) (o : Option CsFunctionTree) → slice_get q.functions q.main ≡ o
      → or_stuck o (λ function. exec q fuel function.body (first q inputs)) ≡ Clash → ⊥
  never_clashes fuel inputs None is e = absurd (cc)
  never_clashes fuel inputs (Some function) is e =
      no_clash never q fuel function.body (first q inputs) separate (body_is_apart q.main function is) (starts_free q.main function is inputs) e

pub formed_is_separate : FormedIsSeparate
formed_is_separate q formed = separate q formed

pub formed_runs_never_clash : FormedRunsNeverClash
formed_runs_never_clash q fuel inputs formed e = never_clashes q formed fuel inputs (slice_get q.functions q.main) refl e
