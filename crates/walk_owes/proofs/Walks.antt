-- The statements of a formed program may be walked.
use Rattle.std.proofs.Common.{◌≡◌, ⊎_elim, ℕ, zero, suc, pos, ℤ, ◌<◌, ◌≤◌, List, [], ◌∷◌, length, Option, Some, None, refl, subst, arith}
use Rattle.std.specs.Prelude.{All, IfSome, IsSomeAnd, slice_get}
use Rattle.std.proofs.lemmas.Int.{ints as int_facts}
use Rattle.std.proofs.lemmas.List.Elements.{All-contains}
use Rattle.c_syntax_written.specs.declared.int_type.IntType.{IntType}
use Rattle.c_syntax_written.specs.declared.int_type.IntType.TheVariants as ints
use Rattle.c_syntax_written.specs.Integer.{HasNumber}
use Rattle.c_layout.specs.WellTyped.{EachOf}
use Rattle.block_mem.specs.declared.types.Scalar.{Scalar}
use Rattle.block_mem.specs.declared.types.Scalar.TheVariants as scalars
use Rattle.csharp.specs.Trees.{CsExprTree, Const, CsCallTree, CsStmtTree, CsStmtTrees, none, more, CsFunctionTree, CsProgramTree, Nothing, Set, Load, Store, CopyBytes, Undefine}
use Rattle.csharp.specs.Trees.{Checked, Input, Assume, Sequence, If, Loop, Block, Exit, Scope, Switch, Goto, Call, Return, Label, Case, Default}
use Rattle.csharp.specs.Formed.{AreArgsApart, AreCallsFounded, AreCasesFormed, AreLabelsOnce, AreNumbersThere, AreOperandsTyped, ArgsFit, Around, Differ, Each, EachItem, GivesType, HasType, HoldsType}
use Rattle.csharp.specs.Formed.{IsCallApart, IsCallTyped, IsCheckFormed, IsFormed, IsTyped, LeadsDown, NamesThere, cases_among, gathered, in_block, in_items, label_of}
use Rattle.csharp.specs.Formed.{labels_among, nothing_around}
use Rattle.csharp_laws.specs.Ranks.{AreRanksSmall}
use Rattle.mem_api.specs.Given.{IsOf}
use Rattle.alarm_claims.specs.Admitted.{SomeAmong, SomeIn}
use Rattle.walk_owes.specs.declared.way.Target.{Target}
use Rattle.walk_owes.specs.Walkable.{AreArgsReady, AreItemsOwn, AreOwn, Callee, IsStatementOf, IsSwitchOwn, IsWalkable, equals, nowhere, target_of}
use Rattle.walk_owes.proofs.Marked.{alone_of, case_listed, labels_behind}

-- ---- two properties of each part

mutual
  each_both : (P Q : Around → CsStmtTree → Type 0) (r : Around) (a : CsStmtTree) → Each P r a → Each Q r a → Each (λ u b. P u b × Q u b) r a
  each_both P Q r Nothing h k = (h, k)
  each_both P Q r (Set d e) h k = (h, k)
  each_both P Q r (Load d ty e) h k = (h, k)
  each_both P Q r (Store ty e g) h k = (h, k)
  each_both P Q r (CopyBytes n e g) h k = (h, k)
  each_both P Q r (Undefine x) h k = (h, k)
  each_both P Q r (Checked c) h k = (h, k)
  each_both P Q r (Input d t) h k = (h, k)
  each_both P Q r (Assume e) h k = (h, k)
  each_both P Q r (Sequence a b) h k = ((h.0, k.0), each_both P Q r a h.1 k.1, each_both P Q r b h.2 k.2)
  each_both P Q r (If e a b) h k = ((h.0, k.0), each_both P Q r a h.1 k.1, each_both P Q r b h.2 k.2)
  each_both P Q r (Loop at a) h k = ((h.0, k.0), each_both P Q r a h.1 k.1)
  each_both P Q r (Block a) h k = ((h.0, k.0), each_both P Q (in_block r) a h.1 k.1)
  each_both P Q r (Exit j) h k = (h, k)
  each_both P Q r (Scope xs items) h k = ((h.0, k.0), items_both P Q (in_items xs items r) items h.1 k.1)
  each_both P Q r (Switch e xs items) h k = ((h.0, k.0), items_both P Q (in_items xs items r) items h.1 k.1)
  each_both P Q r (Goto l) h k = (h, k)
  each_both P Q r (Call c) h k = (h, k)
  each_both P Q r (Return e) h k = (h, k)
  each_both P Q r (Label at l) h k = (h, k)
  each_both P Q r (Case n) h k = (h, k)
  each_both P Q r Default h k = (h, k)

  items_both : (P Q : Around → CsStmtTree → Type 0) (r : Around) (items : CsStmtTrees) → EachItem P r items → EachItem Q r items
      → EachItem (λ u b. P u b × Q u b) r items
  items_both P Q r none h k = tt
  items_both P Q r (more item rest) h k = (each_both P Q r item h.0 k.0, items_both P Q r rest h.1 k.1)

each_there : {A : Type 0} (xs : List A) (P : ℕ → A → Type 0) (k : ℕ) (a : A) → EachOf xs P → slice_get xs k ≡ Some a → P k a
each_there xs P k a h e = let i : IfSome (slice_get xs k) (P k) = h k in rw e at i

-- what a formed program has of each statement of a function
pub record IsPart (q : CsProgramTree) (labels : List ℕ) (rank : ℕ → ℕ) (f : ℕ) (around : Around) (a : CsStmtTree) : Type 0 where
  pub numbers : AreNumbersThere q labels around a
  pub typed : IsTyped q a
  pub check : IsCheckFormed q a
  pub down : LeadsDown rank f a
  pub apart : IsCallApart q a
  pub cases : AreCasesFormed q a
  pub labels_once : AreLabelsOnce a

mutual
  each_on : (P Q : Around → CsStmtTree → Type 0) → ((r : Around) (a : CsStmtTree) → P r a → Q r a) → (r : Around) (a : CsStmtTree) → Each P r a → Each Q r a
  each_on P Q g r Nothing h = g r Nothing h
  each_on P Q g r (Set d e) h = g r (Set d e) h
  each_on P Q g r (Load d ty e) h = g r (Load d ty e) h
  each_on P Q g r (Store ty e o) h = g r (Store ty e o) h
  each_on P Q g r (CopyBytes n e o) h = g r (CopyBytes n e o) h
  each_on P Q g r (Undefine x) h = g r (Undefine x) h
  each_on P Q g r (Checked c) h = g r (Checked c) h
  each_on P Q g r (Input d t) h = g r (Input d t) h
  each_on P Q g r (Assume e) h = g r (Assume e) h
  each_on P Q g r (Sequence a b) h = (g r (Sequence a b) h.0, each_on P Q g r a h.1, each_on P Q g r b h.2)
  each_on P Q g r (If e a b) h = (g r (If e a b) h.0, each_on P Q g r a h.1, each_on P Q g r b h.2)
  each_on P Q g r (Loop at a) h = (g r (Loop at a) h.0, each_on P Q g r a h.1)
  each_on P Q g r (Block a) h = (g r (Block a) h.0, each_on P Q g (in_block r) a h.1)
  each_on P Q g r (Exit j) h = g r (Exit j) h
  each_on P Q g r (Scope xs items) h = (g r (Scope xs items) h.0, items_on P Q g (in_items xs items r) items h.1)
  each_on P Q g r (Switch e xs items) h = (g r (Switch e xs items) h.0, items_on P Q g (in_items xs items r) items h.1)
  each_on P Q g r (Goto l) h = g r (Goto l) h
  each_on P Q g r (Call c) h = g r (Call c) h
  each_on P Q g r (Return e) h = g r (Return e) h
  each_on P Q g r (Label at l) h = g r (Label at l) h
  each_on P Q g r (Case n) h = g r (Case n) h
  each_on P Q g r Default h = g r Default h

  items_on : (P Q : Around → CsStmtTree → Type 0) → ((r : Around) (a : CsStmtTree) → P r a → Q r a) → (r : Around) (items : CsStmtTrees) → EachItem P r items
      → EachItem Q r items
  items_on P Q g r none h = tt
  items_on P Q g r (more item rest) h = (each_on P Q g r item h.0, items_on P Q g r rest h.1)

-- ---- temporaries and arguments

get_below : {A : Type 0} (xs : List A) (d : ℕ) (a : A) → slice_get xs d ≡ Some a → d < length xs
get_below [] d a e = absurd (cc)
get_below (x ∷ xs) zero a e = omega arith
get_below (x ∷ xs) (suc d) a e = let h = get_below xs d a e in omega (h, arith)

alone : {A : Type 0} (P : A → Type 0) (a : A) → P a → All P (a ∷ [])
alone P a h zero d l = h
alone P a h (suc k) d l = absurd (omega (l, arith))

nothing : {A : Type 0} (P : A → Type 0) → All P []
nothing P k d l = absurd (omega (l, arith))

first_all : {A : Type 0} (P : A → Type 0) (a : A) (xs : List A) → All P (a ∷ xs) → P a
first_all P a xs h = h 0 a (omega arith)

rest_all : {A : Type 0} (P : A → Type 0) (a : A) (xs : List A) → All P (a ∷ xs) → All P xs
rest_all P a xs h k d l = h (suc k) d (omega (l, arith))

module _ (q : CsProgramTree) where
  -- a typed value may be put into a temporary of its type
  sets : (d : ℕ) (e : CsExprTree) (ty : Scalar) → NamesThere q e → AreOperandsTyped q e → HasType q ty e → HoldsType q ty d → IsOf q (Set d e)
  sets d e ty n o t h = record {
    numbers = (alone (NamesThere q) e n, alone (λ k. k < length q.temps) d (get_below q.temps d ty h), nothing (λ x. x < length q.objects), tt);
    typed = (alone (AreOperandsTyped q) e o, (ty, t, h));
    check = tt;
  }

  args_ready : (es : List CsExprTree) (ds : List ℕ) → All (NamesThere q) es → All (AreOperandsTyped q) es → ArgsFit q es ds → AreArgsApart es ds
      → AreArgsReady q es ds
  args_ready [] [] n o f a = tt
  args_ready [] (d ∷ ds) n o f a = tt
  args_ready (e ∷ es) [] n o f a = tt
  args_ready (e ∷ es) (d ∷ ds) n o f a = (
    sets d e f.0.0 (first_all (NamesThere q) e es n) (first_all (AreOperandsTyped q) e es o) f.0.1 f.0.2,
    a.0,
    args_ready es ds (rest_all (NamesThere q) e es n) (rest_all (AreOperandsTyped q) e es o) f.1 a.1,
  )

  zero_fits : HasNumber ints.Int (pos 0)
  zero_fits = search (arith, int_facts)

  one_fits : HasNumber ints.Int (pos 1)
  one_fits = search (arith, int_facts)

  flag_fits : (flag : Option ℕ) → IfSome flag (HoldsType q (scalars.Int ints.Int))
      → IfSome flag (λ d. IsOf q (Set d (Const ints.Int (pos 0))) × IsOf q (Set d (Const ints.Int (pos 1))))
  flag_fits None h = tt
  flag_fits (Some d) h = (
    sets d (Const ints.Int (pos 0)) (scalars.Int ints.Int) tt zero_fits refl h,
    sets d (Const ints.Int (pos 1)) (scalars.Int ints.Int) tt one_fits refl h,
  )

  -- ---- switches

  case_test : (e : CsExprTree) (t : IntType) (n : ℤ) → NamesThere q e → AreOperandsTyped q e → HasType q (scalars.Int t) e → HasNumber t n
      → IsOf q (Assume (equals t e n))
  case_test e t n names typed type fits = record {
    numbers = (alone (NamesThere q) (equals t e n) (names, tt), nothing (λ k. k < length q.temps), nothing (λ x. x < length q.objects), tt);
    typed = (
      alone (AreOperandsTyped q) (equals t e n) (typed, fits, (scalars.Int t, type, λ v hv. (scalars.Int t, refl, λ u hu. (hv, hu)))),
      (ints.Int, refl),
    );
    check = tt;
  }

  -- ---- trees

  module _ (labels : List ℕ) (rank : ℕ → ℕ) (f : ℕ) (to : Target) (Calls : CsCallTree → Type 0)
      (calls : (around : Around) (c : CsCallTree) → IsPart q labels rank f around (Call c) → Calls c) where
    abbrev Own : Around → CsStmtTree → Type 0
    Own around a = IsPart q labels rank f around a × GivesType q to.value a

    at_once : (around : Around) (a : CsStmtTree) → AreNumbersThere q [] nothing_around a → IsPart q labels rank f around a → IsOf q a
    at_once around a n h = record { numbers = n; typed = h.typed; check = h.check }

    scope_is : (around : Around) (xs : List ℕ) (all : CsStmtTrees) → IsPart q labels rank f around (Scope xs all) → IsOf q (Scope xs none)
    scope_is around xs all h = record { numbers = h.numbers; typed = h.typed; check = tt }

    returns : (value : Option ℕ) (around : Around) (e : CsExprTree) → IsPart q labels rank f around (Return (Some e)) → GivesType q value (Return (Some e))
        → IfSome value (λ d. IsOf q (Set d e))
    returns None around e h g = tt
    returns (Some d) around e h g =
        sets d e g.0 (first_all (NamesThere q) e [] h.numbers.0) (first_all (AreOperandsTyped q) e [] h.typed.0) g.1 g.2

    switch_is : (around : Around) (e : CsExprTree) (xs : List ℕ) (all : CsStmtTrees) → IsPart q labels rank f around (Switch e xs all) → IsSwitchOwn q e all
    switch_is around e xs all h = record {
      ty = h.typed.1.0;
      type = h.typed.1.1;
      operands = first_all (AreOperandsTyped q) e [] h.typed.0;
      cases = λ n there. case_test e h.typed.1.0 n (first_all (NamesThere q) e [] h.numbers.0) (first_all (AreOperandsTyped q) e [] h.typed.0) h.typed.1.1
          (All-contains (HasNumber h.typed.1.0) (cases_among all) n (h.cases.0 h.typed.1.0 h.typed.1.1) (case_listed n all there));
    }

    mutual
      own : (around : Around) (a : CsStmtTree) → Each Own around a → AreOwn q to Calls a
      own around Nothing h = tt
      own around (Set d e) h = at_once around (Set d e) h.0.numbers h.0
      own around (Load d ty e) h = at_once around (Load d ty e) h.0.numbers h.0
      own around (Store ty e g) h = at_once around (Store ty e g) h.0.numbers h.0
      own around (CopyBytes n e g) h = at_once around (CopyBytes n e g) h.0.numbers h.0
      own around (Undefine x) h = at_once around (Undefine x) h.0.numbers h.0
      own around (Checked c) h = at_once around (Checked c) h.0.numbers h.0
      own around (Input d t) h = at_once around (Input d t) h.0.numbers h.0
      own around (Assume e) h = at_once around (Assume e) h.0.numbers h.0
      own around (Sequence a b) h = (own around a h.1, own around b h.2)
      own around (If e a b) h = (record { numbers = h.0.0.numbers; typed = h.0.0.typed; check = tt }, own around a h.1, own around b h.2)
      own around (Loop at a) h = own around a h.1
      own around (Block a) h = own (in_block around) a h.1
      own around (Exit j) h = tt
      own around (Scope xs items) h = (scope_is around xs items h.0.0, owns (in_items xs items around) items h.0.0.labels_once h.1)
      own around (Switch e xs items) h = (
        record { numbers = (nothing (NamesThere q), nothing (λ k. k < length q.temps), h.0.0.numbers.2, tt); typed = (nothing (AreOperandsTyped q), tt); check = tt },
        switch_is around e xs items h.0.0,
        owns (in_items xs items around) items h.0.0.labels_once h.1,
      )
      own around (Goto l) h = tt
      own around (Call c) h = calls around c h.0
      own around (Return None) h = tt
      own around (Return (Some e)) h = returns to.value around e h.0 h.1
      own around (Label at l) h = tt
      own around (Case n) h = tt
      own around Default h = tt

      owns : (around : Around) (items : CsStmtTrees) → Differ (labels_among items) → EachItem Own around items → AreItemsOwn q to Calls items
      owns around none d h = tt
      owns around (more item rest) d h = (own around item h.0, alone_of item rest d, owns around rest (labels_behind item rest d) h.1)

  -- ---- functions

  part_of : (formed : IsFormed q) (founded : AreCallsFounded q) (f : ℕ) (function : CsFunctionTree) → slice_get q.functions f ≡ Some function
      → Each (IsPart q (gathered label_of function.body) founded.rank f) nothing_around function.body
  part_of formed founded f function there =
      let n = each_there q.functions _ f function formed.numbers there in
      let t = each_there q.functions _ f function formed.types there in
      let c = each_there q.functions _ f function formed.checks there in
      let d = each_there q.functions _ f function founded.down there in
      let a = each_there q.functions _ f function formed.args there in
      let s = each_there q.functions _ f function formed.cases there in
      let l = each_there q.functions _ f function formed.labels there in
      each_on _ (IsPart q (gathered label_of function.body) founded.rank f)
      (λ r b h. record { numbers = h.0; typed = h.1.0; check = h.1.1.0; down = h.1.1.1.0; apart = h.1.1.1.1.0; cases = h.1.1.1.1.1.0; labels_once = h.1.1.1.1.1.1 })
      nothing_around function.body
      (each_both (AreNumbersThere q (gathered label_of function.body)) _ nothing_around function.body n
      (each_both (λ r b. IsTyped q b) _ nothing_around function.body t
      (each_both (λ r b. IsCheckFormed q b) _ nothing_around function.body c
      (each_both (λ r b. LeadsDown founded.rank f b) _ nothing_around function.body d
      (each_both (λ r b. IsCallApart q b) _ nothing_around function.body a
      (each_both (λ r b. AreCasesFormed q b) (λ r b. AreLabelsOnce b) nothing_around function.body s l))))))

  there_is : {A : Type 0} (o : Option A) (P : A → Type 0) → IsSomeAnd o P → (a : A) × (o ≡ Some a) × P a
  there_is None P h = absurd h
  there_is (Some a) P h = (a, refl, h)

  -- a call of a function whose body may be walked
  callable_by : (labels : List ℕ) (rank : ℕ → ℕ) (f less : ℕ) (around : Around) (c : CsCallTree) → IsPart q labels rank f around (Call c) → rank f ≤ suc less
      → ((g : CsFunctionTree) → slice_get q.functions c.function ≡ Some g → rank c.function ≤ less
      → Each (λ r b. GivesType q c.value b) nothing_around g.body → IsWalkable q less (target_of c) g.body)
      → Callee q (suc less) c
  callable_by labels rank f less around c h bound walks =
      let g = there_is (slice_get q.functions c.function) (IsCallTyped q c) h.typed.1 in
      let apart : IfSome (slice_get q.functions c.function) (λ k. AreArgsApart c.args k.params) = h.apart in
      let down : rank c.function < rank f = h.down in
      record {
        function = g.0;
        there = g.1;
        args = args_ready c.args g.0.params h.numbers.0 h.typed.0 g.2.args (rw g.1 at apart);
        target = flag_fits c.flag g.2.flag;
        body = walks g.0 g.1 (omega (down, bound, arith)) g.2.value;
      }

  body_walkable : (formed : IsFormed q) (founded : AreCallsFounded q) (depth f : ℕ) (function : CsFunctionTree) (to : Target)
      → slice_get q.functions f ≡ Some function → founded.rank f ≤ depth → Each (λ r b. GivesType q to.value b) nothing_around function.body
      → IsWalkable q depth to function.body
  body_walkable formed founded zero f function to there bound gives =
      own (gathered label_of function.body) founded.rank f to (Callee q zero)
      (λ around c h. let down : founded.rank c.function < founded.rank f = h.down in absurd (omega (down, bound, arith)))
      nothing_around function.body
      (each_both (IsPart q (gathered label_of function.body) founded.rank f) (λ r b. GivesType q to.value b) nothing_around function.body
      (part_of formed founded f function there) gives)
  body_walkable formed founded (suc less) f function to there bound gives =
      own (gathered label_of function.body) founded.rank f to (Callee q (suc less))
      (λ around c h. callable_by (gathered label_of function.body) founded.rank f less around c h bound
      (λ g is low value. body_walkable formed founded less c.function g (target_of c) is low value))
      nothing_around function.body
      (each_both (IsPart q (gathered label_of function.body) founded.rank f) (λ r b. GivesType q to.value b) nothing_around function.body
      (part_of formed founded f function there) gives)

-- ---- what is so of all statements

mutual
  each_all : (P : Around → CsStmtTree → Type 0) → ((r : Around) (b : CsStmtTree) → P r b) → (r : Around) (a : CsStmtTree) → Each P r a
  each_all P h r Nothing = h r Nothing
  each_all P h r (Set d e) = h r (Set d e)
  each_all P h r (Load d ty e) = h r (Load d ty e)
  each_all P h r (Store ty e g) = h r (Store ty e g)
  each_all P h r (CopyBytes n e g) = h r (CopyBytes n e g)
  each_all P h r (Undefine x) = h r (Undefine x)
  each_all P h r (Checked c) = h r (Checked c)
  each_all P h r (Input d t) = h r (Input d t)
  each_all P h r (Assume e) = h r (Assume e)
  each_all P h r (Sequence a b) = (h r (Sequence a b), each_all P h r a, each_all P h r b)
  each_all P h r (If e a b) = (h r (If e a b), each_all P h r a, each_all P h r b)
  each_all P h r (Loop at a) = (h r (Loop at a), each_all P h r a)
  each_all P h r (Block a) = (h r (Block a), each_all P h (in_block r) a)
  each_all P h r (Exit j) = h r (Exit j)
  each_all P h r (Scope xs items) = (h r (Scope xs items), items_all P h (in_items xs items r) items)
  each_all P h r (Switch e xs items) = (h r (Switch e xs items), items_all P h (in_items xs items r) items)
  each_all P h r (Goto l) = h r (Goto l)
  each_all P h r (Call c) = h r (Call c)
  each_all P h r (Return e) = h r (Return e)
  each_all P h r (Label at l) = h r (Label at l)
  each_all P h r (Case n) = h r (Case n)
  each_all P h r Default = h r Default

  items_all : (P : Around → CsStmtTree → Type 0) → ((r : Around) (b : CsStmtTree) → P r b) → (r : Around) (items : CsStmtTrees) → EachItem P r items
  items_all P h r none = tt
  items_all P h r (more item rest) = (each_all P h r item, items_all P h r rest)

-- each function of a formed program may be walked, as deep as there are functions
pub function_walkable : (q : CsProgramTree) → IsFormed q → AreRanksSmall q → (f : ℕ) (function : CsFunctionTree) → slice_get q.functions f ≡ Some function
    → IsWalkable q (length q.functions) nowhere function.body
function_walkable q formed ranks f function there =
    let small = ranks.small f (get_below q.functions f function there) in
    body_walkable q formed ranks.founded (length q.functions) f function nowhere there (omega (small, arith))
    (each_all (λ r b. GivesType q None b) (λ r b. tt) nothing_around function.body)

-- ---- parts

module _ (q : CsProgramTree) (to : Target) (Calls : CsCallTree → Type 0) (b : CsStmtTree) where
  mutual
    part_own : (a : CsStmtTree) → SomeIn (λ c. c ≡ b) a → AreOwn q to Calls a → AreOwn q to Calls b
    part_own Nothing i h = subst (AreOwn q to Calls) i h
    part_own (Set d e) i h = subst (AreOwn q to Calls) i h
    part_own (Load d ty e) i h = subst (AreOwn q to Calls) i h
    part_own (Store ty e g) i h = subst (AreOwn q to Calls) i h
    part_own (CopyBytes n e g) i h = subst (AreOwn q to Calls) i h
    part_own (Undefine x) i h = subst (AreOwn q to Calls) i h
    part_own (Checked x) i h = subst (AreOwn q to Calls) i h
    part_own (Input d t) i h = subst (AreOwn q to Calls) i h
    part_own (Assume e) i h = subst (AreOwn q to Calls) i h
    part_own (Sequence a c) i h = ⊎_elim (λ e. subst (AreOwn q to Calls) e h) (λ r. ⊎_elim (λ x. part_own a x h.0) (λ x. part_own c x h.1) r) i
    part_own (If e a c) i h = ⊎_elim (λ z. subst (AreOwn q to Calls) z h) (λ r. ⊎_elim (λ x. part_own a x h.1) (λ x. part_own c x h.2) r) i
    part_own (Loop at a) i h = ⊎_elim (λ e. subst (AreOwn q to Calls) e h) (λ x. part_own a x h) i
    part_own (Block a) i h = ⊎_elim (λ e. subst (AreOwn q to Calls) e h) (λ x. part_own a x h) i
    part_own (Exit j) i h = subst (AreOwn q to Calls) i h
    part_own (Scope xs items) i h = ⊎_elim (λ e. subst (AreOwn q to Calls) e h) (λ x. item_own items x h.1) i
    part_own (Switch e xs items) i h = ⊎_elim (λ z. subst (AreOwn q to Calls) z h) (λ x. item_own items x h.2) i
    part_own (Goto l) i h = subst (AreOwn q to Calls) i h
    part_own (Call x) i h = subst (AreOwn q to Calls) i h
    part_own (Return e) i h = subst (AreOwn q to Calls) i h
    part_own (Label at l) i h = subst (AreOwn q to Calls) i h
    part_own (Case n) i h = subst (AreOwn q to Calls) i h
    part_own Default i h = subst (AreOwn q to Calls) i h

    item_own : (items : CsStmtTrees) → SomeAmong (λ c. c ≡ b) items → AreItemsOwn q to Calls items → AreOwn q to Calls b
    item_own none i h = absurd i
    item_own (more item rest) i h = ⊎_elim (λ x. part_own item x h.0) (λ x. item_own rest x h.2) i

pub statement_walkable : (q : CsProgramTree) (a : CsStmtTree) → IsFormed q → AreRanksSmall q → IsStatementOf q a → IsWalkable q (length q.functions) nowhere a
statement_walkable q a formed ranks h =
    part_own q nowhere (Callee q (length q.functions)) a h.1.body h.3 (function_walkable q formed ranks h.0 h.1 h.2)
