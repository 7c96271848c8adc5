-- Calls that lead down have ranks below the number of functions: a rank is how many functions have a lower one.
use Rattle.std.proofs.Common.{◌≡◌, ◌<◌, ◌≤◌, ◌+◌, ◌⊎◌, inl, inr, ℕ, zero, suc, List, length, Option, Some, None, Bool, true, false, if◌then◌else◌, refl, subst, arith}
use Rattle.std.specs.Prelude.{nat_lt, IfSome, slice_get}
use Rattle.std.proofs.lemmas.Bool.{cases_lt, le-ltb, lt-ltb, ltb-true}
use Rattle.csharp.specs.Trees.{CsStmtTree, Nothing, Set, Load, Store, CopyBytes, Undefine, Checked, Input, Assume, Sequence, If, Loop, Block, Exit}
use Rattle.csharp.specs.Trees.{Scope, Switch, Goto, Call, Return, Label, Case, Default, CsStmtTrees, none, more, CsFunctionTree, CsProgramTree}
use Rattle.csharp.specs.Formed.{Around, in_block, in_items, nothing_around, Each, EachItem, label_of, gathered, AreNumbersThere, LeadsDown, IsFormed}
use Rattle.csharp_laws.specs.Ranks.{AreRanksSmall, FormedRanksAreSmall}

-- ---- how many numbers below another have a property

count_below : ℕ → (ℕ → Bool) → ℕ
count_below zero p = 0
count_below (suc n) p = count_below n p + (if p n then 1 else 0)

one_more : (b c : Bool) → (b ≡ true → c ≡ true) → (if b then 1 else 0) ≤ (if c then 1 else 0)
one_more true true h = omega (arith)
one_more true false h = let e = h refl in absurd (cc)
one_more false true h = omega (arith)
one_more false false h = omega (arith)

one_less : (b c : Bool) → b ≡ false → c ≡ true → (if b then 1 else 0) < (if c then 1 else 0)
one_less false true e f = omega (arith)
one_less false false e f = absurd (cc)
one_less true c e f = absurd (cc)

more_below : (n : ℕ) (p r : ℕ → Bool) → ((k : ℕ) → p k ≡ true → r k ≡ true) → count_below n p ≤ count_below n r
unfolding count_below
more_below zero p r h = omega (arith)
more_below (suc n) p r h = omega (arith, more_below n p r h, one_more (p n) (r n) (h n))

less_below : (n : ℕ) (p r : ℕ → Bool) → ((k : ℕ) → p k ≡ true → r k ≡ true) → (c : ℕ) → c < n → p c ≡ false → r c ≡ true → count_below n p < count_below n r
unfolding count_below
less_below zero p r h c lt e f = absurd (omega (arith, lt))
less_below (suc n) p r h c lt e f = by (cases_lt c n) (λ below. less_below n p r h c below e f) where
  by : (c < n) ⊎ (n ≤ c) → (c < n → count_below n p < count_below n r) → count_below n p + (if p n then 1 else 0) < count_below n r + (if r n then 1 else 0)
  by (inl below) fewer = omega (arith, fewer below, one_more (p n) (r n) (h n))
  by (inr above) fewer =
      let same : c ≡ n = omega (arith, lt, above) in
      omega (arith, more_below n p r h, one_less (p n) (r n) (subst (λ k. p k ≡ false) same e) (subst (λ k. r k ≡ true) same f))

all_below : (n : ℕ) → count_below n (λ k. true) ≡ n
unfolding count_below
all_below zero = refl
all_below (suc n) = omega (arith, all_below n)

-- ---- what holds of each statement by two properties

module _ (P Q R : Around → CsStmtTree → Type 0) (own : (around : Around) (a : CsStmtTree) → P around a → Q around a → R around a) where
  mutual
    each_two : (around : Around) (a : CsStmtTree) → Each P around a → Each Q around a → Each R around a
    each_two around (Sequence a b) (h, first, second) (g, third, fourth) = (own around (Sequence a b) h g, each_two around a first third, each_two around b second fourth)
    each_two around (If e a b) (h, first, second) (g, third, fourth) = (own around (If e a b) h g, each_two around a first third, each_two around b second fourth)
    each_two around (Loop at a) (h, inner) (g, other) = (own around (Loop at a) h g, each_two around a inner other)
    each_two around (Block a) (h, inner) (g, other) = (own around (Block a) h g, each_two (in_block around) a inner other)
    each_two around (Scope xs all) (h, inner) (g, other) = (own around (Scope xs all) h g, each_two_in (in_items xs all around) all inner other)
    each_two around (Switch e xs all) (h, inner) (g, other) = (own around (Switch e xs all) h g, each_two_in (in_items xs all around) all inner other)
    each_two around Nothing h g = own around Nothing h g
    each_two around (Set k e) h g = own around (Set k e) h g
    each_two around (Load k ty e) h g = own around (Load k ty e) h g
    each_two around (Store ty e x) h g = own around (Store ty e x) h g
    each_two around (CopyBytes n to from) h g = own around (CopyBytes n to from) h g
    each_two around (Undefine y) h g = own around (Undefine y) h g
    each_two around (Checked c) h g = own around (Checked c) h g
    each_two around (Input k t) h g = own around (Input k t) h g
    each_two around (Assume e) h g = own around (Assume e) h g
    each_two around (Exit n) h g = own around (Exit n) h g
    each_two around (Goto label) h g = own around (Goto label) h g
    each_two around (Call c) h g = own around (Call c) h g
    each_two around (Return e) h g = own around (Return e) h g
    each_two around (Label at n) h g = own around (Label at n) h g
    each_two around (Case n) h g = own around (Case n) h g
    each_two around Default h g = own around Default h g

    each_two_in : (around : Around) (all : CsStmtTrees) → EachItem P around all → EachItem Q around all → EachItem R around all
    each_two_in around none h g = tt
    each_two_in around (more item rest) (h, others) (g, further) = (each_two around item h g, each_two_in around rest others further)

-- ---- ranks by how many functions have a lower one

module _ (q : CsProgramTree) (rank : ℕ → ℕ) where
  small_rank : ℕ → ℕ
  small_rank f = count_below (length q.functions) (λ g. nat_lt (rank g) (rank f))

  stays_down : (c f : ℕ) → c < length q.functions → rank c < rank f → small_rank c < small_rank f
  unfolding small_rank
  stays_down c f there lower = less_below (length q.functions) (λ g. nat_lt (rank g) (rank c)) (λ g. nat_lt (rank g) (rank f))
      (λ k e. lt-ltb (rank k) (rank f) (omega (arith, ltb-true (rank k) (rank c) e, lower))) c there (le-ltb (rank c) (rank c) (omega (arith))) (lt-ltb (rank c) (rank f) lower)

  is_small : (f : ℕ) → f < length q.functions → small_rank f < length q.functions
  unfolding small_rank
  is_small f there = subst (λ n. small_rank f < n) (all_below (length q.functions))
      (less_below (length q.functions) (λ g. nat_lt (rank g) (rank f)) (λ g. true) (λ k e. refl) f there (le-ltb (rank f) (rank f) (omega (arith))) refl)

  still_down : (f : ℕ) (labels : List ℕ) (around : Around) (a : CsStmtTree) → LeadsDown rank f a → AreNumbersThere q labels around a → LeadsDown small_rank f a
  still_down f labels around (Call c) h (exprs, temps, objects, there) = stays_down c.function f there h
  still_down f labels around Nothing h g = tt
  still_down f labels around (Set k e) h g = tt
  still_down f labels around (Load k ty e) h g = tt
  still_down f labels around (Store ty e x) h g = tt
  still_down f labels around (CopyBytes n to from) h g = tt
  still_down f labels around (Undefine y) h g = tt
  still_down f labels around (Checked c) h g = tt
  still_down f labels around (Input k t) h g = tt
  still_down f labels around (Assume e) h g = tt
  still_down f labels around (Sequence a b) h g = tt
  still_down f labels around (If e a b) h g = tt
  still_down f labels around (Loop at a) h g = tt
  still_down f labels around (Block a) h g = tt
  still_down f labels around (Exit n) h g = tt
  still_down f labels around (Scope xs all) h g = tt
  still_down f labels around (Switch e xs all) h g = tt
  still_down f labels around (Goto label) h g = tt
  still_down f labels around (Return e) h g = tt
  still_down f labels around (Label at n) h g = tt
  still_down f labels around (Case n) h g = tt
  still_down f labels around Default h g = tt

  functions_down : (f : ℕ) (o : Option CsFunctionTree) → IfSome o (λ function. Each (λ around a. LeadsDown rank f a) nothing_around function.body)
      → IfSome o (λ function. Each (AreNumbersThere q (gathered label_of function.body)) nothing_around function.body)
      → IfSome o (λ function. Each (λ around a. LeadsDown small_rank f a) nothing_around function.body)
  functions_down f None h g = tt
  functions_down f (Some function) h g = each_two (λ around a. LeadsDown rank f a) (AreNumbersThere q (gathered label_of function.body)) (λ around a. LeadsDown small_rank f a)
      (λ around a. still_down f (gathered label_of function.body) around a) nothing_around function.body h g

pub formed_ranks_are_small : FormedRanksAreSmall
formed_ranks_are_small q formed = record {
  founded = record {
    rank = small_rank q formed.calls.rank;
    down = λ f. functions_down q formed.calls.rank f (slice_get q.functions f) (formed.calls.down f) (formed.numbers f);
  };
  small = is_small q formed.calls.rank;
}
