-- What code sets, from what its statements set.
use Rattle.std.proofs.Common.{inl, inr, ℕ, suc, ◌*◌, ◌<◌, ◌≤◌, List, [], ◌∷◌, ◌++◌, Option, Some, None, arith, subst}
use Rattle.std.specs.Prelude.{Contains, IfSome}
use Rattle.std.proofs.lemmas.List.Elements.{Contains-append_cases}
use Rattle.c_syntax_written.specs.declared.int_type.IntType.TheVariants.{Char, SChar, UChar, Short, UShort, Int, UInt, Long, ULong, LLong, ULLong}
use Rattle.block_mem.specs.declared.types.Scalar.{Scalar}
use Rattle.block_mem.specs.declared.types.Scalar.TheVariants as scalars
use Rattle.c_objects.proofs.Listed.{by_head, none_in}
use Rattle.csharp.specs.Trees.{CsExprTree, Const, Null, Temp, Address, Unary, Binary, Convert, CsCheckTree, CsStmtTree, Nothing, Set, Load, Store, CopyBytes, Undefine, Checked, Input, Assume, Sequence, If, Loop, Block, Exit, Scope, Switch, Goto, Call, Return, Label, Case, Default, CsStmtTrees, none, more}
use Rattle.csharp.specs.Formed.{gathered, gathered_in, temps_of, opt_list}
use Rattle.csharp_laws.specs.LeftAlone.{calls_of}
use Rattle.lower_trees.specs.Temps.{scalar_place, temp_at}
use Rattle.lower_trees.specs.Checking.{checks}
use Rattle.lower_formed.specs.Every.{Every, EveryItem}
use Rattle.lower_quiet.specs.Quiet.{In, Puts, Below}

-- ---- what holds of each statement

module _ (P Q : CsStmtTree → Type 0) (f : (a : CsStmtTree) → P a → Q a) where
  mutual
    pub every_map : (a : CsStmtTree) → Every P a → Every Q a
    every_map (Sequence a b) (h, first, second) = (f (Sequence a b) h, every_map a first, every_map b second)
    every_map (If e a b) (h, first, second) = (f (If e a b) h, every_map a first, every_map b second)
    every_map (Loop at a) (h, inner) = (f (Loop at a) h, every_map a inner)
    every_map (Block a) (h, inner) = (f (Block a) h, every_map a inner)
    every_map (Scope xs items) (h, inner) = (f (Scope xs items) h, every_map_in items inner)
    every_map (Switch e xs items) (h, inner) = (f (Switch e xs items) h, every_map_in items inner)
    every_map Nothing h = f Nothing h
    every_map (Set d e) h = f (Set d e) h
    every_map (Load d ty e) h = f (Load d ty e) h
    every_map (Store ty e g) h = f (Store ty e g) h
    every_map (CopyBytes n e g) h = f (CopyBytes n e g) h
    every_map (Undefine x) h = f (Undefine x) h
    every_map (Checked c) h = f (Checked c) h
    every_map (Input d t) h = f (Input d t) h
    every_map (Assume e) h = f (Assume e) h
    every_map (Exit k) h = f (Exit k) h
    every_map (Goto l) h = f (Goto l) h
    every_map (Call c) h = f (Call c) h
    every_map (Return e) h = f (Return e) h
    every_map (Label at l) h = f (Label at l) h
    every_map (Case k) h = f (Case k) h
    every_map Default h = f Default h

    every_map_in : (items : CsStmtTrees) → EveryItem P items → EveryItem Q items
    every_map_in none h = tt
    every_map_in (more item rest) (h, hs) = (every_map item h, every_map_in rest hs)

-- a number in a list that is gathered is one of a statement
module _ (P : CsStmtTree → Type 0) (of : CsStmtTree → List ℕ) (R : ℕ → Type 0) (f : (a : CsStmtTree) → P a → (x : ℕ) → Contains (of a) x → R x) where
  two : (xs ys : List ℕ) → ((x : ℕ) → Contains xs x → R x) → ((x : ℕ) → Contains ys x → R x) → (x : ℕ) → Contains (xs ++ ys) x → R x
  two xs ys g h x m = elim (Contains-append_cases xs ys x m) [ inl k ↦ g x k | inr k ↦ h x k ]

  mutual
    pub every_gathered : (a : CsStmtTree) → Every P a → (x : ℕ) → Contains (gathered of a) x → R x
    every_gathered (Sequence a b) (h, first, second) =
        two (of (Sequence a b) ++ gathered of a) (gathered of b) (two (of (Sequence a b)) (gathered of a) (f (Sequence a b) h) (every_gathered a first)) (every_gathered b second)
    every_gathered (If e a b) (h, first, second) =
        two (of (If e a b) ++ gathered of a) (gathered of b) (two (of (If e a b)) (gathered of a) (f (If e a b) h) (every_gathered a first)) (every_gathered b second)
    every_gathered (Loop at a) (h, inner) = two (of (Loop at a)) (gathered of a) (f (Loop at a) h) (every_gathered a inner)
    every_gathered (Block a) (h, inner) = two (of (Block a)) (gathered of a) (f (Block a) h) (every_gathered a inner)
    every_gathered (Scope xs items) (h, inner) = two (of (Scope xs items)) (gathered_in of items) (f (Scope xs items) h) (every_gathered_in items inner)
    every_gathered (Switch e xs items) (h, inner) = two (of (Switch e xs items)) (gathered_in of items) (f (Switch e xs items) h) (every_gathered_in items inner)
    every_gathered Nothing h = f Nothing h
    every_gathered (Set d e) h = f (Set d e) h
    every_gathered (Load d ty e) h = f (Load d ty e) h
    every_gathered (Store ty e g) h = f (Store ty e g) h
    every_gathered (CopyBytes n e g) h = f (CopyBytes n e g) h
    every_gathered (Undefine x) h = f (Undefine x) h
    every_gathered (Checked c) h = f (Checked c) h
    every_gathered (Input d t) h = f (Input d t) h
    every_gathered (Assume e) h = f (Assume e) h
    every_gathered (Exit k) h = f (Exit k) h
    every_gathered (Goto l) h = f (Goto l) h
    every_gathered (Call c) h = f (Call c) h
    every_gathered (Return e) h = f (Return e) h
    every_gathered (Label at l) h = f (Label at l) h
    every_gathered (Case k) h = f (Case k) h
    every_gathered Default h = f Default h

    every_gathered_in : (items : CsStmtTrees) → EveryItem P items → (x : ℕ) → Contains (gathered_in of items) x → R x
    every_gathered_in none h x m = absurd (none_in x m)
    every_gathered_in (more item rest) (h, hs) x m = two (gathered of item) (gathered_in of rest) (every_gathered item h) (every_gathered_in rest hs) x m

-- ---- what a statement sets

one_in : (lo hi d x : ℕ) → In lo hi d → Contains (d ∷ []) x → In lo hi x
one_in lo hi d x h m = elim (by_head d x [] m) [ inl e ↦ subst (In lo hi) e h | inr k ↦ absurd (none_in x k) ]

opt_in : (lo hi : ℕ) (o : Option ℕ) → IfSome o (In lo hi) → (x : ℕ) → Contains (opt_list o) x → In lo hi x
opt_in lo hi None h x m = absurd (none_in x m)
opt_in lo hi (Some d) h x m = one_in lo hi d x h m

own_sets : (lo hi : ℕ) (Low : ℕ → Type 0) (a : CsStmtTree) → Puts lo hi Low a → (x : ℕ) → Contains (temps_of a) x → In lo hi x
own_sets lo hi Low (Set d e) h x m = one_in lo hi d x h m
own_sets lo hi Low (Load d ty e) h x m = one_in lo hi d x h m
own_sets lo hi Low (Input d t) h x m = one_in lo hi d x h m
own_sets lo hi Low (Call c) (v, f, low) x m = elim (Contains-append_cases (opt_list c.value) (opt_list c.flag) x m) [ inl k ↦ opt_in lo hi c.value v x k | inr k ↦ opt_in lo hi c.flag f x k ]
own_sets lo hi Low Nothing h x m = absurd (none_in x m)
own_sets lo hi Low (Store ty e g) h x m = absurd (none_in x m)
own_sets lo hi Low (CopyBytes n e g) h x m = absurd (none_in x m)
own_sets lo hi Low (Undefine y) h x m = absurd (none_in x m)
own_sets lo hi Low (Checked c) h x m = absurd (none_in x m)
own_sets lo hi Low (Assume e) h x m = absurd (none_in x m)
own_sets lo hi Low (Sequence a b) h x m = absurd (none_in x m)
own_sets lo hi Low (If e a b) h x m = absurd (none_in x m)
own_sets lo hi Low (Loop at a) h x m = absurd (none_in x m)
own_sets lo hi Low (Block a) h x m = absurd (none_in x m)
own_sets lo hi Low (Exit k) h x m = absurd (none_in x m)
own_sets lo hi Low (Scope xs items) h x m = absurd (none_in x m)
own_sets lo hi Low (Switch e xs items) h x m = absurd (none_in x m)
own_sets lo hi Low (Goto l) h x m = absurd (none_in x m)
own_sets lo hi Low (Return e) h x m = absurd (none_in x m)
own_sets lo hi Low (Label at l) h x m = absurd (none_in x m)
own_sets lo hi Low (Case k) h x m = absurd (none_in x m)
own_sets lo hi Low Default h x m = absurd (none_in x m)

own_calls : (lo hi : ℕ) (Low : ℕ → Type 0) (a : CsStmtTree) → Puts lo hi Low a → (x : ℕ) → Contains (calls_of a) x → Low x
own_calls lo hi Low (Call c) (v, f, low) x m = elim (by_head c.function x [] m) [ inl e ↦ subst Low e low | inr k ↦ absurd (none_in x k) ]
own_calls lo hi Low (Set d e) h x m = absurd (none_in x m)
own_calls lo hi Low (Load d ty e) h x m = absurd (none_in x m)
own_calls lo hi Low (Input d t) h x m = absurd (none_in x m)
own_calls lo hi Low Nothing h x m = absurd (none_in x m)
own_calls lo hi Low (Store ty e g) h x m = absurd (none_in x m)
own_calls lo hi Low (CopyBytes n e g) h x m = absurd (none_in x m)
own_calls lo hi Low (Undefine y) h x m = absurd (none_in x m)
own_calls lo hi Low (Checked c) h x m = absurd (none_in x m)
own_calls lo hi Low (Assume e) h x m = absurd (none_in x m)
own_calls lo hi Low (Sequence a b) h x m = absurd (none_in x m)
own_calls lo hi Low (If e a b) h x m = absurd (none_in x m)
own_calls lo hi Low (Loop at a) h x m = absurd (none_in x m)
own_calls lo hi Low (Block a) h x m = absurd (none_in x m)
own_calls lo hi Low (Exit k) h x m = absurd (none_in x m)
own_calls lo hi Low (Scope xs items) h x m = absurd (none_in x m)
own_calls lo hi Low (Switch e xs items) h x m = absurd (none_in x m)
own_calls lo hi Low (Goto l) h x m = absurd (none_in x m)
own_calls lo hi Low (Return e) h x m = absurd (none_in x m)
own_calls lo hi Low (Label at l) h x m = absurd (none_in x m)
own_calls lo hi Low (Case k) h x m = absurd (none_in x m)
own_calls lo hi Low Default h x m = absurd (none_in x m)

-- code that puts so sets and calls so
pub sets_in : (lo hi : ℕ) (Low : ℕ → Type 0) (a : CsStmtTree) → Every (Puts lo hi Low) a → (x : ℕ) → Contains (gathered temps_of a) x → In lo hi x
sets_in lo hi Low a h = every_gathered (Puts lo hi Low) temps_of (In lo hi) (own_sets lo hi Low) a h

pub calls_in : (lo hi : ℕ) (Low : ℕ → Type 0) (a : CsStmtTree) → Every (Puts lo hi Low) a → (x : ℕ) → Contains (gathered calls_of a) x → Low x
calls_in lo hi Low a h = every_gathered (Puts lo hi Low) calls_of Low (own_calls lo hi Low) a h

-- ---- a wider range

in_more : (lo hi lo' hi' d : ℕ) → lo' ≤ lo → hi ≤ hi' → In lo hi d → In lo' hi' d
in_more lo hi lo' hi' d le ge (a, b) = (omega (arith, le, a), omega (arith, ge, b))

opt_more : (lo hi lo' hi' : ℕ) (o : Option ℕ) → lo' ≤ lo → hi ≤ hi' → IfSome o (In lo hi) → IfSome o (In lo' hi')
opt_more lo hi lo' hi' None le ge h = tt
opt_more lo hi lo' hi' (Some d) le ge h = in_more lo hi lo' hi' d le ge h

puts_more : (lo hi lo' hi' : ℕ) (Low : ℕ → Type 0) → lo' ≤ lo → hi ≤ hi' → (a : CsStmtTree) → Puts lo hi Low a → Puts lo' hi' Low a
puts_more lo hi lo' hi' Low le ge (Set d e) h = in_more lo hi lo' hi' d le ge h
puts_more lo hi lo' hi' Low le ge (Load d ty e) h = in_more lo hi lo' hi' d le ge h
puts_more lo hi lo' hi' Low le ge (Input d t) h = in_more lo hi lo' hi' d le ge h
puts_more lo hi lo' hi' Low le ge (Call c) (v, f, low) = (opt_more lo hi lo' hi' c.value le ge v, opt_more lo hi lo' hi' c.flag le ge f, low)
puts_more lo hi lo' hi' Low le ge Nothing h = tt
puts_more lo hi lo' hi' Low le ge (Store ty e g) h = tt
puts_more lo hi lo' hi' Low le ge (CopyBytes n e g) h = tt
puts_more lo hi lo' hi' Low le ge (Undefine y) h = tt
puts_more lo hi lo' hi' Low le ge (Checked c) h = tt
puts_more lo hi lo' hi' Low le ge (Assume e) h = tt
puts_more lo hi lo' hi' Low le ge (Sequence a b) h = tt
puts_more lo hi lo' hi' Low le ge (If e a b) h = tt
puts_more lo hi lo' hi' Low le ge (Loop at a) h = tt
puts_more lo hi lo' hi' Low le ge (Block a) h = tt
puts_more lo hi lo' hi' Low le ge (Exit k) h = tt
puts_more lo hi lo' hi' Low le ge (Scope xs items) h = tt
puts_more lo hi lo' hi' Low le ge (Switch e xs items) h = tt
puts_more lo hi lo' hi' Low le ge (Goto l) h = tt
puts_more lo hi lo' hi' Low le ge (Return e) h = tt
puts_more lo hi lo' hi' Low le ge (Label at l) h = tt
puts_more lo hi lo' hi' Low le ge (Case k) h = tt
puts_more lo hi lo' hi' Low le ge Default h = tt

-- by depths
pub wider : (Low : ℕ → Type 0) (d k e m : ℕ) → e ≤ d → k ≤ m → (a : CsStmtTree) → Every (Puts (12 * d) (12 * k) Low) a → Every (Puts (12 * e) (12 * m) Low) a
wider Low d k e m le ge a h =
    every_map (Puts (12 * d) (12 * k) Low) (Puts (12 * e) (12 * m) Low) (puts_more (12 * d) (12 * k) (12 * e) (12 * m) Low (omega (arith, le)) (omega (arith, ge))) a h

pub wider_in : (Low : ℕ → Type 0) (d k e m : ℕ) → e ≤ d → k ≤ m → (items : CsStmtTrees) → EveryItem (Puts (12 * d) (12 * k) Low) items → EveryItem (Puts (12 * e) (12 * m) Low) items
wider_in Low d k e m le ge items h =
    every_map_in (Puts (12 * d) (12 * k) Low) (Puts (12 * e) (12 * m) Low) (puts_more (12 * d) (12 * k) (12 * e) (12 * m) Low (omega (arith, le)) (omega (arith, ge))) items h

pub below_more : (lo hi : ℕ) → lo ≤ hi → (e : CsExprTree) → Below lo e → Below hi e
below_more lo hi h (Const t k) b = tt
below_more lo hi h Null b = tt
below_more lo hi h (Temp i) b = omega (arith, h, b)
below_more lo hi h (Address x) b = tt
below_more lo hi h (Unary op a) b = below_more lo hi h a b
below_more lo hi h (Binary op a c) b = (below_more lo hi h a b.0, below_more lo hi h c b.1)
below_more lo hi h (Convert t a) b = below_more lo hi h a b

-- ---- rows

pub in_row : (ty : Scalar) → scalar_place ty < 12
in_row (scalars.Int Char) = omega arith
in_row (scalars.Int SChar) = omega arith
in_row (scalars.Int UChar) = omega arith
in_row (scalars.Int Short) = omega arith
in_row (scalars.Int UShort) = omega arith
in_row (scalars.Int Int) = omega arith
in_row (scalars.Int UInt) = omega arith
in_row (scalars.Int Long) = omega arith
in_row (scalars.Int ULong) = omega arith
in_row (scalars.Int LLong) = omega arith
in_row (scalars.Int ULLong) = omega arith
in_row scalars.Pointer = omega arith

pub temp_below : (d : ℕ) (ty : Scalar) → temp_at d ty < 12 * suc d
temp_below d ty = let h = in_row ty in omega (arith, h)

-- the temporary of a depth in the rows of code that begins before it
pub temp_in : (d k m : ℕ) (ty : Scalar) → d ≤ k → suc k ≤ m → In (12 * d) (12 * m) (temp_at k ty)
temp_in d k m ty le lt = let h = in_row ty in (omega (arith, le), omega (arith, h, lt))

pub checks_put : (lo hi : ℕ) (Low : ℕ → Type 0) (cs : List CsCheckTree) → Every (Puts lo hi Low) (checks cs)
checks_put lo hi Low [] = tt
checks_put lo hi Low (c ∷ cs) = (tt, tt, checks_put lo hi Low cs)
