-- Functions that are lowered in an order: where each stands among them, and what lies below it.
use Rattle.std.proofs.Common.{◌≡◌, ◌⊎◌, inl, inr, ℕ, zero, suc, ◌+◌, ◌<◌, ◌≤◌, max, Bool, true, false, List, [], ◌∷◌, ◌++◌, length, take, Option, Some, None, refl, sym, ap, ◌∙◌, subst, arith}
use Rattle.std.specs.Prelude.{◌==◌, if◌then◌else◌, Contains, slice_get}
use Rattle.std.proofs.Math.Nat.{le-max_left, le-max_right}
use Rattle.std.proofs.lemmas.Bool.{cases_eq, eq-eqb, ne_eqb}
use Rattle.std.proofs.lemmas.List.Elements.{Contains-append_cases}
use Rattle.c_syntax.specs.TypedStmt.{TStmtTree}
use Rattle.c_syntax.specs.Program.{TFunctionTree, TProgramTree}
use Rattle.c_layout.specs.Calls.{PlacedCall, function_calls}
use Rattle.c_objects.proofs.Listed.{by_head, first_in, none_in, rest_in, listed_times, times, times_append}
use Rattle.lower_trees.specs.LowerStmt.{InLoop, lower_stmt}
use Rattle.lower_trees.specs.LowerProgram.{Placed, param_temps, body_code, top_in, function_in, behind_calls, placed_body, placed_at, lower_order, highest}

-- ---- the place of a number in an order, which is the length of the order where it is not there

abbrev pub first : ℕ → List ℕ → ℕ
first f [] = 0
first f (x ∷ xs) = if x == f then 0 else suc (first f xs)

first_here : (f x : ℕ) (xs : List ℕ) → x ≡ f → first f (x ∷ xs) ≡ 0
first_here f x xs e = rw (eq-eqb x f e) refl

first_later : (f x : ℕ) (xs : List ℕ) → (x ≡ f → ⊥) → first f (x ∷ xs) ≡ suc (first f xs)
first_later f x xs n = rw (ne_eqb x f n) refl

-- an order as what stands before a number, it, and what stands behind
pub record Split (f : ℕ) (order : List ℕ) : Type 0 where
  pub before : List ℕ
  pub after : List ℕ
  pub is : order ≡ before ++ f ∷ after
  pub place : first f order ≡ length before
  pub taken : take (length before) order ≡ before
  pub there : slice_get order (length before) ≡ Some f

split_first : (f x : ℕ) (xs : List ℕ) → x ≡ f → Split f (x ∷ xs)
split_first f x xs e = record { before = []; after = xs; is = ap (λ z. z ∷ xs) e; place = first_here f x xs e; taken = refl; there = ap (λ z. Some z) e }

split_later : (f x : ℕ) (xs : List ℕ) → (x ≡ f → ⊥) → Split f xs → Split f (x ∷ xs)
split_later f x xs n s = record {
  before = x ∷ s.before;
  after = s.after;
  is = ap (λ l. x ∷ l) s.is;
  place = first_later f x xs n ∙ ap suc s.place;
  taken = ap (λ l. x ∷ l) s.taken;
  there = s.there;
}

split_case : (f x : ℕ) (xs : List ℕ) → (x ≡ f) ⊎ (x ≡ f → ⊥) → Contains (x ∷ xs) f → (Contains xs f → Split f xs) → Split f (x ∷ xs)
split_case f x xs (inl e) c more = split_first f x xs e
split_case f x xs (inr n) c more = elim (by_head x f xs c) [
  | inl e ↦ absurd (n e)
  | inr d ↦ split_later f x xs n (more d)
]

pub split : (f : ℕ) (order : List ℕ) → Contains order f → Split f order
split f [] c = absurd (none_in f c)
split f (x ∷ xs) c = split_case f x xs (cases_eq x f) c (λ d. split f xs d)

-- what stands among the first ones has its place there
pub first_below : (g k : ℕ) (xs : List ℕ) → Contains (take k xs) g → first g xs < k
first_below g zero xs c = absurd (none_in g c)
first_below g (suc k) [] c = absurd (none_in g c)
first_below g (suc k) (x ∷ xs) c = elim (cases_eq x g) [
  | inl e ↦ let z = first_here g x xs e in omega (arith, z)
  | inr n ↦ elim (by_head x g (take k xs) c) [
    | inl e ↦ absurd (n e)
    | inr d ↦ let z = first_later g x xs n in let m = first_below g k xs d in omega (arith, z, m)
  ]
]

-- what stands once stands in one part alone
pub once_before : (g : ℕ) (xs ys : List ℕ) → times g (xs ++ ys) ≤ 1 → Contains xs g → Contains ys g → ⊥
once_before g xs ys h c d =
    let sum = times_append g xs ys in
    let a = listed_times g xs c in
    let b = listed_times g ys d in omega (arith, h, sum, a, b)

-- ---- functions behind it leave one as it is

body_number : (p : TProgramTree) (f d : ℕ) (function : TFunctionTree) (o : Option TStmtTree) → (placed_body p f d function o).number ≡ f
body_number p f d function None = refl
body_number p f d function (Some body) = refl

number_is : (p : TProgramTree) (f d : ℕ) (o : Option TFunctionTree) → (placed_at p f d o).number ≡ f
number_is p f d None = refl
number_is p f d (Some function) = body_number p f d function function.body

function_here : (placed : Placed) (done : List Placed) (g : ℕ) → placed.number ≡ g → function_in (placed ∷ done) g ≡ placed.function
function_here placed done g e = rw (eq-eqb placed.number g e) refl

function_past : (placed : Placed) (done : List Placed) (g : ℕ) → (placed.number ≡ g → ⊥) → function_in (placed ∷ done) g ≡ function_in done g
function_past placed done g n = rw (ne_eqb placed.number g n) refl

top_here : (placed : Placed) (done : List Placed) (g : ℕ) → placed.number ≡ g → top_in (placed ∷ done) g ≡ placed.top
top_here placed done g e = rw (eq-eqb placed.number g e) refl

top_past : (placed : Placed) (done : List Placed) (g : ℕ) → (placed.number ≡ g → ⊥) → top_in (placed ∷ done) g ≡ top_in done g
top_past placed done g n = rw (ne_eqb placed.number g n) refl

module _ (p : TProgramTree) where
  abbrev pub next : ℕ → List Placed → Placed
  next f done = placed_at p f (behind_calls done (function_calls p f)) (slice_get p.functions f)

  next_other : (x g : ℕ) (done : List Placed) → (x ≡ g → ⊥) → (next x done).number ≡ g → ⊥
  next_other x g done n e = n (sym (number_is p x (behind_calls done (function_calls p x)) (slice_get p.functions x)) ∙ e)

  order_then : (xs ys : List ℕ) (done : List Placed) → lower_order p (xs ++ ys) done ≡ lower_order p ys (lower_order p xs done)
  order_then [] ys done = refl
  order_then (x ∷ xs) ys done = order_then xs ys (next x done ∷ done)

  pub function_later : (xs : List ℕ) (done : List Placed) (g : ℕ) → (Contains xs g → ⊥) → function_in (lower_order p xs done) g ≡ function_in done g
  function_later [] done g out = refl
  function_later (x ∷ xs) done g out =
      function_later xs (next x done ∷ done) g (λ c. out (rest_in x g xs c))
      ∙ function_past (next x done) done g (next_other x g done (λ e. out (subst (λ z. Contains (x ∷ xs) z) e (first_in x xs))))

  top_later : (xs : List ℕ) (done : List Placed) (g : ℕ) → (Contains xs g → ⊥) → top_in (lower_order p xs done) g ≡ top_in done g
  top_later [] done g out = refl
  top_later (x ∷ xs) done g out =
      top_later xs (next x done ∷ done) g (λ c. out (rest_in x g xs c))
      ∙ top_past (next x done) done g (next_other x g done (λ e. out (subst (λ z. Contains (x ∷ xs) z) e (first_in x xs))))

-- ---- rows

either_most : (b : Bool) (x y m : ℕ) → x ≤ m → y ≤ m → (if b then x else y) ≤ m
either_most true x y m h k = h
either_most false x y m h k = k

pub top_high : (done : List Placed) (g : ℕ) → top_in done g ≤ highest done
top_high [] g = omega arith
top_high (placed ∷ done) g =
    let a = le-max_left placed.top (highest done) in
    let b = le-max_right placed.top (highest done) in
    let r = top_high done g in
    either_most (placed.number == g) placed.top (top_in done g) (max placed.top (highest done)) a (omega (arith, b, r))

one_call : (k c : PlacedCall) (i : ℕ) → i < 1 → Rattle.std.specs.Prelude.slice_index_or (k ∷ []) i c ≡ c → k ≡ c
one_call k c zero lt e = e
one_call k c (suc i) lt e = absurd (omega (arith, lt))

pub behind_each : (done : List Placed) (calls : List PlacedCall) (c : PlacedCall) → Contains calls c → top_in done c.callee ≤ behind_calls done calls
behind_each done [] c (i, lt, e) = absurd (omega (arith, lt))
behind_each done (k ∷ calls) c h =
    let a = le-max_left (top_in done k.callee) (behind_calls done calls) in
    let b = le-max_right (top_in done k.callee) (behind_calls done calls) in
    elim (Contains-append_cases (k ∷ []) calls c h) [
      | inl m ↦ let same = one_call k c m.0 m.1 m.2 in
          subst (λ (z : PlacedCall). top_in done z.callee ≤ max (top_in done k.callee) (behind_calls done calls)) same a
      | inr m ↦ let r = behind_each done calls c m in omega (arith, b, r)
    ]

-- ---- a function that has a body and stands once

-- what it is lowered to, from its first row on; its rows, and those of what it calls, which lie below
pub record Stands (p : TProgramTree) (all : List Placed) (f : ℕ) (function : TFunctionTree) (body : TStmtTree) : Type 0 where
  pub base : ℕ
  pub is : function_in all f ≡ record { params = param_temps p base function.params; body = body_code p f base function.params body }
  pub own : top_in all f ≡ max (base + length function.params) (lower_stmt p base InLoop body).top
  pub below : (c : PlacedCall) → Contains (function_calls p f) c → top_in all c.callee ≤ base

module _ (p : TProgramTree) (f : ℕ) (function : TFunctionTree) (body : TStmtTree) (found : slice_get p.functions f ≡ Some function) (has : function.body ≡ Some body) where
  -- as the order goes over it
  placed_is : (d : ℕ) → placed_at p f d (slice_get p.functions f) ≡ placed_body p f d function (Some body)
  placed_is d = ap (λ o. placed_at p f d o) found ∙ ap (λ o. placed_body p f d function o) has

  pub stands : (xs ys : List ℕ) → (Contains ys f → ⊥) → ((c : PlacedCall) → Contains (function_calls p f) c → Contains (f ∷ ys) c.callee → ⊥)
      → Stands p (lower_order p (xs ++ f ∷ ys) []) f function body
  stands xs ys out apart =
      let done = lower_order p xs [] in
      let base = behind_calls done (function_calls p f) in
      let n = next p f done in
      let number = number_is p f base (slice_get p.functions f) in
      subst (λ all. Stands p all f function body) (sym (order_then p xs (f ∷ ys) [])) (record {
        base = base;
        is = function_later p ys (n ∷ done) f out ∙ function_here n done f number ∙ ap (λ (z : Placed). z.function) (placed_is base);
        own = top_later p ys (n ∷ done) f out ∙ top_here n done f number ∙ ap (λ (z : Placed). z.top) (placed_is base);
        below = λ c m.
            let away = apart c m in
            let same = top_later p ys (n ∷ done) c.callee (λ k. away (rest_in f c.callee ys k))
            ∙ top_past n done c.callee (λ e. away (subst (λ z. Contains (f ∷ ys) z) (sym number ∙ e) (first_in f ys))) in
            let le = behind_each done (function_calls p f) c m in omega (arith, same, le);
      })
