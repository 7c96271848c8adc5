-- What statements use, and that blocks list none of what stands in them uses.
use Rattle.std.proofs.Common.{◌≤◌, ◌⊎◌, inl, inr, ℕ, List, [], ◌∷◌, ◌++◌, Option, Some, None, sym, subst, arith}
use Rattle.std.specs.Prelude.{Contains}
use Rattle.std.proofs.lemmas.List.{append_assoc}
use Rattle.std.specs.List.{flat_map}
use Rattle.std.proofs.lemmas.List.Concat.{flat_map-cons}
use Rattle.std.proofs.lemmas.List.Elements.{Contains-append_left, Contains-append_right}
use Rattle.c_syntax.specs.TypedExpr.{TExprTree}
use Rattle.c_syntax.specs.TypedStmt.{TInitTree, Store, Copy, TStmtTree, TStmtTrees, none, more}
use Rattle.c_syntax.specs.TypedStmt as stmts
use Rattle.c_syntax.specs.Program.{TProgramTree}
use Rattle.c_layout.specs.Calls.{PlacedCall, calls_of, init_calls, calls_if_there, stmt_calls, item_calls}
use Rattle.c_layout.specs.Jumps.{listed_of, listed_in}
use Rattle.c_objects.proofs.Listed.{by_sum, distinct, listed_times, times, times_append}
use Rattle.c_steps_laws.specs.Opens.{Use, Object, Function, Lists, Misses, OpensMaybe, OpensInits, OpensStmt, OpensItems, Apart, ApartItems, OpensCall}
use Rattle.c_steps_laws.proofs.Listing.{CallsUse, use_left, use_right, both_use, value_uses}

maybe_uses : (p : TProgramTree) (u : Use) (e : Option TExprTree) → OpensMaybe (OpensCall p) e u → CallsUse p (calls_if_there e) u
maybe_uses p u None h = absurd h
maybe_uses p u (Some e) h = value_uses p u e h

inits_use : (p : TProgramTree) (u : Use) (inits : List TInitTree) → OpensInits (OpensCall p) inits u → CallsUse p (flat_map init_calls inits) u
inits_use p u [] h = absurd h
inits_use p u (Store offset ty e ∷ inits) h =
    subst (λ cs. CallsUse p cs u) (sym (flat_map-cons init_calls (Store offset ty e) inits))
    (both_use p _ _ (calls_of e) (flat_map init_calls inits) u (value_uses p u e) (inits_use p u inits) h)
inits_use p u (Copy offset extent e ∷ inits) h =
    subst (λ cs. CallsUse p cs u) (sym (flat_map-cons init_calls (Copy offset extent e) inits))
    (both_use p _ _ (calls_of e) (flat_map init_calls inits) u (value_uses p u e) (inits_use p u inits) h)

-- a list of objects has it, or one of the calls uses it
abbrev pub Uses : TProgramTree → List ℕ → List PlacedCall → Use → Type 0
Uses p xs calls u = Lists xs u ⊎ CallsUse p calls u

lists_left : (a b : List ℕ) (u : Use) → Lists a u → Lists (a ++ b) u
lists_left a b (Object y) h = Contains-append_left a b y h
lists_left a b (Function f) h = h

lists_right : (a b : List ℕ) (u : Use) → Lists b u → Lists (a ++ b) u
lists_right a b (Object y) h = Contains-append_right a b y h
lists_right a b (Function f) h = h

left_uses : (p : TProgramTree) (a b : List ℕ) (c d : List PlacedCall) (u : Use) → Uses p a c u → Uses p (a ++ b) (c ++ d) u
left_uses p a b c d u (inl h) = inl (lists_left a b u h)
left_uses p a b c d u (inr h) = inr (use_left p c d u h)

right_uses : (p : TProgramTree) (a b : List ℕ) (c d : List PlacedCall) (u : Use) → Uses p b d u → Uses p (a ++ b) (c ++ d) u
right_uses p a b c d u (inl h) = inl (lists_right a b u h)
right_uses p a b c d u (inr h) = inr (use_right p c d u h)

-- calls in front, or behind, that list nothing
calls_before : (p : TProgramTree) (a : List ℕ) (c d : List PlacedCall) (u : Use) → Uses p a d u → Uses p a (c ++ d) u
calls_before p a c d u (inl h) = inl h
calls_before p a c d u (inr h) = inr (use_right p c d u h)

calls_behind : (p : TProgramTree) (a : List ℕ) (c d : List PlacedCall) (u : Use) → Uses p a c u → Uses p a (c ++ d) u
calls_behind p a c d u (inl h) = inl h
calls_behind p a c d u (inr h) = inr (use_left p c d u h)

list_before : (p : TProgramTree) (a b : List ℕ) (c : List PlacedCall) (u : Use) → Uses p b c u → Uses p (a ++ b) c u
list_before p a b c u (inl h) = inl (lists_right a b u h)
list_before p a b c u (inr h) = inr h

-- a `for`, but for the objects that it lists
for_uses : (p : TProgramTree) (u : Use) (head : TStmtTrees) (c e : Option TExprTree) (b : TStmtTree) → (OpensItems (OpensCall p) head u → Uses p (listed_in head) (item_calls head) u)
    → (OpensStmt (OpensCall p) b u → Uses p (listed_of b) (stmt_calls b) u)
    → OpensItems (OpensCall p) head u ⊎ (OpensMaybe (OpensCall p) c u ⊎ (OpensMaybe (OpensCall p) e u ⊎ OpensStmt (OpensCall p) b u))
    → Uses p (listed_in head ++ listed_of b) (item_calls head ++ calls_if_there c ++ calls_if_there e ++ stmt_calls b) u
for_uses p u head c e b f g (inl h) =
    left_uses p (listed_in head) (listed_of b) (item_calls head ++ calls_if_there c ++ calls_if_there e) (stmt_calls b) u
    (calls_behind p (listed_in head) (item_calls head ++ calls_if_there c) (calls_if_there e) u (calls_behind p (listed_in head) (item_calls head) (calls_if_there c) u (f h)))
for_uses p u head c e b f g (inr (inl h)) =
    inr (use_left p (item_calls head ++ calls_if_there c ++ calls_if_there e) (stmt_calls b) u
    (use_left p (item_calls head ++ calls_if_there c) (calls_if_there e) u (use_right p (item_calls head) (calls_if_there c) u (maybe_uses p u c h))))
for_uses p u head c e b f g (inr (inr (inl h))) =
    inr (use_left p (item_calls head ++ calls_if_there c ++ calls_if_there e) (stmt_calls b) u
    (use_right p (item_calls head ++ calls_if_there c) (calls_if_there e) u (maybe_uses p u e h)))
for_uses p u head c e b f g (inr (inr (inr h))) =
    right_uses p (listed_in head) (listed_of b) (item_calls head ++ calls_if_there c ++ calls_if_there e) (stmt_calls b) u (g h)

mutual
  unfolding stmt_calls listed_of

  pub stmt_uses : (p : TProgramTree) (u : Use) (b : TStmtTree) → OpensStmt (OpensCall p) b u → Uses p (listed_of b) (stmt_calls b) u
  stmt_uses p u (stmts.Expr at e) h = inr (value_uses p u e h)
  stmt_uses p u (stmts.Block at kind xs items) (inl h) = inl (lists_left xs (listed_in items) u h)
  stmt_uses p u (stmts.Block at kind xs items) (inr h) = list_before p xs (listed_in items) (item_calls items) u (items_use p u items h)
  stmt_uses p u (stmts.Declare at x inits z) h = inr (inits_use p u inits h)
  stmt_uses p u (stmts.If at c a b) (inl h) =
      inr (use_left p (calls_of c ++ stmt_calls a) (stmt_calls b) u (use_left p (calls_of c) (stmt_calls a) u (value_uses p u c h)))
  stmt_uses p u (stmts.If at c a b) (inr (inl h)) =
      left_uses p (listed_of a) (listed_of b) (calls_of c ++ stmt_calls a) (stmt_calls b) u (calls_before p (listed_of a) (calls_of c) (stmt_calls a) u (stmt_uses p u a h))
  stmt_uses p u (stmts.If at c a b) (inr (inr h)) = right_uses p (listed_of a) (listed_of b) (calls_of c ++ stmt_calls a) (stmt_calls b) u (stmt_uses p u b h)
  stmt_uses p u (stmts.While at c b) (inl h) = inr (use_left p (calls_of c) (stmt_calls b) u (value_uses p u c h))
  stmt_uses p u (stmts.While at c b) (inr h) = calls_before p (listed_of b) (calls_of c) (stmt_calls b) u (stmt_uses p u b h)
  stmt_uses p u (stmts.DoWhile at b c) (inl h) = calls_behind p (listed_of b) (stmt_calls b) (calls_of c) u (stmt_uses p u b h)
  stmt_uses p u (stmts.DoWhile at b c) (inr h) = inr (use_right p (stmt_calls b) (calls_of c) u (value_uses p u c h))
  stmt_uses p u (stmts.For at xs head c e b) (inl h) = inl (lists_left (xs ++ listed_in head) (listed_of b) u (lists_left xs (listed_in head) u h))
  stmt_uses p u (stmts.For at xs head c e b) (inr h) =
      subst (λ l. Uses p l (item_calls head ++ calls_if_there c ++ calls_if_there e ++ stmt_calls b) u) (sym (append_assoc xs (listed_in head) (listed_of b)))
      (list_before p xs (listed_in head ++ listed_of b) (item_calls head ++ calls_if_there c ++ calls_if_there e ++ stmt_calls b) u
      (for_uses p u head c e b (items_use p u head) (stmt_uses p u b) h))
  stmt_uses p u (stmts.Switch at e kind xs items) (inl h) = inr (use_left p (calls_of e) (item_calls items) u (value_uses p u e h))
  stmt_uses p u (stmts.Switch at e kind xs items) (inr (inl h)) = inl (lists_left xs (listed_in items) u h)
  stmt_uses p u (stmts.Switch at e kind xs items) (inr (inr h)) =
      calls_before p (xs ++ listed_in items) (calls_of e) (item_calls items) u (list_before p xs (listed_in items) (item_calls items) u (items_use p u items h))
  stmt_uses p u (stmts.Return at e) h = inr (maybe_uses p u e h)
  stmt_uses p u (stmts.Empty at) h = absurd h
  stmt_uses p u (stmts.Static at x) h = absurd h
  stmt_uses p u (stmts.Break at) h = absurd h
  stmt_uses p u (stmts.Continue at) h = absurd h
  stmt_uses p u (stmts.Goto at j) h = absurd h
  stmt_uses p u (stmts.Label at j) h = absurd h
  stmt_uses p u (stmts.Case at n) h = absurd h
  stmt_uses p u (stmts.Default at) h = absurd h

  pub items_use : (p : TProgramTree) (u : Use) (items : TStmtTrees) → OpensItems (OpensCall p) items u → Uses p (listed_in items) (item_calls items) u
  items_use p u none h = absurd h
  items_use p u (more b rest) (inl h) = left_uses p (listed_of b) (listed_in rest) (stmt_calls b) (item_calls rest) u (stmt_uses p u b h)
  items_use p u (more b rest) (inr h) = right_uses p (listed_of b) (listed_in rest) (stmt_calls b) (item_calls rest) u (items_use p u rest h)

-- ---- blocks

-- each object is listed once, and the calls bring none of them to life
pub record IsSparse (p : TProgramTree) (xs : List ℕ) (calls : List PlacedCall) : Type 0 where
  pub once : (y : ℕ) → times y xs ≤ 1
  pub away : (call : PlacedCall) → Contains calls call → (y : ℕ) → OpensCall p call.callee (Object y) → Contains xs y → ⊥

sparse_left : (p : TProgramTree) (a b : List ℕ) (c : List PlacedCall) → IsSparse p (a ++ b) c → IsSparse p a c
sparse_left p a b c h = record {
  once = λ y. let all = h.once y in let sum = times_append y a b in omega (arith, all, sum);
  away = λ call made y o g. h.away call made y o (Contains-append_left a b y g);
}

sparse_right : (p : TProgramTree) (a b : List ℕ) (c : List PlacedCall) → IsSparse p (a ++ b) c → IsSparse p b c
sparse_right p a b c h = record {
  once = λ y. let all = h.once y in let sum = times_append y a b in omega (arith, all, sum);
  away = λ call made y o g. h.away call made y o (Contains-append_right a b y g);
}

calls_left : (p : TProgramTree) (a : List ℕ) (c d : List PlacedCall) → IsSparse p a (c ++ d) → IsSparse p a c
calls_left p a c d h = record { once = h.once; away = λ call made. h.away call (Contains-append_left c d call made) }

calls_right : (p : TProgramTree) (a : List ℕ) (c d : List PlacedCall) → IsSparse p a (c ++ d) → IsSparse p a d
calls_right p a c d h = record { once = h.once; away = λ call made. h.away call (Contains-append_right c d call made) }

-- of two lists none has what the other has
apart_parts : (p : TProgramTree) (a b : List ℕ) (c : List PlacedCall) → IsSparse p (a ++ b) c → (y : ℕ) → Contains a y → Contains b y → ⊥
apart_parts p a b c h y f g =
    let all = h.once y in let sum = times_append y a b in let first = listed_times y a f in let second = listed_times y b g in omega (arith, all, sum, first, second)

-- a block misses what stands in it
misses : (p : TProgramTree) (xs inner : List ℕ) (calls : List PlacedCall) (opened : Use → Type 0) → IsSparse p (xs ++ inner) calls
    → ((u : Use) → opened u → Uses p inner calls u) → Misses xs opened
misses p xs inner calls opened h uses = (
  distinct xs (sparse_left p xs inner calls h).once,
  (λ y c o. by_sum (uses (Object y) o) (λ g. apart_parts p xs inner calls h y c g) (λ g. h.away g.call g.made y g.used (Contains-append_left xs inner y c))),
)

mutual
  unfolding stmt_calls listed_of

  pub apart_stmt : (p : TProgramTree) (b : TStmtTree) → IsSparse p (listed_of b) (stmt_calls b) → Apart (OpensCall p) b
  apart_stmt p (stmts.Block at kind xs items) h = (
    misses p xs (listed_in items) (item_calls items) (OpensItems (OpensCall p) items) h (λ u. items_use p u items),
    apart_items p items (sparse_right p xs (listed_in items) (item_calls items) h),
  )
  apart_stmt p (stmts.If at c a b) h = (
    apart_stmt p a (calls_right p (listed_of a) (calls_of c) (stmt_calls a) (calls_left p (listed_of a) (calls_of c ++ stmt_calls a) (stmt_calls b)
        (sparse_left p (listed_of a) (listed_of b) (calls_of c ++ stmt_calls a ++ stmt_calls b) h))),
    apart_stmt p b (calls_right p (listed_of b) (calls_of c ++ stmt_calls a) (stmt_calls b) (sparse_right p (listed_of a) (listed_of b) (calls_of c ++ stmt_calls a ++ stmt_calls b) h)),
  )
  apart_stmt p (stmts.While at c b) h = apart_stmt p b (calls_right p (listed_of b) (calls_of c) (stmt_calls b) h)
  apart_stmt p (stmts.DoWhile at b c) h = apart_stmt p b (calls_left p (listed_of b) (stmt_calls b) (calls_of c) h)
  apart_stmt p (stmts.For at xs head c e b) h =
      let calls = item_calls head ++ calls_if_there c ++ calls_if_there e ++ stmt_calls b in
      let whole = subst (λ l. IsSparse p l calls) (append_assoc xs (listed_in head) (listed_of b)) h in
      let front = sparse_left p (xs ++ listed_in head) (listed_of b) calls h in (
        misses p xs (listed_in head ++ listed_of b) calls _ whole (λ u. for_uses p u head c e b (items_use p u head) (stmt_uses p u b)),
        apart_items p head (calls_left p (listed_in head) (item_calls head) (calls_if_there c) (calls_left p (listed_in head) (item_calls head ++ calls_if_there c) (calls_if_there e)
            (calls_left p (listed_in head) (item_calls head ++ calls_if_there c ++ calls_if_there e) (stmt_calls b) (sparse_right p xs (listed_in head) calls front)))),
        apart_stmt p b (calls_right p (listed_of b) (item_calls head ++ calls_if_there c ++ calls_if_there e) (stmt_calls b) (sparse_right p (xs ++ listed_in head) (listed_of b) calls h)),
      )
  apart_stmt p (stmts.Switch at e kind xs items) h =
      let g = calls_right p (xs ++ listed_in items) (calls_of e) (item_calls items) h in (
        misses p xs (listed_in items) (item_calls items) (OpensItems (OpensCall p) items) g (λ u. items_use p u items),
        apart_items p items (sparse_right p xs (listed_in items) (item_calls items) g),
      )
  apart_stmt p (stmts.Expr at e) h = tt
  apart_stmt p (stmts.Declare at x inits z) h = tt
  apart_stmt p (stmts.Return at e) h = tt
  apart_stmt p (stmts.Empty at) h = tt
  apart_stmt p (stmts.Static at x) h = tt
  apart_stmt p (stmts.Break at) h = tt
  apart_stmt p (stmts.Continue at) h = tt
  apart_stmt p (stmts.Goto at j) h = tt
  apart_stmt p (stmts.Label at j) h = tt
  apart_stmt p (stmts.Case at n) h = tt
  apart_stmt p (stmts.Default at) h = tt

  pub apart_items : (p : TProgramTree) (items : TStmtTrees) → IsSparse p (listed_in items) (item_calls items) → ApartItems (OpensCall p) items
  apart_items p none h = tt
  apart_items p (more b rest) h = (
    apart_stmt p b (calls_left p (listed_of b) (stmt_calls b) (item_calls rest) (sparse_left p (listed_of b) (listed_in rest) (stmt_calls b ++ item_calls rest) h)),
    apart_items p rest (calls_right p (listed_in rest) (stmt_calls b) (item_calls rest) (sparse_right p (listed_of b) (listed_in rest) (stmt_calls b ++ item_calls rest) h)),
  )
