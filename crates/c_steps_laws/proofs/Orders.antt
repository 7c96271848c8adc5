-- Calls lead from no function back to itself, and what a body uses lives nowhere else.
use Rattle.std.proofs.Common.{◌≡◌, ◌<◌, ◌≤◌, ℕ, zero, suc, Bool, true, false, List, [], ◌∷◌, ◌++◌, take, drop, get_or, Option, Some, None, refl, sym, ap, ◌∙◌, subst, arith}
use Rattle.std.specs.Prelude.{if◌then◌else◌, is_some, All, Contains, IsSomeAnd, IfSome, slice_get, unwrap_or, option_map, option_and_then}
use Rattle.std.proofs.lemmas.Bool.{cases_lt}
use Rattle.std.proofs.Math.Seq.{drop-cons}
use Rattle.std.proofs.lemmas.List.{take-append-drop}
use Rattle.std.proofs.lemmas.List.Elements.{All-contains}
use Rattle.std.proofs.lemmas.Option.{slice_get_within, slice_get-get_or}
use Rattle.c_syntax.specs.declared.program.Plan.{Plan}
use Rattle.c_syntax.specs.Types.{ObjectTree}
use Rattle.c_syntax.specs.TypedStmt.{TStmtTree}
use Rattle.c_syntax.specs.Program.{TFunctionTree, TProgramTree}
use Rattle.c_layout.specs.Calls.{PlacedCall, function_calls, stmt_calls, IsChain, chain_end}
use Rattle.c_layout.specs.Plans.{IsPlanFor}
use Rattle.c_layout.specs.WellTyped.{IsWellTyped, IsAutomaticObject, listed}
use Rattle.c_objects.proofs.Listed.{by_head, by_sum, first_in, listed_times, none_in, rest_in, times, times_append, times_listed}
use Rattle.c_steps_laws.specs.Opens.{Use, Object, Function, OpensCall, Leads}

-- ---- places in a list

pub some_is : {X : Type 0} {a b : X} → Some a ≡ Some b → a ≡ b
some_is e = cc

-- what stands in a list stands at a place of it
place_in : (xs : List ℕ) (y : ℕ) → Contains xs y → (k : ℕ) × (slice_get xs k ≡ Some y)
place_in xs y (k, lt, e) = (k, slice_get-get_or xs k y lt ∙ ap (λ z. Some z) e)

in_place : (xs : List ℕ) (k y : ℕ) → slice_get xs k ≡ Some y → Contains xs y
in_place xs k y e = let lt = slice_get_within xs k y e in (k, lt, some_is (sym (slice_get-get_or xs k y lt) ∙ e))

-- what stands in a front stands at a place before its end
place_before : (xs : List ℕ) (k y : ℕ) → Contains (take k xs) y → (j : ℕ) × (j < k) × (slice_get xs j ≡ Some y)
place_before xs zero y c = absurd (none_in y c)
place_before [] (suc k) y c = absurd (none_in y c)
place_before (x ∷ xs) (suc k) y c =
    by_sum (by_head x y (take k xs) c) (λ e. (0, omega arith, ap (λ z. Some z) e))
    (λ d. let r = place_before xs k y d in let lt = r.1 in (suc r.0, omega (arith, lt), r.2))

before_place : (xs : List ℕ) (j k y : ℕ) → j < k → slice_get xs j ≡ Some y → Contains (take k xs) y
before_place [] zero k y lt e = absurd (cc)
before_place [] (suc j) k y lt e = absurd (cc)
before_place (x ∷ xs) j zero y lt e = absurd (omega (arith, lt))
before_place (x ∷ xs) zero (suc k) y lt e = subst (λ z. Contains (x ∷ take k xs) z) (some_is e) (first_in x (take k xs))
before_place (x ∷ xs) (suc j) (suc k) y lt e = rest_in x y (take k xs) (before_place xs j k y (omega (arith, lt)) e)

-- what stands at a place and before it stands twice
twice : (xs : List ℕ) (j k y : ℕ) → j < k → slice_get xs j ≡ Some y → slice_get xs k ≡ Some y → 2 ≤ times y xs
twice xs j k y lt e f =
    let front = listed_times y (take k xs) (before_place xs j k y lt e) in
    let cut = drop-cons xs k y (slice_get_within xs k y f) in
    let here : get_or xs k y ≡ y = some_is (sym (slice_get-get_or xs k y (slice_get_within xs k y f)) ∙ f) in
    let rest : 1 ≤ times y (drop k xs) = subst (λ l. 1 ≤ times y l) (sym cut) (subst (λ z. 1 ≤ times y (z ∷ drop (suc k) xs)) (sym here) (listed_times y (y ∷ drop (suc k) xs) (first_in y (drop (suc k) xs)))) in
    let both = times_append y (take k xs) (drop k xs) in
    let whole : times y (take k xs ++ drop k xs) ≡ times y xs = ap (λ l. times y l) (take-append-drop k xs) in
    omega (arith, front, rest, both, whole)

-- ---- the order of a plan

-- the body of a function, or none
pub body_of : (p : TProgramTree) (f : ℕ) (function : TFunctionTree) (body : TStmtTree) → slice_get p.functions f ≡ Some function → function.body ≡ Some body
    → function_calls p f ≡ stmt_calls body
body_of p f function body e g = rw e (rw g refl)

-- a function that calls has a body
pub record Calling (p : TProgramTree) (f : ℕ) : Type 0 where
  pub function : TFunctionTree
  pub body : TStmtTree
  pub found : slice_get p.functions f ≡ Some function
  pub is : function.body ≡ Some body

body_case : (p : TProgramTree) (f : ℕ) (function : TFunctionTree) (o : Option TStmtTree) (call : PlacedCall) → slice_get p.functions f ≡ Some function → function.body ≡ o
    → Contains (unwrap_or (option_map stmt_calls o) []) call → Calling p f
body_case p f function None call e g c = let lt = c.1 in absurd (omega (arith, lt))
body_case p f function (Some body) call e g c = record { function = function; body = body; found = e; is = g }

calling_case : (p : TProgramTree) (f : ℕ) (o : Option TFunctionTree) (call : PlacedCall) → slice_get p.functions f ≡ o
    → Contains (unwrap_or (option_map stmt_calls (option_and_then (λ function. function.body) o)) []) call → Calling p f
calling_case p f None call e c = let lt = c.1 in absurd (omega (arith, lt))
calling_case p f (Some function) call e c = body_case p f function function.body call e refl c

pub calling : (p : TProgramTree) (f : ℕ) (call : PlacedCall) → Contains (function_calls p f) call → Calling p f
calling p f call c = calling_case p f (slice_get p.functions f) call refl c

module _ (p : TProgramTree) (plan : Plan) (ok : IsPlanFor p plan) where
  ordered : (f : ℕ) (function : TFunctionTree) (body : TStmtTree) → slice_get p.functions f ≡ Some function → function.body ≡ Some body → times f plan.order ≡ 1
  ordered f function body e g =
      let all = subst (λ o. IfSome o (λ x. times f plan.order ≡ (if is_some x.body then 1 else 0))) e (ok.order_once f) in
      all ∙ ap (λ o. if is_some o then 1 else 0) g

  -- each callee stands before its caller
  callee_before : (k f : ℕ) (call : PlacedCall) → slice_get plan.order k ≡ Some f → Contains (function_calls p f) call → Contains (take k plan.order) call.callee
  callee_before k f call e c =
      All-contains (λ x. Contains (take k plan.order) x.callee) (function_calls p f) call
      (subst (λ o. IfSome o (λ g. All (λ x. Contains (take k plan.order) x.callee) (function_calls p g))) e (ok.callees_first k)) c

  -- a chain from a function that stands before a place ends in one that does
  chain_before : (k g : ℕ) (chain : List PlacedCall) → Contains (take k plan.order) g → IsChain p g chain → Contains (take k plan.order) (chain_end g chain)
  chain_before k g [] c t = c
  chain_before k g (call ∷ rest) c (made, t) =
      let at = place_before plan.order k g c in
      let next = place_before plan.order at.0 call.callee (callee_before at.0 g call at.2 made) in
      let less = at.1 in let more = next.1 in
      chain_before k call.callee rest (before_place plan.order next.0 k call.callee (omega (arith, less, more)) next.2) t

  -- no call leads back to its own function
  pub no_return : (f : ℕ) (call : PlacedCall) → Contains (function_calls p f) call → Leads p call.callee f → ⊥
  no_return f call made leads =
      let own = calling p f call made in
      let once = ordered f own.function own.body own.found own.is in
      let at = place_in plan.order f (times_listed f plan.order (omega (arith, once))) in
      let again = chain_before at.0 call.callee leads.chain (callee_before at.0 f call at.1 made) leads.calls in
      let before = place_before plan.order at.0 f (subst (λ z. Contains (take at.0 plan.order) z) leads.ends again) in
      let two = twice plan.order before.0 at.0 f before.1 before.2 at.1 in omega (arith, once, two)

-- one call more in front
pub lead_on : (p : TProgramTree) (f : ℕ) (call : PlacedCall) (g : ℕ) → Contains (function_calls p f) call → Leads p call.callee g → Leads p f g
lead_on p f call g made h = record { chain = call ∷ h.chain; calls = (made, h.calls); ends = h.ends }

pub use_on : (p : TProgramTree) (f : ℕ) (call : PlacedCall) (u : Use) → Contains (function_calls p f) call → OpensCall p call.callee u → OpensCall p f u
use_on p f call (Object y) made (g, leads, there) = (g, lead_on p f call g made leads, there)
use_on p f call (Function g) made leads = lead_on p f call g made leads

pub lead_here : (p : TProgramTree) (f : ℕ) → Leads p f f
lead_here p f = record { chain = []; calls = tt; ends = refl }

-- ---- where objects are listed

few_if : (z : Bool) (n : ℕ) → n ≡ (if z then 0 else 1) → n ≤ 1
few_if true n e = omega (arith, e)
few_if false n e = omega (arith, e)

no_object : (o : Option ObjectTree) → o ≡ None → IsSomeAnd o (λ object. object.is_static ≡ false) → ⊥
no_object None e h = h
no_object (Some x) e h = absurd (cc)

module _ (p : TProgramTree) (w : IsWellTyped p) where
  once_case : (y : ℕ) (o : Option ObjectTree) → slice_get p.objects y ≡ o → times y (listed p) ≤ 1
  once_case y (Some object) e =
      let is = subst (λ x. IfSome x (λ object. times y (listed p) ≡ (if object.is_static then 0 else 1))) e (w.listed_once y) in
      few_if object.is_static (times y (listed p)) is
  once_case y None e = by_sum (cases_lt 0 (times y (listed p)))
      (λ lt. absurd (no_object (slice_get p.objects y) e (All-contains (IsAutomaticObject p) (listed p) y w.listed_objects (times_listed y (listed p) (omega (arith, lt))))))
      (λ le. omega (arith, le))

  pub listed_at_most_once : (y : ℕ) → times y (listed p) ≤ 1
  listed_at_most_once y = once_case y (slice_get p.objects y) refl
