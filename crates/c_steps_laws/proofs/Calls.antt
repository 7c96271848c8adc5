-- The row of a call: its arguments, and what it gives.
use Rattle.std.proofs.Common.{◌≡◌, ◌⊎◌, inl, inr, ℕ, Bool, true, false, List, [], ◌∷◌, map, Option, Some, None, refl, sym, ap, subst}
use Rattle.std.specs.Prelude.{if◌then◌else◌, IsSome, IsSomeAnd, slice_get}
use Rattle.c_syntax_written.specs.declared.int_type.IntType.TheVariants as ints
use Rattle.c_syntax_written.specs.declared.place.Pos.{Pos}
use Rattle.c_syntax.specs.Types.{CTypeTree, Void, Int, Pointer, Array, Struct, Function}
use Rattle.c_syntax.specs.TypedExpr.{TExprTree, Call, TExprTrees}
use Rattle.c_syntax.specs.TypedExpr as exprs
use Rattle.c_syntax.specs.TypedStmt.{TStmtTree}
use Rattle.c_syntax.specs.GivenType.{given_type}
use Rattle.c_syntax.specs.Program.{TFunctionTree, TProgramTree}
use Rattle.c_layout.specs.MainFunction.{is_main}
use Rattle.c_layout.specs.RowTypes.{IsScalar, is_void}
use Rattle.c_layout.specs.TypedNodes.{Scope, IsTypedExpr, AreTyped, ArgumentsRow, CallRow, types_of, object_type}
use Rattle.c_steps.specs.Work.{Item, GivesNothing, GivesZero, IsWrong, Enter}
use Rattle.c_steps.specs.Calls.{evals, at_end}
use Rattle.c_steps_laws.specs.Wants.{Want, Anything, want_of}
use Rattle.c_steps_laws.specs.Surroundings.{scope_at}
use Rattle.c_steps_laws.specs.Takes.{GivesAtEnd, nothing, zero, zero_any, wrong, args_on, Takes, eval, enter}
use Rattle.c_steps_laws.specs.Opens.{Use, Object, Function as Called, OpensAmong, OpensCall, Leads}
use Rattle.c_steps_laws.specs.Fits.{Closes, Lives, IsReady, Parted}
use Rattle.c_steps_laws.proofs.Rows.{same_want}
use Rattle.c_steps_laws.proofs.Rules.{fit}
use Rattle.c_steps_laws.proofs.Expressions.{CallRows}
use Rattle.c_steps_laws.proofs.Scope.{scoped}

-- what calls need of a program: results are scalars or void, and that of main is int
pub record AreCallable (p : TProgramTree) : Type 0 where
  pub results : (f : ℕ) (function : TFunctionTree) → slice_get p.functions f ≡ Some function → IsScalar function.result ⊎ (function.result ≡ Void)
  pub main : (f : ℕ) (function : TFunctionTree) → slice_get p.functions f ≡ Some function → is_main p f ≡ true → function.result ≡ Int ints.Int

abbrev call_want : CTypeTree → Bool → Want
call_want result true = want_of result
call_want result false = Anything

main_row : (result : CTypeTree) (at : Pos) (used : Bool) → result ≡ Int ints.Int → GivesAtEnd result (Some at) GivesZero (call_want result used)
main_row result at true e = subst (λ t. GivesAtEnd t (Some at) GivesZero (want_of t)) (sym e) zero
main_row result at false e = zero_any

end_row : (result : CTypeTree) (at : Pos) (main used : Bool) → IsScalar result ⊎ (result ≡ Void) → (main ≡ true → result ≡ Int ints.Int)
    → GivesAtEnd result (Some at) (if is_void result then GivesNothing else (if main then GivesZero else (if used then IsWrong else GivesNothing))) (call_want result used)
end_row Void at main true h f = nothing
end_row Void at main false h f = nothing
end_row (Int t) at true used h f = main_row (Int t) at used (f refl)
end_row (Int t) at false true h f = wrong refl
end_row (Int t) at false false h f = nothing
end_row (Pointer to c) at true used h f = main_row (Pointer to c) at used (f refl)
end_row (Pointer to c) at false true h f = wrong refl
end_row (Pointer to c) at false false h f = nothing
end_row (Array of c n) at main used (inl h) f = absurd h
end_row (Array of c n) at main used (inr h) f = absurd (cc)
end_row (Struct n) at main used (inl h) f = absurd h
end_row (Struct n) at main used (inr h) f = absurd (cc)
end_row (Function n) at main used (inl h) f = absurd h
end_row (Function n) at main used (inr h) f = absurd (cc)

scope_evals : (p : TProgramTree) (r : CTypeTree) (args : TExprTrees) (w : List Item) → scope_at p r (evals args w) ≡ scope_at p r w
scope_evals p r exprs.none w = refl
scope_evals p r (exprs.more e rest) w = scope_evals p r rest w

takes_evals : (p : TProgramTree) (r : CTypeTree) (args : TExprTrees) (tys : List CTypeTree) (w : List Item) (ts : List Want) → AreTyped (scope_at p r w) args
    → ArgumentsRow tys (types_of args) → Takes p r w (args_on (map want_of tys) ts) → Takes p r (evals args w) ts
unfolding IsTypedExpr types_of
takes_evals p r exprs.none [] w ts t row k = k
takes_evals p r exprs.none (ty ∷ tys) w ts t row k = absurd row
takes_evals p r (exprs.more e rest) [] w ts t row k = absurd row
takes_evals p r (exprs.more e rest) (ty ∷ tys) w ts (t, tr) (row, rows) k =
    eval true (subst (λ (s : Scope). IsTypedExpr s true e) (sym (scope_evals p r rest w)) t)
    (takes_evals p r rest tys w (want_of (given_type e) ∷ ts) tr rows
    (subst (λ x. Takes p r w (args_on (map want_of tys) (x ∷ ts))) (sym (same_want (given_type e) ty row.same)) k))

param_map : (p : TProgramTree) (xs : List ℕ) → map want_of (map (λ x. object_type p x) xs) ≡ map (λ x. want_of (object_type p x)) xs
param_map p [] = refl
param_map p (x ∷ xs) = ap (λ ws. want_of (object_type p x) ∷ ws) (param_map p xs)

closes_evals : (args : TExprTrees) (w : List Item) (y : ℕ) → Closes (evals args w) y → Closes w y
closes_evals exprs.none w y h = h
closes_evals (exprs.more e rest) w y h = closes_evals rest w y h

evals_closes : (args : TExprTrees) (w : List Item) (y : ℕ) → Closes w y → Closes (evals args w) y
evals_closes exprs.none w y h = h
evals_closes (exprs.more e rest) w y h = evals_closes rest w y h

lives_evals : (p : TProgramTree) (args : TExprTrees) (w : List Item) (y : ℕ) → Lives p (evals args w) y → Lives p w y
lives_evals p args w y (inl g) = inl g
lives_evals p args w y (inr g) = inr (closes_evals args w y g)

evals_lives : (p : TProgramTree) (args : TExprTrees) (w : List Item) (y : ℕ) → Lives p w y → Lives p (evals args w) y
evals_lives p args w y (inl g) = inl g
evals_lives p args w y (inr g) = inr (evals_closes args w y g)

ready_evals : (p : TProgramTree) (args : TExprTrees) (w : List Item) (u : Use) → IsReady p w u → IsReady p (evals args w) u
ready_evals p args w (Object y) (lt, f) = (lt, λ g. f (lives_evals p args w y g))
ready_evals p args w (Called g) h = h

parted_evals : (p : TProgramTree) (args : TExprTrees) (w : List Item) → ((y : Use) → OpensAmong (OpensCall p) args y → IsReady p w y) → Parted (OpensCall p) p w
    → Parted (OpensCall p) p (evals args w)
parted_evals p exprs.none w f q = q
parted_evals p (exprs.more e rest) w f q = ((λ y o. ready_evals p rest w y (f y (inl o))), tt, parted_evals p rest w (λ y o. f y (inr o)) q)

-- the function is there
pub record Found (p : TProgramTree) (g : ℕ) (ty : CTypeTree) (args : TExprTrees) : Type 0 where
  pub function : TFunctionTree
  pub is : slice_get p.functions g ≡ Some function
  pub row : CallRow p function ty (types_of args)

found_case : (p : TProgramTree) (g : ℕ) (ty : CTypeTree) (args : TExprTrees) (o : Option TFunctionTree) → slice_get p.functions g ≡ o
    → IsSomeAnd o (λ f. CallRow p f ty (types_of args)) → Found p g ty args
found_case p g ty args None e h = absurd h
found_case p g ty args (Some f) e h = record { function = f; is = e; row = h }

found : (p q : TProgramTree) (g : ℕ) (ty : CTypeTree) (args : TExprTrees) → q ≡ p → IsSomeAnd (slice_get q.functions g) (λ f. CallRow q f ty (types_of args)) → Found p g ty args
found p q g ty args e h =
    found_case p g ty args (slice_get p.functions g) refl (subst (λ (x : TProgramTree). IsSomeAnd (slice_get x.functions g) (λ f. CallRow x f ty (types_of args))) e h)

has_body : (o : Option TStmtTree) → IsSome o → (body : TStmtTree) × (o ≡ Some body)
has_body None h = absurd (cc)
has_body (Some body) h = (body, refl)

some_body : (o : Option TFunctionTree) (function : TFunctionTree) → o ≡ Some function → IsSomeAnd o (λ f. IsSome f.body) → IsSome function.body
some_body None function e h = absurd h
some_body (Some f) function e h = let same : f ≡ function = cc in subst (λ (x : TFunctionTree). IsSome x.body) same h

want_call : (at : Pos) (g : ℕ) (ty : CTypeTree) (used : Bool) (args : TExprTrees) → call_want ty used ≡ want_of (given_type (Call at g ty used args))
want_call at g ty true args = refl
want_call at g ty false args = refl

module _ (p : TProgramTree) (ok : AreCallable p) where
  pub call_row : CallRows p
  unfolding IsTypedExpr
  call_row at g ty used args wanted r w ts (mark, ta, there) k s m i d f q l h =
      let x = found p (scope_at p r w).program g ty args (scoped k).program there in
      let own : Leads p g g = record { chain = []; calls = tt; ends = refl } in
      let b = has_body x.function.body (some_body (slice_get p.functions g) x.function x.is (f (Called g) (inr own))) in
      let row = subst (λ t. GivesAtEnd x.function.result (Some at) (at_end p g t used) (call_want t used)) (sym x.row.0)
      (end_row x.function.result at (is_main p g) used (ok.results g x.function x.is) (ok.main g x.function x.is)) in
      let inside = enter {r = r} {at = Some at} {w = w} {ts = ts} x.is b.1 row (subst (λ t. Takes p r w (t ∷ ts)) (sym (want_call at g ty used args)) k) in
      fit p r _ s m i ts
      (takes_evals p r args (map (λ y. object_type p y) x.function.params) (Enter (Some at) g (at_end p g ty used) ∷ w) ts ta x.row.1
      (subst (λ ws. Takes p r (Enter (Some at) g (at_end p g ty used) ∷ w) (args_on ws ts)) (sym (param_map p x.function.params)) inside)) d
      (parted_evals p args (Enter (Some at) g (at_end p g ty used) ∷ w) (λ y o. f y (inl o)) ((λ y o. f y (inr o)), tt, q))
      ((λ y o. l.0 y (lives_evals p args (Enter (Some at) g (at_end p g ty used) ∷ w) y o)), (λ y o. evals_lives p args (Enter (Some at) g (at_end p g ty used) ∷ w) y (l.1 y o)))
      h
