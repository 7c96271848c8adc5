-- Calls are followed with one unit of fuel more than the bodies of what is called.
use Rattle.std.proofs.Common.{◌≡◌, ◌⊎◌, inl, inr, ℕ, zero, suc, ◌*◌, ◌<◌, ◌≤◌, List, [], ◌∷◌, ◌++◌, length, Option, Some, None, Bool, true, false, refl, sym, ◌∙◌, subst, ap, arith, pos}
use Rattle.std.proofs.lemmas.List.{append-nil}
use Rattle.std.specs.Prelude.{IsSomeAnd, if◌then◌else◌, map, slice_get}
use Rattle.c_syntax_written.specs.declared.place.Pos.{Pos}
use Rattle.c_syntax_written.specs.declared.int_type.IntType.TheVariants as ints
use Rattle.c_syntax.specs.declared.program.Plan.{Plan}
use Rattle.c_syntax.specs.Types.{CTypeTree}
use Rattle.c_syntax.specs.Types as types
use Rattle.c_syntax.specs.Program.{TProgramTree}
use Rattle.c_layout.specs.MainFunction.{is_main}
use Rattle.c_layout.specs.RowTypes.{IsScalar, is_void}
use Rattle.c_layout.specs.TypedNodes.{ArgumentsRow, CallRow, object_type}
use Rattle.c_layout.specs.WellTyped.{IsTypedFunction}
use Rattle.block_mem.specs.declared.types.Scalar.{Scalar}
use Rattle.block_mem.specs.declared.types.Scalar.TheVariants as scalars
use Rattle.block_mem.specs.declared.types.Value.{Value}
use Rattle.block_mem.specs.declared.types.Value.TheVariants as values
use Rattle.c_values.specs.declared.values.Given.TheVariants as givens
use Rattle.c_values.specs.Values.{scalar_of}
use Rattle.c_steps.specs.Work.{Item, AtEnd, GivesNothing, GivesZero, IsWrong, Enter, Reach}
use Rattle.c_steps.specs.States.{Held, Plain, State, state, held}
use Rattle.c_steps.specs.Steps.{step}
use Rattle.c_steps.specs.Calls.{all_filled, at_end}
use Rattle.c_objects.specs.Opening.{open_all}
use Rattle.c_steps.specs.Runs.{calls_in, chain_of}
use Rattle.c_steps_laws.specs.Fits.{Fits, Runs}
use Rattle.c_steps_laws.specs.Wants.{Want, Of, Anything, want_of}
use Rattle.c_steps_laws.proofs.Rows.{want_is}
use Rattle.c_steps_laws.proofs.Runs.{is_runnable}
use Rattle.c_steps_laws.proofs.Sizes.{all_at}
use Rattle.csharp.specs.Trees as code
use Rattle.csharp.specs.Trees.{CsExprTree, CsStmtTree, Temp}
use Rattle.csharp.specs.States as low
use Rattle.csharp.specs.States.{value_of}
use Rattle.csharp.specs.Actions.{put}
use Rattle.csharp.specs.Outcomes as outs
use Rattle.csharp.specs.Outcomes.{Outcome, Normal, Leaves, Fails, Stuck, Clash, NoFuel, Over, then_do, at_call}
use Rattle.csharp.specs.Meaning.{bounded_exec}
use Rattle.lower_trees.specs.Temps.{temp_at}
use Rattle.lower_trees.specs.Checking.{checks, value_check}
use Rattle.lower_trees.specs.LowerExpr.{number, wanted}
use Rattle.lower_trees.specs.LowerProgram.{lower, param_temps, param_stores}
use Rattle.lower_rows.proofs.Steps as steps
use Rattle.lower_rows.proofs.Steps.{Follows, one, follows_step, follows_then, follows_map}
use Rattle.lower_rows.proofs.Rows.{RestGoal, no_way, set_here}
use Rattle.lower_rows.proofs.Sim.{kept}
use Rattle.lower_formed.proofs.Placing as placing
use Rattle.lower_formed.proofs.Placing.{Bodied}
use Rattle.lower_quiet.proofs.Callees.{Called, base, own_top, called_low}
use Rattle.lower_quiet.proofs.Puts.{in_row, temp_below}
use Rattle.lower_exprs_run.proofs.Held.{HeldGoal, HeldFollows}
use Rattle.lower_exprs_run.proofs.Modified.{put_leaves, set_length}
use Rattle.lower_exprs_run.proofs.Simple as simple
use Rattle.lower_exprs_run.proofs.Sims.{onto, Valued, CallsFollow, call_tail, call_rows, call_value}
use Rattle.lower_runs.proofs.Entering.{puts, puts_hold, puts_length, puts_memory, puts_inputs, inside, entered}
use Rattle.lower_runs.proofs.Called.{CallEnd, left_way, body_of, BodyFollows, ended_follows, call_out, scope_follows, call_run}

-- ---- types of what a function gives

none_wanted : (used : Bool) (ty : CTypeTree) → IsScalar ty ⊎ (ty ≡ types.Void) → wanted used ty ≡ None → want_of (if used then ty else types.Void) ≡ Anything
none_wanted false ty h e = refl
none_wanted true types.Void h e = refl
none_wanted true (types.Int t) h e = absurd (cc)
none_wanted true (types.Pointer to k) h e = absurd (cc)
none_wanted true (types.Array of k m) (inl h) e = absurd h
none_wanted true (types.Array of k m) (inr h) e = absurd (cc)
none_wanted true (types.Struct m) (inl h) e = absurd h
none_wanted true (types.Struct m) (inr h) e = absurd (cc)
none_wanted true (types.Function m) (inl h) e = absurd h
none_wanted true (types.Function m) (inr h) e = absurd (cc)

some_used : (used : Bool) (ty : CTypeTree) (sc : Scalar) → wanted used ty ≡ Some sc → (used ≡ true) × (scalar_of ty ≡ Some sc)
some_used true ty sc e = (refl, e)
some_used false ty sc e = absurd (cc)

not_void : (ty : CTypeTree) (sc : Scalar) → scalar_of ty ≡ Some sc → is_void ty ≡ false
not_void types.Void sc e = absurd (cc)
not_void (types.Int t) sc e = refl
not_void (types.Pointer to k) sc e = refl
not_void (types.Array of k m) sc e = refl
not_void (types.Struct m) sc e = refl
not_void (types.Function m) sc e = refl

true_false : (z : Bool) → z ≡ true → z ≡ false → ⊥
true_false z a b = absurd (cc)

-- nothing is wanted: the end gives nothing, where it is not main's
quiet_end : (used : Bool) (ty : CTypeTree) → IsScalar ty ⊎ (ty ≡ types.Void) → wanted used ty ≡ None → (if is_void ty then GivesNothing else (if used then IsWrong else GivesNothing)) ≡ GivesNothing
quiet_end false types.Void h e = refl
quiet_end false (types.Int t) h e = refl
quiet_end false (types.Pointer to k) h e = refl
quiet_end false (types.Array of k m) h e = refl
quiet_end false (types.Struct m) h e = refl
quiet_end false (types.Function m) h e = refl
quiet_end true types.Void h e = refl
quiet_end true (types.Int t) h e = absurd (cc)
quiet_end true (types.Pointer to k) h e = absurd (cc)
quiet_end true (types.Array of k m) (inl h) e = absurd h
quiet_end true (types.Array of k m) (inr h) e = absurd (cc)
quiet_end true (types.Struct m) (inl h) e = absurd h
quiet_end true (types.Struct m) (inr h) e = absurd (cc)
quiet_end true (types.Function m) (inl h) e = absurd h
quiet_end true (types.Function m) (inr h) e = absurd (cc)

abbrev as_call : Pos → ℕ → List CsExprTree → Option ℕ → Option ℕ → code.CsCallTree
as_call at g es value flag = record { pos = at; function = g; args = es; value = value; flag = flag }

module _ (over : ℕ → Bool) (p : TProgramTree) (plan : Plan) (m : ℕ) where
  abbrev run : CsStmtTree → low.State → Outcome
  run a t = bounded_exec over (lower p plan) m a t

  -- an outcome that is known
  known : (s1 : State) (chain : List Pos) (goal : low.State → State → Type 0) (o : Outcome) → Follows over p m s1 chain goal no_way o → Follows over p m s1 chain (λ t u. (o ≡ Normal t) × goal t u) no_way o
  known s1 chain goal (Normal t) (u, l, h) = (u, l, (refl, h))
  known s1 chain goal (Leaves x t) h = h
  known s1 chain goal (Fails ch a k x mm) h = h
  known s1 chain goal outs.Waiting h = h
  known s1 chain goal outs.Stopped h = h
  known s1 chain goal Stuck h = h
  known s1 chain goal Clash h = h
  known s1 chain goal NoFuel h = h
  known s1 chain goal Over h = h

  -- no value is wanted
  end_none : (z : Bool) (ty : CTypeTree) (at : Pos) (g : ℕ) (es : List CsExprTree) (end : AtEnd) (w : List Item) (s : List Held) (want : Want) (s1 : State) (o : Outcome) → want ≡ Anything → (z ≡ false → end ≡ GivesNothing)
      → Follows over p m s1 (calls_in w) (CallEnd z ty (Some at) end w s (as_call at g es None None)) no_way o
      → HeldFollows over p m s1 w s want (number 0) o
  end_none z ty at g es end w s want s1 o any quiet h =
      subst (λ x. HeldFollows over p m s1 w s x (number 0) o) (sym any)
      (follows_map over p m s1 (calls_in w) (CallEnd z ty (Some at) end w s (as_call at g es None None)) (HeldGoal Anything (number 0) w s) no_way no_way o h (λ t u l e. ends z t u quiet e) (λ k t x. x)) where
        ends : (z : Bool) (t : low.State) (u : State) → (z ≡ false → end ≡ GivesNothing) → CallEnd z ty (Some at) end w s (as_call at g es None None) t u → (v : State) × steps.Leads p u v × HeldGoal Anything (number 0) w s t v
        ends true t u quiet (inl (r, e, x)) = absurd x
        ends false t u quiet (inl (r, e, x)) = (
          state w (Plain givens.Nothing ∷ s) t.memory t.inputs,
          one p u _ (ap (step p) (x ∙ ap (λ y. state (Reach (Some at) y ∷ w) s r.memory r.inputs) (quiet refl)) ∙ ap (λ (y : low.State). step p (state (Reach (Some at) GivesNothing ∷ w) s y.memory y.inputs)) (sym e)),
          (Plain givens.Nothing, tt, refl),
        )
        ends z t u quiet (inr (inl (r, v, e, x))) = (u, steps.none p u, (held v, tt, x ∙ ap (λ (y : low.State). state w (held v ∷ s) y.memory y.inputs) (sym e)))
        ends z t u quiet (inr (inr (r, void, e, x))) = (u, steps.none p u, (Plain givens.Nothing, tt, x ∙ ap (λ (y : low.State). state w (Plain givens.Nothing ∷ s) y.memory y.inputs) (sym e)))

  -- a value of main's
  end_main : (ty : CTypeTree) (at : Pos) (g d : ℕ) (es : List CsExprTree) (end : AtEnd) (w : List Item) (s : List Held) (sc : Scalar) (s1 : State) (o : Outcome) → is_void ty ≡ false
      → ((t : low.State) → o ≡ Normal t → 12 * suc d ≤ length t.temps)
      → Follows over p m s1 (calls_in w) (CallEnd true ty (Some at) end w s (as_call at g es (Some (temp_at d sc)) None)) no_way o
      → HeldFollows over p m s1 w s (Of sc) (Temp (temp_at d sc)) o
  end_main ty at g d es end w s sc s1 o solid room h =
      follows_map over p m s1 (calls_in w) (λ t u. (o ≡ Normal t) × CallEnd true ty (Some at) end w s (as_call at g es (Some (temp_at d sc)) None) t u) (HeldGoal (Of sc) (Temp (temp_at d sc)) w s) no_way no_way o (known s1 (calls_in w) (CallEnd true ty (Some at) end w s (as_call at g es (Some (temp_at d sc)) None)) o h) (λ t u l e. ends t u (room t e.0) e.1) (λ k t x. x) where
        ends : (t : low.State) (u : State) → 12 * suc d ≤ length t.temps → CallEnd true ty (Some at) end w s (as_call at g es (Some (temp_at d sc)) None) t u → (v : State) × steps.Leads p u v × HeldGoal (Of sc) (Temp (temp_at d sc)) w s t v
        ends t u many (inl (r, e, x)) = absurd x
        ends t u many (inr (inl (r, v, e, x))) =
            let row = in_row sc in
            let same : length t.temps ≡ length r.temps = ap (λ (y : low.State). length y.temps) e ∙ set_length r.temps (temp_at d sc) v in
            (u, steps.none p u, (held v, (v, ap (value_of (Temp (temp_at d sc))) e ∙ set_here r.temps (temp_at d sc) v (omega (arith, row, same, many)), refl), x ∙ ap (λ (y : low.State). state w (held v ∷ s) y.memory y.inputs) (sym e)))
        ends t u many (inr (inr (r, void, e, x))) = absurd (true_false (is_void ty) void solid)

  -- a value of another function's, with the check that there is one
  end_some : (ty : CTypeTree) (at : Pos) (g d : ℕ) (es : List CsExprTree) (w : List Item) (s : List Held) (sc : Scalar) (s1 : State) (o : Outcome) → is_void ty ≡ false
      → ((t : low.State) → o ≡ Normal t → 12 * suc (suc d) ≤ length t.temps)
      → Follows over p m s1 (calls_in w) (CallEnd false ty (Some at) IsWrong w s (as_call at g es (Some (temp_at d sc)) (Some (temp_at (suc d) (scalars.Int ints.Int))))) no_way o
      → HeldFollows over p m s1 w s (Of sc) (Temp (temp_at d sc)) (then_do o (λ t. run (checks (value_check at (Temp (temp_at (suc d) (scalars.Int ints.Int))) ∷ [])) t))
  end_some ty at g d es w s sc s1 o solid room h =
      follows_then over p m s1 (calls_in w) (CallEnd false ty (Some at) IsWrong w s (as_call at g es (Some (temp_at d sc)) (Some flag))) (HeldGoal (Of sc) (Temp (temp_at d sc)) w s) no_way no_way o _ h
      (λ t u is l e. ends t u (room t is) e) (λ k t x. x) where
        flag : ℕ
        flag = temp_at (suc d) (scalars.Int ints.Int)

        ends : (t : low.State) (u : State) → 12 * suc (suc d) ≤ length t.temps → CallEnd false ty (Some at) IsWrong w s (as_call at g es (Some (temp_at d sc)) (Some flag)) t u
            → Follows over p m u (calls_in w) (HeldGoal (Of sc) (Temp (temp_at d sc)) w s) no_way (run (checks (value_check at (Temp flag) ∷ [])) t)
        ends t u many (inl (r, e, x)) =
            let same : length t.temps ≡ length r.temps = ap (λ (y : low.State). length y.temps) e ∙ set_length r.temps flag (values.Int ints.Int (pos 0)) in
            let row = in_row (scalars.Int ints.Int) in
            subst (λ y. Follows over p m u (calls_in w) (HeldGoal (Of sc) (Temp (temp_at d sc)) w s) no_way (run (checks (value_check at (Temp flag) ∷ [])) y)) (sym e)
            (rw (set_here r.temps flag (values.Int ints.Int (pos 0)) (omega (arith, row, same, many)))
            (u, steps.none p u, ap (step p) x, ap (λ (y : State). y.memory) x, ap (λ (y : State). chain_of y.work) x ∙ sym (append-nil (calls_in w))))
        ends t u many (inr (inl (r, v, e, x))) =
            let first = set_length r.temps (temp_at d sc) v in
            let same : length t.temps ≡ length r.temps = ap (λ (y : low.State). length y.temps) e ∙ set_length (put r (temp_at d sc) v).temps flag (values.Int ints.Int (pos 1)) ∙ first in
            let row = in_row (scalars.Int ints.Int) in
            let low = in_row sc in
            subst (λ y. Follows over p m u (calls_in w) (HeldGoal (Of sc) (Temp (temp_at d sc)) w s) no_way (run (checks (value_check at (Temp flag) ∷ [])) y)) (sym e)
            (rw (set_here (put r (temp_at d sc) v).temps flag (values.Int ints.Int (pos 1)) (omega (arith, row, same, first, many)))
            (u, steps.none p u, (held v, (v, put_leaves (12 * suc d) flag (Temp (temp_at d sc)) (put r (temp_at d sc) v) (values.Int ints.Int (pos 1)) (temp_below d sc) (omega arith) ∙ set_here r.temps (temp_at d sc) v (omega (arith, low, same, many)), refl), x)))
        ends t u many (inr (inr (r, void, e, x))) = absurd (true_false (is_void ty) void solid)

abbrev end_by : Bool → Bool → Bool → AtEnd
end_by void main used = if void then GivesNothing else (if main then GivesZero else (if used then IsWrong else GivesNothing))

temps_count : (p : TProgramTree) (d : ℕ) (xs : List ℕ) → length (param_temps p d xs) ≡ length xs
temps_count p d [] = refl
temps_count p d (x ∷ xs) = ap suc (temps_count p (suc d) xs)

args_count : (p : TProgramTree) (xs : List ℕ) (tys : List CTypeTree) → ArgumentsRow (map (λ param. object_type p param) xs) tys → length xs ≡ length tys
args_count p [] [] r = refl
args_count p (x ∷ xs) (ty ∷ tys) r = ap suc (args_count p xs tys r.1)
args_count p [] (ty ∷ tys) r = absurd r
args_count p (x ∷ xs) [] r = absurd r

rows_more : (d : ℕ) (o : Option Scalar) (z : Bool) → d ≤ call_rows d o z
rows_more d None z = omega arith
rows_more d (Some ty) true = omega arith
rows_more d (Some ty) false = omega arith

module _ (over : ℕ → Bool) (p : TProgramTree) (plan : Plan) (runs : Runs p plan) (f : ℕ) (b : Bodied p f) where
  -- without fuel nothing is asked
  calls_before : (d : ℕ) (at : Pos) (g : ℕ) (es : List CsExprTree) (vs : List Value) (o : Option Scalar) (z : Bool) (t : low.State) (c : Bodied p g) → Valued es vs t
      → length (param_temps p (base p plan runs g c) c.function.params) ≡ length vs → bounded_exec over (lower p plan) 0 (call_tail d at g o z es) t ≡ NoFuel
  calls_before d at g es vs None z t c h e = call_run over p plan runs g c 0 at es vs None None t h e
  calls_before d at g es vs (Some ty) true t c h e = call_run over p plan runs g c 0 at es vs (Some (temp_at d ty)) None t h e
  calls_before d at g es vs (Some ty) false t c h e =
      ap (λ o. then_do o (λ l. bounded_exec over (lower p plan) 0 (checks (value_check at (Temp (temp_at (suc d) (scalars.Int ints.Int))) ∷ [])) l))
      (call_run over p plan runs g c 0 at es vs (Some (temp_at d ty)) (Some (temp_at (suc d) (scalars.Int ints.Int))) t h e)

  abbrev callee_of : (g : ℕ) → Called p f g → Bodied p g
  callee_of g called = placing.callee p plan runs f (record { pos = called.0; callee = g }) called.1

  row_of : (g : ℕ) (ty : CTypeTree) (tys : List CTypeTree) (c : Bodied p g) → IsSomeAnd (slice_get p.functions g) (λ function. CallRow p function ty tys) → CallRow p c.function ty tys
  row_of g ty tys c there = subst (λ o. IsSomeAnd o (λ function. CallRow p function ty tys)) c.found there

  count_of : (g : ℕ) (ty : CTypeTree) (tys : List CTypeTree) (vs : List Value) (c : Bodied p g) → CallRow p c.function ty tys → length vs ≡ length tys → length c.function.params ≡ length vs
  count_of g ty tys vs c row count = args_count p c.function.params tys row.1 ∙ sym count

  pub calls_zero : CallsFollow over p plan runs 0 f b
  calls_zero d at g ty used tys es vs w s t called there count valued from le room fits =
      let c = callee_of g called in
      subst (λ o. HeldFollows over p 0 (state (Enter (Some at) g (at_end p g ty used) ∷ w) (onto vs s) t.memory t.inputs) w s (want_of (if used then ty else types.Void)) (call_value d (wanted used ty)) o)
      (sym (calls_before d at g es vs (wanted used ty) (is_main p g) t c valued (temps_count p (base p plan runs g c) c.function.params ∙ count_of g ty tys vs c (row_of g ty tys c there) count))) tt

  solid_result : (g : ℕ) (ty : CTypeTree) (c : Bodied p g) → ty ≡ c.function.result → IsScalar ty ⊎ (ty ≡ types.Void)
  solid_result g ty c e = subst (λ z. IsScalar z ⊎ (z ≡ types.Void)) (sym e) (all_at (IsTypedFunction p) p.functions g c.function runs.typed.functions c.found).result

  -- main's end gives 0
  main_end : (g : ℕ) (ty : CTypeTree) (used : Bool) (c : Bodied p g) → ty ≡ c.function.result → is_main p g ≡ true → at_end p g ty used ≡ GivesZero
  main_end g ty used c e is =
      ap (λ x. end_by (is_void x) (is_main p g) used) (e ∙ (is_runnable p plan runs.typed runs.planned).callable.main g c.function c.found is) ∙ ap (λ x. end_by false x used) is

  module _ (m : ℕ) (d : ℕ) (at : Pos) (g : ℕ) (ty : CTypeTree) (used : Bool) (es : List CsExprTree) (vs : List Value) (w : List Item) (s : List Held) (t : low.State) (c : Bodied p g) (s1 : State) where
    abbrev Ends : Option ℕ → Option ℕ → Type 0
    Ends value flag = Follows over p m s1 (calls_in w) (CallEnd (is_main p g) ty (Some at) (at_end p g ty used) w s (as_call at g es value flag)) no_way (bounded_exec over (lower p plan) (suc m) (code.Call (as_call at g es value flag)) t)

    room_after : (k : ℕ) (a : CsStmtTree) → 12 * k ≤ length t.temps → (r : low.State) → bounded_exec over (lower p plan) (suc m) a t ≡ Normal r → 12 * k ≤ length r.temps
    room_after k a room r is = simple.room_kept over p plan runs (suc m) f b a t r k is room

    -- by what is wanted, and whether main is called
    tail : (o : Option Scalar) (z : Bool) → wanted used ty ≡ o → is_main p g ≡ z → IsScalar ty ⊎ (ty ≡ types.Void) → 12 * call_rows d o z ≤ length t.temps → ((value flag : Option ℕ) → Ends value flag)
        → HeldFollows over p m s1 w s (want_of (if used then ty else types.Void)) (call_value d o) (bounded_exec over (lower p plan) (suc m) (call_tail d at g o z es) t)
    tail None z wants main solid room ends =
        end_none over p plan m (is_main p g) ty at g es (at_end p g ty used) w s (want_of (if used then ty else types.Void)) s1 _ (none_wanted used ty solid wants)
        (λ not. ap (λ x. end_by (is_void ty) x used) not ∙ quiet_end used ty solid wants) (ends None None)
    tail (Some sc) true wants main solid room ends =
        let k = some_used used ty sc wants in
        subst (λ x. HeldFollows over p m s1 w s x (Temp (temp_at d sc)) (bounded_exec over (lower p plan) (suc m) (code.Call (as_call at g es (Some (temp_at d sc)) None)) t))
        (sym (ap (λ z. want_of (if z then ty else types.Void)) k.0 ∙ want_is ty sc k.1))
        (end_main over p plan m ty at g d es (at_end p g ty used) w s sc s1 _ (not_void ty sc k.1) (room_after (suc d) (code.Call (as_call at g es (Some (temp_at d sc)) None)) room)
        (subst (λ z. Follows over p m s1 (calls_in w) (CallEnd z ty (Some at) (at_end p g ty used) w s (as_call at g es (Some (temp_at d sc)) None)) no_way (bounded_exec over (lower p plan) (suc m) (code.Call (as_call at g es (Some (temp_at d sc)) None)) t)) main
        (ends (Some (temp_at d sc)) None)))
    tail (Some sc) false wants main solid room ends =
        let k = some_used used ty sc wants in
        let flag = temp_at (suc d) (scalars.Int ints.Int) in
        let call = as_call at g es (Some (temp_at d sc)) (Some flag) in
        let wrong : at_end p g ty used ≡ IsWrong = ap (λ x. end_by x (is_main p g) used) (not_void ty sc k.1) ∙ ap (λ x. end_by false x used) main ∙ ap (λ x. end_by false false x) k.0 in
        subst (λ x. HeldFollows over p m s1 w s x (Temp (temp_at d sc)) (bounded_exec over (lower p plan) (suc m) (call_tail d at g (Some sc) false es) t))
        (sym (ap (λ z. want_of (if z then ty else types.Void)) k.0 ∙ want_is ty sc k.1))
        (end_some over p plan m ty at g d es w s sc s1 (bounded_exec over (lower p plan) (suc m) (code.Call call) t) (not_void ty sc k.1) (room_after (suc (suc d)) (code.Call call) room)
        (subst (λ z. Follows over p m s1 (calls_in w) (CallEnd z ty (Some at) IsWrong w s call) no_way (bounded_exec over (lower p plan) (suc m) (code.Call call) t)) main
        (subst (λ x. Follows over p m s1 (calls_in w) (CallEnd (is_main p g) ty (Some at) x w s call) no_way (bounded_exec over (lower p plan) (suc m) (code.Call call) t)) wrong
        (ends (Some (temp_at d sc)) (Some flag)))))

  -- one unit of fuel is for the call
  pub calls_after : (m : ℕ) → ((g : ℕ) (c : Bodied p g) → Called p f g → BodyFollows over p plan runs g c m) → CallsFollow over p plan runs (suc m) f b
  calls_after m bodies d at g ty used tys es vs w s t called there count valued from le room fits =
      let c = callee_of g called in
      let row = row_of g ty tys c there in
      let xs = c.function.params in
      let own = base p plan runs g c in
      let number = count_of g ty tys vs c row count in
      let end = at_end p g ty used in
      let into = param_temps p own xs in
      let t0 = puts t into vs in
      let less = called_low p plan runs f b g called in
      let rows = own_top p plan runs g c in
      let high = rows_more d (wanted used ty) (is_main p g) in
      let many = puts_length into vs t in
      let en = entered p plan runs g c (Some at) end w s vs t.memory t.inputs number fits in
      let s0 = state (Enter (Some at) g end ∷ w) (onto vs s) t.memory t.inputs in
      let s1 = inside p g c (Some at) end w s en.0 t.inputs in
      let fits1 : Fits p s1 = kept over p plan (suc m) runs.typed runs.planned s0 s1 fits en.2 in
      let hold = puts_hold p xs vs own (base p plan runs f b) t number (let x = rows.0 in omega (arith, x, less)) (omega (arith, le, high, room)) in
      let body = scope_follows over p plan runs g c m (bodies g c called) (Some at) end w s vs t0 en.0
      (subst (λ z. all_filled p.objects xs vs (open_all p.objects z xs) ≡ Some en.0) (sym (puts_memory into vs t)) en.1) hold
      (let x = rows.1 in omega (arith, x, less, le, high, room, many)) (subst (λ z. Fits p (inside p g c (Some at) end w s en.0 z)) (sym (puts_inputs into vs t)) fits1) in
      let here : Follows over p m s1 (calls_in w ++ at ∷ []) (RestGoal (Reach (Some at) end ∷ w) s) (left_way c.function.result w s) (bounded_exec over (lower p plan) m (code.Scope xs (param_stores p own xs (code.more (body_of over p plan runs g c) code.none))) t0) =
      subst (λ z. Follows over p m (inside p g c (Some at) end w s en.0 z) (calls_in w ++ at ∷ []) (RestGoal (Reach (Some at) end ∷ w) s) (left_way c.function.result w s) (bounded_exec over (lower p plan) m (code.Scope xs (param_stores p own xs (code.more (body_of over p plan runs g c) code.none))) t0))
      (puts_inputs into vs t) body in
      let ended = ended_follows over p plan m (is_main p g) (code.Scope xs (param_stores p own xs (code.more (body_of over p plan runs g c) code.none))) t0 s1 (calls_in w ++ at ∷ []) ty (Some at) end w s (main_end g ty used c row.0)
      (subst (λ z. Follows over p m s1 (calls_in w ++ at ∷ []) (RestGoal (Reach (Some at) end ∷ w) s) (left_way z w s) (bounded_exec over (lower p plan) m (code.Scope xs (param_stores p own xs (code.more (body_of over p plan runs g c) code.none))) t0)) (sym row.0) here) in
      follows_step over p m s0 s1 (calls_in w) (HeldGoal (want_of (if used then ty else types.Void)) (call_value d (wanted used ty)) w s) no_way _ en.2
      (tail m d at g ty used es vs w s t c s1 (wanted used ty) (is_main p g) refl refl (solid_result g ty c row.0) room
      (λ value flag. subst (λ o. Follows over p m s1 (calls_in w) (CallEnd (is_main p g) ty (Some at) end w s (as_call at g es value flag)) no_way o)
      (sym (call_run over p plan runs g c (suc m) at es vs value flag t valued (temps_count p own xs ∙ number)))
      (call_out over p plan m (is_main p g) ty at end w s (as_call at g es value flag) s1 _ refl ended)))

  -- with any fuel, from bodies with less
  pub calls_follow : (n : ℕ) → ((m : ℕ) → m < n → (g : ℕ) (c : Bodied p g) → Called p f g → BodyFollows over p plan runs g c m) → CallsFollow over p plan runs n f b
  calls_follow zero bodies = calls_zero
  calls_follow (suc m) bodies = calls_after m (bodies m (omega arith))
