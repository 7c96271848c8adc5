-- The machine follows a call where it follows the body of what is called, with one unit of fuel less.
use Rattle.std.proofs.Common.{◌≡◌, ◌⊎◌, inl, inr, ℕ, ◌*◌, ◌≤◌, List, [], ◌∷◌, ◌++◌, length, Option, Some, None, Bool, true, false, refl, sym, ◌∙◌, subst, ap}
use Rattle.std.specs.Prelude.{if◌then◌else◌}
use Rattle.std.proofs.lemmas.List.{append_assoc}
use Rattle.c_syntax_written.specs.declared.place.Pos.{Pos}
use Rattle.c_syntax.specs.declared.program.Plan.{Plan}
use Rattle.c_syntax.specs.Types.{CTypeTree}
use Rattle.c_syntax.specs.TypedStmt as stmts
use Rattle.c_syntax.specs.Program.{TProgramTree}
use Rattle.c_layout.specs.RowTypes.{is_void}
use Rattle.block_mem.specs.declared.types.Value.{Value}
use Rattle.c_values.specs.declared.values.Given.TheVariants as givens
use Rattle.c_values.specs.Places.{ObjectMemory}
use Rattle.c_objects.specs.Opening.{open_all, shut_all}
use Rattle.c_steps.specs.Work.{Item, AtEnd, GivesZero, Close, Reach}
use Rattle.c_steps.specs.States.{Held, Plain, Next, State, state, goes, held}
use Rattle.c_steps.specs.Steps.{step}
use Rattle.c_steps.specs.Calls.{all_filled}
use Rattle.c_steps.specs.Runs.{calls_in}
use Rattle.c_steps_laws.specs.Fits.{Fits, Runs}
use Rattle.csharp.specs.Trees as code
use Rattle.csharp.specs.Trees.{CsExprTree, CsCallTree, CsStmtTree, CsStmtTrees, Scope, Sequence, Return, Call, more}
use Rattle.csharp.specs.States as low
use Rattle.csharp.specs.Actions.{enter, given_to, are_free}
use Rattle.csharp.specs.Outcomes as outs
use Rattle.csharp.specs.Outcomes.{Way, ByExit, ByGoto, ByReturn, Outcome, Normal, Leaves, Fails, Stuck, Clash, NoFuel, Over, then_do, or_stuck, at_scope, at_call}
use Rattle.csharp.specs.Meaning.{Later, Anew, items, caught, call, later_by, bounded_exec}
use Rattle.lower_trees.specs.LowerExpr.{number}
use Rattle.lower_trees.specs.LowerStmt.{InLoop, lower_stmt}
use Rattle.lower_trees.specs.LowerProgram.{lower, param_temps, param_stores}
use Rattle.lower_rows.proofs.Steps.{Leads, LeadsTo, ToSome, Follows, one, then_leads, leads_on, follows_then}
use Rattle.lower_rows.proofs.Steps as steps
use Rattle.lower_rows.proofs.Rows.{RestGoal, no_way}
use Rattle.lower_formed.proofs.Placing as placing
use Rattle.lower_formed.proofs.Placing.{Bodied}
use Rattle.lower_quiet.proofs.Callees.{base}
use Rattle.lower_exprs_run.proofs.Sims.{Valued}
use Rattle.lower_runs.proofs.Entering.{puts, passed, HoldAll, hold_memory, stores, inside}

-- where a body leaves: behind the call, with what it gives. No exit and no goto leads out of it, and where a value is due none comes back without one
abbrev pub body_way : CTypeTree → List ℕ → List Item → List Held → Way → low.State → Option Next
body_way ty params w s (ByReturn (Some v)) t = Some (goes w (held v ∷ s) (shut_all t.memory params) t.inputs)
body_way ty params w s (ByReturn None) t = if is_void ty then Some (goes w (Plain givens.Nothing ∷ s) (shut_all t.memory params) t.inputs) else None
body_way ty params w s k t = None

-- the same behind the parameters' end
abbrev pub left_way : CTypeTree → List Item → List Held → Way → low.State → Option Next
left_way ty w s k t = body_way ty [] w s k t

-- the end of a function is reached; that of main never is, since its code gives 0 there
abbrev pub EndGoal : Bool → Option Pos → AtEnd → List Item → List Held → low.State → State → Type 0
EndGoal true at end w s t u = ⊥
EndGoal false at end w s t u = u ≡ state (Reach at end ∷ w) s t.memory t.inputs

-- what a call comes to: the function's end was reached; or it gave a value; or nothing, where it is void
abbrev pub CallEnd : Bool → CTypeTree → Option Pos → AtEnd → List Item → List Held → CsCallTree → low.State → State → Type 0
CallEnd z ty at end w s k t u =
    ((r : low.State) × (t ≡ given_to k None r) × EndGoal z at end w s r u)
    ⊎ (((r : low.State) × (v : Value) × (t ≡ given_to k (Some v) r) × (u ≡ state w (held v ∷ s) r.memory r.inputs))
    ⊎ ((r : low.State) × (is_void ty ≡ true) × (t ≡ given_to k None r) × (u ≡ state w (Plain givens.Nothing ∷ s) r.memory r.inputs)))

module _ (over : ℕ → Bool) (p : TProgramTree) (plan : Plan) (m : ℕ) where
  -- ---- the scope of the parameters

  scope_out : (later : Later) (xs : List ℕ) (all : CsStmtTrees) (ty : CTypeTree) (at : Option Pos) (end : AtEnd) (w : List Item) (s : List Held) (s1 : State) (chain : List Pos) (o : Outcome)
      → Follows over p m s1 chain (RestGoal (Close xs stmts.none ∷ Reach at end ∷ w) s) (body_way ty xs w s) o
      → Follows over p m s1 chain (RestGoal (Reach at end ∷ w) s) (left_way ty w s) (at_scope xs (caught later all (then_do o (λ t. items over (lower p plan) later None code.none t))))
  scope_out later xs all ty at end w s s1 chain (Normal t) (u, l, e) =
      (state (Reach at end ∷ w) s (shut_all t.memory xs) t.inputs, then_leads p s1 u _ l (one p u _ (ap (step p) e)), refl)
  scope_out later xs all ty at end w s s1 chain (Leaves (ByExit k) t) h = absurd h
  scope_out later xs all ty at end w s s1 chain (Leaves (ByGoto k) t) h = absurd h
  scope_out later xs all ty at end w s s1 chain (Leaves (ByReturn (Some v)) t) h = h
  scope_out later xs all ty at end w s s1 chain (Leaves (ByReturn None) t) h = h
  scope_out later xs all ty at end w s s1 chain (Fails c a kd op mm) h = h
  scope_out later xs all ty at end w s s1 chain outs.Waiting h = h
  scope_out later xs all ty at end w s s1 chain outs.Stopped h = h
  scope_out later xs all ty at end w s s1 chain Stuck h = h
  scope_out later xs all ty at end w s s1 chain Clash h = h
  scope_out later xs all ty at end w s s1 chain NoFuel h = h
  scope_out later xs all ty at end w s s1 chain Over h = h

  if_free : (s1 : State) (chain : List Pos) (goal : low.State → State → Type 0) (way : Way → low.State → Option Next) (o : Outcome) (z : Bool) → Follows over p m s1 chain goal way o
      → Follows over p m s1 chain goal way (if z then o else Clash)
  if_free s1 chain goal way o true h = h
  if_free s1 chain goal way o false h = tt

  -- ---- main gives 0 at its end

  pub ended_follows : (z : Bool) (a : CsStmtTree) (t : low.State) (s1 : State) (chain : List Pos) (ty : CTypeTree) (at : Option Pos) (end : AtEnd) (w : List Item) (s : List Held) → (z ≡ true → end ≡ GivesZero)
      → Follows over p m s1 chain (RestGoal (Reach at end ∷ w) s) (left_way ty w s) (bounded_exec over (lower p plan) m a t)
      → Follows over p m s1 chain (EndGoal z at end w s) (left_way ty w s) (bounded_exec over (lower p plan) m (if z then Sequence a (Return (Some (number 0))) else a) t)
  ended_follows false a t s1 chain ty at end w s is h = h
  ended_follows true a t s1 chain ty at end w s is h =
      follows_then over p m s1 chain (RestGoal (Reach at end ∷ w) s) (EndGoal true at end w s) (left_way ty w s) (left_way ty w s) (bounded_exec over (lower p plan) m a t) _ h
      (λ r u done l g. (u, steps.none p u, ap (step p) (g ∙ ap (λ x. state (Reach at x ∷ w) s r.memory r.inputs) (is refl)))) (λ k r x. x)

  -- ---- the end of the call

  no_value : (z y : Bool) (ty : CTypeTree) (at : Option Pos) (end : AtEnd) (w : List Item) (s : List Held) (k : CsCallTree) (s1 : State) (chain : List Pos) (r : low.State) → is_void ty ≡ y
      → ToSome p s1 (if y then Some (goes w (Plain givens.Nothing ∷ s) r.memory r.inputs) else None) → Follows over p m s1 chain (CallEnd z ty at end w s k) no_way (Normal (given_to k None r))
  no_value z true ty at end w s k s1 chain r e h = (_, leads_on p s1 _ h, inr (inr (r, e, refl, refl)))
  no_value z false ty at end w s k s1 chain r e h = absurd h

  pub call_out : (z : Bool) (ty : CTypeTree) (at : Pos) (end : AtEnd) (w : List Item) (s : List Held) (k : CsCallTree) (s1 : State) (o : Outcome) → k.pos ≡ at
      → Follows over p m s1 (calls_in w ++ at ∷ []) (EndGoal z (Some at) end w s) (left_way ty w s) o → Follows over p m s1 (calls_in w) (CallEnd z ty (Some at) end w s k) no_way (at_call k o)
  call_out z ty at end w s k s1 (Normal r) e (u, l, g) = (u, l, inl (r, refl, g))
  call_out z ty at end w s k s1 (Leaves (ByExit j) r) e h = absurd h
  call_out z ty at end w s k s1 (Leaves (ByGoto j) r) e h = absurd h
  call_out z ty at end w s k s1 (Leaves (ByReturn (Some v)) r) e h = (_, leads_on p s1 _ h, inr (inl (r, v, refl, refl)))
  call_out z ty at end w s k s1 (Leaves (ByReturn None) r) e h = no_value z (is_void ty) ty (Some at) end w s k s1 (calls_in w) r refl h
  call_out z ty at end w s k s1 (Fails c a kd op mm) e (u, l, e1, e2, e3) = (u, l, e1, e2, e3 ∙ append_assoc (calls_in w) (at ∷ []) c ∙ ap (λ x. calls_in w ++ x ∷ c) (sym e))
  call_out z ty at end w s k s1 outs.Waiting e h = h
  call_out z ty at end w s k s1 outs.Stopped e h = h
  call_out z ty at end w s k s1 Stuck e h = h
  call_out z ty at end w s k s1 Clash e h = h
  call_out z ty at end w s k s1 NoFuel e h = h
  call_out z ty at end w s k s1 Over e h = h

module _ (over : ℕ → Bool) (p : TProgramTree) (plan : Plan) (runs : Runs p plan) (g : ℕ) (c : Bodied p g) where
  abbrev pub body_of : CsStmtTree
  body_of = (lower_stmt p (base p plan runs g c) InLoop c.body).code

  -- the machine follows the body with so much fuel, from where it begins to where it ends or leaves
  abbrev pub BodyFollows : ℕ → Type 0
  BodyFollows m = (at : Option Pos) (end : AtEnd) (w : List Item) (s : List Held) (t : low.State) → 12 * (lower_stmt p (base p plan runs g c) InLoop c.body).top ≤ length t.temps
      → Fits p (inside p g c at end w s t.memory t.inputs)
      → Follows over p m (inside p g c at end w s t.memory t.inputs) (calls_in (Reach at end ∷ w)) (RestGoal (Close c.function.params stmts.none ∷ Reach at end ∷ w) s)
      (body_way c.function.result c.function.params w s) (bounded_exec over (lower p plan) m body_of t)

  abbrev stored_items : CsStmtTrees
  stored_items = param_stores p (base p plan runs g c) c.function.params (more body_of code.none)

  pub scope_follows : (m : ℕ) → BodyFollows m → (at : Option Pos) (end : AtEnd) (w : List Item) (s : List Held) (vs : List Value) (t : low.State) (n : ObjectMemory)
      → all_filled p.objects c.function.params vs (open_all p.objects t.memory c.function.params) ≡ Some n → HoldAll p (base p plan runs g c) c.function.params vs t
      → 12 * (lower_stmt p (base p plan runs g c) InLoop c.body).top ≤ length t.temps → Fits p (inside p g c at end w s n t.inputs)
      → Follows over p m (inside p g c at end w s n t.inputs) (calls_in (Reach at end ∷ w)) (RestGoal (Reach at end ∷ w) s) (left_way c.function.result w s)
      (bounded_exec over (lower p plan) m (Scope c.function.params stored_items) t)
  scope_follows m body at end w s vs t n filled hold room fits =
      let xs = c.function.params in
      let later = later_by over (lower p plan) m in
      let t1 = enter p.objects xs t in
      let same : items over (lower p plan) later None stored_items t1 ≡ items over (lower p plan) later None (more body_of code.none) (record t1 { memory = n }) =
      stores over p (lower p plan) later xs vs (base p plan runs g c) (more body_of code.none) t1 n (hold_memory p (base p plan runs g c) xs vs t t1.memory hold) filled in
      if_free over p plan m _ (calls_in (Reach at end ∷ w)) (RestGoal (Reach at end ∷ w) s) (left_way c.function.result w s) (at_scope xs (caught later stored_items (items over (lower p plan) later None stored_items t1))) (are_free xs t)
      (subst (λ o. Follows over p m (inside p g c at end w s n t.inputs) (calls_in (Reach at end ∷ w)) (RestGoal (Reach at end ∷ w) s) (left_way c.function.result w s) (at_scope xs (caught later stored_items o))) (sym same)
      (scope_out over p plan m later xs stored_items c.function.result at end w s (inside p g c at end w s n t.inputs) (calls_in (Reach at end ∷ w)) _ (body at end w s (record t1 { memory = n }) room fits)))

  -- what the call comes to, by the code of what is called
  pub call_run : (n : ℕ) (at : Pos) (es : List CsExprTree) (vs : List Value) (value flag : Option ℕ) (t : low.State) → Valued es vs t → length (param_temps p (base p plan runs g c) c.function.params) ≡ length vs
      → bounded_exec over (lower p plan) n (Call (record { pos = at; function = g; args = es; value = value; flag = flag })) t
      ≡ at_call (record { pos = at; function = g; args = es; value = value; flag = flag })
      ((later_by over (lower p plan) n).statement Anew (placing.code p plan runs g c) (puts t (param_temps p (base p plan runs g c) c.function.params) vs))
  call_run n at es vs value flag t h e =
      let k : CsCallTree = record { pos = at; function = g; args = es; value = value; flag = flag } in
      let later = later_by over (lower p plan) n in
      ap (λ o. or_stuck o (λ f. call later k f t)) (placing.low_at p plan runs g c)
      ∙ ap (λ o. or_stuck o (λ r. at_call k (later.statement Anew (placing.code p plan runs g c) r))) (passed t es vs (param_temps p (base p plan runs g c) c.function.params) t h e)
