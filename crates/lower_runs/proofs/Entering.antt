-- How a call is entered: arguments go into the temporaries of the parameters, and from there into their objects, which the machine fills in one step.
use Rattle.std.proofs.Common.{◌≡◌, ℕ, suc, ◌+◌, ◌*◌, ◌≤◌, List, [], ◌∷◌, ◌++◌, length, Option, Some, None, Bool, refl, ◌∙◌, subst, ap, arith, ℤ}
use Rattle.std.specs.Prelude.{option_and_then}
use Rattle.std.proofs.lemmas.List.{append-nil}
use Rattle.c_syntax_written.specs.declared.place.Pos.{Pos}
use Rattle.c_syntax.specs.declared.program.Plan.{Plan}
use Rattle.c_syntax.specs.TypedStmt as stmts
use Rattle.c_syntax.specs.Program.{TProgramTree}
use Rattle.block_mem.specs.declared.types.Scalar.{Scalar}
use Rattle.block_mem.specs.declared.types.Value.{Value}
use Rattle.c_values.specs.Places.{ObjectMemory}
use Rattle.c_objects.specs.Opening.{address, open_all}
use Rattle.c_objects.specs.Writing.{stored_at}
use Rattle.c_steps.specs.Work.{Item, AtEnd, Do, Close, Enter, Reach}
use Rattle.c_steps.specs.States.{Held, State, state, Goes, goes, held, with_some}
use Rattle.c_steps.specs.Steps.{step}
use Rattle.c_steps.specs.Calls.{all_filled, object_scalar, taken}
use Rattle.c_steps.specs.Changes.{filled, stored}
use Rattle.c_steps_laws.specs.Fits.{Fits, Runs}
use Rattle.c_steps_laws.proofs.NeededRuns.{fitting_states_step}
use Rattle.c_steps_laws.proofs.Orders.{some_is}
use Rattle.csharp.specs.Trees as code
use Rattle.csharp.specs.Trees.{CsExprTree, Temp, CsStmtTrees, CsProgramTree}
use Rattle.csharp.specs.States as low
use Rattle.csharp.specs.States.{value_of, on_both}
use Rattle.csharp.specs.Actions.{args_from, put, store, with_memory}
use Rattle.csharp.specs.Outcomes.{then_do, to_normal}
use Rattle.csharp.specs.Meaning.{Later, items}
use Rattle.lower_trees.specs.Temps.{temp_at}
use Rattle.lower_trees.specs.LowerProgram.{param_scalar, param_temps, param_stores}
use Rattle.lower_trees.specs.LowerExpr.{or_int}
use Rattle.lower_rows.proofs.Rows.{set_here, address_value}
use Rattle.lower_formed.proofs.Placing.{Bodied}
use Rattle.lower_quiet.specs.Quiet.{Below}
use Rattle.lower_quiet.proofs.Puts.{in_row, temp_below, below_more}
use Rattle.lower_exprs_run.proofs.Modified.{put_leaves, set_length}
use Rattle.lower_exprs_run.proofs.Sims.{onto, Valued}

-- ---- arguments go into temporaries

abbrev pub puts : low.State → List ℕ → List Value → low.State
puts s [] vs = s
puts s (d ∷ ds) [] = s
puts s (d ∷ ds) (v ∷ vs) = puts (put s d v) ds vs

pub passed : (from : low.State) (es : List CsExprTree) (vs : List Value) (ds : List ℕ) (s : low.State) → Valued es vs from → length ds ≡ length vs → args_from from es ds s ≡ Some (puts s ds vs)
passed from [] [] [] s h e = refl
passed from [] [] (d ∷ ds) s h e = absurd (cc)
passed from (a ∷ es) (v ∷ vs) [] s h e = absurd (cc)
passed from (a ∷ es) (v ∷ vs) (d ∷ ds) s (has, h) e = rw has (passed from es vs ds (put s d v) h (omega (arith, e)))
passed from [] (v ∷ vs) ds s h e = absurd h
passed from (a ∷ es) [] ds s h e = absurd h

pub puts_memory : (ds : List ℕ) (vs : List Value) (s : low.State) → (puts s ds vs).memory ≡ s.memory
puts_memory [] vs s = refl
puts_memory (d ∷ ds) [] s = refl
puts_memory (d ∷ ds) (v ∷ vs) s = puts_memory ds vs (put s d v)

pub puts_inputs : (ds : List ℕ) (vs : List Value) (s : low.State) → (puts s ds vs).inputs ≡ s.inputs
puts_inputs [] vs s = refl
puts_inputs (d ∷ ds) [] s = refl
puts_inputs (d ∷ ds) (v ∷ vs) s = puts_inputs ds vs (put s d v)

pub puts_length : (ds : List ℕ) (vs : List Value) (s : low.State) → length (puts s ds vs).temps ≡ length s.temps
puts_length [] vs s = refl
puts_length (d ∷ ds) [] s = refl
puts_length (d ∷ ds) (v ∷ vs) s = puts_length ds vs (put s d v) ∙ set_length s.temps d v

-- what is read below the first row stays
pub puts_below : (p : TProgramTree) (xs : List ℕ) (vs : List Value) (d : ℕ) (e : CsExprTree) (s : low.State) → Below (12 * d) e → value_of e (puts s (param_temps p d xs) vs) ≡ value_of e s
puts_below p [] vs d e s h = refl
puts_below p (x ∷ xs) [] d e s h = refl
puts_below p (x ∷ xs) (v ∷ vs) d e s h =
    puts_below p xs vs (suc d) e (put s (temp_at d (param_scalar p x)) v) (below_more (12 * d) (12 * suc d) (omega arith) e h)
    ∙ put_leaves (12 * d) (temp_at d (param_scalar p x)) e s v h (omega arith)

-- each parameter's temporary has its argument
abbrev pub HoldAll : TProgramTree → ℕ → List ℕ → List Value → low.State → Type 0
HoldAll p d [] [] t = Unit {0}
HoldAll p d (x ∷ xs) (v ∷ vs) t = (value_of (Temp (temp_at d (param_scalar p x))) t ≡ Some v) × HoldAll p (suc d) xs vs t
HoldAll p d xs vs t = ⊥

pub puts_hold : (p : TProgramTree) (xs : List ℕ) (vs : List Value) (d rows : ℕ) (s : low.State) → length xs ≡ length vs → d + length xs ≤ rows → 12 * rows ≤ length s.temps → HoldAll p d xs vs (puts s (param_temps p d xs) vs)
puts_hold p [] [] d rows s e le room = tt
puts_hold p [] (v ∷ vs) d rows s e le room = absurd (cc)
puts_hold p (x ∷ xs) [] d rows s e le room = absurd (cc)
puts_hold p (x ∷ xs) (v ∷ vs) d rows s e le room =
    let t = temp_at d (param_scalar p x) in
    let row = in_row (param_scalar p x) in
    let many = set_length s.temps t v in (
      puts_below p xs vs (suc d) (Temp t) (put s t v) (temp_below d (param_scalar p x)) ∙ set_here s.temps t v (omega (arith, row, le, room)),
      puts_hold p xs vs (suc d) rows (put s t v) (omega (arith, e)) (omega (arith, le)) (omega (arith, many, room)),
    )

-- ---- from there into the objects

some_scalar : (o : Option Scalar) (m : ObjectMemory) (x : ℕ) (v : Value) (n : ObjectMemory) → filled m o x 0 v ≡ Some n → (ty : Scalar) × (o ≡ Some ty)
some_scalar (Some ty) m x v n e = (ty, refl)
some_scalar None m x v n e = absurd (nothing (address m x 0) e) where
  nothing : (a : Option Value) → option_and_then (λ place. stored m None place v) a ≡ Some n → ⊥
  nothing None e = absurd (cc)
  nothing (Some z) e = absurd (cc)

store_is : (ty : Scalar) (x : ℕ) (b : CsExprTree) (t : low.State) (v : Value) → value_of b t ≡ Some v → on_both (code.Address x) b t (stored_at t.memory ty) ≡ filled t.memory (Some ty) x 0 v
store_is ty x b t v e = rw e (ap (λ o. option_and_then (λ place. stored_at t.memory ty place v) o) (address_value x 0 t))

pub hold_memory : (p : TProgramTree) (d : ℕ) (xs : List ℕ) (vs : List Value) (t : low.State) (m : ObjectMemory) → HoldAll p d xs vs t → HoldAll p d xs vs (record t { memory = m })
hold_memory p d [] [] t m h = tt
hold_memory p d (x ∷ xs) (v ∷ vs) t m h = (h.0, hold_memory p (suc d) xs vs t m h.1)
hold_memory p d [] (v ∷ vs) t m h = absurd h
hold_memory p d (x ∷ xs) [] t m h = absurd h

module _ (over : ℕ → Bool) (p : TProgramTree) (q : CsProgramTree) (later : Later) where
  stores_case : (x d : ℕ) (xs : List ℕ) (v : Value) (vs : List Value) (rest : CsStmtTrees) (t : low.State) (m : ObjectMemory) (o : Option ObjectMemory) → filled t.memory (object_scalar p.objects x) x 0 v ≡ o
      → value_of (Temp (temp_at d (param_scalar p x))) t ≡ Some v → option_and_then (all_filled p.objects xs vs) o ≡ Some m
      → ((n : ObjectMemory) → all_filled p.objects xs vs n ≡ Some m → items over q later None (param_stores p (suc d) xs rest) (record t { memory = n }) ≡ items over q later None rest (record t { memory = m }))
      → items over q later None (param_stores p d (x ∷ xs) rest) t ≡ items over q later None rest (record t { memory = m })
  stores_case x d xs v vs rest t m None e h f g = absurd (cc)
  stores_case x d xs v vs rest t m (Some n) e h f g =
      let k = some_scalar (object_scalar p.objects x) t.memory x v n e in
      let b = Temp (temp_at d (param_scalar p x)) in
      let is : param_scalar p x ≡ k.0 = ap or_int k.1 in
      let put : filled t.memory (Some k.0) x 0 v ≡ Some n = subst (λ z. filled t.memory z x 0 v ≡ Some n) k.1 e in
      let done : store (param_scalar p x) (code.Address x) b t ≡ Some (record t { memory = n }) =
      ap (λ z. store z (code.Address x) b t) is ∙ ap (with_memory t) (store_is k.0 x b t v h ∙ put) in
      ap (λ o. then_do (to_normal o) (λ u. items over q later None (param_stores p (suc d) xs rest) u)) done ∙ g n f

  -- stores fill the objects as the machine does
  pub stores : (xs : List ℕ) (vs : List Value) (d : ℕ) (rest : CsStmtTrees) (t : low.State) (m : ObjectMemory) → HoldAll p d xs vs t → all_filled p.objects xs vs t.memory ≡ Some m
      → items over q later None (param_stores p d xs rest) t ≡ items over q later None rest (record t { memory = m })
  stores [] [] d rest t m h e = subst (λ z. items over q later None rest t ≡ items over q later None rest (record t { memory = z })) (some_is e) refl
  stores (x ∷ xs) (v ∷ vs) d rest t m h e =
      stores_case x d xs v vs rest t m (filled t.memory (object_scalar p.objects x) x 0 v) refl h.0 e
      (λ n f. stores xs vs (suc d) rest (record t { memory = n }) m (hold_memory p (suc d) xs vs t n h.1) f)
  stores [] (v ∷ vs) d rest t m h e = absurd h
  stores (x ∷ xs) [] d rest t m h e = absurd h

-- ---- the machine's step

pub taken_onto : (vs : List Value) (k : ℕ) (s : List Held) (acc : List Value) → taken (length vs + k) (onto vs s) acc ≡ taken k s (vs ++ acc)
taken_onto [] k s acc = ap (λ z. taken z s acc) (zero_plus k) where
  zero_plus : (a : ℕ) → 0 + a ≡ a
  zero_plus a = omega arith
taken_onto (v ∷ vs) k s acc = ap (λ z. taken z (onto vs (held v ∷ s)) acc) (plus_suc (length vs) k) ∙ taken_onto vs (suc k) (held v ∷ s) acc where
  plus_suc : (a b : ℕ) → suc a + b ≡ a + suc b
  plus_suc a b = omega arith

all_taken : (vs : List Value) (s : List Held) (k : ℕ) → k ≡ length vs → taken k (onto vs s) [] ≡ Some (vs, s)
all_taken vs s k e = ap (λ z. taken z (onto vs s) []) (e ∙ sum (length vs)) ∙ taken_onto vs 0 s [] ∙ ap (λ z. Some (z, s)) (append-nil vs) where
  sum : (a : ℕ) → a ≡ a + 0
  sum a = omega arith

-- where the body begins
abbrev pub inside : (p : TProgramTree) (g : ℕ) → Bodied p g → Option Pos → AtEnd → List Item → List Held → ObjectMemory → List ℤ → State
inside p g c at end w s m i = state (Do c.body ∷ Close c.function.params stmts.none ∷ Reach at end ∷ w) s m i

module _ (p : TProgramTree) (plan : Plan) (runs : Runs p plan) (g : ℕ) (c : Bodied p g) where
  enters : (at : Option Pos) (end : AtEnd) (w : List Item) (s : List Held) (vs : List Value) (m : ObjectMemory) (i : List ℤ) → length c.function.params ≡ length vs
      → step p (state (Enter at g end ∷ w) (onto vs s) m i) ≡ with_some (all_filled p.objects c.function.params vs (open_all p.objects m c.function.params)) (λ n. goes (Do c.body ∷ Close c.function.params stmts.none ∷ Reach at end ∷ w) s n i)
  enters at end w s vs m i e = rw c.found (rw c.has (rw (all_taken vs s (length c.function.params) e) refl))

  enter_case : (at : Option Pos) (end : AtEnd) (w : List Item) (s : List Held) (vs : List Value) (m : ObjectMemory) (i : List ℤ) (o : Option ObjectMemory)
      → all_filled p.objects c.function.params vs (open_all p.objects m c.function.params) ≡ o → length c.function.params ≡ length vs → Fits p (state (Enter at g end ∷ w) (onto vs s) m i)
      → (n : ObjectMemory) × (all_filled p.objects c.function.params vs (open_all p.objects m c.function.params) ≡ Some n) × (step p (state (Enter at g end ∷ w) (onto vs s) m i) ≡ Goes (inside p g c at end w s n i))
  enter_case at end w s vs m i None is e fits =
      absurd (fitting_states_step p plan runs.typed runs.planned _ fits (enters at end w s vs m i e ∙ ap (λ o. with_some o (λ n. goes (Do c.body ∷ Close c.function.params stmts.none ∷ Reach at end ∷ w) s n i)) is))
  enter_case at end w s vs m i (Some n) is e fits =
      (n, is, enters at end w s vs m i e ∙ ap (λ o. with_some o (λ n. goes (Do c.body ∷ Close c.function.params stmts.none ∷ Reach at end ∷ w) s n i)) is)

  pub entered : (at : Option Pos) (end : AtEnd) (w : List Item) (s : List Held) (vs : List Value) (m : ObjectMemory) (i : List ℤ) → length c.function.params ≡ length vs → Fits p (state (Enter at g end ∷ w) (onto vs s) m i)
      → (n : ObjectMemory) × (all_filled p.objects c.function.params vs (open_all p.objects m c.function.params) ≡ Some n) × (step p (state (Enter at g end ∷ w) (onto vs s) m i) ≡ Goes (inside p g c at end w s n i))
  entered at end w s vs m i e fits = enter_case at end w s vs m i (all_filled p.objects c.function.params vs (open_all p.objects m c.function.params)) refl e fits
