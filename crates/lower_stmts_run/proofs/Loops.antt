-- The machine follows the code of loops: a turn is a test, the body and the step, or the body and a test. A turn takes one unit of fuel, for a step of the machine.
use Rattle.std.proofs.Common.{◌≡◌, ℕ, zero, suc, ◌≤◌, List, ◌∷◌, Option, Some, None, refl, sym, subst, Bool, true, false, arith}
use Rattle.std.specs.Prelude.{if◌then◌else◌}
use Rattle.c_syntax_written.specs.declared.place.Pos.{Pos}
use Rattle.c_syntax.specs.declared.program.Plan.{Plan}
use Rattle.c_syntax.specs.Program.{TProgramTree}
use Rattle.c_layout.specs.RowTypes.{is_void}
use Rattle.c_values.specs.declared.values.Given.TheVariants as givens
use Rattle.c_steps.specs.Work.{Item, Loop, Do, Begin, Again}
use Rattle.c_steps.specs.States.{Held, Plain, State, state, Goes, Next, goes, held}
use Rattle.c_steps.specs.Jumps.{jumped, left}
use Rattle.c_steps.specs.Steps.{step}
use Rattle.c_steps.specs.Runs.{calls_in}
use Rattle.c_steps_laws.specs.Fits.{Fits, Runs}
use Rattle.csharp.specs.Trees as code
use Rattle.csharp.specs.Trees.{CsStmtTree}
use Rattle.csharp.specs.States as low
use Rattle.csharp.specs.Outcomes.{Way, ByExit, ByGoto, ByReturn, Outcome, Normal, Leaves, Over, then_do, at_block}
use Rattle.csharp.specs.Meaning.{Turn}
use Rattle.lower_trees.specs.LowerStmt.{Context, InLoop}
use Rattle.lower_rows.proofs.Steps.{Leads, ToSome, Follows, IsOver, one, none, leads_on, follows_after, follows_step, follows_then, follows_map}
use Rattle.lower_rows.proofs.Rows.{RestGoal, no_way}
use Rattle.lower_rows.proofs.Tests.{Onward, StepGoal, exit_at, Tested}
use Rattle.lower_formed.proofs.Placing.{Bodied}
use Rattle.lower_stmts_run.proofs.Ways.{Done, then_assoc, follows_on}
use Rattle.lower_stmts_run.proofs.Items as items

module _ (over : ℕ → Bool) (p : TProgramTree) (plan : Plan) (runs : Runs p plan) (f : ℕ) (b : Bodied p f) (rows : ℕ) where
  abbrev Room : low.State → Type 0
  Room l = items.Room over p plan runs f b rows l

  abbrev run : ℕ → CsStmtTree → low.State → Outcome
  run n a l = items.run over p plan runs f b rows n a l

  abbrev done : ℕ → Context → State → List Item → List Held → Outcome → Type 0
  done n k s0 w s o = Done over p (is_void b.function.result) n k s0 w s o

  -- where a turn leaves to: behind the loop, or out of it
  abbrev pub loop_way : List Item → List Held → Way → low.State → Option Next
  loop_way w s (ByExit zero) t = Some (goes w s t.memory t.inputs)
  loop_way w s (ByExit (suc j)) t = None
  loop_way w s (ByReturn (Some v)) t = Some (left w (held v) s t.memory t.inputs)
  loop_way w s (ByReturn None) t = if is_void b.function.result then Some (left w (Plain givens.Nothing) s t.memory t.inputs) else None
  loop_way w s (ByGoto l) t = Some (jumped l w s t.memory t.inputs)

  abbrev pub TurnFollows : ℕ → State → (low.State → State → Type 0) → List Item → List Held → Outcome → Type 0
  TurnFollows n s0 goal w s o = Follows over p n s0 (calls_in w) goal (loop_way w s) o

  body_block : (n j : ℕ) (loop : Loop) (s0 : State) (w : List Item) (s : List Held) (o : Outcome) → done n InLoop s0 (Again j loop ∷ w) s o → TurnFollows n s0 (RestGoal (Again j loop ∷ w) s) w s (at_block o)
  body_block n j loop s0 w s (Normal t) h = h
  body_block n j loop s0 w s (Leaves (ByExit zero) t) h = (_, leads_on p s0 _ h, refl)
  body_block n j loop s0 w s (Leaves (ByExit (suc zero)) t) h = h
  body_block n j loop s0 w s (Leaves (ByExit (suc (suc i))) t) h = absurd h
  body_block n j loop s0 w s (Leaves (ByReturn (Some v)) t) h = h
  body_block n j loop s0 w s (Leaves (ByReturn None) t) h = h
  body_block n j loop s0 w s (Leaves (ByGoto l) t) h = h
  body_block n j loop s0 w s o h = h

  -- the loop in its block
  pub loop_block : (n : ℕ) (k : Context) (s0 : State) (w : List Item) (s : List Held) (o : Outcome) → TurnFollows n s0 (RestGoal w s) w s o → done n k s0 w s (at_block o)
  loop_block n k s0 w s (Normal t) h = h
  loop_block n k s0 w s (Leaves (ByExit zero) t) h = (_, leads_on p s0 _ h, refl)
  loop_block n k s0 w s (Leaves (ByExit (suc i)) t) h = absurd h
  loop_block n k s0 w s (Leaves (ByReturn (Some v)) t) h = h
  loop_block n k s0 w s (Leaves (ByReturn None) t) h = h
  loop_block n k s0 w s (Leaves (ByGoto l) t) h = h
  loop_block n k s0 w s o h = h

  -- a test leaves the loop where it is false
  test_out : (w : List Item) (s : List Held) (s0 : State) (x : Way) (t : low.State) → ToSome p s0 (exit_at 0 (λ m i. goes w s m i) x t) → ToSome p s0 (loop_way w s x t)
  test_out w s s0 (ByExit zero) t h = h
  test_out w s s0 (ByExit (suc j)) t h = absurd h
  test_out w s s0 (ByGoto l) t h = absurd h
  test_out w s s0 (ByReturn v) t h = absurd h

  -- more turns than are asked for
  over_case : (n : ℕ) (s0 : State) (chain : List Pos) (goal : low.State → State → Type 0) (way : Way → low.State → Option Next) (o : Outcome) (z : Bool)
      → (z ≡ true → (u : State) × Leads p s0 u × IsOver over u.work) → (z ≡ false → Follows over p n s0 chain goal way o) → Follows over p n s0 chain goal way (if z then Over else o)
  over_case n s0 chain goal way o true h g = h refl
  over_case n s0 chain goal way o false h g = g refl

  module _ (at : Pos) (loop : Loop) (test body next : CsStmtTree) where
    -- where the test is true the body is begun
    abbrev pub on : ℕ → List Item → List Held → Onward
    on j w s m i = goes (Do loop.body ∷ Again (suc j) loop ∷ w) s m i

    abbrev pub off : List Item → List Held → Onward
    off w s m i = goes w s m i

    abbrev pub TestSim : ℕ → Type 0
    TestSim n = (j : ℕ) (w : List Item) (s : List Held) (l : low.State) → Room l → Fits p (state (Begin j loop ∷ w) s l.memory l.inputs)
        → (s1 : State) × (step p (state (Begin j loop ∷ w) s l.memory l.inputs) ≡ Goes s1) × Tested over p n s1 (calls_in w) (on j w s) (off w s) 0 (run n test l)

    abbrev pub BodySim : ℕ → Type 0
    BodySim n = (w : List Item) (s : List Held) (l : low.State) → Room l → Fits p (state (Do loop.body ∷ w) s l.memory l.inputs)
        → done n InLoop (state (Do loop.body ∷ w) s l.memory l.inputs) w s (run n body l)

    abbrev pub StepSim : ℕ → Type 0
    StepSim n = (j : ℕ) (w : List Item) (s : List Held) (l : low.State) → Room l → Fits p (state (Again j loop ∷ w) s l.memory l.inputs)
        → Follows over p n (state (Again j loop ∷ w) s l.memory l.inputs) (calls_in w) (RestGoal (Begin j loop ∷ w) s) no_way (run n next l)

    abbrev pub LoopSims : ℕ → Type 0
    LoopSims n = TestSim n × BodySim n × StepSim n

    abbrev pub turn : CsStmtTree
    turn = code.Sequence test (code.Sequence (code.Block body) next)

    -- ---- a test in front of the body

    turn_follows : (n j : ℕ) → LoopSims n → (w : List Item) (s : List Held) (l : low.State) → Room l → (s1 : State) → Fits p s1 → Tested over p n s1 (calls_in w) (on j w s) (off w s) 0 (run n test l)
        → TurnFollows n s1 (RestGoal (Begin (suc j) loop ∷ w) s) w s (run n turn l)
    turn_follows n j sims w s l room s1 fits tested =
        let goal = RestGoal (Begin (suc j) loop ∷ w) s in
        follows_then over p n s1 (calls_in w) (StepGoal p (on j w s)) goal (exit_at 0 (off w s)) (loop_way w s) (run n test l) _ tested
        (λ t u is leads g.
        let s2 = state (Do loop.body ∷ Again (suc j) loop ∷ w) s t.memory t.inputs in
        let fit2 = items.keeps over p plan runs f b rows u s2 (items.reached over p plan runs f b rows s1 u leads fits) g in
        let room2 = items.room_after over p plan runs f b rows n test l t is room in
        follows_after over p n u s2 (calls_in w) goal (loop_way w s) _ (one p u s2 g)
        (follows_then over p n s2 (calls_in w) (RestGoal (Again (suc j) loop ∷ w) s) goal (loop_way w s) (loop_way w s) (at_block (run n body t)) _
        (body_block n (suc j) loop s2 w s (run n body t) (sims.1 (Again (suc j) loop ∷ w) s t room2 fit2))
        (λ r v done leads2 e. subst (λ x. TurnFollows n x goal w s (run n next r)) (sym e)
        (follows_map over p n (state (Again (suc j) loop ∷ w) s r.memory r.inputs) (calls_in w) goal goal no_way (loop_way w s) (run n next r)
        (sims.2 (suc j) w s r (items.room_after over p plan runs f b rows n (code.Block body) t r done room2) (subst (λ x. Fits p x) e (items.reached over p plan runs f b rows s2 v leads2 fit2)))
        (λ t u l g. (u, none p u, g)) (λ k t x. absurd x)))
        (λ x t h. h)))
        (λ x t h. test_out w s s1 x t h)

    -- one turn, and what comes after it
    loop_turn : (n j : ℕ) → LoopSims n → (w : List Item) (s : List Held) (l : low.State) → Room l → (s1 : State) → Fits p s1 → Tested over p n s1 (calls_in w) (on j w s) (off w s) 0 (run n test l)
        → ((t : low.State) → Room t → Fits p (state (Begin (suc j) loop ∷ w) s t.memory t.inputs)
        → TurnFollows n (state (Begin (suc j) loop ∷ w) s t.memory t.inputs) (RestGoal w s) w s ((items.later over p plan runs f b rows n).statement (Turn (suc j)) (code.Loop at turn) t))
        → TurnFollows n s1 (RestGoal w s) w s (then_do (run n turn l) (λ t. (items.later over p plan runs f b rows n).statement (Turn (suc j)) (code.Loop at turn) t))
    loop_turn n j sims w s l room s1 fits tested ih =
        follows_then over p n s1 (calls_in w) (RestGoal (Begin (suc j) loop ∷ w) s) (RestGoal w s) (loop_way w s) (loop_way w s) (run n turn l) _ (turn_follows n j sims w s l room s1 fits tested)
        (λ t u is leads e. subst (λ x. TurnFollows n x (RestGoal w s) w s ((items.later over p plan runs f b rows n).statement (Turn (suc j)) (code.Loop at turn) t)) (sym e)
        (ih t (items.room_after over p plan runs f b rows n turn l t is room) (subst (λ x. Fits p x) e (items.reached over p plan runs f b rows s1 u leads fits))))
        (λ x t h. h)

    again_follows : (n j : ℕ) → ((m : ℕ) → m ≤ n → LoopSims m) → (w : List Item) (s : List Held) (l : low.State) → Room l → Fits p (state (Begin j loop ∷ w) s l.memory l.inputs)
        → TurnFollows n (state (Begin j loop ∷ w) s l.memory l.inputs) (RestGoal w s) w s ((items.later over p plan runs f b rows n).statement (Turn j) (code.Loop at turn) l)
    again_follows zero j sims w s l room fits = tt
    again_follows (suc n) j sims w s l room fits =
        let s0 = state (Begin j loop ∷ w) s l.memory l.inputs in
        let k = (sims n (omega arith)).0 j w s l room fits in
        over_case (suc n) s0 (calls_in w) (RestGoal w s) (loop_way w s) _ (over j) (λ e. (s0, none p s0, e))
        (λ e. follows_step over p n s0 k.0 (calls_in w) (RestGoal w s) (loop_way w s) _ k.1
        (loop_turn n j (sims n (omega arith)) w s l room k.0 (items.keeps over p plan runs f b rows s0 k.0 fits k.1) k.2
        (λ t more fit. again_follows n (suc j) (λ m le. sims m (omega (arith, le))) w s t more fit)))

    pub loop_follows : (n : ℕ) → ((m : ℕ) → m ≤ n → LoopSims m) → (w : List Item) (s : List Held) (l : low.State) → Room l → Fits p (state (Begin 0 loop ∷ w) s l.memory l.inputs)
        → TurnFollows n (state (Begin 0 loop ∷ w) s l.memory l.inputs) (RestGoal w s) w s (run n (code.Loop at turn) l)
    loop_follows n sims w s l room fits =
        let s0 = state (Begin 0 loop ∷ w) s l.memory l.inputs in
        let k = (sims n (omega arith)).0 0 w s l room fits in
        over_case n s0 (calls_in w) (RestGoal w s) (loop_way w s) _ (over 0) (λ e. (s0, none p s0, e))
        (λ e. follows_after over p n s0 k.0 (calls_in w) (RestGoal w s) (loop_way w s) _ (one p s0 k.0 k.1)
        (loop_turn n 0 (sims n (omega arith)) w s l room k.0 (items.keeps over p plan runs f b rows s0 k.0 fits k.1) k.2
        (λ t more fit. again_follows n 1 sims w s t more fit)))

    -- ---- a test behind the body

    abbrev pub do_turn : CsStmtTree
    do_turn = code.Sequence (code.Block body) test

    abbrev after_turn : ℕ → ℕ → low.State → Outcome
    after_turn n j t = (items.later over p plan runs f b rows n).statement (Turn (suc j)) (code.Loop at do_turn) t

    -- a turn that is over is over where its test begins
    over_again : (n j : ℕ) (w : List Item) (s : List Held) (t r : low.State) → over (suc j) ≡ true
        → TurnFollows n (state (Begin (suc j) loop ∷ w) s r.memory r.inputs) (RestGoal w s) w s (after_turn n j t)
    over_again zero j w s t r e = tt
    over_again (suc n) j w s t r e =
        let s0 = state (Begin (suc j) loop ∷ w) s r.memory r.inputs in
        over_case (suc n) s0 (calls_in w) (RestGoal w s) (loop_way w s) _ (over (suc j)) (λ e. (s0, none p s0, e)) (λ e'. absurd (cc))

    -- another turn, where it is not over, from the state that begins the body
    abbrev Another : ℕ → ℕ → List Item → List Held → Type 0
    Another n j w s = (t : low.State) (u : State) → over j ≡ false → step p u ≡ on j w s t.memory t.inputs → Room t → Fits p u
        → TurnFollows n u (RestGoal w s) w s ((items.later over p plan runs f b rows n).statement (Turn j) (code.Loop at do_turn) t)

    abbrev pub DoSims : ℕ → Type 0
    DoSims n = TestSim n × BodySim n

    do_test : (n j : ℕ) → TestSim n → (w : List Item) (s : List Held) (r : low.State) → Room r → Fits p (state (Begin (suc j) loop ∷ w) s r.memory r.inputs) → Another n (suc j) w s
        → (z : Bool) → over (suc j) ≡ z → TurnFollows n (state (Begin (suc j) loop ∷ w) s r.memory r.inputs) (RestGoal w s) w s (then_do (run n test r) (after_turn n j))
    do_test n j tests w s r room fits ih true e =
        let s0 = state (Begin (suc j) loop ∷ w) s r.memory r.inputs in
        let k = tests (suc j) w s r room fits in
        follows_on over p n s0 (calls_in w) (StepGoal p (on (suc j) w s)) (RestGoal w s) (exit_at 0 (off w s)) (loop_way w s) (run n test r) (after_turn n j)
        (follows_after over p n s0 k.0 (calls_in w) (StepGoal p (on (suc j) w s)) (exit_at 0 (off w s)) (run n test r) (one p s0 k.0 k.1) k.2)
        (λ t u is leads g. over_again n j w s t r e) (λ x t h. test_out w s s0 x t h)
    do_test n j tests w s r room fits ih false e =
        let s0 = state (Begin (suc j) loop ∷ w) s r.memory r.inputs in
        let k = tests (suc j) w s r room fits in
        follows_after over p n s0 k.0 (calls_in w) (RestGoal w s) (loop_way w s) _ (one p s0 k.0 k.1)
        (follows_then over p n k.0 (calls_in w) (StepGoal p (on (suc j) w s)) (RestGoal w s) (exit_at 0 (off w s)) (loop_way w s) (run n test r) (after_turn n j) k.2
        (λ t u is leads g. ih t u e g (items.room_after over p plan runs f b rows n test r t is room)
        (items.reached over p plan runs f b rows k.0 u leads (items.keeps over p plan runs f b rows s0 k.0 fits k.1)))
        (λ x t h. test_out w s k.0 x t h))

    -- behind the body a loop without a step is begun again
    begins : (j : ℕ) (w : List Item) (s : List Held) (r : low.State) → loop.step ≡ None
        → step p (state (Again j loop ∷ w) s r.memory r.inputs) ≡ Goes (state (Begin j loop ∷ w) s r.memory r.inputs)
    begins j w s r e = rw e refl

    do_follows : (n j : ℕ) → loop.step ≡ None → DoSims n → (w : List Item) (s : List Held) (l : low.State) → Room l → Fits p (state (Do loop.body ∷ Again (suc j) loop ∷ w) s l.memory l.inputs) → Another n (suc j) w s
        → TurnFollows n (state (Do loop.body ∷ Again (suc j) loop ∷ w) s l.memory l.inputs) (RestGoal w s) w s (then_do (run n do_turn l) (after_turn n j))
    do_follows n j still sims w s l room fits ih =
        let s0 = state (Do loop.body ∷ Again (suc j) loop ∷ w) s l.memory l.inputs in
        subst (λ o. TurnFollows n s0 (RestGoal w s) w s o) (sym (then_assoc (at_block (run n body l)) (λ r. run n test r) (after_turn n j)))
        (follows_then over p n s0 (calls_in w) (RestGoal (Again (suc j) loop ∷ w) s) (RestGoal w s) (loop_way w s) (loop_way w s) (at_block (run n body l)) (λ r. then_do (run n test r) (after_turn n j))
        (body_block n (suc j) loop s0 w s (run n body l) (sims.1 (Again (suc j) loop ∷ w) s l room fits))
        (λ r u done leads e.
        let s1 = state (Again (suc j) loop ∷ w) s r.memory r.inputs in
        let s2 = state (Begin (suc j) loop ∷ w) s r.memory r.inputs in
        let more = items.room_after over p plan runs f b rows n (code.Block body) l r done room in
        let fit = subst (λ x. Fits p x) e (items.reached over p plan runs f b rows s0 u leads fits) in
        let st = begins (suc j) w s r still in
        subst (λ x. TurnFollows n x (RestGoal w s) w s (then_do (run n test r) (after_turn n j))) (sym e)
        (follows_after over p n s1 s2 (calls_in w) (RestGoal w s) (loop_way w s) _ (one p s1 s2 st)
        (do_test n j sims.0 w s r more (items.keeps over p plan runs f b rows s1 s2 fit st) ih (over (suc j)) refl)))
        (λ x t h. h))

    do_again : (n j : ℕ) → loop.step ≡ None → ((m : ℕ) → m ≤ n → DoSims m) → (w : List Item) (s : List Held) → Another n j w s
    do_again zero j still sims w s t u e g room fits = tt
    do_again (suc n) j still sims w s t u e g room fits =
        let s2 = state (Do loop.body ∷ Again (suc j) loop ∷ w) s t.memory t.inputs in
        over_case (suc n) u (calls_in w) (RestGoal w s) (loop_way w s) _ (over j) (λ e'. absurd (cc))
        (λ e'. follows_step over p n u s2 (calls_in w) (RestGoal w s) (loop_way w s) _ g
        (do_follows n j still (sims n (omega arith)) w s t room (items.keeps over p plan runs f b rows u s2 fits g)
        (do_again n (suc j) still (λ m le. sims m (omega (arith, le))) w s)))

    pub do_loop : (n : ℕ) → over 0 ≡ false → loop.step ≡ None → ((m : ℕ) → m ≤ n → DoSims m) → (w : List Item) (s : List Held) (l : low.State) → Room l
        → Fits p (state (Do loop.body ∷ Again 1 loop ∷ w) s l.memory l.inputs)
        → TurnFollows n (state (Do loop.body ∷ Again 1 loop ∷ w) s l.memory l.inputs) (RestGoal w s) w s (run n (code.Loop at do_turn) l)
    do_loop n start still sims w s l room fits =
        let s0 = state (Do loop.body ∷ Again 1 loop ∷ w) s l.memory l.inputs in
        over_case n s0 (calls_in w) (RestGoal w s) (loop_way w s) _ (over 0) (λ e. absurd (cc))
        (λ e. do_follows n 0 still (sims n (omega arith)) w s l room fits (do_again n 1 still sims w s))
