-- The machine follows the code of initialisers: each item is put into the object, and the bytes that none names become 0 one by one.
use Rattle.std.proofs.Common.{◌≡◌, ℕ, List, ◌∷◌, Option, Some, None, refl, sym, subst, Bool}
use Rattle.std.specs.Prelude.{IsSome}
use Rattle.c_syntax_written.specs.declared.place.Pos.{Pos}
use Rattle.c_syntax.specs.declared.program.Plan.{Plan}
use Rattle.c_syntax.specs.TypedExpr.{TExprTree}
use Rattle.c_syntax.specs.TypedStmt as c
use Rattle.c_syntax.specs.TypedStmt.{TInitTree}
use Rattle.c_syntax.specs.Program.{TProgramTree}
use Rattle.c_layout.specs.Plans.{IsPlanFor}
use Rattle.c_layout.specs.WellTyped.{IsWellTyped}
use Rattle.block_mem.specs.declared.types.Scalar.{Scalar}
use Rattle.c_values.specs.Places.{ObjectMemory}
use Rattle.c_objects.specs.Opening.{undefined}
use Rattle.c_steps.specs.Work.{Item, Eval, Do, Fill}
use Rattle.c_steps.specs.States.{Held, State, state, Goes}
use Rattle.c_steps.specs.Steps.{step}
use Rattle.c_steps.specs.Statements.{init_items, rest_items}
use Rattle.c_steps.specs.Runs.{calls_in}
use Rattle.c_steps_laws.specs.Fits.{Fits}
use Rattle.csharp.specs.Trees as code
use Rattle.csharp.specs.Trees.{CsStmtTrees, none, more}
use Rattle.csharp.specs.States as low
use Rattle.csharp.specs.Outcomes.{Outcome, Normal, then_do, to_normal}
use Rattle.csharp.specs.Actions.{with_memory}
use Rattle.csharp.specs.Meaning.{items, later_by}
use Rattle.lower_trees.specs.Checking.{address_at}
use Rattle.lower_trees.specs.LowerExpr.{Lowered, or_int}
use Rattle.lower_trees.specs.LowerProgram.{lower}
use Rattle.lower_rows.proofs.Steps.{Follows, one, follows_after, follows_then, fits_leads}
use Rattle.lower_rows.proofs.Rows.{RestGoal, ValueFollows, no_way, run, fill_row}
use Rattle.lower_rows.proofs.Sim.{value_then, kept}

module _ (over : ℕ → Bool) (p : TProgramTree) (plan : Plan) (n : ℕ) where
  abbrev pub all : CsStmtTrees → low.State → Outcome
  all is t = items over (lower p plan) (later_by over (lower p plan) n) None is t

  -- ---- an item that puts a scalar into the object, from what is known of its value
  module _ (ok : IsWellTyped p) (planned : IsPlanFor p plan) where
    pub stored_item : (x offset : ℕ) (e : TExprTree) (sc : Option Scalar) (a : Lowered) (w : List Item) (s : List Held) (t : low.State) → IsSome sc
        → Fits p (state (Eval e ∷ Fill x offset sc ∷ w) s t.memory t.inputs)
        → ValueFollows over p n (state (Eval e ∷ Fill x offset sc ∷ w) s t.memory t.inputs) (Fill x offset sc ∷ w) s a.value (run over p plan n a.before t)
        → Follows over p n (state (Eval e ∷ Fill x offset sc ∷ w) s t.memory t.inputs) (calls_in w) (RestGoal w s) no_way
        (run over p plan n (code.Sequence a.before (code.Store (or_int sc) (address_at x offset) a.value)) t)
    stored_item x offset e None a w s t h fits sim = absurd (cc)
    stored_item x offset e (Some ty) a w s t h fits sim =
        value_then over p plan n ok planned (state (Eval e ∷ Fill x offset (Some ty) ∷ w) s t.memory t.inputs) (Fill x offset (Some ty) ∷ w) s a.value _ _ (calls_in w) (RestGoal w s) fits refl sim
        (λ l is v ev f. fill_row over p plan n x offset ty w s a.value l v ev)

    -- one item, and the items behind it
    pub item_then : (s0 : State) (w : List Item) (s : List Held) (chain : List Pos) (goal : low.State → State → Type 0) (o : Outcome) (go : low.State → Outcome) → Fits p s0 → calls_in w ≡ chain
        → Follows over p n s0 (calls_in w) (RestGoal w s) no_way o
        → ((t : low.State) → o ≡ Normal t → Fits p (state w s t.memory t.inputs) → Follows over p n (state w s t.memory t.inputs) chain goal no_way (go t))
        → Follows over p n s0 chain goal no_way (then_do o go)
    item_then s0 w s chain goal o go fits e h f =
        follows_then over p n s0 chain (RestGoal w s) goal no_way no_way o go (subst (λ k. Follows over p n s0 k (RestGoal w s) no_way o) e h)
        (λ t u is leads k. subst (λ x. Follows over p n x chain goal no_way (go t)) (sym k)
        (f t is (subst (λ x. Fits p x) k (fits_leads p (kept over p plan n ok planned) s0 u leads fits)))) (λ k t x. absurd x)

    -- a declaration with one item: the bytes lose their values, the item, and what it does not name
    undefined_case : (at : Pos) (x : ℕ) (inits : List TInitTree) (z : Bool) (w : List Item) (s : List Held) (t : low.State) (o : Option ObjectMemory) (rest : CsStmtTrees)
        → undefined t.memory x ≡ o → Fits p (state (Do (c.Declare at x inits z) ∷ w) s t.memory t.inputs)
        → ((m : ObjectMemory) → Fits p (state (init_items x inits (rest_items x inits z w)) s m t.inputs)
        → Follows over p n (state (init_items x inits (rest_items x inits z w)) s m t.inputs) (calls_in w) (RestGoal w s) no_way (all rest (record t { memory = m })))
        → Follows over p n (state (Do (c.Declare at x inits z) ∷ w) s t.memory t.inputs) (calls_in w) (RestGoal w s) no_way
        (then_do (to_normal (with_memory t o)) (λ l. all rest l))
    undefined_case at x inits z w s t None rest e fits f = (_, (0, refl), rw e refl)
    undefined_case at x inits z w s t (Some m) rest e fits f =
        let is : step p (state (Do (c.Declare at x inits z) ∷ w) s t.memory t.inputs) ≡ Goes (state (init_items x inits (rest_items x inits z w)) s m t.inputs) = rw e refl in
        follows_after over p n _ (state (init_items x inits (rest_items x inits z w)) s m t.inputs) (calls_in w) (RestGoal w s) no_way _ (one p _ _ is)
        (f m (kept over p plan n ok planned _ _ fits is))

    pub declared : (at : Pos) (x : ℕ) (inits : List TInitTree) (z : Bool) (w : List Item) (s : List Held) (t : low.State) (rest : CsStmtTrees)
        → Fits p (state (Do (c.Declare at x inits z) ∷ w) s t.memory t.inputs)
        → ((m : ObjectMemory) → Fits p (state (init_items x inits (rest_items x inits z w)) s m t.inputs)
        → Follows over p n (state (init_items x inits (rest_items x inits z w)) s m t.inputs) (calls_in w) (RestGoal w s) no_way (all rest (record t { memory = m })))
        → Follows over p n (state (Do (c.Declare at x inits z) ∷ w) s t.memory t.inputs) (calls_in w) (RestGoal w s) no_way
        (all (more (code.Undefine x) rest) t)
    declared at x inits z w s t rest fits f = undefined_case at x inits z w s t (undefined t.memory x) rest refl fits f
