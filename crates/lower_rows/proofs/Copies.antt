-- The machine follows the code that names a struct, and that which copies it: a place, and `?:` of two.
use Rattle.std.proofs.Common.{◌≡◌, ℕ, List, ◌∷◌, Some, refl, sym, subst, Bool}
use Rattle.c_syntax_written.specs.declared.place.Pos.{Pos}
use Rattle.c_syntax.specs.declared.operator.Extent.{Extent}
use Rattle.c_syntax.specs.declared.program.Plan.{Plan}
use Rattle.c_syntax.specs.TypedExpr.{TExprTree, TLvalueTree}
use Rattle.c_syntax.specs.Program.{TProgramTree}
use Rattle.c_layout.specs.Plans.{IsPlanFor}
use Rattle.c_layout.specs.WellTyped.{IsWellTyped}
use Rattle.block_mem.specs.declared.types.Value.{Value}
use Rattle.c_steps.specs.Work.{Item, Eval, Addr, Named, CopyAt}
use Rattle.c_steps.specs.States.{Held, Struct, state, held}
use Rattle.c_steps.specs.Runs.{calls_in, chain_of}
use Rattle.c_steps_laws.specs.Fits.{Fits}
use Rattle.csharp.specs.Trees as code
use Rattle.csharp.specs.Trees.{CsExprTree, CsStmtTree}
use Rattle.csharp.specs.States as low
use Rattle.csharp.specs.States.{value_of}
use Rattle.csharp.specs.Outcomes.{Normal, then_do}
use Rattle.lower_trees.specs.Checking.{checks, write_list}
use Rattle.lower_trees.specs.LowerExpr.{Lowered, of_source, of_assign_struct}
use Rattle.lower_rows.proofs.Steps.{Follows, one, follows_after, follows_then}
use Rattle.lower_rows.proofs.Rows.{ValueFollows, no_way, run, SourceGoal, ReadsFirst, source_end, copy_row}
use Rattle.lower_rows.proofs.Sim.{value_then}

module _ (over : ℕ → Bool) (p : TProgramTree) (plan : Plan) (n : ℕ) (ok : IsWellTyped p) (planned : IsPlanFor p plan) where
  -- a place that names a struct: its code, and the looks that the item behind it makes first
  pub named_follows : (size align : ℕ) (at : Pos) (item : Item) (w : List Item) (s : List Held) (place : TLvalueTree) (a : Lowered) (t : low.State)
      → ReadsFirst over p plan n size align item w s → chain_of (item ∷ w) ≡ calls_in w → calls_in (item ∷ w) ≡ calls_in w
      → Fits p (state (Addr place ∷ Named at ∷ item ∷ w) s t.memory t.inputs)
      → ValueFollows over p n (state (Addr place ∷ Named at ∷ item ∷ w) s t.memory t.inputs) (Named at ∷ item ∷ w) s a.value (run over p plan n a.before t)
      → Follows over p n (state (Addr place ∷ Named at ∷ item ∷ w) s t.memory t.inputs) (calls_in w) (SourceGoal over p plan n size align a.value item w s) no_way
      (run over p plan n (of_source at a size align).before t)
  named_follows size align at item w s place a t reads c k fits sim =
      value_then over p plan n ok planned (state (Addr place ∷ Named at ∷ item ∷ w) s t.memory t.inputs) (Named at ∷ item ∷ w) s a.value _ _ (calls_in w)
      (SourceGoal over p plan n size align a.value item w s) fits k sim
      (λ l is v ev f. follows_after over p n _ (state (item ∷ w) (Struct at v ∷ s) l.memory l.inputs) (calls_in w) (SourceGoal over p plan n size align a.value item w s) no_way _
      (one p _ _ refl) (source_end over p plan n size align item w s at a.value l v reads c ev))

  -- the item of an assignment looks at its source first
  pub copy_reads : (at : Pos) (extent : Extent) (w : List Item) (s : List Held) (v : Value) → ReadsFirst over p plan n extent.size extent.align (CopyAt at extent) w (held v ∷ s)
  copy_reads at extent w s v from u m i = (_, refl)

  -- an assignment of a struct, from what is known of its target and its source
  pub copied : (at : Pos) (extent : Extent) (place : TLvalueTree) (e : TExprTree) (a b : Lowered) (w : List Item) (s : List Held) (t : low.State)
      → Fits p (state (Addr place ∷ Eval e ∷ CopyAt at extent ∷ w) s t.memory t.inputs)
      → ValueFollows over p n (state (Addr place ∷ Eval e ∷ CopyAt at extent ∷ w) s t.memory t.inputs) (Eval e ∷ CopyAt at extent ∷ w) s a.value (run over p plan n a.before t)
      → ((l : low.State) (v : Value) → run over p plan n a.before t ≡ Normal l → Fits p (state (Eval e ∷ CopyAt at extent ∷ w) (held v ∷ s) l.memory l.inputs)
      → Follows over p n (state (Eval e ∷ CopyAt at extent ∷ w) (held v ∷ s) l.memory l.inputs) (calls_in w)
      (SourceGoal over p plan n extent.size extent.align b.value (CopyAt at extent) w (held v ∷ s)) no_way (run over p plan n b.before l))
      → ((l r : low.State) (v : Value) → run over p plan n b.before l ≡ Normal r → value_of a.value l ≡ Some v → value_of a.value r ≡ Some v)
      → Follows over p n (state (Addr place ∷ Eval e ∷ CopyAt at extent ∷ w) s t.memory t.inputs) (calls_in w)
      (λ l x. (z : Value) × (value_of a.value l ≡ Some z) × (x ≡ state w (Struct at z ∷ s) l.memory l.inputs)) no_way
      (run over p plan n (of_assign_struct at extent.size extent.align a b).before t)
  copied at extent place e a b w s t fits target source stays =
      value_then over p plan n ok planned _ (Eval e ∷ CopyAt at extent ∷ w) s a.value _ _ (calls_in w) _ fits refl target
      (λ l is v ev f. follows_then over p n _ (calls_in w) (SourceGoal over p plan n extent.size extent.align b.value (CopyAt at extent) w (held v ∷ s)) _ no_way no_way _ _ (source l v is f)
      (λ r u more leads k. subst (λ x. Follows over p n x (calls_in w)
      (λ l x. (z : Value) × (value_of a.value l ≡ Some z) × (x ≡ state w (Struct at z ∷ s) l.memory l.inputs)) no_way
      (then_do (run over p plan n (checks (write_list at extent.size extent.align a.value)) r) (λ l. run over p plan n (code.CopyBytes extent.size a.value b.value) l)))
      (sym k.3) (copy_row over p plan n at extent w s k.0 a.value b.value r v k.1 k.4 (stays l r v more ev) k.2))
      (λ k t x. absurd x))
