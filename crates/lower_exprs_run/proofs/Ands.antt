-- `&&` and `||`: their parts decide, and a part that decides alone gives a bit.
use Rattle.std.specs.Prelude.{Bool, true, false}
use Rattle.std.proofs.Common.{◌≡◌, ℕ, zero, suc, List, ◌∷◌, refl, ℤ}
use Rattle.c_syntax_written.specs.declared.place.Pos.{Pos}
use Rattle.c_syntax.specs.declared.program.Plan.{Plan}
use Rattle.c_syntax.specs.TypedExpr as c
use Rattle.c_syntax.specs.TypedExpr.{TExprTree}
use Rattle.c_syntax.specs.Program.{TProgramTree}
use Rattle.c_layout.specs.Plans.{IsPlanFor}
use Rattle.c_layout.specs.WellTyped.{IsWellTyped}
use Rattle.c_values.specs.Places.{ObjectMemory}
use Rattle.c_values.specs.Values.{bit}
use Rattle.c_steps.specs.Work.{Item, Eval, AndThen, OrElse, Truth}
use Rattle.c_steps.specs.States.{Held, State, state, Goes, goes, held}
use Rattle.c_steps.specs.Steps.{step}
use Rattle.c_steps.specs.Expressions.{value_scalar}
use Rattle.c_steps_laws.specs.Fits.{Fits}
use Rattle.csharp.specs.Trees as code
use Rattle.csharp.specs.Trees.{CsStmtTree}
use Rattle.csharp.specs.States as low
use Rattle.csharp.specs.Outcomes.{Way, ByExit, ByGoto, ByReturn, Outcome, Normal, then_do}
use Rattle.lower_rows.proofs.Steps.{Leads, ToSome, one, none, follows_after, follows_then, follows_map, fits_leads}
use Rattle.lower_rows.proofs.Rows.{run}
use Rattle.lower_rows.proofs.Sim.{kept}
use Rattle.lower_rows.proofs.Tests.{Onward, StepGoal, exit_at, Tested, exit_or_end, block_tested, gone, way_map}

-- a state to which a test goes on
abbrev pub To : List Item → List Held → Onward
To w s m i = goes w s m i

-- a bit in front of other work
abbrev pub Bit : Bool → List Item → List Held → Onward
Bit b w s m i = goes w (held (bit b) ∷ s) m i

module _ (over : ℕ → Bool) (p : TProgramTree) (plan : Plan) (n : ℕ) (ok : IsWellTyped p) (planned : IsPlanFor p plan) where
  -- a state that is reached and one step more fit
  pub fits_on : (s0 u v : State) → Fits p s0 → Leads p s0 u → step p u ≡ Goes v → Fits p v
  fits_on s0 u v fits leads e = kept over p plan n ok planned u v (fits_leads p (kept over p plan n ok planned) s0 u leads fits) e

  -- what comes next is a state whose step is what comes next
  pub tested_on : (s0 : State) (chain : List Pos) (w v : List Item) (s t : List Held) (on off : Onward) (k : ℕ) (o : Outcome)
      → ((m : ObjectMemory) (i : List ℤ) → step p (state w s m i) ≡ on m i) → ((m : ObjectMemory) (i : List ℤ) → step p (state v t m i) ≡ off m i)
      → Tested over p n s0 chain (To w s) (To v t) k o → Tested over p n s0 chain on off k o
  tested_on s0 chain w v s t on off k o f g h =
      follows_map over p n s0 chain (StepGoal p (To w s)) (StepGoal p on) (exit_at k (To v t)) (exit_at k off) o h
      (λ l u leads e. (state w s l.memory l.inputs, one p u _ e, f l.memory l.inputs))
      (λ x l y. way_map over p plan n k (To v t) off x l s0 (λ z. gone over p plan n s0 (state v t l.memory l.inputs) (off l.memory l.inputs) z (g l.memory l.inputs)) y)

  -- the first part, and where it goes on the second
  in_turn : (s0 : State) (chain : List Pos) (w : List Item) (s : List Held) (on off : Onward) (k : ℕ) (o : Outcome) (go : low.State → Outcome)
      → Fits p s0 → Tested over p n s0 chain (To w s) off k o
      → ((t : low.State) → o ≡ Normal t → Fits p (state w s t.memory t.inputs) → Tested over p n (state w s t.memory t.inputs) chain on off k (go t))
      → Tested over p n s0 chain on off k (then_do o go)
  in_turn s0 chain w s on off k o go fits h f =
      follows_then over p n s0 chain (StepGoal p (To w s)) (StepGoal p on) (exit_at k off) (exit_at k off) o go h
      (λ t u is leads e. follows_after over p n u (state w s t.memory t.inputs) chain (StepGoal p on) (exit_at k off) (go t) (one p u _ e) (f t is (fits_on s0 u (state w s t.memory t.inputs) fits leads e))) (λ x t y. y)

  -- `a && b`, which goes on with a bit
  pub and_unless : (at : Pos) (a b : TExprTree) (w : List Item) (s : List Held) (chain : List Pos) (k : ℕ) (l : low.State) (first second : CsStmtTree)
      → Fits p (state (Eval (c.And at a b) ∷ w) s l.memory l.inputs)
      → (Fits p (state (Eval a ∷ AndThen at (value_scalar a) b ∷ w) s l.memory l.inputs) → Tested over p n (state (Eval a ∷ AndThen at (value_scalar a) b ∷ w) s l.memory l.inputs) chain (To (Eval b ∷ Truth at (value_scalar b) ∷ w) s) (Bit false w s) k (run over p plan n first l))
      → ((t : low.State) → run over p plan n first l ≡ Normal t → Fits p (state (Eval b ∷ Truth at (value_scalar b) ∷ w) s t.memory t.inputs)
      → Tested over p n (state (Eval b ∷ Truth at (value_scalar b) ∷ w) s t.memory t.inputs) chain (Bit true w s) (Bit false w s) k (run over p plan n second t))
      → Tested over p n (state (Eval (c.And at a b) ∷ w) s l.memory l.inputs) chain (Bit true w s) (Bit false w s) k (run over p plan n (code.Sequence first second) l)
  and_unless at a b w s chain k l first second fits h f =
      follows_after over p n _ (state (Eval a ∷ AndThen at (value_scalar a) b ∷ w) s l.memory l.inputs) chain (StepGoal p (Bit true w s)) (exit_at k (Bit false w s)) _ (one p _ _ refl)
      (in_turn _ chain (Eval b ∷ Truth at (value_scalar b) ∷ w) s (Bit true w s) (Bit false w s) k (run over p plan n first l) (λ t. run over p plan n second t) (kept over p plan n ok planned _ _ fits refl) (h (kept over p plan n ok planned _ _ fits refl)) f)

  -- where the first part is left by exit 0, the end of the block comes next
  as_end : (k : ℕ) (on off : Onward) (x : Way) (t : low.State) (s0 : State) → ToSome p s0 (exit_at zero on x t) → ToSome p s0 (exit_or_end over p plan n k on off x t)
  as_end k on off (ByExit zero) t s0 h = h
  as_end k on off (ByExit (suc j)) t s0 h = absurd h
  as_end k on off (ByGoto l) t s0 h = absurd h
  as_end k on off (ByReturn v) t s0 h = absurd h

  past_end : (k : ℕ) (on off : Onward) (x : Way) (t : low.State) (s0 : State) → ToSome p s0 (exit_at (suc k) off x t) → ToSome p s0 (exit_or_end over p plan n k on off x t)
  past_end k on off (ByExit zero) t s0 h = absurd h
  past_end k on off (ByExit (suc j)) t s0 h = h
  past_end k on off (ByGoto l) t s0 h = absurd h
  past_end k on off (ByReturn v) t s0 h = absurd h

  -- a block in which the first part's exit leads to its end, and the second part's exit leads past it
  in_block : (s0 : State) (chain : List Pos) (w : List Item) (s : List Held) (on off : Onward) (k : ℕ) (first second : CsStmtTree) (l : low.State)
      → Fits p s0 → Tested over p n s0 chain (To w s) on 0 (run over p plan n first l)
      → ((t : low.State) → run over p plan n first l ≡ Normal t → Fits p (state w s t.memory t.inputs) → Tested over p n (state w s t.memory t.inputs) chain on off (suc k) (run over p plan n second t))
      → Tested over p n s0 chain on off k (run over p plan n (code.Block (code.Sequence first second)) l)
  in_block s0 chain w s on off k first second l fits h f =
      block_tested over p plan n k s0 chain on off (run over p plan n (code.Sequence first second) l)
      (follows_then over p n s0 chain (StepGoal p (To w s)) (StepGoal p on) (exit_at 0 on) (exit_or_end over p plan n k on off) (run over p plan n first l) (λ t. run over p plan n second t) h
      (λ t u is leads e. follows_after over p n u (state w s t.memory t.inputs) chain (StepGoal p on) (exit_or_end over p plan n k on off) _ (one p u _ e)
      (follows_map over p n _ chain (StepGoal p on) (StepGoal p on) (exit_at (suc k) off) (exit_or_end over p plan n k on off) _ (f t is (fits_on s0 u (state w s t.memory t.inputs) fits leads e)) (λ r x more g. (x, none p x, g)) (λ x r y. past_end k on off x r _ y)))
      (λ x t y. as_end k on off x t s0 y))

  -- `a && b`, which leaves where it is so
  pub and_when : (at : Pos) (a b : TExprTree) (w : List Item) (s : List Held) (chain : List Pos) (k : ℕ) (l : low.State) (first second : CsStmtTree)
      → Fits p (state (Eval (c.And at a b) ∷ w) s l.memory l.inputs)
      → (Fits p (state (Eval a ∷ AndThen at (value_scalar a) b ∷ w) s l.memory l.inputs) → Tested over p n (state (Eval a ∷ AndThen at (value_scalar a) b ∷ w) s l.memory l.inputs) chain (To (Eval b ∷ Truth at (value_scalar b) ∷ w) s) (Bit false w s) 0 (run over p plan n first l))
      → ((t : low.State) → run over p plan n first l ≡ Normal t → Fits p (state (Eval b ∷ Truth at (value_scalar b) ∷ w) s t.memory t.inputs)
      → Tested over p n (state (Eval b ∷ Truth at (value_scalar b) ∷ w) s t.memory t.inputs) chain (Bit false w s) (Bit true w s) (suc k) (run over p plan n second t))
      → Tested over p n (state (Eval (c.And at a b) ∷ w) s l.memory l.inputs) chain (Bit false w s) (Bit true w s) k (run over p plan n (code.Block (code.Sequence first second)) l)
  and_when at a b w s chain k l first second fits h f =
      follows_after over p n _ (state (Eval a ∷ AndThen at (value_scalar a) b ∷ w) s l.memory l.inputs) chain (StepGoal p (Bit false w s)) (exit_at k (Bit true w s)) _ (one p _ _ refl)
      (in_block _ chain (Eval b ∷ Truth at (value_scalar b) ∷ w) s (Bit false w s) (Bit true w s) k first second l (kept over p plan n ok planned _ _ fits refl) (h (kept over p plan n ok planned _ _ fits refl)) f)

  -- `a || b`, which goes on where it is so
  pub or_unless : (at : Pos) (a b : TExprTree) (w : List Item) (s : List Held) (chain : List Pos) (k : ℕ) (l : low.State) (first second : CsStmtTree)
      → Fits p (state (Eval (c.Or at a b) ∷ w) s l.memory l.inputs)
      → (Fits p (state (Eval a ∷ OrElse at (value_scalar a) b ∷ w) s l.memory l.inputs) → Tested over p n (state (Eval a ∷ OrElse at (value_scalar a) b ∷ w) s l.memory l.inputs) chain (To (Eval b ∷ Truth at (value_scalar b) ∷ w) s) (Bit true w s) 0 (run over p plan n first l))
      → ((t : low.State) → run over p plan n first l ≡ Normal t → Fits p (state (Eval b ∷ Truth at (value_scalar b) ∷ w) s t.memory t.inputs)
      → Tested over p n (state (Eval b ∷ Truth at (value_scalar b) ∷ w) s t.memory t.inputs) chain (Bit true w s) (Bit false w s) (suc k) (run over p plan n second t))
      → Tested over p n (state (Eval (c.Or at a b) ∷ w) s l.memory l.inputs) chain (Bit true w s) (Bit false w s) k (run over p plan n (code.Block (code.Sequence first second)) l)
  or_unless at a b w s chain k l first second fits h f =
      follows_after over p n _ (state (Eval a ∷ OrElse at (value_scalar a) b ∷ w) s l.memory l.inputs) chain (StepGoal p (Bit true w s)) (exit_at k (Bit false w s)) _ (one p _ _ refl)
      (in_block _ chain (Eval b ∷ Truth at (value_scalar b) ∷ w) s (Bit true w s) (Bit false w s) k first second l (kept over p plan n ok planned _ _ fits refl) (h (kept over p plan n ok planned _ _ fits refl)) f)

  pub or_when : (at : Pos) (a b : TExprTree) (w : List Item) (s : List Held) (chain : List Pos) (k : ℕ) (l : low.State) (first second : CsStmtTree)
      → Fits p (state (Eval (c.Or at a b) ∷ w) s l.memory l.inputs)
      → (Fits p (state (Eval a ∷ OrElse at (value_scalar a) b ∷ w) s l.memory l.inputs) → Tested over p n (state (Eval a ∷ OrElse at (value_scalar a) b ∷ w) s l.memory l.inputs) chain (To (Eval b ∷ Truth at (value_scalar b) ∷ w) s) (Bit true w s) k (run over p plan n first l))
      → ((t : low.State) → run over p plan n first l ≡ Normal t → Fits p (state (Eval b ∷ Truth at (value_scalar b) ∷ w) s t.memory t.inputs)
      → Tested over p n (state (Eval b ∷ Truth at (value_scalar b) ∷ w) s t.memory t.inputs) chain (Bit false w s) (Bit true w s) k (run over p plan n second t))
      → Tested over p n (state (Eval (c.Or at a b) ∷ w) s l.memory l.inputs) chain (Bit false w s) (Bit true w s) k (run over p plan n (code.Sequence first second) l)
  or_when at a b w s chain k l first second fits h f =
      follows_after over p n _ (state (Eval a ∷ OrElse at (value_scalar a) b ∷ w) s l.memory l.inputs) chain (StepGoal p (Bit false w s)) (exit_at k (Bit true w s)) _ (one p _ _ refl)
      (in_turn _ chain (Eval b ∷ Truth at (value_scalar b) ∷ w) s (Bit false w s) (Bit true w s) k (run over p plan n first l) (λ t. run over p plan n second t) (kept over p plan n ok planned _ _ fits refl) (h (kept over p plan n ok planned _ _ fits refl)) f)
