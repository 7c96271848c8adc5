-- The machine follows tests: `&&`, `||` and `!` become branches, each part of which is tested at its own place.
use Rattle.std.proofs.Common.{◌≡◌, ℕ, zero, suc, Bool, true, false, List, ◌∷◌, Option, Some, None, refl, sym, ◌∙◌, subst, ℤ}
use Rattle.std.specs.Prelude.{if◌then◌else◌, map}
use Rattle.c_syntax_written.specs.declared.int_type.IntType.TheVariants as ints
use Rattle.c_syntax_written.specs.declared.place.Pos.{Pos}
use Rattle.c_syntax.specs.declared.program.Plan.{Plan}
use Rattle.c_syntax.specs.TypedExpr as c
use Rattle.c_syntax.specs.TypedExpr.{TExprTree}
use Rattle.c_syntax.specs.Program.{TProgramTree}
use Rattle.c_layout.specs.Checks.{test_checks}
use Rattle.c_layout.specs.Plans.{IsPlanFor}
use Rattle.c_layout.specs.WellTyped.{IsWellTyped}
use Rattle.block_mem.specs.declared.types.Scalar.{Scalar}
use Rattle.block_mem.specs.declared.types.Scalar.TheVariants as scalars
use Rattle.block_mem.specs.declared.types.Value.{Value}
use Rattle.block_mem.specs.declared.types.Value.TheVariants as values
use Rattle.c_values.specs.Accesses.{test_looks}
use Rattle.c_values.specs.Looks.{Passes, judge}
use Rattle.c_values.specs.Places.{ObjectMemory}
use Rattle.c_values.specs.Values.{plain_type, truth, bit}
use Rattle.c_steps.specs.Work.{Item, Eval, AndThen, Truth}
use Rattle.c_steps.specs.Expressions.{value_scalar}
use Rattle.c_steps.specs.States.{Held, State, state, Next, Goes, goes, held}
use Rattle.c_steps.specs.Steps.{step, test_step}
use Rattle.c_steps.specs.Runs.{calls_in, chain_of}
use Rattle.c_steps_laws.specs.Fits.{Fits}
use Rattle.csharp.specs.Trees as code
use Rattle.csharp.specs.Trees.{CsExprTree, CsStmtTree}
use Rattle.csharp.specs.States as low
use Rattle.csharp.specs.States.{value_of, look_of}
use Rattle.csharp.specs.Outcomes as outs
use Rattle.csharp.specs.Outcomes.{Way, ByExit, ByGoto, ByReturn, Outcome, Normal, Leaves, Fails, Stuck, Clash, NoFuel, Over, then_do, or_stuck, at_block}
use Rattle.lower_trees.specs.Checking.{checks, test_list, test_value, plain_one}
use Rattle.lower_trees.specs.LowerExpr.{Lowered, unless_value}
use Rattle.lower_rows.proofs.Steps.{LeadsTo, ToSome, Follows, one, none, leads_on, follows_after, follows_then, follows_map}
use Rattle.lower_rows.proofs.Rows.{ValueGoal, ValueFollows, no_way, run, checks_follow, all_mapped}

-- what comes next, by the memory and the inputs that are left
abbrev pub Onward : Type 0
Onward = ObjectMemory → List ℤ → Next

abbrev pub StepGoal : TProgramTree → Onward → low.State → State → Type 0
StepGoal p next t u = step p u ≡ next t.memory t.inputs

-- exit k leads onward
abbrev pub exit_at : ℕ → Onward → Way → low.State → Option Next
exit_at zero next (ByExit zero) t = Some (next t.memory t.inputs)
exit_at zero next (ByExit (suc j)) t = None
exit_at (suc k) next (ByExit zero) t = None
exit_at (suc k) next (ByExit (suc j)) t = exit_at k next (ByExit j) t
exit_at k next (ByGoto l) t = None
exit_at k next (ByReturn v) t = None

-- code that ends normally where one thing comes next, and leaves by an exit where the other does
abbrev pub Tested : (ℕ → Bool) → TProgramTree → ℕ → State → List Pos → Onward → Onward → ℕ → Outcome → Type 0
Tested over p n s chain on off k o = Follows over p n s chain (StepGoal p on) (exit_at k off) o

-- an item that tests the value on the stack at a place
abbrev pub IsTest : TProgramTree → Pos → Option Scalar → Item → List Item → List Held → Onward → Onward → Type 0
IsTest p at ty item w s so not_so =
    (v : Value) (m : ObjectMemory) (i : List ℤ) → step p (state (item ∷ w) (held v ∷ s) m i) ≡ test_step p.objects at ty v (so m i) (not_so m i) m

pub looks_test : (at : Pos) (ty : Option Scalar) (a : CsExprTree) (t : low.State) (v : Value) → value_of a t ≡ Some v → map (λ c. look_of c t) (test_list at ty a) ≡ test_looks t.memory ty v
looks_test at None a t v e = refl
looks_test at (Some (scalars.Int k)) a t v e = refl
looks_test at (Some scalars.Pointer) a t v e = rw e refl

module _ (over : ℕ → Bool) (p : TProgramTree) (plan : Plan) (n : ℕ) where
  -- ---- a test by a value

  if_case : (s0 : State) (chain : List Pos) (on off : Onward) (k : ℕ) (t : low.State) (z : Bool) (so not_so : Next) → step p s0 ≡ (if z then so else not_so)
      → (so ≡ on t.memory t.inputs) → (not_so ≡ off t.memory t.inputs) → exit_at k off (ByExit k) t ≡ Some (off t.memory t.inputs)
      → Tested over p n s0 chain on off k (if z then Normal t else Leaves (ByExit k) t)
  if_case s0 chain on off k t true so not_so e f g x = (s0, none p s0, e ∙ f)
  if_case s0 chain on off k t false so not_so e f g x = rw x (s0, none p s0, e ∙ g)

  own_exit : (k : ℕ) (off : Onward) (t : low.State) → exit_at k off (ByExit k) t ≡ Some (off t.memory t.inputs)
  own_exit zero off t = refl
  own_exit (suc k) off t = own_exit k off t

  tested_value : (item : Item) (w : List Item) (s : List Held) (ty : Option Scalar) (a : CsExprTree) (chain : List Pos) (so not_so : Onward) (k : ℕ) (t : low.State) (v : Value)
      → value_of a t ≡ Some v → judge p.objects (test_looks t.memory ty v) ≡ Passes
      → step p (state (item ∷ w) (held v ∷ s) t.memory t.inputs) ≡ (if truth v then so t.memory t.inputs else not_so t.memory t.inputs)
      → Tested over p n (state (item ∷ w) (held v ∷ s) t.memory t.inputs) chain so not_so k (run over p plan n (code.If (test_value ty a) code.Nothing (code.Exit k)) t)
  tested_value item w s None a chain so not_so k t v e h f = rw e (if_case _ chain so not_so k t (truth v) _ _ f refl refl (own_exit k not_so t))
  tested_value item w s (Some (scalars.Int ty)) a chain so not_so k t v e h f = rw e (if_case _ chain so not_so k t (truth v) _ _ f refl refl (own_exit k not_so t))
  tested_value item w s (Some scalars.Pointer) a chain so not_so k t (values.Int u z) e h f = absurd (cc)
  tested_value item w s (Some scalars.Pointer) a chain so not_so k t (values.Ptr q) e h f = rw e (_, none p _, f)
  tested_value item w s (Some scalars.Pointer) a chain so not_so k t values.Null e h f = rw e (rw (own_exit k not_so t) (_, none p _, f))

  module _ (ok : IsWellTyped p) (planned : IsPlanFor p plan) where
    pub unless_follows : (s0 : State) (item : Item) (w : List Item) (s : List Held) (at : Pos) (ty : Option Scalar) (a : Lowered) (l : low.State) (so not_so : Onward) (k : ℕ)
        → IsTest p at ty item w s so not_so → chain_of (item ∷ w) ≡ calls_in (item ∷ w) → Fits p s0
        → ValueFollows over p n s0 (item ∷ w) s a.value (run over p plan n a.before l)
        → Tested over p n s0 (calls_in (item ∷ w)) so not_so k (run over p plan n (unless_value ty a at k) l)
    unless_follows s0 item w s at ty a l so not_so k test c fits h =
        follows_then over p n s0 (calls_in (item ∷ w)) (ValueGoal a.value (item ∷ w) s) (StepGoal p so) no_way (exit_at k not_so) _ _ h
        (λ t u is leads g. subst (λ x. Tested over p n x (calls_in (item ∷ w)) so not_so k
        (then_do (run over p plan n (checks (test_list at ty a.value)) t) (λ r. run over p plan n (code.If (test_value ty a.value) code.Nothing (code.Exit k)) r))) (sym g.2)
        (checks_follow over p plan n item w (held g.0 ∷ s) t at (test_list at ty a.value) (test_looks t.memory ty g.0) _ _ (calls_in (item ∷ w)) (StepGoal p so) (exit_at k not_so)
        (all_mapped over p plan n at (plain_one at a.value) (λ c. refl) (test_checks (plain_type ty))) (looks_test at ty a.value t g.0 g.1) c (test g.0 t.memory t.inputs)
        (λ passes f. tested_value item w s ty a.value (calls_in (item ∷ w)) so not_so k t g.0 g.1 passes f)))
        (λ k t x. absurd x)

  -- ---- `&&` and `||`: a part that decides gives a bit to the item behind

  bit_on : (at : Pos) (item : Item) (w : List Item) (s : List Held) (so not_so : Onward) → IsTest p at (Some (scalars.Int ints.Int)) item w s so not_so → (m : ObjectMemory) (i : List ℤ)
      → step p (state (item ∷ w) (held (bit true) ∷ s) m i) ≡ so m i
  bit_on at item w s so not_so test m i = test (bit true) m i

  bit_off : (at : Pos) (item : Item) (w : List Item) (s : List Held) (so not_so : Onward) → IsTest p at (Some (scalars.Int ints.Int)) item w s so not_so → (m : ObjectMemory) (i : List ℤ)
      → step p (state (item ∷ w) (held (bit false) ∷ s) m i) ≡ not_so m i
  bit_off at item w s so not_so test m i = test (bit false) m i

  -- a state that is gone to, and what comes there
  pub gone : (s0 : State) (t : State) (next : Next) → LeadsTo p s0 (Goes t) → step p t ≡ next → LeadsTo p s0 next
  gone s0 t next h e = (t, leads_on p s0 t h, e)

  -- exits of a test that are named anew
  exit_map : (k j : ℕ) (off off' : Onward) (t : low.State) (s0 : State) → (LeadsTo p s0 (off t.memory t.inputs) → LeadsTo p s0 (off' t.memory t.inputs))
      → ToSome p s0 (exit_at k off (ByExit j) t) → ToSome p s0 (exit_at k off' (ByExit j) t)
  exit_map zero zero off off' t s0 f h = f h
  exit_map zero (suc j) off off' t s0 f h = h
  exit_map (suc k) zero off off' t s0 f h = h
  exit_map (suc k) (suc j) off off' t s0 f h = exit_map k j off off' t s0 f h

  pub way_map : (k : ℕ) (off off' : Onward) (x : Way) (t : low.State) (s0 : State) → (LeadsTo p s0 (off t.memory t.inputs) → LeadsTo p s0 (off' t.memory t.inputs))
      → ToSome p s0 (exit_at k off x t) → ToSome p s0 (exit_at k off' x t)
  way_map k off off' (ByExit j) t s0 f h = exit_map k j off off' t s0 f h
  way_map zero off off' (ByGoto l) t s0 f h = absurd h
  way_map (suc k) off off' (ByGoto l) t s0 f h = absurd h
  way_map zero off off' (ByReturn v) t s0 f h = absurd h
  way_map (suc k) off off' (ByReturn v) t s0 f h = absurd h

  -- `a && b` that goes on where both are so
  pub and_unless : (at at0 : Pos) (a b : TExprTree) (item : Item) (w : List Item) (s : List Held) (so not_so : Onward) (k : ℕ) (l : low.State) (first second : CsStmtTree)
      → IsTest p at0 (Some (scalars.Int ints.Int)) item w s so not_so
      → Tested over p n (state (Eval a ∷ AndThen at (value_scalar a) b ∷ item ∷ w) s l.memory l.inputs) (calls_in (item ∷ w))
      (λ m i. goes (Eval b ∷ Truth at (value_scalar b) ∷ item ∷ w) s m i) (λ m i. goes (item ∷ w) (held (bit false) ∷ s) m i) k (run over p plan n first l)
      → ((t : low.State) → run over p plan n first l ≡ Normal t → Tested over p n (state (Eval b ∷ Truth at (value_scalar b) ∷ item ∷ w) s t.memory t.inputs) (calls_in (item ∷ w))
      (λ m i. goes (item ∷ w) (held (bit true) ∷ s) m i) (λ m i. goes (item ∷ w) (held (bit false) ∷ s) m i) k (run over p plan n second t))
      → Tested over p n (state (Eval (c.And at a b) ∷ item ∷ w) s l.memory l.inputs) (calls_in (item ∷ w)) so not_so k (run over p plan n (code.Sequence first second) l)
  and_unless at at0 a b item w s so not_so k l first second test fa fb =
      follows_after over p n _ (state (Eval a ∷ AndThen at (value_scalar a) b ∷ item ∷ w) s l.memory l.inputs) (calls_in (item ∷ w)) (StepGoal p so) (exit_at k not_so) _ (one p _ _ refl)
      (follows_then over p n _ (calls_in (item ∷ w)) (StepGoal p (λ m i. goes (Eval b ∷ Truth at (value_scalar b) ∷ item ∷ w) s m i)) (StepGoal p so)
      (exit_at k (λ m i. goes (item ∷ w) (held (bit false) ∷ s) m i)) (exit_at k not_so) _ _ fa
      (λ t u is leads g. follows_after over p n u _ (calls_in (item ∷ w)) (StepGoal p so) (exit_at k not_so) _ (one p u _ g)
      (follows_map over p n _ (calls_in (item ∷ w)) (StepGoal p (λ m i. goes (item ∷ w) (held (bit true) ∷ s) m i)) (StepGoal p so)
      (exit_at k (λ m i. goes (item ∷ w) (held (bit false) ∷ s) m i)) (exit_at k not_so) _ (fb t is)
      (λ r x more h. (state (item ∷ w) (held (bit true) ∷ s) r.memory r.inputs, one p x _ h, bit_on at0 item w s so not_so test r.memory r.inputs))
      (λ x r h. way_map k (λ m i. goes (item ∷ w) (held (bit false) ∷ s) m i) not_so x r _ (λ g. gone _ _ _ g (bit_off at0 item w s so not_so test r.memory r.inputs)) h)))
      (λ x r h. way_map k (λ m i. goes (item ∷ w) (held (bit false) ∷ s) m i) not_so x r _ (λ g. gone _ _ _ g (bit_off at0 item w s so not_so test r.memory r.inputs)) h))

  -- ---- a block whose exit 0 is its end
  abbrev pub exit_or_end : ℕ → Onward → Onward → Way → low.State → Option Next
  exit_or_end k on off (ByExit zero) t = Some (on t.memory t.inputs)
  exit_or_end k on off (ByExit (suc j)) t = exit_at k off (ByExit j) t
  exit_or_end k on off (ByGoto l) t = None
  exit_or_end k on off (ByReturn v) t = None

  pub block_tested : (k : ℕ) (s0 : State) (chain : List Pos) (on off : Onward) (o : Outcome) → Follows over p n s0 chain (StepGoal p on) (exit_or_end k on off) o
      → Tested over p n s0 chain on off k (at_block o)
  block_tested k s0 chain on off (Normal t) h = h
  block_tested k s0 chain on off (Leaves (ByExit zero) t) h = h
  block_tested k s0 chain on off (Leaves (ByExit (suc j)) t) h = h
  block_tested k s0 chain on off (Leaves (ByGoto l) t) h = absurd h
  block_tested k s0 chain on off (Leaves (ByReturn v) t) h = absurd h
  block_tested k s0 chain on off (Fails c at kd o m) h = h
  block_tested k s0 chain on off outs.Waiting h = h
  block_tested k s0 chain on off outs.Stopped h = h
  block_tested k s0 chain on off Stuck h = h
  block_tested k s0 chain on off Clash h = h
  block_tested k s0 chain on off NoFuel h = h
  block_tested k s0 chain on off Over h = h
