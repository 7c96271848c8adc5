-- Two meanings that differ only where the first gave up: for want of fuel, or for too many turns.
use Rattle.std.specs.Prelude.{◌≡◌, ◌⊎◌, ℕ, zero, suc, ◌+◌, Bool, true, false, if◌then◌else◌, List, Option, Some, None, slice_get}
use Rattle.std.proofs.Common.{refl, inl, inr, sym, ap, ◌∙◌, subst, arith}
use Rattle.block_mem.specs.declared.types.Value.{Value}
use Rattle.c_values.specs.Values.{truth}
use Rattle.csharp.specs.Trees.{CsStmtTree, Nothing, Set, Load, Store, CopyBytes, Undefine, Checked, Input, Assume, Sequence, If, Loop, Block, Exit, Scope}
use Rattle.csharp.specs.Trees.{Switch, Goto, Call, Return, Label, Case, Default, CsStmtTrees, none, more, CsCallTree, CsFunctionTree, CsProgramTree}
use Rattle.csharp.specs.States.{State, value_of}
use Rattle.csharp.specs.Actions.{are_free, pass}
use Rattle.csharp.specs.Outcomes.{ByExit, ByGoto, ByReturn, Outcome, Normal, Leaves, Fails, Waiting, Stopped, Stuck, Clash, NoFuel, Over}
use Rattle.csharp.specs.Outcomes.{then_do, or_stuck, at_block, at_scope, at_call}
use Rattle.csharp.specs.Meaning.{Mark, AtLabel, is_mark, has, How, Anew, Turn, Later, chosen, caught, within, where_chosen, level, items}
use Rattle.csharp.specs.Meaning.{later_by, never, turns_of}
use Rattle.csharp.specs.Laws.{MoreFuelIsSame, BoundIsSame}

pub data Reason : Type 0 where
  Fuel : Reason
  Turns : Reason

abbrev given_up : Reason → Outcome
given_up Fuel = NoFuel
given_up Turns = Over

abbrev Kept : Reason → Outcome → Outcome → Type 0
Kept r o o' = (o ≡ given_up r) ⊎ (o' ≡ o)

kept_self : (r : Reason) (o : Outcome) → Kept r o o
kept_self r o = inr refl

then_up : (r : Reason) (go : State → Outcome) → then_do (given_up r) go ≡ given_up r
then_up Fuel go = refl
then_up Turns go = refl

then_same : (r : Reason) (o : Outcome) (go go' : State → Outcome) → ((t : State) → Kept r (go t) (go' t)) → Kept r (then_do o go) (then_do o go')
then_same r (Normal s) go go' k = k s
then_same r (Leaves way s) go go' k = inr refl
then_same r (Fails chain at kind operand m) go go' k = inr refl
then_same r Waiting go go' k = inr refl
then_same r Stopped go go' k = inr refl
then_same r Stuck go go' k = inr refl
then_same r Clash go go' k = inr refl
then_same r NoFuel go go' k = inr refl
then_same r Over go go' k = inr refl

then_kept : (r : Reason) (o o' : Outcome) (go go' : State → Outcome) → Kept r o o' → ((t : State) → Kept r (go t) (go' t))
    → Kept r (then_do o go) (then_do o' go')
then_kept r o o' go go' (inl e) k = inl (ap (λ x. then_do x go) e ∙ then_up r go)
then_kept r o o' go go' (inr e) k = subst (λ x. Kept r (then_do o go) (then_do x go')) (sym e) (then_same r o go go' k)

block_up : (r : Reason) → at_block (given_up r) ≡ given_up r
block_up Fuel = refl
block_up Turns = refl

block_kept : (r : Reason) (o o' : Outcome) → Kept r o o' → Kept r (at_block o) (at_block o')
block_kept r o o' (inl e) = inl (ap at_block e ∙ block_up r)
block_kept r o o' (inr e) = inr (ap at_block e)

scope_up : (r : Reason) (xs : List ℕ) → at_scope xs (given_up r) ≡ given_up r
scope_up Fuel xs = refl
scope_up Turns xs = refl

scope_kept : (r : Reason) (xs : List ℕ) (o o' : Outcome) → Kept r o o' → Kept r (at_scope xs o) (at_scope xs o')
scope_kept r xs o o' (inl e) = inl (ap (at_scope xs) e ∙ scope_up r xs)
scope_kept r xs o o' (inr e) = inr (ap (at_scope xs) e)

call_up : (r : Reason) (c : CsCallTree) → at_call c (given_up r) ≡ given_up r
call_up Fuel c = refl
call_up Turns c = refl

call_kept : (r : Reason) (c : CsCallTree) (o o' : Outcome) → Kept r o o' → Kept r (at_call c o) (at_call c o')
call_kept r c o o' (inl e) = inl (ap (at_call c) e ∙ call_up r c)
call_kept r c o o' (inr e) = inr (ap (at_call c) e)

if_kept : (r : Reason) (b : Bool) (x x' y y' : Outcome) → Kept r x x' → Kept r y y' → Kept r (if b then x else y) (if b then x' else y')
if_kept r true x x' y y' k l = k
if_kept r false x x' y y' k l = l

stuck_kept : {A : Type 0} (r : Reason) (a : Option A) (go go' : A → Outcome) → ((b : A) → Kept r (go b) (go' b)) → Kept r (or_stuck a go) (or_stuck a go')
stuck_kept r None go go' k = inr refl
stuck_kept r (Some b) go go' k = k b

chosen_kept : (r : Reason) (mark : Option Mark) (s : State) (go go' : Mark → Outcome) → ((m : Mark) → Kept r (go m) (go' m))
    → Kept r (where_chosen mark s go) (where_chosen mark s go')
chosen_kept r None s go go' k = inr refl
chosen_kept r (Some m) s go go' k = k m

-- what is done at less fuel is kept
record LaterKept (r : Reason) (l l' : Later) : Type 0 where
  statement : (how : How) (a : CsStmtTree) (s : State) → Kept r (l.statement how a s) (l'.statement how a s)
  items : (mark : Mark) (all : CsStmtTrees) (s : State) → Kept r (l.items mark all s) (l'.items mark all s)

caught_up : (r : Reason) (l : Later) (all : CsStmtTrees) → caught l all (given_up r) ≡ given_up r
caught_up Fuel l all = refl
caught_up Turns l all = refl

caught_same : (r : Reason) (l l' : Later) → LaterKept r l l' → (all : CsStmtTrees) (o : Outcome) → Kept r (caught l all o) (caught l' all o)
caught_same r l l' k all (Leaves (ByGoto label) s) = if_kept r (has (AtLabel label) all) _ _ _ _ (k.items (AtLabel label) all s) (kept_self r _)
caught_same r l l' k all (Leaves (ByExit n) s) = inr refl
caught_same r l l' k all (Leaves (ByReturn v) s) = inr refl
caught_same r l l' k all (Normal s) = inr refl
caught_same r l l' k all (Fails chain at kind operand m) = inr refl
caught_same r l l' k all Waiting = inr refl
caught_same r l l' k all Stopped = inr refl
caught_same r l l' k all Stuck = inr refl
caught_same r l l' k all Clash = inr refl
caught_same r l l' k all NoFuel = inr refl
caught_same r l l' k all Over = inr refl

caught_kept : (r : Reason) (l l' : Later) → LaterKept r l l' → (all : CsStmtTrees) (o o' : Outcome) → Kept r o o' → Kept r (caught l all o) (caught l' all o')
caught_kept r l l' k all o o' (inl e) = inl (ap (caught l all) e ∙ caught_up r l all)
caught_kept r l l' k all o o' (inr e) = subst (λ x. Kept r (caught l all o) (caught l' all x)) (sym e) (caught_same r l l' k all o)

-- the bounds of both meanings
abbrev LoopsKept : Reason → (ℕ → Bool) → (ℕ → Bool) → Type 0
LoopsKept r over over' = (n : ℕ) (o o' : Outcome) → Kept r o o' → Kept r (if over n then Over else o) (if over' n then Over else o')

within_kept : (r : Reason) (q : CsProgramTree) (xs : List ℕ) (s : State) (go go' : State → Outcome) → ((t : State) → Kept r (go t) (go' t))
    → Kept r (within q xs s go) (within q xs s go')
within_kept r q xs s go go' k = if_kept r (are_free xs s) _ _ _ _ (scope_kept r xs _ _ (k _)) (kept_self r Clash)

mutual
  level_kept : (r : Reason) (over over' : ℕ → Bool) → LoopsKept r over over' → (q : CsProgramTree) (l l' : Later) → LaterKept r l l'
      → (how : How) (a : CsStmtTree) (s : State) → Kept r (level over q l how a s) (level over' q l' how a s)
  level_kept r over over' e q l l' k how Nothing s = inr refl
  level_kept r over over' e q l l' k how (Set d v) s = inr refl
  level_kept r over over' e q l l' k how (Load d ty v) s = inr refl
  level_kept r over over' e q l l' k how (Store ty v w) s = inr refl
  level_kept r over over' e q l l' k how (CopyBytes n to from) s = inr refl
  level_kept r over over' e q l l' k how (Undefine x) s = inr refl
  level_kept r over over' e q l l' k how (Checked c) s = inr refl
  level_kept r over over' e q l l' k how (Input d t) s = inr refl
  level_kept r over over' e q l l' k how (Assume v) s = inr refl
  level_kept r over over' e q l l' k how (Sequence a b) s =
      then_kept r _ _ _ _ (level_kept r over over' e q l l' k Anew a s) (λ t. level_kept r over over' e q l l' k Anew b t)
  level_kept r over over' e q l l' k how (If v a b) s = stuck_kept {A = Value} r (value_of v s) _ _
      (λ u. if_kept r (truth u) _ _ _ _ (level_kept r over over' e q l l' k Anew a s) (level_kept r over over' e q l l' k Anew b s))
  level_kept r over over' e q l l' k how (Loop at a) s =
      e (turns_of how) _ _ (then_kept r _ _ _ _ (level_kept r over over' e q l l' k Anew a s) (λ t. k.statement (Turn (suc (turns_of how))) (Loop at a) t))
  level_kept r over over' e q l l' k how (Block a) s = block_kept r _ _ (level_kept r over over' e q l l' k Anew a s)
  level_kept r over over' e q l l' k how (Exit n) s = inr refl
  level_kept r over over' e q l l' k how (Scope xs all) s =
      within_kept r q xs s _ _ (λ t. caught_kept r l l' k all _ _ (items_kept r over over' e q l l' k None all t))
  level_kept r over over' e q l l' k how (Switch v xs all) s = stuck_kept {A = Value} r (value_of v s) _ _ (λ u. chosen_kept r (chosen u all) s _ _
      (λ mark. within_kept r q xs s _ _ (λ t. caught_kept r l l' k all _ _ (items_kept r over over' e q l l' k (Some mark) all t))))
  level_kept r over over' e q l l' k how (Goto label) s = inr refl
  level_kept r over over' e q l l' k how (Call c) s =
      stuck_kept {A = CsFunctionTree} r (slice_get q.functions c.function) _ _ (λ f. stuck_kept {A = State} r (pass c.args f.params s) _ _ (λ t. call_kept r c _ _ (k.statement Anew f.body t)))
  level_kept r over over' e q l l' k how (Return None) s = inr refl
  level_kept r over over' e q l l' k how (Return (Some v)) s = inr refl
  level_kept r over over' e q l l' k how (Label at n) s = inr refl
  level_kept r over over' e q l l' k how (Case n) s = inr refl
  level_kept r over over' e q l l' k how Default s = inr refl

  items_kept : (r : Reason) (over over' : ℕ → Bool) → LoopsKept r over over' → (q : CsProgramTree) (l l' : Later) → LaterKept r l l'
      → (from : Option Mark) (all : CsStmtTrees) (s : State) → Kept r (items over q l from all s) (items over' q l' from all s)
  items_kept r over over' e q l l' k None none s = inr refl
  items_kept r over over' e q l l' k (Some mark) none s = inr refl
  items_kept r over over' e q l l' k None (more item rest) s =
      then_kept r _ _ _ _ (level_kept r over over' e q l l' k Anew item s) (λ t. items_kept r over over' e q l l' k None rest t)
  items_kept r over over' e q l l' k (Some mark) (more item rest) s = items_kept r over over' e q l l' k (if is_mark mark item then None else Some mark) rest s

step_kept : (r : Reason) (over over' : ℕ → Bool) → LoopsKept r over over' → (q : CsProgramTree) (n m : ℕ)
    → LaterKept r (later_by over q n) (later_by over' q m) → LaterKept r (later_by over q (suc n)) (later_by over' q (suc m))
step_kept r over over' e q n m k = record {
  statement = λ how a s. level_kept r over over' e q _ _ k how a s;
  items = λ mark all s. caught_kept r _ _ k all _ _ (items_kept r over over' e q _ _ k (Some mark) all s);
}

same_loops : (r : Reason) (over : ℕ → Bool) → LoopsKept r over over
same_loops r over n o o' k = if_kept r (over n) _ _ _ _ (kept_self r Over) k

-- one unit more
one_more : (over : ℕ → Bool) (q : CsProgramTree) (n : ℕ) → LaterKept Fuel (later_by over q n) (later_by over q (suc n))
one_more over q zero = record { statement = λ how a s. inl refl; items = λ mark all s. inl refl }
one_more over q (suc n) = step_kept Fuel over over (same_loops Fuel over) q n (suc n) (one_more over q n)

kept_then : (r : Reason) (o o' o'' : Outcome) → Kept r o o' → Kept r o' o'' → Kept r o o''
kept_then r o o' o'' (inl e) k = inl e
kept_then r o o' o'' (inr e) k = subst (λ x. Kept r x o'') e k

later_then : (r : Reason) (l l' l'' : Later) → LaterKept r l l' → LaterKept r l' l'' → LaterKept r l l''
later_then r l l' l'' k k' = record {
  statement = λ how a s. kept_then r _ _ _ (k.statement how a s) (k'.statement how a s);
  items = λ mark all s. kept_then r _ _ _ (k.items mark all s) (k'.items mark all s);
}

later_self : (r : Reason) (l : Later) → LaterKept r l l
later_self r l = record { statement = λ how a s. inr refl; items = λ mark all s. inr refl }

suc_outside : (n k : ℕ) → suc (n + k) ≡ n + suc k
suc_outside n k = omega arith

many_more : (over : ℕ → Bool) (q : CsProgramTree) (n k : ℕ) → LaterKept Fuel (later_by over q n) (later_by over q (n + k))
many_more over q n zero = subst (λ m. LaterKept Fuel (later_by over q n) (later_by over q m)) (omega arith) (later_self Fuel (later_by over q n))
many_more over q n (suc k) = subst (λ m. LaterKept Fuel (later_by over q n) (later_by over q m)) (suc_outside n k)
    (later_then Fuel _ _ _ (many_more over q n k) (one_more over q (n + k)))

pub more_fuel_is_same : MoreFuelIsSame
more_fuel_is_same over q fuel extra a s = level_kept Fuel over over (same_loops Fuel over) q _ _ (many_more over q fuel extra) Anew a s

bound_by : (b : Bool) (o o' : Outcome) → Kept Turns o o' → Kept Turns (if b then Over else o) o'
bound_by true o o' k = inl refl
bound_by false o o' k = k

bounded_loops : (over : ℕ → Bool) → LoopsKept Turns over never
bounded_loops over n o o' k = bound_by (over n) o o' k

plainly : (over : ℕ → Bool) (q : CsProgramTree) (n : ℕ) → LaterKept Turns (later_by over q n) (later_by never q n)
plainly over q zero = record { statement = λ how a s. inr refl; items = λ mark all s. inr refl }
plainly over q (suc n) = step_kept Turns over never (bounded_loops over) q n n (plainly over q n)

pub bound_is_same : BoundIsSame
bound_is_same over q fuel a s = level_kept Turns over never (bounded_loops over) q _ _ (plainly over q fuel) Anew a s
