-- What leaves a statement by a goto names a goto of its code.
use Rattle.std.proofs.Common.{◌≡◌, ℕ, zero, suc, List, [], Option, Some, None, Bool, true, false, if◌then◌else◌, refl, subst, arith}
use Rattle.std.specs.Prelude.{Contains, slice_get}
use Rattle.c_syntax_written.specs.declared.place.Pos.{Pos}
use Rattle.block_mem.specs.declared.types.Value.{Value}
use Rattle.c_values.specs.Values.{truth}
use Rattle.c_values.specs.Looks.{Judged, Passes, FailsAs, NoOperand}
use Rattle.csharp.specs.Trees.{CsStmtTree, Nothing, Set, Load, Store, CopyBytes, Undefine, Checked, Input, Assume, Sequence, If, Loop, Block, Exit}
use Rattle.csharp.specs.Trees.{Scope, Switch, Goto, Call, Return, Label, Case, Default, CsStmtTrees, none, more, CsCallTree, CsFunctionTree, CsProgramTree}
use Rattle.csharp.specs.States.{State, value_of}
use Rattle.csharp.specs.Actions.{enter, are_free, pass}
use Rattle.csharp.specs.Outcomes.{ByExit, ByGoto, ByReturn, Outcome, Normal, Leaves, Fails, Waiting, Stopped, Stuck, Clash, NoFuel, Over}
use Rattle.csharp.specs.Outcomes.{then_do, or_stuck, to_normal, or_waits, told, at_block, at_scope, at_call}
use Rattle.csharp.specs.Formed.{gathered, gathered_in}
use Rattle.csharp.specs.Meaning.{Mark, AtLabel, is_mark, has, How, Anew, Turn, turns_of, Later, bounded_exec, caught, within, where_chosen, chosen, level, items, later_by}
use Rattle.csharp_laws.specs.Enough.{gotos_of}
use Rattle.csharp_laws.proofs.Stays.{Within, in_first, in_second, in_item, in_rest}

-- ---- an outcome leaves by a goto of the code alone

abbrev Jumps : List ℕ → Outcome → Type 0
Jumps gs (Leaves (ByGoto label) s) = Contains gs label
Jumps gs o = Unit {0}

jumps_wider : (gs hs : List ℕ) (o : Outcome) → Within gs hs → Jumps gs o → Jumps hs o
jumps_wider gs hs (Leaves (ByGoto label) s) w j = w label j
jumps_wider gs hs (Leaves (ByExit n) s) w j = tt
jumps_wider gs hs (Leaves (ByReturn v) s) w j = tt
jumps_wider gs hs (Normal s) w j = tt
jumps_wider gs hs (Fails chain at kind operand m) w j = tt
jumps_wider gs hs Waiting w j = tt
jumps_wider gs hs Stopped w j = tt
jumps_wider gs hs Stuck w j = tt
jumps_wider gs hs Clash w j = tt
jumps_wider gs hs NoFuel w j = tt
jumps_wider gs hs Over w j = tt

then_jumps : (gs : List ℕ) (o : Outcome) (next : State → Outcome) → Jumps gs o → ((t : State) → Jumps gs (next t)) → Jumps gs (then_do o next)
then_jumps gs (Normal s) next j go = go s
then_jumps gs (Leaves (ByGoto label) s) next j go = j
then_jumps gs (Leaves (ByExit n) s) next j go = tt
then_jumps gs (Leaves (ByReturn v) s) next j go = tt
then_jumps gs (Fails chain at kind operand m) next j go = tt
then_jumps gs Waiting next j go = tt
then_jumps gs Stopped next j go = tt
then_jumps gs Stuck next j go = tt
then_jumps gs Clash next j go = tt
then_jumps gs NoFuel next j go = tt
then_jumps gs Over next j go = tt

block_jumps : (gs : List ℕ) (o : Outcome) → Jumps gs o → Jumps gs (at_block o)
block_jumps gs (Normal s) j = tt
block_jumps gs (Leaves (ByGoto label) s) j = j
block_jumps gs (Leaves (ByExit zero) s) j = tt
block_jumps gs (Leaves (ByExit (suc n)) s) j = tt
block_jumps gs (Leaves (ByReturn v) s) j = tt
block_jumps gs (Fails chain at kind operand m) j = tt
block_jumps gs Waiting j = tt
block_jumps gs Stopped j = tt
block_jumps gs Stuck j = tt
block_jumps gs Clash j = tt
block_jumps gs NoFuel j = tt
block_jumps gs Over j = tt

scope_jumps : (gs xs : List ℕ) (o : Outcome) → Jumps gs o → Jumps gs (at_scope xs o)
scope_jumps gs xs (Normal s) j = tt
scope_jumps gs xs (Leaves (ByGoto label) s) j = j
scope_jumps gs xs (Leaves (ByExit n) s) j = tt
scope_jumps gs xs (Leaves (ByReturn v) s) j = tt
scope_jumps gs xs (Fails chain at kind operand m) j = tt
scope_jumps gs xs Waiting j = tt
scope_jumps gs xs Stopped j = tt
scope_jumps gs xs Stuck j = tt
scope_jumps gs xs Clash j = tt
scope_jumps gs xs NoFuel j = tt
scope_jumps gs xs Over j = tt

call_jumps : (gs : List ℕ) (c : CsCallTree) (o : Outcome) → Jumps gs (at_call c o)
call_jumps gs c (Normal s) = tt
call_jumps gs c (Leaves (ByGoto label) s) = tt
call_jumps gs c (Leaves (ByExit n) s) = tt
call_jumps gs c (Leaves (ByReturn v) s) = tt
call_jumps gs c (Fails chain at kind operand m) = tt
call_jumps gs c Waiting = tt
call_jumps gs c Stopped = tt
call_jumps gs c Stuck = tt
call_jumps gs c Clash = tt
call_jumps gs c NoFuel = tt
call_jumps gs c Over = tt

if_jumps : (gs : List ℕ) (b : Bool) (o p : Outcome) → Jumps gs o → Jumps gs p → Jumps gs (if b then o else p)
if_jumps gs true o p j k = j
if_jumps gs false o p j k = k

stuck_jumps : {A : Type 0} (gs : List ℕ) (a : Option A) (next : A → Outcome) → ((b : A) → Jumps gs (next b)) → Jumps gs (or_stuck a next)
stuck_jumps gs None next go = tt
stuck_jumps gs (Some b) next go = go b

chosen_jumps : (gs : List ℕ) (mark : Option Mark) (s : State) (next : Mark → Outcome) → ((m : Mark) → Jumps gs (next m)) → Jumps gs (where_chosen mark s next)
chosen_jumps gs None s next go = tt
chosen_jumps gs (Some m) s next go = go m

told_jumps : (gs : List ℕ) (j : Judged) (at : Pos) (s : State) → Jumps gs (told j at s)
told_jumps gs Passes at s = tt
told_jumps gs (FailsAs kind operand) at s = tt
told_jumps gs NoOperand at s = tt

normal_jumps : (gs : List ℕ) (o : Option State) → Jumps gs (to_normal o)
normal_jumps gs None = tt
normal_jumps gs (Some s) = tt

waits_jumps : (gs : List ℕ) (o : Option State) → Jumps gs (or_waits o)
waits_jumps gs None = tt
waits_jumps gs (Some s) = tt

within_jumps : (gs xs : List ℕ) (q : CsProgramTree) (s : State) (next : State → Outcome) → ((t : State) → Jumps gs (next t)) → Jumps gs (within q xs s next)
within_jumps gs xs q s next go =
    if_jumps gs (are_free xs s) (at_scope xs (next (enter q.objects xs s))) Clash (scope_jumps gs xs (next (enter q.objects xs s)) (go (enter q.objects xs s))) tt

record LaterJumps (later : Later) : Type 0 where
  statement : (how : How) (a : CsStmtTree) (s : State) → Jumps (gathered gotos_of a) (later.statement how a s)
  items : (mark : Mark) (all : CsStmtTrees) (s : State) → Jumps (gathered_in gotos_of all) (later.items mark all s)

caught_jumps : (later : Later) → LaterJumps later → (all : CsStmtTrees) (o : Outcome) → Jumps (gathered_in gotos_of all) o → Jumps (gathered_in gotos_of all) (caught later all o)
caught_jumps later l all (Leaves (ByGoto label) s) j =
    if_jumps (gathered_in gotos_of all) (has (AtLabel label) all) (later.items (AtLabel label) all s) (Leaves (ByGoto label) s) (l.items (AtLabel label) all s) j
caught_jumps later l all (Leaves (ByExit n) s) j = tt
caught_jumps later l all (Leaves (ByReturn v) s) j = tt
caught_jumps later l all (Normal s) j = tt
caught_jumps later l all (Fails chain at kind operand m) j = tt
caught_jumps later l all Waiting j = tt
caught_jumps later l all Stopped j = tt
caught_jumps later l all Stuck j = tt
caught_jumps later l all Clash j = tt
caught_jumps later l all NoFuel j = tt
caught_jumps later l all Over j = tt

module _ (over : ℕ → Bool) (q : CsProgramTree) (later : Later) (l : LaterJumps later) where
  mutual
    level_jumps : (how : How) (a : CsStmtTree) (s : State) → Jumps (gathered gotos_of a) (level over q later how a s)
    level_jumps how Nothing s = tt
    level_jumps how (Set k e) s = normal_jumps [] _
    level_jumps how (Load k ty e) s = normal_jumps [] _
    level_jumps how (Store ty e f) s = normal_jumps [] _
    level_jumps how (CopyBytes n to from) s = normal_jumps [] _
    level_jumps how (Undefine y) s = normal_jumps [] _
    level_jumps how (Checked c) s = told_jumps [] _ c.pos s
    level_jumps how (Input k t) s = waits_jumps [] _
    level_jumps how (Assume e) s = stuck_jumps {A = Value} [] (value_of e s) _ (λ v. if_jumps [] (truth v) _ _ tt tt)
    level_jumps how (Sequence a b) s =
        then_jumps _ _ _ (jumps_wider _ _ _ (in_first gotos_of a b) (level_jumps Anew a s)) (λ t. jumps_wider _ _ _ (in_second gotos_of a b) (level_jumps Anew b t))
    level_jumps how (If e a b) s = stuck_jumps {A = Value} _ (value_of e s) _ (λ v. if_jumps _ (truth v) _ _
        (jumps_wider _ _ _ (in_first gotos_of a b) (level_jumps Anew a s)) (jumps_wider _ _ _ (in_second gotos_of a b) (level_jumps Anew b s)))
    level_jumps how (Loop at a) s = if_jumps _ (over (turns_of how)) _ _ tt
        (then_jumps _ _ _ (level_jumps Anew a s) (λ t. l.statement (Turn (suc (turns_of how))) (Loop at a) t))
    level_jumps how (Block a) s = block_jumps _ _ (level_jumps Anew a s)
    level_jumps how (Exit n) s = tt
    level_jumps how (Scope xs all) s = within_jumps _ xs q s _ (λ t. caught_jumps later l all _ (items_jump None all t))
    level_jumps how (Switch e xs all) s = stuck_jumps {A = Value} _ (value_of e s) _ (λ v. chosen_jumps _ (chosen v all) s _
        (λ mark. within_jumps _ xs q s _ (λ t. caught_jumps later l all _ (items_jump (Some mark) all t))))
    level_jumps how (Goto label) s = (0, omega arith, refl)
    level_jumps how (Call c) s = stuck_jumps {A = CsFunctionTree} [] (slice_get q.functions c.function) _ (λ function.
        stuck_jumps {A = State} [] (pass c.args function.params s) _ (λ t. call_jumps [] c _))
    level_jumps how (Return None) s = tt
    level_jumps how (Return (Some e)) s = stuck_jumps {A = Value} [] (value_of e s) _ (λ v. tt)
    level_jumps how (Label at n) s = tt
    level_jumps how (Case n) s = tt
    level_jumps how Default s = tt

    items_jump : (from : Option Mark) (all : CsStmtTrees) (s : State) → Jumps (gathered_in gotos_of all) (items over q later from all s)
    items_jump None none s = tt
    items_jump (Some mark) none s = tt
    items_jump None (more item rest) s =
        then_jumps _ _ _ (jumps_wider _ _ _ (in_item gotos_of item rest) (level_jumps Anew item s)) (λ t. jumps_wider _ _ _ (in_rest gotos_of item rest) (items_jump None rest t))
    items_jump (Some mark) (more item rest) s =
        jumps_wider _ _ _ (in_rest gotos_of item rest) (items_jump (if is_mark mark item then None else Some mark) rest s)

later_jumps : (over : ℕ → Bool) (q : CsProgramTree) (n : ℕ) → LaterJumps (later_by over q n)
later_jumps over q zero = record { statement = λ how a s. tt; items = λ mark all s. tt }
later_jumps over q (suc n) = record {
  statement = λ how a s. level_jumps over q (later_by over q n) (later_jumps over q n) how a s;
  items = λ mark all s. caught_jumps (later_by over q n) (later_jumps over q n) all _ (items_jump over q (later_by over q n) (later_jumps over q n) (Some mark) all s);
}

pub jump_named : (over : ℕ → Bool) (q : CsProgramTree) (n : ℕ) (a : CsStmtTree) (s t : State) (l : ℕ) → bounded_exec over q n a s ≡ Leaves (ByGoto l) t
    → Contains (gathered gotos_of a) l
jump_named over q n a s t l e = subst (Jumps (gathered gotos_of a)) e (level_jumps over q (later_by over q n) (later_jumps over q n) Anew a s)
