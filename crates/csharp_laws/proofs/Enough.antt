-- Enough fuel, by induction on it and on the statement: what leaves by a goto names a goto of the code, and what begins at a label does what stands behind it.
use Rattle.std.proofs.Common.{◌≡◌, ◌<◌, ◌≤◌, ◌+◌, ◌-◌, ◌⊎◌, inl, inr, ℕ, zero, suc, List, [], ◌∷◌, ◌++◌, length, Option, Some, None, Bool, true, false, if◌then◌else◌, refl, sym, ap, ◌∙◌, subst, arith}
use Rattle.std.specs.Prelude.{◌==◌, nat_lt, Contains, IfSome, slice_get}
use Rattle.std.proofs.lemmas.Bool.{cases_eq, eq-eqb, ne_eqb, ltb-false}
use Rattle.std.proofs.lemmas.List.Elements.{Contains-append_left, Contains-append_right}
use Rattle.c_syntax_written.specs.declared.place.Pos.{Pos}
use Rattle.block_mem.specs.declared.types.Value.{Value}
use Rattle.c_values.specs.Values.{truth}
use Rattle.c_values.specs.Looks.{Judged, Passes, FailsAs, NoOperand}
use Rattle.c_objects.proofs.Listed.{first_in}
use Rattle.csharp.specs.Trees.{CsStmtTree, Nothing, Set, Load, Store, CopyBytes, Undefine, Checked, Input, Assume, Sequence, If, Loop, Block, Exit}
use Rattle.csharp.specs.Trees.{Scope, Switch, Goto, Call, Return, Label, Case, Default, CsStmtTrees, none, more, CsCallTree, CsFunctionTree, CsProgramTree}
use Rattle.csharp.specs.States.{State, value_of}
use Rattle.csharp.specs.Actions.{enter, are_free, pass}
use Rattle.csharp.specs.Outcomes.{ByExit, ByGoto, ByReturn, Outcome, Normal, Leaves, Fails, Waiting, Stopped, Stuck, Clash, NoFuel, Over}
use Rattle.csharp.specs.Outcomes.{then_do, or_stuck, to_normal, or_waits, told, at_block, at_scope, at_call}
use Rattle.csharp.specs.Formed.{Around, in_block, in_items, nothing_around, Each, EachItem, gathered, gathered_in, labels_among, LeadsDown, AreCallsFounded}
use Rattle.csharp.specs.Meaning.{Mark, AtLabel, AtCase, AtDefault, is_mark, has, How, Anew, Turn, turns_of, Later, caught, within, where_chosen, chosen, level, items}
use Rattle.csharp.specs.Meaning.{later_by, beyond}
use Rattle.csharp_laws.specs.LeftAlone.{calls_of}
use Rattle.csharp_laws.specs.Enough.{gotos_of, IsNotNamedBehind, AreForward, IsForward, IsForwardOnly, need, need_in, need_of, call_need, FuelIsEnough}
use Rattle.csharp_laws.proofs.Stays.{Within, in_first, in_second, in_item, in_rest}
use Rattle.csharp_laws.proofs.Separated.{calls_below}

-- ---- an outcome leaves by a goto of the code alone

abbrev Jumps : List ℕ → Outcome → Type 0
Jumps gs (Leaves (ByGoto label) s) = Contains gs label
Jumps gs o = Unit {0}

jumps_wider : (gs hs : List ℕ) (o : Outcome) → Within gs hs → Jumps gs o → Jumps hs o
jumps_wider gs hs (Leaves (ByGoto label) s) w j = w label j
jumps_wider gs hs (Leaves (ByExit n) s) w j = tt
jumps_wider gs hs (Leaves (ByReturn v) s) w j = tt
jumps_wider gs hs (Normal s) w j = tt
jumps_wider gs hs (Fails chain at kind operand m) w j = tt
jumps_wider gs hs Waiting w j = tt
jumps_wider gs hs Stopped w j = tt
jumps_wider gs hs Stuck w j = tt
jumps_wider gs hs Clash w j = tt
jumps_wider gs hs NoFuel w j = tt
jumps_wider gs hs Over w j = tt

then_jumps : (gs : List ℕ) (o : Outcome) (next : State → Outcome) → Jumps gs o → ((t : State) → Jumps gs (next t)) → Jumps gs (then_do o next)
then_jumps gs (Normal s) next j go = go s
then_jumps gs (Leaves (ByGoto label) s) next j go = j
then_jumps gs (Leaves (ByExit n) s) next j go = tt
then_jumps gs (Leaves (ByReturn v) s) next j go = tt
then_jumps gs (Fails chain at kind operand m) next j go = tt
then_jumps gs Waiting next j go = tt
then_jumps gs Stopped next j go = tt
then_jumps gs Stuck next j go = tt
then_jumps gs Clash next j go = tt
then_jumps gs NoFuel next j go = tt
then_jumps gs Over next j go = tt

block_jumps : (gs : List ℕ) (o : Outcome) → Jumps gs o → Jumps gs (at_block o)
block_jumps gs (Normal s) j = tt
block_jumps gs (Leaves (ByGoto label) s) j = j
block_jumps gs (Leaves (ByExit zero) s) j = tt
block_jumps gs (Leaves (ByExit (suc n)) s) j = tt
block_jumps gs (Leaves (ByReturn v) s) j = tt
block_jumps gs (Fails chain at kind operand m) j = tt
block_jumps gs Waiting j = tt
block_jumps gs Stopped j = tt
block_jumps gs Stuck j = tt
block_jumps gs Clash j = tt
block_jumps gs NoFuel j = tt
block_jumps gs Over j = tt

scope_jumps : (gs xs : List ℕ) (o : Outcome) → Jumps gs o → Jumps gs (at_scope xs o)
scope_jumps gs xs (Normal s) j = tt
scope_jumps gs xs (Leaves (ByGoto label) s) j = j
scope_jumps gs xs (Leaves (ByExit n) s) j = tt
scope_jumps gs xs (Leaves (ByReturn v) s) j = tt
scope_jumps gs xs (Fails chain at kind operand m) j = tt
scope_jumps gs xs Waiting j = tt
scope_jumps gs xs Stopped j = tt
scope_jumps gs xs Stuck j = tt
scope_jumps gs xs Clash j = tt
scope_jumps gs xs NoFuel j = tt
scope_jumps gs xs Over j = tt

call_jumps : (gs : List ℕ) (c : CsCallTree) (o : Outcome) → Jumps gs (at_call c o)
call_jumps gs c (Normal s) = tt
call_jumps gs c (Leaves (ByGoto label) s) = tt
call_jumps gs c (Leaves (ByExit n) s) = tt
call_jumps gs c (Leaves (ByReturn v) s) = tt
call_jumps gs c (Fails chain at kind operand m) = tt
call_jumps gs c Waiting = tt
call_jumps gs c Stopped = tt
call_jumps gs c Stuck = tt
call_jumps gs c Clash = tt
call_jumps gs c NoFuel = tt
call_jumps gs c Over = tt

if_jumps : (gs : List ℕ) (b : Bool) (o p : Outcome) → Jumps gs o → Jumps gs p → Jumps gs (if b then o else p)
if_jumps gs true o p j k = j
if_jumps gs false o p j k = k

stuck_jumps : {A : Type 0} (gs : List ℕ) (a : Option A) (next : A → Outcome) → ((b : A) → Jumps gs (next b)) → Jumps gs (or_stuck a next)
stuck_jumps gs None next go = tt
stuck_jumps gs (Some b) next go = go b

chosen_jumps : (gs : List ℕ) (mark : Option Mark) (s : State) (next : Mark → Outcome) → ((m : Mark) → Jumps gs (next m)) → Jumps gs (where_chosen mark s next)
chosen_jumps gs None s next go = tt
chosen_jumps gs (Some m) s next go = go m

told_jumps : (gs : List ℕ) (j : Judged) (at : Pos) (s : State) → Jumps gs (told j at s)
told_jumps gs Passes at s = tt
told_jumps gs (FailsAs kind operand) at s = tt
told_jumps gs NoOperand at s = tt

normal_jumps : (gs : List ℕ) (o : Option State) → Jumps gs (to_normal o)
normal_jumps gs None = tt
normal_jumps gs (Some s) = tt

waits_jumps : (gs : List ℕ) (o : Option State) → Jumps gs (or_waits o)
waits_jumps gs None = tt
waits_jumps gs (Some s) = tt

within_jumps : (gs xs : List ℕ) (q : CsProgramTree) (s : State) (next : State → Outcome) → ((t : State) → Jumps gs (next t)) → Jumps gs (within q xs s next)
within_jumps gs xs q s next go =
    if_jumps gs (are_free xs s) (at_scope xs (next (enter q.objects xs s))) Clash (scope_jumps gs xs (next (enter q.objects xs s)) (go (enter q.objects xs s))) tt

record LaterJumps (later : Later) : Type 0 where
  statement : (how : How) (a : CsStmtTree) (s : State) → Jumps (gathered gotos_of a) (later.statement how a s)
  items : (mark : Mark) (all : CsStmtTrees) (s : State) → Jumps (gathered_in gotos_of all) (later.items mark all s)

caught_jumps : (later : Later) → LaterJumps later → (all : CsStmtTrees) (o : Outcome) → Jumps (gathered_in gotos_of all) o → Jumps (gathered_in gotos_of all) (caught later all o)
caught_jumps later l all (Leaves (ByGoto label) s) j =
    if_jumps (gathered_in gotos_of all) (has (AtLabel label) all) (later.items (AtLabel label) all s) (Leaves (ByGoto label) s) (l.items (AtLabel label) all s) j
caught_jumps later l all (Leaves (ByExit n) s) j = tt
caught_jumps later l all (Leaves (ByReturn v) s) j = tt
caught_jumps later l all (Normal s) j = tt
caught_jumps later l all (Fails chain at kind operand m) j = tt
caught_jumps later l all Waiting j = tt
caught_jumps later l all Stopped j = tt
caught_jumps later l all Stuck j = tt
caught_jumps later l all Clash j = tt
caught_jumps later l all NoFuel j = tt
caught_jumps later l all Over j = tt

module _ (over : ℕ → Bool) (q : CsProgramTree) (later : Later) (l : LaterJumps later) where
  mutual
    level_jumps : (how : How) (a : CsStmtTree) (s : State) → Jumps (gathered gotos_of a) (level over q later how a s)
    level_jumps how Nothing s = tt
    level_jumps how (Set k e) s = normal_jumps [] _
    level_jumps how (Load k ty e) s = normal_jumps [] _
    level_jumps how (Store ty e f) s = normal_jumps [] _
    level_jumps how (CopyBytes n to from) s = normal_jumps [] _
    level_jumps how (Undefine y) s = normal_jumps [] _
    level_jumps how (Checked c) s = told_jumps [] _ c.pos s
    level_jumps how (Input k t) s = waits_jumps [] _
    level_jumps how (Assume e) s = stuck_jumps {A = Value} [] (value_of e s) _ (λ v. if_jumps [] (truth v) _ _ tt tt)
    level_jumps how (Sequence a b) s =
        then_jumps _ _ _ (jumps_wider _ _ _ (in_first gotos_of a b) (level_jumps Anew a s)) (λ t. jumps_wider _ _ _ (in_second gotos_of a b) (level_jumps Anew b t))
    level_jumps how (If e a b) s = stuck_jumps {A = Value} _ (value_of e s) _ (λ v. if_jumps _ (truth v) _ _
        (jumps_wider _ _ _ (in_first gotos_of a b) (level_jumps Anew a s)) (jumps_wider _ _ _ (in_second gotos_of a b) (level_jumps Anew b s)))
    level_jumps how (Loop at a) s = if_jumps _ (over (turns_of how)) _ _ tt
        (then_jumps _ _ _ (level_jumps Anew a s) (λ t. l.statement (Turn (suc (turns_of how))) (Loop at a) t))
    level_jumps how (Block a) s = block_jumps _ _ (level_jumps Anew a s)
    level_jumps how (Exit n) s = tt
    level_jumps how (Scope xs all) s = within_jumps _ xs q s _ (λ t. caught_jumps later l all _ (items_jump None all t))
    level_jumps how (Switch e xs all) s = stuck_jumps {A = Value} _ (value_of e s) _ (λ v. chosen_jumps _ (chosen v all) s _
        (λ mark. within_jumps _ xs q s _ (λ t. caught_jumps later l all _ (items_jump (Some mark) all t))))
    level_jumps how (Goto label) s = first_in label []
    level_jumps how (Call c) s = stuck_jumps {A = CsFunctionTree} [] (slice_get q.functions c.function) _ (λ function.
        stuck_jumps {A = State} [] (pass c.args function.params s) _ (λ t. call_jumps [] c _))
    level_jumps how (Return None) s = tt
    level_jumps how (Return (Some e)) s = stuck_jumps {A = Value} [] (value_of e s) _ (λ v. tt)
    level_jumps how (Label at n) s = tt
    level_jumps how (Case n) s = tt
    level_jumps how Default s = tt

    items_jump : (from : Option Mark) (all : CsStmtTrees) (s : State) → Jumps (gathered_in gotos_of all) (items over q later from all s)
    items_jump None none s = tt
    items_jump (Some mark) none s = tt
    items_jump None (more item rest) s =
        then_jumps _ _ _ (jumps_wider _ _ _ (in_item gotos_of item rest) (level_jumps Anew item s)) (λ t. jumps_wider _ _ _ (in_rest gotos_of item rest) (items_jump None rest t))
    items_jump (Some mark) (more item rest) s =
        jumps_wider _ _ _ (in_rest gotos_of item rest) (items_jump (if is_mark mark item then None else Some mark) rest s)

later_jumps : (over : ℕ → Bool) (q : CsProgramTree) (n : ℕ) → LaterJumps (later_by over q n)
later_jumps over q zero = record { statement = λ how a s. tt; items = λ mark all s. tt }
later_jumps over q (suc n) = record {
  statement = λ how a s. level_jumps over q (later_by over q n) (later_jumps over q n) how a s;
  items = λ mark all s. caught_jumps (later_by over q n) (later_jumps over q n) all _ (items_jump over q (later_by over q n) (later_jumps over q n) (Some mark) all s);
}

-- ---- what stands behind a mark

abbrev behind : Mark → CsStmtTrees → CsStmtTrees
behind mark none = none
behind mark (more item rest) = if is_mark mark item then rest else behind mark rest

begins_case : (over : ℕ → Bool) (q : CsProgramTree) (later : Later) (mark : Mark) (rest : CsStmtTrees) (s : State) (b : Bool)
    → items over q later (Some mark) rest s ≡ items over q later None (behind mark rest) s
    → items over q later (if b then None else Some mark) rest s ≡ items over q later None (if b then rest else behind mark rest) s
begins_case over q later mark rest s true e = refl
begins_case over q later mark rest s false e = e

-- to begin at a mark is to do what stands behind it
begins_behind : (over : ℕ → Bool) (q : CsProgramTree) (later : Later) (mark : Mark) (all : CsStmtTrees) (s : State)
    → items over q later (Some mark) all s ≡ items over q later None (behind mark all) s
begins_behind over q later mark none s = refl
begins_behind over q later mark (more item rest) s = begins_case over q later mark rest s (is_mark mark item) (begins_behind over q later mark rest s)

-- the second is the end of the first from some item on
data Tail (all : CsStmtTrees) : CsStmtTrees → Type 0 where
  Whole : Tail all all
  Next : (item : CsStmtTree) (rest : CsStmtTrees) → Tail all (more item rest) → Tail all rest

tail_case : (all : CsStmtTrees) (mark : Mark) (rest : CsStmtTrees) (b : Bool) → Tail all rest → Tail all (behind mark rest)
    → Tail all (if b then rest else behind mark rest)
tail_case all mark rest true t u = t
tail_case all mark rest false t u = u

tail_behind : (all : CsStmtTrees) (mark : Mark) (rest : CsStmtTrees) → Tail all rest → Tail all (behind mark rest)
tail_behind all mark none t = t
tail_behind all mark (more item rest) t = tail_case all mark rest (is_mark mark item) (Next item rest t) (tail_behind all mark rest (Next item rest t))

-- a goto in the end of items whose gotos lead forwards finds its label in that end alone
forward_tail : (all rest : CsStmtTrees) → Tail all rest → AreForward all → AreForward rest
forward_tail all rest Whole forward = forward
forward_tail all rest (Next item _ t) forward = (forward_tail all (more item rest) t forward).1

not_mark : (label : ℕ) (item : CsStmtTree) (rest : CsStmtTrees) → IsNotNamedBehind item rest → Contains (gathered_in gotos_of rest) label
    → is_mark (AtLabel label) item ≡ false
not_mark label (Label at l) rest out c = ne_eqb label l (λ e. out (subst (λ z. Contains (gathered_in gotos_of rest) z) e c))
not_mark label Nothing rest out c = refl
not_mark label (Set k e) rest out c = refl
not_mark label (Load k ty e) rest out c = refl
not_mark label (Store ty e f) rest out c = refl
not_mark label (CopyBytes n to from) rest out c = refl
not_mark label (Undefine y) rest out c = refl
not_mark label (Checked ch) rest out c = refl
not_mark label (Input k t) rest out c = refl
not_mark label (Assume e) rest out c = refl
not_mark label (Sequence a b) rest out c = refl
not_mark label (If e a b) rest out c = refl
not_mark label (Loop at a) rest out c = refl
not_mark label (Block a) rest out c = refl
not_mark label (Exit n) rest out c = refl
not_mark label (Scope xs items) rest out c = refl
not_mark label (Switch e xs items) rest out c = refl
not_mark label (Goto l) rest out c = refl
not_mark label (Call ca) rest out c = refl
not_mark label (Return e) rest out c = refl
not_mark label (Case n) rest out c = refl
not_mark label Default rest out c = refl

skipped : (label : ℕ) (item : CsStmtTree) (rest : CsStmtTrees) → is_mark (AtLabel label) item ≡ false
    → behind (AtLabel label) (more item rest) ≡ behind (AtLabel label) rest
skipped label item rest e = rw e refl

not_found : (label : ℕ) (item : CsStmtTree) (rest : CsStmtTrees) → is_mark (AtLabel label) item ≡ false
    → has (AtLabel label) (more item rest) ≡ has (AtLabel label) rest
not_found label item rest e = rw e refl

record FoundBehind (label : ℕ) (all rest : CsStmtTrees) : Type 0 where
  same : behind (AtLabel label) all ≡ behind (AtLabel label) rest
  there : has (AtLabel label) all ≡ has (AtLabel label) rest

found_behind : (label : ℕ) (all rest : CsStmtTrees) → Tail all rest → AreForward all → Contains (gathered_in gotos_of rest) label → FoundBehind label all rest
found_behind label all rest Whole forward c = record { same = refl; there = refl }
found_behind label all rest (Next item _ t) forward c =
    let before = found_behind label all (more item rest) t forward (Contains-append_right (gathered gotos_of item) (gathered_in gotos_of rest) label c) in
    let other = not_mark label item rest (forward_tail all (more item rest) t forward).0 c in
    record { same = before.same ∙ skipped label item rest other; there = before.there ∙ not_found label item rest other }

-- behind a label there are fewer labels, and no more to do
record Fewer (bound : ℕ) (call : ℕ → ℕ) (label : ℕ) (rest : CsStmtTrees) : Type 0 where
  labels : length (labels_among (behind (AtLabel label) rest)) < length (labels_among rest)
  needs : need_in bound call (behind (AtLabel label) rest) ≤ need_in bound call rest

fewer_case : (bound : ℕ) (call : ℕ → ℕ) (label : ℕ) (at : Pos) (l : ℕ) (rest : CsStmtTrees) (b : Bool) → is_mark (AtLabel label) (Label at l) ≡ b
    → (has (AtLabel label) rest ≡ true → Fewer bound call label rest) → (if b then true else has (AtLabel label) rest) ≡ true
    → Fewer bound call label (more (Label at l) rest)
fewer_case bound call label at l rest true e f h = record { labels = rw e (omega arith); needs = rw e (omega arith) }
fewer_case bound call label at l rest false e f h =
    let r = f h in let less = r.labels in let no_more = r.needs in record { labels = rw e (omega (arith, less)); needs = rw e (omega (arith, no_more)) }

fewer_other : (bound : ℕ) (call : ℕ → ℕ) (label : ℕ) (item : CsStmtTree) (rest : CsStmtTrees) → is_mark (AtLabel label) item ≡ false
    → length (labels_among rest) ≤ length (labels_among (more item rest))
    → (has (AtLabel label) rest ≡ true → Fewer bound call label rest) → has (AtLabel label) (more item rest) ≡ true → Fewer bound call label (more item rest)
fewer_other bound call label item rest e le f h =
    let r = f (sym (not_found label item rest e) ∙ h) in let less = r.labels in let no_more = r.needs in
    record { labels = rw e (omega (arith, less, le)); needs = rw e (omega (arith, no_more)) }

fewer : (bound : ℕ) (call : ℕ → ℕ) (label : ℕ) (rest : CsStmtTrees) → has (AtLabel label) rest ≡ true → Fewer bound call label rest
fewer bound call label none h = absurd (cc)
fewer bound call label (more (Label at l) rest) h = fewer_case bound call label at l rest (is_mark (AtLabel label) (Label at l)) refl (fewer bound call label rest) h
fewer bound call label (more Nothing rest) h = fewer_other bound call label Nothing rest refl (omega arith) (fewer bound call label rest) h
fewer bound call label (more (Set k e) rest) h = fewer_other bound call label (Set k e) rest refl (omega arith) (fewer bound call label rest) h
fewer bound call label (more (Load k ty e) rest) h = fewer_other bound call label (Load k ty e) rest refl (omega arith) (fewer bound call label rest) h
fewer bound call label (more (Store ty e f) rest) h = fewer_other bound call label (Store ty e f) rest refl (omega arith) (fewer bound call label rest) h
fewer bound call label (more (CopyBytes n to from) rest) h = fewer_other bound call label (CopyBytes n to from) rest refl (omega arith) (fewer bound call label rest) h
fewer bound call label (more (Undefine y) rest) h = fewer_other bound call label (Undefine y) rest refl (omega arith) (fewer bound call label rest) h
fewer bound call label (more (Checked c) rest) h = fewer_other bound call label (Checked c) rest refl (omega arith) (fewer bound call label rest) h
fewer bound call label (more (Input k t) rest) h = fewer_other bound call label (Input k t) rest refl (omega arith) (fewer bound call label rest) h
fewer bound call label (more (Assume e) rest) h = fewer_other bound call label (Assume e) rest refl (omega arith) (fewer bound call label rest) h
fewer bound call label (more (Sequence a b) rest) h = fewer_other bound call label (Sequence a b) rest refl (omega arith) (fewer bound call label rest) h
fewer bound call label (more (If e a b) rest) h = fewer_other bound call label (If e a b) rest refl (omega arith) (fewer bound call label rest) h
fewer bound call label (more (Loop at a) rest) h = fewer_other bound call label (Loop at a) rest refl (omega arith) (fewer bound call label rest) h
fewer bound call label (more (Block a) rest) h = fewer_other bound call label (Block a) rest refl (omega arith) (fewer bound call label rest) h
fewer bound call label (more (Exit n) rest) h = fewer_other bound call label (Exit n) rest refl (omega arith) (fewer bound call label rest) h
fewer bound call label (more (Scope xs all) rest) h = fewer_other bound call label (Scope xs all) rest refl (omega arith) (fewer bound call label rest) h
fewer bound call label (more (Switch e xs all) rest) h = fewer_other bound call label (Switch e xs all) rest refl (omega arith) (fewer bound call label rest) h
fewer bound call label (more (Goto l) rest) h = fewer_other bound call label (Goto l) rest refl (omega arith) (fewer bound call label rest) h
fewer bound call label (more (Call c) rest) h = fewer_other bound call label (Call c) rest refl (omega arith) (fewer bound call label rest) h
fewer bound call label (more (Return e) rest) h = fewer_other bound call label (Return e) rest refl (omega arith) (fewer bound call label rest) h
fewer bound call label (more (Case n) rest) h = fewer_other bound call label (Case n) rest refl (omega arith) (fewer bound call label rest) h
fewer bound call label (more Default rest) h = fewer_other bound call label Default rest refl (omega arith) (fewer bound call label rest) h

-- no more is to do, and no more labels stand, behind a mark than in all
record NoMore (bound : ℕ) (call : ℕ → ℕ) (mark : Mark) (all : CsStmtTrees) : Type 0 where
  labels : length (labels_among (behind mark all)) ≤ length (labels_among all)
  needs : need_in bound call (behind mark all) ≤ need_in bound call all

no_more_case : (bound : ℕ) (call : ℕ → ℕ) (mark : Mark) (item : CsStmtTree) (rest : CsStmtTrees) (b : Bool) → is_mark mark item ≡ b
    → length (labels_among rest) ≤ length (labels_among (more item rest)) → NoMore bound call mark rest → NoMore bound call mark (more item rest)
no_more_case bound call mark item rest true e le r = record { labels = rw e (omega (arith, le)); needs = rw e (omega arith) }
no_more_case bound call mark item rest false e le r =
    let labels = r.labels in let needs = r.needs in record { labels = rw e (omega (arith, labels, le)); needs = rw e (omega (arith, needs)) }

no_more : (bound : ℕ) (call : ℕ → ℕ) (mark : Mark) (all : CsStmtTrees) → NoMore bound call mark all
no_more bound call mark none = record { labels = omega arith; needs = omega arith }
no_more bound call mark (more (Label at l) rest) = no_more_case bound call mark (Label at l) rest (is_mark mark (Label at l)) refl (omega arith) (no_more bound call mark rest)
no_more bound call mark (more Nothing rest) = no_more_case bound call mark Nothing rest (is_mark mark Nothing) refl (omega arith) (no_more bound call mark rest)
no_more bound call mark (more (Set k e) rest) = no_more_case bound call mark (Set k e) rest (is_mark mark (Set k e)) refl (omega arith) (no_more bound call mark rest)
no_more bound call mark (more (Load k ty e) rest) = no_more_case bound call mark (Load k ty e) rest (is_mark mark (Load k ty e)) refl (omega arith) (no_more bound call mark rest)
no_more bound call mark (more (Store ty e f) rest) = no_more_case bound call mark (Store ty e f) rest (is_mark mark (Store ty e f)) refl (omega arith) (no_more bound call mark rest)
no_more bound call mark (more (CopyBytes n to from) rest) = no_more_case bound call mark (CopyBytes n to from) rest (is_mark mark (CopyBytes n to from)) refl (omega arith) (no_more bound call mark rest)
no_more bound call mark (more (Undefine y) rest) = no_more_case bound call mark (Undefine y) rest (is_mark mark (Undefine y)) refl (omega arith) (no_more bound call mark rest)
no_more bound call mark (more (Checked c) rest) = no_more_case bound call mark (Checked c) rest (is_mark mark (Checked c)) refl (omega arith) (no_more bound call mark rest)
no_more bound call mark (more (Input k t) rest) = no_more_case bound call mark (Input k t) rest (is_mark mark (Input k t)) refl (omega arith) (no_more bound call mark rest)
no_more bound call mark (more (Assume e) rest) = no_more_case bound call mark (Assume e) rest (is_mark mark (Assume e)) refl (omega arith) (no_more bound call mark rest)
no_more bound call mark (more (Sequence a b) rest) = no_more_case bound call mark (Sequence a b) rest (is_mark mark (Sequence a b)) refl (omega arith) (no_more bound call mark rest)
no_more bound call mark (more (If e a b) rest) = no_more_case bound call mark (If e a b) rest (is_mark mark (If e a b)) refl (omega arith) (no_more bound call mark rest)
no_more bound call mark (more (Loop at a) rest) = no_more_case bound call mark (Loop at a) rest (is_mark mark (Loop at a)) refl (omega arith) (no_more bound call mark rest)
no_more bound call mark (more (Block a) rest) = no_more_case bound call mark (Block a) rest (is_mark mark (Block a)) refl (omega arith) (no_more bound call mark rest)
no_more bound call mark (more (Exit n) rest) = no_more_case bound call mark (Exit n) rest (is_mark mark (Exit n)) refl (omega arith) (no_more bound call mark rest)
no_more bound call mark (more (Scope xs all) rest) = no_more_case bound call mark (Scope xs all) rest (is_mark mark (Scope xs all)) refl (omega arith) (no_more bound call mark rest)
no_more bound call mark (more (Switch e xs all) rest) = no_more_case bound call mark (Switch e xs all) rest (is_mark mark (Switch e xs all)) refl (omega arith) (no_more bound call mark rest)
no_more bound call mark (more (Goto l) rest) = no_more_case bound call mark (Goto l) rest (is_mark mark (Goto l)) refl (omega arith) (no_more bound call mark rest)
no_more bound call mark (more (Call c) rest) = no_more_case bound call mark (Call c) rest (is_mark mark (Call c)) refl (omega arith) (no_more bound call mark rest)
no_more bound call mark (more (Return e) rest) = no_more_case bound call mark (Return e) rest (is_mark mark (Return e)) refl (omega arith) (no_more bound call mark rest)
no_more bound call mark (more (Case n) rest) = no_more_case bound call mark (Case n) rest (is_mark mark (Case n)) refl (omega arith) (no_more bound call mark rest)
no_more bound call mark (more Default rest) = no_more_case bound call mark Default rest (is_mark mark Default) refl (omega arith) (no_more bound call mark rest)

abbrev rest_from : Option Mark → CsStmtTrees → CsStmtTrees
rest_from None all = all
rest_from (Some mark) all = behind mark all

begins_at : (over : ℕ → Bool) (q : CsProgramTree) (later : Later) (from : Option Mark) (all : CsStmtTrees) (s : State)
    → items over q later from all s ≡ items over q later None (rest_from from all) s
begins_at over q later None all s = refl
begins_at over q later (Some mark) all s = begins_behind over q later mark all s

tail_from : (all : CsStmtTrees) (from : Option Mark) → Tail all (rest_from from all)
tail_from all None = Whole
tail_from all (Some mark) = tail_behind all mark all Whole

rest_case : (bound : ℕ) (call : ℕ → ℕ) (mark : Mark) (rest : CsStmtTrees) (m : ℕ) (b : Bool)
    → need_in bound call (if b then rest else behind mark rest) ≤ m → need_in bound call (rest_from (if b then None else Some mark) rest) ≤ m
rest_case bound call mark rest m true le = le
rest_case bound call mark rest m false le = le

-- ---- outcomes other than out of fuel

abbrev Enough : Outcome → Type 0
Enough NoFuel = ⊥
Enough o = Unit {0}

then_enough : (o : Outcome) (next : State → Outcome) → Enough o → ((t : State) → Enough (next t)) → Enough (then_do o next)
then_enough (Normal s) next h go = go s
then_enough (Leaves way s) next h go = tt
then_enough (Fails chain at kind operand m) next h go = tt
then_enough Waiting next h go = tt
then_enough Stopped next h go = tt
then_enough Stuck next h go = tt
then_enough Clash next h go = tt
then_enough NoFuel next h go = h
then_enough Over next h go = tt

block_enough : (o : Outcome) → Enough o → Enough (at_block o)
block_enough (Normal s) h = tt
block_enough (Leaves (ByExit zero) s) h = tt
block_enough (Leaves (ByExit (suc n)) s) h = tt
block_enough (Leaves (ByGoto label) s) h = tt
block_enough (Leaves (ByReturn v) s) h = tt
block_enough (Fails chain at kind operand m) h = tt
block_enough Waiting h = tt
block_enough Stopped h = tt
block_enough Stuck h = tt
block_enough Clash h = tt
block_enough NoFuel h = h
block_enough Over h = tt

scope_enough : (xs : List ℕ) (o : Outcome) → Enough o → Enough (at_scope xs o)
scope_enough xs (Normal s) h = tt
scope_enough xs (Leaves way s) h = tt
scope_enough xs (Fails chain at kind operand m) h = tt
scope_enough xs Waiting h = tt
scope_enough xs Stopped h = tt
scope_enough xs Stuck h = tt
scope_enough xs Clash h = tt
scope_enough xs NoFuel h = h
scope_enough xs Over h = tt

call_enough : (c : CsCallTree) (o : Outcome) → Enough o → Enough (at_call c o)
call_enough c (Normal s) h = tt
call_enough c (Leaves (ByExit n) s) h = tt
call_enough c (Leaves (ByGoto label) s) h = tt
call_enough c (Leaves (ByReturn v) s) h = tt
call_enough c (Fails chain at kind operand m) h = tt
call_enough c Waiting h = tt
call_enough c Stopped h = tt
call_enough c Stuck h = tt
call_enough c Clash h = tt
call_enough c NoFuel h = h
call_enough c Over h = tt

if_enough : (b : Bool) (o p : Outcome) → Enough o → Enough p → Enough (if b then o else p)
if_enough true o p h k = h
if_enough false o p h k = k

stuck_enough : {A : Type 0} (a : Option A) (next : A → Outcome) → ((b : A) → Enough (next b)) → Enough (or_stuck a next)
stuck_enough None next go = tt
stuck_enough (Some b) next go = go b

chosen_enough : (mark : Option Mark) (s : State) (next : Mark → Outcome) → ((m : Mark) → Enough (next m)) → Enough (where_chosen mark s next)
chosen_enough None s next go = tt
chosen_enough (Some m) s next go = go m

told_enough : (j : Judged) (at : Pos) (s : State) → Enough (told j at s)
told_enough Passes at s = tt
told_enough (FailsAs kind operand) at s = tt
told_enough NoOperand at s = tt

normal_enough : (o : Option State) → Enough (to_normal o)
normal_enough None = tt
normal_enough (Some s) = tt

waits_enough : (o : Option State) → Enough (or_waits o)
waits_enough None = tt
waits_enough (Some s) = tt

within_enough : (q : CsProgramTree) (xs : List ℕ) (s : State) (next : State → Outcome) → ((t : State) → Enough (next t)) → Enough (within q xs s next)
within_enough q xs s next go =
    if_enough (are_free xs s) (at_scope xs (next (enter q.objects xs s))) Clash (scope_enough xs (next (enter q.objects xs s)) (go (enter q.objects xs s))) tt

-- ---- the induction

module _ (bound : ℕ) (q : CsProgramTree) (founded : AreCallsFounded q) (forward : IsForwardOnly q) where
  abbrev over : ℕ → Bool
  over = beyond bound

  abbrev calls : ℕ → ℕ → ℕ
  calls depth = call_need bound q depth

  -- calls lead below a depth
  abbrev Lower : ℕ → List ℕ → Type 0
  Lower depth gs = (g : ℕ) → Contains gs g → founded.rank g < depth

  lower_part : (depth : ℕ) (gs hs : List ℕ) → Within hs gs → Lower depth gs → Lower depth hs
  lower_part depth gs hs w lower = λ g c. lower g (w g c)

  record LaterEnough (n : ℕ) : Type 0 where
    body : (depth : ℕ) (around : Around) (a : CsStmtTree) (s : State) → Each IsForward around a → Lower depth (gathered calls_of a)
        → suc (need bound (calls depth) a) ≤ n → Enough ((later_by over q n).statement Anew a s)
    turn : (depth k : ℕ) (around : Around) (at : Pos) (a : CsStmtTree) (s : State) → Each IsForward around a → Lower depth (gathered calls_of a)
        → suc (need bound (calls depth) a + (suc bound - k)) ≤ n → Enough ((later_by over q n).statement (Turn k) (Loop at a) s)
    items : (depth : ℕ) (mark : Mark) (around : Around) (all : CsStmtTrees) (s : State) → AreForward all → EachItem IsForward around all
        → Lower depth (gathered_in calls_of all)
        → suc (need_in bound (calls depth) (behind mark all) + length (labels_among (behind mark all))) ≤ n
        → Enough ((later_by over q n).items mark all s)

  module _ (n : ℕ) (l : LaterEnough n) where
    abbrev later : Later
    later = later_by over q n

    has_case : (depth : ℕ) (around : Around) (all rest : CsStmtTrees) (label : ℕ) (t : State) → Tail all rest → AreForward all → EachItem IsForward around all
        → Lower depth (gathered_in calls_of all) → need_in bound (calls depth) rest + length (labels_among rest) ≤ n → Contains (gathered_in gotos_of rest) label
        → (b : Bool) → has (AtLabel label) all ≡ b → Enough (if b then later.items (AtLabel label) all t else Leaves (ByGoto label) t)
    has_case depth around all rest label t tail ahead each lower le c false e = tt
    has_case depth around all rest label t tail ahead each lower le c true e =
        let found = found_behind label all rest tail ahead c in
        let less = fewer bound (calls depth) label rest (sym found.there ∙ e) in
        let labels = less.labels in
        let needs = less.needs in
        let small : suc (need_in bound (calls depth) (behind (AtLabel label) rest) + length (labels_among (behind (AtLabel label) rest))) ≤ n = omega (arith, labels, needs, le) in
        l.items depth (AtLabel label) around all t ahead each lower
        (subst (λ z. suc (need_in bound (calls depth) z + length (labels_among z)) ≤ n) (sym found.same) small)

    caught_enough : (depth : ℕ) (around : Around) (all rest : CsStmtTrees) (o : Outcome) → Tail all rest → AreForward all → EachItem IsForward around all
        → Lower depth (gathered_in calls_of all) → need_in bound (calls depth) rest + length (labels_among rest) ≤ n
        → Jumps (gathered_in gotos_of rest) o → Enough o → Enough (caught later all o)
    caught_enough depth around all rest (Leaves (ByGoto label) t) tail ahead each lower le j h =
        has_case depth around all rest label t tail ahead each lower le j (has (AtLabel label) all) refl
    caught_enough depth around all rest (Leaves (ByExit k) t) tail ahead each lower le j h = tt
    caught_enough depth around all rest (Leaves (ByReturn v) t) tail ahead each lower le j h = tt
    caught_enough depth around all rest (Normal t) tail ahead each lower le j h = tt
    caught_enough depth around all rest (Fails chain at kind operand m) tail ahead each lower le j h = tt
    caught_enough depth around all rest Waiting tail ahead each lower le j h = tt
    caught_enough depth around all rest Stopped tail ahead each lower le j h = tt
    caught_enough depth around all rest Stuck tail ahead each lower le j h = tt
    caught_enough depth around all rest Clash tail ahead each lower le j h = tt
    caught_enough depth around all rest NoFuel tail ahead each lower le j h = h
    caught_enough depth around all rest Over tail ahead each lower le j h = tt

    -- items that are begun somewhere, and catch gotos
    entered : (depth : ℕ) (around : Around) (from : Option Mark) (all : CsStmtTrees) (s : State) → AreForward all → EachItem IsForward around all
        → Lower depth (gathered_in calls_of all) → need_in bound (calls depth) (rest_from from all) + length (labels_among (rest_from from all)) ≤ n
        → Enough (items over q later from all s) → Enough (caught later all (items over q later from all s))
    entered depth around from all s ahead each lower le h =
        caught_enough depth around all (rest_from from all) (items over q later from all s) (tail_from all from) ahead each lower le
        (subst (λ o. Jumps (gathered_in gotos_of (rest_from from all)) o) (sym (begins_at over q later from all s))
        (items_jump over q later (later_jumps over q n) None (rest_from from all) s)) h

    turn_case : (depth k : ℕ) (around : Around) (at : Pos) (a : CsStmtTree) (s : State) (b : Bool) → nat_lt bound k ≡ b → Each IsForward around a
        → Lower depth (gathered calls_of a) → need bound (calls depth) a + (suc bound - k) ≤ n → Enough (level over q later Anew a s)
        → Enough (if b then Over else then_do (level over q later Anew a s) (λ t. later.statement (Turn (suc k)) (Loop at a) t))
    turn_case depth k around at a s true e each lower le h = tt
    turn_case depth k around at a s false e each lower le h =
        let inside = ltb-false bound k e in
        then_enough (level over q later Anew a s) _ h (λ t. l.turn depth (suc k) around at a t each lower (omega (arith, inside, le)))

    called : (depth : ℕ) (c : CsCallTree) (function : CsFunctionTree) → slice_get q.functions c.function ≡ Some function
        → founded.rank c.function < depth → suc (calls depth c.function) ≤ n → (t : State) → Enough (later.statement Anew function.body t)
    called zero c function is lt le t = absurd (omega (arith, lt))
    called (suc depth) c function is lt le t =
        l.body depth nothing_around function.body t (subst (λ o. IfSome o (λ g. Each IsForward nothing_around g.body)) is (forward c.function))
        (λ g m. let down = calls_below q founded c.function function is g m in omega (arith, down, lt))
        (subst (λ o. suc (need_of bound (calls depth) o) ≤ n) is le)

    call_case : (depth : ℕ) (c : CsCallTree) (s : State) (o : Option CsFunctionTree) → slice_get q.functions c.function ≡ o
        → founded.rank c.function < depth → suc (calls depth c.function) ≤ n
        → Enough (or_stuck o (λ function. or_stuck (pass c.args function.params s) (λ t. at_call c (later.statement Anew function.body t))))
    call_case depth c s None is lt le = tt
    call_case depth c s (Some function) is lt le =
        stuck_enough {A = State} (pass c.args function.params s) _ (λ t. call_enough c _ (called depth c function is lt le t))

    mutual
      level_enough : (depth : ℕ) (around : Around) (a : CsStmtTree) (s : State) → Each IsForward around a → Lower depth (gathered calls_of a)
          → need bound (calls depth) a ≤ n → Enough (level over q later Anew a s)
      level_enough depth around Nothing s each lower le = tt
      level_enough depth around (Set k e) s each lower le = normal_enough _
      level_enough depth around (Load k ty e) s each lower le = normal_enough _
      level_enough depth around (Store ty e f) s each lower le = normal_enough _
      level_enough depth around (CopyBytes m to from) s each lower le = normal_enough _
      level_enough depth around (Undefine y) s each lower le = normal_enough _
      level_enough depth around (Checked c) s each lower le = told_enough _ c.pos s
      level_enough depth around (Input k t) s each lower le = waits_enough _
      level_enough depth around (Assume e) s each lower le = stuck_enough {A = Value} (value_of e s) _ (λ v. if_enough (truth v) _ _ tt tt)
      level_enough depth around (Sequence a b) s (own, first, second) lower le =
          then_enough _ _ (level_enough depth around a s first (lower_part depth _ _ (in_first calls_of a b) lower) (omega (arith, le)))
          (λ t. level_enough depth around b t second (lower_part depth _ _ (in_second calls_of a b) lower) (omega (arith, le)))
      level_enough depth around (If e a b) s (own, first, second) lower le = stuck_enough {A = Value} (value_of e s) _ (λ v. if_enough (truth v) _ _
          (level_enough depth around a s first (lower_part depth _ _ (in_first calls_of a b) lower) (omega (arith, le)))
          (level_enough depth around b s second (lower_part depth _ _ (in_second calls_of a b) lower) (omega (arith, le))))
      level_enough depth around (Loop at a) s (own, inner) lower le =
          turn_case depth 0 around at a s (nat_lt bound 0) refl inner lower (omega (arith, le)) (level_enough depth around a s inner lower (omega (arith, le)))
      level_enough depth around (Block a) s (own, inner) lower le = block_enough _ (level_enough depth (in_block around) a s inner lower le)
      level_enough depth around (Exit k) s each lower le = tt
      level_enough depth around (Scope xs all) s (own, inner) lower le = within_enough q xs s _ (λ t.
          entered depth (in_items xs all around) None all t own inner lower le
          (items_enough depth (in_items xs all around) None all t inner lower (omega (arith, le))))
      level_enough depth around (Switch e xs all) s (own, inner) lower le = stuck_enough {A = Value} (value_of e s) _ (λ v. chosen_enough (chosen v all) s _
          (λ mark. within_enough q xs s _ (λ t.
          let less = no_more bound (calls depth) mark all in let labels = less.labels in let needs = less.needs in
          entered depth (in_items xs all around) (Some mark) all t own inner lower (omega (arith, labels, needs, le))
          (items_enough depth (in_items xs all around) (Some mark) all t inner lower (omega (arith, needs, le))))))
      level_enough depth around (Goto label) s each lower le = tt
      level_enough depth around (Call c) s each lower le =
          call_case depth c s (slice_get q.functions c.function) refl (lower c.function (first_in c.function [])) le
      level_enough depth around (Return None) s each lower le = tt
      level_enough depth around (Return (Some e)) s each lower le = stuck_enough {A = Value} (value_of e s) _ (λ v. tt)
      level_enough depth around (Label at k) s each lower le = tt
      level_enough depth around (Case k) s each lower le = tt
      level_enough depth around Default s each lower le = tt

      items_enough : (depth : ℕ) (around : Around) (from : Option Mark) (all : CsStmtTrees) (s : State) → EachItem IsForward around all
          → Lower depth (gathered_in calls_of all) → need_in bound (calls depth) (rest_from from all) ≤ n → Enough (items over q later from all s)
      items_enough depth around None none s each lower le = tt
      items_enough depth around (Some mark) none s each lower le = tt
      items_enough depth around None (more item rest) s (first, others) lower le =
          then_enough _ _ (level_enough depth around item s first (lower_part depth _ _ (in_item calls_of item rest) lower) (omega (arith, le)))
          (λ t. items_enough depth around None rest t others (lower_part depth _ _ (in_rest calls_of item rest) lower) (omega (arith, le)))
      items_enough depth around (Some mark) (more item rest) s (first, others) lower le =
          items_enough depth around (if is_mark mark item then None else Some mark) rest s others (lower_part depth _ _ (in_rest calls_of item rest) lower)
          (rest_case bound (calls depth) mark rest n (is_mark mark item) le)

  later_enough : (n : ℕ) → LaterEnough n
  later_enough zero = record {
    body = λ depth around a s each lower le. absurd (omega (arith, le));
    turn = λ depth k around at a s each lower le. absurd (omega (arith, le));
    items = λ depth mark around all s ahead each lower le. absurd (omega (arith, le));
  }
  later_enough (suc n) =
      let l = later_enough n in
      record {
        body = λ depth around a s each lower le. level_enough n l depth around a s each lower (omega (arith, le));
        turn = λ depth k around at a s each lower le. turn_case n l depth k around at a s (nat_lt bound k) refl each lower (omega (arith, le))
            (level_enough n l depth around a s each lower (omega (arith, le)));
        items = λ depth mark around all s ahead each lower le. entered n l depth around (Some mark) all s ahead each lower (omega (arith, le))
            (items_enough n l depth around (Some mark) all s each lower (omega (arith, le)));
      }

  enough : (f : ℕ) (function : CsFunctionTree) → slice_get q.functions f ≡ Some function → (fuel : ℕ) (s : State)
      → need bound (call_need bound q (founded.rank f)) function.body ≤ fuel → Enough (level over q (later_by over q fuel) Anew function.body s)
  enough f function is fuel s le =
      level_enough fuel (later_enough fuel) (founded.rank f) nothing_around function.body s
      (subst (λ o. IfSome o (λ g. Each IsForward nothing_around g.body)) is (forward f)) (calls_below q founded f function is) le

pub fuel_is_enough : FuelIsEnough
fuel_is_enough bound q founded forward f function is fuel s le e = subst Enough e (enough bound q founded forward f function is fuel s le)
