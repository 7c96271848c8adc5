-- Where scopes are separate none is entered while it is open, by induction on fuel and on the statement.
use Rattle.std.proofs.Common.{◌≡◌, ◌⊎◌, inl, inr, ℕ, zero, suc, List, [], ◌∷◌, ◌++◌, Option, Some, None, Bool, true, false, if◌then◌else◌, refl, sym, ◌∙◌, subst}
use Rattle.std.specs.Prelude.{◌==◌, not, ◌&&◌, is_some, Contains, IfSome, slice_get}
use Rattle.std.proofs.lemmas.Bool.{cases_eq, ne_eqb}
use Rattle.std.proofs.lemmas.List.Elements.{Contains-append_left, Contains-append_right}
use Rattle.c_syntax_written.specs.declared.place.Pos.{Pos}
use Rattle.block_mem.specs.declared.types.Value.{Value}
use Rattle.c_values.specs.Values.{truth}
use Rattle.c_values.specs.Places.{place_of}
use Rattle.c_values.specs.Looks.{Judged, Passes, FailsAs, NoOperand}
use Rattle.c_objects.specs.Lifetimes.{AreDistinct}
use Rattle.c_objects.proofs.Listed.{first_in, rest_in}
use Rattle.c_objects.proofs.Places.{open_others}
use Rattle.csharp.specs.Trees.{CsStmtTree, Nothing, Set, Load, Store, CopyBytes, Undefine, Checked, Input, Assume, Sequence, If, Loop, Block, Exit}
use Rattle.csharp.specs.Trees.{Scope, Switch, Goto, Call, Return, Label, Case, Default, CsStmtTrees, none, more, CsCallTree, CsFunctionTree, CsProgramTree}
use Rattle.csharp.specs.States.{State, value_of}
use Rattle.csharp.specs.Actions.{enter, is_among, are_free, pass}
use Rattle.csharp.specs.Outcomes.{ByExit, ByGoto, ByReturn, Outcome, Normal, Leaves, Fails, Waiting, Stopped, Stuck, Clash, NoFuel, Over}
use Rattle.csharp.specs.Outcomes.{then_do, or_stuck, to_normal, or_waits, told, at_block, at_scope, at_call}
use Rattle.csharp.specs.Formed.{Around, in_block, in_items, nothing_around, Each, EachItem, gathered, gathered_in, objects_of}
use Rattle.csharp.specs.Meaning.{Mark, AtLabel, is_mark, has, How, Anew, Turn, turns_of, Later, caught, within, where_chosen, chosen, level, items, later_by}
use Rattle.csharp_laws.specs.LeftAlone.{calls_of, May, Itself, ByCall}
use Rattle.csharp_laws.specs.Separate.{objects_within, IsApart, IsScopeApart, AreScopesApart, IsSeparate, NoClash}
use Rattle.csharp_laws.proofs.Stays.{Within, wider, Left, Ends, LaterEnds, level_ends, items_end, later_ends, by_params, in_first, in_second, in_item, in_rest}

abbrev Clear : Outcome → Type 0
Clear Clash = ⊥
Clear o = Unit {0}

abbrev SamePlaces : State → State → Type 0
SamePlaces s t = (x : ℕ) → place_of t.memory x ≡ place_of s.memory x

-- objects live as before in the state behind an outcome
abbrev Keeps : State → Outcome → Type 0
Keeps s (Normal t) = SamePlaces s t
Keeps s (Leaves way t) = SamePlaces s t
Keeps s o = Unit {0}

keeps : (q : CsProgramTree) (ts cs : List ℕ) (s : State) (o : Outcome) → ((x : ℕ) → Ends q 0 x ts cs s o) → Keeps s o
keeps q ts cs s (Normal t) k = λ x. (k x).place
keeps q ts cs s (Leaves way t) k = λ x. (k x).place
keeps q ts cs s (Fails chain at kind operand m) k = tt
keeps q ts cs s Waiting k = tt
keeps q ts cs s Stopped k = tt
keeps q ts cs s Stuck k = tt
keeps q ts cs s Clash k = tt
keeps q ts cs s NoFuel k = tt
keeps q ts cs s Over k = tt

-- nothing lives that code may open
abbrev Free : CsProgramTree → List ℕ → List ℕ → State → Type 0
Free q xs cs s = (x : ℕ) → May q objects_within x xs cs → place_of s.memory x ≡ None

free_moved : (q : CsProgramTree) (xs cs : List ℕ) (s t : State) → SamePlaces s t → Free q xs cs s → Free q xs cs t
free_moved q xs cs s t same free = λ x m. same x ∙ free x m

free_part : (q : CsProgramTree) (xs cs ys ds : List ℕ) (s : State) → Within ys xs → Within ds cs → Free q xs cs s → Free q ys ds s
free_part q xs cs ys ds s w v free = λ x m. free x (wider q objects_within x ys ds xs cs w v m)

-- ---- helpers of outcomes

then_clear : (s : State) (o : Outcome) (next : State → Outcome) → Keeps s o → Clear o → ((t : State) → SamePlaces s t → Clear (next t)) → Clear (then_do o next)
then_clear s (Normal t) next k clear go = go t k
then_clear s (Leaves way t) next k clear go = tt
then_clear s (Fails chain at kind operand m) next k clear go = tt
then_clear s Waiting next k clear go = tt
then_clear s Stopped next k clear go = tt
then_clear s Stuck next k clear go = tt
then_clear s Clash next k clear go = clear
then_clear s NoFuel next k clear go = tt
then_clear s Over next k clear go = tt

block_clear : (o : Outcome) → Clear o → Clear (at_block o)
block_clear (Normal t) clear = tt
block_clear (Leaves (ByExit zero) t) clear = tt
block_clear (Leaves (ByExit (suc n)) t) clear = tt
block_clear (Leaves (ByGoto label) t) clear = tt
block_clear (Leaves (ByReturn v) t) clear = tt
block_clear (Fails chain at kind operand m) clear = tt
block_clear Waiting clear = tt
block_clear Stopped clear = tt
block_clear Stuck clear = tt
block_clear Clash clear = clear
block_clear NoFuel clear = tt
block_clear Over clear = tt

scope_clear : (xs : List ℕ) (o : Outcome) → Clear o → Clear (at_scope xs o)
scope_clear xs (Normal t) clear = tt
scope_clear xs (Leaves way t) clear = tt
scope_clear xs (Fails chain at kind operand m) clear = tt
scope_clear xs Waiting clear = tt
scope_clear xs Stopped clear = tt
scope_clear xs Stuck clear = tt
scope_clear xs Clash clear = clear
scope_clear xs NoFuel clear = tt
scope_clear xs Over clear = tt

call_clear : (c : CsCallTree) (o : Outcome) → Clear o → Clear (at_call c o)
call_clear c (Normal t) clear = tt
call_clear c (Leaves (ByExit n) t) clear = tt
call_clear c (Leaves (ByGoto label) t) clear = tt
call_clear c (Leaves (ByReturn v) t) clear = tt
call_clear c (Fails chain at kind operand m) clear = tt
call_clear c Waiting clear = tt
call_clear c Stopped clear = tt
call_clear c Stuck clear = tt
call_clear c Clash clear = clear
call_clear c NoFuel clear = tt
call_clear c Over clear = tt

if_clear : (b : Bool) (o p : Outcome) → Clear o → Clear p → Clear (if b then o else p)
if_clear true o p k l = k
if_clear false o p k l = l

stuck_clear : {A : Type 0} (a : Option A) (next : A → Outcome) → ((b : A) → Clear (next b)) → Clear (or_stuck a next)
stuck_clear None next go = tt
stuck_clear (Some b) next go = go b

chosen_clear : (mark : Option Mark) (s : State) (next : Mark → Outcome) → ((m : Mark) → Clear (next m)) → Clear (where_chosen mark s next)
chosen_clear None s next go = tt
chosen_clear (Some m) s next go = go m

told_clear : (j : Judged) (at : Pos) (s : State) → Clear (told j at s)
told_clear Passes at s = tt
told_clear (FailsAs kind operand) at s = tt
told_clear NoOperand at s = tt

normal_clear : (o : Option State) → Clear (to_normal o)
normal_clear None = tt
normal_clear (Some s) = tt

waits_clear : (o : Option State) → Clear (or_waits o)
waits_clear None = tt
waits_clear (Some s) = tt

-- ---- scopes

among_case : (x y : ℕ) (ys : List ℕ) → (Contains (y ∷ ys) x → ⊥) → is_among x ys ≡ false → (x ≡ y) ⊎ (x ≡ y → ⊥) → is_among x (y ∷ ys) ≡ false
among_case x y ys out rest (inl e) = absurd (out (subst (λ z. Contains (z ∷ ys) x) e (first_in x ys)))
among_case x y ys out rest (inr other) = rw (ne_eqb x y other) rest

not_among : (x : ℕ) (xs : List ℕ) → (Contains xs x → ⊥) → is_among x xs ≡ false
not_among x [] out = refl
not_among x (y ∷ ys) out = among_case x y ys out (not_among x ys (λ c. out (rest_in y x ys c))) (cases_eq x y)

all_hold : (o : Option ℕ) (b c : Bool) → o ≡ None → b ≡ false → c ≡ true → not (is_some o) && not b && c ≡ true
all_hold None false true e f g = refl
all_hold None false false e f g = absurd (cc)
all_hold None true c e f g = absurd (cc)
all_hold (Some n) b c e f g = absurd (cc)

free_true : (xs : List ℕ) (s : State) → AreDistinct xs → ((x : ℕ) → Contains xs x → place_of s.memory x ≡ None) → are_free xs s ≡ true
free_true [] s d dead = refl
free_true (x ∷ xs) s (d, ds) dead =
    all_hold (place_of s.memory x) (is_among x xs) (are_free xs s) (dead x (first_in x xs)) (not_among x xs d)
    (free_true xs s ds (λ y c. dead y (rest_in x y xs c)))

entered_case : (q : CsProgramTree) (xs : List ℕ) (s : State) (next : State → Outcome) (b : Bool) → b ≡ true → Clear (next (enter q.objects xs s))
    → Clear (if b then at_scope xs (next (enter q.objects xs s)) else Clash)
entered_case q xs s next true e clear = scope_clear xs (next (enter q.objects xs s)) clear
entered_case q xs s next false e clear = absurd (cc)

within_clear : (q : CsProgramTree) (xs : List ℕ) (s : State) (next : State → Outcome) → are_free xs s ≡ true → Clear (next (enter q.objects xs s))
    → Clear (within q xs s next)
within_clear q xs s next e clear = entered_case q xs s next (are_free xs s) e clear

-- ---- the induction

record LaterClear (q : CsProgramTree) (later : Later) : Type 0 where
  statement : (how : How) (around : Around) (a : CsStmtTree) (s : State) → Each (IsScopeApart q) around a
      → Free q (gathered objects_of a) (gathered calls_of a) s → Clear (later.statement how a s)
  items : (mark : Mark) (around : Around) (all : CsStmtTrees) (s : State) → EachItem (IsScopeApart q) around all
      → Free q (gathered_in objects_of all) (gathered_in calls_of all) s → Clear (later.items mark all s)

caught_clear : (q : CsProgramTree) (later : Later) → LaterClear q later → (around : Around) (all : CsStmtTrees) (s : State) (o : Outcome)
    → EachItem (IsScopeApart q) around all → Free q (gathered_in objects_of all) (gathered_in calls_of all) s
    → Keeps s o → Clear o → Clear (caught later all o)
caught_clear q later l around all s (Leaves (ByGoto label) t) apart free same clear =
    if_clear (has (AtLabel label) all) (later.items (AtLabel label) all t) (Leaves (ByGoto label) t)
    (l.items (AtLabel label) around all t apart (free_moved q _ _ s t same free)) tt
caught_clear q later l around all s (Leaves (ByExit n) t) apart free same clear = tt
caught_clear q later l around all s (Leaves (ByReturn v) t) apart free same clear = tt
caught_clear q later l around all s (Normal t) apart free same clear = tt
caught_clear q later l around all s (Fails chain at kind operand m) apart free same clear = tt
caught_clear q later l around all s Waiting apart free same clear = tt
caught_clear q later l around all s Stopped apart free same clear = tt
caught_clear q later l around all s Stuck apart free same clear = tt
caught_clear q later l around all s Clash apart free same clear = clear
caught_clear q later l around all s NoFuel apart free same clear = tt
caught_clear q later l around all s Over apart free same clear = tt

body_apart : (q : CsProgramTree) (f : ℕ) (function : CsFunctionTree) → IsSeparate q → slice_get q.functions f ≡ Some function
    → Each (IsScopeApart q) nothing_around function.body
body_apart q f function separate is = subst (λ o. IfSome o (λ g. AreScopesApart q g.body)) is (separate f)

module _ (q : CsProgramTree) (separate : IsSeparate q) (over : ℕ → Bool) (later : Later) (l : LaterClear q later)
    (moves : (x : ℕ) → LaterEnds q 0 x later) where
  after : (a : CsStmtTree) (s : State) → Keeps s (level over q later Anew a s)
  after a s = keeps q _ _ s _ (λ x. level_ends q 0 x over later (moves x) Anew a s)

  after_items : (from : Option Mark) (all : CsStmtTrees) (s : State) → Keeps s (items over q later from all s)
  after_items from all s = keeps q _ _ s _ (λ x. items_end q 0 x over later (moves x) from all s)

  -- what a scope's items may open does not live behind its start
  free_inside : (xs : List ℕ) (all : CsStmtTrees) (s : State) → IsApart q xs all
      → Free q (xs ++ gathered_in objects_of all) (gathered_in calls_of all) s
      → Free q (gathered_in objects_of all) (gathered_in calls_of all) (enter q.objects xs s)
  free_inside xs all s apart free = λ x m.
      open_others q.objects xs s.memory x (λ c. apart.once x c m)
      ∙ free x (wider q objects_within x _ _ _ _ (λ y h. Contains-append_right xs (gathered_in objects_of all) y h) (λ y h. h) m)

  is_free : (xs : List ℕ) (all : CsStmtTrees) (s : State) → IsApart q xs all
      → Free q (xs ++ gathered_in objects_of all) (gathered_in calls_of all) s → are_free xs s ≡ true
  is_free xs all s apart free = free_true xs s apart.distinct
      (λ x c. free x (Itself (xs ++ gathered_in objects_of all) (gathered_in calls_of all) (Contains-append_left xs (gathered_in objects_of all) x c)))

  passed_case : (c : CsCallTree) (function : CsFunctionTree) (s : State) (o : Option State) → slice_get q.functions c.function ≡ Some function
      → pass c.args function.params s ≡ o → Free q [] (c.function ∷ []) s
      → Clear (or_stuck o (λ t. at_call c (later.statement Anew function.body t)))
  passed_case c function s None is e free = tt
  passed_case c function s (Some t) is e free =
      call_clear c (later.statement Anew function.body t)
      (l.statement Anew nothing_around function.body t (body_apart q c.function function separate is)
      (λ x m. (by_params q 0 x c function is s t e).place ∙ free x (ByCall [] (c.function ∷ []) c.function function (first_in c.function []) is m)))

  function_clear : (c : CsCallTree) (s : State) (o : Option CsFunctionTree) → slice_get q.functions c.function ≡ o → Free q [] (c.function ∷ []) s
      → Clear (or_stuck o (λ function. or_stuck (pass c.args function.params s) (λ t. at_call c (later.statement Anew function.body t))))
  function_clear c s None e free = tt
  function_clear c s (Some function) e free = passed_case c function s (pass c.args function.params s) e refl free

  -- a scope, by what its items come to
  inside : (xs : List ℕ) (all : CsStmtTrees) (around : Around) (from : Option Mark) (s : State) → IsApart q xs all
      → EachItem (IsScopeApart q) (in_items xs all around) all
      → Free q (xs ++ gathered_in objects_of all) (gathered_in calls_of all) s
      → Clear (items over q later from all (enter q.objects xs s))
      → Clear (within q xs s (λ t. caught later all (items over q later from all t)))
  inside xs all around from s own inner free clear =
      within_clear q xs s (λ t. caught later all (items over q later from all t)) (is_free xs all s own free)
      (caught_clear q later l (in_items xs all around) all (enter q.objects xs s) _ inner (free_inside xs all s own free)
      (after_items from all (enter q.objects xs s)) clear)

  mutual
    level_clear : (how : How) (around : Around) (a : CsStmtTree) (s : State) → Each (IsScopeApart q) around a
        → Free q (gathered objects_of a) (gathered calls_of a) s → Clear (level over q later how a s)
    level_clear how around Nothing s apart free = tt
    level_clear how around (Set k e) s apart free = normal_clear _
    level_clear how around (Load k ty e) s apart free = normal_clear _
    level_clear how around (Store ty e f) s apart free = normal_clear _
    level_clear how around (CopyBytes n to from) s apart free = normal_clear _
    level_clear how around (Undefine y) s apart free = normal_clear _
    level_clear how around (Checked c) s apart free = told_clear _ c.pos s
    level_clear how around (Input k t) s apart free = waits_clear _
    level_clear how around (Assume e) s apart free = stuck_clear {A = Value} (value_of e s) _ (λ v. if_clear (truth v) _ _ tt tt)
    level_clear how around (Sequence a b) s (own, first, second) free =
        then_clear s _ _ (after a s) (level_clear Anew around a s first (free_part q _ _ _ _ s (in_first objects_of a b) (in_first calls_of a b) free))
        (λ t same. level_clear Anew around b t second (free_moved q _ _ s t same (free_part q _ _ _ _ s (in_second objects_of a b) (in_second calls_of a b) free)))
    level_clear how around (If e a b) s (own, first, second) free = stuck_clear {A = Value} (value_of e s) _ (λ v. if_clear (truth v) _ _
        (level_clear Anew around a s first (free_part q _ _ _ _ s (in_first objects_of a b) (in_first calls_of a b) free))
        (level_clear Anew around b s second (free_part q _ _ _ _ s (in_second objects_of a b) (in_second calls_of a b) free)))
    level_clear how around (Loop at a) s (own, inner) free = if_clear (over (turns_of how)) _ _ tt
        (then_clear s _ _ (after a s) (level_clear Anew around a s inner free)
        (λ t same. l.statement (Turn (suc (turns_of how))) around (Loop at a) t (own, inner) (free_moved q _ _ s t same free)))
    level_clear how around (Block a) s (own, inner) free = block_clear _ (level_clear Anew (in_block around) a s inner free)
    level_clear how around (Exit n) s apart free = tt
    level_clear how around (Scope xs all) s (own, inner) free = inside xs all around None s own inner free
        (items_clear None (in_items xs all around) all (enter q.objects xs s) inner (free_inside xs all s own free))
    level_clear how around (Switch e xs all) s (own, inner) free = stuck_clear {A = Value} (value_of e s) _ (λ v. chosen_clear (chosen v all) s _
        (λ mark. inside xs all around (Some mark) s own inner free
        (items_clear (Some mark) (in_items xs all around) all (enter q.objects xs s) inner (free_inside xs all s own free))))
    level_clear how around (Goto label) s apart free = tt
    level_clear how around (Call c) s apart free = function_clear c s (slice_get q.functions c.function) refl free
    level_clear how around (Return None) s apart free = tt
    level_clear how around (Return (Some e)) s apart free = stuck_clear {A = Value} (value_of e s) _ (λ v. tt)
    level_clear how around (Label at n) s apart free = tt
    level_clear how around (Case n) s apart free = tt
    level_clear how around Default s apart free = tt

    items_clear : (from : Option Mark) (around : Around) (all : CsStmtTrees) (s : State) → EachItem (IsScopeApart q) around all
        → Free q (gathered_in objects_of all) (gathered_in calls_of all) s → Clear (items over q later from all s)
    items_clear None around none s apart free = tt
    items_clear (Some mark) around none s apart free = tt
    items_clear None around (more item rest) s (first, others) free =
        then_clear s _ _ (after item s)
        (level_clear Anew around item s first (free_part q _ _ _ _ s (in_item objects_of item rest) (in_item calls_of item rest) free))
        (λ t same. items_clear None around rest t others
        (free_moved q _ _ s t same (free_part q _ _ _ _ s (in_rest objects_of item rest) (in_rest calls_of item rest) free)))
    items_clear (Some mark) around (more item rest) s (first, others) free =
        items_clear (if is_mark mark item then None else Some mark) around rest s others
        (free_part q _ _ _ _ s (in_rest objects_of item rest) (in_rest calls_of item rest) free)

later_clear : (q : CsProgramTree) → IsSeparate q → (over : ℕ → Bool) (n : ℕ) → LaterClear q (later_by over q n)
later_clear q separate over zero = record { statement = λ how around a s apart free. tt; items = λ mark around all s apart free. tt }
later_clear q separate over (suc n) = record {
  statement = λ how around a s apart free. level_clear q separate over (later_by over q n) (later_clear q separate over n)
      (λ x. later_ends q 0 x over n) how around a s apart free;
  items = λ mark around all s apart free. caught_clear q (later_by over q n) (later_clear q separate over n) around all s _ apart free
      (after_items q separate over (later_by over q n) (later_clear q separate over n) (λ x. later_ends q 0 x over n) (Some mark) all s)
      (items_clear q separate over (later_by over q n) (later_clear q separate over n) (λ x. later_ends q 0 x over n) (Some mark) around all s apart free);
}

pub no_clash : NoClash
no_clash over q fuel a s separate apart free e =
    subst Clear e (level_clear q separate over (later_by over q fuel) (later_clear q separate over fuel)
    (λ x. later_ends q 0 x over fuel) Anew nothing_around a s apart free)
