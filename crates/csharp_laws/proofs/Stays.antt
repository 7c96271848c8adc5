-- What a statement leaves alone, by induction on fuel and on the statement.
use Rattle.std.proofs.Common.{◌≡◌, ◌⊎◌, inl, inr, ℕ, zero, suc, List, [], ◌∷◌, ◌++◌, Option, Some, None, Bool, true, false, if◌then◌else◌, refl, sym, ap, ◌∙◌, subst}
use Rattle.std.specs.Prelude.{ℤ, Contains, IfSome, option_map, option_and_then, slice_get, slice_set}
use Rattle.std.proofs.lemmas.List.Elements.{Contains-append_left, Contains-append_right}
use Rattle.c_syntax_written.specs.declared.place.Pos.{Pos}
use Rattle.c_syntax_written.specs.declared.int_type.IntType.{IntType}
use Rattle.c_syntax.specs.declared.alarm.WrongKind.{WrongKind}
use Rattle.block_mem.specs.declared.types.Scalar.{Scalar}
use Rattle.block_mem.specs.declared.types.Value.{Value}
use Rattle.block_mem.specs.declared.types.Value.TheVariants as values
use Rattle.c_values.specs.Values.{truth}
use Rattle.c_values.specs.Places.{ObjectMemory, place_of}
use Rattle.c_values.specs.Looks.{Judged, Passes, FailsAs, NoOperand, judge}
use Rattle.c_objects.specs.Opening.{undefined}
use Rattle.c_objects.specs.Writing.{stored_at, copied_at, unless_wrong, with_blocks}
use Rattle.block_mem.specs.Blocks.{wrong_access, store as block_store, copy}
use Rattle.block_mem.specs.Bytes.{size_of}
use Rattle.csharp.specs.Trees.{CsExprTree, CsStmtTree, Nothing, Set, Load, Store, CopyBytes, Undefine, Checked, Input, Assume, Sequence, If, Loop, Block, Exit}
use Rattle.csharp.specs.Trees.{Scope, Switch, Goto, Call, Return, Label, Case, Default, CsStmtTrees, none, more, CsCallTree, CsFunctionTree, CsProgramTree}
use Rattle.csharp.specs.States.{State, value_of, look_of}
use Rattle.csharp.specs.Actions.{put, with_memory, store, copy_bytes, undefine, input, enter, leave, are_free, put_into, given_to, args_from, pass}
use Rattle.csharp.specs.Outcomes.{Way, ByExit, ByGoto, ByReturn, Outcome, Normal, Leaves, Fails, Waiting, Stopped, Stuck, Clash, NoFuel, Over}
use Rattle.csharp.specs.Outcomes.{then_do, or_stuck, to_normal, or_waits, told, at_block, at_scope, at_call}
use Rattle.csharp.specs.Formed.{gathered, gathered_in, temps_of, opt_list}
use Rattle.csharp.specs.Meaning.{Mark, AtLabel, is_mark, has, How, Anew, Turn, turns_of, Later, caught, within, where_chosen, chosen, level, items, items_from}
use Rattle.csharp.specs.Meaning.{later_by, bounded_exec}
use Rattle.csharp_laws.specs.LeftAlone.{calls_of, May, Itself, ByCall, temps_within, IsBehind, TempsStay, PlacesStay}
use Rattle.c_objects.proofs.Listed.{first_in, rest_in}
use Rattle.csharp_laws.proofs.Lists.{other_element}
use Rattle.csharp_laws.proofs.Objects.{scope_leaves}

abbrev pub Within : List ℕ → List ℕ → Type 0
Within xs ys = (y : ℕ) → Contains xs y → Contains ys y

-- more numbers, and more calls, come to all that fewer come to
pub wider : (q : CsProgramTree) (of : CsFunctionTree → List ℕ) (y : ℕ) (own calls more_own more_calls : List ℕ)
    → Within own more_own → Within calls more_calls → May q of y own calls → May q of y more_own more_calls
wider q of y own calls more_own more_calls w v (Itself _ _ c) = Itself more_own more_calls (w y c)
wider q of y own calls more_own more_calls w v (ByCall _ _ f function c is m) = ByCall more_own more_calls f function (v f c) is m

abbrev MaySetBy : CsProgramTree → ℕ → List ℕ → List ℕ → Type 0
MaySetBy q d ts cs = May q temps_within d ts cs

-- what is left alone between two states by code that sets these temporaries and calls these functions
pub record Left (q : CsProgramTree) (d x : ℕ) (ts cs : List ℕ) (s t : State) : Type 0 where
  pub temp : (MaySetBy q d ts cs → ⊥) → slice_get t.temps d ≡ slice_get s.temps d
  pub place : place_of t.memory x ≡ place_of s.memory x

abbrev pub Ends : CsProgramTree → ℕ → ℕ → List ℕ → List ℕ → State → Outcome → Type 0
Ends q d x ts cs s (Normal t) = Left q d x ts cs s t
Ends q d x ts cs s (Leaves way t) = Left q d x ts cs s t
Ends q d x ts cs s o = Unit {0}

left_self : (q : CsProgramTree) (d x : ℕ) (ts cs : List ℕ) (s : State) → Left q d x ts cs s s
left_self q d x ts cs s = record { temp = λ not_set. refl; place = refl }

left_then : (q : CsProgramTree) (d x : ℕ) (ts cs : List ℕ) (s t u : State) → Left q d x ts cs s t → Left q d x ts cs t u → Left q d x ts cs s u
left_then q d x ts cs s t u l k = record { temp = λ not_set. k.temp not_set ∙ l.temp not_set; place = k.place ∙ l.place }

left_wider : (q : CsProgramTree) (d x : ℕ) (ts cs us es : List ℕ) → Within ts us → Within cs es → (s t : State) → Left q d x ts cs s t → Left q d x us es s t
left_wider q d x ts cs us es w v s t l = record { temp = λ not_set. l.temp (λ m. not_set (wider q temps_within d ts cs us es w v m)); place = l.place }

ends_from : (q : CsProgramTree) (d x : ℕ) (ts cs : List ℕ) (s t : State) (o : Outcome) → Left q d x ts cs s t → Ends q d x ts cs t o → Ends q d x ts cs s o
ends_from q d x ts cs s t (Normal u) l k = left_then q d x ts cs s t u l k
ends_from q d x ts cs s t (Leaves way u) l k = left_then q d x ts cs s t u l k
ends_from q d x ts cs s t (Fails chain at kind operand m) l k = tt
ends_from q d x ts cs s t Waiting l k = tt
ends_from q d x ts cs s t Stopped l k = tt
ends_from q d x ts cs s t Stuck l k = tt
ends_from q d x ts cs s t Clash l k = tt
ends_from q d x ts cs s t NoFuel l k = tt
ends_from q d x ts cs s t Over l k = tt

ends_wider : (q : CsProgramTree) (d x : ℕ) (ts cs us es : List ℕ) → Within ts us → Within cs es → (s : State) (o : Outcome)
    → Ends q d x ts cs s o → Ends q d x us es s o
ends_wider q d x ts cs us es w v s (Normal t) k = left_wider q d x ts cs us es w v s t k
ends_wider q d x ts cs us es w v s (Leaves way t) k = left_wider q d x ts cs us es w v s t k
ends_wider q d x ts cs us es w v s (Fails chain at kind operand m) k = tt
ends_wider q d x ts cs us es w v s Waiting k = tt
ends_wider q d x ts cs us es w v s Stopped k = tt
ends_wider q d x ts cs us es w v s Stuck k = tt
ends_wider q d x ts cs us es w v s Clash k = tt
ends_wider q d x ts cs us es w v s NoFuel k = tt
ends_wider q d x ts cs us es w v s Over k = tt

-- ---- helpers of outcomes

then_ends : (q : CsProgramTree) (d x : ℕ) (ts cs : List ℕ) (s : State) (o : Outcome) (next : State → Outcome)
    → Ends q d x ts cs s o → ((t : State) → Ends q d x ts cs t (next t)) → Ends q d x ts cs s (then_do o next)
then_ends q d x ts cs s (Normal t) next k go = ends_from q d x ts cs s t (next t) k (go t)
then_ends q d x ts cs s (Leaves way t) next k go = k
then_ends q d x ts cs s (Fails chain at kind operand m) next k go = tt
then_ends q d x ts cs s Waiting next k go = tt
then_ends q d x ts cs s Stopped next k go = tt
then_ends q d x ts cs s Stuck next k go = tt
then_ends q d x ts cs s Clash next k go = tt
then_ends q d x ts cs s NoFuel next k go = tt
then_ends q d x ts cs s Over next k go = tt

block_ends : (q : CsProgramTree) (d x : ℕ) (ts cs : List ℕ) (s : State) (o : Outcome) → Ends q d x ts cs s o → Ends q d x ts cs s (at_block o)
block_ends q d x ts cs s (Normal t) k = k
block_ends q d x ts cs s (Leaves (ByExit zero) t) k = record { temp = k.temp; place = k.place }
block_ends q d x ts cs s (Leaves (ByExit (suc n)) t) k = record { temp = k.temp; place = k.place }
block_ends q d x ts cs s (Leaves (ByGoto label) t) k = k
block_ends q d x ts cs s (Leaves (ByReturn v) t) k = k
block_ends q d x ts cs s (Fails chain at kind operand m) k = tt
block_ends q d x ts cs s Waiting k = tt
block_ends q d x ts cs s Stopped k = tt
block_ends q d x ts cs s Stuck k = tt
block_ends q d x ts cs s Clash k = tt
block_ends q d x ts cs s NoFuel k = tt
block_ends q d x ts cs s Over k = tt

left_scope : (q : CsProgramTree) (d x : ℕ) (ts cs xs : List ℕ) (s t : State) → are_free xs s ≡ true
    → Left q d x ts cs (enter q.objects xs s) t → Left q d x ts cs s (leave xs t)
left_scope q d x ts cs xs s t free l = record { temp = l.temp; place = scope_leaves q.objects xs s t.memory x free l.place }

scope_ends : (q : CsProgramTree) (d x : ℕ) (ts cs xs : List ℕ) (s : State) (o : Outcome) → are_free xs s ≡ true
    → Ends q d x ts cs (enter q.objects xs s) o → Ends q d x ts cs s (at_scope xs o)
scope_ends q d x ts cs xs s (Normal t) free k = left_scope q d x ts cs xs s t free k
scope_ends q d x ts cs xs s (Leaves way t) free k = left_scope q d x ts cs xs s t free k
scope_ends q d x ts cs xs s (Fails chain at kind operand m) free k = tt
scope_ends q d x ts cs xs s Waiting free k = tt
scope_ends q d x ts cs xs s Stopped free k = tt
scope_ends q d x ts cs xs s Stuck free k = tt
scope_ends q d x ts cs xs s Clash free k = tt
scope_ends q d x ts cs xs s NoFuel free k = tt
scope_ends q d x ts cs xs s Over free k = tt

free_case : (q : CsProgramTree) (d x : ℕ) (ts cs xs : List ℕ) (s : State) (next : State → Outcome) (b : Bool) → are_free xs s ≡ b
    → ((t : State) → Ends q d x ts cs t (next t)) → Ends q d x ts cs s (if b then at_scope xs (next (enter q.objects xs s)) else Clash)
free_case q d x ts cs xs s next true e go = scope_ends q d x ts cs xs s (next (enter q.objects xs s)) e (go (enter q.objects xs s))
free_case q d x ts cs xs s next false e go = tt

within_ends : (q : CsProgramTree) (d x : ℕ) (ts cs xs : List ℕ) (s : State) (next : State → Outcome)
    → ((t : State) → Ends q d x ts cs t (next t)) → Ends q d x ts cs s (within q xs s next)
within_ends q d x ts cs xs s next go = free_case q d x ts cs xs s next (are_free xs s) refl go

if_ends : (q : CsProgramTree) (d x : ℕ) (ts cs : List ℕ) (s : State) (b : Bool) (o p : Outcome)
    → Ends q d x ts cs s o → Ends q d x ts cs s p → Ends q d x ts cs s (if b then o else p)
if_ends q d x ts cs s true o p k l = k
if_ends q d x ts cs s false o p k l = l

stuck_ends : {A : Type 0} (q : CsProgramTree) (d x : ℕ) (ts cs : List ℕ) (s : State) (a : Option A) (next : A → Outcome)
    → ((b : A) → Ends q d x ts cs s (next b)) → Ends q d x ts cs s (or_stuck a next)
stuck_ends q d x ts cs s None next go = tt
stuck_ends q d x ts cs s (Some b) next go = go b

chosen_ends : (q : CsProgramTree) (d x : ℕ) (ts cs : List ℕ) (s : State) (mark : Option Mark) (next : Mark → Outcome)
    → ((m : Mark) → Ends q d x ts cs s (next m)) → Ends q d x ts cs s (where_chosen mark s next)
chosen_ends q d x ts cs s None next go = left_self q d x ts cs s
chosen_ends q d x ts cs s (Some m) next go = go m

told_ends : (q : CsProgramTree) (d x : ℕ) (ts cs : List ℕ) (s : State) (j : Judged) (at : Pos) → Ends q d x ts cs s (told j at s)
told_ends q d x ts cs s Passes at = left_self q d x ts cs s
told_ends q d x ts cs s (FailsAs kind operand) at = tt
told_ends q d x ts cs s NoOperand at = tt

-- ---- what is done at once

-- a temporary of the list has a new value
left_put : (q : CsProgramTree) (d x : ℕ) (ts cs : List ℕ) (s : State) (k : ℕ) (v : Value) → Contains ts k → Left q d x ts cs s (put s k v)
left_put q d x ts cs s k v c =
    record { temp = λ not_set. other_element s.temps k d v (λ e. not_set (Itself ts cs (subst (λ n. Contains ts n) (sym e) c))); place = refl }

put_ends : (q : CsProgramTree) (d x : ℕ) (cs : List ℕ) (s : State) (k : ℕ) (o : Option Value)
    → Ends q d x (k ∷ []) cs s (to_normal (option_map (put s k) o))
put_ends q d x cs s k None = tt
put_ends q d x cs s k (Some v) = left_put q d x (k ∷ []) cs s k v (first_in k [])

abbrev PlacesKept : ObjectMemory → Option ObjectMemory → Type 0
PlacesKept m o = IfSome o (λ n. n.places ≡ m.places)

memory_ends : (q : CsProgramTree) (d x : ℕ) (ts cs : List ℕ) (s : State) (o : Option ObjectMemory) → PlacesKept s.memory o
    → Ends q d x ts cs s (to_normal (with_memory s o))
memory_ends q d x ts cs s None kept = tt
memory_ends q d x ts cs s (Some m) kept = record { temp = λ not_set. refl; place = ap (λ places. place_of (record m { places = places }) x) kept }

unless_kept : (m : ObjectMemory) (w : Option WrongKind) (o : Option ObjectMemory) → PlacesKept m o → PlacesKept m (unless_wrong w o)
unless_kept m None o kept = kept
unless_kept m (Some kind) o kept = tt

stored_kept : (m : ObjectMemory) (ty : Scalar) (v u : Value) → PlacesKept m (stored_at m ty v u)
stored_kept m ty (values.Int t n) u = tt
stored_kept m ty (values.Ptr p) u = unless_kept m (wrong_access m.blocks p (size_of ty) (size_of ty) false) (Some (with_blocks m (block_store m.blocks p u))) refl
stored_kept m ty values.Null u = tt

copied_kept : (m : ObjectMemory) (v u : Value) (n : ℕ) → PlacesKept m (copied_at m v u n)
copied_kept m (values.Ptr to) (values.Ptr from) n =
    unless_kept m (wrong_access m.blocks from n 1 false) (unless_wrong (wrong_access m.blocks to n 1 false) (Some (with_blocks m (copy m.blocks to from n))))
    (unless_kept m (wrong_access m.blocks to n 1 false) (Some (with_blocks m (copy m.blocks to from n))) refl)
copied_kept m (values.Ptr to) (values.Int t k) n = tt
copied_kept m (values.Ptr to) values.Null n = tt
copied_kept m (values.Int t k) u n = tt
copied_kept m values.Null u n = tt

undefined_kept : (m : ObjectMemory) (x : ℕ) (o : Option ℕ) → place_of m x ≡ o → PlacesKept m (undefined m x)
undefined_kept m x None e = rw e tt
undefined_kept m x (Some b) e = rw e refl

both_kept : (m : ObjectMemory) (act : Value → Value → Option ObjectMemory) (o p : Option Value) → ((v u : Value) → PlacesKept m (act v u))
    → PlacesKept m (option_and_then (λ v. option_and_then (act v) p) o)
both_kept m act None p kept = tt
both_kept m act (Some v) None kept = tt
both_kept m act (Some v) (Some u) kept = kept v u

input_ends : (q : CsProgramTree) (d x : ℕ) (cs : List ℕ) (s : State) (k : ℕ) (t : IntType) (i : List ℤ)
    → Ends q d x (k ∷ []) cs (record s { inputs = i }) (or_waits (input k t (record s { inputs = i })))
input_ends q d x cs s k t [] = tt
input_ends q d x cs s k t (n ∷ i) =
    record { temp = λ not_set. other_element s.temps k d _ (λ e. not_set (Itself (k ∷ []) cs (subst (λ n. Contains (k ∷ []) n) (sym e) (first_in k [])))); place = refl }

-- ---- calls

left_into : (q : CsProgramTree) (d x : ℕ) (ts cs : List ℕ) (s : State) (k : Option ℕ) (v : Value) → Within (opt_list k) ts
    → Left q d x ts cs s (put_into k v s)
left_into q d x ts cs s None v w = left_self q d x ts cs s
left_into q d x ts cs s (Some k) v w = left_put q d x ts cs s k v (w k (first_in k []))

abbrev Own : CsCallTree → List ℕ
Own c = opt_list c.value ++ opt_list c.flag

left_given : (q : CsProgramTree) (d x : ℕ) (cs : List ℕ) (c : CsCallTree) (v : Option Value) (s : State) → Left q d x (Own c) cs s (given_to c v s)
left_given q d x cs c None s = left_into q d x (Own c) cs s c.flag _ (λ y h. Contains-append_right (opt_list c.value) (opt_list c.flag) y h)
left_given q d x cs c (Some v) s =
    left_then q d x (Own c) cs s (put_into c.value v s) _
    (left_into q d x (Own c) cs s c.value v (λ y h. Contains-append_left (opt_list c.value) (opt_list c.flag) y h))
    (left_into q d x (Own c) cs (put_into c.value v s) c.flag _ (λ y h. Contains-append_right (opt_list c.value) (opt_list c.flag) y h))

-- arguments go into parameters alone
abbrev Passed : ℕ → ℕ → List ℕ → State → State → Type 0
Passed d x ds s t = ((Contains ds d → ⊥) → slice_get t.temps d ≡ slice_get s.temps d) × (place_of t.memory x ≡ place_of s.memory x)

some_is : (s t : State) → ◌≡◌ {A = Option State} (Some s) (Some t) → s ≡ t
some_is s t e = cc

arg_case : (d x : ℕ) (from : State) (es : List CsExprTree) (k : ℕ) (ds : List ℕ) (s t : State) (o : Option Value)
    → ((v : Value) → args_from from es ds (put s k v) ≡ Some t → Passed d x ds (put s k v) t)
    → option_and_then (λ v. args_from from es ds (put s k v)) o ≡ Some t → Passed d x (k ∷ ds) s t
arg_case d x from es k ds s t None go e = absurd (cc)
arg_case d x from es k ds s t (Some v) go e =
    let p : Passed d x ds (put s k v) t = go v e in (
      (λ other. p.0 (λ h. other (rest_in k d ds h)) ∙ other_element s.temps k d v (λ is. other (subst (λ n. Contains (k ∷ ds) n) (sym is) (first_in k ds)))),
      p.1,
    )

args_passed : (d x : ℕ) (from : State) (es : List CsExprTree) (ds : List ℕ) (s t : State) → args_from from es ds s ≡ Some t → Passed d x ds s t
args_passed d x from [] [] s t e = subst (λ u. Passed d x [] s u) (some_is s t e) ((λ other. refl), refl)
args_passed d x from [] (k ∷ ds) s t e = absurd (cc)
args_passed d x from (a ∷ es) [] s t e = absurd (cc)
args_passed d x from (a ∷ es) (k ∷ ds) s t e =
    arg_case d x from es k ds s t (value_of a from) (λ v h. args_passed d x from es ds (put s k v) t h) e

-- what the callee leaves alone the call leaves alone
module _ (q : CsProgramTree) (d x : ℕ) (c : CsCallTree) (function : CsFunctionTree) (is : slice_get q.functions c.function ≡ Some function) where
  abbrev Calls : List ℕ
  Calls = c.function ∷ []

  abbrev BodyTemps : List ℕ
  BodyTemps = gathered temps_of function.body

  abbrev BodyCalls : List ℕ
  BodyCalls = gathered calls_of function.body

  by_body : (s t : State) → Left q d x BodyTemps BodyCalls s t → Left q d x (Own c) Calls s t
  by_body s t l = record {
    temp = λ not_set. l.temp (λ m. not_set (ByCall (Own c) Calls c.function function (first_in c.function []) is
        (wider q temps_within d BodyTemps BodyCalls (temps_within function) BodyCalls (λ y h. Contains-append_right function.params BodyTemps y h) (λ y h. h) m)));
    place = l.place;
  }

  pub by_params : (s t : State) → pass c.args function.params s ≡ Some t → Left q d x (Own c) Calls s t
  by_params s t e = let p : Passed d x function.params s t = args_passed d x s c.args function.params s t e in
      record {
        temp = λ not_set. p.0 (λ h. not_set (ByCall (Own c) Calls c.function function (first_in c.function []) is
            (Itself (temps_within function) BodyCalls (Contains-append_left function.params BodyTemps d h))));
        place = p.1;
      }

  call_ends : (s t : State) (o : Outcome) → Left q d x (Own c) Calls s t → Ends q d x BodyTemps BodyCalls t o → Ends q d x (Own c) Calls s (at_call c o)
  call_ends s t (Normal u) l k =
      left_then q d x (Own c) Calls s t _ l (left_then q d x (Own c) Calls t u _ (by_body t u k) (left_given q d x Calls c None u))
  call_ends s t (Leaves (ByReturn v) u) l k =
      left_then q d x (Own c) Calls s t _ l (left_then q d x (Own c) Calls t u _ (by_body t u k) (left_given q d x Calls c v u))
  call_ends s t (Leaves (ByExit n) u) l k = tt
  call_ends s t (Leaves (ByGoto label) u) l k = tt
  call_ends s t (Fails chain at kind operand m) l k = tt
  call_ends s t Waiting l k = tt
  call_ends s t Stopped l k = tt
  call_ends s t Stuck l k = tt
  call_ends s t Clash l k = tt
  call_ends s t NoFuel l k = tt
  call_ends s t Over l k = tt

  pass_case : (s : State) (later : Later) (o : Option State) → pass c.args function.params s ≡ o
      → ((t : State) → Ends q d x BodyTemps BodyCalls t (later.statement Anew function.body t))
      → Ends q d x (Own c) Calls s (or_stuck o (λ t. at_call c (later.statement Anew function.body t)))
  pass_case s later None e go = tt
  pass_case s later (Some t) e go = call_ends s t (later.statement Anew function.body t) (by_params s t e) (go t)

-- ---- the induction

-- what is done at less fuel leaves alone what it should
pub record LaterEnds (q : CsProgramTree) (d x : ℕ) (later : Later) : Type 0 where
  pub statement : (how : How) (a : CsStmtTree) (s : State) → Ends q d x (gathered temps_of a) (gathered calls_of a) s (later.statement how a s)
  pub items : (mark : Mark) (all : CsStmtTrees) (s : State) → Ends q d x (gathered_in temps_of all) (gathered_in calls_of all) s (later.items mark all s)

caught_ends : (q : CsProgramTree) (d x : ℕ) (later : Later) → LaterEnds q d x later → (all : CsStmtTrees) (s : State) (o : Outcome)
    → Ends q d x (gathered_in temps_of all) (gathered_in calls_of all) s o → Ends q d x (gathered_in temps_of all) (gathered_in calls_of all) s (caught later all o)
caught_ends q d x later l all s (Leaves (ByGoto label) t) k =
    if_ends q d x _ _ s (has (AtLabel label) all) (later.items (AtLabel label) all t) (Leaves (ByGoto label) t)
    (ends_from q d x _ _ s t (later.items (AtLabel label) all t) (record { temp = k.temp; place = k.place }) (l.items (AtLabel label) all t)) k
caught_ends q d x later l all s (Leaves (ByExit n) t) k = k
caught_ends q d x later l all s (Leaves (ByReturn v) t) k = k
caught_ends q d x later l all s (Normal t) k = k
caught_ends q d x later l all s (Fails chain at kind operand m) k = tt
caught_ends q d x later l all s Waiting k = tt
caught_ends q d x later l all s Stopped k = tt
caught_ends q d x later l all s Stuck k = tt
caught_ends q d x later l all s Clash k = tt
caught_ends q d x later l all s NoFuel k = tt
caught_ends q d x later l all s Over k = tt

pub in_first : (of : CsStmtTree → List ℕ) (a b : CsStmtTree) → Within (gathered of a) (gathered of a ++ gathered of b)
in_first of a b y h = Contains-append_left (gathered of a) (gathered of b) y h

pub in_second : (of : CsStmtTree → List ℕ) (a b : CsStmtTree) → Within (gathered of b) (gathered of a ++ gathered of b)
in_second of a b y h = Contains-append_right (gathered of a) (gathered of b) y h

pub in_item : (of : CsStmtTree → List ℕ) (item : CsStmtTree) (rest : CsStmtTrees) → Within (gathered of item) (gathered of item ++ gathered_in of rest)
in_item of item rest y h = Contains-append_left (gathered of item) (gathered_in of rest) y h

pub in_rest : (of : CsStmtTree → List ℕ) (item : CsStmtTree) (rest : CsStmtTrees) → Within (gathered_in of rest) (gathered of item ++ gathered_in of rest)
in_rest of item rest y h = Contains-append_right (gathered of item) (gathered_in of rest) y h

module _ (q : CsProgramTree) (d x : ℕ) (over : ℕ → Bool) (later : Later) (l : LaterEnds q d x later) where
  function_case : (c : CsCallTree) (s : State) (o : Option CsFunctionTree) → slice_get q.functions c.function ≡ o
      → Ends q d x (Own c) (c.function ∷ []) s (or_stuck o (λ function. or_stuck (pass c.args function.params s) (λ t. at_call c (later.statement Anew function.body t))))
  function_case c s None e = tt
  function_case c s (Some function) e =
      pass_case q d x c function e s later (pass c.args function.params s) refl (λ t. l.statement Anew function.body t)

  mutual
    pub level_ends : (how : How) (a : CsStmtTree) (s : State) → Ends q d x (gathered temps_of a) (gathered calls_of a) s (level over q later how a s)
    level_ends how Nothing s = left_self q d x _ _ s
    level_ends how (Set k e) s = put_ends q d x [] s k (value_of e s)
    level_ends how (Load k ty e) s = put_ends q d x [] s k _
    level_ends how (Store ty e f) s = memory_ends q d x [] [] s _ (both_kept s.memory (stored_at s.memory ty) (value_of e s) (value_of f s) (stored_kept s.memory ty))
    level_ends how (CopyBytes n to from) s =
        memory_ends q d x [] [] s _ (both_kept s.memory (λ v u. copied_at s.memory v u n) (value_of to s) (value_of from s) (λ v u. copied_kept s.memory v u n))
    level_ends how (Undefine y) s = memory_ends q d x [] [] s _ (undefined_kept s.memory y (place_of s.memory y) refl)
    level_ends how (Checked c) s = told_ends q d x [] [] s _ c.pos
    level_ends how (Input k t) s = input_ends q d x [] s k t s.inputs
    level_ends how (Assume e) s = stuck_ends {A = Value} q d x [] [] s (value_of e s) _ (λ v. if_ends q d x [] [] s (truth v) _ _ (left_self q d x [] [] s) tt)
    level_ends how (Sequence a b) s =
        then_ends q d x _ _ s _ _ (ends_wider q d x _ _ _ _ (in_first temps_of a b) (in_first calls_of a b) s _ (level_ends Anew a s))
        (λ t. ends_wider q d x _ _ _ _ (in_second temps_of a b) (in_second calls_of a b) t _ (level_ends Anew b t))
    level_ends how (If e a b) s = stuck_ends {A = Value} q d x _ _ s (value_of e s) _ (λ v. if_ends q d x _ _ s (truth v) _ _
        (ends_wider q d x _ _ _ _ (in_first temps_of a b) (in_first calls_of a b) s _ (level_ends Anew a s))
        (ends_wider q d x _ _ _ _ (in_second temps_of a b) (in_second calls_of a b) s _ (level_ends Anew b s)))
    level_ends how (Loop at a) s = if_ends q d x _ _ s (over (turns_of how)) _ _ tt
        (then_ends q d x _ _ s _ _ (level_ends Anew a s) (λ t. l.statement (Turn (suc (turns_of how))) (Loop at a) t))
    level_ends how (Block a) s = block_ends q d x _ _ s _ (level_ends Anew a s)
    level_ends how (Exit n) s = left_self q d x _ _ s
    level_ends how (Scope xs all) s = within_ends q d x _ _ xs s _ (λ t. caught_ends q d x later l all t _ (items_end None all t))
    level_ends how (Switch e xs all) s = stuck_ends {A = Value} q d x _ _ s (value_of e s) _ (λ v. chosen_ends q d x _ _ s (chosen v all) _
        (λ mark. within_ends q d x _ _ xs s _ (λ t. caught_ends q d x later l all t _ (items_end (Some mark) all t))))
    level_ends how (Goto label) s = left_self q d x _ _ s
    level_ends how (Call c) s = function_case c s (slice_get q.functions c.function) refl
    level_ends how (Return None) s = left_self q d x _ _ s
    level_ends how (Return (Some e)) s = stuck_ends {A = Value} q d x [] [] s (value_of e s) _ (λ v. left_self q d x [] [] s)
    level_ends how (Label at n) s = left_self q d x _ _ s
    level_ends how (Case n) s = left_self q d x _ _ s
    level_ends how Default s = left_self q d x _ _ s

    pub items_end : (from : Option Mark) (all : CsStmtTrees) (s : State)
        → Ends q d x (gathered_in temps_of all) (gathered_in calls_of all) s (items over q later from all s)
    items_end None none s = left_self q d x _ _ s
    items_end (Some mark) none s = left_self q d x _ _ s
    items_end None (more item rest) s =
        then_ends q d x _ _ s _ _ (ends_wider q d x _ _ _ _ (in_item temps_of item rest) (in_item calls_of item rest) s _ (level_ends Anew item s))
        (λ t. ends_wider q d x _ _ _ _ (in_rest temps_of item rest) (in_rest calls_of item rest) t _ (items_end None rest t))
    items_end (Some mark) (more item rest) s =
        ends_wider q d x _ _ _ _ (in_rest temps_of item rest) (in_rest calls_of item rest) s _ (items_end (if is_mark mark item then None else Some mark) rest s)

pub later_ends : (q : CsProgramTree) (d x : ℕ) (over : ℕ → Bool) (n : ℕ) → LaterEnds q d x (later_by over q n)
later_ends q d x over zero = record { statement = λ how a s. tt; items = λ mark all s. tt }
later_ends q d x over (suc n) = record {
  statement = λ how a s. level_ends q d x over (later_by over q n) (later_ends q d x over n) how a s;
  items = λ mark all s. caught_ends q d x (later_by over q n) (later_ends q d x over n) all s _
      (items_end q d x over (later_by over q n) (later_ends q d x over n) (Some mark) all s);
}

-- at the state behind a statement
behind : (q : CsProgramTree) (d x : ℕ) (ts cs : List ℕ) (s t : State) (o : Outcome) → Ends q d x ts cs s o → IsBehind o t → Left q d x ts cs s t
behind q d x ts cs s t (Normal u) k e = subst (λ z. Left q d x ts cs s z) e k
behind q d x ts cs s t (Leaves way u) k e = subst (λ z. Left q d x ts cs s z) e k
behind q d x ts cs s t (Fails chain at kind operand m) k e = absurd e
behind q d x ts cs s t Waiting k e = absurd e
behind q d x ts cs s t Stopped k e = absurd e
behind q d x ts cs s t Stuck k e = absurd e
behind q d x ts cs s t Clash k e = absurd e
behind q d x ts cs s t NoFuel k e = absurd e
behind q d x ts cs s t Over k e = absurd e

left : (q : CsProgramTree) (d x : ℕ) (over : ℕ → Bool) (fuel : ℕ) (a : CsStmtTree) (s t : State) → IsBehind (bounded_exec over q fuel a s) t
    → Left q d x (gathered temps_of a) (gathered calls_of a) s t
left q d x over fuel a s t e =
    behind q d x _ _ s t _ (level_ends q d x over (later_by over q fuel) (later_ends q d x over fuel) Anew a s) e

pub temps_stay : TempsStay
temps_stay over q fuel a s t d e not_set = (left q d 0 over fuel a s t e).temp not_set

pub places_stay : PlacesStay
places_stay over q fuel a s t x e = (left q 0 x over fuel a s t e).place
