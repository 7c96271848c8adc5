-- The laws of the start and of actions, as they are stated.
use Rattle.std.proofs.Common.{Option, None, Some}
use Rattle.std.specs.Prelude.{IfSome}
use Rattle.csharp.specs.Trees.{CsProgramTree}
use Rattle.csharp.specs.States.{State, first}
use Rattle.csharp.specs.Actions.{set, load, store, copy_bytes, undefine, input, enter, leave, given_to, pass}
use Rattle.csharp_typed_laws.specs.Kept.{CopyKeeps, EnterKeeps, FirstStatesAreTyped, GiveKeeps, InputKeeps, LeadsToTyped, LeaveKeeps, LoadKeeps, PassKeeps, SetKeeps, StoreKeeps, UndefineKeeps, ValuesAreTyped}
use Rattle.csharp_typed_laws.proofs.Actions.{Typed, copy_typed, ended_typed, enter_typed, given_typed, input_typed, leave_typed, load_typed, pass_typed, set_typed, store_typed, undefine_typed, value_is}
use Rattle.csharp_typed_laws.proofs.Starts.{first_typed}
use Rattle.csharp_typed_laws.proofs.Stays.{state_of, typed_of}

pub first_is_typed : FirstStatesAreTyped
first_is_typed q inputs formed bits = state_of ⊥ q (first q inputs) (first_typed q inputs formed.objects.initial bits)

pub values_are_typed : ValuesAreTyped
values_are_typed q s ty e v h typed has is = value_is ⊥ q s ty e v (typed_of q s h) typed has is

leads : (q : CsProgramTree) (o : Option State) → IfSome o (Typed ⊥ q) → LeadsToTyped q o
leads q None h = tt
leads q (Some t) h = state_of ⊥ q t h

pub set_keeps : SetKeeps
set_keeps q s d e h typed = leads q (set d e s) (set_typed ⊥ q s d e (typed_of q s h) typed)

pub load_keeps : LoadKeeps
load_keeps q s d ty e h typed = leads q (load d ty e s) (load_typed ⊥ q s d ty e (typed_of q s h) typed)

pub store_keeps : StoreKeeps
store_keeps q s ty e f h typed = leads q (store ty e f s) (store_typed ⊥ q s ty e f (typed_of q s h) typed)

pub copy_keeps : CopyKeeps
copy_keeps q s n to from h typed = leads q (copy_bytes n to from s) (copy_typed ⊥ q s n to from (typed_of q s h) typed)

pub undefine_keeps : UndefineKeeps
undefine_keeps q s x h = leads q (undefine x s) (undefine_typed ⊥ q s x (typed_of q s h))

pub input_keeps : InputKeeps
input_keeps q s d t h typed = leads q (input d t s) (input_typed ⊥ q s d t (typed_of q s h) typed)

pub enter_keeps : EnterKeeps
enter_keeps q s xs h there free = state_of ⊥ q (enter q.objects xs s) (enter_typed ⊥ q s xs (typed_of q s h) there free)

pub leave_keeps : LeaveKeeps
leave_keeps q s xs h = state_of ⊥ q (leave xs s) (leave_typed ⊥ q s xs (typed_of q s h))

pub pass_keeps : PassKeeps
pass_keeps q s args params h typed fit = leads q (pass args params s) (pass_typed ⊥ q s args params (typed_of q s h) typed fit)

pub give_keeps : GiveKeeps
give_keeps q s c f v h call = (
  state_of ⊥ q (given_to c None s) (ended_typed ⊥ q s c f (typed_of q s h) call),
  λ fits. state_of ⊥ q (given_to c (Some v) s) (given_typed ⊥ q s c f v (typed_of q s h) call fits),
)
