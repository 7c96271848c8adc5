-- Each action leaves memory of the program's objects, in which what lives has a block that does.
use Rattle.std.proofs.Common.{◌≡◌, ℕ, ℤ, ◌<◌, refl, sym, subst, ap, ◌∙◌, List, length, Option, Some, None}
use Rattle.std.specs.Prelude.{All, IfOk, IsOkAnd, OnOk, option_and_then, Result, Ok, Err}
use Rattle.c_syntax.specs.Types.{ObjectTree}
use Rattle.block_mem.specs.declared.types.Scalar.{Scalar}
use Rattle.block_mem.specs.declared.types.Value.{Value}
use Rattle.c_values.specs.Places.{ObjectMemory}
use Rattle.c_objects.specs.Opening.{undefined}
use Rattle.c_objects.specs.Writing.{stored_at, copied_at}
use Rattle.csharp.specs.Trees.{CsExprTree, CsProgramTree}
use Rattle.csharp.specs.States.{State, first, value_of, on_both}
use Rattle.csharp.specs.Actions as acts
use Rattle.csharp.specs.Actions.{with_memory}
use Rattle.csharp_state.specs.Answers.{Took}
use Rattle.csharp_state.specs.Belongs.{Belongs, Keeps}
use Rattle.csharp_state.specs.declared.state.Step.{Step}
use Rattle.csharp_state.specs.declared.state.Step.TheVariants as steps
use Rattle.mem_api.specs.Owned.{IsOwned}
use Rattle.mem_api.proofs.Anything.{found}
use Rattle.mem_api.proofs.Owning.{owned_stored, owned_copied, owned_undefined, owned_open_all, owned_shut_all, owned_start}
use Rattle.mem_one_state.specs.One.{IsHeld, IsProgramMemory, left_by}

-- an action leaves each block to one of so many objects
abbrev pub Owns : (State → Option State) → Type 0
Owns act = (s t : State) (count : ℕ) → IsOwned count s.memory → act s ≡ Some t → IsOwned count t.memory

memory_of : (s t : State) (P : ObjectMemory → Type 0) (o : Option ObjectMemory) → ((n : ObjectMemory) → o ≡ Some n → P n) → with_memory s o ≡ Some t
    → P t.memory
memory_of s t P None each h = absurd (cc)
memory_of s t P (Some n) each h = let same : record s { memory = n } ≡ t = cc in subst (λ (u : State). P u.memory) same (each n refl)

of_both : (P : ObjectMemory → Type 0) (look : Value → Value → Option ObjectMemory) (e f : CsExprTree) (s : State)
    → ((v u : Value) (n : ObjectMemory) → look v u ≡ Some n → P n) → (n : ObjectMemory) → on_both e f s look ≡ Some n → P n
of_both P look e f s each n h = found P (λ v. option_and_then (look v) (value_of f s)) (value_of e s)
    (λ v y g. found P (look v) (value_of f s) (λ u z b. each v u z b) y g) n h

pub stores_own : (ty : Scalar) (e f : CsExprTree) → Owns (acts.store ty e f)
stores_own ty e f s t count k h = memory_of s t (IsOwned count) (on_both e f s (stored_at s.memory ty))
    (of_both (IsOwned count) (stored_at s.memory ty) e f s (λ v u n g. owned_stored count s.memory ty v u n k g)) h

pub copies_own : (many : ℕ) (e f : CsExprTree) → Owns (acts.copy_bytes many e f)
copies_own many e f s t count k h = memory_of s t (IsOwned count) (on_both e f s (λ v u. copied_at s.memory v u many))
    (of_both (IsOwned count) (λ v u. copied_at s.memory v u many) e f s (λ v u n g. owned_copied count s.memory v u many n k g)) h

pub undefines_own : (x : ℕ) → Owns (acts.undefine x)
undefines_own x s t count k h = memory_of s t (IsOwned count) (undefined s.memory x) (λ n g. owned_undefined count s.memory x n k g) h

-- ---- what is left is held

kept_held : (m n : ObjectMemory) → IsProgramMemory m → Keeps m n → ((count : ℕ) → IsOwned count m → IsOwned count n) → IsProgramMemory n
kept_held m n h keeps owned =
    let k = keeps h.0.0 h.0.1 in
    ((h.0.0, k), subst (λ c. IsOwned c n) (h.0.1.counted ∙ sym k.counted) (owned (length m.places) h.1))

pub held_left : (act : State → Option State) → Owns act → (step : Step) (t n : State) → IsProgramMemory t.memory → Took step t n (act t)
    → Keeps t.memory n.memory → IsHeld (left_by step n)
held_left act owns steps.Done t n h took keeps = kept_held t.memory n.memory h keeps (λ c k. owns t n c k took)
held_left act owns steps.Barred t n h took keeps = tt

pub held_step : {E : Type 0} (act : State → Option State) → Owns act → (t n : State) (step : Result Step E) (one : Option State) → IsProgramMemory t.memory
    → IfOk step (λ d. Took d t n (act t)) → OnOk step (Keeps t.memory n.memory) → IsOkAnd step (λ d. one ≡ left_by d n) → IsHeld one
held_step act owns t n (Ok d) one h took keeps left = subst IsHeld (sym left) (held_left act owns d t n h took keeps)
held_step act owns t n (Err x) one h took keeps left = absurd left

same_left : (step : Step) (t n : State) → IsProgramMemory t.memory → n.memory ≡ t.memory → IsHeld (left_by step n)
same_left steps.Done t n h e = subst IsProgramMemory (sym e) h
same_left steps.Barred t n h e = tt

-- an action that leaves memory alone
pub same_step : {E : Type 0} (t n : State) (step : Result Step E) (one : Option State) → IsProgramMemory t.memory → OnOk step (n.memory ≡ t.memory)
    → IsOkAnd step (λ d. one ≡ left_by d n) → IsHeld one
same_step t n (Ok d) one h e left = subst IsHeld (sym left) (same_left d t n h e)
same_step t n (Err x) one h e left = absurd left

pub entered_held : (objects : List ObjectTree) (names : List ℕ) (s n : State) → IsProgramMemory s.memory → Belongs objects s.memory
    → All (λ x. x < length objects) names → n ≡ acts.enter objects names s → Belongs objects n.memory → IsProgramMemory n.memory
entered_held objects names s n h b there e k =
    let few = subst (λ c. All (λ x. x < c) names) (sym b.counted) there in
    let owned = owned_open_all (length s.memory.places) objects s.memory names h.1 few in
    let now = subst (IsOwned (length s.memory.places)) (sym (ap (λ (u : State). u.memory) e)) owned in
    ((objects, k), subst (λ c. IsOwned c n.memory) (b.counted ∙ sym k.counted) now)

pub left_held : (names : List ℕ) (s n : State) → IsProgramMemory s.memory → n ≡ acts.leave names s → Keeps s.memory n.memory → IsProgramMemory n.memory
left_held names s n h e keeps = kept_held s.memory n.memory h keeps
    (λ c k. subst (IsOwned c) (sym (ap (λ (u : State). u.memory) e)) (owned_shut_all c s.memory names k))

pub first_held : (q : CsProgramTree) (s : State) (inputs : List ℤ) → s ≡ first q inputs → Belongs q.objects s.memory → IsProgramMemory s.memory
first_held q s inputs e k =
    let owned = subst (λ (u : State). IsOwned (length q.objects) u.memory) (sym e) (owned_start q.objects q.initial) in
    ((q.objects, k), subst (λ c. IsOwned c s.memory) (sym k.counted) owned)
