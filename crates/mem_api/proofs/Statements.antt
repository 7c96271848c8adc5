-- Each statement that changes memory leaves a state whose blocks are those of objects.
use Rattle.std.proofs.Common.{◌≡◌, ℕ, refl, subst, Option, Some, None}
use Rattle.std.specs.Prelude.{option_map, option_and_then}
use Rattle.std.proofs.lemmas.Option.{option_and_then_some}
use Rattle.block_mem.specs.declared.types.Scalar.{Scalar}
use Rattle.c_values.specs.Places.{ObjectMemory}
use Rattle.c_objects.specs.Opening.{undefined}
use Rattle.c_objects.specs.Writing.{stored_at, copied_at}
use Rattle.csharp.specs.Trees.{CsExprTree}
use Rattle.csharp.specs.States.{State, value_of, on_both}
use Rattle.csharp.specs.Actions as acts
use Rattle.mem_api.specs.Owned.{IsOwned}
use Rattle.mem_api.proofs.Owning.{owned_stored, owned_copied, owned_undefined}

-- with another memory
changed : (count : ℕ) (s t : State) (o : Option ObjectMemory) → ((n : ObjectMemory) → o ≡ Some n → IsOwned count n)
    → option_map (λ memory. record s { memory = memory }) o ≡ Some t → IsOwned count t.memory
changed count s t None owned h = absurd (cc)
changed count s t (Some n) owned h =
    let same : record s { memory = n } ≡ t = cc in subst (λ (x : State). IsOwned count x.memory) same (owned n refl)

module _ (count : ℕ) (s t : State) (k : IsOwned count s.memory) where
  pub store_owned : (ty : Scalar) (e f : CsExprTree) → acts.store ty e f s ≡ Some t → IsOwned count t.memory
  store_owned ty e f = changed count s t (on_both e f s (stored_at s.memory ty)) (λ n h.
      option_and_then_some (λ v. option_and_then (stored_at s.memory ty v) (value_of f s)) (value_of e s) n h (λ v i g.
      option_and_then_some (stored_at s.memory ty v) (value_of f s) n g (λ u j w. owned_stored count s.memory ty v u n k w)))

  pub copy_owned : (size : ℕ) (to from : CsExprTree) → acts.copy_bytes size to from s ≡ Some t → IsOwned count t.memory
  copy_owned size to from = changed count s t (on_both to from s (λ v u. copied_at s.memory v u size)) (λ n h.
      option_and_then_some (λ v. option_and_then (λ u. copied_at s.memory v u size) (value_of from s)) (value_of to s) n h (λ v i g.
      option_and_then_some (λ u. copied_at s.memory v u size) (value_of from s) n g (λ u j w. owned_copied count s.memory v u size n k w)))

  pub undefine_owned : (x : ℕ) → acts.undefine x s ≡ Some t → IsOwned count t.memory
  undefine_owned x = changed count s t (undefined s.memory x) (λ n h. owned_undefined count s.memory x n k h)
