-- Exact walks of statements that act at once, from sets of typed states.
use Rattle.std.proofs.Common.{◌≡◌, ℕ, List, [], Option, Some, None, Bool, refl, sym, subst}
use Rattle.std.specs.Prelude.{IfSome, option_map}
use Rattle.c_syntax_written.specs.declared.int_type.IntType.{IntType}
use Rattle.c_syntax.specs.declared.alarm.Alarm.{Alarm}
use Rattle.block_mem.specs.declared.types.Value.{Value}
use Rattle.csharp.specs.declared.expression.CsExpr.{CsExpr}
use Rattle.csharp.specs.Trees.{CsStmtTree, CsProgramTree, Input, Return, csexpr_tree}
use Rattle.csharp.specs.States.{State, value_of}
use Rattle.csharp.specs.Actions.{input}
use Rattle.csharp.specs.Outcomes.{ByReturn, Leaves, or_stuck, or_waits, to_normal}
use Rattle.csharp.specs.Meaning.{bounded_exec}
use Rattle.csharp_typed_laws.specs.TypedStates.{IsTypedState}
use Rattle.walk_owes.specs.declared.way.Kept.{Kept}
use Rattle.walk_owes.specs.declared.way.Target.{Target}
use Rattle.walk_owes.specs.declared.way.Way.TheVariants as ways
use Rattle.walk_owes.specs.Owes.{HasTyped, returned}
use Rattle.walk_owes.specs.Exactly.{Exact, Exactly, KeptAlone}
use Rattle.walk_owes.proofs.Acting.{some_is}
use Rattle.walk_owes.proofs.Exactly.{acts_exact}

module _ {M : Type 0} (sharp : M → State → Type 0) (over : ℕ → Bool) (q : CsProgramTree) (to : Target) where
  -- an action that keeps states typed
  pub acts_exact_typed : (a : CsStmtTree) (act : State → Option State) (before after : M) (kept : List (Kept M)) (out : List Alarm)
      → ((n : ℕ) (s : State) → bounded_exec over q n a s ≡ to_normal (act s))
      → ((s t : State) → sharp before s → act s ≡ Some t → sharp after t) → ((s : State) → IsTypedState q s → IfSome (act s) (IsTypedState q))
      → Exact (HasTyped sharp q) over q to a (Some before) (Some after) kept out kept out
  acts_exact_typed a act before after kept out e f k =
      acts_exact (HasTyped sharp q) q to over a act before after kept out e (λ s t h i. (f s t h.0 i, some_is (IsTypedState q) (act s) t (k s h.1) i))

  no_input : (d : ℕ) (t : IntType) (s : State) → s.inputs ≡ [] → input d t s ≡ None
  no_input d t s e = rw e refl

  -- no input is left
  pub input_exact : (d : ℕ) (t : IntType) (before after : M) (kept : List (Kept M)) (out : List Alarm) → ((s : State) → sharp before s → s.inputs ≡ [])
      → Exact (HasTyped sharp q) over q to (Input d t) (Some before) (Some after) kept out kept out
  input_exact d t before after kept out f = record {
    by = λ b l n s h i j. subst (λ o. Exactly (HasTyped sharp q) q to (Some after) kept out (or_waits o)) (sym (no_input d t s (f s h.0))) tt;
  }

  value_case : (o : Option Value) (s : State) (more : List (Kept M)) (out : List Alarm) → out ≡ []
      → ((v : Value) → o ≡ Some v → KeptAlone sharp more ways.Return (returned to (Some v) s))
      → Exactly sharp q to None more out (or_stuck o (λ v. Leaves (ByReturn (Some v)) s))
  value_case None s more out j f = tt
  value_case (Some v) s more out j f = (refl, f v refl, j)

  pub return_exact : (o : Option CsExpr) (before : M) (kept more : List (Kept M)) (out : List Alarm)
      → ((s : State) → o ≡ None → sharp before s → kept ≡ [] → KeptAlone sharp more ways.Return (returned to None s))
      → ((e : CsExpr) (s : State) (v : Value) → o ≡ Some e → sharp before s → kept ≡ [] → value_of (csexpr_tree e) s ≡ Some v
      → KeptAlone sharp more ways.Return (returned to (Some v) s))
      → Exact sharp over q to (Return (option_map csexpr_tree o)) (Some before) None kept out more out
  return_exact None before kept more out f g = record { by = λ b l n s h i j. (refl, f s refl h i, j) }
  return_exact (Some e) before kept more out f g = record {
    by = λ b l n s h i j. value_case (value_of (csexpr_tree e) s) s more out j (λ v k. g e s v refl h i k);
  }
