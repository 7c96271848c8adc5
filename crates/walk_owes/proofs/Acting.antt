-- Statements that act at once, from sets of typed states.
use Rattle.std.proofs.Common.{◌≡◌, ℕ, pos, List, [], ◌∷◌, Option, Some, None, Bool, refl, subst, ap}
use Rattle.std.specs.Prelude.{IfSome, option_map}
use Rattle.c_syntax_written.specs.declared.int_type.IntType.TheVariants as ints
use Rattle.c_syntax.specs.declared.alarm.Alarm.{Alarm}
use Rattle.block_mem.specs.declared.types.Value.{Value}
use Rattle.block_mem.specs.declared.types.Value.TheVariants as values
use Rattle.csharp.specs.declared.expression.CsExpr.{CsExpr}
use Rattle.csharp.specs.Trees.{CsExprTree, Const, CsStmtTree, CsProgramTree, Return, Set, csexpr_tree}
use Rattle.csharp.specs.States.{State, value_of}
use Rattle.csharp.specs.Actions.{pass, put, put_into}
use Rattle.csharp.specs.Outcomes.{ByReturn, Leaves, or_stuck, or_waits, to_normal}
use Rattle.csharp.specs.Meaning.{bounded_exec}
use Rattle.csharp_typed_laws.specs.Kept.{SetKeeps}
use Rattle.csharp_typed_laws.specs.TypedStates.{IsTypedState}
use Rattle.mem_api.specs.Given.{IsOf}
use Rattle.walk_owes.specs.declared.way.Kept.{Kept}
use Rattle.walk_owes.specs.declared.way.Target.{Target}
use Rattle.walk_owes.specs.declared.way.Way.TheVariants as ways
use Rattle.walk_owes.specs.Owes.{Covered, HasTyped, KeepsState, Sound, returned}
use Rattle.walk_owes.specs.Walkable.{AreArgsReady, IsGivenTo, IsTarget}
use Rattle.walk_owes.proofs.Passing.{no_args, no_params, put_first}
use Rattle.walk_owes.proofs.Steps.{acts_sound, waits_sound}

pub some_is : {A : Type 0} (P : A → Type 0) (o : Option A) (a : A) → IfSome o P → o ≡ Some a → P a
some_is P o a h e = rw e at h

module _ {M : Type 0} (stands : M → State → Type 0) (q : CsProgramTree) (to : Target) (a : CsStmtTree) (act : State → Option State) (before after : M)
    (kept : List (Kept M)) (out : List Alarm) where
  -- an action that keeps states typed
  pub acts_typed : ((over : ℕ → Bool) (n : ℕ) (s : State) → bounded_exec over q n a s ≡ to_normal (act s))
      → ((s t : State) → stands before s → act s ≡ Some t → stands after t) → ((s : State) → IsTypedState q s → IfSome (act s) (IsTypedState q))
      → Sound (HasTyped stands q) q to a (Some before) (Some after) kept out
  acts_typed e f k =
      acts_sound (HasTyped stands q) q to a act before after kept out e (λ s t h i. (f s t h.0 i, some_is (IsTypedState q) (act s) t (k s h.1) i))

  pub waits_typed : ((over : ℕ → Bool) (n : ℕ) (s : State) → bounded_exec over q n a s ≡ or_waits (act s))
      → ((s t : State) → stands before s → act s ≡ Some t → stands after t) → ((s : State) → IsTypedState q s → IfSome (act s) (IsTypedState q))
      → Sound (HasTyped stands q) q to a (Some before) (Some after) kept out
  waits_typed e f k =
      waits_sound (HasTyped stands q) q to a act before after kept out e (λ s t h i. (f s t h.0 i, some_is (IsTypedState q) (act s) t (k s h.1) i))

-- ---- what calls take and give

module _ (sets : SetKeeps) (q : CsProgramTree) where
  pub put_typed : (s : State) (d : ℕ) (e : CsExprTree) (v : Value) → IsTypedState q s → IsOf q (Set d e) → value_of e s ≡ Some v → IsTypedState q (put s d v)
  put_typed s d e v t h i = some_is (IsTypedState q) (option_map (put s d) (value_of e s)) (put s d v) (sets q s d e t h.typed) (ap (option_map (put s d)) i)

  into_typed : (to : Option ℕ) (s : State) (e : CsExprTree) (v : Value) → IsTypedState q s → IfSome to (λ d. IsOf q (Set d e)) → value_of e s ≡ Some v
      → IsTypedState q (put_into to v s)
  into_typed None s e v t h i = t
  into_typed (Some d) s e v t h i = put_typed s d e v t h i

  zero_typed : (to : Option ℕ) (s : State) → IsTypedState q s
      → IfSome to (λ d. IsOf q (Set d (Const ints.Int (pos 0))) × IsOf q (Set d (Const ints.Int (pos 1)))) → IsTypedState q (put_into to (values.Int ints.Int (pos 0)) s)
  zero_typed None s t h = t
  zero_typed (Some d) s t h = put_typed s d (Const ints.Int (pos 0)) (values.Int ints.Int (pos 0)) t h.0 refl

  one_typed : (to : Option ℕ) (s : State) → IsTypedState q s
      → IfSome to (λ d. IsOf q (Set d (Const ints.Int (pos 0))) × IsOf q (Set d (Const ints.Int (pos 1)))) → IsTypedState q (put_into to (values.Int ints.Int (pos 1)) s)
  one_typed None s t h = t
  one_typed (Some d) s t h = put_typed s d (Const ints.Int (pos 1)) (values.Int ints.Int (pos 1)) t h.1 refl

  -- what a call leaves in its temporaries is typed
  pub none_typed : (to : Target) (s : State) → IsTarget q to → IsTypedState q s → IsTypedState q (returned to None s)
  none_typed to s h t = zero_typed to.flag s t h

  pub value_typed : (to : Target) (s : State) (e : CsExprTree) (v : Value) → IsTarget q to → IsGivenTo q to (Some e) → value_of e s ≡ Some v → IsTypedState q s
      → IsTypedState q (returned to (Some v) s)
  value_typed to s e v h g i t = one_typed to.flag (put_into to.value v s) (into_typed to.value s e v t g i) h

  -- and so is the state in which a body begins
  pub pass_typed : (es : List CsExprTree) (ds : List ℕ) (s t : State) → AreArgsReady q es ds → IsTypedState q s → pass es ds s ≡ Some t → IsTypedState q t
  pass_typed [] ds s t h k p = subst (IsTypedState q) (no_args ds s t p) k
  pass_typed (e ∷ es) [] s t h k p = subst (IsTypedState q) (no_params (e ∷ es) s t p) k
  pass_typed (e ∷ es) (d ∷ ds) s t h k p =
      let f = put_first e es d ds s t h.1 p in
      pass_typed es ds (put s d f.value) t h.2 (put_typed s d e f.value k h.0 f.has) f.rest

-- ---- returns

module _ {M : Type 0} (stands : M → State → Type 0) (q : CsProgramTree) (to : Target) (before : M) (kept : List (Kept M)) (out : List Alarm) where
  covered_value : (o : Option Value) (s : State) → ((v : Value) → o ≡ Some v → KeepsState stands kept ways.Return (returned to (Some v) s))
      → Covered stands q to None kept out (or_stuck o (λ v. Leaves (ByReturn (Some v)) s))
  covered_value None s f = tt
  covered_value (Some v) s f = f v refl

  pub return_sound : (o : Option CsExpr) → ((s : State) → o ≡ None → stands before s → KeepsState stands kept ways.Return (returned to None s))
      → ((e : CsExpr) (s : State) (v : Value) → o ≡ Some e → stands before s → value_of (csexpr_tree e) s ≡ Some v
      → KeepsState stands kept ways.Return (returned to (Some v) s))
      → Sound stands q to (Return (option_map csexpr_tree o)) (Some before) None kept out
  return_sound None f g = record { by = λ over n s h. f s refl h }
  return_sound (Some e) f g = record { by = λ over n s h. covered_value (value_of (csexpr_tree e) s) s (λ v i. g e s v refl h i) }
