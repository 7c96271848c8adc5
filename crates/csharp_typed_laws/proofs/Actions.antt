-- Each action of a typed statement leads from a typed state to a typed one.
use Rattle.std.proofs.Common.{◌≡◌, ◌⊎◌, inl, inr, ℕ, zero, suc, ◌<◌, ◌≤◌, ℤ, pos, true, List, [], ◌∷◌, length, length-set, Option, Some, None, Ok, Err, Result, refl, sym, ap, ◌∙◌, subst, arith}
use Rattle.std.specs.Prelude.{All, IfSome, IsSomeAnd, option_and_then, option_map, slice_get, slice_set}
use Rattle.std.proofs.lemmas.Bool.{cases_eq}
use Rattle.std.proofs.lemmas.Int.{ints as int_facts}
use Rattle.std.proofs.lemmas.List.Elements.{All-head, All-tail}
use Rattle.c_syntax_written.specs.declared.int_type.IntType.{IntType}
use Rattle.c_syntax_written.specs.declared.int_type.IntType.TheVariants as ints
use Rattle.c_syntax_written.specs.Integer.{wrapped}
use Rattle.block_mem.specs.declared.types.Scalar.{Scalar}
use Rattle.block_mem.specs.declared.types.Scalar.TheVariants as scalars
use Rattle.block_mem.specs.declared.types.Value.{Value}
use Rattle.block_mem.specs.declared.types.Value.TheVariants as values
use Rattle.block_mem.specs.Blocks as blocks
use Rattle.c_values.specs.Accesses.{ok_of}
use Rattle.c_values.specs.Places.{ObjectMemory}
use Rattle.c_values.proofs.Settled.{wrapped_is_of}
use Rattle.c_objects.specs.Opening.{open_all, shut_all, undefined}
use Rattle.c_objects.specs.Writing.{copied_at, stored_at}
use Rattle.c_objects.proofs.Keeping.{Keeps}
use Rattle.c_objects.proofs.Writes.{keeps_copied, keeps_stored, keeps_undefined}
use Rattle.c_steps_laws.proofs.Loads.{loaded_is}
use Rattle.csharp.specs.Trees.{CsExprTree, CsCallTree, CsFunctionTree, CsProgramTree, Set, Load, Store, CopyBytes, Input}
use Rattle.csharp.specs.States.{State, value_of}
use Rattle.csharp.specs.Actions.{put, with_memory, set, loaded_at, load, store, copy_bytes, undefine, input, enter, leave, are_free, put_into, given_to, args_from, pass}
use Rattle.csharp.specs.Formed.{AreOperandsTyped, ArgsFit, HasType, HoldsType, IsCallTyped, IsTyped}
use Rattle.csharp_typed_laws.specs.TypedStates.{AreTempsTyped, FitsInto, IsTypedValue}
use Rattle.csharp_typed_laws.proofs.Memories.{copied_count, keeps_open_all, keeps_shut_all, opened_count, shut_count, stored_count, undefined_count}
use Rattle.csharp_typed_laws.proofs.Values.{bound, value_typed}

-- ---- temporaries

pub more_made : (n k : ℕ) (ty : Scalar) (v : Value) → n ≤ k → IsTypedValue n ty v → IsTypedValue k ty v
more_made n k ty (values.Int t z) h i = record { typed = i.typed; of_made = tt }
more_made n k ty (values.Ptr p) h i = let made = i.of_made in record { typed = i.typed; of_made = omega (arith, h, made) }
more_made n k ty values.Null h i = record { typed = i.typed; of_made = tt }

some_more : {A : Type 0} (P Q : A → Type 0) (o : Option A) → ((a : A) → P a → Q a) → IsSomeAnd o P → IsSomeAnd o Q
some_more P Q None f h = h
some_more P Q (Some a) f h = f a h

pub temps_more : (types : List Scalar) (n k : ℕ) (temps : List Value) → n ≤ k → AreTempsTyped types n temps → AreTempsTyped types k temps
temps_more types n k temps h i d ty e = some_more (IsTypedValue n ty) (IsTypedValue k ty) (slice_get temps d) (λ v. more_made n k ty v h) (i d ty e)

put_there : (P : Value → Type 0) (temps : List Value) (d : ℕ) (v : Value) → IsSomeAnd (slice_get temps d) (λ u. Unit {0}) → P v
    → IsSomeAnd (slice_get (slice_set temps d v) d) P
put_there P [] d v h p = absurd h
put_there P (u ∷ us) zero v h p = p
put_there P (u ∷ us) (suc d) v h p = put_there P us d v h p

put_elsewhere : (temps : List Value) (d k : ℕ) (v : Value) → (k ≡ d → ⊥) → slice_get (slice_set temps d v) k ≡ slice_get temps k
put_elsewhere [] d k v other = refl
put_elsewhere (u ∷ us) zero zero v other = absurd (other refl)
put_elsewhere (u ∷ us) zero (suc k) v other = refl
put_elsewhere (u ∷ us) (suc d) zero v other = refl
put_elsewhere (u ∷ us) (suc d) (suc k) v other = put_elsewhere us d k v (λ e. other (ap suc e))

module _ (types : List Scalar) (n : ℕ) (temps : List Value) (d : ℕ) (ty : Scalar) (v : Value) (typed : AreTempsTyped types n temps)
    (holds : slice_get types d ≡ Some ty) (is : IsTypedValue n ty v) where
  put_case : (k : ℕ) (other : Scalar) → slice_get types k ≡ Some other → (k ≡ d) ⊎ (k ≡ d → ⊥)
      → IsSomeAnd (slice_get (slice_set temps d v) k) (IsTypedValue n other)
  put_case k other e (inl same) =
      let one : ◌≡◌ {A = Option Scalar} (Some ty) (Some other) = sym holds ∙ ap (slice_get types) (sym same) ∙ e in
      let type_is : ty ≡ other = cc in
      let there = some_more (IsTypedValue n ty) (λ u. Unit {0}) (slice_get temps d) (λ u h. tt) (typed d ty holds) in
      subst (λ i. IsSomeAnd (slice_get (slice_set temps d v) i) (IsTypedValue n other)) (sym same)
      (put_there (IsTypedValue n other) temps d v there (subst (λ u. IsTypedValue n u v) type_is is))
  put_case k other e (inr apart) = subst (λ o. IsSomeAnd o (IsTypedValue n other)) (sym (put_elsewhere temps d k v apart)) (typed k other e)

  pub temps_put : AreTempsTyped types n (slice_set temps d v)
  temps_put k other e = put_case k other e (cases_eq k d)

-- ---- states

-- a typed state, whose pointers are whole under a premise
pub record Typed (W : Type 0) (q : CsProgramTree) (s : State) : Type 0 where
  pub count : length s.temps ≡ length q.temps
  pub temps : AreTempsTyped q.temps (length s.memory.blocks) s.temps
  pub memory : Keeps W q.objects s.memory

loaded_of : {A B : Type 0} (r : Result A B) (a : A) → ok_of r ≡ Some a → r ≡ Ok a
loaded_of (Ok b) a e = let same : b ≡ a = cc in ap (λ x. Ok x) same
loaded_of (Err b) a e = absurd (cc)

module _ (W : Type 0) (q : CsProgramTree) where
  abbrev Blocks : State → ℕ
  Blocks s = length s.memory.blocks

  pub value_is : (s : State) (ty : Scalar) (e : CsExprTree) (v : Value) → Typed W q s → AreOperandsTyped q e → HasType q ty e → value_of e s ≡ Some v
      → IsTypedValue (length s.memory.blocks) ty v
  value_is s ty e v k typed is h = value_typed W q s k.temps k.memory e ty v typed is h

  pub put_typed : (s : State) (d : ℕ) (ty : Scalar) (v : Value) → Typed W q s → HoldsType q ty d → IsTypedValue (length s.memory.blocks) ty v
      → Typed W q (put s d v)
  put_typed s d ty v k holds is = record {
    count = length-set s.temps d v ∙ k.count;
    temps = temps_put q.temps (length s.memory.blocks) s.temps d ty v k.temps holds is;
    memory = k.memory;
  }

  pub with_typed : (s : State) (m : ObjectMemory) → Typed W q s → Keeps W q.objects m → length s.memory.blocks ≤ length m.blocks
      → Typed W q (record s { memory = m })
  with_typed s m k keeps more =
      record { count = k.count; temps = temps_more q.temps (length s.memory.blocks) (length m.blocks) s.temps more k.temps; memory = keeps }

  -- ---- actions

  put_some : (s : State) (d : ℕ) (ty : Scalar) (o : Option Value) → Typed W q s → HoldsType q ty d
      → ((v : Value) → o ≡ Some v → IsTypedValue (length s.memory.blocks) ty v) → IfSome (option_map (put s d) o) (Typed W q)
  put_some s d ty None k holds h = tt
  put_some s d ty (Some v) k holds h = put_typed s d ty v k holds (h v refl)

  pub set_typed : (s : State) (d : ℕ) (e : CsExprTree) → Typed W q s → IsTyped q (Set d e) → IfSome (set d e s) (Typed W q)
  set_typed s d e k (operands, (ty, is, holds)) =
      put_some s d ty (value_of e s) k holds (λ v h. value_is s ty e v k (All-head (AreOperandsTyped q) e [] operands) is h)

  loaded_typed : (m : ObjectMemory) (ty : Scalar) (place v : Value) → Keeps W q.objects m → loaded_at m ty place ≡ Some v → IsTypedValue (length m.blocks) ty v
  loaded_typed m ty (values.Ptr p) v keeps e =
      let has = loaded_is m.blocks p ty v keeps.proper (loaded_of (blocks.load m.blocks p ty) v e) in record { typed = has.typed; of_made = has.made }
  loaded_typed m ty (values.Int t z) v keeps e = absurd (cc)
  loaded_typed m ty values.Null v keeps e = absurd (cc)

  pub load_typed : (s : State) (d : ℕ) (ty : Scalar) (e : CsExprTree) → Typed W q s → IsTyped q (Load d ty e) → IfSome (load d ty e s) (Typed W q)
  load_typed s d ty e k (operands, (is, holds)) =
      put_some s d ty (option_and_then (loaded_at s.memory ty) (value_of e s)) k holds (λ v h.
      let one = bound (loaded_at s.memory ty) (value_of e s) v h in loaded_typed s.memory ty one.0 v k.memory one.2)

  with_some : (s : State) (o : Option ObjectMemory) → Typed W q s → ((m : ObjectMemory) → o ≡ Some m → Keeps W q.objects m × (length m.blocks ≡ Blocks s))
      → IfSome (with_memory s o) (Typed W q)
  with_some s None k h = tt
  with_some s (Some m) k h = let more = (h m refl).1 in with_typed s m k (h m refl).0 (omega (arith, more))

  pub store_typed : (s : State) (ty : Scalar) (e f : CsExprTree) → Typed W q s → IsTyped q (Store ty e f) → IfSome (store ty e f s) (Typed W q)
  store_typed s ty e f k (operands, (pointer, is)) =
      let first = All-head (AreOperandsTyped q) e (f ∷ []) operands in
      let second = All-head (AreOperandsTyped q) f [] (All-tail (AreOperandsTyped q) e (f ∷ []) operands) in
      with_some s _ k (λ m h.
      let one = bound (λ v. option_and_then (stored_at s.memory ty v) (value_of f s)) (value_of e s) m h in
      let other = bound (stored_at s.memory ty one.0) (value_of f s) m one.2 in
      let place = value_is s scalars.Pointer e one.0 k first pointer one.1 in
      let own = value_is s ty f other.0 k second is other.1 in (
        keeps_stored W q.objects s.memory k.memory ty one.0 other.0 m place.of_made own.typed own.of_made other.2,
        stored_count s.memory ty one.0 other.0 m other.2,
      ))

  pub copy_typed : (s : State) (n : ℕ) (to from : CsExprTree) → Typed W q s → IsTyped q (CopyBytes n to from) → IfSome (copy_bytes n to from s) (Typed W q)
  copy_typed s n to from k (operands, (pointer, source)) =
      let first = All-head (AreOperandsTyped q) to (from ∷ []) operands in
      with_some s _ k (λ m h.
      let one = bound (λ v. option_and_then (λ u. copied_at s.memory v u n) (value_of from s)) (value_of to s) m h in
      let other = bound (λ u. copied_at s.memory one.0 u n) (value_of from s) m one.2 in
      let place = value_is s scalars.Pointer to one.0 k first pointer one.1 in (
        keeps_copied W q.objects s.memory k.memory one.0 other.0 n m place.of_made other.2,
        copied_count s.memory one.0 other.0 n m other.2,
      ))

  pub undefine_typed : (s : State) (x : ℕ) → Typed W q s → IfSome (undefine x s) (Typed W q)
  undefine_typed s x k =
      with_some s (undefined s.memory x) k (λ m h. (keeps_undefined W q.objects s.memory k.memory x m h, undefined_count s.memory x m h))

  next_typed : (s : State) (inputs : List ℤ) (d : ℕ) (t : IntType) → Typed W q (record s { inputs = inputs }) → HoldsType q (scalars.Int t) d
      → IfSome (input d t (record s { inputs = inputs })) (Typed W q)
  next_typed s [] d t k holds = tt
  next_typed s (z ∷ rest) d t k holds =
      put_typed (record s { inputs = rest }) d (scalars.Int t) (values.Int t (wrapped t z)) (record { count = k.count; temps = k.temps; memory = k.memory }) holds
      (record { typed = (refl, wrapped_is_of t z); of_made = tt })

  pub input_typed : (s : State) (d : ℕ) (t : IntType) → Typed W q s → IsTyped q (Input d t) → IfSome (input d t s) (Typed W q)
  input_typed s d t k h = next_typed s s.inputs d t k h.1

  pub enter_typed : (s : State) (xs : List ℕ) → Typed W q s → All (λ x. x < length q.objects) xs → are_free xs s ≡ true → Typed W q (enter q.objects xs s)
  enter_typed s xs k there free =
      with_typed s (open_all q.objects s.memory xs) k (keeps_open_all W q.objects xs s k.memory there free) (opened_count q.objects xs s.memory)

  pub leave_typed : (s : State) (xs : List ℕ) → Typed W q s → Typed W q (leave xs s)
  leave_typed s xs k =
      let same = shut_count xs s.memory in
      with_typed s (shut_all s.memory xs) k (keeps_shut_all W q.objects xs s.memory k.memory) (omega (arith, same))

  -- ---- calls

  arg_case : (o : Option Value) (go : Value → Option State) → ((v : Value) → o ≡ Some v → IfSome (go v) (Typed W q)) → IfSome (option_and_then go o) (Typed W q)
  arg_case None go h = tt
  arg_case (Some v) go h = h v refl

  arg_typed : (from : State) (es : List CsExprTree) (ds : List ℕ) (s : State) → Typed W q from → Typed W q s
      → length s.memory.blocks ≡ length from.memory.blocks → All (AreOperandsTyped q) es → ArgsFit q es ds → IfSome (args_from from es ds s) (Typed W q)
  arg_typed from [] [] s kf k same typed fit = k
  arg_typed from [] (d ∷ ds) s kf k same typed fit = absurd fit
  arg_typed from (e ∷ es) [] s kf k same typed fit = absurd fit
  arg_typed from (e ∷ es) (d ∷ ds) s kf k same typed ((ty, is, holds), rest) =
      arg_case (value_of e from) (λ v. args_from from es ds (put s d v)) (λ v h.
      let own = value_is from ty e v kf (All-head (AreOperandsTyped q) e es typed) is h in
      let here : IsTypedValue (length s.memory.blocks) ty v = subst (λ n. IsTypedValue n ty v) (sym same) own in
      arg_typed from es ds (put s d v) kf (put_typed s d ty v k holds here) same (All-tail (AreOperandsTyped q) e es typed) rest)

  pub pass_typed : (s : State) (args : List CsExprTree) (params : List ℕ) → Typed W q s → All (AreOperandsTyped q) args → ArgsFit q args params
      → IfSome (pass args params s) (Typed W q)
  pass_typed s args params k typed fit = arg_typed s args params s k k refl typed fit

  flag_typed : (n : ℕ) (z : ℤ) → (z ≡ pos 0) ⊎ (z ≡ pos 1) → IsTypedValue n (scalars.Int ints.Int) (values.Int ints.Int z)
  flag_typed n z (inl e) = subst (λ k. IsTypedValue n (scalars.Int ints.Int) (values.Int ints.Int k)) (sym e) (record { typed = (refl, omega (arith, int_facts)); of_made = tt })
  flag_typed n z (inr e) = subst (λ k. IsTypedValue n (scalars.Int ints.Int) (values.Int ints.Int k)) (sym e) (record { typed = (refl, omega (arith, int_facts)); of_made = tt })

  put_flag : (s : State) (d : Option ℕ) (z : ℤ) → (z ≡ pos 0) ⊎ (z ≡ pos 1) → Typed W q s → IfSome d (HoldsType q (scalars.Int ints.Int))
      → Typed W q (put_into d (values.Int ints.Int z) s)
  put_flag s None z is k holds = k
  put_flag s (Some d) z is k holds = put_typed s d (scalars.Int ints.Int) (values.Int ints.Int z) k holds (flag_typed (length s.memory.blocks) z is)

  put_given : (s : State) (d : Option ℕ) (v : Value) → Typed W q s → FitsInto q d (length s.memory.blocks) v → Typed W q (put_into d v s)
  put_given s None v k fits = k
  put_given s (Some d) v k (ty, holds, is) = put_typed s d ty v k holds is

  pub ended_typed : (s : State) (c : CsCallTree) (f : CsFunctionTree) → Typed W q s → IsCallTyped q c f → Typed W q (given_to c None s)
  ended_typed s c f k call = put_flag s c.flag (pos 0) (inl refl) k call.flag

  pub given_typed : (s : State) (c : CsCallTree) (f : CsFunctionTree) (v : Value) → Typed W q s → IsCallTyped q c f
      → FitsInto q c.value (length s.memory.blocks) v → Typed W q (given_to c (Some v) s)
  given_typed s c f v k call fits = put_flag (put_into c.value v s) c.flag (pos 1) (inr refl) (put_given s c.value v k fits) call.flag
