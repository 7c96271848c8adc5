-- The rows of accesses, operators and tests in a typed run.
use Rattle.std.proofs.Common.{◌≡◌, ℕ, ℤ, pos, neg_ℤ, Bool, true, false, not, List, [], ◌∷◌, length, Option, Some, None, Result, Ok, Err, refl, sym, ap, ◌∙◌, subst, arith}
use Rattle.std.specs.Prelude.{if◌then◌else◌, IsSome, slice_index_or}
use Rattle.std.proofs.lemmas.Int.{ints as numbers}
use Rattle.c_syntax_written.specs.declared.int_type.IntType.TheVariants as ints
use Rattle.c_syntax_written.specs.declared.place.Pos.{Pos}
use Rattle.c_syntax.specs.declared.alarm.Check.{Check}
use Rattle.c_syntax.specs.declared.alarm.Spot.{Spot}
use Rattle.c_syntax.specs.declared.alarm.Spot.TheVariants as spots
use Rattle.c_syntax.specs.declared.alarm.WrongKind.{WrongKind}
use Rattle.c_syntax.specs.declared.alarm.WrongKind.TheVariants.{Overflow, NullUse, Dangling, Bounds, AssertFailed}
use Rattle.c_syntax.specs.declared.operator.Extent.{Extent}
use Rattle.c_syntax.specs.declared.operator.StepTime.{StepTime}
use Rattle.c_syntax.specs.declared.operator.StepTime.TheVariants as times
use Rattle.c_syntax.specs.declared.operator.TUnaryOp.{TUnaryOp}
use Rattle.c_syntax.specs.declared.operator.TUnaryOp.TheVariants as unaries
use Rattle.c_syntax.specs.declared.operator.TBinaryOp.{TBinaryOp}
use Rattle.c_syntax.specs.Types.{CTypeTree, ObjectTree}
use Rattle.c_syntax.specs.Operand.{Operand, Number, Point}
use Rattle.c_syntax.specs.Failing.{fails}
use Rattle.c_syntax.specs.Program.{TProgramTree}
use Rattle.block_mem.specs.declared.types.Scalar.{Scalar}
use Rattle.block_mem.specs.declared.types.Scalar.TheVariants as scalars
use Rattle.block_mem.specs.declared.types.Value.{Value}
use Rattle.block_mem.specs.declared.types.Value.TheVariants as values
use Rattle.block_mem.specs.Blocks.{load}
use Rattle.block_mem.specs.Bytes.{IsOf}
use Rattle.c_values.specs.declared.values.Given.TheVariants as givens
use Rattle.c_values.specs.Accesses.{load_at, read_looks, write_looks, store_looks, test_looks, assert_looks}
use Rattle.c_values.specs.Looks.{Judged, Passes, FailsAs, NoOperand, looks, judge, outcome, Gives}
use Rattle.c_values.specs.Memory.{load_outcome}
use Rattle.c_values.specs.Operators.{unary, unary_operand, binary, member}
use Rattle.c_layout.specs.Checks.{plain_check, range_check}
use Rattle.c_syntax_written.specs.declared.int_type.IntType.{IntType}
use Rattle.c_syntax_written.specs.Integer.{HasNumber, is_signed, least, greatest, wrapped}
use Rattle.c_values.specs.Places.{ObjectMemory, spot_at}
use Rattle.c_values.specs.Typed.{IsSettled, TakesOne, binary_type, unary_type}
use Rattle.c_values.specs.Values.{converted_to, truth, bit}
use Rattle.c_values.proofs.Accesses.{loads}
use Rattle.c_values.proofs.Settled.{wrapped_is_of}
use Rattle.c_objects.specs.Writing.{copied_at}
use Rattle.c_steps.specs.Work.{Item, LoadAt, Un, Bin, Conv, Move}
use Rattle.c_steps.specs.States.{Held, Plain, Struct, Next, goes, held, judged, with_value, with_some}
use Rattle.c_steps.specs.Changes.{stored, as_scalar, store_step, copy_step, given_of, modify_step}
use Rattle.c_steps.specs.Steps.{item_step, test_step, sure_step}
use Rattle.c_steps_laws.specs.Wants.{Want, Of, OfStruct, Anything, HasWant, is_value, is_struct, is_any, Stacked, on_top, Operates, OperatesOn, Converts, to_int, to_pointer}
use Rattle.c_steps_laws.specs.Takes.{Changes, Takes}
use Rattle.c_steps_laws.specs.Opens.{OpensCall}
use Rattle.c_steps_laws.specs.Fits.{AreLive, Parted, Fits}
use Rattle.c_steps_laws.proofs.Memory.{read_has, write_has, store_has, IsChanged, changed, store_passes, copy_passes}
use Rattle.c_steps_laws.proofs.Loads.{loaded_is}
use Rattle.c_steps_laws.proofs.Rows.{one_number}
use Rattle.c_steps_laws.proofs.Rules.{On, fit}
use Rattle.c_steps_laws.proofs.Values.{Has, judged_after, value_after, operator_settles, operator_made, taken_alone, unary_made, member_made, HasSome, converted_has}
use Rattle.c_steps_laws.proofs.Kept.{KeepsIn}
use Rattle.c_objects.proofs.Keeping.{Keeps}
use Rattle.c_objects.specs.Statics.{AreWholeInitials}

-- ---- looks

one_found : (k : WrongKind) (x : Operand) (rest : Judged) (z : Bool) → (rest ≡ NoOperand → ⊥) → (if z then FailsAs k x else rest) ≡ NoOperand → ⊥
one_found k x rest true h e = absurd (cc)
one_found k x rest false h e = h e

passes_has : Passes ≡ NoOperand → ⊥
passes_has e = absurd (cc)

-- one look, and two, with their operands
one_has : (objects : List ObjectTree) (c : Check) (x : Operand) → judge objects (record { check = c; operand = Some x } ∷ []) ≡ NoOperand → ⊥
one_has objects c x e = one_found c.kind x Passes (fails objects c x) passes_has e

two_has : (objects : List ObjectTree) (c d : Check) (x y : Operand) → judge objects (record { check = c; operand = Some x } ∷ record { check = d; operand = Some y } ∷ []) ≡ NoOperand → ⊥
two_has objects c d x y e = one_found c.kind x _ (fails objects c x) (λ f. one_has objects d y f) e

settles_one : (objects : List ObjectTree) (c : Check) (x : Operand) (ty : Scalar) (v : Value) (z : Bool) → IsOf ty v
    → IsSettled ty (outcome (if z then FailsAs c.kind x else Passes) (Some v))
settles_one objects c x ty v true h = tt
settles_one objects c x ty v false h = h

settles_if : (objects : List ObjectTree) (f : WrongKind → Option Operand) (c : Check) (x : Operand) (ty : Scalar) (v : Value) (s : Bool) → f c.kind ≡ Some x → IsOf ty v
    → IsSettled ty (outcome (judge objects (looks f (if s then c ∷ [] else []))) (Some v))
settles_if objects f c x ty v true e h = rw e (settles_one objects c x ty v (fails objects c x) h)
settles_if objects f c x ty v false e h = h

pub zero_number : IsOf (scalars.Int ints.Int) (values.Int ints.Int (pos 0))
zero_number = (refl, record { sfits = omega (arith, numbers) })

-- a number of a type that is the other
as_number : (t u : IntType) (n : ℤ) (ty : Scalar) → ty ≡ scalars.Int t → IsOf ty (values.Int u n) → HasNumber t n
as_number t u n ty e h = (subst (λ x. IsOf x (values.Int u n)) e h).1

no_number : (t : IntType) (ty : Scalar) → ty ≡ scalars.Int t → (v : Value) → IsOf ty v → IsOf (scalars.Int t) v
no_number t ty e v h = subst (λ x. IsOf x v) e h

pub bit_typed : (b : Bool) → IsOf (scalars.Int ints.Int) (bit b)
bit_typed true = one_number ints.Int
bit_typed false = zero_number

unary_settles : (objects : List ObjectTree) (m : ObjectMemory) (op : TUnaryOp) (ty : Scalar) (v : Value) → TakesOne op ty v → IsSettled (unary_type op) (unary objects m op (Some ty) v)
unary_settles objects m (unaries.Plus t) ty (values.Int u n) (e, h) = (refl, as_number t u n ty e h)
unary_settles objects m (unaries.Plus t) ty (values.Ptr x) (e, h) = absurd (no_number t ty e (values.Ptr x) h)
unary_settles objects m (unaries.Plus t) ty values.Null (e, h) = absurd (no_number t ty e values.Null h)
unary_settles objects m (unaries.Minus t) ty (values.Int u n) (e, h) =
    settles_if objects (unary_operand m (unaries.Minus t) (values.Int u n)) (range_check Overflow (least t) (pos (greatest t))) (Number (neg_ℤ n)) (scalars.Int t)
    (values.Int t (wrapped t (neg_ℤ n))) (is_signed t) refl (refl, wrapped_is_of t (neg_ℤ n))
unary_settles objects m (unaries.Minus t) ty (values.Ptr x) (e, h) = absurd (no_number t ty e (values.Ptr x) h)
unary_settles objects m (unaries.Minus t) ty values.Null (e, h) = absurd (no_number t ty e values.Null h)
unary_settles objects m (unaries.Complement t) ty (values.Int u n) (e, h) = (refl, wrapped_is_of t _)
unary_settles objects m (unaries.Complement t) ty (values.Ptr x) (e, h) = absurd (no_number t ty e (values.Ptr x) h)
unary_settles objects m (unaries.Complement t) ty values.Null (e, h) = absurd (no_number t ty e values.Null h)
unary_settles objects m unaries.Not (scalars.Int t) (values.Int u n) h = bit_typed (not (truth (values.Int u n)))
unary_settles objects m unaries.Not (scalars.Int t) (values.Ptr x) h = absurd h
unary_settles objects m unaries.Not (scalars.Int t) values.Null h = absurd h
unary_settles objects m unaries.Not scalars.Pointer (values.Int u n) h = absurd h
unary_settles objects m unaries.Not scalars.Pointer (values.Ptr x) h =
    settles_one objects (plain_check Dangling) (Point (spot_at m x)) (scalars.Int ints.Int) (bit false) (fails objects (plain_check Dangling) (Point (spot_at m x))) (bit_typed false)
unary_settles objects m unaries.Not scalars.Pointer values.Null h =
    settles_one objects (plain_check Dangling) (Point spots.Null) (scalars.Int ints.Int) (bit true) (fails objects (plain_check Dangling) (Point spots.Null)) (bit_typed true)

three_settle : (a b c : WrongKind) (x y z : Operand) (ty : Scalar) (v : Value) (i j k : Bool) → IsOf ty v
    → IsSettled ty (outcome (if i then FailsAs a x else (if j then FailsAs b y else (if k then FailsAs c z else Passes))) (Some v))
three_settle a b c x y z ty v true j k h = tt
three_settle a b c x y z ty v false true k h = tt
three_settle a b c x y z ty v false false true h = tt
three_settle a b c x y z ty v false false false h = h

member_settles : (objects : List ObjectTree) (m : ObjectMemory) (v : Value) (offset : ℕ) → IsOf scalars.Pointer v → IsSettled scalars.Pointer (member objects m v offset)
member_settles objects m (values.Ptr x) offset h = three_settle NullUse Dangling Bounds _ _ _ scalars.Pointer _ _ _ _ tt
member_settles objects m values.Null offset h = tt
member_settles objects m (values.Int t n) offset h = absurd h

-- ---- loads

loaded_settles : (ty : Scalar) (s : Spot) (r : Result Value WrongKind) → ((v : Value) → r ≡ Ok v → IsOf ty v) → IsSettled ty (load_outcome s r)
loaded_settles ty s (Ok v) h = h v refl
loaded_settles ty s (Err k) h = tt

loaded_ok : (s : Spot) (r : Result Value WrongKind) (v : Value) → load_outcome s r ≡ Gives v → r ≡ Ok v
loaded_ok s (Ok u) v e = let same : u ≡ v = cc in ap (λ x. Ok x) same
loaded_ok s (Err k) v e = absurd (cc)

load_settles : {W : Type 0} (ty : Scalar) (objects : List ObjectTree) (m : ObjectMemory) (v : Value) → Keeps W objects m → Has (length m.blocks) scalars.Pointer v
    → IsSettled ty (load_at objects m (Some ty) v)
load_settles ty objects m (values.Ptr p) k hv =
    subst (λ o. IsSettled ty o) (sym (loads objects m p ty (k.fits p.block hv.made))) (loaded_settles ty (spot_at m p) (load m.blocks p ty) (λ v e. (loaded_is m.blocks p ty v k.proper e).typed))
load_settles ty objects m values.Null k hv = tt
load_settles ty objects m (values.Int t z) k hv = absurd hv.typed

load_made : {W : Type 0} (ty : Scalar) (objects : List ObjectTree) (m : ObjectMemory) (v x : Value) → Keeps W objects m → Has (length m.blocks) scalars.Pointer v
    → load_at objects m (Some ty) v ≡ Gives x → Has (length m.blocks) ty x
load_made ty objects m (values.Ptr p) x k hv e =
    loaded_is m.blocks p ty x k.proper (loaded_ok (spot_at m p) (load m.blocks p ty) x (sym (loads objects m p ty (k.fits p.block hv.made)) ∙ e))
load_made ty objects m values.Null x k hv e = absurd (cc)
load_made ty objects m (values.Int t z) x k hv e = absurd hv.typed

module _ (p : TProgramTree) where
  push : (r : CTypeTree) (w : List Item) (s : List Held) (m : ObjectMemory) (i : List ℤ) (ts : List Want) (ty : Scalar) (v : Value) → Has (length m.blocks) ty v
      → Takes p r w (Of ty ∷ ts) → Stacked (length m.blocks) ts s → Parted (OpensCall p) p w → AreLive p w m → KeepsIn p m → On p (goes w (held v ∷ s) m i)
  push r w s m i ts ty v g k d q l h = fit p r w (held v ∷ s) m i _ k (on_top (is_value g.typed g.made) d) q l h

  pub load_row : (at : Pos) (ty : Scalar) (v : Value) (r : CTypeTree) (w : List Item) (ts : List Want) → Takes p r w (Of ty ∷ ts) → (s : List Held) (m : ObjectMemory)
      (i : List ℤ) → Has (length m.blocks) scalars.Pointer v → Stacked (length m.blocks) ts s → Parted (OpensCall p) p w → AreLive p w m → KeepsIn p m
      → On p (item_step p (LoadAt at (Some ty)) w (held v ∷ s) m i)
  load_row at ty v r w ts k s m i hv d q l h =
      value_after (Fits p) ty (load_at p.objects m (Some ty) v) at (λ new. goes w (held new ∷ s) m i) (load_settles ty p.objects m v h hv)
      (λ x e typed. push r w s m i ts ty x (load_made ty p.objects m v x h hv e) k d q l h)

  -- what comes behind a change of memory
  changed_after : (m : ObjectMemory) {o : Option ObjectMemory} (x : Held) (want : Want) (r : CTypeTree) (w : List Item) (ts : List Want) (s : List Held) (i : List ℤ)
      → IsChanged (AreWholeInitials p.initial) p.objects m o → HasWant (length m.blocks) want x → Takes p r w (want ∷ ts) → Stacked (length m.blocks) ts s → Parted (OpensCall p) p w → AreLive p w m
      → On p (with_some o (λ n. goes w (x ∷ s) n i))
  changed_after m x want r w ts s i (changed n kept blocks places) hx k d q l =
      fit p r w (x ∷ s) n i _ k (subst (λ c. Stacked c (want ∷ ts) (x ∷ s)) (sym blocks) (on_top hx d)) q (
        (λ y o. subst (λ (ps : List (Option ℕ)). IsSome (slice_index_or ps y None)) (sym places) (l.0 y o)),
        (λ y o. l.1 y (subst (λ (ps : List (Option ℕ)). IsSome (slice_index_or ps y None)) places o)),
      ) kept

  pub store_row : (at : Pos) (ty : Scalar) (v u x : Value) (r : CTypeTree) (w : List Item) (ts : List Want) → Takes p r w (Of ty ∷ ts) → (s : List Held)
      (m : ObjectMemory) (i : List ℤ) → Has (length m.blocks) ty u → Has (length m.blocks) ty x → Has (length m.blocks) scalars.Pointer v
      → Stacked (length m.blocks) ts s → Parted (OpensCall p) p w → AreLive p w m → KeepsIn p m → On p (store_step p.objects at (Some ty) v u x w s m i)
  store_row at ty v u x r w ts k s m i hu hx hv d q l h =
      judged_after (Fits p) (judge p.objects (store_looks m (Some ty) v)) at (with_some (stored m (Some ty) v u) (λ n. goes w (held x ∷ s) n i))
      (store_has p.objects m h ty v hv)
      (λ e. changed_after m (held x) (Of ty) r w ts s i (store_passes p.objects m h ty v u hv hu e) (is_value hx.typed hx.made) k d q l)

  pub copy_row : (at from : Pos) (extent : Extent) (u v : Value) (r : CTypeTree) (w : List Item) (ts : List Want) → Takes p r w (OfStruct ∷ ts) → (s : List Held)
      (m : ObjectMemory) (i : List ℤ) → Has (length m.blocks) scalars.Pointer u → Has (length m.blocks) scalars.Pointer v → Stacked (length m.blocks) ts s
      → Parted (OpensCall p) p w → AreLive p w m → KeepsIn p m → On p (copy_step p.objects at extent from u v w s m i)
  copy_row at from extent u v r w ts k s m i hu hv d q l h =
      judged_after (Fits p) (judge p.objects (read_looks m u extent.size extent.align)) from
      (judged (judge p.objects (write_looks m v extent.size extent.align)) at (with_some (copied_at m v u extent.size) (λ n. goes w (Struct at v ∷ s) n i)))
      (read_has p.objects m h u extent.size extent.align hu)
      (λ e. judged_after (Fits p) (judge p.objects (write_looks m v extent.size extent.align)) at (with_some (copied_at m v u extent.size) (λ n. goes w (Struct at v ∷ s) n i))
      (write_has p.objects m h v extent.size extent.align hv)
      (λ g. changed_after m (Struct at v) OfStruct r w ts s i (copy_passes p.objects m h extent v u hv hu e g) (is_struct hv.typed hv.made) k d q l))

  pub un_row : (at : Pos) (op : TUnaryOp) (a : Scalar) (v : Value) (r : CTypeTree) (w : List Item) (ts : List Want) → OperatesOn op a
      → Takes p r w (Of (unary_type op) ∷ ts) → (s : List Held) (m : ObjectMemory) (i : List ℤ) → Has (length m.blocks) a v → Stacked (length m.blocks) ts s
      → Parted (OpensCall p) p w → AreLive p w m → KeepsIn p m → On p (item_step p (Un at op (Some a)) w (held v ∷ s) m i)
  un_row at op a v r w ts t k s m i hv d q l h =
      value_after (Fits p) (unary_type op) (unary p.objects m op (Some a) v) at (λ new. goes w (held new ∷ s) m i)
      (unary_settles p.objects m op a v (taken_alone op a v t hv.typed))
      (λ x e typed. push r w s m i ts (unary_type op) x (record { typed = typed; made = unary_made (length m.blocks) op x typed }) k d q l h)

  pub bin_row : (at : Pos) (op : TBinaryOp) (a b : Scalar) (v u : Value) (r : CTypeTree) (w : List Item) (ts : List Want) → Operates op a b
      → Takes p r w (Of (binary_type op) ∷ ts) → (s : List Held) (m : ObjectMemory) (i : List ℤ) → Has (length m.blocks) a v → Has (length m.blocks) b u
      → Stacked (length m.blocks) ts s → Parted (OpensCall p) p w → AreLive p w m → KeepsIn p m → On p (item_step p (Bin at op) w (held u ∷ held v ∷ s) m i)
  bin_row at op a b v u r w ts t k s m i hv hu d q l h =
      value_after (Fits p) (binary_type op) (binary p.objects m op v u) at (λ new. goes w (held new ∷ s) m i)
      (operator_settles p.objects m t v u hv.typed hu.typed)
      (λ x e typed. push r w s m i ts (binary_type op) x
      (record { typed = typed; made = operator_made (length m.blocks) p.objects m t v u x hv hu e typed }) k d q l h)

  pub move_row : (at : Pos) (offset : ℕ) (v : Value) (r : CTypeTree) (w : List Item) (ts : List Want) → Takes p r w (Of scalars.Pointer ∷ ts) → (s : List Held)
      (m : ObjectMemory) (i : List ℤ) → Has (length m.blocks) scalars.Pointer v → Stacked (length m.blocks) ts s → Parted (OpensCall p) p w → AreLive p w m
      → KeepsIn p m → On p (item_step p (Move at offset) w (held v ∷ s) m i)
  move_row at offset v r w ts k s m i hv d q l h =
      value_after (Fits p) scalars.Pointer (member p.objects m v offset) at (λ new. goes w (held new ∷ s) m i) (member_settles p.objects m v offset hv.typed)
      (λ x e typed. push r w s m i ts scalars.Pointer x (record { typed = typed; made = member_made (length m.blocks) p.objects m v x offset hv e }) k d q l h)

  -- ---- tests

  if_after : (z : Bool) (a b : Next) → On p a → On p b → On p (if z then a else b)
  if_after true a b x y = x
  if_after false a b x y = y

  test_has : (ty : Scalar) (v : Value) (m : ObjectMemory) → Has (length m.blocks) ty v → judge p.objects (test_looks m (Some ty) v) ≡ NoOperand → ⊥
  test_has (scalars.Int t) (values.Int u z) m hv e = absurd (cc)
  test_has (scalars.Int t) (values.Ptr x) m hv e = absurd hv.typed
  test_has (scalars.Int t) values.Null m hv e = absurd hv.typed
  test_has scalars.Pointer (values.Int u z) m hv e = absurd hv.typed
  test_has scalars.Pointer (values.Ptr x) m hv e = one_has p.objects (plain_check Dangling) (Point (spot_at m x)) e
  test_has scalars.Pointer values.Null m hv e = one_has p.objects (plain_check Dangling) (Point spots.Null) e

  pub test_after : (at : Pos) (ty : Scalar) (v : Value) (m : ObjectMemory) (a b : Next) → Has (length m.blocks) ty v → On p a → On p b
      → On p (test_step p.objects at (Some ty) v a b m)
  test_after at ty v m a b hv x y =
      judged_after (Fits p) (judge p.objects (test_looks m (Some ty) v)) at (if truth v then a else b) (test_has ty v m hv) (λ e. if_after (truth v) a b x y)

  sure_has : (ty : Scalar) (v : Value) (m : ObjectMemory) → Has (length m.blocks) ty v → judge p.objects (assert_looks m (Some ty) v) ≡ NoOperand → ⊥
  sure_has (scalars.Int t) (values.Int u z) m hv e = one_has p.objects (plain_check AssertFailed) (Number (if truth (values.Int u z) then pos 1 else pos 0)) e
  sure_has (scalars.Int t) (values.Ptr x) m hv e = absurd hv.typed
  sure_has (scalars.Int t) values.Null m hv e = absurd hv.typed
  sure_has scalars.Pointer (values.Int u z) m hv e = absurd hv.typed
  sure_has scalars.Pointer (values.Ptr x) m hv e = two_has p.objects (plain_check Dangling) (plain_check AssertFailed) (Point (spot_at m x)) (Number (pos 1)) e
  sure_has scalars.Pointer values.Null m hv e = two_has p.objects (plain_check Dangling) (plain_check AssertFailed) (Point spots.Null) (Number (pos 0)) e

  pub sure_row : (at : Pos) (ty : Scalar) (v : Value) (r : CTypeTree) (w : List Item) (ts : List Want) → Takes p r w (Anything ∷ ts) → (s : List Held)
      (m : ObjectMemory) (i : List ℤ) → Has (length m.blocks) ty v → Stacked (length m.blocks) ts s → Parted (OpensCall p) p w → AreLive p w m
      → KeepsIn p m → On p (sure_step p.objects at (Some ty) v w s m i)
  sure_row at ty v r w ts k s m i hv d q l h =
      judged_after (Fits p) (judge p.objects (assert_looks m (Some ty) v)) at (goes w (Plain givens.Nothing ∷ s) m i) (sure_has ty v m hv)
      (λ e. fit p r w (Plain givens.Nothing ∷ s) m i _ k (on_top is_any d) q l h)

  -- ---- `op=`, `++` and `--`

  some_after : (n : ℕ) (ty : Scalar) (o : Option Value) (next : Value → Next) → HasSome n ty o → ((v : Value) → Has n ty v → On p (next v)) → On p (with_some o next)
  some_after n ty None next h go = absurd h
  some_after n ty (Some v) next h go = go v h

  which : (n : ℕ) (ty : Scalar) (time : StepTime) (old new : Value) → Has n ty old → Has n ty new → Has n ty (given_of time old new)
  which n ty times.Before old new h e = e
  which n ty times.After old new h e = h

  changes_after : (at at_place : Pos) (ty right : Scalar) (op : TBinaryOp) (time : StepTime) (v u : Value) (r : CTypeTree) (w : List Item) (ts : List Want) (c : Changes op ty right)
      → Takes p r w (Of ty ∷ ts) → (s : List Held) (m : ObjectMemory) (i : List ℤ) → Has (length m.blocks) right u → Has (length m.blocks) scalars.Pointer v
      → Stacked (length m.blocks) ts s → Parted (OpensCall p) p w → AreLive p w m → KeepsIn p m
      → On p (with_value (load_at p.objects m (Some ty) v) at_place (λ old.
      with_some (as_scalar (Some c.left) old) (λ left.
      with_value (binary p.objects m op left u) at (λ result.
      with_some (as_scalar (Some ty) result) (λ new.
      store_step p.objects at_place (Some ty) v new (given_of time old new) w s m i)))))
  changes_after at at_place ty right op time v u r w ts c k s m i hu hv d q l h =
      value_after (Fits p) ty (load_at p.objects m (Some ty) v) at_place _ (load_settles ty p.objects m v h hv) (λ old e typed.
      let old_has = load_made ty p.objects m v old h hv e in
      some_after (length m.blocks) c.left (converted_to c.left old) _ (converted_has (length m.blocks) c.there old old_has) (λ left left_has.
      value_after (Fits p) (binary_type op) (binary p.objects m op left u) at _ (operator_settles p.objects m c.operates left u left_has.typed hu.typed) (λ x f given.
      let x_has : Has (length m.blocks) c.left x = subst (λ z. Has (length m.blocks) z x) c.gives
      (record { typed = given; made = operator_made (length m.blocks) p.objects m c.operates left u x left_has hu f given }) in
      some_after (length m.blocks) ty (converted_to ty x) _ (converted_has (length m.blocks) c.back x x_has) (λ new new_has.
      store_row at_place ty v new (given_of time old new) r w ts k s m i new_has (which (length m.blocks) ty time old new old_has new_has) hv d q l h))))

  pub modify_row : (at at_place : Pos) (ty right : Scalar) (op : TBinaryOp) (time : StepTime) (v u : Value) (r : CTypeTree) (w : List Item) (ts : List Want) → Changes op ty right
      → Takes p r w (Of ty ∷ ts) → (s : List Held) (m : ObjectMemory) (i : List ℤ) → Has (length m.blocks) right u → Has (length m.blocks) scalars.Pointer v
      → Stacked (length m.blocks) ts s → Parted (OpensCall p) p w → AreLive p w m → KeepsIn p m
      → On p (modify_step p.objects at at_place (Some ty) op time v u w s m i)
  modify_row at at_place ty right op time v u r w ts c k s m i hu hv d q l h =
      rw (c.is_left) (changes_after at at_place ty right op time v u r w ts c k s m i hu hv d q l h)

  -- ---- conversions

  pub convert_row : {from to : Scalar} (v : Value) (r : CTypeTree) (w : List Item) (ts : List Want) → Converts from to → Takes p r w (Of to ∷ ts) → (s : List Held)
      (m : ObjectMemory) (i : List ℤ) → Has (length m.blocks) from v → Stacked (length m.blocks) ts s → Parted (OpensCall p) p w → AreLive p w m → KeepsIn p m
      → On p (item_step p (Conv (Some to)) w (held v ∷ s) m i)
  convert_row (values.Int u z) r w ts (to_int {t = t}) k s m i hv d q l h =
      push r w s m i ts (scalars.Int t) (values.Int t (wrapped t z)) (record { typed = (refl, wrapped_is_of t z); made = tt }) k d q l h
  convert_row (values.Ptr x) r w ts to_int k s m i hv d q l h = absurd hv.typed
  convert_row values.Null r w ts to_int k s m i hv d q l h = absurd hv.typed
  convert_row (values.Int u z) r w ts to_pointer k s m i hv d q l h = absurd hv.typed
  convert_row (values.Ptr x) r w ts to_pointer k s m i hv d q l h = push r w s m i ts scalars.Pointer (values.Ptr x) hv k d q l h
  convert_row values.Null r w ts to_pointer k s m i hv d q l h = push r w s m i ts scalars.Pointer values.Null hv k d q l h

  pub void_row : (x : Held) (r : CTypeTree) (w : List Item) (ts : List Want) → Takes p r w (Anything ∷ ts) → (s : List Held) (m : ObjectMemory) (i : List ℤ)
      → Stacked (length m.blocks) ts s → Parted (OpensCall p) p w → AreLive p w m → KeepsIn p m → On p (item_step p (Conv None) w (x ∷ s) m i)
  void_row (Plain g) r w ts k s m i d q l h = fit p r w _ m i _ k (on_top is_any d) q l h
  void_row (Struct at v) r w ts k s m i d q l h = fit p r w _ m i _ k (on_top is_any d) q l h
