-- What operators come to, from what is found of their looks.
use Rattle.std.proofs.Common.{◌≡◌, ℕ, ◌<◌, ◌≤◌, ◌^◌, length, to_z, of_z, FitsSigned, ℤ, pos, Bool, true, false, refl, sym, subst, ap, ◌∙◌, arith, List, [], ◌∷◌}
use Rattle.std.proofs.Common.{Option, Some, None}
use Rattle.std.specs.Prelude.{IfSome, nat_abs, ◌≤ℤ◌, ◌+ℤ◌, if◌then◌else◌, not, neg_ℤ, Result, Ok, Err, IfOk, slice_get}
use Rattle.std.specs.Int.{w64, w128}
use Rattle.std.proofs.lemmas.Int.{ints}
use Rattle.c_syntax_written.specs.declared.int_type.IntType.{IntType}
use Rattle.c_syntax.specs.declared.alarm.Spot.{Spot}
use Rattle.c_syntax.specs.declared.alarm.Spot.TheVariants as spots
use Rattle.c_syntax.specs.declared.alarm.WrongKind.{WrongKind}
use Rattle.c_syntax.specs.declared.alarm.WrongKind.TheVariants as kinds
use Rattle.c_syntax.specs.declared.operator.TUnaryOp.{TUnaryOp}
use Rattle.c_syntax.specs.declared.operator.TUnaryOp.TheVariants as unaries
use Rattle.c_syntax_written.specs.declared.int_type.IntType.TheVariants as ints
use Rattle.c_syntax.specs.declared.operator.Arithmetic.{Arithmetic}
use Rattle.c_syntax.specs.declared.operator.Shift.{Shift}
use Rattle.c_syntax.specs.declared.operator.TBinaryOp.{TBinaryOp}
use Rattle.c_syntax.specs.declared.operator.TBinaryOp.TheVariants as binaries
use Rattle.c_syntax.specs.Types.{ObjectTree}
use Rattle.c_syntax.specs.Operand.{Operand, Point}
use Rattle.c_syntax.specs.Failing.{is_outside}
use Rattle.c_layout.specs.Checks.{plain_check, move_checks}
use Rattle.block_mem.specs.declared.types.Pointer as pointers
use Rattle.block_mem.specs.declared.types.Scalar.{Scalar}
use Rattle.block_mem.specs.declared.types.Scalar.TheVariants as scalars
use Rattle.block_mem.specs.declared.types.Value.{Value}
use Rattle.block_mem.specs.declared.types.Value.TheVariants as values
use Rattle.block_mem.specs.Blocks.{block_at, wrong_access, load}
use Rattle.block_mem.specs.Proper.{IsMade}
use Rattle.block_mem.specs.Bytes.{IsOf, size_of}
use Rattle.c_values.specs.declared.values.Wrong.{Wrong}
use Rattle.c_values.specs.Accesses.{test_looks, assert_looks, read_looks, write_looks, store_looks, load_at}
use Rattle.c_values.specs.Memory.{Fits, found, load_outcome}
use Rattle.c_values.specs.Typed.{IsSettled, TakesBoth, TakesNumbers, binary_type}
use Rattle.c_values.proofs.Accesses.{reads, writes, stores, loads}
use Rattle.c_values.specs.Answers.{Answers, Finds}
use Rattle.c_values.specs.Looks.{looks, judge, Judged, Passes, FailsAs, Outcome, Gives, GoesWrong, outcome}
use Rattle.c_values.specs.Operators.{binary, unary, move_operand, moving_operand, moved, elements}
use Rattle.c_objects.specs.Kept.{AllFit, AreSmall, FitsAt, IsWellFormed}
use Rattle.c_objects.specs.Writing.{with_blocks}
use Rattle.block_mem.specs.Block.{BlockView}
use Rattle.c_values.specs.Places.{ObjectMemory, owner_of, spot, spot_at}
use Rattle.c_values.specs.Values.{truth, bit}

-- ---- moves

-- a spot in an object that lives, at another offset
spot_moves : (live : Bool) (w o : ℕ) (d e x : ℤ) → (if live then spots.At w d else spots.Dead) ≡ spots.At o e → (if live then spots.At w x else spots.Dead)
    ≡ spots.At o x
spot_moves true w o d e x h = let same : w ≡ o = cc in ap (λ n. spots.At n x) same
spot_moves false w o d e x h = absurd (cc)

pub moved_spot : (m : ObjectMemory) (p : pointers.Pointer) (o : ℕ) (e x : ℤ) → spot_at m p ≡ spots.At o e → spot_at m (record p { offset = x }) ≡ spots.At o x
moved_spot m p o e x h = spot_moves (block_at m.blocks p.block).live (owner_of m p.block) o p.offset e x h

owner_in : (live : Bool) (w o : ℕ) (d e : ℤ) → (if live then spots.At w d else spots.Dead) ≡ spots.At o e → w ≡ o
owner_in true w o d e h = cc
owner_in false w o d e h = absurd (cc)

pub owner_is : (m : ObjectMemory) (p : pointers.Pointer) (o : ℕ) (e : ℤ) → spot_at m p ≡ spots.At o e → owner_of m p.block ≡ o
owner_is m p o e h = owner_in (block_at m.blocks p.block).live (owner_of m p.block) o p.offset e h

-- what is found of two spots is what is found of two that are equal to them
pub move_answers : (r : Result Value Wrong) (objects : List ObjectTree) (s t s' t' : Spot) (v : Option Value) → s' ≡ s → t' ≡ t
    → Answers r (outcome (judge objects (looks (move_operand (Some s) (Some t)) move_checks)) v)
    → Answers r (outcome (judge objects (looks (move_operand (Some s') (Some t')) move_checks)) v)
move_answers r objects s t s' t' v e f h =
    subst (λ x. Answers r (outcome (judge objects (looks (move_operand (Some x) (Some t')) move_checks)) v)) (sym e)
    (subst (λ x. Answers r (outcome (judge objects (looks (move_operand (Some s) (Some x)) move_checks)) v)) (sym f) h)

pub found_ok : (j : Judged) (v : Value) → j ≡ Passes → outcome j (Some v) ≡ Gives v
found_ok j v e = rw e refl

pub found_err : (j : Judged) (k : WrongKind) (x : Operand) (v : Option Value) → j ≡ FailsAs k x → outcome j v ≡ GoesWrong k x
found_err j k x v e = rw e refl

passing : (b : Bool) (k : WrongKind) (o : Operand) → (if b then FailsAs k o else Passes) ≡ Passes → b ≡ false
passing true k o h = absurd (cc)
passing false k o h = refl

inside : (size : ℕ) (x : ℤ) (k : WrongKind) (o : Operand) → (if is_outside (pos 0) (pos size) x then FailsAs k o else Passes) ≡ Passes
    → is_outside (pos 0) (pos size) x ≡ false
inside size x k o h = passing (is_outside (pos 0) (pos size) x) k o h

bounded : (size : ℕ) (x : ℤ) → is_outside (pos 0) (pos size) x ≡ false → (pos 0 ≤ℤ x) × (x ≤ℤ pos size)
bounded size x h = (grind (arith, ints), grind (arith, ints))

-- a move that passes stays within its object
pub stays_inside : (objects : List ObjectTree) (o : ℕ) (d x : ℤ) (object : ObjectTree) → slice_get objects o ≡ Some object
    → judge objects (looks (move_operand (Some (spots.At o d)) (Some (spots.At o x))) move_checks) ≡ Passes → (pos 0 ≤ℤ x) × (x ≤ℤ pos object.size)
stays_inside objects o d x object e h = bounded object.size x (inside object.size x kinds.Bounds (Point (spots.At o x)) (rw e at h))

-- the code's offset after a move
pub exact_is : (f off d : ℤ) → FitsSigned w64 off → f ≡ off → nat_abs d < 2 ^ 126
    → to_z w128 (of_z w128 (to_z w128 (of_z w128 f) +ℤ to_z w128 (of_z w128 d))) ≡ off +ℤ d
exact_is f off d fits e few = omega (arith, ints, e)

small_size : (o : Option ObjectTree) (object : ObjectTree) → o ≡ Some object → IfSome o (λ object. object.size ≤ 2 ^ 62) → object.size ≤ 2 ^ 62
small_size (Some x) object e h = let same : x ≡ object = cc in subst (λ (y : ObjectTree). y.size ≤ 2 ^ 62) same h
small_size None object e h = absurd (cc)

-- the offset after a move that passes is one that a pointer may have
pub fits_pointer : (objects : List ObjectTree) (m : ObjectMemory) (p : pointers.Pointer) (o : ℕ) (d x : ℤ) → p.block < length m.blocks → AllFit objects m
    → AreSmall objects → spot_at m p ≡ spots.At o p.offset
    → judge objects (looks (move_operand (Some (spots.At o d)) (Some (spots.At o x))) move_checks) ≡ Passes → FitsSigned w64 x
fits_pointer objects m p o d x made fits small lives h =
    let f = fits p.block made in
    let at : slice_get objects o ≡ Some f.object = ap (slice_get objects) (sym (owner_is m p o p.offset lives)) ∙ f.is in
    let within = stays_inside objects o d x f.object at h in
    let few : f.object.size ≤ 2 ^ 62 = small_size (slice_get objects o) f.object at (small o) in
    omega (arith, ints, within.0, within.1, few)

-- a move within an object that lives, from its two spots
pub inside_answers : (r : Result Value Wrong) (objects : List ObjectTree) (m : ObjectMemory) (p : pointers.Pointer) (o : ℕ) (d : ℤ) → spot_at m p
    ≡ spots.At o p.offset
    → Answers r (outcome (judge objects (looks (move_operand (Some (spots.At o p.offset)) (Some (spots.At o (p.offset +ℤ d)))) move_checks))
    (moved (values.Ptr p) d))
    → Answers r (outcome (judge objects (looks (moving_operand m (values.Ptr p) (moved (values.Ptr p) d)) move_checks)) (moved (values.Ptr p) d))
inside_answers r objects m p o d lives h =
    move_answers r objects (spots.At o p.offset) (spots.At o (p.offset +ℤ d)) (spot_at m p) (spot_at m (record p { offset = p.offset +ℤ d }))
    (moved (values.Ptr p) d) lives (moved_spot m p o p.offset (p.offset +ℤ d) lives) h

-- ---- tests

tested_at : (r : Result (Unit {0}) Wrong) (objects : List ObjectTree) (s t : Spot) → t ≡ s
    → Finds r (judge objects (looks (λ kind. Some (Point s)) (plain_check kinds.Dangling ∷ [])))
    → Finds r (judge objects (looks (λ kind. Some (Point t)) (plain_check kinds.Dangling ∷ [])))
tested_at r objects s t e h = subst (λ x. Finds r (judge objects (looks (λ kind. Some (Point x)) (plain_check kinds.Dangling ∷ [])))) (sym e) h

pub pointer_test : (r : Result (Unit {0}) Wrong) (objects : List ObjectTree) (m : ObjectMemory) (ty : Scalar) (v : Value) (s : Spot) → IsOf ty v → spot m v
    ≡ Some s
    → Finds r (judge objects (looks (λ kind. Some (Point s)) (plain_check kinds.Dangling ∷ []))) → Finds r (judge objects (test_looks m (Some ty) v))
pointer_test r objects m (scalars.Int t) (values.Int u n) s h e f = absurd (cc)
pointer_test r objects m (scalars.Int t) (values.Ptr p) s h e f = absurd h
pointer_test r objects m (scalars.Int t) values.Null s h e f = absurd h
pointer_test r objects m scalars.Pointer (values.Int u n) s h e f = absurd h
pointer_test r objects m scalars.Pointer (values.Ptr p) s h e f = let same : spot_at m p ≡ s = cc in tested_at r objects s (spot_at m p) same f
pointer_test r objects m scalars.Pointer values.Null s h e f = let same : spots.Null ≡ s = cc in tested_at r objects s spots.Null same f

module _ (objects : List ObjectTree) (m : ObjectMemory) where
  pub assertion_passes : (ty : Scalar) (v : Value) → IsOf ty v → judge objects (test_looks m (Some ty) v) ≡ Passes → truth v ≡ true
      → judge objects (assert_looks m (Some ty) v) ≡ Passes
  assertion_passes (scalars.Int t) (values.Int u n) h e f = rw f refl
  assertion_passes (scalars.Int t) (values.Ptr p) h e f = absurd h
  assertion_passes (scalars.Int t) values.Null h e f = absurd h
  assertion_passes scalars.Pointer (values.Int u n) h e f = absurd h
  assertion_passes scalars.Pointer (values.Ptr p) h e f = e
  assertion_passes scalars.Pointer values.Null h e f = absurd (cc)

  pub assertion_fails : (ty : Scalar) (v : Value) (k : WrongKind) (x : Operand) → IsOf ty v → judge objects (test_looks m (Some ty) v) ≡ FailsAs k x
      → judge objects (assert_looks m (Some ty) v) ≡ FailsAs k x
  assertion_fails (scalars.Int t) (values.Int u n) k x h e = absurd (cc)
  assertion_fails (scalars.Int t) (values.Ptr p) k x h e = absurd h
  assertion_fails (scalars.Int t) values.Null k x h e = absurd h
  assertion_fails scalars.Pointer (values.Int u n) k x h e = absurd h
  assertion_fails scalars.Pointer (values.Ptr p) k x h e = e
  assertion_fails scalars.Pointer values.Null k x h e = absurd (cc)

  pub not_ok : (ty : Scalar) (v : Value) → judge objects (test_looks m (Some ty) v) ≡ Passes → unary objects m unaries.Not (Some ty) v
      ≡ Gives (bit (not (truth v)))
  not_ok (scalars.Int t) v e = refl
  not_ok scalars.Pointer v e = found_ok (judge objects (test_looks m (Some scalars.Pointer) v)) (bit (not (truth v))) e

  pub not_err : (ty : Scalar) (v : Value) (k : WrongKind) (x : Operand) → judge objects (test_looks m (Some ty) v) ≡ FailsAs k x
      → unary objects m unaries.Not (Some ty) v ≡ GoesWrong k x
  not_err (scalars.Int t) v k x e = absurd (cc)
  not_err scalars.Pointer v k x e = found_err (judge objects (test_looks m (Some scalars.Pointer) v)) k x (Some (bit (not (truth v)))) e

  -- `-` asks nothing of the type beside its own
  pub minus_answers : (r : Result Value Wrong) (op : TUnaryOp) (ty : Scalar) (v : Value) (t u : IntType) (n : ℤ) → op ≡ unaries.Minus t → v ≡ values.Int u n
      → Answers r (unary objects m (unaries.Minus t) (Some (scalars.Int t)) (values.Int t n)) → Answers r (unary objects m op (Some ty) v)
  minus_answers r op ty v t u n e f h = subst (λ o. Answers r (unary objects m o (Some ty) v)) (sym e)
      (subst (λ w. Answers r (unary objects m (unaries.Minus t) (Some ty) w)) (sym f) h)

-- ---- pointers moved by elements, at each form of operand

module _ (r : Result Value Wrong) (objects : List ObjectTree) (m : ObjectMemory) (e : ℕ) where
  abbrev Moves : Value → ℤ → Type 0
  Moves v d = Answers r (outcome (judge objects (looks (moving_operand m v (moved v d)) move_checks)) (moved v d))

  plus_at : (v u : Value) (d : ℤ) → TakesBoth (binaries.PointerPlusInt e) v u → ((t : IntType) (n : ℤ) → u ≡ values.Int t n → d ≡ elements e n) → Moves v d
      → Answers r (binary objects m (binaries.PointerPlusInt e) v u)
  plus_at v (values.Int t n) d typed is h = subst (λ x. Moves v x) (is t n refl) h
  plus_at v (values.Ptr p) d typed is h = absurd typed.1
  plus_at v values.Null d typed is h = absurd typed.1

  from_at : (v u : Value) (d : ℤ) → TakesBoth (binaries.IntPlusPointer e) v u → ((t : IntType) (n : ℤ) → v ≡ values.Int t n → d ≡ elements e n) → Moves u d
      → Answers r (binary objects m (binaries.IntPlusPointer e) v u)
  from_at (values.Int t n) u d typed is h = subst (λ x. Moves u x) (is t n refl) h
  from_at (values.Ptr p) u d typed is h = absurd typed.1
  from_at values.Null u d typed is h = absurd typed.1

  minus_at : (v u : Value) (d x : ℤ) → TakesBoth (binaries.PointerMinusInt e) v u → ((t : IntType) (n : ℤ) → u ≡ values.Int t n → d ≡ elements e n) → x
      ≡ neg_ℤ d → Moves v x → Answers r (binary objects m (binaries.PointerMinusInt e) v u)
  minus_at v (values.Int t n) d x typed is neg h = subst (λ y. Moves v y) (neg ∙ ap neg_ℤ (is t n refl)) h
  minus_at v (values.Ptr p) d x typed is neg h = absurd typed.1
  minus_at v values.Null d x typed is neg h = absurd typed.1

-- ---- operators on numbers

module _ (r : Result Value Wrong) (objects : List ObjectTree) (m : ObjectMemory) (op : TBinaryOp) (left right : Value) where
  pub arithmetic_answers : (aop : Arithmetic) (t ta tb : IntType) (a b : ℤ) → op ≡ binaries.Arithmetic aop t → left ≡ values.Int ta a → right
      ≡ values.Int tb b → TakesBoth op left right
      → Answers r (binary objects m (binaries.Arithmetic aop t) (values.Int t a) (values.Int t b)) → Answers r (binary objects m op left right)
  arithmetic_answers aop t ta tb a b e f g typed h =
      let one : TakesBoth (binaries.Arithmetic aop t) left right = subst (λ o. TakesBoth o left right) e typed in
      let two : TakesBoth (binaries.Arithmetic aop t) (values.Int ta a) right = subst (λ v. TakesBoth (binaries.Arithmetic aop t) v right) f one in
      let both : TakesBoth (binaries.Arithmetic aop t) (values.Int ta a) (values.Int tb b) = subst
      (λ v. TakesBoth (binaries.Arithmetic aop t) (values.Int ta a) v) g two in
      let first : left ≡ values.Int t a = f ∙ ap (λ s. values.Int s a) both.0.0 in
      let second : right ≡ values.Int t b = g ∙ ap (λ s. values.Int s b) both.1.0 in
      subst (λ o. Answers r (binary objects m o left right)) (sym e)
      (subst (λ v. Answers r (binary objects m (binaries.Arithmetic aop t) v right)) (sym first)
      (subst (λ v. Answers r (binary objects m (binaries.Arithmetic aop t) (values.Int t a) v)) (sym second) h))

  pub shift_answers : (way : Shift) (t ta tb : IntType) (a b : ℤ) → op ≡ binaries.Shift way t → left ≡ values.Int ta a → right ≡ values.Int tb b
      → TakesBoth op left right
      → Answers r (binary objects m (binaries.Shift way t) (values.Int t a) (values.Int tb b)) → Answers r (binary objects m op left right)
  shift_answers way t ta tb a b e f g typed h =
      let one : TakesBoth (binaries.Shift way t) left right = subst (λ o. TakesBoth o left right) e typed in
      let two : TakesBoth (binaries.Shift way t) (values.Int ta a) right = subst (λ v. TakesBoth (binaries.Shift way t) v right) f one in
      let first : left ≡ values.Int t a = f ∙ ap (λ s. values.Int s a) two.0.0 in
      subst (λ o. Answers r (binary objects m o left right)) (sym e)
      (subst (λ v. Answers r (binary objects m (binaries.Shift way t) v right)) (sym first)
      (subst (λ v. Answers r (binary objects m (binaries.Shift way t) (values.Int t a) v)) (sym g) h))

  -- a pointer moved by elements
  abbrev MovesBy : Value → ℤ → Type 0
  MovesBy v d = Answers r (outcome (judge objects (looks (moving_operand m v (moved v d)) move_checks)) (moved v d))

  pub plus_answers : (e : ℕ) (d : ℤ) → op ≡ binaries.PointerPlusInt e → TakesBoth op left right → ((t : IntType) (n : ℤ) → right ≡ values.Int t n → d
      ≡ elements e n) → MovesBy left d → Answers r (binary objects m op left right)
  plus_answers e d o typed is h =
      subst (λ x. Answers r (binary objects m x left right)) (sym o) (plus_at r objects m e left right d (subst (λ x. TakesBoth x left right) o typed) is h)

  pub from_answers : (e : ℕ) (d : ℤ) → op ≡ binaries.IntPlusPointer e → TakesBoth op left right → ((t : IntType) (n : ℤ) → left ≡ values.Int t n → d
      ≡ elements e n) → MovesBy right d → Answers r (binary objects m op left right)
  from_answers e d o typed is h =
      subst (λ x. Answers r (binary objects m x left right)) (sym o) (from_at r objects m e left right d (subst (λ x. TakesBoth x left right) o typed) is h)

  pub minus_moves : (e : ℕ) (d x : ℤ) → op ≡ binaries.PointerMinusInt e → TakesBoth op left right → ((t : IntType) (n : ℤ) → right ≡ values.Int t n → d
      ≡ elements e n) → x ≡ neg_ℤ d → MovesBy left x → Answers r (binary objects m op left right)
  minus_moves e d x o typed is neg h =
      subst (λ y. Answers r (binary objects m y left right)) (sym o) (minus_at r objects m e left right d x (subst (λ y. TakesBoth y left right) o typed) is
      neg h)

-- ---- blocks of values

abbrev InMemory : Result Value Wrong → ℕ → Type 0
InMemory r made = IfOk r (λ v. IsMade made v)

made_number : (t : IntType) (v : Value) (made : ℕ) → IsOf (scalars.Int t) v → IsMade made v
made_number t (values.Int u n) made h = tt
made_number t (values.Ptr p) made h = absurd h
made_number t values.Null made h = absurd h

-- a value of an integer type names no block
pub numbers_are_made : (r : Result Value Wrong) (t : IntType) (o : Outcome) (made : ℕ) → Answers r o → IsSettled (scalars.Int t) o → InMemory r made
numbers_are_made (Ok v) t o made h s = made_number t v made (subst (λ x. IsSettled (scalars.Int t) x) h s)
numbers_are_made (Err w) t o made h s = tt

pub number_type : (op : TBinaryOp) → TakesNumbers op → (t : IntType) × (binary_type op ≡ scalars.Int t)
number_type (binaries.Arithmetic op t) h = (t, refl)
number_type (binaries.Shift way t) h = (t, refl)
number_type (binaries.CompareInts c t) h = (ints.Int, refl)
number_type (binaries.ComparePointers c) h = absurd h
number_type (binaries.PointerPlusInt e) h = absurd h
number_type (binaries.IntPlusPointer e) h = absurd h
number_type (binaries.PointerMinusInt e) h = absurd h
number_type (binaries.PointerMinusPointer e) h = absurd h

-- ---- accesses

module _ (r : Result (Unit {0}) Wrong) (objects : List ObjectTree) (m : ObjectMemory) (place : Value) (at : pointers.Pointer) (e : place
    ≡ values.Ptr at) (fits : FitsAt objects m place) where
  there : Fits objects m at.block
  there = subst (λ v. FitsAt objects m v) e fits

  pub read_answers : (size align : ℕ) → Finds r (found (Point (spot_at m at)) (wrong_access m.blocks at size align false))
      → Finds r (judge objects (read_looks m place size align))
  read_answers size align h = subst (λ v. Finds r (judge objects (read_looks m v size align))) (sym e)
      (subst (λ j. Finds r j) (sym (reads objects m at size align there)) h)

  pub write_answers : (size align : ℕ) → Finds r (found (Point (spot_at m at)) (wrong_access m.blocks at size align true))
      → Finds r (judge objects (write_looks m place size align))
  write_answers size align h = subst (λ v. Finds r (judge objects (write_looks m v size align))) (sym e)
      (subst (λ j. Finds r j) (sym (writes objects m at size align there)) h)

  pub store_answers : (ty : Scalar) → Finds r (found (Point (spot_at m at)) (wrong_access m.blocks at (size_of ty) (size_of ty) true))
      → Finds r (judge objects (store_looks m (Some ty) place))
  store_answers ty h = subst (λ v. Finds r (judge objects (store_looks m (Some ty) v))) (sym e) (subst (λ j. Finds r j) (sym (stores objects m at ty there)) h)

  pub load_answers : (ty : Scalar) (s : Result Value Wrong) → Answers s (load_outcome (spot_at m at) (load m.blocks at ty))
      → Answers s (load_at objects m (Some ty) place)
  load_answers ty s h = subst (λ v. Answers s (load_at objects m (Some ty) v)) (sym e) (subst (λ o. Answers s o) (sym (loads objects m at ty there)) h)

pub refused : (j : Option WrongKind) (k : WrongKind) (s x : Spot) → j ≡ Some k → x ≡ s → found (Point s) j ≡ FailsAs k (Point x)
refused j k s x e f = rw e (ap (λ y. FailsAs k (Point y)) (sym f))

-- other blocks, of which there are as many, stay well formed
pub kept_count : (m : ObjectMemory) (bs : List BlockView) → length bs ≡ length m.blocks → IsWellFormed m → IsWellFormed (with_blocks m bs)
kept_count m bs e h = record { owned = h.owned ∙ sym e; placed = λ x b p. subst (λ n. b < n) (sym e) (h.placed x b p) }
