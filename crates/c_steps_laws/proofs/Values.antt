-- What operators, loads and conversions give to the stack.
use Rattle.std.proofs.Common.{◌≡◌, ◌<◌, ◌≤◌, ℕ, ℤ, pos, neg_ℤ, List, Option, Some, None, refl, sym, ap, subst, arith}
use Rattle.std.specs.Prelude.{◌+ℤ◌}
use Rattle.c_syntax_written.specs.declared.int_type.IntType.{IntType}
use Rattle.c_syntax_written.specs.declared.int_type.IntType.TheVariants as ints
use Rattle.c_syntax_written.specs.declared.place.Pos.{Pos}
use Rattle.c_syntax_written.specs.Integer.{HasNumber}
use Rattle.c_syntax.specs.declared.operator.TUnaryOp.{TUnaryOp}
use Rattle.c_syntax.specs.declared.operator.TUnaryOp.TheVariants as unaries
use Rattle.c_syntax.specs.declared.operator.TBinaryOp.{TBinaryOp}
use Rattle.c_syntax.specs.Types.{ObjectTree}
use Rattle.block_mem.specs.declared.types.Pointer.{Pointer}
use Rattle.block_mem.specs.declared.types.Scalar.{Scalar}
use Rattle.block_mem.specs.declared.types.Scalar.TheVariants as scalars
use Rattle.block_mem.specs.declared.types.Value.{Value}
use Rattle.block_mem.specs.declared.types.Value.TheVariants as values
use Rattle.block_mem.specs.Bytes.{IsOf}
use Rattle.block_mem.specs.Proper.{IsMade}
use Rattle.c_values.specs.Looks.{Judged, Passes, FailsAs, NoOperand, judge, Outcome, Gives, GoesWrong, IsStuck, outcome}
use Rattle.c_values.specs.Operators.{binary, binary_looks, member, member_looks, moved, elements}
use Rattle.c_values.specs.Places.{ObjectMemory}
use Rattle.c_values.specs.Typed.{IsSettled, TakesBoth, TakesOne, binary_type, unary_type}
use Rattle.c_values.specs.Values.{converted_to}
use Rattle.c_values.proofs.Settled.{binary_settles, wrapped_is_of}
use Rattle.c_steps.specs.States.{State, Next, Goes, Stands, judged, with_value}
use Rattle.c_steps_laws.specs.Wants.{Operates, arithmetic, shift, compare_ints, compare_pointers, plus_int, int_plus, minus_int, difference, OperatesOn}
use Rattle.c_steps_laws.specs.Wants.{Converts, to_int, to_pointer}

-- a value of a type, in a memory of so many blocks
pub record Has (n : ℕ) (ty : Scalar) (v : Value) : Type 0 where
  pub typed : IsOf ty v
  pub made : IsMade n v

-- blocks that are made stay made
pub made_more : (n k : ℕ) (v : Value) → n ≤ k → IsMade n v → IsMade k v
made_more n k (values.Int t z) le h = tt
made_more n k (values.Ptr p) le h = omega (arith, le, h)
made_more n k values.Null le h = tt

-- a number has no block
pub number_made : (n : ℕ) (t : IntType) (v : Value) → IsOf (scalars.Int t) v → IsMade n v
number_made n t (values.Int u z) h = tt
number_made n t (values.Ptr p) h = absurd h
number_made n t values.Null h = absurd h

-- ---- what holds of all that a step may give

module _ (Good : State → Type 0) where
  abbrev pub After : Next → Type 0
  After (Goes t) = Good t
  After Stands = ⊥
  After next = Unit {0}

  pub judged_after : (j : Judged) (at : Pos) (next : Next) → (j ≡ NoOperand → ⊥) → (j ≡ Passes → After next) → After (judged j at next)
  judged_after Passes at next has go = go refl
  judged_after (FailsAs k x) at next has go = tt
  judged_after NoOperand at next has go = absurd (has refl)

  pub value_after : (ty : Scalar) (o : Outcome) (at : Pos) (next : Value → Next) → IsSettled ty o → ((v : Value) → o ≡ Gives v → IsOf ty v → After (next v))
      → After (with_value o at next)
  value_after ty (Gives v) at next settled go = go v refl settled
  value_after ty (GoesWrong k x) at next settled go = tt
  value_after ty IsStuck at next settled go = absurd settled

-- ---- operators

pub both_taken : {op : TBinaryOp} {a b : Scalar} → Operates op a b → (v u : Value) → IsOf a v → IsOf b u → TakesBoth op v u
both_taken arithmetic v u hv hu = (hv, hu)
both_taken shift v (values.Int t z) hv hu = (hv, subst (λ x. HasNumber x z) (sym hu.0) hu.1)
both_taken shift v (values.Ptr p) hv hu = absurd hu
both_taken shift v values.Null hv hu = absurd hu
both_taken compare_ints v u hv hu = (hv, hu)
both_taken compare_pointers v u hv hu = (hv, hu)
both_taken (plus_int e) v (values.Int t z) hv hu = (hv, subst (λ x. HasNumber x z) (sym hu.0) hu.1, e)
both_taken (plus_int e) v (values.Ptr p) hv hu = absurd hu
both_taken (plus_int e) v values.Null hv hu = absurd hu
both_taken (int_plus e) (values.Int t z) u hv hu = (hu, subst (λ x. HasNumber x z) (sym hv.0) hv.1, e)
both_taken (int_plus e) (values.Ptr p) u hv hu = absurd hv
both_taken (int_plus e) values.Null u hv hu = absurd hv
both_taken (minus_int e) v (values.Int t z) hv hu = (hv, subst (λ x. HasNumber x z) (sym hu.0) hu.1, e)
both_taken (minus_int e) v (values.Ptr p) hv hu = absurd hu
both_taken (minus_int e) v values.Null hv hu = absurd hu
both_taken (difference e) v u hv hu = (hv, hu, e)

pub operator_settles : (objects : List ObjectTree) (m : ObjectMemory) {op : TBinaryOp} {a b : Scalar} → Operates op a b → (v u : Value) → IsOf a v → IsOf b u
    → IsSettled (binary_type op) (binary objects m op v u)
operator_settles objects m {op = op} h v u hv hu = binary_settles objects m op v u (both_taken h v u hv hu)

-- what an outcome gives
given_some : (j : Judged) (o : Option Value) (v : Value) → outcome j o ≡ Gives v → o ≡ Some v
given_some Passes None v h = absurd (cc)
given_some Passes (Some u) v h = let same : u ≡ v = cc in ap Some same
given_some (FailsAs k x) o v h = absurd (cc)
given_some NoOperand o v h = absurd (cc)

-- a pointer that is moved points into its block
moved_made : (n : ℕ) (v : Value) (d : ℤ) (x : Value) → IsOf scalars.Pointer v → IsMade n v → moved v d ≡ Some x → IsMade n x
moved_made n (values.Ptr p) d (values.Int t z) typed made h = tt
moved_made n (values.Ptr p) d (values.Ptr q) typed made h = let same : record p { offset = p.offset +ℤ d } ≡ q = cc in subst (λ (x : Pointer). x.block < n) same made
moved_made n (values.Ptr p) d values.Null typed made h = tt
moved_made n values.Null d (values.Int t z) typed made h = tt
moved_made n values.Null d (values.Ptr q) typed made h = absurd (cc)
moved_made n values.Null d values.Null typed made h = tt
moved_made n (values.Int t z) d x typed made h = absurd typed

pointer_moved : (n : ℕ) (j : Judged) (v : Value) (d : ℤ) (x : Value) → IsOf scalars.Pointer v → IsMade n v → outcome j (moved v d) ≡ Gives x → IsMade n x
pointer_moved n j v d x typed made h = moved_made n v d x typed made (given_some j (moved v d) x h)

pub operator_made : (n : ℕ) (objects : List ObjectTree) (m : ObjectMemory) {op : TBinaryOp} {a b : Scalar} → Operates op a b → (v u x : Value)
    → Has n a v → Has n b u → binary objects m op v u ≡ Gives x → IsOf (binary_type op) x → IsMade n x
operator_made n objects m (arithmetic {t = t}) v u x hv hu h typed = number_made n t x typed
operator_made n objects m (shift {t = t}) v u x hv hu h typed = number_made n t x typed
operator_made n objects m compare_ints v u x hv hu h typed = number_made n ints.Int x typed
operator_made n objects m compare_pointers v u x hv hu h typed = number_made n ints.Int x typed
operator_made n objects m {op = op} (plus_int {element = e} k) v (values.Int t z) x hv hu h typed =
    pointer_moved n (judge objects (binary_looks m op v (values.Int t z))) v (elements e z) x hv.typed hv.made h
operator_made n objects m (plus_int k) v (values.Ptr p) x hv hu h typed = absurd hu.typed
operator_made n objects m (plus_int k) v values.Null x hv hu h typed = absurd hu.typed
operator_made n objects m {op = op} (int_plus {element = e} k) (values.Int t z) u x hv hu h typed =
    pointer_moved n (judge objects (binary_looks m op (values.Int t z) u)) u (elements e z) x hu.typed hu.made h
operator_made n objects m (int_plus k) (values.Ptr p) u x hv hu h typed = absurd hv.typed
operator_made n objects m (int_plus k) values.Null u x hv hu h typed = absurd hv.typed
operator_made n objects m {op = op} (minus_int {element = e} k) v (values.Int t z) x hv hu h typed =
    pointer_moved n (judge objects (binary_looks m op v (values.Int t z))) v (neg_ℤ (elements e z)) x hv.typed hv.made h
operator_made n objects m (minus_int k) v (values.Ptr p) x hv hu h typed = absurd hu.typed
operator_made n objects m (minus_int k) v values.Null x hv hu h typed = absurd hu.typed
operator_made n objects m (difference k) v u x hv hu h typed = number_made n ints.Long x typed

pub taken_alone : (op : TUnaryOp) (a : Scalar) (v : Value) → OperatesOn op a → IsOf a v → TakesOne op a v
taken_alone (unaries.Plus t) a v h typed = (h, typed)
taken_alone (unaries.Minus t) a v h typed = (h, typed)
taken_alone (unaries.Complement t) a v h typed = (h, typed)
taken_alone unaries.Not a v h typed = typed

pub unary_made : (n : ℕ) (op : TUnaryOp) (x : Value) → IsOf (unary_type op) x → IsMade n x
unary_made n (unaries.Plus t) x typed = number_made n t x typed
unary_made n (unaries.Minus t) x typed = number_made n t x typed
unary_made n (unaries.Complement t) x typed = number_made n t x typed
unary_made n unaries.Not x typed = number_made n ints.Int x typed

pub member_made : (n : ℕ) (objects : List ObjectTree) (m : ObjectMemory) (v x : Value) (offset : ℕ) → Has n scalars.Pointer v
    → member objects m v offset ≡ Gives x → IsMade n x
member_made n objects m v x offset hv h = pointer_moved n (judge objects (member_looks m v offset)) v (pos offset) x hv.typed hv.made h

-- ---- conversions

-- a value that is there, of its type
abbrev pub HasSome : ℕ → Scalar → Option Value → Type 0
HasSome n ty None = ⊥
HasSome n ty (Some v) = Has n ty v

pub converted_has : (n : ℕ) {a b : Scalar} → Converts a b → (v : Value) → Has n a v → HasSome n b (converted_to b v)
converted_has n (to_int {t = t}) (values.Int u z) h = record { typed = (refl, wrapped_is_of t z); made = tt }
converted_has n to_int (values.Ptr p) h = absurd h.typed
converted_has n to_int values.Null h = absurd h.typed
converted_has n to_pointer (values.Int u z) h = absurd h.typed
converted_has n to_pointer (values.Ptr p) h = record { typed = tt; made = h.made }
converted_has n to_pointer values.Null h = record { typed = tt; made = tt }
