-- What the rows of typed nodes say of the operands and results of the machine's rows.
use Rattle.std.proofs.Common.{◌≡◌, ℕ, Bool, List, Some, refl, sym, ap, ◌∙◌, inl, inr, pos, arith}
use Rattle.std.proofs.lemmas.Int.{ints as numbers}
use Rattle.c_syntax_written.specs.declared.int_type.IntType.{IntType}
use Rattle.c_syntax_written.specs.declared.int_type.IntType.TheVariants as ints
use Rattle.c_syntax_written.specs.declared.step.StepWay.{StepWay}
use Rattle.c_syntax_written.specs.declared.step.StepWay.TheVariants as ways
use Rattle.c_syntax.specs.declared.operator.Comparison.{Comparison}
use Rattle.c_syntax.specs.declared.operator.Comparison.TheVariants.{Less, Greater, AtMost, AtLeast, Equal, Unequal}
use Rattle.c_syntax.specs.declared.operator.Stride.{Stride}
use Rattle.c_syntax.specs.declared.operator.Stride.TheVariants as strides
use Rattle.c_syntax.specs.declared.operator.TUnaryOp.{TUnaryOp}
use Rattle.c_syntax.specs.declared.operator.TUnaryOp.TheVariants as unaries
use Rattle.c_syntax.specs.declared.operator.TBinaryOp.{TBinaryOp}
use Rattle.c_syntax.specs.declared.operator.TBinaryOp.TheVariants as binaries
use Rattle.c_syntax.specs.Types.{CTypeTree, Void, Int, Pointer, Array, Struct, Function}
use Rattle.c_syntax.specs.TypedParts as parts
use Rattle.c_syntax.specs.TypedParts.{decayed}
use Rattle.c_syntax.specs.Program.{StructDefTree}
use Rattle.c_layout.specs.RowTypes.{IsInteger, IsPointer, IsScalar, IsVoidPointer, unqualified, SameType, PointsToSize, UnaryRow, PointersRow, EqualityRow, BinaryRow, StoreRow, CompoundRow, StepRow}
use Rattle.c_layout.specs.TypedNodes.{IsArray, IsStruct}
use Rattle.block_mem.specs.declared.types.Scalar.{Scalar}
use Rattle.block_mem.specs.declared.types.Scalar.TheVariants as scalars
use Rattle.block_mem.specs.declared.types.Value.TheVariants as values
use Rattle.block_mem.specs.Bytes.{IsOf}
use Rattle.c_values.specs.Operators.{one}
use Rattle.c_values.specs.Typed.{IsElement, binary_type, unary_type}
use Rattle.c_values.specs.Values.{scalar_of}
use Rattle.c_steps.specs.Changes.{step_operator}
use Rattle.c_steps_laws.specs.Takes.{Changes}
use Rattle.c_steps_laws.specs.Wants.{Of, OfStruct, want_of, Operates, arithmetic, shift, compare_ints, compare_pointers, plus_int, int_plus, minus_int, difference, OperatesOn, to_int, to_pointer}

-- a type that is the scalar
abbrev pub Is : CTypeTree → Scalar → Type 0
Is ty s = scalar_of ty ≡ Some s

pub pointer_is : (ty : CTypeTree) → IsPointer ty → Is ty scalars.Pointer
pointer_is Void h = absurd h
pointer_is (Int t) h = absurd h
pointer_is (Pointer to c) h = refl
pointer_is (Array of c n) h = absurd h
pointer_is (Struct n) h = absurd h
pointer_is (Function n) h = absurd h

pub integer_is : (ty : CTypeTree) → IsInteger ty → (t : IntType) × Is ty (scalars.Int t)
integer_is Void h = absurd h
integer_is (Int t) h = (t, refl)
integer_is (Pointer to c) h = absurd h
integer_is (Array of c n) h = absurd h
integer_is (Struct n) h = absurd h
integer_is (Function n) h = absurd h

pub scalar_is : (ty : CTypeTree) → IsScalar ty → (s : Scalar) × Is ty s
scalar_is Void h = absurd h
scalar_is (Int t) h = (scalars.Int t, refl)
scalar_is (Pointer to c) h = (scalars.Pointer, refl)
scalar_is (Array of c n) h = absurd h
scalar_is (Struct n) h = absurd h
scalar_is (Function n) h = absurd h

-- const does not matter
unqualified_scalar : (ty : CTypeTree) → scalar_of (unqualified ty) ≡ scalar_of ty
unqualified_scalar Void = refl
unqualified_scalar (Int t) = refl
unqualified_scalar (Pointer to c) = refl
unqualified_scalar (Array of c n) = refl
unqualified_scalar (Struct n) = refl
unqualified_scalar (Function n) = refl

pub same_scalar : (a b : CTypeTree) → SameType a b → scalar_of a ≡ scalar_of b
same_scalar a b h = sym (unqualified_scalar a) ∙ ap scalar_of h ∙ unqualified_scalar b

is_same : (a b : CTypeTree) (s : Scalar) → SameType a b → Is a s → Is b s
is_same a b s h e = sym (same_scalar a b h) ∙ e

unqualified_want : (ty : CTypeTree) → want_of (unqualified ty) ≡ want_of ty
unqualified_want Void = refl
unqualified_want (Int t) = refl
unqualified_want (Pointer to c) = refl
unqualified_want (Array of c n) = refl
unqualified_want (Struct n) = refl
unqualified_want (Function n) = refl

pub same_want : (a b : CTypeTree) → SameType a b → want_of a ≡ want_of b
same_want a b h = sym (unqualified_want a) ∙ ap want_of h ∙ unqualified_want b

pub want_is : (ty : CTypeTree) (s : Scalar) → Is ty s → want_of ty ≡ Of s
want_is Void s e = absurd (cc)
want_is (Int t) s e = cc
want_is (Pointer to c) s e = cc
want_is (Array of c n) s e = absurd (cc)
want_is (Struct n) s e = absurd (cc)
want_is (Function n) s e = absurd (cc)

pub struct_want : (ty : CTypeTree) → IsStruct ty → want_of ty ≡ OfStruct
struct_want Void h = absurd h
struct_want (Int t) h = absurd h
struct_want (Pointer to c) h = absurd h
struct_want (Array of c n) h = absurd h
struct_want (Struct n) h = refl
struct_want (Function n) h = absurd h

pub decays : (ty : CTypeTree) (c : Bool) → IsArray ty → want_of (decayed ty c) ≡ Of scalars.Pointer
decays Void c h = absurd h
decays (Int t) c h = absurd h
decays (Pointer to d) c h = absurd h
decays (Array of d n) c h = refl
decays (Struct n) c h = absurd h
decays (Function n) c h = absurd h

pub sized_pointer : (structs : List StructDefTree) (ty : CTypeTree) (n : ℕ) → PointsToSize structs ty n → IsPointer ty
sized_pointer structs Void n h = absurd h
sized_pointer structs (Int t) n h = absurd h
sized_pointer structs (Pointer to c) n h = tt
sized_pointer structs (Array of c k) n h = absurd h
sized_pointer structs (Struct k) n h = absurd h
sized_pointer structs (Function k) n h = absurd h

void_pointer : (ty : CTypeTree) → IsVoidPointer ty → IsPointer ty
void_pointer Void h = absurd h
void_pointer (Int t) h = absurd h
void_pointer (Pointer to c) h = tt
void_pointer (Array of c k) h = absurd h
void_pointer (Struct k) h = absurd h
void_pointer (Function k) h = absurd h

-- 1 is a number of every integer type
pub one_number : (t : IntType) → IsOf (scalars.Int t) (values.Int t (pos 1))
one_number ints.Char = (refl, record { sfits = omega (arith, numbers) })
one_number ints.SChar = (refl, record { sfits = omega (arith, numbers) })
one_number ints.UChar = (refl, (omega (arith, numbers), omega (arith, numbers)))
one_number ints.Short = (refl, record { sfits = omega (arith, numbers) })
one_number ints.UShort = (refl, (omega (arith, numbers), omega (arith, numbers)))
one_number ints.Int = (refl, record { sfits = omega (arith, numbers) })
one_number ints.UInt = (refl, (omega (arith, numbers), omega (arith, numbers)))
one_number ints.Long = (refl, record { sfits = omega (arith, numbers) })
one_number ints.ULong = (refl, (omega (arith, numbers), omega (arith, numbers)))
one_number ints.LLong = (refl, record { sfits = omega (arith, numbers) })
one_number ints.ULLong = (refl, (omega (arith, numbers), omega (arith, numbers)))

-- ---- operators

pub record Binary (op : TBinaryOp) (left right : CTypeTree) : Type 0 where
  pub a : Scalar
  pub b : Scalar
  pub operates : Operates op a b
  pub is_left : Is left a
  pub is_right : Is right b
  pub gives : Is (parts.binary_type op left right) (binary_type op)

equality_row : (l r : CTypeTree) → EqualityRow l r → Is l scalars.Pointer × Is r scalars.Pointer
equality_row l r (inl (h, e)) = (pointer_is l h, is_same l r _ e (pointer_is l h))
equality_row l r (inr (inl (h, e))) = (pointer_is l h, pointer_is r (void_pointer r e))
equality_row l r (inr (inr (h, e))) = (pointer_is l (void_pointer l h), pointer_is r e)

pointers_row : (x : Comparison) (l r : CTypeTree) → PointersRow x l r → Is l scalars.Pointer × Is r scalars.Pointer
pointers_row Less l r (h, e) = (pointer_is l h, is_same l r _ e (pointer_is l h))
pointers_row Greater l r (h, e) = (pointer_is l h, is_same l r _ e (pointer_is l h))
pointers_row AtMost l r (h, e) = (pointer_is l h, is_same l r _ e (pointer_is l h))
pointers_row AtLeast l r (h, e) = (pointer_is l h, is_same l r _ e (pointer_is l h))
pointers_row Equal l r h = equality_row l r h
pointers_row Unequal l r h = equality_row l r h

-- elements are as large as may be
module _ (structs : List StructDefTree) (Good : CTypeTree → Type 0) (sized : (ty : CTypeTree) (n : ℕ) → Good ty → PointsToSize structs ty n → IsElement n) where
  pub binary_row : (op : TBinaryOp) (l r : CTypeTree) → Good l → Good r → BinaryRow structs op l r → Binary op l r
  binary_row (binaries.Arithmetic op t) l r gl gr (e, f, g) =
      record { a = scalars.Int t; b = scalars.Int t; operates = arithmetic; is_left = ap scalar_of e; is_right = ap scalar_of f; gives = refl }
  binary_row (binaries.Shift way t) l r gl gr (e, f, g) =
      let k = integer_is r g in
      record { a = scalars.Int t; b = scalars.Int k.0; operates = shift; is_left = ap scalar_of e; is_right = k.1; gives = refl }
  binary_row (binaries.CompareInts x t) l r gl gr (e, f, g) =
      record { a = scalars.Int t; b = scalars.Int t; operates = compare_ints; is_left = ap scalar_of e; is_right = ap scalar_of f; gives = refl }
  binary_row (binaries.ComparePointers x) l r gl gr h =
      let k = pointers_row x l r h in
      record { a = scalars.Pointer; b = scalars.Pointer; operates = compare_pointers; is_left = k.0; is_right = k.1; gives = refl }
  binary_row (binaries.PointerPlusInt n) l r gl gr (e, f) =
      let k = integer_is r f in let p = pointer_is l (sized_pointer structs l n e) in
      record { a = scalars.Pointer; b = scalars.Int k.0; operates = plus_int (sized l n gl e); is_left = p; is_right = k.1; gives = p }
  binary_row (binaries.IntPlusPointer n) l r gl gr (e, f) =
      let k = integer_is l f in let p = pointer_is r (sized_pointer structs r n e) in
      record { a = scalars.Int k.0; b = scalars.Pointer; operates = int_plus (sized r n gr e); is_left = k.1; is_right = p; gives = p }
  binary_row (binaries.PointerMinusInt n) l r gl gr (e, f) =
      let k = integer_is r f in let p = pointer_is l (sized_pointer structs l n e) in
      record { a = scalars.Pointer; b = scalars.Int k.0; operates = minus_int (sized l n gl e); is_left = p; is_right = k.1; gives = p }
  binary_row (binaries.PointerMinusPointer n) l r gl gr ((e, f), g) =
      record { a = scalars.Pointer; b = scalars.Pointer; operates = difference (sized l n gl g); is_left = pointer_is l e; is_right = is_same l r _ f (pointer_is l e); gives = refl }

  -- `op=`: what stands in the place becomes of the operator's type and back
  pub record Compounds (op : TBinaryOp) (target value : CTypeTree) : Type 0 where
    pub place : Scalar
    pub right : Scalar
    pub changes : Changes op place right
    pub is_place : Is target place
    pub is_value : Is value right

  pub compound_row : (op : TBinaryOp) (target value : CTypeTree) → Good target → CompoundRow structs op target value → Compounds op target value
  compound_row (binaries.Arithmetic op t) (Int k) value good (e, f) = record {
    place = scalars.Int k;
    right = scalars.Int t;
    is_place = refl;
    is_value = ap scalar_of e;
    changes = record { left = scalars.Int t; is_left = refl; operates = arithmetic; gives = refl; there = to_int; back = to_int };
  }
  compound_row (binaries.Shift way t) (Int k) value good (e, f) =
      let j = integer_is value f in
      record {
        place = scalars.Int k;
        right = scalars.Int j.0;
        is_place = refl;
        is_value = j.1;
        changes = record { left = scalars.Int t; is_left = refl; operates = shift; gives = refl; there = to_int; back = to_int };
      }
  compound_row (binaries.PointerPlusInt n) target value good (e, f) =
      let j = integer_is value f in
      record {
        place = scalars.Pointer;
        right = scalars.Int j.0;
        is_place = pointer_is target (sized_pointer structs target n e);
        is_value = j.1;
        changes = record { left = scalars.Pointer; is_left = refl; operates = plus_int (sized target n good e); gives = refl; there = to_pointer; back = to_pointer };
      }
  compound_row (binaries.PointerMinusInt n) target value good (e, f) =
      let j = integer_is value f in
      record {
        place = scalars.Pointer;
        right = scalars.Int j.0;
        is_place = pointer_is target (sized_pointer structs target n e);
        is_value = j.1;
        changes = record { left = scalars.Pointer; is_left = refl; operates = minus_int (sized target n good e); gives = refl; there = to_pointer; back = to_pointer };
      }
  compound_row (binaries.Arithmetic op t) Void value good h = absurd h
  compound_row (binaries.Arithmetic op t) (Pointer to c) value good h = absurd h
  compound_row (binaries.Arithmetic op t) (Array of c n) value good h = absurd h
  compound_row (binaries.Arithmetic op t) (Struct n) value good h = absurd h
  compound_row (binaries.Arithmetic op t) (Function n) value good h = absurd h
  compound_row (binaries.Shift way t) Void value good h = absurd h
  compound_row (binaries.Shift way t) (Pointer to c) value good h = absurd h
  compound_row (binaries.Shift way t) (Array of c n) value good h = absurd h
  compound_row (binaries.Shift way t) (Struct n) value good h = absurd h
  compound_row (binaries.Shift way t) (Function n) value good h = absurd h
  compound_row (binaries.CompareInts x t) target value good h = absurd h
  compound_row (binaries.ComparePointers x) target value good h = absurd h
  compound_row (binaries.IntPlusPointer n) target value good h = absurd h
  compound_row (binaries.PointerMinusPointer n) target value good h = absurd h

  -- `++` and `--`
  pub record Steps (way : StepWay) (stride : Stride) (target : CTypeTree) : Type 0 where
    pub place : Scalar
    pub right : Scalar
    pub is_one : IsOf right (one stride)
    pub changes : Changes (step_operator way stride) place right
    pub is_place : Is target place

  pub step_row : (way : StepWay) (stride : Stride) (target : CTypeTree) → Good target → StepRow structs stride target → Steps way stride target
  step_row ways.Up (strides.Int t) (Int k) good h = record {
    place = scalars.Int k;
    right = scalars.Int t;
    is_one = one_number t;
    is_place = refl;
    changes = record { left = scalars.Int t; is_left = refl; operates = arithmetic; gives = refl; there = to_int; back = to_int };
  }
  step_row ways.Down (strides.Int t) (Int k) good h = record {
    place = scalars.Int k;
    right = scalars.Int t;
    is_one = one_number t;
    is_place = refl;
    changes = record { left = scalars.Int t; is_left = refl; operates = arithmetic; gives = refl; there = to_int; back = to_int };
  }
  step_row ways.Up (strides.Element n) target good h = record {
    place = scalars.Pointer;
    right = scalars.Int ints.Int;
    is_one = one_number ints.Int;
    is_place = pointer_is target (sized_pointer structs target n h);
    changes = record { left = scalars.Pointer; is_left = refl; operates = plus_int (sized target n good h); gives = refl; there = to_pointer; back = to_pointer };
  }
  step_row ways.Down (strides.Element n) target good h = record {
    place = scalars.Pointer;
    right = scalars.Int ints.Int;
    is_one = one_number ints.Int;
    is_place = pointer_is target (sized_pointer structs target n h);
    changes = record { left = scalars.Pointer; is_left = refl; operates = minus_int (sized target n good h); gives = refl; there = to_pointer; back = to_pointer };
  }
  step_row way (strides.Int t) Void good h = absurd h
  step_row way (strides.Int t) (Pointer to c) good h = absurd h
  step_row way (strides.Int t) (Array of c n) good h = absurd h
  step_row way (strides.Int t) (Struct n) good h = absurd h
  step_row way (strides.Int t) (Function n) good h = absurd h

pub record Unary (op : TUnaryOp) (ty : CTypeTree) : Type 0 where
  pub a : Scalar
  pub operates : OperatesOn op a
  pub is : Is ty a
  pub gives : want_of (parts.unary_type op) ≡ Of (unary_type op)

pub unary_row : (op : TUnaryOp) (ty : CTypeTree) → UnaryRow op ty → Unary op ty
unary_row (unaries.Plus t) ty (e, f) = record { a = scalars.Int t; operates = refl; is = ap scalar_of e; gives = refl }
unary_row (unaries.Minus t) ty (e, f) = record { a = scalars.Int t; operates = refl; is = ap scalar_of e; gives = refl }
unary_row (unaries.Complement t) ty (e, f) = record { a = scalars.Int t; operates = refl; is = ap scalar_of e; gives = refl }
unary_row unaries.Not ty h = let k = scalar_is ty h in record { a = k.0; operates = tt; is = k.1; gives = refl }

-- a store, an argument or a `return`
pub store_row : (target value : CTypeTree) → StoreRow target value → (s : Scalar) × Is target s × Is value s
store_row target value h = let k = scalar_is target h.scalar in (k.0, k.1, same_scalar value target h.same ∙ k.1)
