-- The checks of nodes are formed.
use Rattle.std.proofs.Common.{inl, inr, ℕ, ◌≤◌, [], ◌∷◌, Some, None, pos, refl, arith}
use Rattle.c_syntax_written.specs.declared.int_type.IntType.{IntType}
use Rattle.c_syntax_written.specs.declared.int_type.IntType.TheVariants as ints
use Rattle.c_syntax_written.specs.declared.place.Pos.{Pos}
use Rattle.c_syntax_written.specs.Integer.{HasNumber, is_signed, bytes}
use Rattle.c_syntax.specs.declared.alarm.WrongKind.TheVariants as kinds
use Rattle.c_syntax.specs.declared.operator.Arithmetic.{Arithmetic}
use Rattle.c_syntax.specs.declared.operator.Arithmetic.TheVariants.{Multiply, Divide, Remainder, Add, Subtract, BitAnd, BitXor, BitOr}
use Rattle.c_syntax.specs.declared.operator.Shift.{Shift}
use Rattle.c_syntax.specs.declared.operator.Shift.TheVariants.{Left, Right as ToRight}
use Rattle.c_syntax.specs.declared.operator.Comparison.{Comparison}
use Rattle.c_syntax.specs.declared.operator.Comparison.TheVariants.{Less, Greater, AtMost, AtLeast, Equal, Unequal}
use Rattle.c_syntax.specs.declared.operator.TUnaryOp.{TUnaryOp}
use Rattle.c_syntax.specs.declared.operator.TUnaryOp.TheVariants as unaries
use Rattle.c_syntax.specs.declared.operator.TBinaryOp.{TBinaryOp}
use Rattle.c_syntax.specs.declared.operator.TBinaryOp.TheVariants as binaries
use Rattle.c_layout.specs.Checks.{plain_check, access_check, pair_check, amount_check, scalar_bytes}
use Rattle.block_mem.specs.declared.types.Scalar.{Scalar}
use Rattle.block_mem.specs.declared.types.Scalar.TheVariants as scalars
use Rattle.c_values.specs.Values.{plain_type}
use Rattle.c_steps_laws.specs.Wants.{Operates, arithmetic, shift, compare_ints, compare_pointers, plus_int, int_plus, minus_int, difference, OperatesOn}
use Rattle.csharp.specs.Trees.{CsExprTree, Const, Null, Unary, Binary, CsProgramTree}
use Rattle.csharp.specs.Formed.{Around, HasType, IsNumber, IsPointer}
use Rattle.lower_trees.specs.Checking.{cs_check, load_list, store_list, read_list, write_list, binary_list, binary_one, unary_list, unary_one, move_list, moved, test_list, test_value}
use Rattle.lower_formed.specs.Right.{Frame, Good}
use Rattle.lower_formed.proofs.Terms.{AllRight, good_binary, good_unary, good_const, good_null, check_one, check_two, if_signed}

int_bytes : (t : IntType) → 1 ≤ bytes t
int_bytes ints.Char = omega arith
int_bytes ints.SChar = omega arith
int_bytes ints.UChar = omega arith
int_bytes ints.Short = omega arith
int_bytes ints.UShort = omega arith
int_bytes ints.Int = omega arith
int_bytes ints.UInt = omega arith
int_bytes ints.Long = omega arith
int_bytes ints.ULong = omega arith
int_bytes ints.LLong = omega arith
int_bytes ints.ULLong = omega arith

has_bytes : (ty : Scalar) → 1 ≤ scalar_bytes (plain_type (Some ty))
has_bytes (scalars.Int t) = int_bytes t
has_bytes scalars.Pointer = omega arith

module _ (q : CsProgramTree) (labels : Frame) where
  -- ---- accesses
  pub load_checked : (around : Around) (at : Pos) (ty : Scalar) (e : CsExprTree) → Good q around e → IsPointer q e → AllRight q labels around ((load_list at ty e))
  load_checked around at ty e g h =
      let n = scalar_bytes (plain_type (Some ty)) in
      let le = has_bytes ty in (
        check_one q labels around at None (plain_check kinds.NullUse) e g (inl h, refl, refl),
        ((
          check_one q labels around at None (plain_check kinds.Dangling) e g (inl h, refl, refl),
          ((
            check_one q labels around at None (access_check kinds.Access n n) e g (h, refl, (n, n, le, refl)),
            ((
              check_one q labels around at None (access_check kinds.Alignment n n) e g (h, refl, (n, n, le, refl)),
              ((
                check_one q labels around at (Some ty) (plain_check kinds.Indeterminate) e g (h, refl, refl),
                ((
                  check_one q labels around at (Some ty) (plain_check kinds.Fragment) e g (h, refl, refl),
                  tt,
                )),
              )),
            )),
          )),
        )),
      )

  pub read_checked : (around : Around) (at : Pos) (size align : ℕ) (e : CsExprTree) → 1 ≤ align → Good q around e → IsPointer q e → AllRight q labels around ((read_list at size align e))
  read_checked around at size align e le g h = (
    check_one q labels around at None (plain_check kinds.NullUse) e g (inl h, refl, refl),
    ((
      check_one q labels around at None (plain_check kinds.Dangling) e g (inl h, refl, refl),
      ((
        check_one q labels around at None (access_check kinds.Access size align) e g (h, refl, (size, align, le, refl)),
        ((
          check_one q labels around at None (access_check kinds.Alignment size align) e g (h, refl, (size, align, le, refl)),
          tt,
        )),
      )),
    )),
  )

  pub write_checked : (around : Around) (at : Pos) (size align : ℕ) (e : CsExprTree) → 1 ≤ align → Good q around e → IsPointer q e → AllRight q labels around ((write_list at size align e))
  write_checked around at size align e le g h = (
    check_one q labels around at None (plain_check kinds.NullUse) e g (inl h, refl, refl),
    ((
      check_one q labels around at None (plain_check kinds.Dangling) e g (inl h, refl, refl),
      ((
        check_one q labels around at None (access_check kinds.Access size align) e g (h, refl, (size, align, le, refl)),
        ((
          check_one q labels around at None (access_check kinds.Alignment size align) e g (h, refl, (size, align, le, refl)),
          ((
            check_one q labels around at None (plain_check kinds.ReadOnly) e g (h, refl, refl),
            tt,
          )),
        )),
      )),
    )),
  )

  pub store_checked : (around : Around) (at : Pos) (ty : Scalar) (e : CsExprTree) → Good q around e → IsPointer q e → AllRight q labels around ((store_list at ty e))
  store_checked around at ty e g h = write_checked around at (scalar_bytes (plain_type (Some ty))) (scalar_bytes (plain_type (Some ty))) e (has_bytes ty) g h

  -- ---- operators
  moved_checked : (around : Around) (at : Pos) (a whole : CsExprTree) → Good q around a → IsPointer q a → Good q around whole → IsPointer q whole
      → AllRight q labels around ((cs_check at None (a ∷ []) (plain_check kinds.NullUse) ∷ cs_check at None (a ∷ []) (plain_check kinds.Dangling) ∷ cs_check at None (whole ∷ []) (plain_check kinds.Bounds) ∷ []))
  moved_checked around at a whole g h k l = (
    check_one q labels around at None (plain_check kinds.NullUse) a g (inl h, refl, refl),
    ((
      check_one q labels around at None (plain_check kinds.Dangling) a g (inl h, refl, refl),
      ((
        check_one q labels around at None (plain_check kinds.Bounds) whole k (l, refl, refl),
        tt,
      )),
    )),
  )

  pair_checked : (around : Around) (at : Pos) (n : ℕ) (a b : CsExprTree) → Good q around a → IsPointer q a → Good q around b → IsPointer q b
      → AllRight q labels around ((cs_check at None (a ∷ b ∷ []) (plain_check kinds.Dangling) ∷ cs_check at None (a ∷ b ∷ []) (pair_check n) ∷ []))
  pair_checked around at n a b g h k l = (
    check_two q labels around at None (plain_check kinds.Dangling) a b g k (inr (h, l), refl, refl),
    ((
      check_two q labels around at None (pair_check n) a b g k ((h, l), refl, (n, refl)),
      tt,
    )),
  )

  order_checked : (around : Around) (at : Pos) (n : ℕ) (a b : CsExprTree) → Good q around a → IsPointer q a → Good q around b → IsPointer q b
      → AllRight q labels around ((cs_check at None (a ∷ b ∷ []) (plain_check kinds.NullUse) ∷ cs_check at None (a ∷ b ∷ []) (plain_check kinds.Dangling) ∷ cs_check at None (a ∷ b ∷ []) (pair_check n) ∷ []))
  order_checked around at n a b g h k l = (
    check_two q labels around at None (plain_check kinds.NullUse) a b g k (inr (h, l), refl, refl),
    (pair_checked around at n a b g h k l),
  )

  compared_checked : (around : Around) (at : Pos) (x : Comparison) (a b : CsExprTree) → Good q around a → IsPointer q a → Good q around b → IsPointer q b
      → AllRight q labels around ((binary_list at (binaries.ComparePointers x) a b))
  compared_checked around at Less a b g h k l = order_checked around at 1 a b g h k l
  compared_checked around at Greater a b g h k l = order_checked around at 1 a b g h k l
  compared_checked around at AtMost a b g h k l = order_checked around at 1 a b g h k l
  compared_checked around at AtLeast a b g h k l = order_checked around at 1 a b g h k l
  compared_checked around at Equal a b g h k l = pair_checked around at 0 a b g h k l
  compared_checked around at Unequal a b g h k l = pair_checked around at 0 a b g h k l

  arithmetic_checked : (around : Around) (at : Pos) (op : Arithmetic) (t : IntType) (a b : CsExprTree) → Good q around b → HasType q (scalars.Int t) b
      → Good q around (Binary (binaries.Arithmetic op t) a b) → AllRight q labels around ((binary_list at (binaries.Arithmetic op t) a b))
  arithmetic_checked around at Multiply t a b k l w =
      if_signed q labels around (is_signed t) _ (binary_one at (binaries.Arithmetic Multiply t) a b)
      (λ e. check_one q labels around at None _ (Binary (binaries.Arithmetic Multiply t) a b) w ((t, refl), refl, rw e refl))
  arithmetic_checked around at Divide t a b k l w = (
    check_one q labels around at None (plain_check kinds.DivideByZero) b k ((t, l), refl, refl),
    (if_signed q labels around (is_signed t) _ (binary_one at (binaries.Arithmetic Divide t) a b)
        (λ e. check_one q labels around at None _ (Binary (binaries.Arithmetic Divide t) a b) w ((t, refl), refl, rw e refl))),
  )
  arithmetic_checked around at Remainder t a b k l w = (
    check_one q labels around at None (plain_check kinds.DivideByZero) b k ((t, l), refl, refl),
    (if_signed q labels around (is_signed t) _ (binary_one at (binaries.Arithmetic Remainder t) a b)
        (λ e. check_one q labels around at None _ (Binary (binaries.Arithmetic Remainder t) a b) w ((t, refl), refl, rw e refl))),
  )
  arithmetic_checked around at Add t a b k l w =
      if_signed q labels around (is_signed t) _ (binary_one at (binaries.Arithmetic Add t) a b)
      (λ e. check_one q labels around at None _ (Binary (binaries.Arithmetic Add t) a b) w ((t, refl), refl, rw e refl))
  arithmetic_checked around at Subtract t a b k l w =
      if_signed q labels around (is_signed t) _ (binary_one at (binaries.Arithmetic Subtract t) a b)
      (λ e. check_one q labels around at None _ (Binary (binaries.Arithmetic Subtract t) a b) w ((t, refl), refl, rw e refl))
  arithmetic_checked around at BitAnd t a b k l w = tt
  arithmetic_checked around at BitXor t a b k l w = tt
  arithmetic_checked around at BitOr t a b k l w = tt

  shift_checked : (around : Around) (at : Pos) (way : Shift) (t u : IntType) (a b : CsExprTree) → Good q around b → HasType q (scalars.Int u) b
      → Good q around (Binary (binaries.Shift way t) a b) → AllRight q labels around ((binary_list at (binaries.Shift way t) a b))
  shift_checked around at Left t u a b k l w = (
    check_one q labels around at None (amount_check t) b k ((u, l), refl, (t, refl)),
    (if_signed q labels around (is_signed t) _ (binary_one at (binaries.Shift Left t) a b)
        (λ e. check_one q labels around at None _ (Binary (binaries.Shift Left t) a b) w ((t, refl), refl, rw e refl))),
  )
  shift_checked around at ToRight t u a b k l w = (
    check_one q labels around at None (amount_check t) b k ((u, l), refl, (t, refl)),
    tt,
  )

  pub binary_checked : {op : TBinaryOp} {s r : Scalar} (around : Around) (at : Pos) (a b : CsExprTree) → Operates op s r → Good q around a → HasType q s a → Good q around b → HasType q r b
      → AllRight q labels around ((binary_list at op a b))
  binary_checked around at a b (arithmetic {op = op} {t = t}) g h k l = arithmetic_checked around at op t a b k l (good_binary q labels around a b arithmetic g h k l)
  binary_checked around at a b (shift {way = way} {t = t} {u = u}) g h k l = shift_checked around at way t u a b k l (good_binary q labels around a b shift g h k l)
  binary_checked around at a b compare_ints g h k l = tt
  binary_checked around at a b (compare_pointers {c = x}) g h k l = compared_checked around at x a b g h k l
  binary_checked around at a b (plus_int z) g h k l = moved_checked around at a _ g h (good_binary q labels around a b (plus_int z) g h k l) refl
  binary_checked around at a b (int_plus z) g h k l = moved_checked around at b _ k l (good_binary q labels around a b (int_plus z) g h k l) refl
  binary_checked around at a b (minus_int z) g h k l = moved_checked around at a _ g h (good_binary q labels around a b (minus_int z) g h k l) refl
  binary_checked around at a b (difference {element = n} z) g h k l = order_checked around at n a b g h k l

  -- ---- tests
  pub test_checked : (around : Around) (at : Pos) (ty : Scalar) (e : CsExprTree) → Good q around e → HasType q ty e → AllRight q labels around ((test_list at (Some ty) e))
  test_checked around at (scalars.Int t) e g h = tt
  test_checked around at scalars.Pointer e g h = (
    check_one q labels around at None (plain_check kinds.Dangling) e g (inl h, refl, refl),
    tt,
  )

  pub test_good : (around : Around) (ty : Scalar) (e : CsExprTree) → Good q around e → HasType q ty e → Good q around (test_value (Some ty) e) × IsNumber q (test_value (Some ty) e)
  test_good around (scalars.Int t) e g h = (g, (t, h))
  test_good around scalars.Pointer e g h = (good_binary q labels around e Null compare_pointers g h (good_null q labels around) refl, (ints.Int, refl))

  pub unary_checked : (around : Around) (at : Pos) (op : TUnaryOp) (ty : Scalar) (e : CsExprTree) → OperatesOn op ty → Good q around e → HasType q ty e
      → AllRight q labels around ((unary_list at op (Some ty) e))
  unary_checked around at (unaries.Plus t) ty e o g h = tt
  unary_checked around at (unaries.Minus t) ty e o g h =
      if_signed q labels around (is_signed t) _ (unary_one at (unaries.Minus t) e)
      (λ x. check_one q labels around at None _ (Unary (unaries.Minus t) e) (good_unary q labels (unaries.Minus t) ty around e o g h) ((t, refl), refl, rw x refl))
  unary_checked around at (unaries.Complement t) ty e o g h = tt
  unary_checked around at unaries.Not (scalars.Int t) e o g h = tt
  unary_checked around at unaries.Not scalars.Pointer e o g h = (
    check_one q labels around at None (plain_check kinds.Dangling) e g (inl h, refl, refl),
    tt,
  )

  -- ---- members
  pub moved_good : (around : Around) (e : CsExprTree) (offset : ℕ) → HasNumber ints.Long (pos offset) → Good q around e → IsPointer q e → Good q around (moved e offset)
  moved_good around e offset h g k = good_binary q labels around e (Const ints.Long (pos offset)) (plus_int (omega arith, omega arith)) g k (good_const q labels ints.Long (pos offset) around h) refl

  pub member_checked : (around : Around) (at : Pos) (e : CsExprTree) (offset : ℕ) → HasNumber ints.Long (pos offset) → Good q around e → IsPointer q e
      → AllRight q labels around ((move_list at e offset))
  member_checked around at e offset h g k = moved_checked around at e (moved e offset) g k (moved_good around e offset h g k) refl
