-- Where the test says so, two expressions are one.
use Rattle.std.proofs.Common.{◌≡◌, ◌==◌, ◌&&◌, ℕ, Bool, true, false, refl, ap, ◌∙◌, subst}
use Rattle.std.specs.Ordering.{int_eq}
use Rattle.std.proofs.lemmas.Bool.{and_parts, eq-eqb, eqb-true}
use Rattle.std.proofs.lemmas.Bool.Decides.{Decides-int_eq}
use Rattle.c_syntax_written.specs.declared.int_type.IntType.{IntType}
use Rattle.c_syntax_written.specs.declared.int_type.IntType.TheVariants as ints
use Rattle.c_syntax.specs.declared.operator.Arithmetic.{Arithmetic}
use Rattle.c_syntax.specs.declared.operator.Arithmetic.TheVariants as arithmetics
use Rattle.c_syntax.specs.declared.operator.Shift.{Shift}
use Rattle.c_syntax.specs.declared.operator.Shift.TheVariants as shifts
use Rattle.c_syntax.specs.declared.operator.Comparison.{Comparison}
use Rattle.c_syntax.specs.declared.operator.Comparison.TheVariants as comparisons
use Rattle.c_syntax.specs.declared.operator.TUnaryOp.{TUnaryOp}
use Rattle.c_syntax.specs.declared.operator.TUnaryOp.TheVariants as unaries
use Rattle.c_syntax.specs.declared.operator.TBinaryOp.{TBinaryOp}
use Rattle.c_syntax.specs.declared.operator.TBinaryOp.TheVariants as binaries
use Rattle.csharp.specs.Trees.{CsExprTree, Const, Null, Temp, Address, Unary, Binary, Convert}
use Rattle.csharp.specs.SameExprs.{is_same_type, is_same_arithmetic, is_same_shift, is_same_comparison, is_same_unary, is_same_binary, is_same_expr}

-- ---- types and operators

pub one_type : (one other : IntType) → is_same_type one other ≡ true → one ≡ other
one_type ints.Char ints.Char e = refl
one_type ints.SChar ints.SChar e = refl
one_type ints.UChar ints.UChar e = refl
one_type ints.Short ints.Short e = refl
one_type ints.UShort ints.UShort e = refl
one_type ints.Int ints.Int e = refl
one_type ints.UInt ints.UInt e = refl
one_type ints.Long ints.Long e = refl
one_type ints.ULong ints.ULong e = refl
one_type ints.LLong ints.LLong e = refl
one_type ints.ULLong ints.ULLong e = refl
one_type one other e = absurd (cc)

pub type_itself : (one : IntType) → is_same_type one one ≡ true
type_itself ints.Char = refl
type_itself ints.SChar = refl
type_itself ints.UChar = refl
type_itself ints.Short = refl
type_itself ints.UShort = refl
type_itself ints.Int = refl
type_itself ints.UInt = refl
type_itself ints.Long = refl
type_itself ints.ULong = refl
type_itself ints.LLong = refl
type_itself ints.ULLong = refl

pub same_type : (one other : IntType) → one ≡ other → is_same_type one other ≡ true
same_type one other e = subst (λ x. is_same_type one x ≡ true) e (type_itself one)

pub one_arithmetic : (one other : Arithmetic) → is_same_arithmetic one other ≡ true → one ≡ other
one_arithmetic arithmetics.Multiply arithmetics.Multiply e = refl
one_arithmetic arithmetics.Divide arithmetics.Divide e = refl
one_arithmetic arithmetics.Remainder arithmetics.Remainder e = refl
one_arithmetic arithmetics.Add arithmetics.Add e = refl
one_arithmetic arithmetics.Subtract arithmetics.Subtract e = refl
one_arithmetic arithmetics.BitAnd arithmetics.BitAnd e = refl
one_arithmetic arithmetics.BitXor arithmetics.BitXor e = refl
one_arithmetic arithmetics.BitOr arithmetics.BitOr e = refl
one_arithmetic one other e = absurd (cc)

pub arithmetic_itself : (one : Arithmetic) → is_same_arithmetic one one ≡ true
arithmetic_itself arithmetics.Multiply = refl
arithmetic_itself arithmetics.Divide = refl
arithmetic_itself arithmetics.Remainder = refl
arithmetic_itself arithmetics.Add = refl
arithmetic_itself arithmetics.Subtract = refl
arithmetic_itself arithmetics.BitAnd = refl
arithmetic_itself arithmetics.BitXor = refl
arithmetic_itself arithmetics.BitOr = refl

pub same_arithmetic : (one other : Arithmetic) → one ≡ other → is_same_arithmetic one other ≡ true
same_arithmetic one other e = subst (λ x. is_same_arithmetic one x ≡ true) e (arithmetic_itself one)

pub one_shift : (one other : Shift) → is_same_shift one other ≡ true → one ≡ other
one_shift shifts.Left shifts.Left e = refl
one_shift shifts.Right shifts.Right e = refl
one_shift one other e = absurd (cc)

pub shift_itself : (one : Shift) → is_same_shift one one ≡ true
shift_itself shifts.Left = refl
shift_itself shifts.Right = refl

pub same_shift : (one other : Shift) → one ≡ other → is_same_shift one other ≡ true
same_shift one other e = subst (λ x. is_same_shift one x ≡ true) e (shift_itself one)

pub one_comparison : (one other : Comparison) → is_same_comparison one other ≡ true → one ≡ other
one_comparison comparisons.Less comparisons.Less e = refl
one_comparison comparisons.Greater comparisons.Greater e = refl
one_comparison comparisons.AtMost comparisons.AtMost e = refl
one_comparison comparisons.AtLeast comparisons.AtLeast e = refl
one_comparison comparisons.Equal comparisons.Equal e = refl
one_comparison comparisons.Unequal comparisons.Unequal e = refl
one_comparison one other e = absurd (cc)

pub comparison_itself : (one : Comparison) → is_same_comparison one one ≡ true
comparison_itself comparisons.Less = refl
comparison_itself comparisons.Greater = refl
comparison_itself comparisons.AtMost = refl
comparison_itself comparisons.AtLeast = refl
comparison_itself comparisons.Equal = refl
comparison_itself comparisons.Unequal = refl

pub same_comparison : (one other : Comparison) → one ≡ other → is_same_comparison one other ≡ true
same_comparison one other e = subst (λ x. is_same_comparison one x ≡ true) e (comparison_itself one)

one_unary : (op other : TUnaryOp) → is_same_unary op other ≡ true → op ≡ other
one_unary (unaries.Plus t) (unaries.Plus u) e = ap unaries.Plus (one_type t u e)
one_unary (unaries.Minus t) (unaries.Minus u) e = ap unaries.Minus (one_type t u e)
one_unary (unaries.Complement t) (unaries.Complement u) e = ap unaries.Complement (one_type t u e)
one_unary unaries.Not unaries.Not e = refl
one_unary op other e = absurd (cc)

one_binary : (op other : TBinaryOp) → is_same_binary op other ≡ true → op ≡ other
one_binary (binaries.Arithmetic op t) (binaries.Arithmetic other u) e =
    let both = and_parts (is_same_arithmetic op other) (is_same_type t u) e in
    ap (λ o. binaries.Arithmetic o t) (one_arithmetic op other both.0) ∙ ap (binaries.Arithmetic other) (one_type t u both.1)
one_binary (binaries.Shift op t) (binaries.Shift other u) e =
    let both = and_parts (is_same_shift op other) (is_same_type t u) e in
    ap (λ o. binaries.Shift o t) (one_shift op other both.0) ∙ ap (binaries.Shift other) (one_type t u both.1)
one_binary (binaries.CompareInts op t) (binaries.CompareInts other u) e =
    let both = and_parts (is_same_comparison op other) (is_same_type t u) e in
    ap (λ o. binaries.CompareInts o t) (one_comparison op other both.0) ∙ ap (binaries.CompareInts other) (one_type t u both.1)
one_binary (binaries.ComparePointers op) (binaries.ComparePointers other) e = ap binaries.ComparePointers (one_comparison op other e)
one_binary (binaries.PointerPlusInt n) (binaries.PointerPlusInt m) e = ap binaries.PointerPlusInt (eqb-true n m e)
one_binary (binaries.IntPlusPointer n) (binaries.IntPlusPointer m) e = ap binaries.IntPlusPointer (eqb-true n m e)
one_binary (binaries.PointerMinusInt n) (binaries.PointerMinusInt m) e = ap binaries.PointerMinusInt (eqb-true n m e)
one_binary (binaries.PointerMinusPointer n) (binaries.PointerMinusPointer m) e = ap binaries.PointerMinusPointer (eqb-true n m e)
one_binary op other e = absurd (cc)

-- ---- expressions

pub one_expr : (e f : CsExprTree) → is_same_expr e f ≡ true → e ≡ f
one_expr (Const t n) (Const u m) h =
    let both = and_parts (is_same_type t u) (int_eq n m) h in ap (λ k. Const k n) (one_type t u both.0) ∙ ap (Const u) ((Decides-int_eq n m).0 both.1)
one_expr Null Null h = refl
one_expr (Temp d) (Temp k) h = ap Temp (eqb-true d k h)
one_expr (Address x) (Address y) h = ap Address (eqb-true x y h)
one_expr (Unary op e) (Unary other f) h =
    let both = and_parts (is_same_unary op other) (is_same_expr e f) h in ap (λ o. Unary o e) (one_unary op other both.0) ∙ ap (Unary other) (one_expr e f both.1)
one_expr (Binary op a b) (Binary other c d) h =
    let both = and_parts (is_same_binary op other && is_same_expr a c) (is_same_expr b d) h in
    let first = and_parts (is_same_binary op other) (is_same_expr a c) both.0 in
    ap (λ o. Binary o a b) (one_binary op other first.0) ∙ ap (λ x. Binary other x b) (one_expr a c first.1) ∙ ap (Binary other c) (one_expr b d both.1)
one_expr (Convert t e) (Convert u f) h =
    let both = and_parts (is_same_type t u) (is_same_expr e f) h in ap (λ k. Convert k e) (one_type t u both.0) ∙ ap (Convert u) (one_expr e f both.1)
one_expr e f h = absurd (cc)

-- ---- an expression is itself

both : (a b : Bool) → a ≡ true → b ≡ true → (a && b) ≡ true
both true true h k = refl
both true false h k = absurd (cc)
both false b h k = absurd (cc)

same_number : (n : ℕ) → (n == n) ≡ true
same_number n = eq-eqb n n refl

unary_itself : (op : TUnaryOp) → is_same_unary op op ≡ true
unary_itself (unaries.Plus t) = type_itself t
unary_itself (unaries.Minus t) = type_itself t
unary_itself (unaries.Complement t) = type_itself t
unary_itself unaries.Not = refl

binary_itself : (op : TBinaryOp) → is_same_binary op op ≡ true
binary_itself (binaries.Arithmetic op t) = both (is_same_arithmetic op op) (is_same_type t t) (arithmetic_itself op) (type_itself t)
binary_itself (binaries.Shift way t) = both (is_same_shift way way) (is_same_type t t) (shift_itself way) (type_itself t)
binary_itself (binaries.CompareInts c t) = both (is_same_comparison c c) (is_same_type t t) (comparison_itself c) (type_itself t)
binary_itself (binaries.ComparePointers c) = comparison_itself c
binary_itself (binaries.PointerPlusInt n) = same_number n
binary_itself (binaries.IntPlusPointer n) = same_number n
binary_itself (binaries.PointerMinusInt n) = same_number n
binary_itself (binaries.PointerMinusPointer n) = same_number n

pub expr_itself : (e : CsExprTree) → is_same_expr e e ≡ true
expr_itself (Const t n) = both (is_same_type t t) (int_eq n n) (type_itself t) ((Decides-int_eq n n).1 refl)
expr_itself Null = refl
expr_itself (Temp d) = same_number d
expr_itself (Address x) = same_number x
expr_itself (Unary op e) = both (is_same_unary op op) (is_same_expr e e) (unary_itself op) (expr_itself e)
expr_itself (Binary op a b) = both (is_same_binary op op && is_same_expr a a) (is_same_expr b b)
    (both (is_same_binary op op) (is_same_expr a a) (binary_itself op) (expr_itself a)) (expr_itself b)
expr_itself (Convert t e) = both (is_same_type t t) (is_same_expr e e) (type_itself t) (expr_itself e)
