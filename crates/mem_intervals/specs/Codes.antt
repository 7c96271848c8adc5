-- A code of expressions, by which a proof tells two from each other: an expression is written down part by part, each behind its own parts.
use Rattle.std.specs.Prelude.{ℕ, ℤ, ◌≡◌, ◌⊎◌, List, [], ◌∷◌, nat_eq, if◌then◌else◌, refl}
use mathlib.Core.Path.{ap, ◌∙◌}
use mathlib.Core.Logic.{inl, inr}
use Rattle.std.specs.Coded.{Coded, code_by, coded⊎, coded×, coded_list, coded_ℕ, coded_ℤ}
use Rattle.c_syntax_written.specs.declared.int_type.IntType.{IntType}
use Rattle.c_syntax_written.specs.declared.int_type.IntType.TheVariants as ints
use Rattle.c_syntax.specs.declared.operator.Arithmetic.{Arithmetic}
use Rattle.c_syntax.specs.declared.operator.Arithmetic.TheVariants as arithmetics
use Rattle.c_syntax.specs.declared.operator.Shift.{Shift}
use Rattle.c_syntax.specs.declared.operator.Shift.TheVariants as shifts
use Rattle.c_syntax.specs.declared.operator.Comparison.{Comparison}
use Rattle.c_syntax.specs.declared.operator.Comparison.TheVariants as comparisons
use Rattle.c_syntax.specs.declared.operator.TUnaryOp.{TUnaryOp}
use Rattle.c_syntax.specs.declared.operator.TUnaryOp.TheVariants as unaries
use Rattle.c_syntax.specs.declared.operator.TBinaryOp.{TBinaryOp}
use Rattle.c_syntax.specs.declared.operator.TBinaryOp.TheVariants as binaries
use Rattle.csharp.specs.Trees.{CsExprTree, Const, Null, Temp, Address, Unary, Binary, Convert}

-- ---- types and operators by their numbers

-- the numbers of types and operators, each kind in the order of its variants
abbrev pub type_number : IntType → ℕ
type_number ints.Char = 0
type_number ints.SChar = 1
type_number ints.UChar = 2
type_number ints.Short = 3
type_number ints.UShort = 4
type_number ints.Int = 5
type_number ints.UInt = 6
type_number ints.Long = 7
type_number ints.ULong = 8
type_number ints.LLong = 9
type_number ints.ULLong = 10

abbrev pub arithmetic_number : Arithmetic → ℕ
arithmetic_number arithmetics.Multiply = 0
arithmetic_number arithmetics.Divide = 1
arithmetic_number arithmetics.Remainder = 2
arithmetic_number arithmetics.Add = 3
arithmetic_number arithmetics.Subtract = 4
arithmetic_number arithmetics.BitAnd = 5
arithmetic_number arithmetics.BitXor = 6
arithmetic_number arithmetics.BitOr = 7

abbrev pub shift_number : Shift → ℕ
shift_number shifts.Left = 0
shift_number shifts.Right = 1

abbrev pub comparison_number : Comparison → ℕ
comparison_number comparisons.Less = 0
comparison_number comparisons.Greater = 1
comparison_number comparisons.AtMost = 2
comparison_number comparisons.AtLeast = 3
comparison_number comparisons.Equal = 4
comparison_number comparisons.Unequal = 5

unfoldable pub type_of : ℕ → IntType
type_of n = if nat_eq n 0 then ints.Char else if nat_eq n 1 then ints.SChar else if nat_eq n 2 then ints.UChar else if nat_eq n 3 then ints.Short else
    if nat_eq n 4 then ints.UShort else if nat_eq n 5 then ints.Int else if nat_eq n 6 then ints.UInt else if nat_eq n 7 then ints.Long else if nat_eq
    n 8 then ints.ULong else if nat_eq n 9 then ints.LLong else ints.ULLong

pub type_back : (t : IntType) → type_of (type_number t) ≡ t
unfolding type_of
type_back ints.Char = refl
type_back ints.SChar = refl
type_back ints.UChar = refl
type_back ints.Short = refl
type_back ints.UShort = refl
type_back ints.Int = refl
type_back ints.UInt = refl
type_back ints.Long = refl
type_back ints.ULong = refl
type_back ints.LLong = refl
type_back ints.ULLong = refl

unfoldable pub arithmetic_of : ℕ → Arithmetic
arithmetic_of n = if nat_eq n 0 then arithmetics.Multiply else if nat_eq n 1 then arithmetics.Divide else if nat_eq n 2 then arithmetics.Remainder
    else if nat_eq n 3 then arithmetics.Add else if nat_eq n 4 then arithmetics.Subtract else if nat_eq n 5 then arithmetics.BitAnd else if nat_eq n 6
    then arithmetics.BitXor else arithmetics.BitOr

pub arithmetic_back : (op : Arithmetic) → arithmetic_of (arithmetic_number op) ≡ op
unfolding arithmetic_of
arithmetic_back arithmetics.Multiply = refl
arithmetic_back arithmetics.Divide = refl
arithmetic_back arithmetics.Remainder = refl
arithmetic_back arithmetics.Add = refl
arithmetic_back arithmetics.Subtract = refl
arithmetic_back arithmetics.BitAnd = refl
arithmetic_back arithmetics.BitXor = refl
arithmetic_back arithmetics.BitOr = refl

unfoldable pub shift_of : ℕ → Shift
shift_of n = if nat_eq n 0 then shifts.Left else shifts.Right

pub shift_back : (way : Shift) → shift_of (shift_number way) ≡ way
unfolding shift_of
shift_back shifts.Left = refl
shift_back shifts.Right = refl

unfoldable pub comparison_of : ℕ → Comparison
comparison_of n = if nat_eq n 0 then comparisons.Less else if nat_eq n 1 then comparisons.Greater else if nat_eq n 2 then comparisons.AtMost else if
    nat_eq n 3 then comparisons.AtLeast else if nat_eq n 4 then comparisons.Equal else comparisons.Unequal

pub comparison_back : (c : Comparison) → comparison_of (comparison_number c) ≡ c
unfolding comparison_of
comparison_back comparisons.Less = refl
comparison_back comparisons.Greater = refl
comparison_back comparisons.AtMost = refl
comparison_back comparisons.AtLeast = refl
comparison_back comparisons.Equal = refl
comparison_back comparisons.Unequal = refl

abbrev pub type_code : Coded IntType
type_code = code_by ℕ coded_ℕ type_number type_of type_back

abbrev pub arithmetic_code : Coded Arithmetic
arithmetic_code = code_by ℕ coded_ℕ arithmetic_number arithmetic_of arithmetic_back

abbrev pub shift_code : Coded Shift
shift_code = code_by ℕ coded_ℕ shift_number shift_of shift_back

abbrev pub comparison_code : Coded Comparison
comparison_code = code_by ℕ coded_ℕ comparison_number comparison_of comparison_back

-- ---- operators of one operand and of two

abbrev pub One : Type 0
One = IntType ⊎ (IntType ⊎ (IntType ⊎ ℕ))

abbrev pub to_one : TUnaryOp → One
to_one (unaries.Plus t) = inl t
to_one (unaries.Minus t) = inr (inl t)
to_one (unaries.Complement t) = inr (inr (inl t))
to_one unaries.Not = inr (inr (inr 0))

abbrev pub from_one : One → TUnaryOp
from_one (inl t) = unaries.Plus t
from_one (inr (inl t)) = unaries.Minus t
from_one (inr (inr (inl t))) = unaries.Complement t
from_one (inr (inr (inr n))) = unaries.Not

pub one_back : (op : TUnaryOp) → from_one (to_one op) ≡ op
one_back (unaries.Plus t) = refl
one_back (unaries.Minus t) = refl
one_back (unaries.Complement t) = refl
one_back unaries.Not = refl

abbrev pub unary_code : Coded TUnaryOp
unary_code = code_by One (coded⊎ type_code (coded⊎ type_code (coded⊎ type_code coded_ℕ))) to_one from_one one_back

abbrev pub Two : Type 0
Two = (Arithmetic × IntType) ⊎ ((Shift × IntType) ⊎ ((Comparison × IntType) ⊎ (Comparison ⊎ (ℕ ⊎ (ℕ ⊎ (ℕ ⊎ ℕ))))))

abbrev pub to_two : TBinaryOp → Two
to_two (binaries.Arithmetic op t) = inl (op, t)
to_two (binaries.Shift way t) = inr (inl (way, t))
to_two (binaries.CompareInts c t) = inr (inr (inl (c, t)))
to_two (binaries.ComparePointers c) = inr (inr (inr (inl c)))
to_two (binaries.PointerPlusInt n) = inr (inr (inr (inr (inl n))))
to_two (binaries.IntPlusPointer n) = inr (inr (inr (inr (inr (inl n)))))
to_two (binaries.PointerMinusInt n) = inr (inr (inr (inr (inr (inr (inl n))))))
to_two (binaries.PointerMinusPointer n) = inr (inr (inr (inr (inr (inr (inr n))))))

abbrev pub from_two : Two → TBinaryOp
from_two (inl p) = binaries.Arithmetic p.0 p.1
from_two (inr (inl p)) = binaries.Shift p.0 p.1
from_two (inr (inr (inl p))) = binaries.CompareInts p.0 p.1
from_two (inr (inr (inr (inl c)))) = binaries.ComparePointers c
from_two (inr (inr (inr (inr (inl n))))) = binaries.PointerPlusInt n
from_two (inr (inr (inr (inr (inr (inl n)))))) = binaries.IntPlusPointer n
from_two (inr (inr (inr (inr (inr (inr (inl n))))))) = binaries.PointerMinusInt n
from_two (inr (inr (inr (inr (inr (inr (inr n))))))) = binaries.PointerMinusPointer n

pub two_back : (op : TBinaryOp) → from_two (to_two op) ≡ op
two_back (binaries.Arithmetic op t) = refl
two_back (binaries.Shift way t) = refl
two_back (binaries.CompareInts c t) = refl
two_back (binaries.ComparePointers c) = refl
two_back (binaries.PointerPlusInt n) = refl
two_back (binaries.IntPlusPointer n) = refl
two_back (binaries.PointerMinusInt n) = refl
two_back (binaries.PointerMinusPointer n) = refl

abbrev pub binary_code : Coded TBinaryOp
binary_code = code_by Two (coded⊎ (coded× arithmetic_code type_code) (coded⊎ (coded× shift_code type_code) (coded⊎ (coded× comparison_code type_code)
    (coded⊎ comparison_code (coded⊎ coded_ℕ (coded⊎ coded_ℕ (coded⊎ coded_ℕ coded_ℕ))))))) to_two from_two two_back

-- ---- expressions

-- a constant, a null pointer, a temporary, an address, a conversion, and an operator of one operand or of two
abbrev pub Part : Type 0
Part = (IntType × ℤ) ⊎ (ℕ ⊎ (ℕ ⊎ (ℕ ⊎ (IntType ⊎ (TUnaryOp ⊎ TBinaryOp)))))

abbrev pub part_code : Coded Part
part_code = coded⊎ (coded× type_code coded_ℤ) (coded⊎ coded_ℕ (coded⊎ coded_ℕ (coded⊎ coded_ℕ (coded⊎ type_code (coded⊎ unary_code binary_code)))))

abbrev pub written : CsExprTree → List Part → List Part
written (Const t n) rest = inl (t, n) ∷ rest
written Null rest = inr (inl 0) ∷ rest
written (Temp d) rest = inr (inr (inl d)) ∷ rest
written (Address x) rest = inr (inr (inr (inl x))) ∷ rest
written (Convert t a) rest = written a (inr (inr (inr (inr (inl t)))) ∷ rest)
written (Unary op a) rest = written a (inr (inr (inr (inr (inr (inl op))))) ∷ rest)
written (Binary op a b) rest = written a (written b (inr (inr (inr (inr (inr (inr op))))) ∷ rest))

-- what is on the table once a part is read
abbrev pub taken : Part → List CsExprTree → List CsExprTree
taken (inl p) done = Const p.0 p.1 ∷ done
taken (inr (inl n)) done = Null ∷ done
taken (inr (inr (inl d))) done = Temp d ∷ done
taken (inr (inr (inr (inl x)))) done = Address x ∷ done
taken (inr (inr (inr (inr (inl t))))) [] = []
taken (inr (inr (inr (inr (inl t))))) (a ∷ done) = Convert t a ∷ done
taken (inr (inr (inr (inr (inr (inl op)))))) [] = []
taken (inr (inr (inr (inr (inr (inl op)))))) (a ∷ done) = Unary op a ∷ done
taken (inr (inr (inr (inr (inr (inr op)))))) [] = []
taken (inr (inr (inr (inr (inr (inr op)))))) (b ∷ []) = []
taken (inr (inr (inr (inr (inr (inr op)))))) (b ∷ a ∷ done) = Binary op a b ∷ done

abbrev pub read_back : List Part → List CsExprTree → List CsExprTree
read_back [] done = done
read_back (p ∷ ps) done = read_back ps (taken p done)

pub read_written : (e : CsExprTree) (rest : List Part) (done : List CsExprTree) → read_back (written e rest) done ≡ read_back rest (e ∷ done)
read_written (Const t n) rest done = refl
read_written Null rest done = refl
read_written (Temp d) rest done = refl
read_written (Address x) rest done = refl
read_written (Convert t a) rest done = read_written a (inr (inr (inr (inr (inl t)))) ∷ rest) done
read_written (Unary op a) rest done = read_written a (inr (inr (inr (inr (inr (inl op))))) ∷ rest) done
read_written (Binary op a b) rest done = read_written a (written b (inr (inr (inr (inr (inr (inr op))))) ∷ rest)) done
    ∙ read_written b (inr (inr (inr (inr (inr (inr op))))) ∷ rest) (a ∷ done)

abbrev pub first_of : List CsExprTree → CsExprTree
first_of [] = Null
first_of (e ∷ done) = e

abbrev pub to_parts : CsExprTree → List Part
to_parts e = written e []

abbrev pub from_parts : List Part → CsExprTree
from_parts ps = first_of (read_back ps [])

pub from_to : (e : CsExprTree) → from_parts (to_parts e) ≡ e
from_to e = ap first_of (read_written e [] [])

abbrev pub expr_code : Coded CsExprTree
expr_code = code_by (List Part) (coded_list part_code) to_parts from_parts from_to
