-- What operators on numbers come to, from their checks.
use Rattle.std.proofs.Common.{◌≡◌, ℕ, ◌-◌, ℤ, pos, neg_ℤ, Bool, true, false, refl, sym, subst, ap, ◌∙◌, ◌<◌, arith, List, [], ◌∷◌, Option, Some}
use Rattle.std.specs.Prelude.{◌&&◌, ◌≢◌, if◌then◌else◌, int_div, int_rem, int_lt, int_le, Result}
use Rattle.std.specs.Ordering.{int_eq}
use Rattle.std.proofs.lemmas.Int.{ints, quot-rem}
use Rattle.std.proofs.lemmas.Bool.Decides.{Decides-int_eq}
use Rattle.c_syntax_written.specs.declared.int_type.IntType.{IntType}
use Rattle.c_syntax_written.specs.Integer.{is_signed, least, greatest, wrapped, width}
use Rattle.c_syntax.specs.declared.alarm.WrongKind.{WrongKind}
use Rattle.c_syntax.specs.declared.alarm.WrongKind.TheVariants as kinds
use Rattle.c_syntax.specs.declared.operator.Arithmetic.TheVariants as ariths
use Rattle.c_syntax.specs.declared.operator.Shift.TheVariants as shifts
use Rattle.c_syntax.specs.declared.operator.TUnaryOp.TheVariants as unaries
use Rattle.c_syntax.specs.declared.operator.TBinaryOp.TheVariants as binaries
use Rattle.c_syntax.specs.Types.{ObjectTree}
use Rattle.c_syntax.specs.Operand.{Operand, Number}
use Rattle.c_syntax.specs.Failing.{fails, is_outside}
use Rattle.c_layout.specs.Checks.{plain_check, range_check, result_checks}
use Rattle.block_mem.specs.declared.types.Scalar.TheVariants as scalars
use Rattle.block_mem.specs.declared.types.Value.{Value}
use Rattle.block_mem.specs.declared.types.Value.TheVariants as values
use Rattle.c_values.specs.Places.{ObjectMemory}
use Rattle.c_values.specs.Looks.{looks, judge, Judged, Passes, FailsAs, Gives, GoesWrong, outcome}
use Rattle.c_values.specs.Numbers.{exact_arithmetic, arithmetic, exact_shift, remainder}
use Rattle.c_values.specs.Operators.{binary, unary, number_operand}
use Rattle.c_values.specs.Answers.{Answers, ranged, divided}
use Rattle.c_values.specs.declared.values.Wrong.{Wrong}

-- a check of a range looks at a number
module _ (objects : List ObjectTree) (f : WrongKind → Option Operand) (kind : WrongKind) (lo hi x : ℤ) (e : f kind
    ≡ Some (Number x)) (decided : fails objects (range_check kind lo hi) (Number x) ≡ is_outside lo hi x) where
  judged : Judged → Bool → Judged
  judged rest b = if b then FailsAs kind (Number x) else rest

  pub signed_look : (s : Bool) → judge objects (looks f (if s then range_check kind lo hi ∷ [] else []))
      ≡ (if s && is_outside lo hi x then FailsAs kind (Number x) else Passes)
  signed_look false = refl
  signed_look true = rw e (rw decided refl)

unlike : (b : Bool) → (b ≡ true → ⊥) → b ≡ false
unlike true h = absurd (h refl)
unlike false h = refl

split : (b : Bool) (kind : WrongKind) (x : Operand) (v : Value) → outcome (if b then FailsAs kind x else Passes) (Some v)
    ≡ (if b then GoesWrong kind x else Gives v)
split true kind x v = refl
split false kind x v = refl

-- the result of a signed operator is to be of its type
pub overflow_look : (objects : List ObjectTree) (f : WrongKind → Option Operand) (t : IntType) (x : ℤ) → f kinds.Overflow ≡ Some (Number x)
    → outcome (judge objects (looks f (result_checks kinds.Overflow t))) (Some (values.Int t (wrapped t x)))
    ≡ ranged kinds.Overflow t (least t) (pos (greatest t)) x
overflow_look objects f t x e =
    ap (λ j. outcome j (Some (values.Int t (wrapped t x)))) (signed_look objects f kinds.Overflow (least t) (pos (greatest t)) x e refl (is_signed t))
    ∙ split (is_signed t && is_outside (least t) (pos (greatest t)) x) kinds.Overflow (Number x) (values.Int t (wrapped t x))

-- the looks of a division
pub divided_look : (objects : List ObjectTree) (f : WrongKind → Option Operand) (t : IntType) (a b : ℤ) → f kinds.DivideByZero ≡ Some (Number b)
    → f kinds.Quotient ≡ Some (Number (int_div a b))
    → judge objects (looks f (plain_check kinds.DivideByZero ∷ result_checks kinds.Quotient t)) ≡ divided t a b
divided_look objects f t a b e q =
    rw e (ap (λ j. if int_eq b (pos 0) then FailsAs kinds.DivideByZero (Number b) else j)
    (signed_look objects f kinds.Quotient (least t) (pos (greatest t)) (int_div a b) q refl (is_signed t)))

-- the looks of a shift to the left by an amount that is allowed
pub shifted_left : (objects : List ObjectTree) (m : ObjectMemory) (t u : IntType) (a k : ℤ) → is_outside (pos 0) (pos (width t - 1)) k ≡ false
    → binary objects m (binaries.Shift shifts.Left t) (values.Int t a) (values.Int u k)
    ≡ ranged kinds.ShiftResult t (pos 0) (pos (greatest t)) (exact_shift a k)
shifted_left objects m t u a k e =
    rw e (ap (λ j. outcome j (Some (values.Int t (wrapped t (exact_shift a k)))))
    (signed_look objects _ kinds.ShiftResult (pos 0) (pos (greatest t)) (exact_shift a k) refl refl (is_signed t))
    ∙ split (is_signed t && is_outside (pos 0) (pos (greatest t)) (exact_shift a k)) kinds.ShiftResult (Number (exact_shift a k))
    (values.Int t (wrapped t (exact_shift a k))))

module _ (objects : List ObjectTree) (m : ObjectMemory) (t : IntType) (a b : ℤ) where
  pub multiplied : binary objects m (binaries.Arithmetic ariths.Multiply t) (values.Int t a) (values.Int t b)
      ≡ ranged kinds.Overflow t (least t) (pos (greatest t)) (exact_arithmetic ariths.Multiply a b)
  multiplied = overflow_look objects _ t _ refl

  pub added : binary objects m (binaries.Arithmetic ariths.Add t) (values.Int t a) (values.Int t b)
      ≡ ranged kinds.Overflow t (least t) (pos (greatest t)) (exact_arithmetic ariths.Add a b)
  added = overflow_look objects _ t _ refl

  pub subtracted : binary objects m (binaries.Arithmetic ariths.Subtract t) (values.Int t a) (values.Int t b)
      ≡ ranged kinds.Overflow t (least t) (pos (greatest t)) (exact_arithmetic ariths.Subtract a b)
  subtracted = overflow_look objects _ t _ refl

  pub quotients : binary objects m (binaries.Arithmetic ariths.Divide t) (values.Int t a) (values.Int t b)
      ≡ outcome (divided t a b) (Some (values.Int t (arithmetic ariths.Divide t a b)))
  quotients = ap (λ j. outcome j (Some (values.Int t (arithmetic ariths.Divide t a b))))
      (divided_look objects (number_operand (binaries.Arithmetic ariths.Divide t) (values.Int t a) (values.Int t b)) t a b refl refl)

  pub remainders : binary objects m (binaries.Arithmetic ariths.Remainder t) (values.Int t a) (values.Int t b)
      ≡ outcome (divided t a b) (Some (values.Int t (arithmetic ariths.Remainder t a b)))
  remainders = ap (λ j. outcome j (Some (values.Int t (arithmetic ariths.Remainder t a b))))
      (divided_look objects (number_operand (binaries.Arithmetic ariths.Remainder t) (values.Int t a) (values.Int t b)) t a b refl refl)

pub negated : (objects : List ObjectTree) (m : ObjectMemory) (t : IntType) (n : ℤ)
    → unary objects m (unaries.Minus t) (Some (scalars.Int t)) (values.Int t n) ≡ ranged kinds.Overflow t (least t) (pos (greatest t)) (neg_ℤ n)
negated objects m t n = overflow_look objects _ t _ refl

inside_amount : (w : ℕ) (k : ℤ) → 0 < w → int_lt k (pos 0) ≡ false → int_le (pos w) k ≡ false → is_outside (pos 0) (pos (w - 1)) k ≡ false
inside_amount w k some low high = grind (arith, ints)

-- an amount that is not negative and below the width
pub left_answers : (r : Result Value Wrong) (objects : List ObjectTree) (m : ObjectMemory) (t u : IntType) (a k : ℤ) (w : ℕ) → w ≡ width t → 0 < w
    → int_lt k (pos 0) ≡ false → int_le (pos w) k ≡ false
    → Answers r (ranged kinds.ShiftResult t (pos 0) (pos (greatest t)) (exact_shift a k))
    → Answers r (binary objects m (binaries.Shift shifts.Left t) (values.Int t a) (values.Int u k))
left_answers r objects m t u a k w e some low high h =
    subst (λ o. Answers r o) (sym (shifted_left objects m t u a k (subst (λ n. is_outside (pos 0) (pos (n - 1)) k
    ≡ false) e (inside_amount w k some low high)))) h

passing : (x : Bool) (kind : WrongKind) (o : Operand) (w v : Value) → (if x then GoesWrong kind o else Gives w) ≡ Gives v
    → (if x then FailsAs kind o else Passes) ≡ Passes
passing true kind o w v h = absurd (cc)
passing false kind o w v h = refl

failing : (x : Bool) (kind k : WrongKind) (o p : Operand) (w : Value) → (if x then GoesWrong kind o else Gives w) ≡ GoesWrong k p
    → (if x then FailsAs kind o else Passes) ≡ FailsAs k p
failing true kind k o p w h = let e : kind ≡ k = cc in let f : o ≡ p = cc in cc
failing false kind k o p w h = absurd (cc)

not_zero : (b : ℤ) → b ≢ pos 0 → int_eq b (pos 0) ≡ false
not_zero b h = unlike (int_eq b (pos 0)) (λ e. h ((Decides-int_eq b (pos 0)).0 e))

-- a quotient that its type has, and one that it has not
pub division_passes : (t : IntType) (a b : ℤ) (v : Value) → b ≢ pos 0 → ranged kinds.Quotient t (least t) (pos (greatest t)) (int_div a b) ≡ Gives v
    → divided t a b ≡ Passes
division_passes t a b v h e = rw (not_zero b h) (passing (is_signed t && is_outside (least t) (pos (greatest t)) (int_div a b)) kinds.Quotient
    (Number (int_div a b)) _ v e)

pub division_fails : (t : IntType) (a b : ℤ) (k : WrongKind) (x : Operand) → b ≢ pos 0 → ranged kinds.Quotient t (least t) (pos (greatest t)) (int_div a b)
    ≡ GoesWrong k x → divided t a b ≡ FailsAs k x
division_fails t a b k x h e = rw (not_zero b h) (failing (is_signed t && is_outside (least t) (pos (greatest t)) (int_div a b)) kinds.Quotient k
    (Number (int_div a b)) x _ e)

pub remainder_is : (a b : ℤ) → int_rem a b ≡ remainder a b
remainder_is a b = omega (arith, ints, quot-rem a b)
