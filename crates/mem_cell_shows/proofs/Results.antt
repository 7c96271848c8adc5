-- Exact results.
use Rattle.std.proofs.Common.{ℤ, pos, neg_ℤ, negsuc, ◌≡◌, ◌≢◌, ◌≤ℤ◌, inl, inr, true, false, Bool, not, List, Option, Some, None, if◌then◌else◌, option_and_then, refl, sym, ap, subst, ◌∙◌, arith}
use Rattle.std.specs.Int.RustNames.{int_le, int_lt}
use Rattle.std.specs.Ordering.{int_eq}
use Rattle.std.proofs.lemmas.Bool.{and_parts}
use Rattle.std.proofs.lemmas.Bool.Decides.{Decides-int_eq}
use Rattle.std.proofs.lemmas.Int.{ints}
use Rattle.c_syntax_written.specs.declared.int_type.IntType.{IntType}
use Rattle.c_syntax_written.specs.Integer.{width}
use Rattle.c_syntax.specs.declared.alarm.WrongKind.TheVariants as kinds
use Rattle.c_syntax.specs.declared.operator.Arithmetic.{Arithmetic}
use Rattle.c_syntax.specs.declared.operator.Shift.TheVariants as shifts
use Rattle.c_syntax.specs.declared.operator.TBinaryOp.{TBinaryOp}
use Rattle.c_syntax.specs.declared.operator.TUnaryOp.{TUnaryOp}
use Rattle.c_syntax.specs.declared.operator.TUnaryOp.TheVariants as unaries
use Rattle.c_syntax.specs.declared.operator.TBinaryOp.TheVariants as binaries
use Rattle.c_syntax.specs.Operand.{Operand, Number}
use Rattle.num_api.specs.declared.expr.NOp.{NOp}
use Rattle.num_api.specs.declared.expr.NOp.TheVariants as ops
use Rattle.num_api.specs.Value.{unary_value, binary_value, of_one, shifted_left}
use Rattle.block_mem.specs.declared.types.Scalar.{Scalar}
use Rattle.block_mem.specs.declared.types.Value.{Value}
use Rattle.block_mem.specs.declared.types.Value.TheVariants as values
use Rattle.c_values.specs.Numbers.{exact_arithmetic, exact_shift}
use Rattle.c_values.specs.Operators.{exact_binary, unary_operand}
use Rattle.c_values.specs.Places.{ObjectMemory}
use Rattle.machine_nums.specs.MExprs.{MExprTree, type_of}
use Rattle.machine_nums.specs.MExprs as numbers
use Rattle.machine_nums.specs.Machine.{machine_value}
use Rattle.machine_nums.specs.Laws.{IsDivision}
use Rattle.csharp.specs.Trees.{Binary, CsExprTree, Unary}
use Rattle.csharp.specs.States.{State, exact_of, if_taken, takes_right, value_of}
use Rattle.mem_cell_exprs.specs.Exprs.{IsNumberFor}
use Rattle.mem_cell_exprs.proofs.Nodes.{two-values}
use Rattle.mem_cell_exprs.proofs.Options.{then-some}
use Rattle.mem_cell_shows.specs.Exacts.{IsExactFor, IsExactOperator}

-- ---- one operand

minus-operand : (m : ObjectMemory) (t j : IntType) (n : ℤ) (x : Operand) → unary_operand m (unaries.Minus t) (values.Int j n) kinds.Overflow ≡ Some x → x ≡ Number (neg_ℤ n)
minus-operand m t j n x h = cc

pub minus-exact : (types : List Scalar) (ty : IntType) (e : CsExprTree) (m : MExprTree) → IsNumberFor types e m → IsExactFor types (Unary (unaries.Minus ty) e) (numbers.Unary ops.Neg ty m)
minus-exact types ty e m h v s a x look =
    let r = then-some (λ (u : Value). unary_operand s.memory (unaries.Minus ty) u kinds.Overflow) (value_of e s) x look in
    let b = h v s a r.0 r.1 in
    let is = ap (λ (u : Value). unary_operand s.memory (unaries.Minus ty) u kinds.Overflow) (sym b.1) ∙ r.2 in
    (neg_ℤ b.0, minus-operand s.memory ty (type_of m) b.0 x is, ap (of_one (unary_value ops.Neg)) b.2)

-- ---- two operands

taken : {X : Type 0} (b : Bool) (o : Option X) (x : X) → (if b then o else None) ≡ Some x → (b ≡ true) × (o ≡ Some x)
taken true o x h = (refl, h)
taken false o x h = cc

-- both operands, where an exact result is looked at
record Both (op : TBinaryOp) (e f : CsExprTree) (s : State) (x : Operand) : Type 0 where
  left : Value
  right : Value
  first : value_of e s ≡ Some left
  second : value_of f s ≡ Some right
  takes : takes_right op right ≡ true
  gives : exact_binary op left right ≡ Some x

both-of : (op : TBinaryOp) (e f : CsExprTree) (s : State) (x : Operand) → exact_of (Binary op e f) s ≡ Some x → Both op e f s x
both-of op e f s x h =
    let a = then-some (λ (u : Value). option_and_then (if_taken op (exact_binary op) u) (value_of f s)) (value_of e s) x h in
    let b = then-some (if_taken op (exact_binary op) a.0) (value_of f s) x a.2 in
    let t = taken (takes_right op b.0) (exact_binary op a.0 b.0) x b.2 in
    record { left = a.0; right = b.0; first = a.1; second = b.1; takes = t.0; gives = t.1 }

opposite : (t : Bool) → not t ≡ true → t ≡ true → ⊥
opposite true h k = cc
opposite false h k = cc

divisor : (op : Arithmetic) (t j : IntType) (b : ℤ) → takes_right (binaries.Arithmetic op t) (values.Int j b) ≡ true → IsDivision op → b ≢ pos 0
divisor op t j b h (inl d) = λ z. opposite (int_eq b (pos 0)) (subst (λ o. takes_right (binaries.Arithmetic o t) (values.Int j b) ≡ true) d h) ((Decides-int_eq b (pos 0)).1 z)
divisor op t j b h (inr d) = λ z. opposite (int_eq b (pos 0)) (subst (λ o. takes_right (binaries.Arithmetic o t) (values.Int j b) ≡ true) d h) ((Decides-int_eq b (pos 0)).1 z)

arithmetic-operand : (op : Arithmetic) (t i j : IntType) (a b : ℤ) (x : Operand) → exact_binary (binaries.Arithmetic op t) (values.Int i a) (values.Int j b) ≡ Some x → x ≡ Number (exact_arithmetic op a b)
arithmetic-operand op t i j a b x h = cc

pub arithmetic-exact : (types : List Scalar) (op : Arithmetic) (nop : NOp) (t : IntType) (e f : CsExprTree) (m k : MExprTree) → IsExactOperator op nop → IsNumberFor types e m → IsNumberFor types f k
    → IsExactFor types (Binary (binaries.Arithmetic op t) e f) (numbers.Binary nop t m k)
arithmetic-exact types op nop t e f m k law p q v s n x look =
    let r = both-of (binaries.Arithmetic op t) e f s x look in
    let a = p v s n r.left r.first in let b = q v s n r.right r.second in
    let takes : takes_right (binaries.Arithmetic op t) (values.Int (type_of k) b.0) ≡ true = ap (takes_right (binaries.Arithmetic op t)) (sym b.1) ∙ r.takes in
    let gives : exact_binary (binaries.Arithmetic op t) (values.Int (type_of m) a.0) (values.Int (type_of k) b.0) ≡ Some x =
    ap (λ u. exact_binary (binaries.Arithmetic op t) u (values.Int (type_of k) b.0)) (sym a.1) ∙ ap (exact_binary (binaries.Arithmetic op t) r.left) (sym b.1) ∙ r.gives in (
      exact_arithmetic op a.0 b.0,
      arithmetic-operand op t (type_of m) (type_of k) a.0 b.0 x gives,
      two-values (binary_value nop) (machine_value v m) (machine_value v k) a.0 b.0 a.2 b.2 ∙ law a.0 b.0 (divisor op t (type_of k) b.0 takes),
    )

shift-operand : (t i j : IntType) (a b : ℤ) (x : Operand) → exact_binary (binaries.Shift shifts.Left t) (values.Int i a) (values.Int j b) ≡ Some x → x ≡ Number (exact_shift a b)
shift-operand t i j a b x h = cc

left-exact : (a b : ℤ) → pos 0 ≤ℤ b → shifted_left a b ≡ Some (exact_shift a b)
left-exact a (pos k) h = refl
left-exact a (negsuc k) h = absurd (omega (arith, ints, h))

pub shift-exact : (types : List Scalar) (t : IntType) (e f : CsExprTree) (m k : MExprTree) → IsNumberFor types e m → IsNumberFor types f k
    → IsExactFor types (Binary (binaries.Shift shifts.Left t) e f) (numbers.Binary ops.Shl t m k)
shift-exact types t e f m k p q v s n x look =
    let op = binaries.Shift shifts.Left t in
    let r = both-of op e f s x look in
    let a = p v s n r.left r.first in let b = q v s n r.right r.second in
    let takes : takes_right op (values.Int (type_of k) b.0) ≡ true = ap (takes_right op) (sym b.1) ∙ r.takes in
    let first = (and_parts (int_le (pos 0) b.0) (int_lt b.0 (pos (width t))) takes).0 in
    let low : pos 0 ≤ℤ b.0 = omega (arith, ints, first) in
    let gives : exact_binary op (values.Int (type_of m) a.0) (values.Int (type_of k) b.0) ≡ Some x =
    ap (λ u. exact_binary op u (values.Int (type_of k) b.0)) (sym a.1) ∙ ap (exact_binary op r.left) (sym b.1) ∙ r.gives in (
      exact_shift a.0 b.0,
      shift-operand t (type_of m) (type_of k) a.0 b.0 x gives,
      two-values (binary_value ops.Shl) (machine_value v m) (machine_value v k) a.0 b.0 a.2 b.2 ∙ left-exact a.0 b.0 low,
    )

-- ---- exact results are numbers

unary-number : (m : ObjectMemory) (op : TUnaryOp) (u : Value) (x : Operand) → unary_operand m op u kinds.Overflow ≡ Some x → (n : ℤ) × (x ≡ Number n)
unary-number m (unaries.Minus t) (values.Int j n) x h = (neg_ℤ n, minus-operand m t j n x h)
unary-number m (unaries.Minus t) (values.Ptr p) x h = cc
unary-number m (unaries.Minus t) values.Null x h = cc
unary-number m (unaries.Plus t) u x h = cc
unary-number m (unaries.Complement t) u x h = cc
unary-number m unaries.Not u x h = cc

binary-number : (op : TBinaryOp) (u w : Value) (x : Operand) → exact_binary op u w ≡ Some x → (n : ℤ) × (x ≡ Number n)
binary-number (binaries.Arithmetic op t) (values.Int i a) (values.Int j b) x h = (exact_arithmetic op a b, arithmetic-operand op t i j a b x h)
binary-number (binaries.Shift way t) (values.Int i a) (values.Int j b) x h = (exact_shift a b, cc)
binary-number op u w x h = cc

pub exact-number : (e : CsExprTree) (s : State) (x : Operand) → exact_of e s ≡ Some x → (n : ℤ) × (x ≡ Number n)
exact-number (Unary op e) s x h =
    let r = then-some (λ (u : Value). unary_operand s.memory op u kinds.Overflow) (value_of e s) x h in unary-number s.memory op r.0 x r.2
exact-number (Binary op e f) s x h = let r = both-of op e f s x h in binary-number op r.left r.right x r.gives
exact-number e s x h = cc
