-- Integer expressions, node by node.
use Rattle.std.proofs.Common.{ℕ, ℤ, pos, negsuc, ◌-ℤ◌, neg_ℤ, ◌≡◌, ◌≢◌, ◌≤ℤ◌, Bool, true, false, not, if◌then◌else◌, List, Option, Some, None, option_and_then, slice_get, refl, sym, ap, subst, ◌∙◌, arith, inl, inr}
use Rattle.std.specs.Prelude.{IsSomeAnd}
use Rattle.std.specs.Ordering.{int_eq}
use Rattle.std.specs.Int.RustNames.{int_le, int_lt}
use Rattle.std.proofs.lemmas.Bool.{and_parts}
use Rattle.std.proofs.lemmas.Bool.Decides.{Decides-int_eq}
use Rattle.std.proofs.lemmas.Int.{ints}
use Rattle.c_syntax_written.specs.declared.int_type.IntType.{IntType}
use Rattle.c_syntax_written.specs.declared.int_type.IntType.TheVariants as ints_of
use Rattle.c_syntax_written.specs.Integer.{HasNumber, wrapped, width}
use Rattle.c_syntax.specs.declared.operator.Arithmetic.{Arithmetic}
use Rattle.c_syntax.specs.declared.operator.Shift.{Shift}
use Rattle.c_syntax.specs.declared.operator.Comparison.{Comparison}
use Rattle.c_syntax.specs.declared.operator.TBinaryOp.{TBinaryOp}
use Rattle.c_syntax.specs.declared.operator.TUnaryOp.TheVariants as unaries
use Rattle.c_syntax.specs.declared.operator.TBinaryOp.TheVariants as binaries
use Rattle.ext_int.specs.Valuation.{value_at}
use Rattle.num_api.specs.declared.expr.NOp.{NOp}
use Rattle.num_api.specs.declared.expr.NOp.TheVariants as ops
use Rattle.num_api.specs.Value.{unary_value, binary_value, of_one, of_two, truth as number_truth}
use Rattle.block_mem.specs.declared.types.Scalar.{Scalar}
use Rattle.block_mem.specs.declared.types.Scalar.TheVariants as scalars
use Rattle.block_mem.specs.declared.types.Value.{Value}
use Rattle.block_mem.specs.declared.types.Value.TheVariants as values
use Rattle.block_mem.specs.Bytes.{IsOf}
use Rattle.c_values.specs.Numbers.{arithmetic, shifted, complement, compares}
use Rattle.c_values.specs.Operators.{unary_result, binary_result}
use Rattle.c_values.specs.Values.{converted_to, bit}
use Rattle.machine_nums.specs.MExprs.{MExprTree, type_of}
use Rattle.machine_nums.specs.MExprs as numbers
use Rattle.machine_nums.specs.Machine.{wrapped_value, machine_value}
use Rattle.machine_nums.specs.Laws.{IsDivision, StandsForArithmetic, StandsForShift, StandsForComparison}
use Rattle.machine_nums.proofs.Values.{wrapped-has, machine_has}
use Rattle.csharp.specs.Trees.{Unary, CsExprTree, Const, Temp, Binary, Convert}
use Rattle.csharp.specs.States.{State, value_of, takes_right, if_taken}
use Rattle.mem_cell_bytes.specs.Cells.{temp_var, number_of}
use Rattle.mem_cell_exprs.specs.Exprs.{IsNumberFor, IsNumberOf}
use Rattle.mem_cell_exprs.proofs.Options.{then-some}

pub same-value : (v w : Value) → Some v ≡ Some w → w ≡ v
same-value v w h = cc

-- ---- leaves

pub const-number : (s : State) (v : List ℤ) (t : IntType) (n : ℤ) → HasNumber t n → IsNumberOf s v (Const t n) (numbers.Const t n)
const-number s v t n has u h = (n, same-value (values.Int t n) u h, ap Some (wrapped-has t n has))

of-int : (t : IntType) (u : Value) → IsOf (scalars.Int t) u → (n : ℤ) × (u ≡ values.Int t n) × HasNumber t n
of-int t (values.Int i n) h = (n, ap (λ j. values.Int j n) h.0, h.1)
of-int t (values.Ptr p) h = absurd h
of-int t values.Null h = absurd h

pub temp-number : (types : List Scalar) (d : ℕ) (t : IntType) → slice_get types d ≡ Some (scalars.Int t) → IsNumberFor types (Temp d) (numbers.Read (temp_var d) t)
temp-number types d t is v s n u h =
    let f = of-int t u (n.typed d (scalars.Int t) u is h) in
    let x : value_at v (temp_var d) ≡ f.0 = n.number d u h ∙ ap number_of f.1 in
    (f.0, f.1, ap (λ y. Some (wrapped t y)) x ∙ ap Some (wrapped-has t f.0 f.2))

-- ---- one operand

converted-int : (t j : IntType) (n : ℤ) (u : Value) → converted_to (scalars.Int t) (values.Int j n) ≡ Some u → u ≡ values.Int t (wrapped t n)
converted-int t j n u h = cc

pub convert-number : (s : State) (v : List ℤ) (t : IntType) (e : CsExprTree) (m : MExprTree) → IsNumberOf s v e m → IsNumberOf s v (Convert t e) (numbers.Convert t m)
convert-number s v t e m p u h =
    let a = then-some (converted_to (scalars.Int t)) (value_of e s) u h in
    let b = p a.0 a.1 in
    let is : u ≡ values.Int t (wrapped t b.0) = converted-int t (type_of m) b.0 u (ap (converted_to (scalars.Int t)) (sym b.1) ∙ a.2) in
    let has = machine_has v m b.0 b.2 in
    (wrapped t b.0, is, ap (wrapped_value t) b.2)

pub two-values : (f : ℤ → ℤ → Option ℤ) (o p : Option ℤ) (a b : ℤ) → o ≡ Some a → p ≡ Some b → of_two f o p ≡ f a b
two-values f o p a b h g = ap (λ x. of_two f x p) h ∙ ap (of_two f (Some a)) g

one-value : (f : ℤ → Option ℤ) (o : Option ℤ) (a : ℤ) → o ≡ Some a → of_one f o ≡ f a
one-value f o a h = ap (of_one f) h

plus-is : (t j : IntType) (n : ℤ) (u : Value) → unary_result (unaries.Plus t) (values.Int j n) ≡ Some u → u ≡ values.Int t n
plus-is t j n u h = cc

minus-is : (t j : IntType) (n : ℤ) (u : Value) → unary_result (unaries.Minus t) (values.Int j n) ≡ Some u → u ≡ values.Int t (wrapped t (neg_ℤ n))
minus-is t j n u h = cc

complement-is : (t j : IntType) (n : ℤ) (u : Value) → unary_result (unaries.Complement t) (values.Int j n) ≡ Some u → u ≡ values.Int t (complement t n)
complement-is t j n u h = cc

pub plus-number : (s : State) (v : List ℤ) (t : IntType) (e : CsExprTree) (m : MExprTree) → type_of m ≡ t → IsNumberOf s v e m
    → IsNumberOf s v (Unary (unaries.Plus t) e) (numbers.Convert t m)
plus-number s v t e m ty p u h =
    let a = then-some (unary_result (unaries.Plus t)) (value_of e s) u h in
    let b = p a.0 a.1 in
    let has : HasNumber t b.0 = subst (λ i. HasNumber i b.0) ty (machine_has v m b.0 b.2) in
    (b.0, plus-is t (type_of m) b.0 u (ap (unary_result (unaries.Plus t)) (sym b.1) ∙ a.2), ap (wrapped_value t) b.2 ∙ ap Some (wrapped-has t b.0 has))

pub minus-number : (s : State) (v : List ℤ) (t : IntType) (e : CsExprTree) (m : MExprTree) → IsNumberOf s v e m
    → IsNumberOf s v (Unary (unaries.Minus t) e) (numbers.Unary ops.Neg t m)
minus-number s v t e m p u h =
    let a = then-some (unary_result (unaries.Minus t)) (value_of e s) u h in
    let b = p a.0 a.1 in (
      wrapped t (neg_ℤ b.0),
      minus-is t (type_of m) b.0 u (ap (unary_result (unaries.Minus t)) (sym b.1) ∙ a.2),
      ap (wrapped_value t) (one-value (unary_value ops.Neg) (machine_value v m) b.0 b.2),
    )

pub complement-number : (s : State) (v : List ℤ) (t : IntType) (e : CsExprTree) (m : MExprTree) → IsNumberOf s v e m
    → IsNumberOf s v (Unary (unaries.Complement t) e) (numbers.Binary ops.Sub t (numbers.Const ints_of.Int (negsuc 0)) m)
complement-number s v t e m p u h =
    let a = then-some (unary_result (unaries.Complement t)) (value_of e s) u h in
    let b = p a.0 a.1 in
    let ones : machine_value v (numbers.Const ints_of.Int (negsuc 0)) ≡ Some (negsuc 0) = ap Some (wrapped-has ints_of.Int (negsuc 0) (omega (arith, ints))) in
    let same : negsuc 0 -ℤ b.0 ≡ neg_ℤ b.0 -ℤ pos 1 = omega (arith, ints) in (
      complement t b.0,
      complement-is t (type_of m) b.0 u (ap (unary_result (unaries.Complement t)) (sym b.1) ∙ a.2),
      ap (wrapped_value t) (two-values (binary_value ops.Sub) (machine_value v (numbers.Const ints_of.Int (negsuc 0))) (machine_value v m) (negsuc 0) b.0 ones b.2) ∙ ap (λ x. Some (wrapped t x)) same,
    )

twice : (b : Bool) → not (not b) ≡ b
twice true = refl
twice false = refl

truth-has : (b : Bool) → wrapped ints_of.Int (number_truth b) ≡ number_truth b
truth-has true = wrapped-has ints_of.Int (pos 1) (omega (arith, ints))
truth-has false = wrapped-has ints_of.Int (pos 0) (omega (arith, ints))

bit-of : (b : Bool) → bit b ≡ values.Int ints_of.Int (number_truth b)
bit-of true = refl
bit-of false = refl

pub not-number : (s : State) (v : List ℤ) (e : CsExprTree) (m : MExprTree) → IsNumberOf s v e m → IsNumberOf s v (Unary unaries.Not e) (numbers.Unary ops.Not ints_of.Int m)
not-number s v e m p u h =
    let a = then-some (unary_result unaries.Not) (value_of e s) u h in
    let b = p a.0 a.1 in
    let z = int_eq b.0 (pos 0) in
    let is : u ≡ bit (not (not z)) = same-value (bit (not (not z))) u (ap (unary_result unaries.Not) (sym b.1) ∙ a.2) in (
      number_truth z,
      is ∙ ap bit (twice z) ∙ bit-of z,
      ap (wrapped_value ints_of.Int) (one-value (unary_value ops.Not) (machine_value v m) b.0 b.2) ∙ ap Some (truth-has z),
    )

-- ---- two operands

taken : {X : Type 0} (b : Bool) (o : Option X) (x : X) → (if b then o else None) ≡ Some x → (b ≡ true) × (o ≡ Some x)
taken true o x h = (refl, h)
taken false o x h = cc

pub both-values : (op : TBinaryOp) (e f : CsExprTree) (s : State) (u : Value) → value_of (Binary op e f) s ≡ Some u
    → (a : Value) × (b : Value) × (value_of e s ≡ Some a) × (value_of f s ≡ Some b) × (takes_right op b ≡ true) × (binary_result op a b ≡ Some u)
both-values op e f s u h =
    let a = then-some (λ (x : Value). option_and_then (if_taken op (binary_result op) x) (value_of f s)) (value_of e s) u h in
    let b = then-some (if_taken op (binary_result op) a.0) (value_of f s) u a.2 in
    let t = taken (takes_right op b.0) (binary_result op a.0 b.0) u b.2 in
    (a.0, b.0, a.1, b.1, t.0, t.1)

some-of : (o : Option ℤ) (P : ℤ → Type 0) → IsSomeAnd o P → (n : ℤ) × (o ≡ Some n) × P n
some-of None P h = absurd h
some-of (Some n) P h = (n, refl, h)

result-int : (t : IntType) (n : ℤ) (u : Value) → Some (values.Int t n) ≡ Some u → u ≡ values.Int t n
result-int t n u h = cc

opposite : (t : Bool) → not t ≡ true → t ≡ true → ⊥
opposite true h k = cc
opposite false h k = cc

divisor : (op : Arithmetic) (t j : IntType) (b : ℤ) → takes_right (binaries.Arithmetic op t) (values.Int j b) ≡ true → IsDivision op → b ≢ pos 0
divisor op t j b h (inl d) = λ z. opposite (int_eq b (pos 0)) (subst (λ o. takes_right (binaries.Arithmetic o t) (values.Int j b) ≡ true) d h) ((Decides-int_eq b (pos 0)).1 z)
divisor op t j b h (inr d) = λ z. opposite (int_eq b (pos 0)) (subst (λ o. takes_right (binaries.Arithmetic o t) (values.Int j b) ≡ true) d h) ((Decides-int_eq b (pos 0)).1 z)

pub arithmetic-number : (s : State) (v : List ℤ) (op : Arithmetic) (nop : NOp) (t : IntType) (e f : CsExprTree) (m k : MExprTree) → StandsForArithmetic op nop
    → type_of m ≡ t → type_of k ≡ t → IsNumberOf s v e m → IsNumberOf s v f k → IsNumberOf s v (Binary (binaries.Arithmetic op t) e f) (numbers.Binary nop t m k)
arithmetic-number s v op nop t e f m k law tm tk p q u h =
    let r = both-values (binaries.Arithmetic op t) e f s u h in
    let a = p r.0 r.2 in let b = q r.1 r.3 in
    let ha : HasNumber t a.0 = subst (λ i. HasNumber i a.0) tm (machine_has v m a.0 a.2) in
    let hb : HasNumber t b.0 = subst (λ i. HasNumber i b.0) tk (machine_has v k b.0 b.2) in
    let takes : takes_right (binaries.Arithmetic op t) (values.Int (type_of k) b.0) ≡ true = ap (takes_right (binaries.Arithmetic op t)) (sym b.1) ∙ r.4 in
    let n = some-of (binary_value nop a.0 b.0) (λ x. wrapped t x ≡ arithmetic op t a.0 b.0) (law t a.0 b.0 ha hb (divisor op t (type_of k) b.0 takes)) in
    let result : Some (values.Int t (arithmetic op t a.0 b.0)) ≡ Some u =
    ap (λ x. binary_result (binaries.Arithmetic op t) x (values.Int (type_of k) b.0)) (sym a.1) ∙ ap (binary_result (binaries.Arithmetic op t) r.0) (sym b.1) ∙ r.5 in (
      arithmetic op t a.0 b.0,
      result-int t (arithmetic op t a.0 b.0) u result,
      ap (wrapped_value t) (two-values (binary_value nop) (machine_value v m) (machine_value v k) a.0 b.0 a.2 b.2 ∙ n.1) ∙ ap Some n.2,
    )

pub shift-number : (s : State) (v : List ℤ) (way : Shift) (nop : NOp) (t : IntType) (e f : CsExprTree) (m k : MExprTree) → StandsForShift way nop
    → type_of m ≡ t → IsNumberOf s v e m → IsNumberOf s v f k → IsNumberOf s v (Binary (binaries.Shift way t) e f) (numbers.Binary nop t m k)
shift-number s v way nop t e f m k law tm p q u h =
    let r = both-values (binaries.Shift way t) e f s u h in
    let a = p r.0 r.2 in let b = q r.1 r.3 in
    let ha : HasNumber t a.0 = subst (λ i. HasNumber i a.0) tm (machine_has v m a.0 a.2) in
    let takes : takes_right (binaries.Shift way t) (values.Int (type_of k) b.0) ≡ true = ap (takes_right (binaries.Shift way t)) (sym b.1) ∙ r.4 in
    let first = (and_parts (int_le (pos 0) b.0) (int_lt b.0 (pos (width t))) takes).0 in
    let low : pos 0 ≤ℤ b.0 = omega (arith, ints, first) in
    let n = some-of (binary_value nop a.0 b.0) (λ x. wrapped t x ≡ shifted way t a.0 b.0) (law t a.0 b.0 ha low) in
    let result : Some (values.Int t (shifted way t a.0 b.0)) ≡ Some u =
    ap (λ x. binary_result (binaries.Shift way t) x (values.Int (type_of k) b.0)) (sym a.1) ∙ ap (binary_result (binaries.Shift way t) r.0) (sym b.1) ∙ r.5 in (
      shifted way t a.0 b.0,
      result-int t (shifted way t a.0 b.0) u result,
      ap (wrapped_value t) (two-values (binary_value nop) (machine_value v m) (machine_value v k) a.0 b.0 a.2 b.2 ∙ n.1) ∙ ap Some n.2,
    )

pub compare-number : (s : State) (v : List ℤ) (c : Comparison) (nop : NOp) (t : IntType) (e f : CsExprTree) (m k : MExprTree) → StandsForComparison c nop false
    → IsNumberOf s v e m → IsNumberOf s v f k → IsNumberOf s v (Binary (binaries.CompareInts c t) e f) (numbers.Binary nop ints_of.Int m k)
compare-number s v c nop t e f m k law p q u h =
    let r = both-values (binaries.CompareInts c t) e f s u h in
    let a = p r.0 r.2 in let b = q r.1 r.3 in
    let x = compares c a.0 b.0 in
    let result : Some (bit x) ≡ Some u =
    ap (λ y. binary_result (binaries.CompareInts c t) y (values.Int (type_of k) b.0)) (sym a.1) ∙ ap (binary_result (binaries.CompareInts c t) r.0) (sym b.1) ∙ r.5 in (
      number_truth x,
      same-value (bit x) u result ∙ bit-of x,
      ap (wrapped_value ints_of.Int) (two-values (binary_value nop) (machine_value v m) (machine_value v k) a.0 b.0 a.2 b.2 ∙ law a.0 b.0) ∙ ap Some (truth-has x),
    )

pub compare-turned : (s : State) (v : List ℤ) (c : Comparison) (nop : NOp) (t : IntType) (e f : CsExprTree) (m k : MExprTree) → StandsForComparison c nop true
    → IsNumberOf s v e m → IsNumberOf s v f k → IsNumberOf s v (Binary (binaries.CompareInts c t) e f) (numbers.Binary nop ints_of.Int k m)
compare-turned s v c nop t e f m k law p q u h =
    let r = both-values (binaries.CompareInts c t) e f s u h in
    let a = p r.0 r.2 in let b = q r.1 r.3 in
    let x = compares c a.0 b.0 in
    let result : Some (bit x) ≡ Some u =
    ap (λ y. binary_result (binaries.CompareInts c t) y (values.Int (type_of k) b.0)) (sym a.1) ∙ ap (binary_result (binaries.CompareInts c t) r.0) (sym b.1) ∙ r.5 in (
      number_truth x,
      same-value (bit x) u result ∙ bit-of x,
      ap (wrapped_value ints_of.Int) (two-values (binary_value nop) (machine_value v k) (machine_value v m) b.0 a.0 b.2 a.2 ∙ law a.0 b.0) ∙ ap Some (truth-has x),
    )
