-- Operators: what their checks look at in both languages is judged alike, and where it passes they have a value.
use Rattle.std.proofs.Common.{◌≡◌, ℕ, List, [], ◌∷◌, map, Option, Some, None, refl, pos, Bool, true, false, ap, ℤ}
use Rattle.std.specs.Prelude.{if◌then◌else◌, not}
use Rattle.std.specs.Ordering.{int_eq}
use Rattle.c_syntax_written.specs.declared.int_type.IntType.{IntType}
use Rattle.c_syntax_written.specs.declared.place.Pos.{Pos}
use Rattle.c_syntax_written.specs.Integer.{is_signed, least}
use Rattle.c_syntax.specs.declared.alarm.WrongKind.{WrongKind}
use Rattle.c_syntax.specs.declared.alarm.WrongKind.TheVariants as kinds
use Rattle.c_syntax.specs.declared.operator.Arithmetic.{Arithmetic}
use Rattle.c_syntax.specs.declared.operator.Arithmetic.TheVariants as ariths
use Rattle.c_syntax.specs.declared.operator.TBinaryOp.{TBinaryOp}
use Rattle.c_syntax.specs.declared.operator.TBinaryOp.TheVariants as binaries
use Rattle.c_syntax.specs.declared.program.Plan.{Plan}
use Rattle.c_syntax.specs.Types.{ObjectTree}
use Rattle.c_syntax.specs.Operand.{Operand, Number}
use Rattle.c_syntax.specs.Program.{TProgramTree}
use Rattle.c_layout.specs.Checks.{plain_check, range_check, result_checks, binary_checks}
use Rattle.c_layout.specs.Plans.{IsPlanFor}
use Rattle.c_layout.specs.WellTyped.{IsWellTyped}
use Rattle.block_mem.specs.declared.types.Value.{Value}
use Rattle.block_mem.specs.declared.types.Value.TheVariants as values
use Rattle.c_values.specs.Looks.{looks, Judged, Passes, FailsAs, judge}
use Rattle.c_values.specs.Operators.{binary_looks, binary_operand, binary_result}
use Rattle.c_steps.specs.Work.{Item, Bin}
use Rattle.c_steps.specs.States.{Held, State, state, goes, held, with_some}
use Rattle.c_steps.specs.Steps.{step}
use Rattle.c_steps.specs.Runs.{calls_in}
use Rattle.c_steps_laws.specs.Fits.{Fits}
use Rattle.c_steps_laws.proofs.NeededRuns.{fitting_states_step}
use Rattle.csharp.specs.Trees.{CsExprTree, Binary}
use Rattle.csharp.specs.States as low
use Rattle.csharp.specs.States.{value_of, look_of, takes_right}
use Rattle.csharp.specs.Outcomes.{Normal}
use Rattle.lower_trees.specs.Checking.{checks, binary_one, binary_list}
use Rattle.lower_rows.proofs.Steps.{one}
use Rattle.lower_rows.proofs.Rows.{ValueGoal, ValueFollows, no_way, run, all_mapped, checks_end, outcome_judged, as_it_is}

-- the check of a result, where there is one
pub signed_same : (z : Bool) (kind : WrongKind) (lo hi : ℤ) (at : Pos) (op : TBinaryOp) (a b : CsExprTree) (s : low.State) (v u : Value)
    → (look_of (binary_one at op a b (range_check kind lo hi)) s).operand ≡ binary_operand s.memory op v u kind
    → map (λ c. look_of c s) (map (binary_one at op a b) (if z then range_check kind lo hi ∷ [] else []))
    ≡ looks (binary_operand s.memory op v u) (if z then range_check kind lo hi ∷ [] else [])
signed_same true kind lo hi at op a b s v u e = rw e refl
signed_same false kind lo hi at op a b s v u e = refl

-- a divisor is asked first
zero_first : (x : Operand) (z : Bool) (r r' : Judged) → (z ≡ false → r ≡ r') → (if z then FailsAs kinds.DivideByZero x else r) ≡ (if z then FailsAs kinds.DivideByZero x else r')
zero_first x true r r' h = refl
zero_first x false r r' h = h refl

module _ (objects : List ObjectTree) (at : Pos) (t : IntType) (a b : CsExprTree) (s : low.State) (v : Value) (ea : value_of a s ≡ Some v) where
  abbrev JudgedAlike : Arithmetic → Value → Type 0
  JudgedAlike op u = judge objects (map (λ c. look_of c s) (binary_list at (binaries.Arithmetic op t) a b)) ≡ judge objects (binary_looks s.memory (binaries.Arithmetic op t) v u)

  divided : (op : Arithmetic) (u : Value) (k : ℤ) (tu : IntType) → value_of b s ≡ Some (values.Int tu k) → (int_eq k (pos 0) ≡ false
      → judge objects (map (λ c. look_of c s) (map (binary_one at (binaries.Arithmetic op t) a b) (result_checks kinds.Quotient t)))
      ≡ judge objects (looks (binary_operand s.memory (binaries.Arithmetic op t) v (values.Int tu k)) (result_checks kinds.Quotient t)))
      → judge objects (map (λ c. look_of c s) (map (binary_one at (binaries.Arithmetic op t) a b) (plain_check kinds.DivideByZero ∷ result_checks kinds.Quotient t)))
      ≡ judge objects (looks (binary_operand s.memory (binaries.Arithmetic op t) v (values.Int tu k)) (plain_check kinds.DivideByZero ∷ result_checks kinds.Quotient t))
  divided op u k tu eb h = rw eb (zero_first (Number k) (int_eq k (pos 0)) _ _ h)

  pub arithmetic_alike : (op : Arithmetic) (u : Value) → value_of b s ≡ Some u → JudgedAlike op u
  arithmetic_alike ariths.Multiply u eb = ap (judge objects) (signed_same (is_signed t) kinds.Overflow (least t) _ at (binaries.Arithmetic ariths.Multiply t) a b s v u (rw ea (rw eb refl)))
  arithmetic_alike ariths.Add u eb = ap (judge objects) (signed_same (is_signed t) kinds.Overflow (least t) _ at (binaries.Arithmetic ariths.Add t) a b s v u (rw ea (rw eb refl)))
  arithmetic_alike ariths.Subtract u eb = ap (judge objects) (signed_same (is_signed t) kinds.Overflow (least t) _ at (binaries.Arithmetic ariths.Subtract t) a b s v u (rw ea (rw eb refl)))
  arithmetic_alike ariths.Divide (values.Int tu k) eb = divided ariths.Divide (values.Int tu k) k tu eb (λ z. ap (judge objects)
      (signed_same (is_signed t) kinds.Quotient (least t) _ at (binaries.Arithmetic ariths.Divide t) a b s v (values.Int tu k) (rw ea (rw eb (rw z refl)))))
  arithmetic_alike ariths.Divide (values.Ptr q) eb = rw eb refl
  arithmetic_alike ariths.Divide values.Null eb = rw eb refl
  arithmetic_alike ariths.Remainder (values.Int tu k) eb = divided ariths.Remainder (values.Int tu k) k tu eb (λ z. ap (judge objects)
      (signed_same (is_signed t) kinds.Quotient (least t) _ at (binaries.Arithmetic ariths.Remainder t) a b s v (values.Int tu k) (rw ea (rw eb (rw z refl)))))
  arithmetic_alike ariths.Remainder (values.Ptr q) eb = rw eb refl
  arithmetic_alike ariths.Remainder values.Null eb = rw eb refl
  arithmetic_alike ariths.BitAnd u eb = refl
  arithmetic_alike ariths.BitXor u eb = refl
  arithmetic_alike ariths.BitOr u eb = refl

-- what passes is taken
not_zero : (x : Operand) (z : Bool) (r : Judged) → (if z then FailsAs kinds.DivideByZero x else r) ≡ Passes → not z ≡ true
not_zero x true r e = absurd (cc)
not_zero x false r e = refl

pub arithmetic_taken : (objects : List ObjectTree) (m : _) (op : Arithmetic) (t : IntType) (v u : Value) → judge objects (binary_looks m (binaries.Arithmetic op t) v u) ≡ Passes
    → takes_right (binaries.Arithmetic op t) u ≡ true
arithmetic_taken objects m ariths.Multiply t v u e = refl
arithmetic_taken objects m ariths.Add t v u e = refl
arithmetic_taken objects m ariths.Subtract t v u e = refl
arithmetic_taken objects m ariths.Divide t v (values.Int tu k) e = not_zero (Number k) (int_eq k (pos 0)) _ e
arithmetic_taken objects m ariths.Divide t v (values.Ptr q) e = absurd (cc)
arithmetic_taken objects m ariths.Divide t v values.Null e = absurd (cc)
arithmetic_taken objects m ariths.Remainder t v (values.Int tu k) e = not_zero (Number k) (int_eq k (pos 0)) _ e
arithmetic_taken objects m ariths.Remainder t v (values.Ptr q) e = absurd (cc)
arithmetic_taken objects m ariths.Remainder t v values.Null e = absurd (cc)
arithmetic_taken objects m ariths.BitAnd t v u e = refl
arithmetic_taken objects m ariths.BitXor t v u e = refl
arithmetic_taken objects m ariths.BitOr t v u e = refl

pub value_taken : (op : TBinaryOp) (a b : CsExprTree) (s : low.State) (v u : Value) → value_of a s ≡ Some v → value_of b s ≡ Some u → takes_right op u ≡ true
    → value_of (Binary op a b) s ≡ binary_result op v u
value_taken op a b s v u ea eb z = rw ea (rw eb (rw z refl))

module _ (over : ℕ → Bool) (p : TProgramTree) (plan : Plan) (n : ℕ) (ok : IsWellTyped p) (planned : IsPlanFor p plan) where
  -- the machine does not stand, so the operator has a value
  operated : (s0 : State) (w : List Item) (s : List Held) (a : CsExprTree) (t : low.State) (o : Option Value) → Fits p s0 → value_of a t ≡ o
      → step p s0 ≡ with_some o (λ v. goes w (held v ∷ s) t.memory t.inputs) → ValueFollows over p n s0 w s a (Normal t)
  operated s0 w s a t None fits e f = absurd (fitting_states_step p plan ok planned s0 fits f)
  operated s0 w s a t (Some v) fits e f = as_it_is over p plan n s0 w s a t v e (one p _ _ f)

  pub arithmetic_row : (at : Pos) (op : Arithmetic) (ty : IntType) (w : List Item) (s : List Held) (a b : CsExprTree) (t : low.State) (v u : Value)
      → value_of a t ≡ Some v → value_of b t ≡ Some u → Fits p (state (Bin at (binaries.Arithmetic op ty) ∷ w) (held u ∷ held v ∷ s) t.memory t.inputs)
      → ValueFollows over p n (state (Bin at (binaries.Arithmetic op ty) ∷ w) (held u ∷ held v ∷ s) t.memory t.inputs) w s (Binary (binaries.Arithmetic op ty) a b)
      (run over p plan n (checks (binary_list at (binaries.Arithmetic op ty) a b)) t)
  arithmetic_row at op ty w s a b t v u ea eb fits =
      checks_end over p plan n (Bin at (binaries.Arithmetic op ty)) w (held u ∷ held v ∷ s) t at (binary_list at (binaries.Arithmetic op ty) a b)
      (binary_looks t.memory (binaries.Arithmetic op ty) v u) (with_some (binary_result (binaries.Arithmetic op ty) v u) (λ new. goes w (held new ∷ s) t.memory t.inputs))
      (calls_in w) (ValueGoal (Binary (binaries.Arithmetic op ty) a b) w s) no_way
      (all_mapped over p plan n at (binary_one at (binaries.Arithmetic op ty) a b) (λ c. refl) (binary_checks (binaries.Arithmetic op ty)))
      (arithmetic_alike p.objects at ty a b t v ea op u eb) refl
      (outcome_judged (judge p.objects (binary_looks t.memory (binaries.Arithmetic op ty) v u)) (binary_result (binaries.Arithmetic op ty) v u) at _)
      (λ passes f. operated _ w s (Binary (binaries.Arithmetic op ty) a b) t (binary_result (binaries.Arithmetic op ty) v u) fits
      (value_taken (binaries.Arithmetic op ty) a b t v u ea eb (arithmetic_taken p.objects t.memory op ty v u passes)) f)
