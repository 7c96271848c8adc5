-- No value and no operand of a check looks at the inputs that are left.
use Rattle.std.proofs.Common.{◌≡◌, refl, ap, ◌∙◌, List, [], ◌∷◌, Option}
use Rattle.std.specs.Prelude.{option_and_then}
use Rattle.c_syntax.specs.declared.alarm.WrongKind.{WrongKind}
use Rattle.c_syntax.specs.declared.alarm.WrongKind.TheVariants as kinds
use Rattle.c_syntax.specs.Operand.{Operand}
use Rattle.c_syntax.specs.Types.{ObjectTree}
use Rattle.block_mem.specs.declared.types.Scalar.{Scalar}
use Rattle.block_mem.specs.declared.types.Scalar.TheVariants as scalars
use Rattle.block_mem.specs.declared.types.Value.{Value}
use Rattle.c_values.specs.Values.{converted_to}
use Rattle.c_values.specs.Places.{ObjectMemory, spot, point}
use Rattle.c_values.specs.Operators.{binary_result, unary_result, number, exact_binary, unary_operand, pair_operand}
use Rattle.c_values.specs.Accesses.{mark, test_operand}
use Rattle.c_values.specs.Looks.{judge}
use Rattle.c_objects.specs.Opening.{address}
use Rattle.csharp.specs.Trees.{CsExprTree, Const, Null, Temp, Address, Unary, Binary, Convert, CsCheckTree}
use Rattle.csharp.specs.States.{State, value_of, if_taken, on_both, exact_of, end_of, pointed, of_one, of_value, operand_of, look_of}
use Rattle.std.specs.Prelude.{slice_get}
use Rattle.mem_one_state.specs.One.{IsSame}

-- ---- values

pub value_same : (e : CsExprTree) (t s : State) → IsSame t s → value_of e t ≡ value_of e s
value_same (Const ty n) t s h = refl
value_same Null t s h = refl
value_same (Temp d) t s h = ap (λ (vs : List Value). slice_get vs d) h.temps
value_same (Address x) t s h = ap (λ (m : ObjectMemory). address m x 0) h.memory
value_same (Unary op e) t s h = ap (option_and_then (unary_result op)) (value_same e t s h)
value_same (Binary op e f) t s h =
    ap (λ (o : Option Value). option_and_then (λ v. option_and_then (if_taken op (binary_result op) v) o) (value_of e t)) (value_same f t s h)
    ∙ ap (option_and_then (λ v. option_and_then (if_taken op (binary_result op) v) (value_of f s))) (value_same e t s h)
value_same (Convert ty e) t s h = ap (option_and_then (converted_to (scalars.Int ty))) (value_same e t s h)

pub on_value : {A : Type 0} (look : ObjectMemory → Value → Option A) (e : CsExprTree) (t s : State) → IsSame t s
    → option_and_then (look t.memory) (value_of e t) ≡ option_and_then (look s.memory) (value_of e s)
on_value look e t s h =
    ap (λ (m : ObjectMemory). option_and_then (look m) (value_of e t)) h.memory ∙ ap (option_and_then (look s.memory)) (value_same e t s h)

pub on_two : {A : Type 0} (look : ObjectMemory → Value → Value → Option A) (e f : CsExprTree) (t s : State) → IsSame t s
    → on_both e f t (look t.memory) ≡ on_both e f s (look s.memory)
on_two look e f t s h =
    ap (λ (m : ObjectMemory). on_both e f t (look m)) h.memory
    ∙ ap (λ (o : Option Value). option_and_then (λ v. option_and_then (look s.memory v) o) (value_of e t)) (value_same f t s h)
    ∙ ap (option_and_then (λ v. option_and_then (look s.memory v) (value_of f s))) (value_same e t s h)

-- ---- operands

one_same : (es : List CsExprTree) (f g : CsExprTree → Option Operand) → ((e : CsExprTree) → f e ≡ g e) → of_one es f ≡ of_one es g
one_same [] f g h = refl
one_same (e ∷ []) f g h = h e
one_same (e ∷ x ∷ es) f g h = refl

exact_same : (e : CsExprTree) (t s : State) → IsSame t s → exact_of e t ≡ exact_of e s
exact_same (Unary op e) t s h = on_value (λ m v. unary_operand m op v kinds.Overflow) e t s h
exact_same (Binary op e f) t s h = on_two (λ m. if_taken op (exact_binary op)) e f t s h
exact_same (Const ty n) t s h = refl
exact_same Null t s h = refl
exact_same (Temp d) t s h = refl
exact_same (Address x) t s h = refl
exact_same (Convert ty e) t s h = refl

exacts : (es : List CsExprTree) (t s : State) → IsSame t s → of_one es (λ e. exact_of e t) ≡ of_one es (λ e. exact_of e s)
exacts es t s h = one_same es (λ e. exact_of e t) (λ e. exact_of e s) (λ e. exact_same e t s h)

looks : (look : ObjectMemory → Value → Option Operand) (es : List CsExprTree) (t s : State) → IsSame t s
    → of_value es t (look t.memory) ≡ of_value es s (look s.memory)
looks look es t s h = one_same es (λ e. option_and_then (look t.memory) (value_of e t)) (λ e. option_and_then (look s.memory) (value_of e s))
    (λ e. on_value look e t s h)

spots : (kind : WrongKind) (es : List CsExprTree) (t s : State) → IsSame t s → pointed kind es t ≡ pointed kind es s
spots kind [] t s h = refl
spots kind (e ∷ []) t s h = on_value point e t s h
spots kind (e ∷ f ∷ []) t s h = on_two (λ m v u. pair_operand (spot m v) (spot m u) kind) e f t s h
spots kind (e ∷ f ∷ g ∷ es) t s h = refl

pub operand_same : (kind : WrongKind) (ty : Option Scalar) (es : List CsExprTree) (t s : State) → IsSame t s
    → operand_of kind ty es t ≡ operand_of kind ty es s
operand_same kinds.Overflow ty es t s h = exacts es t s h
operand_same kinds.Quotient ty es t s h = exacts es t s h
operand_same kinds.ShiftResult ty es t s h = exacts es t s h
operand_same kinds.DivideByZero ty es t s h = looks (λ m. number) es t s h
operand_same kinds.ShiftAmount ty es t s h = looks (λ m. number) es t s h
operand_same kinds.AssertFailed ty es t s h = looks (λ m v. test_operand m v kinds.AssertFailed) es t s h
operand_same kinds.NoValue ty es t s h = looks (λ m. end_of) es t s h
operand_same kinds.Indeterminate ty es t s h = looks (λ m. mark m ty) es t s h
operand_same kinds.Fragment ty es t s h = looks (λ m. mark m ty) es t s h
operand_same kinds.NullUse ty es t s h = spots kinds.NullUse es t s h
operand_same kinds.Dangling ty es t s h = spots kinds.Dangling es t s h
operand_same kinds.Bounds ty es t s h = spots kinds.Bounds es t s h
operand_same kinds.Access ty es t s h = spots kinds.Access es t s h
operand_same kinds.Alignment ty es t s h = spots kinds.Alignment es t s h
operand_same kinds.ReadOnly ty es t s h = spots kinds.ReadOnly es t s h
operand_same kinds.Unrelated ty es t s h = spots kinds.Unrelated es t s h

pub judge_same : (objects : List ObjectTree) (c : CsCheckTree) (t s : State) → IsSame t s
    → judge objects (look_of c t ∷ []) ≡ judge objects (look_of c s ∷ [])
judge_same objects c t s h =
    ap (λ (o : Option Operand). judge objects (record { check = c.check; operand = o } ∷ [])) (operand_same c.check.kind c.ty c.operands t s h)
