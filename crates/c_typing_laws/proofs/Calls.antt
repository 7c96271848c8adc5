-- Calls, inputs, `__assume` and `__assert`.
use Rattle.std.proofs.Common.{◌≡◌, ℕ, true, false, List, [], ◌∷◌, length, refl, sym, subst, arith}
use Rattle.std.specs.Prelude.{◌==◌, Bool, if◌then◌else◌, Option, None, Some, IsSomeAnd, All, find, bytes_eq}
use Rattle.std.proofs.lemmas.Bool.{eqb-true}
use Rattle.std.proofs.lemmas.List.Elements.{All-from_recursion, All-head, All-tail}
use Rattle.c_syntax_written.specs.declared.place.Pos.{Pos}
use Rattle.c_syntax_written.specs.declared.int_type.IntType.{IntType}
use Rattle.c_syntax.specs.Types.{CTypeTree}
use Rattle.c_syntax.specs.TypedExpr.{TExprTree, Call, Any, Assume, Assert, TExprTrees, none, more}
use Rattle.c_syntax.specs.TypedParts.{texpr_type}
use Rattle.c_syntax.specs.GivenType.{given_type}
use Rattle.c_layout.specs.ProperTypes.{IsProperType}
use Rattle.c_layout.specs.RowTypes.{IsInputType, IsScalar}
use Rattle.c_layout.specs.TypedNodes.{Scope, IsTypedExpr, IsTypedPlace, AreTyped, types_of, ArgumentsRow, CallRow}
use Rattle.c_typing.specs.World.{World, Meaning, Object, Missing, Parameter, TypeName, Enumeration, Refusal, Outcome, Typed, Refused}
use Rattle.c_typing.specs.World as world
use Rattle.c_typing.specs.Names.{inputs, input_type, is_assume, is_assert, meaning_of}
use Rattle.c_typing.specs.Operands.{OperandTree, Value}
use Rattle.c_typing.specs.Rows.{is_scalar, store_row}
use Rattle.c_typing.specs.Nodes.{count_of, Passed, Passes, Fails, with_passed, passed_one, passed, call_node, result_of, params_of, call_named, input_read, told, called_or_read}
use Rattle.c_typing.proofs.FormsGo.{found_each, mapped}
use Rattle.c_typing.specs.Settled.{settled_expr, settled_place, settled_exprs}
use Rattle.c_typing_laws.specs.TypedValues.{IsTypedValue, IsTypedOperand, AreTypedValues, last_expr}
use Rattle.c_typing_laws.specs.RowLaws.{IsStored}
use Rattle.c_typing_laws.specs.NodeLaws.{IsCallable, CallsAreTyped}
use Rattle.c_typing_laws.proofs.Stores.{values_are_stored}
use Rattle.c_typing_laws.proofs.Operators.{scalar_value}
use Rattle.c_typing_laws.proofs.Places.{typed_is, not_typed}

-- ---- arguments

-- arguments that are passed as parameters of these types
record ArePassed (scope : Scope) (params : List CTypeTree) (args : TExprTrees) : Type 0 where
  typed : AreTyped scope (settled_exprs scope.program.objects args)
  row : ArgumentsRow params (types_of (settled_exprs scope.program.objects args))

passes_is : (a b : TExprTrees) → Passes a ≡ Passes b → a ≡ b
passes_is a b e = cc

fails_not : {P : Type 0} (r : Refusal) (a : TExprTrees) → Fails r ≡ Passes a → P
fails_not r a e = absurd cc

none_passed : (scope : Scope) → ArePassed scope [] none
unfolding IsTypedExpr IsTypedPlace AreTyped settled_expr settled_place settled_exprs types_of
none_passed scope = record { typed = tt; row = tt }

one_passed :
    (scope : Scope) (param : CTypeTree) (params : List CTypeTree) (e : TExprTree) (rest : TExprTrees) → IsStored scope param e → ArePassed scope params rest
    → ArePassed scope (param ∷ params) (more e rest)
unfolding IsTypedExpr IsTypedPlace AreTyped settled_expr settled_place settled_exprs types_of
one_passed scope param params e rest s a = record { typed = (s.typed.typed, a.typed); row = (s.row, a.row) }

-- the rest, behind an argument that is stored
then_passed :
    (scope : Scope) (param : CTypeTree) (params : List CTypeTree) (e : TExprTree) (rest : Passed) (xs : TExprTrees) → IsStored scope param e
    → ((ys : TExprTrees) → rest ≡ Passes ys → ArePassed scope params ys) → with_passed e rest ≡ Passes xs → ArePassed scope (param ∷ params) xs
then_passed scope param params e (Passes ys) xs s f r = subst (ArePassed scope (param ∷ params)) (passes_is (more e ys) xs r) (one_passed scope param params e ys s (f ys refl))
then_passed scope param params e (Fails q) xs s f r = fails_not q xs r

first_passed :
    (scope : Scope) (param : CTypeTree) (params : List CTypeTree) (q : Refusal) (row : Option TExprTree) (rest : Passed) (xs : TExprTrees)
    → ((value : TExprTree) → row ≡ Some value → IsStored scope param value) → ((ys : TExprTrees) → rest ≡ Passes ys → ArePassed scope params ys)
    → passed_one q row rest ≡ Passes xs → ArePassed scope (param ∷ params) xs
first_passed scope param params q None rest xs g f r = fails_not q xs r
first_passed scope param params q (Some value) rest xs g f r = then_passed scope param params value rest xs (g value refl) f r

all_passed :
    (w : World) (scope : Scope) (at : Pos) (params : List CTypeTree) (args xs : TExprTrees) → All (IsProperType scope.program.structs) params → AreTypedValues scope args
    → length params ≡ count_of args → passed w at params args ≡ Passes xs → ArePassed scope params xs
unfolding AreTypedValues count_of passed
all_passed w scope at [] none xs proper typed e r = subst (ArePassed scope []) (passes_is none xs r) (none_passed scope)
all_passed w scope at [] (more a rest) xs proper typed e r = absurd (omega (arith, e))
all_passed w scope at (param ∷ params) none xs proper typed e r = absurd (omega (arith, e))
all_passed w scope at (param ∷ params) (more a rest) xs proper typed e r =
    first_passed scope param params _ (store_row param (texpr_type a) a) (passed w at params rest) xs
    (λ value q. values_are_stored scope param a value typed.0 (All-head (IsProperType scope.program.structs) param params proper) q)
    (λ ys q. all_passed w scope at params rest ys (All-tail (IsProperType scope.program.structs) param params proper) typed.1 (omega (arith, e)) q) r

-- ---- a call

call_typed :
    (w : World) (scope : Scope) (at : Pos) (n : ℕ) (args : TExprTrees) → IsCallable w scope n → ArePassed scope (params_of w n) args → IsTypedValue scope (Call at n (result_of w n) true args)
unfolding IsTypedExpr IsTypedPlace AreTyped settled_expr settled_place settled_exprs
call_typed w scope at n args is a = record {
  typed = (
    refl,
    a.typed,
    subst (λ o. IsSomeAnd o (λ f. CallRow scope.program f (result_of w n) (types_of (settled_exprs scope.program.objects args)))) (sym is.there)
        (is.result, subst (λ params. ArgumentsRow params (types_of (settled_exprs scope.program.objects args))) is.params a.row),
  );
  proper = is.result_proper;
  kept = refl;
}

node_typed :
    (w v : World) (scope : Scope) (at : Pos) (n : ℕ) (params : List CTypeTree) (args : Passed) (y : OperandTree) → IsCallable w scope n
    → ((xs : TExprTrees) → args ≡ Passes xs → ArePassed scope (params_of w n) xs) → call_node w at n (result_of w n) args ≡ Typed y v → IsTypedOperand scope y
node_typed w v scope at n params (Passes xs) y is f p = subst (IsTypedOperand scope) (typed_is _ y w v p) (call_typed w scope at n xs is (f xs refl))
node_typed w v scope at n params (Fails r) y is f p = not_typed r y v p

function_called :
    (w v : World) (scope : Scope) (at : Pos) (n : ℕ) (args : TExprTrees) (y : OperandTree) (q : Refusal) (many : Bool) → IsCallable w scope n → AreTypedValues scope args
    → (length (params_of w n) == count_of args) ≡ many → (if many then call_node w at n (result_of w n) (passed w at (params_of w n) args) else Refused q) ≡ Typed y v → IsTypedOperand scope y
function_called w v scope at n args y q true is typed e p =
    node_typed w v scope at n (params_of w n) _ y is (λ xs r. all_passed w scope at (params_of w n) args xs is.params_proper typed (eqb-true _ _ e) r) p
function_called w v scope at n args y q false is typed e p = not_typed q y v p

named_called :
    (w v : World) (scope : Scope) (at : Pos) (args : TExprTrees) (m : Option Meaning) (y : OperandTree) → ((n : ℕ) → m ≡ Some (world.Function n) → IsCallable w scope n)
    → AreTypedValues scope args → call_named w at args m ≡ Typed y v → IsTypedOperand scope y
named_called w v scope at args None y f typed p = not_typed _ y v p
named_called w v scope at args (Some (Object n)) y f typed p = not_typed _ y v p
named_called w v scope at args (Some (Missing ty c)) y f typed p = not_typed _ y v p
named_called w v scope at args (Some (Parameter k ty c)) y f typed p = not_typed _ y v p
named_called w v scope at args (Some (world.Function n)) y f typed p = function_called w v scope at n args y _ (length (params_of w n) == count_of args) (f n refl) typed refl p
named_called w v scope at args (Some (TypeName form)) y f typed p = not_typed _ y v p
named_called w v scope at args (Some (Enumeration n)) y f typed p = not_typed _ y v p

-- ---- inputs, and what is told

inputs_typed : All (λ input. IsInputType input.1) inputs
inputs_typed = All-from_recursion (λ input. IsInputType input.1) inputs (tt, (tt, (tt, (tt, (tt, (tt, (tt, (tt, tt))))))))

input_is : (name : List ℕ) (t : IntType) → input_type name ≡ Some t → IsInputType t
input_is name t e =
    mapped (λ input. input.1) (find (λ input. bytes_eq input.0 name) inputs) t IsInputType
    (λ input r. found_each (λ i. IsInputType i.1) (λ i. bytes_eq i.0 name) inputs input inputs_typed r) e

any_node : (scope : Scope) (at : Pos) (t : IntType) → IsInputType t → IsTypedValue scope (Any at t)
unfolding IsTypedExpr IsTypedPlace AreTyped settled_expr settled_place settled_exprs
any_node scope at t h = record { typed = h; proper = tt; kept = refl }

input_typed : (w v : World) (scope : Scope) (at : Pos) (t : IntType) (args : TExprTrees) (y : OperandTree) → IsInputType t → input_read w at t args ≡ Typed y v → IsTypedOperand scope y
input_typed w v scope at t none y h p = subst (IsTypedOperand scope) (typed_is _ y w v p) (any_node scope at t h)
input_typed w v scope at t (more a rest) y h p = not_typed _ y v p

assume_node : (scope : Scope) (at : Pos) (e : TExprTree) → IsTypedValue scope e → IsScalar (given_type (last_expr scope e)) → IsTypedValue scope (Assume at e)
unfolding IsTypedExpr IsTypedPlace AreTyped settled_expr settled_place settled_exprs
assume_node scope at e v scalar = record { typed = (v.typed, scalar); proper = tt; kept = refl }

assert_node : (scope : Scope) (at : Pos) (e : TExprTree) → IsTypedValue scope e → IsScalar (given_type (last_expr scope e)) → IsTypedValue scope (Assert at e)
unfolding IsTypedExpr IsTypedPlace AreTyped settled_expr settled_place settled_exprs
assert_node scope at e v scalar = record { typed = (v.typed, scalar); proper = tt; kept = refl }

one_told :
    (w v : World) (scope : Scope) (node : TExprTree → TExprTree) (e : TExprTree) (y : OperandTree) (q : Refusal) (scalar : Bool)
    → ((IsScalar (given_type (last_expr scope e))) → IsTypedValue scope (node e)) → IsTypedValue scope e → is_scalar (texpr_type e) ≡ scalar
    → (if scalar then Typed (Value (node e)) w else Refused q) ≡ Typed y v → IsTypedOperand scope y
one_told w v scope node e y q true f x s p = subst (IsTypedOperand scope) (typed_is (Value (node e)) y w v p) (f (scalar_value scope e x s))
one_told w v scope node e y q false f x s p = not_typed q y v p

told_typed :
    (w v : World) (scope : Scope) (at : Pos) (node : TExprTree → TExprTree) (args : TExprTrees) (y : OperandTree)
    → ((e : TExprTree) → IsTypedValue scope e → IsScalar (given_type (last_expr scope e)) → IsTypedValue scope (node e))
    → AreTypedValues scope args → told w at node args ≡ Typed y v → IsTypedOperand scope y
unfolding AreTypedValues
told_typed w v scope at node none y f typed p = not_typed _ y v p
told_typed w v scope at node (more e none) y f typed p = one_told w v scope node e y _ (is_scalar (texpr_type e)) (λ s. f e typed.0 s) typed.0 refl p
told_typed w v scope at node (more e (more d rest)) y f typed p = not_typed _ y v p

called_by :
    (w v : World) (scope : Scope) (at : Pos) (name : List ℕ) (args : TExprTrees) (y : OperandTree) (assume assert : Bool)
    → ((n : ℕ) → meaning_of w name ≡ Some (world.Function n) → IsCallable w scope n) → AreTypedValues scope args
    → (if assume then told w at (Assume at) args else (if assert then told w at (Assert at) args else call_named w at args (meaning_of w name))) ≡ Typed y v → IsTypedOperand scope y
called_by w v scope at name args y true assert f typed p = told_typed w v scope at (Assume at) args y (λ e x s. assume_node scope at e x s) typed p
called_by w v scope at name args y false true f typed p = told_typed w v scope at (Assert at) args y (λ e x s. assert_node scope at e x s) typed p
called_by w v scope at name args y false false f typed p = named_called w v scope at args (meaning_of w name) y f typed p

read_or_called :
    (w v : World) (scope : Scope) (at : Pos) (name : List ℕ) (args : TExprTrees) (o : Option IntType) (y : OperandTree) → input_type name ≡ o
    → ((n : ℕ) → meaning_of w name ≡ Some (world.Function n) → IsCallable w scope n) → AreTypedValues scope args
    → called_or_read w at name args o ≡ Typed y v → IsTypedOperand scope y
read_or_called w v scope at name args (Some t) y e f typed p = input_typed w v scope at t args y (input_is name t e) p
read_or_called w v scope at name args None y e f typed p = called_by w v scope at name args y (is_assume name) (is_assert name) f typed p

pub calls_are_typed : CallsAreTyped
calls_are_typed w v scope at name args y f typed p = read_or_called w v scope at name args (input_type name) y refl f typed p
