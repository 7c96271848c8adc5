-- Typed values, and their conversions.
use Rattle.std.proofs.Common.{◌≡◌, true, false, refl, ap, sym, subst, ◌∙◌}
use Rattle.std.specs.Prelude.{Bool, if◌then◌else◌}
use Rattle.c_syntax_written.specs.declared.place.Pos.{Pos}
use Rattle.c_syntax_written.specs.declared.int_type.IntType.{IntType}
use Rattle.c_syntax.specs.Types.{CTypeTree, Void, Int, Pointer}
use Rattle.c_syntax.specs.TypedExpr.{TExprTree, Const, Null, Load, AddressOf, Decay, Whole, Unary, Binary, Convert, Assign, AssignStruct, Compound, Step, And, Or, Cond, Comma, Call, Any, Assume, Assert}
use Rattle.c_syntax.specs.TypedParts.{texpr_pos, texpr_type}
use Rattle.c_syntax.specs.GivenType.{given_type}
use Rattle.c_layout.specs.ProperTypes.{IsProperType}
use Rattle.c_layout.specs.RowTypes.{ConvertRow}
use Rattle.c_layout.specs.TypedNodes.{Scope, IsTypedExpr, IsTypedPlace, AreTyped}
use Rattle.c_typing.specs.SameTypes.{is_same_int, is_same}
use Rattle.c_typing.specs.Operands.{as_int, as_type}
use Rattle.c_typing.specs.Settled.{settled_expr, settled_place, settled_exprs}
use Rattle.c_typing_laws.specs.TypedValues.{IsTypedValue, last_expr}
use Rattle.c_typing.proofs.Same.{one_int, one_type}

-- a value that is wanted is given
pub given_is : (scope : Scope) (e : TExprTree) → IsTypedExpr scope true e → given_type e ≡ texpr_type e
unfolding IsTypedExpr IsTypedPlace AreTyped
given_is scope (Const at ty value) t = refl
given_is scope (Null at ty) t = refl
given_is scope (Load at place) t = refl
given_is scope (AddressOf at place) t = refl
given_is scope (Decay at place) t = refl
given_is scope (Whole at place) t = refl
given_is scope (Unary at op operand) t = refl
given_is scope (Binary at op left right) t = refl
given_is scope (Convert at ty operand) t = refl
given_is scope (Assign at place value) t = refl
given_is scope (AssignStruct at extent place source) t = refl
given_is scope (Compound at op place value) t = refl
given_is scope (Step at time way stride place) t = refl
given_is scope (And at left right) t = refl
given_is scope (Or at left right) t = refl
given_is scope (Cond at ty condition first second) t = refl
given_is scope (Comma at left right) t = given_is scope right t.1
given_is scope (Call at function ty used args) t = ap (λ b. if b then ty else Void) t.0
given_is scope (Any at ty) t = refl
given_is scope (Assume at operand) t = refl
given_is scope (Assert at operand) t = refl

pub value_given : (scope : Scope) (e : TExprTree) → IsTypedValue scope e → (ty : CTypeTree) → texpr_type e ≡ ty → given_type (last_expr scope e) ≡ ty
value_given scope e v ty p = given_is scope (last_expr scope e) v.typed ∙ v.kept ∙ p

-- what is given of a value fits where its type does
pub fits : (scope : Scope) (e : TExprTree) → IsTypedValue scope e → (P : CTypeTree → Type 0) (ty : CTypeTree) → texpr_type e ≡ ty → P ty → P (given_type (last_expr scope e))
fits scope e v P ty p h = subst P (sym (value_given scope e v ty p)) h

-- ---- conversions

-- to an integer type
pub int_value : (scope : Scope) (at : Pos) (t u : IntType) (e : TExprTree) → IsTypedValue scope e → texpr_type e ≡ Int t → IsTypedValue scope (Convert at (Int u) e)
unfolding IsTypedExpr IsTypedPlace AreTyped settled_expr settled_place settled_exprs
int_value scope at t u e v p = record { typed = (v.typed, tt, fits scope e v (ConvertRow (Int u)) (Int t) p tt); proper = tt; kept = refl }

-- to a pointer type
pub pointer_value :
    (scope : Scope) (at : Pos) (to from : CTypeTree) (c d : Bool) (e : TExprTree) → IsTypedValue scope e → texpr_type e ≡ Pointer from d → IsProperType scope.program.structs to
    → IsTypedValue scope (Convert at (Pointer to c) e)
unfolding IsTypedExpr IsTypedPlace AreTyped settled_expr settled_place settled_exprs
pointer_value scope at to from c d e v p proper = record { typed = (v.typed, proper, fits scope e v (ConvertRow (Pointer to c)) (Pointer from d) p tt); proper = proper; kept = refl }

pub null_value : (scope : Scope) (at : Pos) (to : CTypeTree) (c : Bool) → IsProperType scope.program.structs to → IsTypedValue scope (Null at (Pointer to c))
unfolding IsTypedExpr IsTypedPlace AreTyped settled_expr settled_place settled_exprs
null_value scope at to c proper = record { typed = (tt, proper); proper = proper; kept = refl }

-- an integer at a type, which is a node only where it has another
pub as_int_value : (scope : Scope) (u t : IntType) (e : TExprTree) → IsTypedValue scope e → texpr_type e ≡ Int t → IsTypedValue scope (as_int u t e)
as_int_value scope u t e v p = by (is_same_int u t)
  where
    by : (b : Bool) → IsTypedValue scope (if b then e else Convert (texpr_pos e) (Int u) e)
    by true = v
    by false = int_value scope (texpr_pos e) t u e v p

pub as_int_type : (u t : IntType) (e : TExprTree) → texpr_type e ≡ Int t → texpr_type (as_int u t e) ≡ Int u
as_int_type u t e p = by (is_same_int u t) refl
  where
    by : (b : Bool) → is_same_int u t ≡ b → texpr_type (if b then e else Convert (texpr_pos e) (Int u) e) ≡ Int u
    by true q = p ∙ ap Int (sym (one_int u t q))
    by false q = refl

-- a pointer at a type
pub as_pointer_value :
    (scope : Scope) (to from : CTypeTree) (c d : Bool) (e : TExprTree) → IsTypedValue scope e → texpr_type e ≡ Pointer from d → IsProperType scope.program.structs to
    → IsTypedValue scope (as_type (Pointer to c) e)
as_pointer_value scope to from c d e v p proper = by (is_same (Pointer to c) (texpr_type e))
  where
    by : (b : Bool) → IsTypedValue scope (if b then e else Convert (texpr_pos e) (Pointer to c) e)
    by true = v
    by false = pointer_value scope (texpr_pos e) to from c d e v p proper

-- and what is at a type has it
pub as_type_type : (ty : CTypeTree) (e : TExprTree) → texpr_type (as_type ty e) ≡ ty
as_type_type ty e = by (is_same ty (texpr_type e)) refl
  where
    by : (b : Bool) → is_same ty (texpr_type e) ≡ b → texpr_type (if b then e else Convert (texpr_pos e) ty e) ≡ ty
    by true q = sym (one_type ty (texpr_type e) q)
    by false q = refl
