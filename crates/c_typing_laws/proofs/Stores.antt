-- A typed value that is stored is typed.
use Rattle.std.proofs.Common.{◌≡◌, ℕ, true, false, List, refl, sym, subst, ◌∙◌}
use Rattle.std.specs.Prelude.{Bool, if◌then◌else◌, Option, None, Some, option_map}
use Rattle.std.proofs.lemmas.Option.{same_Some}
use Rattle.c_syntax.specs.Types.{CTypeTree, Int, Pointer, Struct}
use Rattle.c_syntax.specs.TypedExpr.{TExprTree}
use Rattle.c_syntax.specs.TypedParts.{texpr_pos, texpr_type}
use Rattle.c_syntax.specs.Program.{StructDefTree}
use Rattle.c_layout.specs.Layout.{align_in}
use Rattle.c_layout.specs.ProperTypes.{IsProperType}
use Rattle.c_layout.specs.RowTypes.{IsScalar, StoreRow}
use Rattle.c_layout.specs.TypedNodes.{Scope}
use Rattle.c_typing.specs.SameTypes.{is_same}
use Rattle.c_typing.specs.Operands.{as_type, as_null, complete_size}
use Rattle.c_typing.specs.Constants.{is_null_constant}
use Rattle.c_typing.specs.Rows.{store_row, stored_row, extent_of, Stored, Scalar, Copied}
use Rattle.c_typing.specs.Later.{IsLater}
use Rattle.c_typing.proofs.FormsGo.{no_some}
use Rattle.c_typing_laws.specs.TypedValues.{IsTypedValue}
use Rattle.c_typing_laws.specs.RowLaws.{IsStored, IsPut, ValuesAreStored, ValuesArePut}
use Rattle.c_typing.proofs.Later.{size_later, align_later}
use Rattle.c_typing.proofs.Same.{one_type}
use Rattle.c_typing_laws.proofs.Values.{value_given, as_int_value, as_int_type, as_pointer_value, as_type_type, null_value}

-- a value of the type that is stored
stored_same : (scope : Scope) (ty : CTypeTree) (e : TExprTree) → IsScalar ty → IsTypedValue scope e → texpr_type e ≡ ty → IsStored scope ty e
stored_same scope ty e scalar v p = record { typed = v; row = subst (StoreRow ty) (sym (value_given scope e v ty p)) (record { scalar = scalar; same = refl; keeps = λ h. h }) }

stored_as : {scope : Scope} {ty : CTypeTree} (x value : TExprTree) → Some x ≡ Some value → IsStored scope ty x → IsStored scope ty value
stored_as {scope} {ty} x value p s = subst (IsStored scope ty) (same_Some x value p) s

stored_null : (scope : Scope) (to : CTypeTree) (c : Bool) (e : TExprTree) → IsProperType scope.program.structs to → IsStored scope (Pointer to c) (as_null (Pointer to c) e)
stored_null scope to c e proper = stored_same scope (Pointer to c) _ tt (null_value scope (texpr_pos e) to c proper) refl

stored_pointer :
    (scope : Scope) (to from : CTypeTree) (c d null allowed : Bool) (e value : TExprTree) → IsTypedValue scope e → IsProperType scope.program.structs to → texpr_type e ≡ Pointer from d
    → (if null then Some (as_null (Pointer to c) e) else (if allowed then Some (as_type (Pointer to c) e) else None)) ≡ Some value → IsStored scope (Pointer to c) value
stored_pointer scope to from c d true allowed e value v proper p r = stored_as _ value r (stored_null scope to c e proper)
stored_pointer scope to from c d false true e value v proper p r =
    stored_as _ value r (stored_same scope (Pointer to c) _ tt (as_pointer_value scope to from c d e v p proper) (as_type_type (Pointer to c) e))
stored_pointer scope to from c d false false e value v proper p r = no_some value r

null_pointer :
    (scope : Scope) (to : CTypeTree) (c null : Bool) (e value : TExprTree) → IsProperType scope.program.structs to
    → (if null then Some (as_null (Pointer to c) e) else None) ≡ Some value → IsStored scope (Pointer to c) value
null_pointer scope to c true e value proper r = stored_as _ value r (stored_null scope to c e proper)
null_pointer scope to c false e value proper r = no_some value r

pub store_by :
    (scope : Scope) (target ty : CTypeTree) (e value : TExprTree) → IsTypedValue scope e → IsProperType scope.program.structs target → texpr_type e ≡ ty
    → store_row target ty e ≡ Some value → IsStored scope target value
store_by scope (Int t) (Int u) e value v proper p r = stored_as _ value r (stored_same scope (Int t) _ tt (as_int_value scope t u e v p) (as_int_type t u e p))
store_by scope (Pointer to c) (Pointer from d) e value v proper p r = stored_pointer scope to from c d (is_null_constant e) _ e value v proper p r
store_by scope (Pointer to c) (Int u) e value v proper p r = null_pointer scope to c (is_null_constant e) e value proper r
store_by scope target ty e value v proper p r = no_some value r

pub values_are_stored : ValuesAreStored
values_are_stored scope target e value v proper r = store_by scope target (texpr_type e) e value v proper refl r

-- ---- structs that are copied

scalar_put :
    (scope : Scope) (target : CTypeTree) (o : Option TExprTree) (stored : Stored) → ((value : TExprTree) → o ≡ Some value → IsStored scope target value)
    → option_map Scalar o ≡ Some stored → IsPut scope target stored
scalar_put scope target None stored f r = no_some stored r
scalar_put scope target (Some value) stored f r = subst (IsPut scope target) (same_Some (Scalar value) stored r) (f value refl)

copied :
    (structs : List StructDefTree) (scope : Scope) (n : ℕ) (e : TExprTree) (size : Option ℕ) (stored : Stored) → IsLater structs scope.program.structs
    → IsTypedValue scope e → texpr_type e ≡ Struct n → complete_size structs (Struct n) ≡ size
    → option_map (λ extent. Copied extent e) (option_map (λ s. record { size = s; align = align_in structs (Struct n) }) size) ≡ Some stored
    → IsPut scope (Struct n) stored
copied structs scope n e None stored later v p q r = no_some stored r
copied structs scope n e (Some s) stored later v p q r =
    subst (IsPut scope (Struct n)) (same_Some _ stored r) (
      v,
      record {
        number = n;
        target_struct = refl;
        source_struct = value_given scope e v (Struct n) p;
        size = size_later structs scope.program.structs later (Struct n) s q;
        align = align_later structs scope.program.structs later (Struct n) s q;
      },
    )

put_struct :
    (structs : List StructDefTree) (scope : Scope) (m n : ℕ) (same : Bool) (e : TExprTree) (stored : Stored) → IsLater structs scope.program.structs
    → IsTypedValue scope e → texpr_type e ≡ Struct n → is_same (Struct m) (Struct n) ≡ same
    → (if same then option_map (λ extent. Copied extent e) (extent_of structs (Struct m)) else None) ≡ Some stored → IsPut scope (Struct m) stored
put_struct structs scope m n true e stored later v p q r =
    copied structs scope m e (complete_size structs (Struct m)) stored later v (p ∙ sym (one_type (Struct m) (Struct n) q)) refl r
put_struct structs scope m n false e stored later v p q r = no_some stored r

put_by :
    (structs : List StructDefTree) (scope : Scope) (target ty : CTypeTree) (e : TExprTree) (stored : Stored) → IsLater structs scope.program.structs
    → IsTypedValue scope e → IsProperType scope.program.structs target → texpr_type e ≡ ty → stored_row structs target ty e ≡ Some stored → IsPut scope target stored
put_by structs scope (Struct m) (Struct n) e stored later v proper p r = put_struct structs scope m n (is_same (Struct m) (Struct n)) e stored later v p refl r
put_by structs scope target ty e stored later v proper p r =
    scalar_put scope target (store_row target ty e) stored (λ value q. store_by scope target ty e value v proper p q) r

pub values_are_put : ValuesArePut
values_are_put structs scope target e stored later v proper r = put_by structs scope target (texpr_type e) e stored later v proper refl r
