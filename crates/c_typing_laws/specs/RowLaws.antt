-- What the rows of typing make of typed operands is typed, in each program that goes on from the one in which the rows were asked.
use Rattle.std.specs.Prelude.{◌≡◌, Some, List}
use Rattle.c_syntax_written.specs.declared.place.Pos.{Pos}
use Rattle.c_syntax_written.specs.declared.written.AssignOp.{AssignOp}
use Rattle.c_syntax_written.specs.declared.written.BinaryOp.{BinaryOp}
use Rattle.c_syntax.specs.declared.operator.Stride.{Stride}
use Rattle.c_syntax.specs.Types.{CTypeTree}
use Rattle.c_syntax.specs.TypedExpr.{TExprTree}
use Rattle.c_syntax.specs.TypedParts.{texpr_type}
use Rattle.c_syntax.specs.GivenType.{given_type}
use Rattle.c_syntax.specs.Program.{StructDefTree}
use Rattle.c_layout.specs.ProperTypes.{IsProperType}
use Rattle.c_layout.specs.RowTypes.{StoreRow, CopyRow, CompoundRow, StepRow}
use Rattle.c_layout.specs.TypedNodes.{Scope}
use Rattle.c_typing.specs.Rows.{binary_row, store_row, stored_row, Stored, Scalar, Copied, compound_row, CompoundTree, step_row}
use Rattle.c_typing.specs.Later.{IsLater}
use Rattle.c_typing_laws.specs.TypedValues.{IsTypedValue, last_expr}

-- an operator between two values (C11 6.5.5 to 6.5.14)
abbrev pub OperatorsAreTyped : Type 0
OperatorsAreTyped =
    (structs : List StructDefTree) (scope : Scope) (at : Pos) (op : BinaryOp) (a b e : TExprTree) → IsLater structs scope.program.structs
    → IsTypedValue scope a → IsTypedValue scope b → binary_row structs at op (texpr_type a) (texpr_type b) a b ≡ Some e → IsTypedValue scope e

-- a scalar that is stored as this type
pub record IsStored (scope : Scope) (target : CTypeTree) (value : TExprTree) : Type 0 where
  pub typed : IsTypedValue scope value
  pub row : StoreRow target (given_type (last_expr scope value))

-- a value that is stored as a scalar's type, as `=`, an argument, an initialiser and a `return` do (C11 6.5.16.1p1)
abbrev pub ValuesAreStored : Type 0
ValuesAreStored =
    (scope : Scope) (target : CTypeTree) (e value : TExprTree) → IsTypedValue scope e → IsProperType scope.program.structs target
    → store_row target (texpr_type e) e ≡ Some value → IsStored scope target value

-- a scalar, or a struct that is copied whole
abbrev pub IsPut : Scope → CTypeTree → Stored → Type 0
IsPut scope target (Scalar value) = IsStored scope target value
IsPut scope target (Copied extent source) = IsTypedValue scope source × CopyRow scope.program.structs extent target (given_type (last_expr scope source))

abbrev pub ValuesArePut : Type 0
ValuesArePut =
    (structs : List StructDefTree) (scope : Scope) (target : CTypeTree) (e : TExprTree) (stored : Stored) → IsLater structs scope.program.structs
    → IsTypedValue scope e → IsProperType scope.program.structs target → stored_row structs target (texpr_type e) e ≡ Some stored → IsPut scope target stored

-- `op=` on what stands in a place of this type
pub record IsChange (scope : Scope) (target : CTypeTree) (change : CompoundTree) : Type 0 where
  pub value : IsTypedValue scope change.value
  pub row : CompoundRow scope.program.structs change.op target (given_type (last_expr scope change.value))

-- `op=` (C11 6.5.16.2p1 and p2)
abbrev pub ChangesAreTyped : Type 0
ChangesAreTyped =
    (structs : List StructDefTree) (scope : Scope) (op : AssignOp) (target : CTypeTree) (e : TExprTree) (row : CompoundTree)
    → IsLater structs scope.program.structs → IsTypedValue scope e → compound_row structs op target (texpr_type e) e ≡ Some row → IsChange scope target row

-- `++` and `--` (C11 6.5.2.4p1 and p2, 6.5.3.1p1 and p2)
abbrev pub StepsAreTyped : Type 0
StepsAreTyped =
    (structs : List StructDefTree) (scope : Scope) (target : CTypeTree) (stride : Stride) → IsLater structs scope.program.structs
    → step_row structs target ≡ Some stride → StepRow scope.program.structs stride target
