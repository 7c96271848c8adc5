-- Values and places of a typed program, as they stand at the end of its file, whose types are those that a program may have.
use Rattle.std.specs.Prelude.{◌≡◌, true}
use Rattle.c_syntax.specs.Types.{CTypeTree, Void, Function}
use Rattle.c_syntax.specs.TypedExpr.{TExprTree, TLvalueTree, TExprTrees, none, more}
use Rattle.c_syntax.specs.TypedParts.{texpr_type, tlvalue_type}
use Rattle.c_layout.specs.ProperTypes.{IsProperType}
use Rattle.c_layout.specs.TypedNodes.{Scope, IsTypedExpr, IsTypedPlace}
use Rattle.c_typing.specs.Operands.{OperandTree, Place, Value}
use Rattle.c_typing.specs.Settled.{settled_expr, settled_place}
use Rattle.c_typing.specs.Laws.{IsLastType}

-- an expression at the end of the file, where an array whose size came later has it (C11 6.2.5p22)
abbrev pub last_expr : Scope → TExprTree → TExprTree
last_expr scope e = settled_expr scope.program.objects e

abbrev pub last_place : Scope → TLvalueTree → TLvalueTree
last_place scope place = settled_place scope.program.objects place

-- an expression whose value is wanted, which has its type already
pub record IsTypedValue (scope : Scope) (e : TExprTree) : Type 0 where
  pub typed : IsTypedExpr scope true (last_expr scope e)
  pub proper : IsProperType scope.program.structs (texpr_type e)
  pub kept : texpr_type (last_expr scope e) ≡ texpr_type e

-- the type of an object (C11 6.2.5p1)
abbrev pub IsObjectType : CTypeTree → Type 0
IsObjectType Void = ⊥
IsObjectType (Function n) = ⊥
IsObjectType ty = Unit {0}

-- what names an object (C11 6.3.2.1p1), which may be an array whose size comes later
pub record IsTypedLvalue (scope : Scope) (place : TLvalueTree) : Type 0 where
  pub typed : IsTypedPlace scope (last_place scope place)
  pub proper : IsProperType scope.program.structs (tlvalue_type (last_place scope place))
  pub object : IsObjectType (tlvalue_type place)
  pub last : IsLastType (tlvalue_type place) (tlvalue_type (last_place scope place))

-- an operand of an operator
abbrev pub IsTypedOperand : Scope → OperandTree → Type 0
IsTypedOperand scope (Place place) = IsTypedLvalue scope place
IsTypedOperand scope (Value e) = IsTypedValue scope e

-- the arguments of a call
unfoldable pub AreTypedValues : Scope → TExprTrees → Type 0
AreTypedValues scope none = Unit {0}
AreTypedValues scope (more e rest) = IsTypedValue scope e × AreTypedValues scope rest
