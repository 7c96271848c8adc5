-- What the nodes of typing make of typed operands is typed, in each program that goes on from the one in which they are asked.
use Rattle.std.specs.Prelude.{◌≡◌, ◌⊎◌, ℕ, Bool, Some, IsTrue, List, All, Contains, map, slice_get}
use Rattle.c_syntax_written.specs.declared.place.Pos.{Pos}
use Rattle.c_syntax_written.specs.declared.step.StepWay.{StepWay}
use Rattle.c_syntax_written.specs.declared.token.Constant.{Constant}
use Rattle.c_syntax_written.specs.declared.written.UnaryOp.{UnaryOp}
use Rattle.c_syntax_written.specs.declared.written.BinaryOp.{BinaryOp}
use Rattle.c_syntax_written.specs.declared.written.AssignOp.{AssignOp}
use Rattle.c_syntax.specs.declared.operator.StepTime.{StepTime}
use Rattle.c_syntax.specs.Types.{CTypeTree, ObjectTree}
use Rattle.c_syntax.specs.TypedExpr.{TExprTree, TExprTrees}
use Rattle.c_syntax.specs.Program.{TFunctionTree}
use Rattle.c_layout.specs.Tables.{IsTypedTable}
use Rattle.c_layout.specs.ProperTypes.{IsProperType}
use Rattle.c_layout.specs.TypedNodes.{Scope, object_type}
use Rattle.c_layout.specs.WellTyped.{IsTypedObject}
use Rattle.c_typing.specs.World.{World, Plain, Typed, Function}
use Rattle.c_typing.specs.Names.{meaning_of}
use Rattle.c_typing.specs.Operands.{OperandTree, value_of}
use Rattle.c_typing.specs.Nodes.{object_place, number, character, unary, binary, indexed, member, arrow, assigned, compound, stepped, conditional, sequenced, size_of, cast, result_of, params_of, called}
use Rattle.c_typing.specs.Later.{IsLater}
use Rattle.c_typing.specs.Laws.{IsLastType}
use Rattle.c_typing_laws.specs.TypedValues.{IsTypedValue, IsTypedLvalue, IsTypedOperand, AreTypedValues}

-- the value in a place (C11 6.3.2.1p2 and p3)
abbrev pub ReadsAreTyped : Type 0
ReadsAreTyped = (scope : Scope) (x : OperandTree) → IsTypedOperand scope x → IsTypedValue scope (value_of x)

-- `&`, `*`, `+`, `-`, `~` and `!` (C11 6.5.3.2, 6.5.3.3)
abbrev pub PrefixesAreTyped : Type 0
PrefixesAreTyped =
    (w v : World) (scope : Scope) (at : Pos) (op : UnaryOp) (x y : OperandTree) → IsTypedOperand scope x → unary w at op x ≡ Typed y v → IsTypedOperand scope y

-- an operator between two values (C11 6.5.5 to 6.5.14)
abbrev pub BinariesAreTyped : Type 0
BinariesAreTyped =
    (w v : World) (scope : Scope) (at : Pos) (op : BinaryOp) (a b : TExprTree) (y : OperandTree) → IsLater w.structs scope.program.structs
    → IsTypedValue scope a → IsTypedValue scope b → binary w at op a b ≡ Typed y v → IsTypedOperand scope y

-- `a[b]` (C11 6.5.2.1)
abbrev pub IndexesAreTyped : Type 0
IndexesAreTyped =
    (w v : World) (scope : Scope) (at : Pos) (a b : TExprTree) (y : OperandTree) → IsLater w.structs scope.program.structs
    → IsTypedValue scope a → IsTypedValue scope b → indexed w at a b ≡ Typed y v → IsTypedOperand scope y

-- `.` and `->` (C11 6.5.2.3)
abbrev pub MembersAreTyped : Type 0
MembersAreTyped =
    (w v : World) (scope : Scope) (at : Pos) (name : List ℕ) (x y : OperandTree) → IsLater w.structs scope.program.structs
    → IsTypedTable scope.program.structs → IsTypedOperand scope x → member w at name x ≡ Typed y v → IsTypedOperand scope y

abbrev pub ArrowsAreTyped : Type 0
ArrowsAreTyped =
    (w v : World) (scope : Scope) (at : Pos) (name : List ℕ) (e : TExprTree) (y : OperandTree) → IsLater w.structs scope.program.structs
    → IsTypedTable scope.program.structs → IsTypedValue scope e → arrow w at name e ≡ Typed y v → IsTypedOperand scope y

-- `=`, of scalars and of structs (C11 6.5.16.1)
abbrev pub AssignmentsAreTyped : Type 0
AssignmentsAreTyped =
    (w v : World) (scope : Scope) (at : Pos) (x y : OperandTree) (e : TExprTree) → IsLater w.structs scope.program.structs
    → IsTypedOperand scope x → IsTypedValue scope e → assigned w at x e ≡ Typed y v → IsTypedOperand scope y

-- `op=` (C11 6.5.16.2)
abbrev pub CompoundsAreTyped : Type 0
CompoundsAreTyped =
    (w v : World) (scope : Scope) (at : Pos) (op : AssignOp) (x y : OperandTree) (e : TExprTree) → IsLater w.structs scope.program.structs
    → IsTypedOperand scope x → IsTypedValue scope e → compound w at op x e ≡ Typed y v → IsTypedOperand scope y

-- `++` and `--` (C11 6.5.2.4, 6.5.3.1)
abbrev pub SteppedAreTyped : Type 0
SteppedAreTyped =
    (w v : World) (scope : Scope) (at : Pos) (time : StepTime) (way : StepWay) (x y : OperandTree) → IsLater w.structs scope.program.structs
    → IsTypedOperand scope x → stepped w at time way x ≡ Typed y v → IsTypedOperand scope y

-- `?:` (C11 6.5.15)
abbrev pub ConditionalsAreTyped : Type 0
ConditionalsAreTyped =
    (w v : World) (scope : Scope) (at : Pos) (test a b : TExprTree) (y : OperandTree) → IsTypedValue scope test → IsTypedValue scope a → IsTypedValue scope b
    → conditional w at test a b ≡ Typed y v → IsTypedOperand scope y

-- `,` (C11 6.5.17)
abbrev pub CommasAreTyped : Type 0
CommasAreTyped =
    (w v : World) (scope : Scope) (at : Pos) (a b : TExprTree) (y : OperandTree) → IsTypedValue scope a → IsTypedValue scope b
    → sequenced w at a b ≡ Typed y v → IsTypedOperand scope y

-- `sizeof` (C11 6.5.3.4)
abbrev pub SizesAreTyped : Type 0
SizesAreTyped = (w v : World) (scope : Scope) (at : Pos) (ty : CTypeTree) (y : OperandTree) → size_of w at ty ≡ Typed y v → IsTypedOperand scope y

-- a cast (C11 6.5.4)
abbrev pub CastsAreTyped : Type 0
CastsAreTyped =
    (w v : World) (scope : Scope) (at : Pos) (target : CTypeTree) (is_const : Bool) (e : TExprTree) (y : OperandTree)
    → IsProperType scope.program.structs target → IsTypedValue scope e → cast w at (Plain target is_const) e ≡ Typed y v → IsTypedOperand scope y

-- the function of this number stands in the program, with the result and the parameters with which it is called
pub record IsCallable (w : World) (scope : Scope) (n : ℕ) : Type 0 where
  pub function : TFunctionTree
  pub there : slice_get scope.program.functions n ≡ Some function
  pub result : result_of w n ≡ function.result
  pub params : params_of w n ≡ map (λ param. object_type scope.program param) function.params
  pub result_proper : IsProperType scope.program.structs (result_of w n)
  pub params_proper : All (IsProperType scope.program.structs) (params_of w n)

-- a call, an input, `__assume` or `__assert` (C11 6.5.2.2, this profile)
abbrev pub CallsAreTyped : Type 0
CallsAreTyped =
    (w v : World) (scope : Scope) (at : Pos) (name : List ℕ) (args : TExprTrees) (y : OperandTree)
    → ((n : ℕ) → meaning_of w name ≡ Some (Function n) → IsCallable w scope n)
    → AreTypedValues scope args → called w at name args ≡ Typed y v → IsTypedOperand scope y

-- constants (C11 6.4.4.1, 6.4.4.4)
abbrev pub NumbersAreTyped : Type 0
NumbersAreTyped = (w v : World) (scope : Scope) (at : Pos) (c : Constant) (y : OperandTree) → number w at c ≡ Typed y v → IsTypedOperand scope y

abbrev pub CharactersAreTyped : Type 0
CharactersAreTyped = (w v : World) (scope : Scope) (at : Pos) (byte : ℕ) (y : OperandTree) → character w at byte ≡ Typed y v → IsTypedOperand scope y

-- an object by its name, which may be an array whose size comes later, and a literal, which is an object (C11 6.5.1p2 and p4)
abbrev pub ObjectsAreTyped : Type 0
ObjectsAreTyped =
    (scope : Scope) (at : Pos) (n : ℕ) (x object : ObjectTree) → slice_get scope.program.objects n ≡ Some object → IsTypedObject scope.program.structs object
    → IsLastType x.ty object.ty → object.read_only ≡ x.read_only
    → IsTrue object.is_static ⊎ Contains scope.live n → IsTypedLvalue scope (object_place at n x)
