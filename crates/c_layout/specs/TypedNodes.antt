-- Which expressions and statements of a typed program have the types that C asks for, and name what is there.
use Rattle.std.specs.Prelude.{◌≡◌, ◌≢◌, ◌⊎◌, ◌+◌, ◌≤◌, ℕ, Bool, true, false, not, IsTrue, Option, Some, None, option_map, unwrap_or, IfSome, IsSomeAnd, List, [], ◌∷◌, ◌++◌, map, All, AllPairs, Contains, slice_get}
use Rattle.c_syntax_written.specs.declared.int_type.IntType.{IntType}
use Rattle.c_syntax.specs.Types.{CTypeTree, Void, Array, Struct, ObjectTree}
use Rattle.c_syntax.specs.Types as types
use Rattle.c_syntax.specs.TypedExpr.{TExprTree, Const, Null, Load, AddressOf, Decay, Whole, Unary, Binary, Convert, Assign, AssignStruct, Compound, Step, And, Or, Cond, Comma, Call, Any, Assume, Assert, TLvalueTree, Var, Deref, Member, TExprTrees}
use Rattle.c_syntax.specs.TypedExpr as exprs
use Rattle.c_syntax.specs.TypedStmt.{TInitTree, Store, Copy, TStmtTree, Empty, Expr, Block, Declare, Static, If, While, DoWhile, For, Switch, Break, Continue, Goto, Return, Label, Case, Default, TStmtTrees, none, more}
use Rattle.c_syntax.specs.TypedParts.{tlvalue_type, tlvalue_is_const}
use Rattle.c_syntax.specs.GivenType.{given_type}
use Rattle.c_syntax.specs.Program.{StructDefTree, TFunctionTree, TProgramTree}
use Rattle.c_syntax_written.specs.Integer.{HasNumber}
use Rattle.c_layout.specs.Layout.{size_in}
use Rattle.c_layout.specs.RowTypes.{is_void, is_declared_const, IsInputType, IsScalar, IsPointer, IsPromoted, UnaryRow, LogicalRow, BinaryRow, CondRow, StoreRow, CopyRow, CompoundRow, StepRow, DerefRow, MemberRow, ConvertRow}
use Rattle.c_layout.specs.ProperTypes.{IsProperType, PartAt}
use Rattle.c_layout.specs.Jumps.{cases_among, defaults_among}

-- the program, and the automatic objects that live where an expression stands
pub record Scope : Type 0 where
  pub program : TProgramTree
  pub live : List ℕ

-- C11 6.2.5p20
abbrev pub IsArray : CTypeTree → Type 0
IsArray (Array of is_const n) = Unit {0}
IsArray ty = ⊥

-- C11 6.2.5p20
abbrev pub IsStruct : CTypeTree → Type 0
IsStruct (Struct n) = Unit {0}
IsStruct ty = ⊥

-- not const (C11 6.3.2.1p1)
abbrev pub IsModifiable : TLvalueTree → Type 0
IsModifiable place = tlvalue_is_const place ≡ false

-- the type of an object, or void where it is not there
abbrev pub object_type : TProgramTree → ℕ → CTypeTree
object_type program o = unwrap_or (option_map (λ object. object.ty) (slice_get program.objects o)) Void

-- the types that arguments give
unfoldable pub types_of : TExprTrees → List CTypeTree
types_of exprs.none = []
types_of (exprs.more item rest) = given_type item ∷ types_of rest

-- as many arguments as parameters, each as by `=` (C11 6.5.2.2p2)
abbrev pub ArgumentsRow : List CTypeTree → List CTypeTree → Type 0
ArgumentsRow [] [] = Unit {0}
ArgumentsRow (param ∷ params) (arg ∷ args) = StoreRow param arg × ArgumentsRow params args
ArgumentsRow params args = ⊥

-- a call has its function's result type, and arguments for its parameters
abbrev pub CallRow : TProgramTree → TFunctionTree → CTypeTree → List CTypeTree → Type 0
CallRow program function ty args = (ty ≡ function.result) × ArgumentsRow (map (λ param. object_type program param) function.params) args

-- a variable has its object's type, is const where that was declared so, and is static or lives
pub record VarRow (scope : Scope) (object : ObjectTree) (o : ℕ) (ty : CTypeTree) (is_const : Bool) : Type 0 where
  pub type_of : ty ≡ object.ty
  pub qualified : is_const ≡ is_declared_const object
  pub lives : IsTrue object.is_static ⊎ Contains scope.live o

-- a pointer that is null has a type of the program
abbrev pub NullRow : Scope → CTypeTree → Type 0
NullRow scope ty = IsPointer ty × IsProperType scope.program.structs ty

-- every node of an expression has the operand types and the type of its row. The mark of a call is whether its value is wanted where the call stands:
-- it is not where the call itself is the left of a comma, is cast to void, is the expression of a statement,
-- or is a part of a `for` head other than its condition
unfoldable mutual
  pub IsTypedExpr : Scope → Bool → TExprTree → Type 0
  IsTypedExpr scope wanted (Const at ty value) = HasNumber ty value
  IsTypedExpr scope wanted (Null at ty) = NullRow scope ty
  IsTypedExpr scope wanted (Load at place) = IsTypedPlace scope place × IsScalar (tlvalue_type place)
  IsTypedExpr scope wanted (AddressOf at place) = IsTypedPlace scope place
  IsTypedExpr scope wanted (Decay at place) = IsTypedPlace scope place × IsArray (tlvalue_type place)
  IsTypedExpr scope wanted (Whole at place) = IsTypedPlace scope place × IsStruct (tlvalue_type place)
  IsTypedExpr scope wanted (Unary at op operand) = IsTypedExpr scope true operand × UnaryRow op (given_type operand)
  IsTypedExpr scope wanted (Binary at op left right) =
      IsTypedExpr scope true left × IsTypedExpr scope true right
      × BinaryRow scope.program.structs op (given_type left) (given_type right)
  IsTypedExpr scope wanted (Convert at ty operand) =
      IsTypedExpr scope (not (is_void ty)) operand × IsProperType scope.program.structs ty × ConvertRow ty (given_type operand)
  IsTypedExpr scope wanted (Assign at place value) =
      IsTypedPlace scope place × IsTypedExpr scope true value × IsModifiable place × StoreRow (tlvalue_type place) (given_type value)
  IsTypedExpr scope wanted (AssignStruct at extent place source) =
      IsTypedPlace scope place × IsTypedExpr scope true source × IsModifiable place
      × CopyRow scope.program.structs extent (tlvalue_type place) (given_type source)
  IsTypedExpr scope wanted (Compound at op place value) =
      IsTypedPlace scope place × IsTypedExpr scope true value × IsModifiable place
      × CompoundRow scope.program.structs op (tlvalue_type place) (given_type value)
  IsTypedExpr scope wanted (Step at time way stride place) =
      IsTypedPlace scope place × IsModifiable place × StepRow scope.program.structs stride (tlvalue_type place)
  IsTypedExpr scope wanted (And at left right) =
      IsTypedExpr scope true left × IsTypedExpr scope true right × LogicalRow (given_type left) (given_type right)
  IsTypedExpr scope wanted (Or at left right) =
      IsTypedExpr scope true left × IsTypedExpr scope true right × LogicalRow (given_type left) (given_type right)
  IsTypedExpr scope wanted (Cond at ty condition first second) =
      IsTypedExpr scope true condition × IsTypedExpr scope true first × IsTypedExpr scope true second
      × IsProperType scope.program.structs ty × CondRow (given_type condition) (given_type first) (given_type second) ty
  IsTypedExpr scope wanted (Comma at left right) = IsTypedExpr scope false left × IsTypedExpr scope true right
  IsTypedExpr scope wanted (Call at function ty used args) =
      (used ≡ wanted) × AreTyped scope args
      × IsSomeAnd (slice_get scope.program.functions function) (λ f. CallRow scope.program f ty (types_of args))
  IsTypedExpr scope wanted (Any at ty) = IsInputType ty
  IsTypedExpr scope wanted (Assume at operand) = IsTypedExpr scope true operand × IsScalar (given_type operand)
  IsTypedExpr scope wanted (Assert at operand) = IsTypedExpr scope true operand × IsScalar (given_type operand)

  pub IsTypedPlace : Scope → TLvalueTree → Type 0
  IsTypedPlace scope (Var at o ty is_const) = IsSomeAnd (slice_get scope.program.objects o) (λ object. VarRow scope object o ty is_const)
  IsTypedPlace scope (Deref at kind ty is_const pointer) = IsTypedExpr scope true pointer × DerefRow (given_type pointer) ty is_const
  IsTypedPlace scope (Member at k offset ty is_const place) =
      IsTypedPlace scope place
      × MemberRow scope.program.structs (tlvalue_type place) k offset ty (tlvalue_is_const place) is_const

  pub AreTyped : Scope → TExprTrees → Type 0
  AreTyped scope exprs.none = Unit {0}
  AreTyped scope (exprs.more item rest) = IsTypedExpr scope true item × AreTyped scope rest

-- the value of a condition (C11 6.8.4.1p1, 6.8.5p2)
abbrev pub IsTypedCondition : Scope → TExprTree → Type 0
IsTypedCondition scope e = IsTypedExpr scope true e × IsScalar (given_type e)

-- an item of an initialiser fills a part of an object of this type (C11 6.7.9p11 and p13)
abbrev pub IsTypedInit : Scope → CTypeTree → TInitTree → Type 0
IsTypedInit scope whole (Store offset ty value) =
    IsTypedExpr scope true value × PartAt scope.program.structs whole offset ty × StoreRow ty (given_type value)
IsTypedInit scope whole (Copy offset extent source) =
    IsTypedExpr scope true source
    × (part : CTypeTree) × PartAt scope.program.structs whole offset part × CopyRow scope.program.structs extent part (given_type source)

-- the first byte of the object that an item fills
abbrev pub init_start : TInitTree → ℕ
init_start (Store offset ty value) = offset
init_start (Copy offset extent source) = offset

-- the first byte behind those
abbrev pub init_end : List StructDefTree → TInitTree → ℕ
init_end structs (Store offset ty value) = offset + unwrap_or (size_in structs ty) 0
init_end structs (Copy offset extent source) = offset + extent.size

-- no byte is filled by both items (C11 6.7.9p19, this profile)
abbrev pub AreApart : List StructDefTree → TInitTree → TInitTree → Type 0
AreApart structs a b = (init_end structs a ≤ init_start b) ⊎ (init_end structs b ≤ init_start a)

-- the items of an initialiser of an object
pub record AreTypedInits (scope : Scope) (object : ℕ) (inits : List TInitTree) : Type 0 where
  pub typed : All (λ init. IsTypedInit scope (object_type scope.program object) init) inits
  pub apart : AllPairs (AreApart scope.program.structs) inits

-- `return`, with a value as by `=` exactly where the function has a result (C11 6.8.6.4p1)
abbrev pub ReturnRow : Scope → CTypeTree → Option TExprTree → Type 0
ReturnRow scope result None = result ≡ Void
ReturnRow scope result (Some value) = IsTypedExpr scope true value × StoreRow result (given_type value)

-- where a statement stands: the objects of the block that it is an item of, and whether it may be a break, a continue or a case
pub record Standing : Type 0 where
  pub scope : Scope
  pub block : List ℕ
  pub result : CTypeTree
  pub breaks : Bool
  pub continues : Bool
  pub cases : Bool

-- the items of a block that lists these objects
abbrev pub in_block : List ℕ → Standing → Standing
in_block objects standing = record standing {
  scope = record { program = standing.scope.program; live = objects ++ standing.scope.live };
  block = objects;
  cases = false;
}

-- the items of a switch whose block lists these objects
abbrev pub in_switch : List ℕ → Standing → Standing
in_switch objects standing = record (in_block objects standing) { breaks = true; cases = true }

-- the body of a loop
abbrev pub in_loop : Standing → Standing
in_loop standing = record standing { breaks = true; continues = true; cases = false }

-- a block, which each substatement of an `if` and a loop is
abbrev pub IsBlock : TStmtTree → Type 0
IsBlock (Block at kind objects items) = Unit {0}
IsBlock s = ⊥

-- a declaration of an object, or an expression
abbrev pub IsHead : TStmtTree → Type 0
IsHead (Expr at value) = Unit {0}
IsHead (Declare at object inits zeroes_rest) = Unit {0}
IsHead (Static at object) = Unit {0}
IsHead s = ⊥

-- what a `for` begins with
unfoldable pub AreHead : TStmtTrees → Type 0
AreHead none = Unit {0}
AreHead (more item rest) = IsHead item × AreHead rest

-- a switch takes an integer of a promoted type, which has its cases; no two of these are equal, and there is one default at most
-- (C11 6.8.4.2p1 and p3)
pub record SwitchRow (value : CTypeTree) (items : TStmtTrees) : Type 0 where
  pub ty : IntType
  pub integer : value ≡ types.Int ty
  pub promoted : IsPromoted ty
  pub fit : All (HasNumber ty) (cases_among items)
  pub distinct : AllPairs (λ a b. a ≢ b) (cases_among items)
  pub one_default : defaults_among items ≤ 1

-- every node of a statement has the types that it asks for, and stands where it may
unfoldable mutual
  pub IsTypedStmt : Standing → TStmtTree → Type 0
  IsTypedStmt standing (Empty at) = Unit {0}
  IsTypedStmt standing (Expr at value) = IsTypedExpr standing.scope false value
  IsTypedStmt standing (Block at kind objects items) = AreTypedItems (in_block objects standing) items
  IsTypedStmt standing (Declare at object inits zeroes_rest) = Contains standing.block object × AreTypedInits standing.scope object inits
  IsTypedStmt standing (Static at object) = IsSomeAnd (slice_get standing.scope.program.objects object) (λ o. IsTrue o.is_static)
  IsTypedStmt standing (If at condition first second) =
      IsTypedCondition standing.scope condition × IsBlock first × IsTypedStmt standing first × IsBlock second × IsTypedStmt standing second
  IsTypedStmt standing (While at condition body) = IsTypedCondition standing.scope condition × IsBlock body × IsTypedStmt (in_loop standing) body
  IsTypedStmt standing (DoWhile at body condition) = IsTypedCondition standing.scope condition × IsBlock body × IsTypedStmt (in_loop standing) body
  IsTypedStmt standing (For at objects head condition step body) =
      AreHead head × AreTypedItems (in_block objects standing) head
      × IfSome condition (IsTypedCondition (in_block objects standing).scope) × IfSome step (IsTypedExpr (in_block objects standing).scope false)
      × IsBlock body × IsTypedStmt (in_loop (in_block objects standing)) body
  IsTypedStmt standing (Switch at value kind objects items) =
      IsTypedExpr standing.scope true value × SwitchRow (given_type value) items × AreTypedItems (in_switch objects standing) items
  IsTypedStmt standing (Break at) = IsTrue standing.breaks
  IsTypedStmt standing (Continue at) = IsTrue standing.continues
  IsTypedStmt standing (Goto at label) = Unit {0}
  IsTypedStmt standing (Return at value) = ReturnRow standing.scope standing.result value
  IsTypedStmt standing (Label at label) = Unit {0}
  IsTypedStmt standing (Case at value) = IsTrue standing.cases
  IsTypedStmt standing (Default at) = IsTrue standing.cases

  pub AreTypedItems : Standing → TStmtTrees → Type 0
  AreTypedItems standing none = Unit {0}
  AreTypedItems standing (more item rest) = IsTypedStmt standing item × AreTypedItems standing rest
