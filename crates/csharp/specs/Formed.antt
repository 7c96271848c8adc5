-- Formed programs: what each part of one has (this profile).
use Rattle.std.specs.Prelude.{◌≡◌, ◌⊎◌, ℕ, ℤ, pos, suc, ◌<◌, ◌≤◌, ◌^◌, ◌==◌, List, [], ◌∷◌, ◌++◌, length, All, AllPairs, Contains, Option, Some, None, IfSome, IsSome, IsSomeAnd, IsTrue, if◌then◌else◌, slice_get, count_by}
use Rattle.std.specs.List.{flat_map}
use Rattle.c_syntax_written.specs.declared.int_type.IntType.{IntType}
use Rattle.c_syntax_written.specs.declared.int_type.IntType.TheVariants as ints
use Rattle.c_syntax_written.specs.Integer.{HasNumber, is_signed, least, greatest}
use Rattle.c_syntax.specs.declared.alarm.Check.{Check}
use Rattle.c_syntax.specs.declared.alarm.WrongKind.{WrongKind}
use Rattle.c_syntax.specs.declared.alarm.WrongKind.TheVariants as kinds
use Rattle.c_syntax.specs.declared.operator.Arithmetic.{Arithmetic}
use Rattle.c_syntax.specs.declared.operator.Arithmetic.TheVariants as arithmetics
use Rattle.c_syntax.specs.declared.operator.Shift.TheVariants as shifts
use Rattle.c_syntax.specs.declared.operator.TUnaryOp.TheVariants as unaries
use Rattle.c_syntax.specs.declared.operator.TBinaryOp.TheVariants as binaries
use Rattle.c_syntax.specs.declared.program.Initial.{Initial}
use Rattle.c_syntax.specs.declared.program.InitByte.{InitByte}
use Rattle.c_syntax.specs.declared.program.InitByte.TheVariants as bytes
use Rattle.c_syntax.specs.Types.{ObjectTree}
use Rattle.c_layout.specs.Checks.{range_check, amount_check, access_check, pair_check, plain_check}
use Rattle.c_layout.specs.Tables.{IsTypedTable}
use Rattle.c_layout.specs.WellTyped.{EachOf}
use Rattle.block_mem.specs.declared.types.Scalar.{Scalar}
use Rattle.block_mem.specs.declared.types.Scalar.TheVariants as scalars
use Rattle.block_mem.specs.declared.types.Value.{Value}
use Rattle.block_mem.specs.Bytes.{IsOf}
use Rattle.c_values.specs.Typed.{TakesBoth, TakesOne, binary_type, unary_type}
use Rattle.csharp.specs.Trees.{CsExprTree, Const, Null, Temp, Address, Unary, Binary, Convert, CsCallTree, CsStmtTree, Set, Load, Store}
use Rattle.csharp.specs.Trees.{CopyBytes, Undefine, Checked, Input, Assume, Sequence, If, Loop, Block, Exit, Scope, Switch, Goto, Call, Return, Label, Case}
use Rattle.csharp.specs.Trees.{CsStmtTrees, none, more, CsFunctionTree, CsProgramTree}

-- ---- what stands in a statement, and around it

abbrev pub opt_list : {A : Type 0} → Option A → List A
opt_list None = []
opt_list (Some a) = a ∷ []

-- the expressions of a statement itself, but for those of its parts
abbrev pub exprs_of : CsStmtTree → List CsExprTree
exprs_of (Set d e) = e ∷ []
exprs_of (Load d ty e) = e ∷ []
exprs_of (Store ty e f) = e ∷ f ∷ []
exprs_of (CopyBytes n to from) = to ∷ from ∷ []
exprs_of (Checked c) = c.operands
exprs_of (Assume e) = e ∷ []
exprs_of (If e a b) = e ∷ []
exprs_of (Switch e xs items) = e ∷ []
exprs_of (Call c) = c.args
exprs_of (Return e) = opt_list e
exprs_of a = []

-- the temporaries that a statement itself sets
abbrev pub temps_of : CsStmtTree → List ℕ
temps_of (Set d e) = d ∷ []
temps_of (Load d ty e) = d ∷ []
temps_of (Input d t) = d ∷ []
temps_of (Call c) = opt_list c.value ++ opt_list c.flag
temps_of a = []

-- the objects that live in a statement's items
abbrev pub objects_of : CsStmtTree → List ℕ
objects_of (Scope xs items) = xs
objects_of (Switch e xs items) = xs
objects_of a = []

-- the labels among items
abbrev pub labels_among : CsStmtTrees → List ℕ
labels_among none = []
labels_among (more (Label at l) rest) = l ∷ labels_among rest
labels_among (more item rest) = labels_among rest

-- what stands around a statement in its function: the objects that live, how many blocks there are to leave, and the labels that a goto may name
pub record Around : Type 0 where
  pub live : List ℕ
  pub exits : ℕ
  pub labels : List ℕ

abbrev pub nothing_around : Around
nothing_around = record { live = []; exits = 0; labels = [] }

abbrev pub in_block : Around → Around
in_block around = record around { exits = suc around.exits }

abbrev pub in_items : List ℕ → CsStmtTrees → Around → Around
in_items xs items around = record around { live = xs ++ around.live; labels = labels_among items ++ around.labels }

-- a property of each statement in a statement, with what is around it
abbrev mutual
  pub Each : (Around → CsStmtTree → Type 0) → Around → CsStmtTree → Type 0
  Each P around (Sequence a b) = P around (Sequence a b) × Each P around a × Each P around b
  Each P around (If e a b) = P around (If e a b) × Each P around a × Each P around b
  Each P around (Loop at a) = P around (Loop at a) × Each P around a
  Each P around (Block a) = P around (Block a) × Each P (in_block around) a
  Each P around (Scope xs items) = P around (Scope xs items) × EachItem P (in_items xs items around) items
  Each P around (Switch e xs items) = P around (Switch e xs items) × EachItem P (in_items xs items around) items
  Each P around a = P around a

  pub EachItem : (Around → CsStmtTree → Type 0) → Around → CsStmtTrees → Type 0
  EachItem P around none = Unit {0}
  EachItem P around (more item rest) = Each P around item × EachItem P around rest

-- a property of each statement of a program, by the number of its function
abbrev pub Throughout : (ℕ → Around → CsStmtTree → Type 0) → CsProgramTree → Type 0
Throughout P q = EachOf q.functions (λ f function. Each (P f) nothing_around function.body)

-- all items of a list in a statement and its parts
abbrev mutual
  pub gathered : (CsStmtTree → List ℕ) → CsStmtTree → List ℕ
  gathered of (Sequence a b) = of (Sequence a b) ++ gathered of a ++ gathered of b
  gathered of (If e a b) = of (If e a b) ++ gathered of a ++ gathered of b
  gathered of (Loop at a) = of (Loop at a) ++ gathered of a
  gathered of (Block a) = of (Block a) ++ gathered of a
  gathered of (Scope xs items) = of (Scope xs items) ++ gathered_in of items
  gathered of (Switch e xs items) = of (Switch e xs items) ++ gathered_in of items
  gathered of a = of a

  pub gathered_in : (CsStmtTree → List ℕ) → CsStmtTrees → List ℕ
  gathered_in of none = []
  gathered_in of (more item rest) = gathered of item ++ gathered_in of rest

abbrev pub label_of : CsStmtTree → List ℕ
label_of (Label at l) = l ∷ []
label_of a = []

-- ---- numbers name what is there

abbrev pub NamesThere : CsProgramTree → CsExprTree → Type 0
NamesThere q (Const t n) = Unit {0}
NamesThere q Null = Unit {0}
NamesThere q (Temp d) = d < length q.temps
NamesThere q (Address x) = x < length q.objects
NamesThere q (Unary op e) = NamesThere q e
NamesThere q (Binary op e f) = NamesThere q e × NamesThere q f
NamesThere q (Convert t e) = NamesThere q e

-- the function, the object, the label or the block that a statement names by itself
abbrev pub LeadsThere : CsProgramTree → List ℕ → Around → CsStmtTree → Type 0
LeadsThere q labels around (Call c) = c.function < length q.functions
LeadsThere q labels around (Undefine x) = x < length q.objects
LeadsThere q labels around (Goto label) = Contains labels label
LeadsThere q labels around (Exit level) = level < around.exits
LeadsThere q labels around a = Unit {0}

abbrev pub AreNumbersThere : CsProgramTree → List ℕ → Around → CsStmtTree → Type 0
AreNumbersThere q labels around a =
    All (NamesThere q) (exprs_of a) × All (λ d. d < length q.temps) (temps_of a) × All (λ x. x < length q.objects) (objects_of a)
    × LeadsThere q labels around a

-- ---- objects are named where they live

abbrev pub LivesThere : CsProgramTree → Around → ℕ → Type 0
LivesThere q around x = IsSomeAnd (slice_get q.objects x) (λ o. IsTrue o.is_static ⊎ Contains around.live x)

abbrev pub NamesLive : CsProgramTree → Around → CsExprTree → Type 0
NamesLive q around (Address x) = LivesThere q around x
NamesLive q around (Unary op e) = NamesLive q around e
NamesLive q around (Binary op e f) = NamesLive q around e × NamesLive q around f
NamesLive q around (Convert t e) = NamesLive q around e
NamesLive q around e = Unit {0}

abbrev undefined_by : CsStmtTree → List ℕ
undefined_by (Undefine x) = x ∷ []
undefined_by a = []

abbrev pub AreObjectsLive : CsProgramTree → Around → CsStmtTree → Type 0
AreObjectsLive q around a = All (NamesLive q around) (exprs_of a) × All (LivesThere q around) (undefined_by a)

-- the objects of all scopes and switches
abbrev pub scoped : CsProgramTree → List ℕ
scoped q = flat_map (λ f. gathered objects_of f.body) q.functions

-- an object of automatic duration is in one scope at most, once, and one of static duration in none
abbrev pub IsScoped : CsProgramTree → ℕ → ObjectTree → Type 0
IsScoped q x object = count_by (λ y. y == x) (scoped q) ≤ (if object.is_static then 0 else 1)

-- ---- sizes and initial values

abbrev pub IsStatic : CsProgramTree → ℕ → Type 0
IsStatic q x = IsSomeAnd (slice_get q.objects x) (λ o. IsTrue o.is_static)

abbrev pub IsFormedByte : CsProgramTree → InitByte → Type 0
IsFormedByte q (bytes.Num n) = Unit {0}
IsFormedByte q (bytes.Piece object offset k) = IsStatic q object × (k ≤ 7)

pub record IsFormedInitial (q : CsProgramTree) (initial : Initial) : Type 0 where
  pub object : IsStatic q initial.object
  pub size : IsSomeAnd (slice_get q.objects initial.object) (λ o. length initial.bytes ≡ o.size)
  pub pieces : All (IsFormedByte q) initial.bytes

abbrev pub IsGivenOnce : CsProgramTree → ℕ → ObjectTree → Type 0
IsGivenOnce q x object = count_by (λ initial. initial.object == x) q.initial ≡ (if object.is_static then 1 else 0)

pub record AreObjectsFormed (q : CsProgramTree) : Type 0 where
  pub sizes : All (λ o. o.size ≤ 2 ^ 40) q.objects
  pub initial : All (IsFormedInitial q) q.initial
  pub once : EachOf q.objects (IsGivenOnce q)

-- ---- types

abbrev pub type_in : CsProgramTree → CsExprTree → Option Scalar
type_in q (Const t n) = Some (scalars.Int t)
type_in q Null = Some scalars.Pointer
type_in q (Temp d) = slice_get q.temps d
type_in q (Address x) = Some scalars.Pointer
type_in q (Unary op e) = Some (unary_type op)
type_in q (Binary op e f) = Some (binary_type op)
type_in q (Convert t e) = Some (scalars.Int t)

abbrev pub HasType : CsProgramTree → Scalar → CsExprTree → Type 0
HasType q ty e = type_in q e ≡ Some ty

abbrev pub IsNumber : CsProgramTree → CsExprTree → Type 0
IsNumber q e = (t : IntType) × HasType q (scalars.Int t) e

abbrev pub IsPointer : CsProgramTree → CsExprTree → Type 0
IsPointer q e = HasType q scalars.Pointer e

-- the operator takes each value of the operand's type
abbrev pub FitsOperand : CsProgramTree → CsExprTree → (Scalar → Value → Type 0) → Type 0
FitsOperand q e Takes = (ty : Scalar) × HasType q ty e × ((v : Value) → IsOf ty v → Takes ty v)

-- the operands of each operator have its types
abbrev pub AreOperandsTyped : CsProgramTree → CsExprTree → Type 0
AreOperandsTyped q (Const t n) = HasNumber t n
AreOperandsTyped q (Unary op e) = AreOperandsTyped q e × FitsOperand q e (TakesOne op)
AreOperandsTyped q (Binary op e f) =
    AreOperandsTyped q e × AreOperandsTyped q f × FitsOperand q e (λ ty v. FitsOperand q f (λ other u. TakesBoth op v u))
AreOperandsTyped q (Convert t e) = AreOperandsTyped q e × IsNumber q e
AreOperandsTyped q e = Unit {0}

abbrev pub HoldsType : CsProgramTree → Scalar → ℕ → Type 0
HoldsType q ty d = slice_get q.temps d ≡ Some ty

-- arguments are as many as the parameters, and have their types
abbrev pub ArgsFit : CsProgramTree → List CsExprTree → List ℕ → Type 0
ArgsFit q [] [] = Unit {0}
ArgsFit q (e ∷ es) (d ∷ ds) = ((ty : Scalar) × HasType q ty e × HoldsType q ty d) × ArgsFit q es ds
ArgsFit q es ds = ⊥

-- a value that a return in the callee gives has the type of the temporary that takes it
abbrev pub GivesType : CsProgramTree → Option ℕ → CsStmtTree → Type 0
GivesType q (Some d) (Return (Some e)) = (ty : Scalar) × HasType q ty e × HoldsType q ty d
GivesType q d a = Unit {0}

pub record IsCallTyped (q : CsProgramTree) (c : CsCallTree) (f : CsFunctionTree) : Type 0 where
  pub args : ArgsFit q c.args f.params
  pub value : Each (λ around a. GivesType q c.value a) nothing_around f.body
  pub flag : IfSome c.flag (HoldsType q (scalars.Int ints.Int))

-- what a statement puts into a temporary has its type, an address is a pointer, and a condition and what a switch looks at are integers
abbrev pub IsRowTyped : CsProgramTree → CsStmtTree → Type 0
IsRowTyped q (Set d e) = (ty : Scalar) × HasType q ty e × HoldsType q ty d
IsRowTyped q (Load d ty e) = IsPointer q e × HoldsType q ty d
IsRowTyped q (Store ty e f) = IsPointer q e × HasType q ty f
IsRowTyped q (CopyBytes n to from) = IsPointer q to × IsPointer q from
IsRowTyped q (Input d t) = HoldsType q (scalars.Int t) d
IsRowTyped q (Assume e) = IsNumber q e
IsRowTyped q (If e a b) = IsNumber q e
IsRowTyped q (Switch e xs items) = IsNumber q e
IsRowTyped q (Call c) = IsSomeAnd (slice_get q.functions c.function) (IsCallTyped q c)
IsRowTyped q a = Unit {0}

abbrev pub IsTyped : CsProgramTree → CsStmtTree → Type 0
IsTyped q a = All (AreOperandsTyped q) (exprs_of a) × IsRowTyped q a

-- ---- operands of checks

abbrev pub One : (CsExprTree → Type 0) → List CsExprTree → Type 0
One P (e ∷ []) = P e
One P es = ⊥

abbrev pub Two : (CsExprTree → Type 0) → List CsExprTree → Type 0
Two P (e ∷ f ∷ []) = P e × P f
Two P es = ⊥

abbrev pub IsScalarTyped : CsProgramTree → CsExprTree → Type 0
IsScalarTyped q e = IsSome (type_in q e)

-- a check of a result looks at an operator, whose exact number it asks
abbrev pub IsOperator : CsProgramTree → CsExprTree → Type 0
IsOperator q (Unary op e) = IsNumber q (Unary op e)
IsOperator q (Binary op e f) = IsNumber q (Binary op e f)
IsOperator q e = ⊥

abbrev pub HasOperands : CsProgramTree → WrongKind → List CsExprTree → Type 0
HasOperands q kinds.Overflow es = One (IsOperator q) es
HasOperands q kinds.Quotient es = One (IsOperator q) es
HasOperands q kinds.ShiftResult es = One (IsOperator q) es
HasOperands q kinds.DivideByZero es = One (IsNumber q) es
HasOperands q kinds.ShiftAmount es = One (IsNumber q) es
HasOperands q kinds.NoValue es = One (IsNumber q) es
HasOperands q kinds.AssertFailed es = One (IsScalarTyped q) es
HasOperands q kinds.Unrelated es = Two (IsPointer q) es
HasOperands q kinds.NullUse es = One (IsPointer q) es ⊎ Two (IsPointer q) es
HasOperands q kinds.Dangling es = One (IsPointer q) es ⊎ Two (IsPointer q) es
HasOperands q kind es = One (IsPointer q) es

-- what is a signed operator's result is to be a number of the type (C11 6.5p5)
abbrev pub signed_check : WrongKind → IntType → ℤ → Option Check
signed_check kind t low = if is_signed t then Some (range_check kind low (pos (greatest t))) else None

abbrev pub arithmetic_check : Arithmetic → IntType → Option Check
arithmetic_check arithmetics.Multiply t = signed_check kinds.Overflow t (least t)
arithmetic_check arithmetics.Divide t = signed_check kinds.Quotient t (least t)
arithmetic_check arithmetics.Remainder t = signed_check kinds.Quotient t (least t)
arithmetic_check arithmetics.Add t = signed_check kinds.Overflow t (least t)
arithmetic_check arithmetics.Subtract t = signed_check kinds.Overflow t (least t)
arithmetic_check op t = None

-- the check of an operator's exact result (C11 6.5.5p6 for remainders, 6.5.7p4 for shifts); other operators have none
abbrev pub result_check : CsExprTree → Option Check
result_check (Unary (unaries.Minus t) e) = signed_check kinds.Overflow t (least t)
result_check (Binary (binaries.Arithmetic op t) e f) = arithmetic_check op t
result_check (Binary (binaries.Shift shifts.Left t) e f) = signed_check kinds.ShiftResult t (pos 0)
result_check e = None

-- the fields of a check, by its kind: the allowed numbers, the size and the alignment of an access, what a pair is to be
abbrev pub FieldsAre : WrongKind → List CsExprTree → Check → Type 0
FieldsAre kinds.Overflow es check = One (λ e. result_check e ≡ Some check) es
FieldsAre kinds.Quotient es check = One (λ e. result_check e ≡ Some check) es
FieldsAre kinds.ShiftResult es check = One (λ e. result_check e ≡ Some check) es
FieldsAre kinds.ShiftAmount es check = (t : IntType) × (check ≡ amount_check t)
FieldsAre kinds.Access es check = (size align : ℕ) × (1 ≤ align) × (check ≡ access_check kinds.Access size align)
FieldsAre kinds.Alignment es check = (size align : ℕ) × (1 ≤ align) × (check ≡ access_check kinds.Alignment size align)
FieldsAre kinds.Unrelated es check = (size : ℕ) × (check ≡ pair_check size)
FieldsAre kind es check = check ≡ plain_check kind

-- the checks of a load alone have its type
abbrev pub HasLoadType : WrongKind → Option Scalar → Type 0
HasLoadType kinds.Indeterminate ty = IsSome ty
HasLoadType kinds.Fragment ty = IsSome ty
HasLoadType kind ty = ty ≡ None

abbrev pub IsCheckFormed : CsProgramTree → CsStmtTree → Type 0
IsCheckFormed q (Checked c) = HasOperands q c.check.kind c.operands × HasLoadType c.check.kind c.ty × FieldsAre c.check.kind c.operands c.check
IsCheckFormed q a = Unit {0}

-- ---- calls and gotos

-- a call leads to a function of a lower rank, so that none comes back to its own
abbrev pub LeadsDown : (ℕ → ℕ) → ℕ → CsStmtTree → Type 0
LeadsDown rank f (Call c) = rank c.function < rank f
LeadsDown rank f a = Unit {0}

pub record AreCallsFounded (q : CsProgramTree) : Type 0 where
  pub rank : ℕ → ℕ
  pub down : Throughout (λ f around a. LeadsDown rank f a) q

-- the label of a goto stands among the items of a block around it
abbrev pub StaysOutside : Around → CsStmtTree → Type 0
StaysOutside around (Goto label) = Contains around.labels label
StaysOutside around a = Unit {0}

-- ---- arguments, cases and labels

-- the expression does not read the temporary
abbrev pub Spares : ℕ → CsExprTree → Type 0
Spares d (Temp k) = k ≡ d → ⊥
Spares d (Unary op e) = Spares d e
Spares d (Binary op e f) = Spares d e × Spares d f
Spares d (Convert t e) = Spares d e
Spares d e = Unit {0}

-- no argument reads the parameter of an earlier one, so that they may be put into the parameters one after the other
abbrev pub AreArgsApart : List CsExprTree → List ℕ → Type 0
AreArgsApart (e ∷ es) (d ∷ ds) = All (Spares d) es × AreArgsApart es ds
AreArgsApart es ds = Unit {0}

abbrev pub IsCallApart : CsProgramTree → CsStmtTree → Type 0
IsCallApart q (Call c) = IfSome (slice_get q.functions c.function) (λ f. AreArgsApart c.args f.params)
IsCallApart q a = Unit {0}

-- the cases among items
abbrev pub cases_among : CsStmtTrees → List ℤ
cases_among none = []
cases_among (more (Case n) rest) = n ∷ cases_among rest
cases_among (more item rest) = cases_among rest

-- no two are one
abbrev pub Differ : {A : Type 0} → List A → Type 0
Differ xs = AllPairs (λ a b. a ≡ b → ⊥) xs

-- each case of a switch is a number of the type of its value, and they differ (C11 6.8.4.2p3)
abbrev pub AreCasesFormed : CsProgramTree → CsStmtTree → Type 0
AreCasesFormed q (Switch e xs items) = ((t : IntType) → HasType q (scalars.Int t) e → All (HasNumber t) (cases_among items)) × Differ (cases_among items)
AreCasesFormed q a = Unit {0}

-- a label stands once among the items of a scope (C11 6.8.1p3)
abbrev pub AreLabelsOnce : CsStmtTree → Type 0
AreLabelsOnce (Scope xs items) = Differ (labels_among items)
AreLabelsOnce (Switch e xs items) = Differ (labels_among items)
AreLabelsOnce a = Unit {0}

-- ---- the whole

abbrev pub ParamsThere : CsProgramTree → CsFunctionTree → Type 0
ParamsThere q f = All (λ d. d < length q.temps) f.params

pub record IsFormed (q : CsProgramTree) : Type 0 where
  pub structs : IsTypedTable q.structs
  pub main : q.main < length q.functions
  pub params : All (ParamsThere q) q.functions
  pub numbers : EachOf q.functions (λ f function. Each (AreNumbersThere q (gathered label_of function.body)) nothing_around function.body)
  pub scopes : EachOf q.objects (IsScoped q)
  pub live : Throughout (λ f around a. AreObjectsLive q around a) q
  pub objects : AreObjectsFormed q
  pub types : Throughout (λ f around a. IsTyped q a) q
  pub checks : Throughout (λ f around a. IsCheckFormed q a) q
  pub calls : AreCallsFounded q
  pub gotos : Throughout (λ f around a. StaysOutside around a) q
  pub args : Throughout (λ f around a. IsCallApart q a) q
  pub cases : Throughout (λ f around a. AreCasesFormed q a) q
  pub labels : Throughout (λ f around a. AreLabelsOnce a) q
