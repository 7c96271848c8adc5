-- Which statements may be walked: what is asked of their parts, and that calls lead down.
use Rattle.std.specs.Prelude.{◌≡◌, true, false, ℕ, zero, suc, pos, ◌+◌, ◌*◌, ℤ, List, [], ◌∷◌, All, Option, Some, None, IfSome, slice_get}
use Rattle.c_syntax_written.specs.declared.int_type.IntType.{IntType}
use Rattle.c_syntax_written.specs.declared.int_type.IntType.TheVariants as ints
use Rattle.c_syntax.specs.declared.operator.Comparison.TheVariants.{Equal}
use Rattle.c_syntax.specs.declared.operator.TBinaryOp.TheVariants.{CompareInts}
use Rattle.block_mem.specs.declared.types.Scalar.TheVariants as scalars
use Rattle.csharp.specs.Trees.{CsExprTree, Const, Binary, CsCallTree, CsStmtTree, CsStmtTrees, none, more, CsFunctionTree, CsProgramTree}
use Rattle.csharp.specs.Trees.{Nothing, Set, Assume, Sequence, If, Loop, Block, Exit, Scope, Switch, Goto, Call, Return, Label, Case, Default}
use Rattle.csharp.specs.Formed.{AreOperandsTyped, HasType, Spares}
use Rattle.csharp.specs.Meaning.{AtCase, AtLabel, has, is_mark}
use Rattle.csharp.specs.Sizes.{csstmt_size}
use Rattle.mem_api.specs.Given.{IsOf}
use Rattle.alarm_claims.specs.Admitted.{SomeIn}
use Rattle.walk_owes.specs.declared.way.Target.{Target}

-- ---- calls

-- each argument may be put into its parameter, and none reads the parameter of an earlier one
abbrev pub AreArgsReady : CsProgramTree → List CsExprTree → List ℕ → Type 0
AreArgsReady q (e ∷ es) (d ∷ ds) = IsOf q (Set d e) × All (Spares d) es × AreArgsReady q es ds
AreArgsReady q es ds = Unit {0}

abbrev pub target_of : CsCallTree → Target
target_of c = record { value = c.value; flag = c.flag }

-- the flag may be set
abbrev pub IsTarget : CsProgramTree → Target → Type 0
IsTarget q to = IfSome to.flag (λ d. IsOf q (Set d (Const ints.Int (pos 0))) × IsOf q (Set d (Const ints.Int (pos 1))))

-- what main gives goes nowhere
abbrev pub nowhere : Target
nowhere = record { value = None; flag = None }

-- the value of a return may be put into the temporary of its call
abbrev pub IsGivenTo : CsProgramTree → Target → Option CsExprTree → Type 0
IsGivenTo q to None = Unit {0}
IsGivenTo q to (Some e) = IfSome to.value (λ d. IsOf q (Set d e))

-- ---- statements

-- the test of a case
abbrev pub equals : IntType → CsExprTree → ℤ → CsExprTree
equals t e n = Binary (CompareInts Equal t) e (Const t n)

-- the value of a switch is an integer, which may be compared with each case
pub record IsSwitchOwn (q : CsProgramTree) (e : CsExprTree) (items : CsStmtTrees) : Type 0 where
  pub ty : IntType
  pub type : HasType q (scalars.Int ty) e
  pub operands : AreOperandsTyped q e
  pub cases : (n : ℤ) → has (AtCase n) items ≡ true → IsOf q (Assume (equals ty e n))

-- a label stands once among the items of a scope
abbrev pub IsAlone : CsStmtTree → CsStmtTrees → Type 0
IsAlone item rest = (l : ℕ) → is_mark (AtLabel l) item ≡ true → has (AtLabel l) rest ≡ false

abbrev mutual
  pub AreOwn : CsProgramTree → Target → (CsCallTree → Type 0) → CsStmtTree → Type 0
  AreOwn q to Calls Nothing = Unit {0}
  AreOwn q to Calls (Sequence a b) = AreOwn q to Calls a × AreOwn q to Calls b
  AreOwn q to Calls (If e a b) = IsOf q (Assume e) × AreOwn q to Calls a × AreOwn q to Calls b
  AreOwn q to Calls (Loop at a) = AreOwn q to Calls a
  AreOwn q to Calls (Block a) = AreOwn q to Calls a
  AreOwn q to Calls (Exit level) = Unit {0}
  AreOwn q to Calls (Scope xs items) = IsOf q (Scope xs none) × AreItemsOwn q to Calls items
  AreOwn q to Calls (Switch e xs items) = IsOf q (Scope xs none) × IsSwitchOwn q e items × AreItemsOwn q to Calls items
  AreOwn q to Calls (Goto label) = Unit {0}
  AreOwn q to Calls (Call c) = Calls c
  AreOwn q to Calls (Return e) = IsGivenTo q to e
  AreOwn q to Calls (Label at l) = Unit {0}
  AreOwn q to Calls (Case n) = Unit {0}
  AreOwn q to Calls Default = Unit {0}
  AreOwn q to Calls a = IsOf q a

  pub AreItemsOwn : CsProgramTree → Target → (CsCallTree → Type 0) → CsStmtTrees → Type 0
  AreItemsOwn q to Calls none = Unit {0}
  AreItemsOwn q to Calls (more item rest) = AreOwn q to Calls item × IsAlone item rest × AreItemsOwn q to Calls rest

-- a call whose callee may be walked
pub record IsCallable (q : CsProgramTree) (Walkable : Target → CsStmtTree → Type 0) (c : CsCallTree) : Type 0 where
  pub function : CsFunctionTree
  pub there : slice_get q.functions c.function ≡ Some function
  pub args : AreArgsReady q c.args function.params
  pub target : IsTarget q (target_of c)
  pub body : Walkable (target_of c) function.body

-- what is asked of calls that nest at most so deep
abbrev pub Callee : CsProgramTree → ℕ → CsCallTree → Type 0
Callee q zero c = ⊥
Callee q (suc depth) c = IsCallable q (λ to a. AreOwn q to (Callee q depth) a) c

-- a statement whose calls nest at most so deep
abbrev pub IsWalkable : CsProgramTree → ℕ → Target → CsStmtTree → Type 0
IsWalkable q depth to a = AreOwn q to (Callee q depth) a

abbrev pub AreWalkable : CsProgramTree → ℕ → Target → CsStmtTrees → Type 0
AreWalkable q depth to items = AreItemsOwn q to (Callee q depth) items

-- the statement is one of the program's
abbrev pub IsStatementOf : CsProgramTree → CsStmtTree → Type 0
IsStatementOf q a = (f : ℕ) × (function : CsFunctionTree) × (slice_get q.functions f ≡ Some function) × SomeIn (λ b. b ≡ a) function.body

-- ---- what is left to walk

-- the sizes of all bodies
abbrev pub total : List CsFunctionTree → ℕ
total [] = 0
total (f ∷ fs) = csstmt_size f.body + total fs

-- what nesting of calls is worth
unfoldable pub worth : CsProgramTree → ℕ → ℕ
worth q depth = depth * (8 * total q.functions + 8)
