-- Work items: what is still to be done, the first of them next (this profile).
use Rattle.std.specs.Prelude.{ℕ, List, Option}
use Rattle.c_syntax_written.specs.declared.place.Pos.{Pos}
use Rattle.c_syntax_written.specs.declared.step.StepWay.{StepWay}
use Rattle.c_syntax.specs.declared.operator.Extent.{Extent}
use Rattle.c_syntax.specs.declared.operator.Stride.{Stride}
use Rattle.c_syntax.specs.declared.operator.StepTime.{StepTime}
use Rattle.c_syntax.specs.declared.operator.TUnaryOp.{TUnaryOp}
use Rattle.c_syntax.specs.declared.operator.TBinaryOp.{TBinaryOp}
use Rattle.c_syntax.specs.TypedExpr.{TExprTree, TLvalueTree}
use Rattle.c_syntax.specs.TypedStmt.{TInitTree, TStmtTree, TStmtTrees}
use Rattle.block_mem.specs.declared.types.Scalar.{Scalar}

-- what a function gives whose end is reached without a `return`: nothing; 0, as main does; or something that is wrong, where the call's value is used
-- (C11 5.1.2.2.3p1, 6.9.1p12)
pub data AtEnd : Type 0 where
  GivesNothing : AtEnd
  GivesZero : AtEnd
  IsWrong : AtEnd

-- a loop: the place of its first word, at which its condition is tested, and its parts. One whose condition is missing goes on (C11 6.8.5.3p2)
pub record Loop : Type 0 where
  pub pos : Pos
  pub condition : Option TExprTree
  pub step : Option TExprTree
  pub body : TStmtTree

-- Work items. Where an item takes a value of a type it has the scalar type alone, or none for what is no scalar. `place` is where the lvalue that is
-- accessed stands. The items of a loop have the number of times that its body was begun since the loop was entered
pub data Item : Type 0 where
  -- an expression, and the place of an lvalue
  Eval : TExprTree → Item
  Addr : TLvalueTree → Item
  -- accesses: a load, a store, a struct that is named and one that is copied, `op=`, `++` and `--`
  LoadAt : Pos → Option Scalar → Item
  StoreAt : Pos → Option Scalar → Item
  Named : Pos → Item
  CopyAt : Pos → Extent → Item
  Modify : Pos → Pos → Option Scalar → TBinaryOp → Item
  StepAt : Pos → Pos → Option Scalar → StepTime → StepWay → Stride → Item
  -- operators
  Un : Pos → TUnaryOp → Option Scalar → Item
  Bin : Pos → TBinaryOp → Item
  Conv : Option Scalar → Item
  Move : Pos → ℕ → Item
  -- what goes on by the truth of a value
  AndThen : Pos → Option Scalar → TExprTree → Item
  OrElse : Pos → Option Scalar → TExprTree → Item
  Truth : Pos → Option Scalar → Item
  Pick : Pos → Option Scalar → TExprTree → TExprTree → Item
  Choose : Pos → Option Scalar → TStmtTree → TStmtTree → Item
  Keep : Pos → Option Scalar → Item
  Sure : Pos → Option Scalar → Item
  Drop : Item
  -- calls: the callee is entered, and left or its end reached. The place of the call is none for main
  Enter : Option Pos → ℕ → AtEnd → Item
  Leave : Item
  Reach : Option Pos → AtEnd → Item
  -- statements
  Do : TStmtTree → Item
  Close : List ℕ → TStmtTrees → Item
  Begin : ℕ → Loop → Item
  Turn : ℕ → Loop → Item
  Again : ℕ → Loop → Item
  Select : List ℕ → TStmtTrees → Item
  SwitchEnd : Item
  -- initialisers: a scalar or a struct that is put into an object at an offset, and what no item names
  Fill : ℕ → ℕ → Option Scalar → Item
  FillCopy : ℕ → ℕ → Extent → Item
  Rest : ℕ → List TInitTree → Item
  -- the end of the run
  Finish : Item
