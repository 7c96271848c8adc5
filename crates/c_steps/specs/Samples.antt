-- Small programs, and where their runs end, worked out by hand. All places are in line 1 of the first file.
use Rattle.std.specs.Prelude.{◌≡◌, ℕ, ℤ, pos, true, false, List, [], ◌∷◌, replicate, Some, codes}
use Rattle.c_syntax_written.specs.declared.place.Pos.{Pos}
use Rattle.c_syntax_written.specs.declared.int_type.IntType.TheVariants as ints
use Rattle.c_syntax_written.specs.declared.step.StepWay.TheVariants.{Up}
use Rattle.c_syntax.specs.declared.alarm.WrongKind.TheVariants as kinds
use Rattle.c_syntax.specs.declared.alarm.Spot.TheVariants as spots
use Rattle.c_syntax.specs.declared.operator.Arithmetic.TheVariants.{Add, Divide}
use Rattle.c_syntax.specs.declared.operator.Comparison.TheVariants.{Less, Greater}
use Rattle.c_syntax.specs.declared.operator.DerefKind.TheVariants as derefs
use Rattle.c_syntax.specs.declared.operator.Stride.TheVariants as strides
use Rattle.c_syntax.specs.declared.operator.StepTime.TheVariants as times
use Rattle.c_syntax.specs.declared.operator.TBinaryOp.TheVariants as binaries
use Rattle.c_syntax.specs.declared.statement.BlockKind.TheVariants.{Written, Added}
use Rattle.c_syntax.specs.declared.program.Initial.{Initial}
use Rattle.c_syntax.specs.declared.program.InitByte.TheVariants as bytes
use Rattle.c_syntax.specs.Types.{ObjectTree, CTypeTree, Void, Int, Pointer}
use Rattle.c_syntax.specs.Operand.{Operand, Number, Point, Points, Mark, End}
use Rattle.c_syntax.specs.Operand as operands
use Rattle.c_syntax.specs.TypedExpr.{TExprTree, Const, Load, AddressOf, Binary, Convert, Assign, Step, Call, Any, TLvalueTree, Var, Deref}
use Rattle.c_syntax.specs.TypedExpr as exprs
use Rattle.c_syntax.specs.TypedStmt.{Store, TStmtTree, Block, Declare, Expr, If, For, Switch, Goto, Label, Case, Default, Break, Return}
use Rattle.c_syntax.specs.TypedStmt.{none, more}
use Rattle.c_syntax.specs.Program.{TFunctionTree, TProgramTree}
use Rattle.c_steps.specs.States.{Next, Ended, Waiting, Wrong}
use Rattle.c_steps.specs.Steps.{step}
use Rattle.c_steps.specs.Runs.{after, chain_of}

-- a run stands still, at the latest after so many steps, with this step and chain
pub record EndsWith (p : TProgramTree) (main : ℕ) (inputs : List ℤ) (n : ℕ) (next : Next) (chain : List Pos) : Type 0 where
  pub ends : step p (after p main inputs n) ≡ next
  pub called : chain_of (after p main inputs n).work ≡ chain

abbrev pub at : ℕ → Pos
at column = record { file = 0; line = 1; col = column }

abbrev int : CTypeTree
int = Int ints.Int

abbrev int_pointer : CTypeTree
int_pointer = Pointer int false

abbrev char_pointer : CTypeTree
char_pointer = Pointer (Int ints.Char) false

abbrev local : ℕ → CTypeTree → ℕ → ObjectTree
local column ty size = record { name = codes "x"; pos = at column; ty = ty; size = size; read_only = false; is_static = false }

abbrev static : ℕ → CTypeTree → ℕ → ObjectTree
static column ty size = record { name = codes "x"; pos = at column; ty = ty; size = size; read_only = false; is_static = true }

-- the initial value of a static object that has none
abbrev zeroes : ℕ → ℕ → Initial
zeroes object size = record { object = object; bytes = replicate size (bytes.Num 0) }

abbrev function : List ℕ → ℕ → List ℕ → CTypeTree → TStmtTree → TFunctionTree
function name column params result body = record { name = name; pos = at column; params = params; result = result; body = Some body }

abbrev only_main : List ObjectTree → List Initial → TStmtTree → TProgramTree
only_main objects initial body =
    record { structs = []; objects = objects; functions = function (codes "main") 5 [] int body ∷ []; initial = initial }

abbrev number : ℕ → ℕ → TExprTree
number column n = Const (at column) ints.Int (pos n)

abbrev variable : ℕ → ℕ → CTypeTree → TLvalueTree
variable column object ty = Var (at column) object ty false

abbrev read : ℕ → ℕ → CTypeTree → TExprTree
read column object ty = Load (at column) (variable column object ty)

-- `int main(void){return 2147483647+1;}` is wrong at the `+`, by one above the greatest int
abbrev sum : TProgramTree
sum = only_main [] [] (Block (at 15) Written []
    (more (Return (at 16) (Some (Binary (at 33) (binaries.Arithmetic Add ints.Int) (number 23 2147483647) (number 34 1)))) none))

abbrev pub SumOverflows : Type 0
SumOverflows = EndsWith sum 0 [] 20 (Wrong (at 33) kinds.Overflow (Number (pos 2147483648))) []

-- `int main(void){int x=0x01020304;char *q=(char*)&x;return *(q+K);}`: the bytes of x are 4, 3, 2 and 1. Behind its last byte q may point,
-- and not be read
abbrev bytes_of : ℕ → TProgramTree
bytes_of k = only_main (local 20 int 4 ∷ local 39 char_pointer 8 ∷ []) [] (Block (at 15) Written (0 ∷ 1 ∷ [])
    (more (Declare (at 20) 0 (Store 0 int (number 22 16909060) ∷ []) false)
    (more (Declare (at 39) 1 (Store 0 char_pointer (Convert (at 41) char_pointer (AddressOf (at 48) (variable 49 0 int))) ∷ []) false)
    (more (Return (at 51) (Some (Convert (at 58) int (Load (at 58)
    (Deref (at 58) derefs.Star (Int ints.Char) false (Binary (at 61) (binaries.PointerPlusInt 1) (read 60 1 char_pointer) (number 62 k)))))))
    none))))

abbrev pub SecondByteIsThree : Type 0
SecondByteIsThree = EndsWith (bytes_of 1) 0 [] 40 (Ended (pos 3)) []

abbrev pub EndIsNotRead : Type 0
EndIsNotRead = EndsWith (bytes_of 4) 0 [] 40 (Wrong (at 58) kinds.Access (Point (spots.At 0 (pos 4)))) []

abbrev pub BehindEndIsWrong : Type 0
BehindEndIsWrong = EndsWith (bytes_of 5) 0 [] 40 (Wrong (at 61) kinds.Bounds (Point (spots.At 0 (pos 5)))) []

-- `int main(void){int x;int *p=&x;char c=*(char*)&p;return 0;}`: a byte of a pointer is no character
abbrev part : TProgramTree
part = only_main (local 20 int 4 ∷ local 27 int_pointer 8 ∷ local 37 (Int ints.Char) 1 ∷ []) [] (Block (at 15) Written (0 ∷ 1 ∷ 2 ∷ [])
    (more (Declare (at 20) 0 [] false)
    (more (Declare (at 27) 1 (Store 0 int_pointer (AddressOf (at 29) (variable 30 0 int)) ∷ []) false)
    (more (Declare (at 37) 2 (Store 0 (Int ints.Char)
    (Load (at 39) (Deref (at 39) derefs.Star (Int ints.Char) false
    (Convert (at 40) char_pointer (AddressOf (at 47) (variable 48 1 int_pointer))))) ∷ []) false)
    (more (Return (at 50) (Some (number 57 0))) none)))))

abbrev pub PartIsBroken : Type 0
PartIsBroken = EndsWith part 0 [] 30 (Wrong (at 39) kinds.Fragment (Mark operands.Broken)) []

-- `int a,b;int main(void){return &a<&b;}`: two objects have no order
abbrev ordered : TProgramTree
ordered = only_main (static 5 int 4 ∷ static 7 int 4 ∷ []) (zeroes 0 4 ∷ zeroes 1 4 ∷ []) (Block (at 23) Written []
    (more (Return (at 24) (Some (Binary (at 33) (binaries.ComparePointers Less)
    (AddressOf (at 31) (variable 32 0 int)) (AddressOf (at 34) (variable 35 1 int)))))
    none))

abbrev pub ObjectsHaveNoOrder : Type 0
ObjectsHaveNoOrder = EndsWith ordered 0 [] 20 (Wrong (at 33) kinds.Unrelated (Points (spots.At 0 (pos 0)) (spots.At 1 (pos 0)))) []

-- `int g(int x){return 10/x;}int main(void){return g(2)+g(0);}`: the second call divides by 0
abbrev calls : TProgramTree
calls = record {
  structs = [];
  objects = local 11 int 4 ∷ [];
  functions =
      function (codes "g") 5 (0 ∷ []) int (Block (at 13) Written []
      (more (Return (at 14) (Some (Binary (at 23) (binaries.Arithmetic Divide ints.Int) (number 21 10) (read 24 0 int)))) none))
      ∷ function (codes "main") 31 [] int (Block (at 41) Written []
      (more (Return (at 42) (Some (Binary (at 53) (binaries.Arithmetic Add ints.Int)
      (Call (at 49) 0 int true (exprs.more (number 51 2) exprs.none)) (Call (at 54) 0 int true (exprs.more (number 56 0) exprs.none))))) none))
      ∷ [];
  initial = [];
}

abbrev pub SecondCallDivides : Type 0
SecondCallDivides = EndsWith calls 1 [] 60 (Wrong (at 23) kinds.DivideByZero (Number (pos 0))) (at 54 ∷ [])

-- `int f(void){}int main(void){return f();}`: the end of f gives no value, and that is wrong at the call, in main
abbrev no_value : TProgramTree
no_value = record {
  structs = [];
  objects = [];
  functions =
      function (codes "f") 5 [] int (Block (at 12) Written [] none)
      ∷ function (codes "main") 18 [] int (Block (at 28) Written [] (more (Return (at 29) (Some (Call (at 36) 0 int true exprs.none))) none))
      ∷ [];
  initial = [];
}

abbrev pub EndGivesNoValue : Type 0
EndGivesNoValue = EndsWith no_value 1 [] 20 (Wrong (at 36) kinds.NoValue (End operands.None)) []

-- `int main(void){int *p;for(int i=0;i<2;i++){int y=i;if(i){int z=*p;(void)z;}p=&y;}return 0;}`: in the second turn p points to the y of the first
abbrev dangles : TProgramTree
dangles = only_main (local 21 int_pointer 8 ∷ local 31 int 4 ∷ local 48 int 4 ∷ local 62 int 4 ∷ []) [] (Block (at 15) Written (0 ∷ [])
    (more (Declare (at 21) 0 [] false)
    (more (For (at 23) (1 ∷ []) (more (Declare (at 31) 1 (Store 0 int (number 33 0) ∷ []) false) none)
    (Some (Binary (at 36) (binaries.CompareInts Less ints.Int) (read 35 1 int) (number 37 2)))
    (Some (Step (at 40) times.After Up (strides.Int ints.Int) (variable 39 1 int)))
    (Block (at 43) Written (2 ∷ [])
    (more (Declare (at 48) 2 (Store 0 int (read 50 1 int) ∷ []) false)
    (more (If (at 52) (read 55 1 int)
    (Block (at 57) Written (3 ∷ [])
    (more (Declare (at 62) 3 (Store 0 int (Load (at 64) (Deref (at 64) derefs.Star int false (read 65 0 int_pointer))) ∷ []) false)
    (more (Expr (at 67) (Convert (at 67) Void (read 73 3 int))) none)))
    (Block (at 52) Added [] none))
    (more (Expr (at 77) (Assign (at 77) (variable 76 0 int_pointer) (AddressOf (at 78) (variable 79 2 int)))) none)))))
    (more (Return (at 82) (Some (number 89 0))) none))))

abbrev pub PointerDangles : Type 0
PointerDangles = EndsWith dangles 0 [] 120 (Wrong (at 64) kinds.Dangling (Point spots.Dead)) []

-- `int main(void){int d=__any_int();return 1/d;}` waits for an input, and ends with 0 on 7
abbrev asks : TProgramTree
asks = only_main (local 20 int 4 ∷ []) [] (Block (at 15) Written (0 ∷ [])
    (more (Declare (at 20) 0 (Store 0 int (Any (at 22) ints.Int) ∷ []) false)
    (more (Return (at 34) (Some (Binary (at 42) (binaries.Arithmetic Divide ints.Int) (number 41 1) (read 43 0 int)))) none)))

abbrev pub InputIsAwaited : Type 0
InputIsAwaited = EndsWith asks 0 [] 20 Waiting []

abbrev pub InputIsRead : Type 0
InputIsRead = EndsWith asks 0 (pos 7 ∷ []) 20 (Ended (pos 0)) []

-- `int main(void){again:if(__any_int()>0)goto again;return 0;}` reads inputs until one is not above 0
abbrev again : TProgramTree
again = only_main [] [] (Block (at 15) Written []
    (more (Label (at 16) 0)
    (more (If (at 22) (Binary (at 36) (binaries.CompareInts Greater ints.Int) (Any (at 25) ints.Int) (number 37 0))
    (Block (at 39) Added [] (more (Goto (at 39) 0) none)) (Block (at 22) Added [] none))
    (more (Return (at 50) (Some (number 57 0))) none))))

abbrev pub GotoGoesBack : Type 0
GotoGoesBack = EndsWith again 0 (pos 1 ∷ pos 1 ∷ pos 0 ∷ []) 60 (Ended (pos 0)) []

-- `int main(void){int x=0;switch(2){case 2:x=x+1;case 1:x=x+1;break;default:x=9;}return x;}` falls through from one case into the next
abbrev add_one : ℕ → TStmtTree
add_one column = Expr (at column) (Assign (at column) (variable column 0 int)
    (Binary (at column) (binaries.Arithmetic Add ints.Int) (read column 0 int) (number column 1)))

abbrev falls : TProgramTree
falls = only_main (local 20 int 4 ∷ []) [] (Block (at 15) Written (0 ∷ [])
    (more (Declare (at 20) 0 (Store 0 int (number 22 0) ∷ []) false)
    (more (Switch (at 24) (number 31 2) Written []
    (more (Case (at 34) (pos 2)) (more (add_one 42) (more (Case (at 47) (pos 1)) (more (add_one 55) (more (Break (at 60)) (more (Default (at 66))
    (more (Expr (at 75) (Assign (at 75) (variable 74 0 int) (number 76 9))) none))))))))
    (more (Return (at 79) (Some (read 86 0 int))) none))))

abbrev pub CasesFallThrough : Type 0
CasesFallThrough = EndsWith falls 0 [] 60 (Ended (pos 2)) []

-- what the machine does with these programs
pub record RunsEnd : Type 0 where
  pub sum : SumOverflows
  pub byte : SecondByteIsThree
  pub end : EndIsNotRead
  pub behind : BehindEndIsWrong
  pub part : PartIsBroken
  pub order : ObjectsHaveNoOrder
  pub second : SecondCallDivides
  pub value : EndGivesNoValue
  pub dangling : PointerDangles
  pub waits : InputIsAwaited
  pub reads : InputIsRead
  pub back : GotoGoesBack
  pub falls : CasesFallThrough
