-- Small programs, lowered: each comes to what the machine of C comes to on it, worked out by hand.
use Rattle.std.specs.Prelude.{◌≡◌, ℕ, ℤ, pos, true, false, List, [], ◌∷◌, replicate, Some, codes}
use Rattle.c_syntax_written.specs.declared.place.Pos.{Pos}
use Rattle.c_syntax_written.specs.declared.int_type.IntType.TheVariants as ints
use Rattle.c_syntax_written.specs.declared.step.StepWay.TheVariants.{Up}
use Rattle.c_syntax.specs.declared.alarm.WrongKind.TheVariants as kinds
use Rattle.c_syntax.specs.declared.alarm.Spot.TheVariants as spots
use Rattle.c_syntax.specs.declared.operator.Arithmetic.TheVariants.{Add, Divide}
use Rattle.c_syntax.specs.declared.operator.Comparison.TheVariants.{Less, Greater}
use Rattle.c_syntax.specs.declared.operator.DerefKind.TheVariants as derefs
use Rattle.c_syntax.specs.declared.operator.Stride.TheVariants as strides
use Rattle.c_syntax.specs.declared.operator.StepTime.TheVariants as times
use Rattle.c_syntax.specs.declared.operator.TBinaryOp.TheVariants as binaries
use Rattle.c_syntax.specs.declared.statement.BlockKind.TheVariants.{Written, Added}
use Rattle.c_syntax.specs.declared.program.Initial.{Initial}
use Rattle.c_syntax.specs.declared.program.InitByte.TheVariants as bytes
use Rattle.c_syntax.specs.Types.{ObjectTree, CTypeTree, Void, Int, Pointer}
use Rattle.c_syntax.specs.Operand.{Operand, Number, Point, Points, Mark, End}
use Rattle.c_syntax.specs.Operand as operands
use Rattle.c_syntax.specs.TypedExpr.{TExprTree, Const, Load, AddressOf, Binary, Convert, Assign, Step, Call, Any, TLvalueTree, Var, Deref}
use Rattle.c_syntax.specs.TypedExpr as exprs
use Rattle.c_syntax.specs.Types as types
use Rattle.c_syntax.specs.declared.operator.Comparison.TheVariants as compare
use Rattle.c_syntax.specs.TypedStmt.{Store, TStmtTree, Block, Declare, Expr, If, For, Switch, Goto, Label, Case, Default, Break, Return}
use Rattle.c_syntax.specs.TypedStmt.{none, more}
use Rattle.c_syntax.specs.Program.{TFunctionTree, TProgramTree}
use Rattle.std.specs.Prelude.{Option}
use Rattle.c_syntax.specs.declared.program.Plan.{Plan}
use Rattle.block_mem.specs.declared.types.Value.{Value}
use Rattle.block_mem.specs.declared.types.Value.TheVariants as values
use Rattle.csharp.specs.Outcomes as outs
use Rattle.csharp.specs.Meaning.{run}
use Rattle.lower_trees.specs.LowerProgram.{lower}
use Rattle.c_syntax.specs.declared.alarm.WrongKind.{WrongKind}

abbrev pub at : ℕ → Pos
at column = record { file = 0; line = 1; col = column }

abbrev pub int : CTypeTree
int = Int ints.Int

abbrev pub int_pointer : CTypeTree
int_pointer = Pointer int false

abbrev pub char_pointer : CTypeTree
char_pointer = Pointer (Int ints.Char) false

abbrev pub local : ℕ → CTypeTree → ℕ → ObjectTree
local column ty size = record { name = codes "x"; pos = at column; ty = ty; size = size; read_only = false; is_static = false }

abbrev pub static : ℕ → CTypeTree → ℕ → ObjectTree
static column ty size = record { name = codes "x"; pos = at column; ty = ty; size = size; read_only = false; is_static = true }

-- the initial value of a static object that has none
abbrev pub zeroes : ℕ → ℕ → Initial
zeroes object size = record { object = object; bytes = replicate size (bytes.Num 0) }

abbrev pub function : List ℕ → ℕ → List ℕ → CTypeTree → TStmtTree → TFunctionTree
function name column params result body = record { name = name; pos = at column; params = params; result = result; body = Some body }

abbrev pub only_main : List ObjectTree → List Initial → TStmtTree → TProgramTree
only_main objects initial body =
    record { structs = []; objects = objects; functions = function (codes "main") 5 [] int body ∷ []; initial = initial }

abbrev pub number : ℕ → ℕ → TExprTree
number column n = Const (at column) ints.Int (pos n)

abbrev pub variable : ℕ → ℕ → CTypeTree → TLvalueTree
variable column object ty = Var (at column) object ty false

abbrev pub read : ℕ → ℕ → CTypeTree → TExprTree
read column object ty = Load (at column) (variable column object ty)

-- `int main(void){return 2147483647+1;}` is wrong at the `+`, by one above the greatest int
abbrev pub sum : TProgramTree
sum = only_main [] [] (Block (at 15) Written []
    (more (Return (at 16) (Some (Binary (at 33) (binaries.Arithmetic Add ints.Int) (number 23 2147483647) (number 34 1)))) none))

-- `int main(void){int x=0x01020304;char *q=(char*)&x;return *(q+K);}`: the bytes of x are 4, 3, 2 and 1. Behind its last byte q may point,
-- and not be read
abbrev pub bytes_of : ℕ → TProgramTree
bytes_of k = only_main (local 20 int 4 ∷ local 39 char_pointer 8 ∷ []) [] (Block (at 15) Written (0 ∷ 1 ∷ [])
    (more (Declare (at 20) 0 (Store 0 int (number 22 16909060) ∷ []) false)
    (more (Declare (at 39) 1 (Store 0 char_pointer (Convert (at 41) char_pointer (AddressOf (at 48) (variable 49 0 int))) ∷ []) false)
    (more (Return (at 51) (Some (Convert (at 58) int (Load (at 58)
    (Deref (at 58) derefs.Star (Int ints.Char) false (Binary (at 61) (binaries.PointerPlusInt 1) (read 60 1 char_pointer) (number 62 k)))))))
    none))))

-- `int g(int x){return 10/x;}int main(void){return g(2)+g(0);}`: the second call divides by 0
abbrev pub calls : TProgramTree
calls = record {
  structs = [];
  objects = local 11 int 4 ∷ [];
  functions =
      function (codes "g") 5 (0 ∷ []) int (Block (at 13) Written []
      (more (Return (at 14) (Some (Binary (at 23) (binaries.Arithmetic Divide ints.Int) (number 21 10) (read 24 0 int)))) none))
      ∷ function (codes "main") 31 [] int (Block (at 41) Written []
      (more (Return (at 42) (Some (Binary (at 53) (binaries.Arithmetic Add ints.Int)
      (Call (at 49) 0 int true (exprs.more (number 51 2) exprs.none)) (Call (at 54) 0 int true (exprs.more (number 56 0) exprs.none))))) none))
      ∷ [];
  initial = [];
}

-- `int f(void){}int main(void){return f();}`: the end of f gives no value, and that is wrong at the call, in main
abbrev pub no_value : TProgramTree
no_value = record {
  structs = [];
  objects = [];
  functions =
      function (codes "f") 5 [] int (Block (at 12) Written [] none)
      ∷ function (codes "main") 18 [] int (Block (at 28) Written [] (more (Return (at 29) (Some (Call (at 36) 0 int true exprs.none))) none))
      ∷ [];
  initial = [];
}

-- `int main(void){int *p;for(int i=0;i<2;i++){int y=i;if(i){int z=*p;(void)z;}p=&y;}return 0;}`: in the second turn p points to the y of the first
abbrev pub dangles : TProgramTree
dangles = only_main (local 21 int_pointer 8 ∷ local 31 int 4 ∷ local 48 int 4 ∷ local 62 int 4 ∷ []) [] (Block (at 15) Written (0 ∷ [])
    (more (Declare (at 21) 0 [] false)
    (more (For (at 23) (1 ∷ []) (more (Declare (at 31) 1 (Store 0 int (number 33 0) ∷ []) false) none)
    (Some (Binary (at 36) (binaries.CompareInts Less ints.Int) (read 35 1 int) (number 37 2)))
    (Some (Step (at 40) times.After Up (strides.Int ints.Int) (variable 39 1 int)))
    (Block (at 43) Written (2 ∷ [])
    (more (Declare (at 48) 2 (Store 0 int (read 50 1 int) ∷ []) false)
    (more (If (at 52) (read 55 1 int)
    (Block (at 57) Written (3 ∷ [])
    (more (Declare (at 62) 3 (Store 0 int (Load (at 64) (Deref (at 64) derefs.Star int false (read 65 0 int_pointer))) ∷ []) false)
    (more (Expr (at 67) (Convert (at 67) Void (read 73 3 int))) none)))
    (Block (at 52) Added [] none))
    (more (Expr (at 77) (Assign (at 77) (variable 76 0 int_pointer) (AddressOf (at 78) (variable 79 2 int)))) none)))))
    (more (Return (at 82) (Some (number 89 0))) none))))

-- `int main(void){int d=__any_int();return 1/d;}` waits for an input, and ends with 0 on 7
abbrev pub asks : TProgramTree
asks = only_main (local 20 int 4 ∷ []) [] (Block (at 15) Written (0 ∷ [])
    (more (Declare (at 20) 0 (Store 0 int (Any (at 22) ints.Int) ∷ []) false)
    (more (Return (at 34) (Some (Binary (at 42) (binaries.Arithmetic Divide ints.Int) (number 41 1) (read 43 0 int)))) none)))

-- `int main(void){again:if(__any_int()>0)goto again;return 0;}` reads inputs until one is not above 0
abbrev pub again : TProgramTree
again = only_main [] [] (Block (at 15) Written []
    (more (Label (at 16) 0)
    (more (If (at 22) (Binary (at 36) (binaries.CompareInts Greater ints.Int) (Any (at 25) ints.Int) (number 37 0))
    (Block (at 39) Added [] (more (Goto (at 39) 0) none)) (Block (at 22) Added [] none))
    (more (Return (at 50) (Some (number 57 0))) none))))

-- `int main(void){int x=0;switch(2){case 2:x=x+1;case 1:x=x+1;break;default:x=9;}return x;}` falls through from one case into the next
abbrev pub add_one : ℕ → TStmtTree
add_one column = Expr (at column) (Assign (at column) (variable column 0 int)
    (Binary (at column) (binaries.Arithmetic Add ints.Int) (read column 0 int) (number column 1)))

abbrev pub falls : TProgramTree
falls = only_main (local 20 int 4 ∷ []) [] (Block (at 15) Written (0 ∷ [])
    (more (Declare (at 20) 0 (Store 0 int (number 22 0) ∷ []) false)
    (more (Switch (at 24) (number 31 2) Written []
    (more (Case (at 34) (pos 2)) (more (add_one 42) (more (Case (at 47) (pos 1)) (more (add_one 55) (more (Break (at 60)) (more (Default (at 66))
    (more (Expr (at 75) (Assign (at 75) (variable 74 0 int) (number 76 9))) none))))))))
    (more (Return (at 79) (Some (read 86 0 int))) none))))

-- what is seen of an outcome
pub data Seen : Type 0 where
  Failed : List Pos → Pos → WrongKind → Operand → Seen
  Gave : Option Value → Seen
  Waits : Seen
  Other : Seen

abbrev pub seen : outs.Outcome → Seen
seen (outs.Fails chain at kind operand m) = Failed chain at kind operand
seen (outs.Leaves (outs.ByReturn v) s) = Gave v
seen outs.Waiting = Waits
seen o = Other

abbrev pub in_order : List ℕ → ℕ → Plan
in_order order main = record { order = order; main = main }

abbrev pub comes_to : TProgramTree → List ℕ → ℕ → ℕ → List ℤ → Seen
comes_to p order main fuel inputs = seen (run (lower p (in_order order main)) fuel inputs)

-- `int a[3];int main(void){int i=__any_int();if(i>=0&&i<3)return a[i]&&0;return i<0?1:2;}`
abbrev pub triple : CTypeTree
triple = types.Array int false 3

abbrev pub tests : TProgramTree
tests = only_main (static 5 triple 12 ∷ local 20 int 4 ∷ []) (zeroes 0 12 ∷ []) (Block (at 15) Written (1 ∷ [])
    (more (Declare (at 20) 1 (Store 0 int (Any (at 22) ints.Int) ∷ []) false)
    (more (If (at 30) (exprs.And (at 36) (Binary (at 34) (binaries.CompareInts compare.AtLeast ints.Int) (read 33 1 int) (number 35 0))
    (Binary (at 39) (binaries.CompareInts Less ints.Int) (read 38 1 int) (number 40 3)))
    (Block (at 41) Added [] (more (Return (at 41) (Some (exprs.And (at 53)
    (Load (at 49) (Deref (at 49) derefs.Index int false (Binary (at 49) (binaries.PointerPlusInt 4) (exprs.Decay (at 48) (variable 48 0 triple)) (read 50 1 int))))
    (number 55 0)))) none))
    (Block (at 30) Added [] none))
    (more (Return (at 60) (Some (exprs.Cond (at 70) int (Binary (at 68) (binaries.CompareInts Less ints.Int) (read 67 1 int) (number 69 0)) (number 71 1) (number 73 2)))) none))))

-- `struct S{int a;}s;int main(void){struct S t={5};struct S u;s=0?u:t;return s.a;}`: the struct that is read is the one that has a value; `s=1?u:t` too
-- copies bytes without one, and the load is wrong
abbrev pub struct : CTypeTree
struct = types.Struct 0

abbrev pub whole : ℕ → ℕ → TExprTree
whole column object = exprs.Whole (at column) (variable column object struct)

abbrev pub copies : ℕ → TProgramTree
copies k = only_main (static 5 struct 4 ∷ local 20 struct 4 ∷ local 25 struct 4 ∷ []) (zeroes 0 4 ∷ []) (Block (at 15) Written (1 ∷ 2 ∷ [])
    (more (Declare (at 20) 1 (Store 0 int (number 22 5) ∷ []) true)
    (more (Declare (at 25) 2 [] false)
    (more (Expr (at 31) (exprs.AssignStruct (at 31) (record { size = 4; align = 4 }) (variable 30 0 struct)
    (exprs.Cond (at 33) struct (number 32 k) (whole 34 2) (whole 36 1))))
    (more (Return (at 40) (Some (Load (at 48) (exprs.Member (at 48) 0 0 int false (variable 47 0 struct))))) none)))))

-- `int main(void){int a[3]={7};return a[2];}`: what no item names is 0
abbrev pub rests : TProgramTree
rests = only_main (local 20 triple 12 ∷ []) [] (Block (at 15) Written (0 ∷ [])
    (more (Declare (at 20) 0 (Store 0 int (number 25 7) ∷ []) true)
    (more (Return (at 30) (Some (Load (at 38) (Deref (at 38) derefs.Index int false
    (Binary (at 38) (binaries.PointerPlusInt 4) (exprs.Decay (at 37) (variable 37 0 triple)) (number 39 2)))))) none)))

-- what the runs of the lowered programs come to
pub record SamplesComeTo : Type 0 where
  pub overflows : comes_to sum (0 ∷ []) 0 2 [] ≡ Failed [] (at 33) kinds.Overflow (Number (pos 2147483648))
  pub second_call : comes_to calls (0 ∷ 1 ∷ []) 1 4 [] ≡ Failed (at 54 ∷ []) (at 23) kinds.DivideByZero (Number (pos 0))
  pub no_end : comes_to no_value (0 ∷ 1 ∷ []) 1 4 [] ≡ Failed [] (at 36) kinds.NoValue (End operands.None)
  pub waits : comes_to asks (0 ∷ []) 0 2 [] ≡ Waits
  pub reads : comes_to asks (0 ∷ []) 0 2 (pos 7 ∷ []) ≡ Gave (Some (values.Int ints.Int (pos 0)))
  pub back : comes_to again (0 ∷ []) 0 5 (pos 1 ∷ pos 1 ∷ pos 0 ∷ []) ≡ Gave (Some (values.Int ints.Int (pos 0)))
  pub through : comes_to falls (0 ∷ []) 0 2 [] ≡ Gave (Some (values.Int ints.Int (pos 2)))
  pub dangling : comes_to dangles (0 ∷ []) 0 5 [] ≡ Failed [] (at 64) kinds.Dangling (Point spots.Dead)
  pub byte : comes_to (bytes_of 1) (0 ∷ []) 0 2 [] ≡ Gave (Some (values.Int ints.Int (pos 3)))
  pub end : comes_to (bytes_of 4) (0 ∷ []) 0 2 [] ≡ Failed [] (at 58) kinds.Access (Point (spots.At 0 (pos 4)))
  pub inside : comes_to tests (0 ∷ []) 0 2 (pos 1 ∷ []) ≡ Gave (Some (values.Int ints.Int (pos 0)))
  pub above : comes_to tests (0 ∷ []) 0 2 (pos 3 ∷ []) ≡ Gave (Some (values.Int ints.Int (pos 2)))
  pub copied : comes_to (copies 0) (0 ∷ []) 0 2 [] ≡ Gave (Some (values.Int ints.Int (pos 5)))
  pub undefined : comes_to (copies 1) (0 ∷ []) 0 2 [] ≡ Failed [] (at 48) kinds.Indeterminate (Mark operands.Undef)
  pub zeroed : comes_to rests (0 ∷ []) 0 2 [] ≡ Gave (Some (values.Int ints.Int (pos 0)))
