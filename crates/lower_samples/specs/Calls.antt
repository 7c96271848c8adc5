-- Calls and their values, in arguments and elsewhere. Each program comes to what was worked out by hand from its text.
use Rattle.std.specs.Prelude.{◌≡◌, pos, true, false, [], ◌∷◌, Some, codes}
use Rattle.c_syntax_written.specs.declared.int_type.IntType.TheVariants as ints
use Rattle.c_syntax.specs.declared.operator.DerefKind.TheVariants as derefs
use Rattle.c_syntax.specs.declared.statement.BlockKind.TheVariants.{Written, Added}
use Rattle.c_syntax.specs.Types.{Void}
use Rattle.c_syntax.specs.TypedExpr.{AddressOf, And, Call, Any, Assume, Deref}
use Rattle.c_syntax.specs.TypedStmt.{Store, Expr, Block, Declare, Static, If, While, Return, none}
use Rattle.c_syntax.specs.Program.{TProgramTree}
use Rattle.block_mem.specs.declared.types.Value.TheVariants as values
use Rattle.csharp.specs.Outcomes as outs
use Rattle.csharp.specs.Meaning.{run}
use Rattle.lower_trees.specs.LowerProgram.{lower}
use Rattle.lower_trees.specs.Samples.{at, int, int_pointer, local, static, zeroes, function, number, variable, read, in_order, Gave, comes_to}
use Rattle.lower_samples.specs.Parts.{these, call_args, add, sub, mul, div, greater, set, program}

-- `int add(int a,int b){return a+b;}int main(void){return add(add(1,2),add(3,4));}`
abbrev pub in_arguments : TProgramTree
in_arguments =
    program [] (local 13 int 4 ∷ local 19 int 4 ∷ []) [] (function (codes "add") 5 (0 ∷ 1 ∷ []) int (Block (at 21) Written [] (these
    (Return (at 22) (Some (add 30 (read 29 0 int) (read 31 1 int))) ∷ []))) ∷ function (codes "main") 38 [] int (Block (at 48) Written [] (these
    (Return (at 49) (Some (Call (at 56) 0 int true (call_args (Call (at 60) 0 int true (call_args (number 64 1 ∷ number 66 2 ∷ [])) ∷ Call (at 69) 0
    int true (call_args (number 73 3 ∷ number 75 4 ∷ [])) ∷ [])))) ∷ []))) ∷ [])

-- `int two(void){return 2;}int sum(int a,int b,int c){return a*100+b*10+c;}int main(void){int i=1;return sum(i,two(),i+1);}`
abbrev pub three : TProgramTree
three =
    program [] (local 37 int 4 ∷ local 43 int 4 ∷ local 49 int 4 ∷ local 92 int 4 ∷ []) [] (function (codes "two") 5 [] int (Block (at 14) Written []
    (these
    (Return (at 15) (Some (number 22 2)) ∷ []))) ∷ function (codes "sum") 29 (0 ∷ 1 ∷ 2 ∷ []) int (Block (at 51) Written [] (these
    (Return (at 52) (Some (add 69 (add 64 (mul 60 (read 59 0 int) (number 61 100)) (mul 66 (read 65 1 int) (number 67 10))) (read 70 2 int))) ∷ [])))
    ∷ function (codes "main") 77 [] int (Block (at 87) Written (3 ∷ []) (these
    (Declare (at 92) 3 (Store 0 int (number 94 1) ∷ []) false
    ∷ Return (at 96) (Some (Call (at 103) 1 int true (call_args (read 107 3 int ∷ Call (at 109) 0 int true (call_args []) ∷ add 116 (read 115 3 int)
    (number 117 1) ∷ [])))) ∷ []))) ∷ [])

-- `int f(int a,int b){return a-b;}int g(int a,int b){return f(b,a);}int main(void){return g(3,10);}`
abbrev pub exchanged : TProgramTree
exchanged =
    program [] (local 11 int 4 ∷ local 17 int 4 ∷ local 42 int 4 ∷ local 48 int 4 ∷ []) [] (function (codes "f") 5 (0 ∷ 1 ∷ []) int (Block (at 19)
    Written [] (these
    (Return (at 20) (Some (sub 28 (read 27 0 int) (read 29 1 int))) ∷ []))) ∷ function (codes "g") 36 (2 ∷ 3 ∷ []) int (Block (at 50) Written []
    (these
    (Return (at 51) (Some (Call (at 58) 0 int true (call_args (read 60 3 int ∷ read 62 2 int ∷ [])))) ∷ []))) ∷ function (codes "main") 70 [] int
    (Block (at 80) Written [] (these
    (Return (at 81) (Some (Call (at 88) 1 int true (call_args (number 90 3 ∷ number 92 10 ∷ [])))) ∷ []))) ∷ [])

-- `int f(void){}int main(void){f();return 3;}`: that f gives nothing is not wrong where its value is dropped
abbrev pub dropped : TProgramTree
dropped =
    program [] [] [] (function (codes "f") 5 [] int (Block (at 12) Written [] none) ∷ function (codes "main") 18 [] int (Block (at 28) Written []
    (these
    (Expr (at 29) (Call (at 29) 0 int false (call_args []))
    ∷ Return (at 33) (Some (number 40 3)) ∷ []))) ∷ [])

-- `int f(int x){if(x)return 4;}int main(void){return f(1);}`
abbrev pub one_way : TProgramTree
one_way =
    program [] (local 11 int 4 ∷ []) [] (function (codes "f") 5 (0 ∷ []) int (Block (at 13) Written [] (these
    (If (at 14) (read 17 0 int) (Block (at 19) Added [] (these
    (Return (at 19) (Some (number 26 4)) ∷ []))) (Block (at 14) Added [] none) ∷ []))) ∷ function (codes "main") 33 [] int (Block (at 43) Written []
    (these
    (Return (at 44) (Some (Call (at 51) 0 int true (call_args (number 53 1 ∷ [])))) ∷ []))) ∷ [])

-- `void set(int *p){*p=5;}int main(void){int x=1;set(&x);return x;}`
abbrev pub through : TProgramTree
through =
    program [] (local 15 int_pointer 8 ∷ local 43 int 4 ∷ []) [] (function (codes "set") 6 (0 ∷ []) Void (Block (at 17) Written [] (these
    (Expr (at 20) (set 20 (Deref (at 18) derefs.Star int false (read 19 0 int_pointer)) (number 21 5)) ∷ []))) ∷ function (codes "main") 28 [] int
    (Block (at 38) Written (1 ∷ []) (these
    (Declare (at 43) 1 (Store 0 int (number 45 1) ∷ []) false
    ∷ Expr (at 47) (Call (at 47) 0 Void false (call_args (AddressOf (at 51) (variable 52 1 int) ∷ [])))
    ∷ Return (at 55) (Some (read 62 1 int)) ∷ []))) ∷ [])

-- `int next(void){static int n;n=n+1;return n;}int main(void){next();next();return next();}`
abbrev pub counted : TProgramTree
counted =
    program [] (static 27 int 4 ∷ []) (zeroes 0 4 ∷ []) (function (codes "next") 5 [] int (Block (at 15) Written [] (these
    (Static (at 27) 0
    ∷ Expr (at 30) (set 30 (variable 29 0 int) (add 32 (read 31 0 int) (number 33 1)))
    ∷ Return (at 35) (Some (read 42 0 int)) ∷ []))) ∷ function (codes "main") 49 [] int (Block (at 59) Written [] (these
    (Expr (at 60) (Call (at 60) 0 int false (call_args []))
    ∷ Expr (at 67) (Call (at 67) 0 int false (call_args []))
    ∷ Return (at 74) (Some (Call (at 81) 0 int true (call_args []))) ∷ []))) ∷ [])

-- `int above(int x){return x>0;}int main(void){int n=3;int c=0;while(above(n)){n=n-1;c=c+2;}return c;}`
abbrev pub tested : TProgramTree
tested =
    program [] (local 15 int 4 ∷ local 49 int 4 ∷ local 57 int 4 ∷ []) [] (function (codes "above") 5 (0 ∷ []) int (Block (at 17) Written [] (these
    (Return (at 18) (Some (greater 26 (read 25 0 int) (number 27 0))) ∷ []))) ∷ function (codes "main") 34 [] int (Block (at 44) Written (1 ∷ 2 ∷ [])
    (these
    (Declare (at 49) 1 (Store 0 int (number 51 3) ∷ []) false
    ∷ Declare (at 57) 2 (Store 0 int (number 59 0) ∷ []) false
    ∷ While (at 61) (Call (at 67) 0 int true (call_args (read 73 1 int ∷ []))) (Block (at 76) Written [] (these
    (Expr (at 78) (set 78 (variable 77 1 int) (sub 80 (read 79 1 int) (number 81 1)))
    ∷ Expr (at 84) (set 84 (variable 83 2 int) (add 86 (read 85 2 int) (number 87 2))) ∷ [])))
    ∷ Return (at 90) (Some (read 97 2 int)) ∷ []))) ∷ [])

-- `int bad(void){int z=0;return 1/z;}int main(void){int x=0;return x&&bad();}`
abbrev pub not_made : TProgramTree
not_made =
    program [] (local 19 int 4 ∷ local 54 int 4 ∷ []) [] (function (codes "bad") 5 [] int (Block (at 14) Written (0 ∷ []) (these
    (Declare (at 19) 0 (Store 0 int (number 21 0) ∷ []) false
    ∷ Return (at 23) (Some (div 31 (number 30 1) (read 32 0 int))) ∷ []))) ∷ function (codes "main") 39 [] int (Block (at 49) Written (1 ∷ []) (these
    (Declare (at 54) 1 (Store 0 int (number 56 0) ∷ []) false
    ∷ Return (at 58) (Some (And (at 66) (read 65 1 int) (Call (at 68) 0 int true (call_args [])))) ∷ []))) ∷ [])

-- `int main(void){}`
abbrev pub no_return : TProgramTree
no_return =
    program [] [] [] (function (codes "main") 5 [] int (Block (at 15) Written [] none) ∷ [])

-- `int main(void){int x=__any_int();__assume(x>0);return x;}`
abbrev pub assumed : TProgramTree
assumed =
    program [] (local 20 int 4 ∷ []) [] (function (codes "main") 5 [] int (Block (at 15) Written (0 ∷ []) (these
    (Declare (at 20) 0 (Store 0 int (Any (at 22) ints.Int) ∷ []) false
    ∷ Expr (at 34) (Assume (at 34) (greater 44 (read 43 0 int) (number 45 0)))
    ∷ Return (at 48) (Some (read 55 0 int)) ∷ []))) ∷ [])

-- what the lowered programs come to
pub record CallsComeTo : Type 0 where
  pub in_arguments_is : comes_to in_arguments (0 ∷ 1 ∷ []) 1 12 [] ≡ Gave (Some (values.Int ints.Int (pos 10)))
  pub three_is : comes_to three (0 ∷ 1 ∷ 2 ∷ []) 2 12 [] ≡ Gave (Some (values.Int ints.Int (pos 122)))
  pub exchanged_is : comes_to exchanged (0 ∷ 1 ∷ 2 ∷ []) 2 12 [] ≡ Gave (Some (values.Int ints.Int (pos 7)))
  pub dropped_is : comes_to dropped (0 ∷ 1 ∷ []) 1 12 [] ≡ Gave (Some (values.Int ints.Int (pos 3)))
  pub one_way_is : comes_to one_way (0 ∷ 1 ∷ []) 1 12 [] ≡ Gave (Some (values.Int ints.Int (pos 4)))
  pub through_is : comes_to through (0 ∷ 1 ∷ []) 1 12 [] ≡ Gave (Some (values.Int ints.Int (pos 5)))
  pub counted_is : comes_to counted (0 ∷ 1 ∷ []) 1 12 [] ≡ Gave (Some (values.Int ints.Int (pos 3)))
  pub tested_is : comes_to tested (0 ∷ 1 ∷ []) 1 12 [] ≡ Gave (Some (values.Int ints.Int (pos 6)))
  pub not_made_is : comes_to not_made (0 ∷ 1 ∷ []) 1 12 [] ≡ Gave (Some (values.Int ints.Int (pos 0)))
  pub no_return_is : comes_to no_return (0 ∷ []) 0 12 [] ≡ Gave (Some (values.Int ints.Int (pos 0)))
  pub assumed_is_first : comes_to assumed (0 ∷ []) 0 12 (pos 4 ∷ []) ≡ Gave (Some (values.Int ints.Int (pos 4)))
  pub assumed_is_second : run (lower assumed (in_order (0 ∷ []) 0)) 12 (pos 0 ∷ []) ≡ outs.Stopped
