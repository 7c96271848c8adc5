-- Loops, switches, gotos and returns. Each program comes to what was worked out by hand from its text.
use Rattle.std.specs.Prelude.{◌≡◌, pos, true, false, [], ◌∷◌, Some, None, codes}
use Rattle.c_syntax_written.specs.declared.int_type.IntType.TheVariants as ints
use Rattle.c_syntax_written.specs.declared.step.StepWay.TheVariants as ways
use Rattle.c_syntax.specs.declared.operator.Stride.TheVariants as strides
use Rattle.c_syntax.specs.declared.operator.StepTime.TheVariants as times
use Rattle.c_syntax.specs.declared.statement.BlockKind.TheVariants.{Written, Added}
use Rattle.c_syntax.specs.TypedExpr.{Step, Call}
use Rattle.c_syntax.specs.TypedStmt.{Store, Expr, Block, Declare, If, While, DoWhile, For, Switch, Break, Continue, Goto, Return, Label, Case, Default, none}
use Rattle.c_syntax.specs.Program.{TProgramTree}
use Rattle.block_mem.specs.declared.types.Value.TheVariants as values
use Rattle.lower_trees.specs.Samples.{at, int, local, function, number, variable, read, Gave, comes_to}
use Rattle.lower_samples.specs.Parts.{these, call_args, add, sub, rem, less, equal, set, program}

-- `int main(void){int i=0;int s=0;while(1){i++;if(i==2)continue;if(i==5)break;s=s+i;}return s;}`: 1, 3 and 4
abbrev pub while_loop : TProgramTree
while_loop =
    program [] (local 20 int 4 ∷ local 28 int 4 ∷ []) [] (function (codes "main") 5 [] int (Block (at 15) Written (0 ∷ 1 ∷ []) (these
    (Declare (at 20) 0 (Store 0 int (number 22 0) ∷ []) false
    ∷ Declare (at 28) 1 (Store 0 int (number 30 0) ∷ []) false
    ∷ While (at 32) (number 38 1) (Block (at 40) Written [] (these
    (Expr (at 42) (Step (at 42) times.After ways.Up (strides.Int ints.Int) (variable 41 0 int))
    ∷ If (at 45) (equal 49 (read 48 0 int) (number 51 2)) (Block (at 53) Added [] (these
    (Continue (at 53) ∷ []))) (Block (at 45) Added [] none)
    ∷ If (at 62) (equal 66 (read 65 0 int) (number 68 5)) (Block (at 70) Added [] (these
    (Break (at 70) ∷ []))) (Block (at 62) Added [] none)
    ∷ Expr (at 77) (set 77 (variable 76 1 int) (add 79 (read 78 1 int) (read 80 0 int))) ∷ [])))
    ∷ Return (at 83) (Some (read 90 1 int)) ∷ []))) ∷ [])

-- `int main(void){int i=0;int n=0;do{i++;if(i==2)continue;n=n+i;}while(i<4);return n;}`: a continue goes on to the test
abbrev pub do_loop : TProgramTree
do_loop =
    program [] (local 20 int 4 ∷ local 28 int 4 ∷ []) [] (function (codes "main") 5 [] int (Block (at 15) Written (0 ∷ 1 ∷ []) (these
    (Declare (at 20) 0 (Store 0 int (number 22 0) ∷ []) false
    ∷ Declare (at 28) 1 (Store 0 int (number 30 0) ∷ []) false
    ∷ DoWhile (at 32) (Block (at 34) Written [] (these
    (Expr (at 36) (Step (at 36) times.After ways.Up (strides.Int ints.Int) (variable 35 0 int))
    ∷ If (at 39) (equal 43 (read 42 0 int) (number 45 2)) (Block (at 47) Added [] (these
    (Continue (at 47) ∷ []))) (Block (at 39) Added [] none)
    ∷ Expr (at 57) (set 57 (variable 56 1 int) (add 59 (read 58 1 int) (read 60 0 int))) ∷ []))) (less 70 (read 69 0 int) (number 71 4))
    ∷ Return (at 74) (Some (read 81 1 int)) ∷ []))) ∷ [])

-- `int main(void){int n=1;do{if(n)break;n=5;}while(0);return n;}`
abbrev pub do_once : TProgramTree
do_once =
    program [] (local 20 int 4 ∷ []) [] (function (codes "main") 5 [] int (Block (at 15) Written (0 ∷ []) (these
    (Declare (at 20) 0 (Store 0 int (number 22 1) ∷ []) false
    ∷ DoWhile (at 24) (Block (at 26) Written [] (these
    (If (at 27) (read 30 0 int) (Block (at 32) Added [] (these
    (Break (at 32) ∷ []))) (Block (at 27) Added [] none)
    ∷ Expr (at 39) (set 39 (variable 38 0 int) (number 40 5)) ∷ []))) (number 49 0)
    ∷ Return (at 52) (Some (read 59 0 int)) ∷ []))) ∷ [])

-- `int main(void){int s=0;for(int i=0;i<5;i++){if(i%2)continue;s=s+i;}return s;}`: a continue goes on to the step
abbrev pub for_loop : TProgramTree
for_loop =
    program [] (local 20 int 4 ∷ local 32 int 4 ∷ []) [] (function (codes "main") 5 [] int (Block (at 15) Written (0 ∷ []) (these
    (Declare (at 20) 0 (Store 0 int (number 22 0) ∷ []) false
    ∷ For (at 24) (1 ∷ []) (these
    (Declare (at 32) 1 (Store 0 int (number 34 0) ∷ []) false ∷ [])) (Some (less 37 (read 36 1 int) (number 38 5))) (Some (Step (at 41) times.After
    ways.Up (strides.Int ints.Int) (variable 40 1 int))) (Block (at 44) Written [] (these
    (If (at 45) (rem 49 (read 48 1 int) (number 50 2)) (Block (at 52) Added [] (these
    (Continue (at 52) ∷ []))) (Block (at 45) Added [] none)
    ∷ Expr (at 62) (set 62 (variable 61 0 int) (add 64 (read 63 0 int) (read 65 1 int))) ∷ [])))
    ∷ Return (at 68) (Some (read 75 0 int)) ∷ []))) ∷ [])

-- `int main(void){int n=0;for(;;){n=n+1;if(n==3)break;}return n;}`
abbrev pub bare_loop : TProgramTree
bare_loop =
    program [] (local 20 int 4 ∷ []) [] (function (codes "main") 5 [] int (Block (at 15) Written (0 ∷ []) (these
    (Declare (at 20) 0 (Store 0 int (number 22 0) ∷ []) false
    ∷ For (at 24) [] none None None (Block (at 31) Written [] (these
    (Expr (at 33) (set 33 (variable 32 0 int) (add 35 (read 34 0 int) (number 36 1)))
    ∷ If (at 38) (equal 42 (read 41 0 int) (number 44 3)) (Block (at 46) Added [] (these
    (Break (at 46) ∷ []))) (Block (at 38) Added [] none) ∷ [])))
    ∷ Return (at 53) (Some (read 60 0 int)) ∷ []))) ∷ [])

-- `int main(void){int n=0;for(int i=0;i<3;i++){for(int j=0;j<3;j++){if(j==i)break;n=n+1;}}return n;}`: a break leaves the inner loop alone
abbrev pub nested : TProgramTree
nested =
    program [] (local 20 int 4 ∷ local 32 int 4 ∷ local 53 int 4 ∷ []) [] (function (codes "main") 5 [] int (Block (at 15) Written (0 ∷ []) (these
    (Declare (at 20) 0 (Store 0 int (number 22 0) ∷ []) false
    ∷ For (at 24) (1 ∷ []) (these
    (Declare (at 32) 1 (Store 0 int (number 34 0) ∷ []) false ∷ [])) (Some (less 37 (read 36 1 int) (number 38 3))) (Some (Step (at 41) times.After
    ways.Up (strides.Int ints.Int) (variable 40 1 int))) (Block (at 44) Written [] (these
    (For (at 45) (2 ∷ []) (these
    (Declare (at 53) 2 (Store 0 int (number 55 0) ∷ []) false ∷ [])) (Some (less 58 (read 57 2 int) (number 59 3))) (Some (Step (at 62) times.After
    ways.Up (strides.Int ints.Int) (variable 61 2 int))) (Block (at 65) Written [] (these
    (If (at 66) (equal 70 (read 69 2 int) (read 72 1 int)) (Block (at 74) Added [] (these
    (Break (at 74) ∷ []))) (Block (at 66) Added [] none)
    ∷ Expr (at 81) (set 81 (variable 80 0 int) (add 83 (read 82 0 int) (number 84 1))) ∷ []))) ∷ [])))
    ∷ Return (at 88) (Some (read 95 0 int)) ∷ []))) ∷ [])

-- `int main(void){int s=0;for(int i=0;i<4;i++){switch(i){case 1:continue;case 2:s=s+10;break;default:s=s+1;}s=s+100;}return s;}`: a continue leaves the switch too
abbrev pub switch_loop : TProgramTree
switch_loop =
    program [] (local 20 int 4 ∷ local 32 int 4 ∷ []) [] (function (codes "main") 5 [] int (Block (at 15) Written (0 ∷ []) (these
    (Declare (at 20) 0 (Store 0 int (number 22 0) ∷ []) false
    ∷ For (at 24) (1 ∷ []) (these
    (Declare (at 32) 1 (Store 0 int (number 34 0) ∷ []) false ∷ [])) (Some (less 37 (read 36 1 int) (number 38 4))) (Some (Step (at 41) times.After
    ways.Up (strides.Int ints.Int) (variable 40 1 int))) (Block (at 44) Written [] (these
    (Switch (at 45) (read 52 1 int) Written [] (these
    (Case (at 55) (pos 1)
    ∷ Continue (at 62)
    ∷ Case (at 71) (pos 2)
    ∷ Expr (at 79) (set 79 (variable 78 0 int) (add 81 (read 80 0 int) (number 82 10)))
    ∷ Break (at 85)
    ∷ Default (at 91)
    ∷ Expr (at 100) (set 100 (variable 99 0 int) (add 102 (read 101 0 int) (number 103 1))) ∷ []))
    ∷ Expr (at 107) (set 107 (variable 106 0 int) (add 109 (read 108 0 int) (number 110 100))) ∷ [])))
    ∷ Return (at 115) (Some (read 122 0 int)) ∷ []))) ∷ [])

-- `int main(void){int x=3;switch(x){case 1:x=9;}return x;}`
abbrev pub no_case : TProgramTree
no_case =
    program [] (local 20 int 4 ∷ []) [] (function (codes "main") 5 [] int (Block (at 15) Written (0 ∷ []) (these
    (Declare (at 20) 0 (Store 0 int (number 22 3) ∷ []) false
    ∷ Switch (at 24) (read 31 0 int) Written [] (these
    (Case (at 34) (pos 1)
    ∷ Expr (at 42) (set 42 (variable 41 0 int) (number 43 9)) ∷ []))
    ∷ Return (at 46) (Some (read 53 0 int)) ∷ []))) ∷ [])

-- `int main(void){int s=0;switch(7){case 1:s=1;default:s=s+2;case 2:s=s+4;}return s;}`: the default stands in the middle
abbrev pub middle : TProgramTree
middle =
    program [] (local 20 int 4 ∷ []) [] (function (codes "main") 5 [] int (Block (at 15) Written (0 ∷ []) (these
    (Declare (at 20) 0 (Store 0 int (number 22 0) ∷ []) false
    ∷ Switch (at 24) (number 31 7) Written [] (these
    (Case (at 34) (pos 1)
    ∷ Expr (at 42) (set 42 (variable 41 0 int) (number 43 1))
    ∷ Default (at 45)
    ∷ Expr (at 54) (set 54 (variable 53 0 int) (add 56 (read 55 0 int) (number 57 2)))
    ∷ Case (at 59) (pos 2)
    ∷ Expr (at 67) (set 67 (variable 66 0 int) (add 69 (read 68 0 int) (number 70 4))) ∷ []))
    ∷ Return (at 73) (Some (read 80 0 int)) ∷ []))) ∷ [])

-- `int main(void){switch(1){int y;case 1:y=4;return y;}return 0;}`: the declaration is skipped, and y lives
abbrev pub skipped : TProgramTree
skipped =
    program [] (local 30 int 4 ∷ []) [] (function (codes "main") 5 [] int (Block (at 15) Written [] (these
    (Switch (at 16) (number 23 1) Written (0 ∷ []) (these
    (Declare (at 30) 0 [] false
    ∷ Case (at 32) (pos 1)
    ∷ Expr (at 40) (set 40 (variable 39 0 int) (number 41 4))
    ∷ Return (at 43) (Some (read 50 0 int)) ∷ []))
    ∷ Return (at 53) (Some (number 60 0)) ∷ []))) ∷ [])

-- `int main(void){int n=0;{n=1;{goto end;}n=2;}end:return n;}`
abbrev pub outward : TProgramTree
outward =
    program [] (local 20 int 4 ∷ []) [] (function (codes "main") 5 [] int (Block (at 15) Written (0 ∷ []) (these
    (Declare (at 20) 0 (Store 0 int (number 22 0) ∷ []) false
    ∷ Block (at 24) Written [] (these
    (Expr (at 26) (set 26 (variable 25 0 int) (number 27 1))
    ∷ Block (at 29) Written [] (these
    (Goto (at 30) 0 ∷ []))
    ∷ Expr (at 41) (set 41 (variable 40 0 int) (number 42 2)) ∷ []))
    ∷ Label (at 45) 0
    ∷ Return (at 49) (Some (read 56 0 int)) ∷ []))) ∷ [])

-- `int main(void){int n=0;again:{int x=n;if(x<3){n=x+1;goto again;}}return n;}`: each turn has an x of its own
abbrev pub backward : TProgramTree
backward =
    program [] (local 20 int 4 ∷ local 35 int 4 ∷ []) [] (function (codes "main") 5 [] int (Block (at 15) Written (0 ∷ []) (these
    (Declare (at 20) 0 (Store 0 int (number 22 0) ∷ []) false
    ∷ Label (at 24) 0
    ∷ Block (at 30) Written (1 ∷ []) (these
    (Declare (at 35) 1 (Store 0 int (read 37 0 int) ∷ []) false
    ∷ If (at 39) (less 43 (read 42 1 int) (number 44 3)) (Block (at 46) Written [] (these
    (Expr (at 48) (set 48 (variable 47 0 int) (add 50 (read 49 1 int) (number 51 1)))
    ∷ Goto (at 53) 0 ∷ []))) (Block (at 39) Added [] none) ∷ []))
    ∷ Return (at 66) (Some (read 73 0 int)) ∷ []))) ∷ [])

-- `int main(void){int i=0;while(1){i++;if(i==4)goto out;}out:return i;}`
abbrev pub out_of_loop : TProgramTree
out_of_loop =
    program [] (local 20 int 4 ∷ []) [] (function (codes "main") 5 [] int (Block (at 15) Written (0 ∷ []) (these
    (Declare (at 20) 0 (Store 0 int (number 22 0) ∷ []) false
    ∷ While (at 24) (number 30 1) (Block (at 32) Written [] (these
    (Expr (at 34) (Step (at 34) times.After ways.Up (strides.Int ints.Int) (variable 33 0 int))
    ∷ If (at 37) (equal 41 (read 40 0 int) (number 43 4)) (Block (at 45) Added [] (these
    (Goto (at 45) 0 ∷ []))) (Block (at 37) Added [] none) ∷ [])))
    ∷ Label (at 55) 0
    ∷ Return (at 59) (Some (read 66 0 int)) ∷ []))) ∷ [])

-- `int f(int k){while(1){switch(k){case 0:return 7;default:k=k-1;}}}int main(void){return f(2);}`
abbrev pub returned : TProgramTree
returned =
    program [] (local 11 int 4 ∷ []) [] (function (codes "f") 5 (0 ∷ []) int (Block (at 13) Written [] (these
    (While (at 14) (number 20 1) (Block (at 22) Written [] (these
    (Switch (at 23) (read 30 0 int) Written [] (these
    (Case (at 33) (pos 0)
    ∷ Return (at 40) (Some (number 47 7))
    ∷ Default (at 49)
    ∷ Expr (at 58) (set 58 (variable 57 0 int) (sub 60 (read 59 0 int) (number 61 1))) ∷ [])) ∷ []))) ∷ []))) ∷ function (codes "main") 70 [] int
    (Block (at 80) Written [] (these
    (Return (at 81) (Some (Call (at 88) 0 int true (call_args (number 90 2 ∷ [])))) ∷ []))) ∷ [])

-- what the lowered programs come to
pub record JumpsComeTo : Type 0 where
  pub while_loop_is : comes_to while_loop (0 ∷ []) 0 12 [] ≡ Gave (Some (values.Int ints.Int (pos 8)))
  pub do_loop_is : comes_to do_loop (0 ∷ []) 0 12 [] ≡ Gave (Some (values.Int ints.Int (pos 8)))
  pub do_once_is : comes_to do_once (0 ∷ []) 0 12 [] ≡ Gave (Some (values.Int ints.Int (pos 1)))
  pub for_loop_is : comes_to for_loop (0 ∷ []) 0 12 [] ≡ Gave (Some (values.Int ints.Int (pos 6)))
  pub bare_loop_is : comes_to bare_loop (0 ∷ []) 0 12 [] ≡ Gave (Some (values.Int ints.Int (pos 3)))
  pub nested_is : comes_to nested (0 ∷ []) 0 12 [] ≡ Gave (Some (values.Int ints.Int (pos 3)))
  pub switch_loop_is : comes_to switch_loop (0 ∷ []) 0 12 [] ≡ Gave (Some (values.Int ints.Int (pos 312)))
  pub no_case_is : comes_to no_case (0 ∷ []) 0 12 [] ≡ Gave (Some (values.Int ints.Int (pos 3)))
  pub middle_is : comes_to middle (0 ∷ []) 0 12 [] ≡ Gave (Some (values.Int ints.Int (pos 6)))
  pub skipped_is : comes_to skipped (0 ∷ []) 0 12 [] ≡ Gave (Some (values.Int ints.Int (pos 4)))
  pub outward_is : comes_to outward (0 ∷ []) 0 12 [] ≡ Gave (Some (values.Int ints.Int (pos 1)))
  pub backward_is : comes_to backward (0 ∷ []) 0 12 [] ≡ Gave (Some (values.Int ints.Int (pos 3)))
  pub out_of_loop_is : comes_to out_of_loop (0 ∷ []) 0 12 [] ≡ Gave (Some (values.Int ints.Int (pos 4)))
  pub returned_is : comes_to returned (0 ∷ 1 ∷ []) 1 12 [] ≡ Gave (Some (values.Int ints.Int (pos 7)))
