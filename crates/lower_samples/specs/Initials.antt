-- Initialisers of each form, and struct copies. Each program comes to what was worked out by hand from its text.
use Rattle.std.specs.Prelude.{◌≡◌, pos, true, false, [], ◌∷◌, Some, codes}
use Rattle.c_syntax_written.specs.declared.int_type.IntType.TheVariants as ints
use Rattle.c_syntax_written.specs.declared.step.StepWay.TheVariants as ways
use Rattle.c_syntax.specs.declared.operator.Comparison.TheVariants as compare
use Rattle.c_syntax.specs.declared.operator.DerefKind.TheVariants as derefs
use Rattle.c_syntax.specs.declared.operator.Stride.TheVariants as strides
use Rattle.c_syntax.specs.declared.operator.StepTime.TheVariants as times
use Rattle.c_syntax.specs.declared.operator.TBinaryOp.TheVariants as binaries
use Rattle.c_syntax.specs.declared.statement.BlockKind.TheVariants.{Written}
use Rattle.c_syntax.specs.Types.{Int, Array, Struct}
use Rattle.c_syntax.specs.TypedExpr.{Null, Load, AddressOf, Decay, Whole, Binary, Convert, AssignStruct, Step, And, Cond, Any, Deref, Member}
use Rattle.c_syntax.specs.TypedStmt.{Store, Copy, Expr, Block, Declare, For, Return}
use Rattle.c_syntax.specs.Program.{TProgramTree}
use Rattle.block_mem.specs.declared.types.Value.TheVariants as values
use Rattle.lower_trees.specs.Samples.{at, int, int_pointer, char_pointer, local, static, function, number, variable, read, Gave, comes_to}
use Rattle.lower_samples.specs.Parts.{these, add, mul, less, set, extent, literal, bytes_given, member, struct_of, program}

-- `int main(void){char a[4]={1,2};return a[0]+a[1]*10+a[3];}`
abbrev pub chars : TProgramTree
chars =
    program [] (local 21 (Array (Int ints.Char) false 4) 4 ∷ []) [] (function (codes "main") 5 [] int (Block (at 15) Written (0 ∷ []) (these
    (Declare (at 21) 0 (Store 0 (Int ints.Char) (Convert (at 27) (Int ints.Char) (number 27 1)) ∷ Store 1 (Int ints.Char) (Convert (at 29) (Int
    ints.Char) (number 29 2)) ∷ []) true
    ∷ Return (at 32) (Some (add 51 (add 43 (Convert (at 40) int (Load (at 40) (Deref (at 40) derefs.Index (Int ints.Char) false (Binary (at 40)
    (binaries.PointerPlusInt 1) (Decay (at 39) (variable 39 0 (Array (Int ints.Char) false 4))) (number 41 0))))) (mul 48 (Convert (at 45) int (Load
    (at 45) (Deref (at 45) derefs.Index (Int ints.Char) false (Binary (at 45) (binaries.PointerPlusInt 1) (Decay (at 44) (variable 44 0 (Array (Int
    ints.Char) false 4))) (number 46 1))))) (number 49 10))) (Convert (at 53) int (Load (at 53) (Deref (at 53) derefs.Index (Int ints.Char) false
    (Binary (at 53) (binaries.PointerPlusInt 1) (Decay (at 52) (variable 52 0 (Array (Int ints.Char) false 4))) (number 54 3))))))) ∷ []))) ∷ [])

-- `struct S{char c;int n;};int main(void){struct S a[2]={{1,2},{3}};return a[0].c+a[0].n*10+a[1].c*100+a[1].n;}`
abbrev pub structs : TProgramTree
structs =
    program (struct_of (member (Int ints.Char) 0 ∷ member int 4 ∷ []) 8 4 ∷ []) (local 49 (Array (Struct 0) false 2) 16 ∷ []) [] (function (codes
    "main") 29 [] int (Block (at 39) Written (0 ∷ []) (these
    (Declare (at 49) 0 (Store 0 (Int ints.Char) (Convert (at 56) (Int ints.Char) (number 56 1)) ∷ Store 4 int (number 58 2) ∷ Store 8 (Int ints.Char)
    (Convert (at 62) (Int ints.Char) (number 62 3)) ∷ []) true
    ∷ Return (at 66) (Some (add 100 (add 89 (add 79 (Convert (at 77) int (Load (at 77) (Member (at 77) 0 0 (Int ints.Char) false (Deref (at 74)
    derefs.Index (Struct 0) false (Binary (at 74) (binaries.PointerPlusInt 8) (Decay (at 73) (variable 73 0 (Array (Struct 0) false 2))) (number 75
    0)))))) (mul 86 (Load (at 84) (Member (at 84) 1 4 int false (Deref (at 81) derefs.Index (Struct 0) false (Binary (at 81) (binaries.PointerPlusInt
    8) (Decay (at 80) (variable 80 0 (Array (Struct 0) false 2))) (number 82 0))))) (number 87 10))) (mul 96 (Convert (at 94) int (Load (at 94)
    (Member (at 94) 0 0 (Int ints.Char) false (Deref (at 91) derefs.Index (Struct 0) false (Binary (at 91) (binaries.PointerPlusInt 8) (Decay (at 90)
    (variable 90 0 (Array (Struct 0) false 2))) (number 92 1)))))) (number 97 100))) (Load (at 105) (Member (at 105) 1 4 int false (Deref (at 102)
    derefs.Index (Struct 0) false (Binary (at 102) (binaries.PointerPlusInt 8) (Decay (at 101) (variable 101 0 (Array (Struct 0) false 2))) (number
    103 1))))))) ∷ []))) ∷ [])

-- `int main(void){int x=3;int *a[2]={&x};return *a[0]+(a[1]==0);}`: the rest is null
abbrev pub pointers : TProgramTree
pointers =
    program [] (local 20 int 4 ∷ local 29 (Array int_pointer false 2) 16 ∷ []) [] (function (codes "main") 5 [] int (Block (at 15) Written (0 ∷ 1 ∷
    []) (these
    (Declare (at 20) 0 (Store 0 int (number 22 3) ∷ []) false
    ∷ Declare (at 29) 1 (Store 0 int_pointer (AddressOf (at 35) (variable 36 0 int)) ∷ []) true
    ∷ Return (at 39) (Some (add 51 (Load (at 46) (Deref (at 46) derefs.Star int false (Load (at 48) (Deref (at 48) derefs.Index int_pointer false
    (Binary (at 48) (binaries.PointerPlusInt 8) (Decay (at 47) (variable 47 1 (Array int_pointer false 2))) (number 49 0)))))) (Binary (at 57)
    (binaries.ComparePointers compare.Equal) (Load (at 54) (Deref (at 54) derefs.Index int_pointer false (Binary (at 54) (binaries.PointerPlusInt 8)
    (Decay (at 53) (variable 53 1 (Array int_pointer false 2))) (number 55 1)))) (Null (at 59) int_pointer)))) ∷ []))) ∷ [])

-- `struct S{char c;long n;int *p;};int main(void){struct S s={1};return s.n==0&&s.p==0;}`
abbrev pub mixed : TProgramTree
mixed =
    program (struct_of (member (Int ints.Char) 0 ∷ member (Int ints.Long) 8 ∷ member int_pointer 16 ∷ []) 24 8 ∷ []) (local 57 (Struct 0) 24 ∷ []) []
    (function (codes "main") 37 [] int (Block (at 47) Written (0 ∷ []) (these
    (Declare (at 57) 0 (Store 0 (Int ints.Char) (Convert (at 60) (Int ints.Char) (number 60 1)) ∷ []) true
    ∷ Return (at 63) (Some (And (at 76) (Binary (at 73) (binaries.CompareInts compare.Equal ints.Long) (Load (at 71) (Member (at 71) 1 8 (Int
    ints.Long) false (variable 70 0 (Struct 0)))) (Convert (at 75) (Int ints.Long) (number 75 0))) (Binary (at 81) (binaries.ComparePointers
    compare.Equal) (Load (at 79) (Member (at 79) 2 16 int_pointer false (variable 78 0 (Struct 0)))) (Null (at 83) int_pointer)))) ∷ []))) ∷ [])

-- `struct S{int a;int b;};struct P{int x;struct S s;};int main(void){struct S t={7,8};struct P p={1,t};return p.x*100+p.s.a*10+p.s.b;}`: a struct is an item of a list
abbrev pub item : TProgramTree
item =
    program (struct_of (member int 0 ∷ member int 4 ∷ []) 8 4 ∷ struct_of (member int 0 ∷ member (Struct 0) 4 ∷ []) 12 4 ∷ []) (local 76 (Struct 0) 8
    ∷ local 93 (Struct 1) 12 ∷ []) [] (function (codes "main") 56 [] int (Block (at 66) Written (0 ∷ 1 ∷ []) (these
    (Declare (at 76) 0 (Store 0 int (number 79 7) ∷ Store 4 int (number 81 8) ∷ []) true
    ∷ Declare (at 93) 1 (Store 0 int (number 96 1) ∷ Copy 4 (extent 8 4) (Whole (at 98) (variable 98 0 (Struct 0))) ∷ []) true
    ∷ Return (at 101) (Some (add 124 (add 115 (mul 111 (Load (at 109) (Member (at 109) 0 0 int false (variable 108 1 (Struct 1)))) (number 112 100))
    (mul 121 (Load (at 119) (Member (at 119) 0 0 int false (Member (at 117) 1 4 (Struct 0) false (variable 116 1 (Struct 1))))) (number 122 10)))
    (Load (at 128) (Member (at 128) 1 4 int false (Member (at 126) 1 4 (Struct 0) false (variable 125 1 (Struct 1))))))) ∷ []))) ∷ [])

-- `int main(void){int s=0;for(int i=0;i<3;i++){int a[2]={i};s=s+a[0]+a[1];a[1]=9;}return s;}`: each turn makes a anew
abbrev pub each_turn : TProgramTree
each_turn =
    program [] (local 20 int 4 ∷ local 32 int 4 ∷ local 49 (Array int false 2) 8 ∷ []) [] (function (codes "main") 5 [] int (Block (at 15) Written (0
    ∷ []) (these
    (Declare (at 20) 0 (Store 0 int (number 22 0) ∷ []) false
    ∷ For (at 24) (1 ∷ []) (these
    (Declare (at 32) 1 (Store 0 int (number 34 0) ∷ []) false ∷ [])) (Some (less 37 (read 36 1 int) (number 38 3))) (Some (Step (at 41) times.After
    ways.Up (strides.Int ints.Int) (variable 40 1 int))) (Block (at 44) Written (2 ∷ []) (these
    (Declare (at 49) 2 (Store 0 int (read 55 1 int) ∷ []) true
    ∷ Expr (at 59) (set 59 (variable 58 0 int) (add 66 (add 61 (read 60 0 int) (Load (at 63) (Deref (at 63) derefs.Index int false (Binary (at 63)
    (binaries.PointerPlusInt 4) (Decay (at 62) (variable 62 2 (Array int false 2))) (number 64 0))))) (Load (at 68) (Deref (at 68) derefs.Index int
    false (Binary (at 68) (binaries.PointerPlusInt 4) (Decay (at 67) (variable 67 2 (Array int false 2))) (number 69 1))))))
    ∷ Expr (at 76) (set 76 (Deref (at 73) derefs.Index int false (Binary (at 73) (binaries.PointerPlusInt 4) (Decay (at 72) (variable 72 2 (Array int
    false 2))) (number 74 1))) (number 77 9)) ∷ [])))
    ∷ Return (at 80) (Some (read 87 0 int)) ∷ []))) ∷ [])

-- `int main(void){char *p="ab";return p[0]+p[1]+p[2];}`
abbrev pub literal_text : TProgramTree
literal_text =
    program [] (local 22 char_pointer 8 ∷ literal 24 3 ∷ []) (bytes_given 1 (97 ∷ 98 ∷ 0 ∷ []) ∷ []) (function (codes "main") 5 [] int (Block (at 15)
    Written (0 ∷ []) (these
    (Declare (at 22) 0 (Store 0 char_pointer (Decay (at 24) (variable 24 1 (Array (Int ints.Char) false 3))) ∷ []) false
    ∷ Return (at 29) (Some (add 45 (add 40 (Convert (at 37) int (Load (at 37) (Deref (at 37) derefs.Index (Int ints.Char) false (Binary (at 37)
    (binaries.PointerPlusInt 1) (read 36 0 char_pointer) (number 38 0))))) (Convert (at 42) int (Load (at 42) (Deref (at 42) derefs.Index (Int
    ints.Char) false (Binary (at 42) (binaries.PointerPlusInt 1) (read 41 0 char_pointer) (number 43 1)))))) (Convert (at 47) int (Load (at 47) (Deref
    (at 47) derefs.Index (Int ints.Char) false (Binary (at 47) (binaries.PointerPlusInt 1) (read 46 0 char_pointer) (number 48 2))))))) ∷ []))) ∷ [])

-- `int g=5;int main(void){g=g+2;return g;}`
abbrev pub file_scope : TProgramTree
file_scope =
    program [] (static 5 int 4 ∷ []) (bytes_given 0 (5 ∷ 0 ∷ 0 ∷ 0 ∷ []) ∷ []) (function (codes "main") 13 [] int (Block (at 23) Written [] (these
    (Expr (at 25) (set 25 (variable 24 0 int) (add 27 (read 26 0 int) (number 28 2)))
    ∷ Return (at 30) (Some (read 37 0 int)) ∷ []))) ∷ [])

-- `struct S{int a;int b;};int main(void){struct S s={1,2};struct S t={3,4};int c=__any_int();struct S u=c?s:t;return u.a*10+u.b;}`
abbrev pub chosen : TProgramTree
chosen =
    program (struct_of (member int 0 ∷ member int 4 ∷ []) 8 4 ∷ []) (local 48 (Struct 0) 8 ∷ local 65 (Struct 0) 8 ∷ local 77 int 4 ∷ local 100
    (Struct 0) 8 ∷ []) [] (function (codes "main") 28 [] int (Block (at 38) Written (0 ∷ 1 ∷ 2 ∷ 3 ∷ []) (these
    (Declare (at 48) 0 (Store 0 int (number 51 1) ∷ Store 4 int (number 53 2) ∷ []) true
    ∷ Declare (at 65) 1 (Store 0 int (number 68 3) ∷ Store 4 int (number 70 4) ∷ []) true
    ∷ Declare (at 77) 2 (Store 0 int (Any (at 79) ints.Int) ∷ []) false
    ∷ Declare (at 100) 3 (Copy 0 (extent 8 4) (Cond (at 103) (Struct 0) (read 102 2 int) (Whole (at 104) (variable 104 0 (Struct 0))) (Whole (at 106)
    (variable 106 1 (Struct 0)))) ∷ []) false
    ∷ Return (at 108) (Some (add 121 (mul 118 (Load (at 116) (Member (at 116) 0 0 int false (variable 115 3 (Struct 0)))) (number 119 10)) (Load (at
    123) (Member (at 123) 1 4 int false (variable 122 3 (Struct 0)))))) ∷ []))) ∷ [])

-- `struct S{int a;};int main(void){struct S s={6};struct S t;struct S u;u=t=s;return u.a+t.a;}`
abbrev pub chain : TProgramTree
chain =
    program (struct_of (member int 0 ∷ []) 4 4 ∷ []) (local 42 (Struct 0) 4 ∷ local 57 (Struct 0) 4 ∷ local 68 (Struct 0) 4 ∷ []) [] (function (codes
    "main") 22 [] int (Block (at 32) Written (0 ∷ 1 ∷ 2 ∷ []) (these
    (Declare (at 42) 0 (Store 0 int (number 45 6) ∷ []) true
    ∷ Declare (at 57) 1 [] false
    ∷ Declare (at 68) 2 [] false
    ∷ Expr (at 71) (AssignStruct (at 71) (extent 4 4) (variable 70 2 (Struct 0)) (AssignStruct (at 73) (extent 4 4) (variable 72 1 (Struct 0)) (Whole
    (at 74) (variable 74 0 (Struct 0)))))
    ∷ Return (at 76) (Some (add 86 (Load (at 84) (Member (at 84) 0 0 int false (variable 83 2 (Struct 0)))) (Load (at 88) (Member (at 88) 0 0 int
    false (variable 87 1 (Struct 0)))))) ∷ []))) ∷ [])

-- what the lowered programs come to
pub record InitialsComeTo : Type 0 where
  pub chars_is : comes_to chars (0 ∷ []) 0 12 [] ≡ Gave (Some (values.Int ints.Int (pos 21)))
  pub structs_is : comes_to structs (0 ∷ []) 0 12 [] ≡ Gave (Some (values.Int ints.Int (pos 321)))
  pub pointers_is : comes_to pointers (0 ∷ []) 0 12 [] ≡ Gave (Some (values.Int ints.Int (pos 4)))
  pub mixed_is : comes_to mixed (0 ∷ []) 0 12 [] ≡ Gave (Some (values.Int ints.Int (pos 1)))
  pub item_is : comes_to item (0 ∷ []) 0 12 [] ≡ Gave (Some (values.Int ints.Int (pos 178)))
  pub each_turn_is : comes_to each_turn (0 ∷ []) 0 12 [] ≡ Gave (Some (values.Int ints.Int (pos 3)))
  pub literal_text_is : comes_to literal_text (0 ∷ []) 0 12 [] ≡ Gave (Some (values.Int ints.Int (pos 195)))
  pub file_scope_is : comes_to file_scope (0 ∷ []) 0 12 [] ≡ Gave (Some (values.Int ints.Int (pos 7)))
  pub chosen_is_first : comes_to chosen (0 ∷ []) 0 12 (pos 1 ∷ []) ≡ Gave (Some (values.Int ints.Int (pos 12)))
  pub chosen_is_second : comes_to chosen (0 ∷ []) 0 12 (pos 0 ∷ []) ≡ Gave (Some (values.Int ints.Int (pos 34)))
  pub chain_is : comes_to chain (0 ∷ []) 0 12 [] ≡ Gave (Some (values.Int ints.Int (pos 12)))
