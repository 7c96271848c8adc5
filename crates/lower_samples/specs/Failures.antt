-- Each kind of failed check, at its place and with its operand. Each program comes to what was worked out by hand from its text.
use Rattle.std.specs.Prelude.{◌≡◌, pos, true, false, [], ◌∷◌, Some, codes}
use Rattle.c_syntax_written.specs.declared.int_type.IntType.TheVariants as ints
use Rattle.c_syntax_written.specs.declared.step.StepWay.TheVariants as ways
use Rattle.c_syntax.specs.declared.alarm.WrongKind.TheVariants as kinds
use Rattle.c_syntax.specs.declared.alarm.Spot.TheVariants as spots
use Rattle.c_syntax.specs.declared.operator.Arithmetic.TheVariants as arithmetic
use Rattle.c_syntax.specs.declared.operator.Comparison.TheVariants as compare
use Rattle.c_syntax.specs.declared.operator.DerefKind.TheVariants as derefs
use Rattle.c_syntax.specs.declared.operator.Shift.TheVariants as shifts
use Rattle.c_syntax.specs.declared.operator.Stride.TheVariants as strides
use Rattle.c_syntax.specs.declared.operator.StepTime.TheVariants as times
use Rattle.c_syntax.specs.declared.operator.TUnaryOp.TheVariants as unaries
use Rattle.c_syntax.specs.declared.operator.TBinaryOp.TheVariants as binaries
use Rattle.c_syntax.specs.declared.statement.BlockKind.TheVariants.{Written, Added}
use Rattle.c_syntax.specs.Types.{Int, Pointer, Array, Struct}
use Rattle.c_syntax.specs.Operand.{Number, Point, Points, Mark}
use Rattle.c_syntax.specs.Operand as operands
use Rattle.c_syntax.specs.TypedExpr.{Null, Load, AddressOf, Decay, Whole, Unary, Binary, Convert, AssignStruct, Compound, Step, And, Call, Assert, Deref, Member}
use Rattle.c_syntax.specs.TypedStmt.{Store, Expr, Block, Declare, If, Return, none}
use Rattle.c_syntax.specs.Program.{TProgramTree}
use Rattle.lower_trees.specs.Samples.{at, int, int_pointer, char_pointer, local, function, number, variable, read, Failed, comes_to}
use Rattle.lower_samples.specs.Parts.{these, call_args, sub, mul, div, rem, equal, set, extent, literal, bytes_given, member, struct_of, program}

-- `int main(void){int x=-2147483647-1;return x/-1;}` divides the least int by -1
abbrev pub quotient : TProgramTree
quotient =
    program [] (local 20 int 4 ∷ []) [] (function (codes "main") 5 [] int (Block (at 15) Written (0 ∷ []) (these
    (Declare (at 20) 0 (Store 0 int (sub 33 (Unary (at 22) (unaries.Minus ints.Int) (number 23 2147483647)) (number 34 1)) ∷ []) false
    ∷ Return (at 36) (Some (div 44 (read 43 0 int) (Unary (at 45) (unaries.Minus ints.Int) (number 46 1)))) ∷ []))) ∷ [])

-- `int main(void){int x=-2147483647-1;return -x;}` has no int of that size
abbrev pub minus : TProgramTree
minus =
    program [] (local 20 int 4 ∷ []) [] (function (codes "main") 5 [] int (Block (at 15) Written (0 ∷ []) (these
    (Declare (at 20) 0 (Store 0 int (sub 33 (Unary (at 22) (unaries.Minus ints.Int) (number 23 2147483647)) (number 34 1)) ∷ []) false
    ∷ Return (at 36) (Some (Unary (at 43) (unaries.Minus ints.Int) (read 44 0 int))) ∷ []))) ∷ [])

-- `int main(void){int x=32;return 1<<x;}` shifts by as many bits as an int has
abbrev pub amount : TProgramTree
amount =
    program [] (local 20 int 4 ∷ []) [] (function (codes "main") 5 [] int (Block (at 15) Written (0 ∷ []) (these
    (Declare (at 20) 0 (Store 0 int (number 22 32) ∷ []) false
    ∷ Return (at 25) (Some (Binary (at 33) (binaries.Shift shifts.Left ints.Int) (number 32 1) (read 35 0 int))) ∷ []))) ∷ [])

-- `int main(void){int x=31;return 1<<x;}` shifts into the sign
abbrev pub top_bit : TProgramTree
top_bit =
    program [] (local 20 int 4 ∷ []) [] (function (codes "main") 5 [] int (Block (at 15) Written (0 ∷ []) (these
    (Declare (at 20) 0 (Store 0 int (number 22 31) ∷ []) false
    ∷ Return (at 25) (Some (Binary (at 33) (binaries.Shift shifts.Left ints.Int) (number 32 1) (read 35 0 int))) ∷ []))) ∷ [])

-- `int main(void){int x=65536;return x*x;}`
abbrev pub product : TProgramTree
product =
    program [] (local 20 int 4 ∷ []) [] (function (codes "main") 5 [] int (Block (at 15) Written (0 ∷ []) (these
    (Declare (at 20) 0 (Store 0 int (number 22 65536) ∷ []) false
    ∷ Return (at 28) (Some (mul 36 (read 35 0 int) (read 37 0 int))) ∷ []))) ∷ [])

-- `int main(void){int x=0;return 7%x;}`
abbrev pub remainder : TProgramTree
remainder =
    program [] (local 20 int 4 ∷ []) [] (function (codes "main") 5 [] int (Block (at 15) Written (0 ∷ []) (these
    (Declare (at 20) 0 (Store 0 int (number 22 0) ∷ []) false
    ∷ Return (at 24) (Some (rem 32 (number 31 7) (read 33 0 int))) ∷ []))) ∷ [])

-- `int main(void){int x=2147483647;x+=1;return x;}` is wrong at the operator
abbrev pub added_to : TProgramTree
added_to =
    program [] (local 20 int 4 ∷ []) [] (function (codes "main") 5 [] int (Block (at 15) Written (0 ∷ []) (these
    (Declare (at 20) 0 (Store 0 int (number 22 2147483647) ∷ []) false
    ∷ Expr (at 34) (Compound (at 34) (binaries.Arithmetic arithmetic.Add ints.Int) (variable 33 0 int) (number 36 1))
    ∷ Return (at 38) (Some (read 45 0 int)) ∷ []))) ∷ [])

-- `int main(void){int x=2147483647;x++;return x;}`
abbrev pub stepped : TProgramTree
stepped =
    program [] (local 20 int 4 ∷ []) [] (function (codes "main") 5 [] int (Block (at 15) Written (0 ∷ []) (these
    (Declare (at 20) 0 (Store 0 int (number 22 2147483647) ∷ []) false
    ∷ Expr (at 34) (Step (at 34) times.After ways.Up (strides.Int ints.Int) (variable 33 0 int))
    ∷ Return (at 37) (Some (read 44 0 int)) ∷ []))) ∷ [])

-- `int main(void){int *p=0;return *p;}`
abbrev pub null_load : TProgramTree
null_load =
    program [] (local 21 int_pointer 8 ∷ []) [] (function (codes "main") 5 [] int (Block (at 15) Written (0 ∷ []) (these
    (Declare (at 21) 0 (Store 0 int_pointer (Null (at 23) int_pointer) ∷ []) false
    ∷ Return (at 25) (Some (Load (at 32) (Deref (at 32) derefs.Star int false (read 33 0 int_pointer)))) ∷ []))) ∷ [])

-- `int main(void){int *p=0;*p=1;return 0;}`
abbrev pub null_store : TProgramTree
null_store =
    program [] (local 21 int_pointer 8 ∷ []) [] (function (codes "main") 5 [] int (Block (at 15) Written (0 ∷ []) (these
    (Declare (at 21) 0 (Store 0 int_pointer (Null (at 23) int_pointer) ∷ []) false
    ∷ Expr (at 27) (set 27 (Deref (at 25) derefs.Star int false (read 26 0 int_pointer)) (number 28 1))
    ∷ Return (at 30) (Some (number 37 0)) ∷ []))) ∷ [])

-- `struct S{int a;int b;};int main(void){struct S *p=0;return p->b;}` is wrong at the member
abbrev pub null_member : TProgramTree
null_member =
    program (struct_of (member int 0 ∷ member int 4 ∷ []) 8 4 ∷ []) (local 49 (Pointer (Struct 0) false) 8 ∷ []) [] (function (codes "main") 28 [] int
    (Block (at 38) Written (0 ∷ []) (these
    (Declare (at 49) 0 (Store 0 (Pointer (Struct 0) false) (Null (at 51) (Pointer (Struct 0) false)) ∷ []) false
    ∷ Return (at 53) (Some (Load (at 61) (Member (at 61) 1 4 int false (Deref (at 61) derefs.Arrow (Struct 0) false (read 60 0 (Pointer (Struct 0)
    false)))))) ∷ []))) ∷ [])

-- `int main(void){int *p=0;int x=0;*p=1/x;return 0;}`: the value comes before the store
abbrev pub value_first : TProgramTree
value_first =
    program [] (local 21 int_pointer 8 ∷ local 29 int 4 ∷ []) [] (function (codes "main") 5 [] int (Block (at 15) Written (0 ∷ 1 ∷ []) (these
    (Declare (at 21) 0 (Store 0 int_pointer (Null (at 23) int_pointer) ∷ []) false
    ∷ Declare (at 29) 1 (Store 0 int (number 31 0) ∷ []) false
    ∷ Expr (at 35) (set 35 (Deref (at 33) derefs.Star int false (read 34 0 int_pointer)) (div 37 (number 36 1) (read 38 1 int)))
    ∷ Return (at 40) (Some (number 47 0)) ∷ []))) ∷ [])

-- `int main(void){int x;return x;}`
abbrev pub unset : TProgramTree
unset =
    program [] (local 20 int 4 ∷ []) [] (function (codes "main") 5 [] int (Block (at 15) Written (0 ∷ []) (these
    (Declare (at 20) 0 [] false
    ∷ Return (at 22) (Some (read 29 0 int)) ∷ []))) ∷ [])

-- `int main(void){char a[8]={0};int *p=(int*)(a+1);return *p;}` loads an int at an odd byte
abbrev pub odd : TProgramTree
odd =
    program [] (local 21 (Array (Int ints.Char) false 8) 8 ∷ local 35 int_pointer 8 ∷ []) [] (function (codes "main") 5 [] int (Block (at 15) Written
    (0 ∷ 1 ∷ []) (these
    (Declare (at 21) 0 (Store 0 (Int ints.Char) (Convert (at 27) (Int ints.Char) (number 27 0)) ∷ []) true
    ∷ Declare (at 35) 1 (Store 0 int_pointer (Convert (at 37) int_pointer (Binary (at 45) (binaries.PointerPlusInt 1) (Decay (at 44) (variable 44 0
    (Array (Int ints.Char) false 8))) (number 46 1))) ∷ []) false
    ∷ Return (at 49) (Some (Load (at 56) (Deref (at 56) derefs.Star int false (read 57 1 int_pointer)))) ∷ []))) ∷ [])

-- `int main(void){int x=1;int *p=&x;return *(int*)&p;}` loads an int of the bytes of a pointer
abbrev pub half : TProgramTree
half =
    program [] (local 20 int 4 ∷ local 29 int_pointer 8 ∷ []) [] (function (codes "main") 5 [] int (Block (at 15) Written (0 ∷ 1 ∷ []) (these
    (Declare (at 20) 0 (Store 0 int (number 22 1) ∷ []) false
    ∷ Declare (at 29) 1 (Store 0 int_pointer (AddressOf (at 31) (variable 32 0 int)) ∷ []) false
    ∷ Return (at 34) (Some (Load (at 41) (Deref (at 41) derefs.Star int false (Convert (at 42) int_pointer (AddressOf (at 48) (variable 49 1
    int_pointer)))))) ∷ []))) ∷ [])

-- `int main(void){char *p="a";*p=98;return 0;}` stores into a string literal
abbrev pub text : TProgramTree
text =
    program [] (local 22 char_pointer 8 ∷ literal 24 2 ∷ []) (bytes_given 1 (97 ∷ 0 ∷ []) ∷ []) (function (codes "main") 5 [] int (Block (at 15)
    Written (0 ∷ []) (these
    (Declare (at 22) 0 (Store 0 char_pointer (Decay (at 24) (variable 24 1 (Array (Int ints.Char) false 2))) ∷ []) false
    ∷ Expr (at 30) (set 30 (Deref (at 28) derefs.Star (Int ints.Char) false (read 29 0 char_pointer)) (Convert (at 31) (Int ints.Char) (number 31
    98)))
    ∷ Return (at 34) (Some (number 41 0)) ∷ []))) ∷ [])

-- `int main(void){int a[3]={0};int *p=a+4;return 0;}`
abbrev pub too_far : TProgramTree
too_far =
    program [] (local 20 (Array int false 3) 12 ∷ local 34 int_pointer 8 ∷ []) [] (function (codes "main") 5 [] int (Block (at 15) Written (0 ∷ 1 ∷
    []) (these
    (Declare (at 20) 0 (Store 0 int (number 26 0) ∷ []) true
    ∷ Declare (at 34) 1 (Store 0 int_pointer (Binary (at 37) (binaries.PointerPlusInt 4) (Decay (at 36) (variable 36 0 (Array int false 3))) (number
    38 4)) ∷ []) false
    ∷ Return (at 40) (Some (number 47 0)) ∷ []))) ∷ [])

-- `int main(void){int x=0;int y=0;return &x<&y;}`
abbrev pub two_objects : TProgramTree
two_objects =
    program [] (local 20 int 4 ∷ local 28 int 4 ∷ []) [] (function (codes "main") 5 [] int (Block (at 15) Written (0 ∷ 1 ∷ []) (these
    (Declare (at 20) 0 (Store 0 int (number 22 0) ∷ []) false
    ∷ Declare (at 28) 1 (Store 0 int (number 30 0) ∷ []) false
    ∷ Return (at 32) (Some (Binary (at 41) (binaries.ComparePointers compare.Less) (AddressOf (at 39) (variable 40 0 int)) (AddressOf (at 42)
    (variable 43 1 int)))) ∷ []))) ∷ [])

-- `int main(void){int *p;{int x=1;p=&x;}return p==0;}`
abbrev pub dead_equal : TProgramTree
dead_equal =
    program [] (local 21 int_pointer 8 ∷ local 28 int 4 ∷ []) [] (function (codes "main") 5 [] int (Block (at 15) Written (0 ∷ []) (these
    (Declare (at 21) 0 [] false
    ∷ Block (at 23) Written (1 ∷ []) (these
    (Declare (at 28) 1 (Store 0 int (number 30 1) ∷ []) false
    ∷ Expr (at 33) (set 33 (variable 32 0 int_pointer) (AddressOf (at 34) (variable 35 1 int))) ∷ []))
    ∷ Return (at 38) (Some (Binary (at 46) (binaries.ComparePointers compare.Equal) (read 45 0 int_pointer) (Null (at 48) int_pointer))) ∷ []))) ∷ [])

-- `int main(void){int *p;{int x=1;p=&x;}if(p)return 1;return 0;}` tests at the if
abbrev pub dead_test : TProgramTree
dead_test =
    program [] (local 21 int_pointer 8 ∷ local 28 int 4 ∷ []) [] (function (codes "main") 5 [] int (Block (at 15) Written (0 ∷ []) (these
    (Declare (at 21) 0 [] false
    ∷ Block (at 23) Written (1 ∷ []) (these
    (Declare (at 28) 1 (Store 0 int (number 30 1) ∷ []) false
    ∷ Expr (at 33) (set 33 (variable 32 0 int_pointer) (AddressOf (at 34) (variable 35 1 int))) ∷ []))
    ∷ If (at 38) (read 41 0 int_pointer) (Block (at 43) Added [] (these
    (Return (at 43) (Some (number 50 1)) ∷ []))) (Block (at 38) Added [] none)
    ∷ Return (at 52) (Some (number 59 0)) ∷ []))) ∷ [])

-- `int main(void){int *p;{int x=1;p=&x;}return p&&1;}` tests at the operator
abbrev pub dead_and : TProgramTree
dead_and =
    program [] (local 21 int_pointer 8 ∷ local 28 int 4 ∷ []) [] (function (codes "main") 5 [] int (Block (at 15) Written (0 ∷ []) (these
    (Declare (at 21) 0 [] false
    ∷ Block (at 23) Written (1 ∷ []) (these
    (Declare (at 28) 1 (Store 0 int (number 30 1) ∷ []) false
    ∷ Expr (at 33) (set 33 (variable 32 0 int_pointer) (AddressOf (at 34) (variable 35 1 int))) ∷ []))
    ∷ Return (at 38) (Some (And (at 46) (read 45 0 int_pointer) (number 48 1))) ∷ []))) ∷ [])

-- `struct S{int a;int b;};int main(void){struct S s={1,2};struct S t;struct S *p=&s;t=*(p+1);return 0;}` copies from behind an object
abbrev pub beyond : TProgramTree
beyond =
    program (struct_of (member int 0 ∷ member int 4 ∷ []) 8 4 ∷ []) (local 48 (Struct 0) 8 ∷ local 65 (Struct 0) 8 ∷ local 77 (Pointer (Struct 0)
    false) 8 ∷ []) [] (function (codes "main") 28 [] int (Block (at 38) Written (0 ∷ 1 ∷ 2 ∷ []) (these
    (Declare (at 48) 0 (Store 0 int (number 51 1) ∷ Store 4 int (number 53 2) ∷ []) true
    ∷ Declare (at 65) 1 [] false
    ∷ Declare (at 77) 2 (Store 0 (Pointer (Struct 0) false) (AddressOf (at 79) (variable 80 0 (Struct 0))) ∷ []) false
    ∷ Expr (at 83) (AssignStruct (at 83) (extent 8 4) (variable 82 1 (Struct 0)) (Whole (at 84) (Deref (at 84) derefs.Star (Struct 0) false (Binary
    (at 87) (binaries.PointerPlusInt 8) (read 86 2 (Pointer (Struct 0) false)) (number 88 1)))))
    ∷ Return (at 91) (Some (number 98 0)) ∷ []))) ∷ [])

-- `int main(void){int x=1;__assert(x==2);return 0;}`
abbrev pub asserted : TProgramTree
asserted =
    program [] (local 20 int 4 ∷ []) [] (function (codes "main") 5 [] int (Block (at 15) Written (0 ∷ []) (these
    (Declare (at 20) 0 (Store 0 int (number 22 1) ∷ []) false
    ∷ Expr (at 24) (Assert (at 24) (equal 34 (read 33 0 int) (number 36 2)))
    ∷ Return (at 39) (Some (number 46 0)) ∷ []))) ∷ [])

-- `int g(int x){return 1/x;}int f(int x){return g(x-1);}int main(void){return f(1);}`: the chain has both calls, the outer one first
abbrev pub deep : TProgramTree
deep =
    program [] (local 11 int 4 ∷ local 36 int 4 ∷ []) [] (function (codes "g") 5 (0 ∷ []) int (Block (at 13) Written [] (these
    (Return (at 14) (Some (div 22 (number 21 1) (read 23 0 int))) ∷ []))) ∷ function (codes "f") 30 (1 ∷ []) int (Block (at 38) Written [] (these
    (Return (at 39) (Some (Call (at 46) 0 int true (call_args (sub 49 (read 48 1 int) (number 50 1) ∷ [])))) ∷ []))) ∷ function (codes "main") 58 []
    int (Block (at 68) Written [] (these
    (Return (at 69) (Some (Call (at 76) 1 int true (call_args (number 78 1 ∷ [])))) ∷ []))) ∷ [])

-- what the lowered programs come to
pub record FailuresComeTo : Type 0 where
  pub quotient_is : comes_to quotient (0 ∷ []) 0 12 [] ≡ Failed [] (at 44) kinds.Quotient (Number (pos 2147483648))
  pub minus_is : comes_to minus (0 ∷ []) 0 12 [] ≡ Failed [] (at 43) kinds.Overflow (Number (pos 2147483648))
  pub amount_is : comes_to amount (0 ∷ []) 0 12 [] ≡ Failed [] (at 33) kinds.ShiftAmount (Number (pos 32))
  pub top_bit_is : comes_to top_bit (0 ∷ []) 0 12 [] ≡ Failed [] (at 33) kinds.ShiftResult (Number (pos 2147483648))
  pub product_is : comes_to product (0 ∷ []) 0 12 [] ≡ Failed [] (at 36) kinds.Overflow (Number (pos 4294967296))
  pub remainder_is : comes_to remainder (0 ∷ []) 0 12 [] ≡ Failed [] (at 32) kinds.DivideByZero (Number (pos 0))
  pub added_to_is : comes_to added_to (0 ∷ []) 0 12 [] ≡ Failed [] (at 34) kinds.Overflow (Number (pos 2147483648))
  pub stepped_is : comes_to stepped (0 ∷ []) 0 12 [] ≡ Failed [] (at 34) kinds.Overflow (Number (pos 2147483648))
  pub null_load_is : comes_to null_load (0 ∷ []) 0 12 [] ≡ Failed [] (at 32) kinds.NullUse (Point spots.Null)
  pub null_store_is : comes_to null_store (0 ∷ []) 0 12 [] ≡ Failed [] (at 25) kinds.NullUse (Point spots.Null)
  pub null_member_is : comes_to null_member (0 ∷ []) 0 12 [] ≡ Failed [] (at 61) kinds.NullUse (Point spots.Null)
  pub value_first_is : comes_to value_first (0 ∷ []) 0 12 [] ≡ Failed [] (at 37) kinds.DivideByZero (Number (pos 0))
  pub unset_is : comes_to unset (0 ∷ []) 0 12 [] ≡ Failed [] (at 29) kinds.Indeterminate (Mark operands.Undef)
  pub odd_is : comes_to odd (0 ∷ []) 0 12 [] ≡ Failed [] (at 56) kinds.Alignment (Point (spots.At 0 (pos 1)))
  pub half_is : comes_to half (0 ∷ []) 0 12 [] ≡ Failed [] (at 41) kinds.Fragment (Mark operands.Broken)
  pub text_is : comes_to text (0 ∷ []) 0 12 [] ≡ Failed [] (at 28) kinds.ReadOnly (Point (spots.At 1 (pos 0)))
  pub too_far_is : comes_to too_far (0 ∷ []) 0 12 [] ≡ Failed [] (at 37) kinds.Bounds (Point (spots.At 0 (pos 16)))
  pub two_objects_is : comes_to two_objects (0 ∷ []) 0 12 [] ≡ Failed [] (at 41) kinds.Unrelated (Points (spots.At 0 (pos 0)) (spots.At 1 (pos 0)))
  pub dead_equal_is : comes_to dead_equal (0 ∷ []) 0 12 [] ≡ Failed [] (at 46) kinds.Dangling (Points spots.Dead spots.Null)
  pub dead_test_is : comes_to dead_test (0 ∷ []) 0 12 [] ≡ Failed [] (at 38) kinds.Dangling (Point spots.Dead)
  pub dead_and_is : comes_to dead_and (0 ∷ []) 0 12 [] ≡ Failed [] (at 46) kinds.Dangling (Point spots.Dead)
  pub beyond_is : comes_to beyond (0 ∷ []) 0 12 [] ≡ Failed [] (at 84) kinds.Access (Point (spots.At 0 (pos 8)))
  pub asserted_is : comes_to asserted (0 ∷ []) 0 12 [] ≡ Failed [] (at 24) kinds.AssertFailed (Number (pos 0))
  pub deep_is : comes_to deep (0 ∷ 1 ∷ 2 ∷ []) 2 12 [] ≡ Failed (at 76 ∷ at 46 ∷ []) (at 22) kinds.DivideByZero (Number (pos 0))
