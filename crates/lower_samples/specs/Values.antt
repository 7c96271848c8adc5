-- Operators, tests and conversions. Each program comes to what was worked out by hand from its text.
use Rattle.std.specs.Prelude.{◌≡◌, pos, true, false, [], ◌∷◌, Some, codes}
use Rattle.c_syntax_written.specs.declared.int_type.IntType.TheVariants as ints
use Rattle.c_syntax_written.specs.declared.step.StepWay.TheVariants as ways
use Rattle.c_syntax.specs.declared.operator.Arithmetic.TheVariants as arithmetic
use Rattle.c_syntax.specs.declared.operator.Comparison.TheVariants as compare
use Rattle.c_syntax.specs.declared.operator.DerefKind.TheVariants as derefs
use Rattle.c_syntax.specs.declared.operator.Shift.TheVariants as shifts
use Rattle.c_syntax.specs.declared.operator.Stride.TheVariants as strides
use Rattle.c_syntax.specs.declared.operator.StepTime.TheVariants as times
use Rattle.c_syntax.specs.declared.operator.TUnaryOp.TheVariants as unaries
use Rattle.c_syntax.specs.declared.operator.TBinaryOp.TheVariants as binaries
use Rattle.c_syntax.specs.declared.statement.BlockKind.TheVariants.{Written}
use Rattle.c_syntax.specs.Types.{Void, Int, Array}
use Rattle.c_syntax.specs.TypedExpr.{Const, Load, AddressOf, Decay, Unary, Binary, Convert, Compound, Step, Or, Cond, Comma, Deref}
use Rattle.c_syntax.specs.TypedStmt.{Store, Expr, Block, Declare, Return}
use Rattle.c_syntax.specs.Program.{TProgramTree}
use Rattle.block_mem.specs.declared.types.Value.TheVariants as values
use Rattle.lower_trees.specs.Samples.{at, int, int_pointer, local, function, number, variable, read, Gave, comes_to}
use Rattle.lower_samples.specs.Parts.{these, add, mul, set, program}

-- `int main(void){unsigned x=0;x=x-1u;return x==4294967295u;}`
abbrev pub wraps : TProgramTree
wraps =
    program [] (local 25 (Int ints.UInt) 4 ∷ []) [] (function (codes "main") 5 [] int (Block (at 15) Written (0 ∷ []) (these
    (Declare (at 25) 0 (Store 0 (Int ints.UInt) (Convert (at 27) (Int ints.UInt) (number 27 0)) ∷ []) false
    ∷ Expr (at 30) (set 30 (variable 29 0 (Int ints.UInt)) (Binary (at 32) (binaries.Arithmetic arithmetic.Subtract ints.UInt) (read 31 0 (Int
    ints.UInt)) (Const (at 33) ints.UInt (pos 1))))
    ∷ Return (at 36) (Some (Binary (at 44) (binaries.CompareInts compare.Equal ints.UInt) (read 43 0 (Int ints.UInt)) (Const (at 46) ints.UInt (pos
    4294967295)))) ∷ []))) ∷ [])

-- `int main(void){char c=(char)300;return c;}`
abbrev pub narrow : TProgramTree
narrow =
    program [] (local 21 (Int ints.Char) 1 ∷ []) [] (function (codes "main") 5 [] int (Block (at 15) Written (0 ∷ []) (these
    (Declare (at 21) 0 (Store 0 (Int ints.Char) (Convert (at 23) (Int ints.Char) (number 29 300)) ∷ []) false
    ∷ Return (at 33) (Some (Convert (at 40) int (read 40 0 (Int ints.Char)))) ∷ []))) ∷ [])

-- `int main(void){unsigned char c=250;c+=10;return c;}`: the sum is an int, and what is stored a byte
abbrev pub small : TProgramTree
small =
    program [] (local 30 (Int ints.UChar) 1 ∷ []) [] (function (codes "main") 5 [] int (Block (at 15) Written (0 ∷ []) (these
    (Declare (at 30) 0 (Store 0 (Int ints.UChar) (Convert (at 32) (Int ints.UChar) (number 32 250)) ∷ []) false
    ∷ Expr (at 37) (Compound (at 37) (binaries.Arithmetic arithmetic.Add ints.Int) (variable 36 0 (Int ints.UChar)) (number 39 10))
    ∷ Return (at 42) (Some (Convert (at 49) int (read 49 0 (Int ints.UChar)))) ∷ []))) ∷ [])

-- `int main(void){return (12&10)|(1^3);}`
abbrev pub bits : TProgramTree
bits =
    program [] [] [] (function (codes "main") 5 [] int (Block (at 15) Written [] (these
    (Return (at 16) (Some (Binary (at 30) (binaries.Arithmetic arithmetic.BitOr ints.Int) (Binary (at 26) (binaries.Arithmetic arithmetic.BitAnd
    ints.Int) (number 24 12) (number 27 10)) (Binary (at 33) (binaries.Arithmetic arithmetic.BitXor ints.Int) (number 32 1) (number 34 3)))) ∷ []))) ∷
    [])

-- `int main(void){return ~5+6;}`
abbrev pub complement : TProgramTree
complement =
    program [] [] [] (function (codes "main") 5 [] int (Block (at 15) Written [] (these
    (Return (at 16) (Some (add 25 (Unary (at 23) (unaries.Complement ints.Int) (number 24 5)) (number 26 6))) ∷ []))) ∷ [])

-- `int main(void){return (1<<4)>>2;}`
abbrev pub shifted : TProgramTree
shifted =
    program [] [] [] (function (codes "main") 5 [] int (Block (at 15) Written [] (these
    (Return (at 16) (Some (Binary (at 29) (binaries.Shift shifts.Right ints.Int) (Binary (at 25) (binaries.Shift shifts.Left ints.Int) (number 24 1)
    (number 27 4)) (number 31 2))) ∷ []))) ∷ [])

-- `int main(void){int i=5;int j=i++;return j*10+i;}`
abbrev pub after : TProgramTree
after =
    program [] (local 20 int 4 ∷ local 28 int 4 ∷ []) [] (function (codes "main") 5 [] int (Block (at 15) Written (0 ∷ 1 ∷ []) (these
    (Declare (at 20) 0 (Store 0 int (number 22 5) ∷ []) false
    ∷ Declare (at 28) 1 (Store 0 int (Step (at 31) times.After ways.Up (strides.Int ints.Int) (variable 30 0 int)) ∷ []) false
    ∷ Return (at 34) (Some (add 45 (mul 42 (read 41 1 int) (number 43 10)) (read 46 0 int))) ∷ []))) ∷ [])

-- `int main(void){int i=5;int j=--i;return j*10+i;}`
abbrev pub before : TProgramTree
before =
    program [] (local 20 int 4 ∷ local 28 int 4 ∷ []) [] (function (codes "main") 5 [] int (Block (at 15) Written (0 ∷ 1 ∷ []) (these
    (Declare (at 20) 0 (Store 0 int (number 22 5) ∷ []) false
    ∷ Declare (at 28) 1 (Store 0 int (Step (at 30) times.Before ways.Down (strides.Int ints.Int) (variable 32 0 int)) ∷ []) false
    ∷ Return (at 34) (Some (add 45 (mul 42 (read 41 1 int) (number 43 10)) (read 46 0 int))) ∷ []))) ∷ [])

-- `int main(void){int n=0;1||(n=5);return n;}`: what decides stands first
abbrev pub either : TProgramTree
either =
    program [] (local 20 int 4 ∷ []) [] (function (codes "main") 5 [] int (Block (at 15) Written (0 ∷ []) (these
    (Declare (at 20) 0 (Store 0 int (number 22 0) ∷ []) false
    ∷ Expr (at 25) (Or (at 25) (number 24 1) (set 29 (variable 28 0 int) (number 30 5)))
    ∷ Return (at 33) (Some (read 40 0 int)) ∷ []))) ∷ [])

-- `int main(void){int x=0;int *p=&x;return !p||!*p;}`
abbrev pub not_pointer : TProgramTree
not_pointer =
    program [] (local 20 int 4 ∷ local 29 int_pointer 8 ∷ []) [] (function (codes "main") 5 [] int (Block (at 15) Written (0 ∷ 1 ∷ []) (these
    (Declare (at 20) 0 (Store 0 int (number 22 0) ∷ []) false
    ∷ Declare (at 29) 1 (Store 0 int_pointer (AddressOf (at 31) (variable 32 0 int)) ∷ []) false
    ∷ Return (at 34) (Some (Or (at 43) (Unary (at 41) unaries.Not (read 42 1 int_pointer)) (Unary (at 45) unaries.Not (Load (at 46) (Deref (at 46)
    derefs.Star int false (read 47 1 int_pointer)))))) ∷ []))) ∷ [])

-- `int main(void){int n=0;1?(void)(n=2):(void)(n=3);return (n=n+1,n*2);}`
abbrev pub comma : TProgramTree
comma =
    program [] (local 20 int 4 ∷ []) [] (function (codes "main") 5 [] int (Block (at 15) Written (0 ∷ []) (these
    (Declare (at 20) 0 (Store 0 int (number 22 0) ∷ []) false
    ∷ Expr (at 25) (Cond (at 25) Void (number 24 1) (Convert (at 26) Void (set 34 (variable 33 0 int) (number 35 2))) (Convert (at 38) Void (set 46
    (variable 45 0 int) (number 47 3))))
    ∷ Return (at 50) (Some (Comma (at 63) (set 59 (variable 58 0 int) (add 61 (read 60 0 int) (number 62 1))) (mul 65 (read 64 0 int) (number 66 2))))
    ∷ []))) ∷ [])

-- `int main(void){int a[4]={0};return (int)(&a[3]-&a[1]);}`
abbrev pub distance : TProgramTree
distance =
    program [] (local 20 (Array int false 4) 16 ∷ []) [] (function (codes "main") 5 [] int (Block (at 15) Written (0 ∷ []) (these
    (Declare (at 20) 0 (Store 0 int (number 26 0) ∷ []) true
    ∷ Return (at 29) (Some (Convert (at 36) int (Binary (at 47) (binaries.PointerMinusPointer 4) (AddressOf (at 42) (Deref (at 44) derefs.Index int
    false (Binary (at 44) (binaries.PointerPlusInt 4) (Decay (at 43) (variable 43 0 (Array int false 4))) (number 45 3)))) (AddressOf (at 48) (Deref
    (at 50) derefs.Index int false (Binary (at 50) (binaries.PointerPlusInt 4) (Decay (at 49) (variable 49 0 (Array int false 4))) (number 51 1)))))))
    ∷ []))) ∷ [])

-- `int main(void){int a[4]={0};return &a[1]<&a[3];}`
abbrev pub ordered : TProgramTree
ordered =
    program [] (local 20 (Array int false 4) 16 ∷ []) [] (function (codes "main") 5 [] int (Block (at 15) Written (0 ∷ []) (these
    (Declare (at 20) 0 (Store 0 int (number 26 0) ∷ []) true
    ∷ Return (at 29) (Some (Binary (at 41) (binaries.ComparePointers compare.Less) (AddressOf (at 36) (Deref (at 38) derefs.Index int false (Binary
    (at 38) (binaries.PointerPlusInt 4) (Decay (at 37) (variable 37 0 (Array int false 4))) (number 39 1)))) (AddressOf (at 42) (Deref (at 44)
    derefs.Index int false (Binary (at 44) (binaries.PointerPlusInt 4) (Decay (at 43) (variable 43 0 (Array int false 4))) (number 45 3)))))) ∷ [])))
    ∷ [])

-- `int main(void){int a[3]={1,2,3};int *p=a;++p;int x=*p;p+=1;return x*10+*p;}`
abbrev pub moved : TProgramTree
moved =
    program [] (local 20 (Array int false 3) 12 ∷ local 38 int_pointer 8 ∷ local 50 int 4 ∷ []) [] (function (codes "main") 5 [] int (Block (at 15)
    Written (0 ∷ 1 ∷ 2 ∷ []) (these
    (Declare (at 20) 0 (Store 0 int (number 26 1) ∷ Store 4 int (number 28 2) ∷ Store 8 int (number 30 3) ∷ []) true
    ∷ Declare (at 38) 1 (Store 0 int_pointer (Decay (at 40) (variable 40 0 (Array int false 3))) ∷ []) false
    ∷ Expr (at 42) (Step (at 42) times.Before ways.Up (strides.Element 4) (variable 44 1 int_pointer))
    ∷ Declare (at 50) 2 (Store 0 int (Load (at 52) (Deref (at 52) derefs.Star int false (read 53 1 int_pointer))) ∷ []) false
    ∷ Expr (at 56) (Compound (at 56) (binaries.PointerPlusInt 4) (variable 55 1 int_pointer) (number 58 1))
    ∷ Return (at 60) (Some (add 71 (mul 68 (read 67 2 int) (number 69 10)) (Load (at 72) (Deref (at 72) derefs.Star int false (read 73 1
    int_pointer))))) ∷ []))) ∷ [])

-- what the lowered programs come to
pub record ValuesComeTo : Type 0 where
  pub wraps_is : comes_to wraps (0 ∷ []) 0 12 [] ≡ Gave (Some (values.Int ints.Int (pos 1)))
  pub narrow_is : comes_to narrow (0 ∷ []) 0 12 [] ≡ Gave (Some (values.Int ints.Int (pos 44)))
  pub small_is : comes_to small (0 ∷ []) 0 12 [] ≡ Gave (Some (values.Int ints.Int (pos 4)))
  pub bits_is : comes_to bits (0 ∷ []) 0 12 [] ≡ Gave (Some (values.Int ints.Int (pos 10)))
  pub complement_is : comes_to complement (0 ∷ []) 0 12 [] ≡ Gave (Some (values.Int ints.Int (pos 0)))
  pub shifted_is : comes_to shifted (0 ∷ []) 0 12 [] ≡ Gave (Some (values.Int ints.Int (pos 4)))
  pub after_is : comes_to after (0 ∷ []) 0 12 [] ≡ Gave (Some (values.Int ints.Int (pos 56)))
  pub before_is : comes_to before (0 ∷ []) 0 12 [] ≡ Gave (Some (values.Int ints.Int (pos 44)))
  pub either_is : comes_to either (0 ∷ []) 0 12 [] ≡ Gave (Some (values.Int ints.Int (pos 0)))
  pub not_pointer_is : comes_to not_pointer (0 ∷ []) 0 12 [] ≡ Gave (Some (values.Int ints.Int (pos 1)))
  pub comma_is : comes_to comma (0 ∷ []) 0 12 [] ≡ Gave (Some (values.Int ints.Int (pos 6)))
  pub distance_is : comes_to distance (0 ∷ []) 0 12 [] ≡ Gave (Some (values.Int ints.Int (pos 2)))
  pub ordered_is : comes_to ordered (0 ∷ []) 0 12 [] ≡ Gave (Some (values.Int ints.Int (pos 1)))
  pub moved_is : comes_to moved (0 ∷ []) 0 12 [] ≡ Gave (Some (values.Int ints.Int (pos 23)))
