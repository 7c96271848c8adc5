-- Small programs, and what they come to, worked out by hand. All places are in line 1 of the first file.
use Rattle.std.specs.Prelude.{◌≡◌, ℕ, ℤ, pos, negsuc, Bool, true, false, List, [], ◌∷◌, Option, Some, None, codes}
use Rattle.c_syntax_written.specs.declared.place.Pos.{Pos}
use Rattle.c_syntax_written.specs.declared.int_type.IntType.TheVariants as ints
use Rattle.c_syntax.specs.declared.alarm.Check.{Check}
use Rattle.c_syntax.specs.declared.alarm.WrongKind.{WrongKind}
use Rattle.c_syntax.specs.declared.alarm.WrongKind.TheVariants as kinds
use Rattle.c_syntax.specs.declared.alarm.Spot.TheVariants as spots
use Rattle.c_syntax.specs.declared.operator.Arithmetic.TheVariants.{Add, Divide}
use Rattle.c_syntax.specs.declared.operator.Shift.TheVariants.{Left}
use Rattle.c_syntax.specs.declared.operator.Comparison.TheVariants.{Less}
use Rattle.c_syntax.specs.declared.operator.TUnaryOp.TheVariants as unaries
use Rattle.c_syntax.specs.declared.operator.TBinaryOp.TheVariants as binaries
use Rattle.c_syntax.specs.Types.{ObjectTree, Int}
use Rattle.c_syntax.specs.Operand.{Operand, Number, Point, Points, Mark, End}
use Rattle.c_syntax.specs.Operand as operands
use Rattle.block_mem.specs.declared.types.Scalar.{Scalar}
use Rattle.block_mem.specs.declared.types.Scalar.TheVariants as scalars
use Rattle.block_mem.specs.declared.types.Value.{Value}
use Rattle.block_mem.specs.declared.types.Value.TheVariants as values
use Rattle.csharp.specs.Trees.{CsExprTree, Const, Null, Temp, Address, Unary, Binary, Convert, CsStmtTree, Nothing, Set, Load, Store}
use Rattle.csharp.specs.Trees.{CopyBytes, Undefine, Checked, Input, Assume, Sequence, If, Loop, Block, Exit, Scope, Switch, Goto, Call, Return, Label}
use Rattle.csharp.specs.Trees.{Case, Default, none, more, CsFunctionTree, CsProgramTree}
use Rattle.csharp.specs.Outcomes.{Outcome, Normal, Fails, Waiting, Stopped, Stuck, Clash, NoFuel, Over}
use Rattle.csharp.specs.Meaning.{run, bounded_exec, beyond}
use Rattle.csharp.specs.States.{first}

abbrev pub at : ℕ → Pos
at column = record { file = 0; line = 1; col = column }

abbrev object : ℕ → Bool → Bool → ObjectTree
object size read_only is_static =
    record { name = codes "x"; pos = at 1; ty = Int ints.Int; size = size; read_only = read_only; is_static = is_static }

abbrev function : List ℕ → CsStmtTree → CsFunctionTree
function params body = record { params = params; body = body }

-- objects 0 to 3 have four bytes: 0 is automatic, 1 and 2 are static, and 3 is static and const; object 4 is static and has eight. Temporaries 0 to 2 are
-- ints, and 3 is a pointer
abbrev program : List CsFunctionTree → CsProgramTree
program functions = record {
  structs = [];
  objects = object 4 false false ∷ object 4 false true ∷ object 4 false true ∷ object 4 true true ∷ object 8 false true ∷ [];
  initial = [];
  functions = functions;
  temps = scalars.Int ints.Int ∷ scalars.Int ints.Int ∷ scalars.Int ints.Int ∷ scalars.Pointer ∷ [];
  main = 0;
}

abbrev only : CsStmtTree → CsProgramTree
only body = program (function [] body ∷ [])

abbrev number : ℕ → CsExprTree
number n = Const ints.Int (pos n)

abbrev sum : CsExprTree → CsExprTree → CsExprTree
sum e f = Binary (binaries.Arithmetic Add ints.Int) e f

abbrev is_less : CsExprTree → CsExprTree → CsExprTree
is_less e f = Binary (binaries.CompareInts Less ints.Int) e f

abbrev moved : CsExprTree → ℕ → CsExprTree
moved e n = Binary (binaries.PointerPlusInt 1) e (number n)

abbrev int : ℕ → Value
int n = values.Int ints.Int (pos n)

-- ---- what is told of outcomes

abbrev temps_behind : Outcome → List Value
temps_behind (Normal s) = s.temps
temps_behind o = []

-- a normal outcome with these values in the temporaries
abbrev EndsWith : CsStmtTree → List ℤ → ℕ → ℕ → ℕ → Value → Type 0
EndsWith body inputs a b c v = temps_behind (run (only body) 9 inputs) ≡ int a ∷ int b ∷ int c ∷ v ∷ []

pub record Failure : Type 0 where
  pub chain : List Pos
  pub place : Pos
  pub kind : WrongKind
  pub operand : Operand

abbrev failure_of : Outcome → Option Failure
failure_of (Fails chain place kind operand m) = Some (record { chain = chain; place = place; kind = kind; operand = operand })
failure_of o = None

abbrev FailsWith : CsProgramTree → List Pos → ℕ → WrongKind → Operand → Type 0
FailsWith q chain column kind operand =
    failure_of (run q 9 []) ≡ Some (record { chain = chain; place = at column; kind = kind; operand = operand })

-- ---- ways through a program

-- exit 1 leaves the loop and both blocks
abbrev two_levels : CsStmtTree
two_levels = Block (Sequence (Block (Loop (at 1) (Sequence (Set 0 (number 5)) (Exit 1)))) (Set 0 (number 6)))

-- from case 2 on, through the default
abbrev fall_through : ℕ → CsStmtTree
fall_through n = Switch (number n) [] (more (Case (pos 1)) (more (Set 0 (number 1)) (more (Case (pos 2)) (more (Set 1 (number 2))
    (more Default (more (Set 2 (number 3)) none))))))

-- back to label 7 while temporary 0 is below 3, and then to label 8, past what sets temporary 1
abbrev back_and_on : CsStmtTree
back_and_on = Scope [] (more (Label (at 1) 7) (more (Set 0 (sum (Temp 0) (number 1))) (more (If (is_less (Temp 0) (number 3)) (Goto 7) (Goto 8))
    (more (Set 1 (number 9)) (more (Label (at 2) 8) none)))))

-- an object that lives twice has two blocks; the static ones have the first four
abbrev lives_twice : CsStmtTree
lives_twice = Block (Loop (at 1) (Scope (0 ∷ []) (more (Set 3 (Address 0)) (more (Set 0 (sum (Temp 0) (number 1)))
    (more (If (is_less (Temp 0) (number 2)) Nothing (Exit 0)) none)))))

abbrev second_block : Value
second_block = values.Ptr (record { block = 5; offset = pos 0 })

-- an input is wrapped to its type
abbrev takes_input : CsStmtTree
takes_input = Sequence (Input 0 ints.UChar) (Set 0 (Convert ints.Int (Temp 0)))

-- a store and a load
abbrev through_memory : CsStmtTree
through_memory = Sequence (Store (scalars.Int ints.Int) (Address 1) (number 7)) (Sequence (CopyBytes 4 (Address 2) (Address 1))
    (Load 0 (scalars.Int ints.Int) (Address 2)))

pub record Ways : Type 0 where
  pub exits : EndsWith two_levels [] 5 0 0 values.Null
  pub falls_through : EndsWith (fall_through 2) [] 0 2 3 values.Null
  pub takes_default : EndsWith (fall_through 9) [] 0 0 3 values.Null
  pub jumps : EndsWith back_and_on [] 3 0 0 values.Null
  pub scopes : EndsWith lives_twice [] 2 0 0 second_block
  pub inputs : EndsWith takes_input (pos 300 ∷ []) 44 0 0 values.Null
  pub memory : EndsWith through_memory [] 7 0 0 values.Null

-- ---- calls

-- `g` divides by what it is given; `f` calls `g` with it, and main calls `f`
abbrev check_of : WrongKind → ℤ → ℤ → ℕ → ℕ → Check
check_of kind lo hi size align = record { kind = kind; lo = lo; hi = hi; size = size; align = align }

abbrev checked : ℕ → Check → Option Scalar → List CsExprTree → CsStmtTree
checked column check ty es = Checked (record { check = check; pos = at column; ty = ty; operands = es })

abbrev plain : WrongKind → Check
plain kind = check_of kind (pos 0) (pos 0) 0 0

abbrev called : ℕ → ℕ → CsExprTree → Option ℕ → Option ℕ → CsStmtTree
called column f e value flag = Call (record { pos = at column; function = f; args = e ∷ []; value = value; flag = flag })

abbrev divides : CsFunctionTree
divides = function (1 ∷ []) (Sequence (checked 23 (plain kinds.DivideByZero) None (Temp 1 ∷ []))
    (Return (Some (Binary (binaries.Arithmetic Divide ints.Int) (number 10) (Temp 1)))))

abbrev chained : ℕ → CsProgramTree
chained n = program (function [] (called 9 1 (number n) (Some 0) (Some 2)) ∷ function (0 ∷ []) (Sequence (called 5 2 (Temp 0) (Some 2) None)
    (Return (Some (Temp 2))))
    ∷ divides ∷ [])

-- a call that gives nothing: its flag is 0, and what asks for the value fails
abbrev gives_nothing : CsProgramTree
gives_nothing = program (function [] (Sequence (called 9 1 (number 3) (Some 0) (Some 2)) (checked 9 (plain kinds.NoValue) None (Temp 2 ∷ [])))
    ∷ function (1 ∷ []) Nothing ∷ [])

pub record Calls : Type 0 where
  pub given : temps_behind (run (chained 5) 9 []) ≡ int 2 ∷ int 5 ∷ int 1 ∷ values.Null ∷ []
  pub chain : FailsWith (chained 0) (at 9 ∷ at 5 ∷ []) 23 kinds.DivideByZero (Number (pos 0))
  pub nothing : FailsWith gives_nothing [] 9 kinds.NoValue (End operands.None)

-- ---- failures, each with its operand

abbrev Finds : Check → Option Scalar → List CsExprTree → Operand → Type 0
Finds check ty es operand = FailsWith (only (checked 4 check ty es)) [] 4 check.kind operand

abbrev int_ends : WrongKind → Check
int_ends kind = check_of kind (negsuc 2147483647) (pos 2147483647) 0 0

abbrev access : WrongKind → ℕ → ℕ → Check
access kind size align = check_of kind (pos 0) (pos 0) size align

abbrev int_scalar : Option Scalar
int_scalar = Some (scalars.Int ints.Int)

-- a pointer to an object that has ended
abbrev dangling : CsStmtTree
dangling = Sequence (Scope (0 ∷ []) (more (Set 3 (Address 0)) none)) (checked 4 (plain kinds.Dangling) None (Temp 3 ∷ []))

-- half of a stored pointer is no int
abbrev broken : CsStmtTree
broken = Sequence (Store scalars.Pointer (Address 4) (Address 1)) (checked 4 (plain kinds.Fragment) int_scalar (Address 4 ∷ []))

pub record Failures : Type 0 where
  pub overflow : Finds (int_ends kinds.Overflow) None (sum (number 2147483647) (number 1) ∷ []) (Number (pos 2147483648))
  pub negated : Finds (int_ends kinds.Overflow) None (Unary (unaries.Minus ints.Int) (Const ints.Int (negsuc 2147483647)) ∷ []) (Number (pos 2147483648))
  pub quotient : Finds (int_ends kinds.Quotient) None
      (Binary (binaries.Arithmetic Divide ints.Int) (Const ints.Int (negsuc 2147483647)) (Const ints.Int (negsuc 0)) ∷ []) (Number (pos 2147483648))
  pub amount : Finds (check_of kinds.ShiftAmount (pos 0) (pos 31) 0 0) None (number 32 ∷ []) (Number (pos 32))
  pub shifted : Finds (check_of kinds.ShiftResult (pos 0) (pos 2147483647) 0 0) None (Binary (binaries.Shift Left ints.Int) (number 1) (number 31) ∷ [])
      (Number (pos 2147483648))
  pub null : Finds (plain kinds.NullUse) None (Null ∷ []) (Point spots.Null)
  pub ended : FailsWith (only dangling) [] 4 kinds.Dangling (Point spots.Dead)
  pub far : Finds (plain kinds.Bounds) None (moved (Address 1) 5 ∷ []) (Point (spots.At 1 (pos 5)))
  pub outside : Finds (access kinds.Access 4 4) None (moved (Address 1) 4 ∷ []) (Point (spots.At 1 (pos 4)))
  pub askew : Finds (access kinds.Alignment 4 4) None (moved (Address 1) 2 ∷ []) (Point (spots.At 1 (pos 2)))
  pub written : Finds (plain kinds.ReadOnly) None (Address 3 ∷ []) (Point (spots.At 3 (pos 0)))
  pub apart : Finds (access kinds.Unrelated 1 0) None (Address 1 ∷ Address 2 ∷ []) (Points (spots.At 1 (pos 0)) (spots.At 2 (pos 0)))
  pub undefined : Finds (plain kinds.Indeterminate) int_scalar (Address 1 ∷ []) (Mark operands.Undef)
  pub broken : FailsWith (only broken) [] 4 kinds.Fragment (Mark operands.Broken)
  pub asserted : Finds (plain kinds.AssertFailed) None (number 0 ∷ []) (Number (pos 0))

-- ---- other outcomes

-- an object that is opened inside its own scope
abbrev opened_twice : CsStmtTree
opened_twice = Scope (0 ∷ []) (more (Scope (0 ∷ []) none) none)

abbrev ComesTo : CsStmtTree → Outcome → Type 0
ComesTo body o = run (only body) 9 [] ≡ o

-- an exit ends the objects of the scope that it leaves
abbrev left_by_exit : CsStmtTree
left_by_exit = Sequence (Block (Scope (0 ∷ []) (more (Exit 0) none))) (Undefine 0)

-- bytes of an object that are no load's: they lie outside, or at no multiple of the alignment, or the object has ended
abbrev ended_load : CsStmtTree
ended_load = Sequence
    (Scope (0 ∷ []) (more (Store (scalars.Int ints.UChar) (Address 0) (Const ints.UChar (pos 7))) (more (Set 3 (Address 0)) none)))
    (Load 0 (scalars.Int ints.UChar) (Temp 3))

abbrev filled : CsStmtTree → CsStmtTree
filled a = Sequence (Store (scalars.Int ints.Int) (Address 1) (number 7)) a

-- two turns are begun again, and the third is too much
abbrev endless : CsStmtTree
endless = Loop (at 1) Nothing

pub record Others : Type 0 where
  pub waits : ComesTo (Input 0 ints.Int) Waiting
  pub stops : ComesTo (Assume (number 0)) Stopped
  pub no_temporary : ComesTo (Set 0 (Temp 9)) Stuck
  pub no_address : ComesTo (Load 0 (scalars.Int ints.Int) Null) Stuck
  pub no_value : ComesTo (Load 0 (scalars.Int ints.Int) (Address 1)) Stuck
  pub no_bytes : ComesTo (filled (Load 0 (scalars.Int ints.UChar) (moved (Address 1) 4))) Stuck
  pub no_multiple : ComesTo (filled (Load 0 (scalars.Int ints.UShort) (moved (Address 1) 1))) Stuck
  pub no_life : ComesTo ended_load Stuck
  pub no_room : ComesTo (Store (scalars.Int ints.Int) (moved (Address 1) 4) (number 7)) Stuck
  pub no_object : ComesTo (Undefine 0) Stuck
  pub ended : ComesTo left_by_exit Stuck
  pub no_operand : ComesTo (checked 4 (plain kinds.DivideByZero) None []) Stuck
  pub no_function : ComesTo (called 4 9 (number 1) None None) Stuck
  pub clash : ComesTo opened_twice Clash
  pub no_end : ComesTo endless NoFuel
  pub too_many : bounded_exec (beyond 2) (only endless) 9 endless (first (only endless) []) ≡ Over

-- all of them
pub record SamplesEnd : Type 0 where
  pub ways : Ways
  pub calls : Calls
  pub failures : Failures
  pub others : Others
