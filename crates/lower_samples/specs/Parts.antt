-- Parts of typed programs, for samples.
use Rattle.std.specs.Prelude.{ℕ, true, false, List, [], ◌∷◌, map, codes}
use Rattle.c_syntax_written.specs.declared.int_type.IntType.TheVariants as ints
use Rattle.c_syntax.specs.declared.operator.Arithmetic.TheVariants as arithmetic
use Rattle.c_syntax.specs.declared.operator.Comparison.TheVariants as compare
use Rattle.c_syntax.specs.declared.operator.Extent.{Extent}
use Rattle.c_syntax.specs.declared.operator.TBinaryOp.TheVariants as binaries
use Rattle.c_syntax.specs.declared.program.Initial.{Initial}
use Rattle.c_syntax.specs.declared.program.InitByte.TheVariants as bytes
use Rattle.c_syntax.specs.Types.{CTypeTree, Int, Array, ObjectTree}
use Rattle.c_syntax.specs.TypedExpr.{TExprTree, Assign, Binary, TLvalueTree, TExprTrees}
use Rattle.c_syntax.specs.TypedExpr as exprs
use Rattle.c_syntax.specs.TypedStmt.{TStmtTree, TStmtTrees, none, more}
use Rattle.c_syntax.specs.Program.{MemberTree, StructDefTree, TFunctionTree, TProgramTree}
use Rattle.lower_trees.specs.Samples.{at}

-- items, and arguments, of a list
abbrev pub these : List TStmtTree → TStmtTrees
these [] = none
these (item ∷ items) = more item (these items)

abbrev pub call_args : List TExprTree → TExprTrees
call_args [] = exprs.none
call_args (e ∷ es) = exprs.more e (call_args es)

-- operators on ints, at a column
abbrev pub add : ℕ → TExprTree → TExprTree → TExprTree
add column a b = Binary (at column) (binaries.Arithmetic arithmetic.Add ints.Int) a b

abbrev pub sub : ℕ → TExprTree → TExprTree → TExprTree
sub column a b = Binary (at column) (binaries.Arithmetic arithmetic.Subtract ints.Int) a b

abbrev pub mul : ℕ → TExprTree → TExprTree → TExprTree
mul column a b = Binary (at column) (binaries.Arithmetic arithmetic.Multiply ints.Int) a b

abbrev pub div : ℕ → TExprTree → TExprTree → TExprTree
div column a b = Binary (at column) (binaries.Arithmetic arithmetic.Divide ints.Int) a b

abbrev pub rem : ℕ → TExprTree → TExprTree → TExprTree
rem column a b = Binary (at column) (binaries.Arithmetic arithmetic.Remainder ints.Int) a b

abbrev pub less : ℕ → TExprTree → TExprTree → TExprTree
less column a b = Binary (at column) (binaries.CompareInts compare.Less ints.Int) a b

abbrev pub greater : ℕ → TExprTree → TExprTree → TExprTree
greater column a b = Binary (at column) (binaries.CompareInts compare.Greater ints.Int) a b

abbrev pub equal : ℕ → TExprTree → TExprTree → TExprTree
equal column a b = Binary (at column) (binaries.CompareInts compare.Equal ints.Int) a b

abbrev pub set : ℕ → TLvalueTree → TExprTree → TExprTree
set column place value = Assign (at column) place value

abbrev pub extent : ℕ → ℕ → Extent
extent size align = record { size = size; align = align }

-- a string literal of so many bytes, with the one behind its text
abbrev pub literal : ℕ → ℕ → ObjectTree
literal column size =
    record { name = []; pos = at column; ty = Array (Int ints.Char) false size; size = size; read_only = true; is_static = true }

abbrev pub bytes_given : ℕ → List ℕ → Initial
bytes_given object values = record { object = object; bytes = map (λ n. bytes.Num n) values }

abbrev pub member : CTypeTree → ℕ → MemberTree
member ty offset = record { name = codes "m"; ty = ty; offset = offset }

abbrev pub struct_of : List MemberTree → ℕ → ℕ → StructDefTree
struct_of members size align = record { tag = codes "S"; members = members; size = size; align = align }

abbrev pub program : List StructDefTree → List ObjectTree → List Initial → List TFunctionTree → TProgramTree
program structs objects initial functions = record { structs = structs; objects = objects; functions = functions; initial = initial }
