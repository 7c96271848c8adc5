-- Small programs by which the definitions are judged: each that is not well typed differs in one thing from one that is.
use Rattle.std.specs.Prelude.{ℕ, pos, Bool, true, false, None, Some, Option, List, [], ◌∷◌, codes}
use Rattle.c_syntax_written.specs.declared.place.Pos.{Pos}
use Rattle.c_syntax_written.specs.declared.int_type.IntType.{IntType}
use Rattle.c_syntax_written.specs.declared.int_type.IntType.TheVariants as ints
use Rattle.c_syntax.specs.declared.statement.BlockKind.TheVariants.{Written}
use Rattle.c_syntax.specs.Types.{CTypeTree, Int, Pointer, Struct, Function, ObjectTree}
use Rattle.c_syntax.specs.TypedExpr.{TExprTree, Const, AddressOf, Convert, Call, Any, Var}
use Rattle.c_syntax.specs.TypedExpr as exprs
use Rattle.c_syntax.specs.TypedStmt.{Store, TStmtTree, Expr, Block, Declare, Return, TStmtTrees, none, more}
use Rattle.c_syntax.specs.Program.{StructDefTree, TFunctionTree, TProgramTree}
use Rattle.c_layout.specs.Calls.{PlacedCall}

abbrev pub int : CTypeTree
int = Int ints.Int

-- all in one line
abbrev pub column : ℕ → Pos
column col = record { file = 0; line = 1; col = col }

-- an automatic variable
abbrev pub variable : CTypeTree → ℕ → ObjectTree
variable ty size = record { name = codes "x"; pos = column 1; ty = ty; size = size; read_only = false; is_static = false }

-- a function that takes nothing and gives an int
abbrev pub function : List ℕ → Option TStmtTree → TFunctionTree
function name body = record { name = name; pos = column 1; params = []; result = int; body = body }

-- a block in which these objects live
abbrev pub block : List ℕ → TStmtTrees → TStmtTree
block objects items = Block (column 1) Written objects items

abbrev pub only : TStmtTree → TStmtTrees
only item = more item none

-- a program of these parts
abbrev pub program_of : List StructDefTree → List ObjectTree → List TFunctionTree → TProgramTree
program_of structs objects functions = record { structs = structs; objects = objects; functions = functions; initial = [] }

-- int main(void){STATEMENT}, with an object 0 that lives in its block
abbrev pub main_function : TStmtTree → TFunctionTree
main_function statement = function (codes "main") (Some (block (0 ∷ []) (only statement)))

-- a program with that object and that function
abbrev pub main_with : ObjectTree → TStmtTree → TProgramTree
main_with object statement = program_of [] (object ∷ []) (main_function statement ∷ [])

-- f(), with this mark
abbrev pub call : Bool → TExprTree
call used = Call (column 9) 0 int used exprs.none

-- int f(void){} int main(void){return f();}, with this mark of the call
abbrev pub returns_call : Bool → TProgramTree
returns_call used = program_of [] []
    (function (codes "f") (Some (block [] none)) ∷ function (codes "main") (Some (block [] (only (Return (column 2) (Some (call used)))))) ∷ [])

-- int f(void); int f(void);
abbrev pub named_twice : TProgramTree
named_twice = program_of [] [] (function (codes "f") None ∷ function (codes "f") None ∷ [])

-- struct T; struct S{struct T t;};
abbrev pub holds_incomplete : TProgramTree
holds_incomplete = program_of
    (record { tag = codes "T"; members = []; size = 0; align = 1 }
    ∷ record { tag = codes "S"; members = record { name = codes "t"; ty = Struct 0; offset = 0 } ∷ []; size = 0; align = 1 } ∷ [])
    [] []

-- int main(void){int x=1;}, with the 1 stored twice
abbrev pub stores_twice : TProgramTree
stores_twice =
    let one = Store 0 int (Const (column 3) ints.Int (pos 1)) in
    main_with (variable int 4) (Declare (column 2) 0 (one ∷ one ∷ []) true)

-- int main(void){{int x;}}, with x an object of the outer block
abbrev pub declares_inside : TProgramTree
declares_inside = main_with (variable int 4) (block [] (only (Declare (column 2) 0 [] false)))

-- int main(void){&x;}, with x const though it was not declared so
abbrev pub reads_const : TProgramTree
reads_const = main_with (variable int 4) (Expr (column 2) (AddressOf (column 3) (Var (column 4) 0 int true)))

-- a pointer to main
abbrev pub points_to_function : TProgramTree
points_to_function = main_with (variable (Pointer (Function 0) false) 8) (block [] none)

-- an input of this type
abbrev pub reads_input : IntType → TProgramTree
reads_input t = main_with (variable int 4) (Expr (column 2) (Any (column 3) t))

-- int f(int); int main(void){return f(f(0));}, with the inner call in front of the outer one as the calls are made
abbrev pub nested : TProgramTree
nested =
    let argument = Const (column 30) ints.Int (pos 0) in
    let inner = Call (column 28) 0 int true (exprs.more argument exprs.none) in
    let outer = Call (column 26) 0 int true (exprs.more inner exprs.none) in
    program_of [] (variable int 4 ∷ [])
    (record { name = codes "f"; pos = column 1; params = 0 ∷ []; result = int; body = None }
    ∷ function (codes "main") (Some (block [] (only (Return (column 25) (Some outer))))) ∷ [])

abbrev pub outer_call : PlacedCall
outer_call = record { pos = column 26; callee = 0 }
