-- What stands before a statement, and returns, each apart from what stands around it.
use Rattle.std.specs.Prelude.{ℕ, List, Option, Some, None}
use Rattle.c_syntax_written.specs.declared.place.Pos.{Pos}
use Rattle.c_syntax_written.specs.declared.int_type.IntType.{IntType}
use Rattle.c_syntax_written.specs.Written.{ExprTree}
use Rattle.c_syntax_written.specs.WrittenParts.{expr_pos}
use Rattle.c_syntax.specs.Types.{CTypeTree}
use Rattle.c_syntax.specs.TypedStmt.{TStmtTree, TStmtTrees, Label, Case}
use Rattle.c_typing.specs.Constants.{constant_value}
use Rattle.c_typing.specs.Stmts.{labelled, case_of, returned, returned_bare}
use Rattle.c_typing.specs.Typing.{Types, Valued}
use Rattle.c_typing.specs.World.{World, Outcome, Typed, Then, Is}

-- a label
abbrev pub Labels : World → Pos → List ℕ → Outcome TStmtTree → Type 0
Labels w at name o = Then (Is (labelled w at name)) (λ label w1. Is (Typed (Label at label) w1)) o

-- a case, in a switch of this type
abbrev pub Cases : World → Pos → Option IntType → ExprTree → Outcome TStmtTree → Type 0
Cases w at switch value o =
    Then (Valued (Types w value)) (λ x w1. Then (Is (case_of w1 at (expr_pos value) switch (constant_value x))) (λ n w2. Is (Typed (Case at n) w2))) o

-- a return, from a function with this result
abbrev pub ReturnsValue : World → Pos → CTypeTree → ExprTree → Outcome TStmtTrees → Type 0
ReturnsValue w at result e o = Then (Valued (Types w e)) (λ x w1. Is (returned w1 at result x)) o

abbrev pub Returns : World → Pos → CTypeTree → Option ExprTree → Outcome TStmtTrees → Type 0
Returns w at result None o = Is (returned_bare w at result) o
Returns w at result (Some e) o = ReturnsValue w at result e o
