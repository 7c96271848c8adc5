-- The stray gotos of each form of statement, an equation a form, and the first of a list of places.
use Rattle.std.proofs.Common.{◌≡◌, ℕ, ℤ, Bool, List, [], ◌∷◌, ◌++◌, refl}
use Rattle.std.specs.Prelude.{Option, if◌then◌else◌}
use Rattle.c_syntax_written.specs.declared.place.Pos.{Pos}
use Rattle.c_syntax.specs.declared.statement.BlockKind.{BlockKind}
use Rattle.c_syntax.specs.TypedExpr.{TExprTree}
use Rattle.c_syntax.specs.TypedStmt.{TInitTree, TStmtTree, TStmtTrees, tstmt_tree, tstmts_from}
use Rattle.c_syntax.specs.TypedStmt as stmts
use Rattle.c_layout.specs.Jumps.{labels_among}
use Rattle.c_rules_calls.specs.Gotos.{has_label, strays, strays_among}

pub stray_empty : (around : List ℕ) (x0 : Pos) → strays around (stmts.Empty x0) ≡ []
unfolding strays
stray_empty around x0 = refl

pub stray_expr : (around : List ℕ) (x0 : Pos) (x1 : TExprTree) → strays around (stmts.Expr x0 x1) ≡ []
unfolding strays
stray_expr around x0 x1 = refl

pub stray_block : (around : List ℕ) (x0 : Pos) (x1 : BlockKind) (x2 : List ℕ) (x3 : TStmtTrees) → strays around (stmts.Block x0 x1 x2 x3) ≡ strays_among (labels_among x3 ++ around) x3
unfolding strays
stray_block around x0 x1 x2 x3 = refl

pub stray_declare : (around : List ℕ) (x0 : Pos) (x1 : ℕ) (x2 : List TInitTree) (x3 : Bool) → strays around (stmts.Declare x0 x1 x2 x3) ≡ []
unfolding strays
stray_declare around x0 x1 x2 x3 = refl

pub stray_static : (around : List ℕ) (x0 : Pos) (x1 : ℕ) → strays around (stmts.Static x0 x1) ≡ []
unfolding strays
stray_static around x0 x1 = refl

pub stray_if : (around : List ℕ) (x0 : Pos) (x1 : TExprTree) (x2 : TStmtTree) (x3 : TStmtTree) → strays around (stmts.If x0 x1 x2 x3) ≡ strays around x2 ++ strays around x3
unfolding strays
stray_if around x0 x1 x2 x3 = refl

pub stray_while : (around : List ℕ) (x0 : Pos) (x1 : TExprTree) (x2 : TStmtTree) → strays around (stmts.While x0 x1 x2) ≡ strays around x2
unfolding strays
stray_while around x0 x1 x2 = refl

pub stray_dowhile : (around : List ℕ) (x0 : Pos) (x1 : TStmtTree) (x2 : TExprTree) → strays around (stmts.DoWhile x0 x1 x2) ≡ strays around x1
unfolding strays
stray_dowhile around x0 x1 x2 = refl

pub stray_for : (around : List ℕ) (x0 : Pos) (x1 : List ℕ) (x2 : TStmtTrees) (x3 : Option TExprTree) (x4 : Option TExprTree) (x5 : TStmtTree) → strays around (stmts.For x0 x1 x2 x3 x4 x5) ≡ strays around x5
unfolding strays
stray_for around x0 x1 x2 x3 x4 x5 = refl

pub stray_switch : (around : List ℕ) (x0 : Pos) (x1 : TExprTree) (x2 : BlockKind) (x3 : List ℕ) (x4 : TStmtTrees) → strays around (stmts.Switch x0 x1 x2 x3 x4) ≡ strays_among (labels_among x4 ++ around) x4
unfolding strays
stray_switch around x0 x1 x2 x3 x4 = refl

pub stray_break : (around : List ℕ) (x0 : Pos) → strays around (stmts.Break x0) ≡ []
unfolding strays
stray_break around x0 = refl

pub stray_continue : (around : List ℕ) (x0 : Pos) → strays around (stmts.Continue x0) ≡ []
unfolding strays
stray_continue around x0 = refl

pub stray_goto : (around : List ℕ) (x0 : Pos) (x1 : ℕ) → strays around (stmts.Goto x0 x1) ≡ (if has_label around x1 then [] else x0 ∷ [])
unfolding strays
stray_goto around x0 x1 = refl

pub stray_return : (around : List ℕ) (x0 : Pos) (x1 : Option TExprTree) → strays around (stmts.Return x0 x1) ≡ []
unfolding strays
stray_return around x0 x1 = refl

pub stray_label : (around : List ℕ) (x0 : Pos) (x1 : ℕ) → strays around (stmts.Label x0 x1) ≡ []
unfolding strays
stray_label around x0 x1 = refl

pub stray_case : (around : List ℕ) (x0 : Pos) (x1 : ℤ) → strays around (stmts.Case x0 x1) ≡ []
unfolding strays
stray_case around x0 x1 = refl

pub stray_default : (around : List ℕ) (x0 : Pos) → strays around (stmts.Default x0) ≡ []
unfolding strays
stray_default around x0 = refl

pub stray_none : (around : List ℕ) → strays_among around stmts.none ≡ []
unfolding strays_among
stray_none around = refl

pub stray_more : (around : List ℕ) (s : TStmtTree) (rest : TStmtTrees) → strays_among around (stmts.more s rest) ≡ strays around s ++ strays_among around rest
unfolding strays_among
stray_more around s rest = refl

pub ruleset the_strays = (
  stray_empty,
  stray_expr,
  stray_block,
  stray_declare,
  stray_static,
  stray_if,
  stray_while,
  stray_dowhile,
  stray_for,
  stray_switch,
  stray_break,
  stray_continue,
  stray_goto,
  stray_return,
  stray_label,
  stray_case,
  stray_default,
  stray_none,
  stray_more,
)
