-- What a `for` is made of.
use Rattle.std.proofs.Common.{◌≡◌, ℕ, ◌+◌, ◌*◌, ◌<◌, List, ap, ◌∙◌, arith}
use Rattle.std.specs.Prelude.{Option, option_map}
use Rattle.std.specs.declared.boxed.Box.{Box}
use Rattle.std.specs.declared.alloc.Global.{Global}
use Rattle.c_syntax_written.specs.declared.place.Pos.{Pos}
use Rattle.c_syntax.specs.declared.typed.TExpr.{TExpr}
use Rattle.c_syntax.specs.declared.statement.TStmt.{TStmt}
use Rattle.c_syntax.specs.declared.statement.TStmt.TheVariants as sources
use Rattle.c_syntax.specs.declared.statement.TStmts.{TStmts}
use Rattle.c_syntax.specs.Sizes.{tstmt_size, tstmts_size}
use Rattle.c_syntax.specs.TypedExpr.{texpr_tree}
use Rattle.c_syntax.specs.TypedStmt.{tstmt_tree, tstmts_tree}
use Rattle.c_syntax.specs.TypedStmt as stmts
use Rattle.c_syntax.proofs.TypedStmtTrees.{tstmt_for}

pub for_tree : (stmt : TStmt) (at : Pos) (objects : List ℕ) (head : TStmts) (condition step : Option TExpr) (body : Box TStmt Global)
    → stmt ≡ sources.For at objects head condition step body
    → tstmt_tree stmt ≡ stmts.For at objects (tstmts_tree head) (option_map texpr_tree condition) (option_map texpr_tree step) (tstmt_tree body.value)
for_tree stmt at objects head condition step body e = ap tstmt_tree e ∙ tstmt_for at objects head condition step body

pub for_falls : (stmt : TStmt) (at : Pos) (objects : List ℕ) (head : TStmts) (condition step : Option TExpr) (body : Box TStmt Global)
    → stmt ≡ sources.For at objects head condition step body
    → 4 * (tstmts_size (tstmts_tree head) + tstmt_size (tstmt_tree body.value)) + 3 < 4 * tstmt_size (tstmt_tree stmt)
for_falls stmt at objects head condition step body e = rw (for_tree stmt at objects head condition step body e) (omega arith)
