-- A statement that holds a list of others is settled once its parts are.
use Rattle.std.proofs.Common.{◌≡◌, ℕ, ◌+◌, ◌*◌, ◌<◌, List, refl, arith}
use Rattle.std.specs.Prelude.{IfOk, Option, Result, Ok, Err, option_map}
use Rattle.std.specs.declared.boxed.Box.{Box}
use Rattle.std.specs.declared.alloc.AllocError.{AllocError}
use Rattle.std.specs.declared.alloc.Global.{Global}
use Rattle.c_syntax_written.specs.declared.place.Pos.{Pos}
use Rattle.c_syntax.specs.declared.typed.TExpr.{TExpr}
use Rattle.c_syntax.specs.declared.statement.BlockKind.{BlockKind}
use Rattle.c_syntax.specs.declared.statement.TStmt.{TStmt}
use Rattle.c_syntax.specs.declared.statement.TStmt.TheVariants as stmts
use Rattle.c_syntax.specs.declared.statement.TStmts.{TStmts}
use Rattle.c_syntax.specs.Sizes.{tstmt_size, tstmts_size}
use Rattle.c_syntax.specs.Types.{ObjectTree}
use Rattle.c_syntax.specs.TypedExpr.{texpr_tree}
use Rattle.c_syntax.specs.TypedStmt.{tstmt_tree, tstmts_tree}
use Rattle.c_syntax.proofs.TypedStmtTrees.{tstmt_block, tstmt_for, tstmt_switch}
use Rattle.c_typing.specs.Settled.{settled_expr, settled_stmt, settled_stmts}

pub block_settled : (next stmt : TStmt) (r : Result (Unit {0}) AllocError) (objects : List ObjectTree) (at : Pos) (kind : BlockKind) (numbers : List ℕ)
    (old new : TStmts) → next ≡ stmts.Block at kind numbers new → stmt ≡ stmts.Block at kind numbers old
    → IfOk r (λ _. tstmts_tree new ≡ settled_stmts objects (tstmts_tree old))
    → IfOk r (λ _. tstmt_tree next ≡ settled_stmt objects (tstmt_tree stmt))
unfolding settled_stmt
block_settled next stmt (Err x) objects at kind numbers old new made is h = h
block_settled next stmt (Ok x) objects at kind numbers old new made is h =
    rw (made, is, tstmt_block at kind numbers new, tstmt_block at kind numbers old, h) refl

pub switch_settled : (next stmt : TStmt) (r : Result (Unit {0}) AllocError) (objects : List ObjectTree) (at : Pos) (value last : TExpr) (kind : BlockKind)
    (numbers : List ℕ) (old new : TStmts) → next ≡ stmts.Switch at last kind numbers new → stmt ≡ stmts.Switch at value kind numbers old
    → texpr_tree last ≡ settled_expr objects (texpr_tree value)
    → IfOk r (λ _. tstmts_tree new ≡ settled_stmts objects (tstmts_tree old))
    → IfOk r (λ _. tstmt_tree next ≡ settled_stmt objects (tstmt_tree stmt))
unfolding settled_stmt
switch_settled next stmt (Err x) objects at value last kind numbers old new made is e h = h
switch_settled next stmt (Ok x) objects at value last kind numbers old new made is e h =
    rw (made, is, tstmt_switch at last kind numbers new, tstmt_switch at value kind numbers old, e, h) refl

pub for_settled : (next stmt : TStmt) (r : Result (Unit {0}) AllocError) (objects : List ObjectTree) (at : Pos) (numbers : List ℕ) (old new : TStmts)
    (condition test step turn : Option TExpr) (body again : Box TStmt Global)
    → next ≡ stmts.For at numbers new test turn again → stmt ≡ stmts.For at numbers old condition step body
    → option_map texpr_tree test ≡ option_map (settled_expr objects) (option_map texpr_tree condition)
    → option_map texpr_tree turn ≡ option_map (settled_expr objects) (option_map texpr_tree step)
    → tstmts_tree new ≡ settled_stmts objects (tstmts_tree old)
    → IfOk r (λ _. tstmt_tree again.value ≡ settled_stmt objects (tstmt_tree body.value))
    → IfOk r (λ _. tstmt_tree next ≡ settled_stmt objects (tstmt_tree stmt))
unfolding settled_stmt
for_settled next stmt (Err x) objects at numbers old new condition test step turn body again made is c s e h = h
for_settled next stmt (Ok x) objects at numbers old new condition test step turn body again made is c s e h =
    rw (made, is, tstmt_for at numbers new test turn again, tstmt_for at numbers old condition step body, c, s, e, h) refl

pub block_falls : (stmt : TStmt) (at : Pos) (kind : BlockKind) (numbers : List ℕ) (items : TStmts) → stmt ≡ stmts.Block at kind numbers items
    → 3 * tstmts_size (tstmts_tree items) < 3 * tstmt_size (tstmt_tree stmt) + 1
block_falls stmt at kind numbers items is = rw (is, tstmt_block at kind numbers items) (omega arith)

pub switch_falls : (stmt : TStmt) (at : Pos) (value : TExpr) (kind : BlockKind) (numbers : List ℕ) (items : TStmts)
    → stmt ≡ stmts.Switch at value kind numbers items → 3 * tstmts_size (tstmts_tree items) < 3 * tstmt_size (tstmt_tree stmt) + 1
switch_falls stmt at value kind numbers items is = rw (is, tstmt_switch at value kind numbers items) (omega arith)

pub for_falls : (stmt : TStmt) (at : Pos) (numbers : List ℕ) (head : TStmts) (condition step : Option TExpr) (body : Box TStmt Global)
    → stmt ≡ stmts.For at numbers head condition step body → 3 * tstmts_size (tstmts_tree head) < 3 * tstmt_size (tstmt_tree stmt) + 1
for_falls stmt at numbers head condition step body is = rw (is, tstmt_for at numbers head condition step body) (omega arith)
