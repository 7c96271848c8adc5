-- How typed statements come from their typed parts.
use Rattle.std.specs.Prelude.{◌≡◌, ℕ, ℤ, true, Option, Some, None, List, [], ◌∷◌, ◌++◌, length, position, bytes_eq}
use Rattle.c_syntax_written.specs.declared.place.Pos.{Pos}
use Rattle.c_syntax_written.specs.declared.int_type.IntType.{IntType}
use Rattle.c_syntax_written.specs.Integer.{wrapped}
use Rattle.c_syntax_written.specs.Written as written
use Rattle.c_syntax_written.specs.WrittenParts.{expr_pos, stmt_pos}
use Rattle.c_syntax_written.specs.WrittenDecl.{DeclTree}
use Rattle.c_syntax_written.specs.WrittenFile as files
use Rattle.c_syntax_written.specs.WrittenFile.{ForStartTree, StmtTree, BlockItemTrees}
use Rattle.c_syntax.specs.declared.statement.BlockKind.TheVariants as kinds
use Rattle.c_syntax.specs.Types.{Void, Int}
use Rattle.c_syntax.specs.TypedExpr.{TExprTree}
use Rattle.c_syntax.specs.TypedParts.{texpr_type, not_used}
use Rattle.c_syntax.specs.TypedStmt.{TStmtTrees, Empty, Expr, Block, If, While, DoWhile, For, Switch, Break, Continue, Goto, Return, Label, Case, Default, more}
use Rattle.c_layout.specs.Conversion.{promoted}
use Rattle.c_typing.specs.World.{World, Typed}
use Rattle.c_typing.specs.Names.{opened, closed}
use Rattle.c_typing.specs.Operands.{as_int}
use Rattle.c_typing.specs.Rows.{is_scalar, store_row}
use Rattle.c_typing.specs.Typing.{Types, Valued}
use Rattle.c_typing.specs.Context.{Context, inside_block, inside_loop, inside_switch}
use Rattle.c_typing.specs.Decls.{Made, nothing_made, made_then}
use Rattle.c_typing.specs.Stmts.{Switched, one, no_else, switch_node, without_cases, with_cases_of, with_items, case_before}
use Rattle.c_typing_laws.specs.DeclSteps.{MakesDecl}

-- an expression, its value, and the world behind it
pub record IsValue (w : World) (e : written.ExprTree) (x : TExprTree) (v : World) : Type 0 where
  pub types : Valued (Types w e) (Typed x v)

-- a condition
pub record IsCondition (w : World) (e : written.ExprTree) (x : TExprTree) (v : World) : Type 0 where
  pub value : IsValue w e x v
  pub scalar : is_scalar (texpr_type x) ≡ true

-- one that may be missing
pub data MayCondition (w : World) : Option written.ExprTree → Option TExprTree → World → Type 0 where
  no_condition : MayCondition w None None w
  a_condition : {e : written.ExprTree} {x : TExprTree} {v : World} → IsCondition w e x v → MayCondition w (Some e) (Some x) v

-- an expression that may be missing, whose value is dropped
pub data MayStep (w : World) : Option written.ExprTree → Option TExprTree → World → Type 0 where
  no_step : MayStep w None None w
  a_step : {e : written.ExprTree} {x : TExprTree} {v : World} → IsValue w e x v → MayStep w (Some e) (Some (not_used x)) v

-- what a switch takes
pub record IsSwitched (w : World) (e : written.ExprTree) (s : Switched) (v : World) : Type 0 where
  pub operand : TExprTree
  pub own : IntType
  pub value : IsValue w e operand v
  pub integer : texpr_type operand ≡ Int own
  pub is : s ≡ record { value = as_int (promoted own) own operand; ty = promoted own }

-- what a for begins with
pub data MakesStart (w : World) (around : Context) : ForStartTree → Made → World → Type 0 where
  nothing : MakesStart w around files.Nothing nothing_made w
  value : {e : written.ExprTree} {x : TExprTree} {v : World} → IsValue w e x v
      → MakesStart w around (files.Value e) (record { objects = []; items = one (Expr (expr_pos e) (not_used x)) }) v
  declares : {decl : DeclTree} {made : Made} {v : World} → MakesDecl w around decl made v → MakesStart w around (files.Declares decl) made v

abbrev pub with_label : World → Pos → List ℕ → World
with_label w at name = record w { labels = w.labels ++ record { label = name; pos = at } ∷ [] }

abbrev pub with_case : World → Pos → ℤ → World
with_case w at n = record w { cases = w.cases ++ record { value = n; pos = at } ∷ [] }

abbrev pub with_default : World → Pos → World
with_default w at = record w { default = Some at }

mutual
  -- a statement and its labels
  pub data MakesStmt : World → Context → StmtTree → TStmtTrees → World → Type 0 where
    label : {w v : World} {around : Context} {at : Pos} {name : List ℕ} {body : StmtTree} {items : TStmtTrees}
        → MakesStmt (with_label w at name) around body items v → MakesStmt w around (files.Label at name body) (more (Label at (length w.labels)) items) v
    case : {w u v : World} {around : Context} {at : Pos} {value : written.ExprTree} {body : StmtTree} {x : TExprTree} {items : TStmtTrees} (t : IntType) (n : ℤ)
        → IsValue w value x u → around.switch ≡ Some t → case_before u (wrapped t n) ≡ None → MakesStmt (with_case u at (wrapped t n)) around body items v
        → MakesStmt w around (files.Case at value body) (more (Case at (wrapped t n)) items) v
    default : {w v : World} {around : Context} {at : Pos} {body : StmtTree} {items : TStmtTrees} (t : IntType)
        → around.switch ≡ Some t → w.default ≡ None → MakesStmt (with_default w at) around body items v
        → MakesStmt w around (files.Default at body) (more (Default at) items) v
    block : {w v : World} {around : Context} {at : Pos} {list : BlockItemTrees} {made : Made}
        → MakesItems (opened w) (inside_block around) nothing_made list made v
        → MakesStmt w around (files.Block at list) (one (Block at kinds.Written made.objects made.items)) (closed w v)
    empty : {w : World} {around : Context} {at : Pos} → MakesStmt w around (files.Empty at) (one (Empty at)) w
    expression : {w v : World} {around : Context} {at : Pos} {e : written.ExprTree} {x : TExprTree} → IsValue w e x v
        → MakesStmt w around (files.Expression at e) (one (Expr at (not_used x))) v
    if_alone : {w u v : World} {around : Context} {at : Pos} {c : written.ExprTree} {first : StmtTree} {x : TExprTree} {items : TStmtTrees}
        → IsCondition (opened w) c x u → MakesStmt (opened u) (inside_block around) first items v
        → MakesStmt w around (files.If at c first) (one (If at x (Block (stmt_pos first) kinds.Added [] items) (no_else at))) (closed w (closed u v))
    if_else : {w u v x : World} {around : Context} {at : Pos} {c : written.ExprTree} {first second : StmtTree} {test : TExprTree} {items others : TStmtTrees}
        → IsCondition (opened w) c test u → MakesStmt (opened u) (inside_block around) first items v
        → MakesStmt (opened (closed u v)) (inside_block around) second others x
        → MakesStmt w around (files.IfElse at c first second)
        (one (If at test (Block (stmt_pos first) kinds.Added [] items) (Block (stmt_pos second) kinds.Added [] others))) (closed w (closed (closed u v) x))
    switch_block : {w u v : World} {around : Context} {at block_at : Pos} {value : written.ExprTree} {list : BlockItemTrees} {s : Switched} {made : Made}
        → IsSwitched (opened w) value s u → MakesItems (opened (without_cases u)) (inside_switch s.ty around) nothing_made list made v
        → MakesStmt w around (files.Switch at value (files.Block block_at list)) (one (switch_node at s made))
        (with_cases_of w (closed w (closed (without_cases u) v)))
    switch_one : {w u v : World} {around : Context} {at : Pos} {value : written.ExprTree} {body : StmtTree} {s : Switched} {items : TStmtTrees}
        → IsSwitched (opened w) value s u → MakesStmt (opened (without_cases u)) (inside_switch s.ty around) body items v
        → MakesStmt w around (files.Switch at value body) (one (Switch at s.value kinds.Added [] items)) (with_cases_of w (closed w v))
    while : {w u v : World} {around : Context} {at : Pos} {c : written.ExprTree} {body : StmtTree} {x : TExprTree} {items : TStmtTrees}
        → IsCondition (opened w) c x u → MakesStmt (opened u) (inside_loop around) body items v
        → MakesStmt w around (files.While at c body) (one (While at x (Block (stmt_pos body) kinds.Added [] items))) (closed w (closed u v))
    do_while : {w u v : World} {around : Context} {at : Pos} {c : written.ExprTree} {body : StmtTree} {x : TExprTree} {items : TStmtTrees}
        → MakesStmt (opened (opened w)) (inside_loop around) body items u → IsCondition (closed (opened w) u) c x v
        → MakesStmt w around (files.DoWhile at body c) (one (DoWhile at (Block (stmt_pos body) kinds.Added [] items) x)) (closed w v)
    for : {w u v x y : World} {around : Context} {at : Pos} {start : ForStartTree} {c step : Option written.ExprTree} {body : StmtTree}
        {head : Made} {test next : Option TExprTree} {items : TStmtTrees}
        → MakesStart (opened w) (inside_block around) start head u → MayCondition u c test v → MayStep v step next x
        → MakesStmt (opened x) (inside_loop around) body items y
        → MakesStmt w around (files.For at start c step body) (one (For at head.objects head.items test next (Block (stmt_pos body) kinds.Added [] items)))
        (closed w (closed x y))
    goto : {w : World} {around : Context} {at : Pos} {name : List ℕ} {n : ℕ} → position (λ label. bytes_eq label name) around.labels ≡ Some n
        → MakesStmt w around (files.Goto at name) (one (Goto at n)) w
    continue : {w : World} {around : Context} {at : Pos} → around.continues ≡ true → MakesStmt w around (files.Continue at) (one (Continue at)) w
    break : {w : World} {around : Context} {at : Pos} → around.breaks ≡ true → MakesStmt w around (files.Break at) (one (Break at)) w
    return_bare : {w : World} {around : Context} {at : Pos} → around.result ≡ Void → MakesStmt w around (files.Return at None) (one (Return at None)) w
    return_value : {w v : World} {around : Context} {at : Pos} {e : written.ExprTree} {x y : TExprTree} → IsValue w e x v
        → store_row around.result (texpr_type x) x ≡ Some y
        → MakesStmt w around (files.Return at (Some e)) (one (Return at (Some y))) v

  -- the items of a block, behind those that stand before them
  pub data MakesItems : World → Context → Made → BlockItemTrees → Made → World → Type 0 where
    no_items : {w : World} {around : Context} {done : Made} → MakesItems w around done files.none done w
    declaration : {w u v : World} {around : Context} {done made all : Made} {decl : DeclTree} {rest : BlockItemTrees}
        → MakesDecl w around decl made u → MakesItems u around (made_then done made) rest all v
        → MakesItems w around done (files.more (files.Declaration decl) rest) all v
    statement : {w u v : World} {around : Context} {done all : Made} {s : StmtTree} {items : TStmtTrees} {rest : BlockItemTrees}
        → MakesStmt w around s items u → MakesItems u around (with_items done items) rest all v
        → MakesItems w around done (files.more (files.Statement s) rest) all v
