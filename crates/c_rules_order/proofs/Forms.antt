-- The sides of each form of expression and statement, and what it does, an equation a form, for the proofs about code that goes through it.
use Rattle.std.proofs.Common.{◌≡◌, ℕ, ℤ, ◌+◌, ◌*◌, ◌<◌, Bool, List, [], ◌∷◌, ◌++◌, map, length, take, get_or, refl, sym, ap, ◌∙◌, arith, append-nil, append_assoc}
use Rattle.std.specs.Prelude.{Option, option_map}
use Rattle.std.specs.declared.boxed.Box.{Box}
use Rattle.std.specs.declared.alloc.Global.{Global}
use Rattle.std.proofs.lemmas.List.{take_more}
use Rattle.std.specs.List.{flat_map}
use Rattle.c_syntax_written.specs.declared.place.Pos.{Pos}
use Rattle.c_syntax_written.specs.declared.int_type.IntType.{IntType}
use Rattle.c_syntax_written.specs.declared.step.StepWay.{StepWay}
use Rattle.c_syntax.specs.declared.operator.TUnaryOp.{TUnaryOp}
use Rattle.c_syntax.specs.declared.operator.TBinaryOp.{TBinaryOp}
use Rattle.c_syntax.specs.declared.operator.Extent.{Extent}
use Rattle.c_syntax.specs.declared.operator.Stride.{Stride}
use Rattle.c_syntax.specs.declared.operator.StepTime.{StepTime}
use Rattle.c_syntax.specs.declared.operator.DerefKind.{DerefKind}
use Rattle.c_syntax.specs.declared.statement.BlockKind.{BlockKind}
use Rattle.c_syntax.specs.declared.typed.TExpr.{TExpr}
use Rattle.c_syntax.specs.declared.statement.TInit.{TInit}
use Rattle.c_syntax.specs.declared.statement.TStmt.{TStmt}
use Rattle.c_syntax.specs.declared.statement.TStmt.TheVariants as codes
use Rattle.c_syntax.specs.declared.statement.TStmts.{TStmts}
use Rattle.c_syntax.specs.Sizes.{tstmt_size, tstmts_size}
use Rattle.c_syntax.proofs.TypedExprTrees.{texprs_nil, texprs_cons}
use Rattle.c_syntax.proofs.TypedStmtTrees.{tstmts_nil, tstmts_cons, tstmt_for}
use Rattle.c_syntax.specs.Types.{CTypeTree}
use Rattle.c_syntax.specs.TypedExpr.{TExprTree, TLvalueTree, TExprTrees, texpr_tree, texprs_from}
use Rattle.c_syntax.specs.TypedExpr as exprs
use Rattle.c_syntax.specs.TypedStmt.{TInitTree, TStmtTree, TStmtTrees, tinit_tree, tstmt_tree, tstmts_from, tstmts_tree}
use Rattle.c_syntax.specs.TypedStmt as stmts
use Rattle.c_layout.specs.Calls.{PlacedCall, calls_among, calls_at, calls_of}
use Rattle.c_rules_effects.specs.Places.{place_of}
use Rattle.c_rules_effects.specs.Effects.{effects_among, effects_at, effects_of}
use Rattle.c_rules_effects.specs.Joined.{change_at, joined, nothing, read_at, write_at}
use Rattle.c_rules_effects.specs.declared.effects.Effects.{Effects}
use Rattle.c_rules_effects.proofs.Joins.{joined_nothing}
use Rattle.c_rules_order.specs.declared.known.Known.{Known}
use Rattle.c_rules_order.specs.declared.side.Side.{Side}
use Rattle.c_rules_order.specs.declared.side.Comparison.{Comparison}
use Rattle.c_rules_order.specs.Firsts.{or_first}
use Rattle.c_rules_order.specs.Made.{all_joined, no_side, only, sides_joined, with_call, with_own}
use Rattle.c_rules_order.specs.Sides.{all_pairs, compared_among, compared_at, compared_if_there, compared_in, compared_in_items, compared_in_stmt, init_compared, init_side, side_at, side_of, sides_of, stored_beside, two}
use Rattle.c_rules_order.proofs.FirstFound.{or_joined}

pub exprs_const : (x0 : Pos) (x1 : IntType) (x2 : ℤ) → compared_in (exprs.Const x0 x1 x2) ≡ []
unfolding compared_in
exprs_const x0 x1 x2 = refl

pub exprs_null : (x0 : Pos) (x1 : CTypeTree) → compared_in (exprs.Null x0 x1) ≡ []
unfolding compared_in
exprs_null x0 x1 = refl

pub exprs_load : (x0 : Pos) (x1 : TLvalueTree) → compared_in (exprs.Load x0 x1) ≡ compared_at x1
unfolding compared_in
exprs_load x0 x1 = refl

pub exprs_addressof : (x0 : Pos) (x1 : TLvalueTree) → compared_in (exprs.AddressOf x0 x1) ≡ compared_at x1
unfolding compared_in
exprs_addressof x0 x1 = refl

pub exprs_decay : (x0 : Pos) (x1 : TLvalueTree) → compared_in (exprs.Decay x0 x1) ≡ compared_at x1
unfolding compared_in
exprs_decay x0 x1 = refl

pub exprs_whole : (x0 : Pos) (x1 : TLvalueTree) → compared_in (exprs.Whole x0 x1) ≡ compared_at x1
unfolding compared_in
exprs_whole x0 x1 = refl

pub exprs_unary : (x0 : Pos) (x1 : TUnaryOp) (x2 : TExprTree) → compared_in (exprs.Unary x0 x1 x2) ≡ compared_in x2
unfolding compared_in
exprs_unary x0 x1 x2 = refl

pub exprs_binary : (x0 : Pos) (x1 : TBinaryOp) (x2 : TExprTree) (x3 : TExprTree)
    → compared_in (exprs.Binary x0 x1 x2 x3) ≡ compared_in x2 ++ compared_in x3 ++ two x0 (side_of x2) (side_of x3)
unfolding compared_in
exprs_binary x0 x1 x2 x3 = refl

pub exprs_convert : (x0 : Pos) (x1 : CTypeTree) (x2 : TExprTree) → compared_in (exprs.Convert x0 x1 x2) ≡ compared_in x2
unfolding compared_in
exprs_convert x0 x1 x2 = refl

pub exprs_assign : (x0 : Pos) (x1 : TLvalueTree) (x2 : TExprTree)
    → compared_in (exprs.Assign x0 x1 x2) ≡ compared_at x1 ++ compared_in x2 ++ two x0 (side_at x1) (side_of x2) ++ stored_beside x0 x1 x2
unfolding compared_in
exprs_assign x0 x1 x2 = refl

pub exprs_assignstruct : (x0 : Pos) (x1 : Extent) (x2 : TLvalueTree) (x3 : TExprTree)
    → compared_in (exprs.AssignStruct x0 x1 x2 x3) ≡ compared_at x2 ++ compared_in x3 ++ two x0 (side_at x2) (side_of x3) ++ stored_beside x0 x2 x3
unfolding compared_in
exprs_assignstruct x0 x1 x2 x3 = refl

pub exprs_compound : (x0 : Pos) (x1 : TBinaryOp) (x2 : TLvalueTree) (x3 : TExprTree)
    → compared_in (exprs.Compound x0 x1 x2 x3) ≡ compared_at x2 ++ compared_in x3 ++ two x0 (side_at x2) (side_of x3)
    ++ two x0 (only (read_at (place_of x2))) (side_of x3)
unfolding compared_in
exprs_compound x0 x1 x2 x3 = refl

pub exprs_step : (x0 : Pos) (x1 : StepTime) (x2 : StepWay) (x3 : Stride) (x4 : TLvalueTree) → compared_in (exprs.Step x0 x1 x2 x3 x4) ≡ compared_at x4
unfolding compared_in
exprs_step x0 x1 x2 x3 x4 = refl

pub exprs_and : (x0 : Pos) (x1 : TExprTree) (x2 : TExprTree) → compared_in (exprs.And x0 x1 x2) ≡ compared_in x1 ++ compared_in x2
unfolding compared_in
exprs_and x0 x1 x2 = refl

pub exprs_or : (x0 : Pos) (x1 : TExprTree) (x2 : TExprTree) → compared_in (exprs.Or x0 x1 x2) ≡ compared_in x1 ++ compared_in x2
unfolding compared_in
exprs_or x0 x1 x2 = refl

pub exprs_cond : (x0 : Pos) (x1 : CTypeTree) (x2 : TExprTree) (x3 : TExprTree) (x4 : TExprTree)
    → compared_in (exprs.Cond x0 x1 x2 x3 x4) ≡ compared_in x2 ++ compared_in x3 ++ compared_in x4
unfolding compared_in
exprs_cond x0 x1 x2 x3 x4 = refl

pub exprs_comma : (x0 : Pos) (x1 : TExprTree) (x2 : TExprTree) → compared_in (exprs.Comma x0 x1 x2) ≡ compared_in x1 ++ compared_in x2
unfolding compared_in
exprs_comma x0 x1 x2 = refl

pub exprs_call : (x0 : Pos) (x1 : ℕ) (x2 : CTypeTree) (x3 : Bool) (x4 : TExprTrees)
    → compared_in (exprs.Call x0 x1 x2 x3 x4) ≡ compared_among x4 ++ all_pairs x0 (sides_of x4)
unfolding compared_in
exprs_call x0 x1 x2 x3 x4 = refl

pub exprs_any : (x0 : Pos) (x1 : IntType) → compared_in (exprs.Any x0 x1) ≡ []
unfolding compared_in
exprs_any x0 x1 = refl

pub exprs_assume : (x0 : Pos) (x1 : TExprTree) → compared_in (exprs.Assume x0 x1) ≡ compared_in x1
unfolding compared_in
exprs_assume x0 x1 = refl

pub exprs_assert : (x0 : Pos) (x1 : TExprTree) → compared_in (exprs.Assert x0 x1) ≡ compared_in x1
unfolding compared_in
exprs_assert x0 x1 = refl

pub exprs_var : (x0 : Pos) (x1 : ℕ) (x2 : CTypeTree) (x3 : Bool) → compared_at (exprs.Var x0 x1 x2 x3) ≡ []
unfolding compared_at
exprs_var x0 x1 x2 x3 = refl

pub exprs_deref : (x0 : Pos) (x1 : DerefKind) (x2 : CTypeTree) (x3 : Bool) (x4 : TExprTree) → compared_at (exprs.Deref x0 x1 x2 x3 x4) ≡ compared_in x4
unfolding compared_at
exprs_deref x0 x1 x2 x3 x4 = refl

pub exprs_member : (x0 : Pos) (x1 : ℕ) (x2 : ℕ) (x3 : CTypeTree) (x4 : Bool) (x5 : TLvalueTree) → compared_at (exprs.Member x0 x1 x2 x3 x4 x5) ≡ compared_at x5
unfolding compared_at
exprs_member x0 x1 x2 x3 x4 x5 = refl

pub exprs_none : compared_among exprs.none ≡ []
unfolding compared_among
exprs_none = refl

pub exprs_more : (e : TExprTree) (rest : TExprTrees) → compared_among (exprs.more e rest) ≡ compared_in e ++ compared_among rest
unfolding compared_among
exprs_more e rest = refl

pub stmts_empty : (x0 : Pos) → compared_in_stmt (stmts.Empty x0) ≡ []
unfolding compared_in_stmt
stmts_empty x0 = refl

pub stmts_expr : (x0 : Pos) (x1 : TExprTree) → compared_in_stmt (stmts.Expr x0 x1) ≡ compared_in x1
unfolding compared_in_stmt
stmts_expr x0 x1 = refl

pub stmts_block : (x0 : Pos) (x1 : BlockKind) (x2 : List ℕ) (x3 : TStmtTrees) → compared_in_stmt (stmts.Block x0 x1 x2 x3) ≡ compared_in_items x3
unfolding compared_in_stmt
stmts_block x0 x1 x2 x3 = refl

pub stmts_declare : (x0 : Pos) (x1 : ℕ) (x2 : List TInitTree) (x3 : Bool)
    → compared_in_stmt (stmts.Declare x0 x1 x2 x3) ≡ flat_map init_compared x2 ++ all_pairs x0 (map init_side x2)
unfolding compared_in_stmt
stmts_declare x0 x1 x2 x3 = refl

pub stmts_static : (x0 : Pos) (x1 : ℕ) → compared_in_stmt (stmts.Static x0 x1) ≡ []
unfolding compared_in_stmt
stmts_static x0 x1 = refl

pub stmts_if : (x0 : Pos) (x1 : TExprTree) (x2 : TStmtTree) (x3 : TStmtTree)
    → compared_in_stmt (stmts.If x0 x1 x2 x3) ≡ compared_in x1 ++ compared_in_stmt x2 ++ compared_in_stmt x3
unfolding compared_in_stmt
stmts_if x0 x1 x2 x3 = refl

pub stmts_while : (x0 : Pos) (x1 : TExprTree) (x2 : TStmtTree) → compared_in_stmt (stmts.While x0 x1 x2) ≡ compared_in x1 ++ compared_in_stmt x2
unfolding compared_in_stmt
stmts_while x0 x1 x2 = refl

pub stmts_dowhile : (x0 : Pos) (x1 : TStmtTree) (x2 : TExprTree) → compared_in_stmt (stmts.DoWhile x0 x1 x2) ≡ compared_in_stmt x1 ++ compared_in x2
unfolding compared_in_stmt
stmts_dowhile x0 x1 x2 = refl

pub stmts_for : (x0 : Pos) (x1 : List ℕ) (x2 : TStmtTrees) (x3 : Option TExprTree) (x4 : Option TExprTree) (x5 : TStmtTree)
    → compared_in_stmt (stmts.For x0 x1 x2 x3 x4 x5) ≡ compared_in_items x2 ++ compared_if_there x3 ++ compared_if_there x4 ++ compared_in_stmt x5
unfolding compared_in_stmt
stmts_for x0 x1 x2 x3 x4 x5 = refl

pub stmts_switch : (x0 : Pos) (x1 : TExprTree) (x2 : BlockKind) (x3 : List ℕ) (x4 : TStmtTrees)
    → compared_in_stmt (stmts.Switch x0 x1 x2 x3 x4) ≡ compared_in x1 ++ compared_in_items x4
unfolding compared_in_stmt
stmts_switch x0 x1 x2 x3 x4 = refl

pub stmts_break : (x0 : Pos) → compared_in_stmt (stmts.Break x0) ≡ []
unfolding compared_in_stmt
stmts_break x0 = refl

pub stmts_continue : (x0 : Pos) → compared_in_stmt (stmts.Continue x0) ≡ []
unfolding compared_in_stmt
stmts_continue x0 = refl

pub stmts_goto : (x0 : Pos) (x1 : ℕ) → compared_in_stmt (stmts.Goto x0 x1) ≡ []
unfolding compared_in_stmt
stmts_goto x0 x1 = refl

pub stmts_return : (x0 : Pos) (x1 : Option TExprTree) → compared_in_stmt (stmts.Return x0 x1) ≡ compared_if_there x1
unfolding compared_in_stmt
stmts_return x0 x1 = refl

pub stmts_label : (x0 : Pos) (x1 : ℕ) → compared_in_stmt (stmts.Label x0 x1) ≡ []
unfolding compared_in_stmt
stmts_label x0 x1 = refl

pub stmts_case : (x0 : Pos) (x1 : ℤ) → compared_in_stmt (stmts.Case x0 x1) ≡ []
unfolding compared_in_stmt
stmts_case x0 x1 = refl

pub stmts_default : (x0 : Pos) → compared_in_stmt (stmts.Default x0) ≡ []
unfolding compared_in_stmt
stmts_default x0 = refl

pub stmts_none : compared_in_items stmts.none ≡ []
unfolding compared_in_items
stmts_none = refl

pub stmts_more : (s : TStmtTree) (rest : TStmtTrees) → compared_in_items (stmts.more s rest) ≡ compared_in_stmt s ++ compared_in_items rest
unfolding compared_in_items
stmts_more s rest = refl

pub side_const : (x0 : Pos) (x1 : IntType) (x2 : ℤ) → side_of (exprs.Const x0 x1 x2) ≡ no_side
unfolding side_of side_at effects_of calls_of
side_const x0 x1 x2 = refl

pub side_null : (x0 : Pos) (x1 : CTypeTree) → side_of (exprs.Null x0 x1) ≡ no_side
unfolding side_of side_at effects_of calls_of
side_null x0 x1 = refl

pub side_load : (x0 : Pos) (x1 : TLvalueTree) → side_of (exprs.Load x0 x1) ≡ with_own (side_at x1) (read_at (place_of x1))
unfolding side_of side_at effects_of calls_of
side_load x0 x1 = refl

pub side_addressof : (x0 : Pos) (x1 : TLvalueTree) → side_of (exprs.AddressOf x0 x1) ≡ side_at x1
unfolding side_of side_at effects_of calls_of
side_addressof x0 x1 = refl

pub side_decay : (x0 : Pos) (x1 : TLvalueTree) → side_of (exprs.Decay x0 x1) ≡ side_at x1
unfolding side_of side_at effects_of calls_of
side_decay x0 x1 = refl

pub side_whole : (x0 : Pos) (x1 : TLvalueTree) → side_of (exprs.Whole x0 x1) ≡ with_own (side_at x1) (read_at (place_of x1))
unfolding side_of side_at effects_of calls_of
side_whole x0 x1 = refl

pub side_unary : (x0 : Pos) (x1 : TUnaryOp) (x2 : TExprTree) → side_of (exprs.Unary x0 x1 x2) ≡ side_of x2
unfolding side_of side_at effects_of calls_of
side_unary x0 x1 x2 = refl

pub side_binary : (x0 : Pos) (x1 : TBinaryOp) (x2 : TExprTree) (x3 : TExprTree) → side_of (exprs.Binary x0 x1 x2 x3) ≡ sides_joined (side_of x2) (side_of x3)
unfolding side_of side_at effects_of calls_of
side_binary x0 x1 x2 x3 = refl

pub side_convert : (x0 : Pos) (x1 : CTypeTree) (x2 : TExprTree) → side_of (exprs.Convert x0 x1 x2) ≡ side_of x2
unfolding side_of side_at effects_of calls_of
side_convert x0 x1 x2 = refl

pub side_assign : (x0 : Pos) (x1 : TLvalueTree) (x2 : TExprTree)
    → side_of (exprs.Assign x0 x1 x2) ≡ with_own (sides_joined (side_at x1) (side_of x2)) (write_at (place_of x1))
unfolding side_of side_at effects_of calls_of
side_assign x0 x1 x2 = refl

pub side_assignstruct : (x0 : Pos) (x1 : Extent) (x2 : TLvalueTree) (x3 : TExprTree)
    → side_of (exprs.AssignStruct x0 x1 x2 x3) ≡ with_own (sides_joined (side_at x2) (side_of x3)) (write_at (place_of x2))
unfolding side_of side_at effects_of calls_of
side_assignstruct x0 x1 x2 x3 = refl

pub side_compound : (x0 : Pos) (x1 : TBinaryOp) (x2 : TLvalueTree) (x3 : TExprTree)
    → side_of (exprs.Compound x0 x1 x2 x3) ≡ with_own (sides_joined (side_at x2) (side_of x3)) (change_at (place_of x2))
unfolding side_of side_at effects_of calls_of
side_compound x0 x1 x2 x3 = refl

pub side_step : (x0 : Pos) (x1 : StepTime) (x2 : StepWay) (x3 : Stride) (x4 : TLvalueTree)
    → side_of (exprs.Step x0 x1 x2 x3 x4) ≡ with_own (side_at x4) (change_at (place_of x4))
unfolding side_of side_at effects_of calls_of
side_step x0 x1 x2 x3 x4 = refl

pub side_and : (x0 : Pos) (x1 : TExprTree) (x2 : TExprTree) → side_of (exprs.And x0 x1 x2) ≡ sides_joined (side_of x1) (side_of x2)
unfolding side_of side_at effects_of calls_of
side_and x0 x1 x2 = refl

pub side_or : (x0 : Pos) (x1 : TExprTree) (x2 : TExprTree) → side_of (exprs.Or x0 x1 x2) ≡ sides_joined (side_of x1) (side_of x2)
unfolding side_of side_at effects_of calls_of
side_or x0 x1 x2 = refl

pub side_cond : (x0 : Pos) (x1 : CTypeTree) (x2 : TExprTree) (x3 : TExprTree) (x4 : TExprTree)
    → side_of (exprs.Cond x0 x1 x2 x3 x4) ≡ sides_joined (sides_joined (side_of x2) (side_of x3)) (side_of x4)
unfolding side_of side_at effects_of calls_of
side_cond x0 x1 x2 x3 x4 = refl

pub side_comma : (x0 : Pos) (x1 : TExprTree) (x2 : TExprTree) → side_of (exprs.Comma x0 x1 x2) ≡ sides_joined (side_of x1) (side_of x2)
unfolding side_of side_at effects_of calls_of
side_comma x0 x1 x2 = refl

pub side_any : (x0 : Pos) (x1 : IntType) → side_of (exprs.Any x0 x1) ≡ no_side
unfolding side_of side_at effects_of calls_of
side_any x0 x1 = refl

pub side_assume : (x0 : Pos) (x1 : TExprTree) → side_of (exprs.Assume x0 x1) ≡ side_of x1
unfolding side_of side_at effects_of calls_of
side_assume x0 x1 = refl

pub side_assert : (x0 : Pos) (x1 : TExprTree) → side_of (exprs.Assert x0 x1) ≡ side_of x1
unfolding side_of side_at effects_of calls_of
side_assert x0 x1 = refl

pub side_var : (x0 : Pos) (x1 : ℕ) (x2 : CTypeTree) (x3 : Bool) → side_at (exprs.Var x0 x1 x2 x3) ≡ no_side
unfolding side_of side_at effects_at calls_at
side_var x0 x1 x2 x3 = refl

pub side_deref : (x0 : Pos) (x1 : DerefKind) (x2 : CTypeTree) (x3 : Bool) (x4 : TExprTree) → side_at (exprs.Deref x0 x1 x2 x3 x4) ≡ side_of x4
unfolding side_of side_at effects_at calls_at
side_deref x0 x1 x2 x3 x4 = refl

pub side_member : (x0 : Pos) (x1 : ℕ) (x2 : ℕ) (x3 : CTypeTree) (x4 : Bool) (x5 : TLvalueTree) → side_at (exprs.Member x0 x1 x2 x3 x4 x5) ≡ side_at x5
unfolding side_of side_at effects_at calls_at
side_member x0 x1 x2 x3 x4 x5 = refl

pub sides_none : sides_of exprs.none ≡ []
unfolding sides_of
sides_none = refl

pub sides_more : (e : TExprTree) (rest : TExprTrees) → sides_of (exprs.more e rest) ≡ side_of e ∷ sides_of rest
unfolding sides_of
sides_more e rest = refl

among_none : (effects_among [] exprs.none ≡ nothing) × (calls_among exprs.none ≡ [])
unfolding effects_among calls_among
among_none = (refl, refl)

among_more : (e : TExprTree) (rest : TExprTrees) → (effects_among [] (exprs.more e rest) ≡ joined (effects_of [] e) (effects_among [] rest))
    × (calls_among (exprs.more e rest) ≡ calls_of e ++ calls_among rest)
unfolding effects_among calls_among
among_more e rest = (refl, refl)

abbrev among : TExprTrees → Side
among args = record { own = effects_among [] args; calls = calls_among args }

-- the arguments one after the other
args_joined : (args : TExprTrees) → all_joined (sides_of args) ≡ among args
unfolding sides_of side_of effects_among calls_among
args_joined exprs.none = refl
args_joined (exprs.more e rest) = ap (sides_joined (side_of e)) (args_joined rest)

pub side_call : (at : Pos) (function : ℕ) (ty : CTypeTree) (used : Bool) (args : TExprTrees)
    → side_of (exprs.Call at function ty used args) ≡ with_call (all_joined (sides_of args)) at function
unfolding side_of effects_of calls_of
side_call at function ty used args =
    ap (λ own. made own (calls_among args ++ record { pos = at; callee = function } ∷ [])) (joined_nothing (effects_among [] args))
    ∙ sym (ap (λ side. with_call side at function) (args_joined args)) where
      made : Effects → List PlacedCall → Side
      made own calls = record { own = own; calls = calls }

pub ruleset the_sides = (
  exprs_const,
  exprs_null,
  exprs_load,
  exprs_addressof,
  exprs_decay,
  exprs_whole,
  exprs_unary,
  exprs_binary,
  exprs_convert,
  exprs_assign,
  exprs_assignstruct,
  exprs_compound,
  exprs_step,
  exprs_and,
  exprs_or,
  exprs_cond,
  exprs_comma,
  exprs_call,
  exprs_any,
  exprs_assume,
  exprs_assert,
  exprs_var,
  exprs_deref,
  exprs_member,
  exprs_none,
  exprs_more,
  stmts_empty,
  stmts_expr,
  stmts_block,
  stmts_declare,
  stmts_static,
  stmts_if,
  stmts_while,
  stmts_dowhile,
  stmts_for,
  stmts_switch,
  stmts_break,
  stmts_continue,
  stmts_goto,
  stmts_return,
  stmts_label,
  stmts_case,
  stmts_default,
  stmts_none,
  stmts_more,
  side_const,
  side_null,
  side_load,
  side_addressof,
  side_decay,
  side_whole,
  side_unary,
  side_binary,
  side_convert,
  side_assign,
  side_assignstruct,
  side_compound,
  side_step,
  side_and,
  side_or,
  side_cond,
  side_comma,
  side_any,
  side_assume,
  side_assert,
  side_var,
  side_deref,
  side_member,
  sides_none,
  sides_more,
  side_call,
)

-- ---- lists, item by item

compared_push : (items : List TExpr) (item : TExpr)
    → compared_among (texprs_from (items ++ item ∷ [])) ≡ compared_among (texprs_from items) ++ compared_in (texpr_tree item)
compared_push [] item =
    ap compared_among (texprs_cons item [] ∙ ap (exprs.more (texpr_tree item)) texprs_nil) ∙ exprs_more (texpr_tree item) exprs.none
    ∙ ap (λ rest. compared_in (texpr_tree item) ++ rest) exprs_none ∙ append-nil (compared_in (texpr_tree item))
    ∙ sym (ap (λ rest. rest ++ compared_in (texpr_tree item)) (ap compared_among texprs_nil ∙ exprs_none))
compared_push (first ∷ items) item =
    ap compared_among (texprs_cons first (items ++ item ∷ [])) ∙ exprs_more (texpr_tree first) (texprs_from (items ++ item ∷ []))
    ∙ ap (λ rest. compared_in (texpr_tree first) ++ rest) (compared_push items item)
    ∙ sym (append_assoc (compared_in (texpr_tree first)) (compared_among (texprs_from items)) (compared_in (texpr_tree item)))
    ∙ sym (ap (λ rest. rest ++ compared_in (texpr_tree item)) (ap compared_among (texprs_cons first items) ∙ exprs_more (texpr_tree first) (texprs_from items)))

sides_push : (items : List TExpr) (item : TExpr) → sides_of (texprs_from (items ++ item ∷ [])) ≡ sides_of (texprs_from items) ++ side_of (texpr_tree item) ∷ []
sides_push [] item =
    ap sides_of (texprs_cons item [] ∙ ap (exprs.more (texpr_tree item)) texprs_nil) ∙ sides_more (texpr_tree item) exprs.none
    ∙ ap (λ rest. side_of (texpr_tree item) ∷ rest) sides_none
    ∙ sym (ap (λ rest. rest ++ side_of (texpr_tree item) ∷ []) (ap sides_of texprs_nil ∙ sides_none))
sides_push (first ∷ items) item =
    ap sides_of (texprs_cons first (items ++ item ∷ [])) ∙ sides_more (texpr_tree first) (texprs_from (items ++ item ∷ []))
    ∙ ap (λ rest. side_of (texpr_tree first) ∷ rest) (sides_push items item)
    ∙ sym (ap (λ rest. rest ++ side_of (texpr_tree item) ∷ []) (ap sides_of (texprs_cons first items) ∙ sides_more (texpr_tree first) (texprs_from items)))

items_push : (items : List TStmt) (item : TStmt)
    → compared_in_items (tstmts_from (items ++ item ∷ [])) ≡ compared_in_items (tstmts_from items) ++ compared_in_stmt (tstmt_tree item)
items_push [] item =
    ap compared_in_items (tstmts_cons item [] ∙ ap (stmts.more (tstmt_tree item)) tstmts_nil) ∙ stmts_more (tstmt_tree item) stmts.none
    ∙ ap (λ rest. compared_in_stmt (tstmt_tree item) ++ rest) stmts_none ∙ append-nil (compared_in_stmt (tstmt_tree item))
    ∙ sym (ap (λ rest. rest ++ compared_in_stmt (tstmt_tree item)) (ap compared_in_items tstmts_nil ∙ stmts_none))
items_push (first ∷ items) item =
    ap compared_in_items (tstmts_cons first (items ++ item ∷ [])) ∙ stmts_more (tstmt_tree first) (tstmts_from (items ++ item ∷ []))
    ∙ ap (λ rest. compared_in_stmt (tstmt_tree first) ++ rest) (items_push items item)
    ∙ sym (append_assoc (compared_in_stmt (tstmt_tree first)) (compared_in_items (tstmts_from items)) (compared_in_stmt (tstmt_tree item)))
    ∙ sym (ap (λ rest. rest ++ compared_in_stmt (tstmt_tree item)) (ap compared_in_items (tstmts_cons first items)
    ∙ stmts_more (tstmt_tree first) (tstmts_from items)))

inits_push : (items : List TInit) (item : TInit) → flat_map init_compared (map tinit_tree (items ++ item ∷ []))
    ≡ flat_map init_compared (map tinit_tree items) ++ init_compared (tinit_tree item)
inits_push [] item = append-nil (init_compared (tinit_tree item))
inits_push (first ∷ items) item =
    ap (λ rest. init_compared (tinit_tree first) ++ rest) (inits_push items item)
    ∙ sym (append_assoc (init_compared (tinit_tree first)) (flat_map init_compared (map tinit_tree items)) (init_compared (tinit_tree item)))

init_sides_push : (items : List TInit) (item : TInit)
    → map init_side (map tinit_tree (items ++ item ∷ [])) ≡ map init_side (map tinit_tree items) ++ init_side (tinit_tree item) ∷ []
init_sides_push [] item = refl
init_sides_push (first ∷ items) item = ap (λ rest. init_side (tinit_tree first) ∷ rest) (init_sides_push items item)

-- one item more, where the comparisons of the items are these
more_found : {A : Type 0} (known : Known) (all : List A → List Comparison) (one : A → List Comparison) → ((xs : List A) (x : A)
    → all (xs ++ x ∷ []) ≡ all xs ++ one x)
    → (old so_far new : Option Comparison) (items : List A) (i : ℕ) (item : A) → i < length items → item ≡ get_or items i item
    → so_far ≡ or_first known old (all (take i items)) → new ≡ or_first known so_far (one item) → new ≡ or_first known old (all (take (i + 1) items))
more_found known all one push old so_far new items i item inside is before now =
    now ∙ ap (λ front. or_first known front (one item)) before ∙ sym (or_joined known old (all (take i items)) (one item))
    ∙ ap (or_first known old) (sym (push (take i items) item) ∙ ap all (ap (λ x. take i items ++ x ∷ []) is ∙ sym (take_more items i item inside)))

-- and where what the items do is this
more_done : {A : Type 0} (all : List A → List Side) (one : A → Side) → ((xs : List A) (x : A) → all (xs ++ x ∷ []) ≡ all xs ++ one x ∷ [])
    → (so_far new : List Side) (items : List A) (i : ℕ) (item : A) (side : Side) → i < length items → item ≡ get_or items i item
    → so_far ≡ all (take i items) → side ≡ one item → new ≡ so_far ++ side ∷ [] → new ≡ all (take (i + 1) items)
more_done all one push so_far new items i item side inside is before made now =
    now ∙ ap (λ xs. xs ++ side ∷ []) before ∙ ap (λ s. all (take i items) ++ s ∷ []) made ∙ sym (push (take i items) item)
    ∙ ap all (ap (λ x. take i items ++ x ∷ []) is ∙ sym (take_more items i item inside))

pub more_args : (known : Known) (old so_far new : Option Comparison) (items : List TExpr) (i : ℕ) (item : TExpr) → i < length items → item ≡ get_or items i item
    → so_far ≡ or_first known old (compared_among (texprs_from (take i items))) → new ≡ or_first known so_far (compared_in (texpr_tree item))
    → new ≡ or_first known old (compared_among (texprs_from (take (i + 1) items)))
more_args known = more_found known (λ items. compared_among (texprs_from items)) (λ item. compared_in (texpr_tree item)) compared_push

pub more_arg_sides : (so_far new : List Side) (items : List TExpr) (i : ℕ) (item : TExpr) (side : Side) → i < length items → item ≡ get_or items i item
    → so_far ≡ sides_of (texprs_from (take i items)) → side ≡ side_of (texpr_tree item) → new ≡ so_far ++ side ∷ []
    → new ≡ sides_of (texprs_from (take (i + 1) items))
more_arg_sides = more_done (λ items. sides_of (texprs_from items)) (λ item. side_of (texpr_tree item)) sides_push

pub more_items : (known : Known) (old so_far new : Option Comparison) (items : List TStmt) (i : ℕ) (item : TStmt) → i < length items
    → item ≡ get_or items i item
    → so_far ≡ or_first known old (compared_in_items (tstmts_from (take i items))) → new ≡ or_first known so_far (compared_in_stmt (tstmt_tree item))
    → new ≡ or_first known old (compared_in_items (tstmts_from (take (i + 1) items)))
more_items known = more_found known (λ items. compared_in_items (tstmts_from items)) (λ item. compared_in_stmt (tstmt_tree item)) items_push

pub more_inits : (known : Known) (old so_far new : Option Comparison) (items : List TInit) (i : ℕ) (item : TInit) → i < length items
    → item ≡ get_or items i item
    → so_far ≡ or_first known old (flat_map init_compared (map tinit_tree (take i items))) → new ≡ or_first known so_far (init_compared (tinit_tree item))
    → new ≡ or_first known old (flat_map init_compared (map tinit_tree (take (i + 1) items)))
more_inits known = more_found known (λ items. flat_map init_compared (map tinit_tree items)) (λ item. init_compared (tinit_tree item)) inits_push

pub more_init_sides : (so_far new : List Side) (items : List TInit) (i : ℕ) (item : TInit) (side : Side) → i < length items → item ≡ get_or items i item
    → so_far ≡ map init_side (map tinit_tree (take i items)) → side ≡ init_side (tinit_tree item) → new ≡ so_far ++ side ∷ []
    → new ≡ map init_side (map tinit_tree (take (i + 1) items))
more_init_sides = more_done (λ items. map init_side (map tinit_tree items)) (λ item. init_side (tinit_tree item)) init_sides_push

-- ---- a `for`

pub for_compared : (stmt : TStmt) (at : Pos) (objects : List ℕ) (head : TStmts) (condition step : Option TExpr) (body : Box TStmt Global)
    → stmt ≡ codes.For at objects head condition step body
    → compared_in_items (tstmts_tree head) ++ compared_if_there (option_map texpr_tree condition) ++ compared_if_there (option_map texpr_tree step)
    ++ compared_in_stmt (tstmt_tree body.value) ≡ compared_in_stmt (tstmt_tree stmt)
for_compared stmt at objects head condition step body e =
    sym (ap (λ s. compared_in_stmt (tstmt_tree s)) e ∙ ap compared_in_stmt (tstmt_for at objects head condition step body)
    ∙ stmts_for at objects (tstmts_tree head) (option_map texpr_tree condition) (option_map texpr_tree step) (tstmt_tree body.value))

pub for_falls : (stmt : TStmt) (at : Pos) (objects : List ℕ) (head : TStmts) (condition step : Option TExpr) (body : Box TStmt Global)
    → stmt ≡ codes.For at objects head condition step body
    → 5 * (tstmts_size (tstmts_tree head) + tstmt_size (tstmt_tree body.value)) + 3 < 5 * tstmt_size (tstmt_tree stmt)
for_falls stmt at objects head condition step body e =
    rw (ap tstmt_tree e ∙ tstmt_for at objects head condition step body) (omega arith)
