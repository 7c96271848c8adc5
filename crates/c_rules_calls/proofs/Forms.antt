-- What the calls of each form of expression and statement are, an equation a form, for the proofs about code that goes through it.
use Rattle.std.proofs.Common.{◌≡◌, ℕ, ℤ, ◌+◌, ◌*◌, ◌<◌, Bool, List, [], ◌∷◌, ◌++◌, map, length, take, get_or, refl, sym, ap, ◌∙◌, arith, append-nil, append_assoc}
use Rattle.std.specs.Prelude.{Option, option_map}
use Rattle.std.specs.declared.boxed.Box.{Box}
use Rattle.std.specs.declared.alloc.Global.{Global}
use Rattle.std.proofs.lemmas.List.{take_more}
use Rattle.std.specs.List.{flat_map}
use Rattle.c_syntax_written.specs.declared.place.Pos.{Pos}
use Rattle.c_syntax_written.specs.declared.int_type.IntType.{IntType}
use Rattle.c_syntax_written.specs.declared.step.StepWay.{StepWay}
use Rattle.c_syntax.specs.declared.operator.TUnaryOp.{TUnaryOp}
use Rattle.c_syntax.specs.declared.operator.TBinaryOp.{TBinaryOp}
use Rattle.c_syntax.specs.declared.operator.Extent.{Extent}
use Rattle.c_syntax.specs.declared.operator.Stride.{Stride}
use Rattle.c_syntax.specs.declared.operator.StepTime.{StepTime}
use Rattle.c_syntax.specs.declared.operator.DerefKind.{DerefKind}
use Rattle.c_syntax.specs.declared.statement.BlockKind.{BlockKind}
use Rattle.c_syntax.specs.declared.typed.TExpr.{TExpr}
use Rattle.c_syntax.specs.declared.statement.TInit.{TInit}
use Rattle.c_syntax.specs.declared.statement.TStmt.{TStmt}
use Rattle.c_syntax.specs.declared.statement.TStmt.TheVariants as codes
use Rattle.c_syntax.specs.declared.statement.TStmts.{TStmts}
use Rattle.c_syntax.specs.Sizes.{tstmt_size, tstmts_size}
use Rattle.c_syntax.proofs.TypedExprTrees.{texprs_nil, texprs_cons}
use Rattle.c_syntax.proofs.TypedStmtTrees.{tstmts_nil, tstmts_cons, tstmt_for}
use Rattle.c_syntax.specs.Types.{CTypeTree}
use Rattle.c_syntax.specs.TypedExpr.{TExprTree, TLvalueTree, TExprTrees, texpr_tree, texprs_from}
use Rattle.c_syntax.specs.TypedExpr as exprs
use Rattle.c_syntax.specs.TypedStmt.{TInitTree, TStmtTree, TStmtTrees, tinit_tree, tstmt_tree, tstmts_from, tstmts_tree}
use Rattle.c_syntax.specs.TypedStmt as stmts
use Rattle.c_layout.specs.Calls.{PlacedCall, calls_of, calls_at, calls_among, init_calls, calls_if_there, stmt_calls, item_calls}

pub exprs_const : (x0 : Pos) (x1 : IntType) (x2 : ℤ) → calls_of (exprs.Const x0 x1 x2) ≡ []
unfolding calls_of
exprs_const x0 x1 x2 = refl

pub exprs_null : (x0 : Pos) (x1 : CTypeTree) → calls_of (exprs.Null x0 x1) ≡ []
unfolding calls_of
exprs_null x0 x1 = refl

pub exprs_load : (x0 : Pos) (x1 : TLvalueTree) → calls_of (exprs.Load x0 x1) ≡ calls_at x1
unfolding calls_of
exprs_load x0 x1 = refl

pub exprs_addressof : (x0 : Pos) (x1 : TLvalueTree) → calls_of (exprs.AddressOf x0 x1) ≡ calls_at x1
unfolding calls_of
exprs_addressof x0 x1 = refl

pub exprs_decay : (x0 : Pos) (x1 : TLvalueTree) → calls_of (exprs.Decay x0 x1) ≡ calls_at x1
unfolding calls_of
exprs_decay x0 x1 = refl

pub exprs_whole : (x0 : Pos) (x1 : TLvalueTree) → calls_of (exprs.Whole x0 x1) ≡ calls_at x1
unfolding calls_of
exprs_whole x0 x1 = refl

pub exprs_unary : (x0 : Pos) (x1 : TUnaryOp) (x2 : TExprTree) → calls_of (exprs.Unary x0 x1 x2) ≡ calls_of x2
unfolding calls_of
exprs_unary x0 x1 x2 = refl

pub exprs_binary : (x0 : Pos) (x1 : TBinaryOp) (x2 : TExprTree) (x3 : TExprTree) → calls_of (exprs.Binary x0 x1 x2 x3) ≡ calls_of x2 ++ calls_of x3
unfolding calls_of
exprs_binary x0 x1 x2 x3 = refl

pub exprs_convert : (x0 : Pos) (x1 : CTypeTree) (x2 : TExprTree) → calls_of (exprs.Convert x0 x1 x2) ≡ calls_of x2
unfolding calls_of
exprs_convert x0 x1 x2 = refl

pub exprs_assign : (x0 : Pos) (x1 : TLvalueTree) (x2 : TExprTree) → calls_of (exprs.Assign x0 x1 x2) ≡ calls_at x1 ++ calls_of x2
unfolding calls_of
exprs_assign x0 x1 x2 = refl

pub exprs_assignstruct : (x0 : Pos) (x1 : Extent) (x2 : TLvalueTree) (x3 : TExprTree) → calls_of (exprs.AssignStruct x0 x1 x2 x3) ≡ calls_at x2 ++ calls_of x3
unfolding calls_of
exprs_assignstruct x0 x1 x2 x3 = refl

pub exprs_compound : (x0 : Pos) (x1 : TBinaryOp) (x2 : TLvalueTree) (x3 : TExprTree) → calls_of (exprs.Compound x0 x1 x2 x3) ≡ calls_at x2 ++ calls_of x3
unfolding calls_of
exprs_compound x0 x1 x2 x3 = refl

pub exprs_step : (x0 : Pos) (x1 : StepTime) (x2 : StepWay) (x3 : Stride) (x4 : TLvalueTree) → calls_of (exprs.Step x0 x1 x2 x3 x4) ≡ calls_at x4
unfolding calls_of
exprs_step x0 x1 x2 x3 x4 = refl

pub exprs_and : (x0 : Pos) (x1 : TExprTree) (x2 : TExprTree) → calls_of (exprs.And x0 x1 x2) ≡ calls_of x1 ++ calls_of x2
unfolding calls_of
exprs_and x0 x1 x2 = refl

pub exprs_or : (x0 : Pos) (x1 : TExprTree) (x2 : TExprTree) → calls_of (exprs.Or x0 x1 x2) ≡ calls_of x1 ++ calls_of x2
unfolding calls_of
exprs_or x0 x1 x2 = refl

pub exprs_cond : (x0 : Pos) (x1 : CTypeTree) (x2 : TExprTree) (x3 : TExprTree) (x4 : TExprTree) → calls_of (exprs.Cond x0 x1 x2 x3 x4) ≡ calls_of x2 ++ calls_of x3 ++ calls_of x4
unfolding calls_of
exprs_cond x0 x1 x2 x3 x4 = refl

pub exprs_comma : (x0 : Pos) (x1 : TExprTree) (x2 : TExprTree) → calls_of (exprs.Comma x0 x1 x2) ≡ calls_of x1 ++ calls_of x2
unfolding calls_of
exprs_comma x0 x1 x2 = refl

pub exprs_call : (x0 : Pos) (x1 : ℕ) (x2 : CTypeTree) (x3 : Bool) (x4 : TExprTrees) → calls_of (exprs.Call x0 x1 x2 x3 x4) ≡ calls_among x4 ++ record { pos = x0; callee = x1 } ∷ []
unfolding calls_of
exprs_call x0 x1 x2 x3 x4 = refl

pub exprs_any : (x0 : Pos) (x1 : IntType) → calls_of (exprs.Any x0 x1) ≡ []
unfolding calls_of
exprs_any x0 x1 = refl

pub exprs_assume : (x0 : Pos) (x1 : TExprTree) → calls_of (exprs.Assume x0 x1) ≡ calls_of x1
unfolding calls_of
exprs_assume x0 x1 = refl

pub exprs_assert : (x0 : Pos) (x1 : TExprTree) → calls_of (exprs.Assert x0 x1) ≡ calls_of x1
unfolding calls_of
exprs_assert x0 x1 = refl

pub exprs_var : (x0 : Pos) (x1 : ℕ) (x2 : CTypeTree) (x3 : Bool) → calls_at (exprs.Var x0 x1 x2 x3) ≡ []
unfolding calls_at
exprs_var x0 x1 x2 x3 = refl

pub exprs_deref : (x0 : Pos) (x1 : DerefKind) (x2 : CTypeTree) (x3 : Bool) (x4 : TExprTree) → calls_at (exprs.Deref x0 x1 x2 x3 x4) ≡ calls_of x4
unfolding calls_at
exprs_deref x0 x1 x2 x3 x4 = refl

pub exprs_member : (x0 : Pos) (x1 : ℕ) (x2 : ℕ) (x3 : CTypeTree) (x4 : Bool) (x5 : TLvalueTree) → calls_at (exprs.Member x0 x1 x2 x3 x4 x5) ≡ calls_at x5
unfolding calls_at
exprs_member x0 x1 x2 x3 x4 x5 = refl

pub exprs_none : calls_among exprs.none ≡ []
unfolding calls_among
exprs_none = refl

pub exprs_more : (e : TExprTree) (rest : TExprTrees) → calls_among (exprs.more e rest) ≡ calls_of e ++ calls_among rest
unfolding calls_among
exprs_more e rest = refl

pub stmts_empty : (x0 : Pos) → stmt_calls (stmts.Empty x0) ≡ []
unfolding stmt_calls
stmts_empty x0 = refl

pub stmts_expr : (x0 : Pos) (x1 : TExprTree) → stmt_calls (stmts.Expr x0 x1) ≡ calls_of x1
unfolding stmt_calls
stmts_expr x0 x1 = refl

pub stmts_block : (x0 : Pos) (x1 : BlockKind) (x2 : List ℕ) (x3 : TStmtTrees) → stmt_calls (stmts.Block x0 x1 x2 x3) ≡ item_calls x3
unfolding stmt_calls
stmts_block x0 x1 x2 x3 = refl

pub stmts_declare : (x0 : Pos) (x1 : ℕ) (x2 : List TInitTree) (x3 : Bool) → stmt_calls (stmts.Declare x0 x1 x2 x3) ≡ flat_map init_calls x2
unfolding stmt_calls
stmts_declare x0 x1 x2 x3 = refl

pub stmts_static : (x0 : Pos) (x1 : ℕ) → stmt_calls (stmts.Static x0 x1) ≡ []
unfolding stmt_calls
stmts_static x0 x1 = refl

pub stmts_if : (x0 : Pos) (x1 : TExprTree) (x2 : TStmtTree) (x3 : TStmtTree) → stmt_calls (stmts.If x0 x1 x2 x3) ≡ calls_of x1 ++ stmt_calls x2 ++ stmt_calls x3
unfolding stmt_calls
stmts_if x0 x1 x2 x3 = refl

pub stmts_while : (x0 : Pos) (x1 : TExprTree) (x2 : TStmtTree) → stmt_calls (stmts.While x0 x1 x2) ≡ calls_of x1 ++ stmt_calls x2
unfolding stmt_calls
stmts_while x0 x1 x2 = refl

pub stmts_dowhile : (x0 : Pos) (x1 : TStmtTree) (x2 : TExprTree) → stmt_calls (stmts.DoWhile x0 x1 x2) ≡ stmt_calls x1 ++ calls_of x2
unfolding stmt_calls
stmts_dowhile x0 x1 x2 = refl

pub stmts_for : (x0 : Pos) (x1 : List ℕ) (x2 : TStmtTrees) (x3 : Option TExprTree) (x4 : Option TExprTree) (x5 : TStmtTree) → stmt_calls (stmts.For x0 x1 x2 x3 x4 x5) ≡ item_calls x2 ++ calls_if_there x3 ++ calls_if_there x4 ++ stmt_calls x5
unfolding stmt_calls
stmts_for x0 x1 x2 x3 x4 x5 = refl

pub stmts_switch : (x0 : Pos) (x1 : TExprTree) (x2 : BlockKind) (x3 : List ℕ) (x4 : TStmtTrees) → stmt_calls (stmts.Switch x0 x1 x2 x3 x4) ≡ calls_of x1 ++ item_calls x4
unfolding stmt_calls
stmts_switch x0 x1 x2 x3 x4 = refl

pub stmts_break : (x0 : Pos) → stmt_calls (stmts.Break x0) ≡ []
unfolding stmt_calls
stmts_break x0 = refl

pub stmts_continue : (x0 : Pos) → stmt_calls (stmts.Continue x0) ≡ []
unfolding stmt_calls
stmts_continue x0 = refl

pub stmts_goto : (x0 : Pos) (x1 : ℕ) → stmt_calls (stmts.Goto x0 x1) ≡ []
unfolding stmt_calls
stmts_goto x0 x1 = refl

pub stmts_return : (x0 : Pos) (x1 : Option TExprTree) → stmt_calls (stmts.Return x0 x1) ≡ calls_if_there x1
unfolding stmt_calls
stmts_return x0 x1 = refl

pub stmts_label : (x0 : Pos) (x1 : ℕ) → stmt_calls (stmts.Label x0 x1) ≡ []
unfolding stmt_calls
stmts_label x0 x1 = refl

pub stmts_case : (x0 : Pos) (x1 : ℤ) → stmt_calls (stmts.Case x0 x1) ≡ []
unfolding stmt_calls
stmts_case x0 x1 = refl

pub stmts_default : (x0 : Pos) → stmt_calls (stmts.Default x0) ≡ []
unfolding stmt_calls
stmts_default x0 = refl

pub stmts_none : item_calls stmts.none ≡ []
unfolding item_calls
stmts_none = refl

pub stmts_more : (s : TStmtTree) (rest : TStmtTrees) → item_calls (stmts.more s rest) ≡ stmt_calls s ++ item_calls rest
unfolding item_calls
stmts_more s rest = refl

pub nothing_more : (xs : List PlacedCall) → xs ++ [] ≡ xs
nothing_more = append-nil

pub joined : (xs ys zs : List PlacedCall) → (xs ++ ys) ++ zs ≡ xs ++ (ys ++ zs)
joined xs ys zs = append_assoc xs ys zs

pub ruleset the_calls = (
  nothing_more,
  joined,
  exprs_const,
  exprs_null,
  exprs_load,
  exprs_addressof,
  exprs_decay,
  exprs_whole,
  exprs_unary,
  exprs_binary,
  exprs_convert,
  exprs_assign,
  exprs_assignstruct,
  exprs_compound,
  exprs_step,
  exprs_and,
  exprs_or,
  exprs_cond,
  exprs_comma,
  exprs_call,
  exprs_any,
  exprs_assume,
  exprs_assert,
  exprs_var,
  exprs_deref,
  exprs_member,
  exprs_none,
  exprs_more,
  stmts_empty,
  stmts_expr,
  stmts_block,
  stmts_declare,
  stmts_static,
  stmts_if,
  stmts_while,
  stmts_dowhile,
  stmts_for,
  stmts_switch,
  stmts_break,
  stmts_continue,
  stmts_goto,
  stmts_return,
  stmts_label,
  stmts_case,
  stmts_default,
  stmts_none,
  stmts_more,
)

-- ---- lists, item by item

among_push : (items : List TExpr) (item : TExpr) → calls_among (texprs_from (items ++ item ∷ [])) ≡ calls_among (texprs_from items) ++ calls_of (texpr_tree item)
among_push [] item =
    ap calls_among (texprs_cons item [] ∙ ap (exprs.more (texpr_tree item)) texprs_nil) ∙ exprs_more (texpr_tree item) exprs.none
    ∙ ap (λ rest. calls_of (texpr_tree item) ++ rest) exprs_none ∙ append-nil (calls_of (texpr_tree item))
    ∙ sym (ap (λ rest. rest ++ calls_of (texpr_tree item)) (ap calls_among texprs_nil ∙ exprs_none))
among_push (first ∷ items) item =
    ap calls_among (texprs_cons first (items ++ item ∷ [])) ∙ exprs_more (texpr_tree first) (texprs_from (items ++ item ∷ []))
    ∙ ap (λ rest. calls_of (texpr_tree first) ++ rest) (among_push items item)
    ∙ sym (append_assoc (calls_of (texpr_tree first)) (calls_among (texprs_from items)) (calls_of (texpr_tree item)))
    ∙ sym (ap (λ rest. rest ++ calls_of (texpr_tree item)) (ap calls_among (texprs_cons first items) ∙ exprs_more (texpr_tree first) (texprs_from items)))

items_push : (items : List TStmt) (item : TStmt) → item_calls (tstmts_from (items ++ item ∷ [])) ≡ item_calls (tstmts_from items) ++ stmt_calls (tstmt_tree item)
items_push [] item =
    ap item_calls (tstmts_cons item [] ∙ ap (stmts.more (tstmt_tree item)) tstmts_nil) ∙ stmts_more (tstmt_tree item) stmts.none
    ∙ ap (λ rest. stmt_calls (tstmt_tree item) ++ rest) stmts_none ∙ append-nil (stmt_calls (tstmt_tree item))
    ∙ sym (ap (λ rest. rest ++ stmt_calls (tstmt_tree item)) (ap item_calls tstmts_nil ∙ stmts_none))
items_push (first ∷ items) item =
    ap item_calls (tstmts_cons first (items ++ item ∷ [])) ∙ stmts_more (tstmt_tree first) (tstmts_from (items ++ item ∷ []))
    ∙ ap (λ rest. stmt_calls (tstmt_tree first) ++ rest) (items_push items item)
    ∙ sym (append_assoc (stmt_calls (tstmt_tree first)) (item_calls (tstmts_from items)) (stmt_calls (tstmt_tree item)))
    ∙ sym (ap (λ rest. rest ++ stmt_calls (tstmt_tree item)) (ap item_calls (tstmts_cons first items) ∙ stmts_more (tstmt_tree first) (tstmts_from items)))

inits_push : (items : List TInit) (item : TInit) → flat_map init_calls (map tinit_tree (items ++ item ∷ []))
    ≡ flat_map init_calls (map tinit_tree items) ++ init_calls (tinit_tree item)
inits_push [] item = append-nil (init_calls (tinit_tree item))
inits_push (first ∷ items) item =
    ap (λ rest. init_calls (tinit_tree first) ++ rest) (inits_push items item)
    ∙ sym (append_assoc (init_calls (tinit_tree first)) (flat_map init_calls (map tinit_tree items)) (init_calls (tinit_tree item)))

-- one item more, where the calls of the items are these
more_calls : {A : Type 0} (calls_in_all : List A → List PlacedCall) (calls_in_one : A → List PlacedCall)
    → ((xs : List A) (x : A) → calls_in_all (xs ++ x ∷ []) ≡ calls_in_all xs ++ calls_in_one x)
    → (old so_far new : List PlacedCall) (items : List A) (i : ℕ) (item : A) → i < length items → item ≡ get_or items i item
    → so_far ≡ old ++ calls_in_all (take i items) → new ≡ so_far ++ calls_in_one item
    → new ≡ old ++ calls_in_all (take (i + 1) items)
more_calls all one push old so_far new items i item inside is before now =
    now ∙ ap (λ front. front ++ one item) before ∙ append_assoc old (all (take i items)) (one item)
    ∙ ap (λ rest. old ++ rest) (sym (push (take i items) item)
    ∙ ap all (ap (λ x. take i items ++ x ∷ []) is ∙ sym (take_more items i item inside)))

pub more_args : (old so_far new : List PlacedCall) (items : List TExpr) (i : ℕ) (item : TExpr) → i < length items → item ≡ get_or items i item
    → so_far ≡ old ++ calls_among (texprs_from (take i items)) → new ≡ so_far ++ calls_of (texpr_tree item)
    → new ≡ old ++ calls_among (texprs_from (take (i + 1) items))
more_args = more_calls (λ items. calls_among (texprs_from items)) (λ item. calls_of (texpr_tree item)) among_push

pub more_items : (old so_far new : List PlacedCall) (items : List TStmt) (i : ℕ) (item : TStmt) → i < length items → item ≡ get_or items i item
    → so_far ≡ old ++ item_calls (tstmts_from (take i items)) → new ≡ so_far ++ stmt_calls (tstmt_tree item)
    → new ≡ old ++ item_calls (tstmts_from (take (i + 1) items))
more_items = more_calls (λ items. item_calls (tstmts_from items)) (λ item. stmt_calls (tstmt_tree item)) items_push

pub more_inits : (old so_far new : List PlacedCall) (items : List TInit) (i : ℕ) (item : TInit) → i < length items → item ≡ get_or items i item
    → so_far ≡ old ++ flat_map init_calls (map tinit_tree (take i items)) → new ≡ so_far ++ init_calls (tinit_tree item)
    → new ≡ old ++ flat_map init_calls (map tinit_tree (take (i + 1) items))
more_inits = more_calls (λ items. flat_map init_calls (map tinit_tree items)) (λ item. init_calls (tinit_tree item)) inits_push

-- ---- a `for`

pub for_calls : (stmt : TStmt) (at : Pos) (objects : List ℕ) (head : TStmts) (condition step : Option TExpr) (body : Box TStmt Global)
    → stmt ≡ codes.For at objects head condition step body
    → item_calls (tstmts_tree head) ++ calls_if_there (option_map texpr_tree condition) ++ calls_if_there (option_map texpr_tree step)
    ++ stmt_calls (tstmt_tree body.value) ≡ stmt_calls (tstmt_tree stmt)
for_calls stmt at objects head condition step body e =
    sym (ap (λ s. stmt_calls (tstmt_tree s)) e ∙ ap stmt_calls (tstmt_for at objects head condition step body)
    ∙ stmts_for at objects (tstmts_tree head) (option_map texpr_tree condition) (option_map texpr_tree step) (tstmt_tree body.value))

pub for_falls : (stmt : TStmt) (at : Pos) (objects : List ℕ) (head : TStmts) (condition step : Option TExpr) (body : Box TStmt Global)
    → stmt ≡ codes.For at objects head condition step body
    → 5 * (tstmts_size (tstmts_tree head) + tstmt_size (tstmt_tree body.value)) + 3 < 5 * tstmt_size (tstmt_tree stmt)
for_falls stmt at objects head condition step body e =
    rw (ap tstmt_tree e ∙ tstmt_for at objects head condition step body) (omega arith)

pub four_joined : (old a b c d : List PlacedCall) → old ++ a ++ b ++ c ++ d ≡ old ++ (a ++ b ++ c ++ d)
four_joined old a b c d =
    ap (λ xs. xs ++ c ++ d) (append_assoc old a b) ∙ ap (λ xs. xs ++ d) (append_assoc old (a ++ b) c) ∙ append_assoc old (a ++ b ++ c) d
