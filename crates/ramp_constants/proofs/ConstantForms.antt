-- The constants of each form of expression and statement, an equation a form, for the proofs about code that goes through it.
use Rattle.std.proofs.Common.{◌≡◌, ℕ, ℤ, ◌+◌, ◌*◌, ◌<◌, Bool, List, [], ◌∷◌, ◌++◌, map, length, take, get_or, refl, sym, ap, ◌∙◌, arith, append-nil, append_assoc}
use Rattle.std.specs.Prelude.{Option, option_map}
use Rattle.std.specs.declared.boxed.Box.{Box}
use Rattle.std.specs.declared.alloc.Global.{Global}
use Rattle.std.proofs.lemmas.List.{take_more}
use Rattle.std.specs.List.{flat_map}
use Rattle.c_syntax_written.specs.declared.place.Pos.{Pos}
use Rattle.c_syntax_written.specs.declared.int_type.IntType.{IntType}
use Rattle.c_syntax_written.specs.declared.step.StepWay.{StepWay}
use Rattle.c_syntax.specs.declared.operator.TUnaryOp.{TUnaryOp}
use Rattle.c_syntax.specs.declared.operator.TBinaryOp.{TBinaryOp}
use Rattle.c_syntax.specs.declared.operator.Extent.{Extent}
use Rattle.c_syntax.specs.declared.operator.Stride.{Stride}
use Rattle.c_syntax.specs.declared.operator.StepTime.{StepTime}
use Rattle.c_syntax.specs.declared.operator.DerefKind.{DerefKind}
use Rattle.c_syntax.specs.declared.statement.BlockKind.{BlockKind}
use Rattle.c_syntax.specs.declared.typed.TExpr.{TExpr}
use Rattle.c_syntax.specs.declared.statement.TInit.{TInit}
use Rattle.c_syntax.specs.declared.statement.TStmt.{TStmt}
use Rattle.c_syntax.specs.declared.statement.TStmt.TheVariants as codes
use Rattle.c_syntax.specs.declared.statement.TStmts.{TStmts}
use Rattle.c_syntax.specs.Sizes.{tstmt_size, tstmts_size}
use Rattle.c_syntax.proofs.TypedExprTrees.{texprs_nil, texprs_cons}
use Rattle.c_syntax.proofs.TypedStmtTrees.{tstmts_nil, tstmts_cons, tstmt_for}
use Rattle.c_syntax.specs.Types.{CTypeTree}
use Rattle.c_syntax.specs.TypedExpr.{TExprTree, TLvalueTree, TExprTrees, texpr_tree, texprs_from}
use Rattle.c_syntax.specs.TypedExpr as exprs
use Rattle.c_syntax.specs.TypedStmt.{TInitTree, TStmtTree, TStmtTrees, tinit_tree, tstmt_tree, tstmts_from, tstmts_tree}
use Rattle.c_syntax.specs.TypedStmt as stmts
use Rattle.ramp_constants.specs.Constants.{init_constants, constants_among, constants_at, constants_if_there, constants_in, constants_in_items, constants_in_stmt}

pub exprs_const : (x0 : Pos) (x1 : IntType) (x2 : ℤ) → constants_in (exprs.Const x0 x1 x2) ≡ x2 ∷ []
unfolding constants_in
exprs_const x0 x1 x2 = refl

pub exprs_null : (x0 : Pos) (x1 : CTypeTree) → constants_in (exprs.Null x0 x1) ≡ []
unfolding constants_in
exprs_null x0 x1 = refl

pub exprs_load : (x0 : Pos) (x1 : TLvalueTree) → constants_in (exprs.Load x0 x1) ≡ constants_at x1
unfolding constants_in
exprs_load x0 x1 = refl

pub exprs_addressof : (x0 : Pos) (x1 : TLvalueTree) → constants_in (exprs.AddressOf x0 x1) ≡ constants_at x1
unfolding constants_in
exprs_addressof x0 x1 = refl

pub exprs_decay : (x0 : Pos) (x1 : TLvalueTree) → constants_in (exprs.Decay x0 x1) ≡ constants_at x1
unfolding constants_in
exprs_decay x0 x1 = refl

pub exprs_whole : (x0 : Pos) (x1 : TLvalueTree) → constants_in (exprs.Whole x0 x1) ≡ constants_at x1
unfolding constants_in
exprs_whole x0 x1 = refl

pub exprs_unary : (x0 : Pos) (x1 : TUnaryOp) (x2 : TExprTree) → constants_in (exprs.Unary x0 x1 x2) ≡ constants_in x2
unfolding constants_in
exprs_unary x0 x1 x2 = refl

pub exprs_binary : (x0 : Pos) (x1 : TBinaryOp) (x2 : TExprTree) (x3 : TExprTree) → constants_in (exprs.Binary x0 x1 x2 x3) ≡ constants_in x2 ++ constants_in x3
unfolding constants_in
exprs_binary x0 x1 x2 x3 = refl

pub exprs_convert : (x0 : Pos) (x1 : CTypeTree) (x2 : TExprTree) → constants_in (exprs.Convert x0 x1 x2) ≡ constants_in x2
unfolding constants_in
exprs_convert x0 x1 x2 = refl

pub exprs_assign : (x0 : Pos) (x1 : TLvalueTree) (x2 : TExprTree) → constants_in (exprs.Assign x0 x1 x2) ≡ constants_at x1 ++ constants_in x2
unfolding constants_in
exprs_assign x0 x1 x2 = refl

pub exprs_assignstruct : (x0 : Pos) (x1 : Extent) (x2 : TLvalueTree) (x3 : TExprTree) → constants_in (exprs.AssignStruct x0 x1 x2 x3) ≡ constants_at x2 ++ constants_in x3
unfolding constants_in
exprs_assignstruct x0 x1 x2 x3 = refl

pub exprs_compound : (x0 : Pos) (x1 : TBinaryOp) (x2 : TLvalueTree) (x3 : TExprTree) → constants_in (exprs.Compound x0 x1 x2 x3) ≡ constants_at x2 ++ constants_in x3
unfolding constants_in
exprs_compound x0 x1 x2 x3 = refl

pub exprs_step : (x0 : Pos) (x1 : StepTime) (x2 : StepWay) (x3 : Stride) (x4 : TLvalueTree) → constants_in (exprs.Step x0 x1 x2 x3 x4) ≡ constants_at x4
unfolding constants_in
exprs_step x0 x1 x2 x3 x4 = refl

pub exprs_and : (x0 : Pos) (x1 : TExprTree) (x2 : TExprTree) → constants_in (exprs.And x0 x1 x2) ≡ constants_in x1 ++ constants_in x2
unfolding constants_in
exprs_and x0 x1 x2 = refl

pub exprs_or : (x0 : Pos) (x1 : TExprTree) (x2 : TExprTree) → constants_in (exprs.Or x0 x1 x2) ≡ constants_in x1 ++ constants_in x2
unfolding constants_in
exprs_or x0 x1 x2 = refl

pub exprs_cond : (x0 : Pos) (x1 : CTypeTree) (x2 : TExprTree) (x3 : TExprTree) (x4 : TExprTree)
    → constants_in (exprs.Cond x0 x1 x2 x3 x4) ≡ constants_in x2 ++ constants_in x3 ++ constants_in x4
unfolding constants_in
exprs_cond x0 x1 x2 x3 x4 = refl

pub exprs_comma : (x0 : Pos) (x1 : TExprTree) (x2 : TExprTree) → constants_in (exprs.Comma x0 x1 x2) ≡ constants_in x1 ++ constants_in x2
unfolding constants_in
exprs_comma x0 x1 x2 = refl

pub exprs_call : (x0 : Pos) (x1 : ℕ) (x2 : CTypeTree) (x3 : Bool) (x4 : TExprTrees) → constants_in (exprs.Call x0 x1 x2 x3 x4) ≡ constants_among x4
unfolding constants_in
exprs_call x0 x1 x2 x3 x4 = refl

pub exprs_any : (x0 : Pos) (x1 : IntType) → constants_in (exprs.Any x0 x1) ≡ []
unfolding constants_in
exprs_any x0 x1 = refl

pub exprs_assume : (x0 : Pos) (x1 : TExprTree) → constants_in (exprs.Assume x0 x1) ≡ constants_in x1
unfolding constants_in
exprs_assume x0 x1 = refl

pub exprs_assert : (x0 : Pos) (x1 : TExprTree) → constants_in (exprs.Assert x0 x1) ≡ constants_in x1
unfolding constants_in
exprs_assert x0 x1 = refl

pub exprs_var : (x0 : Pos) (x1 : ℕ) (x2 : CTypeTree) (x3 : Bool) → constants_at (exprs.Var x0 x1 x2 x3) ≡ []
unfolding constants_at
exprs_var x0 x1 x2 x3 = refl

pub exprs_deref : (x0 : Pos) (x1 : DerefKind) (x2 : CTypeTree) (x3 : Bool) (x4 : TExprTree)
    → constants_at (exprs.Deref x0 x1 x2 x3 x4) ≡ constants_in x4
unfolding constants_at
exprs_deref x0 x1 x2 x3 x4 = refl

pub exprs_member : (x0 : Pos) (x1 : ℕ) (x2 : ℕ) (x3 : CTypeTree) (x4 : Bool) (x5 : TLvalueTree) → constants_at (exprs.Member x0 x1 x2 x3 x4 x5) ≡ constants_at x5
unfolding constants_at
exprs_member x0 x1 x2 x3 x4 x5 = refl

pub exprs_none : constants_among exprs.none ≡ []
unfolding constants_among
exprs_none = refl

pub exprs_more : (e : TExprTree) (rest : TExprTrees) → constants_among (exprs.more e rest) ≡ constants_in e ++ constants_among rest
unfolding constants_among
exprs_more e rest = refl

pub stmts_empty : (x0 : Pos) → constants_in_stmt (stmts.Empty x0) ≡ []
unfolding constants_in_stmt
stmts_empty x0 = refl

pub stmts_expr : (x0 : Pos) (x1 : TExprTree) → constants_in_stmt (stmts.Expr x0 x1) ≡ constants_in x1
unfolding constants_in_stmt
stmts_expr x0 x1 = refl

pub stmts_block : (x0 : Pos) (x1 : BlockKind) (x2 : List ℕ) (x3 : TStmtTrees) → constants_in_stmt (stmts.Block x0 x1 x2 x3) ≡ constants_in_items x3
unfolding constants_in_stmt
stmts_block x0 x1 x2 x3 = refl

pub stmts_declare : (x0 : Pos) (x1 : ℕ) (x2 : List TInitTree) (x3 : Bool) → constants_in_stmt (stmts.Declare x0 x1 x2 x3) ≡ flat_map init_constants x2
unfolding constants_in_stmt
stmts_declare x0 x1 x2 x3 = refl

pub stmts_static : (x0 : Pos) (x1 : ℕ) → constants_in_stmt (stmts.Static x0 x1) ≡ []
unfolding constants_in_stmt
stmts_static x0 x1 = refl

pub stmts_if : (x0 : Pos) (x1 : TExprTree) (x2 : TStmtTree) (x3 : TStmtTree)
    → constants_in_stmt (stmts.If x0 x1 x2 x3) ≡ constants_in x1 ++ constants_in_stmt x2 ++ constants_in_stmt x3
unfolding constants_in_stmt
stmts_if x0 x1 x2 x3 = refl

pub stmts_while : (x0 : Pos) (x1 : TExprTree) (x2 : TStmtTree) → constants_in_stmt (stmts.While x0 x1 x2) ≡ constants_in x1 ++ constants_in_stmt x2
unfolding constants_in_stmt
stmts_while x0 x1 x2 = refl

pub stmts_dowhile : (x0 : Pos) (x1 : TStmtTree) (x2 : TExprTree) → constants_in_stmt (stmts.DoWhile x0 x1 x2) ≡ constants_in_stmt x1 ++ constants_in x2
unfolding constants_in_stmt
stmts_dowhile x0 x1 x2 = refl

pub stmts_for : (x0 : Pos) (x1 : List ℕ) (x2 : TStmtTrees) (x3 : Option TExprTree) (x4 : Option TExprTree) (x5 : TStmtTree)
    → constants_in_stmt (stmts.For x0 x1 x2 x3 x4 x5) ≡ constants_in_items x2 ++ constants_if_there x3 ++ constants_if_there x4 ++ constants_in_stmt x5
unfolding constants_in_stmt
stmts_for x0 x1 x2 x3 x4 x5 = refl

pub stmts_switch : (x0 : Pos) (x1 : TExprTree) (x2 : BlockKind) (x3 : List ℕ) (x4 : TStmtTrees)
    → constants_in_stmt (stmts.Switch x0 x1 x2 x3 x4) ≡ constants_in x1 ++ constants_in_items x4
unfolding constants_in_stmt
stmts_switch x0 x1 x2 x3 x4 = refl

pub stmts_break : (x0 : Pos) → constants_in_stmt (stmts.Break x0) ≡ []
unfolding constants_in_stmt
stmts_break x0 = refl

pub stmts_continue : (x0 : Pos) → constants_in_stmt (stmts.Continue x0) ≡ []
unfolding constants_in_stmt
stmts_continue x0 = refl

pub stmts_goto : (x0 : Pos) (x1 : ℕ) → constants_in_stmt (stmts.Goto x0 x1) ≡ []
unfolding constants_in_stmt
stmts_goto x0 x1 = refl

pub stmts_return : (x0 : Pos) (x1 : Option TExprTree) → constants_in_stmt (stmts.Return x0 x1) ≡ constants_if_there x1
unfolding constants_in_stmt
stmts_return x0 x1 = refl

pub stmts_label : (x0 : Pos) (x1 : ℕ) → constants_in_stmt (stmts.Label x0 x1) ≡ []
unfolding constants_in_stmt
stmts_label x0 x1 = refl

pub stmts_case : (x0 : Pos) (x1 : ℤ) → constants_in_stmt (stmts.Case x0 x1) ≡ []
unfolding constants_in_stmt
stmts_case x0 x1 = refl

pub stmts_default : (x0 : Pos) → constants_in_stmt (stmts.Default x0) ≡ []
unfolding constants_in_stmt
stmts_default x0 = refl

pub stmts_none : constants_in_items stmts.none ≡ []
unfolding constants_in_items
stmts_none = refl

pub stmts_more : (s : TStmtTree) (rest : TStmtTrees) → constants_in_items (stmts.more s rest) ≡ constants_in_stmt s ++ constants_in_items rest
unfolding constants_in_items
stmts_more s rest = refl

pub nothing_more : (xs : List ℤ) → xs ++ [] ≡ xs
nothing_more = append-nil

pub joined : (xs ys zs : List ℤ) → (xs ++ ys) ++ zs ≡ xs ++ (ys ++ zs)
joined xs ys zs = append_assoc xs ys zs

pub ruleset the_constants = (
  nothing_more,
  joined,
  exprs_const,
  exprs_null,
  exprs_load,
  exprs_addressof,
  exprs_decay,
  exprs_whole,
  exprs_unary,
  exprs_binary,
  exprs_convert,
  exprs_assign,
  exprs_assignstruct,
  exprs_compound,
  exprs_step,
  exprs_and,
  exprs_or,
  exprs_cond,
  exprs_comma,
  exprs_call,
  exprs_any,
  exprs_assume,
  exprs_assert,
  exprs_var,
  exprs_deref,
  exprs_member,
  exprs_none,
  exprs_more,
  stmts_empty,
  stmts_expr,
  stmts_block,
  stmts_declare,
  stmts_static,
  stmts_if,
  stmts_while,
  stmts_dowhile,
  stmts_for,
  stmts_switch,
  stmts_break,
  stmts_continue,
  stmts_goto,
  stmts_return,
  stmts_label,
  stmts_case,
  stmts_default,
  stmts_none,
  stmts_more,
)

-- ---- lists, item by item

among_push : (items : List TExpr) (item : TExpr) → constants_among (texprs_from (items ++ item ∷ []))
    ≡ constants_among (texprs_from items) ++ constants_in (texpr_tree item)
among_push [] item =
    ap constants_among (texprs_cons item [] ∙ ap (exprs.more (texpr_tree item)) texprs_nil) ∙ exprs_more (texpr_tree item) exprs.none
    ∙ ap (λ rest. constants_in (texpr_tree item) ++ rest) exprs_none ∙ append-nil (constants_in (texpr_tree item))
    ∙ sym (ap (λ rest. rest ++ constants_in (texpr_tree item)) (ap constants_among texprs_nil ∙ exprs_none))
among_push (first ∷ items) item =
    ap constants_among (texprs_cons first (items ++ item ∷ [])) ∙ exprs_more (texpr_tree first) (texprs_from (items ++ item ∷ []))
    ∙ ap (λ rest. constants_in (texpr_tree first) ++ rest) (among_push items item)
    ∙ sym (append_assoc (constants_in (texpr_tree first)) (constants_among (texprs_from items)) (constants_in (texpr_tree item)))
    ∙ sym (ap (λ rest. rest ++ constants_in (texpr_tree item)) (ap constants_among (texprs_cons first items) ∙ exprs_more (texpr_tree first) (texprs_from items)))

items_push : (items : List TStmt) (item : TStmt) → constants_in_items (tstmts_from (items ++ item ∷ []))
    ≡ constants_in_items (tstmts_from items) ++ constants_in_stmt (tstmt_tree item)
items_push [] item =
    ap constants_in_items (tstmts_cons item [] ∙ ap (stmts.more (tstmt_tree item)) tstmts_nil) ∙ stmts_more (tstmt_tree item) stmts.none
    ∙ ap (λ rest. constants_in_stmt (tstmt_tree item) ++ rest) stmts_none ∙ append-nil (constants_in_stmt (tstmt_tree item))
    ∙ sym (ap (λ rest. rest ++ constants_in_stmt (tstmt_tree item)) (ap constants_in_items tstmts_nil ∙ stmts_none))
items_push (first ∷ items) item =
    ap constants_in_items (tstmts_cons first (items ++ item ∷ [])) ∙ stmts_more (tstmt_tree first) (tstmts_from (items ++ item ∷ []))
    ∙ ap (λ rest. constants_in_stmt (tstmt_tree first) ++ rest) (items_push items item)
    ∙ sym (append_assoc (constants_in_stmt (tstmt_tree first)) (constants_in_items (tstmts_from items)) (constants_in_stmt (tstmt_tree item)))
    ∙ sym (ap (λ rest. rest ++ constants_in_stmt (tstmt_tree item)) (ap constants_in_items (tstmts_cons first items)
    ∙ stmts_more (tstmt_tree first) (tstmts_from items)))

inits_push : (items : List TInit) (item : TInit) → flat_map init_constants (map tinit_tree (items ++ item ∷ []))
    ≡ flat_map init_constants (map tinit_tree items) ++ init_constants (tinit_tree item)
inits_push [] item = append-nil (init_constants (tinit_tree item))
inits_push (first ∷ items) item =
    ap (λ rest. init_constants (tinit_tree first) ++ rest) (inits_push items item)
    ∙ sym (append_assoc (init_constants (tinit_tree first)) (flat_map init_constants (map tinit_tree items)) (init_constants (tinit_tree item)))

-- one item more, where those that the items take are these
more_constants : {A : Type 0} (all_constants : List A → List ℤ) (one_constants : A → List ℤ)
    → ((xs : List A) (x : A) → all_constants (xs ++ x ∷ []) ≡ all_constants xs ++ one_constants x)
    → (old so_far new : List ℤ) (items : List A) (i : ℕ) (item : A) → i < length items → item ≡ get_or items i item
    → so_far ≡ old ++ all_constants (take i items) → new ≡ so_far ++ one_constants item
    → new ≡ old ++ all_constants (take (i + 1) items)
more_constants all one push old so_far new items i item inside is before now =
    now ∙ ap (λ front. front ++ one item) before ∙ append_assoc old (all (take i items)) (one item)
    ∙ ap (λ rest. old ++ rest) (sym (push (take i items) item)
    ∙ ap all (ap (λ x. take i items ++ x ∷ []) is ∙ sym (take_more items i item inside)))

pub more_args : (old so_far new : List ℤ) (items : List TExpr) (i : ℕ) (item : TExpr) → i < length items → item ≡ get_or items i item
    → so_far ≡ old ++ constants_among (texprs_from (take i items)) → new ≡ so_far ++ constants_in (texpr_tree item)
    → new ≡ old ++ constants_among (texprs_from (take (i + 1) items))
more_args = more_constants (λ items. constants_among (texprs_from items)) (λ item. constants_in (texpr_tree item)) among_push

pub more_items : (old so_far new : List ℤ) (items : List TStmt) (i : ℕ) (item : TStmt) → i < length items → item ≡ get_or items i item
    → so_far ≡ old ++ constants_in_items (tstmts_from (take i items)) → new ≡ so_far ++ constants_in_stmt (tstmt_tree item)
    → new ≡ old ++ constants_in_items (tstmts_from (take (i + 1) items))
more_items = more_constants (λ items. constants_in_items (tstmts_from items)) (λ item. constants_in_stmt (tstmt_tree item)) items_push

pub more_inits : (old so_far new : List ℤ) (items : List TInit) (i : ℕ) (item : TInit) → i < length items → item ≡ get_or items i item
    → so_far ≡ old ++ flat_map init_constants (map tinit_tree (take i items)) → new ≡ so_far ++ init_constants (tinit_tree item)
    → new ≡ old ++ flat_map init_constants (map tinit_tree (take (i + 1) items))
more_inits = more_constants (λ items. flat_map init_constants (map tinit_tree items)) (λ item. init_constants (tinit_tree item)) inits_push

-- ---- a `for`

pub for_constants : (stmt : TStmt) (at : Pos) (objects : List ℕ) (head : TStmts) (condition step : Option TExpr) (body : Box TStmt Global)
    → stmt ≡ codes.For at objects head condition step body
    → constants_in_items (tstmts_tree head) ++ constants_if_there (option_map texpr_tree condition) ++ constants_if_there (option_map texpr_tree step)
    ++ constants_in_stmt (tstmt_tree body.value) ≡ constants_in_stmt (tstmt_tree stmt)
for_constants stmt at objects head condition step body e =
    sym (ap (λ s. constants_in_stmt (tstmt_tree s)) e ∙ ap constants_in_stmt (tstmt_for at objects head condition step body)
    ∙ stmts_for at objects (tstmts_tree head) (option_map texpr_tree condition) (option_map texpr_tree step) (tstmt_tree body.value))

pub for_falls : (stmt : TStmt) (at : Pos) (objects : List ℕ) (head : TStmts) (condition step : Option TExpr) (body : Box TStmt Global)
    → stmt ≡ codes.For at objects head condition step body
    → 5 * (tstmts_size (tstmts_tree head) + tstmt_size (tstmt_tree body.value)) + 3 < 5 * tstmt_size (tstmt_tree stmt)
for_falls stmt at objects head condition step body e =
    rw (ap tstmt_tree e ∙ tstmt_for at objects head condition step body) (omega arith)

pub four_joined : (old a b c d : List ℤ) → old ++ a ++ b ++ c ++ d ≡ old ++ (a ++ b ++ c ++ d)
four_joined old a b c d =
    ap (λ xs. xs ++ c ++ d) (append_assoc old a b) ∙ ap (λ xs. xs ++ d) (append_assoc old (a ++ b) c) ∙ append_assoc old (a ++ b ++ c) d
