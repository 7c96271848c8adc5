-- The effects of each form of expression and statement, an equation a form, for the proofs about code that goes through it.
use Rattle.std.proofs.Common.{◌≡◌, ℕ, ℤ, zero, suc, ◌+◌, ◌*◌, ◌<◌, ◌≤◌, Bool, List, [], ◌∷◌, ◌++◌, map, length, take, get_or, refl, sym, ap, ◌∙◌, arith}
use Rattle.std.specs.Prelude.{Option, None, option_map, slice_get, unwrap_or}
use Rattle.std.specs.declared.boxed.Box.{Box}
use Rattle.std.specs.declared.alloc.Global.{Global}
use Rattle.std.proofs.lemmas.List.{take_more}
use Rattle.c_syntax_written.specs.declared.place.Pos.{Pos}
use Rattle.c_syntax_written.specs.declared.int_type.IntType.{IntType}
use Rattle.c_syntax_written.specs.declared.step.StepWay.{StepWay}
use Rattle.c_syntax.specs.declared.operator.TUnaryOp.{TUnaryOp}
use Rattle.c_syntax.specs.declared.operator.TBinaryOp.{TBinaryOp}
use Rattle.c_syntax.specs.declared.operator.Extent.{Extent}
use Rattle.c_syntax.specs.declared.operator.Stride.{Stride}
use Rattle.c_syntax.specs.declared.operator.StepTime.{StepTime}
use Rattle.c_syntax.specs.declared.operator.DerefKind.{DerefKind}
use Rattle.c_syntax.specs.declared.statement.BlockKind.{BlockKind}
use Rattle.c_syntax.specs.declared.typed.TExpr.{TExpr}
use Rattle.c_syntax.specs.declared.statement.TInit.{TInit}
use Rattle.c_syntax.specs.declared.statement.TStmt.{TStmt}
use Rattle.c_syntax.specs.declared.statement.TStmt.TheVariants as codes
use Rattle.c_syntax.specs.declared.statement.TStmts.{TStmts}
use Rattle.c_syntax.specs.Sizes.{tstmt_size, tstmts_size}
use Rattle.c_syntax.proofs.TypedExprTrees.{texprs_nil, texprs_cons}
use Rattle.c_syntax.proofs.TypedStmtTrees.{tstmts_nil, tstmts_cons, tstmt_for}
use Rattle.c_syntax.specs.Types.{CTypeTree}
use Rattle.c_syntax.specs.TypedExpr.{TExprTree, TLvalueTree, TExprTrees, texpr_tree, texprs_from}
use Rattle.c_syntax.specs.TypedExpr as exprs
use Rattle.c_syntax.specs.TypedStmt.{TInitTree, TStmtTree, TStmtTrees, tinit_tree, tstmt_tree, tstmts_from, tstmts_tree}
use Rattle.c_syntax.specs.TypedStmt as stmts
use Rattle.c_rules_effects.specs.Places.{place_of}
use Rattle.c_rules_effects.specs.declared.effects.Effects.{Effects}
use Rattle.c_rules_effects.specs.Effects.{called, effects_among, effects_at, effects_if_there, effects_in, effects_in_items, effects_of, init_effects, inits_effects}
use Rattle.c_rules_effects.specs.Joined.{change_at, joined, nothing, read_at, write_at}
use Rattle.c_rules_effects.proofs.Joins.{joined_nothing, nothing_joined, three}

pub exprs_const : (known : List Effects) (at : Pos) (ty : IntType) (value : ℤ) → effects_of known (exprs.Const at ty value) ≡ nothing
unfolding effects_of
exprs_const known at ty value = refl

pub exprs_null : (known : List Effects) (at : Pos) (ty : CTypeTree) → effects_of known (exprs.Null at ty) ≡ nothing
unfolding effects_of
exprs_null known at ty = refl

pub exprs_load : (known : List Effects) (at : Pos) (place : TLvalueTree) → effects_of known (exprs.Load at place) ≡ joined (effects_at known place) (read_at (place_of place))
unfolding effects_of
exprs_load known at place = refl

pub exprs_addressof : (known : List Effects) (at : Pos) (place : TLvalueTree) → effects_of known (exprs.AddressOf at place) ≡ effects_at known place
unfolding effects_of
exprs_addressof known at place = refl

pub exprs_decay : (known : List Effects) (at : Pos) (place : TLvalueTree) → effects_of known (exprs.Decay at place) ≡ effects_at known place
unfolding effects_of
exprs_decay known at place = refl

pub exprs_whole : (known : List Effects) (at : Pos) (place : TLvalueTree) → effects_of known (exprs.Whole at place) ≡ joined (effects_at known place) (read_at (place_of place))
unfolding effects_of
exprs_whole known at place = refl

pub exprs_unary : (known : List Effects) (at : Pos) (op : TUnaryOp) (operand : TExprTree) → effects_of known (exprs.Unary at op operand) ≡ effects_of known operand
unfolding effects_of
exprs_unary known at op operand = refl

pub exprs_binary : (known : List Effects) (at : Pos) (op : TBinaryOp) (left : TExprTree) (right : TExprTree) → effects_of known (exprs.Binary at op left right) ≡ joined (effects_of known left) (effects_of known right)
unfolding effects_of
exprs_binary known at op left right = refl

pub exprs_convert : (known : List Effects) (at : Pos) (ty : CTypeTree) (operand : TExprTree) → effects_of known (exprs.Convert at ty operand) ≡ effects_of known operand
unfolding effects_of
exprs_convert known at ty operand = refl

pub exprs_assign : (known : List Effects) (at : Pos) (place : TLvalueTree) (value : TExprTree) → effects_of known (exprs.Assign at place value) ≡ joined (joined (effects_at known place) (effects_of known value)) (write_at (place_of place))
unfolding effects_of
exprs_assign known at place value = refl

pub exprs_assignstruct : (known : List Effects) (at : Pos) (extent : Extent) (place : TLvalueTree) (source : TExprTree) → effects_of known (exprs.AssignStruct at extent place source) ≡ joined (joined (effects_at known place) (effects_of known source)) (write_at (place_of place))
unfolding effects_of
exprs_assignstruct known at extent place source = refl

pub exprs_compound : (known : List Effects) (at : Pos) (op : TBinaryOp) (place : TLvalueTree) (value : TExprTree) → effects_of known (exprs.Compound at op place value) ≡ joined (joined (effects_at known place) (effects_of known value)) (change_at (place_of place))
unfolding effects_of
exprs_compound known at op place value = refl

pub exprs_step : (known : List Effects) (at : Pos) (time : StepTime) (way : StepWay) (stride : Stride) (place : TLvalueTree) → effects_of known (exprs.Step at time way stride place) ≡ joined (effects_at known place) (change_at (place_of place))
unfolding effects_of
exprs_step known at time way stride place = refl

pub exprs_and : (known : List Effects) (at : Pos) (left : TExprTree) (right : TExprTree) → effects_of known (exprs.And at left right) ≡ joined (effects_of known left) (effects_of known right)
unfolding effects_of
exprs_and known at left right = refl

pub exprs_or : (known : List Effects) (at : Pos) (left : TExprTree) (right : TExprTree) → effects_of known (exprs.Or at left right) ≡ joined (effects_of known left) (effects_of known right)
unfolding effects_of
exprs_or known at left right = refl

pub exprs_cond : (known : List Effects) (at : Pos) (ty : CTypeTree) (condition : TExprTree) (first : TExprTree) (second : TExprTree) → effects_of known (exprs.Cond at ty condition first second) ≡ joined (joined (effects_of known condition) (effects_of known first)) (effects_of known second)
unfolding effects_of
exprs_cond known at ty condition first second = refl

pub exprs_comma : (known : List Effects) (at : Pos) (left : TExprTree) (right : TExprTree) → effects_of known (exprs.Comma at left right) ≡ joined (effects_of known left) (effects_of known right)
unfolding effects_of
exprs_comma known at left right = refl

pub exprs_call : (known : List Effects) (at : Pos) (function : ℕ) (ty : CTypeTree) (used : Bool) (args : TExprTrees) → effects_of known (exprs.Call at function ty used args) ≡ joined (effects_among known args) (called known function)
unfolding effects_of
exprs_call known at function ty used args = refl

pub exprs_any : (known : List Effects) (at : Pos) (ty : IntType) → effects_of known (exprs.Any at ty) ≡ nothing
unfolding effects_of
exprs_any known at ty = refl

pub exprs_assume : (known : List Effects) (at : Pos) (operand : TExprTree) → effects_of known (exprs.Assume at operand) ≡ effects_of known operand
unfolding effects_of
exprs_assume known at operand = refl

pub exprs_assert : (known : List Effects) (at : Pos) (operand : TExprTree) → effects_of known (exprs.Assert at operand) ≡ effects_of known operand
unfolding effects_of
exprs_assert known at operand = refl

pub exprs_var : (known : List Effects) (at : Pos) (n : ℕ) (ty : CTypeTree) (is_const : Bool) → effects_at known (exprs.Var at n ty is_const) ≡ nothing
unfolding effects_at
exprs_var known at n ty is_const = refl

pub exprs_deref : (known : List Effects) (at : Pos) (kind : DerefKind) (ty : CTypeTree) (is_const : Bool) (pointer : TExprTree) → effects_at known (exprs.Deref at kind ty is_const pointer) ≡ effects_of known pointer
unfolding effects_at
exprs_deref known at kind ty is_const pointer = refl

pub exprs_member : (known : List Effects) (at : Pos) (k : ℕ) (offset : ℕ) (ty : CTypeTree) (is_const : Bool) (place : TLvalueTree) → effects_at known (exprs.Member at k offset ty is_const place) ≡ effects_at known place
unfolding effects_at
exprs_member known at k offset ty is_const place = refl

pub stmts_empty : (known : List Effects) (x0 : Pos) → effects_in known (stmts.Empty x0) ≡ nothing
unfolding effects_in
stmts_empty known x0 = refl

pub stmts_expr : (known : List Effects) (at : Pos) (value : TExprTree) → effects_in known (stmts.Expr at value) ≡ effects_of known value
unfolding effects_in
stmts_expr known at value = refl

pub stmts_block : (known : List Effects) (at : Pos) (kind : BlockKind) (objects : List ℕ) (items : TStmtTrees) → effects_in known (stmts.Block at kind objects items) ≡ effects_in_items known items
unfolding effects_in
stmts_block known at kind objects items = refl

pub stmts_declare : (known : List Effects) (at : Pos) (object : ℕ) (inits : List TInitTree) (zeroes_rest : Bool) → effects_in known (stmts.Declare at object inits zeroes_rest) ≡ inits_effects known inits
unfolding effects_in
stmts_declare known at object inits zeroes_rest = refl

pub stmts_static : (known : List Effects) (x0 : Pos) (x1 : ℕ) → effects_in known (stmts.Static x0 x1) ≡ nothing
unfolding effects_in
stmts_static known x0 x1 = refl

pub stmts_if : (known : List Effects) (at : Pos) (condition : TExprTree) (first : TStmtTree) (second : TStmtTree) → effects_in known (stmts.If at condition first second) ≡ joined (joined (effects_of known condition) (effects_in known first)) (effects_in known second)
unfolding effects_in
stmts_if known at condition first second = refl

pub stmts_while : (known : List Effects) (at : Pos) (condition : TExprTree) (body : TStmtTree) → effects_in known (stmts.While at condition body) ≡ joined (effects_of known condition) (effects_in known body)
unfolding effects_in
stmts_while known at condition body = refl

pub stmts_dowhile : (known : List Effects) (at : Pos) (body : TStmtTree) (condition : TExprTree) → effects_in known (stmts.DoWhile at body condition) ≡ joined (effects_in known body) (effects_of known condition)
unfolding effects_in
stmts_dowhile known at body condition = refl

pub stmts_for : (known : List Effects) (at : Pos) (objects : List ℕ) (head : TStmtTrees) (condition : Option TExprTree) (step : Option TExprTree) (body : TStmtTree) → effects_in known (stmts.For at objects head condition step body) ≡ joined (joined (joined (effects_in_items known head) (effects_if_there known condition)) (effects_if_there known step)) (effects_in known body)
unfolding effects_in
stmts_for known at objects head condition step body = refl

pub stmts_switch : (known : List Effects) (at : Pos) (value : TExprTree) (kind : BlockKind) (objects : List ℕ) (items : TStmtTrees) → effects_in known (stmts.Switch at value kind objects items) ≡ joined (effects_of known value) (effects_in_items known items)
unfolding effects_in
stmts_switch known at value kind objects items = refl

pub stmts_break : (known : List Effects) (x0 : Pos) → effects_in known (stmts.Break x0) ≡ nothing
unfolding effects_in
stmts_break known x0 = refl

pub stmts_continue : (known : List Effects) (x0 : Pos) → effects_in known (stmts.Continue x0) ≡ nothing
unfolding effects_in
stmts_continue known x0 = refl

pub stmts_goto : (known : List Effects) (x0 : Pos) (x1 : ℕ) → effects_in known (stmts.Goto x0 x1) ≡ nothing
unfolding effects_in
stmts_goto known x0 x1 = refl

pub stmts_return : (known : List Effects) (at : Pos) (value : Option TExprTree) → effects_in known (stmts.Return at value) ≡ effects_if_there known value
unfolding effects_in
stmts_return known at value = refl

pub stmts_label : (known : List Effects) (x0 : Pos) (x1 : ℕ) → effects_in known (stmts.Label x0 x1) ≡ nothing
unfolding effects_in
stmts_label known x0 x1 = refl

pub stmts_case : (known : List Effects) (x0 : Pos) (x1 : ℤ) → effects_in known (stmts.Case x0 x1) ≡ nothing
unfolding effects_in
stmts_case known x0 x1 = refl

pub stmts_default : (known : List Effects) (x0 : Pos) → effects_in known (stmts.Default x0) ≡ nothing
unfolding effects_in
stmts_default known x0 = refl

pub exprs_none : (known : List Effects) → effects_among known exprs.none ≡ nothing
unfolding effects_among
exprs_none known = refl

pub exprs_more : (known : List Effects) (e : TExprTree) (rest : TExprTrees) → effects_among known (exprs.more e rest)
    ≡ joined (effects_of known e) (effects_among known rest)
unfolding effects_among
exprs_more known e rest = refl

pub stmts_none : (known : List Effects) → effects_in_items known stmts.none ≡ nothing
unfolding effects_in_items
stmts_none known = refl

pub stmts_more : (known : List Effects) (s : TStmtTree) (rest : TStmtTrees) → effects_in_items known (stmts.more s rest)
    ≡ joined (effects_in known s) (effects_in_items known rest)
unfolding effects_in_items
stmts_more known s rest = refl

pub inits_none : (known : List Effects) → inits_effects known [] ≡ nothing
unfolding inits_effects
inits_none known = refl

pub inits_more : (known : List Effects) (init : TInitTree) (rest : List TInitTree) → inits_effects known (init ∷ rest)
    ≡ joined (init_effects known init) (inits_effects known rest)
unfolding inits_effects
inits_more known init rest = refl

pub ruleset the_effects = (
  exprs_const,
  exprs_null,
  exprs_load,
  exprs_addressof,
  exprs_decay,
  exprs_whole,
  exprs_unary,
  exprs_binary,
  exprs_convert,
  exprs_assign,
  exprs_assignstruct,
  exprs_compound,
  exprs_step,
  exprs_and,
  exprs_or,
  exprs_cond,
  exprs_comma,
  exprs_call,
  exprs_any,
  exprs_assume,
  exprs_assert,
  exprs_var,
  exprs_deref,
  exprs_member,
  stmts_empty,
  stmts_expr,
  stmts_block,
  stmts_declare,
  stmts_static,
  stmts_if,
  stmts_while,
  stmts_dowhile,
  stmts_for,
  stmts_switch,
  stmts_break,
  stmts_continue,
  stmts_goto,
  stmts_return,
  stmts_label,
  stmts_case,
  stmts_default,
  exprs_none,
  exprs_more,
  stmts_none,
  stmts_more,
  inits_none,
  inits_more,
)

-- ---- lists, item by item

args_push : (known : List Effects) (items : List TExpr) (item : TExpr) → effects_among known (texprs_from (items ++ item ∷ []))
    ≡ joined (effects_among known (texprs_from items)) (effects_of known (texpr_tree item))
args_push known [] item =
    ap (effects_among known) (texprs_cons item [] ∙ ap (exprs.more (texpr_tree item)) texprs_nil) ∙ exprs_more known (texpr_tree item) exprs.none
    ∙ ap (joined (effects_of known (texpr_tree item))) (exprs_none known) ∙ joined_nothing (effects_of known (texpr_tree item))
    ∙ sym (ap (λ front. joined front (effects_of known (texpr_tree item))) (ap (effects_among known) texprs_nil ∙ exprs_none known) ∙ nothing_joined (effects_of known (texpr_tree item)))
args_push known (first ∷ items) item =
    ap (effects_among known) (texprs_cons first (items ++ item ∷ [])) ∙ exprs_more known (texpr_tree first) (texprs_from (items ++ item ∷ []))
    ∙ ap (joined (effects_of known (texpr_tree first))) (args_push known items item)
    ∙ sym (three (effects_of known (texpr_tree first)) (effects_among known (texprs_from items)) (effects_of known (texpr_tree item)))
    ∙ sym (ap (λ front. joined front (effects_of known (texpr_tree item))) (ap (effects_among known) (texprs_cons first items) ∙ exprs_more known (texpr_tree first) (texprs_from items)))

items_push : (known : List Effects) (items : List TStmt) (item : TStmt) → effects_in_items known (tstmts_from (items ++ item ∷ []))
    ≡ joined (effects_in_items known (tstmts_from items)) (effects_in known (tstmt_tree item))
items_push known [] item =
    ap (effects_in_items known) (tstmts_cons item [] ∙ ap (stmts.more (tstmt_tree item)) tstmts_nil) ∙ stmts_more known (tstmt_tree item) stmts.none
    ∙ ap (joined (effects_in known (tstmt_tree item))) (stmts_none known) ∙ joined_nothing (effects_in known (tstmt_tree item))
    ∙ sym (ap (λ front. joined front (effects_in known (tstmt_tree item))) (ap (effects_in_items known) tstmts_nil ∙ stmts_none known) ∙ nothing_joined (effects_in known (tstmt_tree item)))
items_push known (first ∷ items) item =
    ap (effects_in_items known) (tstmts_cons first (items ++ item ∷ [])) ∙ stmts_more known (tstmt_tree first) (tstmts_from (items ++ item ∷ []))
    ∙ ap (joined (effects_in known (tstmt_tree first))) (items_push known items item)
    ∙ sym (three (effects_in known (tstmt_tree first)) (effects_in_items known (tstmts_from items)) (effects_in known (tstmt_tree item)))
    ∙ sym (ap (λ front. joined front (effects_in known (tstmt_tree item))) (ap (effects_in_items known) (tstmts_cons first items) ∙ stmts_more known (tstmt_tree first) (tstmts_from items)))

inits_push : (known : List Effects) (items : List TInit) (item : TInit) → inits_effects known (map tinit_tree (items ++ item ∷ []))
    ≡ joined (inits_effects known (map tinit_tree items)) (init_effects known (tinit_tree item))
inits_push known [] item =
    inits_more known (tinit_tree item) [] ∙ ap (joined (init_effects known (tinit_tree item))) (inits_none known) ∙ joined_nothing (init_effects known (tinit_tree item))
    ∙ sym (ap (λ front. joined front (init_effects known (tinit_tree item))) (inits_none known) ∙ nothing_joined (init_effects known (tinit_tree item)))
inits_push known (first ∷ items) item =
    inits_more known (tinit_tree first) (map tinit_tree (items ++ item ∷ []))
    ∙ ap (joined (init_effects known (tinit_tree first))) (inits_push known items item)
    ∙ sym (three (init_effects known (tinit_tree first)) (inits_effects known (map tinit_tree items)) (init_effects known (tinit_tree item)))
    ∙ sym (ap (λ front. joined front (init_effects known (tinit_tree item))) (inits_more known (tinit_tree first) (map tinit_tree items)))

-- one item more, where the effects of the items are these
more_effects : {A : Type 0} (all : List A → Effects) (one : A → Effects) → ((xs : List A) (x : A) → all (xs ++ x ∷ []) ≡ joined (all xs) (one x))
    → (old so_far new : Effects) (items : List A) (i : ℕ) (item : A) → i < length items → item ≡ get_or items i item
    → so_far ≡ joined old (all (take i items)) → new ≡ joined so_far (one item) → new ≡ joined old (all (take (i + 1) items))
more_effects all one push old so_far new items i item inside is before now =
    now ∙ ap (λ front. joined front (one item)) before ∙ three old (all (take i items)) (one item)
    ∙ ap (joined old) (sym (push (take i items) item) ∙ ap all (ap (λ x. take i items ++ x ∷ []) is ∙ sym (take_more items i item inside)))

pub more_args : (known : List Effects) (old so_far new : Effects) (items : List TExpr) (i : ℕ) (item : TExpr) → i < length items → item ≡ get_or items i item
    → so_far ≡ joined old (effects_among known (texprs_from (take i items))) → new ≡ joined so_far (effects_of known (texpr_tree item))
    → new ≡ joined old (effects_among known (texprs_from (take (i + 1) items)))
more_args known = more_effects (λ items. effects_among known (texprs_from items)) (λ item. effects_of known (texpr_tree item)) (args_push known)

pub more_items : (known : List Effects) (old so_far new : Effects) (items : List TStmt) (i : ℕ) (item : TStmt) → i < length items → item ≡ get_or items i item
    → so_far ≡ joined old (effects_in_items known (tstmts_from (take i items))) → new ≡ joined so_far (effects_in known (tstmt_tree item))
    → new ≡ joined old (effects_in_items known (tstmts_from (take (i + 1) items)))
more_items known = more_effects (λ items. effects_in_items known (tstmts_from items)) (λ item. effects_in known (tstmt_tree item)) (items_push known)

pub more_inits : (known : List Effects) (old so_far new : Effects) (items : List TInit) (i : ℕ) (item : TInit) → i < length items → item ≡ get_or items i item
    → so_far ≡ joined old (inits_effects known (map tinit_tree (take i items))) → new ≡ joined so_far (init_effects known (tinit_tree item))
    → new ≡ joined old (inits_effects known (map tinit_tree (take (i + 1) items)))
more_inits known = more_effects (λ items. inits_effects known (map tinit_tree items)) (λ item. init_effects known (tinit_tree item)) (inits_push known)

-- ---- a `for`, and a function without effects

pub for_effects : (known : List Effects) (stmt : TStmt) (at : Pos) (objects : List ℕ) (head : TStmts) (condition step : Option TExpr) (body : Box TStmt Global)
    → stmt ≡ codes.For at objects head condition step body
    → joined (joined (joined (effects_in_items known (tstmts_tree head)) (effects_if_there known (option_map texpr_tree condition)))
    (effects_if_there known (option_map texpr_tree step))) (effects_in known (tstmt_tree body.value)) ≡ effects_in known (tstmt_tree stmt)
for_effects known stmt at objects head condition step body e =
    sym (ap (λ s. effects_in known (tstmt_tree s)) e ∙ ap (effects_in known) (tstmt_for at objects head condition step body)
    ∙ stmts_for known at objects (tstmts_tree head) (option_map texpr_tree condition) (option_map texpr_tree step) (tstmt_tree body.value))

pub for_falls : (stmt : TStmt) (at : Pos) (objects : List ℕ) (head : TStmts) (condition step : Option TExpr) (body : Box TStmt Global)
    → stmt ≡ codes.For at objects head condition step body
    → 5 * (tstmts_size (tstmts_tree head) + tstmt_size (tstmt_tree body.value)) + 3 < 5 * tstmt_size (tstmt_tree stmt)
for_falls stmt at objects head condition step body e =
    rw (ap tstmt_tree e ∙ tstmt_for at objects head condition step body) (omega arith)

pub none_called : (known : List Effects) (f : ℕ) → slice_get known f ≡ None → (a : Effects) → a ≡ joined a (called known f)
none_called known f e a = sym (ap (λ found. joined a (unwrap_or found nothing)) e ∙ joined_nothing a)

pub none_past : {A : Type 0} (xs : List A) (i : ℕ) → length xs ≤ i → slice_get xs i ≡ None
none_past [] i past = refl
none_past (x ∷ xs) zero past = absurd (omega (arith, past))
none_past (x ∷ xs) (suc i) past = none_past xs i (omega (arith, past))
