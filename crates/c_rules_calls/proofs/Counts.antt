-- How many statements each form of statement has, an equation a form, and sums that end at the greatest number.
use Rattle.std.proofs.Common.{◌≡◌, ℕ, ℤ, ◌+◌, ◌<◌, Bool, List, [], ◌∷◌, ◌++◌, length, take, get_or, refl, sym, ap, ◌∙◌, arith}
use Rattle.std.specs.Prelude.{Option}
use Rattle.std.specs.declared.boxed.Box.{Box}
use Rattle.std.specs.declared.alloc.Global.{Global}
use Rattle.c_syntax_written.specs.declared.place.Pos.{Pos}
use Rattle.c_syntax.specs.declared.statement.BlockKind.{BlockKind}
use Rattle.c_syntax.specs.declared.statement.TStmt.{TStmt}
use Rattle.c_syntax.specs.declared.statement.TStmt.TheVariants as codes
use Rattle.c_syntax.specs.declared.statement.TStmts.{TStmts}
use Rattle.c_syntax.specs.declared.typed.TExpr.{TExpr}
use Rattle.c_syntax.proofs.TypedStmtTrees.{tstmts_nil, tstmts_cons, tstmt_for}
use Rattle.std.proofs.lemmas.List.{take_more}
use Rattle.c_syntax.specs.TypedExpr.{TExprTree}
use Rattle.c_syntax.specs.TypedStmt.{TInitTree, TStmtTree, TStmtTrees, tstmt_tree, tstmts_from}
use Rattle.c_syntax.specs.TypedStmt as stmts
use Rattle.c_rules_calls.specs.Inlined.{blocks_of, body_size, declared_by, declares, statements_among, statements_in}

pub count_empty : (x0 : Pos) → statements_in (stmts.Empty x0) ≡ 1
unfolding statements_in
count_empty x0 = refl

pub count_expr : (x0 : Pos) (x1 : TExprTree) → statements_in (stmts.Expr x0 x1) ≡ 1
unfolding statements_in
count_expr x0 x1 = refl

pub count_block : (x0 : Pos) (x1 : BlockKind) (x2 : List ℕ) (x3 : TStmtTrees) → statements_in (stmts.Block x0 x1 x2 x3) ≡ blocks_of x1 + statements_among x3
unfolding statements_in
count_block x0 x1 x2 x3 = refl

pub count_declare : (x0 : Pos) (x1 : ℕ) (x2 : List TInitTree) (x3 : Bool) → statements_in (stmts.Declare x0 x1 x2 x3) ≡ 1
unfolding statements_in
count_declare x0 x1 x2 x3 = refl

pub count_static : (x0 : Pos) (x1 : ℕ) → statements_in (stmts.Static x0 x1) ≡ 1
unfolding statements_in
count_static x0 x1 = refl

pub count_if : (x0 : Pos) (x1 : TExprTree) (x2 : TStmtTree) (x3 : TStmtTree) → statements_in (stmts.If x0 x1 x2 x3) ≡ 1 + (statements_in x2 + statements_in x3)
unfolding statements_in
count_if x0 x1 x2 x3 = refl

pub count_while : (x0 : Pos) (x1 : TExprTree) (x2 : TStmtTree) → statements_in (stmts.While x0 x1 x2) ≡ 1 + statements_in x2
unfolding statements_in
count_while x0 x1 x2 = refl

pub count_dowhile : (x0 : Pos) (x1 : TStmtTree) (x2 : TExprTree) → statements_in (stmts.DoWhile x0 x1 x2) ≡ 1 + statements_in x1
unfolding statements_in
count_dowhile x0 x1 x2 = refl

pub count_for : (x0 : Pos) (x1 : List ℕ) (x2 : TStmtTrees) (x3 : Option TExprTree) (x4 : Option TExprTree) (x5 : TStmtTree) → statements_in (stmts.For x0 x1 x2 x3 x4 x5) ≡ 1 + (declared_by x2 + statements_in x5)
unfolding statements_in
count_for x0 x1 x2 x3 x4 x5 = refl

pub count_switch : (x0 : Pos) (x1 : TExprTree) (x2 : BlockKind) (x3 : List ℕ) (x4 : TStmtTrees) → statements_in (stmts.Switch x0 x1 x2 x3 x4) ≡ 1 + (blocks_of x2 + statements_among x4)
unfolding statements_in
count_switch x0 x1 x2 x3 x4 = refl

pub count_break : (x0 : Pos) → statements_in (stmts.Break x0) ≡ 1
unfolding statements_in
count_break x0 = refl

pub count_continue : (x0 : Pos) → statements_in (stmts.Continue x0) ≡ 1
unfolding statements_in
count_continue x0 = refl

pub count_goto : (x0 : Pos) (x1 : ℕ) → statements_in (stmts.Goto x0 x1) ≡ 1
unfolding statements_in
count_goto x0 x1 = refl

pub count_return : (x0 : Pos) (x1 : Option TExprTree) → statements_in (stmts.Return x0 x1) ≡ 1
unfolding statements_in
count_return x0 x1 = refl

pub count_label : (x0 : Pos) (x1 : ℕ) → statements_in (stmts.Label x0 x1) ≡ 1
unfolding statements_in
count_label x0 x1 = refl

pub count_case : (x0 : Pos) (x1 : ℤ) → statements_in (stmts.Case x0 x1) ≡ 1
unfolding statements_in
count_case x0 x1 = refl

pub count_default : (x0 : Pos) → statements_in (stmts.Default x0) ≡ 1
unfolding statements_in
count_default x0 = refl

pub count_none : statements_among stmts.none ≡ 0
unfolding statements_among
count_none = refl

pub count_more : (s : TStmtTree) (rest : TStmtTrees) → statements_among (stmts.more s rest) ≡ statements_in s + statements_among rest
unfolding statements_among
count_more s rest = refl

pub declared_none : declared_by stmts.none ≡ 0
unfolding declared_by
declared_none = refl

pub declared_more : (s : TStmtTree) (rest : TStmtTrees) → declared_by (stmts.more s rest) ≡ declares s + declared_by rest
unfolding declared_by
declared_more s rest = refl

pub ruleset the_counts = (
  declared_none,
  declared_more,
  count_empty,
  count_expr,
  count_block,
  count_declare,
  count_static,
  count_if,
  count_while,
  count_dowhile,
  count_for,
  count_switch,
  count_break,
  count_continue,
  count_goto,
  count_return,
  count_label,
  count_case,
  count_default,
  count_none,
  count_more,
)

pub not_an_expression : (s : TStmt) → ((at : Pos) (value : TExpr) → s ≡ codes.Expr at value → ⊥) → 1 ≡ declares (tstmt_tree s)
unfolding tstmt_tree
not_an_expression (codes.Expr at value) n = absurd (n at value refl)
not_an_expression _ n = refl

pub body_for : (at : Pos) (objects : List ℕ) (head : TStmts) (condition step : Option TExpr) (body : Box TStmt Global)
    → body_size (tstmt_tree (codes.For at objects head condition step body)) ≡ statements_in (tstmt_tree (codes.For at objects head condition step body))
body_for at objects head condition step body =
    let same = tstmt_for at objects head condition step body in ap body_size same ∙ sym (ap statements_in same)

-- ---- lists, item by item

among_push : (items : List TStmt) (item : TStmt) → statements_among (tstmts_from (items ++ item ∷ []))
    ≡ statements_among (tstmts_from items) + statements_in (tstmt_tree item)
among_push [] item =
    let first = ap statements_among (tstmts_cons item [] ∙ ap (stmts.more (tstmt_tree item)) tstmts_nil) ∙ count_more (tstmt_tree item) stmts.none in
    let none = ap statements_among tstmts_nil ∙ count_none in
    let zero = count_none in omega (arith, first, none, zero)
among_push (first ∷ items) item =
    let whole = ap statements_among (tstmts_cons first (items ++ item ∷ [])) ∙ count_more (tstmt_tree first) (tstmts_from (items ++ item ∷ [])) in
    let part = ap statements_among (tstmts_cons first items) ∙ count_more (tstmt_tree first) (tstmts_from items) in
    let rest = among_push items item in omega (arith, whole, part, rest)

declared_push : (items : List TStmt) (item : TStmt) → declared_by (tstmts_from (items ++ item ∷ []))
    ≡ declared_by (tstmts_from items) + declares (tstmt_tree item)
declared_push [] item =
    let first = ap declared_by (tstmts_cons item [] ∙ ap (stmts.more (tstmt_tree item)) tstmts_nil) ∙ declared_more (tstmt_tree item) stmts.none in
    let none = ap declared_by tstmts_nil ∙ declared_none in
    let zero = declared_none in omega (arith, first, none, zero)
declared_push (first ∷ items) item =
    let whole = ap declared_by (tstmts_cons first (items ++ item ∷ [])) ∙ declared_more (tstmt_tree first) (tstmts_from (items ++ item ∷ [])) in
    let part = ap declared_by (tstmts_cons first items) ∙ declared_more (tstmt_tree first) (tstmts_from items) in
    let rest = declared_push items item in omega (arith, whole, part, rest)

next_item : (items : List TStmt) (i : ℕ) (item : TStmt) → i < length items → item ≡ get_or items i item → take (i + 1) items ≡ take i items ++ item ∷ []
next_item items i item inside is = take_more items i item inside ∙ ap (λ x. take i items ++ x ∷ []) (sym is)

pub more_among : (items : List TStmt) (i : ℕ) (item : TStmt) → i < length items → item ≡ get_or items i item
    → statements_among (tstmts_from (take (i + 1) items)) ≡ statements_among (tstmts_from (take i items)) + statements_in (tstmt_tree item)
more_among items i item inside is = ap (λ xs. statements_among (tstmts_from xs)) (next_item items i item inside is) ∙ among_push (take i items) item

pub more_declared : (items : List TStmt) (i : ℕ) (item : TStmt) → i < length items → item ≡ get_or items i item
    → declared_by (tstmts_from (take (i + 1) items)) ≡ declared_by (tstmts_from (take i items)) + declares (tstmt_tree item)
more_declared items i item inside is = ap (λ xs. declared_by (tstmts_from xs)) (next_item items i item inside is) ∙ declared_push (take i items) item
