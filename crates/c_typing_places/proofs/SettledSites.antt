-- At the end of a file, where arrays have got their sizes, the sites are the same.
use Rattle.std.proofs.Common.{◌≡◌, List, [], ◌∷◌, ◌++◌, refl, ap, ◌∙◌}
use Rattle.std.specs.Prelude.{map, Option, Some, None, option_map}
use Rattle.std.specs.List.{flat_map}
use Rattle.c_syntax.specs.Types.{ObjectTree}
use Rattle.c_syntax.specs.TypedExpr.{TExprTree, Const, Null, Load, AddressOf, Decay, Whole, Unary, Binary, Convert, Assign, AssignStruct, Compound, Step, And, Or, Cond, Comma, Call, Any, Assume, Assert, TLvalueTree, Var, Deref, Member, TExprTrees}
use Rattle.c_syntax.specs.TypedExpr as exprs
use Rattle.c_syntax.specs.TypedStmt.{TInitTree, Store, Copy, TStmtTree, Empty, Expr, Block, Declare, Static, If, While, DoWhile, For, Switch, Break, Continue, Goto, Return, Label, Case, Default, TStmtTrees}
use Rattle.c_syntax.specs.TypedStmt as stmts
use Rattle.c_typing.specs.Settled.{settled_expr, settled_place, settled_exprs, settled_init, settled_stmt, settled_stmts}
use Rattle.c_sites.specs.Sites.{Site, site, element_in, binary_subject, place_subject, pointer_subject, array_subject, sites_of, sites_at, sites_among, init_sites, sites_if_there, stmt_sites, item_sites}

mutual
  unfolding settled_expr place_subject

  place_same : (objects : List ObjectTree) (place : TLvalueTree) → place_subject (settled_place objects place) ≡ place_subject place
  place_same objects (Var at n ty c) = refl
  place_same objects (Deref at kind ty c pointer) = pointer_same objects pointer
  place_same objects (Member at k offset ty c place) = place_same objects place

  pointer_same : (objects : List ObjectTree) (e : TExprTree) → pointer_subject (settled_expr objects e) ≡ pointer_subject e
  pointer_same objects (Binary at op left right) = ap (binary_subject op) (array_same objects left)
  pointer_same objects _ = refl

  array_same : (objects : List ObjectTree) (e : TExprTree) → array_subject (settled_expr objects e) ≡ array_subject e
  array_same objects (Decay at place) = ap element_in (place_same objects place)
  array_same objects _ = refl

two : {xs us ys vs : List Site} → xs ≡ us → ys ≡ vs → xs ++ ys ≡ us ++ vs
two {us = us} {ys = ys} e f = ap (λ l. l ++ ys) e ∙ ap (λ l. us ++ l) f

own : {s : Site} {xs us : List Site} → xs ≡ us → s ∷ xs ≡ s ∷ us
own {s} e = ap (λ l. s ∷ l) e

mutual
  unfolding settled_expr sites_of

  expr_same : (objects : List ObjectTree) (e : TExprTree) → sites_of (settled_expr objects e) ≡ sites_of e
  expr_same objects (Const at ty value) = refl
  expr_same objects (Null at ty) = refl
  expr_same objects (Load at place) = at_same objects place
  expr_same objects (AddressOf at place) = at_same objects place
  expr_same objects (Decay at place) = at_same objects place
  expr_same objects (Whole at place) = at_same objects place
  expr_same objects (Unary at op operand) = own (expr_same objects operand)
  expr_same objects (Binary at op left right) =
      ap (λ s. site at (binary_subject op s) ∷ (sites_of (settled_expr objects left) ++ sites_of (settled_expr objects right))) (array_same objects left)
      ∙ own (two (expr_same objects left) (expr_same objects right))
  expr_same objects (Convert at ty operand) = expr_same objects operand
  expr_same objects (Assign at place value) = two (at_same objects place) (expr_same objects value)
  expr_same objects (AssignStruct at extent place source) = two (at_same objects place) (expr_same objects source)
  expr_same objects (Compound at op place value) = own (two (at_same objects place) (expr_same objects value))
  expr_same objects (Step at time way stride place) = own (at_same objects place)
  expr_same objects (And at left right) = own (two (expr_same objects left) (expr_same objects right))
  expr_same objects (Or at left right) = own (two (expr_same objects left) (expr_same objects right))
  expr_same objects (Cond at ty condition first second) = own (two (expr_same objects condition) (two (expr_same objects first) (expr_same objects second)))
  expr_same objects (Comma at left right) = two (expr_same objects left) (expr_same objects right)
  expr_same objects (Call at function ty used args) = own (among_same objects args)
  expr_same objects (Any at ty) = refl
  expr_same objects (Assume at operand) = own (expr_same objects operand)
  expr_same objects (Assert at operand) = own (expr_same objects operand)

  at_same : (objects : List ObjectTree) (place : TLvalueTree) → sites_at (settled_place objects place) ≡ sites_at place
  at_same objects (Var at n ty c) = refl
  at_same objects (Deref at kind ty c pointer) = ap (λ s. site at s ∷ sites_of (settled_expr objects pointer)) (pointer_same objects pointer) ∙ own (expr_same objects pointer)
  at_same objects (Member at k offset ty c place) = ap (λ s. site at s ∷ sites_at (settled_place objects place)) (place_same objects place) ∙ own (at_same objects place)

  among_same : (objects : List ObjectTree) (es : TExprTrees) → sites_among (settled_exprs objects es) ≡ sites_among es
  among_same objects exprs.none = refl
  among_same objects (exprs.more item rest) = two (expr_same objects item) (among_same objects rest)

init_same : (objects : List ObjectTree) (item : TInitTree) → init_sites (settled_init objects item) ≡ init_sites item
init_same objects (Store offset ty value) = expr_same objects value
init_same objects (Copy offset extent source) = expr_same objects source

inits_same : (objects : List ObjectTree) (items : List TInitTree) → flat_map init_sites (map (settled_init objects) items) ≡ flat_map init_sites items
inits_same objects [] = refl
inits_same objects (item ∷ rest) = two (init_same objects item) (inits_same objects rest)

option_same : (objects : List ObjectTree) (e : Option TExprTree) → sites_if_there (option_map (settled_expr objects) e) ≡ sites_if_there e
option_same objects None = refl
option_same objects (Some e) = expr_same objects e

mutual
  unfolding settled_stmt stmt_sites

  pub stmt_same : (objects : List ObjectTree) (s : TStmtTree) → stmt_sites (settled_stmt objects s) ≡ stmt_sites s
  stmt_same objects (Empty at) = refl
  stmt_same objects (Expr at value) = expr_same objects value
  stmt_same objects (Block at kind numbers items) = items_same objects items
  stmt_same objects (Declare at n inits zeroes_rest) = inits_same objects inits
  stmt_same objects (Static at n) = refl
  stmt_same objects (If at condition first second) = own (two (expr_same objects condition) (two (stmt_same objects first) (stmt_same objects second)))
  stmt_same objects (While at condition body) = own (two (expr_same objects condition) (stmt_same objects body))
  stmt_same objects (DoWhile at body condition) = own (two (stmt_same objects body) (expr_same objects condition))
  stmt_same objects (For at numbers head condition step body) =
      own (two (items_same objects head) (two (option_same objects condition) (two (option_same objects step) (stmt_same objects body))))
  stmt_same objects (Switch at value kind numbers items) = two (expr_same objects value) (items_same objects items)
  stmt_same objects (Break at) = refl
  stmt_same objects (Continue at) = refl
  stmt_same objects (Goto at label) = refl
  stmt_same objects (Return at value) = option_same objects value
  stmt_same objects (Label at label) = refl
  stmt_same objects (Case at value) = refl
  stmt_same objects (Default at) = refl

  items_same : (objects : List ObjectTree) (items : TStmtTrees) → item_sites (settled_stmts objects items) ≡ item_sites items
  items_same objects stmts.none = refl
  items_same objects (stmts.more item rest) = two (stmt_same objects item) (items_same objects rest)
