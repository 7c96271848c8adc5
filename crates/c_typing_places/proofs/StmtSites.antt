-- Declarations and statements: what is typed stands at the places of what is written.
use Rattle.std.proofs.Common.{◌≡◌, Bool, true, false, List, [], ◌∷◌, ◌++◌, refl, sym, ap, subst, ◌∙◌}
use Rattle.std.specs.Prelude.{if◌then◌else◌, Option, Some}
use Rattle.std.proofs.lemmas.List.{append-nil, append_assoc}
use Rattle.std.proofs.lemmas.Option.{none-some, same_Some}
use Rattle.c_syntax_written.specs.declared.place.Pos.{Pos}
use Rattle.c_syntax_written.specs.declared.written.StorageWord.{StorageWord}
use Rattle.c_syntax_written.specs.Written.{ExprTree}
use Rattle.c_syntax_written.specs.WrittenDecl.{InitTree, InitDeclaratorTree, DeclTree}
use Rattle.c_syntax_written.specs.WrittenFile.{ForStartTree, StmtTree, BlockItemTrees}
use Rattle.c_syntax.specs.TypedExpr.{TExprTree}
use Rattle.c_syntax.specs.TypedParts.{not_used}
use Rattle.c_syntax.specs.TypedStmt.{TInitTree, TStmtTrees, none, more}
use Rattle.c_grammar_laws.specs.NodePlaces.{expr_places, places_if_there, init_places, given_places, declarators_places, decl_places, start_places, stmt_places, items_places}
use Rattle.c_typing.specs.World.{World, Form, Typed}
use Rattle.c_typing.specs.Context.{Context}
use Rattle.c_typing.specs.Decls.{Declares, ObjectNow, Made, nothing_made, both, made_of, automatic, static_made, frame_for}
use Rattle.c_typing.specs.Stmts.{Switched}
use Rattle.c_sites.specs.Sites.{OneOperand, Site, site, sites_of, sites_if_there, stmt_sites, item_sites}
use Rattle.c_typing_laws.specs.DeclSteps as decls
use Rattle.c_typing_laws.specs.DeclSteps.{MakesInit, no_object, bare, given, MakesDeclarators, one_more, MakesDecl}
use Rattle.c_typing_laws.specs.StmtSteps.{IsValue, MayCondition, no_condition, a_condition, MayStep, no_step, a_step, IsSwitched, MakesStart, nothing, value, declares, MakesStmt, label, case, default, block, empty, expression, if_alone, if_else, switch_block, switch_one, while, do_while, for, goto, continue, break, return_bare, return_value, MakesItems, no_items, declaration, statement}
use Rattle.c_typing_laws.proofs.Outcomes.{typed_from}
use Rattle.c_sites.proofs.InLists.{Within, within_itself, Distinct, distinct_left, distinct_right, distinct_rest}
use Rattle.c_typing_places.proofs.Spread.{Among, among_none, among_within, among_made, among_both, own_second, made_second}
use Rattle.c_typing_places.proofs.RowSites.{as_int_same, not_used_same, ValueMade, no_value, a_value, store_made}
use Rattle.c_typing_places.proofs.ExprSites.{valued, expr_spread}
use Rattle.c_typing_places.proofs.InitSites.{stored_in, init_spread}

-- ---- lists of statements

lone : {ps : List Pos} (xs : List Site) → Among ps xs → Among ps (xs ++ [])
lone {ps} xs a = subst (Among ps) (sym (append-nil xs)) a

both_same : (xs ys : TStmtTrees) → item_sites (both xs ys) ≡ item_sites xs ++ item_sites ys
unfolding item_sites both
both_same none ys = refl
both_same (more x xs) ys = ap (λ l. stmt_sites x ++ l) (both_same xs ys) ∙ sym (append_assoc (stmt_sites x) (item_sites xs) (item_sites ys))

-- more statements behind some
then_spread : (ps qs : List Pos) (xs ys : TStmtTrees) → Distinct (ps ++ qs) → Among ps (item_sites xs) → Among qs (item_sites ys) → Among (ps ++ qs) (item_sites (both xs ys))
then_spread ps qs xs ys d a b = subst (Among (ps ++ qs)) (sym (both_same xs ys)) (among_both ps qs (item_sites xs) (item_sites ys) d a b)

pub none_spread : {ps : List Pos} → Among ps (item_sites none)
unfolding item_sites
none_spread = among_none

-- ---- values

value_spread : {w v : World} {e : ExprTree} {x : TExprTree} → IsValue w e x v → Distinct (expr_places e) → Among (expr_places e) (sites_of x)
value_spread {w} {v} {e} {x} k d = typed_from (valued (expr_spread e w d) (Typed x v) k.types)

dropped_spread : {w v : World} {e : ExprTree} {x : TExprTree} → IsValue w e x v → Distinct (expr_places e) → Among (expr_places e) (sites_of (not_used x))
dropped_spread {e = e} {x = x} k d = subst (Among (expr_places e)) (sym (not_used_same x)) (value_spread k d)

condition_spread : {w v : World} {e : Option ExprTree} {x : Option TExprTree} → MayCondition w e x v → Distinct (places_if_there e) → Among (places_if_there e) (sites_if_there x)
condition_spread no_condition d = among_none
condition_spread (a_condition k) d = value_spread k.value d

step_spread : {w v : World} {e : Option ExprTree} {x : Option TExprTree} → MayStep w e x v → Distinct (places_if_there e) → Among (places_if_there e) (sites_if_there x)
step_spread no_step d = among_none
step_spread (a_step k) d = dropped_spread k d

switched_spread : {w v : World} {e : ExprTree} {s : Switched} → IsSwitched w e s v → Distinct (expr_places e) → Among (expr_places e) (sites_of s.value)
switched_spread {e = e} {s = s} k d =
    subst (Among (expr_places e)) (sym (ap (λ (t : Switched). sites_of t.value) k.is ∙ as_int_same _ k.own k.operand)) (value_spread k.value d)

given_within : {xs : List Site} {o : Option TExprTree} {y : TExprTree} → ValueMade xs o → o ≡ Some y → Within (sites_of y) xs
given_within {xs} {y = y} (a_value {e} f) q = subst (λ z. Within (sites_of z) xs) (same_Some e y q) f
given_within no_value q = absurd (none-some _ q)

-- ---- declarations

abbrev Stored : List Pos → List TInitTree → Type 0
Stored ps items = Among ps (stored_in items)

automatic_spread : (ps : List Pos) (object : ObjectNow) (items : List TInitTree) (rest : Bool) → Stored ps items → Among ps (item_sites (automatic object items rest).items)
unfolding stmt_sites item_sites
automatic_spread ps object items rest a = lone (stored_in items) a

static_spread : (ps : List Pos) (object : ObjectNow) → Among ps (item_sites (static_made object).items)
unfolding stmt_sites item_sites
static_spread ps object = among_none

made_spread : (ps : List Pos) (object : ObjectNow) (items : List TInitTree) (rest : Bool) → Stored ps items → Among ps (item_sites (made_of object items rest).items)
made_spread ps object items rest a = by object.in_block object.is_static
  where
    by : (b s : Bool) → Among ps (item_sites (if b then (if s then static_made object else automatic object items rest) else nothing_made).items)
    by true true = static_spread ps object
    by true false = automatic_spread ps object items rest a
    by false s = none_spread

given_spread : {w v : World} {what : Declares} {init : Option InitTree} {made : Made} → MakesInit w what init made v → Distinct (given_places init) → Among (given_places init) (item_sites made.items)
given_spread no_object d = none_spread
given_spread (bare {object = object}) d = made_spread [] object [] false among_none
given_spread (given {w = w} {u = u} {object = object} {init = init} {by = by} t s) d =
    made_spread (init_places init) object by.items by.zeroes_rest (typed_from (init_spread init w object.is_static object.ty (frame_for w object) d (Typed by u) t))

declarators_spread :
    {around : Context} {first : Pos} {storage : List StorageWord} {base : Form} {w v : World} {done made : Made} {items : List InitDeclaratorTree} → MakesDeclarators around first storage base w done items made v
    → (ps : List Pos) → Distinct (ps ++ declarators_places items) → Among ps (item_sites done.items) → Among (ps ++ declarators_places items) (item_sites made.items)
unfolding declarators_places
declarators_spread (decls.none {done = done}) ps d a = subst (λ qs. Among qs (item_sites done.items)) (sym (append-nil ps)) a
declarators_spread (one_more {done = done} {made = made} {all = all} {item = item} {rest = rest} t n m i others) ps d a =
    let whole = append_assoc ps (given_places item.init) (declarators_places rest) in
    let d2 = subst Distinct (sym whole) d in
    let d1 = distinct_left (ps ++ given_places item.init) (declarators_places rest) d2 in
    subst (λ qs. Among qs (item_sites all.items)) whole
    (declarators_spread others (ps ++ given_places item.init) d2
    (then_spread ps (given_places item.init) done.items made.items d1 a (given_spread i (distinct_right ps (given_places item.init) d1))))

pub decl_spread : {w v : World} {around : Context} {decl : DeclTree} {made : Made} → MakesDecl w around decl made v → Distinct (decl_places decl) → Among (decl_places decl) (item_sites made.items)
decl_spread k d = declarators_spread k.rest [] d none_spread

-- ---- statements

tested : (at : Pos) (qs : List Pos) (xs : List Site) → Distinct (at ∷ qs) → Among qs xs → Among (at ∷ qs) ((site at OneOperand ∷ xs) ++ [])
tested at qs xs d a = lone (site at OneOperand ∷ xs) (among_made at [] qs d among_none a (own_second OneOperand within_itself))

-- a value and statements behind it, at a word of their own
headed : (at : Pos) (ps qs : List Pos) (xs ys : List Site) → Distinct (at ∷ (ps ++ qs)) → Among ps xs → Among qs ys → Among (ps ++ qs) (xs ++ ys)
headed at ps qs xs ys d a b = among_both ps qs xs ys (distinct_rest at (ps ++ qs) d) a b

behind_word : (at : Pos) (qs : List Pos) (xs : List Site) → Distinct (at ∷ qs) → Among qs xs → Among (at ∷ qs) (xs ++ [])
behind_word at qs xs d a = lone xs (among_made at [] qs d among_none a (made_second within_itself))

start_spread : {w v : World} {around : Context} {start : ForStartTree} {made : Made} → MakesStart w around start made v → Distinct (start_places start) → Among (start_places start) (item_sites made.items)
unfolding stmt_sites item_sites
start_spread nothing d = among_none
start_spread (value {e = e} {x = x} k) d = lone (sites_of (not_used x)) (dropped_spread k d)
start_spread (declares k) d = decl_spread k d

firsts : (at : Pos) (ps qs : List Pos) → Distinct (at ∷ (ps ++ qs)) → Distinct ps
firsts at ps qs d = distinct_left ps qs (distinct_rest at (ps ++ qs) d)

seconds : (at : Pos) (ps qs : List Pos) → Distinct (at ∷ (ps ++ qs)) → Distinct qs
seconds at ps qs d = distinct_right ps qs (distinct_rest at (ps ++ qs) d)

-- the sites of three parts, and of four, as they stand in the node
three : {ps : List Pos} (xs ys zs : List Site) → Among ps ((xs ++ ys) ++ zs) → Among ps (xs ++ (ys ++ zs))
three {ps} xs ys zs a = subst (Among ps) (append_assoc xs ys zs) a

four : {ps : List Pos} (xs ys zs us : List Site) → Among ps (((xs ++ ys) ++ zs) ++ us) → Among ps (xs ++ (ys ++ (zs ++ us)))
four {ps} xs ys zs us a = three xs ys (zs ++ us) (three (xs ++ ys) zs us a)

mutual
  unfolding stmt_places items_places stmt_sites item_sites

  pub stmt_spread : {w v : World} {around : Context} {s : StmtTree} {items : TStmtTrees} → MakesStmt w around s items v → Distinct (stmt_places s) → Among (stmt_places s) (item_sites items)
  stmt_spread (label k) d = stmt_spread k d
  stmt_spread (case t n k e f m) d = stmt_spread m d
  stmt_spread (default t e f m) d = stmt_spread m d
  stmt_spread (block {list = list} {made = made} k) d = lone (item_sites made.items) (block_spread k [] d none_spread)
  stmt_spread empty d = among_none
  stmt_spread (expression {x = x} k) d = lone (sites_of (not_used x)) (dropped_spread k d)
  stmt_spread (if_alone {at = at} {c = c} {first = first} {x = x} {items = items} k m) d =
      tested at (expr_places c ++ stmt_places first) (sites_of x ++ (item_sites items ++ [])) d
      (headed at (expr_places c) (stmt_places first) (sites_of x) (item_sites items ++ []) d (value_spread k.value (firsts at (expr_places c) (stmt_places first) d))
      (lone (item_sites items) (stmt_spread m (seconds at (expr_places c) (stmt_places first) d))))
  stmt_spread (if_else {at = at} {c = c} {first = first} {second = second} {test = x} {items = items} {others = others} k m n) d =
      let d1 = firsts at (expr_places c ++ stmt_places first) (stmt_places second) d in
      tested at ((expr_places c ++ stmt_places first) ++ stmt_places second) (sites_of x ++ (item_sites items ++ item_sites others)) d
      (three (sites_of x) (item_sites items) (item_sites others)
      (headed at (expr_places c ++ stmt_places first) (stmt_places second) (sites_of x ++ item_sites items) (item_sites others) d
      (among_both (expr_places c) (stmt_places first) (sites_of x) (item_sites items) d1 (value_spread k.value (distinct_left (expr_places c) (stmt_places first) d1))
      (stmt_spread m (distinct_right (expr_places c) (stmt_places first) d1)))
      (stmt_spread n (seconds at (expr_places c ++ stmt_places first) (stmt_places second) d))))
  stmt_spread (switch_block {at = at} {value = e} {list = list} {s = s} {made = made} k m) d =
      behind_word at (expr_places e ++ items_places list) (sites_of s.value ++ item_sites made.items) d
      (headed at (expr_places e) (items_places list) (sites_of s.value) (item_sites made.items) d (switched_spread k (firsts at (expr_places e) (items_places list) d))
      (block_spread m [] (seconds at (expr_places e) (items_places list) d) none_spread))
  stmt_spread (switch_one {at = at} {value = e} {body = body} {s = s} {items = items} k m) d =
      behind_word at (expr_places e ++ stmt_places body) (sites_of s.value ++ item_sites items) d
      (headed at (expr_places e) (stmt_places body) (sites_of s.value) (item_sites items) d (switched_spread k (firsts at (expr_places e) (stmt_places body) d))
      (stmt_spread m (seconds at (expr_places e) (stmt_places body) d)))
  stmt_spread (while {at = at} {c = c} {body = body} {x = x} {items = items} k m) d =
      tested at (expr_places c ++ stmt_places body) (sites_of x ++ item_sites items) d
      (headed at (expr_places c) (stmt_places body) (sites_of x) (item_sites items) d (value_spread k.value (firsts at (expr_places c) (stmt_places body) d))
      (stmt_spread m (seconds at (expr_places c) (stmt_places body) d)))
  stmt_spread (do_while {at = at} {c = c} {body = body} {x = x} {items = items} m k) d =
      tested at (stmt_places body ++ expr_places c) (item_sites items ++ sites_of x) d
      (headed at (stmt_places body) (expr_places c) (item_sites items) (sites_of x) d (stmt_spread m (firsts at (stmt_places body) (expr_places c) d))
      (value_spread k.value (seconds at (stmt_places body) (expr_places c) d)))
  stmt_spread (for {at = at} {start = start} {c = c} {step = step} {body = body} {head = head} {test = test} {next = next} {items = items} s k j m) d =
      let d3 = firsts at ((start_places start ++ places_if_there c) ++ places_if_there step) (stmt_places body) d in
      let d2 = distinct_left (start_places start ++ places_if_there c) (places_if_there step) d3 in
      tested at (((start_places start ++ places_if_there c) ++ places_if_there step) ++ stmt_places body) (item_sites head.items ++ (sites_if_there test ++ (sites_if_there next ++ item_sites items))) d
      (four (item_sites head.items) (sites_if_there test) (sites_if_there next) (item_sites items)
      (headed at ((start_places start ++ places_if_there c) ++ places_if_there step) (stmt_places body) ((item_sites head.items ++ sites_if_there test) ++ sites_if_there next) (item_sites items) d
      (among_both (start_places start ++ places_if_there c) (places_if_there step) (item_sites head.items ++ sites_if_there test) (sites_if_there next) d3
      (among_both (start_places start) (places_if_there c) (item_sites head.items) (sites_if_there test) d2
      (start_spread s (distinct_left (start_places start) (places_if_there c) d2)) (condition_spread k (distinct_right (start_places start) (places_if_there c) d2)))
      (step_spread j (distinct_right (start_places start ++ places_if_there c) (places_if_there step) d3)))
      (stmt_spread m (seconds at ((start_places start ++ places_if_there c) ++ places_if_there step) (stmt_places body) d))))
  stmt_spread (goto e) d = among_none
  stmt_spread (continue e) d = among_none
  stmt_spread (break e) d = among_none
  stmt_spread (return_bare e) d = among_none
  stmt_spread (return_value {x = x} {y = y} k e) d = lone (sites_of y) (among_within (value_spread k d) (given_within (store_made _ _ x) e) within_itself)

  -- the items of a block, behind those that stand before them
  pub block_spread : {w v : World} {around : Context} {done made : Made} {list : BlockItemTrees} → MakesItems w around done list made v
      → (ps : List Pos) → Distinct (ps ++ items_places list) → Among ps (item_sites done.items) → Among (ps ++ items_places list) (item_sites made.items)
  block_spread (no_items {done = done}) ps d a = subst (λ qs. Among qs (item_sites done.items)) (sym (append-nil ps)) a
  block_spread (declaration {done = done} {made = made} {all = all} {decl = decl} {rest = rest} k others) ps d a =
      let whole = append_assoc ps (decl_places decl) (items_places rest) in
      let d2 = subst Distinct (sym whole) d in
      let d1 = distinct_left (ps ++ decl_places decl) (items_places rest) d2 in
      subst (λ qs. Among qs (item_sites all.items)) whole
      (block_spread others (ps ++ decl_places decl) d2 (then_spread ps (decl_places decl) done.items made.items d1 a (decl_spread k (distinct_right ps (decl_places decl) d1))))
  block_spread (statement {done = done} {all = all} {s = s} {items = items} {rest = rest} k others) ps d a =
      let whole = append_assoc ps (stmt_places s) (items_places rest) in
      let d2 = subst Distinct (sym whole) d in
      let d1 = distinct_left (ps ++ stmt_places s) (items_places rest) d2 in
      subst (λ qs. Among qs (item_sites all.items)) whole
      (block_spread others (ps ++ stmt_places s) d2 (then_spread ps (stmt_places s) done.items items d1 a (stmt_spread k (distinct_right ps (stmt_places s) d1))))
