-- Each check is made at a site.
use Rattle.std.proofs.Common.{List, [], ◌∷◌, ◌++◌, ap}
use Rattle.std.specs.Prelude.{Option, Some, None, Contains, option_map, unwrap_or}
use Rattle.std.specs.List.{flat_map}
use Rattle.std.proofs.lemmas.List.Elements.{All-weaker, All-contains, All-contains_itself}
use Rattle.c_syntax_written.specs.declared.place.Pos.{Pos}
use Rattle.c_syntax.specs.declared.alarm.Check.{Check}
use Rattle.c_syntax.specs.declared.operator.Extent.{Extent}
use Rattle.c_syntax.specs.TypedExpr.{TExprTree, Const, Null, Load, AddressOf, Decay, Whole, Unary, Binary, Convert, Assign, AssignStruct, Compound, Step, And, Or, Cond, Comma, Call, Any, Assume, Assert, TLvalueTree, Var, Deref, Member, TExprTrees}
use Rattle.c_syntax.specs.TypedExpr as exprs
use Rattle.c_syntax.specs.TypedStmt.{TInitTree, Store, Copy, TStmtTree, Empty, Expr, Block, Declare, Static, If, While, DoWhile, For, Switch, Break, Continue, Goto, Return, Label, Case, Default, TStmtTrees}
use Rattle.c_syntax.specs.TypedStmt as stmts
use Rattle.c_syntax.specs.TypedParts.{texpr_type, tlvalue_type}
use Rattle.c_syntax.specs.Program.{TFunctionTree, TProgramTree}
use Rattle.c_layout.specs.Checks.{binary_checks, step_checks, move_checks, read_checks, write_checks, load_checks, store_checks, test_checks}
use Rattle.c_sites.specs.Sites.{Site, site, sites_of, sites_at, sites_among, init_sites, sites_if_there, stmt_sites, item_sites, function_sites, place_subject, Agree}
use Rattle.c_sites.specs.SitedChecks.{SitedCheck, all_on, place_site, test_site, sources_of, source_sited, sited_of, sited_at, sited_among, init_sited, condition_sited, sited_if_there, stmt_sited, item_sited, function_sited}
use Rattle.c_sites.specs.SitedLaws.{ChecksStandAtSites, AgreeOn, ChecksAgree}
use Rattle.c_sites.proofs.InLists.{IsIn, here, there, EitherIn, in_first, in_second, in_left, in_right, in_either, from_contains, to_contains, Within, within_then, within_both}

-- each of these checks is made at one of these sites
pub record Stand (checks : List SitedCheck) (sites : List Site) : Type 0 where
  pub each : (c : SitedCheck) → IsIn c checks → IsIn (site c.pos c.subject) sites

stand_none : {ss : List Site} → Stand [] ss
stand_none = record { each = λ c i. elim i [ ] }

either_stands : {cs ds : List SitedCheck} {ss : List Site} {c : SitedCheck} → Stand cs ss → Stand ds ss → EitherIn c cs ds → IsIn (site c.pos c.subject) ss
either_stands {c = c} f g (in_first i) = f.each c i
either_stands {c = c} f g (in_second i) = g.each c i

both : (cs ds : List SitedCheck) {ss : List Site} → Stand cs ss → Stand ds ss → Stand (cs ++ ds) ss
both cs ds f g = record { each = λ c i. either_stands f g (in_either cs ds i) }

among : {cs : List SitedCheck} {ss ts : List Site} → Within ss ts → Stand cs ss → Stand cs ts
among f g = record { each = λ c i. f.each (site c.pos c.subject) (g.each c i) }

on_each : (s : Site) (checks : List Check) {ss : List Site} → IsIn s ss → (c : SitedCheck) → IsIn c (all_on s checks) → IsIn (site c.pos c.subject) ss
on_each s [] i c j = elim j [ ]
on_each s (check ∷ rest) i _ here = i
on_each s (check ∷ rest) i c (there j) = on_each s rest i c j

on : (s : Site) (checks : List Check) {ss : List Site} → IsIn s ss → Stand (all_on s checks) ss
on s checks i = record { each = on_each s checks i }

later : {s : Site} {xs : List Site} → Within xs (s ∷ xs)
later = record { each = λ x i. there i }

later_left : {s : Site} {xs : List Site} (ys : List Site) → Within xs (s ∷ (xs ++ ys))
later_left ys = record { each = λ x i. there (in_left ys i) }

later_right : {s : Site} {ys : List Site} (xs : List Site) → Within ys (s ∷ (xs ++ ys))
later_right xs = record { each = λ x i. there (in_right xs i) }

left : {xs : List Site} (ys : List Site) → Within xs (xs ++ ys)
left ys = record { each = λ x i. in_left ys i }

right : {ys : List Site} (xs : List Site) → Within ys (xs ++ ys)
right xs = record { each = λ x i. in_right xs i }

then : {xs ys zs : List Site} → Within xs ys → Within ys zs → Within xs zs
then f g = record { each = λ x i. g.each x (f.each x i) }

-- a place stands among its sites
place_here : (place : TLvalueTree) → IsIn (place_site place) (sites_at place)
unfolding sites_at place_subject
place_here (Var at n ty c) = here
place_here (Deref at kind ty c pointer) = here
place_here (Member at k offset ty c place) = here

-- so do the places that a struct is read from
sources_here : (e : TExprTree) → Within (sources_of e) (sites_of e)
unfolding sources_of sites_of
sources_here (Whole at place) = record { each = λ s i. one place s i }
  where
    one : (p : TLvalueTree) (s : Site) → IsIn s (place_site p ∷ []) → IsIn s (sites_at p)
    one p _ here = place_here p
    one p s (there i) = elim i [ ]
sources_here (AssignStruct at extent place source) = record { each = λ s i. in_left (sites_of source) (one place s i) }
  where
    one : (p : TLvalueTree) (s : Site) → IsIn s (place_site p ∷ []) → IsIn s (sites_at p)
    one p _ here = place_here p
    one p s (there i) = elim i [ ]
sources_here (Cond at ty condition first second) = within_then (within_both (sources_here first) (sources_here second)) (later_right (sites_of condition))
sources_here (Comma at left right) = record { each = λ s i. in_right (sites_of left) ((sources_here right).each s i) }
sources_here _ = record { each = λ s i. elim i [ ] }

reads_stand : (checks : List Check) (xs : List Site) {ss : List Site} → Within xs ss → Stand (flat_map (λ s. all_on s checks) xs) ss
reads_stand checks [] f = stand_none
reads_stand checks (x ∷ xs) f = both (all_on x checks) (flat_map (λ s. all_on s checks) xs) (on x checks (f.each x here)) (reads_stand checks xs (record { each = λ s i. f.each s (there i) }))

source_stands : (extent : Extent) (source : TExprTree) → Stand (source_sited extent source) (sites_of source)
source_stands extent source = reads_stand (read_checks extent.size extent.align) (sources_of source) (sources_here source)

mutual
  unfolding sited_of sites_of

  of_stand : (program : TProgramTree) (e : TExprTree) → Stand (sited_of program e) (sites_of e)
  of_stand program (Const at ty value) = stand_none
  of_stand program (Null at ty) = stand_none
  of_stand program (Load at place) = both _ _ (at_stand program place) (on _ (load_checks (tlvalue_type place)) (place_here place))
  of_stand program (AddressOf at place) = at_stand program place
  of_stand program (Decay at place) = at_stand program place
  of_stand program (Whole at place) = at_stand program place
  of_stand program (Unary at op operand) = both _ _ (among later (of_stand program operand)) (on _ _ here)
  of_stand program (Binary at op l r) = both _ _ (both _ _ (among (later_left (sites_of r)) (of_stand program l)) (among (later_right (sites_of l)) (of_stand program r))) (on _ _ here)
  of_stand program (Convert at ty operand) = of_stand program operand
  of_stand program (Assign at place value) =
      both _ _ (both _ _ (among (left (sites_of value)) (at_stand program place)) (among (right (sites_at place)) (of_stand program value))) (on _ (store_checks (tlvalue_type place)) (in_left (sites_of value) (place_here place)))
  of_stand program (AssignStruct at extent place source) =
      both _ _ (both _ _ (both _ _ (among (left (sites_of source)) (at_stand program place)) (among (right (sites_at place)) (of_stand program source)))
      (among (right (sites_at place)) (source_stands extent source))) (on _ (write_checks extent.size extent.align) (in_left (sites_of source) (place_here place)))
  of_stand program (Compound at op place value) =
      both _ _ (both _ _ (both _ _ (both _ _ (among (later_left (sites_of value)) (at_stand program place)) (among (later_right (sites_at place)) (of_stand program value)))
      (on _ (load_checks (tlvalue_type place)) (there (in_left (sites_of value) (place_here place))))) (on _ (binary_checks op) here))
      (on _ (store_checks (tlvalue_type place)) (there (in_left (sites_of value) (place_here place))))
  of_stand program (Step at time way stride place) =
      both _ _ (both _ _ (both _ _ (among later (at_stand program place)) (on _ (load_checks (tlvalue_type place)) (there (place_here place)))) (on _ (step_checks stride) here)) (on _ (store_checks (tlvalue_type place)) (there (place_here place)))
  of_stand program (And at l r) =
      both _ _ (both _ _ (both _ _ (among (later_left (sites_of r)) (of_stand program l)) (on _ _ here)) (among (later_right (sites_of l)) (of_stand program r))) (on _ _ here)
  of_stand program (Or at l r) =
      both _ _ (both _ _ (both _ _ (among (later_left (sites_of r)) (of_stand program l)) (on _ _ here)) (among (later_right (sites_of l)) (of_stand program r))) (on _ _ here)
  of_stand program (Cond at ty condition first second) =
      both _ _ (both _ _ (both _ _ (among (later_left (sites_of first ++ sites_of second)) (of_stand program condition)) (on _ _ here))
      (among (then (left (sites_of second)) (later_right (sites_of condition))) (of_stand program first)))
      (among (then (right (sites_of first)) (later_right (sites_of condition))) (of_stand program second))
  of_stand program (Comma at l r) = both _ _ (among (left (sites_of r)) (of_stand program l)) (among (right (sites_of l)) (of_stand program r))
  of_stand program (Call at function ty used args) = both _ _ (among later (among_stand program args)) (on _ _ here)
  of_stand program (Any at ty) = stand_none
  of_stand program (Assume at operand) = both _ _ (among later (of_stand program operand)) (on _ _ here)
  of_stand program (Assert at operand) = both _ _ (among later (of_stand program operand)) (on _ _ here)

  at_stand : (program : TProgramTree) (place : TLvalueTree) → Stand (sited_at program place) (sites_at place)
  at_stand program (Var at n ty c) = stand_none
  at_stand program (Deref at kind ty c pointer) = among later (of_stand program pointer)
  at_stand program (Member at k offset ty c place) = both _ _ (among later (at_stand program place)) (on _ move_checks here)

  among_stand : (program : TProgramTree) (es : TExprTrees) → Stand (sited_among program es) (sites_among es)
  among_stand program exprs.none = stand_none
  among_stand program (exprs.more item rest) = both _ _ (among (left (sites_among rest)) (of_stand program item)) (among (right (sites_of item)) (among_stand program rest))

init_stands : (program : TProgramTree) (item : TInitTree) → Stand (init_sited program item) (init_sites item)
init_stands program (Store offset ty value) = of_stand program value
init_stands program (Copy offset extent source) = both _ _ (of_stand program source) (source_stands extent source)

inits_stand : (program : TProgramTree) (items : List TInitTree) → Stand (flat_map (init_sited program) items) (flat_map init_sites items)
inits_stand program [] = stand_none
inits_stand program (item ∷ rest) = both _ _ (among (left (flat_map init_sites rest)) (init_stands program item)) (among (right (init_sites item)) (inits_stand program rest))

-- a condition, among the sites of its statement
condition_stands : (program : TProgramTree) (at : Pos) (e : TExprTree) {ss : List Site} → Within (sites_of e) ss → IsIn (test_site at) ss → Stand (condition_sited program at e) ss
condition_stands program at e f i = both (sited_of program e) (all_on (test_site at) (test_checks (texpr_type e))) (among f (of_stand program e)) (on (test_site at) (test_checks (texpr_type e)) i)

may_condition : (program : TProgramTree) (at : Pos) (o : Option TExprTree) {ss : List Site} → Within (sites_if_there o) ss → IsIn (test_site at) ss → Stand (sited_if_there (condition_sited program at) o) ss
may_condition program at None f i = stand_none
may_condition program at (Some e) f i = condition_stands program at e f i

may_stand : (program : TProgramTree) (o : Option TExprTree) → Stand (sited_if_there (sited_of program) o) (sites_if_there o)
may_stand program None = stand_none
may_stand program (Some e) = of_stand program e

mutual
  unfolding stmt_sited stmt_sites

  stmt_stands : (program : TProgramTree) (s : TStmtTree) → Stand (stmt_sited program s) (stmt_sites s)
  stmt_stands program (Empty at) = stand_none
  stmt_stands program (Expr at value) = of_stand program value
  stmt_stands program (Block at kind numbers items) = items_stand program items
  stmt_stands program (Declare at n inits zeroes_rest) = inits_stand program inits
  stmt_stands program (Static at n) = stand_none
  stmt_stands program (If at condition first second) =
      both _ _ (both _ _ (condition_stands program at condition (later_left (stmt_sites first ++ stmt_sites second)) here)
      (among (then (left (stmt_sites second)) (later_right (sites_of condition))) (stmt_stands program first)))
      (among (then (right (stmt_sites first)) (later_right (sites_of condition))) (stmt_stands program second))
  stmt_stands program (While at condition body) =
      both _ _ (condition_stands program at condition (later_left (stmt_sites body)) here) (among (later_right (sites_of condition)) (stmt_stands program body))
  stmt_stands program (DoWhile at body condition) =
      both _ _ (among (later_left (sites_of condition)) (stmt_stands program body)) (condition_stands program at condition (later_right (stmt_sites body)) here)
  stmt_stands program (For at numbers head condition step body) =
      both _ _ (both _ _ (both _ _ (among (later_left (sites_if_there condition ++ (sites_if_there step ++ stmt_sites body))) (items_stand program head))
      (may_condition program at condition (then (left (sites_if_there step ++ stmt_sites body)) (later_right (item_sites head))) here))
      (among (then (then (left (stmt_sites body)) (right (sites_if_there condition))) (later_right (item_sites head))) (may_stand program step)))
      (among (then (then (right (sites_if_there step)) (right (sites_if_there condition))) (later_right (item_sites head))) (stmt_stands program body))
  stmt_stands program (Switch at value kind numbers items) =
      both _ _ (among (left (item_sites items)) (of_stand program value)) (among (right (sites_of value)) (items_stand program items))
  stmt_stands program (Break at) = stand_none
  stmt_stands program (Continue at) = stand_none
  stmt_stands program (Goto at label) = stand_none
  stmt_stands program (Return at value) = may_stand program value
  stmt_stands program (Label at label) = stand_none
  stmt_stands program (Case at value) = stand_none
  stmt_stands program (Default at) = stand_none

  items_stand : (program : TProgramTree) (items : TStmtTrees) → Stand (item_sited program items) (item_sites items)
  items_stand program stmts.none = stand_none
  items_stand program (stmts.more item rest) = both _ _ (among (left (item_sites rest)) (stmt_stands program item)) (among (right (stmt_sites item)) (items_stand program rest))

pub checks_stand_at_sites : ChecksStandAtSites
checks_stand_at_sites program body =
    All-weaker (Contains (stmt_sited program body)) (λ c. Contains (stmt_sites body) (site c.pos c.subject))
    (λ c i. to_contains (stmt_sites body) (site c.pos c.subject) ((stmt_stands program body).each c (from_contains (stmt_sited program body) c i))) (stmt_sited program body)
    (All-contains_itself (stmt_sited program body))

function_agrees : (program : TProgramTree) (f : TFunctionTree) → Agree (function_sites f) → AgreeOn (function_sited program f)
function_agrees program f a = by f.body a
  where
    by : (b : Option TStmtTree) → Agree (unwrap_or (option_map stmt_sites b) []) → AgreeOn (unwrap_or (option_map (stmt_sited program) b) [])
    by None h c d i j e = elim (from_contains [] c i) [ ]
    by (Some s) h c d i j e =
        ap (λ (x : Site). x.subject) (h (site c.pos c.subject) (site d.pos d.subject)
        (All-contains (λ x. Contains (stmt_sites s) (site x.pos x.subject)) (stmt_sited program s) c (checks_stand_at_sites program s) i)
        (All-contains (λ x. Contains (stmt_sites s) (site x.pos x.subject)) (stmt_sited program s) d (checks_stand_at_sites program s) j) e)

pub checks_agree : ChecksAgree
checks_agree program agree =
    All-weaker (λ f. Agree (function_sites f)) (λ f. AgreeOn (function_sited program f)) (λ f a. function_agrees program f a) program.functions agree
