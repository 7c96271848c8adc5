-- The checks with what they look at are the checks that are made.
use Rattle.std.proofs.Common.{◌≡◌, List, [], ◌∷◌, ◌++◌, refl, ap, ◌∙◌}
use Rattle.std.specs.Prelude.{map, Option, Some, None}
use Rattle.std.specs.List.{flat_map}
use Rattle.c_syntax_written.specs.declared.place.Pos.{Pos}
use Rattle.c_syntax.specs.declared.alarm.Check.{Check}
use Rattle.c_syntax.specs.declared.operator.Extent.{Extent}
use Rattle.c_syntax.specs.TypedExpr.{TExprTree, Const, Null, Load, AddressOf, Decay, Whole, Unary, Binary, Convert, Assign, AssignStruct, Compound, Step, And, Or, Cond, Comma, Call, Any, Assume, Assert, TLvalueTree, Var, Deref, Member, TExprTrees}
use Rattle.c_syntax.specs.TypedExpr as exprs
use Rattle.c_syntax.specs.TypedStmt.{TInitTree, Store, Copy, TStmtTree, Empty, Expr, Block, Declare, Static, If, While, DoWhile, For, Switch, Break, Continue, Goto, Return, Label, Case, Default, TStmtTrees}
use Rattle.c_syntax.specs.TypedStmt as stmts
use Rattle.c_syntax.specs.TypedParts.{tlvalue_type}
use Rattle.c_syntax.specs.Program.{TProgramTree}
use Rattle.c_layout.specs.Checks.{PlacedCheck, all_at, binary_checks, step_checks, move_checks, write_checks, load_checks, store_checks, read_checks, read_from, source_checks, checks_of, checks_at, checks_among, init_checks, condition_checks, checks_if_there, stmt_checks, item_checks}
use Rattle.c_sites.specs.Sites.{OneOperand, Site, site, place_subject}
use Rattle.c_sites.specs.SitedChecks.{SitedCheck, all_on, place_site, sources_of, source_sited, sited_of, sited_at, sited_among, init_sited, condition_sited, sited_if_there, stmt_sited, item_sited}
use Rattle.c_sites.specs.SitedLaws.{placed, ChecksAreSited}

record Same (xs : List SitedCheck) (ys : List PlacedCheck) : Type 0 where
  is : map placed xs ≡ ys

nothing : Same [] []
nothing = record { is = refl }

placed_append : (xs ys : List SitedCheck) → map placed (xs ++ ys) ≡ map placed xs ++ map placed ys
placed_append [] ys = refl
placed_append (x ∷ xs) ys = ap (λ l. placed x ∷ l) (placed_append xs ys)

both : {xs ys : List SitedCheck} {us vs : List PlacedCheck} → Same xs us → Same ys vs → Same (xs ++ ys) (us ++ vs)
both {xs} {ys} {us} e f = record { is = placed_append xs ys ∙ ap (λ l. l ++ map placed ys) e.is ∙ ap (λ l. us ++ l) f.is }

on_each : (s : Site) (checks : List Check) → map placed (all_on s checks) ≡ all_at s.pos checks
on_each s [] = refl
on_each s (check ∷ rest) = ap (λ l. record { pos = s.pos; check = check } ∷ l) (on_each s rest)

on_same : (s : Site) (checks : List Check) → Same (all_on s checks) (all_at s.pos checks)
on_same s checks = record { is = on_each s checks }

-- ---- a struct that is read

pos_append : (xs ys : List Site) → map (λ (s : Site). s.pos) (xs ++ ys) ≡ map (λ (s : Site). s.pos) xs ++ map (λ (s : Site). s.pos) ys
pos_append [] ys = refl
pos_append (x ∷ xs) ys = ap (λ l. x.pos ∷ l) (pos_append xs ys)

sources_same : (e : TExprTree) → map (λ (s : Site). s.pos) (sources_of e) ≡ read_from e
unfolding sources_of read_from
sources_same (Whole at place) = refl
sources_same (AssignStruct at extent place source) = refl
sources_same (Cond at ty condition first second) =
    pos_append (sources_of first) (sources_of second) ∙ ap (λ l. l ++ map (λ (s : Site). s.pos) (sources_of second)) (sources_same first) ∙ ap (λ l. read_from first ++ l) (sources_same second)
sources_same (Comma at left right) = sources_same right
sources_same _ = refl

reads_same : (checks : List Check) (xs : List Site) → Same (flat_map (λ s. all_on s checks) xs) (flat_map (λ at. all_at at checks) (map (λ (s : Site). s.pos) xs))
reads_same checks [] = nothing
reads_same checks (x ∷ xs) = both (on_same x checks) (reads_same checks xs)

source_same : (extent : Extent) (source : TExprTree) → Same (source_sited extent source) (source_checks extent source)
source_same extent source = record {
  is = (reads_same (read_checks extent.size extent.align) (sources_of source)).is
      ∙ ap (λ l. flat_map (λ at. all_at at (read_checks extent.size extent.align)) l) (sources_same source);
}

-- ---- expressions and statements

mutual
  unfolding sited_of checks_of

  of_same : (program : TProgramTree) (e : TExprTree) → Same (sited_of program e) (checks_of program e)
  of_same program (Const at ty value) = nothing
  of_same program (Null at ty) = nothing
  of_same program (Load at place) = both (at_same program place) (on_same (place_site place) (load_checks (tlvalue_type place)))
  of_same program (AddressOf at place) = at_same program place
  of_same program (Decay at place) = at_same program place
  of_same program (Whole at place) = at_same program place
  of_same program (Unary at op operand) = both (of_same program operand) (on_same _ _)
  of_same program (Binary at op left right) = both (both (of_same program left) (of_same program right)) (on_same _ _)
  of_same program (Convert at ty operand) = of_same program operand
  of_same program (Assign at place value) = both (both (at_same program place) (of_same program value)) (on_same (place_site place) (store_checks (tlvalue_type place)))
  of_same program (AssignStruct at extent place source) = both (both (both (at_same program place) (of_same program source)) (source_same extent source)) (on_same (place_site place) (write_checks extent.size extent.align))
  of_same program (Compound at op place value) =
      both (both (both (both (at_same program place) (of_same program value)) (on_same (place_site place) (load_checks (tlvalue_type place)))) (on_same (site at OneOperand) (binary_checks op)))
      (on_same (place_site place) (store_checks (tlvalue_type place)))
  of_same program (Step at time way stride place) =
      both (both (both (at_same program place) (on_same (place_site place) (load_checks (tlvalue_type place)))) (on_same (site at OneOperand) (step_checks stride)))
      (on_same (place_site place) (store_checks (tlvalue_type place)))
  of_same program (And at left right) = both (both (both (of_same program left) (on_same _ _)) (of_same program right)) (on_same _ _)
  of_same program (Or at left right) = both (both (both (of_same program left) (on_same _ _)) (of_same program right)) (on_same _ _)
  of_same program (Cond at ty condition first second) = both (both (both (of_same program condition) (on_same _ _)) (of_same program first)) (of_same program second)
  of_same program (Comma at left right) = both (of_same program left) (of_same program right)
  of_same program (Call at function ty used args) = both (among_same program args) (on_same _ _)
  of_same program (Any at ty) = nothing
  of_same program (Assume at operand) = both (of_same program operand) (on_same _ _)
  of_same program (Assert at operand) = both (of_same program operand) (on_same _ _)

  at_same : (program : TProgramTree) (place : TLvalueTree) → Same (sited_at program place) (checks_at program place)
  at_same program (Var at n ty c) = nothing
  at_same program (Deref at kind ty c pointer) = of_same program pointer
  at_same program (Member at k offset ty c place) = both (at_same program place) (on_same (site at (place_subject place)) move_checks)

  among_same : (program : TProgramTree) (es : TExprTrees) → Same (sited_among program es) (checks_among program es)
  among_same program exprs.none = nothing
  among_same program (exprs.more item rest) = both (of_same program item) (among_same program rest)

init_same : (program : TProgramTree) (item : TInitTree) → Same (init_sited program item) (init_checks program item)
init_same program (Store offset ty value) = of_same program value
init_same program (Copy offset extent source) = both (of_same program source) (source_same extent source)

inits_same : (program : TProgramTree) (items : List TInitTree) → Same (flat_map (init_sited program) items) (flat_map (init_checks program) items)
inits_same program [] = nothing
inits_same program (item ∷ rest) = both (init_same program item) (inits_same program rest)

condition_same : (program : TProgramTree) (at : Pos) (e : TExprTree) → Same (condition_sited program at e) (condition_checks program at e)
condition_same program at e = both (of_same program e) (on_same _ _)

if_there_same : (f : TExprTree → List SitedCheck) (g : TExprTree → List PlacedCheck) → ((e : TExprTree) → Same (f e) (g e)) → (o : Option TExprTree) → Same (sited_if_there f o) (checks_if_there g o)
if_there_same f g h None = nothing
if_there_same f g h (Some e) = h e

mutual
  unfolding stmt_sited stmt_checks

  stmt_same : (program : TProgramTree) (s : TStmtTree) → Same (stmt_sited program s) (stmt_checks program s)
  stmt_same program (Empty at) = nothing
  stmt_same program (Expr at value) = of_same program value
  stmt_same program (Block at kind numbers items) = items_same program items
  stmt_same program (Declare at n inits zeroes_rest) = inits_same program inits
  stmt_same program (Static at n) = nothing
  stmt_same program (If at condition first second) = both (both (condition_same program at condition) (stmt_same program first)) (stmt_same program second)
  stmt_same program (While at condition body) = both (condition_same program at condition) (stmt_same program body)
  stmt_same program (DoWhile at body condition) = both (stmt_same program body) (condition_same program at condition)
  stmt_same program (For at numbers head condition step body) =
      both (both (both (items_same program head) (if_there_same _ _ (condition_same program at) condition)) (if_there_same _ _ (of_same program) step)) (stmt_same program body)
  stmt_same program (Switch at value kind numbers items) = both (of_same program value) (items_same program items)
  stmt_same program (Break at) = nothing
  stmt_same program (Continue at) = nothing
  stmt_same program (Goto at label) = nothing
  stmt_same program (Return at value) = if_there_same _ _ (of_same program) value
  stmt_same program (Label at label) = nothing
  stmt_same program (Case at value) = nothing
  stmt_same program (Default at) = nothing

  items_same : (program : TProgramTree) (items : TStmtTrees) → Same (item_sited program items) (item_checks program items)
  items_same program stmts.none = nothing
  items_same program (stmts.more item rest) = both (stmt_same program item) (items_same program rest)

pub checks_are_sited : ChecksAreSited
checks_are_sited program body = (stmt_same program body).is
