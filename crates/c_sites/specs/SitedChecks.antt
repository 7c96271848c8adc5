-- The checks of a typed program, each with what it looks at: those of `checks_of` and its neighbours, in their order.
use Rattle.std.specs.Prelude.{Option, Some, None, option_map, unwrap_or, List, [], ◌∷◌, ◌++◌, map}
use Rattle.std.specs.List.{flat_map}
use Rattle.c_syntax_written.specs.declared.place.Pos.{Pos}
use Rattle.c_syntax.specs.declared.alarm.Check.{Check}
use Rattle.c_syntax.specs.declared.alarm.WrongKind.TheVariants.{AssertFailed}
use Rattle.c_syntax.specs.declared.operator.Extent.{Extent}
use Rattle.c_syntax.specs.TypedExpr.{TExprTree, Const, Null, Load, AddressOf, Decay, Whole, Unary, Binary, Convert, Assign, AssignStruct, Compound, Step, And, Or, Cond, Comma, Call, Any, Assume, Assert, TLvalueTree, Var, Deref, Member, TExprTrees}
use Rattle.c_syntax.specs.TypedExpr as exprs
use Rattle.c_syntax.specs.TypedStmt.{TInitTree, Store, Copy, TStmtTree, Expr, Block, Declare, If, While, DoWhile, For, Switch, Return, TStmtTrees, none, more}
use Rattle.c_syntax.specs.TypedParts.{texpr_type, tlvalue_pos, tlvalue_type}
use Rattle.c_syntax.specs.Program.{TFunctionTree, TProgramTree}
use Rattle.c_layout.specs.Checks.{plain_check, binary_checks, test_checks, unary_checks, step_checks, move_checks, read_checks, write_checks, load_checks, store_checks, value_checks}
use Rattle.c_sites.specs.Sites.{Subject, OneOperand, Callee, Site, site, binary_subject, place_subject, array_subject}

-- a check, where it is made, and what it looks at
pub record SitedCheck : Type 0 where
  pub pos : Pos
  pub check : Check
  pub subject : Subject

-- checks that are all made at one site
abbrev pub all_on : Site → List Check → List SitedCheck
all_on s checks = map (λ check. record { pos = s.pos; check = check; subject = s.subject }) checks

-- where a place stands, and what it is
abbrev pub place_site : TLvalueTree → Site
place_site place = site (tlvalue_pos place) (place_subject place)

-- where a pointer is tested that may be none
abbrev pub test_site : Pos → Site
test_site at = site at OneOperand

-- the places that a struct's value may be read from
unfoldable pub sources_of : TExprTree → List Site
sources_of (Whole at place) = place_site place ∷ []
sources_of (AssignStruct at extent place source) = place_site place ∷ []
sources_of (Cond at ty condition first second) = sources_of first ++ sources_of second
sources_of (Comma at left right) = sources_of right
sources_of e = []

abbrev pub source_sited : Extent → TExprTree → List SitedCheck
source_sited extent source = flat_map (λ s. all_on s (read_checks extent.size extent.align)) (sources_of source)

unfoldable mutual
  pub sited_of : TProgramTree → TExprTree → List SitedCheck
  sited_of program (Const at ty value) = []
  sited_of program (Null at ty) = []
  sited_of program (Load at place) = sited_at program place ++ all_on (place_site place) (load_checks (tlvalue_type place))
  sited_of program (AddressOf at place) = sited_at program place
  sited_of program (Decay at place) = sited_at program place
  sited_of program (Whole at place) = sited_at program place
  sited_of program (Unary at op operand) = sited_of program operand ++ all_on (site at OneOperand) (unary_checks op (texpr_type operand))
  sited_of program (Binary at op left right) =
      sited_of program left ++ sited_of program right ++ all_on (site at (binary_subject op (array_subject left))) (binary_checks op)
  sited_of program (Convert at ty operand) = sited_of program operand
  sited_of program (Assign at place value) =
      sited_at program place ++ sited_of program value ++ all_on (place_site place) (store_checks (tlvalue_type place))
  sited_of program (AssignStruct at extent place source) =
      sited_at program place ++ sited_of program source ++ source_sited extent source
      ++ all_on (place_site place) (write_checks extent.size extent.align)
  sited_of program (Compound at op place value) =
      sited_at program place ++ sited_of program value ++ all_on (place_site place) (load_checks (tlvalue_type place))
      ++ all_on (site at OneOperand) (binary_checks op) ++ all_on (place_site place) (store_checks (tlvalue_type place))
  sited_of program (Step at time way stride place) =
      sited_at program place ++ all_on (place_site place) (load_checks (tlvalue_type place))
      ++ all_on (site at OneOperand) (step_checks stride) ++ all_on (place_site place) (store_checks (tlvalue_type place))
  sited_of program (And at left right) =
      sited_of program left ++ all_on (test_site at) (test_checks (texpr_type left))
      ++ sited_of program right ++ all_on (test_site at) (test_checks (texpr_type right))
  sited_of program (Or at left right) =
      sited_of program left ++ all_on (test_site at) (test_checks (texpr_type left))
      ++ sited_of program right ++ all_on (test_site at) (test_checks (texpr_type right))
  sited_of program (Cond at ty condition first second) =
      sited_of program condition ++ all_on (test_site at) (test_checks (texpr_type condition))
      ++ sited_of program first ++ sited_of program second
  sited_of program (Comma at left right) = sited_of program left ++ sited_of program right
  sited_of program (Call at function ty used args) =
      sited_among program args ++ all_on (site at (Callee function)) (value_checks program function ty used)
  sited_of program (Any at ty) = []
  sited_of program (Assume at operand) = sited_of program operand ++ all_on (test_site at) (test_checks (texpr_type operand))
  sited_of program (Assert at operand) =
      sited_of program operand ++ all_on (test_site at) (test_checks (texpr_type operand) ++ plain_check AssertFailed ∷ [])

  -- a member moves to a place that is in the same object
  pub sited_at : TProgramTree → TLvalueTree → List SitedCheck
  sited_at program (Var at object ty is_const) = []
  sited_at program (Deref at kind ty is_const pointer) = sited_of program pointer
  sited_at program (Member at k offset ty is_const place) = sited_at program place ++ all_on (site at (place_subject place)) move_checks

  pub sited_among : TProgramTree → TExprTrees → List SitedCheck
  sited_among program exprs.none = []
  sited_among program (exprs.more item rest) = sited_of program item ++ sited_among program rest

abbrev pub init_sited : TProgramTree → TInitTree → List SitedCheck
init_sited program (Store offset ty value) = sited_of program value
init_sited program (Copy offset extent source) = sited_of program source ++ source_sited extent source

abbrev pub condition_sited : TProgramTree → Pos → TExprTree → List SitedCheck
condition_sited program at condition = sited_of program condition ++ all_on (test_site at) (test_checks (texpr_type condition))

abbrev pub sited_if_there : (TExprTree → List SitedCheck) → Option TExprTree → List SitedCheck
sited_if_there checks None = []
sited_if_there checks (Some e) = checks e

unfoldable mutual
  pub stmt_sited : TProgramTree → TStmtTree → List SitedCheck
  stmt_sited program (Expr at value) = sited_of program value
  stmt_sited program (Block at kind objects items) = item_sited program items
  stmt_sited program (Declare at object inits zeroes_rest) = flat_map (init_sited program) inits
  stmt_sited program (If at condition first second) = condition_sited program at condition ++ stmt_sited program first ++ stmt_sited program second
  stmt_sited program (While at condition body) = condition_sited program at condition ++ stmt_sited program body
  stmt_sited program (DoWhile at body condition) = stmt_sited program body ++ condition_sited program at condition
  stmt_sited program (For at objects head condition step body) =
      item_sited program head ++ sited_if_there (condition_sited program at) condition
      ++ sited_if_there (sited_of program) step ++ stmt_sited program body
  stmt_sited program (Switch at value kind objects items) = sited_of program value ++ item_sited program items
  stmt_sited program (Return at value) = sited_if_there (sited_of program) value
  stmt_sited program _ = []

  pub item_sited : TProgramTree → TStmtTrees → List SitedCheck
  item_sited program none = []
  item_sited program (more item rest) = stmt_sited program item ++ item_sited program rest

-- those of the body of a function
abbrev pub function_sited : TProgramTree → TFunctionTree → List SitedCheck
function_sited program function = unwrap_or (option_map (stmt_sited program) function.body) []
