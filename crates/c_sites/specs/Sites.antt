-- The sites of a typed program: the places at which its nodes make checks or calls, and what stands there.
use Rattle.std.specs.Prelude.{◌≡◌, ℕ, Bool, true, false, Option, Some, None, option_map, unwrap_or, List, [], ◌∷◌, ◌++◌, All, Contains}
use Rattle.std.specs.List.{flat_map}
use Rattle.c_syntax_written.specs.declared.place.Pos.{Pos}
use Rattle.c_syntax.specs.declared.operator.TBinaryOp.{TBinaryOp}
use Rattle.c_syntax.specs.declared.operator.TBinaryOp.TheVariants as binaries
use Rattle.c_syntax.specs.TypedExpr.{TExprTree, Const, Null, Load, AddressOf, Decay, Whole, Unary, Binary, Convert, Assign, AssignStruct, Compound, Step, And, Or, Cond, Comma, Call, Any, Assume, Assert, TLvalueTree, Var, Deref, Member, TExprTrees}
use Rattle.c_syntax.specs.TypedExpr as exprs
use Rattle.c_syntax.specs.TypedStmt.{TInitTree, Store, Copy, TStmtTree, Expr, Block, Declare, If, While, DoWhile, For, Switch, Return, TStmtTrees, none, more}
use Rattle.c_syntax.specs.Program.{TFunctionTree, TProgramTree}

-- what a node looks at
pub data Subject : Type 0 where
  -- a place in the object of this number that is named: the object itself, a member of a named place, an element of an array that stands in a
  -- named place; and whether there is an element among them
  InObject : ℕ → Bool → Subject
  -- another place, pointer or number, alone
  OneOperand : Subject
  -- two pointers beside one another, which are compared or subtracted
  TwoPointers : Subject
  -- the function of this number, which is called
  Callee : ℕ → Subject

-- a place of the text, and what the node there looks at
pub record Site : Type 0 where
  pub pos : Pos
  pub subject : Subject

abbrev pub site : Pos → Subject → Site
site at subject = record { pos = at; subject = subject }

-- an element of an array in this place
abbrev pub element_in : Subject → Subject
element_in (InObject n has_element) = InObject n true
element_in subject = OneOperand

-- what an operator looks at, whose left operand points into this
abbrev pub binary_subject : TBinaryOp → Subject → Subject
binary_subject (binaries.PointerPlusInt element) left = left
binary_subject (binaries.ComparePointers comparison) left = TwoPointers
binary_subject (binaries.PointerMinusPointer element) left = TwoPointers
binary_subject op left = OneOperand

unfoldable mutual
  -- what a place is
  pub place_subject : TLvalueTree → Subject
  place_subject (Var at object ty is_const) = InObject object false
  place_subject (Deref at kind ty is_const pointer) = pointer_subject pointer
  place_subject (Member at k offset ty is_const place) = place_subject place

  -- what a pointer leads to: `a + i` to an element of the array
  pub pointer_subject : TExprTree → Subject
  pointer_subject (Binary at op left right) = binary_subject op (array_subject left)
  pointer_subject e = OneOperand

  -- the elements of an array
  pub array_subject : TExprTree → Subject
  array_subject (Decay at place) = element_in (place_subject place)
  array_subject e = OneOperand

-- the sites in an expression, a place and arguments
unfoldable mutual
  pub sites_of : TExprTree → List Site
  sites_of (Const at ty value) = []
  sites_of (Null at ty) = []
  sites_of (Load at place) = sites_at place
  sites_of (AddressOf at place) = sites_at place
  sites_of (Decay at place) = sites_at place
  sites_of (Whole at place) = sites_at place
  sites_of (Unary at op operand) = site at OneOperand ∷ sites_of operand
  sites_of (Binary at op left right) = site at (binary_subject op (array_subject left)) ∷ (sites_of left ++ sites_of right)
  sites_of (Convert at ty operand) = sites_of operand
  sites_of (Assign at place value) = sites_at place ++ sites_of value
  sites_of (AssignStruct at extent place source) = sites_at place ++ sites_of source
  sites_of (Compound at op place value) = site at OneOperand ∷ (sites_at place ++ sites_of value)
  sites_of (Step at time way stride place) = site at OneOperand ∷ sites_at place
  sites_of (And at left right) = site at OneOperand ∷ (sites_of left ++ sites_of right)
  sites_of (Or at left right) = site at OneOperand ∷ (sites_of left ++ sites_of right)
  sites_of (Cond at ty condition first second) = site at OneOperand ∷ (sites_of condition ++ (sites_of first ++ sites_of second))
  sites_of (Comma at left right) = sites_of left ++ sites_of right
  sites_of (Call at function ty used args) = site at (Callee function) ∷ sites_among args
  sites_of (Any at ty) = []
  sites_of (Assume at operand) = site at OneOperand ∷ sites_of operand
  sites_of (Assert at operand) = site at OneOperand ∷ sites_of operand

  -- what reads or writes a place does so where the place stands
  pub sites_at : TLvalueTree → List Site
  sites_at (Var at object ty is_const) = site at (InObject object false) ∷ []
  sites_at (Deref at kind ty is_const pointer) = site at (pointer_subject pointer) ∷ sites_of pointer
  sites_at (Member at k offset ty is_const place) = site at (place_subject place) ∷ sites_at place

  pub sites_among : TExprTrees → List Site
  sites_among exprs.none = []
  sites_among (exprs.more item rest) = sites_of item ++ sites_among rest

-- those of an item of an initialiser
abbrev pub init_sites : TInitTree → List Site
init_sites (Store offset ty value) = sites_of value
init_sites (Copy offset extent source) = sites_of source

-- those of an expression that may be missing
abbrev pub sites_if_there : Option TExprTree → List Site
sites_if_there None = []
sites_if_there (Some e) = sites_of e

-- those of a statement; a condition is tested where its statement stands
unfoldable mutual
  pub stmt_sites : TStmtTree → List Site
  stmt_sites (Expr at value) = sites_of value
  stmt_sites (Block at kind objects items) = item_sites items
  stmt_sites (Declare at object inits zeroes_rest) = flat_map init_sites inits
  stmt_sites (If at condition first second) = site at OneOperand ∷ (sites_of condition ++ (stmt_sites first ++ stmt_sites second))
  stmt_sites (While at condition body) = site at OneOperand ∷ (sites_of condition ++ stmt_sites body)
  stmt_sites (DoWhile at body condition) = site at OneOperand ∷ (stmt_sites body ++ sites_of condition)
  stmt_sites (For at objects head condition step body) =
      site at OneOperand ∷ (item_sites head ++ (sites_if_there condition ++ (sites_if_there step ++ stmt_sites body)))
  stmt_sites (Switch at value kind objects items) = sites_of value ++ item_sites items
  stmt_sites (Return at value) = sites_if_there value
  stmt_sites _ = []

  pub item_sites : TStmtTrees → List Site
  item_sites none = []
  item_sites (more item rest) = stmt_sites item ++ item_sites rest

-- those of the body of a function
abbrev pub function_sites : TFunctionTree → List Site
function_sites function = unwrap_or (option_map stmt_sites function.body) []

-- sites at one place look at the same
abbrev pub Agree : List Site → Type 0
Agree sites = (s t : Site) → Contains sites s → Contains sites t → s.pos ≡ t.pos → s ≡ t

-- In each function, what stands at one place of the text looks at the same: no node that takes two pointers stands where another takes one;
-- where a named place stands, all that stands there is a place in the same object, named too; and calls at one place are of one function.
abbrev pub SitesAgree : TProgramTree → Type 0
SitesAgree program = All (λ function. Agree (function_sites function)) program.functions
