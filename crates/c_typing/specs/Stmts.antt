-- Statements, with the labels and cases of a function.
use Rattle.std.specs.Prelude.{ℕ, ℤ, Bool, true, false, Option, Some, None, option_map, List, [], ◌∷◌, ◌++◌, length, find, position, bytes_eq}
use Rattle.std.specs.Ordering.{int_eq}
use Rattle.c_syntax_written.specs.declared.place.Pos.{Pos}
use Rattle.c_syntax_written.specs.declared.int_type.IntType.{IntType}
use Rattle.c_syntax_written.specs.Integer.{wrapped}
use Rattle.c_syntax_written.specs.Written as written
use Rattle.c_syntax_written.specs.WrittenParts.{expr_pos, stmt_pos}
use Rattle.c_syntax_written.specs.WrittenFile as files
use Rattle.c_syntax_written.specs.WrittenFile.{ForStartTree, StmtTree, BlockItemTrees}
use Rattle.c_syntax.specs.declared.op.Op.TheVariants as ops
use Rattle.c_syntax.specs.declared.statement.BlockKind.TheVariants as kinds
use Rattle.c_syntax.specs.Types.{CTypeTree, Void, Int}
use Rattle.c_syntax.specs.TypedExpr.{TExprTree}
use Rattle.c_syntax.specs.TypedParts.{texpr_type, not_used}
use Rattle.c_syntax.specs.TypedStmt.{TStmtTree, TStmtTrees, Empty, Expr, Block, If, While, DoWhile, For, Switch, Break, Continue, Goto, Return, Label, Case, Default, none, more}
use Rattle.c_layout.specs.Conversion.{promoted}
use Rattle.c_typing.specs.World.{World, no_rule, Undeclared, NotConstant, Outcome, Typed, Refused, Then, Is}
use Rattle.c_typing.specs.Names.{opened, closed, unless_declared}
use Rattle.c_typing.specs.Constants.{constant_value}
use Rattle.c_typing.specs.Operands.{as_int}
use Rattle.c_typing.specs.Rows.{store_row}
use Rattle.c_typing.specs.Nodes.{tested}
use Rattle.c_typing.specs.Typing.{Types, Valued}
use Rattle.c_typing.specs.Context.{Context, inside_block, inside_loop, inside_switch}
use Rattle.c_typing.specs.Decls.{Made, nothing_made, made_then, TypesDecl}

abbrev pub one : TStmtTree → TStmtTrees
one s = more s none

-- ---- labels and cases

-- a label is new in its function; it has the number of its place among them (C11 6.8.1p3)
abbrev pub label_before : World → List ℕ → Option Pos
label_before w name = option_map (λ l. l.pos) (find (λ l. bytes_eq l.label name) w.labels)

abbrev pub labelled : World → Pos → List ℕ → Outcome ℕ
labelled w at name =
    unless_declared at (label_before w name)
    (Typed (length w.labels) (record w { labels = w.labels ++ record { label = name; pos = at } ∷ [] }))

-- a goto to a label of the function (C11 6.8.6.1p1)
abbrev pub jumped : World → Pos → Option ℕ → Outcome TStmtTrees
jumped w at None = Refused (Undeclared at)
jumped w at (Some label) = Typed (one (Goto at label)) w

abbrev pub goto_of : World → Context → Pos → List ℕ → Outcome TStmtTrees
goto_of w around at name = jumped w at (position (λ label. bytes_eq label name) around.labels)

-- the place of the case of this value
abbrev pub case_before : World → ℤ → Option Pos
case_before w n = option_map (λ c. c.pos) (find (λ c. int_eq c.value n) w.cases)

-- a case by its value at the switch's type, which is new there (C11 6.8.4.2p3 and p5)
abbrev pub cased : World → Pos → ℤ → Outcome ℤ
cased w at n = unless_declared at (case_before w n) (Typed n (record w { cases = w.cases ++ record { value = n; pos = at } ∷ [] }))

abbrev pub case_value : World → Pos → Pos → IntType → Option ℤ → Outcome ℤ
case_value w at value_at t None = Refused (NotConstant value_at)
case_value w at value_at t (Some n) = cased w at (wrapped t n)

-- outside of a switch no file has a case (C11 6.8.1p2)
abbrev pub case_of : World → Pos → Pos → Option IntType → Option ℤ → Outcome ℤ
case_of w at value_at None value = Refused (Undeclared at)
case_of w at value_at (Some t) value = case_value w at value_at t value

abbrev pub default_of : World → Pos → Option IntType → Outcome TStmtTree
default_of w at None = Refused (Undeclared at)
default_of w at (Some t) = unless_declared at w.default (Typed (Default at) (record w { default = Some at }))

-- a statement that may stand here alone, or is Undeclared (C11 6.8.6.2p1, 6.8.6.3p1)
abbrev pub allowed : World → Pos → Bool → TStmtTree → Outcome TStmtTrees
allowed w at true s = Typed (one s) w
allowed w at false s = Refused (Undeclared at)

-- ---- return

abbrev pub returned_as : World → Pos → CTypeTree → TExprTree → Option TExprTree → Outcome TStmtTrees
returned_as w at result e None = Refused (no_rule w at ops.Return result (Some (texpr_type e)))
returned_as w at result e (Some value) = Typed (one (Return at (Some value))) w

-- with a value, as by `=` to the result (C11 6.8.6.4p1 and p3)
abbrev pub returned : World → Pos → CTypeTree → TExprTree → Outcome TStmtTrees
returned w at result e = returned_as w at result e (store_row result (texpr_type e) e)

-- without one, from a function that gives nothing
abbrev pub returned_bare : World → Pos → CTypeTree → Outcome TStmtTrees
returned_bare w at Void = Typed (one (Return at None)) w
returned_bare w at result = Refused (no_rule w at ops.Return result None)

-- ---- parts of statements

-- a condition, asked at its statement's first keyword (C11 6.8.4.1p1, 6.8.5p2)
abbrev pub Condition : World → Pos → written.ExprTree → Outcome TExprTree → Type 0
Condition w at e o = Then (Valued (Types w e)) (λ x w1. Is (tested w1 at x)) o

-- an expression whose value is dropped
abbrev pub Dropped : World → written.ExprTree → Outcome TExprTree → Type 0
Dropped w e o = Then (Valued (Types w e)) (λ x w1. Is (Typed (not_used x) w1)) o

-- what may be missing
abbrev pub Perhaps : World → (World → written.ExprTree → Outcome TExprTree → Type 0) → Option written.ExprTree → Outcome (Option TExprTree) → Type 0
Perhaps w types None o = Is (Typed None w) o
Perhaps w types (Some e) o = Then (types w e) (λ x w1. Is (Typed (Some x) w1)) o

-- each substatement is a block with a scope of its own (C11 6.8.4p3, 6.8.5p5)
abbrev pub OfSubstatement : World → Pos → (World → Outcome TStmtTrees → Type 0) → Outcome TStmtTree → Type 0
OfSubstatement w at types o = Then (types (opened w)) (λ items w1. Is (Typed (Block at kinds.Added [] items) (closed w w1))) o

-- a block that is written
abbrev pub OfBlock : World → (World → Outcome Made → Type 0) → (Made → TStmtTree) → Outcome TStmtTrees → Type 0
OfBlock w types node o = Then (types (opened w)) (λ made w1. Is (Typed (one (node made)) (closed w w1))) o

-- the value of a switch and its promoted type
pub record Switched : Type 0 where
  pub value : TExprTree
  pub ty : IntType

-- a switch takes an integer, which is promoted (C11 6.8.4.2p1 and p5)
abbrev pub switched_by : World → Pos → TExprTree → CTypeTree → Outcome Switched
switched_by w at e (Int t) = Typed (record { value = as_int (promoted t) t e; ty = promoted t }) w
switched_by w at e ty = Refused (no_rule w at ops.Switch ty None)

abbrev pub SwitchValue : World → Pos → written.ExprTree → Outcome Switched → Type 0
SwitchValue w at e o = Then (Valued (Types w e)) (λ x w1. Is (switched_by w1 at x (texpr_type x))) o

-- no case yet, and those of the switch around again
abbrev pub without_cases : World → World
without_cases w = record w { cases = []; default = None }

abbrev pub with_cases_of : World → World → World
with_cases_of before w = record w { cases = before.cases; default = before.default }

abbrev pub switch_node : Pos → Switched → Made → TStmtTree
switch_node at s made = Switch at s.value kinds.Written made.objects made.items

-- an empty block in the place of an else
abbrev pub no_else : Pos → TStmtTree
no_else at = Block at kinds.Added [] none

-- what a for begins with (C11 6.8.5.3p1)
abbrev pub TypesStart : World → Context → ForStartTree → Outcome Made → Type 0
TypesStart w around files.Nothing o = Is (Typed nothing_made w) o
TypesStart w around (files.Value e) o = Then (Dropped w e) (λ x w1. Is (Typed (record { objects = []; items = one (Expr (expr_pos e) x) }) w1)) o
TypesStart w around (files.Declares decl) o = TypesDecl w around decl o

abbrev pub with_items : Made → TStmtTrees → Made
with_items done items = made_then done (record { objects = []; items = items })

-- ---- statements

-- the statement and its labels are items of a block (C11 6.8)
unfoldable mutual
  pub TypesStmt : World → Context → StmtTree → Outcome TStmtTrees → Type 0
  TypesStmt w around (files.Label at name body) o =
      Then (Is (labelled w at name)) (λ label w1. Then (TypesStmt w1 around body) (λ items w2. Is (Typed (more (Label at label) items) w2))) o
  TypesStmt w around (files.Case at value body) o =
      Then (Valued (Types w value)) (λ x w1.
      Then (Is (case_of w1 at (expr_pos value) around.switch (constant_value x))) (λ n w2.
      Then (TypesStmt w2 around body) (λ items w3. Is (Typed (more (Case at n) items) w3)))) o
  TypesStmt w around (files.Default at body) o =
      Then (Is (default_of w at around.switch)) (λ label w1. Then (TypesStmt w1 around body) (λ items w2. Is (Typed (more label items) w2))) o
  TypesStmt w around (files.Block at items) o =
      OfBlock w (λ v. TypesItems v (inside_block around) nothing_made items) (λ made. Block at kinds.Written made.objects made.items) o
  TypesStmt w around (files.Empty at) o = Is (Typed (one (Empty at)) w) o
  TypesStmt w around (files.Expression at e) o = Then (Dropped w e) (λ x w1. Is (Typed (one (Expr at x)) w1)) o
  TypesStmt w around (files.If at condition first) o =
      Then (Condition (opened w) at condition) (λ c w1.
      Then (OfSubstatement w1 (stmt_pos first) (λ v. TypesStmt v (inside_block around) first)) (λ a w2.
      Is (Typed (one (If at c a (no_else at))) (closed w w2)))) o
  TypesStmt w around (files.IfElse at condition first second) o =
      Then (Condition (opened w) at condition) (λ c w1.
      Then (OfSubstatement w1 (stmt_pos first) (λ v. TypesStmt v (inside_block around) first)) (λ a w2.
      Then (OfSubstatement w2 (stmt_pos second) (λ v. TypesStmt v (inside_block around) second)) (λ b w3. Is (Typed (one (If at c a b)) (closed w w3))))) o
  TypesStmt w around (files.Switch at value (files.Block block_at items)) o =
      Then (SwitchValue (opened w) at value) (λ s w1.
      Then (OfBlock (without_cases w1) (λ v. TypesItems v (inside_switch s.ty around) nothing_made items) (switch_node at s)) (λ made w2.
      Is (Typed made (with_cases_of w (closed w w2))))) o
  TypesStmt w around (files.Switch at value body) o =
      Then (SwitchValue (opened w) at value) (λ s w1.
      Then (TypesStmt (opened (without_cases w1)) (inside_switch s.ty around) body) (λ items w2.
      Is (Typed (one (Switch at s.value kinds.Added [] items)) (with_cases_of w (closed w w2))))) o
  TypesStmt w around (files.While at condition body) o =
      Then (Condition (opened w) at condition) (λ c w1.
      Then (OfSubstatement w1 (stmt_pos body) (λ v. TypesStmt v (inside_loop around) body)) (λ b w2. Is (Typed (one (While at c b)) (closed w w2)))) o
  TypesStmt w around (files.DoWhile at body condition) o =
      Then (OfSubstatement (opened w) (stmt_pos body) (λ v. TypesStmt v (inside_loop around) body)) (λ b w1.
      Then (Condition w1 at condition) (λ c w2. Is (Typed (one (DoWhile at b c)) (closed w w2)))) o
  TypesStmt w around (files.For at start condition step body) o =
      Then (TypesStart (opened w) (inside_block around) start) (λ made w1.
      Then (Perhaps w1 (λ v e. Condition v at e) condition) (λ c w2.
      Then (Perhaps w2 Dropped step) (λ s w3.
      Then (OfSubstatement w3 (stmt_pos body) (λ v. TypesStmt v (inside_loop around) body)) (λ b w4.
      Is (Typed (one (For at made.objects made.items c s b)) (closed w w4)))))) o
  TypesStmt w around (files.Goto at name) o = Is (goto_of w around at name) o
  TypesStmt w around (files.Continue at) o = Is (allowed w at around.continues (Continue at)) o
  TypesStmt w around (files.Break at) o = Is (allowed w at around.breaks (Break at)) o
  TypesStmt w around (files.Return at None) o = Is (returned_bare w at around.result) o
  TypesStmt w around (files.Return at (Some e)) o = Then (Valued (Types w e)) (λ x w1. Is (returned w1 at around.result x)) o

  -- the items of a block, behind those that stand before them (C11 6.8.2)
  pub TypesItems : World → Context → Made → BlockItemTrees → Outcome Made → Type 0
  TypesItems w around done files.none o = Is (Typed done w) o
  TypesItems w around done (files.more (files.Declaration decl) rest) o =
      Then (TypesDecl w around decl) (λ made w1. TypesItems w1 around (made_then done made) rest) o
  TypesItems w around done (files.more (files.Statement s) rest) o =
      Then (TypesStmt w around s) (λ items w1. TypesItems w1 around (with_items done items) rest) o
