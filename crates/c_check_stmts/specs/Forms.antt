-- Statements behind what stands before them in their block, items one by one, and what stands below a switch.
use Rattle.std.specs.Prelude.{Option, Some, None, []}
use Rattle.c_syntax_written.specs.declared.place.Pos.{Pos}
use Rattle.c_syntax_written.specs.Written.{ExprTree}
use Rattle.c_syntax_written.specs.WrittenDecl.{DeclTree}
use Rattle.c_syntax_written.specs.WrittenFile as files
use Rattle.c_syntax_written.specs.WrittenFile.{StmtTree, BlockItemTree, BlockItemTrees}
use Rattle.c_syntax_written.specs.WrittenParts.{expr_pos, stmt_pos}
use Rattle.c_syntax.specs.declared.statement.BlockKind.{BlockKind}
use Rattle.c_syntax.specs.declared.statement.BlockKind.TheVariants as kinds
use Rattle.c_syntax.specs.TypedStmt.{TStmtTree, TStmtTrees, Expr, Switch, more}
use Rattle.c_typing.specs.Context.{Context, inside_switch}
use Rattle.c_typing.specs.Decls.{Made, nothing_made, made_then, TypesDecl}
use Rattle.c_typing.specs.Names.{opened, closed}
use Rattle.c_typing.specs.Stmts.{TypesStmt, TypesItems, OfSubstatement, Dropped, SwitchValue, one, with_items, without_cases, with_cases_of}
use Rattle.c_typing.specs.World.{World, Outcome, Typed, Then, Is}

-- ---- items of a block

-- a statement behind what stands before it
abbrev pub Behind : World → Context → Made → StmtTree → Outcome Made → Type 0
Behind w around done s o = Then (TypesStmt w around s) (λ items w1. Is (Typed (with_items done items) w1)) o

-- a label or a case, and the statement that it stands before
abbrev pub BehindPrefix : World → Context → Made → TStmtTree → StmtTree → Outcome Made → Type 0
BehindPrefix w around done node s o = Then (TypesStmt w around s) (λ items w1. Is (Typed (with_items done (more node items)) w1)) o

abbrev pub BehindDeclaration : World → Context → Made → DeclTree → Outcome Made → Type 0
BehindDeclaration w around done decl o = Then (TypesDecl w around decl) (λ made w1. Is (Typed (made_then done made) w1)) o

abbrev pub ItemForm : World → Context → Made → BlockItemTree → Outcome Made → Type 0
ItemForm w around done (files.Declaration decl) o = BehindDeclaration w around done decl o
ItemForm w around done (files.Statement s) o = Behind w around done s o

-- ---- parts of statements

-- a statement below another
abbrev pub Substatement : World → Context → StmtTree → Outcome TStmtTree → Type 0
Substatement w around s o = OfSubstatement w (stmt_pos s) (λ v. TypesStmt v around s) o

-- these statements, with no objects
abbrev pub bare : TStmtTrees → Made
bare items = record { objects = []; items = items }

-- an expression with which a for begins
abbrev pub ValueStart : World → ExprTree → Outcome Made → Type 0
ValueStart w e o = Then (Dropped w e) (λ x w1. Is (Typed (bare (one (Expr (expr_pos e) x))) w1)) o

-- ---- switches

-- the block of a switch
pub record SwitchBody : Type 0 where
  pub kind : BlockKind
  pub made : Made

-- the items of a block, and nothing of another statement
abbrev pub as_block : StmtTree → Option BlockItemTrees
as_block (files.Block at items) = Some items
as_block s = None

-- a block below a switch
abbrev pub WrittenBody : World → Context → BlockItemTrees → Outcome SwitchBody → Type 0
WrittenBody w around items o =
    Then (TypesItems (opened w) around nothing_made items) (λ made w1. Is (Typed (record { kind = kinds.Written; made = made }) (closed w w1))) o

-- another statement, around which a block is added
abbrev pub AddedBody : World → Context → StmtTree → Outcome SwitchBody → Type 0
AddedBody w around s o =
    Then (TypesStmt (opened w) around s) (λ items w1. Is (Typed (record { kind = kinds.Added; made = bare items }) w1)) o

abbrev pub SwitchBodyForm : World → Context → StmtTree → Option BlockItemTrees → Outcome SwitchBody → Type 0
SwitchBodyForm w around s None o = AddedBody w around s o
SwitchBodyForm w around s (Some items) o = WrittenBody w around items o

-- a switch by its value and its body
abbrev pub SwitchForm : World → World → Context → Pos → ExprTree → StmtTree → Outcome TStmtTrees → Type 0
SwitchForm w begun around at value s o =
    Then (SwitchValue begun at value) (λ by w1. Then (SwitchBodyForm (without_cases w1) (inside_switch by.ty around) s (as_block s)) (λ body w2.
    Is (Typed (one (Switch at by.value body.kind body.made.objects body.made.items)) (with_cases_of w (closed w w2))))) o
