-- Whatever is typed is made in one of these ways.
use Rattle.c_syntax_written.specs.WrittenDecl.{DeclTree}
use Rattle.c_syntax_written.specs.WrittenFile.{StmtTree, BlockItemTrees}
use Rattle.c_syntax.specs.TypedStmt.{TStmtTrees}
use Rattle.c_typing.specs.World.{World, Typed}
use Rattle.c_typing.specs.Context.{Context}
use Rattle.c_typing.specs.Decls.{Made, TypesDecl}
use Rattle.c_typing.specs.Stmts.{TypesStmt, TypesItems}
use Rattle.c_typing_laws.specs.DeclSteps.{MakesDecl}
use Rattle.c_typing_laws.specs.StmtSteps.{MakesStmt, MakesItems}

abbrev pub DeclarationsAreMade : Type 0
DeclarationsAreMade = (w v : World) (around : Context) (decl : DeclTree) (made : Made) → TypesDecl w around decl (Typed made v) → MakesDecl w around decl made v

abbrev pub StatementsAreMade : Type 0
StatementsAreMade = (w v : World) (around : Context) (s : StmtTree) (items : TStmtTrees) → TypesStmt w around s (Typed items v) → MakesStmt w around s items v

abbrev pub ItemsAreMade : Type 0
ItemsAreMade =
    (w v : World) (around : Context) (done made : Made) (items : BlockItemTrees) → TypesItems w around done items (Typed made v)
    → MakesItems w around done items made v
