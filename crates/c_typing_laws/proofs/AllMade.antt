-- Whatever is typed is made in one of the ways.
use Rattle.c_typing.specs.World.{Typed}
use Rattle.c_typing_laws.specs.StepLaws.{DeclarationsAreMade, StatementsAreMade, ItemsAreMade}
use Rattle.c_typing_laws.proofs.Outcomes.{typed_from}
use Rattle.c_typing_laws.proofs.DeclsMade.{decl_as}
use Rattle.c_typing_laws.proofs.StmtsMade.{stmt_as, items_as}

pub declarations_are_made : DeclarationsAreMade
declarations_are_made w v around decl made t = typed_from (decl_as w around decl (Typed made v) t)

pub statements_are_made : StatementsAreMade
statements_are_made w v around s items t = typed_from (stmt_as w around s (Typed items v) t)

pub items_are_made : ItemsAreMade
items_are_made w v around done made items t = typed_from (items_as w around done items (Typed made v) t)
