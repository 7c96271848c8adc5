-- What is around statements, and lists of items, as the definition of the lowering speaks of them.
use Rattle.std.specs.Prelude.{ℕ, max, List}
use Rattle.csharp.specs.Trees.{CsStmtTrees, none, more, csstmts_from}
use Rattle.lower_trees.specs.LowerStmt as statements
use Rattle.lower_trees.specs.LowerStmt.{Coded, Items}
use Rattle.lower_zeros.specs.Named.{joined}
use Rattle.lower_stmt.specs.declared.context.Context.{Context}
use Rattle.lower_stmt.specs.declared.context.Context.TheVariants as contexts
use Rattle.lower_stmt.specs.declared.listed.Listed.{Listed}

abbrev pub context_tree : Context → statements.Context
context_tree contexts.InLoop = statements.InLoop
context_tree (contexts.InSwitch' place around) = statements.InSwitch (context_tree around)
context_tree (contexts.Past' place around) = statements.Past (context_tree around)

abbrev pub listed_tree : Listed → Items
listed_tree listed = record { items = csstmts_from listed.items.items; top = listed.top }

-- items in front of others
abbrev pub listed_before : Listed → Items → Items
listed_before listed rest = record { items = joined (csstmts_from listed.items.items) rest.items; top = max listed.top rest.top }

-- an item in front of others
abbrev pub items_more : Coded → Items → Items
items_more item rest = record { items = more item.code rest.items; top = max item.top rest.top }

abbrev pub no_items : ℕ → Items
no_items d = record { items = none; top = d }
