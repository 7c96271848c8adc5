use Rattle.std.proofs.Common.{map, sym, subst}
use Rattle.c_syntax.specs.Program.{structdef_tree}
use Rattle.c_layout.specs.ProperTypes.{IsProperType}
use Rattle.c_layout.specs.Tables.{IsTypedTable}
use Rattle.c_syntax.proofs.TypeTrees.{ctype_int}
use Rattle.c_layout.proofs.SmallPrograms.{empty_table}
use Rattle.tests_layers.proofs.scalars.scalar_of_an_int.Goals as goal

pub scalar_at-requires-clause-table : goal.scalar_at-requires-clause-table
scalar_at-requires-clause-table g c = subst (λ defs. IsTypedTable (map structdef_tree defs)) (sym c.new-structs.ensures) empty_table

pub scalar_at-requires-clause-proper : goal.scalar_at-requires-clause-proper
scalar_at-requires-clause-proper g c = subst (λ ty. IsProperType (map structdef_tree c.new-structs.result) ty) (sym (ctype_int _)) tt
