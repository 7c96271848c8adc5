use Rattle.std.proofs.Common.{arith}
use Rattle.c_syntax.proofs.TypeTrees.{type_trees}
use Rattle.c_check_operators.proofs.compound.plus_form.Goals as goal

pub returns-in-None : goal.returns-in-None
returns-in-None c = grind (arith, type_trees)

pub returns-in-Some : goal.returns-in-Some
returns-in-Some c = grind (arith, type_trees)

pub returns-in-Void : goal.returns-in-Void
returns-in-Void c = grind (arith, type_trees)

pub returns-in-Void-2 : goal.returns-in-Void-2
returns-in-Void-2 c = grind (arith, type_trees)

pub returns-in-Void-3 : goal.returns-in-Void-3
returns-in-Void-3 c = grind (arith, type_trees)

pub returns-in-Void-4 : goal.returns-in-Void-4
returns-in-Void-4 c = grind (arith, type_trees)

pub returns-in-Void-5 : goal.returns-in-Void-5
returns-in-Void-5 c = grind (arith, type_trees)

pub returns-in-Int : goal.returns-in-Int
returns-in-Int c = grind (arith, type_trees)
