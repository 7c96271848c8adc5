use Rattle.std.proofs.Common.{arith}
use Rattle.c_syntax.proofs.TypeTrees.{type_trees}
use Rattle.c_check_operators.proofs.store.copied_extent.Goals as goal

pub returns-then-m-n : goal.returns-then-m-n
returns-then-m-n c = grind (arith, type_trees)

pub returns-else-m-n : goal.returns-else-m-n
returns-else-m-n c = grind (arith, type_trees)

pub returns-in-Void : goal.returns-in-Void
returns-in-Void c = grind (arith, type_trees)

pub returns-in-Void-2 : goal.returns-in-Void-2
returns-in-Void-2 c = grind (arith, type_trees)

pub returns-in-Void-3 : goal.returns-in-Void-3
returns-in-Void-3 c = grind (arith, type_trees)

pub returns-in-Void-4 : goal.returns-in-Void-4
returns-in-Void-4 c = grind (arith, type_trees)

pub returns-in-Void-5 : goal.returns-in-Void-5
returns-in-Void-5 c = grind (arith, type_trees)

pub returns-in-Int : goal.returns-in-Int
returns-in-Int c = grind (arith, type_trees)

pub returns-in-Int-2 : goal.returns-in-Int-2
returns-in-Int-2 c = grind (arith, type_trees)

pub returns-in-Int-3 : goal.returns-in-Int-3
returns-in-Int-3 c = grind (arith, type_trees)

pub returns-in-Int-4 : goal.returns-in-Int-4
returns-in-Int-4 c = grind (arith, type_trees)

pub returns-in-Int-5 : goal.returns-in-Int-5
returns-in-Int-5 c = grind (arith, type_trees)
