use Rattle.std.proofs.Common.{arith}
use Rattle.c_syntax.proofs.TypeTrees.{type_trees}
use Rattle.c_check_operators.proofs.forms.ints_of.Goals as goal

pub returns-in-Int-right-clause-is : goal.returns-in-Int-right-clause-is
returns-in-Int-right-clause-is c = grind (arith, type_trees)

pub returns-in-Int-right-clause-ints : goal.returns-in-Int-right-clause-ints
returns-in-Int-right-clause-ints c = grind (arith, type_trees)

pub returns-in-Void-right-clause-is : goal.returns-in-Void-right-clause-is
returns-in-Void-right-clause-is c = grind (arith, type_trees)

pub returns-in-Void-right-2-clause-is : goal.returns-in-Void-right-2-clause-is
returns-in-Void-right-2-clause-is c = grind (arith, type_trees)

pub returns-in-Void-right-3-clause-is : goal.returns-in-Void-right-3-clause-is
returns-in-Void-right-3-clause-is c = grind (arith, type_trees)

pub returns-in-Void-right-4-clause-is : goal.returns-in-Void-right-4-clause-is
returns-in-Void-right-4-clause-is c = grind (arith, type_trees)

pub returns-in-Void-right-5-clause-is : goal.returns-in-Void-right-5-clause-is
returns-in-Void-right-5-clause-is c = grind (arith, type_trees)

pub returns-in-Void-clause-is : goal.returns-in-Void-clause-is
returns-in-Void-clause-is c = grind (arith, type_trees)

pub returns-in-Void-2-clause-is : goal.returns-in-Void-2-clause-is
returns-in-Void-2-clause-is c = grind (arith, type_trees)

pub returns-in-Void-3-clause-is : goal.returns-in-Void-3-clause-is
returns-in-Void-3-clause-is c = grind (arith, type_trees)

pub returns-in-Void-4-clause-is : goal.returns-in-Void-4-clause-is
returns-in-Void-4-clause-is c = grind (arith, type_trees)

pub returns-in-Void-5-clause-is : goal.returns-in-Void-5-clause-is
returns-in-Void-5-clause-is c = grind (arith, type_trees)
