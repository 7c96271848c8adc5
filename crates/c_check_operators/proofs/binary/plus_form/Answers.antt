use Rattle.std.proofs.Common.{arith}
use Rattle.c_syntax.proofs.TypeTrees.{type_trees}
use Rattle.c_check_operators.proofs.binary.plus_form.Goals as goal

pub returns-in-None : goal.returns-in-None
returns-in-None c = grind (arith, type_trees)

pub returns-in-Some : goal.returns-in-Some
returns-in-Some c = grind (arith, type_trees)

pub returns-in-Void-right : goal.returns-in-Void-right
returns-in-Void-right c = grind (arith, type_trees)

pub returns-in-Void-right-2 : goal.returns-in-Void-right-2
returns-in-Void-right-2 c = grind (arith, type_trees)

pub returns-in-Void-right-3 : goal.returns-in-Void-right-3
returns-in-Void-right-3 c = grind (arith, type_trees)

pub returns-in-Void-right-4 : goal.returns-in-Void-right-4
returns-in-Void-right-4 c = grind (arith, type_trees)

pub returns-in-Void-right-5 : goal.returns-in-Void-right-5
returns-in-Void-right-5 c = grind (arith, type_trees)

pub returns-in-None-complete_size : goal.returns-in-None-complete_size
returns-in-None-complete_size c = grind (arith, type_trees)

pub returns-in-Some-complete_size : goal.returns-in-Some-complete_size
returns-in-Some-complete_size c = grind (arith, type_trees)

pub returns-in-Int-right-2 : goal.returns-in-Int-right-2
returns-in-Int-right-2 c = grind (arith, type_trees)

pub returns-in-Void : goal.returns-in-Void
returns-in-Void c = grind (arith, type_trees)

pub returns-in-Void-2 : goal.returns-in-Void-2
returns-in-Void-2 c = grind (arith, type_trees)

pub returns-in-Void-3 : goal.returns-in-Void-3
returns-in-Void-3 c = grind (arith, type_trees)

pub returns-in-Void-4 : goal.returns-in-Void-4
returns-in-Void-4 c = grind (arith, type_trees)
