use Rattle.std.proofs.Common.{arith}
use Rattle.c_syntax.proofs.TypeTrees.{type_trees}
use Rattle.c_check_operators.proofs.choice.cond_type.Goals as goal

pub returns-in-Int-right : goal.returns-in-Int-right
returns-in-Int-right c = grind (arith, type_trees)

pub returns-in-Void-right : goal.returns-in-Void-right
returns-in-Void-right c = grind (arith, type_trees)

pub returns-in-Pointer-right-2 : goal.returns-in-Pointer-right-2
returns-in-Pointer-right-2 c = grind (arith, type_trees)

pub returns-in-Void-right-2 : goal.returns-in-Void-right-2
returns-in-Void-right-2 c = grind (arith, type_trees)
