use Rattle.std.proofs.Common.{arith}
use Rattle.c_syntax.proofs.TypeTrees.{type_trees}
use Rattle.c_check_operators.proofs.equality.order_form.Goals as goal

pub returns-then-is_same_but_const : goal.returns-then-is_same_but_const
returns-then-is_same_but_const c = grind (arith, type_trees)

pub returns-else-is_same_but_const : goal.returns-else-is_same_but_const
returns-else-is_same_but_const c = grind (arith, type_trees)

pub returns-in-Void-right : goal.returns-in-Void-right
returns-in-Void-right c = grind (arith, type_trees)

pub returns-in-Void-right-2 : goal.returns-in-Void-right-2
returns-in-Void-right-2 c = grind (arith, type_trees)

pub returns-in-Void-right-3 : goal.returns-in-Void-right-3
returns-in-Void-right-3 c = grind (arith, type_trees)

pub returns-in-Void-right-4 : goal.returns-in-Void-right-4
returns-in-Void-right-4 c = grind (arith, type_trees)

pub returns-in-Void-right-5 : goal.returns-in-Void-right-5
returns-in-Void-right-5 c = grind (arith, type_trees)

pub returns-in-Void : goal.returns-in-Void
returns-in-Void c = grind (arith, type_trees)
