use Rattle.std.proofs.Common.{arith}
use Rattle.c_syntax.proofs.TypeTrees.{type_trees}
use Rattle.c_check_operators.proofs.equality.equality_form.Goals as goal

pub returns-in-Pointer-right : goal.returns-in-Pointer-right
returns-in-Pointer-right c = grind (arith, type_trees)

pub returns-then-branch : goal.returns-then-branch
returns-then-branch c = grind (arith, type_trees)

pub returns-else-branch : goal.returns-else-branch
returns-else-branch c = grind (arith, type_trees)

pub returns-in-Void-right : goal.returns-in-Void-right
returns-in-Void-right c = grind (arith, type_trees)

pub returns-in-Void-right-5 : goal.returns-in-Void-right-5
returns-in-Void-right-5 c = grind (arith, type_trees)

pub returns-in-Void-right-3 : goal.returns-in-Void-right-3
returns-in-Void-right-3 c = grind (arith, type_trees)

pub returns-in-Void-right-4 : goal.returns-in-Void-right-4
returns-in-Void-right-4 c = grind (arith, type_trees)

pub returns-then-branch-2 : goal.returns-then-branch-2
returns-then-branch-2 c = grind (arith, type_trees)

pub returns-else-branch-2 : goal.returns-else-branch-2
returns-else-branch-2 c = grind (arith, type_trees)

pub returns-in-Int-right-2 : goal.returns-in-Int-right-2
returns-in-Int-right-2 c = grind (arith, type_trees)

pub returns-in-Void-right-2 : goal.returns-in-Void-right-2
returns-in-Void-right-2 c = grind (arith, type_trees)

pub returns-in-Void-right-2-2 : goal.returns-in-Void-right-2-2
returns-in-Void-right-2-2 c = grind (arith, type_trees)

pub returns-in-Void-right-2-3 : goal.returns-in-Void-right-2-3
returns-in-Void-right-2-3 c = grind (arith, type_trees)

pub returns-in-Void-right-2-4 : goal.returns-in-Void-right-2-4
returns-in-Void-right-2-4 c = grind (arith, type_trees)

pub returns-in-Void : goal.returns-in-Void
returns-in-Void c = grind (arith, type_trees)

pub returns-in-Void-2 : goal.returns-in-Void-2
returns-in-Void-2 c = grind (arith, type_trees)

pub returns-in-Void-3 : goal.returns-in-Void-3
returns-in-Void-3 c = grind (arith, type_trees)

pub returns-in-Void-4 : goal.returns-in-Void-4
returns-in-Void-4 c = grind (arith, type_trees)
