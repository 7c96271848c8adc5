use Rattle.std.proofs.Common.{arith}
use Rattle.c_syntax.proofs.TypeTrees.{type_trees}
use Rattle.c_check_operators.proofs.cast.cast_form.Goals as goal

pub returns-in-Int-ty : goal.returns-in-Int-ty
returns-in-Int-ty c = grind (arith, type_trees)

pub returns-in-Void-ty : goal.returns-in-Void-ty
returns-in-Void-ty c = grind (arith, type_trees)

pub returns-in-Void-ty-6 : goal.returns-in-Void-ty-6
returns-in-Void-ty-6 c = grind (arith, type_trees)

pub returns-in-Void-ty-3 : goal.returns-in-Void-ty-3
returns-in-Void-ty-3 c = grind (arith, type_trees)

pub returns-in-Void-ty-4 : goal.returns-in-Void-ty-4
returns-in-Void-ty-4 c = grind (arith, type_trees)

pub returns-in-Void-ty-5 : goal.returns-in-Void-ty-5
returns-in-Void-ty-5 c = grind (arith, type_trees)

pub returns-in-Pointer-ty : goal.returns-in-Pointer-ty
returns-in-Pointer-ty c = grind (arith, type_trees)

pub returns-in-Void-ty-2 : goal.returns-in-Void-ty-2
returns-in-Void-ty-2 c = grind (arith, type_trees)

pub returns-in-Void-ty-2-2 : goal.returns-in-Void-ty-2-2
returns-in-Void-ty-2-2 c = grind (arith, type_trees)

pub returns-in-Void-ty-2-3 : goal.returns-in-Void-ty-2-3
returns-in-Void-ty-2-3 c = grind (arith, type_trees)

pub returns-in-Void-ty-2-4 : goal.returns-in-Void-ty-2-4
returns-in-Void-ty-2-4 c = grind (arith, type_trees)

pub returns-in-Array : goal.returns-in-Array
returns-in-Array c = grind (arith, type_trees)

pub returns-in-Array-2 : goal.returns-in-Array-2
returns-in-Array-2 c = grind (arith, type_trees)

pub returns-in-Array-3 : goal.returns-in-Array-3
returns-in-Array-3 c = grind (arith, type_trees)
