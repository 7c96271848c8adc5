use Rattle.std.proofs.Common.{refl, sym, subst}
use Rattle.std.specs.Prelude.{not}
use Rattle.std.specs.Int.RustNames.{int_le, int_lt}
use Rattle.std.specs.Ordering.{int_eq}
use Rattle.c_syntax.specs.declared.operator.Comparison.{Comparison}
use Rattle.mem_temps.specs.Operators.{IsCompared}
use Rattle.mem_temps.proofs.Valued.{compared_less, compared_greater, compared_at_most, compared_at_least, compared_equal, compared_unequal}
use Rattle.mem_temps.proofs.operators.comparison_range.Goals as goal

pub test_range-requires : goal.test_range-requires
test_range-requires c = λ a b. (int_lt a b, refl)

pub test_range-requires-in-Greater : goal.test_range-requires-in-Greater
test_range-requires-in-Greater c = λ a b. (int_lt a b, refl)

pub test_range-requires-in-AtMost : goal.test_range-requires-in-AtMost
test_range-requires-in-AtMost c = λ a b. (int_le a b, refl)

pub test_range-requires-in-AtLeast : goal.test_range-requires-in-AtLeast
test_range-requires-in-AtLeast c = λ a b. (int_le a b, refl)

pub test_range-requires-in-Equal : goal.test_range-requires-in-Equal
test_range-requires-in-Equal c = λ a b. (int_eq a b, refl)

pub test_range-requires-in-Unequal : goal.test_range-requires-in-Unequal
test_range-requires-in-Unequal c = λ a b. (not (int_eq a b), refl)

pub returns-in-Less : goal.returns-in-Less
returns-in-Less c = subst (λ (x : Comparison). IsCompared x c.args.r c.args.s c.test_range.result) (sym c.in-Less.is)
    (compared_less c.args.r c.args.s c.test_range.result c.test_range.ensures)

pub returns-in-Greater : goal.returns-in-Greater
returns-in-Greater c = subst (λ (x : Comparison). IsCompared x c.args.r c.args.s c.test_range-in-Greater.result) (sym c.in-Greater.is)
    (compared_greater c.args.r c.args.s c.test_range-in-Greater.result c.test_range-in-Greater.ensures)

pub returns-in-AtMost : goal.returns-in-AtMost
returns-in-AtMost c = subst (λ (x : Comparison). IsCompared x c.args.r c.args.s c.test_range-in-AtMost.result) (sym c.in-AtMost.is)
    (compared_at_most c.args.r c.args.s c.test_range-in-AtMost.result c.test_range-in-AtMost.ensures)

pub returns-in-AtLeast : goal.returns-in-AtLeast
returns-in-AtLeast c = subst (λ (x : Comparison). IsCompared x c.args.r c.args.s c.test_range-in-AtLeast.result) (sym c.in-AtLeast.is)
    (compared_at_least c.args.r c.args.s c.test_range-in-AtLeast.result c.test_range-in-AtLeast.ensures)

pub returns-in-Equal : goal.returns-in-Equal
returns-in-Equal c = subst (λ (x : Comparison). IsCompared x c.args.r c.args.s c.test_range-in-Equal.result) (sym c.in-Equal.is)
    (compared_equal c.args.r c.args.s c.test_range-in-Equal.result c.test_range-in-Equal.ensures)

pub returns-in-Unequal : goal.returns-in-Unequal
returns-in-Unequal c = subst (λ (x : Comparison). IsCompared x c.args.r c.args.s c.test_range-in-Unequal.result) (sym c.in-Unequal.is)
    (compared_unequal c.args.r c.args.s c.test_range-in-Unequal.result c.test_range-in-Unequal.ensures)
