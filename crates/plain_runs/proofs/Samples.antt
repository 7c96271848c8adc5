-- Each sample computes.
use Rattle.std.proofs.Common.{refl}
use Rattle.std.specs.Int.{int_wrap}
use Rattle.block_mem.specs.Pieces.{pieces}
use Rattle.block_mem.specs.Numbers.{low_bytes}
use Rattle.plain_runs.specs.Samples.{ValuesAre, TestsAre, ChecksAre, RunsAre, SamplesAre}

values : ValuesAre
unfolding int_wrap
values = record {
  constant = refl;
  sum = refl;
  difference = refl;
  product = refl;
  quotient = refl;
  remainder = refl;
  remainder_of_few = refl;
  minus = refl;
  plus = refl;
  unsigned_sum = refl;
  unsigned_sum_wraps = refl;
  unsigned_difference_wraps = refl;
  and = refl;
  and_of_many = refl;
  or = refl;
  exclusive_or = refl;
  complement = refl;
  complement_of_many = refl;
  shift_left = refl;
  shift_right = refl;
  shift_of_many = refl;
  conversion_keeps = refl;
  conversion_loses = refl;
  less = refl;
  less_or_not = refl;
  not_less = refl;
  greater = refl;
  at_most = refl;
  at_least = refl;
  equal = refl;
  equal_or_not = refl;
  unequal = refl;
  negation = refl;
  negation_of_zero = refl;
  negation_or_not = refl;
  no_integer = refl;
  no_address = refl;
  unsigned_product = refl;
  unsigned_product_wraps = refl;
  unsigned_quotient = refl;
  unsigned_minus_wraps = refl;
  sum_beyond = refl;
  minus_of_the_least = refl;
  quotient_to_zero = refl;
  quotient_of_both_signs = refl;
  remainder_of_negatives = refl;
  remainder_by_negatives = refl;
  or_of_many = refl;
  exclusive_or_of_many = refl;
  shift_left_of_many = refl;
  conversion_of_negatives = refl;
  greater_or_not = refl;
  not_greater = refl;
  not_at_most = refl;
  at_least_or_not = refl;
  not_equal = refl;
  not_unequal = refl;
}

tests : TestsAre
unfolding int_wrap
tests = record {
  below = refl;
  not_below = refl;
  turned = refl;
  at_most = refl;
  at_least = refl;
  equal = refl;
  unequal_at_an_end = refl;
  unequal_within = refl;
  two_sides = refl;
  two_sides_back = refl;
  excluded = refl;
  negated = refl;
  converted = refl;
  not_kept = refl;
  truth = refl;
  no_truth = refl;
  sum_below = refl;
  pointer = refl;
  not_at_most = refl;
  not_at_least = refl;
  greater = refl;
  not_greater = refl;
  not_unequal = refl;
  turned_at_most = refl;
  turned_at_least = refl;
  turned_equal = refl;
  turned_unequal = refl;
  unequal_to_many = refl;
  both_equal = refl;
  both_at_least = refl;
  both_unequal = refl;
  negated_twice = refl;
  below_itself = refl;
  below_itself_never = refl;
  not_below_itself = refl;
  at_most_itself = refl;
  above_itself = refl;
  other_than_itself = refl;
  point_other_than_itself = refl;
  converted_below_itself = refl;
  truth_cuts_nothing = refl;
}

checks : ChecksAre
unfolding int_wrap
checks = record {
  sum_fits = refl;
  sum_leaves = refl;
  sum_passes = refl;
  sum_never_passes = refl;
  divisor = refl;
  divisor_passes = refl;
  divisor_within = refl;
  divisor_is_zero = refl;
  quotient = refl;
  quotient_fits = refl;
  by_its_quotient = refl;
  remainder_is_not_cut = refl;
  amount_leaves = refl;
  amount_passes = refl;
  amount_fits = refl;
  point_shifts = refl;
  point_leaves = refl;
  many_shift = refl;
  many_pass = refl;
  assertion = refl;
  assertion_cuts_nothing = refl;
  assertion_never_holds = refl;
  another_value_is_not_cut = refl;
  product_leaves = refl;
  product_passes = refl;
  minus_leaves = refl;
  minus_passes = refl;
  quotient_passes = refl;
  amount_never_passes = refl;
  assertion_holds = refl;
}

runs : RunsAre
unfolding pieces low_bytes int_wrap
runs = record {
  within_the_bound = refl;
  beyond_the_bound = refl;
  no_turn = refl;
  read_before_it_has_a_value = refl;
  object_is_cut_with_its_copy = refl;
  static_object_is_zero = refl;
  no_goto = refl;
  nothing_behind_a_false_assumption = refl;
  one_branch_assigns = refl;
  both_branches_assign = refl;
  exits_are_joined = refl;
  exits_beyond_the_bound = refl;
  assumption_cuts = refl;
  assertion_is_a_suspect = refl;
  value_of_branches = refl;
  object_is_not_below_itself = refl;
  nothing_is_left_of_an_object = refl;
  value_of_one_branch = refl;
}

pub samples_are : SamplesAre
samples_are = record { values = values; tests = tests; checks = checks; runs = runs }
