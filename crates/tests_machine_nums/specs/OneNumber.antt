-- States that know the number of one variable, or nothing.
use Rattle.std.specs.Prelude.{ℕ, ℤ, ◌≡◌, Bool, true, false, ◌&&◌, nat_eq, List}
use Rattle.std.specs.Ordering.{int_eq}
use Rattle.ext_int.specs.Valuation.{value_at}
use Rattle.tests_machine_nums.specs.declared.one_number.OneNumber.{OneNumber}
use Rattle.tests_machine_nums.specs.declared.one_number.OneNumber.TheVariants.{Anything, Known}

-- the variable that is known has its number
abbrev pub Admits : OneNumber → List ℤ → Type 0
Admits Anything v = Unit {0}
Admits (Known x n) v = value_at v x.0 ≡ n

-- the first state knows no more than the second
abbrev pub knows_no_more : OneNumber → OneNumber → Bool
knows_no_more Anything s = true
knows_no_more (Known x n) Anything = false
knows_no_more (Known x n) (Known y m) = nat_eq x.0 y.0 && int_eq n m

-- how many variables are known
abbrev pub known_count : OneNumber → ℕ
known_count Anything = 0
known_count (Known x n) = 1
