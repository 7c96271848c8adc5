-- What a test leaves of the variables that it compares.
use Rattle.std.specs.Prelude.{ℕ, ℤ, List, Option, IfSome}
use Rattle.ext_int.specs.Valuation.{value_at}
use Rattle.num_api.specs.declared.message.Range.{Range}
use Rattle.num_api.specs.Ranges.{InRange, NoWider}
use Rattle.machine_nums.specs.declared.cuts.Cut.{Cut}
use Rattle.machine_nums.specs.declared.cuts.Cuts.{Cuts}

-- the variable's number lies in the range of the cut, where there is one
abbrev pub HoldsCut : List ℤ → Option Cut → Type 0
HoldsCut v cut = IfSome cut (λ c. InRange c.range (value_at v c.x.0))

pub record HoldCuts (v : List ℤ) (cuts : Cuts) : Type 0 where
  pub left : HoldsCut v cuts.left
  pub right : HoldsCut v cuts.right

-- what is known of the variable is no wider than the cut
abbrev pub IsCutBy : (ℕ → Range) → Option Cut → Type 0
IsCutBy known cut = IfSome cut (λ c. NoWider (known c.x.0) c.range)

pub record AreCutBy (known : ℕ → Range) (cuts : Cuts) : Type 0 where
  pub left : IsCutBy known cuts.left
  pub right : IsCutBy known cuts.right
