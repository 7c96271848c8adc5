-- Where the bounds of a variable are taken from: another variable, or its negation, with a number of a range added.
use Rattle.std.specs.Prelude.{ℕ, ℤ, pos, neg_ℤ, ◌≡◌, ◌<◌, ◌+◌, ◌-◌, ◌/◌, ◌%◌, ◌+ℤ◌, ◌≤ℤ◌, Bool, true, false, if◌then◌else◌, nat_eq, List, slice_index_or, Option, None, Some}
use Rattle.ext_int.specs.Ext.{Below, Above, negation, rounded_high}
use Rattle.ext_int.specs.Valuation.{value_at}
use Rattle.ext_int.specs.declared.Ext.{Ext}
use Rattle.ext_int.specs.declared.Ext.TheVariants.{Low, Fin, High}
use Rattle.octagons_sources.specs.declared.source.Source.{Source}

-- of a variable that may have any number
abbrev pub any_source : Source
any_source = record { place = None; negated = false; lo = Low; hi = High }

-- of the variable at a place as it is
abbrev pub same_source : ℕ → Source
same_source k = record { place = Some k; negated = false; lo = Fin (pos 0); hi = Fin (pos 0) }

-- the source of the variable at a place; past the end of the list it may have any number
abbrev pub source_at : List Source → ℕ → Source
source_at from k = slice_index_or from k any_source

abbrev pub signed_by : Bool → ℤ → ℤ
signed_by false n = n
signed_by true n = neg_ℤ n

-- the number of the variable at a place, with a sign; 0 where there is no variable
abbrev pub origin_of : Option ℕ → Bool → List ℤ → ℤ
origin_of None sign v = pos 0
origin_of (Some k) sign v = signed_by sign (value_at v k)

-- the number is what the source makes of its variable's: a number of its range is added
pub record IsDrawn (s : Source) (v : List ℤ) (n : ℤ) : Type 0 where
  pub low : Below s.lo (n +ℤ neg_ℤ (origin_of s.place s.negated v))
  pub high : Above s.hi (n +ℤ neg_ℤ (origin_of s.place s.negated v))

-- each number of the second valuation is drawn from the first
abbrev pub AllDrawn : List Source → ℕ → List ℤ → List ℤ → Type 0
AllDrawn from vars v w = (k : ℕ) → k < vars → IsDrawn (source_at from k) v (value_at w k)

-- the index of the variable at a place that stands for it as p stands for its own variable, or the other way round
abbrev pub place_index : Option ℕ → Bool → ℕ → Option ℕ
place_index None sign p = None
place_index (Some k) false p = Some (k + k + p % 2)
place_index (Some k) true p = Some (k + k + (1 - p % 2))

-- the index from which p takes its bounds
abbrev pub index_from : List Source → ℕ → Option ℕ
index_from from p = place_index (source_at from (p / 2)).place (source_at from (p / 2)).negated p

-- the most that is added to the number of the index
abbrev pub most_of : Source → ℕ → Ext
most_of s p = if nat_eq (p % 2) 0 then s.hi else rounded_high (negation s.lo)

abbrev pub most_added : List Source → ℕ → Ext
most_added from p = most_of (source_at from (p / 2)) p

-- the range of the source holds a number
pub record IsWide (s : Source) : Type 0 where
  pub wide : (a b : ℤ) → s.hi ≡ Fin a → rounded_high (negation s.lo) ≡ Fin b → pos 0 ≤ℤ (a +ℤ b)
