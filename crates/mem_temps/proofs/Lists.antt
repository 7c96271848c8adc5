-- Ranges by the numbers of their temporaries.
use Rattle.std.proofs.Common.{◌≡◌, ◌≢◌, ℕ, ◌<◌, zero, suc, Bool, true, false, refl, List, [], ◌∷◌, length, replicate}
use Rattle.std.specs.Prelude.{IsTrue, not, ◌||◌, slice_set}
use Rattle.std.proofs.lemmas.List.{get_or-set_same, get_or-set_other}
use Rattle.std.proofs.Math.ListN.{length-set}
use Rattle.num_api.specs.declared.message.Range.{Range}
use Rattle.num_api.specs.Ranges.{all_numbers}
use Rattle.mem_temps.specs.Ranges.{range_at, is_all, knows}

pub set_here : (xs : List Range) (d : ℕ) (r : Range) → d < length xs → range_at (slice_set xs d r) d ≡ r
set_here xs d r h = get_or-set_same xs d r all_numbers h

pub set_elsewhere : (xs : List Range) (d k : ℕ) (r : Range) → k ≢ d → range_at (slice_set xs d r) k ≡ range_at xs k
set_elsewhere xs d k r h = get_or-set_other xs d k r all_numbers h

pub set_size : (xs : List Range) (d : ℕ) (r : Range) → length (slice_set xs d r) ≡ length xs
set_size xs d r = length-set xs d r

or_right : (a b : Bool) → b ≡ true → (a || b) ≡ true
or_right true b h = refl
or_right false b h = h

not_all : (b : Bool) (more : Bool) → b ≡ false → (not b || more) ≡ true
not_all false more h = refl
not_all true more h = absurd (cc)

-- where one range is not that of all numbers, something is known
pub knows_at : (xs : List Range) (d : ℕ) → is_all (range_at xs d) ≡ false → IsTrue (knows xs)
knows_at [] d h = absurd (cc)
knows_at (r ∷ rs) zero h = not_all (is_all r) (knows rs) h
knows_at (r ∷ rs) (suc d) h = or_right (not (is_all r)) (knows rs) (knows_at rs d h)

pub unknown_knows : (n : ℕ) → knows (replicate n all_numbers) ≡ false
unknown_knows zero = refl
unknown_knows (suc n) = unknown_knows n

pub unknown_at : (n d : ℕ) → range_at (replicate n all_numbers) d ≡ all_numbers
unknown_at zero d = refl
unknown_at (suc n) zero = refl
unknown_at (suc n) (suc d) = unknown_at n d
