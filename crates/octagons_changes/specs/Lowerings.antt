-- What a sum that is at most a bound says of the bounds of a pack.
use Rattle.std.specs.Prelude.{ℕ, ℤ, pos, negsuc, neg_ℤ, ◌<◌, ◌+◌, ◌*◌, ◌+ℤ◌, Bool, true, false, not, List, Option, None, Some}
use Rattle.ext_int.specs.Ext.{Above, AtMost}
use Rattle.ext_int.specs.declared.Ext.{Ext}
use Rattle.ext_int.specs.declared.Ext.TheVariants.{Fin, High}
use Rattle.bound_matrix.specs.Bound.{bound_at, cut}
use Rattle.bound_matrix.specs.Points.{signed}
use Rattle.octagons_linear.specs.declared.forms.Signed.{Signed}
use Rattle.num_api.specs.declared.message.Message.{Message}
use Rattle.num_api.specs.declared.message.Message.TheVariants as messages
use Rattle.octagons_pack.specs.Packs.{place_in}
use Rattle.octagons_changes.specs.States.{OctagonView}
use Rattle.octagons_changes.specs.declared.lowering.Lowering.{Lowering}
use Rattle.octagons_changes.specs.declared.lowering.Lowering.TheVariants.{Nothing, Impossible, Entry}

-- the index of the variable at a place, or of its negation
abbrev pub index : ℕ → Bool → ℕ
index k false = k + k
index k true = k + k + 1

-- the numbers a of a pack meet what is to be lowered
abbrev pub IsMet : List ℤ → Lowering → Type 0
IsMet a Nothing = Unit {0}
IsMet a Impossible = ⊥
IsMet a (Entry i j bound) = Above bound (signed a j +ℤ neg_ℤ (signed a i))

-- the indices are those of so many variables
abbrev pub IsWithin : ℕ → Lowering → Type 0
IsWithin vars Nothing = Unit {0}
IsWithin vars Impossible = Unit {0}
IsWithin vars (Entry i j bound) = (i < 2 * vars) × (j < 2 * vars)

-- the bound is no greater than it is to be
abbrev pub IsLowered : (ℕ → ℕ → Ext) → Lowering → Type 0
IsLowered m Nothing = Unit {0}
IsLowered m Impossible = Unit {0}
IsLowered m (Entry i j bound) = AtMost (m i j) (cut bound)

abbrev pub bound_of_places : (ℕ → ℕ → Ext) → Bool → Option ℕ → Bool → Option ℕ → Ext
bound_of_places m nx None ny l = High
bound_of_places m nx (Some k) ny None = High
bound_of_places m nx (Some k) ny (Some l) = m (index l (not ny)) (index k nx)

-- the bound that an octagon has of the sum of two variables, each with its sign: none where it lacks one of them
abbrev pub sum_bound : OctagonView → Signed → Signed → Ext
sum_bound o s t = bound_of_places (bound_at o.matrix) s.negated (place_in s.var o.pack) t.negated (place_in t.var o.pack)

-- the bound of the sum of the variables at two places, each with its sign, is lowered
abbrev pub sum_lowering : Bool → Option ℕ → Bool → Option ℕ → Ext → Lowering
sum_lowering nx None ny l most = Nothing
sum_lowering nx (Some k) ny None most = Nothing
sum_lowering nx (Some k) ny (Some l) most = Entry (index l (not ny)) (index k nx) most

-- the sign is -1
abbrev pub is_minus : ℤ → Bool
is_minus (pos n) = false
is_minus (negsuc n) = true

abbrev pub with_sign : ℤ → ℕ → Signed
with_sign sign x = record { var = x; negated = is_minus sign }

-- a bound on two variables is no greater than a message says, where that bounds two; up to 2^100 in size a matrix keeps bounds as they are
abbrev pub IsTold : OctagonView → Message → Type 0
IsTold o (messages.Between x r) = Unit {0}
IsTold o (messages.Class x r) = Unit {0}
IsTold o (messages.Equal x e) = Unit {0}
IsTold o (messages.AtMost sx x sy y bound) = AtMost (sum_bound o (with_sign sx x.0) (with_sign sy y.0)) (cut (Fin bound))
