-- The laws that an interval's class is proper and holds its numbers, by its ends.
use Rattle.std.specs.Prelude.{ℤ, pos, ◌≡◌, Bool, true, false, if◌then◌else◌, refl}
use Rattle.std.specs.Ordering.{int_eq}
use Rattle.ext_int.specs.declared.Ext.{Ext}
use Rattle.ext_int.specs.declared.Ext.TheVariants.{Low, Fin, High}
use Rattle.ext_int.specs.Ext.{Below, Above}
use Rattle.num_api.specs.Residues.{InResidue, IsResidue}
use Rattle.num_api.specs.declared.message.Residue.{Residue}
use Rattle.num_api.proofs.ClassLemmas.{in_any, in_point, any_is_proper, point_is_proper}
use Rattle.intervals.specs.Interval.{class_between}

by_test : (t : Bool) (r : Residue) (n : ℤ) → (t ≡ true → InResidue r n) → InResidue (if t then r else record { rem = pos 0; modulus = pos 1 }) n
by_test true r n h = h refl
by_test false r n h = in_any n

pub in_class_between : (a b : Ext) (n : ℤ) → Below a n → Above b n → InResidue (class_between a b) n
in_class_between Low b n low high = in_any n
in_class_between (Fin a) Low n low high = in_any n
in_class_between (Fin a) (Fin b) n low high = by_test (int_eq a b) (record { rem = a; modulus = pos 0 }) n (λ e. in_point a b n e low high)
in_class_between (Fin a) High n low high = in_any n
in_class_between High b n low high = in_any n

proper_by : (t : Bool) (r : Residue) → IsResidue r → IsResidue (if t then r else record { rem = pos 0; modulus = pos 1 })
proper_by true r p = p
proper_by false r p = any_is_proper

pub class_between_is_proper : (a b : Ext) → IsResidue (class_between a b)
class_between_is_proper Low b = any_is_proper
class_between_is_proper (Fin a) Low = any_is_proper
class_between_is_proper (Fin a) (Fin b) = proper_by (int_eq a b) (record { rem = a; modulus = pos 0 }) (point_is_proper a)
class_between_is_proper (Fin a) High = any_is_proper
class_between_is_proper High b = any_is_proper
