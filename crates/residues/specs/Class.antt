-- A congruence class as its users see it.
use Rattle.std.specs.Prelude.{ℕ, ℤ, pos, ◌+◌, ◌^◌, Bool, if◌then◌else◌, ◌&&◌}
use Rattle.std.specs.Ordering.{int_eq}
use Rattle.std.specs.Int.{int_rem_euclid}
use Rattle.std.specs.Int.RustNames.{unsigned_abs}
use Rattle.ext_int.specs.declared.Ext.TheVariants.{Fin}
use Rattle.num_api.specs.Ranges.{all_numbers}
use Rattle.num_api.specs.declared.message.Range.{Range}
use Rattle.num_api.specs.declared.message.Residue.{Residue}
use Rattle.residues.specs.declared.class.Class.{Class}

-- the remainder and the modulus of the class
abbrev pub residue_of : Class → Residue
residue_of c = c.residue

-- the range of a class: a modulus of 0 leaves one number
abbrev pub range_of_class : Residue → Range
range_of_class r = if int_eq r.modulus (pos 0) then record { lo = Fin r.rem; hi = Fin r.rem } else all_numbers

-- the number is in the class
abbrev pub is_member : Residue → ℤ → Bool
is_member r n = if int_eq r.modulus (pos 0) then int_eq n r.rem else int_eq (int_rem_euclid n r.modulus) r.rem

-- the first modulus divides the second; 0 divides only 0
abbrev pub divides : ℤ → ℤ → Bool
divides m n = if int_eq m (pos 0) then int_eq n (pos 0) else int_eq (int_rem_euclid n m) (pos 0)

-- the first class holds the second
abbrev pub holds_class : Residue → Residue → Bool
holds_class r s = divides r.modulus s.modulus && is_member r s.rem

-- widening goes from one number to classes of ever smaller moduli
abbrev pub class_weight : Residue → ℕ
class_weight r = if int_eq r.modulus (pos 0) then 2 ^ 100 + 1 else unsigned_abs r.modulus
