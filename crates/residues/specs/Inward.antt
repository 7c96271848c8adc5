-- Ranges whose ends are moved inward to numbers of a class.
use Rattle.std.specs.Prelude.{◌≡◌, ◌^◌, ◌-◌, ℤ, pos, negsuc, ◌+ℤ◌, ◌-ℤ◌, if◌then◌else◌, ◌⊎◌}
use Rattle.std.specs.Int.{int_min, int_max, int_rem_euclid}
use Rattle.std.specs.Int.RustNames.{int_le, FitsSigned}
use Rattle.std.specs.Ordering.{int_eq}
use mir.Syntax.{w128}
use Rattle.ext_int.specs.declared.Ext.{Ext}
use Rattle.ext_int.specs.declared.Ext.TheVariants.{Low, Fin, High}
use Rattle.num_api.specs.declared.message.Range.{Range}
use Rattle.num_api.specs.declared.message.Residue.{Residue}
use Rattle.num_api.specs.Ranges.{InRange, holds_some}
use Rattle.num_api.specs.Residues.{InResidue}

-- the least number of the class from n up, and the greatest from n down, where its modulus is not 0
abbrev pub next_member : Residue → ℤ → ℤ
next_member c n = n +ℤ int_rem_euclid (c.rem -ℤ n) c.modulus

abbrev pub last_member : Residue → ℤ → ℤ
last_member c n = n -ℤ int_rem_euclid (n -ℤ c.rem) c.modulus

-- a lower end, moved up to the nearest number of the class; it stays where that is above every i128
abbrev pub inward_low : Residue → Ext → Ext
inward_low c Low = if int_eq c.modulus (pos 0) then Fin c.rem else Low
inward_low c (Fin n) =
    if int_eq c.modulus (pos 0) then Fin (int_max n c.rem) else (if int_le (next_member c n) (pos (2 ^ 127 - 1)) then Fin (next_member c n) else Fin n)
inward_low c High = High

-- an upper end, moved down to the nearest number of the class; it stays where that is below every i128
abbrev pub inward_high : Residue → Ext → Ext
inward_high c Low = Low
inward_high c (Fin n) =
    if int_eq c.modulus (pos 0) then Fin (int_min n c.rem) else (if int_le (negsuc (2 ^ 127 - 1)) (last_member c n) then Fin (last_member c n) else Fin n)
inward_high c High = if int_eq c.modulus (pos 0) then Fin c.rem else High

-- both ends moved
abbrev pub moved_range : Residue → Range → Range
moved_range c r = record { lo = inward_low c r.lo; hi = inward_high c r.hi }

-- both ends moved, where that leaves a number
abbrev pub inward_range : Residue → Range → Range
inward_range c r = if holds_some (moved_range c r) then moved_range c r else r

-- no i128 of the range is in the class
abbrev pub HasNone : Range → Residue → Type 0
HasNone r c = (m : ℤ) → InRange r m → FitsSigned w128 m → InResidue c m → ⊥

-- each end that is a number is in the class, unless no i128 of the range is
pub record IsReduced (r : Range) (c : Residue) : Type 0 where
  pub low : (n : ℤ) → r.lo ≡ Fin n → InResidue c n ⊎ HasNone r c
  pub high : (n : ℤ) → r.hi ≡ Fin n → InResidue c n ⊎ HasNone r c

-- some number of the range is in the class
abbrev pub HasSome : Range → Residue → Type 0
HasSome r c = (m : ℤ) × InRange r m × InResidue c m
