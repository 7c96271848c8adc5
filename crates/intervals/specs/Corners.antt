-- The ends of the products and quotients of two ranges, from the corners: the results at their ends.
use Rattle.std.specs.Prelude.{ℤ, pos, negsuc, ◌-◌, ◌^◌, if◌then◌else◌}
use Rattle.std.specs.Int.RustNames.{int_lt}
use Rattle.ext_int.specs.declared.Ext.{Ext}
use Rattle.ext_int.specs.declared.Ext.TheVariants.{Low, Fin, High}
use Rattle.ext_int.specs.Ext.{is_i128, least_of, greatest_of}

-- the greatest end at or below the number: itself where it is an i128, and else the greatest i128, or Low
abbrev pub floor_end : ℤ → Ext
floor_end z = if is_i128 z then Fin z else (if int_lt z (pos 0) then Low else Fin (pos (2 ^ 127 - 1)))

-- the least end at or above it
abbrev pub ceiling_end : ℤ → Ext
ceiling_end z = if is_i128 z then Fin z else (if int_lt z (pos 0) then Fin (negsuc (2 ^ 127 - 1)) else High)

abbrev pub floored : Ext → Ext
floored Low = Low
floored (Fin z) = floor_end z
floored High = High

abbrev pub ceiled : Ext → Ext
ceiled Low = Low
ceiled (Fin z) = ceiling_end z
ceiled High = High

-- the least corner of a range from `a` to `b` and one from `c` to `d`, as a lower bound
abbrev pub least_corner : (Ext → Ext → Ext) → Ext → Ext → Ext → Ext → Ext
least_corner op a b c d = least_of (floored (op a c)) (floored (op a d)) (floored (op b c)) (floored (op b d))

-- the greatest one, as an upper bound
abbrev pub greatest_corner : (Ext → Ext → Ext) → Ext → Ext → Ext → Ext → Ext
greatest_corner op a b c d = greatest_of (ceiled (op a c)) (ceiled (op a d)) (ceiled (op b c)) (ceiled (op b d))
