-- Ends of ranges: whole numbers, and two infinite ends. An `Ext` of the logic may hold any whole number; one of the code holds an i128.
use Rattle.std.specs.Prelude.{zero, suc, ℤ, pos, negsuc, ◌+ℤ◌, ◌*ℤ◌, neg_ℤ, ◌≤ℤ◌, ◌<ℤ◌, ◌^◌, Bool, true, false, nat_lt, if◌then◌else◌, int_div}
use Rattle.std.specs.Int.{int_min, int_max, int_div_euclid}
use Rattle.std.specs.Int.RustNames.{int_le}
use Rattle.std.specs.Ordering.{int_cmp}
use Rattle.std.specs.declared.cmp.Ordering.{Ordering}
use Rattle.std.specs.declared.cmp.Ordering.TheVariants.{Less, Equal, Greater}
use Rattle.ext_int.specs.declared.Ext.{Ext}
use Rattle.ext_int.specs.declared.Ext.TheVariants.{Low, Fin, High}

-- ---- ends and numbers

-- the end is at or below the number
abbrev pub Below : Ext → ℤ → Type 0
Below Low n = Unit {0}
Below (Fin k) n = k ≤ℤ n
Below High n = ⊥

-- the end is at or above the number
abbrev pub Above : Ext → ℤ → Type 0
Above Low n = ⊥
Above (Fin k) n = n ≤ℤ k
Above High n = Unit {0}

-- some number lies between the two ends
abbrev pub holds_number : Ext → Ext → Bool
holds_number Low Low = false
holds_number Low (Fin y) = true
holds_number Low High = true
holds_number (Fin x) Low = false
holds_number (Fin x) (Fin y) = int_le x y
holds_number (Fin x) High = true
holds_number High b = false

-- the end is a number
abbrev pub IsNumber : Ext → Type 0
IsNumber Low = ⊥
IsNumber (Fin x) = Unit {0}
IsNumber High = ⊥

-- the end is above 0, or below it
abbrev pub IsPositive : Ext → Type 0
IsPositive Low = ⊥
IsPositive (Fin (pos zero)) = ⊥
IsPositive (Fin (pos (suc n))) = Unit {0}
IsPositive (Fin (negsuc n)) = ⊥
IsPositive High = Unit {0}

abbrev pub IsNegative : Ext → Type 0
IsNegative Low = Unit {0}
IsNegative (Fin (pos n)) = ⊥
IsNegative (Fin (negsuc n)) = Unit {0}
IsNegative High = ⊥

-- ---- the order of ends

-- the first end is at or below the second
abbrev pub AtMost : Ext → Ext → Type 0
AtMost Low b = Unit {0}
AtMost (Fin x) Low = ⊥
AtMost (Fin x) (Fin y) = x ≤ℤ y
AtMost (Fin x) High = Unit {0}
AtMost High Low = ⊥
AtMost High (Fin y) = ⊥
AtMost High High = Unit {0}

-- the first end is below the second
abbrev pub Before : Ext → Ext → Type 0
Before Low Low = ⊥
Before Low (Fin y) = Unit {0}
Before Low High = Unit {0}
Before (Fin x) Low = ⊥
Before (Fin x) (Fin y) = x <ℤ y
Before (Fin x) High = Unit {0}
Before High b = ⊥

-- how the first end stands to the second
abbrev pub end_cmp : Ext → Ext → Ordering
end_cmp Low Low = Equal
end_cmp Low (Fin y) = Less
end_cmp Low High = Less
end_cmp (Fin x) Low = Greater
end_cmp (Fin x) (Fin y) = int_cmp x y
end_cmp (Fin x) High = Less
end_cmp High Low = Greater
end_cmp High (Fin y) = Greater
end_cmp High High = Equal

-- the lesser of two ends
abbrev pub lesser : Ext → Ext → Ext
lesser Low b = Low
lesser (Fin x) Low = Low
lesser (Fin x) (Fin y) = Fin (int_min x y)
lesser (Fin x) High = Fin x
lesser High b = b

-- the greater of two ends
abbrev pub greater : Ext → Ext → Ext
greater Low b = b
greater (Fin x) Low = Fin x
greater (Fin x) (Fin y) = Fin (int_max x y)
greater (Fin x) High = High
greater High b = High

-- the least and the greatest of four ends
abbrev pub least_of : Ext → Ext → Ext → Ext → Ext
least_of p q r s = lesser (lesser p q) (lesser r s)

abbrev pub greatest_of : Ext → Ext → Ext → Ext → Ext
greatest_of p q r s = greater (greater p q) (greater r s)

-- ---- ends that hold an i128

-- the number is an i128
abbrev pub is_i128 : ℤ → Bool
is_i128 (pos n) = nat_lt n (2 ^ 127)
is_i128 (negsuc n) = nat_lt n (2 ^ 127)

-- the number as a lower bound: itself where it is an i128, else Low
abbrev pub low_end : ℤ → Ext
low_end z = if is_i128 z then Fin z else Low

-- the number as an upper bound: itself where it is an i128, else High
abbrev pub high_end : ℤ → Ext
high_end z = if is_i128 z then Fin z else High

-- an exact end as a lower bound
abbrev pub rounded_low : Ext → Ext
rounded_low Low = Low
rounded_low (Fin z) = low_end z
rounded_low High = High

-- an exact end as an upper bound
abbrev pub rounded_high : Ext → Ext
rounded_high Low = Low
rounded_high (Fin z) = high_end z
rounded_high High = High

-- ---- arithmetic of ends

-- the sum as a lower bound: Low where an operand is infinite
abbrev pub sum_low : Ext → Ext → Ext
sum_low (Fin x) (Fin y) = low_end (x +ℤ y)
sum_low a b = Low

-- the sum as an upper bound: High where an operand is infinite
abbrev pub sum_high : Ext → Ext → Ext
sum_high (Fin x) (Fin y) = high_end (x +ℤ y)
sum_high a b = High

-- which side of 0 an end is on
abbrev pub side : Ext → Ordering
side Low = Less
side (Fin (pos zero)) = Equal
side (Fin (pos (suc n))) = Greater
side (Fin (negsuc n)) = Less
side High = Greater

-- the product of two ends, one of them infinite, by their sides: 0, or the infinite end of its sign
abbrev pub infinite_product : Ordering → Ordering → Ext
infinite_product Less Less = High
infinite_product Less Equal = Fin (pos 0)
infinite_product Less Greater = Low
infinite_product Equal t = Fin (pos 0)
infinite_product Greater Less = Low
infinite_product Greater Equal = Fin (pos 0)
infinite_product Greater Greater = High

-- the exact product of two ends
abbrev pub product : Ext → Ext → Ext
product (Fin x) (Fin y) = Fin (x *ℤ y)
product a b = infinite_product (side a) (side b)

-- the exact quotient of two ends, rounded toward 0, where the divisor is not 0: 0 by an infinite end
abbrev pub quotient : Ext → Ext → Ext
quotient a Low = Fin (pos 0)
quotient a High = Fin (pos 0)
quotient Low (Fin y) = product Low (Fin y)
quotient (Fin x) (Fin y) = Fin (int_div x y)
quotient High (Fin y) = product High (Fin y)

-- the exact negation of an end
abbrev pub negation : Ext → Ext
negation Low = High
negation (Fin x) = Fin (neg_ℤ x)
negation High = Low

-- half of an end, rounded down
abbrev pub half : Ext → Ext
half Low = Low
half (Fin x) = Fin (int_div_euclid x (pos 2))
half High = High

-- ---- operations on two ranges, one from `a` to `b` and one from `c` to `d`

-- the least of the operation's values at the ends of the ranges, as a lower bound
abbrev pub least_corner : (Ext → Ext → Ext) → Ext → Ext → Ext → Ext → Ext
least_corner op a b c d = least_of (rounded_low (op a c)) (rounded_low (op a d)) (rounded_low (op b c)) (rounded_low (op b d))

-- the greatest of them, as an upper bound
abbrev pub greatest_corner : (Ext → Ext → Ext) → Ext → Ext → Ext → Ext → Ext
greatest_corner op a b c d = greatest_of (rounded_high (op a c)) (rounded_high (op a d)) (rounded_high (op b c)) (rounded_high (op b d))
