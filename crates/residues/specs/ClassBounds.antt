-- How much the operators may leave open at two classes.
use Rattle.std.specs.Prelude.{◌≡◌, ℕ, ℤ, pos, neg_ℤ, ◌+ℤ◌, ◌-ℤ◌, ◌*ℤ◌, ◌≤ℤ◌, ◌<◌, ◌≤◌, ◌^◌, ◌⊎◌, Some}
use Rattle.std.specs.Int.RustNames.{FitsSigned}
use mir.Syntax.{w128}
use Rattle.num_api.specs.declared.expr.NOp.{NOp}
use Rattle.num_api.specs.declared.expr.NOp.TheVariants.{Neg, Add, Sub, Mul, Rem, Shl, And, Or, Xor}
use Rattle.num_api.specs.declared.message.Residue.{Residue}
use Rattle.num_api.specs.Residues.{class_of, IsMultiple, IsFoldResidue}
use Rattle.num_api.specs.Value.{binary_value}
use Rattle.residues.specs.Classes.{LiesIn}

-- one of the two classes is not one number
abbrev pub HasStep : Residue → Residue → Type 0
HasStep a b = (pos 1 ≤ℤ a.modulus) ⊎ (pos 1 ≤ℤ b.modulus)

-- the number is at most 2^100 in size
abbrev pub IsSmall : ℤ → Type 0
IsSmall n = (neg_ℤ (pos (2 ^ 100)) ≤ℤ n) × (n ≤ℤ pos (2 ^ 100))

-- sums and differences: the class of z by each step that divides both moduli
abbrev pub SumBounds : Residue → Residue → ℤ → Residue → Type 0
SumBounds a b z r = HasStep a b → (d : ℤ) → IsMultiple d a.modulus → IsMultiple d b.modulus → LiesIn r (class_of z d)

-- the product of the remainders is an i128, and the products by a modulus are small
pub record HasSmallProducts (a b : Residue) : Type 0 where
  pub rem : FitsSigned w128 (a.rem *ℤ b.rem)
  pub left : IsSmall (a.modulus *ℤ b.rem)
  pub right : IsSmall (b.modulus *ℤ a.rem)
  pub both : IsSmall (a.modulus *ℤ b.modulus)

-- products: the class of the product of the remainders by each step that divides the products by a modulus
abbrev pub ProductBounds : Residue → Residue → Residue → Type 0
ProductBounds a b r = HasSmallProducts a b → (d : ℤ) → IsMultiple d (a.modulus *ℤ b.rem) → IsMultiple d (b.modulus *ℤ a.rem)
    → IsMultiple d (a.modulus *ℤ b.modulus) → LiesIn r (class_of (a.rem *ℤ b.rem) d)

-- shifts by one amount: products by its power of two
abbrev pub ShiftBounds : Residue → Residue → Residue → Type 0
ShiftBounds a b r = (k : ℕ) → k < 127 → b ≡ class_of (pos k) (pos 0) → ProductBounds a (class_of (pos (2 ^ k)) (pos 0)) r

-- a number that divides a class, as far as by any m the products are small: each divisor of m times the remainder and the modulus
-- divides m times it
pub record IsFactor (a : Residue) (f : ℤ) : Type 0 where
  pub greatest : (d m : ℤ) → IsSmall (m *ℤ a.rem) → IsMultiple d (m *ℤ a.rem) → IsMultiple d (m *ℤ a.modulus) → IsMultiple d (m *ℤ f)
  pub small : (m : ℤ) → pos 0 ≤ℤ m → IsSmall (m *ℤ a.rem) → IsSmall (m *ℤ a.modulus) → (m *ℤ f) ≤ℤ pos (2 ^ 100)

-- the size of a number, as a factor
pub record IsSize (n f : ℤ) : Type 0 where
  pub greatest : (d m : ℤ) → IsSmall (m *ℤ n) → IsMultiple d (m *ℤ n) → IsMultiple d (m *ℤ f)
  pub small : (m : ℤ) → pos 0 ≤ℤ m → IsSmall (m *ℤ n) → (m *ℤ f) ≤ℤ pos (2 ^ 100)

-- remainders: the class of the dividend's remainder by each step that divides its modulus and all divisors
abbrev pub RestBounds : Residue → Residue → Residue → Type 0
RestBounds a b r = HasStep a b → IsSmall b.rem → (d : ℤ) → IsMultiple d a.modulus → IsMultiple d b.rem → IsMultiple d b.modulus → LiesIn r (class_of a.rem d)

-- each power of two up to 2^100 that divides both numbers divides this one
abbrev pub IsGreatestPower : ℤ → ℤ → ℤ → Type 0
IsGreatestPower m n step = (j : ℕ) → j ≤ 100 → IsMultiple (pos (2 ^ j)) m → IsMultiple (pos (2 ^ j)) n → IsMultiple (pos (2 ^ j)) step

-- the operators on bits: the low bits that all numbers of either class have in common give those of the result
abbrev pub LowBounds : NOp → Residue → Residue → Residue → Type 0
LowBounds op a b r = (j : ℕ) (n : ℤ) → j ≤ 100 → IsMultiple (pos (2 ^ j)) a.modulus → IsMultiple (pos (2 ^ j)) b.modulus → binary_value op a.rem b.rem ≡ Some n
    → LiesIn r (class_of n (pos (2 ^ j)))

-- and low bits that no number of one class has the result has not
pub record AndBounds (a b r : Residue) : Type 0 where
  pub low : LowBounds And a b r
  pub first : (j : ℕ) → j ≤ 100 → IsFoldResidue (pos (2 ^ j)) a → IsFoldResidue (pos (2 ^ j)) r
  pub second : (j : ℕ) → j ≤ 100 → IsFoldResidue (pos (2 ^ j)) b → IsFoldResidue (pos (2 ^ j)) r

abbrev pub ClassBounds : NOp → Residue → Residue → Residue → Type 0
ClassBounds Add a b r = SumBounds a b (a.rem +ℤ b.rem) r
ClassBounds Sub a b r = SumBounds a b (a.rem -ℤ b.rem) r
ClassBounds Mul a b r = ProductBounds a b r
ClassBounds Shl a b r = ShiftBounds a b r
ClassBounds Rem a b r = RestBounds a b r
ClassBounds And a b r = AndBounds a b r
ClassBounds Or a b r = LowBounds Or a b r
ClassBounds Xor a b r = LowBounds Xor a b r
ClassBounds op a b r = Unit {0}

-- the negation of a class that is not one number
abbrev pub NegationBounds : NOp → Residue → Residue → Type 0
NegationBounds Neg a r = pos 1 ≤ℤ a.modulus → (d : ℤ) → IsMultiple d a.modulus → LiesIn r (class_of (neg_ℤ a.rem) d)
NegationBounds op a r = Unit {0}

-- the operators that keep no class of sums or products
abbrev pub IsOther : NOp → Type 0
IsOther Add = ⊥
IsOther Sub = ⊥
IsOther Mul = ⊥
IsOther Shl = ⊥
IsOther op = Unit {0}
