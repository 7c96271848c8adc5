-- Classes of numbers that are the same up to a multiple of a modulus, and common divisors.
use Rattle.std.specs.Prelude.{ℤ, pos, ◌≡◌, ◌+ℤ◌, ◌-ℤ◌, ◌*ℤ◌, ◌≤ℤ◌, ◌<ℤ◌, ◌^◌, ◌⊎◌, neg_ℤ}
use Rattle.num_api.specs.Residues.{InResidue, IsResidue, IsMultiple}
use Rattle.num_api.specs.Fold.{IsAlignment}
use Rattle.num_api.specs.declared.message.Residue.{Residue}

-- the class has this modulus, and this number is in it
pub record IsClassOf (rem modulus : ℤ) (r : Residue) : Type 0 where
  pub modulus_is : r.modulus ≡ modulus
  pub contains : InResidue r rem

-- every number of the first class is in the second: the moduli divide, and a number is
pub record LiesIn (r s : Residue) : Type 0 where
  pub divides : IsMultiple s.modulus r.modulus
  pub contains : InResidue s r.rem

-- a divisor of both numbers that is a multiple of the one and one of the other, added: the greatest common divisor
pub record IsGreatestDivisor (a b g : ℤ) : Type 0 where
  pub not_negative : pos 0 ≤ℤ g
  pub first : IsMultiple g a
  pub second : IsMultiple g b
  pub combined : (x : ℤ) × (y : ℤ) × (g ≡ (x *ℤ a) +ℤ (y *ℤ b))

-- a divisor of both numbers that may be the modulus of a class, and that each alignment divides which divides both
pub record IsCommonStep (m n g : ℤ) : Type 0 where
  pub not_negative : pos 0 ≤ℤ g
  pub bounded : g ≤ℤ pos (2 ^ 100)
  pub first : IsMultiple g m
  pub second : IsMultiple g n
  pub folds : (c : ℤ) → IsAlignment c → IsMultiple c m → IsMultiple c n → IsMultiple c g

-- the class of this number by a step that divides both moduli
pub record IsByCommonStep (m n z : ℤ) (r : Residue) : Type 0 where
  pub step : ℤ
  pub common : IsCommonStep m n step
  pub is : IsClassOf z step r

-- the class of a product of two numbers, of which f divides all numbers of the first class and g all of the second
pub record IsProductBy (a b : Residue) (f g : ℤ) (r : Residue) : Type 0 where
  pub step : ℤ
  pub divisor : IsGreatestDivisor (a.modulus *ℤ g) (f *ℤ b.modulus) step
  pub is : IsClassOf (a.rem *ℤ b.rem) step r

-- what divides the step divides this number exactly where it divides the difference
pub record IsGap (x y step g : ℤ) : Type 0 where
  pub not_negative : pos 0 ≤ℤ g
  pub forth : (d : ℤ) → IsMultiple d step → IsMultiple d (x -ℤ y) → IsMultiple d g
  pub back : (d : ℤ) → IsMultiple d step → IsMultiple d g → IsMultiple d (x -ℤ y)

-- 1 is a multiple of the one and one of the other, added: no other number divides both
pub record IsCoprime (a b : ℤ) : Type 0 where
  pub combined : (x : ℤ) × (y : ℤ) × (pos 1 ≡ (x *ℤ a) +ℤ (y *ℤ b))

-- so many steps make the gap, up to a multiple of the modulus
pub record IsTurn (step gap modulus t : ℤ) : Type 0 where
  pub low : pos 0 ≤ℤ t
  pub high : t <ℤ modulus
  pub solves : IsMultiple modulus ((step *ℤ t) -ℤ gap)

-- neither class is one number, and the greatest common divisor of the moduli divides the difference of the remainders
pub record SharesBy (a b : Residue) (common : ℤ) : Type 0 where
  pub first : pos 1 ≤ℤ a.modulus
  pub second : pos 1 ≤ℤ b.modulus
  pub divisor : IsGreatestDivisor a.modulus b.modulus common
  pub shares : IsMultiple common (b.rem -ℤ a.rem)

-- the class holds exactly the numbers that are in both, and its modulus is at most 2^100
pub record IsMeet (a b s : Residue) : Type 0 where
  pub proper : IsResidue s
  pub first : (n : ℤ) → InResidue s n → InResidue a n
  pub second : (n : ℤ) → InResidue s n → InResidue b n
  pub holds : (n : ℤ) → InResidue a n → InResidue b n → InResidue s n

-- the class holds the numbers that are in both and lies in the first; where one that holds no others has a modulus of at most 2^100,
-- it lies in the second too
pub record Meets (a b r : Residue) : Type 0 where
  pub holds : (n : ℤ) → InResidue a n → InResidue b n → InResidue r n
  pub first : LiesIn r a
  pub second : (s : Residue) → IsMeet a b s → LiesIn r b

-- the least class that holds both, with a modulus of at most 2^100
pub record IsJoin (a b s : Residue) : Type 0 where
  pub proper : IsResidue s
  pub first : LiesIn a s
  pub second : LiesIn b s
  pub least : (t : Residue) → LiesIn a t → LiesIn b t → LiesIn s t

-- the two numbers lie further apart than 2^100
abbrev pub IsFarApart : ℤ → ℤ → Type 0
IsFarApart x y = (pos (2 ^ 100) <ℤ (x -ℤ y)) ⊎ ((x -ℤ y) <ℤ neg_ℤ (pos (2 ^ 100)))

-- some number is in both classes; none is
abbrev pub HaveCommon : Residue → Residue → Type 0
HaveCommon a b = (n : ℤ) × InResidue a n × InResidue b n

abbrev pub AreApart : Residue → Residue → Type 0
AreApart a b = (n : ℤ) → InResidue a n → InResidue b n → ⊥
