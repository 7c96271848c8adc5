-- Balanced types are promoted.
use Rattle.std.proofs.Common.{◌≡◌, refl, ap, ◌∙◌}
use Rattle.c_syntax_written.specs.declared.int_type.IntType.{IntType}
use Rattle.c_syntax_written.specs.declared.int_type.IntType.TheVariants as ints
use Rattle.c_layout.specs.Conversion.{promoted, common, balanced}
use Rattle.c_layout.specs.RowTypes.{IsPromoted}

-- a type that the promotions leave as it is
data IsWide : IntType → Type 0 where
  int : IsWide ints.Int
  unsigned : IsWide ints.UInt
  long : IsWide ints.Long
  unsigned_long : IsWide ints.ULong
  long_long : IsWide ints.LLong
  unsigned_long_long : IsWide ints.ULLong

wide_promoted : (t : IntType) → IsWide (promoted t)
wide_promoted ints.Char = int
wide_promoted ints.SChar = int
wide_promoted ints.UChar = int
wide_promoted ints.Short = int
wide_promoted ints.UShort = int
wide_promoted ints.Int = int
wide_promoted ints.UInt = unsigned
wide_promoted ints.Long = long
wide_promoted ints.ULong = unsigned_long
wide_promoted ints.LLong = long_long
wide_promoted ints.ULLong = unsigned_long_long

wide_common : {a b : IntType} → IsWide a → IsWide b → IsWide (common a b)
wide_common int int = int
wide_common int unsigned = unsigned
wide_common int long = long
wide_common int unsigned_long = unsigned_long
wide_common int long_long = long_long
wide_common int unsigned_long_long = unsigned_long_long
wide_common unsigned int = unsigned
wide_common unsigned unsigned = unsigned
wide_common unsigned long = long
wide_common unsigned unsigned_long = unsigned_long
wide_common unsigned long_long = long_long
wide_common unsigned unsigned_long_long = unsigned_long_long
wide_common long int = long
wide_common long unsigned = long
wide_common long long = long
wide_common long unsigned_long = unsigned_long
wide_common long long_long = long_long
wide_common long unsigned_long_long = unsigned_long_long
wide_common unsigned_long int = unsigned_long
wide_common unsigned_long unsigned = unsigned_long
wide_common unsigned_long long = unsigned_long
wide_common unsigned_long unsigned_long = unsigned_long
wide_common unsigned_long long_long = unsigned_long_long
wide_common unsigned_long unsigned_long_long = unsigned_long_long
wide_common long_long int = long_long
wide_common long_long unsigned = long_long
wide_common long_long long = long_long
wide_common long_long unsigned_long = unsigned_long_long
wide_common long_long long_long = long_long
wide_common long_long unsigned_long_long = unsigned_long_long
wide_common unsigned_long_long int = unsigned_long_long
wide_common unsigned_long_long unsigned = unsigned_long_long
wide_common unsigned_long_long long = unsigned_long_long
wide_common unsigned_long_long unsigned_long = unsigned_long_long
wide_common unsigned_long_long long_long = unsigned_long_long
wide_common unsigned_long_long unsigned_long_long = unsigned_long_long

wide_same : {t : IntType} → IsWide t → IsPromoted t
wide_same int = refl
wide_same unsigned = refl
wide_same long = refl
wide_same unsigned_long = refl
wide_same long_long = refl
wide_same unsigned_long_long = refl

pub promoted_same : (t : IntType) → IsPromoted (promoted t)
promoted_same t = wide_same (wide_promoted t)

pub balanced_same : (t u : IntType) → IsPromoted (balanced t u)
balanced_same t u = wide_same (wide_common (wide_promoted t) (wide_promoted u))

-- what a type and a balanced one come to is the balanced one
wide_again : {a b : IntType} → IsWide a → IsWide b → common a (common a b) ≡ common a b
wide_again int int = refl
wide_again int unsigned = refl
wide_again int long = refl
wide_again int unsigned_long = refl
wide_again int long_long = refl
wide_again int unsigned_long_long = refl
wide_again unsigned int = refl
wide_again unsigned unsigned = refl
wide_again unsigned long = refl
wide_again unsigned unsigned_long = refl
wide_again unsigned long_long = refl
wide_again unsigned unsigned_long_long = refl
wide_again long int = refl
wide_again long unsigned = refl
wide_again long long = refl
wide_again long unsigned_long = refl
wide_again long long_long = refl
wide_again long unsigned_long_long = refl
wide_again unsigned_long int = refl
wide_again unsigned_long unsigned = refl
wide_again unsigned_long long = refl
wide_again unsigned_long unsigned_long = refl
wide_again unsigned_long long_long = refl
wide_again unsigned_long unsigned_long_long = refl
wide_again long_long int = refl
wide_again long_long unsigned = refl
wide_again long_long long = refl
wide_again long_long unsigned_long = refl
wide_again long_long long_long = refl
wide_again long_long unsigned_long_long = refl
wide_again unsigned_long_long int = refl
wide_again unsigned_long_long unsigned = refl
wide_again unsigned_long_long long = refl
wide_again unsigned_long_long unsigned_long = refl
wide_again unsigned_long_long long_long = refl
wide_again unsigned_long_long unsigned_long_long = refl

pub balanced_again : (t u : IntType) → balanced t (balanced t u) ≡ balanced t u
balanced_again t u = ap (common (promoted t)) (balanced_same t u) ∙ wide_again (wide_promoted t) (wide_promoted u)
