-- What a check looks at.
use Rattle.std.specs.Prelude.{ℤ}
use Rattle.c_syntax.specs.declared.alarm.Spot.{Spot}
use Rattle.c_syntax.specs.declared.alarm.Example.{Example}
use Rattle.c_syntax.specs.declared.alarm.Example.TheVariants as examples

-- what a load meets in the bytes that it reads: a byte without a value, a value of its type, or neither
pub data LoadMark : Type 0 where
  Undef : LoadMark
  HasValue : LoadMark
  Broken : LoadMark

-- how a function ended: with a value, or without
pub data CallEnd : Type 0 where
  Value : CallEnd
  None : CallEnd

-- the operand of a check: an exact whole number, a spot, two spots, a mark, or an end
pub data Operand : Type 0 where
  Number : ℤ → Operand
  Point : Spot → Operand
  Points : Spot → Spot → Operand
  Mark : LoadMark → Operand
  End : CallEnd → Operand

-- the operand that an example is
abbrev pub operand_of : Example → Operand
operand_of (examples.Number n) = Number n
operand_of (examples.Point s) = Point s
operand_of (examples.Points s t) = Points s t
operand_of examples.Undef = Mark Undef
operand_of examples.Broken = Mark Broken
operand_of examples.Nothing = End None
