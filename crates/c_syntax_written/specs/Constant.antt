-- The type of an integer constant (C11 6.4.4.1 paragraph 5).
use Rattle.std.specs.Prelude.{ℕ, List, [], ◌∷◌, ◌++◌, nat_eq, nat_le, if◌then◌else◌, Option, Some, None}
use Rattle.c_syntax_written.specs.declared.int_type.IntType.{IntType}
use Rattle.c_syntax_written.specs.declared.int_type.IntType.TheVariants as types
use Rattle.c_syntax_written.specs.declared.token.Constant.{Constant}
use Rattle.c_syntax_written.specs.Integer.{greatest}

-- of a signed type and its unsigned one, those that a constant may have: the unsigned one with the suffix u, the signed one
-- without it, and both without it where the base is 8 or 16
abbrev pub signed_or_not : Constant → IntType → IntType → List IntType
signed_or_not c t u = if c.unsigned then u ∷ [] else (if c.decimal then t ∷ [] else t ∷ u ∷ [])

-- the row of the table of C11 6.4.4.1 for a constant
abbrev pub types_of : Constant → List IntType
types_of c =
    (if nat_eq c.longs 0 then signed_or_not c types.Int types.UInt else [])
    ++ ((if nat_le c.longs 1 then signed_or_not c types.Long types.ULong else [])
    ++ signed_or_not c types.LLong types.ULLong)

-- the first of these types that holds the value
abbrev pub first_holding : ℕ → List IntType → Option IntType
first_holding v [] = None
first_holding v (t ∷ ts) = if nat_le v (greatest t) then Some t else first_holding v ts

-- the type of a constant, where one of its row holds its value
abbrev pub constant_type : Constant → Option IntType
constant_type c = first_holding c.value (types_of c)
