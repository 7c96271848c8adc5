-- Whether two types are one, decided.
use Rattle.std.specs.Prelude.{◌==◌, Bool, true, false, not, ◌&&◌, ◌||◌, List, [], ◌∷◌}
use Rattle.c_syntax_written.specs.declared.int_type.IntType.{IntType}
use Rattle.c_syntax_written.specs.declared.int_type.IntType.TheVariants as ints
use Rattle.c_syntax.specs.Types.{CTypeTree, Void, Int, Pointer, Array, Struct, Function}
use Rattle.c_layout.specs.RowTypes.{unqualified, has_const_target}

abbrev pub is_same_int : IntType → IntType → Bool
is_same_int ints.Char ints.Char = true
is_same_int ints.SChar ints.SChar = true
is_same_int ints.UChar ints.UChar = true
is_same_int ints.Short ints.Short = true
is_same_int ints.UShort ints.UShort = true
is_same_int ints.Int ints.Int = true
is_same_int ints.UInt ints.UInt = true
is_same_int ints.Long ints.Long = true
is_same_int ints.ULong ints.ULong = true
is_same_int ints.LLong ints.LLong = true
is_same_int ints.ULLong ints.ULLong = true
is_same_int t u = false

abbrev pub is_same_truth : Bool → Bool → Bool
is_same_truth true d = d
is_same_truth false d = not d

-- one type, const included
abbrev pub is_same : CTypeTree → CTypeTree → Bool
is_same Void Void = true
is_same (Int t) (Int u) = is_same_int t u
is_same (Pointer s c) (Pointer t d) = is_same_truth c d && is_same s t
is_same (Array s c m) (Array t d n) = is_same_truth c d && ((m == n) && is_same s t)
is_same (Struct m) (Struct n) = m == n
is_same (Function m) (Function n) = m == n
is_same s t = false

abbrev pub are_same : List CTypeTree → List CTypeTree → Bool
are_same [] [] = true
are_same (s ∷ ss) (t ∷ ts) = is_same s t && are_same ss ts
are_same ss ts = false

-- one type, but for const (this profile)
abbrev pub is_same_but_const : CTypeTree → CTypeTree → Bool
is_same_but_const s t = is_same (unqualified s) (unqualified t)

-- a pointer to what is const does not become one to what is not (C11 6.5.16.1p1)
abbrev pub keeps_const : CTypeTree → CTypeTree → Bool
keeps_const from to = not (has_const_target from) || has_const_target to
