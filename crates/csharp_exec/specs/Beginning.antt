-- Initial values that the code can put into memory.
use Rattle.std.specs.Prelude.{nat_le, Bool, true, false, not, ◌&&◌, List, [], ◌∷◌, length, option_map, slice_get}
use Rattle.std.specs.Option.{option_map_or}
use Rattle.c_syntax.specs.declared.program.InitByte.{InitByte}
use Rattle.c_syntax.specs.declared.program.InitByte.TheVariants as bytes
use Rattle.c_syntax.specs.declared.program.Initial.{Initial}
use Rattle.c_syntax.specs.Types.{ObjectTree}
use Rattle.csharp.specs.Trees.{CsProgramTree}

-- a piece of a pointer to an object of static duration, or a number
abbrev pub is_placed : List ObjectTree → InitByte → Bool
is_placed objects (bytes.Num n) = true
is_placed objects (bytes.Piece object offset k) = option_map_or (λ o. o.is_static) (slice_get objects object) false

abbrev pub are_placed : List ObjectTree → List InitByte → Bool
are_placed objects [] = true
are_placed objects (b ∷ bs) = is_placed objects b && are_placed objects bs

-- an initial value is no longer than its object, and its pointers lead to objects of static duration
abbrev pub fits : List ObjectTree → Initial → Bool
fits objects i =
    option_map_or (λ size. nat_le (length i.bytes) size) (option_map (λ o. o.size) (slice_get objects i.object)) false && are_placed objects i.bytes

abbrev pub all_fit : List ObjectTree → List Initial → Bool
all_fit objects [] = true
all_fit objects (i ∷ is) = fits objects i && all_fit objects is

abbrev pub unheld_start : CsProgramTree → Bool
unheld_start q = not (all_fit q.objects q.initial)
