-- Tables whose stored sizes, alignments and offsets are those of the layout.
use Rattle.std.specs.Prelude.{◌≡◌, ◌<◌, ℕ, IfSome, List, option_map, slice_get}
use Rattle.c_syntax.specs.Types.{CTypeTree}
use Rattle.c_syntax.specs.Program.{StructDefTree}
use Rattle.c_layout.specs.Layout.{members_of, in_table, member_spaces, laid_out, offset_at, space_by, space_of, struct_within}
use Rattle.c_layout.specs.Heights.{held, Falls}

-- of each struct the table tells the size, the alignment and the offsets that its members give
pub record IsLaidOut (structs : List StructDefTree) : Type 0 where
  pub spaces : (n : ℕ) → in_table structs n ≡ laid_out structs n
  pub offsets : (n k : ℕ) → option_map (λ member. member.offset) (slice_get (members_of structs n) k) ≡ offset_at (member_spaces structs n) k

-- what is stored means what C says of it: in a table that is laid out, in which no struct holds itself, a type takes what it takes
-- where each struct in it is read by its members down to the last, however deep that may go
abbrev pub MeansUnfolded : List StructDefTree → Type 0
MeansUnfolded structs =
    (height : ℕ → ℕ) → Falls structs height → IsLaidOut structs
    → (ty : CTypeTree) (depth : ℕ) → IfSome (held ty) (λ n. height n < depth)
    → space_of structs ty ≡ space_by (struct_within depth structs) ty
