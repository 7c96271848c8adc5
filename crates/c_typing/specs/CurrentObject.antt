-- Which part of an object an item of an initialiser list fills: the current object of C (C11 6.7.9p17 to p20).
use Rattle.std.specs.Prelude.{ℕ, ◌+◌, ◌*◌, ◌==◌, nat_le, Bool, true, false, not, ◌&&◌, ◌||◌, if◌then◌else◌, IsTrue, IsFalse, Option, Some, None, option_map, unwrap_or, List, [], ◌∷◌, length, slice_get}
use Rattle.c_syntax_written.specs.declared.int_type.IntType.{IntType}
use Rattle.c_syntax_written.specs.declared.int_type.IntType.TheVariants as ints
use Rattle.c_syntax.specs.Types.{CTypeTree, Void, Int, Array, Struct}
use Rattle.c_syntax.specs.Program.{MemberTree, StructDefTree}
use Rattle.c_layout.specs.Layout.{members_of, size_in}
use Rattle.c_typing.specs.SameTypes.{is_same}

-- a part of an object, from this byte on
pub record Part : Type 0 where
  pub ty : CTypeTree
  pub offset : ℕ

-- an array or a struct whose parts are filled one after the other, or a scalar, which is its own one part: how many parts it has, if that is told,
-- and the next one
pub record Frame : Type 0 where
  pub ty : CTypeTree
  pub offset : ℕ
  pub count : Option ℕ
  pub next : ℕ

abbrev pub count_in : List StructDefTree → CTypeTree → ℕ
count_in structs (Array of is_const n) = n
count_in structs (Struct n) = length (members_of structs n)
count_in structs ty = 1

-- a part, of which nothing is filled yet
abbrev pub frame_of : List StructDefTree → Part → Frame
frame_of structs part = record { ty = part.ty; offset = part.offset; count = Some (count_in structs part.ty); next = 0 }

-- an array without size
abbrev pub open_frame : CTypeTree → Frame
open_frame ty = record { ty = ty; offset = 0; count = None; next = 0 }

abbrev pub is_full : Frame → Bool
is_full frame = unwrap_or (option_map (λ count. nat_le count frame.next) frame.count) false

abbrev pub member_part : ℕ → Option MemberTree → Part
member_part offset None = record { ty = Void; offset = offset }
member_part offset (Some member) = record { ty = member.ty; offset = offset + member.offset }

-- part number k of what stands at the offset
abbrev pub part_at : List StructDefTree → CTypeTree → ℕ → ℕ → Part
part_at structs (Array of is_const n) offset k = record { ty = of; offset = offset + k * unwrap_or (size_in structs of) 0 }
part_at structs (Struct n) offset k = member_part offset (slice_get (members_of structs n) k)
part_at structs ty offset k = record { ty = ty; offset = offset }

abbrev pub part_of : List StructDefTree → Frame → Part
part_of structs frame = part_at structs frame.ty frame.offset frame.next

abbrev pub filled : Frame → Frame
filled frame = record frame { next = frame.next + 1 }

-- the innermost aggregate that is not full, or the one whose braces the list is (C11 6.7.9p20)
unfoldable pub unfinished : Frame → List Frame → List Frame
unfinished frame [] = frame ∷ []
unfinished frame (outer ∷ rest) = if is_full frame then unfinished outer rest else frame ∷ outer ∷ rest

-- aggregates under way, the innermost first; the last is the one whose braces the list is
pub record Aggregates : Type 0 where
  pub inner : Frame
  pub outer : List Frame

abbrev pub in_braces : Frame → Aggregates
in_braces frame = record { inner = frame; outer = [] }

abbrev pub aggregates_from : Frame → List Frame → Aggregates
aggregates_from fallback [] = in_braces fallback
aggregates_from fallback (frame ∷ rest) = record { inner = frame; outer = rest }

abbrev pub current : Aggregates → Aggregates
current a = aggregates_from a.inner (unfinished a.inner a.outer)

-- the next part, unless all are filled
abbrev pub next_part : List StructDefTree → Aggregates → Option Part
next_part structs a = if is_full (current a).inner then None else Some (part_of structs (current a).inner)

-- with the next part filled, or begun
abbrev pub after_part : Aggregates → Aggregates
after_part a = record { inner = filled (current a).inner; outer = (current a).outer }

-- the one whose braces the list is
abbrev pub outermost : Frame → List Frame → Frame
outermost frame [] = frame
outermost frame (outer ∷ rest) = outermost outer rest

abbrev pub own_frame : Aggregates → Frame
own_frame a = outermost a.inner a.outer

-- a part is begun by its first part (C11 6.7.9p20)
abbrev pub begun : List StructDefTree → Part → Aggregates → Aggregates
begun structs part a = record { inner = filled (frame_of structs part); outer = a.inner ∷ a.outer }

-- an item that has no braces fills the part, or the first in it that takes the item whole
pub data Fills (structs : List StructDefTree) (takes : CTypeTree → Bool) : Part → Aggregates → Part → Aggregates → Type 0 where
  whole : (part : Part) (a : Aggregates) → IsTrue (takes part.ty) → Fills structs takes part a part a
  inside :
      (part part2 : Part) (a a2 : Aggregates)
      → IsFalse (takes part.ty) → Fills structs takes (part_of structs (frame_of structs part)) (begun structs part a) part2 a2
      → Fills structs takes part a part2 a2

-- an array or a struct (C11 6.2.5p21)
abbrev pub is_aggregate : CTypeTree → Bool
is_aggregate (Array of is_const n) = true
is_aggregate (Struct n) = true
is_aggregate ty = false

-- a value fills a scalar, or a struct of its own type (C11 6.7.9p11 and p13)
abbrev pub takes_value : CTypeTree → CTypeTree → Bool
takes_value (Struct n) part = not (is_aggregate part) || is_same part (Struct n)
takes_value ty part = not (is_aggregate part)

-- an array of characters (C11 6.7.9p14)
abbrev pub is_character : IntType → Bool
is_character ints.Char = true
is_character ints.SChar = true
is_character ints.UChar = true
is_character t = false

abbrev pub is_text : CTypeTree → Bool
is_text (Array (Int t) is_const n) = is_character t
is_text ty = false

-- a string literal fills an array of characters, or a scalar
abbrev pub takes_text : CTypeTree → Bool
takes_text part = not (is_aggregate part) || is_text part

-- an array of characters whose braces the list is, of which nothing is filled yet
abbrev pub is_text_in_braces : Aggregates → Bool
is_text_in_braces a = (length a.outer == 0) && ((a.inner.next == 0) && is_text a.inner.ty)

-- a scalar whose braces the list is
abbrev pub is_scalar_in_braces : Aggregates → Bool
is_scalar_in_braces a = (length a.outer == 0) && not (is_aggregate a.inner.ty)
