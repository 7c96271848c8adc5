-- Report text: the lines for a list of alarms (this profile).
use Rattle.std.specs.Prelude.{ℕ, suc, ◌==◌, ◌||◌, ◌&&◌, ℤ, pos, int_le, Bool, true, false, List, [], ◌∷◌, ◌++◌, length, Option, Some, None, codes, decimal, if◌then◌else◌, slice_get, option_and_then, option_map, unwrap_or}
use Rattle.std.specs.Fmt.{signed_decimal}
use Rattle.std.specs.List.{flat_map}
use Rattle.std.specs.Ordering.{int_eq}
use Rattle.c_syntax_written.specs.declared.place.Pos.{Pos}
use Rattle.c_syntax.specs.declared.alarm.WrongKind.{WrongKind}
use Rattle.c_syntax.specs.declared.alarm.WrongKind.TheVariants as kinds
use Rattle.c_syntax.specs.declared.alarm.Check.{Check}
use Rattle.c_syntax.specs.declared.alarm.Pointers.{Pointers}
use Rattle.c_syntax.specs.declared.alarm.Shown.{Shown}
use Rattle.c_syntax.specs.declared.alarm.Shown.TheVariants as shows
use Rattle.c_syntax.specs.declared.alarm.Spot.{Spot}
use Rattle.c_syntax.specs.declared.alarm.Spot.TheVariants as spots
use Rattle.c_syntax.specs.declared.alarm.Example.{Example}
use Rattle.c_syntax.specs.declared.alarm.Example.TheVariants as examples
use Rattle.c_syntax.specs.declared.alarm.Cell.{Cell}
use Rattle.c_syntax.specs.declared.alarm.Fact.{Fact}
use Rattle.c_syntax.specs.declared.alarm.Fact.TheVariants as facts
use Rattle.c_syntax.specs.declared.alarm.Alarm.{Alarm}
use Rattle.c_syntax.specs.Types.{ObjectTree, CTypeTree, Int, Pointer}
use Rattle.c_layout.specs.Calls.{PlacedCall}
use Rattle.report_alarms.specs.declared.text.Phrase.{Phrase}
use Rattle.report_alarms.specs.declared.text.Phrase.TheVariants as phrases
use Rattle.report_alarms.specs.Told.{Told, called_from}

-- what stands before and between the parts of a line; it does not unfold by itself, so that a text that is put together is not compared letter by letter
unfoldable pub phrase_text : Phrase → List ℕ
phrase_text phrases.OffsetIn = codes " with offset in "
phrase_text phrases.AccessOf = codes "; access of "
phrase_text phrases.AlignedTo = codes " bytes aligned to "
phrase_text phrases.ValueIn = codes "value in "
phrase_text phrases.Allowed = codes "; allowed "
phrase_text phrases.PointerIn = codes "pointer in "
phrase_text phrases.LeftPointerIn = codes "left pointer in "
phrase_text phrases.RightPointerIn = codes "; right pointer in "
phrase_text phrases.BytesMayBe = codes "bytes may be "
phrase_text phrases.EndMayBe = codes "end may be "
phrase_text phrases.FactLine = codes "  fact: "
phrase_text phrases.InMain = codes " in main"
phrase_text phrases.ShownLine = codes "\n  shown: "
phrase_text phrases.ExampleLine = codes "\n  example: "
phrase_text phrases.NoAlarm = codes "no alarm\n"

-- ---- places, names and numbers

abbrev pub kind_text : WrongKind → List ℕ
kind_text kinds.Overflow = codes "Overflow"
kind_text kinds.DivideByZero = codes "DivideByZero"
kind_text kinds.Quotient = codes "Quotient"
kind_text kinds.ShiftAmount = codes "ShiftAmount"
kind_text kinds.ShiftResult = codes "ShiftResult"
kind_text kinds.Indeterminate = codes "Indeterminate"
kind_text kinds.Fragment = codes "Fragment"
kind_text kinds.NullUse = codes "NullUse"
kind_text kinds.Dangling = codes "Dangling"
kind_text kinds.Bounds = codes "Bounds"
kind_text kinds.Access = codes "Access"
kind_text kinds.Alignment = codes "Alignment"
kind_text kinds.ReadOnly = codes "ReadOnly"
kind_text kinds.Unrelated = codes "Unrelated"
kind_text kinds.NoValue = codes "NoValue"
kind_text kinds.AssertFailed = codes "AssertFailed"

-- IDENT@L:C
abbrev pub placed_text : List ℕ → Pos → List ℕ
placed_text name at = name ++ (codes "@" ++ (decimal at.line ++ (codes ":" ++ decimal at.col)))

-- an object that is not there has no text: alarms name none such
abbrev pub object_text : List ObjectTree → ℕ → List ℕ
object_text objects o = unwrap_or (option_map (λ object. placed_text object.name object.pos) (slice_get objects o)) []

abbrev pub sized_text : ObjectTree → List ℕ
sized_text object = placed_text object.name object.pos ++ (codes "(" ++ (decimal object.size ++ codes ")"))

-- a bound that is missing has no end
abbrev pub low_text : Option ℤ → List ℕ
low_text None = codes "-inf"
low_text (Some n) = signed_decimal n

abbrev pub high_text : Option ℤ → List ℕ
high_text None = codes "inf"
high_text (Some n) = signed_decimal n

-- the class is told where the modulus is 2 or more
abbrev pub class_text : ℤ → ℤ → List ℕ
class_text modulus rem = if int_le (pos 2) modulus then codes " and = " ++ (signed_decimal rem ++ (codes " mod " ++ signed_decimal modulus)) else []

abbrev pub range_text : Option ℤ → Option ℤ → ℤ → ℤ → List ℕ
range_text lo hi modulus rem = codes "[" ++ (low_text lo ++ (codes "," ++ (high_text hi ++ (codes "]" ++ class_text modulus rem))))

-- words with commas between, where some stand before them already
abbrev pub comma_if : Bool → List ℕ
comma_if true = codes ", "
comma_if false = []

unfoldable pub joined_on : Bool → List (List ℕ) → List ℕ
joined_on some [] = []
joined_on some (w ∷ words) = comma_if some ++ (w ++ joined_on true words)

abbrev pub joined : List (List ℕ) → List ℕ
joined words = joined_on false words

abbrev pub word_if : Bool → List ℕ → List (List ℕ)
word_if true w = w ∷ []
word_if false w = []

-- ---- sets of pointers

abbrev pub has_name : List ℕ → ℕ → Bool
has_name [] o = false
has_name (n ∷ names) o = (n == o) || has_name names o

-- the objects that are named, by number, from this number on
abbrev pub named_word : Bool → ObjectTree → List (List ℕ)
named_word true object = sized_text object ∷ []
named_word false object = []

unfoldable pub named_from : List ℕ → ℕ → List ObjectTree → List (List ℕ)
named_from names o [] = []
named_from names o (object ∷ objects) = named_word (has_name names o) object ++ named_from names (suc o) objects

abbrev pub is_some_word : List (List ℕ) → Bool
is_some_word [] = false
is_some_word (w ∷ words) = true

abbrev pub offset_text : Bool → Pointers → List ℕ
offset_text true set = phrase_text phrases.OffsetIn ++ range_text set.lo set.hi set.modulus set.rem
offset_text false set = []

-- the objects, then null and dead, and the offset where there is an object
abbrev pub names_text : List (List ℕ) → Pointers → List ℕ
names_text objects set =
    codes "{" ++ (joined (objects ++ (word_if set.null (codes "null") ++ word_if set.dead (codes "dead")))
    ++ (codes "}" ++ offset_text (is_some_word objects) set))

abbrev pub set_text : List ObjectTree → Pointers → List ℕ
set_text objects set = if set.any then codes "any" ++ offset_text true set else names_text (named_from set.names 0 objects) set

-- ---- what is shown

abbrev pub ends_text : Check → List ℕ
ends_text check = codes "[" ++ (signed_decimal check.lo ++ (codes "," ++ (signed_decimal check.hi ++ codes "]")))

-- what passes the check
abbrev pub forbids_zero : WrongKind → Bool
forbids_zero kinds.DivideByZero = true
forbids_zero kinds.AssertFailed = true
forbids_zero kind = false

abbrev pub allowed_text : Check → List ℕ
allowed_text check = if forbids_zero check.kind then codes "not 0" else ends_text check

-- an access is told by its size and alignment
abbrev pub is_access : WrongKind → Bool
is_access kinds.Access = true
is_access kinds.Alignment = true
is_access kind = false

abbrev pub extent_text : ℕ → ℕ → List ℕ
extent_text size align = phrase_text phrases.AccessOf ++ (decimal size ++ (phrase_text phrases.AlignedTo ++ decimal align))

abbrev pub access_text : Check → List ℕ
access_text check = if is_access check.kind then extent_text check.size check.align else []

abbrev pub shown_text : List ObjectTree → Check → Shown → List ℕ
shown_text objects check (shows.Number lo hi modulus rem) = phrase_text phrases.ValueIn ++ (range_text lo hi modulus rem ++ (phrase_text phrases.Allowed ++ allowed_text check))
shown_text objects check (shows.One set) = phrase_text phrases.PointerIn ++ (set_text objects set ++ access_text check)
shown_text objects check (shows.Pair left right) = phrase_text phrases.LeftPointerIn ++ (set_text objects left ++ (phrase_text phrases.RightPointerIn ++ set_text objects right))
shown_text objects check (shows.Marks undef value broken) =
    phrase_text phrases.BytesMayBe ++ joined (word_if undef (codes "undef") ++ (word_if value (codes "value") ++ word_if broken (codes "broken")))
shown_text objects check (shows.Ends value none) = phrase_text phrases.EndMayBe ++ joined (word_if value (codes "value") ++ word_if none (codes "none"))

abbrev pub spot_text : List ObjectTree → Spot → List ℕ
spot_text objects spots.Null = codes "null"
spot_text objects spots.Dead = codes "dead"
spot_text objects (spots.At o d) = object_text objects o ++ (codes "+" ++ signed_decimal d)

abbrev pub example_text : List ObjectTree → Example → List ℕ
example_text objects (examples.Number n) = signed_decimal n
example_text objects (examples.Point s) = spot_text objects s
example_text objects (examples.Points s t) = spot_text objects s ++ (codes ", " ++ spot_text objects t)
example_text objects examples.Undef = codes "undef"
example_text objects examples.Broken = codes "broken"
example_text objects examples.Nothing = codes "none"

-- ---- facts

abbrev pub is_scalar : CTypeTree → Bool
is_scalar (Int t) = true
is_scalar (Pointer to is_const) = true
is_scalar ty = false

-- a cell that is all of a scalar object
abbrev pub is_whole : Cell → Option ObjectTree → Bool
is_whole x None = false
is_whole x (Some object) = is_scalar object.ty && ((x.offset == 0) && (x.size == object.size))

abbrev pub part_text : Cell → List ℕ
part_text x = codes "+" ++ (decimal x.offset ++ (codes ":" ++ decimal x.size))

abbrev pub cell_text : List ObjectTree → Cell → List ℕ
cell_text objects x = object_text objects x.object ++ (if is_whole x (slice_get objects x.object) then [] else part_text x)

-- a sum of two cells, of which one may be taken away; the one of sign 1 stands first
abbrev pub sum_text : Bool → List ℕ → Bool → List ℕ → List ℕ
sum_text true x true y = x ++ (codes " + " ++ y)
sum_text true x false y = x ++ (codes " - " ++ y)
sum_text false x true y = y ++ (codes " - " ++ x)
sum_text false x false y = codes "-" ++ (x ++ (codes " - " ++ y))

abbrev pub is_plus : ℤ → Bool
is_plus s = int_eq s (pos 1)

abbrev pub fact_text : List ObjectTree → Fact → List ℕ
fact_text objects (facts.Between x lo hi) =
    cell_text objects x ++ (codes " in [" ++ (signed_decimal lo ++ (codes "," ++ (signed_decimal hi ++ codes "]"))))
fact_text objects (facts.Class x rem modulus) = cell_text objects x ++ (codes " = " ++ (signed_decimal rem ++ (codes " mod " ++ signed_decimal modulus)))
fact_text objects (facts.AtMost sx x sy y bound) =
    sum_text (is_plus sx) (cell_text objects x) (is_plus sy) (cell_text objects y) ++ (codes " <= " ++ signed_decimal bound)
fact_text objects (facts.PointsTo x set) = cell_text objects x ++ (codes " in " ++ set_text objects set)

abbrev pub fact_line : List ObjectTree → Fact → List ℕ
fact_line objects fact = phrase_text phrases.FactLine ++ (fact_text objects fact ++ codes "\n")

-- ---- alarms

-- a function by its name; one that is not there has none
abbrev pub function_name : List (List ℕ) → Option ℕ → List ℕ
function_name names None = []
function_name names (Some g) = unwrap_or (slice_get names g) []

-- the calls behind main, each by the function that is called and its place
abbrev pub chain_text : List (List ℕ) → List (Option (List PlacedCall)) → Option ℕ → List Pos → List ℕ
chain_text names graph f [] = []
chain_text names graph f (at ∷ chain) =
    let callee = option_and_then (λ caller. called_from graph caller at) f in
    codes " > " ++ (placed_text (function_name names callee) at ++ chain_text names graph callee chain)

abbrev pub place_text : List ℕ → Pos → List ℕ
place_text name at = name ++ (codes ":" ++ (decimal at.line ++ (codes ":" ++ decimal at.col)))

abbrev pub head_text : List ℕ → Pos → List ℕ → List ℕ
head_text name at kind = place_text name at ++ (codes ": " ++ (kind ++ phrase_text phrases.InMain))

-- the facts, where they are asked for
abbrev pub facts_text : List ObjectTree → Bool → List Fact → List ℕ
facts_text objects state facts = if state then flat_map (fact_line objects) facts else []

-- the lines behind the first
abbrev pub lines_text : List ObjectTree → Bool → Alarm → List ℕ
lines_text objects state a =
    phrase_text phrases.ShownLine ++ (shown_text objects a.check a.shown
    ++ (phrase_text phrases.ExampleLine ++ (example_text objects a.example ++ (codes "\n" ++ facts_text objects state a.facts))))

unfoldable pub alarm_text : List ℕ → Told → Bool → Alarm → List ℕ
alarm_text name told state a =
    head_text name a.pos (kind_text a.kind) ++ (chain_text told.names told.graph (Some told.main) a.chain ++ lines_text told.objects state a)

-- the text of a list of alarms
abbrev pub text_of : List ℕ → Told → Bool → List Alarm → List ℕ
text_of name told state [] = phrase_text phrases.NoAlarm
text_of name told state (a ∷ more) =
    flat_map (alarm_text name told state) (a ∷ more) ++ (codes "alarms " ++ (decimal (length (a ∷ more)) ++ codes "\n"))
