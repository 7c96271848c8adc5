-- Initialisers: what they store, and the bytes of static objects.
use Rattle.std.specs.Prelude.{ℕ, zero, suc, ◌+◌, ◌==◌, nat_lt, ℤ, pos, Bool, true, false, not, ◌&&◌, ◌||◌, if◌then◌else◌, is_some, Option, Some, None, unwrap_or, List, [], ◌∷◌, ◌++◌, map, fold, length, take, drop, replicate}
use Rattle.c_syntax_written.specs.declared.place.Pos.{Pos}
use Rattle.c_syntax_written.specs.declared.int_type.IntType.{IntType}
use Rattle.c_syntax_written.specs.declared.int_type.IntType.TheVariants as ints
use Rattle.c_syntax_written.specs.Integer.{wrapped}
use Rattle.c_syntax_written.specs.Integer as sizes
use Rattle.block_mem.specs.declared.types.Byte.{Byte}
use Rattle.block_mem.specs.declared.types.Byte.TheVariants as bytes
use Rattle.block_mem.specs.Numbers.{bits_in, low_bytes}
use Rattle.c_syntax_written.specs.Written as written
use Rattle.c_syntax_written.specs.WrittenParts.{expr_pos}
use Rattle.c_syntax_written.specs.WrittenDecl as inits
use Rattle.c_syntax_written.specs.WrittenDecl.{InitTree, InitTrees}
use Rattle.c_syntax.specs.declared.op.Op.TheVariants as ops
use Rattle.c_syntax.specs.declared.program.InitByte.{InitByte}
use Rattle.c_syntax.specs.declared.program.InitByte.TheVariants.{Num, Piece}
use Rattle.c_syntax.specs.Types.{CTypeTree, Int, Array, ObjectTree}
use Rattle.c_syntax.specs.TypedExpr.{TExprTree, Const}
use Rattle.c_syntax.specs.TypedParts.{texpr_type}
use Rattle.c_syntax.specs.TypedStmt.{TInitTree, Store, Copy}
use Rattle.c_syntax.specs.Program.{StructDefTree}
use Rattle.c_typing.specs.World.{World, no_rule, NotConstant, Refusal, Outcome, Typed, Refused, Then, Is, unless}
use Rattle.c_typing.specs.Constants.{constant_value, Address, Inside, static_address}
use Rattle.c_typing.specs.Rows.{Stored, Scalar, Copied, is_scalar, stored_row}
use Rattle.c_typing.specs.CurrentObject.{Part, Frame, frame_of, Aggregates, in_braces, next_part, after_part, own_frame, Fills, takes_value, takes_text, is_text, is_text_in_braces, is_scalar_in_braces}
use Rattle.c_typing.specs.Typing.{Types, Valued}

-- ---- one value

-- a static object holds a constant: an integer, or a static address (C11 6.7.9p4)
abbrev pub is_constant : List ObjectTree → TExprTree → Bool
is_constant objects e = is_some (constant_value e) || is_some (static_address objects e)

abbrev pub item_of : ℕ → CTypeTree → Stored → TInitTree
item_of offset ty (Scalar value) = Store offset ty value
item_of offset ty (Copied extent source) = Copy offset extent source

-- what a static object may hold
abbrev pub is_static_item : List ObjectTree → Stored → Bool
is_static_item objects (Scalar value) = is_constant objects value
is_static_item objects (Copied extent source) = false

abbrev pub filled_by : World → Bool → Part → Pos → Refusal → Option Stored → Outcome TInitTree
filled_by w static part at refusal None = Refused refusal
filled_by w static part at refusal (Some stored) =
    unless (static && not (is_static_item w.objects stored)) (NotConstant at) (Typed (item_of part.offset part.ty stored) w)

-- what a scalar takes has its type beside it where it is refused; an aggregate has none
abbrev pub no_init : World → Pos → CTypeTree → TExprTree → Refusal
no_init w at ty e = no_rule w at ops.Init ty (if is_scalar ty then Some (texpr_type e) else None)

-- a value at this place of the text fills a part, as by `=` (C11 6.7.9p11 and p13)
abbrev pub fill : World → Bool → Part → Pos → TExprTree → Outcome TInitTree
fill w static part at e = filled_by w static part at (no_init w at part.ty e) (stored_row w.structs part.ty (texpr_type e) e)

-- ---- a string literal in an array of characters

abbrev pub element_type : CTypeTree → IntType
element_type (Array (Int t) is_const n) = t
element_type ty = ints.Char

-- a byte as an element
abbrev pub text_item : Pos → IntType → ℕ → ℕ → TInitTree
text_item at t offset byte = Store offset (Int t) (Const at t (wrapped t (pos byte)))

-- the bytes from an offset on
unfoldable pub text_items : Pos → IntType → ℕ → List ℕ → List TInitTree
text_items at t offset [] = []
text_items at t offset (byte ∷ rest) = text_item at t offset byte ∷ text_items at t (offset + 1) rest

-- the bytes, and the closing zero where there is room for it (C11 6.7.9p14)
abbrev pub text_for : ℕ → List ℕ → List ℕ
text_for n text = if length text == n then text else text ++ 0 ∷ []

-- a literal in an array of so many characters
abbrev pub fill_text : World → Part → ℕ → Pos → List ℕ → Outcome (List TInitTree)
fill_text w part n at text =
    unless (nat_lt n (length text)) (no_rule w at ops.Init part.ty None) (Typed (text_items at (element_type part.ty) part.offset (text_for n text)) w)

-- how many characters a literal has room for: those of the array, or as many as it has with its zero where the array has no size
abbrev pub room : Option ℕ → List ℕ → ℕ
room count text = unwrap_or count (length text + 1)

-- the array whose braces the list is, full of text
abbrev pub full_of : Aggregates → List ℕ → Aggregates
full_of a text = record a { inner = record a.inner { count = Some (room a.inner.count text); next = room a.inner.count text } }

-- ---- lists

-- the items so far, and what they fill
pub record Filled : Type 0 where
  pub items : List TInitTree
  pub aggregates : Aggregates

abbrev pub filled_so : List TInitTree → Aggregates → Filled
filled_so items a = record { items = items; aggregates = a }

-- with this in the next part, or what is refused where all parts are filled
unfoldable pub AtPart : {A : Type 0} → Option Part → (Outcome A → Type 0) → (Part → Outcome A → Type 0) → Outcome A → Type 0
AtPart None full next o = full o
AtPart (Some part) full next o = next part o

unfoldable pub Either : {A : Type 0} → Bool → (Outcome A → Type 0) → (Outcome A → Type 0) → Outcome A → Type 0
Either true one other o = one o
Either false one other o = other o

-- with this in the part that an item without braces fills
pub record Into {A : Type 0} (structs : List StructDefTree) (takes : CTypeTree → Bool) (part : Part) (a : Aggregates)
    (next : Part → Aggregates → Outcome A → Type 0) (o : Outcome A) : Type 0 where
  pub part2 : Part
  pub after : Aggregates
  pub fills : Fills structs takes part a part2 after
  pub goes : next part2 after o

-- an expression, and then this refusal
abbrev pub TypedAndRefused : {A : Type 0} → World → written.ExprTree → (World → Refusal) → Outcome A → Type 0
TypedAndRefused w e refusal o = Then (Valued (Types w e)) (λ x w1. Is (Refused (refusal w1))) o

-- one item too many, which is typed before it is refused
abbrev pub excess : World → CTypeTree → Pos → Refusal
excess w ty at = no_rule w at ops.Init ty None

abbrev pub array_count : CTypeTree → ℕ
array_count (Array of is_const n) = n
array_count ty = 0

-- a literal fills an array of characters, or is a pointer's value
abbrev pub WithText : World → Bool → Part → Pos → List ℕ → Outcome (List TInitTree) → Type 0
WithText w static part at text o =
    Either (is_text part.ty)
    (Is (fill_text w part (array_count part.ty) at text))
    (Then (Valued (Types w (written.Strings at text))) (λ x w1. Then (Is (fill w1 static part at x)) (λ item w2. Is (Typed (item ∷ []) w2)))) o

unfoldable mutual
  -- the items of a list, behind those that stand before them; what is refused as one too many shows the type of the whole (C11 6.7.9)
  pub TypesItems : World → Bool → CTypeTree → Filled → InitTrees → Outcome Filled → Type 0
  TypesItems w static whole done inits.no_inits o = Is (Typed done w) o
  TypesItems w static whole done (inits.more_inits (inits.Braces at inner) rest) o =
      AtPart (next_part w.structs done.aggregates) (Is (Refused (excess w whole at))) (λ part.
      Either (is_scalar_in_braces done.aggregates) (TypesInBraces w (λ v e. excess v whole (expr_pos e)) at inner)
      (Then (TypesItems w static part.ty (filled_so [] (in_braces (frame_of w.structs part))) inner) (λ filled w1.
      TypesItems w1 static whole (filled_so (done.items ++ filled.items) (after_part done.aggregates)) rest))) o
  TypesItems w static whole done (inits.more_inits (inits.Value (written.Strings at text)) rest) o =
      Either (is_text_in_braces done.aggregates)
      (Then (Is (fill_text w (record { ty = whole; offset = done.aggregates.inner.offset }) (room done.aggregates.inner.count text) at text)) (λ items w1.
      TypesItems w1 static whole (filled_so items (full_of done.aggregates text)) rest))
      (AtPart (next_part w.structs done.aggregates) (TypedAndRefused w (written.Strings at text) (λ v. excess v whole at)) (λ part.
      Into w.structs takes_text part (after_part done.aggregates) (λ inner after.
      Then (WithText w static inner at text) (λ items w1. TypesItems w1 static whole (filled_so (done.items ++ items) after) rest)))) o
  TypesItems w static whole done (inits.more_inits (inits.Value e) rest) o =
      AtPart (next_part w.structs done.aggregates) (TypedAndRefused w e (λ v. excess v whole (expr_pos e))) (λ part.
      Then (Valued (Types w e)) (λ x w1.
      Into w1.structs (takes_value (texpr_type x)) part (after_part done.aggregates) (λ inner after.
      Then (Is (fill w1 static inner (expr_pos e) x)) (λ item w2. TypesItems w2 static whole (filled_so (done.items ++ item ∷ []) after) rest)))) o

  -- the first expression in braces that stand round a scalar's own braces (this profile)
  pub TypesInBraces : World → (World → written.ExprTree → Refusal) → Pos → InitTrees → Outcome Filled → Type 0
  TypesInBraces w refusal at inits.no_inits o = Is (Refused (NotConstant at)) o
  TypesInBraces w refusal at (inits.more_inits (inits.Braces inner_at inner) rest) o = TypesInBraces w refusal inner_at inner o
  TypesInBraces w refusal at (inits.more_inits (inits.Value e) rest) o = TypedAndRefused w e (λ v. refusal v e) o

-- ---- whole initialisers

-- what is stored; whether a list or a string stands there, so that what no item names is zero; and how many elements an array without size has by it
pub record Initialised : Type 0 where
  pub items : List TInitTree
  pub zeroes_rest : Bool
  pub count : ℕ

abbrev pub whole_part : CTypeTree → Part
whole_part ty = record { ty = ty; offset = 0 }

abbrev pub by_list : Filled → Initialised
by_list filled = record { items = filled.items; zeroes_rest = true; count = (own_frame filled.aggregates).next }

abbrev pub by_text : List TInitTree → ℕ → Initialised
by_text items n = record { items = items; zeroes_rest = true; count = n }

abbrev pub by_value : TInitTree → Initialised
by_value item = record { items = item ∷ []; zeroes_rest = false; count = 0 }

-- a literal that initialises an array of characters, which has so many, or as many as the literal
abbrev pub ByText : World → Part → Option ℕ → Pos → List ℕ → Outcome Initialised → Type 0
ByText w part count at text o = Then (Is (fill_text w part (room count text) at text)) (λ items w1. Is (Typed (by_text items (room count text)) w1)) o

-- an expression that initialises a whole object
abbrev pub ByValue : World → Bool → CTypeTree → written.ExprTree → Outcome Initialised → Type 0
ByValue w static ty e o =
    Then (Valued (Types w e)) (λ x w1. Then (Is (fill w1 static (whole_part ty) (expr_pos e) x)) (λ item w2. Is (Typed (by_value item) w2))) o

-- an initialiser of an object of this type, which has so many parts, or of an array without size (C11 6.7.9p11 to p16)
abbrev pub TypesInit : World → Bool → CTypeTree → Frame → InitTree → Outcome Initialised → Type 0
TypesInit w static ty frame (inits.Braces at items) o =
    Then (TypesItems w static ty (filled_so [] (in_braces frame)) items) (λ filled w1. Is (Typed (by_list filled) w1)) o
TypesInit w static ty frame (inits.Value (written.Strings at text)) o =
    Either (is_text ty) (ByText w (whole_part ty) frame.count at text) (ByValue w static ty (written.Strings at text)) o
TypesInit w static ty frame (inits.Value e) o = ByValue w static ty e o

-- ---- the bytes of a static object

abbrev pub number_byte : Byte → InitByte
number_byte (bytes.Num n) = Num n
number_byte byte = Num 0

-- a number from its lowest byte (this profile)
abbrev pub number_bytes : IntType → ℤ → List InitByte
number_bytes t n = map number_byte (low_bytes (sizes.bytes t) (bits_in t n))

-- the pieces of a pointer from this one on
unfoldable pub piece_bytes : ℕ → ℤ → ℕ → ℕ → List InitByte
piece_bytes n offset k zero = []
piece_bytes n offset k (suc left) = Piece n offset k ∷ piece_bytes n offset (k + 1) left

-- a pointer: its eight pieces, or eight zeros (this profile)
abbrev pub address_bytes : Option Address → List InitByte
address_bytes (Some (Inside n offset)) = piece_bytes n offset 0 8
address_bytes address = replicate 8 (Num 0)

-- a scalar that a static object holds
abbrev pub scalar_bytes : List ObjectTree → CTypeTree → TExprTree → List InitByte
scalar_bytes objects (Int t) value = number_bytes t (unwrap_or (constant_value value) (pos 0))
scalar_bytes objects ty value = address_bytes (static_address objects value)

-- bytes with these in the place of those from an offset on
abbrev pub written_at : ℕ → List InitByte → List InitByte → List InitByte
written_at offset piece all = take offset all ++ piece ++ drop (offset + length piece) all

abbrev pub with_item : List ObjectTree → List InitByte → TInitTree → List InitByte
with_item objects all (Store offset ty value) = written_at offset (scalar_bytes objects ty value) all
with_item objects all (Copy offset extent source) = all

-- zeros, and in them what the items store (C11 6.7.9p10 and p21)
abbrev pub static_bytes : List ObjectTree → ℕ → List TInitTree → List InitByte
static_bytes objects size items = fold (with_item objects) (replicate size (Num 0)) items
