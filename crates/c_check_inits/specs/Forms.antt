-- The items of an initialiser list one by one, each apart from those behind it.
use Rattle.std.specs.Prelude.{ℕ, Bool, List, [], ◌∷◌, ◌++◌, Option, None, Some}
use Rattle.c_syntax_written.specs.declared.place.Pos.{Pos}
use Rattle.c_syntax_written.specs.Written as written
use Rattle.c_syntax_written.specs.Written.{ExprTree}
use Rattle.c_syntax_written.specs.WrittenParts.{expr_pos}
use Rattle.c_syntax_written.specs.WrittenDecl as decls
use Rattle.c_syntax_written.specs.WrittenDecl.{InitTree, InitTrees}
use Rattle.c_syntax.specs.Types.{CTypeTree}
use Rattle.c_syntax.specs.TypedParts.{texpr_type}
use Rattle.c_syntax.specs.TypedStmt.{TInitTree}
use Rattle.c_typing.specs.CurrentObject.{Part, Frame, Aggregates, in_braces, frame_of, next_part, after_part, takes_value, takes_text, is_text, is_text_in_braces, is_scalar_in_braces}
use Rattle.c_typing.specs.Inits as inits
use Rattle.c_typing.specs.Inits.{AtPart, Either, Into, TypedAndRefused, WithText, TypesItems, TypesInBraces, filled_so, full_of, fill, fill_text, room, excess, ByText, ByValue, whole_part, by_list}
use Rattle.c_typing.specs.Typing.{Types, Valued}
use Rattle.c_typing.specs.World.{World, Outcome, Typed, Refused, Then, Is}

-- the place and the bytes of a string literal, and nothing of another expression
abbrev pub as_text : ExprTree → Option (Pos × List ℕ)
as_text (written.Strings at bytes) = Some (at, bytes)
as_text e = None

-- an expression that is one item too many
abbrev pub OneTooMany : World → CTypeTree → ExprTree → Outcome inits.Filled → Type 0
OneTooMany w whole e o = TypedAndRefused w e (λ v. excess v whole (expr_pos e)) o

-- ---- expressions

-- the value of an expression in the part that is next
abbrev pub ValueInPart : World → Bool → List TInitTree → Aggregates → Part → ExprTree → Outcome inits.Filled → Type 0
ValueInPart w static items after part e o =
    Then (Valued (Types w e)) (λ x w1.
    Into w1.structs (takes_value (texpr_type x)) part after (λ inner a.
    Then (Is (fill w1 static inner (expr_pos e) x)) (λ item w2. Is (Typed (filled_so (items ++ item ∷ []) a) w2)))) o

abbrev pub ValueItem : World → Bool → CTypeTree → inits.Filled → ExprTree → Outcome inits.Filled → Type 0
ValueItem w static whole done e o =
    AtPart (next_part w.structs done.aggregates) (OneTooMany w whole e)
    (λ part. ValueInPart w static done.items (after_part done.aggregates) part e) o

-- ---- string literals

-- a literal in the array of characters whose braces the list is
abbrev pub TextInBraces : World → CTypeTree → Aggregates → Pos → List ℕ → Outcome inits.Filled → Type 0
TextInBraces w whole a at text o =
    Then (Is (fill_text w (record { ty = whole; offset = a.inner.offset }) (room a.inner.count text) at text))
    (λ items w1. Is (Typed (filled_so items (full_of a text)) w1)) o

-- one whose address a part takes
abbrev pub TextAsValue : World → Bool → Part → Pos → List ℕ → Outcome (List TInitTree) → Type 0
TextAsValue w static part at text o =
    Then (Valued (Types w (written.Strings at text))) (λ x w1. Then (Is (fill w1 static part at x)) (λ item w2. Is (Typed (item ∷ []) w2))) o

-- one in the part that is next
abbrev pub TextInPart : World → Bool → List TInitTree → Aggregates → Part → Pos → List ℕ → Outcome inits.Filled → Type 0
TextInPart w static items after part at text o =
    Into w.structs takes_text part after (λ inner a.
    Then (WithText w static inner at text) (λ more w1. Is (Typed (filled_so (items ++ more) a) w1))) o

abbrev pub TextItem : World → Bool → CTypeTree → inits.Filled → Pos → List ℕ → Outcome inits.Filled → Type 0
TextItem w static whole done at text o =
    Either (is_text_in_braces done.aggregates) (TextInBraces w whole done.aggregates at text)
    (AtPart (next_part w.structs done.aggregates) (OneTooMany w whole (written.Strings at text))
    (λ part. TextInPart w static done.items (after_part done.aggregates) part at text)) o

-- ---- lists in braces of their own

-- a list that fills the part that is next
abbrev pub ListInPart : World → Bool → List TInitTree → Aggregates → Part → InitTrees → Outcome inits.Filled → Type 0
ListInPart w static items after part list o =
    Then (TypesItems w static part.ty (filled_so [] (in_braces (frame_of w.structs part))) list)
    (λ filled w1. Is (Typed (filled_so (items ++ filled.items) after) w1)) o

-- a list in the braces of a scalar, which has its own
abbrev pub ListInBraces : World → CTypeTree → Pos → InitTrees → Outcome inits.Filled → Type 0
ListInBraces w whole at list o = TypesInBraces w (λ v e. excess v whole (expr_pos e)) at list o

abbrev pub ListItem : World → Bool → CTypeTree → inits.Filled → Pos → InitTrees → Outcome inits.Filled → Type 0
ListItem w static whole done at list o =
    AtPart (next_part w.structs done.aggregates) (Is (Refused (excess w whole at))) (λ part.
    Either (is_scalar_in_braces done.aggregates) (ListInBraces w whole at list)
    (ListInPart w static done.items (after_part done.aggregates) part list)) o

-- ---- items

abbrev pub ExpressionItem : World → Bool → CTypeTree → inits.Filled → ExprTree → Option (Pos × List ℕ) → Outcome inits.Filled → Type 0
ExpressionItem w static whole done e None o = ValueItem w static whole done e o
ExpressionItem w static whole done e (Some text) o = TextItem w static whole done text.0 text.1 o

abbrev pub ItemForm : World → Bool → CTypeTree → inits.Filled → InitTree → Outcome inits.Filled → Type 0
ItemForm w static whole done (decls.Braces at list) o = ListItem w static whole done at list o
ItemForm w static whole done (decls.Value e) o = ExpressionItem w static whole done e (as_text e) o

-- ---- whole initialisers

abbrev pub ByList : World → Bool → CTypeTree → Frame → InitTrees → Outcome inits.Initialised → Type 0
ByList w static ty frame list o =
    Then (TypesItems w static ty (filled_so [] (in_braces frame)) list) (λ filled w1. Is (Typed (by_list filled) w1)) o

-- a literal fills an array of characters, or is the value of another object
abbrev pub ByLiteral : World → Bool → CTypeTree → Frame → ExprTree → Pos → List ℕ → Outcome inits.Initialised → Type 0
ByLiteral w static ty frame e at text o = Either (is_text ty) (ByText w (whole_part ty) frame.count at text) (ByValue w static ty e) o

abbrev pub ByExpression : World → Bool → CTypeTree → Frame → ExprTree → Option (Pos × List ℕ) → Outcome inits.Initialised → Type 0
ByExpression w static ty frame e None o = ByValue w static ty e o
ByExpression w static ty frame e (Some text) o = ByLiteral w static ty frame e text.0 text.1 o
