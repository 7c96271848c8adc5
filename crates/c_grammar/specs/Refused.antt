-- Which token of a file is refused: one that nests too deep, one that bears a construct that this profile
-- leaves out, or one that no file goes on with.
use Rattle.std.specs.Prelude.{◌≡◌, ℕ, ◌+◌, ◌<◌, Bool, true, false, not, ◌&&◌, List, [], ◌∷◌, ◌++◌, Option, Some, None}
use Rattle.c_syntax_written.specs.declared.construct.Construct.{Construct}
use Rattle.c_syntax_written.specs.declared.construct.Construct.TheVariants as constructs
use Rattle.c_syntax_written.specs.declared.token.Keyword.{Keyword}
use Rattle.c_syntax_written.specs.declared.token.Keyword.TheVariants as keywords
use Rattle.c_syntax_written.specs.declared.token.Placed.{Placed}
use Rattle.c_syntax_written.specs.declared.token.Punctuator.{Punctuator}
use Rattle.c_syntax_written.specs.declared.token.Punctuator.TheVariants as signs
use Rattle.c_syntax_written.specs.declared.token.Token.{Token}
use Rattle.c_syntax_written.specs.declared.token.Token.TheVariants as kinds
use Rattle.c_grammar.specs.declared.parts.Setting.{Setting}
use Rattle.c_grammar.specs.declared.parts.Setting.TheVariants.{AtFile, InBlock, InSwitch}
use Rattle.c_grammar.specs.declared.parts.Role.{Role}
use Rattle.c_grammar.specs.declared.parts.Role.TheVariants.{Naming, OfMember, OfParameter, OfTypeName}
use Rattle.c_grammar.specs.Parts.{Scene, ExprPart, More, Assigned, Chosen, Operand, Suffixes, Texts, SpecPart, StructureTagged, EnumerationTagged, DeclaratorPart, Declarator, Pointed, Direct, Tails, Size, StmtPart, Statement, Else, Part, AnExpr, ASpec, ADeclarator, AStmt, AfterType, MoreSpecs, MoreDeclarators, EnumeratorValue, Parameter, Initialiser}
use Rattle.c_grammar.specs.declared.class.Class.{Class}
use Rattle.c_grammar.specs.Classes.{Fits, names_type}
use Rattle.c_grammar.specs.Made.{is_word, has_type, is_given}
use Rattle.c_grammar.specs.Ahead.{is_open, is_colon, is_plain_word, params_ahead}
use Rattle.c_syntax_written.specs.WrittenFile.{FileTree}
use Rattle.c_grammar.specs.Grammar.{IsTree}
use Rattle.c_grammar.specs.Front.{Next, a_token, a_part, a_test, Place, StandsAt, StopsAt}

-- a typedef outside of the file's own declarations
abbrev pub inner_typedef : Setting → Option Construct
inner_typedef AtFile = None
inner_typedef InBlock = Some constructs.InnerTypedef
inner_typedef InSwitch = Some constructs.InnerTypedef

-- a case or default that is not directly in the block of a switch
abbrev pub nested_case : Setting → Option Construct
nested_case AtFile = Some constructs.NestedCase
nested_case InBlock = Some constructs.NestedCase
nested_case InSwitch = None

-- the construct that a keyword bears
unfoldable pub keyword_construct : Setting → Keyword → Option Construct
keyword_construct s keywords.Float = Some constructs.Floating
keyword_construct s keywords.Double = Some constructs.Floating
keyword_construct s keywords.Union = Some constructs.Union
keyword_construct s keywords.Bool = Some constructs.Bool
keyword_construct s keywords.Inline = Some constructs.Inline
keyword_construct s keywords.NoReturn = Some constructs.Inline
keyword_construct s keywords.ThreadLocal = Some constructs.ThreadLocal
keyword_construct s keywords.Generic = Some constructs.Generic
keyword_construct s keywords.StaticAssert = Some constructs.StaticAssert
keyword_construct s keywords.Volatile = Some constructs.Qualifier
keyword_construct s keywords.Restrict = Some constructs.Qualifier
keyword_construct s keywords.Atomic = Some constructs.Qualifier
keyword_construct s keywords.AlignAs = Some constructs.AlignmentWord
keyword_construct s keywords.AlignOf = Some constructs.AlignmentWord
keyword_construct s keywords.Complex = Some constructs.Complex
keyword_construct s keywords.Imaginary = Some constructs.Complex
keyword_construct s keywords.Typedef = inner_typedef s
keyword_construct s keywords.Case = nested_case s
keyword_construct s keywords.Default = nested_case s
keyword_construct s _ = None

abbrev pub sign_construct : Punctuator → Option Construct
sign_construct signs.Ellipsis = Some constructs.Variadic
sign_construct _ = None

-- the construct that a token bears wherever something must come
abbrev pub token_construct : Scene → Token → Option Construct
token_construct w (kinds.Keyword k) = keyword_construct w.setting k
token_construct w (kinds.Punctuator p) = sign_construct p
token_construct w _ = None

abbrev pub is_brace : Token → Bool
is_brace (kinds.Punctuator signs.LeftBrace) = true
is_brace _ = false

abbrev pub begins_designator : Token → Bool
begins_designator (kinds.Punctuator signs.LeftBracket) = true
begins_designator (kinds.Punctuator signs.Dot) = true
begins_designator _ = false

abbrev pub is_right_bracket : Token → Bool
is_right_bracket (kinds.Punctuator signs.RightBracket) = true
is_right_bracket _ = false

abbrev pub is_type_name : Scene → Token → Bool
is_type_name w (kinds.Word name) = names_type w name
is_type_name w _ = false

abbrev pub where_true : Bool → Construct → Option Construct
where_true true c = Some c
where_true false c = None

-- the first token passes the test
abbrev pub first_is : (Token → Bool) → List Placed → Bool
first_is test [] = false
first_is test (t ∷ rest) = test t.token

abbrev pub may_omit : Role → Bool
may_omit Naming = false
may_omit OfMember = false
may_omit OfParameter = true
may_omit OfTypeName = true

abbrev pub may_name : Role → Bool
may_name OfTypeName = false
may_name _ = true

abbrev pub in_member : Role → Bool
in_member OfMember = true
in_member _ = false

-- the construct of an expression's part that the first token bears
abbrev pub expr_construct : Scene → ExprPart → List Placed → Option Construct
expr_construct w Operand ts = where_true (first_is is_brace ts) constructs.CompoundLiteral
expr_construct w (Suffixes base) ts = where_true (first_is is_open ts && not (is_word base)) constructs.FunctionPointer
expr_construct w _ ts = None

-- the construct of a declarator's part that the first token bears
abbrev pub declarator_construct : Scene → DeclaratorPart → List Placed → Option Construct
declarator_construct w (Declarator r) ts = where_true (first_is (is_type_name w) ts && may_name r) constructs.TypedefAgain
declarator_construct w (Direct r) ts = where_true (may_omit r && params_ahead w ts) constructs.FunctionPointer
declarator_construct w (Tails r is_plain d) ts = where_true (first_is is_open ts && (not is_plain && is_given d)) constructs.FunctionPointer
declarator_construct w (Size r at d) ts = where_true (first_is is_right_bracket ts && in_member r) constructs.FlexibleArray
declarator_construct w _ ts = None

-- the construct that the first token bears where this part may come
abbrev pub part_construct : Scene → Part → List Placed → Option Construct
part_construct w (AnExpr p) ts = expr_construct w p ts
part_construct w (ADeclarator p) ts = declarator_construct w p ts
part_construct w AfterType ts = where_true (first_is is_brace ts) constructs.CompoundLiteral
part_construct w (MoreSpecs before) ts = where_true (first_is (is_type_name w) ts && has_type before) constructs.TypedefAgain
part_construct w (MoreDeclarators s before) ts = where_true (first_is is_colon ts) constructs.BitField
part_construct w Initialiser ts = where_true (first_is begins_designator ts) constructs.Designator
part_construct w Parameter ts = where_true (first_is (is_plain_word w) ts) constructs.OldParameters
part_construct w _ ts = None

abbrev pub next_construct : Scene → Next → List Placed → Option Construct
next_construct w (a_token n c) ts = None
next_construct w (a_part p) ts = part_construct w p ts
next_construct w a_test ts = None

-- the part may have no token where one follows
abbrev pub expr_may_be_empty : ExprPart → Bool
expr_may_be_empty (More l left) = true
expr_may_be_empty (Assigned left) = true
expr_may_be_empty (Chosen condition) = true
expr_may_be_empty (Suffixes base) = true
expr_may_be_empty (Texts at before) = true
expr_may_be_empty _ = false

abbrev pub spec_may_be_empty : SpecPart → Bool
spec_may_be_empty (StructureTagged at tag) = true
spec_may_be_empty (EnumerationTagged at tag) = true
spec_may_be_empty _ = false

abbrev pub declarator_may_be_empty : DeclaratorPart → Bool
declarator_may_be_empty (Declarator r) = may_omit r
declarator_may_be_empty (Pointed r at is_const) = may_omit r
declarator_may_be_empty (Direct r) = may_omit r
declarator_may_be_empty (Tails r is_plain d) = true
declarator_may_be_empty _ = false

abbrev pub stmt_may_be_empty : StmtPart → Bool
stmt_may_be_empty (Statement b) = false
stmt_may_be_empty (Else at condition first) = true

abbrev pub may_be_empty : Part → Bool
may_be_empty (AnExpr p) = expr_may_be_empty p
may_be_empty (ASpec p) = spec_may_be_empty p
may_be_empty (ADeclarator p) = declarator_may_be_empty p
may_be_empty (AStmt p) = stmt_may_be_empty p
may_be_empty AfterType = true
may_be_empty (MoreSpecs before) = true
may_be_empty (EnumeratorValue at name) = true
may_be_empty _ = false

abbrev pub MustCome : Next → Type 0
MustCome (a_token n c) = Unit {0}
MustCome (a_part p) = may_be_empty p ≡ false
MustCome a_test = Unit {0}

-- something must come at the place
abbrev pub IsNeeded : Place → Type 0
IsNeeded at = (at.begun ≡ true) × MustCome at.next

abbrev pub is_bracket : Token → Bool
is_bracket (kinds.Punctuator signs.LeftParenthesis) = true
is_bracket (kinds.Punctuator signs.LeftBracket) = true
is_bracket (kinds.Punctuator signs.LeftBrace) = true
is_bracket _ = false

-- how many forms a token that bears a construct of its place begins: a bracket one, and the
-- parenthesis of a call two
abbrev pub forms_of_bracket : Bool → ℕ
forms_of_bracket true = 1
forms_of_bracket false = 0

abbrev pub forms_begun : Next → Token → ℕ
forms_begun (a_part (AnExpr (Suffixes base))) t = 2
forms_begun _ t = forms_of_bracket (is_bracket t)

-- as many forms may be unfinished
abbrev pub nesting_limit : ℕ
nesting_limit = 200

-- The first token behind the front bears the construct.
pub data Bears (front : List Placed) (t : Placed) (rest : List Placed) (c : Construct) : Type 0 where
  of_token : (at : Place) → StandsAt (front ++ t ∷ rest) (t ∷ rest) at → IsNeeded at → token_construct at.scene t.token ≡ Some c → Bears front t rest c
  -- the token is read at the place
  of_read : (at : Place) (n : ℕ) (k : Class) → StandsAt (front ++ t ∷ rest) (t ∷ rest) at → at.next ≡ a_token n k → Fits at.scene k t.token
      → token_construct at.scene t.token ≡ Some c → Bears front t rest c
  of_place : (at : Place) → StandsAt (front ++ t ∷ rest) (t ∷ rest) at → next_construct at.scene at.next (t ∷ rest) ≡ Some c → Bears front t rest c

-- With the first token behind the front more forms are unfinished than may be.
pub data IsDeep (front : List Placed) (t : Placed) (rest : List Placed) : Type 0 where
  -- the token is read at the place
  is_read : (at : Place) (n : ℕ) (c : Class) → StandsAt (front ++ t ∷ rest) (t ∷ rest) at → at.next ≡ a_token n c → Fits at.scene c t.token
      → nesting_limit < at.count + n → IsDeep front t rest
  -- the token is a bracket, whether it may come or not
  opens : (at : Place) → StandsAt (front ++ t ∷ rest) (t ∷ rest) at → IsNeeded at → is_bracket t.token ≡ true → nesting_limit < at.count + 1
      → IsDeep front t rest
  -- the token bears a construct of the place
  bears : (at : Place) (c : Construct) → StandsAt (front ++ t ∷ rest) (t ∷ rest) at → next_construct at.scene at.next (t ∷ rest) ≡ Some c
      → nesting_limit < at.count + forms_begun at.next t.token → IsDeep front t rest

-- why a token, or the end, is refused
pub data Why : Type 0 where
  Syntax : Why
  Unsupported : Construct → Why
  TooDeep : Why

-- The first token behind the front is refused for this reason, or the end where there is none: first that it
-- nests too deep, then that it bears a construct, then that no file goes on with it.
abbrev pub Because : List Placed → List Placed → Why → Type 0
Because front [] Syntax = StopsAt front []
Because front [] (Unsupported c) = ⊥
Because front [] TooDeep = ⊥
Because front (t ∷ rest) Syntax = StopsAt front (t ∷ rest) × (IsDeep front t rest → ⊥) × ((c : Construct) → Bears front t rest c → ⊥)
Because front (t ∷ rest) (Unsupported c) = Bears front t rest c × (IsDeep front t rest → ⊥)
Because front (t ∷ rest) TooDeep = IsDeep front t rest

-- no token of the front is refused
abbrev pub NoneRefused : List Placed → List Placed → Type 0
NoneRefused front rest = (before : List Placed) (t : Placed) (behind : List Placed) → front ≡ before ++ t ∷ behind → (why : Why)
    → Because before (t ∷ behind ++ rest) why → ⊥

-- The tokens are a file with this tree, and none is refused.
abbrev pub IsFile : List Placed → FileTree → Type 0
IsFile tokens file = IsTree tokens file × NoneRefused tokens []

-- The first of the tokens that is refused is the first of the rest, or the end where there is none.
pub record IsRefused (tokens rest : List Placed) (why : Why) : Type 0 where
  pub front : List Placed
  pub splits : tokens ≡ front ++ rest
  pub because : Because front rest why
  pub first : NoneRefused front rest
