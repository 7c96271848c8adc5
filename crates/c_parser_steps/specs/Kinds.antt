-- What kind of token comes, as far as the descent must know.
use Rattle.std.specs.Prelude.{◌≡◌, Bool, true, false, List, [], ◌∷◌, Option, Some, None}
use Rattle.c_syntax_written.specs.declared.step.StepWay.TheVariants as ways
use Rattle.c_syntax_written.specs.declared.token.Keyword.{Keyword}
use Rattle.c_syntax_written.specs.declared.token.Keyword.TheVariants as keywords
use Rattle.c_syntax_written.specs.declared.token.Punctuator.{Punctuator}
use Rattle.c_syntax_written.specs.declared.token.Punctuator.TheVariants as signs
use Rattle.c_syntax_written.specs.declared.token.Placed.{Placed}
use Rattle.c_syntax_written.specs.declared.token.Token.{Token}
use Rattle.c_syntax_written.specs.declared.token.Token.TheVariants as kinds
use Rattle.c_syntax_written.specs.declared.written.AssignOp.{AssignOp}
use Rattle.c_syntax_written.specs.declared.written.StorageWord.TheVariants as storages
use Rattle.c_syntax_written.specs.declared.written.TypeWord.TheVariants as type_words
use Rattle.c_syntax_written.specs.declared.written.UnaryOp.TheVariants as unaries
use Rattle.c_syntax_written.specs.Written.{SpecTree, Basic, SpecTrees, no_specs, more_specs, ParamTrees, no_params, more_params}
use Rattle.c_grammar.specs.declared.parts.Level.{Level}
use Rattle.c_grammar.specs.declared.parts.Joint.{Joint}
use Rattle.c_grammar.specs.declared.parts.Role.{Role}
use Rattle.c_grammar.specs.declared.parts.Role.TheVariants.{Naming, OfMember, OfParameter, OfTypeName}
use Rattle.c_grammar.specs.Parts.{Scene}
use Rattle.c_grammar.specs.Classes.{names_type, level_of}
use Rattle.c_grammar.specs.Made.{is_bare_void}
use Rattle.c_grammar.specs.Choice.{joint_of, same_level, assign_of_sign as compound_of_sign}
use Rattle.c_grammar.specs.declared.parts.Level.TheVariants as levels
use Rattle.c_parser_steps.specs.declared.level.OperandKind.{OperandKind}
use Rattle.c_parser_steps.specs.declared.level.OperandKind.TheVariants as operands
use Rattle.c_parser_steps.specs.declared.kind.AssignKind.{AssignKind}
use Rattle.c_parser_steps.specs.declared.kind.AssignKind.TheVariants as assigns
use Rattle.c_parser_steps.specs.declared.kind.PrefixKind.{PrefixKind}
use Rattle.c_parser_steps.specs.declared.kind.PrefixKind.TheVariants as prefixes
use Rattle.c_parser_steps.specs.declared.kind.SuffixKind.{SuffixKind}
use Rattle.c_parser_steps.specs.declared.kind.SuffixKind.TheVariants as suffixes
use Rattle.c_parser_steps.specs.declared.kind.PrimaryKind.{PrimaryKind}
use Rattle.c_parser_steps.specs.declared.kind.PrimaryKind.TheVariants as primaries
use Rattle.c_parser_steps.specs.declared.type_kind.SpecKind.{SpecKind}
use Rattle.c_parser_steps.specs.declared.type_kind.SpecKind.TheVariants as specs
use Rattle.c_parser_steps.specs.declared.type_kind.TagKind.{TagKind}
use Rattle.c_parser_steps.specs.declared.type_kind.TagKind.TheVariants as tags
use Rattle.c_parser_steps.specs.declared.type_kind.DirectKind.{DirectKind}
use Rattle.c_parser_steps.specs.declared.type_kind.DirectKind.TheVariants as directs
use Rattle.c_parser_steps.specs.declared.type_kind.TailKind.{TailKind}
use Rattle.c_parser_steps.specs.declared.type_kind.TailKind.TheVariants as tails

abbrev pub opens : Punctuator → Bool
opens signs.LeftParenthesis = true
opens signs.LeftBracket = true
opens signs.LeftBrace = true
opens _ = false

abbrev pub sign_of : Token → Option Punctuator
sign_of (kinds.Punctuator p) = Some p
sign_of _ = None

abbrev pub sign_at : List Placed → Option Punctuator
sign_at [] = None
sign_at (t ∷ ts) = sign_of t.token

-- what the joints of a level stand between
abbrev pub operand_of : Level → OperandKind
operand_of levels.Commas = operands.Assignment
operand_of levels.Ors = operands.Run levels.Ands
operand_of levels.Ands = operands.Run levels.BitOrs
operand_of levels.BitOrs = operands.Run levels.BitXors
operand_of levels.BitXors = operands.Run levels.BitAnds
operand_of levels.BitAnds = operands.Run levels.Equalities
operand_of levels.Equalities = operands.Run levels.Relations
operand_of levels.Relations = operands.Run levels.Shifts
operand_of levels.Shifts = operands.Run levels.Sums
operand_of levels.Sums = operands.Run levels.Products
operand_of levels.Products = operands.Cast

-- the joint, where it is of the level
abbrev pub joint_where : {l : Level} (j : Joint) → Option (level_of j ≡ l) → Option Joint
joint_where j (Some e) = Some j
joint_where j None = None

abbrev pub joint_for : Level → Option Joint → Option Joint
joint_for l (Some j) = joint_where j (same_level (level_of j) l)
joint_for l None = None

abbrev pub joint_here : Level → List Placed → Option Joint
joint_here l [] = None
joint_here l (t ∷ ts) = joint_for l (joint_of t.token)

abbrev pub compound_kind : Option AssignOp → AssignKind
compound_kind (Some op) = assigns.Compound op
compound_kind None = assigns.Nothing

abbrev pub assign_of_sign : Punctuator → AssignKind
assign_of_sign signs.Assign = assigns.Plain
assign_of_sign p = compound_kind (compound_of_sign p)

abbrev pub assign_of : Option Punctuator → AssignKind
assign_of (Some p) = assign_of_sign p
assign_of None = assigns.Nothing

abbrev pub assign_at : List Placed → AssignKind
assign_at ts = assign_of (sign_at ts)

abbrev pub prefix_of_sign : Punctuator → PrefixKind
prefix_of_sign signs.Increment = prefixes.Step ways.Up
prefix_of_sign signs.Decrement = prefixes.Step ways.Down
prefix_of_sign signs.Ampersand = prefixes.Unary unaries.AddressOf
prefix_of_sign signs.Star = prefixes.Unary unaries.Deref
prefix_of_sign signs.Plus = prefixes.Unary unaries.Plus
prefix_of_sign signs.Minus = prefixes.Unary unaries.Minus
prefix_of_sign signs.Tilde = prefixes.Unary unaries.Complement
prefix_of_sign signs.Exclamation = prefixes.Unary unaries.Not
prefix_of_sign _ = prefixes.Nothing

abbrev pub prefix_of : Token → PrefixKind
prefix_of (kinds.Keyword keywords.Sizeof) = prefixes.Sizeof
prefix_of (kinds.Punctuator p) = prefix_of_sign p
prefix_of _ = prefixes.Nothing

abbrev pub prefix_at : List Placed → PrefixKind
prefix_at [] = prefixes.Nothing
prefix_at (t ∷ ts) = prefix_of t.token

abbrev pub suffix_of_sign : Punctuator → SuffixKind
suffix_of_sign signs.LeftBracket = suffixes.Index
suffix_of_sign signs.LeftParenthesis = suffixes.Call
suffix_of_sign signs.Dot = suffixes.Dot
suffix_of_sign signs.Arrow = suffixes.Arrow
suffix_of_sign signs.Increment = suffixes.Step ways.Up
suffix_of_sign signs.Decrement = suffixes.Step ways.Down
suffix_of_sign _ = suffixes.Nothing

abbrev pub suffix_of : Option Punctuator → SuffixKind
suffix_of (Some p) = suffix_of_sign p
suffix_of None = suffixes.Nothing

abbrev pub suffix_at : List Placed → SuffixKind
suffix_at ts = suffix_of (sign_at ts)

abbrev pub primary_of_word : Bool → PrimaryKind
primary_of_word true = primaries.Neither
primary_of_word false = primaries.Word

abbrev pub primary_of : Scene → Token → PrimaryKind
primary_of w (kinds.Word name) = primary_of_word (names_type w name)
primary_of w (kinds.Number c) = primaries.Number
primary_of w (kinds.Character n) = primaries.Character
primary_of w (kinds.Text bytes) = primaries.Text
primary_of w (kinds.Punctuator signs.LeftParenthesis) = primaries.Enclosed
primary_of w _ = primaries.Neither

abbrev pub primary_at : Scene → List Placed → PrimaryKind
primary_at w [] = primaries.Neither
primary_at w (t ∷ ts) = primary_of w t.token

abbrev pub spec_of_keyword : Keyword → SpecKind
spec_of_keyword keywords.Typedef = specs.Storage storages.Typedef
spec_of_keyword keywords.Extern = specs.Storage storages.Extern
spec_of_keyword keywords.Static = specs.Storage storages.Static
spec_of_keyword keywords.Auto = specs.Storage storages.Auto
spec_of_keyword keywords.Register = specs.Storage storages.Register
spec_of_keyword keywords.Const = specs.Const
spec_of_keyword keywords.Void = specs.Basic type_words.Void
spec_of_keyword keywords.Char = specs.Basic type_words.Char
spec_of_keyword keywords.Short = specs.Basic type_words.Short
spec_of_keyword keywords.Int = specs.Basic type_words.Int
spec_of_keyword keywords.Long = specs.Basic type_words.Long
spec_of_keyword keywords.Signed = specs.Basic type_words.Signed
spec_of_keyword keywords.Unsigned = specs.Basic type_words.Unsigned
spec_of_keyword keywords.Struct = specs.Structure
spec_of_keyword keywords.Enum = specs.Enumeration
spec_of_keyword _ = specs.Neither

abbrev pub spec_of_word : Bool → SpecKind
spec_of_word true = specs.TypedefName
spec_of_word false = specs.Neither

abbrev pub spec_of : Scene → Token → SpecKind
spec_of w (kinds.Word name) = spec_of_word (names_type w name)
spec_of w (kinds.Keyword k) = spec_of_keyword k
spec_of w _ = specs.Neither

abbrev pub spec_at : Scene → List Placed → SpecKind
spec_at w [] = specs.Neither
spec_at w (t ∷ ts) = spec_of w t.token

abbrev pub tag_of : Token → TagKind
tag_of (kinds.Word name) = tags.Tag
tag_of (kinds.Punctuator signs.LeftBrace) = tags.Body
tag_of _ = tags.Neither

abbrev pub tag_at : List Placed → TagKind
tag_at [] = tags.Neither
tag_at (t ∷ ts) = tag_of t.token

abbrev pub nameless_kind : Role → DirectKind
nameless_kind Naming = directs.Neither
nameless_kind OfMember = directs.Neither
nameless_kind OfParameter = directs.Nameless
nameless_kind OfTypeName = directs.Nameless

abbrev pub named_kind : Role → DirectKind
named_kind Naming = directs.Name
named_kind OfMember = directs.Name
named_kind OfParameter = directs.Name
named_kind OfTypeName = directs.Nameless

abbrev pub direct_of_word : Role → Bool → DirectKind
direct_of_word r true = nameless_kind r
direct_of_word r false = named_kind r

abbrev pub direct_of : Scene → Role → Token → DirectKind
direct_of w r (kinds.Word name) = direct_of_word r (names_type w name)
direct_of w r (kinds.Punctuator signs.LeftParenthesis) = directs.Grouped
direct_of w r _ = nameless_kind r

abbrev pub direct_at : Scene → Role → List Placed → DirectKind
direct_at w r [] = nameless_kind r
direct_at w r (t ∷ ts) = direct_of w r t.token

abbrev pub tail_of_sign : Punctuator → TailKind
tail_of_sign signs.LeftBracket = tails.Array
tail_of_sign signs.LeftParenthesis = tails.Function
tail_of_sign _ = tails.Nothing

abbrev pub tail_of : Option Punctuator → TailKind
tail_of (Some p) = tail_of_sign p
tail_of None = tails.Nothing

abbrev pub tail_at : List Placed → TailKind
tail_at ts = tail_of (sign_at ts)

-- `void` alone
abbrev pub is_void_spec : SpecTree → Bool
is_void_spec (Basic at type_words.Void) = true
is_void_spec _ = false

abbrev pub is_void_word : SpecTrees → Bool
is_void_word (more_specs spec no_specs) = is_void_spec spec
is_void_word _ = false

abbrev pub is_void_alone : ParamTrees → Bool
is_void_alone (more_params param no_params) = is_bare_void param
is_void_alone _ = false

abbrev pub is_no_suffix : SuffixKind → Bool
is_no_suffix suffixes.Nothing = true
is_no_suffix _ = false

abbrev pub is_no_tail : TailKind → Bool
is_no_tail tails.Nothing = true
is_no_tail _ = false
