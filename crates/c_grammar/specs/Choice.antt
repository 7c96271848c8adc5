-- Which production a descent takes for a part, by the first token and, where it must, the second. It is a
-- step of the proof: the grammar says what is right.
use Rattle.std.specs.Prelude.{◌≡◌, refl, ℕ, Bool, true, false, not, ◌&&◌, if◌then◌else◌, List, [], ◌∷◌, Option, Some, None}
use Rattle.c_syntax_written.specs.declared.step.StepWay.TheVariants as ways
use Rattle.c_syntax_written.specs.declared.place.Pos.{Pos}
use Rattle.c_syntax_written.specs.declared.token.Keyword.{Keyword}
use Rattle.c_syntax_written.specs.declared.token.Keyword.TheVariants as keywords
use Rattle.c_syntax_written.specs.declared.token.Placed.{Placed}
use Rattle.c_syntax_written.specs.declared.token.Punctuator.{Punctuator}
use Rattle.c_syntax_written.specs.declared.token.Punctuator.TheVariants as signs
use Rattle.c_syntax_written.specs.declared.token.Token.{Token}
use Rattle.c_syntax_written.specs.declared.token.Token.TheVariants as kinds
use Rattle.c_syntax_written.specs.declared.written.AssignOp.{AssignOp}
use Rattle.c_syntax_written.specs.declared.written.AssignOp.TheVariants as assigns
use Rattle.c_syntax_written.specs.declared.written.BinaryOp.TheVariants as binaries
use Rattle.c_syntax_written.specs.declared.written.StorageWord.TheVariants as storages
use Rattle.c_syntax_written.specs.declared.written.TypeWord.TheVariants as type_words
use Rattle.c_syntax_written.specs.declared.written.UnaryOp.TheVariants as unaries
use Rattle.c_syntax_written.specs.Written.{ExprTree}
use Rattle.c_syntax_written.specs.Written as trees
use Rattle.c_grammar.specs.declared.parts.Level.{Level}
use Rattle.c_grammar.specs.declared.parts.Level.TheVariants.{Commas, Ors, Ands, BitOrs, BitXors, BitAnds, Equalities, Relations, Shifts, Sums, Products}
use Rattle.c_grammar.specs.declared.parts.Joint.{Joint}
use Rattle.c_grammar.specs.declared.parts.Joint.TheVariants.{Comma as comma, Binary as binary}
use Rattle.c_grammar.specs.declared.parts.Role.{Role}
use Rattle.c_grammar.specs.declared.parts.Role.TheVariants.{Naming, OfMember, OfParameter, OfTypeName}
use Rattle.c_grammar.specs.declared.parts.Closing.{Closing}
use Rattle.c_grammar.specs.declared.parts.Closing.TheVariants.{BySemicolon as by_semicolon, ByParenthesis as by_parenthesis, ByBracket as by_bracket, ByColon as by_colon}
use Rattle.c_grammar.specs.Parts.{Scene, ExprPart, Run, More, Assignment, Assigned, Conditional, Chosen, Cast, Operand, Unary, Sized, Postfix, Suffixes, Primary, Texts, SpecPart, Spec, Structure, StructureTagged, Enumeration, EnumerationTagged, DeclaratorPart, Declarator, Pointed, Direct, Tails, Size, GroupEnd, Parameters, MoreParameters, StmtPart, Statement, Else, DeclPart, Declaration, Declared, Initial, Ending, OuterPart, Outer, OuterDeclared, OuterInitial, Part, AnExpr, ASpec, ADeclarator, AStmt, ADecl, AnOuter, Close, MemberName, AfterType, Arguments, MoreArguments, Specs, MoreSpecs, Members, MoreMembers, AMember, MoreDeclarators, Enumerators, MoreEnumerators, NextEnumerator, AnEnumerator, EnumeratorValue, Parameter, Initialiser, Initialisers, MoreInitialisers, NextInitialiser, Optionally, ForStart, Items, Item, Outers, Value}
use Rattle.c_grammar.specs.Classes.{names_type, level_of}
use Rattle.c_grammar.specs.Process.{Process}
use Rattle.c_grammar.specs.Made.{ends_open}
use Rattle.c_grammar.specs.Ahead.{spec_ahead, type_ahead, label_ahead, is_close, is_colon}
use Rattle.c_grammar.specs.ExprRules as exprs
use Rattle.c_grammar.specs.TypeRules as types
use Rattle.c_grammar.specs.FileRules as files
use Rattle.c_grammar.specs.Grammar.{Produces, expr_rule, type_rule, file_rule}
use Rattle.c_grammar.specs.Refused.{first_is, is_brace, is_right_bracket}

-- a production of the part
abbrev pub ARule : Scene → Part → Type 0
ARule w p = (q : Process (Value p)) × Produces w p q

abbrev pub this : {w : Scene} {p : Part} {q : Process (Value p)} → Produces w p q → Option (ARule w p)
this {w} {p} {q} rule = Some (q, rule)

abbrev pub is_keyword_token : Token → Option Keyword
is_keyword_token (kinds.Keyword k) = Some k
is_keyword_token _ = None

-- the token's joint
abbrev pub joint_of_sign : Punctuator → Option Joint
joint_of_sign signs.Comma = Some comma
joint_of_sign signs.Star = Some (binary binaries.Multiply)
joint_of_sign signs.Slash = Some (binary binaries.Divide)
joint_of_sign signs.Percent = Some (binary binaries.Remainder)
joint_of_sign signs.Plus = Some (binary binaries.Plus)
joint_of_sign signs.Minus = Some (binary binaries.Minus)
joint_of_sign signs.ShiftLeft = Some (binary binaries.ShiftLeft)
joint_of_sign signs.ShiftRight = Some (binary binaries.ShiftRight)
joint_of_sign signs.Less = Some (binary binaries.Less)
joint_of_sign signs.Greater = Some (binary binaries.Greater)
joint_of_sign signs.LessEqual = Some (binary binaries.AtMost)
joint_of_sign signs.GreaterEqual = Some (binary binaries.AtLeast)
joint_of_sign signs.Equal = Some (binary binaries.Equal)
joint_of_sign signs.NotEqual = Some (binary binaries.Unequal)
joint_of_sign signs.Ampersand = Some (binary binaries.BitAnd)
joint_of_sign signs.Caret = Some (binary binaries.BitXor)
joint_of_sign signs.Bar = Some (binary binaries.BitOr)
joint_of_sign signs.And = Some (binary binaries.And)
joint_of_sign signs.Or = Some (binary binaries.Or)
joint_of_sign _ = None

abbrev pub joint_of : Token → Option Joint
joint_of (kinds.Punctuator p) = joint_of_sign p
joint_of _ = None

-- the two ranks are one
abbrev pub same_level : (a b : Level) → Option (a ≡ b)
same_level Commas Commas = Some refl
same_level Ors Ors = Some refl
same_level Ands Ands = Some refl
same_level BitOrs BitOrs = Some refl
same_level BitXors BitXors = Some refl
same_level BitAnds BitAnds = Some refl
same_level Equalities Equalities = Some refl
same_level Relations Relations = Some refl
same_level Shifts Shifts = Some refl
same_level Sums Sums = Some refl
same_level Products Products = Some refl
same_level _ _ = None

abbrev pub more_rule : (w : Scene) (l : Level) (left : ExprTree) (j : Joint) → Option (level_of j ≡ l) → Option (ARule w (AnExpr (More l left)))
more_rule w l left j (Some e) = this (expr_rule (exprs.run_more j e))
more_rule w l left j None = this (expr_rule exprs.run_end)

abbrev pub more_choice : (w : Scene) (l : Level) (left : ExprTree) → Option Joint → Option (ARule w (AnExpr (More l left)))
more_choice w l left (Some j) = more_rule w l left j (same_level (level_of j) l)
more_choice w l left None = this (expr_rule exprs.run_end)

abbrev pub assign_of_sign : Punctuator → Option AssignOp
assign_of_sign signs.MultiplyAssign = Some assigns.Multiply
assign_of_sign signs.DivideAssign = Some assigns.Divide
assign_of_sign signs.RemainderAssign = Some assigns.Remainder
assign_of_sign signs.AddAssign = Some assigns.Plus
assign_of_sign signs.SubtractAssign = Some assigns.Minus
assign_of_sign signs.ShiftLeftAssign = Some assigns.ShiftLeft
assign_of_sign signs.ShiftRightAssign = Some assigns.ShiftRight
assign_of_sign signs.AndAssign = Some assigns.BitAnd
assign_of_sign signs.XorAssign = Some assigns.BitXor
assign_of_sign signs.OrAssign = Some assigns.BitOr
assign_of_sign _ = None

abbrev pub compound_choice : (w : Scene) (left : ExprTree) → Option AssignOp → Option (ARule w (AnExpr (Assigned left)))
compound_choice w left (Some op) = this (expr_rule (exprs.compound op))
compound_choice w left None = this (expr_rule exprs.not_assigned)

abbrev pub assigned_choice : (w : Scene) (left : ExprTree) → Token → Option (ARule w (AnExpr (Assigned left)))
assigned_choice w left (kinds.Punctuator signs.Assign) = this (expr_rule exprs.assigned)
assigned_choice w left (kinds.Punctuator p) = compound_choice w left (assign_of_sign p)
assigned_choice w left _ = this (expr_rule exprs.not_assigned)

abbrev pub chosen_choice : (w : Scene) (condition : ExprTree) → Token → Option (ARule w (AnExpr (Chosen condition)))
chosen_choice w condition (kinds.Punctuator signs.Question) = this (expr_rule exprs.chosen)
chosen_choice w condition _ = this (expr_rule exprs.not_chosen)

abbrev pub unary_choice : (w : Scene) → Token → Option (ARule w (AnExpr Unary))
unary_choice w (kinds.Keyword keywords.Sizeof) = this (expr_rule exprs.size_of)
unary_choice w (kinds.Punctuator signs.Increment) = this (expr_rule (exprs.pre_step ways.Up))
unary_choice w (kinds.Punctuator signs.Decrement) = this (expr_rule (exprs.pre_step ways.Down))
unary_choice w (kinds.Punctuator signs.Ampersand) = this (expr_rule (exprs.unary unaries.AddressOf))
unary_choice w (kinds.Punctuator signs.Star) = this (expr_rule (exprs.unary unaries.Deref))
unary_choice w (kinds.Punctuator signs.Plus) = this (expr_rule (exprs.unary unaries.Plus))
unary_choice w (kinds.Punctuator signs.Minus) = this (expr_rule (exprs.unary unaries.Minus))
unary_choice w (kinds.Punctuator signs.Tilde) = this (expr_rule (exprs.unary unaries.Complement))
unary_choice w (kinds.Punctuator signs.Exclamation) = this (expr_rule (exprs.unary unaries.Not))
unary_choice w _ = this (expr_rule exprs.no_prefix)

-- only a word is called
abbrev pub call_choice : (w : Scene) (base : ExprTree) → Option (ARule w (AnExpr (Suffixes base)))
call_choice w (trees.Word at name) = this (expr_rule exprs.call)
call_choice w base = this (expr_rule exprs.no_suffix)

abbrev pub suffix_choice : (w : Scene) (base : ExprTree) → Token → Option (ARule w (AnExpr (Suffixes base)))
suffix_choice w base (kinds.Punctuator signs.LeftBracket) = this (expr_rule exprs.index)
suffix_choice w base (kinds.Punctuator signs.LeftParenthesis) = call_choice w base
suffix_choice w base (kinds.Punctuator signs.Dot) = this (expr_rule exprs.dot)
suffix_choice w base (kinds.Punctuator signs.Arrow) = this (expr_rule exprs.arrow)
suffix_choice w base (kinds.Punctuator signs.Increment) = this (expr_rule (exprs.post_step ways.Up))
suffix_choice w base (kinds.Punctuator signs.Decrement) = this (expr_rule (exprs.post_step ways.Down))
suffix_choice w base _ = this (expr_rule exprs.no_suffix)

abbrev pub word_choice : (w : Scene) → Bool → Option (ARule w (AnExpr Primary))
word_choice w true = None
word_choice w false = this (expr_rule exprs.a_word)

abbrev pub primary_choice : (w : Scene) → Token → Option (ARule w (AnExpr Primary))
primary_choice w (kinds.Word name) = word_choice w (names_type w name)
primary_choice w (kinds.Number c) = this (expr_rule exprs.a_number)
primary_choice w (kinds.Character n) = this (expr_rule exprs.a_character)
primary_choice w (kinds.Text bytes) = this (expr_rule exprs.a_text)
primary_choice w (kinds.Punctuator signs.LeftParenthesis) = this (expr_rule exprs.enclosed)
primary_choice w _ = None

abbrev pub texts_choice : (w : Scene) (at : Pos) (before : List ℕ) → Token → Option (ARule w (AnExpr (Texts at before)))
texts_choice w at before (kinds.Text bytes) = this (expr_rule exprs.texts_more)
texts_choice w at before _ = this (expr_rule exprs.texts_end)

abbrev pub expr_choice : (w : Scene) (p : ExprPart) → List Placed → Option (ARule w (AnExpr p))
expr_choice w (Run l) ts = this (expr_rule exprs.run)
expr_choice w (More l left) [] = this (expr_rule exprs.run_end)
expr_choice w (More l left) (t ∷ ts) = more_choice w l left (joint_of t.token)
expr_choice w Assignment ts = this (expr_rule exprs.assignment)
expr_choice w (Assigned left) [] = this (expr_rule exprs.not_assigned)
expr_choice w (Assigned left) (t ∷ ts) = assigned_choice w left t.token
expr_choice w Conditional ts = this (expr_rule exprs.conditional)
expr_choice w (Chosen condition) [] = this (expr_rule exprs.not_chosen)
expr_choice w (Chosen condition) (t ∷ ts) = chosen_choice w condition t.token
expr_choice w Cast ts = if type_ahead w ts then this (expr_rule exprs.cast) else this (expr_rule exprs.no_cast)
expr_choice w Operand ts = this (expr_rule exprs.operand_cast)
expr_choice w Unary [] = this (expr_rule exprs.no_prefix)
expr_choice w Unary (t ∷ ts) = unary_choice w t.token
expr_choice w (Sized at) ts = if type_ahead w ts then this (expr_rule exprs.size_of_type) else this (expr_rule exprs.size_of_expr)
expr_choice w Postfix ts = this (expr_rule exprs.postfix)
expr_choice w (Suffixes base) [] = this (expr_rule exprs.no_suffix)
expr_choice w (Suffixes base) (t ∷ ts) = suffix_choice w base t.token
expr_choice w Primary [] = None
expr_choice w Primary (t ∷ ts) = primary_choice w t.token
expr_choice w (Texts at before) [] = this (expr_rule exprs.texts_end)
expr_choice w (Texts at before) (t ∷ ts) = texts_choice w at before t.token

abbrev pub name_choice : (w : Scene) → Bool → Option (ARule w (ASpec Spec))
name_choice w true = this (type_rule types.typedef_name)
name_choice w false = None

abbrev pub spec_word_choice : (w : Scene) → Keyword → Option (ARule w (ASpec Spec))
spec_word_choice w keywords.Typedef = this (type_rule (types.storage storages.Typedef))
spec_word_choice w keywords.Extern = this (type_rule (types.storage storages.Extern))
spec_word_choice w keywords.Static = this (type_rule (types.storage storages.Static))
spec_word_choice w keywords.Auto = this (type_rule (types.storage storages.Auto))
spec_word_choice w keywords.Register = this (type_rule (types.storage storages.Register))
spec_word_choice w keywords.Const = this (type_rule types.constant)
spec_word_choice w keywords.Void = this (type_rule (types.basic type_words.Void))
spec_word_choice w keywords.Char = this (type_rule (types.basic type_words.Char))
spec_word_choice w keywords.Short = this (type_rule (types.basic type_words.Short))
spec_word_choice w keywords.Int = this (type_rule (types.basic type_words.Int))
spec_word_choice w keywords.Long = this (type_rule (types.basic type_words.Long))
spec_word_choice w keywords.Signed = this (type_rule (types.basic type_words.Signed))
spec_word_choice w keywords.Unsigned = this (type_rule (types.basic type_words.Unsigned))
spec_word_choice w keywords.Struct = this (type_rule types.structure)
spec_word_choice w keywords.Enum = this (type_rule types.enumeration)
spec_word_choice w _ = None

abbrev pub spec_token_choice : (w : Scene) → Token → Option (ARule w (ASpec Spec))
spec_token_choice w (kinds.Word name) = name_choice w (names_type w name)
spec_token_choice w (kinds.Keyword k) = spec_word_choice w k
spec_token_choice w _ = None

abbrev pub structure_choice : (w : Scene) (at : Pos) → Token → Option (ARule w (ASpec (Structure at)))
structure_choice w at (kinds.Word name) = this (type_rule types.structure_tag)
structure_choice w at (kinds.Punctuator signs.LeftBrace) = this (type_rule types.structure_body)
structure_choice w at _ = None

abbrev pub enumeration_choice : (w : Scene) (at : Pos) → Token → Option (ARule w (ASpec (Enumeration at)))
enumeration_choice w at (kinds.Word name) = this (type_rule types.enumeration_tag)
enumeration_choice w at (kinds.Punctuator signs.LeftBrace) = this (type_rule types.enumeration_body)
enumeration_choice w at _ = None

abbrev pub spec_choice : (w : Scene) (p : SpecPart) → List Placed → Option (ARule w (ASpec p))
spec_choice w Spec [] = None
spec_choice w Spec (t ∷ ts) = spec_token_choice w t.token
spec_choice w (Structure at) [] = None
spec_choice w (Structure at) (t ∷ ts) = structure_choice w at t.token
spec_choice w (StructureTagged at tag) ts =
    if first_is is_brace ts then this (type_rule types.structure_tagged_body) else this (type_rule types.structure_named)
spec_choice w (Enumeration at) [] = None
spec_choice w (Enumeration at) (t ∷ ts) = enumeration_choice w at t.token
spec_choice w (EnumerationTagged at tag) ts =
    if first_is is_brace ts then this (type_rule types.enumeration_tagged_body) else this (type_rule types.enumeration_named)

abbrev pub is_star : Token → Bool
is_star (kinds.Punctuator signs.Star) = true
is_star _ = false

abbrev pub is_const_word : Token → Bool
is_const_word (kinds.Keyword keywords.Const) = true
is_const_word _ = false

abbrev pub nameless_choice : (w : Scene) (r : Role) → Option (ARule w (ADeclarator (Direct r)))
nameless_choice w Naming = None
nameless_choice w OfMember = None
nameless_choice w OfParameter = this (type_rule (types.no_name types.of_parameter))
nameless_choice w OfTypeName = this (type_rule (types.no_name types.of_type_name))

abbrev pub named_choice : (w : Scene) (r : Role) → Option (ARule w (ADeclarator (Direct r)))
named_choice w Naming = this (type_rule (types.declared_name types.naming))
named_choice w OfMember = this (type_rule (types.declared_name types.of_member))
named_choice w OfParameter = this (type_rule (types.declared_name types.of_parameter))
named_choice w OfTypeName = this (type_rule (types.no_name types.of_type_name))

abbrev pub direct_word_choice : (w : Scene) (r : Role) → Bool → Option (ARule w (ADeclarator (Direct r)))
direct_word_choice w r true = nameless_choice w r
direct_word_choice w r false = named_choice w r

abbrev pub direct_choice : (w : Scene) (r : Role) → Token → Option (ARule w (ADeclarator (Direct r)))
direct_choice w r (kinds.Word name) = direct_word_choice w r (names_type w name)
direct_choice w r (kinds.Punctuator signs.LeftParenthesis) = this (type_rule types.grouped)
direct_choice w r _ = nameless_choice w r

abbrev pub tails_choice : (w : Scene) (r : Role) (is_plain : Bool) (d : trees.DeclaratorTree) → Token → Option (ARule w (ADeclarator (Tails r is_plain d)))
tails_choice w r is_plain d (kinds.Punctuator signs.LeftBracket) = this (type_rule types.array)
tails_choice w r is_plain d (kinds.Punctuator signs.LeftParenthesis) = this (type_rule types.function)
tails_choice w r is_plain d _ = this (type_rule types.tails_end)

abbrev pub declarator_choice : (w : Scene) (p : DeclaratorPart) → List Placed → Option (ARule w (ADeclarator p))
declarator_choice w (Declarator r) ts = if first_is is_star ts then this (type_rule types.pointer) else this (type_rule types.direct)
declarator_choice w (Pointed r at is_const) ts = if first_is is_const_word ts then this (type_rule types.pointer_const) else this (type_rule types.pointed)
declarator_choice w (Direct r) [] = nameless_choice w r
declarator_choice w (Direct r) (t ∷ ts) = direct_choice w r t.token
declarator_choice w (Tails r is_plain d) [] = this (type_rule types.tails_end)
declarator_choice w (Tails r is_plain d) (t ∷ ts) = tails_choice w r is_plain d t.token
declarator_choice w (Size r at d) ts = if first_is is_right_bracket ts then this (type_rule types.no_size) else this (type_rule types.size)
declarator_choice w (GroupEnd d) ts = this (type_rule types.group_end)
declarator_choice w (Parameters at d) ts = if first_is is_close ts then this (type_rule types.no_parameters) else this (type_rule types.parameters)
declarator_choice w (MoreParameters at d before) ts =
    if first_is is_close ts then this (type_rule types.parameters_end) else this (type_rule types.parameters_more)

abbrev pub statement_word_choice : (w : Scene) (b : Bool) → Keyword → Option (ARule w (AStmt (Statement b)))
statement_word_choice w b keywords.Case = this (file_rule files.case)
statement_word_choice w b keywords.Default = this (file_rule files.default_statement)
statement_word_choice w b keywords.If = this (file_rule files.if_statement)
statement_word_choice w b keywords.Switch = this (file_rule files.switch_statement)
statement_word_choice w b keywords.While = this (file_rule files.while_loop)
statement_word_choice w b keywords.Do = this (file_rule files.do_loop)
statement_word_choice w b keywords.For = this (file_rule files.for_loop)
statement_word_choice w b keywords.Goto = this (file_rule files.jump)
statement_word_choice w b keywords.Continue = this (file_rule files.continue_statement)
statement_word_choice w b keywords.Break = this (file_rule files.break_statement)
statement_word_choice w b keywords.Return = this (file_rule files.return_statement)
statement_word_choice w b _ = this (file_rule files.expression)

abbrev pub statement_choice : (w : Scene) (b : Bool) → Token → Option (ARule w (AStmt (Statement b)))
statement_choice w b (kinds.Keyword k) = statement_word_choice w b k
statement_choice w b (kinds.Punctuator signs.LeftBrace) = this (file_rule files.block)
statement_choice w b (kinds.Punctuator signs.Semicolon) = this (file_rule files.empty)
statement_choice w b _ = this (file_rule files.expression)

abbrev pub is_else_word : Token → Bool
is_else_word (kinds.Keyword keywords.Else) = true
is_else_word _ = false

abbrev pub stmt_choice : (w : Scene) (p : StmtPart) → List Placed → Option (ARule w (AStmt p))
stmt_choice w (Statement b) [] = this (file_rule files.expression)
stmt_choice w (Statement b) (t ∷ ts) = if label_ahead w (t ∷ ts) then this (file_rule files.label) else statement_choice w b t.token
stmt_choice w (Else at condition first) ts =
    if first_is is_else_word ts && not (ends_open first) then this (file_rule files.with_else) else this (file_rule files.no_else)

abbrev pub is_semicolon : Token → Bool
is_semicolon (kinds.Punctuator signs.Semicolon) = true
is_semicolon _ = false

abbrev pub is_assign : Token → Bool
is_assign (kinds.Punctuator signs.Assign) = true
is_assign _ = false

abbrev pub is_right_brace : Token → Bool
is_right_brace (kinds.Punctuator signs.RightBrace) = true
is_right_brace _ = false

abbrev pub decl_choice : (w : Scene) (p : DeclPart) → List Placed → Option (ARule w (ADecl p))
decl_choice w Declaration ts = this (file_rule files.declaration)
decl_choice w (Declared s) ts = if first_is is_semicolon ts then this (file_rule files.declared_nothing) else this (file_rule files.declared)
decl_choice w (Initial s before d) ts = if first_is is_assign ts then this (file_rule files.initialised) else this (file_rule files.not_initialised)
decl_choice w (Ending s before) ts = if first_is is_semicolon ts then this (file_rule files.declaration_end) else this (file_rule files.declaration_more)

abbrev pub outer_choice : (w : Scene) (p : OuterPart) → List Placed → Option (ARule w (AnOuter p))
outer_choice w Outer ts = this (file_rule files.outer)
outer_choice w (OuterDeclared s) ts = if first_is is_semicolon ts then this (file_rule files.outer_nothing) else this (file_rule files.outer_declared)
outer_choice w (OuterInitial s d) ts = if first_is is_brace ts then this (file_rule files.outer_function) else this (file_rule files.outer_initial)

-- the token is what ends it
abbrev pub is_closing : Closing → Token → Bool
is_closing by_semicolon t = is_semicolon t
is_closing by_parenthesis t = is_close t
is_closing by_bracket t = is_right_bracket t
is_closing by_colon t = is_colon t

-- what the descent goes on with
abbrev pub choose : (w : Scene) (p : Part) → List Placed → Option (ARule w p)
choose w (AnExpr p) ts = expr_choice w p ts
choose w (ASpec p) ts = spec_choice w p ts
choose w (ADeclarator p) ts = declarator_choice w p ts
choose w (AStmt p) ts = stmt_choice w p ts
choose w (ADecl p) ts = decl_choice w p ts
choose w (AnOuter p) ts = outer_choice w p ts
choose w (Close p) ts = this (expr_rule exprs.closes)
choose w MemberName ts = this (expr_rule exprs.member_name)
choose w AfterType ts = this (expr_rule exprs.after_type)
choose w Arguments ts = if first_is is_close ts then this (expr_rule exprs.no_arguments) else this (expr_rule exprs.arguments)
choose w (MoreArguments before) ts = if first_is is_close ts then this (expr_rule exprs.arguments_end) else this (expr_rule exprs.arguments_more)
choose w Specs ts = this (type_rule types.specs)
choose w (MoreSpecs before) ts = if spec_ahead w ts then this (type_rule types.specs_more) else this (type_rule types.specs_end)
choose w Members ts = this (type_rule types.members)
choose w (MoreMembers before) ts = if first_is is_right_brace ts then this (type_rule types.members_end) else this (type_rule types.members_more)
choose w AMember ts = this (type_rule types.member)
choose w (MoreDeclarators s before) ts = if first_is is_semicolon ts then this (type_rule types.declarators_end) else this (type_rule types.declarators_more)
choose w Enumerators ts = this (type_rule types.enumerators)
choose w (MoreEnumerators before) ts = if first_is is_right_brace ts then this (type_rule types.enumerators_end) else this (type_rule types.enumerators_more)
choose w (NextEnumerator before) ts =
    if first_is is_right_brace ts then this (type_rule types.enumerators_comma_end) else this (type_rule types.enumerators_next)
choose w AnEnumerator ts = this (type_rule types.enumerator)
choose w (EnumeratorValue at name) ts = if first_is is_assign ts then this (type_rule types.enumerator_valued) else this (type_rule types.enumerator_plain)
choose w Parameter ts = this (type_rule types.parameter)
choose w Initialiser ts = if first_is is_brace ts then this (file_rule files.braces) else this (file_rule files.value)
choose w Initialisers ts = this (file_rule files.initialisers)
choose w (MoreInitialisers before) ts = if first_is is_right_brace ts then this (file_rule files.initialisers_end) else this (file_rule files.initialisers_more)
choose w (NextInitialiser before) ts =
    if first_is is_right_brace ts then this (file_rule files.initialisers_comma_end) else this (file_rule files.initialisers_next)
choose w (Optionally p) ts = if first_is (is_closing p) ts then this (expr_rule exprs.nothing_before) else this (expr_rule exprs.something_before)
choose w ForStart ts =
    if first_is is_semicolon ts then this (file_rule files.for_nothing)
    else (if spec_ahead w ts then this (file_rule files.for_declares) else this (file_rule files.for_value))
choose w (Items before) ts = if first_is is_right_brace ts then this (file_rule files.items_end) else this (file_rule files.items_more)
choose w Item ts = if spec_ahead w ts then this (file_rule files.item_declares) else this (file_rule files.item_does)
choose w (Outers before) [] = this (file_rule files.file_end)
choose w (Outers before) (t ∷ ts) = this (file_rule files.file_more)
