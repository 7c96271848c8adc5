-- Which tokens may be the first of a part, and which may continue it, as sets of classes.
use Rattle.std.proofs.Common.{ℕ, Bool, true, false, not, ◌&&◌, ◌||◌, nat_le, Option, Some, None}
use Rattle.c_syntax_written.specs.declared.token.Keyword.{Keyword}
use Rattle.c_syntax_written.specs.declared.token.Keyword.TheVariants as keywords
use Rattle.c_syntax_written.specs.declared.token.Punctuator.{Punctuator}
use Rattle.c_syntax_written.specs.declared.token.Punctuator.TheVariants as signs
use Rattle.c_syntax_written.specs.declared.token.Token.{Token}
use Rattle.c_syntax_written.specs.declared.token.Token.TheVariants as kinds
use Rattle.c_grammar.specs.declared.parts.Level.{Level}
use Rattle.c_grammar.specs.declared.parts.Level.TheVariants.{Commas, Ors, Ands, BitOrs, BitXors, BitAnds, Equalities, Relations, Shifts, Sums, Products}
use Rattle.c_grammar.specs.declared.parts.Joint.{Joint}
use Rattle.c_grammar.specs.Parts.{ExprPart, Run, More, Assignment, Assigned, Conditional, Chosen, Cast, Operand, Unary, Sized, Postfix, Suffixes, Primary, Texts, SpecPart, Spec, Structure, StructureTagged, Enumeration, EnumerationTagged, DeclaratorPart, Declarator, Pointed, Direct, Tails, Size, GroupEnd, Parameters, MoreParameters, StmtPart, Statement, Else, DeclPart, Declaration, Declared, Initial, Ending, OuterPart, Outer, OuterDeclared, OuterInitial, Part, AnExpr, ASpec, ADeclarator, AStmt, ADecl, AnOuter, Close, MemberName, AfterType, Arguments, MoreArguments, Specs, MoreSpecs, Members, MoreMembers, AMember, MoreDeclarators, Enumerators, MoreEnumerators, NextEnumerator, AnEnumerator, EnumeratorValue, Parameter, Initialiser, Initialisers, MoreInitialisers, NextInitialiser, Optionally, ForStart, Items, Item, Outers, Value}
use Rattle.c_grammar.specs.declared.class.Class.{Class}
use Rattle.c_grammar.specs.declared.class.Class.TheVariants.{Keyword as keyword, Sign as sign, Word as word, TypeName as type_name, Number as number, Character as character, Text as text}
use Rattle.c_grammar.specs.Classes.{level_of}
use Rattle.c_grammar.specs.Made.{ends_open}
use Rattle.c_grammar.specs.Ahead.{is_spec_word, is_close, is_colon}
use Rattle.c_grammar.specs.Refused.{is_brace, is_right_bracket, begins_designator}
use Rattle.c_grammar.specs.Choice.{joint_of_sign, same_level, assign_of_sign, is_star, is_const_word, is_semicolon, is_assign, is_right_brace, is_else_word, is_closing}
use Rattle.c_grammar.proofs.Table.{Begins, Continues}
use Rattle.c_grammar.proofs.Sets.{class_of}

-- a keyword or punctuator that passes the test
abbrev pub by_token : (Token → Bool) → Class → Bool
by_token f (keyword k) = f (kinds.Keyword k)
by_token f (sign p) = f (kinds.Punctuator p)
by_token f _ = false

abbrev pub by_sign : (Punctuator → Bool) → Class → Bool
by_sign f (sign p) = f p
by_sign f _ = false

abbrev pub by_keyword : (Keyword → Bool) → Class → Bool
by_keyword f (keyword k) = f k
by_keyword f _ = false

abbrev pub is_given_option : {A : Type 0} → Option A → Bool
is_given_option (Some a) = true
is_given_option None = false

abbrev pub is_plain : Class → Bool
is_plain word = true
is_plain _ = false

abbrev pub is_typedef_name : Class → Bool
is_typedef_name type_name = true
is_typedef_name _ = false

abbrev pub is_text : Class → Bool
is_text text = true
is_text _ = false

-- signs of prefix operators
abbrev pub is_prefix : Punctuator → Bool
is_prefix signs.Ampersand = true
is_prefix signs.Star = true
is_prefix signs.Plus = true
is_prefix signs.Minus = true
is_prefix signs.Tilde = true
is_prefix signs.Exclamation = true
is_prefix signs.Increment = true
is_prefix signs.Decrement = true
is_prefix _ = false

-- signs of postfix forms
abbrev pub is_suffix : Punctuator → Bool
is_suffix signs.LeftBracket = true
is_suffix signs.LeftParenthesis = true
is_suffix signs.Dot = true
is_suffix signs.Arrow = true
is_suffix signs.Increment = true
is_suffix signs.Decrement = true
is_suffix _ = false

-- brackets behind a declarator
abbrev pub is_tail : Punctuator → Bool
is_tail signs.LeftBracket = true
is_tail signs.LeftParenthesis = true
is_tail _ = false

abbrev pub is_comma : Punctuator → Bool
is_comma signs.Comma = true
is_comma _ = false

abbrev pub is_question : Punctuator → Bool
is_question signs.Question = true
is_question _ = false

abbrev pub is_assigning : Punctuator → Bool
is_assigning signs.Assign = true
is_assigning p = is_given_option (assign_of_sign p)

abbrev pub is_sizeof : Keyword → Bool
is_sizeof keywords.Sizeof = true
is_sizeof _ = false

-- words that begin statements
abbrev pub begins_statement : Keyword → Bool
begins_statement keywords.Case = true
begins_statement keywords.Default = true
begins_statement keywords.If = true
begins_statement keywords.Switch = true
begins_statement keywords.While = true
begins_statement keywords.Do = true
begins_statement keywords.For = true
begins_statement keywords.Goto = true
begins_statement keywords.Continue = true
begins_statement keywords.Break = true
begins_statement keywords.Return = true
begins_statement _ = false

abbrev pub rank : Level → ℕ
rank Commas = 0
rank Ors = 1
rank Ands = 2
rank BitOrs = 3
rank BitXors = 4
rank BitAnds = 5
rank Equalities = 6
rank Relations = 7
rank Shifts = 8
rank Sums = 9
rank Products = 10

abbrev pub is_of_rank : Level → Option Joint → Bool
is_of_rank l (Some j) = is_given_option (same_level (level_of j) l)
is_of_rank l None = false

-- a joint of the rank, or of one that binds tighter
abbrev pub is_from_rank : Level → Option Joint → Bool
is_from_rank l (Some j) = nat_le (rank l) (rank (level_of j))
is_from_rank l None = false

-- what begins a primary expression
abbrev pub primary_first : Class → Bool
primary_first word = true
primary_first number = true
primary_first character = true
primary_first text = true
primary_first (sign signs.LeftParenthesis) = true
primary_first _ = false

-- what begins an expression
abbrev pub expr_first : Class → Bool
expr_first c = primary_first c || (by_keyword is_sizeof c || by_sign is_prefix c)

abbrev pub spec_first : Class → Bool
spec_first c = is_typedef_name c || by_keyword is_spec_word c

abbrev pub separates : (Token → Bool) → Class → Bool
separates ends c = by_sign is_comma c || by_token ends c

abbrev pub direct_first : Class → Bool
direct_first c = is_plain c || by_sign is_tail c

abbrev pub declarator_first : Class → Bool
declarator_first c = direct_first c || (by_token is_star c || is_typedef_name c)

abbrev pub parameter_first : Class → Bool
parameter_first c = spec_first c || is_plain c

abbrev pub initialiser_first : Class → Bool
initialiser_first c = expr_first c || (by_token is_brace c || by_token begins_designator c)

abbrev pub statement_first : Class → Bool
statement_first c = expr_first c || (by_keyword begins_statement c || (by_token is_brace c || by_token is_semicolon c))

abbrev pub item_first : Class → Bool
item_first c = spec_first c || statement_first c

abbrev pub expr_firsts : ExprPart → Class → Bool
expr_firsts (Run l) c = expr_first c
expr_firsts (More l left) c = by_sign (λ p. is_of_rank l (joint_of_sign p)) c
expr_firsts Assignment c = expr_first c
expr_firsts (Assigned left) c = by_sign is_assigning c
expr_firsts Conditional c = expr_first c
expr_firsts (Chosen condition) c = by_sign is_question c
expr_firsts Cast c = expr_first c
expr_firsts Operand c = expr_first c || by_token is_brace c
expr_firsts Unary c = expr_first c
expr_firsts (Sized at) c = expr_first c
expr_firsts Postfix c = primary_first c
expr_firsts (Suffixes base) c = by_sign is_suffix c
expr_firsts Primary c = primary_first c
expr_firsts (Texts at before) c = is_text c

abbrev pub word_or_brace : Class → Bool
word_or_brace c = is_plain c || (is_typedef_name c || by_token is_brace c)

abbrev pub spec_firsts : SpecPart → Class → Bool
spec_firsts Spec c = spec_first c
spec_firsts (Structure at) c = word_or_brace c
spec_firsts (StructureTagged at tag) c = by_token is_brace c
spec_firsts (Enumeration at) c = word_or_brace c
spec_firsts (EnumerationTagged at tag) c = by_token is_brace c

abbrev pub declarator_firsts : DeclaratorPart → Class → Bool
declarator_firsts (Declarator r) c = declarator_first c
declarator_firsts (Pointed r at is_const) c = declarator_first c || by_token is_const_word c
declarator_firsts (Direct r) c = direct_first c
declarator_firsts (Tails r is_plain d) c = by_sign is_tail c
declarator_firsts (Size r at d) c = expr_first c || by_token is_right_bracket c
declarator_firsts (GroupEnd d) c = by_token is_close c
declarator_firsts (Parameters at d) c = parameter_first c || by_token is_close c
declarator_firsts (MoreParameters at d before) c = separates is_close c

abbrev pub stmt_firsts : StmtPart → Class → Bool
stmt_firsts (Statement b) c = statement_first c
stmt_firsts (Else at condition first) c = by_token is_else_word c && not (ends_open first)

abbrev pub initial_first : Class → Bool
initial_first c = by_token is_assign c || separates is_semicolon c

abbrev pub decl_firsts : DeclPart → Class → Bool
decl_firsts Declaration c = spec_first c
decl_firsts (Declared s) c = declarator_first c || by_token is_semicolon c
decl_firsts (Initial s before d) c = initial_first c
decl_firsts (Ending s before) c = separates is_semicolon c

abbrev pub outer_firsts : OuterPart → Class → Bool
outer_firsts Outer c = spec_first c
outer_firsts (OuterDeclared s) c = declarator_first c || by_token is_semicolon c
outer_firsts (OuterInitial s d) c = initial_first c || by_token is_brace c

-- what may be the first token of a part, and what bears a construct of it
abbrev pub firsts : Part → Class → Bool
firsts (AnExpr p) c = expr_firsts p c
firsts (ASpec p) c = spec_firsts p c
firsts (ADeclarator p) c = declarator_firsts p c
firsts (AStmt p) c = stmt_firsts p c
firsts (ADecl p) c = decl_firsts p c
firsts (AnOuter p) c = outer_firsts p c
firsts (Close p) c = by_token (is_closing p) c
firsts MemberName c = is_plain c || is_typedef_name c
firsts AfterType c = by_token is_brace c
firsts Arguments c = expr_first c || by_token is_close c
firsts (MoreArguments before) c = separates is_close c
firsts Specs c = spec_first c
firsts (MoreSpecs before) c = spec_first c
firsts Members c = spec_first c
firsts (MoreMembers before) c = spec_first c || by_token is_right_brace c
firsts AMember c = spec_first c
firsts (MoreDeclarators s before) c = separates is_semicolon c || by_token is_colon c
firsts Enumerators c = is_plain c
firsts (MoreEnumerators before) c = separates is_right_brace c
firsts (NextEnumerator before) c = is_plain c || by_token is_right_brace c
firsts AnEnumerator c = is_plain c
firsts (EnumeratorValue at name) c = by_token is_assign c
firsts Parameter c = parameter_first c
firsts Initialiser c = initialiser_first c
firsts Initialisers c = initialiser_first c
firsts (MoreInitialisers before) c = separates is_right_brace c
firsts (NextInitialiser before) c = initialiser_first c || by_token is_right_brace c
firsts (Optionally p) c = expr_first c || by_token (is_closing p) c
firsts ForStart c = (expr_first c || by_token is_semicolon c) || spec_first c
firsts (Items before) c = item_first c || by_token is_right_brace c
firsts Item c = item_first c
firsts (Outers before) c = spec_first c

-- what continues a postfix expression; the brace of a compound literal behind the type of a sizeof counts too
abbrev pub suffix_next : Class → Bool
suffix_next c = by_sign is_suffix c || (is_text c || by_token is_brace c)

-- what continues operands and joints of the rank
abbrev pub run_next : Level → Class → Bool
run_next l c = suffix_next c || by_sign (λ p. is_from_rank l (joint_of_sign p)) c

abbrev pub conditional_next : Class → Bool
conditional_next c = run_next Ors c || by_sign is_question c

abbrev pub assignment_next : Class → Bool
assignment_next c = conditional_next c || by_sign is_assigning c

abbrev pub run_nexts : Level → Class → Bool
run_nexts Commas c = assignment_next c || by_sign is_comma c
run_nexts Ors c = run_next Ors c
run_nexts Ands c = run_next Ands c
run_nexts BitOrs c = run_next BitOrs c
run_nexts BitXors c = run_next BitXors c
run_nexts BitAnds c = run_next BitAnds c
run_nexts Equalities c = run_next Equalities c
run_nexts Relations c = run_next Relations c
run_nexts Shifts c = run_next Shifts c
run_nexts Sums c = run_next Sums c
run_nexts Products c = run_next Products c

abbrev pub expr_nexts : ExprPart → Class → Bool
expr_nexts (Run l) c = run_nexts l c
expr_nexts (More l left) c = run_nexts l c
expr_nexts Assignment c = assignment_next c
expr_nexts (Assigned left) c = assignment_next c
expr_nexts Conditional c = conditional_next c
expr_nexts (Chosen condition) c = conditional_next c
expr_nexts Primary c = is_text c
expr_nexts (Texts at before) c = is_text c
expr_nexts Cast c = suffix_next c
expr_nexts Operand c = suffix_next c
expr_nexts Unary c = suffix_next c
expr_nexts (Sized at) c = suffix_next c
expr_nexts Postfix c = suffix_next c
expr_nexts (Suffixes base) c = suffix_next c

abbrev pub direct_next : Class → Bool
direct_next c = by_sign is_tail c || is_plain c

abbrev pub declarator_next : Class → Bool
declarator_next c = direct_next c || (is_typedef_name c || (by_token is_star c || by_token is_const_word c))

abbrev pub declarator_nexts : DeclaratorPart → Class → Bool
declarator_nexts (Declarator r) c = declarator_next c
declarator_nexts (Pointed r at is_const) c = declarator_next c
declarator_nexts (Direct r) c = direct_next c
declarator_nexts (Tails r is_plain d) c = by_sign is_tail c
declarator_nexts (Size r at d) c = false
declarator_nexts (GroupEnd d) c = false
declarator_nexts (Parameters at d) c = false
declarator_nexts (MoreParameters at d before) c = false

-- what may continue a part that could end with the value
abbrev pub nexts : (p : Part) → Value p → Class → Bool
nexts (AnExpr p) v c = expr_nexts p c
nexts (ASpec p) v c = by_token is_brace c
nexts (ADeclarator p) v c = declarator_nexts p c
nexts (AStmt p) v c = by_token is_else_word c && ends_open v
nexts (ADecl p) v c = false
nexts (AnOuter p) v c = false
nexts (Close p) v c = false
nexts MemberName v c = false
nexts AfterType v c = by_token is_brace c
nexts Arguments v c = false
nexts (MoreArguments before) v c = false
nexts Specs v c = by_token is_brace c
nexts (MoreSpecs before) v c = by_token is_brace c
nexts Members v c = false
nexts (MoreMembers before) v c = false
nexts AMember v c = false
nexts (MoreDeclarators s before) v c = false
nexts Enumerators v c = false
nexts (MoreEnumerators before) v c = false
nexts (NextEnumerator before) v c = false
nexts AnEnumerator v c = conditional_next c || by_token is_assign c
nexts (EnumeratorValue at name) v c = conditional_next c || by_token is_assign c
nexts Parameter v c = declarator_next c || by_token is_brace c
nexts Initialiser v c = assignment_next c
nexts Initialisers v c = false
nexts (MoreInitialisers before) v c = false
nexts (NextInitialiser before) v c = false
nexts (Optionally p) v c = false
nexts ForStart v c = false
nexts (Items before) v c = false
nexts Item v c = by_token is_else_word c
nexts (Outers before) v c = false

abbrev pub begins : Begins
begins w p t = firsts p (class_of w t)

abbrev pub continues : Continues
continues w p v t = nexts p v (class_of w t)
