-- The parts of a file: the nonterminals of the grammar (C11 6.5 to 6.9), and what each stands for.
-- A repetition is a part of its own, with what was read before it.
use Rattle.std.specs.Prelude.{ℕ, Bool, List, Option}
use Rattle.c_syntax_written.specs.declared.place.Pos.{Pos}
use Rattle.c_syntax_written.specs.declared.written.Tag.{Tag}
use Rattle.c_grammar.specs.declared.parts.Setting.{Setting}
use Rattle.c_grammar.specs.declared.parts.Setting.TheVariants.{InBlock, InSwitch}
use Rattle.c_grammar.specs.declared.parts.Level.{Level}
use Rattle.c_grammar.specs.declared.parts.Role.{Role}
use Rattle.c_grammar.specs.declared.parts.Closing.{Closing}
use Rattle.c_syntax_written.specs.Written.{ExprTree, ExprTrees, SpecTree, SpecTrees, DeclaratorTree, DeclaratorTrees, MemberDeclTree, MemberDeclTrees, EnumeratorTree, EnumeratorTrees, ParamTree, ParamTrees}
use Rattle.c_syntax_written.specs.WrittenDecl.{InitTree, InitTrees, InitDeclaratorTree, DeclTree}
use Rattle.c_syntax_written.specs.WrittenFile.{StmtTree, BlockItemTree, BlockItemTrees, ForStartTree, OuterTree}

-- the typedef names in force, and where a token stands
pub record Scene : Type 0 where
  pub types : List (List ℕ)
  pub setting : Setting

-- the same names in a block
abbrev pub within : Scene → Scene
within w = record { types = w.types; setting = InBlock }

-- the same names in the block of a switch
abbrev pub switched : Scene → Scene
switched w = record { types = w.types; setting = InSwitch }

pub data ExprPart : Type 0 where
  -- operands of a rank, and joints between them
  Run : Level → ExprPart
  -- further joints and operands
  More : Level → ExprTree → ExprPart
  Assignment : ExprPart
  -- an assignment's operator and right side, where there are any
  Assigned : ExprTree → ExprPart
  Conditional : ExprPart
  -- `?` and what follows it, where there is one
  Chosen : ExprTree → ExprPart
  Cast : ExprPart
  -- what is cast
  Operand : ExprPart
  Unary : ExprPart
  -- what follows `sizeof`
  Sized : Pos → ExprPart
  Postfix : ExprPart
  -- further postfix forms
  Suffixes : ExprTree → ExprPart
  Primary : ExprPart
  -- further strings
  Texts : Pos → List ℕ → ExprPart

pub data SpecPart : Type 0 where
  Spec : SpecPart
  -- what follows `struct`
  Structure : Pos → SpecPart
  -- braces after a struct's tag, where there are any
  StructureTagged : Pos → Tag → SpecPart
  -- what follows `enum`
  Enumeration : Pos → SpecPart
  -- braces after an enumeration's tag, where there are any
  EnumerationTagged : Pos → Tag → SpecPart

pub data DeclaratorPart : Type 0 where
  Declarator : Role → DeclaratorPart
  -- what follows `*`, with a const or without
  Pointed : Role → Pos → Bool → DeclaratorPart
  Direct : Role → DeclaratorPart
  -- brackets and parameters behind a declarator, which may be a word alone
  Tails : Role → Bool → DeclaratorTree → DeclaratorPart
  -- what follows `[`
  Size : Role → Pos → DeclaratorTree → DeclaratorPart
  -- the `)` behind a declarator that stands in parentheses
  GroupEnd : DeclaratorTree → DeclaratorPart
  -- what follows the `(` of parameters
  Parameters : Pos → DeclaratorTree → DeclaratorPart
  MoreParameters : Pos → DeclaratorTree → ParamTrees → DeclaratorPart

pub data StmtPart : Type 0 where
  -- a statement, which may be that of a switch
  Statement : Bool → StmtPart
  -- else and its statement, where there is one
  Else : Pos → ExprTree → StmtTree → StmtPart

pub data DeclPart : Type 0 where
  -- a declaration in a block or a for
  Declaration : DeclPart
  -- what follows the specs
  Declared : SpecTrees → DeclPart
  -- what follows a declarator
  Initial : SpecTrees → List InitDeclaratorTree → DeclaratorTree → DeclPart
  -- what follows a declarator and its initialiser
  Ending : SpecTrees → List InitDeclaratorTree → DeclPart

pub data OuterPart : Type 0 where
  Outer : OuterPart
  -- what follows the specs
  OuterDeclared : SpecTrees → OuterPart
  -- what follows the first declarator
  OuterInitial : SpecTrees → DeclaratorTree → OuterPart

pub data Part : Type 0 where
  AnExpr : ExprPart → Part
  ASpec : SpecPart → Part
  ADeclarator : DeclaratorPart → Part
  AStmt : StmtPart → Part
  ADecl : DeclPart → Part
  AnOuter : OuterPart → Part
  -- what ends an expression or a type name, where a form stays open up to it
  Close : Closing → Part
  -- the name of a member, behind `.` or `->`
  MemberName : Part
  -- what follows the type name of a sizeof: nothing
  AfterType : Part
  -- what follows the `(` of a call
  Arguments : Part
  MoreArguments : ExprTrees → Part
  Specs : Part
  MoreSpecs : SpecTrees → Part
  -- what follows the `{` of a struct
  Members : Part
  MoreMembers : MemberDeclTrees → Part
  AMember : Part
  MoreDeclarators : SpecTrees → DeclaratorTrees → Part
  -- what follows the `{` of an enumeration
  Enumerators : Part
  MoreEnumerators : EnumeratorTrees → Part
  -- what follows the comma after an enumerator
  NextEnumerator : EnumeratorTrees → Part
  AnEnumerator : Part
  -- the value of an enumerator, where it is given
  EnumeratorValue : Pos → List ℕ → Part
  Parameter : Part
  Initialiser : Part
  -- what follows the `{` of an initialiser
  Initialisers : Part
  MoreInitialisers : InitTrees → Part
  -- what follows the comma after an initialiser
  NextInitialiser : InitTrees → Part
  -- an expression or nothing, and what ends it
  Optionally : Closing → Part
  -- what follows the `(` of a for, up to its first `;`
  ForStart : Part
  -- what follows the `{` of a block
  Items : BlockItemTrees → Part
  Item : Part
  -- the rest of a file
  Outers : List OuterTree → Part

-- what a part stands for
abbrev pub Value : Part → Type 0
Value (AnExpr p) = ExprTree
Value (ASpec p) = SpecTree
Value (ADeclarator p) = DeclaratorTree
Value (AStmt p) = StmtTree
Value (ADecl p) = DeclTree
Value (AnOuter p) = OuterTree
Value (Close p) = Unit {0}
Value MemberName = List ℕ
Value AfterType = Unit {0}
Value Arguments = ExprTrees
Value (MoreArguments before) = ExprTrees
Value Specs = SpecTrees
Value (MoreSpecs before) = SpecTrees
Value Members = MemberDeclTrees
Value (MoreMembers before) = MemberDeclTrees
Value AMember = MemberDeclTree
Value (MoreDeclarators specs before) = MemberDeclTree
Value Enumerators = EnumeratorTrees
Value (MoreEnumerators before) = EnumeratorTrees
Value (NextEnumerator before) = EnumeratorTrees
Value AnEnumerator = EnumeratorTree
Value (EnumeratorValue at name) = EnumeratorTree
Value Parameter = ParamTree
Value Initialiser = InitTree
Value Initialisers = InitTrees
Value (MoreInitialisers before) = InitTrees
Value (NextInitialiser before) = InitTrees
Value (Optionally p) = Option ExprTree
Value ForStart = ForStartTree
Value (Items before) = BlockItemTrees
Value Item = BlockItemTree
Value (Outers before) = List OuterTree
