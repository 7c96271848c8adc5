-- The line of typing at each form, as its parts give it.
use Rattle.std.proofs.Common.{◌≡◌, ap, ◌∙◌, ℕ, false, List, [], ◌∷◌, ◌++◌}
use Rattle.std.specs.Prelude.{ℤ, pos, Bool, Option, Some, None, length, if◌then◌else◌, nat_le}
use Rattle.c_syntax_written.specs.declared.place.Pos.{Pos}
use Rattle.c_syntax_written.specs.declared.token.Constant.{Constant}
use Rattle.c_syntax_written.specs.declared.step.StepWay.{StepWay}
use Rattle.c_syntax_written.specs.declared.written.UnaryOp.{UnaryOp}
use Rattle.c_syntax_written.specs.declared.written.BinaryOp.{BinaryOp}
use Rattle.c_syntax_written.specs.declared.written.AssignOp.{AssignOp}
use Rattle.c_syntax_written.specs.declared.written.StorageWord.{StorageWord}
use Rattle.c_syntax_written.specs.declared.written.TypeWord.{TypeWord}
use Rattle.c_syntax_written.specs.declared.written.Tag.{Tag}
use Rattle.c_syntax_written.specs.Written as written
use Rattle.c_syntax_written.specs.Written.{ExprTree, ExprTrees, SpecTree, SpecTrees, MemberDeclTree, MemberDeclTrees, EnumeratorTree, EnumeratorTrees, DeclaratorTree, DeclaratorTrees, ParamTree, ParamTrees}
use Rattle.c_syntax.specs.declared.operator.StepTime.TheVariants as times
use Rattle.c_syntax.specs.TypedExpr.{TExprTrees, none, texprs_then}
use Rattle.c_syntax.specs.Types.{Struct}
use Rattle.c_typing.specs.Declarators.{ParameterTree, Shape, PointerTo, OpenArray, FunctionOf}
use Rattle.c_typing.specs.Names.{meaning_of, struct_named, enum_named}
use Rattle.c_typing.specs.Nodes as nodes
use Rattle.c_typing.specs.Operands.{OperandTree, operand_type}
use Rattle.c_typing.specs.Specifiers.{SpecsTree, SpecPart, StoragePart, ConstPart, WordPart, TypePart, no_specs_yet, with_part}
use Rattle.c_typing.specs.Typing.{Types, TypesArgs, TypesSpecs, TypesSpec, TypesMembers, TypesMemberNames, TypesEnumerators, TypesDeclarator, TypesParams, Valued, OfTypeName, first_of, typedef_named, enumerated, member_made, with_step, MemberMade}
use Rattle.c_typing.specs.World.{World, Form, Plain, Refusal, Outcome, Typed, Refused, Undeclared, Then, Is}
use Rattle.c_check_exprs.specs.Views.{StepForm, StructBody, EnumBody, MemberLine, ConstantForm, ArrayStep, FunctionStep, ParamForm, inside}
use Rattle.c_check_exprs.proofs.Results.{apart, deeper, renamed}

-- ---- expressions

pub word_line : (w : World) (at : Pos) (name : List ℕ) (o : Outcome OperandTree) → o ≡ nodes.word w at name → Types w (written.Word at name) o
unfolding Types
word_line w at name o p = p

pub number_line : (w : World) (at : Pos) (c : Constant) (o : Outcome OperandTree)
    → o ≡ (if nat_le c.longs 2 then nodes.number w at c else Refused (Undeclared at)) → Types w (written.Number at c) o
unfolding Types
number_line w at c o p = p

pub character_line : (w : World) (at : Pos) (byte : ℕ) (o : Outcome OperandTree) → o ≡ nodes.character w at byte → Types w (written.Character at byte) o
unfolding Types
character_line w at byte o p = p

pub strings_line : (w : World) (at : Pos) (bytes : List ℕ) (o : Outcome OperandTree) → o ≡ nodes.literal w at bytes → Types w (written.Strings at bytes) o
unfolding Types
strings_line w at bytes o p = p

pub enclosed_line : (w : World) (at : Pos) (a : ExprTree) (o : Outcome OperandTree) → Types w a o → Types w (written.Enclosed at a) o
unfolding Types
enclosed_line w at a o p = p

pub index_line : (w : World) (at : Pos) (a b : ExprTree) (o : Outcome OperandTree)
    → Then (Valued (Types w a)) (λ x w1. Then (Valued (Types w1 b)) (λ y w2. Is (nodes.indexed w2 at x y))) o → Types w (written.Index at a b) o
unfolding Types
index_line w at a b o p = p

pub call_line : (w : World) (at : Pos) (name : List ℕ) (args : ExprTrees) (o : Outcome OperandTree)
    → Then (TypesArgs w none args) (λ values w1. Is (nodes.called w1 at name values)) o → Types w (written.Call at name args) o
unfolding Types
call_line w at name args o p = p

pub dot_line : (w : World) (at : Pos) (a : ExprTree) (name : List ℕ) (o : Outcome OperandTree)
    → Then (Types w a) (λ x w1. Is (nodes.member w1 at name x)) o → Types w (written.Dot at a name) o
unfolding Types
dot_line w at a name o p = p

pub arrow_line : (w : World) (at : Pos) (a : ExprTree) (name : List ℕ) (o : Outcome OperandTree)
    → Then (Valued (Types w a)) (λ x w1. Is (nodes.arrow w1 at name x)) o → Types w (written.Arrow at a name) o
unfolding Types
arrow_line w at a name o p = p

pub post_step_line : (w : World) (at : Pos) (way : StepWay) (a : ExprTree) (o : Outcome OperandTree) → StepForm w at times.After way a o
    → Types w (written.PostStep at way a) o
unfolding Types
post_step_line w at way a o p = p

pub pre_step_line : (w : World) (at : Pos) (way : StepWay) (a : ExprTree) (o : Outcome OperandTree) → StepForm w at times.Before way a o
    → Types w (written.PreStep at way a) o
unfolding Types
pre_step_line w at way a o p = p

pub unary_line : (w : World) (at : Pos) (op : UnaryOp) (a : ExprTree) (o : Outcome OperandTree)
    → Then (Types w a) (λ x w1. Is (nodes.unary w1 at op x)) o → Types w (written.Unary at op a) o
unfolding Types
unary_line w at op a o p = p

pub size_line : (w : World) (at : Pos) (a : ExprTree) (o : Outcome OperandTree)
    → Then (Types w a) (λ x w1. Is (nodes.size_of w1 at (operand_type x))) o → Types w (written.SizeofExpr at a) o
unfolding Types
size_line w at a o p = p

pub type_size_line : (w : World) (at : Pos) (specs : SpecTrees) (declarator : DeclaratorTree) (o : Outcome OperandTree)
    → Then (OfTypeName (first_of at specs) (TypesSpecs w false no_specs_yet specs) (λ v. TypesDeclarator v declarator))
    (λ form w1. Is (nodes.size_of_form w1 at form)) o → Types w (written.SizeofType at specs declarator) o
unfolding Types
type_size_line w at specs declarator o p = p

pub cast_line : (w : World) (at : Pos) (specs : SpecTrees) (declarator : DeclaratorTree) (a : ExprTree) (o : Outcome OperandTree)
    → Then (OfTypeName (first_of at specs) (TypesSpecs w false no_specs_yet specs) (λ v. TypesDeclarator v declarator))
    (λ form w1. Then (Valued (Types w1 a)) (λ x w2. Is (nodes.cast w2 at form x))) o → Types w (written.Cast at specs declarator a) o
unfolding Types
cast_line w at specs declarator a o p = p

pub binary_line : (w : World) (at : Pos) (op : BinaryOp) (a b : ExprTree) (o : Outcome OperandTree)
    → Then (Valued (Types w a)) (λ x w1. Then (Valued (Types w1 b)) (λ y w2. Is (nodes.binary w2 at op x y))) o → Types w (written.Binary at op a b) o
unfolding Types
binary_line w at op a b o p = p

pub cond_line : (w : World) (at : Pos) (c a b : ExprTree) (o : Outcome OperandTree)
    → Then (Valued (Types w c)) (λ z w1. Then (Valued (Types w1 a)) (λ x w2. Then (Valued (Types w2 b))
    (λ y w3. Is (nodes.conditional w3 at z x y)))) o → Types w (written.Cond at c a b) o
unfolding Types
cond_line w at c a b o p = p

pub assign_line : (w : World) (at : Pos) (a b : ExprTree) (o : Outcome OperandTree)
    → Then (Types w a) (λ x w1. Then (Valued (Types w1 b)) (λ y w2. Is (nodes.assigned w2 at x y))) o → Types w (written.Assign at a b) o
unfolding Types
assign_line w at a b o p = p

pub compound_line : (w : World) (at : Pos) (op : AssignOp) (a b : ExprTree) (o : Outcome OperandTree)
    → Then (Types w a) (λ x w1. Then (Valued (Types w1 b)) (λ y w2. Is (nodes.compound w2 at op x y))) o → Types w (written.Compound at op a b) o
unfolding Types
compound_line w at op a b o p = p

pub comma_line : (w : World) (at : Pos) (a b : ExprTree) (o : Outcome OperandTree)
    → Then (Valued (Types w a)) (λ x w1. Then (Valued (Types w1 b)) (λ y w2. Is (nodes.sequenced w2 at x y))) o → Types w (written.Comma at a b) o
unfolding Types
comma_line w at a b o p = p

pub no_args_line : (w : World) (done : TExprTrees) (o : Outcome TExprTrees) → o ≡ Typed done w → TypesArgs w done written.no_exprs o
unfolding TypesArgs
no_args_line w done o p = p

pub args_line : (w : World) (done : TExprTrees) (e : ExprTree) (rest : ExprTrees) (o : Outcome TExprTrees)
    → Then (Valued (Types w e)) (λ x w1. TypesArgs w1 (texprs_then done x) rest) o → TypesArgs w done (written.more_exprs e rest) o
unfolding TypesArgs
args_line w done e rest o p = p

-- ---- specs

pub no_specs_line : (w : World) (alone : Bool) (done : SpecsTree) (o : Outcome SpecsTree) → o ≡ Typed done w → TypesSpecs w alone done written.no_specs o
unfolding TypesSpecs
no_specs_line w alone done o p = p

pub specs_line : (w : World) (alone : Bool) (done : SpecsTree) (spec : SpecTree) (rest : SpecTrees) (o : Outcome SpecsTree)
    → Then (TypesSpec w alone spec) (λ part w1. TypesSpecs w1 alone (with_part done part) rest) o → TypesSpecs w alone done (written.more_specs spec rest) o
unfolding TypesSpecs
specs_line w alone done spec rest o p = p

pub storage_line : (w : World) (alone : Bool) (at : Pos) (word : StorageWord) (o : Outcome SpecPart) → o ≡ Typed (StoragePart word) w
    → TypesSpec w alone (written.Storage at word) o
unfolding TypesSpec
storage_line w alone at word o p = p

pub const_line : (w : World) (alone : Bool) (at : Pos) (o : Outcome SpecPart) → o ≡ Typed ConstPart w → TypesSpec w alone (written.Const at) o
unfolding TypesSpec
const_line w alone at o p = p

pub basic_line : (w : World) (alone : Bool) (at : Pos) (word : TypeWord) (o : Outcome SpecPart) → o ≡ Typed (WordPart word) w
    → TypesSpec w alone (written.Basic at word) o
unfolding TypesSpec
basic_line w alone at word o p = p

pub typedef_line : (w : World) (alone : Bool) (at : Pos) (name : List ℕ) (o : Outcome SpecPart) → o ≡ typedef_named w at (meaning_of w name)
    → TypesSpec w alone (written.TypedefName at name) o
unfolding TypesSpec
typedef_line w alone at name o p = p

pub struct_line : (w : World) (alone : Bool) (at : Pos) (tag : Tag) (o : Outcome SpecPart)
    → Then (Is (struct_named w alone tag)) (λ n w1. Is (Typed (TypePart (Plain (Struct n) false)) w1)) o → TypesSpec w alone (written.Struct at tag) o
unfolding TypesSpec
struct_line w alone at tag o p = p

pub enum_line : (w : World) (alone : Bool) (at : Pos) (tag : Tag) (o : Outcome SpecPart)
    → Then (Is (enum_named w tag)) (λ unit w1. Is (Typed enumerated w1)) o → TypesSpec w alone (written.Enum at tag) o
unfolding TypesSpec
enum_line w alone at tag o p = p

pub struct_body_line : (w : World) (alone : Bool) (at : Pos) (tag : Option Tag) (members : MemberDeclTrees) (o : Outcome SpecPart)
    → StructBody w tag members o → TypesSpec w alone (written.StructBody at tag members) o
unfolding TypesSpec
struct_body_line w alone at tag members o p = p

pub enum_body_line : (w : World) (alone : Bool) (at : Pos) (tag : Option Tag) (list : EnumeratorTrees) (o : Outcome SpecPart)
    → EnumBody w tag list o → TypesSpec w alone (written.EnumBody at tag list) o
unfolding TypesSpec
enum_body_line w alone at tag list o p = p

-- ---- members and enumerators

pub no_members_line : (w : World) (done : List MemberMade) (o : Outcome (List MemberMade)) → o ≡ Typed done w → TypesMembers w done written.no_members o
unfolding TypesMembers
no_members_line w done o p = p

pub members_line : (w : World) (done : List MemberMade) (line : MemberDeclTree) (rest : MemberDeclTrees) (o : Outcome (List MemberMade))
    → Then (MemberLine w done line) (λ members w1. TypesMembers w1 members rest) o → TypesMembers w done (written.more_members line rest) o
unfolding TypesMembers
members_line w done (written.Members at specs declarators) rest o p = deeper p

pub no_names_line : (w : World) (first : Pos) (base : Form) (done : List MemberMade) (o : Outcome (List MemberMade))
    → o ≡ Typed done w → TypesMemberNames w first base done written.no_declarators o
unfolding TypesMemberNames
no_names_line w first base done o p = p

pub names_line : (w : World) (first : Pos) (base : Form) (done : List MemberMade) (declarator : DeclaratorTree) (rest : DeclaratorTrees) (o : Outcome
    (List MemberMade))
    → Then (TypesDeclarator w declarator) (λ shape w1. Then (Is (member_made w1 first base done shape))
    (λ members w2. TypesMemberNames w2 first base members rest)) o
    → TypesMemberNames w first base done (written.more_declarators declarator rest) o
unfolding TypesMemberNames
names_line w first base done declarator rest o p = p

pub no_enumerators_line : (w : World) (next : ℤ) (o : Outcome ℤ) → o ≡ Typed next w → TypesEnumerators w next written.no_enumerators o
unfolding TypesEnumerators
no_enumerators_line w next o p = p

pub enumerators_line : (w : World) (next : ℤ) (item : EnumeratorTree) (rest : EnumeratorTrees) (o : Outcome ℤ)
    → Then (ConstantForm w next item) (λ n w1. TypesEnumerators w1 n rest) o → TypesEnumerators w next (written.more_enumerators item rest) o
unfolding TypesEnumerators
enumerators_line w next (written.Plain at name) rest o p = p
enumerators_line w next (written.Valued at name value) rest o p = apart p

-- ---- declarators and parameters

-- what is typed of an absent declarator
pub absent_line : (w v : World) (shape : Shape) → TypesDeclarator w written.Absent (Typed shape v)
    → Typed shape v ≡ Typed (record { name = None; steps = [] }) w
unfolding TypesDeclarator
absent_line w v shape p = p

pub absent_goes : (w : World) (r : Refusal) → TypesDeclarator w written.Absent (Refused r) → ⊥
unfolding TypesDeclarator
absent_goes w r p = cc

pub nothing_line : (w : World) (o : Outcome Shape) → o ≡ Typed (record { name = None; steps = [] }) w → TypesDeclarator w written.Absent o
unfolding TypesDeclarator
nothing_line w o p = p

pub name_line : (w v : World) (at : Pos) (name : List ℕ) (shape : Shape) (o : Outcome Shape) → TypesDeclarator w written.Absent (Typed shape v)
    → o ≡ Typed (record shape { name = Some (record { name = name; pos = at }) }) v → TypesDeclarator w (written.Name at name) o
unfolding TypesDeclarator
name_line w v at name shape o p e = e ∙ ap (renamed (Some (record { name = name; pos = at }))) p

pub grouped_line : (w : World) (at : Pos) (d : DeclaratorTree) (o : Outcome Shape) → TypesDeclarator w d o → TypesDeclarator w (written.Grouped at d) o
unfolding TypesDeclarator
grouped_line w at d o p = p

pub pointer_line : (w : World) (at : Pos) (is_const : Bool) (d : DeclaratorTree) (o : Outcome Shape)
    → Then (TypesDeclarator w d) (λ shape w1. Is (Typed (with_step shape (PointerTo is_const)) w1)) o → TypesDeclarator w (written.Pointer at is_const d) o
unfolding TypesDeclarator
pointer_line w at is_const d o p = p

pub array_line : (w : World) (at : Pos) (d : DeclaratorTree) (size : ExprTree) (o : Outcome Shape)
    → Then (TypesDeclarator w d) (λ shape w1. ArrayStep w1 shape size) o → TypesDeclarator w (written.Array at d size) o
unfolding TypesDeclarator
array_line w at d size o p = p

pub open_array_line : (w : World) (at : Pos) (d : DeclaratorTree) (o : Outcome Shape)
    → Then (TypesDeclarator w d) (λ shape w1. Is (Typed (with_step shape OpenArray) w1)) o → TypesDeclarator w (written.OpenArray at d) o
unfolding TypesDeclarator
open_array_line w at d o p = p

pub function_line : (w : World) (at : Pos) (d : DeclaratorTree) (params : ParamTrees) (o : Outcome Shape)
    → Then (TypesDeclarator w d) (λ shape w1. FunctionStep w1 shape params) o → TypesDeclarator w (written.Function at d params) o
unfolding TypesDeclarator
function_line w at d params o p = p

pub void_function_line : (w : World) (at : Pos) (d : DeclaratorTree) (o : Outcome Shape)
    → Then (TypesDeclarator w d) (λ shape w1. Is (Typed (with_step shape (FunctionOf [] [] [])) w1)) o → TypesDeclarator w (written.VoidFunction at d) o
unfolding TypesDeclarator
void_function_line w at d o p = p

pub no_params_line : (w : World) (done : List ParameterTree) (o : Outcome (List ParameterTree)) → o ≡ Typed done w → TypesParams w done written.no_params o
unfolding TypesParams
no_params_line w done o p = p

pub params_line : (w : World) (done : List ParameterTree) (item : ParamTree) (rest : ParamTrees) (o : Outcome (List ParameterTree))
    → Then (ParamForm w (length done) item) (λ param w1. TypesParams w1 (done ++ param ∷ []) rest) o → TypesParams w done (written.more_params item rest) o
unfolding TypesParams
params_line w done (written.Named at specs declarator) rest o p = p
params_line w done (written.Abstract at specs declarator) rest o p = p
