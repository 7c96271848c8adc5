-- Expressions, specs and declarators leave the cases as they were, form by form.
use Rattle.std.proofs.Common.{refl, ◌∙◌}
use Rattle.std.specs.Prelude.{ℕ, ℤ, pos, negsuc, Bool, Option, Some, None, List, [], length, nat_lt, ◌+◌, ◌^◌, ◌||◌}
use Rattle.c_syntax_written.specs.declared.place.Pos.{Pos}
use Rattle.c_syntax_written.specs.declared.written.Tag.{Tag}
use Rattle.c_syntax_written.specs.Written as written
use Rattle.c_syntax_written.specs.WrittenParts.{expr_pos}
use Rattle.c_syntax.specs.Types.{CTypeTree, Void, Int, Pointer, Array, Struct, Function}
use Rattle.c_syntax_written.specs.declared.construct.Construct.TheVariants as constructs
use Rattle.c_syntax.specs.declared.op.Op.TheVariants as ops
use Rattle.c_layout.specs.RowTypes.{has_const_elements}
use Rattle.c_typing.specs.Constants.{constant_value}
use Rattle.c_typing.specs.Declarators as declarators
use Rattle.c_typing.specs.Declarators.{DeclaredName, ParameterTree, Shape, laid}
use Rattle.c_typing.specs.Names as names
use Rattle.c_typing.specs.Operands.{OperandTree, complete_size}
use Rattle.c_typing.specs.Specifiers as specifiers
use Rattle.c_typing.specs.Typing as typing
use Rattle.c_typing.specs.Typing.{Types, TypesArgs, TypesSpecs, TypesSpec, TypesMembers, TypesMemberNames, TypesEnumerators, TypesDeclarator, TypesParams, Valued, OfTypeName, OfParameter, MemberMade}
use Rattle.c_typing.specs.World.{World, Form, Plain, Unsized, Callable, Meaning, Object, Missing, Parameter, TypeName, Enumeration, TagMeaning, StructTag, EnumTag, OpenEnumTag, TagBinding, Refusal, Outcome, Typed, Refused, Then}
use Rattle.c_typing.specs.World as world
use Rattle.c_typing.proofs.NodesGo as nodes_go
use Rattle.c_typing.proofs.Reaches.{goes_if, goes_same, refused}
use Rattle.c_typing.proofs.TypesGo as types_go
use Rattle.c_check_stmts.specs.CaseLaws.{ExpressionsLeaveCases}
use Rattle.c_check_stmts.proofs.Leaving.{Keeps, keeps, stopped, kept, keeps_all, by_goes, keeps_if, keeps_unless, keeps_declared, AllKeep, then_keeps, is_keeps, is_goes, scope_keeps}

-- ---- tags

new_struct : (w : World) (tag : Tag) (defined : Option Pos) → Keeps w (names.new_struct w tag defined)
new_struct w tag defined = keeps (record { cases = refl; default = refl })

from_outside : (w : World) (alone : Bool) (tag : Tag) (m : Option TagMeaning) → Keeps w (names.struct_from_outside w alone tag m)
from_outside w alone tag None = new_struct w tag None
from_outside w alone tag (Some (StructTag n)) = keeps_if alone (new_struct w tag None) keeps_all
from_outside w alone tag (Some EnumTag) = new_struct w tag None
from_outside w alone tag (Some OpenEnumTag) = new_struct w tag None

here : (w : World) (tag : Tag) (b : TagBinding) (m : TagMeaning) → Keeps w (names.struct_here w tag b m)
here w tag b (StructTag n) = keeps_all
here w tag b EnumTag = stopped
here w tag b OpenEnumTag = stopped

found : (w : World) (alone : Bool) (tag : Tag) (b : Option TagBinding) → Keeps w (names.struct_found w alone tag b)
found w alone tag None = from_outside w alone tag _
found w alone tag (Some b) = here w tag b _

struct_defined : (w : World) (tag : Tag) (n : ℕ) (before : Option Pos) → Keeps w (names.struct_defined w tag n before)
struct_defined w tag n None = keeps (record { cases = refl; default = refl })
struct_defined w tag n (Some first) = stopped

begun : (w : World) (tag : Tag) (b : TagBinding) (m : TagMeaning) → Keeps w (names.struct_begun w tag b m)
begun w tag b (StructTag n) = struct_defined w tag n _
begun w tag b EnumTag = stopped
begun w tag b OpenEnumTag = stopped

begins : (w : World) (tag : Tag) (b : Option TagBinding) → Keeps w (names.struct_begins w tag b)
begins w tag None = new_struct w tag _
begins w tag (Some b) = begun w tag b _

struct_opened : (w : World) (tag : Option Tag) → Keeps w (names.struct_opened w tag)
struct_opened w None = keeps (record { cases = refl; default = refl })
struct_opened w (Some tag) = begins w tag _

enum_closed : {A : Type 0} {a : A} (w : World) (tag : Option Tag) → Keeps w (Typed a (names.enum_closed w tag))
enum_closed w None = keeps_all
enum_closed w (Some tag) = keeps (record { cases = refl; default = refl })

-- ---- types

typedef_named : (w : World) (at : Pos) (m : Option Meaning) → Keeps w (typing.typedef_named w at m)
typedef_named w at None = stopped
typedef_named w at (Some (Object n)) = stopped
typedef_named w at (Some (Missing ty c)) = stopped
typedef_named w at (Some (Parameter k ty c)) = stopped
typedef_named w at (Some (world.Function n)) = stopped
typedef_named w at (Some (TypeName form)) = keeps_all
typedef_named w at (Some (Enumeration n)) = stopped

sized_name : {w : World} (first : Pos) (o : Outcome Form) → Keeps w o → Keeps w (typing.sized_name first o)
sized_name first (Typed (Plain ty c) v) p = p
sized_name first (Typed (Unsized ty c) v) p = stopped
sized_name first (Typed (Callable params result) v) p = p
sized_name first (Refused r) p = p

unnamed : {w : World} (name : Option DeclaredName) (o : Outcome Form) → Keeps w o → Keeps w (typing.unnamed name o)
unnamed None o p = p
unnamed (Some named) o p = stopped

type_name : (w : World) (first : Pos) (base : Form) (shape : Shape) → Keeps w (typing.type_name w first base shape)
type_name w first base shape = unnamed shape.name _ (sized_name first _ (by_goes (types_go.laid w first shape.steps base)))

array_sized : (w : World) (at : Pos) (shape : Shape) (n : Option ℤ) → Keeps w (typing.array_sized w at shape n)
array_sized w at shape None = stopped
array_sized w at shape (Some (pos n)) = keeps_if (nat_lt 0 n) keeps_all stopped
array_sized w at shape (Some (negsuc n)) = stopped

if_sized : {A : Type 0} {w : World} (r : Refusal) (outcome : ℕ → Outcome A) (size : Option ℕ) → ((n : ℕ) → Keeps w (outcome n))
    → Keeps w (declarators.if_sized r outcome size)
if_sized r outcome None f = stopped
if_sized r outcome (Some n) f = f n

-- ---- members

member_of : (w : World) (named : DeclaredName) (form : Form) (done : List MemberMade) → Keeps w (typing.member_of w named form done)
member_of w named (Plain ty is_const) done =
    if_sized (world.no_rule w named.pos ops.Init ty None) (typing.member_sized w named ty is_const done) (complete_size w.structs ty) (λ size.
    keeps_declared named.pos (typing.member_named done named.name)
    (keeps_unless (nat_lt (2 ^ 40) (typing.next_offset w done ty + size)) (world.ObjectTooLarge named.pos (2 ^ 40))
    (keeps_unless (is_const || has_const_elements ty) (world.Unsupported named.pos constructs.ConstMember) (keeps_all {a = typing.with_member w named ty done}))))
member_of w named (Unsized of is_const) done = stopped
member_of w named (Callable params result) done = stopped

behind : {A B : Type 0} {w v : World} {a : A} {o : Outcome B} → Keeps w (Typed a v) → Keeps v o → Keeps w o
behind (keeps h) (keeps g) = keeps (record { cases = g.cases ∙ h.cases; default = g.default ∙ h.default })
behind (keeps h) stopped = stopped

member_laid : {w : World} (named : DeclaredName) (done : List MemberMade) (o : Outcome Form) → Keeps w o → Keeps w (typing.member_laid named done o)
member_laid named done (Typed form v) p = behind p (member_of v named form done)
member_laid named done (Refused r) p = stopped

with_its_name : {A : Type 0} {w : World} (first : Pos) (name : Option DeclaredName) (outcome : DeclaredName → Outcome A) → ((named : DeclaredName) → Keeps w (outcome named))
    → Keeps w (typing.with_its_name first name outcome)
with_its_name first None outcome f = stopped
with_its_name first (Some named) outcome f = f named

member_made : (w : World) (first : Pos) (base : Form) (done : List MemberMade) (shape : Shape) → Keeps w (typing.member_made w first base done shape)
member_made w first base done shape =
    with_its_name first shape.name _ (λ named. member_laid named done _ (by_goes (types_go.laid w named.pos shape.steps base)))

-- ---- parameters

unless_named : {A : Type 0} (w : World) (named : Option DeclaredName) {o : Outcome A} → Keeps w o → Keeps w (typing.unless_named_before w named o)
unless_named w None p = p
unless_named w (Some named) p = keeps_declared _ _ p

with_parameter : {A : Type 0} {a : A} (w : World) (named : Option DeclaredName) (meaning : Meaning) → Keeps w (Typed a (typing.with_parameter w named meaning))
with_parameter w None meaning = keeps_all
with_parameter w (Some named) meaning = keeps (record { cases = refl; default = refl })

parameter_sized : (w : World) (at : Pos) (named : Option DeclaredName) (k : ℕ) (ty : CTypeTree) (c : Bool) → Keeps w (typing.parameter_sized w at named k ty c)
parameter_sized w at named k (Struct n) c = unless_named w named stopped
parameter_sized w at named k Void c = unless_named w named (with_parameter w named _)
parameter_sized w at named k (Int t) c = unless_named w named (with_parameter w named _)
parameter_sized w at named k (Pointer ty d) c = unless_named w named (with_parameter w named _)
parameter_sized w at named k (Array ty d n) c = unless_named w named (with_parameter w named _)
parameter_sized w at named k (Function n) c = unless_named w named (with_parameter w named _)

parameter_of : (w : World) (at : Pos) (named : Option DeclaredName) (k : ℕ) (form : Form) → Keeps w (typing.parameter_of w at named k form)
parameter_of w at named k (Plain ty c) = if_sized _ _ _ (λ size. parameter_sized w at named k ty c)
parameter_of w at named k (Unsized ty c) = unless_named w named stopped
parameter_of w at named k (Callable params result) = unless_named w named stopped

parameter_laid : {w : World} (at : Pos) (named : Option DeclaredName) (k : ℕ) (o : Outcome Form) → Keeps w o → Keeps w (typing.parameter_laid at named k o)
parameter_laid at named k (Typed form v) p = behind p (parameter_of v at named k (declarators.parameter_type form))
parameter_laid at named k (Refused r) p = stopped

parameter_made : (w : World) (first : Pos) (base : Form) (k : ℕ) (shape : Shape) → Keeps w (typing.parameter_made w first base k shape)
parameter_made w first base k shape =
    parameter_laid (declarators.place_of first shape) shape.name k (laid w (declarators.place_of first shape) shape.steps base)
    (by_goes (types_go.laid w (declarators.place_of first shape) shape.steps base))

-- ---- all forms

valued : {w : World} {types : Outcome OperandTree → Type 0} → AllKeep w types → AllKeep w (Valued types)
valued f = then_keeps f (λ x v. is_keeps keeps_all)

of_type_name : {w : World} {first : Pos} {specs : Outcome specifiers.SpecsTree → Type 0} {declarator : World → Outcome Shape → Type 0}
    → AllKeep w specs → ((v : World) → AllKeep v (declarator v)) → AllKeep w (OfTypeName first specs declarator)
of_type_name {first = first} f g =
    then_keeps f (λ s v. then_keeps (is_goes (types_go.type_told specifiers.OfPlainType first s v)) (λ base v2. then_keeps (g v2) (λ shape v3. is_keeps (type_name v3 first base shape))))

of_parameter : (k : ℕ) (first : Pos) {w : World} {specs : Outcome specifiers.SpecsTree → Type 0} {declarator : World → Outcome Shape → Type 0}
    → AllKeep w specs → ((v : World) → AllKeep v (declarator v)) → AllKeep w (OfParameter k first specs declarator)
of_parameter k first f g =
    then_keeps f (λ s v. then_keeps (is_goes (types_go.type_told specifiers.OfParameter first s v)) (λ base v2.
    then_keeps (g v2) (λ shape v3. is_keeps (parameter_made v3 first base k shape))))

mutual
  unfolding Types TypesArgs TypesSpecs TypesSpec TypesMembers TypesMemberNames TypesEnumerators TypesDeclarator TypesParams

  expression : (w : World) (e : written.ExprTree) → AllKeep w (Types w e)
  expression w (written.Word at name) = is_goes (nodes_go.word w at name)
  expression w (written.Number at c) = is_goes (goes_if _ (nodes_go.given _ _ w) refused)
  expression w (written.Character at byte) = is_goes goes_same
  expression w (written.Strings at bytes) = is_goes (nodes_go.literal_node w at bytes)
  expression w (written.Enclosed at e) = expression w e
  expression w (written.Index at a b) = then_keeps (valued (expression w a)) (λ x v. then_keeps (valued (expression v b)) (λ y v2. is_goes (nodes_go.given_place _ _ v2)))
  expression w (written.Call at name args) = then_keeps (arguments w _ args) (λ values v. is_goes (nodes_go.called_or_read v at name values _))
  expression w (written.Dot at a member) = then_keeps (expression w a) (λ x v. is_goes (nodes_go.member v at member x))
  expression w (written.Arrow at a member) = then_keeps (valued (expression w a)) (λ x v. is_goes (nodes_go.given_place _ _ v))
  expression w (written.PostStep at way a) = then_keeps (expression w a) (λ x v. is_goes (nodes_go.changed _ at x _ _ v))
  expression w (written.PreStep at way a) = then_keeps (expression w a) (λ x v. is_goes (nodes_go.changed _ at x _ _ v))
  expression w (written.Unary at op a) = then_keeps (expression w a) (λ x v. is_goes (nodes_go.unary v at op x))
  expression w (written.SizeofExpr at a) = then_keeps (expression w a) (λ x v. is_goes (nodes_go.given _ _ v))
  expression w (written.SizeofType at specs declarator) =
      then_keeps (of_type_name (all_specs w _ _ specs) (λ v. a_declarator v declarator)) (λ form v. is_goes (nodes_go.size_of_form v at form))
  expression w (written.Cast at specs declarator a) =
      then_keeps (of_type_name (all_specs w _ _ specs) (λ v. a_declarator v declarator))
      (λ form v. then_keeps (valued (expression v a)) (λ x v2. is_goes (nodes_go.cast v2 at form x)))
  expression w (written.Binary at op a b) = then_keeps (valued (expression w a)) (λ x v. then_keeps (valued (expression v b)) (λ y v2. is_goes (nodes_go.given _ _ v2)))
  expression w (written.Cond at c a b) =
      then_keeps (valued (expression w c)) (λ z v. then_keeps (valued (expression v a)) (λ x v2. then_keeps (valued (expression v2 b))
      (λ y v3. is_goes (nodes_go.conditional v3 at z x y))))
  expression w (written.Assign at a b) = then_keeps (expression w a) (λ x v. then_keeps (valued (expression v b)) (λ y v2. is_goes (nodes_go.changed _ at x _ _ v2)))
  expression w (written.Compound at op a b) = then_keeps (expression w a) (λ x v. then_keeps (valued (expression v b)) (λ y v2. is_goes (nodes_go.changed _ at x _ _ v2)))
  expression w (written.Comma at a b) = then_keeps (valued (expression w a)) (λ x v. then_keeps (valued (expression v b)) (λ y v2. is_goes goes_same))

  arguments : (w : World) (made : _) (es : written.ExprTrees) → AllKeep w (TypesArgs w made es)
  arguments w made written.no_exprs = is_keeps keeps_all
  arguments w made (written.more_exprs e es) = then_keeps (valued (expression w e)) (λ x v. arguments v _ es)

  all_specs : (w : World) (alone : Bool) (done : _) (specs : written.SpecTrees) → AllKeep w (TypesSpecs w alone done specs)
  all_specs w alone done written.no_specs = is_keeps keeps_all
  all_specs w alone done (written.more_specs spec rest) = then_keeps (one_spec w alone spec) (λ part v. all_specs v alone _ rest)

  one_spec : (w : World) (alone : Bool) (spec : written.SpecTree) → AllKeep w (TypesSpec w alone spec)
  one_spec w alone (written.Storage at word) = is_keeps keeps_all
  one_spec w alone (written.Const at) = is_keeps keeps_all
  one_spec w alone (written.Basic at word) = is_keeps keeps_all
  one_spec w alone (written.TypedefName at name) = is_keeps (typedef_named w at _)
  one_spec w alone (written.Struct at tag) = then_keeps (is_keeps (found w alone tag _)) (λ n v. is_keeps keeps_all)
  one_spec w alone (written.StructBody at tag members) =
      then_keeps (is_keeps (struct_opened w tag)) (λ n v. then_keeps (all_members v [] members) (λ done v2. is_keeps (keeps (record { cases = refl; default = refl }))))
  one_spec w alone (written.Enum at tag) = then_keeps (is_goes (types_go.enum_found w tag _)) (λ unit v. is_keeps keeps_all)
  one_spec w alone (written.EnumBody at tag list) =
      then_keeps (is_goes (types_go.enum_opened w tag)) (λ unit v. then_keeps (enumerators v _ list) (λ next v2. is_keeps (enum_closed v2 tag)))

  all_members : (w : World) (done : _) (members : written.MemberDeclTrees) → AllKeep w (TypesMembers w done members)
  all_members w done written.no_members = is_keeps keeps_all
  all_members w done (written.more_members (written.Members at specs list) rest) =
      then_keeps (all_specs w _ _ specs) (λ s v. then_keeps (is_goes (types_go.type_told specifiers.OfPlainType (typing.first_of at specs) s v)) (λ base v2.
      then_keeps (member_names v2 (typing.first_of at specs) base done list) (λ members v3. all_members v3 members rest)))

  member_names : (w : World) (first : Pos) (base : Form) (done : _) (list : written.DeclaratorTrees) → AllKeep w (TypesMemberNames w first base done list)
  member_names w first base done written.no_declarators = is_keeps keeps_all
  member_names w first base done (written.more_declarators declarator rest) =
      then_keeps (a_declarator w declarator) (λ shape v. then_keeps (is_keeps (member_made v first base done shape)) (λ members v2. member_names v2 first base members rest))

  enumerators : (w : World) (next : ℤ) (list : written.EnumeratorTrees) → AllKeep w (TypesEnumerators w next list)
  enumerators w next written.no_enumerators = is_keeps keeps_all
  enumerators w next (written.more_enumerators (written.Plain at name) rest) =
      then_keeps (is_goes (types_go.enumerator w at at name (Some next))) (λ n v. enumerators v n rest)
  enumerators w next (written.more_enumerators (written.Valued at name value) rest) =
      then_keeps (valued (expression w value)) (λ x v. then_keeps (is_goes (types_go.enumerator v at (expr_pos value) name (constant_value x))) (λ n v2. enumerators v2 n rest))

  a_declarator : (w : World) (declarator : written.DeclaratorTree) → AllKeep w (TypesDeclarator w declarator)
  a_declarator w written.Absent = is_keeps keeps_all
  a_declarator w (written.Name at name) = is_keeps keeps_all
  a_declarator w (written.Grouped at inner) = a_declarator w inner
  a_declarator w (written.Pointer at is_const inner) = then_keeps (a_declarator w inner) (λ shape v. is_keeps keeps_all)
  a_declarator w (written.Array at inner size) =
      then_keeps (a_declarator w inner) (λ shape v. then_keeps (valued (expression v size)) (λ x v2. is_keeps (array_sized v2 (expr_pos size) shape (constant_value x))))
  a_declarator w (written.OpenArray at inner) = then_keeps (a_declarator w inner) (λ shape v. is_keeps keeps_all)
  a_declarator w (written.Function at inner params) = then_keeps (a_declarator w inner) (λ shape v. scope_keeps (parameters (names.opened v) [] params))
  a_declarator w (written.VoidFunction at inner) = then_keeps (a_declarator w inner) (λ shape v. is_keeps keeps_all)

  parameters : (w : World) (done : _) (params : written.ParamTrees) → AllKeep w (TypesParams w done params)
  parameters w done written.no_params = is_keeps keeps_all
  parameters w done (written.more_params (written.Named at specs declarator) rest) =
      then_keeps (of_parameter (length done) (typing.first_of at specs) (all_specs w _ _ specs) (λ v. a_declarator v declarator)) (λ param v. parameters v _ rest)
  parameters w done (written.more_params (written.Abstract at specs declarator) rest) =
      then_keeps (of_parameter (length done) (typing.first_of at specs) (all_specs w _ _ specs) (λ v. a_declarator v declarator)) (λ param v. parameters v _ rest)

pub expressions_leave_cases : ExpressionsLeaveCases
expressions_leave_cases w v e x p = kept (valued (expression w e) _ p)
