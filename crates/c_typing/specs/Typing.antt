-- Which operand an expression is, and which type specs and declarators name. Each part is typed in the program that the part before it left,
-- so the order of the text is that of the parts here.
use Rattle.std.specs.Prelude.{ℕ, ◌+◌, ◌-◌, nat_lt, nat_le, ◌^◌, ℤ, pos, ◌+ℤ◌, int_le, Bool, false, ◌&&◌, ◌||◌, if◌then◌else◌, Option, Some, None, option_map, unwrap_or, List, [], ◌∷◌, ◌++◌, map, length, slice_get, drop, find, bytes_eq}
use Rattle.c_syntax_written.specs.declared.place.Pos.{Pos}
use Rattle.c_syntax_written.specs.declared.construct.Construct.TheVariants as constructs
use Rattle.c_syntax_written.specs.declared.int_type.IntType.TheVariants as ints
use Rattle.c_syntax_written.specs.Integer.{least, greatest}
use Rattle.c_syntax_written.specs.Written as written
use Rattle.c_syntax_written.specs.Written.{ExprTree, ExprTrees, SpecTree, SpecTrees, MemberDeclTrees, EnumeratorTrees, DeclaratorTree, DeclaratorTrees, ParamTrees}
use Rattle.c_syntax_written.specs.WrittenParts.{expr_pos, spec_pos}
use Rattle.c_syntax.specs.declared.op.Op.TheVariants as ops
use Rattle.c_syntax.specs.declared.operator.StepTime.TheVariants as times
use Rattle.c_syntax.specs.Types.{CTypeTree, Int, Struct}
use Rattle.c_syntax.specs.TypedExpr.{TExprTree, TExprTrees, none, texprs_then}
use Rattle.c_syntax.specs.Program.{MemberTree}
use Rattle.c_layout.specs.Layout.{padded, space_by, in_table, align_in}
use Rattle.c_layout.specs.RowTypes.{has_const_elements}
use Rattle.c_typing.specs.World.{World, Form, Plain, Unsized, Callable, Meaning, Parameter, TypeName, Enumeration, no_rule, Undeclared, NotConstant, ObjectTooLarge, Unsupported, Outcome, Typed, Refused, Then, Is, unless}
use Rattle.c_typing.specs.Names.{meaning_of, first_here, unless_declared, opened, closed, with_name, struct_named, struct_opened, with_members, enum_named, enum_opened, enum_closed}
use Rattle.c_typing.specs.Constants.{constant_value}
use Rattle.c_typing.specs.Operands.{OperandTree, value_of, operand_type}
use Rattle.c_typing.specs.Specifiers.{SpecsTree, no_specs_yet, SpecPart, StoragePart, ConstPart, WordPart, TypePart, with_part, OfPlainType, type_told}
use Rattle.c_typing.specs.Specifiers as places
use Rattle.c_typing.specs.Declarators.{DeclaredName, ParameterTree, Step, PointerTo, ArrayOf, OpenArray, FunctionOf, Shape, place_of, unknown_function, unless_incomplete, laid, parameter_type}
use Rattle.c_typing.specs.Nodes as nodes

-- the first token of specs
abbrev pub first_of : Pos → SpecTrees → Pos
first_of at written.no_specs = at
first_of at (written.more_specs spec rest) = spec_pos spec

-- ---- what is made of the parts of types

-- a type as it is named in a cast or a sizeof: it declares nothing, and has its size (C11 6.7.7)
abbrev pub sized_name : Pos → Outcome Form → Outcome Form
sized_name first (Typed (Unsized of is_const) w) = Refused (NotConstant first)
sized_name first outcome = outcome

abbrev pub unnamed : Option DeclaredName → Outcome Form → Outcome Form
unnamed None outcome = outcome
unnamed (Some named) outcome = Refused (Undeclared named.pos)

abbrev pub type_name : World → Pos → Form → Shape → Outcome Form
type_name w first base shape = unnamed shape.name (sized_name first (laid w first shape.steps base))

-- a typedef name (C11 6.7.8p3)
abbrev pub typedef_named : World → Pos → Option Meaning → Outcome SpecPart
typedef_named w at (Some (TypeName form)) = Typed (TypePart form) w
typedef_named w at found = Refused (Undeclared at)

-- an enumerated type is int (this profile)
abbrev pub enumerated : SpecPart
enumerated = TypePart (Plain (Int ints.Int) false)

-- an enumeration constant, which is an int (C11 6.7.2.2p2 and p3); the next one has the value behind it
abbrev pub is_int : ℤ → Bool
is_int n = int_le (least ints.Int) n && int_le n (pos (greatest ints.Int))

abbrev pub enumerator : World → Pos → Pos → List ℕ → Option ℤ → Outcome ℤ
enumerator w at value_at name None = Refused (NotConstant value_at)
enumerator w at value_at name (Some n) =
    if is_int n then unless_declared at (first_here w at name) (Typed (n +ℤ pos 1) (with_name w at name (Enumeration n)))
    else Refused (NotConstant value_at)

-- a step more from the name outward
abbrev pub with_step : Shape → Step → Shape
with_step shape step = record shape { steps = shape.steps ++ step ∷ [] }

-- the size of an array is an integer constant above 0 (C11 6.7.6.2p1, this profile)
abbrev pub array_sized : World → Pos → Shape → Option ℤ → Outcome Shape
array_sized w size_at shape (Some (pos n)) = if nat_lt 0 n then Typed (with_step shape (ArrayOf size_at n)) w else Refused (NotConstant size_at)
array_sized w size_at shape value = Refused (NotConstant size_at)

-- a member so far, and the place of its name
pub record MemberMade : Type 0 where
  pub pos : Pos
  pub member : MemberTree

abbrev pub members_made : List MemberMade → List MemberTree
members_made done = map (λ m. m.member) done

-- a struct from its members, at its `}`
abbrev pub struct_made : World → ℕ → List MemberMade → Outcome SpecPart
struct_made w n done = Typed (TypePart (Plain (Struct n) false)) (with_members w n (members_made done))

-- the place of the first member of this name
abbrev pub member_named : List MemberMade → List ℕ → Option Pos
member_named done name = option_map (λ m. m.pos) (find (λ m. bytes_eq m.member.name name) done)

-- where a member ends
abbrev pub end_of : World → MemberMade → ℕ
end_of w made = made.member.offset + unwrap_or (space_by (in_table w.structs) made.member.ty).size 0

-- where the last of the members so far ends
abbrev pub last_end : World → List MemberMade → ℕ
last_end w done = unwrap_or (option_map (end_of w) (slice_get done (length done - 1))) 0

-- where the next member stands: behind the last, at a multiple of its alignment (C11 6.7.2.1p14 and p15)
abbrev pub next_offset : World → List MemberMade → CTypeTree → ℕ
next_offset w done ty = padded (last_end w done) (align_in w.structs ty)

abbrev pub with_member : World → DeclaredName → CTypeTree → List MemberMade → List MemberMade
with_member w named ty done =
    done ++ record { pos = named.pos; member = record { name = named.name; ty = ty; offset = next_offset w done ty } } ∷ []

-- a member of a complete type, whose name is new in its struct, within 2 to the 40 bytes, and not const (C11 6.7.2.1p3, 6.2.3p1, this profile)
abbrev pub member_sized : World → DeclaredName → CTypeTree → Bool → List MemberMade → ℕ → Outcome (List MemberMade)
member_sized w named ty is_const done size =
    unless_declared named.pos (member_named done named.name)
    (unless (nat_lt (2 ^ 40) (next_offset w done ty + size)) (ObjectTooLarge named.pos (2 ^ 40))
    (unless (is_const || has_const_elements ty) (Unsupported named.pos constructs.ConstMember) (Typed (with_member w named ty done) w)))

abbrev pub member_of : World → DeclaredName → Form → List MemberMade → Outcome (List MemberMade)
member_of w named (Plain ty is_const) done = unless_incomplete w named.pos ty (member_sized w named ty is_const done)
member_of w named (Unsized of is_const) done = Refused (Unsupported named.pos constructs.FlexibleArray)
member_of w named (Callable params result) done = Refused (no_rule w named.pos ops.Init (unknown_function w) None)

abbrev pub member_laid : DeclaredName → List MemberMade → Outcome Form → Outcome (List MemberMade)
member_laid named done (Typed form w) = member_of w named form done
member_laid named done (Refused r) = Refused r

abbrev pub with_its_name : {A : Type 0} → Pos → Option DeclaredName → (DeclaredName → Outcome A) → Outcome A
with_its_name first None outcome = Refused (Undeclared first)
with_its_name first (Some named) outcome = outcome named

abbrev pub member_made : World → Pos → Form → List MemberMade → Shape → Outcome (List MemberMade)
member_made w first base done shape = with_its_name first shape.name (λ named. member_laid named done (laid w named.pos shape.steps base))

-- ---- parameters

-- a parameter whose name, if it has one, is new in the list
abbrev pub unless_named_before : {A : Type 0} → World → Option DeclaredName → Outcome A → Outcome A
unless_named_before w None outcome = outcome
unless_named_before w (Some named) outcome = unless_declared named.pos (first_here w named.pos named.name) outcome

abbrev pub with_parameter : World → Option DeclaredName → Meaning → World
with_parameter w None meaning = w
with_parameter w (Some named) meaning = with_name w named.pos named.name meaning

abbrev pub parameter_tree : Pos → Option DeclaredName → CTypeTree → Bool → ParameterTree
parameter_tree at named ty is_const = record { name = unwrap_or (option_map (λ n. n.name) named) []; pos = at; ty = ty; is_const = is_const }

-- a parameter is a scalar (C11 6.7.6.3p4, this profile)
abbrev pub parameter_sized : World → Pos → Option DeclaredName → ℕ → CTypeTree → Bool → Outcome ParameterTree
parameter_sized w at named k (Struct n) is_const = unless_named_before w named (Refused (Unsupported at constructs.StructByValue))
parameter_sized w at named k ty is_const =
    unless_named_before w named (Typed (parameter_tree at named ty is_const) (with_parameter w named (Parameter k ty is_const)))

abbrev pub parameter_of : World → Pos → Option DeclaredName → ℕ → Form → Outcome ParameterTree
parameter_of w at named k (Plain ty is_const) = unless_incomplete w at ty (λ size. parameter_sized w at named k ty is_const)
parameter_of w at named k form = unless_named_before w named (Refused (Unsupported at constructs.FunctionPointer))

abbrev pub parameter_laid : Pos → Option DeclaredName → ℕ → Outcome Form → Outcome ParameterTree
parameter_laid at named k (Typed form w) = parameter_of w at named k (parameter_type form)
parameter_laid at named k (Refused r) = Refused r

-- parameter number k
abbrev pub parameter_made : World → Pos → Form → ℕ → Shape → Outcome ParameterTree
parameter_made w first base k shape = parameter_laid (place_of first shape) shape.name k (laid w (place_of first shape) shape.steps base)

-- a function step, from the list of its parameters, whose scope ends (C11 6.2.1p4)
abbrev pub with_function : World → World → Shape → List ParameterTree → Outcome Shape
with_function before w shape params =
    Typed (with_step shape (FunctionOf params (drop (length before.names) w.names) (drop (length before.tags) w.tags))) (closed before w)

-- ---- the typing of expressions, specs and declarators

-- the value of what is typed
abbrev pub Valued : (Outcome OperandTree → Type 0) → Outcome TExprTree → Type 0
Valued types o = Then types (λ x w. Is (Typed (value_of x) w)) o

-- the type that a cast or a sizeof names, by what types its specs and its declarator (C11 6.7.7)
abbrev pub OfTypeName : Pos → (Outcome SpecsTree → Type 0) → (World → Outcome Shape → Type 0) → Outcome Form → Type 0
OfTypeName first specs declarator o =
    Then specs (λ s w1.
    Then (Is (type_told OfPlainType first s w1)) (λ base w2.
    Then (declarator w2) (λ shape w3. Is (type_name w3 first base shape)))) o

-- parameter number k (C11 6.7.6.3)
abbrev pub OfParameter : ℕ → Pos → (Outcome SpecsTree → Type 0) → (World → Outcome Shape → Type 0) → Outcome ParameterTree → Type 0
OfParameter k first specs declarator o =
    Then specs (λ s w1.
    Then (Is (type_told places.OfParameter first s w1)) (λ base w2.
    Then (declarator w2) (λ shape w3. Is (parameter_made w3 first base k shape)))) o

unfoldable mutual
  -- an expression (C11 6.5)
  pub Types : World → ExprTree → Outcome OperandTree → Type 0
  Types w (written.Word at name) o = Is (nodes.word w at name) o
  Types w (written.Number at c) o = Is (if nat_le c.longs 2 then nodes.number w at c else Refused (Undeclared at)) o
  Types w (written.Character at byte) o = Is (nodes.character w at byte) o
  Types w (written.Strings at bytes) o = Is (nodes.literal w at bytes) o
  Types w (written.Enclosed at inner) o = Types w inner o
  Types w (written.Index at base index) o = Then (Valued (Types w base)) (λ a w1. Then (Valued (Types w1 index)) (λ b w2. Is (nodes.indexed w2 at a b))) o
  Types w (written.Call at name args) o = Then (TypesArgs w none args) (λ values w1. Is (nodes.called w1 at name values)) o
  Types w (written.Dot at base name) o = Then (Types w base) (λ x w1. Is (nodes.member w1 at name x)) o
  Types w (written.Arrow at base name) o = Then (Valued (Types w base)) (λ a w1. Is (nodes.arrow w1 at name a)) o
  Types w (written.PostStep at way operand) o = Then (Types w operand) (λ x w1. Is (nodes.stepped w1 at times.After way x)) o
  Types w (written.PreStep at way operand) o = Then (Types w operand) (λ x w1. Is (nodes.stepped w1 at times.Before way x)) o
  Types w (written.Unary at op a) o = Then (Types w a) (λ x w1. Is (nodes.unary w1 at op x)) o
  Types w (written.SizeofExpr at a) o = Then (Types w a) (λ x w1. Is (nodes.size_of w1 at (operand_type x))) o
  Types w (written.SizeofType at specs declarator) o =
      Then (OfTypeName (first_of at specs) (TypesSpecs w false no_specs_yet specs) (λ v. TypesDeclarator v declarator))
      (λ form w1. Is (nodes.size_of_form w1 at form)) o
  Types w (written.Cast at specs declarator a) o =
      Then (OfTypeName (first_of at specs) (TypesSpecs w false no_specs_yet specs) (λ v. TypesDeclarator v declarator))
      (λ form w1. Then (Valued (Types w1 a)) (λ e w2. Is (nodes.cast w2 at form e))) o
  Types w (written.Binary at op a b) o = Then (Valued (Types w a)) (λ x w1. Then (Valued (Types w1 b)) (λ y w2. Is (nodes.binary w2 at op x y))) o
  Types w (written.Cond at c a b) o =
      Then (Valued (Types w c)) (λ z w1. Then (Valued (Types w1 a)) (λ x w2. Then (Valued (Types w2 b)) (λ y w3. Is (nodes.conditional w3 at z x y)))) o
  Types w (written.Assign at a b) o = Then (Types w a) (λ x w1. Then (Valued (Types w1 b)) (λ y w2. Is (nodes.assigned w2 at x y))) o
  Types w (written.Compound at op a b) o = Then (Types w a) (λ x w1. Then (Valued (Types w1 b)) (λ y w2. Is (nodes.compound w2 at op x y))) o
  Types w (written.Comma at a b) o = Then (Valued (Types w a)) (λ x w1. Then (Valued (Types w1 b)) (λ y w2. Is (nodes.sequenced w2 at x y))) o

  -- arguments from left to right, behind those that stand before them
  pub TypesArgs : World → TExprTrees → ExprTrees → Outcome TExprTrees → Type 0
  TypesArgs w done written.no_exprs o = Is (Typed done w) o
  TypesArgs w done (written.more_exprs e es) o = Then (Valued (Types w e)) (λ x w1. TypesArgs w1 (texprs_then done x) es) o

  -- specs behind those that stand before them; whether they are all that their declaration has (C11 6.7p1)
  pub TypesSpecs : World → Bool → SpecsTree → SpecTrees → Outcome SpecsTree → Type 0
  TypesSpecs w alone done written.no_specs o = Is (Typed done w) o
  TypesSpecs w alone done (written.more_specs spec rest) o = Then (TypesSpec w alone spec) (λ part w1. TypesSpecs w1 alone (with_part done part) rest) o

  pub TypesSpec : World → Bool → SpecTree → Outcome SpecPart → Type 0
  TypesSpec w alone (written.Storage at word) o = Is (Typed (StoragePart word) w) o
  TypesSpec w alone (written.Const at) o = Is (Typed ConstPart w) o
  TypesSpec w alone (written.Basic at word) o = Is (Typed (WordPart word) w) o
  TypesSpec w alone (written.TypedefName at name) o = Is (typedef_named w at (meaning_of w name)) o
  TypesSpec w alone (written.Struct at tag) o = Then (Is (struct_named w alone tag)) (λ n w1. Is (Typed (TypePart (Plain (Struct n) false)) w1)) o
  TypesSpec w alone (written.StructBody at tag members) o =
      Then (Is (struct_opened w tag)) (λ n w1. Then (TypesMembers w1 [] members) (λ done w2. Is (struct_made w2 n done))) o
  TypesSpec w alone (written.Enum at tag) o = Then (Is (enum_named w tag)) (λ unit w1. Is (Typed enumerated w1)) o
  TypesSpec w alone (written.EnumBody at tag list) o =
      Then (Is (enum_opened w tag)) (λ unit w1. Then (TypesEnumerators w1 (pos 0) list) (λ next w2. Is (Typed enumerated (enum_closed w2 tag)))) o

  -- the members of a struct (C11 6.7.2.1)
  pub TypesMembers : World → List MemberMade → MemberDeclTrees → Outcome (List MemberMade) → Type 0
  TypesMembers w done written.no_members o = Is (Typed done w) o
  TypesMembers w done (written.more_members (written.Members at specs declarators) rest) o =
      Then (TypesSpecs w false no_specs_yet specs) (λ s w1.
      Then (Is (type_told OfPlainType (first_of at specs) s w1)) (λ base w2.
      Then (TypesMemberNames w2 (first_of at specs) base done declarators) (λ members w3. TypesMembers w3 members rest))) o

  pub TypesMemberNames : World → Pos → Form → List MemberMade → DeclaratorTrees → Outcome (List MemberMade) → Type 0
  TypesMemberNames w first base done written.no_declarators o = Is (Typed done w) o
  TypesMemberNames w first base done (written.more_declarators declarator rest) o =
      Then (TypesDeclarator w declarator) (λ shape w1.
      Then (Is (member_made w1 first base done shape)) (λ members w2. TypesMemberNames w2 first base members rest)) o

  -- enumeration constants, of which one without a value has this one (C11 6.7.2.2p3)
  pub TypesEnumerators : World → ℤ → EnumeratorTrees → Outcome ℤ → Type 0
  TypesEnumerators w next written.no_enumerators o = Is (Typed next w) o
  TypesEnumerators w next (written.more_enumerators (written.Plain at name) rest) o =
      Then (Is (enumerator w at at name (Some next))) (λ n w1. TypesEnumerators w1 n rest) o
  TypesEnumerators w next (written.more_enumerators (written.Valued at name value) rest) o =
      Then (Valued (Types w value)) (λ x w1.
      Then (Is (enumerator w1 at (expr_pos value) name (constant_value x))) (λ n w2. TypesEnumerators w2 n rest)) o

  -- a declarator, in the order of the text (C11 6.7.6)
  pub TypesDeclarator : World → DeclaratorTree → Outcome Shape → Type 0
  TypesDeclarator w written.Absent o = Is (Typed (record { name = None; steps = [] }) w) o
  TypesDeclarator w (written.Name at name) o = Is (Typed (record { name = Some (record { name = name; pos = at }); steps = [] }) w) o
  TypesDeclarator w (written.Grouped at inner) o = TypesDeclarator w inner o
  TypesDeclarator w (written.Pointer at is_const inner) o =
      Then (TypesDeclarator w inner) (λ shape w1. Is (Typed (with_step shape (PointerTo is_const)) w1)) o
  TypesDeclarator w (written.Array at inner size) o =
      Then (TypesDeclarator w inner) (λ shape w1. Then (Valued (Types w1 size)) (λ x w2. Is (array_sized w2 (expr_pos size) shape (constant_value x)))) o
  TypesDeclarator w (written.OpenArray at inner) o = Then (TypesDeclarator w inner) (λ shape w1. Is (Typed (with_step shape OpenArray) w1)) o
  TypesDeclarator w (written.Function at inner params) o =
      Then (TypesDeclarator w inner) (λ shape w1. Then (TypesParams (opened w1) [] params) (λ list w2. Is (with_function w1 w2 shape list))) o
  TypesDeclarator w (written.VoidFunction at inner) o = Then (TypesDeclarator w inner) (λ shape w1. Is (Typed (with_step shape (FunctionOf [] [] [])) w1)) o

  -- the parameters of a function (C11 6.7.6.3)
  pub TypesParams : World → List ParameterTree → ParamTrees → Outcome (List ParameterTree) → Type 0
  TypesParams w done written.no_params o = Is (Typed done w) o
  TypesParams w done (written.more_params (written.Named at specs declarator) rest) o =
      Then (OfParameter (length done) (first_of at specs) (TypesSpecs w false no_specs_yet specs) (λ v. TypesDeclarator v declarator))
      (λ param w1. TypesParams w1 (done ++ param ∷ []) rest) o
  TypesParams w done (written.more_params (written.Abstract at specs declarator) rest) o =
      Then (OfParameter (length done) (first_of at specs) (TypesSpecs w false no_specs_yet specs) (λ v. TypesDeclarator v declarator))
      (λ param w1. TypesParams w1 (done ++ param ∷ []) rest) o
