-- Forms without their places, which typing does not ask, members so far, and the forms of a declarator.
use Rattle.std.specs.Prelude.{ℕ, ℤ, pos, Bool, false, true, Option, Some, List, [], ◌∷◌, map}
use Rattle.c_syntax_written.specs.declared.place.Pos.{Pos}
use Rattle.c_syntax_written.specs.declared.step.StepWay.{StepWay}
use Rattle.c_syntax_written.specs.declared.written.Tag.{Tag}
use Rattle.c_syntax_written.specs.Written as written
use Rattle.c_syntax_written.specs.Written.{ExprTree, MemberDeclTree, MemberDeclTrees, EnumeratorTree, EnumeratorTrees, DeclaratorTree, ParamTree, ParamTrees}
use Rattle.c_syntax_written.specs.WrittenParts.{expr_pos}
use Rattle.c_syntax.specs.declared.operator.StepTime.{StepTime}
use Rattle.c_typing.specs.Names.{struct_opened, enum_opened, enum_closed, opened}
use Rattle.c_typing.specs.Constants.{constant_value}
use Rattle.c_typing.specs.Declarators.{ParameterTree, Shape}
use Rattle.c_typing.specs.Nodes.{stepped}
use Rattle.c_typing.specs.Operands.{OperandTree}
use Rattle.c_typing.specs.Specifiers.{SpecPart, no_specs_yet, OfPlainType, type_told}
use Rattle.c_typing.specs.Typing.{Types, TypesMembers, TypesMemberNames, TypesEnumerators, TypesSpecs, TypesDeclarator, TypesParams, Valued, OfParameter, first_of, struct_made, enumerated, enumerator, array_sized, with_function}
use Rattle.c_typing.specs.Typing as typing
use Rattle.c_typing.specs.World.{World, Outcome, Typed, Then, Is}
use Rattle.c_check_declarators.specs.declared.members.MemberMade.{MemberMade}
use Rattle.c_check_declarators.specs.PartViews.{made_tree}

-- `++` and `--`, before their operand or behind it (C11 6.5.2.4, 6.5.3.1)
abbrev pub StepForm : World → Pos → StepTime → StepWay → ExprTree → Outcome OperandTree → Type 0
StepForm w at time way a o = Then (Types w a) (λ x w1. Is (stepped w1 at time way x)) o

-- a struct with its members (C11 6.7.2.1)
abbrev pub StructBody : World → Option Tag → MemberDeclTrees → Outcome SpecPart → Type 0
StructBody w tag members o = Then (Is (struct_opened w tag)) (λ n w1. Then (TypesMembers w1 [] members) (λ done w2. Is (struct_made w2 n done))) o

-- an enumeration with its constants (C11 6.7.2.2)
abbrev pub EnumBody : World → Option Tag → EnumeratorTrees → Outcome SpecPart → Type 0
EnumBody w tag list o =
    Then (Is (enum_opened w tag)) (λ unit w1. Then (TypesEnumerators w1 (pos 0) list) (λ next w2. Is (Typed enumerated (enum_closed w2 tag)))) o

-- members that are declared together
abbrev pub MemberLine : World → List typing.MemberMade → MemberDeclTree → Outcome (List typing.MemberMade) → Type 0
MemberLine w done (written.Members at specs declarators) o =
    Then (TypesSpecs w false no_specs_yet specs) (λ s w1.
    Then (Is (type_told OfPlainType (first_of at specs) s w1)) (λ base w2. TypesMemberNames w2 (first_of at specs) base done declarators)) o

-- an enumeration constant with its value, and one with it or without (C11 6.7.2.2p3)
abbrev pub ValuedConstant : World → Pos → List ℕ → ExprTree → Outcome ℤ → Type 0
ValuedConstant w at name value o = Then (Valued (Types w value)) (λ x w1. Is (enumerator w1 at (expr_pos value) name (constant_value x))) o

abbrev pub ConstantForm : World → ℤ → EnumeratorTree → Outcome ℤ → Type 0
ConstantForm w next (written.Plain at name) o = Is (enumerator w at at name (Some next)) o
ConstantForm w next (written.Valued at name value) o = ValuedConstant w at name value o

abbrev pub members_of : List MemberMade → List typing.MemberMade
members_of members = map made_tree members

-- the brackets of an array, and the parameters of a function, behind what is typed of a declarator (C11 6.7.6.2, 6.7.6.3)
abbrev pub ArrayStep : World → Shape → ExprTree → Outcome Shape → Type 0
ArrayStep w shape size o = Then (Valued (Types w size)) (λ x w1. Is (array_sized w1 (expr_pos size) shape (constant_value x))) o

abbrev pub FunctionStep : World → Shape → ParamTrees → Outcome Shape → Type 0
FunctionStep w shape params o = Then (TypesParams (opened w) [] params) (λ list w1. Is (with_function w w1 shape list)) o

-- parameter number k, with a name or without
abbrev pub ParamForm : World → ℕ → ParamTree → Outcome ParameterTree → Type 0
ParamForm w k (written.Named at specs declarator) o =
    OfParameter k (first_of at specs) (TypesSpecs w false no_specs_yet specs) (λ v. TypesDeclarator v declarator) o
ParamForm w k (written.Abstract at specs declarator) o =
    OfParameter k (first_of at specs) (TypesSpecs w false no_specs_yet specs) (λ v. TypesDeclarator v declarator) o

-- what a form of a declarator stands around; a name stands around nothing
abbrev pub inside : DeclaratorTree → DeclaratorTree
inside written.Absent = written.Absent
inside (written.Name at name) = written.Absent
inside (written.Grouped at inner) = inner
inside (written.Pointer at is_const inner) = inner
inside (written.Array at inner size) = inner
inside (written.OpenArray at inner) = inner
inside (written.Function at inner list) = inner
inside (written.VoidFunction at inner) = inner

-- whether it stands around something
abbrev pub stands_around_one : DeclaratorTree → Bool
stands_around_one written.Absent = false
stands_around_one (written.Name at name) = false
stands_around_one declarator = true

-- the forms of a declarator, from the outermost in
unfoldable pub forms_of : DeclaratorTree → List DeclaratorTree
forms_of written.Absent = written.Absent ∷ []
forms_of (written.Name at name) = written.Name at name ∷ []
forms_of (written.Grouped at inner) = written.Grouped at inner ∷ forms_of inner
forms_of (written.Pointer at is_const inner) = written.Pointer at is_const inner ∷ forms_of inner
forms_of (written.Array at inner size) = written.Array at inner size ∷ forms_of inner
forms_of (written.OpenArray at inner) = written.OpenArray at inner ∷ forms_of inner
forms_of (written.Function at inner list) = written.Function at inner list ∷ forms_of inner
forms_of (written.VoidFunction at inner) = written.VoidFunction at inner ∷ forms_of inner
