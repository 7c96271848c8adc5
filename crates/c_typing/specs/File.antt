-- Functions with bodies, and the file.
use Rattle.std.specs.Prelude.{◌≡◌, ℕ, ◌+◌, ◌==◌, true, false, if◌then◌else◌, Option, Some, None, option_map, unwrap_or, List, [], ◌∷◌, ◌++◌, map, length, find, slice_get, set, replicate, ⊤}
use Rattle.c_syntax_written.specs.declared.place.Pos.{Pos}
use Rattle.c_syntax_written.specs.declared.written.StorageWord.{StorageWord}
use Rattle.c_syntax_written.specs.declared.written.StorageWord.TheVariants.{Typedef}
use Rattle.c_syntax_written.specs.WrittenFile.{BlockItemTrees, OuterTree, Declared, FileTree}
use Rattle.c_syntax_written.specs.WrittenFile as files
use Rattle.c_syntax.specs.declared.op.Op.TheVariants as ops
use Rattle.c_syntax.specs.declared.program.Initial.{Initial}
use Rattle.c_syntax.specs.declared.program.InitByte.TheVariants.{Num}
use Rattle.c_syntax.specs.declared.statement.BlockKind.TheVariants as kinds
use Rattle.c_syntax.specs.Types.{CTypeTree, ObjectTree}
use Rattle.c_syntax.specs.TypedStmt.{TStmtTree, Block}
use Rattle.c_syntax.specs.Program.{TFunctionTree, TProgramTree}
use Rattle.c_layout.specs.Layout.{size_in}
use Rattle.c_typing.specs.World.{World, Form, Callable, Meaning, Object, Parameter, Binding, TagBinding, Refusal, no_rule, Undeclared, Redeclared, Outcome, Typed, Refused, Then, Is}
use Rattle.c_typing.specs.Names.{opened, closed, within_limits}
use Rattle.c_typing.specs.Specifiers.{no_specs_yet, OfDeclaration, type_told}
use Rattle.c_typing.specs.Declarators.{DeclaredName, ParameterTree, Step, FunctionOf, Shape, shown, laid}
use Rattle.c_typing.specs.Typing.{first_of, TypesSpecs, TypesDeclarator}
use Rattle.c_typing.specs.Context.{Context, file_context, in_function}
use Rattle.c_typing.specs.Decls.{Made, nothing_made, is_word, numbers_from, parameter_object, with_total, function_declared, TypesDecl}
use Rattle.c_typing.specs.Stmts.{TypesItems}
use Rattle.c_typing.specs.Settled.{settled_function}

-- ---- a function with its body

-- a function whose body follows: its number and result, and the program outside of its body's scope
pub record Begun : Type 0 where
  pub number : ℕ
  pub result : CTypeTree
  pub outside : World

-- the parameters of a definition are objects, and count among the sizes, one by one at their places (C11 6.9.1p9, this profile)
unfoldable pub with_counted : World → List ParameterTree → Outcome ⊤
with_counted w [] = Typed tt w
with_counted w (param ∷ rest) =
    within_limits param.pos (unwrap_or (size_in w.structs param.ty) 0) w
    (with_counted (with_total (record w { objects = w.objects ++ parameter_object w param ∷ [] }) (unwrap_or (size_in w.structs param.ty) 0)) rest)

-- the name of a parameter stands for its object
abbrev pub as_object : ℕ → Meaning → Meaning
as_object first (Parameter k ty is_const) = Object (first + k)
as_object first meaning = meaning

abbrev pub with_object_meaning : ℕ → Binding → Binding
with_object_meaning first b = record b { meaning = as_object first b.meaning }

-- the scope of the body, in which the names and tags of the parameter list stand (C11 6.2.1p4)
abbrev pub in_body : World → ℕ → List Binding → List TagBinding → World
in_body w first names tags = record (opened w) {
  names = w.names ++ map (with_object_meaning first) names;
  tags = w.tags ++ tags;
  labels = [];
  cases = [];
  default = None;
}

-- a function as its definition says it
abbrev pub defined_function : DeclaredName → List ℕ → TFunctionTree → TFunctionTree
defined_function named params function = record function { pos = named.pos; params = params }

abbrev pub with_function_at : World → ℕ → (TFunctionTree → TFunctionTree) → World
with_function_at w n change = record w { functions = unwrap_or (option_map (λ f. set w.functions n (change f)) (slice_get w.functions n)) w.functions }

abbrev pub body_in : World → ℕ → CTypeTree → ℕ → List Binding → List TagBinding → Outcome Begun
body_in w n result first names tags = Typed (record { number = n; result = result; outside = w }) (in_body w first names tags)

abbrev pub body_begins : ℕ → ℕ → DeclaredName → CTypeTree → List ParameterTree → List Binding → List TagBinding → Outcome ⊤ → Outcome Begun
body_begins n first named result params names tags (Typed unit w) =
    body_in (with_function_at w n (defined_function named (numbers_from first (length params)))) n result first names tags
body_begins n first named result params names tags (Refused r) = Refused r

-- no definition has a reserved name, so each has a number
abbrev pub definition_begins : World → DeclaredName → CTypeTree → List ParameterTree → List Binding → List TagBinding → Outcome (Option ℕ) → Outcome Begun
definition_begins w named result params names tags (Typed (Some n) v) = body_begins n (length v.objects) named result params names tags (with_counted v params)
definition_begins w named result params names tags (Typed None v) = Refused (Redeclared named.pos named.pos)
definition_begins w named result params names tags (Refused r) = Refused r

-- a body stands after a declarator that is a function, by its own list of parameters (C11 6.9.1p2)
abbrev pub definition_of : World → Context → DeclaredName → List Step → Form → Outcome Begun
definition_of w around named (FunctionOf params names tags ∷ rest) (Callable types result) =
    definition_begins w named result params names tags (function_declared w around named params types result true)
definition_of w around named steps form = Refused (no_rule w named.pos ops.Init (shown w form) None)

abbrev pub definition_laid : Context → DeclaredName → List StorageWord → List Step → Outcome Form → Outcome Begun
definition_laid around named storage steps (Refused r) = Refused r
definition_laid around named storage steps (Typed form w) =
    if is_word Typedef storage then Refused (no_rule w named.pos ops.Init (shown w form) None) else definition_of w around named steps form

abbrev pub definition_named : World → Context → Pos → List StorageWord → List Step → Form → Option DeclaredName → Outcome Begun
definition_named w around first storage steps base None = Refused (Undeclared first)
definition_named w around first storage steps base (Some named) = definition_laid around named storage steps (laid w named.pos steps base)

-- the head of a definition, by its specs and its declarator
abbrev pub definition : World → Context → Pos → List StorageWord → Form → Shape → Outcome Begun
definition w around first storage base shape = definition_named w around first storage shape.steps base shape.name

abbrev pub with_body : TStmtTree → TFunctionTree → TFunctionTree
with_body body function = record function { body = Some body }

-- behind the body, outside of its scope
abbrev pub definition_ends : Begun → Pos → Made → World → World
definition_ends begun brace made w =
    with_function_at (record (closed begun.outside w) { labels = []; cases = []; default = None }) begun.number
    (with_body (Block brace kinds.Written made.objects made.items))

-- ---- the file

abbrev pub TypesOuter : World → Context → OuterTree → Outcome ⊤ → Type 0
TypesOuter w around (Declared decl) o = Then (TypesDecl w around decl) (λ made w1. Is (Typed tt w1)) o
TypesOuter w around (files.Function at specs declarator brace body) o =
    Then (TypesSpecs w false no_specs_yet specs) (λ s w1.
    Then (Is (type_told OfDeclaration (first_of at specs) s w1)) (λ base w2.
    Then (TypesDeclarator w2 declarator) (λ shape w3.
    Then (Is (definition w3 around (first_of at specs) s.storage base shape)) (λ begun w4.
    Then (TypesItems w4 (in_function begun.result body around) nothing_made body) (λ made w5.
    Is (Typed tt (definition_ends begun brace made w5))))))) o

unfoldable pub TypesOuters : World → Context → List OuterTree → Outcome ⊤ → Type 0
TypesOuters w around [] o = Is (Typed tt w) o
TypesOuters w around (outer ∷ rest) o = Then (TypesOuter w around outer) (λ unit w1. TypesOuters w1 around rest) o

-- before the first declaration
abbrev pub nothing_yet : World
nothing_yet = record {
  structs = [];
  objects = [];
  functions = [];
  signatures = [];
  initial = [];
  total = 0;
  linked = [];
  names = [];
  first_name = 0;
  tags = [];
  first_tag = 0;
  labels = [];
  cases = [];
  default = None;
}

-- the initial value of an object of static duration: the one that it was given, or zeros (C11 6.7.9p10); an automatic one has none
abbrev pub given_initial : List Initial → ℕ → ObjectTree → Initial
given_initial initial n object =
    unwrap_or (find (λ i. i.object == n) initial) (record { object = n; bytes = replicate object.size (Num 0) })

unfoldable pub initials_from : List Initial → ℕ → List ObjectTree → List Initial
initials_from initial n [] = []
initials_from initial n (object ∷ rest) =
    if object.is_static then given_initial initial n object ∷ initials_from initial (n + 1) rest else initials_from initial (n + 1) rest

-- the program at the end of the file
abbrev pub program_of : World → TProgramTree
program_of w = record {
  structs = w.structs;
  objects = w.objects;
  functions = map (settled_function w.objects) w.functions;
  initial = initials_from w.initial 0 w.objects;
}

-- what comes of a file: its typed program, or the first refusal
pub data FileOutcome : Type 0 where
  Program : TProgramTree → FileOutcome
  NoProgram : Refusal → FileOutcome

abbrev pub outcome_of : Outcome ⊤ → FileOutcome
outcome_of (Typed unit w) = Program (program_of w)
outcome_of (Refused r) = NoProgram r

-- the typing of a file (C11 6.9)
pub record TypesFile (file : FileTree) (outcome : FileOutcome) : Type 0 where
  pub last : Outcome ⊤
  pub types : TypesOuters nothing_yet (file_context file) file.outers last
  pub is : outcome ≡ outcome_of last
