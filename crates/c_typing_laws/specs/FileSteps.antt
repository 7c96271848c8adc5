-- How a typed file comes from its typed parts.
use Rattle.std.specs.Prelude.{◌≡◌, ℕ, true, false, Some, List, [], ◌∷◌, ◌++◌, map, length}
use Rattle.c_syntax_written.specs.declared.place.Pos.{Pos}
use Rattle.c_syntax_written.specs.Written.{SpecTrees, DeclaratorTree}
use Rattle.c_syntax_written.specs.WrittenDecl.{DeclTree}
use Rattle.c_syntax_written.specs.WrittenFile as files
use Rattle.c_syntax_written.specs.WrittenFile.{BlockItemTrees, OuterTree}
use Rattle.c_syntax.specs.Types.{CTypeTree}
use Rattle.c_typing.specs.World.{World, Form, Callable, Binding, TagBinding, Typed}
use Rattle.c_typing.specs.Specifiers.{SpecsTree, no_specs_yet, OfDeclaration, type_told}
use Rattle.c_typing.specs.Declarators.{DeclaredName, ParameterTree, Step, FunctionOf, Shape, laid}
use Rattle.c_typing.specs.Typing.{first_of, TypesSpecs, TypesDeclarator}
use Rattle.c_typing.specs.Context.{Context, in_function}
use Rattle.c_typing.specs.Decls.{Made, nothing_made, parameter_object, numbers_from}
use Rattle.c_typing.specs.File.{Begun, in_body, defined_function, with_function_at, definition, definition_ends}
use Rattle.c_typing_laws.specs.NameSteps.{MakesFunction}
use Rattle.c_typing_laws.specs.DeclSteps.{MakesDecl}
use Rattle.c_typing_laws.specs.StmtSteps.{MakesItems}

-- with objects for the parameters of a definition, which count among the sizes
pub data IsCounted (w : World) (params : List ParameterTree) : World → Type 0 where
  counted : {total : ℕ} → IsCounted w params (record w { objects = w.objects ++ map (parameter_object w) params; total = total })

-- the head of a definition: the function with its parameters, and the scope of its body
pub data MakesHead (around : Context) (w : World) (steps : List Step) (base : Form) (named : DeclaredName) : Begun → World → Type 0 where
  head :
      {params : List ParameterTree} {names : List Binding} {tags : List TagBinding} {rest : List Step} {types : List CTypeTree} {result : CTypeTree} {n : ℕ}
      {v x : World}
      → steps ≡ FunctionOf params names tags ∷ rest → laid w named.pos steps base ≡ Typed (Callable types result) w
      → MakesFunction around w named params types result true (Some n) v → IsCounted v params x
      → MakesHead around w steps base named
      (record { number = n; result = result; outside = with_function_at x n (defined_function named (numbers_from (length v.objects) (length params))) })
      (in_body (with_function_at x n (defined_function named (numbers_from (length v.objects) (length params)))) (length v.objects) names tags)

-- the specs, the declarator and the head of a definition, as they are typed
pub record TypesHead (around : Context) (at : Pos) (specs : SpecTrees) (declarator : DeclaratorTree) (s : SpecsTree) (base : Form) (shape : Shape)
    (begun : Begun) (w u x y : World) : Type 0 where
  pub words : TypesSpecs w false no_specs_yet specs (Typed s u)
  pub told : type_told OfDeclaration (first_of at specs) s u ≡ Typed base u
  pub declarator_is : TypesDeclarator u declarator (Typed shape x)
  pub head_is : Typed begun y ≡ definition x around (first_of at specs) s.storage base shape

-- a declaration of the file, or a function with its body
pub data MakesOuter (w : World) (around : Context) : OuterTree → World → Type 0 where
  declares : {decl : DeclTree} {made : Made} {v : World} → MakesDecl w around decl made v → MakesOuter w around (files.Declared decl) v
  defines :
      {at brace : Pos} {specs : SpecTrees} {declarator : DeclaratorTree} {body : BlockItemTrees} {s : SpecsTree} {base : Form} {shape : Shape}
      {named : DeclaredName} {begun : Begun} {made : Made}
      {u x y z : World}
      → TypesHead around at specs declarator s base shape begun w u x y → shape.name ≡ Some named → MakesHead around x shape.steps base named begun y
      → MakesItems y (in_function begun.result body around) nothing_made body made z
      → MakesOuter w around (files.Function at specs declarator brace body) (definition_ends begun brace made z)

pub data MakesOuters (around : Context) : World → List OuterTree → World → Type 0 where
  no_more : {w : World} → MakesOuters around w [] w
  and_then : {w u v : World} {tree : OuterTree} {rest : List OuterTree} → MakesOuter w around tree u → MakesOuters around u rest v
      → MakesOuters around w (tree ∷ rest) v
