-- Declarators of the code as typing speaks of them.
use Rattle.std.specs.Prelude.{◌≡◌, ℕ, List, map, Option, Some, None, option_map, IfSome, Result, Ok, Err}
use Rattle.c_syntax.specs.Types.{ctype_tree}
use Rattle.c_syntax.specs.Program.{StructDefTree}
use Rattle.c_typing.specs.Declarators as declarators
use Rattle.c_typing.specs.Operands.{complete_size}
use Rattle.c_typing.specs.World.{Form, Plain, Refusal}
use Rattle.c_check_names.specs.declared.type_error.TypeError.{TypeError}
use Rattle.c_check_names.specs.Views.{refusal_of}
use Rattle.c_check_names.specs.Trees.{binding_tree, tag_tree}
use Rattle.c_check_declarators.specs.declared.shape.DeclaredName.{DeclaredName}
use Rattle.c_check_declarators.specs.declared.shape.Parameter.{Parameter}
use Rattle.c_check_declarators.specs.declared.shape.Step.{Step}
use Rattle.c_check_declarators.specs.declared.shape.Step.TheVariants as steps
use Rattle.c_check_declarators.specs.declared.shape.Shape.{Shape}

abbrev pub name_tree : DeclaredName → declarators.DeclaredName
name_tree named = record { name = named.name; pos = named.pos }

abbrev pub parameter_tree : Parameter → declarators.ParameterTree
parameter_tree param = record { name = param.name; pos = param.pos; ty = ctype_tree param.ty; is_const = param.is_const }

abbrev pub step_tree : Step → declarators.Step
step_tree (steps.PointerTo is_const) = declarators.PointerTo is_const
step_tree (steps.ArrayOf at n) = declarators.ArrayOf at n
step_tree steps.OpenArray = declarators.OpenArray
step_tree (steps.FunctionOf params names tags) =
    declarators.FunctionOf (map parameter_tree params.items) (map binding_tree names.items) (map tag_tree tags.items)

abbrev pub shape_tree : Shape → declarators.Shape
shape_tree shape = record { name = option_map name_tree shape.name; steps = map step_tree shape.steps.items }

-- the size of a complete type that a declaration gives
abbrev pub form_size : List StructDefTree → Form → Option ℕ
form_size structs (Plain ty is_const) = complete_size structs ty
form_size structs form = None

-- a size that is told is that of the type
abbrev pub IsSizeTold : List StructDefTree → Form → Option ℕ → Type 0
IsSizeTold structs form told = IfSome told (λ size. form_size structs form ≡ Some size)

-- memory aside, the type has this size, or it has none and is refused so
abbrev pub IsComplete : Option ℕ → Refusal → Result ℕ TypeError → Type 0
IsComplete size refusal (Ok n) = size ≡ Some n
IsComplete size refusal (Err e) = IfSome (refusal_of e) (λ r. (size ≡ None) × (r ≡ refusal))
