-- Functions whose bodies follow, as typing speaks of them.
use Rattle.std.specs.Prelude.{◌≡◌, true, List, [], ◌∷◌, ◌++◌, map, Option, Some, None, IfSome, Result, Ok, Err, ⊤}
use Rattle.c_syntax.specs.Types.{CTypeTree, ctype_tree}
use Rattle.c_typing.specs.Declarators.{DeclaredName, ParameterTree, Step, PointerTo, ArrayOf, OpenArray, FunctionOf, unknown_function}
use Rattle.c_typing.specs.Decls.{parameter_object, size_or_zero, with_object, with_total, function_declared}
use Rattle.c_typing.specs.Context.{Context}
use Rattle.c_typing.specs.File as files
use Rattle.c_typing.specs.Names.{within_limits}
use Rattle.c_typing.specs.World.{World, Binding, TagBinding, Outcome, Typed, Refused, no_rule}
use Rattle.c_syntax.specs.declared.op.Op.TheVariants as ops
use Rattle.c_check_declarators.specs.Views.{parameter_tree}
use Rattle.c_check_names.specs.declared.type_error.TypeError.{TypeError}
use Rattle.c_check_names.specs.Views.{refusal_of}
use Rattle.c_check_names.specs.Trees.{binding_tree, tag_tree}
use Rattle.c_check_names.specs.Worlds.{Encloses}
use Rattle.c_check_functions.specs.declared.begun.Begun.{Begun}
use Rattle.c_check_functions.specs.declared.lists.ParameterList.{ParameterList}

-- a function whose body follows, where the program outside of the body is this one
abbrev pub begun_tree : World → Begun → files.Begun
begun_tree outside begun = record { number = begun.number; result = ctype_tree begun.result; outside = outside }

-- the body begins in this program, and the scope that is kept encloses the one outside of it
pub record Begins (outcome : Outcome files.Begun) (after : World) (begun : Begun) : Type 0 where
  pub outside : World
  pub encloses : Encloses outside begun.outside
  pub is : Typed (begun_tree outside begun) after ≡ outcome

-- memory aside, the head of a definition comes to this outcome
abbrev pub ComesToBody : Outcome files.Begun → World → Result Begun TypeError → Type 0
ComesToBody outcome after (Ok begun) = Begins outcome after begun
ComesToBody outcome after (Err e) = IfSome (refusal_of e) (λ r. Refused r ≡ outcome)

-- ---- parts of a definition

-- the parameters that a declarator lists, and the names and tags that the list declares
pub record ListTree : Type 0 where
  pub params : List ParameterTree
  pub names : List Binding
  pub tags : List TagBinding

abbrev pub list_tree : ParameterList → ListTree
list_tree list = record {
  params = map parameter_tree list.params.items;
  names = map binding_tree list.names.items;
  tags = map tag_tree list.tags.items;
}

-- the list of the declarator's first step, if it has one
abbrev pub list_in : Step → Option ListTree
list_in (PointerTo is_const) = None
list_in (ArrayOf at n) = None
list_in OpenArray = None
list_in (FunctionOf params names tags) = Some (record { params = params; names = names; tags = tags })

abbrev pub own_list : List Step → Option ListTree
own_list [] = None
own_list (step ∷ rest) = list_in step

-- a definition of a function of these types, by the declarator's own list
abbrev pub by_list : World → Context → DeclaredName → List CTypeTree → CTypeTree → Option ListTree → Outcome files.Begun
by_list w around named types result None = Refused (no_rule w named.pos ops.Init (unknown_function w) None)
by_list w around named types result (Some list) =
    files.definition_begins w named result list.params list.names list.tags (function_declared w around named list.params types result true)

-- one parameter more
abbrev pub counted : World → ParameterTree → Outcome ⊤
counted w param =
    within_limits param.pos (size_or_zero w param.ty) w
    (Typed tt (with_total (with_object w (parameter_object w param)) (size_or_zero w param.ty)))

-- ---- parts of scopes

abbrev pub with_names : World → List Binding → World
with_names w names = record w { names = w.names ++ names }

abbrev pub with_tags : World → List TagBinding → World
with_tags w tags = record w { tags = w.tags ++ tags }

-- without labels, cases and default
abbrev pub without_jumps : World → World
without_jumps w = record w { labels = []; cases = []; default = None }
