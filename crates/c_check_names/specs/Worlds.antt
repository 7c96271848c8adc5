-- The program so far as the code holds it, and what a call on it comes to.
use Rattle.std.specs.Prelude.{◌≡◌, map, length, Option, Some, None, IfSome, Result, Ok, Err}
use Rattle.c_syntax.specs.Types.{ctype_tree, object_tree}
use Rattle.c_syntax.specs.Program.{structdef_tree, tfunction_tree}
use Rattle.c_typing.specs.World as typing
use Rattle.c_check_names.specs.declared.world.World.{World}
use Rattle.c_check_names.specs.declared.world.Scope.{Scope}
use Rattle.c_check_names.specs.declared.error.NameError.{NameError}
use Rattle.c_check_names.specs.declared.error.NameError.TheVariants as errors
use Rattle.c_check_names.specs.Trees.{binding_tree, tag_tree, linked_tree, labelled_tree, case_tree}

abbrev pub world_of : World → typing.World
world_of w = record {
  structs = map structdef_tree w.structs.defs;
  objects = map object_tree w.objects.items;
  functions = map tfunction_tree w.functions.items;
  signatures = map (λ params. map ctype_tree params.items) w.signatures.items;
  initial = w.initial;
  total = w.total;
  linked = map linked_tree w.linked;
  names = map binding_tree w.names;
  first_name = w.first_name;
  tags = map tag_tree w.tags;
  first_tag = w.first_tag;
  labels = map labelled_tree w.labels;
  cases = map case_tree w.cases;
  default = w.default;
}

-- the names and tags that were in scope before a scope began
pub record Encloses (before : typing.World) (scope : Scope) : Type 0 where
  pub names : scope.names ≡ length before.names
  pub first_name : scope.first_name ≡ before.first_name
  pub tags : scope.tags ≡ length before.tags
  pub first_tag : scope.first_tag ≡ before.first_tag

-- the refusal that an error tells; out of memory is none
abbrev pub refusal_of : NameError → Option typing.Refusal
refusal_of errors.NoMemory = None
refusal_of (errors.Undeclared at) = Some (typing.Undeclared at)
refusal_of (errors.Redeclared at first) = Some (typing.Redeclared at first)
refusal_of (errors.ObjectTooLarge at size) = Some (typing.ObjectTooLarge at size)
refusal_of (errors.TotalTooLarge at size) = Some (typing.TotalTooLarge at size)

-- the call comes to this outcome, and leaves the program that it leaves; once out of memory nothing is said
abbrev pub ComesTo : {A : Type 0} → typing.Outcome A → typing.World → Result A NameError → Type 0
ComesTo outcome after (Ok a) = outcome ≡ typing.Typed a after
ComesTo outcome after (Err e) = IfSome (refusal_of e) (λ refusal. outcome ≡ typing.Refused refusal)
