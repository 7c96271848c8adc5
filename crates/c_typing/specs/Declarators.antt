-- Declarators, from the name outward, and the types that they make.
use Rattle.std.specs.Prelude.{ℕ, ◌*◌, ◌^◌, nat_lt, Bool, false, if◌then◌else◌, Option, Some, None, List, [], ◌∷◌, length, map, unwrap_or, option_map}
use Rattle.c_syntax_written.specs.declared.place.Pos.{Pos}
use Rattle.c_syntax_written.specs.declared.construct.Construct.TheVariants as constructs
use Rattle.c_syntax.specs.declared.op.Op.TheVariants as ops
use Rattle.c_syntax.specs.Types.{CTypeTree, Pointer, Array, Struct, Function}
use Rattle.c_typing.specs.World.{World, Form, Plain, Unsized, Callable, Binding, TagBinding, Refusal, no_rule, NotConstant, ObjectTooLarge, Unsupported, Outcome, Typed, Refused}
use Rattle.c_typing.specs.Operands.{complete_size}

-- a name that a declarator has, and its place
pub record DeclaredName : Type 0 where
  pub name : List ℕ
  pub pos : Pos

-- a parameter, which may have no name, with its type as an object (C11 6.7.6.3p7)
pub record ParameterTree : Type 0 where
  pub name : List ℕ
  pub pos : Pos
  pub ty : CTypeTree
  pub is_const : Bool

-- what a declarator says of its name, step by step: that it is a pointer, an array of so many elements by the expression at this place,
-- an array without size, or a function with these parameters, whose list declares these names and tags
pub data Step : Type 0 where
  PointerTo : Bool → Step
  ArrayOf : Pos → ℕ → Step
  OpenArray : Step
  FunctionOf : List ParameterTree → List Binding → List TagBinding → Step

-- the name, if there is one, and the steps from it outward
pub record Shape : Type 0 where
  pub name : Option DeclaredName
  pub steps : List Step

-- where a declarator is refused: at its name, or at the first token of the specs (this profile)
abbrev pub place_of : Pos → Shape → Pos
place_of first shape = unwrap_or (option_map (λ named. named.pos) shape.name) first

-- the type of a function that the program does not have, as refusals print it
abbrev pub unknown_function : World → CTypeTree
unknown_function w = Function (length w.functions)

-- a type as refusals print it
abbrev pub shown : World → Form → CTypeTree
shown w (Plain ty is_const) = ty
shown w (Unsized of is_const) = Array of is_const 0
shown w (Callable params result) = unknown_function w

abbrev pub if_sized : {A : Type 0} → Refusal → (ℕ → Outcome A) → Option ℕ → Outcome A
if_sized refusal outcome None = Refused refusal
if_sized refusal outcome (Some size) = outcome size

-- an object, a member, a parameter and an element have a complete type (C11 6.7p7, 6.7.2.1p3, 6.7.6.2p1, 6.7.6.3p4)
abbrev pub unless_incomplete : {A : Type 0} → World → Pos → CTypeTree → (ℕ → Outcome A) → Outcome A
unless_incomplete w at ty outcome = if_sized (no_rule w at ops.Init ty None) outcome (complete_size w.structs ty)

-- a pointer to what the rest of the declarator says (C11 6.7.6.1p1)
abbrev pub pointer_form : World → Pos → Bool → Form → Outcome Form
pointer_form w at is_const (Plain ty target_is_const) = Typed (Plain (Pointer ty target_is_const) is_const) w
pointer_form w at is_const (Unsized of target_is_const) = Refused (NotConstant at)
pointer_form w at is_const (Callable params result) = Refused (Unsupported at constructs.FunctionPointer)

-- an array whose size is told takes at most 2 to the 40 bytes (this profile)
abbrev pub sized_array : World → Pos → ℕ → CTypeTree → Bool → ℕ → Outcome Form
sized_array w size_at n of is_const size =
    if nat_lt (2 ^ 40) (n * size) then Refused (ObjectTooLarge size_at (2 ^ 40)) else Typed (Plain (Array of is_const n) false) w

-- an array of what the rest says (C11 6.7.6.2p1)
abbrev pub array_form : World → Pos → Pos → ℕ → Form → Outcome Form
array_form w at size_at n (Plain ty is_const) = unless_incomplete w at ty (sized_array w size_at n ty is_const)
array_form w at size_at n (Unsized of is_const) = Refused (NotConstant at)
array_form w at size_at n (Callable params result) = Refused (Unsupported at constructs.FunctionPointer)

-- an array without size, which only the outermost one may be (C11 6.7.6.2p4)
abbrev pub open_form : World → Pos → Form → Outcome Form
open_form w at (Plain ty is_const) = unless_incomplete w at ty (λ size. Typed (Unsized ty is_const) w)
open_form w at (Unsized of is_const) = Refused (NotConstant at)
open_form w at (Callable params result) = Refused (Unsupported at constructs.FunctionPointer)

-- a result is a scalar or void; const of it is ignored (C11 6.7.6.3p1, this profile)
abbrev pub result_form : World → Pos → List CTypeTree → CTypeTree → Outcome Form
result_form w at params (Array of is_const n) = Refused (no_rule w at ops.Init (Array of is_const n) None)
result_form w at params (Struct n) = Refused (Unsupported at constructs.StructByValue)
result_form w at params ty = Typed (Callable params ty) w

abbrev pub function_form : World → Pos → List CTypeTree → Form → Outcome Form
function_form w at params (Plain ty is_const) = result_form w at params ty
function_form w at params result = Refused (no_rule w at ops.Init (shown w result) None)

abbrev pub types_of_params : List ParameterTree → List CTypeTree
types_of_params params = map (λ param. param.ty) params

-- one step, round what the steps further out make
abbrev pub step_form : World → Pos → Step → Form → Outcome Form
step_form w at (PointerTo is_const) form = pointer_form w at is_const form
step_form w at (ArrayOf size_at n) form = array_form w at size_at n form
step_form w at OpenArray form = open_form w at form
step_form w at (FunctionOf params names tags) form = function_form w at (types_of_params params) form

abbrev pub after_step : World → Pos → Step → Outcome Form → Outcome Form
after_step w at step (Typed form v) = step_form w at step form
after_step w at step (Refused r) = Refused r

-- the type that a declarator gives its name, from the outermost step in (C11 6.7.6p5)
unfoldable pub laid : World → Pos → List Step → Form → Outcome Form
laid w at [] base = Typed base w
laid w at (step ∷ rest) base = after_step w at step (laid w at rest base)

-- the type of a parameter: an array is a pointer to its element (C11 6.7.6.3p7)
abbrev pub parameter_type : Form → Form
parameter_type (Plain (Array of is_const n) outer) = Plain (Pointer of is_const) false
parameter_type (Unsized of is_const) = Plain (Pointer of is_const) false
parameter_type form = form
