-- Declarations: of objects, functions and typedef names.
use Rattle.std.specs.Prelude.{ℕ, zero, suc, ◌+◌, ◌^◌, drop, ◌==◌, nat_lt, Bool, true, false, not, ◌&&◌, ◌||◌, if◌then◌else◌, is_some, Option, Some, None, option_map, option_and_then, unwrap_or, List, [], ◌∷◌, ◌++◌, map, length, find, slice_get, set, bytes_eq, codes}
use Rattle.c_syntax_written.specs.declared.place.Pos.{Pos}
use Rattle.c_syntax_written.specs.declared.construct.Construct.TheVariants as constructs
use Rattle.c_syntax_written.specs.declared.int_type.IntType.{IntType}
use Rattle.c_syntax_written.specs.declared.int_type.IntType.TheVariants as ints
use Rattle.c_syntax_written.specs.declared.written.StorageWord.{StorageWord}
use Rattle.c_syntax_written.specs.declared.written.StorageWord.TheVariants.{Typedef, Extern, Static}
use Rattle.c_syntax_written.specs.Written as written
use Rattle.c_syntax_written.specs.WrittenDecl.{InitTree, InitDeclaratorTree, DeclTree}
use Rattle.c_syntax.specs.declared.op.Op.TheVariants as ops
use Rattle.c_syntax.specs.Types.{CTypeTree, Void, Int, Array, ObjectTree}
use Rattle.c_syntax.specs.Program.{TFunctionTree}
use Rattle.c_syntax.specs.TypedStmt.{TInitTree, TStmtTrees, Declare, none, more}
use Rattle.c_syntax.specs.TypedStmt as stmts
use Rattle.c_layout.specs.Layout.{size_in}
use Rattle.c_layout.specs.RowTypes.{has_const_elements}
use Rattle.c_layout.specs.WellTyped.{is_array}
use Rattle.c_typing.specs.World.{World, Form, Plain, Unsized, Callable, Meaning, Object, Missing, Function, TypeName, Binding, Linked, no_rule, Redeclared, NotConstant, ObjectTooLarge, Unsupported, Outcome, Typed, Refused, Then, Is, unless}
use Rattle.c_typing.specs.SameTypes.{is_same_truth, is_same, are_same}
use Rattle.c_typing.specs.Names.{input_type, is_reserved, first_here, unless_declared, with_name, linked_as, object_limit, within_limits, with_initial}
use Rattle.c_typing.specs.Operands.{is_unsized}
use Rattle.c_typing.specs.Specifiers.{no_specs_yet, OfDeclaration, type_told}
use Rattle.c_typing.specs.Declarators.{DeclaredName, ParameterTree, Step, FunctionOf, Shape, unknown_function, unless_incomplete, laid}
use Rattle.c_typing.specs.Typing.{first_of, with_its_name, TypesSpecs, TypesDeclarator}
use Rattle.c_typing.specs.CurrentObject.{Frame, frame_of, open_frame}
use Rattle.c_typing.specs.Inits.{Initialised, whole_part, TypesInit, static_bytes}
use Rattle.c_typing.specs.Context.{Context, has_name, is_storage}

abbrev pub is_named_main : List ℕ → Bool
is_named_main name = bytes_eq name (codes "main")

-- the declaration of this name in the innermost scope
abbrev pub binding_here : World → List ℕ → Option Binding
binding_here w name = find (λ b. bytes_eq b.name name) (drop w.first_name w.names)

-- ---- entities of the file

-- one entity by its number (C11 6.2.2p2)
abbrev pub is_same_entity : Meaning → Meaning → Bool
is_same_entity (Object m) (Object n) = m == n
is_same_entity (Function m) (Function n) = m == n
is_same_entity (Missing s c) (Missing t d) = true
is_same_entity a b = false

-- a name that is declared here, or in the file before, is Redeclared unless it is the same entity, declared in the same way (C11 6.2.2p2, 6.7p3 and p4)
abbrev pub unless_other : {A : Type 0} → Pos → Option Binding → Option Linked → (Meaning → Bool) → (Option Linked → Outcome A) → Outcome A
unless_other at None None agrees outcome = outcome None
unless_other at None (Some l) agrees outcome = if agrees l.meaning then outcome (Some l) else Refused (Redeclared at l.pos)
unless_other at (Some b) None agrees outcome = Refused (Redeclared at b.pos)
unless_other at (Some b) (Some l) agrees outcome =
    if is_same_entity b.meaning l.meaning && agrees l.meaning then outcome (Some l) else Refused (Redeclared at b.pos)

abbrev pub with_linked : World → DeclaredName → Meaning → Bool → World
with_linked w named meaning defined =
    record (with_name w named.pos named.name meaning) {
      linked = w.linked ++ record { name = named.name; pos = named.pos; meaning = meaning; defined = defined } ∷ [];
    }

-- an entity is defined from here on
abbrev pub defined_if : Bool → List ℕ → Linked → Linked
defined_if now name l = if now && bytes_eq l.name name then record l { defined = true } else l

abbrev pub with_defined : World → List ℕ → Bool → World
with_defined w name now = record w { linked = map (defined_if now name) w.linked }

-- ---- functions

-- the parameters and the result of a reserved name (this profile)
abbrev pub is_input_type : List CTypeTree → CTypeTree → Option IntType → Bool
is_input_type params result (Some t) = are_same params [] && is_same result (Int t)
is_input_type params result None = are_same params (Int ints.Int ∷ []) && is_same result Void

-- a prototype that repeats a reserved name declares nothing; any other declaration of one is Redeclared, with its own place (this profile)
abbrev pub reserved_declared : World → DeclaredName → List CTypeTree → CTypeTree → Bool → Outcome (Option ℕ)
reserved_declared w named params result has_body =
    if is_input_type params result (input_type named.name) && not has_body then Typed None w else Refused (Redeclared named.pos named.pos)

-- whether a function has a body already
abbrev pub has_body_before : World → ℕ → Bool
has_body_before w n = is_some (option_and_then (λ f. f.body) (slice_get w.functions n))

-- the function of this number has these parameters and this result, and a body once at most (C11 6.7p4, 6.9p3)
abbrev pub is_function_so : World → List CTypeTree → CTypeTree → Bool → Meaning → Bool
is_function_so w params result has_body (Function n) =
    (are_same params (unwrap_or (slice_get w.signatures n) []) && is_same result (unwrap_or (option_map (λ f. f.result) (slice_get w.functions n)) Void))
    && not (has_body && has_body_before w n)
is_function_so w params result has_body meaning = false

-- main takes nothing, and its result is int (C11 5.1.2.2.1p1, this profile)
abbrev pub is_main_shape : List CTypeTree → CTypeTree → Bool
is_main_shape params result = are_same params [] && is_same result (Int ints.Int)

abbrev pub unless_main_shape : {A : Type 0} → DeclaredName → Bool → Outcome A → Outcome A
unless_main_shape named is_so outcome = unless (is_named_main named.name && not is_so) (Unsupported named.pos constructs.MainShape) outcome

-- an automatic object for a parameter; those of a function without a body take no part in the sum of sizes (this profile)
abbrev pub parameter_object : World → ParameterTree → ObjectTree
parameter_object w param = record {
  name = param.name;
  pos = param.pos;
  ty = param.ty;
  size = unwrap_or (size_in w.structs param.ty) 0;
  read_only = param.is_const;
  is_static = false;
}

abbrev pub with_parameters : World → List ParameterTree → World
with_parameters w params = record w { objects = w.objects ++ map (parameter_object w) params }

-- so many numbers from this one on
unfoldable pub numbers_from : ℕ → ℕ → List ℕ
numbers_from first zero = []
numbers_from first (suc count) = first ∷ numbers_from (first + 1) count

abbrev pub function_tree : DeclaredName → List ℕ → CTypeTree → TFunctionTree
function_tree named params result = record { name = named.name; pos = named.pos; params = params; result = result; body = None }

abbrev pub with_function_entry : World → List CTypeTree → TFunctionTree → World
with_function_entry w types function = record w { functions = w.functions ++ function ∷ []; signatures = w.signatures ++ types ∷ [] }

-- a function that is declared for the first time; it has objects for its parameters now where the file gives it no body
abbrev pub new_function : World → DeclaredName → Bool → List ParameterTree → List CTypeTree → CTypeTree → World
new_function w named has_body_later params types result =
    with_linked (if has_body_later then with_function_entry w types (function_tree named [] result)
    else with_function_entry (with_parameters w params) types (function_tree named (numbers_from (length w.objects) (length params)) result))
    named (Function (length w.functions)) false

abbrev pub number_of : Meaning → ℕ
number_of (Object n) = n
number_of (Function n) = n
number_of meaning = 0

-- a function that may have been declared before
abbrev pub function_again : World → Context → DeclaredName → List ParameterTree → List CTypeTree → CTypeTree → Option Linked → Outcome (Option ℕ)
function_again w around named params types result None =
    Typed (Some (length w.functions)) (new_function w named (has_name around.functions named.name) params types result)
function_again w around named params types result (Some l) = Typed (Some (number_of l.meaning)) (with_name w named.pos named.name l.meaning)

-- a declaration of a function, which gives its number; a reserved one has none (C11 6.7.6.3, 6.9.1)
abbrev pub function_declared : World → Context → DeclaredName → List ParameterTree → List CTypeTree → CTypeTree → Bool → Outcome (Option ℕ)
function_declared w around named params types result has_body =
    if is_reserved named.name then reserved_declared w named types result has_body
    else unless_other named.pos (binding_here w named.name) (linked_as w named.name) (is_function_so w types result has_body) (λ linked.
    unless_main_shape named (is_main_shape types result) (function_again w around named params types result linked))

-- ---- objects

-- an object that a declarator declares: its number, place and type; whether it is static, stands in a block, and was given no size
pub record ObjectNow : Type 0 where
  pub number : ℕ
  pub pos : Pos
  pub ty : CTypeTree
  pub is_static : Bool
  pub in_block : Bool
  pub measured : Bool

-- whether an array, or another object, is const as declared (C11 6.7.3p9)
abbrev pub is_read_only : CTypeTree → Bool → Bool
is_read_only ty is_const = if is_array ty then has_const_elements ty else is_const

abbrev pub object_of : DeclaredName → CTypeTree → Bool → ℕ → Bool → ObjectTree
object_of named ty is_const size is_static =
    record { name = named.name; pos = named.pos; ty = ty; size = size; read_only = is_read_only ty is_const; is_static = is_static }

abbrev pub with_object : World → ObjectTree → World
with_object w object = record w { objects = w.objects ++ object ∷ [] }

abbrev pub with_total : World → ℕ → World
with_total w size = record w { total = w.total + size }

-- an object of a block: automatic, or static without linkage (C11 6.2.2p6, 6.2.4p3 and p5)
abbrev pub local_object : World → DeclaredName → CTypeTree → Bool → Bool → ℕ → World
local_object w named ty is_const is_static size =
    with_name (with_total (with_object w (object_of named ty is_const size is_static)) size) named.pos named.name (Object (length w.objects))

abbrev pub local_now : World → DeclaredName → CTypeTree → Bool → Bool → ObjectNow
local_now w named ty is_static measured =
    record { number = length w.objects; pos = named.pos; ty = ty; is_static = is_static; in_block = true; measured = measured }

-- what a declarator declares: an object, whose initialiser follows; or nothing that takes one
pub data Declares : Type 0 where
  AnObject : ObjectNow → Declares
  NoObject : Declares

abbrev pub local_declared : World → DeclaredName → Form → Bool → Bool → Outcome Declares
local_declared w named (Plain ty is_const) is_static has_init =
    unless_incomplete w named.pos ty (λ size. unless_declared named.pos (first_here w named.pos named.name)
    (within_limits named.pos size w (Typed (AnObject (local_now w named ty is_static false)) (local_object w named ty is_const is_static size))))
local_declared w named (Unsized of is_const) is_static has_init =
    unless_declared named.pos (first_here w named.pos named.name)
    (unless (not has_init) (NotConstant named.pos)
    (Typed (AnObject (local_now w named (Array of is_const 0) is_static true)) (local_object w named (Array of is_const 0) false is_static 0)))
local_declared w named (Callable params result) is_static has_init = Refused (no_rule w named.pos ops.Init (unknown_function w) None)

-- an array without size agrees with any array of its element (C11 6.7.6.2p6)
abbrev pub is_same_object : CTypeTree → CTypeTree → Bool
is_same_object (Array s c m) (Array t d n) = is_same_truth c d && (is_same s t && ((m == n) || ((m == 0) || (n == 0))))
is_same_object s t = is_same s t

-- the object of the file has this type, and is as const (C11 6.7p4)
abbrev pub is_object_so : World → CTypeTree → Bool → Meaning → Bool
is_object_so w ty is_const (Object n) =
    unwrap_or (option_map (λ object. is_same_object object.ty ty && is_same_truth object.read_only (is_read_only ty is_const)) (slice_get w.objects n)) false
is_object_so w ty is_const (Missing t c) = is_same_object t ty && is_same_truth (is_read_only t c) (is_read_only ty is_const)
is_object_so w ty is_const meaning = false

-- the type that an object has by all its declarations so far (C11 6.2.7p4)
abbrev pub composite : CTypeTree → CTypeTree → CTypeTree
composite before ty = if is_unsized ty then before else ty

abbrev pub type_before : World → Meaning → CTypeTree → CTypeTree
type_before w (Object n) ty = unwrap_or (option_map (λ object. object.ty) (slice_get w.objects n)) ty
type_before w (Missing before c) ty = before
type_before w meaning ty = ty

-- the object of this number has this type and size
abbrev pub sized_object : CTypeTree → ℕ → ObjectTree → ObjectTree
sized_object ty size object = record object { ty = ty; size = size }

abbrev pub with_sized : World → ℕ → CTypeTree → ℕ → World
with_sized w n ty size = record w {
  objects = unwrap_or (option_map (λ object. set w.objects n (sized_object ty size object)) (slice_get w.objects n)) w.objects;
}

abbrev pub has_initial : World → Meaning → Bool
has_initial w (Object n) = is_some (find (λ initial. initial.object == n) w.initial)
has_initial w meaning = false

-- the same declaration may be one of an object that has an initialiser, once (C11 6.9p3)
abbrev pub is_object_again : World → CTypeTree → Bool → Bool → Meaning → Bool
is_object_again w ty is_const has_init meaning = is_object_so w ty is_const meaning && not (has_init && has_initial w meaning)

-- what a declaration of an object of the file is: with an initialiser; one that defines its object; one of an object that the file defines somewhere
pub record FileObject : Type 0 where
  pub has_init : Bool
  pub defines : Bool
  pub is_there : Bool
  pub in_block : Bool

-- the name, for the first time: an object, or an extern one that the file does not define (this profile)
abbrev pub first_object : World → DeclaredName → CTypeTree → Bool → ℕ → FileObject → World
first_object w named ty is_const size how =
    if how.is_there then with_linked (with_object w (object_of named ty is_const size true)) named (Object (length w.objects)) how.defines
    else with_linked w named (Missing ty is_const) false

abbrev pub missing_if : List ℕ → CTypeTree → Bool → Linked → Linked
missing_if name ty is_const l = if bytes_eq l.name name then record l { meaning = Missing ty is_const } else l

-- the entity has the type of all its declarations so far
abbrev pub with_type : World → List ℕ → Meaning → CTypeTree → ℕ → World
with_type w name (Object n) ty size = with_sized w n ty size
with_type w name (Missing before is_const) ty size = record w { linked = map (missing_if name ty is_const) w.linked }
with_type w name meaning ty size = w

abbrev pub again_object : World → DeclaredName → CTypeTree → ℕ → FileObject → Linked → World
again_object w named ty size how l =
    with_defined (with_name (with_type w named.name l.meaning ty size) named.pos named.name l.meaning) named.name how.defines

abbrev pub object_world : World → DeclaredName → CTypeTree → Bool → ℕ → FileObject → Option Linked → World
object_world w named ty is_const size how None = first_object w named ty is_const size how
object_world w named ty is_const size how (Some l) = again_object w named ty size how l

-- the number of the object that is declared, if the file has it
abbrev pub entity_object : Meaning → Option ℕ
entity_object (Object n) = Some n
entity_object meaning = None

abbrev pub object_number : World → FileObject → Option Linked → Option ℕ
object_number w how None = if how.is_there then Some (length w.objects) else None
object_number w how (Some l) = entity_object l.meaning

abbrev pub is_defined : Option Linked → Bool
is_defined linked = unwrap_or (option_map (λ l. l.defined) linked) false

-- a definition counts among the sizes, once; other declarations have a limit for their object alone
abbrev pub counted_once : {A : Type 0} → World → Pos → ℕ → FileObject → Option Linked → (World → Outcome A) → Outcome A
counted_once w at size how linked outcome =
    if how.defines && not (is_defined linked) then within_limits at size w (outcome (with_total w size))
    else unless (how.is_there && nat_lt object_limit size) (ObjectTooLarge at size) (outcome w)

abbrev pub file_now : DeclaredName → CTypeTree → FileObject → Bool → ℕ → ObjectNow
file_now named ty how measured n = record { number = n; pos = named.pos; ty = ty; is_static = true; in_block = how.in_block; measured = measured }

-- an object that the file has, whose initialiser may follow
abbrev pub declares : Option ℕ → (ℕ → ObjectNow) → Declares
declares None now = NoObject
declares (Some n) now = AnObject (now n)

-- an object of the file whose size is told, here or before
abbrev pub file_sized : World → DeclaredName → CTypeTree → Bool → FileObject → Option Linked → Outcome Declares
file_sized w named ty is_const how linked =
    unless_incomplete w named.pos ty (λ size. counted_once w named.pos size how linked (λ v. unless_main_shape named false
    (Typed (declares (object_number w how linked) (file_now named ty how false)) (object_world v named ty is_const size how linked))))

-- one whose size is not told yet: by its initialiser, or, in an `extern` declaration alone, later (C11 6.7.9p22, this profile)
abbrev pub file_unsized : World → DeclaredName → CTypeTree → FileObject → Option Linked → Outcome Declares
file_unsized w named ty how linked =
    unless (how.defines && not how.has_init) (NotConstant named.pos)
    (unless_main_shape named false
    (Typed (declares (object_number w how linked) (file_now named ty how how.has_init)) (object_world w named ty false 0 how linked)))

abbrev pub file_object : World → DeclaredName → CTypeTree → Bool → FileObject → Option Linked → Outcome Declares
file_object w named ty is_const how linked =
    if is_unsized ty then file_unsized w named ty how linked else file_sized w named ty is_const how linked

abbrev pub composite_type : World → CTypeTree → Option Linked → CTypeTree
composite_type w ty None = ty
composite_type w ty (Some l) = composite (type_before w l.meaning ty) ty

-- an object of the file, in the file or by `extern` in a block, where it takes no initialiser (C11 6.7.9p5, 6.9.2)
abbrev pub file_declared : World → DeclaredName → CTypeTree → Bool → FileObject → Outcome Declares
file_declared w named ty is_const how =
    unless (how.in_block && how.has_init) (no_rule w named.pos ops.Init ty None)
    (if is_reserved named.name then Refused (Redeclared named.pos named.pos)
    else unless_other named.pos (binding_here w named.name) (linked_as w named.name) (is_object_again w ty is_const how.has_init) (λ linked.
    file_object w named (composite_type w ty linked) is_const how linked))

-- incomplete types come first
abbrev pub file_form : World → DeclaredName → Form → FileObject → Outcome Declares
file_form w named (Plain ty is_const) how = unless_incomplete w named.pos ty (λ size. file_declared w named ty is_const how)
file_form w named (Unsized of is_const) how = file_declared w named (Array of is_const 0) false how
file_form w named (Callable params result) how = Refused (no_rule w named.pos ops.Init (unknown_function w) None)

-- ---- typedef names

-- a typedef name; its initialiser, if one stands there, is ignored (C11 6.7.8, this profile)
abbrev pub typedef_declared : World → DeclaredName → Form → Outcome Declares
typedef_declared w named (Unsized of is_const) = unless_declared named.pos (first_here w named.pos named.name) (Refused (NotConstant named.pos))
typedef_declared w named form =
    unless_declared named.pos (first_here w named.pos named.name) (Typed NoObject (with_name w named.pos named.name (TypeName form)))

-- ---- one declarator

abbrev pub is_word : StorageWord → List StorageWord → Bool
is_word word words = is_some (find (is_storage word) words)

-- how an object of the file is declared
abbrev pub file_object_of : Context → List StorageWord → List ℕ → Bool → FileObject
file_object_of around storage name has_init = record {
  has_init = has_init;
  defines = not around.in_block && (not (is_word Extern storage) || has_init);
  is_there = has_name around.objects name;
  in_block = around.in_block;
}

abbrev pub object_declared : World → Context → List StorageWord → DeclaredName → Form → Bool → Outcome Declares
object_declared w around storage named form has_init =
    if around.in_block && not (is_word Extern storage) then local_declared w named form (is_word Static storage) has_init
    else file_form w named form (file_object_of around storage named.name has_init)

-- the parameters of the declarator's own list, or those of a function type that it takes from a typedef name
abbrev pub parameters_of : List Step → List CTypeTree → Pos → List ParameterTree
parameters_of (FunctionOf params names tags ∷ rest) types at = params
parameters_of steps types at = map (λ ty. record { name = []; pos = at; ty = ty; is_const = false }) types

abbrev pub no_object : Outcome (Option ℕ) → Outcome Declares
no_object (Typed n w) = Typed NoObject w
no_object (Refused r) = Refused r

-- a function takes no initialiser (C11 6.7.9p3)
abbrev pub prototype_declared : World → Context → List Step → DeclaredName → List CTypeTree → CTypeTree → Bool → Outcome Declares
prototype_declared w around steps named types result has_init =
    unless has_init (no_rule w named.pos ops.Init (unknown_function w) None)
    (no_object (function_declared w around named (parameters_of steps types named.pos) types result false))

-- what is no typedef name is a function or an object, by its type
abbrev pub entity_declared : World → Context → List StorageWord → List Step → DeclaredName → Bool → Form → Outcome Declares
entity_declared w around storage steps named has_init (Callable types result) = prototype_declared w around steps named types result has_init
entity_declared w around storage steps named has_init form = object_declared w around storage named form has_init

abbrev pub name_declared : Context → List StorageWord → List Step → DeclaredName → Bool → Outcome Form → Outcome Declares
name_declared around storage steps named has_init (Refused r) = Refused r
name_declared around storage steps named has_init (Typed form w) =
    if is_word Typedef storage then typedef_declared w named form else entity_declared w around storage steps named has_init form

-- what a declarator with its specs declares
abbrev pub declared : World → Context → Pos → List StorageWord → Form → Bool → Shape → Outcome Declares
declared w around first storage base has_init shape =
    with_its_name first shape.name (λ named. name_declared around storage shape.steps named has_init (laid w named.pos shape.steps base))

-- ---- initialisers of declarators

-- what a declaration in a block is in the typed program: the automatic objects that it adds to the block, and its statements
pub record Made : Type 0 where
  pub objects : List ℕ
  pub items : TStmtTrees

abbrev pub nothing_made : Made
nothing_made = record { objects = []; items = none }

unfoldable pub both : TStmtTrees → TStmtTrees → TStmtTrees
both none ys = ys
both (more x rest) ys = more x (both rest ys)

abbrev pub made_then : Made → Made → Made
made_then a b = record { objects = a.objects ++ b.objects; items = both a.items b.items }

-- an array without size has the size of its initialiser (C11 6.7.9p22)
abbrev pub measured_type : CTypeTree → ℕ → CTypeTree
measured_type (Array of is_const n) count = Array of is_const count
measured_type ty count = ty

-- an object whose size is told now, which counts among the sizes from here on; none takes more than 2 to the 40 bytes (this profile)
abbrev pub sized_now : World → ObjectNow → CTypeTree → ℕ → Outcome CTypeTree
sized_now w object ty size =
    unless (nat_lt (2 ^ 40) size) (ObjectTooLarge object.pos (2 ^ 40))
    (within_limits object.pos size w (Typed ty (with_total (with_sized w object.number ty size) size)))

abbrev pub size_or_zero : World → CTypeTree → ℕ
size_or_zero w ty = unwrap_or (size_in w.structs ty) 0

-- an array of no elements gets no size (C11 6.7.6.2p1, this profile)
abbrev pub measured : World → ObjectNow → Initialised → Outcome CTypeTree
measured w object by =
    if object.measured
    then unless (by.count == 0) (NotConstant object.pos)
    (sized_now w object (measured_type object.ty by.count) (size_or_zero w (measured_type object.ty by.count)))
    else Typed object.ty w

-- an object that begins to live in its block
abbrev pub automatic : ObjectNow → List TInitTree → Bool → Made
automatic object items zeroes_rest = record { objects = object.number ∷ []; items = more (Declare object.pos object.number items zeroes_rest) none }

abbrev pub static_made : ObjectNow → Made
static_made object = record { objects = []; items = more (stmts.Static object.pos object.number) none }

-- what stands for the declarator in a block, with these items of its initialiser
abbrev pub made_of : ObjectNow → List TInitTree → Bool → Made
made_of object items zeroes_rest =
    if object.in_block then (if object.is_static then static_made object else automatic object items zeroes_rest) else nothing_made

-- the bytes with which a static object begins (C11 6.7.9p4)
abbrev pub with_static : World → ObjectNow → CTypeTree → Initialised → World
with_static w object ty by =
    if object.is_static then with_initial w object.number (static_bytes w.objects (size_or_zero w ty) by.items) else w

abbrev pub initialised : World → ObjectNow → Initialised → Outcome CTypeTree → Outcome Made
initialised w object by (Typed ty v) = Typed (made_of object by.items by.zeroes_rest) (with_static v object ty by)
initialised w object by (Refused r) = Refused r

abbrev pub frame_for : World → ObjectNow → Frame
frame_for w object = if object.measured then open_frame object.ty else frame_of w.structs (whole_part object.ty)

-- the initialiser of what was declared; what has no object here is no statement
abbrev pub TypesInitOf : World → Declares → Option InitTree → Outcome Made → Type 0
TypesInitOf w NoObject init o = Is (Typed nothing_made w) o
TypesInitOf w (AnObject object) None o = Is (Typed (made_of object [] false) w) o
TypesInitOf w (AnObject object) (Some init) o =
    Then (TypesInit w object.is_static object.ty (frame_for w object) init) (λ by w1. Is (initialised w1 object by (measured w1 object by))) o

-- ---- declarations

-- declarators from left to right, each before what follows it (C11 6.7)
unfoldable pub TypesInitDeclarators : World → Context → Pos → List StorageWord → Form → Made → List InitDeclaratorTree → Outcome Made → Type 0
TypesInitDeclarators w around first storage base done [] o = Is (Typed done w) o
TypesInitDeclarators w around first storage base done (item ∷ rest) o =
    Then (TypesDeclarator w item.declarator) (λ shape w1.
    Then (Is (declared w1 around first storage base (is_some item.init) shape)) (λ what w2.
    Then (TypesInitOf w2 what item.init) (λ made w3. TypesInitDeclarators w3 around first storage base (made_then done made) rest))) o

-- a declaration that is `struct S;` and nothing more (C11 6.7.2.3p7)
abbrev pub is_struct_alone : written.SpecTrees → List InitDeclaratorTree → Bool
is_struct_alone (written.more_specs (written.Struct at tag) written.no_specs) [] = true
is_struct_alone specs items = false

abbrev pub TypesDecl : World → Context → DeclTree → Outcome Made → Type 0
TypesDecl w around decl o =
    Then (TypesSpecs w (is_struct_alone decl.specs decl.inits) no_specs_yet decl.specs) (λ s w1.
    Then (Is (type_told OfDeclaration (first_of decl.pos decl.specs) s w1)) (λ base w2.
    TypesInitDeclarators w2 around (first_of decl.pos decl.specs) s.storage base nothing_made decl.inits)) o
