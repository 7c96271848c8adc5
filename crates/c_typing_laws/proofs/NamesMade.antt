-- A name is declared in one of the ways.
use Rattle.std.proofs.Common.{◌≡◌, ℕ, true, false, List, [], ◌∷◌, length, refl, sym, subst}
use Rattle.std.proofs.lemmas.Bool.{false≢true, and_parts}
use Rattle.std.proofs.lemmas.Option.{none-some}
use Rattle.std.specs.Prelude.{◌+◌, Bool, not, ◌&&◌, nat_lt, if◌then◌else◌, Option, None, Some}
use Rattle.c_syntax_written.specs.declared.place.Pos.{Pos}
use Rattle.c_syntax_written.specs.declared.construct.Construct.TheVariants as constructs
use Rattle.c_syntax_written.specs.declared.written.StorageWord.{StorageWord}
use Rattle.c_syntax_written.specs.declared.written.StorageWord.TheVariants.{Typedef, Extern, Static}
use Rattle.c_syntax.specs.declared.op.Op.TheVariants as ops
use Rattle.c_syntax.specs.Types.{CTypeTree, Void, Int, Pointer, Array, Struct}
use Rattle.c_syntax.specs.Types as types
use Rattle.c_typing.specs.World.{World, Form, Plain, Unsized, Callable, Meaning, Object, Missing, Parameter, Function, TypeName, Enumeration, Binding, Linked, Refusal, no_rule, NotConstant, ObjectTooLarge, Unsupported, Outcome, Typed, Refused}
use Rattle.c_typing.specs.Names as names
use Rattle.c_layout.specs.Layout.{size_in, sized}
use Rattle.c_typing.specs.Operands.{is_unsized, told_size, complete_size}
use Rattle.c_typing.specs.Typing.{with_its_name}
use Rattle.c_typing.specs.Declarators.{DeclaredName, ParameterTree, Step, PointerTo, ArrayOf, OpenArray, FunctionOf, Shape, unknown_function, if_sized, pointer_form, array_form, open_form, result_form, function_form, step_form, after_step, laid, types_of_params}
use Rattle.c_typing.specs.Context.{Context, has_name}
use Rattle.c_typing.specs.Decls as decls
use Rattle.c_typing.specs.Decls.{FileObject, Declares, AnObject, NoObject, file_object_of, is_word}
use Rattle.c_typing_laws.specs.NameSteps.{with_sum, IsObjectForm, complete, open_array, IsFileSize, told, not_told, MakesFunction, reserved_function, new_name, known_name, MakesName, type_name, reserved, first_function, function_again, local, local_open, first_object, first_missing, object_again, missing_again}
use Rattle.c_typing_laws.proofs.Outcomes.{TypedAs, typed_as, refused_as, as_if, as_unless, as_declared, as_size, as_limits}

-- ---- declarators are laid in a world that stays

pub data StaysAt {A : Type 0} (w : World) : Outcome A → Type 0 where
  stays_at : {a : A} → StaysAt w (Typed a w)
  refused_at : {r : Refusal} → StaysAt w (Refused r)

sized_stays : {A : Type 0} (w : World) (r : Refusal) (outcome : ℕ → Outcome A) (size : Option ℕ) → ((n : ℕ) → StaysAt w (outcome n)) → StaysAt w (if_sized r outcome size)
sized_stays w r outcome None f = refused_at
sized_stays w r outcome (Some n) f = f n

if_stays : {A : Type 0} {w : World} (b : Bool) {x y : Outcome A} → StaysAt w x → StaysAt w y → StaysAt w (if b then x else y)
if_stays true p q = p
if_stays false p q = q

pointer_stays : (w : World) (at : Pos) (c : Bool) (form : Form) → StaysAt w (pointer_form w at c form)
pointer_stays w at c (Plain ty d) = stays_at
pointer_stays w at c (Unsized ty d) = refused_at
pointer_stays w at c (Callable params result) = refused_at

array_stays : (w : World) (at size_at : Pos) (n : ℕ) (form : Form) → StaysAt w (array_form w at size_at n form)
array_stays w at size_at n (Plain ty c) = sized_stays w _ _ (complete_size w.structs ty) (λ size. if_stays _ refused_at stays_at)
array_stays w at size_at n (Unsized ty c) = refused_at
array_stays w at size_at n (Callable params result) = refused_at

open_stays : (w : World) (at : Pos) (form : Form) → StaysAt w (open_form w at form)
open_stays w at (Plain ty c) = sized_stays w _ _ (complete_size w.structs ty) (λ size. stays_at)
open_stays w at (Unsized ty c) = refused_at
open_stays w at (Callable params result) = refused_at

result_stays : (w : World) (at : Pos) (params : List CTypeTree) (ty : CTypeTree) → StaysAt w (result_form w at params ty)
result_stays w at params Void = stays_at
result_stays w at params (Int t) = stays_at
result_stays w at params (Pointer to c) = stays_at
result_stays w at params (Array of c n) = refused_at
result_stays w at params (Struct n) = refused_at
result_stays w at params (types.Function n) = stays_at

function_stays : (w : World) (at : Pos) (params : List CTypeTree) (form : Form) → StaysAt w (function_form w at params form)
function_stays w at params (Plain ty c) = result_stays w at params ty
function_stays w at params (Unsized ty c) = refused_at
function_stays w at params (Callable types result) = refused_at

step_stays : (w : World) (at : Pos) (step : Step) (form : Form) → StaysAt w (step_form w at step form)
step_stays w at (PointerTo c) form = pointer_stays w at c form
step_stays w at (ArrayOf size_at n) form = array_stays w at size_at n form
step_stays w at OpenArray form = open_stays w at form
step_stays w at (FunctionOf params names tags) form = function_stays w at (types_of_params params) form

after_stays : {w : World} (at : Pos) (step : Step) (o : Outcome Form) → StaysAt w o → StaysAt w (after_step w at step o)
after_stays {w = w} at step (Typed form v) p = step_stays w at step form
after_stays at step (Refused r) p = refused_at

pub laid_stays : (w : World) (at : Pos) (steps : List Step) (base : Form) → StaysAt w (laid w at steps base)
unfolding laid
laid_stays w at [] base = stays_at
laid_stays w at (step ∷ rest) base = after_stays at step _ (laid_stays w at rest base)

-- ---- ways of names

-- the entity that a name has already agrees
abbrev Agreed : (Meaning → Bool) → Option Linked → Type 0
Agreed agrees None = Unit {0}
Agreed agrees (Some l) = agrees l.meaning ≡ true

other_as :
    {A : Type 0} {P : A → World → Type 0} (at : Pos) (b : Option Binding) (l : Option Linked) (agrees : Meaning → Bool) (outcome : Option Linked → Outcome A)
    → ((m : Option Linked) → l ≡ m → Agreed agrees m → TypedAs P (outcome m)) → TypedAs P (decls.unless_other at b l agrees outcome)
other_as at None None agrees outcome f = f None refl tt
other_as at None (Some l) agrees outcome f = as_if (agrees l.meaning) (λ e. f (Some l) refl e) (λ e. refused_as)
other_as at (Some b) None agrees outcome f = refused_as
other_as at (Some b) (Some l) agrees outcome f =
    as_if (decls.is_same_entity b.meaning l.meaning && agrees l.meaning)
    (λ e. f (Some l) refl (and_parts (decls.is_same_entity b.meaning l.meaning) (agrees l.meaning) e).1) (λ e. refused_as)

main_as : {A : Type 0} {P : A → World → Type 0} (named : DeclaredName) (is_so : Bool) {o : Outcome A} → TypedAs P o → TypedAs P (decls.unless_main_shape named is_so o)
main_as named is_so p = as_unless (decls.is_named_main named.name && not is_so) (Unsupported named.pos constructs.MainShape) (λ e. p)

-- functions

again_as :
    (around : Context) (w : World) (named : DeclaredName) (params : List ParameterTree) (types : List CTypeTree) (result : CTypeTree) (has_body : Bool) (l : Option Linked)
    → names.is_reserved named.name ≡ false → names.linked_as w named.name ≡ l → Agreed (decls.is_function_so w types result has_body) l
    → TypedAs (MakesFunction around w named params types result has_body) (decls.function_again w around named params types result l)
again_as around w named params types result has_body None r e a = typed_as (new_name r e)
again_as around w named params types result has_body (Some l) r e a = typed_as (known_name l e a)

pub function_as :
    (around : Context) (w : World) (named : DeclaredName) (params : List ParameterTree) (types : List CTypeTree) (result : CTypeTree) (has_body : Bool)
    → TypedAs (MakesFunction around w named params types result has_body) (decls.function_declared w around named params types result has_body)
function_as around w named params types result has_body =
    as_if (names.is_reserved named.name)
    (λ r. as_if (decls.is_input_type types result (names.input_type named.name) && not has_body)
    (λ e. typed_as (reserved_function r (no_body has_body (and_parts (decls.is_input_type types result (names.input_type named.name)) (not has_body) e).1))) (λ e. refused_as))
    (λ r. other_as named.pos (decls.binding_here w named.name) (names.linked_as w named.name) (decls.is_function_so w types result has_body) _
    (λ l e a. main_as named (decls.is_main_shape types result) (again_as around w named params types result has_body l r e a)))
  where
    no_body : (b : Bool) → not b ≡ true → b ≡ false
    no_body true e = absurd (false≢true e)
    no_body false e = refl

-- a prototype, as a name
prototype :
    {around : Context} {w : World} {storage : List StorageWord} {steps : List Step} {base : Form} {has_init : Bool} {named : DeclaredName} {types : List CTypeTree} {result : CTypeTree}
    (o : Outcome (Option ℕ)) → laid w named.pos steps base ≡ Typed (Callable types result) w
    → TypedAs (MakesFunction around w named (decls.parameters_of steps types named.pos) types result false) o
    → TypedAs (MakesName around w storage steps base has_init named) (decls.no_object o)
prototype _ e (typed_as (reserved_function r b)) = typed_as (reserved r)
prototype _ e (typed_as (new_name r n)) = typed_as (first_function _ _ r e n)
prototype _ e (typed_as (known_name l n so)) = typed_as (function_again _ _ l n so)
prototype _ e refused_as = refused_as

-- objects of a block

local_as :
    {around : Context} {w : World} {storage : List StorageWord} {steps : List Step} {base : Form} {named : DeclaredName} (form : Form) (is_static has_init : Bool)
    → around.in_block ≡ true → laid w named.pos steps base ≡ Typed form w
    → TypedAs (MakesName around w storage steps base has_init named) (decls.local_declared w named form is_static has_init)
local_as {w = w} {named = named} (Plain ty c) is_static has_init b e =
    as_size _ _ (complete_size w.structs ty) (λ size s. as_declared named.pos (names.first_here w named.pos named.name) (λ d.
    as_limits named.pos size w (typed_as {a = AnObject (decls.local_now w named ty is_static false)} (local ty c is_static size b e s))))
local_as {w = w} {named = named} (Unsized of c) is_static has_init b e =
    as_declared named.pos (names.first_here w named.pos named.name) (λ d.
    as_unless (not has_init) (NotConstant named.pos) (λ h. typed_as {a = AnObject (decls.local_now w named (Array of c 0) is_static true)} (local_open of c is_static b e (with_init has_init h))))
  where
    with_init : (b : Bool) → not b ≡ false → b ≡ true
    with_init true h = refl
    with_init false h = absurd (false≢true (sym h))
local_as (Callable params result) is_static has_init b e = refused_as

-- objects of the file

first_as :
    {around : Context} {w : World} {storage : List StorageWord} {steps : List Step} {base : Form} {has_init : Bool} {named : DeclaredName}
    (form : Form) (ty : CTypeTree) (c measured there : Bool) (size total : ℕ) → names.is_reserved named.name ≡ false → laid w named.pos steps base ≡ Typed form w → IsObjectForm w ty c form
    → names.linked_as w named.name ≡ None → has_name around.objects named.name ≡ there → IsFileSize w ty (file_object_of around storage named.name has_init) size measured
    → TypedAs (MakesName around w storage steps base has_init named)
    (Typed (decls.declares (if there then Some (length w.objects) else None) (decls.file_now named ty (file_object_of around storage named.name has_init) measured))
    (if there then decls.with_linked (decls.with_object (with_sum w total) (decls.object_of named ty c size true)) named (Object (length w.objects)) (file_object_of around storage named.name has_init).defines
    else decls.with_linked (with_sum w total) named (Missing ty c) false))
first_as form ty c measured true size total r e is n h s = typed_as (first_object form ty c measured size total r e is n h s)
first_as form ty c measured false size total r e is n h s = typed_as (first_missing ty c total r n h)

again_by :
    {around : Context} {w : World} {storage : List StorageWord} {steps : List Step} {base : Form} {has_init : Bool} {named : DeclaredName}
    (form : Form) (ty : CTypeTree) (c measured : Bool) (l : Linked) (m : Meaning) (size total : ℕ) → laid w named.pos steps base ≡ Typed form w → IsObjectForm w ty c form
    → names.linked_as w named.name ≡ Some l → l.meaning ≡ m → decls.is_object_again w ty c has_init m ≡ true
    → IsFileSize w (decls.composite_type w ty (Some l)) (file_object_of around storage named.name has_init) size measured
    → TypedAs (MakesName around w storage steps base has_init named)
    (Typed (decls.declares (decls.entity_object m) (decls.file_now named (decls.composite_type w ty (Some l)) (file_object_of around storage named.name has_init) measured))
    (decls.with_defined (names.with_name (decls.with_type (with_sum w total) named.name m (decls.composite_type w ty (Some l)) size) named.pos named.name m) named.name
    (file_object_of around storage named.name has_init).defines))
again_by form ty c measured l (Object n) size total e is k q a s = typed_as (object_again form ty c measured l n size total e is k q a s)
again_by {around = around} {w = w} {storage = storage} {has_init = has_init} {named = named} form ty c measured l (Missing t d) size total e is k q a s =
    typed_as (missing_again (decls.composite_type w ty (Some l)) t d l size total (file_object_of around storage named.name has_init).defines k q)
again_by form ty c measured l (Parameter i t d) size total e is k q a s = absurd (false≢true a)
again_by form ty c measured l (Function n) size total e is k q a s = absurd (false≢true a)
again_by form ty c measured l (TypeName f) size total e is k q a s = absurd (false≢true a)
again_by form ty c measured l (Enumeration n) size total e is k q a s = absurd (false≢true a)

-- with its size, in the program so far
placed :
    {around : Context} {w : World} {storage : List StorageWord} {steps : List Step} {base : Form} {has_init : Bool} {named : DeclaredName}
    (form : Form) (ty : CTypeTree) (c measured : Bool) (l : Option Linked) (size total : ℕ) → names.is_reserved named.name ≡ false → laid w named.pos steps base ≡ Typed form w → IsObjectForm w ty c form
    → names.linked_as w named.name ≡ l → Agreed (decls.is_object_again w ty c has_init) l
    → IsFileSize w (decls.composite_type w ty l) (file_object_of around storage named.name has_init) size measured
    → TypedAs (MakesName around w storage steps base has_init named)
    (Typed (decls.declares (decls.object_number w (file_object_of around storage named.name has_init) l)
    (decls.file_now named (decls.composite_type w ty l) (file_object_of around storage named.name has_init) measured))
    (decls.object_world (with_sum w total) named (decls.composite_type w ty l) c size (file_object_of around storage named.name has_init) l))
placed {around = around} {named = named} form ty c measured None size total r e is k a s = first_as form ty c measured (has_name around.objects named.name) size total r e is k refl s
placed form ty c measured (Some l) size total r e is k a s = again_by form ty c measured l l.meaning size total e is k refl a s

counted_as :
    {A : Type 0} {P : A → World → Type 0} (w : World) (at : Pos) (size : ℕ) (how : FileObject) (l : Option Linked) (outcome : World → Outcome A)
    → ((total : ℕ) → TypedAs P (outcome (with_sum w total))) → TypedAs P (decls.counted_once w at size how l outcome)
counted_as w at size how l outcome f =
    as_if (how.defines && not (decls.is_defined l)) (λ e. as_limits at size w (f (w.total + size)))
    (λ e. as_unless (how.is_there && nat_lt names.object_limit size) (ObjectTooLarge at size) (λ d. f w.total))

-- the type of a declaration is complete, or that of an array without size
abbrev IsComplete : World → Form → Type 0
IsComplete w (Plain ty c) = (size : ℕ) × (complete_size w.structs ty ≡ Some size)
IsComplete w (Unsized of c) = Unit {0}
IsComplete w (Callable params result) = Unit {0}

pub no_size : (w : World) (ty : CTypeTree) (size : ℕ) → complete_size w.structs ty ≡ Some size → is_unsized ty ≡ true → ⊥
no_size w ty size e u = by (is_unsized ty) u e
  where
    by : (b : Bool) → b ≡ true → (if b then None else told_size (sized (size_in w.structs ty))) ≡ Some size → ⊥
    by true u e = none-some size e
    by false u e = false≢true u

-- an array without size is not const by itself
open_const : (w : World) (ty : CTypeTree) (c : Bool) (form : Form) → IsObjectForm w ty c form → IsComplete w form → is_unsized ty ≡ true → c ≡ false
open_const w ty c _ (complete _ _) h e = absurd (no_size w ty h.0 h.1 e)
open_const w _ c _ (open_array of d) h e = refl

-- an array that has no size by any declaration so far
unsized_as :
    {around : Context} {w : World} {storage : List StorageWord} {steps : List Step} {base : Form} {has_init : Bool} {named : DeclaredName}
    (form : Form) (ty : CTypeTree) (c : Bool) (l : Option Linked) → names.is_reserved named.name ≡ false → laid w named.pos steps base ≡ Typed form w → IsObjectForm w ty c form → IsComplete w form
    → names.linked_as w named.name ≡ l → Agreed (decls.is_object_again w ty c has_init) l → is_unsized (decls.composite_type w ty l) ≡ true
    → TypedAs (MakesName around w storage steps base has_init named)
    (decls.file_unsized w named (decls.composite_type w ty l) (file_object_of around storage named.name has_init) l)
unsized_as {around = around} {w = w} {storage = storage} {has_init = has_init} {named = named} form ty c None r e is h k a u =
    let how = file_object_of around storage named.name has_init in
    as_unless (how.defines && not how.has_init) (NotConstant named.pos) (λ d. main_as named false
    (placed form ty false has_init None 0 w.total r e (subst (λ b. IsObjectForm w ty b form) (open_const w ty c form is h u) is) k tt (not_told u d)))
unsized_as {around = around} {w = w} {storage = storage} {has_init = has_init} {named = named} form ty c (Some l) r e is h k a u =
    let how = file_object_of around storage named.name has_init in
    as_unless (how.defines && not how.has_init) (NotConstant named.pos) (λ d. main_as named false
    (placed form ty c has_init (Some l) 0 w.total r e is k a (not_told u d)))

sized_as :
    {around : Context} {w : World} {storage : List StorageWord} {steps : List Step} {base : Form} {has_init : Bool} {named : DeclaredName}
    (form : Form) (ty : CTypeTree) (c : Bool) (l : Option Linked) → names.is_reserved named.name ≡ false → laid w named.pos steps base ≡ Typed form w → IsObjectForm w ty c form
    → names.linked_as w named.name ≡ l → Agreed (decls.is_object_again w ty c has_init) l → is_unsized (decls.composite_type w ty l) ≡ false
    → TypedAs (MakesName around w storage steps base has_init named)
    (decls.file_sized w named (decls.composite_type w ty l) c (file_object_of around storage named.name has_init) l)
sized_as {around = around} {w = w} {storage = storage} {has_init = has_init} {named = named} form ty c l r e is k a u =
    as_size _ _ (complete_size w.structs (decls.composite_type w ty l)) (λ size s.
    counted_as w named.pos size (file_object_of around storage named.name has_init) l
    (λ v. decls.unless_main_shape named false (Typed (decls.declares (decls.object_number w (file_object_of around storage named.name has_init) l)
    (decls.file_now named (decls.composite_type w ty l) (file_object_of around storage named.name has_init) false))
    (decls.object_world v named (decls.composite_type w ty l) c size (file_object_of around storage named.name has_init) l))) (λ total. main_as named false
    (placed form ty c false l size total r e is k a (told u s))))

file_as :
    {around : Context} {w : World} {storage : List StorageWord} {steps : List Step} {base : Form} {has_init : Bool} {named : DeclaredName}
    (form : Form) (ty : CTypeTree) (c : Bool) → laid w named.pos steps base ≡ Typed form w → IsObjectForm w ty c form → IsComplete w form
    → TypedAs (MakesName around w storage steps base has_init named) (decls.file_declared w named ty c (file_object_of around storage named.name has_init))
file_as {around = around} {w = w} {storage = storage} {has_init = has_init} {named = named} form ty c e is h =
    let how = file_object_of around storage named.name has_init in
    as_unless (how.in_block && how.has_init) (no_rule w named.pos ops.Init ty None) (λ d.
    as_if (names.is_reserved named.name) (λ r. refused_as) (λ r.
    other_as named.pos (decls.binding_here w named.name) (names.linked_as w named.name) (decls.is_object_again w ty c has_init) _ (λ l k a.
    as_if (is_unsized (decls.composite_type w ty l)) (λ u. unsized_as form ty c l r e is h k a u) (λ u. sized_as form ty c l r e is k a u))))

form_as :
    {around : Context} {w : World} {storage : List StorageWord} {steps : List Step} {base : Form} {has_init : Bool} {named : DeclaredName} (form : Form)
    → laid w named.pos steps base ≡ Typed form w
    → TypedAs (MakesName around w storage steps base has_init named) (decls.file_form w named form (file_object_of around storage named.name has_init))
form_as {w = w} (Plain ty c) e = as_size _ _ (complete_size w.structs ty) (λ size s. file_as (Plain ty c) ty c e (complete ty c) (size, s))
form_as (Unsized of c) e = file_as (Unsized of c) (Array of c 0) false e (open_array of c) tt
form_as (Callable params result) e = refused_as

-- ---- all of them

typedef_as :
    {around : Context} {w : World} {storage : List StorageWord} {steps : List Step} {base : Form} {has_init : Bool} {named : DeclaredName} (form : Form)
    → is_word Typedef storage ≡ true → laid w named.pos steps base ≡ Typed form w → TypedAs (MakesName around w storage steps base has_init named) (decls.typedef_declared w named form)
typedef_as (Plain ty c) t e = as_declared _ _ (λ d. typed_as (type_name _ t e))
typedef_as (Unsized of c) t e = as_declared _ _ (λ d. refused_as)
typedef_as (Callable params result) t e = as_declared _ _ (λ d. typed_as (type_name _ t e))

object_as :
    {around : Context} {w : World} {storage : List StorageWord} {steps : List Step} {base : Form} {named : DeclaredName} (form : Form) (has_init : Bool)
    → laid w named.pos steps base ≡ Typed form w → TypedAs (MakesName around w storage steps base has_init named) (decls.object_declared w around storage named form has_init)
object_as {around = around} {storage = storage} form has_init e =
    as_if (around.in_block && not (is_word Extern storage)) (λ b. local_as form (is_word Static storage) has_init (and_parts around.in_block (not (is_word Extern storage)) b).0 e) (λ b. form_as form e)

entity_as :
    {around : Context} {w : World} {storage : List StorageWord} {steps : List Step} {base : Form} {named : DeclaredName} (form : Form) (has_init : Bool)
    → laid w named.pos steps base ≡ Typed form w
    → TypedAs (MakesName around w storage steps base has_init named) (decls.entity_declared w around storage steps named has_init form)
entity_as {around = around} {w = w} {steps = steps} {named = named} (Callable types result) has_init e =
    as_unless has_init (no_rule w named.pos ops.Init (unknown_function w) None) (λ h. prototype _ e (function_as around w named (decls.parameters_of steps types named.pos) types result false))
entity_as (Plain ty c) has_init e = object_as (Plain ty c) has_init e
entity_as (Unsized of c) has_init e = object_as (Unsized of c) has_init e

name_as :
    {around : Context} {w : World} {storage : List StorageWord} {steps : List Step} {base : Form} {named : DeclaredName} (has_init : Bool) (o : Outcome Form)
    → laid w named.pos steps base ≡ o → StaysAt w o → TypedAs (MakesName around w storage steps base has_init named) (decls.name_declared around storage steps named has_init o)
name_as {storage = storage} has_init (Typed form _) e stays_at = as_if (is_word Typedef storage) (λ t. typedef_as form t e) (λ t. entity_as form has_init e)
name_as has_init (Refused r) e s = refused_as

-- what a declarator declares, by its name
pub data MakesNamed (around : Context) (w : World) (storage : List StorageWord) (base : Form) (has_init : Bool) (shape : Shape) (what : Declares) (v : World) : Type 0 where
  by_name : {named : DeclaredName} → shape.name ≡ Some named → MakesName around w storage shape.steps base has_init named what v → MakesNamed around w storage base has_init shape what v

with_its_name_as :
    {around : Context} {w : World} {storage : List StorageWord} {base : Form} {has_init : Bool} {shape : Shape} (first : Pos) (name : Option DeclaredName) (outcome : DeclaredName → Outcome Declares)
    → shape.name ≡ name → ((named : DeclaredName) → TypedAs (MakesName around w storage shape.steps base has_init named) (outcome named))
    → TypedAs (MakesNamed around w storage base has_init shape) (with_its_name first name outcome)
with_its_name_as first None outcome e f = refused_as
with_its_name_as {around} {w} {storage} {base} {has_init} {shape} first (Some named) outcome e f = by (outcome named) (f named)
  where
    by : (o : Outcome Declares) → TypedAs (MakesName around w storage shape.steps base has_init named) o → TypedAs (MakesNamed around w storage base has_init shape) o
    by _ (typed_as p) = typed_as (by_name e p)
    by _ refused_as = refused_as

pub declared_as :
    (around : Context) (w : World) (first : Pos) (storage : List StorageWord) (base : Form) (has_init : Bool) (shape : Shape)
    → TypedAs (MakesNamed around w storage base has_init shape) (decls.declared w around first storage base has_init shape)
declared_as around w first storage base has_init shape =
    with_its_name_as first shape.name _ refl (λ named. name_as has_init (laid w named.pos shape.steps base) refl (laid_stays w named.pos shape.steps base))
