-- Initialisers and declarations only make the changes of Reaches.
use Rattle.std.proofs.Common.{◌≡◌, refl, ap, sym, subst, ◌∙◌, ⊎_elim, arith}
use Rattle.std.proofs.lemmas.Option.{none-some, same_Some}
use Rattle.std.proofs.lemmas.Bool.{false≢true, and_parts, or_cases, eqb-true}
use Rattle.std.specs.Prelude.{ℕ, zero, suc, ◌+◌, ◌||◌, ◌++◌, IsSomeAnd, option_map, unwrap_or, slice_get, set, ◌^◌, ◌==◌, nat_lt, Bool, true, false, not, ◌&&◌, is_some, if◌then◌else◌, Option, Some, None, List, [], ◌∷◌, length}
use Rattle.c_syntax_written.specs.declared.place.Pos.{Pos}
use Rattle.c_syntax_written.specs.declared.construct.Construct.TheVariants as constructs
use Rattle.c_syntax_written.specs.declared.written.StorageWord.{StorageWord}
use Rattle.c_syntax_written.specs.declared.written.StorageWord.TheVariants.{Typedef, Extern}
use Rattle.c_syntax_written.specs.Written as written
use Rattle.c_syntax_written.specs.WrittenParts.{expr_pos}
use Rattle.c_syntax_written.specs.WrittenDecl as inits
use Rattle.c_syntax_written.specs.WrittenDecl.{InitTree, InitTrees, DeclTree, InitDeclaratorTree}
use Rattle.c_syntax.specs.declared.op.Op.TheVariants as ops
use Rattle.c_syntax.specs.Types.{CTypeTree, Void, Int, Pointer, Array, Struct, ObjectTree}
use Rattle.c_syntax.specs.Types as types
use Rattle.c_syntax.specs.Program.{StructDefTree}
use Rattle.c_typing.proofs.Changes.{Changes, Constants, Any}
use Rattle.c_typing.specs.World.{World, Form, Plain, Unsized, Callable, Meaning, Object, Missing, Parameter, Function, TypeName, Enumeration, Binding, Linked, Refusal, no_rule, NotConstant, ObjectTooLarge, TotalTooLarge, Unsupported, Outcome, Typed, Refused, Then, goes_on, stops, Is}
use Rattle.c_typing.specs.Names as names
use Rattle.c_typing.specs.Operands.{is_unsized, complete_size}
use Rattle.c_typing.specs.Rows.{Stored}
use Rattle.c_typing.specs.Specifiers as specifiers
use Rattle.c_typing.specs.Declarators.{DeclaredName, ParameterTree, Step, Shape, unknown_function}
use Rattle.c_typing.specs.Typing as typing
use Rattle.c_typing.specs.CurrentObject.{Part, Aggregates, Frame}
use Rattle.c_typing.specs.Inits as lists
use Rattle.c_typing.specs.Inits.{AtPart, Either, Into, Initialised, TypedAndRefused, WithText, TypesItems, TypesInBraces, ByValue, ByText, TypesInit, whole_part}
use Rattle.c_typing.specs.Context.{Context}
use Rattle.c_typing.specs.SameTypes.{is_same_truth, is_same}
use Rattle.c_typing.specs.Laws.{IsLastType, same, sized}
use Rattle.c_typing.specs.Decls as decls
use Rattle.c_typing.specs.Decls.{Declares, AnObject, NoObject, ObjectNow, FileObject, Made, TypesInitOf, TypesInitDeclarators, TypesDecl}
use Rattle.c_typing.proofs.Reaches as reaches
use Rattle.c_typing.specs.Formed.{IsFormedForm, IsFormedMeaning}
use Rattle.c_typing.proofs.Later.{form_later}
use Rattle.c_typing.proofs.Same.{one_type, one_truth}
use Rattle.c_typing.proofs.MadeTables.{get_last, get_set}
use Rattle.c_typing.proofs.Good.{Good, is_later}
use Rattle.c_typing.proofs.FormsGo.{FormAt, formed_at, AreFormedSteps, type_told_at, laid_at}
use Rattle.c_typing.proofs.Reaches.{Reaches, Kept, Goes, typed, refused, goes_same, goes_if, goes_unless, goes_after, AllGo, GoesWith, typed_so, refused_so, AllWith, all_forget, is_with, with_after, with_if, with_reached, then_with, so_with, then_goes, is_goes, IsPrefix, quiet}
use Rattle.c_typing.proofs.NodesGo.{within_limits}
use Rattle.c_typing.proofs.TypesGo.{with_unless, with_declared, with_size, its_name, SpecsIn, none_yet, ShapeIn, steps_formed, valued, go, go_specs, go_declarator}

-- ---- initialisers

pub filled_by : {may : Changes} (w : World) (static : Bool) (part : Part) (at : Pos) (r : Refusal) (stored : Option Stored) → Goes may w (lists.filled_by w static part at r stored)
filled_by w static part at r None = refused
filled_by w static part at r (Some stored) = goes_unless _ _ goes_same

pub fill_text : {may : Changes} (w : World) (part : Part) (n : ℕ) (at : Pos) (text : List ℕ) → Goes may w (lists.fill_text w part n at text)
fill_text w part n at text = goes_unless _ _ goes_same

pub at_part : {may : Changes} {A : Type 0} {w : World} (part : Option Part) {full : Outcome A → Type 0} {next : Part → Outcome A → Type 0} → AllGo may w full → ((p : Part) → AllGo may w (next p)) → AllGo may w (AtPart part full next)
unfolding AtPart
at_part None f g = f
at_part (Some p) f g = g p

pub either : {may : Changes} {A : Type 0} {w : World} (b : Bool) {x y : Outcome A → Type 0} → AllGo may w x → AllGo may w y → AllGo may w (Either b x y)
unfolding Either
either true f g = f
either false f g = g

pub into : {may : Changes} {A : Type 0} {w : World} {structs : _} {takes : CTypeTree → Bool} {part : Part} {a : Aggregates} {next : Part → Aggregates → Outcome A → Type 0} → ((p : Part) (b : Aggregates) → AllGo may w (next p b)) → AllGo may w (Into structs takes part a next)
into f good o s = f s.part2 s.after good o s.goes

pub with_text : {may : Changes} (w : World) (static : Bool) (part : Part) (at : Pos) (text : List ℕ) → AllGo may w (WithText w static part at text)
with_text w static part at text =
    either _ (is_goes (fill_text w part _ at text))
    (then_goes (valued (go w (written.Strings at text))) (λ x v r. then_goes (is_goes (filled_by v static part at _ _)) (λ item v2 r2. is_goes goes_same)))

pub typed_and_refused : {may : Changes} {A : Type 0} (w : World) (e : written.ExprTree) (refusal : World → Refusal) → AllGo may w (TypedAndRefused {A = A} w e refusal)
typed_and_refused w e refusal = then_goes (valued (go w e)) (λ x v r. is_goes refused)

mutual
  unfolding TypesItems TypesInBraces

  pub go_inits : {may : Changes} (w : World) (static : Bool) (all : CTypeTree) (done : _) (items : InitTrees) → AllGo may w (TypesItems w static all done items)
  go_inits w static all done inits.no_inits = is_goes goes_same
  go_inits w static all done (inits.more_inits (inits.Braces at inner) rest) =
      at_part _ (is_goes refused) (λ part. either _ (go_in_braces w _ at inner)
      (then_goes (go_inits w static _ _ inner) (λ filled v r. go_inits v static all _ rest)))
  go_inits w static all done (inits.more_inits (inits.Value (written.Strings at text)) rest) =
      either _ (then_goes (is_goes (fill_text w _ _ at text)) (λ items v r. go_inits v static all _ rest))
      (at_part _ (typed_and_refused w _ _) (λ part. into (λ inner after. then_goes (with_text w static inner at text) (λ items v r. go_inits v static all _ rest))))
  go_inits w static all done (inits.more_inits (inits.Value e) rest) =
      at_part _ (typed_and_refused w e _) (λ part. then_goes (valued (go w e)) (λ x v r. into (λ inner after.
      then_goes (is_goes (filled_by v static inner (expr_pos e) _ _)) (λ item v2 r2. go_inits v2 static all _ rest))))

  pub go_in_braces : {may : Changes} (w : World) (refusal : _) (at : Pos) (items : InitTrees) → AllGo may w (TypesInBraces w refusal at items)
  go_in_braces w refusal at inits.no_inits = is_goes refused
  go_in_braces w refusal at (inits.more_inits (inits.Braces inner_at inner) rest) = go_in_braces w refusal inner_at inner
  go_in_braces w refusal at (inits.more_inits (inits.Value e) rest) = typed_and_refused w e _

pub by_value : {may : Changes} (w : World) (static : Bool) (ty : CTypeTree) (e : written.ExprTree) → AllGo may w (ByValue w static ty e)
by_value w static ty e =
    then_goes (valued (go w e)) (λ x v r. then_goes (is_goes (filled_by v static (whole_part ty) (expr_pos e) _ _)) (λ item v2 r2. is_goes goes_same))

pub init : {may : Changes} (w : World) (static : Bool) (ty : CTypeTree) (frame : Frame) (tree : InitTree) → AllGo may w (TypesInit w static ty frame tree)
init w static ty frame (inits.Braces at items) = then_goes (go_inits w static ty _ items) (λ filled v r. is_goes goes_same)
init w static ty frame (inits.Value (written.Strings at text)) =
    either _ (then_goes (is_goes (fill_text w _ _ at text)) (λ items v r. is_goes goes_same)) (by_value w static ty (written.Strings at text))
init w static ty frame (inits.Value e) = by_value w static ty e

-- ---- what is declared

-- the entity that a name has already agrees
abbrev Agreed : (Meaning → Bool) → Option Linked → Type 0
Agreed agrees None = Unit {0}
Agreed agrees (Some l) = agrees l.meaning ≡ true

agreed_if : {A : Type 0} (Q : Outcome A → Type 0) (b : Bool) {x y : Outcome A} → (b ≡ true → Q x) → Q y → Q (if b then x else y)
agreed_if Q true f q = f refl
agreed_if Q false f q = q

-- what holds of each refusal, and of what comes where the entity agrees
pub unless_other :
    {A : Type 0} (Q : Outcome A → Type 0) (at : Pos) (b : Option Binding) (l : Option Linked) (agrees : Meaning → Bool) (outcome : Option Linked → Outcome A)
    → ((r : Refusal) → Q (Refused r)) → ((m : Option Linked) → l ≡ m → Agreed agrees m → Q (outcome m)) → Q (decls.unless_other at b l agrees outcome)
unless_other Q at None None agrees outcome r f = f None refl tt
unless_other Q at None (Some l) agrees outcome r f = agreed_if Q (agrees l.meaning) (λ e. f (Some l) refl e) (r _)
unless_other Q at (Some b) None agrees outcome r f = r _
unless_other Q at (Some b) (Some l) agrees outcome r f =
    agreed_if Q (decls.is_same_entity b.meaning l.meaning && agrees l.meaning) (λ e. f (Some l) refl (and_parts (decls.is_same_entity b.meaning l.meaning) (agrees l.meaning) e).1) (r _)

-- an entity of the file is an object or a function, which names no type
function_formed : (w : World) (types : List CTypeTree) (result : CTypeTree) (has_body : Bool) (m : Meaning) → decls.is_function_so w types result has_body m ≡ true → IsFormedMeaning w.structs m
function_formed w types result has_body (Object n) e = tt
function_formed w types result has_body (Missing ty c) e = tt
function_formed w types result has_body (Parameter k ty c) e = absurd (false≢true e)
function_formed w types result has_body (Function n) e = tt
function_formed w types result has_body (TypeName form) e = absurd (false≢true e)
function_formed w types result has_body (Enumeration n) e = absurd (false≢true e)

object_formed :
    (w : World) (ty : CTypeTree) (c has_init : Bool) (m : Meaning) → decls.is_object_again w ty c has_init m ≡ true → (structs : List StructDefTree) → IsFormedMeaning structs m
object_formed w ty c has_init (Object n) e structs = tt
object_formed w ty c has_init (Missing t d) e structs = tt
object_formed w ty c has_init (Parameter k t d) e structs = absurd (false≢true e)
object_formed w ty c has_init (Function n) e structs = tt
object_formed w ty c has_init (TypeName form) e structs = absurd (false≢true e)
object_formed w ty c has_init (Enumeration n) e structs = absurd (false≢true e)

pub unless_main_shape : {may : Changes} {A : Type 0} {w : World} (named : DeclaredName) (is_so : Bool) {o : Outcome A} → Goes may w o → Goes may w (decls.unless_main_shape named is_so o)
unless_main_shape named is_so p = goes_unless (decls.is_named_main named.name && not is_so) (Unsupported named.pos constructs.MainShape) p

pub new_function :
    (w : World) (named : DeclaredName) (later : Bool) (params : List ParameterTree) (types : List CTypeTree) (result : CTypeTree)
    → names.linked_as w named.name ≡ None → Reaches Any w (decls.new_function w named later params types result)
new_function w named true params types result none = reaches.function w named types _ refl none
new_function w named false params types result none = reaches.after _ _ _ (reaches.parameters w params) (reaches.function _ named types _ refl none)

pub function_again :
    (w : World) (around : Context) (named : DeclaredName) (params : List ParameterTree) (types : List CTypeTree) (result : CTypeTree) (has_body : Bool) (l : Option Linked)
    → names.linked_as w named.name ≡ l → Agreed (decls.is_function_so w types result has_body) l → Goes Any w (decls.function_again w around named params types result l)
function_again w around named params types result has_body None e a = typed (new_function w named _ params types result e)
function_again w around named params types result has_body (Some l) e a = typed (reaches.named w named.pos named.name _ (function_formed w types result has_body l.meaning a) tt)

pub function_declared : (w : World) (around : Context) (named : DeclaredName) (params : List ParameterTree) (types : List CTypeTree) (result : CTypeTree) (has_body : Bool) → Goes Any w (decls.function_declared w around named params types result has_body)
function_declared w around named params types result has_body =
    goes_if (names.is_reserved named.name)
    (goes_if (decls.is_input_type types result (names.input_type named.name) && not has_body) goes_same refused)
    (unless_other (Goes Any w) named.pos (decls.binding_here w named.name) (names.linked_as w named.name) (decls.is_function_so w types result has_body) _ (λ r. refused)
    (λ l e a. unless_main_shape named (decls.is_main_shape types result) (function_again w around named params types result has_body l e a)))

pub local_object : (w : World) (named : DeclaredName) (ty : CTypeTree) (c is_static : Bool) (size : ℕ) → Reaches Any w (decls.local_object w named ty c is_static size)
local_object w named ty c is_static size =
    reaches.after _ _ _ (reaches.object w _) (reaches.after _ _ _ (reaches.counted _ size) (reaches.named _ named.pos named.name _ tt tt))

-- an object whose initialiser gives it its size stands in the program without one
pub record IsMeasured (object : ObjectNow) (w : World) : Type 0 where
  pub of : CTypeTree
  pub is_const : Bool
  pub ty : object.ty ≡ Array of is_const 0
  pub there : IsSomeAnd (slice_get w.objects object.number) (λ x. x.ty ≡ Array of is_const 0)

abbrev pub WhatIn : Declares → World → Type 0
WhatIn NoObject w = Unit {0}
WhatIn (AnObject object) w = object.measured ≡ true → IsMeasured object w

limits_so : {A : Type 0} {v : World} {P : A → World → Type 0} (at : Pos) (size : ℕ) (w : World) {o : Outcome A} → GoesWith Any v P o → GoesWith Any v P (names.within_limits at size w o)
limits_so at size w p =
    with_unless (nat_lt names.object_limit size) (ObjectTooLarge at size)
    (with_unless (nat_lt names.total_limit (w.total + size)) (TotalTooLarge at (w.total + size)) p)

pub local_declared : (w : World) (named : DeclaredName) (form : Form) (is_static has_init : Bool) → GoesWith Any w WhatIn (decls.local_declared w named form is_static has_init)
local_declared w named (Plain ty c) is_static has_init =
    with_size _ _ (complete_size w.structs ty) (λ size e. with_declared named.pos (names.first_here w named.pos named.name) (limits_so named.pos size w (typed_so {a = AnObject (decls.local_now w named ty is_static false)} (local_object w named ty c is_static size) (λ h. absurd (false≢true h)))))
local_declared w named (Unsized ty c) is_static has_init =
    with_declared named.pos _ (with_unless (not has_init) (NotConstant named.pos) (typed_so {a = AnObject (decls.local_now w named (Array ty c 0) is_static true)} (local_object w named (Array ty c 0) false is_static 0) (λ h. record {
      of = ty;
      is_const = c;
      ty = refl;
      there = subst (λ o. IsSomeAnd o (λ x. x.ty ≡ Array ty c 0)) (sym (get_last w.objects (decls.object_of named (Array ty c 0) false 0 is_static))) refl;
    })))
local_declared w named (Callable params result) is_static has_init = refused_so

pub first_object : (w : World) (named : DeclaredName) (ty : CTypeTree) (c : Bool) (size : ℕ) (how : FileObject) → Reaches Any w (decls.first_object w named ty c size how)
first_object w named ty c size how = by how.is_there
  where
    by : (b : Bool) → Reaches Any w (if b then decls.with_linked (decls.with_object w (decls.object_of named ty c size true)) named (Object (length w.objects)) how.defines else decls.with_linked w named (Missing ty c) false)
    by true = reaches.after _ _ _ (reaches.object w _) (reaches.linked _ named _ _ tt)
    by false = reaches.linked w named _ false tt

-- the object of this number, if there is one, has a type that may become this one
abbrev pub MayBecome : World → CTypeTree → Meaning → Type 0
MayBecome w ty (Object n) = (x : ObjectTree) → slice_get w.objects n ≡ Some x → IsLastType x.ty ty
MayBecome w ty meaning = Unit {0}

pub with_type : (w : World) (name : List ℕ) (meaning : Meaning) (ty : CTypeTree) (size : ℕ) → MayBecome w ty meaning → Reaches Any w (decls.with_type w name meaning ty size)
with_type w name (Object n) ty size h = reaches.sized w n ty size h
with_type w name (Missing before c) ty size h = reaches.retyped w name ty c
with_type w name (Parameter k t c) ty size h = reaches.stays w
with_type w name (Function n) ty size h = reaches.stays w
with_type w name (TypeName form) ty size h = reaches.stays w
with_type w name (Enumeration n) ty size h = reaches.stays w

-- what two declarations of one object come to
composite_sized : (of : CTypeTree) (c : Bool) (m n : ℕ) → (◌==◌ m n || (◌==◌ m 0 || ◌==◌ n 0)) ≡ true → IsLastType (Array of c m) (decls.composite (Array of c m) (Array of c n))
composite_sized of c m zero e = same _
composite_sized of c zero (suc n) e = sized of c (suc n)
composite_sized of c (suc m) (suc n) e = ⊎_elim (λ h. subst (λ k. IsLastType (Array of c (suc m)) (Array of c k)) (eqb-true (suc m) (suc n) h) (same _))
    (λ h. ⊎_elim (λ f. absurd (omega (arith, eqb-true (suc m) 0 f))) (λ f. absurd (omega (arith, eqb-true (suc n) 0 f))) (or_cases (◌==◌ (suc m) 0) (◌==◌ (suc n) 0) h)) (or_cases (◌==◌ (suc m) (suc n)) (◌==◌ (suc m) 0 || ◌==◌ (suc n) 0) e)

composite_array :
    (s t : CTypeTree) (c d : Bool) (m n : ℕ) → s ≡ t → c ≡ d → (◌==◌ m n || (◌==◌ m 0 || ◌==◌ n 0)) ≡ true → IsLastType (Array s c m) (decls.composite (Array s c m) (Array t d n))
composite_array s t c d m n p q e = subst (λ x. IsLastType (Array s c m) (decls.composite (Array s c m) (Array x d n))) p (subst (λ x. IsLastType (Array s c m) (decls.composite (Array s c m) (Array s x n))) q (composite_sized s c m n e))

last_of : (s t : CTypeTree) → decls.is_same_object s t ≡ true → IsLastType s (decls.composite s t)
last_of (Array s c m) (Array t d n) e =
    let p = and_parts (is_same_truth c d) (is_same s t && (◌==◌ m n || (◌==◌ m 0 || ◌==◌ n 0))) e in
    let q = and_parts (is_same s t) (◌==◌ m n || (◌==◌ m 0 || ◌==◌ n 0)) p.1 in
    composite_array s t c d m n (one_type s t q.0) (one_truth c d p.0) q.1
last_of (Array s c m) t e = absurd (false≢true e)
last_of Void t e = subst (λ x. IsLastType Void (decls.composite Void x)) (one_type Void t e) (same Void)
last_of (Int k) t e = subst (λ x. IsLastType (Int k) (decls.composite (Int k) x)) (one_type (Int k) t e) (same (Int k))
last_of (Pointer to d) t e = subst (λ x. IsLastType (Pointer to d) (decls.composite (Pointer to d) x)) (one_type (Pointer to d) t e) (same (Pointer to d))
last_of (Struct k) t e = subst (λ x. IsLastType (Struct k) (decls.composite (Struct k) x)) (one_type (Struct k) t e) (same (Struct k))
last_of (types.Function k) t e = subst (λ x. IsLastType (types.Function k) (decls.composite (types.Function k) x)) (one_type (types.Function k) t e) (same (types.Function k))

-- an object that is declared again, by the type of all its declarations
composite_last :
    (w : World) (ty : CTypeTree) (c has_init : Bool) (m : Meaning) → decls.is_object_again w ty c has_init m ≡ true
    → MayBecome w (decls.composite (decls.type_before w m ty) ty) m
composite_last w ty c has_init (Object n) e = λ x there.
    let so = (and_parts (decls.is_object_so w ty c (Object n)) (not (has_init && decls.has_initial w (Object n))) e).0 in
    let here = subst (λ o. unwrap_or (option_map (λ object. decls.is_same_object object.ty ty && is_same_truth object.read_only (decls.is_read_only ty c)) o) false ≡ true) there so in
    subst (λ o. IsLastType x.ty (decls.composite (unwrap_or (option_map (λ object. object.ty) o) ty) ty)) (sym there)
    (last_of x.ty ty (and_parts (decls.is_same_object x.ty ty) (is_same_truth x.read_only (decls.is_read_only ty c)) here).0)
composite_last w ty c has_init (Missing t d) e = tt
composite_last w ty c has_init (Parameter k t d) e = tt
composite_last w ty c has_init (Function n) e = tt
composite_last w ty c has_init (TypeName form) e = tt
composite_last w ty c has_init (Enumeration n) e = tt

-- an object by its number is there
abbrev pub IsThere : World → Meaning → Type 0
IsThere w (Object n) = is_some (slice_get w.objects n) ≡ true
IsThere w m = Unit {0}

there_kept : (w v : World) (m : Meaning) → v.objects ≡ w.objects → IsThere w m → IsThere v m
there_kept w v (Object n) e h = ap (λ objects. is_some (slice_get objects n)) e ∙ h
there_kept w v (Missing t c) e h = tt
there_kept w v (Parameter k t c) e h = tt
there_kept w v (Function n) e h = tt
there_kept w v (TypeName form) e h = tt
there_kept w v (Enumeration n) e h = tt

object_there : (w : World) (ty : CTypeTree) (c has_init : Bool) (m : Meaning) → decls.is_object_again w ty c has_init m ≡ true → IsThere w m
object_there w ty c has_init (Object n) e =
    by (slice_get w.objects n) (and_parts (decls.is_object_so w ty c (Object n)) (not (has_init && decls.has_initial w (Object n))) e).0
  where
    by : (o : Option ObjectTree) → unwrap_or (option_map (λ object. decls.is_same_object object.ty ty && is_same_truth object.read_only (decls.is_read_only ty c)) o) false ≡ true → is_some o ≡ true
    by None h = h
    by (Some x) h = refl
object_there w ty c has_init (Missing t d) e = tt
object_there w ty c has_init (Parameter k t d) e = tt
object_there w ty c has_init (Function n) e = tt
object_there w ty c has_init (TypeName form) e = tt
object_there w ty c has_init (Enumeration n) e = tt

becomes_kept : (w v : World) (ty : CTypeTree) (m : Meaning) → v.objects ≡ w.objects → MayBecome w ty m → MayBecome v ty m
becomes_kept w v ty (Object n) e h = λ x there. h x (ap (λ objects. slice_get objects n) (sym e) ∙ there)
becomes_kept w v ty (Missing t c) e h = tt
becomes_kept w v ty (Parameter k t c) e h = tt
becomes_kept w v ty (Function n) e h = tt
becomes_kept w v ty (TypeName form) e h = tt
becomes_kept w v ty (Enumeration n) e h = tt

-- an entity that is there already names no type, and may have this one
pub record IsEntityOf (w : World) (ty : CTypeTree) (l : Linked) : Type 0 where
  pub there : IsThere w l.meaning
  pub formed : (structs : List StructDefTree) → IsFormedMeaning structs l.meaning
  pub becomes : MayBecome w ty l.meaning

abbrev pub IsEntity : World → CTypeTree → Option Linked → Type 0
IsEntity w ty None = Unit {0}
IsEntity w ty (Some l) = IsEntityOf w ty l

pub object_world : (w : World) (named : DeclaredName) (ty : CTypeTree) (c : Bool) (size : ℕ) (how : FileObject) (l : Option Linked) → IsEntity w ty l → Reaches Any w (decls.object_world w named ty c size how l)
object_world w named ty c size how None a = first_object w named ty c size how
object_world w named ty c size how (Some l) a =
    reaches.after _ _ _ (with_type w named.name l.meaning ty size a.becomes) (reaches.after _ _ _ (reaches.named _ named.pos named.name _ (a.formed _) tt) (reaches.defined _ named.name how.defines))

counted_so :
    {A : Type 0} {P : A → World → Type 0} (w : World) (at : Pos) (size : ℕ) (how : FileObject) (l : Option Linked) (outcome : World → Outcome A)
    → ((v : World) → v.objects ≡ w.objects → GoesWith Any v P (outcome v)) → GoesWith Any w P (decls.counted_once w at size how l outcome)
counted_so w at size how l outcome f =
    with_if (how.defines && not (decls.is_defined l)) (limits_so at size w (with_after (reaches.counted w size) (f _ refl)))
    (with_unless (how.is_there && nat_lt names.object_limit size) (ObjectTooLarge at size) (f w refl))

entity_kept : (w v : World) (ty : CTypeTree) (l : Option Linked) → v.objects ≡ w.objects → IsEntity w ty l → IsEntity v ty l
entity_kept w v ty None e a = tt
entity_kept w v ty (Some l) e a = record { formed = a.formed; becomes = becomes_kept w v ty l.meaning e a.becomes; there = there_kept w v l.meaning e a.there }

-- an object that is not measured
not_measured : (w : World) (named : DeclaredName) (ty : CTypeTree) (how : FileObject) (o : Option ℕ) → WhatIn (decls.declares o (decls.file_now named ty how false)) w
not_measured w named ty how None = tt
not_measured w named ty how (Some n) = λ h. absurd (false≢true h)

shape_so : {w : World} {P : Declares → World → Type 0} (named : DeclaredName) (is_so : Bool) {o : Outcome Declares} → GoesWith Any w P o → GoesWith Any w P (decls.unless_main_shape named is_so o)
shape_so named is_so p = with_unless (decls.is_named_main named.name && not is_so) (Unsupported named.pos constructs.MainShape) p

pub file_sized : (w : World) (named : DeclaredName) (ty : CTypeTree) (c : Bool) (how : FileObject) (l : Option Linked) → IsEntity w ty l → GoesWith Any w WhatIn (decls.file_sized w named ty c how l)
file_sized w named ty c how l a =
    with_size _ _ _ (λ size e. counted_so w named.pos size how l _ (λ v same. shape_so named false
    (typed_so (object_world v named ty c size how l (entity_kept w v ty l same a)) (not_measured _ named ty how (decls.object_number w how l)))))

unsized_is : (ty : CTypeTree) → is_unsized ty ≡ true → (of : CTypeTree) × (c : Bool) × (ty ≡ Array of c 0)
unsized_is Void e = absurd (false≢true e)
unsized_is (Int t) e = absurd (false≢true e)
unsized_is (Pointer to c) e = absurd (false≢true e)
unsized_is (Array of c zero) e = (of, c, refl)
unsized_is (Array of c (suc n)) e = absurd (false≢true e)
unsized_is (Struct n) e = absurd (false≢true e)
unsized_is (types.Function n) e = absurd (false≢true e)

-- the object of the declaration has its type
object_has : (w : World) (named : DeclaredName) (ty : CTypeTree) (how : FileObject) (l : Option Linked) (n : ℕ) → IsEntity w ty l → decls.object_number w how l ≡ Some n
    → IsSomeAnd (slice_get (decls.object_world w named ty false 0 how l).objects n) (λ x. x.ty ≡ ty)
object_has w named ty how None n a e = by how.is_there e
  where
    by : (b : Bool) → (if b then Some (length w.objects) else None) ≡ Some n
        → IsSomeAnd (slice_get (if b then decls.with_linked (decls.with_object w (decls.object_of named ty false 0 true)) named (Object (length w.objects)) how.defines else decls.with_linked w named (Missing ty false) false).objects n) (λ x. x.ty ≡ ty)
    by true q = subst (λ k. IsSomeAnd (slice_get (w.objects ++ decls.object_of named ty false 0 true ∷ []) k) (λ x. x.ty ≡ ty)) (same_Some (length w.objects) n q)
        (subst (λ o. IsSomeAnd o (λ x. x.ty ≡ ty)) (sym (get_last w.objects (decls.object_of named ty false 0 true))) refl)
    by false q = absurd (none-some n q)
object_has w named ty how (Some l) n a e = again l.meaning a.there e
  where
    sized_there : (m : ℕ) (o : Option ObjectTree) → slice_get w.objects m ≡ o → is_some o ≡ true
        → IsSomeAnd (slice_get (unwrap_or (option_map (λ object. set w.objects m (decls.sized_object ty 0 object)) o) w.objects) m) (λ x. x.ty ≡ ty)
    sized_there m None q h = absurd (false≢true h)
    sized_there m (Some x) q h = subst (λ o. IsSomeAnd o (λ y. y.ty ≡ ty)) (sym (get_set w.objects m x (decls.sized_object ty 0 x) q)) refl

    again : (m : Meaning) → IsThere w m → decls.entity_object m ≡ Some n → IsSomeAnd (slice_get (decls.with_type w named.name m ty 0).objects n) (λ x. x.ty ≡ ty)
    again (Object k) h q = subst (λ j. IsSomeAnd (slice_get (decls.with_type w named.name (Object k) ty 0).objects j) (λ x. x.ty ≡ ty)) (same_Some k n q) (sized_there k (slice_get w.objects k) refl h)
    again (Missing t c) h q = absurd (none-some n q)
    again (Parameter i t c) h q = absurd (none-some n q)
    again (Function i) h q = absurd (none-some n q)
    again (TypeName form) h q = absurd (none-some n q)
    again (Enumeration i) h q = absurd (none-some n q)

is_measured :
    (w v : World) (named : DeclaredName) (ty : CTypeTree) (how : FileObject) (o : Option ℕ) → is_unsized ty ≡ true
    → ((n : ℕ) → o ≡ Some n → IsSomeAnd (slice_get v.objects n) (λ x. x.ty ≡ ty)) → WhatIn (decls.declares o (decls.file_now named ty how how.has_init)) v
is_measured w v named ty how None u f = tt
is_measured w v named ty how (Some n) u f = λ h. let is = unsized_is ty u in record {
  of = is.0;
  is_const = is.1;
  ty = is.2;
  there = subst (λ t. IsSomeAnd (slice_get v.objects n) (λ x. x.ty ≡ t)) is.2 (f n refl);
}

pub file_unsized :
    (w : World) (named : DeclaredName) (ty : CTypeTree) (how : FileObject) (l : Option Linked) → is_unsized ty ≡ true → IsEntity w ty l
    → GoesWith Any w WhatIn (decls.file_unsized w named ty how l)
file_unsized w named ty how l u a =
    with_unless (how.defines && not how.has_init) (NotConstant named.pos) (shape_so named false (typed_so (object_world w named ty false 0 how l a)
    (is_measured w _ named ty how (decls.object_number w how l) u (λ n e. object_has w named ty how l n a e))))

pub file_object : (w : World) (named : DeclaredName) (ty : CTypeTree) (c : Bool) (how : FileObject) (l : Option Linked) → IsEntity w ty l → GoesWith Any w WhatIn (decls.file_object w named ty c how l)
file_object w named ty c how l a = agreed_if (GoesWith Any w WhatIn) (is_unsized ty) (λ u. file_unsized w named ty how l u a) (file_sized w named ty c how l a)

pub file_declared : (w : World) (named : DeclaredName) (ty : CTypeTree) (c : Bool) (how : FileObject) → GoesWith Any w WhatIn (decls.file_declared w named ty c how)
file_declared w named ty c how =
    with_unless (how.in_block && how.has_init) (no_rule w named.pos ops.Init ty None)
    (with_if (names.is_reserved named.name) refused_so
    (unless_other (GoesWith Any w WhatIn) named.pos (decls.binding_here w named.name) (names.linked_as w named.name) (decls.is_object_again w ty c how.has_init) _ (λ r. refused_so)
    (λ l e a. file_object w named (decls.composite_type w ty l) c how l (entity l a))))
  where
    entity : (l : Option Linked) → Agreed (decls.is_object_again w ty c how.has_init) l → IsEntity w (decls.composite_type w ty l) l
    entity None a = tt
    entity (Some l) a = record {
      formed = object_formed w ty c how.has_init l.meaning a;
      becomes = composite_last w ty c how.has_init l.meaning a;
      there = object_there w ty c how.has_init l.meaning a;
    }

pub file_form : (w : World) (named : DeclaredName) (form : Form) (how : FileObject) → GoesWith Any w WhatIn (decls.file_form w named form how)
file_form w named (Plain ty c) how = with_size _ _ _ (λ size e. file_declared w named ty c how)
file_form w named (Unsized ty c) how = file_declared w named (Array ty c 0) false how
file_form w named (Callable params result) how = refused_so

no_object : {w : World} (o : Outcome (Option ℕ)) → Goes Any w o → GoesWith Any w WhatIn (decls.no_object o)
no_object (Typed n v) (typed r) = typed_so r tt
no_object (Refused q) p = refused_so

typedef_so : (w : World) (named : DeclaredName) (form : Form) → IsFormedForm w.structs form → GoesWith Any w WhatIn (decls.typedef_declared w named form)
typedef_so w named (Plain ty c) f = with_declared named.pos _ (typed_so (reaches.named w named.pos named.name _ f tt) tt)
typedef_so w named (Unsized ty c) f = with_declared named.pos _ refused_so
typedef_so w named (Callable params result) f = with_declared named.pos _ (typed_so (reaches.named w named.pos named.name _ f tt) tt)

pub entity_declared : (w : World) (around : Context) (storage : List StorageWord) (steps : List Step) (named : DeclaredName) (has_init : Bool) (form : Form) → GoesWith Any w WhatIn (decls.entity_declared w around storage steps named has_init form)
entity_declared w around storage steps named has_init (Callable types result) =
    with_unless has_init (no_rule w named.pos ops.Init (unknown_function w) None) (no_object _ (function_declared w around named _ types result false))
entity_declared w around storage steps named has_init (Plain ty c) =
    with_if (around.in_block && not (decls.is_word Extern storage)) (local_declared w named (Plain ty c) _ has_init) (file_form w named (Plain ty c) (decls.file_object_of around storage named.name has_init))
entity_declared w around storage steps named has_init (Unsized ty c) =
    with_if (around.in_block && not (decls.is_word Extern storage)) (local_declared w named (Unsized ty c) _ has_init) (file_form w named (Unsized ty c) (decls.file_object_of around storage named.name has_init))

pub name_declared : {w : World} (around : Context) (storage : List StorageWord) (steps : List Step) (named : DeclaredName) (has_init : Bool) (o : Outcome Form) → FormAt w o → GoesWith Any w WhatIn (decls.name_declared around storage steps named has_init o)
name_declared around storage steps named has_init (Typed form v) (formed_at _ f) =
    with_if (decls.is_word Typedef storage) (typedef_so v named form f) (entity_declared v around storage steps named has_init form)
name_declared around storage steps named has_init (Refused q) p = refused_so

pub declared : (w : World) (around : Context) (first : Pos) (storage : List StorageWord) (base : Form) (has_init : Bool) (shape : Shape) → AreFormedSteps w.structs shape.steps → IsFormedForm w.structs base → GoesWith Any w WhatIn (decls.declared w around first storage base has_init shape)
declared w around first storage base has_init shape s f =
    its_name first shape.name _ (λ named. name_declared around storage shape.steps named has_init _ (laid_at w named.pos shape.steps base s f))

-- ---- declarations

-- nothing is said of what is typed
only : {may : Changes} {A : Type 0} {w : World} {o : Outcome A} → Goes may w o → GoesWith may w (λ a v. Unit {0}) o
only (typed r) = typed_so r tt
only refused = refused_so

-- one part and then the next, in a world that keeps the one before
kept_goes :
    {may : Changes} {A B : Type 0} {w : World} {first : Outcome A → Type 0} {next : A → World → Outcome B → Type 0} → AllGo may w first → ((a : A) (v : World) → Kept w v → AllGo may v (next a v)) → AllGo may w (Then first next)
kept_goes f g = all_forget (then_with {Q = λ a v. Unit {0}} f (λ a v r k good o p. only (g a v k good o p)))

pub specs_goes :
    {may : Changes} {B : Type 0} {w : World} {first : Outcome specifiers.SpecsTree → Type 0} {next : specifiers.SpecsTree → World → Outcome B → Type 0}
    → AllWith may w SpecsIn first → ((s : specifiers.SpecsTree) (v : World) → Kept w v → SpecsIn s v → AllGo may v (next s v)) → AllGo may w (Then first next)
specs_goes f g = all_forget (so_with {Q = λ a v. Unit {0}} f (λ s v r p k good o q. only (g s v k p good o q)))

-- a form that is told in a world, which stays
pub form_goes :
    {may : Changes} {B : Type 0} {w : World} {x : Outcome Form} {next : Form → World → Outcome B → Type 0} → FormAt w x → ((form : Form) → IsFormedForm w.structs form → AllGo may w (next form w))
    → AllGo may w (Then (Is x) next)
form_goes {may = may} {w = w} {next = next} f g good o (goes_on {a = form} {w = v} p s) = by (subst (λ z. FormAt w z) (sym p) f) s
  where
    by : {u : World} → FormAt w (Typed form u) → next form u o → Goes may w o
    by (formed_at _ h) q = g form h good o q
form_goes f g good _ (stops p) = refused

measured_last : (w : World) (object : ObjectNow) (count : ℕ) → IsMeasured object w → (x : ObjectTree) → slice_get w.objects object.number ≡ Some x → IsLastType x.ty (decls.measured_type object.ty count)
measured_last w object count is x there =
    let ty = subst (λ o. IsSomeAnd o (λ y. y.ty ≡ Array is.of is.is_const 0)) there is.there in
    subst (λ t. IsLastType t (decls.measured_type object.ty count)) (sym ty) (subst (λ t. IsLastType (Array is.of is.is_const 0) (decls.measured_type t count)) (sym is.ty) (sized is.of is.is_const count))

pub measured : (w : World) (object : ObjectNow) (by : Initialised) → (object.measured ≡ true → IsMeasured object w) → Goes Any w (decls.measured w object by)
measured w object by is =
    let ty = decls.measured_type object.ty by.count in
    let size = decls.size_or_zero w ty in
    agreed_if (Goes Any w) object.measured
    (λ e. goes_unless (by.count == 0) (NotConstant object.pos) (goes_unless (nat_lt (2 ^ 40) size) (ObjectTooLarge object.pos (2 ^ 40))
    (within_limits object.pos size w (typed {a = ty} (reaches.after _ _ _ (reaches.sized w object.number ty size (measured_last w object by.count (is e))) (reaches.counted _ size)))))) (goes_same {a = object.ty})

pub with_static : (w : World) (object : ObjectNow) (ty : CTypeTree) (by : Initialised) → Reaches Any w (decls.with_static w object ty by)
with_static w object ty by = at object.is_static
  where
    at : (b : Bool) → Reaches Any w (if b then names.with_initial w object.number (lists.static_bytes w.objects (decls.size_or_zero w ty) by.items) else w)
    at true = reaches.initial w _ _
    at false = reaches.stays w

pub initialised : {w : World} (v : World) (object : ObjectNow) (by : Initialised) (o : Outcome CTypeTree) → Goes Any w o → Goes Any w (decls.initialised v object by o)
initialised v object by (Typed ty u) (typed r) = typed (reaches.after _ _ _ r (with_static u object ty by))
initialised v object by (Refused q) p = refused

-- an initialiser leaves the object as it is
still_measured : (w v : World) (object : ObjectNow) → IsPrefix w v → IsMeasured object w → IsMeasured object v
still_measured w v object f is = record { of = is.of; is_const = is.is_const; ty = is.ty; there = by (slice_get w.objects object.number) refl is.there }
  where
    by : (o : Option ObjectTree) → slice_get w.objects object.number ≡ o → IsSomeAnd o (λ x. x.ty ≡ Array is.of is.is_const 0) → IsSomeAnd (slice_get v.objects object.number) (λ x. x.ty ≡ Array is.of is.is_const 0)
    by None e h = absurd h
    by (Some x) e h = subst (λ o. IsSomeAnd o (λ y. y.ty ≡ Array is.of is.is_const 0)) (sym (f object.number x e)) h

quiet_goes : {A : Type 0} {w v : World} {a : A} → Goes Constants w (Typed a v) → IsPrefix w v
quiet_goes {w = w} {v = v} (typed r) = (quiet Constants w v r).objects

init_made :
    (w : World) (object : ObjectNow) (tree : InitTree) → (object.measured ≡ true → IsMeasured object w) → Good w → (by : Initialised) (v : World)
    → TypesInit w object.is_static object.ty (decls.frame_for w object) tree (Typed by v) → Goes Any v (decls.initialised v object by (decls.measured v object by))
init_made w object tree is good by v p =
    initialised v object by _ (measured v object by (λ e.
    still_measured w v object (quiet_goes (init {may = Constants} w object.is_static object.ty (decls.frame_for w object) tree good (Typed by v) p)) (is e)))

pub init_of : (w : World) (what : Declares) (tree : Option InitTree) → WhatIn what w → AllGo Any w (TypesInitOf w what tree)
init_of w NoObject tree is good o p = is_goes goes_same good o p
init_of w (AnObject object) None is good o p = is_goes goes_same good o p
init_of w (AnObject object) (Some tree) is good o (goes_on {a = by} {w = v} p e) =
    with_reached good (init w object.is_static object.ty (decls.frame_for w object) tree good _ p) (λ r after. subst (λ z. Goes Any v z) (sym e) (init_made w object tree is good by v p))
init_of w (AnObject object) (Some tree) is good _ (stops p) = refused

-- a declarator, and what depends on it
shape_goes :
    {may : Changes} {B : Type 0} {w : World} {first : Outcome Shape → Type 0} {next : Shape → World → Outcome B → Type 0}
    → AllWith may w (ShapeIn w) first → ((shape : Shape) (v : World) → Kept w v → AreFormedSteps v.structs shape.steps → AllGo may v (next shape v)) → AllGo may w (Then first next)
shape_goes {w = w} f g = all_forget (so_with {Q = λ a v. Unit {0}} f (λ shape v r a k good o p. only (g shape v k (steps_formed w v shape.steps a) good o p)))

-- what is declared, and its initialiser
what_goes :
    {B : Type 0} {w : World} {x : Outcome Declares} {next : Declares → World → Outcome B → Type 0} → GoesWith Any w WhatIn x
    → ((what : Declares) (v : World) → Kept w v → WhatIn what v → AllGo Any v (next what v)) → AllGo Any w (Then (Is x) next)
what_goes f g = all_forget (so_with {Q = λ a v. Unit {0}} (is_with (λ good. f)) (λ what v r is k good o p. only (g what v k is good o p)))

pub init_declarators :
    (w : World) (around : Context) (first : Pos) (storage : List StorageWord) (base : Form) (done : Made) (items : List InitDeclaratorTree) → IsFormedForm w.structs base
    → AllGo Any w (TypesInitDeclarators w around first storage base done items)
unfolding TypesInitDeclarators
init_declarators w around first storage base done [] f good = is_goes goes_same good
init_declarators w around first storage base done (item ∷ rest) f good =
    shape_goes (go_declarator w item.declarator) (λ shape v k s.
    what_goes (declared v around first storage base (is_some item.init) shape s (form_later w.structs v.structs (is_later w v good k.good k.frame) base f)) (λ what v2 k2 is.
    kept_goes (init_of v2 what item.init is) (λ made v3 k3.
    init_declarators v3 around first storage base _ rest
    (form_later v2.structs v3.structs (is_later v2 v3 k2.good k3.good k3.frame) base
    (form_later v.structs v2.structs (is_later v v2 k.good k2.good k2.frame) base (form_later w.structs v.structs (is_later w v good k.good k.frame) base f)))))) good

pub decl : (w : World) (around : Context) (tree : DeclTree) → AllGo Any w (TypesDecl w around tree)
decl w around tree =
    specs_goes (go_specs w _ _ tree.specs (none_yet w)) (λ s v k p.
    form_goes (type_told_at specifiers.OfDeclaration (typing.first_of tree.pos tree.specs) s v p) (λ base f. init_declarators v around _ _ base _ tree.inits f))
