-- Functions between declarations: their results, and the objects of their parameters.
use Rattle.std.proofs.Common.{◌≡◌, ℕ, zero, suc, ◌+◌, true, false, List, [], ◌∷◌, ◌++◌, length, refl, ap, sym, subst, ◌∙◌}
use Rattle.std.specs.Prelude.{◌⊎◌, Bool, not, ◌&&◌, if◌then◌else◌, Option, None, Some, option_map, unwrap_or, IsSomeAnd, IfSome, All, map, set, slice_get}
use Rattle.std.proofs.lemmas.Bool.{and_parts}
use Rattle.std.proofs.lemmas.Option.{same_Some}
use Rattle.std.proofs.lemmas.List.{length_push, append_assoc}
use Rattle.std.proofs.lemmas.List.Elements.{All-nil, All-cons, All-push, All-weaker, All-map, All-head, All-tail}
use Rattle.c_syntax_written.specs.declared.written.StorageWord.{StorageWord}
use Rattle.c_syntax_written.specs.WrittenDecl.{InitTree}
use Rattle.c_syntax.specs.Types.{CTypeTree, Void, Int, Pointer, Array, ObjectTree}
use Rattle.c_syntax.specs.Program.{TFunctionTree, StructDefTree}
use Rattle.c_layout.specs.RowTypes.{IsScalar}
use Rattle.c_layout.specs.TypedNodes.{IsBlock}
use Rattle.c_typing.specs.World.{World, Form, Callable, Object, Linked, Typed}
use Rattle.c_typing.specs.Names.{with_initial}
use Rattle.c_typing.specs.Formed.{IsFormed, IsFormedForm}
use Rattle.c_typing.specs.SameTypes.{is_same_truth}
use Rattle.c_typing.specs.Declarators.{DeclaredName, ParameterTree, Step, PointerTo, ArrayOf, OpenArray, FunctionOf, laid}
use Rattle.c_typing.specs.Operands.{is_unsized}
use Rattle.c_typing.specs.Context.{Context, has_name}
use Rattle.c_typing.specs.Inits.{Initialised, static_bytes}
use Rattle.c_typing.specs.Decls.{Declares, ObjectNow, Made, new_function, parameters_of, parameter_object, numbers_from, with_sized, sized_object, with_static, size_or_zero, measured_type, is_same_object, is_object_so, is_object_again, is_read_only, has_initial, composite, composite_type, type_before, object_of, function_tree}
use Rattle.c_typing.proofs.Changes.{Constants}
use Rattle.c_typing.proofs.Good.{Good, is_later}
use Rattle.c_typing.proofs.Later.{formed_later}
use Rattle.c_typing.proofs.MadeTables.{get_last}
use Rattle.c_typing.proofs.Same.{one_type}
use Rattle.c_typing.proofs.FormsGo.{FormAt, formed_at, AreFormedSteps, laid_at}
use Rattle.c_typing.proofs.DeclsGo.{WhatIn, IsMeasured}
use Rattle.c_typing.proofs.Reaches.{Reaches, kept, quiet}
use Rattle.c_typing_laws.specs.NameSteps.{MakesName, type_name, reserved, first_function, function_again, local, local_open, first_object, first_missing, object_again, missing_again}
use Rattle.c_typing_laws.specs.DeclSteps.{MakesSize, as_it_was, by_count, MakesInit, no_object, bare, given}
use Rattle.c_typing_laws.proofs.Outcomes.{TypedAs, typed_from}
use Rattle.c_typing_laws.proofs.StepSteady.{init_calm}
use Rattle.c_typing_laws.proofs.Scalars.{IsScalarForm, IsScalarStep, AreScalarSteps, laid_scalar}
use Rattle.c_typing_laws.proofs.Keeps.{IsKept}

-- an object of a scalar type
abbrev pub HasScalar : List ObjectTree → ℕ → Type 0
HasScalar objects o = IsSomeAnd (slice_get objects o) (λ x. IsScalar x.ty)

pub record IsFunctionIn (structs : List StructDefTree) (objects : List ObjectTree) (f : TFunctionTree) : Type 0 where
  pub result : IsScalar f.result ⊎ (f.result ≡ Void)
  pub formed : IsFormed structs f.result
  pub params : All (HasScalar objects) f.params
  pub block : IfSome f.body IsBlock

abbrev pub AreIn : World → Type 0
AreIn w = All (IsFunctionIn w.structs w.objects) w.functions

-- objects that stay scalars
abbrev pub StayScalars : List ObjectTree → List ObjectTree → Type 0
StayScalars xs ys = (o : ℕ) → HasScalar xs o → HasScalar ys o

-- ---- other objects

pub stay_more : (xs ys : List ObjectTree) → StayScalars xs (xs ++ ys)
stay_more [] ys o h = absurd h
stay_more (x ∷ xs) ys zero h = h
stay_more (x ∷ xs) ys (suc o) h = stay_more xs ys o h

stay_set : (xs : List ObjectTree) (n : ℕ) (y : ObjectTree) → ((x : ObjectTree) → slice_get xs n ≡ Some x → IsScalar x.ty → IsScalar y.ty) → StayScalars xs (set xs n y)
stay_set [] n y f o h = absurd h
stay_set (x ∷ xs) zero y f zero h = f x refl h
stay_set (x ∷ xs) zero y f (suc o) h = h
stay_set (x ∷ xs) (suc n) y f zero h = h
stay_set (x ∷ xs) (suc n) y f (suc o) h = stay_set xs n y f o h

-- the functions are those that were, of objects that stay scalars
pub record IsFunctionsSame (w v : World) : Type 0 where
  pub functions : v.functions ≡ w.functions
  pub formed : (ty : CTypeTree) → IsFormed w.structs ty → IsFormed v.structs ty
  pub objects : StayScalars w.objects v.objects

pub in_after : (w v : World) → IsFunctionsSame w v → AreIn w → AreIn v
in_after w v s all =
    subst (All (IsFunctionIn v.structs v.objects)) (sym s.functions)
    (All-weaker (IsFunctionIn w.structs w.objects) (IsFunctionIn v.structs v.objects) (λ f i. record {
      result = i.result;
      formed = s.formed f.result i.formed;
      params = All-weaker (HasScalar w.objects) (HasScalar v.objects) (λ o h. s.objects o h) f.params i.params;
      block = i.block;
    }) w.functions all)

pub in_same : (w v : World) → v.structs ≡ w.structs → v.objects ≡ w.objects → v.functions ≡ w.functions → AreIn w → AreIn v
in_same w v s o f all =
    in_after w v (record { functions = f; formed = λ ty. subst (λ structs. IsFormed structs ty) (sym s); objects = λ k h. subst (λ objects. HasScalar objects k) (sym o) h }) all

pub in_calm : (w v : World) → Good w → Reaches Constants w v → AreIn w → AreIn v
in_calm w v good r all =
    let k = kept w v r good in
    let still = quiet Constants w v r in
    in_after w v (record {
      functions = still.functions;
      formed = λ ty f. formed_later w.structs v.structs (is_later w v good k.good k.frame) ty f;
      objects = λ o h. by o (slice_get w.objects o) refl h;
    }) all
  where
    by : (o : ℕ) (x : Option ObjectTree) → slice_get w.objects o ≡ x → IsSomeAnd x (λ y. IsScalar y.ty) → HasScalar v.objects o
    by o None e h = absurd h
    by o (Some x) e h = subst (λ z. IsSomeAnd z (λ y. IsScalar y.ty)) (sym ((quiet Constants w v r).objects o x e)) h

-- one object more
in_object : (w : World) (x : ObjectTree) (v : World) → v.structs ≡ w.structs → v.objects ≡ w.objects ++ x ∷ [] → v.functions ≡ w.functions → AreIn w → AreIn v
in_object w x v s o f all =
    in_after w v (record {
      functions = f;
      formed = λ ty. subst (λ structs. IsFormed structs ty) (sym s);
      objects = λ k h. subst (λ objects. HasScalar objects k) (sym o) (stay_more w.objects (x ∷ []) k h);
    }) all

-- an object of another type, where it was no scalar or is one
in_sized : (w : World) (n : ℕ) (ty : CTypeTree) (size : ℕ) → ((x : ObjectTree) → slice_get w.objects n ≡ Some x → IsScalar x.ty → IsScalar ty) → AreIn w → AreIn (with_sized w n ty size)
in_sized w n ty size f all =
    in_after w (with_sized w n ty size) (record { functions = refl; formed = λ t h. h; objects = by (slice_get w.objects n) refl }) all
  where
    by : (o : Option ObjectTree) → slice_get w.objects n ≡ o → StayScalars w.objects (unwrap_or (option_map (λ object. set w.objects n (sized_object ty size object)) o) w.objects)
    by None e = λ k h. h
    by (Some x) e = stay_set w.objects n (sized_object ty size x) (λ y r h. f y r h)

-- ---- parameters

pub numbers_scalar :
    (w : World) (params : List ParameterTree) (xs : List ObjectTree) → All (λ p. IsScalar p.ty) params → All (HasScalar (xs ++ map (parameter_object w) params)) (numbers_from (length xs) (length params))
unfolding numbers_from
numbers_scalar w [] xs all = All-nil (HasScalar (xs ++ []))
numbers_scalar w (param ∷ rest) xs all =
    let x = parameter_object w param in
    let more = numbers_scalar w rest (xs ++ x ∷ []) (All-tail (λ p. IsScalar p.ty) param rest all) in
    let here = stay_more (xs ++ x ∷ []) (map (parameter_object w) rest) (length xs)
    (subst (λ o. IsSomeAnd o (λ y. IsScalar y.ty)) (sym (get_last xs x)) (All-head (λ p. IsScalar p.ty) param rest all)) in
    subst (λ objects. All (HasScalar objects) (length xs ∷ numbers_from (length xs + 1) (length rest))) (append_assoc xs (x ∷ []) (map (parameter_object w) rest))
    (All-cons (HasScalar ((xs ++ x ∷ []) ++ map (parameter_object w) rest)) (length xs) _ here
    (subst (λ n. All (HasScalar ((xs ++ x ∷ []) ++ map (parameter_object w) rest)) (numbers_from n (length rest))) (length_push xs x) more))

pub in_parameters : (w : World) (params : List ParameterTree) (v : World) → v.structs ≡ w.structs → v.objects ≡ w.objects ++ map (parameter_object w) params → v.functions ≡ w.functions → AreIn w → AreIn v
in_parameters w params v s o f all =
    in_after w v (record {
      functions = f;
      formed = λ ty. subst (λ structs. IsFormed structs ty) (sym s);
      objects = λ k h. subst (λ objects. HasScalar objects k) (sym o) (stay_more w.objects (map (parameter_object w) params) k h);
    }) all

-- a function that is declared for the first time
pub new_in :
    (w : World) (named : DeclaredName) (later : Bool) (params : List ParameterTree) (types : List CTypeTree) (result : CTypeTree) → All (λ p. IsScalar p.ty) params
    → (IsScalar result ⊎ (result ≡ Void)) → IsFormed w.structs result → AreIn w → AreIn (new_function w named later params types result)
new_in w named true params types result scalar r f all =
    let v = new_function w named true params types result in
    All-push (IsFunctionIn v.structs v.objects) w.functions (function_tree named [] result) (in_same w (record v { functions = w.functions }) refl refl refl all)
    (record { result = r; formed = f; params = All-nil (HasScalar w.objects); block = tt })
new_in w named false params types result scalar r f all =
    let v = new_function w named false params types result in
    All-push (IsFunctionIn v.structs v.objects) w.functions (function_tree named (numbers_from (length w.objects) (length params)) result)
    (in_parameters w params (record v { functions = w.functions }) refl refl refl all)
    (record { result = r; formed = f; params = numbers_scalar w params w.objects scalar; block = tt })

-- the parameters that a declarator writes, or those that a typedef name gives
pub given_scalar : (params : List ParameterTree) (names tags : _) (rest : List Step) → AreScalarSteps (FunctionOf params names tags ∷ rest) → All (λ p. IsScalar p.ty) params
given_scalar params names tags rest all = (All-head IsScalarStep (FunctionOf params names tags) rest all).0

pub parameters_scalar : (steps : List Step) (named : DeclaredName) (types : List CTypeTree) → AreScalarSteps steps → All IsScalar types → All (λ p. IsScalar p.ty) (parameters_of steps types named.pos)
parameters_scalar [] named types s all = All-map (λ p. IsScalar p.ty) _ types all
parameters_scalar (PointerTo c ∷ rest) named types s all = All-map (λ p. IsScalar p.ty) _ types all
parameters_scalar (ArrayOf at n ∷ rest) named types s all = All-map (λ p. IsScalar p.ty) _ types all
parameters_scalar (OpenArray ∷ rest) named types s all = All-map (λ p. IsScalar p.ty) _ types all
parameters_scalar (FunctionOf params names tags ∷ rest) named types s all = (All-head IsScalarStep (FunctionOf params names tags) rest s).0

form_of : {w v : World} {form : Form} → FormAt w (Typed form v) → IsFormedForm w.structs form
form_of (formed_at form f) = f

-- the type of a function that is declared
pub record FunctionForm (w : World) (types : List CTypeTree) (result : CTypeTree) : Type 0 where
  pub params : All IsScalar types
  pub result_is : IsScalar result ⊎ (result ≡ Void)
  pub formed : IsFormed w.structs result

pub function_form :
    (w : World) (named : DeclaredName) (steps : List Step) (base : Form) (types : List CTypeTree) (result : CTypeTree) → AreFormedSteps w.structs steps → IsFormedForm w.structs base → AreScalarSteps steps
    → IsScalarForm base → laid w named.pos steps base ≡ Typed (Callable types result) w → FunctionForm w types result
function_form w named steps base types result f b s t e =
    let scalar : IsScalarForm (Callable types result) = typed_from (subst (λ z. TypedAs (λ y v. IsScalarForm y) z) e (laid_scalar w named.pos steps base f b s t)) in
    let formed : IsFormedForm w.structs (Callable types result) = form_of (subst (FormAt w) e (laid_at w named.pos steps base f b)) in record {
      params = scalar.0;
      result_is = scalar.1;
      formed = formed.1;
    }

-- ---- an object declared again

same_scalar : (s t : CTypeTree) → is_same_object s t ≡ true → IsScalar s → IsScalar t
same_scalar (Int p) t e h = subst IsScalar (one_type (Int p) t e) h
same_scalar (Pointer to c) t e h = subst IsScalar (one_type (Pointer to c) t e) h
same_scalar s t e h = absurd h

composite_scalar : (x ty : CTypeTree) → is_same_object x ty ≡ true → IsScalar x → IsScalar (composite x ty)
composite_scalar x ty e h = by (is_unsized ty)
  where
    by : (b : Bool) → IsScalar (if b then x else ty)
    by true = h
    by false = same_scalar x ty e h

again_scalar :
    (w : World) (ty : CTypeTree) (c has_init : Bool) (l : Linked) (n : ℕ) (x : ObjectTree) → l.meaning ≡ Object n → is_object_again w ty c has_init (Object n) ≡ true → slice_get w.objects n ≡ Some x → IsScalar x.ty
    → IsScalar (composite_type w ty (Some l))
again_scalar w ty c has_init l n x m so e h =
    let one = (and_parts (is_object_so w ty c (Object n)) (not (has_init && has_initial w (Object n))) so).0 in
    let two : is_same_object x.ty ty && is_same_truth x.read_only (is_read_only ty c) ≡ true =
    subst (λ o. unwrap_or (option_map (λ object. is_same_object object.ty ty && is_same_truth object.read_only (is_read_only ty c)) o) false ≡ true) e one in
    let same = (and_parts (is_same_object x.ty ty) (is_same_truth x.read_only (is_read_only ty c)) two).0 in
    let before : type_before w l.meaning ty ≡ x.ty = ap (λ y. type_before w y ty) m ∙ ap (λ o. unwrap_or (option_map (λ object. object.ty) o) ty) e in
    subst (λ b. IsScalar (composite b ty)) (sym before) (composite_scalar x.ty ty same h)

-- ---- declarations

name_in :
    {around : Context} {w v : World} {storage : List StorageWord} {steps : List Step} {base : Form} {has_init : Bool} {named : DeclaredName} {what : Declares}
    → AreFormedSteps w.structs steps → IsFormedForm w.structs base → AreScalarSteps steps → IsScalarForm base → MakesName around w storage steps base has_init named what v → AreIn w → AreIn v
name_in {w = w} {v = v} s f t b (type_name form d e) all = in_same w v refl refl refl all
name_in s f t b (reserved y) all = all
name_in {around = around} {w = w} {steps = steps} {base = base} {named = named} s f t b (first_function types result r e n) all =
    let form = function_form w named steps base types result s f t b e in
    new_in w named (has_name around.functions named.name) (parameters_of steps types named.pos) types result (parameters_scalar steps named types t form.params) form.result_is form.formed all
name_in {w = w} {v = v} s f t b (function_again types result l n so) all = in_same w v refl refl refl all
name_in {w = w} {v = v} {named = named} s f t b (local ty c st size i e h) all = in_object w (object_of named ty c size st) v refl refl refl all
name_in {w = w} {v = v} {named = named} s f t b (local_open of c st i e h) all = in_object w (object_of named (Array of c 0) false 0 st) v refl refl refl all
name_in {w = w} {v = v} {named = named} s f t b (first_object form ty c m size total r e is n h z) all = in_object w (object_of named ty c size true) v refl refl refl all
name_in {w = w} {v = v} s f t b (first_missing ty c total r n h) all = in_same w v refl refl refl all
name_in {w = w} {v = v} {has_init = has_init} s f t b (object_again form ty c m l n size total e is k q a z) all =
    let before = record w { total = total } in
    in_same (with_sized before n (composite_type w ty (Some l)) size) v refl refl refl
    (in_sized before n (composite_type w ty (Some l)) size (λ x r h. again_scalar w ty c has_init l n x q a r h) (in_same w before refl refl refl all))
name_in {w = w} {v = v} s f t b (missing_again ty before c l size total d k q) all = in_same w v refl refl refl all

array_no_scalar : (ty of : CTypeTree) (c : Bool) {P : Type 0} → ty ≡ Array of c 0 → IsScalar ty → P
array_no_scalar ty of c e h = absurd (subst IsScalar e h)

measured_was : (w v : World) (object : ObjectNow) → Reaches Constants w v → IsMeasured object w → (x : ObjectTree) → slice_get v.objects object.number ≡ Some x → IsScalar x.ty → ⊥
measured_was w v object r m x e h = by (slice_get w.objects object.number) refl m.there
  where
    by : (o : Option ObjectTree) → slice_get w.objects object.number ≡ o → IsSomeAnd o (λ y. y.ty ≡ Array m.of m.is_const 0) → ⊥
    by None q t = t
    by (Some y) q t =
        let same = same_Some y x (sym ((quiet Constants w v r).objects object.number y q) ∙ e) in
        array_no_scalar x.ty m.of m.is_const (ap (λ z. z.ty) (sym same) ∙ t) h

static_in : (w : World) (object : ObjectNow) (ty : CTypeTree) (by : Initialised) → AreIn w → AreIn (with_static w object ty by)
static_in w object ty by all = at object.is_static
  where
    at : (b : Bool) → AreIn (if b then with_initial w object.number (static_bytes w.objects (size_or_zero w ty) by.items) else w)
    at true = in_same w (with_initial w object.number (static_bytes w.objects (size_or_zero w ty) by.items)) refl refl refl all
    at false = all

size_in_world : {w v : World} {object : ObjectNow} {by : Initialised} {ty : CTypeTree} → (object.measured ≡ true → (x : ObjectTree) → slice_get w.objects object.number ≡ Some x → IsScalar x.ty → ⊥)
    → MakesSize w object by ty v → AreIn w → AreIn v
size_in_world never (as_it_was m) all = all
size_in_world {w = w} {v = v} {object = object} {by = by} never (by_count m c t) all =
    let ty = measured_type object.ty by.count in
    in_same (with_sized w object.number ty (size_or_zero w ty)) v refl refl refl (in_sized w object.number ty (size_or_zero w ty) (λ x e h. absurd (never m x e h)) all)

init_in : {w v : World} {what : Declares} {init : Option InitTree} {made : Made} → Good w → WhatIn what w → MakesInit w what init made v → AreIn w → AreIn v
init_in good is no_object all = all
init_in good is bare all = all
init_in {w = w} good is (given {u = u} {v = v} {object = object} {init = init} {by = by} {ty = ty} t s) all =
    let r = init_calm object init by good t in
    static_in v object ty by (size_in_world (λ m x e h. measured_was w u object r (is m) x e h) s (in_calm w u good r all))

pub functions_kept : (functions objects : List (List ℕ)) → IsKept functions objects AreIn
functions_kept functions objects = record {
  calm = in_calm;
  declared = λ around w v x storage steps base has_init named what init made f o h good s b t z n good2 is m r q all. init_in good2 is m (name_in s b t z n all);
  moved = λ w v same all. in_same w v same.structs same.objects same.functions all;
}
