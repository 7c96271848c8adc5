-- Objects between declarations: their types and sizes, and whether they are const.
use Rattle.std.proofs.Common.{◌≡◌, ℕ, zero, suc, ◌+◌, ◌*◌, ◌<◌, ◌≤◌, ◌^◌, true, false, List, [], ◌∷◌, ◌++◌, length, refl, ap, sym, subst, ◌∙◌, inl, inr, ⊎_elim, arith}
use Rattle.std.specs.Prelude.{◌⊎◌, Bool, not, ◌&&◌, ◌||◌, ◌==◌, if◌then◌else◌, Option, None, Some, option_map, unwrap_or, IsSomeAnd, All, map, set, slice_get}
use Rattle.std.proofs.lemmas.Bool.{false≢true, and_parts}
use Rattle.std.proofs.lemmas.Option.{same_Some}
use Rattle.std.proofs.lemmas.List.Elements.{All-nil, All-cons, All-push, All-append, All-weaker, All-map, All-head, All-tail, All-set}
use Rattle.c_syntax_written.specs.declared.int_type.IntType.TheVariants as ints
use Rattle.c_syntax_written.specs.declared.written.StorageWord.{StorageWord}
use Rattle.c_syntax_written.specs.WrittenDecl.{InitTree}
use Rattle.c_syntax.specs.Types.{CTypeTree, Void, Int, Pointer, Array, Struct, Function, ObjectTree}
use Rattle.c_syntax.specs.Program.{StructDefTree}
use Rattle.c_layout.specs.Layout.{size_in}
use Rattle.c_layout.specs.ProperTypes.{IsTold}
use Rattle.c_layout.specs.RowTypes.{IsScalar, has_const_elements, is_plain_text, is_literal, is_declared_const}
use Rattle.c_layout.specs.WellTyped.{is_array}
use Rattle.c_typing.specs.World.{World, Form, Plain, Unsized, Callable, Object, Linked, Typed}
use Rattle.c_typing.specs.Names.{with_initial, literal_object}
use Rattle.c_typing.specs.Formed.{IsFormed, IsFormedForm}
use Rattle.c_typing.specs.SameTypes.{is_same, is_same_truth}
use Rattle.c_typing.specs.Declarators.{DeclaredName, ParameterTree, Step, PointerTo, ArrayOf, OpenArray, FunctionOf, laid, types_of_params}
use Rattle.c_typing.specs.Operands.{is_unsized}
use Rattle.c_typing.specs.Context.{Context, has_name}
use Rattle.c_typing.specs.Inits.{Initialised, static_bytes}
use Rattle.c_typing.specs.Decls.{FileObject, Declares, ObjectNow, Made, new_function, parameters_of, parameter_object, with_sized, sized_object, with_static, size_or_zero, measured_type, is_same_object, is_object_so, is_object_again, is_read_only, has_initial, composite, composite_type, type_before, object_of}
use Rattle.c_typing.proofs.Changes.{Constants}
use Rattle.c_typing.proofs.Good.{Good, is_later}
use Rattle.c_typing.specs.Later.{IsLater}
use Rattle.c_typing.proofs.Later.{formed_later, later_size}
use Rattle.c_typing.proofs.MadeMembers.{complete_is_size}
use Rattle.c_typing.proofs.Same.{one_type, one_truth}
use Rattle.c_typing.proofs.FormsGo.{FormAt, formed_at, AreFormedSteps, laid_at, no_some}
use Rattle.c_typing.proofs.DeclsGo.{WhatIn, IsMeasured}
use Rattle.c_typing.proofs.Reaches.{Reaches, kept, quiet}
use Rattle.c_typing_laws.specs.NameSteps.{IsObjectForm, complete, open_array, IsFileSize, told, not_told, MakesName, type_name, reserved, first_function, function_again, local, local_open, first_object, first_missing, object_again, missing_again}
use Rattle.c_typing_laws.specs.DeclSteps.{MakesSize, as_it_was, by_count, MakesInit, no_object, bare, given}
use Rattle.c_typing_laws.proofs.Outcomes.{TypedAs, typed_from}
use Rattle.c_typing_laws.proofs.Calm.{IsLiteral, calm}
use Rattle.c_typing_laws.proofs.StepSteady.{init_calm}
use Rattle.c_typing_laws.proofs.Scalars.{IsScalarForm, IsScalarStep, AreScalarSteps, laid_scalar}
use Rattle.c_typing_laws.proofs.Keeps.{IsKept}

-- ---- types

-- an array of a complete type, whose size is not told
pub record IsOpen (structs : List StructDefTree) (ty : CTypeTree) : Type 0 where
  pub of : CTypeTree
  pub is_const : Bool
  pub is : ty ≡ Array of is_const 0
  pub formed : IsFormed structs of
  pub size : ℕ
  pub sized : size_in structs of ≡ Some size

-- a complete type, or an array whose size is not told
abbrev pub MayBeOpen : List StructDefTree → CTypeTree → Type 0
MayBeOpen structs ty = IsFormed structs ty ⊎ IsOpen structs ty

pub record IsWhole (structs : List StructDefTree) (ty : CTypeTree) (size : ℕ) : Type 0 where
  pub formed : IsFormed structs ty
  pub sized : size_in structs ty ≡ Some size

-- const as declared, or a literal
pub record IsDeclared (x : ObjectTree) : Type 0 where
  pub is_const : Bool
  pub read_only : x.read_only ≡ is_read_only x.ty is_const

pub record IsObjectIn (structs : List StructDefTree) (x : ObjectTree) : Type 0 where
  pub ty : IsWhole structs x.ty x.size ⊎ IsOpen structs x.ty
  pub marks : IsDeclared x ⊎ IsLiteral x

abbrev pub ObjectsIn : World → Type 0
ObjectsIn w = All (IsObjectIn w.structs) w.objects

unsized_open : (structs : List StructDefTree) (ty : CTypeTree) → IsOpen structs ty → is_unsized ty ≡ true
unsized_open structs ty o = ap is_unsized o.is

-- a formed type is no array without size
pub formed_sized : (structs : List StructDefTree) (ty : CTypeTree) → IsFormed structs ty → is_unsized ty ≡ true → ⊥
formed_sized structs Void f e = false≢true e
formed_sized structs (Int t) f e = false≢true e
formed_sized structs (Pointer to c) f e = false≢true e
formed_sized structs (Array of c zero) f e = let h = f.1 in absurd (omega (arith, h))
formed_sized structs (Array of c (suc n)) f e = false≢true e
formed_sized structs (Struct n) f e = false≢true e
formed_sized structs (Function n) f e = false≢true e

-- by the size that a declaration of the file tells
file_size : (w : World) (ty : CTypeTree) (how : FileObject) (size : ℕ) (measured : Bool) → MayBeOpen w.structs ty → IsFileSize w ty how size measured → IsWhole w.structs ty size ⊎ IsOpen w.structs ty
file_size w ty how size m (inl f) (told e c) = inl (record { formed = f; sized = complete_is_size w.structs ty size c })
file_size w ty how size m (inr o) (told e c) = absurd (false≢true (sym e ∙ unsized_open w.structs ty o))
file_size w ty how size m (inl f) (not_told e c) = absurd (formed_sized w.structs ty f e)
file_size w ty how size m (inr o) (not_told e c) = inr o

composite_open : (structs : List StructDefTree) (before ty : CTypeTree) → MayBeOpen structs before → MayBeOpen structs ty → MayBeOpen structs (composite before ty)
composite_open structs before ty b t = by (is_unsized ty)
  where
    by : (u : Bool) → MayBeOpen structs (if u then before else ty)
    by true = b
    by false = t

told_some : (o : Option ℕ) → IsSomeAnd o IsTold → (s : ℕ) × (o ≡ Some s)
told_some None h = absurd h
told_some (Some s) h = (s, refl)

form_open : (w : World) (ty : CTypeTree) (c : Bool) (form : Form) → IsObjectForm w ty c form → IsFormedForm w.structs form → MayBeOpen w.structs ty
form_open w ty c form (complete _ _) f = inl f
form_open w ty c form (open_array of d) f =
    let s = told_some (size_in w.structs of) f.1 in inr (record { of = of; is_const = d; is = refl; formed = f.0; size = s.0; sized = s.1 })

-- ---- const

-- types that agree are const alike
same_read_only : (s t : CTypeTree) (c : Bool) → is_same_object s t ≡ true → is_read_only s c ≡ is_read_only t c
same_read_only (Array s d m) (Array t e n) c h =
    let a = and_parts (is_same_truth d e) (is_same s t && ((m == n) || ((m == 0) || (n == 0)))) h in
    let b = and_parts (is_same s t) ((m == n) || ((m == 0) || (n == 0))) a.1 in
    ap (λ x. x || has_const_elements s) (one_truth d e a.0) ∙ ap (λ x. e || has_const_elements x) (one_type s t b.0)
same_read_only s t c h = ap (λ x. is_read_only x c) (one_type s t h)

composite_read_only : (before ty : CTypeTree) (c : Bool) → is_same_object before ty ≡ true → is_read_only (composite before ty) c ≡ is_read_only before c
composite_read_only before ty c h = by (is_unsized ty)
  where
    by : (u : Bool) → is_read_only (if u then before else ty) c ≡ is_read_only before c
    by true = refl
    by false = sym (same_read_only before ty c h)

plain_no_const : (of : CTypeTree) (k : Bool) (n : ℕ) → is_plain_text (Array of k n) ≡ true → has_const_elements (Array of k n) ≡ false
plain_no_const (Int ints.Char) true n e = absurd (false≢true e)
plain_no_const (Int ints.Char) false n e = refl
plain_no_const of k n e = absurd (false≢true e)

both_marks : (h p : Bool) → (p ≡ true → h ≡ false) → (h ≡ h && not p) × (h && p ≡ false)
both_marks true true f = absurd (false≢true (sym (f refl)))
both_marks true false f = (refl, refl)
both_marks false p f = (refl, refl)

no_text : (b : Bool) → b && false ≡ false
no_text true = refl
no_text false = refl

in_array : (of : CTypeTree) (k : Bool) (n : ℕ) (ro : Bool) → ro ≡ has_const_elements (Array of k n)
    → (has_const_elements (Array of k n) ≡ ro && not (is_plain_text (Array of k n))) × (ro && is_plain_text (Array of k n) ≡ false)
in_array of k n ro e =
    subst (λ r. (has_const_elements (Array of k n) ≡ r && not (is_plain_text (Array of k n))) × (r && is_plain_text (Array of k n) ≡ false)) (sym e)
    (both_marks (has_const_elements (Array of k n)) (is_plain_text (Array of k n)) (plain_no_const of k n))

-- an object is const exactly where its elements are, and one that is declared is no literal
pub declared_marks : (x : ObjectTree) → IsDeclared x → (has_const_elements x.ty ≡ is_array x.ty && is_declared_const x) × (is_literal x ≡ false)
declared_marks x d = by x.ty x.read_only d.is_const d.read_only
  where
    by : (ty : CTypeTree) (ro c : Bool) → ro ≡ is_read_only ty c → (has_const_elements ty ≡ is_array ty && (ro && not (is_plain_text ty))) × (ro && is_plain_text ty ≡ false)
    by Void ro c e = (refl, no_text ro)
    by (Int t) ro c e = (refl, no_text ro)
    by (Pointer to k) ro c e = (refl, no_text ro)
    by (Array of k n) ro c e = in_array of k n ro e
    by (Struct n) ro c e = (refl, no_text ro)
    by (Function n) ro c e = (refl, no_text ro)

-- ---- objects that stay

whole_later : (a b : List StructDefTree) → IsLater a b → (x : ObjectTree) → IsObjectIn a x → IsObjectIn b x
whole_later a b later x i = record {
  ty = ⊎_elim (λ h. inl (record { formed = formed_later a b later x.ty h.formed; sized = later_size a b later x.ty x.size h.sized }))
      (λ o. inr (record { of = o.of; is_const = o.is_const; is = o.is; formed = formed_later a b later o.of o.formed; size = o.size; sized = later_size a b later o.of o.size o.sized })) i.ty;
  marks = i.marks;
}

literal_in : (structs : List StructDefTree) (x : ObjectTree) → IsLiteral x → IsObjectIn structs x
literal_in structs x l =
    let n = length l.bytes + 1 in
    let small = l.small in
    let whole : IsWhole structs (literal_object l.at n).ty (literal_object l.at n).size = record { formed = (tt, omega arith, omega (arith, small)); sized = ap Some (omega arith) } in record {
      ty = inl (subst (λ y. IsWhole structs y.ty y.size) (sym l.is) whole);
      marks = inr l;
    }

pub in_calm : (w v : World) → Good w → Reaches Constants w v → ObjectsIn w → ObjectsIn v
in_calm w v good r all =
    let k = kept w v r good in
    let c = calm w v r in
    subst (All (IsObjectIn v.structs)) (sym c.objects)
    (All-append (IsObjectIn v.structs) w.objects c.extra
    (All-weaker (IsObjectIn w.structs) (IsObjectIn v.structs) (λ x i. whole_later w.structs v.structs (is_later w v good k.good k.frame) x i) w.objects all)
    (All-weaker IsLiteral (IsObjectIn v.structs) (λ x l. literal_in v.structs x l) c.extra c.literals))

pub in_same : (w v : World) → v.structs ≡ w.structs → v.objects ≡ w.objects → ObjectsIn w → ObjectsIn v
in_same w v s o all = subst (λ objects. All (IsObjectIn v.structs) objects) (sym o) (subst (λ structs. All (IsObjectIn structs) w.objects) (sym s) all)

pub each_object : (P : ObjectTree → Type 0) (xs : List ObjectTree) (n : ℕ) (x : ObjectTree) → All P xs → slice_get xs n ≡ Some x → P x
each_object P [] n x all e = no_some x e
each_object P (y ∷ rest) zero x all e = subst P (same_Some y x e) (All-head P y rest all)
each_object P (y ∷ rest) (suc n) x all e = each_object P rest n x (All-tail P y rest all) e

in_sized : (w : World) (n : ℕ) (ty : CTypeTree) (size : ℕ) → ((x : ObjectTree) → slice_get w.objects n ≡ Some x → IsObjectIn w.structs x → IsObjectIn w.structs (sized_object ty size x)) → ObjectsIn w
    → ObjectsIn (with_sized w n ty size)
in_sized w n ty size f all = by (slice_get w.objects n) refl
  where
    by : (o : Option ObjectTree) → slice_get w.objects n ≡ o → All (IsObjectIn w.structs) (unwrap_or (option_map (λ object. set w.objects n (sized_object ty size object)) o) w.objects)
    by None e = all
    by (Some x) e = All-set (IsObjectIn w.structs) w.objects n (sized_object ty size x) (f x e (each_object (IsObjectIn w.structs) w.objects n x all e)) all

-- ---- parameters

abbrev pub IsGoodParam : List StructDefTree → ParameterTree → Type 0
IsGoodParam structs p = IsScalar p.ty × IsFormed structs p.ty

scalar_sized : (structs : List StructDefTree) (ty : CTypeTree) → IsScalar ty → size_in structs ty ≡ Some (unwrap_or (size_in structs ty) 0)
scalar_sized structs (Int t) h = refl
scalar_sized structs (Pointer to c) h = refl
scalar_sized structs ty h = absurd h

scalar_read_only : (ty : CTypeTree) (c : Bool) → IsScalar ty → c ≡ is_read_only ty c
scalar_read_only (Int t) c h = refl
scalar_read_only (Pointer to k) c h = refl
scalar_read_only ty c h = absurd h

parameter_in : (w : World) (p : ParameterTree) → IsGoodParam w.structs p → IsObjectIn w.structs (parameter_object w p)
parameter_in w p g = record {
  ty = inl (record { formed = g.1; sized = scalar_sized w.structs p.ty g.0 });
  marks = inl (record { is_const = p.is_const; read_only = scalar_read_only p.ty p.is_const g.0 });
}

pub in_parameters : (w : World) (params : List ParameterTree) → All (IsGoodParam w.structs) params → ObjectsIn w → All (IsObjectIn w.structs) (w.objects ++ map (parameter_object w) params)
in_parameters w params good all =
    All-append (IsObjectIn w.structs) w.objects (map (parameter_object w) params) all
    (All-map (IsObjectIn w.structs) (parameter_object w) params (All-weaker (IsGoodParam w.structs) (λ p. IsObjectIn w.structs (parameter_object w p)) (λ p g. parameter_in w p g) params good))

both_good : (structs : List StructDefTree) (params : List ParameterTree) → All (λ p. IsScalar p.ty) params → All (IsFormed structs) (types_of_params params) → All (IsGoodParam structs) params
both_good structs [] s f = All-nil (IsGoodParam structs)
both_good structs (p ∷ rest) s f =
    All-cons (IsGoodParam structs) p rest (All-head (λ q. IsScalar q.ty) p rest s, All-head (IsFormed structs) p.ty (types_of_params rest) f)
    (both_good structs rest (All-tail (λ q. IsScalar q.ty) p rest s) (All-tail (IsFormed structs) p.ty (types_of_params rest) f))

-- those that a declarator writes
pub written_good : (structs : List StructDefTree) (params : List ParameterTree) (names tags : _) (rest : List Step) → AreFormedSteps structs (FunctionOf params names tags ∷ rest) → AreScalarSteps (FunctionOf params names tags ∷ rest)
    → All (IsGoodParam structs) params
written_good structs params names tags rest f s = both_good structs params (All-head IsScalarStep (FunctionOf params names tags) rest s).0 f.0

both_types : (structs : List StructDefTree) (types : List CTypeTree) → All IsScalar types → All (IsFormed structs) types → All (λ ty. IsScalar ty × IsFormed structs ty) types
both_types structs [] s f = All-nil (λ ty. IsScalar ty × IsFormed structs ty)
both_types structs (ty ∷ rest) s f =
    All-cons (λ t. IsScalar t × IsFormed structs t) ty rest (All-head IsScalar ty rest s, All-head (IsFormed structs) ty rest f)
    (both_types structs rest (All-tail IsScalar ty rest s) (All-tail (IsFormed structs) ty rest f))

params_good : (structs : List StructDefTree) (steps : List Step) (named : DeclaredName) (types : List CTypeTree) → AreFormedSteps structs steps → AreScalarSteps steps → All IsScalar types → All (IsFormed structs) types
    → All (IsGoodParam structs) (parameters_of steps types named.pos)
params_good structs [] named types f s a b = All-map (IsGoodParam structs) _ types (both_types structs types a b)
params_good structs (PointerTo c ∷ rest) named types f s a b = All-map (IsGoodParam structs) _ types (both_types structs types a b)
params_good structs (ArrayOf at n ∷ rest) named types f s a b = All-map (IsGoodParam structs) _ types (both_types structs types a b)
params_good structs (OpenArray ∷ rest) named types f s a b = All-map (IsGoodParam structs) _ types (both_types structs types a b)
params_good structs (FunctionOf params names tags ∷ rest) named types f s a b = written_good structs params names tags rest f s

pub new_in :
    (w : World) (named : DeclaredName) (later : Bool) (params : List ParameterTree) (types : List CTypeTree) (result : CTypeTree) → All (IsGoodParam w.structs) params → ObjectsIn w
    → ObjectsIn (new_function w named later params types result)
new_in w named true params types result good all = all
new_in w named false params types result good all = in_parameters w params good all

-- ---- what a declaration says

form_of : {w v : World} {form : Form} → FormAt w (Typed form v) → IsFormedForm w.structs form
form_of (formed_at form f) = f

pub laid_formed : (w : World) (named : DeclaredName) (steps : List Step) (base form : Form) → AreFormedSteps w.structs steps → IsFormedForm w.structs base → laid w named.pos steps base ≡ Typed form w → IsFormedForm w.structs form
laid_formed w named steps base form s f e = form_of (subst (FormAt w) e (laid_at w named.pos steps base s f))

pub laid_is_scalar :
    (w : World) (named : DeclaredName) (steps : List Step) (base form : Form) → AreFormedSteps w.structs steps → IsFormedForm w.structs base → AreScalarSteps steps → IsScalarForm base
    → laid w named.pos steps base ≡ Typed form w → IsScalarForm form
laid_is_scalar w named steps base form s f t b e = typed_from (subst (λ z. TypedAs (λ y v. IsScalarForm y) z) e (laid_scalar w named.pos steps base s f t b))

one_more : (w : World) (x : ObjectTree) → IsObjectIn w.structs x → ObjectsIn w → All (IsObjectIn w.structs) (w.objects ++ x ∷ [])
one_more w x i all = All-push (IsObjectIn w.structs) w.objects x all i

-- a literal is no object that is declared again
no_literal : (x : ObjectTree) (ty : CTypeTree) (c : Bool) → IsLiteral x → is_same_object x.ty ty ≡ true → is_same_truth x.read_only (is_read_only ty c) ≡ true → ⊥
no_literal x ty c l same ro =
    let e = one_truth x.read_only (is_read_only ty c) ro ∙ sym (same_read_only x.ty ty c same) in
    false≢true (sym (ap (λ y. is_read_only y.ty c) l.is) ∙ sym e ∙ ap (λ y. y.read_only) l.is)

again_in :
    (w : World) (ty : CTypeTree) (c has_init : Bool) (form : Form) (how : FileObject) (measured : Bool) (l : Linked) (n size : ℕ) (x : ObjectTree) → MayBeOpen w.structs ty → l.meaning ≡ Object n
    → is_object_again w ty c has_init (Object n) ≡ true → IsFileSize w (composite_type w ty (Some l)) how size measured → slice_get w.objects n ≡ Some x → IsObjectIn w.structs x
    → IsObjectIn w.structs (sized_object (composite_type w ty (Some l)) size x)
again_in w ty c has_init form how measured l n size x may m so file e i =
    let one = (and_parts (is_object_so w ty c (Object n)) (not (has_init && has_initial w (Object n))) so).0 in
    let two : is_same_object x.ty ty && is_same_truth x.read_only (is_read_only ty c) ≡ true =
    subst (λ o. unwrap_or (option_map (λ object. is_same_object object.ty ty && is_same_truth object.read_only (is_read_only ty c)) o) false ≡ true) e one in
    let parts = and_parts (is_same_object x.ty ty) (is_same_truth x.read_only (is_read_only ty c)) two in
    let before : type_before w l.meaning ty ≡ x.ty = ap (λ y. type_before w y ty) m ∙ ap (λ o. unwrap_or (option_map (λ object. object.ty) o) ty) e in
    let was : MayBeOpen w.structs x.ty = ⊎_elim (λ h. inl h.formed) (λ o. inr o) i.ty in
    let now : MayBeOpen w.structs (composite_type w ty (Some l)) = subst (λ b. MayBeOpen w.structs (composite b ty)) (sym before) (composite_open w.structs x.ty ty was may) in
    let same : (k : Bool) → is_read_only (composite_type w ty (Some l)) k ≡ is_read_only x.ty k =
    λ k. ap (λ b. is_read_only (composite b ty) k) before ∙ composite_read_only x.ty ty k parts.0 in record {
      ty = file_size w (composite_type w ty (Some l)) how size measured now file;
      marks = ⊎_elim (λ d. inl (record { is_const = d.is_const; read_only = d.read_only ∙ sym (same d.is_const) })) (λ t. absurd (no_literal x ty c t parts.0 parts.1)) i.marks;
    }

pub name_in :
    {around : Context} {w v : World} {storage : List StorageWord} {steps : List Step} {base : Form} {has_init : Bool} {named : DeclaredName} {what : Declares}
    → AreFormedSteps w.structs steps → IsFormedForm w.structs base → AreScalarSteps steps → IsScalarForm base → MakesName around w storage steps base has_init named what v → ObjectsIn w → ObjectsIn v
name_in {w = w} {v = v} s f t b (type_name form d e) all = in_same w v refl refl all
name_in s f t b (reserved y) all = all
name_in {around = around} {w = w} {steps = steps} {base = base} {named = named} s f t b (first_function types result r e n) all =
    let formed : IsFormedForm w.structs (Callable types result) = laid_formed w named steps base (Callable types result) s f e in
    let scalar : IsScalarForm (Callable types result) = laid_is_scalar w named steps base (Callable types result) s f t b e in
    new_in w named (has_name around.functions named.name) (parameters_of steps types named.pos) types result (params_good w.structs steps named types s t scalar.0 formed.0) all
name_in {w = w} {v = v} s f t b (function_again types result l n so) all = in_same w v refl refl all
name_in {w = w} {steps = steps} {base = base} {named = named} s f t b (local ty c st size i e h) all =
    let formed : IsFormedForm w.structs (Plain ty c) = laid_formed w named steps base (Plain ty c) s f e in
    one_more w (object_of named ty c size st) (record {
      ty = inl (record { formed = formed; sized = complete_is_size w.structs ty size h });
      marks = inl (record { is_const = c; read_only = refl });
    }) all
name_in {w = w} {steps = steps} {base = base} {named = named} s f t b (local_open of c st i e h) all =
    let formed : IsFormedForm w.structs (Unsized of c) = laid_formed w named steps base (Unsized of c) s f e in
    let s2 = told_some (size_in w.structs of) formed.1 in
    one_more w (object_of named (Array of c 0) false 0 st) (record {
      ty = inr (record { of = of; is_const = c; is = refl; formed = formed.0; size = s2.0; sized = s2.1 });
      marks = inl (record { is_const = false; read_only = refl });
    }) all
name_in {w = w} {steps = steps} {base = base} {named = named} s f t b (first_object form ty c m size total r e is n h z) all =
    let may = form_open w ty c form is (laid_formed w named steps base form s f e) in
    one_more w (object_of named ty c size true) (record { ty = file_size w ty _ size m may z; marks = inl (record { is_const = c; read_only = refl }) }) all
name_in {w = w} {v = v} s f t b (first_missing ty c total r n h) all = in_same w v refl refl all
name_in {w = w} {v = v} {steps = steps} {base = base} {has_init = has_init} {named = named} s f t b (object_again form ty c m l n size total e is k q a z) all =
    let before = record w { total = total } in
    let may = form_open w ty c form is (laid_formed w named steps base form s f e) in
    in_same (with_sized before n (composite_type w ty (Some l)) size) v refl refl
    (in_sized before n (composite_type w ty (Some l)) size (λ x r i. again_in w ty c has_init form _ m l n size x may q a z r i) (in_same w before refl refl all))
name_in {w = w} {v = v} s f t b (missing_again ty before c l size total d k q) all = in_same w v refl refl all

-- ---- arrays that get their size

abbrev element_of : CTypeTree → CTypeTree
element_of (Array of c n) = of
element_of ty = ty

abbrev elements : CTypeTree → ℕ
elements (Array of c n) = n
elements ty = 0

some_count : (n : ℕ) → (n == 0) ≡ false → 0 < n
some_count zero e = absurd (false≢true (sym e))
some_count (suc n) e = omega arith

product_size : (count s : ℕ) (o : Option ℕ) → o ≡ Some s → option_map (λ x. count * x) o ≡ Some (unwrap_or (option_map (λ x. count * x) o) 0)
product_size count s None e = no_some s e
product_size count s (Some x) e = refl

product_told : (count s : ℕ) (o : Option ℕ) → o ≡ Some s → unwrap_or (option_map (λ x. count * x) o) 0 ≤ 2 ^ 40 → IsSomeAnd (option_map (λ x. count * x) o) IsTold
product_told count s None e h = no_some s e
product_told count s (Some x) e h = h

array_in :
    (w : World) (of : CTypeTree) (c : Bool) (count : ℕ) (x : ObjectTree) → x.ty ≡ Array of c 0 → (count == 0) ≡ false → size_or_zero w (Array of c count) ≤ 2 ^ 40 → IsObjectIn w.structs x
    → IsObjectIn w.structs (sized_object (Array of c count) (size_or_zero w (Array of c count)) x)
array_in w of c count x e some fits i =
    let o : IsOpen w.structs x.ty = ⊎_elim (λ h. absurd (formed_sized w.structs x.ty h.formed (ap is_unsized e))) (λ o. o) i.ty in
    let same : o.of ≡ of = ap element_of (sym o.is ∙ e) in
    let sized : size_in w.structs of ≡ Some o.size = ap (size_in w.structs) (sym same) ∙ o.sized in record {
      ty = inl (record {
        formed = (subst (IsFormed w.structs) same o.formed, some_count count some, product_told count o.size (size_in w.structs of) sized fits);
        sized = product_size count o.size (size_in w.structs of) sized;
      });
      marks = ⊎_elim (λ d. inl (record { is_const = d.is_const; read_only = d.read_only ∙ ap (λ t. is_read_only t d.is_const) e }))
          (λ l. let z : length l.bytes + 1 ≡ 0 = ap elements (sym (ap (λ y. y.ty) l.is) ∙ e) in absurd (omega (arith, z))) i.marks;
    }

measured_in :
    (w : World) (object : ObjectNow) (count : ℕ) (of : CTypeTree) (c : Bool) (x : ObjectTree) → object.ty ≡ Array of c 0 → x.ty ≡ Array of c 0 → (count == 0) ≡ false
    → size_or_zero w (measured_type object.ty count) ≤ 2 ^ 40 → IsObjectIn w.structs x
    → IsObjectIn w.structs (sized_object (measured_type object.ty count) (size_or_zero w (measured_type object.ty count)) x)
measured_in w object count of c x t e some fits i =
    subst (λ ty. IsObjectIn w.structs (sized_object (measured_type ty count) (size_or_zero w (measured_type ty count)) x)) (sym t)
    (array_in w of c count x e some (subst (λ ty. size_or_zero w (measured_type ty count) ≤ 2 ^ 40) t fits) i)

pub was_open : (w v : World) (object : ObjectNow) → Reaches Constants w v → (m : IsMeasured object w) → (x : ObjectTree) → slice_get v.objects object.number ≡ Some x → x.ty ≡ Array m.of m.is_const 0
was_open w v object r m x e = by (slice_get w.objects object.number) refl m.there
  where
    by : (o : Option ObjectTree) → slice_get w.objects object.number ≡ o → IsSomeAnd o (λ y. y.ty ≡ Array m.of m.is_const 0) → x.ty ≡ Array m.of m.is_const 0
    by None q t = absurd t
    by (Some y) q t =
        let same = same_Some y x (sym ((quiet Constants w v r).objects object.number y q) ∙ e) in ap (λ z. z.ty) (sym same) ∙ t

static_in : (w : World) (object : ObjectNow) (ty : CTypeTree) (by : Initialised) → ObjectsIn w → ObjectsIn (with_static w object ty by)
static_in w object ty by all = at object.is_static
  where
    at : (b : Bool) → ObjectsIn (if b then with_initial w object.number (static_bytes w.objects (size_or_zero w ty) by.items) else w)
    at true = in_same w (with_initial w object.number (static_bytes w.objects (size_or_zero w ty) by.items)) refl refl all
    at false = all

size_in_world :
    {w u v : World} {object : ObjectNow} {by : Initialised} {ty : CTypeTree} → Reaches Constants w u → (object.measured ≡ true → IsMeasured object w) → MakesSize u object by ty v → ObjectsIn u → ObjectsIn v
size_in_world r is (as_it_was m) all = all
size_in_world {w = w} {u = u} {v = v} {object = object} {by = by} r is (by_count m c t) all =
    let measured = is m in
    let ty = measured_type object.ty by.count in
    in_same (with_sized u object.number ty (size_or_zero u ty)) v refl refl
    (in_sized u object.number ty (size_or_zero u ty)
    (λ x e i. measured_in u object by.count measured.of measured.is_const x measured.ty (was_open w u object r measured x e) c t i) all)

init_in : {w v : World} {what : Declares} {init : Option InitTree} {made : Made} → Good w → WhatIn what w → MakesInit w what init made v → ObjectsIn w → ObjectsIn v
init_in good is no_object all = all
init_in good is bare all = all
init_in {w = w} good is (given {u = u} {v = v} {object = object} {init = init} {by = by} {ty = ty} t s) all =
    let r = init_calm object init by good t in static_in v object ty by (size_in_world r is s (in_calm w u good r all))

pub objects_kept : (functions objects : List (List ℕ)) → IsKept functions objects ObjectsIn
objects_kept functions objects = record {
  calm = in_calm;
  declared = λ around w v x storage steps base has_init named what init made f o h good s b t z n good2 is m r q all. init_in good2 is m (name_in s b t z n all);
  moved = λ w v same all. in_same w v same.structs same.objects all;
}
