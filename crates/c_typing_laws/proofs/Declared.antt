-- The object that a declarator declares, and what its initialiser stores there.
use Rattle.std.proofs.Common.{◌≡◌, ℕ, zero, suc, ◌*◌, true, false, List, [], ◌∷◌, refl, ap, sym, subst, ◌∙◌, inl, inr, ⊎_elim}
use Rattle.std.specs.Prelude.{◌⊎◌, Bool, ◌==◌, not, ◌&&◌, if◌then◌else◌, IsTrue, Option, None, Some, IsSomeAnd, option_map, unwrap_or, All, AllPairs, Contains, map, set, slice_get}
use Rattle.std.proofs.lemmas.Bool.{false≢true, and_parts}
use Rattle.std.proofs.lemmas.List.Elements.{All-nil, All-map, All-weaker, All-head}
use Rattle.c_syntax_written.specs.declared.written.StorageWord.{StorageWord}
use Rattle.c_syntax_written.specs.WrittenDecl.{InitTree}
use Rattle.c_syntax.specs.Types.{CTypeTree, Void, Array, ObjectTree}
use Rattle.c_syntax.specs.TypedStmt.{TInitTree, Store, Copy}
use Rattle.c_syntax.specs.Program.{StructDefTree}
use Rattle.c_layout.specs.Layout.{size_in}
use Rattle.c_layout.specs.TypedNodes.{Scope, object_type, IsTypedInit, AreApart, AreTypedInits}
use Rattle.c_typing.specs.World.{World, Form, Object, Typed}
use Rattle.c_typing.specs.Names.{with_initial}
use Rattle.c_typing.specs.Formed.{IsFormed}
use Rattle.c_typing.specs.Operands.{is_unsized, complete_size}
use Rattle.c_typing.specs.Declarators.{DeclaredName, Step}
use Rattle.c_typing.specs.Context.{Context}
use Rattle.c_typing.specs.CurrentObject.{frame_of, open_frame}
use Rattle.c_typing.specs.Inits.{Initialised, TypesInit, whole_part, static_bytes}
use Rattle.c_typing.specs.Settled.{settled_init}
use Rattle.c_typing.specs.Laws.{IsLastType, sized}
use Rattle.c_typing.specs.Decls.{Declares, AnObject, NoObject, ObjectNow, Made, with_sized, sized_object, with_total, with_static, size_or_zero, measured_type, frame_for, is_object_so, has_initial, file_object_of, composite_type}
use Rattle.c_typing.proofs.Changes.{Constants, Any}
use Rattle.c_typing.proofs.Good.{Good, is_later}
use Rattle.c_typing.proofs.Later.{later_size}
use Rattle.c_typing.proofs.DeclsGo.{WhatIn, IsMeasured}
use Rattle.c_typing.proofs.FormsGo.{found_each}
use Rattle.c_typing.proofs.MadeTables.{get_last, get_set}
use Rattle.c_typing.proofs.Reaches as reaches
use Rattle.c_typing.proofs.Reaches.{Reaches, GoesWith, typed_so, kept}
use Rattle.c_typing_laws.specs.NameSteps.{with_sum, IsFileSize, told, not_told, MakesName, type_name, reserved, first_function, function_again, local, local_open, first_object, first_missing, object_again, missing_again}
use Rattle.c_typing_laws.specs.DeclSteps.{MakesSize, as_it_was, by_count, MakesInit}
use Rattle.c_typing_laws.proofs.NamesMade.{no_size}
use Rattle.c_typing_laws.proofs.Reached.{good_by}
use Rattle.c_typing_laws.proofs.StepSteady.{init_calm}
use Rattle.c_typing_laws.specs.ExpressionLaws.{AreUsable, EndsFrom}
use Rattle.c_typing_laws.proofs.Lasts.{last_complete}
use Rattle.c_typing_laws.proofs.Grows.{init_objects}
use Rattle.c_typing_laws.specs.InitLaws.{AreFilled}
use Rattle.c_typing_laws.proofs.Items.{pairs_nil, pairs_cons, pairs_head, pairs_tail}
use Rattle.c_typing_laws.proofs.Whole.{sized_with, open_with}
use Rattle.c_typing_laws.proofs.Objects.{IsWhole, IsObjectIn, ObjectsIn, each_object, formed_sized, was_open}
use Rattle.c_typing_laws.proofs.Onward.{onward, ArePaired, paired}
use Rattle.c_typing_laws.proofs.Ends.{ends_onward, ends_same}
use Rattle.c_typing_laws.proofs.Entities.{IsEntity, AreEntities}
use Rattle.c_typing_laws.proofs.Usable.{IsListedNow}

-- ---- the object

-- it stands at its number, with its type; one that is not measured by its initialiser has its size
pub record IsThere (v : World) (has_init : Bool) (object : ObjectNow) : Type 0 where
  pub own : ObjectTree
  pub there : slice_get v.objects object.number ≡ Some own
  pub ty : own.ty ≡ object.ty
  pub is_static : own.is_static ≡ object.is_static
  pub told_size : object.measured ≡ false → has_init ≡ true → is_unsized object.ty ≡ false
  pub listed : object.is_static ≡ false → object.in_block ≡ true

abbrev pub IsDeclared : World → Bool → Declares → Type 0
IsDeclared v has_init NoObject = Unit {0}
IsDeclared v has_init (AnObject object) = IsThere v has_init object

size_told : (w : World) (ty : CTypeTree) (around : Context) (storage : List StorageWord) (name : List ℕ) (has_init m : Bool) (size : ℕ) → IsFileSize w ty (file_object_of around storage name has_init) size m
    → m ≡ false → has_init ≡ true → is_unsized ty ≡ false
size_told w ty around storage name has_init m size (told u c) e h = u
size_told w ty around storage name has_init m size (not_told u d) e h = absurd (false≢true (sym e ∙ h))

complete_told : (w : World) (ty : CTypeTree) (size : ℕ) → complete_size w.structs ty ≡ Some size → is_unsized ty ≡ false
complete_told w ty size h = by (is_unsized ty) (no_size w ty size h)
  where
    by : (b : Bool) → (b ≡ true → ⊥) → b ≡ false
    by true f = absurd (f refl)
    by false f = refl

-- the object that is declared again
again_there : (w : World) (ty : CTypeTree) (c : Bool) (n : ℕ) → is_object_so w ty c (Object n) ≡ true → IsSomeAnd (slice_get w.objects n) (λ x. IsTrue x.is_static) → (x : ObjectTree) × (slice_get w.objects n ≡ Some x) × (x.is_static ≡ true)
again_there w ty c n so h = by (slice_get w.objects n) refl h
  where
    by : (o : Option ObjectTree) → slice_get w.objects n ≡ o → IsSomeAnd o (λ x. IsTrue x.is_static) → (x : ObjectTree) × (slice_get w.objects n ≡ Some x) × (x.is_static ≡ true)
    by None e t = absurd t
    by (Some x) e t = (x, e, t)

sized_there : (u : World) (n : ℕ) (ty : CTypeTree) (size : ℕ) (x : ObjectTree) → slice_get u.objects n ≡ Some x → slice_get (with_sized u n ty size).objects n ≡ Some (sized_object ty size x)
sized_there u n ty size x e =
    ap (λ o. slice_get (unwrap_or (option_map (λ object. set u.objects n (sized_object ty size object)) o) u.objects) n) e ∙ get_set u.objects n x (sized_object ty size x) e

pub name_declared :
    {around : Context} {w v : World} {storage : List StorageWord} {steps : List Step} {base : Form} {has_init : Bool} {named : DeclaredName} {what : Declares}
    → MakesName around w storage steps base has_init named what v → AreEntities w → IsDeclared v has_init what
name_declared (type_name form d e) links = tt
name_declared (reserved y) links = tt
name_declared (first_function types result r e n) links = tt
name_declared (function_again types result l n so) links = tt
name_declared {w = w} (local ty c st size i e h) links = record {
  own = _;
  there = get_last w.objects _;
  ty = refl;
  is_static = refl;
  told_size = λ m q. complete_told w ty size h;
  listed = λ q. refl;
}
name_declared {w = w} (local_open of c st i e h) links = record {
  own = _;
  there = get_last w.objects _;
  ty = refl;
  is_static = refl;
  told_size = λ m q. absurd (false≢true (sym m));
  listed = λ q. refl;
}
name_declared {around = around} {w = w} {storage = storage} {has_init = has_init} {named = named} (first_object form ty c m size total r e is n h z) links = record {
  own = _;
  there = get_last w.objects _;
  ty = refl;
  is_static = refl;
  told_size = size_told w ty around storage named.name has_init m size z;
  listed = λ q. absurd (false≢true (sym q));
}
name_declared (first_missing ty c total r n h) links = tt
name_declared {around = around} {w = w} {storage = storage} {has_init = has_init} {named = named} (object_again form ty c m l n size total e is k q a z) links =
    let entity = subst (IsEntity w) q (found_each (λ j. IsEntity w j.meaning) _ w.linked l links k) in
    let was = again_there w ty c n (and_parts (is_object_so w ty c (Object n)) (not (has_init && has_initial w (Object n))) a).0 entity in
    record {
      own = sized_object (composite_type w ty (Some l)) size was.0;
      there = sized_there (with_sum w total) n (composite_type w ty (Some l)) size was.0 was.1;
      ty = refl;
      is_static = was.2;
      told_size = size_told w (composite_type w ty (Some l)) around storage named.name has_init m size z;
      listed = λ q. absurd (false≢true (sym q));
    }
name_declared (missing_again ty before c l size total d k q) links = tt

-- it is static, or among those that its block lists
pub declared_lives :
    {v x : World} {what : Declares} {init : Option InitTree} {made : Made} (scope : Scope) (has_init : Bool) → IsDeclared v has_init what → MakesInit v what init made x → All (Contains scope.live) made.objects
    → IsListedNow scope what
declared_lives {what = NoObject} scope has_init d m all = tt
declared_lives {what = AnObject object} {made = made} scope has_init d m all = by object.is_static refl
  where
    by : (s : Bool) → object.is_static ≡ s → IsTrue object.is_static ⊎ Contains scope.live object.number
    by true e = inl e
    by false e =
        let numbers : made.objects ≡ object.number ∷ [] =
        init_objects m ∙ ap (λ b. if b then (if object.is_static then [] else object.number ∷ []) else []) (d.listed e) ∙ ap (λ s. if s then [] else object.number ∷ []) e in
        inr (All-head (Contains scope.live) object.number [] (subst (All (Contains scope.live)) numbers all))

-- ---- what its initialiser stores

-- the items fill parts of the object, which has this type at the end
pub record IsFilled (scope : Scope) (object : ObjectNow) (ty : CTypeTree) (items : List TInitTree) : Type 0 where
  pub filled : AreFilled scope ty items
  pub last : object_type scope.program object.number ≡ ty

typed_from : {w v : World} {A : Type 0} {a : A} {P : A → World → Type 0} → GoesWith Constants w P (Typed a v) → P a v
typed_from (typed_so r p) = p

-- an object of a complete type has it to the end
last_is : (v : World) (scope : Scope) (n : ℕ) (x : ObjectTree) → EndsFrom v scope → slice_get v.objects n ≡ Some x → is_unsized x.ty ≡ false → object_type scope.program n ≡ x.ty
last_is v scope n x ends e size_is =
    let last = ends.objects n x e in ap (λ o. unwrap_or (option_map (λ y. y.ty) o) Void) last.there ∙ last_complete last.ty size_is

pub static_same : (w : World) (object : ObjectNow) (ty : CTypeTree) (by : Initialised) (P : World → Type 0) → P w → P (with_initial w object.number (static_bytes w.objects (size_or_zero w ty) by.items)) → P (with_static w object ty by)
static_same w object ty by P p q = at object.is_static
  where
    at : (b : Bool) → P (if b then with_initial w object.number (static_bytes w.objects (size_or_zero w ty) by.items) else w)
    at true = q
    at false = p

whole_of : (v : World) (object : ObjectNow) (own : ObjectTree) → own.ty ≡ object.ty → is_unsized object.ty ≡ false → IsObjectIn v.structs own → IsWhole v.structs object.ty own.size
whole_of v object own e size_is i =
    subst (λ ty. IsWhole v.structs ty own.size) e (⊎_elim (λ h. h) (λ o. absurd (false≢true (sym size_is ∙ ap is_unsized (sym e) ∙ ap is_unsized o.is))) i.ty)

open_of : (v : World) (object : ObjectNow) (own : ObjectTree) (m : IsMeasured object v) → own.ty ≡ object.ty → IsObjectIn v.structs own → IsFormed v.structs m.of × (s : ℕ) × (size_in v.structs m.of ≡ Some s)
open_of v object own m e i =
    ⊎_elim (λ h. absurd (formed_sized v.structs own.ty h.formed (ap is_unsized (e ∙ m.ty))))
    (λ o. let same : o.of ≡ m.of = ap element_of (sym o.is ∙ e ∙ m.ty) in (subst (IsFormed v.structs) same o.formed, o.size, subst (λ t. size_in v.structs t ≡ Some o.size) same o.sized)) i.ty
  where
    element_of : CTypeTree → CTypeTree
    element_of (Array of c n) = of
    element_of ty = ty

-- a complete type
sized_filled :
    (v u : World) (object : ObjectNow) (init : InitTree) (by : Initialised) (scope : Scope) → Good v → ArePaired v → ObjectsIn v → AreUsable v scope → IsThere v true object
    → TypesInit v object.is_static object.ty (frame_for v object) init (Typed by u) → object.measured ≡ false → EndsFrom (with_static u object object.ty by) scope → IsFilled scope object object.ty by.items
sized_filled v u object init by scope good pair objects usable there t m ends =
    let size_is = there.told_size m refl in
    let is = whole_of v object there.own there.ty size_is (each_object (IsObjectIn v.structs) v.objects object.number there.own objects there.there) in
    let typed = subst (λ b. TypesInit v object.is_static object.ty (if b then open_frame object.ty else frame_of v.structs (whole_part object.ty)) init (Typed by u)) m t in
    let behind = static_same u object object.ty by (λ x. EndsFrom x scope → EndsFrom u scope) (λ e. e) (λ e. ends_same _ u scope refl refl refl refl e) ends in
    let first = ends_onward v u scope good pair (init_calm object init by good t) behind in
    record {
      filled = typed_from (sized_with scope v object.is_static object.ty init there.own.size usable is.formed is.sized good good (Typed by u) typed) behind;
      last = last_is v scope object.number there.own first there.there (ap is_unsized there.ty ∙ size_is) ∙ there.ty;
    }

-- an array that has its size by its initialiser

some_elements : (of : CTypeTree) (c : Bool) (n : ℕ) → (n == 0) ≡ false → is_unsized (Array of c n) ≡ false
some_elements of c zero e = absurd (false≢true (sym e))
some_elements of c (suc n) e = refl

measured_is : (object : ObjectNow) (v : World) (count : ℕ) (m : IsMeasured object v) → measured_type object.ty count ≡ Array m.of m.is_const count
measured_is object v count m = ap (λ ty. measured_type ty count) m.ty

measured_world : World → ObjectNow → CTypeTree → World
measured_world u object ty = with_total (with_sized u object.number ty (size_or_zero u ty)) (size_or_zero u ty)

-- from the world behind the initialiser to the one in which the array has its size
measured_reach : (v u : World) (object : ObjectNow) (count : ℕ) → Reaches Constants v u → (m : IsMeasured object v) → Reaches Any u (measured_world u object (measured_type object.ty count))
unfolding measured_world
measured_reach v u object count r m =
    let ty = measured_type object.ty count in
    reaches.after _ _ _
    (reaches.sized u object.number ty (size_or_zero u ty)
    (λ x e. subst (λ s. IsLastType s ty) (sym (was_open v u object r m x e)) (subst (IsLastType (Array m.of m.is_const 0)) (sym (measured_is object v count m)) (sized m.of m.is_const count))))
    (reaches.counted _ (size_or_zero u ty))

measured_there : (u : World) (object : ObjectNow) (ty : CTypeTree) (x : ObjectTree) → slice_get u.objects object.number ≡ Some x → slice_get (measured_world u object ty).objects object.number ≡ Some (sized_object ty (size_or_zero u ty) x)
unfolding measured_world
measured_there u object ty x e = sized_there u object.number ty (size_or_zero u ty) x e

open_filled :
    (v u : World) (object : ObjectNow) (init : InitTree) (by : Initialised) (scope : Scope) → Good v → ArePaired v → ObjectsIn v → AreUsable v scope → IsThere v true object → IsMeasured object v
    → TypesInit v object.is_static object.ty (frame_for v object) init (Typed by u) → object.measured ≡ true → (by.count == 0) ≡ false
    → EndsFrom (measured_world u object (measured_type object.ty by.count)) scope → IsFilled scope object (measured_type object.ty by.count) by.items
open_filled v u object init by scope good pair objects usable there m t e some ends =
    let calm = init_calm object init by good t in
    let before = open_of v object there.own m there.ty (each_object (IsObjectIn v.structs) v.objects object.number there.own objects there.there) in
    let framed = subst (λ b. TypesInit v object.is_static object.ty (if b then open_frame object.ty else frame_of v.structs (whole_part object.ty)) init (Typed by u)) e t in
    let typed = subst (λ ty. TypesInit v object.is_static ty (open_frame ty) init (Typed by u)) m.ty framed in
    let good2 = good_by good calm in
    let behind = ends_onward u (measured_world u object (measured_type object.ty by.count)) scope good2 (paired v u calm pair) (measured_reach v u object by.count calm m) ends in
    let own = (onward v u calm).objects object.number there.own there.there in
    let ty_is = measured_is object v by.count m in
    record {
      filled = subst (λ ty. AreFilled scope ty by.items) (sym ty_is)
          (typed_from (open_with scope v object.is_static m.of m.is_const init before.1 usable before.0 before.2 good good (Typed by u) typed) behind);
      last = last_is (measured_world u object (measured_type object.ty by.count)) scope object.number (sized_object (measured_type object.ty by.count) (size_or_zero u (measured_type object.ty by.count)) own.0) ends
          (measured_there u object (measured_type object.ty by.count) own.0 own.1) (ap is_unsized ty_is ∙ some_elements m.of m.is_const by.count some);
    }

pub size_filled :
    {v u x : World} {object : ObjectNow} (init : InitTree) {by : Initialised} {ty : CTypeTree} (scope : Scope) → Good v → ArePaired v → ObjectsIn v → AreUsable v scope → IsThere v true object
    → WhatIn (AnObject object) v → TypesInit v object.is_static object.ty (frame_for v object) init (Typed by u) → MakesSize u object by ty x → EndsFrom (with_static x object ty by) scope → IsFilled scope object ty by.items
unfolding measured_world
size_filled {v = v} {u = u} {object = object} init {by = by} scope good pair objects usable there what t (as_it_was m) ends =
    sized_filled v u object init by scope good pair objects usable there t m ends
size_filled {v = v} {u = u} {object = object} init {by = by} scope good pair objects usable there what t (by_count m c k) ends =
    let x = measured_world u object (measured_type object.ty by.count) in
    open_filled v u object init by scope good pair objects usable there (what m) t m c
    (static_same x object (measured_type object.ty by.count) by (λ y. EndsFrom y scope → EndsFrom x scope) (λ e. e) (λ e. ends_same _ x scope refl refl refl refl e) ends)

-- from the world behind the initialiser to the one behind the declarator
static_reach : (w : World) (object : ObjectNow) (ty : CTypeTree) (by : Initialised) → Reaches Any w (with_static w object ty by)
static_reach w object ty by = static_same w object ty by (Reaches Any w) (reaches.stays w) (reaches.initial w object.number _)

pub size_reach : {v u x : World} {object : ObjectNow} {by : Initialised} {ty : CTypeTree} → Reaches Constants v u → WhatIn (AnObject object) v → MakesSize u object by ty x → Reaches Any u x
unfolding measured_world
size_reach {u = u} r what (as_it_was m) = reaches.stays u
size_reach {v = v} {u = u} {object = object} {by = by} r what (by_count m c k) = measured_reach v u object by.count r (what m)

pub behind_reach : {v u x : World} {object : ObjectNow} {by : Initialised} {ty : CTypeTree} → Reaches Constants v u → WhatIn (AnObject object) v → MakesSize u object by ty x → Reaches Any u (with_static x object ty by)
behind_reach {x = x} {object = object} {by = by} {ty = ty} r what s = reaches.after _ _ _ (size_reach r what s) (static_reach x object ty by)

-- ---- as items of a declaration

apart_settled : (structs : List StructDefTree) (objects : List ObjectTree) (a b : TInitTree) → AreApart structs a b → AreApart structs (settled_init objects a) (settled_init objects b)
apart_settled structs objects (Store o t e) (Store p s f) h = h
apart_settled structs objects (Store o t e) (Copy p s f) h = h
apart_settled structs objects (Copy o t e) (Store p s f) h = h
apart_settled structs objects (Copy o t e) (Copy p s f) h = h

pairs_settled : (structs : List StructDefTree) (objects : List ObjectTree) (items : List TInitTree) → AllPairs (AreApart structs) items → AllPairs (AreApart structs) (map (settled_init objects) items)
pairs_settled structs objects [] all = pairs_nil (AreApart structs)
pairs_settled structs objects (x ∷ xs) all =
    pairs_cons (AreApart structs) (settled_init objects x) (map (settled_init objects) xs)
    (All-map (AreApart structs (settled_init objects x)) (settled_init objects) xs
    (All-weaker (AreApart structs x) (λ y. AreApart structs (settled_init objects x) (settled_init objects y)) (λ y h. apart_settled structs objects x y h) xs (pairs_head (AreApart structs) x xs all)))
    (pairs_settled structs objects xs (pairs_tail (AreApart structs) x xs all))

pub inits_typed : (scope : Scope) (object : ObjectNow) (ty : CTypeTree) (items : List TInitTree) → IsFilled scope object ty items → AreTypedInits scope object.number (map (settled_init scope.program.objects) items)
inits_typed scope object ty items f = record {
  typed = All-map (IsTypedInit scope (object_type scope.program object.number)) (settled_init scope.program.objects) items
      (subst (λ t. All (λ i. IsTypedInit scope t (settled_init scope.program.objects i)) items) (sym f.last) f.filled.typed);
  apart = pairs_settled scope.program.structs scope.program.objects items f.filled.apart;
}

pub no_inits : (scope : Scope) (n : ℕ) → AreTypedInits scope n []
no_inits scope n = record { typed = All-nil (IsTypedInit scope (object_type scope.program n)); apart = pairs_nil (AreApart scope.program.structs) }

-- ---- sizes

-- the type behind the initialiser has a size
pub ty_sized :
    {v u x : World} {object : ObjectNow} (init : InitTree) {by : Initialised} {ty : CTypeTree} → Good v → ObjectsIn v → IsThere v true object → WhatIn (AnObject object) v
    → TypesInit v object.is_static object.ty (frame_for v object) init (Typed by u) → MakesSize u object by ty x → (size : ℕ) × (size_in x.structs ty ≡ Some size)
ty_sized {v = v} {u = u} {object = object} init {by = by} good objects there what t (as_it_was m) =
    let r = init_calm object init by good t in
    let k = kept v u r good in
    let is = whole_of v object there.own there.ty (there.told_size m refl) (each_object (IsObjectIn v.structs) v.objects object.number there.own objects there.there) in
    (there.own.size, later_size v.structs u.structs (is_later v u good k.good k.frame) object.ty there.own.size is.sized)
ty_sized {v = v} {u = u} {object = object} init {by = by} good objects there what t (by_count m c f) =
    let r = init_calm object init by good t in
    let k = kept v u r good in
    let measured = what m in
    let before = open_of v object there.own measured there.ty (each_object (IsObjectIn v.structs) v.objects object.number there.own objects there.there) in
    let element = later_size v.structs u.structs (is_later v u good k.good k.frame) measured.of before.1 before.2 in
    (by.count * before.1, ap (size_in u.structs) (measured_is object v by.count measured) ∙ ap (option_map (λ s. by.count * s)) element)
