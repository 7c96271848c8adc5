-- An array without size is one of an object that the file defines and has not defined yet.
use Rattle.std.proofs.Common.{◌≡◌, ℕ, zero, suc, ◌+◌, true, false, List, [], ◌∷◌, ◌++◌, length, refl, ap, sym, subst, ◌∙◌, inl, inr, ⊎_elim, arith}
use Rattle.std.specs.Prelude.{◌⊎◌, Bool, not, ◌&&◌, ◌==◌, if◌then◌else◌, is_some, Option, None, Some, option_map, unwrap_or, All, find, map, slice_get, bytes_eq}
use Rattle.std.proofs.lemmas.Bool.{false≢true, and_parts}
use Rattle.std.proofs.lemmas.Option.{same_Some}
use Rattle.std.proofs.lemmas.List.Elements.{All-map}
use Rattle.std.proofs.Math.Bool.{and-true, and-false}
use Rattle.c_syntax_written.specs.declared.written.StorageWord.{StorageWord}
use Rattle.c_syntax_written.specs.WrittenDecl.{InitTree}
use Rattle.c_syntax_written.specs.declared.int_type.IntType.TheVariants as ints
use Rattle.c_syntax.specs.Types.{CTypeTree, Int, Pointer, Array, ObjectTree}
use Rattle.c_layout.specs.RowTypes.{IsScalar}
use Rattle.c_typing.specs.World.{World, Form, Object, Missing, Linked}
use Rattle.c_typing.specs.Names.{is_reserved, linked_as, with_initial}
use Rattle.c_typing.specs.Formed.{IsFormedForm}
use Rattle.c_typing.specs.SameTypes.{is_same_truth}
use Rattle.c_typing.specs.Declarators.{DeclaredName, ParameterTree, Step}
use Rattle.c_typing.specs.Operands.{is_unsized}
use Rattle.c_typing.specs.Context.{Context, has_name}
use Rattle.c_typing.specs.Inits.{Initialised, static_bytes}
use Rattle.c_typing.specs.Decls.{Declares, AnObject, NoObject, ObjectNow, Made, new_function, parameters_of, parameter_object, object_of, file_object_of, with_static, size_or_zero, measured_type, is_same_object, is_object_so, is_object_again, is_read_only, has_initial, composite, composite_type, type_before, defined_if, missing_if}
use Rattle.c_typing.proofs.Changes.{Constants}
use Rattle.c_typing.proofs.Good.{Good}
use Rattle.c_typing.proofs.FormsGo.{AreFormedSteps}
use Rattle.c_typing.proofs.DeclsGo.{WhatIn, IsMeasured}
use Rattle.c_typing.proofs.Reaches.{Reaches}
use Rattle.c_typing_laws.specs.NameSteps.{with_sum, IsFileSize, told, not_told, MakesName, type_name, reserved, first_function, function_again, local, local_open, first_object, first_missing, object_again, missing_again}
use Rattle.c_typing_laws.specs.DeclSteps.{MakesSize, as_it_was, by_count, MakesInit, no_object, bare, given}
use Rattle.c_typing_laws.proofs.Calm.{IsLiteral, calm}
use Rattle.c_typing_laws.proofs.NamesMade.{no_size}
use Rattle.c_typing_laws.proofs.StepSteady.{init_calm}
use Rattle.c_typing_laws.proofs.Scalars.{IsScalarForm, AreScalarSteps}
use Rattle.c_typing_laws.proofs.Keeps.{IsKept}
use Rattle.c_typing_laws.proofs.Params.{function_form, parameters_scalar}
use Rattle.c_typing_laws.proofs.Entries.{same_bytes, own_bytes, found_more, found_last, found_mapped, name_if, get_either, get_last_or, sized_or}

-- the object of this number has a name that the file defines, and is not defined yet
pub record Waits (objects : List (List ℕ)) (linked : List Linked) (k : ℕ) : Type 0 where
  pub entry : Linked
  pub there : find (λ l. bytes_eq l.name entry.name) linked ≡ Some entry
  pub is : entry.meaning ≡ Object k
  pub waits : entry.defined ≡ false
  pub free : is_reserved entry.name ≡ false
  pub named : has_name objects entry.name ≡ true

abbrev pub ArraysWait : List (List ℕ) → World → Type 0
ArraysWait objects w = (k : ℕ) (x : ObjectTree) → slice_get w.objects k ≡ Some x → is_unsized x.ty ≡ true → Waits objects w.linked k

-- or it has its size by the initialiser that follows
abbrev IsNow : Declares → ℕ → Type 0
IsNow NoObject k = ⊥
IsNow (AnObject now) k = (now.number ≡ k) × (now.measured ≡ true)

abbrev WaitOrNow : List (List ℕ) → World → Declares → Type 0
WaitOrNow objects w what = (k : ℕ) (x : ObjectTree) → slice_get w.objects k ≡ Some x → is_unsized x.ty ≡ true → Waits objects w.linked k ⊎ IsNow what k

-- ---- types

scalar_sized : (ty : CTypeTree) → IsScalar ty → is_unsized ty ≡ true → ⊥
scalar_sized (Int t) s e = false≢true e
scalar_sized (Pointer to c) s e = false≢true e
scalar_sized ty s e = absurd s

no_elements : (of : CTypeTree) (c : Bool) (n : ℕ) → is_unsized (Array of c n) ≡ true → n ≡ 0
no_elements of c zero e = refl
no_elements of c (suc n) e = absurd (false≢true e)

literal_sized : (x : ObjectTree) → IsLiteral x → is_unsized x.ty ≡ true → ⊥
literal_sized x l e = let z = no_elements (Int ints.Char) false (length l.bytes + 1) (subst (λ y. is_unsized y.ty ≡ true) l.is e) in absurd (omega (arith, z))

some_elements : (n : ℕ) → (n == 0) ≡ false → n ≡ 0 → ⊥
some_elements zero e h = false≢true (sym e)
some_elements (suc n) e h = absurd (omega (arith, h))

-- an array without size by all its declarations had none before
was_unsized : (before ty : CTypeTree) → is_unsized (composite before ty) ≡ true → is_unsized before ≡ true
was_unsized before ty e = by (is_unsized ty) refl e
  where
    by : (b : Bool) → is_unsized ty ≡ b → is_unsized (if b then before else ty) ≡ true → is_unsized before ≡ true
    by true q h = h
    by false q h = absurd (false≢true (sym q ∙ h))

-- ---- entries

waits_more : {objects : List (List ℕ)} {k : ℕ} (xs ys : List Linked) → Waits objects xs k → Waits objects (xs ++ ys) k
waits_more xs ys w = record {
  entry = w.entry;
  there = found_more (λ l. bytes_eq l.name w.entry.name) xs ys w.entry w.there;
  is = w.is;
  waits = w.waits;
  free = w.free;
  named = w.named;
}

-- entries that change, where this one stays
waits_mapped :
    {objects : List (List ℕ)} {k : ℕ} (change : Linked → Linked) (xs : List Linked) → ((l : Linked) → (change l).name ≡ l.name) → (w : Waits objects xs k) → change w.entry ≡ w.entry → Waits objects (map change xs) k
waits_mapped change xs same w stays = record {
  entry = w.entry;
  there = found_mapped change same w.entry.name xs ∙ ap (option_map change) w.there ∙ ap Some stays;
  is = w.is;
  waits = w.waits;
  free = w.free;
  named = w.named;
}

-- an object that is declared by another name than this
other_name : {objects : List (List ℕ)} {k : ℕ} (xs : List Linked) (name : List ℕ) (l : Linked) → (w : Waits objects xs k) → find (λ j. bytes_eq j.name name) xs ≡ Some l → (l.meaning ≡ Object k → ⊥) → bytes_eq w.entry.name name ≡ false
other_name xs name l w e apart = by (bytes_eq w.entry.name name) refl
  where
    by : (b : Bool) → bytes_eq w.entry.name name ≡ b → b ≡ false
    by true q =
        let found = subst (λ n. find (λ j. bytes_eq j.name n) xs ≡ Some w.entry) (same_bytes w.entry.name name q) w.there in
        absurd (apart (ap (λ j. j.meaning) (same_Some l w.entry (sym e ∙ found)) ∙ w.is))
    by false q = refl

if_false : (b : Bool) (x y : Linked) → b ≡ false → (if b then x else y) ≡ y
if_false b x y e = ap (λ c. if c then x else y) e

waits_defined :
    {objects : List (List ℕ)} {k : ℕ} (xs : List Linked) (now : Bool) (name : List ℕ) → (w : Waits objects xs k) → now && bytes_eq w.entry.name name ≡ false → Waits objects (map (defined_if now name) xs) k
waits_defined xs now name w e =
    waits_mapped (defined_if now name) xs (λ l. name_if (now && bytes_eq l.name name) _ l refl) w (if_false (now && bytes_eq w.entry.name name) _ w.entry e)

waits_missing :
    {objects : List (List ℕ)} {k : ℕ} (xs : List Linked) (name : List ℕ) (ty : CTypeTree) (c : Bool) → (w : Waits objects xs k) → bytes_eq w.entry.name name ≡ false → Waits objects (map (missing_if name ty c) xs) k
waits_missing xs name ty c w e =
    waits_mapped (missing_if name ty c) xs (λ l. name_if (bytes_eq l.name name) _ l refl) w (if_false (bytes_eq w.entry.name name) _ w.entry e)

waits_both :
    {objects : List (List ℕ)} {k : ℕ} (xs : List Linked) (now : Bool) (name : List ℕ) (ty : CTypeTree) (c : Bool) → (w : Waits objects xs k) → bytes_eq w.entry.name name ≡ false
    → Waits objects (map (defined_if now name) (map (missing_if name ty c) xs)) k
unfolding waits_missing waits_mapped
waits_both xs now name ty c w e =
    waits_defined (map (missing_if name ty c) xs) now name (waits_missing xs name ty c w e) (ap (λ b. now && b) e ∙ and-false now)

-- ---- worlds

pub wait_same : {objects : List (List ℕ)} (w v : World) → v.objects ≡ w.objects → v.linked ≡ w.linked → ArraysWait objects w → ArraysWait objects v
wait_same {objects = objects} w v o l all k x e h =
    subst (λ linked. Waits objects linked k) (sym l) (all k x (ap (λ xs. slice_get xs k) (sym o) ∙ e) h)

-- objects that have their sizes, and other names
pub wait_more :
    {objects : List (List ℕ)} (w v : World) (P : ObjectTree → Type 0) (xs : List ObjectTree) (ys : List Linked) → v.objects ≡ w.objects ++ xs → v.linked ≡ w.linked ++ ys → All P xs
    → ((x : ObjectTree) → P x → is_unsized x.ty ≡ true → ⊥) → ArraysWait objects w → ArraysWait objects v
wait_more {objects = objects} w v P xs ys o l sized never all k x e h =
    subst (λ linked. Waits objects linked k) (sym l)
    (⊎_elim (λ there. waits_more w.linked ys (all k x there h)) (λ p. absurd (never x p h)) (get_either P w.objects xs k x sized (ap (λ zs. slice_get zs k) (sym o) ∙ e)))

pub wait_calm : {objects : List (List ℕ)} (w v : World) → Reaches Constants w v → ArraysWait objects w → ArraysWait objects v
wait_calm {objects = objects} w v r all k x e h =
    let c = calm w v r in
    subst (λ linked. Waits objects linked k) (sym c.linked)
    (⊎_elim (λ there. all k x there h) (λ p. absurd (literal_sized x p h)) (get_either IsLiteral w.objects c.extra k x c.literals (ap (λ zs. slice_get zs k) (sym c.objects) ∙ e)))

-- ---- names

param_sized : (x : ObjectTree) → IsScalar x.ty → is_unsized x.ty ≡ true → ⊥
param_sized x s e = scalar_sized x.ty s e

pub params_sized : (w : World) (params : List ParameterTree) → All (λ p. IsScalar p.ty) params → All (λ x. IsScalar x.ty) (map (parameter_object w) params)
params_sized w params all = All-map (λ x. IsScalar x.ty) (parameter_object w) params all

pub new_wait :
    {objects : List (List ℕ)} (w : World) (named : DeclaredName) (later : Bool) (params : List ParameterTree) (types : List CTypeTree) (result : CTypeTree) → All (λ p. IsScalar p.ty) params
    → ArraysWait objects w → ArraysWait objects (new_function w named later params types result)
new_wait w named true params types result s all = λ k x e h. waits_more w.linked _ (all k x e h)
new_wait w named false params types result s all =
    wait_more w (new_function w named false params types result) (λ x. IsScalar x.ty) (map (parameter_object w) params) _ refl refl (params_sized w params s) param_sized all

pub counted_wait : {objects : List (List ℕ)} (w v : World) (params : List ParameterTree) → v.objects ≡ w.objects ++ map (parameter_object w) params → v.linked ≡ w.linked → All (λ p. IsScalar p.ty) params
    → ArraysWait objects w → ArraysWait objects v
counted_wait {objects = objects} w v params o l s all k x e h =
    subst (λ linked. Waits objects linked k) (sym l)
    (⊎_elim (λ there. all k x there h) (λ p. absurd (scalar_sized x.ty p h)) (get_either (λ y. IsScalar y.ty) w.objects (map (parameter_object w) params) k x (params_sized w params s) (ap (λ zs. slice_get zs k) (sym o) ∙ e)))

same_now : {objects : List (List ℕ)} (what : Declares) (w v : World) → v.objects ≡ w.objects → v.linked ≡ w.linked → ArraysWait objects w → WaitOrNow objects v what
same_now what w v o l all k x e h = inl (wait_same w v o l all k x e h)

-- an object of the file, by its first declaration
first_waits :
    (around : Context) (w : World) (storage : List StorageWord) (named : DeclaredName) (ty : CTypeTree) (has_init m : Bool) (size : ℕ) → is_reserved named.name ≡ false → linked_as w named.name ≡ None
    → has_name around.objects named.name ≡ true → IsFileSize w ty (file_object_of around storage named.name has_init) size m → is_unsized ty ≡ true
    → Waits around.objects (w.linked ++ record { name = named.name; pos = named.pos; meaning = Object (length w.objects); defined = (file_object_of around storage named.name has_init).defines } ∷ []) (length w.objects)
    ⊎ (m ≡ true)
first_waits around w storage named ty has_init m size r n h (told u c) e = absurd (false≢true (sym u ∙ e))
first_waits around w storage named ty true m size r n h (not_told u d) e = inr refl
first_waits around w storage named ty false m size r n h (not_told u d) e = inl (record {
  entry = record { name = named.name; pos = named.pos; meaning = Object (length w.objects); defined = (file_object_of around storage named.name false).defines };
  there = found_last (λ l. bytes_eq l.name named.name) w.linked _ n (own_bytes named.name);
  is = refl;
  waits = sym (and-true (file_object_of around storage named.name false).defines) ∙ d;
  free = r;
  named = h;
})

-- the object was there, with a type that is not told where it is not told now
was_open :
    (w : World) (ty : CTypeTree) (c has_init : Bool) (l : Linked) (n : ℕ) → l.meaning ≡ Object n → is_object_again w ty c has_init (Object n) ≡ true → is_unsized (composite_type w ty (Some l)) ≡ true
    → (x : ObjectTree) × (slice_get w.objects n ≡ Some x) × (is_unsized x.ty ≡ true)
was_open w ty c has_init l n m a e =
    by (slice_get w.objects n) refl (and_parts (is_object_so w ty c (Object n)) (not (has_init && has_initial w (Object n))) a).0 (subst (λ t. is_unsized (composite (type_before w t ty) ty) ≡ true) m e)
  where
    by :
        (o : Option ObjectTree) → slice_get w.objects n ≡ o
        → unwrap_or (option_map (λ object. is_same_object object.ty ty && is_same_truth object.read_only (is_read_only ty c)) o) false ≡ true
        → is_unsized (composite (unwrap_or (option_map (λ object. object.ty) (slice_get w.objects n)) ty) ty) ≡ true
        → (x : ObjectTree) × (slice_get w.objects n ≡ Some x) × (is_unsized x.ty ≡ true)
    by None q so h = absurd (false≢true so)
    by (Some x) q so h = (x, q, was_unsized x.ty ty (subst (λ o. is_unsized (composite (unwrap_or (option_map (λ object. object.ty) o) ty) ty) ≡ true) q h))

-- and one that is declared again
again_waits :
    (around : Context) (w : World) (storage : List StorageWord) (named : DeclaredName) (ty : CTypeTree) (has_init m : Bool) (size n : ℕ) → Waits around.objects w.linked n
    → IsFileSize w ty (file_object_of around storage named.name has_init) size m → is_unsized ty ≡ true
    → Waits around.objects (map (defined_if (file_object_of around storage named.name has_init).defines named.name) w.linked) n ⊎ (m ≡ true)
again_waits around w storage named ty has_init m size n was (told u c) e = absurd (false≢true (sym u ∙ e))
again_waits around w storage named ty true m size n was (not_told u d) e = inr refl
again_waits around w storage named ty false m size n was (not_told u d) e =
    inl (waits_defined w.linked (file_object_of around storage named.name false).defines named.name was
    (ap (λ b. b && bytes_eq was.entry.name named.name) (sym (and-true (file_object_of around storage named.name false).defines) ∙ d)))

name_wait :
    {around : Context} {w v : World} {storage : List StorageWord} {steps : List Step} {base : Form} {has_init : Bool} {named : DeclaredName} {what : Declares}
    → AreFormedSteps w.structs steps → IsFormedForm w.structs base → AreScalarSteps steps → IsScalarForm base → MakesName around w storage steps base has_init named what v
    → ArraysWait around.objects w → WaitOrNow around.objects v what
name_wait {w = w} {v = v} s f t b (type_name form d e) all = same_now NoObject w v refl refl all
name_wait {w = w} {v = v} s f t b (reserved y) all = same_now NoObject w v refl refl all
name_wait {around = around} {w = w} {steps = steps} {base = base} {named = named} s f t b (first_function types result r e n) all =
    let form = function_form w named steps base types result s f t b e in
    let now = new_wait w named (has_name around.functions named.name) (parameters_of steps types named.pos) types result (parameters_scalar steps named types t form.params) all in
    λ k x g h. inl (now k x g h)
name_wait {w = w} {v = v} s f t b (function_again types result l n so) all = same_now NoObject w v refl refl all
name_wait {w = w} {named = named} s f t b (local ty c st size i e h) all =
    λ k x g u. ⊎_elim (λ there. inl (all k x there u)) (λ p. absurd (no_size w ty size h (ap (λ y. is_unsized y.ty) (sym p.1) ∙ u))) (get_last_or w.objects (object_of named ty c size st) k x g)
name_wait {w = w} {named = named} s f t b (local_open of c st i e h) all =
    λ k x g u. ⊎_elim (λ there. inl (all k x there u)) (λ p. inr (sym p.0, refl)) (get_last_or w.objects (object_of named (Array of c 0) false 0 st) k x g)
name_wait {around = around} {w = w} {v = v} {storage = storage} {has_init = has_init} {named = named} s f t b (first_object form ty c m size total r e is n h z) all =
    λ k x g u. ⊎_elim (λ there. inl (waits_more w.linked _ (all k x there u)))
    (λ p. ⊎_elim (λ a. inl (subst (λ j. Waits around.objects v.linked j) (sym p.0) a)) (λ q. inr (sym p.0, q))
    (first_waits around w storage named ty has_init m size r n h z (ap (λ y. is_unsized y.ty) (sym p.1) ∙ u))) (get_last_or w.objects (object_of named ty c size true) k x g)
name_wait {w = w} s f t b (first_missing ty c total r n h) all = λ k x g u. inl (waits_more w.linked _ (all k x g u))
name_wait {around = around} {w = w} {v = v} {storage = storage} {has_init = has_init} {named = named} s f t b (object_again form ty c m l n size total e is k q a z) all =
    λ j x g u. ⊎_elim
    (λ p. let was = was_open w ty c has_init l n q a (ap is_unsized (sym p.1) ∙ u) in
    ⊎_elim (λ i. inl (subst (λ y. Waits around.objects v.linked y) (sym p.0) i)) (λ i. inr (sym p.0, i))
    (again_waits around w storage named (composite_type w ty (Some l)) has_init m size n (all n was.0 was.1 was.2) z (ap is_unsized (sym p.1) ∙ u)))
    (λ p. let was = all j x p.0 u in
    inl (waits_defined w.linked (file_object_of around storage named.name has_init).defines named.name was
    (ap (λ i. (file_object_of around storage named.name has_init).defines && i) (other_name w.linked named.name l was k (λ i. p.1 (same_number j n (sym i ∙ q))))
    ∙ and-false (file_object_of around storage named.name has_init).defines)))
    (sized_or (with_sum w total) n (composite_type w ty (Some l)) size j x g)
  where
    same_number : (j n : ℕ) → Object j ≡ Object n → j ≡ n
    same_number j n e = cc
name_wait {around = around} {w = w} {named = named} s f t b (missing_again ty before c l size total d k q) all =
    λ j x g u.
    let was = all j x g u in
    inl (waits_both w.linked d named.name ty c was (other_name w.linked named.name l was k (λ i. no_object j before c (sym i ∙ q))))
  where
    no_object : (j : ℕ) (ty : CTypeTree) (c : Bool) → Object j ≡ Missing ty c → ⊥
    no_object j ty c e = cc

-- ---- initialisers

abbrev is_measured : Declares → Bool
is_measured NoObject = false
is_measured (AnObject now) = now.measured

-- an array is measured by an initialiser that is there
file_measured : (w : World) (ty : CTypeTree) (around : Context) (storage : List StorageWord) (name : List ℕ) (has_init m : Bool) (size : ℕ) → IsFileSize w ty (file_object_of around storage name has_init) size m → m ≡ true → has_init ≡ true
file_measured w ty around storage name has_init m size (told u c) e = absurd (false≢true e)
file_measured w ty around storage name has_init m size (not_told u d) e = e

name_measured :
    {around : Context} {w v : World} {storage : List StorageWord} {steps : List Step} {base : Form} {has_init : Bool} {named : DeclaredName} {what : Declares}
    → MakesName around w storage steps base has_init named what v → is_measured what ≡ true → has_init ≡ true
name_measured (type_name form d e) m = absurd (false≢true m)
name_measured (reserved y) m = absurd (false≢true m)
name_measured (first_function types result r e n) m = absurd (false≢true m)
name_measured (function_again types result l n so) m = absurd (false≢true m)
name_measured (local ty c st size i e h) m = absurd (false≢true m)
name_measured (local_open of c st i e h) m = h
name_measured {around = around} {w = w} {storage = storage} {has_init = has_init} {named = named} (first_object form ty c i size total r e is n h z) m =
    file_measured w ty around storage named.name has_init i size z m
name_measured (first_missing ty c total r n h) m = absurd (false≢true m)
name_measured {around = around} {w = w} {storage = storage} {has_init = has_init} {named = named} (object_again form ty c i l n size total e is k q a z) m =
    file_measured w (composite_type w ty (Some l)) around storage named.name has_init i size z m
name_measured (missing_again ty before c l size total d k q) m = absurd (false≢true m)

count_sized : (object : ObjectNow) (w : World) (count : ℕ) → IsMeasured object w → (count == 0) ≡ false → is_unsized (measured_type object.ty count) ≡ true → ⊥
count_sized object w count m c e = some_elements count c (no_elements m.of m.is_const count (subst (λ t. is_unsized (measured_type t count) ≡ true) m.ty e))

static_wait : {objects : List (List ℕ)} (w : World) (object : ObjectNow) (ty : CTypeTree) (by : Initialised) → ArraysWait objects w → ArraysWait objects (with_static w object ty by)
static_wait {objects = objects} w object ty by all = at object.is_static
  where
    at : (b : Bool) → ArraysWait objects (if b then with_initial w object.number (static_bytes w.objects (size_or_zero w ty) by.items) else w)
    at true = all
    at false = all

size_wait :
    {objects : List (List ℕ)} {w u v : World} {object : ObjectNow} {by : Initialised} {ty : CTypeTree} → Reaches Constants w u → (object.measured ≡ true → IsMeasured object w) → MakesSize u object by ty v
    → WaitOrNow objects w (AnObject object) → ArraysWait objects v
size_wait {objects = objects} {w = w} {u = u} r is (as_it_was m) now k x e h =
    let c = calm w u r in
    ⊎_elim (λ there. subst (λ linked. Waits objects linked k) (sym c.linked) (⊎_elim (λ a. a) (λ b. absurd (false≢true (sym m ∙ b.1))) (now k x there h)))
    (λ p. absurd (literal_sized x p h)) (get_either IsLiteral w.objects c.extra k x c.literals (ap (λ zs. slice_get zs k) (sym c.objects) ∙ e))
size_wait {objects = objects} {w = w} {u = u} {object = object} {by = by} r is (by_count m i t) now k x e h =
    let c = calm w u r in
    let ty = measured_type object.ty by.count in
    ⊎_elim (λ p. absurd (count_sized object w by.count (is m) i (ap is_unsized (sym p.1) ∙ h)))
    (λ q.
    ⊎_elim (λ there. subst (λ linked. Waits objects linked k) (sym c.linked) (⊎_elim (λ a. a) (λ b. absurd (q.1 (sym b.0))) (now k x there h)))
    (λ p. absurd (literal_sized x p h)) (get_either IsLiteral w.objects c.extra k x c.literals (ap (λ zs. slice_get zs k) (sym c.objects) ∙ q.0)))
    (sized_or u object.number ty (size_or_zero u ty) k x e)

init_wait :
    {objects : List (List ℕ)} {w v : World} {what : Declares} {init : Option InitTree} {made : Made} → (is_measured what ≡ true → is_some init ≡ true) → Good w → WhatIn what w → MakesInit w what init made v
    → WaitOrNow objects w what → ArraysWait objects v
init_wait m good is no_object now k x e h = ⊎_elim (λ a. a) (λ b. absurd b) (now k x e h)
init_wait m good is bare now k x e h = ⊎_elim (λ a. a) (λ b. absurd (false≢true (m b.1))) (now k x e h)
init_wait m good is (given {v = v} {object = object} {init = init} {by = by} {ty = ty} t s) now k x e h =
    static_wait v object ty by (size_wait (init_calm object init by good t) is s now) k x e h

pub wait_kept : (functions objects : List (List ℕ)) → IsKept functions objects (ArraysWait objects)
wait_kept functions objects = record {
  calm = λ w v good r all. wait_calm w v r all;
  declared = λ around w v x storage steps base has_init named what init made f o h good s b t z n good2 is m r q all.
      let inside : ArraysWait around.objects w = subst (λ names. ArraysWait names w) (sym o) all in
      subst (λ names. ArraysWait names x) o (init_wait (λ e. sym h ∙ name_measured n e) good2 is m (name_wait s b t z n inside));
  moved = λ w v same all. wait_same w v same.objects same.linked all;
}
