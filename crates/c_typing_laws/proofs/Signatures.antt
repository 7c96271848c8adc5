-- The parameters of a function have the types that it is called with.
use Rattle.std.proofs.Common.{◌≡◌, ℕ, ◌+◌, true, false, List, [], ◌∷◌, ◌++◌, length, refl, ap, sym, subst, ◌∙◌, inl, inr, ⊎_elim, arith}
use Rattle.std.specs.Prelude.{◌⊎◌, Bool, ◌&&◌, if◌then◌else◌, Option, None, Some, IsSomeAnd, option_map, unwrap_or, All, find, map, slice_get, bytes_eq}
use Rattle.std.proofs.lemmas.Option.{same_Some, slice_get_within}
use Rattle.std.proofs.lemmas.List.{append_assoc, length_push}
use Rattle.std.proofs.lemmas.List.Elements.{All-weaker, All-head, All-tail}
use Rattle.c_syntax_written.specs.declared.written.StorageWord.{StorageWord}
use Rattle.c_syntax_written.specs.WrittenDecl.{InitTree}
use Rattle.c_syntax.specs.Types.{CTypeTree, Void, Int, Pointer, Array, Struct, Function, ObjectTree}
use Rattle.c_syntax.specs.Program.{TFunctionTree}
use Rattle.c_layout.specs.RowTypes.{IsScalar}
use Rattle.c_typing.specs.World.{World, Form, Plain, Unsized, Callable, Meaning, Object, Missing, Linked, Outcome, Typed, Refused}
use Rattle.c_typing.specs.World as world
use Rattle.c_typing.specs.Names.{with_initial}
use Rattle.c_typing.specs.Nodes.{params_of}
use Rattle.c_typing.specs.Operands.{is_unsized}
use Rattle.c_typing.specs.Formed.{IsFormedForm}
use Rattle.c_typing.specs.Declarators.{DeclaredName, ParameterTree, Step, PointerTo, ArrayOf, OpenArray, FunctionOf, laid, after_step, result_form, types_of_params}
use Rattle.c_typing.specs.Context.{Context, has_name}
use Rattle.c_typing.specs.Inits.{Initialised, static_bytes}
use Rattle.c_typing.specs.Decls.{Declares, ObjectNow, Made, new_function, parameters_of, parameter_object, numbers_from, with_static, size_or_zero, file_object_of, defined_if, missing_if}
use Rattle.c_typing.proofs.Changes.{Constants}
use Rattle.c_typing.proofs.FormsGo.{AreFormedSteps}
use Rattle.c_typing.proofs.Good.{Good}
use Rattle.c_typing.proofs.MadeTables.{get_append, get_last}
use Rattle.c_typing.proofs.Reaches.{Reaches, quiet}
use Rattle.c_typing_laws.specs.NameSteps.{MakesName, type_name, reserved, first_function, function_again, local, local_open, first_object, first_missing, object_again, missing_again}
use Rattle.c_typing_laws.specs.DeclSteps.{MakesSize, as_it_was, by_count, MakesInit, no_object, bare, given}
use Rattle.c_typing_laws.proofs.Calm.{calm}
use Rattle.c_typing_laws.proofs.StepSteady.{init_calm}
use Rattle.c_typing_laws.proofs.Scalars.{IsScalarForm, AreScalarSteps}
use Rattle.c_typing_laws.proofs.Keeps.{IsKept}
use Rattle.c_typing_laws.proofs.Lasts.{last_complete}
use Rattle.c_typing_laws.proofs.Frames.{get_some}
use Rattle.c_typing_laws.proofs.Entries.{same_bytes, own_bytes, found_more, found_last, found_mapped, name_if, get_last_or}
use Rattle.c_typing_laws.proofs.Params.{HasScalar, numbers_scalar, function_form, parameters_scalar}
use Rattle.c_typing_laws.proofs.Onward.{Onward, onward, ArePaired, paired}
use Rattle.c_typing_laws.proofs.Entities.{init_linked}

-- ---- types of objects

abbrev pub type_in : List ObjectTree → ℕ → CTypeTree
type_in objects o = unwrap_or (option_map (λ x. x.ty) (slice_get objects o)) Void

scalar_told : (ty : CTypeTree) → IsScalar ty → is_unsized ty ≡ false
scalar_told (Int t) s = refl
scalar_told (Pointer to c) s = refl
scalar_told ty s = absurd s

-- an object that is a scalar keeps its type
scalar_kept : (w v : World) → Onward w v → (o : ℕ) → HasScalar w.objects o → (type_in v.objects o ≡ type_in w.objects o) × HasScalar v.objects o
scalar_kept w v on o h = by (slice_get w.objects o) refl h
  where
    by : (x : Option ObjectTree) → slice_get w.objects o ≡ x → IsSomeAnd x (λ y. IsScalar y.ty) → (type_in v.objects o ≡ type_in w.objects o) × HasScalar v.objects o
    by None e s = absurd s
    by (Some x) e s =
        let y = on.objects o x e in
        let same = last_complete y.2.ty (scalar_told x.ty s) in (
          ap (λ z. unwrap_or (option_map (λ k. k.ty) z) Void) y.1 ∙ same ∙ ap (λ z. unwrap_or (option_map (λ k. k.ty) z) Void) (sym e),
          subst (λ z. IsSomeAnd z (λ k. IsScalar k.ty)) (sym y.1) (subst IsScalar (sym same) s),
        )

map_same : {A B : Type 0} (f g : A → B) (xs : List A) → All (λ x. f x ≡ g x) xs → map f xs ≡ map g xs
map_same f g [] all = refl
map_same f g (x ∷ xs) all =
    ap (λ y. y ∷ map f xs) (All-head (λ y. f y ≡ g y) x xs all) ∙ ap (λ l. g x ∷ l) (map_same f g xs (All-tail (λ y. f y ≡ g y) x xs all))

-- ---- functions

-- the objects of its parameters are scalars of these types
pub record IsMatched (w : World) (n : ℕ) : Type 0 where
  pub function : TFunctionTree
  pub there : slice_get w.functions n ≡ Some function
  pub types : params_of w n ≡ map (type_in w.objects) function.params
  pub scalars : All (HasScalar w.objects) function.params

-- the types of parameters stay
signature_kept : (w v : World) → Onward w v → ArePaired w → (n : ℕ) (f : TFunctionTree) → slice_get w.functions n ≡ Some f → params_of v n ≡ params_of w n
signature_kept w v on pair n f e =
    let at = slice_get_within w.functions n f e in
    let types = get_some w.signatures n (omega (arith, at, pair)) in
    let after = on.signatures n types.0 types.1 in
    ap (λ o. unwrap_or o []) after.1 ∙ after.2 ∙ ap (λ o. unwrap_or o []) (sym types.1)

-- a function with the same parameters
pub matched_onward : (w v : World) → Onward w v → ArePaired w → (n : ℕ) → (m : IsMatched w n) → (g : TFunctionTree) → slice_get v.functions n ≡ Some g → g.params ≡ m.function.params → IsMatched v n
matched_onward w v on pair n m g e same =
    let kept = All-weaker (HasScalar w.objects) (λ o. (type_in v.objects o ≡ type_in w.objects o) × HasScalar v.objects o) (λ o h. scalar_kept w v on o h) m.function.params m.scalars in record {
      function = g;
      there = e;
      types = signature_kept w v on pair n m.function m.there ∙ m.types
          ∙ sym (map_same (type_in v.objects) (type_in w.objects) m.function.params
          (All-weaker (λ o. (type_in v.objects o ≡ type_in w.objects o) × HasScalar v.objects o) (λ o. type_in v.objects o ≡ type_in w.objects o) (λ o k. k.0) m.function.params kept))
          ∙ ap (map (type_in v.objects)) (sym same);
      scalars = subst (All (HasScalar v.objects)) (sym same)
          (All-weaker (λ o. (type_in v.objects o ≡ type_in w.objects o) × HasScalar v.objects o) (HasScalar v.objects) (λ o k. k.1) m.function.params kept);
    }

-- the function has a name that the file defines, and is not defined yet
pub record Waits (names : List (List ℕ)) (linked : List Linked) (n : ℕ) : Type 0 where
  pub entry : Linked
  pub there : find (λ l. bytes_eq l.name entry.name) linked ≡ Some entry
  pub is : entry.meaning ≡ world.Function n
  pub named : has_name names entry.name ≡ true

abbrev pub AreMatched : List (List ℕ) → World → Type 0
AreMatched names w = (n : ℕ) (f : TFunctionTree) → slice_get w.functions n ≡ Some f → IsMatched w n ⊎ Waits names w.linked n

waits_more : {names : List (List ℕ)} {n : ℕ} (xs ys : List Linked) → Waits names xs n → Waits names (xs ++ ys) n
waits_more xs ys w = record { entry = w.entry; there = found_more (λ l. bytes_eq l.name w.entry.name) xs ys w.entry w.there; is = w.is; named = w.named }

-- entries that keep their names, where this one keeps its meaning
waits_mapped :
    {names : List (List ℕ)} {n : ℕ} (change : Linked → Linked) (xs : List Linked) → ((l : Linked) → (change l).name ≡ l.name) → (w : Waits names xs n) → (change w.entry).meaning ≡ w.entry.meaning
    → Waits names (map change xs) n
waits_mapped {names} change xs same w stays =
    let e = same w.entry in record {
      entry = change w.entry;
      there = ap (λ name. find (λ l. bytes_eq l.name name) (map change xs)) e ∙ found_mapped change same w.entry.name xs ∙ ap (option_map change) w.there;
      is = stays ∙ w.is;
      named = ap (has_name names) e ∙ w.named;
    }

waits_defined : {names : List (List ℕ)} {n : ℕ} (xs : List Linked) (now : Bool) (name : List ℕ) → Waits names xs n → Waits names (map (defined_if now name) xs) n
waits_defined xs now name w = waits_mapped (defined_if now name) xs (λ l. name_if (now && bytes_eq l.name name) _ l refl) w (by (now && bytes_eq w.entry.name name) w.entry)
  where
    by : (b : Bool) (l : Linked) → (if b then record l { defined = true } else l).meaning ≡ l.meaning
    by true l = refl
    by false l = refl

waits_missing :
    {names : List (List ℕ)} {n : ℕ} (xs : List Linked) (name : List ℕ) (ty before : CTypeTree) (c d : Bool) (l : Linked) → find (λ j. bytes_eq j.name name) xs ≡ Some l → l.meaning ≡ Missing before d → Waits names xs n
    → Waits names (map (missing_if name ty c) xs) n
waits_missing {n = n} xs name ty before c d l e m w =
    waits_mapped (missing_if name ty c) xs (λ j. name_if (bytes_eq j.name name) _ j refl) w (by (bytes_eq w.entry.name name) refl)
  where
    no_function : Missing before d ≡ world.Function n → ⊥
    no_function h = cc

    by : (b : Bool) → bytes_eq w.entry.name name ≡ b → (if b then record w.entry { meaning = Missing ty c } else w.entry).meaning ≡ w.entry.meaning
    by true q =
        let found = subst (λ k. find (λ j. bytes_eq j.name k) xs ≡ Some w.entry) (same_bytes w.entry.name name q) w.there in
        absurd (no_function (sym m ∙ ap (λ j. j.meaning) (same_Some l w.entry (sym e ∙ found)) ∙ w.is))
    by false q = refl

-- ---- the types of a declarator's parameters

result_types : (w v : World) (at : _) (types params : List CTypeTree) (ty result : CTypeTree) → result_form w at types ty ≡ Typed (Callable params result) v → params ≡ types
result_types w v at types params Void result e = cc
result_types w v at types params (Int t) result e = cc
result_types w v at types params (Pointer to c) result e = cc
result_types w v at types params (Array of c n) result e = cc
result_types w v at types params (Struct n) result e = cc
result_types w v at types params (Function n) result e = cc

form_types : (w v : World) (at : _) (types params : List CTypeTree) (form : Form) (result : CTypeTree) → Rattle.c_typing.specs.Declarators.function_form w at types form ≡ Typed (Callable params result) v → params ≡ types
form_types w v at types params (Plain ty c) result e = result_types w v at types params ty result e
form_types w v at types params (Unsized of c) result e = cc
form_types w v at types params (Callable p r) result e = cc

pub laid_types : (w v : World) (at : _) (list : List ParameterTree) (names tags : _) (rest : List Step) (base : Form) (types : List CTypeTree) (result : CTypeTree)
    → laid w at (FunctionOf list names tags ∷ rest) base ≡ Typed (Callable types result) v → types ≡ types_of_params list
unfolding laid
laid_types w v at list names tags rest base types result e = by (laid w at rest base) e
  where
    by : (o : Outcome Form) → after_step w at (FunctionOf list names tags) o ≡ Typed (Callable types result) v → types ≡ types_of_params list
    by (Typed form u) q = form_types w v at (types_of_params list) types form result q
    by (Refused r) q = cc

mapped_types : (at : _) (types : List CTypeTree) → types ≡ types_of_params (map (λ ty. record { name = []; pos = at; ty = ty; is_const = false }) types)
mapped_types at [] = refl
mapped_types at (ty ∷ rest) = ap (λ l. ty ∷ l) (mapped_types at rest)

parameters_types : (w v : World) (named : DeclaredName) (steps : List Step) (base : Form) (types : List CTypeTree) (result : CTypeTree) → laid w named.pos steps base ≡ Typed (Callable types result) v
    → types ≡ types_of_params (parameters_of steps types named.pos)
parameters_types w v named [] base types result e = mapped_types named.pos types
parameters_types w v named (PointerTo c ∷ rest) base types result e = mapped_types named.pos types
parameters_types w v named (ArrayOf at n ∷ rest) base types result e = mapped_types named.pos types
parameters_types w v named (OpenArray ∷ rest) base types result e = mapped_types named.pos types
parameters_types w v named (FunctionOf list names tags ∷ rest) base types result e = laid_types w v named.pos list names tags rest base types result e

type_more : (xs ys : List ObjectTree) (o : ℕ) (x : ObjectTree) → slice_get xs o ≡ Some x → type_in (xs ++ ys) o ≡ x.ty
type_more xs ys o x e = ap (λ z. unwrap_or (option_map (λ k. k.ty) z) Void) (get_append xs ys o x e)

-- objects for parameters have their types
pub numbers_types : (w : World) (list : List ParameterTree) (xs : List ObjectTree) → map (type_in (xs ++ map (parameter_object w) list)) (numbers_from (length xs) (length list)) ≡ types_of_params list
unfolding numbers_from
numbers_types w [] xs = refl
numbers_types w (p ∷ rest) xs =
    let x = parameter_object w p in
    let ys = map (parameter_object w) rest in
    let more = numbers_types w rest (xs ++ x ∷ []) in
    let assoc : (xs ++ x ∷ []) ++ ys ≡ xs ++ x ∷ ys = append_assoc xs (x ∷ []) ys in
    ap (λ l. map (type_in l) (length xs ∷ numbers_from (length xs + 1) (length rest))) (sym assoc)
    ∙ ap (λ ty. ty ∷ map (type_in ((xs ++ x ∷ []) ++ ys)) (numbers_from (length xs + 1) (length rest))) (type_more (xs ++ x ∷ []) ys (length xs) x (get_last xs x))
    ∙ ap (λ l. p.ty ∷ l) (ap (λ n. map (type_in ((xs ++ x ∷ []) ++ ys)) (numbers_from n (length rest))) (sym (length_push xs x)) ∙ more)

-- ---- functions that stay

-- functions of an earlier world, or new ones
matched_by :
    {names : List (List ℕ)} (w v : World) → Onward w v → ArePaired w
    → ((n : ℕ) (f : TFunctionTree) → slice_get v.functions n ≡ Some f → (slice_get w.functions n ≡ Some f) ⊎ (IsMatched v n ⊎ Waits names v.linked n))
    → ((n : ℕ) → Waits names w.linked n → Waits names v.linked n) → AreMatched names w → AreMatched names v
matched_by w v on pair split waits all n f e =
    ⊎_elim (λ was. ⊎_elim (λ m. inl (matched_onward w v on pair n m f e (ap (λ g. g.params) (same_Some f m.function (sym was ∙ m.there))))) (λ i. inr (waits n i)) (all n f was)) (λ now. now) (split n f e)

pub matched_still : {names : List (List ℕ)} (w v : World) → Onward w v → ArePaired w → v.functions ≡ w.functions → ((n : ℕ) → Waits names w.linked n → Waits names v.linked n) → AreMatched names w → AreMatched names v
matched_still w v on pair f waits all = matched_by w v on pair (λ n g e. inl (ap (λ l. slice_get l n) (sym f) ∙ e)) waits all

pub same_waits : {names : List (List ℕ)} (w v : World) → v.linked ≡ w.linked → (n : ℕ) → Waits names w.linked n → Waits names v.linked n
same_waits {names} w v e n i = subst (λ l. Waits names l n) (sym e) i

-- a function that is declared for the first time, and has its parameters now
new_matched :
    (w : World) (named : DeclaredName) (list : List ParameterTree) (types : List CTypeTree) (result : CTypeTree) → ArePaired w → types ≡ types_of_params list → All (λ p. IsScalar p.ty) list
    → IsMatched (new_function w named false list types result) (length w.functions)
new_matched w named list types result pair same scalars = record {
  function = _;
  there = get_last w.functions _;
  types = ap (λ k. unwrap_or (slice_get (w.signatures ++ types ∷ []) k) []) (sym pair) ∙ ap (λ o. unwrap_or o []) (get_last w.signatures types) ∙ same ∙ sym (numbers_types w list w.objects);
  scalars = numbers_scalar w list w.objects scalars;
}

pub new_are :
    {names : List (List ℕ)} (w : World) (named : DeclaredName) (later : Bool) (list : List ParameterTree) (types : List CTypeTree) (result : CTypeTree) → find (λ l. bytes_eq l.name named.name) w.linked ≡ None
    → has_name names named.name ≡ later → types ≡ types_of_params list → All (λ p. IsScalar p.ty) list → Onward w (new_function w named later list types result) → ArePaired w → AreMatched names w
    → AreMatched names (new_function w named later list types result)
new_are {names} w named true list types result none h same scalars on pair all =
    matched_by w (new_function w named true list types result) on pair
    (λ n f e. ⊎_elim (λ was. inl was) (λ p. inr (inr (subst (Waits names _) (sym p.0) (record {
      entry = _;
      there = found_last (λ l. bytes_eq l.name named.name) w.linked _ none (own_bytes named.name);
      is = refl;
      named = h;
    })))) (get_last_or w.functions _ n f e))
    (λ n i. waits_more w.linked _ i) all
new_are {names} w named false list types result none h same scalars on pair all =
    let v = new_function w named false list types result in
    matched_by w v on pair
    (λ n f e. ⊎_elim (λ was. inl was) (λ p. inr (inl (subst (IsMatched v) (sym p.0) (new_matched w named list types result pair same scalars)))) (get_last_or w.functions _ n f e))
    (λ n i. waits_more w.linked _ i) all

pub name_matched :
    {around : Context} {w v : World} {storage : List StorageWord} {steps : List Step} {base : Form} {has_init : Bool} {named : DeclaredName} {what : Declares}
    → AreFormedSteps w.structs steps → IsFormedForm w.structs base → AreScalarSteps steps → IsScalarForm base → MakesName around w storage steps base has_init named what v → Onward w v → ArePaired w
    → AreMatched around.functions w → AreMatched around.functions v
name_matched {w = w} {v = v} s f t b (type_name form d e) on pair all = matched_still w v on pair refl (same_waits w v refl) all
name_matched s f t b (reserved y) on pair all = all
name_matched {around = around} {w = w} {steps = steps} {base = base} {named = named} s f t b (first_function types result r e n) on pair all =
    let form = function_form w named steps base types result s f t b e in
    new_are w named (has_name around.functions named.name) (parameters_of steps types named.pos) types result n refl (parameters_types w w named steps base types result e)
    (parameters_scalar steps named types t form.params) on pair all
name_matched {w = w} {v = v} s f t b (function_again types result l n so) on pair all = matched_still w v on pair refl (same_waits w v refl) all
name_matched {w = w} {v = v} s f t b (local ty c st size i e h) on pair all = matched_still w v on pair refl (same_waits w v refl) all
name_matched {w = w} {v = v} s f t b (local_open of c st i e h) on pair all = matched_still w v on pair refl (same_waits w v refl) all
name_matched {w = w} {v = v} s f t b (first_object form ty c m size total r e is n h z) on pair all = matched_still w v on pair refl (λ k i. waits_more w.linked _ i) all
name_matched {w = w} {v = v} s f t b (first_missing ty c total r n h) on pair all = matched_still w v on pair refl (λ k i. waits_more w.linked _ i) all
name_matched {around = around} {w = w} {v = v} {storage = storage} {has_init = has_init} {named = named} s f t b (object_again form ty c m l n size total e is k q a z) on pair all =
    matched_still w v on pair refl (λ j i. waits_defined w.linked (file_object_of around storage named.name has_init).defines named.name i) all
name_matched {w = w} {v = v} {named = named} s f t b (missing_again ty before c l size total d k q) on pair all =
    matched_still w v on pair refl (λ j i. waits_defined (map (missing_if named.name ty c) w.linked) d named.name (waits_missing w.linked named.name ty before c c l k q i)) all

-- ---- initialisers

static_functions : (w : World) (object : ObjectNow) (ty : CTypeTree) (by : Initialised) → (with_static w object ty by).functions ≡ w.functions
static_functions w object ty by = at object.is_static
  where
    at : (b : Bool) → (if b then with_initial w object.number (static_bytes w.objects (size_or_zero w ty) by.items) else w).functions ≡ w.functions
    at true = refl
    at false = refl

size_functions : {w v : World} {object : ObjectNow} {by : Initialised} {ty : CTypeTree} → MakesSize w object by ty v → v.functions ≡ w.functions
size_functions (as_it_was m) = refl
size_functions (by_count m c t) = refl

pub init_functions : {w v : World} {what : Declares} {init : Option InitTree} {made : Made} → Good w → MakesInit w what init made v → v.functions ≡ w.functions
init_functions good no_object = refl
init_functions good bare = refl
init_functions {w = w} good (given {u = u} {v = v} {object = object} {init = init} {by = by} {ty = ty} t s) =
    static_functions v object ty by ∙ size_functions s ∙ (quiet Constants w u (init_calm object init by good t)).functions

-- ---- what declarations and statements keep

pub record Signed (names : List (List ℕ)) (w : World) : Type 0 where
  pub pair : ArePaired w
  pub matched : AreMatched names w

pub moved_matched : (w v : World) → v.objects ≡ w.objects → v.functions ≡ w.functions → v.signatures ≡ w.signatures → (n : ℕ) → IsMatched w n → IsMatched v n
moved_matched w v o f s n m = record {
  function = m.function;
  there = ap (λ l. slice_get l n) f ∙ m.there;
  types = ap (λ l. unwrap_or (slice_get l n) []) s ∙ m.types ∙ ap (λ l. map (type_in l) m.function.params) (sym o);
  scalars = subst (λ l. All (HasScalar l) m.function.params) (sym o) m.scalars;
}

pub moved_signed : {names : List (List ℕ)} (w v : World) → v.objects ≡ w.objects → v.functions ≡ w.functions → v.signatures ≡ w.signatures → v.linked ≡ w.linked → Signed names w → Signed names v
moved_signed {names} w v o f s l p = record {
  pair = ap length s ∙ p.pair ∙ ap length (sym f);
  matched = λ n g e. ⊎_elim (λ m. inl (moved_matched w v o f s n m)) (λ i. inr (same_waits w v l n i)) (p.matched n g (ap (λ xs. slice_get xs n) (sym f) ∙ e));
}

pub calm_signed : {names : List (List ℕ)} (w v : World) → Reaches Constants w v → Signed names w → Signed names v
calm_signed w v r p = record {
  pair = paired w v r p.pair;
  matched = matched_still w v (onward w v r) p.pair (quiet Constants w v r).functions (same_waits w v (calm w v r).linked) p.matched;
}

pub signed_kept : (functions objects : List (List ℕ)) → IsKept functions objects (Signed functions)
signed_kept functions objects = record {
  calm = λ w v good r p. calm_signed w v r p;
  declared = λ around w v x storage steps base has_init named what init made f o h good s b t z n good2 is m r q p.
      let pair = paired w v r p.pair in
      let before : AreMatched around.functions w = subst (λ l. AreMatched l w) (sym f) p.matched in
      let named_all : AreMatched functions v = subst (λ l. AreMatched l v) f (name_matched s b t z n (onward w v r) p.pair before) in record {
        pair = paired v x q pair;
        matched = matched_still v x (onward v x q) pair (init_functions good2 m) (same_waits v x (init_linked good2 m)) named_all;
      };
  moved = λ w v same p. moved_signed w v same.objects same.functions same.signatures same.linked p;
}
