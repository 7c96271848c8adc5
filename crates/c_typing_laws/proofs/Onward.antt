-- What a world keeps of one before it: objects, functions, and the names in scope.
use Rattle.std.proofs.Common.{◌≡◌, ℕ, zero, suc, ◌+◌, List, [], ◌∷◌, ◌++◌, length, refl, ap, sym, subst, ◌∙◌}
use Rattle.std.specs.Prelude.{Option, None, Some, option_map, unwrap_or, map, set, take, slice_get}
use Rattle.std.proofs.lemmas.Option.{same_Some, none-some}
use Rattle.std.proofs.lemmas.List.{append-nil, append_assoc, take_at, length-set, length_push}
use Rattle.c_syntax.specs.Types.{CTypeTree, ObjectTree}
use Rattle.c_syntax.specs.Program.{TFunctionTree}
use Rattle.c_typing.specs.World.{World, Binding}
use Rattle.c_typing.specs.Laws.{IsSameFunction, IsSameObject, IsLastType, same, sized}
use Rattle.c_typing.specs.Decls as decls
use Rattle.c_typing.specs.File as files
use Rattle.c_typing.proofs.Changes.{Changes}
use Rattle.c_typing.proofs.MadeTables.{get_append}
use Rattle.c_typing.proofs.Reaches as reaches
use Rattle.c_typing.proofs.Reaches.{Reaches, stays, after, named, literal, struct, new_struct, enumeration, tag_changed, body, opens, scoped, object, counted, initial, linked, defined, retyped, parameters, function, function_changed, labelled, cased, in_body}

-- an item of the one list stands at its place in the other, as one that is related to it
abbrev Keep : {A : Type 0} → (A → A → Type 0) → List A → List A → Type 0
Keep {A} R xs ys = (k : ℕ) (x : A) → slice_get xs k ≡ Some x → (y : A) × (slice_get ys k ≡ Some y) × R x y

pub keep_same : {A : Type 0} (R : A → A → Type 0) → ((x : A) → R x x) → (xs ys : List A) → ys ≡ xs → Keep R xs ys
keep_same R r xs ys e k x q = (x, ap (λ l. slice_get l k) e ∙ q, r x)

pub keep_more : {A : Type 0} (R : A → A → Type 0) → ((x : A) → R x x) → (xs ys more : List A) → ys ≡ xs ++ more → Keep R xs ys
keep_more R r xs ys more e k x q = (x, ap (λ l. slice_get l k) e ∙ get_append xs more k x q, r x)

keep_then : {A : Type 0} (R : A → A → Type 0) → ((x y z : A) → R x y → R y z → R x z) → (xs ys zs : List A) → Keep R xs ys → Keep R ys zs → Keep R xs zs
keep_then R r xs ys zs f g k x q = let a = f k x q in let b = g k a.0 a.1 in (b.0, b.1, r x a.0 b.0 a.2 b.2)

keep_set : {A : Type 0} (R : A → A → Type 0) → ((x : A) → R x x) → (xs : List A) (n : ℕ) (y z : A) → slice_get xs n ≡ Some y → R y z → Keep R xs (set xs n z)
keep_set R r [] n y z e s k x q = absurd (none-some x q)
keep_set R r (a ∷ xs) zero y z e s zero x q = (z, refl, subst (λ w. R w z) (same_Some y x (sym e ∙ q)) s)
keep_set R r (a ∷ xs) zero y z e s (suc k) x q = (x, q, r x)
keep_set R r (a ∷ xs) (suc n) y z e s zero x q = (x, q, r x)
keep_set R r (a ∷ xs) (suc n) y z e s (suc k) x q = keep_set R r xs n y z e s k x q

pub keep_change :
    {A : Type 0} (R : A → A → Type 0) → ((x : A) → R x x) → (xs : List A) (n : ℕ) (change : A → A) → ((y : A) → slice_get xs n ≡ Some y → R y (change y)) → (o : Option A) → slice_get xs n ≡ o
    → Keep R xs (unwrap_or (option_map (λ y. set xs n (change y)) o) xs)
keep_change R r xs n change s None e = keep_same R r xs xs refl
keep_change R r xs n change s (Some y) e = keep_set R r xs n y (change y) e (s y e)

-- ---- objects and functions

pub same_object : (x : ObjectTree) → IsSameObject x x
same_object x = record { name = refl; pos = refl; ty = same x.ty; read_only = refl; is_static = refl }

pub last_then : {s t u : CTypeTree} → IsLastType s t → IsLastType t u → IsLastType s u
last_then (same ty) q = q
last_then (sized of c n) (same _) = sized of c n
last_then (sized of c zero) (sized _ _ m) = sized of c m

object_then : (x y z : ObjectTree) → IsSameObject x y → IsSameObject y z → IsSameObject x z
object_then x y z a b = record { name = a.name ∙ b.name; pos = a.pos ∙ b.pos; ty = last_then a.ty b.ty; read_only = a.read_only ∙ b.read_only; is_static = a.is_static ∙ b.is_static }

pub same_function : (f : TFunctionTree) → IsSameFunction f f
same_function f = record { name = refl; result = refl }

function_then : (f g h : TFunctionTree) → IsSameFunction f g → IsSameFunction g h → IsSameFunction f h
function_then f g h a b = record { name = a.name ∙ b.name; result = a.result ∙ b.result }

-- ---- worlds

-- each object and each function has its number, and names are declared behind those that stand there
pub record Onward (w v : World) : Type 0 where
  pub objects : Keep IsSameObject w.objects v.objects
  pub functions : Keep IsSameFunction w.functions v.functions
  pub signatures : Keep {A = List CTypeTree} (λ a b. b ≡ a) w.signatures v.signatures
  pub extra : List Binding
  pub names : v.names ≡ w.names ++ extra

-- with these objects and these names behind the others
more : (w v : World) (xs : List ObjectTree) (ys : List Binding) → v.objects ≡ w.objects ++ xs → v.functions ≡ w.functions → v.signatures ≡ w.signatures → v.names ≡ w.names ++ ys → Onward w v
more w v xs ys o f s n = record {
  objects = keep_more IsSameObject same_object w.objects v.objects xs o;
  functions = keep_same IsSameFunction same_function w.functions v.functions f;
  signatures = keep_same (λ a b. b ≡ a) (λ a. refl) w.signatures v.signatures s;
  extra = ys;
  names = n;
}

pub onward_same : (w v : World) → v.objects ≡ w.objects → v.functions ≡ w.functions → v.signatures ≡ w.signatures → v.names ≡ w.names → Onward w v
onward_same w v o f s n = more w v [] [] (o ∙ sym (append-nil w.objects)) f s (n ∙ sym (append-nil w.names))

pub onward_then : (u v w : World) → Onward u v → Onward v w → Onward u w
onward_then u v w a b = record {
  objects = keep_then IsSameObject object_then u.objects v.objects w.objects a.objects b.objects;
  functions = keep_then IsSameFunction function_then u.functions v.functions w.functions a.functions b.functions;
  signatures = keep_then (λ x y. y ≡ x) (λ x y z p q. q ∙ p) u.signatures v.signatures w.signatures a.signatures b.signatures;
  extra = a.extra ++ b.extra;
  names = b.names ∙ ap (λ l. l ++ b.extra) a.names ∙ append_assoc u.names a.extra b.extra;
}

-- where a scope has ended, the names are those of before
pub onward_shut : (u x v z : World) → x.objects ≡ u.objects → x.functions ≡ u.functions → x.signatures ≡ u.signatures → (front : List Binding) → x.names ≡ u.names ++ front → Onward x v
    → z.objects ≡ v.objects → z.functions ≡ v.functions → z.signatures ≡ v.signatures → z.names ≡ take (length u.names) v.names → Onward u z
onward_shut u x v z o f s front n k zo zf zs zn = record {
  objects = λ j y q. let a = k.objects j y (ap (λ l. slice_get l j) o ∙ q) in (a.0, ap (λ l. slice_get l j) zo ∙ a.1, a.2);
  functions = λ j y q. let a = k.functions j y (ap (λ l. slice_get l j) f ∙ q) in (a.0, ap (λ l. slice_get l j) zf ∙ a.1, a.2);
  signatures = λ j y q. let a = k.signatures j y (ap (λ l. slice_get l j) s ∙ q) in (a.0, ap (λ l. slice_get l j) zs ∙ a.1, a.2);
  extra = [];
  names = zn ∙ ap (take (length u.names)) (k.names ∙ ap (λ l. l ++ k.extra) n ∙ append_assoc u.names front k.extra) ∙ take_at u.names (front ++ k.extra) (length u.names) refl
      ∙ sym (append-nil u.names);
}

pub onward : {may : Changes} (w v : World) → Reaches may w v → Onward w v
onward w v (stays _) = onward_same w w refl refl refl refl
onward w v (after _ u _ r s) = onward_then w u v (onward w u r) (onward u v s)
onward w v (named _ at name meaning f h) = more w v [] (record { name = name; pos = at; meaning = meaning } ∷ []) (sym (append-nil w.objects)) refl refl refl
onward w v (literal _ at bytes small) = more w v _ [] refl refl refl (sym (append-nil w.names))
onward w v (struct _ tag) = onward_same w v refl refl refl refl
onward w v (new_struct _ tag d) = onward_same w v refl refl refl refl
onward w v (enumeration _ tag d) = onward_same w v refl refl refl refl
onward w v (tag_changed _ tag at meaning f) = onward_same w v refl refl refl refl
onward w v (body _ u x n members r begun s are sound) = onward_then w u v (onward w u r) (onward_then u x v (onward u x s) (onward_same x v refl refl refl refl))
onward w v (opens _) = onward_same w v refl refl refl refl
onward w v (scoped _ u r) = onward_shut w _ u v refl refl refl [] (sym (append-nil w.names)) (onward _ u r) refl refl refl refl
onward w v (object _ x) = more w v (x ∷ []) [] refl refl refl (sym (append-nil w.names))
onward w v (counted _ size) = onward_same w v refl refl refl refl
onward w v (reaches.sized _ n ty size h) = record {
  objects = keep_change IsSameObject same_object w.objects n (decls.sized_object ty size) (λ x there. record { name = refl; pos = refl; ty = h x there; read_only = refl; is_static = refl }) _ refl;
  functions = keep_same IsSameFunction same_function w.functions w.functions refl;
  signatures = keep_same (λ a b. b ≡ a) (λ a. refl) w.signatures w.signatures refl;
  extra = [];
  names = sym (append-nil w.names);
}
onward w v (initial _ n bytes) = onward_same w v refl refl refl refl
onward w v (linked _ told meaning d f) = more w v [] (record { name = told.name; pos = told.pos; meaning = meaning } ∷ []) (sym (append-nil w.objects)) refl refl refl
onward w v (defined _ name now) = onward_same w v refl refl refl refl
onward w v (retyped _ name ty c) = onward_same w v refl refl refl refl
onward w v (parameters _ params) = more w v (map (decls.parameter_object w) params) [] refl refl refl (sym (append-nil w.names))
onward w v (function _ told types f e none) = record {
  objects = keep_same IsSameObject same_object w.objects w.objects refl;
  functions = keep_more IsSameFunction same_function w.functions v.functions (f ∷ []) refl;
  signatures = keep_more (λ a b. b ≡ a) (λ a. refl) w.signatures v.signatures (types ∷ []) refl;
  extra = _;
  names = refl;
}
onward w v (function_changed _ n change f) = record {
  objects = keep_same IsSameObject same_object w.objects w.objects refl;
  functions = keep_change IsSameFunction same_function w.functions n change (λ y there. f y) _ refl;
  signatures = keep_same (λ a b. b ≡ a) (λ a. refl) w.signatures w.signatures refl;
  extra = [];
  names = sym (append-nil w.names);
}
onward w v (labelled _ labels) = onward_same w v refl refl refl refl
onward w v (cased _ cases default) = onward_same w v refl refl refl refl
onward w v (in_body _ u x first names tags r aside f s) = onward_then w u v (onward w u r) (onward_shut u _ x v refl refl refl (map (files.with_object_meaning first) names) refl (onward _ x s) refl refl refl refl)

-- ---- parameters' types

-- each function has the types of its parameters beside it
abbrev pub ArePaired : World → Type 0
ArePaired w = length w.signatures ≡ length w.functions

change_length : (fs : List TFunctionTree) (n : ℕ) (change : TFunctionTree → TFunctionTree) (o : Option TFunctionTree) → length (unwrap_or (option_map (λ f. set fs n (change f)) o) fs) ≡ length fs
change_length fs n change None = refl
change_length fs n change (Some f) = length-set fs n (change f)

pub paired : {may : Changes} (w v : World) → Reaches may w v → ArePaired w → ArePaired v
paired w v (stays _) p = p
paired w v (after _ u _ r s) p = paired u v s (paired w u r p)
paired w v (named _ at name meaning f h) p = p
paired w v (literal _ at bytes small) p = p
paired w v (struct _ tag) p = p
paired w v (new_struct _ tag d) p = p
paired w v (enumeration _ tag d) p = p
paired w v (tag_changed _ tag at meaning f) p = p
paired w v (body _ u x n members r begun s are sound) p = paired u x s (paired w u r p)
paired w v (opens _) p = p
paired w v (scoped _ u r) p = paired _ u r p
paired w v (object _ x) p = p
paired w v (counted _ size) p = p
paired w v (reaches.sized _ n ty size h) p = p
paired w v (initial _ n bytes) p = p
paired w v (linked _ told meaning d f) p = p
paired w v (defined _ name now) p = p
paired w v (retyped _ name ty c) p = p
paired w v (parameters _ params) p = p
paired w v (function _ told types f e none) p = length_push w.signatures types ∙ ap (λ n. n + 1) p ∙ sym (length_push w.functions f)
paired w v (function_changed _ n change f) p = p ∙ sym (change_length w.functions n change (slice_get w.functions n))
paired w v (labelled _ labels) p = p
paired w v (cased _ cases default) p = p
paired w v (in_body _ u x first names tags r aside f s) p = paired _ x s (paired w u r p)
