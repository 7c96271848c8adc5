-- What the bytes of initial values point to, between declarations.
use Rattle.std.proofs.Common.{◌≡◌, ℕ, zero, suc, ◌+◌, ◌≤◌, ℤ, true, false, List, [], ◌∷◌, ◌++◌, length, refl, ap, sym, subst, ◌∙◌, arith}
use Rattle.std.specs.Prelude.{Bool, ◌&&◌, if◌then◌else◌, IsTrue, pos, int_le, ◌+ℤ◌, Option, None, Some, option_map, option_and_then, unwrap_or, IsSomeAnd, All, fold, set, take, drop, replicate, slice_get}
use Rattle.std.proofs.lemmas.Option.{same_Some}
use Rattle.std.proofs.lemmas.List.Elements.{All-nil, All-cons, All-push, All-append, All-weaker, All-map, All-take, All-drop, All-replicate}
use Rattle.c_syntax_written.specs.declared.written.StorageWord.{StorageWord}
use Rattle.c_syntax_written.specs.WrittenDecl.{InitTree}
use Rattle.block_mem.specs.declared.types.Byte.{Byte}
use Rattle.block_mem.specs.declared.types.Byte.TheVariants as bytes
use Rattle.c_syntax.specs.declared.program.Initial.{Initial}
use Rattle.c_syntax.specs.declared.program.InitByte.{InitByte}
use Rattle.c_syntax.specs.declared.program.InitByte.TheVariants.{Num, Piece}
use Rattle.c_syntax.specs.declared.operator.TBinaryOp.{TBinaryOp}
use Rattle.c_syntax.specs.declared.operator.TBinaryOp.TheVariants as binaries
use Rattle.c_syntax.specs.Types.{CTypeTree, Void, Int, Pointer, Array, Struct, Function, ObjectTree}
use Rattle.c_syntax.specs.TypedExpr.{TExprTree, TLvalueTree, Null, AddressOf, Decay, Binary, Convert, Var, Deref, Member}
use Rattle.c_syntax.specs.TypedStmt.{TInitTree, Store, Copy}
use Rattle.c_typing.specs.World.{World, Form}
use Rattle.c_typing.specs.Names.{with_initial, literal_bytes, opened}
use Rattle.c_typing.specs.Constants.{constant_value, Address, Nowhere, Inside, inside, moved_address, moved_by, converted_address, is_pointer, static_object, static_address, static_place}
use Rattle.c_typing.specs.Inits.{number_byte, piece_bytes, address_bytes, scalar_bytes, with_item, static_bytes, Initialised}
use Rattle.c_typing.specs.Declarators.{DeclaredName, ParameterTree, Step}
use Rattle.c_typing.specs.Context.{Context, has_name}
use Rattle.c_typing.specs.Decls.{Declares, ObjectNow, Made, new_function, with_sized, sized_object, with_static, size_or_zero, parameters_of, composite_type, measured_type}
use Rattle.c_typing.proofs.Changes.{Changes, Constants, Names, Any, within}
use Rattle.c_typing.proofs.Good.{Good}
use Rattle.c_typing.proofs.Reaches.{Reaches, stays, after, named, literal, struct, new_struct, enumeration, tag_changed, body, opens, scoped, object, counted, sized, initial, linked, defined, retyped, parameters, function, function_changed, labelled, cased, in_body}
use Rattle.c_typing_laws.specs.NameSteps.{MakesName, type_name, reserved, first_function, function_again, local, local_open, first_object, first_missing, object_again, missing_again}
use Rattle.c_typing_laws.specs.DeclSteps.{MakesSize, as_it_was, by_count, MakesInit, no_object, bare, given}
use Rattle.c_typing_laws.proofs.StepSteady.{init_calm}
use Rattle.c_typing_laws.proofs.Keeps.{IsKept}

abbrev pub IsStatic : List ObjectTree → ℕ → Type 0
IsStatic objects o = IsSomeAnd (slice_get objects o) (λ x. IsTrue x.is_static)

abbrev pub IsByteIn : List ObjectTree → InitByte → Type 0
IsByteIn objects (Num n) = Unit {0}
IsByteIn objects (Piece o offset k) = IsStatic objects o × (k ≤ 7)

abbrev pub AreBytes : World → Type 0
AreBytes w = All (λ i. All (IsByteIn w.objects) i.bytes) w.initial

abbrev AddressIn : List ObjectTree → Option Address → Type 0
AddressIn objects (Some (Inside n offset)) = IsStatic objects n
AddressIn objects (Some Nowhere) = Unit {0}
AddressIn objects None = Unit {0}

-- ---- addresses

inside_in : (objects : List ObjectTree) (n : ℕ) (offset : ℤ) → IsStatic objects n → AddressIn objects (inside objects n offset)
inside_in objects n offset s = by (slice_get objects n)
  where
    if_in : (b : Bool) → AddressIn objects (if b then Some (Inside n offset) else None)
    if_in true = s
    if_in false = tt

    by : (o : Option ObjectTree) → AddressIn objects (option_and_then (λ object. if int_le (pos 0) offset && int_le offset (pos object.size) then Some (Inside n offset) else None) o)
    by None = tt
    by (Some x) = if_in (int_le (pos 0) offset && int_le offset (pos x.size))

moved_in : (objects : List ObjectTree) (a : Option Address) (d : Option ℤ) → AddressIn objects a → AddressIn objects (moved_address objects a d)
moved_in objects (Some (Inside n offset)) (Some d) s = inside_in objects n (offset +ℤ d) s
moved_in objects (Some (Inside n offset)) None s = tt
moved_in objects (Some Nowhere) d s = tt
moved_in objects None d s = tt

op_in : (objects : List ObjectTree) (op : TBinaryOp) (l r : Option Address) (a b : Option ℤ) → AddressIn objects l → AddressIn objects r → AddressIn objects (moved_by objects op l r a b)
op_in objects (binaries.PointerPlusInt size) l r a b s t = moved_in objects l _ s
op_in objects (binaries.IntPlusPointer size) l r a b s t = moved_in objects r _ t
op_in objects (binaries.PointerMinusInt size) l r a b s t = moved_in objects l _ s
op_in objects op l r a b s t = tt

converted_in : (objects : List ObjectTree) (ty : CTypeTree) (a : Option Address) → AddressIn objects a → AddressIn objects (converted_address ty a)
converted_in objects ty a s = by (is_pointer ty)
  where
    by : (b : Bool) → AddressIn objects (if b then a else None)
    by true = s
    by false = tt

object_in : (objects : List ObjectTree) (n : ℕ) → AddressIn objects (static_object objects n)
object_in objects n = by (slice_get objects n) refl
  where
    if_in : (x : ObjectTree) (b : Bool) → slice_get objects n ≡ Some x → x.is_static ≡ b → AddressIn objects (if b then Some (Inside n (pos 0)) else None)
    if_in x true e q = subst (λ o. IsSomeAnd o (λ y. IsTrue y.is_static)) (sym e) q
    if_in x false e q = tt

    by : (o : Option ObjectTree) → slice_get objects n ≡ o → AddressIn objects (option_and_then (λ object. if object.is_static then Some (Inside n (pos 0)) else None) o)
    by None e = tt
    by (Some x) e = if_in x x.is_static e refl

mutual
  unfolding static_address static_place

  address_in : (objects : List ObjectTree) (e : TExprTree) → AddressIn objects (static_address objects e)
  address_in objects (Null at ty) = tt
  address_in objects (AddressOf at place) = place_in objects place
  address_in objects (Decay at place) = place_in objects place
  address_in objects (Binary at op left right) =
      op_in objects op (static_address objects left) (static_address objects right) (constant_value left) (constant_value right) (address_in objects left) (address_in objects right)
  address_in objects (Convert at ty operand) = converted_in objects ty (static_address objects operand) (address_in objects operand)
  address_in objects e = tt

  place_in : (objects : List ObjectTree) (p : TLvalueTree) → AddressIn objects (static_place objects p)
  place_in objects (Var at n ty c) = object_in objects n
  place_in objects (Deref at kind ty c pointer) = address_in objects pointer
  place_in objects (Member at k offset ty c place) = moved_in objects (static_place objects place) (Some (pos offset)) (place_in objects place)

-- ---- bytes

number_in : (objects : List ObjectTree) (b : Byte) → IsByteIn objects (number_byte b)
number_in objects (bytes.Num n) = tt
number_in objects b = tt

piece_in : (objects : List ObjectTree) (n : ℕ) (offset : ℤ) (k left : ℕ) → IsStatic objects n → k + left ≤ 8 → All (IsByteIn objects) (piece_bytes n offset k left)
unfolding piece_bytes
piece_in objects n offset k zero s h = All-nil (IsByteIn objects)
piece_in objects n offset k (suc left) s h =
    All-cons (IsByteIn objects) (Piece n offset k) (piece_bytes n offset (k + 1) left) (s, omega (arith, h)) (piece_in objects n offset (k + 1) left s (omega (arith, h)))

address_bytes_in : (objects : List ObjectTree) (a : Option Address) → AddressIn objects a → All (IsByteIn objects) (address_bytes a)
address_bytes_in objects (Some (Inside n offset)) s = piece_in objects n offset 0 8 s (omega arith)
address_bytes_in objects (Some Nowhere) s = All-replicate (IsByteIn objects) 8 (Num 0) tt
address_bytes_in objects None s = All-replicate (IsByteIn objects) 8 (Num 0) tt

scalar_in : (objects : List ObjectTree) (ty : CTypeTree) (e : TExprTree) → All (IsByteIn objects) (scalar_bytes objects ty e)
scalar_in objects (Int t) e = All-map (IsByteIn objects) number_byte _ (λ k d h. number_in objects _)
scalar_in objects Void e = address_bytes_in objects (static_address objects e) (address_in objects e)
scalar_in objects (Pointer to c) e = address_bytes_in objects (static_address objects e) (address_in objects e)
scalar_in objects (Array of c n) e = address_bytes_in objects (static_address objects e) (address_in objects e)
scalar_in objects (Struct n) e = address_bytes_in objects (static_address objects e) (address_in objects e)
scalar_in objects (Function n) e = address_bytes_in objects (static_address objects e) (address_in objects e)

item_in : (objects : List ObjectTree) (all : List InitByte) (i : TInitTree) → All (IsByteIn objects) all → All (IsByteIn objects) (with_item objects all i)
item_in objects all (Store offset ty value) h =
    let piece = scalar_bytes objects ty value in
    All-append (IsByteIn objects) (take offset all ++ piece) (drop (offset + length piece) all)
    (All-append (IsByteIn objects) (take offset all) piece (All-take (IsByteIn objects) offset all h) (scalar_in objects ty value)) (All-drop (IsByteIn objects) (offset + length piece) all h)
item_in objects all (Copy offset extent source) h = h

items_in : (objects : List ObjectTree) (items : List TInitTree) (all : List InitByte) → All (IsByteIn objects) all → All (IsByteIn objects) (fold (with_item objects) all items)
items_in objects [] all h = h
items_in objects (i ∷ rest) all h = items_in objects rest (with_item objects all i) (item_in objects all i h)

pub static_in : (objects : List ObjectTree) (size : ℕ) (items : List TInitTree) → All (IsByteIn objects) (static_bytes objects size items)
static_in objects size items = items_in objects items (replicate size (Num 0)) (All-replicate (IsByteIn objects) size (Num 0) tt)

literal_in : (objects : List ObjectTree) (text : List ℕ) → All (IsByteIn objects) (literal_bytes text)
literal_in objects text = All-map (IsByteIn objects) Num _ (λ k d h. tt)

-- ---- static objects stay

abbrev pub StayStatic : List ObjectTree → List ObjectTree → Type 0
StayStatic xs ys = (o : ℕ) → IsStatic xs o → IsStatic ys o

pub stay_more : (xs ys : List ObjectTree) → StayStatic xs (xs ++ ys)
stay_more [] ys o h = absurd h
stay_more (x ∷ xs) ys zero h = h
stay_more (x ∷ xs) ys (suc o) h = stay_more xs ys o h

stay_set : (xs : List ObjectTree) (n : ℕ) (x y : ObjectTree) → slice_get xs n ≡ Some x → y.is_static ≡ x.is_static → StayStatic xs (set xs n y)
stay_set [] n x y e s o h = absurd h
stay_set (z ∷ xs) zero x y e s zero h = s ∙ ap (λ q. q.is_static) (sym (same_Some z x e)) ∙ h
stay_set (z ∷ xs) zero x y e s (suc o) h = h
stay_set (z ∷ xs) (suc n) x y e s zero h = h
stay_set (z ∷ xs) (suc n) x y e s (suc o) h = stay_set xs n x y e s o h

byte_stays : (xs ys : List ObjectTree) → StayStatic xs ys → (b : InitByte) → IsByteIn xs b → IsByteIn ys b
byte_stays xs ys s (Num n) h = tt
byte_stays xs ys s (Piece o offset k) h = (s o h.0, h.1)

bytes_stay : (xs ys : List ObjectTree) → StayStatic xs ys → (is : List Initial) → All (λ i. All (IsByteIn xs) i.bytes) is → All (λ i. All (IsByteIn ys) i.bytes) is
bytes_stay xs ys s is all =
    All-weaker (λ i. All (IsByteIn xs) i.bytes) (λ i. All (IsByteIn ys) i.bytes) (λ i h. All-weaker (IsByteIn xs) (IsByteIn ys) (λ b x. byte_stays xs ys s b x) i.bytes h) is all

pub in_after : (w v : World) → StayStatic w.objects v.objects → v.initial ≡ w.initial → AreBytes w → AreBytes v
in_after w v s e all = subst (All (λ i. All (IsByteIn v.objects) i.bytes)) (sym e) (bytes_stay w.objects v.objects s w.initial all)

pub in_same : (w v : World) → v.objects ≡ w.objects → v.initial ≡ w.initial → AreBytes w → AreBytes v
in_same w v o e all = in_after w v (λ k h. subst (λ objects. IsStatic objects k) (sym o) h) e all

pub in_more : (w v : World) (xs : List ObjectTree) → v.objects ≡ w.objects ++ xs → v.initial ≡ w.initial → AreBytes w → AreBytes v
in_more w v xs o e all = in_after w v (λ k h. subst (λ objects. IsStatic objects k) (sym o) (stay_more w.objects xs k h)) e all

in_sized : (w : World) (n : ℕ) (ty : CTypeTree) (size : ℕ) → AreBytes w → AreBytes (with_sized w n ty size)
in_sized w n ty size all = in_after w (with_sized w n ty size) (by (slice_get w.objects n) refl) refl all
  where
    by : (o : Option ObjectTree) → slice_get w.objects n ≡ o → StayStatic w.objects (unwrap_or (option_map (λ object. set w.objects n (sized_object ty size object)) o) w.objects)
    by None e = λ k h. h
    by (Some x) e = stay_set w.objects n x (sized_object ty size x) e refl

in_literal : (w v : World) (n : ℕ) (x : ObjectTree) (text : List ℕ) → v.objects ≡ w.objects ++ x ∷ [] → v.initial ≡ w.initial ++ record { object = n; bytes = literal_bytes text } ∷ [] → AreBytes w → AreBytes v
in_literal w v n x text o e all =
    subst (All (λ i. All (IsByteIn v.objects) i.bytes)) (sym e)
    (All-push (λ i. All (IsByteIn v.objects) i.bytes) w.initial (record { object = n; bytes = literal_bytes text })
    (bytes_stay w.objects v.objects (λ k h. subst (λ objects. IsStatic objects k) (sym o) (stay_more w.objects (x ∷ []) k h)) w.initial all) (literal_in v.objects text))

-- ---- expressions

abbrev Keeps : Changes → World → World → Type 0
Keeps Constants w v = AreBytes w → AreBytes v
Keeps Names w v = AreBytes w → AreBytes v
Keeps Any w v = Unit {0}

keeps : (may : Changes) (w v : World) → (AreBytes w → AreBytes v) → Keeps may w v
keeps Constants w v f = f
keeps Names w v f = f
keeps Any w v f = tt

keeps_then : (may : Changes) (u v w : World) → Keeps may u v → Keeps may v w → Keeps may u w
keeps_then Constants u v w f g = λ h. g (f h)
keeps_then Names u v w f g = λ h. g (f h)
keeps_then Any u v w f g = tt

keeps_scope : (may : Changes) (w o v x : World) → (AreBytes w → AreBytes o) → Keeps (within may) o v → (AreBytes v → AreBytes x) → Keeps may w x
keeps_scope Constants w o v x a f b = λ h. b (f (a h))
keeps_scope Names w o v x a f b = λ h. b (f (a h))
keeps_scope Any w o v x a f b = tt

kept_by : (may : Changes) (w v : World) → Reaches may w v → Keeps may w v
kept_by may w v (stays _) = keeps may w w (λ h. h)
kept_by may w v (after _ u _ r s) = keeps_then may w u v (kept_by may w u r) (kept_by may u v s)
kept_by may w v (named _ at name meaning f h) = keeps may w v (λ h. h)
kept_by may w v (literal _ at text small) = keeps may w v (in_literal w v _ _ text refl refl)
kept_by may w v (struct _ tag) = keeps may w v (λ h. h)
kept_by may w v (new_struct _ tag d) = keeps may w v (λ h. h)
kept_by may w v (enumeration _ tag d) = keeps may w v (λ h. h)
kept_by may w v (tag_changed _ tag at m f) = keeps may w v (λ h. h)
kept_by may w v (body _ u x n members r begun s are sound) = keeps_then may w u v (kept_by may w u r) (keeps_then may u x v (kept_by may u x s) (keeps may x v (λ h. h)))
kept_by may w v (opens _) = keeps may w v (λ h. h)
kept_by may w v (scoped _ u r) = keeps_scope may w (opened w) u v (λ h. h) (kept_by (within may) (opened w) u r) (λ h. h)
kept_by may w v (object _ x) = tt
kept_by may w v (counted _ size) = tt
kept_by may w v (sized _ n ty size h) = tt
kept_by may w v (initial _ n bytes) = tt
kept_by may w v (linked _ x meaning d f) = tt
kept_by may w v (defined _ name now) = tt
kept_by may w v (retyped _ name ty c) = tt
kept_by may w v (parameters _ params) = tt
kept_by may w v (function _ told types f e none) = tt
kept_by may w v (function_changed _ n change f) = tt
kept_by may w v (labelled _ labels) = tt
kept_by may w v (cased _ cases default) = tt
kept_by may w v (in_body _ u x first names tags r aside f s) = tt

pub in_calm : (w v : World) → Reaches Constants w v → AreBytes w → AreBytes v
in_calm w v r all = kept_by Constants w v r all

-- ---- declarations

pub new_in : (w : World) (named : DeclaredName) (later : Bool) (params : List ParameterTree) (types : List CTypeTree) (result : CTypeTree) → AreBytes w → AreBytes (new_function w named later params types result)
new_in w entity true params types result all = all
new_in w entity false params types result all = in_more w (new_function w entity false params types result) _ refl refl all

name_in :
    {around : Context} {w v : World} {storage : List StorageWord} {steps : List Step} {base : Form} {has_init : Bool} {named : DeclaredName} {what : Declares}
    → MakesName around w storage steps base has_init named what v → AreBytes w → AreBytes v
name_in {w = w} {v = v} (type_name form d e) all = in_same w v refl refl all
name_in (reserved y) all = all
name_in {around = around} {w = w} {steps = steps} {named = entity} (first_function types result r e n) all =
    new_in w entity (has_name around.functions entity.name) (parameters_of steps types entity.pos) types result all
name_in {w = w} {v = v} (function_again types result l n so) all = in_same w v refl refl all
name_in {w = w} {v = v} (local ty c st size i e h) all = in_more w v _ refl refl all
name_in {w = w} {v = v} (local_open of c st i e h) all = in_more w v _ refl refl all
name_in {w = w} {v = v} (first_object form ty c m size total r e is n h z) all = in_more w v _ refl refl all
name_in {w = w} {v = v} (first_missing ty c total r n h) all = in_same w v refl refl all
name_in {w = w} {v = v} (object_again form ty c m l n size total e is k q a z) all =
    let before = record w { total = total } in in_same (with_sized before n (composite_type w ty (Some l)) size) v refl refl (in_sized before n (composite_type w ty (Some l)) size (in_same w before refl refl all))
name_in {w = w} {v = v} (missing_again ty before c l size total d k q) all = in_same w v refl refl all

static_world : (w : World) (object : ObjectNow) (ty : CTypeTree) (by : Initialised) → AreBytes w → AreBytes (with_static w object ty by)
static_world w now ty by all = at now.is_static
  where
    at : (b : Bool) → AreBytes (if b then with_initial w now.number (static_bytes w.objects (size_or_zero w ty) by.items) else w)
    at true = All-push (λ i. All (IsByteIn w.objects) i.bytes) w.initial _ all (static_in w.objects (size_or_zero w ty) by.items)
    at false = all

size_in_world : {w v : World} {object : ObjectNow} {by : Initialised} {ty : CTypeTree} → MakesSize w object by ty v → AreBytes w → AreBytes v
size_in_world (as_it_was m) all = all
size_in_world {w = w} {v = v} {object = now} {by = by} (by_count m c t) all =
    let ty = measured_type now.ty by.count in in_same (with_sized w now.number ty (size_or_zero w ty)) v refl refl (in_sized w now.number ty (size_or_zero w ty) all)

init_in : {w v : World} {what : Declares} {init : Option InitTree} {made : Made} → Good w → MakesInit w what init made v → AreBytes w → AreBytes v
init_in good no_object all = all
init_in good bare all = all
init_in {w = w} good (given {u = u} {v = v} {object = now} {init = init} {by = by} {ty = ty} t s) all =
    static_world v now ty by (size_in_world s (in_calm w u (init_calm now init by good t) all))

pub bytes_kept : (functions objects : List (List ℕ)) → IsKept functions objects AreBytes
bytes_kept functions objects = record {
  calm = λ w v good r all. in_calm w v r all;
  declared = λ around w v x storage steps base has_init named what init made f o h good s b t z n good2 is m r q all. init_in good2 m (name_in n all);
  moved = λ w v same all. in_same w v same.objects same.initial all;
}
