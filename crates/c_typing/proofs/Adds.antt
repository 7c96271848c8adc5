-- A world that is reached goes on from the one before: its objects and functions keep their numbers.
use Rattle.std.proofs.Common.{◌≡◌, sym, ◌∙◌, subst, ap, refl}
use Rattle.std.specs.Prelude.{ℕ, zero, suc, Option, Some, None, option_map, unwrap_or, IsSomeAnd, List, [], ◌∷◌, ◌++◌, set, slice_get}
use Rattle.c_syntax.specs.Types.{CTypeTree}
use Rattle.c_syntax.specs.Program.{StructDefTree}
use Rattle.c_syntax_written.specs.WrittenFile.{OuterTree}
use Rattle.c_typing.proofs.Changes.{Changes, Any}
use Rattle.c_typing.specs.World.{World, Typed}
use Rattle.std.proofs.lemmas.List.Elements.{All-nil}
use Rattle.c_typing.specs.Formed.{IsFormedMeaning, IsFormedTag}
use Rattle.c_typing.specs.Context.{Context}
use Rattle.c_typing.specs.File.{TypesOuters, nothing_yet}
use Rattle.c_typing.specs.Decls.{sized_object}
use Rattle.c_typing.specs.Later.{has_members}
use Rattle.std.proofs.lemmas.Option.{same_Some}
use Rattle.c_typing.specs.Laws.{IsLastType, same, sized, IsSameFunction, IsSameObject, IsSameStruct, TypingAdds, StructsAreTyped}
use Rattle.c_typing.proofs.MadeTables.{get_append, made_nothing}
use Rattle.c_typing.proofs.SoundTables.{sound_nothing, typed_table}
use Rattle.c_typing.proofs.Good.{Good, Frame, complete_shut}
use Rattle.c_typing.proofs.Reaches as reaches
use Rattle.c_typing.proofs.Reaches.{Reaches, kept, Goes, typed, stays, after, named, literal, struct, new_struct, enumeration, tag_changed, body, opens, scoped, object, counted, initial, linked, defined, retyped, parameters, function, function_changed, labelled, cased, in_body}
use Rattle.c_typing.proofs.FileGo.{outers}

-- what stands in a list at this number, related to an item
pub record At {A : Type 0} (R : A → A → Type 0) (x : A) (ys : List A) (k : ℕ) : Type 0 where
  pub item : A
  pub there : slice_get ys k ≡ Some item
  pub related : R x item

-- each item of the one list has its number in the other, as one that is related to it
abbrev Keep : {A : Type 0} → (A → A → Type 0) → List A → List A → Type 0
Keep {A} R xs ys = (k : ℕ) (x : A) → slice_get xs k ≡ Some x → At R x ys k

-- a relation that holds between each item and itself, and from one to the next
record Preorder {A : Type 0} (R : A → A → Type 0) : Type 0 where
  same : (x : A) → R x x
  next : (x y z : A) → R x y → R y z → R x z

keep_all : {A : Type 0} {R : A → A → Type 0} → Preorder R → (xs : List A) → Keep R xs xs
keep_all p xs k x e = record { item = x; there = e; related = p.same x }

keep_then : {A : Type 0} {R : A → A → Type 0} → Preorder R → (xs ys zs : List A) → Keep R xs ys → Keep R ys zs → Keep R xs zs
keep_then p xs ys zs f g k x e =
    let one = f k x e in let two = g k one.item one.there in record { item = two.item; there = two.there; related = p.next _ _ _ one.related two.related }

keep_append : {A : Type 0} {R : A → A → Type 0} → Preorder R → (xs ys : List A) → Keep R xs (xs ++ ys)
keep_append p xs ys k x e = record { item = x; there = get_append xs ys k x e; related = p.same x }

keep_set : {A : Type 0} {R : A → A → Type 0} → Preorder R → (xs : List A) (n : ℕ) (y z : A) → slice_get xs n ≡ Some y → R y z → Keep R xs (set xs n z)
keep_set p [] n y z e r k x q = cc
keep_set {R = R} p (a ∷ xs) zero y z e r zero x q = record { item = z; there = refl; related = subst (λ w. R w z) (same_Some y x (sym e ∙ q)) r }
keep_set p (a ∷ xs) zero y z e r (suc k) x q = record { item = x; there = q; related = p.same x }
keep_set p (a ∷ xs) (suc n) y z e r zero x q = record { item = x; there = q; related = p.same x }
keep_set p (a ∷ xs) (suc n) y z e r (suc k) x q =
    let inner = keep_set p xs n y z e r k x q in record { item = inner.item; there = inner.there; related = inner.related }

keep_change : {A : Type 0} {R : A → A → Type 0} → Preorder R → (xs : List A) (n : ℕ) (change : A → A) → ((y : A) → slice_get xs n ≡ Some y → R y (change y)) → (o : Option A) → slice_get xs n ≡ o → Keep R xs (unwrap_or (option_map (λ y. set xs n (change y)) o) xs)
keep_change p xs n change r None e = keep_all p xs
keep_change p xs n change r (Some y) e = keep_set p xs n y (change y) e (r y e)

functions_order : Preorder IsSameFunction
functions_order = record {
  same = λ f. record { name = refl; result = refl };
  next = λ f g h a b. record { name = a.name ∙ b.name; result = a.result ∙ b.result };
}

last_then : {s t u : CTypeTree} → IsLastType s t → IsLastType t u → IsLastType s u
last_then (same ty) q = q
last_then (sized of c n) (same _) = sized of c n
last_then (sized of c zero) (sized _ _ m) = sized of c m

objects_order : Preorder IsSameObject
objects_order = record {
  same = λ x. record { name = refl; pos = refl; ty = same x.ty; read_only = refl; is_static = refl };
  next = λ x y z a b. record { name = a.name ∙ b.name; pos = a.pos ∙ b.pos; ty = last_then a.ty b.ty; read_only = a.read_only ∙ b.read_only; is_static = a.is_static ∙ b.is_static };
}

signatures_order : Preorder {A = List CTypeTree} ◌≡◌
signatures_order = record { same = λ types. refl; next = λ x y z a b. a ∙ b }

-- the objects, the functions and their parameters' types of one world are kept in another
record Continued (w v : World) : Type 0 where
  objects : Keep IsSameObject w.objects v.objects
  functions : Keep IsSameFunction w.functions v.functions
  signatures : Keep ◌≡◌ w.signatures v.signatures

same_functions : (w v : World) → v.functions ≡ w.functions → v.signatures ≡ w.signatures → Keep IsSameObject w.objects v.objects → Continued w v
same_functions w v f s k = record {
  objects = k;
  functions = subst (λ xs. Keep IsSameFunction w.functions xs) (sym f) (keep_all functions_order w.functions);
  signatures = subst (λ xs. Keep ◌≡◌ w.signatures xs) (sym s) (keep_all signatures_order w.signatures);
}

all_same : (w v : World) → v.objects ≡ w.objects → v.functions ≡ w.functions → v.signatures ≡ w.signatures → Continued w v
all_same w v e f s = same_functions w v f s (subst (λ xs. Keep IsSameObject w.objects xs) (sym e) (keep_all objects_order w.objects))

same_objects : (w v : World) → v.objects ≡ w.objects → Keep IsSameFunction w.functions v.functions → Keep ◌≡◌ w.signatures v.signatures → Continued w v
same_objects w v e f s = record { objects = subst (λ xs. Keep IsSameObject w.objects xs) (sym e) (keep_all objects_order w.objects); functions = f; signatures = s }

continued_then : (w u v : World) → Continued w u → Continued u v → Continued w v
continued_then w u v one two = record {
  objects = keep_then objects_order w.objects u.objects v.objects one.objects two.objects;
  functions = keep_then functions_order w.functions u.functions v.functions one.functions two.functions;
  signatures = keep_then signatures_order w.signatures u.signatures v.signatures one.signatures two.signatures;
}

-- the same with other names and tags
in_scope : (w x u v : World) → x.objects ≡ w.objects → x.functions ≡ w.functions → x.signatures ≡ w.signatures → v.objects ≡ u.objects → v.functions ≡ u.functions → v.signatures ≡ u.signatures → Continued x u → Continued w v
in_scope w x u v a b c d e f k = continued_then w x v (all_same w x a b c) (continued_then x u v k (all_same u v d e f))

continued : {may : Changes} (w v : World) → Reaches may w v → Continued w v
continued w v (stays _) = all_same w w refl refl refl
continued w v (after _ u _ r s) = continued_then w u v (continued w u r) (continued u v s)
continued w v (named _ at name meaning f h) = all_same w _ refl refl refl
continued w v (literal _ at bytes small) = same_functions w _ refl refl (keep_append objects_order w.objects _)
continued w v (struct _ tag) = all_same w _ refl refl refl
continued w v (new_struct _ tag d) = all_same w _ refl refl refl
continued w v (enumeration _ tag d) = all_same w _ refl refl refl
continued w v (tag_changed _ tag at meaning f) = all_same w _ refl refl refl
continued w v (body _ u x n members r begun s are sound) = continued_then w u _ (continued w u r) (continued_then u x _ (continued u x s) (all_same x _ refl refl refl))
continued w v (opens _) = all_same w _ refl refl refl
continued w v (scoped _ u r) = in_scope w _ u _ refl refl refl refl refl refl (continued _ u r)
continued w v (object _ x) = same_functions w _ refl refl (keep_append objects_order w.objects _)
continued w v (counted _ size) = all_same w _ refl refl refl
continued w v (reaches.sized _ n ty size h) =
    same_functions w _ refl refl (keep_change objects_order w.objects n (sized_object ty size) (λ x there. record { name = refl; pos = refl; ty = h x there; read_only = refl; is_static = refl }) _ refl)
continued w v (initial _ n bytes) = all_same w _ refl refl refl
continued w v (linked _ name meaning d f) = all_same w _ refl refl refl
continued w v (defined _ name now) = all_same w _ refl refl refl
continued w v (retyped _ name ty c) = all_same w _ refl refl refl
continued w v (parameters _ params) = same_functions w _ refl refl (keep_append objects_order w.objects _)
continued w v (function _ told types f e none) = same_objects w _ refl (keep_append functions_order w.functions _) (keep_append signatures_order w.signatures _)
continued w v (function_changed _ n change f) = same_objects w _ refl (keep_change functions_order w.functions n change (λ y there. f y) _ refl) (keep_all signatures_order w.signatures)
continued w v (labelled _ labels) = all_same w _ refl refl refl
continued w v (cased _ cases default) = all_same w _ refl refl refl
continued w v (in_body _ u x first names tags r aside f s) = continued_then w u _ (continued w u r) (in_scope u _ x _ refl refl refl refl refl refl (continued _ x s))

is_some_and : {A : Type 0} {R : A → A → Type 0} (x : A) (ys : List A) (k : ℕ) → At R x ys k → IsSomeAnd (slice_get ys k) (R x)
is_some_and {R = R} x ys k a = subst (λ o. IsSomeAnd o (R x)) (sym a.there) a.related

pub reached : {w v : World} {A : Type 0} {a : A} → Goes Any w (Typed a v) → Reaches Any w v
reached (typed r) = r

-- ---- structs

pub nothing_good : Good nothing_yet
nothing_good = record { incomplete = λ n p. absurd p; distinct = tt; made = made_nothing; sound = sound_nothing; formed = record { names = All-nil (λ b. IsFormedMeaning [] b.meaning); tags = All-nil (λ b. IsFormedTag [] b.meaning) } }

-- a world that declarations reach is good
pub good_after : (w : World) (around : Context) (list : List OuterTree) → TypesOuters nothing_yet around list (Typed tt w) → Good w
good_after w around list t = (kept nothing_yet w (reached (outers nothing_yet around list nothing_good _ t)) nothing_good).good

-- a complete struct stays as it is, and others keep their tags
same_struct : (w v : World) → Good w → Frame w v → (n : ℕ) (def : StructDefTree) → slice_get w.structs n ≡ Some def → IsSomeAnd (slice_get v.structs n) (IsSameStruct def)
same_struct w v good f n def e =
    let now = f.tags n def e in subst (λ o. IsSomeAnd o (IsSameStruct def)) (sym now.1) (record {
      tag = sym now.2;
      whole = λ c.
          let shut = complete_shut w good n (ap (λ o. has_members (unwrap_or (option_map (λ d. d.members) o) [])) e ∙ c) in
          same_Some def now.0 (sym (f.same n def e shut) ∙ now.1);
    })

pub typing_adds : TypingAdds
typing_adds around before behind w v s t =
    let good = good_after w around before s in
    let r = reached (outers w around behind good _ t) in
    let k = continued w v r in record {
      objects = λ n x e. is_some_and x v.objects n (k.objects n x e);
      functions = λ n f e. is_some_and f v.functions n (k.functions n f e);
      signatures = λ n types e. let at = k.signatures n types e in at.there ∙ ap Some (sym at.related);
      structs = same_struct w v good (kept w v r good).frame;
    }

pub structs_are_typed : StructsAreTyped
structs_are_typed around list w t = let good = good_after w around list t in typed_table w.structs good.made good.sound
