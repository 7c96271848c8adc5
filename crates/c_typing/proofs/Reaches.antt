-- How a world goes on: each change that typing makes, and what parts of the text it makes it for.
use Rattle.std.proofs.Common.{◌≡◌, refl, ap, sym, subst, ◌∙◌}
use Rattle.std.specs.Prelude.{ℕ, ◌+◌, ◌≤◌, slice_get, Bool, true, false, if◌then◌else◌, Option, None, Some, List, [], ◌∷◌, ◌++◌, map, take, length, All}
use Rattle.c_syntax_written.specs.declared.place.Pos.{Pos}
use Rattle.c_syntax_written.specs.declared.written.Tag.{Tag}
use Rattle.c_syntax.specs.Types.{CTypeTree}
use Rattle.std.proofs.lemmas.List.{append-nil, append_assoc, take_at}
use Rattle.std.proofs.lemmas.List.Elements.{All-nil, All-push, All-append, All-map, All-weaker}
use Rattle.c_syntax.specs.Program.{MemberTree, StructDefTree}
use Rattle.c_typing.proofs.Changes.{Changes, Constants, Names, Any, within, MayName}
use Rattle.c_typing.specs.World as world
use Rattle.c_typing.specs.World.{World, Meaning, Object, Missing, Parameter, TypeName, Enumeration, TagMeaning, OpenEnumTag, Outcome, Typed, Refused, Refusal, Then, goes_on, stops, Is, unless}
use Rattle.c_typing.specs.Names.{linked_as, opened, closed, with_name, with_struct, with_tag, with_tag_become, with_members, with_literal, with_initial, object_limit}
use Rattle.c_syntax.specs.declared.program.InitByte.{InitByte}
use Rattle.c_syntax.specs.Types.{ObjectTree}
use Rattle.c_syntax.specs.Program.{TFunctionTree}
use Rattle.c_typing.specs.World.{Binding, TagBinding, Linked, Labelled, CaseAt}
use Rattle.c_typing.specs.Declarators.{DeclaredName, ParameterTree}
use Rattle.c_typing.specs.Decls as decls
use Rattle.c_typing.specs.File as files
use Rattle.c_typing.specs.Laws.{IsSameFunction, IsLastType}
use Rattle.c_typing.specs.Formed.{IsFormedMeaning, IsFormedTag}
use Rattle.c_typing.proofs.MadeTables.{AreMade, get_append}
use Rattle.c_typing.proofs.SoundTables.{AreSound}
use Rattle.c_typing.proofs.Good.{Good, Frame, IsBegun, IsAside, with_new, frame_then, frame_same, frame_struct, frame_new, frame_enum, frame_changed, frame_closed, frame_body, frame_in, frame_shut, good_same, good_named, good_struct, good_new, good_enum, good_changed, good_closed, good_body, good_in}

-- one world is had from another by the changes that typing makes, among them, where that is told, that an array gets its size
pub data Reaches : Changes → World → World → Type 0 where
  stays : {may : Changes} (w : World) → Reaches may w w
  after : {may : Changes} (u v w : World) → Reaches may u v → Reaches may v w → Reaches may u w
  named : {may : Changes} (w : World) (at : Pos) (name : List ℕ) (meaning : Meaning) → IsFormedMeaning w.structs meaning → MayName may meaning → Reaches may w (with_name w at name meaning)
  literal : {may : Changes} (w : World) (at : Pos) (bytes : List ℕ) → length bytes + 1 ≤ object_limit → Reaches may w (with_literal w at bytes)
  struct : {may : Changes} (w : World) (tag : List ℕ) → Reaches may w (with_struct w tag)
  new_struct : {may : Changes} (w : World) (tag : Tag) (defined : Option Pos) → Reaches may w (with_new w tag defined)
  enumeration : {may : Changes} (w : World) (tag : Tag) (defined : Option Pos) → Reaches may w (with_tag w tag defined OpenEnumTag)
  tag_changed : {may : Changes} (w : World) (tag : List ℕ) (at : Pos) (meaning : TagMeaning) → IsFormedTag w.structs meaning → Reaches may w (with_tag_become w tag (Some at) meaning)
  body : {may : Changes} (u w v : World) (n : ℕ) (members : List MemberTree) → Reaches may u w → IsBegun u w n → Reaches may w v → AreMade v.structs members → AreSound v.structs members → Reaches may u (with_members v n members)
  opens : {may : Changes} (w : World) → Reaches may w (opened w)
  scoped : {may : Changes} (u v : World) → Reaches (within may) (opened u) v → Reaches may u (closed u v)
  object : (w : World) (x : ObjectTree) → Reaches Any w (decls.with_object w x)
  counted : (w : World) (size : ℕ) → Reaches Any w (decls.with_total w size)
  sized : (w : World) (n : ℕ) (ty : CTypeTree) (size : ℕ) → ((x : ObjectTree) → slice_get w.objects n ≡ Some x → IsLastType x.ty ty) → Reaches Any w (decls.with_sized w n ty size)
  initial : (w : World) (n : ℕ) (bytes : List InitByte) → Reaches Any w (with_initial w n bytes)
  linked : (w : World) (named : DeclaredName) (meaning : Meaning) (defined : Bool) → IsFormedMeaning w.structs meaning → Reaches Any w (decls.with_linked w named meaning defined)
  defined : (w : World) (name : List ℕ) (now : Bool) → Reaches Any w (decls.with_defined w name now)
  retyped : (w : World) (name : List ℕ) (ty : CTypeTree) (is_const : Bool) → Reaches Any w (record w { linked = map (decls.missing_if name ty is_const) w.linked })
  parameters : (w : World) (params : List ParameterTree) → Reaches Any w (decls.with_parameters w params)
  function :
      (w : World) (named : DeclaredName) (types : List CTypeTree) (f : TFunctionTree) → f.name ≡ named.name → linked_as w named.name ≡ None
      → Reaches Any w (decls.with_linked (decls.with_function_entry w types f) named (world.Function (length w.functions)) false)
  function_changed : (w : World) (n : ℕ) (change : TFunctionTree → TFunctionTree) → ((f : TFunctionTree) → IsSameFunction f (change f)) → Reaches Any w (files.with_function_at w n change)
  labelled : (w : World) (labels : List Labelled) → Reaches Any w (record w { labels = labels })
  cased : (w : World) (cases : List CaseAt) (default : Option Pos) → Reaches Any w (record w { cases = cases; default = default })
  in_body : (t u v : World) (first : ℕ) (names : List Binding) (tags : List TagBinding) → Reaches Any t u → IsAside t u tags → All (λ b. IsFormedMeaning u.structs b.meaning) names → Reaches Any (files.in_body u first names tags) v → Reaches Any t (record (closed u v) { labels = []; cases = []; default = None })

-- a world that is reached is good, and keeps the structs of the one before
pub record Kept (w v : World) : Type 0 where
  pub good : Good v
  pub frame : Frame w v

kept_same : (w v : World) → v.structs ≡ w.structs → v.tags ≡ w.tags → v.names ≡ w.names → Good w → Kept w v
kept_same w v s t n good = record { good = good_same w v s t n good; frame = frame_same w v s t }

as_object : (structs : List StructDefTree) (first : ℕ) (m : Meaning) → IsFormedMeaning structs m → IsFormedMeaning structs (files.as_object first m)
as_object structs first (Object n) f = f
as_object structs first (Missing ty c) f = f
as_object structs first (Parameter k ty c) f = tt
as_object structs first (world.Function n) f = f
as_object structs first (TypeName form) f = f
as_object structs first (Enumeration n) f = f

-- the names of a parameter list as those of its objects
pub as_objects :
    (structs : List StructDefTree) (first : ℕ) (names : List Binding) → All (λ b. IsFormedMeaning structs b.meaning) names
    → All (λ b. IsFormedMeaning structs b.meaning) (map (files.with_object_meaning first) names)
as_objects structs first names all =
    All-map (λ b. IsFormedMeaning structs b.meaning) (files.with_object_meaning first) names
    (All-weaker (λ b. IsFormedMeaning structs b.meaning) (λ b. IsFormedMeaning structs (files.with_object_meaning first b).meaning) (λ b f. as_object structs first b.meaning f) names all)

pub kept : {may : Changes} (w v : World) → Reaches may w v → Good w → Kept w v
kept w v (stays _) good = kept_same w w refl refl refl good
kept w v (after _ u _ r s) good =
    let one = kept w u r good in let two = kept u v s one.good in record { good = two.good; frame = frame_then w u v one.frame two.frame }
kept w v (named _ at name meaning f m) good = record { good = good_named w at name meaning f good; frame = frame_same w _ refl refl }
kept w v (literal _ at bytes small) good = kept_same w _ refl refl refl good
kept w v (struct _ tag) good = record { good = good_struct w tag good; frame = frame_struct w tag }
kept w v (new_struct _ tag d) good = record { good = good_new w tag d good; frame = frame_new w tag d }
kept w v (enumeration _ tag d) good = record { good = good_enum w tag d good; frame = frame_enum w tag d }
kept w v (tag_changed _ tag at m f) good = record { good = good_changed w tag at m f good; frame = frame_changed w tag at m }
kept w v (body _ u x n members r begun s are sound) good =
    let one = kept w u r good in let two = kept u x s one.good in record {
      good = good_body w u x n members begun two.frame two.good are sound;
      frame = frame_body w x n members begun.from (frame_then w u x one.frame two.frame);
    }
kept w v (opens _) good = kept_same w _ refl refl refl good
kept w v (scoped _ u r) good =
    let inner = kept (opened w) u r (good_same w _ refl refl refl good) in record { good = good_closed w u inner.good; frame = frame_closed w u inner.frame }
kept w v (object _ x) good = kept_same w _ refl refl refl good
kept w v (counted _ size) good = kept_same w _ refl refl refl good
kept w v (sized _ n ty size h) good = kept_same w _ refl refl refl good
kept w v (initial _ n bytes) good = kept_same w _ refl refl refl good
kept w v (linked _ x meaning d f) good = record { good = good_same (with_name w x.pos x.name meaning) _ refl refl refl (good_named w x.pos x.name meaning f good); frame = frame_same w _ refl refl }
kept w v (defined _ name now) good = kept_same w _ refl refl refl good
kept w v (retyped _ name ty c) good = kept_same w _ refl refl refl good
kept w v (parameters _ params) good = kept_same w _ refl refl refl good
kept w v (function _ told types f e none) good = record {
  good = good_same (with_name w told.pos told.name (world.Function (length w.functions))) _ refl refl refl
      (good_named w told.pos told.name (world.Function (length w.functions)) tt good);
  frame = frame_same w _ refl refl;
}
kept w v (function_changed _ n change f) good = kept_same w _ refl refl refl good
kept w v (labelled _ labels) good = kept_same w _ refl refl refl good
kept w v (cased _ cases default) good = kept_same w _ refl refl refl good
kept w v (in_body _ u x first names tags r aside f s) good =
    let one = kept w u r good in
    let frame = frame_in w u (files.in_body u first names tags) tags refl refl aside one.frame in
    let two = kept (files.in_body u first names tags) x s (good_in w u _ (map (files.with_object_meaning first) names) tags refl refl refl (as_objects u.structs first names f) aside one.good) in record {
      good = good_same (closed u x) _ refl refl refl (good_closed u x two.good);
      frame = frame_then w (closed u x) _ (frame_shut w u x (frame_then w (files.in_body u first names tags) x frame two.frame)) (frame_same (closed u x) _ refl refl);
    }

-- each object of the one stands in the other as it is
abbrev pub IsPrefix : World → World → Type 0
IsPrefix w v = (n : ℕ) (x : ObjectTree) → slice_get w.objects n ≡ Some x → slice_get v.objects n ≡ Some x

-- objects and functions stay as they are, and names are declared behind those that stand there
pub record IsStill (P : Meaning → Type 0) (w v : World) : Type 0 where
  pub objects : IsPrefix w v
  pub extra : List Binding
  pub names : v.names ≡ w.names ++ extra
  pub declared : All (λ b. P b.meaning) extra
  pub functions : v.functions ≡ w.functions
  pub signatures : v.signatures ≡ w.signatures

-- so it is where not any change may be made
abbrev pub IsQuiet : Changes → World → World → Type 0
IsQuiet Constants w v = IsStill (MayName Constants) w v
IsQuiet Names w v = IsStill (MayName Names) w v
IsQuiet Any w v = Unit {0}

still_more :
    (P : Meaning → Type 0) (w v : World) (rest : List ObjectTree) → v.objects ≡ w.objects ++ rest → v.names ≡ w.names → v.functions ≡ w.functions → v.signatures ≡ w.signatures → IsStill P w v
still_more P w v rest o n f s = record {
  objects = λ k x there. ap (λ objects. slice_get objects k) o ∙ get_append w.objects rest k x there;
  extra = [];
  names = n ∙ sym (append-nil w.names);
  declared = All-nil (λ b. P b.meaning);
  functions = f;
  signatures = s;
}

still_then : (P : Meaning → Type 0) (u v w : World) → IsStill P u v → IsStill P v w → IsStill P u w
still_then P u v w f g = record {
  objects = λ n x there. g.objects n x (f.objects n x there);
  extra = f.extra ++ g.extra;
  names = g.names ∙ ap (λ names. names ++ g.extra) f.names ∙ append_assoc u.names f.extra g.extra;
  declared = All-append (λ b. P b.meaning) f.extra g.extra f.declared g.declared;
  functions = g.functions ∙ f.functions;
  signatures = g.signatures ∙ f.signatures;
}

still_scope : (P Q : Meaning → Type 0) (u v : World) → IsStill Q (opened u) v → IsStill P u (closed u v)
still_scope P Q u v q = record {
  objects = q.objects;
  extra = [];
  names = ap (take (length u.names)) q.names ∙ take_at u.names q.extra (length u.names) refl ∙ sym (append-nil u.names);
  declared = All-nil (λ b. P b.meaning);
  functions = q.functions;
  signatures = q.signatures;
}

quiet_more : (may : Changes) (w v : World) (rest : List ObjectTree) → v.objects ≡ w.objects ++ rest → v.names ≡ w.names → v.functions ≡ w.functions → v.signatures ≡ w.signatures → IsQuiet may w v
quiet_more Constants w v rest o n f s = still_more (MayName Constants) w v rest o n f s
quiet_more Names w v rest o n f s = still_more (MayName Names) w v rest o n f s
quiet_more Any w v rest o n f s = tt

quiet_same : (may : Changes) (w v : World) → v.objects ≡ w.objects → v.names ≡ w.names → v.functions ≡ w.functions → v.signatures ≡ w.signatures → IsQuiet may w v
quiet_same may w v o n f s = quiet_more may w v [] (o ∙ sym (append-nil w.objects)) n f s

quiet_then : (may : Changes) (u v w : World) → IsQuiet may u v → IsQuiet may v w → IsQuiet may u w
quiet_then Constants u v w f g = still_then (MayName Constants) u v w f g
quiet_then Names u v w f g = still_then (MayName Names) u v w f g
quiet_then Any u v w f g = tt

quiet_scope : (may : Changes) (u v : World) → IsQuiet (within may) (opened u) v → IsQuiet may u (closed u v)
quiet_scope Constants u v q = still_scope (MayName Constants) (MayName Names) u v q
quiet_scope Names u v q = still_scope (MayName Names) (MayName Names) u v q
quiet_scope Any u v q = tt

still_named : (P : Meaning → Type 0) (w : World) (at : Pos) (name : List ℕ) (m : Meaning) → P m → IsStill P w (with_name w at name m)
still_named P w at name m h = record {
  objects = λ n x there. there;
  extra = record { name = name; pos = at; meaning = m } ∷ [];
  names = refl;
  declared = All-push (λ b. P b.meaning) [] _ (All-nil (λ b. P b.meaning)) h;
  functions = refl;
  signatures = refl;
}

quiet_named : (may : Changes) (w : World) (at : Pos) (name : List ℕ) (m : Meaning) → MayName may m → IsQuiet may w (with_name w at name m)
quiet_named Constants w at name m h = still_named (MayName Constants) w at name m h
quiet_named Names w at name m h = still_named (MayName Names) w at name m h
quiet_named Any w at name m h = tt

pub quiet : (may : Changes) (w v : World) → Reaches may w v → IsQuiet may w v
quiet may w v (stays _) = quiet_same may w w refl refl refl refl
quiet may w v (after _ u _ r s) = quiet_then may w u v (quiet may w u r) (quiet may u v s)
quiet may w v (named _ at name meaning f h) = quiet_named may w at name meaning h
quiet may w v (literal _ at bytes small) = quiet_more may w _ _ refl refl refl refl
quiet may w v (struct _ tag) = quiet_same may w _ refl refl refl refl
quiet may w v (new_struct _ tag d) = quiet_same may w _ refl refl refl refl
quiet may w v (enumeration _ tag d) = quiet_same may w _ refl refl refl refl
quiet may w v (tag_changed _ tag at m f) = quiet_same may w _ refl refl refl refl
quiet may w v (body _ u x n members r begun s are sound) = quiet_then may w u _ (quiet may w u r) (quiet_then may u x _ (quiet may u x s) (quiet_same may x _ refl refl refl refl))
quiet may w v (opens _) = quiet_same may w _ refl refl refl refl
quiet may w v (scoped _ u r) = quiet_scope may w u (quiet (within may) (opened w) u r)
quiet may w v (object _ x) = tt
quiet may w v (counted _ size) = tt
quiet may w v (sized _ n ty size h) = tt
quiet may w v (initial _ n bytes) = tt
quiet may w v (linked _ x meaning d f) = tt
quiet may w v (defined _ name now) = tt
quiet may w v (retyped _ name ty c) = tt
quiet may w v (parameters _ params) = tt
quiet may w v (function _ told types f e none) = tt
quiet may w v (function_changed _ n change f) = tt
quiet may w v (labelled _ labels) = tt
quiet may w v (cased _ cases default) = tt
quiet may w v (in_body _ u x first names tags r aside f s) = tt

-- what is typed goes on from this world
pub data Goes {A : Type 0} (may : Changes) (w : World) : Outcome A → Type 0 where
  typed : {a : A} {v : World} → Reaches may w v → Goes may w (Typed a v)
  refused : {r : Refusal} → Goes may w (Refused r)

pub goes_same : {may : Changes} {A : Type 0} {w : World} {a : A} → Goes may w (Typed a w)
goes_same = typed (stays _)

pub goes_after : {may : Changes} {A : Type 0} {u v : World} {o : Outcome A} → Reaches may u v → Goes may v o → Goes may u o
goes_after r (typed s) = typed (after _ _ _ r s)
goes_after r refused = refused

pub goes_if : {may : Changes} {A : Type 0} {w : World} (b : Bool) {x y : Outcome A} → Goes may w x → Goes may w y → Goes may w (if b then x else y)
goes_if true p q = p
goes_if false p q = q

pub goes_unless : {may : Changes} {A : Type 0} {w : World} (b : Bool) (r : Refusal) {x : Outcome A} → Goes may w x → Goes may w (unless b r x)
goes_unless b r p = goes_if b refused p

-- every outcome of this kind goes on from the world, where that is good
abbrev pub AllGo : {A : Type 0} → Changes → World → (Outcome A → Type 0) → Type 0
AllGo {A} may w kind = Good w → (o : Outcome A) → kind o → Goes may w o

-- what comes behind a world that is reached
pub with_reached : {may : Changes} {A B : Type 0} {w v : World} {a : A} {o : Outcome B} → Good w → Goes may w (Typed a v) → (Reaches may w v → Good v → Goes may v o) → Goes may w o
with_reached {w = w} {v = v} good (typed r) next = goes_after r (next r (kept w v r good).good)

-- one part and then the next
pub then_goes : {may : Changes} {A B : Type 0} {w : World} {first : Outcome A → Type 0} {next : A → World → Outcome B → Type 0} → AllGo may w first → ((a : A) (v : World) → Reaches may w v → AllGo may v (next a v)) → AllGo may w (Then first next)
then_goes f g good o (goes_on {a = a} {w = v} p s) = with_reached good (f good _ p) (λ r after. g a v r after o s)
then_goes f g good _ (stops p) = refused

-- what comes behind a scope that is closed there
pub with_scope : {may : Changes} {A B : Type 0} {u w v : World} {a : A} {o : Outcome B} → Goes may u (Typed a v) → (Reaches may u v → Goes may w o) → Goes may w o
with_scope (typed r) next = next r

-- a part in a scope of its own, and what closes it
pub scope_goes : {may : Changes} {A B : Type 0} {u w : World} {first : Outcome A → Type 0} {next : A → World → Outcome B → Type 0} → (Good w → Good u) → AllGo may u first → ((a : A) (v : World) → Reaches may u v → AllGo may w (next a v)) → AllGo may w (Then first next)
scope_goes entry f g good o (goes_on {a = a} {w = v} p s) = with_scope (f (entry good) _ p) (λ r. g a v r good o s)
scope_goes entry f g good _ (stops p) = refused

pub is_goes : {may : Changes} {A : Type 0} {w : World} {x : Outcome A} → Goes may w x → AllGo may w (Is x)
is_goes {may = may} {w = w} p good o e = subst (λ z. Goes may w z) (sym e) p

-- the scope that opens in a good world is good
pub enters : {w : World} → Good w → Good (opened w)
enters {w = w} good = (kept {may = Any} w _ (opens w) good).good

-- ---- what is typed and has a property in the world that it leaves

pub data GoesWith {A : Type 0} (may : Changes) (w : World) (P : A → World → Type 0) : Outcome A → Type 0 where
  typed_so : {a : A} {v : World} → Reaches may w v → P a v → GoesWith may w P (Typed a v)
  refused_so : {r : Refusal} → GoesWith may w P (Refused r)

pub forget : {may : Changes} {A : Type 0} {w : World} {P : A → World → Type 0} {o : Outcome A} → GoesWith may w P o → Goes may w o
forget (typed_so r p) = typed r
forget refused_so = refused

pub with_after : {may : Changes} {A : Type 0} {u v : World} {P : A → World → Type 0} {o : Outcome A} → Reaches may u v → GoesWith may v P o → GoesWith may u P o
with_after r (typed_so s p) = typed_so (after _ _ _ r s) p
with_after r refused_so = refused_so

pub with_if : {may : Changes} {A : Type 0} {w : World} {P : A → World → Type 0} (b : Bool) {x y : Outcome A} → GoesWith may w P x → GoesWith may w P y → GoesWith may w P (if b then x else y)
with_if true p q = p
with_if false p q = q

abbrev pub AllWith : {A : Type 0} → Changes → World → (A → World → Type 0) → (Outcome A → Type 0) → Type 0
AllWith {A} may w P kind = Good w → (o : Outcome A) → kind o → GoesWith may w P o

pub all_forget : {may : Changes} {A : Type 0} {w : World} {P : A → World → Type 0} {kind : Outcome A → Type 0} → AllWith may w P kind → AllGo may w kind
all_forget f good o p = forget (f good o p)

pub is_with : {may : Changes} {A : Type 0} {w : World} {P : A → World → Type 0} {x : Outcome A} → (Good w → GoesWith may w P x) → AllWith may w P (Is x)
is_with {may = may} {w = w} {P = P} p good o e = subst (λ z. GoesWith may w P z) (sym e) (p good)

met : {may : Changes} {A B : Type 0} {w v : World} {a : A} {o : Outcome B} {Q : B → World → Type 0} → Good w → Goes may w (Typed a v) → (Reaches may w v → Kept w v → GoesWith may v Q o) → GoesWith may w Q o
met {w = w} {v = v} good (typed r) next = with_after r (next r (kept w v r good))

-- one part and then the next, which has the property
pub then_with :
    {may : Changes} {A B : Type 0} {w : World} {first : Outcome A → Type 0} {next : A → World → Outcome B → Type 0} {Q : B → World → Type 0}
    → AllGo may w first → ((a : A) (v : World) → Reaches may w v → Kept w v → AllWith may v Q (next a v)) → AllWith may w Q (Then first next)
then_with f g good o (goes_on {a = a} {w = v} p s) = met good (f good _ p) (λ r k. g a v r k k.good o s)
then_with f g good _ (stops p) = refused_so

met_so :
    {may : Changes} {A B : Type 0} {w v : World} {a : A} {o : Outcome B} {P : A → World → Type 0} {Q : B → World → Type 0}
    → Good w → GoesWith may w P (Typed a v) → (Reaches may w v → P a v → Kept w v → GoesWith may v Q o) → GoesWith may w Q o
met_so {w = w} {v = v} good (typed_so r p) next = with_after r (next r p (kept w v r good))

-- one part that has a property, and then the next
pub so_with :
    {may : Changes} {A B : Type 0} {w : World} {first : Outcome A → Type 0} {next : A → World → Outcome B → Type 0} {P : A → World → Type 0} {Q : B → World → Type 0}
    → AllWith may w P first → ((a : A) (v : World) → Reaches may w v → P a v → Kept w v → AllWith may v Q (next a v)) → AllWith may w Q (Then first next)
so_with f g good o (goes_on {a = a} {w = v} p s) = met_so good (f good _ p) (λ r q k. g a v r q k k.good o s)
so_with f g good _ (stops p) = refused_so

met_list :
    {may inner : Changes} {A B : Type 0} {u w v : World} {a : A} {o : Outcome B} {P : A → World → Type 0} {Q : B → World → Type 0}
    → Good u → GoesWith inner u P (Typed a v) → (Reaches inner u v → P a v → Kept u v → GoesWith may w Q o) → GoesWith may w Q o
met_list {u = u} {v = v} good (typed_so r p) next = next r p (kept u v r good)

-- the same of a part that has a property, in a scope of its own
pub list_with :
    {may : Changes} {A B : Type 0} {w : World} {first : Outcome A → Type 0} {next : A → World → Outcome B → Type 0} {P : A → World → Type 0} {Q : B → World → Type 0}
    (inner : Changes) (u : World) → (Good w → Good u) → AllWith inner u P first → ((a : A) (v : World) → Reaches inner u v → P a v → Kept u v → AllWith may w Q (next a v)) → AllWith may w Q (Then first next)
list_with inner u entry f g good o (goes_on {a = a} {w = v} p s) = met_list (entry good) (f (entry good) _ p) (λ r q k. g a v r q k good o s)
list_with inner u entry f g good _ (stops p) = refused_so
