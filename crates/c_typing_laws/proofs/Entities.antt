-- What a name of the file is linked to stands in the program: an object of static duration, or a function.
use Rattle.std.proofs.Common.{◌≡◌, ℕ, true, false, List, [], ◌∷◌, ◌++◌, refl, ap, sym, subst, ◌∙◌}
use Rattle.std.specs.Prelude.{Bool, ◌&&◌, if◌then◌else◌, IsTrue, IsSome, is_some, Option, None, Some, IsSomeAnd, All, map, slice_get, bytes_eq}
use Rattle.std.proofs.lemmas.Bool.{false≢true}
use Rattle.std.proofs.lemmas.List.Elements.{All-push, All-weaker, All-map}
use Rattle.c_syntax_written.specs.declared.written.StorageWord.{StorageWord}
use Rattle.c_syntax_written.specs.WrittenDecl.{InitTree}
use Rattle.c_syntax.specs.Types.{CTypeTree, ObjectTree}
use Rattle.c_syntax.specs.Program.{TFunctionTree}
use Rattle.c_typing.specs.World.{World, Form, Meaning, Object, Missing, Parameter, Function, TypeName, Enumeration, Linked}
use Rattle.c_typing.specs.Names.{with_initial}
use Rattle.c_typing.specs.Declarators.{DeclaredName, ParameterTree, Step}
use Rattle.c_typing.specs.Context.{Context, has_name}
use Rattle.c_typing.specs.Inits.{Initialised, static_bytes}
use Rattle.c_typing.specs.Decls.{Declares, ObjectNow, Made, new_function, with_static, size_or_zero, defined_if, missing_if, file_object_of}
use Rattle.c_typing.proofs.MadeTables.{get_last}
use Rattle.c_typing_laws.specs.NameSteps.{MakesName, type_name, reserved, first_function, function_again, local, local_open, first_object, first_missing, object_again, missing_again}
use Rattle.c_typing_laws.specs.DeclSteps.{MakesSize, as_it_was, by_count, MakesInit, no_object, bare, given}
use Rattle.c_typing_laws.proofs.Calm.{calm}
use Rattle.c_typing_laws.proofs.StepSteady.{init_calm}
use Rattle.c_typing.proofs.Good.{Good}
use Rattle.c_typing_laws.proofs.Keeps.{IsKept}
use Rattle.c_typing_laws.proofs.Onward.{Onward, onward}

abbrev pub IsEntity : World → Meaning → Type 0
IsEntity w (Object n) = IsSomeAnd (slice_get w.objects n) (λ x. IsTrue x.is_static)
IsEntity w (Missing ty c) = Unit {0}
IsEntity w (Parameter k ty c) = ⊥
IsEntity w (Function n) = IsSome (slice_get w.functions n)
IsEntity w (TypeName form) = Unit {0}
IsEntity w (Enumeration n) = Unit {0}

abbrev pub AreEntities : World → Type 0
AreEntities w = All (λ l. IsEntity w l.meaning) w.linked

static_onward : (w v : World) → Onward w v → (n : ℕ) → IsSomeAnd (slice_get w.objects n) (λ x. IsTrue x.is_static) → IsSomeAnd (slice_get v.objects n) (λ x. IsTrue x.is_static)
static_onward w v on n h = by (slice_get w.objects n) refl h
  where
    by : (o : Option ObjectTree) → slice_get w.objects n ≡ o → IsSomeAnd o (λ x. IsTrue x.is_static) → IsSomeAnd (slice_get v.objects n) (λ x. IsTrue x.is_static)
    by None e t = absurd t
    by (Some x) e t = let y = on.objects n x e in subst (λ o. IsSomeAnd o (λ z. IsTrue z.is_static)) (sym y.1) (sym y.2.is_static ∙ t)

pub function_onward : (w v : World) → Onward w v → (n : ℕ) → IsSome (slice_get w.functions n) → IsSome (slice_get v.functions n)
function_onward w v on n h = by (slice_get w.functions n) refl h
  where
    by : (o : Option TFunctionTree) → slice_get w.functions n ≡ o → is_some o ≡ true → is_some (slice_get v.functions n) ≡ true
    by None e t = absurd (false≢true t)
    by (Some f) e t = let g = on.functions n f e in ap is_some g.1

pub entity_onward : (w v : World) → Onward w v → (m : Meaning) → IsEntity w m → IsEntity v m
entity_onward w v on (Object n) h = static_onward w v on n h
entity_onward w v on (Missing ty c) h = h
entity_onward w v on (Parameter k ty c) h = h
entity_onward w v on (Function n) h = function_onward w v on n h
entity_onward w v on (TypeName form) h = h
entity_onward w v on (Enumeration n) h = h

-- links that stay
links_onward : (w v : World) → Onward w v → (linked : List Linked) → All (λ l. IsEntity w l.meaning) linked → All (λ l. IsEntity v l.meaning) linked
links_onward w v on linked all = All-weaker (λ l. IsEntity w l.meaning) (λ l. IsEntity v l.meaning) (λ l h. entity_onward w v on l.meaning h) linked all

pub same_links : (w v : World) → Onward w v → v.linked ≡ w.linked → AreEntities w → AreEntities v
same_links w v on e all = subst (All (λ l. IsEntity v l.meaning)) (sym e) (links_onward w v on w.linked all)

more_links : (w v : World) (l : Linked) → Onward w v → IsEntity v l.meaning → AreEntities w → All (λ k. IsEntity v k.meaning) (w.linked ++ l ∷ [])
more_links w v l on h all = All-push (λ k. IsEntity v k.meaning) w.linked l (links_onward w v on w.linked all) h

pub new_links : (w : World) (named : DeclaredName) (later : Bool) (params : List ParameterTree) (types : List CTypeTree) (result : CTypeTree) → Onward w (new_function w named later params types result) → AreEntities w
    → AreEntities (new_function w named later params types result)
new_links w named true params types result on all = more_links w (new_function w named true params types result) _ on (ap is_some (get_last w.functions _)) all
new_links w named false params types result on all = more_links w (new_function w named false params types result) _ on (ap is_some (get_last w.functions _)) all

defined_links : (v : World) (now : Bool) (name : List ℕ) (linked : List Linked) → All (λ l. IsEntity v l.meaning) linked → All (λ l. IsEntity v l.meaning) (map (defined_if now name) linked)
defined_links v now name linked all =
    All-map (λ l. IsEntity v l.meaning) (defined_if now name) linked
    (All-weaker (λ l. IsEntity v l.meaning) (λ l. IsEntity v (defined_if now name l).meaning) (λ l h. by l (now && bytes_eq l.name name) h) linked all)
  where
    by : (l : Linked) (b : Bool) → IsEntity v l.meaning → IsEntity v (if b then record l { defined = true } else l).meaning
    by l true h = h
    by l false h = h

missing_links : (v : World) (name : List ℕ) (ty : CTypeTree) (c : Bool) (linked : List Linked) → All (λ l. IsEntity v l.meaning) linked → All (λ l. IsEntity v l.meaning) (map (missing_if name ty c) linked)
missing_links v name ty c linked all =
    All-map (λ l. IsEntity v l.meaning) (missing_if name ty c) linked
    (All-weaker (λ l. IsEntity v l.meaning) (λ l. IsEntity v (missing_if name ty c l).meaning) (λ l h. by l (bytes_eq l.name name) h) linked all)
  where
    by : (l : Linked) (b : Bool) → IsEntity v l.meaning → IsEntity v (if b then record l { meaning = Missing ty c } else l).meaning
    by l true h = tt
    by l false h = h

pub name_links :
    {around : Context} {w v : World} {storage : List StorageWord} {steps : List Step} {base : Form} {has_init : Bool} {named : DeclaredName} {what : Declares}
    → MakesName around w storage steps base has_init named what v → Onward w v → AreEntities w → AreEntities v
name_links {w = w} {v = v} (type_name form d e) on all = same_links w v on refl all
name_links {w = w} {v = v} (reserved y) on all = same_links w v on refl all
name_links {around = around} {w = w} {named = named} (first_function types result r e n) on all = new_links w named (has_name around.functions named.name) _ types result on all
name_links {w = w} {v = v} (function_again types result l n so) on all = same_links w v on refl all
name_links {w = w} {v = v} (local ty c st size i e h) on all = same_links w v on refl all
name_links {w = w} {v = v} (local_open of c st i e h) on all = same_links w v on refl all
name_links {w = w} {v = v} (first_object form ty c m size total r e is n h z) on all =
    more_links w v _ on (subst (λ o. IsSomeAnd o (λ x. IsTrue x.is_static)) (sym (get_last w.objects _)) refl) all
name_links {w = w} {v = v} (first_missing ty c total r n h) on all = more_links w v _ on tt all
name_links {around = around} {w = w} {v = v} {storage = storage} {has_init = has_init} {named = named} (object_again form ty c m l n size total e is k q a z) on all =
    defined_links v (file_object_of around storage named.name has_init).defines named.name w.linked (links_onward w v on w.linked all)
name_links {w = w} {v = v} {named = named} (missing_again ty before c l size total d k q) on all =
    defined_links v d named.name _ (missing_links v named.name ty c w.linked (links_onward w v on w.linked all))

static_linked : (w : World) (object : ObjectNow) (ty : CTypeTree) (by : Initialised) → (with_static w object ty by).linked ≡ w.linked
static_linked w object ty by = at object.is_static
  where
    at : (b : Bool) → (if b then with_initial w object.number (static_bytes w.objects (size_or_zero w ty) by.items) else w).linked ≡ w.linked
    at true = refl
    at false = refl

size_linked : {w v : World} {object : ObjectNow} {by : Initialised} {ty : CTypeTree} → MakesSize w object by ty v → v.linked ≡ w.linked
size_linked (as_it_was m) = refl
size_linked (by_count m c t) = refl

pub init_linked : {w v : World} {what : Declares} {init : Option InitTree} {made : Made} → Good w → MakesInit w what init made v → v.linked ≡ w.linked
init_linked good no_object = refl
init_linked good bare = refl
init_linked {w = w} good (given {u = u} {v = v} {object = object} {init = init} {by = by} {ty = ty} t s) =
    static_linked v object ty by ∙ size_linked s ∙ (calm w u (init_calm object init by good t)).linked

pub entities_kept : (functions objects : List (List ℕ)) → IsKept functions objects AreEntities
entities_kept functions objects = record {
  calm = λ w v good r all. same_links w v (onward w v r) (calm w v r).linked all;
  declared = λ around w v x storage steps base has_init named what init made f o h good s b t z n good2 is m r q all.
      same_links v x (onward v x q) (init_linked good2 m) (name_links n (onward w v r) all);
  moved = λ w v same all. subst (λ linked. All (λ l. IsEntity v l.meaning) linked) (sym same.linked)
      (All-weaker (λ l. IsEntity w l.meaning) (λ l. IsEntity v l.meaning) (λ l h. moved_entity w v same.objects same.functions l.meaning h) w.linked all);
}
  where
    moved_entity : (w v : World) → v.objects ≡ w.objects → v.functions ≡ w.functions → (m : Meaning) → IsEntity w m → IsEntity v m
    moved_entity w v o f (Object n) h = subst (λ objects. IsSomeAnd (slice_get objects n) (λ x. IsTrue x.is_static)) (sym o) h
    moved_entity w v o f (Missing ty c) h = h
    moved_entity w v o f (Parameter k ty c) h = h
    moved_entity w v o f (Function n) h = ap (λ functions. is_some (slice_get functions n)) f ∙ h
    moved_entity w v o f (TypeName form) h = h
    moved_entity w v o f (Enumeration n) h = h
