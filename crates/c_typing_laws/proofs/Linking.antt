-- A function that a name is linked to stands in the program, by that name.
use Rattle.std.proofs.Common.{◌≡◌, ℕ, true, false, List, [], ◌∷◌, ◌++◌, length, refl, sym, subst}
use Rattle.std.specs.Prelude.{Bool, if◌then◌else◌, Option, None, Some, IsSomeAnd, All, map, slice_get, bytes_eq, ◌&&◌}
use Rattle.std.proofs.lemmas.List.Elements.{All-push, All-weaker, All-map}
use Rattle.c_syntax_written.specs.declared.written.StorageWord.{StorageWord}
use Rattle.c_syntax_written.specs.WrittenDecl.{InitTree}
use Rattle.c_syntax.specs.Types.{CTypeTree}
use Rattle.c_syntax.specs.Program.{TFunctionTree}
use Rattle.c_typing.specs.World.{World, Form, Meaning, Object, Missing, Parameter, Function, TypeName, Enumeration, Linked}
use Rattle.c_typing.specs.Names.{with_initial}
use Rattle.c_typing.specs.Declarators.{DeclaredName, ParameterTree, Step}
use Rattle.c_typing.specs.Inits.{Initialised, static_bytes}
use Rattle.c_typing.specs.Context.{Context, has_name}
use Rattle.c_typing.specs.Decls as decls
use Rattle.c_typing.specs.Decls.{Declares, ObjectNow, Made}
use Rattle.c_typing.proofs.Changes.{Constants}
use Rattle.c_typing.proofs.Good.{Good}
use Rattle.c_typing.proofs.MadeTables.{get_append, get_last}
use Rattle.c_typing.proofs.Reaches.{Reaches, quiet}
use Rattle.c_typing_laws.specs.NameSteps.{MakesName, type_name, reserved, first_function, function_again, local, local_open, first_object, first_missing, object_again, missing_again}
use Rattle.c_typing_laws.specs.DeclSteps.{MakesSize, as_it_was, by_count, MakesInit, no_object, bare, given}
use Rattle.c_typing_laws.proofs.Calm.{calm}
use Rattle.c_typing_laws.proofs.StepSteady.{init_calm}
use Rattle.c_typing_laws.proofs.Keeps.{IsKept}

-- the entity, where it is a function, is that of the name
abbrev pub OfFunction : List TFunctionTree → List ℕ → Meaning → Type 0
OfFunction functions name (Object n) = Unit {0}
OfFunction functions name (Missing ty c) = Unit {0}
OfFunction functions name (Parameter k ty c) = Unit {0}
OfFunction functions name (Function n) = IsSomeAnd (slice_get functions n) (λ f. f.name ≡ name)
OfFunction functions name (TypeName form) = Unit {0}
OfFunction functions name (Enumeration n) = Unit {0}

abbrev pub AreLinked : List TFunctionTree → List Linked → Type 0
AreLinked functions linked = All (λ l. OfFunction functions l.name l.meaning) linked

abbrev pub IsLinking : World → Type 0
IsLinking w = AreLinked w.functions w.linked

some_later : (xs ys : List TFunctionTree) (n : ℕ) (name : List ℕ) (o : Option TFunctionTree) → slice_get xs n ≡ o → IsSomeAnd o (λ f. f.name ≡ name) → IsSomeAnd (slice_get (xs ++ ys) n) (λ f. f.name ≡ name)
some_later xs ys n name None e h = absurd h
some_later xs ys n name (Some f) e h = subst (λ o. IsSomeAnd o (λ g. g.name ≡ name)) (sym (get_append xs ys n f e)) h

of_later : (xs ys : List TFunctionTree) (name : List ℕ) (m : Meaning) → OfFunction xs name m → OfFunction (xs ++ ys) name m
of_later xs ys name (Object n) h = h
of_later xs ys name (Missing ty c) h = h
of_later xs ys name (Parameter k ty c) h = h
of_later xs ys name (Function n) h = some_later xs ys n name (slice_get xs n) refl h
of_later xs ys name (TypeName form) h = h
of_later xs ys name (Enumeration n) h = h

pub linked_later : (xs ys : List TFunctionTree) (linked : List Linked) → AreLinked xs linked → AreLinked (xs ++ ys) linked
linked_later xs ys linked all = All-weaker (λ l. OfFunction xs l.name l.meaning) (λ l. OfFunction (xs ++ ys) l.name l.meaning) (λ l h. of_later xs ys l.name l.meaning h) linked all

same_linked : (w v : World) → v.functions ≡ w.functions → v.linked ≡ w.linked → IsLinking w → IsLinking v
same_linked w v f l all = subst (λ x. AreLinked v.functions x) (sym l) (subst (λ x. AreLinked x w.linked) (sym f) all)

-- ---- names

with_one : (w : World) (l : Linked) → OfFunction w.functions l.name l.meaning → IsLinking w → AreLinked w.functions (w.linked ++ l ∷ [])
with_one w l h all = All-push (λ k. OfFunction w.functions k.name k.meaning) w.linked l all h

new_linked : (w : World) (f : TFunctionTree) (l : Linked) → l.meaning ≡ Function (length w.functions) → f.name ≡ l.name → IsLinking w → AreLinked (w.functions ++ f ∷ []) (w.linked ++ l ∷ [])
new_linked w f l m n all =
    All-push (λ k. OfFunction (w.functions ++ f ∷ []) k.name k.meaning) w.linked l (linked_later w.functions (f ∷ []) w.linked all)
    (subst (λ x. OfFunction (w.functions ++ f ∷ []) l.name x) (sym m) (subst (λ o. IsSomeAnd o (λ g. g.name ≡ l.name)) (sym (get_last w.functions f)) n))

pub function_linked : (w : World) (named : DeclaredName) (later : Bool) (params : List ParameterTree) (types : List CTypeTree) (result : CTypeTree)
    → IsLinking w → IsLinking (decls.new_function w named later params types result)
function_linked w named true params types result all = new_linked w _ _ refl refl all
function_linked w named false params types result all = new_linked w _ _ refl refl all

defined_linked : (w : World) (name : List ℕ) (now : Bool) → IsLinking w → AreLinked w.functions (map (decls.defined_if now name) w.linked)
defined_linked w name now all =
    All-map (λ l. OfFunction w.functions l.name l.meaning) (decls.defined_if now name) w.linked
    (All-weaker (λ l. OfFunction w.functions l.name l.meaning) (λ l. OfFunction w.functions (decls.defined_if now name l).name (decls.defined_if now name l).meaning)
    (λ l h. by l (now && bytes_eq l.name name) h) w.linked all)
  where
    by : (l : Linked) (b : Bool) → OfFunction w.functions l.name l.meaning
        → OfFunction w.functions (if b then record l { defined = true } else l).name (if b then record l { defined = true } else l).meaning
    by l true h = h
    by l false h = h

missing_linked : (w : World) (name : List ℕ) (ty : CTypeTree) (c : Bool) → IsLinking w → AreLinked w.functions (map (decls.missing_if name ty c) w.linked)
missing_linked w name ty c all =
    All-map (λ l. OfFunction w.functions l.name l.meaning) (decls.missing_if name ty c) w.linked
    (All-weaker (λ l. OfFunction w.functions l.name l.meaning) (λ l. OfFunction w.functions (decls.missing_if name ty c l).name (decls.missing_if name ty c l).meaning)
    (λ l h. by l (bytes_eq l.name name) h) w.linked all)
  where
    by : (l : Linked) (b : Bool) → OfFunction w.functions l.name l.meaning
        → OfFunction w.functions (if b then record l { meaning = Missing ty c } else l).name (if b then record l { meaning = Missing ty c } else l).meaning
    by l true h = tt
    by l false h = h

name_linked :
    {around : Context} {w v : World} {storage : List StorageWord} {steps : List Step} {base : Form} {has_init : Bool} {named : DeclaredName} {what : Declares}
    → MakesName around w storage steps base has_init named what v → IsLinking w → IsLinking v
name_linked (type_name form d e) all = all
name_linked (reserved y) all = all
name_linked {around = around} {w = w} {named = named} (first_function types result r e n) all = function_linked w named (has_name around.functions named.name) _ types result all
name_linked (function_again types result l n so) all = all
name_linked (local ty c s size b e h) all = all
name_linked (local_open of c s b e h) all = all
name_linked {w = w} (first_object form ty c m size total r e is n h s) all = with_one w _ tt all
name_linked {w = w} (first_missing ty c total r n h) all = with_one w _ tt all
name_linked {w = w} {named = named} (object_again form ty c m l n size total e is k q a s) all = defined_linked w named.name _ all
name_linked {w = w} {named = named} (missing_again ty before c l size total d k q) all =
    defined_linked (record w { linked = map (decls.missing_if named.name ty c) w.linked }) named.name d (missing_linked w named.name ty c all)

size_linked : {w v : World} {object : ObjectNow} {by : Initialised} {ty : CTypeTree} → MakesSize w object by ty v → IsLinking w → IsLinking v
size_linked (as_it_was m) all = all
size_linked (by_count m c t) all = all

static_linked : (w : World) (object : ObjectNow) (ty : CTypeTree) (by : Initialised) → IsLinking w → IsLinking (decls.with_static w object ty by)
static_linked w object ty by all = at object.is_static
  where
    at : (b : Bool) → IsLinking (if b then with_initial w object.number (static_bytes w.objects (decls.size_or_zero w ty) by.items) else w)
    at true = all
    at false = all

calm_linked : (w v : World) → Reaches Constants w v → IsLinking w → IsLinking v
calm_linked w v r all = same_linked w v (quiet Constants w v r).functions (calm w v r).linked all

init_linked : {w v : World} {what : Declares} {init : Option InitTree} {made : Made} → Good w → MakesInit w what init made v → IsLinking w → IsLinking v
init_linked good no_object all = all
init_linked good bare all = all
init_linked {w = w} good (given {u = u} {v = v} {object = object} {init = init} {by = by} {ty = ty} t s) all =
    static_linked v object ty by (size_linked s (calm_linked w u (init_calm object init by good t) all))

pub linking_kept : (functions objects : List (List ℕ)) → IsKept functions objects IsLinking
linking_kept functions objects = record {
  calm = λ w v good r all. calm_linked w v r all;
  declared = λ around w v x storage steps base has_init named what init made f o h good s b t z n good2 is m r q all. init_linked good2 m (name_linked n all);
  moved = λ w v same all. same_linked w v same.functions same.linked all;
}
