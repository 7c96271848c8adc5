-- A name that the file defines is defined from there on.
use Rattle.std.proofs.Common.{◌≡◌, ℕ, true, false, List, [], ◌++◌, length, refl, ap, sym, subst, ◌∙◌}
use Rattle.std.specs.Prelude.{Bool, not, ◌&&◌, ◌||◌, if◌then◌else◌, is_some, Option, None, Some, option_map, All, find, flat_map, map, bytes_eq}
use Rattle.std.proofs.lemmas.Bool.{false≢true}
use Rattle.std.proofs.lemmas.List.{append-nil, append_assoc}
use Rattle.std.proofs.lemmas.List.Elements.{All-nil, All-cons, All-append, All-weaker, All-head}
use Rattle.c_syntax_written.specs.declared.place.Pos.{Pos}
use Rattle.c_syntax_written.specs.declared.written.StorageWord.{StorageWord}
use Rattle.c_syntax_written.specs.declared.written.StorageWord.TheVariants.{Typedef, Extern}
use Rattle.c_syntax_written.specs.Written.{SpecTrees}
use Rattle.c_syntax_written.specs.WrittenDecl.{InitTree, InitDeclaratorTree, DeclTree}
use Rattle.c_syntax.specs.Types.{CTypeTree}
use Rattle.c_typing.specs.World.{World, Form, Object, Missing, Function, Linked}
use Rattle.c_typing.specs.Names.{is_reserved, with_initial}
use Rattle.c_typing.specs.Formed.{IsFormedForm}
use Rattle.c_typing.specs.Declarators.{DeclaredName, ParameterTree, Step}
use Rattle.c_typing.specs.Context.{Context, has_name, has_storage, name_in, to_names, is_function_declarator, objects_by}
use Rattle.c_typing.specs.Inits.{Initialised, static_bytes}
use Rattle.c_typing.specs.Decls.{Declares, ObjectNow, Made, new_function, file_object_of, with_static, size_or_zero, is_word, is_function_so, defined_if, missing_if}
use Rattle.c_typing.proofs.Changes.{Constants}
use Rattle.c_typing.proofs.Good.{Good}
use Rattle.c_typing.proofs.Reaches.{Reaches}
use Rattle.c_typing_laws.specs.NameSteps.{MakesName, type_name, reserved, first_function, function_again, local, local_open, first_object, first_missing, object_again, missing_again}
use Rattle.c_typing_laws.specs.DeclSteps as steps
use Rattle.c_typing_laws.specs.DeclSteps.{MakesSize, as_it_was, by_count, MakesInit, no_object, bare, given, MakesDeclarators, one_more, MakesDecl}
use Rattle.c_typing_laws.proofs.Calm.{calm}
use Rattle.c_typing_laws.proofs.Reached.{step_facts, spec_facts}
use Rattle.c_typing_laws.proofs.StepSteady.{init_calm}
use Rattle.c_typing_laws.proofs.Keeps.{IsKept}
use Rattle.c_typing_laws.proofs.Covers.{named_is}
use Rattle.c_typing_laws.proofs.FileLists.{found_name}
use Rattle.c_typing_laws.proofs.Entries.{own_bytes, found_more, found_last, found_mapped, name_if, split_all}
use Rattle.c_typing_laws.proofs.Words.{words_are}

-- the name has an entity, which is defined where it is an object
pub record IsDone (linked : List Linked) (name : List ℕ) : Type 0 where
  pub entry : Linked
  pub there : find (λ l. bytes_eq l.name name) linked ≡ Some entry
  pub done : (n : ℕ) → entry.meaning ≡ Object n → entry.defined ≡ true

-- a reserved name has none
abbrev pub IsDoneName : List Linked → List ℕ → Type 0
IsDoneName linked name = is_reserved name ≡ false → IsDone linked name

abbrev pub AreDone : List (List ℕ) → World → Type 0
AreDone names w = All (IsDoneName w.linked) names

-- ---- entries

done_more : (xs ys : List Linked) (name : List ℕ) → IsDoneName xs name → IsDoneName (xs ++ ys) name
done_more xs ys name d r = let one = d r in record { entry = one.entry; there = found_more (λ l. bytes_eq l.name name) xs ys one.entry one.there; done = one.done }

done_defined : (xs : List Linked) (now : Bool) (other name : List ℕ) → IsDoneName xs name → IsDoneName (map (defined_if now other) xs) name
done_defined xs now other name d r =
    let one = d r in record {
      entry = defined_if now other one.entry;
      there = found_mapped (defined_if now other) (λ l. name_if (now && bytes_eq l.name other) _ l refl) name xs ∙ ap (option_map (defined_if now other)) one.there;
      done = by (now && bytes_eq one.entry.name other) one.entry one.done;
    }
  where
    by : (b : Bool) (l : Linked) → ((n : ℕ) → l.meaning ≡ Object n → l.defined ≡ true) → (n : ℕ) → (if b then record l { defined = true } else l).meaning ≡ Object n → (if b then record l { defined = true } else l).defined ≡ true
    by true l f n e = refl
    by false l f n e = f n e

done_missing : (xs : List Linked) (other : List ℕ) (ty : CTypeTree) (c : Bool) (name : List ℕ) → IsDoneName xs name → IsDoneName (map (missing_if other ty c) xs) name
done_missing xs other ty c name d r =
    let one = d r in record {
      entry = missing_if other ty c one.entry;
      there = found_mapped (missing_if other ty c) (λ l. name_if (bytes_eq l.name other) _ l refl) name xs ∙ ap (option_map (missing_if other ty c)) one.there;
      done = by (bytes_eq one.entry.name other) one.entry one.done;
    }
  where
    no_object : (n : ℕ) → Missing ty c ≡ Object n → ⊥
    no_object n e = cc

    by : (b : Bool) (l : Linked) → ((n : ℕ) → l.meaning ≡ Object n → l.defined ≡ true) → (n : ℕ) → (if b then record l { meaning = Missing ty c } else l).meaning ≡ Object n
        → (if b then record l { meaning = Missing ty c } else l).defined ≡ true
    by true l f n e = absurd (no_object n e)
    by false l f n e = f n e

pub are_more : (names : List (List ℕ)) (xs ys : List Linked) → All (IsDoneName xs) names → All (IsDoneName (xs ++ ys)) names
are_more names xs ys all = All-weaker (IsDoneName xs) (IsDoneName (xs ++ ys)) (λ name d. done_more xs ys name d) names all

pub are_same : (names : List (List ℕ)) (w v : World) → v.linked ≡ w.linked → AreDone names w → AreDone names v
are_same names w v e all = subst (λ linked. All (IsDoneName linked) names) (sym e) all

pub new_done : (names : List (List ℕ)) (w : World) (named : DeclaredName) (later : Bool) (params : List ParameterTree) (types : List CTypeTree) (result : CTypeTree) → AreDone names w
    → AreDone names (new_function w named later params types result)
new_done names w named true params types result all = are_more names w.linked _ all
new_done names w named false params types result all = are_more names w.linked _ all

-- ---- names

name_done :
    {around : Context} {w v : World} {storage : List StorageWord} {steps : List Step} {base : Form} {has_init : Bool} {named : DeclaredName} {what : Declares} (names : List (List ℕ))
    → MakesName around w storage steps base has_init named what v → AreDone names w → AreDone names v
name_done names (type_name form d e) all = all
name_done names (reserved y) all = all
name_done {around = around} {w = w} {named = named} names (first_function types result r e n) all = new_done names w named (has_name around.functions named.name) _ types result all
name_done names (function_again types result l n so) all = all
name_done names (local ty c st size i e h) all = all
name_done names (local_open of c st i e h) all = all
name_done {w = w} names (first_object form ty c m size total r e is n h z) all = are_more names w.linked _ all
name_done {w = w} names (first_missing ty c total r n h) all = are_more names w.linked _ all
name_done {around = around} {w = w} {storage = storage} {has_init = has_init} {named = named} names (object_again form ty c m l n size total e is k q a z) all =
    let now = (file_object_of around storage named.name has_init).defines in
    All-weaker (IsDoneName w.linked) (IsDoneName (map (defined_if now named.name) w.linked)) (λ name d. done_defined w.linked now named.name name d) names all
name_done {w = w} {named = named} names (missing_again ty before c l size total d k q) all =
    let xs = map (missing_if named.name ty c) w.linked in
    All-weaker (IsDoneName w.linked) (IsDoneName (map (defined_if d named.name) xs)) (λ name i. done_defined xs d named.name name (done_missing w.linked named.name ty c name i)) names all

static_done : (names : List (List ℕ)) (w : World) (object : ObjectNow) (ty : CTypeTree) (by : Initialised) → AreDone names w → AreDone names (with_static w object ty by)
static_done names w object ty by all = at object.is_static
  where
    at : (b : Bool) → AreDone names (if b then with_initial w object.number (static_bytes w.objects (size_or_zero w ty) by.items) else w)
    at true = all
    at false = all

size_done : {w v : World} {object : ObjectNow} {by : Initialised} {ty : CTypeTree} (names : List (List ℕ)) → MakesSize w object by ty v → AreDone names w → AreDone names v
size_done names (as_it_was m) all = all
size_done names (by_count m c t) all = all

pub calm_done : (names : List (List ℕ)) (w v : World) → Reaches Constants w v → AreDone names w → AreDone names v
calm_done names w v r all = are_same names w v (calm w v r).linked all

init_done : {w v : World} {what : Declares} {init : Option InitTree} {made : Made} (names : List (List ℕ)) → Good w → MakesInit w what init made v → AreDone names w → AreDone names v
init_done names good no_object all = all
init_done names good bare all = all
init_done {w = w} names good (given {u = u} {v = v} {object = object} {init = init} {by = by} {ty = ty} t s) all =
    static_done names v object ty by (size_done names s (calm_done names w u (init_calm object init by good t) all))

pub done_kept : (names functions objects : List (List ℕ)) → IsKept functions objects (AreDone names)
done_kept names functions objects = record {
  calm = λ w v good r all. calm_done names w v r all;
  declared = λ around w v x storage steps base has_init named what init made f o h good s b t z n good2 is m r q all. init_done names good2 m (name_done names n all);
  moved = λ w v same all. are_same names w v same.linked all;
}

-- ---- a declaration of the file

-- the declarator defines an object: no typedef, and not `extern` without an initialiser
pub record Defines (around : Context) (storage : List StorageWord) (has_init : Bool) (name : List ℕ) : Type 0 where
  pub file : around.in_block ≡ false
  pub no_typedef : is_word Typedef storage ≡ false
  pub no_extern : is_word Extern storage && not has_init ≡ false
  pub named : has_name around.objects name ≡ true

some_definition : (e i : Bool) → e && not i ≡ false → (not e || i) ≡ true
some_definition true true h = refl
some_definition true false h = absurd (false≢true (sym h))
some_definition false i h = refl

defines_now : {around : Context} {storage : List StorageWord} {has_init : Bool} {name : List ℕ} → Defines around storage has_init name → (file_object_of around storage name has_init).defines ≡ true
defines_now {around} {storage} {has_init} {name} d =
    ap (λ b. not b && (not (is_word Extern storage) || has_init)) d.file ∙ some_definition (is_word Extern storage) has_init d.no_extern

function_entry : (w : World) (named : DeclaredName) (later : Bool) (params : List ParameterTree) (types : List CTypeTree) (result : CTypeTree) → find (λ l. bytes_eq l.name named.name) w.linked ≡ None
    → IsDone (new_function w named later params types result).linked named.name
function_entry w named later params types result e = by later
  where
    no_object : (n : ℕ) → Function (length w.functions) ≡ Object n → ⊥
    no_object n e = cc

    by : (b : Bool) → IsDone (new_function w named b params types result).linked named.name
    by true = record { entry = _; there = found_last (λ l. bytes_eq l.name named.name) w.linked _ e (own_bytes named.name); done = λ n h. absurd (no_object n h) }
    by false = record { entry = _; there = found_last (λ l. bytes_eq l.name named.name) w.linked _ e (own_bytes named.name); done = λ n h. absurd (no_object n h) }

again_entry : (xs : List Linked) (now : Bool) (name : List ℕ) (l : Linked) → find (λ j. bytes_eq j.name name) xs ≡ Some l → now ≡ true → IsDone (map (defined_if now name) xs) name
again_entry xs now name l e d = record {
  entry = defined_if now name l;
  there = found_mapped (defined_if now name) (λ j. name_if (now && bytes_eq j.name name) _ j refl) name xs ∙ ap (option_map (defined_if now name)) e;
  done = λ n h. ap (λ b. (if b then record l { defined = true } else l).defined) (ap (λ b. b && bytes_eq l.name name) d ∙ ap (λ m. bytes_eq m name) (found_name xs name l e) ∙ own_bytes name);
}

missing_entry :
    (xs : List Linked) (now : Bool) (name : List ℕ) (l : Linked) (ty before : CTypeTree) (c d : Bool) → find (λ j. bytes_eq j.name name) xs ≡ Some l → l.meaning ≡ Missing before d
    → IsDone (map (defined_if now name) (map (missing_if name ty c) xs)) name
missing_entry xs now name l ty before c d e m =
    let one = missing_if name ty c l in record {
      entry = defined_if now name one;
      there = found_mapped (defined_if now name) (λ j. name_if (now && bytes_eq j.name name) _ j refl) name (map (missing_if name ty c) xs)
          ∙ ap (option_map (defined_if now name)) (found_mapped (missing_if name ty c) (λ j. name_if (bytes_eq j.name name) _ j refl) name xs ∙ ap (option_map (missing_if name ty c)) e);
      done = λ n h. absurd (by (bytes_eq l.name name) (now && bytes_eq one.name name) n h);
    }
  where
    no_object : (s : CTypeTree) (k : Bool) (n : ℕ) → Missing s k ≡ Object n → ⊥
    no_object s k n h = cc

    by :
        (b k : Bool) (n : ℕ) → (if k then record (if b then record l { meaning = Missing ty c } else l) { defined = true } else (if b then record l { meaning = Missing ty c } else l)).meaning ≡ Object n → ⊥
    by true true n h = no_object ty c n h
    by true false n h = no_object ty c n h
    by false true n h = no_object before d n (sym m ∙ h)
    by false false n h = no_object before d n (sym m ∙ h)

no_function : (w : World) (types : List CTypeTree) (result : CTypeTree) (l : Linked) (n : ℕ) → l.meaning ≡ Object n → is_function_so w types result false l.meaning ≡ true → ⊥
no_function w types result l n e so = false≢true (subst (λ m. is_function_so w types result false m ≡ true) e so)

defined_name :
    {around : Context} {w v : World} {storage : List StorageWord} {steps : List Step} {base : Form} {has_init : Bool} {named : DeclaredName} {what : Declares}
    → Defines around storage has_init named.name → MakesName around w storage steps base has_init named what v → IsDoneName v.linked named.name
defined_name d (type_name form y e) r = absurd (false≢true (sym d.no_typedef ∙ y))
defined_name d (reserved y) r = absurd (false≢true (sym r ∙ y))
defined_name {around = around} {w = w} {named = named} d (first_function types result y e n) r = function_entry w named (has_name around.functions named.name) _ types result n
defined_name {w = w} d (function_again types result l n so) r = record { entry = l; there = n; done = λ k h. absurd (no_function w types result l k h so) }
defined_name d (local ty c st size i e h) r = absurd (false≢true (sym d.file ∙ i))
defined_name d (local_open of c st i e h) r = absurd (false≢true (sym d.file ∙ i))
defined_name {w = w} {named = named} d (first_object form ty c m size total y e is n h z) r =
    record { entry = _; there = found_last (λ l. bytes_eq l.name named.name) w.linked _ n (own_bytes named.name); done = λ k q. defines_now d }
defined_name d (first_missing ty c total y n h) r = absurd (false≢true (sym h ∙ d.named))
defined_name {around = around} {w = w} {storage = storage} {has_init = has_init} {named = named} d (object_again form ty c m l n size total e is k q a z) r =
    again_entry w.linked (file_object_of around storage named.name has_init).defines named.name l k (defines_now d)
defined_name {w = w} {named = named} d (missing_again ty before c l size total x k q) r = missing_entry w.linked x named.name l ty before c c k q

-- the specs, as they are written and as they are typed
record SpecWords (specs : SpecTrees) (storage : List StorageWord) : Type 0 where
  typedefs : is_word Typedef storage ≡ has_storage Typedef specs
  externs : is_word Extern storage ≡ has_storage Extern specs

item_done :
    {around : Context} {w v : World} {storage : List StorageWord} {steps : List Step} {base : Form} {named : DeclaredName} {what : Declares} (specs : SpecTrees) (item : InitDeclaratorTree)
    → SpecWords specs storage → around.in_block ≡ false → name_in item.declarator ≡ Some named.name → All (λ name. has_name around.objects name ≡ true) (objects_by specs item)
    → MakesName around w storage steps base (is_some item.init) named what v → All (IsDoneName v.linked) (objects_by specs item)
item_done {around} {w} {v} {storage} {steps} {base} {named} {what} specs item words file name covers n =
    by (has_storage Typedef specs) (is_function_declarator item.declarator) (has_storage Extern specs && not (is_some item.init)) refl refl covers
  where
    by :
        (t f e : Bool) → has_storage Typedef specs ≡ t → has_storage Extern specs && not (is_some item.init) ≡ e
        → All (λ m. has_name around.objects m ≡ true) (if t || (f || e) then [] else to_names (name_in item.declarator))
        → All (IsDoneName v.linked) (if t || (f || e) then [] else to_names (name_in item.declarator))
    by true f e p q c = All-nil (IsDoneName v.linked)
    by false true e p q c = All-nil (IsDoneName v.linked)
    by false false true p q c = All-nil (IsDoneName v.linked)
    by false false false p q c =
        let has : has_name around.objects named.name ≡ true =
        All-head (λ m. has_name around.objects m ≡ true) named.name [] (subst (λ o. All (λ m. has_name around.objects m ≡ true) (to_names o)) name c) in
        subst (λ o. All (IsDoneName v.linked) (to_names o)) (sym name)
        (All-cons (IsDoneName v.linked) named.name [] (defined_name (record {
          file = file;
          no_typedef = words.typedefs ∙ p;
          no_extern = ap (λ b. b && not (is_some item.init)) words.externs ∙ q;
          named = has;
        }) n) (All-nil (IsDoneName v.linked)))

-- the declarators of a declaration, behind these names
declarators_done :
    {around : Context} {first : Pos} {storage : List StorageWord} {base : Form} {w v : World} {done made : Made} {items : List InitDeclaratorTree} (specs : SpecTrees) (names : List (List ℕ))
    → SpecWords specs storage → around.in_block ≡ false → All (λ name. has_name around.objects name ≡ true) (flat_map (objects_by specs) items) → Good w → IsFormedForm w.structs base
    → MakesDeclarators around first storage base w done items made v → AreDone names w → AreDone (names ++ flat_map (objects_by specs) items) v
declarators_done {w = w} specs names words file covers good f steps.none all = subst (λ l. AreDone l w) (sym (append-nil names)) all
declarators_done {around = around} {storage = storage} {base = base} {v = last} {items = items} specs names words file covers good f
    (one_more {w = w} {u = u} {v = v} {x = x} {item = item} {rest = rest} {shape = shape} {named = named} t e n m r) all =
    let facts = step_facts good f t in
    let here = objects_by specs item in
    let more = flat_map (objects_by specs) rest in
    let name : name_in item.declarator ≡ Some named.name = sym (named_is w u item.declarator shape t.declarator) ∙ ap (option_map (λ k. k.name)) e in
    let split = split_all (λ k. has_name around.objects k ≡ true) here more covers in
    let now = All-append (IsDoneName v.linked) names here (name_done names n (calm_done names w u facts.calm all)) (item_done specs item words file name split.0 n) in
    subst (λ l. AreDone l last) (append_assoc names here more)
    (declarators_done specs (names ++ here) words file split.1 facts.last facts.last_formed r (init_done (names ++ here) facts.declared m now))

pub decl_done :
    {around : Context} {w v : World} {decl : DeclTree} {made : Made} (names : List (List ℕ)) → around.in_block ≡ false → All (λ name. has_name around.objects name ≡ true) (flat_map (objects_by decl.specs) decl.inits)
    → Good w → MakesDecl w around decl made v → AreDone names w → AreDone (names ++ flat_map (objects_by decl.specs) decl.inits) v
decl_done {w = w} {decl = decl} names file covers good d all =
    let facts = spec_facts good d in
    declarators_done decl.specs names (record { typedefs = words_are Typedef w d.behind _ decl.specs d.specs d.types; externs = words_are Extern w d.behind _ decl.specs d.specs d.types })
    file covers facts.good facts.formed d.rest (calm_done names w d.behind facts.calm all)
