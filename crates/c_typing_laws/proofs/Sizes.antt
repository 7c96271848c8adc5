-- Initial values have as many bytes as their objects.
use Rattle.std.proofs.Common.{◌≡◌, ℕ, zero, suc, ◌+◌, ◌≤◌, ℤ, true, false, List, [], ◌∷◌, ◌++◌, length, refl, ap, sym, subst, ◌∙◌, arith}
use Rattle.std.specs.Prelude.{Bool, is_some, if◌then◌else◌, Option, None, Some, IsSomeAnd, option_map, unwrap_or, All, fold, take, drop, replicate, slice_get}
use Rattle.std.proofs.lemmas.Option.{same_Some}
use Rattle.std.proofs.lemmas.List.{append-nil, append_assoc, length-append, length-take-le, length-drop, length-map, length-replicate, length_push}
use Rattle.std.proofs.lemmas.List.Elements.{All-nil, All-push, All-append, All-weaker, All-head, All-tail}
use Rattle.c_syntax_written.specs.declared.place.Pos.{Pos}
use Rattle.block_mem.proofs.Laws.{length-low_bytes}
use Rattle.c_syntax.specs.declared.program.Initial.{Initial}
use Rattle.c_syntax.specs.declared.program.InitByte.{InitByte}
use Rattle.c_syntax.specs.declared.program.InitByte.TheVariants.{Num}
use Rattle.c_syntax.specs.Types.{CTypeTree, Void, Int, Pointer, ObjectTree}
use Rattle.c_syntax.specs.TypedExpr.{TExprTree}
use Rattle.c_syntax.specs.TypedStmt.{TInitTree, Store, Copy}
use Rattle.c_syntax.specs.Program.{StructDefTree, TProgramTree}
use Rattle.c_layout.specs.Layout.{size_in}
use Rattle.c_layout.specs.RowTypes.{IsScalar}
use Rattle.c_layout.specs.TypedNodes.{Scope, IsTypedInit, object_type}
use Rattle.c_layout.proofs.Parts.{inside}
use Rattle.c_typing.specs.World.{World, Form}
use Rattle.c_typing.specs.Names.{with_initial, with_literal, literal_object, literal_type, literal_bytes, opened}
use Rattle.c_typing.specs.Constants.{Address, Nowhere, Inside, static_address}
use Rattle.c_typing.specs.Inits.{Initialised, number_byte, piece_bytes, address_bytes, scalar_bytes, written_at, with_item, static_bytes}
use Rattle.c_typing.specs.Operands.{is_unsized}
use Rattle.c_typing.specs.Settled.{settled_init}
use Rattle.c_syntax_written.specs.declared.written.StorageWord.{StorageWord}
use Rattle.c_syntax_written.specs.WrittenDecl.{InitTree}
use Rattle.c_typing.specs.Declarators.{DeclaredName, ParameterTree, Step}
use Rattle.c_typing.specs.Context.{Context, has_name}
use Rattle.c_typing.specs.Decls.{Declares, ObjectNow, Made, new_function, with_static, size_or_zero}
use Rattle.c_typing.proofs.Changes.{Changes, Constants, Names, Any, within}
use Rattle.c_typing.proofs.DeclsGo.{WhatIn}
use Rattle.c_typing.proofs.Good.{Good}
use Rattle.c_typing.proofs.Later.{later_size}
use Rattle.c_typing.proofs.MadeTables.{get_append, get_last}
use Rattle.c_typing.proofs.Reaches as reaches
use Rattle.c_typing.proofs.Reaches.{Reaches, stays, after, named, literal, struct, new_struct, enumeration, tag_changed, body, opens, scoped, counted, linked, defined, retyped, parameters, function, function_changed, labelled, cased, in_body}
use Rattle.c_typing_laws.specs.NameSteps.{MakesName, type_name, reserved, first_function, function_again, local, local_open, first_object, first_missing, object_again, missing_again}
use Rattle.c_typing_laws.specs.DeclSteps.{MakesSize, as_it_was, by_count, MakesInit, no_object, bare, given}
use Rattle.c_typing_laws.proofs.Reached.{good_by}
use Rattle.c_typing_laws.proofs.StepSteady.{init_calm}
use Rattle.c_typing_laws.specs.ExpressionLaws.{AreUsable, EndsFrom}
use Rattle.c_typing_laws.proofs.Lasts.{last_complete}
use Rattle.c_typing_laws.proofs.Objects.{ObjectsIn}
use Rattle.c_typing_laws.proofs.Onward.{Onward, onward, onward_then, ArePaired, paired}
use Rattle.c_typing_laws.proofs.Ends.{ends_onward, ends_still, ends_live, ends_same}
use Rattle.c_typing_laws.proofs.Declared.{IsFilled, IsDeclared, size_filled, ty_sized, size_reach, static_same}

abbrev pub IsSizedInitial : TProgramTree → Initial → Type 0
IsSizedInitial program i = IsSomeAnd (slice_get program.objects i.object) (λ x. length i.bytes ≡ x.size)

abbrev pub AreSizedInitials : TProgramTree → World → Type 0
AreSizedInitials program w = All (IsSizedInitial program) w.initial

-- where the program at the end goes on from this world, whatever lives
abbrev pub AreSized : TProgramTree → World → Type 0
AreSized program w = (live : List ℕ) → EndsFrom w (record { program = program; live = live }) → AreSizedInitials program w

-- ---- scalars

piece_length : (n : ℕ) (offset : ℤ) (k left : ℕ) → length (piece_bytes n offset k left) ≡ left
unfolding piece_bytes
piece_length n offset k zero = refl
piece_length n offset k (suc left) = ap suc (piece_length n offset (k + 1) left)

address_length : (a : Option Address) → length (address_bytes a) ≡ 8
address_length (Some (Inside n offset)) = piece_length n offset 0 8
address_length (Some Nowhere) = length-replicate 8 (Num 0)
address_length None = length-replicate 8 (Num 0)

scalar_length : (structs : List StructDefTree) (objects : List ObjectTree) (ty : CTypeTree) (e : TExprTree) → IsScalar ty → size_in structs ty ≡ Some (length (scalar_bytes objects ty e))
scalar_length structs objects (Int t) e s = ap Some (sym (length-map _ number_byte ∙ length-low_bytes _ _))
scalar_length structs objects (Pointer to c) e s = ap Some (sym (address_length (static_address objects e)))
scalar_length structs objects ty e s = absurd s

-- ---- items

written_length : (offset : ℕ) (piece all : List InitByte) → offset + length piece ≤ length all → length (written_at offset piece all) ≡ length all
written_length offset piece all h =
    let a = length-append (take offset all ++ piece) (drop (offset + length piece) all) in
    let b = length-append (take offset all) piece in
    let c = length-take-le offset all (omega (arith, h)) in
    let d = length-drop (offset + length piece) all in
    omega (arith, a, b, c, d, h)

-- an item that lies in so many bytes
abbrev LiesIn : List ObjectTree → ℕ → TInitTree → Type 0
LiesIn objects n (Store offset ty value) = offset + length (scalar_bytes objects ty value) ≤ n
LiesIn objects n (Copy offset extent source) = Unit {0}

item_length : (objects : List ObjectTree) (n : ℕ) (i : TInitTree) (all : List InitByte) → LiesIn objects n i → length all ≡ n → length (with_item objects all i) ≡ n
item_length objects n (Store offset ty value) all h e =
    let l = written_length offset (scalar_bytes objects ty value) all (omega (arith, h, e)) in omega (arith, l, e)
item_length objects n (Copy offset extent source) all h e = e

items_length : (objects : List ObjectTree) (n : ℕ) (items : List TInitTree) (all : List InitByte) → All (LiesIn objects n) items → length all ≡ n → length (fold (with_item objects) all items) ≡ n
items_length objects n [] all h e = e
items_length objects n (i ∷ rest) all h e =
    items_length objects n rest (with_item objects all i) (All-tail (LiesIn objects n) i rest h) (item_length objects n i all (All-head (LiesIn objects n) i rest h) e)

static_length : (objects : List ObjectTree) (n : ℕ) (items : List TInitTree) → All (LiesIn objects n) items → length (static_bytes objects n items) ≡ n
static_length objects n items h = items_length objects n items (replicate n (Num 0)) h (length-replicate n (Num 0))

some_bound : (o : Option ℕ) (n m : ℕ) → o ≡ Some n → IsSomeAnd o (λ k. m ≤ k) → m ≤ n
some_bound None n m e h = absurd h
some_bound (Some k) n m e h = subst (λ j. m ≤ j) (same_Some k n e) h

item_lies : (w : World) (scope : Scope) (objects : List ObjectTree) (ty : CTypeTree) (n : ℕ) (i : TInitTree) → EndsFrom w scope → size_in scope.program.structs ty ≡ Some n → IsTypedInit scope ty (settled_init scope.program.objects i) → LiesIn objects n i
item_lies w scope objects ty n (Store offset part value) ends e t =
    let structs = scope.program.structs in
    some_bound (size_in structs ty) n (offset + length (scalar_bytes objects part value)) e
    (inside structs ends.table.laid_out (length (scalar_bytes objects part value)) t.1 (scalar_length structs objects part value t.2.scalar))
item_lies w scope objects ty n (Copy offset extent source) ends e t = tt

-- ---- one object

object_size : (w : World) (scope : Scope) (n : ℕ) (x : ObjectTree) (ty : CTypeTree) (size : ℕ) (bytes : List InitByte) → EndsFrom w scope → slice_get w.objects n ≡ Some x → object_type scope.program n ≡ ty → size_in scope.program.structs ty ≡ Some size
    → length bytes ≡ size → IsSizedInitial scope.program (record { object = n; bytes = bytes })
object_size w scope n x ty size bytes ends there last e l =
    let own = ends.objects n x there in
    let same : own.object.ty ≡ ty = ap (λ o. unwrap_or (option_map (λ y. y.ty) o) Void) (sym own.there) ∙ last in
    let sizes : own.object.size ≡ size = same_Some own.object.size size (sym own.typed.size ∙ ap (size_in scope.program.structs) same ∙ e) in
    subst (λ o. IsSomeAnd o (λ y. length bytes ≡ y.size)) (sym own.there) (l ∙ sym sizes)

-- behind an initialiser
pub static_sized :
    (w : World) (scope : Scope) (object : ObjectNow) (ty : CTypeTree) (by : Initialised) (x : ObjectTree) (size : ℕ) → IsFilled scope object ty by.items → size_in w.structs ty ≡ Some size → slice_get w.objects object.number ≡ Some x
    → EndsFrom w scope → AreSizedInitials scope.program w → AreSizedInitials scope.program (with_static w object ty by)
static_sized w scope object ty by x size f e there ends all = at object.is_static
  where
    told : size_or_zero w ty ≡ size
    told = ap (λ o. unwrap_or o 0) e

    last : size_in scope.program.structs ty ≡ Some size
    last = later_size w.structs scope.program.structs ends.structs ty size e

    bytes : length (static_bytes w.objects (size_or_zero w ty) by.items) ≡ size
    bytes = ap (λ n. length (static_bytes w.objects n by.items)) told
        ∙ static_length w.objects size by.items
        (All-weaker (λ i. IsTypedInit scope ty (settled_init scope.program.objects i)) (LiesIn w.objects size) (λ i t. item_lies w scope w.objects ty size i ends last t) by.items f.filled.typed)

    at : (b : Bool) → AreSizedInitials scope.program (if b then with_initial w object.number (static_bytes w.objects (size_or_zero w ty) by.items) else w)
    at true = All-push (IsSizedInitial scope.program) w.initial _ all (object_size w scope object.number x ty size (static_bytes w.objects (size_or_zero w ty) by.items) ends there f.last last bytes)
    at false = all

-- ---- literals

-- the initial value of a literal
record IsLiteralInitial (objects : List ObjectTree) (i : Initial) : Type 0 where
  at : Pos
  text : List ℕ
  there : slice_get objects i.object ≡ Some (literal_object at (length text + 1))
  bytes : length i.bytes ≡ length text + 1

-- literals are added, with their initial values
record Adds (w v : World) : Type 0 where
  objects : (n : ℕ) (x : ObjectTree) → slice_get w.objects n ≡ Some x → slice_get v.objects n ≡ Some x
  extra : List Initial
  initial_is : v.initial ≡ w.initial ++ extra
  literals : All (IsLiteralInitial v.objects) extra

adds_none : (w v : World) → v.objects ≡ w.objects → v.initial ≡ w.initial → Adds w v
adds_none w v o i = record {
  objects = λ n x e. ap (λ l. slice_get l n) o ∙ e;
  extra = [];
  initial_is = i ∙ sym (append-nil w.initial);
  literals = All-nil (IsLiteralInitial v.objects);
}

adds_then : (u v w : World) → Adds u v → Adds v w → Adds u w
adds_then u v w a b = record {
  objects = λ n x e. b.objects n x (a.objects n x e);
  extra = a.extra ++ b.extra;
  initial_is = b.initial_is ∙ ap (λ l. l ++ b.extra) a.initial_is ∙ append_assoc u.initial a.extra b.extra;
  literals = All-append (IsLiteralInitial w.objects) a.extra b.extra
      (All-weaker (IsLiteralInitial v.objects) (IsLiteralInitial w.objects) (λ i l. record { at = l.at; text = l.text; there = b.objects i.object _ l.there; bytes = l.bytes }) a.extra a.literals) b.literals;
}

abbrev IsAdding : Changes → World → World → Type 0
IsAdding Constants w v = Adds w v
IsAdding Names w v = Adds w v
IsAdding Any w v = Unit {0}

adding : (may : Changes) (w v : World) → Adds w v → IsAdding may w v
adding Constants w v a = a
adding Names w v a = a
adding Any w v a = tt

adding_then : (may : Changes) (u v w : World) → IsAdding may u v → IsAdding may v w → IsAdding may u w
adding_then Constants u v w a b = adds_then u v w a b
adding_then Names u v w a b = adds_then u v w a b
adding_then Any u v w a b = tt

adding_scope : (may : Changes) (w o v x : World) → Adds w o → IsAdding (within may) o v → Adds v x → IsAdding may w x
adding_scope Constants w o v x a f b = adds_then w o x a (adds_then o v x f b)
adding_scope Names w o v x a f b = adds_then w o x a (adds_then o v x f b)
adding_scope Any w o v x a f b = tt

with_text : (w : World) (at : Pos) (bytes : List ℕ) → Adds w (with_literal w at bytes)
with_text w at bytes = record {
  objects = λ n x e. get_append w.objects _ n x e;
  extra = record { object = length w.objects; bytes = literal_bytes bytes } ∷ [];
  initial_is = refl;
  literals = All-push (IsLiteralInitial (with_literal w at bytes).objects) [] _ (All-nil (IsLiteralInitial (with_literal w at bytes).objects)) (record {
    at = at;
    text = bytes;
    there = get_last w.objects _;
    bytes = length-map (bytes ++ 0 ∷ []) Num ∙ length_push bytes 0;
  });
}

adds_by : (may : Changes) (w v : World) → Reaches may w v → IsAdding may w v
adds_by may w v (stays _) = adding may w w (adds_none w w refl refl)
adds_by may w v (after _ u _ r s) = adding_then may w u v (adds_by may w u r) (adds_by may u v s)
adds_by may w v (named _ at name meaning f h) = adding may w v (adds_none w v refl refl)
adds_by may w v (literal _ at bytes small) = adding may w v (with_text w at bytes)
adds_by may w v (struct _ tag) = adding may w v (adds_none w v refl refl)
adds_by may w v (new_struct _ tag d) = adding may w v (adds_none w v refl refl)
adds_by may w v (enumeration _ tag d) = adding may w v (adds_none w v refl refl)
adds_by may w v (tag_changed _ tag at m f) = adding may w v (adds_none w v refl refl)
adds_by may w v (body _ u x n members r begun s are sound) = adding_then may w u v (adds_by may w u r) (adding_then may u x v (adds_by may u x s) (adding may x v (adds_none x v refl refl)))
adds_by may w v (opens _) = adding may w v (adds_none w v refl refl)
adds_by may w v (scoped _ u r) = adding_scope may w (opened w) u v (adds_none w (opened w) refl refl) (adds_by (within may) (opened w) u r) (adds_none u v refl refl)
adds_by may w v (reaches.object _ x) = tt
adds_by may w v (counted _ size) = tt
adds_by may w v (reaches.sized _ n ty size h) = tt
adds_by may w v (reaches.initial _ n bytes) = tt
adds_by may w v (linked _ x meaning d f) = tt
adds_by may w v (defined _ name now) = tt
adds_by may w v (retyped _ name ty c) = tt
adds_by may w v (parameters _ params) = tt
adds_by may w v (function _ told types f e none) = tt
adds_by may w v (function_changed _ n change f) = tt
adds_by may w v (labelled _ labels) = tt
adds_by may w v (cased _ cases default) = tt
adds_by may w v (in_body _ u x first names tags r aside f s) = tt

literal_sized : (v : World) (scope : Scope) (i : Initial) → EndsFrom v scope → IsLiteralInitial v.objects i → IsSizedInitial scope.program i
literal_sized v scope i ends l =
    let n = length l.text + 1 in
    let own = ends.objects i.object (literal_object l.at n) l.there in
    let told : own.object.ty ≡ literal_type n = last_complete own.ty (some_elements (length l.text)) in
    object_size v scope i.object (literal_object l.at n) (literal_type n) n i.bytes ends l.there
    (ap (λ o. unwrap_or (option_map (λ y. y.ty) o) Void) own.there ∙ told) (ap Some (omega arith)) l.bytes
  where
    some_elements : (k : ℕ) → is_unsized (literal_type (k + 1)) ≡ false
    some_elements k = let e : suc k ≡ k + 1 = omega arith in subst (λ m. is_unsized (literal_type m) ≡ false) e refl

-- expressions add literals
pub calm_sized : (w v : World) (scope : Scope) → Reaches Constants w v → EndsFrom v scope → AreSizedInitials scope.program w → AreSizedInitials scope.program v
calm_sized w v scope r ends all =
    let a = adds_by Constants w v r in
    subst (All (IsSizedInitial scope.program)) (sym a.initial_is)
    (All-append (IsSizedInitial scope.program) w.initial a.extra all
    (All-weaker (IsLiteralInitial v.objects) (IsSizedInitial scope.program) (λ i l. literal_sized v scope i ends l) a.extra a.literals))

-- ---- worlds that go on

-- the same program in other scopes
pub sized_same : (program : TProgramTree) (w v : World) → v.structs ≡ w.structs → v.objects ≡ w.objects → v.functions ≡ w.functions → v.signatures ≡ w.signatures → v.initial ≡ w.initial → AreSized program w → AreSized program v
sized_same program w v s o f g i all live ends =
    subst (All (IsSizedInitial program)) (sym i) (all live (ends_same v w (record { program = program; live = live }) s o f g ends))

-- without a new initial value
pub sized_step : (program : TProgramTree) (w v : World) → Good w → ArePaired w → Reaches Any w v → v.initial ≡ w.initial → AreSized program w → AreSized program v
sized_step program w v good pair r i all live ends =
    subst (All (IsSizedInitial program)) (sym i) (all live (ends_onward w v (record { program = program; live = live }) good pair r ends))

-- with literals
pub sized_calm : (program : TProgramTree) (w v : World) → Good w → ArePaired w → Reaches Constants w v → AreSized program w → AreSized program v
sized_calm program w v good pair r all live ends =
    let scope : Scope = record { program = program; live = live } in calm_sized w v scope r ends (all live (ends_onward w v scope good pair r ends))

-- ---- what a declarator leaves

new_initial : (w : World) (named : DeclaredName) (later : Bool) (params : List ParameterTree) (types : List CTypeTree) (result : CTypeTree) → (new_function w named later params types result).initial ≡ w.initial
new_initial w entity true params types result = refl
new_initial w entity false params types result = refl

pub name_initial :
    {around : Context} {w v : World} {storage : List StorageWord} {steps : List Step} {base : Form} {has_init : Bool} {named : DeclaredName} {what : Declares}
    → MakesName around w storage steps base has_init named what v → v.initial ≡ w.initial
name_initial (type_name form d e) = refl
name_initial (reserved y) = refl
name_initial {around = around} {w = w} {named = entity} (first_function types result r e n) = new_initial w entity (has_name around.functions entity.name) _ types result
name_initial (function_again types result l n so) = refl
name_initial (local ty c st size i e h) = refl
name_initial (local_open of c st i e h) = refl
name_initial (first_object form ty c m size total r e is n h z) = refl
name_initial (first_missing ty c total r n h) = refl
name_initial (object_again form ty c m l n size total e is k q a z) = refl
name_initial (missing_again ty before c l size total d k q) = refl

size_initial : {w v : World} {now : ObjectNow} {by : Initialised} {ty : CTypeTree} → MakesSize w now by ty v → v.initial ≡ w.initial
size_initial (as_it_was m) = refl
size_initial (by_count m c t) = refl

pub init_sized :
    {v x : World} {what : Declares} {init : Option InitTree} {made : Made} (scope : Scope) → Good v → ArePaired v → ObjectsIn v → AreUsable v scope → IsDeclared v (is_some init) what → WhatIn what v
    → MakesInit v what init made x → AreSized scope.program v → AreSized scope.program x
init_sized scope good pair objects usable there is no_object all live ends = all live ends
init_sized scope good pair objects usable there is bare all live ends = all live ends
init_sized {v = v} {x = x} scope good pair objects usable there is (given {u = u} {v = z} {object = now} {init = init} {by = by} {ty = ty} t s) all live ends =
    let last = ends_live x (record { program = scope.program; live = live }) scope.live ends in
    let r = init_calm now init by good t in
    let r2 = size_reach r is s in
    let good2 = good_by good r in
    let ez = static_same z now ty by (λ y. EndsFrom y scope → EndsFrom z scope) (λ e. e) (λ e. ends_same _ z scope refl refl refl refl e) last in
    let eu = ends_onward u z scope good2 (paired v u r pair) r2 ez in
    let ev = ends_onward v u scope good pair r eu in
    let size = ty_sized init good objects there is t s in
    let own = (onward_then v u z (onward v u r) (onward u z r2)).objects now.number there.own there.there in
    static_sized z scope now ty by own.0 size.0 (size_filled init scope good pair objects usable there is t s last) size.1 own.1 ez
    (subst (All (IsSizedInitial scope.program)) (sym (size_initial s)) (calm_sized v u scope r eu (all scope.live ev)))

-- from a world with the same structs, whose objects and functions stay
pub sized_onward : (program : TProgramTree) (w v : World) → ArePaired w → v.structs ≡ w.structs → Onward w v → v.initial ≡ w.initial → AreSized program w → AreSized program v
sized_onward program w v pair s on i all live ends =
    subst (All (IsSizedInitial program)) (sym i) (all live (ends_still w v (record { program = program; live = live }) pair s on ends))
