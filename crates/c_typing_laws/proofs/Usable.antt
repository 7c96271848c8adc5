-- Names that may be used where a statement stands.
use Rattle.std.proofs.Common.{◌≡◌, ℕ, true, false, List, [], ◌∷◌, ◌++◌, length, refl, ap, sym, subst, ◌∙◌, inl, inr, ⊎_elim}
use Rattle.std.specs.Prelude.{◌⊎◌, Bool, IsTrue, is_some, Option, None, Some, IsSomeAnd, All, Contains, take, slice_get}
use Rattle.std.proofs.lemmas.List.{take_at}
use Rattle.std.proofs.lemmas.List.Elements.{All-push, All-weaker, Contains-append_right}
use Rattle.c_syntax_written.specs.declared.written.StorageWord.{StorageWord}
use Rattle.c_syntax.specs.Types.{Array, ObjectTree}
use Rattle.c_layout.specs.TypedNodes.{Scope}
use Rattle.c_typing.specs.World.{World, Form, Meaning, Object, Missing, Parameter, Function, TypeName, Enumeration, Binding}
use Rattle.c_typing.specs.Names.{opened, closed}
use Rattle.c_typing.specs.Declarators.{DeclaredName, Step}
use Rattle.c_typing.specs.Context.{Context, has_name}
use Rattle.c_typing.specs.Decls.{Declares, AnObject, NoObject, new_function, object_of, parameters_of}
use Rattle.c_typing.proofs.FormsGo.{found_each}
use Rattle.c_typing.proofs.MadeTables.{get_last}
use Rattle.c_typing_laws.specs.NameSteps.{MakesName, type_name, reserved, first_function, function_again, local, local_open, first_object, first_missing, object_again, missing_again}
use Rattle.c_typing_laws.specs.ExpressionLaws.{IsUsable, AreUsable}
use Rattle.c_typing_laws.proofs.Onward.{Onward}
use Rattle.c_typing_laws.proofs.Entities.{IsEntity, AreEntities, function_onward, entity_onward}

object_onward :
    (w v : World) (scope : Scope) → Onward w v → (n : ℕ) → IsSomeAnd (slice_get w.objects n) (λ x. IsTrue x.is_static ⊎ Contains scope.live n)
    → IsSomeAnd (slice_get v.objects n) (λ x. IsTrue x.is_static ⊎ Contains scope.live n)
object_onward w v scope on n h = by (slice_get w.objects n) refl h
  where
    by : (o : Option ObjectTree) → slice_get w.objects n ≡ o → IsSomeAnd o (λ x. IsTrue x.is_static ⊎ Contains scope.live n) → IsSomeAnd (slice_get v.objects n) (λ x. IsTrue x.is_static ⊎ Contains scope.live n)
    by None e t = absurd t
    by (Some x) e t =
        let y = on.objects n x e in
        subst (λ o. IsSomeAnd o (λ z. IsTrue z.is_static ⊎ Contains scope.live n)) (sym y.1) (⊎_elim (λ s. inl (sym y.2.is_static ∙ s)) (λ l. inr l) t)

usable_onward : (w v : World) (scope : Scope) → Onward w v → (m : Meaning) → IsUsable w scope m → IsUsable v scope m
usable_onward w v scope on (Object n) h = object_onward w v scope on n h
usable_onward w v scope on (Missing ty c) h = h
usable_onward w v scope on (Parameter k ty c) h = h
usable_onward w v scope on (Function n) h = function_onward w v on n h
usable_onward w v scope on (TypeName form) h = h
usable_onward w v scope on (Enumeration n) h = h

-- the same names in a world that goes on
pub names_onward : (w v : World) (scope : Scope) → Onward w v → (names : List Binding) → All (λ b. IsUsable w scope b.meaning) names → All (λ b. IsUsable v scope b.meaning) names
names_onward w v scope on names all = All-weaker (λ b. IsUsable w scope b.meaning) (λ b. IsUsable v scope b.meaning) (λ b h. usable_onward w v scope on b.meaning h) names all

-- behind a scope the names are those of before
pub usable_shut : (w v : World) (scope : Scope) → Onward (opened w) v → AreUsable w scope → AreUsable (closed w v) scope
usable_shut w v scope on all =
    let same : take (length w.names) v.names ≡ w.names = ap (take (length w.names)) on.names ∙ take_at w.names on.extra (length w.names) refl in
    subst (All (λ b. IsUsable v scope b.meaning)) (sym same) (names_onward (opened w) v scope on w.names all)

-- ---- what lives

live_more : (w : World) (scope : Scope) (objects : List ℕ) (m : Meaning) → IsUsable w scope m → IsUsable w (record { program = scope.program; live = objects ++ scope.live }) m
live_more w scope objects (Object n) h = by (slice_get w.objects n) h
  where
    by : (o : Option ObjectTree) → IsSomeAnd o (λ x. IsTrue x.is_static ⊎ Contains scope.live n) → IsSomeAnd o (λ x. IsTrue x.is_static ⊎ Contains (objects ++ scope.live) n)
    by None t = t
    by (Some x) t = ⊎_elim (λ s. inl s) (λ l. inr (Contains-append_right objects scope.live n l)) t
live_more w scope objects (Missing ty c) h = h
live_more w scope objects (Parameter k ty c) h = h
live_more w scope objects (Function n) h = h
live_more w scope objects (TypeName form) h = h
live_more w scope objects (Enumeration n) h = h

-- inside a block that lists these objects
pub usable_inside : (w : World) (scope : Scope) (objects : List ℕ) → AreUsable w scope → AreUsable w (record { program = scope.program; live = objects ++ scope.live })
usable_inside w scope objects all =
    All-weaker (λ b. IsUsable w scope b.meaning) (λ b. IsUsable w (record { program = scope.program; live = objects ++ scope.live }) b.meaning) (λ b h. live_more w scope objects b.meaning h) w.names all

-- ---- names that are declared

pub entity_usable : (w : World) (scope : Scope) (m : Meaning) → IsEntity w m → IsUsable w scope m
entity_usable w scope (Object n) h = by (slice_get w.objects n) h
  where
    by : (o : Option ObjectTree) → IsSomeAnd o (λ x. IsTrue x.is_static) → IsSomeAnd o (λ x. IsTrue x.is_static ⊎ Contains scope.live n)
    by None t = t
    by (Some x) t = inl t
entity_usable w scope (Missing ty c) h = h
entity_usable w scope (Parameter k ty c) h = h
entity_usable w scope (Function n) h = h
entity_usable w scope (TypeName form) h = h
entity_usable w scope (Enumeration n) h = h

-- an object that is declared is static, or lives in its block
abbrev pub IsListedNow : Scope → Declares → Type 0
IsListedNow scope NoObject = Unit {0}
IsListedNow scope (AnObject object) = IsTrue object.is_static ⊎ Contains scope.live object.number

pub one_more : (w v : World) (scope : Scope) (b : Binding) → v.names ≡ w.names ++ b ∷ [] → Onward w v → IsUsable v scope b.meaning → AreUsable w scope → AreUsable v scope
one_more w v scope b e on h all =
    subst (All (λ c. IsUsable v scope c.meaning)) (sym e) (All-push (λ c. IsUsable v scope c.meaning) w.names b (names_onward w v scope on w.names all) h)

local_usable : (w : World) (scope : Scope) (x : ObjectTree) (n : ℕ) (o : Option ObjectTree) → o ≡ Some x → IsTrue x.is_static ⊎ Contains scope.live n → IsSomeAnd o (λ y. IsTrue y.is_static ⊎ Contains scope.live n)
local_usable w scope x n o e h = subst (λ p. IsSomeAnd p (λ y. IsTrue y.is_static ⊎ Contains scope.live n)) (sym e) h

pub name_usable :
    {around : Context} {w v : World} {storage : List StorageWord} {steps : List Step} {base : Form} {has_init : Bool} {named : DeclaredName} {what : Declares} (scope : Scope)
    → MakesName around w storage steps base has_init named what v → Onward w v → AreEntities w → IsListedNow scope what → AreUsable w scope → AreUsable v scope
name_usable {w = w} {v = v} scope (type_name form d e) on links h all = one_more w v scope _ refl on tt all
name_usable scope (reserved y) on links h all = all
name_usable {around = around} {w = w} {v = v} {steps = steps} {named = named} scope (first_function types result r e n) on links h all = by (has_name around.functions named.name) on
  where
    by : (later : Bool) → Onward w (new_function w named later (parameters_of steps types named.pos) types result) → AreUsable (new_function w named later (parameters_of steps types named.pos) types result) scope
    by true k = one_more w (new_function w named true (parameters_of steps types named.pos) types result) scope _ refl k (ap is_some (get_last w.functions _)) all
    by false k = one_more w (new_function w named false (parameters_of steps types named.pos) types result) scope _ refl k (ap is_some (get_last w.functions _)) all
name_usable {w = w} {v = v} {named = named} scope (function_again types result l n so) on links h all =
    one_more w v scope _ refl on (entity_usable v scope l.meaning (entity_onward w v on l.meaning (found_each (λ k. IsEntity w k.meaning) _ w.linked l links n))) all
name_usable {w = w} {v = v} {named = named} scope (local ty c st size i e q) on links h all =
    one_more w v scope _ refl on (local_usable v scope (object_of named ty c size st) (length w.objects) (slice_get v.objects (length w.objects)) (get_last w.objects _) h) all
name_usable {w = w} {v = v} {named = named} scope (local_open of c st i e q) on links h all =
    one_more w v scope _ refl on (local_usable v scope (object_of named (Array of c 0) false 0 st) (length w.objects) (slice_get v.objects (length w.objects)) (get_last w.objects _) h) all
name_usable {w = w} {v = v} {named = named} scope (first_object form ty c m size total r e is n q z) on links h all =
    one_more w v scope _ refl on (local_usable v scope (object_of named ty c size true) (length w.objects) (slice_get v.objects (length w.objects)) (get_last w.objects _) (inl refl)) all
name_usable {w = w} {v = v} scope (first_missing ty c total r n q) on links h all = one_more w v scope _ refl on tt all
name_usable {w = w} {v = v} {named = named} scope (object_again form ty c m l n size total e is k q a z) on links h all =
    let entity = found_each (λ j. IsEntity w j.meaning) _ w.linked l links k in
    one_more w v scope _ refl on (entity_usable v scope (Object n) (entity_onward w v on (Object n) (subst (IsEntity w) q entity))) all
name_usable {w = w} {v = v} scope (missing_again ty before c l size total d k q) on links h all = one_more w v scope _ refl on tt all
