-- A declaration comes from its parts.
use Rattle.std.proofs.Common.{◌≡◌, ◌^◌, true, false, List, [], ◌∷◌, refl}
use Rattle.std.proofs.lemmas.Bool.{ltb-false}
use Rattle.std.specs.Prelude.{Bool, nat_lt, ◌==◌, is_some, if◌then◌else◌, Option, None, Some}
use Rattle.c_syntax_written.specs.declared.place.Pos.{Pos}
use Rattle.c_syntax_written.specs.declared.written.StorageWord.{StorageWord}
use Rattle.c_syntax_written.specs.WrittenDecl.{InitTree, InitDeclaratorTree, DeclTree}
use Rattle.c_syntax.specs.Types.{CTypeTree}
use Rattle.c_typing.specs.World.{World, Form, Undeclared, NotConstant, ObjectTooLarge, Outcome, Typed, Refused}
use Rattle.c_typing.specs.Specifiers.{SpecsTree, no_specs_yet, OfDeclaration, or_undeclared, type_told, is_storage_allowed}
use Rattle.c_typing.specs.Declarators.{Shape}
use Rattle.c_typing.specs.Typing.{first_of, TypesSpecs, TypesDeclarator}
use Rattle.c_typing.specs.Inits.{Initialised, TypesInit}
use Rattle.c_typing.specs.Context.{Context}
use Rattle.c_typing.specs.Decls as decls
use Rattle.c_typing.specs.Decls.{Declares, AnObject, NoObject, ObjectNow, Made, nothing_made, made_then, frame_for, TypesInitOf, TypesInitDeclarators, TypesDecl, is_struct_alone}
use Rattle.c_typing_laws.specs.DeclSteps.{MakesSize, as_it_was, by_count, MakesInit, no_object, bare, given, MakesDeclarators, none, one_more, MakesDecl}
use Rattle.c_typing_laws.proofs.Outcomes.{TypedAs, typed_as, refused_as, AllTyped, as_it_is, then_as, is_as, as_if, as_unless, as_limits, as_made, IsSo, is_so, IsKind, is_kind}
use Rattle.c_typing_laws.proofs.NamesMade.{StaysAt, stays_at, refused_at, MakesNamed, by_name, declared_as}

-- ---- initialisers

size_as : (w : World) (object : ObjectNow) (by : Initialised) → TypedAs (MakesSize w object by) (decls.measured w object by)
size_as w object by =
    let ty = decls.measured_type object.ty by.count in
    let size = decls.size_or_zero w ty in
    as_if object.measured
    (λ m. as_unless (by.count == 0) (NotConstant object.pos) (λ c. as_unless (nat_lt (2 ^ 40) size) (ObjectTooLarge object.pos (2 ^ 40)) (λ t.
    as_limits object.pos size w (typed_as (by_count m c (ltb-false (2 ^ 40) size t))))))
    (λ m. typed_as (as_it_was m))

given_as :
    {w u : World} {object : ObjectNow} {init : InitTree} {by : Initialised} (o : Outcome CTypeTree) → TypesInit w object.is_static object.ty (frame_for w object) init (Typed by u)
    → TypedAs (MakesSize u object by) o → TypedAs (MakesInit w (AnObject object) (Some init)) (decls.initialised u object by o)
given_as _ t (typed_as s) = typed_as (given t s)
given_as _ t refused_as = refused_as

init_as : (w : World) (what : Declares) (init : Option InitTree) → AllTyped (MakesInit w what init) (TypesInitOf w what init)
init_as w NoObject init = is_as (typed_as no_object)
init_as w (AnObject object) None = is_as (typed_as bare)
init_as w (AnObject object) (Some init) =
    then_as (as_it_is (TypesInit w object.is_static object.ty (frame_for w object) init)) (λ by u t. is_as (given_as (decls.measured u object by) t (size_as u object by)))

-- ---- declarators

more_made :
    {around : Context} {first : Pos} {storage : List StorageWord} {base : Form} {w u v x last : World} {done made all : Made} {item : InitDeclaratorTree} {rest : List InitDeclaratorTree}
    {shape : Shape} {what : Declares} → TypesDeclarator w item.declarator (Typed shape u)
    → IsSo (decls.declared u around first storage base (is_some item.init) shape) (MakesNamed around u storage base (is_some item.init) shape) what v
    → IsKind (TypesInitOf v what item.init) (MakesInit v what item.init) made x
    → MakesDeclarators around first storage base x (made_then done made) rest all last → MakesDeclarators around first storage base w done (item ∷ rest) all last
more_made {around} {first} {storage} {base} {w} {u} {v} {x} {last} {done} {made} {all} {item} {rest} {shape} {what} t n i r = by n.has
  where
    by : MakesNamed around u storage base (is_some item.init) shape what v → MakesDeclarators around first storage base w done (item ∷ rest) all last
    by (by_name e m) = one_more (record { declarator = t; name = n.so; init = i.is }) e m i.has r

declarators_as :
    (w : World) (around : Context) (first : Pos) (storage : List StorageWord) (base : Form) (done : Made) (items : List InitDeclaratorTree)
    → AllTyped (MakesDeclarators around first storage base w done items) (TypesInitDeclarators w around first storage base done items)
unfolding TypesInitDeclarators
declarators_as w around first storage base done [] = is_as (typed_as none)
declarators_as w around first storage base done (item ∷ rest) =
    then_as (as_it_is (TypesDeclarator w item.declarator)) (λ shape u t.
    then_as (is_so (declared_as around u first storage base (is_some item.init) shape)) (λ what v n.
    then_as (is_kind (init_as v what item.init)) (λ made x i o p. as_made (λ all last r. more_made t n i r) (declarators_as x around first storage base (made_then done made) rest o p))))

-- ---- declarations

-- the type of specs, in a world that stays
pub data IsTold (at : Pos) (s : SpecsTree) (w : World) : Form → World → Type 0 where
  is_told : {base : Form} → type_told OfDeclaration at s w ≡ Typed base w → IsTold at s w base w

pub told_as : (at : Pos) (s : SpecsTree) (w : World) → TypedAs (IsTold at s w) (type_told OfDeclaration at s w)
told_as at s w = by (type_told OfDeclaration at s w) refl (stays (is_storage_allowed OfDeclaration s.storage) _)
  where
    by : (o : Outcome Form) → type_told OfDeclaration at s w ≡ o → StaysAt w o → TypedAs (IsTold at s w) o
    by _ e stays_at = typed_as (is_told e)
    by _ e refused_at = refused_as

    undeclared : (form : Option Form) → StaysAt w (or_undeclared at form w)
    undeclared None = refused_at
    undeclared (Some form) = stays_at

    stays : (b : Bool) (form : Option Form) → StaysAt w (if b then or_undeclared at form w else Refused (Undeclared at))
    stays true form = undeclared form
    stays false form = refused_at

decl_made :
    {w u v x : World} {around : Context} {decl : DeclTree} {specs : SpecsTree} {base : Form} {made : Made} → TypesSpecs w (is_struct_alone decl.specs decl.inits) no_specs_yet decl.specs (Typed specs u)
    → IsTold (first_of decl.pos decl.specs) specs u base v → MakesDeclarators around (first_of decl.pos decl.specs) specs.storage base v nothing_made decl.inits made x → MakesDecl w around decl made x
decl_made {specs = specs} {base = base} t (is_told e) r = record { specs = specs; base = base; behind = _; types = t; told = e; rest = r }

pub decl_as : (w : World) (around : Context) (decl : DeclTree) → AllTyped (MakesDecl w around decl) (TypesDecl w around decl)
decl_as w around decl =
    then_as (as_it_is (TypesSpecs w (is_struct_alone decl.specs decl.inits) no_specs_yet decl.specs)) (λ s u t.
    then_as (is_as (told_as (first_of decl.pos decl.specs) s u)) (λ base v e o p.
    as_made (λ made x r. decl_made t e r) (declarators_as v around (first_of decl.pos decl.specs) s.storage base nothing_made decl.inits o p)))
