-- The names of a file stand for no types of other functions, in its bodies too.
use Rattle.std.proofs.Common.{◌≡◌, refl, subst}
use Rattle.std.proofs.lemmas.Bool.{false≢true}
use Rattle.std.specs.Prelude.{ℕ, Bool, true, false, Option, List, map, length, All}
use Rattle.std.proofs.lemmas.List.Elements.{All-nil, All-push, All-append, All-map, All-weaker, All-head, All-take}
use Rattle.c_syntax_written.specs.declared.place.Pos.{Pos}
use Rattle.c_syntax_written.specs.Written.{SpecTrees, DeclaratorTree}
use Rattle.c_syntax_written.specs.WrittenFile.{BlockItemTrees, OuterTree}
use Rattle.c_syntax.specs.Types.{CTypeTree}
use Rattle.c_typing.specs.World.{World, Form, Meaning, Object, Missing, Parameter, Function, TypeName, Enumeration, Binding, Typed}
use Rattle.c_typing.specs.Specifiers.{SpecsTree, no_specs_yet, OfDeclaration}
use Rattle.c_typing.specs.Declarators.{DeclaredName, ParameterTree, Step, FunctionOf, Shape}
use Rattle.c_typing.specs.Typing.{first_of}
use Rattle.c_typing.specs.Context.{Context, has_name, in_function}
use Rattle.c_typing.specs.Decls.{Made, nothing_made, new_function, is_function_so}
use Rattle.c_typing.specs.File.{Begun, as_object, with_object_meaning, definition_ends}
use Rattle.c_typing.proofs.Good.{Good}
use Rattle.c_typing_laws.specs.NameSteps.{MakesFunction, reserved_function, new_name, known_name}
use Rattle.c_typing_laws.specs.FileSteps as outers
use Rattle.c_typing_laws.specs.FileSteps.{TypesHead, IsCounted, counted, MakesHead, head, MakesOuter, MakesOuters, no_more, and_then}
use Rattle.c_typing_laws.specs.StmtSteps.{MakesItems}
use Rattle.c_typing_laws.proofs.Outcomes.{TypedAs, typed_from}
use Rattle.c_typing_laws.proofs.Reached.{head_facts}
use Rattle.c_typing_laws.proofs.Scalars.{IsScalarForm, IsScalarMeaning, ScalarNames, IsScalarStep, AreScalarSteps, scalar_calm, scalar_specs, told_scalar, scalar_declarator}
use Rattle.c_typing_laws.proofs.Keeps.{IsKept, decl_keeps, items_keep}

-- nothing but names
pub nothing_kept : (functions objects : List (List ℕ)) → IsKept functions objects (λ w. Unit {0})
nothing_kept functions objects = record {
  calm = λ w v good r p. tt;
  declared = λ around w v x storage steps base has_init named what init made f o h good s b t z n good2 is m r q p. tt;
  moved = λ w v same p. tt;
}

-- the head of a definition
pub record HeadScalar (base : Form) (shape : Shape) (u x : World) : Type 0 where
  pub before : ScalarNames u
  pub names : ScalarNames x
  pub steps : AreScalarSteps shape.steps
  pub form : IsScalarForm base

pub head_scalar :
    {w u x y : World} {around : Context} {at : Pos} {specs : SpecTrees} {declarator : DeclaratorTree} {s : SpecsTree} {base : Form} {shape : Shape} {begun : Begun}
    → Good w → ScalarNames w → TypesHead around at specs declarator s base shape begun w u x y → HeadScalar base shape u x
head_scalar {w} {u} {x} {y} {around} {at} {specs} {declarator} {s} {base} {shape} {begun} good all t =
    let facts = head_facts good t in
    let words = typed_from (scalar_specs w false no_specs_yet specs good all (All-nil IsScalarForm) (Typed s u) t.words) in
    let before = scalar_calm w u facts.calm all in record {
      before = before;
      names = scalar_calm u x facts.behind before;
      steps = typed_from (scalar_declarator u declarator facts.good before (Typed shape x) t.declarator_is);
      form = typed_from (subst (λ z. TypedAs (λ y v. IsScalarForm y) z) t.told (told_scalar OfDeclaration (first_of at specs) s u words));
    }

object_scalar : (first : ℕ) (m : Meaning) → IsScalarMeaning m → IsScalarMeaning (as_object first m)
object_scalar first (Object n) h = h
object_scalar first (Missing ty c) h = h
object_scalar first (Parameter k ty c) h = tt
object_scalar first (Function n) h = h
object_scalar first (TypeName form) h = h
object_scalar first (Enumeration n) h = h

objects_scalar : (first : ℕ) (names : List Binding) → All (λ b. IsScalarMeaning b.meaning) names → All (λ b. IsScalarMeaning b.meaning) (map (with_object_meaning first) names)
objects_scalar first names all =
    All-map (λ b. IsScalarMeaning b.meaning) (with_object_meaning first) names
    (All-weaker (λ b. IsScalarMeaning b.meaning) (λ b. IsScalarMeaning (with_object_meaning first b).meaning) (λ b h. object_scalar first b.meaning h) names all)

-- the names behind the declaration that a definition is
function_scalar :
    {around : Context} {w v : World} {named : DeclaredName} {params : List ParameterTree} {types : List CTypeTree} {result : CTypeTree} {n : Option ℕ}
    → MakesFunction around w named params types result true n v → ScalarNames w → ScalarNames v
function_scalar (reserved_function y b) all = all
function_scalar {around = around} {w = w} {named = named} {params = params} {types = types} {result = result} (new_name r e) all = by (has_name around.functions named.name)
  where
    by : (later : Bool) → ScalarNames (new_function w named later params types result)
    by true = All-push (λ x. IsScalarMeaning x.meaning) w.names _ all tt
    by false = All-push (λ x. IsScalarMeaning x.meaning) w.names _ all tt
function_scalar {w = w} {types = types} {result = result} (known_name l e so) all = All-push (λ x. IsScalarMeaning x.meaning) w.names _ all (known_body w types result l.meaning so)
  where
    known_body : (w : World) (types : List CTypeTree) (result : CTypeTree) (m : Meaning) → is_function_so w types result true m ≡ true → IsScalarMeaning m
    known_body w types result (Object n) e = tt
    known_body w types result (Missing ty c) e = tt
    known_body w types result (Parameter k ty c) e = tt
    known_body w types result (Function n) e = tt
    known_body w types result (TypeName form) e = absurd (false≢true e)
    known_body w types result (Enumeration n) e = tt

-- those in the scope of the body
pub body_scalar : {around : Context} {x y : World} {steps : List Step} {base : Form} {named : DeclaredName} {begun : Begun} → ScalarNames x → AreScalarSteps steps → MakesHead around x steps base named begun y → ScalarNames y
body_scalar {x = x} {y = y} all scalar (head {params = params} {names = names} {tags = tags} {rest = rest} {v = v} s e f counted) =
    All-append (λ b. IsScalarMeaning b.meaning) v.names _ (function_scalar f all)
    (objects_scalar _ names (All-head IsScalarStep (FunctionOf params names tags) rest (subst AreScalarSteps s scalar)).1)

-- behind the body
pub ended_scalar : (around : Context) (begun : Begun) {body : BlockItemTrees} {made : Made} {y z : World} (brace : Pos) → Good y → ScalarNames y → MakesItems y (in_function begun.result body around) nothing_made body made z
    → ScalarNames (definition_ends begun brace made z)
ended_scalar around begun {z = z} brace good all i =
    All-take (λ b. IsScalarMeaning b.meaning) (length begun.outside.names) z.names
    (items_keep (nothing_kept around.functions around.objects) refl refl good i (record { names = all; has = tt })).names

pub outer_scalar : {w v : World} {around : Context} {tree : OuterTree} → Good w → ScalarNames w → MakesOuter w around tree v → ScalarNames v
outer_scalar {around = around} good all (outers.declares d) = (decl_keeps (nothing_kept around.functions around.objects) refl refl good d (record { names = all; has = tt })).names
outer_scalar {around = around} good all (outers.defines {brace = brace} {begun = begun} t n h i) =
    let scalar = head_scalar good all t in ended_scalar around begun brace (head_facts good t).scope (body_scalar scalar.names scalar.steps h) i
