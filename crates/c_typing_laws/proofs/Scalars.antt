-- Functions take scalars, and give one or nothing, also those that a typedef name stands for.
use Rattle.std.proofs.Common.{◌≡◌, refl, sym, subst, inl, inr}
use Rattle.std.specs.Prelude.{◌⊎◌, ℕ, ℤ, pos, negsuc, nat_lt, Bool, true, false, if◌then◌else◌, Option, None, Some, option_map, List, [], ◌∷◌, ◌++◌, length, drop, reverse, find, bytes_eq, All}
use Rattle.std.proofs.lemmas.Bool.{false≢true}
use Rattle.std.proofs.lemmas.Option.{same_Some}
use Rattle.std.proofs.lemmas.List.Elements.{All-nil, All-push, All-append, All-head, All-map, All-weaker, All-drop}
use Rattle.c_syntax_written.specs.declared.place.Pos.{Pos}
use Rattle.c_syntax_written.specs.declared.written.TypeWord.{TypeWord}
use Rattle.c_syntax_written.specs.Written as written
use Rattle.c_syntax_written.specs.WrittenParts.{expr_pos}
use Rattle.c_layout.specs.RowTypes.{IsScalar}
use Rattle.c_layout.specs.WellTyped.{is_array}
use Rattle.c_syntax.specs.Types.{CTypeTree, Void, Int, Pointer, Array, Struct, Function}
use Rattle.c_typing.specs.World.{World, Form, Plain, Unsized, Callable, Meaning, Object, Missing, Parameter, TypeName, Enumeration, Binding, Outcome, Typed, Refused, Then, goes_on, stops, Is}
use Rattle.c_typing.specs.World as world
use Rattle.c_typing.specs.Names.{meaning_of, opened, struct_named, struct_opened, enum_named, enum_opened}
use Rattle.c_typing.specs.Constants.{constant_value}
use Rattle.c_typing.specs.Formed.{IsFormed, IsFormedForm}
use Rattle.c_typing.specs.Operands.{complete_size}
use Rattle.c_typing.specs.Specifiers.{SpecsTree, no_specs_yet, SpecPart, StoragePart, ConstPart, WordPart, TypePart, with_part, qualified, named_type, type_by_words, Place, OfPlainType, type_told, or_undeclared, is_storage_allowed}
use Rattle.c_typing.specs.Specifiers as places
use Rattle.c_typing.specs.Declarators.{DeclaredName, ParameterTree, Step, PointerTo, ArrayOf, OpenArray, FunctionOf, Shape, step_form, after_step, laid, types_of_params, parameter_type, place_of, result_form}
use Rattle.c_typing.specs.Typing.{first_of, TypesSpecs, TypesSpec, TypesDeclarator, TypesParams, TypesMembers, TypesEnumerators, Types, Valued, array_sized, with_step, struct_made, parameter_of, parameter_laid, parameter_made, parameter_sized, unless_named_before, parameter_tree, with_parameter, OfParameter}
use Rattle.c_typing.proofs.Changes.{Constants, Names, MayName, NamesAny}
use Rattle.c_typing.proofs.Good.{Good, is_later}
use Rattle.c_typing.proofs.Later.{form_later}
use Rattle.c_typing.proofs.FormsGo.{FormAt, formed_at, AreFormedSteps, laid_at, type_told_at, found_each, mapped, all_reverse, no_some, parameter_formed}
use Rattle.c_typing.proofs.Reaches.{Reaches, kept, quiet, enters, AllWith}
use Rattle.c_typing.proofs.TypesGo.{none_yet, steps_formed, go_specs, go_spec, go_declarator, of_parameter}
use Rattle.c_typing_laws.proofs.Outcomes.{TypedAs, typed_as, refused_as, typed_from, AllTyped, as_it_is, then_as, is_as, as_if, as_size, as_declared}
use Rattle.c_typing_laws.proofs.Reached.{reached_so, has_so, good_by}

-- the type of a function: scalars, and one or nothing
abbrev pub IsScalarForm : Form → Type 0
IsScalarForm (Plain ty c) = Unit {0}
IsScalarForm (Unsized of c) = Unit {0}
IsScalarForm (Callable params result) = All IsScalar params × (IsScalar result ⊎ (result ≡ Void))

abbrev pub IsScalarMeaning : Meaning → Type 0
IsScalarMeaning (Object n) = Unit {0}
IsScalarMeaning (Missing ty c) = Unit {0}
IsScalarMeaning (Parameter k ty c) = Unit {0}
IsScalarMeaning (world.Function n) = Unit {0}
IsScalarMeaning (TypeName form) = IsScalarForm form
IsScalarMeaning (Enumeration n) = Unit {0}

abbrev pub ScalarNames : World → Type 0
ScalarNames w = All (λ b. IsScalarMeaning b.meaning) w.names

abbrev pub IsScalarStep : Step → Type 0
IsScalarStep (PointerTo c) = Unit {0}
IsScalarStep (ArrayOf at n) = Unit {0}
IsScalarStep OpenArray = Unit {0}
IsScalarStep (FunctionOf params names tags) = All (λ p. IsScalar p.ty) params × All (λ b. IsScalarMeaning b.meaning) names

abbrev pub AreScalarSteps : List Step → Type 0
AreScalarSteps steps = All IsScalarStep steps

-- constants are no types
constant_scalar : (m : Meaning) → MayName Constants m → IsScalarMeaning m
constant_scalar (Object n) h = tt
constant_scalar (Missing ty c) h = tt
constant_scalar (Parameter k ty c) h = tt
constant_scalar (world.Function n) h = tt
constant_scalar (TypeName form) h = absurd h
constant_scalar (Enumeration n) h = tt

pub scalar_calm : (w v : World) → Reaches Constants w v → ScalarNames w → ScalarNames v
scalar_calm w v r all =
    let still = quiet Constants w v r in
    subst (All (λ b. IsScalarMeaning b.meaning)) (sym still.names)
    (All-append (λ b. IsScalarMeaning b.meaning) w.names still.extra all
    (All-weaker (λ b. MayName Constants b.meaning) (λ b. IsScalarMeaning b.meaning) (λ b h. constant_scalar b.meaning h) still.extra still.declared))

-- ---- specs

abbrev IsScalarPart : SpecPart → Type 0
IsScalarPart (StoragePart word) = Unit {0}
IsScalarPart ConstPart = Unit {0}
IsScalarPart (WordPart word) = Unit {0}
IsScalarPart (TypePart form) = IsScalarForm form

scalar_part : (s : SpecsTree) (part : SpecPart) → All IsScalarForm s.types → IsScalarPart part → All IsScalarForm (with_part s part).types
scalar_part s (StoragePart word) all p = all
scalar_part s ConstPart all p = all
scalar_part s (WordPart word) all p = all
scalar_part s (TypePart form) all p = All-push IsScalarForm s.types form all p

meaning_scalar : (w : World) (name : List ℕ) (m : Meaning) → ScalarNames w → meaning_of w name ≡ Some m → IsScalarMeaning m
meaning_scalar w name m all e =
    mapped (λ b. b.meaning) (find (λ b. bytes_eq b.name name) (reverse w.names)) m IsScalarMeaning (λ b q.
    found_each (λ c. IsScalarMeaning c.meaning) (λ c. bytes_eq c.name name) (reverse w.names) b (all_reverse (λ c. IsScalarMeaning c.meaning) w.names all) q) e

typedef_scalar : (w : World) (at : Pos) (m : Option Meaning) → ((meaning : Meaning) → m ≡ Some meaning → IsScalarMeaning meaning) → TypedAs (λ part v. IsScalarPart part) (Rattle.c_typing.specs.Typing.typedef_named w at m)
typedef_scalar w at None f = refused_as
typedef_scalar w at (Some (Object n)) f = refused_as
typedef_scalar w at (Some (Missing ty c)) f = refused_as
typedef_scalar w at (Some (Parameter k ty c)) f = refused_as
typedef_scalar w at (Some (world.Function n)) f = refused_as
typedef_scalar w at (Some (TypeName form)) f = typed_as (f (TypeName form) refl)
typedef_scalar w at (Some (Enumeration n)) f = refused_as

scalar_spec : (w : World) (alone : Bool) (spec : written.SpecTree) → ScalarNames w → AllTyped (λ part v. IsScalarPart part) (TypesSpec w alone spec)
unfolding TypesSpec
scalar_spec w alone (written.Storage at word) all = is_as (typed_as tt)
scalar_spec w alone (written.Const at) all = is_as (typed_as tt)
scalar_spec w alone (written.Basic at word) all = is_as (typed_as tt)
scalar_spec w alone (written.TypedefName at name) all = is_as (typedef_scalar w at (meaning_of w name) (λ m e. meaning_scalar w name m all e))
scalar_spec w alone (written.Struct at tag) all = then_as (as_it_is (Is (struct_named w alone tag))) (λ n v p. is_as (typed_as tt))
scalar_spec w alone (written.StructBody at tag members) all =
    then_as (as_it_is (Is (struct_opened w tag))) (λ n v p. then_as (as_it_is (TypesMembers v [] members)) (λ done u q. is_as (typed_as tt)))
scalar_spec w alone (written.Enum at tag) all = then_as (as_it_is (Is (enum_named w tag))) (λ unit v p. is_as (typed_as tt))
scalar_spec w alone (written.EnumBody at tag list) all =
    then_as (as_it_is (Is (enum_opened w tag))) (λ unit v p. then_as (as_it_is (TypesEnumerators v (pos 0) list)) (λ next u q. is_as (typed_as tt)))

-- a part, with how its world is reached
record ScalarIn {A : Type 0} (w : World) (P : A → Type 0) (a : A) (v : World) : Type 0 where
  calm : Reaches Constants w v
  has : P a

with_calm : {A : Type 0} {w : World} {Q : A → World → Type 0} {P : A → Type 0} {kind : Outcome A → Type 0} → Good w → AllWith Constants w Q kind → AllTyped (λ a v. P a) kind → AllTyped (ScalarIn w P) kind
with_calm good f g (Typed a v) p = typed_as (record { calm = reached_so (f good (Typed a v) p); has = typed_from (g (Typed a v) p) })
with_calm good f g (Refused r) p = refused_as

pub scalar_specs : (w : World) (alone : Bool) (done : SpecsTree) (specs : written.SpecTrees) → Good w → ScalarNames w → All IsScalarForm done.types → AllTyped (λ s v. All IsScalarForm s.types) (TypesSpecs w alone done specs)
unfolding TypesSpecs
scalar_specs w alone done written.no_specs good all d = is_as (typed_as d)
scalar_specs w alone done (written.more_specs spec rest) good all d =
    then_as (with_calm good (go_spec w alone spec) (scalar_spec w alone spec all)) (λ part u p.
    scalar_specs u alone (with_part done part) rest (good_by good p.calm) (scalar_calm w u p.calm all) (scalar_part done part d p.has))

-- the type that specs tell

plain_scalar : (ty : CTypeTree) (array c d : Bool) → IsScalarForm (if array then Plain (places.with_const_elements ty c) false else Plain ty d)
plain_scalar ty true c d = tt
plain_scalar ty false c d = tt

open_scalar : (of : CTypeTree) (array c d : Bool) → IsScalarForm (if array then Unsized (places.with_const_elements of c) false else Unsized of d)
open_scalar of true c d = tt
open_scalar of false c d = tt

qualified_scalar : (c : Bool) (form : Form) → IsScalarForm form → IsScalarForm (qualified c form)
qualified_scalar c (Plain ty d) f = plain_scalar ty (is_array ty) c _
qualified_scalar c (Unsized of d) f = open_scalar of (is_array of) c _
qualified_scalar c (Callable params result) f = f

word_scalar : (o : Option CTypeTree) (form : Form) → option_map (λ t. Plain t false) o ≡ Some form → IsScalarForm form
word_scalar None form e = no_some form e
word_scalar (Some ty) form e = subst IsScalarForm (same_Some (Plain ty false) form e) tt

named_scalar : (words : List TypeWord) (types : List Form) (form : Form) → All IsScalarForm types → named_type words types ≡ Some form → IsScalarForm form
named_scalar words [] form all e = word_scalar (type_by_words words) form e
named_scalar [] (f ∷ []) form all e = subst IsScalarForm (same_Some f form e) (All-head IsScalarForm f [] all)
named_scalar [] (f ∷ (g ∷ rest)) form all e = no_some form e
named_scalar (w ∷ ws) (f ∷ rest) form all e = no_some form e

form_scalar : (at : Pos) (c : Bool) (o : Option Form) (w : World) → ((form : Form) → o ≡ Some form → IsScalarForm form) → TypedAs (λ base v. IsScalarForm base) (or_undeclared at (option_map (qualified c) o) w)
form_scalar at c None w f = refused_as
form_scalar at c (Some form) w f = typed_as (qualified_scalar c form (f form refl))

pub told_scalar : (place : Place) (at : Pos) (s : SpecsTree) (w : World) → All IsScalarForm s.types → TypedAs (λ base v. IsScalarForm base) (type_told place at s w)
told_scalar place at s w all =
    as_if (is_storage_allowed place s.storage) (λ e. form_scalar at s.is_const (named_type s.words s.types) w (λ form q. named_scalar s.words s.types form all q)) (λ e. refused_as)

-- ---- declarators that are laid

result_scalar : (w : World) (at : Pos) (params : List CTypeTree) (ty : CTypeTree) → IsFormed w.structs ty → All IsScalar params → TypedAs (λ form v. IsScalarForm form) (result_form w at params ty)
result_scalar w at params Void f all = typed_as (all, inr refl)
result_scalar w at params (Int t) f all = typed_as (all, inl tt)
result_scalar w at params (Pointer to c) f all = typed_as (all, inl tt)
result_scalar w at params (Array of c n) f all = refused_as
result_scalar w at params (Struct n) f all = refused_as
result_scalar w at params (Function n) f all = absurd f

step_scalar : (w : World) (at : Pos) (step : Step) (form : Form) → IsFormedForm w.structs form → IsScalarStep step → TypedAs (λ f v. IsScalarForm f) (step_form w at step form)
step_scalar w at (PointerTo c) (Plain ty d) f s = typed_as tt
step_scalar w at (PointerTo c) (Unsized of d) f s = refused_as
step_scalar w at (PointerTo c) (Callable params result) f s = refused_as
step_scalar w at (ArrayOf size_at n) (Plain ty d) f s = as_size _ _ (complete_size w.structs ty) (λ size e. as_if _ (λ h. refused_as) (λ h. typed_as tt))
step_scalar w at (ArrayOf size_at n) (Unsized of d) f s = refused_as
step_scalar w at (ArrayOf size_at n) (Callable params result) f s = refused_as
step_scalar w at OpenArray (Plain ty d) f s = as_size _ _ (complete_size w.structs ty) (λ size e. typed_as tt)
step_scalar w at OpenArray (Unsized of d) f s = refused_as
step_scalar w at OpenArray (Callable params result) f s = refused_as
step_scalar w at (FunctionOf params names tags) (Plain ty d) f s = result_scalar w at (types_of_params params) ty f (All-map IsScalar (λ p. p.ty) params s.0)
step_scalar w at (FunctionOf params names tags) (Unsized of d) f s = refused_as
step_scalar w at (FunctionOf params names tags) (Callable types result) f s = refused_as

after_scalar : {w : World} (at : Pos) (step : Step) (o : Outcome Form) → FormAt w o → IsScalarStep step → TypedAs (λ f v. IsScalarForm f) (after_step w at step o)
after_scalar {w = w} at step (Typed form _) (formed_at _ f) s = step_scalar w at step form f s
after_scalar at step (Refused r) f s = refused_as

pub laid_scalar : (w : World) (at : Pos) (steps : List Step) (base : Form) → AreFormedSteps w.structs steps → IsFormedForm w.structs base → AreScalarSteps steps → IsScalarForm base
    → TypedAs (λ f v. IsScalarForm f) (laid w at steps base)
unfolding laid
laid_scalar w at [] base s f scalar b = typed_as b
laid_scalar w at (step ∷ rest) base s f scalar b = after_scalar at step (laid w at rest base) (laid_at w at rest base s.1 f) (All-head IsScalarStep step rest scalar)

-- ---- parameters

-- the type of a parameter is no array
abbrev IsNoArray : Form → Type 0
IsNoArray (Plain ty c) = is_array ty ≡ false
IsNoArray (Unsized of c) = Unit {0}
IsNoArray (Callable params result) = Unit {0}

no_array : (form : Form) → IsNoArray (parameter_type form)
no_array (Plain Void c) = refl
no_array (Plain (Int t) c) = refl
no_array (Plain (Pointer to d) c) = refl
no_array (Plain (Array of d n) c) = refl
no_array (Plain (Struct n) c) = refl
no_array (Plain (Function n) c) = refl
no_array (Unsized of c) = refl
no_array (Callable params result) = tt

named_before : {P : ParameterTree → World → Type 0} (w : World) (name : Option DeclaredName) {o : Outcome ParameterTree} → TypedAs P o → TypedAs P (unless_named_before w name o)
named_before w None p = p
named_before w (Some named) p = as_declared named.pos _ (λ e. p)

-- a parameter is a scalar, and its name is no type
record ScalarParam (w : World) (param : ParameterTree) (v : World) : Type 0 where
  scalar : IsScalar param.ty
  names : ScalarNames w → ScalarNames v

named_parameter : (w : World) (name : Option DeclaredName) (k : ℕ) (ty : CTypeTree) (c : Bool) → ScalarNames w → ScalarNames (with_parameter w name (Parameter k ty c))
named_parameter w None k ty c all = all
named_parameter w (Some named) k ty c all = All-push (λ b. IsScalarMeaning b.meaning) w.names _ all tt

scalar_one : (w : World) (at : Pos) (name : Option DeclaredName) (k : ℕ) (ty : CTypeTree) (c : Bool) → IsScalar ty
    → TypedAs (ScalarParam w) (unless_named_before w name (Typed (parameter_tree at name ty c) (with_parameter w name (Parameter k ty c))))
scalar_one w at name k ty c s = named_before w name (typed_as (record { scalar = s; names = λ all. named_parameter w name k ty c all }))

scalar_sized : (w : World) (at : Pos) (name : Option DeclaredName) (k : ℕ) (ty : CTypeTree) (c : Bool) (size : ℕ) → IsFormed w.structs ty → is_array ty ≡ false → complete_size w.structs ty ≡ Some size
    → TypedAs (ScalarParam w) (parameter_sized w at name k ty c)
scalar_sized w at name k Void c size f a e = no_some size e
scalar_sized w at name k (Int t) c size f a e = scalar_one w at name k (Int t) c tt
scalar_sized w at name k (Pointer to d) c size f a e = scalar_one w at name k (Pointer to d) c tt
scalar_sized w at name k (Array of d n) c size f a e = absurd (false≢true (sym a))
scalar_sized w at name k (Struct n) c size f a e = named_before w name refused_as
scalar_sized w at name k (Function n) c size f a e = absurd f

scalar_of : (w : World) (at : Pos) (name : Option DeclaredName) (k : ℕ) (form : Form) → IsFormedForm w.structs form → IsNoArray form → TypedAs (ScalarParam w) (parameter_of w at name k form)
scalar_of w at name k (Plain ty c) f a = as_size _ _ (complete_size w.structs ty) (λ size e. scalar_sized w at name k ty c size f a e)
scalar_of w at name k (Unsized of c) f a = named_before w name refused_as
scalar_of w at name k (Callable params result) f a = named_before w name refused_as

scalar_laid : {w : World} (at : Pos) (name : Option DeclaredName) (k : ℕ) (o : Outcome Form) → FormAt w o → TypedAs (ScalarParam w) (parameter_laid at name k o)
scalar_laid {w = w} at name k (Typed form _) (formed_at _ f) = scalar_of w at name k (parameter_type form) (parameter_formed w.structs form f) (no_array form)
scalar_laid at name k (Refused r) f = refused_as

scalar_array : (w : World) (at : Pos) (shape : Shape) (n : Option ℤ) → AreScalarSteps shape.steps → TypedAs (λ s v. AreScalarSteps s.steps) (array_sized w at shape n)
scalar_array w at shape None s = refused_as
scalar_array w at shape (Some (pos n)) s = as_if (nat_lt 0 n) (λ e. typed_as (All-push IsScalarStep shape.steps (ArrayOf at n) s tt)) (λ e. refused_as)
scalar_array w at shape (Some (negsuc n)) s = refused_as

-- a part, and the good world behind it, whose names are no types of other functions
pub record ScalarBehind {A : Type 0} (P : A → Type 0) (Q : A → World → Type 0) (w : World) (a : A) (v : World) : Type 0 where
  pub reach : Reaches Constants w v
  pub good : Good v
  pub names : ScalarNames v
  pub has : P a
  pub also : Q a v

pub behind_calm : {A : Type 0} {w : World} {P : A → Type 0} {Q : A → World → Type 0} {kind : Outcome A → Type 0} → Good w → ScalarNames w → AllWith Constants w Q kind → AllTyped (λ a v. P a) kind
    → AllTyped (ScalarBehind P Q w) kind
behind_calm {w = w} good all f g (Typed a v) p =
    let h = f good (Typed a v) p in
    let r = reached_so h in
    typed_as (record { reach = r; good = good_by good r; names = scalar_calm w v r all; has = typed_from (g (Typed a v) p); also = has_so h })
behind_calm good all f g (Refused r) p = refused_as

-- a type that is told, in a world that stays
then_told :
    {B : Type 0} {w : World} {x : Outcome Form} {Q : B → World → Type 0} {next : Form → World → Outcome B → Type 0} → FormAt w x → TypedAs (λ base v. IsScalarForm base) x
    → ((base : Form) → IsFormedForm w.structs base → IsScalarForm base → AllTyped Q (next base w)) → AllTyped Q (Then (Is x) next)
then_told {w = w} {Q = Q} {next = next} f s g o (goes_on {a = base} {w = v} p q) = by (subst (λ z. FormAt w z) (sym p) f) (subst (λ z. TypedAs (λ base v. IsScalarForm base) z) (sym p) s) q
  where
    by : {u : World} → FormAt w (Typed base u) → TypedAs (λ form v. IsScalarForm form) (Typed base u) → next base u o → TypedAs Q o
    by (formed_at _ h) t q = g base h (typed_from t) o q
then_told f s g _ (stops p) = refused_as

-- the world behind a parameter is good
record GoodParam (w : World) (param : ParameterTree) (v : World) : Type 0 where
  scalar : ScalarParam w param v
  good : Good v

param_good : {w : World} {Q : ParameterTree → World → Type 0} {kind : Outcome ParameterTree → Type 0} → Good w → AllWith Names w Q kind → AllTyped (ScalarParam w) kind → AllTyped (GoodParam w) kind
param_good good f g (Typed a v) p = typed_as (record { scalar = typed_from (g (Typed a v) p); good = good_by good (reached_so (f good (Typed a v) p)) })
param_good good f g (Refused r) p = refused_as

-- a list of parameters, and the names that it declares
record ScalarList (list : List ParameterTree) (v : World) : Type 0 where
  params : All (λ p. IsScalar p.ty) list
  names : ScalarNames v

-- in an earlier world
param_from : {w x : World} {o : Outcome ParameterTree} → ScalarNames x → TypedAs (ScalarParam x) o → TypedAs (ScalarParam w) o
param_from all (typed_as p) = typed_as (record { scalar = p.scalar; names = λ before. p.names all })
param_from all refused_as = refused_as

any_name : NamesAny Names
any_name m = tt

scalar_parameter :
    (k : ℕ) (at : Pos) (specs : written.SpecTrees) (declarator : written.DeclaratorTree) (w : World) → Good w → ScalarNames w
    → ((u : World) → Good u → ScalarNames u → AllTyped (λ shape v. AreScalarSteps shape.steps) (TypesDeclarator u declarator))
    → AllTyped (ScalarParam w) (OfParameter k (first_of at specs) (TypesSpecs w false no_specs_yet specs) (λ v. TypesDeclarator v declarator))
scalar_parameter k at specs declarator w good all inner =
    then_as (behind_calm good all (go_specs w false no_specs_yet specs (none_yet w)) (scalar_specs w false no_specs_yet specs good all (All-nil IsScalarForm))) (λ s u b.
    then_told (type_told_at places.OfParameter (first_of at specs) s u b.also) (told_scalar places.OfParameter (first_of at specs) s u b.has) (λ base f t.
    then_as (behind_calm b.good b.names (go_declarator u declarator) (inner u b.good b.names)) (λ shape x d.
    is_as (param_from d.names (scalar_laid (place_of (first_of at specs) shape) shape.name k (laid x (place_of (first_of at specs) shape) shape.steps base)
    (laid_at x (place_of (first_of at specs) shape) shape.steps base (steps_formed u x shape.steps d.also)
    (form_later u.structs x.structs (is_later u x b.good d.good (kept u x d.reach b.good).frame) base f)))))))

mutual
  unfolding TypesDeclarator TypesParams

  pub scalar_declarator : (w : World) (d : written.DeclaratorTree) → Good w → ScalarNames w → AllTyped (λ shape v. AreScalarSteps shape.steps) (TypesDeclarator w d)
  scalar_declarator w written.Absent good all = is_as (typed_as (All-nil IsScalarStep))
  scalar_declarator w (written.Name at name) good all = is_as (typed_as (All-nil IsScalarStep))
  scalar_declarator w (written.Grouped at inner) good all = scalar_declarator w inner good all
  scalar_declarator w (written.Pointer at c inner) good all =
      then_as (scalar_declarator w inner good all) (λ shape v s. is_as (typed_as (All-push IsScalarStep shape.steps (PointerTo c) s tt)))
  scalar_declarator w (written.Array at inner size) good all =
      then_as (scalar_declarator w inner good all) (λ shape v s. then_as (as_it_is (Valued (Types v size))) (λ x u p. is_as (scalar_array u (expr_pos size) shape (constant_value x) s)))
  scalar_declarator w (written.OpenArray at inner) good all =
      then_as (scalar_declarator w inner good all) (λ shape v s. is_as (typed_as (All-push IsScalarStep shape.steps OpenArray s tt)))
  scalar_declarator w (written.Function at inner params) good all =
      then_as (behind_calm good all (go_declarator w inner) (scalar_declarator w inner good all)) (λ shape v b.
      then_as (scalar_params (opened v) [] params (enters b.good) b.names (All-nil (λ p. IsScalar p.ty))) (λ list u s.
      is_as (typed_as (All-push IsScalarStep shape.steps (FunctionOf list (drop (length v.names) u.names) (drop (length v.tags) u.tags)) b.has (s.params, All-drop (λ x. IsScalarMeaning x.meaning) (length v.names) u.names s.names)))))
  scalar_declarator w (written.VoidFunction at inner) good all =
      then_as (scalar_declarator w inner good all) (λ shape v s. is_as (typed_as (All-push IsScalarStep shape.steps (FunctionOf [] [] []) s (All-nil (λ p. IsScalar p.ty), All-nil (λ b. IsScalarMeaning b.meaning)))))

  scalar_params : (w : World) (done : List ParameterTree) (params : written.ParamTrees) → Good w → ScalarNames w → All (λ p. IsScalar p.ty) done
      → AllTyped ScalarList (TypesParams w done params)
  scalar_params w done written.no_params good all d = is_as (typed_as (record { params = d; names = all }))
  scalar_params w done (written.more_params (written.Named at specs declarator) rest) good all d =
      then_as (param_good good (of_parameter (length done) (first_of at specs) any_name (go_specs w false no_specs_yet specs (none_yet w)) (λ v. go_declarator v declarator))
      (scalar_parameter (length done) at specs declarator w good all (λ v g n. scalar_declarator v declarator g n))) (λ param u p.
      scalar_params u (done ++ param ∷ []) rest p.good (p.scalar.names all) (All-push (λ q. IsScalar q.ty) done param d p.scalar.scalar))
  scalar_params w done (written.more_params (written.Abstract at specs declarator) rest) good all d =
      then_as (param_good good (of_parameter (length done) (first_of at specs) any_name (go_specs w false no_specs_yet specs (none_yet w)) (λ v. go_declarator v declarator))
      (scalar_parameter (length done) at specs declarator w good all (λ v g n. scalar_declarator v declarator g n))) (λ param u p.
      scalar_params u (done ++ param ∷ []) rest p.good (p.scalar.names all) (All-push (λ q. IsScalar q.ty) done param d p.scalar.scalar))
