-- The names of a parameter list stand for its parameters.
use Rattle.std.proofs.Common.{◌≡◌, ℕ, ◌+◌, ◌<◌, ◌≤◌, ℤ, false, List, [], ◌∷◌, ◌++◌, length, refl, ap, sym, subst, ◌∙◌, arith}
use Rattle.std.specs.Prelude.{Bool, nat_lt, Option, None, Some, option_map, All, drop, pos, negsuc}
use Rattle.std.proofs.lemmas.List.{append-nil, append_assoc, length_push}
use Rattle.std.proofs.lemmas.List.Elements.{All-nil, All-push, All-append, All-weaker}
use Rattle.std.proofs.Math.Seq.{drop-append_seam}
use Rattle.c_syntax_written.specs.declared.place.Pos.{Pos}
use Rattle.c_syntax_written.specs.Written as written
use Rattle.c_syntax_written.specs.WrittenParts.{expr_pos}
use Rattle.c_syntax.specs.Types.{CTypeTree, Void, Int, Pointer, Array, Struct, Function}
use Rattle.c_typing.specs.World.{World, Form, Plain, Unsized, Callable, Meaning, Object, Missing, Parameter, TypeName, Enumeration, Binding, Outcome, Typed, Refused}
use Rattle.c_typing.specs.World as world
use Rattle.c_typing.specs.Names.{opened}
use Rattle.c_typing.specs.Constants.{constant_value}
use Rattle.c_typing.specs.Operands.{complete_size}
use Rattle.c_typing.specs.Specifiers.{SpecsTree, no_specs_yet, Place, or_undeclared, qualified, named_type, is_storage_allowed, type_told}
use Rattle.c_typing.specs.Specifiers as places
use Rattle.c_typing.specs.Declarators.{DeclaredName, ParameterTree, Step, PointerTo, ArrayOf, OpenArray, FunctionOf, Shape, place_of, laid, parameter_type}
use Rattle.c_typing.specs.Typing.{Types, first_of, TypesSpecs, TypesDeclarator, TypesParams, Valued, array_sized, unless_named_before, with_parameter, parameter_tree, parameter_sized, parameter_of, parameter_laid, OfParameter}
use Rattle.c_typing.proofs.Changes.{Changes, Constants, Names, NamesAny, MayName}
use Rattle.c_typing.proofs.Good.{Good}
use Rattle.c_typing.proofs.Reaches.{Reaches, quiet, AllWith, enters}
use Rattle.c_typing.proofs.TypesGo.{none_yet, go_specs, go_declarator, of_parameter}
use Rattle.c_typing_laws.proofs.Outcomes.{TypedAs, typed_as, refused_as, typed_from, AllTyped, as_it_is, then_as, is_as, as_if, as_declared, as_size}
use Rattle.c_typing_laws.proofs.NamesMade.{StaysAt, stays_at, laid_stays}
use Rattle.c_typing_laws.proofs.Reached.{good_by, reached_so}

-- one of so many parameters, or an enumeration constant
abbrev pub IsParamName : ℕ → Meaning → Type 0
IsParamName n (Parameter k ty c) = k < n
IsParamName n (Enumeration i) = Unit {0}
IsParamName n m = ⊥

param_more : (m n : ℕ) → m ≤ n → (x : Meaning) → IsParamName m x → IsParamName n x
param_more m n l (Object k) h = h
param_more m n l (Missing ty c) h = h
param_more m n l (Parameter k ty c) h = omega arith
param_more m n l (world.Function k) h = h
param_more m n l (TypeName form) h = h
param_more m n l (Enumeration i) h = h

constant_name : (n : ℕ) (m : Meaning) → MayName Constants m → IsParamName n m
constant_name n (Object k) h = absurd h
constant_name n (Missing ty c) h = absurd h
constant_name n (Parameter k ty c) h = absurd h
constant_name n (world.Function k) h = absurd h
constant_name n (TypeName form) h = absurd h
constant_name n (Enumeration i) h = tt

abbrev pub AreParamNames : ℕ → List Binding → Type 0
AreParamNames n names = All (λ b. IsParamName n b.meaning) names

-- behind the names of one world stand those of so many parameters
pub record Behind (front : List Binding) (n : ℕ) (w : World) : Type 0 where
  pub extra : List Binding
  pub names : w.names ≡ front ++ extra
  pub all : AreParamNames n extra

behind_none : (w : World) (n : ℕ) → Behind w.names n w
behind_none w n = record { extra = []; names = sym (append-nil w.names); all = All-nil (λ b. IsParamName n b.meaning) }

behind_calm : {front : List Binding} {n : ℕ} {w v : World} → Behind front n w → Reaches Constants w v → Behind front n v
behind_calm {front} {n} {w} {v} b r =
    let still = quiet Constants w v r in record {
      extra = b.extra ++ still.extra;
      names = still.names ∙ ap (λ l. l ++ still.extra) b.names ∙ append_assoc front b.extra still.extra;
      all = All-append (λ x. IsParamName n x.meaning) b.extra still.extra b.all
          (All-weaker (λ x. MayName Constants x.meaning) (λ x. IsParamName n x.meaning) (λ x h. constant_name n x.meaning h) still.extra still.declared);
    }

behind_more : {front : List Binding} {n : ℕ} {w : World} (m : ℕ) → n ≤ m → Behind front n w → Behind front m w
behind_more {n = n} m l b = record { extra = b.extra; names = b.names; all = All-weaker (λ x. IsParamName n x.meaning) (λ x. IsParamName m x.meaning) (λ x h. param_more n m l x.meaning h) b.extra b.all }

with_param : {front : List Binding} {k : ℕ} {w : World} (name : Option DeclaredName) (ty : CTypeTree) (c : Bool) → Behind front k w → Behind front (k + 1) (with_parameter w name (Parameter k ty c))
with_param {k = k} None ty c b = behind_more (k + 1) (omega arith) b
with_param {front} {k} {w} (Some named) ty c b =
    let x : Binding = record { name = named.name; pos = named.pos; meaning = Parameter k ty c } in
    let l = behind_more (k + 1) (omega arith) b in record {
      extra = l.extra ++ x ∷ [];
      names = ap (λ names. names ++ x ∷ []) l.names ∙ append_assoc front l.extra (x ∷ []);
      all = All-push (λ y. IsParamName (k + 1) y.meaning) l.extra x l.all (omega arith);
    }

-- ---- one parameter

named_before : {P : ParameterTree → World → Type 0} (w : World) (name : Option DeclaredName) {o : Outcome ParameterTree} → TypedAs P o → TypedAs P (unless_named_before w name o)
named_before w None p = p
named_before w (Some named) p = as_declared named.pos _ (λ e. p)

abbrev Adds : List Binding → ℕ → ParameterTree → World → Type 0
Adds front k param v = Behind front (k + 1) v

one_adds : {front : List Binding} {k : ℕ} {w : World} (at : Pos) (name : Option DeclaredName) (ty : CTypeTree) (c : Bool) → Behind front k w
    → TypedAs (Adds front k) (unless_named_before w name (Typed (parameter_tree at name ty c) (with_parameter w name (Parameter k ty c))))
one_adds {w = w} at name ty c b = named_before w name (typed_as (with_param name ty c b))

sized_adds : {front : List Binding} {k : ℕ} {w : World} (at : Pos) (name : Option DeclaredName) (ty : CTypeTree) (c : Bool) → Behind front k w → TypedAs (Adds front k) (parameter_sized w at name k ty c)
sized_adds at name Void c b = one_adds at name Void c b
sized_adds at name (Int t) c b = one_adds at name (Int t) c b
sized_adds at name (Pointer to d) c b = one_adds at name (Pointer to d) c b
sized_adds at name (Array of d n) c b = one_adds at name (Array of d n) c b
sized_adds {w = w} at name (Struct n) c b = named_before w name refused_as
sized_adds at name (Function n) c b = one_adds at name (Function n) c b

of_adds : {front : List Binding} {k : ℕ} {w : World} (at : Pos) (name : Option DeclaredName) (form : Form) → Behind front k w → TypedAs (Adds front k) (parameter_of w at name k form)
of_adds {w = w} at name (Plain ty c) b = as_size _ _ (complete_size w.structs ty) (λ size e. sized_adds at name ty c b)
of_adds {w = w} at name (Unsized of c) b = named_before w name refused_as
of_adds {w = w} at name (Callable params result) b = named_before w name refused_as

laid_adds : {front : List Binding} {k : ℕ} {w : World} (at : Pos) (name : Option DeclaredName) (o : Outcome Form) → StaysAt w o → Behind front k w → TypedAs (Adds front k) (parameter_laid at name k o)
laid_adds at name (Typed form _) stays_at b = of_adds at name (parameter_type form) b
laid_adds at name (Refused r) s b = refused_as

told_stays : (place : Place) (at : Pos) (s : SpecsTree) (w : World) → TypedAs (λ base v. v ≡ w) (type_told place at s w)
told_stays place at s w = as_if (is_storage_allowed place s.storage) (λ e. by (option_map (qualified s.is_const) (named_type s.words s.types))) (λ e. refused_as)
  where
    by : (o : Option Form) → TypedAs (λ base v. v ≡ w) (or_undeclared at o w)
    by None = refused_as
    by (Some form) = typed_as refl

-- with how its world is reached
record Reached (may : Changes) (w v : World) : Type 0 where
  reach : Reaches may w v
  good : Good v

reached : {may : Changes} {A : Type 0} {w : World} {Q : A → World → Type 0} {kind : Outcome A → Type 0} → Good w → AllWith may w Q kind → AllTyped (λ a v. Reached may w v) kind
reached good f (Typed a v) p = let r = reached_so (f good (Typed a v) p) in typed_as (record { reach = r; good = good_by good r })
reached good f (Refused r) p = refused_as

also_good : {may : Changes} {A : Type 0} {w : World} {Q P : A → World → Type 0} {kind : Outcome A → Type 0} → Good w → AllWith may w Q kind → AllTyped P kind → AllTyped (λ a v. Good v × P a v) kind
also_good good f g (Typed a v) p = typed_as (good_by good (reached_so (f good (Typed a v) p)), typed_from (g (Typed a v) p))
also_good good f g (Refused r) p = refused_as

parameter_adds :
    {front : List Binding} (k : ℕ) (at : Pos) (specs : written.SpecTrees) (declarator : written.DeclaratorTree) (w : World) → Good w → Behind front k w
    → AllTyped (Adds front k) (OfParameter k (first_of at specs) (TypesSpecs w false no_specs_yet specs) (λ v. TypesDeclarator v declarator))
parameter_adds {front} k at specs declarator w good b =
    then_as (reached good (go_specs w false no_specs_yet specs (none_yet w))) (λ s u r.
    then_as (is_as (told_stays places.OfParameter (first_of at specs) s u)) (λ base t e.
    let good2 = subst Good (sym e) r.good in
    then_as (reached good2 (go_declarator t declarator)) (λ shape x d.
    is_as (laid_adds (place_of (first_of at specs) shape) shape.name (laid x (place_of (first_of at specs) shape) shape.steps base) (laid_stays x (place_of (first_of at specs) shape) shape.steps base)
    (behind_calm (subst (Behind front k) (sym e) (behind_calm b r.reach)) d.reach)))))

any_name : NamesAny Names
any_name m = tt

param_names : (front : List Binding) (w : World) (done : List ParameterTree) (params : written.ParamTrees) → Good w → Behind front (length done) w → AllTyped (λ list v. Behind front (length list) v) (TypesParams w done params)
unfolding TypesParams
param_names front w done written.no_params good b = is_as (typed_as b)
param_names front w done (written.more_params (written.Named at specs declarator) rest) good b =
    then_as (also_good {may = Names} good (of_parameter (length done) (first_of at specs) any_name (go_specs w false no_specs_yet specs (none_yet w)) (λ v. go_declarator v declarator))
    (parameter_adds (length done) at specs declarator w good b)) (λ param u p.
    param_names front u (done ++ param ∷ []) rest p.0 (subst (λ n. Behind front n u) (sym (length_push done param)) p.1))
param_names front w done (written.more_params (written.Abstract at specs declarator) rest) good b =
    then_as (also_good {may = Names} good (of_parameter (length done) (first_of at specs) any_name (go_specs w false no_specs_yet specs (none_yet w)) (λ v. go_declarator v declarator))
    (parameter_adds (length done) at specs declarator w good b)) (λ param u p.
    param_names front u (done ++ param ∷ []) rest p.0 (subst (λ n. Behind front n u) (sym (length_push done param)) p.1))

-- ---- declarators

abbrev pub HasParamNames : Step → Type 0
HasParamNames (PointerTo c) = Unit {0}
HasParamNames (ArrayOf at n) = Unit {0}
HasParamNames OpenArray = Unit {0}
HasParamNames (FunctionOf params names tags) = AreParamNames (length params) names

array_names : (w : World) (at : Pos) (shape : Shape) (n : Option ℤ) → All HasParamNames shape.steps → TypedAs (λ s v. All HasParamNames s.steps) (array_sized w at shape n)
array_names w at shape None s = refused_as
array_names w at shape (Some (pos n)) s = as_if (nat_lt 0 n) (λ e. typed_as (All-push HasParamNames shape.steps (ArrayOf at n) s tt)) (λ e. refused_as)
array_names w at shape (Some (negsuc n)) s = refused_as

declarator_names : (w : World) (d : written.DeclaratorTree) → Good w → AllTyped (λ shape v. All HasParamNames shape.steps) (TypesDeclarator w d)
unfolding TypesDeclarator
declarator_names w written.Absent good = is_as (typed_as (All-nil HasParamNames))
declarator_names w (written.Name at name) good = is_as (typed_as (All-nil HasParamNames))
declarator_names w (written.Grouped at inner) good = declarator_names w inner good
declarator_names w (written.Pointer at c inner) good = then_as (declarator_names w inner good) (λ shape v s. is_as (typed_as (All-push HasParamNames shape.steps (PointerTo c) s tt)))
declarator_names w (written.Array at inner size) good =
    then_as (declarator_names w inner good) (λ shape v s. then_as (as_it_is (Valued (Types v size))) (λ x u p. is_as (array_names u (expr_pos size) shape (constant_value x) s)))
declarator_names w (written.OpenArray at inner) good = then_as (declarator_names w inner good) (λ shape v s. is_as (typed_as (All-push HasParamNames shape.steps OpenArray s tt)))
declarator_names w (written.Function at inner params) good =
    then_as (also_good {may = Constants} good (go_declarator w inner) (declarator_names w inner good)) (λ shape v s.
    then_as (param_names v.names (opened v) [] params (enters s.0) (behind_none (opened v) 0)) (λ list u b.
    is_as (typed_as (All-push HasParamNames shape.steps (FunctionOf list (drop (length v.names) u.names) (drop (length v.tags) u.tags)) s.1
    (subst (AreParamNames (length list)) (sym (ap (drop (length v.names)) b.names ∙ drop-append_seam v.names b.extra)) b.all)))))
declarator_names w (written.VoidFunction at inner) good =
    then_as (declarator_names w inner good) (λ shape v s. is_as (typed_as (All-push HasParamNames shape.steps (FunctionOf [] [] []) s (All-nil (λ b. IsParamName 0 b.meaning)))))

-- what a declarator says of parameters
pub names_are : (w v : World) (d : written.DeclaratorTree) (shape : Shape) → Good w → TypesDeclarator w d (Typed shape v) → All HasParamNames shape.steps
names_are w v d shape good t = typed_from (declarator_names w d good (Typed shape v) t)
