-- Expressions are typed, part by part.
use Rattle.std.proofs.Common.{◌≡◌, ℕ, ◌+◌, true, false, List, [], length, reverse, refl, ap, sym, subst, ◌∙◌, inl, inr, ⊎_elim, arith}
use Rattle.std.specs.Prelude.{◌⊎◌, nat_lt, nat_le, Bool, if◌then◌else◌, IsTrue, is_some, IsSomeAnd, Option, None, Some, option_map, unwrap_or, All, Contains, slice_get, bytes_eq, find}
use Rattle.std.proofs.lemmas.Bool.{false≢true}
use Rattle.std.proofs.lemmas.Option.{same_Some}
use Rattle.std.proofs.lemmas.List.Elements.{All-append, All-weaker}
use Rattle.c_syntax_written.specs.declared.place.Pos.{Pos}
use Rattle.c_syntax_written.specs.declared.int_type.IntType.TheVariants as ints
use Rattle.c_syntax_written.specs.Written as written
use Rattle.c_syntax.specs.declared.operator.StepTime.TheVariants as times
use Rattle.c_syntax.specs.Types.{Void, ObjectTree}
use Rattle.c_syntax.specs.TypedExpr.{TExprTree, TLvalueTree, Var, TExprTrees, none, more, texprs_then}
use Rattle.c_syntax.specs.Program.{TFunctionTree}
use Rattle.c_layout.specs.ProperTypes.{IsProperType}
use Rattle.c_layout.specs.TypedNodes.{Scope}
use Rattle.c_typing.specs.World.{World, Form, Plain, Unsized, Callable, Meaning, Object, Missing, Parameter, TypeName, Enumeration, Binding, Refusal, ObjectTooLarge, TotalTooLarge, Outcome, Typed, Refused, Then, Is, unless}
use Rattle.c_typing.specs.World as world
use Rattle.c_typing.specs.Names.{is_reserved, meaning_of, with_literal, literal_object, literal_type, object_limit, total_limit}
use Rattle.c_typing.specs.Later.{IsLater}
use Rattle.c_typing.specs.Formed.{IsFormedForm, IsFormedMeaning}
use Rattle.c_typing.specs.Operands.{OperandTree, Place, operand_type}
use Rattle.c_typing.specs.Nodes as nodes
use Rattle.c_typing.specs.Typing.{Types, TypesArgs, TypesSpecs, TypesSpec, TypesMembers, TypesMemberNames, TypesEnumerators, TypesDeclarator, TypesParams, Valued}
use Rattle.c_typing.proofs.Changes.{Constants, MayName}
use Rattle.c_typing.proofs.MadeTables.{complete_kept, get_last}
use Rattle.c_typing.proofs.Later.{formed_later}
use Rattle.c_typing.proofs.SoundTables.{proper}
use Rattle.c_typing.proofs.Good.{Good, is_later}
use Rattle.c_typing.proofs.FormsGo.{found_each, mapped, all_reverse}
use Rattle.c_typing.proofs.Reaches as reaches
use Rattle.c_typing.proofs.Reaches.{Reaches, Kept, kept, IsStill, quiet, Goes, typed, refused, AllGo, GoesWith, typed_so, refused_so, AllWith, all_forget, is_with, then_with, so_with}
use Rattle.c_typing.proofs.NodesGo as nodes_go
use Rattle.c_typing.proofs.TypesGo.{go_specs, go_declarator, none_yet, of_type_name, meaning_formed}
use Rattle.c_typing.proofs.Adds.{good_after}
use Rattle.c_typing_laws.specs.TypedValues.{IsTypedValue, IsTypedOperand, IsTypedLvalue, AreTypedValues}
use Rattle.c_typing_laws.specs.NodeLaws.{IsCallable}
use Rattle.c_typing_laws.specs.ExpressionLaws.{IsUsable, AreUsable, EndsAs, EndsFrom, ExpressionsAreTyped}
use Rattle.c_typing_laws.proofs.Places.{typed_is, not_typed, place_typed, reads_are_typed, prefixes_are_typed, binaries_are_typed, indexes_are_typed, members_are_typed, arrows_are_typed, objects_are_typed}
use Rattle.c_typing_laws.proofs.Assigns.{assignments_are_typed, compounds_are_typed, stepped_are_typed}
use Rattle.c_typing_laws.proofs.Casts.{const_node, commas_are_typed, casts_are_typed, conditionals_are_typed, numbers_are_typed, characters_are_typed, sizes_are_typed}
use Rattle.c_typing_laws.proofs.Calls.{calls_are_typed}

-- ---- the program at the end, from earlier worlds

pub later_then : (a b : World) (scope : Scope) → IsLater a.structs b.structs → IsLater b.structs scope.program.structs → IsLater a.structs scope.program.structs
later_then a b scope f g = record {
  laid_out = f.laid_out;
  still = g.still;
  longer = let l = f.longer in let m = g.longer in omega arith;
  same = λ n c. g.same n (complete_kept a.structs b.structs n (f.same n c) c) ∙ f.same n c;
}

callable_before : (u v : World) (scope : Scope) (n : ℕ) → v.functions ≡ u.functions → v.signatures ≡ u.signatures → IsCallable v scope n → IsCallable u scope n
callable_before u v scope n f s is = record {
  function = is.function;
  there = is.there;
  result = results ∙ is.result;
  params = params ∙ is.params;
  result_proper = subst (IsProperType scope.program.structs) (sym results) is.result_proper;
  params_proper = subst (All (IsProperType scope.program.structs)) (sym params) is.params_proper;
}
  where
    results : nodes.result_of u n ≡ nodes.result_of v n
    results = ap (λ functions. unwrap_or (option_map (λ g. g.result) (slice_get functions n)) Void) (sym f)

    params : nodes.params_of u n ≡ nodes.params_of v n
    params = ap (λ signatures. unwrap_or (slice_get signatures n) []) (sym s)

still_ends : {P : Meaning → Type 0} (u v : World) (scope : Scope) → IsLater u.structs v.structs → IsStill P u v → EndsFrom v scope → EndsFrom u scope
still_ends u v scope later still ends = record {
  structs = later_then u v scope later ends.structs;
  table = ends.table;
  objects = λ n x there. ends.objects n x (still.objects n x there);
  functions = λ n f there. callable_before u v scope n still.functions still.signatures (ends.functions n f (ap (λ functions. slice_get functions n) still.functions ∙ there));
}

pub ends_before : (u v : World) (scope : Scope) → Good u → Reaches Constants u v → EndsFrom v scope → EndsFrom u scope
ends_before u v scope good r ends =
    let k = kept u v r good in still_ends u v scope (is_later u v good k.good k.frame) (quiet Constants u v r) ends

-- ---- names that may be used

usable_moved : {P : Meaning → Type 0} (w v : World) (scope : Scope) → IsStill P w v → (m : Meaning) → IsUsable w scope m → IsUsable v scope m
usable_moved w v scope still (Object n) u = by (slice_get w.objects n) refl u
  where
    by : (o : Option ObjectTree) → slice_get w.objects n ≡ o → IsSomeAnd o (λ x. IsTrue x.is_static ⊎ Contains scope.live n)
        → IsSomeAnd (slice_get v.objects n) (λ x. IsTrue x.is_static ⊎ Contains scope.live n)
    by None e h = absurd h
    by (Some x) e h = subst (λ o. IsSomeAnd o (λ y. IsTrue y.is_static ⊎ Contains scope.live n)) (sym (still.objects n x e)) h
usable_moved w v scope still (Missing ty c) u = u
usable_moved w v scope still (Parameter k ty c) u = u
usable_moved w v scope still (world.Function n) u = ap (λ functions. is_some (slice_get functions n)) still.functions ∙ u
usable_moved w v scope still (TypeName form) u = u
usable_moved w v scope still (Enumeration n) u = u

constant_usable : (v : World) (scope : Scope) (m : Meaning) → MayName Constants m → IsUsable v scope m
constant_usable v scope (Object n) h = absurd h
constant_usable v scope (Missing ty c) h = absurd h
constant_usable v scope (Parameter k ty c) h = absurd h
constant_usable v scope (world.Function n) h = absurd h
constant_usable v scope (TypeName form) h = absurd h
constant_usable v scope (Enumeration n) h = tt

pub usable_after : (w v : World) (scope : Scope) → Reaches Constants w v → AreUsable w scope → AreUsable v scope
usable_after w v scope r u =
    let still = quiet Constants w v r in
    subst (All (λ b. IsUsable v scope b.meaning)) (sym still.names)
    (All-append (λ b. IsUsable v scope b.meaning) w.names still.extra
    (All-weaker (λ b. IsUsable w scope b.meaning) (λ b. IsUsable v scope b.meaning) (λ b h. usable_moved w v scope still b.meaning h) w.names u)
    (All-weaker (λ b. MayName Constants b.meaning) (λ b. IsUsable v scope b.meaning) (λ b h. constant_usable v scope b.meaning h) still.extra still.declared))

usable_meaning : (w : World) (scope : Scope) (name : List ℕ) (m : Meaning) → AreUsable w scope → meaning_of w name ≡ Some m → IsUsable w scope m
usable_meaning w scope name m u e =
    mapped (λ b. b.meaning) (find (λ b. bytes_eq b.name name) (reverse w.names)) m (IsUsable w scope) (λ b q.
    found_each (λ c. IsUsable w scope c.meaning) (λ c. bytes_eq c.name name) (reverse w.names) b (all_reverse (λ c. IsUsable w scope c.meaning) w.names u) q) e

-- ---- parts

-- so it is in the program at the end
abbrev pub At : {A : Type 0} → Scope → (A → Type 0) → A → World → Type 0
At scope P a v = EndsFrom v scope → P a

-- an outcome that has the property where it is typed
pub law : {A : Type 0} {w : World} {P : A → World → Type 0} (o : Outcome A) → Goes Constants w o → ((a : A) (v : World) → Reaches Constants w v → o ≡ Typed a v → P a v) → GoesWith Constants w P o
law (Typed a v) (typed r) f = typed_so r (f a v r refl)
law (Refused q) g f = refused_so

-- a node, in the world in which its parts are typed
node :
    {A : Type 0} {w : World} (scope : Scope) {Q : A → Type 0} (o : Outcome A) → Goes Constants w o → ((a : A) (v : World) → EndsFrom w scope → o ≡ Typed a v → Q a)
    → AllWith Constants w (At scope Q) (Is o)
node {w = w} scope o g f = is_with (λ good. law o g (λ a v r e ends. f a v (ends_before w v scope good r ends) e))

-- one part, and a node of it
one :
    {A B : Type 0} {w : World} (scope : Scope) {P : A → Type 0} {Q : B → Type 0} {first : Outcome A → Type 0} (n : World → A → Outcome B) → AreUsable w scope
    → AllWith Constants w (At scope P) first → ((v : World) (x : A) → Goes Constants v (n v x))
    → ((v u : World) (x : A) (y : B) → AreUsable v scope → EndsFrom v scope → P x → n v x ≡ Typed y u → Q y)
    → AllWith Constants w (At scope Q) (Then first (λ x v. Is (n v x)))
one {w = w} scope n u f g h =
    so_with f (λ x v r p k. node scope (n v x) (g v x) (λ y z ends e. h v z x y (usable_after w v scope r u) ends (p ends) e))

-- two parts, and a node of them
two :
    {A B C : Type 0} {w : World} (scope : Scope) {P : A → Type 0} {Q : B → Type 0} {R : C → Type 0} {first : Outcome A → Type 0} {second : World → Outcome B → Type 0}
    (n : World → A → B → Outcome C) → AreUsable w scope
    → AllWith Constants w (At scope P) first → ((v : World) → AreUsable v scope → AllWith Constants v (At scope Q) (second v)) → ((v : World) (x : A) (y : B) → Goes Constants v (n v x y))
    → ((v u : World) (x : A) (y : B) (z : C) → EndsFrom v scope → P x → Q y → n v x y ≡ Typed z u → R z)
    → AllWith Constants w (At scope R) (Then first (λ x v. Then (second v) (λ y v2. Is (n v2 x y))))
two {w = w} scope n u f s g h =
    so_with f (λ x v r p k. so_with (s v (usable_after w v scope r u)) (λ y v2 r2 q k2.
    node scope (n v2 x y) (g v2 x y) (λ z v3 ends e. h v2 v3 x y z ends (p (ends_before v v2 scope k.good r2 ends)) (q ends) e)))

-- the value of a part
pub value : {w : World} (scope : Scope) {first : Outcome OperandTree → Type 0} → AllWith Constants w (At scope (IsTypedOperand scope)) first → AllWith Constants w (At scope (IsTypedValue scope)) (Valued first)
value scope f = so_with f (λ x v r p k. is_with (λ good. typed_so (reaches.stays v) (λ ends. reads_are_typed scope x (p ends))))

-- ---- names

object_typed :
    (scope : Scope) (at : Pos) (n : ℕ) (x : ObjectTree) → EndsAs scope n x → IsTrue x.is_static ⊎ Contains scope.live n
    → IsTypedLvalue scope (nodes.object_place at n x)
object_typed scope at n x ends h =
    objects_are_typed scope at n x ends.object ends.there ends.typed ends.ty ends.read_only (⊎_elim (λ s. inl (ends.is_static ∙ s)) (λ l. inr l) h)

object_found :
    (w : World) (scope : Scope) (at : Pos) (n : ℕ) (o : Option ObjectTree) (place : TLvalueTree) → EndsFrom w scope → slice_get w.objects n ≡ o
    → IsSomeAnd o (λ x. IsTrue x.is_static ⊎ Contains scope.live n) → option_map (nodes.object_place at n) o ≡ Some place → IsTypedLvalue scope place
object_found w scope at n None place ends e h r = absurd h
object_found w scope at n (Some x) place ends e h r = subst (IsTypedLvalue scope) (same_Some (nodes.object_place at n x) place r) (object_typed scope at n x (ends.objects n x e) h)

named_typed :
    (w v : World) (scope : Scope) (at : Pos) (m : Option Meaning) (y : OperandTree) → EndsFrom w scope
    → ((meaning : Meaning) → m ≡ Some meaning → IsUsable w scope meaning) → ((meaning : Meaning) → m ≡ Some meaning → IsFormedMeaning w.structs meaning)
    → nodes.named w at m ≡ Typed y v → IsTypedOperand scope y
named_typed w v scope at None y ends u f p = not_typed _ y v p
named_typed w v scope at (Some (Object n)) y ends u f p =
    place_typed scope _ _ w v y (λ place r. object_found w scope at n (slice_get w.objects n) place ends refl (u (Object n) refl) r) p
named_typed w v scope at (Some (Missing ty c)) y ends u f p = not_typed _ y v p
named_typed w v scope at (Some (Parameter k ty c)) y ends u f p = absurd (u (Parameter k ty c) refl)
named_typed w v scope at (Some (world.Function n)) y ends u f p = not_typed _ y v p
named_typed w v scope at (Some (TypeName form)) y ends u f p = not_typed _ y v p
named_typed w v scope at (Some (Enumeration n)) y ends u f p = subst (IsTypedOperand scope) (typed_is _ y w v p) (const_node scope at ints.Int n (f (Enumeration n) refl))

word_typed :
    (w v : World) (scope : Scope) (at : Pos) (name : List ℕ) (reserved : Bool) (r : Refusal) (y : OperandTree) → Good w → AreUsable w scope → EndsFrom w scope
    → (if reserved then Refused r else nodes.named w at (meaning_of w name)) ≡ Typed y v → IsTypedOperand scope y
word_typed w v scope at name true r y good u ends p = not_typed r y v p
word_typed w v scope at name false r y good u ends p =
    named_typed w v scope at (meaning_of w name) y ends (λ m e. usable_meaning w scope name m u e) (λ m e. meaning_formed w name m good e) p

-- ---- literals

literal_last :
    (w v : World) (scope : Scope) (at : Pos) (bytes : List ℕ) (y : OperandTree) → EndsFrom v scope
    → Typed (Place (Var at (length w.objects) (literal_type (length bytes + 1)) false)) (with_literal w at bytes) ≡ Typed y v → IsTypedOperand scope y
literal_last w v scope at bytes y ends p =
    let place : Place (Var at (length w.objects) (literal_type (length bytes + 1)) false) ≡ y = cc in
    let world_is : with_literal w at bytes ≡ v = cc in
    let there : slice_get v.objects (length w.objects) ≡ Some (literal_object at (length bytes + 1)) = ap (λ x. slice_get x.objects (length w.objects)) (sym world_is) ∙ get_last w.objects (literal_object at (length bytes + 1)) in
    subst (IsTypedOperand scope) place
    (object_typed scope at (length w.objects) (literal_object at (length bytes + 1)) (ends.objects (length w.objects) _ there) (inl refl))

literal_by :
    (w v : World) (scope : Scope) (at : Pos) (bytes : List ℕ) (large total : Bool) (r q : Refusal) (y : OperandTree) → EndsFrom v scope
    → unless large r (unless total q (Typed (Place (Var at (length w.objects) (literal_type (length bytes + 1)) false)) (with_literal w at bytes))) ≡ Typed y v → IsTypedOperand scope y
literal_by w v scope at bytes true total r q y ends p = not_typed r y v p
literal_by w v scope at bytes false true r q y ends p = not_typed q y v p
literal_by w v scope at bytes false false r q y ends p = literal_last w v scope at bytes y ends p

-- ---- constants, sizes, casts

number_by :
    (w v : World) (scope : Scope) (at : Pos) (c : _) (fits : Bool) (r : Refusal) (y : OperandTree) → (if fits then nodes.number w at c else Refused r) ≡ Typed y v → IsTypedOperand scope y
number_by w v scope at c true r y p = numbers_are_typed w v scope at c y p
number_by w v scope at c false r y p = not_typed r y v p

size_typed : (w v : World) (scope : Scope) (at : Pos) (form : Form) (y : OperandTree) → nodes.size_of_form w at form ≡ Typed y v → IsTypedOperand scope y
size_typed w v scope at (Plain ty c) y p = sizes_are_typed w v scope at ty y p
size_typed w v scope at (Unsized of c) y p = not_typed _ y v p
size_typed w v scope at (Callable params result) y p = not_typed _ y v p

cast_typed :
    (u w v : World) (scope : Scope) (at : Pos) (form : Form) (e : TExprTree) (y : OperandTree) → IsFormedForm u.structs form → EndsFrom u scope → IsTypedValue scope e
    → nodes.cast w at form e ≡ Typed y v → IsTypedOperand scope y
cast_typed u w v scope at (Plain ty c) e y f ends x p =
    casts_are_typed w v scope at ty c e y (proper scope.program.structs ends.table.told ty (formed_later u.structs scope.program.structs ends.structs ty f)) x p
cast_typed u w v scope at (Unsized of c) e y f ends x p = not_typed _ y v p
cast_typed u w v scope at (Callable params result) e y f ends x p = not_typed _ y v p

-- ---- arguments

one_more_typed : (scope : Scope) (done : TExprTrees) (x : TExprTree) → AreTypedValues scope done → IsTypedValue scope x → AreTypedValues scope (texprs_then done x)
unfolding AreTypedValues texprs_then
one_more_typed scope none x d t = (t, tt)
one_more_typed scope (more e rest) x d t = (d.0, one_more_typed scope rest x d.1 t)

no_args : (scope : Scope) → AreTypedValues scope none
unfolding AreTypedValues
no_args scope = tt

called_typed :
    (w v : World) (scope : Scope) (at : Pos) (name : List ℕ) (args : TExprTrees) (y : OperandTree) → AreUsable w scope → EndsFrom w scope → AreTypedValues scope args
    → nodes.called w at name args ≡ Typed y v → IsTypedOperand scope y
called_typed w v scope at name args y u ends are p =
    calls_are_typed w v scope at name args y (λ n e. by n (slice_get w.functions n) refl (usable_meaning w scope name (world.Function n) u e)) are p
  where
    by : (n : ℕ) (o : Option TFunctionTree) → slice_get w.functions n ≡ o → is_some o ≡ true → IsCallable w scope n
    by n None e h = absurd (false≢true h)
    by n (Some f) e h = ends.functions n f e

-- ---- the expression

mutual
  unfolding Types TypesArgs TypesSpecs TypesSpec TypesMembers TypesMemberNames TypesEnumerators TypesDeclarator TypesParams

  pub expression : (scope : Scope) (w : World) (e : written.ExprTree) → AreUsable w scope → AllWith Constants w (At scope (IsTypedOperand scope)) (Types w e)
  expression scope w (written.Word at name) u =
      is_with (λ good. law (nodes.word w at name) (nodes_go.word w at name) (λ y v r p ends.
      word_typed w v scope at name (is_reserved name) _ y good u (ends_before w v scope good r ends) p))
  expression scope w (written.Number at c) u =
      node scope _ (reaches.goes_if (nat_le c.longs 2) (nodes_go.given _ _ w) refused) (λ y v ends p. number_by w v scope at c (nat_le c.longs 2) _ y p)
  expression scope w (written.Character at byte) u = node scope _ reaches.goes_same (λ y v ends p. characters_are_typed w v scope at byte y p)
  expression scope w (written.Strings at bytes) u =
      is_with (λ good. law _ (nodes_go.literal_node w at bytes) (λ y v r p ends.
      literal_by w v scope at bytes (nat_lt object_limit (length bytes + 1)) (nat_lt total_limit (w.total + (length bytes + 1))) _ _ y ends p))
  expression scope w (written.Enclosed at e) u = expression scope w e u
  expression scope w (written.Index at a b) u =
      two scope (λ v x y. nodes.indexed v at x y) u (value scope (expression scope w a u)) (λ v h. value scope (expression scope v b h)) (λ v x y. nodes_go.given_place _ _ v)
      (λ v z x y out ends p q e. indexes_are_typed v z scope at x y out ends.structs p q e)
  expression scope w (written.Call at name args) u =
      one scope (λ v values. nodes.called v at name values) u (arguments scope w none args u (λ ends. no_args scope)) (λ v values. nodes_go.called_or_read v at name values _)
      (λ v z values out h ends p e. called_typed v z scope at name values out h ends p e)
  expression scope w (written.Dot at a name) u =
      one scope (λ v x. nodes.member v at name x) u (expression scope w a u) (λ v x. nodes_go.member v at name x)
      (λ v z x out h ends p e. members_are_typed v z scope at name x out ends.structs ends.table p e)
  expression scope w (written.Arrow at a name) u =
      one scope (λ v x. nodes.arrow v at name x) u (value scope (expression scope w a u)) (λ v x. nodes_go.given_place _ _ v)
      (λ v z x out h ends p e. arrows_are_typed v z scope at name x out ends.structs ends.table p e)
  expression scope w (written.PostStep at way a) u =
      one scope (λ v x. nodes.stepped v at times.After way x) u (expression scope w a u) (λ v x. nodes_go.changed _ at x _ _ v)
      (λ v z x out h ends p e. stepped_are_typed v z scope at times.After way x out ends.structs p e)
  expression scope w (written.PreStep at way a) u =
      one scope (λ v x. nodes.stepped v at times.Before way x) u (expression scope w a u) (λ v x. nodes_go.changed _ at x _ _ v)
      (λ v z x out h ends p e. stepped_are_typed v z scope at times.Before way x out ends.structs p e)
  expression scope w (written.Unary at op a) u =
      one scope (λ v x. nodes.unary v at op x) u (expression scope w a u) (λ v x. nodes_go.unary v at op x) (λ v z x out h ends p e. prefixes_are_typed v z scope at op x out p e)
  expression scope w (written.SizeofExpr at a) u =
      one scope (λ v x. nodes.size_of v at (operand_type x)) u (expression scope w a u) (λ v x. nodes_go.given _ _ v) (λ v z x out h ends p e. sizes_are_typed v z scope at (operand_type x) out e)
  expression scope w (written.SizeofType at specs declarator) u =
      then_with (all_forget (of_type_name _ (go_specs w _ _ specs (none_yet w)) (λ v. go_declarator v declarator)))
      (λ form v r k. node scope (nodes.size_of_form v at form) (nodes_go.size_of_form v at form) (λ y z ends p. size_typed v z scope at form y p))
  expression scope w (written.Cast at specs declarator a) u =
      so_with (of_type_name _ (go_specs w _ _ specs (none_yet w)) (λ v. go_declarator v declarator)) (λ form v r f k.
      so_with (value scope (expression scope v a (usable_after w v scope r u))) (λ x v2 r2 p k2.
      node scope (nodes.cast v2 at form x) (nodes_go.cast v2 at form x) (λ y z ends e. cast_typed v v2 z scope at form x y f (ends_before v v2 scope k.good r2 ends) (p ends) e)))
  expression scope w (written.Binary at op a b) u =
      two scope (λ v x y. nodes.binary v at op x y) u (value scope (expression scope w a u)) (λ v h. value scope (expression scope v b h)) (λ v x y. nodes_go.given _ _ v)
      (λ v z x y out ends p q e. binaries_are_typed v z scope at op x y out ends.structs p q e)
  expression scope w (written.Cond at c a b) u =
      so_with (value scope (expression scope w c u)) (λ t v r s k.
      so_with (value scope (expression scope v a (usable_after w v scope r u))) (λ x v2 r2 p k2.
      so_with (value scope (expression scope v2 b (usable_after v v2 scope r2 (usable_after w v scope r u)))) (λ y v3 r3 q k3.
      node scope (nodes.conditional v3 at t x y) (nodes_go.conditional v3 at t x y) (λ out z ends e.
      let middle = ends_before v2 v3 scope k2.good r3 ends in
      conditionals_are_typed v3 z scope at t x y out (s (ends_before v v2 scope k.good r2 middle)) (p middle) (q ends) e))))
  expression scope w (written.Assign at a b) u =
      two scope (λ v x y. nodes.assigned v at x y) u (expression scope w a u) (λ v h. value scope (expression scope v b h)) (λ v x y. nodes_go.changed _ at x _ _ v)
      (λ v z x y out ends p q e. assignments_are_typed v z scope at x out y ends.structs p q e)
  expression scope w (written.Compound at op a b) u =
      two scope (λ v x y. nodes.compound v at op x y) u (expression scope w a u) (λ v h. value scope (expression scope v b h)) (λ v x y. nodes_go.changed _ at x _ _ v)
      (λ v z x y out ends p q e. compounds_are_typed v z scope at op x out y ends.structs p q e)
  expression scope w (written.Comma at a b) u =
      two scope (λ v x y. nodes.sequenced v at x y) u (value scope (expression scope w a u)) (λ v h. value scope (expression scope v b h)) (λ v x y. reaches.goes_same)
      (λ v z x y out ends p q e. commas_are_typed v z scope at x y out p q e)

  pub arguments :
      (scope : Scope) (w : World) (done : _) (es : written.ExprTrees) → AreUsable w scope → (EndsFrom w scope → AreTypedValues scope done)
      → AllWith Constants w (At scope (AreTypedValues scope)) (TypesArgs w done es)
  arguments scope w done written.no_exprs u d good = is_with (λ g. typed_so (reaches.stays w) d) good
  arguments scope w done (written.more_exprs e es) u d good =
      so_with (value scope (expression scope w e u)) (λ x v r p k.
      arguments scope v _ es (usable_after w v scope r u) (λ ends. one_more_typed scope done x (d (ends_before w v scope good r ends)) (p ends))) good

typed_from : {w v : World} {A : Type 0} {a : A} {P : A → World → Type 0} → GoesWith Constants w P (Typed a v) → P a v
typed_from (typed_so r p) = p

pub expressions_are_typed : ExpressionsAreTyped
expressions_are_typed around before w v scope e x t u p ends = typed_from (expression scope w e u (good_after w around before t) (Typed x v) p) ends
