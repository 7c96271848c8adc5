-- A file tells beforehand which functions it defines.
use Rattle.std.proofs.Common.{◌≡◌, true, false, List, [], ◌∷◌, ◌++◌, refl, ap, subst, ◌∙◌}
use Rattle.std.specs.Prelude.{ℕ, ℤ, Bool, if◌then◌else◌, nat_lt, is_some, Option, None, Some, option_map, All, flat_map, find, bytes_eq, pos, negsuc}
use Rattle.std.proofs.lemmas.Bool.{false≢true}
use Rattle.std.proofs.lemmas.List.{append_assoc}
use Rattle.std.proofs.lemmas.List.Elements.{All-nil, All-cons}
use Rattle.std.proofs.lemmas.Slice.Eq.{bytes_eq-Decides}
use Rattle.c_syntax_written.specs.declared.place.Pos.{Pos}
use Rattle.c_syntax_written.specs.Written as written
use Rattle.c_syntax_written.specs.WrittenParts.{expr_pos}
use Rattle.c_syntax_written.specs.WrittenFile.{OuterTree}
use Rattle.c_typing.specs.World.{World, Outcome, Typed}
use Rattle.c_typing.specs.Constants.{constant_value}
use Rattle.c_typing.specs.Names.{opened}
use Rattle.c_typing.specs.Declarators.{Shape}
use Rattle.c_typing.specs.Typing.{Types, TypesDeclarator, TypesParams, Valued, array_sized}
use Rattle.c_typing.specs.Context.{has_name, name_in, functions_defined_by}
use Rattle.c_typing_laws.proofs.Outcomes.{TypedAs, typed_as, refused_as, typed_from, AllTyped, as_it_is, then_as, is_as, as_if}

-- the name that a declarator has
abbrev pub name_of : Shape → Option (List ℕ)
name_of shape = option_map (λ n. n.name) shape.name

array_named : (w : World) (at : Pos) (shape : Shape) (n : Option ℤ) → TypedAs (λ s v. name_of s ≡ name_of shape) (array_sized w at shape n)
array_named w at shape None = refused_as
array_named w at shape (Some (pos n)) = as_if (nat_lt 0 n) (λ e. typed_as refl) (λ e. refused_as)
array_named w at shape (Some (negsuc n)) = refused_as

-- with this name, whatever comes behind
named_then : {o : Outcome Shape} (shape : Shape) {name : Option (List ℕ)} → name_of shape ≡ name → TypedAs (λ s v. name_of s ≡ name_of shape) o → TypedAs (λ s v. name_of s ≡ name) o
named_then shape e (typed_as p) = typed_as (p ∙ e)
named_then shape e refused_as = refused_as

declarator_named : (w : World) (d : written.DeclaratorTree) → AllTyped (λ shape v. name_of shape ≡ name_in d) (TypesDeclarator w d)
unfolding TypesDeclarator name_in
declarator_named w written.Absent = is_as (typed_as refl)
declarator_named w (written.Name at name) = is_as (typed_as refl)
declarator_named w (written.Grouped at inner) = declarator_named w inner
declarator_named w (written.Pointer at c inner) = then_as (declarator_named w inner) (λ shape v e. is_as (typed_as e))
declarator_named w (written.Array at inner size) =
    then_as (declarator_named w inner) (λ shape v e. then_as (as_it_is (Valued (Types v size))) (λ x u p.
    is_as (named_then shape e (array_named u (expr_pos size) shape (constant_value x)))))
declarator_named w (written.OpenArray at inner) = then_as (declarator_named w inner) (λ shape v e. is_as (typed_as e))
declarator_named w (written.Function at inner params) =
    then_as (declarator_named w inner) (λ shape v e. then_as (as_it_is (TypesParams (opened v) [] params)) (λ list u p. is_as (typed_as e)))
declarator_named w (written.VoidFunction at inner) = then_as (declarator_named w inner) (λ shape v e. is_as (typed_as e))

pub named_is : (w v : World) (d : written.DeclaratorTree) (shape : Shape) → TypesDeclarator w d (Typed shape v) → name_of shape ≡ name_in d
named_is w v d shape t = typed_from (declarator_named w d (Typed shape v) t)

-- ---- names of a list

has_left : (xs ys : List (List ℕ)) (name : List ℕ) → has_name xs name ≡ true → has_name (xs ++ ys) name ≡ true
has_left [] ys name e = absurd (false≢true e)
has_left (x ∷ xs) ys name e = by (bytes_eq x name) e (has_left xs ys name)
  where
    by : (b : Bool) → is_some (if b then Some x else find (λ n. bytes_eq n name) xs) ≡ true → (has_name xs name ≡ true → has_name (xs ++ ys) name ≡ true)
        → is_some (if b then Some x else find (λ n. bytes_eq n name) (xs ++ ys)) ≡ true
    by true e more = refl
    by false e more = more e

has_right : (xs ys : List (List ℕ)) (name : List ℕ) → has_name ys name ≡ true → has_name (xs ++ ys) name ≡ true
has_right [] ys name e = e
has_right (x ∷ xs) ys name e = by (bytes_eq x name) (has_right xs ys name e)
  where
    by : (b : Bool) → has_name (xs ++ ys) name ≡ true → is_some (if b then Some x else find (λ n. bytes_eq n name) (xs ++ ys)) ≡ true
    by true more = refl
    by false more = more

has_itself : (name : List ℕ) (rest : List (List ℕ)) → has_name (name ∷ rest) name ≡ true
has_itself name rest = ap (λ b. is_some (if b then Some name else find (λ n. bytes_eq n name) rest)) ((bytes_eq-Decides name name).1 refl)

pub has_each : (front xs ys : List (List ℕ)) → All (λ name. has_name (front ++ xs ++ ys) name ≡ true) xs
has_each front [] ys = All-nil (λ name. has_name (front ++ [] ++ ys) name ≡ true)
has_each front (x ∷ xs) ys =
    All-cons (λ name. has_name (front ++ (x ∷ xs) ++ ys) name ≡ true) x xs
    (has_left (front ++ x ∷ xs) ys x (has_right front (x ∷ xs) x (has_itself x xs)))
    (subst (λ l. All (λ name. has_name (l ++ ys) name ≡ true) xs) (append_assoc front (x ∷ []) xs) (has_each (front ++ x ∷ []) xs ys))

-- ---- the functions of a file

-- the functions that these trees define have names of the list
abbrev pub Covers : List (List ℕ) → List OuterTree → Type 0
Covers names [] = Unit {0}
Covers names (tree ∷ rest) = All (λ name. has_name names name ≡ true) (functions_defined_by tree) × Covers names rest

covers_from : (front : List (List ℕ)) (trees : List OuterTree) → Covers (front ++ flat_map functions_defined_by trees) trees
covers_from front [] = tt
covers_from front (tree ∷ rest) = (
  subst (λ l. All (λ name. has_name l name ≡ true) (functions_defined_by tree)) (append_assoc front (functions_defined_by tree) (flat_map functions_defined_by rest))
      (has_each front (functions_defined_by tree) (flat_map functions_defined_by rest)),
  subst (λ l. Covers l rest) (append_assoc front (functions_defined_by tree) (flat_map functions_defined_by rest)) (covers_from (front ++ functions_defined_by tree) rest),
)

pub covers_all : (trees : List OuterTree) → Covers (flat_map functions_defined_by trees) trees
covers_all trees = covers_from [] trees
