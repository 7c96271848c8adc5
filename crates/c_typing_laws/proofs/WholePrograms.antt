-- What the typed program of a file has.
use Rattle.std.proofs.Common.{◌≡◌, ℕ, zero, suc, ◌+◌, ◌<◌, Bool, true, false, List, [], ◌∷◌, refl, ap, sym, subst, ◌∙◌, arith}
use Rattle.std.specs.Prelude.{◌==◌, cond, if◌then◌else◌, Option, None, Some, unwrap_or, IfSome, IsSomeAnd, IsTrue, All, find, slice_get, count_by, replicate, ⊤}
use Rattle.std.proofs.lemmas.Bool.{eq-eqb, ne_eqb, eqb-true}
use Rattle.std.proofs.lemmas.Option.{same_Some}
use Rattle.std.proofs.lemmas.List.Elements.{All-nil, All-cons}
use Rattle.std.proofs.lemmas.List.Sums.{sum_by-cons}
use Rattle.c_syntax_written.specs.WrittenFile.{FileTree}
use Rattle.c_syntax.specs.declared.program.Initial.{Initial}
use Rattle.c_syntax.specs.declared.program.InitByte.TheVariants.{Num}
use Rattle.c_syntax.specs.Types.{ObjectTree}
use Rattle.c_syntax.specs.Program.{TProgramTree}
use Rattle.c_layout.specs.Tables.{IsTypedTable}
use Rattle.c_typing.specs.Context.{file_context}
use Rattle.c_typing.specs.World.{World, Outcome, Typed, Refused}
use Rattle.c_typing.specs.File.{TypesFile, TypesOuters, FileOutcome, Program, NoProgram, outcome_of, nothing_yet, program_of, given_initial, initials_from}
use Rattle.c_typing.proofs.FormsGo.{no_some}
use Rattle.c_typing.proofs.Adds as adds
use Rattle.c_typing_laws.specs.ProgramLaws.{HasInitials}

-- what is found passes
found_so : {A : Type 0} (test : A → Bool) (xs : List A) (x : A) → find test xs ≡ Some x → test x ≡ true
found_so test [] x e = no_some x e
found_so test (y ∷ xs) x e = by (test y) refl e (found_so test xs x)
  where
    by : (b : Bool) → test y ≡ b → (if b then Some y else find test xs) ≡ Some x → (find test xs ≡ Some x → test x ≡ true) → test x ≡ true
    by true t r again = subst (λ z. test z ≡ true) (same_Some y x r) t
    by false t r again = again r

-- an object has its own initial value
given_object : (initial : List Initial) (n : ℕ) (object : ObjectTree) → (given_initial initial n object).object ≡ n
given_object initial n object = at (find (λ i. i.object == n) initial) refl
  where
    at : (o : Option Initial) → find (λ i. i.object == n) initial ≡ o
        → (unwrap_or o (record { object = n; bytes = replicate object.size (Num 0) })).object ≡ n
    at None e = refl
    at (Some x) e = eqb-true x.object n (found_so (λ i. i.object == n) initial x e)

-- how many initial values an object has
abbrev values_of : ℕ → List Initial → ℕ
values_of o xs = count_by (λ initial. initial.object == o) xs

one_more : (o : ℕ) (x : Initial) (xs : List Initial) (b : Bool) → (x.object == o) ≡ b → values_of o (x ∷ xs) ≡ cond b 1 0 + values_of o xs
one_more o x xs b e = sum_by-cons (λ initial. cond (initial.object == o) 1 0) x xs ∙ ap (λ c. cond c 1 0 + values_of o xs) e

-- the initial value of an object, if it has one, before those of the others
abbrev begun_by : Bool → Initial → List Initial → List Initial
begun_by b x xs = if b then x ∷ xs else xs

other_begun : (o : ℕ) (x : Initial) (xs : List Initial) (m : ℕ) → (x.object == o) ≡ false → values_of o xs ≡ m → (b : Bool) → values_of o (begun_by b x xs) ≡ m
other_begun o x xs m e f true = one_more o x xs false e ∙ omega (arith, f)
other_begun o x xs m e f false = f

this_begun : (o : ℕ) (x : Initial) (xs : List Initial) → (x.object == o) ≡ true → values_of o xs ≡ 0 → (b : Bool) → values_of o (begun_by b x xs) ≡ (if b then 1 else 0)
this_begun o x xs e f true = one_more o x xs true e ∙ ap (λ m. 1 + m) f
this_begun o x xs e f false = f

-- another object's value
other_given : (initial : List Initial) (n o : ℕ) (x : ObjectTree) → (n ≡ o → ⊥) → ((given_initial initial n x).object == o) ≡ false
other_given initial n o x apart = ap (λ m. m == o) (given_object initial n x) ∙ ne_eqb n o apart

this_given : (initial : List Initial) (n o : ℕ) (x : ObjectTree) → n ≡ o → ((given_initial initial n x).object == o) ≡ true
this_given initial n o x same = ap (λ m. m == o) (given_object initial n x) ∙ eq-eqb n o same

-- objects from this one on have no value for one before
none_before : (initial : List Initial) (xs : List ObjectTree) (n o : ℕ) → o < n → values_of o (initials_from initial n xs) ≡ 0
unfolding initials_from
none_before initial [] n o less = refl
none_before initial (x ∷ xs) n o less =
    other_begun o (given_initial initial n x) (initials_from initial (n + 1) xs) 0 (other_given initial n o x (λ e. omega (arith, e)))
    (none_before initial xs (n + 1) o (omega arith)) x.is_static

-- an object of static duration has one, and an automatic one none
one_each :
    (initial : List Initial) (xs : List ObjectTree) (n k o : ℕ) (x : ObjectTree) → o ≡ n + k → slice_get xs k ≡ Some x
    → values_of o (initials_from initial n xs) ≡ (if x.is_static then 1 else 0)
unfolding initials_from
one_each initial [] n k o x place e = no_some x e
one_each initial (y ∷ xs) n zero o x place e =
    subst (λ z. values_of o (initials_from initial n (y ∷ xs)) ≡ (if z.is_static then 1 else 0)) (same_Some y x e)
    (this_begun o (given_initial initial n y) (initials_from initial (n + 1) xs) (this_given initial n o y (omega (arith, place)))
    (none_before initial xs (n + 1) o (omega (arith, place))) y.is_static)
one_each initial (y ∷ xs) n (suc k) o x place e =
    other_begun o (given_initial initial n y) (initials_from initial (n + 1) xs) (if x.is_static then 1 else 0)
    (other_given initial n o y (λ q. omega (arith, place, q))) (one_each initial xs (n + 1) k o x (omega (arith, place)) e) y.is_static

-- an initial value of an object of static duration
abbrev OfStatic : List ObjectTree → Initial → Type 0
OfStatic objects i = IsSomeAnd (slice_get objects i.object) (λ object. IsTrue object.is_static)

static_begun :
    (objects : List ObjectTree) (x : Initial) (xs : List Initial) (b : Bool) → (b ≡ true → OfStatic objects x) → All (OfStatic objects) xs
    → All (OfStatic objects) (begun_by b x xs)
static_begun objects x xs true here rest = All-cons (OfStatic objects) x xs (here refl) rest
static_begun objects x xs false here rest = rest

-- so many objects stand before these
all_static :
    (initial : List Initial) (objects xs : List ObjectTree) (n : ℕ) → ((k : ℕ) → slice_get objects (n + k) ≡ slice_get xs k)
    → All (OfStatic objects) (initials_from initial n xs)
unfolding initials_from
all_static initial objects [] n at = All-nil (OfStatic objects)
all_static initial objects (x ∷ xs) n at =
    static_begun objects (given_initial initial n x) (initials_from initial (n + 1) xs) x.is_static
    (λ s. subst (λ o. IsSomeAnd o (λ object. IsTrue object.is_static)) (sym (ap (slice_get objects) (given_object initial n x ∙ omega arith) ∙ at 0)) s)
    (all_static initial objects xs (n + 1) (λ k. ap (slice_get objects) (omega arith) ∙ at (suc k)))

if_there : {A : Type 0} (P : A → Type 0) (o : Option A) → ((x : A) → o ≡ Some x → P x) → IfSome o P
if_there P None f = tt
if_there P (Some x) f = f x refl

has_initials : (w : World) → HasInitials (program_of w)
has_initials w = record {
  once = λ k. if_there (λ object. values_of k (initials_from w.initial 0 w.objects) ≡ (if object.is_static then 1 else 0)) (slice_get w.objects k)
      (λ x e. one_each w.initial w.objects 0 k k x (omega arith) e);
  are_static = all_static w.initial w.objects w.objects 0 (λ k. ap (slice_get w.objects) (omega arith));
}

abbrev program_in : FileOutcome → TProgramTree → TProgramTree
program_in (Program program) other = program
program_in (NoProgram r) other = other

-- what holds of each program that declarations leave holds of that of the file
pub of_last :
    (P : TProgramTree → Type 0) (program : TProgramTree) (last : Outcome ⊤) → Program program ≡ outcome_of last
    → ((w : World) → last ≡ Typed tt w → P (program_of w)) → P program
of_last P program (Typed unit w) e f = subst P (sym (ap (λ o. program_in o program) e)) (f w refl)
of_last P program (Refused r) e f = cc

pub initials_are_given : (file : FileTree) (program : TProgramTree) → TypesFile file (Program program) → HasInitials program
initials_are_given file program types = of_last HasInitials program types.last types.is (λ w e. has_initials w)

pub tables_are_typed : (file : FileTree) (program : TProgramTree) → TypesFile file (Program program) → IsTypedTable program.structs
tables_are_typed file program types =
    of_last (λ p. IsTypedTable p.structs) program types.last types.is
    (λ w e. adds.structs_are_typed (file_context file) file.outers w (subst (λ o. TypesOuters nothing_yet (file_context file) file.outers o) e types.types))
