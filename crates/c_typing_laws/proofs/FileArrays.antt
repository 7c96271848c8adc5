-- The arrays of a file.
use Rattle.std.proofs.Common.{◌≡◌, ℕ, suc, true, false, List, [], ◌∷◌, ◌++◌, refl, ap, sym, subst, ◌∙◌}
use Rattle.std.specs.Prelude.{Bool, Some, All, flat_map, slice_get, ⊤}
use Rattle.std.proofs.lemmas.Bool.{false≢true}
use Rattle.std.proofs.lemmas.Option.{same_Some, none-some}
use Rattle.std.proofs.lemmas.List.{append-nil, append_assoc}
use Rattle.std.proofs.lemmas.List.Elements.{All-nil, All-cons}
use Rattle.c_syntax_written.specs.WrittenFile.{OuterTree}
use Rattle.c_syntax.specs.Types.{CTypeTree}
use Rattle.c_syntax.specs.Program.{TProgramTree}
use Rattle.c_layout.specs.RowTypes.{IsScalar}
use Rattle.c_typing.specs.World.{World, Form, Outcome, Typed, Refused}
use Rattle.c_typing.specs.Operands.{is_unsized}
use Rattle.c_typing.specs.Declarators.{DeclaredName, ParameterTree, Step}
use Rattle.c_typing.specs.Context.{Context, file_context, has_name, objects_defined_by}
use Rattle.c_typing.specs.File.{Begun, TypesOuters, FileOutcome, Program, NoProgram, outcome_of, nothing_yet, program_of}
use Rattle.c_typing.proofs.Adds.{nothing_good}
use Rattle.c_typing.proofs.Good.{Good}
use Rattle.c_typing_laws.specs.NameSteps.{MakesFunction, new_name, known_name}
use Rattle.c_typing_laws.specs.FileSteps as outers
use Rattle.c_typing_laws.specs.FileSteps.{counted, MakesHead, head, MakesOuter, MakesOuters, no_more, and_then}
use Rattle.c_typing_laws.proofs.Outcomes.{typed_from}
use Rattle.c_typing_laws.proofs.FileMade.{outers_as}
use Rattle.c_typing_laws.proofs.Reached.{good_by, head_facts, outer_reach}
use Rattle.c_typing_laws.proofs.Scalars.{IsScalarMeaning, AreScalarSteps, ScalarNames}
use Rattle.c_typing_laws.proofs.Keeps.{decl_keeps, items_keep}
use Rattle.c_typing_laws.proofs.FileKeeps.{head_scalar, body_scalar, outer_scalar}
use Rattle.c_typing_laws.proofs.Covers.{has_each}
use Rattle.c_typing_laws.proofs.Params.{given_scalar}
use Rattle.c_typing_laws.specs.ArrayLaws.{ArraysHaveSizes}
use Rattle.c_typing_laws.proofs.Entries.{has_in, split_all}
use Rattle.c_typing_laws.proofs.Waiting.{Waits, ArraysWait, wait_same, wait_calm, new_wait, counted_wait, wait_kept}
use Rattle.c_typing_laws.proofs.Done.{IsDoneName, AreDone, are_same, new_done, calm_done, done_kept, decl_done}

-- what holds between the declarations of a file, of which these names are defined so far
record Between (objects names : List (List ℕ)) (w : World) : Type 0 where
  wait : ArraysWait objects w
  done : AreDone names w

-- ---- a definition

function_wait :
    {objects : List (List ℕ)} {around : Context} {w v : World} {named : DeclaredName} {params : List ParameterTree} {types : List CTypeTree} {result : CTypeTree} {n : ℕ}
    → All (λ p. IsScalar p.ty) params → MakesFunction around w named params types result true (Some n) v → ArraysWait objects w → ArraysWait objects v
function_wait {around = around} {w = w} {named = named} {params = params} {types = types} {result = result} s (new_name r e) all =
    new_wait w named (has_name around.functions named.name) params types result s all
function_wait {w = w} {v = v} s (known_name l e so) all = wait_same w v refl refl all

function_done :
    (names : List (List ℕ)) {around : Context} {w v : World} {named : DeclaredName} {params : List ParameterTree} {types : List CTypeTree} {result : CTypeTree} {n : ℕ}
    → MakesFunction around w named params types result true (Some n) v → AreDone names w → AreDone names v
function_done names {around = around} {w = w} {named = named} {params = params} {types = types} {result = result} (new_name r e) all =
    new_done names w named (has_name around.functions named.name) params types result all
function_done names (known_name l e so) all = all

head_between :
    {objects names : List (List ℕ)} {around : Context} {w y : World} {steps : List Step} {base : Form} {named : DeclaredName} {begun : Begun}
    → AreScalarSteps steps → MakesHead around w steps base named begun y → Between objects names w → Between objects names y
head_between {names = done_names} {y = y} t (head {params = params} {names = names} {tags = tags} {rest = rest} {v = v} e l is (counted {total = total})) b =
    let s = given_scalar params names tags rest (subst AreScalarSteps e t) in record {
      wait = counted_wait v y params refl refl s (function_wait s is b.wait);
      done = are_same done_names v y refl (function_done done_names is b.done);
    }

-- the names that a tree defines are defined behind it
outer_between :
    {names : List (List ℕ)} {w v : World} {around : Context} {tree : OuterTree} → around.in_block ≡ false → All (λ name. has_name around.objects name ≡ true) (objects_defined_by tree) → Good w → ScalarNames w
    → MakesOuter w around tree v → Between around.objects names w → Between around.objects (names ++ objects_defined_by tree) v
outer_between {names = names} {around = around} file covers good scalar (outers.declares d) b = record {
  wait = (decl_keeps (wait_kept around.functions around.objects) refl refl good d (record { names = scalar; has = b.wait })).has;
  done = decl_done names file covers good d b.done;
}
outer_between {names = names} {w = w} {v = v} {around = around} file covers good scalar (outers.defines {u = u} {x = x} {y = y} {z = z} t n h i) b =
    let facts = head_facts good t in
    let scalars = head_scalar good scalar t in
    let inside = head_between scalars.steps h (record {
      wait = wait_calm u x facts.behind (wait_calm w u facts.calm b.wait);
      done = calm_done names u x facts.behind (calm_done names w u facts.calm b.done);
    }) in
    let body = body_scalar scalars.names scalars.steps h in
    record {
      wait = wait_same z v refl refl (items_keep (wait_kept around.functions around.objects) refl refl facts.scope i (record { names = body; has = inside.wait })).has;
      done = subst (λ l. AreDone l v) (sym (append-nil names))
          (are_same names z v refl (items_keep (done_kept names around.functions around.objects) refl refl facts.scope i (record { names = body; has = inside.done })).has);
    }

outers_between :
    {around : Context} {w v : World} {list : List OuterTree} → around.in_block ≡ false → All (λ name. has_name around.objects name ≡ true) (flat_map objects_defined_by list) → Good w
    → ScalarNames w → MakesOuters around w list v → (names : List (List ℕ)) → Between around.objects names w → Between around.objects (names ++ flat_map objects_defined_by list) v
outers_between {around = around} {w = w} file covers good scalar no_more names b = subst (λ l. Between around.objects l w) (sym (append-nil names)) b
outers_between {around = around} {v = v} file covers good scalar (and_then {tree = tree} {rest = rest} p q) names b =
    let split = split_all (λ name. has_name around.objects name ≡ true) (objects_defined_by tree) (flat_map objects_defined_by rest) covers in
    subst (λ l. Between around.objects l v) (append_assoc names (objects_defined_by tree) (flat_map objects_defined_by rest))
    (outers_between file split.1 (good_by good (outer_reach good p)) (outer_scalar good scalar p) q (names ++ objects_defined_by tree) (outer_between file split.0 good scalar p b))

-- ---- the file

-- nothing waits where all names are defined
none_waits : (names : List (List ℕ)) (w : World) (k : ℕ) → AreDone names w → Waits names w.linked k → ⊥
none_waits names w k done waits =
    let is = has_in (IsDoneName w.linked) names waits.entry.name done waits.named waits.free in
    let same = same_Some is.entry waits.entry (sym is.there ∙ waits.there) in
    false≢true (sym waits.waits ∙ ap (λ l. l.defined) (sym same) ∙ is.done k (ap (λ l. l.meaning) same ∙ waits.is))

sized_by : (b : Bool) → (b ≡ true → ⊥) → b ≡ false
sized_by true f = absurd (f refl)
sized_by false f = refl

all_by : {A : Type 0} (P : A → Type 0) (xs : List A) → ((k : ℕ) (x : A) → slice_get xs k ≡ Some x → P x) → All P xs
all_by P [] f = All-nil P
all_by P (x ∷ xs) f = All-cons P x xs (f 0 x refl) (all_by P xs (λ k y e. f (suc k) y e))

abbrev program_in : FileOutcome → TProgramTree → TProgramTree
program_in (Program program) other = program
program_in (NoProgram r) other = other

of_last :
    (P : TProgramTree → Type 0) (program : TProgramTree) (last : Outcome ⊤) → Program program ≡ outcome_of last
    → ((w : World) → last ≡ Typed tt w → P (program_of w)) → P program
of_last P program (Typed unit w) e f = subst P (sym (ap (λ o. program_in o program) e)) (f w refl)
of_last P program (Refused r) e f = cc

own_names : (names : List (List ℕ)) → All (λ name. has_name names name ≡ true) names
own_names names = subst (λ l. All (λ name. has_name l name ≡ true) names) (append-nil names) (has_each [] names [])

pub arrays_have_sizes : ArraysHaveSizes
arrays_have_sizes file program types =
    of_last (λ p. All (λ x. is_unsized x.ty ≡ false) p.objects) program types.last types.is (λ w e.
    let around = file_context file in
    let made = typed_from (outers_as nothing_yet around file.outers (Typed tt w) (subst (λ o. TypesOuters nothing_yet around file.outers o) e types.types)) in
    let start : Between around.objects [] nothing_yet = record { wait = λ k x q h. absurd (none-some x q); done = All-nil (IsDoneName []) } in
    let end = outers_between refl (own_names around.objects) nothing_good (All-nil (λ b. IsScalarMeaning b.meaning)) made [] start in
    all_by (λ x. is_unsized x.ty ≡ false) w.objects (λ k x q. sized_by (is_unsized x.ty) (λ h. none_waits around.objects w k end.done (end.wait k x q h))))
