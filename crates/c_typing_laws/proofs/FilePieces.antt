-- The initial values of a file.
use Rattle.std.proofs.Common.{◌≡◌, ℕ, ◌+◌, true, false, List, [], ◌∷◌, refl, ap, sym, subst}
use Rattle.std.specs.Prelude.{Bool, ◌==◌, if◌then◌else◌, Option, None, Some, unwrap_or, All, map, find, replicate, ⊤}
use Rattle.std.proofs.lemmas.List.Elements.{All-nil, All-cons, All-weaker, All-replicate}
use Rattle.c_syntax_written.specs.WrittenFile.{OuterTree}
use Rattle.c_syntax.specs.declared.program.Initial.{Initial}
use Rattle.c_syntax.specs.declared.program.InitByte.{InitByte}
use Rattle.c_syntax.specs.declared.program.InitByte.TheVariants.{Num, Piece}
use Rattle.c_syntax.specs.Types.{CTypeTree, ObjectTree}
use Rattle.c_syntax.specs.Program.{TProgramTree}
use Rattle.c_layout.specs.WellTyped.{IsTypedByte}
use Rattle.c_typing.specs.World.{World, Form, Outcome, Typed, Refused}
use Rattle.c_typing.specs.Declarators.{DeclaredName, ParameterTree, Step}
use Rattle.c_typing.specs.Context.{Context, file_context, has_name}
use Rattle.c_typing.specs.Decls.{parameter_object}
use Rattle.c_typing.specs.File.{Begun, given_initial, initials_from, TypesOuters, FileOutcome, Program, NoProgram, outcome_of, nothing_yet, program_of}
use Rattle.c_typing.proofs.Adds.{nothing_good}
use Rattle.c_typing.proofs.FormsGo.{found_each}
use Rattle.c_typing.proofs.Good.{Good}
use Rattle.c_typing_laws.specs.NameSteps.{MakesFunction, new_name, known_name}
use Rattle.c_typing_laws.specs.FileSteps as outers
use Rattle.c_typing_laws.specs.FileSteps.{counted, MakesHead, head, MakesOuter, MakesOuters, no_more, and_then}
use Rattle.c_typing_laws.proofs.Outcomes.{typed_from}
use Rattle.c_typing_laws.proofs.FileMade.{outers_as}
use Rattle.c_typing_laws.proofs.Reached.{good_by, head_facts, outer_reach}
use Rattle.c_typing_laws.proofs.Scalars.{IsScalarMeaning, ScalarNames}
use Rattle.c_typing_laws.proofs.Keeps.{decl_keeps, items_keep}
use Rattle.c_typing_laws.proofs.FileKeeps.{head_scalar, body_scalar, outer_scalar}
use Rattle.c_typing_laws.specs.PieceLaws.{PiecesAreStatic}
use Rattle.c_typing_laws.proofs.Pieces.{IsByteIn, AreBytes, in_same, in_more, in_calm, new_in, bytes_kept}

function_in :
    {around : Context} {w v : World} {named : DeclaredName} {params : List ParameterTree} {types : List CTypeTree} {result : CTypeTree} {n : ℕ}
    → MakesFunction around w named params types result true (Some n) v → AreBytes w → AreBytes v
function_in {around = around} {w = w} {named = named} {params = params} {types = types} {result = result} (new_name r e) all = new_in w named (has_name around.functions named.name) params types result all
function_in {w = w} {v = v} (known_name l e so) all = in_same w v refl refl all

head_in : {around : Context} {w y : World} {steps : List Step} {base : Form} {named : DeclaredName} {begun : Begun} → MakesHead around w steps base named begun y → AreBytes w → AreBytes y
head_in {y = y} (head {params = params} {v = v} e l is (counted {total = total})) all = in_more v y (map (parameter_object v) params) refl refl (function_in is all)

outer_in : {w v : World} {around : Context} {tree : OuterTree} → Good w → ScalarNames w → MakesOuter w around tree v → AreBytes w → AreBytes v
outer_in {around = around} good names (outers.declares d) all = (decl_keeps (bytes_kept around.functions around.objects) refl refl good d (record { names = names; has = all })).has
outer_in {w = w} {v = v} {around = around} good names (outers.defines {u = u} {x = x} {z = z} t n h i) all =
    let facts = head_facts good t in
    let scalar = head_scalar good names t in
    let inside = head_in h (in_calm u x facts.behind (in_calm w u facts.calm all)) in
    in_same z v refl refl (items_keep (bytes_kept around.functions around.objects) refl refl facts.scope i (record { names = body_scalar scalar.names scalar.steps h; has = inside })).has

outers_in : {around : Context} {w v : World} {list : List OuterTree} → Good w → ScalarNames w → MakesOuters around w list v → AreBytes w → AreBytes v
outers_in good names no_more all = all
outers_in good names (and_then p q) all = outers_in (good_by good (outer_reach good p)) (outer_scalar good names p) q (outer_in good names p all)

-- ---- the file

abbrev program_in : FileOutcome → TProgramTree → TProgramTree
program_in (Program program) other = program
program_in (NoProgram r) other = other

of_last :
    (P : TProgramTree → Type 0) (program : TProgramTree) (last : Outcome ⊤) → Program program ≡ outcome_of last
    → ((w : World) → last ≡ Typed tt w → P (program_of w)) → P program
of_last P program (Typed unit w) e f = subst P (sym (ap (λ o. program_in o program) e)) (f w refl)
of_last P program (Refused r) e f = cc

given_in : (P : InitByte → Type 0) (is : List Initial) (n : ℕ) (x : ObjectTree) → P (Num 0) → All (λ i. All P i.bytes) is → All P (given_initial is n x).bytes
given_in P is n x zero_is all = by (find (λ i. i.object == n) is) refl
  where
    by : (o : Option Initial) → find (λ i. i.object == n) is ≡ o → All P (unwrap_or o (record { object = n; bytes = replicate x.size (Num 0) })).bytes
    by None e = All-replicate P x.size (Num 0) zero_is
    by (Some i) e = found_each (λ j. All P j.bytes) (λ j. j.object == n) is i all e

initials_in : (P : InitByte → Type 0) (is : List Initial) (n : ℕ) (xs : List ObjectTree) → P (Num 0) → All (λ i. All P i.bytes) is → All (λ i. All P i.bytes) (initials_from is n xs)
unfolding initials_from
initials_in P is n [] z all = All-nil (λ i. All P i.bytes)
initials_in P is n (x ∷ rest) z all = by x.is_static (initials_in P is (n + 1) rest z all)
  where
    by : (b : Bool) → All (λ i. All P i.bytes) (initials_from is (n + 1) rest) → All (λ i. All P i.bytes) (if b then given_initial is n x ∷ initials_from is (n + 1) rest else initials_from is (n + 1) rest)
    by true more = All-cons (λ i. All P i.bytes) (given_initial is n x) (initials_from is (n + 1) rest) (given_in P is n x z all) more
    by false more = more

byte_typed : (w : World) (b : InitByte) → IsByteIn w.objects b → IsTypedByte (program_of w) b
byte_typed w (Num n) h = tt
byte_typed w (Piece o offset k) h = h

pub pieces_are_static : PiecesAreStatic
pieces_are_static file program types =
    of_last (λ p. All (λ i. All (IsTypedByte p) i.bytes) p.initial) program types.last types.is (λ w e.
    let made = typed_from (outers_as nothing_yet (file_context file) file.outers (Typed tt w) (subst (λ o. TypesOuters nothing_yet (file_context file) file.outers o) e types.types)) in
    let all = outers_in nothing_good (All-nil (λ b. IsScalarMeaning b.meaning)) made (All-nil (λ i. All (IsByteIn []) i.bytes)) in
    initials_in (IsTypedByte (program_of w)) w.initial 0 w.objects tt
    (All-weaker (λ i. All (IsByteIn w.objects) i.bytes) (λ i. All (IsTypedByte (program_of w)) i.bytes)
    (λ i h. All-weaker (IsByteIn w.objects) (IsTypedByte (program_of w)) (λ b x. byte_typed w b x) i.bytes h) w.initial all))
