-- The objects of a file.
use Rattle.std.proofs.Common.{◌≡◌, ℕ, true, false, List, [], ◌++◌, refl, ap, sym, subst, ◌∙◌, inl, inr, ⊎_elim}
use Rattle.std.specs.Prelude.{◌⊎◌, Bool, ◌&&◌, IsTrue, Some, All, map, codes, ⊤}
use Rattle.std.proofs.lemmas.Bool.{false≢true}
use Rattle.std.proofs.lemmas.List.Elements.{All-nil, All-weaker}
use Rattle.c_syntax_written.specs.declared.place.Pos.{Pos}
use Rattle.c_syntax_written.specs.WrittenFile.{OuterTree}
use Rattle.c_syntax.specs.Types.{CTypeTree, ObjectTree}
use Rattle.c_syntax.specs.Program.{StructDefTree, TProgramTree}
use Rattle.c_layout.specs.RowTypes.{has_const_elements, is_literal, is_declared_const}
use Rattle.c_layout.specs.WellTyped.{is_array, IsTypedObject}
use Rattle.c_layout.specs.Tables.{IsTypedTable}
use Rattle.c_typing.specs.World.{World, Form, Outcome, Typed, Refused}
use Rattle.c_typing.specs.Declarators.{DeclaredName, ParameterTree, Step}
use Rattle.c_typing.specs.Context.{Context, file_context, has_name}
use Rattle.c_typing.specs.Decls.{Made, new_function, parameter_object}
use Rattle.c_typing.specs.File.{Begun, definition_ends, TypesOuters, FileOutcome, Program, NoProgram, outcome_of, nothing_yet, program_of}
use Rattle.c_typing.proofs.Adds.{nothing_good}
use Rattle.c_typing.proofs.FormsGo.{AreFormedSteps}
use Rattle.c_typing.proofs.Good.{Good}
use Rattle.c_typing.proofs.SoundTables.{typed_table, proper}
use Rattle.c_typing_laws.specs.NameSteps.{MakesFunction, new_name, known_name}
use Rattle.c_typing_laws.specs.FileSteps as outers
use Rattle.c_typing_laws.specs.FileSteps.{counted, MakesHead, head, MakesOuter, MakesOuters, no_more, and_then}
use Rattle.c_typing_laws.proofs.Calm.{IsLiteral}
use Rattle.c_typing_laws.proofs.Outcomes.{typed_from}
use Rattle.c_typing_laws.proofs.FileMade.{outers_as}
use Rattle.c_typing_laws.proofs.Reached.{good_by, head_facts, outer_reach, outers_reach}
use Rattle.c_typing_laws.proofs.Scalars.{IsScalarMeaning, AreScalarSteps, ScalarNames}
use Rattle.c_typing_laws.proofs.Keeps.{decl_keeps, items_keep}
use Rattle.c_typing_laws.proofs.FileKeeps.{head_scalar, body_scalar, outer_scalar}
use Rattle.c_typing_laws.specs.ObjectLaws.{IsOpenArray, ObjectsAreTyped}
use Rattle.c_typing_laws.proofs.Objects.{IsDeclared, IsObjectIn, ObjectsIn, declared_marks, in_calm, in_same, IsGoodParam, in_parameters, written_good, new_in, objects_kept}

-- ---- a definition

function_in :
    {around : Context} {w v : World} {named : DeclaredName} {params : List ParameterTree} {types : List CTypeTree} {result : CTypeTree} {n : ℕ}
    → All (IsGoodParam w.structs) params → MakesFunction around w named params types result true (Some n) v → ObjectsIn w → ObjectsIn v × (v.structs ≡ w.structs)
function_in {around = around} {w = w} {named = named} {params = params} {types = types} {result = result} good (new_name r e) all =
    (new_in w named (has_name around.functions named.name) params types result good all, by (has_name around.functions named.name))
  where
    by : (later : Bool) → (new_function w named later params types result).structs ≡ w.structs
    by true = refl
    by false = refl
function_in {w = w} {v = v} good (known_name l e so) all = (in_same w v refl refl all, refl)

pub head_in :
    {around : Context} {w y : World} {steps : List Step} {base : Form} {named : DeclaredName} {begun : Begun}
    → AreFormedSteps w.structs steps → AreScalarSteps steps → MakesHead around w steps base named begun y → ObjectsIn w → ObjectsIn y
head_in {w = w} {y = y} {named = named} s t (head {params = params} {names = names} {tags = tags} {rest = rest} {n = n} {v = v} e l is (counted {total = total})) all =
    let good = written_good w.structs params names tags rest (subst (AreFormedSteps w.structs) e s) (subst AreScalarSteps e t) in
    let f = function_in good is all in
    let x = record v { objects = v.objects ++ map (parameter_object v) params; total = total } in
    in_same x y refl refl (in_parameters v params (subst (λ structs. All (IsGoodParam structs) params) (sym f.1) good) f.0)

ended_in : (begun : Begun) (brace : Pos) (made : Made) (z : World) → ObjectsIn z → ObjectsIn (definition_ends begun brace made z)
ended_in begun brace made z all = in_same z (definition_ends begun brace made z) refl refl all

pub outer_in : {w v : World} {around : Context} {tree : OuterTree} → Good w → ScalarNames w → MakesOuter w around tree v → ObjectsIn w → ObjectsIn v
outer_in {around = around} good names (outers.declares d) all = (decl_keeps (objects_kept around.functions around.objects) refl refl good d (record { names = names; has = all })).has
outer_in {w = w} {around = around} good names (outers.defines {brace = brace} {begun = begun} {made = made} {u = u} {x = x} {y = y} {z = z} t n h i) all =
    let facts = head_facts good t in
    let scalar = head_scalar good names t in
    let before = in_calm u x facts.good facts.behind (in_calm w u good facts.calm all) in
    let inside = head_in facts.steps scalar.steps h before in
    ended_in begun brace made z
    (items_keep (objects_kept around.functions around.objects) refl refl facts.scope i (record { names = body_scalar scalar.names scalar.steps h; has = inside })).has

outers_in : {around : Context} {w v : World} {list : List OuterTree} → Good w → ScalarNames w → MakesOuters around w list v → ObjectsIn w → ObjectsIn v
outers_in good names no_more all = all
outers_in good names (and_then p q) all = outers_in (good_by good (outer_reach good p)) (outer_scalar good names p) q (outer_in good names p all)

-- ---- the file

abbrev program_in : FileOutcome → TProgramTree → TProgramTree
program_in (Program program) other = program
program_in (NoProgram r) other = other

of_last :
    (P : TProgramTree → Type 0) (program : TProgramTree) (last : Outcome ⊤) → Program program ≡ outcome_of last
    → ((w : World) → last ≡ Typed tt w → P (program_of w)) → P program
of_last P program (Typed unit w) e f = subst P (sym (ap (λ o. program_in o program) e)) (f w refl)
of_last P program (Refused r) e f = cc

-- the marks of an object
record HasMarks (x : ObjectTree) : Type 0 where
  elements : has_const_elements x.ty ≡ is_array x.ty && is_declared_const x
  literal : IsTrue (is_literal x) → IsTrue x.is_static × (x.name ≡ codes "string")

declared_has : (x : ObjectTree) → IsDeclared x → HasMarks x
declared_has x d = let m = declared_marks x d in record { elements = m.0; literal = λ t. absurd (false≢true (sym m.1 ∙ t)) }

literal_has : (x : ObjectTree) → IsLiteral x → HasMarks x
literal_has x l = subst HasMarks (sym l.is) (record { elements = refl; literal = λ t. (refl, refl) })

object_typed : (structs : List StructDefTree) (x : ObjectTree) → IsTypedTable structs → IsObjectIn structs x → IsTypedObject structs x ⊎ IsOpenArray x
object_typed structs x table i =
    let marks = ⊎_elim (λ d. declared_has x d) (λ l. literal_has x l) i.marks in
    ⊎_elim (λ h. inl (record { ty = proper structs table.told x.ty h.formed; size = h.sized; elements = marks.elements; literal = marks.literal }))
    (λ o. inr (record { of = o.of; is_const = o.is_const; ty = o.is })) i.ty

pub objects_are_typed : ObjectsAreTyped
objects_are_typed file program types =
    of_last (λ p. All (λ x. IsTypedObject p.structs x ⊎ IsOpenArray x) p.objects) program types.last types.is (λ w e.
    let made = typed_from (outers_as nothing_yet (file_context file) file.outers (Typed tt w) (subst (λ o. TypesOuters nothing_yet (file_context file) file.outers o) e types.types)) in
    let good = good_by nothing_good (outers_reach nothing_good made) in
    let all = outers_in nothing_good (All-nil (λ b. IsScalarMeaning b.meaning)) made (All-nil (IsObjectIn [])) in
    let table = typed_table w.structs good.made good.sound in
    All-weaker (IsObjectIn w.structs) (λ x. IsTypedObject w.structs x ⊎ IsOpenArray x) (λ x i. object_typed w.structs x table i) w.objects all)
