-- The functions of a file take scalars, and give one or nothing.
use Rattle.std.proofs.Common.{◌≡◌, ℕ, zero, suc, ◌<◌, true, List, [], ◌∷◌, ◌++◌, length, refl, ap, sym, subst, arith}
use Rattle.std.specs.Prelude.{Option, None, Some, option_map, unwrap_or, IsSomeAnd, IfSome, All, map, set, slice_get, ⊤}
use Rattle.std.proofs.lemmas.Option.{same_Some}
use Rattle.std.proofs.lemmas.List.Elements.{All-nil, All-weaker, All-map, All-head, All-tail, All-set}
use Rattle.c_syntax_written.specs.declared.place.Pos.{Pos}
use Rattle.c_syntax_written.specs.WrittenFile.{OuterTree, FileTree}
use Rattle.c_syntax.specs.declared.statement.BlockKind.TheVariants as kinds
use Rattle.c_syntax.specs.Types.{CTypeTree, Void, ObjectTree}
use Rattle.c_syntax.specs.TypedStmt.{TStmtTree, Block}
use Rattle.c_syntax.specs.Program.{TFunctionTree, TProgramTree}
use Rattle.c_layout.specs.RowTypes.{IsScalar}
use Rattle.c_layout.specs.TypedNodes.{object_type, IsBlock}
use Rattle.c_typing.specs.World.{World, Form, Outcome, Typed, Refused}
use Rattle.c_typing.specs.Names.{closed}
use Rattle.c_typing.specs.Formed.{IsFormedForm}
use Rattle.c_typing.specs.Settled.{settled_function, settled_stmt}
use Rattle.c_typing.specs.Declarators.{DeclaredName, ParameterTree, Step}
use Rattle.c_typing.specs.Context.{Context, file_context, has_name}
use Rattle.c_typing.specs.Decls.{Made, numbers_from, parameter_object}
use Rattle.c_typing.specs.File.{Begun, with_function_at, defined_function, with_body, definition_ends, TypesOuters, FileOutcome, Program, NoProgram, outcome_of, nothing_yet, program_of}
use Rattle.c_typing.proofs.Adds.{nothing_good}
use Rattle.c_typing.proofs.FormsGo.{AreFormedSteps, no_some}
use Rattle.c_typing.proofs.Good.{Good}
use Rattle.c_typing.proofs.SoundTables.{typed_table, proper}
use Rattle.c_typing_laws.specs.NameSteps.{MakesFunction, new_name, known_name}
use Rattle.c_typing_laws.specs.FileSteps as outers
use Rattle.c_typing_laws.specs.FileSteps.{counted, MakesHead, head, MakesOuter, MakesOuters, no_more, and_then}
use Rattle.c_typing_laws.proofs.Outcomes.{typed_from}
use Rattle.c_typing_laws.proofs.FileMade.{outers_as}
use Rattle.c_typing_laws.proofs.Reached.{good_by, head_facts, outer_reach, outers_reach}
use Rattle.c_typing_laws.proofs.Scalars.{IsScalarForm, IsScalarMeaning, AreScalarSteps, ScalarNames}
use Rattle.c_typing_laws.proofs.Keeps.{decl_keeps, items_keep}
use Rattle.c_typing_laws.proofs.FileKeeps.{head_scalar, body_scalar, outer_scalar}
use Rattle.c_typing_laws.specs.FunctionLaws.{TakesScalars, FunctionsTakeScalars, BodiesAreBlocks}
use Rattle.c_typing_laws.proofs.Params.{HasScalar, IsFunctionIn, AreIn, in_same, in_calm, in_parameters, numbers_scalar, given_scalar, new_in, FunctionForm, function_form, functions_kept}

-- ---- one function changes

each_in : (P : TFunctionTree → Type 0) (fs : List TFunctionTree) (n : ℕ) (f : TFunctionTree) → All P fs → slice_get fs n ≡ Some f → P f
each_in P [] n f all e = no_some f e
each_in P (x ∷ rest) zero f all e = subst P (same_Some x f e) (All-head P x rest all)
each_in P (x ∷ rest) (suc n) f all e = each_in P rest n f (All-tail P x rest all) e

changed_in :
    (w : World) (n : ℕ) (change : TFunctionTree → TFunctionTree) → ((f : TFunctionTree) → IsFunctionIn w.structs w.objects f → IsFunctionIn w.structs w.objects (change f)) → AreIn w
    → AreIn (with_function_at w n change)
changed_in w n change keeps all = by (slice_get w.functions n) refl
  where
    by : (o : Option TFunctionTree) → slice_get w.functions n ≡ o → All (IsFunctionIn w.structs w.objects) (unwrap_or (option_map (λ f. set w.functions n (change f)) o) w.functions)
    by None e = all
    by (Some f) e = All-set (IsFunctionIn w.structs w.objects) w.functions n (change f) (keeps f (each_in (IsFunctionIn w.structs w.objects) w.functions n f all e)) all

-- ---- a definition

function_in :
    {around : Context} {w v : World} {named : DeclaredName} {params : List ParameterTree} {types : List CTypeTree} {result : CTypeTree} {n : ℕ}
    → All (λ p. IsScalar p.ty) params → FunctionForm w types result → MakesFunction around w named params types result true (Some n) v → AreIn w → AreIn v
function_in {around = around} {w = w} {named = named} {params = params} {types = types} {result = result} scalar form (new_name r e) all =
    new_in w named (has_name around.functions named.name) params types result scalar form.result_is form.formed all
function_in {w = w} {v = v} scalar form (known_name l e so) all = in_same w v refl refl refl all

head_in :
    {around : Context} {w y : World} {steps : List Step} {base : Form} {named : DeclaredName} {begun : Begun}
    → AreFormedSteps w.structs steps → IsFormedForm w.structs base → AreScalarSteps steps → IsScalarForm base → MakesHead around w steps base named begun y → AreIn w → AreIn y
head_in {w = w} {y = y} {steps = steps} {base = base} {named = named} s f t b (head {params = params} {names = names} {tags = tags} {rest = rest} {types = types} {result = result} {n = n} {v = v} e l is (counted {total = total})) all =
    let form = function_form w named steps base types result s f t b l in
    let scalar = given_scalar params names tags rest (subst AreScalarSteps e t) in
    let x = record v { objects = v.objects ++ map (parameter_object v) params; total = total } in
    in_same (with_function_at x n (defined_function named (numbers_from (length v.objects) (length params)))) y refl refl refl
    (changed_in x n (defined_function named (numbers_from (length v.objects) (length params)))
    (λ g i. record { result = i.result; formed = i.formed; params = numbers_scalar v params v.objects scalar; block = i.block })
    (in_parameters v params x refl refl refl (function_in scalar form is all)))

ended_in : (begun : Begun) (brace : Pos) (made : Made) (z : World) → AreIn z → AreIn (definition_ends begun brace made z)
ended_in begun brace made z all =
    let shut = record (closed begun.outside z) { labels = []; cases = []; default = None } in
    changed_in shut begun.number (with_body (Block brace kinds.Written made.objects made.items)) (λ f i. record { result = i.result; formed = i.formed; params = i.params; block = tt }) (in_same z shut refl refl refl all)

outer_in : {w v : World} {around : Context} {tree : OuterTree} → Good w → ScalarNames w → MakesOuter w around tree v → AreIn w → AreIn v
outer_in {around = around} good names (outers.declares d) all = (decl_keeps (functions_kept around.functions around.objects) refl refl good d (record { names = names; has = all })).has
outer_in {w = w} {around = around} good names (outers.defines {brace = brace} {begun = begun} {made = made} {u = u} {x = x} {y = y} {z = z} t n h i) all =
    let facts = head_facts good t in
    let scalar = head_scalar good names t in
    let before = in_calm u x facts.good facts.behind (in_calm w u good facts.calm all) in
    let inside = head_in facts.steps facts.formed scalar.steps scalar.form h before in
    ended_in begun brace made z
    (items_keep (functions_kept around.functions around.objects) refl refl facts.scope i (record { names = body_scalar scalar.names scalar.steps h; has = inside })).has

outers_in : {around : Context} {w v : World} {list : List OuterTree} → Good w → ScalarNames w → MakesOuters around w list v → AreIn w → AreIn v
outers_in good names no_more all = all
outers_in good names (and_then p q) all = outers_in (good_by good (outer_reach good p)) (outer_scalar good names p) q (outer_in good names p all)

-- ---- the file

abbrev program_in : FileOutcome → TProgramTree → TProgramTree
program_in (Program program) other = program
program_in (NoProgram r) other = other

of_last :
    (P : TProgramTree → Type 0) (program : TProgramTree) (last : Outcome ⊤) → Program program ≡ outcome_of last
    → ((w : World) → last ≡ Typed tt w → P (program_of w)) → P program
of_last P program (Typed unit w) e f = subst P (sym (ap (λ o. program_in o program) e)) (f w refl)
of_last P program (Refused r) e f = cc

param_there : (w : World) (o : ℕ) → HasScalar w.objects o → (o < length w.objects) × IsScalar (object_type (program_of w) o)
param_there w o h = (within w.objects o h, by (slice_get w.objects o) h)
  where
    within : (xs : List ObjectTree) (k : ℕ) → HasScalar xs k → k < length xs
    within [] k i = absurd i
    within (x ∷ xs) zero i = omega arith
    within (x ∷ xs) (suc k) i = let l = within xs k i in omega (arith, l)

    by : (found : Option ObjectTree) → IsSomeAnd found (λ x. IsScalar x.ty) → IsScalar (unwrap_or (option_map (λ x. x.ty) found) Void)
    by None i = absurd i
    by (Some x) i = i

takes : (w : World) → Good w → (f : TFunctionTree) → IsFunctionIn w.structs w.objects f → TakesScalars (program_of w) (settled_function w.objects f)
takes w good f i = record {
  params = All-weaker (HasScalar w.objects) (λ o. (o < length w.objects) × IsScalar (object_type (program_of w) o)) (λ o h. param_there w o h) f.params i.params;
  result = i.result;
  result_proper = proper w.structs (typed_table w.structs good.made good.sound).told f.result i.formed;
}

settled_block : (objects : List ObjectTree) (s : TStmtTree) → IsBlock s → IsBlock (settled_stmt objects s)
unfolding settled_stmt
settled_block objects (Block at kind numbers items) h = tt
settled_block objects s h = absurd h

block_settled : (objects : List ObjectTree) (body : Option TStmtTree) → IfSome body IsBlock → IfSome (option_map (settled_stmt objects) body) IsBlock
block_settled objects None h = tt
block_settled objects (Some s) h = settled_block objects s h

-- ---- the world at the end of a file

pub record AtEnd (w : World) : Type 0 where
  pub good : Good w
  pub all : AreIn w

at_end : (file : FileTree) (w : World) → TypesOuters nothing_yet (file_context file) file.outers (Typed tt w) → AtEnd w
at_end file w t =
    let made = typed_from (outers_as nothing_yet (file_context file) file.outers (Typed tt w) t) in record {
      good = good_by nothing_good (outers_reach nothing_good made);
      all = outers_in nothing_good (All-nil (λ b. IsScalarMeaning b.meaning)) made (All-nil (IsFunctionIn [] []));
    }

pub functions_take_scalars : FunctionsTakeScalars
functions_take_scalars file program types =
    of_last (λ p. All (TakesScalars p) p.functions) program types.last types.is (λ w e.
    let end = at_end file w (subst (λ o. TypesOuters nothing_yet (file_context file) file.outers o) e types.types) in
    All-map (TakesScalars (program_of w)) (settled_function w.objects) w.functions
    (All-weaker (IsFunctionIn w.structs w.objects) (λ f. TakesScalars (program_of w) (settled_function w.objects f)) (λ f i. takes w end.good f i) w.functions end.all))

pub bodies_are_blocks : BodiesAreBlocks
bodies_are_blocks file program types =
    of_last (λ p. All (λ f. IfSome f.body IsBlock) p.functions) program types.last types.is (λ w e.
    let end = at_end file w (subst (λ o. TypesOuters nothing_yet (file_context file) file.outers o) e types.types) in
    All-map (λ f. IfSome f.body IsBlock) (settled_function w.objects) w.functions
    (All-weaker (IsFunctionIn w.structs w.objects) (λ f. IfSome (settled_function w.objects f).body IsBlock) (λ f i. block_settled w.objects f.body i.block) w.functions end.all))
