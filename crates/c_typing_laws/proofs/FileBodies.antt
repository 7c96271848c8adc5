-- The bodies of a typed file's functions are typed, and initial values have as many bytes as their objects.
use Rattle.std.proofs.Common.{◌≡◌, ℕ, ◌+◌, true, false, List, [], ◌∷◌, ◌++◌, length, refl, ap, sym, subst, ◌∙◌}
use Rattle.std.specs.Prelude.{Bool, ◌==◌, if◌then◌else◌, Option, None, Some, IfSome, IsSomeAnd, option_map, unwrap_or, All, find, replicate, slice_get, ⊤}
use Rattle.std.proofs.lemmas.List.{append_assoc, length_push, length-replicate}
use Rattle.std.proofs.lemmas.List.Elements.{All-nil, All-cons, All-map, All-weaker}
use Rattle.c_syntax_written.specs.WrittenFile.{FileTree}
use Rattle.c_syntax.specs.declared.program.Initial.{Initial}
use Rattle.c_syntax.specs.declared.program.InitByte.TheVariants.{Num}
use Rattle.c_syntax.specs.Types.{ObjectTree}
use Rattle.c_syntax.specs.TypedStmt.{TStmtTree}
use Rattle.c_syntax.specs.Program.{TFunctionTree, TProgramTree}
use Rattle.c_layout.specs.TypedNodes.{IsTypedStmt}
use Rattle.c_layout.specs.WellTyped.{body_standing}
use Rattle.c_typing.specs.World.{World, Outcome, Typed, Refused}
use Rattle.c_typing.specs.Context.{file_context}
use Rattle.c_typing.specs.Settled.{settled_function, settled_stmt}
use Rattle.c_typing.specs.File.{given_initial, initials_from, TypesFile, TypesOuters, FileOutcome, Program, NoProgram, outcome_of, nothing_yet, program_of}
use Rattle.c_typing.proofs.Adds.{nothing_good}
use Rattle.c_typing.proofs.FormsGo.{found_each}
use Rattle.c_typing.proofs.MadeTables.{get_append, get_last}
use Rattle.c_typing_laws.proofs.Outcomes.{typed_from}
use Rattle.c_typing_laws.proofs.FileMade.{outers_as}
use Rattle.c_typing_laws.proofs.Reached.{good_by, outers_reach}
use Rattle.c_typing_laws.proofs.Scalars.{IsScalarMeaning}
use Rattle.c_typing_laws.proofs.Covers.{covers_all}
use Rattle.c_typing_laws.specs.ExpressionLaws.{EndsFrom}
use Rattle.c_typing_laws.specs.BodyLaws.{BodiesAreTyped, InitialsHaveSizes}
use Rattle.c_typing_laws.proofs.FileSigned.{nothing_between, outers_between}
use Rattle.c_typing_laws.proofs.FileEnds.{end_scope, ends_last}
use Rattle.c_typing_laws.proofs.Bodies.{IsTypedBodyOf, Defined, outers_bodies, nothing_state}
use Rattle.c_typing_laws.proofs.Sizes.{IsSizedInitial}

abbrev program_in : FileOutcome → TProgramTree → TProgramTree
program_in (Program program) other = program
program_in (NoProgram r) other = other

of_last :
    (P : TProgramTree → Type 0) (program : TProgramTree) (last : Outcome ⊤) → Program program ≡ outcome_of last
    → ((w : World) → last ≡ Typed tt w → P (program_of w)) → P program
of_last P program (Typed unit w) e f = subst P (sym (ap (λ o. program_in o program) e)) (f w refl)
of_last P program (Refused r) e f = cc

settled_body : (program : TProgramTree) (f : TFunctionTree) → IsTypedBodyOf program f → IfSome (settled_function program.objects f).body (IsTypedStmt (body_standing program (settled_function program.objects f)))
settled_body program f h = by f.body h
  where
    by : (b : Option TStmtTree) → IfSome b (λ s. IsTypedStmt (body_standing program f) (settled_stmt program.objects s)) → IfSome (option_map (settled_stmt program.objects) b) (IsTypedStmt (body_standing program f))
    by None t = tt
    by (Some s) t = t

-- the world at the end of a file: the program goes on from it, its bodies are typed, and initial values have as many bytes as their objects
record AtEnd (w : World) : Type 0 where
  ends : EndsFrom w (end_scope w)
  defined : Defined (program_of w) w

at_end : (file : FileTree) (w : World) → TypesOuters nothing_yet (file_context file) file.outers (Typed tt w) → TypesFile file (Program (program_of w)) → AtEnd w
at_end file w t types =
    let around = file_context file in
    let made = typed_from (outers_as nothing_yet around file.outers (Typed tt w) t) in
    let between = outers_between nothing_good (All-nil (λ b. IsScalarMeaning b.meaning)) made [] (nothing_between around.functions) in
    let ends = ends_last file w types (good_by nothing_good (outers_reach nothing_good made)) between in record {
      ends = ends;
      defined = outers_bodies (program_of w) (record { file = refl; breaks = refl; continues = refl; switch = refl }) (covers_all file.outers) made (nothing_state around (program_of w)) ends
          (All-nil (IsTypedBodyOf (program_of w)));
    }

pub bodies_are_typed : BodiesAreTyped
bodies_are_typed file program types =
    of_last (λ p. TypesFile file (Program p) → All (λ f. IfSome f.body (IsTypedStmt (body_standing p f))) p.functions) program types.last types.is (λ w e t.
    let end = at_end file w (subst (λ o. TypesOuters nothing_yet (file_context file) file.outers o) e types.types) t in
    All-map (λ f. IfSome f.body (IsTypedStmt (body_standing (program_of w) f))) (settled_function w.objects) w.functions
    (All-weaker (IsTypedBodyOf (program_of w)) (λ f. IfSome (settled_function w.objects f).body (IsTypedStmt (body_standing (program_of w) (settled_function w.objects f)))) (λ f h. settled_body (program_of w) f h) w.functions
    end.defined.bodies))
    types

-- ---- initial values

get_at : (front : List ObjectTree) (x : ObjectTree) (rest : List ObjectTree) → slice_get (front ++ x ∷ rest) (length front) ≡ Some x
get_at front x rest = ap (λ l. slice_get l (length front)) (sym (append_assoc front (x ∷ []) rest)) ∙ get_append (front ++ x ∷ []) rest (length front) x (get_last front x)

-- the value that was given, or zeros
given_sized : (program : TProgramTree) (is : List Initial) (n : ℕ) (x : ObjectTree) → slice_get program.objects n ≡ Some x → All (IsSizedInitial program) is → IsSizedInitial program (given_initial is n x)
given_sized program is n x there all = by (find (λ i. i.object == n) is) refl
  where
    by : (o : Option Initial) → find (λ i. i.object == n) is ≡ o → IsSizedInitial program (unwrap_or o (record { object = n; bytes = replicate x.size (Num 0) }))
    by None e = subst (λ o. IsSomeAnd o (λ y. length (replicate x.size (Num 0)) ≡ y.size)) (sym there) (length-replicate x.size (Num 0))
    by (Some i) e = found_each (IsSizedInitial program) (λ j. j.object == n) is i all e

initials_sized :
    (program : TProgramTree) (is : List Initial) (front rest : List ObjectTree) → program.objects ≡ front ++ rest → All (IsSizedInitial program) is → All (IsSizedInitial program) (initials_from is (length front) rest)
unfolding initials_from
initials_sized program is front [] e all = All-nil (IsSizedInitial program)
initials_sized program is front (x ∷ rest) e all =
    let more = initials_sized program is (front ++ x ∷ []) rest (e ∙ sym (append_assoc front (x ∷ []) rest)) all in
    by x.is_static (subst (λ n. All (IsSizedInitial program) (initials_from is n rest)) (length_push front x) more)
    (given_sized program is (length front) x (ap (λ l. slice_get l (length front)) e ∙ get_at front x rest) all)
  where
    by : (b : Bool) → All (IsSizedInitial program) (initials_from is (length front + 1) rest) → IsSizedInitial program (given_initial is (length front) x)
        → All (IsSizedInitial program) (if b then given_initial is (length front) x ∷ initials_from is (length front + 1) rest else initials_from is (length front + 1) rest)
    by true others one = All-cons (IsSizedInitial program) (given_initial is (length front) x) (initials_from is (length front + 1) rest) one others
    by false others one = others

pub initials_have_sizes : InitialsHaveSizes
initials_have_sizes file program types =
    of_last (λ p. TypesFile file (Program p) → All (IsSizedInitial p) p.initial) program types.last types.is (λ w e t.
    let end = at_end file w (subst (λ o. TypesOuters nothing_yet (file_context file) file.outers o) e types.types) t in
    initials_sized (program_of w) w.initial [] w.objects refl (end.defined.sized [] end.ends))
    types
