-- The labels and the lists of typed programs.
use Rattle.std.proofs.Common.{◌≡◌, ℕ, zero, suc, ◌≤◌, ◌<◌, true, false, List, [], ◌∷◌, ◌++◌, length, get_or, refl, ap, sym, subst, ◌∙◌, arith}
use Rattle.std.specs.Prelude.{Bool, ◌≢◌, ◌==◌, cond, if◌then◌else◌, Option, None, Some, IfSome, IsSomeAnd, option_map, unwrap_or, All, AllPairs, Contains, flat_map, map, slice_get, ⊤}
use Rattle.std.proofs.lemmas.Bool.{eq-eqb}
use Rattle.std.proofs.lemmas.List.Elements.{All-nil, All-map, All-weaker}
use Rattle.std.proofs.lemmas.List.Sums.{get_or-le-sum_by}
use Rattle.c_syntax_written.specs.WrittenFile.{FileTree}
use Rattle.c_syntax.specs.Types.{ObjectTree}
use Rattle.c_syntax.specs.TypedStmt.{TStmtTree}
use Rattle.c_syntax.specs.Program.{TFunctionTree, TProgramTree}
use Rattle.c_layout.specs.Jumps.{labels_of, gotos_of, listed_of}
use Rattle.c_layout.specs.WellTyped.{listed_by, listed}
use Rattle.c_typing.specs.World.{World, Outcome, Typed, Refused}
use Rattle.c_typing.specs.Context.{file_context}
use Rattle.c_typing.specs.Settled.{settled_stmt, settled_function}
use Rattle.c_typing.specs.File.{TypesOuters, FileOutcome, Program, NoProgram, outcome_of, nothing_yet, program_of}
use Rattle.c_typing.proofs.Adds.{nothing_good}
use Rattle.c_typing_laws.proofs.Outcomes.{typed_from}
use Rattle.c_typing_laws.proofs.FileMade.{outers_as}
use Rattle.c_typing_laws.specs.JumpLaws.{HasItsLabels, LabelsAreThere}
use Rattle.c_typing_laws.specs.ListLaws.{HasItsLists, ObjectsAreListed}
use Rattle.c_typing_laws.proofs.Autos.{count, auto}
use Rattle.c_typing_laws.proofs.Scalars.{IsScalarMeaning}
use Rattle.c_typing_laws.proofs.Covers.{covers_all}
use Rattle.c_typing_laws.proofs.Settling.{labels_settled, gotos_settled, listed_settled}
use Rattle.c_typing_laws.proofs.Linking.{OfFunction}
use Rattle.c_typing_laws.proofs.FileLists.{AtFile, IsPending, outers_at}

abbrev program_in : FileOutcome → TProgramTree → TProgramTree
program_in (Program program) other = program
program_in (NoProgram r) other = other

-- what holds of each program that declarations leave holds of that of the file
of_last :
    (P : TProgramTree → Type 0) (program : TProgramTree) (last : Outcome ⊤) → Program program ≡ outcome_of last
    → ((w : World) → last ≡ Typed tt w → P (program_of w)) → P program
of_last P program (Typed unit w) e f = subst P (sym (ap (λ o. program_in o program) e)) (f w refl)
of_last P program (Refused r) e f = cc

nothing_at : (names : List (List ℕ)) → AtFile names nothing_yet
nothing_at names = record {
  balance = λ o. none o;
  bodies = All-nil (λ f. IfSome f.body HasItsLabels);
  pending = All-nil (IsPending names);
}
  where
    none : (o : ℕ) → count o (flat_map listed_by []) ≡ auto [] o
    none zero = refl
    none (suc o) = refl

-- the world at the end of a file
at_end : (file : FileTree) (w : World) → TypesOuters nothing_yet (file_context file) file.outers (Typed tt w) → AtFile (file_context file).functions w
at_end file w t =
    (outers_at refl (covers_all file.outers) nothing_good (All-nil (λ b. IsScalarMeaning b.meaning)) (nothing_at (file_context file).functions) (All-nil (λ l. OfFunction [] l.name l.meaning))
    (typed_from (outers_as nothing_yet (file_context file) file.outers (Typed tt w) t))).at

-- ---- labels

settled_labels : (objects : List ObjectTree) (body : Option TStmtTree) → IfSome body HasItsLabels → IfSome (option_map (settled_stmt objects) body) HasItsLabels
settled_labels objects None h = tt
settled_labels objects (Some s) h = record {
  distinct = subst (AllPairs (λ a b. a ≢ b)) (sym (labels_settled objects s)) h.distinct;
  there = subst (λ l. All (Contains l) (gotos_of (settled_stmt objects s))) (sym (labels_settled objects s))
      (subst (All (Contains (labels_of s))) (sym (gotos_settled objects s)) h.there);
}

pub labels_are_there : LabelsAreThere
labels_are_there file program types =
    of_last (λ p. All (λ f. IfSome f.body HasItsLabels) p.functions) program types.last types.is (λ w e.
    let at = at_end file w (subst (λ o. TypesOuters nothing_yet (file_context file) file.outers o) e types.types) in
    All-map (λ f. IfSome f.body HasItsLabels) (settled_function w.objects) w.functions
    (All-weaker (λ f. IfSome f.body HasItsLabels) (λ f. IfSome (settled_function w.objects f).body HasItsLabels) (λ f h. settled_labels w.objects f.body h) w.functions at.bodies))

-- ---- lists

settled_lists : (objects : List ObjectTree) (f : TFunctionTree) → listed_by (settled_function objects f) ≡ listed_by f
settled_lists objects f = by f.body
  where
    by : (b : Option TStmtTree) → f.params ++ unwrap_or (option_map listed_of (option_map (settled_stmt objects) b)) [] ≡ f.params ++ unwrap_or (option_map listed_of b) []
    by None = refl
    by (Some s) = ap (λ l. f.params ++ l) (listed_settled objects s)

all_lists : (objects : List ObjectTree) (fs : List TFunctionTree) → flat_map listed_by (map (settled_function objects) fs) ≡ flat_map listed_by fs
all_lists objects [] = refl
all_lists objects (f ∷ rest) = ap (λ l. l ++ flat_map listed_by (map (settled_function objects) rest)) (settled_lists objects f) ∙ ap (λ l. listed_by f ++ l) (all_lists objects rest)

stands : (xs : List ℕ) (k d : ℕ) → k < length xs → 1 ≤ count (get_or xs k d) xs
stands xs k d h =
    let o = get_or xs k d in
    let a : cond (o == o) 1 0 ≤ count o xs = get_or-le-sum_by (λ x. cond (x == o) 1 0) xs k d h in
    subst (λ b. cond b 1 0 ≤ count o xs) (eq-eqb o o refl) a

automatic : (objects : List ObjectTree) (o : ℕ) → 1 ≤ auto objects o → IsSomeAnd (slice_get objects o) (λ x. x.is_static ≡ false)
automatic objects o h = by (slice_get objects o) h
  where
    as_long : (x : ObjectTree) (b : Bool) → x.is_static ≡ b → 1 ≤ (if b then 0 else 1) → x.is_static ≡ false
    as_long x true e l = absurd (omega arith)
    as_long x false e l = e

    by : (found : Option ObjectTree) → 1 ≤ unwrap_or (option_map (λ x. if x.is_static then 0 else 1) found) 0 → IsSomeAnd found (λ x. x.is_static ≡ false)
    by None l = absurd (omega arith)
    by (Some x) l = as_long x x.is_static refl l

if_there : {A : Type 0} (P : A → Type 0) (o : Option A) → ((x : A) → o ≡ Some x → P x) → IfSome o P
if_there P None f = tt
if_there P (Some x) f = f x refl

has_lists : (names : List (List ℕ)) (w : World) → AtFile names w → HasItsLists (program_of w)
has_lists names w at =
    let is = all_lists w.objects w.functions in record {
      automatic = λ k d h.
          let all = listed (program_of w) in
          let o = get_or all k d in
          let a = stands all k d h in
          let b = ap (count o) is ∙ at.balance o in
          automatic w.objects o (omega (arith, a, b));
      once = λ k. if_there (λ x. count k (listed (program_of w)) ≡ (if x.is_static then 0 else 1)) (slice_get w.objects k)
          (λ x e. ap (count k) is ∙ at.balance k ∙ ap (λ found. unwrap_or (option_map (λ y. if y.is_static then 0 else 1) found) 0) e);
    }

pub objects_are_listed : ObjectsAreListed
objects_are_listed file program types =
    of_last HasItsLists program types.last types.is (λ w e.
    has_lists (file_context file).functions w (at_end file w (subst (λ o. TypesOuters nothing_yet (file_context file) file.outers o) e types.types)))
