-- The labels of a body are labels of its code; and what the body of a function is lowered to is right.
use Rattle.std.proofs.Common.{◌≡◌, inl, inr, ℕ, suc, ◌+◌, ◌<◌, ◌≤◌, pos, List, [], ◌∷◌, ◌++◌, length, Some, Bool, true, false, refl, sym, ◌∙◌, arith}
use Rattle.std.specs.Prelude.{All, Contains, if◌then◌else◌, slice_get}
use Rattle.std.proofs.lemmas.List.Elements.{All-nil, All-cons, Contains-append_left, Contains-append_right, Contains-append_cases}
use Rattle.std.proofs.lemmas.Int.{ints as numbers}
use Rattle.c_syntax_written.specs.Integer.{HasNumber}
use Rattle.c_syntax_written.specs.declared.int_type.IntType.TheVariants as ints
use Rattle.c_syntax.specs.Types.{CTypeTree}
use Rattle.c_syntax.specs.TypedStmt as s
use Rattle.c_syntax.specs.TypedStmt.{TStmtTree, TStmtTrees}
use Rattle.c_syntax.specs.Program.{TProgramTree}
use Rattle.c_layout.specs.Layout.{align_in}
use Rattle.c_layout.specs.Calls.{stmt_calls}
use Rattle.c_layout.specs.Jumps.{labels_of, labels_in, listed_of, GotosStay}
use Rattle.c_layout.specs.MainFunction.{is_main}
use Rattle.c_layout.specs.TypedNodes.{IsTypedStmt}
use Rattle.c_layout.specs.WellTyped.{IsWellTyped}
use Rattle.block_mem.specs.declared.types.Scalar.{Scalar}
use Rattle.block_mem.specs.declared.types.Scalar.TheVariants as scalars
use Rattle.c_values.specs.Values.{scalar_of}
use Rattle.c_steps_laws.proofs.Expressions.{AreSized}
use Rattle.csharp.specs.Trees.{Temp, Address, CsStmtTree, Sequence, Scope, Return, CsStmtTrees, none, more, CsProgramTree}
use Rattle.csharp.specs.Formed.{Around, in_items, nothing_around, Each, EachItem, gathered, gathered_in, label_of, LivesThere}
use Rattle.lower_trees.specs.Temps.{temp_at}
use Rattle.lower_trees.specs.LowerExpr.{number, lower_expr}
use Rattle.lower_trees.specs.LowerStmt.{Context, InLoop, InSwitch, Past, test_of, step_of, with_last, lower_stmt, lower_items}
use Rattle.lower_trees.specs.LowerProgram.{param_scalar, param_stores, body_code}
use Rattle.lower_formed.specs.Right.{Frame}
use Rattle.lower_formed.proofs.Terms.{R, seq_right, store_right, good_temp, good_const}
use Rattle.lower_formed.proofs.Exprs.{May}
use Rattle.lower_formed.proofs.Stmts.{scope_right, return_right, object_good, lives_of, right_stmt}

abbrev marks : CsStmtTree → List ℕ
marks a = gathered label_of a

no_list : (l : ℕ) → Contains {X = ℕ} [] l → ⊥
no_list l (i, lt, e) = absurd (omega (arith, lt))

last_left : (items : CsStmtTrees) (a : CsStmtTree) (l : ℕ) → Contains (gathered_in label_of items) l → Contains (gathered_in label_of (with_last items a)) l
last_left none a l h = absurd (no_list l h)
last_left (more item rest) a l h = elim (Contains-append_cases (marks item) (gathered_in label_of rest) l h) [
  | inl x ↦ Contains-append_left (marks item) (gathered_in label_of (with_last rest a)) l x
  | inr x ↦ Contains-append_right (marks item) (gathered_in label_of (with_last rest a)) l (last_left rest a l x)
]

last_in : (items : CsStmtTrees) (a : CsStmtTree) (l : ℕ) → Contains (marks a) l → Contains (gathered_in label_of (with_last items a)) l
last_in none a l h = Contains-append_left (marks a) [] l h
last_in (more item rest) a l h = Contains-append_right (marks item) (gathered_in label_of (with_last rest a)) l (last_in rest a l h)

mutual
  unfolding labels_of

  -- a label in a statement is one in its code
  pub labels_kept : (p : TProgramTree) (d : ℕ) (k : Context) (b : TStmtTree) (l : ℕ) → Contains (labels_of b) l → Contains (marks (lower_stmt p d k b).code) l
  labels_kept p d k (s.Block at kind xs items) l h = labels_kept_in p d k items l h
  labels_kept p d k (s.If at e a b) l h =
      let test = marks ((lower_expr p d e).unless at 0) in
      let first = marks (lower_stmt p d (Past (Past k)) a).code in
      let second = marks (lower_stmt p d (Past k) b).code in
      elim (Contains-append_cases (labels_of a) (labels_of b) l h) [
        | inl x ↦ Contains-append_left (test ++ (first ++ [])) second l (Contains-append_right test (first ++ []) l (Contains-append_left first [] l (labels_kept p d (Past (Past k)) a l x)))
        | inr x ↦ Contains-append_right (test ++ (first ++ [])) second l (labels_kept p d (Past k) b l x)
      ]
  labels_kept p d k (s.While at e b) l h =
      let test = marks ((lower_expr p d e).unless at 0) in
      let body = marks (lower_stmt p d InLoop b).code in
      Contains-append_right test (body ++ []) l (Contains-append_left body [] l (labels_kept p d InLoop b l h))
  labels_kept p d k (s.DoWhile at b e) l h =
      Contains-append_left (marks (lower_stmt p d InLoop b).code) (marks ((lower_expr p d e).unless at 0)) l (labels_kept p d InLoop b l h)
  labels_kept p d k (s.For at xs head e step b) l h =
      let test = marks (test_of p d at e).code in
      let body = marks (lower_stmt p d InLoop b).code in
      let after = marks (step_of p d step).code in
      elim (Contains-append_cases (labels_in head) (labels_of b) l h) [
        | inl x ↦ last_left (lower_items p d k head).items (Rattle.lower_trees.specs.LowerStmt.loop_code at (test_of p d at e) (lower_stmt p d InLoop b) (step_of p d step)).code l (labels_kept_in p d k head l x)
        | inr x ↦ last_in (lower_items p d k head).items (Rattle.lower_trees.specs.LowerStmt.loop_code at (test_of p d at e) (lower_stmt p d InLoop b) (step_of p d step)).code l
            (Contains-append_right test (body ++ after) l (Contains-append_left body after l (labels_kept p d InLoop b l x)))
      ]
  labels_kept p d k (s.Switch at e kind xs items) l h =
      Contains-append_right (marks (lower_expr p d e).value.before) (gathered_in label_of (lower_items p d (InSwitch k) items).items) l (labels_kept_in p d (InSwitch k) items l h)
  labels_kept p d k (s.Label at j) l h = h
  labels_kept p d k (s.Empty at) l h = absurd (no_list l h)
  labels_kept p d k (s.Expr at e) l h = absurd (no_list l h)
  labels_kept p d k (s.Declare at x inits z) l h = absurd (no_list l h)
  labels_kept p d k (s.Static at x) l h = absurd (no_list l h)
  labels_kept p d k (s.Break at) l h = absurd (no_list l h)
  labels_kept p d k (s.Continue at) l h = absurd (no_list l h)
  labels_kept p d k (s.Goto at j) l h = absurd (no_list l h)
  labels_kept p d k (s.Return at e) l h = absurd (no_list l h)
  labels_kept p d k (s.Case at j) l h = absurd (no_list l h)
  labels_kept p d k (s.Default at) l h = absurd (no_list l h)

  pub labels_kept_in : (p : TProgramTree) (d : ℕ) (k : Context) (items : TStmtTrees) (l : ℕ) → Contains (labels_in items) l → Contains (gathered_in label_of (lower_items p d k items).items) l
  labels_kept_in p d k s.none l h = h
  labels_kept_in p d k (s.more item rest) l h = elim (Contains-append_cases (labels_of item) (labels_in rest) l h) [
    | inl x ↦ Contains-append_left (marks (lower_stmt p d k item).code) (gathered_in label_of (lower_items p d k rest).items) l (labels_kept p d k item l x)
    | inr x ↦ Contains-append_right (marks (lower_stmt p d k item).code) (gathered_in label_of (lower_items p d k rest).items) l (labels_kept_in p d k rest l x)
  ]

-- ---- the body of a function

zero_int : HasNumber ints.Int (pos 0)
zero_int = record { sfits = omega (arith, numbers) }

module _ (p : TProgramTree) (ok : IsWellTyped p) (sized : AreSized p) (aligned : (ty : CTypeTree) → 1 ≤ align_in p.structs ty)
    (q : CsProgramTree) (objects : q.objects ≡ p.objects) (labels : Frame) (n : ℕ) (there : (d : ℕ) (ty : Scalar) → d < n → slice_get q.temps (temp_at d ty) ≡ Some ty)
    (result : CTypeTree) (same : labels.result ≡ scalar_of result) where
  params_right : (xs : List ℕ) (d : ℕ) (rest : CsStmtTrees) (around : Around) → ((x : ℕ) → Contains xs x → LivesThere q around x) → d + length xs ≤ n → EachItem (R q labels) around rest
      → EachItem (R q labels) around (param_stores p d xs rest)
  params_right [] d rest around h room r = r
  params_right (x ∷ xs) d rest around h room r =
      let t = there d (param_scalar p x) (omega (arith, room)) in (
        store_right q labels around (param_scalar p x) (Address x) (Temp (temp_at d (param_scalar p x))) (object_good q labels around x (h x (0, omega arith, refl))) refl
            (good_temp q labels around (temp_at d (param_scalar p x)) (param_scalar p x) t) t,
        params_right xs (suc d) rest around (λ y m. h y (Contains-append_right (x ∷ []) xs y m)) (omega (arith, room)) r,
      )

  end_right : (z : Bool) (a : CsStmtTree) → (z ≡ true → labels.result ≡ Some (scalars.Int ints.Int)) → Each (R q labels) nothing_around a
      → Each (R q labels) nothing_around (if z then Sequence a (Return (Some (number 0))) else a)
  end_right false a m h = h
  end_right true a m h =
      seq_right q labels nothing_around a _ h (return_right q labels nothing_around (number 0) (good_const q labels ints.Int (pos 0) nothing_around zero_int) (λ s e. sym (m refl) ∙ e))

  all_of : (xs : List ℕ) → ((x : ℕ) → Contains xs x → x < length q.objects) → All (λ x. x < length q.objects) xs
  all_of [] h = All-nil (λ x. x < length q.objects)
  all_of (x ∷ xs) h = All-cons (λ x. x < length q.objects) x xs (h x (0, omega arith, refl)) (all_of xs (λ y m. h y (Contains-append_right (x ∷ []) xs y m)))

  pub body_right : (g : ℕ) (params : List ℕ) (body : TStmtTree) (d : ℕ)
      → IsTypedStmt (record { scope = record { program = p; live = params }; block = []; result = result; breaks = false; continues = false; cases = false }) body
      → GotosStay [] body → May p ok sized aligned q objects labels n there (stmt_calls body) → ((l : ℕ) → Contains (labels_of body) l → Contains labels.names l)
      → ((x : ℕ) → Contains params x → x < length q.objects) → ((x : ℕ) → Contains (listed_of body) x → x < length q.objects) → d + length params ≤ n → (lower_stmt p d InLoop body).top ≤ n
      → (is_main p g ≡ true → labels.result ≡ Some (scalars.Int ints.Int)) → Each (R q labels) nothing_around (body_code p g d params body)
  body_right g params body d t gotos may into are listed room top main =
      let items = param_stores p d params (more (lower_stmt p d InLoop body).code none) in
      let inner = in_items params items nothing_around in
      let lives = λ (x : ℕ) (m : Contains params x). lives_of p ok sized aligned q objects labels n there result same inner x (are x m) (Contains-append_left params [] x m) in
      end_right (is_main p g) (Scope params items) main (scope_right q labels nothing_around params items (all_of params are)
      (params_right params d (more (lower_stmt p d InLoop body).code none) inner lives room (
        right_stmt p ok sized aligned q objects labels n there result same body params [] [] false false false d InLoop t gotos may into listed inner (record {
          lives = λ x m. Contains-append_left params [] x m;
          blocks = λ x m. absurd (no_list x m);
          are = λ x m. absurd (no_list x m);
          sees = λ l m. absurd (no_list l m);
          known = λ l m. absurd (no_list l m);
          exits = record { breaks = λ b. absurd (cc); continues = λ b. absurd (cc) };
        }) top,
        tt,
      )))
