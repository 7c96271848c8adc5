-- Where gotos of the source lead forwards, those of the lowered code do.
use Rattle.std.proofs.Common.{◌≡◌, inl, inr, ℕ, zero, suc, List, [], ◌∷◌, ◌++◌, Option, Some, None, Bool, true, false, refl, sym, ap, ◌∙◌, subst, arith}
use Rattle.std.specs.Prelude.{if◌then◌else◌, All, AllPairs, Contains}
use Rattle.std.proofs.lemmas.List.{append-nil, append_assoc}
use Rattle.std.proofs.lemmas.List.Elements.{All-contains, Contains-append_left, Contains-append_right, Contains-append_cases}
use Rattle.c_syntax_written.specs.declared.place.Pos.{Pos}
use Rattle.c_syntax.specs.TypedExpr.{TExprTree}
use Rattle.c_syntax.specs.TypedStmt as s
use Rattle.c_syntax.specs.TypedStmt.{TInitTree, TStmtTree, TStmtTrees}
use Rattle.c_syntax.specs.Program.{TProgramTree}
use Rattle.c_layout.specs.Jumps as source
use Rattle.block_mem.specs.declared.types.Scalar.{Scalar}
use Rattle.c_objects.specs.Opening.{size_of}
use Rattle.c_objects.specs.Writing.{is_named}
use Rattle.c_steps.specs.Bounds.{Stands, IsJumpedTo, label_uses, label_uses_in, IsNoJumpBack}
use Rattle.csharp.specs.Trees.{CsStmtTree, Nothing, Set, Load, Store, CopyBytes, Undefine, Checked, Input, Assume, Sequence, If, Loop, Block, Exit, Scope, Switch, Goto, Call, Return, Label, Case, Default, CsStmtTrees, none, more}
use Rattle.csharp.specs.Formed.{gathered, gathered_in, labels_among}
use Rattle.csharp_laws.specs.Enough.{gotos_of, IsNotNamedBehind, AreForward}
use Rattle.lower_trees.specs.Zeros.{zero_cells, object_scalars}
use Rattle.lower_trees.specs.LowerExpr.{lower_expr}
use Rattle.lower_trees.specs.LowerStmt.{Context, InLoop, InSwitch, Past, init_code, rest_code, inits_code, test_of, step_of, with_last, lower_stmt, lower_items}
use Rattle.lower_formed.proofs.Flat.{Flat, flat_expr}
use Rattle.lower_formed.proofs.Labels.{pairs_head, pairs_left, pairs_right}
use Rattle.lower_formed.proofs.Scopes.{Parted}

-- ---- the gotos of code

none_two : (xs ys : List ℕ) → xs ≡ [] → ys ≡ [] → xs ++ ys ≡ []
none_two xs ys e f = rw e f

pub no_gotos : (a : CsStmtTree) → Flat a → gathered gotos_of a ≡ []
no_gotos (Sequence a b) h = none_two (gathered gotos_of a) (gathered gotos_of b) (no_gotos a h.0) (no_gotos b h.1)
no_gotos (If e a b) h = none_two (gathered gotos_of a) (gathered gotos_of b) (no_gotos a h.0) (no_gotos b h.1)
no_gotos (Block a) h = no_gotos a h
no_gotos (Loop at a) h = absurd h
no_gotos (Scope xs items) h = absurd h
no_gotos (Switch e xs items) h = absurd h
no_gotos (Undefine x) h = absurd h
no_gotos (Goto l) h = absurd h
no_gotos (Return e) h = absurd h
no_gotos (Label at l) h = absurd h
no_gotos (Case k) h = absurd h
no_gotos Default h = absurd h
no_gotos Nothing h = refl
no_gotos (Set d e) h = refl
no_gotos (Load d ty e) h = refl
no_gotos (Store ty e f) h = refl
no_gotos (CopyBytes n e f) h = refl
no_gotos (Checked k) h = refl
no_gotos (Input d t) h = refl
no_gotos (Assume e) h = refl
no_gotos (Exit k) h = refl
no_gotos (Call k) h = refl

abbrev of_code : CsStmtTree → List ℕ
of_code a = gathered gotos_of a

before_none : (p : TProgramTree) (d : ℕ) (e : TExprTree) → of_code (lower_expr p d e).value.before ≡ []
before_none p d e = no_gotos (lower_expr p d e).value.before (flat_expr p e d).value

unless_none : (p : TProgramTree) (d : ℕ) (e : TExprTree) (at : Pos) → of_code ((lower_expr p d e).unless at 0) ≡ []
unless_none p d e at = no_gotos ((lower_expr p d e).unless at 0) ((flat_expr p e d).unless at 0)

if_cells : (z : Bool) (a b : CsStmtTrees) → gathered_in gotos_of a ≡ [] → gathered_in gotos_of b ≡ [] → gathered_in gotos_of (if z then a else b) ≡ []
if_cells true a b h k = h
if_cells false a b h k = k

cells_none : (at : ℕ → Option Scalar) (named : ℕ → Bool) (x left skip k : ℕ) → gathered_in gotos_of (zero_cells at named x k skip left none) ≡ []
cells_none at named x zero skip k = refl
cells_none at named x (suc left) (suc skip) k = cells_none at named x left skip (suc k)
cells_none at named x (suc left) zero k = if_cells (named k) _ _ (cells_none at named x left zero (suc k)) (cells_none at named x left _ (suc k))

rest_none : (p : TProgramTree) (x : ℕ) (inits : List TInitTree) (z : Bool) → gathered_in gotos_of (rest_code p x inits z) ≡ []
rest_none p x inits true = cells_none (object_scalars p x) (is_named inits) x (size_of p.objects x) 0 0
rest_none p x inits false = refl

init_none : (p : TProgramTree) (d x : ℕ) (init : TInitTree) → of_code (init_code p d x init).code ≡ []
init_none p d x (s.Store offset ty value) = none_two (of_code (lower_expr p d value).value.before) [] (before_none p d value) refl
init_none p d x (s.Copy offset extent source) = none_two (of_code ((lower_expr p d source).source extent.size extent.align).before) [] (no_gotos ((lower_expr p d source).source extent.size extent.align).before ((flat_expr p source d).source extent.size extent.align)) refl

inits_none : (p : TProgramTree) (d x : ℕ) (inits : List TInitTree) (rest : CsStmtTrees) → gathered_in gotos_of rest ≡ [] → gathered_in gotos_of (inits_code p d x inits rest) ≡ []
inits_none p d x [] rest h = h
inits_none p d x (init ∷ inits) rest h = none_two (of_code (init_code p d x init).code) (gathered_in gotos_of (inits_code p d x inits rest)) (init_none p d x init) (inits_none p d x inits rest h)

last_gotos : (items : CsStmtTrees) (a : CsStmtTree) → gathered_in gotos_of (with_last items a) ≡ gathered_in gotos_of items ++ of_code a
last_gotos none a = append-nil (of_code a)
last_gotos (more item rest) a = ap (λ z. of_code item ++ z) (last_gotos rest a) ∙ sym (append_assoc (of_code item) (gathered_in gotos_of rest) (of_code a))

test_none : (p : TProgramTree) (d : ℕ) (at : Pos) (o : Option TExprTree) → of_code (test_of p d at o).code ≡ []
test_none p d at None = refl
test_none p d at (Some e) = unless_none p d e at

step_none : (p : TProgramTree) (d : ℕ) (o : Option TExprTree) → of_code (step_of p d o).code ≡ []
step_none p d None = refl
step_none p d (Some e) = before_none p d e

loop_gotos : (test body step xs : List ℕ) → test ≡ [] → step ≡ [] → body ≡ xs → test ++ (body ++ step) ≡ xs
loop_gotos test body step xs e f g = rw e (rw f (append-nil body ∙ g))

branch_gotos : (test first second xs ys : List ℕ) → test ≡ [] → first ≡ xs → second ≡ ys → (test ++ (first ++ [])) ++ second ≡ xs ++ ys
branch_gotos test first second xs ys e f g = rw e (rw (append-nil first) (rw f (rw g refl)))

mutual
  unfolding source.gotos_of

  -- code has the gotos of the statement, in their order
  pub gotos_kept : (p : TProgramTree) (d : ℕ) (k : Context) (b : TStmtTree) → of_code (lower_stmt p d k b).code ≡ source.gotos_of b
  gotos_kept p d k (s.Empty at) = refl
  gotos_kept p d k (s.Expr at e) = before_none p d e
  gotos_kept p d k (s.Block at kind xs items) = items_kept p d k items
  gotos_kept p d k (s.Declare at x inits z) = inits_none p d x inits (rest_code p x inits z) (rest_none p x inits z)
  gotos_kept p d k (s.Static at x) = refl
  gotos_kept p d k (s.If at e a b) =
      branch_gotos (of_code ((lower_expr p d e).unless at 0)) (of_code (lower_stmt p d (Past (Past k)) a).code) (of_code (lower_stmt p d (Past k) b).code) (source.gotos_of a) (source.gotos_of b)
      (unless_none p d e at) (gotos_kept p d (Past (Past k)) a) (gotos_kept p d (Past k) b)
  gotos_kept p d k (s.While at e b) =
      loop_gotos (of_code ((lower_expr p d e).unless at 0)) (of_code (lower_stmt p d InLoop b).code) [] (source.gotos_of b) (unless_none p d e at) refl (gotos_kept p d InLoop b)
  gotos_kept p d k (s.DoWhile at b e) = ap (λ z. of_code (lower_stmt p d InLoop b).code ++ z) (unless_none p d e at) ∙ append-nil (of_code (lower_stmt p d InLoop b).code) ∙ gotos_kept p d InLoop b
  gotos_kept p d k (s.For at xs head e step b) =
      let loop = loop_gotos (of_code (test_of p d at e).code) (of_code (lower_stmt p d InLoop b).code) (of_code (step_of p d step).code) (source.gotos_of b) (test_none p d at e) (step_none p d step) (gotos_kept p d InLoop b) in
      last_gotos (lower_items p d k head).items _ ∙ ap (λ z. z ++ (of_code (test_of p d at e).code ++ (of_code (lower_stmt p d InLoop b).code ++ of_code (step_of p d step).code))) (items_kept p d k head) ∙ ap (λ z. source.gotos_in head ++ z) loop
  gotos_kept p d k (s.Switch at e kind xs items) =
      ap (λ z. z ++ gathered_in gotos_of (lower_items p d (InSwitch k) items).items) (before_none p d e) ∙ items_kept p d (InSwitch k) items
  gotos_kept p d k (s.Break at) = refl
  gotos_kept p d k (s.Continue at) = refl
  gotos_kept p d k (s.Goto at l) = refl
  gotos_kept p d k (s.Return at None) = refl
  gotos_kept p d k (s.Return at (Some e)) = none_two (of_code (lower_expr p d e).value.before) [] (before_none p d e) refl
  gotos_kept p d k (s.Label at l) = refl
  gotos_kept p d k (s.Case at j) = refl
  gotos_kept p d k (s.Default at) = refl

  pub items_kept : (p : TProgramTree) (d : ℕ) (k : Context) (items : TStmtTrees) → gathered_in gotos_of (lower_items p d k items).items ≡ source.gotos_in items
  items_kept p d k s.none = refl
  items_kept p d k (s.more item rest) = ap (λ z. z ++ gathered_in gotos_of (lower_items p d k rest).items) (gotos_kept p d k item) ∙ ap (λ z. source.gotos_of item ++ z) (items_kept p d k rest)

-- ---- uses of labels in the source

mutual
  unfolding source.gotos_of label_uses

  goto_used : (b : TStmtTree) (l : ℕ) → Contains (source.gotos_of b) l → Contains (label_uses b) (IsJumpedTo l)
  goto_used (s.Block at kind xs items) l h = goto_used_in items l h
  goto_used (s.If at e a b) l h = elim (Contains-append_cases (source.gotos_of a) (source.gotos_of b) l h) [
    | inl m ↦ Contains-append_left (label_uses a) (label_uses b) (IsJumpedTo l) (goto_used a l m)
    | inr m ↦ Contains-append_right (label_uses a) (label_uses b) (IsJumpedTo l) (goto_used b l m)
  ]
  goto_used (s.While at e b) l h = goto_used b l h
  goto_used (s.DoWhile at b e) l h = goto_used b l h
  goto_used (s.For at xs head e step b) l h = elim (Contains-append_cases (source.gotos_in head) (source.gotos_of b) l h) [
    | inl m ↦ Contains-append_left (label_uses_in head) (label_uses b) (IsJumpedTo l) (goto_used_in head l m)
    | inr m ↦ Contains-append_right (label_uses_in head) (label_uses b) (IsJumpedTo l) (goto_used b l m)
  ]
  goto_used (s.Switch at e kind xs items) l h = goto_used_in items l h
  goto_used (s.Goto at k) l (zero, lt, e) = (0, omega arith, ap IsJumpedTo e)
  goto_used (s.Goto at k) l (suc i, lt, e) = absurd (omega (arith, lt))
  goto_used (s.Empty at) l (i, lt, e) = absurd (omega (arith, lt))
  goto_used (s.Expr at x) l (i, lt, e) = absurd (omega (arith, lt))
  goto_used (s.Declare at x inits z) l (i, lt, e) = absurd (omega (arith, lt))
  goto_used (s.Static at x) l (i, lt, e) = absurd (omega (arith, lt))
  goto_used (s.Break at) l (i, lt, e) = absurd (omega (arith, lt))
  goto_used (s.Continue at) l (i, lt, e) = absurd (omega (arith, lt))
  goto_used (s.Return at x) l (i, lt, e) = absurd (omega (arith, lt))
  goto_used (s.Label at k) l (i, lt, e) = absurd (omega (arith, lt))
  goto_used (s.Case at j) l (i, lt, e) = absurd (omega (arith, lt))
  goto_used (s.Default at) l (i, lt, e) = absurd (omega (arith, lt))

  goto_used_in : (items : TStmtTrees) (l : ℕ) → Contains (source.gotos_in items) l → Contains (label_uses_in items) (IsJumpedTo l)
  goto_used_in s.none l (i, lt, e) = absurd (omega (arith, lt))
  goto_used_in (s.more item rest) l h = elim (Contains-append_cases (source.gotos_of item) (source.gotos_in rest) l h) [
    | inl m ↦ Contains-append_left (label_uses item) (label_uses_in rest) (IsJumpedTo l) (goto_used item l m)
    | inr m ↦ Contains-append_right (label_uses item) (label_uses_in rest) (IsJumpedTo l) (goto_used_in rest l m)
  ]

-- ---- items

-- what is no label has no goto behind it that names it
not_named : (a : CsStmtTree) (rest : CsStmtTrees) → Flat a → IsNotNamedBehind a rest
not_named (Label at l) rest h = absurd h
not_named Nothing rest h = tt
not_named (Set d e) rest h = tt
not_named (Load d ty e) rest h = tt
not_named (Store ty e f) rest h = tt
not_named (CopyBytes n e f) rest h = tt
not_named (Undefine x) rest h = tt
not_named (Checked k) rest h = tt
not_named (Input d t) rest h = tt
not_named (Assume e) rest h = tt
not_named (Sequence a b) rest h = tt
not_named (If e a b) rest h = tt
not_named (Loop at a) rest h = tt
not_named (Block a) rest h = tt
not_named (Exit k) rest h = tt
not_named (Scope xs items) rest h = tt
not_named (Switch e xs items) rest h = tt
not_named (Goto l) rest h = tt
not_named (Call k) rest h = tt
not_named (Return e) rest h = tt
not_named (Case k) rest h = tt
not_named Default rest h = tt

-- items without labels
none_named : (items : CsStmtTrees) → labels_among items ≡ [] → AreForward items
none_named none e = tt
none_named (more (Label at l) rest) e = absurd (cc)
none_named (more Nothing rest) h = (tt, none_named rest h)
none_named (more (Set d e) rest) h = (tt, none_named rest h)
none_named (more (Load d ty e) rest) h = (tt, none_named rest h)
none_named (more (Store ty e f) rest) h = (tt, none_named rest h)
none_named (more (CopyBytes n e f) rest) h = (tt, none_named rest h)
none_named (more (Undefine x) rest) h = (tt, none_named rest h)
none_named (more (Checked k) rest) h = (tt, none_named rest h)
none_named (more (Input d t) rest) h = (tt, none_named rest h)
none_named (more (Assume e) rest) h = (tt, none_named rest h)
none_named (more (Sequence a b) rest) h = (tt, none_named rest h)
none_named (more (If e a b) rest) h = (tt, none_named rest h)
none_named (more (Loop at a) rest) h = (tt, none_named rest h)
none_named (more (Block a) rest) h = (tt, none_named rest h)
none_named (more (Exit k) rest) h = (tt, none_named rest h)
none_named (more (Scope xs items) rest) h = (tt, none_named rest h)
none_named (more (Switch e xs items) rest) h = (tt, none_named rest h)
none_named (more (Goto l) rest) h = (tt, none_named rest h)
none_named (more (Call k) rest) h = (tt, none_named rest h)
none_named (more (Return e) rest) h = (tt, none_named rest h)
none_named (more (Case k) rest) h = (tt, none_named rest h)
none_named (more Default rest) h = (tt, none_named rest h)

-- a label of the source
label_forward : (p : TProgramTree) (d : ℕ) (k : Context) (l : ℕ) (rest : TStmtTrees) → All (IsNoJumpBack (Stands l)) (label_uses_in rest) → Contains (gathered_in gotos_of (lower_items p d k rest).items) l → ⊥
label_forward p d k l rest h m =
    All-contains (IsNoJumpBack (Stands l)) (label_uses_in rest) (IsJumpedTo l) h (goto_used_in rest l (subst (λ ls. Contains ls l) (items_kept p d k rest) m)) refl

item_forward : (p : TProgramTree) (d : ℕ) (k : Context) (item : TStmtTree) (rest : TStmtTrees) → AllPairs IsNoJumpBack (label_uses item ++ label_uses_in rest)
    → IsNotNamedBehind (lower_stmt p d k item).code (lower_items p d k rest).items
unfolding label_uses
item_forward p d k (s.Label at l) rest h = label_forward p d k l rest (pairs_head IsNoJumpBack (Stands l) (label_uses_in rest) h)
item_forward p d k (s.Expr at e) rest h = not_named (lower_expr p d e).value.before (lower_items p d k rest).items (flat_expr p e d).value
item_forward p d k (s.Empty at) rest h = tt
item_forward p d k (s.Block at kind xs items) rest h = tt
item_forward p d k (s.Declare at x inits z) rest h = tt
item_forward p d k (s.Static at x) rest h = tt
item_forward p d k (s.If at e a b) rest h = tt
item_forward p d k (s.While at e b) rest h = tt
item_forward p d k (s.DoWhile at b e) rest h = tt
item_forward p d k (s.For at xs head e step b) rest h = tt
item_forward p d k (s.Switch at e kind xs items) rest h = tt
item_forward p d k (s.Break at) rest h = tt
item_forward p d k (s.Continue at) rest h = tt
item_forward p d k (s.Goto at l) rest h = tt
item_forward p d k (s.Return at None) rest h = tt
item_forward p d k (s.Return at (Some e)) rest h = tt
item_forward p d k (s.Case at j) rest h = tt
item_forward p d k (s.Default at) rest h = tt

items_forward : (p : TProgramTree) (d : ℕ) (k : Context) (items : TStmtTrees) → AllPairs IsNoJumpBack (label_uses_in items) → AreForward (lower_items p d k items).items
unfolding label_uses
items_forward p d k s.none h = tt
items_forward p d k (s.more item rest) h = (item_forward p d k item rest h, items_forward p d k rest (pairs_right IsNoJumpBack (label_uses item) (label_uses_in rest) h))

pub gotos_parted : (p : TProgramTree) → Parted p (λ b. AllPairs IsNoJumpBack (label_uses b)) (λ items. AllPairs IsNoJumpBack (label_uses_in items)) AreForward
unfolding label_uses
gotos_parted p = record {
  block = λ at kind xs items h. h;
  first = λ at e a b h. pairs_left IsNoJumpBack (label_uses a) (label_uses b) h;
  second = λ at e a b h. pairs_right IsNoJumpBack (label_uses a) (label_uses b) h;
  turned = λ at e b h. h;
  done = λ at e b h. h;
  head = λ at xs head e step b h. pairs_left IsNoJumpBack (label_uses_in head) (label_uses b) h;
  body = λ at xs head e step b h. pairs_right IsNoJumpBack (label_uses_in head) (label_uses b) h;
  switch = λ at e kind xs items h. h;
  item = λ a rest h. pairs_left IsNoJumpBack (label_uses a) (label_uses_in rest) h;
  rest = λ a rest h. pairs_right IsNoJumpBack (label_uses a) (label_uses_in rest) h;
  among = λ d k items h. items_forward p d k items h;
  without = λ items e. none_named items e;
}
