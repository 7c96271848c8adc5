-- Items one by one.
use Rattle.std.proofs.Common.{◌≡◌, ℕ, suc, ◌+◌, ◌<◌, ◌≤◌, Bool, true, false, List, ◌∷◌, length, get_or, drop, refl, sym, ap, ◌∙◌, arith, Option, Some, None}
use Rattle.std.specs.Prelude.{◌||◌, IfOk, Result, Ok, Err}
use Rattle.std.proofs.Math.Seq.{drop-cons}
use Rattle.std.proofs.lemmas.List.{drop_all}
use Rattle.csharp.specs.declared.statement.CsStmt.{CsStmt}
use Rattle.csharp.specs.Trees.{CsStmtTrees, CsProgramTree, none, more, csstmt_tree, csstmts_from}
use Rattle.csharp.specs.States.{State}
use Rattle.csharp.specs.Outcomes.{Outcome, Normal, then_do}
use Rattle.csharp.specs.Meaning.{Mark, bounded_exec, has, is_mark}
use Rattle.csharp.proofs.CodeTrees.{csstmts_cons, csstmts_nil}
use Rattle.csharp_exec.specs.Meets.{behind_normal, comes_past, met_row}
use Rattle.csharp_exec.specs.Stages.{behind, row}

rest_of : (list : List CsStmt) (i : ℕ) (item : CsStmt) → i < length list → item ≡ get_or list i item
    → csstmts_from (drop i list) ≡ more (csstmt_tree item) (csstmts_from (drop (i + 1) list))
rest_of list i item h e =
    let next : suc i ≡ i + 1 = omega arith in
    ap csstmts_from (drop-cons list i item h ∙ ap (λ x. x ∷ drop (suc i) list) (sym e)) ∙ csstmts_cons item (drop (suc i) list)
    ∙ ap (λ n. more (csstmt_tree item) (csstmts_from (drop n list))) next

no_rest : (list : List CsStmt) (i : ℕ) → length list ≤ i → csstmts_from (drop i list) ≡ none
no_rest list i h = ap csstmts_from (drop_all i list h) ∙ csstmts_nil

module _ (list : List CsStmt) (i : ℕ) (item : CsStmt) (h : i < length list) (e : item ≡ get_or list i item) (m : Mark) where
  pub found : is_mark m (csstmt_tree item) ≡ true → has m (csstmts_from (drop i list)) ≡ true
  found is = ap (has m) (rest_of list i item h e) ∙ rw is refl

  pub passed : is_mark m (csstmt_tree item) ≡ false → has m (csstmts_from (drop i list)) ≡ has m (csstmts_from (drop (i + 1) list))
  passed is = ap (has m) (rest_of list i item h e) ∙ rw is refl

pub none_found : (list : List CsStmt) (i : ℕ) (m : Mark) → length list ≤ i → has m (csstmts_from (drop i list)) ≡ false
none_found list i m h = ap (has m) (no_rest list i h)

module _ (over : ℕ → Bool) (q : CsProgramTree) (fuel : ℕ) (list : List CsStmt) (i : ℕ) where
  pub row_marked : (item : CsStmt) (m : Mark) (s : State) → i < length list → item ≡ get_or list i item
      → row over q fuel (Some m) (csstmts_from (drop i list)) s ≡ row over q fuel (behind m (csstmt_tree item)) (csstmts_from (drop (i + 1) list)) s
  row_marked item m s h e = ap (λ (all : CsStmtTrees). row over q fuel (Some m) all s) (rest_of list i item h e)

  first_done : (item : CsStmt) (s : State) → i < length list → item ≡ get_or list i item
      → row over q fuel None (csstmts_from (drop i list)) s
      ≡ then_do (bounded_exec over q fuel (csstmt_tree item) s) (λ t. row over q fuel None (csstmts_from (drop (i + 1) list)) t)
  first_done item s h e = ap (λ (all : CsStmtTrees). row over q fuel None all s) (rest_of list i item h e)

  pub row_left : (item : CsStmt) (s : State) (o : Outcome) → i < length list → item ≡ get_or list i item
      → o ≡ bounded_exec over q fuel (csstmt_tree item) s → ((next : State → Outcome) → then_do o next ≡ o)
      → row over q fuel None (csstmts_from (drop i list)) s ≡ o
  row_left item s o h e is stays =
      first_done item s h e ∙ ap (λ x. then_do x (λ t. row over q fuel None (csstmts_from (drop (i + 1) list)) t)) (sym is)
      ∙ stays (λ t. row over q fuel None (csstmts_from (drop (i + 1) list)) t)

  pub row_goes : (item : CsStmt) (s t : State) → i < length list → item ≡ get_or list i item → Normal t ≡ bounded_exec over q fuel (csstmt_tree item) s
      → row over q fuel None (csstmts_from (drop i list)) s ≡ row over q fuel None (csstmts_from (drop (i + 1) list)) t
  row_goes item s t h e is =
      first_done item s h e ∙ ap (λ x. then_do x (λ u. row over q fuel None (csstmts_from (drop (i + 1) list)) u)) (sym is)

  at_none : (from : Option Mark) (s : State) → row over q fuel from none s ≡ Normal s
  at_none None s = refl
  at_none (Some m) s = refl

  pub row_ends : (from : Option Mark) (s : State) → length list ≤ i → row over q fuel from (csstmts_from (drop i list)) s ≡ Normal s
  row_ends from s h = ap (λ (all : CsStmtTrees). row over q fuel from all s) (no_rest list i h) ∙ at_none from s

-- the items behind a mark, or behind an item that was done, come to what is left
module _ (over : ℕ → Bool) (q : CsProgramTree) (fuel : ℕ) (list : List CsStmt) (i : ℕ) (item : CsStmt) (h : i < length list)
    (e : item ≡ get_or list i item) (all : Outcome) (from next : Option Mark) (s t : State) where
  pub next_marked : (m : Mark) → t ≡ s → next ≡ behind m (csstmt_tree item) → from ≡ Some m → row over q fuel from (csstmts_from (drop i list)) s ≡ all
      → row over q fuel next (csstmts_from (drop (i + 1) list)) t ≡ all
  next_marked m at to is same =
      ap (λ u. row over q fuel next (csstmts_from (drop (i + 1) list)) u) at ∙ ap (λ x. row over q fuel x (csstmts_from (drop (i + 1) list)) s) to
      ∙ sym (row_marked over q fuel list i item m s h e) ∙ ap (λ x. row over q fuel x (csstmts_from (drop i list)) s) (sym is) ∙ same

  pub next_done : (u : State) → t ≡ u → next ≡ None → from ≡ None → Normal u ≡ bounded_exec over q fuel (csstmt_tree item) s
      → row over q fuel from (csstmts_from (drop i list)) s ≡ all → row over q fuel next (csstmts_from (drop (i + 1) list)) t ≡ all
  next_done u at to is done same =
      ap (λ v. row over q fuel next (csstmts_from (drop (i + 1) list)) v) at ∙ ap (λ x. row over q fuel x (csstmts_from (drop (i + 1) list)) u) to
      ∙ sym (row_goes over q fuel list i item s u h e done) ∙ ap (λ x. row over q fuel x (csstmts_from (drop i list)) s) (sym is) ∙ same

  pub left_done : (o : Outcome) → from ≡ None → o ≡ bounded_exec over q fuel (csstmt_tree item) s → ((go : State → Outcome) → then_do o go ≡ o)
      → row over q fuel from (csstmts_from (drop i list)) s ≡ all → o ≡ all
  left_done o is done stays same =
      sym (row_left over q fuel list i item s o h e done stays) ∙ ap (λ x. row over q fuel x (csstmts_from (drop i list)) s) (sym is) ∙ same

-- what is met behind a mark, in an item, or behind one that was done
module _ (over : ℕ → Bool) (q : CsProgramTree) (fuel : ℕ) (list : List CsStmt) (i : ℕ) (item : CsStmt) (h : i < length list)
    (e : item ≡ get_or list i item) (all : Bool) (from next : Option Mark) (s t : State) where
  pub past_marked : (m : Mark) → t ≡ s → next ≡ behind m (csstmt_tree item) → from ≡ Some m
      → met_row over q fuel from (csstmts_from (drop i list)) s ≡ all → met_row over q fuel next (csstmts_from (drop (i + 1) list)) t ≡ all
  past_marked m at to is same =
      ap (λ u. met_row over q fuel next (csstmts_from (drop (i + 1) list)) u) at ∙ ap (λ x. met_row over q fuel x (csstmts_from (drop (i + 1) list)) s) to
      ∙ sym (ap (λ (rows : CsStmtTrees). met_row over q fuel (Some m) rows s) (rest_of list i item h e))
      ∙ ap (λ x. met_row over q fuel x (csstmts_from (drop i list)) s) (sym is) ∙ same

  here : from ≡ None → met_row over q fuel from (csstmts_from (drop i list)) s
      ≡ comes_past over q fuel (csstmt_tree item) s
      || behind_normal (bounded_exec over q fuel (csstmt_tree item) s) (λ u. met_row over q fuel None (csstmts_from (drop (i + 1) list)) u)
  here is =
      ap (λ x. met_row over q fuel x (csstmts_from (drop i list)) s) is
      ∙ ap (λ (rows : CsStmtTrees). met_row over q fuel None rows s) (rest_of list i item h e)

  behind_item : from ≡ None → comes_past over q fuel (csstmt_tree item) s ≡ false → met_row over q fuel from (csstmts_from (drop i list)) s
      ≡ behind_normal (bounded_exec over q fuel (csstmt_tree item) s) (λ u. met_row over q fuel None (csstmts_from (drop (i + 1) list)) u)
  behind_item is unmet =
      here is
      ∙ ap (λ b. b || behind_normal (bounded_exec over q fuel (csstmt_tree item) s) (λ u. met_row over q fuel None (csstmts_from (drop (i + 1) list)) u)) unmet

  pub past_item : from ≡ None → comes_past over q fuel (csstmt_tree item) s ≡ true → met_row over q fuel from (csstmts_from (drop i list)) s ≡ all → all ≡ true
  past_item is met same =
      sym same ∙ here is
      ∙ ap (λ b. b || behind_normal (bounded_exec over q fuel (csstmt_tree item) s) (λ u. met_row over q fuel None (csstmts_from (drop (i + 1) list)) u)) met

  pub past_done : (u : State) → t ≡ u → next ≡ None → from ≡ None → comes_past over q fuel (csstmt_tree item) s ≡ false
      → Normal u ≡ bounded_exec over q fuel (csstmt_tree item) s → met_row over q fuel from (csstmts_from (drop i list)) s ≡ all
      → met_row over q fuel next (csstmts_from (drop (i + 1) list)) t ≡ all
  past_done u at to is unmet done same =
      ap (λ v. met_row over q fuel next (csstmts_from (drop (i + 1) list)) v) at ∙ ap (λ x. met_row over q fuel x (csstmts_from (drop (i + 1) list)) u) to
      ∙ ap (λ x. behind_normal x (λ v. met_row over q fuel None (csstmts_from (drop (i + 1) list)) v)) done ∙ sym (behind_item is unmet) ∙ same

  pub past_left : (o : Outcome) → from ≡ None → comes_past over q fuel (csstmt_tree item) s ≡ false → o ≡ bounded_exec over q fuel (csstmt_tree item) s
      → ((go : State → Bool) → behind_normal o go ≡ false) → met_row over q fuel from (csstmts_from (drop i list)) s ≡ all → all ≡ false
  past_left o is unmet done stays same =
      sym same ∙ behind_item is unmet ∙ ap (λ x. behind_normal x (λ v. met_row over q fuel None (csstmts_from (drop (i + 1) list)) v)) (sym done)
      ∙ stays (λ v. met_row over q fuel None (csstmts_from (drop (i + 1) list)) v)

nothing_met : (over : ℕ → Bool) (q : CsProgramTree) (fuel : ℕ) (from : Option Mark) (s : State) → met_row over q fuel from none s ≡ false
nothing_met over q fuel None s = refl
nothing_met over q fuel (Some m) s = refl

pub past_all : (over : ℕ → Bool) (q : CsProgramTree) (fuel : ℕ) (list : List CsStmt) (i : ℕ) (from : Option Mark) (s : State) → length list ≤ i
    → met_row over q fuel from (csstmts_from (drop i list)) s ≡ false
past_all over q fuel list i from s h =
    ap (λ (rows : CsStmtTrees). met_row over q fuel from rows s) (no_rest list i h) ∙ nothing_met over q fuel from s

-- what follows of an answer Ok
pub if_ok : {A E : Type 0} (r : Result A E) (P Q : A → Type 0) → ((a : A) → P a → Q a) → IfOk r P → IfOk r Q
if_ok (Ok a) P Q f p = f a p
if_ok (Err e) P Q f p = p
