-- The marks of an item.
use Rattle.std.proofs.Common.{◌≡◌, ℕ, ℤ, Bool, true, false, refl, ap}
use Rattle.std.proofs.lemmas.Bool.{eqb-true, eq-eqb}
use Rattle.std.proofs.lemmas.Bool.Decides.{Decides-int_eq}
use Rattle.c_syntax_written.specs.declared.place.Pos.{Pos}
use Rattle.csharp.specs.declared.statement.CsStmt.{CsStmt}
use Rattle.csharp.specs.declared.statement.CsStmt.TheVariants as stmts
use Rattle.csharp.specs.Trees as trees
use Rattle.csharp.specs.Trees.{csstmt_tree}
use Rattle.csharp.specs.Meaning.{AtLabel, is_mark}
use Rattle.csharp.proofs.CodeTrees.{csstmt_case, csstmt_default, csstmt_label}
use Rattle.walk_owes.specs.declared.marks.Mark.{Mark}
use Rattle.walk_owes.specs.declared.marks.Mark.TheVariants as marks
use Rattle.walk_owes.specs.Items.{mark_of}

not_so : {b : Bool} → b ≡ false → b ≡ true → ⊥
not_so e f = absurd (cc)

label_mark : (mark : Mark) (at : Pos) (k : ℕ) → is_mark (mark_of mark) (trees.Label at k) ≡ true → mark ≡ marks.Label k
label_mark (marks.Label l) at k e = ap marks.Label (eqb-true l k e)
label_mark (marks.Case n) at k e = absurd (not_so refl e)
label_mark marks.Default at k e = absurd (not_so refl e)

case_mark : (mark : Mark) (k : ℤ) → is_mark (mark_of mark) (trees.Case k) ≡ true → mark ≡ marks.Case k
case_mark (marks.Label l) k e = absurd (not_so refl e)
case_mark (marks.Case n) k e = ap marks.Case ((Decides-int_eq n k).0 e)
case_mark marks.Default k e = absurd (not_so refl e)

default_mark : (mark : Mark) → is_mark (mark_of mark) trees.Default ≡ true → mark ≡ marks.Default
default_mark (marks.Label l) e = absurd (not_so refl e)
default_mark (marks.Case n) e = absurd (not_so refl e)
default_mark marks.Default e = refl

module _ (a : CsStmt) (at : Pos) (k : ℕ) (is : a ≡ stmts.Label at k) where
  pub at_label : is_mark (mark_of (marks.Label k)) (csstmt_tree a) ≡ true
  at_label = rw (is, csstmt_label at k) (eq-eqb k k refl)

  pub label_only : (mark : Mark) → is_mark (mark_of mark) (csstmt_tree a) ≡ true → mark ≡ marks.Label k
  label_only mark e = label_mark mark at k (rw (is, csstmt_label at k) at e)

  pub label_number : (l : ℕ) → is_mark (AtLabel l) (csstmt_tree a) ≡ true → l ≡ k
  label_number l e = eqb-true l k (rw (is, csstmt_label at k) at e)

module _ (a : CsStmt) (k : ℤ) (is : a ≡ stmts.Case k) where
  pub at_case : is_mark (mark_of (marks.Case k)) (csstmt_tree a) ≡ true
  at_case = rw (is, csstmt_case k) ((Decides-int_eq k k).1 refl)

  pub case_only : (mark : Mark) → is_mark (mark_of mark) (csstmt_tree a) ≡ true → mark ≡ marks.Case k
  case_only mark e = case_mark mark k (rw (is, csstmt_case k) at e)

  pub case_no_label : (l : ℕ) → is_mark (AtLabel l) (csstmt_tree a) ≡ true → ⊥
  case_no_label l e = not_so refl (rw (is, csstmt_case k) at e)

module _ (a : CsStmt) (is : a ≡ stmts.Default) where
  pub at_default : is_mark (mark_of marks.Default) (csstmt_tree a) ≡ true
  at_default = rw (is, csstmt_default) refl

  pub default_only : (mark : Mark) → is_mark (mark_of mark) (csstmt_tree a) ≡ true → mark ≡ marks.Default
  default_only mark e = default_mark mark (rw (is, csstmt_default) at e)

  pub default_no_label : (l : ℕ) → is_mark (AtLabel l) (csstmt_tree a) ≡ true → ⊥
  default_no_label l e = not_so refl (rw (is, csstmt_default) at e)
